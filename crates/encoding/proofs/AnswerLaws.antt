-- Answers as bytes: read back as they are written, and where bytes cease to be an answer.
use Rattle.std.proofs.Common.{◌≡◌, ℕ, zero, suc, ◌+◌, ◌*◌, ◌<◌, eqb, List, [], ◌∷◌, ◌++◌, length, drop, Ok, Err, MatchBool, refl, ap, ◌∙◌, subst, inl, arith, MatchResult}
use Rattle.std.proofs.lemmas.Bool.Decides.{nat_tests}
use Rattle.slide.specs.Calls as calls
use Rattle.encoding.specs.Bytes.{Bytes, two, four, twos, two_at, four_at, words}
use Rattle.encoding.specs.Formats.{Begins, StopsAt}
use Rattle.encoding.specs.AnswerBytes.{AnswerFits, answer_bytes, AnswerWriting, misfit, read_answer_by, read_answer}
use Rattle.encoding.specs.Laws.{AnswersReadBack, AnswerOrPlace, AnswersToldApart}
use Rattle.encoding.proofs.Numbers.{two_value, two_of, four_value, four_of, words-twos}
use Rattle.encoding.proofs.Stops.{Headed, ByHead, nothing, headed_exactly, tagged_headed, tagged_alone, by_exactly, unknown_stops, read_first}
use Rattle.encoding.proofs.Counted.{counted, by_count, counted_twos, twos_counted, nothing_else}
use Rattle.encoding.proofs.Refusals.{Refusing, refusal_small, refused_refusing, refusing_whole, refusing_misfit, misfit_refusing, refusing_stops}
use Rattle.encoding.proofs.Values.{told_apart, value_or_place}

-- an answer that fits and is written so
abbrev Whole : calls.Answer → List ℕ → Type 0
Whole a bs = AnswerFits a × (answer_bytes a ≡ bs)

-- how many moves a way has, by the four bytes before them
abbrev moves_told : List ℕ → ℕ
moves_told bs = four_at bs 0

-- which does not depend on what stands behind them
by_four : ByHead 4 moves_told
by_four [] rest h = absurd (omega arith)
by_four (a ∷ []) rest h = absurd (omega arith)
by_four (a ∷ b ∷ []) rest h = absurd (omega arith)
by_four (a ∷ b ∷ c ∷ []) rest h = absurd (omega arith)
by_four (a ∷ b ∷ c ∷ d ∷ bs) rest h = refl

-- what follows the number of an answer
abbrev Behind : List ℕ → Type 0
Behind [] = ⊥
Behind (k ∷ bs) =
    MatchBool (eqb k 0) (Refusing (k ∷ bs))
    (MatchBool (eqb k 1) (Headed 2 nothing bs)
    (MatchBool (eqb k 2) (Headed 2 counted bs)
    (MatchBool (eqb k 3) (Headed 4 moves_told bs)
    (MatchBool (eqb k 4) (Headed 0 nothing bs) ⊥))))

-- each answer has behind its number what such answers have
behind : (a : calls.Answer) → AnswerFits a → Behind (answer_bytes a)
behind (calls.refused k p) f = refused_refusing k p f
behind (calls.number n) f = (omega arith, omega arith, (omega arith, (omega arith, tt)))
behind (calls.cells cs) f = counted_twos cs f.0
behind (calls.way ms) f =
    let v = four_value (length ms) f.0 in
    (omega arith, omega arith, (omega arith, (omega arith, (omega arith, (omega arith, f.1)))))
behind calls.never f = (omega arith, omega arith, tt)

-- and so has each row of bytes that is an answer
written_behind : (bs : List ℕ) → AnswerWriting bs → Behind bs
written_behind bs w = subst Behind w.2 (behind w.0 w.1)

-- no answer has another number
unknown_answer : (k : ℕ) → 4 < k → (bs : List ℕ) → AnswerWriting (k ∷ bs) → ⊥
unknown_answer k h bs w = let b = written_behind (k ∷ bs) w in grind (arith, nat_tests)

-- there are answers
some_answer : Begins AnswerWriting []
some_answer = (4 ∷ [], (calls.never, tt, refl))

-- nothing is read of bytes with another number
read_unknown : (k : ℕ) → 4 < k → (bs : List ℕ) → read_answer (k ∷ bs) ≡ Err 0
read_unknown k h bs = grind (arith, nat_tests)

-- two bytes behind 1 are a number
number_whole : (bs : List ℕ) → Headed 2 nothing bs → Whole (calls.number (two_at bs 0)) (1 ∷ bs)
number_whole [] h = absurd (omega (arith, h.0))
number_whole (a ∷ []) h = absurd (omega (arith, h.0))
number_whole (a ∷ b ∷ []) h = (omega (arith, h.2.0, h.2.1.0), ap (λ (x : List ℕ). 1 ∷ x) (two_of a b h.2.0 h.2.1.0))
number_whole (a ∷ b ∷ c ∷ bs) h = absurd (omega (arith, h.1))

-- a count and so many cells behind 2 are cells
cells_whole : (bs : List ℕ) → Headed 2 counted bs → Whole (calls.cells (words (drop 2 bs))) (2 ∷ bs)
cells_whole bs h = let r = twos_counted bs h in ((r.0, r.1), ap (λ cs. 2 ∷ cs) r.2)

-- a count and so many moves behind 3 are a way
way_whole : (bs : List ℕ) → Headed 4 moves_told bs → Whole (calls.way (drop 4 bs)) (3 ∷ bs)
way_whole [] h = absurd (omega (arith, h.0))
way_whole (a ∷ []) h = absurd (omega (arith, h.0))
way_whole (a ∷ b ∷ []) h = absurd (omega (arith, h.0))
way_whole (a ∷ b ∷ c ∷ []) h = absurd (omega (arith, h.0))
way_whole (a ∷ b ∷ c ∷ d ∷ ms) h =
    let y = h.2 in
    let n : length ms ≡ a + b * 256 + c * 65536 + d * 16777216 = omega (arith, h.1) in
    let u = four_of a b c d y.0 y.1.0 y.1.1.0 y.1.1.1.0 in (
      (omega (arith, y.0, y.1.0, y.1.1.0, y.1.1.1.0), y.1.1.1.1),
      ap (λ (k : ℕ). 3 ∷ (four k ++ ms)) n ∙ ap (λ (x : List ℕ). 3 ∷ (x ++ ms)) u,
    )

-- bytes as what an answer is written as, or where they cease to be
answer_somewhere : (bs : List ℕ) → Bytes bs → MatchResult (read_answer bs) (λ a. Whole a bs) (StopsAt AnswerWriting bs)
answer_somewhere [] b = (written_behind [], some_answer, inl refl)
answer_somewhere (zero ∷ bs) b =
    rw (read_first read_answer_by 0 bs)
    (by_exactly (0 ∷ bs) (misfit (0 ∷ bs) 1 6) (calls.refused (two_at (0 ∷ bs) 1) (four_at (0 ∷ bs) 3)) (λ a. Whole a (0 ∷ bs)) (StopsAt AnswerWriting (0 ∷ bs))
    (λ e. refusing_whole (0 ∷ bs) (misfit_refusing bs b.1 e))
    (refusing_stops AnswerWriting (λ cs h. (calls.refused (two_at cs 1) (four_at cs 3), (refusing_whole cs h).0, (refusing_whole cs h).1)) (λ cs. written_behind (0 ∷ cs)) bs b.1))
answer_somewhere (suc zero ∷ bs) b =
    rw (read_first read_answer_by 1 bs)
    (tagged_alone AnswerFits answer_bytes 1 2 (λ cs. calls.number (two_at cs 0)) number_whole (λ cs. written_behind (1 ∷ cs)) bs b.1)
answer_somewhere (suc (suc zero) ∷ bs) b =
    rw (read_first read_answer_by 2 bs)
    (tagged_headed AnswerFits answer_bytes 2 2 counted by_count (λ cs. calls.cells (words (drop 2 cs))) cells_whole (λ cs. written_behind (2 ∷ cs)) bs b.1)
answer_somewhere (suc (suc (suc zero)) ∷ bs) b =
    rw (read_first read_answer_by 3 bs)
    (tagged_headed AnswerFits answer_bytes 3 4 moves_told by_four (λ cs. calls.way (drop 4 cs)) way_whole (λ cs. written_behind (3 ∷ cs)) bs b.1)
answer_somewhere (suc (suc (suc (suc zero))) ∷ bs) b =
    rw (read_first read_answer_by 4 bs)
    (tagged_alone AnswerFits answer_bytes 4 0 (λ _. calls.never) (λ cs h. (tt, nothing_else 4 cs h)) (λ cs. written_behind (4 ∷ cs)) bs b.1)
answer_somewhere (suc (suc (suc (suc (suc k)))) ∷ bs) b =
    let h : 4 < suc (suc (suc (suc (suc k)))) = omega arith in
    rw (read_unknown (suc (suc (suc (suc (suc k))))) h bs)
    (unknown_stops AnswerWriting (suc (suc (suc (suc (suc k))))) bs some_answer (unknown_answer (suc (suc (suc (suc (suc k))))) h))

-- the laws of answers
pub answers_read_back : AnswersReadBack
answers_read_back (calls.refused k p) f =
    let m = refusing_misfit (0 ∷ (two k ++ four p)) (refused_refusing k p f) in
    rw (m, two_value k (refusal_small k p f.0), four_value p f.1)
answers_read_back (calls.number n) f = ap (λ (m : ℕ). Ok (calls.number m)) (two_value n f)
answers_read_back (calls.cells cs) f =
    rw (read_first read_answer_by 2 (two (length cs) ++ twos cs), headed_exactly 2 2 counted (two (length cs) ++ twos cs) (calls.cells (words (twos cs))) (counted_twos cs f.0), words-twos cs f.1)
answers_read_back (calls.way ms) f =
    rw (read_first read_answer_by 3 (four (length ms) ++ ms), headed_exactly 3 4 moves_told (four (length ms) ++ ms) (calls.way ms) (behind (calls.way ms) f))
answers_read_back calls.never f = refl

pub answers_told_apart : AnswersToldApart
answers_told_apart = told_apart AnswerFits answer_bytes read_answer answers_read_back

pub answer_or_place : AnswerOrPlace
answer_or_place = value_or_place AnswerFits answer_bytes read_answer answers_read_back answer_somewhere
