-- What answers leave in lent bytes, from the first on.
use Rattle.std.proofs.Common.{◌≡◌, ℕ, ◌+◌, ◌-◌, ◌*◌, ◌<◌, ◌≤◌, List, [], ◌∷◌, ◌++◌, length, get_or, take, drop, set, Ok, refl, subst, arith, w8, w16, Fits}
use borrow.Rule.Slice.PartMut.{put_mid}
use Rattle.std.specs.List.{AllByRecursion}
use Rattle.std.proofs.ByRecursion.{All-from_get_or, All-take}
use Rattle.std.proofs.lemmas.List.{length-take-le, length-drop, take-append-drop, take_at, drop-drop}
use Rattle.slide.specs.Calls as calls
use Rattle.encoding.specs.Bytes.{Bytes, two, four, twos}
use Rattle.encoding.specs.AnswerBytes.{AnswerFits, answer_bytes, read_answer}
use Rattle.encoding.proofs.Numbers.{length-twos}
use Rattle.encoding.proofs.AnswerLaws.{answers_read_back}
use Rattle.codec.specs.declared.answer.Answer.{Answer}
use Rattle.codec.specs.declared.answer.Answer.TheVariants.{Refused, Number, Cells, Way, Never}
use Rattle.codec.specs.Meaning.{told, size}
use Rattle.codec.proofs.Read.{bytes_of}

-- the number of a way and the count of its moves, before moves that stand there already
pub way_written : (out count : List ℕ) (n : ℕ) → 5 + n ≤ length out → count ≡ four n →
    put_mid 1 4 (set out 0 3) count ≡ answer_bytes (calls.way (take n (drop 5 out))) ++ drop (5 + n) out
way_written [] count n h is = absurd (omega arith)
way_written (a ∷ out) count n h is =
    let l : length (take n (drop 4 out)) ≡ n = length-take-le n (drop 4 out) (omega (arith, length-drop 4 out)) in
    let s = take-append-drop n (drop 4 out) in
    let past = drop-drop n 5 (a ∷ out) in
    rw (is, l, ← past, s)

-- the number of cells, their count and the cells
pub cells_written : (out count bytes cs : List ℕ) → 3 + 2 * length cs ≤ length out → count ≡ two (length cs) → bytes ≡ twos cs →
    put_mid 3 (3 + 2 * length cs - 3) (put_mid 1 2 (set out 0 2) count) bytes ≡ answer_bytes (calls.cells cs) ++ drop (3 + 2 * length cs) out
cells_written [] count bytes cs h is all = absurd (omega arith)
cells_written (a ∷ out) count bytes cs h is all =
    let past = drop-drop (2 * length cs) 3 (a ∷ out) in
    let e : 3 + 2 * length cs - 3 ≡ 2 * length cs = omega arith in
    rw (is, all, e, ← past)

-- how long an answer's bytes are, where there is room for its moves
length_told : (a : Answer) (cs out : List ℕ) → size a (length cs) ≤ length out → length (answer_bytes (told a cs out)) ≡ size a (length cs)
length_told (Refused e) cs out h = refl
length_told (Number n) cs out h = refl
length_told Cells cs out h = omega (arith, length-twos cs)
length_told (Way n) cs out h =
    let d = length-drop 5 out in
    let l = length-take-le n (drop 5 out) (omega arith) in
    omega arith
length_told Never cs out h = refl

-- what is written is read back as the answer
pub read_again : (a : Answer) (cs out after : List ℕ) → size a (length cs) ≤ length out → AnswerFits (told a cs out) →
    after ≡ answer_bytes (told a cs out) ++ drop (size a (length cs)) out → read_answer (take (size a (length cs)) after) ≡ Ok (told a cs out)
read_again a cs out after h f e =
    let t = take_at (answer_bytes (told a cs out)) (drop (size a (length cs)) out) (size a (length cs)) (length_told a cs out h) in
    rw (e, t) (answers_read_back (told a cs out) f)

-- cells that lie in a slice of numbers of two bytes fit these
pub cells_fit : (cs : List ℕ) → ((i : ℕ) → Fits w16 (get_or cs i 0)) → AllByRecursion (λ c. c < 65536) cs
cells_fit cs h = All-from_get_or (λ c. c < 65536) cs 0 (λ i l. omega (arith, h i))

-- the moves of a way are bytes
pub moves_fit : (out after : List ℕ) (n : ℕ) → ((i : ℕ) → Fits w8 (get_or after i 0)) → after ≡ answer_bytes (calls.way (take n (drop 5 out))) ++ drop (5 + n) out → Bytes (take n (drop 5 out))
moves_fit out after n h e =
    let ms = take n (drop 5 out) in
    let b = subst Bytes e (bytes_of after h) in
    subst Bytes (take_at ms (drop (5 + n) out) (length ms) refl) (All-take (λ c. c < 256) (length ms) (ms ++ drop (5 + n) out) b.1.1.1.1.1)
