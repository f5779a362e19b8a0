-- Calls as bytes: read back as they are written, and where bytes cease to be a call.
use Rattle.std.proofs.Common.{◌≡◌, ℕ, zero, suc, ◌<◌, eqb, List, [], ◌∷◌, ◌++◌, length, get_or, drop, Err, MatchBool, refl, ap, subst, inl, arith, MatchResult}
use Rattle.std.proofs.lemmas.Bool.Decides.{nat_tests}
use Rattle.slide.specs.Calls as calls
use Rattle.encoding.specs.Bytes.{Bytes, two, twos, words}
use Rattle.encoding.specs.Formats.{Begins, StopsAt}
use Rattle.encoding.specs.CallBytes.{CallFits, call_bytes, CallWriting, read_call_by, read_call}
use Rattle.encoding.specs.Laws.{CallsReadBack, CallOrPlace, CallsToldApart}
use Rattle.encoding.proofs.Numbers.{words-twos}
use Rattle.encoding.proofs.Counted.{counted, by_count, counted_twos, twos_counted, nothing_else}
use Rattle.encoding.proofs.Stops.{Headed, nothing, headed_exactly, tagged_headed, tagged_alone, unknown_stops, read_first}
use Rattle.encoding.proofs.Values.{told_apart, value_or_place}

-- what follows the number of a call
abbrev Behind : List ℕ → Type 0
Behind [] = ⊥
Behind (k ∷ bs) =
    MatchBool (eqb k 0) (Headed 2 counted bs)
    (MatchBool (eqb k 1) (Headed 1 nothing bs)
    (MatchBool (eqb k 2) (Headed 0 nothing bs)
    (MatchBool (eqb k 3) (Headed 0 nothing bs)
    (MatchBool (eqb k 4) (Headed 0 nothing bs) ⊥))))

-- each call has behind its number what such calls have
behind : (c : calls.Call) → CallFits c → Behind (call_bytes c)
behind (calls.lays cs) f = counted_twos cs f.0
behind (calls.moves m) f = (omega arith, omega arith, (f, tt))
behind calls.shows f = (omega arith, omega arith, tt)
behind calls.solves f = (omega arith, omega arith, tt)
behind calls.shortest f = (omega arith, omega arith, tt)
behind (calls.garbled p) f = f

-- and so has each row of bytes that is a call
written_behind : (bs : List ℕ) → CallWriting bs → Behind bs
written_behind bs w = subst Behind w.2 (behind w.0 w.1)

-- no call has another number
unknown_call : (k : ℕ) → 4 < k → (bs : List ℕ) → CallWriting (k ∷ bs) → ⊥
unknown_call k h bs w = let b = written_behind (k ∷ bs) w in grind (arith, nat_tests)

-- there are calls
some_call : Begins CallWriting []
some_call = (2 ∷ [], (calls.shows, tt, refl))

-- nothing is read of bytes with another number
read_unknown : (k : ℕ) → 4 < k → (bs : List ℕ) → read_call (k ∷ bs) ≡ Err 0
read_unknown k h bs = grind (arith, nat_tests)

-- a call that fits and is written so
abbrev Whole : calls.Call → List ℕ → Type 0
Whole c bs = CallFits c × (call_bytes c ≡ bs)

-- a count and so many cells behind 0 are a lay
lay_whole : (bs : List ℕ) → Headed 2 counted bs → Whole (calls.lays (words (drop 2 bs))) (0 ∷ bs)
lay_whole bs h = let r = twos_counted bs h in ((r.0, r.1), ap (λ cs. 0 ∷ cs) r.2)

-- a byte behind 1 is a move
move_whole : (bs : List ℕ) → Headed 1 nothing bs → Whole (calls.moves (get_or bs 0 0)) (1 ∷ bs)
move_whole [] h = absurd (omega (arith, h.0))
move_whole (m ∷ []) h = (h.2.0, refl)
move_whole (m ∷ a ∷ bs) h = absurd (omega (arith, h.1))

-- bytes as what a call is written as, or where they cease to be
call_somewhere : (bs : List ℕ) → Bytes bs → MatchResult (read_call bs) (λ c. Whole c bs) (StopsAt CallWriting bs)
call_somewhere [] b = (written_behind [], some_call, inl refl)
call_somewhere (zero ∷ bs) b =
    rw (read_first read_call_by 0 bs)
    (tagged_headed CallFits call_bytes 0 2 counted by_count (λ cs. calls.lays (words (drop 2 cs))) lay_whole (λ cs. written_behind (0 ∷ cs)) bs b.1)
call_somewhere (suc zero ∷ bs) b =
    rw (read_first read_call_by 1 bs)
    (tagged_alone CallFits call_bytes 1 1 (λ cs. calls.moves (get_or cs 0 0)) move_whole (λ cs. written_behind (1 ∷ cs)) bs b.1)
call_somewhere (suc (suc zero) ∷ bs) b =
    rw (read_first read_call_by 2 bs)
    (tagged_alone CallFits call_bytes 2 0 (λ _. calls.shows) (λ cs h. (tt, nothing_else 2 cs h)) (λ cs. written_behind (2 ∷ cs)) bs b.1)
call_somewhere (suc (suc (suc zero)) ∷ bs) b =
    rw (read_first read_call_by 3 bs)
    (tagged_alone CallFits call_bytes 3 0 (λ _. calls.solves) (λ cs h. (tt, nothing_else 3 cs h)) (λ cs. written_behind (3 ∷ cs)) bs b.1)
call_somewhere (suc (suc (suc (suc zero))) ∷ bs) b =
    rw (read_first read_call_by 4 bs)
    (tagged_alone CallFits call_bytes 4 0 (λ _. calls.shortest) (λ cs h. (tt, nothing_else 4 cs h)) (λ cs. written_behind (4 ∷ cs)) bs b.1)
call_somewhere (suc (suc (suc (suc (suc k)))) ∷ bs) b =
    let h : 4 < suc (suc (suc (suc (suc k)))) = omega arith in
    rw (read_unknown (suc (suc (suc (suc (suc k))))) h bs)
    (unknown_stops CallWriting (suc (suc (suc (suc (suc k))))) bs some_call (unknown_call (suc (suc (suc (suc (suc k))))) h))

-- the laws of calls
pub calls_read_back : CallsReadBack
calls_read_back (calls.lays cs) f =
    rw (read_first read_call_by 0 (two (length cs) ++ twos cs), headed_exactly 0 2 counted (two (length cs) ++ twos cs) (calls.lays (words (twos cs))) (counted_twos cs f.0), words-twos cs f.1)
calls_read_back (calls.moves m) f = refl
calls_read_back calls.shows f = refl
calls_read_back calls.solves f = refl
calls_read_back calls.shortest f = refl
calls_read_back (calls.garbled p) f = absurd f

pub calls_told_apart : CallsToldApart
calls_told_apart = told_apart CallFits call_bytes read_call calls_read_back

pub call_or_place : CallOrPlace
call_or_place = value_or_place CallFits call_bytes read_call calls_read_back call_somewhere
