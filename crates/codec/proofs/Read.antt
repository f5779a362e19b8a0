-- What was read is what the bytes are written from, or they cease to be a writing where it says.
use Rattle.std.proofs.Common.{◌≡◌, ℕ, ◌<◌, List, get_or, Ok, Err, Result, sym, subst, arith, w8, Fits, MatchResult}
use Rattle.std.proofs.ByRecursion.{All-from_get_or}
use Rattle.encoding.specs.Bytes.{Bytes}
use Rattle.encoding.specs.Formats.{Writing, StopsAt, ValueOrPlace}
use Rattle.codec.specs.declared.misread.Misread.{Misread}
use Rattle.codec.specs.Meaning.{as_read}

-- what lies in a slice of bytes are bytes
pub bytes_of : (bs : List ℕ) → ((i : ℕ) → Fits w8 (get_or bs i 0)) → Bytes bs
bytes_of bs h = All-from_get_or (λ b. b < 256) bs 0 (λ i l. omega (arith, h i))

-- the law of a format, of what the code has read by it
pub read_law : {X Y : Type 0} (fits : Y → Type 0) (bytes : Y → List ℕ) (read : List ℕ → Result Y ℕ) → ValueOrPlace fits bytes read → (mean : X → Y) (bs : List ℕ) → ((i : ℕ) → Fits w8 (get_or bs i 0)) →
    (r : Result X Misread) → as_read mean r ≡ read bs → MatchResult r (λ x. fits (mean x) × (bytes (mean x) ≡ bs)) (λ e. StopsAt (Writing fits bytes) bs e.place)
read_law {X} {Y} fits bytes read law mean bs b r e = by r (subst (λ q. MatchResult q One (StopsAt (Writing fits bytes) bs)) (sym e) (law bs (bytes_of bs b)))
  where
    One : Y → Type 0
    One y = fits y × (bytes y ≡ bs) × ((z : Y) → fits z → bytes z ≡ bs → z ≡ y)

    by : (q : Result X Misread) → MatchResult (as_read mean q) One (StopsAt (Writing fits bytes) bs) → MatchResult q (λ x. fits (mean x) × (bytes (mean x) ≡ bs)) (λ e. StopsAt (Writing fits bytes) bs e.place)
    by (Ok x) h = (h.0, h.1)
    by (Err e) h = h
