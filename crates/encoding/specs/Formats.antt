-- What it is for a format to be read as it is written. A format is given by which values fit it, their bytes, and what bytes are read as: a value, or the place of the first byte that does not fit. Assumes nothing: these are definitions.
use Rattle.std.specs.Prelude.{◌≡◌, ℕ, ◌+◌, ◌<◌, min, ◌⊎◌, List, ◌++◌, length, take, Ok, Err, Result, MatchResult, ◌==◌, nat_lt, slice_index}
use Rattle.slide.specs.Tiles.{pick}
use Rattle.encoding.specs.Bytes.{Bytes}

-- the value x where there are just n bytes; else the place where they end too early or go on
abbrev pub exactly : {X : Type 0} → List ℕ → ℕ → X → Result X ℕ
exactly bs n x = pick (length bs == n) (Ok x) (Err (min (length bs) n))

-- how many bytes there are where the first k tell how many follow, f; just k where not even these are there
abbrev pub sized : List ℕ → ℕ → ℕ → ℕ
sized bs k f = pick (nat_lt (length bs) k) k (k + f)

-- what bytes are read as of which the first tells how; none are nothing
abbrev pub by_first : {X : Type 0} → (ℕ → List ℕ → Result X ℕ) → List ℕ → Result X ℕ
by_first read bs = pick (length bs == 0) (Err 0) (read (slice_index bs 0) bs)

-- the bytes are what some value is written as
abbrev pub Writing : {X : Type 0} → (X → Type 0) → (X → List ℕ) → List ℕ → Type 0
Writing {X} fits bytes bs = (x : X) × fits x × (bytes x ≡ bs)

-- some writing begins with these bytes
abbrev pub Begins : (List ℕ → Type 0) → List ℕ → Type 0
Begins W bs = (rest : List ℕ) × W (bs ++ rest)

-- the bytes are no writing, and p is the place of the first that does not fit: a writing begins with those before it; and it is missing, or no writing begins with it too
abbrev pub StopsAt : (List ℕ → Type 0) → List ℕ → ℕ → Type 0
StopsAt W bs p = (W bs → ⊥) × Begins W (take p bs) × ((p ≡ length bs) ⊎ ((p < length bs) × (Begins W (take (p + 1) bs) → ⊥)))

-- what is written is read back as itself
abbrev pub ReadBack : {X : Type 0} → (X → Type 0) → (X → List ℕ) → (List ℕ → Result X ℕ) → Type 0
ReadBack {X} fits bytes read = (x : X) → fits x → read (bytes x) ≡ Ok x

-- bytes are the one writing of what they are read as, or they cease to be one at the place that is told
abbrev pub ValueOrPlace : {X : Type 0} → (X → Type 0) → (X → List ℕ) → (List ℕ → Result X ℕ) → Type 0
ValueOrPlace {X} fits bytes read =
    (bs : List ℕ) → Bytes bs → MatchResult (read bs)
    (λ x. fits x × (bytes x ≡ bs) × ((y : X) → fits y → bytes y ≡ bs → y ≡ x))
    (StopsAt (Writing fits bytes) bs)

-- two values are never written as the same bytes
abbrev pub ToldApart : {X : Type 0} → (X → Type 0) → (X → List ℕ) → Type 0
ToldApart {X} fits bytes = (x y : X) → fits x → fits y → bytes x ≡ bytes y → x ≡ y
