-- What follows for every format that is read back as it is written.
use Rattle.std.proofs.Common.{◌≡◌, ℕ, List, Result, sym, ap, ◌∙◌, MatchResult}
use Rattle.std.proofs.lemmas.Result.{MatchResult-weaker}
use Rattle.encoding.specs.Bytes.{Bytes}
use Rattle.encoding.specs.Formats.{Writing, StopsAt, ReadBack, ValueOrPlace, ToldApart}

-- what is read back is told apart
pub told_apart : {X : Type 0} (fits : X → Type 0) (bytes : X → List ℕ) (read : List ℕ → Result X ℕ) → ReadBack fits bytes read → ToldApart fits bytes
told_apart fits bytes read back x y f g e =
    let a = back x f in
    let b = back y g in
    let c = ap read e in
    cc

-- and its writing is the only one
pub value_or_place : {X : Type 0} (fits : X → Type 0) (bytes : X → List ℕ) (read : List ℕ → Result X ℕ) → ReadBack fits bytes read →
    ((bs : List ℕ) → Bytes bs → MatchResult (read bs) (λ x. fits x × (bytes x ≡ bs)) (StopsAt (Writing fits bytes) bs)) → ValueOrPlace fits bytes read
value_or_place fits bytes read back some bs b =
    MatchResult-weaker (read bs) (some bs b)
    (λ x h. (h.0, h.1, λ y g e. told_apart fits bytes read back y x g h.0 (e ∙ sym h.1)))
    (λ p s. s)
