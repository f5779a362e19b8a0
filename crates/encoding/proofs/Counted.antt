-- A count in two bytes and so many numbers in two bytes each; and nothing at all.
use Rattle.std.proofs.Common.{◌≡◌, ℕ, ◌+◌, ◌*◌, ◌%◌, ◌<◌, List, [], ◌∷◌, ◌++◌, length, drop, refl, arith}
use Rattle.std.specs.List.{AllByRecursion}
use Rattle.encoding.specs.Bytes.{two, twos, two_at, words}
use Rattle.encoding.proofs.Numbers.{two_value, low_byte, length-twos, Bytes-twos, twos-words}
use Rattle.encoding.proofs.Stops.{Headed, ByHead, nothing}

-- how many bytes follow the count
abbrev pub counted : List ℕ → ℕ
counted bs = 2 * two_at bs 0

-- which does not depend on what stands behind it
pub by_count : ByHead 2 counted
by_count [] rest h = absurd (omega arith)
by_count (a ∷ []) rest h = absurd (omega arith)
by_count (a ∷ b ∷ bs) rest h = refl

-- numbers with their count before them are such bytes
pub counted_twos : (ns : List ℕ) → length ns < 65536 → Headed 2 counted (two (length ns) ++ twos ns)
counted_twos ns h =
    let l = length-twos ns in
    let v = two_value (length ns) h in
    (omega arith, omega arith, (omega arith, (omega arith, Bytes-twos ns)))

-- and such bytes are numbers with their count before them
pub twos_counted : (bs : List ℕ) → Headed 2 counted bs →
    (length (words (drop 2 bs)) < 65536) × AllByRecursion (λ c. c < 65536) (words (drop 2 bs)) × (two (length (words (drop 2 bs))) ++ twos (words (drop 2 bs)) ≡ bs)
twos_counted [] h = absurd (omega (arith, h.0))
twos_counted (a ∷ []) h = absurd (omega (arith, h.0))
twos_counted (a ∷ b ∷ bs) h =
    let s = h.2.0 in
    let t = h.2.1.0 in
    let r = twos-words bs (a + b * 256) h.2.1.1 (omega (arith, h.1)) in
    let l = low_byte a b s in
    let e : b % 256 ≡ b = omega arith in
    (omega (arith, r.1), r.2, rw (r.1, r.0, l.0, l.1, e))

-- nothing follows
pub nothing_else : (k : ℕ) (bs : List ℕ) → Headed 0 nothing bs → k ∷ [] ≡ k ∷ bs
nothing_else k [] h = refl
nothing_else k (a ∷ bs) h = absurd (omega (arith, h.1))
