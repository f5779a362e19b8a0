-- The gap of a list is the first 0 in it.
use Rattle.std.proofs.Common.{◌≡◌, ℕ, zero, suc, ◌<◌, ◌≤◌, ◌≢◌, List, [], ◌∷◌, length, get_or, refl, arith}
use Rattle.std.proofs.lemmas.Bool.Decides.{nat_tests}
use Rattle.slide.specs.Tiles.{gap_in}
use Rattle.slide.proofs.Exchange.{swap, swap_first, swap_other}

-- 0 stands at the gap, and past the end too, where the list has none
pub gap_zero : (cs : List ℕ) → get_or cs (gap_in cs) 0 ≡ 0
unfolding gap_in
gap_zero [] = refl
gap_zero (c ∷ cs) = grind (arith, nat_tests, gap_zero cs)

-- no 0 stands before it
pub gap_le : (cs : List ℕ) (p : ℕ) → p < length cs → get_or cs p 0 ≡ 0 → gap_in cs ≤ p
unfolding gap_in
gap_le [] p l e = omega arith
gap_le (c ∷ cs) zero l e = grind (arith, nat_tests)
gap_le (c ∷ cs) (suc p) l e = grind (arith, nat_tests, gap_le cs p)

-- where a 0 stands, and nowhere else, there is the gap
pub gap_is : (cs : List ℕ) (p : ℕ) → p < length cs → get_or cs p 0 ≡ 0 → ((q : ℕ) → q < length cs → get_or cs q 0 ≡ 0 → q ≡ p) → gap_in cs ≡ p
gap_is cs p l e u = u (gap_in cs) (omega (arith, gap_le cs p l e)) (gap_zero cs)

-- where the first 0 stands
pub gap_first : (cs : List ℕ) (p : ℕ) → p < length cs → get_or cs p 0 ≡ 0 → ((q : ℕ) → q < p → get_or cs q 0 ≢ 0) → gap_in cs ≡ p
gap_first cs p l e n = grind (arith, gap_zero cs, gap_le cs p l e, n (gap_in cs))

-- at most past the end, and there where no 0 stands
pub gap_length : (cs : List ℕ) → gap_in cs ≤ length cs
unfolding gap_in
gap_length [] = omega arith
gap_length (c ∷ cs) = grind (arith, nat_tests, gap_length cs)

pub gap_none : (cs : List ℕ) → ((q : ℕ) → q < length cs → get_or cs q 0 ≢ 0) → gap_in cs ≡ length cs
gap_none cs n = grind (arith, gap_zero cs, gap_length cs, n (gap_in cs))

-- the one 0, at i, goes to j
pub swap_zero : (cs : List ℕ) (i j : ℕ) → i < length cs → j < length cs → i ≢ j → ((q : ℕ) → q < length cs → get_or cs q 0 ≡ 0 → q ≡ i) →
    (q : ℕ) → q < length cs → get_or (swap cs i j) q 0 ≡ 0 → q ≡ j
swap_zero cs i j hi hj n u q l o = grind (arith, swap_first cs i j hi n, swap_other cs i j q, u j hj, u q l)
