-- How often a number stands in a list: at which places, under an exchange, and the test that each number stands there once.
use Rattle.std.proofs.Common.{◌≡◌, ℕ, zero, suc, ◌<◌, ◌≤◌, eqb, Decides, ◌≢◌, List, [], ◌∷◌, length, get_or, sym, refl, inl, inr, arith}
use Rattle.std.proofs.lemmas.Bool.{cases_eq}
use Rattle.std.proofs.lemmas.Bool.Decides.{Decides-below_and, Decides-eqb, nat_tests}
use Rattle.slide.specs.Tiles.{pick, times_in, each_once}
use Rattle.slide.proofs.Exchange.{swap}
use Rattle.slide.proofs.Sums.{sum_swap}

-- 1 where they are the same number
abbrev pub is : ℕ → ℕ → ℕ
is c d = pick (eqb c d) 1 0

-- ---- places
-- a number that stands at a place stands there at least once
pub times_at : (v : ℕ) (cs : List ℕ) (i : ℕ) → i < length cs → v ≡ get_or cs i 0 → 1 ≤ times_in v cs
unfolding times_in
times_at v [] i l e = omega arith
times_at v (c ∷ cs) zero l e = grind (arith, nat_tests)
times_at v (c ∷ cs) (suc i) l e = omega (arith, times_at v cs i (omega arith) e)

-- at two places: at least twice
pub times_two : (v : ℕ) (cs : List ℕ) (i j : ℕ) → i < j → j < length cs → v ≡ get_or cs i 0 → v ≡ get_or cs j 0 → 2 ≤ times_in v cs
unfolding times_in
times_two v (c ∷ cs) zero (suc j) k l e d = grind (arith, nat_tests, times_at v cs j (omega arith) d)
times_two v (c ∷ cs) (suc i) (suc j) k l e d = omega (arith, times_two v cs i j (omega arith) (omega arith) e d)
times_two _ _ _ _ k l e d = omega arith

-- at no place: not at all
times_none : (v : ℕ) (cs : List ℕ) → ((i : ℕ) → i < length cs → v ≢ get_or cs i 0) → times_in v cs ≡ 0
unfolding times_in
times_none v [] n = refl
times_none v (c ∷ cs) n = grind (arith, nat_tests, n 0 (omega arith), times_none v cs (λ i l. n (suc i) (omega arith)))

-- where no two places hold the same: at most once
pub times_apart : (v : ℕ) (cs : List ℕ) → ((i j : ℕ) → i < j → j < length cs → get_or cs i 0 ≢ get_or cs j 0) → times_in v cs ≤ 1
unfolding times_in
times_apart v [] n = omega arith
times_apart v (c ∷ cs) n =
    elim (cases_eq v c) [
      | inl e ↦ grind (arith, nat_tests, times_none v cs (λ i l o. n 0 (suc i) (omega arith) (omega arith) (omega arith)))
      | inr o ↦ grind (arith, nat_tests, times_apart v cs (λ i j l h. n (suc i) (suc j) (omega arith) (omega arith)))
    ]

-- a number that occurs has a place
pub place_of : (v : ℕ) (cs : List ℕ) → 1 ≤ times_in v cs → (p : ℕ) × (p < length cs) × (get_or cs p 0 ≡ v)
unfolding times_in
place_of v [] h = absurd (omega arith)
place_of v (c ∷ cs) h =
    elim (cases_eq v c) [
      | inl e ↦ (0, omega arith, sym e)
      | inr n ↦ let r = place_of v cs (grind (arith, nat_tests)) in (suc r.0, omega (arith, r.1), r.2)
    ]

-- the test that each number below n stands in a list once decides just that
pub each_decides : (n : ℕ) (cs : List ℕ) → Decides (each_once n cs) ((v : ℕ) → v < n → times_in v cs ≡ 1)
unfolding each_once
each_decides n cs =
    Decides-below_and (λ v. eqb (times_in v cs) 1) (λ v. times_in v cs ≡ 1) (λ k. each_once k cs)
    (λ v. Decides-eqb (times_in v cs) 1) refl (λ _. refl) n

-- an exchange leaves every number as often as it was
pub times_swap : (x : ℕ) (cs : List ℕ) (i j : ℕ) → i < length cs → j < length cs → i ≢ j → times_in x (swap cs i j) ≡ times_in x cs
unfolding times_in
times_swap x cs i j hi hj n = omega (arith, sum_swap (λ _. times_in x) (λ _. is x) (λ _ c cs. refl) cs i j hi hj n)
