-- The first number that no cell holds.
use Rattle.std.proofs.Common.{◌≡◌, ℕ, ◌<◌, ◌≤◌, Bool, true, false, nat_eq, List, Some, None, Option, MatchOption, arith, rules, tests}
use Rattle.std.specs.Prelude.{Contains}
use Rattle.std.specs.List.{list_any}
use Rattle.std.proofs.lemmas.List.Folds.{list_any_at}
use Rattle.std.proofs.lemmas.Map.Views.{Contains-from_any}
use Rattle.frame.specs.Cells.{FirstMissing}

module _ (cs : List ℕ) where
  -- whether some cell holds the number v
  abbrev pub holds : ℕ → Bool
  holds v = list_any (λ c. nat_eq c v) cs

  found : (v : ℕ) → holds v ≡ true → Contains cs v
  found v e = Contains-from_any {eq = λ v c. nat_eq c v} (λ v c h. grind (arith, tests)) v cs e

  not_found : (v : ℕ) → holds v ≡ false → Contains cs v → ⊥
  not_found v e h = let f : holds v ≡ true = list_any_at (λ c. nat_eq c v) cs h.0 v h.1 (search (rules, tests, h.2)) in cc

  -- of the numbers from a on and below n, tried one by one, where a is 0
  pub first_missing : (a n : ℕ) (o : Option ℕ) →
      MatchOption o ((k : ℕ) → a ≤ k → k < n → holds k ≡ true) (λ i. (a ≤ i) × (i < n) × (holds i ≡ false) × ((k : ℕ) → a ≤ k → k < i → holds k ≡ true)) →
      a ≡ 0 → FirstMissing n cs o
  first_missing a n None all z = λ v l. found v (all v (omega arith) l)
  first_missing a n (Some m) f z = (f.1, not_found m f.2, λ v l. found v (f.3 v (omega arith) l))
