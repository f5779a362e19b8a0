-- Sums over a list of what each element adds at its place: one place written, and two exchanged.
use Rattle.std.proofs.Common.{◌≡◌, ℕ, zero, suc, ◌+◌, ◌<◌, List, [], ◌∷◌, length, get_or, set, sym, arith}
use Rattle.std.proofs.lemmas.List.{length-set, get_or-set_other}
use Rattle.slide.proofs.Exchange.{swap}

-- F o adds up what φ says of the elements of a list that begins at the place o
module _ (F : ℕ → List ℕ → ℕ) (φ : ℕ → ℕ → ℕ) (more : (o c : ℕ) (cs : List ℕ) → F o (c ∷ cs) ≡ φ o c + F (suc o) cs) where
  -- one place written, which is p in all: what it added before goes, and what it adds now comes
  pub sum_set : (cs : List ℕ) (o i p v : ℕ) → p ≡ o + i → i < length cs → F o (set cs i v) + φ p (get_or cs i 0) ≡ F o cs + φ p v
  sum_set [] o i p v e h = omega arith
  sum_set (c ∷ cs) o zero p v e h = let k : p ≡ o = omega arith in rw k (omega (arith, more o v cs, more o c cs))
  sum_set (c ∷ cs) o (suc i) p v e h =
      omega (arith, sum_set cs (suc o) i p v (omega arith) (omega arith), more o c (set cs i v), more o c cs)

  -- two places exchanged: only what these two add changes
  pub sum_swap : (cs : List ℕ) (i j : ℕ) → i < length cs → j < length cs → (i ≡ j → ⊥) →
      F 0 (swap cs i j) + φ i (get_or cs i 0) + φ j (get_or cs j 0) ≡ F 0 cs + φ i (get_or cs j 0) + φ j (get_or cs i 0)
  sum_swap cs i j hi hj n =
      let e = get_or-set_other cs i j (get_or cs j 0) 0 (λ e. n (sym e)) in
      let q = sum_set (set cs i (get_or cs j 0)) 0 j j (get_or cs i 0) (omega arith) (rw length-set hj) in
      omega (arith, sum_set cs 0 i i (get_or cs j 0) (omega arith) hi, rw e at q)
