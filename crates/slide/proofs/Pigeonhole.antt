-- The pigeonhole principle: n places that hold each number below n once hold nothing else, and n places that hold different numbers below n hold them all.
use Rattle.std.proofs.Common.{◌≡◌, ℕ, zero, suc, ◌+◌, ◌<◌, ◌≤◌, true, ltb, eqb, ◌≢◌, List, [], ◌∷◌, length, get_or, sym, refl, ◌∙◌, inl, inr, remove, arith}
use Rattle.std.specs.List.{list_any}
use Rattle.std.proofs.lemmas.Bool.{lt-ltb, ltb-true, eqb-true, ne_eqb, cases_lt, cases_order, or_cases}
use Rattle.std.proofs.lemmas.Bool.Decides.{nat_tests}
use Rattle.std.proofs.lemmas.List.{get_or_default}
use Rattle.std.proofs.lemmas.List.Edits.{length-remove}
use Rattle.std.proofs.lemmas.List.Recursion.{is_sum_by}
use Rattle.std.proofs.lemmas.List.Sums.{sum_by-remove}
use Rattle.std.proofs.lemmas.Map.Keys.{IsDistinct-from_apart}
use Rattle.std.proofs.lemmas.Map.Steps.{le-length_from_below, length-le_from_distinct_below}
use Rattle.slide.specs.Tiles.{times_in}
use Rattle.slide.proofs.Exchange.{swap, swap_length}
use Rattle.slide.proofs.Counts.{is, times_at, times_two, times_apart, place_of, times_swap}

-- whether a number stands in a list
stands : (v : ℕ) (cs : List ℕ) → list_any (eqb v) cs ≡ ltb 0 (times_in v cs)
unfolding times_in
stands v [] = refl
stands v (c ∷ cs) = grind (arith, nat_tests, stands v cs)

-- how often, without one of its places
times_remove : (v : ℕ) (cs : List ℕ) (i : ℕ) → i < length cs → times_in v (remove cs i) + is v (get_or cs i 0) ≡ times_in v cs
unfolding times_in
times_remove v cs i l =
    let s = is_sum_by (times_in v) (is v) refl (λ _ _. refl) in
    rw (s (remove cs i), s cs) (sum_by-remove (is v) cs i 0 l)

-- ---- n places that hold each number below n once
pub record Once (n : ℕ) (cs : List ℕ) : Type 0 where
  pub long : length cs ≡ n
  pub once : (v : ℕ) → v < n → times_in v cs ≡ 1

-- all of them are below n: without one that is not, fewer places would hold each number below n
pub once_low : (n : ℕ) (cs : List ℕ) → Once n cs → (i : ℕ) → i < n → get_or cs i 0 < n
once_low n cs o i l =
    elim (cases_lt (get_or cs i 0) n) [
      | inl h ↦ h
      | inr h ↦ absurd (omega (arith, le-length_from_below (remove cs i) n (others h), length-remove cs i (omega arith)))
    ]
  where
    others : n ≤ get_or cs i 0 → (q : ℕ) → q < n → list_any (eqb q) (remove cs i) ≡ true
    others h q k =
        let z : is q (get_or cs i 0) ≡ 0 = rw (ne_eqb q (get_or cs i 0) (omega arith)) in
        stands q (remove cs i) ∙ lt-ltb 0 (times_in q (remove cs i)) (omega (arith, times_remove q cs i (omega arith), o.once q k))

-- no two are the same
pub once_apart : (n : ℕ) (cs : List ℕ) → Once n cs → (i j : ℕ) → i < n → j < n → get_or cs i 0 ≡ get_or cs j 0 → i ≡ j
once_apart n cs o i j hi hj e =
    let v = get_or cs i 0 in
    let u = o.once v (once_low n cs o i hi) in
    elim (cases_order i j) [
      | inl q ↦ q
      | inr (inl q) ↦ omega (arith, times_two v cs i j q (omega arith) refl e)
      | inr (inr q) ↦ omega (arith, times_two v cs j i q (omega arith) e refl)
    ]

-- each number below n has a place
pub once_place : (n : ℕ) (cs : List ℕ) → Once n cs → (v : ℕ) → v < n → (p : ℕ) × (p < n) × (get_or cs p 0 ≡ v)
once_place n cs o v l = let r = place_of v cs (omega (arith, o.once v l)) in (r.0, omega (arith, r.1, o.long), r.2)

-- an exchange leaves it so
pub once_swap : (n : ℕ) (cs : List ℕ) → Once n cs → (i j : ℕ) → i < n → j < n → i ≢ j → Once n (swap cs i j)
once_swap n cs o i j hi hj ne =
    record {
      long = swap_length cs i j ∙ o.long;
      once = λ v l. times_swap v cs i j (omega arith) (omega arith) ne ∙ o.once v l;
    }

-- and n places that hold different numbers below n are such: with one that does not stand there they would be too many
pub once_from : (n : ℕ) (cs : List ℕ) → length cs ≡ n → ((i : ℕ) → i < n → get_or cs i 0 < n) → ((i j : ℕ) → i < j → j < n → get_or cs i 0 ≢ get_or cs j 0) → Once n cs
once_from n cs e low_all apart = record {
  long = e;
  once = λ v l. elim (cases_lt (times_in v cs) 1) [ inl h ↦ absurd (too_many v l (omega arith)) | inr h ↦ omega (arith, few v) ];
}
  where
    few : (v : ℕ) → times_in v cs ≤ 1
    few v = times_apart v cs (λ i j l h. apart i j l (omega arith))

    differ : (v : ℕ) → times_in v cs ≡ 0 → (i j d : ℕ) → i < j → j < length (v ∷ cs) → get_or (v ∷ cs) i d ≢ get_or (v ∷ cs) j d
    differ v z i zero d a b q = omega arith
    differ v z zero (suc j) d a b q = omega (arith, times_at v cs j (omega arith) (q ∙ get_or_default cs j d 0 (omega arith)))
    differ v z (suc i) (suc j) d a b q =
        apart i j (omega arith) (omega arith) (sym (get_or_default cs i d 0 (omega arith)) ∙ q ∙ get_or_default cs j d 0 (omega arith))

    low_any : (v : ℕ) → v < n → (q : ℕ) → list_any (eqb q) (v ∷ cs) ≡ true → q < n
    low_any v l q h =
        elim (or_cases (eqb q v) (list_any (eqb q) cs) h) [
          | inl k ↦ omega (arith, eqb-true q v k)
          | inr k ↦ let p = place_of q cs (ltb-true 0 (times_in q cs) (sym (stands q cs) ∙ k)) in omega (arith, p.1, p.2, low_all p.0)
        ]

    too_many : (v : ℕ) → v < n → times_in v cs ≡ 0 → ⊥
    too_many v l z =
        let d = IsDistinct-from_apart eqb (v ∷ cs) (λ i j d a b. ne_eqb (get_or (v ∷ cs) i d) (get_or (v ∷ cs) j d) (differ v z i j d a b)) in
        omega (arith, length-le_from_distinct_below (v ∷ cs) n d (low_any v l))
