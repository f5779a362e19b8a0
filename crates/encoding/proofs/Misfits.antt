-- The first byte of a refusal that can't stand where it does.
use Rattle.std.proofs.Common.{◌≡◌, ℕ, zero, suc, ◌+◌, ◌<◌, ◌≤◌, min, Bool, true, false, not, ◌&&◌, ltb, leb, List, length, get_or, Option, None, Some, MatchOption, subst, ⊎_elim, arith}
use Rattle.std.proofs.lemmas.Bool.{cases_Bool, cases_lt, cases_order}
use Rattle.std.proofs.lemmas.Bool.Decides.{nat_tests}
use Rattle.encoding.specs.AnswerBytes.{least, most, stands, misfit}

-- the byte b can stand at place i of a refusal of the number k
abbrev pub Stands : ℕ → ℕ → ℕ → Type 0
Stands k i b = (least i ≤ b) × (b ≤ most k i)

-- whether there is a byte at place i that can't stand there
abbrev out_of_place : List ℕ → ℕ → Bool
out_of_place bs i = ltb i (length bs) && not (stands (get_or bs 1 0) i (get_or bs i 0))

-- what the test says
out_true : (n i l b m : ℕ) → (ltb i n && not (leb l b && leb b m)) ≡ true → (i < n) × ((l ≤ b) × (b ≤ m) → ⊥)
out_true n i l b m e = (grind (arith, nat_tests), λ h. grind (arith, nat_tests))

out_false : (n i l b m : ℕ) → (ltb i n && not (leb l b && leb b m)) ≡ false → i < n → (l ≤ b) × (b ≤ m)
out_false n i l b m e h = (grind (arith, nat_tests), grind (arith, nat_tests))

-- m is the first of n places from i on where there is a byte that can't stand there, or i + n
abbrev pub FirstMisfit : List ℕ → ℕ → ℕ → ℕ → Type 0
FirstMisfit bs i n m =
    (i ≤ m) × (m ≤ i + n) × ((j : ℕ) → i ≤ j → j < m → j < length bs → Stands (get_or bs 1 0) j (get_or bs j 0))
    × (m < i + n → (m < length bs) × (Stands (get_or bs 1 0) m (get_or bs m 0) → ⊥))

-- a byte that can stand is passed over
passed_over : (bs : List ℕ) (i n m : ℕ) → (i < length bs → Stands (get_or bs 1 0) i (get_or bs i 0)) → FirstMisfit bs (suc i) n m → FirstMisfit bs i (suc n) m
passed_over bs i n m o r = (omega (arith, r.0), omega (arith, r.1), upto, λ h. r.3 (omega arith))
  where
    upto : (j : ℕ) → i ≤ j → j < m → j < length bs → Stands (get_or bs 1 0) j (get_or bs j 0)
    upto j p q l =
        ⊎_elim
        (λ (h : j < suc i). let e : i ≡ j = omega arith in subst (λ k. k < length bs → Stands (get_or bs 1 0) k (get_or bs k 0)) e o l)
        (λ (h : suc i ≤ j). r.2 j h q l)
        (cases_lt j (suc i))

-- the first misfit is one
pub first_misfit : (bs : List ℕ) (i n : ℕ) → FirstMisfit bs i n (misfit bs i n)
unfolding misfit
first_misfit bs i zero = (omega arith, omega arith, (λ j p q. absurd (omega arith)), λ h. absurd (omega arith))
first_misfit bs i (suc n) =
    ⊎_elim
    (λ (e : out_of_place bs i ≡ true).
    let o = out_true (length bs) i (least i) (get_or bs i 0) (most (get_or bs 1 0) i) e in
    rw e (omega arith, omega arith, (λ j p q. absurd (omega arith)), λ h. o))
    (λ (e : out_of_place bs i ≡ false).
    rw e (passed_over bs i n (misfit bs (suc i) n) (out_false (length bs) i (least i) (get_or bs i 0) (most (get_or bs 1 0) i) e) (first_misfit bs (suc i) n)))
    (cases_Bool (out_of_place bs i))

-- what a test of one byte says
stands_true : (k i b : ℕ) → stands k i b ≡ true → Stands k i b
stands_true k i b e = (grind (arith, nat_tests), grind (arith, nat_tests))

stands_false : (k i b : ℕ) → stands k i b ≡ false → Stands k i b → ⊥
stands_false k i b e h = grind (arith, nat_tests)

-- where each byte that there is can stand, there is no misfit
pub misfit_none : (bs : List ℕ) → ((i : ℕ) → 1 ≤ i → i < 7 → i < length bs → Stands (get_or bs 1 0) i (get_or bs i 0)) → misfit bs 1 6 ≡ 7
misfit_none bs at =
    let r = first_misfit bs 1 6 in
    ⊎_elim
    (λ (l : misfit bs 1 6 < 7). absurd ((r.3 l).1 (at (misfit bs 1 6) r.0 l (r.3 l).0)))
    (λ (l : 7 ≤ misfit bs 1 6). omega (arith, r.1))
    (cases_lt (misfit bs 1 6) 7)

-- a place is the first misfit where the byte there can't stand and those before it can; and where all that there are can stand, there is none
pub misfit_found : (bs : List ℕ) (e : ℕ) → e ≡ min (length bs) 7 → (r : Option ℕ) →
    MatchOption r ((j : ℕ) → 1 ≤ j → j < e → stands (get_or bs 1 0) j (get_or bs j 0) ≡ true)
    (λ p. (1 ≤ p) × (p < e) × (stands (get_or bs 1 0) p (get_or bs p 0) ≡ false) × ((j : ℕ) → 1 ≤ j → j < p → stands (get_or bs 1 0) j (get_or bs j 0) ≡ true)) →
    MatchOption r (misfit bs 1 6 ≡ 7) (λ p. (p < length bs) × (p ≡ misfit bs 1 6))
misfit_found bs e is None all = misfit_none bs (λ i p q l. stands_true _ _ _ (all i p (omega arith)))
misfit_found bs e is (Some p) h =
    let r = first_misfit bs 1 6 in (
      omega (arith, h.1),
      ⊎_elim
          (λ same. same)
          (⊎_elim
          (λ (l : p < misfit bs 1 6). absurd (stands_false _ _ _ h.2 (r.2 p h.0 l (omega (arith, h.1)))))
          (λ (l : misfit bs 1 6 < p). absurd ((r.3 (omega (arith, h.1))).1 (stands_true _ _ _ (h.3 (misfit bs 1 6) r.0 l)))))
          (cases_order p (misfit bs 1 6)),
    )

-- where the first byte out of place would be just behind them all, there are seven, and each can stand where it does
pub misfit_whole : (bs : List ℕ) → length bs ≡ misfit bs 1 6 → (misfit bs 1 6 ≡ 7) × ((i : ℕ) → 1 ≤ i → i < 7 → Stands (get_or bs 1 0) i (get_or bs i 0))
misfit_whole bs e =
    let r = first_misfit bs 1 6 in
    let m : misfit bs 1 6 ≡ 7 =
    ⊎_elim
    (λ (l : misfit bs 1 6 < 7). absurd (omega (arith, (r.3 l).0)))
    (λ (l : 7 ≤ misfit bs 1 6). omega (arith, r.1))
    (cases_lt (misfit bs 1 6) 7) in
    (m, λ i p q. r.2 i p (omega arith) (omega arith))
