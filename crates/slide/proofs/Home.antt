-- The frame in order: it is proper, its gap is last, and its sign.
use Rattle.std.proofs.Common.{◌≡◌, ℕ, zero, suc, ◌+◌, ◌-◌, ◌*◌, ◌/◌, ◌%◌, ◌<◌, ◌≤◌, true, ◌&&◌, eqb, ltb, List, [], ◌∷◌, ◌++◌, length, refl, ap, ◌∙◌, inl, inr, arith}
use Rattle.std.proofs.lemmas.List.{length-append, get_or_at}
use Rattle.std.proofs.lemmas.Bool.{cases_eq}
use Rattle.std.proofs.lemmas.Bool.Decides.{nat_tests}
use Rattle.std.proofs.lemmas.Nat.{div-mul-add}
use Rattle.slide.specs.Tiles.{pick, at, gap, up_from, ordered, larger_than, wrong_pairs, sign, times_in, proper}
use Rattle.slide.proofs.Proper.{is_proper, proper_from}

-- its length
length_up : (n k : ℕ) → length (up_from n k) ≡ n
unfolding up_from
length_up zero k = refl
length_up (suc n) k = ap suc (length_up n (suc k))

module _ (w t : ℕ) (pos : 0 < w * t) where
  -- as many cells as the sides make
  pub home_length : length (ordered w t).cells ≡ w * t
  home_length = omega (arith, length-append (up_from (w * t - 1) 1) (0 ∷ []), length_up (w * t - 1) 1)

  -- its last cell
  pub home_last : (p : ℕ) → suc p ≡ w * t → at (ordered w t) p ≡ 0
  home_last p h = get_or_at (up_from (w * t - 1) 1) 0 [] 0 p (length_up (w * t - 1) 1 ∙ omega arith)

-- ---- each number once
times_in-++ : (c : ℕ) (xs ys : List ℕ) → times_in c (xs ++ ys) ≡ times_in c xs + times_in c ys
unfolding times_in
times_in-++ c [] ys = omega arith
times_in-++ c (x ∷ xs) ys = omega (arith, times_in-++ c xs ys)

-- of the numbers from k on none is below k
times_before : (c n k : ℕ) → c < k → times_in c (up_from n k) ≡ 0
unfolding times_in up_from
times_before c zero k h = refl
times_before c (suc n) k h = grind (arith, nat_tests, times_before c n (suc k) (omega arith))

-- and each is there once
times_up : (c n k : ℕ) → k ≤ c → c < k + n → times_in c (up_from n k) ≡ 1
unfolding times_in up_from
times_up c zero k a b = absurd (omega arith)
times_up c (suc n) k a b =
    elim (cases_eq c k) [
      | inl e ↦ grind (arith, nat_tests, times_before c n (suc k) (omega arith))
      | inr e ↦ grind (arith, nat_tests, times_up c n (suc k) (omega arith) (omega arith))
    ]

-- with the gap behind them too
home_times : (n c : ℕ) → c ≤ n → times_in c (up_from n 1 ++ (0 ∷ [])) ≡ 1
unfolding times_in
home_times n zero h = grind (arith, nat_tests, times_in-++ 0 (up_from n 1) (0 ∷ []), times_before 0 n 1 (omega arith))
home_times n (suc c) h = grind (arith, nat_tests, times_in-++ (suc c) (up_from n 1) (0 ∷ []), times_up (suc c) n 1 (omega arith) (omega arith))

-- a frame of two or more rows and columns has a cell
cells_some : (w t : ℕ) → 2 ≤ w → 2 ≤ t → 0 < w * t
cells_some w t w2 t2 = grind arith

-- so it is proper
pub home_proper : (w t : ℕ) → 2 ≤ w → 2 ≤ t → proper (ordered w t) ≡ true
home_proper w t w2 t2 =
    proper_from (ordered w t) w2 t2
    (record { long = home_length w t (cells_some w t w2 t2); once = λ c h. home_times (w * t - 1) c (omega arith) })

-- its gap is last
pub home_gap : (w t : ℕ) → 2 ≤ w → 2 ≤ t → suc (gap (ordered w t)) ≡ w * t
home_gap w t w2 t2 =
    let pos = cells_some w t w2 t2 in
    let e = (is_proper (ordered w t) (home_proper w t w2 t2)).gapped.one (w * t - 1) (omega arith) (home_last w t pos (w * t - 1) (omega arith)) in
    omega arith

-- ---- its sign
-- no tile that comes later is smaller
larger_up : (c n k : ℕ) → c ≤ k → larger_than c (up_from n k ++ (0 ∷ [])) ≡ 0
unfolding larger_than up_from
larger_up c zero k h = refl
larger_up c (suc n) k h =
    let e : pick {A = ℕ} (ltb 0 k && ltb k c) 1 0 ≡ 0 = grind (arith, nat_tests) in
    omega (arith, larger_up c n (suc k) (omega arith))

-- so it has no inversions
wrong_up : (n k : ℕ) → wrong_pairs (up_from n k ++ (0 ∷ [])) ≡ 0
unfolding wrong_pairs larger_than up_from
wrong_up zero k = refl
wrong_up (suc n) k = omega (arith, larger_up k n (suc k) (omega arith), wrong_up n (suc k))

-- the last place, as row and column
pub last_place : (w t : ℕ) → 0 < w → 0 < t → suc ((t - 1) * w + (w - 1)) ≡ w * t
last_place (suc w) (suc t) a b = let e : suc t - 1 ≡ t = omega arith in rw e (omega arith)
last_place _ _ a b = absurd (omega arith)

-- for even widths the sign is that of the last row, else 0
pub home_sign : (w t : ℕ) → 2 ≤ w → 2 ≤ t → sign (ordered w t) ≡ pick (eqb (w % 2) 0) (t - 1) 0 % 2
home_sign w t w2 t2 =
    let g : gap (ordered w t) ≡ (t - 1) * w + (w - 1) = omega (arith, home_gap w t w2 t2, last_place w t (omega arith) (omega arith)) in
    let r : gap (ordered w t) / w ≡ t - 1 = rw g (div-mul-add (t - 1) w (w - 1) (omega arith)) in
    rw (wrong_up (w * t - 1) 1, r) (ap (λ n. n % 2) (omega arith))
