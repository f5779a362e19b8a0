-- The gap walks to a cell and passes one other by.
use Rattle.std.proofs.Common.{◌≡◌, ℕ, zero, suc, ◌+◌, ◌-◌, ◌*◌, ◌<◌, ◌≤◌, ◌≢◌, ◌⊎◌, refl, ◌∙◌, inl, inr, arith}
use Rattle.std.proofs.lemmas.Bool.{cases_eq, cases_lt}
use Rattle.slide.specs.Promise.{apart}
use Rattle.slide.specs.Tiles.{Frame, at, gap, moved}
use Rattle.slide.proofs.Moves.{go}
use Rattle.slide.proofs.Proper.{Board}
use Rattle.slide.proofs.Cells.{Dir, U, D, L, R, num, Next, pos_apart, next_in}
use Rattle.slide.proofs.Ways.{Way, stay, then, longer}

-- two numbers below n are less than n apart
pub apart_lt : (n a b : ℕ) → a < n → b < n → apart a b < n
apart_lt n a b h k = omega arith

-- the gap is at row x and column y after k moves or fewer, and the tile at row p and column q stays
pub record Walked (w t : ℕ) (f : Frame) (k x y p q : ℕ) : Type 0 where
  pub to : Frame
  pub way : Way f k to
  pub board : Board w t to
  pub gap : gap to ≡ x * w + y
  pub kept : at to (p * w + q) ≡ at f (p * w + q)

-- a row or a column beside another
beside : (n u : ℕ) → 2 ≤ n → u < n → (v : ℕ) × (v < n) × (apart u v ≡ 1)
beside n zero a l = (1, omega arith, omega arith)
beside n (suc u) a l = (u, omega arith, omega arith)

module _ (w t p q : ℕ) (hq : q < w) where
  -- k steps in one direction, none of them onto the cell that stays
  run : (d : Dir) (k : ℕ) (f : Frame) (ρ κ : ℕ → ℕ) → Board w t f → gap f ≡ ρ 0 * w + κ 0 →
      ((s : ℕ) → s < k → Next w t d (ρ s) (κ s) (ρ (suc s)) (κ (suc s))) → ((s : ℕ) → s ≤ k → p ≡ ρ s → q ≡ κ s → ⊥) → Walked w t f k (ρ k) (κ k) p q
  run d zero f ρ κ b e n a = record { to = f; way = stay f; board = b; gap = e; kept = refl }
  run d (suc k) f ρ κ b e n a =
      let n0 = n 0 (omega arith) in
      let g = go b e n0 in
      let i = next_in n0 in
      let r = run d k (moved f (num d)) (λ s. ρ (suc s)) (λ s. κ (suc s)) g.board g.gap (λ s l. n (suc s) (omega arith)) (λ s l. a (suc s) (omega arith)) in
      let off_first = pos_apart w p q (ρ 0) (κ 0) hq i.3 (a 0 (omega arith)) in
      let off_second = pos_apart w p q (ρ 1) (κ 1) hq i.1 (a 1 (omega arith)) in
      record { to = r.to; way = longer (omega arith) (then g.way r.way); board = r.board; gap = r.gap; kept = r.kept ∙ g.rest (p * w + q) off_first off_second }

  -- one after the other
  pub after : {f : Frame} {k m x y u v : ℕ} (r : Walked w t f k x y p q) → Walked w t r.to m u v p q → Walked w t f (k + m) u v p q
  after r s = record { to = s.to; way = then r.way s.way; board = s.board; gap = s.gap; kept = s.kept ∙ r.kept }

  -- the same walk, its end and its cost written otherwise
  at_end : {f : Frame} {k m x y u v : ℕ} → x ≡ u → y ≡ v → k ≤ m → Walked w t f k x y p q → Walked w t f m u v p q
  at_end {f} {k} {m} {x} {y} {u} {v} a b l r = record { to = r.to; way = longer l r.way; board = r.board; gap = rw (← a, ← b) r.gap; kept = r.kept }

  -- along a column
  pub upright : (f : Frame) (i j x : ℕ) → Board w t f → gap f ≡ i * w + j → i < t → j < w → x < t → q ≢ j → Walked w t f (apart i x) x j p q
  upright f i j x b e hi hj hx a =
      elim (cases_lt i x) [
        | inl l ↦ at_end (omega arith) refl (omega arith) (run D (x - i) f (λ s. i + s) (λ s. j) b (rw e (omega arith)) (λ s l. omega arith) (λ s l c d. a d))
        | inr l ↦
            let z : i ≡ i - 0 = omega arith in
            at_end (omega arith) refl (omega arith) (run U (i - x) f (λ s. i - s) (λ s. j) b (rw (← z) e) (λ s l. omega arith) (λ s l c d. a d))
      ]

  -- along a row
  pub level : (f : Frame) (i j y : ℕ) → Board w t f → gap f ≡ i * w + j → i < t → j < w → y < w → p ≢ i → Walked w t f (apart j y) i y p q
  level f i j y b e hi hj hy a =
      elim (cases_lt j y) [
        | inl l ↦ at_end refl (omega arith) (omega arith) (run R (y - j) f (λ s. i) (λ s. j + s) b (rw e (omega arith)) (λ s l. omega arith) (λ s l c d. a c))
        | inr l ↦ at_end refl (omega arith) (omega arith) (run L (j - y) f (λ s. i) (λ s. j - s) b (rw e (omega arith)) (λ s l. omega arith) (λ s l c d. a c))
      ]

  -- to any cell but the one that stays
  pub walk : (f : Frame) (i j x y : ℕ) → Board w t f → 2 ≤ w → 2 ≤ t → gap f ≡ i * w + j → i < t → j < w → x < t → y < w →
      (p ≡ i → q ≡ j → ⊥) → (p ≡ x → q ≡ y → ⊥) → Walked w t f (apart i x + apart j y + 2) x y p q
  walk f i j x y b w2 t2 e hi hj hx hy n m = by (cases_eq p i) (cases_eq q j) (cases_eq p x) (cases_eq q y)
    where
      Is : ℕ → ℕ → Type 0
      Is u v = (u ≡ v) ⊎ (u ≡ v → ⊥)

      first_up : q ≢ j → p ≢ x → Walked w t f (apart i x + apart j y + 2) x y p q
      first_up a c =
          let r = upright f i j x b e hi hj hx a in
          let s = level r.to x j y r.board r.gap hx hj hy c in
          at_end refl refl (omega arith) (after r s)

      first_along : p ≢ i → q ≢ y → Walked w t f (apart i x + apart j y + 2) x y p q
      first_along a c =
          let r = level f i j y b e hi hj hy a in
          let s = upright r.to i y x r.board r.gap hi hy hx c in
          at_end refl refl (omega arith) (after r s)

      round_row : q ≢ j → q ≢ y → p ≡ i → p ≡ x → Walked w t f (apart i x + apart j y + 2) x y p q
      round_row a c o u =
          let v = beside t i t2 hi in
          let r = upright f i j v.0 b e hi hj v.1 a in
          let s = level r.to v.0 j y r.board r.gap v.1 hj hy (λ z. omega (arith, v.2)) in
          let z = upright s.to v.0 y x s.board s.gap v.1 hy hx c in
          at_end refl refl (omega (arith, v.2)) (after r (after s z))

      round_col : p ≢ i → p ≢ x → q ≡ j → q ≡ y → Walked w t f (apart i x + apart j y + 2) x y p q
      round_col a c o u =
          let v = beside w j w2 hj in
          let r = level f i j v.0 b e hi hj v.1 a in
          let s = upright r.to i v.0 x r.board r.gap hi v.1 hx (λ z. omega (arith, v.2)) in
          let z = level s.to x v.0 y s.board s.gap hx v.1 hy c in
          at_end refl refl (omega (arith, v.2)) (after r (after s z))

      by : Is p i → Is q j → Is p x → Is q y → Walked w t f (apart i x + apart j y + 2) x y p q
      by _ (inr c) (inr o) _ = first_up c o
      by (inr a) _ _ (inr u) = first_along a u
      by (inl a) (inl c) _ _ = absurd (n a c)
      by _ _ (inl o) (inl u) = absurd (m o u)
      by (inl a) (inr c) (inl o) (inr u) = round_row c u a o
      by (inr a) (inl c) (inr o) (inl u) = round_col a o c u
