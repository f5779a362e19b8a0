-- A tile is brought to any cell of a frame, none of whose other cells matters.
use Rattle.std.proofs.Common.{◌≡◌, ℕ, zero, suc, ◌+◌, ◌-◌, ◌*◌, ◌<◌, ◌≤◌, ◌⊎◌, sym, refl, ◌∙◌, inl, inr, arith}
use Rattle.std.proofs.lemmas.Bool.{cases_order}
use Rattle.slide.specs.Promise.{apart}
use Rattle.slide.specs.Tiles.{Frame, at, gap, moved}
use Rattle.slide.proofs.Moves.{go}
use Rattle.slide.proofs.Proper.{Board}
use Rattle.slide.proofs.Cells.{Dir, U, D, L, R, num, Next, next_in, next_ne}
use Rattle.slide.proofs.Ways.{Way, stay, then, longer}
use Rattle.reach.proofs.Walks.{walk}

-- the tile x is at row u and column v after k moves or fewer, and the gap elsewhere
pub record Brought (w t : ℕ) (f : Frame) (k u v x : ℕ) : Type 0 where
  pub to : Frame
  pub way : Way f k to
  pub board : Board w t to
  pub tile : at to (u * w + v) ≡ x
  pub i : ℕ
  pub j : ℕ
  pub gap : gap to ≡ i * w + j
  pub row : i < t
  pub col : j < w
  pub off : u ≡ i → v ≡ j → ⊥

-- the tile of row p and column q is at row u and column v after k moves or fewer, and the gap where it was
pub record Pushed (w t : ℕ) (f : Frame) (k p q u v : ℕ) : Type 0 where
  pub to : Frame
  pub way : Way f k to
  pub board : Board w t to
  pub tile : at to (u * w + v) ≡ at f (p * w + q)
  pub gap : gap to ≡ p * w + q

-- the two cells of a step are one apart, and neither is farther from a third than the other by more than one
step_apart : {w t : ℕ} {d : Dir} {x y p q : ℕ} → Next w t d x y p q → (i j : ℕ) → (apart p x + apart q y ≡ 1) × (apart i x + apart j y ≤ apart i p + apart j q + 1)
step_apart n i j = grind arith

module _ (w t : ℕ) (w2 : 2 ≤ w) (t2 : 2 ≤ t) where
  -- one cell on, from row p and column q to row u and column v: the gap goes there, and then the other way
  pub push : (f : Frame) (d : Dir) (i j p q u v : ℕ) → Board w t f → gap f ≡ i * w + j → i < t → j < w → (p ≡ i → q ≡ j → ⊥) → Next w t d u v p q →
      Pushed w t f (apart i u + apart j v + 3) p q u v
  push f d i j p q u v b e hi hj ne n =
      let l = next_in n in
      let r = walk w t p q l.1 f i j u v b w2 t2 e hi hj l.2 l.3 ne (λ a c. next_ne n (sym a) (sym c)) in
      let g = go r.board r.gap n in
      record {
        to = moved r.to (num d);
        way = longer {g = moved r.to (num d)} (omega arith) (then r.way g.way);
        board = g.board;
        tile = g.swap ∙ r.kept;
        gap = g.gap;
      }

  -- a tile that has δ cells to go
  abbrev Bring : ℕ → ℕ → ℕ → Type 0
  Bring u v δ =
      (f : Frame) (i j p q : ℕ) → Board w t f → gap f ≡ i * w + j → i < t → j < w → p < t → q < w → (p ≡ i → q ≡ j → ⊥) → apart p u + apart q v ≡ δ →
      Brought w t f (5 * δ + (apart i p + apart j q)) u v (at f (p * w + q))

  module _ (u v : ℕ) (hu : u < t) (hv : v < w) where
    -- one cell on, and then the rest
    bring_on : (δ : ℕ) → Bring u v δ → Bring u v (suc δ)
    bring_on δ ih f i j p q b e hi hj hp hq ne h = by (cases_order q v) (cases_order p u)
      where
        Goal : Type 0
        Goal = Brought w t f (5 * suc δ + (apart i p + apart j q)) u v (at f (p * w + q))

        -- after one step to row x and column y
        on : (d : Dir) (x y : ℕ) → Next w t d x y p q → apart x u + apart y v ≡ δ → Goal
        on d x y n a =
            let s = push f d i j p q x y b e hi hj ne n in
            let l = next_in n in
            let o = step_apart n i j in
            let r = ih s.to p q x y s.board s.gap hp hq l.2 l.3 (next_ne n) a in
            record {
              to = r.to;
              way = longer (omega (arith, o.0, o.1)) (then s.way r.way);
              board = r.board;
              tile = r.tile ∙ s.tile;
              i = r.i;
              j = r.j;
              gap = r.gap;
              row = r.row;
              col = r.col;
              off = r.off;
            }

        by : (q ≡ v) ⊎ ((q < v) ⊎ (v < q)) → (p ≡ u) ⊎ ((p < u) ⊎ (u < p)) → Goal
        by (inr (inl a)) _ = on L p (suc q) (omega arith) (omega arith)
        by (inr (inr a)) _ = on R p (q - 1) (omega arith) (omega arith)
        by (inl a) (inr (inl c)) = on U (suc p) q (omega arith) (omega arith)
        by (inl a) (inr (inr c)) = on D (p - 1) q (omega arith) (omega arith)
        by (inl a) (inl c) = absurd (omega arith)

    -- all the way
    pub bring : (δ : ℕ) → Bring u v δ
    bring zero f i j p q b e hi hj hp hq ne h =
        let a : u ≡ p = omega arith in
        let c : v ≡ q = omega arith in
        record { to = f; way = longer (omega arith) (stay f); board = b; tile = rw (a, c) refl; i = i; j = j; gap = e; row = hi; col = hj; off = rw (a, c) ne }
    bring (suc δ) f i j p q b e hi hj hp hq ne h = bring_on δ (bring δ) f i j p q b e hi hj hp hq ne h
