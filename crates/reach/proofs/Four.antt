-- The last four cells: right, or two tiles exchanged.
use Rattle.std.proofs.Common.{◌≡◌, ℕ, zero, suc, ◌+◌, ◌*◌, ◌<◌, ◌≢◌, ◌⊎◌, sym, refl, ap, ◌∙◌, inl, inr, arith, lit<}
use Rattle.slide.specs.Tiles.{Frame, at, gap}
use Rattle.slide.proofs.Proper.{Board}
use Rattle.slide.proofs.Ways.{stay, then}
use Rattle.slide.proofs.Gap.{gap_zero}
use Rattle.reach.proofs.Walks.{walk}
use Rattle.reach.proofs.Blocks.{round}
use Rattle.reach.proofs.Solve.{Full, Solved, Solves}
use Rattle.reach.proofs.Fill.{way_full, gap_cell, solved_after}

module _ (T : ℕ → ℕ → ℕ) where
  -- the target has tiles there
  tile_at : (f : Frame) → Full 2 2 f T → (i j : ℕ) → i < 2 → j < 2 → i + j < 2 → T i j ≢ 0
  tile_at f u i j hi hj l z = let r = u.apart i j 1 1 hi hj (lit< tt) (lit< tt) (z ∙ sym (u.last 1 1 refl refl)) in omega (arith, r.0, r.1)

  -- where a tile is of the three
  which : (f : Frame) → gap f ≡ 3 → Full 2 2 f T → (i j : ℕ) → i < 2 → j < 2 → i + j < 2 → (at f 0 ≡ T i j) ⊎ ((at f 1 ≡ T i j) ⊎ (at f 2 ≡ T i j))
  which f g u i j hi hj l = let h = u.occurs i j hi hj in by h.row h.col h.below h.within h.is
    where
      by : (r c : ℕ) → r < 2 → c < 2 → at f (r * 2 + c) ≡ T i j → (at f 0 ≡ T i j) ⊎ ((at f 1 ≡ T i j) ⊎ (at f 2 ≡ T i j))
      by zero zero hr hc e = inl e
      by zero (suc zero) hr hc e = inr (inl e)
      by (suc zero) zero hr hc e = inr (inr e)
      by (suc zero) (suc zero) hr hc e = absurd (tile_at f u i j hi hj l (sym e ∙ ap (at f) (sym g) ∙ gap_zero f.cells))
      by _ _ hr hc e = absurd (omega arith)

  -- the first in its place
  two_left : (f : Frame) → Board 2 2 f → Full 2 2 f T → gap f ≡ 3 → at f 0 ≡ T 0 0 → Solved 2 2 f 0 T
  two_left f b u g e = by (which f g u 0 1 (lit< tt) (lit< tt) (lit< tt)) (which f g u 1 0 (lit< tt) (lit< tt) (lit< tt))
    where
      e3 : at f 3 ≡ T 1 1
      e3 = ap (at f) (sym g) ∙ gap_zero f.cells ∙ sym (u.last 1 1 refl refl)

      n0001 : T 0 0 ≡ T 0 1 → ⊥
      n0001 q = let r = u.apart 0 0 0 1 (lit< tt) (lit< tt) (lit< tt) (lit< tt) q in omega (arith, r.1)

      n0010 : T 0 0 ≡ T 1 0 → ⊥
      n0010 q = let r = u.apart 0 0 1 0 (lit< tt) (lit< tt) (lit< tt) (lit< tt) q in omega (arith, r.0)

      n0110 : T 0 1 ≡ T 1 0 → ⊥
      n0110 q = let r = u.apart 0 1 1 0 (lit< tt) (lit< tt) (lit< tt) (lit< tt) q in omega (arith, r.0)

      -- the cell 1 and the cell in row bi and column bj hold each other's tiles: two different cells, or the cell 1 twice
      pair : (bi bj : ℕ) → (bi < 2) × (bj < 2) → at f 1 ≡ T bi bj → at f (bi * 2 + bj) ≡ T 0 1 → ((1 ≡ bi → 0 ≡ bj → ⊥) → at f 2 ≡ T 1 0) →
          ((0 ≡ bi) × (1 ≡ bj)) ⊎ ((T 0 1 ≢ 0) × (T bi bj ≢ 0)) → Solved 2 2 f 0 T
      pair bi bj in_b at_a at_b other kind = record {
        to = f;
        way = stay f;
        nearly = record {
          board = b;
          ai = 0;
          aj = 1;
          bi = bi;
          bj = bj;
          in_a = (lit< tt, lit< tt);
          in_b = in_b;
          at_a = at_a;
          at_b = at_b;
          rest = cells;
          kind = kind;
        };
      }
        where
          cells : (i j : ℕ) → i < 2 → j < 2 → (i ≡ 0 → j ≡ 1 → ⊥) → (i ≡ bi → j ≡ bj → ⊥) → at f (i * 2 + j) ≡ T i j
          cells zero zero hi hj na nb = e
          cells zero (suc zero) hi hj na nb = absurd (na refl refl)
          cells (suc zero) zero hi hj na nb = other nb
          cells (suc zero) (suc zero) hi hj na nb = e3
          cells _ _ hi hj na nb = absurd (omega arith)

      right : at f 1 ≡ T 0 1 → at f 2 ≡ T 1 0 → Solved 2 2 f 0 T
      right p q = pair 0 1 (lit< tt, lit< tt) p p (λ _. q) (inl (refl, refl))

      wrong : at f 1 ≡ T 1 0 → at f 2 ≡ T 0 1 → Solved 2 2 f 0 T
      wrong p q = pair 1 0 (lit< tt, lit< tt) p q (λ n. absurd (n refl refl)) (inr (tile_at f u 0 1 (lit< tt) (lit< tt) (lit< tt), tile_at f u 1 0 (lit< tt) (lit< tt) (lit< tt)))

      by : (at f 0 ≡ T 0 1) ⊎ ((at f 1 ≡ T 0 1) ⊎ (at f 2 ≡ T 0 1)) → (at f 0 ≡ T 1 0) ⊎ ((at f 1 ≡ T 1 0) ⊎ (at f 2 ≡ T 1 0)) → Solved 2 2 f 0 T
      by (inl p) _ = absurd (n0001 (sym e ∙ p))
      by (inr p) (inl q) = absurd (n0010 (sym e ∙ q))
      by (inr (inl p)) (inr (inl q)) = absurd (n0110 (sym p ∙ q))
      by (inr (inl p)) (inr (inr q)) = right p q
      by (inr (inr p)) (inr (inl q)) = wrong q p
      by (inr (inr p)) (inr (inr q)) = absurd (n0110 (sym p ∙ q))

  -- the gap in its place
  three_left : (f : Frame) → Board 2 2 f → Full 2 2 f T → gap f ≡ 3 → Solved 2 2 f 8 T
  three_left f b u g = by (which f g u 0 0 (lit< tt) (lit< tt) (lit< tt))
    where
      by : (at f 0 ≡ T 0 0) ⊎ ((at f 1 ≡ T 0 0) ⊎ (at f 2 ≡ T 0 0)) → Solved 2 2 f 8 T
      by (inl e) = solved_after 8 (omega arith) (stay f) (two_left f b u g e)
      by (inr (inr e)) =
          let r = round f b g in
          solved_after 8 (omega arith) r.way (two_left r.to r.board (way_full b r.way u) r.gap (r.c0 ∙ e))
      by (inr (inl e)) =
          let r = round f b g in
          let q = round r.to r.board r.gap in
          solved_after 8 (omega arith) (then r.way q.way) (two_left q.to q.board (way_full r.board q.way (way_full b r.way u)) q.gap (q.c0 ∙ r.c2 ∙ e))

-- the gap goes to its place, the first tile to its, and then the other two are right or exchanged
pub four : Solves 2 2 12
four f T b u =
    let c = gap_cell 2 2 f b in
    let r = walk 2 2 2 0 (lit< tt) f c.row c.col 1 1 b (omega arith) (omega arith) c.is c.below c.within (lit< tt) (lit< tt) (λ e _. omega (arith, c.below)) (λ e _. omega arith) in
    solved_after 12 (omega (arith, c.below, c.within)) r.way (three_left T r.to r.board (way_full b r.way u) r.gap)
