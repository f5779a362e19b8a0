-- The first row is filled, and so what solves a row less solves all; rows for columns.
use Rattle.std.proofs.Common.{◌≡◌, ℕ, zero, suc, ◌+◌, ◌-◌, ◌*◌, ◌<◌, ◌≤◌, true, ◌≢◌, ◌⊎◌, sym, refl, ap, ◌∙◌, inl, inr, arith}
use Rattle.std.proofs.lemmas.Bool.{cases_eq, cases_lt}
use Rattle.slide.specs.Tiles.{Frame, at, gap, moved, can}
use Rattle.slide.proofs.Moves.{Went, went_zero, step, step_in, step_went}
use Rattle.slide.proofs.Proper.{Board}
use Rattle.slide.proofs.Cells.{Cell, cell}
use Rattle.slide.proofs.Ways.{Way, stay, then, longer, along}
use Rattle.slide.proofs.Gap.{gap_zero}
use Rattle.reach.proofs.Parts.{below, across}
use Rattle.reach.proofs.Place.{Placed, place}
use Rattle.reach.proofs.Solve.{Holds, Full, Solved, Solves, Within, Beyond, solve_part}

-- ---- what a frame holds it holds after a way
went_holds : {w t : ℕ} {f g : Frame} {i j x y v : ℕ} → i < t → j < w → x < t → y < w → gap f ≡ i * w + j → Went w t f i j x y g → Holds w t f v → Holds w t g v
went_holds {w} {t} {f} {g} {i} {j} {x} {y} {v} hi hj hx hy e r h =
    elim (cases_eq (h.row * w + h.col) (i * w + j)) [
      | inl a ↦ record { row = x; col = y; below = hx; within = hy; is = went_zero r ∙ sym (gap_zero f.cells) ∙ ap (at f) (e ∙ sym a) ∙ h.is }
      | inr a ↦ elim (cases_eq (h.row * w + h.col) (x * w + y)) [
        | inl b ↦ record { row = i; col = j; below = hi; within = hj; is = r.swap ∙ ap (at f) (sym b) ∙ h.is }
        | inr b ↦ record { row = h.row; col = h.col; below = h.below; within = h.within; is = r.rest (h.row * w + h.col) a b ∙ h.is }
      ]
    ]

-- after a move that can be made
moved_holds : (w t : ℕ) (f : Frame) (m v : ℕ) → Board w t f × Holds w t f v → can f m ≡ true → Board w t (moved f m) × Holds w t (moved f m) v
moved_holds w t f m v p c =
    let d = step f m p.0 c in
    let k = step_in d in
    let r = step_went p.0 d in
    (r.board, went_holds k.2 k.3 k.0 k.1 d.gap r p.1)

-- after a way
way_holds : {w t : ℕ} {f g : Frame} {n v : ℕ} → Board w t f → Way f n g → Holds w t f v → Holds w t g v
way_holds {w} {t} {f} {g} {n} {v} b r h = (along (λ k. Board w t k × Holds w t k v) (λ k m. moved_holds w t k m v) (b, h) r).1

-- so a target stays one
pub way_full : {w t : ℕ} {f g : Frame} {n : ℕ} {T : ℕ → ℕ → ℕ} → Board w t f → Way f n g → Full w t f T → Full w t g T
way_full b r u = record { occurs = λ i j hi hj. way_holds b r (u.occurs i j hi hj); apart = u.apart; last = u.last }

-- the row and the column of the gap
pub gap_cell : (w t : ℕ) (f : Frame) → Board w t f → Cell w t (gap f)
gap_cell w t f b = cell w t (gap f) (rw (← b.wide, ← b.tall) b.gapped.has)

-- ---- the first row
-- its first k cells hold their tiles after n moves or fewer
pub record Filled (w t : ℕ) (f : Frame) (n k : ℕ) (T : ℕ → ℕ → ℕ) : Type 0 where
  pub to : Frame
  pub way : Way f n to
  pub board : Board w t to
  pub full : Full w t to T
  pub front : (j : ℕ) → j < k → at to j ≡ T 0 j

module _ (w s : ℕ) (w2 : 2 ≤ w) (s2 : 2 ≤ s) (T : ℕ → ℕ → ℕ) where
  -- no tile of the first row is the gap
  first_tile : (f : Frame) → Full w (suc s) f T → (j : ℕ) → j < w → T 0 j ≢ 0
  first_tile f u j hj z =
      let r = u.apart 0 j s (w - 1) (omega arith) hj (omega arith) (omega arith) (z ∙ sym (u.last s (w - 1) refl (omega arith))) in omega (arith, r.0)

  -- one cell more: its tile, and the gap, are past the first k cells
  fill_one : (f : Frame) (k n : ℕ) → k < w → Filled w (suc s) f n k T → Filled w (suc s) f (n + 7 * (w + suc s)) (suc k) T
  fill_one f k n hk r = end (place w s w2 s2 k hk r.to g.row g.col h.row h.col r.board g.is g.below g.within h.below h.within off far_on gap_on)
    where
      h : Holds w (suc s) r.to (T 0 k)
      h = r.full.occurs 0 k (omega arith) hk

      g : Cell w (suc s) (gap r.to)
      g = gap_cell w (suc s) r.to r.board

      in_front : (x y v : ℕ) → x ≡ 0 → y < k → at r.to (x * w + y) ≡ v → T 0 y ≡ v
      in_front x y v a l e = let o : y ≡ x * w + y = rw a (omega arith) in sym (r.front y l) ∙ ap (at r.to) o ∙ e

      zero_there : at r.to (g.row * w + g.col) ≡ 0
      zero_there = ap (at r.to) (sym g.is) ∙ gap_zero r.to.cells

      off : h.row ≡ g.row → h.col ≡ g.col → ⊥
      off a b = first_tile r.to r.full k hk (sym h.is ∙ rw (a, b) zero_there)

      far_on : h.row ≡ 0 → k ≤ h.col
      far_on a =
          elim (cases_lt h.col k) [
            | inl l ↦ let z = r.full.apart 0 h.col 0 k (omega arith) h.within (omega arith) hk (in_front h.row h.col (T 0 k) a l h.is) in omega (arith, z.1)
            | inr l ↦ l
          ]

      gap_on : g.row ≡ 0 → k ≤ g.col
      gap_on a =
          elim (cases_lt g.col k) [
            | inl l ↦ absurd (first_tile r.to r.full g.col g.within (in_front g.row g.col 0 a l zero_there))
            | inr l ↦ l
          ]

      end : Placed w (suc s) r.to (7 * (w + suc s)) k (at r.to (h.row * w + h.col)) → Filled w (suc s) f (n + 7 * (w + suc s)) (suc k) T
      end z = record {
        to = z.to;
        way = then r.way z.way;
        board = z.board;
        full = way_full r.board z.way r.full;
        front = λ j l. elim (cases_eq j k) [ inl e ↦ rw e (z.tile ∙ h.is) | inr e ↦ z.keeps j (omega arith) ∙ r.front j (omega arith) ];
      }

  -- the first k cells of the first row, one after the other
  pub fill : (f : Frame) (k : ℕ) → k ≤ w → Board w (suc s) f → Full w (suc s) f T → Filled w (suc s) f (k * (7 * (w + suc s))) k T
  fill f zero h b u = record { to = f; way = longer (omega arith) (stay f); board = b; full = u; front = λ j l. absurd (omega arith) }
  fill f (suc k) h b u =
      let r = fill_one f k (k * (7 * (w + suc s))) h (fill f k (omega arith) b u) in
      record { to = r.to; way = longer (omega arith) r.way; board = r.board; full = r.full; front = r.front }

-- ---- a row less
-- a way, and then the target
pub solved_after : {w t : ℕ} {f g : Frame} {m n : ℕ} {T : ℕ → ℕ → ℕ} (k : ℕ) → m + n ≤ k → Way f m g → Solved w t g n T → Solved w t f k T
solved_after k l v r = record { to = r.to; way = longer l (then v r.way); nearly = r.nearly }

-- what solves a frame with a row less, after the first row is filled, solves all
pub row_less : (w s n k : ℕ) → 2 ≤ w → 2 ≤ s → w * (7 * (w + suc s)) + n ≤ k → Solves w s n → Solves w (suc s) k
row_less w s n k w2 s2 l solve f T b u =
    solved_after k l r.way
    (solve_part (below w s) (omega arith) (omega arith) (λ i j p q. omega arith) r.to T r.board r.full cover n solve (gap_cell w (suc s) r.to r.board))
  where
    r : Filled w (suc s) f (w * (7 * (w + suc s))) w T
    r = fill w s w2 s2 T f w (omega arith) b u

    cover : (x y : ℕ) → x < suc s → y < w → (Within (below w s) x y) ⊎ (Beyond (below w s) x y × (at r.to (x * w + y) ≡ T x y))
    cover zero y hx hy = inr (λ i j hi hj p q. omega arith, ap (at r.to) (omega arith) ∙ r.front y hy)
    cover (suc x) y hx hy = inl (record { i = x; j = y; below = omega arith; within = hy; row = refl; col = refl })

-- ---- rows for columns
-- what solves a frame with rows for columns solves it
pub turned : (w t n : ℕ) → 0 < w → 0 < t → Solves t w n → Solves w t n
turned w t n w0 t0 solve f T b u =
    solve_part (across w t) t0 w0 (λ i j p q. (q, p)) f T b u
    (λ x y hx hy. inl (record { i = y; j = x; below = hy; within = hx; row = refl; col = refl })) n solve (gap_cell w t f b)
