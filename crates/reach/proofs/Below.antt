-- Below the first row: the gap walks there, and a tile is brought there.
use Rattle.std.proofs.Common.{◌≡◌, ℕ, suc, ◌+◌, ◌*◌, ◌<◌, ◌≤◌, sym, refl, ◌∙◌, suc-mul, arith}
use Rattle.slide.specs.Promise.{apart}
use Rattle.slide.specs.Tiles.{Frame, at, gap}
use Rattle.slide.proofs.Proper.{Board}
use Rattle.slide.proofs.Ways.{Way}
use Rattle.reach.proofs.Walks.{walk}
use Rattle.reach.proofs.Parts.{Image, below, Outside}
use Rattle.reach.proofs.Restricted.{restrict_image, restrict, restrict_gap, restrict_lift, same}
use Rattle.reach.proofs.Brings.{bring}
use Rattle.reach.proofs.Blocks.{Keeps}

-- the first row is not in the part below it
outside_below : (w s q : ℕ) → q < w → Outside (below w s) q
outside_below w s q h i j hi hj e = omega (arith, suc-mul i w)

-- the tile at row suc p and column q stays; p may be past the last row
pub record WalkedBelow (w s : ℕ) (f : Frame) (k x y p q : ℕ) : Type 0 where
  pub to : Frame
  pub way : Way f k to
  pub board : Board w (suc s) to
  pub gap : gap to ≡ suc x * w + y
  pub kept : p < s → at to (suc p * w + q) ≡ at f (suc p * w + q)
  pub first : Keeps w f to

-- the tile x is at row suc u and column v, and the gap elsewhere below the first row
pub record BroughtBelow (w s : ℕ) (f : Frame) (k u v x : ℕ) : Type 0 where
  pub to : Frame
  pub way : Way f k to
  pub board : Board w (suc s) to
  pub tile : at to (suc u * w + v) ≡ x
  pub i : ℕ
  pub j : ℕ
  pub gap : gap to ≡ suc i * w + j
  pub row : i < s
  pub col : j < w
  pub off : u ≡ i → v ≡ j → ⊥
  pub first : Keeps w f to

-- ---- below the first row: the gap walks there, and a tile is brought there
module _ (w s : ℕ) (w2 : 2 ≤ w) (s2 : 2 ≤ s) (f : Frame) (b : Board w (suc s) f) (i j : ℕ) (hi : i < s) (hj : j < w) (h : gap f ≡ suc i * w + j) where
  -- the rows below the first, as a frame
  small : Image (below w s) same f (restrict (below w s) f)
  small = restrict_image (below w s) f b i j hi hj h

  -- and where its gap is
  gap_small : gap (restrict (below w s) f) ≡ i * w + j
  gap_small = restrict_gap (below w s) f b i j hi hj h

  -- the gap walks, and one tile stays
  pub walk_below : (x y p q : ℕ) → x < s → y < w → q < w → (p ≡ i → q ≡ j → ⊥) → (p ≡ x → q ≡ y → ⊥) → WalkedBelow w s f (apart i x + apart j y + 2) x y p q
  walk_below x y p q hx hy hq n m =
      let r = walk w s p q hq (restrict (below w s) f) i j x y small.small w2 s2 gap_small hi hj hx hy n m in
      let l = restrict_lift (below w s) f b i j hi hj h r.way in
      record {
        to = l.to;
        way = l.way;
        board = l.image.big;
        gap = l.image.hole x y hx hy r.gap;
        kept = λ hp. l.image.cells p q hp hq ∙ r.kept ∙ sym (small.cells p q hp hq);
        first = λ c hc. l.rest c (outside_below w s c hc);
      }

  -- a tile is brought
  pub bring_below : (u v p q : ℕ) → u < s → v < w → p < s → q < w → (p ≡ i → q ≡ j → ⊥) → BroughtBelow w s f (5 * (apart p u + apart q v) + (apart i p + apart j q)) u v (at f (suc p * w + q))
  bring_below u v p q hu hv hp hq n =
      let r = bring w s w2 s2 u v hu hv (apart p u + apart q v) (restrict (below w s) f) i j p q small.small gap_small hi hj hp hq n refl in
      let l = restrict_lift (below w s) f b i j hi hj h r.way in
      record {
        to = l.to;
        way = l.way;
        board = l.image.big;
        tile = l.image.cells u v hu hv ∙ r.tile ∙ sym (small.cells p q hp hq);
        i = r.i;
        j = r.j;
        gap = l.image.hole r.i r.j r.row r.col r.gap;
        row = r.row;
        col = r.col;
        off = r.off;
        first = λ c hc. l.rest c (outside_below w s c hc);
      }
