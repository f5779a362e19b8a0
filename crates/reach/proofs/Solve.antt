-- A frame is brought to a target, or to the target with two tiles exchanged.
use Rattle.std.proofs.Common.{◌≡◌, ℕ, suc, ◌+◌, ◌-◌, ◌*◌, ◌<◌, ◌≢◌, ◌⊎◌, sym, refl, ap, ◌∙◌, inl, inr, arith}
use Rattle.slide.specs.Tiles.{Frame, at, gap}
use Rattle.slide.proofs.Proper.{Board}
use Rattle.slide.proofs.Cells.{Cell, pos_apart}
use Rattle.slide.proofs.Ways.{Way}
use Rattle.slide.proofs.Gap.{gap_zero}
use Rattle.reach.proofs.Parts.{Part, Image, Lifted, Outside}
use Rattle.reach.proofs.Restricted.{restrict_image, restrict, restrict_lift, same}

-- a row and a column that hold v
pub record Holds (w t : ℕ) (f : Frame) (v : ℕ) : Type 0 where
  pub row : ℕ
  pub col : ℕ
  pub below : row < t
  pub within : col < w
  pub is : at f (row * w + col) ≡ v

-- what a target must be for the frame: its tiles are there, no two are the same, and the gap is last
pub record Full (w t : ℕ) (f : Frame) (T : ℕ → ℕ → ℕ) : Type 0 where
  pub occurs : (i j : ℕ) → i < t → j < w → Holds w t f (T i j)
  pub apart : (i j x y : ℕ) → i < t → j < w → x < t → y < w → T i j ≡ T x y → (i ≡ x) × (j ≡ y)
  pub last : (i j : ℕ) → suc i ≡ t → suc j ≡ w → T i j ≡ 0

-- g is the target but for two tiles exchanged, in rows ai and bi and columns aj and bj, unless these are the same
pub record Nearly (w t : ℕ) (g : Frame) (T : ℕ → ℕ → ℕ) : Type 0 where
  pub board : Board w t g
  pub ai : ℕ
  pub aj : ℕ
  pub bi : ℕ
  pub bj : ℕ
  pub in_a : (ai < t) × (aj < w)
  pub in_b : (bi < t) × (bj < w)
  pub at_a : at g (ai * w + aj) ≡ T bi bj
  pub at_b : at g (bi * w + bj) ≡ T ai aj
  pub rest : (i j : ℕ) → i < t → j < w → (i ≡ ai → j ≡ aj → ⊥) → (i ≡ bi → j ≡ bj → ⊥) → at g (i * w + j) ≡ T i j
  pub kind : ((ai ≡ bi) × (aj ≡ bj)) ⊎ ((T ai aj ≢ 0) × (T bi bj ≢ 0))

-- f is brought to such a frame in n moves or fewer
pub record Solved (w t : ℕ) (f : Frame) (n : ℕ) (T : ℕ → ℕ → ℕ) : Type 0 where
  pub to : Frame
  pub way : Way f n to
  pub nearly : Nearly w t to T
  pub open nearly use *

-- every frame of that size is brought to every target, up to one exchange, in n moves
abbrev pub Solves : ℕ → ℕ → ℕ → Type 0
Solves w t n = (f : Frame) (T : ℕ → ℕ → ℕ) → Board w t f → Full w t f T → Solved w t f n T

-- ---- a part is solved, and all else is in order before
-- row x and column y are those of a cell of the part
pub record Within {n a w t : ℕ} (e : Part n a w t) (x y : ℕ) : Type 0 where
  pub i : ℕ
  pub j : ℕ
  pub below : i < a
  pub within : j < n
  pub row : x ≡ e.row i j
  pub col : y ≡ e.col i j

-- a cell that is not in the part
abbrev pub Beyond : {n a w t : ℕ} → Part n a w t → ℕ → ℕ → Type 0
Beyond {n} {a} {w} {t} e x y = (i j : ℕ) → i < a → j < n → x ≡ e.row i j → y ≡ e.col i j → ⊥

-- by rows and columns, and by places
beyond_outside : {n a w t : ℕ} (e : Part n a w t) (x y : ℕ) → y < w → Beyond e x y → Outside e (x * w + y)
beyond_outside {n} {a} {w} {t} e x y hy o i j hi hj = pos_apart w x y (e.row i j) (e.col i j) hy (e.inside i j hi hj).1 (o i j hi hj)

module _ {n a w t : ℕ} (e : Part n a w t) (n0 : 0 < n) (a0 : 0 < a) (end : (i j : ℕ) → suc i ≡ a → suc j ≡ n → (suc (e.row i j) ≡ t) × (suc (e.col i j) ≡ w))
    (f : Frame) (T : ℕ → ℕ → ℕ) (b : Board w t f) (u : Full w t f T)
    (cover : (x y : ℕ) → x < t → y < w → (Within e x y) ⊎ (Beyond e x y × (at f (x * w + y) ≡ T x y))) where
  -- what the part must become
  abbrev part_target : ℕ → ℕ → ℕ
  part_target i j = T (e.row i j) (e.col i j)

  -- a cell that holds a tile of the part's target is in the part
  found : (i j : ℕ) → i < a → j < n → (h : Holds w t f (T (e.row i j) (e.col i j))) → Within e h.row h.col
  found i j hi hj h =
      elim (cover h.row h.col h.below h.within) [
        | inl r ↦ r
        | inr r ↦
            let k = e.inside i j hi hj in
            let s = u.apart h.row h.col (e.row i j) (e.col i j) h.below h.within k.0 k.1 (sym r.1 ∙ h.is) in
            absurd (r.0 i j hi hj s.0 s.1)
      ]

  -- the gap is in the part
  gap_within : (c : Cell w t (gap f)) → Within e c.row c.col
  gap_within c =
      let z = end (a - 1) (n - 1) (omega arith) (omega arith) in
      found (a - 1) (n - 1) (omega arith) (omega arith)
      (record {
        row = c.row;
        col = c.col;
        below = c.below;
        within = c.within;
        is = ap (at f) (sym c.is) ∙ gap_zero f.cells ∙ sym (u.last (e.row (a - 1) (n - 1)) (e.col (a - 1) (n - 1)) z.0 z.1);
      })

  module _ (gi gj : ℕ) (hi : gi < a) (hj : gj < n) (h : gap f ≡ e.row gi gj * w + e.col gi gj) where
    image : Image e same f (restrict e f)
    image = restrict_image e f b gi gj hi hj h

    part_full : Full n a (restrict e f) part_target
    part_full = record {
      occurs = λ i j li lj.
          let k = e.inside i j li lj in
          let o = u.occurs (e.row i j) (e.col i j) k.0 k.1 in
          let v = found i j li lj o in
          record {
            row = v.i;
            col = v.j;
            below = v.below;
            within = v.within;
            is = sym (image.cells v.i v.j v.below v.within) ∙ rw (← v.row, ← v.col) o.is;
          };
      apart = λ i j x y li lj lx ly s.
          let k = e.inside i j li lj in
          let m = e.inside x y lx ly in
          let r = u.apart (e.row i j) (e.col i j) (e.row x y) (e.col x y) k.0 k.1 m.0 m.1 s in
          e.apart i j x y li lj lx ly r.0 r.1;
      last = λ i j p q. let z = end i j p q in u.last (e.row i j) (e.col i j) z.0 z.1;
    }

    -- once it is its target, all is
    nearly_all : (g : Frame) (k : ℕ) (l : Lifted e same f g k) → Nearly n a g part_target → Nearly w t l.to T
    nearly_all g k l r = record {
      board = l.image.big;
      ai = e.row r.ai r.aj;
      aj = e.col r.ai r.aj;
      bi = e.row r.bi r.bj;
      bj = e.col r.bi r.bj;
      in_a = e.inside r.ai r.aj r.in_a.0 r.in_a.1;
      in_b = e.inside r.bi r.bj r.in_b.0 r.in_b.1;
      at_a = l.image.cells r.ai r.aj r.in_a.0 r.in_a.1 ∙ r.at_a;
      at_b = l.image.cells r.bi r.bj r.in_b.0 r.in_b.1 ∙ r.at_b;
      rest = λ x y hx hy na nb.
          elim (cover x y hx hy) [
            | inl v ↦
                rw (v.row, v.col)
                (l.image.cells v.i v.j v.below v.within
                ∙ r.rest v.i v.j v.below v.within
                (λ p q. na (v.row ∙ rw (p, q) refl) (v.col ∙ rw (p, q) refl)) (λ p q. nb (v.row ∙ rw (p, q) refl) (v.col ∙ rw (p, q) refl)))
            | inr v ↦ l.rest (x * w + y) (beyond_outside e x y hy v.0) ∙ v.1
          ];
      kind = elim (r.kind) [ inl k ↦ inl (rw (k.0, k.1) refl, rw (k.0, k.1) refl) | inr k ↦ inr k ];
    }

    solved_part : (k : ℕ) → Solved n a (restrict e f) k part_target → Solved w t f k T
    solved_part k r =
        let l = restrict_lift e f b gi gj hi hj h r.way in
        record { to = l.to; way = l.way; nearly = nearly_all r.to k l r.nearly }

  -- the part solved, all is
  pub solve_part : (k : ℕ) → Solves n a k → (c : Cell w t (gap f)) → Solved w t f k T
  solve_part k s c =
      let v = gap_within c in
      let h : gap f ≡ e.row v.i v.j * w + e.col v.i v.j = rw (← v.row, ← v.col) c.is in
      solved_part v.i v.j v.below v.within h k
      (s (restrict e f) part_target (image v.i v.j v.below v.within h).small (part_full v.i v.j v.below v.within h))
