-- A part of a frame as a frame of its own: with the tiles that it has, and with its cells' numbers for tiles.
use Rattle.std.proofs.Common.{◌≡◌, ℕ, zero, suc, ◌+◌, ◌*◌, ◌/◌, ◌%◌, ◌<◌, true, eqb, List, map, length, sym, refl, ap, ◌∙◌, zero-add, inl, inr, arith}
use Rattle.std.specs.List.{range_with_len}
use Rattle.std.proofs.lemmas.List.FromFn.{length-map-range_with_len, get_or-map-range_with_len}
use Rattle.std.proofs.lemmas.Bool.{cases_eq, eq-eqb, ne_eqb}
use Rattle.std.proofs.lemmas.Bool.Decides.{nat_tests}
use Rattle.std.proofs.lemmas.Nat.{same_from_place, mod-mul-add, div-mul-add, mul-add-lt}
use Rattle.slide.specs.Tiles.{pick, Frame, at, gap, can_all, after_all}
use Rattle.slide.proofs.Proper.{Board}
use Rattle.slide.proofs.Cells.{cell}
use Rattle.slide.proofs.Ways.{Way}
use Rattle.slide.proofs.Gap.{gap_zero, gap_is}
use Rattle.reach.proofs.Parts.{Part, Image, Lifted, lift, lift_all}

-- a frame whose place p holds φ p
abbrev pub tabulate : ℕ → ℕ → (ℕ → ℕ) → Frame
tabulate n a φ = record { wide = n; tall = a; cells = map φ (range_with_len 0 (n * a)) }

module _ (n a : ℕ) (φ : ℕ → ℕ) where
  -- what it holds
  pub tabulate_at : (p : ℕ) → p < n * a → at (tabulate n a φ) p ≡ φ p
  tabulate_at p h = get_or-map-range_with_len φ 0 (n * a) p p 0 h (zero-add p)

  module _ (g : ℕ) (hg : g < n * a) (z : φ g ≡ 0) (u : (p : ℕ) → p < n * a → φ p ≡ 0 → p ≡ g) where
    -- its one gap is where φ is 0
    tabulate_one : (p : ℕ) → p < length (tabulate n a φ).cells → at (tabulate n a φ) p ≡ 0 → p ≡ g
    tabulate_one p h e = let l : p < n * a = rw (length-map-range_with_len φ 0 (n * a)) at h in u p l (sym (tabulate_at p l) ∙ e)

    tabulate_gap : gap (tabulate n a φ) ≡ g
    tabulate_gap = gap_is (tabulate n a φ).cells g (rw (length-map-range_with_len φ 0 (n * a)) hg) (tabulate_at g hg ∙ z) tabulate_one

    tabulate_board : Board n a (tabulate n a φ)
    tabulate_board = record {
      gapped = record {
        len = length-map-range_with_len φ 0 (n * a);
        has = rw tabulate_gap hg;
        one = λ q h e. tabulate_one q (rw (length-map-range_with_len φ 0 (n * a)) h) e ∙ sym tabulate_gap;
      };
      wide = refl;
      tall = refl;
    }

module _ {n a w t : ℕ} (e : Part n a w t) (tile : ℕ → ℕ) (φ : ℕ → ℕ) (f : Frame) (b : Board w t f) (gi gj : ℕ) (hi : gi < a) (hj : gj < n)
    (h : gap f ≡ e.row gi gj * w + e.col gi gj) where
  -- where φ tells the tiles of a part, that frame shows the part
  pub table_image : φ (gi * n + gj) ≡ 0 → ((p : ℕ) → p < n * a → φ p ≡ 0 → p ≡ gi * n + gj) →
      ((i j : ℕ) → i < a → j < n → at f (e.row i j * w + e.col i j) ≡ tile (φ (i * n + j))) → Image e tile f (tabulate n a φ)
  table_image z u c =
      let l : gi * n + gj < n * a = mul-add-lt gi n gj a hi hj in
      let mg = tabulate_gap n a φ (gi * n + gj) l z u in
      record {
        big = b;
        small = tabulate_board n a φ (gi * n + gj) l z u;
        cells = λ i j ai aj. c i j ai aj ∙ ap tile (sym (tabulate_at n a φ (i * n + j) (mul-add-lt i n j a ai aj)));
        hole = λ i j ai aj k. let r = same_from_place i j gi gj n aj hj (sym k ∙ mg) in rw (r.0, r.1) h;
      }

-- the place of the cell p of the part
abbrev pub spot : {n a w t : ℕ} → Part n a w t → ℕ → ℕ
spot {n} {a} {w} {t} e p = e.row (p / n) (p % n) * w + e.col (p / n) (p % n)

-- by row and column
spot_at : {n a w t : ℕ} (e : Part n a w t) (i j : ℕ) → j < n → spot e (i * n + j) ≡ e.row i j * w + e.col i j
spot_at {n} {a} {w} {t} e i j h = rw (div-mul-add i n j h, mod-mul-add i n j h) refl

-- with the tiles that it has
abbrev pub restrict : {n a w t : ℕ} → Part n a w t → Frame → Frame
restrict {n} {a} e f = tabulate n a (λ p. at f (spot e p))

-- the tiles keep their numbers
abbrev pub same : ℕ → ℕ
same l = l

-- with its cells' numbers, from 1 on, for tiles
abbrev pub number : ℕ → ℕ → ℕ
number g p = pick (eqb p g) 0 (suc p)

-- only the gap's cell has 0
number_gap : (g : ℕ) → number g g ≡ 0
number_gap g = grind (arith, nat_tests)

number_only : (g p : ℕ) → number g p ≡ 0 → p ≡ g
number_only g p z = grind (arith, nat_tests)

-- and the tile that such a number stands for
abbrev pub named : {n a w t : ℕ} → Part n a w t → Frame → ℕ → ℕ
named e f zero = 0
named e f (suc p) = at f (spot e p)

module _ {n a w t : ℕ} (e : Part n a w t) (f : Frame) (b : Board w t f) (gi gj : ℕ) (hi : gi < a) (hj : gj < n)
    (h : gap f ≡ e.row gi gj * w + e.col gi gj) where
  -- the part's one gap is the frame's
  spot_gap : spot e (gi * n + gj) ≡ gap f
  spot_gap = spot_at e gi gj hj ∙ sym h

  -- so a 0 stands there
  spot_zero : at f (spot e (gi * n + gj)) ≡ 0
  spot_zero = ap (at f) spot_gap ∙ gap_zero f.cells

  -- and nowhere else in the part
  spot_one : (p : ℕ) → p < n * a → at f (spot e p) ≡ 0 → p ≡ gi * n + gj
  spot_one p l z =
      let c = cell n a p l in
      let k = e.inside c.row c.col c.below c.within in
      let x = e.row c.row c.col in
      let y = e.col c.row c.col in
      let s : spot e p ≡ x * w + y = ap (spot e) c.is ∙ spot_at e c.row c.col c.within in
      let lt : x * w + y < f.wide * f.tall = rw (b.wide, b.tall) (mul-add-lt x w y t k.0 k.1) in
      let r = same_from_place x y (e.row gi gj) (e.col gi gj) w k.1 (e.inside gi gj hi hj).1 (b.gapped.one (x * w + y) lt (ap (at f) (sym s) ∙ z) ∙ h) in
      let q = e.apart c.row c.col gi gj c.below c.within hi hj r.0 r.1 in
      c.is ∙ rw (q.0, q.1) refl

  -- both show the part
  pub restrict_image : Image e same f (restrict e f)
  restrict_image = table_image e same (λ p. at f (spot e p)) f b gi gj hi hj h spot_zero spot_one (λ i j ai aj. ap (at f) (sym (spot_at e i j aj)))

  -- the part has its gap where the frame has
  pub restrict_gap : gap (restrict e f) ≡ gi * n + gj
  restrict_gap = tabulate_gap n a (λ p. at f (spot e p)) (gi * n + gj) (mul-add-lt gi n gj a hi hj) spot_zero spot_one

  -- what a cell holds is what its number stands for
  number_tile : (p : ℕ) → at f (spot e p) ≡ named e f (number (gi * n + gj) p)
  number_tile p = elim (cases_eq p (gi * n + gj)) [ inl k ↦ rw (eq-eqb p (gi * n + gj) k, k) spot_zero | inr k ↦ rw (ne_eqb p (gi * n + gj) k) refl ]

  -- and with its cells' numbers for tiles
  pub number_image : Image e (named e f) f (tabulate n a (number (gi * n + gj)))
  number_image =
      table_image e (named e f) (number (gi * n + gj)) f b gi gj hi hj h (number_gap (gi * n + gj)) (λ p l. number_only (gi * n + gj) p)
      (λ i j ai aj. ap (at f) (sym (spot_at e i j aj)) ∙ number_tile (i * n + j))

  -- a way in the part is one in the frame
  pub restrict_lift : {g : Frame} {k : ℕ} → Way (restrict e f) k g → Lifted e same f g k
  restrict_lift v = lift {tile = same} refl restrict_image v

  -- fixed moves that can be made on numbered cells can be made in the frame
  pub numbered : (ms : List ℕ) → can_all (tabulate n a (number (gi * n + gj))) ms ≡ true → Lifted e (named e f) f (after_all (tabulate n a (number (gi * n + gj))) ms) (length ms)
  numbered ms c = lift_all {tile = named e f} refl f (tabulate n a (number (gi * n + gj))) ms number_image c
