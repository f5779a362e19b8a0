-- Fixed moves in a block of four or of six cells.
use Rattle.std.proofs.Common.{◌≡◌, ℕ, suc, ◌+◌, ◌*◌, ◌<◌, ◌≤◌, true, List, [], ◌∷◌, get_or, sym, refl, ap, ◌∙◌, inl, inr, arith, lit<}
use Rattle.std.proofs.lemmas.Bool.{cases_eq}
use Rattle.std.proofs.lemmas.Nat.{same_from_place}
use Rattle.slide.specs.Tiles.{Frame, at, gap, gap_in, from, can, can_all, after_all}
use Rattle.slide.proofs.Proper.{Board}
use Rattle.slide.proofs.Ways.{Way}
use Rattle.reach.proofs.Parts.{Part, block, Lifted, Outside}
use Rattle.reach.proofs.Restricted.{tabulate, number, named, numbered}

-- the moves of the gap: up, left, down
turn_can : can_all (tabulate 2 2 (number 3)) (0 ∷ 2 ∷ 1 ∷ []) ≡ true
unfolding can_all can from gap_in
turn_can = refl

-- the three tiles have gone on by one, with the gap below the first
turn_end : (after_all (tabulate 2 2 (number 3)) (0 ∷ 2 ∷ 1 ∷ [])).cells ≡ 3 ∷ 1 ∷ 0 ∷ 2 ∷ []
unfolding after_all can from gap_in
turn_end = refl

-- twice up, left, down, right, down, left, twice up, right, down
abbrev corner_moves : List ℕ
corner_moves = 0 ∷ 0 ∷ 2 ∷ 1 ∷ 3 ∷ 1 ∷ 2 ∷ 0 ∷ 0 ∷ 3 ∷ 1 ∷ []

-- in a block of two by three with the gap last they can be made
corner_can : can_all (tabulate 2 3 (number 5)) corner_moves ≡ true
unfolding can_all can from gap_in
corner_can = refl

-- the first tile is back in its cell, and the fourth stands beside it
corner_end : (after_all (tabulate 2 3 (number 5)) corner_moves).cells ≡ 1 ∷ 4 ∷ 3 ∷ 0 ∷ 2 ∷ 5 ∷ []
unfolding after_all can from gap_in
corner_end = refl

-- the first k cells stay
abbrev pub Keeps : ℕ → Frame → Frame → Type 0
Keeps k f g = (j : ℕ) → j < k → at g j ≡ at f j

-- what stands in the first row before the block is not in it
outside_block : (n a w t c : ℕ) (hw : c + n ≤ w) (ht : a ≤ t) (q : ℕ) → q < c → Outside (block n a w t c hw ht) q
outside_block n a w t c hw ht q h i j hi hj s =
    let r = same_from_place 0 q i (c + j) w (omega arith) (omega arith) (omega arith) in omega arith

-- in the first two rows and the columns c and c + 1, with the gap in the last of the four cells: the tiles go round
pub record Turned (w t : ℕ) (f : Frame) (c : ℕ) : Type 0 where
  pub to : Frame
  pub way : Way f 3 to
  pub board : Board w t to
  pub gap : gap to ≡ 1 * w + c
  pub keeps : Keeps c f to
  pub up : at to c ≡ at f (1 * w + c)
  pub down : at to (1 * w + suc c) ≡ at f (suc c)

module _ {n a w t : ℕ} {e : Part n a w t} {f g : Frame} {k : ℕ} {cs : List ℕ} (r : Lifted e (named e f) f g k) (z : g.cells ≡ cs) where
  -- what the numbers of the block say of the tiles, and of the gap
  pub read : (i j : ℕ) → i < a → j < n → (p q : ℕ) → p ≡ e.row i j * w + e.col i j → named e f (get_or cs (i * n + j) 0) ≡ at f q → at r.to p ≡ at f q
  read i j hi hj p q u v = ap (at r.to) u ∙ r.image.cells i j hi hj ∙ ap (λ l. named e f (get_or l (i * n + j) 0)) z ∙ v

  -- and of the gap
  pub read_gap : (i j : ℕ) → i < a → j < n → gap_in cs ≡ i * n + j → (p : ℕ) → p ≡ e.row i j * w + e.col i j → gap r.to ≡ p
  read_gap i j hi hj v p u = r.image.hole i j hi hj (ap gap_in z ∙ v) ∙ sym u

-- up, left, down
pub turn : (w t : ℕ) (f : Frame) (c : ℕ) → Board w t f → c + 2 ≤ w → 2 ≤ t → gap f ≡ 1 * w + suc c → Turned w t f c
unfolding gap_in
turn w t f c b hw ht h =
    let e = block 2 2 w t c hw ht in
    let r = numbered e f b 1 1 (lit< tt) (lit< tt) (h ∙ omega arith) (0 ∷ 2 ∷ 1 ∷ []) turn_can in
    record {
      to = r.to;
      way = r.way;
      board = r.image.big;
      gap = read_gap r turn_end 1 0 (lit< tt) (lit< tt) refl (1 * w + c) (omega arith);
      keeps = λ j l. r.rest j (outside_block 2 2 w t c hw ht j l);
      up = read r turn_end 0 0 (lit< tt) (lit< tt) c (1 * w + c) (omega arith) (ap (at f) (omega arith));
      down = read r turn_end 1 1 (lit< tt) (lit< tt) (1 * w + suc c) (suc c) (omega arith) (ap (at f) (omega arith));
    }

-- in the first three rows and the columns c and c + 1, with the gap in the last of the six cells: the tile above it goes up by one, and that at its left stays
pub record Cornered (w t : ℕ) (f : Frame) (c : ℕ) : Type 0 where
  pub to : Frame
  pub way : Way f 11 to
  pub board : Board w t to
  pub gap : gap to ≡ 1 * w + suc c
  pub keeps : Keeps (suc c) f to
  pub up : at to (suc c) ≡ at f (1 * w + suc c)

-- the eleven moves in any frame of three rows or more
pub corner : (w t : ℕ) (f : Frame) (c : ℕ) → Board w t f → c + 2 ≤ w → 3 ≤ t → gap f ≡ 2 * w + suc c → Cornered w t f c
unfolding gap_in
corner w t f c b hw ht h =
    let e = block 2 3 w t c hw ht in
    let r = numbered e f b 2 1 (lit< tt) (lit< tt) (h ∙ omega arith) corner_moves corner_can in
    let first : (j : ℕ) → j ≡ c → at r.to j ≡ at f j = λ j u. read r corner_end 0 0 (lit< tt) (lit< tt) j j (omega arith) (ap (at f) (omega arith)) in
    record {
      to = r.to;
      way = r.way;
      board = r.image.big;
      gap = read_gap r corner_end 1 1 (lit< tt) (lit< tt) refl (1 * w + suc c) (omega arith);
      keeps = λ j l. elim (cases_eq j c) [ inl u ↦ first j u | inr u ↦ r.rest j (outside_block 2 3 w t c hw ht j (omega arith)) ];
      up = read r corner_end 0 1 (lit< tt) (lit< tt) (suc c) (1 * w + suc c) (omega arith) (ap (at f) (omega arith));
    }

-- ---- four cells, the gap in the last: the three tiles go round by one
rot_can : can_all (tabulate 2 2 (number 3)) (0 ∷ 2 ∷ 1 ∷ 3 ∷ []) ≡ true
unfolding can_all can from gap_in
rot_can = refl

-- the gap is back in the last cell
rot_end : (after_all (tabulate 2 2 (number 3)) (0 ∷ 2 ∷ 1 ∷ 3 ∷ [])).cells ≡ 3 ∷ 1 ∷ 2 ∷ 0 ∷ []
unfolding after_all can from gap_in
rot_end = refl

-- the gap is last again, and the tiles went on by one
pub record Round (f : Frame) : Type 0 where
  pub to : Frame
  pub way : Way f 4 to
  pub board : Board 2 2 to
  pub gap : gap to ≡ 3
  pub c0 : at to 0 ≡ at f 2
  pub c2 : at to 2 ≡ at f 1

-- the four moves in any frame of two by two
pub round : (f : Frame) → Board 2 2 f → gap f ≡ 3 → Round f
unfolding gap_in
round f b h =
    let e = block 2 2 2 2 0 (omega arith) (omega arith) in
    let r = numbered e f b 1 1 (lit< tt) (lit< tt) h (0 ∷ 2 ∷ 1 ∷ 3 ∷ []) rot_can in
    record {
      to = r.to;
      way = r.way;
      board = r.image.big;
      gap = read_gap r rot_end 1 1 (lit< tt) (lit< tt) refl 3 refl;
      c0 = read r rot_end 0 0 (lit< tt) (lit< tt) 0 2 refl refl;
      c2 = read r rot_end 1 0 (lit< tt) (lit< tt) 2 1 refl refl;
    }
