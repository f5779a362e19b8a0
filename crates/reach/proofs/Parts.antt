-- A small frame laid on a part of a larger one: what is done in the small one can be done in the larger, and changes nothing outside.
use Rattle.std.proofs.Common.{◌≡◌, ℕ, suc, ◌+◌, ◌*◌, ◌<◌, ◌≤◌, true, ◌≢◌, List, [], ◌∷◌, length, sym, refl, ap, ◌∙◌, inl, inr, arith}
use Rattle.std.proofs.lemmas.Bool.{and_parts, cases_eq}
use Rattle.std.proofs.lemmas.Nat.{same_from_place}
use Rattle.slide.specs.Tiles.{Frame, at, gap, can, moved, can_all, after_all}
use Rattle.slide.proofs.Moves.{Went, went_zero, go, step, step_in, step_went}
use Rattle.slide.proofs.Proper.{Board}
use Rattle.slide.proofs.Cells.{Dir, U, D, L, R, num, Next}
use Rattle.slide.proofs.Ways.{Way, stay, then, longer}

-- ---- a part of a frame w wide and t tall that is n wide and a tall, by itself: where its cells are, and its directions
pub record Part (n a w t : ℕ) : Type 0 where
  pub row : ℕ → ℕ → ℕ
  pub col : ℕ → ℕ → ℕ
  pub turn : Dir → Dir
  pub inside : (i j : ℕ) → i < a → j < n → (row i j < t) × (col i j < w)
  pub apart : (i j x y : ℕ) → i < a → j < n → x < a → y < n → row i j ≡ row x y → col i j ≡ col x y → (i ≡ x) × (j ≡ y)
  pub steps : (d : Dir) (i j x y : ℕ) → Next n a d i j x y → Next w t (turn d) (row i j) (col i j) (row x y) (col x y)

-- all rows but the first
abbrev pub below : (w s : ℕ) → Part w s w (suc s)
below w s = record {
  row = λ i j. suc i;
  col = λ i j. j;
  turn = λ d. d;
  inside = λ i j hi hj. omega arith;
  apart = λ i j x y _ _ _ _ p q. omega arith;
  steps = elim [ U ↦ (λ i j x y h. omega arith) | D ↦ (λ i j x y h. omega arith) | L ↦ (λ i j x y h. omega arith) | R ↦ (λ i j x y h. omega arith) ];
}

-- the first rows, and columns from c on
abbrev pub block : (n a w t c : ℕ) → c + n ≤ w → a ≤ t → Part n a w t
block n a w t c hw ht = record {
  row = λ i j. i;
  col = λ i j. c + j;
  turn = λ d. d;
  inside = λ i j hi hj. omega arith;
  apart = λ i j x y _ _ _ _ p q. omega arith;
  steps = elim [ U ↦ (λ i j x y h. omega arith) | D ↦ (λ i j x y h. omega arith) | L ↦ (λ i j x y h. omega arith) | R ↦ (λ i j x y h. omega arith) ];
}

-- rows for columns
abbrev pub swapped : Dir → Dir
swapped U = L
swapped D = R
swapped L = U
swapped R = D

-- the whole frame, with rows for columns
abbrev pub across : (w t : ℕ) → Part t w w t
across w t = record {
  row = λ i j. j;
  col = λ i j. i;
  turn = swapped;
  inside = λ i j hi hj. omega arith;
  apart = λ i j x y _ _ _ _ p q. omega arith;
  steps = elim [ U ↦ (λ i j x y h. omega arith) | D ↦ (λ i j x y h. omega arith) | L ↦ (λ i j x y h. omega arith) | R ↦ (λ i j x y h. omega arith) ];
}

-- ---- g shows the part of f: a number l of g stands for the tile «tile» l, and the gap for the gap
pub record Image {n a w t : ℕ} (e : Part n a w t) (tile : ℕ → ℕ) (f g : Frame) : Type 0 where
  pub big : Board w t f
  pub small : Board n a g
  pub cells : (i j : ℕ) → i < a → j < n → at f (e.row i j * w + e.col i j) ≡ tile (at g (i * n + j))
  pub hole : (i j : ℕ) → i < a → j < n → gap g ≡ i * n + j → gap f ≡ e.row i j * w + e.col i j

-- a place of the frame that is not in the part
abbrev pub Outside : {n a w t : ℕ} → Part n a w t → ℕ → Type 0
Outside {n} {a} {w} {t} e q = (i j : ℕ) → i < a → j < n → q ≢ e.row i j * w + e.col i j

-- other cells of the part are other places of the frame
part_apart : {n a w t : ℕ} (e : Part n a w t) (i j x y : ℕ) → i < a → j < n → x < a → y < n → i * n + j ≢ x * n + y → e.row i j * w + e.col i j ≢ e.row x y * w + e.col x y
part_apart {n} {a} {w} {t} e i j x y hi hj hx hy ne s =
    let r = same_from_place (e.row i j) (e.col i j) (e.row x y) (e.col x y) w (e.inside i j hi hj).1 (e.inside x y hx hy).1 s in
    let q = e.apart i j x y hi hj hx hy r.0 r.1 in
    ne (rw (q.0, q.1) refl)

module _ {n a w t : ℕ} {e : Part n a w t} {tile : ℕ → ℕ} (t0 : tile 0 ≡ 0) {f g : Frame} (s : Image e tile f g) where
  -- a move in both leaves it so
  pub image_went : {f' g' : Frame} {i j x y : ℕ} → x < a → y < n → i < a → j < n →
      Went n a g i j x y g' → Went w t f (e.row i j) (e.col i j) (e.row x y) (e.col x y) f' → Image e tile f' g'
  image_went {i = i} {j = j} {x = x} {y = y} hx hy hi hj wg wf = record {
    big = wf.board;
    small = wg.board;
    cells = λ p q hp hq.
        elim (cases_eq (p * n + q) (i * n + j)) [
          | inl k ↦ let r = same_from_place p q i j n hq hj k in rw (r.0, r.1) (wf.swap ∙ s.cells x y hx hy ∙ ap tile (sym wg.swap))
          | inr k ↦ elim (cases_eq (p * n + q) (x * n + y)) [
            | inl l ↦ let r = same_from_place p q x y n hq hy l in rw (r.0, r.1) (went_zero wf ∙ sym t0 ∙ ap tile (sym (went_zero wg)))
            | inr l ↦ wf.rest (e.row p q * w + e.col p q) (part_apart e p q i j hp hq hi hj k) (part_apart e p q x y hp hq hx hy l) ∙ s.cells p q hp hq ∙ ap tile (sym (wg.rest (p * n + q) k l))
          ]
        ];
    hole = λ p q hp hq h. let r = same_from_place p q x y n hq hy (sym h ∙ wg.gap) in rw (r.0, r.1) wf.gap;
  }

-- what a way in the small frame, to h, comes to in the larger
pub record Lifted {n a w t : ℕ} (e : Part n a w t) (tile : ℕ → ℕ) (f h : Frame) (k : ℕ) : Type 0 where
  pub to : Frame
  pub way : Way f k to
  pub image : Image e tile to h
  pub rest : (q : ℕ) → Outside e q → at to q ≡ at f q

module _ {n a w t : ℕ} {e : Part n a w t} {tile : ℕ → ℕ} (t0 : tile 0 ≡ 0) where
  -- one move, then moves, then a way
  lift_one : (f g : Frame) (m : ℕ) → Image e tile f g → can g m ≡ true → Lifted e tile f (moved g m) 1
  lift_one f g m s c =
      let r = step g m s.small c in
      let b = step_in r in
      let v = step_went s.small r in
      let u = go s.big (s.hole r.i r.j b.2 b.3 r.gap) (e.steps r.d r.i r.j r.x r.y r.next) in
      record {
        to = moved f (num (e.turn r.d));
        way = u.way;
        image = image_went t0 s b.0 b.1 b.2 b.3 v u;
        rest = λ q o. u.rest q (o r.i r.j b.2 b.3) (o r.x r.y b.0 b.1);
      }

  -- moves of the small frame, one after the other
  pub lift_all : (f g : Frame) (ms : List ℕ) → Image e tile f g → can_all g ms ≡ true → Lifted e tile f (after_all g ms) (length ms)
  unfolding can_all after_all
  lift_all f g [] s c = record { to = f; way = stay f; image = s; rest = λ q o. refl }
  lift_all f g (m ∷ ms) s c =
      let k = and_parts (can g m) (can_all (moved g m) ms) c in
      let r = lift_one f g m s k.0 in
      let z = lift_all r.to (moved g m) ms r.image k.1 in
      record { to = z.to; way = longer (omega arith) (then r.way z.way); image = z.image; rest = λ q o. z.rest q o ∙ r.rest q o }

  -- a way of the small frame
  pub lift : {f g h : Frame} {k : ℕ} → Image e tile f g → Way g k h → Lifted e tile f h k
  lift {f} {g} s v =
      let r = rw v.end at (lift_all f g v.ms s v.can) in
      record { to = r.to; way = longer v.short r.way; image = r.image; rest = r.rest }
