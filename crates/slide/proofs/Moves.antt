-- One move: the gap goes to a neighbour, and the tile there comes to where the gap was.
use Rattle.std.proofs.Common.{◌≡◌, ℕ, zero, suc, ◌+◌, ◌-◌, ◌*◌, ◌%◌, ◌<◌, true, ◌≢◌, length, get_or, set, sym, refl, ap, ◌∙◌, subst, arith}
use Rattle.std.proofs.lemmas.Bool.{lt-ltb, le-leb, ltb-true, leb-true, false≢true}
use Rattle.std.proofs.lemmas.Nat.{mod-mul-add, div-mul-add, mul-add-lt, div_below}
use Rattle.slide.specs.Tiles.{Frame, at, gap, gap_in, from, can, moved}
use Rattle.slide.specs.Calls.{laid}
use Rattle.slide.proofs.Exchange.{swap, swap_length, swap_first, swap_second, swap_other}
use Rattle.slide.proofs.Gap.{gap_zero, gap_is, swap_zero}
use Rattle.slide.proofs.Cells.{Dir, U, D, L, R, num, Next, next_in, next_ne, pos_apart, Cell, cell}
use Rattle.slide.proofs.Proper.{Gapped, Board, own_board, on_board}
use Rattle.slide.proofs.Ways.{Way, once}

-- a move is an exchange with the gap
pub moved_is : (f : Frame) (m : ℕ) → moved f m ≡ laid f (swap f.cells (gap f) (from f m))
moved_is f m = ap (λ v. laid f (set (set f.cells (gap f) (get_or f.cells (from f m) 0)) (from f m) v)) (sym (gap_zero f.cells))

-- a neighbour of the gap can be moved, and which place the tile comes from
pub can_go : (f : Frame) (d : Dir) {i j x y : ℕ} → gap f ≡ i * f.wide + j → Next f.wide f.tall d i j x y →
    (can f (num d) ≡ true) × (from f (num d) ≡ x * f.wide + y)
unfolding can from
can_go f U e n = let k = rw n.is.0 at e in (le-leb f.wide (gap f) (omega arith), omega arith)
can_go f D {x = x} {y = y} e n =
    let k = rw n.is.0 at (mul-add-lt x f.wide y f.tall (omega arith) (omega arith)) in
    (lt-ltb (gap f + f.wide) (f.wide * f.tall) (omega arith), rw n.is.0 (omega arith))
can_go f L {i} {j} e n =
    let k : gap f % f.wide ≡ j = rw e (mod-mul-add i f.wide j (omega arith)) in
    (lt-ltb 0 (gap f % f.wide) (omega arith), rw n.is.0 (omega arith))
can_go f R {i} {j} e n =
    let k : gap f % f.wide ≡ j = rw e (mod-mul-add i f.wide j (omega arith)) in
    (lt-ltb (gap f % f.wide + 1) f.wide (omega arith), rw n.is.0 (omega arith))

-- ---- what a move of the gap from row i and column j to row x and column y leaves
pub record Went (w t : ℕ) (f : Frame) (i j x y : ℕ) (g : Frame) : Type 0 where
  pub way : Way f 1 g
  pub board : Board w t g
  pub gap : gap g ≡ x * w + y
  pub swap : at g (i * w + j) ≡ at f (x * w + y)
  pub rest : (q : ℕ) → q ≢ i * w + j → q ≢ x * w + y → at g q ≡ at f q

-- the gap is a 0
pub went_zero : {w t : ℕ} {f g : Frame} {i j x y : ℕ} → Went w t f i j x y g → at g (x * w + y) ≡ 0
went_zero {g = g} h = ap (at g) (sym h.gap) ∙ gap_zero g.cells

-- the gap exchanged with another cell is there after that, and nowhere else
swap_gapped : (f : Frame) (h : ℕ) → Gapped f → h < f.wide * f.tall → gap f ≢ h → Gapped (laid f (swap f.cells (gap f) h)) × (gap_in (swap f.cells (gap f) h) ≡ h)
swap_gapped f h s l n =
    let cs = f.cells in
    let k : h < length cs = rw s.len l in
    let e = swap_length cs (gap f) h in
    let only = swap_zero cs (gap f) h (rw s.len s.has) k n (λ q l o. s.one q (rw s.len at l) o) in
    let there = gap_is (swap cs (gap f) h) h (rw e k) (swap_second cs (gap f) h k ∙ gap_zero cs) (λ q l. only q (rw e at l)) in
    (record { len = e ∙ s.len; has = rw there l; one = λ q l o. rw there (only q (rw s.len l) o) }, there)

-- what a move to a neighbour leaves, with the frame's own sides
go_here : (f : Frame) (d : Dir) {i j x y : ℕ} → Gapped f → gap f ≡ i * f.wide + j → Next f.wide f.tall d i j x y → Went f.wide f.tall f i j x y (moved f (num d))
go_here f d {i} {j} {x} {y} s e n =
    let c = can_go f d e n in
    let b = next_in n in
    let l : from f (num d) < f.wide * f.tall = rw c.1 (mul-add-lt x f.wide y f.tall b.0 b.1) in
    let ne : gap f ≢ from f (num d) = rw (e, c.1) (pos_apart f.wide i j x y b.3 b.1 (next_ne n)) in
    let g = swap_gapped f (from f (num d)) s l ne in
    let m = moved_is f (num d) in
    let z : (moved f (num d)).cells ≡ swap f.cells (gap f) (from f (num d)) = ap (λ k. k.cells) m in
    record {
      way = once f (num d) c.0;
      board = rw m (own_board (laid f (swap f.cells (gap f) (from f (num d)))) g.0);
      gap = rw z (g.1 ∙ c.1);
      swap = rw (z, ← e, ← c.1) (swap_first f.cells (gap f) (from f (num d)) (rw s.len s.has) ne);
      rest = rw (z, ← e, ← c.1) (swap_other f.cells (gap f) (from f (num d)));
    }

-- the same with the sides named
pub go : {w t : ℕ} {f : Frame} {d : Dir} {i j x y : ℕ} → Board w t f → gap f ≡ i * w + j → Next w t d i j x y → Went w t f i j x y (moved f (num d))
go {f = f} {d = d} {i = i} {j = j} {x = x} {y = y} b = on_board (λ v s. gap f ≡ i * v + j → Next v s d i j x y → Went v s f i j x y (moved f (num d))) b (go_here f d b.gapped)

-- ---- and the other way round: a move that can be made is one to a neighbour
pub record Step (w t : ℕ) (f : Frame) (m : ℕ) : Type 0 where
  pub d : Dir
  pub i : ℕ
  pub j : ℕ
  pub x : ℕ
  pub y : ℕ
  pub is : m ≡ num d
  pub gap : gap f ≡ i * w + j
  pub next : Next w t d i j x y

-- which neighbour it is, with the frame's own sides
step_here : (f : Frame) (m : ℕ) → Gapped f → can f m ≡ true → Step f.wide f.tall f m
unfolding can
step_here f m good c = by (cell f.wide f.tall (gap f) good.has) m c
  where
    by : Cell f.wide f.tall (gap f) → (m : ℕ) → can f m ≡ true → Step f.wide f.tall f m
    by g zero c =
        let k : g.row ≢ 0 = λ z. let o = rw z at g.is in omega (arith, leb-true _ _ c) in
        record { d = U; i = g.row; j = g.col; x = g.row - 1; y = g.col; is = refl; gap = g.is; next = omega arith }
    by g (suc zero) c =
        let l : suc g.row < f.tall = rw (div-mul-add (suc g.row) f.wide g.col g.within) at (div_below (suc g.row * f.wide + g.col) f.wide f.tall (omega arith) (omega (arith, ltb-true _ _ c))) in
        record { d = D; i = g.row; j = g.col; x = suc g.row; y = g.col; is = refl; gap = g.is; next = omega arith }
    by g (suc (suc zero)) c =
        let e : gap f % f.wide ≡ g.col = rw g.is (mod-mul-add g.row f.wide g.col g.within) in
        let k = ltb-true 0 (gap f % f.wide) c in
        record { d = L; i = g.row; j = g.col; x = g.row; y = g.col - 1; is = refl; gap = g.is; next = omega arith }
    by g (suc (suc (suc zero))) c =
        let e : gap f % f.wide ≡ g.col = rw g.is (mod-mul-add g.row f.wide g.col g.within) in
        let k = ltb-true (gap f % f.wide + 1) f.wide c in
        record { d = R; i = g.row; j = g.col; x = g.row; y = suc g.col; is = refl; gap = g.is; next = omega arith }
    by g (suc (suc (suc (suc m)))) c = absurd (false≢true c)

-- with the sides named
pub step : {w t : ℕ} (f : Frame) (m : ℕ) → Board w t f → can f m ≡ true → Step w t f m
step f m b c = on_board (λ v s. Step v s f m) b (step_here f m b.gapped c)

-- both cells are in the frame
pub step_in : {w t : ℕ} {f : Frame} {m : ℕ} (s : Step w t f m) → (s.x < t) × (s.y < w) × (s.i < t) × (s.j < w)
step_in s = next_in s.next

-- what it leaves
pub step_went : {w t : ℕ} {f : Frame} {m : ℕ} → Board w t f → (s : Step w t f m) → Went w t f s.i s.j s.x s.y (moved f m)
step_went {w} {t} {f} {m} b s = subst (λ n. Went w t f s.i s.j s.x s.y (moved f n)) (sym s.is) (go b s.gap s.next)

-- the place that the tile comes from
pub step_from : (f : Frame) (m : ℕ) → (s : Step f.wide f.tall f m) → from f m ≡ s.x * f.wide + s.y
step_from f m s = ap (from f) s.is ∙ (can_go f s.d s.gap s.next).1
