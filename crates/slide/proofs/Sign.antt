-- A move keeps the sign, and an exchange of two tiles turns it.
use Rattle.std.proofs.Common.{◌≡◌, ℕ, suc, ◌+◌, ◌*◌, ◌/◌, ◌%◌, ◌<◌, true, eqb, ◌≢◌, List, get_or, sym, refl, ap, ◌∙◌, arith}
use Rattle.std.proofs.lemmas.Bool.Decides.{nat_tests}
use Rattle.std.proofs.lemmas.Nat.{div-mul-add}
use Rattle.slide.specs.Tiles.{pick, Frame, at, gap, gap_in, from, can, moved, Brings, wrong_pairs, sign, proper}
use Rattle.slide.specs.Calls.{home, Unsolvable}
use Rattle.slide.specs.Promise.{exchanged}
use Rattle.slide.proofs.Exchange.{swap, swap_other}
use Rattle.slide.proofs.Gap.{gap_zero, gap_is}
use Rattle.slide.proofs.Pigeonhole.{once_swap, once_apart}
use Rattle.slide.proofs.Parity.{Apart, tiles_parity, gap_parity}
use Rattle.slide.proofs.Cells.{Dir, U, D, L, R, Next}
use Rattle.slide.proofs.Proper.{Proper, is_proper, alone, proper_swap}
use Rattle.slide.proofs.Ways.{Way, by_moves, along}
use Rattle.slide.proofs.Moves.{moved_is, step_in, step_from}
use Rattle.slide.proofs.Back.{source, own_step, moved_proper}

-- no two cells hold the same
cells_apart : (f : Frame) → Proper f → Apart f.cells
cells_apart f s k l a b = alone f s k l (omega (arith, s.gapped.len)) (omega (arith, s.gapped.len))

-- ---- two tiles exchanged: the gap stays, and the inversions turn from odd to even or back
gap_stays : (f : Frame) (i j : ℕ) → Proper f → i < f.wide * f.tall → j < f.wide * f.tall → i ≢ j → at f i ≢ 0 → at f j ≢ 0 → gap_in (swap f.cells i j) ≡ gap f
gap_stays f i j s hi hj n ni nj =
    let cs = f.cells in
    let o = once_swap (f.wide * f.tall) cs s.each i j hi hj n in
    let gi : gap f ≢ i = λ e. ni (ap (at f) (sym e) ∙ gap_zero cs) in
    let gj : gap f ≢ j = λ e. nj (ap (at f) (sym e) ∙ gap_zero cs) in
    let z : get_or (swap cs i j) (gap f) 0 ≡ 0 = swap_other cs i j (gap f) gi gj ∙ gap_zero cs in
    gap_is (swap cs i j) (gap f) (omega (arith, o.long, s.gapped.has)) z
    (λ q l v. once_apart (f.wide * f.tall) (swap cs i j) o q (gap f) (omega (arith, o.long)) s.gapped.has (v ∙ sym z))

-- so the frame stays proper
pub exchanged_proper : (f : Frame) (i j : ℕ) → proper f ≡ true → i < f.wide * f.tall → j < f.wide * f.tall → i ≢ j → proper (exchanged f i j) ≡ true
unfolding exchanged
exchanged_proper f i j h hi hj n = proper_swap f i j h hi hj n

-- and its sign is the other one
pub exchanged_sign : (f : Frame) (i j : ℕ) → proper f ≡ true → i < f.wide * f.tall → j < f.wide * f.tall → i ≢ j → at f i ≢ 0 → at f j ≢ 0 → sign (exchanged f i j) ≢ sign f
unfolding exchanged
exchanged_sign f i j h hi hj n ni nj q =
    let s = is_proper f h in
    let e = gap_stays f i j s hi hj n ni nj in
    let p = tiles_parity f.cells i j (cells_apart f s) n (omega (arith, s.gapped.len)) (omega (arith, s.gapped.len)) ni nj in
    omega (arith, p, rw e at q)

-- ---- a move: the gap's row and its place turn together
-- a row, where it counts
abbrev counted : ℕ → ℕ → ℕ
counted w r = pick (eqb (w % 2) 0) r 0

-- that of a place, by row and column
counted_at : (w i j : ℕ) → j < w → counted w ((i * w + j) / w) ≡ counted w i
counted_at w i j l = ap (counted w) (div-mul-add i w j l)

-- one row on
counted_next : (w i : ℕ) → (counted w i + counted w (suc i) + w) % 2 ≡ 1
counted_next w i = grind (arith, nat_tests)

-- a step of the gap turns the row that counts, or its place, or both and the width with them
counted_step : (w t : ℕ) (d : Dir) {i j x y : ℕ} → Next w t d i j x y → (counted w i + counted w x + (i * w + j) + (x * w + y)) % 2 ≡ 1
counted_step w t U {x = x} n = rw n.is.0 (omega (arith, counted_next w x))
counted_step w t D {i} n = rw n.is.0 (omega (arith, counted_next w i))
counted_step w t L n = rw n.is.0 (omega arith)
counted_step w t R n = rw n.is.0 (omega arith)

-- a move keeps the sign
pub sign_kept : (f : Frame) (m : ℕ) → proper f ≡ true → can f m ≡ true → sign (moved f m) ≡ sign f
sign_kept f m h c =
    let s = is_proper f h in
    let r = own_step f m s c in
    let b = step_in r in
    let p = source f m s r in
    let e = step_from f m r in
    let q = gap_parity f.cells (gap f) (from f m) (cells_apart f s) p.other (omega (arith, s.gapped.len, s.gapped.has)) (omega (arith, s.gapped.len, p.within)) (gap_zero f.cells) in
    let wrong = ap (λ g. wrong_pairs g.cells) (moved_is f m) in
    let before = ap (λ g. counted f.wide (g / f.wide)) r.gap ∙ counted_at f.wide r.i r.j b.3 in
    let after = ap (λ g. counted f.wide (g / f.wide)) (p.gap ∙ e) ∙ counted_at f.wide r.x r.y b.1 in
    omega (arith, wrong, q, before, after, counted_step f.wide f.tall r.d r.next)

-- and so does a way
pub way_sign : {f g : Frame} {n : ℕ} → proper f ≡ true → Way f n g → sign f ≡ sign g
way_sign {f} {g} {n} h r =
    (along (λ k. (proper k ≡ true) × (sign f ≡ sign k)) (λ k m p c. (moved_proper k m p.0 c, p.1 ∙ sym (sign_kept k m p.0 c))) (h, refl) r).1

-- so a frame is brought only to frames of its own sign
pub brings_sign : (f g : Frame) (ms : List ℕ) → proper f ≡ true → Brings f ms g → sign f ≡ sign g
brings_sign f g ms h b = way_sign h (by_moves ms b)

-- and one whose sign is not that of the frame in order never comes in order
pub never_by_sign : (f : Frame) → proper f ≡ true → sign f ≢ sign (home f) → Unsolvable f
never_by_sign f h n ms b = n (brings_sign f (home f) ms h b)
