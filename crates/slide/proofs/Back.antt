-- A move made back, and so a way; a proper frame stays proper.
use Rattle.std.proofs.Common.{◌≡◌, ℕ, ◌*◌, ◌<◌, true, ◌≢◌, List, [], ◌∷◌, length, get_or, set, sym, ap, ◌∙◌, subst, arith}
use Rattle.std.proofs.lemmas.List.{get_or-set_same, get_or-set_other, set-set, set_comm, set-get_or}
use Rattle.std.proofs.lemmas.Bool.{and_parts}
use Rattle.std.proofs.lemmas.Nat.{mul-add-lt}
use Rattle.slide.specs.Tiles.{Frame, gap, from, can, moved, can_all, after_all, proper}
use Rattle.slide.specs.Calls.{laid}
use Rattle.slide.specs.Promise.{back}
use Rattle.slide.proofs.Gap.{gap_zero}
use Rattle.slide.proofs.Cells.{Dir, num, opposite, next_ne, next_back, pos_apart}
use Rattle.slide.proofs.Proper.{Proper, is_proper, own_board, proper_swap}
use Rattle.slide.proofs.Ways.{Way, stay, once, then, longer, along}
use Rattle.slide.proofs.Moves.{can_go, moved_is, Step, step, step_in, step_went, step_from}

-- the tile comes from another place of the frame, and that is where the gap goes
pub record Source (f : Frame) (m : ℕ) : Type 0 where
  pub within : from f m < f.wide * f.tall
  pub other : gap f ≢ from f m
  pub gap : gap (moved f m) ≡ from f m

-- the step that a move of a proper frame is
pub own_step : (f : Frame) (m : ℕ) → Proper f → can f m ≡ true → Step f.wide f.tall f m
own_step f m s c = step f m (own_board f s.gapped) c

-- a move that can be made has such a source
pub source : (f : Frame) (m : ℕ) → Proper f → Step f.wide f.tall f m → Source f m
source f m s r =
    let b = step_in r in
    let e = step_from f m r in
    record {
      within = rw e (mul-add-lt r.x f.wide r.y f.tall b.0 b.1);
      other = rw (e, r.gap) (pos_apart f.wide r.i r.j r.x r.y b.3 b.1 (next_ne r.next));
      gap = (step_went (own_board f s.gapped) r).gap ∙ sym e;
    }

-- the number of the move that makes it back
back_num : (d : Dir) → num (opposite d) ≡ back (num d)
back_num d = grind arith

-- which can be made, and takes the tile that came to where the gap was
back_step : (f : Frame) (m : ℕ) → Proper f → Step f.wide f.tall f m → (can (moved f m) (back m) ≡ true) × (from (moved f m) (back m) ≡ gap f)
back_step f m s r =
    let g = step_went (own_board f s.gapped) r in
    let n = next_back r.next in
    let c = can_go (moved f m) (opposite r.d) g.gap n in
    let e : back m ≡ num (opposite r.d) = ap back r.is ∙ sym (back_num r.d) in
    (rw e c.0, rw e (c.1 ∙ sym r.gap))

-- a tile from k to the gap at g, and back
back_cells : (cs : List ℕ) (g k : ℕ) → g < length cs → g ≢ k → get_or cs g 0 ≡ 0 →
    set (set (set (set cs g (get_or cs k 0)) k 0) k (get_or (set (set cs g (get_or cs k 0)) k 0) g 0)) g 0 ≡ cs
back_cells cs g k l n z =
    let u = get_or cs k 0 in
    let e : get_or (set (set cs g u) k 0) g 0 ≡ u = get_or-set_other (set cs g u) k g 0 0 n ∙ get_or-set_same cs g u 0 l in
    rw (e, set-set (set cs g u) k 0 u, set_comm cs g k u u n, set-get_or cs k 0, set-set cs g u 0) (rw z at (set-get_or cs g 0))

-- a move keeps the frame proper
pub moved_proper : (f : Frame) (m : ℕ) → proper f ≡ true → can f m ≡ true → proper (moved f m) ≡ true
moved_proper f m h c =
    let s = is_proper f h in
    let p = source f m s (own_step f m s c) in
    ap proper (moved_is f m) ∙ proper_swap f (gap f) (from f m) h s.gapped.has p.within p.other

-- the opposite move can be made after it
pub back_can : (f : Frame) (m : ℕ) → proper f ≡ true → can f m ≡ true → can (moved f m) (back m) ≡ true
back_can f m h c = let s = is_proper f h in (back_step f m s (own_step f m s c)).0

-- and makes it back
pub back_moved : (f : Frame) (m : ℕ) → proper f ≡ true → can f m ≡ true → moved (moved f m) (back m) ≡ f
back_moved f m h c =
    let s = is_proper f h in
    let r = own_step f m s c in
    let p = source f m s r in
    rw (p.gap, (back_step f m s r).1) (ap (laid f) (back_cells f.cells (gap f) (from f m) (omega (arith, s.gapped.len, s.gapped.has)) p.other (gap_zero f.cells)))

-- ---- along a way
-- the opposite moves, the last one first
back_all : (f : Frame) (ms : List ℕ) → proper f ≡ true → can_all f ms ≡ true → Way (after_all f ms) (length ms) f
unfolding can_all after_all
back_all f [] p c = stay f
back_all f (m ∷ ms) p c =
    let k = and_parts _ _ c in
    let o : Way (moved f m) 1 f = subst (λ h. Way (moved f m) 1 h) (back_moved f m p k.0) (once (moved f m) (back m) (back_can f m p k.0)) in
    longer {g = f} (omega arith) (then (back_all (moved f m) ms (moved_proper f m p k.0) k.1) o)

-- a way keeps a frame proper
pub way_proper : {f g : Frame} {n : ℕ} → proper f ≡ true → Way f n g → proper g ≡ true
way_proper p r = along (λ f. proper f ≡ true) moved_proper p r

-- and can be made back, in as many moves
pub way_back : {f g : Frame} {n : ℕ} → proper f ≡ true → Way f n g → Way g n f
way_back {f} {g} {n} p r = longer {g = f} r.short (subst (λ h. Way h (length r.ms) f) r.end (back_all f r.ms p r.can))
