-- How far the tiles have to go, each by itself: a move brings one of them nearer by one at most.
use Rattle.std.proofs.Common.{◌≡◌, ℕ, zero, suc, ◌+◌, ◌-◌, ◌*◌, ◌/◌, ◌%◌, ◌<◌, ◌≤◌, true, eqb, List, [], ◌∷◌, ◌++◌, length, get_or, refl, ap, ◌∙◌, inl, inr, arith}
use Rattle.std.proofs.lemmas.Bool.{and_parts, ne_eqb, eq-eqb, cases_eq}
use Rattle.std.proofs.lemmas.Bool.Decides.{nat_tests}
use Rattle.std.proofs.lemmas.Nat.{div-mul-add, mod-mul-add}
use Rattle.slide.specs.Tiles.{pick, Frame, gap, from, can, moved, can_all, after_all, up_from, proper}
use Rattle.slide.specs.Promise.{apart, far_in, AtLeast}
use Rattle.slide.proofs.Exchange.{swap}
use Rattle.slide.proofs.Sums.{sum_swap}
use Rattle.slide.proofs.Gap.{gap_zero}
use Rattle.slide.proofs.Cells.{Dir, Next, next_in}
use Rattle.slide.proofs.Proper.{Proper, is_proper}
use Rattle.slide.proofs.Moves.{moved_is, step_from}
use Rattle.slide.proofs.Back.{source, own_step, moved_proper}

-- how far the tile c at the place p is from where it belongs
abbrev off : ℕ → ℕ → ℕ → ℕ
off w p c = pick (eqb c 0) 0 (apart (p / w) ((c - 1) / w) + apart (p % w) ((c - 1) % w))

-- the gap belongs nowhere
off_gap : (w p c : ℕ) → c ≡ 0 → off w p c ≡ 0
off_gap w p c e = grind (arith, nat_tests)

-- an exchange changes the share of its two places alone
far_swap : (w : ℕ) (cs : List ℕ) (i j : ℕ) → i < length cs → j < length cs → (i ≡ j → ⊥) →
    far_in w (swap cs i j) 0 + off w i (get_or cs i 0) + off w j (get_or cs j 0) ≡ far_in w cs 0 + off w i (get_or cs j 0) + off w j (get_or cs i 0)
unfolding far_in
far_swap w = sum_swap (λ o cs. far_in w cs o) (off w) (λ o c cs. refl)

-- ---- a neighbour is nearer by one at most
next_near : {w t : ℕ} {d : Dir} {i j x y : ℕ} → Next w t d i j x y → (r c : ℕ) → apart x r + apart y c ≤ apart i r + apart j c + 1
next_near n r c = grind arith

-- a tile one cell on is nearer to where it belongs by one at most
off_near : {w t : ℕ} {d : Dir} {i j x y : ℕ} (c : ℕ) → Next w t d i j x y → off w (x * w + y) c ≤ off w (i * w + j) c + 1
off_near {w} {t} {d} {i} {j} {x} {y} c n =
    let b = next_in n in
    let near = next_near n ((c - 1) / w) ((c - 1) % w) in
    elim (cases_eq c 0) [
      | inl e ↦ rw (eq-eqb c 0 e) (omega arith)
      | inr e ↦ rw (ne_eqb c 0 e, div-mul-add x w y b.1, mod-mul-add x w y b.1, div-mul-add i w j b.3, mod-mul-add i w j b.3) near
    ]

-- so a move makes the sum smaller by one at most, and a way by no more than its length
far_move : (f : Frame) (m : ℕ) → Proper f → can f m ≡ true → far_in f.wide f.cells 0 ≤ far_in f.wide (moved f m).cells 0 + 1
far_move f m s c =
    let w = f.wide in
    let cs = f.cells in
    let r = own_step f m s c in
    let p = source f m s r in
    let e = far_swap w cs (gap f) (from f m) (omega (arith, s.gapped.len, s.gapped.has)) (omega (arith, s.gapped.len, p.within)) p.other in
    let k = ap (λ g. far_in w g.cells 0) (moved_is f m) in
    let near = rw (← (step_from f m r), ← r.gap) at (off_near (get_or cs (from f m) 0) r.next) in
    omega (arith, e, k, near, off_gap w (gap f) (get_or cs (gap f) 0) (gap_zero cs), off_gap w (from f m) (get_or cs (gap f) 0) (gap_zero cs))

-- along a way
far_all : (f : Frame) (ms : List ℕ) → proper f ≡ true → can_all f ms ≡ true → far_in f.wide f.cells 0 ≤ length ms + far_in f.wide (after_all f ms).cells 0
unfolding can_all after_all
far_all f [] h c = omega arith
far_all f (m ∷ ms) h c =
    let k = and_parts (can f m) (can_all (moved f m) ms) c in
    omega (arith, far_move f m (is_proper f h) k.0, far_all (moved f m) ms (moved_proper f m h k.0) k.1)

-- ---- in order, each is where it belongs
off_home : (w o : ℕ) → off w o (suc o) ≡ 0
off_home w o = grind (arith, nat_tests)

-- so nothing is left to go
far_home : (w n o : ℕ) → far_in w (up_from n (suc o) ++ (0 ∷ [])) o ≡ 0
unfolding far_in up_from
far_home w zero o = refl
far_home w (suc n) o = omega (arith, off_home w o, far_home w n (suc o))

-- the way ends where nothing is left to go
pub at_least : AtLeast
at_least f ms h b =
    let e = ap (λ g. far_in f.wide g.cells 0) b.1 ∙ far_home f.wide (f.wide * f.tall - 1) 0 in
    omega (arith, far_all f ms h b.0, e)
