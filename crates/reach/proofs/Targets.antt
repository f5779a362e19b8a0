-- A frame is brought to another of its size whose gap is last, or else to that with two tiles exchanged.
use Rattle.std.proofs.Common.{◌≡◌, ℕ, suc, ◌+◌, ◌*◌, ◌<◌, true, ◌≢◌, length, sym, refl, ap, ◌∙◌, subst, inl, inr, arith}
use Rattle.std.proofs.lemmas.List.{ext_get_or}
use Rattle.std.proofs.lemmas.Bool.{cases_eq}
use Rattle.std.proofs.lemmas.Nat.{same_from_place, mul-add-lt}
use Rattle.slide.specs.Promise.{exchanged}
use Rattle.slide.specs.Tiles.{Frame, at, gap, sign, proper}
use Rattle.reach.specs.Reached.{most}
use Rattle.slide.proofs.Proper.{Proper, is_proper, find, low, alone, own_board}
use Rattle.slide.proofs.Cells.{cell}
use Rattle.slide.proofs.Exchange.{swap_is}
use Rattle.slide.proofs.Sign.{exchanged_sign, way_sign}
use Rattle.slide.proofs.Ways.{Way}
use Rattle.slide.proofs.Gap.{gap_zero}
use Rattle.reach.proofs.Solve.{Holds, Full, Solved}
use Rattle.reach.proofs.Sizes.{solve}

-- frames with the same sides and cells are the same
same_frame : (f g : Frame) → f.wide ≡ g.wide → f.tall ≡ g.tall → f.cells ≡ g.cells → f ≡ g
same_frame f g a b c = λ i. record { wide = a i; tall = b i; cells = c i }

module _ (f g : Frame) (p : Proper f) (q : Proper g) (ew : g.wide ≡ f.wide) (et : g.tall ≡ f.tall) (z : suc (gap g) ≡ g.wide * g.tall) where
  -- what each cell must hold
  abbrev target : ℕ → ℕ → ℕ
  target i j = at g (i * f.wide + j)

  -- both frames have as many cells
  size : g.wide * g.tall ≡ f.wide * f.tall
  size = rw (ew, et) refl

  -- such a target is one for f: its tiles are there, no two are the same, and its gap is last
  target_full : Full f.wide f.tall f target
  target_full = record {
    occurs = λ i j hi hj. holds (i * f.wide + j) (mul-add-lt i f.wide j f.tall hi hj);
    apart = λ i j x y hi hj hx hy e.
        same_from_place i j x y f.wide hj hy (alone g q (i * f.wide + j) (x * f.wide + y) (rw size (mul-add-lt i f.wide j f.tall hi hj)) (rw size (mul-add-lt x f.wide y f.tall hx hy)) e);
    last = λ i j a b. ap (at g) (at_last i j a b) ∙ gap_zero g.cells;
  }
    where
      holds : (x : ℕ) → x < f.wide * f.tall → Holds f.wide f.tall f (at g x)
      holds x h =
          let o = find f p (at g x) (omega (arith, size, low g q x (omega (arith, size)))) in
          let c = cell f.wide f.tall o.0 o.1 in
          record { row = c.row; col = c.col; below = c.below; within = c.within; is = rw (← c.is) o.2 }

      at_last : (i j : ℕ) → suc i ≡ f.tall → suc j ≡ f.wide → i * f.wide + j ≡ gap g
      at_last i j a b = let k : suc i * f.wide ≡ f.tall * f.wide = rw a refl in omega (arith, size)

  -- the way there, up to one exchange
  the_way : Solved f.wide f.tall f (most f.wide f.tall) target
  the_way = solve f.wide f.tall p.wide p.tall f target (own_board f p.gapped) target_full

  module _ (r : Solved f.wide f.tall f (most f.wide f.tall) target) where
    -- as long as g, with both places of the exchange in the frame
    sized : length r.to.cells ≡ length g.cells
    sized = r.board.gapped.len ∙ rw (r.board.wide, r.board.tall) (sym (q.gapped.len ∙ size))

    abbrev pa : ℕ
    pa = r.ai * f.wide + r.aj

    abbrev pb : ℕ
    pb = r.bi * f.wide + r.bj

    in_a : pa < f.wide * f.tall
    in_a = mul-add-lt r.ai f.wide r.aj f.tall r.in_a.0 r.in_a.1

    in_b : pb < f.wide * f.tall
    in_b = mul-add-lt r.bi f.wide r.bj f.tall r.in_b.0 r.in_b.1

    -- elsewhere it holds what g holds
    rest_at : (x : ℕ) → x < f.wide * f.tall → (x ≡ pa → ⊥) → (x ≡ pb → ⊥) → at r.to x ≡ at g x
    rest_at x h na nb =
        let c = cell f.wide f.tall x h in
        rw c.is (r.rest c.row c.col c.below c.within (λ u v. na (c.is ∙ rw (u, v) refl)) (λ u v. nb (c.is ∙ rw (u, v) refl)))

    -- the target, where the two are one
    in_order : pa ≡ pb → r.to ≡ g
    in_order e = same_frame r.to g (r.board.wide ∙ sym ew) (r.board.tall ∙ sym et)
        (ext_get_or 0 r.to.cells g.cells sized (λ x h.
        elim (cases_eq x pa) [
          | inl u ↦ rw u (r.at_a ∙ ap (at g) (sym e))
          | inr u ↦ rest_at x (omega (arith, sized, q.gapped.len, size)) u (λ v. u (v ∙ sym e))
        ]))

    -- else two are exchanged
    crossed : (pa ≡ pb → ⊥) → r.to ≡ exchanged g pa pb
    unfolding exchanged
    crossed n =
        let l : length g.cells ≡ f.wide * f.tall = q.gapped.len ∙ size in
        same_frame r.to (exchanged g pa pb) (r.board.wide ∙ sym ew) (r.board.tall ∙ sym et)
        (swap_is g.cells r.to.cells pa pb sized (omega (arith, in_a)) (omega (arith, in_b)) n r.at_a r.at_b (λ x h u v. rest_at x (omega (arith, h)) u v))

    -- in other rows or columns they are two places, and of tiles
    pair_same : r.ai ≡ r.bi → r.aj ≡ r.bj → pa ≡ pb
    pair_same a b = rw (a, b) refl

    tiles : (r.ai ≡ r.bi → r.aj ≡ r.bj → ⊥) → (at g pa ≢ 0) × (at g pb ≢ 0)
    tiles n = elim (r.kind) [ inl k ↦ absurd (n k.0 k.1) | inr k ↦ k ]

    -- an exchange would have turned the sign
    never_crossed : proper f ≡ true → proper g ≡ true → sign f ≡ sign g → (pa ≡ pb → ⊥) → ⊥
    never_crossed pf pg s n =
        let k = tiles (λ a b. n (pair_same a b)) in
        exchanged_sign g pa pb pg (rw size in_a) (rw size in_b) n k.0 k.1 (ap sign (sym (crossed n)) ∙ sym (way_sign pf r.way) ∙ s)

    -- so it has arrived
    arrived : proper f ≡ true → proper g ≡ true → sign f ≡ sign g → Way f (most f.wide f.tall) g
    arrived pf pg s =
        elim (cases_eq pa pb) [
          | inl e ↦ subst (λ h. Way f (most f.wide f.tall) h) (in_order e) r.way
          | inr n ↦ absurd (never_crossed pf pg s n)
        ]

-- with the same sign it is brought there
pub brought : (f g : Frame) → proper f ≡ true → proper g ≡ true → g.wide ≡ f.wide → g.tall ≡ f.tall → suc (gap g) ≡ g.wide * g.tall → sign f ≡ sign g → Way f (most f.wide f.tall) g
brought f g pf pg ew et z s =
    let p = is_proper f pf in
    let q = is_proper g pg in
    arrived f g p q ew et z (the_way f g p q ew et z) pf pg s
