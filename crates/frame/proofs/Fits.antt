-- Cells that all fit are a proper frame, and cells with a misfit are none.
use Rattle.std.proofs.Common.{◌≡◌, ℕ, ◌*◌, ◌<◌, ◌≤◌, true, false, List, length, get_or, take, sym, ◌∙◌, arith}
use Rattle.std.proofs.lemmas.List.{length-take-le, get_or-take}
use Rattle.slide.specs.Tiles.{proper}
use Rattle.slide.proofs.Pigeonhole.{once_from}
use Rattle.slide.proofs.Proper.{proper_from, not_proper, low, alone}
use Rattle.frame.specs.declared.sides.Sides.{Sides}
use Rattle.frame.specs.declared.check.Misfit.{Misfit}
use Rattle.frame.specs.declared.check.Misfit.TheVariants.{Count, TooLarge, Twice}
use Rattle.frame.specs.Cells.{framed, FitsAt, FirstMisfit, Misfits}

-- ---- the first k cells, as the part `&cells[..k]`
module _ (cs : List ℕ) (k : ℕ) (h : k ≤ length cs) where
  -- a cell of the part is one of the whole, before k
  in_front : (i v : ℕ) → i < length (take k cs) → get_or (take k cs) i 0 ≡ v → (i < k) × (get_or cs i 0 ≡ v)
  in_front i v l e =
      let b : i < k = rw (length-take-le k cs h) at l in
      (b, sym (get_or-take k cs i 0 b) ∙ e)

-- ---- frames
module _ (s : Sides) (cs : List ℕ) where
  -- as many cells as the sides make, each with a number below their count that no cell before it holds
  fit_proper : length cs ≡ s.wide * s.tall → ((k : ℕ) → k < s.wide * s.tall → FitsAt (s.wide * s.tall) cs k) → proper (framed s cs) ≡ true
  fit_proper e fits =
      proper_from (framed s cs) s.range.0 s.range.2
      (once_from (s.wide * s.tall) cs e (λ i l. (fits i l).0) (λ i j l h. (fits j h).1 i l))

  -- a proper frame has the right count, no number too large, and none twice
  misfit_not_proper : (e : Misfit) → Misfits s cs e → proper (framed s cs) ≡ false
  misfit_not_proper Count m = not_proper (framed s cs) (λ p. m p.gapped.len)
  misfit_not_proper (TooLarge k) m = not_proper (framed s cs) (λ p. omega (arith, low (framed s cs) p k m.0.1, m.1))
  misfit_not_proper (Twice k i) m =
      not_proper (framed s cs) (λ p. omega (arith, m.1, alone (framed s cs) p i k (omega (arith, m.0.1, m.1)) m.0.1 m.2))

  -- ---- the same, of the answers of a check that counted n cells and looked at them one by one
  module _ (n : ℕ) (e : n ≡ s.wide * s.tall) (l : length cs ≡ n) where
    pub all_fit : (k : ℕ) → length cs ≤ k → ((i : ℕ) → i < k → FitsAt n cs i) → proper (framed s cs) ≡ true
    all_fit k h fits = fit_proper (l ∙ e) (λ i b. rw e at (fits i (omega arith)))

    module _ (k : ℕ) (h : k < length cs) (fits : (i : ℕ) → i < k → FitsAt n cs i) where
      first : FirstMisfit (s.wide * s.tall) cs k
      first = (l ∙ e, omega arith, λ i b. rw e at (fits i b))

      pub too_large : n ≤ get_or cs k 0 → (proper (framed s cs) ≡ false) × Misfits s cs (TooLarge k)
      too_large o = let m : Misfits s cs (TooLarge k) = (first, omega arith) in (misfit_not_proper (TooLarge k) m, m)

      pub twice : (i : ℕ) → i < length (take k cs) → get_or (take k cs) i 0 ≡ get_or cs k 0 → (proper (framed s cs) ≡ false) × Misfits s cs (Twice k i)
      twice i b q =
          let f = in_front cs k (omega arith) i (get_or cs k 0) b q in
          let m : Misfits s cs (Twice k i) = (first, f.0, f.1) in
          (misfit_not_proper (Twice k i) m, m)
