-- What is laid in order in the first row can stay so, and one more is laid.
use Rattle.std.proofs.Common.{◌≡◌, ℕ, suc, ◌+◌, ◌-◌, ◌*◌, ◌<◌, ◌≤◌, true, ◌≢◌, ◌⊎◌, List, get_or, sym, refl, ap, ◌∙◌, inl, inr, arith}
use Rattle.std.proofs.lemmas.Bool.{cases_eq, cases_lt}
use Rattle.std.proofs.lemmas.Nat.{mul-le}
use Rattle.slide.specs.Promise.{RowByRow}
use Rattle.slide.specs.Tiles.{Frame, at, gap, can_all, after_all}
use Rattle.slide.proofs.Proper.{is_proper, find, Board}
use Rattle.slide.proofs.Cells.{cell}
use Rattle.slide.proofs.Gap.{gap_zero}
use Rattle.reach.proofs.Place.{Placed, place}

-- the tile at x, and the gap, are past the first k cells
place_at : (w s k : ℕ) (f : Frame) (x : ℕ) → 2 ≤ w → 2 ≤ s → k < w → Board w (suc s) f → x < w * suc s → k ≤ x → at f x ≢ 0 → k ≤ gap f →
    Placed w (suc s) f (7 * (w + suc s)) k (at f x)
place_at w s k f x w2 s2 hk b hx kx nz kg =
    let c = cell w (suc s) x hx in
    let g = cell w (suc s) (gap f) (rw (← b.wide, ← b.tall) b.gapped.has) in
    rw c.is (place w s w2 s2 k hk f g.row g.col c.row c.col b g.is g.below g.within c.below c.within
    (λ a o. nz (ap (at f) (c.is ∙ rw (a, o) refl ∙ sym g.is) ∙ gap_zero f.cells))
    (λ a. let z = rw a at c.is in omega arith)
    (λ a. let z = rw a at g.is in omega arith))

-- one of the first k cells holds its own number, so no other does
past : (f : Frame) (k x v : ℕ) → ((i : ℕ) → i < k → at f i ≡ suc i) → at f x ≡ v → (v ≡ 0) ⊎ (k < v) → k ≤ x
past f k x v h e o = elim (cases_lt x k) [ inl l ↦ absurd (omega (arith, h x l)) | inr l ↦ l ]

-- where the next number is, and the gap, is past the first k cells: there it is placed from
pub row_by_row : RowByRow
row_by_row f k pr t3 hk h =
    let p = is_proper f pr in
    let t : f.tall ≡ suc (f.tall - 1) = omega arith in
    let big : f.wide + f.wide ≤ f.wide * f.tall = omega (arith, mul-le f.wide 2 f.wide f.tall (omega arith) (omega arith)) in
    let x = find f p (suc k) (omega (arith, p.wide)) in
    let b : Board f.wide (suc (f.tall - 1)) f = record { gapped = p.gapped; wide = refl; tall = t } in
    let tile_past = past f k x.0 (suc k) h x.2 (inr (omega arith)) in
    let gap_past = past f k (gap f) 0 h (gap_zero f.cells) (inl refl) in
    end (place_at f.wide (f.tall - 1) k f x.0 p.wide (omega arith) hk b (rw (← t) x.1) tile_past (λ z. omega (arith, x.2)) gap_past) x.2
  where
    end : {w t n v : ℕ} → Placed w t f n k v → v ≡ suc k → (ms : List ℕ) × (can_all f ms ≡ true) × ((i : ℕ) → i < suc k → get_or (after_all f ms).cells i 0 ≡ suc i)
    end z e = (
      z.way.ms,
      z.way.can,
      λ i l. ap (λ g. at g i) z.way.end ∙
          elim (cases_eq i k) [ inl u ↦ rw u (z.tile ∙ e) | inr u ↦ z.keeps i (omega arith) ∙ h i (omega arith) ],
    )
