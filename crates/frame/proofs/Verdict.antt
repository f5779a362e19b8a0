-- What the sign tells of cells: whether moves bring them in order, the sign of the frame in order, and that an exchange of the last two tiles
-- helps where no moves do.
use Rattle.std.proofs.Common.{◌≡◌, ℕ, ◌+◌, ◌-◌, ◌*◌, ◌%◌, ◌≤◌, nat_eq, true, List, get_or, sym, ap, ◌∙◌, arith}
use Rattle.slide.specs.Tiles.{Frame, pick, sign, proper, ordered}
use Rattle.slide.proofs.Home.{home_sign}
use Rattle.slide.proofs.Proper.{is_proper}
use Rattle.reach.proofs.Promises.{solvable_by_sign, unsolvable_by_sign, exchange_mends}
use Rattle.frame.specs.declared.sides.Sides.{Sides}
use Rattle.frame.specs.Cells.{framed, SignedBy, MendedBy}

-- what the sign of a proper frame tells
pub signed : (f : Frame) (s : ℕ) → proper f ≡ true → s ≡ sign f → SignedBy f s
signed f s p e = (p, e, (λ h. solvable_by_sign f p (sym e ∙ h), λ n. unsolvable_by_sign f p (λ h. n (e ∙ h))))

-- v is the last row r, where rows count: then it is even or odd as the sign of the frame in order is
pub last_row : (w t r v : ℕ) → v ≡ pick (nat_eq (w % 2) 0) r 0 → 2 ≤ w → 2 ≤ t → r ≡ t - 1 → v % 2 ≡ sign (ordered w t)
last_row w t r v e hw ht l = rw (e, l) (sym (home_sign w t hw ht))

-- the last two tiles a and b are no gap, and two
pub last_mend : (s : Sides) (n a b : ℕ) → n ≡ s.wide * s.tall → 4 ≤ n → a + 2 ≡ n → b + 1 ≡ n → (cs : List ℕ) → MendedBy s cs a b
last_mend s n a b e l ea eb cs p u i j hi hj ha hb =
    let k = (is_proper (framed s cs) p).gapped.len in
    exchange_mends (framed s cs) i j p (omega arith) (omega arith)
    (λ q. let same : get_or cs i 0 ≡ get_or cs j 0 = ap (λ k. get_or cs k 0) q in omega arith) (λ z. omega arith) (λ z. omega arith) u
