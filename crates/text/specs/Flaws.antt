-- A misfit of rows that were read, told by lines. Assumes nothing: these are definitions.
use Rattle.std.specs.Prelude.{◌≡◌, ℕ, ◌-◌, ◌*◌, ◌/◌, length, vec_items, Option, slice_index}
use Rattle.frame.specs.Cells.{Misfits, FirstMissing}
use Rattle.frame.specs.declared.check.Misfit.{Misfit}
use Rattle.frame.specs.declared.check.Misfit.TheVariants as misfit
use Rattle.text.specs.declared.flaw.Flaw.{Flaw}
use Rattle.text.specs.declared.flaw.Flaw.TheVariants.{Count, TooLarge, Twice}
use Rattle.text.specs.declared.read.Rows.{Rows}

-- the line of the row in which a cell is, and what the cell holds
abbrev pub line_of : Rows → ℕ → ℕ
line_of r k = slice_index (vec_items r.lines) (k / r.sides.wide)

abbrev pub number_in : Rows → ℕ → ℕ
number_in r k = slice_index (vec_items r.cells) k

-- the misfit by lines, and with it a number that is missing
abbrev pub flaw : Rows → Option ℕ → Misfit → Flaw
flaw r m misfit.Count = Count (length (vec_items r.cells)) r.sides.wide r.sides.tall
flaw r m (misfit.TooLarge k) = TooLarge (line_of r k) (number_in r k) (r.sides.wide * r.sides.tall - 1) m
flaw r m (misfit.Twice k i) = Twice (line_of r k) (number_in r k) (line_of r i) m

-- rows that are no frame, for the reason that is told
abbrev pub Flawed : Rows → Flaw → Type 0
Flawed r e = (x : Misfit) × (m : Option ℕ) × Misfits r.sides (vec_items r.cells) x × FirstMissing (r.sides.wide * r.sides.tall) (vec_items r.cells) m × (e ≡ flaw r m x)
