-- A proper frame has a gap, and it is the first cell that holds 0.
use Rattle.frame.specs.Cells.{framed}
use Rattle.frame.proofs.Inversions.{gap_held, gap_found}
use Rattle.frame.proofs.check.Frame.gap.Goals as goal

pub unwrap-requires : goal.unwrap-requires
unwrap-requires c = gap_held (framed c.self.inside.sides c.self.inside.cells.now) c.self.invariant c.find.result c.find.ensures

pub returns-clause-value : goal.returns-clause-value
returns-clause-value c = rw (← c.self.view_is) (rw c.unwrap.ensures at (gap_found c.self.inside.cells.now c.find.result c.find.ensures))
