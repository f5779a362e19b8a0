-- What the loop of `new` keeps.
use Rattle.std.proofs.Common.{ℕ, ◌<◌}
use Rattle.frame.specs.Cells.{FitsAt}
use Rattle.frame.proofs.check.Frame.new.Given as goal

-- every cell so far fits
abbrev pub invariant-loop-cell : goal.invariant-loop-cell
invariant-loop-cell l = (k : ℕ) → k < l.cell → FitsAt l.count l.cells k
