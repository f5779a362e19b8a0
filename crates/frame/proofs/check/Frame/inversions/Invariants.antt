-- What the loop of `inversions` keeps.
use Rattle.std.proofs.Common.{◌≡◌, ◌+◌, ◌*◌, ◌≤◌, length}
use Rattle.slide.specs.Tiles.{wrong_pairs}
use Rattle.frame.proofs.check.Frame.inversions.Given as goal

-- those counted and those to come are all, and each cell adds less than 256
abbrev pub invariant-loop-cells : goal.invariant-loop-cells
invariant-loop-cells l = (wrong_pairs l.initial.cells ≡ l.pairs + wrong_pairs l.cells) × (l.pairs + 256 * length l.cells ≤ 256 * 256)

abbrev pub decreases-loop-cells : goal.decreases-loop-cells
decreases-loop-cells l = length l.cells
