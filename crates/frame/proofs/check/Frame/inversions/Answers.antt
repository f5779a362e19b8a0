-- One cell more, and all cells.
use Rattle.std.proofs.Common.{arith}
use Rattle.std.proofs.lemmas.List.{take_rest, length-drop}
use Rattle.frame.proofs.Inversions.{wrong_more, wrong_end}
use Rattle.frame.proofs.check.Frame.inversions.Goals as goal

pub loop-cells-preserved : goal.loop-cells-preserved
loop-cells-preserved c =
    let cs = c.loop-cells.cells.now in
    let more = wrong_more cs c.in-len1-up.len_at_least _ (rw (take_rest cs 1) at c.inversions_with.ensures.value) in
    rw (take_rest cs 1) (omega arith, omega (arith, length-drop 1 cs))

pub returns-clause-value : goal.returns-clause-value
returns-clause-value c = rw (← c.self.view_is) (omega (arith, wrong_end c.loop-cells.cells.now (omega arith)))
