-- What `new` answers at each return.
use Rattle.std.proofs.Common.{refl, arith}
use Rattle.frame.proofs.Fits.{all_fit, too_large, twice}
use Rattle.frame.proofs.check.Frame.new.Goals as goal

pub returns-then-from-count : goal.returns-then-from-count
returns-then-from-count c =
    too_large c.args.sides c.args.cells.now c.count-count.result c.count-count.ensures.value (omega arith)
    c.loop-cell.cell c.loop-cell-test.true c.loop-cell.invariant (omega (arith, c.from.ensures))

pub returns-in-Some : goal.returns-in-Some
returns-in-Some c =
    let f = c.in-Some.ensures in
    twice c.args.sides c.args.cells.now c.count-count.result c.count-count.ensures.value (omega arith)
    c.loop-cell.cell c.loop-cell-test.true c.loop-cell.invariant c.in-Some.earlier f.0 f.1

pub invariant_of-result : goal.invariant_of-result
invariant_of-result c =
    all_fit c.args.sides c.args.cells.now c.count-count.result c.count-count.ensures.value (omega arith)
    c.loop-cell.cell c.loop-cell-test.false c.loop-cell.invariant

pub returns : goal.returns
returns c = (refl, invariant_of-result c)
