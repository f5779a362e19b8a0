-- An exchange of the two largest tiles helps.
use Rattle.std.proofs.Common.{arith}
use Rattle.frame.proofs.Verdict.{last_mend}
use Rattle.frame.proofs.sides.Sides.last_tiles.Goals as goal

pub returns-clause-mends : goal.returns-clause-mends
returns-clause-mends c =
    let n = c.count-count.ensures in
    last_mend c.args.self c.count-count.result _ _ n.value n.range.0 (omega (arith, n.range)) (omega (arith, n.range))
