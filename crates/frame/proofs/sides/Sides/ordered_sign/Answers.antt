-- The row that was counted is the last.
use Rattle.std.proofs.Common.{arith}
use Rattle.frame.proofs.Verdict.{last_row}
use Rattle.frame.proofs.sides.Sides.ordered_sign.Goals as goal

pub returns : goal.returns
returns c =
    let r = c.args.self.range in
    last_row c.args.self.wide c.args.self.tall _ c.counted_row.result c.counted_row.ensures.value r.0 r.2 (omega arith)
