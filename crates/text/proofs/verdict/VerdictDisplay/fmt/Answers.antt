-- The words of either verdict.
use Rattle.std.proofs.Common.{◌≡◌, ◌-◌, ◌*◌, arith}
use Rattle.text.proofs.verdict.VerdictDisplay.fmt.Goals as goal

pub returns-then-self-clause-writes : goal.returns-then-self-clause-writes
returns-then-self-clause-writes g c = λ p o. rw (c.if-self.true, ← c.ordered_sign-ordered.ensures) (c.write.ensures.writes p o)

pub returns-clause-writes : goal.returns-clause-writes
returns-clause-writes g c =
    let s = c.args.self.now.sides in
    let t = c.last_tiles-first.ensures.tiles in
    let a : s.wide * s.tall - 2 ≡ c.last_tiles-first.result.0 = omega (arith, t.0) in
    let b : s.wide * s.tall - 1 ≡ c.last_tiles-first.result.1 = omega (arith, t.1) in
    λ p o. rw (c.if-self.false, ← c.ordered_sign-ordered.ensures, a, b) (c.write-2.ensures.writes p o)
