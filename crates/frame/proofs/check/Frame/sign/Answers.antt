-- The sign is that of the definition, and tells.
use Rattle.std.proofs.Common.{◌≡◌, true, subst, rules}
use Rattle.slide.specs.Tiles.{proper}
use Rattle.frame.proofs.Verdict.{signed}
use Rattle.frame.proofs.check.Frame.sign.Goals as goal

pub returns : goal.returns
returns c = signed c.args.self.now _ (subst (λ f. proper f ≡ true) c.self.view_is c.self.invariant) (search rules)
