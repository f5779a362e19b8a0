-- The contract of `answers_told_apart` is the law. `grind`, which an attribute asks, does not find it as it does the others.
use Rattle.encoding.proofs.answers_told_apart.Goals as goal
use Rattle.encoding.proofs.AnswerLaws.{answers_told_apart}

pub returns : goal.returns
returns c = answers_told_apart
