-- The first place that `find` tells is the first misfit; behind the last byte nothing is out of place.
use Rattle.std.proofs.Common.{◌≡◌, true, false, get_or, rules}
use borrow.Author.Tests.{tests}
use Rattle.std.proofs.lemmas.Iterator.{first_from_Range}
use Rattle.encoding.specs.AnswerBytes.{stands}
use Rattle.encoding.proofs.Misfits.{misfit_found}
use Rattle.codec.proofs.refused.first_misfit.Goals as goal

pub returns : goal.returns
returns c =
    let bs = c.args.bytes.now in
    misfit_found bs c.min.result c.min.ensures c.find.result
    (first_from_Range _ _ _ c.find.result (λ p. stands (get_or bs 1 0) p (get_or bs p 0) ≡ false) (λ p. stands (get_or bs 1 0) p (get_or bs p 0) ≡ true) c.find.ensures.ran (λ x q k. search (rules, tests)) (λ x q k. search (rules, tests)))
