-- Zeros and ones for the later cells, added up.
use Rattle.std.proofs.Common.{◌∙◌, sym, arith, rules, tests}
use Rattle.std.proofs.lemmas.Iterator.{YieldsList-from_map, YieldsList-from_slice}
use Rattle.std.proofs.lemmas.Iterator.Consumers.{sum_by_from_yields_List}
use Rattle.frame.proofs.Inversions.{one_if_smaller, larger_sum, larger_few}
use Rattle.frame.proofs.sign.inversions_with.Goals as goal

pub returns-clause-value : goal.returns-clause-value
returns-clause-value c =
    let h = one_if_smaller c.args.earlier in
    let cs = c.args.later.now in
    sum_by_from_yields_List h cs c.map.result c.sum.result c.sum.ensures.ran
    (YieldsList-from_map _ h (YieldsList-from_slice cs (cc)) c.map.ensures.closure (λ x r q k. search (rules, tests)))
    ∙ sym (larger_sum c.args.earlier cs)

pub returns-clause-few : goal.returns-clause-few
returns-clause-few c = omega (arith, returns-clause-value c, larger_few c.args.earlier c.args.later.now)
