-- Of the numbers that were tried, the first that stands in no cell.
use Rattle.std.proofs.Common.{◌≡◌, true, false, List, ℕ, Bor, ap, arith, rules, tests}
use Rattle.std.proofs.lemmas.Iterator.{first_from_Range}
use Rattle.frame.proofs.Missing.{holds, first_missing}
use Rattle.frame.proofs.sides.Sides.missing.Goals as goal

pub returns : goal.returns
returns c =
    let cs = c.args.cells.now in
    rw (← c.count.ensures.value)
    (first_missing cs _ c.count.result c.find.result
    (first_from_Range _ _ _ c.find.result (λ v. holds cs v ≡ false) (λ v. holds cs v ≡ true) c.find.ensures.ran
    (λ x q k. search (rules, tests))
    (λ x q k. (ap (λ (z : Bor (List ℕ)). record { 0 = z }) k.called.met.1, search (rules, tests))))
    (omega arith))
