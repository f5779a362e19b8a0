-- Line by line: one more, a fault, too few rows, and all of them.
use Rattle.std.proofs.Common.{◌≡◌, length, Err, Result, vec_items, ◌∙◌, arith}
use Rattle.std.proofs.lemmas.Result.{err_from_is_err_and}
use Rattle.std.specs.Str.Iter.{lines_rest}
use Rattle.text.proofs.Texts.{line_of, line_taken, line_fails, all_read, too_few}
use Rattle.frame.specs.declared.sides.Sides.{Sides}
use Rattle.text.specs.declared.fault.Fault.{Fault}
use Rattle.text.specs.declared.fault.Fault.TheVariants.{TooFew}
use Rattle.text.proofs.read.Rows.read.Goals as goal

pub loop-index-preserved : goal.loop-index-preserved
loop-index-preserved c =
    let rest = lines_rest c.next.new.self.iter in
    let steps = c.in-Some.ensures.steps in
    let first = line_of (lines_rest c.loop-index.index-iterator.iter) c.in-Some.row.now rest steps.0.0 in
    rw steps.2 (
      line_taken _ c.loop-index.reading c.take_line.new.self c.in-Some.row.now rest c.loop-index.invariant.0 first c.in_ok-take_line.ensures (omega (arith, steps.1)),
      omega (arith, steps.1),
    )

pub returns-in_err-take_line : goal.returns-in_err-take_line
returns-in_err-take_line c =
    let steps = c.in-Some.ensures.steps in
    let first = line_of (lines_rest c.loop-index.index-iterator.iter) c.in-Some.row.now (lines_rest c.next.new.self.iter) steps.0.0 in
    let p = err_from_is_err_and c.from_residual.result c.from_residual.ensures.1 in
    rw (p.1, p.2) (line_fails c.loop-index.invariant.0 first c.in_err-take_line.field-0.0 (rw steps.1 at c.in_err-take_line.ensures))

pub returns-in_err-sides : goal.returns-in_err-sides
returns-in_err-sides c =
    let p = err_from_is_err_and c.from_residual-in_err-sides.result c.from_residual-in_err-sides.ensures.1 in
    let h = c.in_err-sides.ensures in
    let v : ◌≡◌ {A = Result Sides Fault} (Err c.in_err-sides.field-0.0) (Err (TooFew c.loop-index.last c.len.result)) = rw h.ok_part at h.value in
    let e : c.in_err-sides.field-0.0 ≡ TooFew c.loop-index.last c.len.result = cc in
    let long : c.len.result ≡ length (vec_items c.loop-index.reading.lines) = c.len.ensures ∙ c.loop-index.reading.lines.ok.0 in
    rw (p.1, p.2, e, c.loop-index.invariant.1, long) (too_few c.loop-index.invariant.0 c.in-None.ensures.steps.0.0.0 (rw h.ok_part at c.sides.ensures))

pub returns : goal.returns
returns c =
    let s = rw c.in_ok-sides.ensures.ok_part at c.sides.ensures in
    all_read c.loop-index.invariant.0 c.in-None.ensures.steps.0.0.0 c.in_ok-sides.sides s.0 s.1
