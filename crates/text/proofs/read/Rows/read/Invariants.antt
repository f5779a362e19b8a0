-- What the loop of `read` keeps.
use Rattle.std.proofs.Common.{◌≡◌, max, vec_items}
use Rattle.std.specs.Str.Iter.{lines_rest}
use Rattle.text.proofs.Texts.{LinesSeen}
use Rattle.text.proofs.read.Rows.read.Given as goal

abbrev pub invariant-loop-index : goal.invariant-loop-index
invariant-loop-index l =
    LinesSeen l.text (lines_rest l.index-iterator.iter) (vec_items l.reading.cells) (vec_items l.reading.lines) l.reading.wide l.index-iterator.count
    × (l.last ≡ max l.index-iterator.count 1)
