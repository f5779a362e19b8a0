-- What the loop of `read_row` keeps.
use Rattle.std.proofs.Common.{vec_items}
use Rattle.std.specs.Str.Iter.{split_whitespace_rest}
use Rattle.text.proofs.Lines.{WordsSeen}
use Rattle.text.proofs.read.read_row.Given as goal

abbrev pub invariant-loop-word : goal.invariant-loop-word
invariant-loop-word l = WordsSeen l.text (split_whitespace_rest l.word-iterator) (vec_items l.initial.cells) (vec_items l.cells)
