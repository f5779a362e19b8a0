-- The bytes so far are those of the cells so far.
use Rattle.std.proofs.Common.{◌≡◌, ◌*◌, take}
use Rattle.encoding.specs.Bytes.{twos}
use Rattle.codec.proofs.answer.write_cells.Given as goal

abbrev pub invariant-loop-index : goal.invariant-loop-index
invariant-loop-index l = take (2 * l.index) l.out ≡ twos (take l.index l.cells)
