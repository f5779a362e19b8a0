-- Cells and ways: what was lent is the answer's bytes and what was behind them, and their numbers fit these.
use Rattle.std.proofs.Common.{rules}
use Rattle.codec.proofs.Lent.{way_written, cells_written, cells_fit, moves_fit}
use Rattle.codec.proofs.answer.Answer.write.Goals as goal

pub returns-in-Cells : goal.returns-in-Cells
returns-in-Cells c =
    rw c.in-Cells.is
    (record {
      bytes = cells_written c.args.out.now _ _ c.args.cells.now (search rules) (search rules) c.write_cells.ensures;
      fits = (search rules, cells_fit c.args.cells.now c.type_inv.cells);
    })

pub returns-in-Way : goal.returns-in-Way
returns-in-Way c =
    let w = way_written c.args.out.now c.copy_from_slice-in-Way.new.self c.in-Way.count (search rules) (search rules) in
    rw c.in-Way.is (record { bytes = w; fits = (search rules, moves_fit c.args.out.now _ c.in-Way.count c.type_inv.out w) })
