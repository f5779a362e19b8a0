-- What was written is read back.
use Rattle.std.proofs.Common.{◌≡◌, length, rules}
use Rattle.codec.specs.Meaning.{HasRoom, size}
use Rattle.codec.proofs.Lent.{read_again}
use Rattle.codec.proofs.answer.Answer.encode.Goals as goal

pub returns : goal.returns
returns c =
    let cs = c.args.cells.now in
    let out = c.args.out.now in
    let room : HasRoom c.args.self (length cs) (length out) = search rules in
    let count : c.size-size.result ≡ size c.args.self (length cs) = search rules in
    record {
      room = room;
      count = count;
      bytes = rw count c.write.ensures.bytes;
      back = rw count (read_again c.args.self cs out c.write.new.out room.0 c.write.ensures.fits c.write.ensures.bytes);
    }
