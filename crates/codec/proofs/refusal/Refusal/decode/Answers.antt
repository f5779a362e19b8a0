-- Seven bytes that can stand where they do have the number and the place of a refusal.
use Rattle.std.proofs.Common.{◌≡◌, true, length, rules}
use Rattle.encoding.specs.Bytes.{two_at, four_at}
use Rattle.encoding.specs.AnswerBytes.{refusal, misfit}
use Rattle.encoding.proofs.Misfits.{misfit_whole}
use Rattle.encoding.proofs.Refusals.{stand_refusal}
use Rattle.codec.proofs.refusal.Refusal.decode.Goals as goal

pub unwrap-requires : goal.unwrap-requires
unwrap-requires c =
    let bs = c.args.bytes.now in
    let l : length bs ≡ misfit bs 1 6 = search rules in
    let s : refusal (two_at bs 1) (four_at bs 3) ≡ true = stand_refusal bs (misfit_whole bs l).1 in
    search rules
