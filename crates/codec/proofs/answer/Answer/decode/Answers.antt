-- The law is that of all rows of bytes, and a slice holds bytes.
use Rattle.std.proofs.Common.{rules}
use Rattle.encoding.specs.AnswerBytes.{AnswerFits, answer_bytes, read_answer}
use Rattle.encoding.proofs.AnswerLaws.{answer_or_place}
use Rattle.codec.specs.Meaning.{told_in}
use Rattle.codec.proofs.Read.{read_law}
use Rattle.codec.proofs.answer.Answer.decode.Goals as goal

pub returns-in_err-number-clause-law : goal.returns-in_err-number-clause-law
returns-in_err-number-clause-law c =
    let bs = c.args.bytes.now in
    read_law AnswerFits answer_bytes read_answer answer_or_place (told_in bs) bs c.type_inv.bytes c.from_residual.result (search rules)

pub returns-clause-law : goal.returns-clause-law
returns-clause-law c =
    let bs = c.args.bytes.now in
    read_law AnswerFits answer_bytes read_answer answer_or_place (told_in bs) bs c.type_inv.bytes c.decode_by.result (search rules)
