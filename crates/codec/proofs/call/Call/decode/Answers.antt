-- The law is that of all rows of bytes, and a slice holds bytes.
use Rattle.std.proofs.Common.{rules}
use Rattle.encoding.specs.CallBytes.{CallFits, call_bytes, read_call}
use Rattle.encoding.proofs.CallLaws.{call_or_place}
use Rattle.codec.specs.Meaning.{meant}
use Rattle.codec.proofs.Read.{read_law}
use Rattle.codec.proofs.call.Call.decode.Goals as goal

pub returns-in_err-number-clause-law : goal.returns-in_err-number-clause-law
returns-in_err-number-clause-law c =
    read_law CallFits call_bytes read_call call_or_place meant c.args.request.now c.type_inv.request c.from_residual.result (search rules)

pub returns-clause-law : goal.returns-clause-law
returns-clause-law c = read_law CallFits call_bytes read_call call_or_place meant c.args.request.now c.type_inv.request c.decode_by.result (search rules)
