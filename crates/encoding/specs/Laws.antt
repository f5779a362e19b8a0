-- What is promised of calls and answers as bytes. Each capitalised name is a statement, a type whose proof is owed.
use Rattle.encoding.specs.Formats.{ReadBack, ValueOrPlace, ToldApart}
use Rattle.encoding.specs.CallBytes.{CallFits, call_bytes, read_call}
use Rattle.encoding.specs.AnswerBytes.{AnswerFits, answer_bytes, read_answer}

-- a call that is written is read back as itself
abbrev pub CallsReadBack : Type 0
CallsReadBack = ReadBack CallFits call_bytes read_call

-- every row of bytes is the one writing of the call that it is read as, or ceases to be one at the place that is told
abbrev pub CallOrPlace : Type 0
CallOrPlace = ValueOrPlace CallFits call_bytes read_call

-- two calls are never written as the same bytes
abbrev pub CallsToldApart : Type 0
CallsToldApart = ToldApart CallFits call_bytes

-- an answer that is written is read back as itself
abbrev pub AnswersReadBack : Type 0
AnswersReadBack = ReadBack AnswerFits answer_bytes read_answer

-- every row of bytes is the one writing of the answer that it is read as, or ceases to be one at the place that is told
abbrev pub AnswerOrPlace : Type 0
AnswerOrPlace = ValueOrPlace AnswerFits answer_bytes read_answer

-- two answers are never written as the same bytes
abbrev pub AnswersToldApart : Type 0
AnswersToldApart = ToldApart AnswerFits answer_bytes
