-- What is said of a text or a frame, byte by byte. Assumes nothing: these are definitions.
use Rattle.std.specs.Prelude.{ℕ, ◌-◌, ◌*◌, if◌then◌else◌, List, [], ◌++◌, Some, None, codes, decimal, Option, ◌==◌}
use Rattle.slide.specs.Tiles.{sign, ordered}
use Rattle.text.specs.declared.fault.Fault.{Fault}
use Rattle.text.specs.declared.fault.Fault.TheVariants.{Memory, NotANumber, Ragged, Columns, TooFew, TooMany}
use Rattle.text.specs.declared.flaw.Flaw.{Flaw}
use Rattle.text.specs.declared.flaw.Flaw.TheVariants.{Count, TooLarge, Twice}
use Rattle.text.specs.declared.verdict.Verdict.{Verdict}

-- what is wrong in a line
abbrev pub in_line : ℕ → List ℕ → List ℕ
in_line line words = codes "line " ++ (decimal line ++ words)

-- a fault of a text
abbrev pub fault_text : Fault → List ℕ
fault_text Memory = codes "out of memory"
fault_text (NotANumber line word) = in_line line (codes ": word " ++ (decimal word ++ codes " is not a number from 0 to 255"))
fault_text (Ragged line count wide) = in_line line (codes ": " ++ (decimal count ++ (codes " numbers, where the first row has " ++ decimal wide)))
fault_text (Columns line count) = in_line line (codes ": a frame has 2 to 16 columns, and this row " ++ decimal count)
fault_text (TooFew line rows) = in_line line (codes ": a frame has 2 to 16 rows, and the text ends with " ++ decimal rows)
fault_text (TooMany line) = in_line line (codes ": a frame has 2 to 16 rows, and this is the 17th")

-- the number that is missing, as the end of a sentence
abbrev pub missing_text : Option ℕ → List ℕ
missing_text None = []
missing_text (Some m) = if m == 0 then codes "; there is no gap: 0 is missing" else (codes "; " ++ (decimal m ++ codes " is missing"))

-- a flaw of rows
abbrev pub flaw_text : Flaw → List ℕ
flaw_text (Count count wide tall) = decimal count ++ (codes " numbers are no rows of " ++ (decimal wide ++ (codes " by " ++ decimal tall)))
flaw_text (TooLarge line number largest missing) =
    in_line line (codes ": " ++ (decimal number ++ (codes " is too large: the numbers of this frame are 0 to " ++ (decimal largest ++ missing_text missing))))
flaw_text (Twice line number earlier missing) =
    in_line line (codes ": " ++ (decimal number ++ (codes " stands twice, first in line " ++ (decimal earlier ++ missing_text missing))))

-- the sign of a frame and of the frame in order, and the end of the sentence
abbrev pub signs_text : Verdict → List ℕ → List ℕ
signs_text v end =
    codes " be done: its sign is " ++ (decimal v.sign ++ (codes ", and in order it is " ++ (decimal (sign (ordered v.sides.wide v.sides.tall)) ++ end)))

-- the verdict: it can be done; or it can't, but with the two largest tiles exchanged it can
abbrev pub verdict_text : Verdict → List ℕ
verdict_text v =
    if v.can then (codes "It can" ++ signs_text v (codes "."))
    else (codes "It can't" ++ signs_text v (codes ".\nBut exchange any two tiles, for instance " ++ (decimal (v.sides.wide * v.sides.tall - 2) ++ (codes " and " ++ (decimal (v.sides.wide * v.sides.tall - 1) ++ codes ", and it can be done.")))))
