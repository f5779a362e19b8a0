-- What the code's calls, answers and refusals mean: each case with its number and values. Assumes nothing: these are definitions.
use Rattle.std.specs.Prelude.{◌≡◌, ℕ, ◌+◌, ◌*◌, ◌<◌, ◌≤◌, List, ◌++◌, length, take, drop, Ok, Err, Result}
use Rattle.slide.specs.Calls as calls
use Rattle.encoding.specs.Bytes.{words}
use Rattle.encoding.specs.AnswerBytes.{answer_bytes, read_answer}
use Rattle.codec.specs.declared.answer.Answer.{Answer}
use Rattle.codec.specs.declared.answer.Answer.TheVariants.{Refused, Number, Cells, Way, Never}
use Rattle.codec.specs.declared.call.Call.{Call}
use Rattle.codec.specs.declared.call.Call.TheVariants.{Lay, Move, Show, Solve, Shortest}
use Rattle.codec.specs.declared.misread.Misread.{Misread}
use Rattle.codec.specs.declared.refusal.Refusal.{Refusal}
use Rattle.codec.specs.declared.refusal.Refusal.TheVariants.{Unreadable, Improper, Side, Memory, Blocked, TooManyCells}

-- the call that is meant
abbrev pub meant : Call → calls.Call
meant (Lay bs) = calls.lays (words bs.now)
meant (Move m) = calls.moves m
meant Show = calls.shows
meant Solve = calls.solves
meant Shortest = calls.shortest

-- the cells of a lay are the part of the request behind their count
abbrev pub PartOf : List ℕ → Call → Type 0
PartOf request (Lay bs) = bs.now ≡ drop 3 request
PartOf request (Move m) = Unit {0}
PartOf request Show = Unit {0}
PartOf request Solve = Unit {0}
PartOf request Shortest = Unit {0}

-- the number of a refusal
abbrev pub number_of : Refusal → ℕ
number_of (Unreadable p) = 1
number_of Improper = 2
number_of Side = 3
number_of Memory = 3
number_of Blocked = 4
number_of TooManyCells = 5

-- the place that is told with it
abbrev pub place_of : Refusal → ℕ
place_of (Unreadable p) = p
place_of Improper = 0
place_of Side = 0
place_of Memory = 1
place_of Blocked = 0
place_of TooManyCells = 0

-- the refusal as an answer
abbrev pub turned_away : Refusal → calls.Answer
turned_away e = calls.refused (number_of e) (place_of e)

-- the answer that is meant, beside the cells cs and the bytes bs: the moves of a way stand there, from the sixth byte on
abbrev pub told : Answer → List ℕ → List ℕ → calls.Answer
told (Refused e) cs bs = turned_away e
told (Number n) cs bs = calls.number n
told Cells cs bs = calls.cells cs
told (Way n) cs bs = calls.way (take n (drop 5 bs))
told Never cs bs = calls.never

-- the answer that is meant by bytes which hold it: its cells stand there, from the fourth byte on
abbrev pub told_in : List ℕ → Answer → calls.Answer
told_in bs a = told a (words (drop 3 bs)) bs

-- how many bytes an answer takes, with n cells beside it
abbrev pub size : Answer → ℕ → ℕ
size (Refused e) n = 7
size (Number k) n = 3
size Cells n = 3 + 2 * n
size (Way k) n = 5 + k
size Never n = 1

-- there is room for the answer in so many bytes, and two bytes can count the cells beside it
abbrev pub HasRoom : Answer → ℕ → ℕ → Type 0
HasRoom a n room = (size a n ≤ room) × (n < 65536)

-- the answer is written over what was there before: its n bytes, and behind them what was there; and these are read back as the answer
pub record Written (a : Answer) (cs before after : List ℕ) (n : ℕ) : Type 0 where
  pub room : HasRoom a (length cs) (length before)
  pub count : n ≡ size a (length cs)
  pub bytes : after ≡ answer_bytes (told a cs before) ++ drop n before
  pub back : read_answer (take n after) ≡ Ok (told a cs before)

-- what was read, by what it means; or the place of the first byte that does not fit
abbrev pub as_read : {X Y : Type 0} → (X → Y) → Result X Misread → Result Y ℕ
as_read mean (Ok x) = Ok (mean x)
as_read mean (Err e) = Err e.place
