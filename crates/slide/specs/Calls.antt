-- What can be asked of a frame, and which answers are right. Assumes nothing: these are definitions.
use Rattle.std.specs.Prelude.{◌≡◌, ℕ, ◌+◌, ◌*◌, ◌≤◌, Bool, true, false, List, length, ◌==◌, nat_le, nat_lt}
use Rattle.slide.specs.Tiles.{pick, Frame, can, moved, ordered, Brings, sign, proper}

pub data Call : Type 0 where
  lays : List ℕ → Call  -- these cells in place of those that are there
  moves : ℕ → Call  -- one move
  shows : Call  -- the cells
  solves : Call  -- moves that bring the frame in order
  shortest : Call  -- the fewest of them, for frames of up to 9 cells
  garbled : ℕ → Call  -- no call: it can't be read, from that byte on

pub data Answer : Type 0 where
  refused : ℕ → ℕ → Answer  -- the number of the refusal, and its place
  number : ℕ → Answer
  cells : List ℕ → Answer
  way : List ℕ → Answer  -- moves
  never : Answer  -- no moves bring the frame in order

-- a frame of the same size with other cells
abbrev pub laid : Frame → List ℕ → Frame
laid f cs = record { wide = f.wide; tall = f.tall; cells = cs }

-- the number of the first refusal that applies, and 0 where none does: 1 unreadable, 2 no frame or no move, 4 a move that can't be made, 5 too many cells
unfoldable pub turned : Frame → Call → ℕ
turned f (lays cs) = pick (proper (laid f cs)) 0 2
turned f (moves m) = pick (nat_lt m 4) (pick (can f m) 0 4) 2
turned f shows = 0
turned f solves = 0
turned f shortest = pick (nat_le (f.wide * f.tall) 9) 0 5
turned f (garbled n) = 1

-- the place that is told with the refusal k: only of what can't be read does it depend on the call
unfoldable pub place : Call → ℕ → ℕ
place (garbled n) k = n
place (lays cs) k = 0
place (moves m) k = 0
place shows k = 0
place solves k = 0
place shortest k = 0

-- the frame after a call that is taken
unfoldable pub changed : Frame → Call → Frame
changed f (lays cs) = laid f cs
changed f (moves m) = moved f m
changed f shows = f
changed f solves = f
changed f shortest = f
changed f (garbled n) = f

-- the frame after a call: a refusal changes nothing
abbrev pub after : Frame → Call → Frame
after f c = pick (turned f c == 0) (changed f c) f

-- the frame in order, of the same size
abbrev pub home : Frame → Frame
home f = ordered f.wide f.tall

-- the moves bring the frame in order
abbrev pub SolvedBy : Frame → List ℕ → Type 0
SolvedBy f ms = Brings f ms (home f)

-- some moves do
abbrev pub Solvable : Frame → Type 0
Solvable f = (ms : List ℕ) × SolvedBy f ms

-- no moves do, however many
abbrev pub Unsolvable : Frame → Type 0
Unsolvable f = (ms : List ℕ) → SolvedBy f ms → ⊥

-- the moves do, and no fewer do
abbrev pub Fewest : Frame → List ℕ → Type 0
Fewest f ms = SolvedBy f ms × ((ns : List ℕ) → SolvedBy f ns → length ms ≤ length ns)

-- how many moves are promised to be enough: 12 for each cell times both sides together
abbrev pub bound : Frame → ℕ
bound f = 12 * (f.wide * f.tall) * (f.wide + f.tall)

-- the answers that a call which is taken may be given
unfoldable pub MaySay : Frame → Call → Answer → Type 0
MaySay f (lays cs) a = a ≡ number (sign (laid f cs))
MaySay f (moves m) a = a ≡ number m
MaySay f shows a = a ≡ cells f.cells
MaySay f solves (way ms) = SolvedBy f ms × (length ms ≤ bound f)
MaySay f solves never = Unsolvable f
MaySay f solves (refused k p) = ⊥
MaySay f solves (number n) = ⊥
MaySay f solves (cells cs) = ⊥
MaySay f shortest (way ms) = Fewest f ms
MaySay f shortest never = Unsolvable f
MaySay f shortest (refused k p) = ⊥
MaySay f shortest (number n) = ⊥
MaySay f shortest (cells cs) = ⊥
MaySay f (garbled n) a = ⊥

-- the same, or the refusal where the call is turned away
unfoldable pub RightIf : Bool → Frame → Call → Answer → Type 0
RightIf true f c a = MaySay f c a
RightIf false f c a = a ≡ refused (turned f c) (place c (turned f c))

-- the answer is right for the call on the frame
abbrev pub IsRight : Frame → Call → Answer → Type 0
IsRight f c a = RightIf (turned f c == 0) f c a
