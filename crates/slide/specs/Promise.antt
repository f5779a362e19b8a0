-- What is promised of frames and of the desk. Each capitalised name but `Memory`, `Desk` and `AllRight` is a statement, a type whose proof is owed. Assumes nothing.
use Rattle.std.specs.Prelude.{◌≡◌, ℕ, suc, ◌+◌, ◌-◌, ◌*◌, ◌/◌, ◌%◌, ◌<◌, ◌≤◌, true, ◌≢◌, List, [], ◌∷◌, length, ◌==◌, slice_index, slice_set}
use Rattle.slide.specs.Tiles.{pick, Frame, can, moved, can_all, after_all, ordered, Brings, sign, proper}
use Rattle.slide.specs.Calls.{Call, Answer, turned, after, IsRight, home, SolvedBy, bound}

-- ---- frames

-- of two frames of one size, whatever that is, one can be brought to the other just if their signs are the same
abbrev pub SignTells : Type 0
SignTells =
    (f g : Frame) → proper f ≡ true → proper g ≡ true → g.wide ≡ f.wide → g.tall ≡ f.tall →
    (((ms : List ℕ) × Brings f ms g) → sign f ≡ sign g) × (sign f ≡ sign g → (ms : List ℕ) × Brings f ms g)

-- what can be brought in order can be so in at most 12 moves for each cell times both sides together
abbrev pub NotTooMany : Type 0
NotTooMany = (f : Frame) → proper f ≡ true → sign f ≡ sign (home f) → (ms : List ℕ) × SolvedBy f ms × (length ms ≤ bound f)

-- the move that makes a move back: down and up, right and left
abbrev pub back : ℕ → ℕ
back m = pick (m == 0) 1 (pick (m == 1) 0 (pick (m == 2) 3 2))

-- every move can be made back, and a frame stays one
abbrev pub MadeBack : Type 0
MadeBack =
    (f : Frame) (m : ℕ) → proper f ≡ true → can f m ≡ true → (proper (moved f m) ≡ true) × (can (moved f m) (back m) ≡ true) × (moved (moved f m) (back m) ≡ f)

-- the frame with what its cells i and j hold exchanged
unfoldable pub exchanged : Frame → ℕ → ℕ → Frame
exchanged f i j = record { wide = f.wide; tall = f.tall; cells = slice_set (slice_set f.cells i (slice_index f.cells j)) j (slice_index f.cells i) }

-- two tiles exchanged make the sign the other one
abbrev pub HalfOfAll : Type 0
HalfOfAll =
    (f : Frame) (i j : ℕ) → proper f ≡ true → i < f.wide * f.tall → j < f.wide * f.tall → i ≢ j → slice_index f.cells i ≢ 0 → slice_index f.cells j ≢ 0 →
    (proper (exchanged f i j) ≡ true) × (sign (exchanged f i j) ≢ sign f)

-- how far two numbers are apart
abbrev pub apart : ℕ → ℕ → ℕ
apart a b = (a - b) + (b - a)

-- the distances, rows and columns, of all tiles of a list from their cells in order; the list begins at cell i of a frame w wide
unfoldable pub far_in : ℕ → List ℕ → ℕ → ℕ
far_in w [] i = 0
far_in w (c ∷ cs) i = pick (c == 0) 0 (apart (i / w) ((c - 1) / w) + apart (i % w) ((c - 1) % w)) + far_in w cs (suc i)

-- no way in order is shorter than all tiles' distances together
abbrev pub AtLeast : Type 0
AtLeast = (f : Frame) (ms : List ℕ) → proper f ≡ true → SolvedBy f ms → far_in f.wide f.cells 0 ≤ length ms

-- with three rows or more, if the first k cells of the first row have their tiles, moves bring the next one there too, and leave these so in the end
abbrev pub RowByRow : Type 0
RowByRow =
    (f : Frame) (k : ℕ) → proper f ≡ true → 3 ≤ f.tall → k < f.wide → ((i : ℕ) → i < k → slice_index f.cells i ≡ suc i) →
    (ms : List ℕ) × (can_all f ms ≡ true) × ((i : ℕ) → i < suc k → slice_index (after_all f ms).cells i ≡ suc i)

-- ---- the desk

-- what the desk holds between calls
pub record Memory : Type 0 where
  pub words : List ℕ

-- a desk: what opening leaves, what a call leaves, and what it answers
pub record Desk : Type 0 where
  pub opened : ℕ → ℕ → Memory
  pub next : Memory → Call → Memory
  pub says : Memory → Call → Answer

-- each answer is right for the frame that the calls before it left
unfoldable pub AllRight : Desk → Memory → Frame → List Call → Type 0
AllRight d m f [] = ℕ
AllRight d m f (c ∷ cs) = IsRight f c (d.says m c) × AllRight d (d.next m c) (after f c) cs

-- so it is for frames of 2 to 16 by 2 to 16 and every list of calls
unfoldable pub Right : Desk → Type 0
Right d = (w t : ℕ) (cs : List Call) → 2 ≤ w → w ≤ 16 → 2 ≤ t → t ≤ 16 → AllRight d (d.opened w t) (ordered w t) cs

-- the frame after a list of calls
unfoldable pub ran : Frame → List Call → Frame
ran f [] = f
ran f (c ∷ cs) = ran (after f c) cs

-- the memory after a list of calls
unfoldable pub left_by : Desk → Memory → List Call → Memory
left_by d m [] = m
left_by d m (c ∷ cs) = left_by d (d.next m c) cs

-- a call that is turned away leaves the memory as it was
unfoldable pub RefusalKeeps : Desk → Type 0
RefusalKeeps d =
    (w t : ℕ) (cs : List Call) (c : Call) → 2 ≤ w → w ≤ 16 → 2 ≤ t → t ≤ 16 → 0 < turned (ran (ordered w t) cs) c →
    d.next (left_by d (d.opened w t) cs) c ≡ left_by d (d.opened w t) cs
