-- Two frames of 3 by 3, worked: one that is two moves from order, and one that never comes in order. Each capitalised name is a statement.
use Rattle.std.specs.Prelude.{◌≡◌, ℕ, List, [], ◌∷◌}
use Rattle.slide.specs.Tiles.{Frame, sign}
use Rattle.slide.specs.Calls.{Unsolvable, Fewest}

-- 1 2 3, 4 5 6, 0 7 8
abbrev pub two_moves_left : Frame
two_moves_left = record { wide = 3; tall = 3; cells = 1 ∷ 2 ∷ 3 ∷ 4 ∷ 5 ∷ 6 ∷ 0 ∷ 7 ∷ 8 ∷ [] }

-- its sign is 0, and the fewest moves that bring it in order are two to the left, and no other two
abbrev pub TwiceToTheLeft : Type 0
TwiceToTheLeft = (sign two_moves_left ≡ 0) × Fewest two_moves_left (3 ∷ 3 ∷ []) × ((ms : List ℕ) → Fewest two_moves_left ms → ms ≡ 3 ∷ 3 ∷ [])

-- 1 2 3, 4 5 6, 8 7 0
abbrev pub last_two_exchanged : Frame
last_two_exchanged = record { wide = 3; tall = 3; cells = 1 ∷ 2 ∷ 3 ∷ 4 ∷ 5 ∷ 6 ∷ 8 ∷ 7 ∷ 0 ∷ [] }

-- its sign is 1, and no moves bring it in order, however many
abbrev pub LastTwoNever : Type 0
LastTwoNever = (sign last_two_exchanged ≡ 1) × Unsolvable last_two_exchanged
