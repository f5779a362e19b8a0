-- Frames of numbered tiles with one gap: cells, moves, the frame in order, and the sign. Assumes nothing: these are definitions.
use Rattle.std.specs.Prelude.{◌≡◌, ℕ, zero, suc, ◌+◌, ◌-◌, ◌*◌, ◌/◌, ◌%◌, Bool, true, false, ◌&&◌, List, [], ◌∷◌, ◌++◌, length, ◌==◌, nat_le, nat_lt, slice_index, slice_set}

-- the first where the test is true, else the second
abbrev pub pick : {A : Type 0} → Bool → A → A → A
pick true a b = a
pick false a b = b

-- a frame: its width, its height, and its cells row by row; 0 is the gap, every other number a tile
pub record Frame : Type 0 where
  pub wide : ℕ
  pub tall : ℕ
  pub cells : List ℕ

-- what the cell i holds, counted from 0
abbrev pub at : Frame → ℕ → ℕ
at f i = slice_index f.cells i

-- the first cell that holds 0; how many cells there are, where none does
unfoldable pub gap_in : List ℕ → ℕ
gap_in [] = 0
gap_in (c ∷ cs) = pick (c == 0) 0 (suc (gap_in cs))

-- the cell of the gap
abbrev pub gap : Frame → ℕ
gap f = gap_in f.cells

-- the cell whose tile a move takes into the gap: 0 the one above goes down, 1 the one below goes up, 2 the one to the left goes right, 3 the one to the right goes left
unfoldable pub from : Frame → ℕ → ℕ
from f zero = gap f - f.wide
from f (suc zero) = gap f + f.wide
from f (suc (suc zero)) = gap f - 1
from f (suc (suc (suc m))) = gap f + 1

-- whether there is such a tile: not beyond the edge of the frame, and no move above 3
unfoldable pub can : Frame → ℕ → Bool
can f zero = nat_le f.wide (gap f)
can f (suc zero) = nat_lt (gap f + f.wide) (f.wide * f.tall)
can f (suc (suc zero)) = nat_lt 0 (gap f % f.wide)
can f (suc (suc (suc zero))) = nat_lt (gap f % f.wide + 1) f.wide
can f (suc (suc (suc (suc m)))) = false

-- the frame after a move: the tile is where the gap was, and the gap where the tile was
abbrev pub moved : Frame → ℕ → Frame
moved f m = record { wide = f.wide; tall = f.tall; cells = slice_set (slice_set f.cells (gap f) (at f (from f m))) (from f m) 0 }

-- whether moves can be made one after the other
unfoldable pub can_all : Frame → List ℕ → Bool
can_all f [] = true
can_all f (m ∷ ms) = can f m && can_all (moved f m) ms

-- the frame after them
unfoldable pub after_all : Frame → List ℕ → Frame
after_all f [] = f
after_all f (m ∷ ms) = after_all (moved f m) ms

-- the moves can be made, and lead from the first frame to the second
abbrev pub Brings : Frame → List ℕ → Frame → Type 0
Brings f ms g = (can_all f ms ≡ true) × (after_all f ms ≡ g)

-- n numbers, counted up from k
unfoldable pub up_from : ℕ → ℕ → List ℕ
up_from zero k = []
up_from (suc n) k = k ∷ up_from n (suc k)

-- the frame in order: 1, 2 and so on, and the gap last
abbrev pub ordered : ℕ → ℕ → Frame
ordered w t = record { wide = w; tall = t; cells = up_from (w * t - 1) 1 ++ (0 ∷ []) }

-- how many tiles of a list are smaller than c; the gap is no tile
unfoldable pub larger_than : ℕ → List ℕ → ℕ
larger_than c [] = 0
larger_than c (d ∷ ds) = pick (nat_lt 0 d && nat_lt d c) 1 0 + larger_than c ds

-- the inversions of a list: pairs of tiles of which the one that comes first is the larger
unfoldable pub wrong_pairs : List ℕ → ℕ
wrong_pairs [] = 0
wrong_pairs (c ∷ cs) = larger_than c cs + wrong_pairs cs

-- the sign: whether the inversions and, where the width is even, the gap's row from 0 are together even (0) or odd (1)
abbrev pub sign : Frame → ℕ
sign f = (wrong_pairs f.cells + pick (f.wide % 2 == 0) (gap f / f.wide) 0) % 2

-- how often c stands in a list
unfoldable pub times_in : ℕ → List ℕ → ℕ
times_in c [] = 0
times_in c (d ∷ ds) = pick (c == d) 1 0 + times_in c ds

-- whether each number below n stands in a list just once
unfoldable pub each_once : ℕ → List ℕ → Bool
each_once zero cs = true
each_once (suc n) cs = times_in n cs == 1 && each_once n cs

-- a proper frame: two or more rows and columns, as many cells as these make, and each number below their count once
abbrev pub proper : Frame → Bool
proper f = (nat_le 2 f.wide && nat_le 2 f.tall) && (length f.cells == f.wide * f.tall && each_once (f.wide * f.tall) f.cells)
