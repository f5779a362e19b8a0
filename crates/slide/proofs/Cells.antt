-- Places of a frame as rows and columns, and which of them are neighbours.
use Rattle.std.proofs.Common.{◌≡◌, ℕ, suc, ◌+◌, ◌*◌, ◌/◌, ◌%◌, ◌<◌, ◌≢◌, arith}
use Rattle.std.proofs.lemmas.Nat.{same_from_place, div_below}

-- cells in other rows or columns are other places
pub pos_apart : (w i j x y : ℕ) → j < w → y < w → (i ≡ x → j ≡ y → ⊥) → i * w + j ≢ x * w + y
pos_apart w i j x y a b n e = let r = same_from_place i j x y w a b e in n r.0 r.1

-- the row and the column of a place
pub record Cell (w t p : ℕ) : Type 0 where
  pub row : ℕ
  pub col : ℕ
  pub is : p ≡ row * w + col
  pub below : row < t
  pub within : col < w

-- every place of the frame has them
pub cell : (w t p : ℕ) → p < w * t → Cell w t p
cell w t p l =
    let k : 0 < w = grind arith in
    record { row = p / w; col = p % w; is = omega arith; below = div_below p w t k (omega arith); within = omega arith }

-- where the gap goes: up, down, left, right
pub data Dir : Type 0 where
  U D L R : Dir

-- the number of the move by which the gap goes there: the tile goes the other way
abbrev pub num : Dir → ℕ
num U = 0
num D = 1
num L = 2
num R = 3

-- the direction back
abbrev pub opposite : Dir → Dir
opposite U = D
opposite D = U
opposite L = R
opposite R = L

-- from row i and column j to row x and column y, in a frame w wide and t tall
abbrev pub Beside : ℕ → ℕ → Dir → ℕ → ℕ → ℕ → ℕ → Type 0
Beside w t U i j x y = (i ≡ suc x) × (y ≡ j) × (i < t) × (j < w)
Beside w t D i j x y = (x ≡ suc i) × (y ≡ j) × (x < t) × (j < w)
Beside w t L i j x y = (x ≡ i) × (j ≡ suc y) × (i < t) × (j < w)
Beside w t R i j x y = (x ≡ i) × (y ≡ suc j) × (i < t) × (y < w)

-- the step from the one to the other
pub record Next (w t : ℕ) (d : Dir) (i j x y : ℕ) : Type 0 where
  pub is : Beside w t d i j x y

-- both are in the frame
pub next_in : {w t : ℕ} {d : Dir} {i j x y : ℕ} → Next w t d i j x y → (x < t) × (y < w) × (i < t) × (j < w)
next_in n = grind arith

-- they are two cells
pub next_ne : {w t : ℕ} {d : Dir} {i j x y : ℕ} → Next w t d i j x y → i ≡ x → j ≡ y → ⊥
next_ne n a b = grind arith

-- and each is the neighbour of the other
pub next_back : {w t : ℕ} {d : Dir} {i j x y : ℕ} → Next w t d i j x y → Next w t (opposite d) x y i j
next_back n = grind arith
