-- Cells of given sides as a frame, what keeps cells from being one, and what its sign tells. Assumes nothing: these are definitions.
use Rattle.std.specs.Prelude.{◌≡◌, ℕ, ◌*◌, ◌<◌, ◌≤◌, Bool, true, ◌≢◌, List, length, Some, None, Contains, MatchBool, Option, slice_index}
use Rattle.slide.specs.Tiles.{Frame, sign, proper}
use Rattle.slide.specs.Calls.{home, Solvable, Unsolvable}
use Rattle.slide.specs.Promise.{exchanged}
use Rattle.frame.specs.declared.sides.Sides.{Sides}
use Rattle.frame.specs.declared.check.Misfit.{Misfit}
use Rattle.frame.specs.declared.check.Misfit.TheVariants.{Count, TooLarge, Twice}

-- the frame of these sides and cells
abbrev pub framed : Sides → List ℕ → Frame
framed s cs = record { wide = s.wide; tall = s.tall; cells = cs }

-- cell k holds a number below n that no cell before it holds
abbrev pub FitsAt : ℕ → List ℕ → ℕ → Type 0
FitsAt n cs k = (slice_index cs k < n) × ((i : ℕ) → i < k → slice_index cs i ≢ slice_index cs k)

-- n cells of which k is the first that does not fit
abbrev pub FirstMisfit : ℕ → List ℕ → ℕ → Type 0
FirstMisfit n cs k = (length cs ≡ n) × (k < n) × ((i : ℕ) → i < k → FitsAt n cs i)

-- why the cells are no frame: their count; or the first cell that does not fit, since its number is too large or stands in an earlier cell
abbrev pub Misfits : Sides → List ℕ → Misfit → Type 0
Misfits s cs Count = length cs ≢ s.wide * s.tall
Misfits s cs (TooLarge k) = FirstMisfit (s.wide * s.tall) cs k × (s.wide * s.tall ≤ slice_index cs k)
Misfits s cs (Twice k i) = FirstMisfit (s.wide * s.tall) cs k × (i < k) × (slice_index cs i ≡ slice_index cs k)

-- the smallest number below n that stands in no cell, if there is one
abbrev pub FirstMissing : ℕ → List ℕ → Option ℕ → Type 0
FirstMissing n cs None = (v : ℕ) → v < n → Contains cs v
FirstMissing n cs (Some m) = (m < n) × (Contains cs m → ⊥) × ((v : ℕ) → v < m → Contains cs v)

-- what a sign tells of a frame: if it is that of the frame in order, some moves bring it in order, and else none do
abbrev pub Tells : Frame → ℕ → Type 0
Tells f s = (s ≡ sign (home f) → Solvable f) × (s ≢ sign (home f) → Unsolvable f)

-- f is a proper frame, s is its sign, and what that tells
abbrev pub SignedBy : Frame → ℕ → Type 0
SignedBy f s = (proper f ≡ true) × (s ≡ sign f) × Tells f s

-- f is a proper frame, and b says whether some moves bring it in order
abbrev pub DecidedBy : Frame → Bool → Type 0
DecidedBy f b = (proper f ≡ true) × MatchBool b (Solvable f) (Unsolvable f)

-- if the cells are a frame that can't be put in order, it can once the tiles a and b are exchanged, wherever they stand
abbrev pub MendedBy : Sides → List ℕ → ℕ → ℕ → Type 0
MendedBy s cs a b =
    proper (framed s cs) ≡ true → Unsolvable (framed s cs) → (i j : ℕ) → i < length cs → j < length cs → slice_index cs i ≡ a → slice_index cs j ≡ b →
    Solvable (exchanged (framed s cs) i j)
