-- What reading a line adds to the rows read so far. Assumes nothing: these are definitions.
use Rattle.std.specs.Prelude.{◌≡◌, ℕ, ◌⊎◌, List, [], ◌∷◌, ◌++◌, length, Some, vec_items}
use Rattle.text.specs.declared.read.Reading.{Reading}
use Rattle.text.specs.Rows.{IsPassed, HoldsRow, GoesOn}

-- the line k, which is l, is passed over and leaves what was there, or holds a row, which comes behind it
abbrev pub Taken : ℕ → List ℕ → Reading → Reading → Type 0
Taken k l a b =
    (IsPassed l × (vec_items b.cells ≡ vec_items a.cells) × (vec_items b.lines ≡ vec_items a.lines) × (b.wide ≡ a.wide))
    ⊎ ((r : List ℕ) × HoldsRow l r × GoesOn a.wide (length (vec_items a.lines)) (length r)
    × (vec_items b.cells ≡ vec_items a.cells ++ r) × (vec_items b.lines ≡ vec_items a.lines ++ (k ∷ [])) × (b.wide ≡ Some (length r)))
