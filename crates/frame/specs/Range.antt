-- Which sides a frame can have. Assumes nothing: this is a definition.
use Rattle.std.specs.Prelude.{ℕ, ◌≤◌}

-- each side is 2 to 16
abbrev pub InRange : ℕ → ℕ → Type 0
InRange w t = (2 ≤ w) × (w ≤ 16) × (2 ≤ t) × (t ≤ 16)
