-- Numbers as bytes, low byte first. Assumes nothing: these are definitions.
use Rattle.std.specs.Prelude.{ℕ, ◌+◌, ◌*◌, ◌/◌, ◌%◌, ◌<◌, List, [], ◌∷◌, slice_index}
use Rattle.std.specs.List.{AllByRecursion}

-- each of them is a byte
abbrev pub Bytes : List ℕ → Type 0
Bytes bs = AllByRecursion (λ b. b < 256) bs

-- a number in two bytes
abbrev pub two : ℕ → List ℕ
two n = n % 256 ∷ n / 256 % 256 ∷ []

-- a number in four bytes
abbrev pub four : ℕ → List ℕ
four n = n % 256 ∷ n / 256 % 256 ∷ n / 65536 % 256 ∷ n / 16777216 % 256 ∷ []

-- numbers in two bytes each
unfoldable pub twos : List ℕ → List ℕ
twos [] = []
twos (n ∷ ns) = n % 256 ∷ n / 256 % 256 ∷ twos ns

-- the number in the two bytes from place i on
abbrev pub two_at : List ℕ → ℕ → ℕ
two_at bs i = slice_index bs i + slice_index bs (i + 1) * 256

-- the number in the four bytes from place i on
abbrev pub four_at : List ℕ → ℕ → ℕ
four_at bs i = slice_index bs i + slice_index bs (i + 1) * 256 + slice_index bs (i + 2) * 65536 + slice_index bs (i + 3) * 16777216

-- the numbers in two bytes each; a byte that is left over is none
unfoldable pub words : List ℕ → List ℕ
words [] = []
words (a ∷ []) = []
words (a ∷ b ∷ bs) = (a + b * 256) ∷ words bs
