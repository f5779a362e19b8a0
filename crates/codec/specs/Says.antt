-- What is said of bytes that are no call or no answer. Assumes nothing: these are definitions.
use Rattle.std.specs.Prelude.{ℕ, List, ◌++◌, codes, decimal}
use Rattle.codec.specs.declared.misread.Misread.{Misread}

-- the place of the first byte that does not fit, counted from 0
abbrev pub misread_text : Misread → List ℕ
misread_text e = codes "byte " ++ (decimal e.place ++ codes " does not fit")
