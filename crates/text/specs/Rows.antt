-- How a text is read as the rows of a frame, line by line, and where it is wrong. Assumes nothing: these are definitions.
use Rattle.std.specs.Prelude.{◌≡◌, ℕ, zero, suc, ◌<◌, ◌≤◌, max, ◌≢◌, ◌⊎◌, List, [], ◌∷◌, ◌++◌, length, Some, None, Option, slice_index}
use Rattle.std.specs.Str.Lines.{IsFirstLine}
use Rattle.std.specs.Str.Parse.{IsNumeral, digits_value, without_leading_plus}
use Rattle.std.specs.Char.{is_whitespace, is_not_whitespace}
use Rattle.std.specs.Str.{NoCharPasses, EmptyOrStartsWithPassing}
use Rattle.std.specs.List.{flat_map, AllByRecursion}
use Rattle.frame.specs.declared.sides.Sides.{Sides}
use Rattle.text.specs.declared.fault.Fault.{Fault}
use Rattle.text.specs.declared.fault.Fault.TheVariants.{Memory, NotANumber, Ragged, Columns, TooFew, TooMany}

-- ---- one line
-- bs is white space, the word w, and rest, which is empty or begins with white space
pub record Word (bs w rest : List ℕ) : Type 0 where
  pub blank : List ℕ
  pub cut : bs ≡ blank ++ (w ++ rest)
  pub some : 0 < length w
  pub empty : NoCharPasses is_not_whitespace blank
  pub solid : NoCharPasses is_whitespace w
  pub ends : (more : List ℕ) × EmptyOrStartsWithPassing is_whitespace rest more

-- the word is a decimal number below 256, and n is it
abbrev pub Says : List ℕ → ℕ → Type 0
Says w n = IsNumeral 10 (without_leading_plus w) × (digits_value 10 (without_leading_plus w) ≡ n) × (n < 256)

-- the words of the line are the numbers
abbrev pub Numbers : List ℕ → List ℕ → Type 0
Numbers bs [] = NoCharPasses is_not_whitespace bs
Numbers bs (n ∷ ns) = (w : List ℕ) × (rest : List ℕ) × Word bs w rest × Says w n × Numbers rest ns

-- the word i of the line, from 0, is no such number, and those before it are
abbrev pub Misread : List ℕ → ℕ → Type 0
Misread bs zero = (w : List ℕ) × (rest : List ℕ) × Word bs w rest × ((n : ℕ) → Says w n → ⊥)
Misread bs (suc i) = (w : List ℕ) × (rest : List ℕ) × (n : ℕ) × Word bs w rest × Says w n × Misread rest i

-- the fault of a line k of which a word is misread, or for which there is no memory
abbrev pub WordFault : ℕ → List ℕ → Fault → Type 0
WordFault k l Memory = Unit {0}
WordFault k l (NotANumber line word) = (line ≡ k) × ((i : ℕ) × (word ≡ suc i) × Misread l i)
WordFault k l (Ragged line count wide) = ⊥
WordFault k l (Columns line count) = ⊥
WordFault k l (TooFew line rows) = ⊥
WordFault k l (TooMany line) = ⊥

-- the line begins with `#`
abbrev pub IsComment : List ℕ → Type 0
IsComment l = slice_index l 0 ≡ 35

-- a line that is passed over: a comment, or nothing but white space
abbrev pub IsPassed : List ℕ → Type 0
IsPassed l = IsComment l ⊎ Numbers l []

-- a line that holds the row r
abbrev pub HoldsRow : List ℕ → List ℕ → Type 0
HoldsRow l r = (IsComment l → ⊥) × Numbers l r × (0 < length r)

-- ---- one row more
-- c numbers can be the next row after n rows of w numbers each; the first row has no w before it
abbrev pub GoesOn : Option ℕ → ℕ → ℕ → Type 0
GoesOn None n c = (2 ≤ c) × (c ≤ 16)
GoesOn (Some w) n c = (n < 16) × (c ≡ w)

-- the fault of line k with c numbers after n rows of w numbers each: too few or too many numbers, another count than the first row's, or a row too many
abbrev pub RowFault : ℕ → Option ℕ → ℕ → ℕ → Fault → Type 0
RowFault k None n c (Columns line count) = (line ≡ k) × (count ≡ c) × ((2 ≤ c) × (c ≤ 16) → ⊥)
RowFault k None n c e = ⊥
RowFault k (Some w) n c (Ragged line count wide) = (line ≡ k) × (count ≡ c) × (wide ≡ w) × (c ≢ w)
RowFault k (Some w) n c (TooMany line) = (line ≡ k) × (16 ≤ n) × (c ≡ w)
RowFault k (Some w) n c e = ⊥

-- the fault of line k, which is l, after n rows of w numbers each
abbrev pub LineFault : ℕ → List ℕ → Option ℕ → ℕ → Fault → Type 0
LineFault k l w n e = ((IsComment l → ⊥) × WordFault k l e) ⊎ ((r : List ℕ) × HoldsRow l r × RowFault k w n (length r) e)

-- ---- the whole text
-- l is the first line of bs, and rest follows it
pub record FirstLine (bs l rest : List ℕ) : Type 0 where
  pub some : 0 < length bs
  pub line : IsFirstLine bs l rest

-- from line k on, bs holds the rows rs, in the lines ks
pub data Holds : ℕ → List ℕ → List (List ℕ) → List ℕ → Type 0 where
  ended : {k : ℕ} {bs : List ℕ} → length bs ≡ 0 → Holds k bs [] []
  passing : {k : ℕ} {bs l rest : List ℕ} {rs : List (List ℕ)} {ks : List ℕ} → FirstLine bs l rest → IsPassed l → Holds (suc k) rest rs ks → Holds k bs rs ks
  taking : {k : ℕ} {bs l rest r : List ℕ} {rs : List (List ℕ)} {ks : List ℕ} → FirstLine bs l rest → HoldsRow l r → Holds (suc k) rest rs ks → Holds k bs (r ∷ rs) (k ∷ ks)

-- from line k on, after n rows of w numbers each, bs has the fault e; w is none before the first row
pub data Fails : ℕ → List ℕ → Option ℕ → ℕ → Fault → Type 0 where
  too_short : {k : ℕ} {bs : List ℕ} {w : Option ℕ} {n : ℕ} → length bs ≡ 0 → n < 2 → Fails (suc k) bs w n (TooFew (max k 1) n)
  fails_here : {k : ℕ} {bs l rest : List ℕ} {w : Option ℕ} {n : ℕ} {e : Fault} → FirstLine bs l rest → LineFault k l w n e → Fails k bs w n e
  fails_after_passing : {k : ℕ} {bs l rest : List ℕ} {w : Option ℕ} {n : ℕ} {e : Fault} → FirstLine bs l rest → IsPassed l → Fails (suc k) rest w n e → Fails k bs w n e
  fails_after_row : {k : ℕ} {bs l rest : List ℕ} {w : Option ℕ} {n : ℕ} {e : Fault} (r : List ℕ) → FirstLine bs l rest → HoldsRow l r → GoesOn w n (length r) →
      Fails (suc k) rest (Some (length r)) (suc n) e → Fails k bs w n e

-- the text holds the cells as rows of the sides, and these stand in the lines ls
pub record Written (bs : List ℕ) (s : Sides) (cs ls : List ℕ) : Type 0 where
  pub rows : List (List ℕ)
  pub held : Holds 1 bs rows ls
  pub wide : AllByRecursion (λ r. length r ≡ s.wide) rows
  pub tall : length rows ≡ s.tall
  pub cells : cs ≡ flat_map (λ r. r) rows
