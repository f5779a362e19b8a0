-- Answers as bytes: how they are written, and how bytes are read. Assumes nothing: these are definitions.
use Rattle.std.specs.Prelude.{◌≡◌, ℕ, zero, suc, ◌*◌, ◌<◌, Bool, true, not, ◌&&◌, ◌||◌, List, [], ◌∷◌, ◌++◌, length, drop, Err, Result, ◌==◌, nat_le, nat_lt, slice_index}
use Rattle.std.specs.List.{AllByRecursion}
use Rattle.slide.specs.Tiles.{pick}
use Rattle.slide.specs.Calls as calls
use Rattle.encoding.specs.Bytes.{Bytes, two, four, twos, two_at, four_at, words}
use Rattle.encoding.specs.Formats.{exactly, sized, by_first, Writing}

-- whether k is the number of a refusal that is told with the place p: 1 with any, 3 with 0 or 1, and 2, 4 and 5 with 0
abbrev pub refusal : ℕ → ℕ → Bool
refusal k p = k == 1 || ((k == 3 && nat_lt p 2) || ((k == 2 || (k == 4 || k == 5)) && p == 0))

-- the answers that can be written: their numbers fit their bytes, and a refusal is one of the list
abbrev pub AnswerFits : calls.Answer → Type 0
AnswerFits (calls.refused k p) = (refusal k p ≡ true) × (p < 4294967296)
AnswerFits (calls.number n) = n < 65536
AnswerFits (calls.cells cs) = (length cs < 65536) × AllByRecursion (λ c. c < 65536) cs
AnswerFits (calls.way ms) = (length ms < 4294967296) × Bytes ms
AnswerFits calls.never = Unit {0}

-- the bytes of an answer: its number, and what it tells
abbrev pub answer_bytes : calls.Answer → List ℕ
answer_bytes (calls.refused k p) = 0 ∷ (two k ++ four p)
answer_bytes (calls.number n) = 1 ∷ two n
answer_bytes (calls.cells cs) = 2 ∷ (two (length cs) ++ twos cs)
answer_bytes (calls.way ms) = 3 ∷ (four (length ms) ++ ms)
answer_bytes calls.never = 4 ∷ []

-- the rows of bytes that are answers
abbrev pub AnswerWriting : List ℕ → Type 0
AnswerWriting = Writing AnswerFits answer_bytes

-- the least byte that can stand at place i, 1 to 6, of a refusal: no refusal has the number 0
abbrev pub least : ℕ → ℕ
least i = pick (i == 1) 1 0

-- the greatest byte that can stand at place i, 1 to 6, of a refusal of the number k
abbrev pub most : ℕ → ℕ → ℕ
most k i = pick (i == 1) 5 (pick (i == 2) 0 (pick (k == 1) 255 (pick (i == 3 && k == 3) 1 0)))

-- whether the byte b can stand there
abbrev pub stands : ℕ → ℕ → ℕ → Bool
stands k i b = nat_le (least i) b && nat_le b (most k i)

-- the first of n places from i on where there is a byte that can't stand there; i + n where there is none
unfoldable pub misfit : List ℕ → ℕ → ℕ → ℕ
misfit bs i zero = i
misfit bs i (suc n) = pick (nat_lt i (length bs) && not (stands (slice_index bs 1) i (slice_index bs i))) i (misfit bs (suc i) n)

-- what bytes are read as that begin with 0
abbrev pub read_refusal : List ℕ → Result calls.Answer ℕ
read_refusal bs = exactly bs (misfit bs 1 6) (calls.refused (two_at bs 1) (four_at bs 3))

-- what bytes are read as that begin with the number of an answer
abbrev pub read_answer_by : ℕ → List ℕ → Result calls.Answer ℕ
read_answer_by k bs =
    pick (k == 0) (read_refusal bs)
    (pick (k == 1) (exactly bs 3 (calls.number (two_at bs 1)))
    (pick (k == 2) (exactly bs (sized bs 3 (2 * two_at bs 1)) (calls.cells (words (drop 3 bs))))
    (pick (k == 3) (exactly bs (sized bs 5 (four_at bs 1)) (calls.way (drop 5 bs)))
    (pick (k == 4) (exactly bs 1 calls.never)
    (Err 0)))))

-- the answer that bytes are, or the place of the first that does not fit
abbrev pub read_answer : List ℕ → Result calls.Answer ℕ
read_answer = by_first read_answer_by
