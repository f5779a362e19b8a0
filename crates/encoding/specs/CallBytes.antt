-- Calls as bytes: how they are written, and how bytes are read. Assumes nothing: these are definitions.
use Rattle.std.specs.Prelude.{ℕ, ◌*◌, ◌<◌, List, [], ◌∷◌, ◌++◌, length, drop, Err, Result, ◌==◌, slice_index}
use Rattle.std.specs.List.{AllByRecursion}
use Rattle.slide.specs.Tiles.{pick}
use Rattle.slide.specs.Calls as calls
use Rattle.encoding.specs.Bytes.{two, twos, two_at, words}
use Rattle.encoding.specs.Formats.{exactly, sized, by_first, Writing}

-- the calls that can be written: their numbers fit their bytes; what can't be read is no call
abbrev pub CallFits : calls.Call → Type 0
CallFits (calls.lays cs) = (length cs < 65536) × AllByRecursion (λ c. c < 65536) cs
CallFits (calls.moves m) = m < 256
CallFits calls.shows = Unit {0}
CallFits calls.solves = Unit {0}
CallFits calls.shortest = Unit {0}
CallFits (calls.garbled p) = ⊥

-- the bytes of a call: its number, and what it brings
abbrev pub call_bytes : calls.Call → List ℕ
call_bytes (calls.lays cs) = 0 ∷ (two (length cs) ++ twos cs)
call_bytes (calls.moves m) = 1 ∷ m ∷ []
call_bytes calls.shows = 2 ∷ []
call_bytes calls.solves = 3 ∷ []
call_bytes calls.shortest = 4 ∷ []
call_bytes (calls.garbled p) = []

-- the rows of bytes that are calls
abbrev pub CallWriting : List ℕ → Type 0
CallWriting = Writing CallFits call_bytes

-- what bytes are read as that begin with the number of a call
abbrev pub read_call_by : ℕ → List ℕ → Result calls.Call ℕ
read_call_by k bs =
    pick (k == 0) (exactly bs (sized bs 3 (2 * two_at bs 1)) (calls.lays (words (drop 3 bs))))
    (pick (k == 1) (exactly bs 2 (calls.moves (slice_index bs 1)))
    (pick (k == 2) (exactly bs 1 calls.shows)
    (pick (k == 3) (exactly bs 1 calls.solves)
    (pick (k == 4) (exactly bs 1 calls.shortest)
    (Err 0)))))

-- the call that bytes are, or the place of the first that does not fit
abbrev pub read_call : List ℕ → Result calls.Call ℕ
read_call = by_first read_call_by
