-- What can be reached, beyond what is promised: in fewer moves, from any frame to any other, and with two tiles exchanged. Each capitalised name is a statement.
use Rattle.std.specs.Prelude.{◌≡◌, ℕ, ◌+◌, ◌*◌, ◌<◌, ◌≤◌, true, ◌≢◌, List, length}
use Rattle.slide.specs.Tiles.{Frame, at, Brings, sign, proper}
use Rattle.slide.specs.Calls.{home, SolvedBy, Solvable, Unsolvable, bound}
use Rattle.slide.specs.Promise.{exchanged}

-- 7 moves for each cell times both sides together
abbrev pub most : ℕ → ℕ → ℕ
most w t = 7 * (w * t) * (w + t)

-- so many are enough to bring a frame in order
abbrev pub SevenEach : Type 0
SevenEach = (f : Frame) → proper f ≡ true → sign f ≡ sign (home f) → (ms : List ℕ) × SolvedBy f ms × (length ms ≤ most f.wide f.tall)

-- so under the promised bound 20 times the sides together stay free
abbrev pub RoomLeft : Type 0
RoomLeft =
    (f : Frame) → proper f ≡ true → sign f ≡ sign (home f) → (ms : List ℕ) × SolvedBy f ms × (length ms + 20 * (f.wide + f.tall) ≤ bound f)

-- any frame is brought to any other of its size and sign, in as many moves and the sides once more
abbrev pub AnyToAny : Type 0
AnyToAny =
    (f g : Frame) → proper f ≡ true → proper g ≡ true → g.wide ≡ f.wide → g.tall ≡ f.tall → sign f ≡ sign g →
    (ms : List ℕ) × Brings f ms g × (length ms ≤ most f.wide f.tall + (f.wide + f.tall))

-- a frame that can't be brought in order can be, once any two of its tiles are exchanged
abbrev pub ExchangeMends : Type 0
ExchangeMends =
    (f : Frame) (i j : ℕ) → proper f ≡ true → i < f.wide * f.tall → j < f.wide * f.tall → i ≢ j → at f i ≢ 0 → at f j ≢ 0 → Unsolvable f →
    Solvable (exchanged f i j)
