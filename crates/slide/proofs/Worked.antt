-- The worked frames of 3 by 3: their moves are made by computing, and the laws of distances and of the sign say the rest.
use Rattle.std.proofs.Common.{◌≡◌, ℕ, zero, suc, ◌≤◌, true, List, [], ◌∷◌, length, refl, ap, arith}
use Rattle.std.proofs.lemmas.Bool.{false≢true}
use Rattle.slide.specs.Tiles.{Frame, at, gap_in, from, can, can_all, after_all, up_from, larger_than, wrong_pairs, times_in, each_once, proper}
use Rattle.slide.specs.Calls.{SolvedBy, Fewest}
use Rattle.slide.specs.Promise.{far_in}
use Rattle.slide.specs.Examples.{two_moves_left, TwiceToTheLeft, last_two_exchanged, LastTwoNever}
use Rattle.slide.proofs.Distance.{at_least}
use Rattle.slide.proofs.Sign.{never_by_sign}

-- moves that bring a frame in order and are no more than its tiles' distances together are the fewest
fewest_by : (f : Frame) (ms : List ℕ) → proper f ≡ true → length ms ≤ far_in f.wide f.cells 0 → SolvedBy f ms → Fewest f ms
fewest_by f ms p l b = (b, λ ns c. omega (arith, at_least f ns p c))

-- both are proper frames, and the moves of the first can be made
left_proper : proper two_moves_left ≡ true
unfolding times_in each_once
left_proper = refl

left_solved : SolvedBy two_moves_left (3 ∷ 3 ∷ [])
unfolding can_all after_all can from gap_in up_from
left_solved = (refl, refl)

-- its tiles 7 and 8 have one cell to go each
left_far : far_in 3 two_moves_left.cells 0 ≡ 2
unfolding far_in
left_far = refl

never_proper : proper last_two_exchanged ≡ true
unfolding times_in each_once
never_proper = refl

-- two moves that bring it in order are those: after any others the cell 6 does not hold 7, or the cell 4 not 5
left_only : (a b : ℕ) → SolvedBy two_moves_left (a ∷ b ∷ []) → a ∷ b ∷ [] ≡ 3 ∷ 3 ∷ []
unfolding can_all after_all can from gap_in up_from
left_only zero zero (c, e) = absurd (omega (arith, ap (λ g. at g 6) e))
left_only zero (suc zero) (c, e) = absurd (omega (arith, ap (λ g. at g 6) e))
left_only zero (suc (suc (suc zero))) (c, e) = absurd (omega (arith, ap (λ g. at g 6) e))
left_only (suc (suc (suc zero))) zero (c, e) = absurd (omega (arith, ap (λ g. at g 4) e))
left_only (suc (suc (suc zero))) (suc (suc zero)) (c, e) = absurd (omega (arith, ap (λ g. at g 6) e))
left_only (suc (suc (suc zero))) (suc (suc (suc zero))) (c, e) = refl
left_only _ _ (c, e) = absurd (false≢true c)

-- fewer than two moves do not, and more are not the fewest
left_two : (ms : List ℕ) → length ms ≡ 2 → SolvedBy two_moves_left ms → ms ≡ 3 ∷ 3 ∷ []
left_two (m ∷ n ∷ []) l b = left_only m n b
left_two _ l b = absurd (omega arith)

-- two moves to the left, and nothing else so short
pub twice_to_the_left : TwiceToTheLeft
unfolding wrong_pairs larger_than gap_in
twice_to_the_left = (
  refl,
  fewest_by two_moves_left (3 ∷ 3 ∷ []) left_proper (omega (arith, left_far)) left_solved,
  λ ms f. left_two ms (omega (arith, f.1 (3 ∷ 3 ∷ []) left_solved, at_least two_moves_left ms left_proper f.0, left_far)) f.0,
)

-- its sign is 1, and that of the frame in order 0
pub last_two_never : LastTwoNever
unfolding wrong_pairs larger_than gap_in up_from
last_two_never = (refl, never_by_sign last_two_exchanged never_proper (λ e. omega arith))
