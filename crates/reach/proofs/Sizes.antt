-- Frames of every size, and how many moves are enough.
use Rattle.std.proofs.Common.{ℕ, zero, suc, ◌+◌, ◌*◌, ◌≤◌, arith}
use Rattle.reach.specs.Reached.{most}
use Rattle.slide.proofs.Ways.{stay}
use Rattle.reach.proofs.Four.{four}
use Rattle.reach.proofs.Solve.{Solves}
use Rattle.reach.proofs.Fill.{solved_after, row_less, turned}

-- a row more costs no more than the bound grows by
pub most_more : (w s : ℕ) → w * (7 * (w + suc s)) + most w s ≤ most w (suc s)
most_more w s = omega arith

-- what is solved in m moves is solved in n, if these are more
solves_more : (w t m n : ℕ) → m ≤ n → Solves w t m → Solves w t n
solves_more w t m n l s f T b u = solved_after n (omega arith) (stay f) (s f T b u)

-- rows more, from two on
rows : (w : ℕ) → 2 ≤ w → Solves w 2 (most w 2) → (s : ℕ) → Solves w (suc (suc s)) (most w (suc (suc s)))
rows w w2 two zero = two
rows w w2 two (suc s) = row_less w (suc (suc s)) (most w (suc (suc s))) (most w (suc (suc (suc s)))) w2 (omega arith) (most_more w (suc (suc s))) (rows w w2 two s)

-- two rows are two columns of the frame with rows for columns
pub solve : (w t : ℕ) → 2 ≤ w → 2 ≤ t → Solves w t (most w t)
solve (suc (suc v)) (suc (suc s)) a b = rows (suc (suc v)) a two s
  where
    two : Solves (suc (suc v)) 2 (most (suc (suc v)) 2)
    two = solves_more (suc (suc v)) 2 (most 2 (suc (suc v))) (most (suc (suc v)) 2) (omega arith)
        (turned (suc (suc v)) 2 (most 2 (suc (suc v))) (omega arith) (omega arith) (rows 2 (omega arith) (solves_more 2 2 12 112 (omega arith) four) v))
solve _ _ a b = absurd (omega arith)
