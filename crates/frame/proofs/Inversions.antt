-- Inversions counted cell by cell, and where the gap is found.
use Rattle.std.proofs.Common.{◌≡◌, ℕ, ◌+◌, ◌<◌, ◌≤◌, Bool, true, false, ◌&&◌, nat_lt, ◌≢◌, List, [], ◌∷◌, length, get_or, drop, Some, None, Option, IsSome, unwrap_or, sym, refl, arith, tests, MatchOption}
use Rattle.std.specs.Int.{from_bool}
use Rattle.std.specs.List.{sum_by}
use Rattle.std.proofs.lemmas.List.Sums.{sum_by-cons}
use Rattle.slide.specs.Tiles.{Frame, pick, larger_than, wrong_pairs, gap_in, gap, proper}
use Rattle.slide.proofs.Gap.{gap_first, gap_none, gap_zero}
use Rattle.slide.proofs.Proper.{is_proper}

-- ---- the tiles that are smaller than c
-- 1 for such a tile, and else 0
abbrev pub one_if_smaller : ℕ → ℕ → ℕ
one_if_smaller c d = from_bool (nat_lt 0 d && nat_lt d c)

-- added up
pub larger_sum : (c : ℕ) (cs : List ℕ) → larger_than c cs ≡ sum_by (one_if_smaller c) cs
unfolding larger_than
larger_sum c [] = refl
larger_sum c (d ∷ cs) = rw (sum_by-cons (one_if_smaller c) d cs, larger_sum c cs) (by (nat_lt 0 d && nat_lt d c))
  where
    by : (b : Bool) → pick b 1 0 + sum_by (one_if_smaller c) cs ≡ from_bool b + sum_by (one_if_smaller c) cs
    by true = refl
    by false = refl

-- no more than there are cells
pub larger_few : (c : ℕ) (cs : List ℕ) → larger_than c cs ≤ length cs
unfolding larger_than
larger_few c [] = omega arith
larger_few c (d ∷ cs) = let e : pick {A = ℕ} (nat_lt 0 d && nat_lt d c) 1 0 ≤ 1 = grind (arith, tests) in omega (arith, larger_few c cs)

-- ---- inversions with the first cell, of which there are n, and without it
pub wrong_more : (cs : List ℕ) → 1 ≤ length cs → (n : ℕ) → n ≡ larger_than (get_or cs 0 0) (drop 1 cs) →
    (wrong_pairs cs ≡ n + wrong_pairs (drop 1 cs)) × (n + 1 ≤ length cs)
unfolding wrong_pairs
wrong_more [] h n e = absurd (omega arith)
wrong_more (c ∷ cs) h n e = (rw e refl, omega (arith, e, larger_few c cs))

-- none are left behind the last cell
pub wrong_end : (cs : List ℕ) → length cs < 1 → wrong_pairs cs ≡ 0
unfolding wrong_pairs
wrong_end [] h = refl
wrong_end (c ∷ cs) h = absurd (omega arith)

-- ---- the first cell that holds 0, as a search for it answers
abbrev pub Zero : List ℕ → Option ℕ → Type 0
Zero cs o =
    MatchOption o ((k : ℕ) → k < length cs → get_or cs k 0 ≢ 0) (λ k. (k < length cs) × (get_or cs k 0 ≡ 0) × ((i : ℕ) → i < k → get_or cs i 0 ≢ 0))

-- a proper frame has one
pub gap_held : (f : Frame) → proper f ≡ true → (o : Option ℕ) → Zero f.cells o → IsSome o
gap_held f p None z = let g = (is_proper f p).gapped in absurd (z (gap f) (omega (arith, g.has, g.len)) (gap_zero f.cells))
gap_held f p (Some k) z = refl

-- where there is one, that is the gap, and else the gap is past the end
pub gap_found : (cs : List ℕ) (o : Option ℕ) → Zero cs o → unwrap_or o (length cs) ≡ gap_in cs
gap_found cs None z = sym (gap_none cs z)
gap_found cs (Some k) z = sym (gap_first cs k z.0 z.1 z.2)
