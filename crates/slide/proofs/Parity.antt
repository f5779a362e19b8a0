-- How an exchange of two places changes the inversions of a list, odd or even.
use Rattle.std.proofs.Common.{◌≡◌, ℕ, zero, suc, ◌+◌, ◌-◌, ◌%◌, ◌<◌, ◌&&◌, ltb, ◌≢◌, ◌⊎◌, List, [], ◌∷◌, length, get_or, take, drop, set, sym, refl, ◌∙◌, inl, inr, arith}
use Rattle.std.proofs.lemmas.Bool.{cases_order}
use Rattle.std.proofs.lemmas.Bool.Decides.{nat_tests}
use Rattle.std.proofs.lemmas.List.{length-take, length-drop, get_or-take, get_or-drop}
use Rattle.slide.specs.Tiles.{pick, larger_than, wrong_pairs}
use Rattle.slide.proofs.Exchange.{swap, swap_comm}
use Rattle.slide.proofs.Sums.{sum_set, sum_swap}

-- 1 where d is a tile, and smaller than c
abbrev smaller : ℕ → ℕ → ℕ
smaller c d = pick (ltb 0 d && ltb d c) 1 0

-- 1 where d is a tile
abbrev tile : ℕ → ℕ
tile d = pick (ltb 0 d) 1 0

-- tiles of a list that are larger than u
larger_in : ℕ → List ℕ → ℕ
larger_in u [] = 0
larger_in u (y ∷ ys) = smaller y u + larger_in u ys

-- how many tiles there are
tiles : List ℕ → ℕ
tiles [] = 0
tiles (y ∷ ys) = tile y + tiles ys

-- one place written, and two exchanged: how many are smaller than x
larger_set : (x : ℕ) (cs : List ℕ) (i v : ℕ) → i < length cs → larger_than x (set cs i v) + smaller x (get_or cs i 0) ≡ larger_than x cs + smaller x v
unfolding larger_than
larger_set x cs i v h = sum_set (λ _. larger_than x) (λ _. smaller x) (λ _ c cs. refl) cs 0 i i v (omega arith) h

larger_swap : (x : ℕ) (cs : List ℕ) (i j : ℕ) → i < j → j < length cs → larger_than x (swap cs i j) ≡ larger_than x cs
unfolding larger_than
larger_swap x cs i j hi hj =
    let s = sum_swap (λ _. larger_than x) (λ _. smaller x) (λ _ c cs. refl) cs i j (omega arith) hj (omega arith) in
    omega (arith, s)

-- cut at a place j
larger_split : (x : ℕ) (cs : List ℕ) (j : ℕ) → j < length cs → larger_than x cs ≡ larger_than x (take j cs) + smaller x (get_or cs j 0) + larger_than x (drop (suc j) cs)
unfolding larger_than
larger_split x [] j h = omega arith
larger_split x (c ∷ cs) zero h = omega arith
larger_split x (c ∷ cs) (suc j) h = omega (arith, larger_split x cs j (omega arith))

-- one place written: what it does to the inversions
wrong_set : (cs : List ℕ) (j v : ℕ) → j < length cs →
    wrong_pairs (set cs j v) + larger_in (get_or cs j 0) (take j cs) + larger_than (get_or cs j 0) (drop (suc j) cs) ≡
    wrong_pairs cs + larger_in v (take j cs) + larger_than v (drop (suc j) cs)
unfolding wrong_pairs larger_in
wrong_set [] j v h = omega arith
wrong_set (c ∷ cs) zero v h = omega arith
wrong_set (c ∷ cs) (suc j) v h = omega (arith, wrong_set cs j v (omega arith), larger_set c cs j v (omega arith))

-- a tile that is none of them: each tile is smaller or larger
sides : (b : ℕ) (ms : List ℕ) → 0 < b → ((k : ℕ) → k < length ms → get_or ms k 0 ≢ b) → larger_than b ms + larger_in b ms ≡ tiles ms
unfolding larger_than larger_in tiles
sides b [] p n = refl
sides b (c ∷ ms) p n = grind (arith, nat_tests, sides b ms p (λ k l. n (suc k) (omega arith)), n 0 (omega arith))

-- of the gap none is counted
gap_sides : (ms : List ℕ) → larger_than 0 ms + larger_in 0 ms ≡ 0
unfolding larger_than larger_in
gap_sides [] = refl
gap_sides (c ∷ ms) = grind (arith, nat_tests, gap_sides ms)

-- no gap among them: all are tiles
tiles_all : (ms : List ℕ) → ((k : ℕ) → k < length ms → get_or ms k 0 ≢ 0) → tiles ms ≡ length ms
unfolding tiles
tiles_all [] n = refl
tiles_all (c ∷ ms) n = grind (arith, nat_tests, tiles_all ms (λ k l. n (suc k) (omega arith)), n 0 (omega arith))

-- what stands between the places i and j
abbrev between : ℕ → ℕ → List ℕ → List ℕ
between i j cs = take (j - suc i) (drop (suc i) cs)

-- two places exchanged: the inversions of both with what stands between them, and with each other
turns : (cs : List ℕ) (i j : ℕ) → i < j → j < length cs →
    (wrong_pairs cs + wrong_pairs (swap cs i j)) % 2 ≡
    (larger_than (get_or cs i 0) (between i j cs) + larger_in (get_or cs i 0) (between i j cs) +
    (larger_than (get_or cs j 0) (between i j cs) + larger_in (get_or cs j 0) (between i j cs)) +
    (smaller (get_or cs i 0) (get_or cs j 0) + smaller (get_or cs j 0) (get_or cs i 0))) % 2
unfolding wrong_pairs
turns [] i j l h = omega arith
turns (c ∷ cs) i zero l h = omega arith
turns (c ∷ cs) zero (suc j) l h =
    let b = get_or cs j 0 in
    let e : suc j - 1 ≡ j = omega arith in
    let z : smaller b b ≡ 0 = grind (arith, nat_tests) in
    rw e (omega (arith, wrong_set cs j c (omega arith), larger_set b cs j c (omega arith), larger_split b cs j (omega arith), larger_split c cs j (omega arith)))
turns (c ∷ cs) (suc i) (suc j) l h =
    let e : suc j - suc (suc i) ≡ j - suc i = omega arith in
    rw e (omega (arith, turns cs i j (omega arith) (omega arith), larger_swap c cs i j (omega arith) (omega arith)))

-- a list whose elements are all apart
abbrev pub Apart : List ℕ → Type 0
Apart cs = (k l : ℕ) → k < length cs → l < length cs → get_or cs k 0 ≡ get_or cs l 0 → k ≡ l

module _ (cs : List ℕ) (a : Apart cs) where
  module _ (i j : ℕ) (l : i < j) (h : j < length cs) where
    -- how many stand between
    between_length : length (between i j cs) + suc i ≡ j
    between_length = simp (length-take, length-drop) (omega arith)

    -- what stands at an end stands not between
    between_apart : (u : ℕ) → (u ≡ i) ⊎ (u ≡ j) → (k : ℕ) → k < length (between i j cs) → get_or (between i j cs) k 0 ≢ get_or cs u 0
    between_apart u o k b e =
        let n = between_length in
        let m = get_or-take (j - suc i) (drop (suc i) cs) k 0 (omega arith) ∙ get_or-drop (suc i) cs k 0 in
        let s = a (suc i + k) u (omega arith) (omega arith) (sym m ∙ e) in
        omega arith

    -- an exchange of two tiles turns the inversions from odd to even or back
    tiles_up : get_or cs i 0 ≢ 0 → get_or cs j 0 ≢ 0 → (wrong_pairs cs + wrong_pairs (swap cs i j)) % 2 ≡ 1
    tiles_up p q =
        let x = sides (get_or cs i 0) (between i j cs) (omega arith) (between_apart i (inl refl)) in
        let y = sides (get_or cs j 0) (between i j cs) (omega arith) (between_apart j (inr refl)) in
        grind (arith, nat_tests, turns cs i j l h, x, y, a i j)

    -- and one of a tile and the gap does just if they are an even number of places apart
    gap_up : (get_or cs i 0 ≡ 0) ⊎ (get_or cs j 0 ≡ 0) → (wrong_pairs cs + wrong_pairs (swap cs i j) + i + j) % 2 ≡ 1
    gap_up o =
        let x = sides (get_or cs i 0) (between i j cs) in
        let y = sides (get_or cs j 0) (between i j cs) in
        let m = between_apart i (inl refl) in
        let n = between_apart j (inr refl) in
        let t = tiles_all (between i j cs) in
        let d : get_or cs i 0 ≢ get_or cs j 0 = λ e. let r = a i j (omega arith) h e in omega arith in
        elim o [
          | inl z ↦ grind (arith, nat_tests, turns cs i j l h, y (omega arith) n, gap_sides (between i j cs), t (rw z at m), between_length)
          | inr z ↦ grind (arith, nat_tests, turns cs i j l h, x (omega arith) m, gap_sides (between i j cs), t (rw z at n), between_length)
        ]

-- the same, whichever of the two places comes first
pub tiles_parity : (cs : List ℕ) (i j : ℕ) → Apart cs → (i ≡ j → ⊥) → i < length cs → j < length cs → (get_or cs i 0 ≡ 0 → ⊥) → (get_or cs j 0 ≡ 0 → ⊥) →
    (wrong_pairs cs + wrong_pairs (swap cs i j)) % 2 ≡ 1
tiles_parity cs i j a n hi hj p q =
    elim (cases_order i j) [
      | inl e ↦ absurd (n e)
      | inr (inl l) ↦ tiles_up cs a i j l hj p q
      | inr (inr l) ↦ rw (swap_comm cs i j n) (tiles_up cs a j i l hi q p)
    ]

-- and with the gap at the place i
pub gap_parity : (cs : List ℕ) (i j : ℕ) → Apart cs → (i ≡ j → ⊥) → i < length cs → j < length cs → get_or cs i 0 ≡ 0 →
    (wrong_pairs cs + wrong_pairs (swap cs i j) + i + j) % 2 ≡ 1
gap_parity cs i j a n hi hj p =
    elim (cases_order i j) [
      | inl e ↦ absurd (n e)
      | inr (inl l) ↦ gap_up cs a i j l hj (inl p)
      | inr (inr l) ↦ let r = gap_up cs a j i l hi (inr p) in rw (swap_comm cs i j n) (omega (arith, r))
    ]
