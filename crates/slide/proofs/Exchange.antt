-- Two places of a list exchanged: what stands where after that.
use Rattle.std.proofs.Common.{◌≡◌, ℕ, ◌<◌, ◌≢◌, List, length, get_or, set, sym, ◌∙◌, arith}
use Rattle.std.proofs.lemmas.Grind.{common_steps}
use Rattle.std.proofs.lemmas.List.{length-set, set_comm, ext_get_or}

-- what stood at i stands at j, and the other way round
abbrev pub swap : List ℕ → ℕ → ℕ → List ℕ
swap cs i j = set (set cs i (get_or cs j 0)) j (get_or cs i 0)

-- as long as before
pub swap_length : (cs : List ℕ) (i j : ℕ) → length (swap cs i j) ≡ length cs
swap_length cs i j = simp length-set

-- the order of the two does not matter
pub swap_comm : (cs : List ℕ) (i j : ℕ) → i ≢ j → swap cs i j ≡ swap cs j i
swap_comm cs i j n = set_comm cs i j (get_or cs j 0) (get_or cs i 0) n

-- what stands at the first place
pub swap_first : (cs : List ℕ) (i j : ℕ) → i < length cs → i ≢ j → get_or (swap cs i j) i 0 ≡ get_or cs j 0
swap_first cs i j hi n = grind (arith, common_steps)

-- at the second
pub swap_second : (cs : List ℕ) (i j : ℕ) → j < length cs → get_or (swap cs i j) j 0 ≡ get_or cs i 0
swap_second cs i j hj = grind (arith, common_steps)

-- and elsewhere
pub swap_other : (cs : List ℕ) (i j q : ℕ) → q ≢ i → q ≢ j → get_or (swap cs i j) q 0 ≡ get_or cs q 0
swap_other cs i j q a b = grind (arith, common_steps)

-- a list that holds at i what cs holds at j, and the other way round, and else the same, is cs exchanged
pub swap_is : (cs ds : List ℕ) (i j : ℕ) → length ds ≡ length cs → i < length cs → j < length cs → i ≢ j → get_or ds i 0 ≡ get_or cs j 0 → get_or ds j 0 ≡ get_or cs i 0 →
    ((q : ℕ) → q < length cs → q ≢ i → q ≢ j → get_or ds q 0 ≡ get_or cs q 0) → ds ≡ swap cs i j
swap_is cs ds i j l hi hj n ei ej other =
    ext_get_or 0 ds (swap cs i j) (l ∙ sym (swap_length cs i j)) (λ q h. grind (arith, common_steps, other))
