-- One tile more in the first row of a frame with three rows or more.
use Rattle.std.proofs.Common.{◌≡◌, ℕ, zero, suc, ◌+◌, ◌-◌, ◌*◌, ◌<◌, ◌≤◌, sym, refl, ap, ◌∙◌, inl, inr, arith}
use Rattle.std.proofs.lemmas.Bool.{cases_eq, cases_lt}
use Rattle.slide.specs.Promise.{apart}
use Rattle.slide.specs.Tiles.{Frame, at, gap, moved}
use Rattle.slide.proofs.Moves.{Went, go}
use Rattle.slide.proofs.Proper.{Board}
use Rattle.slide.proofs.Cells.{D, num, pos_apart}
use Rattle.slide.proofs.Ways.{Way, stay, then, longer}
use Rattle.reach.proofs.Below.{WalkedBelow, walk_below, bring_below}
use Rattle.reach.proofs.Walks.{apart_lt}
use Rattle.reach.proofs.Blocks.{Keeps, turn, corner}

-- the tile x is at column k of the first row, and what stands before it stays
pub record Placed (w t : ℕ) (f : Frame) (n k x : ℕ) : Type 0 where
  pub to : Frame
  pub way : Way f n to
  pub board : Board w t to
  pub keeps : Keeps k f to
  pub tile : at to k ≡ x

-- said to be longer
placed_longer : {w t : ℕ} {f : Frame} {m n k x : ℕ} → m ≤ n → Placed w t f m k x → Placed w t f n k x
placed_longer l z = record { to = z.to; way = longer l z.way; board = z.board; keeps = z.keeps; tile = z.tile }

-- after a way that leaves the first k cells as they were
placed_after : {w t : ℕ} {f g : Frame} {m n k x y : ℕ} (b : ℕ) → m + n ≤ b → Way f m g → Keeps k f g → y ≡ x → Placed w t g n k y → Placed w t f b k x
placed_after b l v s e z = record { to = z.to; way = longer l (then v z.way); board = z.board; keeps = λ c h. z.keeps c h ∙ s c h; tile = z.tile ∙ e }

-- what it costs, over plain numbers: a tile from below the first row, and one that is in it
low_bound : (w s : ℕ) → 2 ≤ w → 2 ≤ s → (a b c d : ℕ) → a < s → b < w → c < s → d < w → 5 * (a + b) + (c + d) + (s + w + 11) ≤ 7 * (w + s)
low_bound w s w2 s2 a b c d ha hb hc hd = omega arith

-- a tile that is in the first row has to leave it first
top_bound : (w s : ℕ) → 2 ≤ w → 2 ≤ s → (a b c : ℕ) → a < s → b < w → c < w → a + b + 2 + 3 + (5 * c + 1 + (s + w + 11)) ≤ 7 * (w + s)
top_bound w s w2 s2 a b c ha hb hc = omega arith

-- a tile beside the gap: what bringing it costs
next_cost : (k c : ℕ) → 5 * (apart 0 0 + apart (suc c) k) + (apart 0 0 + apart c (suc c)) ≡ 5 * apart (suc c) k + 1
next_cost k c = omega arith

module _ (w s : ℕ) (w2 : 2 ≤ w) (s2 : 2 ≤ s) (k : ℕ) (hk : k < w) where
  -- from just below
  place_up : (f : Frame) (i j : ℕ) → Board w (suc s) f → gap f ≡ suc i * w + j → i < s → j < w → (0 ≡ i → k ≡ j → ⊥) → Placed w (suc s) f (s + w + 11) k (at f (1 * w + k))
  place_up f i j b h hi hj n =
      elim (cases_lt (suc k) w) [
        | inl l ↦ left l (walk_below w s w2 s2 f b i j hi hj h 0 (suc k) 0 k (omega arith) l hk n (λ _ e. omega arith))
        | inr l ↦ last (k - 1) (omega arith) (walk_below w s w2 s2 f b i j hi hj h 1 k 0 k (omega arith) hk hk n (λ e _. omega arith))
      ]
    where
      Goal : Type 0
      Goal = Placed w (suc s) f (s + w + 11) k (at f (1 * w + k))

      left : suc k < w → WalkedBelow w s f (apart i 0 + apart j (suc k) + 2) 0 (suc k) 0 k → Goal
      left l r =
          let z = turn w (suc s) r.to k r.board (omega arith) (omega arith) r.gap in
          record { to = z.to; way = longer (omega arith) (then r.way z.way); board = z.board; keeps = λ c hc. z.keeps c hc ∙ r.first c (omega arith); tile = z.up ∙ r.kept (omega arith) }

      last : (c : ℕ) → k ≡ suc c → WalkedBelow w s f (apart i 1 + apart j k + 2) 1 k 0 k → Goal
      last c e r =
          let z = corner w (suc s) r.to c r.board (omega arith) (omega arith) (r.gap ∙ ap (λ v. 2 * w + v) e) in
          record {
            to = z.to;
            way = longer (omega arith) (then r.way z.way);
            board = z.board;
            keeps = λ v hv. z.keeps v (omega arith) ∙ r.first v (omega arith);
            tile = ap (at z.to) e ∙ z.up ∙ ap (λ v. at r.to (1 * w + v)) (sym e) ∙ r.kept (omega arith);
          }

  -- from anywhere below the first row
  place_low : (f : Frame) (i j p q : ℕ) → Board w (suc s) f → gap f ≡ suc i * w + j → i < s → j < w → p < s → q < w → (p ≡ i → q ≡ j → ⊥) →
      Placed w (suc s) f (5 * (apart p 0 + apart q k) + (apart i p + apart j q) + (s + w + 11)) k (at f (suc p * w + q))
  place_low f i j p q b h hi hj hp hq n =
      let r = bring_below w s w2 s2 f b i j hi hj h 0 k p q (omega arith) hk hp hq n in
      let z = place_up r.to r.i r.j r.board r.gap r.row r.col r.off in
      placed_after (5 * (apart p 0 + apart q k) + (apart i p + apart j q) + (s + w + 11)) (omega arith) r.way (λ c h. r.first c (omega arith)) r.tile z

  -- from anywhere but the first k cells, with the gap below the first row
  place_some : (f : Frame) (i j p q : ℕ) → Board w (suc s) f → gap f ≡ suc i * w + j → i < s → j < w → p < suc s → q < w → (p ≡ suc i → q ≡ j → ⊥) → (p ≡ 0 → k ≤ q) →
      Placed w (suc s) f (7 * (w + s)) k (at f (p * w + q))
  place_some f i j (suc p) q b h hi hj hp hq n a =
      let cost = low_bound w s w2 s2 (apart p 0) (apart q k) (apart i p) (apart j q) (apart_lt s p 0 (omega arith) (omega arith)) (apart_lt w q k hq hk) (apart_lt s i p hi (omega arith)) (apart_lt w j q hj hq) in
      placed_longer cost (place_low f i j p q b h hi hj (omega arith) hq (λ e. n (ap suc e)))
  place_some f i j zero q b h hi hj hp hq n a =
      elim (cases_eq q k) [
        | inl e ↦ record { to = f; way = longer (omega arith) (stay f); board = b; keeps = λ _ _. refl; tile = ap (at f) (omega arith) }
        | inr e ↦
            down (q - 1) (omega (arith, a refl)) (omega (arith, a refl))
            (walk_below w s w2 s2 f b i j hi hj h 0 q s 0 (omega arith) hq (omega arith) (λ o _. omega arith) (λ o _. omega arith))
      ]
    where
      -- down into the second row
      down : (c : ℕ) → q ≡ suc c → k < q → WalkedBelow w s f (apart i 0 + apart j q + 2) 0 q s 0 → Placed w (suc s) f (7 * (w + s)) k (at f (0 * w + q))
      down c e l r =
          let z = turn w (suc s) r.to c r.board (omega arith) (omega arith) (r.gap ∙ ap (λ v. 1 * w + v) e) in
          let y = place_low z.to 0 c 0 (suc c) z.board z.gap (omega arith) (omega arith) (omega arith) (omega arith) (λ _ o. omega arith) in
          let cost = top_bound w s w2 s2 (apart i 0) (apart j q) (apart (suc c) k) (apart_lt s i 0 hi (omega arith)) (apart_lt w j q hj hq) (apart_lt w (suc c) k (omega arith) hk) in
          let keeps : Keeps k f z.to = λ v hv. z.keeps v (omega arith) ∙ r.first v (omega arith) in
          placed_after (7 * (w + s)) (rw (next_cost k c) cost) (then r.way z.way) keeps (z.down ∙ r.first (suc c) (omega arith) ∙ ap (at f) (omega arith)) y

  -- and with the gap anywhere past the first k cells
  pub place : (f : Frame) (i j p q : ℕ) → Board w (suc s) f → gap f ≡ i * w + j → i < suc s → j < w → p < suc s → q < w → (p ≡ i → q ≡ j → ⊥) → (p ≡ 0 → k ≤ q) → (i ≡ 0 → k ≤ j) →
      Placed w (suc s) f (7 * (w + suc s)) k (at f (p * w + q))
  place f (suc i) j p q b h hi hj hp hq n a c =
      placed_longer (omega arith) (place_some f i j p q b h (omega arith) hj hp hq n a)
  place f zero j p q b h hi hj hp hq n a c =
      elim (cases_eq p 1) [
        | inl u ↦ elim (cases_eq q j) [
          | inl v ↦ down 0 j (r.swap ∙ rw (u, v) refl) (place_some g 0 j 0 j r.board r.gap (omega arith) hj (omega arith) hj (λ o _. omega arith) (λ _. c refl))
          | inr v ↦ other (λ _ o. v o)
        ]
        | inr u ↦ other (λ o _. u o)
      ]
    where
      g : Frame
      g = moved f (num D)

      -- the gap goes down first
      r : Went w (suc s) f 0 j 1 j g
      r = go {d = D} b h (omega arith)

      down : (y z : ℕ) → at g (y * w + z) ≡ at f (p * w + q) → Placed w (suc s) g (7 * (w + s)) k (at g (y * w + z)) → Placed w (suc s) f (7 * (w + suc s)) k (at f (p * w + q))
      down y z e m = placed_after (7 * (w + suc s)) (omega arith) r.way (λ x hx. r.rest x (λ e. omega (arith, c refl)) (λ e. omega (arith, c refl))) e m

      -- a tile that it does not meet stays where it is
      other : (p ≡ 1 → q ≡ j → ⊥) → Placed w (suc s) f (7 * (w + suc s)) k (at f (p * w + q))
      other o = down p q
          (r.rest (p * w + q) (pos_apart w p q 0 j hq hj n) (pos_apart w p q 1 j hq hj o))
          (place_some g 0 j p q r.board r.gap (omega arith) hj hp hq o a)
