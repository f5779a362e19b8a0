-- What a proper frame is: one gap, and each number below the count of its cells at one place.
use Rattle.std.proofs.Common.{◌≡◌, ℕ, ◌*◌, ◌<◌, ◌≤◌, true, false, ◌&&◌, eqb, leb, Decides, ◌≢◌, length, sym, refl, ◌∙◌, subst, arith}
use Rattle.std.proofs.lemmas.Bool.{leb-true, le-leb, false_from_ne_true}
use Rattle.std.proofs.lemmas.Bool.Decides.{Decides-and, Decides-eqb}
use Rattle.std.proofs.lemmas.Nat.{mul-le}
use Rattle.slide.specs.Tiles.{Frame, at, gap, times_in, each_once, proper}
use Rattle.slide.specs.Calls.{laid}
use Rattle.slide.proofs.Exchange.{swap}
use Rattle.slide.proofs.Gap.{gap_zero, gap_le}
use Rattle.slide.proofs.Counts.{each_decides}
use Rattle.slide.proofs.Pigeonhole.{Once, once_low, once_apart, once_place, once_swap}

-- a frame with one gap, whatever its tiles
pub record Gapped (f : Frame) : Type 0 where
  pub len : length f.cells ≡ f.wide * f.tall
  pub has : gap f < f.wide * f.tall
  pub one : (q : ℕ) → q < f.wide * f.tall → at f q ≡ 0 → q ≡ gap f

-- the same, of a size that is named
pub record Board (w t : ℕ) (f : Frame) : Type 0 where
  pub gapped : Gapped f
  pub wide : f.wide ≡ w
  pub tall : f.tall ≡ t

-- a proper frame: two or more rows and columns, one gap, each number once
pub record Proper (f : Frame) : Type 0 where
  pub wide : 2 ≤ f.wide
  pub tall : 2 ≤ f.tall
  pub gapped : Gapped f
  pub each : Once (f.wide * f.tall) f.cells

-- a frame is of its own size
pub own_board : (f : Frame) → Gapped f → Board f.wide f.tall f
own_board f g = record { gapped = g; wide = refl; tall = refl }

-- what holds with its own sides holds with the sides named
pub on_board : {w t : ℕ} {f : Frame} (P : ℕ → ℕ → Type 0) → Board w t f → P f.wide f.tall → P w t
on_board {w} {t} {f} P b p = subst (λ v. P v t) b.wide (subst (P f.wide) b.tall p)

-- every number below the count of cells has a place
pub find : (f : Frame) → Proper f → (v : ℕ) → v < f.wide * f.tall → (p : ℕ) × (p < f.wide * f.tall) × (at f p ≡ v)
find f s = once_place (f.wide * f.tall) f.cells s.each

-- every number is below the count of cells
pub low : (f : Frame) → Proper f → (p : ℕ) → p < f.wide * f.tall → at f p < f.wide * f.tall
low f s = once_low (f.wide * f.tall) f.cells s.each

-- no two cells hold the same
pub alone : (f : Frame) → Proper f → (p q : ℕ) → p < f.wide * f.tall → q < f.wide * f.tall → at f p ≡ at f q → p ≡ q
alone f s = once_apart (f.wide * f.tall) f.cells s.each

-- what the test of a proper frame decides
decides : (f : Frame) → Decides (proper f) ((2 ≤ f.wide × 2 ≤ f.tall) × (length f.cells ≡ f.wide * f.tall × ((v : ℕ) → v < f.wide * f.tall → times_in v f.cells ≡ 1)))
decides f =
    let n = f.wide * f.tall in
    let sides = Decides-and (leb 2 f.wide) (leb 2 f.tall) (leb-true 2 f.wide, le-leb 2 f.wide) (leb-true 2 f.tall, le-leb 2 f.tall) in
    let cells = Decides-and (eqb (length f.cells) n) (each_once n f.cells) (Decides-eqb (length f.cells) n) (each_decides n f.cells) in
    Decides-and (leb 2 f.wide && leb 2 f.tall) (eqb (length f.cells) n && each_once n f.cells) sides cells

-- what it says
pub is_proper : (f : Frame) → proper f ≡ true → Proper f
is_proper f h =
    let d = (decides f).0 h in
    let n = f.wide * f.tall in
    let o : Once n f.cells = record { long = d.1.0; once = d.1.1 } in
    let z = once_place n f.cells o 0 (omega (arith, mul-le 2 2 f.wide f.tall d.0.0 d.0.1)) in
    let g : gap f < n = omega (arith, gap_le f.cells z.0 (omega (arith, z.1)) z.2, z.1) in
    record {
      wide = d.0.0;
      tall = d.0.1;
      gapped = record { len = o.long; has = g; one = λ q l v. once_apart n f.cells o q (gap f) l g (v ∙ sym (gap_zero f.cells)) };
      each = o;
    }

-- from what it follows, and where it fails
pub proper_from : (f : Frame) → 2 ≤ f.wide → 2 ≤ f.tall → Once (f.wide * f.tall) f.cells → proper f ≡ true
proper_from f w t o = (decides f).1 ((w, t), (o.long, o.once))

pub not_proper : (f : Frame) → (Proper f → ⊥) → proper f ≡ false
not_proper f n = false_from_ne_true (proper f) (λ h. n (is_proper f h))

-- it stays proper under an exchange
pub proper_swap : (f : Frame) (i j : ℕ) → proper f ≡ true → i < f.wide * f.tall → j < f.wide * f.tall → i ≢ j → proper (laid f (swap f.cells i j)) ≡ true
proper_swap f i j h hi hj n =
    let s = is_proper f h in
    proper_from (laid f (swap f.cells i j)) s.wide s.tall (once_swap (f.wide * f.tall) f.cells s.each i j hi hj n)
