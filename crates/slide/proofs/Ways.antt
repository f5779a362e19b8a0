-- Ways: moves one after the other, and how many they are.
use Rattle.std.proofs.Common.{◌≡◌, ℕ, ◌+◌, ◌≤◌, true, List, [], ◌∷◌, ◌++◌, length, refl, ap, ◌∙◌, subst, arith}
use Rattle.std.proofs.lemmas.List.{length-append}
use Rattle.std.proofs.lemmas.Bool.{and_from, and_parts}
use Rattle.slide.specs.Tiles.{Frame, can, moved, can_all, after_all, Brings}

-- g is reached from f in at most n moves
pub record Way (f : Frame) (n : ℕ) (g : Frame) : Type 0 where
  pub ms : List ℕ
  pub can : can_all f ms ≡ true
  pub end : after_all f ms ≡ g
  pub short : length ms ≤ n

-- one way after another
pub can_all-++ : (f : Frame) (ms ns : List ℕ) → can_all f ms ≡ true → can_all (after_all f ms) ns ≡ true → can_all f (ms ++ ns) ≡ true
unfolding can_all after_all
can_all-++ f [] ns a b = b
can_all-++ f (m ∷ ms) ns a b = let p = and_parts _ _ a in and_from _ _ p.0 (can_all-++ (moved f m) ms ns p.1 b)

pub after_all-++ : (f : Frame) (ms ns : List ℕ) → after_all f (ms ++ ns) ≡ after_all (after_all f ms) ns
unfolding after_all
after_all-++ f [] ns = refl
after_all-++ f (m ∷ ms) ns = after_all-++ (moved f m) ms ns

-- no move
pub stay : (f : Frame) → Way f 0 f
unfolding can_all after_all
stay f = record { ms = []; can = refl; end = refl; short = omega arith }

-- one move
pub once : (f : Frame) (m : ℕ) → can f m ≡ true → Way f 1 (moved f m)
unfolding can_all after_all
once f m e = record { ms = m ∷ []; can = and_from _ _ e refl; end = refl; short = omega arith }

-- a way and then another
pub then : {f g h : Frame} {m n : ℕ} → Way f m g → Way g n h → Way f (m + n) h
then {f} {g} {h} {m} {n} a b = record {
  ms = a.ms ++ b.ms;
  can = can_all-++ f a.ms b.ms a.can (rw a.end b.can);
  end = after_all-++ f a.ms b.ms ∙ ap (λ k. after_all k b.ms) a.end ∙ b.end;
  short = simp length-append (omega arith);
}

-- moves that bring one frame to another
pub by_moves : {f g : Frame} (ms : List ℕ) → Brings f ms g → Way f (length ms) g
by_moves ms b = record { ms = ms; can = b.0; end = b.1; short = omega arith }

-- the same way, said to be longer
pub longer : {f g : Frame} {m n : ℕ} → m ≤ n → Way f m g → Way f n g
longer l a = record { ms = a.ms; can = a.can; end = a.end; short = omega arith }

-- what each move keeps, moves one after the other keep
kept : (P : Frame → Type 0) → ((f : Frame) (m : ℕ) → P f → can f m ≡ true → P (moved f m)) → (f : Frame) (ms : List ℕ) → P f → can_all f ms ≡ true → P (after_all f ms)
unfolding can_all after_all
kept P move f [] p c = p
kept P move f (m ∷ ms) p c = let k = and_parts _ _ c in kept P move (moved f m) ms (move f m p k.0) k.1

-- and so does a way
pub along : (P : Frame → Type 0) → ((f : Frame) (m : ℕ) → P f → can f m ≡ true → P (moved f m)) → {f g : Frame} {n : ℕ} → P f → Way f n g → P g
along P move {f} {g} {n} p r = subst P r.end (kept P move f r.ms p r.can)
