-- A text read line by line.
use Rattle.std.proofs.Common.{◌≡◌, ℕ, suc, ◌+◌, ◌<◌, ◌≤◌, max, List, [], ◌∷◌, ◌++◌, length, vec_items, Some, None, Option, sym, refl, ap, ◌∙◌, subst, inl, inr, ⊎_elim, append_assoc, append-nil, add-one, arith, length-append, length-drop}
use lib.Utf8.{encode}
use Rattle.std.proofs.lemmas.Bool.{cases_lt}
use Rattle.std.proofs.lemmas.Str.{length-encode, len_utf8_bounds}
use Rattle.std.specs.List.{flat_map, AllByRecursion}
use Rattle.std.proofs.ByRecursion.{All-push}
use Rattle.std.proofs.lemmas.List.{length_push, flat_map_more}
use Rattle.frame.specs.Range.{InRange}
use Rattle.frame.specs.declared.sides.Sides.{Sides}
use Rattle.std.specs.Str.Lines.{IsFirstLine}
use Rattle.text.specs.declared.read.Reading.{Reading}
use Rattle.text.specs.Taken.{Taken}
use Rattle.text.specs.declared.fault.Fault.{Fault}
use Rattle.text.specs.declared.fault.Fault.TheVariants.{TooFew}
use Rattle.text.specs.Rows.{IsPassed, HoldsRow, GoesOn, LineFault, FirstLine, Holds, ended, passing, taking, Fails, too_short, fails_here, fails_after_passing, fails_after_row, Written}

-- what follows a line is shorter
after_line : {bs l rest : List ℕ} → FirstLine bs l rest → length rest < length bs
after_line {bs} {l} {rest} f = ⊎_elim inside past (cases_lt f.line.0 (length bs))
  where
    past : length bs ≤ f.line.0 → length rest < length bs
    past h = omega (arith, f.some, f.line.3)

    inside : f.line.0 < length bs → length rest < length bs
    inside h =
        let o = f.line.2 (omega (arith, length-drop f.line.0 bs)) in
        omega (arith, ap length o.2, length-append (encode o.0) rest, length-drop f.line.0 bs, length-encode o.0, (len_utf8_bounds o.0).0)

-- the rows before these have w numbers each; there are none where w is none
abbrev pub SoWide : Option ℕ → List (List ℕ) → Type 0
SoWide None rows = rows ≡ []
SoWide (Some w) rows = AllByRecursion (λ r. length r ≡ w) rows × (2 ≤ w) × (w ≤ 16)

-- the lines of text before rest, of which there are k, hold rows of w numbers each, in the lines ls, which are the cells cs
pub record LinesSeen (text rest cs ls : List ℕ) (w : Option ℕ) (k : ℕ) : Type 0 where
  pub rows : List (List ℕ)
  pub right : (rs : List (List ℕ)) (ks : List ℕ) → Holds (suc k) rest rs ks → Holds 1 text (rows ++ rs) (ls ++ ks)
  pub wrong : (e : Fault) → Fails (suc k) rest w (length ls) e → Fails 1 text None 0 e
  pub cells : cs ≡ flat_map (λ r. r) rows
  pub count : length ls ≡ length rows
  pub wide : SoWide w rows
  pub tall : length ls ≤ 16
  pub few : k + length rest ≤ length text

module _ {text rest cs ls : List ℕ} {w : Option ℕ} {k : ℕ} (so_far : LinesSeen text rest cs ls w k) {l next : List ℕ} (first : FirstLine rest l next) where
  -- a line that is passed over
  pub line_passed : IsPassed l → LinesSeen text next cs ls w (k + 1)
  line_passed p = record {
    rows = so_far.rows;
    right = λ rs ks h. so_far.right rs ks (passing first p (rw add-one at h));
    wrong = λ e h. so_far.wrong e (fails_after_passing first p (rw add-one at h));
    cells = so_far.cells;
    count = so_far.count;
    wide = so_far.wide;
    tall = so_far.tall;
    few = omega (arith, so_far.few, after_line first);
  }

  -- a line with a fault
  pub line_fails : (e : Fault) → LineFault (k + 1) l w (length ls) e → Fails 1 text None 0 e
  line_fails e f = so_far.wrong e (fails_here first (rw add-one at f))

  -- a line that holds a row
  pub line_row : (r : List ℕ) {cs' ls' : List ℕ} {w' : Option ℕ} → HoldsRow l r → GoesOn w (length ls) (length r) → cs' ≡ cs ++ r → ls' ≡ ls ++ ((k + 1) ∷ []) → w' ≡ Some (length r) →
      LinesSeen text next cs' ls' w' (k + 1)
  line_row r {cs'} {ls'} {w'} h g ec el ew = rw ew (record {
    rows = so_far.rows ++ (r ∷ []);
    right = λ rs ks d.
        let lines = ap (λ x. x ++ ks) el ∙ append_assoc ls ((k + 1) ∷ []) ks ∙ ap (λ n. ls ++ (n ∷ ks)) (add-one k) in
        rw (append_assoc so_far.rows (r ∷ []) rs, lines) (so_far.right (r ∷ rs) (suc k ∷ ks) (taking first h (rw add-one at d)));
    wrong = λ e f. so_far.wrong e (fails_after_row r first h g (rw (add-one, longer) at f));
    cells = ec ∙ ap (λ x. x ++ r) so_far.cells ∙ flat_map_more (λ x. x) [] so_far.rows r;
    count = longer ∙ ap suc so_far.count ∙ sym (length_push so_far.rows r ∙ add-one (length so_far.rows));
    wide = wider w so_far.wide g;
    tall = rw longer (more w so_far.wide g);
    few = omega (arith, so_far.few, after_line first);
  })
    where
      longer : length ls' ≡ suc (length ls)
      longer = ap length el ∙ length_push ls (k + 1) ∙ add-one (length ls)

      -- the first row has 2 to 16 numbers; later ones have as many as it
      wider : (v : Option ℕ) → SoWide v so_far.rows → GoesOn v (length ls) (length r) → SoWide (Some (length r)) (so_far.rows ++ (r ∷ []))
      wider None none f = rw none ((refl, tt), f.0, f.1)
      wider (Some v) so f = (All-push (λ x. length x ≡ length r) so_far.rows r (rw f.1 so.0) refl, rw f.1 so.1, rw f.1 so.2)

      more : (v : Option ℕ) → SoWide v so_far.rows → GoesOn v (length ls) (length r) → suc (length ls) ≤ 16
      more None none f = omega (arith, so_far.count, ap length none)
      more (Some v) so f = f.0

-- a line, as it was read, with the number j after those so far
pub line_taken : {text rest : List ℕ} {k : ℕ} (j : ℕ) (a b : Reading) (l next : List ℕ) → LinesSeen text rest (vec_items a.cells) (vec_items a.lines) a.wide k →
    FirstLine rest l next → Taken j l a b → j ≡ k + 1 → LinesSeen text next (vec_items b.cells) (vec_items b.lines) b.wide (k + 1)
line_taken j a b l next so_far first (inl t) e = rw (t.1, t.2, t.3) (line_passed so_far first t.0)
line_taken j a b l next so_far first (inr t) e = line_row so_far first t.0 t.1 t.2 t.3 (rw e at t.4) t.5

-- what `lines` says of a line that it gives
pub line_of : (bs l rest : List ℕ) → (0 < length bs) × (length l + length rest ≤ length bs) × IsFirstLine bs l rest → FirstLine bs l rest
line_of bs l rest h = record { some = h.0; line = h.2 }

-- no line more, after rows of w numbers each
module _ {text rest cs ls : List ℕ} {w : Option ℕ} {k : ℕ} (so_far : LinesSeen text rest cs ls w k) (end : length rest ≡ 0) where
  -- the rows are all of the text's
  pub all_read : (s : Sides) → w ≡ Some s.wide → s.tall ≡ length ls → Written text s cs ls
  all_read s ew et = record {
    rows = so_far.rows;
    held = rw (append-nil so_far.rows, append-nil ls) at (so_far.right [] [] (ended end));
    wide = (subst (λ v. SoWide v so_far.rows) ew so_far.wide).0;
    tall = sym so_far.count ∙ sym et;
    cells = so_far.cells;
  }

  -- the sides are out of range, so there are too few
  pub too_few : ((v : ℕ) → w ≡ Some v → InRange v (length ls) → ⊥) → Fails 1 text None 0 (TooFew (max k 1) (length ls))
  too_few n = so_far.wrong (TooFew (max k 1) (length ls)) (too_short end (by w refl so_far.wide))
    where
      by : (u : Option ℕ) → w ≡ u → SoWide u so_far.rows → length ls < 2
      by None e none = omega (arith, so_far.count, ap length none)
      by (Some v) e so = ⊎_elim (λ h. h) (λ h. absurd (n v e (so.1, so.2, h, so_far.tall))) (cases_lt (length ls) 2)
