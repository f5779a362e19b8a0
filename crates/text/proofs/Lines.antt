-- A line read word by word.
use Rattle.std.proofs.Common.{◌≡◌, ℕ, suc, ◌+◌, ◌-◌, ◌<◌, ◌≤◌, List, [], ◌∷◌, ◌++◌, length, sym, ap, ◌∙◌, subst, append_assoc, append-nil, arith, length-append}
use Rattle.std.specs.Str.Parse.{IsNumeral, digits_value, without_leading_plus}
use Rattle.std.specs.Char.{is_whitespace, is_not_whitespace}
use Rattle.std.specs.Str.{NoCharPasses, EmptyOrStartsWithPassing}
use Rattle.std.proofs.lemmas.List.{length_push}
use Rattle.text.specs.Rows.{Word, Says, Numbers, Misread}

-- what `split_whitespace` says of a word that it gives
pub word_of : (bs w rest : List ℕ) → (blank : List ℕ) × (bs ≡ blank ++ (w ++ rest)) × (0 < length w) × NoCharPasses is_not_whitespace blank × NoCharPasses is_whitespace w × ((more : List ℕ) × EmptyOrStartsWithPassing is_whitespace rest more) → Word bs w rest
word_of bs w rest c = record { blank = c.0; cut = c.1; some = c.2; empty = c.3; solid = c.4; ends = c.5 }

-- what follows a word is shorter
shorter : {bs w rest : List ℕ} → Word bs w rest → length rest < length bs
shorter {bs} {w} {rest} h = omega (arith, h.some, ap length h.cut ∙ length-append h.blank (w ++ rest), length-append w rest)

-- so a line has no more words than bytes
pub words_few : (bs ns : List ℕ) → Numbers bs ns → length ns ≤ length bs
words_few bs [] h = omega arith
words_few bs (n ∷ ns) h = omega (arith, words_few h.1 ns h.4, shorter h.2)

-- the words of text before rest are numbers, which now stand behind the cells that were there
pub record WordsSeen (text rest old now : List ℕ) : Type 0 where
  pub seen : List ℕ
  pub cells : now ≡ old ++ seen
  pub right : (ns : List ℕ) → Numbers rest ns → Numbers text (seen ++ ns)
  pub wrong : (i : ℕ) → Misread rest i → Misread text (length seen + i)

module _ {text rest old now : List ℕ} (so_far : WordsSeen text rest old now) where
  -- of n cells, b of which were there before, the others were read
  pub read_since : {n b : ℕ} → n ≡ length now → b ≡ length old → n - b ≡ length so_far.seen
  read_since e f = omega (arith, e, f, ap length so_far.cells, length-append old so_far.seen)

  -- one number more
  pub one_more : {w next more : List ℕ} {v : ℕ} → Word rest w next → Says w v → more ≡ now ++ (v ∷ []) → WordsSeen text next old more
  one_more {w} {next} {more} {v} first say e = record {
    seen = so_far.seen ++ (v ∷ []);
    cells = e ∙ ap (λ l. l ++ (v ∷ [])) so_far.cells ∙ append_assoc old so_far.seen (v ∷ []);
    right = λ ns h. subst (Numbers text) (sym (append_assoc so_far.seen (v ∷ []) ns)) (so_far.right (v ∷ ns) (w, next, first, say, h));
    wrong = λ i h. subst (Misread text) (omega (arith, length_push so_far.seen v)) (so_far.wrong (suc i) (w, next, v, first, say, h));
  }

  -- no word more: the numbers are all of the line's
  pub no_more : NoCharPasses is_not_whitespace rest → {n : ℕ} → n ≡ length so_far.seen → (ns : List ℕ) × Numbers text ns × (n ≡ length ns) × (now ≡ old ++ ns)
  no_more h e = (so_far.seen, subst (Numbers text) (append-nil so_far.seen) (so_far.right [] h), e, so_far.cells)

  -- a word that is no number
  pub bad_word : {w next : List ℕ} → Word rest w next → ((v : ℕ) → Says w v → ⊥) → {n : ℕ} → n ≡ length so_far.seen → (i : ℕ) × (n + 1 ≡ suc i) × Misread text i
  bad_word {w} {next} first bad e = (length so_far.seen, omega (arith, e), subst (Misread text) (omega arith) (so_far.wrong 0 (w, next, first, bad)))

-- what `parse` says of a word that is a number, and of one that is not
pub parsed : (w : List ℕ) (v u : ℕ) → (IsNumeral 10 (without_leading_plus w) × (digits_value 10 (without_leading_plus w) < 256)) × (v ≡ digits_value 10 (without_leading_plus w)) → u ≡ v → Says w u
parsed w v u r e = (r.0.0, sym r.1 ∙ sym e, omega (arith, r.0.1, r.1))

pub not_parsed : (w : List ℕ) → (IsNumeral 10 (without_leading_plus w) × (digits_value 10 (without_leading_plus w) < 256) → ⊥) → (v : ℕ) → Says w v → ⊥
not_parsed w n v s = n (s.0, omega (arith, s.1, s.2))
