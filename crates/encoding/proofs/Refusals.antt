-- Refusals as bytes: which bytes they are, and where bytes cease to be one.
use Rattle.std.proofs.Common.{◌≡◌, ℕ, zero, suc, ◌+◌, ◌-◌, ◌*◌, ◌<◌, ◌≤◌, min, true, ◌⊎◌, List, [], ◌∷◌, ◌++◌, length, get_or, take, sym, refl, ap, ◌∙◌, subst, inl, inr, ⊎_elim, arith, lit<, lit≤}
use Rattle.std.proofs.lemmas.Bool.Decides.{nat_tests}
use Rattle.std.proofs.lemmas.Bool.{cases_lt}
use Rattle.std.proofs.ByRecursion.{All-append, All-take}
use Rattle.std.proofs.lemmas.List.{length-append, length-replicate, length-take-le, get_or-take, get_or_append_left, get_or-append_right}
use Rattle.slide.specs.Calls as calls
use Rattle.encoding.specs.Bytes.{Bytes, two, four, two_at, four_at}
use Rattle.encoding.specs.Formats.{Begins, StopsAt}
use Rattle.encoding.specs.AnswerBytes.{refusal, AnswerFits, answer_bytes, most, misfit}
use Rattle.encoding.proofs.Numbers.{two_of, four_of}
use Rattle.encoding.proofs.Stops.{zeros, Bytes-zeros, get_or-zeros}
use Rattle.encoding.proofs.Misfits.{Stands, FirstMisfit, first_misfit, misfit_none, misfit_whole}

-- what holds at each place of a refusal
each_place : (P : ℕ → Type 0) → P 1 → P 2 → P 3 → P 4 → P 5 → P 6 → (i : ℕ) → 1 ≤ i → i < 7 → P i
each_place P a b c d e f zero p q = absurd (omega arith)
each_place P a b c d e f (suc zero) p q = a
each_place P a b c d e f (suc (suc zero)) p q = b
each_place P a b c d e f (suc (suc (suc zero))) p q = c
each_place P a b c d e f (suc (suc (suc (suc zero)))) p q = d
each_place P a b c d e f (suc (suc (suc (suc (suc zero))))) p q = e
each_place P a b c d e f (suc (suc (suc (suc (suc (suc zero)))))) p q = f
each_place P a b c d e f (suc (suc (suc (suc (suc (suc (suc i))))))) p q = absurd (omega arith)

-- seven bytes, of which each can stand where it stands
abbrev pub Refusing : List ℕ → Type 0
Refusing bs = (length bs ≡ 7) × (get_or bs 0 0 ≡ 0) × Bytes bs × ((i : ℕ) → 1 ≤ i → i < 7 → Stands (get_or bs 1 0) i (get_or bs i 0))

-- which refusals there are
data Listed : ℕ → ℕ → Type 0 where
  unreadable : {p : ℕ} → Listed 1 p
  improper : Listed 2 0
  side : Listed 3 0
  memory : Listed 3 1
  blocked : Listed 4 0
  too_many : Listed 5 0

-- each number and place that pass the test are listed
listed : (k p : ℕ) → refusal k p ≡ true → Listed k p
listed zero p h = absurd (grind (arith, nat_tests))
listed (suc zero) p h = unreadable
listed (suc (suc zero)) zero h = improper
listed (suc (suc zero)) (suc p) h = absurd (grind (arith, nat_tests))
listed (suc (suc (suc zero))) zero h = side
listed (suc (suc (suc zero))) (suc zero) h = memory
listed (suc (suc (suc zero))) (suc (suc p)) h = absurd (grind (arith, nat_tests))
listed (suc (suc (suc (suc zero)))) zero h = blocked
listed (suc (suc (suc (suc zero)))) (suc p) h = absurd (grind (arith, nat_tests))
listed (suc (suc (suc (suc (suc zero))))) zero h = too_many
listed (suc (suc (suc (suc (suc zero))))) (suc p) h = absurd (grind (arith, nat_tests))
listed (suc (suc (suc (suc (suc (suc k)))))) p h = absurd (grind (arith, nat_tests))

-- where no byte is out of place, each can stand where it does
by_misfit : (bs : List ℕ) → length bs ≡ 7 → misfit bs 1 6 ≡ 7 → (i : ℕ) → 1 ≤ i → i < 7 → Stands (get_or bs 1 0) i (get_or bs i 0)
by_misfit bs l e i p q = (first_misfit bs 1 6).2 i p (rw e q) (rw l q)

-- the number of a refusal fits two bytes
pub refusal_small : (k p : ℕ) → refusal k p ≡ true → k < 65536
refusal_small k p h = grind (arith, nat_tests)

-- the bytes of a refusal can stand where they stand
stand : (k p : ℕ) → Listed k p → (i : ℕ) → 1 ≤ i → i < 7 → Stands (get_or (0 ∷ (two k ++ four p)) 1 0) i (get_or (0 ∷ (two k ++ four p)) i 0)
unfolding misfit
stand k p unreadable =
    each_place _ (omega arith, omega arith) (omega arith, omega arith) (omega arith, omega arith) (omega arith, omega arith) (omega arith, omega arith) (omega arith, omega arith)
stand k p improper = by_misfit (0 ∷ (two 2 ++ four 0)) refl refl
stand k p side = by_misfit (0 ∷ (two 3 ++ four 0)) refl refl
stand k p memory = by_misfit (0 ∷ (two 3 ++ four 1)) refl refl
stand k p blocked = by_misfit (0 ∷ (two 4 ++ four 0)) refl refl
stand k p too_many = by_misfit (0 ∷ (two 5 ++ four 0)) refl refl

-- so what a refusal is written as are such seven bytes
pub refused_refusing : (k p : ℕ) → AnswerFits (calls.refused k p) → Refusing (answer_bytes (calls.refused k p))
refused_refusing k p f =
    (refl, refl, (omega arith, (omega arith, (omega arith, (omega arith, (omega arith, (omega arith, (omega arith, tt))))))), stand k p (listed k p f.0))

-- bytes that can stand where they stand have the number and the place of a refusal
refusal_of : (a c d e f : ℕ) → 1 ≤ a → a ≤ 5 → c ≤ most a 3 → d ≤ most a 4 → e ≤ most a 5 → f ≤ most a 6 → refusal a (c + d * 256 + e * 65536 + f * 16777216) ≡ true
refusal_of a c d e f l h p q r s = grind (arith, nat_tests)

-- in the list's terms: such bytes hold the number of a refusal, and it has that place
pub stand_refusal : (bs : List ℕ) → ((i : ℕ) → 1 ≤ i → i < 7 → Stands (get_or bs 1 0) i (get_or bs i 0)) → refusal (two_at bs 1) (four_at bs 3) ≡ true
stand_refusal bs at =
    let s1 = at 1 (lit≤ tt) (lit< tt) in
    let s2 = at 2 (lit≤ tt) (lit< tt) in
    let s3 = at 3 (lit≤ tt) (lit< tt) in
    let s4 = at 4 (lit≤ tt) (lit< tt) in
    let s5 = at 5 (lit≤ tt) (lit< tt) in
    let s6 = at 6 (lit≤ tt) (lit< tt) in
    let e : two_at bs 1 ≡ get_or bs 1 0 = omega (arith, s2.1) in
    rw e (refusal_of (get_or bs 1 0) (get_or bs 3 0) (get_or bs 4 0) (get_or bs 5 0) (get_or bs 6 0) s1.0 s1.1 s3.1 s4.1 s5.1 s6.1)

-- and such seven bytes are what that refusal is written as
pub refusing_whole : (bs : List ℕ) → Refusing bs →
    AnswerFits (calls.refused (two_at bs 1) (four_at bs 3)) × (answer_bytes (calls.refused (two_at bs 1) (four_at bs 3)) ≡ bs)
refusing_whole [] h = absurd (omega (arith, h.0))
refusing_whole (z ∷ []) h = absurd (omega (arith, h.0))
refusing_whole (z ∷ a ∷ []) h = absurd (omega (arith, h.0))
refusing_whole (z ∷ a ∷ b ∷ []) h = absurd (omega (arith, h.0))
refusing_whole (z ∷ a ∷ b ∷ c ∷ []) h = absurd (omega (arith, h.0))
refusing_whole (z ∷ a ∷ b ∷ c ∷ d ∷ []) h = absurd (omega (arith, h.0))
refusing_whole (z ∷ a ∷ b ∷ c ∷ d ∷ e ∷ []) h = absurd (omega (arith, h.0))
refusing_whole (z ∷ a ∷ b ∷ c ∷ d ∷ e ∷ f ∷ g ∷ bs) h = absurd (omega (arith, h.0))
refusing_whole (z ∷ a ∷ b ∷ c ∷ d ∷ e ∷ f ∷ []) h =
    let y = h.2.1 in
    let r = stand_refusal (z ∷ a ∷ b ∷ c ∷ d ∷ e ∷ f ∷ []) h.3 in
    let t = two_of a b y.0 y.1.0 in
    let u = four_of c d e f y.1.1.0 y.1.1.1.0 y.1.1.1.1.0 y.1.1.1.1.1.0 in (
      (r, omega (arith, y.1.1.0, y.1.1.1.0, y.1.1.1.1.0, y.1.1.1.1.1.0)),
      ap (λ (x : List ℕ). 0 ∷ (x ++ four (c + d * 256 + e * 65536 + f * 16777216))) t ∙ ap (λ (x : List ℕ). 0 ∷ a ∷ b ∷ x) u ∙ ap (λ (x : ℕ). x ∷ a ∷ b ∷ c ∷ d ∷ e ∷ f ∷ []) (sym h.1),
    )

-- ---- where bytes cease to be a refusal

-- no byte of a refusal is out of place
pub refusing_misfit : (bs : List ℕ) → Refusing bs → misfit bs 1 6 ≡ 7
refusing_misfit bs h = misfit_none bs (λ i p q l. h.3 i p q)

-- where the first byte out of place would be just behind them all, the bytes are a refusal
pub misfit_refusing : (bs : List ℕ) → Bytes bs → suc (length bs) ≡ misfit (0 ∷ bs) 1 6 → Refusing (0 ∷ bs)
misfit_refusing bs b e = let r = misfit_whole (0 ∷ bs) e in (e ∙ r.0, refl, (lit< tt, b), r.1)

-- a zero can stand behind the number
stands_zero : (k i : ℕ) → 1 < i → Stands k i 0
stands_zero k i h = (grind (arith, nat_tests), omega arith)

-- bytes that can stand where they stand are filled up to a refusal
filled_refusal : (bs : List ℕ) → Bytes bs → 2 ≤ length bs → length bs ≤ 7 → get_or bs 0 0 ≡ 0 →
    ((i : ℕ) → 1 ≤ i → i < length bs → Stands (get_or bs 1 0) i (get_or bs i 0)) → Begins Refusing bs
filled_refusal bs b p q z at = (rest, (omega (arith, len), first, All-append (λ c. c < 256) bs rest b (Bytes-zeros (7 - length bs)), each))
  where
    rest : List ℕ
    rest = zeros (7 - length bs)

    len : length (bs ++ rest) ≡ length bs + (7 - length bs)
    len = length-append bs rest ∙ ap (λ n. length bs + n) (length-replicate {A = ℕ} (7 - length bs) 0)

    first : get_or (bs ++ rest) 0 0 ≡ 0
    first = get_or_append_left bs rest 0 0 (omega arith) ∙ z

    second : get_or (bs ++ rest) 1 0 ≡ get_or bs 1 0
    second = get_or_append_left bs rest 0 1 (omega arith)

    each : (i : ℕ) → 1 ≤ i → i < 7 → Stands (get_or (bs ++ rest) 1 0) i (get_or (bs ++ rest) i 0)
    each i l h =
        ⊎_elim
        (λ (m : i < length bs). rw (second, get_or_append_left bs rest 0 i m) (at i l m))
        (λ (m : length bs ≤ i). rw (get_or-append_right bs rest (length bs) i 0 refl m, get_or-zeros (7 - length bs) (i - length bs)) (stands_zero (get_or (bs ++ rest) 1 0) i (omega arith)))
        (cases_lt i (length bs))

-- and so is the 0 alone
begun_refusal : (bs : List ℕ) → Bytes bs → 1 ≤ length bs → length bs ≤ 7 → get_or bs 0 0 ≡ 0 →
    ((i : ℕ) → 1 ≤ i → i < length bs → Stands (get_or bs 1 0) i (get_or bs i 0)) → Begins Refusing bs
begun_refusal [] b p q z at = absurd (omega arith)
begun_refusal (a ∷ []) b p q z at =
    (two 1 ++ four 0, subst (λ (n : ℕ). Refusing (n ∷ (two 1 ++ four 0))) (sym z) (refused_refusing 1 0 (refl, lit< tt)))
begun_refusal (a ∷ c ∷ bs) b p q z at = filled_refusal (a ∷ c ∷ bs) b (omega arith) q z at

-- where bytes cease, whose writings with the number 0 are refusals
pub refusing_stops : (W : List ℕ → Type 0) → ((cs : List ℕ) → Refusing cs → W cs) → ((cs : List ℕ) → W (0 ∷ cs) → Refusing (0 ∷ cs)) →
    (bs : List ℕ) → Bytes bs → (suc (length bs) ≡ misfit (0 ∷ bs) 1 6 → ⊥) → StopsAt W (0 ∷ bs) (min (suc (length bs)) (misfit (0 ∷ bs) 1 6))
refusing_stops W into out bs b other = (whole, (g.0, into _ g.1), ends)
  where
    w : List ℕ
    w = 0 ∷ bs

    m : ℕ
    m = misfit w 1 6

    r : FirstMisfit w 1 6 m
    r = first_misfit w 1 6

    p : ℕ
    p = min (suc (length bs)) m

    whole : W w → ⊥
    whole x = let f = out bs x in other (f.0 ∙ sym (refusing_misfit w f))

    long : length (take p w) ≡ p
    long = length-take-le p w (omega arith)

    at : (i : ℕ) → 1 ≤ i → i < length (take p w) → Stands (get_or (take p w) 1 0) i (get_or (take p w) i 0)
    at i l h =
        let s : get_or (take p w) 1 0 ≡ get_or w 1 0 = get_or-take p w 1 0 (omega (arith, long)) in
        let t : get_or (take p w) i 0 ≡ get_or w i 0 = get_or-take p w i 0 (omega (arith, long)) in
        rw (s, t) (r.2 i l (omega (arith, long)) (omega (arith, long)))

    g : Begins Refusing (take p w)
    g = begun_refusal (take p w) (All-take (λ c. c < 256) p w (lit< tt, b)) (omega (arith, long, r.0)) (omega (arith, long, r.1)) (get_or-take p w 0 0 (omega (arith, r.0))) at

    further : m < suc (length bs) → Begins W (take (m + 1) w) → ⊥
    further h x =
        let e : m + 1 ≡ suc m = omega arith in
        let y = subst (λ n. Begins W (take n w)) e x in
        let cs = y.0 in
        let f = out (take m bs ++ cs) y.1 in
        let n : length (take m bs) ≡ m = length-take-le m bs (omega arith) in
        let l = length-append (take m bs) cs in
        let s : get_or (take (suc m) w ++ cs) 1 0 ≡ get_or w 1 0 = get_or_append_left (take (suc m) w) cs 0 1 (omega (arith, r.0)) ∙ get_or-take (suc m) w 1 0 (omega (arith, r.0)) in
        let t : get_or (take (suc m) w ++ cs) m 0 ≡ get_or w m 0 = get_or_append_left (take (suc m) w) cs 0 m (omega arith) ∙ get_or-take (suc m) w m 0 (omega arith) in
        let u : m < 7 = omega (arith, f.0) in
        (r.3 u).1 (rw (← s, ← t) (f.3 m r.0 u))

    ends : (p ≡ suc (length bs)) ⊎ ((p < suc (length bs)) × (Begins W (take (p + 1) w) → ⊥))
    ends =
        ⊎_elim
        (λ (h : m < suc (length bs)). let e : p ≡ m = omega arith in inr (omega arith, subst (λ n. Begins W (take (n + 1) w) → ⊥) (sym e) (further h)))
        (λ (h : suc (length bs) ≤ m). inl (omega arith))
        (cases_lt m (suc (length bs)))
