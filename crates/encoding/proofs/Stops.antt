-- Where bytes cease to be a writing: of a head that tells how many bytes follow, and behind a first byte that tells what follows.
use Rattle.std.proofs.Common.{◌≡◌, ℕ, zero, suc, ◌+◌, ◌-◌, ◌<◌, ◌≤◌, min, List, [], ◌∷◌, ◌++◌, length, get_or, take, drop, replicate, Ok, Result, sym, refl, ap, ◌∙◌, subst, inl, inr, ⊎_elim, append_assoc, arith, MatchResult}
use Rattle.std.proofs.lemmas.List.{length-append, length-replicate, length-take-le, take_all, take-append-drop}
use Rattle.std.proofs.ByRecursion.{All-append, All-take}
use Rattle.std.proofs.lemmas.Bool.Decides.{nat_tests}
use Rattle.std.proofs.lemmas.Bool.{cases_lt, cases_order}
use Rattle.encoding.specs.Bytes.{Bytes}
use Rattle.encoding.specs.Formats.{exactly, sized, by_first, Writing, Begins, StopsAt}

-- a head of k bytes, and as many bytes behind it as it tells
abbrev pub Headed : ℕ → (List ℕ → ℕ) → List ℕ → Type 0
Headed k tells bs = (k ≤ length bs) × (length bs ≡ k + tells bs) × Bytes bs

-- what a head tells does not depend on what stands behind it
abbrev pub ByHead : ℕ → (List ℕ → ℕ) → Type 0
ByHead k tells = (bs rest : List ℕ) → k ≤ length bs → tells (bs ++ rest) ≡ tells bs

-- so many zeros
abbrev pub zeros : ℕ → List ℕ
zeros n = replicate n 0

-- each is a byte, and each is 0
pub Bytes-zeros : (n : ℕ) → Bytes (zeros n)
Bytes-zeros zero = tt
Bytes-zeros (suc n) = (omega arith, Bytes-zeros n)

pub get_or-zeros : (n i : ℕ) → get_or (zeros n) i 0 ≡ 0
get_or-zeros zero i = refl
get_or-zeros (suc n) zero = refl
get_or-zeros (suc n) (suc i) = get_or-zeros n i

-- bytes that are not too many are filled up with zeros
filled : (k : ℕ) (tells : List ℕ → ℕ) → ByHead k tells → (bs : List ℕ) → Bytes bs → k ≤ length bs → length bs ≤ k + tells bs → Begins (Headed k tells) bs
filled k tells by bs b h l =
    let rest = zeros (k + tells bs - length bs) in
    let n = length-append bs rest in
    let z = length-replicate {A = ℕ} (k + tells bs - length bs) 0 in
    (rest, (omega arith, omega (arith, by bs rest h), All-append (λ c. c < 256) bs rest b (Bytes-zeros (k + tells bs - length bs))))

-- what begins with more begins with less
begins_before : (W : List ℕ → Type 0) (bs cs : List ℕ) → Begins W (bs ++ cs) → Begins W bs
begins_before W bs cs g = (cs ++ g.0, subst W (append_assoc bs cs g.0) g.1)

-- and a head that is not whole is filled up likewise
begun : (k : ℕ) (tells : List ℕ → ℕ) → ByHead k tells → (bs : List ℕ) → Bytes bs → length bs < k → Begins (Headed k tells) bs
begun k tells by bs b h =
    let cs = zeros (k - length bs) in
    let n = length-append bs cs in
    let z = length-replicate {A = ℕ} (k - length bs) 0 in
    begins_before (Headed k tells) bs cs
    (filled k tells by (bs ++ cs) (All-append (λ c. c < 256) bs cs b (Bytes-zeros (k - length bs))) (omega arith) (omega arith))

-- what a head tells is told by any beginning that holds it
tells_take : (k : ℕ) (tells : List ℕ → ℕ) → ByHead k tells → (bs : List ℕ) (n : ℕ) → k ≤ n → n ≤ length bs → tells (take n bs) ≡ tells bs
tells_take k tells by bs n h l =
    let s = length-take-le n bs l in
    sym (by (take n bs) (drop n bs) (omega arith)) ∙ ap tells (take-append-drop n bs)

-- too few bytes cease where they end
short : (k : ℕ) (tells : List ℕ → ℕ) (bs : List ℕ) → (Headed k tells bs → ⊥) → Begins (Headed k tells) bs → StopsAt (Headed k tells) bs (length bs)
short k tells bs other g = (other, subst (Begins (Headed k tells)) (sym (take_all (length bs) bs (omega arith))) g, inl refl)

-- too many bytes cease behind those that were told
long : (k : ℕ) (tells : List ℕ → ℕ) → ByHead k tells → (bs : List ℕ) → Bytes bs → k + tells bs < length bs → StopsAt (Headed k tells) bs (k + tells bs)
long k tells by bs b h =
    let p = k + tells bs in
    let l = length-take-le p bs (omega arith) in
    let m = length-take-le (p + 1) bs (omega arith) in
    let t = tells_take k tells by bs p (omega arith) (omega arith) in
    let u = tells_take k tells by bs (p + 1) (omega arith) (omega arith) in (
      (λ w. omega (arith, w.1)),
      filled k tells by (take p bs) (All-take (λ c. c < 256) p bs b) (omega arith) (omega arith),
      inr (h, λ g. omega (arith, g.1.1, by (take (p + 1) bs) g.0 (omega arith), length-append (take (p + 1) bs) g.0)),
    )

-- where bytes with such a head cease to be whole
pub headed_stops : (k : ℕ) (tells : List ℕ → ℕ) → ByHead k tells → (bs : List ℕ) → Bytes bs → (length bs ≡ sized bs k (tells bs) → ⊥) →
    StopsAt (Headed k tells) bs (min (length bs) (sized bs k (tells bs)))
headed_stops k tells by bs b other = ⊎_elim few enough (cases_lt (length bs) k)
  where
    Goal : Type 0
    Goal = StopsAt (Headed k tells) bs (min (length bs) (sized bs k (tells bs)))

    few : length bs < k → Goal
    few h =
        let e : min (length bs) (sized bs k (tells bs)) ≡ length bs = grind (arith, nat_tests) in
        rw e (short k tells bs (λ w. omega (arith, w.0)) (begun k tells by bs b h))

    between : k ≤ length bs → length bs < k + tells bs → Goal
    between h l =
        let e : min (length bs) (sized bs k (tells bs)) ≡ length bs = grind (arith, nat_tests) in
        rw e (short k tells bs (λ w. omega (arith, w.1)) (filled k tells by bs b h (omega arith)))

    many : k ≤ length bs → k + tells bs < length bs → Goal
    many h l =
        let e : min (length bs) (sized bs k (tells bs)) ≡ k + tells bs = grind (arith, nat_tests) in
        rw e (long k tells by bs b l)

    enough : k ≤ length bs → Goal
    enough h =
        ⊎_elim (λ e. absurd (other (grind (arith, nat_tests)))) (⊎_elim (between h) (many h)) (cases_order (length bs) (k + tells bs))

-- behind a first byte t that W and R agree on, bytes cease where those behind it do
pub tagged_stops : (W R : List ℕ → Type 0) (t : ℕ) → ((bs : List ℕ) → R bs → W (t ∷ bs)) → ((bs : List ℕ) → W (t ∷ bs) → R bs) →
    (bs : List ℕ) (p : ℕ) → StopsAt R bs p → StopsAt W (t ∷ bs) (suc p)
tagged_stops W R t into out bs p s =
    ((λ w. s.0 (out bs w)), (s.1.0, into (take p bs ++ s.1.0) s.1.1), ⊎_elim (λ e. inl (ap suc e)) (λ h. inr (omega (arith, h.0), further h)) s.2)
  where
    further : (p < length bs) × (Begins R (take (p + 1) bs) → ⊥) → Begins W (take (suc p + 1) (t ∷ bs)) → ⊥
    further h g =
        let e : suc p + 1 ≡ suc (p + 1) = omega arith in
        let f = subst (λ n. Begins W (take n (t ∷ bs))) e g in
        h.1 (f.0, out (take (p + 1) bs ++ f.0) f.1)

-- a value with just so many bytes, or the place where they end or go on
pub by_exactly : {X : Type 0} (bs : List ℕ) (n : ℕ) (x : X) (P : X → Type 0) (Q : ℕ → Type 0) →
    (length bs ≡ n → P x) → ((length bs ≡ n → ⊥) → Q (min (length bs) n)) → MatchResult (exactly bs n x) P Q
by_exactly bs n x P Q whole other = grind (arith, nat_tests)

-- how many bytes there are, behind a first one
sized_behind : (t : ℕ) (bs : List ℕ) (k f : ℕ) → sized (t ∷ bs) (suc k) f ≡ suc (sized bs k f)
sized_behind t bs k f = grind (arith, nat_tests)

-- as many bytes as there should be are a head and what it tells
whole_headed : (k : ℕ) (tells : List ℕ → ℕ) (bs : List ℕ) → Bytes bs → length bs ≡ sized bs k (tells bs) → Headed k tells bs
whole_headed k tells bs b e = (grind (arith, nat_tests), grind (arith, nat_tests), b)

-- a head and what it tells are as many bytes as there should be
pub headed_exactly : {X : Type 0} (t k : ℕ) (tells : List ℕ → ℕ) (bs : List ℕ) (x : X) → Headed k tells bs →
    exactly (t ∷ bs) (sized (t ∷ bs) (suc k) (tells bs)) x ≡ Ok x
headed_exactly t k tells bs x h = grind (arith, nat_tests)

-- bytes behind a first one t, where such bytes are what the writings that begin with t have behind it: a value that has just so many, or the place where they cease to be a writing
pub tagged_headed : {X : Type 0} (fits : X → Type 0) (bytes : X → List ℕ) (t k : ℕ) (tells : List ℕ → ℕ) → ByHead k tells → (value : List ℕ → X) →
    ((bs : List ℕ) → Headed k tells bs → fits (value bs) × (bytes (value bs) ≡ t ∷ bs)) → ((bs : List ℕ) → Writing fits bytes (t ∷ bs) → Headed k tells bs) →
    (bs : List ℕ) → Bytes bs →
    MatchResult (exactly (t ∷ bs) (sized (t ∷ bs) (suc k) (tells bs)) (value bs)) (λ x. fits x × (bytes x ≡ t ∷ bs)) (StopsAt (Writing fits bytes) (t ∷ bs))
tagged_headed fits bytes t k tells by value whole out bs b =
    rw (sized_behind t bs k (tells bs))
    (by_exactly (t ∷ bs) (suc n) (value bs) (λ x. fits x × (bytes x ≡ t ∷ bs)) (StopsAt W (t ∷ bs)) (λ e. whole bs (whole_headed k tells bs b (omega arith))) ceases)
  where
    W : List ℕ → Type 0
    W = Writing fits bytes

    n : ℕ
    n = sized bs k (tells bs)

    into : (cs : List ℕ) → Headed k tells cs → W (t ∷ cs)
    into cs h = (value cs, (whole cs h).0, (whole cs h).1)

    ceases : (suc (length bs) ≡ suc n → ⊥) → StopsAt W (t ∷ bs) (min (suc (length bs)) (suc n))
    ceases d =
        let e : min (suc (length bs)) (suc n) ≡ suc (min (length bs) n) = omega arith in
        rw e (tagged_stops W (Headed k tells) t into out bs (min (length bs) n) (headed_stops k tells by bs b (λ e. d (ap suc e))))

-- nothing follows the head
abbrev pub nothing : List ℕ → ℕ
nothing bs = 0

-- a head that nothing follows has just its own bytes
sized_alone : (bs : List ℕ) (k : ℕ) → sized bs k 0 ≡ k
sized_alone bs k = grind (arith, nat_tests)

-- the same where nothing follows the head
pub tagged_alone : {X : Type 0} (fits : X → Type 0) (bytes : X → List ℕ) (t k : ℕ) (value : List ℕ → X) →
    ((bs : List ℕ) → Headed k nothing bs → fits (value bs) × (bytes (value bs) ≡ t ∷ bs)) → ((bs : List ℕ) → Writing fits bytes (t ∷ bs) → Headed k nothing bs) →
    (bs : List ℕ) → Bytes bs → MatchResult (exactly (t ∷ bs) (suc k) (value bs)) (λ x. fits x × (bytes x ≡ t ∷ bs)) (StopsAt (Writing fits bytes) (t ∷ bs))
tagged_alone fits bytes t k value whole out bs b =
    subst (λ n. MatchResult (exactly (t ∷ bs) n (value bs)) (λ x. fits x × (bytes x ≡ t ∷ bs)) (StopsAt (Writing fits bytes) (t ∷ bs)))
    (sized_alone (t ∷ bs) (suc k))
    (tagged_headed fits bytes t k nothing (λ _ _ _. refl) value whole out bs b)

-- where no writing begins with the first byte, the bytes cease there
pub unknown_stops : (W : List ℕ → Type 0) (t : ℕ) (bs : List ℕ) → Begins W [] → ((cs : List ℕ) → W (t ∷ cs) → ⊥) → StopsAt W (t ∷ bs) 0
unknown_stops W t bs some none = (none bs, some, inr (omega arith, λ g. none g.0 g.1))

-- what is read of bytes of which there is a first
pub read_first : {X : Type 0} (read : ℕ → List ℕ → Result X ℕ) (k : ℕ) (bs : List ℕ) → by_first read (k ∷ bs) ≡ read k (k ∷ bs)
read_first read k bs = grind (arith, nat_tests)
