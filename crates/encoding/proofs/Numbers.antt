-- Numbers as bytes and back: two bytes, four bytes, and lists of two bytes each.
use Rattle.std.proofs.Common.{◌≡◌, ℕ, zero, suc, ◌+◌, ◌*◌, ◌/◌, ◌%◌, ◌<◌, List, [], ◌∷◌, ◌++◌, length, get_or, take, refl, ap, arith}
use Rattle.std.proofs.lemmas.Nat.{from_le_bytes-to_le_bytes_4, le_bytes_4}
use Rattle.std.specs.List.{AllByRecursion}
use Rattle.std.specs.Simd.{first_chunks}
use Rattle.std.proofs.lemmas.List.{take_more}
use Rattle.encoding.specs.Bytes.{Bytes, two, four, twos, two_at, words}

-- a number that fits two bytes is what they hold
pub two_value : (n : ℕ) → n < 65536 → n % 256 + n / 256 % 256 * 256 ≡ n
two_value n h = omega arith

-- a byte below others is what they leave at division, and they are the quotient
pub low_byte : (a q : ℕ) → a < 256 → ((a + q * 256) % 256 ≡ a) × ((a + q * 256) / 256 ≡ q)
low_byte a q h = (omega arith, omega arith)

-- two bytes are those of the number that they hold
pub two_of : (a b : ℕ) → a < 256 → b < 256 → two (a + b * 256) ≡ a ∷ b ∷ []
two_of a b p q =
    let l = low_byte a b p in
    let y : b % 256 ≡ b = omega arith in
    rw (l.0, l.1, y)

-- a number that fits four bytes is what they hold
pub four_value : (n : ℕ) → n < 4294967296 → n % 256 + n / 256 % 256 * 256 + n / 65536 % 256 * 65536 + n / 16777216 % 256 * 16777216 ≡ n
four_value n h = from_le_bytes-to_le_bytes_4 n h

-- four bytes are those of the number that they hold
pub four_of : (a b c d : ℕ) → a < 256 → b < 256 → c < 256 → d < 256 → four (a + b * 256 + c * 65536 + d * 16777216) ≡ a ∷ b ∷ c ∷ d ∷ []
four_of a b c d p q r s = le_bytes_4 (a ∷ b ∷ c ∷ d ∷ []) (a + b * 256 + c * 65536 + d * 16777216) refl byte refl
  where
    byte : (i : ℕ) → get_or (a ∷ b ∷ c ∷ d ∷ []) i 0 < 256
    byte zero = p
    byte (suc zero) = q
    byte (suc (suc zero)) = r
    byte (suc (suc (suc zero))) = s
    byte (suc (suc (suc (suc i)))) = omega arith

-- two bytes for each number
pub length-twos : (ns : List ℕ) → length (twos ns) ≡ 2 * length ns
unfolding twos
length-twos [] = refl
length-twos (n ∷ ns) = let h = length-twos ns in omega arith

-- the numbers of two lists, one after the other
pub twos-append : (ms ns : List ℕ) → twos (ms ++ ns) ≡ twos ms ++ twos ns
unfolding twos
twos-append [] ns = refl
twos-append (m ∷ ms) ns = ap (λ bs. m % 256 ∷ m / 256 % 256 ∷ bs) (twos-append ms ns)

-- what numbers are written as are bytes
pub Bytes-twos : (ns : List ℕ) → Bytes (twos ns)
unfolding twos
Bytes-twos [] = tt
Bytes-twos (n ∷ ns) = (omega arith, (omega arith, Bytes-twos ns))

-- numbers that fit two bytes each are read back
pub words-twos : (ns : List ℕ) → AllByRecursion (λ n. n < 65536) ns → words (twos ns) ≡ ns
unfolding twos words
words-twos [] h = refl
words-twos (n ∷ ns) h = rw (two_value n h.0, words-twos ns h.1)

-- bytes that make up k numbers are what these are written as
pub twos-words : (bs : List ℕ) (k : ℕ) → Bytes bs → length bs ≡ 2 * k → (twos (words bs) ≡ bs) × (length (words bs) ≡ k) × AllByRecursion (λ n. n < 65536) (words bs)
unfolding twos words
twos-words [] k h l = (refl, omega arith, tt)
twos-words (a ∷ []) k h l = absurd (omega arith)
twos-words (a ∷ b ∷ bs) zero h l = absurd (omega arith)
twos-words (a ∷ b ∷ bs) (suc k) h l =
    let r = twos-words bs k h.1.1 (omega arith) in
    let l = low_byte a b h.0 in
    let y : b % 256 ≡ b = omega (arith, h.1.0) in
    (rw (l.0, l.1, y, r.0), omega (arith, r.1), (omega (arith, h.0, h.1.0), r.2))

-- a number for each two bytes
pub length-words : (bs : List ℕ) → length (words bs) ≡ length bs / 2
unfolding words
length-words [] = refl
length-words (a ∷ []) = refl
length-words (a ∷ b ∷ bs) = let h = length-words bs in omega arith

-- each is the number that its two bytes hold, by their places
pub get_or-words : (bs : List ℕ) (i : ℕ) → 2 * i + 1 < length bs → get_or (words bs) i 0 ≡ two_at bs (2 * i)
unfolding words
get_or-words [] i h = absurd (omega arith)
get_or-words (a ∷ []) i h = absurd (omega arith)
get_or-words (a ∷ b ∷ bs) zero h = refl
get_or-words (a ∷ b ∷ bs) (suc i) h =
    let e : 2 * suc i ≡ suc (suc (2 * i)) = omega arith in
    let f : suc (suc (2 * i)) + 1 ≡ suc (suc (2 * i + 1)) = omega arith in
    rw (e, f) (get_or-words bs i (omega arith))

-- and as the library takes two bytes at a time
pub chunk-words : (bs : List ℕ) (n i : ℕ) (d : List ℕ) → n ≡ length bs / 2 → i < n → two_at (get_or (first_chunks 2 n bs) i d) 0 ≡ get_or (words bs) i 0
unfolding words
chunk-words [] n i d e h = absurd (omega arith)
chunk-words (a ∷ []) n i d e h = absurd (omega arith)
chunk-words (a ∷ b ∷ bs) zero i d e h = absurd (omega arith)
chunk-words (a ∷ b ∷ bs) (suc n) zero d e h = refl
chunk-words (a ∷ b ∷ bs) (suc n) (suc i) d e h = chunk-words bs n i d (omega arith) (omega arith)

-- what is known of numbers that are read
pub ruleset words_read = (length-words, chunk-words)

-- one number more: its two bytes behind those of i numbers
pub twos_more : (ns : List ℕ) (i : ℕ) → i < length ns → twos (take (i + 1) ns) ≡ twos (take i ns) ++ two (get_or ns i 0)
unfolding twos
twos_more ns i h = rw (take_more ns i 0 h) (twos-append (take i ns) (get_or ns i 0 ∷ []))
