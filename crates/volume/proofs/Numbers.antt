-- Numbers written high byte first.
use Rattle.std.proofs.Common.{◌≡◌, ℕ, zero, suc, ◌+◌, ◌*◌, ◌/◌, ◌%◌, ◌^◌, ◌<◌, ◌≤◌, List, [], ◌∷◌, ◌++◌, length, get_or, take, sym, refl, ap, ◌∙◌, add-one, arith, length-append}
use native.Mathlib.Nat.{pow-succ'}
use Rattle.std.proofs.lemmas.List.{same_from_push, take_more}
use Rattle.volume.specs.Bundles.{big_endian}

pub length-big_endian : (w n : ℕ) → length (big_endian w n) ≡ w
unfolding big_endian
length-big_endian zero n = refl
length-big_endian (suc w) n = length-append (big_endian w (n / 256)) _ ∙ omega (arith, length-big_endian w (n / 256))

-- one byte more
pub big_endian-more : (w n b : ℕ) → b < 256 → big_endian (suc w) (n * 256 + b) ≡ big_endian w n ++ (b ∷ [])
unfolding big_endian
big_endian-more w n b h =
    let q : (n * 256 + b) / 256 ≡ n = omega arith in
    let r : (n * 256 + b) % 256 ≡ b = omega arith in
    λ i. big_endian w (q i) ++ (r i ∷ [])

pub under_more : (w n b : ℕ) → b < 256 → n < 256 ^ w → n * 256 + b < 256 ^ suc w
under_more w n b h l = omega (arith, pow-succ' 256 w)

pub big_endian-same : (w m n : ℕ) → m < 256 ^ w → n < 256 ^ w → big_endian w m ≡ big_endian w n → m ≡ n
unfolding big_endian
big_endian-same zero m n a b e = omega arith
big_endian-same (suc w) m n a b e =
    let p = same_from_push (big_endian w (m / 256)) (big_endian w (n / 256)) (m % 256) (n % 256) e in
    let q : m / 256 ≡ n / 256 = big_endian-same w (m / 256) (n / 256) (omega (arith, pow-succ' 256 w)) (omega (arith, pow-succ' 256 w)) p.0 in
    let r : m % 256 ≡ n % 256 = p.1 in
    omega arith

-- the number in the first w bytes
abbrev pub value : ℕ → List ℕ → ℕ
value zero t = 0
value (suc w) t = value w t * 256 + get_or t w 0

pub value-is : (w : ℕ) (t : List ℕ) → w ≤ length t → ((i : ℕ) → get_or t i 0 < 256) → (take w t ≡ big_endian w (value w t)) × (value w t < 256 ^ w)
unfolding big_endian
value-is zero t h small = (refl, omega arith)
value-is (suc w) t h small =
    let front = value-is w t (omega arith) small in
    let more : take (suc w) t ≡ take w t ++ (get_or t w 0 ∷ []) = ap (λ k. take k t) (sym (add-one w)) ∙ take_more t w 0 (omega arith) in (
      more ∙ ap (λ l. l ++ (get_or t w 0 ∷ [])) front.0 ∙ sym (big_endian-more w (value w t) (get_or t w 0) (small w)),
      under_more w (value w t) (get_or t w 0) (small w) front.1,
    )

-- the bytes one by one, as the library writes them
pub eight-bytes : (n : ℕ) → n / 72057594037927936 % 256 ∷ n / 281474976710656 % 256 ∷ n / 1099511627776 % 256 ∷ n / 4294967296 % 256 ∷ n / 16777216 % 256 ∷ n / 65536 % 256 ∷ n / 256 % 256 ∷ n % 256 ∷ [] ≡ big_endian 8 n
unfolding big_endian
eight-bytes n =
    let q2 : n / 65536 ≡ n / 256 / 256 = omega arith in
    let q3 : n / 16777216 ≡ n / 256 / 256 / 256 = omega arith in
    let q4 : n / 4294967296 ≡ n / 256 / 256 / 256 / 256 = omega arith in
    let q5 : n / 1099511627776 ≡ n / 256 / 256 / 256 / 256 / 256 = omega arith in
    let q6 : n / 281474976710656 ≡ n / 256 / 256 / 256 / 256 / 256 / 256 = omega arith in
    let q7 : n / 72057594037927936 ≡ n / 256 / 256 / 256 / 256 / 256 / 256 / 256 = omega arith in
    λ i. q7 i % 256 ∷ q6 i % 256 ∷ q5 i % 256 ∷ q4 i % 256 ∷ q3 i % 256 ∷ q2 i % 256 ∷ n / 256 % 256 ∷ n % 256 ∷ []

pub two_bytes : (n : ℕ) → n / 256 % 256 ∷ n % 256 ∷ [] ≡ big_endian 2 n
unfolding big_endian
two_bytes n = refl
