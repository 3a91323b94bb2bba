-- The text of an id, read and written. Assumes nothing.
use Rattle.std.proofs.Common.{◌≡◌, ℕ, zero, suc, ◌+◌, ◌*◌, ◌/◌, ◌%◌, ◌^◌, ◌<◌, Bool, true, false, cond, not, ◌&&◌, ◌||◌, eqb, ltb, List, [], ◌∷◌, ◌++◌, map, length, get_or, take, drop, Some, None, Option, sym, refl, ap, ◌∙◌, subst, inl, inr, append_assoc, append-nil, mul_comm, pow-suc, arith, length-append, length-drop, length-take, MatchOption}
use native.Mathlib.Nat.{div-div-eq-div-mul}
use Rattle.std.proofs.lemmas.Int.Digits.{digits_push, digits_value_push}
use Rattle.std.proofs.lemmas.List.{drop_at, drop-map, length_push, map-append, map_push, take_all, take-append-drop, take_at, take-map, take_more}
use Rattle.std.proofs.lemmas.Bool.{and_from, and_parts, cases_Bool, cond_both, cond-true, cond-false, eq-eqb, eqb-true, false≢true, lt-ltb}
use Rattle.std.proofs.lemmas.Bool.Decides.{nat_tests}
use Rattle.std.specs.Str.Parse.{AllDigits, digits_value, digits_value_after}
use Rattle.std.specs.Char.{is_ascii_alphabetic, digit_value, to_ascii_lowercase, to_ascii_uppercase}
use Rattle.ids.specs.Ids.{as_shape, fits, digits_at, part_of, both, id_of, site_shape, serial_shape, hex_digit, hexes, filled, id_text, InRange, ReadsId}
use Rattle.ids.specs.declared.SessionId.{SessionId}
use Rattle.ids.proofs.Shapes.{uneven, digits_are, digits_long}

some_inj : {A : Type 0} {a b : A} → ◌≡◌ {A = Option A} (Some a) (Some b) → a ≡ b
some_inj e = cc

none-some : {A : Type 0} (n : A) → ◌≡◌ {A = Option A} None (Some n) → ⊥
none-some n e = let z : ◌≡◌ {A = ℕ} 0 1 = cc in omega arith

pub both-none : (site : Option ℕ) → both site None ≡ None
both-none None = refl
both-none (Some n) = refl

pub not-long : (s : List ℕ) → (length s ≡ 38 → ⊥) → id_of s ≡ None
unfolding id_of
not-long s h =
    let site = part_of site_shape (take 19 s) in
    ap (both site) (cond-false _ _ _ (uneven serial_shape (drop 19 s) (λ e. h (omega (arith, length-drop 19 s, e))))) ∙ both-none site

-- no byte of a shape is a letter, but for the x
abbrev plain : ℕ → Bool
plain p = eqb p 120 || not (is_ascii_alphabetic p)

abbrev plains : List ℕ → Bool
plains [] = true
plains (p ∷ ps) = plain p && plains ps

value-upper : (b : ℕ) → digit_value (to_ascii_uppercase b) ≡ digit_value b
value-upper b = grind (arith, nat_tests)

upper-lower : (b : ℕ) → to_ascii_uppercase (to_ascii_lowercase b) ≡ to_ascii_uppercase b
upper-lower b = grind (arith, nat_tests)

upper-plain : (p : ℕ) → plain p ≡ true → eqb p 120 ≡ false → to_ascii_uppercase p ≡ p
upper-plain p h o = grind (arith, nat_tests)

eqb-upper : (p b : ℕ) → plain p ≡ true → eqb p 120 ≡ false → eqb (to_ascii_uppercase b) p ≡ eqb b p
eqb-upper p b h o = grind (arith, nat_tests)

hex-value : (d : ℕ) → d < 16 → digit_value (hex_digit d) ≡ d
hex-value d h = grind (arith, nat_tests)

hex-upper : (b : ℕ) → digit_value b < 16 → hex_digit (digit_value b) ≡ to_ascii_uppercase b
hex-upper b h = grind (arith, nat_tests)

-- letter case

as-upper : (p b : ℕ) → plain p ≡ true → as_shape p (to_ascii_uppercase b) ≡ as_shape p b
as-upper p b h =
    elim (cases_Bool (eqb p 120)) [
      | inl x ↦ cond-true _ _ _ x ∙ ap (λ v. ltb v 16) (value-upper b) ∙ sym (cond-true _ _ _ x)
      | inr o ↦ cond-false _ _ _ o ∙ eqb-upper p b h o ∙ sym (cond-false _ _ _ o)
    ]

fits-upper : (ps bs : List ℕ) → plains ps ≡ true → fits ps (map to_ascii_uppercase bs) ≡ fits ps bs
fits-upper [] [] h = refl
fits-upper [] (b ∷ bs) h = refl
fits-upper (p ∷ ps) [] h = refl
fits-upper (p ∷ ps) (b ∷ bs) h = λ j. as-upper p b (and_parts _ _ h).0 j && fits-upper ps bs (and_parts _ _ h).1 j

digits-upper : (ps bs : List ℕ) → digits_at ps (map to_ascii_uppercase bs) ≡ map to_ascii_uppercase (digits_at ps bs)
digits-upper [] bs = refl
digits-upper (p ∷ ps) [] = refl
digits-upper (p ∷ ps) (b ∷ bs) =
    elim (cases_Bool (eqb p 120)) [
      | inl x ↦ cond-true _ _ _ x ∙ ap (λ l. to_ascii_uppercase b ∷ l) (digits-upper ps bs) ∙ sym (ap (map to_ascii_uppercase) (cond-true _ _ _ x))
      | inr o ↦ cond-false _ _ _ o ∙ digits-upper ps bs ∙ sym (ap (map to_ascii_uppercase) (cond-false _ _ _ o))
    ]

after-upper : (n : ℕ) (ds : List ℕ) → digits_value_after 16 n (map to_ascii_uppercase ds) ≡ digits_value_after 16 n ds
after-upper n [] = refl
after-upper n (d ∷ ds) = ap (λ v. digits_value_after 16 (n * 16 + v) (map to_ascii_uppercase ds)) (value-upper d) ∙ after-upper (n * 16 + digit_value d) ds

part-upper : (ps bs : List ℕ) → plains ps ≡ true → part_of ps (map to_ascii_uppercase bs) ≡ part_of ps bs
part-upper ps bs h = λ j. cond (fits-upper ps bs h j) (Some ((ap (digits_value 16) (digits-upper ps bs) ∙ after-upper 0 (digits_at ps bs)) j)) None

id-upper : (s : List ℕ) → id_of (map to_ascii_uppercase s) ≡ id_of s
unfolding id_of
id-upper s =
    (λ j. both (part_of site_shape (take-map to_ascii_uppercase 19 s j)) (part_of serial_shape (drop-map to_ascii_uppercase 19 s j)))
    ∙ (λ j. both (part-upper site_shape (take 19 s) refl j) (part-upper serial_shape (drop 19 s) refl j))

map-upper-lower : (s : List ℕ) → map to_ascii_uppercase (map to_ascii_lowercase s) ≡ map to_ascii_uppercase s
map-upper-lower [] = refl
map-upper-lower (b ∷ bs) = λ j. upper-lower b j ∷ map-upper-lower bs j

id-caseless : (s t : List ℕ) → map to_ascii_lowercase t ≡ map to_ascii_lowercase s → id_of t ≡ id_of s
id-caseless s t e = sym (id-upper t) ∙ ap id_of (sym (map-upper-lower t) ∙ ap (map to_ascii_uppercase) e ∙ map-upper-lower s) ∙ id-upper s

-- digits put into a shape, and taken out

filled-other : (p : ℕ) (ps ds : List ℕ) → eqb p 120 ≡ false → filled (p ∷ ps) ds ≡ p ∷ filled ps ds
filled-other p ps [] o = refl
filled-other p ps (d ∷ ds) o = cond-false _ _ _ o

pub length-filled : (ps ds : List ℕ) → length (filled ps ds) ≡ length ps
length-filled [] ds = refl
length-filled (p ∷ ps) [] = ap suc (length-filled ps [])
length-filled (p ∷ ps) (d ∷ ds) = cond_both (eqb p 120) _ _ (λ l. length l ≡ suc (length ps)) (λ _. ap suc (length-filled ps ds)) (λ _. ap suc (length-filled ps (d ∷ ds)))

fits-cons : (p b : ℕ) (ps bs : List ℕ) → as_shape p b ≡ true → fits ps bs ≡ true → fits (p ∷ ps) (b ∷ bs) ≡ true
fits-cons p b ps bs h t = and_from _ _ h t

as-self : (p : ℕ) → eqb p 120 ≡ false → as_shape p p ≡ true
as-self p o = cond-false _ _ _ o ∙ eq-eqb p p refl

in-shape : (ps ds : List ℕ) → length ds ≡ length (digits_at ps ps) → AllDigits 16 ds → (fits ps (filled ps ds) ≡ true) × (digits_at ps (filled ps ds) ≡ ds)
in-shape [] [] e h = (refl, refl)
in-shape [] (d ∷ ds) e h = absurd (omega arith)
in-shape (p ∷ ps) [] e h =
    elim (cases_Bool (eqb p 120)) [
      | inl x ↦ absurd (omega (arith, ap length (cond-true _ (p ∷ digits_at ps ps) (digits_at ps ps) x)))
      | inr o ↦
          let rest = in-shape ps [] (e ∙ ap length (cond-false _ _ _ o)) tt in
          (fits-cons p p ps _ (as-self p o) rest.0, cond-false _ _ _ o ∙ rest.1)
    ]
in-shape (p ∷ ps) (d ∷ ds) e h =
    elim (cases_Bool (eqb p 120)) [
      | inl x ↦
          let rest = in-shape ps ds (omega (arith, ap length (cond-true _ (p ∷ digits_at ps ps) (digits_at ps ps) x))) h.1 in
          let is : filled (p ∷ ps) (d ∷ ds) ≡ d ∷ filled ps ds = cond-true _ _ _ x in
          let digit : as_shape p d ≡ true = cond-true _ _ _ x ∙ lt-ltb _ _ h.0 in
          (ap (fits (p ∷ ps)) is ∙ fits-cons p d ps _ digit rest.0, ap (digits_at (p ∷ ps)) is ∙ cond-true _ _ _ x ∙ ap (λ l. d ∷ l) rest.1)
      | inr o ↦
          let rest = in-shape ps (d ∷ ds) (e ∙ ap length (cond-false _ _ _ o)) h in
          let is : filled (p ∷ ps) (d ∷ ds) ≡ p ∷ filled ps (d ∷ ds) = cond-false _ _ _ o in
          (ap (fits (p ∷ ps)) is ∙ fits-cons p p ps _ (as-self p o) rest.0, ap (digits_at (p ∷ ps)) is ∙ cond-false _ _ _ o ∙ rest.1)
    ]

out-of-shape : (ps bs : List ℕ) → plains ps ≡ true → fits ps bs ≡ true → map to_ascii_uppercase bs ≡ filled ps (map to_ascii_uppercase (digits_at ps bs))
out-of-shape [] [] h t = refl
out-of-shape [] (b ∷ bs) h t = absurd (false≢true t)
out-of-shape (p ∷ ps) [] h t = absurd (false≢true t)
out-of-shape (p ∷ ps) (b ∷ bs) h t =
    let rest = out-of-shape ps bs (and_parts _ _ h).1 (and_parts _ _ t).1 in
    elim (cases_Bool (eqb p 120)) [
      | inl x ↦
          let is : filled (p ∷ ps) (to_ascii_uppercase b ∷ map to_ascii_uppercase (digits_at ps bs)) ≡ to_ascii_uppercase b ∷ filled ps (map to_ascii_uppercase (digits_at ps bs)) = cond-true _ _ _ x in
          ap (λ l. to_ascii_uppercase b ∷ l) rest ∙ sym is ∙ sym (ap (λ l. filled (p ∷ ps) (map to_ascii_uppercase l)) (cond-true _ _ _ x))
      | inr o ↦
          let same : b ≡ p = eqb-true b p (sym (cond-false _ _ _ o) ∙ (and_parts _ _ t).0) in
          let first : to_ascii_uppercase b ≡ p = ap to_ascii_uppercase same ∙ upper-plain p (and_parts _ _ h).0 o in
          (λ j. first j ∷ rest j) ∙ sym (filled-other p ps _ o) ∙ sym (ap (λ l. filled (p ∷ ps) (map to_ascii_uppercase l)) (cond-false _ _ _ o))
    ]

-- the digits of a number

pub length-hexes : (k n : ℕ) → length (hexes k n) ≡ k
unfolding hexes
length-hexes zero n = refl
length-hexes (suc k) n = length_push (hexes k (n / 16)) _ ∙ omega (arith, length-hexes k (n / 16))

pub digits-hexes : (k n : ℕ) → AllDigits 16 (hexes k n)
unfolding hexes
digits-hexes zero n = tt
digits-hexes (suc k) n = digits_push 16 (hexes k (n / 16)) _ (digits-hexes k (n / 16)) (omega (arith, hex-value (n % 16) (omega arith)))

pub value-hexes : (k n : ℕ) → n < 16 ^ k → digits_value 16 (hexes k n) ≡ n
unfolding hexes
value-hexes zero n h = omega arith
value-hexes (suc k) n h =
    let front = value-hexes k (n / 16) (omega (arith, pow-suc 16 k)) in
    digits_value_push 16 (hexes k (n / 16)) _ ∙ omega (arith, front, hex-value (n % 16) (omega arith))

digits-parts : (ds : List ℕ) (d : ℕ) → AllDigits 16 (ds ++ d ∷ []) → AllDigits 16 ds × (digit_value d < 16)
digits-parts [] d h = (tt, h.0)
digits-parts (c ∷ cs) d h = let rest = digits-parts cs d h.1 in ((h.0, rest.0), rest.1)

hexes-value : (k : ℕ) (ds : List ℕ) → length ds ≡ k → AllDigits 16 ds → hexes k (digits_value 16 ds) ≡ map to_ascii_uppercase ds
unfolding hexes
hexes-value zero [] e h = refl
hexes-value zero (d ∷ ds) e h = absurd (omega arith)
hexes-value (suc k) ds e h =
    let front = take k ds in
    let last = get_or ds k 0 in
    let one : k + 1 ≡ suc k = omega arith in
    let split : ds ≡ front ++ last ∷ [] = sym (take_all (k + 1) ds (omega arith)) ∙ take_more ds k 0 (omega arith) in
    let both-are = digits-parts front last (subst (AllDigits 16) split h) in
    let v : digits_value 16 ds ≡ digits_value 16 front * 16 + digit_value last = ap (digits_value 16) split ∙ digits_value_push 16 front last in
    let small = both-are.1 in
    let high : digits_value 16 ds / 16 ≡ digits_value 16 front = omega arith in
    let low : digits_value 16 ds % 16 ≡ digit_value last = omega arith in
    let more = hexes-value k front (length-take k ds ∙ omega arith) both-are.0 in
    (λ j. hexes k (high j) ++ hex_digit (low j) ∷ []) ∙ (λ j. more j ++ hex-upper last small j ∷ []) ∙ sym (map_push to_ascii_uppercase front last) ∙ sym (ap (map to_ascii_uppercase) split)

-- an id

part-read : (ps : List ℕ) (n : ℕ) → length (digits_at ps ps) ≡ 16 → part_of ps (filled ps (hexes 16 n)) ≡ Some (digits_value 16 (hexes 16 n))
part-read ps n e =
    let put = in-shape ps (hexes 16 n) (length-hexes 16 n ∙ sym e) (digits-hexes 16 n) in
    cond-true _ _ _ put.0 ∙ ap (λ l. Some (digits_value 16 l)) put.1

id-read : (id : SessionId) → id_of (id_text id) ≡ Some (record { site = digits_value 16 (hexes 16 id.site); serial = digits_value 16 (hexes 16 id.serial) })
unfolding id_of id_text
id-read id =
    let front = filled site_shape (hexes 16 id.site) in
    let back = filled serial_shape (hexes 16 id.serial) in
    let long : length front ≡ 19 = length-filled site_shape (hexes 16 id.site) in
    (λ j. both (part_of site_shape (take_at front back 19 long j)) (part_of serial_shape (drop_at front back 19 long j)))
    ∙ (λ j. both (part-read site_shape id.site refl j) (part-read serial_shape id.serial refl j))

pub length-id : (id : SessionId) → length (id_text id) ≡ 38
unfolding id_text
length-id id =
    length-append (filled site_shape (hexes 16 id.site)) (filled serial_shape (hexes 16 id.serial))
    ∙ (λ j. length-filled site_shape (hexes 16 id.site) j + length-filled serial_shape (hexes 16 id.serial) j)

pub id-again : (id : SessionId) → InRange id → id_of (id_text id) ≡ Some id
id-again id h = id-read id ∙ (λ j. Some (record { site = value-hexes 16 id.site h.0 j; serial = value-hexes 16 id.serial h.1 j }))

id-apart : (id other : SessionId) → InRange id → InRange other → id_text id ≡ id_text other → id ≡ other
id-apart id other h k e = some_inj (sym (id-again id h) ∙ ap id_of e ∙ id-again other k)

part-found : (ps bs : List ℕ) (n : ℕ) → plains ps ≡ true → length (digits_at ps ps) ≡ 16 → part_of ps bs ≡ Some n → map to_ascii_uppercase bs ≡ filled ps (hexes 16 n)
part-found ps bs n h e r =
    elim (cases_Bool (fits ps bs)) [
      | inl t ↦
          let is : digits_value 16 (digits_at ps bs) ≡ n = some_inj (sym (cond-true _ _ _ t) ∙ r) in
          out-of-shape ps bs h t ∙ ap (filled ps) (sym (hexes-value 16 (digits_at ps bs) (digits_long ps bs t ∙ e) (digits_are ps bs t)) ∙ ap (hexes 16) is)
      | inr f ↦ absurd (none-some n (sym (cond-false _ _ _ f) ∙ r))
    ]

both_found : (x y : Option ℕ) (id : SessionId) → both x y ≡ Some id → (x ≡ Some id.site) × (y ≡ Some id.serial)
both_found None y id e = absurd (none-some id e)
both_found (Some a) None id e = absurd (none-some id e)
both_found (Some a) (Some b) id e =
    let same = some_inj e in
    (ap (λ (i : SessionId). Some i.site) same, ap (λ (i : SessionId). Some i.serial) same)

id-found : (s : List ℕ) (id : SessionId) → id_of s ≡ Some id → map to_ascii_uppercase s ≡ id_text id
unfolding id_of id_text
id-found s id e =
    let parts = both_found (part_of site_shape (take 19 s)) (part_of serial_shape (drop 19 s)) id e in
    let front = part-found site_shape (take 19 s) id.site refl refl parts.0 in
    let back = part-found serial_shape (drop 19 s) id.serial refl refl parts.1 in
    ap (map to_ascii_uppercase) (sym (take-append-drop 19 s)) ∙ map-append to_ascii_uppercase (take 19 s) (drop 19 s) ∙ (λ j. front j ++ back j)

exact-at : (s : List ℕ) (r : Option SessionId) → r ≡ id_of s → MatchOption r ((id : SessionId) → map to_ascii_uppercase s ≡ id_text id → ⊥) (λ id. map to_ascii_uppercase s ≡ id_text id)
exact-at s None e = λ id w. none-some _ (e ∙ sym (id-upper s) ∙ ap id_of w ∙ id-read id)
exact-at s (Some id) e = id-found s id (sym e)

pub reads-id : (s : List ℕ) (r : Option SessionId) → r ≡ id_of s → ReadsId s r
reads-id s r e = record {
  exact = exact-at s r e;
  caseless = λ t same. id-caseless s t same ∙ sym e;
  again = λ id h w. e ∙ ap id_of w ∙ id-again id h;
  apart = λ id other h k w v. id-apart id other h k (sym w ∙ v);
}

-- the last digits of a number, after those before them
pub hexes-split : (m k j n : ℕ) → j ≡ m + k → hexes j n ≡ hexes m (n / 16 ^ k) ++ hexes k n
unfolding hexes
hexes-split m zero j n e =
    let same : j ≡ m = omega arith in
    let whole : n ≡ n / 1 = omega arith in
    (λ i. hexes (same i) (whole i)) ∙ sym (append-nil (hexes m (n / 1)))
hexes-split m (suc k) zero n e = absurd (omega arith)
hexes-split m (suc k) (suc j) n e =
    let deep : n / 16 / 16 ^ k ≡ n / 16 ^ suc k = div-div-eq-div-mul n 16 (16 ^ k) ∙ ap (λ d. n / d) (mul_comm 16 (16 ^ k) ∙ sym (pow-suc 16 k)) in
    let front = hexes-split m k j (n / 16) (omega arith) in
    ap (λ l. l ++ hex_digit (n % 16) ∷ []) (front ∙ ap (λ q. hexes m q ++ hexes k (n / 16)) deep) ∙ append_assoc (hexes m (n / 16 ^ suc k)) (hexes k (n / 16)) _
