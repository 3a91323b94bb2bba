-- A value is a range exactly where it is written as one.
use Rattle.std.proofs.Common.{◌≡◌, ℕ, ◌+◌, ◌<◌, Bool, true, false, cond, ◌&&◌, eqb, ltb, leb, List, [], ◌∷◌, ◌++◌, map, length, get_or, take, drop, Some, None, codes, Option, sym, refl, ap, ◌∙◌, append_assoc, arith, length-append}
use Rattle.std.proofs.lemmas.Slice.Eq.{bytes_eq-Decides}
use Rattle.std.proofs.lemmas.List.{take-append-drop, take_at, drop_at, drop_more, get_or_at, length_push, length-map, length-take-le}
use Rattle.std.proofs.lemmas.Bool.{and_parts, and_from, ltb-true, lt-ltb, leb-true, le-leb, eqb-true, eq-eqb, ne_eqb, or_from, cond-true}
use Rattle.std.proofs.lemmas.List.Sums.{prefix_len-le-length}
use Rattle.std.specs.Char.{is_ascii_digit, to_ascii_lowercase}
use Rattle.std.specs.Str.Parse.{digits_value}
use Rattle.std.specs.List.{prefix_len, list_all}
use Rattle.std.specs.Str.{all_ascii_digits}
use Rattle.text.specs.Bytes.{blank}
use Rattle.text.specs.Words.{same_letters}
use Rattle.text.specs.Numbers.{writes_number, decimal_of}
use Rattle.text.proofs.Runs.{leading-append, leading-none, leading-all}
use Rattle.packet.specs.declared.ranges.Range.{Range}
use Rattle.packet.specs.Ranges.{Rest, with_rest, cut_at, before_mark, total_of, last_of, first_of, span_of, after_blanks, range_of}
use Rattle.packet.specs.Forms.{RangeText}

pub cond-some : {A : Type 0} (b : Bool) (x : Option A) (e : A) → cond b x None ≡ Some e → (b ≡ true) × (x ≡ Some e)
cond-some true x e h = (refl, h)
cond-some false x e h = absurd (let z : ◌≡◌ {A = ℕ} 0 1 = cc in omega arith)

-- a number is made of digits, and of one at least
digits-all : (s : List ℕ) → all_ascii_digits s ≡ true → list_all is_ascii_digit s ≡ true
digits-all [] h = refl
digits-all (b ∷ s) h = let p = and_parts (is_ascii_digit b) (all_ascii_digits s) h in and_from (is_ascii_digit b) (list_all is_ascii_digit s) p.0 (digits-all s p.1)

number_digits : (s : List ℕ) (n : ℕ) → decimal_of s ≡ Some n → (0 < length s) × (list_all is_ascii_digit s ≡ true)
unfolding decimal_of
number_digits s n e =
    let p = cond-some (writes_number s) (Some (digits_value 10 s)) n e in
    let q = and_parts (leb 1 (length s)) (leb (length s) 19 && all_ascii_digits s) p.0 in
    (leb-true 1 (length s) q.0, digits-all s (and_parts (leb (length s) 19) (all_ascii_digits s) q.1).1)

rest-is : (o : Option ℕ) (s : List ℕ) (r : Rest) → with_rest o s ≡ Some r → (o ≡ Some r.number) × (s ≡ r.rest)
rest-is None s r e = absurd (let z : ◌≡◌ {A = ℕ} 0 1 = cc in omega arith)
rest-is (Some n) s r e =
    let same : record { number = n; rest = s } ≡ r = cc in
    (ap (λ x. Some x.number) same, ap (λ x. x.rest) same)

before-sound : (mark : ℕ) (s : List ℕ) (r : Rest) → before_mark mark s ≡ Some r → (a : List ℕ) × (s ≡ a ++ (mark ∷ r.rest)) × (decimal_of a ≡ Some r.number)
unfolding before_mark
before-sound mark s r e =
    let n = prefix_len is_ascii_digit s in
    let p = cond-some (ltb n (length s) && eqb (get_or s n 0) mark) (with_rest (decimal_of (take n s)) (drop (n + 1) s)) r e in
    let q = and_parts (ltb n (length s)) (eqb (get_or s n 0) mark) p.0 in
    let w = rest-is (decimal_of (take n s)) (drop (n + 1) s) r p.1 in (
      take n s,
      sym (take-append-drop n s) ∙ ap (λ l. take n s ++ l) (drop_more s n 0 (ltb-true n (length s) q.0) ∙ ap (λ b. b ∷ drop (n + 1) s) (eqb-true (get_or s n 0) mark q.1) ∙ ap (λ l. mark ∷ l) w.1),
      w.0,
    )

before-complete : (mark : ℕ) (a rest : List ℕ) (n : ℕ) → is_ascii_digit mark ≡ false → decimal_of a ≡ Some n → before_mark mark (a ++ (mark ∷ rest)) ≡ Some (record { number = n; rest = rest })
unfolding before_mark
before-complete mark a rest n other e =
    let s = a ++ (mark ∷ rest) in
    let long : prefix_len is_ascii_digit s ≡ length a = leading-append is_ascii_digit a (mark ∷ rest) (number_digits a n e).1 ∙ omega (arith, leading-none is_ascii_digit (mark ∷ rest) other) in
    ap (λ k. cut_at k mark s) long
    ∙ cond-true _ _ _ (and_from _ _ (lt-ltb (length a) (length s) (omega (arith, length-append a (mark ∷ rest)))) (eq-eqb (get_or s (length a) 0) mark (get_or_at a mark rest 0 (length a) refl)))
    ∙ ap (λ l. with_rest (decimal_of l) (drop (length a + 1) s)) (take_at a (mark ∷ rest) (length a) refl)
    ∙ ap (λ l. with_rest (decimal_of a) l) (ap (drop (length a + 1)) (sym (append_assoc a (mark ∷ []) rest)) ∙ drop_at (a ++ mark ∷ []) rest (length a + 1) (length_push a mark))
    ∙ ap (λ o. with_rest o rest) e

total-is : (a b : ℕ) (o : Option ℕ) (r : Range) → total_of a b o ≡ Some r → (a ≡ r.first) × (b ≡ r.last) × (o ≡ Some r.total)
total-is a b None r e = absurd (let z : ◌≡◌ {A = ℕ} 0 1 = cc in omega arith)
total-is a b (Some t) r e =
    let same : record { first = a; last = b; total = t } ≡ r = cc in
    (ap (λ x. x.first) same, ap (λ x. x.last) same, ap (λ x. Some x.total) same)

last-is : (a : ℕ) (o : Option Rest) (r : Range) → last_of a o ≡ Some r → (p : Rest) × (o ≡ Some p) × (total_of a p.number (decimal_of p.rest) ≡ Some r)
last-is a None r e = absurd (let z : ◌≡◌ {A = ℕ} 0 1 = cc in omega arith)
last-is a (Some p) r e = (p, refl, e)

first-is : (o : Option Rest) (r : Range) → first_of o ≡ Some r → (p : Rest) × (o ≡ Some p) × (last_of p.number (before_mark 47 p.rest) ≡ Some r)
first-is None r e = absurd (let z : ◌≡◌ {A = ℕ} 0 1 = cc in omega arith)
first-is (Some p) r e = (p, refl, e)

record SpanText (s : List ℕ) (r : Range) : Type 0 where
  a : List ℕ
  b : List ℕ
  t : List ℕ
  is : s ≡ a ++ (45 ∷ (b ++ (47 ∷ t)))
  from : decimal_of a ≡ Some r.first
  to : decimal_of b ≡ Some r.last
  of : decimal_of t ≡ Some r.total

span-sound : (s : List ℕ) (r : Range) → span_of s ≡ Some r → SpanText s r
unfolding span_of
span-sound s r e =
    let f = first-is (before_mark 45 s) r e in
    let l = last-is f.0.number (before_mark 47 f.0.rest) r f.2 in
    let t = total-is f.0.number l.0.number (decimal_of l.0.rest) r l.2 in
    let p = before-sound 45 s f.0 f.1 in
    let q = before-sound 47 f.0.rest l.0 l.1 in
    record {
      a = p.0;
      b = q.0;
      t = l.0.rest;
      is = p.1 ∙ ap (λ x. p.0 ++ (45 ∷ x)) q.1;
      from = p.2 ∙ ap Some t.0;
      to = q.2 ∙ ap Some t.1;
      of = t.2;
    }

span-complete : (a b t : List ℕ) (r : Range) → decimal_of a ≡ Some r.first → decimal_of b ≡ Some r.last → decimal_of t ≡ Some r.total → span_of (a ++ (45 ∷ (b ++ (47 ∷ t)))) ≡ Some r
unfolding span_of
span-complete a b t r x y z =
    ap first_of (before-complete 45 a (b ++ (47 ∷ t)) r.first refl x)
    ∙ ap (last_of r.first) (before-complete 47 b t r.last refl y)
    ∙ ap (total_of r.first r.last) z

pub range-sound : (v : List ℕ) (r : Range) → range_of v ≡ Some r → RangeText v r
unfolding range_of
range-sound v r e =
    let rest = drop 5 v in
    let n = prefix_len blank rest in
    let p = cond-some (same_letters (take 5 v) (codes "bytes")) (after_blanks n rest) r e in
    let q = cond-some (leb 1 n) (span_of (drop n rest)) r p.1 in
    let s = span-sound (drop n rest) r q.1 in
    let n-some = leb-true 1 n q.0 in
    record {
      word = take 5 v;
      gap = take n rest;
      a = s.a;
      b = s.b;
      t = s.t;
      is = sym (take-append-drop 5 v) ∙ ap (λ l. take 5 v ++ l) (sym (take-append-drop n rest) ∙ ap (λ l. take n rest ++ l) s.is);
      unit = p.0;
      parted = omega (arith, length-take-le n rest (prefix_len-le-length blank rest));
      blanks = leading-all blank rest;
      from = s.from;
      to = s.to;
      of = s.of;
    }

-- no digit is a blank
digit-first : (a rest : List ℕ) (n : ℕ) → decimal_of a ≡ Some n → prefix_len blank (a ++ rest) ≡ 0
digit-first [] rest n e = absurd (omega (arith, (number_digits [] n e).0))
digit-first (x ∷ a) rest n e =
    let d = (and_parts (is_ascii_digit x) (list_all is_ascii_digit a) (number_digits (x ∷ a) n e).1).0 in
    let low = leb-true 48 x (and_parts (leb 48 x) (leb x 57) d).0 in
    leading-none blank (x ∷ (a ++ rest)) (or_from (eqb x 32) (eqb x 9) (ne_eqb x 32 (λ h. omega arith)) (ne_eqb x 9 (λ h. omega arith)))

word-long : (w : List ℕ) → same_letters w (codes "bytes") ≡ true → length w ≡ 5
unfolding same_letters
word-long w e = sym (length-map w to_ascii_lowercase) ∙ ap length ((bytes_eq-Decides (map to_ascii_lowercase w) (map to_ascii_lowercase (codes "bytes"))).0 e)

pub range-complete : (v : List ℕ) (r : Range) → RangeText v r → range_of v ≡ Some r
unfolding range_of
range-complete v r f =
    let span = f.a ++ (45 ∷ (f.b ++ (47 ∷ f.t))) in
    let rest = f.gap ++ span in
    let five = word-long f.word f.unit in
    let word-is : take 5 v ≡ f.word = ap (take 5) f.is ∙ take_at f.word rest 5 five in
    let rest-is' : drop 5 v ≡ rest = ap (drop 5) f.is ∙ drop_at f.word rest 5 five in
    let long : prefix_len blank rest ≡ length f.gap = leading-append blank f.gap span f.blanks ∙ omega (arith, digit-first f.a (45 ∷ (f.b ++ (47 ∷ f.t))) r.first f.from) in
    cond-true _ _ _ (ap (λ w. same_letters w (codes "bytes")) word-is ∙ f.unit)
    ∙ ap (λ l. after_blanks (prefix_len blank l) l) rest-is'
    ∙ ap (λ n. after_blanks n rest) long
    ∙ cond-true _ _ _ (le-leb 1 (length f.gap) f.parted)
    ∙ ap span_of (drop_at f.gap span (length f.gap) refl)
    ∙ span-complete f.a f.b f.t r f.from f.to f.of
