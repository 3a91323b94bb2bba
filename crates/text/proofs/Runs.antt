-- The bytes at the front of a list that pass a test, and what is left when outer blanks are cut.
use Rattle.std.proofs.Common.{◌≡◌, ℕ, zero, suc, ◌+◌, ◌-◌, ◌≤◌, Bool, true, false, cond, ◌&&◌, eqb, List, [], ◌∷◌, ◌++◌, reverse, length, get_or, take, drop, sym, refl, ap, ◌∙◌, subst, inl, inr, one-add, arith, length-append, length-drop, not, ltb, Some, None, Option, unwrap_or}
use Rattle.std.proofs.lemmas.List.{take-append-drop, take_at, drop_at, drop_all, get_or-drop, get_or-take, get_or-reverse, get_or_past, length-reverse, length-take-le, reverse-append, reverse-reverse}
use Rattle.std.proofs.lemmas.List.Sums.{suffix_len-le-length, prefix_len-le-length}
use Rattle.std.proofs.lemmas.Grind.{common_steps}
use Rattle.std.proofs.Math.Bool.{not-not}
use Rattle.std.proofs.lemmas.Bool.{eq-eqb, ne_eqb, eqb-true, eqb-false, cond-true, cond-false, and_parts, and_from, cases_lt}
use Rattle.std.specs.List.{prefix_len, suffix_len, list_all, position_or_len}
use Rattle.text.specs.Bytes.{blank}
use Rattle.text.specs.Words.{trim_front, trim_end, trimmed}

same_step : (m n : ℕ) → eqb (1 + m) (suc n) ≡ eqb m n
same_step m n = elim (eqb m n) as (λ v. eqb m n ≡ v → eqb (1 + m) (suc n) ≡ v) [
  | true ↦ λ e. eq-eqb (1 + m) (suc n) (omega (arith, eqb-true m n e))
  | false ↦ λ e. ne_eqb (1 + m) (suc n) (λ h. eqb-false m n e (omega arith))
] refl

pub all-is : (p : ℕ → Bool) (s : List ℕ) → eqb (prefix_len p s) (length s) ≡ list_all p s
all-is p [] = refl
all-is p (b ∷ bs) = elim (p b) as (λ v. eqb (cond v (1 + prefix_len p bs) 0) (suc (length bs)) ≡ (v && list_all p bs)) [
  | true ↦ same_step (prefix_len p bs) (length bs) ∙ all-is p bs
  | false ↦ ne_eqb 0 (suc (length bs)) (λ h. omega arith)
]

cut_or : (k n : ℕ) → k ≤ n → unwrap_or (cond (ltb k n) (Some k) None) n ≡ k
cut_or k n h = grind (arith, common_steps)

-- the first byte that does not pass, or the end
pub leading-position : (p : ℕ → Bool) (s : List ℕ) (o : Option ℕ) (r : ℕ) → r ≡ unwrap_or o (length s) → o ≡ cond (ltb (position_or_len (λ b. not (p b)) s) (length s)) (Some (position_or_len (λ b. not (p b)) s)) None → r ≡ prefix_len p s
leading-position p s o r e first =
    let k = position_or_len (λ b. not (p b)) s in
    e
    ∙ ap (λ q. unwrap_or q (length s)) first
    ∙ cut_or k (length s) (prefix_len-le-length _ s)
    ∙ ap (λ q. prefix_len q s) (λ j b. not-not (p b) j)

-- a front of which every byte passes
pub leading-append : (p : ℕ → Bool) (a s : List ℕ) → list_all p a ≡ true → prefix_len p (a ++ s) ≡ length a + prefix_len p s
leading-append p [] s h = omega arith
leading-append p (b ∷ bs) s h =
    let q = and_parts (p b) (list_all p bs) h in
    cond-true (p b) (1 + prefix_len p (bs ++ s)) 0 q.0 ∙ omega (arith, leading-append p bs s q.1)

-- a front that stops at once
pub leading-none : (p : ℕ → Bool) (s : List ℕ) → p (get_or s 0 0) ≡ false → prefix_len p s ≡ 0
leading-none p [] h = refl
leading-none p (b ∷ bs) h = cond-false (p b) (1 + prefix_len p bs) 0 h

pub leading-all : (p : ℕ → Bool) (s : List ℕ) → list_all p (take (prefix_len p s) s) ≡ true
leading-all p [] = refl
leading-all p (b ∷ bs) = elim (p b) as (λ v. p b ≡ v → list_all p (take (cond v (1 + prefix_len p bs) 0) (b ∷ bs)) ≡ true) [
  | true ↦ λ e. ap (λ n. list_all p (take n (b ∷ bs))) (one-add (prefix_len p bs)) ∙ and_from (p b) (list_all p (take (prefix_len p bs) bs)) e (leading-all p bs)
  | false ↦ λ e. refl
] refl

-- the byte behind it does not pass, nor does 0, which stands for the end
pub leading-stops : (p : ℕ → Bool) (s : List ℕ) → p 0 ≡ false → p (get_or s (prefix_len p s) 0) ≡ false
leading-stops p [] h = h
leading-stops p (b ∷ bs) h = elim (p b) as (λ v. p b ≡ v → p (get_or (b ∷ bs) (cond v (1 + prefix_len p bs) 0) 0) ≡ false) [
  | true ↦ λ e. ap (λ n. p (get_or (b ∷ bs) n 0)) (one-add (prefix_len p bs)) ∙ leading-stops p bs h
  | false ↦ λ e. e
] refl

pub all_append : (p : ℕ → Bool) (a b : List ℕ) → list_all p a ≡ true → list_all p b ≡ true → list_all p (a ++ b) ≡ true
all_append p [] b h k = k
all_append p (x ∷ a) b h k =
    let q = and_parts (p x) (list_all p a) h in
    and_from (p x) (list_all p (a ++ b)) q.0 (all_append p a b q.1 k)

pub all_front : (p : ℕ → Bool) (a b : List ℕ) → list_all p (a ++ b) ≡ true → list_all p a ≡ true
all_front p [] b h = refl
all_front p (x ∷ a) b h =
    let q = and_parts (p x) (list_all p (a ++ b)) h in
    and_from (p x) (list_all p a) q.0 (all_front p a b q.1)

pub all_rest : (p : ℕ → Bool) (a b : List ℕ) → list_all p (a ++ b) ≡ true → list_all p b ≡ true
all_rest p [] b h = h
all_rest p (x ∷ a) b h = all_rest p a b (and_parts (p x) (list_all p (a ++ b)) h).1

pub all-weaker : (p q : ℕ → Bool) (s : List ℕ) → ((b : ℕ) → p b ≡ true → q b ≡ true) → list_all p s ≡ true → list_all q s ≡ true
all-weaker p q [] w h = refl
all-weaker p q (b ∷ bs) w h =
    let r = and_parts (p b) (list_all p bs) h in
    and_from (q b) (list_all q bs) (w b r.0) (all-weaker p q bs w r.1)

pub all-reverse : (p : ℕ → Bool) (s : List ℕ) → list_all p s ≡ true → list_all p (reverse s) ≡ true
all-reverse p [] h = refl
all-reverse p (b ∷ bs) h =
    let r = and_parts (p b) (list_all p bs) h in
    subst (λ l. list_all p l ≡ true) (sym (reverse-append (b ∷ []) bs)) (all_append p (reverse bs) (b ∷ []) (all-reverse p bs r.1) (and_from (p b) true r.0 refl))

-- a reversed list begins with its end
take-reverse : (k : ℕ) (s : List ℕ) → k ≤ length s → take k (reverse s) ≡ reverse (drop (length s - k) s)
take-reverse k s h =
    let m = length s - k in
    let long : length (reverse (drop m s)) ≡ k = length-reverse (drop m s) ∙ (length-drop m s ∙ omega arith) in
    ap (λ l. take k (reverse l)) (sym (take-append-drop m s)) ∙ ap (take k) (reverse-append (take m s) (drop m s)) ∙ take_at (reverse (drop m s)) (reverse (take m s)) k long

pub trim-is : (before value after : List ℕ) → list_all blank before ≡ true → list_all blank after ≡ true → blank (get_or value 0 0) ≡ false → blank (get_or value (length value - 1) 0) ≡ false → trimmed (before ++ (value ++ after)) ≡ value
unfolding trimmed
trim-is before [] after b a f l =
    let n = leading-append blank before after b ∙ ap (λ m. length before + m) (eqb-true (prefix_len blank after) (length after) (all-is blank after ∙ a)) in
    ap trim_end (drop_all (prefix_len blank (before ++ after)) (before ++ after) (omega (arith, length-append before after, n)))
trim-is before (x ∷ xs) after b a f l =
    let v = x ∷ xs in
    let n = leading-append blank before (v ++ after) b ∙ ap (λ m. length before + m) (leading-none blank (v ++ after) f) in
    let here : trim_front (before ++ (v ++ after)) ≡ v ++ after = drop_at before (v ++ after) (prefix_len blank (before ++ (v ++ after))) (omega (arith, n)) in
    let same : length v - 1 - 0 ≡ length v - 1 = omega arith in
    let last_of : blank (get_or (reverse v) 0 0) ≡ false = ap blank (get_or-reverse v 0 0 (omega arith)) ∙ (ap (λ j. blank (get_or v j 0)) same ∙ l) in
    let k : suffix_len blank (v ++ after) ≡ length after = ap (prefix_len blank) (reverse-append v after) ∙ (leading-append blank (reverse after) (reverse v) (all-reverse blank after a) ∙ omega (arith, length-reverse after, leading-none blank (reverse v) last_of)) in
    ap trim_end here ∙ take_at v after (length (v ++ after) - suffix_len blank (v ++ after)) (omega (arith, k, length-append v after))

-- what was cut
pub record Cut (s : List ℕ) : Type 0 where
  pub before : List ℕ
  pub after : List ℕ
  pub is : s ≡ before ++ (trimmed s ++ after)
  pub blanks-before : list_all blank before ≡ true
  pub blanks-after : list_all blank after ≡ true
  pub first : blank (get_or (trimmed s) 0 0) ≡ false
  pub last : blank (get_or (trimmed s) (length (trimmed s) - 1) 0) ≡ false

front_of : (m : ℕ) (s : List ℕ) → blank (get_or s 0 0) ≡ false → blank (get_or (take m s) 0 0) ≡ false
front_of zero s h = refl
front_of (suc m) [] h = refl
front_of (suc m) (x ∷ xs) h = h

pub trim-cut : (s : List ℕ) → Cut s
unfolding trimmed
trim-cut s =
    let n = prefix_len blank s in
    let rest = drop n s in
    let k = suffix_len blank rest in
    let few = suffix_len-le-length blank rest in
    let m = length rest - k in
    let last_one : blank (get_or (take m rest) (length (take m rest) - 1) 0) ≡ false = elim (cases_lt 0 m) [
      | inl h ↦
          let long = length-take-le m rest (omega arith) in
          let at : length (take m rest) - 1 ≡ length rest - 1 - k = omega (arith, long) in
          ap blank (ap (λ j. get_or (take m rest) j 0) at ∙ get_or-take m rest (length rest - 1 - k) 0 (omega arith) ∙ sym (get_or-reverse rest k 0 (omega arith))) ∙ leading-stops blank (reverse rest) refl
      | inr h ↦ ap blank (get_or_past (take m rest) (length (take m rest) - 1) 0 (omega (arith, length-take-le m rest (omega arith))))
    ] in
    record {
      before = take n s;
      after = drop m rest;
      is = sym (take-append-drop n s) ∙ ap (λ l. take n s ++ l) (sym (take-append-drop m rest));
      blanks-before = leading-all blank s;
      blanks-after = subst (λ l. list_all blank l ≡ true) (reverse-reverse (drop m rest)) (all-reverse blank (reverse (drop m rest)) (subst (λ l. list_all blank l ≡ true) (take-reverse k rest few) (leading-all blank (reverse rest))));
      first = front_of m rest (ap blank (get_or-drop n s 0 0) ∙ ap (λ j. blank (get_or s j 0)) (omega arith) ∙ leading-stops blank s refl);
      last = last_one;
    }
