-- A line read by its bytes, without first looking for its end.
use Rattle.std.proofs.Common.{◌≡◌, ℕ, zero, suc, ◌+◌, ◌<◌, ◌≤◌, Bool, true, false, cond, ◌&&◌, eqb, leb, List, [], ◌∷◌, ◌++◌, length, get_or, take, drop, Some, None, sym, refl, ap, ◌∙◌, subst, inl, inr, one-add, arith}
use Rattle.std.proofs.lemmas.List.{drop-take, get_or-take, get_or_past, length-take-le}
use Rattle.std.proofs.lemmas.Bool.{cases_lt, cases_Bool, eq-eqb, ne_eqb, and_from, and_left, and_right, cond-true, cond-false, true≢false, le-leb, lt-leb}
use Rattle.std.proofs.lemmas.Bool.Decides.{nat_tests}
use Rattle.std.specs.List.{prefix_len, list_all}
use Rattle.text.specs.Bytes.{token_byte, value_byte, blank}
use Rattle.text.specs.Words.{trimmed}
use Rattle.text.proofs.Runs.{all-is, leading-all, all_append, all_front, all_rest, all-weaker, trim-cut}
use Rattle.head.specs.Marks.{front, line_end, line_length}
use Rattle.head.specs.Lines.{valued, named_to, field_of}
use Rattle.head.specs.Loops.{first_line, ends_here}
use Rattle.head.proofs.Fronts.{line_other}

pub line-le : (s : List ℕ) → line_length s ≤ length s
line-le [] = omega arith
line-le (b ∷ bs) = elim (front line_end (b ∷ bs)) as (λ v. cond v 0 (1 + line_length bs) ≤ length (b ∷ bs)) [
  | true ↦ omega arith
  | false ↦ omega (arith, line-le bs)
]

-- bytes among which is no 13 come before the line end
line-past : (p : ℕ → Bool) (s : List ℕ) → p 13 ≡ false → line_length s ≡ prefix_len p s + line_length (drop (prefix_len p s) s)
line-past p [] no' = refl
line-past p (b ∷ bs) no' = elim (p b) as (λ v. p b ≡ v → line_length (b ∷ bs) ≡ cond v (1 + prefix_len p bs) 0 + line_length (drop (cond v (1 + prefix_len p bs) 0) (b ∷ bs))) [
  | true ↦ λ e.
      let other = and_left (eqb b 13) (front (10 ∷ []) bs) (ne_eqb b 13 (λ h. true≢false (sym e ∙ ap p h ∙ no'))) in
      let same = ap (λ n. line_length (drop n (b ∷ bs))) (one-add (prefix_len p bs)) in
      cond-false _ _ _ other ∙ omega (arith, same, line-past p bs no')
  | false ↦ λ e. omega arith
] refl

abbrev none : List ℕ
none = []

take_none : (m : ℕ) → take m none ≡ none
take_none zero = refl
take_none (suc m) = refl

leading-take : (p : ℕ → Bool) (s : List ℕ) (k : ℕ) → prefix_len p (take (prefix_len p s + k) s) ≡ prefix_len p s
leading-take p [] k = ap (prefix_len p) (take_none (0 + k))
leading-take p (b ∷ bs) k = elim (p b) as (λ v. p b ≡ v → prefix_len p (take (cond v (1 + prefix_len p bs) 0 + k) (b ∷ bs)) ≡ cond v (1 + prefix_len p bs) 0) [
  | true ↦ λ e.
      let same : 1 + prefix_len p bs + k ≡ suc (prefix_len p bs + k) = omega arith in
      ap (λ n. prefix_len p (take n (b ∷ bs))) same ∙ cond-true _ _ _ e ∙ ap (λ n. 1 + n) (leading-take p bs k)
  | false ↦ λ e. let same : 0 + k ≡ k = omega arith in ap (λ n. prefix_len p (take n (b ∷ bs))) same ∙ stops k e
] refl where
  stops : (m : ℕ) → p b ≡ false → prefix_len p (take m (b ∷ bs)) ≡ 0
  stops zero e = refl
  stops (suc m) e = cond-false _ _ _ e

take-take : (n k : ℕ) (s : List ℕ) → take n (take (n + k) s) ≡ take n s
take-take zero k s = refl
take-take (suc n) k [] = ap (take (suc n)) (take_none (suc n + k))
take-take (suc n) k (b ∷ bs) =
    let same : suc n + k ≡ suc (n + k) = omega arith in
    ap (λ m. take (suc n) (take m (b ∷ bs))) same ∙ ap (λ l. b ∷ l) (take-take n k bs)

get_or-cut : (m n : ℕ) (s : List ℕ) → get_or (take m s) n 0 ≡ 58 → get_or s n 0 ≡ 58
get_or-cut m n s h = elim (cases_lt n m) [
  | inl lt ↦ sym (get_or-take m s n 0 lt) ∙ h
  | inr ge ↦ absurd (omega (arith, h, get_or_past (take m s) n 0 (omega (arith, ge, length_cut m s))))
] where
  length_cut : (m : ℕ) (s : List ℕ) → length (take m s) ≤ m
  length_cut zero s = omega arith
  length_cut (suc m) [] = omega arith
  length_cut (suc m) (b ∷ bs) = omega (arith, length_cut m bs)

-- outer blanks are bytes of a value
trim-plain : (s : List ℕ) → list_all value_byte (trimmed s) ≡ list_all value_byte s
trim-plain s =
    let cut = trim-cut s in
    let t = trimmed s in
    let weak = λ (x : List ℕ) (h : list_all blank x ≡ true). all-weaker blank value_byte x blank-value h in
    let from : list_all value_byte t ≡ true → list_all value_byte s ≡ true = λ h. subst (λ l. list_all value_byte l ≡ true) (sym cut.is) (all_append value_byte cut.before (t ++ cut.after) (weak cut.before cut.blanks-before) (all_append value_byte t cut.after h (weak cut.after cut.blanks-after))) in
    let to : list_all value_byte s ≡ true → list_all value_byte t ≡ true = λ h. all_front value_byte t cut.after (all_rest value_byte cut.before (t ++ cut.after) (subst (λ l. list_all value_byte l ≡ true) cut.is h)) in
    elim (cases_Bool (list_all value_byte t)) [
      | inl y ↦ y ∙ sym (from y)
      | inr n ↦ elim (cases_Bool (list_all value_byte s)) [ inl y ↦ absurd (true≢false (sym (to y) ∙ n)) | inr m ↦ n ∙ sym m ]
    ] where
      blank-value : (b : ℕ) → blank b ≡ true → value_byte b ≡ true
      blank-value b h = grind (arith, nat_tests)

-- a name's bytes
named : (at n : ℕ) (s : List ℕ) → n ≡ prefix_len token_byte s → field_of at (first_line s) ≡ named_to n at (first_line s)
unfolding field_of
named at n s is =
    let long = line-past token_byte s refl in
    ap (λ m. named_to m at (first_line s)) (ap (λ m. prefix_len token_byte (take m s)) long ∙ leading-take token_byte s (line_length (drop (prefix_len token_byte s) s)) ∙ sym is)

pub no_name : (at n : ℕ) (s : List ℕ) → n ≡ prefix_len token_byte s → n ≡ 0 → None ≡ field_of at (first_line s)
no_name at n s is e = sym (named at n s is ∙ cond-false _ _ _ (and_left _ _ (lt-leb 1 n (omega arith))))

pub no-colon : (at n : ℕ) (s : List ℕ) → n ≡ prefix_len token_byte s → (get_or s n 0 ≡ 58 → ⊥) → None ≡ field_of at (first_line s)
no-colon at n s is other = sym (named at n s is ∙ cond-false _ _ _ (and_right _ _ (ne_eqb _ 58 (λ h. other (get_or-cut (line_length s) n s h)))))

-- a name, a colon and what follows
colon : (at n : ℕ) (s : List ℕ) → n ≡ prefix_len token_byte s → (n ≡ 0 → ⊥) → n < length s → get_or s n 0 ≡ 58 → (line_length s ≡ n + 1 + line_length (drop (n + 1) s)) × (field_of at (first_line s) ≡ valued at (take n s) (trimmed (first_line (drop (n + 1) s))))
colon at n s is some lt mark =
    let v = drop (n + 1) s in
    let k = line_length v in
    let here : n + 0 ≡ n = omega arith in
    let one = line_other s n 0 lt (omega arith) (λ e. omega (arith, mark, ap (λ m. get_or s m 0) here, e)) in
    let long : line_length s ≡ n + 1 + k = omega (arith, line-past token_byte s refl, ap (λ m. line_length (drop m s)) is, one, is) in
    let same : n + 1 + k ≡ n + (1 + k) = omega arith in
    let whole = take (n + 1 + k) s in
    let at_n : get_or whole n 0 ≡ 58 = get_or-take (n + 1 + k) s n 0 (omega arith) ∙ mark in (
      long,
      named at n s is
          ∙ ap (λ m. named_to n at (take m s)) long
          ∙ cond-true _ _ _ (and_from _ _ (le-leb 1 n (omega (arith, some))) (eq-eqb _ 58 at_n))
          ∙ ap (λ l. valued at l (trimmed (drop (n + 1) whole))) (ap (λ m. take n (take m s)) same ∙ take-take n (1 + k) s)
          ∙ ap (λ l. valued at (take n s) (trimmed l)) (drop-take (n + 1) k s),
    )

ends-none : (s : List ℕ) → ends_here s ≡ true → line_length s ≡ 0
ends-none [] e = refl
ends-none (b ∷ bs) e = cond-true _ _ _ e

ends-later : (s : List ℕ) → ends_here s ≡ false → 0 < line_length s
ends-later [] e = absurd (true≢false e)
ends-later (b ∷ bs) e = omega (arith, cond-false (front line_end (b ∷ bs)) 0 (1 + line_length bs) e)

-- bytes of a value that end the line
ended : (m : ℕ) (v : List ℕ) → m ≡ prefix_len value_byte v → ends_here (drop m v) ≡ true → (line_length v ≡ m) × (list_all value_byte (trimmed (first_line v)) ≡ true)
ended m v is e =
    let long : line_length v ≡ prefix_len value_byte v = omega (arith, line-past value_byte v refl, ends-none (drop (prefix_len value_byte v) v) (ap (λ k. ends_here (drop k v)) (sym is) ∙ e)) in
    (long ∙ sym is, trim-plain (first_line v) ∙ ap (λ k. list_all value_byte (take k v)) long ∙ leading-all value_byte v)

-- bytes of a value, and then another within the line
broken : (m : ℕ) (v : List ℕ) → m ≡ prefix_len value_byte v → ends_here (drop m v) ≡ false → list_all value_byte (trimmed (first_line v)) ≡ false
broken m v is e =
    let n = prefix_len value_byte v in
    let past = line-past value_byte v refl in
    let more = ends-later (drop n v) (ap (λ k. ends_here (drop k v)) (sym is) ∙ e) in
    let lead' : prefix_len value_byte (first_line v) ≡ n = ap (λ k. prefix_len value_byte (take k v)) past ∙ leading-take value_byte v (line_length (drop n v)) in
    let long = length-take-le (line_length v) v (line-le v) in
    trim-plain (first_line v) ∙ sym (all-is value_byte (first_line v)) ∙ ne_eqb _ _ (λ h. omega (arith, h, lead', long, past, more))

pub field-bad : (at n m : ℕ) (s after : List ℕ) → n ≡ prefix_len token_byte s → (n ≡ 0 → ⊥) → n < length s → get_or s n 0 ≡ 58 → after ≡ drop (n + 1) s → m ≡ prefix_len value_byte after → ends_here (drop m after) ≡ false → None ≡ field_of at (first_line s)
field-bad at n m s after is some lt mark from m-is e =
    let bad = subst (λ l. list_all value_byte (trimmed (first_line l)) ≡ false) from (broken m after m-is e) in
    sym ((colon at n s is some lt mark).1 ∙ cond-false _ _ _ (and_left _ _ bad))

pub field-good : (at n m : ℕ) (s after value : List ℕ) → n ≡ prefix_len token_byte s → (n ≡ 0 → ⊥) → n < length s → get_or s n 0 ≡ 58 → after ≡ drop (n + 1) s → m ≡ prefix_len value_byte after → ends_here (drop m after) ≡ true → value ≡ trimmed (take m after) → (line_length s ≡ n + 1 + m) × (field_of at (first_line s) ≡ cond (leb (length value) 4096) (Some (record { at = at; name = take n s; value = value })) None)
field-good at n m s after value is some lt mark from m-is e v-is =
    let good = ended m after m-is e in
    let line = colon at n s is some lt mark in
    let same : value ≡ trimmed (first_line (drop (n + 1) s)) = v-is ∙ ap (λ k. trimmed (take k after)) (sym good.0) ∙ ap (λ l. trimmed (first_line l)) from in
    let plain = subst (λ l. list_all value_byte l ≡ true) (sym (v-is ∙ ap (λ k. trimmed (take k after)) (sym good.0))) good.1 in (
      omega (arith, line.0, good.0, ap line_length from),
      line.1 ∙ ap (valued at (take n s)) (sym same) ∙ ap (λ b. cond (b && leb (length value) 4096) (Some (record { at = at; name = take n s; value = value })) None) plain,
    )
