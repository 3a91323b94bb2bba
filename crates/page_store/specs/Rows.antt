-- Rows of names: where one stands, and how many do.
use Rattle.std.specs.Prelude.{◌≡◌, ℕ, ◌+◌, ◌<◌, ◌≤◌, Bool, true, false, cond, not, List, [], ◌∷◌, length, Some, None, Option, ◌≢◌, is_some, nat_lt, count_by, slice_get, slice_index_or, refl}
use Rattle.std.proofs.Common.{sym, ap, ◌∙◌, ⊎_elim, arith}
use Rattle.std.specs.List.{prefix_len, position_or_len}
use Rattle.std.specs.Option.{is_none, option_map, unwrap_or}
use Rattle.std.proofs.lemmas.Slice.Eq.{bytes_eq-Decides}
use Rattle.std.proofs.lemmas.Bool.{cases_Bool, cond-true, cond-false, lt-ltb, le-ltb, ltb-true, ltb-false}
use Rattle.std.proofs.lemmas.List.Sums.{position_or_len_is, fails_before_first, count_by-le-length, sum_by-cons}
use Rattle.std.proofs.lemmas.List.Quantifiers.{position-Some}
use Rattle.std.proofs.lemmas.Option.{unwrap_or-slice_get}
use Rattle.inline_bytes.specs.Contents.{contents}
use Rattle.inline_bytes.specs.declared.held.InlineBytes.{InlineBytes}
use Rattle.page_store.specs.Names.{title, names, row_with, vacancy, standing}

-- a row's test and what it says
named : (n : List ℕ) (r : Option (InlineBytes 128)) → names n r ≡ true → option_map contents r ≡ Some n
named n None t = let x : true ≡ false = sym t in absurd (cc)
named n (Some h) t = ap Some ((bytes_eq-Decides (contents h) n).0 t)

names-it : (n : List ℕ) (r : Option (InlineBytes 128)) → option_map contents r ≡ Some n → names n r ≡ true
names-it n None q = absurd (cc)
names-it n (Some h) q = (bytes_eq-Decides (contents h) n).1 (cc)

unnamed : (n : List ℕ) (r : Option (InlineBytes 128)) → names n r ≡ false → option_map contents r ≢ Some n
unnamed n r f q = let x : true ≡ false = sym (names-it n r q) ∙ f in cc

names-no : (n : List ℕ) (r : Option (InlineBytes 128)) → (option_map contents r ≢ Some n) → names n r ≡ false
names-no n r ne = ⊎_elim (λ t. absurd (ne (named n r t))) (λ f. f) (cases_Bool (names n r))

-- row e is the first with a name
pub record First (rows : List (Option (InlineBytes 128))) (n : List ℕ) (e : ℕ) : Type 0 where
  pub within : e < length rows
  pub name : title rows e ≡ Some n
  pub before : (j : ℕ) → j < e → title rows j ≢ Some n

pub first_of : (rows : List (Option (InlineBytes 128))) (n : List ℕ) (e : ℕ) → row_with rows n ≡ Some e → First rows n e
first_of rows n e q =
    let p = position-Some (λ (r : Option (InlineBytes 128)). names n r) rows e None q in
    record {
      within = p.0;
      name = named n (slice_index_or rows e None) p.1;
      before = λ j h. unnamed n (slice_index_or rows j None) (p.2 j h);
    }

pub first-is : (rows : List (Option (InlineBytes 128))) (n : List ℕ) (e : ℕ) → First rows n e → row_with rows n ≡ Some e
first-is rows n e f =
    let q : position_or_len (λ (r : Option (InlineBytes 128)). names n r) rows ≡ e =
    position_or_len_is (λ (r : Option (InlineBytes 128)). names n r) rows e None (omega (arith, f.within))
    (λ k l. names-no n (slice_index_or rows k None) (f.before k l)) (λ _. names-it n (slice_index_or rows e None) f.name) in
    ap (λ (i : ℕ). cond (nat_lt i (length rows)) (Some i) None) q ∙ cond-true (nat_lt e (length rows)) (Some e) None (lt-ltb e (length rows) f.within)

-- a name stands in no row
pub none-is : (rows : List (Option (InlineBytes 128))) (n : List ℕ) → ((j : ℕ) → j < length rows → title rows j ≢ Some n) → row_with rows n ≡ None
none-is rows n nowhere =
    let m : ℕ = length rows in
    let q : position_or_len (λ (r : Option (InlineBytes 128)). names n r) rows ≡ m =
    position_or_len_is (λ (r : Option (InlineBytes 128)). names n r) rows m None (omega arith)
    (λ k l. names-no n (slice_index_or rows k None) (nowhere k l)) (λ l. absurd (omega arith)) in
    ap (λ (i : ℕ). cond (nat_lt i m) (Some i) None) q ∙ cond-false (nat_lt m m) (Some m) None (le-ltb m m (omega arith))

pub none_of : (rows : List (Option (InlineBytes 128))) (n : List ℕ) → row_with rows n ≡ None → (j : ℕ) → j < length rows → title rows j ≢ Some n
none_of rows n q j h =
    let i : ℕ = position_or_len (λ (r : Option (InlineBytes 128)). names n r) rows in
    ⊎_elim
    (λ t. let x : Some i ≡ None = sym (cond-true (nat_lt i (length rows)) (Some i) None t) ∙ q in absurd (cc))
    (λ f. let ge : length rows ≤ i = ltb-false i (length rows) f in
    unnamed n (slice_index_or rows j None) (fails_before_first (λ (r : Option (InlineBytes 128)). names n r) rows j None (omega arith)))
    (cases_Bool (nat_lt i (length rows)))

untitled : (r : Option (InlineBytes 128)) → is_none r ≡ true → option_map contents r ≡ None
untitled None t = refl
untitled (Some h) t = absurd (cc)

-- a row without a name
pub vacant_of : (rows : List (Option (InlineBytes 128))) (e : ℕ) → vacancy rows ≡ Some e → (e < length rows) × (title rows e ≡ None)
vacant_of rows e q =
    let p = position-Some (λ (r : Option (InlineBytes 128)). is_none r) rows e None q in
    (p.0, untitled (slice_index_or rows e None) p.1)

-- two tables of which the same rows have a name
pub row_with-same : (rows rows' : List (Option (InlineBytes 128))) (n : List ℕ) → length rows' ≡ length rows
    → ((j : ℕ) → j < length rows → (title rows' j ≡ Some n → title rows j ≡ Some n) × (title rows j ≡ Some n → title rows' j ≡ Some n)) → row_with rows' n ≡ row_with rows n
row_with-same rows rows' n e same =
    by-row (row_with rows n) refl
  where
    by-row : (o : Option ℕ) → row_with rows n ≡ o → row_with rows' n ≡ row_with rows n
    by-row None q = none-is rows' n (λ j h p. none_of rows n q j (omega arith) ((same j (omega arith)).0 p)) ∙ sym q
    by-row (Some i) q =
        let f = first_of rows n i q in
        first-is rows' n i (record {
          within = omega (arith, f.within);
          name = (same i f.within).1 f.name;
          before = λ j h p. f.before j h ((same j (omega (arith, f.within))).0 p);
        }) ∙ sym q

-- rows that are the same have the same name
pub title-same : (rows rows' : List (Option (InlineBytes 128))) (e : ℕ) → slice_get rows' e ≡ slice_get rows e → title rows' e ≡ title rows e
title-same rows rows' e q =
    ap (option_map contents)
    (sym (unwrap_or-slice_get rows' e None) ∙ (ap (λ (o : Option (Option (InlineBytes 128))). unwrap_or o None) q ∙ unwrap_or-slice_get rows e None))

-- a row without a name stands exactly when fewer names than rows do
cond-one : (b : Bool) → cond {A = ℕ} b 1 0 ≤ 1
cond-one true = omega arith
cond-one false = omega arith

count-cons : {X : Type 0} (q : X → Bool) (x : X) (xs : List X) → count_by q (x ∷ xs) ≡ cond (q x) 1 0 + count_by q xs
count-cons q x xs = sum_by-cons (λ x. cond (q x) 1 0) x xs

prefix-le : {X : Type 0} (q : X → Bool) (xs : List X) → prefix_len q xs ≤ count_by q xs
prefix-le q [] = omega arith
prefix-le q (x ∷ xs) =
    ⊎_elim
    (λ t. omega (arith, count-cons q x xs, prefix-le q xs, cond-true {A = ℕ} (q x) 1 0 t, cond-true (q x) (1 + prefix_len q xs) 0 t))
    (λ f. omega (arith, cond-false (q x) (1 + prefix_len q xs) 0 f))
    (cases_Bool (q x))

count-lt : {X : Type 0} (q : X → Bool) (xs : List X) → prefix_len q xs < length xs → count_by q xs < length xs
count-lt q [] h = absurd (omega arith)
count-lt q (x ∷ xs) h =
    ⊎_elim
    (λ t. let lt : prefix_len q xs < length xs = omega (arith, cond-true (q x) (1 + prefix_len q xs) 0 t) in
    omega (arith, count-cons q x xs, count-lt q xs lt, cond-one (q x)))
    (λ f. omega (arith, count-cons q x xs, count_by-le-length q xs, cond-false {A = ℕ} (q x) 1 0 f))
    (cases_Bool (q x))

not-not : (b : Bool) → not (not b) ≡ b
not-not true = refl
not-not false = refl

count-same : {X : Type 0} (p q : X → Bool) → ((x : X) → p x ≡ q x) → (xs : List X) → count_by p xs ≡ count_by q xs
count-same p q same [] = refl
count-same p q same (x ∷ xs) = omega (arith, count-cons p x xs, count-cons q x xs, count-same p q same xs, ap (λ (b : Bool). cond {A = ℕ} b 1 0) (same x))

is_some-cond : (b : Bool) (i : ℕ) → is_some (cond b (Some i) None) ≡ b
is_some-cond true i = refl
is_some-cond false i = refl

pub vacancy-stands : (rows : List (Option (InlineBytes 128))) → is_some (vacancy rows) ≡ nat_lt (standing rows) (length rows)
vacancy-stands rows =
    let q : Option (InlineBytes 128) → Bool = λ r. not (is_none r) in
    let same : count_by q rows ≡ standing rows = count-same q (λ r. is_some r) (λ r. not-not (is_some r)) rows in
    is_some-cond (nat_lt (prefix_len q rows) (length rows)) (prefix_len q rows)
    ∙ (⊎_elim
    (λ t. t ∙ sym (lt-ltb (count_by q rows) (length rows) (count-lt q rows (ltb-true (prefix_len q rows) (length rows) t))))
    (λ f. f ∙ sym (le-ltb (count_by q rows) (length rows) (omega (arith, prefix-le q rows, ltb-false (prefix_len q rows) (length rows) f))))
    (cases_Bool (nat_lt (prefix_len q rows) (length rows)))
    ∙ ap (λ (m : ℕ). nat_lt m (length rows)) same)
