-- A line holds a field exactly where it has a field's form.
use Rattle.std.proofs.Common.{◌≡◌, ℕ, zero, suc, ◌+◌, ◌<◌, ◌≤◌, Bool, true, false, cond, ◌&&◌, eqb, leb, List, [], ◌∷◌, ◌++◌, length, get_or, take, drop, Some, None, Ok, Err, Option, Result, sym, refl, ap, ◌∙◌, subst, inl, inr, append_assoc, arith}
use Rattle.std.proofs.lemmas.List.{take-append-drop, take_at, drop_at, get_or_at, get_or_past, drop_more, length_push, length-take-le}
use Rattle.std.proofs.lemmas.Bool.{cases_lt, eqb-true, eq-eqb, leb-true, le-leb, and_parts, and_from, cond-true}
use Rattle.std.specs.List.{prefix_len, list_all}
use Rattle.text.specs.Bytes.{token_byte, value_byte}
use Rattle.text.specs.Words.{trimmed}
use Rattle.text.proofs.Runs.{leading-append, leading-all, trim-is, trim-cut}
use Rattle.head.specs.Lines.{Entry, valued, named_to, field_of, join_field, fields_of}
use Rattle.head.specs.Grammar.{FieldLine, FieldLines}

pub cond-some : {A : Type 0} (b : Bool) (x : Option A) (e : A) → cond b x None ≡ Some e → (b ≡ true) × (x ≡ Some e)
cond-some true x e h = (refl, h)
cond-some false x e h = absurd (let z : ◌≡◌ {A = ℕ} 0 1 = cc in omega arith)

some_same : {A : Type 0} (x y : A) → Some x ≡ Some y → x ≡ y
some_same x y h = cc

named-form : (at n : ℕ) (line : List ℕ) → n ≡ prefix_len token_byte line → 1 ≤ n → get_or line n 0 ≡ 58 → list_all value_byte (trimmed (drop (n + 1) line)) ≡ true → length (trimmed (drop (n + 1) line)) ≤ 4096 → FieldLine line (take n line) (trimmed (drop (n + 1) line))
named-form at n line is some colon plain short =
    let rest = drop (n + 1) line in
    let cut = trim-cut rest in
    let inside : n < length line = elim (cases_lt n (length line)) [ inl h ↦ h | inr h ↦ absurd (omega (arith, get_or_past line n 0 h)) ] in
    record {
      before = cut.before;
      after = cut.after;
      is = sym (take-append-drop n line) ∙ ap (λ l. take n line ++ l) (drop_more line n 0 inside) ∙ ap (λ b. take n line ++ (b ∷ rest)) colon ∙ ap (λ l. take n line ++ (58 ∷ l)) cut.is;
      named = omega (arith, length-take-le n line (omega arith));
      token = ap (λ m. list_all token_byte (take m line)) is ∙ leading-all token_byte line;
      plain = plain;
      short = short;
      blanks-before = cut.blanks-before;
      blanks-after = cut.blanks-after;
      first = cut.first;
      last = cut.last;
    }

pub field-sound : (at : ℕ) (line : List ℕ) (e : Entry) → field_of at line ≡ Some e → (e.at ≡ at) × FieldLine line e.name e.value
unfolding field_of
field-sound at line e h =
    let n = prefix_len token_byte line in
    let v = trimmed (drop (n + 1) line) in
    let p = cond-some (leb 1 n && eqb (get_or line n 0) 58) (valued at (take n line) v) e h in
    let q = and_parts (leb 1 n) (eqb (get_or line n 0) 58) p.0 in
    let r = cond-some (list_all value_byte v && leb (length v) 4096) (Some (record { at = at; name = take n line; value = v })) e p.1 in
    let s = and_parts (list_all value_byte v) (leb (length v) 4096) r.0 in
    let form = named-form at n line refl (leb-true 1 n q.0) (eqb-true (get_or line n 0) 58 q.1) s.0 (leb-true (length v) 4096 s.1) in
    subst (λ (x : Entry). (x.at ≡ at) × FieldLine line x.name x.value) (some_same _ e r.1) (refl, form)

pub field-complete : (at : ℕ) (line name value : List ℕ) → FieldLine line name value → field_of at line ≡ Some (record { at = at; name = name; value = value })
unfolding field_of
field-complete at line name value f =
    let tail = f.before ++ (value ++ f.after) in
    let whole = name ++ (58 ∷ tail) in
    let n-is : prefix_len token_byte whole ≡ length name = leading-append token_byte name (58 ∷ tail) f.token ∙ omega arith in
    let go : named_to (length name) at whole ≡ Some (record { at = at; name = name; value = value }) =
    cond-true _ _ _ (and_from _ _ (le-leb 1 (length name) f.named) (eq-eqb _ 58 (get_or_at name 58 tail 0 (length name) refl)))
    ∙ ap (λ m. valued at m (trimmed (drop (length name + 1) whole))) (take_at name (58 ∷ tail) (length name) refl)
    ∙ ap (λ m. valued at name (trimmed m)) (ap (drop (length name + 1)) (sym (append_assoc name (58 ∷ []) tail)) ∙ drop_at (name ++ 58 ∷ []) tail (length name + 1) (length_push name 58))
    ∙ ap (valued at name) (trim-is f.before value f.after f.blanks-before f.blanks-after f.first f.last)
    ∙ cond-true _ _ _ (and_from _ _ f.plain (le-leb (length value) 4096 f.short)) in
    ap (λ l. named_to (prefix_len token_byte l) at l) f.is ∙ ap (λ m. named_to m at whole) n-is ∙ go

joined-field : (f : Option Entry) (at : ℕ) (rest : Result (List Entry) ℕ) (fs : List Entry) → join_field f at rest ≡ Ok fs → (e : Entry) × (es : List Entry) × (f ≡ Some e) × (rest ≡ Ok es) × (e ∷ es ≡ fs)
joined-field None at rest fs h = absurd (let z : ◌≡◌ {A = ℕ} 0 1 = cc in omega arith)
joined-field (Some e) at (Ok es) fs h = (e, es, refl, refl, cc)
joined-field (Some e) at (Err bad) fs h = absurd (let z : ◌≡◌ {A = ℕ} 0 1 = cc in omega arith)

pub fields-sound : (left at : ℕ) (ls : List (List ℕ)) (fs : List Entry) → fields_of left at ls ≡ Ok fs → FieldLines at ls fs × (length ls ≤ left)
fields-sound left at [] fs h = let none : [] ≡ fs = cc in (subst (FieldLines at []) none tt, omega arith)
fields-sound zero at (l ∷ ls) fs h = absurd (let z : ◌≡◌ {A = ℕ} 0 1 = cc in omega arith)
fields-sound (suc left) at (l ∷ ls) fs h =
    let p = joined-field (field_of at l) at (fields_of left (at + (length l + 2)) ls) fs h in
    let e = p.0 in
    let es = p.1 in
    let f = field-sound at l e p.2 in
    let more = fields-sound left (at + (length l + 2)) ls es p.3 in
    (subst (FieldLines at (l ∷ ls)) p.4 (f.0, f.1, more.0), omega (arith, more.1))

pub fields-complete : (left at : ℕ) (ls : List (List ℕ)) (fs : List Entry) → FieldLines at ls fs → length ls ≤ left → fields_of left at ls ≡ Ok fs
fields-complete left at [] [] h few = refl
fields-complete left at [] (e ∷ es) h few = absurd h
fields-complete left at (l ∷ ls) [] h few = absurd h
fields-complete zero at (l ∷ ls) (e ∷ es) h few = absurd (omega arith)
fields-complete (suc left) at (l ∷ ls) (e ∷ es) h few =
    let here : field_of at l ≡ Some e = field-complete at l e.name e.value h.1 ∙ ap (λ a. Some (record { at = a; name = e.name; value = e.value })) (sym h.0) in
    ap (λ f. join_field f at (fields_of left (at + (length l + 2)) ls)) here ∙ ap (join_field (Some e) at) (fields-complete left (at + (length l + 2)) ls es h.2 (omega arith))
