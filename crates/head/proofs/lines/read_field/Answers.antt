use Rattle.std.proofs.Common.{◌≡◌, ℕ, ◌+◌, ◌<◌, true, false, cond, eqb, leb, List, [], ◌∷◌, length, get_or, take, drop, Some, None, sym, ap, ◌∙◌, inl, inr, arith, length-drop}
use Rattle.std.proofs.lemmas.List.{drop_more, get_or_past}
use Rattle.std.proofs.lemmas.Bool.{cases_lt, cond-true, cond-false, eqb-true, eqb-false, lt-leb, le-leb}
use Rattle.std.proofs.lemmas.Bool.Decides.{Decides-eqb}
use Rattle.std.proofs.lemmas.Option.{MatchOption-at_some, MatchOption-at_none}
use Rattle.std.proofs.lemmas.Slice.Eq.{strip_prefix_is}
use Rattle.std.specs.List.{prefix_len}
use Rattle.std.specs.Option.{option_map}
use Rattle.text.specs.Bytes.{token_byte, value_byte}
use Rattle.text.specs.Words.{trimmed}
use Rattle.head.specs.Marks.{line_length}
use Rattle.head.specs.Lines.{field_of, entry}
use Rattle.head.specs.Loops.{first_line, ends_here}
use Rattle.head.proofs.Scans.{no_name, no-colon, field-bad, field-good}
use Rattle.head.proofs.lines.read_field.Goals as goal

-- a colon behind n bytes, and what follows it
colon-at : (n : ℕ) (s back after : List ℕ) → back ≡ drop n s → back ≡ 58 ∷ after → (n < length s) × (get_or s n 0 ≡ 58) × (after ≡ drop (n + 1) s)
colon-at n s back after is e =
    let all : drop n s ≡ 58 ∷ after = sym is ∙ e in
    let lt : n < length s = omega (arith, length-drop n s, ap length all) in
    let here = drop_more s n 0 lt in
    (lt, cc, cc)

none-at : (n : ℕ) (s back : List ℕ) → back ≡ drop n s → ((after : List ℕ) → back ≡ 58 ∷ after → ⊥) → get_or s n 0 ≡ 58 → ⊥
none-at n s back is none h = elim (cases_lt n (length s)) [
  | inl lt ↦ none (drop (n + 1) s) (is ∙ drop_more s n 0 lt ∙ ap (λ b. b ∷ drop (n + 1) s) h)
  | inr le ↦ omega (arith, h, get_or_past s n 0 le)
]

pub returns-in_err-after-clause-value : goal.returns-in_err-after-clause-value
returns-in_err-after-clause-value c =
    let s = c.args.rest.now in
    let none = MatchOption-at_none _ _ c.in_err-after.was (strip_prefix_is Decides-eqb c.split_at.result.1.now (58 ∷ []) _ c.strip_prefix.ensures.cases) in
    ap (option_map entry) c.from_residual.ensures ∙ no-colon c.args.at c.lead.result s c.lead.ensures.value (none-at c.lead.result s c.split_at.result.1.now c.split_at.ensures.back none)

-- some bytes of a name, where it is not empty
some-of : (name : List ℕ) (n : ℕ) → length name ≡ n → eqb (length name) 0 ≡ false → n ≡ 0 → ⊥
some-of name n long there z = omega (arith, z, long, eqb-false (length name) 0 there)

pub returns-then-is_empty-clause-value : goal.returns-then-is_empty-clause-value
returns-then-is_empty-clause-value c =
    no_name c.args.at c.lead.result c.args.rest.now c.lead.ensures.value (omega (arith, c.split_at.ensures.front_len, eqb-true (length c.split_at.result.0.now) 0 (sym c.is_empty.ensures ∙ c.if-is_empty.true)))

pub returns-then-not-is_end-clause-value : goal.returns-then-not-is_end-clause-value
returns-then-not-is_end-clause-value c =
    let s = c.args.rest.now in
    let n = c.lead.result in
    let after = c.in_ok-after.after.now in
    let mark = colon-at n s c.split_at.result.1.now after c.split_at.ensures.back (MatchOption-at_some _ _ _ c.in_ok-after.was (strip_prefix_is Decides-eqb c.split_at.result.1.now (58 ∷ []) _ c.strip_prefix.ensures.cases)) in
    field-bad c.args.at n c.lead-2.result s after c.lead.ensures.value (some-of _ n c.split_at.ensures.front_len (sym c.is_empty.ensures ∙ c.if-is_empty.false)) mark.0 mark.1 mark.2 c.lead-2.ensures.value (ap ends_here (sym c.split_at-2.ensures.back) ∙ sym c.is_end.ensures ∙ c.if-not-is_end.true)

-- a line that ends where its value does, by its parts
good : (at n m : ℕ) (s name back after value : List ℕ) → n ≡ prefix_len token_byte s → name ≡ take n s → (n ≡ 0 → ⊥) → back ≡ drop n s → back ≡ 58 ∷ after → m ≡ prefix_len value_byte after → ends_here (drop m after) ≡ true → value ≡ trimmed (take m after) → (line_length s ≡ n + 1 + m) × (field_of at (first_line s) ≡ cond (leb (length value) 4096) (Some (record { at = at; name = name; value = value })) None)
good at n m s name back after value is name-is some back-is e m-is stops v-is =
    let mark = colon-at n s back after back-is e in
    let g = field-good at n m s after value is some mark.0 mark.1 mark.2 m-is stops v-is in
    (g.0, g.1 ∙ ap (λ l. cond (leb (length value) 4096) (Some (record { at = at; name = l; value = value })) None) (sym name-is))

pub returns-then-value-gt-MOST_VALUE-clause-value : goal.returns-then-value-gt-MOST_VALUE-clause-value
returns-then-value-gt-MOST_VALUE-clause-value c =
    let s = c.args.rest.now in
    let back = c.split_at.result.1.now in
    let some = MatchOption-at_some _ _ _ c.in_ok-after.was (strip_prefix_is Decides-eqb back (58 ∷ []) _ c.strip_prefix.ensures.cases) in
    let g = good c.args.at c.lead.result c.lead-2.result s c.split_at.result.0.now back c.in_ok-after.after.now c.trim-value.result.now c.lead.ensures.value c.split_at.ensures.front (some-of _ c.lead.result c.split_at.ensures.front_len (sym c.is_empty.ensures ∙ c.if-is_empty.false)) c.split_at.ensures.back some c.lead-2.ensures.value (ap ends_here (sym c.split_at-2.ensures.back) ∙ sym c.is_end.ensures ∙ c.if-not-is_end.false) (c.trim-value.ensures ∙ ap trimmed c.split_at-2.ensures.front) in
    sym (g.1 ∙ cond-false _ _ _ (lt-leb _ 4096 c.if-value-gt-MOST_VALUE.true))

pub returns : goal.returns
returns c =
    let s = c.args.rest.now in
    let back = c.split_at.result.1.now in
    let some = MatchOption-at_some _ _ _ c.in_ok-after.was (strip_prefix_is Decides-eqb back (58 ∷ []) _ c.strip_prefix.ensures.cases) in
    let g = good c.args.at c.lead.result c.lead-2.result s c.split_at.result.0.now back c.in_ok-after.after.now c.trim-value.result.now c.lead.ensures.value c.split_at.ensures.front (some-of _ c.lead.result c.split_at.ensures.front_len (sym c.is_empty.ensures ∙ c.if-is_empty.false)) c.split_at.ensures.back some c.lead-2.ensures.value (ap ends_here (sym c.split_at-2.ensures.back) ∙ sym c.is_end.ensures ∙ c.if-not-is_end.false) (c.trim-value.ensures ∙ ap trimmed c.split_at-2.ensures.front) in
    record {
      value = sym (g.1 ∙ cond-true _ _ _ (le-leb _ 4096 c.if-value-gt-MOST_VALUE.false));
      long = omega (arith, g.0, c.split_at.ensures.front_len, c.split_at-2.ensures.front_len);
    }
