use Rattle.std.proofs.Common.{◌≡◌, ℕ, Bool, true, false, ◌++◌, cond, List, Some, None, Option, MatchOption, codes, sym, refl, ap, ◌∙◌, rules, tests}
use Rattle.std.proofs.lemmas.Slice.Eq.{strip_prefix_is, strip_suffix_is}
use Rattle.std.proofs.lemmas.Option.{MatchOption-at_some, MatchOption-at_none}
use Rattle.std.proofs.lemmas.List.{append_cancel_left}
use Rattle.std.proofs.lemmas.Bool.Decides.{Decides-eqb}
use Rattle.std.specs.Option.{option_map}
use Rattle.std.specs.Bool.{then_some}
use Rattle.std.specs.Borrow.{Bor}
use Rattle.head.specs.Lines.{good_path, path_of}
use Rattle.head.proofs.Requests.{path-none, path-is}
use Rattle.head.proofs.lines.read_path.Goals as goal

pub returns-in_err-strip_prefix : goal.returns-in_err-strip_prefix
returns-in_err-strip_prefix c =
    let line = c.args.line.now in
    let none = MatchOption-at_none _ _ c.in_err-strip_prefix.was (strip_prefix_is Decides-eqb line (codes "BITS_POST ") _ c.strip_prefix.ensures.cases) in
    ap (option_map (λ p. p.now)) c.from_residual.ensures ∙ path-none line (λ p e. none (p ++ codes " HTTP/1.1") e)

abbrev Cut : List ℕ → Option (Bor (List ℕ)) → Type 0
Cut rest o = MatchOption o ((p : List ℕ) → rest ≡ p ++ codes " HTTP/1.1" → ⊥) (λ x. rest ≡ x.now ++ codes " HTTP/1.1")

-- the path that is left, if it is good
filtered : (line rest : List ℕ) (o r : Option (Bor (List ℕ))) → line ≡ codes "BITS_POST " ++ rest → Cut rest o → MatchOption o (r ≡ None) (λ x. (b : Bool) × (b ≡ good_path x.now) × (r ≡ then_some b x)) → option_map (λ p. p.now) r ≡ path_of line
filtered line rest None r pre post is =
    ap (option_map (λ p. p.now)) is ∙ path-none line (λ p e. post p (append_cancel_left (codes "BITS_POST ") rest (p ++ codes " HTTP/1.1") (sym pre ∙ e)))
filtered line rest (Some x) r pre post (b, good, is) =
    ap (option_map (λ p. p.now)) (is ∙ ap (λ t. then_some t x) good)
    ∙ kept (good_path x.now)
    ∙ path-is line x.now (pre ∙ ap (λ l. codes "BITS_POST " ++ l) post) where
      kept : (t : Bool) → option_map (λ p. p.now) (then_some t x) ≡ cond t (Some x.now) None
      kept true = refl
      kept false = refl

weaken : (o : Option (Bor (List ℕ))) (N : Type 0) (P Q : Bor (List ℕ) → Type 0) → ((x : Bor (List ℕ)) → P x → Q x) → MatchOption o N P → MatchOption o N Q
weaken None N P Q f h = h
weaken (Some x) N P Q f h = f x h

pub returns : goal.returns
returns c =
    let line = c.args.line.now in
    let rest = c.in_ok-strip_prefix.field-0.now in
    let pre = MatchOption-at_some _ _ _ c.in_ok-strip_prefix.was (strip_prefix_is Decides-eqb line (codes "BITS_POST ") _ c.strip_prefix.ensures.cases) in
    let post = strip_suffix_is Decides-eqb rest (codes " HTTP/1.1") _ c.strip_suffix.ensures.cases in
    filtered line rest c.strip_suffix.result c.filter.result pre post (weaken c.strip_suffix.result _ _ _ (λ x h. (h.0, search (rules, tests), h.2)) c.filter.ensures)
