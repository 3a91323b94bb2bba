use Rattle.std.proofs.Common.{◌≡◌, ℕ, Bool, true, false, cond, List, [], ◌∷◌, Some, None, Option, refl, ap, ◌∙◌, rules, tests}
use Rattle.std.proofs.lemmas.Iterator.{YieldsList-from_slice}
use Rattle.std.proofs.lemmas.Iterator.Search.{find_from_yields_List}
use Rattle.std.specs.Borrow.{Bor}
use Rattle.std.specs.List.{find}
use Rattle.std.specs.Option.{option_map}
use Rattle.text.specs.Words.{same_letters, named}
use Rattle.text.proofs.named.Goals as goal

named-find : {T : Type 0} (word : List ℕ) (table : List (Bor (List ℕ) × T)) → option_map (λ e. e.1) (find (λ e. same_letters word e.0.now) table) ≡ named table word
named-find word [] = refl
named-find {T = T} word (e ∷ es) = by (same_letters word e.0.now) (named-find word es) where
  by : (v : Bool) → option_map {T = Bor (List ℕ) × T} (λ x. x.1) (find (λ x. same_letters word x.0.now) es) ≡ named es word → option_map {T = Bor (List ℕ) × T} (λ x. x.1) (cond v (Some e) (find (λ x. same_letters word x.0.now) es)) ≡ cond v (Some e.1) (named es word)
  by true h = refl
  by false h = h

pointed : {T : Type 0} (o : Option (Bor (Bor (List ℕ) × T))) → option_map (λ e. e.now.1) o ≡ option_map {T = Bor (List ℕ) × T} (λ e. e.1) (option_map (λ e. e.now) o)
pointed None = refl
pointed (Some e) = refl

pub returns : goal.returns
returns g c =
    let word = c.args.word.now in
    let found = find_from_yields_List (λ e. same_letters word e.0.now) _ _ c.find.result c.find.ensures.ran (YieldsList-from_slice c.args.table.now cc) (λ x b q k. search (rules, tests)) in
    let picked : c.map.result ≡ option_map (λ e. e.now.1) c.find.result = search rules in
    picked ∙ pointed c.find.result ∙ ap (option_map (λ e. e.1)) found ∙ named-find word c.args.table.now
