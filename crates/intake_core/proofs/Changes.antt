-- One change of a store more.
use Rattle.std.proofs.Common.{ℕ, ◌+◌, List, [], ◌∷◌, ◌++◌, sym, refl, subst, add-one}
use Rattle.store.specs.Meaning.{Change}
use Rattle.store.specs.Meaning.Change.{clearing}
use Rattle.intake_core.specs.Worlds.{Changed, clearings}

pub changed-more : {S : Type 0} (made : S → Change → S → Type 0) (s t u : S) (cs : List Change) (c : Change) → Changed made s cs t → made t c u → Changed made s (cs ++ (c ∷ [])) u
changed-more made s t u [] c e m = (u, subst (λ x. made x c u) e m, refl)
changed-more made s t u (d ∷ cs) c (v, f, rest) m = (v, f, changed-more made v t u cs c rest m)

pub clearings-more : {S : Type 0} (made : S → Change → S → Type 0) (s t u : S) (n : ℕ) → Changed made s (clearings n) t → made t (clearing n) u → Changed made s (clearings (n + 1)) u
clearings-more made s t u n e m = subst (λ k. Changed made s (clearings k) u) (sym (add-one n)) (changed-more made s t u (clearings n) (clearing n) e m)
