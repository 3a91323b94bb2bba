-- What the questions of a creation come to in the plan.
use Rattle.std.proofs.Common.{◌≡◌, ℕ, Bool, true, false, not, List, is_some, Some, None, Option, sym, refl, ap, ◌∙◌}
use Rattle.outcome.specs.declared.Outcome.{Outcome}
use Rattle.store.specs.Answers.{length_of}
use Rattle.session.specs.Sessions.{World, index_of}
use Rattle.session.specs.Rules.{create_fault, is_free}
use Rattle.session.specs.Plans.{refuse, create, unless, in_row, stands, create_plan}
use Rattle.session.specs.declared.records.Settings.{Settings}

pub stands-told : (o : Option (List ℕ)) → is_some (length_of o) ≡ is_some o
stands-told (Some b) = refl
stands-told None = refl

pub opposite : (t r : Bool) → t ≡ not r → r ≡ not t
opposite t true e = sym (ap not e)
opposite t false e = sym (ap not e)

module _ (sets : Settings) (w : World) (shared : Bool) (path : List ℕ) (fault : Option Outcome) {told : Bool} (full : Bool) {size free : Option ℕ}
    (is : fault ≡ create_fault sets shared path told full w.next) (standing : told ≡ is_some size) (sized : size ≡ length_of (w.store.catalog path))
    (filled : is_some free ≡ not full) (search : free ≡ index_of is_free w.rows) where
  planned : unless fault (in_row free) ≡ create_plan sets w shared path
  unfolding create_plan
  planned =
      let stood = standing ∙ ap is_some sized ∙ stands-told (w.store.catalog path) in
      let all = opposite (is_some free) full filled in
      (λ i. unless (is i) (in_row free)) ∙ (λ i. unless (create_fault sets shared path (stood i) (all i) w.next) (in_row free))
      ∙ (λ i. unless (create_fault sets shared path (stands w path) (not (is_some (search i))) w.next) (in_row (search i)))

  pub create-refused : (o : Outcome) → fault ≡ Some o → create_plan sets w shared path ≡ refuse o
  create-refused o e = sym planned ∙ ap (λ f. unless f (in_row free)) e

  pub create-opens : (i : ℕ) → fault ≡ None → free ≡ Some i → create_plan sets w shared path ≡ create i
  create-opens i e f = sym planned ∙ (λ k. unless (e k) (in_row (f k)))
