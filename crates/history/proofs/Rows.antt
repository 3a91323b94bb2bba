-- Rows of a table.
use Rattle.std.proofs.Common.{◌≡◌, ℕ, suc, ◌<◌, Bool, true, cond, List, [], ◌∷◌, length, Some, None, Option, sym, refl, ap, ◌∙◌, ⊎_elim, arith}
use Rattle.std.specs.Option.{option_map}
use Rattle.std.proofs.lemmas.List.{get_or_past}
use Rattle.std.proofs.lemmas.Bool.{cases_lt, cases_Bool}
use Rattle.std.proofs.lemmas.Option.{none-some}
use Rattle.session.specs.Sessions.{Live, row, index_of}

pub some_inj : {X : Type 0} (a b : X) → Some a ≡ Some b → a ≡ b
some_inj a b e = cc

pub row_inside : (rs : List (Option Live)) (i : ℕ) (x : Live) → row rs i ≡ Some x → i < length rs
row_inside rs i x e = ⊎_elim (λ lt. lt) (λ ge. absurd (none-some x (sym (get_or_past rs i None ge) ∙ e))) (cases_lt i (length rs))

mapped-some : (o : Option ℕ) (i : ℕ) → option_map suc o ≡ Some i → (k : ℕ) × (o ≡ Some k) × (i ≡ suc k)
mapped-some None i e = absurd (none-some i e)
mapped-some (Some k) i e = (k, refl, sym (some_inj (suc k) i e))

-- the row that a search gives passes the test
pub passes : (test : Option Live → Bool) (rs : List (Option Live)) (i : ℕ) → index_of test rs ≡ Some i → (i < length rs) × (test (row rs i) ≡ true)
passes test [] i e = absurd (none-some i e)
passes test (x ∷ xs) i e = ⊎_elim
    (λ b.
    let y : index_of test (x ∷ xs) ≡ Some 0 = ap (λ t. cond t (Some 0) (option_map suc (index_of test xs))) b in
    let z : i ≡ 0 = sym (some_inj {X = ℕ} 0 i (sym y ∙ e)) in
    (omega arith, ap (λ k. test (row (x ∷ xs) k)) z ∙ b))
    (λ b.
    let y : index_of test (x ∷ xs) ≡ option_map suc (index_of test xs) = ap (λ t. cond t (Some 0) (option_map suc (index_of test xs))) b in
    let m = mapped-some (index_of test xs) i (sym y ∙ e) in
    let h = passes test xs m.0 m.1 in
    let z = m.2 in
    let lt = h.0 in
    (omega arith, ap (λ k. test (row (x ∷ xs) k)) z ∙ h.1))
    (cases_Bool (test x))
