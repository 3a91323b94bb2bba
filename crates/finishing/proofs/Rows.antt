-- The session in row i is the one that is found by its serial.
use Rattle.std.proofs.Common.{◌≡◌, ℕ, zero, suc, ◌<◌, Bool, true, false, eqb, List, [], ◌∷◌, length, Some, None, Option, refl, ap, ◌∙◌, ⊎_elim, arith}
use Rattle.std.specs.Option.{option_map}
use Rattle.std.specs.Str.{bytes_eq}
use Rattle.std.proofs.lemmas.Slice.Eq.{bytes_eq-Decides}
use Rattle.std.proofs.lemmas.Bool.{cond-true, cond-false, cases_Bool, eqb-true, eq-eqb, and_from, and_left}
use Rattle.session.specs.Sessions.{Live, row, index_of}
use Rattle.session.specs.Rules.{is_of, is_asked, is_away}

-- the first row that passes is row i
pub index-first : (test : Option Live → Bool) (rs : List (Option Live)) (i : ℕ) → i < length rs → test (row rs i) ≡ true → ((k : ℕ) → k < i → test (row rs k) ≡ false) → index_of test rs ≡ Some i
index-first test [] i h t f = absurd (omega arith)
index-first test (x ∷ xs) zero h t f = cond-true (test x) (Some 0) (option_map suc (index_of test xs)) t
index-first test (x ∷ xs) (suc i) h t f =
    cond-false (test x) (Some 0) (option_map suc (index_of test xs)) (f 0 (omega arith))
    ∙ ap (option_map suc) (index-first test xs i (omega arith) t (λ k l. f (suc k) (omega arith)))

pub index-none : (test : Option Live → Bool) (rs : List (Option Live)) → ((k : ℕ) → test (row rs k) ≡ false) → index_of test rs ≡ None
index-none test [] f = refl
index-none test (x ∷ xs) f =
    cond-false (test x) (Some 0) (option_map suc (index_of test xs)) (f 0) ∙ ap (option_map suc) (index-none test xs (λ k. f (suc k)))

-- a row passes neither test where it has no session of the serial
pub not-of : (s : ℕ) (path : List ℕ) (r : Option Live) → ((y : Live) → r ≡ Some y → y.serial ≡ s → ⊥) → is_of s path r ≡ false
not-of s path None f = refl
not-of s path (Some y) f =
    ⊎_elim (λ e. absurd (f y refl (eqb-true y.serial s e))) (λ e. and_left (eqb y.serial s) (bytes_eq y.path path) e) (cases_Bool (eqb y.serial s))

pub not-asked : (s : ℕ) (r : Option Live) → ((y : Live) → r ≡ Some y → y.serial ≡ s → ⊥) → is_asked s r ≡ false
not-asked s None f = refl
not-asked s (Some y) f =
    ⊎_elim (λ e. absurd (f y refl (eqb-true y.serial s e))) (λ e. and_left (eqb y.serial s) (is_away y.phase) e) (cases_Bool (eqb y.serial s))

pub is-of : (s : ℕ) (path : List ℕ) (x : Live) → x.serial ≡ s → x.path ≡ path → is_of s path (Some x) ≡ true
is-of s path x e p = and_from (eqb x.serial s) (bytes_eq x.path path) (eq-eqb x.serial s e) ((bytes_eq-Decides x.path path).1 p)
