-- Stores and worlds that a fragment, a yes and a close can lead to.
use Rattle.std.proofs.Common.{◌≡◌, ℕ, ◌+◌, ◌-◌, ◌≤◌, true, cond, eqb, List, [], ◌++◌, length, set, Some, Option, refl, ap, ◌∙◌, ⊎_elim, arith}
use Rattle.std.specs.Str.{bytes_eq}
use Rattle.std.proofs.lemmas.Slice.Eq.{bytes_eq-Decides}
use Rattle.std.proofs.lemmas.Bool.{cond-true, cond-false, eq-eqb, ne_eqb, cases_Bool}
use Rattle.store.specs.Meaning.{Meaning, Added, Published}
use Rattle.session.specs.Sessions.{Live, World}
use Rattle.session.specs.Steps.{Written}

-- slot i after bytes were added to it, and every slot publishable
abbrev pub added_to : Meaning → ℕ → List ℕ → Meaning
added_to s i xs = record {
  held = λ k. cond (eqb k i) (s.held i ++ xs) (s.held k);
  room = λ k. cond (eqb k i) (s.room i - length xs) (s.room k);
  catalog = s.catalog;
  publishable = λ k n. true;
}

pub added-to : (s : Meaning) (i : ℕ) (xs : List ℕ) → length xs ≤ s.room i → Added s i xs (added_to s i xs)
added-to s i xs h = record {
  grown = cond-true (eqb i i) (s.held i ++ xs) (s.held i) (eq-eqb i i refl);
  falls =
      let e : cond (eqb i i) (s.room i - length xs) (s.room i) ≡ s.room i - length xs = cond-true (eqb i i) (s.room i - length xs) (s.room i) (eq-eqb i i refl) in
      ap (λ n. n + length xs) e ∙ omega arith;
  others = λ k ne. cond-false (eqb k i) (s.held i ++ xs) (s.held k) (ne_eqb k i ne);
  rooms = λ k ne.
      let e : cond (eqb k i) (s.room i - length xs) (s.room k) ≡ s.room k = cond-false (eqb k i) (s.room i - length xs) (s.room k) (ne_eqb k i ne) in
      omega arith;
  names = λ n. refl;
}

abbrev pub published_to : Meaning → ℕ → List ℕ → Meaning
published_to s i name = record {
  held = λ k. cond (eqb k i) [] (s.held k);
  room = s.room;
  catalog = λ n. cond (bytes_eq n name) (Some (s.held i)) (s.catalog n);
  publishable = s.publishable;
}

pub published-to : (s : Meaning) (i : ℕ) (name : List ℕ) → Published s i name (published_to s i name)
published-to s i name = record {
  stored = cond-true (bytes_eq name name) (Some (s.held i)) (s.catalog name) ((bytes_eq-Decides name name).1 refl);
  emptied = cond-true (eqb i i) [] (s.held i) (eq-eqb i i refl);
  others = λ k ne. cond-false (eqb k i) [] (s.held k) (ne_eqb k i ne);
  names = λ n ne. ⊎_elim
      (λ e. absurd (ne ((bytes_eq-Decides n name).0 e)))
      (λ e. cond-false (bytes_eq n name) (Some (s.held i)) (s.catalog n) e)
      (cases_Bool (bytes_eq n name));
}

-- row i replaced
abbrev pub with_row : World → ℕ → Option Live → Meaning → World
with_row w i r s = record { rows = set w.rows i r; next = w.next; clock = w.clock; store = s }

pub with-row : (w : World) (i : ℕ) (r : Option Live) (s : Meaning) → Written w i r (with_row w i r s)
with-row w i r s = record { rows = refl; next = refl; clock = refl }
