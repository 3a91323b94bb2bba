-- A table in which all pages are free is sound.
use Rattle.std.proofs.Common.{◌≡◌, ℕ, zero, suc, ◌+◌, ◌-◌, ◌<◌, ◌≤◌, cond, eqb, ltb, List, length, get_or, set, replicate, sym, refl, ap, ◌∙◌, subst, ⊎_elim, arith, get_or-set_other, get_or-set_same}
use Rattle.std.proofs.lemmas.Bool.{ne_eqb, lt-ltb, le-ltb, cond-true, cond-false, cases_eq, cases_lt}
use Rattle.std.proofs.lemmas.List.{length-set, length-replicate}
use Rattle.page_store.specs.declared.chain.Chain.{Chain}
use Rattle.page_store.specs.Pages.{follow, occurs, total, blank, chain_of, count_of, pages_of}
use Rattle.page_store.specs.Chains.{hit, total-change}
use Rattle.page_store.specs.Moves.{Sound}

pub total-none : (f : ℕ → ℕ) (n : ℕ) → ((k : ℕ) → k < n → f k ≡ 0) → total f n ≡ 0
total-none f zero h = refl
total-none f (suc n) h = omega (arith, total-none f n (λ k l. h k (omega arith)), h n (omega arith))

pub total-one : (g : ℕ → ℕ) (n i : ℕ) → i < n → ((k : ℕ) → (k ≡ i → ⊥) → g k ≡ 0) → total g n ≡ g i
total-one g n i h none =
    let z : total (λ _. 0) n ≡ 0 = total-none (λ _. 0) n (λ k l. refl) in
    omega (arith, total-change (λ _. 0) g n i h (λ k l ne. none k ne))

get_or-blank : (none : Chain) → none ≡ blank → (n k : ℕ) → get_or (replicate n none) k blank ≡ blank
get_or-blank none is zero k = refl
get_or-blank none is (suc n) zero = is
get_or-blank none is (suc n) (suc k) = get_or-blank none is n k

module _ (next : List ℕ) (link : (k : ℕ) → k < 1024 → get_or next k 0 ≡ k + 1) where
  line-below : (q p n : ℕ) → p + n ≤ 1024 → q < p → occurs q (follow next p n) ≡ 0
  line-below q p zero h lt = refl
  line-below q p (suc n) h lt =
      let e : get_or next p 0 ≡ p + 1 = link p (omega arith) in
      let z : cond {A = ℕ} (eqb q p) 1 0 ≡ 0 = cond-false (eqb q p) 1 0 (ne_eqb q p (λ (x : q ≡ p). omega arith)) in
      rw e (omega (arith, line-below q (p + 1) n (omega arith) (omega arith)))

  line-above : (q p n : ℕ) → p + n ≤ 1024 → p + n ≤ q → occurs q (follow next p n) ≡ 0
  line-above q p zero h ge = refl
  line-above q p (suc n) h ge =
      let e : get_or next p 0 ≡ p + 1 = link p (omega arith) in
      let z : cond {A = ℕ} (eqb q p) 1 0 ≡ 0 = cond-false (eqb q p) 1 0 (ne_eqb q p (λ (x : q ≡ p). omega arith)) in
      rw e (omega (arith, line-above q (p + 1) n (omega arith) (omega arith)))

  line-in : (q p n : ℕ) → p + n ≤ 1024 → p ≤ q → q < p + n → occurs q (follow next p n) ≡ 1
  line-in q p zero h ge lt = absurd (omega arith)
  line-in q p (suc n) h ge lt =
      let e : get_or next p 0 ≡ p + 1 = link p (omega arith) in
      rw e
      (⊎_elim
      (λ s. subst (λ (x : ℕ). cond {A = ℕ} (eqb q x) 1 0 + occurs q (follow next (x + 1) n) ≡ 1) s
      (omega (arith, hit q, line-below q (q + 1) n (omega arith) (omega arith))))
      (λ ne. let z : cond {A = ℕ} (eqb q p) 1 0 ≡ 0 = cond-false (eqb q p) 1 0 (ne_eqb q p ne) in
      omega (arith, line-in q (p + 1) n (omega arith) (omega arith) (omega arith)))
      (cases_eq q p))

  line_at : (p n i : ℕ) → p + n ≤ 1024 → i < n → get_or (follow next p n) i 0 ≡ p + i
  line_at p zero i h lt = absurd (omega arith)
  line_at p (suc n) zero h lt = omega arith
  line_at p (suc n) (suc i) h lt =
      let e : get_or next p 0 ≡ p + 1 = link p (omega arith) in
      rw e (line_at (p + 1) n i (omega arith) (omega arith) ∙ omega arith)

  module _ (n : ℕ) (pos : 1 ≤ n) (few : n ≤ 1024) (long : length next ≡ 1024) (none : Chain) (is : none ≡ blank) where
    abbrev all : Chain
    all = record { head = 0; tail = n - 1; count = n }

    abbrev chains : List Chain
    chains = set (replicate 49 none) 48 all

    long-chains : length (replicate 49 none) ≡ 49
    long-chains = length-replicate 49 none

    pub at-free : chain_of chains 48 ≡ all
    at-free = get_or-set_same (replicate 49 none) 48 all blank (omega (arith, long-chains))

    pub at_other : (k : ℕ) → (k ≡ 48 → ⊥) → chain_of chains k ≡ blank
    at_other k ne = get_or-set_other (replicate 49 none) 48 k all blank ne ∙ get_or-blank none is 49 k

    pub sound-new : Sound n next chains
    sound-new = record {
      few = few;
      links = long;
      owners = length-set (replicate 49 none) 48 all ∙ long-chains;
      once = λ p.
          total-one (λ k. occurs p (pages_of next chains k)) 49 48 (omega arith) (λ k ne. ap (λ (x : Chain). occurs p (follow next x.head x.count)) (at_other k ne))
          ∙ (ap (λ (x : Chain). occurs p (follow next x.head x.count)) at-free
          ∙ ⊎_elim
          (λ lt. line-in p 0 n (omega arith) (omega arith) (omega arith) ∙ sym (cond-true (ltb p n) 1 0 (lt-ltb p n lt)))
          (λ ge. line-above p 0 n (omega arith) (omega arith) ∙ sym (cond-false (ltb p n) 1 0 (le-ltb p n ge)))
          (cases_lt p n));
      whole = total-one (count_of chains) 49 48 (omega arith) (λ k ne. ap (λ (x : Chain). x.count) (at_other k ne)) ∙ ap (λ (x : Chain). x.count) at-free;
      tails = λ k h. ⊎_elim
          (λ e. subst (λ (j : ℕ). (chain_of chains j).tail ≡ get_or (pages_of next chains j) (count_of chains j - 1) 0) (sym e)
          (subst (λ (x : Chain). x.tail ≡ get_or (follow next x.head x.count) (x.count - 1) 0) (sym at-free)
          (sym (line_at 0 n (n - 1) (omega arith) (omega arith) ∙ omega arith))))
          (λ ne. let z : count_of chains k ≡ 0 = ap (λ (x : Chain). x.count) (at_other k ne) in absurd (omega arith))
          (cases_eq k 48);
    }
