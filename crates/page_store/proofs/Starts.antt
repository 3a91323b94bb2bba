-- A new page store is empty.
use Rattle.std.proofs.Common.{◌≡◌, ℕ, zero, suc, ◌+◌, ◌*◌, ◌%◌, ◌≤◌, true, ◌&&◌, eqb, leb, List, get_or, replicate, Some, None, Option, vec_items, vec_len, sym, refl, ap, ◌∙◌, ⊎_elim, arith}
use Rattle.std.proofs.lemmas.Bool.{cond-true, cond-false, le-leb, eq-eqb, and_from, cases_Bool, cases_lt}
use Rattle.inline_bytes.specs.declared.held.InlineBytes.{InlineBytes}
use Rattle.store.specs.Meaning.{nameable}
use Rattle.page_store.specs.declared.chain.Chain.{Chain}
use Rattle.page_store.specs.declared.state.PageStore.{PageStore}
use Rattle.page_store.specs.Bytes.{content}
use Rattle.page_store.specs.Names.{title, row_with}
use Rattle.page_store.specs.Pages.{count_of}
use Rattle.page_store.specs.State.{Sparing, Nothing, Named, Single}
use Rattle.page_store.specs.Store.{pages_at, owned, published_at, Empty, fillable}
use Rattle.page_store.specs.Rows.{none-is}
use Rattle.page_store.specs.Stores.{held_in, held_out}

get_or-zeros : (n k : ℕ) → get_or {A = ℕ} (replicate n 0) k 0 ≡ 0
get_or-zeros zero k = refl
get_or-zeros (suc n) zero = refl
get_or-zeros (suc n) (suc k) = get_or-zeros n k

pub title-none : (m e : ℕ) → title (replicate m None) e ≡ None
title-none zero e = refl
title-none (suc m) zero = refl
title-none (suc m) (suc e) = title-none m e

pub sparing-new : (chains : List Chain) → ((k : ℕ) → (k ≡ 48 → ⊥) → count_of chains k ≡ 0) → Sparing chains (replicate 48 0)
sparing-new chains unowned k h = let z = get_or-zeros 48 k in let u = unowned k (omega arith) in (omega arith, omega arith)

pub nothing-new : (names : List (Option (InlineBytes 128))) → Nothing (replicate 48 0) names
nothing-new names e h z = get_or-zeros 48 (16 + e)

pub named-new : Named (replicate 32 None)
named-new e n q = let x : None ≡ Some n = sym (title-none 32 e) ∙ q in absurd (cc)

pub single-new : Single (replicate 32 None)
single-new e f p = absurd (p.2 (title-none 32 e))

pub fillable-is : (n : ℕ) → n % 4096 ≡ 0 → 4096 ≤ n → n ≤ 4194304 → true ≡ fillable n
fillable-is n m lo hi = sym (and_from (eqb (n % 4096) 0) (leb 4096 n && leb n 4194304) (eq-eqb (n % 4096) 0 m) (and_from (leb 4096 n) (leb n 4194304) (le-leb 4096 n lo) (le-leb n 4194304 hi)))

pub empty-new : (s : PageStore) → s.lengths ≡ replicate 48 0 → s.names ≡ replicate 32 None → 4096 * owned s 48 ≡ vec_len s.region → Empty s
empty-new s l q f = record {
  slots = λ k. ⊎_elim
      (λ h. held_in s k h ∙ ap (λ (n : ℕ). content (vec_items s.region) (pages_at s k) n) (ap (λ (x : List ℕ). get_or x k 0) l ∙ get_or-zeros 48 k))
      (λ h. held_out s k h)
      (cases_lt k 16);
  names = λ n. ap (published_at s)
      (⊎_elim
      (λ t. cond-true (nameable n) (row_with s.names n) None t
      ∙ none-is s.names n (λ j h p. let x : None ≡ Some n = sym (ap (λ (x : List (Option (InlineBytes 128))). title x j) q ∙ title-none 32 j) ∙ p in cc))
      (λ t. cond-false (nameable n) (row_with s.names n) None t)
      (cases_Bool (nameable n)));
  free = f;
}
