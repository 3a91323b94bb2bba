-- What a page store's changes do to its meaning.
use Rattle.std.specs.Prelude.{◌≡◌, ℕ, ◌+◌, ◌-◌, ◌*◌, ◌/◌, ◌%◌, ◌^◌, ◌<◌, ◌≤◌, Bool, true, false, ◌&&◌, ◌||◌, List, [], ◌++◌, length, take, set, Some, None, vec_items, Option, ◌≢◌, is_some, nat_lt, slice_index, slice_set, refl}
use Rattle.std.proofs.Common.{sym, ap, subst, ◌∙◌, ⊎_elim, arith, add-zero, get_or-set_same, get_or-set_other}
use Rattle.std.proofs.lemmas.Bool.{cond-true, cond-false, lt-ltb, le-ltb, and_left, and_right, cases_lt, cases_eq, cases_Bool}
use Rattle.std.proofs.lemmas.List.{append-nil, get_or_append_left, set-get_or}
use Rattle.inline_bytes.specs.declared.held.InlineBytes.{InlineBytes}
use Rattle.store.specs.Meaning.{Added, Cleared, nameable}
use Rattle.page_store.specs.declared.chain.Chain.{Chain}
use Rattle.page_store.specs.declared.state.PageStore.{PageStore}
use Rattle.page_store.specs.Bytes.{place, content, Written}
use Rattle.page_store.specs.Names.{row_with, standing}
use Rattle.page_store.specs.Rows.{first_of}
use Rattle.page_store.specs.Pages.{count_of, Moved}
use Rattle.page_store.specs.State.{length_of, Sparing, Nothing}
use Rattle.page_store.specs.Store.{pages_at, owned, bytes_at, entry, published_at, room_of, fits_under, meaning_of, Adding, Clearing}
use Rattle.page_store.specs.Examples.{Two-pages}
use Rattle.page_store.specs.Moves.{counts-le, moved_none}
use Rattle.page_store.specs.Tables.{sound-of, count-is}
use Rattle.page_store.specs.Content.{length-content, written-grown, written-kept}

pub length-bytes : (s : PageStore) (k : ℕ) → length (bytes_at s k) ≡ length_of s.lengths k
length-bytes s k = length-content (vec_items s.region) (pages_at s k) (length_of s.lengths k)

pub held_in : (s : PageStore) (k : ℕ) → k < 16 → (meaning_of s).held k ≡ bytes_at s k
held_in s k h = cond-true (nat_lt k 16) (bytes_at s k) [] (lt-ltb k 16 h)

pub held_out : (s : PageStore) (k : ℕ) → 16 ≤ k → (meaning_of s).held k ≡ []
held_out s k h = cond-false (nat_lt k 16) (bytes_at s k) [] (le-ltb k 16 h)

pub room_in : (s : PageStore) (k : ℕ) → k < 16 → (meaning_of s).room k ≡ room_of s k
room_in s k h = cond-true (nat_lt k 16) (room_of s k) 0 (lt-ltb k 16 h)

pub room_out : (s : PageStore) (k : ℕ) → 16 ≤ k → (meaning_of s).room k ≡ 0
room_out s k h = cond-false (nat_lt k 16) (room_of s k) 0 (le-ltb k 16 h)

pub pages-le : (s : PageStore) (k : ℕ) → k < 48 → owned s k + owned s 48 ≤ 1024
pages-le s k h = omega (arith, counts-le _ _ _ (sound-of s.table) k 48 (omega arith) (omega arith) (omega arith), s.table.few)

pub law-fits : (s : PageStore) (k : ℕ) → length ((meaning_of s).held k) + (meaning_of s).room k < 2 ^ 64
law-fits s k =
    ⊎_elim
    (λ h. let a : length ((meaning_of s).held k) ≡ length_of s.lengths k = ap length (held_in s k h) ∙ length-bytes s k in
    let b : (meaning_of s).room k ≡ room_of s k = room_in s k h in
    let c : owned s k + owned s 48 ≤ 1024 = pages-le s k (omega arith) in
    let d : length_of s.lengths k ≤ 4096 * owned s k = (s.sparing k (omega arith)).0 in
    omega arith)
    (λ h. let a : length ((meaning_of s).held k) ≡ 0 = ap length (held_out s k h) in
    let b : (meaning_of s).room k ≡ 0 = room_out s k h in
    omega arith)
    (cases_lt k 16)

pub law-unfilled : (s : PageStore) (k : ℕ) (n : List ℕ) → (meaning_of s).held k ≡ [] → fits_under s k n ≡ false
law-unfilled s k n e =
    let tail : Bool = is_some (row_with s.names n) || nat_lt (standing s.names) 32 in
    and_right (nameable n) ((nat_lt k 16 && nat_lt 0 (length_of s.lengths k)) && tail)
    (and_left (nat_lt k 16 && nat_lt 0 (length_of s.lengths k)) tail
    (⊎_elim
    (λ h. let z : length_of s.lengths k ≡ 0 = sym (length-bytes s k) ∙ ap length (sym (held_in s k h) ∙ e) in
    and_right (nat_lt k 16) (nat_lt 0 (length_of s.lengths k)) (le-ltb 0 (length_of s.lengths k) (omega arith)))
    (λ h. and_left (nat_lt k 16) (nat_lt 0 (length_of s.lengths k)) (le-ltb k 16 h))
    (cases_lt k 16)))

pub law-unnamed : (s : PageStore) (k : ℕ) (n : List ℕ) → nameable n ≡ false → fits_under s k n ≡ false
law-unnamed s k n e = and_left (nameable n) ((nat_lt k 16 && nat_lt 0 (length_of s.lengths k)) && (is_some (row_with s.names n) || nat_lt (standing s.names) 32)) e

-- the catalog where each row's bytes are the same
pub at_entry : (s t : PageStore) (o : Option ℕ) → ((e : ℕ) → o ≡ Some e → bytes_at t (16 + e) ≡ bytes_at s (16 + e)) → published_at t o ≡ published_at s o
at_entry s t (Some e) same = ap Some (same e refl)
at_entry s t None same = refl

pub entry-below : (s : PageStore) (n : List ℕ) (e : ℕ) → entry s.names n ≡ Some e → (nameable n ≡ true) × (row_with s.names n ≡ Some e) × (e < 32)
entry-below s n e q =
    ⊎_elim
    (λ t. let r : row_with s.names n ≡ Some e = sym (cond-true (nameable n) (row_with s.names n) None t) ∙ q in
    (t, r, omega (arith, (first_of s.names n e r).within, s.rows)))
    (λ f. let x : None ≡ Some e = sym (cond-false (nameable n) (row_with s.names n) None f) ∙ q in absurd (cc))
    (cases_Bool (nameable n))

pub catalog-same : (s t : PageStore) → t.names ≡ s.names → ((e : ℕ) → e < 32 → bytes_at t (16 + e) ≡ bytes_at s (16 + e))
    → (n : List ℕ) → (meaning_of t).catalog n ≡ (meaning_of s).catalog n
catalog-same s t e same n =
    ap (λ (x : List (Option (InlineBytes 128))). published_at t (entry x n)) e
    ∙ at_entry s t (entry s.names n) (λ f q. same f (entry-below s n f q).2)

-- slots other than i, where their bytes are the same
pub held_same : (s t : PageStore) (k : ℕ) → (k < 16 → bytes_at t k ≡ bytes_at s k) → (meaning_of t).held k ≡ (meaning_of s).held k
held_same s t k same =
    ⊎_elim (λ h. held_in t k h ∙ (same h ∙ sym (held_in s k h))) (λ h. held_out t k h ∙ sym (held_out s k h)) (cases_lt k 16)

module _ (s t : PageStore) (k : ℕ) (xs : List ℕ) (a : Adding s k xs t) (h : k < 16) where
  pub len-now : length_of t.lengths k ≡ length_of s.lengths k + length xs
  len-now = ap (λ (l : List ℕ). slice_index l k) a.lengths ∙ get_or-set_same s.lengths k (length_of s.lengths k + length xs) 0 (omega (arith, s.held))

  pub len-other : (j : ℕ) → (j ≢ k) → length_of t.lengths j ≡ length_of s.lengths j
  len-other j ne = ap (λ (l : List ℕ). slice_index l j) a.lengths ∙ get_or-set_other s.lengths k j (length_of s.lengths k + length xs) 0 ne

  fit : length_of s.lengths k + length xs ≤ 4096 * owned t k
  fit = let n = len-now in let f = (t.sparing k (omega arith)).0 in omega arith

  places : (j : ℕ) → j < length_of s.lengths k → place (pages_at s k) j ≡ place (pages_at t k) j
  places j lt =
      let d : length_of s.lengths k ≤ 4096 * owned s k = (s.sparing k (omega arith)).0 in
      let n : length (pages_at s k) ≡ owned s k = count-is s.table k in
      ap (λ (x : ℕ). 4096 * x + j % 4096)
      (sym (ap (λ (ps : List ℕ). slice_index ps (j / 4096)) a.pages.gained ∙ get_or_append_left (pages_at s k) (take (owned t k - owned s k) (pages_at s 48)) 0 (j / 4096) (omega arith)))

  grown : bytes_at t k ≡ bytes_at s k ++ xs
  grown =
      ap (λ (n : ℕ). content (vec_items t.region) (pages_at t k) n) len-now
      ∙ written-grown (vec_items s.region) (vec_items t.region) xs t.table k (length_of s.lengths k) (omega arith) fit a.region (pages_at s k) places

  kept : (j : ℕ) → j < 48 → (j ≢ k) → bytes_at t j ≡ bytes_at s j
  kept j hj ne =
      let n : length_of t.lengths j ≡ length_of s.lengths j = len-other j ne in
      let f : length_of t.lengths j ≤ 4096 * owned t j = (t.sparing j hj).0 in
      ap (λ (n : ℕ). content (vec_items t.region) (pages_at t j) n) n
      ∙ (written-kept (vec_items s.region) (vec_items t.region) xs t.table k (length_of s.lengths k) (omega arith) fit a.region j (length_of s.lengths j) (omega arith) ne (omega arith)
      ∙ ap (λ (ps : List ℕ). content (vec_items s.region) ps (length_of s.lengths j)) (a.pages.others j (omega arith) ne (omega arith)))

  pub added : Added (meaning_of s) k xs (meaning_of t)
  added = record {
    grown = held_in t k h ∙ (grown ∙ ap (λ (x : List ℕ). x ++ xs) (sym (held_in s k h)));
    falls = let x = room_in t k h in let y = room_in s k h in let n = len-now in let f = fit in let p = a.pages.more in let q = a.pages.fewer in omega arith;
    others = λ j ne. held_same s t j (λ hj. kept j (omega arith) ne);
    rooms = λ j ne. ⊎_elim
        (λ hj. let x = room_in t j hj in let y = room_in s j hj in let n = len-other j ne in let q = a.pages.fewer in let r = a.pages.counts j ne (omega arith) in omega arith)
        (λ hj. let x = room_out t j hj in let y = room_out s j hj in omega arith)
        (cases_lt j 16);
    names = catalog-same s t a.names (λ e he. kept (16 + e) (omega arith) (omega arith));
  }

pub added_none : (s : PageStore) (k : ℕ) → Added (meaning_of s) k [] (meaning_of s)
added_none s k = record {
  grown = sym (append-nil ((meaning_of s).held k));
  falls = add-zero ((meaning_of s).room k);
  others = λ j ne. refl;
  rooms = λ j ne. omega arith;
  names = λ n. refl;
}

pub written-nothing : (r ps : List ℕ) (at : ℕ) → Written r ps at [] r
written-nothing r ps at = record { long = refl; put = λ j h. absurd (omega arith); kept = λ i h. refl }

pub adding-none : (s : PageStore) (k : ℕ) → Adding s k [] s
adding-none s k = record {
  region = written-nothing (vec_items s.region) (pages_at s k) (length_of s.lengths k);
  pages = subst (λ (m : ℕ). Moved s.table.next s.table.chains k 48 m s.table.next s.table.chains) (omega arith) (moved_none s.table.next s.table.chains k 48);
  lengths = sym (ap (set s.lengths k) (add-zero (length_of s.lengths k)) ∙ set-get_or s.lengths k 0);
  names = refl;
}

module _ (s t : PageStore) (k : ℕ) (a : Clearing s k t) (h : k < 16) where
  cleared-len : length_of t.lengths k ≡ 0
  cleared-len = ap (λ (l : List ℕ). slice_index l k) a.lengths ∙ get_or-set_same s.lengths k 0 0 (omega (arith, s.held))

  cleared-other : (j : ℕ) → (j ≢ k) → length_of t.lengths j ≡ length_of s.lengths j
  cleared-other j ne = ap (λ (l : List ℕ). slice_index l j) a.lengths ∙ get_or-set_other s.lengths k j 0 0 ne

  cleared-kept : (j : ℕ) → j < 48 → (j ≢ k) → bytes_at t j ≡ bytes_at s j
  cleared-kept j hj ne =
      ap (λ (n : ℕ). content (vec_items t.region) (pages_at t j) n) (cleared-other j ne)
      ∙ (ap (λ (ps : List ℕ). content (vec_items t.region) ps (length_of s.lengths j)) (a.pages.others j (omega arith) (omega arith) ne)
      ∙ ap (λ (v : List ℕ). content v (pages_at s j) (length_of s.lengths j)) (ap vec_items a.region))

  pub cleared : Cleared (meaning_of s) k (meaning_of t)
  cleared = record {
    emptied = held_in t k h ∙ ap (λ (n : ℕ). content (vec_items t.region) (pages_at t k) n) cleared-len;
    rises =
        let x = room_in t k h in let y = room_in s k h in let n = cleared-len in let p = a.pages.more in let q = a.pages.fewer in
        let f : length_of s.lengths k ≤ 4096 * owned s k = (s.sparing k (omega arith)).0 in
        let l : length ((meaning_of s).held k) ≡ length_of s.lengths k = ap length (held_in s k h) ∙ length-bytes s k in
        omega arith;
    others = λ j ne. held_same s t j (λ hj. cleared-kept j (omega arith) ne);
    rooms = λ j ne. ⊎_elim
        (λ hj. let x = room_in t j hj in let y = room_in s j hj in let n = cleared-other j ne in let q = a.pages.more in let r = a.pages.counts j (omega arith) ne in omega arith)
        (λ hj. let x = room_out t j hj in let y = room_out s j hj in omega arith)
        (cases_lt j 16);
    names = catalog-same s t a.names (λ e he. cleared-kept (16 + e) (omega arith) (omega arith));
  }

pub cleared-none : (s : PageStore) (k : ℕ) → 16 ≤ k → Cleared (meaning_of s) k (meaning_of s)
cleared-none s k h = record {
  emptied = held_out s k h;
  rises = let l : length ((meaning_of s).held k) ≡ 0 = ap length (held_out s k h) in omega arith;
  others = λ j ne. refl;
  rooms = λ j ne. omega arith;
  names = λ n. refl;
}

-- the facts that go on holding when one slot's bytes change
module _ (s : PageStore) (k : ℕ) (h : k < 16) where
  pub nothing-set : (v : ℕ) → Nothing (slice_set s.lengths k v) s.names
  nothing-set v e he z = get_or-set_other s.lengths k (16 + e) v 0 (omega arith) ∙ s.nothing e he z

  pub sparing-set : (v : ℕ) (chains : List Chain) → (v ≤ 4096 * count_of chains k) × (4096 * count_of chains k < v + 4096)
      → ((j : ℕ) → j < 48 → (j ≢ k) → count_of chains j ≡ owned s j) → Sparing chains (slice_set s.lengths k v)
  sparing-set v chains here else j hj =
      ⊎_elim
      (λ e. subst (λ (x : ℕ). (length_of (slice_set s.lengths k v) x ≤ 4096 * count_of chains x) × (4096 * count_of chains x < length_of (slice_set s.lengths k v) x + 4096)) (sym e)
      (let q : length_of (slice_set s.lengths k v) k ≡ v = get_or-set_same s.lengths k v 0 (omega (arith, s.held)) in (omega (arith, here.0), omega (arith, here.1))))
      (λ ne. let q : length_of (slice_set s.lengths k v) j ≡ length_of s.lengths j = get_or-set_other s.lengths k j v 0 ne in
      let w = else j hj ne in let was = s.sparing j hj in (omega (arith, was.0), omega (arith, was.1)))
      (cases_eq j k)

pub two-pages : Two-pages
two-pages s k n l =
    ⊎_elim
    (λ h. let x = room_in s k h in
    let len : length_of s.lengths k ≡ 4100 = sym (length-bytes s k) ∙ (ap length (sym (held_in s k h)) ∙ l) in
    let few = counts-le _ _ _ (sound-of s.table) k 48 (omega arith) (omega arith) (omega arith) in
    omega (arith, s.fills, (s.sparing k (omega arith)).0))
    (λ h. let z : length ((meaning_of s).held k) ≡ 0 = ap length (held_out s k h) in absurd (omega arith))
    (cases_lt k 16)
