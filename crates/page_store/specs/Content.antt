-- An owner's bytes: when two are equal, and when one is another with bytes behind it.
use Rattle.std.specs.Prelude.{◌≡◌, ℕ, ◌+◌, ◌-◌, ◌*◌, ◌/◌, ◌<◌, ◌≤◌, List, ◌++◌, length, take, drop, ◌≢◌, slice_index, slice_index_or}
use Rattle.std.proofs.Common.{sym, ap, ◌∙◌, ⊎_elim, arith}
use Rattle.std.proofs.lemmas.List.FromFn.{length-map-range_with_len, get_or-map-range_with_len}
use Rattle.std.proofs.lemmas.List.{ext_get_or, length-append, get_or_append_left, get_or-append_right, length-take-le, length-drop, get_or-take, get_or-drop}
use Rattle.std.proofs.lemmas.Bool.{cases_lt}
use Rattle.page_store.specs.declared.table.Table.{Table}
use Rattle.page_store.specs.Bytes.{place, content, Written}
use Rattle.page_store.specs.Pages.{count_of, pages_of, occurs}
use Rattle.page_store.specs.Chains.{occurs-get_or}
use Rattle.page_store.specs.Moves.{elsewhere}
use Rattle.page_store.specs.Places.{place-apart}
use Rattle.page_store.specs.Tables.{sound-of, count-is, pages-of}

pub length-content : (r ps : List ℕ) (n : ℕ) → length (content r ps n) ≡ n
length-content r ps n = length-map-range_with_len (λ (j : ℕ). slice_index r (place ps j)) 0 n

pub get_or-content : (r ps : List ℕ) (n j : ℕ) → j < n → slice_index (content r ps n) j ≡ slice_index r (place ps j)
get_or-content r ps n j h = get_or-map-range_with_len (λ (j : ℕ). slice_index r (place ps j)) 0 n j j 0 h (omega arith)

pub content-same : (r r' ps ps' : List ℕ) (n : ℕ) → ((j : ℕ) → j < n → slice_index r' (place ps' j) ≡ slice_index r (place ps j)) → content r' ps' n ≡ content r ps n
content-same r r' ps ps' n same =
    ext_get_or 0 (content r' ps' n) (content r ps n) (length-content r' ps' n ∙ sym (length-content r ps n))
    (λ j h. let lt : j < n = omega (arith, length-content r' ps' n) in get_or-content r' ps' n j lt ∙ (same j lt ∙ sym (get_or-content r ps n j lt)))

pub content-more : (r r' ps ps' xs : List ℕ) (n : ℕ) → ((j : ℕ) → j < n → slice_index r' (place ps' j) ≡ slice_index r (place ps j))
    → ((j : ℕ) → j < length xs → slice_index r' (place ps' (n + j)) ≡ slice_index xs j) → content r' ps' (n + length xs) ≡ content r ps n ++ xs
content-more r r' ps ps' xs n same new =
    let m : ℕ = n + length xs in
    ext_get_or 0 (content r' ps' m) (content r ps n ++ xs)
    (length-content r' ps' m ∙ sym (length-append (content r ps n) xs ∙ ap (λ (x : ℕ). x + length xs) (length-content r ps n)))
    (λ j h. let lt : j < m = omega (arith, length-content r' ps' m) in
    get_or-content r' ps' m j lt
    ∙ ⊎_elim
    (λ l. same j l ∙ (sym (get_or-content r ps n j l) ∙ sym (get_or_append_left (content r ps n) xs 0 j (omega (arith, length-content r ps n)))))
    (λ g. let q : n + (j - n) ≡ j = omega arith in
    ap (λ (x : ℕ). slice_index r' (place ps' x)) (sym q) ∙ (new (j - n) (omega arith)
    ∙ sym (get_or-append_right (content r ps n) xs n j 0 (length-content r ps n) g)))
    (cases_lt j n))

-- a page filled with bytes of a content from an offset on
pub filled_is : (r ps out page : List ℕ) (n offset k : ℕ) → k ≤ n - offset → k ≤ length page → length out ≡ k
    → ((j : ℕ) → j < k → slice_index out j ≡ slice_index r (place ps (offset + j)))
    → out ≡ take k (drop offset (content r ps n))
filled_is r ps out page n offset k le le' len same =
    let l : length (take k (drop offset (content r ps n))) ≡ k =
    length-take-le k (drop offset (content r ps n)) (omega (arith, length-drop offset (content r ps n), length-content r ps n)) in
    ext_get_or 0 out (take k (drop offset (content r ps n))) (len ∙ sym l)
    (λ j h. let lt : j < k = omega arith in
    same j lt ∙ (sym (get_or-content r ps n (offset + j) (omega arith)) ∙ (sym (get_or-drop offset (content r ps n) j 0) ∙ sym (get_or-take k (drop offset (content r ps n)) j 0 lt))))

pub owners-apart : (t : Table) (k j x y : ℕ) → k < 49 → j < 49 → (k ≢ j) → x < 4096 * count_of t.chains k → y < 4096 * count_of t.chains j
    → place (pages_of t.next t.chains k) x ≢ place (pages_of t.next t.chains j) y
owners-apart t k j x y hk hj ne hx hy e =
    let ps : List ℕ = pages_of t.next t.chains k in
    let qs : List ℕ = pages_of t.next t.chains j in
    let q : slice_index_or ps (x / 4096) 0 ≡ slice_index_or qs (y / 4096) 0 = omega arith in
    let there : 1 ≤ occurs (slice_index qs (y / 4096)) qs = occurs-get_or qs (y / 4096) (omega (arith, count-is t j)) in
    let none : occurs (slice_index ps (x / 4096)) qs ≡ 0 = elsewhere _ _ _ (sound-of t) k (x / 4096) j hk hj ne (omega arith) in
    let same : occurs (slice_index ps (x / 4096)) qs ≡ occurs (slice_index qs (y / 4096)) qs = ap (λ (p : ℕ). occurs p qs) q in
    omega arith

-- bytes written behind those of owner k: its content grows by them, and no other owner's changes
module _ (r r' xs : List ℕ) (t : Table) (k at : ℕ) (hk : k < 49) (fit : at + length xs ≤ 4096 * count_of t.chains k)
    (w : Written r (pages_of t.next t.chains k) at xs r') where
  pub written-grown : (ps : List ℕ) → ((j : ℕ) → j < at → place ps j ≡ place (pages_of t.next t.chains k) j)
      → content r' (pages_of t.next t.chains k) (at + length xs) ≡ content r ps at ++ xs
  written-grown ps same =
      let now : List ℕ = pages_of t.next t.chains k in
      content-more r r' ps now xs at
      (λ j h. w.kept (place now j) (λ i hi e. let q : j ≡ at + i = place-apart _ _ (pages-of t k hk) j (at + i) (omega (arith, count-is t k)) (omega (arith, count-is t k)) e in omega arith)
      ∙ ap (λ (x : ℕ). slice_index r x) (sym (same j h)))
      (λ j h. w.put j h)

  pub written-kept : (j n : ℕ) → j < 49 → (j ≢ k) → n ≤ 4096 * count_of t.chains j
      → content r' (pages_of t.next t.chains j) n ≡ content r (pages_of t.next t.chains j) n
  written-kept j n hj ne le =
      let ps : List ℕ = pages_of t.next t.chains j in
      content-same r r' ps ps n
      (λ i h. w.kept (place ps i) (λ x hx e. owners-apart t j k i (at + x) hj hk ne (omega arith) (omega arith) e))
