-- A page table's own facts, as the lemmas take them.
use Rattle.page_store.specs.declared.table.Table.{Table}
use Rattle.std.specs.Prelude.{◌≡◌, ℕ, ◌+◌, ◌-◌, ◌*◌, ◌/◌, ◌%◌, ◌<◌, ◌≤◌, List, ◌++◌, length, take, ◌==◌, slice_index, slice_index_or}
use Rattle.std.proofs.Common.{⊎_elim, subst, sym, ap, ◌∙◌, arith}
use Rattle.std.proofs.lemmas.Bool.{cases_eq, cond-true, cond-false, eq-eqb, ne_eqb}
use Rattle.std.proofs.lemmas.List.{get_or-take, get_or_append_left, get_or-append_right}
use Rattle.page_store.specs.declared.chain.Chain.{Chain}
use Rattle.page_store.specs.Bytes.{Reachable}
use Rattle.page_store.specs.Pages.{pages_of, count_of, chain_of, start_page, Moved, Fewest}
use Rattle.page_store.specs.Moves.{Sound, length-pages, one_place, page-below, next-page, head-page, tail-page}
use Rattle.page_store.specs.Places.{Pages}

pub sound-of : (t : Table) → Sound t.pages t.next t.chains
sound-of t = record { few = t.few; links = t.links; owners = t.owners; once = t.once; whole = t.whole; tails = t.tails }

pub count-is : (t : Table) (k : ℕ) → length (pages_of t.next t.chains k) ≡ count_of t.chains k
count-is t k = length-pages _ _ _ (sound-of t) k

pub pages-of : (t : Table) (k : ℕ) → k < 49 → Pages t.pages (pages_of t.next t.chains k)
pages-of t k h = record {
  apart = λ a b ha hb e. one_place _ _ _ (sound-of t) k a b h (subst (λ (x : ℕ). a < x) (count-is t k) ha) (subst (λ (x : ℕ). b < x) (count-is t k) hb) e;
  below = λ a ha. page-below _ _ _ (sound-of t) k a h (subst (λ (x : ℕ). a < x) (count-is t k) ha);
}

-- the page after one that was used to its end
pub step-page : (t : Table) (k at m end page : ℕ) → k < 49 → end ≤ 4096 * count_of t.chains k
    → page ≡ slice_index (pages_of t.next t.chains k) (at / 4096) → at + m < end → at % 4096 + m ≡ 4096
    → (slice_index t.next page ≡ slice_index (pages_of t.next t.chains k) ((at + m) / 4096)) × (slice_index t.next page < t.pages)
step-page t k at m end page h room e lt full =
    let i : at / 4096 + 1 ≡ (at + m) / 4096 = omega arith in
    let p = next-page _ _ _ (sound-of t) k (at / 4096) page h (omega arith) e in
    (p.0 ∙ ap (λ (x : ℕ). slice_index (pages_of t.next t.chains k) x) i, p.1)

-- the page where a transfer starts
pub first_below : (t : Table) (k at first len : ℕ) → k < 49 → Reachable (pages_of t.next t.chains k) (count_of t.chains k) at first len → first < t.pages
first_below t k at first len h r =
    subst (λ (x : ℕ). x < t.pages) (sym r.start) (page-below _ _ _ (sound-of t) k (at / 4096) h (omega (arith, r.some, r.within)))

-- the page where the next byte comes to lie, after m free pages were put behind an owner's own
pub start_is : (t : Table) (k len m : ℕ) (next' : List ℕ) (chains' : List Chain) → k < 48 → Fewest (count_of t.chains k) len
    → (len % 4096 ≡ 0 → 0 < m) → m ≤ count_of t.chains 48 → Moved t.next t.chains k 48 m next' chains'
    → start_page (chain_of t.chains k) (chain_of t.chains 48) len ≡ slice_index (pages_of next' chains' k) (len / 4096)
start_is t k len m next' chains' h few some le d =
    let own : List ℕ = pages_of t.next t.chains k in
    let free : List ℕ = pages_of t.next t.chains 48 in
    let n : length own ≡ count_of t.chains k = count-is t k in
    let now-is : slice_index_or (pages_of next' chains' k) (len / 4096) 0 ≡ slice_index_or (own ++ take m free) (len / 4096) 0 = ap (λ (x : List ℕ). slice_index x (len / 4096)) d.gained in
    let lo : len ≤ 4096 * count_of t.chains k = few.enough in
    let hi : 4096 * count_of t.chains k < len + 4096 = few.needed in
    ⊎_elim
    (λ e.
    let pos : 0 < m = some e in
    let i : len / 4096 ≡ count_of t.chains k = omega arith in
    let z : len / 4096 - count_of t.chains k ≡ 0 = omega arith in
    cond-true (len % 4096 == 0) (chain_of t.chains 48).head (chain_of t.chains k).tail (eq-eqb (len % 4096) 0 e)
    ∙ ((head-page _ _ _ (sound-of t) 48 (omega arith) (omega arith)).0
    ∙ (sym (get_or-take m free 0 0 pos)
    ∙ (sym (get_or-append_right own (take m free) (count_of t.chains k) (len / 4096) 0 n (omega arith) ∙ ap (λ (x : ℕ). slice_index (take m free) x) z)
    ∙ sym now-is))))
    (λ ne.
    let pos : 0 < count_of t.chains k = omega arith in
    let i : count_of t.chains k - 1 ≡ len / 4096 = omega arith in
    cond-false (len % 4096 == 0) (chain_of t.chains 48).head (chain_of t.chains k).tail (ne_eqb (len % 4096) 0 ne)
    ∙ ((tail-page _ _ _ (sound-of t) k (omega arith) pos).0
    ∙ (ap (λ (x : ℕ). slice_index own x) i
    ∙ (sym (get_or_append_left own (take m free) 0 (len / 4096) (omega arith)) ∙ sym now-is))))
    (cases_eq (len % 4096) 0)
