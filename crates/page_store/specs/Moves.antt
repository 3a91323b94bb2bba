-- A table stays sound when pages go from one owner to another.
use Rattle.std.specs.Prelude.{◌≡◌, ℕ, zero, suc, ◌+◌, ◌-◌, ◌<◌, ◌≤◌, Bool, true, false, cond, List, [], ◌++◌, length, take, drop, set, ◌⊎◌, ◌≢◌, nat_lt, slice_index, slice_index_or, slice_set, refl}
use Rattle.std.proofs.Common.{sym, ap, subst, ◌∙◌, ⊎_elim, arith, add-zero, get_or-set_same, get_or-set_other}
use Rattle.std.proofs.lemmas.Bool.{ltb-true, cond-false, cases_Bool, cases_eq, cases_lt}
use Rattle.std.proofs.lemmas.List.{append-nil, take-append-drop, get_or-append_right, get_or-take, get_or-drop, length-set, get_or_past}
use Rattle.page_store.specs.declared.chain.Chain.{Chain}
use Rattle.page_store.specs.Pages.{follow, occurs, total, blank, chain_of, count_of, pages_of, Once, Whole, Tails, Moved, Movable}
use Rattle.page_store.specs.Chains.{occurs-append, occurs-get_or, places-differ, total-ge, total-ge-two, total-move, length-follow, follow-other, follow-link, take-follow, drop-follow, get_or-follow-next}

pub record Sound (n : ℕ) (next : List ℕ) (chains : List Chain) : Type 0 where
  pub few : n ≤ 1024
  pub links : length next ≡ 1024
  pub owners : length chains ≡ 49
  pub once : Once n next chains
  pub whole : Whole n chains
  pub tails : Tails next chains

cond-le : (b : Bool) → cond {A = ℕ} b 1 0 ≤ 1
cond-le true = omega arith
cond-le false = omega arith

module _ (n : ℕ) (next : List ℕ) (chains : List Chain) (s : Sound n next chains) where
  pub length-pages : (k : ℕ) → length (pages_of next chains k) ≡ count_of chains k
  length-pages k = length-follow next (chain_of chains k).head (count_of chains k)

  pub at-most-once : (p k : ℕ) → k < 49 → occurs p (pages_of next chains k) ≤ 1
  at-most-once p k h = omega (arith, total-ge (λ k. occurs p (pages_of next chains k)) 49 k h, s.once p, cond-le (nat_lt p n))

  pub page-below : (k i : ℕ) → k < 49 → i < count_of chains k → slice_index (pages_of next chains k) i < n
  page-below k i h lt =
      let p : ℕ = slice_index_or (pages_of next chains k) i 0 in
      let there : 1 ≤ occurs p (pages_of next chains k) = occurs-get_or (pages_of next chains k) i (omega (arith, length-pages k)) in
      let sum : total (λ k. occurs p (pages_of next chains k)) 49 ≡ cond (nat_lt p n) 1 0 = s.once p in
      let ge : occurs p (pages_of next chains k) ≤ total (λ k. occurs p (pages_of next chains k)) 49 = total-ge (λ k. occurs p (pages_of next chains k)) 49 k h in
      ⊎_elim (λ e. ltb-true p n e) (λ e. let z : cond {A = ℕ} (nat_lt p n) 1 0 ≡ 0 = cond-false (nat_lt p n) 1 0 e in absurd (omega arith)) (cases_Bool (nat_lt p n))

  pub elsewhere : (k i j : ℕ) → k < 49 → j < 49 → (k ≢ j) → i < count_of chains k → occurs (slice_index (pages_of next chains k) i) (pages_of next chains j) ≡ 0
  elsewhere k i j hk hj ne lt =
      let p : ℕ = slice_index_or (pages_of next chains k) i 0 in
      let there : 1 ≤ occurs p (pages_of next chains k) = occurs-get_or (pages_of next chains k) i (omega (arith, length-pages k)) in
      omega (arith, total-ge-two (λ k. occurs p (pages_of next chains k)) 49 k j hk hj ne, s.once p, cond-le (nat_lt p n))

  pub one_place : (k a b : ℕ) → k < 49 → a < count_of chains k → b < count_of chains k → slice_index (pages_of next chains k) a ≡ slice_index (pages_of next chains k) b → a ≡ b
  one_place k a b h ha hb e = places-differ (pages_of next chains k) (λ p. at-most-once p k h) a b (omega (arith, length-pages k)) (omega (arith, length-pages k)) e

  pub own-once : (k i : ℕ) → k < 49 → i < count_of chains k → occurs (slice_index (pages_of next chains k) i) (pages_of next chains k) ≡ 1
  own-once k i h lt =
      let p : ℕ = slice_index_or (pages_of next chains k) i 0 in
      omega (arith, occurs-get_or (pages_of next chains k) i (omega (arith, length-pages k)), at-most-once p k h)

  -- soundness follows from what was moved; the tails are shown by themselves
  module _ (to from m : ℕ) (next' : List ℕ) (chains' : List Chain) (ht : to < 49) (hf : from < 49) (ne : to ≡ from → ⊥)
      (d : Moved next chains to from m next' chains') where
    pub once-moved : Once n next' chains'
    once-moved p =
        total-move (λ k. occurs p (pages_of next chains k)) (λ k. occurs p (pages_of next' chains' k)) 49 to from ht hf ne
        (λ k h nt nf. ap (occurs p) (d.others k h nt nf))
        (let a : occurs p (pages_of next' chains' to) ≡ occurs p (pages_of next chains to ++ take m (pages_of next chains from)) = ap (occurs p) d.gained in
        let b : occurs p (pages_of next' chains' from) ≡ occurs p (drop m (pages_of next chains from)) = ap (occurs p) d.rest in
        let e : occurs p (take m (pages_of next chains from) ++ drop m (pages_of next chains from)) ≡ occurs p (pages_of next chains from) = ap (occurs p) (take-append-drop m (pages_of next chains from)) in
        omega (arith, occurs-append p (pages_of next chains to) (take m (pages_of next chains from)), occurs-append p (take m (pages_of next chains from)) (drop m (pages_of next chains from))))
        ∙ s.once p

    pub whole-moved : Whole n chains'
    whole-moved =
        total-move (count_of chains) (count_of chains') 49 to from ht hf ne (λ k h nt nf. d.counts k nt nf) (omega (arith, d.more, d.fewer)) ∙ s.whole

    pub tails-moved : 0 < m → m ≤ count_of chains from
        → (chain_of chains' to).tail ≡ slice_index (pages_of next chains from) (m - 1)
        → (chain_of chains' from).tail ≡ (chain_of chains from).tail
        → ((k : ℕ) → (k ≢ to) → (k ≢ from) → chain_of chains' k ≡ chain_of chains k)
        → ((k : ℕ) → 49 ≤ k → count_of chains' k ≡ 0)
        → Tails next' chains'
    tails-moved pos le new old same past k h =
        ⊎_elim
        (λ e. subst (λ (j : ℕ). (chain_of chains' j).tail ≡ slice_index (pages_of next' chains' j) (count_of chains' j - 1)) (sym e)
        (let at : count_of chains' to - 1 ≡ count_of chains to + (m - 1) = omega (arith, d.more) in
        rw (d.gained, at, get_or-append_right (pages_of next chains to) (take m (pages_of next chains from)) (count_of chains to) (count_of chains to + (m - 1)) 0 (length-pages to) (omega arith))
        (let i : count_of chains to + (m - 1) - count_of chains to ≡ m - 1 = omega arith in
        rw (i, get_or-take m (pages_of next chains from) (m - 1) 0 (omega arith)) new)))
        (λ nt. ⊎_elim
        (λ e. subst (λ (j : ℕ). (chain_of chains' j).tail ≡ slice_index (pages_of next' chains' j) (count_of chains' j - 1)) (sym e)
        (let here : 0 < count_of chains' from = subst (λ (j : ℕ). 0 < count_of chains' j) e h in
        let at : m + (count_of chains' from - 1) ≡ count_of chains from - 1 = omega (arith, d.fewer) in
        rw (d.rest, get_or-drop m (pages_of next chains from) (count_of chains' from - 1) 0, at) (old ∙ s.tails from (omega (arith, d.fewer)))))
        (λ nf. ⊎_elim
        (λ lt. ap (λ (c : Chain). c.tail) (same k nt nf)
        ∙ (s.tails k (omega (arith, d.counts k nt nf))
        ∙ sym (rw (d.others k lt nt nf, d.counts k nt nf) refl)))
        (λ ge. absurd (omega (arith, past k ge)))
        (cases_lt k 49))
        (cases_eq k from))
        (cases_eq k to)

-- the pages that a chain has gained, and what is left, when its last page is linked to the first of another
pub occurs-take : (p m : ℕ) (xs : List ℕ) → occurs p xs ≡ 0 → occurs p (take m xs) ≡ 0
occurs-take p m xs z =
    let e : occurs p (take m xs ++ drop m xs) ≡ occurs p xs = ap (occurs p) (take-append-drop m xs) in
    omega (arith, occurs-append p (take m xs) (drop m xs))

pub occurs-drop : (p m : ℕ) (xs : List ℕ) → occurs p xs ≡ 0 → occurs p (drop m xs) ≡ 0
occurs-drop p m xs z =
    let e : occurs p (take m xs ++ drop m xs) ≡ occurs p xs = ap (occurs p) (take-append-drop m xs) in
    omega (arith, occurs-append p (take m xs) (drop m xs))

pub gained-by-link : (next : List ℕ) (t h p n f m : ℕ) → t < length next → 0 < n → t ≡ slice_index (follow next p n) (n - 1)
    → occurs t (follow next p n) ≡ 1 → occurs t (follow next h f) ≡ 0 → m ≤ f
    → follow (slice_set next t h) p (n + m) ≡ follow next p n ++ take m (follow next h f)
gained-by-link next t h p zero f m lt pos last one none le = absurd (omega arith)
gained-by-link next t h p (suc n) f m lt pos last one none le =
    let i : suc n - 1 ≡ n = omega arith in
    let end : slice_index_or (follow next p (suc n)) n 0 ≡ t = sym (last ∙ ap (λ (j : ℕ). slice_index (follow next p (suc n)) j) i) in
    let front : follow next h m ≡ take m (follow next h f) = sym (take-follow next h m f le) in
    let zero-there : occurs t (follow next h m) ≡ 0 = ap (occurs t) front ∙ occurs-take t m (follow next h f) none in
    follow-link next t h p n m lt end one ∙ ap (λ (r : List ℕ). follow next p (suc n) ++ r) (follow-other next t h h m zero-there ∙ front)

pub left_after : (next : List ℕ) (h f m j : ℕ) → 0 < m → m + j ≡ f
    → follow next (slice_index next (slice_index (follow next h f) (m - 1))) j ≡ drop m (follow next h f)
left_after next h f zero j pos e = absurd (omega arith)
left_after next h f (suc m) j pos e =
    let i : suc m - 1 ≡ m = omega arith in
    rw i (sym (drop-follow next h m f j e))

pub first-page : (next : List ℕ) (p n : ℕ) → 0 < n → p ≡ slice_index (follow next p n) 0
first-page next p zero h = absurd (omega arith)
first-page next p (suc n) h = refl

module _ (n : ℕ) (next : List ℕ) (chains : List Chain) (s : Sound n next chains) where
  pub head-page : (k : ℕ) → k < 49 → 0 < count_of chains k → ((chain_of chains k).head ≡ slice_index (pages_of next chains k) 0) × ((chain_of chains k).head < n)
  head-page k h pos =
      let e = first-page next (chain_of chains k).head (count_of chains k) pos in
      (e, subst (λ (x : ℕ). x < n) (sym e) (page-below n next chains s k 0 h pos))

  pub next-page : (k i p : ℕ) → k < 49 → i + 1 < count_of chains k → p ≡ slice_index (pages_of next chains k) i
      → (slice_index next p ≡ slice_index (pages_of next chains k) (i + 1)) × (slice_index next p < n)
  next-page k i p h lt e =
      let one : i + 1 ≡ suc i = omega arith in
      let r : slice_index_or next p 0 ≡ slice_index_or (pages_of next chains k) (i + 1) 0 =
      ap (λ (x : ℕ). slice_index next x) e ∙ (sym (get_or-follow-next next (chain_of chains k).head (count_of chains k) i (omega arith)) ∙ ap (λ (x : ℕ). slice_index (pages_of next chains k) x) (sym one)) in
      (r, subst (λ (x : ℕ). x < n) (sym r) (page-below n next chains s k (i + 1) h lt))

  pub tail-page : (k : ℕ) → k < 49 → 0 < count_of chains k → ((chain_of chains k).tail ≡ slice_index (pages_of next chains k) (count_of chains k - 1)) × ((chain_of chains k).tail < n)
  tail-page k h pos =
      let e = s.tails k pos in
      (e, subst (λ (x : ℕ). x < n) (sym e) (page-below n next chains s k (count_of chains k - 1) h (omega arith)))

  pub counts-le : (k j : ℕ) → k < 49 → j < 49 → (k ≢ j) → count_of chains k + count_of chains j ≤ n
  counts-le k j hk hj ne = omega (arith, total-ge-two (count_of chains) 49 k j hk hj ne, s.whole)

-- two rows written one after the other
module _ (chains : List Chain) (to from : ℕ) (ht : to < length chains) (hf : from < length chains) (ne : to ≡ from → ⊥) (a b : Chain) where
  pub at-to : chain_of (slice_set (slice_set chains to a) from b) to ≡ a
  at-to = get_or-set_other (slice_set chains to a) from to b blank ne ∙ get_or-set_same chains to a blank ht

  pub at_from : chain_of (slice_set (slice_set chains to a) from b) from ≡ b
  at_from = get_or-set_same (slice_set chains to a) from b blank (simp length-set hf)

  pub at-else : (k : ℕ) → (k ≢ to) → (k ≢ from) → chain_of (slice_set (slice_set chains to a) from b) k ≡ chain_of chains k
  at-else k nt nf = get_or-set_other (slice_set chains to a) from k b blank nf ∙ get_or-set_other chains to k a blank nt

-- the first m pages of an owner go to one that has none, or behind the last page of one that has some
module _ (n : ℕ) (next : List ℕ) (chains : List Chain) (s : Sound n next chains) (to from m cut : ℕ) (v : Movable chains to from m) (some : 0 < m)
    (e : cut ≡ slice_index (pages_of next chains from) (m - 1)) where
  abbrev given : Chain
  given = record { head = slice_index next cut; tail = (chain_of chains from).tail; count = count_of chains from - m }

  in-to : to < length chains
  in-to = omega (arith, s.owners, v.taker)

  in-from : from < length chains
  in-from = omega (arith, s.owners, v.giver)

  -- what is left of the giver
  left_here : follow next (slice_index next cut) (count_of chains from - m) ≡ drop m (pages_of next chains from)
  left_here =
      ap (λ (x : ℕ). follow next (slice_index next x) (count_of chains from - m)) e
      ∙ left_after next (chain_of chains from).head (count_of chains from) m (count_of chains from - m) (some) (omega (arith, v.enough))

  both-set : (a b : Chain) → length (slice_set (slice_set chains to a) from b) ≡ 49
  both-set a b = length-set (slice_set chains to a) from b ∙ (length-set chains to a ∙ s.owners)

  past-owners : (a b : Chain) (k : ℕ) → 49 ≤ k → count_of (slice_set (slice_set chains to a) from b) k ≡ 0
  past-owners a b k h = ap (λ (x : Chain). x.count) (get_or_past (slice_set (slice_set chains to a) from b) k blank (omega (arith, both-set a b)))

  pub started : count_of chains to ≡ 0
      → Moved next chains to from m next (slice_set (slice_set chains to (record { head = (chain_of chains from).head; tail = cut; count = count_of chains to + m })) from given)
  started none =
      let a : Chain = record { head = (chain_of chains from).head; tail = cut; count = count_of chains to + m } in
      let t = at-to chains to from in-to in-from v.apart a given in
      let f = at_from chains to from in-to in-from v.apart a given in
      let o = at-else chains to from in-to in-from v.apart a given in
      let nothing : pages_of next chains to ≡ [] = ap (λ (x : ℕ). follow next (chain_of chains to).head x) none in
      record {
        gained = ap (λ (x : Chain). follow next x.head x.count) t
            ∙ (ap (follow next (chain_of chains from).head) (omega arith) ∙ sym (take-follow next (chain_of chains from).head m (count_of chains from) v.enough)
            ∙ ap (λ (r : List ℕ). r ++ take m (pages_of next chains from)) (sym nothing));
        rest = ap (λ (x : Chain). follow next x.head x.count) f ∙ left_here;
        others = λ k h nt nf. ap (λ (x : Chain). follow next x.head x.count) (o k nt nf);
        more = ap (λ (x : Chain). x.count) t;
        fewer = let q : count_of (slice_set (slice_set chains to a) from given) from ≡ count_of chains from - m = ap (λ (x : Chain). x.count) f in omega (arith, v.enough);
        counts = λ k nt nf. ap (λ (x : Chain). x.count) (o k nt nf);
      }

  pub sound-started : count_of chains to ≡ 0
      → Sound n next (slice_set (slice_set chains to (record { head = (chain_of chains from).head; tail = cut; count = count_of chains to + m })) from given)
  sound-started none =
      let a : Chain = record { head = (chain_of chains from).head; tail = cut; count = count_of chains to + m } in
      let after : List Chain = set (slice_set chains to a) from given in
      let t = at-to chains to from in-to in-from v.apart a given in
      let f = at_from chains to from in-to in-from v.apart a given in
      let o = at-else chains to from in-to in-from v.apart a given in
      record {
        few = s.few;
        links = s.links;
        owners = both-set a given;
        once = once-moved n next chains s to from m next after v.taker v.giver v.apart (started none);
        whole = whole-moved n next chains s to from m next after v.taker v.giver v.apart (started none);
        tails = tails-moved n next chains s to from m next after v.taker v.giver v.apart (started none) (some) v.enough
            (ap (λ (x : Chain). x.tail) t ∙ e) (ap (λ (x : Chain). x.tail) f) o (past-owners a given);
      }

  module _ (pos : 0 < count_of chains to) where
    abbrev last : ℕ
    last = (chain_of chains to).tail

    abbrev linked : List ℕ
    linked = slice_set next last (chain_of chains from).head

    last-is : last ≡ slice_index (pages_of next chains to) (count_of chains to - 1)
    last-is = s.tails to pos

    pub last-below : last < n
    last-below = (tail-page n next chains s to v.taker pos).1

    not_in : (j : ℕ) → j < 49 → (to ≢ j) → occurs last (pages_of next chains j) ≡ 0
    not_in j h nj = ap (λ (x : ℕ). occurs x (pages_of next chains j)) last-is ∙ elsewhere n next chains s to (count_of chains to - 1) j v.taker h nj (omega arith)

    own : occurs last (pages_of next chains to) ≡ 1
    own = ap (λ (x : ℕ). occurs x (pages_of next chains to)) last-is ∙ own-once n next chains s to (count_of chains to - 1) v.taker (omega arith)

    pub appended : Moved next chains to from m linked (slice_set (slice_set chains to (record { head = (chain_of chains to).head; tail = cut; count = count_of chains to + m })) from given)
    appended =
        let a : Chain = record { head = (chain_of chains to).head; tail = cut; count = count_of chains to + m } in
        let t = at-to chains to from in-to in-from v.apart a given in
        let f = at_from chains to from in-to in-from v.apart a given in
        let o = at-else chains to from in-to in-from v.apart a given in
        let gone : occurs last (follow next (slice_index next cut) (count_of chains from - m)) ≡ 0 =
        ap (occurs last) left_here ∙ occurs-drop last m (pages_of next chains from) (not_in from v.giver v.apart) in
        record {
          gained = ap (λ (x : Chain). follow linked x.head x.count) t
              ∙ gained-by-link next last (chain_of chains from).head (chain_of chains to).head (count_of chains to) (count_of chains from) m
              (omega (arith, last-below, s.few, s.links)) pos last-is own (not_in from v.giver v.apart) v.enough;
          rest = ap (λ (x : Chain). follow linked x.head x.count) f
              ∙ (follow-other next last (chain_of chains from).head (slice_index next cut) (count_of chains from - m) gone ∙ left_here);
          others = λ k h nt nf. ap (λ (x : Chain). follow linked x.head x.count) (o k nt nf)
              ∙ follow-other next last (chain_of chains from).head (chain_of chains k).head (count_of chains k) (not_in k h (λ q. nt (sym q)));
          more = ap (λ (x : Chain). x.count) t;
          fewer = let q : count_of (slice_set (slice_set chains to a) from given) from ≡ count_of chains from - m = ap (λ (x : Chain). x.count) f in omega (arith, v.enough);
          counts = λ k nt nf. ap (λ (x : Chain). x.count) (o k nt nf);
        }

    pub sound-appended : Sound n linked (slice_set (slice_set chains to (record { head = (chain_of chains to).head; tail = cut; count = count_of chains to + m })) from given)
    sound-appended =
        let a : Chain = record { head = (chain_of chains to).head; tail = cut; count = count_of chains to + m } in
        let after : List Chain = set (slice_set chains to a) from given in
        let t = at-to chains to from in-to in-from v.apart a given in
        let f = at_from chains to from in-to in-from v.apart a given in
        let o = at-else chains to from in-to in-from v.apart a given in
        record {
          few = s.few;
          links = length-set next last (chain_of chains from).head ∙ s.links;
          owners = both-set a given;
          once = once-moved n next chains s to from m linked after v.taker v.giver v.apart appended;
          whole = whole-moved n next chains s to from m linked after v.taker v.giver v.apart appended;
          tails = tails-moved n next chains s to from m linked after v.taker v.giver v.apart appended (some) v.enough
              (ap (λ (x : Chain). x.tail) t ∙ e) (ap (λ (x : Chain). x.tail) f) o (past-owners a given);
        }

  -- the table after the move: the taker's links and head are as before, but where it had no page or had some
  abbrev pub after : ℕ → List Chain
  after h = slice_set (slice_set chains to (record { head = h; tail = cut; count = count_of chains to + m })) from given

  abbrev pub chained : List ℕ
  chained = slice_set next (chain_of chains to).tail (chain_of chains from).head

  pub spliced : (next' : List ℕ) (h : ℕ)
      → ((count_of chains to ≡ 0) × (next' ≡ next) × (h ≡ (chain_of chains from).head)) ⊎ ((0 < count_of chains to) × (next' ≡ chained) × (h ≡ (chain_of chains to).head))
      → Moved next chains to from m next' (after h) × Sound n next' (after h)
  spliced next' h either =
      ⊎_elim
      (λ p. rw (p.1, p.2) (started p.0, sound-started p.0))
      (λ p. rw (p.1, p.2) (appended p.0, sound-appended p.0))
      either

pub moved_none : (next : List ℕ) (chains : List Chain) (to from : ℕ) → Moved next chains to from 0 next chains
moved_none next chains to from = record {
  gained = sym (append-nil (pages_of next chains to));
  rest = refl;
  others = λ k h nt nf. refl;
  more = sym (add-zero (count_of chains to));
  fewer = add-zero (count_of chains from);
  counts = λ k nt nf. refl;
}
