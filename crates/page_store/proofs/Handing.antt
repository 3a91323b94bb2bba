-- A slot's pages handed over to a row: the meaning after it, and the facts that go on holding.
use Rattle.std.proofs.Common.{◌≡◌, ℕ, zero, suc, ◌+◌, ◌*◌, ◌<◌, ◌≤◌, Bool, true, false, cond, ◌&&◌, ◌||◌, ltb, leb, ◌⊎◌, List, [], ◌∷◌, ◌++◌, length, get_or, take, set, Some, None, Option, vec_items, sym, refl, ap, ◌∙◌, subst, inl, inr, ⊎_elim, arith, get_or-set_other, get_or-set_same}
use Rattle.std.specs.List.{slice_get}
use Rattle.std.specs.Option.{is_some, option_map, option_or}
use Rattle.std.proofs.lemmas.Bool.{cond-true, cond-false, ltb-true, and_parts, cases_eq, cases_Bool, leb-true}
use Rattle.std.proofs.lemmas.List.{length-set, take_all, drop_all}
use Rattle.inline_bytes.specs.Contents.{contents}
use Rattle.inline_bytes.specs.declared.held.InlineBytes.{InlineBytes}
use Rattle.store.specs.Meaning.{Published, nameable}
use Rattle.page_store.specs.declared.chain.Chain.{Chain}
use Rattle.page_store.specs.declared.state.PageStore.{PageStore}
use Rattle.page_store.specs.Bytes.{content}
use Rattle.page_store.specs.Names.{title, row_with, vacancy, standing, target}
use Rattle.page_store.specs.Pages.{count_of, pages_of, Moved}
use Rattle.page_store.specs.State.{length_of, Sparing, Nothing, Named, Single}
use Rattle.page_store.specs.Store.{pages_at, owned, bytes_at, entry, published_at, fits_under, row_for, meaning_of, Publishing}
use Rattle.page_store.specs.Chains.{length-follow}
use Rattle.page_store.specs.Rows.{First, first_of, first-is, none_of, row_with-same, title-same, vacant_of, vacancy-stands}
use Rattle.page_store.specs.Tables.{count-is}
use Rattle.page_store.specs.Stores.{held_in, held_same, at_entry, entry-below}

slice_get-set_other : {X : Type 0} (xs : List X) (i j : ℕ) (x : X) → (j ≡ i → ⊥) → slice_get (set xs i x) j ≡ slice_get xs j
slice_get-set_other [] i j x ne = refl
slice_get-set_other (y ∷ ys) zero zero x ne = absurd (ne refl)
slice_get-set_other (y ∷ ys) zero (suc j) x ne = refl
slice_get-set_other (y ∷ ys) (suc i) zero x ne = refl
slice_get-set_other (y ∷ ys) (suc i) (suc j) x ne = slice_get-set_other ys i j x (λ q. ne (ap suc q))

same-name : (m n : List ℕ) → ◌≡◌ {A = Option (List ℕ)} (Some m) (Some n) → m ≡ n
same-name m n q = cc

-- what the row to publish in held before: the name, or none while the name stands nowhere
pub record Vacant (names : List (Option (InlineBytes 128))) (n : List ℕ) (e : ℕ) : Type 0 where
  pub within : e < length names
  pub name : title names e ≡ None
  pub nowhere : (j : ℕ) → j < length names → title names j ≡ Some n → ⊥

pub row-was : (names : List (Option (InlineBytes 128))) (n : List ℕ) (e : ℕ) → target names n ≡ Some e → First names n e ⊎ Vacant names n e
row-was names n e is =
    by-row (row_with names n) refl
  where
    by-row : (o : Option ℕ) → row_with names n ≡ o → First names n e ⊎ Vacant names n e
    by-row (Some i) q = inl (first_of names n e (q ∙ (ap (λ (o : Option ℕ). option_or o (vacancy names)) (sym q) ∙ is)))
    by-row None q =
        let v = vacant_of names e (ap (λ (o : Option ℕ). option_or o (vacancy names)) (sym q) ∙ is) in
        inr (record { within = v.0; name = v.1; nowhere = none_of names n q })

target-below : (names : List (Option (InlineBytes 128))) (n : List ℕ) (e : ℕ) → target names n ≡ Some e → e < length names
target-below names n e is = ⊎_elim (λ f. f.within) (λ v. v.within) (row-was names n e is)

-- the code's question is the rule's
some-or : (o p : Option ℕ) → is_some (option_or o p) ≡ (is_some o || is_some p)
some-or None p = refl
some-or (Some x) p = refl

unless : (b : Bool) (o : Option ℕ) → is_some (cond b o None) ≡ (b && is_some o)
unless true o = refl
unless false o = refl

apart : (a b c : Bool) → ((a && b) && c) ≡ (a && (b && c))
apart true b c = refl
apart false b c = refl

pub row_for-fits : (s : PageStore) (k : ℕ) (n : List ℕ) → is_some (row_for s k n) ≡ fits_under s k n
row_for-fits s k n =
    let full : Bool = ltb k 16 && ltb 0 (length_of s.lengths k) in
    unless (nameable n && full) (target s.names n)
    ∙ (ap (λ (b : Bool). (nameable n && full) && b)
    (some-or (row_with s.names n) (vacancy s.names)
    ∙ ap (λ (b : Bool). is_some (row_with s.names n) || b) (vacancy-stands s.names ∙ ap (λ (m : ℕ). ltb (standing s.names) m) s.rows))
    ∙ apart (nameable n) full (is_some (row_with s.names n) || ltb (standing s.names) 32))

-- what the question's yes says
pub record Can (s : PageStore) (k : ℕ) (n : List ℕ) (e : ℕ) : Type 0 where
  pub named : nameable n ≡ true
  pub slot : k < 16
  pub some : 0 < length_of s.lengths k
  pub row : target s.names n ≡ Some e
  pub within : e < 32

pub can-of : (s : PageStore) (k : ℕ) (n : List ℕ) (e : ℕ) → row_for s k n ≡ Some e → Can s k n e
can-of s k n e q =
    let full : Bool = ltb k 16 && ltb 0 (length_of s.lengths k) in
    ⊎_elim
    (λ t. let a = and_parts (nameable n) full t in
    let b = and_parts (ltb k 16) (ltb 0 (length_of s.lengths k)) a.1 in
    let is : target s.names n ≡ Some e = sym (cond-true (nameable n && full) (target s.names n) None t) ∙ q in
    record {
      named = a.0;
      slot = ltb-true k 16 b.0;
      some = ltb-true 0 (length_of s.lengths k) b.1;
      row = is;
      within = omega (arith, target-below s.names n e is, s.rows);
    })
    (λ f. let x : None ≡ Some e = sym (cond-false (nameable n && full) (target s.names n) None f) ∙ q in absurd (cc))
    (cases_Bool (nameable n && full))

pub name-some : (n : List ℕ) → nameable n ≡ true → 0 < length n
name-some n e = leb-true 1 (length n) (and_parts (leb 1 (length n)) (leb (length n) 128) e).0

pub not-empty : (n : List ℕ) → nameable n ≡ true → [] ≡ n → ⊥
not-empty n e q = let z : 0 ≡ length n = ap length q in omega (arith, name-some n e)

module _ (s t : PageStore) (k row : ℕ) (n : List ℕ) (a : Publishing s k row n t) (c : Can s k n row) where
  len-given : length_of t.lengths (16 + row) ≡ length_of s.lengths k
  len-given =
      ap (λ (l : List ℕ). get_or l (16 + row) 0) a.lengths
      ∙ (get_or-set_other (set s.lengths (16 + row) (length_of s.lengths k)) k (16 + row) 0 0 (omega (arith, c.slot))
      ∙ get_or-set_same s.lengths (16 + row) (length_of s.lengths k) 0 (omega (arith, s.held, c.within)))

  len-none : length_of t.lengths k ≡ 0
  len-none =
      ap (λ (l : List ℕ). get_or l k 0) a.lengths
      ∙ get_or-set_same (set s.lengths (16 + row) (length_of s.lengths k)) k 0 0 (simp length-set (omega (arith, s.held, c.slot)))

  len-kept : (j : ℕ) → (j ≡ k → ⊥) → (j ≡ 16 + row → ⊥) → length_of t.lengths j ≡ length_of s.lengths j
  len-kept j nk nr =
      ap (λ (l : List ℕ). get_or l j 0) a.lengths
      ∙ (get_or-set_other (set s.lengths (16 + row) (length_of s.lengths k)) k j 0 0 nk ∙ get_or-set_other s.lengths (16 + row) j (length_of s.lengths k) 0 nr)

  bytes-given : bytes_at t (16 + row) ≡ bytes_at s k
  bytes-given =
      ap (λ (x : ℕ). content (vec_items t.region) (pages_at t (16 + row)) x) len-given
      ∙ (ap (λ (ps : List ℕ). content (vec_items t.region) ps (length_of s.lengths k)) a.given
      ∙ ap (λ (v : List ℕ). content v (pages_at s k) (length_of s.lengths k)) (ap vec_items a.region))

  bytes-kept : (j : ℕ) → j < 48 → (j ≡ k → ⊥) → (j ≡ 16 + row → ⊥) → bytes_at t j ≡ bytes_at s j
  bytes-kept j hj nk nr =
      ap (λ (x : ℕ). content (vec_items t.region) (pages_at t j) x) (len-kept j nk nr)
      ∙ (ap (λ (ps : List ℕ). content (vec_items t.region) ps (length_of s.lengths j)) (a.others j hj nr nk)
      ∙ ap (λ (v : List ℕ). content v (pages_at s j) (length_of s.lengths j)) (ap vec_items a.region))

  same_row : (j : ℕ) → (j ≡ row → ⊥) → title t.names j ≡ title s.names j
  same_row j ne = title-same s.names t.names j (a.names j ne)

  at_own : (j : ℕ) → j ≡ row → title t.names j ≡ Some n
  at_own j e = ap (title t.names) e ∙ a.named

  found : row_with t.names n ≡ Some row
  found =
      first-is t.names n row (record {
        within = omega (arith, t.rows, c.within);
        name = a.named;
        before = λ j h q. ⊎_elim
            (λ f. f.before j h (sym (same_row j (omega arith)) ∙ q))
            (λ v. v.nowhere j (omega (arith, s.rows, c.within)) (sym (same_row j (omega arith)) ∙ q))
            (row-was s.names n row c.row);
      })

  -- the row had no other name
  own : (m : List ℕ) → (m ≡ n → ⊥) → title s.names row ≡ Some m → ⊥
  own m ne q =
      ⊎_elim
      (λ f. ne (same-name m n (sym q ∙ f.name)))
      (λ v. let x : None ≡ Some m = sym v.name ∙ q in cc)
      (row-was s.names n row c.row)

  stays : (m : List ℕ) → (m ≡ n → ⊥) → row_with t.names m ≡ row_with s.names m
  stays m ne =
      row_with-same s.names t.names m (t.rows ∙ sym s.rows)
      (λ j h. ⊎_elim
      (λ e. (
        λ q. absurd (ne (same-name m n (sym q ∙ at_own j e))),
        λ q. absurd (own m ne (ap (title s.names) (sym e) ∙ q)),
      ))
      (λ nr. (λ q. sym (same_row j nr) ∙ q, λ q. same_row j nr ∙ q))
      (cases_eq j row))

  pub published : Published (meaning_of s) k n (meaning_of t)
  published = record {
    stored =
        ap (published_at t) (cond-true (nameable n) (row_with t.names n) None c.named ∙ found)
        ∙ ap Some (bytes-given ∙ sym (held_in s k c.slot));
    emptied = held_in t k c.slot ∙ ap (λ (x : ℕ). content (vec_items t.region) (pages_at t k) x) len-none;
    others = λ j ne. held_same s t j (λ hj. bytes-kept j (omega arith) ne (omega arith));
    names = λ m ne. ⊎_elim
        (λ nm. ap (λ (o : Option ℕ). published_at t (cond (nameable m) o None)) (stays m ne)
        ∙ at_entry s t (entry s.names m)
        (λ f q. let b = entry-below s m f q in
        bytes-kept (16 + f) (omega (arith, b.2)) (omega (arith, c.slot))
        (λ x. let i : f ≡ row = omega arith in own m ne (ap (title s.names) (sym i) ∙ (first_of s.names m f b.1).name))))
        (λ nm. ap (published_at t) (cond-false (nameable m) (row_with t.names m) None nm)
        ∙ sym (ap (published_at s) (cond-false (nameable m) (row_with s.names m) None nm)))
        (cases_Bool (nameable m));
  }

-- the facts of the store after the two moves and the writes
module _ (s : PageStore) (k e : ℕ) (n : List ℕ) (can : Can s k n e) (new : Option (InlineBytes 128)) (name-is : option_map contents new ≡ Some n)
    (next₁ : List ℕ) (chains₁ : List Chain) (d₁ : Moved s.table.next s.table.chains 48 (16 + e) (owned s (16 + e)) next₁ chains₁)
    (next₂ : List ℕ) (chains₂ : List Chain) (d₂ : Moved next₁ chains₁ (16 + e) k (count_of chains₁ k) next₂ chains₂) where
  in_rows : e < 32
  in_rows = can.within

  k_lt : k < 16
  k_lt = can.slot

  long₁ : (j : ℕ) → length (pages_of next₁ chains₁ j) ≡ count_of chains₁ j
  long₁ j = length-follow next₁ _ (count_of chains₁ j)

  all-freed : take (owned s (16 + e)) (pages_at s (16 + e)) ≡ pages_at s (16 + e)
  all-freed = take_all (owned s (16 + e)) (pages_at s (16 + e)) (omega (arith, count-is s.table (16 + e)))

  emptied₁ : pages_of next₁ chains₁ (16 + e) ≡ []
  emptied₁ = d₁.rest ∙ drop_all (owned s (16 + e)) (pages_at s (16 + e)) (omega (arith, count-is s.table (16 + e)))

  slot₁ : pages_of next₁ chains₁ k ≡ pages_at s k
  slot₁ = let l = k_lt in d₁.others k (omega arith) (omega arith) (omega arith)

  count₁ : count_of chains₁ k ≡ owned s k
  count₁ = let l = k_lt in d₁.counts k (omega arith) (omega arith)

  pub given : pages_of next₂ chains₂ (16 + e) ≡ pages_at s k
  given =
      d₂.gained
      ∙ (ap (λ (x : List ℕ). x ++ take (count_of chains₁ k) (pages_of next₁ chains₁ k)) emptied₁
      ∙ (take_all (count_of chains₁ k) (pages_of next₁ chains₁ k) (omega (arith, long₁ k)) ∙ slot₁))

  pub none : pages_of next₂ chains₂ k ≡ []
  none = d₂.rest ∙ drop_all (count_of chains₁ k) (pages_of next₁ chains₁ k) (omega (arith, long₁ k))

  pub freed : pages_of next₂ chains₂ 48 ≡ pages_at s 48 ++ pages_at s (16 + e)
  freed = let l = k_lt in let r = in_rows in
      d₂.others 48 (omega arith) (omega arith) (omega arith) ∙ (d₁.gained ∙ ap (λ (x : List ℕ). pages_at s 48 ++ x) all-freed)

  pub others : (j : ℕ) → j < 48 → (j ≡ 16 + e → ⊥) → (j ≡ k → ⊥) → pages_of next₂ chains₂ j ≡ pages_at s j
  others j h ne nk = d₂.others j (omega arith) ne nk ∙ d₁.others j (omega arith) (omega arith) ne

  abbrev lengths₂ : List ℕ
  lengths₂ = set (set s.lengths (16 + e) (length_of s.lengths k)) k 0

  abbrev names₂ : List (Option (InlineBytes 128))
  names₂ = set s.names e new

  pub named : title names₂ e ≡ Some n
  named = ap (option_map contents) (get_or-set_same s.names e new None (omega (arith, in_rows, s.rows))) ∙ name-is

  pub names-kept : (f : ℕ) → (f ≡ e → ⊥) → slice_get names₂ f ≡ slice_get s.names f
  names-kept f ne = slice_get-set_other s.names e f new ne

  title-kept : (f : ℕ) → (f ≡ e → ⊥) → title names₂ f ≡ title s.names f
  title-kept f ne = title-same s.names names₂ f (names-kept f ne)

  at_row : length_of lengths₂ (16 + e) ≡ length_of s.lengths k
  at_row =
      let l = k_lt in
      get_or-set_other (set s.lengths (16 + e) (length_of s.lengths k)) k (16 + e) 0 0 (omega arith)
      ∙ get_or-set_same s.lengths (16 + e) (length_of s.lengths k) 0 (omega (arith, s.held, in_rows))

  at_slot : length_of lengths₂ k ≡ 0
  at_slot = get_or-set_same (set s.lengths (16 + e) (length_of s.lengths k)) k 0 0 (simp length-set (omega (arith, s.held, can.slot)))

  at-else : (j : ℕ) → (j ≡ k → ⊥) → (j ≡ 16 + e → ⊥) → length_of lengths₂ j ≡ length_of s.lengths j
  at-else j nk ne = get_or-set_other (set s.lengths (16 + e) (length_of s.lengths k)) k j 0 0 nk ∙ get_or-set_other s.lengths (16 + e) j (length_of s.lengths k) 0 ne

  pub held₂ : length lengths₂ ≡ 48
  held₂ = length-set (set s.lengths (16 + e) (length_of s.lengths k)) k 0 ∙ (length-set s.lengths (16 + e) (length_of s.lengths k) ∙ s.held)

  pub rows₂ : length names₂ ≡ 32
  rows₂ = length-set s.names e new ∙ s.rows

  pub sparing₂ : Sparing chains₂ lengths₂
  sparing₂ j h =
      let l = k_lt in
      ⊎_elim
      (λ q. subst (λ (x : ℕ). (length_of lengths₂ x ≤ 4096 * count_of chains₂ x) × (4096 * count_of chains₂ x < length_of lengths₂ x + 4096)) (sym q)
      (let z : count_of chains₂ k ≡ 0 = omega (arith, d₂.fewer) in let y = at_slot in (omega arith, omega arith)))
      (λ nk. ⊎_elim
      (λ q. subst (λ (x : ℕ). (length_of lengths₂ x ≤ 4096 * count_of chains₂ x) × (4096 * count_of chains₂ x < length_of lengths₂ x + 4096)) (sym q)
      (let was = s.sparing k (omega arith) in let y = at_row in
      let z : count_of chains₁ (16 + e) ≡ 0 = omega (arith, d₁.fewer) in
      let w : count_of chains₂ (16 + e) ≡ owned s k = omega (arith, d₂.more, count₁) in
      (omega (arith, was.0), omega (arith, was.1))))
      (λ ne. let was = s.sparing j h in
      let y = at-else j nk ne in
      let w : count_of chains₂ j ≡ owned s j = d₂.counts j ne nk ∙ d₁.counts j (omega arith) ne in
      (omega (arith, was.0), omega (arith, was.1)))
      (cases_eq j (16 + e)))
      (cases_eq j k)

  pub nothing₂ : Nothing lengths₂ names₂
  nothing₂ f h z =
      let l = k_lt in
      ⊎_elim
      (λ q. let x : Some n ≡ None = sym named ∙ (ap (title names₂) (sym q) ∙ z) in absurd (cc))
      (λ ne. at-else (16 + f) (omega arith) (omega arith) ∙ s.nothing f h (sym (title-kept f ne) ∙ z))
      (cases_eq f e)

  pub named₂ : Named names₂
  named₂ f m q =
      ⊎_elim
      (λ x. subst (λ (y : List ℕ). nameable y ≡ true) (same-name n m (sym named ∙ (ap (title names₂) (sym x) ∙ q))) can.named)
      (λ ne. s.named f m (sym (title-kept f ne) ∙ q))
      (cases_eq f e)

  -- no other row has the name
  only : (f : ℕ) → f < 32 → (f ≡ e → ⊥) → title s.names f ≡ Some n → ⊥
  only f h ne q =
      ⊎_elim
      (λ o. ne (s.single f e (h, in_rows, λ z. let x : None ≡ Some n = sym z ∙ q in cc, q ∙ sym o.name)))
      (λ v. v.nowhere f (omega (arith, s.rows)) q)
      (row-was s.names n e can.row)

  pub single₂ : Single names₂
  single₂ f g p =
      ⊎_elim
      (λ qf. ⊎_elim
      (λ qg. qf ∙ sym qg)
      (λ ng. absurd (only g p.1 ng (sym (title-kept g ng) ∙ (sym p.3 ∙ (ap (title names₂) qf ∙ named)))))
      (cases_eq g e))
      (λ nf. ⊎_elim
      (λ qg. absurd (only f p.0 nf (sym (title-kept f nf) ∙ (p.3 ∙ (ap (title names₂) qg ∙ named)))))
      (λ ng. s.single f g (p.0, p.1, λ z. p.2 (title-kept f nf ∙ z), sym (title-kept f nf) ∙ (p.3 ∙ title-kept g ng)))
      (cases_eq g e))
      (cases_eq f e)
