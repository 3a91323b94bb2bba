-- Occurrences, sums over owners, and what a change of one link does to chains.
use Rattle.std.specs.Prelude.{◌≡◌, ℕ, zero, suc, ◌+◌, ◌<◌, ◌≤◌, cond, List, [], ◌∷◌, ◌++◌, length, take, drop, ◌==◌, ◌≢◌, slice_index, slice_set, refl}
use Rattle.std.proofs.Common.{sym, ap, subst, ◌∙◌, ⊎_elim, zero-add, suc-add, arith, get_or-set_same, get_or-set_other}
use Rattle.std.proofs.lemmas.Bool.{eq-eqb, ne_eqb, cases_eq, cond-true, cond-false}
use Rattle.page_store.specs.Pages.{follow, occurs, total}

pub occurs-append : (p : ℕ) (xs ys : List ℕ) → occurs p (xs ++ ys) ≡ occurs p xs + occurs p ys
occurs-append p [] ys = sym (zero-add (occurs p ys))
occurs-append p (x ∷ xs) ys = omega (arith, occurs-append p xs ys)

pub hit : (x : ℕ) → cond {A = ℕ} (x == x) 1 0 ≡ 1
hit x = cond-true (x == x) 1 0 (eq-eqb x x refl)

pub no_hit : (p x : ℕ) → cond {A = ℕ} (p == x) 1 0 ≡ 0 → p ≢ x
no_hit p x z e = let h : cond {A = ℕ} (p == x) 1 0 ≡ 1 = cond-true (p == x) 1 0 (eq-eqb p x e) in omega arith

pub occurs-get_or : (xs : List ℕ) (i : ℕ) → i < length xs → 1 ≤ occurs (slice_index xs i) xs
occurs-get_or [] i h = absurd (omega arith)
occurs-get_or (x ∷ xs) zero h = omega (arith, hit x)
occurs-get_or (x ∷ xs) (suc i) h = omega (arith, occurs-get_or xs i (omega arith))

-- a list in which nothing stands twice has each of its elements at one place
pub places-differ : (xs : List ℕ) → ((p : ℕ) → occurs p xs ≤ 1) → (a b : ℕ) → a < length xs → b < length xs → slice_index xs a ≡ slice_index xs b → a ≡ b
places-differ [] one a b ha hb e = absurd (omega arith)
places-differ (x ∷ xs) one zero zero ha hb e = refl
places-differ (x ∷ xs) one zero (suc b) ha hb e =
    let there : 1 ≤ occurs x xs = subst (λ (y : ℕ). 1 ≤ occurs y xs) (sym e) (occurs-get_or xs b (omega arith)) in
    absurd (omega (arith, one x, hit x))
places-differ (x ∷ xs) one (suc a) zero ha hb e =
    let there : 1 ≤ occurs x xs = subst (λ (y : ℕ). 1 ≤ occurs y xs) e (occurs-get_or xs a (omega arith)) in
    absurd (omega (arith, one x, hit x))
places-differ (x ∷ xs) one (suc a) (suc b) ha hb e =
    ap suc (places-differ xs (λ p. omega (arith, one p)) a b (omega arith) (omega arith) e)

pub total-same : (f g : ℕ → ℕ) (n : ℕ) → ((k : ℕ) → k < n → g k ≡ f k) → total g n ≡ total f n
total-same f g zero same = refl
total-same f g (suc n) same = omega (arith, total-same f g n (λ k h. same k (omega arith)), same n (omega arith))

pub total-ge : (f : ℕ → ℕ) (n i : ℕ) → i < n → f i ≤ total f n
total-ge f zero i h = absurd (omega arith)
total-ge f (suc n) i h =
    ⊎_elim
    (λ e. subst (λ (k : ℕ). f k ≤ total f n + f n) (sym e) (omega arith))
    (λ ne. let lt : i < n = omega arith in omega (arith, total-ge f n i lt))
    (cases_eq i n)

pub total-ge-two : (f : ℕ → ℕ) (n i j : ℕ) → i < n → j < n → (i ≢ j) → f i + f j ≤ total f n
total-ge-two f zero i j hi hj ne = absurd (omega arith)
total-ge-two f (suc n) i j hi hj ne =
    ⊎_elim
    (λ e. let lt : j < n = omega arith in subst (λ (k : ℕ). f k + f j ≤ total f n + f n) (sym e) (omega (arith, total-ge f n j lt)))
    (λ ni. ⊎_elim
    (λ e. let lt : i < n = omega arith in subst (λ (k : ℕ). f i + f k ≤ total f n + f n) (sym e) (omega (arith, total-ge f n i lt)))
    (λ nj. let li : i < n = omega arith in let lj : j < n = omega arith in omega (arith, total-ge-two f n i j li lj ne))
    (cases_eq j n))
    (cases_eq i n)

pub total-change : (f g : ℕ → ℕ) (n i : ℕ) → i < n → ((k : ℕ) → k < n → (k ≢ i) → g k ≡ f k) → total g n + f i ≡ total f n + g i
total-change f g zero i h same = absurd (omega arith)
total-change f g (suc n) i h same =
    ⊎_elim
    (λ e. subst (λ (k : ℕ). total g n + g n + f k ≡ total f n + f n + g k) (sym e)
    (omega (arith, total-same f g n (λ k hk. same k (omega arith) (omega arith)))))
    (λ ne. let lt : i < n = omega arith in
    omega (arith, total-change f g n i lt (λ k hk nk. same k (omega arith) nk), same n (omega arith) (λ e. ne (sym e))))
    (cases_eq i n)

-- two owners share out anew what they had
pub total-move : (f g : ℕ → ℕ) (n i j : ℕ) → i < n → j < n → (i ≢ j)
    → ((k : ℕ) → k < n → (k ≢ i) → (k ≢ j) → g k ≡ f k) → g i + g j ≡ f i + f j → total g n ≡ total f n
total-move f g n i j hi hj ne same both =
    let h : ℕ → ℕ = λ k. cond (k == i) (g k) (f k) in
    let first : total h n + f i ≡ total f n + h i = total-change f h n i hi (λ k hk nk. cond-false (k == i) (g k) (f k) (ne_eqb k i nk)) in
    let second : total g n + h j ≡ total h n + g j =
    total-change h g n j hj
    (λ k hk nk. ⊎_elim
    (λ e. sym (cond-true (k == i) (g k) (f k) (eq-eqb k i e)))
    (λ ni. same k hk ni nk ∙ sym (cond-false (k == i) (g k) (f k) (ne_eqb k i ni)))
    (cases_eq k i)) in
    let at_i : h i ≡ g i = cond-true (i == i) (g i) (f i) (eq-eqb i i refl) in
    let at_j : h j ≡ f j = cond-false (j == i) (g j) (f j) (ne_eqb j i (λ e. ne (sym e))) in
    omega arith

pub length-follow : (next : List ℕ) (p n : ℕ) → length (follow next p n) ≡ n
length-follow next p zero = refl
length-follow next p (suc n) = ap suc (length-follow next (slice_index next p) n)

pub follow-other : (next : List ℕ) (t v p n : ℕ) → occurs t (follow next p n) ≡ 0 → follow (slice_set next t v) p n ≡ follow next p n
follow-other next t v p zero h = refl
follow-other next t v p (suc n) h =
    let ne : p ≡ t → ⊥ = λ e. no_hit t p (omega arith) (sym e) in
    rw (get_or-set_other next t p v 0 ne) (ap (λ (r : List ℕ). p ∷ r) (follow-other next t v (slice_index next p) n (omega arith)))

-- a chain whose last page is linked to v goes on from v
pub follow-link : (next : List ℕ) (t v p n m : ℕ) → t < length next → slice_index (follow next p (suc n)) n ≡ t → occurs t (follow next p (suc n)) ≡ 1
    → follow (slice_set next t v) p (suc n + m) ≡ follow next p (suc n) ++ follow (slice_set next t v) v m
follow-link next t v p zero m lt e one =
    rw (suc-add zero m, zero-add m, e, get_or-set_same next t v 0 lt) refl
follow-link next t v p (suc n) m lt e one =
    let there : 1 ≤ occurs t (follow next (slice_index next p) (suc n)) =
    subst (λ (y : ℕ). 1 ≤ occurs y (follow next (slice_index next p) (suc n))) e (occurs-get_or (follow next (slice_index next p) (suc n)) n (omega (arith, length-follow next (slice_index next p) (suc n)))) in
    let ne : p ≡ t → ⊥ = λ q. no_hit t p (omega arith) (sym q) in
    rw (suc-add (suc n) m, get_or-set_other next t p v 0 ne)
    (ap (λ (r : List ℕ). p ∷ r) (follow-link next t v (slice_index next p) n m lt e (omega arith)))

pub take-follow : (next : List ℕ) (p m n : ℕ) → m ≤ n → take m (follow next p n) ≡ follow next p m
take-follow next p zero n h = refl
take-follow next p (suc m) zero h = absurd (omega arith)
take-follow next p (suc m) (suc n) h = ap (λ (r : List ℕ). p ∷ r) (take-follow next (slice_index next p) m n (omega arith))

pub drop-follow : (next : List ℕ) (p m n j : ℕ) → suc m + j ≡ n → drop (suc m) (follow next p n) ≡ follow next (slice_index next (slice_index (follow next p n) m)) j
drop-follow next p m zero j e = absurd (omega arith)
drop-follow next p zero (suc n) j e = let s : n ≡ j = omega arith in rw s refl
drop-follow next p (suc m) (suc n) j e = drop-follow next (slice_index next p) m n j (omega arith)

pub get_or-follow-next : (next : List ℕ) (p n i : ℕ) → suc i < n → slice_index (follow next p n) (suc i) ≡ slice_index next (slice_index (follow next p n) i)
get_or-follow-next next p zero i h = absurd (omega arith)
get_or-follow-next next p (suc zero) zero h = absurd (omega arith)
get_or-follow-next next p (suc (suc n)) zero h = refl
get_or-follow-next next p (suc n) (suc i) h = get_or-follow-next next (slice_index next p) n i (omega arith)
