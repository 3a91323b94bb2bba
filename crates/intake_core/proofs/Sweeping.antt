-- A table of which the first rows are swept.
use Rattle.std.proofs.Common.{◌≡◌, ℕ, zero, suc, ◌+◌, ◌<◌, ◌≤◌, Bool, true, false, cond, List, [], ◌∷◌, ◌++◌, map, length, set, None, Option, sym, refl, ap, ◌∙◌, subst, append-nil, add-one, arith, below_more}
use Rattle.std.proofs.lemmas.Bool.{true≢false}
use Rattle.store.specs.Meaning.{Meaning, Change, Cleared}
use Rattle.store.specs.Meaning.Change.{clearing}
use Rattle.session.specs.Rules.{is_expired}
use Rattle.session.specs.Sessions.{Live, row}
use Rattle.session.specs.Steps.{count_expired, swept}
use Rattle.intake_core.specs.Ticks.{Swept, sweeps}
use Rattle.intake_core.specs.Worlds.{Changed}
use Rattle.intake_core.proofs.Changes.{changed-more}

up_to : (P : ℕ → Type 0) (n : ℕ) → ((k : ℕ) → k < n → P k) → P n → (k : ℕ) → k < suc n → P k
up_to P n below here k h = below_more P n below here k (omega arith)

-- the first n rows are swept
abbrev pub swept_to : ℕ → ℕ → List (Option Live) → List (Option Live)
swept_to clock zero rs = rs
swept_to clock (suc n) [] = []
swept_to clock (suc n) (r ∷ rs) = swept clock r ∷ swept_to clock n rs

-- how many of the first n rows have expired
abbrev pub count_to : ℕ → ℕ → List (Option Live) → ℕ
count_to clock zero rs = 0
count_to clock (suc n) [] = 0
count_to clock (suc n) (r ∷ rs) = cond (is_expired clock r) 1 0 + count_to clock n rs

module _ (clock : ℕ) where
  swept-row : (n : ℕ) (rs : List (Option Live)) → row (swept_to clock n rs) n ≡ row rs n
  swept-row zero rs = refl
  swept-row (suc n) [] = refl
  swept-row (suc n) (r ∷ rs) = swept-row n rs

  swept-set : (n : ℕ) (rs : List (Option Live)) → is_expired clock (row rs n) ≡ true → set (swept_to clock n rs) n None ≡ swept_to clock (suc n) rs
  swept-set zero [] e = refl
  swept-set zero (r ∷ rs) e = ap (λ t. cond t None r ∷ rs) (sym e)
  swept-set (suc n) [] e = refl
  swept-set (suc n) (r ∷ rs) e = ap (λ l. swept clock r ∷ l) (swept-set n rs e)

  swept_kept : (n : ℕ) (rs : List (Option Live)) → is_expired clock (row rs n) ≡ false → swept_to clock n rs ≡ swept_to clock (suc n) rs
  swept_kept zero [] e = refl
  swept_kept zero (r ∷ rs) e = ap (λ t. cond t None r ∷ rs) (sym e)
  swept_kept (suc n) [] e = refl
  swept_kept (suc n) (r ∷ rs) e = ap (λ l. swept clock r ∷ l) (swept_kept n rs e)

  swept_all : (rs : List (Option Live)) → swept_to clock (length rs) rs ≡ map (swept clock) rs
  swept_all [] = refl
  swept_all (r ∷ rs) = ap (λ l. swept clock r ∷ l) (swept_all rs)

  count-more : (n : ℕ) (rs : List (Option Live)) → count_to clock (suc n) rs ≡ count_to clock n rs + cond (is_expired clock (row rs n)) 1 0
  count-more zero [] = refl
  count-more zero (r ∷ rs) = omega arith
  count-more (suc n) [] = refl
  count-more (suc n) (r ∷ rs) = omega (arith, count-more n rs)

  count-all : (rs : List (Option Live)) → count_to clock (length rs) rs ≡ count_expired clock rs
  count-all [] = refl
  count-all (r ∷ rs) = ap (λ k. cond (is_expired clock r) 1 0 + k) (count-all rs)

  count-within : (n : ℕ) (rs : List (Option Live)) → count_to clock n rs ≤ n
  count-within zero rs = omega arith
  count-within (suc n) [] = omega arith
  count-within (suc n) (r ∷ rs) = at (is_expired clock r) (count-within n rs)
    where
      at : (t : Bool) → count_to clock n rs ≤ n → cond t 1 0 + count_to clock n rs ≤ suc n
      at true h = omega arith
      at false h = omega arith

  swept-length : (n : ℕ) (rs : List (Option Live)) → length (swept_to clock n rs) ≡ length rs
  swept-length zero rs = refl
  swept-length (suc n) [] = refl
  swept-length (suc n) (r ∷ rs) = ap suc (swept-length n rs)

  -- a row past the end has no session
  expired-inside : (rs : List (Option Live)) (i : ℕ) → is_expired clock (row rs i) ≡ true → i < length rs
  expired-inside [] i e = absurd (true≢false (sym e))
  expired-inside (r ∷ rs) zero e = omega arith
  expired-inside (r ∷ rs) (suc i) e = omega (arith, expired-inside rs i e)

-- the first i rows of rs are swept, which made it vs, and their slots cleared, which made store s into t
pub record Sweeping {S : Type 0} (meaning : S → Meaning) (made : S → Change → S → Type 0) (clock : ℕ) (rs : List (Option Live)) (s : S) (i ended : ℕ) (vs : List (Option Live)) (t : S) : Type 0 where
  pub rows : vs ≡ swept_to clock i rs
  pub count : ended ≡ count_to clock i rs
  pub emptied : (k : ℕ) → k < i → is_expired clock (row rs k) ≡ true → (meaning t).held k ≡ []
  pub others : (k : ℕ) → is_expired clock (row rs k) ≡ false → (meaning t).held k ≡ (meaning s).held k
  pub names : (n : List ℕ) → (meaning t).catalog n ≡ (meaning s).catalog n
  pub account : Changed made s (sweeps clock rs i) t

module _ {S : Type 0} {meaning : S → Meaning} {made : S → Change → S → Type 0} {clock : ℕ} {rs : List (Option Live)} {s : S} {i ended : ℕ} {vs : List (Option Live)} {t : S}
    (so : Sweeping meaning made clock rs s i ended vs t) where
  pub few : ended ≤ i
  few = subst (λ k. k ≤ i) (sym so.count) (count-within clock i rs)

  -- row i is not swept yet
  same_row : is_expired clock (row vs i) ≡ is_expired clock (row rs i)
  same_row = ap (λ l. is_expired clock (row l i)) so.rows ∙ ap (is_expired clock) (swept-row clock i rs)

  pub sweeping-keeps : is_expired clock (row vs i) ≡ false → Sweeping meaning made clock rs s (i + 1) ended vs t
  sweeping-keeps e =
      let f : is_expired clock (row rs i) ≡ false = sym same_row ∙ e in
      let q : count_to clock (suc i) rs ≡ count_to clock i rs + 0 = count-more clock i rs ∙ ap (λ b. count_to clock i rs + cond b 1 0) f in
      subst (λ j. Sweeping meaning made clock rs s j ended vs t) (sym (add-one i)) (record {
        rows = so.rows ∙ swept_kept clock i rs f;
        count = omega (arith, so.count, q);
        emptied = up_to (λ k. is_expired clock (row rs k) ≡ true → (meaning t).held k ≡ []) i so.emptied (λ h. absurd (true≢false (sym h ∙ f)));
        others = so.others;
        names = so.names;
        account = subst (λ l. Changed made s l t) (sym (append-nil _) ∙ ap (λ b. sweeps clock rs i ++ cond b (clearing i ∷ []) []) (sym f)) so.account;
      })

  pub sweeping-ends : (x : S) → is_expired clock (row vs i) ≡ true → Cleared (meaning t) i (meaning x) → made t (clearing i) x → Sweeping meaning made clock rs s (i + 1) (ended + 1) (set vs i None) x
  sweeping-ends x e c m =
      let f : is_expired clock (row rs i) ≡ true = sym same_row ∙ e in
      let q : count_to clock (suc i) rs ≡ count_to clock i rs + 1 = count-more clock i rs ∙ ap (λ b. count_to clock i rs + cond b 1 0) f in
      subst (λ j. Sweeping meaning made clock rs s j (ended + 1) (set vs i None) x) (sym (add-one i)) (record {
        rows = ap (λ l. set l i None) so.rows ∙ swept-set clock i rs f;
        count = omega (arith, so.count, q);
        emptied = up_to (λ k. is_expired clock (row rs k) ≡ true → (meaning x).held k ≡ []) i
            (λ k h d. c.others k (λ z. absurd (omega arith)) ∙ so.emptied k h d) (λ d. c.emptied);
        others = λ k h. c.others k (λ z. true≢false (sym f ∙ ap (λ j. is_expired clock (row rs j)) (sym z) ∙ h)) ∙ so.others k h;
        names = λ n. c.names n ∙ so.names n;
        account = subst (λ l. Changed made s l x) (ap (λ b. sweeps clock rs i ++ cond b (clearing i ∷ []) []) (sym f)) (changed-more made s t x (sweeps clock rs i) (clearing i) so.account m);
      })

  -- all 16 rows are swept
  pub sweeping-done : length rs ≡ 16 → i ≡ 16 → Swept meaning made clock rs s ended vs t
  sweeping-done long all =
      let whole : i ≡ length rs = all ∙ sym long in
      record {
        rows = so.rows ∙ ap (λ j. swept_to clock j rs) whole ∙ swept_all clock rs;
        count = so.count ∙ ap (λ j. count_to clock j rs) whole ∙ count-all clock rs;
        emptied = λ k e. so.emptied k (omega (arith, expired-inside clock rs k e)) e;
        others = so.others;
        names = so.names;
        account = subst (λ j. Changed made s (sweeps clock rs j) t) all so.account;
      }
