-- Lines joined by line ends, and marks among them.
use Rattle.std.proofs.Common.{◌≡◌, ℕ, zero, suc, ◌+◌, ◌-◌, ◌<◌, ◌≤◌, Bool, true, false, cond, not, ◌&&◌, eqb, List, [], ◌∷◌, ◌++◌, length, take, drop, Some, None, Option, sym, refl, ap, ◌∙◌, subst, append_assoc, arith, length-append}
use Rattle.std.specs.List.{list_all}
use Rattle.std.proofs.lemmas.List.{append-nil}
use Rattle.std.proofs.lemmas.Bool.{eqb-true, and_parts, and_left, cond-true, cond-false, not-true, true≢false}
use Rattle.text.specs.Bytes.{token_byte, value_byte, blank}
use Rattle.text.proofs.Runs.{all_append, all-weaker}
use Rattle.head.specs.Marks.{front, line_end, head_mark, mark_from, with_byte, cut_lines, lines_of}
use Rattle.head.specs.Lines.{Entry}
use Rattle.head.specs.Grammar.{FieldLine, FieldLines, led, join_lines}
use Rattle.head.proofs.Fronts.{front-is, is_front}
use Rattle.head.proofs.Turns.{lines_more}

-- no byte of a line begins a line end
abbrev pub not_cr : ℕ → Bool
not_cr b = not (eqb b 13)

pub not-cr : (p : ℕ → Bool) → p 13 ≡ false → (b : ℕ) → p b ≡ true → not_cr b ≡ true
not-cr p h b t = elim (eqb b 13) as (λ v. eqb b 13 ≡ v → not v ≡ true) [
  | true ↦ λ e. absurd (true≢false (sym t ∙ ap p (eqb-true b 13 e) ∙ h))
  | false ↦ λ e. refl
] refl

pub line_clean : (line name value : List ℕ) → FieldLine line name value → list_all not_cr line ≡ true
line_clean line name value f =
    let n = all-weaker token_byte not_cr name (not-cr token_byte refl) f.token in
    let b = all-weaker blank not_cr f.before (not-cr blank refl) f.blanks-before in
    let v = all-weaker value_byte not_cr value (not-cr value_byte refl) f.plain in
    let a = all-weaker blank not_cr f.after (not-cr blank refl) f.blanks-after in
    let tail : list_all not_cr (58 ∷ (f.before ++ (value ++ f.after))) ≡ true = all_append not_cr f.before (value ++ f.after) b (all_append not_cr value f.after v a) in
    subst (λ l. list_all not_cr l ≡ true) (sym f.is) (all_append not_cr name (58 ∷ (f.before ++ (value ++ f.after))) n tail)

-- clean lines that are not empty
abbrev pub Clean : List (List ℕ) → Type 0
Clean [] = Unit {0}
Clean (l ∷ ls) = (list_all not_cr l ≡ true) × (0 < length l) × Clean ls

pub lines-clean : (at : ℕ) (ls : List (List ℕ)) (fs : List Entry) → FieldLines at ls fs → Clean ls
lines-clean at [] [] h = tt
lines-clean at [] (f ∷ fs) h = absurd h
lines-clean at (l ∷ ls) [] h = absurd h
lines-clean at (l ∷ ls) (f ∷ fs) h =
    let form = h.1 in
    let long : 0 < length l = omega (arith, ap length form.is, length-append f.name (58 ∷ (form.before ++ (f.value ++ form.after))), form.named) in
    (line_clean l f.name f.value form, long, lines-clean (at + (length l + 2)) ls fs h.2)

skip-line : (l x : List ℕ) (f : List ℕ) (r : List (List ℕ)) → list_all not_cr l ≡ true → lines_of x ≡ f ∷ r → lines_of (l ++ x) ≡ (l ++ f) ∷ r
skip-line [] x f r c e = e
skip-line (b ∷ l) x f r c e =
    let p = and_parts (not_cr b) (list_all not_cr l) c in
    cond-false _ _ _ (and_left (eqb b 13) (front (10 ∷ []) (l ++ x)) (not-true (eqb b 13) p.0)) ∙ ap (with_byte b) (skip-line l x f r p.1 e)

lines-led : (ls : List (List ℕ)) → Clean ls → lines_of (led ls) ≡ [] ∷ ls
lines-led [] c = refl
lines-led (l ∷ ls) c = ap (λ r. [] ∷ r) (skip-line l (led ls) [] ls c.0 (lines-led ls c.2) ∙ ap (λ m. m ∷ ls) (append-nil l))

pub lines_join : (l : List ℕ) (ls : List (List ℕ)) → list_all not_cr l ≡ true → Clean ls → lines_of (join_lines (l ∷ ls)) ≡ l ∷ ls
lines_join l ls h c = skip-line l (led ls) [] ls h (lines-led ls c) ∙ ap (λ m. m ∷ ls) (append-nil l)

skip-mark : (l x : List ℕ) (n : ℕ) → list_all not_cr l ≡ true → mark_from head_mark n (l ++ x) ≡ mark_from head_mark (n + length l) x
skip-mark [] x n c = ap (λ m. mark_from head_mark m x) (omega arith)
skip-mark (b ∷ l) x n c =
    let p = and_parts (not_cr b) (list_all not_cr l) c in
    let same : n + 1 + length l ≡ n + length (b ∷ l) = omega arith in
    cond-false _ _ _ (and_left (eqb b 13) (front (10 ∷ 13 ∷ 10 ∷ []) (l ++ x)) (not-true (eqb b 13) p.0)) ∙ skip-mark l x (n + 1) p.1 ∙ ap (λ m. mark_from head_mark m x) same

mark-led : (ls : List (List ℕ)) (tail : List ℕ) (n : ℕ) → Clean ls → mark_from head_mark n (led ls ++ (head_mark ++ tail)) ≡ Some (n + length (led ls))
mark-led [] tail n c = ap Some (omega arith)
mark-led ([] ∷ ls) tail n c = absurd (omega (arith, c.1))
mark-led ((b ∷ l) ∷ ls) tail n c =
    let p = and_parts (not_cr b) (list_all not_cr l) c.0 in
    let end = head_mark ++ tail in
    let same : n + 1 + 1 + length (b ∷ l) + length (led ls) ≡ n + length (led ((b ∷ l) ∷ ls)) = omega (arith, length-append l (led ls)) in
    cond-false _ _ _ (and_left (eqb b 13) (front (10 ∷ []) ((l ++ led ls) ++ end)) (not-true (eqb b 13) p.0))
    ∙ ap (mark_from head_mark (n + 1 + 1)) (append_assoc (b ∷ l) (led ls) end)
    ∙ skip-mark (b ∷ l) (led ls ++ end) (n + 1 + 1) c.0
    ∙ mark-led ls tail (n + 1 + 1 + length (b ∷ l)) c.2
    ∙ ap Some same

pub mark-join : (l : List ℕ) (ls : List (List ℕ)) (tail : List ℕ) → list_all not_cr l ≡ true → Clean ls → mark_from head_mark 0 (join_lines (l ∷ ls) ++ (head_mark ++ tail)) ≡ Some (length (join_lines (l ∷ ls)))
mark-join l ls tail h c =
    let same : 0 + length l + length (led ls) ≡ length (l ++ led ls) = omega (arith, length-append l (led ls)) in
    ap (mark_from head_mark 0) (append_assoc l (led ls) (head_mark ++ tail)) ∙ skip-mark l (led ls ++ (head_mark ++ tail)) 0 h ∙ mark-led ls tail (0 + length l) c ∙ ap Some same

-- the lines of a list, joined again, are the list
join-byte : (b : ℕ) (ls : List (List ℕ)) → join_lines (with_byte b ls) ≡ b ∷ join_lines ls
join-byte b [] = refl
join-byte b (l ∷ ls) = refl

led-join : (s : List ℕ) → led (lines_of s) ≡ line_end ++ join_lines (lines_of s)
led-join s = ap led (lines_more s) ∙ ap (λ ls. line_end ++ join_lines ls) (sym (lines_more s))

pub join-lines : (s : List ℕ) → join_lines (lines_of s) ≡ s
join-lines [] = refl
join-lines (b ∷ []) = elim (eqb b 13) as (λ v. join_lines (cond (v && false) ([] ∷ cut_lines true []) (with_byte b (cut_lines false []))) ≡ b ∷ []) [ true ↦ refl | false ↦ refl ]
join-lines (b ∷ c ∷ s) = elim (front line_end (b ∷ c ∷ s)) as (λ v. front line_end (b ∷ c ∷ s) ≡ v → join_lines (cond v ([] ∷ cut_lines true (c ∷ s)) (with_byte b (cut_lines false (c ∷ s)))) ≡ b ∷ c ∷ s) [
  | true ↦ λ e.
      let p = and_parts (eqb b 13) (eqb c 10 && true) e in
      let q = and_parts (eqb c 10) true p.1 in
      led-join s ∙ ap (λ l. 13 ∷ 10 ∷ l) (join-lines s) ∙ ap (λ x. x ∷ 10 ∷ s) (sym (eqb-true b 13 p.0)) ∙ ap (λ x. b ∷ x ∷ s) (sym (eqb-true c 10 q.0))
  | false ↦ λ e. join-byte b (lines_of (c ∷ s)) ∙ ap (λ l. b ∷ l) (join-lines (c ∷ s))
] refl

-- a mark that was found stands there
pub mark-sound : (m : List ℕ) (n : ℕ) (s : List ℕ) (k : ℕ) → mark_from m n s ≡ Some k → (a : List ℕ) × (b : List ℕ) × (s ≡ a ++ (m ++ b)) × (k ≡ n + length a)
mark-sound m n [] k e = absurd (let z : ◌≡◌ {A = ℕ} 0 1 = cc in omega arith)
mark-sound m n (x ∷ s) k e = elim (front m (x ∷ s)) as (λ v. front m (x ∷ s) ≡ v → cond v (Some n) (mark_from m (n + 1) s) ≡ Some k → (a : List ℕ) × (b : List ℕ) × (x ∷ s ≡ a ++ (m ++ b)) × (k ≡ n + length a)) [
  | true ↦ λ t f. let same : n ≡ k = cc in ([], drop (length m) (x ∷ s), front-is m (x ∷ s) t, omega arith)
  | false ↦ λ t f. let r = mark-sound m (n + 1) s k f in (x ∷ r.0, r.1, ap (λ l. x ∷ l) r.2, omega (arith, r.3))
] refl e

-- where none was found, none stands
pub mark-none : (c : ℕ) (m : List ℕ) (n : ℕ) (s : List ℕ) → mark_from (c ∷ m) n s ≡ None → (a b : List ℕ) → s ≡ a ++ ((c ∷ m) ++ b) → ⊥
mark-none c m n [] e [] b h = let z : ◌≡◌ {A = ℕ} 0 1 = cc in omega arith
mark-none c m n [] e (x ∷ a) b h = let z : ◌≡◌ {A = ℕ} 0 1 = cc in omega arith
mark-none c m n (y ∷ s) e [] b h =
    let z : ◌≡◌ {A = Option ℕ} (Some n) None = sym (cond-true _ _ _ (is_front (c ∷ m) (y ∷ s) b h)) ∙ e in
    let w : ◌≡◌ {A = ℕ} 0 1 = cc in omega arith
mark-none c m n (y ∷ s) e (x ∷ a) b h = elim (front (c ∷ m) (y ∷ s)) as (λ v. cond v (Some n) (mark_from (c ∷ m) (n + 1) s) ≡ None → ⊥) [
  | true ↦ λ f. let z : ◌≡◌ {A = ℕ} 0 1 = cc in omega arith
  | false ↦ λ f. mark-none c m (n + 1) s f a b (cc)
] e

front-short : (p u v w : List ℕ) → length p ≤ length u → front p (u ++ v) ≡ front p (u ++ w)
front-short [] u v w h = refl
front-short (c ∷ p) [] v w h = absurd (omega arith)
front-short (c ∷ p) (x ∷ u) v w h = ap (λ t. eqb x c && t) (front-short p u v w (omega arith))

-- the same mark is found whatever follows it
pub mark-again : (m a b d : List ℕ) (n : ℕ) → 0 < length m → mark_from m n (a ++ (m ++ b)) ≡ Some (n + length a) → mark_from m n (a ++ (m ++ d)) ≡ Some (n + length a)
mark-again [] a b d n s e = absurd (omega arith)
mark-again (c ∷ m) [] b d n s e = cond-true _ _ _ (is_front (c ∷ m) ((c ∷ m) ++ d) d refl) ∙ ap Some (omega arith)
mark-again (c ∷ m) (x ∷ a) b d n s e = elim (front (c ∷ m) (x ∷ (a ++ ((c ∷ m) ++ b)))) as (λ v. front (c ∷ m) (x ∷ (a ++ ((c ∷ m) ++ b))) ≡ v → cond v (Some n) (mark_from (c ∷ m) (n + 1) (a ++ ((c ∷ m) ++ b))) ≡ Some (n + length (x ∷ a)) → mark_from (c ∷ m) n (x ∷ (a ++ ((c ∷ m) ++ d))) ≡ Some (n + length (x ∷ a))) [
  | true ↦ λ t f. absurd (let z : n ≡ n + length (x ∷ a) = cc in omega arith)
  | false ↦ λ t f.
      let same : n + 1 + length a ≡ n + length (x ∷ a) = omega arith in
      let u = x ∷ (a ++ (c ∷ m)) in
      let far : length (c ∷ m) ≤ length u = omega (arith, length-append a (c ∷ m)) in
      let like : front (c ∷ m) (x ∷ (a ++ ((c ∷ m) ++ d))) ≡ front (c ∷ m) (x ∷ (a ++ ((c ∷ m) ++ b))) = ap (λ l. front (c ∷ m) (x ∷ l)) (sym (append_assoc a (c ∷ m) d)) ∙ front-short (c ∷ m) u d b far ∙ ap (λ l. front (c ∷ m) (x ∷ l)) (append_assoc a (c ∷ m) b) in
      cond-false _ _ _ (like ∙ t) ∙ mark-again (c ∷ m) a b d (n + 1) s (f ∙ ap Some (sym same)) ∙ ap Some same
] refl e

pub take-front : (u v : List ℕ) (k : ℕ) → length u ≤ k → take k (u ++ v) ≡ u ++ take (k - length u) v
take-front [] v k h = ap (λ j. take j v) (omega arith)
take-front (x ∷ u) v zero h = absurd (omega arith)
take-front (x ∷ u) v (suc k) h =
    let same : k - length u ≡ suc k - length (x ∷ u) = omega arith in
    ap (λ l. x ∷ l) (take-front u v k (omega arith) ∙ ap (λ j. u ++ take j v) same)
