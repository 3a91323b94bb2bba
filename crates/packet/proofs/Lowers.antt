-- What is read of a value does not depend on its letter case.
use Rattle.std.proofs.Common.{◌≡◌, ℕ, zero, suc, ◌+◌, ◌*◌, Bool, true, false, cond, ◌&&◌, ◌||◌, eqb, ltb, leb, List, [], ◌∷◌, map, length, get_or, take, drop, Some, None, codes, Option, sym, refl, ap, ◌∙◌, arith}
use Rattle.std.proofs.lemmas.List.{length-map, take-map, drop-map}
use Rattle.std.proofs.lemmas.Bool.Decides.{nat_tests}
use Rattle.std.specs.Char.{is_ascii_digit, to_ascii_lowercase, digit_value}
use Rattle.std.specs.Str.Parse.{digits_value, digits_value_after}
use Rattle.std.specs.List.{prefix_len}
use Rattle.std.specs.Str.{bytes_eq, all_ascii_digits}
use Rattle.text.specs.Bytes.{blank, divider}
use Rattle.text.specs.Words.{same_letters}
use Rattle.text.specs.Numbers.{writes_number, decimal_of}
use Rattle.ids.specs.Ids.{id_of}
use Rattle.ids.specs.declared.SessionId.{SessionId}
use Rattle.ids.proofs.Texts.{reads-id}
use Rattle.packet.specs.Ranges.{Rest, with_rest, cut_at, before_mark, total_of, last_of, first_of, span_of, after_blanks, range_of}
use Rattle.packet.specs.Protocols.{ours, after_with, with_id, ids_from, protocols_of}
use Rattle.packet.specs.Judging.{kind_named}

low_digit : (b : ℕ) → is_ascii_digit (to_ascii_lowercase b) ≡ is_ascii_digit b
low_digit b = grind (arith, nat_tests)

low_value : (b : ℕ) → digit_value (to_ascii_lowercase b) ≡ digit_value b
low_value b = grind (arith, nat_tests)

low-blank : (b : ℕ) → blank (to_ascii_lowercase b) ≡ blank b
low-blank b = grind (arith, nat_tests)

low-divider : (b : ℕ) → divider (to_ascii_lowercase b) ≡ divider b
low-divider b = grind (arith, nat_tests)

low-hyphen : (b : ℕ) → eqb (to_ascii_lowercase b) 45 ≡ eqb b 45
low-hyphen b = grind (arith, nat_tests)

low-slash : (b : ℕ) → eqb (to_ascii_lowercase b) 47 ≡ eqb b 47
low-slash b = grind (arith, nat_tests)

low-low : (b : ℕ) → to_ascii_lowercase (to_ascii_lowercase b) ≡ to_ascii_lowercase b
low-low b = grind (arith, nat_tests)

lows : (s : List ℕ) → map to_ascii_lowercase (map to_ascii_lowercase s) ≡ map to_ascii_lowercase s
lows [] = refl
lows (b ∷ s) = ap (λ x. x ∷ map to_ascii_lowercase (map to_ascii_lowercase s)) (low-low b) ∙ ap (λ l. to_ascii_lowercase b ∷ l) (lows s)

low-leading : (p : ℕ → Bool) → ((b : ℕ) → p (to_ascii_lowercase b) ≡ p b) → (s : List ℕ) → prefix_len p (map to_ascii_lowercase s) ≡ prefix_len p s
low-leading p h [] = refl
low-leading p h (b ∷ s) = ap (λ t. cond t (1 + prefix_len p (map to_ascii_lowercase s)) 0) (h b) ∙ ap (λ n. cond (p b) (1 + n) 0) (low-leading p h s)

low-get_or : (s : List ℕ) (k : ℕ) → get_or (map to_ascii_lowercase s) k 0 ≡ to_ascii_lowercase (get_or s k 0)
low-get_or [] k = refl
low-get_or (b ∷ s) zero = refl
low-get_or (b ∷ s) (suc k) = low-get_or s k

low-digits : (s : List ℕ) → all_ascii_digits (map to_ascii_lowercase s) ≡ all_ascii_digits s
low-digits [] = refl
low-digits (b ∷ s) = ap (λ t. t && all_ascii_digits (map to_ascii_lowercase s)) (low_digit b) ∙ ap (λ t. is_ascii_digit b && t) (low-digits s)

low-number : (s : List ℕ) (n : ℕ) → digits_value_after 10 n (map to_ascii_lowercase s) ≡ digits_value_after 10 n s
low-number [] n = refl
low-number (b ∷ s) n = ap (λ d. digits_value_after 10 (n * 10 + d) (map to_ascii_lowercase s)) (low_value b) ∙ low-number s (n * 10 + digit_value b)

pub low-decimal : (s : List ℕ) → decimal_of (map to_ascii_lowercase s) ≡ decimal_of s
unfolding decimal_of
low-decimal s =
    ap (λ n. cond (leb 1 n && (leb n 19 && all_ascii_digits (map to_ascii_lowercase s))) (Some (digits_value 10 (map to_ascii_lowercase s))) None) (length-map s to_ascii_lowercase)
    ∙ ap (λ t. cond (leb 1 (length s) && (leb (length s) 19 && t)) (Some (digits_value 10 (map to_ascii_lowercase s))) None) (low-digits s)
    ∙ ap (λ x. cond (writes_number s) (Some x) None) (low-number s 0)

low-letters : (s t : List ℕ) → same_letters (map to_ascii_lowercase s) t ≡ same_letters s t
unfolding same_letters
low-letters s t = ap (λ l. bytes_eq l (map to_ascii_lowercase t)) (lows s)

abbrev low_rest : Option Rest → Option Rest
low_rest None = None
low_rest (Some r) = Some (record { number = r.number; rest = map to_ascii_lowercase r.rest })

low-with : (o : Option ℕ) (s : List ℕ) → with_rest o (map to_ascii_lowercase s) ≡ low_rest (with_rest o s)
low-with None s = refl
low-with (Some n) s = refl

low-cond : (b : Bool) (x : Option Rest) → cond b (low_rest x) None ≡ low_rest (cond b x None)
low-cond true x = refl
low-cond false x = refl

low-before : (mark : ℕ) → ((b : ℕ) → eqb (to_ascii_lowercase b) mark ≡ eqb b mark) → (s : List ℕ) → before_mark mark (map to_ascii_lowercase s) ≡ low_rest (before_mark mark s)
unfolding before_mark
low-before mark h s =
    let k = prefix_len is_ascii_digit s in
    let here : eqb (get_or (map to_ascii_lowercase s) k 0) mark ≡ eqb (get_or s k 0) mark = ap (λ b. eqb b mark) (low-get_or s k) ∙ h (get_or s k 0) in
    ap (λ n. cut_at n mark (map to_ascii_lowercase s)) (low-leading is_ascii_digit low_digit s)
    ∙ ap (λ n. cond (ltb k n && eqb (get_or (map to_ascii_lowercase s) k 0) mark) (with_rest (decimal_of (take k (map to_ascii_lowercase s))) (drop (k + 1) (map to_ascii_lowercase s))) None) (length-map s to_ascii_lowercase)
    ∙ ap (λ t. cond (ltb k (length s) && t) (with_rest (decimal_of (take k (map to_ascii_lowercase s))) (drop (k + 1) (map to_ascii_lowercase s))) None) here
    ∙ ap (λ l. cond (ltb k (length s) && eqb (get_or s k 0) mark) (with_rest (decimal_of l) (drop (k + 1) (map to_ascii_lowercase s))) None) (take-map to_ascii_lowercase k s)
    ∙ ap (λ o. cond (ltb k (length s) && eqb (get_or s k 0) mark) (with_rest o (drop (k + 1) (map to_ascii_lowercase s))) None) (low-decimal (take k s))
    ∙ ap (λ l. cond (ltb k (length s) && eqb (get_or s k 0) mark) (with_rest (decimal_of (take k s)) l) None) (drop-map to_ascii_lowercase (k + 1) s)
    ∙ ap (λ x. cond (ltb k (length s) && eqb (get_or s k 0) mark) x None) (low-with (decimal_of (take k s)) (drop (k + 1) s))
    ∙ low-cond (ltb k (length s) && eqb (get_or s k 0) mark) (with_rest (decimal_of (take k s)) (drop (k + 1) s))

low-last : (a : ℕ) (o : Option Rest) → last_of a (low_rest o) ≡ last_of a o
low-last a None = refl
low-last a (Some r) = ap (total_of a r.number) (low-decimal r.rest)

low_first : (o : Option Rest) → first_of (low_rest o) ≡ first_of o
low_first None = refl
low_first (Some r) = ap (last_of r.number) (low-before 47 low-slash r.rest) ∙ low-last r.number (before_mark 47 r.rest)

low-span : (s : List ℕ) → span_of (map to_ascii_lowercase s) ≡ span_of s
unfolding span_of
low-span s = ap first_of (low-before 45 low-hyphen s) ∙ low_first (before_mark 45 s)

low-range : (v : List ℕ) → range_of (map to_ascii_lowercase v) ≡ range_of v
unfolding range_of
low-range v =
    let w = drop 5 v in
    let n = prefix_len blank w in
    ap (λ l. cond (same_letters l (codes "bytes")) (after_blanks (prefix_len blank (drop 5 (map to_ascii_lowercase v))) (drop 5 (map to_ascii_lowercase v))) None) (take-map to_ascii_lowercase 5 v)
    ∙ ap (λ t. cond t (after_blanks (prefix_len blank (drop 5 (map to_ascii_lowercase v))) (drop 5 (map to_ascii_lowercase v))) None) (low-letters (take 5 v) (codes "bytes"))
    ∙ ap (λ l. cond (same_letters (take 5 v) (codes "bytes")) (after_blanks (prefix_len blank l) l) None) (drop-map to_ascii_lowercase 5 v)
    ∙ ap (λ k. cond (same_letters (take 5 v) (codes "bytes")) (after_blanks k (map to_ascii_lowercase w)) None) (low-leading blank low-blank w)
    ∙ ap (λ x. cond (same_letters (take 5 v) (codes "bytes")) (cond (leb 1 n) x None) None) (ap span_of (drop-map to_ascii_lowercase n w) ∙ low-span (drop n w))

low-id : (s : List ℕ) → id_of (map to_ascii_lowercase s) ≡ id_of s
low-id s = (reads-id s (id_of s) refl).caseless (map to_ascii_lowercase s) (lows s)

low-after : (next : List ℕ → Option Bool) (c : Bool) → ((w : List ℕ) → next (map to_ascii_lowercase w) ≡ next w) → (t : List ℕ) → after_with next c (map to_ascii_lowercase t) ≡ after_with next c t
low-after next c h [] = refl
low-after next c h (x ∷ t) =
    let s = x ∷ t in
    let k = prefix_len divider s in
    ap (λ n. cond (eqb n 0) None (next (drop n (map to_ascii_lowercase s)))) (low-leading divider low-divider s)
    ∙ ap (λ y. cond (eqb k 0) None y) (ap next (drop-map to_ascii_lowercase k s) ∙ h (drop k s))

low-with-id : (next : Bool → List ℕ → Option Bool) (o : Option SessionId) (b : Bool) → ((c : Bool) (w : List ℕ) → next c (map to_ascii_lowercase w) ≡ next c w) → (t : List ℕ) → with_id next o b (map to_ascii_lowercase t) ≡ with_id next o b t
low-with-id next None b h t = refl
low-with-id next (Some id) b h t = low-after (next (b || ours id)) (b || ours id) (h (b || ours id)) t

low-ids : (f : ℕ) (b : Bool) (s : List ℕ) → ids_from f b (map to_ascii_lowercase s) ≡ ids_from f b s
low-ids zero b s = refl
low-ids (suc f) b s =
    ap (λ l. with_id (ids_from f) (id_of l) b (drop 38 (map to_ascii_lowercase s))) (take-map to_ascii_lowercase 38 s)
    ∙ ap (λ o. with_id (ids_from f) o b (drop 38 (map to_ascii_lowercase s))) (low-id (take 38 s))
    ∙ ap (λ l. with_id (ids_from f) (id_of (take 38 s)) b l) (drop-map to_ascii_lowercase 38 s)
    ∙ low-with-id (ids_from f) (id_of (take 38 s)) b (low-ids f) (drop 38 s)

low-protocols : (v : List ℕ) → protocols_of (map to_ascii_lowercase v) ≡ protocols_of v
unfolding protocols_of
low-protocols v = ap (λ n. ids_from n false (map to_ascii_lowercase v)) (length-map v to_ascii_lowercase) ∙ low-ids (length v) false v

low-kind : (v : List ℕ) → kind_named (map to_ascii_lowercase v) ≡ kind_named v
unfolding kind_named same_letters
low-kind v = rw (lows v)

-- a rule that small letters do not change
pub alike : {A : Type 0} (read : List ℕ → Option A) → ((s : List ℕ) → read (map to_ascii_lowercase s) ≡ read s) → (v w : List ℕ) → map to_ascii_lowercase v ≡ map to_ascii_lowercase w → read v ≡ read w
alike read h v w e = sym (h v) ∙ ap read e ∙ h w

pub decimal-alike : (v w : List ℕ) → map to_ascii_lowercase v ≡ map to_ascii_lowercase w → decimal_of v ≡ decimal_of w
decimal-alike = alike decimal_of low-decimal

pub range-alike : (v w : List ℕ) → map to_ascii_lowercase v ≡ map to_ascii_lowercase w → range_of v ≡ range_of w
range-alike = alike range_of low-range

pub id-alike : (v w : List ℕ) → map to_ascii_lowercase v ≡ map to_ascii_lowercase w → id_of v ≡ id_of w
id-alike = alike id_of low-id

pub protocols-alike : (v w : List ℕ) → map to_ascii_lowercase v ≡ map to_ascii_lowercase w → protocols_of v ≡ protocols_of w
protocols-alike = alike protocols_of low-protocols

pub kind-alike : (v w : List ℕ) → map to_ascii_lowercase v ≡ map to_ascii_lowercase w → kind_named v ≡ kind_named w
kind-alike = alike kind_named low-kind

pub letters-alike : (t v w : List ℕ) → map to_ascii_lowercase v ≡ map to_ascii_lowercase w → same_letters v t ≡ same_letters w t
unfolding same_letters
letters-alike t v w e = ap (λ l. bytes_eq l (map to_ascii_lowercase t)) e
