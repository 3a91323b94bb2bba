-- Reading an acknowledgement's bytes again. Assumes nothing.
use Rattle.std.proofs.Common.{◌≡◌, ℕ, ◌<◌, ◌≤◌, Bool, true, false, cond, not, ◌&&◌, eqb, List, [], ◌∷◌, ◌++◌, is_some, Some, None, codes, decimal, Option, unwrap_or, sym, refl, ap, ◌∙◌, inl, inr, append_assoc, arith, lit<, lit≤}
use Rattle.std.proofs.lemmas.Fmt.{decimal_is_IsNumeral}
use Rattle.std.proofs.lemmas.Bool.{and_from, and_parts, cases_Bool, cond-true, cond-false, false≢true, not-true}
use Rattle.std.proofs.lemmas.Bool.Decides.{nat_tests}
use Rattle.std.specs.Option.{option_map, option_or}
use Rattle.std.specs.Str.Parse.{AllDigits, digits_value}
use Rattle.std.specs.Char.{digit_value}
use Rattle.std.specs.Fmt.{digits}
use Rattle.ids.proofs.Texts.{digits-hexes, id-again, value-hexes}
use Rattle.ids.specs.Ids.{filled, hexes, id_text, serial_shape, site_shape}
use Rattle.ids.specs.declared.SessionId.{SessionId}
use Rattle.outcome.specs.Outcomes.{context_of}
use Rattle.outcome.specs.declared.Context.{Context}
use Rattle.outcome.specs.declared.Context.TheVariants as context
use Rattle.outcome.specs.declared.Refusal.{Refusal}
use Rattle.outcome.specs.declared.Status.{Status}
use Rattle.outcome.specs.declared.Status.TheVariants as status
use Rattle.reply.specs.Visible.{are_visible, is_visible}
use Rattle.ack.specs.Told.{Ack, KnownId, KnownReceived, KnownRefusal, status_of, Tellable}
use Rattle.ack.specs.Text.{ack_lines, ack_text, address_lines, ended, error_lines, id_lines, only_if, range_lines, status_line}
use Rattle.ack.specs.Back.{after, context_numbered, lines_of, onto, read_lines, Sound, refusal_in, status_in, then_id, value_in}
use Rattle.ack.proofs.Long.{text-long}

-- lines without CR and LF

abbrev clean_byte : ℕ → Bool
clean_byte c = not (eqb c 13) && not (eqb c 10)

abbrev clean : List ℕ → Bool
clean [] = true
clean (c ∷ l) = clean_byte c && clean l

abbrev all_clean : List (List ℕ) → Bool
all_clean [] = true
all_clean (l ∷ ls) = clean l && all_clean ls

clean-append : (s t : List ℕ) → clean s ≡ true → clean t ≡ true → clean (s ++ t) ≡ true
clean-append [] t h k = k
clean-append (c ∷ s) t h k = and_from _ _ (and_parts _ _ h).0 (clean-append s t (and_parts _ _ h).1 k)

all_append : (xs ys : List (List ℕ)) → all_clean xs ≡ true → all_clean ys ≡ true → all_clean (xs ++ ys) ≡ true
all_append [] ys h k = k
all_append (x ∷ xs) ys h k = and_from _ _ (and_parts _ _ h).0 (all_append xs ys (and_parts _ _ h).1 k)

digit-clean : (c : ℕ) → digit_value c < 36 → clean_byte c ≡ true
digit-clean c h = grind (arith, nat_tests)

visible_clean : (c : ℕ) → is_visible c ≡ true → clean_byte c ≡ true
visible_clean c h = grind (arith, nat_tests)

clean-digits : (radix : ℕ) → radix ≤ 36 → (ds : List ℕ) → AllDigits radix ds → clean ds ≡ true
clean-digits radix k [] h = refl
clean-digits radix k (d ∷ ds) h = and_from _ _ (digit-clean d (omega (arith, h.0))) (clean-digits radix k ds h.1)

clean-hexes : (k n : ℕ) → clean (hexes k n) ≡ true
clean-hexes k n = clean-digits 16 (lit≤ tt) (hexes k n) (digits-hexes k n)

clean_visible : (s : List ℕ) → are_visible s ≡ true → clean s ≡ true
clean_visible [] h = refl
clean_visible (c ∷ s) h = and_from _ _ (visible_clean c (and_parts _ _ h).0) (clean_visible s (and_parts _ _ h).1)

clean-filled : (ps ds : List ℕ) → clean ps ≡ true → clean ds ≡ true → clean (filled ps ds) ≡ true
clean-filled [] ds h k = refl
clean-filled (p ∷ ps) [] h k = and_from _ _ (and_parts _ _ h).0 (clean-filled ps [] (and_parts _ _ h).1 k)
clean-filled (p ∷ ps) (d ∷ ds) h k =
    elim (cases_Bool (eqb p 120)) [
      | inl x ↦ ap clean (cond-true _ _ _ x) ∙ and_from _ _ (and_parts _ _ k).0 (clean-filled ps ds (and_parts _ _ h).1 (and_parts _ _ k).1)
      | inr o ↦ ap clean (cond-false _ _ _ o) ∙ and_from _ _ (and_parts _ _ h).0 (clean-filled ps (d ∷ ds) (and_parts _ _ h).1 k)
    ]

clean-id : (id : SessionId) → clean (id_text id) ≡ true
unfolding id_text
clean-id id = clean-append (filled site_shape (hexes 16 id.site)) (filled serial_shape (hexes 16 id.serial)) (clean-filled site_shape (hexes 16 id.site) refl (clean-hexes 16 id.site)) (clean-filled serial_shape (hexes 16 id.serial) refl (clean-hexes 16 id.serial))

clean-status : (s : Status) → clean (status_line s) ≡ true
unfolding digits
clean-status status.Ok = refl
clean-status status.BadRequest = refl
clean-status status.Forbidden = refl
clean-status status.BadRange = refl
clean-status status.ServerError = refl
clean-status status.NotImplemented = refl
clean-status status.Unavailable = refl

clean-only : (b : Bool) (l : List ℕ) → clean l ≡ true → all_clean (only_if b l) ≡ true
clean-only true l h = and_from _ _ h refl
clean-only false l h = refl

clean-ids : (x : Option SessionId) → all_clean (id_lines x) ≡ true
clean-ids None = refl
clean-ids (Some id) = and_from _ _ (clean-append (codes "BITS-Session-Id: ") (id_text id) refl (clean-id id)) refl

clean-range : (x : Option ℕ) → KnownReceived x → all_clean (range_lines x) ≡ true
clean-range None h = refl
clean-range (Some n) h = and_from _ _ (clean-append (codes "BITS-Received-Content-Range: ") (decimal n) refl (clean-digits 10 (lit≤ tt) (decimal n) (decimal_is_IsNumeral n h).0.1)) refl

clean-address : (s : List ℕ) → are_visible s ≡ true → all_clean (address_lines s) ≡ true
clean-address [] h = refl
clean-address (b ∷ s) h = and_from _ _ (clean-append (codes "BITS-Reply-URL: ") (b ∷ s) refl (clean_visible (b ∷ s) h)) refl

clean-errors : (x : Option Refusal) → all_clean (error_lines x) ≡ true
clean-errors None = refl
clean-errors (Some r) =
    and_from _ _ (clean-append (codes "BITS-Error: 0x") (hexes 8 r.code) refl (clean-hexes 8 r.code))
    (and_from _ _ (clean-append (codes "BITS-Error-Context: 0x") (hexes 1 (context_of r.context)) refl (clean-hexes 1 (context_of r.context))) refl)

clean-lines : (a : Ack) → Tellable a → all_clean (ack_lines a) ≡ true
unfolding ack_lines
clean-lines a t =
    and_from _ _ (clean-status (status_of a.refusal))
    (all_append (only_if a.opened _) _ (clean-only a.opened _ refl)
    (all_append (id_lines a.id) _ (clean-ids a.id)
    (all_append (only_if a.opened _) _ (clean-only a.opened _ refl)
    (all_append (range_lines a.received) _ (clean-range a.received t.received)
    (all_append (address_lines a.reply) _ (clean-address a.reply t.reply.seen) (clean-errors a.refusal))))))

-- cut into lines again

cut_line : (l s : List ℕ) → clean l ≡ true → lines_of (l ++ (codes "\r\n" ++ s)) ≡ l ∷ lines_of s
cut_line [] s h = refl
cut_line (c ∷ l) s h =
    let rest = l ++ (codes "\r\n" ++ s) in
    let parts = and_parts (clean_byte c) (clean l) h in
    let one = and_parts (not (eqb c 13)) (not (eqb c 10)) parts.0 in
    cond-false (eqb c 13) ([] ∷ lines_of rest) (cond (eqb c 10) (lines_of rest) (onto c (lines_of rest))) (not-true (eqb c 13) one.0)
    ∙ cond-false (eqb c 10) (lines_of rest) (onto c (lines_of rest)) (not-true (eqb c 10) one.1)
    ∙ ap (onto c) (cut_line l s parts.1)

cut-lines : (ls : List (List ℕ)) (s : List ℕ) → all_clean ls ≡ true → lines_of (ended ls ++ s) ≡ ls ++ lines_of s
cut-lines [] s h = refl
cut-lines (l ∷ ls) s h =
    ap lines_of (append_assoc l (codes "\r\n" ++ ended ls) s)
    ∙ cut_line l (ended ls ++ s) (and_parts _ _ h).0
    ∙ ap (λ m. l ∷ m) (cut-lines ls s (and_parts _ _ h).1)

abbrev protocol_line : List ℕ
protocol_line = codes "BITS-Protocol: {7df0354d-249b-430f-820d-3d2a9bef4931}"

abbrev encoding_line : List ℕ
encoding_line = codes "Accept-Encoding: identity"

-- the lines after the first three, and the blank one
abbrev others : Ack → List (List ℕ)
others a = only_if a.opened protocol_line ++ (id_lines a.id ++ (only_if a.opened encoding_line ++ (range_lines a.received ++ (address_lines a.reply ++ (error_lines a.refusal ++ ([] ∷ []))))))

abbrev all_lines : Ack → List (List ℕ)
all_lines a = status_line (status_of a.refusal) ∷ codes "BITS-Packet-Type: Ack" ∷ codes "Content-Length: 0" ∷ others a

regroup : (p i e r d x b : List (List ℕ)) → (p ++ (i ++ (e ++ (r ++ (d ++ x))))) ++ b ≡ p ++ (i ++ (e ++ (r ++ (d ++ (x ++ b)))))
regroup p i e r d x b = simp append_assoc

cut-text : (a : Ack) → Tellable a → lines_of (ack_text a) ≡ all_lines a
unfolding ack_text ack_lines
cut-text a t =
    cut-lines (ack_lines a) (codes "\r\n") (clean-lines a t)
    ∙ ap (λ l. status_line (status_of a.refusal) ∷ codes "BITS-Packet-Type: Ack" ∷ codes "Content-Length: 0" ∷ l)
    (regroup (only_if a.opened protocol_line) (id_lines a.id) (only_if a.opened encoding_line) (range_lines a.received) (address_lines a.reply) (error_lines a.refusal) ([] ∷ []))

-- a front in the lines

-- the two differ at a place that both have
abbrev conflict : List ℕ → List ℕ → Bool
conflict [] qs = false
conflict (p ∷ ps) [] = false
conflict (p ∷ ps) (q ∷ qs) = cond (eqb q p) (conflict ps qs) true

after_none : (ps qs v : List ℕ) → conflict ps qs ≡ true → after ps (qs ++ v) ≡ None
after_none [] qs v h = absurd (false≢true h)
after_none (p ∷ ps) [] v h = absurd (false≢true h)
after_none (p ∷ ps) (q ∷ qs) v h =
    elim (cases_Bool (eqb q p)) [
      | inl e ↦ cond-true (eqb q p) (after ps (qs ++ v)) None e ∙ after_none ps qs v (sym (cond-true (eqb q p) (conflict ps qs) true e) ∙ h)
      | inr o ↦ cond-false (eqb q p) (after ps (qs ++ v)) None o
    ]

abbrev Misses : List ℕ → List (List ℕ) → Type 0
Misses front [] = Unit {0}
Misses front (l ∷ ls) = (after front l ≡ None) × Misses front ls

skip : (front : List ℕ) (ls rest : List (List ℕ)) → Misses front ls → value_in front (ls ++ rest) ≡ value_in front rest
skip front [] rest h = refl
skip front (l ∷ ls) rest h = ap (λ x. option_or x (value_in front (ls ++ rest))) h.0 ∙ skip front ls rest h.1

miss-only : (front l : List ℕ) (b : Bool) → after front l ≡ None → Misses front (only_if b l)
miss-only front l true h = (h, tt)
miss-only front l false h = tt

miss-id : (front : List ℕ) (x : Option SessionId) → conflict front (codes "BITS-Session-Id: ") ≡ true → Misses front (id_lines x)
miss-id front None h = tt
miss-id front (Some id) h = (after_none front (codes "BITS-Session-Id: ") (id_text id) h, tt)

miss-range : (front : List ℕ) (x : Option ℕ) → conflict front (codes "BITS-Received-Content-Range: ") ≡ true → Misses front (range_lines x)
miss-range front None h = tt
miss-range front (Some n) h = (after_none front (codes "BITS-Received-Content-Range: ") (decimal n) h, tt)

miss-address : (front s : List ℕ) → conflict front (codes "BITS-Reply-URL: ") ≡ true → Misses front (address_lines s)
miss-address front [] h = tt
miss-address front (b ∷ s) h = (after_none front (codes "BITS-Reply-URL: ") (b ∷ s) h, tt)

miss-error : (front : List ℕ) (x : Option Refusal) → conflict front (codes "BITS-Error: 0x") ≡ true → conflict front (codes "BITS-Error-Context: 0x") ≡ true → Misses front (error_lines x)
miss-error front None h k = tt
miss-error front (Some r) h k = (after_none front (codes "BITS-Error: 0x") (hexes 8 r.code) h, (after_none front (codes "BITS-Error-Context: 0x") (hexes 1 (context_of r.context)) k, tt))

abbrev front_opened : List ℕ
front_opened = codes "BITS-Protocol: "

abbrev front_id : List ℕ
front_id = codes "BITS-Session-Id: "

abbrev front_range : List ℕ
front_range = codes "BITS-Received-Content-Range: "

abbrev front_reply : List ℕ
front_reply = codes "BITS-Reply-URL: "

abbrev front_code : List ℕ
front_code = codes "BITS-Error: 0x"

abbrev front_context : List ℕ
front_context = codes "BITS-Error-Context: 0x"

-- the lines from each kind on

abbrev from_error : Ack → List (List ℕ)
from_error a = error_lines a.refusal ++ ([] ∷ [])

abbrev from_address : Ack → List (List ℕ)
from_address a = address_lines a.reply ++ from_error a

abbrev from_range : Ack → List (List ℕ)
from_range a = range_lines a.received ++ from_address a

abbrev from_encoding : Ack → List (List ℕ)
from_encoding a = only_if a.opened encoding_line ++ from_range a

abbrev from_id : Ack → List (List ℕ)
from_id a = id_lines a.id ++ from_encoding a

to-id : (front : List ℕ) (a : Ack) → after front protocol_line ≡ None → value_in front (others a) ≡ value_in front (from_id a)
to-id front a h = skip front (only_if a.opened protocol_line) (from_id a) (miss-only front protocol_line a.opened h)

to-range : (front : List ℕ) (a : Ack) → conflict front front_id ≡ true → after front encoding_line ≡ None → value_in front (from_id a) ≡ value_in front (from_range a)
to-range front a h k = skip front (id_lines a.id) (from_encoding a) (miss-id front a.id h) ∙ skip front (only_if a.opened encoding_line) (from_range a) (miss-only front encoding_line a.opened k)

to-address : (front : List ℕ) (a : Ack) → conflict front front_range ≡ true → value_in front (from_range a) ≡ value_in front (from_address a)
to-address front a h = skip front (range_lines a.received) (from_address a) (miss-range front a.received h)

to-error : (front : List ℕ) (a : Ack) → conflict front front_reply ≡ true → value_in front (from_address a) ≡ value_in front (from_error a)
to-error front a h = skip front (address_lines a.reply) (from_error a) (miss-address front a.reply h)

past-error : (front : List ℕ) (a : Ack) → conflict front front_code ≡ true → conflict front front_context ≡ true → value_in front (from_error a) ≡ value_in front ([] ∷ [])
past-error front a h k = skip front (error_lines a.refusal) ([] ∷ []) (miss-error front a.refusal h k)

-- what is read

opened_in : (b : Bool) (rest : List (List ℕ)) → value_in front_opened rest ≡ None → is_some (value_in front_opened (only_if b protocol_line ++ rest)) ≡ b
opened_in true rest h = refl
opened_in false rest h = ap is_some h

read_opened : (a : Ack) → is_some (value_in front_opened (all_lines a)) ≡ a.opened
read_opened a = opened_in a.opened (from_id a) (to-range front_opened a refl refl ∙ to-address front_opened a refl ∙ to-error front_opened a refl ∙ past-error front_opened a refl refl)

id-in : (x : Option SessionId) → KnownId x → (rest : List (List ℕ)) → value_in front_id rest ≡ None → then_id (value_in front_id (id_lines x ++ rest)) ≡ x
id-in None k rest h = ap then_id h
id-in (Some id) k rest h = id-again id k

read-id : (a : Ack) → Tellable a → then_id (value_in front_id (all_lines a)) ≡ a.id
read-id a t =
    let none = skip front_id (only_if a.opened encoding_line) (from_range a) (miss-only front_id encoding_line a.opened refl) ∙ to-address front_id a refl ∙ to-error front_id a refl ∙ past-error front_id a refl refl in
    ap then_id (to-id front_id a refl) ∙ id-in a.id t.id (from_encoding a) none

range-in : (x : Option ℕ) → KnownReceived x → (rest : List (List ℕ)) → value_in front_range rest ≡ None → option_map (digits_value 10) (value_in front_range (range_lines x ++ rest)) ≡ x
range-in None k rest h = ap (option_map (digits_value 10)) h
range-in (Some n) k rest h = ap Some (decimal_is_IsNumeral n k).1

read-received : (a : Ack) → Tellable a → option_map (digits_value 10) (value_in front_range (all_lines a)) ≡ a.received
read-received a t =
    let none = to-error front_range a refl ∙ past-error front_range a refl refl in
    ap (option_map (digits_value 10)) (to-id front_range a refl ∙ to-range front_range a refl refl) ∙ range-in a.received t.received (from_address a) none

address-in : (s : List ℕ) (rest : List (List ℕ)) → value_in front_reply rest ≡ None → unwrap_or (value_in front_reply (address_lines s ++ rest)) [] ≡ s
address-in [] rest h = ap (λ x. unwrap_or x []) h
address-in (b ∷ s) rest h = refl

read-reply : (a : Ack) → unwrap_or (value_in front_reply (all_lines a)) [] ≡ a.reply
read-reply a = ap (λ x. unwrap_or x []) (to-id front_reply a refl ∙ to-range front_reply a refl refl ∙ to-address front_reply a refl) ∙ address-in a.reply (from_error a) (past-error front_reply a refl refl)

status-again : (s : Status) (rest : List (List ℕ)) → status_in (status_line s ∷ rest) ≡ s
unfolding digits
status-again status.Ok rest = refl
status-again status.BadRequest rest = refl
status-again status.Forbidden rest = refl
status-again status.BadRange rest = refl
status-again status.ServerError rest = refl
status-again status.NotImplemented rest = refl
status-again status.Unavailable rest = refl

context-again : (c : Context) → context_numbered (digits_value 16 (hexes 1 (context_of c))) ≡ c
context-again context.Intake = ap context_numbered (value-hexes 1 5 (lit< tt))
context-again context.Approver = ap context_numbered (value-hexes 1 7 (lit< tt))

to-errors : (front : List ℕ) (a : Ack) → after front protocol_line ≡ None → conflict front front_id ≡ true → after front encoding_line ≡ None → conflict front front_range ≡ true → conflict front front_reply ≡ true → value_in front (others a) ≡ value_in front (from_error a)
to-errors front a h i k r d = to-id front a h ∙ to-range front a i k ∙ to-address front a r ∙ to-error front a d

-- a refusal from what its lines have
abbrev refusal_from : Status → Option (List ℕ) → Option (List ℕ) → Option Refusal
refusal_from s code by = option_map (λ c. record { status = s; code = digits_value 16 c; context = context_numbered (digits_value 16 (unwrap_or by [])) }) code

refusal-in : (x : Option Refusal) → KnownRefusal x → refusal_from (status_of x) (value_in front_code (error_lines x ++ ([] ∷ []))) (value_in front_context (error_lines x ++ ([] ∷ []))) ≡ x
refusal-in None k = refl
refusal-in (Some r) k = λ j. Some (record { status = r.status; code = value-hexes 8 r.code k j; context = context-again r.context j })

read-refusal : (a : Ack) → Tellable a → refusal_in (all_lines a) ≡ a.refusal
read-refusal a t =
    (λ j. refusal_from (status-again (status_of a.refusal) (codes "BITS-Packet-Type: Ack" ∷ codes "Content-Length: 0" ∷ others a) j) (to-errors front_code a refl refl refl refl refl j) (to-errors front_context a refl refl refl refl refl j))
    ∙ refusal-in a.refusal t.refusal

read-lines : (a : Ack) → Tellable a → read_lines (all_lines a) ≡ a
read-lines a t = λ j. record { refusal = read-refusal a t j; opened = read_opened a j; id = read-id a t j; received = read-received a t j; reply = read-reply a j }

pub sound : (a : Ack) → Tellable a → Sound a
sound a t =
    let again : (b : Ack) → Tellable b → read_lines (lines_of (ack_text b)) ≡ b = λ b h. ap read_lines (cut-text b h) ∙ read-lines b h in
    record {
      tellable = t;
      fits = text-long a t;
      read = again a t;
      only = λ b h e. sym (again b h) ∙ ap (λ l. read_lines (lines_of l)) e ∙ again a t;
    }
