-- How long an acknowledgement can be. Assumes nothing.
use Rattle.std.proofs.Common.{◌≡◌, ℕ, ◌+◌, ◌≤◌, Bool, true, false, List, [], ◌∷◌, ◌++◌, length, drop, Some, None, codes, decimal, Option, sym, ap, ◌∙◌, subst, arith, lit≤, length-append}
use Rattle.page.proofs.Pages.{puts-long, puts_whole}
use Rattle.page.specs.declared.Writer.{Writer}
use Rattle.page.specs.Page.{Puts, Wrote}
use Rattle.std.proofs.lemmas.Fmt.{length-decimal-le}
use Rattle.std.specs.Fmt.{digits}
use Rattle.ids.proofs.Texts.{length-hexes, length-id}
use Rattle.ids.specs.Ids.{hexes, id_text}
use Rattle.ids.specs.declared.SessionId.{SessionId}
use Rattle.outcome.specs.Outcomes.{context_of}
use Rattle.outcome.specs.declared.Refusal.{Refusal}
use Rattle.outcome.specs.declared.Status.{Status}
use Rattle.outcome.specs.declared.Status.TheVariants as status
use Rattle.reply.specs.Visible.{most}
use Rattle.ack.specs.Told.{Ack, KnownReceived, status_of, Tellable}
use Rattle.ack.specs.Text.{ack_lines, ack_text, address_lines, ended, error_lines, id_lines, least_page, only_if, range_lines, status_line}
use Rattle.ack.proofs.Lines.{ended-append}

status-long : (s : Status) → length (status_line s) ≤ 44
unfolding digits
status-long status.Ok = lit≤ tt
status-long status.BadRequest = lit≤ tt
status-long status.Forbidden = lit≤ tt
status-long status.BadRange = lit≤ tt
status-long status.ServerError = lit≤ tt
status-long status.NotImplemented = lit≤ tt
status-long status.Unavailable = lit≤ tt

only-long : (b : Bool) (l : List ℕ) → length (ended (only_if b l)) ≤ length l + 2
only-long true l = omega (arith, length-append l (codes "\r\n"))
only-long false l = omega arith

id-long : (x : Option SessionId) → length (ended (id_lines x)) ≤ 57
id-long None = omega arith
id-long (Some id) = omega (arith, length-append (id_text id) (codes "\r\n"), length-id id)

range-long : (x : Option ℕ) → KnownReceived x → length (ended (range_lines x)) ≤ 51
range-long None h = omega arith
range-long (Some n) h = omega (arith, length-append (decimal n) (codes "\r\n"), length-decimal-le 20 n (omega arith) (omega arith) h)

address-long : (s : List ℕ) → length (ended (address_lines s)) ≤ 18 + length s
address-long [] = omega arith
address-long (b ∷ s) = omega (arith, length-append s (codes "\r\n"))

error-long : (x : Option Refusal) → length (ended (error_lines x)) ≤ 49
error-long None = omega arith
error-long (Some r) =
    let context = context_of r.context in
    omega (arith, length-append (hexes 8 r.code) (codes "\r\nBITS-Error-Context: 0x" ++ (hexes 1 context ++ codes "\r\n")), length-append (hexes 1 context) (codes "\r\n"), length-hexes 8 r.code, length-hexes 1 context)

-- all but the reply address takes at most 347 bytes
sum_fits : (first protocol id encoding range address errors reply : ℕ) → first ≤ 44 → protocol ≤ 55 → id ≤ 57 → encoding ≤ 27 → range ≤ 51 → address ≤ 18 + reply → errors ≤ 49 → reply ≤ most → first + (46 + (protocol + (id + (encoding + (range + (address + errors)))))) ≤ least_page
sum_fits f p i e r a x n hf hp hi he hr ha hx hn = omega arith

six : (a b c d e f : List (List ℕ)) → length (ended (a ++ (b ++ (c ++ (d ++ (e ++ f)))))) ≡ length (ended a) + (length (ended b) + (length (ended c) + (length (ended d) + (length (ended e) + length (ended f)))))
six a b c d e f =
    let long : (xs ys : List (List ℕ)) → length (ended (xs ++ ys)) ≡ length (ended xs) + length (ended ys) = λ xs ys. ap length (ended-append xs ys) ∙ length-append (ended xs) (ended ys) in
    omega (arith, long a (b ++ (c ++ (d ++ (e ++ f)))), long b (c ++ (d ++ (e ++ f))), long c (d ++ (e ++ f)), long d (e ++ f), long e f)

framed : (first rest : List ℕ) → length ((first ++ (codes "\r\nBITS-Packet-Type: Ack\r\nContent-Length: 0\r\n" ++ rest)) ++ codes "\r\n") ≡ length first + (46 + length rest)
framed first rest =
    let long = length-append first (codes "\r\nBITS-Packet-Type: Ack\r\nContent-Length: 0\r\n" ++ rest) in
    omega (arith, length-append (first ++ (codes "\r\nBITS-Packet-Type: Ack\r\nContent-Length: 0\r\n" ++ rest)) (codes "\r\n"))

pub text-long : (a : Ack) → Tellable a → length (ack_text a) ≤ least_page
unfolding ack_text ack_lines
text-long a t =
    let first = status_line (status_of a.refusal) in
    let protocol = only_if a.opened (codes "BITS-Protocol: {7df0354d-249b-430f-820d-3d2a9bef4931}") in
    let id = id_lines a.id in
    let encoding = only_if a.opened (codes "Accept-Encoding: identity") in
    let range = range_lines a.received in
    let address = address_lines a.reply in
    let errors = error_lines a.refusal in
    let whole = framed first (ended (protocol ++ (id ++ (encoding ++ (range ++ (address ++ errors)))))) ∙ ap (λ n. length first + (46 + n)) (six protocol id encoding range address errors) in
    subst (λ n. n ≤ least_page) (sym whole)
    (sum_fits _ _ _ _ _ _ _ (length a.reply) (status-long (status_of a.refusal)) (only-long a.opened _) (id-long a.id) (only-long a.opened _) (range-long a.received t.received) (address-long a.reply) (error-long a.refusal) t.reply.short)

-- what is written at the start of a page that is long enough
pub whole-page : {v w : Writer} {p b : List ℕ} → v.page.now ≡ p → v.at ≡ 0 → Wrote v b w → length b ≤ least_page → least_page ≤ length p → (w.at ≡ length b) × (w.page.now ≡ b ++ drop (length b) p)
whole-page {v} {w} {p} {b} same start f h k =
    let g : Puts p 0 b w.page.now w.at = subst (λ q. Puts q 0 b w.page.now w.at) same (subst (λ n. Puts v.page.now n b w.page.now w.at) start f.puts) in
    (puts-long g (omega arith), puts_whole g (omega arith))
