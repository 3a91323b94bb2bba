-- Lines one after another. Assumes nothing.
use Rattle.std.proofs.Common.{◌≡◌, ℕ, Bool, true, false, cond, List, [], ◌∷◌, ◌++◌, length, codes, Option, sym, refl, ap, ◌∙◌, append_assoc}
use Rattle.ids.specs.declared.SessionId.{SessionId}
use Rattle.outcome.specs.declared.Refusal.{Refusal}
use Rattle.ack.specs.declared.told.Progress.{Progress}
use Rattle.ack.specs.Told.{received_of, reply_of, status_of, told}
use Rattle.ack.specs.Text.{ack_lines, ack_text, address_lines, ended, error_lines, found_lines, id_lines, only_if, range_lines, status_line}

pub ended-append : (xs ys : List (List ℕ)) → ended (xs ++ ys) ≡ ended xs ++ ended ys
ended-append [] ys = refl
ended-append (x ∷ xs) ys = ap (λ l. x ++ (codes "\r\n" ++ l)) (ended-append xs ys) ∙ sym (append_assoc x (codes "\r\n" ++ ended xs) (ended ys))

-- an address that is not empty has a line
pub address_line : (s : List ℕ) → (length s ≡ 0 → ⊥) → codes "BITS-Reply-URL: " ++ (s ++ codes "\r\n") ≡ ended (address_lines s)
address_line [] h = absurd (h refl)
address_line (b ∷ s) h = refl

ended-then : (xs ys : List (List ℕ)) (t : List ℕ) → t ≡ ended ys ++ codes "\r\n" → ended xs ++ t ≡ ended (xs ++ ys) ++ codes "\r\n"
ended-then xs ys t e = ap (λ l. ended xs ++ l) e ∙ sym (append_assoc (ended xs) (ended ys) (codes "\r\n")) ∙ ap (λ l. l ++ codes "\r\n") (sym (ended-append xs ys))

only-protocol : (b : Bool) → cond b (codes "BITS-Protocol: {7df0354d-249b-430f-820d-3d2a9bef4931}\r\n") [] ≡ ended (only_if b (codes "BITS-Protocol: {7df0354d-249b-430f-820d-3d2a9bef4931}"))
only-protocol true = refl
only-protocol false = refl

only-encoding : (b : Bool) → cond b (codes "Accept-Encoding: identity\r\n") [] ≡ ended (only_if b (codes "Accept-Encoding: identity"))
only-encoding true = refl
only-encoding false = refl

-- the pieces that are written one after another are the whole
pub text-is : (refusal : Option Refusal) (opened : Bool) (id : Option SessionId) (found : Option Progress) → status_line (status_of refusal) ++ (codes "\r\nBITS-Packet-Type: Ack\r\nContent-Length: 0\r\n" ++ (cond opened (codes "BITS-Protocol: {7df0354d-249b-430f-820d-3d2a9bef4931}\r\n") [] ++ (ended (id_lines id) ++ (cond opened (codes "Accept-Encoding: identity\r\n") [] ++ (ended (found_lines found) ++ (ended (error_lines refusal) ++ codes "\r\n")))))) ≡ ack_text (told refusal opened id found)
unfolding ack_text ack_lines
text-is refusal opened id found =
    let protocol = only_if opened (codes "BITS-Protocol: {7df0354d-249b-430f-820d-3d2a9bef4931}") in
    let encoding = only_if opened (codes "Accept-Encoding: identity") in
    let errors = error_lines refusal in
    let last : ended (found_lines found) ++ (ended errors ++ codes "\r\n") ≡ ended (range_lines (received_of found) ++ (address_lines (reply_of found) ++ errors)) ++ codes "\r\n" =
    ended-then (found_lines found) errors _ refl ∙ ap (λ l. ended l ++ codes "\r\n") (append_assoc (range_lines (received_of found)) (address_lines (reply_of found)) errors) in
    let more = ap (λ l. l ++ (ended (found_lines found) ++ (ended errors ++ codes "\r\n"))) (only-encoding opened) ∙ ended-then encoding _ _ last in
    let whole = ap (λ l. l ++ (ended (id_lines id) ++ (cond opened (codes "Accept-Encoding: identity\r\n") [] ++ (ended (found_lines found) ++ (ended errors ++ codes "\r\n"))))) (only-protocol opened) ∙ ended-then protocol _ _ (ended-then (id_lines id) _ _ more) in
    ap (λ l. status_line (status_of refusal) ++ (codes "\r\nBITS-Packet-Type: Ack\r\nContent-Length: 0\r\n" ++ l)) whole
    ∙ sym (append_assoc (status_line (status_of refusal)) _ (codes "\r\n"))
