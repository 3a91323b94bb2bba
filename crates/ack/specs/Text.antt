-- The bytes of an acknowledgement. Assumes nothing.
use Rattle.std.specs.Prelude.{ℕ, Bool, cond, List, [], ◌∷◌, ◌++◌, Some, None, codes, decimal, Option}
use Rattle.ids.specs.Ids.{hexes, id_text}
use Rattle.ids.specs.declared.SessionId.{SessionId}
use Rattle.outcome.specs.Outcomes.{context_of, number_of, phrase_of}
use Rattle.outcome.specs.declared.Refusal.{Refusal}
use Rattle.outcome.specs.declared.Status.{Status}
use Rattle.ack.specs.declared.told.Progress.{Progress}
use Rattle.ack.specs.Told.{Ack, received_of, reply_of, status_of}

-- each line with the CR LF that ends it
abbrev pub ended : List (List ℕ) → List ℕ
ended [] = []
ended (l ∷ ls) = l ++ (codes "\r\n" ++ ended ls)

abbrev pub status_line : Status → List ℕ
status_line s = codes "HTTP/1.1 " ++ (decimal (number_of s) ++ (codes " " ++ phrase_of s))

abbrev pub only_if : Bool → List ℕ → List (List ℕ)
only_if b l = cond b (l ∷ []) []

abbrev pub id_lines : Option SessionId → List (List ℕ)
id_lines None = []
id_lines (Some id) = (codes "BITS-Session-Id: " ++ id_text id) ∷ []

abbrev pub range_lines : Option ℕ → List (List ℕ)
range_lines None = []
range_lines (Some n) = (codes "BITS-Received-Content-Range: " ++ decimal n) ∷ []

-- an empty address is not told
abbrev pub address_lines : List ℕ → List (List ℕ)
address_lines [] = []
address_lines (b ∷ bs) = (codes "BITS-Reply-URL: " ++ b ∷ bs) ∷ []

abbrev pub found_lines : Option Progress → List (List ℕ)
found_lines found = range_lines (received_of found) ++ address_lines (reply_of found)

abbrev pub error_lines : Option Refusal → List (List ℕ)
error_lines None = []
error_lines (Some r) = (codes "BITS-Error: 0x" ++ hexes 8 r.code) ∷ (codes "BITS-Error-Context: 0x" ++ hexes 1 (context_of r.context)) ∷ []

-- the lines in their order
unfoldable pub ack_lines : Ack → List (List ℕ)
ack_lines a =
    status_line (status_of a.refusal) ∷ codes "BITS-Packet-Type: Ack" ∷ codes "Content-Length: 0"
    ∷ (only_if a.opened (codes "BITS-Protocol: {7df0354d-249b-430f-820d-3d2a9bef4931}")
    ++ (id_lines a.id
    ++ (only_if a.opened (codes "Accept-Encoding: identity")
    ++ (range_lines a.received
    ++ (address_lines a.reply
    ++ error_lines a.refusal)))))

-- and a blank line after them
unfoldable pub ack_text : Ack → List ℕ
ack_text a = ended (ack_lines a) ++ codes "\r\n"

abbrev pub ack_bytes : Option Ack → List ℕ
ack_bytes None = []
ack_bytes (Some a) = ack_text a

abbrev pub least_page : ℕ
least_page = 1024
