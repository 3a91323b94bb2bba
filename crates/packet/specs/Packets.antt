-- A whole request.
use Rattle.std.specs.Prelude.{ℕ, List, take, drop, Ok, Err, Result}
use Rattle.head.specs.Heads.{Reading, head_of}
use Rattle.head.specs.declared.Fault as text
use Rattle.packet.specs.declared.Fault.{Fault}
use Rattle.packet.specs.declared.Fault.TheVariants.{Text}
use Rattle.packet.specs.declared.request.Packet.{Packet}
use Rattle.packet.specs.declared.judging.Action.{Action}
use Rattle.packet.specs.declared.judging.Judged.{Judged}
use Rattle.packet.specs.Judging.{and_then, judged_of}

-- a request that was read: the body is what came of the announced bytes behind the head
pub record Request : Type 0 where
  pub path : List ℕ
  pub action : Action
  pub head_size : ℕ
  pub content_length : ℕ
  pub body : List ℕ

abbrev pub request_from : List ℕ → Reading → Judged → Request
request_from input h j = record { path = h.path; action = j.action; head_size = h.size; content_length = j.length; body = take j.length (drop h.size input) }

abbrev pub with_head : List ℕ → Result Reading text.Fault → Result Request Fault
with_head input (Err e) = Err (Text e)
with_head input (Ok h) = and_then (judged_of h.table) (λ j. Ok (request_from input h j))

-- what an input reads as
unfoldable pub packet_of : List ℕ → Result Request Fault
packet_of input = with_head input (head_of input)

abbrev pub request : Packet → Request
request p = record { path = p.path.now; action = p.action; head_size = p.head_size; content_length = p.content_length; body = p.body.now }

abbrev pub seen : Result Packet Fault → Result Request Fault
seen (Ok p) = Ok (request p)
seen (Err e) = Err e
