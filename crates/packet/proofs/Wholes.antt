-- An input reads as a request exactly where it begins with one.
use Rattle.std.proofs.Common.{◌≡◌, ℕ, ◌+◌, ◌≤◌, List, ◌∷◌, ◌++◌, length, take, drop, IfOk, Ok, Err, Result, sym, refl, ap, ◌∙◌, subst, arith, length-append, length-drop, length-take}
use Rattle.head.specs.Heads.{Reading, head_of}
use Rattle.head.specs.declared.Fault as text
use Rattle.head.specs.Marks.{head_mark}
use Rattle.head.specs.Lines.{request_of}
use Rattle.head.specs.Grammar.{join_lines}
use Rattle.head.proofs.Wholes as whole
use Rattle.packet.specs.declared.Fault.{Fault}
use Rattle.packet.specs.Judging.{and_then, judged_of}
use Rattle.packet.specs.declared.request.Packet.{Packet}
use Rattle.packet.specs.Packets.{Request, request_from, with_head, packet_of, request, seen}
use Rattle.packet.specs.Laws.{IsRequest, Exact, Passed}
use Rattle.packet.proofs.NeedForms.{judged-sound, judged-complete, then_ok}

request-sound : (input : List ℕ) (r : Result Reading text.Fault) (q : Request) → head_of input ≡ r → with_head input r ≡ Ok q → IsRequest input q
request-sound input (Err e) q is h = absurd (let w : ◌≡◌ {A = ℕ} 0 1 = cc h in omega arith)
request-sound input (Ok v) q is h =
    let p = then_ok (judged_of v.table) (λ j. Ok (request_from input v j)) q h in
    let same : request_from input v p.0 ≡ q = cc p.2 in
    subst (IsRequest input) same (record { head = v; formed = (whole.exact input).sound v is; needs = judged-sound v.table p.0 p.1; path-is = refl; size_is = refl; body_is = refl })

request-complete : (input : List ℕ) (q : Request) → IsRequest input q → packet_of input ≡ Ok q
unfolding packet_of
request-complete input q r =
    let v = r.head in
    ap (with_head input) ((whole.exact input).complete v r.formed)
    ∙ ap (λ x. and_then x (λ j. Ok (request_from input v j))) (judged-complete v.table q.content_length q.action r.needs)
    ∙ ap (λ p. Ok (record { path = p; action = q.action; head_size = v.size; content_length = q.content_length; body = take q.content_length (drop v.size input) })) (sym r.path-is)
    ∙ ap (λ n. Ok (record { path = q.path; action = q.action; head_size = n; content_length = q.content_length; body = take q.content_length (drop v.size input) })) (sym r.size_is)
    ∙ ap (λ b. Ok (record { path = q.path; action = q.action; head_size = q.head_size; content_length = q.content_length; body = b })) (sym r.body_is)

pub exact : (input : List ℕ) → Exact input (packet_of input)
unfolding packet_of
exact input = record {
  sound = λ q h. request-sound input (head_of input) q refl h;
  complete = request-complete input;
  unique = λ p q a b. let e = sym (request-complete input p a) ∙ request-complete input q b in cc e;
}

pub passed : (input : List ℕ) → Passed input (packet_of input)
unfolding packet_of
passed input e is = ap (with_head input) is

-- a request lies in its input
pub request-within : (input : List ℕ) (r : Result Packet Fault) → seen r ≡ packet_of input → IfOk r (λ p. p.head_size + length p.body.now ≤ length input)
request-within input (Ok p) e =
    let q = (exact input).sound (request p) (sym e) in
    let size = q.head.size in
    let h = q.formed.parts in
    let inside : size ≤ length input = omega (arith, h.sized, ap length h.is, length-append (join_lines (request_of q.head.path ∷ h.lines)) (head_mark ++ h.rest)) in
    omega (arith, inside, q.size_is, ap length q.body_is, length-take p.content_length (drop size input), length-drop size input)
request-within input (Err f) e = tt
