-- What a plan is, by cases: refused with a number other than 0 and 19, or one act.
use Rattle.std.proofs.Common.{◌≡◌, ℕ, ◌+◌, ◌≤◌, Bool, true, false, cond, not, eqb, ltb, List, length, drop, Some, None, Ok, Err, Option, Result, sym, refl, arith}
use Rattle.std.proofs.lemmas.List.{length-take}
use Rattle.std.proofs.lemmas.Option.{none-some}
use Rattle.head.specs.Heads.{Reading, head_of}
use Rattle.head.specs.declared.Fault as text
use Rattle.outcome.specs.declared.Outcome.{Outcome}
use Rattle.outcome.specs.declared.Outcome.TheVariants.{NoSharedProtocol, FolderDestination, AtApprover, Incomplete, WrongRange, TooLarge, Gap, DestinationStands, TooManySessions, SerialsSpent, StoreFull, NoSession}
use Rattle.packet.specs.Packets.{Request, packet_of, with_head, request_from}
use Rattle.packet.specs.Judging.{and_then, judged_of}
use Rattle.packet.specs.declared.Fault.{Fault}
use Rattle.packet.specs.declared.ranges.Range.{Range}
use Rattle.session.specs.Sessions as session
use Rattle.session.specs.Sessions.{Phase, Live, World, row}
use Rattle.session.specs.Rules.{is_away, wrong_range, too_large, fragment_fault, forbidden, close_fault, is_folder, create_fault}
use Rattle.session.specs.Plans.{Plan, refuse, with_live, with_row, unless}
use Rattle.session.specs.declared.records.Settings.{Settings}
use Rattle.history.specs.Ledger.{ready}
use Rattle.history.specs.Law.{number, standing_of}

abbrev pub Refuses : Outcome → Type 0
Refuses o = (eqb (number o) 0 ≡ false) × (eqb (number o) 19 ≡ false)

abbrev pub AllRefuse : Option Outcome → Type 0
AllRefuse None = Unit {0}
AllRefuse (Some o) = Refuses o

create-chain : (a b c d e : Bool) → AllRefuse (cond a (Some NoSharedProtocol) (cond b (Some FolderDestination) (cond c (Some DestinationStands) (cond d (Some TooManySessions) (cond e (Some SerialsSpent) None)))))
create-chain true b c d e = (refl, refl)
create-chain false true c d e = (refl, refl)
create-chain false false true d e = (refl, refl)
create-chain false false false true e = (refl, refl)
create-chain false false false false true = (refl, refl)
create-chain false false false false false = tt

pub create-refuses : (sets : Settings) (shared : Bool) (path : List ℕ) (stands full : Bool) (next : ℕ) → AllRefuse (create_fault sets shared path stands full next)
create-refuses sets shared path stands full next = create-chain (not shared) (is_folder path) (forbidden sets stands) full (eqb next 18446744073709551615)

fragment-chain : (at : ℕ) (a b c d e : Bool) → AllRefuse (cond a (Some AtApprover) (cond b (Some (WrongRange at)) (cond c (Some TooLarge) (cond d (Some Gap) (cond e (Some StoreFull) None)))))
fragment-chain at true b c d e = (refl, refl)
fragment-chain at false true c d e = (refl, refl)
fragment-chain at false false true d e = (refl, refl)
fragment-chain at false false false true e = (refl, refl)
fragment-chain at false false false false true = (refl, refl)
fragment-chain at false false false false false = tt

pub fragment-refuses : (sets : Settings) (x : Live) (r : Range) (at n room : ℕ) → AllRefuse (fragment_fault sets x r at n room)
fragment-refuses sets x r at n room = fragment-chain at (is_away x.phase) (wrong_range x.total r n) (too_large sets r n) (ltb x.received r.first) (ltb (x.received + room) (r.last + 1))

never : {X : Type 0} (o : Outcome) → ◌≡◌ {A = Option Outcome} (Some o) None → X
never o h = absurd (none-some o (sym h))

fragment-free : (at : ℕ) (a b c d e : Bool) → cond a (Some AtApprover) (cond b (Some (WrongRange at)) (cond c (Some TooLarge) (cond d (Some Gap) (cond e (Some StoreFull) None)))) ≡ None → (b ≡ false) × (c ≡ false) × (d ≡ false)
fragment-free at true b c d e h = never AtApprover h
fragment-free at false true c d e h = never (WrongRange at) h
fragment-free at false false true d e h = never TooLarge h
fragment-free at false false false true e h = never Gap h
fragment-free at false false false false e h = (refl, refl, refl)

pub fragment-none : (sets : Settings) (x : Live) (r : Range) (at n room : ℕ) → fragment_fault sets x r at n room ≡ None → (wrong_range x.total r n ≡ false) × (too_large sets r n ≡ false) × (ltb x.received r.first ≡ false)
fragment-none sets x r at n room h = fragment-free at (is_away x.phase) (wrong_range x.total r n) (too_large sets r n) (ltb x.received r.first) (ltb (x.received + room) (r.last + 1)) h

ready-chain : (a b : Bool) → AllRefuse (cond a (Some DestinationStands) (cond b None (Some StoreFull)))
ready-chain true b = (refl, refl)
ready-chain false true = tt
ready-chain false false = (refl, refl)

pub close-refuses : (sets : Settings) (p : Phase) (stands can : Bool) → AllRefuse (close_fault sets p stands can)
close-refuses sets session.receiving stands can = (refl, refl)
close-refuses sets session.away stands can = (refl, refl)
close-refuses sets (session.ready a) stands can = ready-chain (forbidden sets stands) can

-- only a session that is ready is closed
pub close-none : (sets : Settings) (p : Phase) (stands can : Bool) → close_fault sets p stands can ≡ None → standing_of p ≡ ready
close-none sets session.receiving stands can h = never Incomplete h
close-none sets session.away stands can h = never AtApprover h
close-none sets (session.ready a) stands can h = refl

pub on-unless : (f : Option Outcome) (p : Plan) (P : Plan → Type 0) → AllRefuse f → ((o : Outcome) → Refuses o → P (refuse o)) → (f ≡ None → P p) → P (unless f p)
on-unless None p P a r t = t refl
on-unless (Some o) p P a r t = r o a

on-live : (o : Option Live) (i : ℕ) (f : ℕ → Live → Plan) (P : Plan → Type 0) → P (refuse NoSession) → ((x : Live) → o ≡ Some x → P (f i x)) → P (with_live o i f)
on-live None i f P n t = n
on-live (Some x) i f P n t = t x refl

pub on_row : (w : World) (o : Option ℕ) (f : ℕ → Live → Plan) (P : Plan → Type 0) → P (refuse NoSession) → ((i : ℕ) (x : Live) → o ≡ Some i → row w.rows i ≡ Some x → P (f i x)) → P (with_row w o f)
on_row w None f P n t = n
on_row w (Some i) f P n t = on-live (row w.rows i) i f P n (λ x h. t i x refl h)

-- no more bytes are read as a body than were announced
abbrev pub Bodied : Result Request Fault → Type 0
Bodied (Ok q) = length q.body ≤ q.content_length
Bodied (Err e) = Unit {0}

bodied-then : {A : Type 0} (j : Result A Fault) (f : A → Result Request Fault) → ((x : A) → Bodied (f x)) → Bodied (and_then j f)
bodied-then (Ok x) f h = h x
bodied-then (Err e) f h = tt

bodied-head : (input : List ℕ) (h : Result Reading text.Fault) → Bodied (with_head input h)
bodied-head input (Ok h) = bodied-then (judged_of h.table) (λ k. Ok (request_from input h k)) (λ k. omega (arith, length-take k.length (drop h.size input)))
bodied-head input (Err e) = tt

pub bodied : (input : List ℕ) → Bodied (packet_of input)
unfolding packet_of
bodied input = bodied-head input (head_of input)
