-- What the verdict on a fragment says.
use Rattle.std.proofs.Common.{◌≡◌, ℕ, ◌≤◌, min, eqb, List, length, Some, None, Ok, Err, Option, sym, refl, ap, ◌∙◌, subst, arith}
use Rattle.outcome.specs.declared.Outcome.{Outcome}
use Rattle.packet.specs.declared.ranges.Range.{Range}
use Rattle.packet.specs.Packets.{Request}
use Rattle.session.specs.Plans.{fresh, take, unless}
use Rattle.session.specs.declared.records.Settings.{Settings}
use Rattle.session.specs.Sessions.{Live, live}
use Rattle.session.specs.declared.records.Session.{Session}
use Rattle.store.specs.Meaning.{Meaning, Change, Added}
use Rattle.store.specs.Meaning.Change.{adding}
use Rattle.intake_core.specs.Worlds.{Taken}
use Rattle.session.specs.Rules.{or_grown, after_fragment, grown, fragment_fault}

pub refused_why : (f : Option Outcome) (x : Live) (o : Outcome) → Err o ≡ or_grown f x → f ≡ Some o
refused_why (Some p) x o e = let z : p ≡ o = cc in ap Some z
refused_why None x o e = absurd (let z : ◌≡◌ {A = ℕ} 0 1 = cc in omega arith)

pub grown-is : (f : Option Outcome) (x y : Live) → Ok y ≡ or_grown f x → (f ≡ None) × (y ≡ x)
grown-is (Some p) x y e = absurd (let z : ◌≡◌ {A = ℕ} 0 1 = cc in omega arith)
grown-is None x y e = (refl, cc)

-- a fragment whose record was made and whose fresh bytes were added is taken
pub taken-ok : {S : Type 0} (meaning : S → Meaning) (made : S → Change → S → Type 0) (sets : Settings) (clock i : ℕ) (q : Request) (r : Range) (at room : ℕ) (x : Live) (y : Session) (slice : List ℕ) (s t : S)
    → Ok (live y) ≡ after_fragment sets clock x r at q.content_length (length q.body) room → room ≡ (meaning s).room i → length q.body ≤ q.content_length → slice ≡ fresh x r q.body
    → Added (meaning s) i slice (meaning t) → made s (adding i slice) t
    → Taken meaning made sets clock i q r at x s (Ok y) t
taken-ok meaning made sets clock i q r at room x y slice s t e here short is added account =
    let n = q.content_length in
    let body = q.body in
    let m : min n (length body) ≡ length body = omega arith in
    let f = grown-is _ _ (live y) e in
    let same : live y ≡ grown sets clock x r (length body) (eqb (length body) n) = f.1 ∙ ap (λ k. grown sets clock x r k (eqb k n)) m in
    (ap (λ f. unless f (take i x r)) (ap (fragment_fault sets x r at n) (sym here) ∙ f.0), same, subst (λ l. Added (meaning s) i l (meaning t)) is added, subst (λ l. made s (adding i l) t) is account)
