-- A row that was lent and changed, seen in the whole world.
use Rattle.std.proofs.Common.{◌≡◌, ℕ, ◌<◌, false, List, map, length, get_or, set, Some, None, Ok, Err, Option, Result, sym, refl, ap, ◌∙◌, subst}
use Rattle.std.proofs.lemmas.List.{get_or-map, map-set, set-get_or}
use Rattle.outcome.specs.declared.Outcome.{Outcome}
use Rattle.packet.specs.Packets.{Request}
use Rattle.packet.specs.declared.judging.Action.{Action}
use Rattle.packet.specs.declared.judging.Action.TheVariants.{Create, Ping, Fragment, Close, Cancel}
use Rattle.packet.specs.declared.ranges.Range.{Range}
use Rattle.store.specs.Meaning.{Meaning, Change}
use Rattle.session.specs.Rules.{close_fault, fragment_fault}
use Rattle.session.specs.Sessions.{Live, World, row, row_of}
use Rattle.session.specs.Plans.{Plan, take, close, changes_of, outcome_of, stands, unless, with_live, with_row}
use Rattle.session.specs.Steps.{Done, Written}
use Rattle.session.specs.declared.records.Session.{Session}
use Rattle.session.specs.declared.records.Settings.{Settings}
use Rattle.intake_core.specs.Worlds.{Changed, RowDone, Settled, Visited, around, is_refusal, live_plan}
use Rattle.intake_core.specs.declared.faults.Refused.{Refused}

module _ (sets : Settings) (w : World) (q : Request) (i : ℕ) where
  -- only the store of a world matters to the plan of a row
  plan-same : (x : Option Live) (a : Action) → with_live x i (live_plan sets w q a) ≡ with_live x i (live_plan sets (around w.clock w.store) q a)
  plan-same None a = refl
  plan-same (Some x) (Create shared) = refl
  plan-same (Some x) Ping = refl
  plan-same (Some x) (Fragment id r at) = refl
  plan-same (Some x) (Close id) = refl
  plan-same (Some x) (Cancel id) = refl

  module _ (v : World) (y : Option Live) (written : Written w i y v) where
    abbrev Lifts : Plan → Type 0
    Lifts p = RowDone sets w.clock q p w.store y v.store → (is_refusal p ≡ false) × Done sets w q p v

    lifts-take : (x : Live) (r : Range) (f : Option Outcome) → Lifts (unless f (take i x r))
    lifts-take x r (Some o) d = absurd d
    lifts-take x r None (is, added) = (refl, record { written = subst (λ z. Written w i z v) is written; added = added })

    lifts-close : (x : Live) (f : Option Outcome) → Lifts (unless f (close i x))
    lifts-close x (Some o) d = absurd d
    lifts-close x None (is, published) = (refl, record { written = subst (λ z. Written w i z v) is written; published = published })

    lifts : (x : Option Live) (a : Action) → Lifts (with_live x i (live_plan sets w q a))
    lifts None a d = absurd d
    lifts (Some x) (Create shared) d = absurd d
    lifts (Some x) Ping d = absurd d
    lifts (Some x) (Fragment id r at) d = lifts-take x r (fragment_fault sets x r at q.content_length (w.store.room i)) d
    lifts (Some x) (Close id) d = lifts-close x (close_fault sets x.phase (stands w x.path) (w.store.publishable i x.path)) d
    lifts (Some x) (Cancel id) (is, cleared) = (refl, record { written = subst (λ z. Written w i z v) is written; cleared = cleared })

module _ {S : Type 0} (meaning : S → Meaning) (made : S → Change → S → Type 0) (sets : Settings) (q : Request) (rows : List (Option Session)) (next clock i : ℕ) (s t : S) (old new : Option Session)
    (inside : i < length rows) (here : old ≡ get_or rows i old) where
  abbrev before : World
  before = record { rows = map row_of rows; next = next; clock = clock; store = meaning s }

  abbrev after : World
  after = record { rows = map row_of (set rows i new); next = next; clock = clock; store = meaning t }

  abbrev plan : Plan
  plan = with_row before (Some i) (live_plan sets before q q.action)

  at : row (map row_of rows) i ≡ row_of old
  at = get_or-map row_of rows i old None inside ∙ ap row_of (sym here)

  same : plan ≡ with_live (row_of old) i (live_plan sets (around clock (meaning s)) q q.action)
  same = ap (λ x. with_live x i (live_plan sets before q q.action)) at ∙ plan-same sets before q i (row_of old) q.action

  pub visited : (r : Result Outcome Refused) → Settled meaning made sets clock i q old s r new t → Visited made sets before q plan s r after t
  visited (Ok o) c =
      let d = lifts sets before q i after (row_of new) (record { rows = map-set row_of rows i new; next = refl; clock = refl }) (row (map row_of rows) i) q.action (subst (λ p. RowDone sets clock q p (meaning s) (row_of new) (meaning t)) (sym same) c.done) in
      (d.0, c.outcome ∙ ap (outcome_of q) (sym same), d.1, subst (λ p. Changed made s (changes_of q p) t) (sym same) c.account)
  visited (Err e) (is, kept, stays) =
      (same ∙ is, (λ k. record { rows = map row_of ((ap (set rows i) (kept ∙ here) ∙ set-get_or rows i old) k); next = next; clock = clock; store = meaning (stays k) }), stays)
