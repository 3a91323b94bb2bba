-- The close at the end of a finishing list, and that there are such lists.
use Rattle.std.proofs.Common.{◌≡◌, ℕ, ◌+◌, ◌≤◌, Bool, true, false, cond, eqb, List, [], ◌∷◌, ◌++◌, Some, None, sym, refl, ap, ◌∙◌, subst}
use Rattle.std.proofs.lemmas.Bool.{cond-true, cond-false, eq-eqb, false≢true}
use Rattle.outcome.specs.declared.Outcome.TheVariants.{Done, DestinationStands, StoreFull, BadReplyAddress}
use Rattle.session.specs.Sessions.{Live, World}
use Rattle.session.specs.Rules.{is_away, forbidden, close_fault}
use Rattle.session.specs.Plans.{close, unless, stands, plan_of}
use Rattle.session.specs.Steps.{Closed, yes, is_address, message_outcome, answer_outcome}
use Rattle.session.specs.declared.records.Settings.{Settings}
use Rattle.finishing.specs.Runs.{Call, message, answer, Stepped, Runs}
use Rattle.finishing.specs.Finishing.{Closes, Sends, done, fragment, verdict, approved, Finishable, AreRuns, OneFragment, OneFragmentApproved}
use Rattle.finishing.proofs.Phases.{ready-close}
use Rattle.finishing.proofs.Lone.{plan-close, done-by, outcome-by}
use Rattle.finishing.proofs.State.{Holds, at-start, is-ready, is_whole}
use Rattle.finishing.proofs.Fragments.{after, holds-taken, sent-away}
use Rattle.finishing.proofs.Verdicts.{word-taken}
use Rattle.finishing.proofs.Law.{Arrives, arrive}

module _ (sets : Settings) (i : ℕ) (a : Live) (t : ℕ) (z : World) (agreed : Bool) (y : Live) (page : ℕ) (input : List ℕ) (v : World)
    (up : sets.uploads ≡ true) (h : Holds sets i a.serial a.path t z true agreed y) (k : sets.approver ≡ true → agreed ≡ true)
    (c : Closes sets z i a page input) where
  no-close-fault : close_fault sets y.phase (stands z y.path) (z.store.publishable i y.path) ≡ None
  no-close-fault =
      let r = is-ready sets i a.serial a.path t z agreed y h k in
      ready-close sets y.phase (stands z y.path) (z.store.publishable i y.path) r.0 r.1
      ∙ cond-false (forbidden sets (stands z y.path)) (Some DestinationStands) (cond (z.store.publishable i y.path) None (Some StoreFull))
      (subst (λ n. forbidden sets (stands z n) ≡ false) (sym h.path) c.free)
      ∙ cond-true (z.store.publishable i y.path) None (Some StoreFull) (subst (λ n. z.store.publishable i n ≡ true) (sym h.path) c.can)

  pub close-plan : plan_of sets z c.asks.request ≡ close i y
  close-plan =
      plan-close z i y h.lone sets c.asks.request c.asks.id up c.asks.action c.asks.site (c.asks.serial ∙ sym h.serial) (c.asks.path ∙ sym h.path)
      ∙ ap (λ o. unless o (close i y)) no-close-fault

  close-number : message_outcome sets z page input ≡ Done
  close-number = outcome-by sets z page input c.asks.request (close i y) c.asks.wide c.asks.read close-plan

  close-done : Stepped sets z (message page input) v → Closed z i y v
  close-done step = done-by sets z page input v c.asks.request (close i y) c.asks.wide c.asks.read close-plan step

pub finishable : Finishable
finishable sets up w i x t cs z page input v g f =
    let k : Arrives sets i x t w x cs z = arrive sets i x t up f.limit f.sends x (at-start sets w i x t g f.room) in
    record {
      number = close-number sets i x t z k.agreed k.session page input v up k.holds k.sure f.closes;
      bytes = z.store.held i;
      stored = subst (λ n. v.store.catalog n ≡ Some (z.store.held i)) k.holds.path
          (close-done sets i x t z k.agreed k.session page input v up k.holds k.sure f.closes f.closed).published.stored;
      size = k.holds.kept ∙ is_whole sets i x.serial x.path t z k.agreed k.session k.holds k.sure;
      begins = k.begins;
      follows = k.follows;
    }

module _ (sets : Settings) (i : ℕ) (x : Live) (t : ℕ) (rest : List Call) (v : World) where
  sends_run : {w : World} {ended agreed : Bool} {cs : List Call} {z : World} → Sends sets i x t w ended agreed cs z → Runs sets z rest v → Runs sets w (cs ++ rest) v
  sends_run (done k) r = r
  sends_run (fragment {u = u} f step s) r = (u, step, sends_run s r)
  sends_run (verdict {u = u} wide step s) r = (u, step, sends_run s r)
  sends_run (approved {u = u} wide o step s) r = (u, step, sends_run s r)

pub are-runs : AreRuns
are-runs sets w i x t cs z page input v f = sends_run sets i x t (message page input ∷ []) v f.sends (v, f.closed, refl)

pub one-fragment : OneFragment
one-fragment sets w i x t page input z page2 input2 v off limit room f e step c closed =
    record {
      limit = limit;
      room = room;
      sends = fragment f step
          (subst (λ b. Sends sets i x t z b false [] z) (sym (eq-eqb (f.range.last + 1) t e)) (done (λ on. absurd (false≢true (sym off ∙ on)))));
      closes = c;
      closed = closed;
    }

-- a yes with a good address is taken by a session at the approver
pub yes-taken : (sets : Settings) (i : ℕ) (x : Live) (t : ℕ) (u z : World) (ended : Bool) (y : Live) (page : ℕ) (address : List ℕ)
    → Holds sets i x.serial x.path t u ended false y → 1024 ≤ page → Stepped sets u (answer page x.serial (yes address)) z
    → is_away y.phase ≡ true → is_address address ≡ true → answer_outcome u page x.serial (yes address) ≡ Done
yes-taken sets i x t u z ended y page address h wide step away good =
    word-taken sets i x.serial x.path t u z ended false y page (yes address) h wide step away
    ∙ cond-true (is_address address) Done BadReplyAddress good

pub one-fragment-approved : OneFragmentApproved
one-fragment-approved sets w i x t page input u page1 address z page2 input2 v up g told limit room f e step wide good step1 c closed =
    let h = at-start sets w i x t g room in
    let y = after sets w x f.range f.request in
    let n : is_away x.phase ≡ false = ap is_away g.receives in
    let k = holds-taken sets i x t w u false false x page input up limit h f step n in
    let away : is_away y.phase ≡ true = sent-away sets i x t w u false false x page input up limit h f step g.receives told e in
    let o = yes-taken sets i x t u z (eqb (f.range.last + 1) t) y page1 address k wide step1 away good in
    record {
      limit = limit;
      room = room;
      sends = fragment f step (approved wide o step1
          (subst (λ b. Sends sets i x t z b true [] z) (sym (eq-eqb (f.range.last + 1) t e)) (done (λ _. refl))));
      closes = c;
      closed = closed;
    }
