-- A fragment of a finishing list is taken, or meets a session at the approver that has all its bytes.
use Rattle.std.proofs.Common.{◌≡◌, ℕ, ◌+◌, ◌-◌, ◌≤◌, max, Bool, true, false, eqb, List, ◌++◌, length, Some, sym, refl, ap, ◌∙◌, subst, ⊎_elim, arith}
use Rattle.std.proofs.lemmas.List.{length-append, length-drop}
use Rattle.std.proofs.lemmas.Bool.{cond-true, eq-eqb, eqb-true}
use Rattle.outcome.specs.declared.Outcome.TheVariants.{AtApprover}
use Rattle.packet.specs.Packets.{Request}
use Rattle.packet.specs.declared.ranges.Range.{Range}
use Rattle.session.specs.Sessions.{receiving, Live, World}
use Rattle.session.specs.Rules.{is_receiving, is_away, wrong_range, other_total, fragment_fault, phase_at, grown}
use Rattle.session.specs.Plans.{refuse, take, unless, plan_of, is_whole, fresh}
use Rattle.session.specs.Steps.{Took}
use Rattle.session.specs.declared.records.Settings.{Settings}
use Rattle.finishing.specs.Runs.{message, Stepped}
use Rattle.finishing.specs.Finishing.{count_of, total_of, Fits}
use Rattle.finishing.proofs.Phases.{left, left-since, sent, not-sent, stays, away-left, at_most, just}
use Rattle.finishing.proofs.Faults.{Right, right, no-fault, away-fault}
use Rattle.finishing.proofs.Lone.{lone-still, plan-fragment, done-by}
use Rattle.finishing.proofs.State.{Holds}

abbrev pub after : Settings → World → Live → Range → Request → Live
after sets w x r q = grown sets w.clock x r (length q.body) (is_whole q)

module _ (sets : Settings) (i : ℕ) (a : Live) (t : ℕ) (w u : World) (ended agreed : Bool) (x : Live) (page : ℕ) (input : List ℕ)
    (up : sets.uploads ≡ true) (limit : t ≤ sets.maximum)
    (h : Holds sets i a.serial a.path t w ended agreed x) (f : Fits sets w i a t page input) (step : Stepped sets w (message page input) u) where
  right-total : wrong_range x.total f.range f.request.content_length ≡ false
  right-total = subst (λ o. wrong_range (total_of o) f.range f.request.content_length ≡ false) h.lone.here f.right

  right-now : Right x.total f.range f.request.content_length
  right-now = right x.total f.range f.request.content_length right-total

  pub reach_now : f.range.first ≤ x.received
  reach_now = subst (λ o. f.range.first ≤ count_of o) h.lone.here f.reach

  same-now : other_total x.total t ≡ false
  same-now = subst (λ n. other_total x.total n ≡ false) f.all right-now.same

  pub end-now : f.range.first + length f.request.body ≡ f.range.last + 1
  end-now = let p = right-now in let q = f.whole in let e = p.size in let g = p.forward in omega arith

  pub inside-now : f.range.last + 1 ≤ t
  inside-now = let p = right-now.inside in let e = f.all in omega arith

  below : x.received ≤ t
  below = at_most x.total x.received t h.bounded same-now

  plan : plan_of sets w f.request ≡ unless (fragment_fault sets x f.range f.at f.request.content_length (w.store.room i)) (take i x f.range)
  plan = plan-fragment w i x h.lone sets f.request f.id f.range f.at up f.action f.site (f.serial ∙ sym h.serial) (f.path ∙ sym h.path)

  pub away-whole : is_away x.phase ≡ true → x.received ≡ t
  away-whole e = just x.total x.received t (h.full (away-left x.phase e)) same-now

  pub away-same : is_away x.phase ≡ true → u ≡ w
  away-same e =
      done-by sets w page input u f.request (refuse AtApprover) f.wide f.read
      (plan ∙ ap (λ o. unless o (take i x f.range)) (away-fault sets x f.range f.at f.request.content_length (w.store.room i) e)) step

  pub holds-away : is_away x.phase ≡ true → Holds sets i a.serial a.path t u (eqb (f.range.last + 1) t) agreed x
  holds-away e =
      subst (λ z. Holds sets i a.serial a.path t z (eqb (f.range.last + 1) t) agreed x) (sym (away-same e))
      (record {
        lone = h.lone;
        serial = h.serial;
        path = h.path;
        kept = h.kept;
        bounded = h.bounded;
        full = h.full;
        room = h.room;
        sized = λ _. h.full (away-left x.phase e) ∙ ap Some (away-whole e);
        ends = λ _ _. away-left x.phase e;
        unasked = h.unasked;
        settled = h.settled;
      })

  pub took : is_away x.phase ≡ false → Took sets w f.request i x f.range u
  took e =
      let m : f.range.total ≤ sets.maximum = subst (λ n. n ≤ sets.maximum) (sym f.all) limit in
      let g : f.range.last + 1 ≤ x.received + w.store.room i = (let p = inside-now in let q = h.room in omega arith) in
      done-by sets w page input u f.request (take i x f.range) f.wide f.read
      (plan ∙ ap (λ o. unless o (take i x f.range)) (no-fault sets x f.range f.at f.request.content_length (w.store.room i) e right-total f.small m reach_now g)) step

  abbrev count : ℕ
  count = max x.received (f.range.first + length f.request.body)

  phase-now : (after sets w x f.range f.request).phase ≡ phase_at sets x.phase count f.range.total
  phase-now =
      cond-true (is_whole f.request) (phase_at sets x.phase count f.range.total) x.phase
      (eq-eqb (length f.request.body) f.request.content_length f.whole)

  fresh-size : x.received + length (fresh x f.range f.request.body) ≡ count
  fresh-size = let p = length-drop (x.received - f.range.first) f.request.body in let q = reach_now in omega arith

  pub holds-taken : is_away x.phase ≡ false → Holds sets i a.serial a.path t u (eqb (f.range.last + 1) t) agreed (after sets w x f.range f.request)
  holds-taken e =
      let o = took e in
      let size = fresh-size in
      let end = end-now in
      let inside = inside-now in
      let all = f.all in
      let low = below in
      let fall = o.added.falls in
      let left-room = h.room in
      let held : length (w.store.held i ++ fresh x f.range f.request.body) ≡ count
      = length-append (w.store.held i) (fresh x f.range f.request.body) ∙ ap (λ n. n + length (fresh x f.range f.request.body)) h.kept ∙ size in
      record {
        lone = lone-still w i x (after sets w x f.range f.request) u h.lone refl o.written;
        serial = h.serial;
        path = h.path;
        kept = ap length o.added.grown ∙ held;
        bounded = omega arith;
        full = λ p. ap Some (⊎_elim
            (λ k. let j : x.received ≡ t = just x.total x.received t (h.full k) same-now in omega arith)
            (λ k. sym k)
            (left-since sets x.phase count f.range.total (sym (ap is_receiving phase-now) ∙ p)));
        room = omega arith;
        sized = λ _. ap Some all;
        ends = λ p n.
            let j : f.range.last + 1 ≡ t = eqb-true (f.range.last + 1) t p in
            let k : count ≡ f.range.total = omega arith in
            ap is_receiving phase-now ∙ left sets x.phase count f.range.total k;
        unasked = λ n. ap is_away phase-now ∙ not-sent sets x.phase count f.range.total n (h.unasked n);
        settled = λ p.
            let s = h.settled p in
            let k = phase-now ∙ stays sets x.phase count f.range.total s.0 in
            (ap is_receiving k ∙ s.0, ap is_away k ∙ s.1);
      }

  -- the fragment that brings the last byte sends a receiving session to the approver, where that is told
  pub sent-away : x.phase ≡ receiving → sets.approver ≡ true → f.range.last + 1 ≡ t → is_away (after sets w x f.range f.request).phase ≡ true
  sent-away e on j =
      let end = end-now in
      let all = f.all in
      let low = below in
      let k : count ≡ f.range.total = omega arith in
      ap is_away phase-now ∙ ap (λ p. is_away (phase_at sets p count f.range.total)) e ∙ sent sets count f.range.total on k
