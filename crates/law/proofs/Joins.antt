-- The laws over runs, joined.
use Rattle.std.proofs.Common.{ℕ, List, [], ◌∷◌, ◌++◌, map, sym, ap, ◌∙◌, subst}
use Rattle.store.specs.Meaning.{Meaning}
use Rattle.session.specs.Sessions.{World}
use Rattle.session.specs.Steps.{Call, message, answer, tick, Started}
use Rattle.session.specs.declared.records.Settings.{Settings}
use Rattle.history.specs.Ledger.{Event, ledger_of}
use Rattle.history.specs.Law as history
use Rattle.history.proofs.Histories.{faithful}
use Rattle.finishing.specs.Runs as finishing
use Rattle.finishing.proofs.Reached.{good-since, uploads-on}
use Rattle.finishing.proofs.Theorem.{finishable}
use Rattle.law.specs.Heard.{Heard, events, range_told, Story, RangesTrue}
use Rattle.law.specs.Whole.{Promised, PromisedHeard}
use Rattle.law.proofs.Stories.{story-push, story-at, story-runs}
use Rattle.law.proofs.Ranges.{call-range}

-- a step without its number
plain : (sets : Settings) (w : World) (c : Call) (n : ℕ) (v : World) → history.Stepped sets w c n v → finishing.Stepped sets w c v
plain sets w (message page input) n v s = s.1
plain sets w (answer page serial word) n v s = s.1
plain sets w (tick reading) n v s = (n, s)

plain_runs : (sets : Settings) (w : World) (es : List Event) (v : World) → history.Runs sets w es v → finishing.Runs sets w (map (λ e. e.call) es) v
plain_runs sets w [] v r = r
plain_runs sets w (e ∷ es) v (u, s, r) = (u, plain sets w e.call e.number u s, plain_runs sets u es v r)

pub promised : Promised
unfolding history.Faithful
promised sets m u w es started ran =
    let told = faithful sets m u w es started ran in
    record {
      tells = told;
      finishes = λ i x here receives t cs z page input v list.
          let kept = (told.sessions.each i x here).2 in
          let on = uploads-on sets m u w (map (λ e. e.call) es) i x started (plain_runs sets u es w ran) here in
          finishable sets on w i x t cs z page input v (good-since w i x here receives told.sessions.apart kept.size (λ n e. (kept.bound n e).0) kept.unset) list;
    }

ranges-true : (sets : Settings) (m : Meaning) (u w : World) (hs : List Heard) → Started sets m u → Story sets u hs w → RangesTrue sets hs
ranges-true sets m u w hs started story before h after n e range =
    let P : List Heard → Type 0 = λ l. Story sets u l w in
    let k = story-at sets before u w h after (subst P e story) in
    let ran = story-runs sets u (before ++ h ∷ []) k.1 (story-push sets before u k.0 k.1 h k.2 k.3) in
    let told = (promised sets m u k.1 (events (before ++ h ∷ [])) started ran).tells in
    call-range sets m.catalog (ledger_of sets (events (before ++ h ∷ []))) k.0 k.1 told h.call h.number n
    (ap range_told (sym k.3.1) ∙ range) k.3.0

pub promised_heard : PromisedHeard
promised_heard sets m u w hs started story = record {
  after = promised sets m u w (events hs) started (story-runs sets u hs w story);
  ranges = ranges-true sets m u w hs started story;
}
