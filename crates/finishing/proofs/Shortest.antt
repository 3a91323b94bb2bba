-- The shortest finishing lists can be run.
use Rattle.std.proofs.Common.{◌≡◌, ℕ, ◌+◌, ◌-◌, ◌≤◌, Bool, true, false, eqb, List, [], ◌∷◌, length, Some, None, Ok, MatchBool, Option, sym, refl, ap, ◌∙◌, subst, ⊎_elim, arith}
use Rattle.std.proofs.lemmas.List.{length-drop}
use Rattle.std.proofs.lemmas.Bool.{cond-true, cond-false, eq-eqb, le-ltb, cases_Bool, false≢true}
use Rattle.packet.specs.Packets.{Request, packet_of}
use Rattle.session.specs.Sessions.{Live, World, index_of}
use Rattle.session.specs.Rules.{is_away, is_asked, wrong_range, forbidden, ruled}
use Rattle.session.specs.Plans.{Plan, take, close, unless, stands, plan_of, fresh}
use Rattle.session.specs.Steps.{Word, yes, is_address, word_phase, Done, ReadDone, MessageDone, AskedDone, AnswerDone}
use Rattle.session.specs.declared.records.Settings.{Settings}
use Rattle.finishing.specs.Runs.{message, answer, Stepped}
use Rattle.finishing.specs.Finishing.{Fits, Asks, Closes, Good, total_of, count_of, Ran, CanRun}
use Rattle.finishing.proofs.Faults.{right, no-fault}
use Rattle.finishing.proofs.Lone.{plan-fragment, asked-row}
use Rattle.finishing.proofs.State.{Holds, at-start}
use Rattle.finishing.proofs.Fragments.{after, holds-taken, sent-away}
use Rattle.finishing.proofs.Verdicts.{holds-approved}
use Rattle.finishing.proofs.Theorem.{close-plan, one-fragment, one-fragment-approved, yes-taken}
use Rattle.finishing.proofs.Models.{added_to, added-to, published_to, published-to, with_row, with-row}

step_by : (sets : Settings) (w : World) (page : ℕ) (input : List ℕ) (u : World) (q : Request) (p : Plan)
    → 1024 ≤ page → packet_of input ≡ Ok q → plan_of sets w q ≡ p → Done sets w q p u → MessageDone sets w page input u
step_by sets w page input u q p h e d m =
    subst (λ b. MatchBool b (u ≡ w) (ReadDone sets w (packet_of input) u)) (sym (le-ltb page 1024 h))
    (subst (λ z. ReadDone sets w z u) (sym e) (subst (λ z. Done sets w q z u) (sym d) m))

rule-by : (w : World) (page serial : ℕ) (word : Word) (u : World) (o : Option ℕ)
    → 1024 ≤ page → index_of (is_asked serial) w.rows ≡ o → AskedDone w o word u → AnswerDone w page serial word u
rule-by w page serial word u o h e m =
    subst (λ b. MatchBool b (u ≡ w) (AskedDone w (index_of (is_asked serial) w.rows) word u)) (sym (le-ltb page 1024 h))
    (subst (λ z. AskedDone w z word u) (sym e) m)

module _ (sets : Settings) (w : World) (i : ℕ) (x : Live) (t page : ℕ) (input : List ℕ)
    (up : sets.uploads ≡ true) (g : Good w i x) (limit : t ≤ sets.maximum) (room : t - x.received ≤ w.store.room i)
    (f : Fits sets w i x t page input) (e : f.range.last + 1 ≡ t) where
  abbrev start : Holds sets i x.serial x.path t w false false x
  start = at-start sets w i x t g room

  right-total : wrong_range x.total f.range f.request.content_length ≡ false
  right-total = subst (λ o. wrong_range (total_of o) f.range f.request.content_length ≡ false) g.here f.right

  reach : f.range.first ≤ x.received
  reach = subst (λ o. f.range.first ≤ count_of o) g.here f.reach

  not-away : is_away x.phase ≡ false
  not-away = ap is_away g.receives

  abbrev sent : Live
  sent = after sets w x f.range f.request

  -- the world after the fragment
  abbrev carried : World
  carried = with_row w i (Some sent) (added_to w.store i (fresh x f.range f.request.body))

  take-plan : plan_of sets w f.request ≡ take i x f.range
  take-plan =
      let m : f.range.total ≤ sets.maximum = subst (λ n. n ≤ sets.maximum) (sym f.all) limit in
      let k : f.range.last + 1 ≤ x.received + w.store.room i = omega arith in
      plan-fragment w i x start.lone sets f.request f.id f.range f.at up f.action f.site f.serial f.path
      ∙ ap (λ o. unless o (take i x f.range)) (no-fault sets x f.range f.at f.request.content_length (w.store.room i) not-away right-total f.small m reach k)

  fits-room : length (fresh x f.range f.request.body) ≤ w.store.room i
  fits-room =
      let p = length-drop (x.received - f.range.first) f.request.body in
      let q = right x.total f.range f.request.content_length right-total in
      let n = q.size in
      let d = q.forward in
      let j = f.whole in
      let k = reach in
      omega arith

  step : Stepped sets w (message page input) carried
  step =
      step_by sets w page input carried f.request (take i x f.range) f.wide f.read take-plan
      (record { written = with-row w i (Some sent) carried.store; added = added-to w.store i (fresh x f.range f.request.body) fits-room })

  holds : Holds sets i x.serial x.path t carried (eqb (f.range.last + 1) t) false sent
  holds = holds-taken sets i x t w carried false false x page input up limit start f step not-away

  holds-whole : Holds sets i x.serial x.path t carried true false sent
  holds-whole = subst (λ b. Holds sets i x.serial x.path t carried b false sent) (eq-eqb (f.range.last + 1) t e) holds

  module _ (page2 : ℕ) (input2 : List ℕ) (asks : Asks sets x page2 input2) (free : forbidden sets (stands w x.path) ≡ false) where
    -- the world after the close of session y from world z
    closing : (z : World) (agreed : Bool) (y : Live) → Holds sets i x.serial x.path t z true agreed y → (sets.approver ≡ true → agreed ≡ true)
        → Closes sets z i x page2 input2 → Stepped sets z (message page2 input2) (with_row z i None (published_to z.store i y.path))
    closing z agreed y h k c =
        step_by sets z page2 input2 (with_row z i None (published_to z.store i y.path)) c.asks.request (close i y) c.asks.wide c.asks.read
        (close-plan sets i x t z agreed y page2 input2 z up h k c)
        (record { written = with-row z i None (published_to z.store i y.path); published = published-to z.store i y.path })

    plain : sets.approver ≡ false → Ran sets w i x t (message page input ∷ []) page2 input2
    plain off =
        let c : Closes sets carried i x page2 input2 = record { asks = asks; free = free; can = refl } in
        let k : sets.approver ≡ true → false ≡ true = λ on. absurd (false≢true (sym off ∙ on)) in
        record {
          before = carried;
          final = with_row carried i None (published_to carried.store i sent.path);
          list = one-fragment sets w i x t page input carried page2 input2 (with_row carried i None (published_to carried.store i sent.path))
              off limit room f e step c (closing carried false sent holds-whole k c);
        }

    told : (page1 : ℕ) (address : List ℕ) → 1024 ≤ page1 → is_address address ≡ true → sets.approver ≡ true
        → Ran sets w i x t (message page input ∷ answer page1 x.serial (yes address) ∷ []) page2 input2
    told page1 address wide good on =
        let away : is_away sent.phase ≡ true = sent-away sets i x t w carried false false x page input up limit start f step g.receives on e in
        let y = ruled (word_phase (yes address)) sent in
        let z : World = with_row carried i (Some y) carried.store in
        let ruling : Stepped sets carried (answer page1 x.serial (yes address)) z =
        rule-by carried page1 x.serial (yes address) z (Some i) wide (asked-row carried i sent holds.lone x.serial refl away)
        (record { session = sent; there = holds.lone.here; written = with-row carried i (Some y) carried.store; same = refl }) in
        let o = yes-taken sets i x t carried z true sent page1 address holds-whole wide ruling away good in
        let h = holds-approved sets i x.serial x.path t carried z true false sent page1 address holds-whole wide ruling o away in
        let c : Closes sets z i x page2 input2 = record { asks = asks; free = free; can = refl } in
        let v : World = with_row z i None (published_to z.store i y.path) in
        record {
          before = z;
          final = v;
          list = one-fragment-approved sets w i x t page input carried page1 address z page2 input2 v up g on limit room f e step wide good ruling c
              (closing z true y h (λ _. refl) c);
        }

pub can-run : CanRun
can-run sets w i x t page input page1 address page2 input2 up g limit room f e wide good asks free =
    ⊎_elim
    (λ on. subst (λ cs. Ran sets w i x t cs page2 input2)
    (sym (cond-true sets.approver (message page input ∷ answer page1 x.serial (yes address) ∷ []) (message page input ∷ []) on))
    (told sets w i x t page input up g limit room f e page2 input2 asks free page1 address wide good on))
    (λ off. subst (λ cs. Ran sets w i x t cs page2 input2)
    (sym (cond-false sets.approver (message page input ∷ answer page1 x.serial (yes address) ∷ []) (message page input ∷ []) off))
    (plain sets w i x t page input up g limit room f e page2 input2 asks free off))
    (cases_Bool sets.approver)
