-- One call: the range that is told of it is the count on the ledger after it.
use Rattle.std.proofs.Common.{◌≡◌, ℕ, Bool, true, false, cond, eqb, ltb, List, length, Some, None, Ok, Err, MatchBool, Option, Result, sym, refl, ap, ◌∙◌}
use Rattle.std.specs.Option.{option_map}
use Rattle.std.specs.Str.{bytes_eq}
use Rattle.std.proofs.lemmas.List.{get_or-set_same}
use Rattle.std.proofs.lemmas.Bool.{and_parts, eqb-true, cond_both}
use Rattle.std.proofs.lemmas.Option.{none-some}
use Rattle.ack.specs.Told.{Ack}
use Rattle.ids.specs.declared.SessionId.{SessionId}
use Rattle.outcome.specs.Outcomes.{report_of}
use Rattle.outcome.specs.declared.Answer.{Answer as Reported}
use Rattle.outcome.specs.declared.Answer.TheVariants.{Silent, Accepted, Refused}
use Rattle.outcome.specs.declared.Outcome.TheVariants.{UploadsOff, ShortPage}
use Rattle.packet.specs.Packets.{Request, packet_of}
use Rattle.packet.specs.declared.Fault.{Fault}
use Rattle.packet.specs.declared.judging.Action.{Action}
use Rattle.packet.specs.declared.judging.Action.TheVariants.{Create, Ping, Fragment, Close, Cancel}
use Rattle.packet.specs.declared.ranges.Range.{Range}
use Rattle.session.specs.Sessions.{Live, World, row, index_of}
use Rattle.session.specs.Rules.{is_of, is_asked, is_away, fragment_fault, grown, ruled}
use Rattle.session.specs.Plans.{Plan, refuse, ping, take, found, take_plan, action_plan, is_ping, plan_of, is_whole}
use Rattle.session.specs.Steps.{Call, message, answer, tick, Word, word_phase, Written, Done, read_outcome, ReadDone, Ruled, AskedDone, answer_outcome, AnswerDone}
use Rattle.session.specs.Told.{is_away_now, row_at, found_in, done_ack, request_ack, read_ack, verdict_ack, answer_ack}
use Rattle.session.specs.declared.records.Settings.{Settings}
use Rattle.history.specs.Ledger.{places, Entry, Ledger, of_path, named}
use Rattle.history.specs.Law.{Tells, Stepped}
use Rattle.history.proofs.Rows.{some_inj, row_inside, passes}
use Rattle.history.proofs.Refusals.{fragment-refuses, on-unless, on_row}
use Rattle.law.specs.Heard.{session_in, session_read, session_of, ack_of_call, range_told}

-- a range is told of a session only, and gives the bytes that it has

abbrev Counted : Option Live → ℕ → Type 0
Counted x n = (y : Live) × (x ≡ Some y) × (y.received ≡ n)

counted : (x : Option Live) (n : ℕ) → option_map (λ y. y.received) x ≡ Some n → Counted x n
counted None n e = absurd (none-some n e)
counted (Some y) n e = (y, refl, some_inj y.received n e)

told-unless : (b : Bool) (a : Ack) (n : ℕ) → range_told (cond b None (Some a)) ≡ Some n → a.received ≡ Some n
told-unless true a n e = absurd (none-some n e)
told-unless false a n e = e

done-counted : (sets : Settings) (w : World) (a : Action) (x : Option Live) (n : ℕ) → range_told (done_ack sets w a x) ≡ Some n → Counted x n
done-counted sets w (Create shared) x n e = absurd (none-some n e)
done-counted sets w Ping x n e = absurd (none-some n e)
done-counted sets w (Fragment id r at) x n e = counted x n (told-unless (is_away_now x) _ n e)
done-counted sets w (Close id) x n e = absurd (none-some n e)
done-counted sets w (Cancel id) x n e = absurd (none-some n e)

request-counted : (rep : Reported) (sets : Settings) (w : World) (a : Action) (x : Option Live) (n : ℕ) → range_told (request_ack rep sets w a x) ≡ Some n → Counted x n
request-counted Silent sets w a x n e = absurd (none-some n e)
request-counted Accepted sets w a x n e = done-counted sets w a x n e
request-counted (Refused f) sets w a x n e = counted x n e

verdict-counted : (rep : Reported) (sets : Settings) (serial : ℕ) (x : Option Live) (n : ℕ) → range_told (verdict_ack rep sets serial x) ≡ Some n → Counted x n
verdict-counted Silent sets serial x n e = absurd (none-some n e)
verdict-counted Accepted sets serial x n e = counted x n e
verdict-counted (Refused f) sets serial x n e = counted x n e

cond-some : {X : Type 0} (b : Bool) (o : Option X) (x : X) → cond b o None ≡ Some x → (b ≡ true) × (o ≡ Some x)
cond-some true o x h = (refl, h)
cond-some false o x h = absurd (none-some x h)

row-at : (v : World) (o : Option ℕ) (y : Live) → row_at v o ≡ Some y → (i : ℕ) × (o ≡ Some i) × (row v.rows i ≡ Some y)
row-at v None y h = absurd (none-some y h)
row-at v (Some i) y h = (i, refl, h)

either : (b : Bool) (P Q R : Type 0) → (P → R) → (Q → R) → MatchBool b P Q → R
either true P Q R f g h = f h
either false P Q R f g h = g h

-- the first row that passes a test before a call, and that row after it
module _ (test : Option Live → Bool) (w v : World) (i : ℕ) (first : index_of test w.rows ≡ Some i) where
  passed : test (row w.rows i) ≡ true
  passed = (passes test w.rows i first).1

  unmoved : v ≡ w → test (row v.rows i) ≡ true
  unmoved e = ap (λ (z : World). test (row z.rows i)) e ∙ passed

  rewritten : (r : Option Live) → Written w i r v → row v.rows i ≡ r
  rewritten r d = ap (λ l. row l i) d.rows ∙ get_or-set_same w.rows i r None (passes test w.rows i first).0

-- the row that a fragment found has the named session after the call, too
module _ (sets : Settings) (w v : World) (q : Request) (id : SessionId) (r : Range) (at i : ℕ) (first : index_of (is_of id.serial q.path) w.rows ≡ Some i) (f : found sets w id q.path ≡ Some i) where
  abbrev test : Option Live → Bool
  test = is_of id.serial q.path

  abbrev Stays : Plan → Type 0
  Stays p = Done sets w q p v → test (row v.rows i) ≡ true

  took-stays : (j : ℕ) (x : Live) → found sets w id q.path ≡ Some j → row w.rows j ≡ Some x → Stays (take j x r)
  took-stays j x g h d =
      let e : j ≡ i = some_inj j i (sym g ∙ f) in
      let y = grown sets w.clock x r (length q.body) (is_whole q) in
      let here : row v.rows j ≡ Some y = ap (λ l. row l j) d.written.rows ∙ get_or-set_same w.rows j (Some y) None (row_inside w.rows j x h) in
      ap (λ k. test (row v.rows k)) (sym e) ∙ ap test here ∙ ap test (sym h) ∙ ap (λ k. test (row w.rows k)) e ∙ passed test w v i first

  fragment-stays : Stays (action_plan sets w q (Fragment id r at))
  fragment-stays =
      on_row w (found sets w id q.path) (take_plan sets w r at q.content_length) Stays (unmoved test w v i first)
      (λ j x g h. on-unless (fragment_fault sets x r at q.content_length (w.store.room j)) (take j x r) Stays
      (fragment-refuses sets x r at q.content_length (w.store.room j)) (λ o z. unmoved test w v i first) (λ none. took-stays j x g h))

  stays : Stays (cond sets.uploads (action_plan sets w q (Fragment id r at)) (refuse UploadsOff))
  stays = cond_both sets.uploads (action_plan sets w q (Fragment id r at)) (refuse UploadsOff) Stays (λ on. fragment-stays) (λ off. unmoved test w v i first)

-- the row of the session that was asked about has it after the verdict, too
ruled-serial : (serial : ℕ) (w v : World) (i : ℕ) (word : Word) (y : Live) → index_of (is_asked serial) w.rows ≡ Some i → Ruled w i word v → row v.rows i ≡ Some y → y.serial ≡ serial
ruled-serial serial w v i word y first d h =
    let x = d.session in
    let z : Some (ruled (word_phase word) x) ≡ Some y = sym (rewritten (is_asked serial) w v i first (Some (ruled (word_phase word) x)) d.written) ∙ h in
    let c = ap (is_asked serial) (sym d.there) ∙ passed (is_asked serial) w v i first in
    sym (ap (λ (u : Live). u.serial) (some_inj (ruled (word_phase word) x) y z))
    ∙ eqb-true x.serial serial (and_parts (eqb x.serial serial) (is_away x.phase) c).0

same-serial : (serial : ℕ) (w v : World) (i : ℕ) (y : Live) → index_of (is_asked serial) w.rows ≡ Some i → row v.rows i ≡ Some y → v ≡ w → y.serial ≡ serial
same-serial serial w v i y first h e =
    let c = ap (is_asked serial) (sym h) ∙ unmoved (is_asked serial) w v i first e in
    eqb-true y.serial serial (and_parts (eqb y.serial serial) (is_away y.phase) c).0

asked-serial : (serial : ℕ) (w v : World) (i : ℕ) (word : Word) (y : Live) (o : Option ℕ) → index_of (is_asked serial) w.rows ≡ o → o ≡ Some i → AskedDone w o word v → row v.rows i ≡ Some y → y.serial ≡ serial
asked-serial serial w v i word y None f g d h = absurd (none-some i g)
asked-serial serial w v i word y (Some j) f g d h =
    let e : j ≡ i = some_inj j i g in
    ruled-serial serial w v j word y f d (ap (λ k. row v.rows k) e ∙ h)

-- the session's entry has bytes at n places
abbrev pub Counts : Option Entry → ℕ → Type 0
Counts o n = (e : Entry) × (o ≡ Some e) × (places e.parts ≡ n)

module _ (sets : Settings) (start : List ℕ → Option (List ℕ)) (l : Ledger) (w v : World) (t : Tells sets start l v) where
  by-serial : (serial i : ℕ) (y : Live) → row v.rows i ≡ Some y → y.serial ≡ serial → Counts (l.sessions serial) y.received
  by-serial serial i y h s =
      let g = t.sessions.each i y h in
      (g.0, ap l.sessions (sym s) ∙ g.1, sym g.2.count)

  by_name : (id : SessionId) (path : List ℕ) (i : ℕ) (y : Live) → eqb id.site sets.site ≡ true → row v.rows i ≡ Some y → is_of id.serial path (row v.rows i) ≡ true → Counts (named sets l id path) y.received
  by_name id path i y site h is =
      let c = and_parts (eqb y.serial id.serial) (bytes_eq y.path path) (ap (is_of id.serial path) (sym h) ∙ is) in
      let g = t.sessions.each i y h in
      let s : l.sessions id.serial ≡ Some g.0 = ap l.sessions (sym (eqb-true y.serial id.serial c.0)) ∙ g.1 in
      let is-named : named sets l id path ≡ Some g.0 =
      ap (λ z. cond z (of_path path (l.sessions id.serial)) None) site
      ∙ ap (of_path path) s
      ∙ ap (λ z. cond z (Some g.0) None) (ap (λ z. bytes_eq z path) (sym g.2.path) ∙ c.1) in
      (g.0, is-named, sym g.2.count)

  fragment-range : (q : Request) (id : SessionId) (r : Range) (at : ℕ) (y : Live) → found_in sets w v q (Fragment id r at) ≡ Some y → Done sets w q (cond sets.uploads (action_plan sets w q (Fragment id r at)) (refuse UploadsOff)) v → Counts (named sets l id q.path) y.received
  fragment-range q id r at y h d =
      let a = row-at v (found sets w id q.path) y (cond-some sets.uploads (row_at v (found sets w id q.path)) y h).1 in
      let b = cond-some (eqb id.site sets.site) (index_of (is_of id.serial q.path) w.rows) a.0 a.1 in
      by_name id q.path a.0 y b.0 a.2 (stays sets w v q id r at a.0 b.1 a.1 d)

  action-range : (q : Request) (a : Action) (y : Live) → found_in sets w v q a ≡ Some y → Done sets w q (cond (is_ping a) ping (cond sets.uploads (action_plan sets w q a) (refuse UploadsOff))) v → Counts (session_in sets l q a) y.received
  action-range q (Create shared) y h d = absurd (none-some y h)
  action-range q Ping y h d = absurd (none-some y h)
  action-range q (Fragment id r at) y h d = fragment-range q id r at y h d
  action-range q (Close id) y h d = absurd (none-some y h)
  action-range q (Cancel id) y h d = absurd (none-some y h)

  read-range : (rep : Reported) (res : Result Request Fault) (n : ℕ) → range_told (read_ack rep sets w v res) ≡ Some n → ReadDone sets w res v → Counts (session_read sets l res) n
  unfolding plan_of
  read-range rep (Ok q) n e d =
      let k = request-counted rep sets w q.action (found_in sets w v q q.action) n e in
      let c = action-range q q.action k.0 k.1 d in
      (c.0, c.1, c.2 ∙ k.2)
  read-range rep (Err f) n e d = let k = request-counted rep sets w Ping None n e in absurd (none-some k.0 k.1)

  silent : (res : Result Request Fault) (n : ℕ) → range_told (read_ack Silent sets w v res) ≡ Some n → ⊥
  silent (Ok q) n e = none-some n e
  silent (Err f) n e = none-some n e

  message-range : (input : List ℕ) (b : Bool) (n : ℕ) → range_told (read_ack (report_of (cond b ShortPage (read_outcome sets w (packet_of input)))).answer sets w v (packet_of input)) ≡ Some n → MatchBool b (v ≡ w) (ReadDone sets w (packet_of input) v) → Counts (session_read sets l (packet_of input)) n
  message-range input true n e d = absurd (silent (packet_of input) n e)
  message-range input false n e d = read-range (report_of (read_outcome sets w (packet_of input))).answer (packet_of input) n e d

  answer-range : (page serial : ℕ) (word : Word) (n : ℕ) → range_told (answer_ack sets w page serial word v) ≡ Some n → AnswerDone w page serial word v → Counts (l.sessions serial) n
  answer-range page serial word n e d =
      let o = index_of (is_asked serial) w.rows in
      let k = verdict-counted (report_of (answer_outcome w page serial word)).answer sets serial (row_at v o) n e in
      let a = row-at v o k.0 k.1 in
      let same = same-serial serial w v a.0 k.0 a.1 a.2 in
      let asked = λ (z : AskedDone w o word v). asked-serial serial w v a.0 word k.0 o refl a.1 z a.2 in
      let s = either (ltb page 1024) (v ≡ w) (AskedDone w o word v) (k.0.serial ≡ serial) same asked d in
      let c = by-serial serial a.0 k.0 a.2 s in
      (c.0, c.1, c.2 ∙ k.2)

  pub call-range : (c : Call) (number n : ℕ) → range_told (ack_of_call sets w c v) ≡ Some n → Stepped sets w c number v → Counts (session_of sets l c) n
  call-range (message page input) number n e d = message-range input (ltb page 1024) n e d.1
  call-range (answer page serial word) number n e d = answer-range page serial word n e d.1
  call-range (tick reading) number n e d = absurd (none-some n e)
