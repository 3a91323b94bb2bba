-- What a request that was carried out, or refused, comes to.
use Rattle.std.proofs.Common.{◌≡◌, ℕ, zero, suc, ◌<◌, Bool, true, false, cond, not, ◌&&◌, eqb, ◌⊎◌, List, [], ◌∷◌, ◌++◌, length, set, is_some, Some, None, Ok, Err, Option, Result, sym, refl, ap, ◌∙◌, subst, inl, inr, arith, append-nil, eqb-true}
use Rattle.std.specs.Str.{bytes_eq}
use Rattle.std.proofs.lemmas.List.{get_or-set_same}
use Rattle.std.proofs.lemmas.Bool.{and_parts, true≢false}
use Rattle.ack.specs.Told.{ack_of, answered, handed_over}
use Rattle.ack.specs.declared.told.Call.{Call}
use Rattle.ack.specs.declared.told.Call.TheVariants as call
use Rattle.ack.specs.declared.told.Progress.{Progress}
use Rattle.ids.specs.declared.SessionId.{SessionId}
use Rattle.outcome.specs.Outcomes.{report_of}
use Rattle.outcome.specs.declared.Answer.{Answer as Reported}
use Rattle.outcome.specs.declared.Answer.TheVariants.{Silent, Accepted, Refused as Declined}
use Rattle.outcome.specs.declared.Outcome.{Outcome}
use Rattle.outcome.specs.declared.Outcome.TheVariants.{AtApprover, CutBody, Done as Whole, UploadsOff}
use Rattle.packet.specs.Packets.{Request}
use Rattle.packet.specs.declared.judging.Action.{Action}
use Rattle.packet.specs.declared.judging.Action.TheVariants.{Create, Ping, Fragment, Close, Cancel}
use Rattle.packet.specs.declared.ranges.Range.{Range}
use Rattle.store.specs.Meaning.{Change}
use Rattle.session.specs.Rules.{close_fault, create_fault, fragment_fault, grown, is_away, is_free, is_of, opened as beginning}
use Rattle.session.specs.Sessions.{Live, World, index_of, row}
use Rattle.session.specs.Plans.{Plan, refuse, take, close, create, action_plan, changes_of, create_plan, found, in_row, is_ping, is_whole, outcome_of, ping, plan_of, stands, unless, with_live, with_row}
use Rattle.session.specs.Steps.{Done}
use Rattle.session.specs.Told.{found_in, id_in, is_away_now, new_at, newly_away, request_ack, row_at}
use Rattle.session.specs.declared.records.Settings.{Settings}
use Rattle.history.proofs.Rows.{passes, row_inside}
use Rattle.intake_core.specs.Worlds.{Acting, Changed, Created, Shows, Visited, is_refusal, live_plan, notice_for, noticed, outcome_in, row_in}
use Rattle.intake_core.specs.declared.faults.Refused.{Refused}
use Rattle.intake_core.specs.declared.messages.Acted.{Acted}

-- a plan that was carried out, or refused
module _ {S : Type 0} (made : S → Change → S → Type 0) (sets : Settings) (w : World) (q : Request) (p : Plan) (s : S) where
  visited-number : (r : Result Outcome Refused) (v : World) (t : S) → Visited made sets w q p s r v t → outcome_in r ≡ outcome_of q p
  visited-number (Ok o) v t h = h.1
  visited-number (Err e) v t h = sym (ap (outcome_of q) h.0)

  visited-done : (r : Result Outcome Refused) (v : World) (t : S) → Visited made sets w q p s r v t → Done sets w q p v
  visited-done (Ok o) v t h = h.2
  visited-done (Err e) v t h = subst (λ x. Done sets w q x v) (sym h.0) h.1

  visited-account : (r : Result Outcome Refused) (v : World) (t : S) → Visited made sets w q p s r v t → Changed made s (changes_of q p) t
  visited-account (Ok o) v t h = h.3
  visited-account (Err e) v t h = subst (λ x. Changed made s (changes_of q x) t) (sym h.0) h.2

-- the sessions newly at the approver
new-same : (x : Option Live) → new_at x x ≡ []
new-same None = refl
new-same (Some x) = at (is_away x.phase)
  where
    at : (b : Bool) → cond (b && not b) (x.serial ∷ []) [] ≡ []
    at true = refl
    at false = refl

pub newly-none : (xs : List (Option Live)) → newly_away xs xs ≡ []
newly-none [] = refl
newly-none (x ∷ xs) = (λ k. new-same x k ++ newly-none xs k)

pub newly-set : (xs : List (Option Live)) (i : ℕ) (y : Option Live) → i < length xs → newly_away xs (set xs i y) ≡ new_at (row xs i) y
newly-set [] i y lt = absurd (omega arith)
newly-set (x ∷ xs) zero y lt = ap (λ l. new_at x y ++ l) (newly-none xs) ∙ append-nil (new_at x y)
newly-set (x ∷ xs) (suc i) y lt = ap (λ l. l ++ newly_away xs (set xs i y)) (new-same x) ∙ newly-set xs i y (omega arith)

-- the plan of a request that a live session is asked for
module _ (sets : Settings) (w : World) (q : Request) (id : SessionId) (on : sets.uploads ≡ true) where
  pub planned : (a : Action) → q.action ≡ a → is_ping a ≡ false → action_plan sets w q a ≡ with_row w (found sets w id q.path) (live_plan sets w q a) → plan_of sets w q ≡ with_row w (found sets w id q.path) (live_plan sets w q q.action)
  unfolding plan_of
  planned a e free is =
      ap (λ b. cond (is_ping b) ping (cond sets.uploads (action_plan sets w q b) (refuse UploadsOff))) e
      ∙ ap (λ t. cond t ping (cond sets.uploads (action_plan sets w q a) (refuse UploadsOff))) free
      ∙ ap (λ t. cond t (action_plan sets w q a) (refuse UploadsOff)) on
      ∙ is ∙ ap (λ b. with_row w (found sets w id q.path) (live_plan sets w q b)) (sym e)

-- a row that is found has the session's serial
serial-of : (sets : Settings) (w : World) (id : SessionId) (path : List ℕ) (i : ℕ) (x : Live) → found sets w id path ≡ Some i → row w.rows i ≡ Some x → x.serial ≡ id.serial
serial-of sets w id path i x e here = at (eqb id.site sets.site) e
  where
    at : (b : Bool) → cond b (index_of (is_of id.serial path) w.rows) None ≡ Some i → x.serial ≡ id.serial
    at true h =
        let p = (passes (is_of id.serial path) w.rows i h).1 in
        eqb-true x.serial id.serial (and_parts (eqb x.serial id.serial) (bytes_eq x.path path) (sym (ap (is_of id.serial path) here) ∙ p)).0
    at false h = absurd (let z : ◌≡◌ {A = ℕ} 0 1 = cc in omega arith)

not-away : (sets : Settings) (x : Live) (r : Range) (at n room : ℕ) → fragment_fault sets x r at n room ≡ None → is_away x.phase ≡ false
not-away sets x r at n room e = by (is_away x.phase) _ e
  where
    by : (b : Bool) (f : Option Outcome) → cond b (Some AtApprover) f ≡ None → b ≡ false
    by true f h = absurd (let z : ◌≡◌ {A = ℕ} 0 1 = cc in omega arith)
    by false f h = refl

-- a whole fragment that brings its session to the approver
noticing : (sets : Settings) (clock : ℕ) (x : Live) (r : Range) (m serial : ℕ) (whole : Bool) → is_away x.phase ≡ false → x.serial ≡ serial
    → notice_for (Ok (cond whole Whole CutBody)) (is_away (grown sets clock x r m whole).phase) serial ≡ new_at (Some x) (Some (grown sets clock x r m whole))
noticing sets clock x r m serial true off same =
    let p = is_away (grown sets clock x r m true).phase in
    (λ k. cond p (sym same k ∷ []) []) ∙ ap (λ b. cond b (x.serial ∷ []) []) (at p) ∙ ap (λ b. cond (p && not b) (x.serial ∷ []) []) (sym off)
  where
    at : (b : Bool) → b ≡ (b && not false)
    at true = refl
    at false = refl
noticing sets clock x r m serial false off same = ap (λ b. cond (b && not (is_away x.phase)) (x.serial ∷ []) []) (sym off)

module _ (sets : Settings) (w v : World) (q : Request) (id : SessionId) (r : Range) (at : ℕ) (progress : Option Progress) where
  -- the row that was found, and what the plan says of it
  newly-take : (i : ℕ) (x : Live) (o : Outcome) (f : Option Outcome) → f ≡ fragment_fault sets x r at q.content_length (w.store.room i)
      → found sets w id q.path ≡ Some i → row w.rows i ≡ Some x → handed_over progress ≡ is_away_now (row v.rows i)
      → is_refusal (unless f (take i x r)) ≡ false → o ≡ outcome_of q (unless f (take i x r)) → Done sets w q (unless f (take i x r)) v
      → notice_for (Ok o) (handed_over progress) id.serial ≡ newly_away w.rows v.rows
  newly-take i x o (Some f) is e here shows free out done = absurd (true≢false free)
  newly-take i x o None is e here shows free out done =
      let inside = row_inside w.rows i x here in
      let y = grown sets w.clock x r (length q.body) (is_whole q) in
      let now : row v.rows i ≡ Some y = ap (λ l. row l i) done.written.rows ∙ get_or-set_same w.rows i (Some y) None inside in
      (λ k. notice_for (Ok (out k)) ((shows ∙ ap is_away_now now) k) id.serial)
      ∙ noticing sets w.clock x r (length q.body) id.serial (is_whole q) (not-away sets x r at q.content_length (w.store.room i) (sym is)) (serial-of sets w id q.path i x e here)
      ∙ ap (λ z. new_at z (Some y)) (sym here)
      ∙ sym (newly-set w.rows i (Some y) inside) ∙ ap (newly_away w.rows) (sym done.written.rows)

  newly-live : (i : ℕ) (x : Option Live) (o : Outcome)
      → found sets w id q.path ≡ Some i → row w.rows i ≡ x → handed_over progress ≡ is_away_now (row v.rows i)
      → is_refusal (with_live x i (live_plan sets w q (Fragment id r at))) ≡ false → o ≡ outcome_of q (with_live x i (live_plan sets w q (Fragment id r at))) → Done sets w q (with_live x i (live_plan sets w q (Fragment id r at))) v
      → notice_for (Ok o) (handed_over progress) id.serial ≡ newly_away w.rows v.rows
  newly-live i None o e here shows free out done = absurd (true≢false free)
  newly-live i (Some x) o e here shows free out done = newly-take i x o (fragment_fault sets x r at q.content_length (w.store.room i)) refl e here shows free out done

  newly-found : (n : Option ℕ) (o : Outcome)
      → found sets w id q.path ≡ n → handed_over progress ≡ is_away_now (row_in v.rows n)
      → is_refusal (with_row w n (live_plan sets w q (Fragment id r at))) ≡ false → o ≡ outcome_of q (with_row w n (live_plan sets w q (Fragment id r at))) → Done sets w q (with_row w n (live_plan sets w q (Fragment id r at))) v
      → notice_for (Ok o) (handed_over progress) id.serial ≡ newly_away w.rows v.rows
  newly-found None o e shows free out done = absurd (true≢false free)
  newly-found (Some i) o e shows free out done = newly-live i (row w.rows i) o e refl shows free out done

  -- the acknowledgement of a fragment tells its session
  fragment-told : (rep : Reported) (x : Option Live) → Shows progress x → answered rep (call.Fragment id progress) ≡ request_ack rep sets w (Fragment id r at) x
  fragment-told Silent x s = refl
  fragment-told Accepted x s = λ k. cond (s.away k) None (Some (record { refusal = None; opened = false; id = Some id; received = s.received k; reply = s.reply k }))
  fragment-told (Declined f) x s = λ k. Some (record { refusal = Some f; opened = false; id = None; received = s.received k; reply = s.reply k })

row-of : (v : World) (n : Option ℕ) → row_in v.rows n ≡ row_at v n
row-of v None = refl
row-of v (Some i) = refl

-- the range of a fragment, and its line
abbrev pub range_in : Action → Range
range_in (Create shared) = record { first = 0; last = 0; total = 0 }
range_in Ping = record { first = 0; last = 0; total = 0 }
range_in (Fragment id r at) = r
range_in (Close id) = record { first = 0; last = 0; total = 0 }
range_in (Cancel id) = record { first = 0; last = 0; total = 0 }

abbrev pub line_in : Action → ℕ
line_in (Create shared) = 0
line_in Ping = 0
line_in (Fragment id r at) = at
line_in (Close id) = 0
line_in (Cancel id) = 0

-- a fragment
module _ {S : Type 0} (made : S → Change → S → Type 0) (sets : Settings) (w : World) (q : Request) (id : SessionId) (r : Range) (at : ℕ) (s : S) (v : World) (t : S)
    (on : sets.uploads ≡ true) (kind : q.action ≡ Fragment id r at) where
  newly-fragment : (n : Option ℕ) (progress : Option Progress) (result : Result Outcome Refused)
      → found sets w id q.path ≡ n → handed_over progress ≡ is_away_now (row_in v.rows n) → Visited made sets w q (with_row w n (live_plan sets w q q.action)) s result v t
      → notice_for result (handed_over progress) id.serial ≡ newly_away w.rows v.rows
  newly-fragment n progress (Ok o) e shows h =
      let g = subst (λ a. Visited made sets w q (with_row w n (live_plan sets w q a)) s (Ok o) v t) kind h in
      newly-found sets w v q id r at progress n o e shows g.0 g.1 g.2
  newly-fragment n progress (Err e) is shows h = sym (newly-none w.rows) ∙ ap (newly_away w.rows) (sym (ap (λ u. u.rows) h.1))

  pub fragment-acting : (n : Option ℕ) (progress : Option Progress) (result : Result Outcome Refused) (a : Acted)
      → n ≡ found sets w id q.path → Visited made sets w q (with_row w n (live_plan sets w q q.action)) s result v t → Shows progress (row_in v.rows n)
      → a.outcome ≡ outcome_in result → a.call ≡ call.Fragment id progress → noticed a.notice ≡ notice_for result (handed_over progress) id.serial
      → Acting made sets w q (plan_of sets w q) s a v t
  fragment-acting n progress result a e h shows out told new =
      let plan = planned sets w q id on (Fragment id r at) kind refl refl ∙ ap (λ m. with_row w m (live_plan sets w q q.action)) (sym e) in
      let p = with_row w n (live_plan sets w q q.action) in
      let seen : found_in sets w v q q.action ≡ row_in v.rows n =
      ap (found_in sets w v q) kind ∙ ap (λ b. cond b (row_at v (found sets w id q.path)) None) on ∙ ap (row_at v) (sym e) ∙ sym (row-of v n) in
      record {
        number = out ∙ visited-number made sets w q p s result v t h ∙ ap (outcome_of q) (sym plan);
        done = subst (λ x. Done sets w q x v) (sym plan) (visited-done made sets w q p s result v t h);
        account = subst (λ x. Changed made s (changes_of q x) t) (sym plan) (visited-account made sets w q p s result v t h);
        told = ap (ack_of a.outcome) told ∙ fragment-told sets w v q id r at progress (report_of a.outcome).answer (row_in v.rows n) shows
            ∙ (λ k. request_ack (report_of a.outcome).answer sets w (sym kind k) (sym seen k));
        newly = new ∙ newly-fragment n progress result (sym e) shows.away h;
      }

-- a plan that is to end a session brings none to the approver
abbrev Silences : World → World → Type 0
Silences w v = [] ≡ newly_away w.rows v.rows

freed : (w v : World) (i : ℕ) → i < length w.rows → v.rows ≡ set w.rows i None → Silences w v
freed w v i inside e = sym (newly-set w.rows i None inside) ∙ ap (newly_away w.rows) (sym e)

same_rows : (w v : World) → v ≡ w → Silences w v
same_rows w v e = sym (newly-none w.rows) ∙ ap (newly_away w.rows) (sym (ap (λ u. u.rows) e))

-- a close or a cancellation, and what is told of it
abbrev Ends : SessionId → Action → Call → Type 0
Ends id a c = ((a ≡ Close id) × (c ≡ call.Close id)) ⊎ ((a ≡ Cancel id) × (c ≡ call.Cancel id))

module _ (sets : Settings) (w v : World) (q : Request) (id : SessionId) where
  silent-close : (i : ℕ) (x : Live) (f : Option Outcome) → row w.rows i ≡ Some x → Done sets w q (unless f (close i x)) v → Silences w v
  silent-close i x (Some o) here done = same_rows w v done
  silent-close i x None here done = freed w v i (row_inside w.rows i x here) done.written.rows

  silent-live : (i : ℕ) (x : Option Live) (a : Action) → (a ≡ Close id) ⊎ (a ≡ Cancel id) → row w.rows i ≡ x → Done sets w q (with_live x i (live_plan sets w q a)) v → Silences w v
  silent-live i None a k here done = same_rows w v done
  silent-live i (Some x) a (inl e) here done =
      silent-close i x (close_fault sets x.phase (stands w x.path) (w.store.publishable i x.path)) here (subst (λ b. Done sets w q (live_plan sets w q b i x) v) e done)
  silent-live i (Some x) a (inr e) here done = freed w v i (row_inside w.rows i x here) (subst (λ b. Done sets w q (live_plan sets w q b i x) v) e done).written.rows

  silent-row : (n : Option ℕ) (a : Action) → (a ≡ Close id) ⊎ (a ≡ Cancel id) → Done sets w q (with_row w n (live_plan sets w q a)) v → Silences w v
  silent-row None a k done = same_rows w v done
  silent-row (Some i) a k done = silent-live i (row w.rows i) a k refl done

  close-told : (rep : Reported) → answered rep (call.Close id) ≡ request_ack rep sets w (Close id) (found_in sets w v q (Close id))
  close-told Silent = refl
  close-told Accepted = refl
  close-told (Declined f) = refl

  cancel-told : (rep : Reported) → answered rep (call.Cancel id) ≡ request_ack rep sets w (Cancel id) (found_in sets w v q (Cancel id))
  cancel-told Silent = refl
  cancel-told Accepted = refl
  cancel-told (Declined f) = refl

  ends-told : (a : Action) (c : Call) → Ends id a c → (rep : Reported) → answered rep c ≡ request_ack rep sets w a (found_in sets w v q a)
  ends-told a c (inl (e, f)) rep = ap (answered rep) f ∙ close-told rep ∙ ap (λ b. request_ack rep sets w b (found_in sets w v q b)) (sym e)
  ends-told a c (inr (e, f)) rep = ap (answered rep) f ∙ cancel-told rep ∙ ap (λ b. request_ack rep sets w b (found_in sets w v q b)) (sym e)

  ends-planned : (c : Call) → sets.uploads ≡ true → Ends id q.action c → plan_of sets w q ≡ with_row w (found sets w id q.path) (live_plan sets w q q.action)
  ends-planned c on (inl (e, f)) = planned sets w q id on (Close id) e refl refl
  ends-planned c on (inr (e, f)) = planned sets w q id on (Cancel id) e refl refl

  which : (a : Action) (c : Call) → Ends id a c → (a ≡ Close id) ⊎ (a ≡ Cancel id)
  which a c (inl (e, f)) = inl e
  which a c (inr (e, f)) = inr e

module _ {S : Type 0} (made : S → Change → S → Type 0) (sets : Settings) (w : World) (q : Request) (id : SessionId) (s : S) (v : World) (t : S) (on : sets.uploads ≡ true) where
  pub ends-acting : (n : Option ℕ) (result : Result Outcome Refused) (c : Call) (a : Acted)
      → n ≡ found sets w id q.path → Visited made sets w q (with_row w n (live_plan sets w q q.action)) s result v t → Ends id q.action c
      → a.outcome ≡ outcome_in result → a.call ≡ c → a.notice ≡ None
      → Acting made sets w q (plan_of sets w q) s a v t
  ends-acting n result c a e h kind out told none =
      let plan = ends-planned sets w v q id c on kind ∙ ap (λ m. with_row w m (live_plan sets w q q.action)) (sym e) in
      let p = with_row w n (live_plan sets w q q.action) in
      let done = visited-done made sets w q p s result v t h in
      record {
        number = out ∙ visited-number made sets w q p s result v t h ∙ ap (outcome_of q) (sym plan);
        done = subst (λ x. Done sets w q x v) (sym plan) done;
        account = subst (λ x. Changed made s (changes_of q x) t) (sym plan) (visited-account made sets w q p s result v t h);
        told = ap (ack_of a.outcome) told ∙ ends-told sets w v q id q.action c kind (report_of a.outcome).answer;
        newly = ap noticed none ∙ silent-row sets w v q id n q.action (which sets w v q id q.action c kind) done;
      }

-- a ping
module _ {S : Type 0} (made : S → Change → S → Type 0) (sets : Settings) (w : World) (q : Request) (s : S) (a : Acted) where
  pinged-plan : q.action ≡ Ping → plan_of sets w q ≡ ping
  unfolding plan_of
  pinged-plan e = ap (λ b. cond (is_ping b) ping (cond sets.uploads (action_plan sets w q b) (refuse UploadsOff))) e

  pub ping-acting : q.action ≡ Ping → a.outcome ≡ Whole → a.call ≡ call.Ping → a.notice ≡ None → Acting made sets w q (plan_of sets w q) s a w s
  ping-acting e out told none = record {
    number = out ∙ ap (outcome_of q) (sym (pinged-plan e));
    done = subst (λ x. Done sets w q x w) (sym (pinged-plan e)) refl;
    account = subst (λ x. Changed made s (changes_of q x) s) (sym (pinged-plan e)) refl;
    told = (λ k. ack_of (out k) (told k)) ∙ (λ k. request_ack (report_of (sym out k)).answer sets w (sym e k) (found_in sets w w q (sym e k)));
    newly = ap noticed none ∙ sym (newly-none w.rows);
  }

  off-plan : is_ping q.action ≡ false → sets.uploads ≡ false → plan_of sets w q ≡ refuse UploadsOff
  unfolding plan_of
  off-plan e off = (λ k. cond (e k) ping (cond (off k) (action_plan sets w q q.action) (refuse UploadsOff)))

  none_found : (b : Action) → sets.uploads ≡ false → found_in sets w w q b ≡ None
  none_found (Create shared) off = refl
  none_found Ping off = refl
  none_found (Fragment id r at) off = ap (λ t. cond t (row_at w (found sets w id q.path)) None) off
  none_found (Close id) off = refl
  none_found (Cancel id) off = refl

  -- where uploads are off, all else is refused
  pub off-acting : is_ping q.action ≡ false → sets.uploads ≡ false → a.outcome ≡ UploadsOff → a.call ≡ call.Unread → a.notice ≡ None → Acting made sets w q (plan_of sets w q) s a w s
  off-acting e off out told none = record {
    number = out ∙ ap (outcome_of q) (sym (off-plan e off));
    done = subst (λ x. Done sets w q x w) (sym (off-plan e off)) refl;
    account = subst (λ x. Changed made s (changes_of q x) s) (sym (off-plan e off)) refl;
    told = (λ k. ack_of (out k) (told k)) ∙ (λ k. request_ack (report_of (sym out k)).answer sets w q.action (sym (none_found q.action off) k));
    newly = ap noticed none ∙ sym (newly-none w.rows);
  }

-- a creation goes to a free row of the table
inside_of : (sets : Settings) (w : World) (shared : Bool) (path : List ℕ) (i : ℕ) → create_plan sets w shared path ≡ create i → i < length w.rows
unfolding create_plan
inside_of sets w shared path i e = by (create_fault sets shared path (stands w path) (not (is_some (index_of is_free w.rows))) w.next) (index_of is_free w.rows) refl e
  where
    by : (f : Option Outcome) (n : Option ℕ) → index_of is_free w.rows ≡ n → unless f (in_row n) ≡ create i → i < length w.rows
    by (Some o) n is h = absurd (let z : ◌≡◌ {A = ℕ} 0 1 = cc in omega arith)
    by None None is h = absurd (let z : ◌≡◌ {A = ℕ} 0 1 = cc in omega arith)
    by None (Some k) is h = let same : k ≡ i = cc in subst (λ j. j < length w.rows) same (passes is_free w.rows k is).0

-- a creation
module _ {S : Type 0} (made : S → Change → S → Type 0) (sets : Settings) (w : World) (q : Request) (s : S) (shared : Bool) (v : World) (t : S)
    (on : sets.uploads ≡ true) (kind : q.action ≡ Create shared) where
  created-plan : plan_of sets w q ≡ create_plan sets w shared q.path
  unfolding plan_of
  created-plan =
      ap (λ b. cond (is_ping b) ping (cond sets.uploads (action_plan sets w q b) (refuse UploadsOff))) kind
      ∙ ap (λ b. cond b (create_plan sets w shared q.path) (refuse UploadsOff)) on

  create-told : (rep : Reported) → answered rep (call.Create (id_in sets w.next)) ≡ request_ack rep sets w (Create shared) None
  create-told Silent = refl
  create-told Accepted = refl
  create-told (Declined f) = refl

  carried-out : (p : Plan) (r : Result Outcome Refused) → Created made p w q.path s r v t → Visited made sets w q p s r v t
  carried-out p (Ok o) (i, is, opened, account, done) =
      (ap is_refusal is, done ∙ ap (outcome_of q) (sym is), subst (λ x. Done sets w q x v) (sym is) opened, subst (λ x. Changed made s (changes_of q x) t) (sym is) (t, account, refl))
  carried-out p (Err e) h = h

  silent-create : (r : Result Outcome Refused) → Created made (create_plan sets w shared q.path) w q.path s r v t → Silences w v
  silent-create (Ok o) (i, is, opened, account, done) =
      sym (newly-set w.rows i (Some (beginning w.clock w.next q.path)) (inside_of sets w shared q.path i is)) ∙ ap (newly_away w.rows) (sym opened.rows)
  silent-create (Err e) (is, same, kept) = same_rows w v same

  pub create-acting : (r : Result Outcome Refused) (a : Acted) → Created made (create_plan sets w shared q.path) w q.path s r v t
      → a.outcome ≡ outcome_in r → a.call ≡ call.Create (id_in sets w.next) → a.notice ≡ None → Acting made sets w q (plan_of sets w q) s a v t
  create-acting r a h out told none =
      let p = create_plan sets w shared q.path in
      let visit = carried-out p r h in
      record {
        number = out ∙ visited-number made sets w q p s r v t visit ∙ ap (outcome_of q) (sym created-plan);
        done = subst (λ x. Done sets w q x v) (sym created-plan) (visited-done made sets w q p s r v t visit);
        account = subst (λ x. Changed made s (changes_of q x) t) (sym created-plan) (visited-account made sets w q p s r v t visit);
        told = ap (ack_of a.outcome) told ∙ create-told (report_of a.outcome).answer ∙ (λ k. request_ack (report_of a.outcome).answer sets w (sym kind k) (found_in sets w v q (sym kind k)));
        newly = ap noticed none ∙ silent-create r h;
      }

pub not-ping : (a : Action) → (a ≡ Ping → ⊥) → is_ping a ≡ false
not-ping (Create shared) h = refl
not-ping Ping h = absurd (h refl)
not-ping (Fragment id r at) h = refl
not-ping (Close id) h = refl
not-ping (Cancel id) h = refl
