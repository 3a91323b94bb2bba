-- One message: a world that is told stays told.
use Rattle.std.proofs.Common.{◌≡◌, ℕ, ◌+◌, ◌≤◌, Bool, true, false, cond, not, eqb, ltb, List, [], ◌++◌, length, is_some, Some, None, Ok, Err, MatchBool, Option, Result, sym, refl, ap, ◌∙◌, subst, ⊎_elim, arith}
use Rattle.std.specs.Map.{update}
use Rattle.std.specs.Str.{bytes_eq}
use Rattle.std.proofs.lemmas.Slice.Eq.{bytes_eq-Decides}
use Rattle.std.proofs.lemmas.Bool.{both_ways, and_parts, eqb-true, cases_Bool, cond_both}
use Rattle.std.proofs.lemmas.Option.{none-some}
use Rattle.ids.specs.declared.SessionId.{SessionId}
use Rattle.outcome.specs.declared.Outcome.{Outcome}
use Rattle.outcome.specs.declared.Outcome.TheVariants.{Done as Finished, ShortPage, CutBody, TooManySessions, NoSession, UploadsOff}
use Rattle.packet.specs.Packets.{Request, packet_of}
use Rattle.packet.specs.declared.Fault.{Fault}
use Rattle.packet.specs.declared.judging.Action.{Action}
use Rattle.packet.specs.declared.judging.Action.TheVariants.{Create, Ping, Fragment, Close, Cancel}
use Rattle.packet.specs.declared.ranges.Range.{Range}
use Rattle.session.specs.Sessions.{Live, World, row, index_of}
use Rattle.session.specs.Rules.{is_of, is_free, grown, opened, fragment_fault, close_fault, create_fault}
use Rattle.session.specs.Plans.{Plan, refuse, ping, create, take, close, cancel, found, in_row, stands, create_plan, take_plan, close_plan, action_plan, is_ping, plan_of, is_whole, outcome_of, fresh}
use Rattle.session.specs.Steps.{Closed, Done, read_outcome, ReadDone, message_outcome, MessageDone}
use Rattle.session.specs.declared.records.Settings.{Settings}
use Rattle.history.specs.Ledger.{Standing, receiving, ready, Entry, Ledger, written, of_path, named, opening, carried, carrying, closing, cancelling, part_of, after_done, after_cut, after_request, after_message}
use Rattle.history.specs.Law.{standing_of, Keeps, Whole, Stands, Tells, number}
use Rattle.history.proofs.Rows.{passes}
use Rattle.history.proofs.OneRow.{one-row, live-row}
use Rattle.history.proofs.Taken.{taken-keeps}
use Rattle.history.proofs.Refusals.{Refuses, create-refuses, fragment-refuses, fragment-none, close-refuses, close-none, on-unless, on_row, Bodied, bodied}

abbrev new_entry : List ℕ → ℕ → Entry
new_entry path clock = record { path = path; parts = []; total = None; standing = receiving; approved = false; stamp = clock }

not-ready : ◌≡◌ {A = Standing} receiving ready → ⊥
not-ready e = let y : ◌≡◌ {A = ℕ} 0 1 = cc in omega arith

new-keeps : (sets : Settings) (path : List ℕ) (clock tells next : ℕ) → clock ≡ tells → Keeps sets (new_entry path tells) (opened clock next path) []
new-keeps sets path clock tells next e = record {
  path = refl;
  total = refl;
  state = refl;
  stamp = e;
  bytes = λ p. refl;
  size = refl;
  count = refl;
  bound = λ t f. absurd (none-some t f);
  unset = λ f. refl;
  whole = λ ne. absurd (ne refl);
  told = λ a f. absurd (not-ready f);
}

pub at_slot : (sets : Settings) (e : Entry) (x : Live) (s t : List ℕ) → s ≡ t → Keeps sets e x t → Keeps sets e x s
at_slot sets e x s t h k = let P : List ℕ → Type 0 = λ z. Keeps sets e x z in subst P (sym h) k

cond-some : (b : Bool) (o : Option ℕ) (i : ℕ) → cond b o None ≡ Some i → (b ≡ true) × (o ≡ Some i)
cond-some true o i h = (refl, h)
cond-some false o i h = absurd (none-some i h)

free-row : (r : Option Live) (y : Live) → is_free r ≡ true → r ≡ Some y → ⊥
free-row None y f e = none-some y e
free-row (Some x) y f e = both_ways false refl f

is-of : (serial : ℕ) (path : List ℕ) (r : Option Live) (x : Live) → is_of serial path r ≡ true → r ≡ Some x → (x.serial ≡ serial) × (bytes_eq x.path path ≡ true)
is-of serial path r x h e =
    let a : is_of serial path (Some x) ≡ true = ap (is_of serial path) (sym e) ∙ h in
    let b = and_parts (eqb x.serial serial) (bytes_eq x.path path) a in
    (eqb-true x.serial serial b.0, b.1)

-- the session that a message names, in its row and on the ledger
record Known (sets : Settings) (l : Ledger) (w : World) (id : SessionId) (path : List ℕ) (i : ℕ) (x : Live) : Type 0 where
  entry : Entry
  serial : x.serial ≡ id.serial
  told : named sets l id path ≡ Some entry
  keeps : Keeps sets entry x (w.store.held i)

abbrev After : Settings → (List ℕ → Option (List ℕ)) → Ledger → World → World → Request → Action → Plan → Type 0
After sets start l w v q a p = Done sets w q p v → Tells sets start (after_request sets l (number (outcome_of q p)) q a) v

took_number : (sets : Settings) (l : Ledger) (q : Request) (id : SessionId) (r : Range) (at : ℕ) (b : Bool) → after_request sets l (number (cond b Finished CutBody)) q (Fragment id r at) ≡ carrying sets l b id.serial (part_of r q) r.total (named sets l id q.path)
took_number sets l q id r at true = refl
took_number sets l q id r at false = refl

short : (sets : Settings) (l : Ledger) (res : Result Request Fault) → after_message sets l 1 res ≡ l
short sets l (Ok q) = refl
short sets l (Err e) = refl

module _ (sets : Settings) (start : List ℕ → Option (List ℕ)) (l : Ledger) (w v : World) (t : Tells sets start l w) where
  pub kept-names : ((n : List ℕ) → v.store.catalog n ≡ w.store.catalog n) → (n : List ℕ) → Stands sets (start n) (v.store.catalog n) (l.published n)
  kept-names f n = let P : Option (List ℕ) → Type 0 = λ c. Stands sets (start n) c (l.published n) in subst P (sym (f n)) (t.catalog n)

  pub unchanged : v ≡ w → Tells sets start l v
  unchanged e = let P : World → Type 0 = λ z. Tells sets start l z in subst P (sym e) t

  refused-after : (q : Request) (a : Action) (o : Outcome) → Refuses o → After sets start l w v q a (refuse o)
  refused-after q a o f d =
      let P : Ledger → Type 0 = λ z. Tells sets start z v in
      let e : after_request sets l (number o) q a ≡ l =
      ap (λ b. cond b (after_done sets l q a) (cond (eqb (number o) 19) (after_cut sets l q a) l)) f.0 ∙ ap (λ b. cond b (after_cut sets l q a) l) f.1 in
      subst P (sym e) (unchanged d)

  opened_after : (q : Request) (shared : Bool) (i : ℕ) → index_of is_free w.rows ≡ Some i → After sets start l w v q (Create shared) (create i)
  opened_after q shared i f d =
      let g = passes is_free w.rows i f in
      let lt = g.0 in
      record {
        next = d.next ∙ ap (λ n. n + 1) t.next;
        clock = d.clock ∙ t.clock;
        sessions = one-row sets l.sessions (opening l q.path).sessions l.next (l.next + 1) w.rows v.rows w.store.held v.store.held i l.next
            (Some (opened w.clock w.next q.path)) (Some (new_entry q.path l.clock)) t.sessions (omega (arith, t.sessions.size))
            (λ j y h e. let z = t.sessions.young j y h in absurd (omega arith))
            (λ y h. absurd (free-row (row w.rows i) y g.1 h))
            d.rows d.cleared.others (λ n. refl) (omega arith) (omega arith)
            (t.next, at_slot sets (new_entry q.path l.clock) (opened w.clock w.next q.path) (v.store.held i) [] d.cleared.emptied (new-keeps sets q.path w.clock l.clock w.next t.clock));
        catalog = kept-names d.cleared.names;
      }

  known : (id : SessionId) (path : List ℕ) (i : ℕ) (x : Live) → found sets w id path ≡ Some i → row w.rows i ≡ Some x → Known sets l w id path i x
  known id path i x f h =
      let a = cond-some (eqb id.site sets.site) (index_of (is_of id.serial path) w.rows) i f in
      let b = passes (is_of id.serial path) w.rows i a.1 in
      let c = is-of id.serial path (row w.rows i) x b.1 h in
      let g = t.sessions.each i x h in
      let s : l.sessions id.serial ≡ Some g.0 = ap l.sessions (sym c.0) ∙ g.1 in
      record {
        entry = g.0;
        serial = c.0;
        told =
            ap (λ z. cond z (of_path path (l.sessions id.serial)) None) a.0
            ∙ ap (of_path path) s
            ∙ ap (λ z. cond z (Some g.0) None) (ap (λ z. bytes_eq z path) (sym g.2.path) ∙ c.1);
        keeps = g.2;
      }

  took-after : (q : Request) (id : SessionId) (r : Range) (at i : ℕ) (x : Live) → length q.body ≤ q.content_length → found sets w id q.path ≡ Some i → row w.rows i ≡ Some x → fragment_fault sets x r at q.content_length (w.store.room i) ≡ None → After sets start l w v q (Fragment id r at) (take i x r)
  took-after q id r at i x came f h none d =
      let kn = known id q.path i x f h in
      let c = fragment-none sets x r at q.content_length (w.store.room i) none in
      let b = is_whole q in
      let P : Ledger → Type 0 = λ z. Tells sets start z v in
      let e = took_number sets l q id r at b ∙ ap (λ o. carrying sets l b id.serial (part_of r q) r.total o) kn.told in
      let entry = carried sets l.clock b kn.entry (part_of r q) r.total in
      let session = grown sets w.clock x r (length q.body) b in
      subst P (sym e) (record {
        next = d.written.next ∙ t.next;
        clock = d.written.clock ∙ t.clock;
        sessions = live-row sets l.sessions (written l id.serial (Some entry)).sessions l.next w.rows v.rows w.store.held v.store.held i id.serial x
            (Some session) (Some entry) t.sessions h kn.serial d.written.rows d.added.others (λ n. refl) (
              kn.serial,
              at_slot sets entry session (v.store.held i) (w.store.held i ++ fresh x r q.body) d.added.grown
                  (taken-keeps sets w.clock l.clock t.clock kn.entry x (w.store.held i) r q.body q.content_length kn.keeps c.0 c.1 c.2 came b),
            );
        catalog = kept-names d.added.names;
      })

  cancelled-after : (q : Request) (id : SessionId) (i : ℕ) (x : Live) → found sets w id q.path ≡ Some i → row w.rows i ≡ Some x → After sets start l w v q (Cancel id) (cancel i x)
  cancelled-after q id i x f h d =
      let kn = known id q.path i x f h in
      let P : Ledger → Type 0 = λ z. Tells sets start z v in
      subst P (sym (ap (cancelling l id.serial) kn.told)) (record {
        next = d.written.next ∙ t.next;
        clock = d.written.clock ∙ t.clock;
        sessions = live-row sets l.sessions (written l id.serial None).sessions l.next w.rows v.rows w.store.held v.store.held i id.serial x
            None None t.sessions h kn.serial d.written.rows d.cleared.others (λ n. refl) tt;
        catalog = kept-names d.cleared.names;
      })

  closed-catalog : (id : SessionId) (path : List ℕ) (i : ℕ) (x : Live) (kn : Known sets l w id path i x) → standing_of x.phase ≡ ready → Closed w i x v → (n : List ℕ) → Stands sets (start n) (v.store.catalog n) (update bytes_eq l.published kn.entry.path (Some kn.entry) n)
  closed-catalog id path i x kn s d n =
      let k = kn.keeps in
      let e = kn.entry in
      let P : Option Entry → Type 0 = λ z. Stands sets (start n) (v.store.catalog n) z in
      let g = bytes_eq-Decides e.path n in
      let st : e.standing ≡ ready = sym k.state ∙ s in
      ⊎_elim
      (λ y.
      let is : n ≡ x.path = sym (g.0 y) ∙ sym k.path in
      let whole : Whole sets e (v.store.catalog n) = record {
        bytes = w.store.held i;
        stands = ap v.store.catalog is ∙ d.published.stored;
        bundle = k.bytes;
        length-told = sym k.total ∙ k.whole (λ z. not-ready (sym z ∙ st)) ∙ ap Some k.size;
        told = λ a. k.told a st;
      } in
      subst P (sym (ap (λ z. cond z (Some e) (l.published n)) y)) whole)
      (λ y.
      let ne : n ≡ x.path → ⊥ = λ z. both_ways (bytes_eq e.path n) y (g.1 (sym (z ∙ k.path))) in
      let Q : Option (List ℕ) → Type 0 = λ c. Stands sets (start n) c (l.published n) in
      subst P (sym (ap (λ z. cond z (Some e) (l.published n)) y)) (subst Q (sym (d.published.names n ne)) (t.catalog n)))
      (cases_Bool (bytes_eq e.path n))

  closed_after : (q : Request) (id : SessionId) (i : ℕ) (x : Live) → found sets w id q.path ≡ Some i → row w.rows i ≡ Some x → standing_of x.phase ≡ ready → After sets start l w v q (Close id) (close i x)
  closed_after q id i x f h s d =
      let kn = known id q.path i x f h in
      let P : Ledger → Type 0 = λ z. Tells sets start z v in
      subst P (sym (ap (closing l id.serial) kn.told)) (record {
        next = d.written.next ∙ t.next;
        clock = d.written.clock ∙ t.clock;
        sessions = live-row sets l.sessions (update eqb l.sessions id.serial None) l.next w.rows v.rows w.store.held v.store.held i id.serial x
            None None t.sessions h kn.serial d.written.rows d.published.others (λ n. refl) tt;
        catalog = closed-catalog id q.path i x kn s d;
      })

  free-after : (q : Request) (shared : Bool) (o : Option ℕ) → index_of is_free w.rows ≡ o → After sets start l w v q (Create shared) (in_row o)
  free-after q shared None e = refused-after q (Create shared) TooManySessions (refl, refl)
  free-after q shared (Some i) e = opened_after q shared i e

  acts : (q : Request) (a : Action) → length q.body ≤ q.content_length → After sets start l w v q a (action_plan sets w q a)
  unfolding create_plan
  acts q (Create shared) came =
      on-unless (create_fault sets shared q.path (stands w q.path) (not (is_some (index_of is_free w.rows))) w.next) (in_row (index_of is_free w.rows))
      (λ p. After sets start l w v q (Create shared) p)
      (create-refuses sets shared q.path (stands w q.path) (not (is_some (index_of is_free w.rows))) w.next)
      (refused-after q (Create shared)) (λ none. free-after q shared (index_of is_free w.rows) refl)
  acts q Ping came = unchanged
  acts q (Fragment id r at) came =
      on_row w (found sets w id q.path) (take_plan sets w r at q.content_length) (λ p. After sets start l w v q (Fragment id r at) p)
      (refused-after q (Fragment id r at) NoSession (refl, refl))
      (λ i x f h. on-unless (fragment_fault sets x r at q.content_length (w.store.room i)) (take i x r) (λ p. After sets start l w v q (Fragment id r at) p)
      (fragment-refuses sets x r at q.content_length (w.store.room i)) (refused-after q (Fragment id r at)) (took-after q id r at i x came f h))
  acts q (Close id) came =
      on_row w (found sets w id q.path) (close_plan sets w) (λ p. After sets start l w v q (Close id) p)
      (refused-after q (Close id) NoSession (refl, refl))
      (λ i x f h. on-unless (close_fault sets x.phase (stands w x.path) (w.store.publishable i x.path)) (close i x) (λ p. After sets start l w v q (Close id) p)
      (close-refuses sets x.phase (stands w x.path) (w.store.publishable i x.path)) (refused-after q (Close id))
      (λ none. closed_after q id i x f h (close-none sets x.phase (stands w x.path) (w.store.publishable i x.path) none)))
  acts q (Cancel id) came =
      on_row w (found sets w id q.path) cancel (λ p. After sets start l w v q (Cancel id) p)
      (refused-after q (Cancel id) NoSession (refl, refl)) (cancelled-after q id)

  enabled : (q : Request) (a : Action) → length q.body ≤ q.content_length → After sets start l w v q a (cond sets.uploads (action_plan sets w q a) (refuse UploadsOff))
  enabled q a came = cond_both sets.uploads (action_plan sets w q a) (refuse UploadsOff) (λ p. After sets start l w v q a p) (λ on. acts q a came) (λ off. refused-after q a UploadsOff (refl, refl))

  planned : (q : Request) (a : Action) → length q.body ≤ q.content_length → After sets start l w v q a (cond (is_ping a) ping (cond sets.uploads (action_plan sets w q a) (refuse UploadsOff)))
  planned q (Create shared) came = enabled q (Create shared) came
  planned q Ping came = unchanged
  planned q (Fragment id r at) came = enabled q (Fragment id r at) came
  planned q (Close id) came = enabled q (Close id) came
  planned q (Cancel id) came = enabled q (Cancel id) came

  read-tells : (res : Result Request Fault) → Bodied res → ReadDone sets w res v → Tells sets start (after_message sets l (number (read_outcome sets w res)) res) v
  unfolding plan_of
  read-tells (Ok q) came d = planned q q.action came d
  read-tells (Err e) came d = unchanged d

  paged : (input : List ℕ) (b : Bool) → MatchBool b (v ≡ w) (ReadDone sets w (packet_of input) v) → Tells sets start (after_message sets l (number (cond b ShortPage (read_outcome sets w (packet_of input)))) (packet_of input)) v
  paged input true d = let P : Ledger → Type 0 = λ z. Tells sets start z v in subst P (sym (short sets l (packet_of input))) (unchanged d)
  paged input false d = read-tells (packet_of input) (bodied input) d

  pub message-tells : (page : ℕ) (input : List ℕ) → MessageDone sets w page input v → Tells sets start (after_message sets l (number (message_outcome sets w page input)) (packet_of input)) v
  message-tells page input d = paged input (ltb page 1024) d
