-- One answer: a world that is told stays told.
use Rattle.std.proofs.Common.{◌≡◌, ℕ, Bool, true, false, cond, eqb, ltb, List, Some, None, MatchBool, Option, sym, refl, ap, ◌∙◌, subst, arith}
use Rattle.std.proofs.lemmas.Bool.{both_ways, and_parts, eqb-true}
use Rattle.outcome.specs.declared.Outcome.TheVariants.{Done as Finished, ShortPage, BadReplyAddress}
use Rattle.session.specs.Sessions as session
use Rattle.session.specs.Sessions.{Phase, Live, World, row, index_of}
use Rattle.session.specs.Rules.{is_away, is_asked, ruled}
use Rattle.session.specs.Steps as step
use Rattle.session.specs.Steps.{Word, Written, Ruled, is_address, asked_outcome, AskedDone, answer_outcome, AnswerDone}
use Rattle.session.specs.declared.records.Settings.{Settings}
use Rattle.history.specs.Ledger.{receiving, Entry, Ledger, written, approved, refused, amending, after_answer}
use Rattle.history.specs.Law.{standing_of, Keeps, Tells, number}
use Rattle.history.proofs.Rows.{passes}
use Rattle.history.proofs.OneRow.{live-row}
use Rattle.history.proofs.Messages.{at_slot, kept-names, unchanged}

receives-no-more : (p : Phase) → is_away p ≡ true → standing_of p ≡ receiving → ⊥
receives-no-more session.receiving a e = both_ways false refl a
receives-no-more session.away a e = let z : ◌≡◌ {A = ℕ} 0 1 = cc in omega arith
receives-no-more (session.ready r) a e = both_ways false refl a

is-asked : (serial : ℕ) (r : Option Live) (x : Live) → is_asked serial r ≡ true → r ≡ Some x → (x.serial ≡ serial) × (is_away x.phase ≡ true)
is-asked serial r x h e =
    let a : is_asked serial (Some x) ≡ true = ap (is_asked serial) (sym e) ∙ h in
    let b = and_parts (eqb x.serial serial) (is_away x.phase) a in
    (eqb-true x.serial serial b.0, b.1)

module _ (sets : Settings) (e : Entry) (x : Live) (slot : List ℕ) (k : Keeps sets e x slot) where
  yes-keeps : (a : List ℕ) → is_away x.phase ≡ true → Keeps sets (approved (step.yes a) e) (ruled (session.ready a) x) slot
  yes-keeps a h = record {
    path = k.path;
    total = k.total;
    state = refl;
    stamp = k.stamp;
    bytes = k.bytes;
    size = k.size;
    count = k.count;
    bound = k.bound;
    unset = k.unset;
    whole = λ ne. k.whole (λ z. receives-no-more x.phase h (k.state ∙ z));
    told = λ b c. refl;
  }

  no-keeps : Keeps sets (refused e) (ruled session.receiving x) slot
  no-keeps = record {
    path = k.path;
    total = k.total;
    state = refl;
    stamp = k.stamp;
    bytes = k.bytes;
    size = k.size;
    count = k.count;
    bound = k.bound;
    unset = k.unset;
    whole = λ ne. absurd (ne refl);
    told = λ b c. let z : ◌≡◌ {A = ℕ} 0 1 = cc in absurd (omega arith);
  }

module _ (sets : Settings) (start : List ℕ → Option (List ℕ)) (l : Ledger) (w v : World) (t : Tells sets start l w) where
  -- the session's record and its entry are changed
  amended : (serial i : ℕ) (x : Live) (e : Entry) (p : Phase) (f : Entry → Entry) → row w.rows i ≡ Some x → x.serial ≡ serial → l.sessions serial ≡ Some e → Written w i (Some (ruled p x)) v → v.store ≡ w.store → Keeps sets (f e) (ruled p x) (w.store.held i) → Tells sets start (amending l serial f (l.sessions serial)) v
  amended serial i x e p f h s g d same k =
      let P : Ledger → Type 0 = λ z. Tells sets start z v in
      let slots : (j : ℕ) → v.store.held j ≡ w.store.held j = λ j. ap (λ m. m.held j) same in
      subst P (sym (ap (amending l serial f) g)) (record {
        next = d.next ∙ t.next;
        clock = d.clock ∙ t.clock;
        sessions = live-row sets l.sessions (written l serial (Some (f e))).sessions l.next w.rows v.rows w.store.held v.store.held i serial x
            (Some (ruled p x)) (Some (f e)) t.sessions h s d.rows (λ j ne. slots j) (λ n. refl)
            (s, at_slot sets (f e) (ruled p x) (v.store.held i) (w.store.held i) (slots i) k);
        catalog = kept-names sets start l w v t (λ n. ap (λ m. m.catalog n) same);
      })

  module _ (serial i : ℕ) (x : Live) (there : row w.rows i ≡ Some x) (of : x.serial ≡ serial) (asks : is_away x.phase ≡ true) (same : v.store ≡ w.store) where
    its : (e : Entry) × (l.sessions serial ≡ Some e) × Keeps sets e x (w.store.held i)
    its = let g = t.sessions.each i x there in (g.0, ap l.sessions (sym of) ∙ g.1, g.2)

    said-no : Written w i (Some (ruled session.receiving x)) v → Tells sets start (amending l serial refused (l.sessions serial)) v
    said-no d = amended serial i x its.0 session.receiving refused there of its.1 d same (no-keeps sets its.0 x (w.store.held i) its.2)

    said-yes : (a : List ℕ) (b : Bool) → Written w i (Some (ruled (cond b (session.ready a) session.receiving) x)) v → Tells sets start (after_answer l (number (cond b Finished BadReplyAddress)) serial (step.yes a)) v
    said-yes a true d = amended serial i x its.0 (session.ready a) (approved (step.yes a)) there of its.1 d same (yes-keeps sets its.0 x (w.store.held i) its.2 a asks)
    said-yes a false d = said-no d

  ruled-tells : (serial i : ℕ) (word : Word) → index_of (is_asked serial) w.rows ≡ Some i → Ruled w i word v → Tells sets start (after_answer l (number (asked_outcome (Some i) word)) serial word) v
  ruled-tells serial i (step.yes a) f d =
      let b = passes (is_asked serial) w.rows i f in
      let c = is-asked serial (row w.rows i) d.session b.1 d.there in
      said-yes serial i d.session d.there c.0 c.1 d.same a (is_address a) d.written
  ruled-tells serial i (step.no code) f d =
      let b = passes (is_asked serial) w.rows i f in
      let c = is-asked serial (row w.rows i) d.session b.1 d.there in
      said-no serial i d.session d.there c.0 c.1 d.same d.written

  asked-tells : (serial : ℕ) (word : Word) (o : Option ℕ) → index_of (is_asked serial) w.rows ≡ o → AskedDone w o word v → Tells sets start (after_answer l (number (asked_outcome o word)) serial word) v
  asked-tells serial word None f d = unchanged sets start l w v t d
  asked-tells serial word (Some i) f d = ruled-tells serial i word f d

  paged : (serial : ℕ) (word : Word) (b : Bool) → MatchBool b (v ≡ w) (AskedDone w (index_of (is_asked serial) w.rows) word v) → Tells sets start (after_answer l (number (cond b ShortPage (asked_outcome (index_of (is_asked serial) w.rows) word))) serial word) v
  paged serial word true d = unchanged sets start l w v t d
  paged serial word false d = asked-tells serial word (index_of (is_asked serial) w.rows) refl d

  pub answer-tells : (page serial : ℕ) (word : Word) → AnswerDone w page serial word v → Tells sets start (after_answer l (number (answer_outcome w page serial word)) serial word) v
  answer-tells page serial word d = paged serial word (ltb page 1024) d
