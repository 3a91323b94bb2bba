-- What an answer does to the table and what is told of it.
use Rattle.std.proofs.Common.{◌≡◌, ℕ, ◌<◌, true, false, cond, ltb, List, map, length, get_or, set, Some, None, Option, sym, refl, ap, ◌∙◌, subst, arith, length-set, ◌≤◌, le-ltb}
use Rattle.std.specs.Option.{option_map}
use Rattle.std.proofs.lemmas.List.{get_or-map, length-map, map-set}
use Rattle.std.proofs.lemmas.Bool.{true≢false}
use Rattle.ack.specs.Told.{ack_of, answered as spoken, received_of, reply_of}
use Rattle.ack.specs.declared.told.Call.TheVariants.{Answer}
use Rattle.ack.specs.declared.told.Progress.{Progress}
use Rattle.ack.specs.declared.told.Stage.{Stage}
use Rattle.outcome.specs.Outcomes.{report_of}
use Rattle.outcome.specs.declared.Answer.{Answer as Reported}
use Rattle.outcome.specs.declared.Answer.TheVariants.{Silent, Accepted, Refused}
use Rattle.outcome.specs.declared.Outcome.{Outcome}
use Rattle.outcome.specs.declared.Outcome.TheVariants.{ShortPage}
use Rattle.store.specs.Meaning.{Meaning}
use Rattle.session.specs.Rules.{is_asked, ruled}
use Rattle.session.specs.Sessions.{Live, World, index_of, phase_of, row, row_of}
use Rattle.session.specs.Steps.{Word, answer_outcome, asked_outcome, word_outcome, word_phase}
use Rattle.session.specs.Told.{address_told, answer_ack, id_in, row_at, verdict_ack}
use Rattle.session.specs.declared.records.Session.{Session}
use Rattle.session.specs.declared.records.Settings.{Settings}
use Rattle.history.proofs.Rows.{passes}
use Rattle.intake_core.specs.Verdicts.{Answered}

-- a row that holds a session
abbrev Holds : List (Option Live) → ℕ → Type 0
Holds xs i = (x : Live) × (row xs i ≡ Some x) × (i < length xs)

asked-live : (serial : ℕ) (r : Option Live) → is_asked serial r ≡ true → (x : Live) × (r ≡ Some x)
asked-live serial None e = absurd (true≢false (sym e))
asked-live serial (Some x) e = (x, refl)

-- the row that is found for a serial at the approver holds a session
asked-there : (serial : ℕ) (xs : List (Option Live)) (i : ℕ) → index_of (is_asked serial) xs ≡ Some i → Holds xs i
asked-there serial xs i e =
    let found = passes (is_asked serial) xs i e in
    let live = asked-live serial (row xs i) found.1 in
    (live.0, live.1, found.0)

module _ (rs : List (Option Session)) (next clock : ℕ) (m : Meaning) (serial i : ℕ) (word : Word) (stage : Stage) (y : Option Session) (d e : Option Session) where
  abbrev before : World
  before = record { rows = map row_of rs; next = next; clock = clock; store = m }

  abbrev after : World
  after = record { rows = map row_of (set rs i y); next = next; clock = clock; store = m }

  -- the session that was found went to the stage that the word says
  pub answered : (o : Outcome) (told : Option Progress) → index_of (is_asked serial) (map row_of rs) ≡ Some i → o ≡ word_outcome word → phase_of stage ≡ word_phase word
      → row_of y ≡ option_map (ruled (phase_of stage)) (row_of (get_or rs i d))
      → received_of told ≡ option_map (λ z. z.received) (row_of (get_or (set rs i y) i e)) → reply_of told ≡ address_told (row_of (get_or (set rs i y) i e))
      → Answered before (index_of (is_asked serial) (map row_of rs)) word o told after
  answered o told at out gone new received reply =
      let there = asked-there serial (map row_of rs) i at in
      let inside : i < length rs = omega (arith, there.2, length-map rs row_of) in
      let now : row_of y ≡ Some (ruled (word_phase word) there.0) =
      new ∙ (λ k. option_map (ruled (gone k)) (sym (get_or-map row_of rs i d None inside) k)) ∙ ap (option_map (ruled (word_phase word))) there.1 in
      let long : i < length (set rs i y) = omega (arith, length-set rs i y) in
      let same : row_of (get_or (set rs i y) i e) ≡ row (map row_of (set rs i y)) i = sym (get_or-map row_of (set rs i y) i e None long) in
      subst (λ a. Answered before a word o told after) (sym at) (record {
        number = out;
        done = record {
          session = there.0;
          there = there.1;
          written = record { rows = map-set row_of rs i y ∙ ap (set (map row_of rs) i) now; next = refl; clock = refl };
          same = refl;
        };
        received = received ∙ ap (option_map (λ z. z.received)) same;
        reply = reply ∙ ap address_told same;
      })

told-live : (r : Reported) (sets : Settings) (serial : ℕ) (found : Option Progress) (x : Option Live) → received_of found ≡ option_map (λ z. z.received) x → reply_of found ≡ address_told x
    → spoken r (Answer (id_in sets serial) found) ≡ verdict_ack r sets serial x
told-live Silent sets serial found x a b = refl
told-live Accepted sets serial found x a b = λ k. Some (record { refusal = None; opened = false; id = Some (id_in sets serial); received = a k; reply = b k })
told-live (Refused refusal) sets serial found x a b = λ k. Some (record { refusal = Some refusal; opened = false; id = None; received = a k; reply = b k })

-- the verdict was heard on the serial of the notice that was spent, with a page that is long enough
module _ {sets now : Settings} {w v : World} {spent serial : ℕ} {word : Word} {o : Outcome} {found : Option Progress} (n : ℕ)
    (long : 1024 ≤ n) (same : spent ≡ serial) (kept : now ≡ sets) (heard : Answered w (index_of (is_asked spent) w.rows) word o found v) where
  is-long : ltb n 1024 ≡ false
  is-long = le-ltb n 1024 long

  pub answer-number : o ≡ answer_outcome w n serial word
  answer-number = heard.number ∙ (λ k. cond (sym is-long k) ShortPage (asked_outcome (index_of (is_asked (same k)) w.rows) word))

  pub answer-told : ack_of o (Answer (id_in now spent) found) ≡ answer_ack sets w n serial word v
  answer-told =
      (λ k. ack_of o (Answer (id_in (kept k) spent) found)) ∙ told-live (report_of o).answer sets spent found (row_at v (index_of (is_asked spent) w.rows)) heard.received heard.reply
      ∙ (λ k. verdict_ack (report_of (answer-number k)).answer sets (same k) (row_at v (index_of (is_asked (same k)) w.rows)))
