-- One call, as it is heard.
use Rattle.std.proofs.Common.{◌≡◌, ℕ, ◌+◌, ◌<◌, ◌≤◌, List, [], ◌∷◌, ◌++◌, map, length, get_or, take, drop, None, Option, sym, refl, ap, ◌∙◌, arith, Bor}
use Rattle.std.proofs.lemmas.List.{append-nil, drop-map, get_or-map, map-append, take-map}
use Rattle.ack.specs.Text.{ack_bytes}
use Rattle.history.specs.Law.{number}
use Rattle.intake_core.specs.Verdicts.{word_of}
use Rattle.intake_core.specs.Worlds.{serial_of}
use Rattle.intake_core.specs.declared.answers.Verdict.{Verdict}
use Rattle.intake_core.specs.declared.notice.Notice.{Notice}
use Rattle.law.specs.Heard.{Heard}
use Rattle.outcome.specs.declared.Outcome.{Outcome}
use Rattle.session.specs.Sessions.{World}
use Rattle.session.specs.Steps.{AnswerDone, MessageDone, Ticked, answer, answer_outcome, message, message_outcome, message_used, tick}
use Rattle.session.specs.Told.{answer_ack, message_ack}
use Rattle.session.specs.declared.records.Settings.{Settings}
use Rattle.runs.specs.Log.{Made, acks_of}
use Rattle.runs.specs.declared.calls.Call.TheVariants as call
use Rattle.runs.specs.declared.calls.Line.TheVariants as line

module _ (sets : Settings) (w v : World) (desk page out : List ℕ) where
  -- a call that was acknowledged by these bytes
  fronted : (h : Heard) (k : ℕ) → k ≡ length (ack_bytes h.ack) → out ≡ ack_bytes h.ack ++ drop (length (ack_bytes h.ack)) page → out ≡ acks_of (h ∷ []) ++ drop k page
  fronted h k size e = e ∙ (λ i. sym (append-nil (ack_bytes h.ack)) i ++ drop (sym size i) page)

  sized : (h : Heard) (k : ℕ) → k ≡ length (ack_bytes h.ack) → length (acks_of (h ∷ [])) ≡ k
  sized h k size = ap length (append-nil (ack_bytes h.ack)) ∙ sym size

  pub made-message : (size : ℕ) (input : Bor (List ℕ)) (outcome : Outcome) (used k : ℕ) (notice : Option ℕ)
      → outcome ≡ message_outcome sets w (length page) input.now → MessageDone sets w (length page) input.now v
      → out ≡ ack_bytes (message_ack sets w (length page) input.now v) ++ drop (length (ack_bytes (message_ack sets w (length page) input.now v))) page
      → k ≡ length (ack_bytes (message_ack sets w (length page) input.now v)) → used ≡ message_used (length page) input.now → k ≤ length page
      → Made sets w desk (call.Message size input) page (line.Message (length page) outcome used k notice) out v
  made-message size input outcome used k notice o done written long u fits =
      let a = message_ack sets w (length page) input.now v in
      let h : Heard = record { call = message (length page) input.now; number = number outcome; ack = a } in
      record {
        heard = h ∷ [];
        tells = (a, refl, refl, u, long);
        story = (v, ((ap number o, done), refl), refl);
        written = fronted h k long written;
        size = sized h k long;
        fits = fits;
      }

  pub made-answer : (size at : ℕ) (verdict : Verdict) (serial : ℕ) (outcome : Outcome) (k : ℕ) (notice : Option ℕ)
      → at < length desk → serial ≡ get_or desk at 0
      → outcome ≡ answer_outcome w (length page) serial (word_of verdict) → AnswerDone w (length page) serial (word_of verdict) v
      → out ≡ ack_bytes (answer_ack sets w (length page) serial (word_of verdict) v) ++ drop (length (ack_bytes (answer_ack sets w (length page) serial (word_of verdict) v))) page
      → k ≡ length (ack_bytes (answer_ack sets w (length page) serial (word_of verdict) v)) → k ≤ length page
      → Made sets w desk (call.Answer size at verdict) page (line.Answer (length page) serial outcome k notice) out v
  made-answer size at verdict serial outcome k notice lies same o done written long fits =
      let a = answer_ack sets w (length page) serial (word_of verdict) v in
      let h : Heard = record { call = answer (length page) serial (word_of verdict); number = number outcome; ack = a } in
      record {
        heard = h ∷ [];
        tells = (a, refl, refl, lies, same, long);
        story = (v, ((ap number o, done), refl), refl);
        written = fronted h k long written;
        size = sized h k long;
        fits = fits;
      }

pub made-tick : (sets : Settings) (w v : World) (desk page : List ℕ) (reading ended : ℕ) → Ticked w reading ended v → Made sets w desk (call.Tick reading) page (line.Tick ended) page v
made-tick sets w v desk page reading ended done = record {
  heard = record { call = tick reading; number = ended; ack = None } ∷ [];
  tells = refl;
  story = (v, (done, refl), refl);
  written = refl;
  size = refl;
  fits = omega arith;
}

-- the desk without the notice at a place
pub taken-off : (xs ys : List Notice) (at : ℕ) → ys ≡ take at xs ++ drop (at + 1) xs → map serial_of ys ≡ take at (map serial_of xs) ++ drop (at + 1) (map serial_of xs)
taken-off xs ys at e = ap (map serial_of) e ∙ map-append serial_of (take at xs) (drop (at + 1) xs) ∙ (λ k. sym (take-map serial_of at xs) k ++ sym (drop-map serial_of (at + 1) xs) k)

pub serial-at : (xs : List Notice) (at : ℕ) (n : Notice) → at < length xs → n ≡ get_or xs at n → serial_of n ≡ get_or (map serial_of xs) at 0
serial-at xs at n lt e = ap serial_of e ∙ sym (get_or-map serial_of xs at n 0 lt)
