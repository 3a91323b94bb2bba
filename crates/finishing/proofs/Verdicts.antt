-- What an answer leaves of the session, and that a taken yes settles it.
use Rattle.std.proofs.Common.{◌≡◌, ℕ, ◌+◌, ◌≤◌, Bool, true, false, List, length, Some, None, sym, refl, ap, ◌∙◌, subst, ⊎_elim, arith}
use Rattle.std.proofs.lemmas.Bool.{cond-true, cond-false, cases_Bool, true≢false}
use Rattle.outcome.specs.declared.Outcome.TheVariants.{Done, NoSession, BadReplyAddress}
use Rattle.store.specs.Meaning.{Meaning}
use Rattle.session.specs.Sessions.{receiving, ready, Live, World, row}
use Rattle.session.specs.Rules.{is_receiving, is_away, ruled}
use Rattle.session.specs.Steps.{Word, yes, is_address, word_outcome, word_phase, answer_outcome, Written, Ruled}
use Rattle.session.specs.declared.records.Settings.{Settings}
use Rattle.finishing.specs.Runs.{answer, Stepped}
use Rattle.finishing.proofs.Phases.{away-left}
use Rattle.finishing.proofs.Lone.{lone-still, asked-row, unasked-row, ruled-by, verdict-by}
use Rattle.finishing.proofs.State.{Holds, same_some}

bad-is-not-done : BadReplyAddress ≡ Done → ⊥
bad-is-not-done e = let z : ◌≡◌ {A = ℕ} 0 1 = cc in omega arith

none-is-not-done : NoSession ≡ Done → ⊥
none-is-not-done e = let z : ◌≡◌ {A = ℕ} 0 1 = cc in omega arith

-- a yes that is taken makes its session ready
pub taken_yes : (address : List ℕ) → word_outcome (yes address) ≡ Done → word_phase (yes address) ≡ ready address
taken_yes address e =
    ⊎_elim
    (λ q. cond-true (is_address address) (ready address) receiving q)
    (λ q. absurd (bad-is-not-done (sym (cond-false (is_address address) Done BadReplyAddress q) ∙ e)))
    (cases_Bool (is_address address))

module _ (sets : Settings) (i s : ℕ) (name : List ℕ) (t : ℕ) (w u : World) (ended agreed : Bool) (x : Live) (page : ℕ) (word : Word)
    (h : Holds sets i s name t w ended agreed x) (wide : 1024 ≤ page) (step : Stepped sets w (answer page s word) u) where
  pub told : is_away x.phase ≡ true → Ruled w i word u
  told e = ruled-by w page s word u (Some i) wide (asked-row w i x h.lone s h.serial e) step

  pub untold : is_away x.phase ≡ false → u ≡ w
  untold e = ruled-by w page s word u None wide (unasked-row w i x h.lone s h.serial e) step

  written : is_away x.phase ≡ true → Written w i (Some (ruled (word_phase word) x)) u
  written e =
      subst (λ z. Written w i (Some (ruled (word_phase word) z)) u) (same_some (row w.rows i) (told e).session x (told e).there h.lone.here) (told e).written

  pub holds-ruled : is_away x.phase ≡ true → (later : Bool) → (later ≡ true → (is_receiving (word_phase word) ≡ false) × (is_away (word_phase word) ≡ false))
      → Holds sets i s name t u ended later (ruled (word_phase word) x)
  holds-ruled e later k =
      let same = (told e).same in
      record {
        lone = lone-still w i x (ruled (word_phase word) x) u h.lone refl (written e);
        serial = h.serial;
        path = h.path;
        kept = ap (λ (z : Meaning). length (z.held i)) same ∙ h.kept;
        bounded = h.bounded;
        full = λ _. h.full (away-left x.phase e);
        room = subst (λ (z : Meaning). t ≤ x.received + z.room i) (sym same) h.room;
        sized = h.sized;
        ends = λ _ n. absurd (true≢false (sym e ∙ h.unasked n));
        unasked = λ n. absurd (true≢false (sym e ∙ h.unasked n));
        settled = k;
      }

  -- without a yes before it, or with one, which then is the last word
  pub holds-verdict : is_away x.phase ≡ true → Holds sets i s name t u ended agreed (ruled (word_phase word) x)
  holds-verdict e = holds-ruled e agreed (λ p. absurd (true≢false (sym e ∙ (h.settled p).1)))

  pub holds-untold : is_away x.phase ≡ false → Holds sets i s name t u ended agreed x
  holds-untold e = subst (λ z. Holds sets i s name t z ended agreed x) (sym (untold e)) h

  pub not_taken : is_away x.phase ≡ false → answer_outcome w page s word ≡ Done → ⊥
  not_taken e o = none-is-not-done (sym (verdict-by w page s word None wide (unasked-row w i x h.lone s h.serial e)) ∙ o)

  pub word-taken : is_away x.phase ≡ true → answer_outcome w page s word ≡ word_outcome word
  word-taken e = verdict-by w page s word (Some i) wide (asked-row w i x h.lone s h.serial e)

module _ (sets : Settings) (i s : ℕ) (name : List ℕ) (t : ℕ) (w u : World) (ended agreed : Bool) (x : Live) (page : ℕ) (address : List ℕ)
    (h : Holds sets i s name t w ended agreed x) (wide : 1024 ≤ page) (step : Stepped sets w (answer page s (yes address)) u)
    (o : answer_outcome w page s (yes address) ≡ Done) (e : is_away x.phase ≡ true) where
  yes-phase : word_phase (yes address) ≡ ready address
  yes-phase = taken_yes address (sym (word-taken sets i s name t w u ended agreed x page (yes address) h wide step e) ∙ o)

  pub holds-approved : Holds sets i s name t u ended true (ruled (word_phase (yes address)) x)
  holds-approved =
      holds-ruled sets i s name t w u ended agreed x page (yes address) h wide step e true (λ _. (ap is_receiving yes-phase, ap is_away yes-phase))
