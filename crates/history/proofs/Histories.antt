-- Whole runs.
use Rattle.std.proofs.Common.{◌≡◌, ℕ, List, [], ◌∷◌, ◌++◌, length, replicate, Some, None, Option, sym, refl, ap, ◌∙◌, subst, ⊎_elim}
use Rattle.std.proofs.lemmas.List.{get_or-replicate, get_or_past}
use Rattle.std.proofs.lemmas.Bool.{cases_lt}
use Rattle.std.proofs.lemmas.Option.{none-some}
use Rattle.packet.specs.Packets.{packet_of}
use Rattle.store.specs.Meaning.{Meaning}
use Rattle.session.specs.Sessions.{Live, World, row}
use Rattle.session.specs.Steps.{Started}
use Rattle.session.specs.declared.records.Settings.{Settings}
use Rattle.history.specs.Ledger.{Call, message, answer, tick, Event, Ledger, blank, after_message, after_answer, after_call, drawn}
use Rattle.history.specs.Law.{Tells, Stepped, Runs, Faithful}
use Rattle.history.proofs.Messages.{unchanged, message-tells}
use Rattle.history.proofs.Verdicts.{answer-tells}
use Rattle.history.proofs.Ticks.{tick-tells}

-- one call
step : (sets : Settings) (start : List ℕ → Option (List ℕ)) (l : Ledger) (w v : World) (c : Call) (n : ℕ) → Tells sets start l w → Stepped sets w c n v → Tells sets start (after_call sets l n c) v
step sets start l w v (message page input) n t d =
    let P : ℕ → Type 0 = λ k. Tells sets start (after_message sets l k (packet_of input)) v in
    subst P (sym d.0) (message-tells sets start l w v t page input d.1)
step sets start l w v (answer page serial word) n t d =
    let P : ℕ → Type 0 = λ k. Tells sets start (after_answer l k serial word) v in
    subst P (sym d.0) (answer-tells sets start l w v t page serial word d.1)
step sets start l w v (tick reading) n t d = tick-tells sets start l w v reading n t d

-- a run of calls
runs : (sets : Settings) (start : List ℕ → Option (List ℕ)) (es : List Event) (l : Ledger) (w v : World) → Tells sets start l w → Runs sets w es v → Tells sets start (drawn sets l es) v
runs sets start [] l w v t r = unchanged sets start l w v t r
runs sets start (e ∷ es) l w v t r =
    runs sets start es (after_call sets l e.number e.call) r.0 v (step sets start l w r.0 e.call e.number t r.1) r.2

no_row : (rs : List (Option Live)) (i : ℕ) (x : Live) → rs ≡ replicate 16 None → row rs i ≡ Some x → ⊥
no_row rs i x e h = ⊎_elim
    (λ lt. none-some x (sym (ap (λ l. row l i) e ∙ get_or-replicate 16 i None None lt) ∙ h))
    (λ ge. none-some x (sym (ap (λ l. row l i) e ∙ get_or_past (replicate 16 None) i None ge) ∙ h))
    (cases_lt i 16)

-- an intake newly set up
started : (sets : Settings) (m : Meaning) (w : World) → Started sets m w → Tells sets m.catalog (blank sets) w
started sets m w s = record {
  next = s.next;
  clock = s.clock;
  sessions = record {
    size = ap length s.rows;
    each = λ i x h. absurd (no_row w.rows i x s.rows h);
    all = λ n e h. absurd (none-some e h);
    apart = λ i j x y f g e. absurd (no_row w.rows i x s.rows f);
    young = λ i x h. absurd (no_row w.rows i x s.rows h);
  };
  catalog = s.names;
}

pub faithful : Faithful
unfolding Faithful
faithful sets m u w es s r = runs sets m.catalog es (blank sets) u w (started sets m u s) r

-- a run goes on by one call
pub runs-push : (sets : Settings) (es : List Event) (w u v : World) (e : Event) → Runs sets w es u → Stepped sets u e.call e.number v → Runs sets w (es ++ e ∷ []) v
runs-push sets [] w u v e r s = let P : World → Type 0 = λ z. Stepped sets z e.call e.number v in (v, subst P r s, refl)
runs-push sets (d ∷ es) w u v e r s = (r.0, r.1, runs-push sets es r.0 u v e r.2 s)
