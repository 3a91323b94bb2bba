-- Calls made one after another, each by the rule of its step.
use Rattle.std.specs.Prelude.{◌≡◌, ℕ, List, [], ◌∷◌}
use Rattle.session.specs.Sessions.{World}
use Rattle.session.specs.Steps.{MessageDone, AnswerDone, Ticked}
pub use Rattle.session.specs.Steps.{Call, message, answer, tick}
use Rattle.session.specs.declared.records.Settings.{Settings}

abbrev pub Stepped : Settings → World → Call → World → Type 0
Stepped sets w (message page input) v = MessageDone sets w page input v
Stepped sets w (answer page serial word) v = AnswerDone w page serial word v
Stepped sets w (tick reading) v = (ended : ℕ) × Ticked w reading ended v

abbrev pub Runs : Settings → World → List Call → World → Type 0
Runs sets w [] v = v ≡ w
Runs sets w (c ∷ cs) v = (u : World) × Stepped sets w c u × Runs sets u cs v
