use Rattle.std.proofs.Common.{◌<◌, ◌++◌, map, length, rules, ap, ◌∙◌}
use Rattle.std.proofs.lemmas.List.{length-map}
use Rattle.intake_core.specs.Worlds.{serial_of}
use Rattle.runs.specs.Log.{listed}
use Rattle.runs.proofs.Making.{made-message, made-answer, made-tick, taken-off, serial-at}
use Rattle.runs.proofs.calls.Ran.make.Goals as goal

pub returns-in-Message-clause-made : goal.returns-in-Message-clause-made
returns-in-Message-clause-made g c = rw c.in-Message.is (search (rules, made-message))

pub returns-else-at-len-clause-made : goal.returns-else-at-len-clause-made
returns-else-at-len-clause-made g c =
    let items = c.args.self.now.desk.items in
    let e = c.answer-outcome.ensures in
    let within : c.in-Answer.at < length items = search rules in
    let lies : c.in-Answer.at < length (map serial_of items) = simp length-map within in
    rw (c.in-Answer.is, c.serial-serial.ensures) (made-answer _ _ _ _ _ _ _ _ _ _ _ _ _ lies (serial-at items _ _ within c.remove-notice.ensures.value) e.outcome e.done e.page e.length e.fits)

pub returns-else-at-len-clause-desk : goal.returns-else-at-len-clause-desk
returns-else-at-len-clause-desk g c =
    rw c.in-Answer.is (c.file-in-Answer.ensures.desk ∙ ap (λ d. d ++ listed c.file-in-Answer.result) (taken-off c.args.self.now.desk.items _ c.in-Answer.at c.remove-notice.ensures.by_index.2))

pub returns-in-Tick-clause-made : goal.returns-in-Tick-clause-made
returns-in-Tick-clause-made g c = rw c.in-Tick.is (search (rules, made-tick))
