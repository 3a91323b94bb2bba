use Rattle.std.proofs.Common.{◌≡◌, ◌≤◌, map, vec_items, vec_len, vec_capacity}
use Rattle.intake_core.specs.Worlds.{serial_of, world_of}
use Rattle.runs.proofs.Playing.{Playing}
use Rattle.runs.proofs.calls.Ran.play.Given as goal

abbrev pub invariant-loop-call : goal.invariant-loop-call
invariant-loop-call g l = record {
  playing : Playing l.initial.self.intake.settings (world_of g.S.Store.meaning l.initial.self.intake) l.calls l.initial.pages l.call-index (vec_items l.self.lines) (map serial_of (vec_items l.self.desk)) l.at l.pages (world_of g.S.Store.meaning l.self.intake);
  lying : vec_len l.self.desk ≤ l.call-index;
  desk : vec_capacity l.self.desk ≡ vec_capacity l.initial.self.desk;
  told : vec_len l.self.lines ≡ l.call-index;
  lines : vec_capacity l.self.lines ≡ vec_capacity l.initial.self.lines;
  settings : l.self.intake.settings ≡ l.initial.self.intake.settings;
}
