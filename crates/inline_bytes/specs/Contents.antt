-- The bytes that a value holds. Assumes nothing.
use Rattle.std.specs.Prelude.{ℕ, List, take}
use Rattle.inline_bytes.specs.declared.held.InlineBytes.{InlineBytes}

abbrev pub contents : {N : ℕ} → InlineBytes N → List ℕ
contents held = take held.len held.all
