-- What a walk over an owner's bytes gives at each step.
use Rattle.std.specs.Prelude.{◌≡◌, ℕ, ◌+◌, ◌-◌, ◌*◌, ◌%◌, ◌<◌, ◌≤◌, Option, MatchOption}
use Rattle.std.specs.declared.ops.Range.{Range}
use Rattle.page_store.specs.declared.stretch.Stretches.{Stretches}
use Rattle.page_store.specs.Bytes.{place}
use Rattle.page_store.specs.Owners.{pages_in}

-- the next bytes, at least one, that lie in one page: where they are among those to move, and where in the region
pub record Steps (s : Stretches) (x : Range ℕ × Range ℕ) (t : Stretches) : Type 0 where
  pub table : t.table.now ≡ s.table.now
  pub owner : t.owner ≡ s.owner
  pub start : t.start ≡ s.start
  pub end : t.end ≡ s.end
  pub some : s.at < t.at
  pub left : t.at ≤ s.end
  pub from : x.0.start ≡ s.at - s.start
  pub to : x.0.end ≡ t.at - s.start
  pub place : x.1.start ≡ place (pages_in s.table.now s.owner) s.at
  pub long : x.1.end ≡ x.1.start + (t.at - s.at)
  pub inside : x.1.end ≤ 4096 * s.table.now.pages
  pub fit : s.at % 4096 + (t.at - s.at) ≤ 4096

abbrev pub Goes : Stretches → Option (Range ℕ × Range ℕ) → Stretches → Type 0
Goes s r t = MatchOption r ((s.at ≡ s.end) × (t ≡ s)) (λ x. Steps s x t)
