-- What a page holds after something was written into it. Assumes nothing.
use Rattle.std.specs.Prelude.{◌≡◌, ℕ, ◌+◌, ◌-◌, min, List, [], ◌∷◌, ◌++◌, length, take, drop}
use Rattle.page.specs.declared.Writer.{Writer}

-- s in place of what old begins with, as far as both reach
abbrev pub over : List ℕ → List ℕ → List ℕ
over [] s = []
over (b ∷ old) [] = b ∷ old
over (b ∷ old) (x ∷ s) = x ∷ over old s

-- `after` is `before` with s written from `at` on, as far as the page reaches, and nothing else changed; `end` is just past what was written
pub record Puts (before : List ℕ) (at : ℕ) (s after : List ℕ) (end : ℕ) : Type 0 where
  pub bytes : after ≡ take at before ++ over (drop at before) s
  pub ends : end ≡ at + min (length s) (length before - at)

-- what a writer wrote: it stands on the same page, just past s
pub record Wrote (before : Writer) (s : List ℕ) (after : Writer) : Type 0 where
  pub puts : Puts before.page.now before.at s after.page.now after.at
  pub same_page : after.page.ghost_name ≡ before.page.ghost_name
