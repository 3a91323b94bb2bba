use Rattle.std.proofs.Common.{◌≡◌, ℕ, min, Bool, true, false, cond, ltb, List, length, take, Some, None, Err, Option, Result, sym, refl, ap, ◌∙◌, inl, inr, arith}
use Rattle.std.proofs.lemmas.List.{take_all}
use Rattle.std.proofs.lemmas.Bool.{cases_lt, cond-true, cond-false, lt-ltb, le-ltb}
use Rattle.std.specs.Option.{ok_or}
use Rattle.head.specs.declared.Fault.{Fault}
use Rattle.head.specs.declared.Fault.TheVariants.{Unfinished, Malformed}
use Rattle.head.specs.Marks.{head_mark, mark_from}
use Rattle.head.specs.Heads.{in_time, end_of}
use Rattle.head.proofs.marks.head_mark.Goals as goal
use Rattle.head.proofs.marks.head_mark.Goals.{then-input-lt-MOST_HEAD, else-input-lt-MOST_HEAD}

front-part : (xs : List ℕ) (m : ℕ) → m ≡ min (length xs) 8192 → take m xs ≡ take 8192 xs
front-part xs m e = elim (cases_lt (length xs) 8192) [
  | inl h ↦ take_all m xs (omega arith) ∙ sym (take_all 8192 xs (omega arith))
  | inr h ↦ let same : m ≡ 8192 = omega arith in ap (λ k. take k xs) same
]

-- which fault stands for a missing mark
abbrev missing : List ℕ → Fault
missing xs = cond (ltb (length xs) 8192) Unfinished (Malformed 0)

timed : (xs : List ℕ) (o : Option ℕ) → ok_or o (missing xs) ≡ in_time xs o
timed xs (Some n) = refl
timed xs None = by (ltb (length xs) 8192) where
  fault : Fault → Result ℕ Fault
  fault e = Err e

  by : (v : Bool) → fault (cond v Unfinished (Malformed 0)) ≡ cond v (fault Unfinished) (fault (Malformed 0))
  by true = refl
  by false = refl

pub returns-clause-value : goal.returns-clause-value
unfolding end_of
returns-clause-value c =
    let xs = c.args.input.now in
    let fault : c.if-input-lt-MOST_HEAD.missing ≡ missing xs = elim c.if-input-lt-MOST_HEAD.branch [
      | then-input-lt-MOST_HEAD w ↦ w.missing-is ∙ sym (cond-true _ _ _ (lt-ltb (length xs) 8192 w.if-input-lt-MOST_HEAD.true))
      | else-input-lt-MOST_HEAD w ↦ w.missing-is ∙ sym (cond-false _ _ _ (le-ltb (length xs) 8192 w.if-input-lt-MOST_HEAD.false))
    ] in
    c.ok_or.ensures.value
    ∙ ap (ok_or c.find_mark.result) fault
    ∙ timed xs c.find_mark.result
    ∙ ap (in_time xs) (c.find_mark.ensures.value ∙ ap (mark_from head_mark 0) (front-part xs _ c.min.ensures))
