use Rattle.std.proofs.Common.{◌≡◌, ℕ, ◌+◌, ◌-◌, ◌≤◌, List, length, take, drop, Err, sym, refl, ap, ◌∙◌, arith, length-drop}
use Rattle.std.proofs.lemmas.List.{take_rest}
use Rattle.std.proofs.lemmas.Result.{err_from_is_err_and}
use Rattle.head.specs.Marks.{line_length}
use Rattle.head.specs.Lines.{field_of, fields_of}
use Rattle.head.specs.Heads.{gathered, table, tabled}
use Rattle.head.specs.Loops.{with_line, lines_after, first_line, and_then, added}
use Rattle.head.proofs.Scans.{line-le}
use Rattle.head.proofs.Turns.{gather-full, gather-turn}
use Rattle.head.proofs.fields.read_fields.Goals as goal
use Rattle.head.proofs.fields.read_fields.Goals.{After-add_line}

-- what one line adds
turn : (c : After-add_line) (n : ℕ) → n ≡ line_length (take (length c.args.body.now - (c.loop-done.end + 2)) (drop (c.loop-done.end + 2) c.args.body.now)) → gathered (table c.loop-done.fields) (fields_of (64 - c.loop-done._done) (c.loop-done.end + 2) (lines_after (drop c.loop-done.end c.args.body.now))) ≡ and_then (added c.add_line.result (table c.add_line.new.self)) (λ t. gathered t (fields_of (64 - c.loop-done._done - 1) (c.loop-done.end + 2 + n + 2) (lines_after (drop (c.loop-done.end + 2 + n) c.args.body.now))))
turn c n is =
    let xs = c.args.body.now in
    let at = c.loop-done.end + 2 in
    let rest = take (length xs - at) (drop at xs) in
    let t = table c.loop-done.fields in
    let back : n ≡ at + n - at = omega arith in
    let line : first_line rest ≡ take (at + n - at) (drop at xs) = ap (λ m. take m rest) (sym is ∙ back) ∙ ap (take (at + n - at)) (take_rest xs at) in
    gather-turn xs (64 - c.loop-done._done) c.loop-done.end n t _ c.if-body-end-lt2.false (omega (arith, c.loop-done-test.true)) is (omega (arith, is, line-le rest)) (c.add_line.ensures.value ∙ ap (λ l. with_line t at (field_of at l)) line)

within : (xs : List ℕ) (at n : ℕ) → at ≤ length xs → n ≡ line_length (take (length xs - at) (drop at xs)) → at + n ≤ length xs
within xs at n h is = omega (arith, is, line-le (take (length xs - at) (drop at xs)), ap length (take_rest xs at), length-drop at xs)

pub returns-in_err-end : goal.returns-in_err-end
returns-in_err-end c =
    let at = c.loop-done.end + 2 in
    let end = at + line_length (take (length c.args.body.now - at) (drop at c.args.body.now)) in
    let p = err_from_is_err_and c.from_residual.result c.from_residual.ensures.1 in
    ap tabled p.1 ∙ ap Err p.2
    ∙ sym (ap (λ r. and_then (added r (table c.add_line.new.self)) (λ t. gathered t (fields_of (64 - c.loop-done._done - 1) (end + 2) (lines_after (drop end c.args.body.now))))) c.in_err-end.was)
    ∙ sym (turn (goal.at.returns-in_err-end c).After-add_line _ refl)
    ∙ c.loop-done.invariant.1

pub overflow_add-end : goal.overflow_add-end
overflow_add-end c = omega (arith, within c.args.body.now (c.loop-done.end + 2) c.in_ok-end.field-0 (omega (arith, c.if-body-end-lt2.false)) c.in_ok-end.ensures.long)

pub loop-done-preserved : goal.loop-done-preserved
loop-done-preserved c =
    let xs = c.args.body.now in
    let at = c.loop-done.end + 2 in
    let end = at + c.in_ok-end.field-0 in
    let now' = table c.add_line.new.self in
    let less : 64 - (c.loop-done._done + 1) ≡ 64 - c.loop-done._done - 1 = omega arith in
    let rest = lines_after (drop end xs) in (
      within xs at c.in_ok-end.field-0 (omega (arith, c.if-body-end-lt2.false)) c.in_ok-end.ensures.long,
      ap (λ m. gathered now' (fields_of m (end + 2) rest)) less
          ∙ sym (ap (λ r. and_then (added r now') (λ t. gathered t (fields_of (64 - c.loop-done._done - 1) (end + 2) rest))) c.in_ok-end.was)
          ∙ sym (turn (goal.at.loop-done-preserved c).After-add_line c.in_ok-end.field-0 c.in_ok-end.ensures.long)
          ∙ c.loop-done.invariant.1,
    )

pub returns-else-body-end-lt2-2 : goal.returns-else-body-end-lt2-2
returns-else-body-end-lt2-2 c =
    let none : 64 - c.loop-done._done ≡ 0 = omega (arith, c.loop-done-test.false) in
    sym (gather-full c.args.body.now c.loop-done.end (table c.loop-done.fields) c.if-body-end-lt2-2.false)
    ∙ ap (λ m. gathered (table c.loop-done.fields) (fields_of m (c.loop-done.end + 2) (lines_after (drop c.loop-done.end c.args.body.now)))) (sym none)
    ∙ c.loop-done.invariant.1
