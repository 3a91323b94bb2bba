use Rattle.std.proofs.Common.{◌≡◌, ℕ, ◌+◌, List, take, drop, Some, None, Ok, Err, Option, Result, sym, ap, ◌∙◌}
use Rattle.std.proofs.lemmas.Result.{err_from_is_err_and}
use Rattle.std.specs.Borrow.{Bor}
use Rattle.std.specs.Option.{option_map, ok_or}
use Rattle.head.specs.declared.Fault.{Fault}
use Rattle.head.specs.declared.Fault.TheVariants.{Malformed}
use Rattle.head.specs.Lines.{fields_of}
use Rattle.head.specs.Heads.{Table, empty, gathered, table, tabled, seen, unrepeated, with_path, head_of}
use Rattle.head.specs.Loops.{lines_after}
use Rattle.head.proofs.Turns.{head_at, head-fault}
use Rattle.head.proofs.parse.Goals as goal
use Rattle.head.proofs.parse.Goals.{After-read_fields}

-- a missing path is a bad first line
lost : (o : Option (Bor (List ℕ))) (q : Result (Bor (List ℕ)) Fault) (f : Fault) (n : ℕ) (t : Result Table Fault) → q ≡ ok_or o (Malformed 0) → q ≡ Err f → Err f ≡ with_path n (option_map (λ p. p.now) o) t
lost None q f n t e was = let same : f ≡ Malformed 0 = cc in ap Err same
lost (Some p) q f n t e was = absurd (cc)

kept : (o : Option (Bor (List ℕ))) (q : Result (Bor (List ℕ)) Fault) (p : Bor (List ℕ)) → q ≡ ok_or o (Malformed 0) → q ≡ Ok p → o ≡ Some p
kept None q p e was = absurd (cc)
kept (Some x) q p e was = let same : x ≡ p = cc in ap Some same

pub returns-in_err-mark : goal.returns-in_err-mark
returns-in_err-mark c =
    let p = err_from_is_err_and c.from_residual.result c.from_residual.ensures.1 in
    ap seen p.1 ∙ ap Err p.2 ∙ head-fault c.args.input.now _ _ c.head_mark.ensures.value c.in_err-mark.was

pub returns-in_err-path : goal.returns-in_err-path
returns-in_err-path c =
    let p = err_from_is_err_and c.from_residual-in_err-path.result c.from_residual-in_err-path.ensures.1 in
    ap seen p.1 ∙ ap Err p.2 ∙ lost c.read_path.result c.ok_or.result _ c.in_ok-mark.mark _ c.ok_or.ensures.value c.in_err-path.was
    ∙ ap (λ o. with_path c.in_ok-mark.mark o (gathered empty (fields_of 64 (c.line_length-first.result + 2) (lines_after (drop c.line_length-first.result (take c.in_ok-mark.mark c.args.input.now)))))) c.read_path.ensures
    ∙ head_at c.args.input.now c.in_ok-mark.mark c.line_length-first.result c.head_mark.result c.head_mark.ensures.value c.in_ok-mark.was c.line_length-first.ensures.value c.line_length-first.ensures.within

-- the head at its path, over the known fields
tables : (c : After-read_fields) → with_path c.in_ok-mark.mark (Some c.in_ok-path.path.now) (tabled c.read_fields.result) ≡ head_of c.args.input.now
tables c =
    ap (with_path c.in_ok-mark.mark (Some c.in_ok-path.path.now)) c.read_fields.ensures
    ∙ ap (λ p. with_path c.in_ok-mark.mark p (gathered empty (fields_of 64 (c.line_length-first.result + 2) (lines_after (drop c.line_length-first.result (take c.in_ok-mark.mark c.args.input.now)))))) (sym (ap (option_map (λ p. p.now)) (kept c.read_path.result c.ok_or.result c.in_ok-path.path c.ok_or.ensures.value c.in_ok-path.was)) ∙ c.read_path.ensures)
    ∙ head_at c.args.input.now c.in_ok-mark.mark c.line_length-first.result c.head_mark.result c.head_mark.ensures.value c.in_ok-mark.was c.line_length-first.ensures.value c.line_length-first.ensures.within

pub returns-in_err-fields : goal.returns-in_err-fields
returns-in_err-fields c =
    let p = err_from_is_err_and c.from_residual-in_err-fields.result c.from_residual-in_err-fields.ensures.1 in
    ap seen p.1 ∙ ap Err p.2
    ∙ sym (ap (λ r. with_path c.in_ok-mark.mark (Some c.in_ok-path.path.now) (tabled r)) c.in_err-fields.was)
    ∙ tables (goal.at.returns-in_err-fields c).After-read_fields

pub returns-in-Some : goal.returns-in-Some
returns-in-Some c =
    let t = table c.in_ok-fields.fields in
    ap (λ o. unrepeated c.in_ok-path.path.now c.in_ok-mark.mark o t) (sym c.in-Some.is)
    ∙ sym (ap (λ r. with_path c.in_ok-mark.mark (Some c.in_ok-path.path.now) (tabled r)) c.in_ok-fields.was)
    ∙ tables (goal.at.returns-in-Some c).After-read_fields

pub returns : goal.returns
returns c =
    let t = table c.in_ok-fields.fields in
    ap (λ o. unrepeated c.in_ok-path.path.now c.in_ok-mark.mark o t) (sym c.in_default.is)
    ∙ sym (ap (λ r. with_path c.in_ok-mark.mark (Some c.in_ok-path.path.now) (tabled r)) c.in_ok-fields.was)
    ∙ tables (goal.at.returns c).After-read_fields
