use Rattle.std.proofs.Common.{length, unwrap_or, rules, tests, ap, ◌∙◌, arith}
use Rattle.std.proofs.lemmas.Iterator.Adapters.{position_from-zero}
use Rattle.std.proofs.lemmas.Iterator.Search.{position_from_yields_List}
use Rattle.std.specs.Str.{bytes_eq}
use Rattle.head.specs.Marks.{line_end}
use Rattle.head.proofs.Windows.{windows_of, yields-windows, window-mark, line-mark}
use Rattle.head.proofs.lines.line_length.Goals as goal

pub returns-clause-value : goal.returns-clause-value
returns-clause-value c =
    let s = c.args.s.now in
    let first = position_from_yields_List (λ w. bytes_eq w line_end) _ _ c.position.result c.position.ensures.ran (yields-windows 2 s (omega arith) c.windows.ensures.rest c.windows.ensures.size) (λ x b q k. search (rules, tests))
    ∙ position_from-zero _ (windows_of 2 s)
    ∙ window-mark line_end 0 s in
    c.unwrap_or.ensures ∙ ap (λ r. unwrap_or r (length s)) first ∙ (line-mark 0 (length s) s (omega arith) ∙ omega arith)
