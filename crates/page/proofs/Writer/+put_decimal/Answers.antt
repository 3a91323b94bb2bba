use Rattle.std.proofs.Common.{◌≡◌, ◌+◌, ◌%◌, [], ◌∷◌, sym, ap, ◌∙◌, arith}
use Rattle.std.proofs.lemmas.Fmt.{decimal_digit, decimal_step}
use Rattle.page.proofs.Pages.{◌then◌, wrote-as, wrote_from}
use Rattle.page.proofs.Writer.+put_decimal.Goals.{then-n-ge10, else-n-ge10}
use Rattle.page.proofs.Writer.+put_decimal.Goals as goal

pub returns : goal.returns
returns t c =
    let n = c.args.n in
    elim c.if-n-ge10.branch [
      | then-n-ge10 w ↦ wrote-as (sym (decimal_step n w.if-n-ge10.true (omega arith))) (w.put_decimal.ensures then wrote_from w.self-is c.put.ensures)
      | else-n-ge10 w ↦
          let low : n % 10 ≡ n = omega (arith, w.if-n-ge10.false) in
          wrote-as (ap (λ m. (48 + m) ∷ []) low ∙ sym (decimal_digit n w.if-n-ge10.false)) (wrote_from w.self-is c.put.ensures)
    ]
