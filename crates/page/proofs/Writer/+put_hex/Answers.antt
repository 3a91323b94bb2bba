use Rattle.std.proofs.Common.{◌≡◌, ◌+◌, ◌-◌, ◌/◌, [], ◌∷◌, ◌++◌, sym, ap, ◌∙◌, arith}
use Rattle.ids.proofs.Texts.{hexes-split}
use Rattle.ids.specs.Ids.{hexes}
use Rattle.page.proofs.Ids.{hexes-step}
use Rattle.page.proofs.Pages.{◌then◌, wrote-as, wrote_none}
use Rattle.page.proofs.Writer.+put_hex.Goals as goal

pub returns-then-digits-ge4 : goal.returns-then-digits-ge4
returns-then-digits-ge4 t c =
    let k = c.args.digits in
    let n = c.args.n in
    let all : k ≡ k - 4 + 4 = omega arith in
    let text = ap (λ l. hexes (k - 4) (n / 65536) ++ l) c.four.ensures ∙ sym (hexes-split (k - 4) 4 k n all) in
    wrote-as text (c.put_hex.ensures then c.put.ensures)

pub returns-then-digits-gt0 : goal.returns-then-digits-gt0
returns-then-digits-gt0 t c =
    let k = c.args.digits in
    let n = c.args.n in
    let text = ap (λ d. hexes (k - 1) (n / 16) ++ d ∷ []) c.hex_digit.ensures ∙ sym (hexes-step k n (λ e. omega arith)) in
    wrote-as text (c.put_hex-then-digits-gt0.ensures then c.put-then-digits-gt0.ensures)

pub returns-else-digits-gt0 : goal.returns-else-digits-gt0
unfolding hexes
returns-else-digits-gt0 t c =
    let none : c.args.digits ≡ 0 = omega arith in
    wrote-as (sym (ap (λ k. hexes k c.args.n) none)) (wrote_none c.args.self.now)
