use Rattle.std.proofs.Common.{◌≡◌, take, drop, Some, None, sym, refl, ap, ◌∙◌, arith}
use Rattle.ids.specs.Ids.{part_of, both, hexes, id_of, id_text, site_shape, serial_shape}
use Rattle.ids.proofs.Texts.{not-long, both-none, reads-id}
use Rattle.ids.proofs.read_id.Goals as goal

pub returns-in_err-site : goal.returns-in_err-site
unfolding id_of id_text hexes
returns-in_err-site c =
    let is = c.from_residual.ensures ∙ sym (not-long c.args.s.now (λ e. absurd (omega (arith, e, c.in_err-site.ensures.cases)))) in
    record { value = is; example = refl; told = reads-id c.args.s.now c.from_residual.result is }

pub returns-in_err-site-2 : goal.returns-in_err-site-2
unfolding id_of id_text hexes
returns-in_err-site-2 c =
    let s = c.args.s.now in
    let split = c.in_ok-site.ensures.cases in
    let none : part_of site_shape (take 19 s) ≡ None = ap (part_of site_shape) (sym split.1) ∙ sym c.read_part.ensures ∙ c.in_err-site-2.was in
    let is = c.from_residual-in_err-site-2.ensures ∙ sym (ap (λ x. both x (part_of serial_shape (drop 19 s))) none) in
    record { value = is; example = refl; told = reads-id s c.from_residual-in_err-site-2.result is }

pub returns-in_err-serial : goal.returns-in_err-serial
unfolding id_of id_text hexes
returns-in_err-serial c =
    let s = c.args.s.now in
    let split = c.in_ok-site.ensures.cases in
    let none : part_of serial_shape (drop 19 s) ≡ None = ap (part_of serial_shape) (sym split.2) ∙ sym c.read_part-2.ensures ∙ c.in_err-serial.was in
    let is = c.from_residual-in_err-serial.ensures ∙ sym (ap (both (part_of site_shape (take 19 s))) none ∙ both-none _) in
    record { value = is; example = refl; told = reads-id s c.from_residual-in_err-serial.result is }

pub returns : goal.returns
unfolding id_of id_text hexes
returns c =
    let s = c.args.s.now in
    let split = c.in_ok-site.ensures.cases in
    let site : part_of site_shape (take 19 s) ≡ Some c.in_ok-site-2.site = ap (part_of site_shape) (sym split.1) ∙ sym c.read_part.ensures ∙ c.in_ok-site-2.was in
    let serial : part_of serial_shape (drop 19 s) ≡ Some c.in_ok-serial.serial = ap (part_of serial_shape) (sym split.2) ∙ sym c.read_part-2.ensures ∙ c.in_ok-serial.was in
    let is : both (Some c.in_ok-site-2.site) (Some c.in_ok-serial.serial) ≡ id_of s = λ j. both (sym site j) (sym serial j) in
    record { value = is; example = refl; told = reads-id s _ is }
