use Rattle.std.proofs.Common.{sym, ap, ◌∙◌, refl, get_or, take, ◌++◌, ◌∷◌, [], not, nat_eq, append-nil}
use Rattle.std.proofs.Output.{has_written_append, has_written_of_eq}
use Rattle.std.proofs.Math.Numerals.{add-one}
use Rattle.std.proofs.Math.Seq.{take-suc}
use Rattle.std.proofs.lemmas.Grind.{flat_map-append}
use Rattle.shown.specs.Terminal.{glyphs, text}
use Rattle.shown.proofs.ShownDisplay.fmt.Goals as goal

pub loop-b-preserved : goal.loop-b-preserved
loop-b-preserved g c =
    λ plain.
    let all = c.args.self.now.0.now in
    let i = c.loop-b.b-index in
    let show = text (not (nat_eq g.row.ESCAPED 0)) in
    let one = glyphs (not (nat_eq g.row.ESCAPED 0)) in
    let b = get_or all i 0 in
    let so_far = c.loop-b.invariant plain in
    has_written_of_eq _ _ _ _ _ (sym (ap (λ k. show (take k all)) (add-one i) ∙ ap show (take-suc all i 0 c.loop-b-test.true) ∙ flat_map-append one (take i all) (b ∷ []) ∙ ap (λ z. show (take i all) ++ z) (append-nil (one b)))) (has_written_append _ _ _ _ _ _ so_far (c.in_ok-write_byte.ensures so_far.plain refl))
