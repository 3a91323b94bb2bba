use Rattle.std.proofs.Common.{◌≡◌, ◌∷◌, codes, Some, None, Ok, Option, sym, refl, ◌∙◌, arith}
use Rattle.std.specs.Option.{ok_or}
use Rattle.std.proofs.lemmas.Slice.Eq.{ends_is}
use Rattle.std.proofs.lemmas.Bool.{true≢false}
use Rattle.std.proofs.lemmas.Bool.Decides.{Decides-eqb}
use Rattle.volume.specs.Reads.{EndsWith}
use Rattle.volume.specs.declared.bundle.Fault.TheVariants.{NoTrailer, NoMark, NoZeros}
use Rattle.volume.proofs.Trailers.{trailed, earlier-none, earlier_more}
use Rattle.volume.proofs.read.read_trailer.Goals as goal

-- an `Ok` of `ok_or` comes from a `Some`
some : {T E : Type 0} (o : Option T) (e : E) (t : T) → Ok t ≡ ok_or o e → o ≡ Some t
some None e t h = cc
some (Some x) e t h = cc

pub returns-then-not-ends_with-2 : goal.returns-then-not-ends_with-2
returns-then-not-ends_with-2 c =
    let s = c.args.bytes.now in
    let mark : EndsWith s (codes "HALL") = (_, (ends_is Decides-eqb s (codes "HALL") c.ends_with.result c.ends_with.ensures.value).0 c.if-not-ends_with.false) in
    record {
      earlier = earlier_more s NoMark NoZeros refl (earlier_more s NoTrailer NoMark refl (earlier-none s) (rw (some c.last_chunk.result NoTrailer c.in_ok-trailer.trailer c.in_ok-trailer.ensures.value) at c.last_chunk.ensures.cases).0) mark;
      fails = λ e. true≢false (sym ((ends_is Decides-eqb s (0 ∷ 0 ∷ codes "HALL") c.ends_with-2.result c.ends_with-2.ensures.value).1 e.0 e.1) ∙ c.if-not-ends_with-2.true);
    }

pub returns : goal.returns
returns c =
    let s = c.args.bytes.now in
    let t = c.in_ok-trailer.trailer.now in
    let chunk = rw (some c.last_chunk.result NoTrailer c.in_ok-trailer.trailer c.in_ok-trailer.ensures.value) at c.last_chunk.ensures.cases in
    trailed s t c.from_be_bytes.result c.from_be_bytes-2.result chunk.0 chunk.1.same (λ i. omega (arith, c.type_inv.bytes i)) (omega (arith, c.from_be_bytes.ensures)) (omega (arith, c.from_be_bytes-2.ensures))
    (_, (ends_is Decides-eqb s (0 ∷ 0 ∷ codes "HALL") c.ends_with-2.result c.ends_with-2.ensures.value).0 c.if-not-ends_with-2.false)
