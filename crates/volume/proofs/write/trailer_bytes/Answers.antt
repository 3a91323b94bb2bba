use Rattle.std.proofs.Common.{ℕ, List, ◌∷◌, ◌++◌, get_or, codes, ◌∙◌}
use Rattle.volume.proofs.Numbers.{eight-bytes, two_bytes}
use Rattle.volume.proofs.write.trailer_bytes.Goals as goal

pub returns : goal.returns
returns c =
    let d = c.to_be_bytes in
    let n = c.to_be_bytes-2 in
    let at : List ℕ → List ℕ → List ℕ = λ x y. get_or x 0 0 ∷ get_or x 1 0 ∷ get_or x 2 0 ∷ get_or x 3 0 ∷ get_or x 4 0 ∷ get_or x 5 0 ∷ get_or x 6 0 ∷ get_or x 7 0 ∷ get_or y 0 0 ∷ get_or y 1 0 ∷ 0 ∷ 0 ∷ codes "HALL" in
    (λ i. at (d.ensures i) (n.ensures i))
    ∙ (λ i. eight-bytes c.args.distance i ++ (two_bytes c.args.name_len i ++ (0 ∷ 0 ∷ codes "HALL")))
