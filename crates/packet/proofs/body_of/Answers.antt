use Rattle.std.proofs.Common.{◌≡◌, ℕ, min, List, length, take, sym, ap, ◌∙◌, inl, inr, arith}
use Rattle.std.proofs.lemmas.List.{take_all}
use Rattle.std.proofs.lemmas.Bool.{cases_lt}
use Rattle.packet.proofs.body_of.Goals as goal

part : (s : List ℕ) (m n : ℕ) → m ≡ min n (length s) → take m s ≡ take n s
part s m n e = elim (cases_lt (length s) n) [
  | inl h ↦ take_all m s (omega arith) ∙ sym (take_all n s (omega arith))
  | inr h ↦ let same : m ≡ n = omega arith in ap (λ k. take k s) same
]

pub returns : goal.returns
returns c = part c.args.rest.now c.min-present.result c.args.announced c.min-present.ensures
