-- One judged field after another.
use Rattle.std.proofs.Common.{◌≡◌, Ok, Err, Result, sym, ap, ◌∙◌}
use Rattle.head.specs.Heads.{Found, found}
use Rattle.head.specs.declared.fields.Known.{Known}
use Rattle.packet.specs.declared.Fault.{Fault}
use Rattle.packet.specs.Judging.{and_then, lined}

pub err-plain : {A B : Type 0} (x : Result B Fault) (e : Fault) (r g : Result A Fault) (f : A → Result B Fault) → x ≡ Err e → r ≡ Err e → r ≡ g → x ≡ and_then g f
err-plain x e r g f p was is = p ∙ ap (λ s. and_then s f) (sym was ∙ is)

pub ok-plain : {A B : Type 0} (x : A) (r g : Result A Fault) (f : A → Result B Fault) → r ≡ Ok x → r ≡ g → f x ≡ and_then g f
ok-plain x r g f was is = ap (λ s. and_then s f) (sym was ∙ is)

pub err-line : {B : Type 0} (x : Result B Fault) (e : Fault) (r : Result Known Fault) (g : Result Found Fault) (f : Found → Result B Fault) → x ≡ Err e → r ≡ Err e → lined r ≡ g → x ≡ and_then g f
err-line x e r g f p was is = p ∙ ap (λ s. and_then s f) (sym (ap lined was) ∙ is)

pub ok-line : {B : Type 0} (k : Known) (r : Result Known Fault) (g : Result Found Fault) (f : Found → Result B Fault) → r ≡ Ok k → lined r ≡ g → f (found k) ≡ and_then g f
ok-line k r g f was is = ap (λ s. and_then s f) (sym (ap lined was) ∙ is)
