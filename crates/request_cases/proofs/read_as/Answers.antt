use Rattle.std.proofs.Common.{◌≡◌, ℕ, refl, subst, MatchResult}
use Rattle.packet.specs.Faults.{number_of, place_of}
use Rattle.request_cases.proofs.read_as.Goals as goal

pub returns-in-Ok : goal.returns-in-Ok
returns-in-Ok c = subst (λ x. MatchResult x (λ _. (◌≡◌ {A = ℕ} 0 0) × (◌≡◌ {A = ℕ} 0 0)) (λ e. (0 ≡ number_of e) × (0 ≡ place_of e))) c.in-Ok.ensures.value (refl, refl)

pub returns-in-Err : goal.returns-in-Err
returns-in-Err c = subst (λ x. MatchResult x (λ _. (c.number.result ≡ 0) × (c.place.result ≡ 0)) (λ e. (c.number.result ≡ number_of e) × (c.place.result ≡ place_of e))) c.in-Err.ensures.value (c.number.ensures, c.place.ensures)
