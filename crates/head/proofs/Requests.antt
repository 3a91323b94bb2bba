-- The request line and its path.
use Rattle.std.proofs.Common.{◌≡◌, ℕ, ◌-◌, true, false, cond, ◌&&◌, List, length, Some, None, codes, sym, refl, ap, ◌∙◌, arith, length-append}
use Rattle.std.proofs.lemmas.Slice.Eq.{bytes_eq-Decides}
use Rattle.std.proofs.lemmas.List.{take_at}
use Rattle.std.specs.Str.{bytes_eq}
use Rattle.head.specs.Lines.{request_of, middle, good_path, path_of}

pub middle-is : (p : List ℕ) → middle (request_of p) ≡ p
middle-is p = take_at p (codes " HTTP/1.1") (length (request_of p) - 19) (omega (arith, length-append p (codes " HTTP/1.1")))

pub path-none : (line : List ℕ) → ((p : List ℕ) → line ≡ request_of p → ⊥) → None ≡ path_of line
unfolding path_of
path-none line n = elim (bytes_eq line (request_of (middle line))) as (λ b. bytes_eq line (request_of (middle line)) ≡ b → None ≡ cond (b && good_path (middle line)) (Some (middle line)) None) [
  | true ↦ λ e. absurd (n (middle line) ((bytes_eq-Decides line (request_of (middle line))).0 e))
  | false ↦ λ e. refl
] refl

pub path-is : (line p : List ℕ) → line ≡ request_of p → cond (good_path p) (Some p) None ≡ path_of line
unfolding path_of
path-is line p e =
    let mid : middle line ≡ p = ap middle e ∙ middle-is p in
    let same : bytes_eq line (request_of (middle line)) ≡ true = (bytes_eq-Decides line (request_of (middle line))).1 (e ∙ ap request_of (sym mid)) in
    ap (λ q. cond (good_path q) (Some q) None) (sym mid) ∙ ap (λ t. cond (t && good_path (middle line)) (Some (middle line)) None) (sym same)
