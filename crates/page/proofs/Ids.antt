-- An id's text in pieces. Assumes nothing.
use Rattle.std.proofs.Common.{◌≡◌, ℕ, zero, suc, ◌-◌, ◌/◌, ◌%◌, ◌^◌, [], ◌∷◌, ◌++◌, codes, sym, refl, ap, ◌∙◌, arith}
use Rattle.ids.proofs.Texts.{hexes-split}
use Rattle.ids.specs.Ids.{hex_digit, hexes, id_text, filled, site_shape, serial_shape}
use Rattle.ids.specs.declared.SessionId.{SessionId}

pub hexes-step : (k n : ℕ) → (k ≡ 0 → ⊥) → hexes k n ≡ hexes (k - 1) (n / 16) ++ hex_digit (n % 16) ∷ []
unfolding hexes
hexes-step zero n h = absurd (h refl)
hexes-step (suc k) n h =
    let same : k ≡ suc k - 1 = omega arith in
    ap (λ m. hexes m (n / 16) ++ hex_digit (n % 16) ∷ []) same

site-pieces : (a b c : ℕ) → filled site_shape (hexes 8 a ++ (hexes 4 b ++ hexes 4 c)) ≡ codes "{" ++ (hexes 8 a ++ (codes "-" ++ (hexes 4 b ++ (codes "-" ++ hexes 4 c))))
unfolding hexes
site-pieces a b c = refl

serial-pieces : (a b : ℕ) → filled serial_shape (hexes 4 a ++ hexes 12 b) ≡ codes "-" ++ (hexes 4 a ++ (codes "-" ++ (hexes 12 b ++ codes "}")))
unfolding hexes
serial-pieces a b = refl

pub id-pieces : (id : SessionId) → (codes "{" ++ (hexes 8 (id.site / 2 ^ 32) ++ (codes "-" ++ (hexes 4 (id.site / 2 ^ 16) ++ (codes "-" ++ hexes 4 id.site))))) ++ (codes "-" ++ (hexes 4 (id.serial / 2 ^ 48) ++ (codes "-" ++ (hexes 12 id.serial ++ codes "}")))) ≡ id_text id
unfolding id_text
id-pieces id =
    let n = id.site in
    let m = id.serial in
    let site : hexes 16 n ≡ hexes 8 (n / 2 ^ 32) ++ (hexes 4 (n / 2 ^ 16) ++ hexes 4 n) = hexes-split 8 8 16 n refl ∙ ap (λ l. hexes 8 (n / 2 ^ 32) ++ l) (hexes-split 4 4 8 n refl) in
    sym ((λ j. filled site_shape (site j) ++ filled serial_shape (hexes-split 4 12 16 m refl j)) ∙ (λ j. site-pieces (n / 2 ^ 32) (n / 2 ^ 16) n j ++ serial-pieces (m / 2 ^ 48) m j))
