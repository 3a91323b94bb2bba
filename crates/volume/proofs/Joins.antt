-- Joined lists taken apart, and the lengths of a bundle's parts.
use Rattle.std.proofs.Common.{◌≡◌, ℕ, ◌+◌, ◌^◌, ◌<◌, ◌≤◌, List, ◌∷◌, ◌++◌, length, take, drop, codes, sym, refl, ap, ◌∙◌, append_assoc, arith, length-append}
use Rattle.std.specs.List.{between}
use Rattle.std.proofs.lemmas.List.Edits.{split_between}
use Rattle.std.proofs.lemmas.List.{take_at, drop_at, length-take-le}
use Rattle.volume.specs.Bundles.{Bundle, big_endian, trailer, distance, bytes_of, Proper}
use Rattle.volume.proofs.Numbers.{length-big_endian, big_endian-same}

pub split-left : (x y u v : List ℕ) → length x ≡ length y → x ++ u ≡ y ++ v → (x ≡ y) × (u ≡ v)
split-left x y u v l e = (
  sym (take_at x u (length x) refl) ∙ ap (take (length x)) e ∙ take_at y v (length x) (sym l),
  sym (drop_at x u (length x) refl) ∙ ap (drop (length x)) e ∙ drop_at y v (length x) (sym l),
)

pub split-right : (x y u v : List ℕ) → length u ≡ length v → x ++ u ≡ y ++ v → (x ≡ y) × (u ≡ v)
split-right x y u v l e =
    let same : length (x ++ u) ≡ length (y ++ v) = ap length e in
    split-left x y u v (omega (arith, length-append x u, length-append y v)) e

-- the rest of a list from i on, cut at j
pub drop-between : (s : List ℕ) (i j : ℕ) → i ≤ j → i ≤ length s → drop i s ≡ between i j s ++ drop j s
drop-between s i j h k = ap (drop i) (split_between s i j h) ∙ drop_at (take i s) _ i (length-take-le i s k)

pub length-trailer : (d n : ℕ) → length (trailer d n) ≡ 16
length-trailer d n =
    length-append (big_endian 8 d) _ ∙ omega (arith, length-big_endian 8 d, length-big_endian 2 n, length-append (big_endian 2 n) (0 ∷ 0 ∷ codes "HALL"))

pub length-bytes_of : (b : Bundle) → length (bytes_of b) ≡ distance b + 16
length-bytes_of b =
    let t = trailer (distance b) (length b.name) in
    omega (arith, length-append b.entity (b.name ++ t), length-append b.name t, length-trailer (distance b) (length b.name))

pub trailer-same : (d n e m : ℕ) → d < 256 ^ 8 → e < 256 ^ 8 → n < 256 ^ 2 → m < 256 ^ 2 → trailer d n ≡ trailer e m → (d ≡ e) × (n ≡ m)
trailer-same d n e m hd he hn hm same =
    let p = split-left (big_endian 8 d) (big_endian 8 e) _ _ (length-big_endian 8 d ∙ sym (length-big_endian 8 e)) same in
    let q = split-left (big_endian 2 n) (big_endian 2 m) _ _ (length-big_endian 2 n ∙ sym (length-big_endian 2 m)) p.1 in
    (big_endian-same 8 d e hd he p.0, big_endian-same 2 n m hn hm q.0)

-- the trailer set apart from what stands before it
pub apart : (x : List ℕ) (b : Bundle) → x ++ bytes_of b ≡ (x ++ (b.entity ++ b.name)) ++ trailer (distance b) (length b.name)
apart x b = sym (append_assoc x (b.entity ++ b.name) _ ∙ ap (λ l. x ++ l) (append_assoc b.entity b.name _))

pub name-long : (b : Bundle) → Proper b → length b.name < 256 ^ 2
name-long b p = omega (arith, p.short)

-- bytes end in at most one bundle
pub peel : (x y : List ℕ) (b c : Bundle) → Proper b → Proper c → x ++ bytes_of b ≡ y ++ bytes_of c → (x ≡ y) × (b ≡ c)
peel x y b c p q e =
    let tb = trailer (distance b) (length b.name) in
    let tc = trailer (distance c) (length c.name) in
    let s = split-right (x ++ (b.entity ++ b.name)) (y ++ (c.entity ++ c.name)) tb tc (length-trailer _ _ ∙ sym (length-trailer _ _)) (sym (apart x b) ∙ e ∙ apart y c) in
    let n = trailer-same (distance b) (length b.name) (distance c) (length c.name) p.fits q.fits (name-long b p) (name-long c q) s.1 in
    let bodies = split-right x y (b.entity ++ b.name) (c.entity ++ c.name) (length-append b.entity b.name ∙ n.0 ∙ sym (length-append c.entity c.name)) s.0 in
    let parts = split-right b.entity c.entity b.name c.name n.1 bodies.1 in
    (bodies.0, λ i. record { entity = parts.0 i; name = parts.1 i })
