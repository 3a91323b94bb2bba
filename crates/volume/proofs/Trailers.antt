-- The trailer at the end of bytes, and that a fault leaves no bundle there.
use Rattle.std.proofs.Common.{◌≡◌, ℕ, zero, suc, ◌+◌, ◌-◌, ◌*◌, ◌^◌, ◌<◌, ◌≤◌, List, [], ◌∷◌, ◌++◌, length, take, drop, codes, get_or, sym, refl, ap, ◌∙◌, subst, ⊎_elim, append_assoc, eq-or-lt_of_le, arith, length-append, length-drop, get_or-drop}
use Rattle.std.specs.List.{between}
use Rattle.std.proofs.lemmas.List.Edits.{split_between, length-between}
use Rattle.std.proofs.lemmas.List.Prefix.{end_rest}
use Rattle.std.proofs.lemmas.Bool.{cases_order}
use Rattle.std.proofs.lemmas.List.{length-take-le, drop-drop, take-append-drop}
use Rattle.volume.proofs.Numbers.{value, value-is}
use Rattle.volume.specs.Bundles.{Bundle, big_endian, trailer, distance, bytes_of}
use Rattle.volume.specs.Reads.{Placed, Ends, Trailed, EndsWith, Passes, rank, Faulty}
use Rattle.volume.specs.declared.bundle.Fault.{Fault}
use Rattle.volume.specs.declared.bundle.Fault.TheVariants.{NoTrailer, NoMark, NoZeros, NameLength, NoEntity, TooFar}
use Rattle.volume.proofs.Joins.{drop-between, split-right, length-trailer, length-bytes_of, trailer-same, apart, name-long}

-- the two numbers of a trailer, read byte by byte
pub trailed : (s t : List ℕ) (d n : ℕ) → 16 ≤ length s → t ≡ drop (length s - 16) s → ((i : ℕ) → get_or s i 0 < 256) → d ≡ value 8 t → n ≡ get_or t 8 0 * 256 + get_or t 9 0 → EndsWith s (0 ∷ 0 ∷ codes "HALL") → Trailed s d n
trailed s t d n long is small hd hn e =
    let from = length s - 16 in
    let lt : length t ≡ 16 = ap length is ∙ length-drop from s ∙ omega arith in
    let l8 : length (drop 8 t) ≡ 8 = length-drop 8 t ∙ omega arith in
    let within : (i : ℕ) → get_or t i 0 < 256 = λ i. subst (λ x. x < 256) (sym (ap (λ l. get_or l i 0) is ∙ get_or-drop from s i 0)) (small (from + i)) in
    let behind : (i : ℕ) → get_or (drop 8 t) i 0 < 256 = λ i. subst (λ x. x < 256) (sym (get_or-drop 8 t i 0)) (within (8 + i)) in
    let nd : n ≡ value 2 (drop 8 t) = omega (arith, hn, get_or-drop 8 t 0 0, get_or-drop 8 t 1 0) in
    let dv = value-is 8 t (omega arith) within in
    let nv = value-is 2 (drop 8 t) (omega arith) behind in
    let past : from + 8 + 2 ≡ length s - 6 = omega arith in
    let rest : drop 2 (drop 8 t) ≡ 0 ∷ 0 ∷ codes "HALL" =
    ap (λ l. drop 2 (drop 8 l)) is ∙ ap (drop 2) (drop-drop 8 from s) ∙ drop-drop 2 (from + 8) s ∙ ap (λ k. drop k s) past ∙ end_rest s (0 ∷ 0 ∷ codes "HALL") e.0 e.1 in
    let numbers : drop 8 t ≡ big_endian 2 n ++ (0 ∷ 0 ∷ codes "HALL") = sym (take-append-drop 2 (drop 8 t)) ∙ (λ i. (nv.0 ∙ ap (big_endian 2) (sym nd)) i ++ rest i) in
    let whole : t ≡ trailer d n = sym (take-append-drop 8 t) ∙ (λ i. (dv.0 ∙ ap (big_endian 8) (sym hd)) i ++ numbers i) in
    record {
      before = take from s;
      joins = sym (take-append-drop from s) ∙ ap (λ l. take from s ++ l) (sym is ∙ whole);
      reach = subst (λ k. k < 256 ^ 8) (sym hd) dv.1;
      long = subst (λ k. k < 256 ^ 2) (sym nd) nv.1;
    }

pub trailed-same : (s : List ℕ) (d n e m : ℕ) → Trailed s d n → Trailed s e m → (d ≡ e) × (n ≡ m)
trailed-same s d n e m p q =
    let r = split-right p.before q.before (trailer d n) (trailer e m) (length-trailer d n ∙ sym (length-trailer e m)) (sym p.joins ∙ q.joins) in
    trailer-same d n e m p.reach q.reach p.long q.long r.1

pub trailed-long : (s : List ℕ) (d n : ℕ) → Trailed s d n → 16 ≤ length s
trailed-long s d n p = omega (arith, ap length p.joins, length-append p.before (trailer d n), length-trailer d n)

ends-trailed : (s : List ℕ) (p : Placed) → Ends s p → Trailed s (distance p.bundle) (length p.bundle.name)
ends-trailed s p e = record {
  before = e.before ++ (p.bundle.entity ++ p.bundle.name);
  joins = e.joins ∙ apart e.before p.bundle;
  reach = e.proper.fits;
  long = name-long p.bundle e.proper;
}

ends-zeros : (s : List ℕ) (d n : ℕ) → Trailed s d n → EndsWith s (0 ∷ 0 ∷ codes "HALL")
ends-zeros s d n t = (
  t.before ++ (big_endian 8 d ++ big_endian 2 n),
  t.joins ∙ sym (append_assoc t.before (big_endian 8 d ++ big_endian 2 n) _ ∙ ap (λ l. t.before ++ l) (append_assoc (big_endian 8 d) (big_endian 2 n) _)),
)

zeros-mark : (s : List ℕ) → EndsWith s (0 ∷ 0 ∷ codes "HALL") → EndsWith s (codes "HALL")
zeros-mark s e = (e.0 ++ (0 ∷ 0 ∷ []), e.1 ∙ sym (append_assoc e.0 (0 ∷ 0 ∷ []) (codes "HALL")))

pub ends-long : (s : List ℕ) (p : Placed) → Ends s p → length s ≡ p.at + (distance p.bundle + 16)
ends-long s p e = omega (arith, ap length e.joins, length-append e.before (bytes_of p.bundle), length-bytes_of p.bundle, e.starts)

-- a bundle at the end passes each test
passes : (s : List ℕ) (p : Placed) → Ends s p → (f : Fault) → Passes s f
passes s p e NoTrailer = omega (arith, ends-long s p e)
passes s p e NoMark = zeros-mark s (ends-zeros s _ _ (ends-trailed s p e))
passes s p e NoZeros = ends-zeros s _ _ (ends-trailed s p e)
passes s p e NameLength = (_, _, ends-trailed s p e, e.proper.named, e.proper.short)
passes s p e NoEntity = (_, _, ends-trailed s p e, omega (arith, e.proper.some))
passes s p e TooFar = (_, _, ends-trailed s p e, omega (arith, ends-long s p e))

pub faulty-none : (s : List ℕ) (f : Fault) → Faulty s f → (p : Placed) → Ends s p → ⊥
faulty-none s f h p e = h.fails (passes s p e f)

ranked : ℕ → Fault
ranked zero = NoTrailer
ranked (suc zero) = NoMark
ranked (suc (suc zero)) = NoZeros
ranked (suc (suc (suc zero))) = NameLength
ranked (suc (suc (suc (suc zero)))) = NoEntity
ranked (suc (suc (suc (suc (suc n))))) = TooFar

ranked-rank : (f : Fault) → ranked (rank f) ≡ f
unfolding ranked
ranked-rank NoTrailer = refl
ranked-rank NoMark = refl
ranked-rank NoZeros = refl
ranked-rank NameLength = refl
ranked-rank NoEntity = refl
ranked-rank TooFar = refl

same_rank : (f g : Fault) → rank f ≡ rank g → f ≡ g
same_rank f g e = sym (ranked-rank f) ∙ ap ranked e ∙ ranked-rank g

pub faulty-only : (s : List ℕ) (f g : Fault) → Faulty s f → Faulty s g → g ≡ f
faulty-only s f g h k =
    ⊎_elim (same_rank g f) (⊎_elim (λ l. absurd (k.fails (h.earlier g l))) (λ l. absurd (h.fails (k.earlier f l)))) (cases_order (rank g) (rank f))

-- one test more is passed
pub earlier_more : (s : List ℕ) (f g : Fault) → rank g ≡ rank f + 1 → ((e : Fault) → rank e < rank f → Passes s e) → Passes s f → (e : Fault) → rank e < rank g → Passes s e
earlier_more s f g next before pass e l =
    ⊎_elim (λ same. subst (Passes s) (sym (same_rank e f same)) pass) (before e) (eq-or-lt_of_le (below (rank e) (rank f) (rank g) next l))
  where
    below : (a b c : ℕ) → c ≡ b + 1 → a < c → a ≤ b
    below a b c p q = omega arith

pub earlier-none : (s : List ℕ) (e : Fault) → rank e < rank NoTrailer → Passes s e
earlier-none s e l = absurd (omega arith)

-- the tests before each of the last three, of a trailer that was read
pub before-name : (s : List ℕ) (d n : ℕ) → Trailed s d n → (e : Fault) → rank e < rank NameLength → Passes s e
before-name s d n t =
    earlier_more s NoZeros NameLength refl
    (earlier_more s NoMark NoZeros refl (earlier_more s NoTrailer NoMark refl (earlier-none s) (trailed-long s d n t)) (zeros-mark s (ends-zeros s d n t)))
    (ends-zeros s d n t)

module _ (s : List ℕ) (d n : ℕ) (t : Trailed s d n) where
  pub bad-name : (1 ≤ n → n ≤ 128 → ⊥) → Faulty s NameLength
  bad-name bad = record {
    earlier = before-name s d n t;
    fails = λ (e, m, u, lo, hi). let same = (trailed-same s d n e m t u).1 in bad (omega arith) (omega arith);
  }

  before-entity : 1 ≤ n → n ≤ 128 → (e : Fault) → rank e < rank NoEntity → Passes s e
  before-entity lo hi = earlier_more s NameLength NoEntity refl (before-name s d n t) (d, n, t, lo, hi)

  pub no-entity : 1 ≤ n → n ≤ 128 → d ≤ n → Faulty s NoEntity
  no-entity lo hi bad = record {
    earlier = before-entity lo hi;
    fails = λ (e, m, u, some). let same = trailed-same s d n e m t u in omega (arith, same.0, same.1);
  }

  pub too_far : 1 ≤ n → n ≤ 128 → n < d → length s < d + 16 → Faulty s TooFar
  too_far lo hi some bad = record {
    earlier = earlier_more s NoEntity TooFar refl (before-entity lo hi) (d, n, t, some);
    fails = λ (e, m, u, near). let same = (trailed-same s d n e m t u).0 in omega arith;
  }

-- what the numbers of a trailer point at
pub ends_at : (s : List ℕ) (d n : ℕ) → Trailed s d n → 1 ≤ n → n ≤ 128 → n < d → d + 16 ≤ length s → Ends s (record { at = length s - 16 - d; bundle = record { entity = between (length s - 16 - d) (length s - 16 - n) s; name = between (length s - 16 - n) (length s - 16) s } })
ends_at s d n t lo hi some near =
    let body = length s - 16 in
    let b : Bundle = record { entity = between (body - d) (body - n) s; name = between (body - n) body s } in
    let le : length b.entity ≡ d - n = length-between s (body - d) (body - n) (omega arith) ∙ omega arith in
    let ln : length b.name ≡ n = length-between s (body - n) body (omega arith) ∙ omega arith in
    let back : distance b ≡ d = omega arith in
    let l16 : length s - length (trailer d n) ≡ body = omega (arith, length-trailer d n) in
    let end : drop body s ≡ trailer d n = ap (λ k. drop k s) (sym l16) ∙ end_rest s (trailer d n) t.before t.joins in
    record {
      before = take (body - d) s;
      joins =
          split_between s (body - d) (body - n) (omega arith)
          ∙ ap (λ l. take (body - d) s ++ (b.entity ++ l)) (drop-between s (body - n) body (omega arith) (omega arith) ∙ ap (λ l. b.name ++ l) (end ∙ (λ i. trailer (sym back i) (sym ln i))));
      starts = length-take-le (body - d) s (omega arith);
      proper = record { some = omega arith; named = omega arith; short = omega arith; fits = subst (λ k. k < 256 ^ 8) (sym back) t.reach };
    }
