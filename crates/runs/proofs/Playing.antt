-- Calls made one after another.
use Rattle.std.proofs.Common.{◌≡◌, ℕ, zero, suc, ◌+◌, ◌-◌, ◌<◌, ◌≤◌, min, List, [], ◌∷◌, ◌++◌, length, get_or, take, drop, sym, refl, ap, ◌∙◌, subst, arith, take-append-drop}
use Rattle.std.proofs.lemmas.List.{append_assoc, append-nil, drop-drop, length-append, length-drop, length-take-le, take_more}
use lib.Seq.{drop-append_seam, take-append_seam}
use Rattle.ack.specs.Text.{ack_bytes}
use Rattle.law.specs.Heard.{Heard, Story}
use Rattle.law.proofs.Joins.{promised_heard}
use Rattle.session.specs.Sessions.{World}
use Rattle.session.specs.Steps.{Started}
use Rattle.session.specs.declared.records.Settings.{Settings}
use Rattle.store.specs.Meaning.{Meaning}
use Rattle.runs.specs.Log.{Account, Logged, Made, Played, Tells, acks_of, desk_after, length_in, size_of}
use Rattle.runs.specs.declared.calls.Call.{Call}
use Rattle.runs.specs.declared.calls.Call.TheVariants as call
use Rattle.runs.specs.declared.calls.Line.{Line}
use Rattle.runs.specs.declared.calls.Line.TheVariants as line

-- what holds after the first i calls
pub record Playing (sets : Settings) (start : World) (calls : List Call) (pages : List ℕ) (i : ℕ) (lines : List Line) (desk : List ℕ) (at : ℕ) (out : List ℕ) (w : World) : Type 0 where
  pub heard : List Heard
  pub logged : Logged (length pages) 0 [] (take i calls) lines heard desk
  pub story : Story sets start heard w
  pub written : out ≡ acks_of heard ++ drop at pages
  pub size : length (acks_of heard) ≡ at
  pub within : at ≤ length pages

pub acks-append : (gs hs : List Heard) → acks_of (gs ++ hs) ≡ acks_of gs ++ acks_of hs
acks-append [] hs = refl
acks-append (g ∷ gs) hs = ap (λ l. ack_bytes g.ack ++ l) (acks-append gs hs) ∙ sym (append_assoc (ack_bytes g.ack) (acks_of gs) (acks_of hs))

pub story-append : (sets : Settings) (gs hs : List Heard) (u w v : World) → Story sets u gs w → Story sets w hs v → Story sets u (gs ++ hs) v
story-append sets [] hs u w v e s = subst (λ x. Story sets x hs v) e s
story-append sets (g ∷ gs) hs u w v (x, said, rest) s = (x, said, story-append sets gs hs x w v rest s)

-- a line tells the length of its call's acknowledgement
told-length : (n : ℕ) (desk : List ℕ) (c : Call) (l : Line) (one : List Heard) → Tells n desk c l one → length (acks_of one) ≡ length_in l
told-length n desk (call.Message size input) (line.Message page outcome used k notice) one (a, is, long, uses, size_is) = ap (λ h. length (acks_of h)) is ∙ ap length (append-nil (ack_bytes a)) ∙ sym size_is
told-length n desk (call.Message size input) (line.Answer page serial outcome k notice) one t = absurd t
told-length n desk (call.Message size input) (line.Tick ended) one t = absurd t
told-length n desk (call.Message size input) line.Skipped one t = absurd t
told-length n desk (call.Answer size at verdict) (line.Message page outcome used k notice) one t = absurd t
told-length n desk (call.Answer size at verdict) (line.Answer page serial outcome k notice) one (a, is, long, lies, whose, size_is) = ap (λ h. length (acks_of h)) is ∙ ap length (append-nil (ack_bytes a)) ∙ sym size_is
told-length n desk (call.Answer size at verdict) (line.Tick ended) one t = absurd t
told-length n desk (call.Answer size at verdict) line.Skipped one (short, is) = ap (λ h. length (acks_of h)) is
told-length n desk (call.Tick reading) (line.Message page outcome used k notice) one t = absurd t
told-length n desk (call.Tick reading) (line.Answer page serial outcome k notice) one t = absurd t
told-length n desk (call.Tick reading) (line.Tick ended) one is = ap (λ h. length (acks_of h)) is
told-length n desk (call.Tick reading) line.Skipped one t = absurd t

-- one line more
pub logged-more : (whole at : ℕ) (desk : List ℕ) (cs : List Call) (ls : List Line) (hs one : List Heard) (end : List ℕ) (c : Call) (l : Line)
    → Logged whole at desk cs ls hs end → Tells (min (size_of c) (whole - (at + length (acks_of hs)))) end c l one
    → Logged whole at desk (cs ++ c ∷ []) (ls ++ l ∷ []) (hs ++ one) (desk_after end c l)
logged-more whole at desk [] [] hs one end c l (none, same) t =
    let here : at + length (acks_of hs) ≡ at = let z = ap (λ h. length (acks_of h)) none in omega (arith, z) in
    (one, [], ap (λ h. h ++ one) none ∙ sym (append-nil one), subst (λ d. Tells (min (size_of c) (whole - at)) d c l one) same (subst (λ k. Tells (min (size_of c) (whole - k)) end c l one) here t), (refl, ap (λ d. desk_after d c l) same))
logged-more whole at desk [] (m ∷ ls) hs one end c l g t = absurd g
logged-more whole at desk (d ∷ cs) [] hs one end c l g t = absurd g
logged-more whole at desk (d ∷ cs) (m ∷ ls) hs one end c l (first, rest, is, told, more) t =
    let long : length (acks_of hs) ≡ length_in m + length (acks_of rest) =
    let p = ap (λ h. length (acks_of h)) is ∙ ap length (acks-append first rest) ∙ length-append (acks_of first) (acks_of rest) in
    let q = told-length _ desk d m first told in omega (arith, p, q) in
    let there : at + length (acks_of hs) ≡ (at + length_in m) + length (acks_of rest) = omega (arith, long) in (
      first,
      rest ++ one,
      ap (λ h. h ++ one) is ∙ append_assoc first rest one,
      told,
      logged-more whole (at + length_in m) (desk_after desk d m) cs ls rest one end c l more (subst (λ k. Tells (min (size_of c) (whole - k)) end c l one) there t),
    )

-- the front of the pages after one acknowledgement more
join : (xs : List ℕ) (m k : ℕ) → m ≤ k → drop m (take k xs) ++ drop k xs ≡ drop m xs
join xs zero k le = take-append-drop k xs
join [] (suc m) zero le = absurd (omega arith)
join [] (suc m) (suc k) le = refl
join (x ∷ xs) (suc m) zero le = absurd (omega arith)
join (x ∷ xs) (suc m) (suc k) le = join xs m k (omega arith)

front : (xs ys : List ℕ) (n : ℕ) → length xs ≡ n → take n (xs ++ ys) ≡ xs
front xs ys n e = ap (λ k. take k (xs ++ ys)) (sym e) ∙ take-append_seam xs ys

behind : (xs ys : List ℕ) (n : ℕ) → length xs ≡ n → drop n (xs ++ ys) ≡ ys
behind xs ys n e = ap (λ k. drop k (xs ++ ys)) (sym e) ∙ drop-append_seam xs ys

module _ {sets : Settings} {start : World} {calls : List Call} {pages : List ℕ} {i : ℕ} {lines : List Line} {desk : List ℕ} {at : ℕ} {out : List ℕ} {w : World} where
  -- the bytes from a place on are those that were lent
  rest-is : Playing sets start calls pages i lines desk at out w → drop at out ≡ drop at pages
  rest-is p = ap (drop at) p.written ∙ behind (acks_of p.heard) (drop at pages) at p.size

  -- one call more, with a page of what is left
  pub turn : (p : Playing sets start calls pages i lines desk at out w) (d : Call) (l : Line) (n m : ℕ) (page : List ℕ) (v : World)
      → i < length calls → length out ≡ length pages → n ≡ size_of (get_or calls i d) → m ≡ min n (length out - at)
      → Made sets w desk (get_or calls i d) (take (at + m - at) (drop at out)) l page v
      → Playing sets start calls pages (i + 1) (lines ++ l ∷ []) (desk_after desk (get_or calls i d) l) (at + length_in l) (take at out ++ (page ++ drop (at + m - at) (drop at out))) v
  turn p d l n m page v lt whole asked given made =
      let c = get_or calls i d in
      let k = at + m - at in
      let hs = p.heard in
      let one = made.heard in
      let rest = drop at pages in
      let within = p.within in
      let size : k ≡ min (size_of c) (length pages - at) = omega arith in
      let long : length (take k (drop at out)) ≡ k = length-take-le k (drop at out) (let z = length-drop at out in omega (arith, z)) in
      let fit : length_in l ≤ k = omega (arith, made.fits, long) in
      let told : Tells (min (size_of c) (length pages - (0 + length (acks_of hs)))) desk c l one =
      subst (λ n. Tells n desk c l one) (long ∙ size ∙ ap (λ n. min (size_of c) (length pages - n)) (let z = p.size in omega (arith, z))) made.tells in
      let acks : acks_of (hs ++ one) ≡ acks_of hs ++ acks_of one = acks-append hs one in
      let back : drop k (drop at out) ≡ drop k rest = ap (drop k) (rest-is p) in
      let filled : page ++ drop k (drop at out) ≡ acks_of one ++ drop (length_in l) rest =
      (λ t. made.written t ++ back t) ∙ append_assoc (acks_of one) (drop (length_in l) (take k (drop at out))) (drop k rest)
      ∙ (λ t. acks_of one ++ (drop (length_in l) (take k (rest-is p t)) ++ drop k rest)) ∙ ap (λ z. acks_of one ++ z) (join rest (length_in l) k fit) in
      record {
        heard = hs ++ one;
        logged = subst (λ cs. Logged (length pages) 0 [] cs (lines ++ l ∷ []) (hs ++ one) (desk_after desk c l)) (sym (take_more calls i d lt)) (logged-more (length pages) 0 [] (take i calls) lines hs one desk c l p.logged told);
        story = story-append sets hs one start w v p.story made.story;
        written =
            (λ t. (ap (take at) p.written ∙ front (acks_of hs) rest at p.size) t ++ filled t)
            ∙ sym (append_assoc (acks_of hs) (acks_of one) (drop (length_in l) rest)) ∙ (λ t. sym acks t ++ drop-drop (length_in l) at pages t);
        size = ap length acks ∙ length-append (acks_of hs) (acks_of one) ∙ (λ t. p.size t + made.size t);
        within = let z = length-drop at out in omega (arith, z, size);
      }

-- the whole law over what was played on an intake newly set up
pub accounted : {sets : Settings} {m : Meaning} {u : World} {calls : List Call} {pages : List ℕ} {lines : List Line} {desk : List ℕ} {out : List ℕ} {w : World}
    → Started sets m u → Played sets u calls pages lines desk out w → Account sets m.catalog calls pages lines desk out w
accounted {sets} {m} {u} {calls} {pages} {lines} {desk} {out} {w} started p = record {
  heard = p.heard;
  logged = p.logged;
  written = p.written;
  promise = promised_heard sets m u w p.heard started p.story;
}
