-- What the worlds that an intake reaches have for the law.
use Rattle.std.proofs.Common.{◌≡◌, ℕ, ◌<◌, ◌≤◌, max, Bool, true, false, cond, ltb, List, [], ◌∷◌, map, length, replicate, Some, None, Ok, Err, MatchBool, Option, Result, sym, refl, ap, ◌∙◌, subst, ⊎_elim, arith}
use Rattle.std.proofs.lemmas.List.{get_or_past, get_or-replicate, length-replicate}
use Rattle.std.proofs.lemmas.Bool.{cond-false, cases_Bool, cases_lt}
use Rattle.outcome.specs.declared.Outcome.TheVariants.{UploadsOff}
use Rattle.packet.specs.Packets.{Request, packet_of}
use Rattle.packet.specs.declared.Fault.{Fault}
use Rattle.session.specs.Sessions.{Live, World, row, index_of}
use Rattle.session.specs.Rules.{is_asked}
use Rattle.session.specs.Plans.{refuse, ping, action_plan, is_ping, plan_of}
use Rattle.session.specs.Steps.{Word, Done, ReadDone, AskedDone, swept}
use Rattle.session.specs.declared.records.Settings.{Settings}
use Rattle.finishing.specs.Runs.{Call, message, answer, tick, Stepped, Runs}
use Rattle.finishing.specs.Finishing.{Within, GoodSince, UploadsOn}

none-is-not-some : {X : Type 0} (o : Option X) (x : X) → o ≡ None → o ≡ Some x → ⊥
none-is-not-some o x p q = let z : ◌≡◌ {A = ℕ} 0 1 = cc in omega arith

inside : (rs : List (Option Live)) (i : ℕ) (x : Live) → row rs i ≡ Some x → i < length rs
inside rs i x e = ⊎_elim (λ h. h) (λ h. absurd (none-is-not-some (row rs i) x (get_or_past rs i None h) e)) (cases_lt i (length rs))

within : (total : Option ℕ) (n : ℕ) → ((t : ℕ) → total ≡ Some t → n ≤ t) → (total ≡ None → n ≡ 0) → Within total n
within None n a b = b refl
within (Some t) n a b = a t refl

pub good-since : GoodSince
good-since w i x here receives apart size bound unset = record {
  within = inside w.rows i x here;
  here = here;
  only = λ k y e s. apart k i y x e here s;
  receives = receives;
  kept = sym size;
  bounded = within x.total x.received bound unset;
}

-- a message does nothing where uploads are off
idle : (sets : Settings) (w : World) (q : Request) (u : World) (b : Bool) → Done sets w q (cond b ping (refuse UploadsOff)) u → u ≡ w
idle sets w q u true d = d
idle sets w q u false d = d

plan-off : (sets : Settings) (w : World) (q : Request) → sets.uploads ≡ false → plan_of sets w q ≡ cond (is_ping q.action) ping (refuse UploadsOff)
unfolding plan_of
plan-off sets w q e = ap (λ p. cond (is_ping q.action) ping p) (cond-false sets.uploads (action_plan sets w q q.action) (refuse UploadsOff) e)

read-idle : (sets : Settings) (w : World) (r : Result Request Fault) (u : World) → sets.uploads ≡ false → ReadDone sets w r u → u ≡ w
read-idle sets w (Ok q) u e d = idle sets w q u (is_ping q.action) (subst (λ p. Done sets w q p u) (plan-off sets w q e) d)
read-idle sets w (Err f) u e d = d

either : (b : Bool) (P Q : Type 0) → (Q → P) → MatchBool b P Q → P
either true P Q f h = h
either false P Q f h = f h

abbrev vacant : List (Option Live)
vacant = replicate 16 None

unasked : (w : World) (serial : ℕ) (word : Word) (u : World) → w.rows ≡ vacant → AskedDone w (index_of (is_asked serial) w.rows) word u → u ≡ w
unasked w serial word u e d = subst (λ rs. AskedDone w (index_of (is_asked serial) rs) word u) e d

still : (sets : Settings) (w : World) (c : Call) (u : World) → sets.uploads ≡ false → w.rows ≡ vacant → Stepped sets w c u → u.rows ≡ vacant
still sets w (message page input) u off e s =
    ap (λ (z : World). z.rows) (either (ltb page 1024) (u ≡ w) (ReadDone sets w (packet_of input) u) (read-idle sets w (packet_of input) u off) s) ∙ e
still sets w (answer page serial word) u off e s =
    ap (λ (z : World). z.rows)
    (either (ltb page 1024) (u ≡ w) (AskedDone w (index_of (is_asked serial) w.rows) word u) (unasked w serial word u e) s) ∙ e
still sets w (tick reading) u off e s = s.1.rows ∙ ap (map (swept (max w.clock reading))) e

quiet : (sets : Settings) (w : World) (cs : List Call) (v : World) → sets.uploads ≡ false → w.rows ≡ vacant → Runs sets w cs v → v.rows ≡ vacant
quiet sets w [] v off e r = ap (λ (z : World). z.rows) r ∙ e
quiet sets w (c ∷ cs) v off e r = quiet sets r.0 cs v off (still sets w c r.0 off e r.1) r.2

none-there : (n i : ℕ) → row (replicate n None) i ≡ None
none-there n i =
    ⊎_elim (λ h. get_or-replicate n i None None h)
    (λ h. get_or_past (replicate n None) i None (subst (λ k. k ≤ i) (sym (length-replicate n None)) h))
    (cases_lt i n)

pub uploads-on : UploadsOn
uploads-on sets m u w cs i x s r e =
    ⊎_elim (λ on. on)
    (λ off. absurd (none-is-not-some (row w.rows i) x (ap (λ rs. row rs i) (quiet sets u cs w off s.rows r) ∙ none-there 16 i) e))
    (cases_Bool sets.uploads)
