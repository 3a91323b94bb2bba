-- A session whose serial no other row has: how messages and answers find it.
use Rattle.std.proofs.Common.{◌≡◌, ℕ, ◌<◌, ◌≤◌, true, false, cond, eqb, ltb, List, length, Some, None, Ok, Option, sym, ap, ◌∙◌, subst, ⊎_elim, arith}
use Rattle.std.proofs.lemmas.List.{length-set, get_or-set_same, get_or-set_other}
use Rattle.std.proofs.lemmas.Bool.{cond-true, cond-false, cases_eq, eq-eqb, and_from, and_right, le-ltb}
use Rattle.std.proofs.lemmas.Bool.Decides.{when_false}
use Rattle.ids.specs.declared.SessionId.{SessionId}
use Rattle.outcome.specs.declared.Outcome.TheVariants.{ShortPage, UploadsOff}
use Rattle.packet.specs.Packets.{Request, packet_of}
use Rattle.packet.specs.declared.judging.Action.TheVariants.{Fragment, Close}
use Rattle.packet.specs.declared.ranges.Range.{Range}
use Rattle.session.specs.Sessions.{Live, World, row, index_of}
use Rattle.session.specs.Rules.{is_of, is_asked, is_away}
use Rattle.session.specs.Plans.{Plan, refuse, ping, found, with_row, with_live, take_plan, close_plan, action_plan, is_ping, plan_of, outcome_of}
use Rattle.session.specs.Steps.{Word, Written, Done, ReadDone, read_outcome, MessageDone, message_outcome, AskedDone, AnswerDone, asked_outcome, answer_outcome}
use Rattle.session.specs.declared.records.Settings.{Settings}
use Rattle.finishing.proofs.Rows.{index-first, index-none, not-of, not-asked, is-of}

pub record Lone (w : World) (i : ℕ) (x : Live) : Type 0 where
  pub within : i < length w.rows
  pub here : row w.rows i ≡ Some x
  pub only : (k : ℕ) (y : Live) → row w.rows k ≡ Some y → y.serial ≡ x.serial → k ≡ i

-- another record of the same serial in its place
pub lone-still : (w : World) (i : ℕ) (x y : Live) (u : World) → Lone w i x → y.serial ≡ x.serial → Written w i (Some y) u → Lone u i y
lone-still w i x y u l e p = record {
  within = subst (λ n. i < n) (sym (ap length p.rows ∙ length-set w.rows i (Some y))) l.within;
  here = ap (λ q. row q i) p.rows ∙ get_or-set_same w.rows i (Some y) None l.within;
  only = λ k z h s. ⊎_elim (λ q. q)
      (λ ne. l.only k z (sym (ap (λ q. row q k) p.rows ∙ get_or-set_other w.rows i k (Some y) None ne) ∙ h) (s ∙ e))
      (cases_eq k i);
}

module _ (w : World) (i : ℕ) (x : Live) (l : Lone w i x) where
  pub found-row : (s : ℕ) (path : List ℕ) → x.serial ≡ s → x.path ≡ path → index_of (is_of s path) w.rows ≡ Some i
  found-row s path e p =
      index-first (is_of s path) w.rows i l.within (ap (is_of s path) l.here ∙ is-of s path x e p)
      (λ k h. not-of s path (row w.rows k) (λ y a b. let z : k ≡ i = l.only k y a (b ∙ sym e) in omega arith))

  pub asked-row : (s : ℕ) → x.serial ≡ s → is_away x.phase ≡ true → index_of (is_asked s) w.rows ≡ Some i
  asked-row s e a =
      index-first (is_asked s) w.rows i l.within
      (ap (is_asked s) l.here ∙ and_from (eqb x.serial s) (is_away x.phase) (eq-eqb x.serial s e) a)
      (λ k h. not-asked s (row w.rows k) (λ y b c. let z : k ≡ i = l.only k y b (c ∙ sym e) in omega arith))

  pub unasked-row : (s : ℕ) → x.serial ≡ s → is_away x.phase ≡ false → index_of (is_asked s) w.rows ≡ None
  unasked-row s e a =
      index-none (is_asked s) w.rows
      (λ k. ⊎_elim
      (λ q. ap (λ n. is_asked s (row w.rows n)) q ∙ ap (is_asked s) l.here ∙ and_right (eqb x.serial s) (is_away x.phase) a)
      (λ ne. not-asked s (row w.rows k) (λ y b c. ne (l.only k y b (c ∙ sym e))))
      (cases_eq k i))

  found-id : (sets : Settings) (id : SessionId) (path : List ℕ) → id.site ≡ sets.site → id.serial ≡ x.serial → path ≡ x.path → found sets w id path ≡ Some i
  found-id sets id path a b c =
      cond-true (eqb id.site sets.site) (index_of (is_of id.serial path) w.rows) None (eq-eqb id.site sets.site a)
      ∙ found-row id.serial path (sym b) (sym c)

  with-row : (f : ℕ → Live → Plan) (o : Option ℕ) → o ≡ Some i → with_row w o f ≡ f i x
  with-row f o e = ap (λ q. with_row w q f) e ∙ ap (λ q. with_live q i f) l.here

  pub plan-fragment : (sets : Settings) (q : Request) (id : SessionId) (r : Range) (at : ℕ) → sets.uploads ≡ true → q.action ≡ Fragment id r at
      → id.site ≡ sets.site → id.serial ≡ x.serial → q.path ≡ x.path → plan_of sets w q ≡ take_plan sets w r at q.content_length i x
  unfolding plan_of
  plan-fragment sets q id r at up act a b c =
      ap (λ z. cond (is_ping z) ping (cond sets.uploads (action_plan sets w q z) (refuse UploadsOff))) act
      ∙ cond-true sets.uploads (action_plan sets w q (Fragment id r at)) (refuse UploadsOff) up
      ∙ with-row (take_plan sets w r at q.content_length) (found sets w id q.path) (found-id sets id q.path a b c)

  pub plan-close : (sets : Settings) (q : Request) (id : SessionId) → sets.uploads ≡ true → q.action ≡ Close id
      → id.site ≡ sets.site → id.serial ≡ x.serial → q.path ≡ x.path → plan_of sets w q ≡ close_plan sets w i x
  unfolding plan_of
  plan-close sets q id up act a b c =
      ap (λ z. cond (is_ping z) ping (cond sets.uploads (action_plan sets w q z) (refuse UploadsOff))) act
      ∙ cond-true sets.uploads (action_plan sets w q (Close id)) (refuse UploadsOff) up
      ∙ with-row (close_plan sets w) (found sets w id q.path) (found-id sets id q.path a b c)

-- what a message of a known plan does, and its outcome
pub done-by : (sets : Settings) (w : World) (page : ℕ) (input : List ℕ) (u : World) (q : Request) (p : Plan)
    → 1024 ≤ page → packet_of input ≡ Ok q → plan_of sets w q ≡ p → MessageDone sets w page input u → Done sets w q p u
done-by sets w page input u q p h e d m =
    subst (λ z. Done sets w q z u) d (subst (λ z. ReadDone sets w z u) e (when_false (u ≡ w) (ReadDone sets w (packet_of input) u) (le-ltb page 1024 h) m))

pub outcome-by : (sets : Settings) (w : World) (page : ℕ) (input : List ℕ) (q : Request) (p : Plan)
    → 1024 ≤ page → packet_of input ≡ Ok q → plan_of sets w q ≡ p → message_outcome sets w page input ≡ outcome_of q p
outcome-by sets w page input q p h e d =
    cond-false (ltb page 1024) ShortPage (read_outcome sets w (packet_of input)) (le-ltb page 1024 h) ∙ ap (read_outcome sets w) e ∙ ap (outcome_of q) d

pub ruled-by : (w : World) (page serial : ℕ) (word : Word) (u : World) (o : Option ℕ)
    → 1024 ≤ page → index_of (is_asked serial) w.rows ≡ o → AnswerDone w page serial word u → AskedDone w o word u
ruled-by w page serial word u o h e m =
    subst (λ z. AskedDone w z word u) e (when_false (u ≡ w) (AskedDone w (index_of (is_asked serial) w.rows) word u) (le-ltb page 1024 h) m)

pub verdict-by : (w : World) (page serial : ℕ) (word : Word) (o : Option ℕ)
    → 1024 ≤ page → index_of (is_asked serial) w.rows ≡ o → answer_outcome w page serial word ≡ asked_outcome o word
verdict-by w page serial word o h e =
    cond-false (ltb page 1024) ShortPage (asked_outcome (index_of (is_asked serial) w.rows) word) (le-ltb page 1024 h) ∙ ap (λ z. asked_outcome z word) e
