-- A connection that is being served.
use Rattle.std.proofs.Common.{◌≡◌, ℕ, zero, suc, ◌+◌, ◌-◌, ◌<◌, ◌≤◌, cond, ◌⊎◌, List, [], ◌++◌, map, length, take, drop, Ok, Err, Result, sym, refl, ap, ◌∙◌, subst, inl, inr, append_assoc, append-nil, arith, le-ltb}
use borrow.Rule.Slice.PartMut.{mid_of, post_of, put_mid}
use Rattle.std.proofs.lemmas.List.{drop_all, drop_at, drop-drop, length-append, length-drop, take_at, take_rest}
use Rattle.packet.specs.Packets.{Request, packet_of}
use Rattle.packet.specs.declared.Fault.{Fault}
use Rattle.packet.proofs.Wholes.{exact}
use Rattle.store.specs.Meaning.{Meaning, Change}
use Rattle.ack.specs.Text.{ack_bytes}
use Rattle.session.specs.Sessions.{row_of}
use Rattle.session.specs.Steps.{MessageDone, message_used, read_used}
use Rattle.session.specs.Told.{message_ack, message_changes, newly_away}
use Rattle.intake_core.specs.Worlds.{Changed, world_of}
use Rattle.intake_core.specs.declared.intake.Intake.{Intake}
use Rattle.connection.specs.Serving.{Stop, Turn, Turns, Served}

-- a head has four bytes at least
read-uses : (input : List ℕ) (r : Result Request Fault) → packet_of input ≡ r → 0 < length input → 0 < read_used input r
read-uses input (Ok q) is h =
    let f = (exact input).sound q is in
    omega (arith, f.size_is, f.formed.parts.sized)
read-uses input (Err e) is h = h

-- a message with a whole page uses at least a byte
pub uses : (room : ℕ) (input : List ℕ) → 0 < length input → 1024 ≤ room → 0 < message_used room input
uses room input some page =
    subst (λ b. 0 < cond b 0 (read_used input (packet_of input))) (sym (le-ltb room 1024 page)) (read-uses input (packet_of input) refl some)

-- a page behind what was told, with an acknowledgement at its front, and put back
laid : (out told ack page : List ℕ) (put : ℕ) → put ≡ length told
    → page ≡ ack ++ drop (length ack) (mid_of put (length (told ++ drop (length told) out) - put) (told ++ drop (length told) out))
    → put_mid put (length (told ++ drop (length told) out) - put) (told ++ drop (length told) out) page ≡ (told ++ ack) ++ drop (length (told ++ ack)) out
laid out told ack page put here is =
    let left = drop (length told) out in
    let cur = told ++ left in
    let front : take put cur ≡ told = take_at told left put (sym here) in
    let back : drop put cur ≡ left = drop_at told left put (sym here) in
    let lent : mid_of put (length cur - put) cur ≡ left = take_rest cur put ∙ back in
    let none : post_of put (length cur - put) cur ≡ [] = drop_all (length cur - put) (drop put cur) (omega (arith, length-drop put cur)) in
    let past : drop (length ack) left ≡ drop (length (told ++ ack)) out = drop-drop (length ack) (length told) out ∙ ap (λ n. drop n out) (sym (length-append told ack)) in
    (λ i. front i ++ (page ++ none i))
    ∙ ap (λ l. told ++ l) (append-nil page ∙ is ∙ ap (λ l. ack ++ drop (length ack) l) lent ∙ ap (λ l. ack ++ l) past)
    ∙ sym (append_assoc told ack (drop (length (told ++ ack)) out))

-- messages used `used` bytes, handed out these notices, and their acknowledgements are the first `put` bytes of `after`
pub record Gone {S : Type 0} (meaning : S → Meaning) (made : S → Change → S → Type 0) (input out : List ℕ) (k : Intake S) (used put : ℕ) (serials after : List ℕ) (l : Intake S) : Type 0 where
  pub count : ℕ
  pub told : List ℕ
  pub turns : Turns meaning made (length out) input count k used told serials l
  pub put_is : put ≡ length told
  pub bytes : after ≡ told ++ drop (length told) out
  pub settings : l.settings ≡ k.settings
  pub within : used ≤ length input
  pub fits : put ≤ length out

began : {S : Type 0} (meaning : S → Meaning) (made : S → Change → S → Type 0) (input out : List ℕ) (k : Intake S) (n used : ℕ) (told serials : List ℕ) (l : Intake S)
    → Turns meaning made (length out) input n k used told serials l → ((told ≡ []) × (serials ≡ []) × (used ≡ 0)) ⊎ (0 < used)
began meaning made input out k zero used told serials l (a, b, c, d) = inl (b, c, a)
began meaning made input out k (suc n) used told serials l (at, before, m, so, last) =
    let t = last.turn in
    inr (omega (arith, last.used_is, t.used_is, uses _ _ t.more t.page))

module _ {S : Type 0} {meaning : S → Meaning} {made : S → Change → S → Type 0} {input out : List ℕ} {k : Intake S} where
  -- one message more
  pub step : {used put : ℕ} {cur : List ℕ} {l m : Intake S} {own size : ℕ} {ack serials page : List ℕ}
      → Gone meaning made input out k used put [] cur l
      → Turn meaning made (length (mid_of put (length cur - put) cur)) (mid_of used (length input - used) input) l own ack serials m
      → own ≤ length (mid_of used (length input - used) input)
      → size ≡ length ack
      → page ≡ ack ++ drop (length ack) (mid_of put (length cur - put) cur)
      → length page ≡ length (mid_of put (length cur - put) cur)
      → Gone meaning made input out k (used + own) (put + size) serials (put_mid put (length cur - put) cur page) m
  step {used} {put} {cur} {l} {m} {own} {size} {ack} {serials} {page} so turn own_in sized page-is kept =
      let told = so.told in
      let whole : length cur ≡ length out = ap length so.bytes ∙ length-append told (drop (length told) out) ∙ ap (λ n. length told + n) (length-drop (length told) out) ∙ (let f = so.fits in let e = so.put_is in omega arith) in
      let room : length (mid_of put (length cur - put) cur) ≡ length out - length told = ap length (take_rest cur put) ∙ length-drop put cur ∙ (λ i. whole i - so.put_is i) in
      let rest : mid_of used (length input - used) input ≡ drop used input = take_rest input used in
      let long : length ack ≤ length out - length told = omega (arith, room, kept, ap length page-is, length-append ack (drop (length ack) (mid_of put (length cur - put) cur))) in
      let turned : Turn meaning made (length out - length told) (drop used input) l own ack serials m = subst (λ n. Turn meaning made n (drop used input) l own ack serials m) room (subst (λ s. Turn meaning made (length (mid_of put (length cur - put) cur)) s l own ack serials m) rest turn) in
      record {
        count = suc so.count;
        told = told ++ ack;
        turns = (used, told, l, so.turns, record { own = own; ack = ack; turn = turned; used_is = refl; told_is = refl });
        put_is = (λ i. so.put_is i + sized i) ∙ sym (length-append told ack);
        bytes = (λ i. put_mid put (length (so.bytes i) - put) (so.bytes i) page) ∙ laid out told ack page put so.put_is (page-is ∙ (λ i. ack ++ drop (length ack) (mid_of put (length (so.bytes i) - put) (so.bytes i))));
        settings = turn.settings ∙ so.settings;
        within = omega (arith, so.within, own_in, ap length rest, length-drop used input);
        fits = omega (arith, so.fits, so.put_is, sized, long);
      }

  -- the same, in the words of a message's contract
  pub next : {used put : ℕ} {cur : List ℕ} {l : Intake S} {own size : ℕ} {serials page : List ℕ} (m : Intake S)
      → Gone meaning made input out k used put [] cur l
      → used < length input
      → 1024 ≤ length cur - put
      → MessageDone l.settings (world_of meaning l) (length (mid_of put (length cur - put) cur)) (mid_of used (length input - used) input) (world_of meaning m)
      → Changed made l.store (message_changes l.settings (world_of meaning l) (length (mid_of put (length cur - put) cur)) (mid_of used (length input - used) input)) m.store
      → m.settings ≡ l.settings
      → own ≡ message_used (length (mid_of put (length cur - put) cur)) (mid_of used (length input - used) input)
      → own ≤ length (mid_of used (length input - used) input)
      → serials ≡ newly_away (map row_of l.rows) (map row_of m.rows)
      → size ≡ length (ack_bytes (message_ack l.settings (world_of meaning l) (length (mid_of put (length cur - put) cur)) (mid_of used (length input - used) input) (world_of meaning m)))
      → page ≡ ack_bytes (message_ack l.settings (world_of meaning l) (length (mid_of put (length cur - put) cur)) (mid_of used (length input - used) input) (world_of meaning m))
      ++ drop (length (ack_bytes (message_ack l.settings (world_of meaning l) (length (mid_of put (length cur - put) cur)) (mid_of used (length input - used) input) (world_of meaning m)))) (mid_of put (length cur - put) cur)
      → length page ≡ length (mid_of put (length cur - put) cur)
      → Gone meaning made input out k (used + own) (put + size) serials (put_mid put (length cur - put) cur page) m × (0 < own)
  next {used} {put} {cur} m so left long done account kept own_is own_in notices size_is page-is same =
      let some : 0 < length (mid_of used (length input - used) input) = omega (arith, left, ap length (take_rest input used), length-drop used input) in
      let room : 1024 ≤ length (mid_of put (length cur - put) cur) = omega (arith, long, ap length (take_rest cur put), length-drop put cur) in (
        step so (record { more = some; page = room; done = done; account = account; settings = kept; used_is = own_is; told_is = refl; notices = notices }) own_in size_is page-is same,
        omega (arith, own_is, uses _ _ some room),
      )

  module _ {used put : ℕ} {serials after : List ℕ} {l : Intake S} (so : Gone meaning made input out k used put serials after l) (why : Stop (length input) (length out) used put serials) where
    pub served : Served meaning made input out k used put serials after l
    served = record { count = so.count; told = so.told; turns = so.turns; stops = why; put_is = so.put_is; bytes = so.bytes; settings = so.settings }

    pub progressed : 0 < length input → 1024 ≤ length out → 0 < used
    progressed some page = from (began meaning made input out k so.count used so.told serials l so.turns) why
      where
        from : ((so.told ≡ []) × (serials ≡ []) × (used ≡ 0)) ⊎ (0 < used) → Stop (length input) (length out) used put serials → 0 < used
        from (inr h) stop = h
        from (inl (none, quiet, unused)) (inl all) = absurd (omega (arith, all, unused))
        from (inl (none, quiet, unused)) (inr (inl notice)) = absurd (omega (arith, notice, ap length quiet))
        from (inl (none, quiet, unused)) (inr (inr short)) = absurd (omega (arith, short, so.put_is, ap length none))
