-- One call: the worlds before and after it.
use Rattle.std.specs.Prelude.{◌≡◌, ℕ, ◌+◌, ◌<◌, max, Bool, true, false, cond, ◌&&◌, List, [], ◌∷◌, map, length, replicate, Some, None, Ok, Err, MatchBool, Option, Result, nat_le, nat_lt, slice_set}
use Rattle.head.specs.declared.Fault.TheVariants.{Unfinished, Malformed, Repeated}
use Rattle.outcome.specs.declared.Outcome.{Outcome}
use Rattle.outcome.specs.declared.Outcome.TheVariants.{Done as Finished, ShortPage, UnfinishedHead, BadHead, RepeatedField, BadPacket, NoSession, Rejected, BadReplyAddress}
use Rattle.packet.specs.Packets.{Request, packet_of}
use Rattle.packet.specs.declared.Fault.{Fault}
use Rattle.packet.specs.declared.Fault.TheVariants.{Text, Field}
use Rattle.reply.specs.Visible.{are_visible, most}
use Rattle.packet.specs.declared.ranges.Range.{Range}
use Rattle.store.specs.Meaning.{Meaning, Added, Cleared, Published}
use Rattle.session.specs.Sessions.{Phase, receiving, ready, Live, World, row, index_of}
use Rattle.session.specs.Rules.{is_asked, is_expired, grown, opened, ruled}
use Rattle.session.specs.Plans.{Plan, refuse, ping, create, take, close, cancel, plan_of, outcome_of, is_whole, fresh}
use Rattle.session.specs.declared.records.Settings.{Settings}

-- row i holds r now; the other rows, the next serial and the clock are as they were
pub record Written (w : World) (i : ℕ) (r : Option Live) (v : World) : Type 0 where
  pub rows : v.rows ≡ slice_set w.rows i r
  pub next : v.next ≡ w.next
  pub clock : v.clock ≡ w.clock

pub record Opened (w : World) (path : List ℕ) (i : ℕ) (v : World) : Type 0 where
  pub rows : v.rows ≡ slice_set w.rows i (Some (opened w.clock w.next path))
  pub next : v.next ≡ w.next + 1
  pub clock : v.clock ≡ w.clock
  pub cleared : Cleared w.store i v.store

pub record Took (sets : Settings) (w : World) (q : Request) (i : ℕ) (x : Live) (r : Range) (v : World) : Type 0 where
  pub written : Written w i (Some (grown sets w.clock x r (length q.body) (is_whole q))) v
  pub added : Added w.store i (fresh x r q.body) v.store

pub record Closed (w : World) (i : ℕ) (x : Live) (v : World) : Type 0 where
  pub written : Written w i None v
  pub published : Published w.store i x.path v.store

pub record Cancelled (w : World) (i : ℕ) (v : World) : Type 0 where
  pub written : Written w i None v
  pub cleared : Cleared w.store i v.store

-- what a request does to the world by its plan
abbrev pub Done : Settings → World → Request → Plan → World → Type 0
Done sets w q (refuse o) v = v ≡ w
Done sets w q ping v = v ≡ w
Done sets w q (create i) v = Opened w q.path i v
Done sets w q (take i x r) v = Took sets w q i x r v
Done sets w q (close i x) v = Closed w i x v
Done sets w q (cancel i x) v = Cancelled w i v

-- a message: what it comes to, how many bytes of the input it uses, and the world after it
abbrev pub fault_outcome : Fault → Outcome
fault_outcome (Text Unfinished) = UnfinishedHead
fault_outcome (Text (Malformed at)) = BadHead at
fault_outcome (Text (Repeated at)) = RepeatedField at
fault_outcome (Field at) = BadPacket at

abbrev pub read_outcome : Settings → World → Result Request Fault → Outcome
read_outcome sets w (Ok q) = outcome_of q (plan_of sets w q)
read_outcome sets w (Err e) = fault_outcome e

abbrev pub message_outcome : Settings → World → ℕ → List ℕ → Outcome
message_outcome sets w page input = cond (nat_lt page 1024) ShortPage (read_outcome sets w (packet_of input))

-- the head and the body bytes that came; all of an input that could not be read; nothing with a short page
abbrev pub read_used : List ℕ → Result Request Fault → ℕ
read_used input (Ok q) = q.head_size + length q.body
read_used input (Err e) = length input

abbrev pub message_used : ℕ → List ℕ → ℕ
message_used page input = cond (nat_lt page 1024) 0 (read_used input (packet_of input))

abbrev pub ReadDone : Settings → World → Result Request Fault → World → Type 0
ReadDone sets w (Ok q) v = Done sets w q (plan_of sets w q) v
ReadDone sets w (Err e) v = v ≡ w

abbrev pub MessageDone : Settings → World → ℕ → List ℕ → World → Type 0
MessageDone sets w page input v = MatchBool (nat_lt page 1024) (v ≡ w) (ReadDone sets w (packet_of input) v)

-- the approver's verdict: yes with a reply address, or no with a code
pub data Word : Type 0 where
  yes : List ℕ → Word
  no : ℕ → Word

abbrev pub is_address : List ℕ → Bool
is_address a = nat_le (length a) most && are_visible a

abbrev pub word_outcome : Word → Outcome
word_outcome (yes a) = cond (is_address a) Finished BadReplyAddress
word_outcome (no code) = Rejected code

-- a session that is refused receives again
abbrev pub word_phase : Word → Phase
word_phase (yes a) = cond (is_address a) (ready a) receiving
word_phase (no code) = receiving

abbrev pub asked_outcome : Option ℕ → Word → Outcome
asked_outcome None word = NoSession
asked_outcome (Some i) word = word_outcome word

-- an answer: matched by its serial to a session at the approver
abbrev pub answer_outcome : World → ℕ → ℕ → Word → Outcome
answer_outcome w page serial word = cond (nat_lt page 1024) ShortPage (asked_outcome (index_of (is_asked serial) w.rows) word)

pub record Ruled (w : World) (i : ℕ) (word : Word) (v : World) : Type 0 where
  pub session : Live
  pub there : row w.rows i ≡ Some session
  pub written : Written w i (Some (ruled (word_phase word) session)) v
  pub same : v.store ≡ w.store

abbrev pub AskedDone : World → Option ℕ → Word → World → Type 0
AskedDone w None word v = v ≡ w
AskedDone w (Some i) word v = Ruled w i word v

abbrev pub AnswerDone : World → ℕ → ℕ → Word → World → Type 0
AnswerDone w page serial word v = MatchBool (nat_lt page 1024) (v ≡ w) (AskedDone w (index_of (is_asked serial) w.rows) word v)

-- a row after the clock has moved on
abbrev pub swept : ℕ → Option Live → Option Live
swept clock r = cond (is_expired clock r) None r

abbrev pub count_expired : ℕ → List (Option Live) → ℕ
count_expired clock [] = 0
count_expired clock (r ∷ rs) = cond (is_expired clock r) 1 0 + count_expired clock rs

-- a tick moves the clock to the larger reading and ends the sessions whose last message is 14 days old; their slots are cleared
pub record Ticked (w : World) (reading : ℕ) (ended : ℕ) (v : World) : Type 0 where
  pub clock : v.clock ≡ max w.clock reading
  pub rows : v.rows ≡ map (swept (max w.clock reading)) w.rows
  pub next : v.next ≡ w.next
  pub count : ended ≡ count_expired (max w.clock reading) w.rows
  pub emptied : (i : ℕ) → is_expired (max w.clock reading) (row w.rows i) ≡ true → v.store.held i ≡ []
  pub others : (i : ℕ) → is_expired (max w.clock reading) (row w.rows i) ≡ false → v.store.held i ≡ w.store.held i
  pub names : (n : List ℕ) → v.store.catalog n ≡ w.store.catalog n

-- a new intake: no session, every slot cleared, the clock at 0
pub record Started (sets : Settings) (m : Meaning) (w : World) : Type 0 where
  pub rows : w.rows ≡ replicate 16 None
  pub next : w.next ≡ sets.first_serial
  pub clock : w.clock ≡ 0
  pub emptied : (i : ℕ) → i < 16 → w.store.held i ≡ []
  pub names : (n : List ℕ) → w.store.catalog n ≡ m.catalog n

-- the calls of an intake: a message has the length of its acknowledgement page and the input; an answer its page's length, the
-- serial asked about and the verdict; a tick the clock's reading
pub data Call : Type 0 where
  message : ℕ → List ℕ → Call
  answer : ℕ → ℕ → Word → Call
  tick : ℕ → Call
