-- The lists of calls that finish a session, and what they come to.
use Rattle.std.specs.Prelude.{◌≡◌, ℕ, ◌+◌, ◌-◌, ◌<◌, ◌≤◌, Bool, true, false, cond, ◌&&◌, List, [], ◌∷◌, ◌++◌, length, Some, None, Ok, Err, Option, Result, ◌==◌, nat_le, nat_lt, slice_index}
use Rattle.std.specs.Option.{option_or}
use Rattle.ids.specs.declared.SessionId.{SessionId}
use Rattle.outcome.specs.declared.Outcome.TheVariants.{Done}
use Rattle.packet.specs.Packets.{Request, packet_of}
use Rattle.packet.specs.declared.Fault.{Fault}
use Rattle.packet.specs.declared.judging.Action.{Action}
use Rattle.packet.specs.declared.judging.Action.TheVariants.{Create, Ping, Fragment, Close, Cancel}
use Rattle.packet.specs.declared.ranges.Range.{Range}
use Rattle.store.specs.Meaning.{Meaning}
use Rattle.session.specs.Sessions.{receiving, Live, World, row}
use Rattle.session.specs.Rules.{wrong_range, forbidden}
use Rattle.session.specs.Plans.{stands}
use Rattle.session.specs.Steps.{Word, yes, message_outcome, answer_outcome, is_address, Started}
use Rattle.session.specs.declared.records.Settings.{Settings}
use Rattle.finishing.specs.Runs.{Call, message, answer, tick, Stepped, Runs}

-- how many bytes a row's session holds, and the total that it was told
abbrev pub count_of : Option Live → ℕ
count_of None = 0
count_of (Some x) = x.received

abbrev pub total_of : Option Live → Option ℕ
total_of None = None
total_of (Some x) = x.total

-- without a total nothing is held yet, with one no more than that
abbrev pub Within : Option ℕ → ℕ → Type 0
Within None n = n ≡ 0
Within (Some t) n = n ≤ t

-- row i has the receiving session x, and no other row has its serial; its slot has the bytes that it counts
pub record Good (w : World) (i : ℕ) (x : Live) : Type 0 where
  pub within : i < length w.rows
  pub here : row w.rows i ≡ Some x
  pub only : (k : ℕ) (y : Live) → row w.rows k ≡ Some y → y.serial ≡ x.serial → k ≡ i
  pub receives : x.phase ≡ receiving
  pub kept : length (w.store.held i) ≡ x.received
  pub bounded : Within x.total x.received

-- A message that is read as a fragment of session x, in row i of the world before it: every announced byte came, the range is
-- right and of t bytes in all, at most 32,768 bytes are sent, and they begin at or below the count then held.
pub record Fits (sets : Settings) (w : World) (i : ℕ) (x : Live) (t page : ℕ) (input : List ℕ) : Type 0 where
  pub wide : 1024 ≤ page
  pub request : Request
  pub read : packet_of input ≡ Ok request
  pub id : SessionId
  pub range : Range
  pub at : ℕ
  pub action : request.action ≡ Fragment id range at
  pub site : id.site ≡ sets.site
  pub serial : id.serial ≡ x.serial
  pub path : request.path ≡ x.path
  pub whole : length request.body ≡ request.content_length
  pub right : wrong_range (total_of (row w.rows i)) range request.content_length ≡ false
  pub small : request.content_length ≤ 32768
  pub reach : range.first ≤ count_of (row w.rows i)
  pub all : range.total ≡ t

-- a message that is read as a close of session x
pub record Asks (sets : Settings) (x : Live) (page : ℕ) (input : List ℕ) : Type 0 where
  pub wide : 1024 ≤ page
  pub request : Request
  pub read : packet_of input ≡ Ok request
  pub id : SessionId
  pub action : request.action ≡ Close id
  pub site : id.site ≡ sets.site
  pub serial : id.serial ≡ x.serial
  pub path : request.path ≡ x.path

-- such a message where the destination is free or overwriting is on, and the slot can be published
pub record Closes (sets : Settings) (w : World) (i : ℕ) (x : Live) (page : ℕ) (input : List ℕ) : Type 0 where
  pub asks : Asks sets x page input
  pub free : forbidden sets (stands w x.path) ≡ false
  pub can : w.store.publishable i x.path ≡ true

-- Fragments of session x, and answers for it between them, run from one world to another. The two tests: whether the
-- last fragment so far ended at the total, and whether a yes was taken so far. In the end the first is met, so that there
-- was a fragment, and where the approver is told the second too.
pub data Sends (sets : Settings) (i : ℕ) (x : Live) (t : ℕ) : World → Bool → Bool → List Call → World → Type 0 where
  done : {w : World} {agreed : Bool} → (sets.approver ≡ true → agreed ≡ true) → Sends sets i x t w true agreed [] w
  fragment : {w u z : World} {ended agreed : Bool} {page : ℕ} {input : List ℕ} {cs : List Call}
      → (f : Fits sets w i x t page input)
      → Stepped sets w (message page input) u
      → Sends sets i x t u (f.range.last + 1 == t) agreed cs z
      → Sends sets i x t w ended agreed (message page input ∷ cs) z
  verdict : {w u z : World} {ended agreed : Bool} {page : ℕ} {word : Word} {cs : List Call}
      → 1024 ≤ page
      → Stepped sets w (answer page x.serial word) u
      → Sends sets i x t u ended agreed cs z
      → Sends sets i x t w ended agreed (answer page x.serial word ∷ cs) z
  approved : {w u z : World} {ended agreed : Bool} {page : ℕ} {address : List ℕ} {cs : List Call}
      → 1024 ≤ page
      → answer_outcome w page x.serial (yes address) ≡ Done
      → Stepped sets w (answer page x.serial (yes address)) u
      → Sends sets i x t u ended true cs z
      → Sends sets i x t w ended agreed (answer page x.serial (yes address) ∷ cs) z

-- a finishing list of session x run from world w: its fragments, of t bytes in all, lead to z, and a close from there to v
pub record Finishing (sets : Settings) (w : World) (i : ℕ) (x : Live) (t : ℕ) (cs : List Call) (z : World) (page : ℕ) (input : List ℕ) (v : World) : Type 0 where
  pub limit : t ≤ sets.maximum
  pub room : t - x.received ≤ w.store.room i
  pub sends : Sends sets i x t w false false cs z
  pub closes : Closes sets z i x page input
  pub closed : Stepped sets z (message page input) v

-- the byte that a request carries to place p, if it is a fragment that reaches it
abbrev pub carried_to : Action → List ℕ → ℕ → Option ℕ
carried_to (Create shared) body p = None
carried_to Ping body p = None
carried_to (Fragment id r at) body p = cond (nat_le r.first p && nat_lt p (r.first + length body)) (Some (slice_index body (p - r.first))) None
carried_to (Close id) body p = None
carried_to (Cancel id) body p = None

abbrev pub carried_by : Result Request Fault → ℕ → Option ℕ
carried_by (Ok q) p = carried_to q.action q.body p
carried_by (Err e) p = None

-- the first byte that the calls carry to place p
abbrev pub first_carried : List Call → ℕ → Option ℕ
first_carried [] p = None
first_carried (message page input ∷ cs) p = option_or (carried_by (packet_of input) p) (first_carried cs p)
first_carried (answer page serial word ∷ cs) p = first_carried cs p
first_carried (tick reading ∷ cs) p = first_carried cs p

-- The close is taken, and under the path stand t bytes: those kept at the start, then at each place the first byte carried to it.
pub record Finished (sets : Settings) (w : World) (i : ℕ) (x : Live) (t : ℕ) (cs : List Call) (z : World) (page : ℕ) (input : List ℕ) (v : World) : Type 0 where
  pub number : message_outcome sets z page input ≡ Done
  pub bytes : List ℕ
  pub stored : v.store.catalog x.path ≡ Some bytes
  pub size : length bytes ≡ t
  pub begins : (p : ℕ) → p < x.received → slice_index bytes p ≡ slice_index (w.store.held i) p
  pub follows : (p : ℕ) → x.received ≤ p → p < t → first_carried cs p ≡ Some (slice_index bytes p)

-- every receiving session can be finished, by every finishing list, under these settings
abbrev pub FinishableUnder : Settings → Type 0
FinishableUnder sets = (w : World) (i : ℕ) (x : Live) (t : ℕ) (cs : List Call) (z : World) (page : ℕ) (input : List ℕ) (v : World)
    → Good w i x → Finishing sets w i x t cs z page input v → Finished sets w i x t cs z page input v

-- where uploads are on: where they are off, no session is ever opened
abbrev pub Finishable : Type 0
Finishable = (sets : Settings) → sets.uploads ≡ true → FinishableUnder sets

-- what is kept in every world that an intake reaches makes each receiving session's row such a one
abbrev pub GoodSince : Type 0
GoodSince = (w : World) (i : ℕ) (x : Live) → row w.rows i ≡ Some x → x.phase ≡ receiving
    → ((j k : ℕ) (y z : Live) → row w.rows j ≡ Some y → row w.rows k ≡ Some z → y.serial ≡ z.serial → j ≡ k)
    → x.received ≡ length (w.store.held i)
    → ((t : ℕ) → x.total ≡ Some t → x.received ≤ t) → (x.total ≡ None → x.received ≡ 0)
    → Good w i x

-- where a new intake came to a session, uploads are on
abbrev pub UploadsOn : Type 0
UploadsOn = (sets : Settings) (m : Meaning) (u w : World) (cs : List Call) (i : ℕ) (x : Live)
    → Started sets m u → Runs sets u cs w → row w.rows i ≡ Some x → sets.uploads ≡ true

-- a finishing list is a run of calls
abbrev pub AreRuns : Type 0
AreRuns = (sets : Settings) (w : World) (i : ℕ) (x : Live) (t : ℕ) (cs : List Call) (z : World) (page : ℕ) (input : List ℕ) (v : World)
    → Finishing sets w i x t cs z page input v → Runs sets w (cs ++ message page input ∷ []) v

-- There are finishing lists: where room and maximum allow, one whole fragment to the end and a close are one if the approver is not told.
abbrev pub OneFragment : Type 0
OneFragment = (sets : Settings) (w : World) (i : ℕ) (x : Live) (t page : ℕ) (input : List ℕ) (z : World) (page2 : ℕ) (input2 : List ℕ) (v : World)
    → sets.approver ≡ false → t ≤ sets.maximum → t - x.received ≤ w.store.room i
    → (f : Fits sets w i x t page input) → f.range.last + 1 ≡ t → Stepped sets w (message page input) z
    → Closes sets z i x page2 input2 → Stepped sets z (message page2 input2) v
    → Finishing sets w i x t (message page input ∷ []) z page2 input2 v

-- If the approver is told, they are one with a yes between, whatever its reply address of 0 to 256 visible characters.
abbrev pub OneFragmentApproved : Type 0
OneFragmentApproved = (sets : Settings) (w : World) (i : ℕ) (x : Live) (t page : ℕ) (input : List ℕ) (u : World) (page1 : ℕ) (address : List ℕ) (z : World) (page2 : ℕ) (input2 : List ℕ) (v : World)
    → sets.uploads ≡ true → Good w i x → sets.approver ≡ true → t ≤ sets.maximum → t - x.received ≤ w.store.room i
    → (f : Fits sets w i x t page input) → f.range.last + 1 ≡ t → Stepped sets w (message page input) u
    → 1024 ≤ page1 → is_address address ≡ true → Stepped sets u (answer page1 x.serial (yes address)) z
    → Closes sets z i x page2 input2 → Stepped sets z (message page2 input2) v
    → Finishing sets w i x t (message page input ∷ answer page1 x.serial (yes address) ∷ []) z page2 input2 v

-- And they can be run: from every world with a receiving session and a free destination, a fragment that fits and reaches the
-- end, with a yes where the approver is told, and a close, lead through some worlds as a finishing list.
pub record Ran (sets : Settings) (w : World) (i : ℕ) (x : Live) (t : ℕ) (cs : List Call) (page : ℕ) (input : List ℕ) : Type 0 where
  pub before : World
  pub final : World
  pub list : Finishing sets w i x t cs before page input final

abbrev pub shortest : Settings → ℕ → List ℕ → ℕ → ℕ → List ℕ → List Call
shortest sets page input page1 serial address =
    cond sets.approver (message page input ∷ answer page1 serial (yes address) ∷ []) (message page input ∷ [])

abbrev pub CanRun : Type 0
CanRun = (sets : Settings) (w : World) (i : ℕ) (x : Live) (t page : ℕ) (input : List ℕ) (page1 : ℕ) (address : List ℕ) (page2 : ℕ) (input2 : List ℕ)
    → sets.uploads ≡ true → Good w i x → t ≤ sets.maximum → t - x.received ≤ w.store.room i
    → (f : Fits sets w i x t page input) → f.range.last + 1 ≡ t → 1024 ≤ page1 → is_address address ≡ true
    → Asks sets x page2 input2 → forbidden sets (stands w x.path) ≡ false
    → Ran sets w i x t (shortest sets page input page1 x.serial address) page2 input2
