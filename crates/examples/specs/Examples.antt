-- Worked examples: what the definitions come to at numbers that can be followed by hand.
use Rattle.std.specs.Prelude.{◌≡◌, ℕ, ◌+◌, ◌*◌, true, false, List, [], ◌∷◌, ◌++◌, length, replicate, Some, None, Ok, Err, vec_len, codes, Option}
use Rattle.ids.specs.Ids.{id_of, id_text}
use Rattle.ids.specs.declared.SessionId.{SessionId}
use Rattle.outcome.specs.declared.Outcome.TheVariants.{Done, WrongRange, Gap, StoreFull, CutBody}
use Rattle.packet.specs.Packets.{Request}
use Rattle.packet.specs.declared.judging.Action.TheVariants.{Fragment}
use Rattle.packet.specs.declared.ranges.Range.{Range}
use Rattle.page_store.specs.Store.{meaning_of, owned}
use Rattle.page_store.specs.declared.state.PageStore.{PageStore}
use Rattle.session.specs.Plans.{changes_of, fresh, outcome_of, plan_of}
use Rattle.session.specs.Rules.{after_fragment, fragment_fault, grown, is_expired, wrong_range}
use Rattle.session.specs.Sessions.{receiving, Live, World}
use Rattle.session.specs.Steps.{swept}
use Rattle.session.specs.declared.records.Settings.{Settings}
use Rattle.store.specs.Meaning.{Meaning}
use Rattle.store.specs.Meaning.Change.{adding}
use Rattle.volume.specs.Bundles.{Bundle, Volume, bytes_of}

-- an intake of site 1 without an approver
abbrev pub settings : Settings
settings = record { site = 1; first_serial = 1; maximum = 1000000; uploads = true; overwriting = false; approver = false }

abbrev pub first : SessionId
first = record { site = 1; serial = 1 }

-- a receiving session with so many bytes of a total, whose last message came at the stamp
abbrev pub session : ℕ → Option ℕ → ℕ → Live
session count total stamp = record { serial = 1; path = codes "/a"; received = count; total = total; phase = receiving; stamp = stamp }

abbrev pub range : ℕ → ℕ → ℕ → Range
range a b t = record { first = a; last = b; total = t }

-- a store with nothing published, whose slots hold so many bytes and have so much room
abbrev pub holding : ℕ → ℕ → Meaning
holding count room = record { held = λ i. replicate count 7; room = λ i. room; catalog = λ n. None; publishable = λ i n. true }

-- an intake with that session in its first row, and room for so many bytes, at clock 70
abbrev pub world : Live → ℕ → World
world x room = record { rows = Some x ∷ replicate 15 None; next = 2; clock = 70; store = holding x.received room }

-- a fragment for the first session, its range in the line at 40: so many bytes announced, and those that came
abbrev pub fragment : Range → ℕ → List ℕ → Request
fragment r n body = record { path = codes "/a"; action = Fragment first r 40; head_size = 200; content_length = n; body = body }

-- 50 bytes that are kept already, and 50 that are not
abbrev pub halves : List ℕ
halves = replicate 50 7 ++ replicate 50 9

abbrev pub sheet : Bundle
sheet = record { entity = 0x41 ∷ []; name = codes "/a" }

-- 0x41, "/a", distance 3, name length 2, two zeros, the mark
abbrev pub nineteen : List ℕ
nineteen = 0x41 ∷ 0x2F ∷ 0x61 ∷ 0 ∷ 0 ∷ 0 ∷ 0 ∷ 0 ∷ 0 ∷ 0 ∷ 3 ∷ 0 ∷ 2 ∷ 0 ∷ 0 ∷ 0x48 ∷ 0x41 ∷ 0x4C ∷ 0x4C ∷ []

pub record Examples : Type 0 where
  -- 100 bytes of 200 are kept and 50-149/200 comes whole: it is taken, 150 are kept, and the last 50 of its 100 bytes are new
  pub overlap-taken : fragment_fault settings (session 100 (Some 200) 5) (range 50 149 200) 40 100 100 ≡ None
  pub overlap-grown : grown settings 70 (session 100 (Some 200) 5) (range 50 149 200) 100 true ≡ session 150 (Some 200) 70
  pub overlap-after : after_fragment settings 70 (session 100 (Some 200) 5) (range 50 149 200) 40 100 100 100 ≡ Ok (session 150 (Some 200) 70)
  pub overlap-fresh : fresh (session 100 (Some 200) 5) (range 50 149 200) halves ≡ replicate 50 9
  pub overlap-new : length (fresh (session 100 (Some 200) 5) (range 50 149 200) (replicate 100 7)) ≡ 50
  -- the same as a call: room for 50 bytes is enough, room for 49 is not
  pub overlap-call : outcome_of (fragment (range 50 149 200) 100 halves) (plan_of settings (world (session 100 (Some 200) 5) 50) (fragment (range 50 149 200) 100 halves)) ≡ Done
  pub overlap-changes : changes_of (fragment (range 50 149 200) 100 halves) (plan_of settings (world (session 100 (Some 200) 5) 50) (fragment (range 50 149 200) 100 halves)) ≡ adding 0 (replicate 50 9) ∷ []
  pub overlap-full : fragment_fault settings (session 100 (Some 200) 5) (range 50 149 200) 40 100 49 ≡ Some StoreFull
  -- with 100 bytes kept, 101-150/200 leaves a gap, and 100-149/200 does not
  pub gap-fault : fragment_fault settings (session 100 (Some 200) 5) (range 101 150 200) 40 50 100 ≡ Some Gap
  pub gap-after : after_fragment settings 70 (session 100 (Some 200) 5) (range 101 150 200) 40 50 50 100 ≡ Err Gap
  pub gap-call : outcome_of (fragment (range 101 150 200) 50 (replicate 50 9)) (plan_of settings (world (session 100 (Some 200) 5) 100) (fragment (range 101 150 200) 50 (replicate 50 9))) ≡ Gap
  pub gap-none : fragment_fault settings (session 100 (Some 200) 5) (range 100 149 200) 40 50 100 ≡ None
  -- nothing is kept and 0-9/10 comes with 4 of its 10 bytes: the body is cut, 4 are kept, the stamp stays
  pub cut-call : outcome_of (fragment (range 0 9 10) 10 (replicate 4 7)) (plan_of settings (world (session 0 None 5) 100) (fragment (range 0 9 10) 10 (replicate 4 7))) ≡ CutBody
  pub cut-changes : changes_of (fragment (range 0 9 10) 10 (replicate 4 7)) (plan_of settings (world (session 0 None 5) 100) (fragment (range 0 9 10) 10 (replicate 4 7))) ≡ adding 0 (replicate 4 7) ∷ []
  pub cut-grown : grown settings 70 (session 0 None 5) (range 0 9 10) 4 false ≡ session 4 (Some 10) 5
  pub cut-after : after_fragment settings 70 (session 0 None 5) (range 0 9 10) 40 10 4 100 ≡ Ok (session 4 (Some 10) 5)
  -- 0-9/9 is a wrong range, told by the offset of its line
  pub wrong-range : wrong_range None (range 0 9 9) 10 ≡ true
  pub wrong-fault : fragment_fault settings (session 0 None 5) (range 0 9 9) 40 10 100 ≡ Some (WrongRange 40)
  pub wrong-call : outcome_of (fragment (range 0 9 9) 10 (replicate 10 7)) (plan_of settings (world (session 0 None 5) 100) (fragment (range 0 9 9) 10 (replicate 10 7))) ≡ WrongRange 40
  -- the id of site 1, serial 1, written and read
  pub id-text : id_text first ≡ codes "{00000000-0000-0001-0000-000000000001}"
  pub id-read : id_of (codes "{00000000-0000-0001-0000-000000000001}") ≡ Some first
  -- 19 bytes that are a volume of one bundle, and of nothing else
  pub volume-bytes : bytes_of sheet ≡ nineteen
  pub volume-length : length nineteen ≡ 19
  pub volume-one : Volume nineteen (sheet ∷ [])
  pub volume-only : (bs : List Bundle) → Volume nineteen bs → bs ≡ sheet ∷ []
  -- a slot with 4,100 bytes in a store of two pages of 4,096 bytes owns both, none is free, and 4,092 bytes more go in
  pub pages-owned : (s : PageStore) (k : ℕ) → vec_len s.region ≡ 2 * 4096 → length ((meaning_of s).held k) ≡ 4100 → owned s k ≡ 2
  pub pages-free : (s : PageStore) (k : ℕ) → vec_len s.region ≡ 2 * 4096 → length ((meaning_of s).held k) ≡ 4100 → owned s 48 ≡ 0
  pub pages-room : (s : PageStore) (k : ℕ) → vec_len s.region ≡ 2 * 4096 → length ((meaning_of s).held k) ≡ 4100 → (meaning_of s).room k ≡ 4092
  -- a session whose last message is 1,209,599 seconds old stays, at 1,209,600 it ends
  pub age-stays : is_expired (5 + 1209599) (Some (session 100 (Some 200) 5)) ≡ false
  pub age-ends : is_expired (5 + 1209600) (Some (session 100 (Some 200) 5)) ≡ true
  pub age-kept : swept (5 + 1209599) (Some (session 100 (Some 200) 5)) ≡ Some (session 100 (Some 200) 5)
  pub age-swept : swept (5 + 1209600) (Some (session 100 (Some 200) 5)) ≡ None
