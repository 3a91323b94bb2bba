-- The rules of sessions: why a message is refused, and what it makes of a session's record.
use Rattle.std.specs.Prelude.{ℕ, ◌+◌, ◌-◌, min, max, Bool, true, false, cond, not, ◌&&◌, ◌||◌, List, [], length, Some, None, Ok, Err, Option, Result, ◌==◌, nat_le, nat_lt, slice_index}
use Rattle.std.specs.Str.{bytes_eq}
use Rattle.outcome.specs.declared.Outcome.{Outcome}
use Rattle.outcome.specs.declared.Outcome.TheVariants.{NoSharedProtocol, FolderDestination, AtApprover, Incomplete, WrongRange, TooLarge, Gap, DestinationStands, TooManySessions, SerialsSpent, StoreFull}
use Rattle.packet.specs.declared.ranges.Range.{Range}
use Rattle.session.specs.Sessions.{Phase, receiving, away, ready, Live}
use Rattle.session.specs.declared.records.Settings.{Settings}

abbrev pub is_receiving : Phase → Bool
is_receiving receiving = true
is_receiving away = false
is_receiving (ready a) = false

abbrev pub is_away : Phase → Bool
is_away receiving = false
is_away away = true
is_away (ready a) = false

-- a session of that serial and destination
abbrev pub is_of : ℕ → List ℕ → Option Live → Bool
is_of serial path None = false
is_of serial path (Some x) = x.serial == serial && bytes_eq x.path path

-- a session of that serial at the approver
abbrev pub is_asked : ℕ → Option Live → Bool
is_asked serial None = false
is_asked serial (Some x) = x.serial == serial && is_away x.phase

abbrev pub is_free : Option Live → Bool
is_free None = true
is_free (Some x) = false

-- sessions end 14 days after their last message of number 0
abbrev pub is_expired : ℕ → Option Live → Bool
is_expired clock None = false
is_expired clock (Some x) = nat_le 1209600 (clock - x.stamp)

abbrev pub other_total : Option ℕ → ℕ → Bool
other_total None t = false
other_total (Some u) t = not (u == t)

-- the range runs backward or past the total, is not as long as the body announced, or the session has another total
abbrev pub wrong_range : Option ℕ → Range → ℕ → Bool
wrong_range total r n = nat_lt r.last r.first || (nat_le r.total r.last || (not (n == r.last - r.first + 1) || other_total total r.total))

abbrev pub too_large : Settings → Range → ℕ → Bool
too_large set r n = nat_lt 32768 n || nat_lt set.maximum r.total

-- why a fragment of n announced bytes, whose range stands in the line at `at`, is not taken
abbrev pub fragment_fault : Settings → Live → Range → ℕ → ℕ → ℕ → Option Outcome
fragment_fault set x r at n room =
    cond (is_away x.phase) (Some AtApprover)
    (cond (wrong_range x.total r n) (Some (WrongRange at))
    (cond (too_large set r n) (Some TooLarge)
    (cond (nat_lt x.received r.first) (Some Gap)
    (cond (nat_lt (x.received + room) (r.last + 1)) (Some StoreFull)
    None))))

-- the state of a session that holds `count` of its `total` bytes after a whole fragment
abbrev pub phase_at : Settings → Phase → ℕ → ℕ → Phase
phase_at set p count total = cond (is_receiving p && count == total) (cond set.approver away (ready [])) p

-- the record after a fragment was taken whose body came with m bytes, whole or cut
abbrev pub grown : Settings → ℕ → Live → Range → ℕ → Bool → Live
grown set clock x r m whole = record {
  serial = x.serial;
  path = x.path;
  received = max x.received (r.first + m);
  total = Some r.total;
  phase = cond whole (phase_at set x.phase (max x.received (r.first + m)) r.total) x.phase;
  stamp = cond whole clock x.stamp;
}

abbrev pub or_grown : Option Outcome → Live → Result Live Outcome
or_grown (Some o) x = Err o
or_grown None x = Ok x

-- what a fragment of n announced bytes, of which m came, makes of a session
abbrev pub after_fragment : Settings → ℕ → Live → Range → ℕ → ℕ → ℕ → ℕ → Result Live Outcome
after_fragment set clock x r at n m room = or_grown (fragment_fault set x r at n room) (grown set clock x r (min n m) (min n m == n))

-- a destination that stands may be overwritten only where that is on
abbrev pub forbidden : Settings → Bool → Bool
forbidden set stands = stands && not set.overwriting

abbrev pub ready_fault : Settings → Bool → Bool → Option Outcome
ready_fault set stands can = cond (forbidden set stands) (Some DestinationStands) (cond can None (Some StoreFull))

-- why a close is not taken
abbrev pub close_fault : Settings → Phase → Bool → Bool → Option Outcome
close_fault set receiving stands can = Some Incomplete
close_fault set away stands can = Some AtApprover
close_fault set (ready a) stands can = ready_fault set stands can

abbrev pub is_folder : List ℕ → Bool
is_folder path = slice_index path (length path - 1) == 47

-- why no session is opened
abbrev pub create_fault : Settings → Bool → List ℕ → Bool → Bool → ℕ → Option Outcome
create_fault set shared path stands full next =
    cond (not shared) (Some NoSharedProtocol)
    (cond (is_folder path) (Some FolderDestination)
    (cond (forbidden set stands) (Some DestinationStands)
    (cond full (Some TooManySessions)
    (cond (next == 18446744073709551615) (Some SerialsSpent)
    None))))

abbrev pub opened : ℕ → ℕ → List ℕ → Live
opened clock serial path = record { serial = serial; path = path; received = 0; total = None; phase = receiving; stamp = clock }

-- the record after the approver's verdict
abbrev pub ruled : Phase → Live → Live
ruled p x = record { serial = x.serial; path = x.path; received = x.received; total = x.total; phase = p; stamp = x.stamp }
