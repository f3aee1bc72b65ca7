-- Stations of the run of one sender, with one queue or several.
use Rattle.std.specs.Prelude.{◌≡◌, ◌⊎◌, ℕ, ◌<◌, ◌≤◌, Bool, false, ◌||◌, not, if◌then◌else◌, List, length, slice_index, None}
use Rattle.std.specs.Option.{option_map_or}
use Rattle.lq_model.specs.Account.{Account, is_open, is_shared}
use Rattle.lq_model.specs.Alone.{RunningStation}
use Rattle.lq_model.specs.Plan.{queue_in}
use Rattle.lq_model.specs.declared.fate.Info.{Info}

-- each queue is open or stopped, or each is hung
abbrev pub AreStopValues : List ℕ → Type 0
AreStopValues stops = ((queue : ℕ) → slice_index stops queue ≤ 1) ⊎ ((queue : ℕ) → queue < length stops → slice_index stops queue ≡ 2)

-- a station between two offers: nothing is in hand, and there were no more answers Busy than its device may give
pub record IsBetweenOffers (s : RunningStation) : Type 0 where
  pub queues : 0 < length s.account.stops
  pub known : AreStopValues s.account.stops
  pub hand : s.account.hand ≡ None
  pub busies : s.device.busies ≤ s.device.params.busy_limit

-- its next packet may be taken: several queues share the bands, or the one queue is open
abbrev pub may_take : Account → Bool
may_take a = is_shared a || is_open a 0

-- Its next packet waits for a queue that isn't open: with one queue for that one; with several the packet lies in the requeue slot,
-- and waits for its own.
abbrev pub is_waiting : List Info → Account → Bool
is_waiting infos a = if is_shared a then option_map_or (λ n. not (is_open a (queue_in infos n))) a.slot false else not (is_open a 0)

-- no packet may go past the bands
abbrev pub dirty : RunningStation → RunningStation
dirty s = record s { clean = false }
