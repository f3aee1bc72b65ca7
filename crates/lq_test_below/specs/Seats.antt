-- What the tests know of the packets, and of a seat between two calls.
use Rattle.std.specs.Prelude.{◌≡◌, ℕ, zero, suc, ◌+◌, ◌<◌, ◌/◌, ◌%◌, true, false, List, [], ◌∷◌, length}
use Rattle.lq_model.specs.Plan.{band_in, owner_in, queue_in, rank_in, station_in}
use Rattle.lq_model.specs.declared.fate.Info.{Info}
use Rattle.lq_model.specs.declared.machine.Phase.{Phase}
use Rattle.lq_model.specs.declared.machine.Phase.TheVariants.{Active}
use Rattle.lq_model.specs.declared.machine.Position.TheVariants.{Idle}
use Rattle.lq_table.specs.Rule.{times, units_of}
use Rattle.lq_table.specs.Sees.{view, position, IsSeatOf, IsSameSeat}
use Rattle.lq_table.specs.declared.shared.Cpu.{Cpu}
use Rattle.lq_table.specs.declared.shared.Shared.{Shared}
use Rattle.lq_qdisc.specs.Sends.{IsReadyToSend}
use Rattle.lq_control.specs.Control.{IsIn}

-- The packets are the owners' 1, 2 and 3 in turn, all at station 0.
pub record IsTheirs (infos : List Info) (n : ℕ) : Type 0 where
  pub owner : owner_in infos n ≡ n % 3 + 1
  pub station : station_in infos n ≡ 0
  pub band : band_in infos n < 3
  pub queue : queue_in infos n ≡ 0
  pub rank : rank_in infos n ≡ n / 3

-- the first so many units after 0, the latest first
abbrev pub units_from_first : ℕ → List ℕ
units_from_first zero = []
units_from_first (suc k) = suc k ∷ units_from_first k

module _ {D : Type 0} where
  -- the seat is in no call and has nothing in hand
  pub record IsBetweenCalls (t : Shared D) (c : Cpu D) : Type 0 where
    pub seat : IsSeatOf t c
    pub at : position c ≡ Idle
    pub ready : IsReadyToSend c

  -- and owes no soft interrupt
  pub record IsDone (t : Shared D) (c : Cpu D) : Type 0 where
    pub between : IsBetweenCalls t c
    pub not_raised : (view c).place.raised ≡ false

  -- and has this owner
  pub record IsSender (t : Shared D) (owner : ℕ) (c : Cpu D) : Type 0 where
    pub between : IsBetweenCalls t c
    pub owns : 0 < times owner (view c).share.owners

  -- the first seat, in this phase, whose swaps brought these units
  pub record IsFirst (phase : Phase) (units : List ℕ) (t : Shared D) (c : Cpu D) : Type 0 where
    pub between : IsBetweenCalls t c
    pub first : (view c).control.first ≡ true
    pub phase_is : IsIn phase (view c)
    pub brought : units_of (view c).trail ≡ units

  -- the first seat of an active station, after so many swaps
  abbrev pub IsFirstAfterSwaps : ℕ → Shared D → Cpu D → Type 0
  IsFirstAfterSwaps swaps t c = IsFirst Active (units_from_first swaps) t c

  -- with each of the four owners, and all shares
  pub record HasAllShares (c : Cpu D) : Type 0 where
    pub shares : (view c).share.shares ≡ 1024
    pub owners : (view c).share.owners ≡ 3 ∷ 2 ∷ 1 ∷ 0 ∷ []

  -- what calls leave as it was that are none of control
  pub record IsKeptFirst (b a : Cpu D) : Type 0 where
    pub seat : IsSameSeat b a
    pub share : (view a).share ≡ (view b).share
    pub control : (view a).control ≡ (view b).control
    pub brought : units_of (view a).trail ≡ units_of (view b).trail
    pub told : (view a).whole.told ≡ (view b).whole.told
    pub turns : length (view a).turns ≡ length (view b).turns
