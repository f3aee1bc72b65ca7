-- The run of one sender: a station between two offers, and the fates of all packets.
use Rattle.std.specs.Prelude.{◌≡◌, ℕ, ◌+◌, ◌<◌, ◌≤◌, true, List, [], length, map, slice_get, Some, None}
use Rattle.lq_model.specs.Account.{held}
use Rattle.lq_model.specs.Alone.{RunningStation, alone}
use Rattle.lq_model.specs.Band.{Band, held_of, stale_count}
use Rattle.lq_model.specs.Plan.{Plan, band_in}
use Rattle.lq_model.specs.Settled.{IsInSenderOrder, IsSettled}
use Rattle.lq_model.specs.declared.fate.Fate.{Fate}
use Rattle.lq_model.specs.declared.fate.Info.{Info}
use Rattle.lq_model.specs.declared.plan.StationPlan.{StationPlan}
use Rattle.lq_account_laws.specs.Accounts.{AreOfStations}
use Rattle.lq_account_laws.specs.OneQueue.{AreOfOneQueue, IsOfOneQueue}
use Rattle.lq_account_laws.specs.Progress.{IsAt}

-- a ring of this length has a slot for each packet that the band holds, beside the slots that aren't empty yet
pub record FitsRing (len : ℕ) (band : Band) : Type 0 where
  pub taken : band.taken ≤ length band.line
  pub slots : length (held_of band) + stale_count len band.taken ≤ len

-- an active station with one queue, before packet n
pub record IsInRun (plan : Plan) (infos : List Info) (station n : ℕ) (s : RunningStation) : Type 0 where
  -- a legal list of events leaves its account, and brought just its packets below n
  pub at : IsAt plan infos station n s.account
  pub active : s.account.down ≡ None
  pub one_queue : IsOfOneQueue s
  pub has_slots : 0 < s.account.len
  pub bands : (band : ℕ) → FitsRing s.account.len (s.account.bands band)
  -- where the next packet may go past the bands nothing is held
  pub clean : s.clean ≡ true → held s.account ≡ []

-- a plan without events, whose stations have rings and one queue, and packets of its stations, of bands below 3 and of queue 0
pub record IsPlain (plan : Plan) (infos : List Info) : Type 0 where
  pub no_events : plan.events ≡ []
  pub have_slots : (station : ℕ) (s : StationPlan) → slice_get plan.stations station ≡ Some s → 0 < s.len
  pub one_queue : (station : ℕ) (s : StationPlan) → slice_get plan.stations station ≡ Some s → s.queues ≡ 1
  pub stations : AreOfStations plan infos
  pub bands : (n : ℕ) → band_in infos n < 3
  pub queues : AreOfOneQueue infos

-- the fates of the run of one sender, however often queues are opened after each packet: each packet has one, they are settled, and
-- each owner's packets of a band were sent in ascending number
pub record AreAloneSettled (plan : Plan) (infos : List Info) (opens : ℕ → ℕ) : Type 0 where
  pub fates : List Fate
  pub are : alone plan infos opens ≡ map Some fates
  pub settled : IsSettled plan infos fates
  pub in_order : IsInSenderOrder infos fates
