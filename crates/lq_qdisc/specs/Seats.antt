-- What the calls of a queue discipline ask of a seat, and what they leave of it.
use Rattle.std.specs.Prelude.{◌≡◌, ◌≢◌, ℕ, ◌*◌, Bool, slice_index, Some, None}
use Rattle.lq_device.specs.Station.{StationState}
use Rattle.lq_model.specs.Alone.{RunningStation}
use Rattle.lq_model.specs.Plan.{owner_in, rank_in}
use Rattle.lq_model.specs.declared.machine.Position.{Position}
use Rattle.lq_table.specs.Views.{first_account}
use Rattle.lq_table.specs.Sees.{view, steps, setup, position, slot, IsAccounts, IsSameSeat, solo}
use Rattle.lq_table.specs.declared.shared.Cpu.{Cpu}
use Rattle.lq_table.specs.declared.shared.Shared.{Shared}
use Rattle.lq_qdisc.specs.Alone.{BringsAlone, IsOneSender, RunsAlone, account_in}
use Rattle.lq_qdisc.specs.Direct.{position_after}
use Rattle.lq_qdisc.specs.declared.answers.Through.{Through}

-- THE STATION THAT THE SEAT CARRIES

module _ {D : Type 0} where
  -- the same seat with the same view: only the station that it carries changes, and the steps
  abbrev pub KeepsSeatAndView : Cpu D → Cpu D → Type 0
  KeepsSeatAndView b a = IsSameSeat b a × (a.indices ≡ b.indices) × (slot a ≡ slot b) × (view a ≡ view b)

  -- Of the seat only the station that it carries changes, in this way.
  pub record ChangesStation (change : StationState → StationState) (b a : Cpu D) : Type 0 where
    pub same : KeepsSeatAndView b a
    pub made : steps a ≡ steps b
    pub station : (st : StationState) → b.station ≡ Some st → a.station ≡ Some (change st)

-- DIRECT TRANSMITS

module _ {D : Type 0} where
  -- from this place, of a packet that goes past the bands or doesn't, it goes on to where such a result leads
  abbrev pub GoesOnFrom : (Bool → Position) → Through → Cpu D → Cpu D → Type 0
  GoesOnFrom at through b a = (direct : Bool) → position b ≡ at direct → position a ≡ position_after through direct (view a)

-- TRANSMITS

module _ {D : Type 0} where
  -- the turn word of that owner, as the seat knows it
  abbrev pub turn_word : Shared D → ℕ → Cpu D → ℕ
  turn_word t n c = slice_index (view c).turns (owner_in t.infos.now n)

  -- it is the packet's turn
  abbrev pub IsTurnOf : Shared D → ℕ → Cpu D → Type 0
  IsTurnOf t n c = turn_word t n c ≡ 2 * rank_in t.infos.now n

-- A SEAT THAT HAS THE TABLE ALONE

module _ {D : Type 0} where
  -- it brings the station on by this step of the run of one sender
  abbrev pub BringsStation : Shared D → (RunningStation → RunningStation) → Cpu D → Cpu D → Type 0
  BringsStation t step b a = BringsAlone t.infos.now (first_account (setup t)) step (solo (view b)) (solo (view a))

  -- where its station is active it serves that as the run of one sender does; with several queues, where what it has as holder is the
  -- account's
  abbrev pub ServesStation : Shared D → Cpu D → Cpu D → Type 0
  ServesStation t b a = (t.queues ≢ 1 → IsAccounts (view b)) → IsOneSender (first_account (setup t)) (solo (view b))
      → (account_in (first_account (setup t)) (solo (view b))).down ≡ None → RunsAlone t.infos.now (first_account (setup t)) (solo (view b)) (solo (view a))
