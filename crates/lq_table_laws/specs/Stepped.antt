-- A step of a seat on the words of a table, and which moves of the machine it is.
use Rattle.std.specs.Prelude.{◌≡◌, ◌≤◌, ◌+◌, ℕ, Bool, true, false, List, [], ◌∷◌, slice_index, slice_set, Option, Some, None}
use mathlib.Core.Option.{some}
use mathlib.Core.Option as maybe
use lib.ListN.{get_elem?}
use Rattle.lq_device.specs.Station.{StationState}
use Rattle.lq_model.specs.Machine.{Machine}
use Rattle.lq_model.specs.declared.machine.Packet.{Packet}
use Rattle.lq_model.specs.declared.machine.Position.{Position}
use Rattle.lq_model.specs.declared.machine.Position.TheVariants.{Check, Late, Post, Recheck, Soft, Tail, Test, Try1, Try2}
use Rattle.lq_run_core.specs.Measure.{ServesOpen, measure}
use Rattle.lq_run_core.specs.Progress.{Course, Goes, IsAny}
use Rattle.lq_table.specs.Rule.{is_live, shown, IsResting, Rule}
use Rattle.lq_table.specs.Views.{HolderPart, Setup, View}
use Rattle.lq_table_laws.specs.Stands.{Table, machine_by}

-- A seat made a step at the word of this place, whatever the others are at: the table as it was, the seat and what it knew; what it
-- left in the word and in the slot of the station, and what it knows now. The rule holds before and after.
pub record Stepped (k : Setup) (place : ℕ) : Type 0 where
  pub old : Table
  pub rule : Rule k old
  pub seat : ℕ
  pub before : View
  pub here : get_elem? old.views seat ≡ some before
  pub live : is_live before ≡ true
  pub stored : ℕ
  pub homes : List (maybe.Option (Option StationState))
  pub after : View
  pub rule_after : Rule k (record { words = slice_set old.words place stored; homes = homes; views = slice_set old.views seat after })

module _ {k : Setup} {place : ℕ} where
  -- what it found in the word
  abbrev pub found : Stepped k place → ℕ
  found t = slice_index t.old.words place

  -- the machines before and after
  abbrev pub machine_before : Stepped k place → Machine
  machine_before t = machine_by t.rule

  abbrev pub machine_after : Stepped k place → Machine
  machine_after t = machine_by t.rule_after

  -- the step left the station where it was
  abbrev pub KeepsStation : Stepped k place → Type 0
  KeepsStation t = t.homes ≡ t.old.homes

  -- it took the station, of which a holder has this, out of the table's slot: the rings rest, and no resize is half done
  abbrev pub TakesStation : HolderPart → Stepped k place → Type 0
  TakesStation d t = (t.old.homes ≡ some (Some (shown d)) ∷ []) × IsResting d.size d.ends × (d.resizing ≡ None)

  -- it laid the station back, as its holder has it
  abbrev pub GivesStation : Stepped k place → Type 0
  GivesStation t = (t.homes ≡ some (Some (shown t.before.holder)) ∷ []) × IsResting t.before.holder.size t.before.holder.ends × (t.before.holder.resizing ≡ None)

  -- the step was a load, or an exchange that failed: the word is as it was
  abbrev pub KeepsWord : Stepped k place → Type 0
  KeepsWord t = t.stored ≡ found t

-- the seat stays where it is in the machine, and what it has as a holder of the run lock and in control is as it was
pub record Remains (v w : View) : Type 0 where
  pub share : w.share ≡ v.share
  pub place : w.place ≡ v.place
  pub holder : w.holder ≡ v.holder
  pub control : w.control ≡ v.control

-- where a call loads the state
abbrev pub looks_in_call : Position → Bool
looks_in_call (Check p) = true
looks_in_call (Recheck p) = true
looks_in_call Post = true
looks_in_call Test = true
looks_in_call (Tail inside) = true
looks_in_call Soft = true
looks_in_call Late = true
looks_in_call _ = false

-- where a call tries the run lock
abbrev pub tries_in_call : Position → Bool
tries_in_call (Try1 attempt) = true
tries_in_call (Try2 attempt) = true
tries_in_call _ = false

-- THE MOVES

-- the machine with these counts of packets that were sent, and refused as full: no word of a table has them
abbrev pub counting : ℕ → ℕ → Machine → Machine
counting sent full m = record { qdisc = record m.qdisc { sent = sent; full = full }; seats = m.seats }

-- so many moves that cost so much together, none of control and none by which the device accepts a packet
abbrev pub none_sent : ℕ → ℕ → Course
none_sent moves cost = record { moves = moves; cost = cost; accepted = []; with_control = false }

-- with one of control among them
abbrev pub of_control : ℕ → ℕ → Course
of_control moves cost = record { moves = moves; cost = cost; accepted = []; with_control = true }

-- the one by which it accepts this packet
abbrev pub one_sent : Packet → Course
one_sent p = record { moves = 1; cost = 0; accepted = p ∷ []; with_control = false }

-- Moves that come to this lead from m to n, but for the counts. And while a packet is served and all queues are open, before and after
-- them, each makes the number of the machine less, but for what it costs.
pub record Leads (c : Course) (m n : Machine) : Type 0 where
  pub sent : ℕ
  pub full : ℕ
  pub goes : Goes IsAny m c (counting sent full n)
  pub nearer : ServesOpen m → ServesOpen n → c.moves + measure n ≤ measure m + c.cost

module _ {k : Setup} {place : ℕ} where
  -- the step is so many moves of the machine, as `none_sent` says
  abbrev pub AreMoves : ℕ → ℕ → Stepped k place → Type 0
  AreMoves moves cost t = Leads (none_sent moves cost) (machine_before t) (machine_after t)
