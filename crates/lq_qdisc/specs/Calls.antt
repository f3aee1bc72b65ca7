-- What the calls of a queue discipline leave of what the seat that makes them knows.
use Rattle.std.specs.Option.{option_map_or}
use Rattle.std.specs.Prelude.{⊤, MatchOption, slice_index, ◌≡◌, ◌≢◌, ℕ, zero, suc, ◌<◌, nat_lt, Bool, true, false, if◌then◌else◌, is_some, List, ◌∷◌, ◌++◌, slice_get, Some, None}
use Rattle.lq_model.specs.Account.{Account, Event, Empty, Take, Pick, held_in}
use Rattle.lq_model.specs.Positions.{in_hand}
use Rattle.lq_model.specs.Plan.{queue_in}
use Rattle.lq_model.specs.declared.machine.Position.{Position}
use Rattle.lq_model.specs.declared.machine.Position.TheVariants.{Again, Unlock, Test, Scan, Gate}
use Rattle.lq_run.specs.Runs.{HasStation, Rests}
use Rattle.lq_ring.specs.Put.{no_locks}
use Rattle.lq_table.specs.Views.{View, Setup, HolderPart, machine_packet}
use Rattle.lq_table.specs.Moves.{IsPacketOf}
use Rattle.lq_table.specs.States.{missed_to, draining_to}
use Rattle.lq_table.specs.Stops.{picking}
use Rattle.lq_table.specs.Sees.{view, position, IsSameSeat, Solo, IsSole, IsAccounts, HasSent, account_of, solo, heard}
use Rattle.lq_model.specs.declared.fate.Fate.{Fate}
use Rattle.lq_model.specs.declared.fate.Info.{Info}
use Rattle.lq_qdisc.specs.declared.answers.Taken.{Taken}
use Rattle.lq_qdisc.specs.declared.answers.Taken.TheVariants as taken
use Rattle.lq_table.specs.declared.shared.Cpu.{Cpu}

module _ {D : Type 0} where
  -- it has the run lock and the station, no take, resize or swap is half done, and it has no producer lock
  abbrev pub IsServing : Cpu D → Type 0
  IsServing c = HasStation c × Rests c × ((view c).locks ≡ no_locks) × ((view c).holder.shut ≡ None)

  -- what the calls between the two ends of a run leave as it was, beside what the holder has
  pub record IsKeptInRun (b a : Cpu D) : Type 0 where
    pub seat : IsSameSeat b a
    pub indices : a.indices ≡ b.indices
    pub share : (view a).share ≡ (view b).share
    pub packets : (view a).packets ≡ (view b).packets
    pub locks : (view a).locks ≡ (view b).locks
    pub control : (view a).control ≡ (view b).control
    pub turns : (view a).turns ≡ (view b).turns
    pub told : (view a).whole.told ≡ (view b).whole.told
    pub raised : (view a).place.raised ≡ (view b).place.raised

  -- no fate was stored, and no event of control or the first sender came
  abbrev pub IsSettledSame : Cpu D → Cpu D → Type 0
  IsSettledSame b a = ((view a).settled ≡ (view b).settled) × ((view a).trail ≡ (view b).trail)

-- the fates that were stored stay so, and more come
abbrev pub KeepsFates : View → View → Type 0
KeepsFates old new = (more : List (ℕ × Fate)) × (new.settled ≡ more ++ old.settled)

-- MAYBE CLEAR MISSED

-- the packet in hand, if there is one, lies in the requeue slot
abbrev pub laid_aside : Position → HolderPart → HolderPart
laid_aside position h = if is_some (in_hand position) then record h { slot = h.hand; hand = None } else h

abbrev pub after_blocked : Position → Position
after_blocked position = if is_some (in_hand position) then Again else Unlock

-- A seat that has the table alone, where the queue is stopped or hung: MISSED is cleared and DRAINING set, and what follows is done.
abbrev pub ClearsMissedAlone : ℕ → (Solo → Solo) → View → View → Type 0
ClearsMissedAlone queue follow old new = IsSole old → slice_index (account_of old).stops queue ≢ 0 → solo new ≡ follow (draining_to true (missed_to false (solo old)))

-- DEQUEUE

-- the events of finding each band below this one empty, the latest first, before those that came earlier
abbrev pub found_empty : ℕ → List Event → List Event
found_empty zero past = past
found_empty (suc band) past = Empty band ∷ found_empty band past

-- where a look through the bands stands that has come so far
abbrev pub looking_at : ℕ → Bool → Position
looking_at band second = if nat_lt band 3 then Scan band second else if second then Unlock else Test

-- nothing is held in the bands below this one
abbrev pub AreNone : Account → ℕ → Type 0
AreNone a zero = ⊤
AreNone a (suc band) = AreNone a band × (slice_get (held_in a band) 0 ≡ None)

-- A look through the bands found nothing: the slot at each band's head was loaded as 0.
pub record FindsNone (old new : View) : Type 0 where
  pub past : new.whole.state.past ≡ found_empty 3 old.whole.state.past
  pub holder : new.holder ≡ old.holder
  pub step : solo new ≡ solo old
  pub sole : IsSole old → AreNone (account_of old) 3

-- It took the packet n: the slot at the head of each lower band was loaded as 0.
pub record Finds (n : ℕ) (old new : View) : Type 0 where
  pub band : ℕ
  pub below : band < 3
  pub holder : new.holder ≡ record old.holder { ends = new.holder.ends; hand = Some n }
  pub step : solo new ≡ heard (Take band) (solo old)
  pub sole : IsSole old → AreNone (account_of old) band × (slice_get (held_in (account_of old) band) 0 ≡ Some n)

-- MISSED and DRAINING are clear
abbrev pub cleared : Solo → Solo
cleared v = draining_to false (missed_to false v)

-- The bands were found empty: once where both bits were loaded clear after that, and else once more after their clearing.
pub record FindsEmpty (old new : View) : Type 0 where
  pub holder : new.holder ≡ old.holder
  pub sole : IsSole old → AreNone (account_of old) 3 × (solo new ≡ cleared (solo old))

-- The packet n was taken from a band: each lower band was found empty in this look, the first one or the second.
pub record FindsPacket (n : ℕ) (old new : View) : Type 0 where
  pub band : ℕ
  pub below : band < 3
  pub holder : new.holder ≡ record old.holder { ends = new.holder.ends; hand = Some n }
  pub sole : IsSole old → AreNone (account_of old) band × (slice_get (held_in (account_of old) band) 0 ≡ Some n) × (solo new ≡ heard (Take band) (solo old))

-- The stop word of a queue was loaded as 1 or 2, and nothing was taken.
pub record FindsStopped (queue : ℕ) (old new : View) : Type 0 where
  pub holder : new.holder ≡ old.holder
  pub sole : IsSole old → (slice_index (account_of old).stops queue ≢ 0) × (solo new ≡ draining_to true (missed_to false (solo old)))

-- The packet n came out of the requeue slot.
pub record Picks (n : ℕ) (old new : View) : Type 0 where
  pub is : new ≡ picking (Some n) (record old { place = new.place })
  pub step : solo new ≡ heard Pick (solo old)

-- what a look through the bands answers
abbrev pub Looks : Taken → View → View → Type 0
Looks taken.Empty old new = FindsEmpty old new
Looks taken.Stopped old new = ⊥
Looks (taken.Packet n) old new = FindsPacket n old new

-- Where the requeue slot is empty, the bands are looked through; else its packet comes out of it. Both only where the queue
-- isn't stopped; but several queues share the bands, which are looked through whatever the stop words say. So the stopped queue
-- of several is that of the packet in the requeue slot.
abbrev pub Dequeues : Taken → List Info → View → View → Type 0
Dequeues taken.Empty infos old new = (old.holder.slot ≡ None) × FindsEmpty old new
Dequeues taken.Stopped infos old new = (1 < old.share.about.queues → is_some old.holder.slot ≡ true) × FindsStopped (option_map_or (queue_in infos) old.holder.slot 0) old new
Dequeues (taken.Packet n) infos old new = MatchOption old.holder.slot (FindsPacket n old new) (λ m. (m ≡ n) × Picks n old new)

-- With one queue a dequeue tells a seat that has the table alone that what it has as holder is the account's, and whether the
-- queue is stopped.
abbrev pub IsStopFor : Taken → ℕ → Type 0
IsStopFor taken.Empty stop = stop ≡ 0
IsStopFor taken.Stopped stop = stop ≢ 0
IsStopFor (taken.Packet n) stop = stop ≡ 0

abbrev pub SeesOneQueue : Taken → View → Type 0
SeesOneQueue t v = v.share.about.queues ≡ 1 → IsSole v → IsAccounts v × HasSent v × IsStopFor t (slice_index (account_of v).stops 0)

-- where the seat stands after a dequeue
abbrev pub after_dequeue : Taken → List Info → Position
after_dequeue taken.Empty infos = Unlock
after_dequeue taken.Stopped infos = Unlock
after_dequeue (taken.Packet n) infos = Gate (machine_packet infos n) false

-- what a dequeue took is a packet of the station
abbrev pub IsTakenOf : Setup → Taken → Type 0
IsTakenOf k taken.Empty = ⊤
IsTakenOf k taken.Stopped = ⊤
IsTakenOf k (taken.Packet n) = IsPacketOf k n
