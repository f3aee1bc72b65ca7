-- What events, serving and the end come to for a station with one queue: each is a matter of its one stop value.
use Rattle.std.specs.Prelude.{◌≡◌, ◌≢◌, ◌⊎◌, ◌↔◌, ◌≤◌, ℕ, ◌==◌, true, false, if◌then◌else◌, List, [], ◌∷◌, length, slice_index, Some, None}
use Rattle.lq_model.specs.Account.{Account, Event, Send, Stop, Wake, Purge, held, is_hung, is_open, after}
use Rattle.lq_model.specs.Alone.{RunningStation, finished, is_done, next_taken, offered, opened, served}
use Rattle.lq_model.specs.Legal.{MayCome, is_after_send, is_hanging_past}
use Rattle.lq_model.specs.Plan.{queue_in}
use Rattle.lq_model.specs.declared.fate.Cause.TheVariants.{Hung}
use Rattle.lq_model.specs.declared.fate.Info.{Info}

-- STATIONS WITH ONE QUEUE

-- the stop value of queue 0: 0 open, 1 stopped, 2 hung
abbrev pub stop_of : Account → ℕ
stop_of a = slice_index a.stops 0

-- each packet is of queue 0
abbrev pub AreOfOneQueue : List Info → Type 0
AreOfOneQueue infos = (n : ℕ) → queue_in infos n ≡ 0

-- a station of the run between two offers: one queue, nothing in hand, and no more answers Busy than its device may give
pub record IsOfOneQueue (s : RunningStation) : Type 0 where
  pub queues : length s.account.stops ≡ 1
  pub known : stop_of s.account ≤ 2
  pub hand : s.account.hand ≡ None
  pub busies : s.device.busies ≤ s.device.params.busy_limit

-- EVENTS

-- what may come after these events, which leave this account
pub record MeetsOneStopValue (infos : List Info) (station : ℕ) (past : List Event) (a : Account) : Type 0 where
  -- there is one queue, and it is open, stopped or hung
  pub queues : a.stops ≡ stop_of a ∷ []
  pub known : stop_of a ≤ 2
  pub opens : (is_open a 0 ≡ true) ↔ (stop_of a ≡ 0)
  pub hung : (is_hung a ≡ true) ↔ (stop_of a ≡ 2)
  -- the packet in hand is sent where the queue is open
  pub may_send : MayCome infos station past a Send ↔ (((n : ℕ) × (a.hand ≡ Some n)) × (stop_of a ≡ 0))
  -- it is stopped exactly where the holder's last event was a send, and hung there or again
  pub may_stop : (value : ℕ) → MayCome infos station past a (Stop 0 value) ↔ (((value ≡ 1) × (is_after_send past ≡ true)) ⊎ ((value ≡ 2) × (is_hanging_past past ≡ true)))
  pub may_hang : is_after_send past ≡ true → is_hanging_past past ≡ true
  -- it is woken exactly where it is stopped
  pub may_wake : MayCome infos station past a (Wake 0) ↔ (stop_of a ≡ 1)
  -- what is held is purged as hung exactly where it is hung, for the present unit, with nothing in hand
  pub may_purge : (unit : ℕ) → MayCome infos station past a (Purge (Hung unit)) ↔ ((a.hand ≡ None) × ((a.unit ≡ unit) × (stop_of a ≡ 2)))

-- SERVING

-- the next packet came into the hand and was offered to the device
abbrev pub offered_next : Event → RunningStation → RunningStation
offered_next event s = offered 0 (record s { account = after event s.account })

-- These sentences say all of serving: it goes on packet by packet, and so it ends.
pub record IsServedByTurns (infos : List Info) (s : RunningStation) : Type 0 where
  -- a station that isn't active or isn't open stays as it is
  pub deactivated : (event : ℕ) → s.account.down ≡ Some event → served infos s ≡ s
  pub closed : stop_of s.account ≢ 0 → served infos s ≡ s
  -- with nothing held, the next packet may go past the bands
  pub idle : s.account.down ≡ None → stop_of s.account ≡ 0 → held s.account ≡ [] → served infos s ≡ record s { clean = true }
  -- else the next packet is offered: where the queue is open then, serving goes on; where it isn't, no packet may go past the bands
  pub goes_on : (event : Event) → s.account.down ≡ None → stop_of s.account ≡ 0 → next_taken s.account ≡ Some event → stop_of (offered_next event s).account ≡ 0
      → served infos s ≡ served infos (offered_next event s)
  pub stops : (event : Event) → s.account.down ≡ None → stop_of s.account ≡ 0 → next_taken s.account ≡ Some event → stop_of (offered_next event s).account ≢ 0
      → served infos s ≡ record (offered_next event s) { clean = false }
  -- after it nothing is held where the queue is open, and then alone a packet may go past the bands
  pub ends : s.account.down ≡ None → stop_of s.account ≡ 0 → stop_of (served infos s).account ≡ 0 → held (served infos s).account ≡ []
  pub clean : s.account.down ≡ None → stop_of s.account ≡ 0 → ((served infos s).clean ≡ true) ↔ (stop_of (served infos s).account ≡ 0)

-- THE END

-- These say all of the end: the station is woken and served, round by round.
pub record IsFinishedByRounds (infos : List Info) (s : RunningStation) : Type 0 where
  -- it is done where it is deactivated, hung, or open with nothing held
  pub done : (is_done s.account ≡ true) ↔ (((event : ℕ) × (s.account.down ≡ Some event)) ⊎ ((stop_of s.account ≡ 2) ⊎ ((stop_of s.account ≡ 0) × (held s.account ≡ []))))
  -- a wake opens a stopped queue, and no other
  pub wakes : opened s ≡ (if stop_of s.account == 1 then record s { account = after (Wake 0) s.account } else s)
  -- one that isn't done ends as it does after a round
  pub goes_on : is_done s.account ≡ false → finished infos s ≡ finished infos (served infos (opened s))
  -- what a hung one holds is purged
  pub hung : is_done s.account ≡ true → stop_of s.account ≡ 2 → finished infos s ≡ record s { account = after (Purge (Hung s.account.unit)) s.account }
  pub ends : is_done s.account ≡ true → stop_of s.account ≢ 2 → finished infos s ≡ s
  -- so an active station holds nothing in the end
  pub nothing_held : s.account.down ≡ None → held (finished infos s).account ≡ []
