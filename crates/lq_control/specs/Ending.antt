-- What the end of a station does where a seat has the table alone, over a device that tells: the end of the run of one sender.
use Rattle.std.specs.Prelude.{◌≡◌, ℕ, ◌||◌, false, List, None}
use Rattle.lq_model.specs.Account.{Account, Purge, is_hung}
use Rattle.lq_model.specs.Alone.{RunningStation, finished}
use Rattle.lq_model.specs.declared.fate.Cause.TheVariants as cause
use Rattle.lq_model.specs.declared.fate.Info.{Info}
use Rattle.lq_table.specs.Sees.{Solo, heard}
use Rattle.lq_table.specs.Locks.{locked_to}
use Rattle.lq_table.specs.States.{missed_to, draining_to}
use Rattle.lq_qdisc.specs.Alone.{IsAlone, account_in, running}

-- Wakes and soft interrupts go on towards the same end.
pub record IsEndedAlike (infos : List Info) (start : Account) (old now : Solo) : Type 0 where
  pub alone : IsAlone infos start now
  pub down : (account_in start now).down ≡ (account_in start old).down
  pub ends : finished infos (running start now) ≡ finished infos (running start old)

-- what it held was purged as hung by this unit, and MISSED and DRAINING are clear
abbrev pub purged_as_hung : ℕ → Solo → Solo
purged_as_hung unit s = locked_to false (missed_to false (draining_to false (heard (Purge (cause.Hung unit)) s)))

-- a station whose queues are hung has both bits clear after its purge
abbrev pub cleared_if_hung : RunningStation → RunningStation
cleared_if_hung s = record s { clean = s.clean || is_hung s.account }

-- The station is as the run of one sender leaves it in the end; the purge of a hung one clears both bits. One that is deactivated
-- and hung holds nothing, so it isn't purged, and has the same fates.
pub record IsFinishedAlone (infos : List Info) (start : Account) (old new : Solo) : Type 0 where
  pub alone : IsAlone infos start new
  pub fates : (account_in start new).fates ≡ (finished infos (running start old)).account.fates
  pub active : (account_in start old).down ≡ None → running start new ≡ cleared_if_hung (finished infos (running start old))
