-- Why the calls inside stop.
use Rattle.std.specs.Prelude.{◌≡◌, ◌≤◌, ℕ, Result, Ok, Err, IsErrOf, OnOk}
use Rattle.lq_host.specs.Host.{Rose}
use Rattle.lq_host.specs.declared.HostError.{HostError}
use Rattle.lq_host.specs.declared.HostError.TheVariants as host
use Rattle.lq_files.specs.declared.answer.Status.{Status}
use Rattle.lq_files.specs.declared.answer.Status.TheVariants as status
use Rattle.lq_files.specs.declared.answer.Stop.{Stop}
use Rattle.lq_files.specs.declared.answer.Stop.TheVariants.{Fault, NoMemory}

-- what a host's refusal becomes
abbrev pub IsStopOf : HostError → Stop → Type 0
IsStopOf host.Failed stop = stop ≡ Fault
IsStopOf host.NoMemory stop = stop ≡ NoMemory

abbrev pub status_of_stop : Stop → Status
status_of_stop Fault = status.Fault
status_of_stop NoMemory = status.NoMemory

-- what work on a file came to, after which the file was finished: a fault goes before want of memory
abbrev pub with_end : {T U : Type 0} → Result T Stop → Result U HostError → Result T Stop
with_end work (Ok done) = work
with_end work (Err host.Failed) = Err Fault
with_end (Ok value) (Err host.NoMemory) = Err NoMemory
with_end (Err NoMemory) (Err host.NoMemory) = Err NoMemory
with_end (Err Fault) (Err host.NoMemory) = Err Fault

-- the count of faults never falls; a fault is answered only where it rose, and every other answer leaves it as it was
pub record StopsFor {T : Type 0} (before now : ℕ) (result : Result T Stop) : Type 0 where
  pub later : before ≤ now
  pub fault : IsErrOf result Fault → Rose before now
  pub calm : OnOk result (now ≡ before)
  pub memory : IsErrOf result NoMemory → now ≡ before
