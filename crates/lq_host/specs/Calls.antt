-- The calls that a host in memory was asked for: how many there were of each kind, and which are to fail.
use Rattle.std.specs.Prelude.{ℕ, ◌+◌, ◌-◌, ◌^◌, min, List, [], ◌∷◌, ◌++◌, Contains}
use Rattle.lq_host.specs.declared.calls.HostCall.{HostCall}
use Rattle.lq_host.specs.declared.calls.HostCall.TheVariants.{OpenRead, Create, Read, Write, Finish}
use Rattle.lq_host.specs.declared.calls.CallCount.{CallCount}
use Rattle.lq_host.specs.declared.calls.CallCounts.{CallCounts}

-- of one kind of call: how many were made, and the numbers of those that are to fail, counted from 1
pub record Count : Type 0 where
  pub made : ℕ
  pub failing : List ℕ

-- of each kind of call
pub record Counts : Type 0 where
  pub open_read : Count
  pub create : Count
  pub read : Count
  pub write : Count
  pub finish : Count

abbrev pub count_of : Counts → HostCall → Count
count_of counts OpenRead = counts.open_read
count_of counts Create = counts.create
count_of counts Read = counts.read
count_of counts Write = counts.write
count_of counts Finish = counts.finish

-- the counts in which that of this kind is this
abbrev pub with_call_count : Counts → HostCall → Count → Counts
with_call_count counts OpenRead count = record counts { open_read = count }
with_call_count counts Create count = record counts { create = count }
with_call_count counts Read count = record counts { read = count }
with_call_count counts Write count = record counts { write = count }
with_call_count counts Finish count = record counts { finish = count }

-- no call was made, and none is to fail
abbrev pub no_calls : Counts
no_calls =
    let none : Count = record { made = 0; failing = [] } in
    record { open_read = none; create = none; read = none; write = none; finish = none }

-- one call more of this kind was made; a number of calls stands still at the last one of 64 bits
abbrev pub called : Counts → HostCall → Counts
called counts call =
    let count = count_of counts call in
    with_call_count counts call (record { made = min (count.made + 1) (2 ^ 64 - 1); failing = count.failing })

-- the k-th call of this kind is to fail too
abbrev pub failing_at : Counts → HostCall → ℕ → Counts
failing_at counts call k =
    let count = count_of counts call in
    with_call_count counts call (record { made = count.made; failing = count.failing ++ k ∷ [] })

-- the next call of this kind is one that is to fail
abbrev pub IsToFail : Counts → HostCall → Type 0
IsToFail counts call = let count = count_of counts call in Contains count.failing (count.made + 1)

-- what the code keeps, as counts
abbrev pub as_count : CallCount → Count
as_count c = record { made = c.made; failing = c.failing.items }

abbrev pub as_counts : CallCounts → Counts
as_counts c = record { open_read = as_count c.open_read; create = as_count c.create; read = as_count c.read; write = as_count c.write; finish = as_count c.finish }
