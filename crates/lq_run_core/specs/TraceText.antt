-- The text that tells what a schedule leaves of the machine.
use Rattle.std.specs.Prelude.{ℕ, if◌then◌else◌, List, [], ◌∷◌, ◌++◌, length, codes, Result, Ok}
use Rattle.std.specs.Fmt.{decimal}
use Rattle.std.specs.List.{flat_map}
use Rattle.lq_model.specs.declared.machine.Position.{Position}
use Rattle.lq_model.specs.declared.machine.Position.TheVariants.{Idle, Enter, Check, Put, Try1, Miss, Try2, Recheck, Gate, Xmit, StoreXoff, Post, Deq, Scan, Test, ClearMissed, ClearDraining, BlockedClear, BlockedLoad, BlockedMiss, BlockedDrain, Again, Quota, Unlock, Tail, Sched, Leave, Soft, SoftClear, Late, Wake, Control}
use Rattle.lq_model.specs.declared.machine.Seat.{Seat}
use Rattle.lq_model.specs.Machine.{Qdisc, seat_at, state_word, bit}
use Rattle.lq_model.specs.Numbers.{first_numbers}
use Rattle.lq_run_core.specs.declared.trace_run.Progress.{Progress}
use Rattle.lq_model.specs.Numbers.{greatest}
use Rattle.lq_run_core.specs.Numbered.{packets_held}
use Rattle.lq_run_core.specs.Trace.{FailedLine, schedule_done, ◌>>=◌}

-- WHERE A SEAT STANDS

abbrev pub step_name : Position → List ℕ
step_name Idle = codes "idle"
step_name (Enter call) = codes "enter"
step_name (Check packet) = codes "check"
step_name (Put packet holds) = codes "put"
step_name (Try1 attempt) = codes "try1"
step_name (Miss attempt) = codes "miss"
step_name (Try2 attempt) = codes "try2"
step_name (Recheck packet) = codes "recheck"
step_name (Gate packet direct) = codes "gate"
step_name (Xmit packet direct) = codes "xmit"
step_name (StoreXoff queue hung direct) = codes "stop"
step_name Post = codes "post"
step_name Deq = codes "deq"
step_name (Scan band second) = codes "scan"
step_name Test = codes "test"
step_name ClearMissed = codes "clearm"
step_name ClearDraining = codes "cleard"
step_name (BlockedClear blocked) = codes "cclear"
step_name (BlockedLoad blocked) = codes "cload"
step_name (BlockedMiss blocked) = codes "cmiss"
step_name (BlockedDrain blocked) = codes "cdrain"
step_name Again = codes "again"
step_name Quota = codes "quota"
step_name Unlock = codes "unlock"
step_name (Tail inside) = codes "tail"
step_name (Sched inside) = codes "sched"
step_name Leave = codes "leave"
step_name Soft = codes "soft"
step_name (SoftClear deactivated) = codes "sclear"
step_name Late = codes "late"
step_name (Wake queue) = codes "wake"
step_name (Control holds) = codes "control"

-- which band a scan looks at, and for which time
abbrev pub scan_name : Position → List ℕ
scan_name (Scan band second) = codes " " ++ (decimal band ++ (codes " " ++ (if second then codes "second" else codes "first")))
scan_name _ = []

abbrev pub seat_line : ℕ → Seat → List ℕ
seat_line i s =
    codes "seat " ++ (decimal i ++ (codes " " ++ (step_name s.position ++ (scan_name s.position
    ++ ((if s.raised then codes " raised" else []) ++ 10 ∷ [])))))

-- WHAT THE SEATS SHARE

abbrev pub state_line : Qdisc → List ℕ
state_line q =
    codes "state " ++ (decimal (state_word q) ++ (codes " lock " ++ (decimal (bit q.locked) ++ (codes " xoff "
    ++ (decimal (greatest q.xoff) ++ (codes " inside " ++ (decimal q.inside ++ 10 ∷ [])))))))

abbrev pub held_line : Qdisc → List ℕ
held_line q =
    codes "held " ++ (decimal (packets_held q) ++ (codes " sent " ++ (decimal q.sent ++ (codes " full " ++ (decimal q.full ++ 10 ∷ [])))))

-- THE WHOLE TEXT

unfoldable pub progress_text : Progress → List ℕ
progress_text p =
    let m = p.running.machine in
    (codes "steps " ++ (decimal p.steps ++ 10 ∷ [])) ++ state_line m.qdisc ++ held_line m.qdisc
    ++ flat_map (λ i. seat_line i (seat_at m i)) (first_numbers (length m.seats))

unfoldable pub schedule_text : List ℕ → Result (List ℕ) FailedLine
schedule_text text = schedule_done text >>= λ p. Ok (progress_text p)
