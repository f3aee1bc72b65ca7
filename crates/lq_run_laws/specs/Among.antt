-- One seat among the others: the machine in which it stands between two lists of seats.
use Rattle.std.specs.Prelude.{List, ◌∷◌, ◌++◌}
use Rattle.lq_model.specs.declared.machine.Seat.{Seat}
use Rattle.lq_model.specs.Machine.{Qdisc, Machine}
use Rattle.lq_model.specs.Steps.{After}

abbrev pub among : List Seat → List Seat → Qdisc → Seat → Machine
among before behind q s = record { qdisc = q; seats = before ++ s ∷ behind }

-- after a step that left this of the words and of the seat
abbrev pub left_among : List Seat → List Seat → After → Machine
left_among before behind a = among before behind a.qdisc a.seat
