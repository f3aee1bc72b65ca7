-- What a sender's calls leave of a seat as it was.
use Rattle.std.specs.Prelude.{◌≡◌}
use Rattle.lq_seat.specs.State.{SeatState}

-- packets, wakes and soft interrupts, and events that swap no device: its place at the table, and the devices
abbrev pub Keeps : SeatState → SeatState → Type 0
Keeps old new = new ≡ record old { raised = new.raised; turns = new.turns; trail = new.trail; whole = new.whole; steps = new.steps }

-- a swap of the device, too
abbrev pub KeepsSeat : SeatState → SeatState → Type 0
KeepsSeat old new = new ≡ record old { raised = new.raised; turns = new.turns; trail = new.trail; origin = new.origin; gone = new.gone; whole = new.whole; steps = new.steps }
