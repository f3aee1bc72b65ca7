-- A card on a wire, as code has it.
use Rattle.std.specs.Prelude.{ℕ, ◌+◌, ◌*◌, ◌^◌, Bool, true, false, nat_le, if◌then◌else◌, List, [], ◌∷◌, Option, Some, None}
use Rattle.std.specs.List.{sum_by}
use Rattle.lq_model.specs.Wire.{delay}
use Rattle.lq_model.specs.declared.flight.Flight.{Flight}
use Rattle.lq_model.specs.declared.plan.Card.{Card}

abbrev pub flight_lengths : List Flight → ℕ
flight_lengths ring = sum_by (λ flight. flight.length) ring

-- whether the oldest frame has left the wire by a moment
abbrev pub first_has_left : ℕ → List Flight → Bool
first_has_left now [] = false
first_has_left now (flight ∷ ring) = nat_le flight.ends now

-- a moment is due: up to a moment, or whatever it is
abbrev pub due_by : Option ℕ → ℕ → Bool
due_by (Some until) now = nat_le now until
due_by None now = true

-- the moment of the next interrupt, if it is due
abbrev pub due_at : Card → (ℕ → Bool) → List Flight → Option ℕ
due_at card due [] = None
due_at card due (flight ∷ ring) = if due (flight.ends + delay card) then Some (flight.ends + delay card) else None

-- no later is a packet accepted behind so many others: packets come up to the year 2554, and each frame may put off the next one
abbrev pub latest : ℕ → ℕ
latest accepted = 2 ^ 96 + accepted * 2 ^ 75 + 2 ^ 74
