-- The steps on the turn words.
use Rattle.std.specs.Prelude.{ℕ, Bool, ◌+◌, ◌*◌, Some, slice_set, None}
use Rattle.lq_log.specs.Made.{Made, exchange, store, load}
use Rattle.lq_table.specs.Places.{turn_place}
use Rattle.lq_table.specs.Views.{View}

-- take_turn: the turn of a packet, which has this rank of its owner's packets, is taken where it is due.

abbrev pub take_turn_log : ℕ → ℕ → Bool → Made
take_turn_log owner rank got = exchange (turn_place owner) (2 * rank) (2 * rank + 1) got

-- the turn of the packet n, which has this rank of its owner's packets, is taken: the seat brings n
abbrev pub take_turn_view : ℕ → ℕ → ℕ → View → View
take_turn_view n owner rank v = record v { packets = record v.packets { busy = Some n; fresh = Some n }; turns = slice_set v.turns owner (2 * rank + 1) }

-- give_turn: it is over.

abbrev pub give_turn_log : ℕ → ℕ → Made
give_turn_log owner rank = store (turn_place owner) (2 * rank + 2)

-- the turn of the owner's packet of this rank is over
abbrev pub give_turn_view : ℕ → ℕ → View → View
give_turn_view owner rank v = record v { packets = record v.packets { busy = None }; turns = slice_set v.turns owner (2 * rank + 2) }

-- load_turn: a turn word is loaded.

abbrev pub load_turn_log : ℕ → ℕ → Made
load_turn_log owner found = load (turn_place owner) found
