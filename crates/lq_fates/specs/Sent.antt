-- The packets that each unit sent, and one packet more.
use Rattle.std.specs.Prelude.{◌≡◌, ◌<◌, ℕ, List, [], length, map, slice_get, slice_index_or, slice_set, Some}
use Rattle.lq_model.specs.Numbers.{first_numbers}
use Rattle.lq_model.specs.Sent.{sent_of}
use Rattle.lq_model.specs.declared.fate.Fate.{Fate}
use Rattle.lq_model.specs.declared.fate.Fate.TheVariants.{Sent, Full, Shrunk, Purged, Refused}

-- list u has the packets that unit u sent, in order of serial
abbrev pub sent_by_units : List Fate → ℕ → List (List ℕ)
sent_by_units fates units = map (λ unit. sent_of fates unit) (first_numbers units)

-- ONE PACKET MORE

-- of a packet that a unit sent: its serial is a place in the unit's list, where the unit has one
abbrev pub HasPlace : Fate → List (List ℕ) → Type 0
HasPlace (Sent unit serial) lists = (places : List ℕ) → slice_get lists unit ≡ Some places → serial < length places
HasPlace (Full seen) lists = Unit {0}
HasPlace (Shrunk event) lists = Unit {0}
HasPlace (Purged cause) lists = Unit {0}
HasPlace (Refused event) lists = Unit {0}

-- packet n stands at that place
abbrev pub laid : Fate → ℕ → List (List ℕ) → List (List ℕ)
laid (Sent unit serial) n lists = slice_set lists unit (slice_set (slice_index_or lists unit []) serial n)
laid (Full seen) n lists = lists
laid (Shrunk event) n lists = lists
laid (Purged cause) n lists = lists
laid (Refused event) n lists = lists
