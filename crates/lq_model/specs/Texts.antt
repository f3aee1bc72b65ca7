-- The lines that tell what became of the packets.
use Rattle.std.specs.Prelude.{ℕ, ◌/◌, Bool, true, false, ◌&&◌, ◌==◌, List, [], ◌∷◌, ◌++◌, length, count_by, codes}
use Rattle.std.specs.List.{enumerate_from, flat_map, zip}
use Rattle.std.specs.Fmt.{decimal}
pub use Rattle.lq_model.specs.Numbers.{first_numbers}
use Rattle.lq_model.specs.declared.fate.Info.{Info}
use Rattle.lq_model.specs.declared.flight.Flight.{Flight}
use Rattle.lq_model.specs.declared.plan.Card.{Card}
use Rattle.lq_model.specs.declared.fate.Cause.TheVariants.{Event, Hung}
use Rattle.lq_model.specs.declared.fate.Fate.{Fate}
use Rattle.lq_model.specs.declared.fate.Fate.TheVariants.{Sent, Full, Shrunk, Purged, Refused}

-- FATES

abbrev pub fate_words : Fate → List ℕ
fate_words (Sent unit serial) = codes " sent " ++ (decimal unit ++ (codes " " ++ (decimal serial ++ 10 ∷ [])))
fate_words (Full seen) = codes " full " ++ (decimal seen ++ 10 ∷ [])
fate_words (Shrunk event) = codes " shrunk " ++ (decimal event ++ 10 ∷ [])
fate_words (Purged (Event event)) = codes " purged " ++ (decimal event ++ 10 ∷ [])
fate_words (Purged (Hung unit)) = codes " purged hung" ++ 10 ∷ []
fate_words (Refused event) = codes " refused " ++ (decimal event ++ 10 ∷ [])

-- a line for each packet: its number and its fate
abbrev pub fates_text : List Fate → List ℕ
fates_text fates = flat_map (λ packet. decimal packet.0 ++ fate_words packet.1) (enumerate_from 0 fates)

-- COUNTS

abbrev pub is_sent : Fate → Bool
is_sent (Sent unit serial) = true
is_sent _ = false

abbrev pub is_sent_by : ℕ → Fate → Bool
is_sent_by u (Sent unit serial) = unit == u
is_sent_by u _ = false

abbrev pub is_full : Fate → Bool
is_full (Full seen) = true
is_full _ = false

abbrev pub is_shrunk : Fate → Bool
is_shrunk (Shrunk event) = true
is_shrunk _ = false

abbrev pub is_purged : Fate → Bool
is_purged (Purged cause) = true
is_purged _ = false

abbrev pub is_refused : Fate → Bool
is_refused (Refused event) = true
is_refused _ = false

-- the four counts of packets that were not sent, at the end of a line
abbrev pub unsent_words : ((Fate → Bool) → ℕ) → List ℕ
unsent_words count =
    codes " full "
    ++ (decimal (count is_full) ++ (codes " shrunk " ++ (decimal (count is_shrunk) ++ (codes " purged " ++ (decimal (count is_purged) ++ (codes " refused " ++ (decimal (count is_refused) ++ 10 ∷ [])))))))

-- how many packets of a station have such a fate
abbrev pub count_at : List Fate → List Info → ℕ → (Fate → Bool) → ℕ
count_at fates infos station test = count_by (λ p. test p.0 && (p.1.station == station)) (zip fates infos)

abbrev pub unit_line : List Fate → ℕ → List ℕ
unit_line fates unit = codes "unit " ++ (decimal unit ++ (codes " sent " ++ (decimal (count_by (is_sent_by unit) fates) ++ 10 ∷ [])))

abbrev pub station_line : List Fate → List Info → ℕ → List ℕ
station_line fates infos station = codes "station " ++ (decimal station ++ unsent_words (count_at fates infos station))

abbrev pub total_line : List Fate → List ℕ
total_line fates =
    codes "total " ++ (decimal (length fates) ++ (codes " sent " ++ (decimal (count_by is_sent fates) ++ unsent_words (λ test. count_by test fates))))

unfoldable pub counts_text : List Fate → List Info → ℕ → ℕ → List ℕ
counts_text fates infos stations units =
    flat_map (unit_line fates) (first_numbers units) ++ flat_map (station_line fates infos) (first_numbers stations) ++ total_line fates

-- TIMES

-- a line for each packet that a card accepted, in that order: its number, when it was accepted, and when its frame ended, in nanoseconds rounded down
abbrev pub time_line : Card → Flight → List ℕ
time_line card flight =
    decimal flight.number ++ (codes " " ++ (decimal (flight.accepted / card.rate_kbit) ++ (codes " " ++ (decimal (flight.ends / card.rate_kbit) ++ 10 ∷ []))))

unfoldable pub times_text : Card → List Flight → List ℕ
times_text card flights = flat_map (time_line card) flights
