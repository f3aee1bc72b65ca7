-- Counts of fates, and the lines that tell them.
use Rattle.std.specs.Prelude.{◌≡◌, ℕ, ◌+◌, ◌<◌, ◌^◌, Bool, if◌then◌else◌, All, List, [], ◌∷◌, ◌++◌, length, map, count_by, codes, slice_index, slice_index_or, slice_set}
use Rattle.std.specs.List.{flat_map}
use Rattle.std.specs.Fmt.{decimal}
use Rattle.lq_model.specs.Numbers.{first_numbers}
use Rattle.lq_model.specs.Texts.{count_at, is_full, is_purged, is_refused, is_sent, is_sent_by, is_shrunk}
use Rattle.lq_model.specs.declared.fate.Fate.{Fate}
use Rattle.lq_model.specs.declared.fate.Fate.TheVariants.{Sent, Full, Shrunk, Purged, Refused}
use Rattle.lq_model.specs.declared.fate.Info.{Info}
use Rattle.lq_fates.specs.declared.counts.Unsent.{Unsent}
use Rattle.lq_fates.specs.declared.counts.Counts.{Counts}

-- WHAT THE COUNTS ARE

-- the packets that weren't sent, counted in this way
abbrev pub unsent_of : ((Fate → Bool) → ℕ) → Unsent
unsent_of count = record { full = count is_full; shrunk = count is_shrunk; purged = count is_purged; refused = count is_refused }

-- the counts are those of the fates, by unit, by station and of all
pub record AreCounts (fates : List Fate) (infos : List Info) (stations units : ℕ) (counts : Counts) : Type 0 where
  pub by_unit : counts.by_unit.items ≡ map (λ unit. count_by (is_sent_by unit) fates) (first_numbers units)
  pub by_station : counts.by_station.items ≡ map (λ station. unsent_of (count_at fates infos station)) (first_numbers stations)
  pub sent : counts.sent ≡ count_by is_sent fates
  pub unsent : counts.unsent ≡ unsent_of (λ test. count_by test fates)

-- ONE PACKET MORE

abbrev pub none_unsent : Unsent
none_unsent = record { full = 0; shrunk = 0; purged = 0; refused = 0 }

abbrev pub counted_unsent : Fate → Unsent → Unsent
counted_unsent (Sent unit serial) u = u
counted_unsent (Full seen) u = record u { full = u.full + 1 }
counted_unsent (Shrunk event) u = record u { shrunk = u.shrunk + 1 }
counted_unsent (Purged cause) u = record u { purged = u.purged + 1 }
counted_unsent (Refused event) u = record u { refused = u.refused + 1 }

abbrev pub counted_by_unit : Fate → List ℕ → List ℕ
counted_by_unit (Sent unit serial) counts = slice_set counts unit (slice_index counts unit + 1)
counted_by_unit (Full seen) counts = counts
counted_by_unit (Shrunk event) counts = counts
counted_by_unit (Purged cause) counts = counts
counted_by_unit (Refused event) counts = counts

abbrev pub counted_by_station : Fate → ℕ → List Unsent → List Unsent
counted_by_station fate station counts = slice_set counts station (counted_unsent fate (slice_index_or counts station none_unsent))

-- one more can be counted
abbrev pub CanCountOneMore : Unsent → Type 0
CanCountOneMore u = (u.full < 2 ^ 63) × (u.shrunk < 2 ^ 63) × (u.purged < 2 ^ 63) × (u.refused < 2 ^ 63)

pub record CanCount (counts : Counts) : Type 0 where
  pub by_unit : All (λ sent. sent < 2 ^ 63) counts.by_unit.items
  pub by_station : All CanCountOneMore counts.by_station.items
  pub sent : counts.sent < 2 ^ 63
  pub unsent : CanCountOneMore counts.unsent

-- the second counts have one packet more than the first, of this fate and station
pub record AreWithOne (before after : Counts) (fate : Fate) (station : ℕ) : Type 0 where
  pub by_unit : after.by_unit.items ≡ counted_by_unit fate before.by_unit.items
  pub by_station : after.by_station.items ≡ counted_by_station fate station before.by_station.items
  pub sent : after.sent ≡ (if is_sent fate then before.sent + 1 else before.sent)
  pub unsent : after.unsent ≡ counted_unsent fate before.unsent

-- LINES

abbrev pub unsent_text : Unsent → List ℕ
unsent_text u =
    codes " full " ++ (decimal u.full ++ (codes " shrunk " ++ (decimal u.shrunk ++ (codes " purged " ++ (decimal u.purged ++ (codes " refused " ++ (decimal u.refused ++ 10 ∷ [])))))))

abbrev pub unit_text : ℕ → ℕ → List ℕ
unit_text unit sent = codes "unit " ++ (decimal unit ++ (codes " sent " ++ (decimal sent ++ 10 ∷ [])))

abbrev pub station_text : ℕ → Unsent → List ℕ
station_text station unsent = codes "station " ++ (decimal station ++ unsent_text unsent)

-- a line for each count of a list, in order
abbrev pub unit_lines : List ℕ → List ℕ
unit_lines counts = flat_map (λ unit. unit_text unit (slice_index counts unit)) (first_numbers (length counts))

abbrev pub station_lines : List Unsent → List ℕ
station_lines counts = flat_map (λ station. station_text station (slice_index_or counts station none_unsent)) (first_numbers (length counts))

abbrev pub total_text : ℕ → ℕ → Unsent → List ℕ
total_text total sent unsent = codes "total " ++ (decimal total ++ (codes " sent " ++ (decimal sent ++ unsent_text unsent)))
