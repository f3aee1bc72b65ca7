-- The fates that the words of stations tell.
use Rattle.std.specs.Option.{option_map_or}
use Rattle.std.specs.Prelude.{◌≡◌, ◌≢◌, ◌<◌, ◌≤◌, ◌==◌, ℕ, ◌/◌, ◌%◌, if◌then◌else◌, List, [], length, map, slice_get, slice_index, slice_index_or, Option, Some}
use Rattle.lq_model.specs.Numbers.{first_numbers}
use Rattle.lq_model.specs.Plan.{station_in}
use Rattle.lq_model.specs.declared.fate.Cause.TheVariants.{Event, Hung}
use Rattle.lq_model.specs.declared.fate.Fate.{Fate}
use Rattle.lq_model.specs.declared.fate.Fate.TheVariants.{Sent, Full, Shrunk, Purged, Refused}
use Rattle.lq_model.specs.declared.fate.Info.{Info}
use Rattle.lq_table.specs.Ended.{EndedState, lent_fates}
use Rattle.lq_table.specs.declared.ended.FateWords.{FateWords}

-- THE FATE OF A WORD

-- of a word's kind, its 8 bits and its rest
abbrev pub fate_of_parts : ℕ → ℕ → ℕ → Fate
fate_of_parts kind small rest =
    if kind == 1 then Sent small rest else
    if kind == 2 then Full rest else
    if kind == 3 then Shrunk rest else
    if kind == 4 then Purged (if small == 0 then Event rest else Hung rest) else Refused rest

-- the fate that a word stands for (`IsWordOf`); of a word that stands for none, any
abbrev pub fate_of_word : ℕ → Fate
fate_of_word word = fate_of_parts (word % 8) (word / 8 % 256) (word / 2048)

-- THE FATES OF A RUN'S PACKETS

-- the fate word of packet n, which stands at its number among the words of its station; 0 where there is none
abbrev pub word_in : List Info → List (List ℕ) → ℕ → ℕ
word_in infos words n = slice_index (slice_index_or words (station_in infos n) []) n

-- packet n has the n-th; `words` has those of each station
abbrev pub fates_in : List Info → List (List ℕ) → List Fate
fates_in infos words = map (λ n. fate_of_word (word_in infos words n)) (first_numbers (length infos))

-- the words of stations that have ended
abbrev pub words_kept : List EndedState → List (List ℕ)
words_kept ended = map (λ e. e.words) ended

-- the fates that they tell
abbrev pub fates_told : List Info → List EndedState → List Fate
fates_told infos ended = fates_in infos (words_kept ended)

-- they tell one of each packet
pub record TellEach (infos : List Info) (ended : List EndedState) : Type 0 where
  pub few : length infos ≤ 1000000
  pub stations : length ended ≤ 8
  pub each : (n : ℕ) → n < length infos → word_in infos (words_kept ended) n ≢ 0

-- LENT WORDS

-- the words of each station, as they are lent
abbrev pub words_lent : List (Option FateWords) → List (List ℕ)
words_lent lent = map (λ o. option_map_or (λ w. lent_fates w) o []) lent

-- a station lends these
pub record IsLentBy (e : EndedState) (w : FateWords) : Type 0 where
  pub packets : w.packets ≡ e.packets
  pub fates : lent_fates w ≡ e.words

-- those of the first so many stations, each at the station's number
pub record AreLent (ended : List EndedState) (count : ℕ) (lent : List (Option FateWords)) : Type 0 where
  pub each : (station : ℕ) (e : EndedState) → station < count → slice_get ended station ≡ Some e → (w : FateWords) × (slice_get lent station ≡ Some (Some w)) × IsLentBy e w
