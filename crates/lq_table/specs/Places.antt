-- Where each word of the table lies. A word's number is the format's; the place is the number of the kit's word.
-- Each of the first 9 + senders words has a line of its own, since several threads write it; the others lie close together behind.
use Rattle.std.specs.Prelude.{◌≡◌, ℕ, zero, suc, ◌+◌, ◌*◌, ◌-◌, ◌<◌, List, [], ◌∷◌, length, drop, slice_index, nat_lt, if◌then◌else◌}
use Rattle.lq_table.specs.Views.{Setup}

-- How many words a line has: 128 bytes, since processors fetch lines of 64 bytes in pairs.
abbrev pub line_words : ℕ
line_words = 16

-- the place of the word of this number, of those that have a line of their own
abbrev pub line_of : ℕ → ℕ
line_of number = line_words * number

-- the place of the word of this number
abbrev pub place : ℕ → ℕ → ℕ
place senders number = if nat_lt number (9 + senders) then line_of number else line_of (9 + senders) + (number - (9 + senders))

abbrev pub state_place : ℕ
state_place = line_of 1

abbrev pub lock_place : ℕ
lock_place = line_of 2

abbrev pub inside_place : ℕ
inside_place = line_of 4

abbrev pub size_place : ℕ
size_place = line_of 5

abbrev pub producer_place : ℕ → ℕ
producer_place band = line_of (6 + band)

abbrev pub turn_place : ℕ → ℕ
turn_place owner = line_of (9 + owner)

-- slot i of band b
abbrev pub slot_word : Setup → ℕ → ℕ → ℕ
slot_word k b i = line_of (9 + k.senders) + b * k.max_len + i

abbrev pub fates_offset : Setup → ℕ
fates_offset k = line_of (9 + k.senders) + 3 * k.max_len

-- the stop words of the queues above 0 stand behind the fates
abbrev pub stops_offset : Setup → ℕ
stops_offset k = fates_offset k + length k.infos

abbrev pub xoff_word : Setup → ℕ → ℕ
xoff_word k zero = line_of 3
xoff_word k (suc queue) = stops_offset k + queue

-- how many words have a number
abbrev pub word_numbers : Setup → ℕ
word_numbers k = 9 + k.senders + 3 * k.max_len + length k.infos + (k.queues - 1)

-- each word lies at the place of its number
pub record HavePlaces (k : Setup) : Type 0 where
  pub lines : (number : ℕ) → number < 9 + k.senders → place k.senders number ≡ line_of number
  pub slots : (b i : ℕ) → place k.senders (9 + k.senders + b * k.max_len + i) ≡ slot_word k b i
  pub fates : (n : ℕ) → place k.senders (9 + k.senders + 3 * k.max_len + n) ≡ fates_offset k + n
  pub stops : (queue : ℕ) → place k.senders (9 + k.senders + 3 * k.max_len + length k.infos + queue) ≡ xoff_word k (suc queue)
  -- no two words lie at one place
  pub apart : (m n : ℕ) → place k.senders m ≡ place k.senders n → m ≡ n
  -- and each place is one of the table's
  pub within : (n : ℕ) → n < word_numbers k → place k.senders n < stops_offset k + (k.queues - 1)

-- the first word of each of the first n lines
abbrev pub line_starts : ℕ → List ℕ → List ℕ
line_starts zero ws = []
line_starts (suc n) ws = slice_index ws 0 ∷ line_starts n (drop line_words ws)
