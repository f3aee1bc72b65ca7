-- Fates as words of a station's table. A word has a kind in its lowest 3 bits, then 8 bits and then the rest:
--
--   fate                 kind   the 8 bits   the rest
--   sent                    1         unit     serial
--   full                    2            0       seen
--   shrunk                  3            0      event
--   purged by an event      4            0      event
--   purged, hung            4            1       unit
--   refused                 5            0      event
use Rattle.std.specs.Prelude.{◌≡◌, ◌^◌, ℕ, ◌+◌, ◌*◌, ◌<◌}
use Rattle.lq_model.specs.declared.fate.Cause.TheVariants.{Event, Hung}
use Rattle.lq_model.specs.declared.fate.Fate.{Fate}
use Rattle.lq_model.specs.declared.fate.Fate.TheVariants.{Sent, Full, Shrunk, Purged, Refused}

abbrev pub word_of_parts : ℕ → ℕ → ℕ → ℕ
word_of_parts kind small rest = kind + 8 * small + 2048 * rest

abbrev pub word_of : Fate → ℕ
word_of (Sent unit serial) = word_of_parts 1 unit serial
word_of (Full seen) = word_of_parts 2 0 seen
word_of (Shrunk event) = word_of_parts 3 0 event
word_of (Purged (Event event)) = word_of_parts 4 0 event
word_of (Purged (Hung unit)) = word_of_parts 4 1 unit
word_of (Refused event) = word_of_parts 5 0 event

-- the numbers of a fate that has a word: its unit has 8 bits, and each other number 32
abbrev pub HasWord : Fate → Type 0
HasWord (Sent unit serial) = (unit < 256) × (serial < 2 ^ 32)
HasWord (Full seen) = seen < 2 ^ 32
HasWord (Shrunk event) = event < 2 ^ 32
HasWord (Purged (Event event)) = event < 2 ^ 32
HasWord (Purged (Hung unit)) = unit < 2 ^ 32
HasWord (Refused event) = event < 2 ^ 32

-- the word is the fate's
pub record IsWordOf (fate : Fate) (word : ℕ) : Type 0 where
  pub has_word : HasWord fate
  pub word_is : word ≡ word_of fate
