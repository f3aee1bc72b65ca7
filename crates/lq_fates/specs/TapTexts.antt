-- The lines that tell what became of a tap's packets.
use Rattle.std.specs.Prelude.{ℕ, List, [], ◌∷◌, ◌++◌, length, count_by, codes}
use Rattle.std.specs.List.{enumerate_from, flat_map}
use Rattle.std.specs.Fmt.{decimal}
use Rattle.lq_fates.specs.Tap.{is_full_tap, is_lost, is_read}
use Rattle.lq_fates.specs.declared.tap_fate.TapFate.{TapFate}
use Rattle.lq_fates.specs.declared.tap_fate.TapFate.TheVariants.{Read, Full, Lost}

abbrev pub tap_fate_words : TapFate → List ℕ
tap_fate_words (Read place) = codes " read " ++ (decimal place ++ 10 ∷ [])
tap_fate_words (Full seen) = codes " full " ++ (decimal seen ++ 10 ∷ [])
tap_fate_words Lost = codes " lost" ++ 10 ∷ []

-- a line for each packet: its number and its fate
abbrev pub tap_fates_text : List TapFate → List ℕ
tap_fates_text fates = flat_map (λ packet. decimal packet.0 ++ tap_fate_words packet.1) (enumerate_from 0 fates)

-- total N read A full B lost C
abbrev pub tap_counts_line : List TapFate → List ℕ
tap_counts_line fates =
    codes "total " ++ (decimal (length fates) ++ (codes " read " ++ (decimal (count_by is_read fates)
    ++ (codes " full " ++ (decimal (count_by is_full_tap fates) ++ (codes " lost " ++ (decimal (count_by is_lost fates) ++ 10 ∷ [])))))))
