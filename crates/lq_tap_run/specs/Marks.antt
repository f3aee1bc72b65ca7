-- Which fates are known.
use Rattle.std.specs.Prelude.{◌≡◌, ℕ, List, length, slice_get, Some, Contains}
use Rattle.lq_band_laws.specs.Times.{times}
use Rattle.lq_fates.specs.declared.tap_fate.TapFate.{TapFate}
use Rattle.lq_fates.specs.declared.tap_fate.TapFate.TheVariants.{Read, Full, Lost}
use Rattle.lq_tap_run.specs.Lanes.{numbers_of}

-- a packet that wasn't found full has no fate yet, which the fate of a lost one stands for
abbrev pub IsMarkedFull : List (ℕ × ℕ) → ℕ → TapFate → Type 0
IsMarkedFull fulls n (Full seen) = Contains fulls (n, seen)
IsMarkedFull fulls n (Read place) = ⊥
IsMarkedFull fulls n Lost = times n (numbers_of fulls) ≡ 0

pub record AreMarkedFull (count : ℕ) (fulls : List (ℕ × ℕ)) (fates : List TapFate) : Type 0 where
  pub long : length fates ≡ count
  pub each : (n : ℕ) (fate : TapFate) → slice_get fates n ≡ Some fate → IsMarkedFull fulls n fate

-- and one that wasn't read
abbrev pub IsMarked : List (ℕ × ℕ) → List ℕ → ℕ → TapFate → Type 0
IsMarked fulls read n (Full seen) = Contains fulls (n, seen)
IsMarked fulls read n (Read place) = slice_get read place ≡ Some n
IsMarked fulls read n Lost = (times n (numbers_of fulls) ≡ 0) × (times n read ≡ 0)

pub record AreMarked (count : ℕ) (fulls : List (ℕ × ℕ)) (read : List ℕ) (fates : List TapFate) : Type 0 where
  pub long : length fates ≡ count
  pub each : (n : ℕ) (fate : TapFate) → slice_get fates n ≡ Some fate → IsMarked fulls read n fate
  -- each packet that was read has its place
  pub placed : (place n : ℕ) → slice_get read place ≡ Some n → slice_get fates n ≡ Some (Read place)
