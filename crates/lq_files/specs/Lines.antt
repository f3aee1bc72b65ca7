-- A text with a line for each fate, whatever a fate is.
use Rattle.std.specs.Prelude.{ℕ, List, ◌++◌}
use Rattle.std.specs.List.{enumerate_from, flat_map}
use Rattle.std.specs.Fmt.{decimal}

-- a line for each fate, from number n on; `words` are what it says behind the number
abbrev pub lines_of : {F : Type 0} → (F → List ℕ) → ℕ → List F → List ℕ
lines_of words n fates = flat_map (λ packet. decimal packet.0 ++ words packet.1) (enumerate_from n fates)
