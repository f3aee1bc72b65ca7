-- The packets that a unit sent, read off a list of fates in which packet n has the n-th.
use Rattle.std.specs.Prelude.{ℕ, ◌+◌, Bool, false, ◌&&◌, ◌==◌, if◌then◌else◌, List, [], ◌∷◌, map, count_by}
use Rattle.lq_model.specs.Numbers.{first_numbers}
use Rattle.lq_model.specs.Texts.{is_sent_by}
use Rattle.lq_model.specs.declared.fate.Fate.{Fate}
use Rattle.lq_model.specs.declared.fate.Fate.TheVariants.{Sent}

-- sent by unit u with serial s
abbrev pub is_sent_as : ℕ → ℕ → Fate → Bool
is_sent_as u s (Sent unit serial) = (unit == u) && (serial == s)
is_sent_as u s _ = false

-- the number of the first packet whose fate passes the test; that of no packet where there is none
abbrev pub first_passing : (Fate → Bool) → List Fate → ℕ
first_passing test [] = 0
first_passing test (fate ∷ fates) = if test fate then 0 else first_passing test fates + 1

-- the packets that a unit sent, in order of serial: first the one with serial 0
abbrev pub sent_of : List Fate → ℕ → List ℕ
sent_of fates unit = map (λ serial. first_passing (is_sent_as unit serial) fates) (first_numbers (count_by (is_sent_by unit) fates))
