-- What a file gave, and what reading it left of the host.
use Rattle.std.specs.Prelude.{◌≡◌, ◌⊎◌, ◌<◌, ◌≤◌, ℕ, List, ◌∷◌, length, Option, Some}
use Rattle.lq_host.specs.Host.{HostState}
use Rattle.lq_files.specs.declared.read.Input.{Input}
use Rattle.lq_files.specs.declared.read.Input.TheVariants.{Whole, TooLong}

-- what was read of these bytes under a limit: all of them, or it is known that there are more than the limit
abbrev pub IsInput : ℕ → List ℕ → Input → Type 0
IsInput limit bytes (Whole taken) = taken.items ≡ bytes
IsInput limit bytes TooLong = limit < length bytes

-- the same of a file, which is there
abbrev pub IsInputOf : ℕ → Option (List ℕ) → Input → Type 0
IsInputOf limit file (Whole taken) = file ≡ Some taken.items
IsInputOf limit file TooLong = (bytes : List ℕ) × (file ≡ Some bytes) × (limit < length bytes)

abbrev pub IsInputWithin : ℕ → Input → Type 0
IsInputWithin limit (Whole taken) = length taken.items ≤ limit
IsInputWithin limit TooLong = Unit {0}

-- the host where a file of this name was read once, and its reads returned these bytes; all else is as it was
abbrev pub file_read : HostState → List ℕ → List ℕ → HostState
file_read host name bytes = record host { given = record { name = name; bytes = bytes } ∷ host.given }

-- the reading of a file was stopped: it wasn't asked for, or its reads returned some bytes
abbrev pub MayHaveRead : List ℕ → HostState → HostState → Type 0
MayHaveRead name old new = (new ≡ old) ⊎ ((bytes : List ℕ) × (new ≡ file_read old name bytes))
