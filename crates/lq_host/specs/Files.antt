-- The files that a host in memory keeps, as a map from names to bytes.
use Rattle.std.specs.Prelude.{◌≡◌, ℕ, zero, suc, true, false, if◌then◌else◌, List, [], ◌∷◌, Some, None, string_bytes}
use Rattle.std.specs.Str.{bytes_eq}
use Rattle.lq_host.specs.Host.{Files}
use Rattle.lq_host.specs.declared.files.MemFile.{MemFile}

-- the bytes of the first file of this name
abbrev pub lookup : List MemFile → Files
lookup [] = λ name. None
lookup (f ∷ fs) = λ name. if bytes_eq name (string_bytes f.name) then Some f.bytes.items else lookup fs name

-- the first file of this name is the one at this place
abbrev pub IsFirstAt : List MemFile → ℕ → List ℕ → Type 0
IsFirstAt [] i name = ⊥
IsFirstAt (f ∷ fs) zero name = bytes_eq name (string_bytes f.name) ≡ true
IsFirstAt (f ∷ fs) (suc i) name = (bytes_eq name (string_bytes f.name) ≡ false) × IsFirstAt fs i name
