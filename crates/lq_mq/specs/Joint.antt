-- The packets that the children of a multi-queue root sent, in one list.
use Rattle.std.specs.Prelude.{ℕ, List, length, map, slice_get}
use Rattle.std.specs.List.{filter_map, flat_map}
use Rattle.lq_model.specs.Numbers.{first_numbers, greatest}

-- list i has the packets that child i sent, by serial: all packets by serial, and at one serial by child
abbrev pub joint : List (List ℕ) → List ℕ
joint lists = flat_map (λ serial. filter_map (λ list. slice_get list serial) lists) (first_numbers (greatest (map length lists)))
