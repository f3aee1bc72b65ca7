-- Threads may share the fate words that a closed table lends: what a `&` to a row of slots holds is the same to each thread where that of a value is.
use mathlib.Core.Bool.{Bool, true, false}
use mathlib.Core.List.{List, [], ◌∷◌}
use denote.Builtin.{u64}
use denote.Param.Send.{Common, IsSync, sendable}
use denote.RattleType.{RattleType}
use denote.RawPtr.{Ptr, block_of, block_ptr, count_of, null_ptr, ◌+ₚ◌}
use denote.Ref.{NamedLft}
use denote.Struct.Owning.{shape}
use denote.Struct.Struct.{Struct}
use Rattle.core.specs.Mem.Slots.Ownership.{bytes_of, slot_lent, slots_lent}
use Rattle.core.specs.contracts.slots.Slots as Slots
use Rattle.lq_table.specs.contracts.ended.FateWords.{the_row}

module _ (R : RattleType) (s : IsSync R) where
  slot-shared : (filled : Bool) (p : Ptr) (x : R.Denot) → Common (slot_lent R filled p x)
  slot-shared true (block_ptr b o) x κ = (tt, s.shared x b o κ)
  slot-shared true null_ptr x κ = (tt, s.shared x (block_of null_ptr) (count_of null_ptr) κ)
  slot-shared false p x κ = tt

  row-shared : (p : Ptr) (xs : List R.Denot) (filled : List Bool) → Common (slots_lent R p xs filled)
  row-shared p [] filled κ = tt
  row-shared p (x ∷ xs) [] κ = tt
  row-shared p (x ∷ xs) (f ∷ fs) κ = (slot-shared f p x κ, row-shared (p +ₚ bytes_of R) xs fs κ)

  slots-shared : IsSync (Slots.the_row R)
  slots-shared = let fields : IsSync (Struct (shape (Slots.the_type R))) = search sendable depth 20 in record { shared = λ d b o κ. (fields.shared (d.ptr, (d.len, tt)) b o κ, (tt, row-shared d.ptr d.items d.filled κ)) }

pub words-shared : (a : NamedLft) → IsSync (the_row a)
words-shared a = let slots : IsSync (Slots.the_row u64) = slots-shared u64 (search sendable) in search sendable depth 20
