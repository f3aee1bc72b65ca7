-- Which packets a band holds after a change.
use Rattle.std.proofs.Common.{◌≡◌, ℕ, ◌<◌, ◌≤◌, List, [], ◌∷◌, ◌⊎◌, inl, inr, map, take, drop, length, Contains, sym, ap, ◌∙◌, subst, get_or, set, take-append-drop, arith}
use Rattle.std.proofs.Math.ListN.{get_or-map}
use Rattle.std.proofs.Math.Seq.{take-nil}
use Rattle.std.proofs.lemmas.Bool.{cases_lt, cases_eq}
use Rattle.std.proofs.lemmas.List.{get_or-set_same, get_or-set_other, set_past}
use Rattle.std.proofs.lemmas.List.Elements.{Contains-append_left, Contains-append_right}
use Rattle.lq_model.specs.declared.machine.Packet.{Packet}

-- a band that one of them was replaced by holds what it held, or what that one holds
pub set-holds : (bands : List (List Packet)) (band k : ℕ) (now : List Packet) (p : Packet)
    → Contains (get_or (set bands band now) k []) p → Contains (get_or bands k []) p ⊎ ((k ≡ band) × Contains now p)
set-holds bands band k now p held = elim (cases_eq k band) [ inl same ↦ at_band same (cases_lt band (length bands)) | inr other ↦ inl (rw (get_or-set_other bands band k now [] other) at held) ]
  where
    at_band : k ≡ band → (band < length bands) ⊎ (length bands ≤ band) → Contains (get_or bands k []) p ⊎ ((k ≡ band) × Contains now p)
    at_band same (inl within) = inr (same, rw (get_or-set_same bands band now [] within) at (rw same at held))
    at_band same (inr past) = inl (rw (set_past bands band now past) at held)

-- a band without its first packet
pub taken-holds : (bands : List (List Packet)) (band k : ℕ) (first : Packet) (rest : List Packet) (p : Packet)
    → get_or bands band [] ≡ first ∷ rest → Contains (get_or (set bands band rest) k []) p → Contains (get_or bands k []) p
taken-holds bands band k first rest p is held = elim (set-holds bands band k rest p held) [
  | inl h ↦ h
  | inr h ↦ subst (λ xs. Contains xs p) (sym (ap (λ n. get_or bands n []) h.0 ∙ is)) (Contains-append_right (first ∷ []) rest p h.1)
]

-- bands cut to a length
pub cut-holds : (bands : List (List Packet)) (len k : ℕ) (p : Packet)
    → Contains (get_or (map (λ band. take len band) bands) k []) p → Contains (get_or bands k []) p
cut-holds bands len k p held =
    let cut : Contains (take len (get_or bands k [])) p = subst (λ xs. Contains xs p) (get_or-map (λ band. take len band) bands k []) (subst (λ none. Contains (get_or (map (λ band. take len band) bands) k none) p) (sym (take-nil len)) held) in
    subst (λ xs. Contains xs p) (take-append-drop len (get_or bands k [])) (Contains-append_left (take len (get_or bands k [])) (drop len (get_or bands k [])) p cut)

-- an empty band holds nothing
pub empty-holds : (xs : List Packet) (p : Packet) → xs ≡ [] → Contains xs p → ⊥
empty-holds xs p e (k, below, at) = let none : length xs ≡ 0 = ap length e in omega arith
