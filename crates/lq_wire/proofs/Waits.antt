-- How many packets wait.
use Rattle.std.proofs.Common.{◌≡◌, ℕ, ◌+◌, List, ◌++◌, Option, None, Some, length, refl, ap, arith, length-append}
use Rattle.std.specs.Prelude.{option_to_list}
use Rattle.lq_model.specs.Account.{held, held_in}
use Rattle.lq_model.specs.Alone.{RunningStation}
use Rattle.lq_model.specs.Band.{Band, held_of}
use Rattle.lq_lone.specs.Lone.{IsLone, LoneState, slot_count, station_with, waiting}

four : (a b c d : List ℕ) → length (a ++ (b ++ (c ++ d))) ≡ length a + (length b + (length c + length d))
four a b c d = simp length-append

slot-long : (slot : Option ℕ) → length (option_to_list slot) ≡ slot_count slot
slot-long None = refl
slot-long (Some n) = refl

pub held-waits : (m : LoneState) (s : RunningStation) → IsLone m s → waiting m ≡ length (held s.account)
held-waits m s lone =
    let t = station_with lone.rest m.len m.slot m.stopped m.clean in
    let is : length (held s.account) ≡ length (held t.account) = ap (λ (x : RunningStation). length (held x.account)) lone.is in
    let sum = four (option_to_list m.slot) (held_in t.account 0) (held_in t.account 1) (held_in t.account 2) in
    let slot = slot-long m.slot in
    let low : length (held_in t.account 0) ≡ length (held_of m.low) = ap (λ (b : Band). length (held_of b)) lone.low in
    let mid : length (held_in t.account 1) ≡ length (held_of m.mid) = ap (λ (b : Band). length (held_of b)) lone.mid in
    let high : length (held_in t.account 2) ≡ length (held_of m.high) = ap (λ (b : Band). length (held_of b)) lone.high in
    omega arith
