-- Where the time of a record stands.
use Rattle.std.proofs.Common.{◌<◌, ◌≤◌, ◌+◌, ◌-◌, ℕ, suc, List, length, get_or, arith}
use Rattle.lq_pcap.specs.Reading.{ArePlaces}

-- the header of a record stands within the file
pub time_within : (bytes places : List ℕ) (i : ℕ) → ArePlaces bytes places → i < length places - 1 → get_or places i 0 + 16 ≤ length bytes
time_within bytes places i are below =
    let here = are.each i (omega arith) in
    let next = are.each (suc i) (omega arith) in
    let within = are.within (suc i) (omega arith) in
    omega arith
