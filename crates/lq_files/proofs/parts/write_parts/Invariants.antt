use Rattle.std.proofs.Common.{◌≡◌, ◌<◌, ◌≤◌, ◌++◌, ℕ, List, vec_len}
use Rattle.lq_files.specs.Parts.{AreParts, IsStreamed}
use Rattle.lq_files.proofs.parts.write_parts.Given as goal

-- the parts so far are written, or kept
abbrev pub invariant-loop-part : goal.invariant-loop-part
invariant-loop-part g l =
    let state = g.H.Host.state in
    record {
      streamed :
          (from : ℕ → List ℕ) (count : ℕ) → AreParts from count l.at l.parts
          → IsStreamed (state l.fn.host) l.h (state l.host) l.rest.items (from l.next) (l.fn.rest.items ++ from l.at);
      further : (from : ℕ → List ℕ) (count : ℕ) → AreParts from count l.at l.parts → l.at < count → 0 < l.part-index → (l.at < l.next) × (l.next ≤ count);
      begins : l.part-index ≡ 0 → l.next ≡ l.at;
      short : vec_len l.rest < 65536;
      handles : (state l.host).handles ≡ (state l.fn.host).handles;
      calm : g.H.Host.fault_count l.host ≡ g.H.Host.fault_count l.fn.host;
    }
