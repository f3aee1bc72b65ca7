use Rattle.std.proofs.Common.{◌≡◌, ℕ, ◌+◌, ◌<◌, ◌≤◌, length, get_or}
use Rattle.lq_lone.proofs.line.Line.resize.Given as goal

-- those below i were moved to the front, and the others are where they were
abbrev pub invariant-loop-i : goal.invariant-loop-i
invariant-loop-i l = record {
  long : length l.self.joined.items ≡ length l.fn.self.joined.items;
  taken : l.self.taken ≡ l.fn.self.taken;
  moved : (k : ℕ) → k < l.i → get_or l.self.joined.items k 0 ≡ get_or l.fn.self.joined.items (l.fn.self.taken + k) 0;
  rest : (k : ℕ) → l.i ≤ k → get_or l.self.joined.items k 0 ≡ get_or l.fn.self.joined.items k 0;
}
