use Rattle.std.proofs.Common.{◌≡◌, ◌≤◌, ◌-◌, ◌++◌, vec_len}
use Rattle.lq_files.proofs.parts.make_text.Given as goal

-- the pieces so far stand in the text
abbrev pub invariant-loop-next : goal.invariant-loop-next
invariant-loop-next g l = record {
  text : l.text.items ++ g.S.Source.from l.source l.next ≡ g.S.Source.from l.source l.start;
  from : l.start ≤ l.next;
  within : l.next ≤ l.end;
  none : l.next ≡ l.start → vec_len l.text ≡ 0;
}

abbrev pub decreases-loop-next : goal.decreases-loop-next
decreases-loop-next g l = l.end - l.next
