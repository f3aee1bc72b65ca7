use Rattle.lq_table_laws.proofs.Looks.{at_fate, at_producer, at_turn, looks_only}
use Rattle.lq_table.specs.Places.{fates_offset, producer_place, turn_place}
use Rattle.std.proofs.Common.{refl, ◌+◌}
use Rattle.lq_table_laws.proofs.laws.looks_are_no_moves.Goals as goal

pub returns : goal.returns
returns c = record {
  look = λ k place t same word e. looks_only k t.old t.rule place t.stored t.seat t.before t.after t.homes t.rule_after t.here t.live same e word;
  producer = λ k b t below same e. at_producer k t.old t.rule (producer_place b) t.stored t.seat t.before t.after t.homes t.rule_after t.here t.live same e b below refl;
  turn = λ k o t below same e. at_turn k t.old t.rule (turn_place o) t.stored t.seat t.before t.after t.homes t.rule_after t.here t.live same e o below refl;
  fate = λ k n t below same e. at_fate k t.old t.rule (fates_offset k + n) t.stored t.seat t.before t.after t.homes t.rule_after t.here t.live same e n below refl;
}
