use Rattle.std.proofs.Common.{sym}
use Rattle.lq_table.specs.Places.{state_place, lock_place, inside_place, size_place}
use Rattle.lq_table.specs.Sees.{closed_words}
use Rattle.lq_table.proofs.ReadBack.{got}
use Rattle.lq_table.proofs.ended.Closed.words.Goals as goal

pub returns-clause-state : goal.returns-clause-state
returns-clause-state g c = sym (got (closed_words c.args.self.now) state_place c.word.result 0 c.word.ensures)

pub returns-clause-lock : goal.returns-clause-lock
returns-clause-lock g c = sym (got (closed_words c.args.self.now) lock_place c.word-2.result 0 c.word-2.ensures)

pub returns-clause-inside : goal.returns-clause-inside
returns-clause-inside g c = sym (got (closed_words c.args.self.now) inside_place c.word-3.result 0 c.word-3.ensures)

pub returns-clause-size : goal.returns-clause-size
returns-clause-size g c = sym (got (closed_words c.args.self.now) size_place c.word-4.result 0 c.word-4.ensures)
