use Rattle.std.proofs.Common.{ℕ, ◌+◌, ap, ◌∙◌, arith}
use Rattle.std.specs.Prelude.{max}
use Rattle.std.specs.Mem.Slots.{slots_counts}
use Rattle.lq_table.specs.Sees.{closed_words}
use Rattle.lq_table.proofs.Greatest.{reads_first, reads_next}
use Rattle.lq_table.proofs.ended.Closed.greatest_stop.Goals as goal

pub loop-queue-preserved : goal.loop-queue-preserved
loop-queue-preserved g c = let t = c.args.self.now in let all = (slots_counts t.ended.table.words).0 in let s = t.stopped in let before = c.loop-queue-test.true in
    c.max-most.ensures ∙ (ap (λ (most : ℕ). max most c.word.result) c.loop-queue.invariant ∙ reads_next _ (t.ended.fates_from + t.ended.packets) c.loop-queue.queue _ (omega arith) c.word.ensures)

pub loop-queue-init : goal.loop-queue-init
loop-queue-init g c = let t = c.args.self.now in reads_first (closed_words t) (t.ended.fates_from + t.ended.packets) c.word-most.result c.word-most.ensures
