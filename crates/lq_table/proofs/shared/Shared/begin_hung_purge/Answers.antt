mod Kept
use Rattle.std.proofs.Common.{arith, refl}
use Rattle.lq_table.specs.Keyed.{keyed_setup}
use Rattle.lq_table.proofs.shared.Shared.begin_hung_purge.Answers.Kept.{purges_hung}
use Rattle.lq_log.specs.Made.{seen}
use Rattle.lq_table.proofs.StepFacts.{makes_one}
use Rattle.lq_table.proofs.shared.Shared.begin_hung_purge.Goals as goal

pub load_word-requires : goal.load_word-requires
load_word-requires g c = (
  c.type_bounds.send-D,
  (
      let t = c.args.self.now in let seat = c.args.cpu.now.known.seat in let at = c.requires.at in
      (c.requires.seat.0, (let wide = t.sized.0 in omega arith), purges_hung (keyed_setup t.table.kit.shared.key) t.table.kit.shared.table_id.slots seat.id (seen seat.me) at.0 at.1 at.2 c.requires.calm.0 c.requires.calm.1 c.requires.packets.0 c.requires.packets.1)),
)

pub returns : goal.returns
returns g c = record {
  makes =
      let e = c.load_word.ensures in (e.2.told.0, c.load_word.result, makes_one _ _ _ (e.0, e.1) refl refl e.2.told.4 e.2.noted (e.2.told.1, e.2.told.2, e.2.told.3));
}
