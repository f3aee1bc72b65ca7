mod Kept
use Rattle.std.proofs.Common.{arith, refl, ◌+◌, ◌*◌}
use Rattle.lq_table.specs.Keyed.{keyed_setup}
use Rattle.lq_table.proofs.shared.Shared.set_deactivated.Answers.Kept.{closes}
use Rattle.lq_log.specs.Made.{seen}
use Rattle.lq_table.proofs.StepFacts.{makes_one}
use Rattle.lq_table.specs.Moves.{is_set}
use Rattle.lq_table.proofs.shared.Shared.set_deactivated.Goals as goal

pub fetch_or_word-requires : goal.fetch_or_word-requires
fetch_or_word-requires g c = (
  c.type_bounds.send-D,
  (
      let t = c.args.self.now in let k = keyed_setup t.table.kit.shared.key in let slots = t.table.kit.shared.table_id.slots in let seat = c.args.cpu.now.known.seat in let a = c.requires.active in (
        c.requires.seat.0,
        (let wide = t.sized.0 in omega arith),
        closes k slots seat.id c.args.event (seen seat.me) c.requires.at a.0 a.1 a.2 (let small = c.ranges.event in omega arith) c.requires.seat.1,
      )),
)

pub returns : goal.returns
returns g c = record {
  makes =
      let e = c.fetch_or_word.ensures in (is_set (2 + 256 * (c.args.event + 1)) c.fetch_or_word.result, makes_one _ _ _ (e.0, e.1) refl refl e.2.told e.2.noted tt);
}
