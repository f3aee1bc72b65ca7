use Rattle.std.proofs.Common.{◌∙◌}
use Rattle.lq_table.specs.Resizes.{out_of}
use Rattle.lq_table.specs.Sees.{view}
use Rattle.lq_ring.proofs.Works.{told_work}
use Rattle.lq_table.proofs.OneStep.{clears_slot}
use Rattle.lq_ring.proofs.moves.take_out.Goals as goal

pub returns : goal.returns
returns g c = record {
  makes = c.clear_slot.ensures.makes;
  stands = ((c.clear_slot.ensures.makes.seat, c.clear_slot.ensures.makes.carries, c.clear_slot.ensures.makes.places, c.clear_slot.ensures.makes.has), (let t = c.requires.turner.1 in (clears_slot c.clear_slot.ensures.makes t.0 t.1).1 ∙ told_work c.args.band (out_of c.args.i) (view c.args.cpu.now) t.0 t.1));
}
