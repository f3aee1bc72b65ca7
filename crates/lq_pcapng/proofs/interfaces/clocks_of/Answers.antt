use Rattle.std.proofs.Common.{List, ℕ, ap, arith, length, subst, sym}
use Rattle.std.proofs.lemmas.List.{length-append}
use Rattle.lq_pcapng.specs.Reading.{AreClocks, IsClock}
use Rattle.lq_pcapng.proofs.Clocks.{clocks_more}
use Rattle.lq_pcapng.proofs.interfaces.clocks_of.Goals as goal

pub loop-i-preserved : goal.loop-i-preserved
loop-i-preserved c =
    let o = c.args.little_endian in
    let clock = c.clock_of.result in
    record {
      are = subst (AreClocks o c.args.bytes.now c.args.interfaces.now) (sym c.in_ok-push.ensures.items)
          (clocks_more o c.args.bytes.now c.args.interfaces.now c.loop-i.clocks.items clock c.loop-i.i c.loop-i.invariant.are c.loop-i.invariant.count (omega arith)
          (subst (λ (b : List ℕ). IsClock o b clock) c.interface-block.ensures.block c.clock_of.ensures));
      count = omega (arith, simp length-append at (ap length c.in_ok-push.ensures.items));
    }
