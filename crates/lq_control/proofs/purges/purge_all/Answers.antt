use Rattle.std.proofs.Common.{rules, ℕ, ◌<◌, refl, sym, ap, ◌∙◌, subst, Some, [], ◌∷◌, length}
use Rattle.std.specs.Prelude.{IfSome}
use Rattle.lq_model.specs.declared.fate.Cause.TheVariants as cause
use Rattle.lq_table.specs.Views.{View, Setup, PacketPart}
use Rattle.lq_table.specs.Rule.{shown}
use Rattle.lq_table.specs.Purges.{HoldsAtMost, HoldPackets}
use Rattle.lq_table.specs.Sees.{view}
use Rattle.lq_control.specs.Steps.{Only, QdiscReset}
use Rattle.lq_table.specs.Step.{BeginPurge}
use Rattle.lq_control.proofs.StepLemmas.{and_then, only}
use Rattle.lq_control.proofs.Purge.{purged_of, slot_within}
use Rattle.lq_control.proofs.purges.purge_all.Goals as goal

pub purge_held-requires-clause-slot : goal.purge_held-requires-clause-slot
purge_held-requires-clause-slot g c _ _ =
    let v = view c.args.cpu.now in let s = v.holder.slot in let e = c.begin_purge-event.ensures.makes.2.knows in (
      s,
      c.begin_purge-event.ensures.makes.2.carries ∙ (c.requires.station ∙ ap (λ (x : View). Some (shown (record x.holder { slot = s }))) (sym e)),
      ap (λ (x : View). x.packets.owed) e,
      ap (λ (x : View). x.holder.slot) e,
      subst (λ (k : Setup). IfSome s (λ n. n < length k.infos)) c.requires.seat.2 (slot_within v.share.about s c.requires.rests.1),
    )

pub purge_held-requires-clause-bands : goal.purge_held-requires-clause-bands
purge_held-requires-clause-bands g c _ _ =
    let v = view c.args.cpu.now in let m = c.begin_purge-event.ensures.makes in let e = m.2.knows in (
      record { cause = cause.Event c.begin_purge-event.result; bands = m.0 },
      ap (λ (x : View). x.holder.left) e,
      refl,
      subst (λ (n : ℕ). HoldsAtMost n m.0) (sym (ap (λ (x : View). x.holder.size) e)) m.2.told.0.1,
      subst (λ (k : Setup). HoldPackets k.infos m.0) c.requires.seat.2 m.2.told.0.2,
    )

pub returns : goal.returns
returns g c = record {
  same = search rules;
  purged =
      let v = view c.args.cpu.now in let m = c.begin_purge-event.ensures.makes in let e = m.2.knows in
      let done = c.purge_held.ensures.purged v.holder.slot (record { cause = cause.Event c.begin_purge-event.result; bands = m.0 }) (ap (λ (x : View). x.packets.owed) e) (ap (λ (x : View). x.holder.left) e) in (
        c.begin_purge-event.result,
        m.0,
        m.2.told.0.0,
        purged_of (cause.Event c.begin_purge-event.result) m.0 _ v (view c.begin_purge-event.new.cpu) (view c.purge_held.new.cpu) (ap (λ (p : PacketPart). p.owed) c.requires.bare.0) e done.0,
        done.1,
        m.2.told.0.3,
      );
  station = search rules;
  makes =
      let m = c.begin_purge-event.ensures.makes in let event = c.begin_purge-event.result in let slot = (view c.args.cpu.now).holder.slot in
      let by = cause.Event event in let count = c.purge_held.result in
      let t = and_then (Only (BeginPurge event m.0 m.1 ∷ [])) (QdiscReset by slot count) (only m.2) (c.purge_held.ensures.makes slot (ap (λ (x : View). x.packets.owed) m.2.knows)) in
      (event, m.2.told.0.0, (t.0, (m.0, m.1, t.1), t.2));
}
