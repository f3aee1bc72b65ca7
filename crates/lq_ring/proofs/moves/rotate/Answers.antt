use Rattle.std.proofs.Common.{rules, ◌-◌, ◌/◌, arith, ℕ, sym, ap, ◌∙◌, subst, length, List}
use Rattle.lq_table.specs.Views.{Work}
use Rattle.lq_table.specs.Sees.{view}
use Rattle.lq_ring.specs.Work.{work_at, reversed_to}
use Rattle.lq_ring.proofs.Works.{AreMembers, at_chain, turner_chain, chain, reversed_long, reversed_members, members_of, with_slots}
use Rattle.lq_ring.proofs.StepsThen.{turns_then}
use Rattle.lq_ring.proofs.moves.rotate.Goals as goal

pub reverse-requires-2-clause-turner : goal.reverse-requires-2-clause-turner
reverse-requires-2-clause-turner g c _ _ = let b = c.args.band in let v = view c.args.cpu.now in let w : Work = work_at b v in
    turner_chain b (with_slots (reversed_to 0 c.args.head ((c.args.head - 0) / 2) w.slots) w) v _ c.requires.turner c.reverse.ensures.stands.1

pub reverse-requires-2-clause-slots : goal.reverse-requires-2-clause-slots
reverse-requires-2-clause-slots g c _ _ =
    let b = c.args.band in let v = view c.args.cpu.now in let w : Work = work_at b v in let p = c.requires.place in let p1 = p.1 in let p2 = p.2 in let long = c.requires.slots.0 in let head = c.args.head in
    let here = at_chain b (with_slots (reversed_to 0 head ((head - 0) / 2) w.slots) w) v _ c.requires.turner c.reverse.ensures.stands.1 in (
      ap (λ (z : Work). length z.slots) here ∙ (reversed_long 0 head ((head - 0) / 2) w.slots ∙ long),
      subst (λ (z : Work). AreMembers (members_of z) z.slots) (sym here) (reversed_members (members_of w) w.slots 0 head ((head - 0) / 2) (omega arith) (omega arith) c.requires.slots.1),
    )

pub reverse-requires-3-clause-turner : goal.reverse-requires-3-clause-turner
reverse-requires-3-clause-turner g c _ _ = let b = c.args.band in let v = view c.args.cpu.now in let w : Work = work_at b v in let head = c.args.head in let size = c.args.size in
    let one : List ℕ = reversed_to 0 head ((head - 0) / 2) w.slots in
    turner_chain b (with_slots (reversed_to head size ((size - head) / 2) one) w) v _ c.requires.turner
    (chain b (λ (z : Work). with_slots (reversed_to head size ((size - head) / 2) z.slots) z) (with_slots one w) v _ _ c.requires.turner c.reverse.ensures.stands.1 c.reverse-2.ensures.stands.1)

pub reverse-requires-3-clause-slots : goal.reverse-requires-3-clause-slots
reverse-requires-3-clause-slots g c _ _ =
    let b = c.args.band in let v = view c.args.cpu.now in let w : Work = work_at b v in let head = c.args.head in let size = c.args.size in let p = c.requires.place in let p1 = p.1 in let p2 = p.2 in let long = c.requires.slots.0 in
    let one : List ℕ = reversed_to 0 head ((head - 0) / 2) w.slots in let l1 = reversed_long 0 head ((head - 0) / 2) w.slots in
    let here = at_chain b (with_slots (reversed_to head size ((size - head) / 2) one) w) v _ c.requires.turner
    (chain b (λ (z : Work). with_slots (reversed_to head size ((size - head) / 2) z.slots) z) (with_slots one w) v _ _ c.requires.turner c.reverse.ensures.stands.1 c.reverse-2.ensures.stands.1) in (
      ap (λ (z : Work). length z.slots) here ∙ (reversed_long head size ((size - head) / 2) one ∙ (l1 ∙ long)),
      subst (λ (z : Work). AreMembers (members_of z) z.slots) (sym here) (reversed_members (members_of w) one head size ((size - head) / 2) (omega arith) (omega arith)
          (reversed_members (members_of w) w.slots 0 head ((head - 0) / 2) (omega arith) (omega arith) c.requires.slots.1)),
    )

pub returns : goal.returns
returns g c = record {
  makes = let b = c.args.band in turns_then b (turns_then b c.reverse.ensures.makes c.reverse-2.ensures.makes) c.reverse-3.ensures.makes;
  stands = (
    search rules,
    let b = c.args.band in let v = view c.args.cpu.now in let w : Work = work_at b v in let head = c.args.head in let size = c.args.size in let one : List ℕ = reversed_to 0 head ((head - 0) / 2) w.slots in
        let e2 = chain b (λ (z : Work). with_slots (reversed_to head size ((size - head) / 2) z.slots) z) (with_slots one w) v _ _ c.requires.turner c.reverse.ensures.stands.1 c.reverse-2.ensures.stands.1 in
        chain b (λ (z : Work). with_slots (reversed_to 0 size ((size - 0) / 2) z.slots) z) (with_slots (reversed_to head size ((size - head) / 2) one) w) v _ _ c.requires.turner e2 c.reverse-3.ensures.stands.1,
  );
}
