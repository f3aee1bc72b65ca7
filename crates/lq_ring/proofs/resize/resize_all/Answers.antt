use Rattle.std.proofs.Common.{◌≡◌, [], ◌∷◌, ◌++◌, ap, ◌∙◌, sym, Some}
use Rattle.std.specs.Prelude.{option_map}
use Rattle.lq_device.specs.Station.{StationState, with_ends}
use Rattle.lq_ring.specs.Put.{no_locks}
use Rattle.lq_table.specs.Rule.{shown}
use Rattle.lq_table.specs.Views.{View}
use Rattle.lq_table.specs.Producers.{load_size_view}
use Rattle.lq_table.specs.Sees.{view}
use Rattle.lq_table.specs.Step.{LoadSize, SetEnds}
use Rattle.lq_ring.specs.Resized.{all_lost, having_resized, locked_three}
use Rattle.lq_ring.specs.StepLists.{ResizesThree, unlock_steps}
use Rattle.lq_ring.proofs.StepsThen.{makes_then}
use Rattle.lq_ring.proofs.resize.resize_all.Goals as goal

pub returns : goal.returns
returns g c =
    let old = c.args.cpu.now in let v = view old in let len = c.args.len in let event = c.args.event in let z = c.load_size-size.result in let t = c.turn_all-turned.result in
    let l = c.lock_all.ensures in let size = c.load_size-size.ensures in let m = c.turn_all-turned.ensures.makes in let held = m.0 in let lost = all_lost len held in let u = c.unlock_all.ensures in let r = c.restart_ends.ensures in
    let loaded : view c.load_size-size.new.cpu ≡ load_size_view z (record v { locks = locked_three l.stands.0 l.stands.1 l.stands.2 }) = size.makes.knows ∙ ap (load_size_view z) l.stands.6 in
    let all = makes_then (makes_then (makes_then l.makes.2 (makes_then size.makes m.1.2)) u.1) r in
    let is : view c.restart_ends.new.cpu ≡ having_resized len event lost v = r.knows
    ∙ (u.1.knows
    ∙ (ap (λ (x : View). record x { locks = no_locks }) m.2.1
    ∙ (ap (λ (x : View). record (having_resized len event lost x) { locks = no_locks }) loaded
    ∙ (λ j. record (having_resized len event lost v) { locks = sym c.requires.idle j })))) in record {
      resizes = (
        held,
        (l.makes.0 ++ LoadSize z ∷ m.1.0 ++ unlock_steps u.0 t.low.index t.mid.index t.high.index ++ SetEnds 0 0 0 ∷ SetEnds 1 0 0 ∷ SetEnds 2 0 0 ∷ [], ResizesThree z u.0 l.makes.1 m.1.1, all),
        is,
        m.3,
      );
      same = (all.seat, r.has ∙ (u.1.has ∙ (m.2.0.3 ∙ (size.makes.has ∙ l.stands.5))));
      station =
          let h = v.holder in let start : c.unlock_all.new.cpu.station ≡ Some (shown h) = u.1.carries ∙ (m.2.0.1 ∙ (size.makes.carries ∙ (l.stands.4 ∙ c.requires.station))) in
          (r.carries ∙ ap (λ o. option_map (λ (st : StationState). with_ends st 2 0 0) (option_map (λ (st : StationState). with_ends st 1 0 0) (option_map (λ (st : StationState). with_ends st 0 0 0) o))) start)
          ∙ ap (λ (x : View). Some (shown x.holder)) (sym is);
    }
