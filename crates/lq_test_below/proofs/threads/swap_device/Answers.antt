use Rattle.std.proofs.Common.{◌≡◌, ℕ, ◌+◌, List, length, ap, subst, arith, rules}
use Rattle.std.proofs.lemmas.Grind.{common_steps}
use Rattle.lq_model.specs.declared.fate.Info.{Info}
use Rattle.lq_table.specs.Sees.{view}
use Rattle.lq_control.specs.Control.{IsAfterUnits}
use Rattle.lq_test_below.proofs.Firsts.{count_few, counted_after, first_swapped}
use Rattle.lq_test_below.proofs.threads.swap_device.Goals as goal

pub swap-back-requires-clause-may : goal.swap-back-requires-clause-may
swap-back-requires-clause-may g c _ _ = record {
  at = search rules;
  in_phase = search rules;
  next =
      let many : length c.args.control.now.back.items ≡ c.len-2.result = omega (arith, c.args.control.now.back.ok.0) in
      let trail = (view c.args.control.now.cpu).trail in
      let after = counted_after c.args.shared.now.station (length c.args.control.now.back.items) trail (search rules) c.requires.first.brought in
      ((omega arith), subst (λ (n : ℕ). IsAfterUnits c.args.shared.now.station trail (n + 1)) many after);
  fresh =
      let d = c.begun-new.ensures in
      let few = count_few c.args.shared.now.infos.now c.args.shared.now.station in
      (d.0, d.1, omega (arith, few, d.2, ap (λ (x : List Info). length x) c.infos.ensures), d.3);
}

pub returns : goal.returns
returns g c =
    let many : length c.args.control.now.back.items ≡ c.len-2.result = omega (arith, c.args.control.now.back.ok.0) in let s = c.swap-back.ensures in
    let grown : length c.push.new.self.items ≡ length c.args.control.now.back.items + 1 = grind (arith, common_steps, c.push.ensures.items, c.expect.ensures) in record {
      first = first_swapped c.args.shared.now c.args.control.now.cpu c.swap-back.new.cpu (length c.args.control.now.back.items) (c.len-2.result + 1) _ _ _ c.requires.first s.same.0 s.same.1 s.at.0 s.at.1 s.at.2 s.trail (omega arith) grown;
    }
