use Rattle.std.proofs.Common.{ℕ, ◌+◌, subst, ◌≡◌, List, [], ◌∷◌, ◌++◌, length, length-append, get_or, Option, Some, arith, sym, ap, ◌∙◌}
use Rattle.std.specs.Prelude.{vec_len}
use Rattle.std.specs.Option.{option_to_list, MatchOption}
use Rattle.lq_device.specs.Station.{StationState}
use Rattle.lq_table.proofs.make.the_one.Goals.{in_default-via-in-Some+in_default, in_default-via-in_default}
use Rattle.lq_table.proofs.make.the_one.Goals as goal

last_alone : (xs : List (Option StationState)) (x y : Option StationState) → xs ++ (x ∷ []) ≡ y ∷ [] → x ≡ y
last_alone [] x y e = ap (λ (zs : List (Option StationState)). get_or zs 0 x) e
last_alone (z ∷ zs) x y e = absurd (omega (arith, ap length e, length-append zs (x ∷ [])))

zero_one : (n m : ℕ) → n ≡ m → n ≡ 0 → m ≡ 1 → ⊥
zero_one n m e a b = omega arith

pub returns : goal.returns
returns g c =
    let is = c.requires.1 in let left = c.pop.new.self.items in let first = c.in-Some-Some.field-0 in
    let all = ap (λ (o : Option (Option StationState)). left ++ option_to_list o) (sym c.in-Some-Some.is) ∙ (sym c.pop.ensures.items ∙ is) in
    is ∙ ap (λ (s : Option StationState). s ∷ []) (sym (last_alone left first (Some c.requires.0) all) ∙ c.in-Some-Some.field-0-is)

pub unreachable-requires : goal.unreachable-requires
unreachable-requires g c =
    elim c.in_default.branch [
      | in_default-via-in-Some+in_default w ↦
          let left = c.pop.new.self.items in
          let popped = ap (λ (o : Option (Option StationState)). left ++ option_to_list o) (sym w.in_default.is) in
          let all = popped ∙ (sym c.pop.ensures.items ∙ c.requires.1) in
          let some_ = last_alone left w.in_default.field-0 (Some c.requires.0) all in absurd cc
      | in_default-via-in_default w ↦
          let none_ = (vec_len c.args.slots ≡ 0) × (vec_len c.pop.new.self ≡ 0) in
          let fewer = λ (x : Option StationState). vec_len c.pop.new.self + 1 ≡ vec_len c.args.slots in
          let cases = λ (o : Option (Option StationState)). MatchOption o none_ fewer in
          zero_one _ _ c.args.slots.ok.0 (subst cases w.in_default.is c.pop.ensures.cases).0 (ap length c.requires.1)
    ]
