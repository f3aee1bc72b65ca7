use Rattle.std.proofs.Common.{rules, ◌≡◌, ℕ, ◌+◌, List, [], ◌∷◌, replicate, refl, sym, ◌∙◌, subst}
use Rattle.atomic_table.specs.Table.{opening}
use Rattle.lq_tap.specs.Views.{Setup, first_view}
use Rattle.lq_tap.specs.Rule.{Rule}
use Rattle.lq_tap.specs.declared.view.Consumer.{Consumer}
use Rattle.lq_tap.proofs.Starts.{starts}
use Rattle.lq_tap.proofs.shared.Tap.make.Goals as goal

pub new-requires : goal.new-requires
new-requires c =
    let k : Setup = record { packets = c.args.packets; len = c.args.len; senders = c.args.senders } in let home : Consumer = record { head = 0; tail = 0 } in
    let zeros : c.in-Ok.words.items ≡ replicate (32 + k.len) 0 = c.in-Ok.ensures.items_if_clones_equal (λ y h. search rules) in
    let words : c.as_slice.result.now ≡ replicate (32 + k.len) 0 = c.as_slice.ensures.value ∙ zeros in
    let slots : c.push_reserved.new.self.items ≡ home ∷ [] = search rules in
    subst (λ (z : List ℕ × List Consumer). Rule k (opening z.0 z.1 (first_view k))) (λ j. (sym words j, sym slots j))
    (starts k home record { packets = c.requires.packets; some_slot = c.requires.len.0; len = c.requires.len.1; some_sender = c.requires.senders.0; senders = c.requires.senders.1 } refl)
