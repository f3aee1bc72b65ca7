use Rattle.std.proofs.Common.{◌≡◌, ℕ, List, Bool, true, false, ◌||◌, ◌&&◌, nat_lt, sum, ◌∙◌, ap, sym, map}
use Rattle.std.specs.List.{list_any}
use Rattle.toml.specs.Data.{Members}
use Rattle.toml.specs.View.{table_view}
use Rattle.lq_model.specs.Plan.{is_swap_kind, mq_at}
use Rattle.lq_plan.specs.Document.{document_view}
use Rattle.lq_plan.specs.Keys.{event_word_in, group_in, mq_in}
use Rattle.lq_plan.specs.Reading.{kind_as}
use Rattle.lq_plan.specs.Tables.{tables_view}
use Rattle.lq_plan.proofs.Groups.{group-fault}
use Rattle.lq_plan.proofs.Lists.{list_any-map}
use Rattle.lq_plan.proofs.Tables.{Table}
use Rattle.lq_plan.proofs.document.Document.has_group_fault.Goals as goal

-- an event of these groups swaps the device of one of several
abbrev swaps : List ℕ → Members → Bool
swaps groups event = is_swap_kind (kind_as (event_word_in event) event) && nat_lt 1 (mq_at groups (group_in event))

pub returns-then-are_too_many : goal.returns-then-are_too_many
returns-then-are_too_many c =
    let d = c.args.self.now in
    let groups = map mq_in (tables_view d.stations.items) in
    let many : true ≡ nat_lt 8 (sum groups) =
    sym c.if-are_too_many.true ∙ (c.are_too_many.ensures ∙ ap (λ stations. nat_lt 8 (sum (map mq_in (tables_view stations)))) c.deref.ensures.value)
    in
    c.if-are_too_many.true ∙ (ap (λ b. b || list_any (swaps groups) (tables_view d.events.items)) many ∙ sym (group-fault (document_view d)))

pub returns-else-are_too_many : goal.returns-else-are_too_many
returns-else-are_too_many c =
    let d = c.args.self.now in
    let groups = map mq_in (tables_view d.stations.items) in
    let none : false ≡ nat_lt 8 (sum groups) =
    sym c.if-are_too_many.false ∙ (c.are_too_many.ensures ∙ ap (λ stations. nat_lt 8 (sum (map mq_in (tables_view stations)))) c.deref.ensures.value)
    in
    c.swaps_a_group.ensures
    ∙ (ap (λ stations. list_any (λ (event : Table). swaps (map mq_in (tables_view stations)) (table_view event.now)) c.deref-else-are_too_many-2.result.now) c.deref-else-are_too_many.ensures.value
    ∙ (ap (list_any (λ (event : Table). swaps groups (table_view event.now))) c.deref-else-are_too_many-2.ensures.value
    ∙ (list_any-map (swaps groups) (λ (event : Table). table_view event.now) d.events.items
    ∙ (ap (λ b. b || list_any (swaps groups) (tables_view d.events.items)) none ∙ sym (group-fault (document_view d))))))
