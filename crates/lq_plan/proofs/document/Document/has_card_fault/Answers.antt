use Rattle.std.proofs.Common.{◌≡◌, Bool, List, ◌||◌, ◌&&◌, codes, is_some, sym, ap, ap₂, ◌∙◌}
use Rattle.std.specs.List.{list_any}
use Rattle.toml.specs.Data.{Members, get_member}
use Rattle.toml.specs.View.{table_view}
use Rattle.lq_model.specs.Plan.{is_swap_kind}
use Rattle.lq_plan.specs.Keys.{event_word_in, has_card}
use Rattle.lq_plan.specs.Reading.{kind_as}
use Rattle.lq_plan.specs.Tables.{tables_view}
use Rattle.lq_plan.proofs.Lists.{list_any-map}
use Rattle.lq_plan.proofs.Tables.{Table}
use Rattle.lq_plan.proofs.document.Document.has_card_fault.Goals as goal

-- a test of tables that are lent, by what they are
tested : (test : Members → Bool) (lent tables : List Table) (answer : Bool) → answer ≡ list_any (λ (t : Table). test (table_view t.now)) lent → lent ≡ tables → answer ≡ list_any test (tables_view tables)
tested test lent tables answer is same = is ∙ (ap (list_any (λ (t : Table). test (table_view t.now))) same ∙ list_any-map test (λ (t : Table). table_view t.now) tables)

abbrev swaps : Members → Bool
swaps event = is_swap_kind (kind_as (event_word_in event) event)

made : (a b c x y z : Bool) → a ≡ x → b ≡ y → c ≡ z → (a && (b || c)) ≡ (x && (y || z))
made a b c x y z p q r = ap₂ (λ m n. m && n) p (ap₂ (λ m n. m || n) q r)

pub returns-then-has_irq : goal.returns-then-has_irq
returns-then-has_irq c =
    let d = c.args.self.now in
    let card = tested has_card c.deref.result.now d.stations.items c.has_a_card-card.result c.has_a_card-card.ensures c.deref.ensures.value in
    let swap = tested swaps c.deref-2.result.now d.events.items c.swaps_a_device-swap.result c.swaps_a_device-swap.ensures c.deref-2.ensures.value in
    c.if-has_irq.true ∙ made _ _ _ _ _ _ (sym c.if-card.true ∙ card) (sym c.if-has_irq.true ∙ c.has_irq.ensures) swap

pub returns-else-has_irq : goal.returns-else-has_irq
returns-else-has_irq c =
    let d = c.args.self.now in
    let card = tested has_card c.deref.result.now d.stations.items c.has_a_card-card.result c.has_a_card-card.ensures c.deref.ensures.value in
    let swap = tested swaps c.deref-2.result.now d.events.items c.swaps_a_device-swap.result c.swaps_a_device-swap.ensures c.deref-2.ensures.value in
    made _ _ _ _ _ _ (sym c.if-card.true ∙ card) (sym c.if-has_irq.false ∙ c.has_irq.ensures) swap

pub returns-else-card : goal.returns-else-card
returns-else-card c =
    let d = c.args.self.now in
    let irq : Bool = is_some (get_member (codes "irq_every") (table_view d.root.now)) || is_some (get_member (codes "irq_us") (table_view d.root.now)) in
    let card = tested has_card c.deref.result.now d.stations.items c.has_a_card-card.result c.has_a_card-card.ensures c.deref.ensures.value in
    c.if-card.false ∙ ap (λ m. m && (irq || list_any swaps (tables_view d.events.items))) (sym c.if-card.false ∙ card)
