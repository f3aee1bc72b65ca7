use Rattle.std.proofs.Common.{◌∙◌, ◌&&◌, is_none}
use Rattle.toml.specs.Data.{get_member}
use Rattle.toml.specs.View.{table_view}
use Rattle.lq_plan.specs.Faults.{has_kind, is_required, is_within, value_fails}
use Rattle.lq_plan.specs.Keys.{Key, key_view}
use Rattle.lq_plan.proofs.Lists.{list_any-map, unknown_of_entries}
use Rattle.lq_plan.proofs.faults.has_fault.Goals as goal

pub returns-in-UnknownKey : goal.returns-in-UnknownKey
returns-in-UnknownKey c = rw c.in-UnknownKey.is (c.has_unknown_key.ensures ∙ unknown_of_entries c.args.keys.now c.args.table.now.entries)

pub returns-in-MissingKey : goal.returns-in-MissingKey
returns-in-MissingKey c =
    rw c.in-MissingKey.is (c.misses_key.ensures
    ∙ list_any-map (λ (key : Key). is_required key.presence && is_none (get_member key.name (table_view c.args.table.now))) key_view c.args.keys.now)

pub returns-in-WrongKind : goal.returns-in-WrongKind
returns-in-WrongKind c =
    rw c.in-WrongKind.is (c.has_wrong_kind.ensures ∙ list_any-map (value_fails has_kind (table_view c.args.table.now)) key_view c.args.keys.now)

pub returns-in-OutOfRange : goal.returns-in-OutOfRange
returns-in-OutOfRange c =
    rw c.in-OutOfRange.is (c.has_value_out_of_range.ensures ∙ list_any-map (value_fails is_within (table_view c.args.table.now)) key_view c.args.keys.now)
