use Rattle.std.proofs.Common.{◌∙◌, map, option_map, Some, ap, sym}
use Rattle.toml.proofs.Views.{view-Array}
use Rattle.toml.specs.Data.{as_array}
use Rattle.toml.specs.View.{view}
use Rattle.lq_plan.specs.Values.{elements_of}
use Rattle.lq_plan.proofs.Elements.{elements_of-view}
use Rattle.lq_plan.proofs.values.elements_in.Goals as goal

pub returns-in-Array : goal.returns-in-Array
returns-in-Array c =
    let seen = ap view c.in-Array.is ∙ view-Array c.in-Array.elements in
    let same = ap (map view) c.deref.ensures.value ∙ elements_of-view c.in-Array.elements.items in
    ap Some same ∙ sym (ap (λ value. option_map elements_of (as_array value)) seen)
