use Rattle.std.proofs.Common.{◌∙◌, ap, sym, List, drop, length, slice_get, arith}
use Rattle.std.proofs.lemmas.List.{take_at}
use Rattle.lq_files.specs.declared.parts.Part.{Part}
use Rattle.lq_files.proofs.parts.make_next.Goals as goal

pub returns-clause-parts : goal.returns-clause-parts
returns-clause-parts g c =
    let new = c.make_at_once.new.parts in λ i part at. c.make_at_once.ensures i part
    (ap (λ (xs : List Part). slice_get xs i) (sym (take_at new (drop (length new) c.args.parts.items) c.args.parts.len
    (let same = c.make_at_once.auto.parts in let long = c.as_mut_slice.ensures.len in omega arith))) ∙ at)
