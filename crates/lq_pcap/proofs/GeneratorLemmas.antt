-- The generated capture, a record at a time.
use Rattle.std.proofs.Common.{◌≡◌, ◌+◌, ◌++◌, ℕ, refl, sym, ap, ◌∙◌, add-one}
use Rattle.std.specs.List.{flat_map}
use Rattle.std.proofs.lemmas.List.{flat_map_more}
use Rattle.lq_model.specs.Numbers.{first_numbers}
use Rattle.lq_model.specs.Generated.{generated_capture, generated_header, generated_record}

pub generated_none : (number : ℕ) → generated_header ≡ generated_capture number 0
unfolding generated_capture
generated_none number = refl

pub generated_more : (number i : ℕ) → generated_capture number i ++ generated_record number i ≡ generated_capture number (i + 1)
unfolding generated_capture
generated_more number i = flat_map_more (generated_record number) generated_header (first_numbers i) i ∙ ap (λ k. generated_header ++ flat_map (generated_record number) (first_numbers k)) (sym (add-one i))
