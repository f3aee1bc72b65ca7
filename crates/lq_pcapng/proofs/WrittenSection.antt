-- The section header block and the interfaces, written piece by piece.
use Rattle.std.proofs.Common.{◌≡◌, ◌<◌, ◌+◌, ◌-◌, ◌++◌, ◌∷◌, [], ℕ, List, length, take, drop, replicate, sym, ap, ◌∙◌, append_assoc, get_or}
use Rattle.std.specs.List.{concat}
use Rattle.std.proofs.lemmas.List.{append-nil, take_more}
use Rattle.std.proofs.lemmas.List.Folds.{concat-append}
use Rattle.lq_pcapng.specs.Pcapng.{interface_at, without_length}
use Rattle.lq_pcapng.proofs.Walk.{slice_from}

pub section_written :
    (out s w₁ w₂ w₃ : List ℕ) → w₁ ≡ out ++ take 16 s → w₂ ≡ w₁ ++ replicate 8 255 → w₃ ≡ w₂ ++ take (length s - 24) (drop 24 s) → w₃ ≡ out ++ (without_length s ++ [])
section_written out s w₁ w₂ w₃ e₁ e₂ e₃ =
    e₃ ∙ ap (λ (w : List ℕ). w ++ take (length s - 24) (drop 24 s)) (e₂ ∙ ap (λ (w : List ℕ). w ++ replicate 8 255) e₁)
    ∙ ap (λ (w : List ℕ). ((out ++ take 16 s) ++ replicate 8 255) ++ w) (slice_from s 24)
    ∙ (simp (append_assoc, append-nil))

pub interface_written :
    (out section now next block : List ℕ) (interfaces : List (List ℕ)) (i : ℕ) → i < length interfaces → now ≡ out ++ (section ++ concat (take i interfaces)) → block ≡ interface_at interfaces i
    → next ≡ now ++ block → next ≡ out ++ (section ++ concat (take (i + 1) interfaces))
interface_written out section now next block interfaces i below now_is block_is next_is =
    let more : concat (take (i + 1) interfaces) ≡ concat (take i interfaces) ++ block =
    ap concat (take_more interfaces i [] below) ∙ concat-append (take i interfaces) (get_or interfaces i [] ∷ [])
    ∙ ap (λ (b : List ℕ). concat (take i interfaces) ++ b) (append-nil (get_or interfaces i []) ∙ sym block_is) in
    next_is ∙ ap (λ (w : List ℕ). w ++ block) now_is ∙ append_assoc out (section ++ concat (take i interfaces)) block
    ∙ ap (λ (w : List ℕ). out ++ w) (append_assoc section (concat (take i interfaces)) block ∙ ap (λ (w : List ℕ). section ++ w) (sym more))
