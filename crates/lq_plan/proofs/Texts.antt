-- Which text is the document at a root, and which is none.
use Rattle.std.proofs.Common.{◌≡◌, List, ℕ, Some, None, Err, refl, inl, inr}
use Rattle.std.proofs.lemmas.Bool.{cases_Bool}
use Rattle.std.proofs.lemmas.Str.{IsUtf8-from_is_utf8, is_utf8-from_IsUtf8}
use Rattle.std.specs.Str.{IsUtf8, is_utf8}
use Rattle.toml.specs.Data.{Members}
use Rattle.toml.specs.Parse.{parse_document}
use Rattle.lq_model.specs.declared.plan.PlanReason.TheVariants.{NotToml}
use Rattle.lq_plan.specs.Keys.{version_of}
use Rattle.lq_plan.specs.Reading.{plan_by, plan_of, root_of}

pub document_text : (text : List ℕ) (root : Members) → IsUtf8 text → parse_document text ≡ Some root → plan_of text ≡ plan_by (version_of root) root
unfolding plan_of
document_text text root utf8 parsed = rw (is_utf8-from_IsUtf8 text utf8, parsed) refl

no_root : (text : List ℕ) → (IsUtf8 text → parse_document text ≡ None) → root_of text ≡ None
no_root text none =
    elim (cases_Bool (is_utf8 text)) [
      | inl utf8 ↦ rw utf8 (none (IsUtf8-from_is_utf8 text utf8))
      | inr other ↦ rw other refl
    ]

pub other_text : (text : List ℕ) → (IsUtf8 text → parse_document text ≡ None) → plan_of text ≡ Err NotToml
unfolding plan_of
other_text text none = rw (no_root text none) refl
