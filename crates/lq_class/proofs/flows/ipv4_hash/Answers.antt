use Rattle.std.proofs.Common.{◌≡◌, ◌+◌, ◌++◌, ℕ, Bool, [], length, refl, ap₂, ◌∙◌, arith}
use Rattle.std.specs.Prelude.{slice_range}
use Rattle.std.proofs.lemmas.List.{length-drop, length-take}
use Rattle.lq_model.specs.Flow.{ports_at, toeplitz}
use Rattle.lq_class.proofs.flows.ipv4_hash.Goals as goal

pub returns : goal.returns
unfolding toeplitz
returns c =
    let frame = c.args.frame.now in let start = c.args.start in let addresses = slice_range frame (start + 12) (start + 20) in
    let long : length addresses ≡ 8 = simp (length-take, length-drop) (omega arith) in
    c.with_ports.ensures addresses long (c.with_bytes-addresses.ensures [] refl refl)
    ∙ ap₂ (λ (length : ℕ) (wanted : Bool). toeplitz (addresses ++ ports_at frame (start + length) wanted)) c.header_length.ensures c.has_ipv4_ports.ensures
