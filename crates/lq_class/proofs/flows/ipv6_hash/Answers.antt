use Rattle.std.proofs.Common.{◌≡◌, ◌+◌, ◌++◌, [], length, refl, ap, ◌∙◌, arith}
use Rattle.std.specs.Prelude.{slice_range}
use Rattle.std.proofs.lemmas.List.{length-drop, length-take}
use Rattle.lq_model.specs.Flow.{ports_at, toeplitz}
use Rattle.lq_class.proofs.flows.ipv6_hash.Goals as goal

pub returns : goal.returns
unfolding toeplitz
returns c =
    let frame = c.args.frame.now in let start = c.args.start in let addresses = slice_range frame (start + 8) (start + 40) in
    let long : length addresses ≡ 32 = simp (length-take, length-drop) (omega arith) in
    c.with_ports.ensures addresses long (c.with_bytes-addresses.ensures [] refl refl)
    ∙ ap (λ wanted. toeplitz (addresses ++ ports_at frame (start + 40) wanted)) c.has_ports-wanted.ensures
