use Rattle.std.proofs.Common.{◌≡◌, ◌+◌, ◌*◌, ◌++◌, ◌∷◌, [], length, ap, sym, ◌∙◌, arith}
use Rattle.std.proofs.lemmas.List.{length-append}
use Rattle.lq_model.specs.Flow.{toeplitz, windows_of}
use Rattle.lq_class.proofs.Windows.{front-windows, one-more, zero-more}
use Rattle.lq_class.proofs.flows.with_byte.Goals as goal
use Rattle.lq_class.proofs.flows.with_byte.Goals.{then-byte-bit-eq1, else-byte-bit-eq1}

pub loop-bit-init : goal.loop-bit-init
unfolding toeplitz
loop-bit-init c = λ bytes long is.
    is ∙ (sym (front-windows bytes (c.args.byte ∷ []) (8 * length bytes) (omega arith))
    ∙ ap (windows_of (bytes ++ c.args.byte ∷ [])) (let start : 8 * length bytes ≡ 8 * c.args.hashed + 0 = omega arith in start))

pub loop-bit-preserved : goal.loop-bit-preserved
loop-bit-preserved c = λ bytes long is.
    let before = c.loop-bit.invariant bytes long is in
    elim c.if-byte-bit-eq1.branch [
      | then-byte-bit-eq1 w ↦ w.hash-is ∙ sym (one-more bytes c.args.byte c.args.hashed c.key_from-key.result c.loop-bit.hash c.loop-bit.bit long c.requires c.loop-bit-test.true c.key_from-key.ensures before w.if-byte-bit-eq1.true)
      | else-byte-bit-eq1 w ↦ w.hash-is ∙ sym (zero-more bytes c.args.byte c.args.hashed c.key_from-key.result c.loop-bit.hash c.loop-bit.bit long c.requires c.loop-bit-test.true c.key_from-key.ensures before w.if-byte-bit-eq1.false)
    ]

pub returns : goal.returns
unfolding toeplitz
returns c = λ bytes long is.
    let end = c.loop-bit.auto.bit-end in let test = c.loop-bit-test.false in
    c.loop-bit.invariant bytes long is
    ∙ ap (windows_of (bytes ++ c.args.byte ∷ [])) (let all : 8 * c.args.hashed + c.loop-bit.bit ≡ 8 * length (bytes ++ c.args.byte ∷ []) = omega (arith, length-append bytes (c.args.byte ∷ [])) in all)
