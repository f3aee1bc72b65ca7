use Rattle.std.proofs.Common.{◌≡◌, ◌*◌, ◌/◌, refl, subst, sym, take, length, List, ℕ}
use Rattle.lq_host.proofs.HostLemmas.{wrote-nil}
use Rattle.lq_host.specs.Host.{wrote}
use Rattle.lq_files.specs.Parts.{IsFront}
use Rattle.lq_files.proofs.MoveLemmas.{front_front, on_err_any}
use Rattle.lq_files.proofs.pieces.write_whole_page.Goals as goal

-- there is no whole piece
pub returns-then-text-lt-PIECE-clause-ok : goal.returns-then-text-lt-PIECE-clause-ok
returns-then-text-lt-PIECE-clause-ok g c = (0, sym (wrote-nil (g.H.Host.state c.args.host.now) c.args.h), refl)

pub returns-in_err-write_text-clause-err : goal.returns-in_err-write_text-clause-err
returns-in_err-write_text-clause-err g c =
    let old = g.H.Host.state c.args.host.now in
    let new = g.H.Host.state c.write_text.new.host in
    let part = front_front old c.args.h new (length c.text-text.result.now / 65536 * 65536) c.text-text.result.now c.in_err-write_text.ensures.err in
    on_err_any c.from_residual.result (subst (λ (text : List ℕ). IsFront old c.args.h new text) c.text-text.ensures.text part)

pub returns-clause-ok : goal.returns-clause-ok
returns-clause-ok g c =
    let old = g.H.Host.state c.args.host.now in
    let k = length c.text-text.result.now / 65536 in
    let wrote_is = λ (text : List ℕ). g.H.Host.state c.write_text.new.host ≡ wrote old c.args.h (take (k * 65536) text) in
    (k, subst wrote_is c.text-text.ensures.text c.in_ok-write_text.ensures.ok, c.drop_front.ensures)
