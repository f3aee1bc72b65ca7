use Rattle.std.proofs.Common.{◌≡◌, All, List, ap₂, inl, map, refl, subst, sym}
use Rattle.lq_model.specs.Settled.{IsSettled}
use Rattle.lq_model.specs.declared.fate.Info.{Info}
use Rattle.lq_plan.specs.Packets.{IsInfoWithin}
use Rattle.lq_table.specs.Ended.{ended_state}
use Rattle.lq_files.specs.RunFiles.{run_of}
use Rattle.lq_senders.specs.Told.{TellEach, fates_told}
use Rattle.lq_top.proofs.RunLemmas.{on_err_any, run_done, run_stops}
use Rattle.lq_top.proofs.top.run_capture.Goals as goal

pub write_told-requires-clause-told : goal.write_told-requires-clause-told
write_told-requires-clause-told g c κs within =
    subst (λ (infos : List Info). TellEach infos (map ended_state c.as_slice.result.now)) (sym c.deref.ensures.value)
    (subst (λ ended. TellEach c.in_ok-infos.infos.items (map ended_state ended)) (sym c.as_slice.ensures.value) c.in_ok-infos.ensures.told)

pub write_told-requires-clause-within : goal.write_told-requires-clause-within
write_told-requires-clause-within g c κs live = subst (λ (infos : List Info). All (IsInfoWithin c.args.run.now.plan.now) infos) (sym c.deref.ensures.value) c.in_ok-infos.ensures.within

pub write_told-requires-clause-settled : goal.write_told-requires-clause-settled
write_told-requires-clause-settled g c κs within =
    let plan = c.args.run.now.plan.now in
    subst (λ (infos : List Info). IsSettled plan infos (fates_told infos (map ended_state c.as_slice.result.now))) (sym c.deref.ensures.value)
    (subst (λ ended. IsSettled plan c.in_ok-infos.infos.items (fates_told c.in_ok-infos.infos.items (map ended_state ended))) (sym c.as_slice.ensures.value) c.in_ok-infos.ensures.fates.settled)

pub returns-clause-err : goal.returns-clause-err
returns-clause-err g c =
    let infos = c.in_ok-infos.infos.items in
    run_stops (run_of c.args.run.now.out.now c.args.run.now.plan.now c.args.run.now.capture.now) infos (fates_told infos (map ended_state c.send_capture.new.ended.items))
    (fates_told c.deref.result.now (map ended_state c.as_slice.result.now))
    (g.H.Host.state c.args.host.now) (g.H.Host.state c.write_told.new.host) (map g.D.TxDevice.state c.args.bench.now.items) (map g.D.TxDevice.state c.send_capture.new.bench.items)
    c.in_ok-infos.ensures.infos (ap₂ (λ infos ended. fates_told infos (map ended_state ended)) c.deref.ensures.value c.as_slice.ensures.value) c.in_ok-infos.ensures.fates c.in-Err.ensures.err

pub returns-in-Ok-clause-ok : goal.returns-in-Ok-clause-ok
returns-in-Ok-clause-ok g c =
    let infos = c.in_ok-infos.infos.items in let ended = map ended_state c.send_capture.new.ended.items in
    run_done (run_of c.args.run.now.out.now c.args.run.now.plan.now c.args.run.now.capture.now) infos (fates_told infos ended)
    (fates_told c.deref.result.now (map ended_state c.as_slice.result.now))
    (g.H.Host.state c.args.host.now) (g.H.Host.state c.write_told.new.host) (map g.D.TxDevice.state c.args.bench.now.items) (map g.D.TxDevice.state c.send_capture.new.bench.items)
    c.in_ok-infos.ensures.infos (ap₂ (λ infos ended. fates_told infos (map ended_state ended)) c.deref.ensures.value c.as_slice.ensures.value) c.in_ok-infos.ensures.fates
    ended c.in_ok-infos.ensures.ended c.in-Ok.ensures.ok

pub returns-in_err-infos-clause-err : goal.returns-in_err-infos-clause-err
returns-in_err-infos-clause-err g c = on_err_any c.from_residual.result (inl refl)

pub returns-in-Ok-clause-err : goal.returns-in-Ok-clause-err
returns-in-Ok-clause-err g c = _

pub returns-clause-ok : goal.returns-clause-ok
returns-clause-ok g c = _
