use Rattle.std.proofs.Common.{◌≡◌, [], List, ap, None, Some, IfSome, map, refl, subst, sym, vec_len}
use Rattle.lq_table.specs.Ended.{EndedState, ended_state}
use Rattle.lq_files.specs.Command.{OfGen, OfTap, OfTrace, command_words, gen_words, tap_words}
use Rattle.lq_top.specs.Decision.{verdict_of_command}
use Rattle.lq_top.specs.Outcome.{CompletesOrStops, CompletesOrStopsOfSome}
use Rattle.lq_top.specs.Reads.{after_reads}
use Rattle.lq_top.proofs.ReadLemmas.{all_read, does_after, given_after}
use Rattle.lq_top.proofs.RunLemmas.{any_told}
use Rattle.lq_files.specs.declared.command.Command.{Command}
use Rattle.lq_top.proofs.top.do_command.Goals as goal

pub returns-in-Run-clause-some : goal.returns-in-Run-clause-some
returns-in-Run-clause-some g c =
    let old = g.H.Host.state c.args.host.now in
    let new = g.H.Host.state c.run_command.new.host in
    let before = map g.D.TxDevice.state c.args.bench.now.items in
    let after = map g.D.TxDevice.state c.run_command.new.bench.items in
    let ended = map ended_state c.run_command.new.ended.items in
    subst (λ (command : Command). CompletesOrStopsOfSome (Some (command_words command)) (vec_len c.args.bench.now) old new before after ended c.run_command.result) (sym c.in-Run.is)
    c.run_command.ensures.some

pub returns-in-Trace-clause-does : goal.returns-in-Trace-clause-does
returns-in-Trace-clause-does g c =
    let old = g.H.Host.state c.args.host.now in
    let new = g.H.Host.state c.trace_command.new.host in
    let devices = map g.D.TxDevice.state c.args.bench.now.items in
    let none : [] ≡ map ended_state c.args.ended.now.items = ap (map ended_state) (sym c.requires.none_yet) in
    subst (λ (command : Command). IfSome old.told (λ k. CompletesOrStops (verdict_of_command (Some (command_words command)) (vec_len c.args.bench.now) k.files k.files) (after_reads old new) new devices devices (map ended_state c.args.ended.now.items) c.trace_command.result))
    (sym c.in-Trace.is)
    (subst (λ (ended : List EndedState). IfSome old.told (λ k. CompletesOrStops (verdict_of_command (Some (OfTrace c.in-Trace.file.now)) (vec_len c.args.bench.now) k.files k.files) (after_reads old new) new devices devices ended c.trace_command.result)) none (c.trace_command.ensures.does (vec_len c.args.bench.now) devices devices))

pub returns-in-Trace-clause-some : goal.returns-in-Trace-clause-some
returns-in-Trace-clause-some g c =
    let old = g.H.Host.state c.args.host.now in
    let new = g.H.Host.state c.trace_command.new.host in
    let devices = map g.D.TxDevice.state c.args.bench.now.items in
    let none : [] ≡ map ended_state c.args.ended.now.items = ap (map ended_state) (sym c.requires.none_yet) in
    subst (λ (command : Command). CompletesOrStopsOfSome (Some (command_words command)) (vec_len c.args.bench.now) old new devices devices (map ended_state c.args.ended.now.items) c.trace_command.result) (sym c.in-Trace.is)
    (subst (λ (ended : List EndedState). CompletesOrStopsOfSome (Some (OfTrace c.in-Trace.file.now)) (vec_len c.args.bench.now) old new devices devices ended c.trace_command.result) none (c.trace_command.ensures.some (vec_len c.args.bench.now) devices devices))

pub returns-in-Tap-clause-does : goal.returns-in-Tap-clause-does
returns-in-Tap-clause-does g c =
    let old = g.H.Host.state c.args.host.now in
    let new = g.H.Host.state c.tap_command.new.host in
    let devices = map g.D.TxDevice.state c.args.bench.now.items in
    let none : [] ≡ map ended_state c.args.ended.now.items = ap (map ended_state) (sym c.requires.none_yet) in
    subst (λ (command : Command). IfSome old.told (λ k. CompletesOrStops (verdict_of_command (Some (command_words command)) (vec_len c.args.bench.now) k.files k.files) (after_reads old new) new devices devices (map ended_state c.args.ended.now.items) c.tap_command.result))
    (sym c.in-Tap.is)
    (subst (λ (ended : List EndedState). IfSome old.told (λ k. CompletesOrStops (verdict_of_command (Some (OfTap (tap_words c.in-Tap.words))) (vec_len c.args.bench.now) k.files k.files) (after_reads old new) new devices devices ended c.tap_command.result)) none (c.tap_command.ensures.does (vec_len c.args.bench.now) devices devices))

pub returns-in-Tap-clause-some : goal.returns-in-Tap-clause-some
returns-in-Tap-clause-some g c =
    let old = g.H.Host.state c.args.host.now in
    let new = g.H.Host.state c.tap_command.new.host in
    let devices = map g.D.TxDevice.state c.args.bench.now.items in
    let none : [] ≡ map ended_state c.args.ended.now.items = ap (map ended_state) (sym c.requires.none_yet) in
    subst (λ (command : Command). CompletesOrStopsOfSome (Some (command_words command)) (vec_len c.args.bench.now) old new devices devices (map ended_state c.args.ended.now.items) c.tap_command.result) (sym c.in-Tap.is)
    (subst (λ (ended : List EndedState). CompletesOrStopsOfSome (Some (OfTap (tap_words c.in-Tap.words))) (vec_len c.args.bench.now) old new devices devices ended c.tap_command.result) none (c.tap_command.ensures.some (vec_len c.args.bench.now) devices devices))

pub returns-in-Gen-clause-does : goal.returns-in-Gen-clause-does
returns-in-Gen-clause-does g c =
    let old = g.H.Host.state c.args.host.now in
    let new = g.H.Host.state c.gen_command.new.host in
    let before = map g.D.TxDevice.state c.args.bench.now.items in
    let after = map g.D.TxDevice.state c.gen_command.new.bench.items in
    let ended = map ended_state c.gen_command.new.ended.items in
    let r = c.gen_command.result in
    let verdict = verdict_of_command (Some (OfGen (gen_words c.in-Gen.words))) (vec_len c.args.bench.now) (λ _. None) (λ _. None) in
    subst (λ (command : Command). IfSome old.told (λ k. CompletesOrStops (verdict_of_command (Some (command_words command)) (vec_len c.args.bench.now) k.files k.files) (after_reads old new) new before after ended r))
    (sym c.in-Gen.is) (any_told old.told (λ _. does_after verdict old old new old.given before after ended r refl c.gen_command.ensures.does))

pub returns-in-Gen-clause-some : goal.returns-in-Gen-clause-some
returns-in-Gen-clause-some g c =
    let old = g.H.Host.state c.args.host.now in
    let new = g.H.Host.state c.gen_command.new.host in
    let before = map g.D.TxDevice.state c.args.bench.now.items in
    let after = map g.D.TxDevice.state c.gen_command.new.bench.items in
    let ended = map ended_state c.gen_command.new.ended.items in
    let r = c.gen_command.result in
    let verdict = verdict_of_command (Some (OfGen (gen_words c.in-Gen.words))) (vec_len c.args.bench.now) (λ _. None) (λ _. None) in
    subst (λ (command : Command). CompletesOrStopsOfSome (Some (command_words command)) (vec_len c.args.bench.now) old new before after ended r) (sym c.in-Gen.is) (
      [],
      [],
      all_read [] old new r (given_after verdict old old new old.given before after ended r refl c.gen_command.ensures.does),
      does_after verdict old old new old.given before after ended r refl c.gen_command.ensures.does,
    )
