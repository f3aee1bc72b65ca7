use Rattle.std.proofs.Common.{◌≡◌, ℕ, ◌∙◌, ap, sym, subst, IfSome, Option, Some, drop, map, vec_len}
use Rattle.std.specs.Option.{option_map}
use Rattle.lq_table.specs.Ended.{ended_state}
use Rattle.lq_files.specs.Command.{CommandWords, AreOperandsWithin, bytes_of_words, command_of_words, command_words}
use Rattle.lq_top.specs.Decision.{most_units_changed_by, units_changed_by, verdict_of_command}
use Rattle.lq_top.specs.Outcome.{IsAnswerOf, Outcome, OutcomeOfSome}
use Rattle.lq_top.specs.Reads.{HasReadFiles, after_reads, files_read}
use Rattle.lq_top.proofs.ReadLemmas.{ends_read, nothing_done, stops_read}
use Rattle.lq_files.specs.declared.answer.Status.{Status}
use Rattle.lq_files.proofs.CommandLemmas.{within_limits}
use Rattle.lq_top.proofs.RunLemmas.{all_answered, all_ends, all_stopped, ends_outcome, stops_outcome}
use Rattle.lq_top.proofs.top.lqtx.Goals as goal

pub returns-in-Ok-clause-complete : goal.returns-in-Ok-clause-complete
returns-in-Ok-clause-complete g c =
    let told = (g.H.Host.state c.args.host.now).told in
    let have = vec_len c.args.bench.now in
    let command = command_words c.in-Ok-Some.command in
    subst (λ (is : Option CommandWords). IfSome told (λ k. IsAnswerOf (verdict_of_command is have k.files k.files) c.in-Ok.status)) (ap (option_map command_words) (sym c.in-Ok-Some.field-0-is) ∙ c.in-Ok-Some.ensures)
    (all_answered told (λ k. verdict_of_command (Some command) have k.files k.files) (after_reads (g.H.Host.state c.args.host.now) (g.H.Host.state c.do_command.new.host)) (g.H.Host.state c.do_command.new.host) (map g.D.TxDevice.state c.args.bench.now.items)
    (map g.D.TxDevice.state c.do_command.new.bench.items) (map ended_state c.do_command.new.ended.items) c.in-Ok.status c.in-Ok.ensures.does)

pub returns-in-Ok-clause-some : goal.returns-in-Ok-clause-some
returns-in-Ok-clause-some g c =
    let old = g.H.Host.state c.args.host.now in
    let new = g.H.Host.state c.do_command.new.host in
    let have = vec_len c.args.bench.now in
    let before = map g.D.TxDevice.state c.args.bench.now.items in
    let after = map g.D.TxDevice.state c.do_command.new.bench.items in
    let ended = map ended_state c.do_command.new.ended.items in
    let command = command_words c.in-Ok-Some.command in
    let found = c.in-Ok.ensures.some in
    subst (λ (is : Option CommandWords). OutcomeOfSome is have old new before after ended c.in-Ok.status) (ap (option_map command_words) (sym c.in-Ok-Some.field-0-is) ∙ c.in-Ok-Some.ensures) (
      found.0,
      found.1,
      ends_read (files_read (Some command) have found.0 found.1) old new c.in-Ok.status c.in-Ok.ensures.answer found.2,
      ends_outcome (verdict_of_command (Some command) have (λ _. Some found.0) (λ _. Some found.1)) (after_reads old new) new before after ended c.in-Ok.status c.in-Ok.ensures.answer found.3,
    )

pub returns-in-Err-do_command-clause-some : goal.returns-in-Err-do_command-clause-some
returns-in-Err-do_command-clause-some g c =
    let old = g.H.Host.state c.args.host.now in
    let new = g.H.Host.state c.do_command.new.host in
    let have = vec_len c.args.bench.now in
    let before = map g.D.TxDevice.state c.args.bench.now.items in
    let after = map g.D.TxDevice.state c.do_command.new.bench.items in
    let ended = map ended_state c.do_command.new.ended.items in
    let command = command_words c.in-Ok-Some.command in
    let found = c.in-Err-do_command.ensures.some in
    subst (λ (is : Option CommandWords). OutcomeOfSome is have old new before after ended c.status.result) (ap (option_map command_words) (sym c.in-Ok-Some.field-0-is) ∙ c.in-Ok-Some.ensures) (
      found.0,
      found.1,
      subst (HasReadFiles (files_read (Some command) have found.0 found.1) old new) (sym c.status.ensures) (stops_read (files_read (Some command) have found.0 found.1) old new c.in-Err-do_command.stop found.2),
      subst (λ (answer : Status). Outcome (verdict_of_command (Some command) have (λ _. Some found.0) (λ _. Some found.1)) (after_reads old new) new before after ended answer) (sym c.status.ensures)
          (stops_outcome (verdict_of_command (Some command) have (λ _. Some found.0) (λ _. Some found.1)) (after_reads old new) new before after ended c.in-Err-do_command.stop found.3),
    )

pub do_command-requires-clause-within : goal.do_command-requires-clause-within
do_command-requires-clause-within g c κs within =
    subst AreOperandsWithin (sym (ap (option_map command_words) (sym c.in-Ok-Some.field-0-is) ∙ c.in-Ok-Some.ensures)) (within_limits (bytes_of_words c.args.words.now))

pub returns-in-Ok-clause-beyond : goal.returns-in-Ok-clause-beyond
returns-in-Ok-clause-beyond g c =
    subst (λ (is : Option CommandWords). drop (most_units_changed_by is) c.do_command.new.bench.items ≡ drop (most_units_changed_by is) c.args.bench.now.items)
    (ap (option_map command_words) (sym c.in-Ok-Some.field-0-is) ∙ c.in-Ok-Some.ensures) c.do_command.ensures.beyond

pub returns-in-Ok-clause-others : goal.returns-in-Ok-clause-others
returns-in-Ok-clause-others g c =
    let kept : ℕ → Type 0 = λ n. drop n c.do_command.new.bench.items ≡ drop n c.args.bench.now.items in
    subst (λ (is : Option CommandWords). IfSome (g.H.Host.state c.args.host.now).told (λ k. kept (units_changed_by (verdict_of_command is (vec_len c.args.bench.now) k.files k.files))))
    (ap (option_map command_words) (sym c.in-Ok-Some.field-0-is) ∙ c.in-Ok-Some.ensures) c.do_command.ensures.others

pub returns-in-Err-do_command-clause-beyond : goal.returns-in-Err-do_command-clause-beyond
returns-in-Err-do_command-clause-beyond g c =
    subst (λ (is : Option CommandWords). drop (most_units_changed_by is) c.do_command.new.bench.items ≡ drop (most_units_changed_by is) c.args.bench.now.items)
    (ap (option_map command_words) (sym c.in-Ok-Some.field-0-is) ∙ c.in-Ok-Some.ensures) c.do_command.ensures.beyond

pub returns-in-Err-do_command-clause-others : goal.returns-in-Err-do_command-clause-others
returns-in-Err-do_command-clause-others g c =
    let kept : ℕ → Type 0 = λ n. drop n c.do_command.new.bench.items ≡ drop n c.args.bench.now.items in
    subst (λ (is : Option CommandWords). IfSome (g.H.Host.state c.args.host.now).told (λ k. kept (units_changed_by (verdict_of_command is (vec_len c.args.bench.now) k.files k.files))))
    (ap (option_map command_words) (sym c.in-Ok-Some.field-0-is) ∙ c.in-Ok-Some.ensures) c.do_command.ensures.others

pub returns-in-Ok-clause-outcome : goal.returns-in-Ok-clause-outcome
returns-in-Ok-clause-outcome g c =
    let told = (g.H.Host.state c.args.host.now).told in
    let old = g.H.Host.state c.args.host.now in
    let new = g.H.Host.state c.do_command.new.host in
    let have = vec_len c.args.bench.now in
    let before = map g.D.TxDevice.state c.args.bench.now.items in
    let after = map g.D.TxDevice.state c.do_command.new.bench.items in
    let ended = map ended_state c.do_command.new.ended.items in
    let command = command_words c.in-Ok-Some.command in
    subst (λ (is : Option CommandWords). IfSome told (λ k. Outcome (verdict_of_command is have k.files k.files) (after_reads old new) new before after ended c.in-Ok.status)) (ap (option_map command_words) (sym c.in-Ok-Some.field-0-is) ∙ c.in-Ok-Some.ensures)
    (all_ends told (λ k. verdict_of_command (Some command) have k.files k.files) (after_reads old new) new before after ended c.in-Ok.status c.in-Ok.ensures.answer c.in-Ok.ensures.does)

pub returns-in-Err-do_command-clause-outcome : goal.returns-in-Err-do_command-clause-outcome
returns-in-Err-do_command-clause-outcome g c =
    let told = (g.H.Host.state c.args.host.now).told in
    let old = g.H.Host.state c.args.host.now in
    let new = g.H.Host.state c.do_command.new.host in
    let have = vec_len c.args.bench.now in
    let before = map g.D.TxDevice.state c.args.bench.now.items in
    let after = map g.D.TxDevice.state c.do_command.new.bench.items in
    let ended = map ended_state c.do_command.new.ended.items in
    let command = command_words c.in-Ok-Some.command in
    subst (λ (is : Option CommandWords). IfSome told (λ k. Outcome (verdict_of_command is have k.files k.files) (after_reads old new) new before after ended c.status.result)) (ap (option_map command_words) (sym c.in-Ok-Some.field-0-is) ∙ c.in-Ok-Some.ensures)
    (subst (λ (answer : Status). IfSome told (λ k. Outcome (verdict_of_command (Some command) have k.files k.files) (after_reads old new) new before after ended answer)) (sym c.status.ensures)
    (all_stopped told (λ k. verdict_of_command (Some command) have k.files k.files) (after_reads old new) new before after ended c.in-Err-do_command.stop c.in-Err-do_command.ensures.does))

pub returns-in-Err-clause-some : goal.returns-in-Err-clause-some
returns-in-Err-clause-some g c =
    nothing_done (command_of_words (bytes_of_words c.args.words.now)) (vec_len c.args.bench.now) (g.H.Host.state c.args.host.now) (map g.D.TxDevice.state c.args.bench.now.items)
    (map ended_state c.args.ended.now.items)
