-- The headline of a run, from what `lqtx` says of it.
use Rattle.std.proofs.Common.{◌≡◌, ◌<◌, ◌^◌, ◌++◌, ◌∷◌, [], ℕ, List, length, map, Option, None, Some, refl, sym, ap, ◌∙◌, subst, arith, inl, inr, slice_get}
use Rattle.std.specs.Prelude.{codes}
use Rattle.std.specs.Fmt.{decimal}
use Rattle.std.specs.Option.{option_map_or}
use Rattle.std.proofs.lemmas.List.{append_assoc}
use Rattle.std.proofs.lemmas.Option.{same_Some, slice_get_within}
use Rattle.lq_files.proofs.TextLemmas.{length-infos_of, sent_below}
use Rattle.lq_files.specs.Groups.{group_capture_name, group_files, mq_lines, roots, sent_by_group}
use Rattle.lq_files.specs.RunFiles.{Run as RunOf, capture_name, card_told, fates_name, run_of, texts_of, times_name, unit_files}
use Rattle.lq_files.specs.Written.{FileText}
use Rattle.lq_fates.proofs.SentLemmas.{sent_is}
use Rattle.lq_host.specs.Host.{Contents, Files, HostState, Output}
use Rattle.lq_model.specs.Device.{DeviceState}
use Rattle.lq_model.specs.Plan.{Plan, info_of, infos_of, owner_of, priority_by, station_of, unit_count}
use Rattle.lq_model.specs.Sent.{sent_of}
use Rattle.lq_model.specs.Settled.{IsSentList}
use Rattle.lq_model.specs.Texts.{fates_text, times_text}
use Rattle.lq_model.specs.Wire.{flights_of_card}
use Rattle.lq_model.specs.declared.fate.Fate.{Fate}
use Rattle.lq_model.specs.declared.fate.Info.{Info}
use Rattle.lq_model.specs.declared.plan.Card.{Card}
use Rattle.lq_pcapng.specs.File.{packets_of_file, text_of}
use Rattle.lq_plan.specs.Limits.{IsWithinLimits}
use Rattle.lq_plan.proofs.Acceptance as plans
use Rattle.lq_senders.proofs.Units.{units-few}
use Rattle.lq_table.specs.Ended.{EndedState}
use Rattle.lq_top.specs.Headline.{AreFatesIn}
use Rattle.lq_headline.proofs.Apart.{Apart, apart}
use Rattle.lq_files.specs.Command.{CommandWords, command_of_words}
use Rattle.lq_files.specs.declared.answer.Status.{Status}
use Rattle.lq_files.specs.declared.answer.Status.TheVariants as status
use Rattle.lq_top.specs.Outcome.{OutcomeOfSome}
use Rattle.lq_top.specs.Program.{HostAt, IsCodeOfWords, new_bench}
use Rattle.lq_top.specs.Reads.{after_reads}
use Rattle.lq_files.specs.Status.{code_of}
use Rattle.lq_headline.proofs.Decided.{HasReplayed, command_found, words_of_run}
use Rattle.lq_headline.proofs.Files.{Agree, IsNamed, agree_both, agree_each, agree_numbers, handed_written, has_text, named_first, named_number, named_then, put}
use Rattle.lq_headline.proofs.Names.{no_fates, no_group, no_root_fates, no_times, no_times_fates, one_unit}
use Rattle.lq_headline.proofs.Orders.{at-packet, in-order, units-below}
use Rattle.lq_headline.proofs.Texts.{same_counts, same_fates}
use Rattle.lq_headline.specs.Page.{HaveAccepted, Headline, IsCaptureFile, HasWritten, Replay, fate_lines, unit_capture}
use Rattle.lq_headline.specs.Plans.{FollowsPlan}
use Rattle.lq_model.specs.Capture.{Packets}
use Rattle.lq_model.specs.Class.{band_of}

module _ (plan_name capture_file out plan_bytes capture_bytes : List ℕ) (old new : HostState) (before after : List DeviceState) (ended : List EndedState)
    (found : HasReplayed (words_of_run plan_name capture_file out) plan_bytes capture_bytes old new before after ended) where
  abbrev plan : Plan
  plan = found.plan

  abbrev run_is : RunOf
  run_is = run_of out found.plan found.capture

  abbrev fates : List Fate
  fates = found.has_run.0

  abbrev infos : List Info
  infos = infos_of found.plan (packets_of_file found.capture)

  abbrev packets : Packets
  packets = packets_of_file found.capture

  are : AreFatesIn run_is fates before after
  are = found.has_run.1

  within : IsWithinLimits plan
  within = plans.accepted_within plan_bytes found.plan found.plan_is

  abbrev parts : Apart capture_bytes found.capture
  parts = apart _ capture_bytes found.capture found.capture_is

  abbrev pub run : Replay
  run = record {
    plan_text = plan_bytes;
    capture_bytes = capture_bytes;
    head = parts.head;
    records = parts.records;
    sender = owner_of plan packets;
    station = station_of plan packets;
    band = λ n. band_of (priority_by plan.classify packets n);
    units = unit_count plan;
    stations = length plan.stations;
    fates = fates;
    sent = sent_of fates;
  }

  sent-list : (unit : ℕ) → IsSentList fates unit (sent_of fates unit)
  sent-list unit = let serials = are.of_run.settled.serials unit in subst (IsSentList fates unit) (sym (sent_is fates unit serials.0 serials.1)) serials.1

  count-is : length fates ≡ (packets_of_file found.capture).count
  count-is = are.of_run.settled.one_each ∙ length-infos_of plan (packets_of_file found.capture)

  pub headline : Headline run
  headline = record {
    one_fate_each = count-is ∙ sym parts.count;
    sent_packets = λ unit n k. ((sent-list unit n k).1, (sent-list unit n k).0);
    sent_by_units = λ unit n k sent. units-below plan packets within fates are.of_run.settled unit n k ((sent-list unit n k).1 sent);
    in_order = λ unit m n j k less owner band sent-m sent-n.
        in-order plan packets within fates are.of_run.settled are.of_run.in_order unit m n j k less owner band ((sent-list unit m j).1 sent-m) ((sent-list unit n k).1 sent-n);
  }

  pub is_capture : IsCaptureFile run.capture_bytes run.head run.records
  is_capture = parts.is_capture

  pub follows : FollowsPlan run
  follows = record {
    plan = plan;
    packets = packets;
    plan_is = found.plan_is;
    rules = record {
      stations = refl;
      units = refl;
      sender_is = λ n. refl;
      station_is = λ n. refl;
      band_is = λ n. refl;
      classic = λ format. (let are = parts.classic format in record { frames = are.0; links = are.1 });
      pcapng = λ format. (let are = parts.pcapng format in record { is = are.0; frames = are.1; links = are.2 });
    };
  }

  pub accepted : HaveAccepted run (map (λ (d : DeviceState). d.accepted) after)
  accepted unit below = are.of_run.devices unit below

  -- FILES

  abbrev unit_file : ℕ → FileText
  unit_file unit = record { name = capture_name out unit; text = text_of found.capture (sent_of fates unit) }

  abbrev group_file : ℕ → FileText
  group_file j = record { name = group_capture_name out j; text = text_of found.capture (sent_by_group plan fates j) }

  small : (unit : ℕ) → unit < unit_count plan → unit < 2 ^ 64
  small unit below = let few = units-few plan in let stations = within.stations in let events = within.events in omega arith

  files-of : (name text : List ℕ) (files : Files) → ((k : ℕ) → k < unit_count plan → capture_name out k ≡ name → text_of found.capture (sent_of fates k) ≡ text)
      → ((j : ℕ) → group_capture_name out j ≡ name → text_of found.capture (sent_by_group plan fates j) ≡ text) → (fates_name out ≡ name → fates_text fates ≡ text) → (times_name out ≡ name → ⊥)
      → IsNamed name (texts_of run_is fates).files → put files (texts_of run_is fates).files name ≡ Some text
  files-of name text files units groups last times named =
      has_text name text (texts_of run_is fates).files files
      (agree_both name text (unit_files out found.capture fates (unit_count plan)) _ (agree_numbers name text unit_file (unit_count plan) units)
      (agree_both name text (group_files out found.capture plan fates) _ (agree_each name text group_file (roots plan) groups) (last, no-times (card_told plan) times)))
      (inl named)
    where
      no-times : (o : Option Card) → (times_name out ≡ name → ⊥)
          → Agree name text (option_map_or (λ card. record { name = times_name out; text = times_text card (flights_of_card card plan (packets_of_file found.capture) (infos_of plan (packets_of_file found.capture))) } ∷ []) o [])
      no-times None other = tt
      no-times (Some card) other = ((λ same. absurd (other same)), tt)

  capture-there : (files : Files) (unit : ℕ) → unit < unit_count plan → put files (texts_of run_is fates).files (capture_name out unit) ≡ Some (unit_capture run unit)
  capture-there files unit below =
      files-of (capture_name out unit) (text_of found.capture (sent_of fates unit)) files
      (λ k lt same. ap (λ u. text_of found.capture (sent_of fates u)) (one_unit out k unit (small k lt) (small unit below) same))
      (λ j same. absurd (no_group out unit j (small unit below) same))
      (λ same. absurd (no_fates out unit (small unit below) same))
      (λ same. absurd (no_times out unit (small unit below) same))
      (named_first (capture_name out unit) (unit_files out found.capture fates (unit_count plan)) _ (named_number unit_file (unit_count plan) unit below))
      ∙ ap Some (parts.text (sent_of fates unit) (sent_below fates unit (packets_of_file found.capture).count (are.of_run.settled.serials unit) (let is = count-is in omega arith)))

  fates-there : (files : Files) → put files (texts_of run_is fates).files (fates_name out) ≡ Some (fate_lines fates)
  fates-there files =
      files-of (fates_name out) (fates_text fates) files
      (λ k lt same. absurd (no_fates out k (small k lt) (sym same)))
      (λ j same. absurd (no_root_fates out j same))
      (λ same. refl)
      (λ same. absurd (no_times_fates out same))
      (named_then (fates_name out) (unit_files out found.capture fates (unit_count plan)) _ (named_then (fates_name out) (group_files out found.capture plan fates) _ (inl refl)))
      ∙ ap Some (same_fates fates)

  stations-at : (n : ℕ) (info : Info) → slice_get infos n ≡ Some info → info.station ≡ run.station n
  stations-at n info there =
      let below : n < packets.count = subst (λ c. n < c) (length-infos_of plan packets) (slice_get_within infos n info there) in
      ap (λ (i : Info). i.station) (same_Some info (info_of plan packets n) (sym there ∙ at-packet plan packets within n below))

  name-is : (unit : ℕ) → out ++ codes "." ++ decimal unit ++ codes ".pcap" ≡ capture_name out unit
  name-is unit = simp append_assoc

  -- what was read, and what was handed over
  pub has_written : old.handles 0 ≡ Some Output → HasWritten plan_name capture_file out run old new
  has_written output =
      let texts = texts_of run_is fates in
      let handed : new.handed ≡ record { files = put old.handed.files texts.files; output = old.handed.output ++ texts.output } =
      ap (λ (s : HostState). s.handed) found.has_run.3 ∙ handed_written texts (after_reads old new) output
      in
      record {
        reads = found.reads;
        captures = λ unit below.
            ap (λ (c : Contents). c.files (out ++ codes "." ++ decimal unit ++ codes ".pcap")) handed
            ∙ ap (put old.handed.files texts.files) (name-is unit) ∙ capture-there old.handed.files unit below;
        fates = ap (λ (c : Contents). c.files (fates_name out)) handed ∙ fates-there old.handed.files;
        counts = (
          mq_lines plan fates,
          ap (λ (c : Contents). c.output) handed
              ∙ ap (λ (text : List ℕ). old.handed.output ++ (text ++ mq_lines plan fates)) (same_counts run infos sent-list are.of_run.settled.one_each stations-at),
        );
      }

-- ANY HOST

-- what is ensured of the call
abbrev pub Replays : List ℕ → List ℕ → List ℕ → HostState → HostState → List (List ℕ) → Type 0
Replays plan capture out old new accepted =
    (run : Replay) × Headline run × HasWritten plan capture out run old new × HaveAccepted run accepted × IsCaptureFile run.capture_bytes run.head run.records
    × FollowsPlan run

module _ (plan capture out : List ℕ) (have : ℕ) (old new : HostState) (before after : List DeviceState) (ended : List EndedState) (output : old.handles 0 ≡ Some Output) where
  abbrev command : Option CommandWords
  command = command_of_words (codes "run" ∷ plan ∷ capture ∷ out ∷ [])

  done : OutcomeOfSome command have old new before after ended status.Done → Replays plan capture out old new (map (λ (d : DeviceState). d.accepted) after)
  done some =
      let found = command_found plan capture out have old new before after ended some in (
        run plan capture out some.0 some.1 old new before after ended found,
        headline plan capture out some.0 some.1 old new before after ended found,
        has_written plan capture out some.0 some.1 old new before after ended found output,
        accepted plan capture out some.0 some.1 old new before after ended found,
        is_capture plan capture out some.0 some.1 old new before after ended found,
        follows plan capture out some.0 some.1 old new before after ended found,
      )

  pub replays : (answer : Status) → answer ≡ status.Done → OutcomeOfSome command have old new before after ended answer
      → Replays plan capture out old new (map (λ (d : DeviceState). d.accepted) after)
  replays answer is some = done (subst (OutcomeOfSome command have old new before after ended) is some)

-- THE EXIT STATUS

-- only Done has the code 0
done_is_0 : (answer : Status) → code_of answer ≡ 0 → answer ≡ status.Done
done_is_0 status.Done e = refl
done_is_0 status.Usage e = absurd (omega arith)
done_is_0 (status.Plan reason) e = absurd (omega arith)
done_is_0 (status.Bench need have) e = absurd (omega arith)
done_is_0 (status.Capture reason place) e = absurd (omega arith)
done_is_0 status.Fault e = absurd (omega arith)
done_is_0 status.NoMemory e = absurd (omega arith)
done_is_0 (status.Trace reason line) e = absurd (omega arith)

-- the same without the devices
abbrev pub ReplaysFiles : List ℕ → List ℕ → List ℕ → HostState → HostState → Type 0
ReplaysFiles plan capture out old new =
    (run : Replay) × Headline run × HasWritten plan capture out run old new × IsCaptureFile run.capture_bytes run.head run.records × FollowsPlan run

pub programs : (plan capture out : List ℕ) (old new : HostAt) (number : ℕ) → old.state.handles 0 ≡ Some Output → number ≡ 0
    → IsCodeOfWords (codes "run" ∷ plan ∷ capture ∷ out ∷ []) old new number → ReplaysFiles plan capture out old.state new.state
programs plan capture out old new number output is (inl none) = absurd (let six = none.0 in omega arith)
programs plan capture out old new number output is (inr call) =
    let found = replays plan capture out 16 old.state new.state new_bench call.after call.ended output call.status (done_is_0 call.status (sym call.code ∙ is)) call.some in
    (found.0, found.1, found.2, found.4, found.5)
