-- What is written of a run and of a tap, from what its parts are.
use Rattle.std.proofs.Common.{◌≡◌, ◌⊎◌, ◌++◌, ◌∷◌, ℕ, List, length, refl, sym, ap, ◌∙◌, subst, inl, inr}
use Rattle.lq_fates.specs.Counts.{AreCounts}
use Rattle.lq_fates.specs.declared.counts.Counts.{Counts}
use Rattle.lq_model.specs.Plan.{Plan, infos_of, unit_count}
use Rattle.lq_model.specs.Texts.{fates_text}
use Rattle.lq_model.specs.declared.fate.Fate.{Fate}
use Rattle.lq_model.specs.declared.fate.Info.{Info}
use Rattle.lq_host.specs.Host.{HostState, filed, wrote}
use Rattle.lq_pcapng.specs.File.{packets_of_file, text_of}
use Rattle.lq_pcapng.specs.declared.file.CaptureFile.{CaptureFile}
use Rattle.lq_fates.specs.TapTexts.{tap_counts_line, tap_fates_text}
use Rattle.lq_fates.specs.declared.tap_fate.TapFate.{TapFate}
use Rattle.lq_files.specs.Groups.{group_files}
use Rattle.lq_files.specs.RunFiles.{Run, counts_output, fates_name, times_files, unit_files, texts_of}
use Rattle.lq_files.specs.TapFiles.{read_name, tap_texts_of}
use Rattle.lq_files.specs.Written.{FileText, FileIsCut, FilesAreCut, OutputHasPrefix, IsCut, files_written, written}
use Rattle.lq_files.proofs.FileLemmas.{cut_after, cut_before, cut_none, cut_whole, files_written-append}

-- the counts of a plan's stations and units
pub counts_of_plan :
    (plan : Plan) (fates : List Fate) (infos : List Info) (stations units : ℕ) (counts : Counts) → stations ≡ length plan.stations → units ≡ unit_count plan
    → AreCounts fates infos stations units counts → AreCounts fates infos (length plan.stations) (unit_count plan) counts
counts_of_plan plan fates infos stations units counts all_stations all_units are =
    subst (λ s. AreCounts fates infos s (unit_count plan) counts) all_stations (subst (λ u. AreCounts fates infos stations u counts) all_units are)

-- the files of the units, of as many as the plan needs, and of the multi-queue roots
abbrev files_of_units : Run → List Fate → ℕ → List FileText
files_of_units run fates units = unit_files run.out run.capture fates units

abbrev files_of_groups : Run → List Fate → List FileText
files_of_groups run fates = group_files run.out run.capture run.plan fates

abbrev file_of_fates : Run → List Fate → FileText
file_of_fates run fates = record { name = fates_name run.out; text = fates_text fates }

abbrev files_of_times : Run → List Info → List FileText
files_of_times run infos = times_files run.out run.plan (packets_of_file run.capture) infos

-- those behind the multi-queue roots'
abbrev last_files : Run → List Fate → List Info → List FileText
last_files run fates infos = file_of_fates run fates ∷ files_of_times run infos

abbrev own_infos : Run → List Info
own_infos run = infos_of run.plan (packets_of_file run.capture)

-- it was stopped before the first file
pub stopped_first : (run : Run) (fates : List Fate) (old : HostState) → IsCut (texts_of run fates) old old
stopped_first run fates old = inl (cut_none (texts_of run fates).files old old refl)

-- it was stopped in the units' files
pub stopped_in_units :
    (run : Run) (fates : List Fate) (units : ℕ) (old new : HostState) → units ≡ unit_count run.plan → FilesAreCut (files_of_units run fates units) old new
    → IsCut (texts_of run fates) old new
stopped_in_units run fates units old new counted cut =
    inl (cut_before (files_of_units run fates (unit_count run.plan)) (files_of_groups run fates ++ last_files run fates (own_infos run)) old new
    (subst (λ n. FilesAreCut (files_of_units run fates n) old new) counted cut))

-- those are whole
module _ (run : Run) (fates : List Fate) (units : ℕ) (old mid : HostState) (counted : units ≡ unit_count run.plan) (whole : mid ≡ files_written old (files_of_units run fates units)) where
  whole_units : mid ≡ files_written old (files_of_units run fates (unit_count run.plan))
  whole_units = whole ∙ ap (λ n. files_written old (files_of_units run fates n)) counted

  after_units : (files : List FileText) (new : HostState) → FilesAreCut files mid new → FilesAreCut (files_of_units run fates (unit_count run.plan) ++ files) old new
  after_units files new cut = cut_after (files_of_units run fates (unit_count run.plan)) files old new (subst (λ (s : HostState). FilesAreCut files s new) whole_units cut)

  -- it was stopped in the files of the multi-queue roots
  pub stopped_in_groups : (new : HostState) → FilesAreCut (files_of_groups run fates) mid new → IsCut (texts_of run fates) old new
  stopped_in_groups new cut =
      let last = last_files run fates (own_infos run) in inl (after_units (files_of_groups run fates ++ last) new (cut_before (files_of_groups run fates) last mid new cut))

  -- these are whole, too
  module _ (next : HostState) (joined : next ≡ files_written mid (files_of_groups run fates)) where
    after_groups : (new : HostState) → FilesAreCut (last_files run fates (own_infos run)) next new → IsCut (texts_of run fates) old new
    after_groups new cut =
        let last = last_files run fates (own_infos run) in
        inl (after_units (files_of_groups run fates ++ last) new (cut_after (files_of_groups run fates) last mid new (subst (λ (s : HostState). FilesAreCut last s new) joined cut)))

    -- it was stopped in the file of the fates
    pub stopped_in_fates : (new : HostState) → FileIsCut (fates_name run.out) (fates_text fates) next new → IsCut (texts_of run fates) old new
    stopped_in_fates new cut = after_groups new (inl cut)

    -- this is whole
    module _ (told : HostState) (made : told ≡ filed next (fates_name run.out) (fates_text fates)) (infos : List Info) (known : infos ≡ infos_of run.plan (packets_of_file run.capture)) where
      -- it was stopped in the file of the times
      pub stopped_in_times : (new : HostState) → FilesAreCut (files_of_times run infos) told new → IsCut (texts_of run fates) old new
      stopped_in_times new cut =
          after_groups new (inr (subst (λ (is : List Info). FilesAreCut (files_of_times run is) (filed next (fates_name run.out) (fates_text fates)) new) known
          (subst (λ (s : HostState). FilesAreCut (files_of_times run infos) s new) made cut)))

      -- all files are whole
      module _ (all : HostState) (timed : all ≡ files_written told (files_of_times run infos)) where
        whole_files : all ≡ files_written old (texts_of run fates).files
        whole_files =
            let last = last_files run fates (own_infos run) in
            timed
            ∙ (ap (λ (s : HostState). files_written s (files_of_times run infos)) (made ∙ ap (λ (s : HostState). filed s (fates_name run.out) (fates_text fates)) joined)
            ∙ (ap (λ (is : List Info). files_written (files_written mid (files_of_groups run fates)) (last_files run fates is)) known
            ∙ (sym (files_written-append mid (files_of_groups run fates) last)
            ∙ (ap (λ (s : HostState). files_written s (files_of_groups run fates ++ last)) whole_units
            ∙ sym (files_written-append old (files_of_units run fates (unit_count run.plan)) (files_of_groups run fates ++ last))))))

        -- it was stopped in the counts, or before them
        pub stopped_in_counts : (new : HostState) → (new ≡ all) ⊎ OutputHasPrefix (counts_output run.plan infos fates) all new → IsCut (texts_of run fates) old new
        stopped_in_counts new cut =
            let files = (texts_of run fates).files in
            elim cut [
              | inl same ↦ inl (cut_whole files old new (same ∙ whole_files))
              | inr part ↦
                  inr (subst (λ (is : List Info). OutputHasPrefix (counts_output run.plan is fates) (files_written old files) new) known
                  (subst (λ (s : HostState). OutputHasPrefix (counts_output run.plan infos fates) s new) whole_files part))
            ]

        -- all is written
        pub all_written : (new : HostState) → new ≡ wrote all 0 (counts_output run.plan infos fates) → new ≡ written (texts_of run fates) old
        all_written new done =
            done ∙ ap (λ (s : HostState). wrote s 0 (counts_output run.plan infos fates)) whole_files
            ∙ ap (λ (is : List Info). wrote (files_written old (texts_of run fates).files) 0 (counts_output run.plan is fates)) known

-- THE FILES OF A TAP

-- the file of the packets that were read is whole
module _ (out : List ℕ) (capture : CaptureFile) (fates : List TapFate) (read : List ℕ) (old mid : HostState) (made : mid ≡ filed old (read_name out) (text_of capture read)) where
  -- it was stopped in the file of the fates
  pub tap_stopped_in_fates : (new : HostState) → FileIsCut (fates_name out) (tap_fates_text fates) mid new → IsCut (tap_texts_of out capture fates read) old new
  tap_stopped_in_fates new cut =
      inl (inr (inl (subst (λ (s : HostState). FileIsCut (fates_name out) (tap_fates_text fates) s new) made cut)))

  -- this is whole, too
  module _ (all : HostState) (told : all ≡ filed mid (fates_name out) (tap_fates_text fates)) where
    both_files : all ≡ files_written old (tap_texts_of out capture fates read).files
    both_files = told ∙ ap (λ (s : HostState). filed s (fates_name out) (tap_fates_text fates)) made

    -- it was stopped in the counts, or before them
    pub tap_stopped_in_counts : (new : HostState) → (new ≡ all) ⊎ OutputHasPrefix (tap_counts_line fates) all new → IsCut (tap_texts_of out capture fates read) old new
    tap_stopped_in_counts new cut = elim cut [
      | inl same ↦ inl (inr (inr (same ∙ both_files)))
      | inr part ↦ inr (subst (λ (s : HostState). OutputHasPrefix (tap_counts_line fates) s new) both_files part)
    ]

    -- all is written
    pub tap_all_written : (new : HostState) → new ≡ wrote all 0 (tap_counts_line fates) → new ≡ written (tap_texts_of out capture fates read) old
    tap_all_written new done = done ∙ ap (λ (s : HostState). wrote s 0 (tap_counts_line fates)) both_files
