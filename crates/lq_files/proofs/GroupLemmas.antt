-- The files and the lines of multi-queue roots, group by group.
use Rattle.std.proofs.Common.{◌≡◌, ◌<◌, ◌++◌, ◌∷◌, [], ℕ, zero, suc, Bool, true, false, nat_lt, List, length, map, refl, sym, ap, ◌∙◌, subst, append_assoc, arith}
use Rattle.std.specs.Prelude.{filter}
use Rattle.std.specs.List.{flat_map}
use Rattle.std.proofs.lemmas.Bool.{le-ltb}
use Rattle.std.proofs.lemmas.Grind.{flat_map-append}
use Rattle.std.proofs.lemmas.List.{append-nil, map-append}
use Rattle.std.proofs.lemmas.List.Elements.{filter-append}
use Rattle.lq_model.specs.Numbers.{first_numbers}
use Rattle.lq_model.specs.Plan.{Plan, mq_at}
use Rattle.lq_model.specs.declared.fate.Fate.{Fate}
use Rattle.lq_host.specs.Host.{HostState, filed}
use Rattle.lq_mq.specs.Line.{mq_text}
use Rattle.lq_pcapng.specs.File.{text_of}
use Rattle.lq_pcapng.specs.declared.file.CaptureFile.{CaptureFile}
use Rattle.lq_files.specs.Groups.{group_capture_name, sent_by_group}
use Rattle.lq_files.specs.Written.{FileText, FileIsCut, FilesAreCut, files_written}
use Rattle.lq_files.proofs.FileLemmas.{cut_more, cut_next, whole_next}

-- ONE GROUP MORE

module _ (plan : Plan) where
  -- whether group j has more than one child
  abbrev pub is_root : ℕ → Bool
  is_root j = nat_lt 1 (mq_at plan.groups j)

  -- the roots among the first n groups
  abbrev pub roots_below : ℕ → List ℕ
  roots_below n = filter is_root (first_numbers n)

  -- group n, if it is a root
  abbrev root_at : ℕ → List ℕ
  root_at n = filter is_root (n ∷ [])

  roots-more : (n : ℕ) → roots_below (suc n) ≡ roots_below n ++ root_at n
  roots-more n = filter-append is_root (first_numbers n) (n ∷ [])

  one-root : (n : ℕ) → is_root n ≡ true → root_at n ≡ n ∷ []
  one-root n is = rw is refl

  no-root : (n : ℕ) → is_root n ≡ false → root_at n ≡ []
  no-root n is = rw is refl

  next-root : (n : ℕ) → is_root n ≡ true → roots_below (suc n) ≡ roots_below n ++ n ∷ []
  next-root n more = roots-more n ∙ ap (λ ns. roots_below n ++ ns) (one-root n more)

  same-roots : (n : ℕ) → is_root n ≡ false → roots_below (suc n) ≡ roots_below n
  same-roots n few = roots-more n ∙ (ap (λ ns. roots_below n ++ ns) (no-root n few) ∙ append-nil (roots_below n))

  -- where no group is a root, there are none
  pub no-roots : ((j : ℕ) → mq_at plan.groups j < 2) → (n : ℕ) → roots_below n ≡ []
  no-roots few zero = refl
  no-roots few (suc n) = same-roots n (le-ltb 1 (mq_at plan.groups n) (let two = few n in omega arith)) ∙ no-roots few n

-- FILES

module _ (out : List ℕ) (capture : CaptureFile) (plan : Plan) (fates : List Fate) where
  abbrev file : ℕ → FileText
  file j = record { name = group_capture_name out j; text = text_of capture (sent_by_group plan fates j) }

  -- of the first so many groups
  abbrev pub files_below : ℕ → List FileText
  files_below n = map file (roots_below plan n)

  files-more : (n : ℕ) → files_below (suc n) ≡ files_below n ++ map file (root_at plan n)
  files-more n = ap (map file) (roots-more plan n) ∙ map-append file (roots_below plan n) (root_at plan n)

  one-file : (n : ℕ) → is_root plan n ≡ true → files_below (suc n) ≡ files_below n ++ file n ∷ []
  one-file n more = files-more n ∙ ap (λ ns. files_below n ++ map file ns) (one-root plan n more)

  -- the file of a root is cut, and those of the groups before it are whole
  pub root_cut : (n count : ℕ) (old mid new : HostState) → n < count → is_root plan n ≡ true → mid ≡ files_written old (files_below n) → FileIsCut (file n).name (file n).text mid new
      → FilesAreCut (files_below count) old new
  root_cut n count old mid new lt more whole cut =
      let here : FilesAreCut (files_below (suc n)) old new =
      subst (λ (fs : List FileText). FilesAreCut fs old new) (sym (one-file n more)) (cut_next (files_below n) (file n) old mid new whole cut) in
      cut_more files_below (λ k. map file (root_at plan k)) files-more old new (suc n) count (omega arith) here

  pub root_whole : (n : ℕ) (old mid new : HostState) → is_root plan n ≡ true → mid ≡ files_written old (files_below n) → new ≡ filed mid (file n).name (file n).text
      → new ≡ files_written old (files_below (suc n))
  root_whole n old mid new more whole made = whole_next (files_below n) (file n) old mid new whole made ∙ ap (λ (fs : List FileText). files_written old fs) (sym (one-file n more))

  pub no_root_whole : (n : ℕ) (old mid : HostState) → is_root plan n ≡ false → mid ≡ files_written old (files_below n) → mid ≡ files_written old (files_below (suc n))
  no_root_whole n old mid few whole = whole ∙ ap (λ (ns : List ℕ). files_written old (map file ns)) (sym (same-roots plan n few))

-- LINES

module _ (plan : Plan) (fates : List Fate) where
  abbrev line : ℕ → List ℕ
  line j = mq_text j (mq_at plan.groups j) (length (sent_by_group plan fates j))

  abbrev pub lines_below : ℕ → List ℕ
  lines_below n = flat_map line (roots_below plan n)

  pub root_line : (n : ℕ) (old text new : List ℕ) → is_root plan n ≡ true → text ≡ old ++ lines_below n → new ≡ text ++ line n → new ≡ old ++ lines_below (suc n)
  root_line n old text new more was now =
      now ∙ (ap (λ ys. ys ++ line n) was ∙ (append_assoc old (lines_below n) (line n) ∙ ap (λ ys. old ++ ys) (sym grown)))
    where
      grown : lines_below (suc n) ≡ lines_below n ++ line n
      grown =
          ap (flat_map line) (next-root plan n more) ∙ (flat_map-append line (roots_below plan n) (n ∷ [])
          ∙ ap (λ ys. lines_below n ++ ys) (append-nil (line n)))

  pub no_root_line : (n : ℕ) (old text : List ℕ) → is_root plan n ≡ false → text ≡ old ++ lines_below n → text ≡ old ++ lines_below (suc n)
  no_root_line n old text few was = was ∙ ap (λ ns. old ++ flat_map line ns) (sym (same-roots plan n few))
