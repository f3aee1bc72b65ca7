-- Files that are written one after another.
use Rattle.std.proofs.Common.{◌≡◌, ◌<◌, ◌≤◌, ◌++◌, ◌∷◌, [], ℕ, zero, suc, List, map, refl, sym, ap, ◌∙◌, subst, inl, inr, arith}
use Rattle.std.proofs.lemmas.Bool.{cases_lt}
use Rattle.std.proofs.lemmas.List.{map-append}
use Rattle.lq_model.specs.Numbers.{first_numbers}
use Rattle.lq_host.specs.Host.{HostState, filed}
use Rattle.lq_files.specs.Written.{FileText, FileIsCut, FilesAreCut, files_written}

pub files_written-append : (s : HostState) (xs ys : List FileText) → files_written s (xs ++ ys) ≡ files_written (files_written s xs) ys
files_written-append s [] ys = refl
files_written-append s (x ∷ xs) ys = files_written-append (filed s x.name x.text) xs ys

-- before the first one
pub cut_none : (ys : List FileText) (old new : HostState) → new ≡ old → FilesAreCut ys old new
cut_none [] old new same = same
cut_none (y ∷ ys) old new same = inl (inl same)

-- a stop in the first files is a stop in all
pub cut_before : (xs ys : List FileText) (old new : HostState) → FilesAreCut xs old new → FilesAreCut (xs ++ ys) old new
cut_before [] ys old new same = cut_none ys old new same
cut_before (x ∷ xs) ys old new cut = elim cut [ inl here ↦ inl here | inr later ↦ inr (cut_before xs ys (filed old x.name x.text) new later) ]

-- and so is a stop after files that are whole
pub cut_after : (xs ys : List FileText) (old new : HostState) → FilesAreCut ys (files_written old xs) new → FilesAreCut (xs ++ ys) old new
cut_after [] ys old new cut = cut
cut_after (x ∷ xs) ys old new cut = inr (cut_after xs ys (filed old x.name x.text) new cut)

-- where all are whole it was stopped after the last one
pub cut_whole : (xs : List FileText) (old new : HostState) → new ≡ files_written old xs → FilesAreCut xs old new
cut_whole [] old new whole = whole
cut_whole (x ∷ xs) old new whole = inr (cut_whole xs (filed old x.name x.text) new whole)

-- the same file by another name for its name and its text
pub is_cut :
    (name text called holds : List ℕ) (old new : HostState) → name ≡ called → text ≡ holds → FileIsCut name text old new → FileIsCut called holds old new
is_cut name text called holds old new named texted cut =
    subst (λ (t : List ℕ). FileIsCut called t old new) texted (subst (λ (n : List ℕ). FileIsCut n text old new) named cut)

-- one file more is cut, or whole
pub cut_next : (xs : List FileText) (x : FileText) (old mid new : HostState) → mid ≡ files_written old xs → FileIsCut x.name x.text mid new → FilesAreCut (xs ++ x ∷ []) old new
cut_next xs x old mid new whole cut = cut_after xs (x ∷ []) old new (subst (λ (m : HostState). FilesAreCut (x ∷ []) m new) whole (inl cut))

pub whole_next :
    (xs : List FileText) (x : FileText) (old mid new : HostState) → mid ≡ files_written old xs → new ≡ filed mid x.name x.text → new ≡ files_written old (xs ++ x ∷ [])
whole_next xs x old mid new whole made = made ∙ ap (λ (m : HostState). filed m x.name x.text) whole ∙ sym (files_written-append old xs (x ∷ []))

-- files of which more come with each number: a stop in the first of them is a stop in all
module _ (files more : ℕ → List FileText) (grows : (n : ℕ) → files (suc n) ≡ files n ++ more n) (old new : HostState) where
  pub cut_more : (m n : ℕ) → m ≤ n → FilesAreCut (files m) old new → FilesAreCut (files n) old new
  cut_more m zero le cut = let same : m ≡ 0 = omega arith in subst (λ k. FilesAreCut (files k) old new) same cut
  cut_more m (suc n) le cut =
      elim (cases_lt m (suc n)) [
        | inl below ↦ (
            let most : FilesAreCut (files n) old new = cut_more m n (omega arith) cut in
            subst (λ (fs : List FileText). FilesAreCut fs old new) (sym (grows n)) (cut_before (files n) (more n) old new most)
            )
        | inr above ↦ (let same : m ≡ suc n = omega arith in subst (λ k. FilesAreCut (files k) old new) same cut)
      ]

-- NUMBERED FILES

abbrev pub numbered : (ℕ → FileText) → ℕ → List FileText
numbered file n = map file (first_numbers n)

pub numbered-more : (file : ℕ → FileText) (n : ℕ) → numbered file (suc n) ≡ numbered file n ++ file n ∷ []
numbered-more file n = map-append file (first_numbers n) (n ∷ [])

-- file number n is cut, and those below it are whole
pub cut_at :
    (file : ℕ → FileText) (n count : ℕ) (old mid new : HostState) → n < count → mid ≡ files_written old (numbered file n) → FileIsCut (file n).name (file n).text mid new
    → FilesAreCut (numbered file count) old new
cut_at file n count old mid new lt whole cut =
    let here : FilesAreCut (numbered file (suc n)) old new =
    subst (λ (fs : List FileText). FilesAreCut fs old new) (sym (numbered-more file n)) (cut_next (numbered file n) (file n) old mid new whole cut) in
    cut_more (numbered file) (λ k. file k ∷ []) (numbered-more file) old new (suc n) count (omega arith) here

pub whole_more :
    (file : ℕ → FileText) (n : ℕ) (old mid new : HostState) → mid ≡ files_written old (numbered file n) → new ≡ filed mid (file n).name (file n).text
    → new ≡ files_written old (numbered file (suc n))
whole_more file n old mid new whole made =
    whole_next (numbered file n) (file n) old mid new whole made ∙ ap (λ (fs : List FileText). files_written old fs) (sym (numbered-more file n))
