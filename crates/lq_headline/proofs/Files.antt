-- The files that were handed over to a host once some were written, one after another.
use Rattle.std.proofs.Common.{◌≡◌, ◌⊎◌, ◌<◌, ◌++◌, ◌∷◌, [], ℕ, zero, suc, true, false, cond, List, map, Option, Some, refl, sym, ap, ◌∙◌, subst, arith, inl, inr}
use Rattle.std.specs.Str.{bytes_eq}
use Rattle.std.proofs.lemmas.Bool.{cases_Bool}
use Rattle.std.proofs.lemmas.List.{map-append}
use Rattle.std.proofs.lemmas.Slice.Eq.{bytes_eq-Decides}
use Rattle.lq_files.specs.Written.{FileText, Texts, files_written, written}
use Rattle.lq_host.specs.Host.{Files, HostState, Opened, Output, appended, filed, with_file}
use Rattle.lq_model.specs.Numbers.{first_numbers}

-- the files in which each of these has its text, the last one of a name
pub put : Files → List FileText → Files
put files [] = files
put files (f ∷ fs) = put (with_file files f.name f.text) fs

-- all of them are handed over, and the handles stay
handed_files : (fs : List FileText) (s : HostState) → (files_written s fs).handed ≡ record { files = put s.handed.files fs; output = s.handed.output }
unfolding put
handed_files [] s = refl
handed_files (f ∷ fs) s = handed_files fs (filed s f.name f.text)

same_handles : (fs : List FileText) (s : HostState) → (files_written s fs).handles ≡ s.handles
same_handles [] s = refl
same_handles (f ∷ fs) s = same_handles fs (filed s f.name f.text)

pub handed_written : (texts : Texts) (s : HostState) → s.handles 0 ≡ Some Output
    → (written texts s).handed ≡ record { files = put s.handed.files texts.files; output = s.handed.output ++ texts.output }
handed_written texts s output =
    let mid = files_written s texts.files in
    let open' : mid.handles 0 ≡ Some Output = ap (λ (h : ℕ → Option Opened). h 0) (same_handles texts.files s) ∙ output in
    ap (λ (o : Option Opened). appended o texts.output mid.handed) open'
    ∙ ap (appended (Some Output) texts.output) (handed_files texts.files s)

-- WHAT A NAME HAS

-- each file of this name has this text
abbrev pub Agree : List ℕ → List ℕ → List FileText → Type 0
Agree name text [] = Unit {0}
Agree name text (f ∷ fs) = (f.name ≡ name → f.text ≡ text) × Agree name text fs

-- one of them has the name
abbrev pub IsNamed : List ℕ → List FileText → Type 0
IsNamed name [] = ⊥
IsNamed name (f ∷ fs) = (f.name ≡ name) ⊎ IsNamed name fs

with_same : (files : Files) (name bytes n : List ℕ) → n ≡ name → with_file files name bytes n ≡ Some bytes
unfolding with_file
with_same files name bytes n same = ap (λ b. cond b (Some bytes) (files n)) ((bytes_eq-Decides n name).1 same)

with_other : (files : Files) (name bytes n : List ℕ) → bytes_eq n name ≡ false → with_file files name bytes n ≡ files n
unfolding with_file
with_other files name bytes n other = ap (λ b. cond b (Some bytes) (files n)) other

pub has_text : (name text : List ℕ) (fs : List FileText) (files : Files) → Agree name text fs → IsNamed name fs ⊎ (files name ≡ Some text) → put files fs name ≡ Some text
unfolding put
has_text name text [] files agree (inl named) = absurd named
has_text name text [] files agree (inr has) = has
has_text name text (f ∷ fs) files agree is =
    let more = with_file files f.name f.text in
    elim (cases_Bool (bytes_eq name f.name)) [
      | inl equal ↦ (
          let same : name ≡ f.name = (bytes_eq-Decides name f.name).0 equal in
          has_text name text fs more agree.1 (inr (with_same files f.name f.text name same ∙ ap Some (agree.0 (sym same))))
          )
      | inr differs ↦ (
          let kept = with_other files f.name f.text name differs in
          elim is [
            | inl named ↦ elim named [
              | inl here ↦ (let equal : bytes_eq name f.name ≡ true = (bytes_eq-Decides name f.name).1 (sym here) in let e : true ≡ false = sym equal ∙ differs in cc)
              | inr later ↦ has_text name text fs more agree.1 (inl later)
            ]
            | inr has ↦ has_text name text fs more agree.1 (inr (kept ∙ has))
          ]
          )
    ]

-- LISTS OF FILES

pub agree_both : (name text : List ℕ) (xs ys : List FileText) → Agree name text xs → Agree name text ys → Agree name text (xs ++ ys)
agree_both name text [] ys one two = two
agree_both name text (x ∷ xs) ys one two = (one.0, agree_both name text xs ys one.1 two)

pub agree_each : {X : Type 0} (name text : List ℕ) (f : X → FileText) (xs : List X) → ((x : X) → (f x).name ≡ name → (f x).text ≡ text) → Agree name text (map f xs)
agree_each name text f [] each = tt
agree_each name text f (x ∷ xs) each = (each x, agree_each name text f xs each)

pub agree_numbers : (name text : List ℕ) (f : ℕ → FileText) (n : ℕ) → ((k : ℕ) → k < n → (f k).name ≡ name → (f k).text ≡ text) → Agree name text (map f (first_numbers n))
agree_numbers name text f zero each = tt
agree_numbers name text f (suc n) each =
    subst (Agree name text) (sym (map-append f (first_numbers n) (n ∷ [])))
    (agree_both name text (map f (first_numbers n)) (f n ∷ []) (agree_numbers name text f n (λ k lt. each k (omega arith))) (each n (omega arith), tt))

pub named_first : (name : List ℕ) (xs ys : List FileText) → IsNamed name xs → IsNamed name (xs ++ ys)
named_first name [] ys named = absurd named
named_first name (x ∷ xs) ys (inl here) = inl here
named_first name (x ∷ xs) ys (inr later) = inr (named_first name xs ys later)

pub named_then : (name : List ℕ) (xs ys : List FileText) → IsNamed name ys → IsNamed name (xs ++ ys)
named_then name [] ys named = named
named_then name (x ∷ xs) ys named = inr (named_then name xs ys named)

pub named_number : (f : ℕ → FileText) (n k : ℕ) → k < n → IsNamed (f k).name (map f (first_numbers n))
named_number f zero k lt = absurd (omega arith)
named_number f (suc n) k lt =
    subst (IsNamed (f k).name) (sym (map-append f (first_numbers n) (n ∷ [])))
    (elim (Rattle.std.proofs.lemmas.Bool.cases_lt k n) [
      | inl before ↦ named_first (f k).name (map f (first_numbers n)) (f n ∷ []) (named_number f n k before)
      | inr after ↦ (let same : n ≡ k = omega arith in named_then (f k).name (map f (first_numbers n)) (f n ∷ []) (inl (ap (λ i. (f i).name) same)))
    ])
