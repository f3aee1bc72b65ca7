-- What a call writes, and what it leaves where it is stopped on the way.
use Rattle.std.specs.Prelude.{◌≡◌, ◌⊎◌, ◌≤◌, ℕ, List, [], ◌∷◌, length, take, fold}
use Rattle.lq_host.specs.Host.{HostState, filed, wrote}

-- a file that is written: its name, and the text that it gets
pub record FileText : Type 0 where
  pub name : List ℕ
  pub text : List ℕ

-- what a call writes: these files in this order, and then this text to standard output
pub record Texts : Type 0 where
  pub files : List FileText
  pub output : List ℕ

abbrev pub output_only : List ℕ → Texts
output_only text = record { files = []; output = text }

-- WHOLE

-- the host where each of these files has its text, and all else is as it was
abbrev pub files_written : HostState → List FileText → HostState
files_written host files = fold (λ done file. filed done file.name file.text) host files

-- the host where all was written, and all else is as it was
abbrev pub written : Texts → HostState → HostState
written texts host = wrote (files_written host texts.files) 0 texts.output

-- CUT

-- the file is as before, or was made and has a prefix of its text: none of it, all of it or some; all else is as it was
abbrev pub FileIsCut : List ℕ → List ℕ → HostState → HostState → Type 0
FileIsCut name text old new = (new ≡ old) ⊎ ((n : ℕ) × (n ≤ length text) × (new ≡ filed old name (take n text)))

abbrev pub OutputHasPrefix : List ℕ → HostState → HostState → Type 0
OutputHasPrefix text old new = (n : ℕ) × (n ≤ length text) × (new ≡ wrote old 0 (take n text))

-- Some of these files are whole; the next one, if there is one, is as before or has a prefix of its text, and those
-- after it are as before, as is all else.
abbrev pub FilesAreCut : List FileText → HostState → HostState → Type 0
FilesAreCut [] old new = new ≡ old
FilesAreCut (file ∷ files) old new = FileIsCut file.name file.text old new ⊎ FilesAreCut files (filed old file.name file.text) new

-- The host where writing was stopped: on its way through the files or before it; or all of them are whole, and standard
-- output got a prefix of its text.
abbrev pub IsCut : Texts → HostState → HostState → Type 0
IsCut texts old new = FilesAreCut texts.files old new ⊎ OutputHasPrefix texts.output (files_written old texts.files) new
