-- Texts that are made in parts and written through a buffer.
use Rattle.std.specs.Prelude.{◌≡◌, ◌≤◌, ◌<◌, ◌++◌, ℕ, List, IfSome, Some, drop, length, slice_get, take}
use Rattle.std.specs.List.{flat_map}
use Rattle.lq_host.specs.Host.{HostState, wrote}
use Rattle.lq_pcapng.specs.File.{piece_of}
use Rattle.lq_pcapng.specs.declared.file.CaptureFile.{CaptureFile}
use Rattle.lq_files.specs.Lines.{lines_of}
use Rattle.lq_files.specs.declared.parts.Part.{Part}

-- THE PIECES

-- of a capture with these packets, what stands in it from packet i of the list on
abbrev pub packets_from : CaptureFile → List ℕ → ℕ → List ℕ
packets_from c packets i = flat_map (piece_of c) (drop i packets)

-- the lines from packet n on
abbrev pub lines_from : {F : Type 0} → (F → List ℕ) → List F → ℕ → List ℕ
lines_from words fates n = lines_of words n (drop n fates)

-- THE PARTS

-- Of a text of so many pieces, in which this stands from a piece on: the part is what stands between its first piece and its end, and
-- where a piece is left for it, it has one at least.
pub record IsPart (from : ℕ → List ℕ) (count : ℕ) (part : Part) : Type 0 where
  pub text : IfSome part.end (λ end. part.text.items ++ from end ≡ from part.start)
  pub within : IfSome part.end (λ end. (part.start ≤ end) × (end ≤ count))
  pub some : IfSome part.end (λ end. part.start < count → part.start < end)

-- the part at a place among those that are made at once, of which the first begins with this piece
pub record IsPartAt (from : ℕ → List ℕ) (count at place : ℕ) (part : Part) : Type 0 where
  pub is : IsPart from count part
  pub first : place ≡ 0 → part.start ≡ at

-- all of these
abbrev pub AreParts : (ℕ → List ℕ) → ℕ → ℕ → List Part → Type 0
AreParts from count at parts = (i : ℕ) (part : Part) → slice_get parts i ≡ Some part → IsPartAt from count at i part

-- THE WRITING

-- of a text, a front was written, more stands in the buffer, and the rest is still to come
abbrev pub IsStreamed : HostState → ℕ → HostState → List ℕ → List ℕ → List ℕ → Type 0
IsStreamed old h new buffer rest text = (front : List ℕ) × (new ≡ wrote old h front) × (front ++ (buffer ++ rest) ≡ text)

-- a front of the text was written
abbrev pub IsFront : HostState → ℕ → HostState → List ℕ → Type 0
IsFront old h new text = (n : ℕ) × (n ≤ length text) × (new ≡ wrote old h (take n text))
