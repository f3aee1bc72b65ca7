-- Texts that are written through a buffer: what was written, what stands in the buffer, and what is still to come.
use Rattle.std.proofs.Common.{◌≡◌, ◌<◌, ◌+◌, get_or, ◌++◌, [], ℕ, List, length, take, drop, refl, sym, ap, ◌∙◌, append_assoc, append-nil, length-append, arith, None, Result, Ok, OnOk, OnErr, inr, subst}
use Rattle.std.specs.Fmt.{decimal}
use Rattle.std.specs.List.{flat_map}
use Rattle.std.proofs.lemmas.List.{at_drop_all, at_drop_more, take-append-drop, take_at}
use Rattle.lq_host.specs.Host.{HostState, Writes, closed, filed, opened_handle, wrote}
use Rattle.lq_host.proofs.HostLemmas.{file_made, wrote-nil, wrote_more}
use Rattle.lq_pcapng.specs.File.{piece_of, text_of}
use Rattle.lq_pcapng.specs.declared.file.CaptureFile.{CaptureFile}
use Rattle.lq_pcapng.specs.declared.file.CaptureFile.TheVariants.{Classic, Pcapng}
use Rattle.lq_files.specs.Lines.{lines_of}
use Rattle.lq_files.specs.Parts.{IsFront, IsStreamed, lines_from, packets_from}
use Rattle.lq_files.specs.Written.{FileIsCut}
use Rattle.lq_files.proofs.MoveLemmas.{made_handles, some_front}

-- nothing was written yet
pub streamed_none : (old : HostState) (h : ℕ) (buffer rest text : List ℕ) → buffer ++ rest ≡ text → IsStreamed old h old buffer rest text
streamed_none old h buffer rest text all = ([], sym (wrote-nil old h), all)

-- more stands in the buffer, and less is to come
pub streamed_pushed :
    (old : HostState) (h : ℕ) (mid : HostState) (buffer rest pushed left text : List ℕ) → IsStreamed old h mid buffer rest text → pushed ++ left ≡ buffer ++ rest → IsStreamed old h mid pushed left text
streamed_pushed old h mid buffer rest pushed left text s same = (s.0, s.1, ap (λ b. s.0 ++ b) same ∙ s.2)

-- a front of the buffer was written, and what follows it is kept
pub streamed_written :
    (old : HostState) (h : ℕ) (mid new : HostState) (buffer kept rest text : List ℕ) (n : ℕ) → IsStreamed old h mid buffer rest text → new ≡ wrote mid h (take n buffer) → kept ≡ drop n buffer
    → IsStreamed old h new kept rest text
streamed_written old h mid new buffer kept rest text n s wrote_is kept_is =
    let front = take n buffer in (
      s.0 ++ front,
      wrote_more old h s.0 front mid new s.1 wrote_is,
      append_assoc s.0 front (kept ++ rest)
          ∙ ap (λ b. s.0 ++ b) (ap (λ k. front ++ (k ++ rest)) kept_is ∙ sym (append_assoc front (drop n buffer) rest) ∙ ap (λ b. b ++ rest) (take-append-drop n buffer)) ∙ s.2,
    )

-- it was stopped before the next write
pub streamed_cut : (old : HostState) (h : ℕ) (new : HostState) (buffer rest text : List ℕ) → IsStreamed old h new buffer rest text → IsFront old h new text
streamed_cut old h new buffer rest text s =
    let front = s.0 in (
      length front,
      (let same : length front + length (buffer ++ rest) ≡ length text = sym (length-append front (buffer ++ rest)) ∙ ap length s.2 in omega arith),
      s.1 ∙ ap (wrote old h) (sym (ap (take (length front)) (sym s.2) ∙ take_at front (buffer ++ rest) (length front) refl)),
    )

-- it was stopped in a write of the buffer
pub written_cut :
    (old : HostState) (h : ℕ) (mid new : HostState) (buffer bytes rest text : List ℕ) → bytes ≡ buffer → IsStreamed old h mid buffer rest text → IsFront mid h new bytes → IsFront old h new text
written_cut old h mid new buffer bytes rest text same s part =
    let n = part.0 in
    let wrote_is : new ≡ wrote mid h (take n buffer) = part.2 ∙ ap (λ bs. wrote mid h (take n bs)) same in
    streamed_cut old h new (drop n buffer) rest text (streamed_written old h mid new buffer (drop n buffer) rest text n s wrote_is refl)

-- nothing is to come, and all of the buffer was written
pub written_whole :
    (old : HostState) (h : ℕ) (mid new : HostState) (buffer bytes rest text : List ℕ) → bytes ≡ buffer → rest ≡ [] → IsStreamed old h mid buffer rest text → new ≡ wrote mid h bytes → new ≡ wrote old h text
written_whole old h mid new buffer bytes rest text same none s wrote_is =
    wrote_more old h s.0 bytes mid new s.1 wrote_is
    ∙ ap (wrote old h) (ap (λ b. s.0 ++ b) (same ∙ sym (ap (λ r. buffer ++ r) none ∙ append-nil buffer)) ∙ s.2)

-- THE PACKETS OF A CAPTURE

begun : (c : CaptureFile) (packets : List ℕ) → text_of c [] ++ flat_map (piece_of c) packets ≡ text_of c packets
begun (Classic c) packets = rw append-nil refl
begun (Pcapng c) packets = rw append-nil refl

-- what stands before the packets is in the buffer
pub start_pushed :
    (old : HostState) (h : ℕ) (c : CaptureFile) (packets buffer pushed : List ℕ) → buffer ≡ [] → pushed ≡ buffer ++ text_of c []
    → IsStreamed old h old pushed (packets_from c packets 0) (text_of c packets)
start_pushed old h c packets buffer pushed none pushed_is =
    let rest = flat_map (piece_of c) packets in
    ([], sym (wrote-nil old h), ap (λ b. b ++ rest) (pushed_is ∙ ap (λ b. b ++ text_of c []) none) ∙ begun c packets)

-- the next packet is in the buffer
pub packet_next :
    (c : CaptureFile) (packets : List ℕ) (i : ℕ) (buffer pushed : List ℕ) → i < length packets → pushed ≡ buffer ++ piece_of c (get_or packets i 0)
    → pushed ++ packets_from c packets (i + 1) ≡ buffer ++ packets_from c packets i
packet_next c packets i buffer pushed within pushed_is =
    let piece = piece_of c (get_or packets i 0) in
    let next : packets_from c packets i ≡ piece ++ packets_from c packets (i + 1) = at_drop_more (flat_map (piece_of c)) packets i 0 within in
    ap (λ b. b ++ packets_from c packets (i + 1)) pushed_is ∙ append_assoc buffer piece (packets_from c packets (i + 1)) ∙ ap (λ b. buffer ++ b) (sym next)

-- no packet is left
pub packets_end : (c : CaptureFile) (packets : List ℕ) → packets_from c packets (length packets) ≡ []
packets_end c packets = at_drop_all (flat_map (piece_of c)) packets (length packets) (omega arith)

-- THE LINES OF FATES

-- the next line is in the buffer
pub line_next :
    {F : Type 0} (words : F → List ℕ) (fates : List F) (n : ℕ) (d : F) (buffer pushed : List ℕ) → n < length fates → pushed ≡ buffer ++ (decimal n ++ words (get_or fates n d))
    → pushed ++ lines_from words fates (n + 1) ≡ buffer ++ lines_from words fates n
line_next words fates n d buffer pushed within pushed_is =
    let line = decimal n ++ words (get_or fates n d) in
    let next : lines_from words fates n ≡ line ++ lines_from words fates (n + 1) = at_drop_more (lines_of words n) fates n d within in
    ap (λ b. b ++ lines_from words fates (n + 1)) pushed_is ∙ append_assoc buffer line (lines_from words fates (n + 1)) ∙ ap (λ b. buffer ++ b) (sym next)

-- no line is left
pub lines_end : {F : Type 0} (words : F → List ℕ) (fates : List F) → lines_from words fates (length fates) ≡ []
lines_end words fates = at_drop_all (lines_of words (length fates)) fates (length fates) (omega arith)

-- FILES

-- a file that was created, written to and finished, where the work on it was done
pub made_whole :
    {T E : Type 0} (r : Result T E) (value : T) (s : HostState) (name : List ℕ) (h : ℕ) (text : List ℕ) (mid written new : HostState) → s.handles h ≡ None → mid ≡ opened_handle (filed s name []) h (Writes name)
    → r ≡ Ok value → OnOk r (written ≡ wrote mid h text) → new ≡ closed written h → new ≡ filed s name text
made_whole r value s name h text mid written new was made done whole closed_is =
    file_made s name h text mid written new was made (subst (λ (q : Result _ _). OnOk q (written ≡ wrote mid h text)) done whole) closed_is

-- and where it was done or stopped on the way
pub made_front :
    {T E : Type 0} (r : Result T E) (s : HostState) (name : List ℕ) (h : ℕ) (text : List ℕ) (mid written new : HostState) → s.handles h ≡ None → mid ≡ opened_handle (filed s name []) h (Writes name)
    → OnOk r (written ≡ wrote mid h text) → OnErr r (IsFront mid h written text) → new ≡ closed written h → FileIsCut name text s new
made_front r s name h text mid written new was made whole part closed_is =
    let front : IsFront mid h written text = some_front r mid written h text whole part in
    inr (front.0, front.1, file_made s name h (take front.0 text) mid written new was made front.2 closed_is)

-- What is known of a file once it was finished, after work on it with this answer: the handles are as they were, the file holds a
-- front of the text, and all of it where the work was done.
pub record IsFinished {T E : Type 0} (r : Result T E) (s : HostState) (name text : List ℕ) (new : HostState) : Type 0 where
  pub handles : new.handles ≡ s.handles
  pub front : FileIsCut name text s new
  pub whole : (value : T) → r ≡ Ok value → new ≡ filed s name text

pub finished :
    {T E : Type 0} (r : Result T E) (s : HostState) (name : List ℕ) (h : ℕ) (text : List ℕ) (mid written new : HostState)
    → s.handles h ≡ None → mid ≡ opened_handle (filed s name []) h (Writes name) → written.handles ≡ mid.handles
    → OnOk r (written ≡ wrote mid h text) → OnErr r (IsFront mid h written text) → new ≡ closed written h → IsFinished r s name text new
finished r s name h text mid written new was made same whole part closed_is = record {
  handles = made_handles s name h mid written new was made same closed_is;
  front = made_front r s name h text mid written new was made whole part closed_is;
  whole = λ value done. made_whole r value s name h text mid written new was made done whole closed_is;
}
