-- Texts that are made in parts: what a write of one of them leaves, and which are written.
use Rattle.std.proofs.Common.{◌≡◌, ◌≤◌, ◌<◌, ◌++◌, [], ℕ, zero, suc, List, length, take, drop, refl, sym, ap, ◌∙◌, append_assoc, append-nil, arith}
use Rattle.std.proofs.lemmas.List.{take-append-drop}
use Rattle.std.proofs.Math.Seq.{take-length}
use Rattle.lq_host.specs.Host.{HostState, wrote}
use Rattle.lq_host.proofs.HostLemmas.{wrote_more}
use Rattle.lq_files.specs.Parts.{IsFront, IsPartAt, IsStreamed}
use Rattle.lq_files.specs.declared.parts.Part.{Part}
use Rattle.lq_files.proofs.PieceLemmas.{streamed_none, streamed_pushed, written_cut}

-- A TEXT BEHIND WHAT IS KEPT

-- a text that was split
pub both_parts : (n : ℕ) (first more text : List ℕ) → first ≡ take n text → more ≡ drop n text → first ++ more ≡ text
both_parts n first more text first_is more_is = ap (λ b. b ++ more) first_is ∙ ap (λ b. take n text ++ b) more_is ∙ take-append-drop n text

-- all of it is kept, and nothing is written
pub all_kept : (old : HostState) (h : ℕ) (rest first text kept : List ℕ) (n : ℕ) → kept ≡ rest ++ first → first ≡ take n text → n ≡ length text → IsStreamed old h old kept [] (rest ++ text)
all_kept old h rest first text kept n kept_is first_is whole =
    let same : first ≡ text = first_is ∙ ap (λ k. take k text) whole ∙ take-length text in
    streamed_none old h kept [] (rest ++ text) (append-nil kept ∙ kept_is ∙ ap (λ b. rest ++ b) same)

-- what is kept and the front of the text are in the buffer
pushed_is_streamed :
    (old : HostState) (h : ℕ) (rest first more text pushed : List ℕ) → pushed ≡ rest ++ first → first ++ more ≡ text → IsStreamed old h old pushed more (rest ++ text)
pushed_is_streamed old h rest first more text pushed pushed_is split =
    streamed_none old h pushed more (rest ++ text) (ap (λ b. b ++ more) pushed_is ∙ append_assoc rest first more ∙ ap (λ b. rest ++ b) split)

-- it was stopped in the write of the first piece
pub piece_cut :
    (old : HostState) (h : ℕ) (new : HostState) (rest first more text pushed bytes : List ℕ) → pushed ≡ rest ++ first → first ++ more ≡ text → bytes ≡ pushed → IsFront old h new bytes
    → IsFront old h new (rest ++ text)
piece_cut old h new rest first more text pushed bytes pushed_is split same part =
    written_cut old h old new pushed bytes more (rest ++ text) same (pushed_is_streamed old h rest first more text pushed pushed_is split) part

-- the first piece is written
pub piece_written :
    (old : HostState) (h : ℕ) (mid : HostState) (rest first more text pushed bytes : List ℕ) → pushed ≡ rest ++ first → first ++ more ≡ text → bytes ≡ pushed → mid ≡ wrote old h bytes
    → IsStreamed old h mid more [] (rest ++ text)
piece_written old h mid rest first more text pushed bytes pushed_is split same wrote_is = (
  pushed,
  wrote_is ∙ ap (wrote old h) same,
  ap (λ b. pushed ++ b) (append-nil more) ∙ ap (λ b. b ++ more) pushed_is ∙ append_assoc rest first more ∙ ap (λ b. rest ++ b) split,
)

-- it was stopped in the write of the pieces behind it
pub pieces_cut :
    (old : HostState) (h : ℕ) (mid new : HostState) (whole last more text : List ℕ) → IsStreamed old h mid more [] text → whole ++ last ≡ more → IsFront mid h new whole → IsFront old h new text
pieces_cut old h mid new whole last more text s split part =
    written_cut old h mid new whole whole last text refl (streamed_pushed old h mid more [] whole last text s (split ∙ sym (append-nil more))) part

-- they are written, and the last bytes are kept
pub pieces_written :
    (old : HostState) (h : ℕ) (mid new : HostState) (whole last more kept text : List ℕ) → IsStreamed old h mid more [] text → whole ++ last ≡ more → new ≡ wrote mid h whole → kept ≡ last
    → IsStreamed old h new kept [] text
pieces_written old h mid new whole last more kept text s split wrote_is kept_is = (
  s.0 ++ whole,
  wrote_more old h s.0 whole mid new s.1 wrote_is,
  append_assoc s.0 whole (kept ++ []) ∙ ap (λ b. s.0 ++ b) (ap (λ b. whole ++ b) (append-nil kept ∙ kept_is) ∙ split ∙ sym (append-nil more)) ∙ s.2,
)

-- A TEXT BEFORE THE REST

module _ (old : HostState) (h : ℕ) (new : HostState) (rest text more all : List ℕ) (same : text ++ more ≡ all) where
  -- it is written, and the rest is still to come
  pub streamed_before : (kept : List ℕ) → IsStreamed old h new kept [] (rest ++ text) → IsStreamed old h new kept more (rest ++ all)
  streamed_before kept s = (
    s.0,
    s.1,
    sym (append_assoc s.0 kept more) ∙ ap (λ b. (s.0 ++ b) ++ more) (sym (append-nil kept)) ∙ ap (λ b. b ++ more) s.2
        ∙ append_assoc rest text more
        ∙ ap (λ b. rest ++ b) same,
  )

  -- it was stopped in the write
  pub front_before : IsFront old h new (rest ++ text) → IsFront old h new (rest ++ all)
  front_before part =
      let whole = streamed_none old h (rest ++ text) more (rest ++ all) (append_assoc rest text more ∙ ap (λ b. rest ++ b) same) in
      written_cut old h old new (rest ++ text) (rest ++ text) more (rest ++ all) refl whole part

-- SEVERAL PARTS

-- a text to come was streamed, behind what is kept
pub streamed_on :
    (old : HostState) (h : ℕ) (mid new : HostState) (rest kept todo left text : List ℕ) → IsStreamed old h mid rest todo text → IsStreamed mid h new kept left (rest ++ todo)
    → IsStreamed old h new kept left text
streamed_on old h mid new rest kept todo left text s w = (
  s.0 ++ w.0,
  wrote_more old h s.0 w.0 mid new s.1 w.1,
  append_assoc s.0 w.0 (kept ++ left) ∙ ap (λ b. s.0 ++ b) w.2 ∙ s.2,
)

-- it was stopped on the way
pub streamed_stop :
    (old : HostState) (h : ℕ) (mid new : HostState) (rest todo text : List ℕ) → IsStreamed old h mid rest todo text → IsFront mid h new (rest ++ todo) → IsFront old h new text
streamed_stop old h mid new rest todo text s part =
    written_cut old h mid new (rest ++ todo) (rest ++ todo) [] text refl (streamed_pushed old h mid rest todo (rest ++ todo) [] text s (append-nil (rest ++ todo))) part

-- all of it was written
pub streamed_all :
    (old : HostState) (h : ℕ) (mid new : HostState) (rest todo text : List ℕ) → IsStreamed old h mid rest todo text → new ≡ wrote mid h (rest ++ todo) → new ≡ wrote old h text
streamed_all old h mid new rest todo text s wrote_is = wrote_more old h s.0 (rest ++ todo) mid new s.1 wrote_is ∙ ap (wrote old h) s.2

-- What is left of a text whose beginning was written: with it all of the text is written, and with a front of it a front.
pub record IsLeft (old : HostState) (h : ℕ) (mid : HostState) (left text : List ℕ) : Type 0 where
  pub whole : (new : HostState) → new ≡ wrote mid h left → new ≡ wrote old h text
  pub front : (new : HostState) → IsFront mid h new left → IsFront old h new text

pub streamed_left :
    (old : HostState) (h : ℕ) (mid : HostState) (rest todo text : List ℕ) → IsStreamed old h mid rest todo text
    → IsLeft old h mid (rest ++ todo) text
streamed_left old h mid rest todo text s = record {
  whole = λ new. streamed_all old h mid new rest todo text s;
  front = λ new. streamed_stop old h mid new rest todo text s;
}

-- once one part more is written, or left out
pub further_on :
    (from : ℕ → List ℕ) (count at i next after : ℕ) (part : Part) → IsPartAt from count at i part → at < count → (i ≡ 0 → next ≡ at) → (0 < i → (at < next) × (next ≤ count))
    → (next ≤ count → (next ≤ after) × (after ≤ count)) → (part.start ≡ next → next < count → next < after) → (at < after) × (after ≤ count)
further_on from count at zero next after part is lt begins past order further =
    let same : next ≡ at = begins refl in
    let o = order (omega arith) in
    let on : next < after = further (is.first refl ∙ sym same) (omega arith) in
    (omega arith, o.1)
further_on from count at (suc i) next after part is lt begins past order further =
    let p = past (omega arith) in
    let o = order p.1 in
    (let low = p.0 in let high = o.0 in omega arith, o.1)
