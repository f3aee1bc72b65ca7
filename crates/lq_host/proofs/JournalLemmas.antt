-- What a journal keeps, with one entry more.
use Rattle.std.proofs.Common.{◌≡◌, ◌≤◌, ℕ, List, [], ◌∷◌, ◌++◌, length, take, Option, Some, None, refl, sym, ap, ap₂, ◌∙◌, arith}
use Rattle.std.specs.List.{fold}
use Rattle.std.proofs.Math.Seq.{take-length, length-take-le}
use Rattle.lq_host.specs.Host.{Contents, Handles, HostState, Opened, Output, Reads, Writes, advanced, appended, gave, read_further, with_handle, wrote}
use Rattle.lq_host.specs.Journal.{Kept, with_entry, entry_handed, kept_of, nothing_kept}
use Rattle.lq_host.specs.Slots.{handles_of}
use Rattle.lq_host.specs.FileHost.{untold}
use Rattle.lq_host.specs.declared.slots.Slot.{Slot}
use Rattle.lq_host.specs.declared.journal.Entry.{Entry}
use Rattle.lq_host.specs.declared.journal.Entry.TheVariants.{Returned}

fold_more : (kept : Kept) (es : List Entry) (e : Entry) → fold with_entry kept (es ++ e ∷ []) ≡ with_entry (fold with_entry kept es) e
fold_more kept [] e = refl
fold_more kept (x ∷ es) e = fold_more (with_entry kept x) es e

pub kept-more : (es new : List Entry) (e : Entry) → new ≡ es ++ e ∷ [] → kept_of new ≡ with_entry (kept_of es) e
kept-more es new e is = ap kept_of is ∙ fold_more nothing_kept es e

handed_entry : (o : Option Opened) (bytes : List ℕ) (kept : Kept) → with_entry kept (entry_handed o bytes) ≡ record { handed = appended o bytes kept.handed; given = kept.given }
handed_entry None bytes kept = refl
handed_entry (Some Output) bytes kept = refl
handed_entry (Some (Reads name place)) bytes kept = refl
handed_entry (Some (Writes name)) bytes kept = refl

pub kept-handed : (es new : List Entry) (o : Option Opened) (bytes : List ℕ) → new ≡ es ++ entry_handed o bytes ∷ []
    → kept_of new ≡ record { handed = appended o bytes (kept_of es).handed; given = (kept_of es).given }
kept-handed es new o bytes is = kept-more es new (entry_handed o bytes) is ∙ handed_entry o bytes (kept_of es)

-- of a host over real files, a write of these bytes to h was told
pub untold-handed : (slots lent : List Slot) (es new : List Entry) (h : ℕ) (bytes : List ℕ) → lent ≡ slots → new ≡ es ++ entry_handed (handles_of lent h) bytes ∷ []
    → untold slots new ≡ wrote (untold slots es) h bytes
untold-handed slots lent es new h bytes same is =
    ap (λ (kept : Kept). record { told = None; handed = kept.handed; given = kept.given; handles = handles_of slots })
    (kept-handed es new (handles_of lent h) bytes is
    ∙ ap (λ (all : List Slot). record { handed = appended (handles_of all h) bytes (kept_of es).handed; given = (kept_of es).given }) same)

-- a read that filled the first n bytes of a buffer was told, and its handle has moved on
pub read-told : (told : Option Contents) (es new : List Entry) (hs now : Handles) (h n place : ℕ) (name buf : List ℕ) → hs h ≡ Some (Reads name place) → n ≤ length buf
    → new ≡ es ++ Returned name (take n buf) ∷ [] → now ≡ with_handle hs h (read_further (hs h) n)
    → record { told = told; handed = (kept_of new).handed; given = (kept_of new).given; handles = now }
    ≡ advanced (record { told = told; handed = (kept_of es).handed; given = (kept_of es).given; handles = hs }) h (take n buf)
read-told told es new hs now h n place name buf opens within is moved =
    let long : n ≡ length (take n buf) = sym (length-take-le n buf within) in
    ap₂ (λ (kept : Kept) (handles : Handles). record { told = told; handed = kept.handed; given = kept.given; handles = handles })
    (kept-more es new (Returned name (take n buf)) is
    ∙ ap (λ (o : Option Opened). record { handed = (kept_of es).handed; given = gave o (take n buf) (kept_of es).given }) (sym opens))
    (moved ∙ ap (λ k. with_handle hs h (read_further (hs h) k)) long)

-- a write that was refused appended all of the bytes as far as was handed over
pub wrote_all : (old new : HostState) (h : ℕ) (bytes : List ℕ) → new ≡ wrote old h bytes → (n : ℕ) × (n ≤ length bytes) × (new ≡ wrote old h (take n bytes))
wrote_all old new h bytes is = (length bytes, omega arith, is ∙ ap (wrote old h) (sym (take-length bytes)))
