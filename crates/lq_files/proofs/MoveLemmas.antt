-- Laws of reading and writing in pieces.
use Rattle.std.proofs.Common.{◌≡◌, ◌≤◌, ◌+◌, ◌-◌, ◌++◌, ℕ, length-drop, List, [], length, take, drop, Option, Some, None, ap, sym, refl, ◌∙◌, arith, append_assoc, Result, Ok, Err, OnOk, OnErr, IfSome, IsSome, unwrap_or}
use Rattle.std.specs.Option.{option_map}
use Rattle.lq_host.specs.Host.{Contents, bytes_of, HostState, Handles, Writes, with_handle, opened_handle, advanced, filed, wrote, closed}
use Rattle.lq_host.proofs.HostLemmas.{advanced-advanced, with_handle-back}
use Rattle.lq_files.specs.Input.{IsInput, IsInputOf}
use Rattle.lq_files.specs.Parts.{IsFront}
use Rattle.lq_files.specs.declared.read.Input.{Input}
use Rattle.lq_files.specs.declared.read.Input.TheVariants.{Whole, TooLong}
use Rattle.std.proofs.lemmas.List.{drop-take, take-take, take-append-drop, length-take}
use Rattle.std.proofs.Math.Seq.{take-length}
use Rattle.std.specs.Io.KnownBytes.{Consumes}

-- what is taken in two turns
pub consumes_both : (old mid new : Option (List ℕ)) (a b : List ℕ) → Consumes old mid a → Consumes mid new b → Consumes old new (a ++ b)
consumes_both None mid new a b first second = _
consumes_both (Some x) None new a b first second = absurd first
consumes_both (Some x) (Some y) None a b first second = second
consumes_both (Some x) (Some y) (Some z) a b first second = first ∙ ap (λ rest. a ++ rest) second ∙ sym (append_assoc a b z)

-- a piece more was read
pub read_more : (old mid new : HostState) (h : ℕ) (taken piece : List ℕ) → mid ≡ advanced old h taken → new ≡ advanced mid h piece → new ≡ advanced old h (taken ++ piece)
read_more old mid new h taken piece before is = is ∙ ap (λ (s : HostState). advanced s h piece) before ∙ advanced-advanced old h taken piece

-- a front, and the front of what follows it
pub take_join : (at k : ℕ) (xs : List ℕ) → take at xs ++ take k (drop at xs) ≡ take (at + k) xs
take_join at k xs =
    let same : take at xs ≡ take at (take (at + k) xs) = sym (take-take at (at + k) xs (omega arith)) in
    rw (← drop-take at k xs, same) (take-append-drop at (take (at + k) xs))

-- one piece more
pub front_grows : (text : List ℕ) (at k : ℕ) → take at text ++ take (at + k - at) (drop at text) ≡ take (at + k) text
front_grows text at k = let same : at + k - at ≡ k = omega arith in rw same (take_join at k text)

-- a front of a front that was written
pub front_front : (old : HostState) (h : ℕ) (new : HostState) (k : ℕ) (text : List ℕ) → IsFront old h new (take k text)
    → IsFront old h new text
front_front old h new k text part =
    let n = part.0 in
    let le : n ≤ length (take k text) = part.1 in
    let le_k : n ≤ k = omega (arith, length-take {A = ℕ}) in
    (n, omega (arith, length-take {A = ℕ}), part.2 ∙ ap (wrote old h) (take-take n k text le_k))

-- a front of a piece
pub part_fits : (text : List ℕ) (at k n : ℕ) → at ≤ length text → n ≤ length (take (at + k - at) (drop at text)) → at + n ≤ length text
part_fits text at k n within le = omega (arith, length-take {A = ℕ}, length-drop {A = ℕ})

pub part_grows : (text : List ℕ) (at k n : ℕ) → n ≤ length (take (at + k - at) (drop at text)) → take at text ++ take n (take (at + k - at) (drop at text)) ≡ take (at + n) text
part_grows text at k n le =
    let le_k : n ≤ at + k - at = omega (arith, length-take {A = ℕ}) in
    rw (take-take n (at + k - at) (drop at text) le_k) (take_join at n text)

pub on_err_any : {T E P : Type 0} (r : Result T E) → P → OnErr r P
on_err_any (Ok x) p = _
on_err_any (Err e) p = p

-- what was written of a text, wholly or not, is a front of it
pub some_front :
    {T E : Type 0} (r : Result T E) (mid new : HostState) (h : ℕ) (text : List ℕ) → OnOk r (new ≡ wrote mid h text)
    → OnErr r ((n : ℕ) × (n ≤ length text) × (new ≡ wrote mid h (take n text))) → (n : ℕ) × (n ≤ length text) × (new ≡ wrote mid h (take n text))
some_front (Ok done) mid new h text whole part =
    let within : length text ≤ length text = omega arith in
    (length text, within, whole ∙ ap (wrote mid h) (sym (take-length text)))
some_front (Err e) mid new h text whole part = part

-- what was read of all bytes of a file that is there was read of the file
input_of : (limit : ℕ) (file : Option (List ℕ)) (input : Input) → IsSome file → IsInput limit (unwrap_or file []) input → IsInputOf limit file input
input_of limit None input there h = absurd cc
input_of limit (Some bytes) (Whole taken) there h = ap Some (sym h)
input_of limit (Some bytes) TooLong there h = (bytes, refl, h)

pub input_of_all :
    (told : Option Contents) (name : List ℕ) (limit : ℕ) (input : Input) → IfSome told (λ c. IsSome (c.files name))
    → IfSome (option_map (λ c. bytes_of c.files name) told) (λ bytes. IsInput limit bytes input) → IfSome told (λ c. IsInputOf limit (c.files name) input)
input_of_all None name limit input there h = _
input_of_all (Some c) name limit input there h = input_of limit (c.files name) input there h

-- a file that was created, written to and finished leaves the handles as they were
pub made_handles :
    (s : HostState) (n : List ℕ) (h : ℕ) (mid written new : HostState) → s.handles h ≡ None → mid ≡ opened_handle (filed s n []) h (Writes n) → written.handles ≡ mid.handles
    → new ≡ closed written h → new.handles ≡ s.handles
made_handles s n h mid written new was made same closed_is =
    ap (λ (m : HostState). m.handles) closed_is ∙ ap (λ (hs : Handles). with_handle hs h None) (same ∙ ap (λ (m : HostState). m.handles) made)
    ∙ with_handle-back s.handles h (Some (Writes n)) None was
