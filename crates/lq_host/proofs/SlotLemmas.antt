-- Laws of the slots of a host: a slot added, moved or closed is a handle opened, moved or closed.
use Rattle.std.proofs.Common.{◌≡◌, ◌<◌, ℕ, zero, suc, ◌+◌, Bool, true, false, cond, eqb, List, [], ◌∷◌, ◌++◌, length, get_or, Option, None, Some, refl, sym, ap, ◌∙◌, arith, string_bytes, String}
use Rattle.std.proofs.Math.Path.{fun_ext}
use Rattle.std.proofs.Math.Dec.{eqb-suc-suc, eqb-suc-zero, eqb-zero-suc}
use Rattle.std.proofs.Math.ListN.{set}
use Rattle.std.specs.declared.alloc.Global.{Global}
use Rattle.std.specs.List.{slice_get}
use Rattle.std.specs.Option.{option_and_then}
use Rattle.std.proofs.lemmas.Option.{slice_get-get_or}
use Rattle.lq_host.specs.declared.slots.Slot.TheVariants.{Closed, Reader}
use Rattle.lq_host.specs.declared.slots.Slot.{Slot}
use Rattle.lq_host.specs.Host.{Output, Reads, with_handle, read_further}
use Rattle.lq_host.specs.Slots.{opened_of, handles_of}

get_pushed : {X : Type 0} (xs : List X) (x : X) (k : ℕ) → slice_get (xs ++ x ∷ []) k ≡ cond (eqb k (length xs)) (Some x) (slice_get xs k)
get_pushed [] x zero = refl
get_pushed [] x (suc k) = rw (eqb-suc-zero k) refl
get_pushed (y ∷ ys) x zero = rw (eqb-zero-suc (length ys)) refl
get_pushed (y ∷ ys) x (suc k) = rw (eqb-suc-suc k (length ys)) (get_pushed ys x k)

get_set : {X : Type 0} (xs : List X) (i : ℕ) (x : X) (k : ℕ) → i < length xs → slice_get (set xs i x) k ≡ cond (eqb k i) (Some x) (slice_get xs k)
get_set [] i x k lt = absurd (omega arith)
get_set (y ∷ ys) zero x zero lt = refl
get_set (y ∷ ys) zero x (suc k) lt = rw (eqb-suc-zero k) refl
get_set (y ∷ ys) (suc i) x zero lt = rw (eqb-zero-suc i) refl
get_set (y ∷ ys) (suc i) x (suc k) lt = let below : i < length ys = omega arith in rw (eqb-suc-suc k i) (get_set ys i x k below)

through : {X Y : Type 0} (b : Bool) (x : X) (o : Option X) (f : X → Option Y) → option_and_then f (cond b (Some x) o) ≡ cond b (f x) (option_and_then f o)
through true x o f = refl
through false x o f = refl

pub handles-nil : handles_of [] ≡ with_handle (λ h. None) 0 (Some Output)
unfolding with_handle
handles-nil = fun_ext handle_at where
  handle_at : (k : ℕ) → handles_of [] k ≡ cond (eqb k 0) (Some Output) None
  handle_at zero = refl
  handle_at (suc k) = rw (eqb-suc-zero k) refl

pub handles-push : (slots : List Slot) (s : Slot) → handles_of (slots ++ s ∷ []) ≡ with_handle (handles_of slots) (suc (length slots)) (opened_of s)
unfolding with_handle
handles-push slots s = fun_ext (handle_at slots s) where
  handle_at : (slots : List Slot) (s : Slot) (k : ℕ) → handles_of (slots ++ s ∷ []) k ≡ cond (eqb k (suc (length slots))) (opened_of s) (handles_of slots k)
  handle_at slots s zero = rw (eqb-zero-suc (length slots)) refl
  handle_at slots s (suc k) =
      rw (eqb-suc-suc k (length slots)) (ap (option_and_then opened_of) (get_pushed slots s k) ∙ through (eqb k (length slots)) s (slice_get slots k) opened_of)

pub handles-set : (slots : List Slot) (i : ℕ) (s : Slot) → i < length slots → handles_of (set slots i s) ≡ with_handle (handles_of slots) (suc i) (opened_of s)
unfolding with_handle
handles-set slots i s lt = fun_ext (handle_at slots i s lt) where
  handle_at : (slots : List Slot) (i : ℕ) (s : Slot) → i < length slots → (k : ℕ) → handles_of (set slots i s) k ≡ cond (eqb k (suc i)) (opened_of s) (handles_of slots k)
  handle_at slots i s lt zero = rw (eqb-zero-suc i) refl
  handle_at slots i s lt (suc k) = rw (eqb-suc-suc k i) (ap (option_and_then opened_of) (get_set slots i s k lt) ∙ through (eqb k i) s (slice_get slots k) opened_of)

-- what the slot at a place is open for
pub handle_is : (slots : List Slot) (i h : ℕ) (s : Slot) → i < length slots → h ≡ i + 1 → s ≡ get_or slots i s → handles_of slots h ≡ opened_of s
handle_is slots i h s lt at is =
    let e : h ≡ suc i = omega arith in
    rw e (ap (option_and_then opened_of) (slice_get-get_or slots i s lt ∙ ap Some (sym is)))

pub slot_moves :
    (slots : List Slot) (i h n : ℕ) (s : Slot) (name : String Global) (place : ℕ) → i < length slots → h ≡ i + 1 → s ≡ get_or slots i s → s ≡ Reader name place
    → handles_of (set slots i (Reader name (place + n))) ≡ with_handle (handles_of slots) h (read_further (handles_of slots h) n)
slot_moves slots i h n s name place lt at is reader =
    let e : suc i ≡ h = omega arith in
    handles-set slots i (Reader name (place + n)) lt
    ∙ ap (λ k. with_handle (handles_of slots) k (Some (Reads (string_bytes name) (place + n)))) e
    ∙ ap (λ o. with_handle (handles_of slots) h (read_further o n)) (sym (handle_is slots i h s lt at is ∙ ap opened_of reader))

pub slot_closes : (slots : List Slot) (i h : ℕ) → i < length slots → h ≡ i + 1 → handles_of (set slots i Closed) ≡ with_handle (handles_of slots) h None
slot_closes slots i h lt at =
    let e : suc i ≡ h = omega arith in
    handles-set slots i Closed lt ∙ ap (λ k. with_handle (handles_of slots) k None) e
