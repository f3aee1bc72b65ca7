-- Two seats, and what stands in the slots of a window.
use Rattle.std.proofs.Common.{◌≡◌, ◌≢◌, ◌⊎◌, inl, inr, ℕ, ◌+◌, ◌<◌, ◌≤◌, Bool, true, false, List, [], ◌∷◌, ◌++◌, length, set, get_or, refl, sym, ap, ◌∙◌, ⊎_elim, arith, length-set, get_or-set_same, get_or-set_other}
use Rattle.std.specs.Prelude.{if◌then◌else◌}
use Rattle.std.proofs.lemmas.Bool.{cases_eq, cases_lt}
use Rattle.std.proofs.lemmas.Bool.Decides.{nat_tests}
use mathlib.Core.Option.{some}
use lib.ListN.{get_elem?}
use Rattle.lq_ring_core.specs.Slots.{round}
use Rattle.lq_ring_core.proofs.Places.{round-within}
use Rattle.lq_band_laws.specs.Seats.{total, Each}
use Rattle.lq_band_laws.specs.Ring.{Ends, AreBounds, word_at, content, IsWindow, Lock, locking, stored_count, KnowsLock}
use Rattle.lq_band_laws.proofs.Seats.{total_one, total_two, total_rest}
use Rattle.lq_band_laws.proofs.Lines.{word_at-snoc, word_at-last}

abbrev pub one_where : Bool → ℕ
one_where b = if b then 1 else 0

pub le_if : (b c : Bool) → (b ≡ true → c ≡ true) → one_where b ≤ one_where c
le_if false c h = omega arith
le_if true c h = let e : one_where c ≡ 1 = ap one_where (h refl) in omega arith

-- TWO SEATS

-- only the seat with the lock has stored
pub stored_alone : (size index top ahead : ℕ) (seats : List Lock) (id : ℕ) (l : Lock) → Each (KnowsLock size index top ahead) seats → get_elem? seats id ≡ some l → total locking seats ≤ 1 → l.holds ≡ true → total stored_count seats ≡ stored_count l
stored_alone size index top ahead seats id l k at one has =
    let rest = total_rest stored_count locking seats id l (λ j u e. le_if u.stored u.holds (k j u e).stores) at in let mine = total_one stored_count seats id l at in
    let h : locking l ≡ 1 = ap one_where has in omega arith

-- no other seat has the lock
pub lock_alone : (seats : List Lock) (id j : ℕ) (l u : Lock) → get_elem? seats id ≡ some l → get_elem? seats j ≡ some u → j ≢ id → total locking seats ≤ 1 → l.holds ≡ true → u.holds ≡ true → ⊥
lock_alone seats id j l u at at' apart one has has' =
    let two = total_two locking seats id j l u at at' apart in let a : locking l ≡ 1 = ap one_where has in let b : locking u ≡ 1 = ap one_where has' in omega arith

-- WINDOWS

pub round_apart : (size tail i j : ℕ) → tail < size → tail ≤ i → i < tail + size → tail ≤ j → j < tail + size → i ≢ j → round size i ≢ round size j
round_apart size tail i j h hi hi' hj hj' e e' = grind (arith, nat_tests)

pub content-held : (line : List ℕ) (lap : ℕ) (c : Ends) (j : ℕ) → ((j < c.edge) ⊎ (c.head ≤ j)) → content line lap c j ≡ word_at line (lap + j)
content-held line lap c j h = grind (arith, nat_tests)

pub content-empty : (line : List ℕ) (lap : ℕ) (c : Ends) (j : ℕ) → c.edge ≤ j → j < c.head → content line lap c j ≡ 0
content-empty line lap c j h h' = grind (arith, nat_tests)

-- the content depends on the word alone
pub content-same : (line line' : List ℕ) (lap lap' : ℕ) (c c' : Ends) (j j' : ℕ) → word_at line (lap + j) ≡ word_at line' (lap' + j')
    → ((c.edge ≤ j) × (j < c.head) → (c'.edge ≤ j') × (j' < c'.head)) → ((c'.edge ≤ j') × (j' < c'.head) → (c.edge ≤ j) × (j < c.head))
    → content line lap c j ≡ content line' lap' c' j'
content-same line line' lap lap' c c' j j' e to from = ⊎_elim
    (λ h. ⊎_elim
    (λ h'. let t = to (h', h) in content-empty line lap c j h' h ∙ sym (content-empty line' lap' c' j' t.0 t.1))
    (λ h'. content-held line lap c j (inl h') ∙ (e ∙ sym (content-held line' lap' c' j' (out (λ t. let x = from t in omega arith)))))
    (cases_le c.edge j))
    (λ h. content-held line lap c j (inr h) ∙ (e ∙ sym (content-held line' lap' c' j' (out (λ t. let x = from t in omega arith)))))
    (cases_lt j c.head)
  where
    cases_le : (a b : ℕ) → (a ≤ b) ⊎ (b < a)
    cases_le a b = ⊎_elim (λ h. inr h) (λ h. inl h) (cases_lt b a)

    out : ((c'.edge ≤ j') × (j' < c'.head) → ⊥) → ((j' < c'.edge) ⊎ (c'.head ≤ j'))
    out out_of = ⊎_elim (λ h. ⊎_elim (λ h'. inl h') (λ h'. absurd (out_of (h', h))) (cases_lt j' c'.edge)) (λ h. inr h) (cases_lt j' c'.head)

pub window_stored : (size : ℕ) (slots line : List ℕ) (lap : ℕ) (c : Ends) (ahead n : ℕ) → AreBounds size c → length line ≡ lap + ahead → c.head ≤ ahead → ahead < c.tail + size → IsWindow size slots line lap c
    → IsWindow size (set slots (round size ahead) (n + 1)) (line ++ n ∷ []) lap c
window_stored size slots line lap c ahead n ends line_is within below x =
    let place : ℕ = round size ahead in
    let in_size : place < size = round-within size ahead (let h = ends.tail_within in omega arith) in
    let in_slots : place < length slots = let h = x.wide in omega arith in
    let first = ends.tail_first in let tail_in = ends.tail_within in let edge_in = ends.edge_within in record {
      wide = let e = length-set slots place (n + 1) in let h = x.wide in omega arith;
      window = λ j h h'. ⊎_elim
          (λ (e : j ≡ ahead). ap (λ (i : ℕ). get_or (set slots place (n + 1)) (round size i) 0) e ∙ (get_or-set_same slots place (n + 1) 0 in_slots
          ∙ sym (content-held (line ++ n ∷ []) lap c j (inr (omega arith)) ∙ (ap (word_at (line ++ n ∷ [])) (let l : lap + j ≡ length line = omega arith in l) ∙ word_at-last line n))))
          (λ (e : j ≢ ahead). get_or-set_other slots place (round size j) (n + 1) 0 (round_apart size c.tail j ahead tail_in h h' (omega arith) below e) ∙ (x.window j h h'
          ∙ content-same line (line ++ n ∷ []) lap lap c c j j (sym (word_at-snoc line n (lap + j) (λ l. e (omega arith)))) (λ t. t) (λ t. t)))
          (cases_eq j ahead);
      beyond = λ j h. get_or-set_other slots place j (n + 1) 0 (λ e. omega arith) ∙ x.beyond j h;
    }
