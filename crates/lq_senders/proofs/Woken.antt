-- How often a sender opens the queues after its packets.
use Rattle.std.proofs.Common.{◌≡◌, ◌≢◌, ◌⊎◌, ℕ, zero, suc, ◌+◌, ◌*◌, ◌/◌, ◌%◌, ◌<◌, ◌≤◌, ◌==◌, cond, List, [], ◌∷◌, ◌++◌, inl, inr, length, filter, Some, refl, sym, ap, ap₂, ◌∙◌, subst, slice_get, arith, eq-eqb}
use Rattle.std.specs.List.{sum_by}
use Rattle.std.proofs.Math.Nat.{add-mul, div-eq_of_lt, div-eq_of_lt-le, mod-lt}
use Rattle.std.proofs.lemmas.Bool.{cases_eq, cases_lt, ne_eqb}
use Rattle.std.proofs.lemmas.List.Elements.{filter-append}
use Rattle.std.proofs.lemmas.List.Sums.{count_by_more_yes, count_by_more_no, sum_by-append}
use Rattle.std.proofs.lemmas.Nat.{div-add-mod'}
use Rattle.std.proofs.lemmas.Option.{get_or_from_slice_get, slice_get_within}
use Rattle.lq_model.specs.Numbers.{first_numbers}
use Rattle.lq_model.specs.Plan.{owner_in}
use Rattle.lq_model.specs.declared.fate.Info.{Info}
use Rattle.lq_plan.specs.declared.openings.Openings.TheVariants.{Every}
use Rattle.lq_senders.specs.Woken.{count_sent, openings_of, opens_by}
use Rattle.lq_senders.proofs.Lists.{one-fails, one-passes}
use Rattle.lq_senders.proofs.Sent.{owner-is}
use Rattle.lq_senders.proofs.Turns.{event-there}

-- HOW MANY PACKETS

pub count-sent-own : (infos : List Info) (sender n : ℕ) (info : Info) → slice_get infos n ≡ Some info → info.owner ≡ sender → count_sent infos sender (n + 1) ≡ count_sent infos sender n + 1
count-sent-own infos sender n info there own = count_by_more_yes (λ (i : Info). i.owner == sender) infos n info (slice_get_within infos n info there)
    (ap (λ (i : Info). i.owner == sender) (get_or_from_slice_get infos n info info there) ∙ eq-eqb info.owner sender own)

pub count-sent-other : (infos : List Info) (sender n : ℕ) (info : Info) → slice_get infos n ≡ Some info → info.owner ≢ sender → count_sent infos sender (n + 1) ≡ count_sent infos sender n
count-sent-other infos sender n info there other = count_by_more_no (λ (i : Info). i.owner == sender) infos n info (slice_get_within infos n info there)
    (ap (λ (i : Info). i.owner == sender) (get_or_from_slice_get infos n info info there) ∙ ne_eqb info.owner sender other)

-- HOW MANY OPENINGS

openings-next : (infos : List Info) (opens : ℕ → ℕ) (sender n : ℕ) (last : List ℕ) → filter (λ m. owner_in infos m == sender) (n ∷ []) ≡ last
    → openings_of infos opens sender (n + 1) ≡ openings_of infos opens sender n + sum_by opens last
openings-next infos opens sender n last is =
    let test : ℕ → _ = λ m. owner_in infos m == sender in let more : n + 1 ≡ suc n = omega arith in
    ap (openings_of infos opens sender) more
    ∙ (ap (sum_by opens) (filter-append test (first_numbers n) (n ∷ []) ∙ ap (λ l. filter test (first_numbers n) ++ l) is)
    ∙ sum_by-append opens (filter test (first_numbers n)) last)

-- after a packet of the sender there are those that follow it, and after another one no more
pub openings-own : (infos : List Info) (opens : ℕ → ℕ) (sender n : ℕ) → owner_in infos n ≡ sender → openings_of infos opens sender (n + 1) ≡ openings_of infos opens sender n + opens n
openings-own infos opens sender n own =
    let one : 0 + opens n ≡ opens n = omega arith in
    openings-next infos opens sender n (n ∷ []) (one-passes (λ m. owner_in infos m == sender) n (eq-eqb (owner_in infos n) sender own))
    ∙ ap (λ k. openings_of infos opens sender n + k) one

pub openings-other : (infos : List Info) (opens : ℕ → ℕ) (sender n : ℕ) → owner_in infos n ≢ sender → openings_of infos opens sender (n + 1) ≡ openings_of infos opens sender n
openings-other infos opens sender n other =
    let none : openings_of infos opens sender n + 0 ≡ openings_of infos opens sender n = omega arith in
    openings-next infos opens sender n [] (one-fails (λ m. owner_in infos m == sender) n (ne_eqb (owner_in infos n) sender other)) ∙ none

-- BY THE NUMBER OF PACKETS

once-more : (q e : ℕ) → (q + 1) * e ≡ q * e + e
once-more q e = let one : 1 * e ≡ e = omega arith in let both = add-mul q 1 e in omega arith

-- the quotient of a number that is one more
quotient-more : (k e : ℕ) → 0 < e
    → (((k + 1) % e ≡ 0) × ((k + 1) / e ≡ suc (k / e))) ⊎ (((k + 1) % e ≢ 0) × ((k + 1) / e ≡ k / e))
quotient-more k e some =
    let parts = div-add-mod' k e in let small : k % e < e = mod-lt k some in let one = once-more (k / e) e in let two = once-more (k / e + 1) e in
    let parts' = div-add-mod' (k + 1) e in
    elim (cases_lt (k % e + 1) e) [
      | inl less ↦
          (let same : (k + 1) / e ≡ k / e = div-eq_of_lt-le {k = k / e} e {m = k + 1} (omega arith) (omega arith) in
          let product : (k + 1) / e * e ≡ k / e * e = ap (λ q. q * e) same in
          inr ((λ none. absurd (omega arith)), same))
      | inr most ↦
          (let next : (k + 1) / e ≡ k / e + 1 = div-eq_of_lt-le {k = k / e + 1} e {m = k + 1} (omega arith) (omega arith) in
          let product : (k + 1) / e * e ≡ (k / e + 1) * e = ap (λ q. q * e) next in
          let suc_is : k / e + 1 ≡ suc (k / e) = omega arith in
          inl ((omega arith), next ∙ suc_is))
    ]

quotient-step : (k e : ℕ) → 0 < e → k / e + cond ((k + 1) % e == 0) 1 0 ≡ (k + 1) / e
quotient-step k e some = elim (quotient-more k e some) [
  | inl now ↦ (let one : k / e + 1 ≡ suc (k / e) = omega arith in ap (λ b. k / e + cond b 1 0) (eq-eqb ((k + 1) % e) 0 now.0) ∙ (one ∙ sym now.1))
  | inr later ↦ (let none : k / e + 0 ≡ k / e = omega arith in ap (λ b. k / e + cond b 1 0) (ne_eqb ((k + 1) % e) 0 later.0) ∙ (none ∙ sym later.1))
]

-- queues are opened after each so many packets of a sender
module _ (packets : ℕ) (infos : List Info) (sender : ℕ) (some : 0 < packets) where
  abbrev opens : ℕ → ℕ
  opens = opens_by (Every packets) infos

  every-next : (n : ℕ) → n < length infos → openings_of infos opens sender n ≡ count_sent infos sender n / packets
      → openings_of infos opens sender (n + 1) ≡ count_sent infos sender (n + 1) / packets
  every-next n within so_far = go (cases_eq (owner_in infos n) sender)
    where
      info : (i : Info) × (slice_get infos n ≡ Some i)
      info = event-there infos n within

      go : (owner_in infos n ≡ sender) ⊎ (owner_in infos n ≢ sender) → openings_of infos opens sender (n + 1) ≡ count_sent infos sender (n + 1) / packets
      go (inl own) =
          openings-own infos opens sender n own
          ∙ (ap₂ (λ (a s : ℕ). a + cond ((count_sent infos s n + 1) % packets == 0) 1 0) so_far own
          ∙ (quotient-step (count_sent infos sender n) packets some
          ∙ ap (λ k. k / packets) (sym (count-sent-own infos sender n info.0 info.1 (sym (owner-is infos n info.0 info.1) ∙ own)))))
      go (inr other) =
          openings-other infos opens sender n other
          ∙ (so_far ∙ ap (λ k. k / packets) (sym (count-sent-other infos sender n info.0 info.1 (λ same. other (owner-is infos n info.0 info.1 ∙ same)))))

  pub openings-every : (n : ℕ) → n ≤ length infos → openings_of infos opens sender n ≡ count_sent infos sender n / packets
  openings-every zero within = sym (div-eq_of_lt some)
  openings-every (suc n) within =
      let more : n + 1 ≡ suc n = omega arith in
      subst (λ m. openings_of infos opens sender m ≡ count_sent infos sender m / packets) more (every-next n (omega arith) (openings-every n (omega arith)))
