-- How often queues are opened after each packet of a run, as the run looks it up.
use Rattle.std.proofs.Common.{◌≡◌, ◌≢◌, ◌⊎◌, inl, inr, ℕ, zero, suc, ◌+◌, ◌<◌, ◌≤◌, ◌==◌, cond, List, [], ◌∷◌, length, Some, refl, sym, ap, ap₂, ◌∙◌, subst, slice_get, arith, eq-eqb}
use Rattle.std.specs.Option.{option_map_or}
use Rattle.std.specs.Prelude.{count_by}
use Rattle.std.proofs.lemmas.Bool.{cases_eq, ne_eqb}
use Rattle.std.proofs.lemmas.List.Sums.{sum_by-append}
use Rattle.lq_files.proofs.TextLemmas.{length-infos_of}
use Rattle.lq_model.specs.Capture.{Packets}
use Rattle.lq_model.specs.Numbers.{first_numbers}
use Rattle.lq_model.specs.Openings.{number_among_own, openings}
use Rattle.lq_model.specs.Plan.{Plan, info_of, infos_of, owner_in, owner_of}
use Rattle.lq_model.specs.declared.fate.Info.{Info}
use Rattle.lq_model.proofs.FirstNumbers.{first-at}
use Rattle.std.proofs.lemmas.Option.{slice_get-map}
use Rattle.std.specs.Prelude.{option_map}
use Rattle.lq_plan.specs.Openings.{IsOpenings}
use Rattle.lq_plan.specs.declared.openings.Openings.{Openings}
use Rattle.lq_senders.proofs.Woken.{count-sent-other, count-sent-own}
use Rattle.lq_senders.specs.Woken.{KnowOpenings, OpensAre, count_sent}

module _ (plan : Plan) (packets : Packets) where
  info-there : (n : ℕ) → n < packets.count → slice_get (infos_of plan packets) n ≡ Some (info_of plan packets n)
  info-there n within = slice_get-map (info_of plan packets) (first_numbers packets.count) n ∙ ap (option_map (info_of plan packets)) (first-at packets.count n within)

  -- one more of a sender's packets is counted, or none
  count-next : (sender n more : ℕ) → cond (owner_of plan packets n == sender) 1 0 ≡ more
      → count_by (λ m. owner_of plan packets m == sender) (first_numbers (suc n)) ≡ count_by (λ m. owner_of plan packets m == sender) (first_numbers n) + more
  count-next sender n more is =
      let last : 0 + cond (owner_of plan packets n == sender) 1 0 ≡ cond (owner_of plan packets n == sender) 1 0 = omega arith in
      sum_by-append (λ m. cond (owner_of plan packets m == sender) 1 0) (first_numbers n) (n ∷ [])
      ∙ ap (λ k. count_by (λ m. owner_of plan packets m == sender) (first_numbers n) + k) (last ∙ is)

  -- those that a sender has sent before packet n are its packets below n
  abbrev SentAre : ℕ → ℕ → Type 0
  SentAre sender n = count_sent (infos_of plan packets) sender n ≡ count_by (λ m. owner_of plan packets m == sender) (first_numbers n)

  sent-next : (sender n : ℕ) → n < packets.count → SentAre sender n → SentAre sender (n + 1)
  sent-next sender n within so-far = go (cases_eq (owner_of plan packets n) sender)
    where
      more : suc n ≡ n + 1
      more = omega arith

      go : (owner_of plan packets n ≡ sender) ⊎ (owner_of plan packets n ≢ sender) → SentAre sender (n + 1)
      go (inl own) =
          count-sent-own (infos_of plan packets) sender n (info_of plan packets n) (info-there n within) own
          ∙ (ap (λ k. k + 1) so-far ∙ (sym (count-next sender n 1 (ap (λ b. cond b 1 0) (eq-eqb (owner_of plan packets n) sender own)))
          ∙ ap (λ k. count_by (λ m. owner_of plan packets m == sender) (first_numbers k)) more))
      go (inr other) =
          let none : count_by (λ m. owner_of plan packets m == sender) (first_numbers n) + 0 ≡ count_by (λ m. owner_of plan packets m == sender) (first_numbers n) = omega arith in
          count-sent-other (infos_of plan packets) sender n (info_of plan packets n) (info-there n within) other
          ∙ (so-far ∙ (sym (count-next sender n 0 (ap (λ b. cond b 1 0) (ne_eqb (owner_of plan packets n) sender other)) ∙ none)
          ∙ ap (λ k. count_by (λ m. owner_of plan packets m == sender) (first_numbers k)) more))

  sent-are : (sender n : ℕ) → n ≤ packets.count → SentAre sender n
  sent-are sender zero within = refl
  sent-are sender (suc n) within = let more : n + 1 ≡ suc n = omega arith in subst (SentAre sender) more (sent-next sender n (omega arith) (sent-are sender n (omega arith)))

  -- a packet's number among those of its owner is one more than those that were sent before it
  number-is : (n : ℕ) → n < packets.count → count_sent (infos_of plan packets) (owner_in (infos_of plan packets) n) n + 1 ≡ number_among_own plan packets n
  number-is n within =
      let owner : owner_in (infos_of plan packets) n ≡ owner_of plan packets n = ap (λ o. option_map_or (λ (i : Info). i.owner) o 0) (info-there n within) in
      let more : suc n ≡ n + 1 = omega arith in let own = owner_of plan packets n in
      ap (λ (s : ℕ). count_sent (infos_of plan packets) s n + 1) owner
      ∙ (ap (λ k. k + 1) (sent-are own n (omega arith))
      ∙ (sym (count-next own n 1 (ap (λ b. cond b 1 0) (eq-eqb own own refl)))
      ∙ ap (λ k. count_by (λ m. owner_of plan packets m == own) (first_numbers k)) more))

  below-count : (infos : List Info) (n : ℕ) → infos ≡ infos_of plan packets → n < length infos → n < packets.count
  below-count infos n are within = subst (λ count. n < count) (ap length are ∙ length-infos_of plan packets) within

  pub know-openings : (infos : List Info) (found : Openings) → infos ≡ infos_of plan packets → IsOpenings plan packets (openings plan packets) found → KnowOpenings found infos
  know-openings infos found are is n within = is.within n (below-count infos n are within)

  pub opens-are : (infos : List Info) (found : Openings) → infos ≡ infos_of plan packets → IsOpenings plan packets (openings plan packets) found → OpensAre found infos (openings plan packets)
  opens-are infos found are is =
      subst (λ (given : List Info). OpensAre found given (openings plan packets)) (sym are)
      (λ n within. let below = below-count (infos_of plan packets) n refl within in
      is.each n (count_sent (infos_of plan packets) (owner_in (infos_of plan packets) n) n) below (number-is n below))
