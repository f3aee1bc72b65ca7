-- The lines of packets, one after the other.
use Rattle.std.proofs.Common.{◌≡◌, ℕ, suc, ◌+◌, ◌<◌, ◌≤◌, List, ◌++◌, drop, length, get_or, sym, ap, ap₂, ◌∙◌, arith}
use Rattle.std.proofs.Math.Seq.{drop-cons}
use Rattle.std.proofs.lemmas.Grind.{flat_map-append}
use Rattle.std.proofs.lemmas.List.{append-nil, append_assoc, drop_all}
use Rattle.std.specs.List.{flat_map}
use Rattle.lq_model.specs.Texts.{time_line, times_text}
use Rattle.lq_model.specs.declared.flight.Flight.{Flight}
use Rattle.lq_model.specs.declared.plan.Card.{Card}

module _ (card : Card) where
  pub lines-both : (xs ys : List Flight) → times_text card (xs ++ ys) ≡ times_text card xs ++ times_text card ys
  unfolding times_text
  lines-both xs ys = flat_map-append (time_line card) xs ys

  -- a line more was written
  pub line-more : (flights : List Flight) (i : ℕ) (d : Flight) (all text new : List ℕ) → i < length flights → text ++ times_text card (drop i flights) ≡ all
      → new ≡ text ++ time_line card (get_or flights i d) → new ++ times_text card (drop (i + 1) flights) ≡ all
  unfolding times_text
  line-more flights i d all text new there so wrote =
      let flight = get_or flights i d in let next : i + 1 ≡ suc i = omega arith in
      ap₂ (λ (l : List ℕ) (k : ℕ). l ++ flat_map (time_line card) (drop k flights)) wrote next
      ∙ (append_assoc text (time_line card flight) (flat_map (time_line card) (drop (suc i) flights))
      ∙ (ap (λ (fs : List Flight). text ++ flat_map (time_line card) fs) (sym (drop-cons flights i d there)) ∙ so))

  -- and all
  pub lines-all : (flights : List Flight) (i : ℕ) (all text : List ℕ) → length flights ≤ i → text ++ times_text card (drop i flights) ≡ all → text ≡ all
  unfolding times_text
  lines-all flights i all text none so = sym (append-nil text) ∙ (ap (λ (fs : List Flight). text ++ flat_map (time_line card) fs) (sym (drop_all i flights none)) ∙ so)
