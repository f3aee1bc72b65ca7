-- `leave` keeps the rule of the table.
use Rattle.std.proofs.Common.{◌≡◌, ℕ, ◌+◌, ◌-◌, ◌%◌, ◌^◌, ◌<◌, ◌≤◌, true, true≢false, ◌∷◌, get_or, refl, sym, ap, ◌∙◌, subst, arith, Option, sum_by}
use Rattle.std.proofs.lemmas.Bool.{lt-ltb}
use Rattle.std.proofs.lemmas.List.Sums.{sum_by-cons, sum_by-append}
use mathlib.Core.Option.{some, none}
use lib.ListN.{get_elem?}
use Rattle.atomic_table.specs.Table as table
use Rattle.atomic_table.specs.Table.{step, Allows, keeps}
use Rattle.lq_device.specs.Station.{StationState}
use Rattle.lq_model.specs.declared.machine.Answer.TheVariants.{Plain}
use Rattle.lq_model.specs.declared.machine.Position.{Position}
use Rattle.lq_model.specs.declared.machine.Position.TheVariants.{Leave}
use Rattle.lq_model.specs.declared.machine.Seat.{Seat}
use Rattle.lq_model.specs.Machine.{Qdisc, bit}
use Rattle.lq_model.specs.Positions.{is_inside, holds_lock}
use Rattle.lq_table.specs.Places.{inside_place}
use Rattle.lq_table.specs.Views.{View, Setup}
use Rattle.lq_table.specs.Rule.{words_of, is_live, Rule}
use Rattle.lq_table.specs.Moves.{Sat, seen_by, pass_view}
use Rattle.lq_table.proofs.ByName.{set_inside}
use Rattle.lq_table.proofs.Middle.{middle}
use Rattle.lq_table.proofs.Frames.{opened, Fits}
use Rattle.lq_table.proofs.Quiet.{quiet}
use Rattle.lq_log.specs.Made.{becomes}

module _ (k : Setup) where
  abbrev St : Type 0
  St = table.State (Option StationState) View

  -- a seat inside is one of those that are counted
  counted : (s : St) (r : Rule k s) (id : ℕ) (v : View) → get_elem? s.views id ≡ some v → is_live v ≡ true → (rest : ℕ) × (bit (is_inside v.place.position) + rest ≡ r.qdisc.inside)
  counted s r id v at live = let m = middle s.views id v at live in let all = (opened s.views id v at live r.qdisc r.parts.machine.invariant).kept.calls_inside in
      let f : Seat → ℕ = λ s. bit (is_inside s.position) in
      (sum_by f m.before + sum_by f m.after, omega (arith, sum_by-append f m.before (v.place ∷ m.after), sum_by-cons f v.place m.after, all))

  pub leaves : (slots id : ℕ) (m : Sat) → m.0.place.position ≡ Leave → 0 < m.0.share.shares
      → Allows (Rule k) slots id m inside_place (λ n. (n + (2 ^ 64 - 1)) % 2 ^ 64) (becomes (λ _. pass_view) (step slots inside_place 1 0 none) m)
  leaves slots id m here some_share s r deep at small =
      let v : View = m.0 in let q = r.qdisc in let p = r.parts in let live = lt-ltb 0 v.share.shares some_share in let n : ℕ = get_or s.words inside_place 0 in let W = words_of k s.words in
      let q' : Qdisc = record q { inside = q.inside - 1 } in let one = counted s r id v at live in let inside : bit (is_inside v.place.position) ≡ 1 = ap (λ (x : Position). bit (is_inside x)) here in
      let fits : Fits q (seen_by v) Plain v.place.position v.place q' = subst (λ (x : Position). Fits q (seen_by v) Plain x v.place q') (sym here) record { may = refl; seat = refl; words = refl } in
      let word : n ≡ q.inside = p.station.stands.inside in let some_in : 1 ≤ q.inside = (let a = one.1 in omega arith) in (
        pass_view v,
        keeps,
        tt,
        quiet k s r inside_place ((n + (2 ^ 64 - 1)) % 2 ^ 64) id W.state ((n + (2 ^ 64 - 1)) % 2 ^ 64) v Plain (seen_by v) q' at live fits (record { bands = refl; slot = refl; xoff = refl; len = refl; deactivated = refl; locked = refl; purge = refl; phase = refl })
            (set_inside k s.words _ (let wide = r.wide in omega arith)) (record { state = p.station.stands.state; lock = p.station.stands.lock; xoff = p.station.stands.xoff; inside = omega arith; bypass = p.station.stands.bypass })
            (λ held. absurd (true≢false (sym held ∙ ap holds_lock here))),
        refl,
      )
