-- When the first seat's packet is refused.
use Rattle.std.proofs.Common.{◌≡◌, ◌↔◌, ℕ, ◌+◌, ◌*◌, ◌<◌, Bool, true, false, not, ◌&&◌, refl, sym, ap, ◌∙◌, subst, arith, List, Option, Some, None, inl, inr, ◌⊎◌}
use Rattle.std.specs.Prelude.{is_some}
use Rattle.std.proofs.lemmas.Bool.{true≢false}
use Rattle.lq_account_laws.specs.Trail.{down_of}
use Rattle.lq_model.specs.Plan.{band_in}
use Rattle.lq_model.specs.declared.fate.Info.{Info}
use Rattle.lq_table.specs.Views.{View}
use Rattle.lq_table.specs.Moves.{is_set}
use Rattle.lq_table.specs.States.{load_state_view, some_bit}
use Rattle.lq_qdisc.proofs.ViewRelations.{Enqueues, Goes, GoesPast, GoesThrough, GoesThroughHeld, TriesToPass, transmitting}
use Rattle.lq_qdisc.specs.declared.answers.Sending.{Sending}
use Rattle.lq_qdisc.specs.declared.answers.Sending.TheVariants as sending

some_of : (o : Option ℕ) → is_some o ≡ true → (e : ℕ) × (o ≡ Some e)
some_of (Some e) h = (e, refl)
some_of None h = absurd (true≢false (sym h))

module _ (infos : List Info) (bypass : Bool) (n : ℕ) (answer : Sending) (old last : View) (goes : Goes infos bypass n answer (transmitting infos n old) last) (first : old.control.first ≡ true) where
  -- where DEACTIVATED was loaded the trail's event is the packet's
  by_event : (e found : ℕ) → down_of old.trail ≡ Some e → (bits : ℕ) → bits < 16 → goes.state ≡ bits + 256 * (found + 1) → found ≡ e
  by_event e found down bits below is = let s = (goes.first first).event e down in omega (arith, s.1, s.2, below, is)

  through_not : (event : ℕ) (v w : View) → answer ≡ sending.Refused event → GoesThrough infos n answer v w → ⊥
  through_not event v w is g = subst (λ (a : Sending). Enqueues n (band_in infos n) a v g.put) is g.enqueued

  tries_not : (event : ℕ) (v : View) → answer ≡ sending.Refused event → TriesToPass infos n answer v last → ⊥
  tries_not event v is (inl m) = through_not event m.0 last is m.2
  tries_not event v is (inr b) = by_way b.2
    where
      by_way : (GoesThroughHeld infos n answer b.0 last ⊎ ((answer ≡ sending.Direct) × GoesPast infos n b.0 last)) → ⊥
      by_way (inl h) = subst (λ (a : Sending). Enqueues n (band_in infos n) a (load_state_view h.state b.0) h.put) is h.enqueued
      by_way (inr p) = (let direct = p.0 in cc)

  by_bits : (event : ℕ) → answer ≡ sending.Refused event → is_set 2 goes.state ≡ false → (c : Bool) → bypass && not (some_bit goes.state) ≡ c → ⊥
  by_bits event is active false e = through_not event _ last is (goes.through active e)
  by_bits event is active true e = tries_not event _ is (goes.past active e)

  by_state : (event : ℕ) → answer ≡ sending.Refused event → (b : Bool) → is_set 2 goes.state ≡ b → down_of old.trail ≡ Some event
  by_state event is false e = absurd (by_bits event is e (bypass && not (some_bit goes.state)) refl)
  by_state event is true e =
      let r = goes.refused e in let d = some_of (down_of old.trail) (sym (goes.first first).down ∙ e) in
      let same : event ≡ r.0 = (let came = r.1 in cc) in
      d.1 ∙ ap (λ (x : ℕ). Some x) (sym (by_event d.0 r.0 d.1 r.2.1.0 r.2.1.1 r.2.1.2) ∙ sym same)

  pub refused_first : (event : ℕ) → (answer ≡ sending.Refused event) ↔ (down_of old.trail ≡ Some event)
  refused_first event = (
    λ is. by_state event is (is_set 2 goes.state) refl,
    λ down. let r = goes.refused ((goes.first first).down ∙ ap (λ (o : Option ℕ). is_some o) down) in
        r.1 ∙ ap (λ (x : ℕ). sending.Refused x) (by_event event r.0 down r.2.1.0 r.2.1.1 r.2.1.2),
  )
