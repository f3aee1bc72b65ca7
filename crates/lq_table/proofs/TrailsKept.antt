-- The first seat's trail.
use Rattle.std.proofs.Common.{◌≡◌, ◌≢◌, ℕ, ◌<◌, Bool, true, false, List, ◌∷◌, set, sym, ap, ◌∙◌, subst, arith, eqb, ne_eqb, cond}
use mathlib.Core.Option.{some}
use lib.ListN.{get_elem?}
use Rattle.lq_model.specs.Account.{Event}
use Rattle.lq_model.specs.Plan.{owner_in}
use Rattle.lq_model.specs.Machine.{bit}
use Rattle.lq_model.specs.declared.fate.Info.{Info}
use Rattle.lq_band_laws.proofs.Seats.{total_two, each_step, each_same}
use Rattle.lq_band_laws.specs.Seats.{total}
use Rattle.lq_model.specs.Device.{DeviceState}
use Rattle.lq_table.specs.Views.{View, Setup, SharePart}
use Rattle.lq_account_laws.specs.Trail.{is_own, trail_of}
use Rattle.lq_table.specs.Rule.{times, Shares, Trails}
use Rattle.lq_table.proofs.Accounts.{owners_apart}

module _ (infos : List Info) (views : List View) (id : ℕ) (v w : View) (here : get_elem? views id ≡ some v) where
  abbrev Knows : List Event → View → Type 0
  Knows past u = u.control.first ≡ true → u.trail ≡ trail_of infos past

  owner_stays : {past : List Event} {origin : DeviceState} → Trails infos past origin views → w.share ≡ v.share → w.control.first ≡ v.control.first → w.control.first ≡ true → 0 < times 0 w.share.owners
  owner_stays t share first is = subst (λ (x : SharePart). 0 < times 0 x.owners) (sym share) (t.owner id v here (sym first ∙ is))

  -- a step without an event of the trail
  pub trails_same : {past past' : List Event} {origin : DeviceState} → Trails infos past origin views → w.share ≡ v.share → w.control.first ≡ v.control.first → w.control.origin ≡ v.control.origin → w.trail ≡ v.trail → trail_of infos past' ≡ trail_of infos past → Trails infos past' origin (set views id w)
  trails_same {past} {past'} {origin} t share first came trail same = record {
    owner = each_same (λ u. u.control.first ≡ true → 0 < times 0 u.share.owners) views id w t.owner (owner_stays t share first);
    knows = each_step (Knows past) (Knows past') views id w t.knows (λ is. trail ∙ (t.knows id v here (sym first ∙ is) ∙ sym same)) (λ j u _ _ y is. y is ∙ sym same);
    came = each_same (λ u. u.control.first ≡ true → u.control.origin ≡ origin) views id w t.came (λ is. came ∙ t.came id v here (sym first ∙ is));
  }

  -- no other seat is first
  no_other : total (λ u. bit u.control.first) views ≡ 1 → v.control.first ≡ true → (j : ℕ) (u : View) → j ≢ id → get_elem? views j ≡ some u → u.control.first ≡ true → ⊥
  no_other one is_first j u apart at_j is = let two = total_two (λ x. bit x.control.first) views id j v u here at_j apart in let a : bit v.control.first ≡ 1 = ap bit is_first in let b : bit u.control.first ≡ 1 = ap bit is in omega arith

  -- an event of control, after which the device came as `now`
  pub trails_own : {past : List Event} {origin now : DeviceState} (e : Event) → is_own infos e ≡ true → Trails infos past origin views → total (λ u. bit u.control.first) views ≡ 1 → v.control.first ≡ true → w.share ≡ v.share → w.control.first ≡ v.control.first → w.control.origin ≡ now → w.trail ≡ e ∷ v.trail
      → Trails infos (e ∷ past) now (set views id w)
  trails_own {past} {origin} {now} e own t one is_first share first came trail = record {
    owner = each_same (λ u. u.control.first ≡ true → 0 < times 0 u.share.owners) views id w t.owner (owner_stays t share first);
    knows = each_step (Knows past) (Knows (e ∷ past)) views id w t.knows
        (λ is. trail ∙ (ap (λ (es : List Event). e ∷ es) (t.knows id v here is_first) ∙ sym (ap (λ (b : Bool). cond b (e ∷ trail_of infos past) (trail_of infos past)) own)))
        (λ j u apart at_j _ is. absurd (no_other one is_first j u apart at_j is));
    came = each_step (λ u. u.control.first ≡ true → u.control.origin ≡ origin) (λ u. u.control.first ≡ true → u.control.origin ≡ now) views id w t.came (λ _. came) (λ j u apart at_j _ is. absurd (no_other one is_first j u apart at_j is));
  }

-- an event that brings the packet n of the seat
pub trails_brought : (k : Setup) (views : List View) (id : ℕ) (v w : View) (here : get_elem? views id ≡ some v) {past : List Event} {origin : DeviceState} (e : Event) (n : ℕ) → is_own k.infos e ≡ eqb (owner_in k.infos n) 0 → Trails k.infos past origin views → Shares k views → v.share.about ≡ k → owner_in k.infos n < k.senders → 0 < times (owner_in k.infos n) v.share.owners
    → w.share ≡ v.share → w.control.first ≡ v.control.first → w.control.origin ≡ v.control.origin → w.trail ≡ cond (is_own v.share.about.infos e) (e ∷ v.trail) v.trail → Trails k.infos (e ∷ past) origin (set views id w)
trails_brought k views id v w here {past} {origin} e n own t s about small has share first came trail = record {
  owner = each_same (λ u. u.control.first ≡ true → 0 < times 0 u.share.owners) views id w t.owner (owner_stays k.infos views id v w here t share first);
  knows = each_step (Knows k.infos views id v w here past) (Knows k.infos views id v w here (e ∷ past)) views id w t.knows
      (λ is. trail ∙ (ap (λ (z : Setup). cond (is_own z.infos e) (e ∷ v.trail) v.trail) about ∙ ap (λ (es : List Event). cond (is_own k.infos e) (e ∷ es) es) (t.knows id v here (sym first ∙ is))))
      (λ j u apart at_j y is. let no : is_own k.infos e ≡ false = own ∙ ne_eqb (owner_in k.infos n) 0 (λ zero_. owners_apart k views s id j v u (owner_in k.infos n) 0 small here at_j apart has (t.owner j u at_j is) (sym zero_)) in
      y is ∙ sym (ap (λ (b : Bool). cond b (e ∷ trail_of k.infos past) (trail_of k.infos past)) no));
  came = each_same (λ u. u.control.first ≡ true → u.control.origin ≡ origin) views id w t.came (λ is. came ∙ t.came id v here (sym first ∙ is));
}
