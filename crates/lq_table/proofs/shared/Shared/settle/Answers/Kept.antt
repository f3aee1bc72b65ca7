-- Fate words are stored: by control that of the first of the packets that a resize dropped, and by any seat one that it owes.
use Rattle.std.proofs.Common.{◌≡◌, ℕ, zero, suc, ◌+◌, ◌<◌, ◌≤◌, ◌⊎◌, inl, inr, List, ◌∷◌, ◌++◌, length, drop, set, refl, sym, ap, ◌∙◌, subst, arith, ⊎_elim, Option, Some, None, Contains}
use Rattle.std.specs.Option.{option_map}
use Rattle.std.proofs.lemmas.Option.{same_Some}
use Rattle.std.proofs.lemmas.List.Elements.{Contains-append_cases}
use mathlib.Core.Option.{none}
use Rattle.atomic_table.specs.Table.{step, Allows, keeps}
use Rattle.lq_device.specs.Station.{StationState}
use Rattle.lq_account_laws.proofs.Changes.{band-held}
use Rattle.lq_account_laws.proofs.Waiting.{waits-held}
use Rattle.lq_model.specs.Account.{Account, held}
use Rattle.lq_model.specs.Band.{held_of}
use Rattle.lq_model.specs.Words.{word_of, HasWord}
use Rattle.lq_model.specs.declared.fate.Fate.{Fate}
use Rattle.lq_model.specs.declared.fate.Fate.TheVariants as fate
use Rattle.lq_band_laws.specs.Three.{at}
use Rattle.lq_band_laws.specs.Times.{times}
use Rattle.lq_band_laws.specs.HalfResized.{IsHalfResized}
use Rattle.lq_band_laws.proofs.Seats.{total_same}
use Rattle.lq_band_laws.proofs.Three.{put_at}
use Rattle.lq_band_laws.proofs.Times.{times_in, times_same, times_other}
use Rattle.lq_band_laws.proofs.StoredKept.{settles}
use Rattle.lq_band_laws.proofs.HalfResizedKept.{shrinks}
use Rattle.lq_table.specs.Views.{View, Setup, HalfResize, Work, Left}
use Rattle.lq_table.specs.Rule.{words_of, fates_offset, account, owes, waiting_of, waits, unstored, bands_now, locks_at, Rule}
use Rattle.lq_table.specs.Moves.{Sat}
use Rattle.lq_table.specs.Resizes.{settled_work, with_work, with_resizing}
use Rattle.lq_table.specs.Fates.{MaySettle, MayShrink, settle_view_shrunk, settle_view}
use Rattle.lq_table.proofs.ByName.{set_fate}
use Rattle.lq_table.proofs.shared.Shared.settle.Answers.Owed.{pays}
use Rattle.lq_table.proofs.shared.Shared.settle.Answers.Sent as sent
use Rattle.lq_table.proofs.SettledKept.{settled_stored}
use Rattle.lq_table.proofs.ResizeSlotsKept.{waiting_put, waiting_at, resizing_rule, resizing_known, works_on}
use Rattle.lq_log.specs.Made.{becomes}

-- how often a purge has still to take a packet of one band
waits_at : (n b : ℕ) (l : Left) → times n (held_of (at b l.bands)) ≤ waits n (Some l)
waits_at n zero l = omega arith
waits_at n (suc zero) l = omega arith
waits_at n (suc (suc b)) l = omega arith

-- what stands in a line of which nothing was taken is held, or a purge has still to take it
held_there : (left : Option Left) (a : Account) (b n : ℕ) → b < 3 → (bands_now left a.bands b).taken ≡ 0 → Contains (bands_now left a.bands b).line n → Contains (held a) n ⊎ (0 < waits n left)
held_there None a b n h none_taken c = inl (band-held a b n h (subst (λ (z : ℕ). Contains (drop z (a.bands b).line) n) (sym none_taken) c))
held_there (Some l) a b n h none_taken c = let x = times_in n (held_of (at b l.bands)) (subst (λ (z : ℕ). Contains (drop z (at b l.bands).line) n) (sym none_taken) c) in let y = waits_at n b l in inr (omega arith)

module _ (k : Setup) where
  pub settles_shrunk : (slots id : ℕ) (st : StationState) (m : Sat) (b n event : ℕ) → b < 3 → HasWord (fate.Shrunk event) → 0 < m.0.share.shares → MayShrink b n event m.0
      → Allows (Rule k) slots id m (fates_offset k + n) (λ _. word_of (fate.Shrunk event)) (λ _. becomes (λ _. settle_view st b n (fate.Shrunk event)) (step slots (fates_offset k + n) (word_of (fate.Shrunk event)) 0 none) m (word_of (fate.Shrunk event)))
  settles_shrunk slots id st m b n event below has_word some_share may s r1 deep here small =
      let v : View = m.0 in let t : HalfResize = may.resizing in let r = resizing_rule k s r1 (Some t) (resizing_known k s r1 id v (Some t) here some_share may.holds may.under_way) in
      let p = r.parts in let g = r.state in let a = account k g in let W = words_of k s.words in let res = p.station.rings.half_resized t refl in
      let old : Work = at b t.works in let x : Work = settled_work old in let t' : HalfResize = with_work b x t in let w : View = record (with_resizing (Some t') v) { settled = (n, fate.Shrunk event) ∷ v.settled } in let x_waits : x.waiting ≡ may.waiting = ap (drop 1) may.first in let x_hand : x.hand ≡ may.hand = ap (drop 1) may.in_hand in
      let here_once : times n old.waiting ≡ times n may.waiting + 1 = ap (times n) may.first ∙ times_same n n may.waiting refl in
      let at_b = waiting_at n b t.works in
      let is : a.fates n ≡ Some (fate.Shrunk event) = p.station.fates.shrunk t refl n (omega arith) ∙ ap (λ (z : ℕ). Some (fate.Shrunk z)) may.event_is in
      let inside : n < length k.infos = (p.account.accounted.brought.packets n (p.account.accounted.brought.fates n (fate.Shrunk event) is)).0 in
      let under_way = subst (λ (z : List ℕ × List ℕ). IsHalfResized (at b W.slots) (at b W.producers) (locks_at b s.views) (bands_now g.left a.bands b) z.0 old.slots z.1) (λ j. (may.first j, may.in_hand j)) (res.ring b below) in
      let now = bands_now g.left a.bands b in
      let out : Contains (now.line ++ may.waiting) n → ⊥ = λ h. ⊎_elim
      (λ (line : Contains now.line n). ⊎_elim (λ held. p.account.accounted.free n (fate.Shrunk event) (waits-held a n held) is) (λ left. let o = p.station.fates.stored.once n in absurd (omega arith)) (held_there g.left a b n below under_way.none_taken line))
      (λ (more : Contains may.waiting n). let y = times_in n may.waiting more in let o = p.station.fates.stored.once n in absurd (omega arith))
      (Contains-append_cases now.line may.waiting n h) in
      let new = subst (λ (z : List ℕ × List ℕ). IsHalfResized (at b W.slots) (at b W.producers) (locks_at b s.views) now z.0 old.slots z.1) (λ j. (sym x_waits j, sym x_hand j)) (shrinks _ _ _ _ _ _ _ n under_way out) in
      let waits = λ (l : ℕ). waiting_put l b x t.works in
      let is_view : w ≡ settle_view_shrunk b n event v = λ j. record (with_resizing (option_map (λ (z : HalfResize). with_work b (settled_work (at b z.works)) z) (sym may.under_way j)) v) { settled = (n, fate.Shrunk event) ∷ v.settled } in
      let f : ℕ = word_of (fate.Shrunk event) in (
        w,
        keeps,
        tt,
        works_on k s r (fates_offset k + n) f id b v t x (at b W.slots) (set W.fates n f) ((n, fate.Shrunk event) ∷ v.settled) here some_share may.holds may.under_way below
            (set_fate k s.words f n inside ∙ (λ j. record W { slots = sym (put_at b W.slots) j; fates = set W.fates n f })) refl new record {
              stored = settles (length k.infos) W.fates (unstored s.views (Some t) g.left) a.fates p.station.fates.stored (unstored (set s.views id w) (Some t') g.left) n (fate.Shrunk event) inside is
                  (let z = total_same (λ u. owes n u.packets.owed) s.views id v w here refl in let y = waits n in let e = ap (times n) x_waits in omega arith)
                  (λ l no_. let z = total_same (λ u. owes l u.packets.owed) s.views id v w here refl in let y = waits l in let e = ap (times l) x_waits in let c = ap (times l) may.first ∙ times_other l n may.waiting no_ in omega arith);
              shrunk = λ u e l h. p.station.fates.shrunk t refl l (let y = waits l in let c = ap (times l) x_waits in let h' : 0 < waiting_of l t'.works = subst (λ (y : HalfResize). 0 < waiting_of l y.works) (sym (same_Some t' u e)) h in let q : times l old.waiting ≡ times l (n ∷ may.waiting) = ap (times l) may.first in omega arith)
                  ∙ ap (λ (y : HalfResize). Some (fate.Shrunk y.event)) (same_Some t' u e);
              purged = p.station.fates.purged;
            }
            (settled_stored s.views id v w here W.fates n (fate.Shrunk event) has_word (p.station.fates.stored.zero n (omega arith)) (let long = p.station.fates.stored.long in omega arith) p.seats.settled refl),
        ap (λ (y : View). (y, m.1)) is_view,
      )

  pub settles_fate : (slots id : ℕ) (st : StationState) (m : Sat) (b n : ℕ) (f : Fate) → n < length k.infos → HasWord f → 0 < m.0.share.shares → MaySettle b n f st m.0
      → Allows (Rule k) slots id m (fates_offset k + n) (λ _. word_of f) (λ _. becomes (λ _. settle_view st b n f) (step slots (fates_offset k + n) (word_of f) 0 none) m (word_of f))
  settles_fate slots id st m b n (fate.Sent unit serial) within has_word some_share may =
      subst (λ (f : Fate). Allows (Rule k) slots id m (fates_offset k + n) (λ _. word_of f) (λ _. becomes (λ _. settle_view st b n (fate.Sent unit serial)) (step slots (fates_offset k + n) (word_of f) 0 none) m (word_of f))) (sym may.fate_is)
      (sent.settles k slots id n st m may.packet may.direct may.answer may.position may.in_hand may.called may.accepted (subst HasWord may.fate_is has_word) some_share within)
  settles_fate slots id st m b n (fate.Full seen) within has_word some_share may = pays k slots id n (fate.Full seen) m may within has_word some_share
  settles_fate slots id st m b n (fate.Refused event) within has_word some_share may = pays k slots id n (fate.Refused event) m may within has_word some_share
  settles_fate slots id st m b n (fate.Purged cause) within has_word some_share may = pays k slots id n (fate.Purged cause) m may within has_word some_share
  settles_fate slots id st m b n (fate.Shrunk event) within has_word some_share may = settles_shrunk slots id st m b n event may.0 has_word some_share may.1
