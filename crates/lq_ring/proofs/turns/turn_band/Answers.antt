use Rattle.std.proofs.Common.{rules, ◌≡◌, ◌<◌, ◌+◌, ◌-◌, ◌≤◌, ◌⊎◌, inl, inr, arith, ℕ, get_or, take, drop, List, [], ◌++◌, Contains, false, sym, ap, ◌∙◌, subst, refl, length, ⊎_elim}
use Rattle.std.specs.Prelude.{slice_index}
use Rattle.std.proofs.lemmas.Bool.{cases_lt}
use Rattle.lq_band_laws.specs.Ring.{word_at}
use Rattle.lq_band_laws.specs.HalfResized.{IsRefilled}
use Rattle.lq_table.specs.Views.{View, Work}
use Rattle.lq_table.specs.Resizes.{is_word}
use Rattle.lq_table.specs.Sees.{view}
use Rattle.lq_model.specs.declared.fate.Fate.TheVariants as fate
use Rattle.lq_ring.specs.Fates.{fates_onto}
use Rattle.lq_ring.specs.Work.{work_at, working, event_of_work, rotated, zeroed_to, IsWorkBegun}
use Rattle.lq_ring.proofs.Works.{AreMembers, shrunk_to, at_chain, turner_chain, chain, event_after, zeroed_long, members_of, having_settled, with_slots, dropped_to}
use Rattle.lq_ring.proofs.Turned.{stale_other, cleared_members, turned_members, long3, dropped_in, none_left, drop_none-take, refilled, counted}
use Rattle.lq_ring.proofs.StepsThen.{turns_then}
use Rattle.lq_ring.proofs.turns.turn_band.Goals as goal

-- the words of the band's packets
same_members : (limit size tail head len : ℕ) (held : List ℕ) (w : Work) → IsWorkBegun limit size tail head len held w → take len held ++ drop len held ≡ members_of w
same_members limit size tail head len held w h = λ j. sym h.kept_is j ++ sym h.waiting_is j

pub clear_stale-requires-clause-stale : goal.clear_stale-requires-clause-stale
clear_stale-requires-clause-stale g c _ _ = λ j low high.
    let w : Work = work_at c.args.band (view c.args.cpu.now) in let held = c.requires.whole.0 in let h = c.requires.whole.1 in
    subst (λ (ls : List ℕ). is_word (slice_index w.slots j) ls ≡ false) (same_members _ _ _ _ _ held w h) (stale_other _ _ w.slots held c.args.ends.tail c.args.ends.head c.args.resize.len h.unturned j low high)

pub rotate-requires-clause-turner : goal.rotate-requires-clause-turner
rotate-requires-clause-turner g c _ _ = let b = c.args.band in let v = view c.args.cpu.now in let w : Work = work_at b v in
    turner_chain b (with_slots (zeroed_to c.args.ends.tail (c.args.ends.head - c.args.ends.tail) w.slots) w) v _ c.requires.turner.0 c.clear_stale.ensures.stands.1

pub rotate-requires-clause-slots : goal.rotate-requires-clause-slots
rotate-requires-clause-slots g c _ _ =
    let b = c.args.band in let v = view c.args.cpu.now in let w : Work = work_at b v in let held = c.requires.whole.0 in let h = c.requires.whole.1 in let z : List ℕ = zeroed_to c.args.ends.tail (c.args.ends.head - c.args.ends.tail) w.slots in
    let here = at_chain b (with_slots z w) v _ c.requires.turner.0 c.clear_stale.ensures.stands.1 in (
      ap (λ (x : Work). length x.slots) here ∙ (zeroed_long c.args.ends.tail (c.args.ends.head - c.args.ends.tail) w.slots ∙ h.unturned.long),
      subst (λ (x : Work). AreMembers (members_of x) x.slots) (sym here) (subst (λ (ls : List ℕ). AreMembers ls z) (same_members _ _ _ _ _ held w h) (cleared_members _ _ w.slots held c.args.ends.tail c.args.ends.head c.args.resize.len h.unturned)),
    )

pub count_filled-kept-requires-clause-turner : goal.count_filled-kept-requires-clause-turner
count_filled-kept-requires-clause-turner g c _ _ =
    let b = c.args.band in let v = view c.args.cpu.now in let w : Work = work_at b v in let z : List ℕ = zeroed_to c.args.ends.tail (c.args.ends.head - c.args.ends.tail) w.slots in let t = c.requires.turner.0 in
    turner_chain b (with_slots (rotated c.args.ends.head c.args.resize.size z) w) v _ t (chain b (λ (x : Work). with_slots (rotated c.args.ends.head c.args.resize.size x.slots) x) (with_slots z w) v _ _ t c.clear_stale.ensures.stands.1 c.rotate.ensures.stands.1)

pub count_filled-kept-requires-clause-slots : goal.count_filled-kept-requires-clause-slots
count_filled-kept-requires-clause-slots g c _ _ =
    let b = c.args.band in let v = view c.args.cpu.now in let w : Work = work_at b v in let z : List ℕ = zeroed_to c.args.ends.tail (c.args.ends.head - c.args.ends.tail) w.slots in let t = c.requires.turner.0 in let held = c.requires.whole.0 in let h = c.requires.whole.1 in
    let r : List ℕ = rotated c.args.ends.head c.args.resize.size z in
    let here = at_chain b (with_slots r w) v _ t (chain b (λ (x : Work). with_slots (rotated c.args.ends.head c.args.resize.size x.slots) x) (with_slots z w) v _ _ t c.clear_stale.ensures.stands.1 c.rotate.ensures.stands.1) in (
      ap (λ (x : Work). length x.slots) here ∙ long3 _ _ w.slots held c.args.ends.tail c.args.ends.head c.args.resize.len h.unturned,
      subst (λ (x : Work). AreMembers (members_of x) x.slots) (sym here) (subst (λ (ls : List ℕ). AreMembers ls r) (same_members _ _ _ _ _ held w h) (turned_members _ _ w.slots held c.args.ends.tail c.args.ends.head c.args.resize.len h.unturned)),
    )

less_of : (m len size : ℕ) → (len < size → m ≡ len) → (size ≤ len → m ≡ size) → ((m ≡ len) × (len < size)) ⊎ ((m ≡ size) × (size ≤ len))
less_of m len size a b = ⊎_elim (λ (h : len < size). inl (a h, h)) (λ (h : size ≤ len). inr (b h, h)) (cases_lt len size)

pub drop_rest-dropped-requires-clause-turner : goal.drop_rest-dropped-requires-clause-turner
drop_rest-dropped-requires-clause-turner g c _ _ =
    let b = c.args.band in let v = view c.args.cpu.now in let w : Work = work_at b v in let z : List ℕ = zeroed_to c.args.ends.tail (c.args.ends.head - c.args.ends.tail) w.slots in let t = c.requires.turner.0 in
    let r : Work = with_slots (rotated c.args.ends.head c.args.resize.size z) w in
    let e = c.count_filled-kept.ensures.stands.1 ∙ chain b (λ (x : Work). with_slots (rotated c.args.ends.head c.args.resize.size x.slots) x) (with_slots z w) v _ _ t c.clear_stale.ensures.stands.1 c.rotate.ensures.stands.1 in
    (turner_chain b r v _ t e, ap event_of_work e ∙ (event_after b r v t ∙ c.requires.turner.1))

pub drop_rest-dropped-requires-clause-rest : goal.drop_rest-dropped-requires-clause-rest
drop_rest-dropped-requires-clause-rest g c _ _ =
    let b = c.args.band in let v = view c.args.cpu.now in let w : Work = work_at b v in let z : List ℕ = zeroed_to c.args.ends.tail (c.args.ends.head - c.args.ends.tail) w.slots in let t = c.requires.turner.0 in let held = c.requires.whole.0 in let h = c.requires.whole.1 in
    let r : Work = with_slots (rotated c.args.ends.head c.args.resize.size z) w in let m = c.lesser-limit.result in
    let e = c.count_filled-kept.ensures.stands.1 ∙ chain b (λ (x : Work). with_slots (rotated c.args.ends.head c.args.resize.size x.slots) x) (with_slots z w) v _ _ t c.clear_stale.ensures.stands.1 c.rotate.ensures.stands.1 in
    let here = at_chain b r v _ t e in (
      ap (λ (x : Work). x.hand) here ∙ h.bare,
      λ n l. ap (λ (x : Work). get_or x.slots (m + n) 0) here ∙ (dropped_in _ _ w.slots held c.args.ends.tail c.args.ends.head c.args.resize.len h.unturned m (less_of m c.args.resize.len c.args.resize.size c.lesser-limit.ensures.less.0 c.lesser-limit.ensures.less.1) n l
          ∙ (ap (λ (ls : List ℕ). word_at ls n) (sym h.waiting_is) ∙ ap (λ (x : Work). word_at x.waiting n) (sym here))),
    )

pub drop_rest-dropped-requires-clause-packets : goal.drop_rest-dropped-requires-clause-packets
drop_rest-dropped-requires-clause-packets g c _ _ =
    λ n l.
    let b = c.args.band in let v = view c.args.cpu.now in let w : Work = work_at b v in let z : List ℕ = zeroed_to c.args.ends.tail (c.args.ends.head - c.args.ends.tail) w.slots in let t = c.requires.turner.0 in
    let r : Work = with_slots (rotated c.args.ends.head c.args.resize.size z) w in
    let e = c.count_filled-kept.ensures.stands.1 ∙ chain b (λ (x : Work). with_slots (rotated c.args.ends.head c.args.resize.size x.slots) x) (with_slots z w) v _ _ t c.clear_stale.ensures.stands.1 c.rotate.ensures.stands.1 in
    c.requires.packets n (subst (λ (ls : List ℕ). Contains ls n) (ap (λ (x : Work). x.waiting) (at_chain b r v _ t e)) l)

-- all of the dropped packets were settled
none_waits : (limit size tail head len m : ℕ) (held : List ℕ) (w : Work) → IsWorkBegun limit size tail head len held w → ((m ≡ len) × (len < size)) ⊎ ((m ≡ size) × (size ≤ len)) → drop (size - m) w.waiting ≡ []
none_waits limit size tail head len m held w h less = ap (drop (size - m)) h.waiting_is ∙ none_left size limit w.slots held tail head len h.unturned m less

pub returns : goal.returns
returns g c = record {
  makes = let b = c.args.band in turns_then b (turns_then b (turns_then b c.clear_stale.ensures.makes c.rotate.ensures.makes) c.count_filled-kept.ensures.makes) c.drop_rest-dropped.ensures.makes;
  stands =
      let b = c.args.band in let v = view c.args.cpu.now in let w : Work = work_at b v in let z : List ℕ = zeroed_to c.args.ends.tail (c.args.ends.head - c.args.ends.tail) w.slots in let t = c.requires.turner.0 in let held = c.requires.whole.0 in let h = c.requires.whole.1 in
      let r : Work = with_slots (rotated c.args.ends.head c.args.resize.size z) w in let m = c.lesser-limit.result in let size = c.args.resize.size in
      let e = c.count_filled-kept.ensures.stands.1 ∙ chain b (λ (x : Work). with_slots (rotated c.args.ends.head c.args.resize.size x.slots) x) (with_slots z w) v _ _ t c.clear_stale.ensures.stands.1 c.rotate.ensures.stands.1 in
      let v3 = view c.count_filled-kept.new.cpu in
      let e4 = chain b (dropped_to m (size - m)) r v v3 (working b (dropped_to m (size - m) (work_at b v3)) v3) t e refl in
      let less = less_of m c.args.resize.len c.args.resize.size c.lesser-limit.ensures.less.0 c.lesser-limit.ensures.less.1 in
      let full = refilled _ _ w.slots held c.args.ends.tail c.args.ends.head c.args.resize.len h.unturned m less c.requires.place.1 in
      let none_ = none_waits _ _ _ _ _ m held w h less in
      let all : take (size - m) w.waiting ≡ w.waiting = sym (drop_none-take (size - m) w.waiting none_) in
      let waits : (work_at b v3).waiting ≡ w.waiting = ap (λ (x : Work). x.waiting) (at_chain b r v v3 t e) in
      let stored : shrunk_to c.args.resize.event (size - m) (work_at b v3).waiting v3.settled ≡ fates_onto (fate.Shrunk c.args.resize.event) w.waiting v.settled =
      (λ j. shrunk_to c.args.resize.event (size - m) (waits j) ((ap (λ (x : View). x.settled) e) j)) ∙ ap (λ (ls : List ℕ). fates_onto (fate.Shrunk c.args.resize.event) ls v.settled) all in (
        dropped_to m (size - m) r,
        (search rules, c.drop_rest-dropped.ensures.stands.1 ∙ (λ j. having_settled (stored j) (e4 j))),
        record {
          kept_is = refl;
          waiting_is = none_;
          bare = h.bare;
          refilled = subst (λ (ls : List ℕ). IsRefilled (zeroed_to m (size - m) r.slots) ls c.args.resize.len) (sym h.kept_is) full;
        },
      );
  few = search rules;
  kept =
      let b = c.args.band in let v = view c.args.cpu.now in let w : Work = work_at b v in let z : List ℕ = zeroed_to c.args.ends.tail (c.args.ends.head - c.args.ends.tail) w.slots in let t = c.requires.turner.0 in let held = c.requires.whole.0 in let h = c.requires.whole.1 in
      let r : Work = with_slots (rotated c.args.ends.head c.args.resize.size z) w in let m = c.lesser-limit.result in let size = c.args.resize.size in
      let less = less_of m c.args.resize.len c.args.resize.size c.lesser-limit.ensures.less.0 c.lesser-limit.ensures.less.1 in
      let e = chain b (λ (x : Work). with_slots (rotated c.args.ends.head c.args.resize.size x.slots) x) (with_slots z w) v _ _ t c.clear_stale.ensures.stands.1 c.rotate.ensures.stands.1 in
      let here = at_chain b r v _ t e in let f = c.count_filled-kept.ensures.filled in
      let waits : (work_at b (view c.count_filled-kept.new.cpu)).waiting ≡ w.waiting = ap (λ (x : View). (work_at b x).waiting) c.count_filled-kept.ensures.stands.1 ∙ ap (λ (x : Work). x.waiting) here in
      let left : length (drop (size - m) (work_at b (view c.count_filled-kept.new.cpu)).waiting) ≡ 0 = ap (λ (ls : List ℕ). length (drop (size - m) ls)) waits ∙ ap length (none_waits _ _ _ _ _ m held w h less) in
      let n = c.drop_rest-dropped.ensures.count in (
        counted _ _ w.slots held c.args.ends.tail c.args.ends.head c.args.resize.len h.unturned m less c.count_filled-kept.result f.0
            (λ j l z0. f.1 j l (ap (λ (x : Work). get_or x.slots j 0) here ∙ z0)) (λ l. ap (λ (x : Work). get_or x.slots c.count_filled-kept.result 0) (sym here) ∙ f.2 l)
            ∙ ap length (sym h.kept_is),
        (let q : c.drop_rest-dropped.result ≡ length (work_at b (view c.count_filled-kept.new.cpu)).waiting = omega arith in q) ∙ ap length waits,
      );
}
