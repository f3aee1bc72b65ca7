-- The three bands of a resize, one after another.
use Rattle.std.proofs.Common.{◌≡◌, ◌≢◌, ◌<◌, ℕ, true, List, [], ◌∷◌, ◌++◌, take, drop, length, refl, sym, ap, ◌∙◌, subst, arith, Option, Some, option_map, Contains}
use Rattle.std.specs.Prelude.{slice_index}
use Rattle.std.specs.Option.{unwrap_or}
use Rattle.lq_model.specs.Positions.{holds_lock}
use Rattle.lq_model.specs.Plan.{band_in}
use Rattle.lq_model.specs.declared.fate.Fate.{Fate}
use Rattle.lq_model.specs.declared.fate.Fate.TheVariants as fate
use Rattle.lq_model.specs.declared.fate.Info.{Info}
use Rattle.lq_device.specs.Station.{StationState}
use Rattle.lq_band_laws.specs.Three.{Three, at}
use Rattle.lq_band_laws.specs.Ring.{Ends, Lock, locked_at}
use Rattle.lq_band_laws.specs.HalfResized.{IsBeforeResize, IsRefilled}
use Rattle.lq_band_laws.proofs.Three.{at_put_other, three_cases}
use Rattle.lq_table.specs.Views.{Setup, View, HalfResize, Work, no_resizing}
use Rattle.lq_table.specs.Sees.{view, IsSeatOf}
use Rattle.lq_table.specs.Step.{BeginResize, MakesSteps}
use Rattle.lq_table.specs.declared.shared.Cpu.{Cpu}
use Rattle.lq_table.specs.declared.shared.Shared.{Shared}
use Rattle.lq_table.specs.Resizes.{BeginsResize, resizing_of, begin_resize_view, with_work, store_size_view}
use Rattle.lq_table.specs.Producers.{with_lock_at}
use Rattle.lq_table.specs.Rule.{shown}
use Rattle.lq_ring.specs.Fates.{fates_onto}
use Rattle.lq_ring.specs.Work.{work_at, working, event_of_work, ArePacketsOf, IsTurner, IsWorkBegun, IsWorkDone}
use Rattle.lq_ring.specs.Resized.{all_lost, having_resized, locked_three}
use Rattle.lq_ring.proofs.FatesOnto.{fates_append}
use Rattle.lq_ring.proofs.Works.{turner_after, event_after, event_of, work_of, having_settled}

pub turn_step : (b : ℕ) (w : Work) (l : Lock) (fates : List (ℕ × Fate)) (v v' : View) (t : HalfResize) → v.holder.resizing ≡ Some t → v' ≡ with_lock_at b l (having_settled fates (working b w v)) → v'.holder.resizing ≡ Some (with_work b w t)
turn_step b w l fates v v' t e e' = ap (λ (x : View). x.holder.resizing) e' ∙ ap (option_map (with_work b w)) e

whole_of : (limit size size' len : ℕ) (held slots : List ℕ) (c : Ends) (head tail : ℕ) (w : Work) → size' ≡ size → head ≡ c.head → tail ≡ c.tail → IsBeforeResize size' limit slots held c
    → w ≡ record { kept = take len held; waiting = drop len held; slots = slots; hand = [] } → IsWorkBegun limit size tail head len held w
whole_of limit size size' len held slots c head tail w same head_is tail_is u is = record {
  kept_is = ap (λ (x : Work). x.kept) is;
  waiting_is = ap (λ (x : Work). x.waiting) is;
  bare = ap (λ (x : Work). x.hand) is;
  unturned = subst (λ (z : ℕ × List ℕ × Ends). IsBeforeResize z.0 limit z.1 held z.2) (λ j. (same j, ap (λ (x : Work). x.slots) (sym is) j, record { head = sym head_is j; tail = sym tail_is j; edge = (u.rests.2 ∙ sym head_is) j })) u;
}

pub refilled_of : (limit len : ℕ) (before after : Work) → IsWorkDone limit len before after → IsRefilled after.slots after.kept len
refilled_of limit len before after d = subst (λ (ls : List ℕ). IsRefilled after.slots ls len) (sym d.kept_is) d.refilled

-- another band's work
work_else : (b c : ℕ) (w : Work) (v : View) → IsTurner v → b < 3 → c < 3 → c ≢ b → work_at c (working b w v) ≡ work_at c v
work_else b c w v t below below' other =
    ap (λ (o : Option HalfResize). at c (unwrap_or (option_map (with_work b w) o) no_resizing).works) t.1.1 ∙ (at_put_other b c w t.1.0.works below below' other ∙ sym (work_of c v t.1.0 t.1.1))

-- THE BEGINNING

-- The band b in a resize half done, whose work has not begun, where the station has its ends.
pub record IsReadyToResize (limit : ℕ) (infos : List Info) (st : StationState) (size len event b : ℕ) (v : View) : Type 0 where
  pub turner : IsTurner v
  pub event_is : event_of_work v ≡ event
  pub lock : (at b v.locks).holds ≡ true
  pub held : List ℕ
  pub whole : IsWorkBegun limit size (slice_index st.tails b) (slice_index st.heads b) len held (work_at b v)
  pub packets : ArePacketsOf infos b held

module _ {D : Type 0} where
  -- what a resize finds as it begins
  abbrev pub begun_from : (t : Shared D) (b a : Cpu D) (len event : ℕ) (held : ℕ → List ℕ) (slots : Three (List ℕ)) (found : ℕ) → IsSeatOf t b → MakesSteps (BeginResize len event held slots found ∷ []) b a
      → BeginsResize t.infos.now t.max_len len event (view b) (view a)
  begun_from t b a len event held slots found seat m =
      let v = view b in let told = m.told.0 in (
        held,
        slots,
        m.knows,
        subst (λ (k : Setup). (x : ℕ) → x < 3 → IsBeforeResize v.holder.size k.max_len (at x slots) (held x) (at x v.holder.ends)) seat.2 told.0,
        subst (λ (k : Setup). (x n : ℕ) → x < 3 → Contains (held x) n → (band_in k.infos n ≡ x) × (n < length k.infos)) seat.2 told.1,
        told.2,
        told.3,
      )

module _ (limit size len event : ℕ) (infos : List Info) (held : ℕ → List ℕ) (slots : Three (List ℕ)) (v v1 : View) (begun : v1 ≡ begin_resize_view (resizing_of len event held slots) v) where
  abbrev t0 : HalfResize
  t0 = resizing_of len event held slots

  turn0 : v1.holder.resizing ≡ Some t0
  turn0 = ap (λ (x : View). x.holder.resizing) begun

  module _ (holds : holds_lock v.place.position ≡ true) (locks : (b : ℕ) → b < 3 → (at b v.locks).holds ≡ true) (size_is : v.holder.size ≡ size)
      (unturned : (b : ℕ) → b < 3 → IsBeforeResize v.holder.size limit (at b slots) (held b) (at b v.holder.ends)) (packets : (b n : ℕ) → b < 3 → Contains (held b) n → (band_in infos n ≡ b) × (n < length infos)) where
    ready_at : (b : ℕ) → b < 3 → at b t0.works ≡ record { kept = take len (held b); waiting = drop len (held b); slots = at b slots; hand = [] } → slice_index (shown v.holder).heads b ≡ (at b v.holder.ends).head
        → slice_index (shown v.holder).tails b ≡ (at b v.holder.ends).tail → IsReadyToResize limit infos (shown v.holder) size len event b v1
    ready_at b h works heads tails = record {
      turner = (ap (λ (x : View). holds_lock x.place.position) begun ∙ holds, (t0, turn0, ap (λ (x : View). x.whole.state.resizing) begun));
      event_is = event_of v1 t0 turn0;
      lock = ap (λ (x : View). (at b x.locks).holds) begun ∙ locks b h;
      held = held b;
      whole = whole_of limit size v.holder.size len (held b) (at b slots) (at b v.holder.ends) _ _ (work_at b v1) size_is heads tails (unturned b h) (work_of b v1 t0 turn0 ∙ works);
      packets = λ n l. packets b n h l;
    }

    pub all_ready : (b : ℕ) → b < 3 → IsReadyToResize limit infos (shown v.holder) size len event b v1
    all_ready = three_cases (λ b. IsReadyToResize limit infos (shown v.holder) size len event b v1) (ready_at 0 (omega arith) refl refl refl) (ready_at 1 (omega arith) refl refl refl) (ready_at 2 (omega arith) refl refl refl)

-- a band stays as it was while another is turned
pub ready_step : (limit size len event : ℕ) (infos : List Info) (st : StationState) (b c : ℕ) (w : Work) (l : Lock) (fates : List (ℕ × Fate)) (v v' : View) → b < 3 → c < 3 → c ≢ b → v' ≡ with_lock_at b l (having_settled fates (working b w v))
    → IsReadyToResize limit infos st size len event c v → IsReadyToResize limit infos st size len event c v'
ready_step limit size len event infos st b c w l fates v v' below below' other e r = record {
  turner = subst IsTurner (sym e) (turner_after b w v r.turner);
  event_is = ap event_of_work e ∙ (event_after b w v r.turner ∙ r.event_is);
  lock = ap (λ (x : View). (at c x.locks).holds) e ∙ (ap (λ (x : Lock). x.holds) (at_put_other b c l v.locks below below' other) ∙ r.lock);
  held = r.held;
  whole = subst (λ (x : Work). IsWorkBegun limit size (slice_index st.tails c) (slice_index st.heads c) len r.held x) (sym (ap (work_at c) e ∙ work_else b c w v r.turner below below' other)) r.whole;
  packets = r.packets;
}

-- THE END

module _ (len event : ℕ) (held : ℕ → List ℕ) (slots : Three (List ℕ)) (v v1 v2 v3 v4 : View) (w0 w1 w2 : Work) (i0 i1 i2 : ℕ) (begun : v1 ≡ begin_resize_view (resizing_of len event held slots) v)
    (e2 : v2 ≡ with_lock_at 0 (locked_at i0) (having_settled (fates_onto (fate.Shrunk event) (work_at 0 v1).waiting v1.settled) (working 0 w0 v1)))
    (e3 : v3 ≡ with_lock_at 1 (locked_at i1) (having_settled (fates_onto (fate.Shrunk event) (work_at 1 v2).waiting v2.settled) (working 1 w1 v2)))
    (e4 : v4 ≡ with_lock_at 2 (locked_at i2) (having_settled (fates_onto (fate.Shrunk event) (work_at 2 v3).waiting v3.settled) (working 2 w2 v3))) where
  abbrev first : HalfResize
  first = resizing_of len event held slots

  pub turns1 : v1.holder.resizing ≡ Some first
  turns1 = ap (λ (x : View). x.holder.resizing) begun

  pub turns2 : v2.holder.resizing ≡ Some (with_work 0 w0 first)
  turns2 = turn_step 0 w0 _ _ v1 v2 first turns1 e2

  pub turns3 : v3.holder.resizing ≡ Some (with_work 1 w1 (with_work 0 w0 first))
  turns3 = turn_step 1 w1 _ _ v2 v3 (with_work 0 w0 first) turns2 e3

  pub turns4 : v4.holder.resizing ≡ Some (with_work 2 w2 (with_work 1 w1 (with_work 0 w0 first)))
  turns4 = turn_step 2 w2 _ _ v3 v4 (with_work 1 w1 (with_work 0 w0 first)) turns3 e4

  pub waits0 : (work_at 0 v1).waiting ≡ drop len (held 0)
  waits0 = ap (λ (w : Work). w.waiting) (work_of 0 v1 first turns1)

  pub waits1 : (work_at 1 v2).waiting ≡ drop len (held 1)
  waits1 = ap (λ (w : Work). w.waiting) (work_of 1 v2 (with_work 0 w0 first) turns2)

  pub waits2 : (work_at 2 v3).waiting ≡ drop len (held 2)
  waits2 = ap (λ (w : Work). w.waiting) (work_of 2 v3 (with_work 1 w1 (with_work 0 w0 first)) turns3)

  abbrev fates1 : List (ℕ × Fate)
  fates1 = fates_onto (fate.Shrunk event) (work_at 0 v1).waiting v1.settled

  abbrev fates2 : List (ℕ × Fate)
  fates2 = fates_onto (fate.Shrunk event) (work_at 1 v2).waiting v2.settled

  abbrev fates3 : List (ℕ × Fate)
  fates3 = fates_onto (fate.Shrunk event) (work_at 2 v3).waiting v3.settled

  fates_are : fates3 ≡ fates_onto (fate.Shrunk event) (all_lost len held) v.settled
  fates_are =
      let one : fates1 ≡ fates_onto (fate.Shrunk event) (drop len (held 0)) v.settled = λ j. fates_onto (fate.Shrunk event) (waits0 j) ((ap (λ (x : View). x.settled) begun) j) in
      let two : fates2 ≡ fates_onto (fate.Shrunk event) (drop len (held 1)) (fates_onto (fate.Shrunk event) (drop len (held 0)) v.settled) = λ j. fates_onto (fate.Shrunk event) (waits1 j) ((ap (λ (x : View). x.settled) e2 ∙ one) j) in
      (λ j. fates_onto (fate.Shrunk event) (waits2 j) ((ap (λ (x : View). x.settled) e3 ∙ two) j))
      ∙ (fates_append (fate.Shrunk event) (drop len (held 1)) (drop len (held 2)) (fates_onto (fate.Shrunk event) (drop len (held 0)) v.settled) ∙ fates_append (fate.Shrunk event) (drop len (held 0)) (drop len (held 1) ++ drop len (held 2)) v.settled)

  -- all steps from the begin_resize_view to the store of the new length
  pub resize_is : (t : HalfResize) (v5 : View) → t.len ≡ len → v5 ≡ store_size_view t v4 → v5 ≡ record (having_resized len event (all_lost len held) v) { locks = locked_three i0 i1 i2 }
  resize_is t v5 len_is e5 =
      let at3 = λ (x : View). store_size_view t (with_lock_at 2 (locked_at i2) (having_settled fates3 (working 2 w2 x))) in
      let at2 = λ (x : View). at3 (with_lock_at 1 (locked_at i1) (having_settled fates2 (working 1 w1 x))) in
      let at1 = λ (x : View). at2 (with_lock_at 0 (locked_at i0) (having_settled fates1 (working 0 w0 x))) in
      e5 ∙ (ap (store_size_view t) e4 ∙ (ap at3 e3 ∙ (ap at2 e2 ∙ (ap at1 begun
      ∙ (λ j. record (record (having_resized len event (all_lost len held) v) { locks = locked_three i0 i1 i2 }) { settled = fates_are j; holder = record (having_resized len event (all_lost len held) v).holder { size = len_is j } })))))
