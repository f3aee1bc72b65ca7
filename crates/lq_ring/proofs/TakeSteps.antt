-- The steps of a take one after another.
use Rattle.std.proofs.Common.{◌≡◌, ℕ, zero, suc, ◌+◌, ◌-◌, ◌<◌, ◌≤◌, Bool, true, false, refl, sym, ap, ◌∙◌, subst, List, [], ◌∷◌, Option, Some, ⊎_elim, arith}
use Rattle.std.specs.Prelude.{if◌then◌else◌, slice_index, slice_set}
use Rattle.std.proofs.lemmas.Bool.{cases_Bool}
use Rattle.lq_device.specs.Station.{StationState, with_ends}
use Rattle.lq_model.specs.Account.{Take}
use Rattle.lq_model.specs.Machine.{Qdisc, band_at}
use Rattle.lq_model.specs.Steps.{step_at, scan, after_band}
use Rattle.lq_model.specs.declared.machine.Answer.TheVariants.{Plain}
use Rattle.lq_model.specs.declared.machine.Packet.{Packet}
use Rattle.lq_model.specs.declared.machine.Position.{Position}
use Rattle.lq_model.specs.declared.machine.Position.TheVariants.{Scan, Gate}
use Rattle.lq_model.specs.declared.machine.Seat.{Seat}
use Rattle.lq_band_laws.specs.Three.{Three, at, put}
use Rattle.lq_band_laws.specs.Ring.{sized_if, Lock, Ends, is_emptying, taken_on, emptied_on, emptied_down, all_empty, after_take, IsAtRest}
use Rattle.lq_band_laws.proofs.Three.{at_put_same, put_at}
use Rattle.lq_band_laws.proofs.Kept.{rest_after, down_more, down_here, down_all}
use Rattle.lq_table.specs.Views.{View, HolderPart, machine_packet}
use Rattle.lq_table.specs.Rule.{IsResting, shown}
use Rattle.lq_table.specs.Consumers.{seen_band, zero_slot_view, head_slot_view, head_slot_view_empty}
use Rattle.lq_table.specs.Producers.{load_size_view}
use Rattle.lq_table.specs.Sees.{solo, heard}
use Rattle.lq_ring.specs.Put.{no_locks}
use Rattle.lq_ring.specs.Take.{having_ends, emptied_times, emptied_count, consuming}
use Rattle.lq_ring.proofs.PutSteps.{put_put}

pub emptying_having : (b : ℕ) (e d : Ends) (v : View) → zero_slot_view b (having_ends b e d v) ≡ having_ends b (emptied_on v.holder.size e) (emptied_on v.holder.size d) v
emptying_having b e d v =
    let size = v.holder.size in
    let step : (x : Ends) (t : Three Ends) → put b (emptied_on size (at b (put b x t))) (put b x t) ≡ put b (emptied_on size x) t = λ x t. ap (λ (y : Ends). put b (emptied_on size y) (put b x t)) (at_put_same b x t) ∙ put_put b (emptied_on size x) x t in
    λ j. record v { holder = record v.holder { ends = step e v.holder.ends j }; whole = record v.whole { state = record v.whole.state { ends = step d v.whole.state.ends j } } }

pub having_same : (b : ℕ) (v : View) → having_ends b (at b v.holder.ends) (at b v.whole.state.ends) v ≡ v
having_same b v = λ j. record v { holder = record v.holder { ends = put_at b v.holder.ends j }; whole = record v.whole { state = record v.whole.state { ends = put_at b v.whole.state.ends j } } }

-- what the station shows
pub heads_at : (b : ℕ) (h : HolderPart) → b < 3 → slice_index (shown h).heads b ≡ (at b h.ends).head
heads_at zero h below = refl
heads_at (suc zero) h below = refl
heads_at (suc (suc zero)) h below = refl
heads_at (suc (suc (suc b))) h below = absurd (omega arith)

pub tails_at : (b : ℕ) (h : HolderPart) → b < 3 → slice_index (shown h).tails b ≡ (at b h.ends).tail
tails_at zero h below = refl
tails_at (suc zero) h below = refl
tails_at (suc (suc zero)) h below = refl
tails_at (suc (suc (suc b))) h below = absurd (omega arith)

pub shown_put : (b : ℕ) (c : Ends) (h : HolderPart) → b < 3 → shown (record h { ends = put b c h.ends }) ≡ with_ends (shown h) b c.head c.tail
shown_put zero c h below = refl
shown_put (suc zero) c h below = refl
shown_put (suc (suc zero)) c h below = refl
shown_put (suc (suc (suc b))) c h below = absurd (omega arith)

pub rest_at : (size b : ℕ) (e : Three Ends) → IsResting size e → IsAtRest size (at b e)
rest_at size zero e r = r.0
rest_at size (suc zero) e r = r.1
rest_at size (suc (suc b)) e r = r.2

pub rest_put : (size b : ℕ) (c : Ends) (e : Three Ends) → IsResting size e → IsAtRest size c → IsResting size (put b c e)
rest_put size zero c e r h = (h, r.1, r.2)
rest_put size (suc zero) c e r h = (r.0, h, r.2)
rest_put size (suc (suc b)) c e r h = (r.0, r.1, h)

-- a seat with no producer lock learns nothing of the size that it loads
pub sized_none : (z : ℕ) (v : View) → v.locks ≡ no_locks → load_size_view z v ≡ v
sized_none z v e =
    ap (λ (ls : Three Lock). record v { locks = record { low = sized_if z ls.low; mid = sized_if z ls.mid; high = sized_if z ls.high } }) e ∙ (λ j. record v { locks = sym e j })

-- the ends after a take with all the emptying that it asks
abbrev pub ends_left : ℕ → Ends → Ends
ends_left size c = if is_emptying size c then all_empty size c else c

-- the emptying that a take asks, where the packet was taken as t says
pub takes_end : (b z size : ℕ) (c d : Ends) (t v2 v3 : View) → z ≡ size → v2 ≡ t → at b t.holder.ends ≡ taken_on c → at b t.whole.state.ends ≡ taken_on d
    → v3 ≡ having_ends b (ends_left z (taken_on c)) (emptied_times z (emptied_count z (taken_on c)) (at b v2.whole.state.ends)) v2
    → v3 ≡ having_ends b (after_take size c) (emptied_times size (emptied_count size (taken_on c)) (taken_on d)) t
takes_end b z size c d t v2 v3 same took own known is =
    let d_is : at b v2.whole.state.ends ≡ taken_on d = ap (λ (x : View). at b x.whole.state.ends) took ∙ known in
    is ∙ (λ j. having_ends b (ends_left (same j) (taken_on c)) (emptied_times (same j) (emptied_count (same j) (taken_on c)) (d_is j)) (took j))

-- the ends just after the packet at the head was taken, where the band rested before
pub taken_batch : (size z : ℕ) (own c : Ends) → c ≡ taken_on own → IsAtRest size own → z ≡ size → (c.edge ≡ c.head) × (c.tail < c.head) × (c.head ≤ z)
taken_batch size z own c e rest same = let first = rest.0 in let within = rest.1 in subst (λ (x : Ends). (x.edge ≡ x.head) × (x.tail < x.head) × (x.head ≤ z)) (sym e) (refl, omega arith, omega arith)

-- it leaves all three at rest, and the station as the holder knows it
pub ends_after : (b n : ℕ) (v w : View) → w ≡ consuming b n v → w.holder.ends ≡ put b (after_take v.holder.size (at b v.holder.ends)) v.holder.ends
ends_after b n v w is = ap (λ (x : View). x.holder.ends) is ∙ put_put b _ _ v.holder.ends

pub rests_after : (b n : ℕ) (v w : View) → IsResting v.holder.size v.holder.ends → w ≡ consuming b n v → IsResting w.holder.size w.holder.ends
rests_after b n v w rest is =
    subst (λ (x : ℕ × Three Ends). IsResting x.0 x.1) (λ j. (sym (ap (λ (x : View). x.holder.size) is) j, sym (ends_after b n v w is) j))
    (rest_put v.holder.size b _ v.holder.ends rest (rest_after v.holder.size (at b v.holder.ends) (rest_at v.holder.size b v.holder.ends rest)))

pub station_after : (b n : ℕ) (v w : View) (st : Option StationState) → b < 3 → w ≡ consuming b n v
    → (let c = after_take v.holder.size (at b v.holder.ends) in st ≡ Some (with_ends (shown v.holder) b c.head c.tail)) → st ≡ Some (shown w.holder)
station_after b n v w st below is e =
    let c : Ends = after_take v.holder.size (at b v.holder.ends) in
    e ∙ ap (λ (x : StationState). Some x) (sym (shown_put b c v.holder below)
    ∙ ((λ j. shown (record v.holder { ends = sym (put_put b c (taken_on (at b v.holder.ends)) v.holder.ends) j })) ∙ (λ j. shown (sym is j).holder)))

-- where the step leads, and what it leaves of the words and of the raised mark
one_band : (b : ℕ) (ps : List Packet) → b < 3 → band_at (seen_band b ps) b ≡ ps
one_band zero ps below = refl
one_band (suc zero) ps below = refl
one_band (suc (suc zero)) ps below = refl
one_band (suc (suc (suc b))) ps below = absurd (omega arith)

words_scan : (ps : List Packet) (b : ℕ) (second : Bool) (q : Qdisc) (s : Seat) → (bands : List (List Packet)) × ((scan ps b second q s).qdisc ≡ record q { bands = bands })
words_scan [] b second q s = (q.bands, refl)
words_scan (p ∷ ps) b second q s = (slice_set q.bands b ps, refl)

raised_scan : (ps : List Packet) (b : ℕ) (second : Bool) (q : Qdisc) (s : Seat) → (scan ps b second q s).seat.raised ≡ s.raised
raised_scan [] b second q s = refl
raised_scan (p ∷ ps) b second q s = refl

module _ (b : ℕ) (second : Bool) (v : View) (here : v.place.position ≡ Scan b second) where
  pub none_leads : b < 3 → (head_slot_view_empty b v).place.position ≡ after_band b second
  none_leads below =
      ap (λ (y : Position). (step_at y Plain (seen_band b []) v.place).seat.position) here ∙ ap (λ (ps : List Packet). (scan ps b second (seen_band b []) v.place).seat.position) (one_band b [] below)

  pub take_leads : (n : ℕ) → b < 3 → (head_slot_view b n v).place.position ≡ Gate (machine_packet v.share.about.infos n) false
  take_leads n below =
      let ps = machine_packet v.share.about.infos n ∷ [] in
      ap (λ (y : Position). (step_at y Plain (seen_band b ps) v.place).seat.position) here ∙ ap (λ (qs : List Packet). (scan qs b second (seen_band b ps) v.place).seat.position) (one_band b ps below)

  words : (bands : List (List Packet)) × ((step_at v.place.position Plain v.whole.qdisc v.place).qdisc ≡ record v.whole.qdisc { bands = bands })
  words = let w = words_scan (band_at v.whole.qdisc b) b second v.whole.qdisc v.place in (w.0, ap (λ (y : Position). (step_at y Plain v.whole.qdisc v.place).qdisc) here ∙ w.1)

  raised : (seen : Qdisc) → (step_at v.place.position Plain seen v.place).seat.raised ≡ v.place.raised
  raised seen = ap (λ (y : Position). (step_at y Plain seen v.place).seat.raised) here ∙ raised_scan (band_at seen b) b second seen v.place

  pub none_heard : solo (head_slot_view_empty b v) ≡ solo v
  none_heard = let a = raised (seen_band b []) in let w = words.1 in let h = solo v in
      λ j. record h { raised = a j; whole = record h.whole { missed = (w j).missed; draining = (w j).draining; scheduled = (w j).sched; locked = (w j).locked } }

  pub take_heard : (n : ℕ) → solo (consuming b n v) ≡ heard (Take b) (solo v)
  take_heard n = let a = raised (seen_band b (machine_packet v.share.about.infos n ∷ [])) in let w = words.1 in let h = heard (Take b) (solo v) in
      λ j. record h { raised = a j; whole = record h.whole { missed = (w j).missed; draining = (w j).draining; scheduled = (w j).sched; locked = (w j).locked } }

-- a batch is emptied slot by slot
times_down : (size : ℕ) (c : Ends) (n : ℕ) → c.edge ≡ c.head → c.tail < c.head → c.tail + n ≤ c.head → emptied_times size n c ≡ emptied_down size c n
times_down size c zero e h h' = let x : c.edge ≡ c.head - 0 = omega arith in
    (λ j. record { head = c.head; tail = c.tail; edge = x j }) ∙ sym (down_here size c 0 (omega arith))
times_down size c (suc n) e h h' = let x : n + 1 ≡ suc n = omega arith in
    ap (emptied_on size) (times_down size c n e h (omega arith)) ∙ (down_more size c n (omega arith) ∙ ap (emptied_down size c) x)

pub times_all : (size : ℕ) (c : Ends) → c.edge ≡ c.head → c.tail < c.head → emptied_times size (emptied_count size c) c ≡ (if is_emptying size c then all_empty size c else c)
times_all size c e h = ⊎_elim
    (λ (busy : is_emptying size c ≡ true). (λ j. emptied_times size (if busy j then c.head - c.tail else 0) c)
    ∙ (times_down size c (c.head - c.tail) e h (omega arith) ∙ (down_all size c (c.head - c.tail) (omega arith) ∙ sym (λ j. if busy j then all_empty size c else c))))
    (λ (idle : is_emptying size c ≡ false). (λ j. emptied_times size (if idle j then c.head - c.tail else 0) c) ∙ sym (λ j. if idle j then all_empty size c else c))
    (cases_Bool (is_emptying size c))

-- where the state beside the machine has the holder's ends, it has them still
pub known_after : (b n : ℕ) (v w : View) → IsAtRest v.holder.size (at b v.holder.ends) → w ≡ consuming b n v → v.whole.state.ends ≡ v.holder.ends → w.whole.state.ends ≡ w.holder.ends
known_after b n v w rest is same =
    let size = v.holder.size in let c : Ends = at b v.holder.ends in let few = rest.0 in
    ap (λ (x : View). x.whole.state.ends) is
    ∙ ((λ j. put b (emptied_times size (emptied_count size (taken_on c)) (taken_on (at b (same j)))) (put b (taken_on (at b (same j))) (same j)))
    ∙ (ap (λ (x : Ends). put b x (put b (taken_on c) v.holder.ends)) (times_all size (taken_on c) refl (omega arith)) ∙ sym (ap (λ (x : View). x.holder.ends) is)))
