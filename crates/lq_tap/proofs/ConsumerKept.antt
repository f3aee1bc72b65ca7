-- The reader's steps keep the rule: the consumer lock, takes, and the emptying of slots.
use Rattle.std.proofs.Common.{◌≡◌, ◌⊎◌, inl, inr, ℕ, zero, suc, ◌+◌, ◌-◌, ◌%◌, ◌<◌, ◌≤◌, Bool, true, false, true≢false, eqb, List, [], ◌∷◌, ◌++◌, set, take, drop, refl, sym, ap, ◌∙◌, subst, ⊎_elim, arith, length, get_or, Some, eq-eqb, ne_eqb, length-append}
use Rattle.std.specs.Prelude.{if◌then◌else◌, ◌==◌, ◌&&◌}
use Rattle.std.specs.List.{slice_get}
use Rattle.std.proofs.lemmas.Bool.Decides.{nat_tests}
use Rattle.std.proofs.lemmas.List.{append-nil, append_assoc}
use mathlib.Core.Logic.{dite}
use mathlib.Core.Option.{some, none}
use mathlib.Core.Option as maybe
use native.Mathlib.Decide.{ℕ_discrete}
use lib.ListN.{get_elem?}
use prog.Atomic.{either}
use Rattle.atomic_table.specs.Table as table
use Rattle.atomic_table.specs.Table.{Step, step, Allows, keeps, takes, gives, stepped}
use Rattle.lq_model.specs.Band.{batch}
use Rattle.lq_band_laws.specs.Seats.{total, Each}
use Rattle.lq_band_laws.specs.Times.{times}
use Rattle.lq_band_laws.specs.Ring.{Ends, Lock, IsAtRest, is_emptying, taken_on, all_empty, emptied_on, emptied_down, HoldsBand}
use Rattle.lq_band_laws.proofs.Seats.{total_set, total_one, total_le, each_same}
use Rattle.lq_band_laws.proofs.Times.{times_append, times_drop}
use Rattle.lq_band_laws.proofs.HoldsKept.{finds_none_held, takes_held, empties_held}
use Rattle.lq_tap.specs.Views.{View, Setup, ReaderPart}
use Rattle.lq_tap.specs.Made.{slot_word}
use Rattle.lq_tap.proofs.Tells.{Sat}
use Rattle.lq_tap.specs.Told.{batch_kept, taking, finding_none}
use Rattle.lq_tap.proofs.Tells.{consumer_taken, consumer_given, head_slot_seen, emptying}
use Rattle.lq_tap.specs.Rule.{Words, words_of, one_if, reading, IsSeat, ArePuts, KnowsReads, locks_of, band_of, consumer_of, holding, Ordered, Lends, Parts, Rule}
use Rattle.lq_tap.specs.declared.view.Consumer.{Consumer}
use Rattle.lq_tap.specs.declared.view.Purpose.{Purpose}
use Rattle.lq_tap.specs.declared.view.Purpose.TheVariants.{Batch, Return}
use Rattle.lq_tap.proofs.ByName.{set_consumer, set_slot, slot_of}
use Rattle.lq_tap.proofs.Orders.{times_self, no_more}
use Rattle.lq_tap.proofs.Frames.{seats_same, puts_same, reads_step, locks_same, ring_same, lends_held, rule_after, rule_load, rule_same}
use Rattle.lq_log.specs.Made.{becomes}

-- LISTS

drop_first : (t n : ℕ) (xs : List ℕ) → slice_get (drop t xs) 0 ≡ Some n → drop t xs ≡ n ∷ drop (t + 1) xs
drop_first t n [] e = absurd (none_in t e)
  where
    none_in : (t : ℕ) → slice_get (drop {A = ℕ} t []) 0 ≡ Some n → ⊥
    none_in zero e = cc
    none_in (suc t) e = cc
drop_first zero n (x ∷ xs) e = let is : Some x ≡ Some n = e in let same : x ≡ n = cc in ap (λ (z : ℕ). z ∷ xs) same
drop_first (suc t) n (x ∷ xs) e = drop_first t n xs e ∙ ap (λ (z : ℕ). n ∷ drop z (x ∷ xs)) (let q : suc (t + 1) ≡ suc t + 1 = omega arith in q)

take_more : (t n : ℕ) (xs : List ℕ) → slice_get (drop t xs) 0 ≡ Some n → take (t + 1) xs ≡ take t xs ++ n ∷ []
take_more t n [] e = absurd (none_in t e)
  where
    none_in : (t : ℕ) → slice_get (drop {A = ℕ} t []) 0 ≡ Some n → ⊥
    none_in zero e = cc
    none_in (suc t) e = cc
take_more zero n (x ∷ xs) e = let is : Some x ≡ Some n = e in let same : x ≡ n = cc in ap (λ (z : ℕ). z ∷ []) same
take_more (suc t) n (x ∷ xs) e = ap (λ (z : ℕ). take z (x ∷ xs)) (let q : suc t + 1 ≡ suc (t + 1) = omega arith in q) ∙ ap (λ (ys : List ℕ). x ∷ ys) (take_more t n xs e)

pub none_left : (xs : List ℕ) → (length xs == 0) ≡ true → xs ≡ []
none_left [] e = refl
none_left (x ∷ xs) e = absurd (let n : length (x ∷ xs) ≡ 0 = grind (arith, nat_tests) in omega arith)

both_true : (a b : Bool) → (a && b) ≡ true → (a ≡ true) × (b ≡ true)
both_true true b e = (refl, e)
both_true false b e = absurd (true≢false (sym e))

pub resting_room : (size : ℕ) (c : Ends) → is_emptying size c ≡ false → c.head < c.tail + batch size
resting_room size c e = grind (arith, nat_tests)

-- the ends while some slots are still to be emptied
pub still_below : (size : ℕ) (c : Ends) (n : ℕ) → n < c.head - c.tail → emptied_down size c n ≡ record { head = c.head; tail = c.tail; edge = c.head - n }
still_below size c n inside = let more : (c.tail + n == c.head) ≡ false = grind (arith, nat_tests) in ap (λ b. if b then all_empty size c else record { head = c.head; tail = c.tail; edge = c.head - n }) more

-- what a seat knows where it has the lock or not, and its batch goes on or is over
rebatch : (k : Setup) (ended : ℕ) (line : List ℕ) (passed : ℕ) (ends : Ends) (q : ReaderPart) (holds : Bool) (batch : List ℕ) → ((batch ≡ q.batch) ⊎ (batch ≡ [])) → KnowsReads k ended line passed ends q → KnowsReads k ended line passed ends (record q { holds = holds; batch = batch })
rebatch k ended line passed ends q holds batch which h =
    let earlier : (xs : List ℕ) × (take passed line ≡ xs ++ batch) = ⊎_elim (λ (e : batch ≡ q.batch). (h.earlier, h.batch ∙ ap (λ (z : List ℕ). h.earlier ++ z) (sym e))) (λ (e : batch ≡ []). (take passed line, sym (ap (λ (z : List ℕ). take passed line ++ z) e ∙ append-nil (take passed line)))) which in
    let kept : (xs : List ℕ) × (q.taken ≡ xs ++ batch) = ⊎_elim (λ (e : batch ≡ q.batch). (h.kept, h.taken ∙ ap (λ (z : List ℕ). h.kept ++ z) (sym e))) (λ (e : batch ≡ []). (q.taken, sym (ap (λ (z : List ℕ). q.taken ++ z) e ∙ append-nil q.taken))) which in record {
      ends_are = h.ends_are;
      counts = h.counts;
      earlier = earlier.0;
      batch = earlier.1;
      kept = kept.0;
      taken = kept.1;
      in_order = h.in_order;
      lost = h.lost;
      ended_is = h.ended_is;
      drained = λ d. let z = h.drained d in (z.0, z.1, ⊎_elim (λ (e : batch ≡ q.batch). e ∙ z.2) (λ (e : batch ≡ []). e) which);
    }

-- all that the reader took, or destroyed, was put
few_read : (k : Setup) (ended : ℕ) (line full : List ℕ) (views : List View) (passed : ℕ) (ends : Ends) (q : ReaderPart) → ArePuts k line full views → KnowsReads k ended line passed ends q → length q.taken + length q.destroyed ≤ k.packets
few_read k ended line full views passed ends q p h =
    let few = no_more k.packets (q.taken ++ q.destroyed)
    (λ m some_. p.within m (let a = times_append m q.taken q.destroyed in let b = h.counts m in omega arith))
    (λ m. let a = times_append m q.taken q.destroyed in let b = h.counts m in let c = p.one m in omega arith) in
    let both = length-append q.taken q.destroyed in omega arith

kept_or_none : (purpose : Purpose) (holds : Bool) (batch : List ℕ) → (batch_kept purpose holds batch ≡ batch) ⊎ (batch_kept purpose holds batch ≡ [])
kept_or_none Batch true batch = inr refl
kept_or_none Batch false batch = inl refl
kept_or_none Return true batch = inl refl
kept_or_none Return false batch = inr refl

-- THE READER'S OWN STEPS

-- what a step of the reader leaves alone
module _ (k : Setup) (s : table.State Consumer View) (r : Rule k s) (id : ℕ) (v : View) (here : get_elem? s.views id ≡ some v) (reads : v.reader.reads ≡ true) where
  pub seat_of : (q : ReaderPart) (l : Lock) → q.reads ≡ true → IsSeat k v.about v.sender q l
  seat_of q l yes_ = let is = r.parts.seats.known id v here in record {
    reader_about = λ _. is.reader_about reads;
    sender_about = is.sender_about;
    sender = λ e. absurd (true≢false (sym reads ∙ ap (λ (x : ReaderPart). x.reads) (is.sender e)));
    going = is.going;
    nothing = λ no_. absurd (true≢false (sym yes_ ∙ no_));
  }

  pub about_is : v.about ≡ k
  about_is = (r.parts.seats.known id v here).reader_about reads

  abbrev W : Words
  W = words_of s.words

  abbrev stepping : ReaderPart → Lock → View
  stepping q l = record v { reader = q; lock = l }

  -- the parts after a step of the reader
  pub own_parts : (q : ReaderPart) (l : Lock) (x : ℕ) (ys : List ℕ) (home : maybe.Option Consumer) (passed : ℕ) (ends : Ends) → q.reads ≡ true → q.seatless ≡ v.reader.seatless → q.out ≡ v.reader.out
      → KnowsReads k W.ended r.state.line passed ends q → HoldsBand k.len ys W.producer (locks_of (set s.views id (stepping q l))) (record { line = r.state.line; taken = passed }) ends → Lends k.len x home ends (set s.views id (stepping q l))
      → Parts k (record W { consumer = x; slots = ys }) home (set s.views id (stepping q l)) (record r.state { passed = passed; ends = ends })
  own_parts q l x ys home passed ends yes_ seatless out knows ring lends =
      let p = r.parts in let g = r.state in let w : View = stepping q l in record {
        seats = seats_same k s.views id v w here W.ended p.seats refl (ap (λ (os : List ℕ). if v.sender.going then v.sender.next % k.senders ∷ os else os) seatless) (yes_ ∙ sym reads) out (seat_of q l yes_);
        puts = puts_same k s.views id v w here g.line g.full p.puts refl seatless;
        reads = reads_step k s.views id v w here W.ended g.line g.passed passed g.ends ends p.seats.one_reader reads p.reads knows;
        ring = ring;
        lends = lends;
      }

-- THE CONSUMER LOCK

-- as many have it as the word says, so at most one
module _ (views : List View) (one : total reading views ≡ 1) where
  pub few_hold : Each (λ v. v.reader.holds ≡ true → v.reader.reads ≡ true) views → total holding views ≤ 1
  few_hold readers = let fewer = total_le holding reading views (λ j v e. less v.reader.holds v.reader.reads (readers j v e)) in omega arith
    where
      less : (a b : Bool) → (a ≡ true → b ≡ true) → one_if a ≤ one_if b
      less false b h = omega arith
      less true b h = let e : one_if b ≡ 1 = ap one_if (h refl) in omega arith

module _ (k : Setup) where
  -- a seat that gets the lock knows what it knew, but for the batch
  pub takes_consumer : (slots id : ℕ) (m : Sat) (purpose : Purpose) → m.0.about ≡ k → m.0.reader.reads ≡ true
      → Allows (Rule k) slots id m 16 (λ n. either (eqb n 0) 1 n) (consumer_taken purpose (step slots 16 0 1 none) m)
  takes_consumer slots id m purpose about reads s r deep here small =
      let batch : List ℕ = batch_kept purpose true m.0.reader.batch in let which = kept_or_none purpose true m.0.reader.batch in
      let v : View = m.0 in let p = r.parts in let g = r.state in let W = words_of s.words in
      let q : ReaderPart = record v.reader { holds = true; batch = batch } in let w : View = record v { reader = q } in let h = p.reads id v here reads in
      dite (ℕ_discrete (get_or s.words 16 0) 0)
      (λ free. let home = p.lends.there free in let y : Consumer = consumer_of v.reader.ends in let is : r.home ≡ some y = home.0 ∙ ap (λ (c : Ends). some (consumer_of c)) (sym h.ends_are) in
      let none_holds : total holding s.views ≡ 0 = let e = p.lends.held in omega arith in let mine = total_one holding s.views id v here in let one = total_set holding s.views id v w here in (
        w,
        takes 0 y,
        subst (λ (hs : List (maybe.Option Consumer)). get_elem? hs 0 ≡ some (some y)) (sym (r.deep ∙ ap (λ (z : maybe.Option Consumer). z ∷ []) is)) refl,
        subst (λ c. Rule k (stepped s 16 (either c 1 (get_or s.words 16 0)) id m.1 w (takes 0 y))) (sym (eq-eqb _ _ free))
            (rule_after k s r 16 1 id (set s.homes 0 none) none w (record W { consumer = 1 }) g (ap (λ (hs : List (maybe.Option Consumer)). set hs 0 none) r.deep) (set_consumer s.words 1 (let wide = r.wide in omega arith))
            (own_parts k s r id v here reads q v.lock 1 W.slots none g.passed g.ends reads refl refl (rebatch k W.ended g.line g.passed g.ends v.reader true batch which h)
            (ring_same k s.views id v w here W.slots W.producer g p.ring refl)
            record {
              held = omega arith;
              readers = each_same (λ u. u.reader.holds ≡ true → u.reader.reads ≡ true) s.views id w p.lends.readers (λ _. reads);
              there = λ e. absurd (omega arith);
              away = λ _. refl;
            })),
        ((λ _. (refl, subst (λ (z : Setup × Ends). IsAtRest z.0.len z.1) (λ i. (sym about i, sym h.ends_are i)) home.1)), λ busy. absurd (busy free)),
      ))
      (λ busy. (
        v,
        keeps,
        tt,
        subst (λ c. Rule k (stepped s 16 (either c 1 (get_or s.words 16 0)) id m.1 v keeps)) (sym (ne_eqb _ _ busy)) (rule_same k s r 16 id v here),
        ((λ free. absurd (busy free)), λ _. refl),
      ))

  -- the lock is given back, and the ends with it
  pub gives_consumer : (slots id : ℕ) (v : View) (y : Consumer) (purpose : Purpose) → v.about ≡ k → v.reader.reads ≡ true → v.reader.holds ≡ true → y ≡ consumer_of v.reader.ends → IsAtRest v.about.len v.reader.ends
      → Allows (Rule k) slots id (v, (0, y) ∷ []) 16 (λ _. 0) (λ _. consumer_given purpose (step slots 16 0 0 none) (v, (0, y) ∷ []) 0)
  gives_consumer slots id v y purpose about reads has is rest s r deep here small =
      let batch : List ℕ = batch_kept purpose false v.reader.batch in let which = kept_or_none purpose false v.reader.batch in
      let p = r.parts in let g = r.state in let W = words_of s.words in let q : ReaderPart = record v.reader { holds = false; batch = batch } in let w : View = record v { reader = q } in let h = p.reads id v here reads in
      let few = few_hold s.views p.seats.one_reader p.lends.readers in let one = total_set holding s.views id v w here in let mine : holding v ≡ 1 = ap one_if has in (
        w,
        gives,
        tt,
        rule_after k s r 16 0 id (set s.homes 0 (some y)) (some y) w (record W { consumer = 0 }) g (ap (λ (hs : List (maybe.Option Consumer)). set hs 0 (some y)) r.deep) (set_consumer s.words 0 (let wide = r.wide in omega arith))
            (own_parts k s r id v here reads q v.lock 0 W.slots (some y) g.passed g.ends reads refl refl (rebatch k W.ended g.line g.passed g.ends v.reader false batch which h)
            (ring_same k s.views id v w here W.slots W.producer g p.ring refl)
            record {
              held = omega arith;
              readers = each_same (λ u. u.reader.holds ≡ true → u.reader.reads ≡ true) s.views id w p.lends.readers (λ _. reads);
              there = λ _. (ap some is ∙ ap (λ (c : Ends). some (consumer_of c)) h.ends_are, subst (λ (z : Setup × Ends). IsAtRest z.0.len z.1) (λ i. (about i, h.ends_are i)) rest);
              away = λ e. absurd (omega arith);
            }),
        refl,
      )

  -- TAKES

  pub sees_head : (slots id : ℕ) (m : Sat) (i : ℕ) (t : Step Consumer) → m.0.reader.reads ≡ true → m.0.reader.holds ≡ true → IsAtRest m.0.about.len m.0.reader.ends → i ≡ m.0.reader.ends.head
      → Allows (Rule k) slots id m (slot_word i) (λ x. x) (head_slot_seen t m)
  sees_head slots id m i t reads has rest place s r deep here small =
      let v : View = m.0 in let p = r.parts in let g = r.state in let W = words_of s.words in let found : ℕ = get_or s.words (slot_word i) 0 in let h = p.reads id v here reads in let about = about_is k s r id v here reads in
      let rests : IsAtRest k.len g.ends = subst (λ (z : Setup × Ends). IsAtRest z.0.len z.1) (λ i. (about i, h.ends_are i)) rest in let few = resting_room k.len g.ends rests.3 in
      let at_head : found ≡ get_or W.slots g.ends.head 0 = slot_of s.words i ∙ ap (λ (j : ℕ). get_or W.slots j 0) (place ∙ ap (λ (c : Ends). c.head) h.ends_are) in
      dite (ℕ_discrete found 0)
      (λ none_. let w : View = finding_none v in
      let nothing = finds_none_held k.len W.slots W.producer (locks_of s.views) (band_of g) g.ends p.ring rests.2 rests.1 (sym at_head ∙ none_) in
      let knows : KnowsReads k W.ended g.line g.passed g.ends w.reader = record {
        ends_are = h.ends_are;
        counts = h.counts;
        earlier = h.earlier;
        batch = h.batch;
        kept = h.kept;
        taken = h.taken;
        in_order = h.in_order;
        lost = h.lost;
        ended_is = h.ended_is;
        drained = λ d. let b = both_true v.reader.ended (length v.reader.batch == 0) d in (b.0, nothing, none_left v.reader.batch b.1);
      } in (
        w,
        keeps,
        tt,
        rule_load k s r (slot_word i) id w g (own_parts k s r id v here reads w.reader v.lock W.consumer W.slots r.home g.passed g.ends reads refl refl knows
            (ring_same k s.views id v w here W.slots W.producer g p.ring refl)
            (lends_held k s.views id v w here W.consumer r.home g.ends g.ends p.lends has refl (λ _. reads))),
        ((λ _. refl), (λ some_. absurd (some_ none_)), subst (λ (x : Setup). length w.reader.taken + length w.reader.destroyed ≤ x.packets) (sym about) (few_read k W.ended g.line g.full s.views g.passed g.ends w.reader p.puts knows)),
      ))
      (λ some_. let n : ℕ = found - 1 in let w : View = taking n v in
      let full : 0 < get_or W.slots g.ends.head 0 = let e = at_head in omega arith in
      let took = takes_held k.len W.slots W.producer (locks_of s.views) (band_of g) g.ends p.ring rests.2 rests.1 few full in
      let first : slice_get (drop g.passed g.line) 0 ≡ Some n = took.1 ∙ ap (λ (x : ℕ). Some (x - 1)) (sym at_head) in
      let rest_is = drop_first g.passed n g.line first in
      let in_line : 0 < times n g.line = let a = ap (times n) rest_is in let b = times_self n (drop (g.passed + 1) g.line) in let c = times_drop n g.passed g.line in omega arith in
      let knows : KnowsReads k W.ended g.line (g.passed + 1) (taken_on g.ends) w.reader = record {
        ends_are = ap taken_on h.ends_are;
        counts = λ x. let a = times_append x v.reader.taken (n ∷ []) in let b = ap (times x) rest_is in let c = times_append x (n ∷ []) (drop (g.passed + 1) g.line) in let d = h.counts x in omega arith;
        earlier = h.earlier;
        batch = take_more g.passed n g.line first ∙ (ap (λ (xs : List ℕ). xs ++ n ∷ []) h.batch ∙ append_assoc h.earlier v.reader.batch (n ∷ []));
        kept = h.kept;
        taken = ap (λ (xs : List ℕ). xs ++ n ∷ []) h.taken ∙ append_assoc h.kept v.reader.batch (n ∷ []);
        in_order = subst (Ordered k.senders) (ap (λ (xs : List ℕ). v.reader.taken ++ xs) rest_is ∙ sym (append_assoc v.reader.taken (n ∷ []) (drop (g.passed + 1) g.line))) h.in_order;
        lost = h.lost;
        ended_is = h.ended_is;
        drained = λ e. absurd (true≢false (sym e));
      } in (
        w,
        keeps,
        tt,
        rule_load k s r (slot_word i) id w (record g { passed = g.passed + 1; ends = taken_on g.ends }) (own_parts k s r id v here reads w.reader v.lock W.consumer W.slots r.home (g.passed + 1) (taken_on g.ends) reads refl refl knows
            (subst (λ (ls : List Lock). HoldsBand k.len W.slots W.producer ls (record { line = g.line; taken = g.passed + 1 }) (taken_on g.ends)) (sym (locks_same k s.views id v w here refl)) took.0)
            (lends_held k s.views id v w here W.consumer r.home g.ends (taken_on g.ends) p.lends has refl (λ _. reads))),
        ((λ none_. absurd (some_ none_)), (λ _. (refl, subst (λ (x : Setup). found ≤ x.packets) (sym about) (let b = p.puts.within n (omega arith) in omega arith))), subst (λ (x : Setup). length w.reader.taken + length w.reader.destroyed ≤ x.packets) (sym about) (few_read k W.ended g.line g.full s.views (g.passed + 1) (taken_on g.ends) w.reader p.puts knows)),
      ))

  -- THE SLOT BELOW THE EDGE IS EMPTIED

  pub empties_slot : (slots id : ℕ) (m : Sat) (i : ℕ) → m.0.reader.reads ≡ true → m.0.reader.holds ≡ true → m.0.reader.ends.tail < m.0.reader.ends.edge → i + 1 ≡ m.0.reader.ends.edge
      → Allows (Rule k) slots id m (slot_word i) (λ _. 0) (λ _. becomes (λ _. emptying) (step slots (slot_word i) 0 0 none) m 0)
  empties_slot slots id m i reads has below place s r deep here small =
      let v : View = m.0 in let p = r.parts in let g = r.state in let W = words_of s.words in let h = p.reads id v here reads in let about = about_is k s r id v here reads in let w : View = emptying v in
      let inside : g.ends.tail < g.ends.edge = subst (λ (c : Ends). c.tail < c.edge) h.ends_are below in
      let ends : w.reader.ends ≡ emptied_on k.len g.ends = λ j. emptied_on (about j).len (h.ends_are j) in
      let edge : g.ends.edge - 1 ≡ i = let e = ap (λ (c : Ends). c.edge) h.ends_are in omega arith in
      let ring = subst (λ (j : ℕ). HoldsBand k.len (set W.slots j 0) W.producer (locks_of s.views) (band_of g) (emptied_on k.len g.ends)) edge (empties_held k.len W.slots W.producer (locks_of s.views) (band_of g) g.ends p.ring inside) in (
        w,
        keeps,
        tt,
        rule_after k s r (slot_word i) 0 id s.homes r.home w (record W { slots = set W.slots i 0 }) (record g { ends = emptied_on k.len g.ends }) r.deep (set_slot s.words 0 i)
            (own_parts k s r id v here reads w.reader v.lock W.consumer (set W.slots i 0) r.home g.passed (emptied_on k.len g.ends) reads refl refl
            record {
              ends_are = ends;
              counts = h.counts;
              earlier = h.earlier;
              batch = h.batch;
              kept = h.kept;
              taken = h.taken;
              in_order = h.in_order;
              lost = h.lost;
              ended_is = h.ended_is;
              drained = h.drained;
            }
            (subst (λ (ls : List Lock). HoldsBand k.len (set W.slots i 0) W.producer ls (band_of g) (emptied_on k.len g.ends)) (sym (locks_same k s.views id v w here refl)) ring)
            (lends_held k s.views id v w here W.consumer r.home g.ends (emptied_on k.len g.ends) p.lends has refl (λ _. reads))),
        refl,
      )
