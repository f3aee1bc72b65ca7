-- Giving back keeps the rule: the look at the slot before the head, and the packet that is put there.
use Rattle.std.proofs.Common.{◌≡◌, ℕ, ◌+◌, ◌-◌, ◌<◌, ◌≤◌, true, false, List, [], ◌∷◌, ◌++◌, set, take, drop, refl, sym, ap, ◌∙◌, subst, arith, length, length-append, length-drop, get_or}
use Rattle.std.proofs.lemmas.List.{append-nil, append_assoc, take-append-drop, length-take, length-take-le}
use Rattle.std.proofs.Math.Seq.{take-append_seam, drop-append_seam}
use mathlib.Core.Logic.{dite}
use mathlib.Core.Option.{none}
use native.Mathlib.Decide.{ℕ_discrete}
use Rattle.atomic_table.specs.Table.{Step, step, Allows, keeps}
use Rattle.lq_ring_core.specs.Ring.{place_before}
use Rattle.lq_band_laws.specs.Times.{times}
use Rattle.lq_band_laws.specs.Ring.{Ends, Lock, with_room, cleared_at, given_back_one, word_at, HoldsBand}
use Rattle.lq_band_laws.proofs.Times.{times_append}
use Rattle.lq_band_laws.proofs.HoldsKept.{finds_room_before, finds_full_before, puts_back}
use Rattle.lq_tap.specs.Views.{View, Setup}
use Rattle.lq_tap.specs.Made.{slot_word}
use Rattle.lq_tap.proofs.Tells.{Sat}
use Rattle.lq_tap.specs.Told.{without_last, with_lock, destroying, putting_back}
use Rattle.lq_tap.proofs.Tells.{slot_before_seen}
use Rattle.lq_tap.specs.Rule.{words_of, locks_of, band_of, Ordered, Rule}
use Rattle.lq_tap.specs.declared.view.Consumer.{Consumer}
use Rattle.lq_tap.proofs.ByName.{set_slot, slot_of}
use Rattle.lq_tap.proofs.Orders.{ordered_without}
use Rattle.lq_tap.proofs.Frames.{lock_here, locks_after, ring_same, ring_step, lends_same, lends_held, rule_after, rule_load}
use Rattle.lq_tap.proofs.ConsumerKept.{own_parts, about_is}
use Rattle.lq_log.specs.Made.{becomes}

-- LISTS

pub without_last_is : (xs ys : List ℕ) → without_last (length ys) (xs ++ ys) ≡ xs
without_last_is xs ys = ap (λ (n : ℕ). take n (xs ++ ys)) (let l = length-append xs ys in let e : length (xs ++ ys) - length ys ≡ length xs = omega arith in e) ∙ take-append_seam xs ys

word_between : (ys : List ℕ) (n : ℕ) (zs : List ℕ) → word_at (ys ++ n ∷ zs) (length ys) ≡ n + 1
word_between [] n zs = refl
word_between (y ∷ ys) n zs = word_between ys n zs

-- the packet that ends what was passed
module _ (line ys : List ℕ) (n t : ℕ) (e : take t line ≡ ys ++ n ∷ []) (inside : t ≤ length line) where
  between : line ≡ ys ++ (n ∷ drop t line)
  between = sym (take-append-drop t line) ∙ (ap (λ (zs : List ℕ). zs ++ drop t line) e ∙ append_assoc ys (n ∷ []) (drop t line))

  pub place_is : t ≡ length ys + 1
  place_is = sym (length-take-le t line inside) ∙ (ap (λ (zs : List ℕ). length zs) e ∙ length-append ys (n ∷ []))

  before : t - 1 ≡ length ys
  before = let p = place_is in omega arith

  pub last_word : word_at line (t - 1) ≡ n + 1
  last_word = (λ i. word_at (between i) (before i)) ∙ word_between ys n (drop t line)

  pub one_fewer : take (t - 1) line ≡ ys
  one_fewer = (λ i. take (before i) (between i)) ∙ take-append_seam ys (n ∷ drop t line)

  pub one_more_left : drop (t - 1) line ≡ n ∷ drop t line
  one_more_left = (λ i. drop (before i) (between i)) ∙ drop-append_seam ys (n ∷ drop t line)

-- THE SLOT BEFORE THE HEAD

module _ (k : Setup) where
  pub sees_before : (slots id : ℕ) (m : Sat) (i left : ℕ) (t : Step Consumer) → m.0.reader.reads ≡ true → m.0.reader.holds ≡ true → m.0.lock.holds ≡ true → m.0.lock.stored ≡ false → m.0.reader.ends.tail ≡ m.0.reader.ends.head → m.0.reader.ends.edge ≡ m.0.reader.ends.head
      → i ≡ place_before m.0.about.len m.0.reader.ends.head 1 → 0 < left → left ≤ length m.0.reader.batch → Allows (Rule k) slots id m (slot_word i) (λ x. x) (slot_before_seen left t m)
  sees_before slots id m i left t reads has locked new clear edge place some_left within s r deep here small =
      let v : View = m.0 in let p = r.parts in let g = r.state in let W = words_of s.words in let found : ℕ = get_or s.words (slot_word i) 0 in let h = p.reads id v here reads in let about = about_is k s r id v here reads in
      let clear' : g.ends.tail ≡ g.ends.head = subst (λ (c : Ends). c.tail ≡ c.head) h.ends_are clear in let edge' : g.ends.edge ≡ g.ends.head = subst (λ (c : Ends). c.edge ≡ c.head) h.ends_are edge in
      let place' : i ≡ place_before k.len g.ends.head 1 = place ∙ (λ j. place_before (about j).len (h.ends_are j).head 1) in
      let there : found ≡ get_or W.slots (place_before k.len g.ends.head 1) 0 = slot_of s.words i ∙ ap (λ (j : ℕ). get_or W.slots j 0) place' in
      dite (ℕ_discrete found 0)
      (λ none_. let w : View = with_lock (with_room v.lock) v in
      let ring = finds_room_before k.len W.slots W.producer (locks_of s.views) (band_of g) g.ends id v.lock p.ring (lock_here k s.views id v w here) locked new clear' edge' (sym there ∙ none_) in (
        w,
        keeps,
        tt,
        rule_load k s r (slot_word i) id w g (own_parts k s r id v here reads v.reader w.lock W.consumer W.slots r.home g.passed g.ends reads refl refl h
            (ring_step k s.views id v w here W.slots W.producer g ring)
            (lends_same k s.views id v w here W.consumer r.home g.ends p.lends refl (p.lends.readers id v here))),
        ((λ _. refl), λ some_. absurd (some_ none_)),
      ))
      (λ some_. let w : View = destroying left v in
      let all = finds_full_before k.len W.slots W.producer (locks_of s.views) (band_of g) g.ends p.ring clear' edge' (let e = there in omega arith) in
      let bs = v.reader.batch in let stay : List ℕ = take (length bs - left) bs in let gone : List ℕ = drop (length bs - left) bs in
      let parts : bs ≡ stay ++ gone = sym (take-append-drop (length bs - left) bs) in
      let gone_long : length gone ≡ left = let d = length-drop (length bs - left) bs in omega arith in
      let taken_is : v.reader.taken ≡ h.kept ++ stay ++ gone = h.taken ∙ (ap (λ (xs : List ℕ). h.kept ++ xs) parts ∙ sym (append_assoc h.kept stay gone)) in
      let taken_now : w.reader.taken ≡ h.kept ++ stay = (λ j. without_last (sym gone_long j) (taken_is j)) ∙ without_last_is (h.kept ++ stay) gone in
      let passed_some : 0 < g.passed = let a = ap (λ (xs : List ℕ). length xs) h.batch in let b = length-append h.earlier bs in let c = length-take g.passed g.line in omega arith in
      let longer : k.len < length g.line = let a = length-drop g.passed g.line in let b = p.ring.taken_is in let c = p.ring.taken_within in let d = p.ring.line_is in omega arith in (
        w,
        keeps,
        tt,
        rule_load k s r (slot_word i) id w g (own_parts k s r id v here reads w.reader v.lock W.consumer W.slots r.home g.passed g.ends reads refl refl
            record {
              ends_are = h.ends_are;
              counts = λ x. let a = ap (times x) taken_is in let b = times_append x (h.kept ++ stay) gone in let c = ap (times x) taken_now in let d = times_append x v.reader.destroyed gone in let e = h.counts x in omega arith;
              earlier = take g.passed g.line;
              batch = sym (append-nil (take g.passed g.line));
              kept = w.reader.taken;
              taken = sym (append-nil w.reader.taken);
              in_order = subst (λ (xs : List ℕ). Ordered k.senders (xs ++ drop g.passed g.line)) (sym taken_now)
                  (ordered_without k.senders (h.kept ++ stay) gone (drop g.passed g.line) (subst (Ordered k.senders) (ap (λ (xs : List ℕ). xs ++ drop g.passed g.line) taken_is ∙ append_assoc (h.kept ++ stay) gone (drop g.passed g.line)) h.in_order));
              lost = λ _. longer;
              ended_is = h.ended_is;
              drained = λ d. let x = h.drained d in (x.0, x.1, refl);
            }
            (ring_same k s.views id v w here W.slots W.producer g p.ring refl)
            (lends_held k s.views id v w here W.consumer r.home g.ends g.ends p.lends has refl (λ _. reads))),
        ((λ none_. absurd (some_ none_)), λ _. refl),
      ))

  -- the last packet of the batch is stored there
  pub stores_before : (slots id : ℕ) (m : Sat) (i n : ℕ) (rest : List ℕ) → m.0.reader.reads ≡ true → m.0.reader.holds ≡ true → m.0.lock.holds ≡ true → m.0.lock.stored ≡ false → m.0.lock.room ≡ true → m.0.reader.ends.tail ≡ m.0.reader.ends.head → m.0.reader.ends.edge ≡ m.0.reader.ends.head
      → i ≡ place_before m.0.about.len m.0.reader.ends.head 1 → m.0.reader.batch ≡ rest ++ n ∷ [] → Allows (Rule k) slots id m (slot_word i) (λ _. n + 1) (λ _. becomes (λ _. putting_back) (step slots (slot_word i) (n + 1) 0 none) m (n + 1))
  stores_before slots id m i n rest reads has locked new room clear edge place batch_is s r deep here small =
      let v : View = m.0 in let p = r.parts in let g = r.state in let W = words_of s.words in let h = p.reads id v here reads in let about = about_is k s r id v here reads in let w : View = putting_back v in
      let clear' : g.ends.tail ≡ g.ends.head = subst (λ (c : Ends). c.tail ≡ c.head) h.ends_are clear in let edge' : g.ends.edge ≡ g.ends.head = subst (λ (c : Ends). c.edge ≡ c.head) h.ends_are edge in
      let there : ℕ = place_before k.len g.ends.head 1 in let place_now : place_before v.about.len v.reader.ends.head 1 ≡ there = λ j. place_before (about j).len (h.ends_are j).head 1 in
      let inside : g.passed ≤ length g.line = let a = p.ring.taken_is in let b = p.ring.taken_within in let c = p.ring.line_is in omega arith in
      let passed_is : take g.passed g.line ≡ (h.earlier ++ rest) ++ n ∷ [] = h.batch ∙ (ap (λ (xs : List ℕ). h.earlier ++ xs) batch_is ∙ sym (append_assoc h.earlier rest (n ∷ []))) in
      let taken_is : v.reader.taken ≡ (h.kept ++ rest) ++ n ∷ [] = h.taken ∙ (ap (λ (xs : List ℕ). h.kept ++ xs) batch_is ∙ sym (append_assoc h.kept rest (n ∷ []))) in
      let taken_now : w.reader.taken ≡ h.kept ++ rest = ap (without_last 1) taken_is ∙ without_last_is (h.kept ++ rest) (n ∷ []) in
      let batch_now : w.reader.batch ≡ rest = ap (without_last 1) batch_is ∙ without_last_is rest (n ∷ []) in
      let some_passed : 0 < g.passed = let x = place_is g.line (h.earlier ++ rest) n g.passed passed_is inside in omega arith in
      let left = one_more_left g.line (h.earlier ++ rest) n g.passed passed_is inside in
      let in_ring : g.ends.head < k.len = let a = p.ring.bounds.tail_within in omega arith in
      let ring = puts_back k.len W.slots W.producer (locks_of s.views) (band_of g) g.ends id v.lock p.ring (lock_here k s.views id v w here) n locked new room in_ring clear' edge' some_passed (last_word g.line (h.earlier ++ rest) n g.passed passed_is inside) in (
        w,
        keeps,
        tt,
        rule_after k s r (slot_word i) (n + 1) id s.homes r.home w (record W { slots = set W.slots i (n + 1) }) (record g { passed = g.passed - 1; ends = cleared_at there }) r.deep (set_slot s.words (n + 1) i)
            (own_parts k s r id v here reads w.reader w.lock W.consumer (set W.slots i (n + 1)) r.home (g.passed - 1) (cleared_at there) reads refl refl
            record {
              ends_are = ap cleared_at place_now;
              counts = λ x. let a = ap (times x) taken_is in let b = times_append x (h.kept ++ rest) (n ∷ []) in let c = ap (times x) taken_now in let d = ap (times x) left in let e = times_append x (n ∷ []) (drop g.passed g.line) in let f = h.counts x in omega arith;
              earlier = h.earlier;
              batch = one_fewer g.line (h.earlier ++ rest) n g.passed passed_is inside ∙ ap (λ (xs : List ℕ). h.earlier ++ xs) (sym batch_now);
              kept = h.kept;
              taken = taken_now ∙ ap (λ (xs : List ℕ). h.kept ++ xs) (sym batch_now);
              in_order = subst (λ (xs : List ℕ). Ordered k.senders xs) (ap (λ (xs : List ℕ). xs ++ drop g.passed g.line) taken_is ∙ (append_assoc (h.kept ++ rest) (n ∷ []) (drop g.passed g.line) ∙ (λ j. sym taken_now j ++ sym left j))) h.in_order;
              lost = h.lost;
              ended_is = h.ended_is;
              drained = λ d. absurd (let x = (h.drained d).2 in let l = ap (λ (xs : List ℕ). length xs) (sym x ∙ batch_is) in let a = length-append rest (n ∷ []) in omega arith);
            }
            (subst (λ (z : List Lock × ℕ). HoldsBand k.len (set W.slots z.1 (n + 1)) W.producer z.0 (given_back_one (band_of g)) (cleared_at there)) (λ j. (sym (locks_after k s.views id v w here) j, sym (place ∙ place_now) j)) ring)
            (lends_held k s.views id v w here W.consumer r.home g.ends (cleared_at there) p.lends has refl (λ _. reads))),
        refl,
      )
