-- The senders' steps keep the rule.
use Rattle.std.proofs.Common.{◌≡◌, ◌≢◌, ◌⊎◌, inl, inr, ℕ, zero, suc, ◌+◌, ◌-◌, ◌*◌, ◌/◌, ◌%◌, ◌^◌, ◌<◌, ◌≤◌, Bool, true, false, true≢false, eqb, List, [], ◌∷◌, ◌++◌, set, drop, refl, sym, ap, ◌∙◌, subst, ⊎_elim, arith, length, length-append, get_or, Some, Contains, eq-eqb, ne_eqb}
use Rattle.std.specs.Prelude.{if◌then◌else◌, ◌==◌, ◌||◌}
use Rattle.std.proofs.lemmas.Bool.Decides.{nat_tests}
use Rattle.std.specs.List.{slice_get}
use Rattle.std.proofs.lemmas.Bool.{cases_eq, cases_Bool}
use Rattle.std.proofs.lemmas.List.{take-append-le, drop-append-le, append_assoc}
use Rattle.std.proofs.Math.Nat.{add-mod_right}
use Rattle.std.proofs.lemmas.List.Elements.{Contains-append_cases}
use mathlib.Core.Logic.{dite}
use mathlib.Core.Option.{some, none}
use native.Mathlib.Decide.{ℕ_discrete}
use lib.ListN.{get_elem?}
use prog.Atomic.{either}
use Rattle.atomic_table.specs.Table as table
use Rattle.atomic_table.specs.Table.{Step, step, Allows, keeps, stepped}
use Rattle.lq_band_laws.specs.Seats.{total}
use Rattle.lq_band_laws.specs.Times.{times}
use Rattle.lq_band_laws.specs.Ring.{Ends, Lock, unlocked, locked_at, with_room, having_stored, index_given, HoldsBand}
use Rattle.lq_band_laws.proofs.Seats.{total_set, total_same, total_one, total_two, each_step, each_same}
use Rattle.lq_band_laws.proofs.Times.{times_append, times_same, times_other}
use Rattle.lq_band_laws.proofs.HoldsKept.{locks_held, gives_held, finds_room_held, finds_full_held, stores_held}
use Rattle.lq_tap.specs.Views.{View, Setup, ReaderPart}
use Rattle.lq_tap.specs.Made.{slot_word}
use Rattle.lq_tap.proofs.Tells.{Sat}
use Rattle.lq_tap.specs.Told.{having_put, having_found_full, having_ended, having_seen_ended, with_lock}
use Rattle.lq_tap.specs.Settled.{ComesBefore}
use Rattle.lq_tap.proofs.Tells.{producer_seen, producer_taken, producer_slot_seen, producer_slot_stored}
use Rattle.lq_tap.specs.Rule.{words_of, TapState, reading, sending, open_in, IsSeat, Seats, came, KnowsPuts, ArePuts, KnowsReads, locks_of, band_of, Ordered, Rule}
use Rattle.lq_tap.specs.declared.view.Consumer.{Consumer}
use Rattle.lq_tap.proofs.ByName.{set_producer, set_ended, set_slot, slot_of}
use Rattle.lq_tap.proofs.Orders.{times_self, times_later, ordered_snoc}
use Rattle.lq_tap.proofs.Frames.{seats_same, puts_same, reads_same, reads_beside, reads_step, lock_here, ring_same, ring_step, lends_same, rule_after, rule_load, rule_same}
use Rattle.lq_log.specs.Made.{becomes}

-- LISTS

-- a packet that stands at a place stands in the list
pub get_times : (xs : List ℕ) (i n : ℕ) → slice_get xs i ≡ Some n → 0 < times n xs
get_times [] i n e = absurd (cc)
get_times (x ∷ xs) zero n e = let is : Some x ≡ Some n = e in let same : x ≡ n = cc in subst (λ (z : ℕ). 0 < times z (x ∷ xs)) same (times_self x xs)
get_times (x ∷ xs) (suc i) n e = let more = get_times xs i n e in let l = times_later n x xs in omega arith

-- SEATS

module _ (k : Setup) (ended : ℕ) (views : List View) (id : ℕ) (v : View) (here : get_elem? views id ≡ some v) (s : Seats k ended views) (going : v.sender.going ≡ true) where
  sends : v.sender.sends ≡ true
  sends = (s.known id v here).going going

  pub no_reads : v.reader.reads ≡ false
  no_reads = ap (λ (r : ReaderPart). r.reads) ((s.known id v here).sender sends)

  pub no_seatless : v.reader.seatless ≡ []
  no_seatless = ap (λ (r : ReaderPart). r.seatless) ((s.known id v here).sender sends)

  pub opens : open_in k.senders v ≡ v.sender.next % k.senders ∷ v.reader.seatless
  opens = ap (λ (b : Bool). if b then v.sender.next % k.senders ∷ v.reader.seatless else v.reader.seatless) going

  -- not all senders have ended
  pub not_all : ended ≢ k.senders
  not_all all = let one = total_one (λ u. length (open_in k.senders u)) views id v here in let e = s.ended_is in let l = ap (λ (os : List ℕ). length os) opens in omega arith

  -- no other seat has this sender
  pub not_elsewhere : (j : ℕ) (u : View) → j ≢ id → get_elem? views j ≡ some u → times (v.sender.next % k.senders) (open_in k.senders u) ≡ 0
  not_elsewhere j u apart there =
      let o : ℕ = v.sender.next % k.senders in let two = total_two (λ x. times o (open_in k.senders x)) views id j v u here there apart in let few = s.once o in
      let mine : 0 < times o (open_in k.senders v) = subst (λ (os : List ℕ). 0 < times o os) (sym opens) (times_self o v.reader.seatless) in omega arith

single_in : {A : Type 0} (x y : A) → Contains (x ∷ []) y → x ≡ y
single_in x y (zero, inside, is) = is
single_in x y (suc i, inside, is) = absurd (omega arith)

none_times : (o : ℕ) (xs : List ℕ) → xs ≡ [] → times o xs ≡ 0
none_times o xs e = ap (times o) e

-- PUTS

-- one more packet has come: the next one of this seat
module _ (k : Setup) (ended : ℕ) (views : List View) (id : ℕ) (v w : View) (here : get_elem? views id ≡ some v) (s : Seats k ended views) (going : v.sender.going ≡ true) (some_sender : 0 < k.senders) (line full line' full' : List ℕ) (p : ArePuts k line full views)
    (more : (m : ℕ) → came line' full' m ≡ came line full m + times m (v.sender.next ∷ []))
    (still : w.sender.going ≡ v.sender.going) (next_is : w.sender.next ≡ v.sender.next + k.senders) (seatless : w.reader.seatless ≡ v.reader.seatless) where
  same_sender : (v.sender.next + k.senders) % k.senders ≡ v.sender.next % k.senders
  same_sender = add-mod_right v.sender.next k.senders

  pub still_open : open_in k.senders w ≡ open_in k.senders v
  still_open = λ i. if still i then ((ap (λ (x : ℕ). x % k.senders) next_is ∙ same_sender) i) ∷ seatless i else seatless i

  -- nothing of this sender came from here on
  pub not_come : came line full v.sender.next ≡ 0
  not_come = ⊎_elim (λ (none_ : came line full v.sender.next ≡ 0). none_) (λ some_. absurd (let x = (p.knows id v here).next going v.sender.next (omega arith) refl in omega arith)) (cases_eq (came line full v.sender.next) 0)

  is_new : (m : ℕ) → 0 < came line' full' m → (m ≡ v.sender.next) ⊎ (0 < came line full m)
  is_new m some_ = let e = more m in ⊎_elim (λ (e : m ≡ v.sender.next). inl e) (λ (n : m ≢ v.sender.next). let z = times_other m v.sender.next [] n in inr (omega arith)) (cases_eq m v.sender.next)

  pub puts_one : (m : ℕ) → came line' full' m ≤ 1
  puts_one m = let e = more m in let o = p.one m in ⊎_elim
      (λ (is : m ≡ v.sender.next). let z = times_same m v.sender.next [] is in let none_ : came line full m ≡ 0 = ap (came line full) is ∙ not_come in omega arith)
      (λ (n : m ≢ v.sender.next). let z = times_other m v.sender.next [] n in omega arith)
      (cases_eq m v.sender.next)

  puts_mine : ((m seen : ℕ) → Contains w.sender.fulls (m, seen) → (0 < times seen line') × (0 < times m full') × (k.len ≤ length line')) → KnowsPuts k line' full' w.sender w.reader.seatless
  puts_mine saw = let q = p.knows id v here in let none_left = no_seatless k ended views id v here s going in record {
    saw = saw;
    next = λ _ m some_ same. let past = next_is in ⊎_elim (λ (e : m ≡ v.sender.next). omega arith)
        (λ (old : 0 < came line full m). let x = q.next going m old (same ∙ (ap (λ (x : ℕ). x % k.senders) next_is ∙ same_sender)) in omega arith) (is_new m some_);
    fresh = λ o has. absurd (let z = none_times o w.reader.seatless (seatless ∙ none_left) in omega arith);
  }

  puts_other : (j : ℕ) (u : View) → j ≢ id → get_elem? views j ≡ some u → ((m : ℕ) → times m line ≤ times m line') → ((m : ℕ) → times m full ≤ times m full') → length line ≤ length line'
      → KnowsPuts k line full u.sender u.reader.seatless → KnowsPuts k line' full' u.sender u.reader.seatless
  puts_other j u apart there lines fulls longer q = let none_there = not_elsewhere k ended views id v here s going j u apart there in record {
    saw = λ m seen h. let x = q.saw m seen h in let x0 = x.0 in let x1 = x.1 in let x2 = x.2 in let a = lines seen in let b = fulls m in (omega arith, omega arith, omega arith);
    next = λ yours m some_ same. ⊎_elim
        (λ (e : m ≡ v.sender.next). absurd (apart_next yours (sym (ap (λ (x : ℕ). x % k.senders) e) ∙ same)))
        (λ (old : 0 < came line full m). q.next yours m old same) (is_new m some_);
    fresh = λ o has m some_ same. ⊎_elim
        (λ (e : m ≡ v.sender.next). absurd (apart_seatless o has (sym (ap (λ (x : ℕ). x % k.senders) e) ∙ same)))
        (λ (old : 0 < came line full m). q.fresh o has m old same) (is_new m some_);
  }
    where
      o' : ℕ
      o' = v.sender.next % k.senders

      apart_next : u.sender.going ≡ true → v.sender.next % k.senders ≡ u.sender.next % k.senders → ⊥
      apart_next yours same =
          let opens : open_in k.senders u ≡ u.sender.next % k.senders ∷ u.reader.seatless = ap (λ (b : Bool). if b then u.sender.next % k.senders ∷ u.reader.seatless else u.reader.seatless) yours in
          let has : 0 < times (v.sender.next % k.senders) (open_in k.senders u) = subst (λ (z : List ℕ × ℕ). 0 < times z.1 z.0) (λ i. (sym opens i, sym same i)) (times_self (u.sender.next % k.senders) u.reader.seatless) in
          let none_ = not_elsewhere k ended views id v here s going j u apart there in omega arith

      apart_seatless : (o : ℕ) → 0 < times o u.reader.seatless → v.sender.next % k.senders ≡ o → ⊥
      apart_seatless o has same =
          let fewer : times o u.reader.seatless ≤ times o (open_in k.senders u) = ⊎_elim
          (λ (yes_ : u.sender.going ≡ true). subst (λ (b : Bool). times o u.reader.seatless ≤ times o (if b then u.sender.next % k.senders ∷ u.reader.seatless else u.reader.seatless)) (sym yes_) (times_later o (u.sender.next % k.senders) u.reader.seatless))
          (λ (no_ : u.sender.going ≡ false). subst (λ (b : Bool). times o u.reader.seatless ≤ times o (if b then u.sender.next % k.senders ∷ u.reader.seatless else u.reader.seatless)) (sym no_) (omega arith))
          (cases_Bool u.sender.going) in
          let none_ = not_elsewhere k ended views id v here s going j u apart there in
          let none_here : times o (open_in k.senders u) ≡ 0 = subst (λ (z : ℕ). times z (open_in k.senders u) ≡ 0) same none_ in omega arith

  pub puts_more : v.sender.next < k.packets → ((m : ℕ) → times m line ≤ times m line') → ((m : ℕ) → times m full ≤ times m full') → length line ≤ length line'
      → ((m : ℕ) → total (λ u. times m u.sender.puts) (set views id w) ≡ times m line') → total (λ u. length u.sender.puts) (set views id w) ≡ length line'
      → ((m seen : ℕ) → Contains w.sender.fulls (m, seen) → (0 < times seen line') × (0 < times m full') × (k.len ≤ length line')) → ArePuts k line' full' (set views id w)
  puts_more below lines fulls longer put_once count saw = record {
    put_once = put_once;
    count = count;
    within = λ m some_. ⊎_elim (λ (e : m ≡ v.sender.next). subst (λ (z : ℕ). z < k.packets) (sym e) below) (λ (old : 0 < came line full m). p.within m old) (is_new m some_);
    one = puts_one;
    knows = each_step (λ u. KnowsPuts k line full u.sender u.reader.seatless) (λ u. KnowsPuts k line' full' u.sender u.reader.seatless) views id w p.knows (puts_mine saw)
        (λ j u apart there q. puts_other j u apart there lines fulls longer q);
  }

-- LOADS THAT TELL NOTHING

pub loads_any : (k : Setup) (slots id : ℕ) (m : Sat) (i : ℕ) (t : Step Consumer) → Allows (Rule k) slots id m i (λ x. x) (producer_seen t m)
loads_any k slots id m i t s r deep here small = (m.0, keeps, tt, rule_same k s r i id m.0 here, refl)

-- THE PRODUCER LOCK

-- it is the reader's or a sender's
abbrev IsLive : View → Type 0
IsLive v = v.reader.reads ≡ false → v.sender.sends ≡ false → ⊥

module _ (k : Setup) where
  -- so is a seat of the tap
  about_live : (v : View) → 0 < k.len → IsSeat k v.about v.sender v.reader v.lock → v.about ≡ k → IsLive v
  about_live v some_slot is about =
      λ no_ no_'. let none_ = (is.nothing no_ no_').3 in let e = ap (λ (x : Setup). x.len) about in absurd (omega arith)

  -- and one that has the lock
  locks_live : (v : View) → IsSeat k v.about v.sender v.reader v.lock → v.lock.holds ≡ true → IsLive v
  locks_live v is has = λ no_ no_'. true≢false (sym has ∙ ap (λ (l : Lock). l.holds) (is.nothing no_ no_').2)

  live_seat : (v : View) (l : Lock) → IsSeat k v.about v.sender v.reader v.lock → IsLive v → IsSeat k v.about v.sender v.reader l
  live_seat v l q live = record { reader_about = q.reader_about; sender_about = q.sender_about; sender = q.sender; going = q.going; nothing = λ no_ no_'. absurd (live no_ no_') }

  -- the producer word, and what the seat knows of it, change
  lock_step : (s : table.State Consumer View) (r : Rule k s) (id x : ℕ) (v : View) (l : Lock) → get_elem? s.views id ≡ some v → IsLive v
      → HoldsBand k.len (words_of s.words).slots x (set (locks_of s.views) id l) (band_of r.state) r.state.ends → Rule k record { words = set s.words 8 x; homes = s.homes; views = set s.views id (with_lock l v) }
  lock_step s r id x v l here live ring =
      let p = r.parts in let g = r.state in let W = words_of s.words in let w : View = with_lock l v in
      rule_after k s r 8 x id s.homes r.home w (record W { producer = x }) g r.deep (set_producer s.words x (let wide = r.wide in omega arith)) record {
        seats = seats_same k s.views id v w here W.ended p.seats refl refl refl refl (live_seat v l (p.seats.known id v here) live);
        puts = puts_same k s.views id v w here g.line g.full p.puts refl refl;
        reads = reads_same k s.views id v w here W.ended g.line g.passed g.ends p.reads refl;
        ring = ring_step k s.views id v w here W.slots x g ring;
        lends = lends_same k s.views id v w here W.consumer r.home g.ends p.lends refl (p.lends.readers id v here);
      }

  pub takes_producer : (slots id : ℕ) (m : Sat) (found : ℕ) → m.0.about ≡ k → found % 2 ≡ 0 → m.0.lock.holds ≡ false
      → Allows (Rule k) slots id m 8 (λ n. either (eqb n found) (found + 1) n) (producer_taken (step slots 8 found (found + 1) none) m)
  takes_producer slots id m found about even free s r deep here small =
      let v : View = m.0 in let p = r.parts in let W = words_of s.words in let i : ℕ = found / 2 in
      dite (ℕ_discrete (get_or s.words 8 0) found)
      (λ is. let w : View = with_lock (locked_at i) v in
      let word : W.producer ≡ 2 * i = let e : get_or s.words 8 0 ≡ found = is in omega arith in
      let ring = locks_held k.len W.slots W.producer (locks_of s.views) (band_of r.state) r.state.ends id v.lock p.ring (lock_here k s.views id v w here) i free word in (
        w,
        keeps,
        tt,
        subst (λ c. Rule k (stepped s 8 (either c (found + 1) (get_or s.words 8 0)) id m.1 w keeps)) (sym (eq-eqb _ _ is))
            (lock_step s r id (found + 1) v (locked_at i) here (about_live v r.limits.some_slot (p.seats.known id v here) about) (subst (λ (x : ℕ). HoldsBand k.len W.slots (x + 1) (set (locks_of s.views) id (locked_at i)) (band_of r.state) r.state.ends) is ring)),
        ((λ _. (refl, subst (λ (x : Setup). i < x.len) (sym about) (let a = p.ring.index_within in let b = p.ring.word_is in let c = p.ring.one in omega arith))), λ no_. absurd (no_ is)),
      ))
      (λ no_. (
        v,
        keeps,
        tt,
        subst (λ c. Rule k (stepped s 8 (either c (found + 1) (get_or s.words 8 0)) id m.1 v keeps)) (sym (ne_eqb _ _ no_)) (rule_same k s r 8 id v here),
        ((λ is. absurd (no_ is)), λ _. refl),
      ))

  pub gives_producer : (slots id : ℕ) (m : Sat) (i : ℕ) → m.0.lock.holds ≡ true → i ≡ index_given k.len m.0.lock
      → Allows (Rule k) slots id m 8 (λ _. 2 * i) (λ _. becomes (λ _. with_lock unlocked) (step slots 8 (2 * i) 0 none) m (2 * i))
  gives_producer slots id m i has is s r deep here small =
      let v : View = m.0 in let p = r.parts in let W = words_of s.words in let w : View = with_lock unlocked v in
      let ring = gives_held k.len W.slots W.producer (locks_of s.views) (band_of r.state) r.state.ends id v.lock p.ring (lock_here k s.views id v w here) has in (
        w,
        keeps,
        tt,
        lock_step s r id (2 * i) v unlocked here (locks_live v (p.seats.known id v here) has) (subst (λ (x : ℕ). HoldsBand k.len W.slots (2 * x) (set (locks_of s.views) id unlocked) (band_of r.state) r.state.ends) (sym is) ring),
        refl,
      )

  -- THE SLOT AT THE INDEX

  pub sees_slot : (slots id : ℕ) (m : Sat) (i : ℕ) (t : Step Consumer) → m.0.about ≡ k → m.0.sender.going ≡ true → m.0.sender.next < k.packets → m.0.lock.holds ≡ true → m.0.lock.stored ≡ false → i ≡ m.0.lock.index
      → Allows (Rule k) slots id m (slot_word i) (λ x. x) (producer_slot_seen t m)
  sees_slot slots id m i t about going below has new place s r deep here small =
      let v : View = m.0 in let p = r.parts in let g = r.state in let W = words_of s.words in let n : ℕ = v.sender.next in let found : ℕ = get_or s.words (slot_word i) 0 in
      let at_index : found ≡ get_or W.slots v.lock.index 0 = slot_of s.words i ∙ ap (λ (j : ℕ). get_or W.slots j 0) place in
      dite (ℕ_discrete found 0)
      (λ none_. let w : View = with_lock (with_room v.lock) v in
      let ring = finds_room_held k.len W.slots W.producer (locks_of s.views) (band_of g) g.ends id v.lock p.ring (lock_here k s.views id v w here) has new (sym at_index ∙ none_) in (
        w,
        keeps,
        tt,
        rule_load k s r (slot_word i) id w g record {
          seats = seats_same k s.views id v w here W.ended p.seats refl refl refl refl (live_seat v (with_room v.lock) (p.seats.known id v here) (locks_live v (p.seats.known id v here) has));
          puts = puts_same k s.views id v w here g.line g.full p.puts refl refl;
          reads = reads_same k s.views id v w here W.ended g.line g.passed g.ends p.reads refl;
          ring = ring_step k s.views id v w here W.slots W.producer g ring;
          lends = lends_same k s.views id v w here W.consumer r.home g.ends p.lends refl (p.lends.readers id v here);
        },
        ((λ _. refl), λ some_. absurd (some_ none_)),
      ))
      (λ some_. let seen : ℕ = found - 1 in let w : View = having_found_full n seen v in
      let may = finds_full_held k.len W.slots W.producer (locks_of s.views) (band_of g) g.ends id v.lock p.ring (lock_here k s.views id v w here) has new (let e = at_index in omega arith) in
      let saw : 0 < times seen g.line = get_times g.line _ seen (may.seen_is ∙ ap (λ (x : ℕ). Some (x - 1)) (sym at_index)) in
      let next_is : w.sender.next ≡ n + k.senders = ap (λ (x : Setup). n + x.senders) about in let some_sender = r.limits.some_sender in
      let more : (x : ℕ) → came g.line (n ∷ g.full) x ≡ came g.line g.full x + times x (n ∷ []) = λ x. let a = times_append x (n ∷ []) g.full in omega arith in
      let none_came : came g.line g.full n ≡ 0 = not_come k W.ended s.views id v w here p.seats going some_sender g.line g.full g.line (n ∷ g.full) p.puts more refl next_is refl in (
        w,
        keeps,
        tt,
        rule_load k s r (slot_word i) id w (record g { full = n ∷ g.full }) record {
          seats = seats_same k s.views id v w here W.ended p.seats refl (still_open k W.ended s.views id v w here p.seats going some_sender g.line g.full g.line (n ∷ g.full) p.puts more refl next_is refl) refl refl
              (let q = p.seats.known id v here in record { reader_about = q.reader_about; sender_about = q.sender_about; sender = q.sender; going = q.going; nothing = λ no_ no_'. absurd (true≢false (sym (q.going going) ∙ no_')) });
          puts = puts_more k W.ended s.views id v w here p.seats going some_sender g.line g.full g.line (n ∷ g.full) p.puts more refl next_is refl below (λ _. omega arith) (λ x. times_later x n g.full) (omega arith)
              (λ x. total_same (λ u. times x u.sender.puts) s.views id v w here refl ∙ p.puts.put_once x) (total_same (λ u. length u.sender.puts) s.views id v w here refl ∙ p.puts.count)
              (λ x y h. ⊎_elim
              (λ old. let q = (p.puts.knows id v here).saw x y old in let q0 = q.0 in let q1 = q.1 in let q2 = q.2 in let l = times_later x n g.full in (q0, (let f : 0 < times x (n ∷ g.full) = omega arith in f), q2))
              (λ one. let is : (n, seen) ≡ (x, y) = single_in (n, seen) (x, y) one in
              (subst (λ (z : ℕ × ℕ). (0 < times z.1 g.line) × (0 < times z.0 (n ∷ g.full)) × (k.len ≤ length g.line)) is (saw, times_self n g.full, may.again)))
              (Contains-append_cases v.sender.fulls ((n, seen) ∷ []) (x, y) h));
          reads = reads_same k s.views id v w here W.ended g.line g.passed g.ends p.reads refl;
          ring = ring_same k s.views id v w here W.slots W.producer g p.ring refl;
          lends = lends_same k s.views id v w here W.consumer r.home g.ends p.lends refl (p.lends.readers id v here);
        },
        (
          (λ none_. absurd (some_ none_)),
          λ _. (
            refl,
            (λ (same : seen ≡ n). let z : 0 < times n g.line = subst (λ (x : ℕ). 0 < times x g.line) same saw in omega arith),
            subst (λ (x : Setup). found ≤ x.packets) (sym about) (let b = p.puts.within seen (let c = saw in omega arith) in omega arith),
          ),
        ),
      ))

  -- THE SLOT AT THE INDEX IS STORED

  pub stores_slot : (slots id : ℕ) (m : Sat) (i : ℕ) → m.0.about ≡ k → m.0.sender.going ≡ true → m.0.sender.next < k.packets → m.0.lock.holds ≡ true → m.0.lock.stored ≡ false → m.0.lock.room ≡ true → i ≡ m.0.lock.index
      → Allows (Rule k) slots id m (slot_word i) (λ _. m.0.sender.next + 1) (λ _. producer_slot_stored (step slots (slot_word i) (m.0.sender.next + 1) 0 none) m (m.0.sender.next + 1))
  stores_slot slots id m i about going below has new room place s r deep here small =
      let v : View = m.0 in let p = r.parts in let g = r.state in let W = words_of s.words in let n : ℕ = v.sender.next in let g' : TapState = record g { line = g.line ++ n ∷ [] } in
      let w : View = with_lock (having_stored v.lock) (having_put n v) in
      let ring = (stores_held k.len W.slots W.producer (locks_of s.views) (band_of g) g.ends id v.lock p.ring (lock_here k s.views id v w here) n has new room).0 in
      let next_is : w.sender.next ≡ n + k.senders = ap (λ (x : Setup). n + x.senders) about in let some_sender = r.limits.some_sender in
      let longer = length-append g.line (n ∷ []) in
      let more : (x : ℕ) → came (g.line ++ n ∷ []) g.full x ≡ came g.line g.full x + times x (n ∷ []) = λ x. let a = times_append x g.line (n ∷ []) in omega arith in (
        w,
        keeps,
        tt,
        rule_after k s r (slot_word i) (n + 1) id s.homes r.home w (record W { slots = set W.slots i (n + 1) }) g' r.deep (set_slot s.words (n + 1) i) record {
          seats = seats_same k s.views id v w here W.ended p.seats refl (still_open k W.ended s.views id v w here p.seats going some_sender g.line g.full (g.line ++ n ∷ []) g.full p.puts more refl next_is refl) refl refl
              (let q = p.seats.known id v here in record { reader_about = q.reader_about; sender_about = q.sender_about; sender = q.sender; going = q.going; nothing = λ no_ no_'. absurd (true≢false (sym (q.going going) ∙ no_')) });
          puts = puts_more k W.ended s.views id v w here p.seats going some_sender g.line g.full (g.line ++ n ∷ []) g.full p.puts more refl next_is refl below (λ x. let a = times_append x g.line (n ∷ []) in omega arith) (λ _. omega arith) (omega arith)
              (λ x. let t = total_set (λ u. times x u.sender.puts) s.views id v w here in let e = p.puts.put_once x in let a = times_append x v.sender.puts (n ∷ []) in let b = times_append x g.line (n ∷ []) in omega arith)
              (let t = total_set (λ u. length u.sender.puts) s.views id v w here in let e = p.puts.count in let a = length-append v.sender.puts (n ∷ []) in omega arith)
              (λ x y h. let q = (p.puts.knows id v here).saw x y h in let q0 = q.0 in let q2 = q.2 in let a = times_append y g.line (n ∷ []) in (omega arith, q.1, omega arith));
          reads = reads_beside k s.views id v w here W.ended W.ended g.line (g.line ++ n ∷ []) g.passed g.ends p.reads (no_reads k W.ended s.views id v here p.seats going)
              (reads_put (not_all k W.ended s.views id v here p.seats going) g.line n g.passed g.ends (let a = p.ring.taken_is in let b = p.ring.taken_within in let c = p.ring.line_is in omega arith)
              (λ x some_ same. (p.puts.knows id v here).next going x (omega arith) same));
          ring = ring_step k s.views id v w here (set W.slots i (n + 1)) W.producer g' (subst (λ (j : ℕ). HoldsBand k.len (set W.slots j (n + 1)) W.producer (set (locks_of s.views) id (having_stored v.lock)) (band_of g') g.ends) (sym place) ring);
          lends = lends_same k s.views id v w here W.consumer r.home g.ends p.lends refl (p.lends.readers id v here);
        },
        refl,
      )
    where
      reads_put : {ended : ℕ} → ended ≢ k.senders → (line : List ℕ) (n passed : ℕ) (ends : Ends) → passed ≤ length line → ((x : ℕ) → 0 < times x line → ComesBefore k.senders x n) → (q : ReaderPart) → KnowsReads k ended line passed ends q → KnowsReads k ended (line ++ n ∷ []) passed ends q
      reads_put going_on line n passed ends inside before q h =
          let dropped = drop-append-le passed line (n ∷ []) inside in record {
            ends_are = h.ends_are;
            counts = λ x. let a = times_append x line (n ∷ []) in let b = times_append x (drop passed line) (n ∷ []) in let c = h.counts x in let d = ap (times x) dropped in omega arith;
            earlier = h.earlier;
            batch = take-append-le passed line (n ∷ []) inside ∙ h.batch;
            kept = h.kept;
            taken = h.taken;
            in_order = subst (Ordered k.senders) (append_assoc q.taken (drop passed line) (n ∷ []) ∙ ap (λ (xs : List ℕ). q.taken ++ xs) (sym dropped))
                (ordered_snoc k.senders (q.taken ++ drop passed line) n h.in_order (λ x some_. before x (let a = times_append x q.taken (drop passed line) in let c = h.counts x in omega arith)));
            lost = λ some_. let x = h.lost some_ in let l = length-append line (n ∷ []) in omega arith;
            ended_is = h.ended_is;
            drained = λ d. absurd (going_on (h.ended_is (h.drained d).0));
          }

-- ENDS

module _ (k : Setup) where
  pub ends_sender : (slots id : ℕ) (m : Sat) (t : Step Consumer) → m.0.sender.going ≡ true → Allows (Rule k) slots id m 24 (λ n. (n + 1) % 2 ^ 64) (becomes (λ _. having_ended) t m)
  ends_sender slots id m t going s r deep here small =
      let v : View = m.0 in let p = r.parts in let g = r.state in let W = words_of s.words in let w : View = having_ended v in
      let open_here = opens k W.ended s.views id v here p.seats going in let number = p.seats.ended_is in let few = r.limits.senders in
      let less = total_set (λ u. length (open_in k.senders u)) s.views id v w here in let one_less = ap (λ (os : List ℕ). length os) open_here in
      let next : (get_or s.words 24 0 + 1) % 2 ^ 64 ≡ W.ended + 1 = omega arith in (
        w,
        keeps,
        tt,
        subst (λ (x : ℕ). Rule k record { words = set s.words 24 x; homes = s.homes; views = set s.views id w }) (sym next)
            (rule_after k s r 24 (W.ended + 1) id s.homes r.home w (record W { ended = W.ended + 1 }) g r.deep (set_ended s.words (W.ended + 1) (let wide = r.wide in omega arith)) record {
              seats = record {
                one_reader = total_same reading s.views id v w here refl ∙ p.seats.one_reader;
                out_is = let still : total sending (set s.views id w) ≡ total sending s.views = total_same sending s.views id v w here refl in
                    each_step (λ u. u.reader.reads ≡ true → u.reader.out ≡ total sending s.views) (λ u. u.reader.reads ≡ true → u.reader.out ≡ total sending (set s.views id w)) s.views id w p.seats.out_is
                    (λ x. p.seats.out_is id v here x ∙ sym still) (λ j u apart e h x. h x ∙ sym still);
                ended_is = omega arith;
                once = λ o. let fewer = total_set (λ u. times o (open_in k.senders u)) s.views id v w here in let q = ap (times o) open_here in let l = times_later o (v.sender.next % k.senders) v.reader.seatless in let e = p.seats.once o in omega arith;
                known = each_same (λ u. IsSeat k u.about u.sender u.reader u.lock) s.views id w p.seats.known
                    (let q = p.seats.known id v here in record { reader_about = q.reader_about; sender_about = q.sender_about; sender = q.sender; going = λ e. absurd (cc); nothing = λ no_ no_'. absurd (true≢false (sym (q.going going) ∙ no_')) });
              };
              puts = record {
                put_once = λ x. total_same (λ u. times x u.sender.puts) s.views id v w here refl ∙ p.puts.put_once x;
                count = total_same (λ u. length u.sender.puts) s.views id v w here refl ∙ p.puts.count;
                within = p.puts.within;
                one = p.puts.one;
                knows = each_same (λ u. KnowsPuts k g.line g.full u.sender u.reader.seatless) s.views id w p.puts.knows (let q = p.puts.knows id v here in record { saw = q.saw; next = λ e. absurd (cc); fresh = q.fresh });
              };
              reads = reads_beside k s.views id v w here W.ended (W.ended + 1) g.line g.line g.passed g.ends p.reads (no_reads k W.ended s.views id v here p.seats going)
                  (λ q h. record {
                    ends_are = h.ends_are;
                    counts = h.counts;
                    earlier = h.earlier;
                    batch = h.batch;
                    kept = h.kept;
                    taken = h.taken;
                    in_order = h.in_order;
                    lost = h.lost;
                    ended_is = λ e. absurd (not_all k W.ended s.views id v here p.seats going (h.ended_is e));
                    drained = h.drained;
                  });
              ring = ring_same k s.views id v w here W.slots W.producer g p.ring refl;
              lends = lends_same k s.views id v w here W.consumer r.home g.ends p.lends refl (p.lends.readers id v here);
            }),
        refl,
      )

  pub sees_ended : (slots id : ℕ) (m : Sat) (t : Step Consumer) → m.0.about ≡ k → m.0.reader.reads ≡ true → Allows (Rule k) slots id m 24 (λ n. n) (becomes having_seen_ended t m)
  sees_ended slots id m t about reads s r deep here small =
      let v : View = m.0 in let p = r.parts in let g = r.state in let W = words_of s.words in let w : View = having_seen_ended W.ended v in let h = p.reads id v here reads in (
        w,
        keeps,
        tt,
        rule_load k s r 24 id w g record {
          seats = seats_same k s.views id v w here W.ended p.seats refl refl refl refl
              (let q = p.seats.known id v here in record { reader_about = q.reader_about; sender_about = q.sender_about; sender = λ e. absurd (true≢false (sym reads ∙ ap (λ (x : ReaderPart). x.reads) (q.sender e))); going = q.going; nothing = q.nothing });
          puts = puts_same k s.views id v w here g.line g.full p.puts refl refl;
          reads = reads_step k s.views id v w here W.ended g.line g.passed g.passed g.ends g.ends p.seats.one_reader reads p.reads record {
            ends_are = h.ends_are;
            counts = h.counts;
            earlier = h.earlier;
            batch = h.batch;
            kept = h.kept;
            taken = h.taken;
            in_order = h.in_order;
            lost = h.lost;
            ended_is = λ e. ⊎_elim h.ended_is (λ (found : (W.ended == v.about.senders) ≡ true). eqb-eq' W.ended v.about.senders found ∙ ap (λ (x : Setup). x.senders) about) (either_true v.reader.ended (W.ended == v.about.senders) e);
            drained = λ d. let x = h.drained d in (ap (λ (b : Bool). b || (W.ended == v.about.senders)) x.0, x.1, x.2);
          };
          ring = ring_same k s.views id v w here W.slots W.producer g p.ring refl;
          lends = lends_same k s.views id v w here W.consumer r.home g.ends p.lends refl (p.lends.readers id v here);
        },
        refl,
      )
    where
      eqb-eq' : (a b : ℕ) → (a == b) ≡ true → a ≡ b
      eqb-eq' a b e = grind (arith, nat_tests)

      either_true : (a b : Bool) → (a || b) ≡ true → (a ≡ true) ⊎ (b ≡ true)
      either_true true b e = inl refl
      either_true false b e = inr e
