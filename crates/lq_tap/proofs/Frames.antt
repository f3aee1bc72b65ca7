-- The laws by which a step keeps the parts whose data it leaves alone, and the rule from its parts.
use Rattle.std.proofs.Common.{◌≡◌, ◌≢◌, ℕ, true, false, true≢false, List, [], ◌∷◌, set, sym, ap, ◌∙◌, subst, arith, length, length-set, get_or}
use Rattle.std.proofs.lemmas.List.{map-set}
use mathlib.Core.Option.{some}
use mathlib.Core.Option as maybe
use lib.ListN.{get_elem?}
use Rattle.atomic_table.specs.Table as table
use Rattle.atomic_table.proofs.Lists.{at_map, set_again}
use Rattle.lq_band_laws.specs.Seats.{total}
use Rattle.lq_band_laws.specs.Times.{times}
use Rattle.lq_band_laws.specs.Ring.{Ends, Lock, HoldsBand}
use Rattle.lq_band_laws.proofs.Seats.{total_same, total_one, total_two, each_step, each_same}
use Rattle.lq_tap.specs.Views.{View, Setup, SenderPart, ReaderPart}
use Rattle.lq_tap.specs.Rule.{Words, words_of, TapState, one_if, reading, sending, open_in, IsSeat, Seats, KnowsPuts, ArePuts, KnowsReads, ReadsKnown, locks_of, band_of, RingHolds, holding, Lends, Parts, Rule}
use Rattle.lq_tap.specs.declared.view.Consumer.{Consumer}
use Rattle.lq_tap.proofs.ByName.{set_back}

-- no two seats are the reader's
pub reads_alone : (views : List View) (id j : ℕ) (v u : View) → total reading views ≡ 1 → get_elem? views id ≡ some v → get_elem? views j ≡ some u → j ≢ id → v.reader.reads ≡ true → u.reader.reads ≡ true → ⊥
reads_alone views id j v u one here there apart mine yours =
    let two = total_two reading views id j v u here there apart in let a : reading v ≡ 1 = ap one_if mine in let b : reading u ≡ 1 = ap one_if yours in omega arith

module _ (k : Setup) (views : List View) (id : ℕ) (v w : View) (here : get_elem? views id ≡ some v) where
  -- SEATS

  pub seats_same : (ended : ℕ) → Seats k ended views → w.sender.sends ≡ v.sender.sends → open_in k.senders w ≡ open_in k.senders v → w.reader.reads ≡ v.reader.reads → w.reader.out ≡ v.reader.out → IsSeat k w.about w.sender w.reader w.lock → Seats k ended (set views id w)
  seats_same ended s sends opens reads out is =
      let still : total sending (set views id w) ≡ total sending views = total_same sending views id v w here (ap one_if sends) in record {
        one_reader = total_same reading views id v w here (ap one_if reads) ∙ s.one_reader;
        out_is = each_step (λ u. u.reader.reads ≡ true → u.reader.out ≡ total sending views) (λ u. u.reader.reads ≡ true → u.reader.out ≡ total sending (set views id w)) views id w s.out_is
            (λ r. out ∙ (s.out_is id v here (sym reads ∙ r) ∙ sym still)) (λ j u apart e h r. h r ∙ sym still);
        ended_is = let t = total_same (λ u. length (open_in k.senders u)) views id v w here (ap length opens) in let e = s.ended_is in omega arith;
        once = λ o. let t = total_same (λ u. times o (open_in k.senders u)) views id v w here (ap (times o) opens) in let e = s.once o in omega arith;
        known = each_same (λ u. IsSeat k u.about u.sender u.reader u.lock) views id w s.known is;
      }

  -- PUTS

  pub puts_same : (line full : List ℕ) → ArePuts k line full views → w.sender ≡ v.sender → w.reader.seatless ≡ v.reader.seatless → ArePuts k line full (set views id w)
  puts_same line full p sender seatless = record {
    put_once = λ n. total_same (λ u. times n u.sender.puts) views id v w here (ap (λ (x : SenderPart). times n x.puts) sender) ∙ p.put_once n;
    count = total_same (λ u. length u.sender.puts) views id v w here (ap (λ (x : SenderPart). length x.puts) sender) ∙ p.count;
    within = p.within;
    one = p.one;
    knows = each_same (λ u. KnowsPuts k line full u.sender u.reader.seatless) views id w p.knows
        (subst (λ (x : SenderPart × List ℕ). KnowsPuts k line full x.0 x.1) (λ i. (sym sender i, sym seatless i)) (p.knows id v here));
  }

  -- THE READER

  pub reads_same : (ended : ℕ) (line : List ℕ) (passed : ℕ) (ends : Ends) → ReadsKnown k ended line passed ends views → w.reader ≡ v.reader → ReadsKnown k ended line passed ends (set views id w)
  reads_same ended line passed ends r e = each_same (λ u. u.reader.reads ≡ true → KnowsReads k ended line passed ends u.reader) views id w r (subst (λ (x : ReaderPart). x.reads ≡ true → KnowsReads k ended line passed ends x) (sym e) (r id v here))

  -- beside the reader
  pub reads_beside : (ended ended' : ℕ) (line line' : List ℕ) (passed : ℕ) (ends : Ends) → ReadsKnown k ended line passed ends views → w.reader.reads ≡ false → ((r : ReaderPart) → KnowsReads k ended line passed ends r → KnowsReads k ended' line' passed ends r) → ReadsKnown k ended' line' passed ends (set views id w)
  reads_beside ended ended' line line' passed ends r none_ more = each_step (λ u. u.reader.reads ≡ true → KnowsReads k ended line passed ends u.reader) (λ u. u.reader.reads ≡ true → KnowsReads k ended' line' passed ends u.reader) views id w r
      (λ reads. absurd (true≢false (sym reads ∙ none_))) (λ j u apart e h reads. more u.reader (h reads))

  -- the reader's own step
  pub reads_step : (ended : ℕ) (line : List ℕ) (passed passed' : ℕ) (ends ends' : Ends) → total reading views ≡ 1 → v.reader.reads ≡ true → ReadsKnown k ended line passed ends views → KnowsReads k ended line passed' ends' w.reader → ReadsKnown k ended line passed' ends' (set views id w)
  reads_step ended line passed passed' ends ends' one mine r new = each_step (λ u. u.reader.reads ≡ true → KnowsReads k ended line passed ends u.reader) (λ u. u.reader.reads ≡ true → KnowsReads k ended line passed' ends' u.reader) views id w r
      (λ _. new) (λ j u apart e _ yours. absurd (reads_alone views id j v u one here e apart mine yours))

  -- THE RING

  pub lock_here : get_elem? (locks_of views) id ≡ some v.lock
  lock_here = at_map (λ (u : View). u.lock) views id v here

  pub locks_after : locks_of (set views id w) ≡ set (locks_of views) id w.lock
  locks_after = map-set (λ (u : View). u.lock) views id w

  pub locks_same : w.lock ≡ v.lock → locks_of (set views id w) ≡ locks_of views
  locks_same e = locks_after ∙ (ap (set (locks_of views) id) e ∙ set_again (locks_of views) id v.lock lock_here)

  pub ring_same : (slots : List ℕ) (producer : ℕ) (g : TapState) → RingHolds k slots producer views g → w.lock ≡ v.lock → RingHolds k slots producer (set views id w) g
  ring_same slots producer g r e = subst (λ (ls : List Lock). HoldsBand k.len slots producer ls (band_of g) g.ends) (sym (locks_same e)) r

  pub ring_step : (slots : List ℕ) (producer : ℕ) (g : TapState) → HoldsBand k.len slots producer (set (locks_of views) id w.lock) (band_of g) g.ends → RingHolds k slots producer (set views id w) g
  ring_step slots producer g r = subst (λ (ls : List Lock). HoldsBand k.len slots producer ls (band_of g) g.ends) (sym locks_after) r

  -- THE CONSUMER LOCK

  pub lends_same : (consumer : ℕ) (home : maybe.Option Consumer) (ends : Ends) → Lends k.len consumer home ends views → w.reader.holds ≡ v.reader.holds → (w.reader.holds ≡ true → w.reader.reads ≡ true) → Lends k.len consumer home ends (set views id w)
  lends_same consumer home ends l e reads = record {
    held = l.held ∙ sym (total_same holding views id v w here (ap one_if e));
    readers = each_same (λ u. u.reader.holds ≡ true → u.reader.reads ≡ true) views id w l.readers reads;
    there = l.there;
    away = l.away;
  }

  -- who has the lock may move the ends
  pub lends_held : (consumer : ℕ) (home : maybe.Option Consumer) (ends ends' : Ends) → Lends k.len consumer home ends views → v.reader.holds ≡ true → w.reader.holds ≡ v.reader.holds → (w.reader.holds ≡ true → w.reader.reads ≡ true) → Lends k.len consumer home ends' (set views id w)
  lends_held consumer home ends ends' l has e reads =
      let some_one : total holding views ≡ consumer = sym l.held in let mine = total_one holding views id v here in let is : holding v ≡ 1 = ap one_if has in record {
        held = l.held ∙ sym (total_same holding views id v w here (ap one_if e));
        readers = each_same (λ u. u.reader.holds ≡ true → u.reader.reads ≡ true) views id w l.readers reads;
        there = λ none_. absurd (omega arith);
        away = l.away;
      }

-- THE RULE

module _ (k : Setup) (s : table.State Consumer View) (r : Rule k s) where
  pub rule_after : (i x id : ℕ) (homes : List (maybe.Option Consumer)) (home : maybe.Option Consumer) (w : View) (W : Words) (g : TapState) → homes ≡ home ∷ [] → words_of (set s.words i x) ≡ W → Parts k W home (set s.views id w) g
      → Rule k record { words = set s.words i x; homes = homes; views = set s.views id w }
  rule_after i x id homes home w W g deep by_name parts = record {
    home = home;
    state = g;
    limits = r.limits;
    wide = length-set s.words i x ∙ r.wide;
    deep = deep;
    parts = subst (λ (z : Words). Parts k z home (set s.views id w) g) (sym by_name) parts;
  }

  -- a load, after which the seat knows something else
  pub rule_load : (i id : ℕ) (w : View) (g : TapState) → Parts k (words_of s.words) r.home (set s.views id w) g → Rule k record { words = set s.words i (get_or s.words i 0); homes = s.homes; views = set s.views id w }
  rule_load i id w g parts = rule_after i (get_or s.words i 0) id s.homes r.home w (words_of s.words) g r.deep (ap words_of (set_back s.words i)) parts

  -- a load, after which it knows what it knew
  pub rule_same : (i id : ℕ) (v : View) → get_elem? s.views id ≡ some v → Rule k record { words = set s.words i (get_or s.words i 0); homes = s.homes; views = set s.views id v }
  rule_same i id v here = subst (λ (z : List ℕ × List View). Rule k record { words = z.0; homes = s.homes; views = z.1 }) (λ j. (sym (set_back s.words i) j, sym (set_again s.views id v here) j)) r
