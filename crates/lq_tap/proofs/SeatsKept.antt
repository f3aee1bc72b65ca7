-- Cutting a sender's seat off, joining one, and what the reader learns then keep the rule.
use Rattle.std.proofs.Common.{◌≡◌, ◌≢◌, ℕ, zero, suc, ◌+◌, ◌%◌, ◌<◌, ◌≤◌, Bool, true, false, true≢false, List, [], ◌∷◌, ◌++◌, set, drop, refl, sym, ap, ◌∙◌, subst, ⊎_elim, arith, length, length-append, Contains, AllPairs}
use Rattle.std.specs.Prelude.{if◌then◌else◌}
use Rattle.std.proofs.lemmas.Bool.{cases_eq, cases_Bool}
use Rattle.std.proofs.lemmas.List.{map-append}
use Rattle.std.proofs.lemmas.List.Elements.{Contains-append_cases}
use Rattle.std.proofs.Math.Nat.{mod-eq_of_lt}
use mathlib.Core.Option.{some, some-ne-none, some-injective}
use lib.ListN.{get_elem?}
use Rattle.atomic_table.specs.Table as table
use Rattle.atomic_table.specs.Table.{Step, Allows, Splits, Joins, keeps}
use Rattle.atomic_table.proofs.Lists.{at_set, set_again}
use Rattle.lq_band_laws.specs.Seats.{total}
use Rattle.lq_band_laws.specs.Times.{times}
use Rattle.lq_band_laws.specs.Ring.{Ends, Lock, unlocked, locking, stored_count, index_behind, KnowsLock, HoldsBand}
use Rattle.lq_band_laws.proofs.Seats.{total_set, total_same, total_one, total_snoc, each_step, each_same, each_snoc}
use Rattle.lq_band_laws.proofs.Times.{times_append, times_same}
use Rattle.lq_tap.specs.Views.{View, Setup, ReaderPart, no_reader, sender_view, spent_view}
use Rattle.lq_tap.specs.Told.{omitting, having_split, having_joined}
use Rattle.lq_tap.proofs.Tells.{Sat}
use Rattle.lq_tap.specs.Settled.{IsSettled, ComesBefore}
use Rattle.lq_tap.proofs.Tells.{learned}
use Rattle.lq_tap.specs.Rule.{words_of, TapState, one_if, reading, sending, open_in, IsSeat, came, KnowsPuts, KnowsReads, locks_of, band_of, holding, Rule}
use Rattle.lq_tap.specs.declared.view.Consumer.{Consumer}
use Rattle.lq_tap.proofs.ByName.{set_back}
use Rattle.lq_tap.proofs.Orders.{times_one, times_omitting, length_omitting, no_more, ordered_first, ordered_pairs}
use Rattle.lq_tap.proofs.Frames.{reads_alone, ring_same, lends_same}

-- THE RING BESIDE A SEAT MORE

pub ring_snoc : (size : ℕ) (slots : List ℕ) (word : ℕ) (seats : List Lock) (band : _) (c : Ends) → HoldsBand size slots word seats band c → HoldsBand size slots word (seats ++ unlocked ∷ []) band c
ring_snoc size slots word seats band c r = let a = total_snoc locking seats unlocked in let b = total_snoc stored_count seats unlocked in let o = r.one in let is = r.word_is in record {
  lap = r.lap;
  ahead = r.ahead;
  index = r.index;
  laps = r.laps;
  lap_is = r.lap_is;
  bounds = r.bounds;
  line_is = r.line_is;
  taken_is = r.taken_is;
  taken_within = r.taken_within;
  fits = r.fits;
  slots_are = r.slots_are;
  word_is = omega arith;
  one = omega arith;
  index_within = r.index_within;
  index_is = ap (λ (z : ℕ). index_behind size z r.index) (let same : total stored_count (seats ++ unlocked ∷ []) ≡ total stored_count seats = omega arith in same) ∙ r.index_is;
  knows = each_snoc (KnowsLock size r.index (c.tail + size) r.ahead) seats unlocked r.knows record { index_is = λ e. absurd (cc); size_is = λ n e _. absurd (cc); has_room = λ e _. absurd (cc); stores = λ e. absurd (cc) };
}

-- A SEAT IS CUT OFF

module _ (k : Setup) where
  pub splits : (id : ℕ) (v : View) (sender : ℕ) → v.about ≡ k → v.reader.reads ≡ true → sender < k.senders → 0 < times sender v.reader.seatless → Splits (Rule k) id v (having_split sender v) (sender_view v.about sender)
  splits id v sender about reads small has s r here =
      let p = r.parts in let g = r.state in let W = words_of s.words in let w : View = having_split sender v in let x : View = sender_view v.about sender in let views = set s.views id w in
      let no_sends : v.sender.sends ≡ false = ⊎_elim (λ (e : v.sender.sends ≡ true). absurd (true≢false (sym reads ∙ ap (λ (z : ReaderPart). z.reads) ((p.seats.known id v here).sender e)))) (λ e. e) (cases_Bool v.sender.sends) in
      let no_going : v.sender.going ≡ false = ⊎_elim (λ (e : v.sender.going ≡ true). absurd (true≢false (sym ((p.seats.known id v here).going e) ∙ no_sends))) (λ e. e) (cases_Bool v.sender.going) in
      let mine : open_in k.senders v ≡ v.reader.seatless = ap (λ (b : Bool). if b then v.sender.next % k.senders ∷ v.reader.seatless else v.reader.seatless) no_going in
      let left : open_in k.senders w ≡ omitting sender v.reader.seatless = ap (λ (b : Bool). if b then v.sender.next % k.senders ∷ omitting sender v.reader.seatless else omitting sender v.reader.seatless) no_going in
      let right : open_in k.senders x ≡ sender ∷ [] = ap (λ (z : ℕ). z ∷ []) (mod-eq_of_lt small) in
      let h = p.reads id v here reads in record {
        home = r.home;
        state = g;
        limits = r.limits;
        wide = r.wide;
        deep = r.deep;
        parts = record {
          seats = record {
            one_reader = let a = total_snoc reading views x in let b = total_same reading s.views id v w here refl in let c = p.seats.one_reader in omega arith;
            out_is = let a = total_snoc sending views x in let b = total_same sending s.views id v w here refl in
                each_snoc (λ u. u.reader.reads ≡ true → u.reader.out ≡ total sending (views ++ x ∷ [])) views x
                (each_step (λ u. u.reader.reads ≡ true → u.reader.out ≡ total sending s.views) (λ u. u.reader.reads ≡ true → u.reader.out ≡ total sending (views ++ x ∷ [])) s.views id w p.seats.out_is
                (λ _. let c = p.seats.out_is id v here reads in omega arith) (λ j u apart e _ yours. absurd (reads_alone s.views id j v u p.seats.one_reader here e apart reads yours)))
                (λ e. absurd (true≢false (sym e)));
            ended_is = let a = total_snoc (λ u. length (open_in k.senders u)) views x in let b = total_set (λ u. length (open_in k.senders u)) s.views id v w here in let c = p.seats.ended_is in
                let d = ap (λ (os : List ℕ). length os) mine in let e = ap (λ (os : List ℕ). length os) left in let f = ap (λ (os : List ℕ). length os) right in let o = length_omitting sender v.reader.seatless has in omega arith;
            once = λ o. let a = total_snoc (λ u. times o (open_in k.senders u)) views x in let b = total_set (λ u. times o (open_in k.senders u)) s.views id v w here in let c = p.seats.once o in
                let d = ap (times o) mine in let e = ap (times o) left in let f = ap (times o) right in let q = times_omitting sender o v.reader.seatless has in omega arith;
            known = each_snoc (λ u. IsSeat k u.about u.sender u.reader u.lock) views x
                (each_same (λ u. IsSeat k u.about u.sender u.reader u.lock) s.views id w p.seats.known
                (let q = p.seats.known id v here in record { reader_about = q.reader_about; sender_about = q.sender_about; sender = λ e. absurd (true≢false (sym e ∙ no_sends)); going = q.going; nothing = q.nothing }))
                record { reader_about = λ e. absurd (cc); sender_about = λ _. about; sender = λ _. refl; going = λ _. refl; nothing = λ _ e. absurd (cc) };
          };
          puts = record {
            put_once = λ n. let a = total_snoc (λ u. times n u.sender.puts) views x in let b = total_same (λ u. times n u.sender.puts) s.views id v w here refl in let c = p.puts.put_once n in omega arith;
            count = let a = total_snoc (λ u. length u.sender.puts) views x in let b = total_same (λ u. length u.sender.puts) s.views id v w here refl in let c = p.puts.count in omega arith;
            within = p.puts.within;
            one = p.puts.one;
            knows = each_snoc (λ u. KnowsPuts k g.line g.full u.sender u.reader.seatless) views x
                (each_same (λ u. KnowsPuts k g.line g.full u.sender u.reader.seatless) s.views id w p.puts.knows
                (let q = p.puts.knows id v here in record { saw = q.saw; next = q.next; fresh = λ o some_. q.fresh o (let z = times_omitting sender o v.reader.seatless has in omega arith) }))
                record {
                  saw = λ n y e. absurd (no_element (n, y) e);
                  next = λ _ n some_ same. absurd ((p.puts.knows id v here).fresh sender has n some_ (same ∙ mod-eq_of_lt small));
                  fresh = λ o some_. absurd (omega arith);
                };
          };
          reads = each_snoc (λ u. u.reader.reads ≡ true → KnowsReads k W.ended g.line g.passed g.ends u.reader) views x
              (each_same (λ u. u.reader.reads ≡ true → KnowsReads k W.ended g.line g.passed g.ends u.reader) s.views id w p.reads
              (λ _. record { ends_are = h.ends_are; counts = h.counts; earlier = h.earlier; batch = h.batch; kept = h.kept; taken = h.taken; in_order = h.in_order; lost = h.lost; ended_is = h.ended_is; drained = h.drained }))
              (λ e. absurd (true≢false (sym e)));
          ring = subst (λ (ls : List Lock). HoldsBand k.len W.slots W.producer ls (band_of g) g.ends) (sym (map-append (λ (u : View). u.lock) views (x ∷ []))) (ring_snoc k.len W.slots W.producer (locks_of views) (band_of g) g.ends (ring_same k s.views id v w here W.slots W.producer g p.ring refl));
          lends = let l = lends_same k s.views id v w here W.consumer r.home g.ends p.lends refl (p.lends.readers id v here) in record {
            held = let a = total_snoc holding views x in let b = l.held in omega arith;
            readers = each_snoc (λ u. u.reader.holds ≡ true → u.reader.reads ≡ true) views x l.readers (λ e. absurd (true≢false (sym e)));
            there = l.there;
            away = l.away;
          };
        };
      }
    where
      no_element : {A : Type 0} (y : A) → Contains [] y → ⊥
      no_element y (i, inside, is) = absurd (omega arith)

  -- TWO SEATS ARE JOINED

  pub joins : (id : ℕ) (v : View) (other : ℕ) (x : View) → v.reader.reads ≡ true → x.sender.sends ≡ true → x.sender.going ≡ false → x.lock ≡ unlocked → Joins (Rule k) id v other x (having_joined x v) spent_view
  joins id v other x reads sends stopped free s r here apart there =
      let p = r.parts in let g = r.state in let W = words_of s.words in let w : View = having_joined x v in let views = set s.views id w in
      let at_other : get_elem? s.views other ≡ some x = ⊎_elim (λ (t : (other ≡ id) × (w ≡ x)). absurd (apart t.0)) (λ (t : (other ≢ id) × (get_elem? s.views other ≡ some x)). t.1) (at_set s.views id other w x there) in
      let no_reads : x.reader ≡ no_reader = (p.seats.known other x at_other).sender sends in
      let seatless : x.reader.seatless ≡ [] = ap (λ (z : ReaderPart). z.seatless) no_reads in let not_reader : x.reader.reads ≡ false = ap (λ (z : ReaderPart). z.reads) no_reads in
      let closed : open_in k.senders x ≡ [] = ap (λ (b : Bool). if b then x.sender.next % k.senders ∷ x.reader.seatless else x.reader.seatless) stopped ∙ seatless in
      let one_sending : sending x ≡ 1 = ap one_if sends in let none_reading : reading x ≡ 0 = ap one_if not_reader in
      let h = p.reads id v here reads in let q = p.seats.known id v here in let qp = p.puts.knows id v here in let op = p.puts.knows other x at_other in
      let fewer = total_set sending views other x spent_view there in let one = total_set sending s.views id v w here in let some_out = total_one sending s.views other x at_other in let out = p.seats.out_is id v here reads in record {
        home = r.home;
        state = g;
        limits = r.limits;
        wide = r.wide;
        deep = r.deep;
        parts = record {
          seats = record {
            one_reader = let a = total_set reading views other x spent_view there in let b = total_same reading s.views id v w here refl in let c = p.seats.one_reader in omega arith;
            out_is = each_same (λ u. u.reader.reads ≡ true → u.reader.out ≡ total sending (set views other spent_view)) views other spent_view
                (each_step (λ u. u.reader.reads ≡ true → u.reader.out ≡ total sending s.views) (λ u. u.reader.reads ≡ true → u.reader.out ≡ total sending (set views other spent_view)) s.views id w p.seats.out_is
                (λ _. omega arith) (λ j u apart' e _ yours. absurd (reads_alone s.views id j v u p.seats.one_reader here e apart' reads yours)))
                (λ e. absurd (true≢false (sym e)));
            ended_is = let a = total_set (λ u. length (open_in k.senders u)) views other x spent_view there in let b = total_same (λ u. length (open_in k.senders u)) s.views id v w here refl in let c = p.seats.ended_is in let d = ap (λ (os : List ℕ). length os) closed in omega arith;
            once = λ o. let a = total_set (λ u. times o (open_in k.senders u)) views other x spent_view there in let b = total_same (λ u. times o (open_in k.senders u)) s.views id v w here refl in let c = p.seats.once o in let d = ap (times o) closed in omega arith;
            known = each_same (λ u. IsSeat k u.about u.sender u.reader u.lock) views other spent_view
                (each_same (λ u. IsSeat k u.about u.sender u.reader u.lock) s.views id w p.seats.known
                record { reader_about = q.reader_about; sender_about = q.sender_about; sender = λ e. absurd (true≢false (sym reads ∙ ap (λ (z : ReaderPart). z.reads) (q.sender e))); going = q.going; nothing = λ none_. absurd (true≢false (sym reads ∙ none_)) })
                record { reader_about = λ e. absurd (cc); sender_about = λ e. absurd (cc); sender = λ e. absurd (cc); going = λ e. absurd (cc); nothing = λ _ _. (refl, refl, refl, refl) };
          };
          puts = record {
            put_once = λ n. let a = total_set (λ u. times n u.sender.puts) views other x spent_view there in let b = total_set (λ u. times n u.sender.puts) s.views id v w here in let c = p.puts.put_once n in let d = times_append n v.sender.puts x.sender.puts in omega arith;
            count = let a = total_set (λ u. length u.sender.puts) views other x spent_view there in let b = total_set (λ u. length u.sender.puts) s.views id v w here in let c = p.puts.count in let d = length-append v.sender.puts x.sender.puts in omega arith;
            within = p.puts.within;
            one = p.puts.one;
            knows = each_same (λ u. KnowsPuts k g.line g.full u.sender u.reader.seatless) views other spent_view
                (each_same (λ u. KnowsPuts k g.line g.full u.sender u.reader.seatless) s.views id w p.puts.knows
                record { saw = λ n y e. ⊎_elim (λ old. qp.saw n y old) (λ came_. op.saw n y came_) (Contains-append_cases v.sender.fulls x.sender.fulls (n, y) e); next = qp.next; fresh = qp.fresh })
                record { saw = λ n y e. absurd (none_there (n, y) e); next = λ e. absurd (cc); fresh = λ o some_. absurd (omega arith) };
          };
          reads = each_same (λ u. u.reader.reads ≡ true → KnowsReads k W.ended g.line g.passed g.ends u.reader) views other spent_view
              (each_same (λ u. u.reader.reads ≡ true → KnowsReads k W.ended g.line g.passed g.ends u.reader) s.views id w p.reads
              (λ _. record { ends_are = h.ends_are; counts = h.counts; earlier = h.earlier; batch = h.batch; kept = h.kept; taken = h.taken; in_order = h.in_order; lost = h.lost; ended_is = h.ended_is; drained = h.drained }))
              (λ e. absurd (true≢false (sym e)));
          ring = ring_same k views other x spent_view there W.slots W.producer g (ring_same k s.views id v w here W.slots W.producer g p.ring refl) (sym free);
          lends = lends_same k views other x spent_view there W.consumer r.home g.ends (lends_same k s.views id v w here W.consumer r.home g.ends p.lends refl (p.lends.readers id v here)) (sym (ap (λ (z : ReaderPart). z.holds) no_reads)) (λ e. absurd (true≢false (sym e)));
        };
      }
    where
      none_there : {A : Type 0} (y : A) → Contains [] y → ⊥
      none_there y (i, inside, is) = absurd (omega arith)

-- WHAT THE READER LEARNS

-- where all others have none, one has all
pub total_only : (f : View → ℕ) (views : List View) (id : ℕ) (v : View) → get_elem? views id ≡ some v → ((j : ℕ) (u : View) → j ≢ id → get_elem? views j ≡ some u → f u ≡ 0) → total f views ≡ f v
total_only f [] id v e h = absurd (some-ne-none v (sym e))
total_only f (x ∷ xs) zero v e h = let is : f x ≡ f v = ap f (some-injective x v e) in let none_ : total f xs ≡ 0 = nothing f xs (λ j u e'. h (suc j) u (λ z. omega arith) e') in omega arith
  where
    nothing : (f : View → ℕ) (xs : List View) → ((j : ℕ) (u : View) → get_elem? xs j ≡ some u → f u ≡ 0) → total f xs ≡ 0
    nothing f [] h = refl
    nothing f (x ∷ xs) h = let a = h 0 x refl in let b = nothing f xs (λ j u e. h (suc j) u e) in omega arith
total_only f (x ∷ xs) (suc id) v e h = let a = h 0 x (λ z. omega arith) refl in let b = total_only f xs id v e (λ j u apart e'. h (suc j) u (λ z. apart (omega arith)) e') in omega arith

module _ (k : Setup) (s : table.State Consumer View) (r : Rule k s) (id : ℕ) (v : View) (here : get_elem? s.views id ≡ some v) (reads : v.reader.reads ≡ true) (none_out : v.reader.out ≡ 0) (drained : v.reader.drained ≡ true) where
  g : TapState
  g = r.state

  -- every other seat is spent
  alone : (j : ℕ) (u : View) → j ≢ id → get_elem? s.views j ≡ some u → u.sender.puts ≡ []
  alone j u apart there =
      let not_reader : u.reader.reads ≡ false = ⊎_elim (λ yours. absurd (reads_alone s.views id j v u r.parts.seats.one_reader here there apart reads yours)) (λ e. e) (cases_Bool u.reader.reads) in
      let none_ = total_one sending s.views j u there in let out = r.parts.seats.out_is id v here reads in
      let not_sender : u.sender.sends ≡ false = ⊎_elim (λ (yours : u.sender.sends ≡ true). absurd (let a : sending u ≡ 1 = ap one_if yours in omega arith)) (λ e. e) (cases_Bool u.sender.sends) in
      ((r.parts.seats.known j u there).nothing not_reader not_sender).0

  put_all : (n : ℕ) → times n v.sender.puts ≡ times n r.state.line
  put_all n = sym (total_only (λ u. times n u.sender.puts) s.views id v here (λ j u apart there. ap (times n) (alone j u apart there))) ∙ r.parts.puts.put_once n

  long : length v.sender.puts ≡ length r.state.line
  long = sym (total_only (λ u. length u.sender.puts) s.views id v here (λ j u apart there. ap (λ (ns : List ℕ). length ns) (alone j u apart there))) ∙ r.parts.puts.count

  pub settled : IsSettled v
  settled =
      let p = r.parts in let h = p.reads id v here reads in let left = h.drained drained in let about = (p.seats.known id v here).reader_about reads in let q = p.puts.knows id v here in let l = long in
      let len_is = ap (λ (x : Setup). x.len) about in let packets_is = ap (λ (x : Setup). x.packets) about in record {
        once = λ n. let a = put_all n in let b = h.counts n in let c = ap (times n) left.1 in omega arith;
        once_put = λ n. let a = put_all n in let b = p.puts.one n in omega arith;
        in_order = subst (λ (x : Setup). AllPairs (ComesBefore x.senders) v.reader.taken) (sym about) (ordered_pairs k.senders v.reader.taken (ordered_first k.senders v.reader.taken (drop r.state.passed r.state.line) h.in_order));
        saw = λ n seen e. let x = (q.saw n seen e).0 in let a = put_all seen in let b = p.puts.one seen in omega arith;
        not_put = λ n seen e. let x = (q.saw n seen e).1 in let a = put_all n in let b = p.puts.one n in omega arith;
        full = λ n seen e. let x = (q.saw n seen e).2 in omega arith;
        lost = λ some_. let x = h.lost some_ in omega arith;
        few = let few_ = no_more k.packets r.state.line (λ m some_. p.puts.within m (omega arith)) (λ m. let b = p.puts.one m in omega arith) in omega arith;
        few_full = λ n seen e. let x = (q.saw n seen e).1 in
            let few_ = no_more k.packets (n ∷ r.state.line) (λ m some_. p.puts.within m (come n x m some_)) (λ m. once_more n x m) in omega arith;
      }
    where
      come : (n : ℕ) → 0 < times n r.state.full → (m : ℕ) → 0 < times m (n ∷ r.state.line) → 0 < came r.state.line r.state.full m
      come n full m some_ = let a = times_append m (n ∷ []) r.state.line in ⊎_elim
          (λ (e : m ≡ n). let z : 0 < times m r.state.full = subst (λ (y : ℕ). 0 < times y r.state.full) (sym e) full in omega arith)
          (λ (apart : m ≢ n). let z : times m (n ∷ []) ≡ 0 = ⊎_elim (λ (none_ : times m (n ∷ []) ≡ 0). none_) (λ h. absurd (apart (times_one m n (omega arith)))) (cases_eq (times m (n ∷ [])) 0) in omega arith)
          (cases_eq m n)

      once_more : (n : ℕ) → 0 < times n r.state.full → (m : ℕ) → times m (n ∷ r.state.line) ≤ 1
      once_more n full m = let a = times_append m (n ∷ []) r.state.line in let b = r.parts.puts.one m in ⊎_elim
          (λ (e : m ≡ n). let z : 0 < times m r.state.full = subst (λ (y : ℕ). 0 < times y r.state.full) (sym e) full in let c = times_same m n [] e in omega arith)
          (λ (apart : m ≢ n). let z : times m (n ∷ []) ≡ 0 = ⊎_elim (λ (none_ : times m (n ∷ []) ≡ 0). none_) (λ h. absurd (apart (times_one m n (omega arith)))) (cases_eq (times m (n ∷ [])) 0) in omega arith)
          (cases_eq m n)

pub learns : (k : Setup) (slots id : ℕ) (m : Sat) (i : ℕ) (t : Step Consumer) → m.0.reader.reads ≡ true → Allows (Rule k) slots id m i (λ x. x) (learned t m)
learns k slots id m i t reads s r deep here small = (
  m.0,
  keeps,
  tt,
  subst (λ (z : List ℕ × List View). Rule k record { words = z.0; homes = s.homes; views = z.1 }) (λ j. (sym (set_back s.words i) j, sym (set_again s.views id m.0 here) j)) r,
  (refl, λ none_out drained. settled k s r id m.0 here reads none_out drained),
)
