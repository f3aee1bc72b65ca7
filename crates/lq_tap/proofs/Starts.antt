-- The rule at the start.
use Rattle.std.proofs.Common.{◌≡◌, ℕ, zero, suc, ◌+◌, ◌<◌, ◌≤◌, true, List, [], ◌∷◌, length, replicate, drop, ◌≢◌, ⊎_elim, inr, refl, sym, ap, ◌∙◌, subst, arith, get_or, length-drop, Contains}
use lib.ListN.{length-replicate}
use Rattle.std.proofs.lemmas.List.{get_or-drop}
use mathlib.Core.Option.{some}
use Rattle.atomic_table.specs.Table.{opening}
use Rattle.lq_model.specs.Band.{empty_band}
use Rattle.lq_ring_core.specs.Slots.{round}
use Rattle.lq_ring_core.proofs.Places.{round-below, batch-positive}
use Rattle.lq_band_laws.specs.Times.{times}
use Rattle.lq_band_laws.specs.Ring.{at_start, unlocked, KnowsLock, HoldsBand}
use Rattle.lq_band_laws.proofs.Seats.{each_one}
use Rattle.lq_band_laws.proofs.Windows.{content-held}
use Rattle.lq_band_laws.proofs.EndsKept.{resting_if}
use Rattle.lq_tap.specs.Views.{View, Setup, counting, first_view}
use Rattle.lq_tap.specs.Rule.{IsWithin, sending, IsSeat, KnowsPuts, KnowsReads, consumer_of, Rule}
use Rattle.lq_tap.specs.declared.view.Consumer.{Consumer}
use Rattle.std.proofs.lemmas.Bool.{cases_eq}
use Rattle.lq_band_laws.specs.Seats.{total}
use Rattle.lq_band_laws.proofs.Times.{times_same, times_other}

all_zero : (n m : ℕ) → get_or (replicate {A = ℕ} n 0) m 0 ≡ 0
all_zero zero m = refl
all_zero (suc n) zero = refl
all_zero (suc n) (suc m) = all_zero n m

ring_starts : (len : ℕ) (slots : List ℕ) → 0 < len → len ≤ length slots → ((j : ℕ) → get_or slots j 0 ≡ 0) → HoldsBand len slots 0 (unlocked ∷ []) empty_band at_start
ring_starts len slots some_len wide zeros = record {
  lap = 0;
  ahead = 0;
  index = 0;
  laps = 0;
  lap_is = omega arith;
  bounds = record { positive = some_len; tail_within = some_len; head_within = omega arith; tail_first = omega arith; edge_within = omega arith; few = omega arith; all_emptied = λ h. h };
  line_is = refl;
  taken_is = refl;
  taken_within = omega arith;
  fits = omega arith;
  slots_are = record { wide = wide; window = λ j h h'. zeros (round len j) ∙ sym (content-held [] 0 at_start j (inr (omega arith))); beyond = λ j h. zeros j };
  word_is = refl;
  one = omega arith;
  index_within = some_len;
  index_is = sym (round-below len 0 some_len);
  knows = each_one (KnowsLock len 0 (0 + len) 0) unlocked record { index_is = λ e. absurd (cc); size_is = λ n e _. absurd (cc); has_room = λ e _. absurd (cc); stores = λ e. absurd (cc) };
}

length_counting : (first n : ℕ) → length (counting first n) ≡ n
length_counting first zero = refl
length_counting first (suc n) = let more = length_counting (first + 1) n in omega arith

-- a number below the first isn't among them, and each is there once
not_before : (o first n : ℕ) → o < first → times o (counting first n) ≡ 0
not_before o first zero h = refl
not_before o first (suc n) h = let a = times_other o first (counting (first + 1) n) (λ e. omega arith) in let b = not_before o (first + 1) n (omega arith) in omega arith

once_counting : (o first n : ℕ) → times o (counting first n) ≤ 1
once_counting o first zero = omega arith
once_counting o first (suc n) = ⊎_elim
    (λ (e : o ≡ first). let a = times_same o first (counting (first + 1) n) e in let b = not_before o (first + 1) n (omega arith) in omega arith)
    (λ (e : o ≢ first). let a = times_other o first (counting (first + 1) n) e in let b = once_counting o (first + 1) n in omega arith)
    (cases_eq o first)

none_in : {A : Type 0} (x : A) → Contains [] x → ⊥
none_in x (i, inside, is) = absurd (omega arith)

pub starts : (k : Setup) (home : Consumer) → IsWithin k → home ≡ consumer_of at_start → Rule k (opening (replicate (32 + k.len) 0) (home ∷ []) (first_view k))
starts k home limits is =
    let ws : List ℕ = replicate (32 + k.len) 0 in let v : View = first_view k in let zero_at : (i : ℕ) → get_or ws i 0 ≡ 0 = λ i. all_zero (32 + k.len) i in
    let long : length ws ≡ 32 + k.len = length-replicate (32 + k.len) 0 in let some_slot = limits.some_slot in
    let wide : k.len ≤ length (drop 32 ws) = let d = length-drop 32 ws in omega arith in record {
      home = some home;
      state = record { line = []; full = []; passed = 0; ends = at_start };
      limits = limits;
      wide = long;
      deep = refl;
      parts = record {
        seats = record {
          one_reader = refl;
          out_is = each_one (λ u. u.reader.reads ≡ true → u.reader.out ≡ total sending (v ∷ [])) v (λ _. refl);
          ended_is = let a = zero_at 24 in let b = length_counting 0 k.senders in omega arith;
          once = λ o. let a = once_counting o 0 k.senders in omega arith;
          known = each_one (λ u. IsSeat k u.about u.sender u.reader u.lock) v record { reader_about = λ _. refl; sender_about = λ e. absurd (cc); sender = λ e. absurd (cc); going = λ e. absurd (cc); nothing = λ e. absurd (cc) };
        };
        puts = record {
          put_once = λ n. refl;
          count = refl;
          within = λ n some_. absurd (omega arith);
          one = λ n. omega arith;
          knows = each_one (λ u. KnowsPuts k [] [] u.sender u.reader.seatless) v record { saw = λ n seen e. absurd (none_in (n, seen) e); next = λ e. absurd (cc); fresh = λ o has n some_. absurd (omega arith) };
        };
        reads = each_one (λ u. u.reader.reads ≡ true → KnowsReads k (get_or ws 24 0) [] 0 at_start u.reader) v (λ _. record {
          ends_are = refl;
          counts = λ n. refl;
          earlier = [];
          batch = refl;
          kept = [];
          taken = refl;
          in_order = tt;
          lost = λ some_. absurd (omega arith);
          ended_is = λ e. absurd (cc);
          drained = λ e. absurd (cc);
        });
        ring = subst (λ (x : ℕ). HoldsBand k.len (drop 32 ws) x (unlocked ∷ []) empty_band at_start) (sym (zero_at 8)) (ring_starts k.len (drop 32 ws) some_slot wide (λ j. get_or-drop 32 ws j 0 ∙ zero_at (32 + j)));
        lends = record {
          held = zero_at 16;
          readers = each_one (λ u. u.reader.holds ≡ true → u.reader.reads ≡ true) v (λ _. refl);
          there = λ _. (ap some is, (omega arith, some_slot, refl, resting_if k.len at_start (let b = batch-positive k.len in omega arith) some_slot));
          away = λ some_. absurd (let z = zero_at 16 in omega arith);
        };
      };
    }
