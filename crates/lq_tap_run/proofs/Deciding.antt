-- The fates of a run, from what its seats know once they are joined.
use Rattle.std.proofs.Common.{◌≡◌, ◌<◌, ◌≤◌, ◌+◌, ◌%◌, ℕ, zero, suc, false, not, ltb, List, All, length, get_or, slice_get, Some, Contains, refl, sym, ap, ◌∙◌, subst, arith, inl, inr}
use Rattle.std.specs.Prelude.{AllPairs, count_by}
use Rattle.std.proofs.lemmas.Bool.{cases_lt, lt-ltb, le-ltb}
use Rattle.std.proofs.lemmas.List.Elements.{All-from_get_or, Contains-get_or}
use Rattle.std.proofs.lemmas.Option.{slice_get_cases, slice_get_within}
use Rattle.lq_band_laws.specs.Times.{times}
use Rattle.lq_band_laws.proofs.Times.{in_times, times_in}
use Rattle.lq_tap.specs.Sees.{IsMadeFor, setup, view}
use Rattle.lq_tap.specs.Settled.{IsSettled}
use Rattle.lq_tap.specs.Views.{Setup, View}
use Rattle.lq_tap.specs.declared.shared.Tap.{Tap}
use Rattle.lq_tap.specs.declared.shared.TapSeat.{TapSeat}
use Rattle.lq_fates.specs.Tap.{IsFateOf, IsFullTapFate, IsTapRun, is_full_tap, is_lost, is_read, put_count}
use Rattle.lq_fates.specs.declared.tap_fate.TapFate.{TapFate}
use Rattle.lq_fates.specs.declared.tap_fate.TapFate.TheVariants.{Read, Full, Lost}
use Rattle.lq_tap_run.specs.Lanes.{brought_by_lane, numbers_of, one_where}
use Rattle.lq_tap_run.specs.Marks.{AreMarked, IsMarked}
use Rattle.lq_tap_run.specs.Reads.{HasRead}
use Rattle.lq_tap_run.specs.Runs.{HasJoined}
use Rattle.lq_tap_run.proofs.Counting.{count_is, full_seen, length_is, sum_both, sum_ones, sum_to, times_full}
use Rattle.lq_tap_run.proofs.Marking.{is_in}
use Rattle.lq_tap_run.proofs.Seating.{all_joined}

-- what is known once all seats are joined
pub record Ends (count senders len : ℕ) (v : View) (read : List ℕ) : Type 0 where
  pub settled : IsSettled v
  pub once : (m : ℕ) → brought_by_lane m v ≡ one_where (ltb m count)
  pub packets_are : v.about.packets ≡ count
  pub senders_are : v.about.senders ≡ senders
  pub len_is : v.about.len ≡ len
  pub taken : v.reader.taken ≡ read
  pub few : length v.reader.destroyed ≤ length read

pub ends_of :
    (tap : Tap) (packets senders len : ℕ) (start seat : TapSeat) (read : List ℕ) → IsMadeFor packets len senders tap → HasRead tap start read → HasJoined tap packets senders 0 seat → IsSettled (view seat)
    → (view seat).reader.taken ≡ (view start).reader.taken → (view seat).reader.destroyed ≡ (view start).reader.destroyed → Ends packets senders len (view seat) read
ends_of tap packets senders len start seat read made has joined settled taken destroyed =
    let about : (view seat).about ≡ setup tap = joined.reader.0.1 in
    record {
      settled = settled;
      once = λ m. joined.once m ∙ all_joined packets senders m;
      packets_are = ap (λ (s : Setup). s.packets) about ∙ made.0;
      senders_are = ap (λ (s : Setup). s.senders) about ∙ made.2;
      len_is = ap (λ (s : Setup). s.len) about ∙ made.1;
      taken = taken ∙ has.taken;
      few = subst (λ (xs : List ℕ). length xs ≤ length read) (sym destroyed) has.few;
    }

module _ (count senders len : ℕ) (v : View) (read : List ℕ) (ends : Ends count senders len v read) where
  abbrev put_of : ℕ → ℕ
  put_of m = times m v.sender.puts

  abbrev full_of : ℕ → ℕ
  full_of m = times m (numbers_of v.sender.fulls)

  abbrev lost_of : ℕ → ℕ
  lost_of m = times m v.reader.destroyed

  parts : (m : ℕ) → put_of m ≡ times m read + lost_of m
  parts m = ends.settled.once m ∙ ap (λ (xs : List ℕ). times m xs + lost_of m) ends.taken

  inside : (m : ℕ) → m < count → put_of m + full_of m ≡ 1
  inside m lt = ends.once m ∙ ap one_where (lt-ltb m count lt)

  put_below : (m : ℕ) → 0 < put_of m → m < count
  put_below m some = elim (cases_lt m count) [
    | inl lt ↦ lt
    | inr past ↦ absurd (let none : brought_by_lane m v ≡ 0 = ends.once m ∙ ap one_where (le-ltb m count past) in omega arith)
  ]

  pub read_once : (m : ℕ) → times m read ≤ 1
  read_once m = (let few = ends.settled.once_put m in let both = parts m in omega arith)

  pub read_below : All (λ n. n < count) read
  read_below = All-from_get_or (λ n. n < count) read 0 (λ i lt. (
      let n = get_or read i 0 in
      let some : 0 < times n read = times_in n read (Contains-get_or read i 0 lt) in
      put_below n (let both = parts n in omega arith)))

  puts_are : sum_to count put_of ≡ length v.sender.puts
  puts_are = length_is count v.sender.puts put_below

  reads_are : sum_to count (λ m. times m read) ≡ length read
  reads_are = length_is count read (λ m some. put_below m (let both = parts m in omega arith))

  losts_are : sum_to count lost_of ≡ length v.reader.destroyed
  losts_are = length_is count v.reader.destroyed (λ m some. put_below m (let both = parts m in omega arith))

  pub few_read : length read ≤ count
  few_read =
      let both = sum_both count (λ m. times m read) lost_of put_of (λ m lt. parts m) in
      let few = ends.settled.few in let same = ends.packets_are in
      omega (arith, puts_are, reads_are, losts_are)

  module _ (fates : List TapFate) (are : AreMarked count v.sender.fulls read fates) where
    below : (n : ℕ) (fate : TapFate) → slice_get fates n ≡ Some fate → n < count
    below n fate at = subst (λ k. n < k) are.long (slice_get_within fates n fate at)

    -- how often a packet of each fate was put, read and destroyed
    tells : (n : ℕ) (fate : TapFate) → n < count → IsMarked v.sender.fulls read n fate → (one_where (not (is_full_tap fate)) ≡ put_of n) × (one_where (is_read fate) ≡ times n read) × (one_where (is_lost fate) ≡ lost_of n)
    tells n (Full seen) lt marked =
        let some : 0 < full_of n = times_full n seen v.sender.fulls marked in
        let one = inside n lt in let both = parts n in
        (omega arith, omega arith, omega arith)
    tells n (Read place) lt marked =
        let some : 0 < times n read = is_in n place read marked in
        let one = inside n lt in let both = parts n in
        (omega arith, omega arith, omega arith)
    tells n Lost lt marked =
        let none_full : full_of n ≡ 0 = marked.0 in
        let none_read : times n read ≡ 0 = marked.1 in
        let one = inside n lt in let both = parts n in
        (omega arith, omega arith, omega arith)

    told : (n : ℕ) (fate : TapFate) → slice_get fates n ≡ Some fate → (one_where (not (is_full_tap fate)) ≡ put_of n) × (one_where (is_read fate) ≡ times n read) × (one_where (is_lost fate) ≡ lost_of n)
    told n fate at = tells n fate (below n fate at) (are.each n fate at)

    put_are : put_count fates ≡ length v.sender.puts
    put_are = count_is (λ (fate : TapFate). not (is_full_tap fate)) fates put_of (λ n fate at. (told n fate at).0) ∙ ap (λ k. sum_to k put_of) are.long ∙ puts_are

    read_are : count_by is_read fates ≡ length read
    read_are = count_is is_read fates (λ m. times m read) (λ n fate at. (told n fate at).1) ∙ ap (λ k. sum_to k (λ m. times m read)) are.long ∙ reads_are

    lost_are : count_by is_lost fates ≡ length v.reader.destroyed
    lost_are = count_is is_lost fates lost_of (λ n fate at. (told n fate at).2) ∙ ap (λ k. sum_to k lost_of) are.long ∙ losts_are

    -- where there is room for all, none is full
    none_full : count ≤ len → (m : ℕ) → full_of m ≡ 0
    none_full le m = go (full_of m) refl
      where
        go : (k : ℕ) → full_of m ≡ k → full_of m ≡ 0
        go zero is = is
        go (suc k) is =
            let found = full_seen m v.sender.fulls (omega arith) in
            let full = ends.settled.full m found.0 found.1 in
            let few = ends.settled.few_full m found.0 found.1 in
            let same = ends.packets_are in let long = ends.len_is in
            absurd (omega arith)

    all_read : count ≤ len → count_by is_read fates ≡ count
    all_read le =
        let all_put : sum_to count put_of ≡ count = sum_ones count put_of (λ m lt. (let one = inside m lt in let none = none_full le m in omega arith)) in
        let both = sum_both count (λ m. times m read) lost_of put_of (λ m lt. parts m) in
        let none_lost : length v.reader.destroyed ≡ 0 = (elim (cases_lt 0 (length v.reader.destroyed)) [
          | inl some ↦ (let more = ends.settled.lost some in let long = ends.len_is in absurd (omega (arith, puts_are)))
          | inr none ↦ omega arith
        ]) in
        omega (arith, read_are, reads_are, losts_are)

    not_full : (fate : TapFate) → one_where (not (is_full_tap fate)) ≡ 1 → is_full_tap fate ≡ false
    not_full (Read place) e = refl
    not_full (Full seen) e = absurd (omega arith)
    not_full Lost e = refl

    full_fate : (n seen : ℕ) → Contains v.sender.fulls (n, seen) → IsFullTapFate len fates n seen
    full_fate n seen marked =
        let put : put_of seen ≡ 1 = ends.settled.saw n seen marked in
        let unput : put_of n ≡ 0 = ends.settled.not_put n seen marked in
        let lt : seen < count = put_below seen (omega arith) in
        let within : seen < length fates = subst (λ k. seen < k) (sym are.long) lt in
        let enough = ends.settled.full n seen marked in
        let long = ends.len_is in
        record {
          another = λ e. (let same : put_of seen ≡ put_of n = ap put_of e in omega arith);
          seen_put = (elim (slice_get_cases fates seen).1 [
            | inl there ↦ (there.0, there.2, not_full there.0 ((told seen there.0 there.2).0 ∙ put))
            | inr past ↦ absurd (let p = past.0 in omega arith)
          ]);
          enough = omega (arith, put_are);
        }

    some_in : (n : ℕ) (xs : List ℕ) → 0 < times n xs → 0 < length xs
    some_in n xs some = (let found = in_times n xs some in let lt = found.1 in omega arith)

    fate_of : (n : ℕ) (fate : TapFate) → slice_get fates n ≡ Some fate → IsFateOf len fates n fate
    fate_of n (Read place) at = _
    fate_of n (Full seen) at = full_fate n seen (are.each n (Full seen) at)
    fate_of n Lost at =
        let one : 1 ≡ lost_of n = (told n Lost at).2 in
        let more = ends.settled.lost (some_in n v.reader.destroyed (omega arith)) in
        let long = ends.len_is in
        omega (arith, put_are)

    in_order : AllPairs (λ m n. m % senders ≡ n % senders → m < n) read
    in_order =
        subst (λ (k : ℕ). AllPairs (λ m n. m % k ≡ n % k → m < n) read) ends.senders_are
        (subst (λ (xs : List ℕ). AllPairs (λ m n. m % v.about.senders ≡ n % v.about.senders → m < n) xs) ends.taken ends.settled.in_order)

    pub is_run : IsTapRun count senders len fates read
    is_run = record {
      one_each = are.long;
      places = λ n place. (λ at. are.each n (Read place) at, λ at. are.placed place n at);
      order = in_order;
      room = all_read;
      each = fate_of;
      few_lost = (let few = ends.few in omega (arith, lost_are, read_are));
    }
