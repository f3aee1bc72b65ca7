-- What a load of a producer word, and the exchange that takes its lock, tell a seat that has the table alone.
use Rattle.std.proofs.Common.{◌≡◌, ◌≢◌, ℕ, ◌+◌, ◌*◌, ◌%◌, ◌<◌, ◌≤◌, Bool, true, false, List, [], ◌∷◌, length, map, refl, sym, ap, ap₂, ◌∙◌, ⊎_elim, arith, Option, Some, None, get_or}
use Rattle.std.specs.Prelude.{if◌then◌else◌, nat_lt}
use Rattle.std.proofs.lemmas.Bool.{cases_eq, cases_lt}
use mathlib.Core.Option.{some, some-injective}
use lib.ListN.{get_elem?}
use Rattle.atomic_table.specs.Table as table
use Rattle.lq_device.specs.Station.{StationState}
use Rattle.lq_model.specs.Account.{Account}
use Rattle.lq_model.specs.Machine.{Purge, bit}
use Rattle.lq_band_laws.specs.Seats.{total}
use Rattle.lq_band_laws.specs.Three.{Three, at}
use Rattle.lq_band_laws.specs.Ring.{Lock, unlocked, locking, stored_count, index_behind}
use Rattle.lq_band_laws.proofs.Seats.{total_two, total_le}
use Rattle.lq_band_laws.proofs.Three.{at_all}
use Rattle.lq_band_laws.proofs.StandsFor.{index_stands}
use Rattle.lq_table.specs.Places.{producer_place}
use Rattle.lq_table.specs.Views.{View, Setup, Left}
use Rattle.lq_table.specs.Rule.{words_of, account, bands_now, locks_at, Leaves, Rule}
use Rattle.lq_table.specs.Producers.{producer_index, SeesProducer}
use Rattle.lq_table.proofs.ByName.{producer_of}
use Rattle.lq_table.proofs.Facts.{none_if}
use Rattle.lq_table.proofs.SoleFacts.{knows_account}
use Rattle.lq_table.proofs.ClearDeactivatedKept.{one_of}

total_map : {A B : Type 0} (f : B → ℕ) (g : A → B) (xs : List A) → total f (map g xs) ≡ total (λ x. f (g x)) xs
total_map f g [] = refl
total_map f g (x ∷ xs) = ap (λ (n : ℕ). f (g x) + n) (total_map f g xs)

not_locking : (l : Lock) → l.holds ≡ false → locking l ≡ 0
not_locking l free = ap (λ (c : Bool). if c then 1 else 0) free

fewer : (b c : Bool) → (b ≡ true → c ≡ true) → bit b ≤ bit c
fewer false c h = omega arith
fewer true c h = let e : bit c ≡ 1 = ap bit (h refl) in omega arith

-- a purge half done leaves the line of what joined
same_line : (left : Option Left) (purge : Option Purge) (a : Account) (b : ℕ) → b < 3 → Leaves left purge a → (bands_now left a.bands b).line ≡ (a.bands b).line
same_line None purge a b below x = refl
same_line (Some l) purge a b below x = (x.lines l refl b below).0

module _ (k : Setup) (s : table.State (Option StationState) View) (r : Rule k s) (id : ℕ) (v : View) (here : get_elem? s.views id ≡ some v) where
  -- the others are spent, so they have no producer lock
  nobody_locks : v.share.shares ≡ 1024 → (b : ℕ) → (at b v.locks).holds ≡ false → total locking (locks_at b s.views) ≡ 0
  nobody_locks all_shares b free =
      let count : View → ℕ = λ u. locking (at b u.locks) in let by_views = total_map locking (λ (u : View). at b u.locks) s.views in ⊎_elim
      (λ (some_ : 0 < total count s.views). let o = one_of count s.views some_ in let has = o.has in absurd (⊎_elim
      (λ (same : o.id ≡ id). let is : o.one ≡ v = some-injective o.one v (sym o.at_id ∙ (ap (get_elem? s.views) same ∙ here)) in
      let none_ : count o.one ≡ 0 = ap count is ∙ not_locking (at b v.locks) free in omega arith)
      (λ (apart : o.id ≢ id). let two = total_two (λ (z : View). z.share.shares) s.views id o.id v o.one here o.at_id apart in let sum = r.parts.seats.shares.sum in
      let no_share : o.one.share.shares ≡ 0 = omega (arith, all_shares) in
      let spent = r.parts.seats.shares.spent o.id o.one o.at_id (ap (λ (n : ℕ). nat_lt 0 n) no_share) in
      let none_ : count o.one ≡ 0 = ap (λ (ls : Three Lock). locking (at b ls)) spent.1 ∙ ap locking (at_all b unlocked) in omega arith)
      (cases_eq o.id id)))
      (λ none_. omega arith)
      (cases_lt 0 (total count s.views))

  pub sees_producer : (b : ℕ) → b < 3 → 0 < v.share.shares → SeesProducer b v (get_or s.words (producer_place b) 0)
  sees_producer b below some_share sole free =
      let p = r.parts in let g = r.state in let a = account k g in let W = words_of k s.words in let ls = locks_at b s.views in
      let none_ : total locking ls ≡ 0 = nobody_locks sole.0 b free in
      let calm : g.resizing ≡ None = none_if g.resizing (λ t now. let one = ((p.station.rings.half_resized t now).ring b below).one in absurd (omega arith)) in
      let run = p.station.rings.running calm in let ring = run.ring b below in
      let stored : total stored_count ls ≡ 0 = let less = total_le stored_count locking ls (λ j l e. fewer l.stored l.holds (ring.knows j l e).stores) in omega arith in
      let index : ring.index ≡ producer_index b v =
      ap (λ (n : ℕ). index_behind W.size n ring.index) (sym stored) ∙ index_stands W.size (at b W.slots) (at b W.producers) ls (bands_now g.left a.bands b) (at b g.ends) ring
      ∙ ap₂ (λ (n size : ℕ). n % size) (ap (λ (line : List ℕ). length line) (same_line g.left r.qdisc.purge a b below p.account.leaves)) run.size_is
      ∙ ap (λ (x : Account). length (x.bands b).line % x.len) (sym (knows_account k s r id v here some_share sole)) in
      let word : at b W.producers ≡ 2 * ring.index = let is = ring.word_is in omega arith in
      producer_of k s.words b below ∙ word ∙ ap (λ (n : ℕ). 2 * n) index
