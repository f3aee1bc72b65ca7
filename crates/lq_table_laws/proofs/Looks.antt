-- Steps by which the machine stays as it is: looks, and steps at the producer words, the turns and the fates.
use Rattle.std.proofs.Common.{◌≡◌, ℕ, ◌+◌, ◌<◌, true, List, set, get_or, refl, ap, ◌∙◌, arith, Option}
use mathlib.Core.Option.{some}
use mathlib.Core.Option as maybe
use lib.ListN.{get_elem?}
use Rattle.lq_device.specs.Station.{StationState}
use Rattle.lq_table.specs.Places.{fates_offset, producer_place, turn_place}
use Rattle.lq_table.specs.Views.{FirstPart, Setup, SharePart, View}
use Rattle.lq_table.specs.Rule.{Words, words_of, account, is_live, machine_of, Stands, Rule}
use Rattle.std.specs.Prelude.{length, nat_lt}
use Rattle.lq_band_laws.specs.Three.{put}
use Rattle.lq_table.proofs.ByName.{set_back, set_fate, set_producer, set_turn}
use Rattle.lq_table_laws.specs.Stands.{Table}
use Rattle.lq_table_laws.specs.Stepped.{Leads, Remains, none_sent}
use Rattle.lq_table_laws.proofs.Calls.{Beside, KeepsRings, stays_beside}
use Rattle.lq_table_laws.proofs.Determined.{same_part}

beside : (v w : View) → Remains v w → Beside v w
beside v w e = record {
  part = same_part w.holder v.holder e.holder;
  first = ap (λ (c : FirstPart). c.first) e.control;
  phase = ap (λ (c : FirstPart). c.phase) e.control;
  purge = ap (λ (c : FirstPart). c.purge) e.control;
}

module _ (k : Setup) (s : Table) (r : Rule k s) (i x id : ℕ) (v w : View) (homes : List (maybe.Option (Option StationState)))
    (r' : Rule k (record { words = set s.words i x; homes = homes; views = set s.views id w })) (here : get_elem? s.views id ≡ some v) (live : is_live v ≡ true) (same : homes ≡ s.homes) (e : Remains v w) where
  stays : (W : Words) → words_of k (set s.words i x) ≡ W → KeepsRings (words_of k s.words) W → Stands k W r.qdisc (account k r.state).down → Leads (none_sent 0 0) (machine_of r.qdisc s.views) (machine_of r'.qdisc (set s.views id w))
  stays W is rings stands = stays_beside k s r i x id v w homes r' here live (ap (λ (p : SharePart). nat_lt 0 p.shares) e.share ∙ live) W (account k r.state).down is rings stands same e.place (beside v w e)

  -- the word is as it was
  pub looks_only : x ≡ get_or s.words i 0 → Leads (none_sent 0 0) (machine_of r.qdisc s.views) (machine_of r'.qdisc (set s.views id w))
  looks_only word = stays (words_of k s.words) (ap (λ (z : ℕ). words_of k (set s.words i z)) word ∙ set_back k s.words i) (record { slots = refl; size = refl }) r.parts.station.stands

  pub at_producer : (b : ℕ) → b < 3 → i ≡ producer_place b → Leads (none_sent 0 0) (machine_of r.qdisc s.views) (machine_of r'.qdisc (set s.views id w))
  at_producer b below is = let t = r.parts.station.stands in let W = words_of k s.words in
      stays (record W { producers = put b x W.producers }) (ap (λ (z : ℕ). words_of k (set s.words z x)) is ∙ set_producer k s.words x b below (let wide = r.wide in omega arith)) (record { slots = refl; size = refl })
      (record { state = t.state; lock = t.lock; xoff = t.xoff; inside = t.inside; bypass = t.bypass })

  pub at_turn : (o : ℕ) → o < k.senders → i ≡ turn_place o → Leads (none_sent 0 0) (machine_of r.qdisc s.views) (machine_of r'.qdisc (set s.views id w))
  at_turn o below is = let t = r.parts.station.stands in let W = words_of k s.words in
      stays (record W { turns = set W.turns o x }) (ap (λ (z : ℕ). words_of k (set s.words z x)) is ∙ set_turn k s.words x o below (let wide = r.wide in omega arith)) (record { slots = refl; size = refl })
      (record { state = t.state; lock = t.lock; xoff = t.xoff; inside = t.inside; bypass = t.bypass })

  pub at_fate : (n : ℕ) → n < length k.infos → i ≡ fates_offset k + n → Leads (none_sent 0 0) (machine_of r.qdisc s.views) (machine_of r'.qdisc (set s.views id w))
  at_fate n below is = let t = r.parts.station.stands in let W = words_of k s.words in
      stays (record W { fates = set W.fates n x }) (ap (λ (z : ℕ). words_of k (set s.words z x)) is ∙ set_fate k s.words x n below) (record { slots = refl; size = refl })
      (record { state = t.state; lock = t.lock; xoff = t.xoff; inside = t.inside; bypass = t.bypass })
