-- What the steps on the producer word of a band share.
use Rattle.std.proofs.Common.{◌≡◌, ℕ, ◌<◌, set, refl, sym, subst, arith, Option, None}
use Rattle.std.proofs.lemmas.Bool.{lt-ltb}
use mathlib.Core.Option.{some}
use lib.ListN.{get_elem?}
use Rattle.atomic_table.specs.Table as table
use Rattle.lq_device.specs.Station.{StationState}
use Rattle.lq_band_laws.specs.Three.{at, put}
use Rattle.lq_band_laws.specs.Ring.{Lock, IsRing}
use Rattle.lq_band_laws.proofs.Three.{at_put_same, at_put_other}
use Rattle.lq_table.specs.Places.{producer_place}
use Rattle.lq_table.specs.Views.{View, Setup}
use Rattle.lq_table.specs.Rule.{words_of, account, bands_now, locks_at, Rule}
use Rattle.lq_table.specs.Producers.{with_lock_at}
use Rattle.lq_table.proofs.ByName.{set_producer}
use Rattle.lq_table.proofs.Quiet.{beside}
use Rattle.lq_table.proofs.Frames.{rings_step}

module _ (k : Setup) where
  -- the word of the producer, and what the seat knows of it, change
  pub producer_step : (s : table.State (Option StationState) View) (r : Rule k s) (id b x : ℕ) (v : View) (l : Lock) → r.state.resizing ≡ None → b < 3 → get_elem? s.views id ≡ some v → 0 < v.share.shares
      → IsRing (words_of k s.words).size (at b (words_of k s.words).slots) x (set (locks_at b s.views) id l) (bands_now r.state.left (account k r.state).bands b) (at b r.state.ends)
      → Rule k record { words = set s.words (producer_place b) x; homes = s.homes; views = set s.views id (with_lock_at b l v) }
  producer_step s r id b x v l calm below here some_share ring =
      let p = r.parts in let g = r.state in let a = account k g in let W = words_of k s.words in let w : View = with_lock_at b l v in
      beside k s r (producer_place b) x id v (put b l v.locks) (put b x W.producers) W.slots here (lt-ltb 0 v.share.shares some_share) (set_producer k s.words x b below (let wide = r.wide in omega arith))
      (rings_step k s.views id v w here k.max_len W.size W.producers (put b x W.producers) W.slots W.slots a.len (bands_now g.left a.bands) (bands_now g.left a.bands) g.ends g.ends g.resizing b p.station.rings calm
      (subst (λ (z : ℕ × Lock). IsRing W.size (at b W.slots) z.0 (set (locks_at b s.views) id z.1) (bands_now g.left a.bands b) (at b g.ends)) (λ i. (sym (at_put_same b x W.producers) i, sym (at_put_same b l v.locks) i)) ring)
      (λ c h n. (refl, at_put_other b c x W.producers below h n, at_put_other b c l v.locks below h n, refl, refl)))
