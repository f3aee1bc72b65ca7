use Rattle.std.proofs.Common.{◌≡◌, ◌+◌, ◌<◌, ℕ, suc, List, [], ◌∷◌, ◌++◌, Option, false, map, refl, sym, ap, ap₂, subst, ◌∙◌, arith}
use Rattle.std.specs.Option.{option_map_or}
use Rattle.lq_model.specs.Numbers.{first_numbers}
use Rattle.lq_model.specs.Wire.{after_wired, first_wired, openings_of_card}
use Rattle.lq_model.specs.declared.plan.Card.{Card}
use Rattle.lq_model.specs.declared.plan.StationPlan.{StationPlan}
use Rattle.lq_card_laws.specs.Laws.{FitsCard}
use Rattle.lq_wire.specs.Wired.{HasTurned, IsWired, none_told}
use Rattle.lq_wire.proofs.Starts.{station-is}
use Rattle.lq_wire.proofs.Told.{told-on}
use Rattle.lq_wire.proofs.pass.times_of_wire.Goals as goal

map-last : (f : ℕ → ℕ) (xs : List ℕ) (n : ℕ) → map f (xs ++ n ∷ []) ≡ map f xs ++ f n ∷ []
map-last f [] n = refl
map-last f (x ∷ xs) n = ap (λ (l : List ℕ). f x ∷ l) (map-last f xs n)

pub loop-n-init : goal.loop-n-init
loop-n-init g c = record {
  times = c.in_ok-times.ensures.items;
  wired = λ some station fits. c.new-wired.ensures.wired station (station-is c.args.plan.now.stations c.station.result station c.station.ensures.station fits.one.stations)
      (record { queues = fits.queues; burst = fits.burst; never_busy = fits.never_busy; never_hangs = fits.never_hangs });
  time = λ some. c.first_time-time.ensures some;
  load = omega (arith, c.new-wired.ensures.load);
  bypass = c.new-wired.ensures.bypass ∙ sym (ap (λ (o : Option StationPlan). option_map_or (λ s. s.bypass) o false) c.station.ensures.station);
  card = c.new-wired.ensures.card;
}

pub loop-n-preserved : goal.loop-n-preserved
loop-n-preserved g c =
    let card = c.args.card in let plan = c.args.plan.now in let packets = g.F.Frames.packets c.args.frames.now in let infos = c.args.infos.now in
    let n = c.loop-n.n in let inv = c.loop-n.invariant in let done = c.in_ok-opened.ensures in let opened = c.in_ok-opened.opened in
    let test = c.loop-n-test.true in let count = c.requires.count in
    let below : n < packets.count = omega arith in
    let turned : (station : StationPlan) → FitsCard plan infos station → HasTurned card plan packets infos station n opened c.turn.new.wired =
    λ station fits. subst (λ (k : Card). HasTurned k plan packets infos station n opened c.turn.new.wired) inv.card
    (done.turned station fits (subst (λ (k : Card). IsWired c.loop-n.wired (none_told (after_wired k plan packets infos (first_wired station) n))) (sym inv.card) (inv.wired below station fits))) in
    let next : suc n ≡ n + 1 = omega arith in
    let opens = openings_of_card card plan packets infos in
    record {
      times =
          c.in_ok-push.ensures.items
          ∙ (ap₂ (λ (l : List ℕ) (k : ℕ). l ++ k ∷ []) inv.times (turned c.requires.fits.0 c.requires.fits.1).opens
          ∙ (sym (map-last opens (first_numbers n) n) ∙ ap (λ (k : ℕ). map opens (first_numbers k)) next));
      wired = λ more station fits. told-on card plan packets infos station n c.turn.new.wired c.tell_all.new.self ((turned station fits).next more) c.tell_all.ensures.told;
      time = λ more. done.time (omega arith);
      load = let here = c.tell_all.ensures.load in let turn = done.load in omega arith;
      bypass = c.tell_all.ensures.bypass ∙ (done.bypass ∙ inv.bypass);
      card = c.tell_all.ensures.card ∙ (done.card ∙ inv.card);
    }
