-- StepsLone of a station with its card.
use Rattle.std.proofs.Common.{◌≡◌, ℕ, List, [], ◌∷◌, ◌++◌, length, drop, Option, refl, sym, ap, subst, ◌∙◌}
use Rattle.std.specs.Prelude.{option_to_list}
use Rattle.lq_model.specs.Alone.{RunningStation}
use Rattle.lq_model.specs.Capture.{Packets}
use Rattle.lq_model.specs.Wire.{Wired, with_flight, with_flights, newly_sent, sent_now, made_at}
use Rattle.lq_model.specs.declared.plan.Card.{Card}
use Rattle.lq_lone.specs.Lone.{StepsLone, lone_state}
use Rattle.lq_wire.specs.Wired.{IsWire, IsWired, StepsTo}
use Rattle.lq_wire.specs.declared.wired.Wired.{Wired as Linked}

drop-first : (xs ys : List ℕ) → drop (length xs) (xs ++ ys) ≡ ys
drop-first [] ys = refl
drop-first (x ∷ xs) ys = drop-first xs ys

append-both : (xs ys zs : List ℕ) → (xs ++ ys) ++ zs ≡ xs ++ (ys ++ zs)
append-both [] ys zs = refl
append-both (x ∷ xs) ys zs = ap (λ l. x ∷ l) (append-both xs ys zs)

module _ (card : Card) (packets : Packets) (now : ℕ) where
  -- the ring and the wire are the same whatever the station is
  moved : (ns : List ℕ) (w : Wired) (s : RunningStation) → with_flights card packets now ns (record w { station = s }) ≡ record (with_flights card packets now ns w) { station = s }
  moved [] w s = refl
  moved (n ∷ ns) w s = moved ns (with_flight card packets now n w) s

  both : (xs ys : List ℕ) (w : Wired) → with_flights card packets now (xs ++ ys) w ≡ with_flights card packets now ys (with_flights card packets now xs w)
  both [] ys w = refl
  both (x ∷ xs) ys w = both xs ys (with_flight card packets now x w)

  -- a step that sent these packets
  pub stepped-as : (step : RunningStation → RunningStation) (w : Wired) (xs : List ℕ) → sent_now (step w.station) ≡ sent_now w.station ++ xs
      → made_at card packets now step w ≡ record (with_flights card packets now xs w) { station = step w.station }
  stepped-as step w xs sent =
      ap (λ (ns : List ℕ). with_flights card packets now ns (record w { station = step w.station })) (ap (drop (length (sent_now w.station))) sent ∙ drop-first (sent_now w.station) xs)
      ∙ moved xs w (step w.station)

  -- what a call does to the station and to the card
  pub steps-to : (step : RunningStation → RunningStation) (accepted : Option ℕ) (w : Wired) (m : Linked) → StepsLone accepted (lone_state m.station) w.station (step w.station)
      → IsWire m.wire (with_flights card packets now (option_to_list accepted) w) → StepsTo card packets now step w m
  steps-to step accepted w m steps wire = record {
    wired = subst (IsWired m) (sym (stepped-as step w (option_to_list accepted) steps.sent)) (record { station = steps.is; wire = record { ring = wire.ring; free = wire.free; flights = wire.flights } });
    more = option_to_list accepted;
    sent = steps.sent;
  }

  -- nothing was done
  pub steps-none : (w : Wired) (m : Linked) → IsWired m w → StepsTo card packets now (λ s. s) w m
  steps-none w m is = record {
    wired = subst (IsWired m) (sym (stepped-as (λ s. s) w [] (sym (append-none (sent_now w.station))))) is;
    more = [];
    sent = sym (append-none (sent_now w.station));
  }
    where
      append-none : (xs : List ℕ) → xs ++ [] ≡ xs
      append-none [] = refl
      append-none (x ∷ xs) = ap (λ l. x ∷ l) (append-none xs)

  -- a step that makes the same of the station
  pub steps-same : (step other : RunningStation → RunningStation) (w : Wired) (m : Linked) → step w.station ≡ other w.station → StepsTo card packets now step w m → StepsTo card packets now other w m
  steps-same step other w m same steps = record {
    wired = subst (λ (t : RunningStation). IsWired m (with_flights card packets now (newly_sent w.station t) (record w { station = t }))) same steps.wired;
    more = steps.more;
    sent = subst (λ (t : RunningStation). sent_now t ≡ sent_now w.station ++ steps.more) same steps.sent;
  }

  -- one step after another
  pub steps-then : (first next : RunningStation → RunningStation) (w : Wired) (m n : Linked) → StepsTo card packets now first w m
      → StepsTo card packets now next (made_at card packets now first w) n → StepsTo card packets now (λ s. next (first s)) w n
  steps-then first next w m n one two =
      let t = first w.station in let xs = one.more in let ys = two.more in
      let here = stepped-as first w xs one.sent in
      let station : (made_at card packets now first w).station ≡ t = ap (λ (v : Wired). v.station) here in
      let sent : sent_now (next t) ≡ sent_now t ++ ys = subst (λ (s : RunningStation). sent_now (next s) ≡ sent_now s ++ ys) station two.sent in
      let all : sent_now (next t) ≡ sent_now w.station ++ (xs ++ ys) = sent ∙ (ap (λ (l : List ℕ). l ++ ys) one.sent ∙ append-both (sent_now w.station) xs ys) in
      let last : made_at card packets now next (made_at card packets now first w) ≡ made_at card packets now (λ s. next (first s)) w =
      ap (made_at card packets now next) here
      ∙ (stepped-as next (record (with_flights card packets now xs w) { station = t }) ys sent
      ∙ (ap (λ (v : Wired). record v { station = next t }) (moved ys (with_flights card packets now xs w) t ∙ ap (λ (v : Wired). record v { station = t }) (sym (both xs ys w)))
      ∙ sym (stepped-as (λ s. next (first s)) w (xs ++ ys) all))) in
      record { wired = subst (IsWired n) last two.wired; more = xs ++ ys; sent = all }
