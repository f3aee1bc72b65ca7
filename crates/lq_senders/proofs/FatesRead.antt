-- After a run each packet's fate can be read, and stations lend their words.
use Rattle.std.proofs.Common.{◌≡◌, ℕ, ◌+◌, ◌<◌, List, inl, inr, length, get_or, Option, Some, refl, sym, ap, ◌∙◌, subst, arith}
use Rattle.std.specs.Option.{option_map_or}
use Rattle.std.specs.Prelude.{slice_get, slice_index, slice_set}
use Rattle.std.proofs.lemmas.Option.{same_Some, slice_get_within, slice_get-get_or, get_or_from_slice_get}
use Rattle.lq_model.specs.Device.{DeviceState}
use Rattle.lq_model.specs.Plan.{Plan, station_in}
use Rattle.lq_model.specs.Words.{IsWordOf}
use Rattle.lq_model.specs.declared.fate.Fate.{Fate}
use Rattle.lq_model.specs.declared.fate.Info.{Info}
use Rattle.lq_seat.specs.State.{SeatState, Setup, seat_account}
use Rattle.lq_senders.specs.Ends.{ClosedState, HasSentAll, IsClosedStation, IsReadable}
use Rattle.lq_senders.specs.Told.{AreLent, IsLentBy}
use Rattle.lq_table.specs.Ended.{EndedState}
use Rattle.lq_senders.specs.Senders.{IsSendable}
use Rattle.lq_senders.proofs.Seats.{set-apart, set-here}
use Rattle.lq_senders.proofs.Starts.{of-plan}
use Rattle.lq_senders.proofs.Turns.{event-there}
use Rattle.lq_senders.proofs.Ways.{below-or-at}
use Rattle.lq_table.specs.declared.ended.FateWords.{FateWords}

-- AFTER A RUN

-- the fate of a packet of the station in its account and in the closed table
pub fate-in : (plan : Plan) (infos : List Info) (v : SeatState) (x : ClosedState) (n : ℕ) → n < length infos → IsClosedStation plan infos (station_in infos n) v x
    → (fate : Fate) × ((seat_account v).fates n ≡ Some fate) × IsWordOf fate (slice_index x.ended.words n)
fate-in plan infos v x n inside closed = let ends = closed.ends in
    let decided = subst (λ (k : Setup). (n : ℕ) → n < length k.infos → station_in k.infos n ≡ k.station → (f : Fate) × ((seat_account v).fates n ≡ Some f)) ends.about ends.finished.decided n inside refl in (decided.0, decided.1, closed.fates n decided.0 inside refl decided.1)

module _ (plan : Plan) (infos : List Info) (opens : ℕ → ℕ) (others : ℕ) (start : List SeatState) (brought : List DeviceState) (closed : List ClosedState) (spares : List DeviceState) (ran : HasSentAll plan infos opens others start brought closed spares) (sendable : IsSendable plan infos) where
  as-closed : (n : ℕ) (x : ClosedState) → n < length infos → slice_get closed (station_in infos n) ≡ Some x → (v : SeatState) × IsClosedStation plan infos (station_in infos n) v x
  as-closed n x inside at =
      let c = event-there ran.seats (station_in infos n) (let below = of-plan plan infos sendable n inside in let one = ran.one_each in omega arith) in
      (c.0, ran.closed_are.each (station_in infos n) c.0 x c.1 at)

  pub readable : IsReadable infos closed
  readable = record {
    stations = λ n inside. let below = of-plan plan infos sendable n inside in let so_many = ran.closed_are.so_many in omega arith;
    packets = λ n x inside at. let is = (as-closed n x inside at).1 in let packets = is.packets_are in omega arith;
    each = λ n x inside at. let is = as-closed n x inside at in let fate = fate-in plan infos is.0 x n inside is.1 in (fate.0, fate.2);
  }

-- LENT WORDS

-- the words of one more station
pub one-more-lent : (ended : List EndedState) (count : ℕ) (lent : List (Option FateWords)) (y : EndedState) (w : FateWords) → count < length lent → slice_get ended count ≡ Some y → IsLentBy y w
    → AreLent ended count lent → AreLent ended (count + 1) (slice_set lent count (Some w))
one-more-lent ended count lent y w room here is all = record {
  each = λ station e below at. elim (below-or-at station count (omega (arith, below))) [
    | inl less ↦ (let old = all.each station e less at in (old.0, set-apart lent count station (Some w) (λ same. omega (arith, less, same)) ∙ old.1, old.2))
    | inr same ↦ (w, ap (slice_get (slice_set lent count (Some w))) same ∙ set-here lent count (Some w) room, subst (λ z. IsLentBy z w) (same_Some y e (sym here ∙ (ap (slice_get ended) (sym same) ∙ at))) is)
  ];
}

-- a packet's station, read off the list; and what lies at the station's place
module _ (infos : List Info) (lent : List (Option FateWords)) (n : ℕ) (d : Info) (inside : n < length infos) (w : FateWords) (at : slice_get lent (station_in infos n) ≡ Some (Some w)) where
  own-at : slice_get lent (get_or infos n d).station ≡ Some (Some w)
  own-at = subst (λ (o : Option Info). slice_get lent (option_map_or (λ info. info.station) o 0) ≡ Some (Some w)) (slice_get-get_or infos n d inside) at

  pub own-within : (get_or infos n d).station < length lent
  own-within = slice_get_within lent _ (Some w) own-at

  pub own-below : (count : ℕ) → length lent ≡ count → (get_or infos n d).station < count
  own-below count long = let within = own-within in omega arith

  pub own-words : (o : Option FateWords) → get_or lent (get_or infos n d).station o ≡ Some w
  own-words o = get_or_from_slice_get lent _ (Some w) o own-at
