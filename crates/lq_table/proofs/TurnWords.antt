-- What the turn words say between any two steps.
use Rattle.std.proofs.Common.{◌≡◌, ◌≢◌, ℕ, ◌+◌, ◌*◌, ◌<◌, Bool, true, false, List, refl, sym, ap, ◌∙◌, arith, ⊎_elim, Option, Some, None, eq-eqb, ne_eqb}
use Rattle.std.specs.Prelude.{if◌then◌else◌, slice_index}
use Rattle.std.proofs.lemmas.Bool.{cases_Bool, cases_eq}
use Rattle.atomic_table.specs.Table as table
use Rattle.lq_device.specs.Station.{StationState}
use Rattle.lq_model.specs.Plan.{owner_in, rank_in}
use Rattle.lq_model.specs.declared.fate.Info.{Info}
use Rattle.lq_model.specs.declared.machine.Packet.{Packet}
use Rattle.lq_band_laws.proofs.Seats.{total_one}
use Rattle.lq_table.specs.Views.{View, Setup, PacketPart}
use Rattle.lq_table.specs.Rule.{words_of, is_live, has_turn, Rule}
use Rattle.lq_table.specs.Between.{AreTurns}
use Rattle.lq_table.proofs.Frames.{none_some}
use Rattle.lq_table.proofs.ClearDeactivatedKept.{one_of}

-- a turn that counts at an owner is of one of its packets
turn_of : (infos : List Info) (o : ℕ) (busy : Option ℕ) → 0 < has_turn infos o busy → (n : ℕ) × (busy ≡ Some n) × (owner_in infos n ≡ o)
turn_of infos o None h = absurd (omega arith)
turn_of infos o (Some n) h = (
  n,
  refl,
  ⊎_elim (λ (e : owner_in infos n ≡ o). e)
      (λ (e : owner_in infos n ≢ o). absurd (let z : has_turn infos o (Some n) ≡ 0 = ap (λ (b : Bool). if b then 1 else 0) (ne_eqb (owner_in infos n) o e) in omega arith)) (cases_eq (owner_in infos n) o),
)

counts : (infos : List Info) (o n : ℕ) (busy : Option ℕ) → busy ≡ Some n → owner_in infos n ≡ o → has_turn infos o busy ≡ 1
counts infos o n busy is e = ap (has_turn infos o) is ∙ ap (λ (b : Bool). if b then 1 else 0) (eq-eqb (owner_in infos n) o e)

pub turn_words : (k : Setup) (s : table.State (Option StationState) View) (r : Rule k s) → AreTurns k (words_of k s.words).turns s.views r.state.past
turn_words k s r = let seats = r.parts.seats in let hands = r.parts.machine.hands in let words = (words_of k s.words).turns in record {
  even = λ o rank below is j v at transmits.
      let turn = seats.given.turn o below in let own = hands j v at transmits.0 transmits.1 transmits.2 in
      let mine : has_turn k.infos o v.packets.busy ≡ 1 = counts k.infos o own.2 v.packets.busy own.3 (sym (ap (λ (p : Packet). p.owner) own.4) ∙ transmits.3) in
      let some_ = total_one (λ u. has_turn k.infos o u.packets.busy) s.views j v at in let few = seats.given.one o below in let word = turn.1 in
      absurd (omega arith);
  odd = λ o rank below is.
      let turn = seats.given.turn o below in let word = turn.1 in
      let has = one_of (λ u. has_turn k.infos o u.packets.busy) s.views (omega arith) in let n = turn_of k.infos o has.one.packets.busy has.has in
      let knows = (seats.turns.knows has.id has.one has.at_id).busy n.0 n.1 in
      let live : is_live has.one ≡ true = ⊎_elim (λ (lives : is_live has.one ≡ true). lives)
      (λ (gone : is_live has.one ≡ false). absurd (none_some (sym (ap (λ (x : PacketPart). x.busy) (seats.shares.spent has.id has.one has.at_id gone).0) ∙ n.1))) (cases_Bool (is_live has.one)) in
      let now : slice_index words o ≡ 2 * rank_in k.infos n.0 + 1 = ap (slice_index words) (sym n.2) ∙ knows.1 in record {
        id = has.id;
        view = has.one;
        packet = n.0;
        at = has.at_id;
        has = (live, n.1);
        owner = n.2;
        rank = omega arith;
      };
  own = λ p j v at live is. let own = hands j v at live p is in (own.2, own.3, own.4);
  over = seats.given.over;
  later = λ n less came. absurd (let more = seats.turns.brought n came in omega arith);
}
