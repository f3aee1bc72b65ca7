-- What a transmit leaves.
use Rattle.std.proofs.Common.{◌≡◌, ℕ, Bool, false, not, ◌&&◌, if◌then◌else◌, cond, ap, ◌∙◌, List, [], ◌∷◌, Option, None, Some}
use Rattle.lq_model.specs.declared.fate.Fate.TheVariants.{Full}
use Rattle.lq_model.specs.Account.{Event}
use Rattle.lq_model.specs.Steps.{step_at}
use Rattle.lq_model.specs.declared.machine.Answer.TheVariants.{Plain}
use Rattle.lq_model.specs.declared.machine.Attempt.TheVariants.{Direct as ToPass}
use Rattle.lq_model.specs.declared.machine.Packet.{Packet}
use Rattle.lq_model.specs.declared.machine.Position.{Position}
use Rattle.lq_model.specs.declared.machine.Position.TheVariants.{Check, Leave, Put, Try1}
use Rattle.lq_model.specs.declared.fate.Info.{Info}
use Rattle.lq_account_laws.specs.Trail.{is_own}
use Rattle.lq_table.specs.Moves.{is_set, seen_by}
use Rattle.lq_table.specs.States.{load_state_view, seen_state, some_bit}
use Rattle.lq_table.specs.Sees.{view, IsElseSame, IsSameSeat, IsSeatOf}
use Rattle.lq_table.specs.declared.shared.Cpu.{Cpu}
use Rattle.lq_table.specs.declared.shared.Shared.{Shared}
use Rattle.lq_table.specs.Views.{PacketPart, View}
use Rattle.lq_qdisc.specs.Calls.{KeepsFates}
use Rattle.lq_ring.specs.StepLists.{MakesStepsFrom}
use Rattle.lq_table.specs.Step.{Standing, Step}
use Rattle.lq_qdisc.specs.Parts.{BringsBy, EndsCallBy, IsFreeInside, LeavesBy}
use Rattle.lq_qdisc.specs.Sends.{HasCome, IsBringing, IsCallKept, came_as, trail_with}
use Rattle.lq_qdisc.specs.declared.answers.Sending.{Sending}
use Rattle.lq_qdisc.specs.declared.answers.Sending.TheVariants as sending
use Rattle.lq_qdisc.proofs.ViewRelations.{Enqueues}
use Rattle.lq_qdisc.proofs.RunLemmas.{fates_same, fates_then}
use Rattle.lq_qdisc.proofs.TakeLemmas.{seat_same}

-- the fate of a packet that was dropped as full comes to those that stay
pub put_fates : (n band : ℕ) (answer : Sending) (old new : View) → Enqueues n band answer old new → KeepsFates old new
put_fates n band sending.Direct old new h = absurd h
put_fates n band sending.Queued old new h = fates_same old new (ap (λ (v : View). v.settled) h.0)
put_fates n band (sending.FullSeen seen) old new h = ((n, Full seen) ∷ [], ap (λ (v : View). v.settled) h.0)
put_fates n band (sending.Refused event) old new h = absurd h
put_fates n band (sending.OutOfTurn found) old new h = absurd h

trail_same : (o : Option Event) (u v : View) → v.share ≡ u.share → v.trail ≡ u.trail → trail_with o v ≡ trail_with o u
trail_same None u v share trail = trail
trail_same (Some e) u v share trail = λ j. cond (is_own (share j).about.infos e) (e ∷ trail j) (trail j)

-- A packet has come where it has from a view with the same packets, turns and trail.
pub come_from : (infos : List Info) (n : ℕ) (answer : Sending) (u v w : View) → v.share ≡ u.share → v.packets ≡ u.packets → v.turns ≡ u.turns → v.trail ≡ u.trail → HasCome infos n answer v w → HasCome infos n answer u w
come_from infos n answer u v w share packets turns trail h = record {
  came = h.came;
  packets = h.packets ∙ ap (λ (p : PacketPart). record p { fresh = None; owed = None }) packets;
  turns = h.turns ∙ turns;
  trail = h.trail ∙ trail_same (came_as infos n answer) u v share trail;
}

pub come_looked : (infos : List Info) (n state : ℕ) (answer : Sending) (u v w : View) → v ≡ load_state_view state u → HasCome infos n answer v w → HasCome infos n answer u w
come_looked infos n state answer u v w e h =
    come_from infos n answer u v w (ap (λ (x : View). x.share) e) (ap (λ (x : View). x.packets) e) (ap (λ (x : View). x.turns) e) (ap (λ (x : View). x.trail) e) h

-- where the first load of the state in a transmit leads, which isn't deactivated
pub checked_leads : (p : Packet) (state : ℕ) (may : Bool) (u v : View) → u.place.position ≡ Check p → is_set 2 state ≡ false → u.share.about.bypass && not (some_bit state) ≡ may → v ≡ load_state_view state u
    → v.place.position ≡ (if may then Try1 (ToPass p) else Put p false)
checked_leads p state may u v at off may_is is =
    ap (λ (x : View). x.place.position) is ∙ (ap (λ (y : Position). (step_at y Plain (seen_state (seen_by u) u.share.about.bypass state) u.place).seat.position) at
    ∙ (λ j. if off j then Leave else if may_is j then Try1 (ToPass p) else Put p false))

module _ {D : Type 0} where
  -- a seat that brings a packet and is free inside the call does so and is so still
  pub brings_looked : (t : Shared D) (n state : ℕ) (b m : Cpu D) → view m ≡ load_state_view state (view b) → IsBringing t n b → IsBringing t n m
  brings_looked t n state b m e p = (p.0, p.1, ap (λ (v : View). v.packets.fresh) e ∙ p.2, ap (λ (v : View). v.packets.owed) e ∙ p.3)

  pub free_looked : (state : ℕ) (b m : Cpu D) → IsElseSame b m → view m ≡ load_state_view state (view b) → IsFreeInside b → IsFreeInside m
  free_looked state b m same e f = ((same.3 ∙ f.0.0, same.1 ∙ f.0.1), ap (λ (v : View). v.locks) e ∙ f.1, ap (λ (v : View). v.holder.resizing) e ∙ f.2)

  -- what a call leaves as it was, from a step before it that left that too
  pub called_from : (b m a : Cpu D) → IsSameSeat b m → (view m).share ≡ (view b).share → (view m).control ≡ (view b).control → (view m).whole.told ≡ (view b).whole.told → IsCallKept m a → IsCallKept b a
  called_from b m a seat share control told k =
      record { seat = (k.seat.0 ∙ seat.0, k.seat.1 ∙ seat.1); share = k.share ∙ share; control = k.control ∙ control; told = k.told ∙ told }

  -- What is known of a step of a call that leaves what a call does: the seat is still one of the table, and what the rest of the call
  -- leaves as it was, the whole does.
  pub record KeepsCall (t : Shared D) (b m : Cpu D) : Type 0 where
    pub seat : IsSeatOf t m
    pub kept : (a : Cpu D) → IsCallKept m a → IsCallKept b a
    pub fates : (w : View) → KeepsFates (view m) w → KeepsFates (view b) w

  pub keeps_call : (t : Shared D) (b m : Cpu D) → IsSameSeat b m → (view m).share ≡ (view b).share → (view m).control ≡ (view b).control
      → (view m).whole.told ≡ (view b).whole.told → (view m).settled ≡ (view b).settled → IsSeatOf t b → KeepsCall t b m
  keeps_call t b m seat share control told settled s = record {
    seat = seat_same t b m seat share s;
    kept = λ a k. called_from b m a seat share control told k;
    fates = λ w f. fates_then (view b) (view m) w (fates_same (view b) (view m) settled) f;
  }

  -- What is known where a seat that brings a packet loaded the state, and goes on with the packet.
  pub record IsLooked (t : Shared D) (n state : ℕ) (b m : Cpu D) : Type 0 where
    pub is : view m ≡ load_state_view state (view b)
    pub call : KeepsCall t b m
    pub packet : IsBringing t n m
    pub free : IsFreeInside b → IsFreeInside m
    pub came : (answer : Sending) (w : View) → HasCome t.infos.now n answer (view m) w → HasCome t.infos.now n answer (view b) w

  pub looked_from : (t : Shared D) (n state : ℕ) (b m : Cpu D) → IsElseSame b m → view m ≡ load_state_view state (view b) → IsSeatOf t b → IsBringing t n b → IsLooked t n state b m
  looked_from t n state b m same e s packet = record {
    is = e;
    call = keeps_call t b m same.0 (ap (λ (v : View). v.share) e) (ap (λ (v : View). v.control) e) (ap (λ (v : View). v.whole.told) e)
        (ap (λ (v : View). v.settled) e) s;
    packet = brings_looked t n state b m e packet;
    free = free_looked state b m same e;
    came = λ answer w h. come_looked t.infos.now n state answer (view b) (view m) w e h;
  }

  -- A step that changes nothing that the parts of a transmit speak of, but the position.
  pub record LeavesTheRest (b m : Cpu D) : Type 0 where
    pub seat : IsSameSeat b m
    pub share : (view m).share ≡ (view b).share
    pub packets : (view m).packets ≡ (view b).packets
    pub control : (view m).control ≡ (view b).control
    pub turns : (view m).turns ≡ (view b).turns
    pub trail : (view m).trail ≡ (view b).trail
    pub told : (view m).whole.told ≡ (view b).whole.told
    pub settled : (view m).settled ≡ (view b).settled

  ends_then : {comes : View → View → Type 0} {such to : Standing → List Step → Type 0} (b m a : Cpu D) → LeavesTheRest b m → LeavesBy comes such m a → comes (view b) (view a) → MakesStepsFrom to b a → LeavesBy comes to b a
  ends_then b m a i r came makes = record {
    kept = called_from b m a i.seat i.share i.control i.told r.kept;
    fates = fates_then (view b) (view m) (view a) (fates_same (view b) (view m) i.settled) r.fates;
    at = r.at;
    free = r.free;
    came = came;
    makes = makes;
  }

  pub serves_then : {such to : Standing → List Step → Type 0} (b m a : Cpu D) → LeavesTheRest b m → EndsCallBy such m a → MakesStepsFrom to b a → EndsCallBy to b a
  serves_then b m a i r makes =
      ends_then b m a i r (record { share = r.came.share ∙ i.share; packets = r.came.packets ∙ i.packets; turns = r.came.turns ∙ i.turns; trail = r.came.trail ∙ i.trail }) makes

  pub brings_then : {such to : Standing → List Step → Type 0} (infos : List Info) (n : ℕ) (answer : Sending) (b m a : Cpu D) → LeavesTheRest b m → BringsBy infos n answer such m a → MakesStepsFrom to b a
      → BringsBy infos n answer to b a
  brings_then infos n answer b m a i r makes = ends_then b m a i r (come_from infos n answer (view b) (view m) (view a) i.share i.packets i.turns i.trail r.came) makes

  -- and after a load of the state, which goes on with the packet
  pub brings_looked_by : {such to : Standing → List Step → Type 0} (t : Shared D) (n state : ℕ) (answer : Sending) (b m a : Cpu D) → IsLooked t n state b m → BringsBy t.infos.now n answer such m a → MakesStepsFrom to b a
      → BringsBy t.infos.now n answer to b a
  brings_looked_by t n state answer b m a l r makes = record { kept = l.call.kept a r.kept; fates = l.call.fates (view a) r.fates; at = r.at; free = r.free; came = l.came answer (view a) r.came; makes = makes }
