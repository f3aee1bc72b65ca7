-- Where every seat is in no call: the run lock is free, and where the words are quiet nothing is held and nothing is left.
use Rattle.std.proofs.Common.{◌≡◌, ◌⊎◌, inl, inr, ◌+◌, ◌≤◌, slice_index, ℕ, zero, suc, ◌*◌, ◌<◌, Bool, true, false, true≢false, List, [], ◌∷◌, ◌++◌, map, length, get_or, length-drop, refl, sym, ap, ◌∙◌, subst, ⊎_elim, arith, Option, None, sum_by, eqb}
use Rattle.std.proofs.lemmas.List.Sums.{sum_by-cons}
use Rattle.std.specs.Prelude.{slice_get, nat_lt}
use Rattle.std.proofs.lemmas.Bool.{cases_Bool, lt-ltb}
use Rattle.std.proofs.lemmas.List.{append_assoc, get_or_past}
use mathlib.Core.Logic.{dite}
use native.Mathlib.Decide.{dec_lt}
use Rattle.atomic_table.specs.Table as table
use Rattle.lq_device.specs.Station.{StationState}
use Rattle.lq_model.specs.declared.machine.Packet.{Packet}
use Rattle.lq_model.specs.declared.machine.Phase.{Phase}
use Rattle.lq_model.specs.declared.machine.Phase.TheVariants.{Active, Closing, Quiet, Purged}
use Rattle.lq_model.specs.declared.machine.Position.{Position}
use Rattle.lq_model.specs.declared.machine.Position.TheVariants.{Idle, Control}
use Rattle.lq_model.specs.declared.machine.Seat.{Seat}
use Rattle.lq_model.specs.declared.fate.Fate.{Fate}
use Rattle.lq_model.specs.declared.fate.Info.{Info}
use Rattle.lq_model.specs.Account.{Account, held, held_in}
use Rattle.lq_model.specs.Band.{Band, held_of}
use Rattle.lq_model.specs.Control.{is_quiet}
use Rattle.lq_model.specs.Kept.{IsInductive}
use Rattle.lq_model.specs.Machine.{Qdisc, Purge, idle_seat, bit, is_closed}
use Rattle.lq_model.specs.Plan.{owner_in, band_in}
use Rattle.lq_model.specs.Positions.{Holds, holds_lock, is_inside}
use Rattle.lq_model.specs.Steps.{is_idle}
use Rattle.lq_model.specs.Words.{word_of, IsWordOf}
use Rattle.lq_run_laws.proofs.Among.{among-at as here, among-within as inside}
use Rattle.lq_run_laws.proofs.Quiet.{quiet-holds-nothing}
use Rattle.lq_ring_core.specs.Slots.{round}
use Rattle.lq_account_laws.proofs.Changes.{band-held, slot-held}
use Rattle.lq_account_laws.proofs.Lists.{none-in}
use Rattle.lq_band_laws.specs.Ring.{Ends, Lock, unlocked as no_lock, locking, stored_count, index_behind, IsRing}
use Rattle.lq_band_laws.specs.Seats.{total, Each}
use Rattle.lq_band_laws.specs.Stored.{word_or}
use Rattle.lq_band_laws.specs.Three.{Three, at, all_three}
use Rattle.lq_band_laws.proofs.Kept.{content-held}
use Rattle.lq_band_laws.proofs.Lines.{word_at-past}
use Rattle.lq_band_laws.proofs.Three.{at_all}
use Rattle.lq_table.specs.Views.{View, Setup, PacketPart, HolderPart, Left, no_packets}
use Rattle.lq_table.specs.Rule.{Words, words_of, locks_at, account, holders, shown, is_live, seats_of, machine_of, bands_now, owes, waiting_in, waits, unstored, Ties, Rule, AtHome, IsResting, has_turn, event_word}
use Rattle.lq_table.specs.Between.{StandsForMachine, StandsForNothing, IsInNoCall, HasNothingOwn, IsTableQuiet}
use Rattle.lq_table.specs.Closes.{AreQuiet, AreSlotsEmpty, IsEmptied}
use Rattle.lq_table.specs.Moves.{at_rest, is_set}
use Rattle.lq_table.proofs.Bits.{has_sched, has_deactivated}
use Rattle.lq_table.proofs.Decided.{decided}
use Rattle.lq_table.proofs.Facts.{none_if}
use Rattle.lq_table.proofs.Greatest.{all_zero_below}
use Rattle.lq_table.proofs.Middle.{found, middle, to_idle}
use Rattle.lq_table.proofs.SettledKept.{word_positive}
use Rattle.lq_table.proofs.Ties.{nothing_in, holds_none}
use Rattle.lq_table.proofs.TurnWords.{turn_words}
use Rattle.std.specs.Option.{option_map_or}
use Rattle.std.proofs.lemmas.Option.{slice_get_cases}

bit_false : (b : Bool) → bit b ≡ 0 → b ≡ false
bit_false true e = absurd (omega arith)
bit_false false e = refl

-- THE SEATS IDLE

abbrev idled : Seat → Seat
idled t = record t { position = Idle }

-- the machine with all seats at rest idle
to_idles : (q : Qdisc) (xs ys : List Seat) → ((i : ℕ) → at_rest (get_or ys i idle_seat).position ≡ true) → IsInductive (record { qdisc = q; seats = xs ++ ys }) → IsInductive (record { qdisc = q; seats = xs ++ map idled ys })
to_idles q xs [] rest h = h
to_idles q xs (y ∷ ys) rest h = subst (λ (ss : List Seat). IsInductive (record { qdisc = q; seats = ss })) (append_assoc xs (idled y ∷ []) (map idled ys))
    (to_idles q (xs ++ idled y ∷ []) ys (λ i. rest (suc i)) (subst (λ (ss : List Seat). IsInductive (record { qdisc = q; seats = ss })) (sym (append_assoc xs (idled y ∷ []) ys)) (to_idle q xs ys y y.position refl (rest 0) h)))

idled_idle : (ys : List Seat) (i : ℕ) → is_idle (get_or (map idled ys) i idle_seat).position ≡ true
idled_idle [] i = ap (λ (t : Seat). is_idle t.position) (get_or_past [] i idle_seat (omega arith))
idled_idle (y ∷ ys) zero = refl
idled_idle (y ∷ ys) (suc i) = idled_idle ys i

none_idled : (test : Position → Bool) (ys : List Seat) → test Idle ≡ false → sum_by (λ t. bit (test t.position)) (map idled ys) ≡ 0
none_idled test [] e = refl
none_idled test (y ∷ ys) e = let more = none_idled test ys e in let z : bit (test Idle) ≡ 0 = ap bit e in omega (arith, sum_by-cons (λ t. bit (test t.position)) (idled y) (map idled ys))

pub none_at_all : (f : View → ℕ) (vs : List View) → Each (λ u. f u ≡ 0) vs → total f vs ≡ 0
none_at_all f [] h = refl
none_at_all f (v ∷ vs) h = let a : f v ≡ 0 = h 0 v refl in let b : total f vs ≡ 0 = none_at_all f vs (λ j u e. h (suc j) u e) in omega arith

no_locks : (f : Lock → ℕ) (b : ℕ) (vs : List View) → f no_lock ≡ 0 → Each (λ u. u.locks ≡ all_three no_lock) vs → total f (locks_at b vs) ≡ 0
no_locks f b [] z h = refl
no_locks f b (v ∷ vs) z h = let a : f (at b v.locks) ≡ 0 = ap f (ap (at b) (h 0 v refl) ∙ at_all b no_lock) ∙ z in let more : total f (locks_at b vs) ≡ 0 = no_locks f b vs z (λ j u e. h (suc j) u e) in omega arith

-- a ring that nobody has locked and that holds nothing
ring_ended : (size : ℕ) (slots : List ℕ) (word : ℕ) (seats : List Lock) (band : Band) (c : Ends) → IsRing size slots word seats band c → total locking seats ≡ 0 → total stored_count seats ≡ 0 → held_of band ≡ [] → word ≡ 2 * round size c.head
ring_ended size slots word seats band c r none_locking none_storing none_held =
    let all : c.head ≡ r.ahead = (let z : length (held_of band) ≡ 0 = ap length none_held in let d = length-drop band.taken band.line in let l = r.line_is in let t = r.taken_is in let w = r.taken_within in omega arith) in
    let index : r.index ≡ round size c.head = sym (ap (λ (n : ℕ). index_behind size n r.index) none_storing) ∙ (r.index_is ∙ ap (round size) (sym all)) in
    let is = r.word_is in omega arith

-- where nothing is held, the slots from the head on are empty
slots_ended : (size : ℕ) (slots : List ℕ) (word : ℕ) (seats : List Lock) (band : Band) (c : Ends) → IsRing size slots word seats band c → c.edge ≡ c.head → held_of band ≡ [] → AreSlotsEmpty size slots c.head c.tail
slots_ended size slots word seats band c r edge none_held place from below =
    let all : c.head ≡ r.ahead = (let z : length (held_of band) ≡ 0 = ap length none_held in let d = length-drop band.taken band.line in let l = r.line_is in let t = r.taken_is in let w = r.taken_within in omega arith) in
    let first = r.ends.tail_first in let l = r.line_is in
    r.slots_are.window place (omega arith) below ∙ (content-held band.line r.lap c place (inr from) ∙ word_at-past band.line (r.lap + place) (omega arith))

quiet_closed : (phase : Phase) → is_quiet phase ≡ true → is_closed phase ≡ true
quiet_closed Active e = absurd (true≢false (sym e))
quiet_closed Closing e = refl
quiet_closed Quiet e = refl
quiet_closed Purged e = refl

-- the packet of no number has band 0
pub all_bands : (infos : List Info) → ((n : ℕ) → n < length infos → band_in infos n < 3) → (n : ℕ) → band_in infos n < 3
all_bands infos bands n = dite (dec_lt n (length infos)) (λ inside. bands n inside)
    (λ out. subst (λ (o : Option Info). option_map_or (λ (info : Info). info.band) o 0 < 3) (sym (none_there infos n (omega arith))) (omega arith))
  where
    none_there : (xs : List Info) (i : ℕ) → length xs ≤ i → slice_get xs i ≡ None
    none_there xs i past = ⊎_elim (λ t. absurd (let z = t.1 in omega arith)) (λ (t : (length xs ≤ i) × (slice_get xs i ≡ None)). t.1) (slice_get_cases xs i).1

head_at : (e : Three Ends) (b : ℕ) → b < 3 → slice_index (e.low.head ∷ e.mid.head ∷ e.high.head ∷ []) b ≡ (at b e).head
head_at e zero l = refl
head_at e (suc zero) l = refl
head_at e (suc (suc zero)) l = refl
head_at e (suc (suc (suc b))) l = absurd (omega arith)

tail_at : (e : Three Ends) (b : ℕ) → b < 3 → slice_index (e.low.tail ∷ e.mid.tail ∷ e.high.tail ∷ []) b ≡ (at b e).tail
tail_at e zero l = refl
tail_at e (suc zero) l = refl
tail_at e (suc (suc zero)) l = refl
tail_at e (suc (suc (suc b))) l = absurd (omega arith)

resting_at : (size : ℕ) (e : Three Ends) → IsResting size e → (b : ℕ) → b < 3 → (at b e).edge ≡ (at b e).head
resting_at size e h zero l = h.0.2
resting_at size e h (suc zero) l = h.1.2
resting_at size e h (suc (suc zero)) l = h.2.2
resting_at size e h (suc (suc (suc b))) l = absurd (omega arith)

is_written : (word : ℕ) (f : Fate) → word ≡ word_of f → (word ≡ 0) ⊎ ((g : Fate) × IsWordOf g word) → (g : Fate) × IsWordOf g word
is_written word f is (inl zero_) = absurd (word_positive f (sym is ∙ zero_))
is_written word f is (inr w) = w

-- control that holds the lock is in a call
rest_apart : (position : Position) → at_rest position ≡ true → position ≡ Control true → ⊥
rest_apart position rest e = absurd (let c = ap at_rest e in cc)

no_shares : (n : ℕ) → nat_lt 0 n ≡ false → n ≡ 0
no_shares n e = dite (dec_lt 0 n) (λ some_share. absurd (true≢false (sym (lt-ltb 0 n some_share) ∙ e))) (λ none. omega arith)

-- THE TABLE

module _ (k : Setup) (s : table.State (Option StationState) View) (r : Rule k s) (rest : Each IsInNoCall s.views) where
  abbrev idle_seats : List Seat
  idle_seats = map idled (seats_of s.views)

  rests : (i : ℕ) → at_rest (get_or (seats_of s.views) i idle_seat).position ≡ true
  rests i = dite (dec_lt i (length (seats_of s.views)))
      (λ below. let f = found s.views i below in ap (λ (t : Seat). at_rest t.position) (sym f.is) ∙ rest f.id f.view f.at f.live)
      (λ past. ap (λ (t : Seat). at_rest t.position) (get_or_past (seats_of s.views) i idle_seat (omega arith)))

  -- the machine with all seats idle
  machine : IsInductive (record { qdisc = r.qdisc; seats = idle_seats })
  machine = to_idles r.qdisc [] (seats_of s.views) rests r.parts.machine.invariant

  -- so nobody holds the lock, and no call is inside
  pub unlocked : r.qdisc.locked ≡ false
  unlocked = bit_false r.qdisc.locked (sym machine.kept.one_holder ∙ none_idled holds_lock (seats_of s.views) refl)

  pub none_inside : r.qdisc.inside ≡ 0
  none_inside = sym machine.kept.calls_inside ∙ none_idled is_inside (seats_of s.views) refl

  -- where SCHED and DEACTIVATED are clear and the queues are open nothing is held
  pub nothing : r.qdisc.sched ≡ false → r.qdisc.deactivated ≡ false → ((queue : ℕ) → slice_index (words_of k s.words).xoff queue ≡ 0) → (p : Packet) → Holds (machine_of r.qdisc s.views) p → ⊥
  nothing unscheduled active opens p held = let q = r.qdisc in
      quiet-holds-nothing (record { qdisc = q; seats = idle_seats }) machine.kept record {
        unlocked = unlocked;
        unscheduled = unscheduled;
        active = active;
        queues_open = λ queue. ap (λ (x : ℕ). eqb x 0) (ap (λ (xs : List ℕ). get_or xs queue 0) r.parts.station.stands.xoff ∙ opens queue);
        all_idle = idled_idle (seats_of s.views);
      } p held

  -- a purge half done, of an active station, would be control's, which some seat would be in
  pub no_purge : r.qdisc.deactivated ≡ false → r.qdisc.purge ≡ None
  no_purge active = none_if r.qdisc.purge (λ (u : Purge) now. ⊎_elim
      (λ quiet. true≢false (sym (quiet_closed r.qdisc.phase quiet) ∙ (sym r.parts.machine.invariant.deactivation ∙ active)))
      (λ all_control. absurd (let none : total (λ x. x.share.shares) s.views ≡ 0 = none_at_all (λ x. x.share.shares) s.views (λ j x there. ⊎_elim
      (λ (lives : is_live x ≡ true). let m = middle s.views j x there lives in absurd (rest_apart x.place.position (rest j x there lives)
      (ap (λ (t : Seat). t.position) (sym (here m.before m.after x.place) ∙ ap (λ (ss : List Seat). get_or ss (length m.before) idle_seat) (sym m.was))
      ∙ all_control (length m.before) (subst (λ (ss : List Seat). length m.before < length ss) (sym m.was) (inside m.before m.after x.place)))))
      (λ (gone : is_live x ≡ false). no_shares x.share.shares gone)
      (cases_Bool (is_live x))) in let sum = r.parts.seats.shares.sum in omega arith))
      (r.parts.machine.invariant.purging u now).alone)

  -- quiet words: nothing is held
  pub holds_nothing : AreQuiet (words_of k s.words) → (held (account k r.state) ≡ []) × (r.state.left ≡ None)
  holds_nothing quiet =
      let p = r.parts in let q = r.qdisc in let g = r.state in let a : Account = account k r.state in let e : ℕ = event_word a.down in
      let unscheduled : q.sched ≡ false = sym (ap (is_set 1) p.station.stands.state ∙ has_sched q.sched q.deactivated q.missed q.draining e) ∙ quiet.unscheduled in
      let active : q.deactivated ≡ false = sym (ap (is_set 2) p.station.stands.state ∙ has_deactivated q.sched q.deactivated q.missed q.draining e) ∙ quiet.active in
      let left_none : g.left ≡ None = p.account.leaves.none_left (no_purge active) in let ties : Ties k.infos q a a.bands = subst (λ (o : Option Left). Ties k.infos q a (bands_now o a.bands)) left_none p.station.ties in
      (holds_none k.infos (machine_of q s.views) a ties (nothing unscheduled active (all_zero_below 0 (words_of k s.words).xoff quiet.queues_open)), left_none)

  abbrev W : Words
  W = words_of k s.words

  abbrev a : Account
  a = account k r.state

  abbrev D : HolderPart
  D = holders r.state a W.size

  -- the station is at home
  pub home : AtHome W.xoff r.home D
  home = r.parts.station.lends.home unlocked

  -- the ring of a band, where no purge is half done
  ring : r.state.left ≡ None → (b : ℕ) → b < 3 → IsRing W.size (at b W.slots) (at b W.producers) (locks_at b s.views) (a.bands b) (at b r.state.ends)
  ring left_none b below = subst (λ (o : Option Left). IsRing W.size (at b W.slots) (at b W.producers) (locks_at b s.views) (bands_now o a.bands b) (at b r.state.ends)) left_none ((r.parts.station.rings.running home.calm).ring b below)

  band_empty : held a ≡ [] → (b : ℕ) → b < 3 → held_in a b ≡ []
  band_empty none b below = nothing_in (held_in a b) (λ n is. none-in (held a) n none (band-held a b n below is))

  pub slot_is_empty : held a ≡ [] → a.slot ≡ None
  slot_is_empty none = none_if a.slot (λ (n : ℕ) is. none-in (held a) n none (slot-held a n is))

  pub slots_are_empty : held a ≡ [] → r.state.left ≡ None → (b : ℕ) → b < 3 → AreSlotsEmpty W.size (at b W.slots) (slice_index (shown D).heads b) (slice_index (shown D).tails b)
  unfolding home
  slots_are_empty none left_none b below = subst (λ (z : ℕ × ℕ). AreSlotsEmpty W.size (at b W.slots) z.0 z.1) (λ j. (sym (head_at r.state.ends b below) j, sym (tail_at r.state.ends b below) j))
      (slots_ended W.size (at b W.slots) (at b W.producers) (locks_at b s.views) (a.bands b) (at b r.state.ends) (ring left_none b below) (resting_at W.size r.state.ends home.resting b below) (band_empty none b below))

module _ (k : Setup) (s : table.State (Option StationState) View) (r : Rule k s) (rest : Each IsInNoCall s.views) (nobody : Each (λ u. (u.packets ≡ no_packets) × (u.locks ≡ all_three no_lock)) s.views) where
  pub nothing_owed : (n : ℕ) → unstored s.views r.state.resizing r.state.left n ≡ waits n r.state.left
  unfolding home
  nothing_owed n = let owed : total (λ u. owes n u.packets.owed) s.views ≡ 0 = none_at_all (λ u. owes n u.packets.owed) s.views (λ j u e. ap (λ (x : PacketPart). owes n x.owed) (nobody j u e).0) in
      let calm : waiting_in n r.state.resizing ≡ 0 = ap (waiting_in n) (home k s r rest).calm in omega arith

  -- where nothing is held nothing is left
  pub emptied_now : held (account k r.state) ≡ [] → r.state.left ≡ None → IsEmptied k (words_of k s.words) (shown (holders r.state (account k r.state) (words_of k s.words).size))
  unfolding home
  emptied_now none left_none = let p = r.parts in let g = r.state in let a : Account = account k g in let W = words_of k s.words in record {
    slot_empty = slot_is_empty k s r rest none;
    rings_empty = λ b below. let no_lock_at : Each (λ u. u.locks ≡ all_three no_lock) s.views = λ j u e. (nobody j u e).1 in record {
      slots_empty = slots_are_empty k s r rest none left_none b below;
      producer_is = ring_ended W.size (at b W.slots) (at b W.producers) (locks_at b s.views) (a.bands b) (at b g.ends) (ring k s r rest left_none b below)
          (no_locks locking b s.views refl no_lock_at) (no_locks stored_count b s.views refl no_lock_at) (band_empty k s r rest none b below)
          ∙ ap (λ (h : ℕ). 2 * round W.size h) (sym (head_at g.ends b below));
    };
    decided = λ n inside st taken. let o : ℕ = owner_in k.infos n in let turn = p.seats.given.turn o (r.setup.owners n inside) in
        let nobodys : total (λ u. has_turn k.infos o u.packets.busy) s.views ≡ 0 = none_at_all (λ u. has_turn k.infos o u.packets.busy) s.views (λ j u e. ap (λ (x : PacketPart). has_turn k.infos o x.busy) (nobody j u e).0) in
        let came = p.seats.given.over n inside st (let e = turn.1 in omega arith) in
        let fate = decided k g.past (all_bands k.infos r.setup.bands) p.account.accounted.comes none (home k s r rest).hand_empty n came in
        let stored : unstored s.views g.resizing g.left n ≡ 0 = nothing_owed n ∙ ap (waits n) left_none in
        is_written (slice_index W.fates n) fate.0 (p.station.fates.stored.stored n stored ∙ ap word_or fate.1) (p.seats.settled.written n);
  }

-- BETWEEN ANY TWO STEPS

-- the words stand for a machine that keeps the invariant
abbrev pub stands_for : (k : Setup) (s : table.State (Option StationState) View) (r : Rule k s) → StandsForMachine k s
stands_for k s r = record {
  qdisc = r.qdisc;
  state = r.state;
  home = r.home;
  homes = r.deep;
  invariant = r.parts.machine.invariant;
  words = r.parts.station.stands;
  packets = r.parts.station.ties;
  stops = r.parts.station.stops;
  events = record { comes = r.parts.account.accounted.comes; find_nothing = r.parts.account.find_nothing };
  turns = turn_words k s r;
  rings = r.parts.station.rings;
  station = r.parts.station.lends;
  fates = r.parts.station.fates;
  sent = r.parts.account.sends;
  device = r.parts.account.device;
}

-- a seat that is spent has nothing either
nobodys : (k : Setup) (s : table.State (Option StationState) View) (r : Rule k s) → Each HasNothingOwn s.views → Each (λ u. (u.packets ≡ no_packets) × (u.locks ≡ all_three no_lock)) s.views
nobodys k s r bare j u there = ⊎_elim (λ (lives : is_live u ≡ true). bare j u there lives) (λ (gone : is_live u ≡ false). r.parts.seats.shares.spent j u there gone) (cases_Bool (is_live u))

pub stands_for_nothing : (k : Setup) (s : table.State (Option StationState) View) (r : Rule k s) → IsTableQuiet k s → StandsForNothing k s
unfolding home
stands_for_nothing k s r quiet = let x = holds_nothing k s r quiet.seats quiet.words in (
  stands_for k s r,
  record {
    account_empty = x.0;
    lock = r.parts.station.stands.lock ∙ ap bit (unlocked k s r quiet.seats);
    inside = r.parts.station.stands.inside ∙ none_inside k s r quiet.seats;
    station = shown (holders r.state (account k r.state) (words_of k s.words).size);
    home = (home k s r quiet.seats).there;
    slot_empty = slot_is_empty k s r quiet.seats x.0;
    slots_empty = slots_are_empty k s r quiet.seats x.0 x.1;
    emptied = λ bare. emptied_now k s r quiet.seats (nobodys k s r bare) x.0 x.1;
  },
)
