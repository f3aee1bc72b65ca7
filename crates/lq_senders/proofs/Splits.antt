-- The other senders' seats are split off.
use Rattle.std.proofs.Common.{◌≡◌, ◌≢◌, ◌⊎◌, inl, inr, ℕ, zero, suc, ◌+◌, ◌<◌, ◌≤◌, Bool, false, List, [], ◌∷◌, ◌++◌, length, refl, ap, arith, Some, sym, ◌∙◌, subst, slice_get, slice_set, replicate, eq-eqb, length-append}
use Rattle.std.specs.Prelude.{slice_index, eqb, if◌then◌else◌}
use Rattle.std.proofs.lemmas.Bool.{cases_eq, cases_order}
use Rattle.std.proofs.lemmas.List.{length-replicate, length-set}
use Rattle.std.proofs.lemmas.Option.{same_Some, slice_get_within, slice_get_cases}
use Rattle.lq_model.specs.Plan.{Plan}
use Rattle.lq_model.specs.declared.fate.Info.{Info}
use Rattle.lq_table.proofs.SeatsKept.{times_one, times_without}
use Rattle.lq_seat.specs.Calls.{keeping_seat, offspring_seat, without}
use Rattle.lq_seat.specs.State.{SeatState, TableState, below, new_seat, setup_of, times}
use Rattle.lq_senders.specs.Joins.{AreFirst}
use Rattle.lq_senders.specs.Senders.{IsReadySender, SenderStands, StandsInRun, StandsAt}
use Rattle.lq_senders.specs.Setup.{AreOpened, AreSplitting, HasNoSeats, IsSplitting, SplitsAt}
use Rattle.lq_senders.specs.Units.{SameDevices}
use Rattle.lq_senders.specs.Way.{IsOnWay}
use Rattle.lq_senders.specs.declared.sender.Sender.{Sender}
use Rattle.lq_senders.proofs.Seats.{set-here, set-apart}
use Rattle.lq_senders.proofs.Ways.{way-start}

-- OWNERS

abbrev one-where : Bool → ℕ
one-where b = if b then 1 else 0

times-itself : (o : ℕ) (os : List ℕ) → 0 < times o (o ∷ os)
times-itself o os = let own : one-where (eqb o o) ≡ 1 = ap one-where (eq-eqb o o refl) in omega arith

below-has : (n o : ℕ) → o < n → 0 < times o (below n)
below-has zero o less = absurd (omega arith)
below-has (suc n) o less = elim (cases_eq o n) [
  | inl same ↦ subst (λ m. 0 < times o (m ∷ below n)) same (times-itself o (below n))
  | inr other ↦ (let more = below-has n o (omega arith) in omega arith)
]

without-has : (o y : ℕ) (os : List ℕ) → y ≢ o → 0 < times o os → 0 < times y os → 0 < times y (without o os)
without-has o y os other has own = elim (cases_order (times y (o ∷ [])) 0) [
  | inl none ↦ (let same = times_without o y os has in omega arith)
  | inr (inl less) ↦ absurd (omega arith)
  | inr (inr more) ↦ absurd (other (times_one y o more))
]

zeros : (n o : ℕ) → slice_index (replicate n 0) o ≡ 0
zeros zero o = refl
zeros (suc n) zero = refl
zeros (suc n) (suc o) = zeros n o

-- ONE SEAT

pub splitting-start : (plan : Plan) (infos : List Info) (j : ℕ) (v : SeatState) → 0 < plan.senders → v ≡ new_seat v.table (setup_of plan infos j) v.origin → IsSplitting plan 1 v
splitting-start plan infos j v some is = subst (IsSplitting plan 1) (sym is) (record {
  shares = refl;
  own = below-has plan.senders 0 some;
  rest = λ owner from less. below-has plan.senders owner less;
  wide = length-replicate plan.senders 0;
  turns = zeros plan.senders;
  first = refl;
  raised = refl;
  trail = refl;
  told = refl;
})

splitting-next : (plan : Plan) (next : ℕ) (v w : SeatState) → 0 < next → next < plan.senders → next < 1024 → IsSplitting plan next v → w ≡ keeping_seat next v → IsSplitting plan (next + 1) w
splitting-next plan next v w some sender few was is = subst (IsSplitting plan (next + 1)) (sym is) (record {
  shares = let shares = was.shares in omega arith;
  own = without-has next 0 v.owners (λ same. absurd (omega arith)) (was.rest next (omega arith) sender) was.own;
  rest = λ owner from less. without-has next owner v.owners (λ same. absurd (omega arith)) (was.rest next (omega arith) sender) (was.rest owner (omega arith) less);
  wide = was.wide;
  turns = was.turns;
  first = was.first;
  raised = was.raised;
  trail = was.trail;
  told = was.told;
})

-- the first sender's seat, once all others were split off
first-stands : (plan : Plan) (infos : List Info) (j : ℕ) (v : SeatState) → 0 < plan.senders → IsSplitting plan plan.senders v → StandsInRun plan infos 0 j 0 0 v
first-stands plan infos j v some split = record {
  is_sender = some;
  owner = split.own;
  wide = split.wide;
  turn = split.turns 0;
  raised = split.raised;
  way = λ z. (split.first, subst (IsOnWay plan j 0) (sym split.trail) (way-start plan j));
}

-- a seat that was split off
other-stands : (plan : Plan) (infos : List Info) (j owner : ℕ) (v : SeatState) → 0 < owner → owner < plan.senders → IsSplitting plan owner v → StandsInRun plan infos owner j 0 0 (offspring_seat owner v)
other-stands plan infos j owner v some sender split = record {
  is_sender = sender;
  owner = times-itself owner [];
  wide = split.wide;
  turn = split.turns owner;
  raised = refl;
  way = λ z. absurd (omega arith);
}

-- two lists have these at one place
at-place : {X Y : Type 0} (R : ℕ → X → Y → Type 0) (xs : List X) (ys : List Y) (i j : ℕ) (x a : X) (y b : Y) → j ≡ i → slice_get xs i ≡ Some x → slice_get ys i ≡ Some y
    → slice_get xs j ≡ Some a → slice_get ys j ≡ Some b → R i x y → R j a b
at-place R xs ys i j x a y b same at at' at_j at_j' here =
    subst (λ k. R k a b) (sym same)
    (subst (λ z. R i z b) (same_Some x a (sym at ∙ subst (λ k. slice_get xs k ≡ Some a) same at_j))
    (subst (λ z. R i x z) (same_Some y b (sym at' ∙ subst (λ k. slice_get ys k ≡ Some b) same at_j')) here))

-- an element of a list with one more at its end
pub snoc-cases : {X : Type 0} (xs : List X) (x y : X) (j : ℕ) → slice_get (xs ++ x ∷ []) j ≡ Some y → (slice_get xs j ≡ Some y) ⊎ ((j ≡ length xs) × (x ≡ y))
snoc-cases [] x y zero there = inr (refl, same_Some x y there)
snoc-cases [] x y (suc j) there = cc
snoc-cases (z ∷ zs) x y zero there = inl there
snoc-cases (z ∷ zs) x y (suc j) there = elim (snoc-cases zs x y j there) [ inl old ↦ inl old | inr (last, same) ↦ inr (ap suc last, same) ]

-- ALL STATIONS

pub splitting-opened : (plan : Plan) (infos : List Info) (devices : _) (tables : List TableState) (seats : List SeatState) → 0 < plan.senders → length tables ≡ length plan.stations
    → AreOpened plan infos devices tables seats → AreSplitting plan infos 1 tables seats
splitting-opened plan infos devices tables seats some all opened = record {
  long = opened.long;
  all = all;
  each = λ j t c at at'. let here = opened.each j t c at at' in
      record { table = here.table; seat = here.seat; splitting = splitting-start plan infos j c some here.view_is };
}

pub sender-stands : (plan : Plan) (infos : List Info) (tables : List TableState) (seats : List SeatState) → 0 < plan.senders → AreSplitting plan infos plan.senders tables seats
    → SenderStands plan infos 0 0 0 tables seats
sender-stands plan infos tables seats some split = record {
  long = split.long;
  all = split.all;
  each = λ j t c at at'. let here = split.each j t c at at' in
      record { table = here.table; seat = here.seat; stands = first-stands plan infos j c some here.splitting };
}

-- ONE SENDER

-- the seat of the sender at a station
pub record IsOtherAt (plan : Plan) (infos : List Info) (owner j : ℕ) (t : TableState) (c : SeatState) : Type 0 where
  pub stands : StandsAt plan infos owner 0 0 j t c
  pub shares : c.shares ≡ 1
  pub owners : c.owners ≡ owner ∷ []
  pub first : c.first ≡ false

-- at the first so many stations a seat was split off
pub record SplitsUp (plan : Plan) (infos : List Info) (place count : ℕ) (tables : List TableState) (now split_off : List SeatState) : Type 0 where
  pub long : length now ≡ length tables
  pub all : length tables ≡ length plan.stations
  pub so_many : length split_off ≡ count
  pub done : (j : ℕ) (t : TableState) (c : SeatState) → j < count → slice_get tables j ≡ Some t → slice_get now j ≡ Some c → SplitsAt plan infos (place + 2) j t c
  pub ahead : (j : ℕ) (t : TableState) (c : SeatState) → count ≤ j → slice_get tables j ≡ Some t → slice_get now j ≡ Some c → SplitsAt plan infos (place + 1) j t c
  pub others : (j : ℕ) (t : TableState) (c : SeatState) → slice_get tables j ≡ Some t → slice_get split_off j ≡ Some c → IsOtherAt plan infos (place + 1) j t c

pub splits-none : (plan : Plan) (infos : List Info) (place : ℕ) (tables : List TableState) (seats others : List SeatState) → others ≡ [] → AreSplitting plan infos (place + 1) tables seats
    → SplitsUp plan infos place 0 tables seats others
splits-none plan infos place tables seats others none split = record {
  long = split.long;
  all = split.all;
  so_many = ap length none;
  done = λ j t c less. absurd (omega arith);
  ahead = λ j t c from. split.each j t c;
  others = λ j t c at at'. let past : slice_get {X = SeatState} [] j ≡ Some c = sym (ap (λ cs. slice_get cs j) none) ∙ at' in cc;
}

pub splits-more : (plan : Plan) (infos : List Info) (place count : ℕ) (tables : List TableState) (now others : List SeatState) (t : TableState) (c c' other : SeatState)
    → SplitsUp plan infos place count tables now others → place + 1 < plan.senders → plan.senders ≤ 64 → slice_get tables count ≡ Some t → slice_get now count ≡ Some c
    → c' ≡ keeping_seat (place + 1) c → other ≡ offspring_seat (place + 1) c
    → SplitsUp plan infos place (count + 1) tables (slice_set now count c') (others ++ other ∷ [])
splits-more plan infos place count tables now others t c c' other was sender few at at' is other_is =
    let here = was.ahead count t c (omega arith) at at' in
    let kept : SplitsAt plan infos (place + 2) count t c' = record {
      table = here.table;
      seat = record { table = ap (λ (v : SeatState). v.table) is ∙ here.seat.table; made = ap (λ (v : SeatState). v.made) is ∙ here.seat.made };
      splitting = subst (λ n. IsSplitting plan n c') (omega arith) (splitting-next plan (place + 1) c c' (omega arith) sender (omega arith) here.splitting is);
    } in
    let split : IsOtherAt plan infos (place + 1) count t other = record {
      stands = record { table = here.table; seat = record { table = ap (λ (v : SeatState). v.table) other_is ∙ here.seat.table; made = ap (λ (v : SeatState). v.made) other_is ∙ here.seat.made }; stands = subst (StandsInRun plan infos (place + 1) count 0 0) (sym other_is) (other-stands plan infos count (place + 1) c (omega arith) sender here.splitting) };
      shares = ap (λ (v : SeatState). v.shares) other_is;
      owners = ap (λ (v : SeatState). v.owners) other_is;
      first = ap (λ (v : SeatState). v.first) other_is;
    } in
    let inside = slice_get_within now count c at' in
    record {
      long = length-set now count c' ∙ was.long;
      all = was.all;
      so_many = let so_many = was.so_many in omega (arith, length-append others (other ∷ []));
      done = λ j u x less at_j at_j'. elim (cases_eq j count) [
        | inl same ↦ at-place (λ i y z. SplitsAt plan infos (place + 2) i y z) tables (slice_set now count c') count j t u c' x same at (set-here now count c' inside) at_j at_j' kept
        | inr apart ↦ was.done j u x (omega arith) at_j (sym (set-apart now count j c' apart) ∙ at_j')
      ];
      ahead = λ j u x from at_j at_j'. was.ahead j u x (omega arith) at_j (sym (set-apart now count j c' (λ same. absurd (omega arith))) ∙ at_j');
      others = λ j u x at_j at_j'. elim (snoc-cases others other x j at_j') [
        | inl old ↦ was.others j u x at_j old
        | inr (last, is_other) ↦ (let same : j ≡ count = last ∙ was.so_many in
            subst (λ i. IsOtherAt plan infos (place + 1) i u x) (sym same)
            (subst (λ y. IsOtherAt plan infos (place + 1) count y x) (same_Some t u (sym at ∙ subst (λ i. slice_get tables i ≡ Some u) same at_j))
            (subst (λ y. IsOtherAt plan infos (place + 1) count t y) is_other split)))
      ];
    }

pub splits-all : (plan : Plan) (infos : List Info) (place count : ℕ) (tables : List TableState) (now others : List SeatState) → length tables ≤ count
    → SplitsUp plan infos place count tables now others → AreSplitting plan infos (place + 2) tables now
splits-all plan infos place count tables now others past was = record {
  long = was.long;
  all = was.all;
  each = λ j t c at. was.done j t c (let inside = slice_get_within tables j t at in omega arith) at;
}

pub sender-split : (plan : Plan) (infos : List Info) (place owner count : ℕ) (tables : List TableState) (now others : List SeatState) → owner ≡ place + 1 → count ≡ length tables
    → SplitsUp plan infos place count tables now others → IsReadySender plan infos tables place owner others
sender-split plan infos place owner count tables now others owner_is all was = record {
  owner_is = owner_is;
  stands = record {
    long = was.so_many ∙ all;
    all = was.all;
    each = λ j t c at at'. subst (λ o. StandsAt plan infos o 0 0 j t c) (sym owner_is) (was.others j t c at at').stands;
  };
  others = λ j c at'. elim (slice_get_cases tables j).1 [
    | inl (t, inside, at, same) ↦ (let here = was.others j t c at at' in (here.shares, here.owners ∙ ap (λ o. o ∷ []) (sym owner_is), here.first))
    | inr (past, nothing) ↦ absurd (let inside = slice_get_within others j c at' in let long = was.so_many in omega arith)
  ];
}

-- a seat that had another split off has the same devices
pub devices-split : (seats : List SeatState) (i owner : ℕ) (c c' : SeatState) → slice_get seats i ≡ Some c → c' ≡ keeping_seat owner c → SameDevices seats (slice_set seats i c')
devices-split seats i owner c c' at is = record {
  long = length-set seats i c';
  each = λ j x y at_j at_j'. elim (cases_eq j i) [
    | inl here ↦ at-place (λ k a b. (b.origin ≡ a.origin) × (b.gone ≡ a.gone)) seats (slice_set seats i c') i j c x c' y here at (set-here seats i c' (slice_get_within seats i c at)) at_j at_j'
        (ap (λ (v : SeatState). v.origin) is, ap (λ (v : SeatState). v.gone) is)
    | inr apart ↦ (let same : y ≡ x = same_Some y x (sym at_j' ∙ (set-apart seats i j c' apart ∙ at_j)) in (ap (λ (z : SeatState). z.origin) same, ap (λ (z : SeatState). z.gone) same))
  ];
}

-- ALL SENDERS

-- the others below this place have their seats, and the others have none yet
pub record SendersSplit {D : Type 0} (plan : Plan) (infos : List Info) (place : ℕ) (tables : List TableState) (others : List (Sender D)) : Type 0 where
  pub ready : (i : ℕ) (l : Sender D) → i < place → slice_get others i ≡ Some l → IsReadySender plan infos tables i l.owner l.seats.items
  pub empty : (i : ℕ) (l : Sender D) → place ≤ i → slice_get others i ≡ Some l → HasNoSeats plan i l

pub others-more : {D : Type 0} (plan : Plan) (infos : List Info) (place : ℕ) (tables : List TableState) (others : List (Sender D)) (new : Sender D) → place < length others
    → SendersSplit plan infos place tables others → IsReadySender plan infos tables place new.owner new.seats.items → SendersSplit plan infos (place + 1) tables (slice_set others place new)
others-more {D} plan infos place tables others new inside was ready = record {
  ready = λ i l less at. elim (cases_eq i place) [
    | inl same ↦ (let is : new ≡ l = same_Some new l (sym (set-here others place new inside) ∙ subst (λ k. slice_get (slice_set others place new) k ≡ Some l) same at) in
        subst (λ k. IsReadySender plan infos tables k l.owner l.seats.items) (sym same) (subst (λ (x : Sender D). IsReadySender plan infos tables place x.owner x.seats.items) is ready))
    | inr apart ↦ was.ready i l (omega arith) (sym (set-apart others place i new apart) ∙ at)
  ];
  empty = λ i l from at. was.empty i l (omega arith) (sym (set-apart others place i new (λ same. absurd (omega arith))) ∙ at);
}

pub are-first : (plan : Plan) (infos : List Info) (others : ℕ) (tables : List TableState) (seats : List SeatState) → others + 1 ≡ plan.senders → AreSplitting plan infos plan.senders tables seats → AreFirst others seats
are-first plan infos others tables seats all split j c at' = elim (slice_get_cases tables j).1 [
  | inl (t, inside, at, same) ↦ (let here = (split.each j t c at at').splitting in (let shares = here.shares in omega arith, here.told))
  | inr (past, nothing) ↦ absurd (let inside = slice_get_within seats j c at' in let long = split.long in omega arith)
]
