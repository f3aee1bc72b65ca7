-- What one step leaves and tells where it is known what it found.
use Rattle.std.proofs.Common.{◌≡◌, ◌≢◌, ℕ, ◌-◌, ◌<◌, ◌≤◌, ◌/◌, Bool, true, false, eqb, List, [], ◌∷◌, drop, Option, Some, sym, ap, ◌∙◌, subst, eq-eqb, ne_eqb}
use Rattle.std.specs.Option.{unwrap_or}
use Rattle.std.specs.Prelude.{if◌then◌else◌, slice_get, slice_index}
use Rattle.lq_band_laws.specs.Ring.{locked_at, with_room}
use Rattle.lq_band_laws.specs.Three.{at, put}
use Rattle.lq_model.specs.Band.{held_of}
use Rattle.lq_model.specs.Machine.{Purge}
use Rattle.lq_model.specs.Plan.{owner_in, rank_in}
use Rattle.lq_table.specs.Consumers.{head_slot_view, head_slot_view_empty}
use Rattle.lq_table.specs.Producers.{producer_slot_view_full, with_lock_at}
use Rattle.lq_table.specs.Purges.{first_purge, purge_slot_view, purge_slot_view_empty}
use Rattle.lq_table.specs.Resizes.{clear_slot_view, fill_slot_view, is_member, store_size_view}
use Rattle.lq_table.specs.Sees.{view}
use Rattle.lq_table.specs.Moves.{is_set}
use Rattle.lq_table.specs.States.{check_view_refused, load_state_view, recheck_view_direct, some_bit}
use Rattle.lq_table.specs.Step.{Check, ClearSlot, FillSlot, HeadSlot, MakesSteps, ProducerSlot, PurgeSlot, Recheck, StoreSize, TakeProducer, TakeTurn, due_word}
use Rattle.lq_table.specs.Turns.{take_turn_view}
use Rattle.lq_table.specs.Views.{HalfResize, Left, Setup, no_left, no_resizing}
use Rattle.lq_table.specs.declared.shared.Cpu.{Cpu}

-- which way it is, by what was found
of_true : {A : Type 0} {b : Bool} (w x y : A) → w ≡ (if b then x else y) → b ≡ true → w ≡ x
of_true w x y e is = e ∙ ap (λ (z : Bool). if z then x else y) is

of_false : {A : Type 0} {b : Bool} (w x y : A) → w ≡ (if b then x else y) → b ≡ false → w ≡ y
of_false w x y e is = e ∙ ap (λ (z : Bool). if z then x else y) is

of_zero : {A : Type 0} {found : ℕ} (w x y : A) → w ≡ (if eqb found 0 then x else y) → found ≡ 0 → w ≡ x
of_zero {A} {found} w x y e zero_ = of_true w x y e (eq-eqb found 0 zero_)

of_other : {A : Type 0} {found : ℕ} (w x y : A) → w ≡ (if eqb found 0 then x else y) → found ≢ 0 → w ≡ y
of_other {A} {found} w x y e other = of_false w x y e (ne_eqb found 0 other)

module _ {D : Type 0} {b a : Cpu D} where
  pub finds_empty_band : {band found : ℕ} → MakesSteps (HeadSlot band found ∷ []) b a → found ≡ 0 → view a ≡ head_slot_view_empty band (view b)
  finds_empty_band m zero_ = of_zero _ _ _ m.knows zero_

  pub takes_head : {band found : ℕ} → MakesSteps (HeadSlot band found ∷ []) b a → found ≢ 0 → view a ≡ head_slot_view band (found - 1) (view b)
  takes_head m other = of_other _ _ _ m.knows other

  pub finds_room : {band found : ℕ} → MakesSteps (ProducerSlot band found ∷ []) b a → found ≡ 0 → view a ≡ with_lock_at band (with_room (at band (view b).locks)) (view b)
  finds_room m zero_ = of_zero _ _ _ m.knows zero_

  pub drops_brought : {band found : ℕ} → MakesSteps (ProducerSlot band found ∷ []) b a → (n : ℕ) → (view b).packets.fresh ≡ Some n → found ≢ 0 → view a ≡ producer_slot_view_full n (found - 1) (view b)
  drops_brought {band} {found} m n fresh other = of_other _ _ _ m.knows other ∙ ap (λ (o : Option ℕ). producer_slot_view_full (unwrap_or o 0) (found - 1) (view b)) fresh

  pub gets_producer : {band seen : ℕ} {got : Bool} → MakesSteps (TakeProducer band seen got ∷ []) b a → got ≡ true → (view a ≡ with_lock_at band (locked_at (seen / 2)) (view b)) × (a.indices ≡ put band (seen / 2) b.indices) × (seen / 2 < (view b).share.about.max_len)
  gets_producer {band} {seen} m is = let y = subst (λ (g : Bool). MakesSteps (TakeProducer band seen g ∷ []) b a) is m in (y.knows, y.places, m.told.0.0 is)

  pub takes_turn : {n found : ℕ} → MakesSteps (TakeTurn n found ∷ []) b a → found ≡ due_word (view b) n → (k : Setup) → (view b).share.about ≡ k → view a ≡ take_turn_view n (owner_in k.infos n) (rank_in k.infos n) (view b)
  takes_turn {n} {found} m due k about = of_true _ _ _ m.knows (eq-eqb found _ due) ∙ ap (λ (x : Setup). take_turn_view n (owner_in x.infos n) (rank_in x.infos n) (view b)) about

  pub checks_active : {n found : ℕ} → MakesSteps (Check n found ∷ []) b a → is_set 2 found ≡ false → view a ≡ load_state_view found (view b)
  checks_active m off = of_false _ _ _ m.knows off

  pub checks_refused : {n found : ℕ} → MakesSteps (Check n found ∷ []) b a → is_set 2 found ≡ true → view a ≡ check_view_refused n (found / 256 - 1) found (view b)
  checks_refused m on = of_true _ _ _ m.knows on

  pub rechecks_waiting : {n found : ℕ} → MakesSteps (Recheck n found ∷ []) b a → some_bit found ≡ true → view a ≡ load_state_view found (view b)
  rechecks_waiting m on = of_true _ _ _ m.knows on

  pub rechecks_direct : {n found : ℕ} → MakesSteps (Recheck n found ∷ []) b a → some_bit found ≡ false → view a ≡ recheck_view_direct n found (view b)
  rechecks_direct m off = of_false _ _ _ m.knows off

  pub passes_empty_band : {band found : ℕ} → MakesSteps (PurgeSlot band found ∷ []) b a → (u : Purge) (l : Left) → (view b).control.purge ≡ Some u → (view b).holder.left ≡ Some l → found ≡ 0
      → (held_of (at band l.bands) ≡ []) × (view a ≡ purge_slot_view_empty u (view b))
  passes_empty_band {band} m u l purge left zero_ = (
    ap (λ (o : Option Left). held_of (at band (unwrap_or o no_left).bands)) (sym left) ∙ m.told.0.1 zero_,
    of_zero _ _ _ m.knows zero_ ∙ ap (λ (o : Option Purge). purge_slot_view_empty (unwrap_or o first_purge) (view b)) purge,
  )

  pub takes_first_left : {band found : ℕ} → MakesSteps (PurgeSlot band found ∷ []) b a → (l : Left) → (view b).holder.left ≡ Some l → found ≢ 0
      → (slice_get (held_of (at band l.bands)) 0 ≡ Some (found - 1)) × (view a ≡ purge_slot_view band (found - 1) l (view b))
  takes_first_left {band} {found} m l left other = (
    ap (λ (o : Option Left). slice_get (held_of (at band (unwrap_or o no_left).bands)) 0) (sym left) ∙ m.told.0.2 other,
    of_other _ _ _ m.knows other ∙ ap (λ (o : Option Left). purge_slot_view band (found - 1) (unwrap_or o no_left) (view b)) left,
  )

  pub clears_slot : {band i found : ℕ} → MakesSteps (ClearSlot band i found ∷ []) b a → (t : HalfResize) → (view b).holder.resizing ≡ Some t
      → (found ≡ slice_index (at band t.works).slots i) × (view a ≡ clear_slot_view band i t (view b)) × (is_member found (at band t.works) ≡ true → found ≤ 1000000)
  clears_slot {band} {i} {found} m t under_way = let is = ap (λ (o : Option HalfResize). unwrap_or o no_resizing) under_way in (
    m.told.0.0 ∙ ap (λ (x : HalfResize). slice_index (at band x.works).slots i) is,
    m.knows ∙ ap (λ (x : HalfResize). clear_slot_view band i x (view b)) is,
    λ member. m.told.0.1 (ap (λ (x : HalfResize). is_member found (at band x.works)) is ∙ member),
  )

  pub fills_slot : {band i n : ℕ} → MakesSteps (FillSlot band i n ∷ []) b a → (t : HalfResize) (hand : List ℕ) → (view b).holder.resizing ≡ Some t → (at band t.works).hand ≡ n ∷ hand → view a ≡ fill_slot_view band i n hand t (view b)
  fills_slot {band} {i} {n} m t hand under_way is_hand = m.knows ∙ (ap (λ (o : Option HalfResize). let x = unwrap_or o no_resizing in fill_slot_view band i n (drop 1 (at band x.works).hand) x (view b)) under_way ∙ ap (λ (h : List ℕ). fill_slot_view band i n (drop 1 h) t (view b)) is_hand)

  pub restarts : {len : ℕ} → MakesSteps (StoreSize len ∷ []) b a → (t : HalfResize) → (view b).holder.resizing ≡ Some t → view a ≡ store_size_view t (view b)
  restarts m t under_way = m.knows ∙ ap (λ (o : Option HalfResize). store_size_view (unwrap_or o no_resizing) (view b)) under_way
