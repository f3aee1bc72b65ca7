-- Each kind of step is its moves.
use Rattle.std.proofs.Common.{◌≡◌, ℕ, suc, List, ◌∷◌, ◌++◌, length, length-append, get_or, refl, sym, ap, ◌∙◌, subst, arith, Some, None, true, false}
use Rattle.lq_log.specs.Made.{Made, load, store, swap, exchange, set, clear, rise, fall, cut, join}
use Rattle.lq_model.specs.declared.fate.Fate.TheVariants as fate
use Rattle.lq_table.specs.Step.{Standing, Step, step_leaves}
use Rattle.lq_table.specs.Step.{LookLock, TryLock, Unlock, MoveStation, LoadLock, LoadState, Check, Recheck, LookMissed, Miss, SetSched, ClearSched, ClearMissed, ClearDraining, SetMissed, SetDraining, Requeue, LoadXoff}
use Rattle.lq_table.specs.Step.{StoreXoff, LookStop, Wake, Enter, Leave, LoadInside, TakeTurn, GiveTurn, LoadTurn, LoadProducer, TakeProducer, GiveProducer, LoadSize, ProducerSlot, StoreSlot, HeadSlot, ZeroSlot, SetEnds}
use Rattle.lq_table.specs.Step.{SetStation, Settle, BeginPurge, BeginHungPurge, PurgeSlot, ResetMissed, ResetDraining, BeginResize, ClearSlot, FillSlot, SetProducer, StoreSize, BeginControl, EndControl, SetDeactivated}
use Rattle.lq_table.specs.Step.{ClearDeactivated, SwapDevice, OpenXoff, Split, TakeIn}
use Rattle.lq_table.specs.Producers.{load_size_view}
use Rattle.lq_table.specs.Views.{Setup, View}
use Rattle.lq_table_laws.specs.StepMoves.{IsLogged, IsMadeAs}
use Rattle.lq_table_laws.specs.Stepped.{Stepped}
use Rattle.lq_table_laws.proofs.AnyStep.{AreItsMoves, MovesAt, logs, remains, stays}
use Rattle.lq_table_laws.proofs.CallSteps.{begin_call, check, clear_draining, clear_missed, clear_sched, fail_lock, leave, load_inside, load_state, load_xoff, look_lock, look_missed, miss, recheck, requeue, set_draining, set_missed, set_sched, store_xoff, take_lock, unlock, wake}
use Rattle.lq_table_laws.proofs.ControlSteps.{begin_control, begin_hung_purge, begin_purge, begin_resize, clear_deactivated, end_control, open_xoff, purge_slot, reset_draining, reset_missed, set_deactivated, swap_device}
use Rattle.lq_table_laws.proofs.RingSteps.{clear_slot, fill_slot, give_producer, give_turn, head_slot, producer_slot, set_producer, settle_full, settle_purged, settle_refused, settle_sent, settle_shrunk, store_size, store_slot, take_producer, take_turn, zero_slot}

-- the word that a step names
abbrev word : Made → ℕ
word (load i was) = i
word (store i new) = i
word (swap i new was) = i
word (exchange i old new got) = i
word (set i bits was) = i
word (clear i stay) = i
word (rise i more) = i
word (fall i less) = i
word cut = 0
word (join steps) = 0

place_is : {k : Setup} {place : ℕ} (t : Stepped k place) (made : Made) → IsLogged made t → place ≡ word made
place_is t (load i was) log = log.0
place_is t (store i new) log = log.0
place_is t (swap i new was) log = log.0
place_is t (exchange i old new true) log = log.0
place_is t (exchange i old new false) log = log.0
place_is t (set i bits was) log = log.0
place_is t (clear i stay) log = log.0
place_is t (rise i more) log = log
place_is t (fall i less) log = log
place_is t cut log = absurd log
place_is t (join steps) log = absurd log

longer : (made : Made) (steps : List Made) → steps ≡ made ∷ steps → ⊥
longer made steps is = let e : length steps ≡ suc (length steps) = ap length is in omega arith

longer_by : (made first next : Made) (more steps : List Made) → ◌≡◌ {A = List Made} (first ∷ next ∷ (more ++ steps)) (made ∷ steps) → ⊥
longer_by made first next more steps is =
    let e : suc (suc (length (more ++ steps))) ≡ suc (length steps) = ap length is in let both = length-append more steps in omega arith

at_word : (x : Step) (s : Standing) → MovesAt x s (word (get_or (step_leaves x s).steps 0 cut))
at_word (LookLock seen) s = look_lock seen s
at_word (TryLock None) s = fail_lock s
at_word (TryLock (Some d)) s = take_lock d s
at_word Unlock s = unlock s
at_word MoveStation s = λ t m. absurd (longer m.made s.steps m.appends)
at_word (LoadLock seen) s = λ t m. stays m m.station (logs m).2 s.view m.knows (remains s.view)
at_word (LoadState seen) s = load_state seen s
at_word (Check n seen) s = check n seen s
at_word (Recheck n seen) s = recheck n seen s
at_word (LookMissed seen) s = look_missed seen s
at_word (Miss was) s = miss was s
at_word (SetSched was) s = set_sched was s
at_word ClearSched s = clear_sched s
at_word ClearMissed s = clear_missed s
at_word ClearDraining s = clear_draining s
at_word (SetMissed was) s = set_missed was s
at_word (SetDraining was) s = set_draining was s
at_word (Requeue was) s = requeue was s
at_word (LoadXoff queue seen) s = load_xoff queue seen s
at_word (StoreXoff queue value) s = store_xoff queue value s
at_word (LookStop queue seen) s = λ t m. stays m m.station (logs m).2 s.view m.knows (remains s.view)
at_word (Wake queue true) s = wake queue s
at_word (Wake queue false) s = λ t m. stays m m.station (logs m).2 s.view m.knows (remains s.view)
at_word Enter s = begin_call s
at_word Leave s = leave s
at_word (LoadInside seen) s = load_inside seen s
at_word (TakeTurn n seen) s = take_turn n seen s
at_word (GiveTurn n) s = give_turn n s
at_word (LoadTurn owner seen) s = λ t m. stays m m.station (logs m).2 s.view m.knows (remains s.view)
at_word (LoadProducer band seen) s = λ t m. stays m m.station (logs m).2 s.view m.knows (remains s.view)
at_word (TakeProducer band seen true) s = take_producer band seen s
at_word (TakeProducer band seen false) s = λ t m. stays m m.station (logs m).2 s.view m.knows (remains s.view)
at_word (GiveProducer band index) s = give_producer band index s
at_word (LoadSize seen) s = λ t m. stays m m.station (logs m).2 (load_size_view seen s.view) m.knows (record { share = refl; place = refl; holder = refl; control = refl })
at_word (ProducerSlot band seen) s = producer_slot band seen s
at_word (StoreSlot band n) s = store_slot band n s
at_word (HeadSlot band seen) s = head_slot band seen s
at_word (ZeroSlot band i) s = zero_slot band i s
at_word (SetEnds band head tail) s = λ t m. absurd (longer m.made s.steps m.appends)
at_word (SetStation st) s = λ t m. absurd (longer m.made s.steps m.appends)
at_word (Settle n (fate.Sent unit serial)) s = settle_sent n unit serial s
at_word (Settle n (fate.Full by)) s = settle_full n s by
at_word (Settle n (fate.Shrunk event)) s = settle_shrunk n event s
at_word (Settle n (fate.Purged cause)) s = settle_purged n s cause
at_word (Settle n (fate.Refused event)) s = settle_refused n s event
at_word (BeginPurge event bands seen) s = begin_purge event bands seen s
at_word (BeginHungPurge bands seen) s = begin_hung_purge bands seen s
at_word (PurgeSlot band seen) s = purge_slot band seen s
at_word ResetMissed s = reset_missed s
at_word ResetDraining s = reset_draining s
at_word (BeginResize len event held slots seen) s = begin_resize len event held slots seen s
at_word (ClearSlot band i seen) s = clear_slot band i seen s
at_word (FillSlot band i n) s = fill_slot band i n s
at_word (SetProducer band index) s = set_producer band index s
at_word (StoreSize len) s = store_size len s
at_word (BeginControl seen) s = begin_control seen s
at_word (EndControl seen) s = end_control seen s
at_word (SetDeactivated event was) s = set_deactivated event was s
at_word ClearDeactivated s = clear_deactivated s
at_word SwapDevice s = swap_device s
at_word (OpenXoff queue) s = open_xoff queue s
at_word (Split owner) s = λ t m. absurd (logs m)
at_word (TakeIn other made q g seen) s = λ t m. absurd (longer_by m.made _ _ made s.steps m.appends)

pub is_its_moves : (k : Setup) (x : Step) (s : Standing) (place : ℕ) (t : Stepped k place) → IsMadeAs x s t → AreItsMoves x s t
is_its_moves k x s place t m = subst (λ (j : Setup). (t : Stepped j place) → IsMadeAs x s t → AreItsMoves x s t) about at_place t m
  where
    about : s.view.share.about ≡ k
    about = ap (λ (v : View). v.share.about) (sym m.knew) ∙ t.rule.parts.seats.shares.about t.seat t.before t.here t.live

    at_place : (t : Stepped s.view.share.about place) → IsMadeAs x s t → AreItsMoves x s t
    at_place t m = subst (λ (i : ℕ). (t : Stepped s.view.share.about i) → IsMadeAs x s t → AreItsMoves x s t) (sym (place_is t _ (logs m))) (at_word x s) t m
