-- What a live resize makes of what control knows.
use Rattle.std.specs.Prelude.{◌≡◌, ◌<◌, ℕ, List, [], ◌∷◌, ◌++◌, None, map, take, drop, length, Contains}
use Rattle.lq_model.specs.Account.{Resize, held_in}
use Rattle.lq_model.specs.Plan.{band_in}
use Rattle.lq_model.specs.declared.fate.Info.{Info}
use Rattle.lq_model.specs.declared.machine.Phase.TheVariants.{Purged}
use Rattle.lq_table.specs.Sees.{IsSole, account_of}
use Rattle.lq_band_laws.specs.Three.{Three, all_three}
use Rattle.lq_band_laws.specs.Ring.{Lock, at_start, locked_at}
use Rattle.lq_table.specs.Views.{View}
use Rattle.lq_model.specs.declared.fate.Fate.TheVariants as fate
use Rattle.lq_ring.specs.Fates.{fates_onto}

-- each packet that a band held is one of the capture, and of this band
abbrev pub HoldOwnPackets : List Info → (ℕ → List ℕ) → Type 0
HoldOwnPackets infos held = (b n : ℕ) → b < 3 → Contains (held b) n → (band_in infos n ≡ b) × (n < length infos)

-- what the bands held: nothing where the station is deactivated and purged, and for a seat that has the table alone what its
-- account says
abbrev pub IsKnownHeld : View → (ℕ → List ℕ) → Type 0
IsKnownHeld v held = (v.control.phase ≡ Purged → (b : ℕ) → b < 3 → held b ≡ []) × (IsSole v → (b : ℕ) → b < 3 → held b ≡ held_in (account_of v) b)

-- what the bands lose that held these packets, in the order in which their fates are stored
abbrev pub all_lost : ℕ → (ℕ → List ℕ) → List ℕ
all_lost len held = drop len (held 0) ++ (drop len (held 1) ++ drop len (held 2))

-- a resize was done: its event came, each band kept its first packets, the fates of the others are stored, and the rings start again
abbrev pub having_resized : ℕ → ℕ → List ℕ → View → View
having_resized len event lost v = record v {
  holder = record v.holder { size = len; ends = all_three at_start; resizing = None };
  whole = record v.whole {
    qdisc = record v.whole.qdisc { bands = map (λ band. take len band) v.whole.qdisc.bands; len = len };
    state = record v.whole.state { past = Resize len event ∷ v.whole.state.past; ends = all_three at_start; resizing = None };
  };
  settled = fates_onto (fate.Shrunk event) lost v.settled;
  trail = Resize len event ∷ v.trail;
}

-- the producer locks, with these indices
abbrev pub locked_three : ℕ → ℕ → ℕ → Three Lock
locked_three low mid high = record { low = locked_at low; mid = locked_at mid; high = locked_at high }
