use Rattle.std.proofs.Common.{◌≡◌, ◌+◌, ◌≤◌, ℕ, List, length}
use Rattle.lq_model.specs.Wire.{OpenedSoFar, all_interrupted}
use Rattle.lq_model.specs.declared.fate.Info.{Info}
use Rattle.lq_lone.specs.Lone.{HaveOneQueue, lone_state, waiting}
use Rattle.lq_wire.specs.Wire.{due_by}
use Rattle.lq_wire.specs.Wired.{InterruptsOn, IsWired, load}
use Rattle.lq_wire.proofs.wired.Wired.on_until.Given as goal

-- the interrupts that are left lead from here to the end
abbrev pub invariant-loop-interrupt : goal.invariant-loop-interrupt
invariant-loop-interrupt g l = record {
  on : (infos : List Info) (o : OpenedSoFar) → HaveOneQueue infos → IsWired l.fn.self o.wired
      → (left : ℕ) × (left + l.interrupt ≡ length l.fn.self.wire.ring.items + waiting (lone_state l.fn.self.station))
      × InterruptsOn l.fn.self.wire.card (g.F.Frames.packets l.frames) infos (due_by l.until) (all_interrupted l.fn.self.wire.card (g.F.Frames.packets l.frames) infos (due_by l.until) o) o left l.times l.self;
  count : l.times + waiting (lone_state l.self.station) ≤ waiting (lone_state l.fn.self.station) + l.interrupt;
  load : load l.self ≡ load l.fn.self;
  bypass : l.self.station.bypass ≡ l.fn.self.station.bypass;
  card : l.self.wire.card ≡ l.fn.self.wire.card;
}
