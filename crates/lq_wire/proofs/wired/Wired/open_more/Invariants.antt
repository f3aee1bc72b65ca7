use Rattle.std.proofs.Common.{◌≡◌, ◌+◌, ◌≤◌, ℕ, List}
use Rattle.lq_model.specs.Wire.{OpenedSoFar, opened_at}
use Rattle.lq_model.specs.declared.fate.Info.{Info}
use Rattle.lq_lone.specs.Lone.{HaveOneQueue, lone_state, waiting}
use Rattle.lq_wire.specs.Wired.{IsWired, OpensOn, load, stop_count}
use Rattle.lq_wire.proofs.wired.Wired.open_more.Given as goal

-- the openings that are left lead from here to the end
abbrev pub invariant-loop-turn : goal.invariant-loop-turn
invariant-loop-turn g l = record {
  on : (infos : List Info) (o : OpenedSoFar) → HaveOneQueue infos → IsWired l.fn.self o.wired
      → (left : ℕ) × (left + l.turn ≡ waiting (lone_state l.fn.self.station) + 1)
      × OpensOn l.fn.self.wire.card (g.F.Frames.packets l.frames) infos l.now (opened_at l.fn.self.wire.card (g.F.Frames.packets l.frames) infos l.now o) o left l.times l.self;
  count : l.times + waiting (lone_state l.self.station) + stop_count l.self ≤ waiting (lone_state l.fn.self.station) + 1;
  accepted : l.fn.self.wire.accepted ≤ l.self.wire.accepted;
  load : load l.self ≡ load l.fn.self;
  bypass : l.self.station.bypass ≡ l.fn.self.station.bypass;
  card : l.self.wire.card ≡ l.fn.self.wire.card;
}
