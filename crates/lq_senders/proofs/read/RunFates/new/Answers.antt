use Rattle.std.proofs.Common.{arith, length, map, subst, sym}
use Rattle.std.proofs.lemmas.List.{length-map}
use Rattle.lq_table.specs.Ended.{ended_state}
use Rattle.lq_senders.specs.Told.{AreLent}
use Rattle.lq_senders.proofs.WordsTold.{lent-fates, lent-told}
use Rattle.lq_senders.proofs.read.RunFates.new.Given as given
use Rattle.lq_senders.proofs.read.RunFates.new.Goals as goal
use Rattle.lq_senders.proofs.read.RunFates.new.Goals.{After-lent_words}

pub lent_words-requires-clause-stations : goal.lent_words-requires-clause-stations
lent_words-requires-clause-stations g c κs within =
    let long = length-map c.args.ended.now (ended_state {D = g.row.D.Denot} {g = g.D.TxDevice}) in let few = c.requires.stations in omega arith

-- each station's words are lent
lent : (g : given.Over) (c : After-lent_words g)
    → AreLent (map (ended_state {D = g.row.D.Denot} {g = g.D.TxDevice}) c.args.ended.now) (length (map (ended_state {D = g.row.D.Denot} {g = g.D.TxDevice}) c.args.ended.now)) c.lent_words.result
lent g c =
    let h = ended_state {D = g.row.D.Denot} {g = g.D.TxDevice} in let ended = map h c.args.ended.now in
    subst (λ count. AreLent ended count c.lent_words.result) (sym (length-map c.args.ended.now h)) c.lent_words.ensures

pub invariant_of-result : goal.invariant_of-result
invariant_of-result g c = record {
  few = c.requires.few;
  told = lent-told c.args.infos.now (map (ended_state {D = g.row.D.Denot} {g = g.D.TxDevice}) c.args.ended.now) c.lent_words.result (lent g (goal.at.invariant_of-result g c).After-lent_words) c.requires;
}

pub returns : goal.returns
returns g c =
    lent-fates c.args.infos.now (map (ended_state {D = g.row.D.Denot} {g = g.D.TxDevice}) c.args.ended.now) c.lent_words.result (lent g (goal.at.returns g c).After-lent_words) c.requires
