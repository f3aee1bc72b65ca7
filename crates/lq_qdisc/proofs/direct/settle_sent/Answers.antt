use Rattle.lq_table.specs.Sees.{view, packet_at}
use Rattle.lq_qdisc.proofs.DirectLemmas.{may_settle, sent_has_word}
use Rattle.lq_qdisc.proofs.direct.settle_sent.Goals as goal

pub settle-requires-clause-packet : goal.settle-requires-clause-packet
settle-requires-clause-packet g c κs within = (c.requires.within, sent_has_word (view c.args.cpu.now).holder c.args.fate c.requires.room c.requires.fate_is)

pub settle-requires-clause-may : goal.settle-requires-clause-may
settle-requires-clause-may g c κs within = let a = c.requires.accepted in
    may_settle _ c.args.n (packet_at c.args.shared.now c.args.n) c.requires.at.0 a.0 c.args.fate _ (view c.args.cpu.now) c.requires.at.1 c.requires.hand a.1 a.2 c.requires.fate_is

pub returns : goal.returns
returns g c = c.settle.ensures.makes
