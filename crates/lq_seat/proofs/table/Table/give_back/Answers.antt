use Rattle.std.proofs.Common.{ap, ◌∙◌}
use Rattle.std.proofs.lemmas.Option.{same_Some}
use Rattle.lq_seat.proofs.table.Table.give_back.Goals as goal
use Rattle.lq_seat.specs.State.{SeatState}
use Rattle.lq_table.specs.Rule.{account, holders, shown, words_of}
use Rattle.lq_table.specs.Sees.{view, setup, closed_words}

pub returns-clause-device : goal.returns-clause-device
returns-clause-device g c =
    let sh = c.self.inside.shared in let v = view c.seat.inside.cpu in
    let shares = ap (λ (s : SeatState). s.shares) c.seat.view_is ∙ c.requires.may.sole.0 in let told = ap (λ (s : SeatState). s.told) c.seat.view_is ∙ c.requires.may.sole.1 in
    let e = c.close.ensures.sole shares told in
    c.into_device-ended.ensures.device (shown (holders v.whole.state (account (setup sh) v.whole.state) (words_of (setup sh) (closed_words c.close.result)).size)) (same_Some _ _ e.home)
    ∙ ap (λ (s : SeatState). s.whole.device) c.seat.view_is

pub returns-clause-identity : goal.returns-clause-identity
returns-clause-identity g c =
    let first = ap (λ (s : SeatState). s.first) c.seat.view_is ∙ c.requires.may.first in
    let shares = ap (λ (s : SeatState). s.shares) c.seat.view_is ∙ c.requires.may.sole.0 in let told = ap (λ (s : SeatState). s.told) c.seat.view_is ∙ c.requires.may.sole.1 in
    let served = c.close.ensures.served shares told first in
    ap (λ d. d.identity) (c.into_device-ended.ensures.device served.0 served.1) ∙ (served.2.identity ∙ ap (λ (s : SeatState). s.origin.identity) c.seat.view_is)
