use Rattle.lq_card_laws.proofs.Waits.{waits-only}
use Rattle.lq_card_laws.proofs.waits_only_for_room.Goals as goal

pub returns : goal.returns
returns c card plan packets infos station fits n due more = waits-only card plan packets infos station fits n due more
