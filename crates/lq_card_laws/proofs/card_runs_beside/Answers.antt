use Rattle.lq_card_laws.proofs.Beside.{runs-beside}
use Rattle.lq_card_laws.proofs.card_runs_beside.Goals as goal

pub returns : goal.returns
returns c card plan packets infos station fits n below = runs-beside card plan packets infos station fits n below
