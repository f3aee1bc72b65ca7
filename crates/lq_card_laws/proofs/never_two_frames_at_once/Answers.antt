use Rattle.lq_card_laws.proofs.InTurn.{in-turn}
use Rattle.lq_card_laws.proofs.never_two_frames_at_once.Goals as goal

pub returns : goal.returns
returns c card plan packets infos = in-turn card plan packets infos
