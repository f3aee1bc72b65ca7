use Rattle.lq_card_laws.proofs.Often.{turned-more}
use Rattle.lq_card_laws.proofs.card_opens_so_often.Goals as goal

pub returns : goal.returns
returns c card plan packets infos n w = turned-more card packets infos plan n w
