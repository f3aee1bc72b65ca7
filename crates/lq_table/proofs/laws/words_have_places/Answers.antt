use Rattle.lq_table.proofs.PlacesApart.{places}
use Rattle.lq_table.proofs.laws.words_have_places.Goals as goal

pub returns : goal.returns
returns c k = places k
