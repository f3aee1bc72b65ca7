use Rattle.lq_account_laws.proofs.Meets.{all-meet, meets-at}
use Rattle.lq_account_laws.proofs.laws.trails.trails_meet_events.Goals as goal

pub returns : goal.returns
returns c plan infos fates pasts accounts len of_plan closed trails =
    all-meet plan infos fates len of_plan (λ station inside. meets-at plan infos station inside fates (pasts station) (accounts station) (closed station inside) (trails station inside))
