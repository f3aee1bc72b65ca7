use Rattle.lq_account_laws.proofs.Trails.{have-all-come, no-swap-after-hang}
use Rattle.lq_account_laws.proofs.laws.trails.orderly_events_close.Goals as goal

pub returns : goal.returns
returns c plan infos fates station past a orderly is trail come nothing hand decided = record {
  orderly = orderly;
  account = is;
  nothing_held = nothing;
  hand_empty = hand;
  events = have-all-come plan infos station past come;
  no_swap_after_hang = no-swap-after-hang plan infos station past trail;
  decided = decided;
}
