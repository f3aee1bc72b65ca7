-- Lists of moves, whatever is asked of the machines on the way.
use Rattle.lq_model.specs.Kept.{IsInductive}
use Rattle.lq_model.specs.Machine.{Machine}
use Rattle.lq_run_laws.proofs.Inductive.{inductive}
use Rattle.lq_run_core.specs.Progress.{Course, Goes}
use Rattle.lq_run_core.specs.Progress.Goes.{no_move, one_more_move}

pub goes-map : (P Q : Machine → Type 0) → ((k : Machine) → P k → Q k) → (m n : Machine) (c : Course) → Goes P m c n → Goes Q m c n
goes-map P Q h m n _ (no_move is) = no_move (h m is)
goes-map P Q h m n _ (one_more_move c k n' before move after) = one_more_move c k n' (goes-map P Q h m k c before) move (h n' after)

pub goes-last : (P : Machine → Type 0) (m n : Machine) (c : Course) → Goes P m c n → P n
goes-last P m n _ (no_move is) = is
goes-last P m n _ (one_more_move c k n' before move after) = after

pub goes-inductive : (P : Machine → Type 0) (m n : Machine) (c : Course) → IsInductive m → Goes P m c n → IsInductive n
goes-inductive P m n _ kept (no_move is) = kept
goes-inductive P m n _ kept (one_more_move c k n' before move after) = inductive k n' (goes-inductive P m k c kept before) move
