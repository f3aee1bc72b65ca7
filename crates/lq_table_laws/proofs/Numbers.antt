-- What no moves make of the number of a machine.
use Rattle.std.proofs.Common.{◌≡◌, ℕ, refl, sym, ap, arith}
use Rattle.lq_model.specs.Machine.{Machine}
use Rattle.lq_run_core.specs.Measure.{measure}
use Rattle.lq_run_core.specs.Progress.{Course, Goes, IsAny}
use Rattle.lq_run_core.specs.Progress.Goes.{no_move, one_more_move}
use Rattle.lq_table_laws.specs.Stepped.{Leads, counting, none_sent}

none-same : (m n : Machine) (c : Course) → Goes IsAny m c n → c.moves ≡ 0 → m ≡ n
none-same m n _ (no_move any) e = refl
none-same m n _ (one_more_move c k n' before move after) e = absurd (omega (arith, e))

pub same : (m n : Machine) (cost : ℕ) → Leads (none_sent 0 cost) m n → measure n ≡ measure m
same m n cost l = sym (ap measure (none-same m (counting l.sent l.full n) (none_sent 0 cost) l.goes refl))
