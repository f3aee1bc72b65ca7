-- The steps that a seat made, each as the call of that name makes it. What the log says of a step is on the page of the word.
use Rattle.std.specs.Prelude.{ℕ}
pub use Rattle.lq_log.specs.Made.{Made, ◌⊳◌, cut, with_join}
use Rattle.lq_log.specs.Made.{load}

-- a load that only begins or ends a call of control, or that follows a join
abbrev pub load_base_log : ℕ → Made
load_base_log found = load 0 found
