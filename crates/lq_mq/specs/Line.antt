-- The line of a multi-queue root.
use Rattle.std.specs.Prelude.{ℕ, List, [], ◌∷◌, ◌++◌, codes}
use Rattle.std.specs.Fmt.{decimal}

abbrev pub mq_text : ℕ → ℕ → ℕ → List ℕ
mq_text j queues sent = codes "mq " ++ (decimal j ++ (codes " queues " ++ (decimal queues ++ (codes " sent " ++ (decimal sent ++ 10 ∷ [])))))
