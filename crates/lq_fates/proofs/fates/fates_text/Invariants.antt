use Rattle.std.proofs.Common.{◌≡◌, ◌++◌, drop}
use Rattle.std.specs.Fmt.{decimal}
use Rattle.std.specs.List.{enumerate_from, flat_map}
use Rattle.lq_model.specs.Texts.{fate_words, fates_text}
use Rattle.lq_fates.proofs.fates.fates_text.Given as goal

-- what is written and the lines still to come are the text
abbrev pub invariant-loop-n : goal.invariant-loop-n
invariant-loop-n l = l.text.items ++ flat_map (λ packet. decimal packet.0 ++ fate_words packet.1) (enumerate_from l.n (drop l.n l.fates)) ≡ fates_text l.fates
