use Rattle.std.proofs.Common.{◌≡◌, map, string_bytes, take}
use Rattle.lq_files.specs.Command.{bytes_of_words}
use Rattle.lq_top.proofs.program.words_of.Given as goal

abbrev pub invariant-loop-text : goal.invariant-loop-text
invariant-loop-text l = bytes_of_words l.words.items ≡ map string_bytes (take l.text-index l.fn.texts)
