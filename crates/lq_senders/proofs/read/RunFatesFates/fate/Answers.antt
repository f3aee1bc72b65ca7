use Rattle.std.proofs.Common.{◌<◌, ◌∙◌, ℕ, List, Some, ap, arith, length}
use Rattle.lq_model.specs.declared.fate.Info.{Info}
use Rattle.lq_senders.specs.Told.{fates_in, word_in, words_lent}
use Rattle.lq_senders.proofs.WordsTold.{told-at, told-long, word-told}
use Rattle.lq_senders.proofs.read.RunFatesFates.fate.Goals as goal

-- a packet that has a fate has an info
among : (infos : List Info) (words : List (List ℕ)) (n : ℕ) → n < length (fates_in infos words) → n < length infos
among infos words n below = let long = told-long infos words in omega arith

pub overflow_cast-n : goal.overflow_cast-n
overflow_cast-n c =
    let inside = among c.args.self.now.infos.now (words_lent c.args.self.now.words) c.args.n c.requires in let few = c.args.self.now.few in omega arith

pub read-requires-clause-packet : goal.read-requires-clause-packet
read-requires-clause-packet c = among c.args.self.now.infos.now (words_lent c.args.self.now.words) c.args.n c.requires

pub read-requires-clause-told : goal.read-requires-clause-told
read-requires-clause-told c = c.args.self.now.told c.args.n (among c.args.self.now.infos.now (words_lent c.args.self.now.words) c.args.n c.requires)

pub returns : goal.returns
returns c =
    let infos = c.args.self.now.infos.now in let words = words_lent c.args.self.now.words in let n = c.args.n in
    told-at infos words n (among infos words n c.requires) ∙ ap Some (word-told c.read.result (word_in infos words n) c.read.ensures)
