use Rattle.std.proofs.Common.{ℕ, sym, subst, arith, IfSome}
use Rattle.lq_model.specs.declared.fate.Fate.{Fate}
use Rattle.lq_model.specs.Words.{IsWordOf}
use Rattle.lq_table.proofs.ReadBack.{fate_read, if_none}
use Rattle.lq_table.proofs.ended.FateWords.fate.Goals as goal

pub returns-clause-some : goal.returns-clause-some
returns-clause-some c = let w = c.args.self.now in
    subst (λ (word : ℕ). IfSome c.word_fate.result (λ fate. IsWordOf fate word)) (sym (fate_read _ w.from w.packets c.args.n _ c.requires.packet (let long = w.long in let ok = w.words.now.ok.0 in omega arith) c.get.ensures)) c.word_fate.ensures.some

pub returns-clause-none : goal.returns-clause-none
returns-clause-none c = let w = c.args.self.now in
    let read = fate_read _ w.from w.packets c.args.n _ c.requires.packet (let long = w.long in let ok = w.words.now.ok.0 in omega arith) c.get.ensures in
    if_none c.word_fate.result (λ (no_ : (fate : Fate) → IsWordOf fate c.get.result.now → ⊥). w.written c.args.n (λ f is. no_ f (subst (IsWordOf f) read is))) c.word_fate.ensures.none
