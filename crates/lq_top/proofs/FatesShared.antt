-- Threads may share the fates of a run: the words that the stations lend, and what each packet is to the rules.
use denote.Enum.Declared.{shape}
use denote.Enum.Enum.{Enum}
use denote.Param.Send.{IsSync, array_sync, sendable}
use denote.Ref.{NamedLft}
use Rattle.std.proofs.Common.{◌+◌}
use Rattle.std.specs.contracts.option.Option as Option
use Rattle.lq_model.specs.contracts.fate.Info as Info
use Rattle.lq_table.proofs.WordsShared.{words-shared}
use Rattle.lq_table.specs.contracts.ended.FateWords as FateWords
use Rattle.lq_senders.specs.contracts.read.RunFates as RunFates

lent-shared : (a : NamedLft) → IsSync (Enum (shape (Option.the_type (FateWords.the_row a))))
lent-shared a = let words : IsSync (FateWords.the_row a) = words-shared a in search sendable depth 20

infos-shared : IsSync Info.the_row
infos-shared = search sendable depth 20

pub fates-shared : (a : NamedLft) → IsSync (RunFates.the_row a)
fates-shared a = record {
  shared = λ d b o κ. (
    (
      ((λ q. (tt, (tt, tt))), ((array_sync _ 8 infos-shared).shared d.infos.now d.infos.ref_ptr.0 d.infos.ref_ptr.1 _).1),
      ((array_sync _ 8 (lent-shared a)).shared _ b (o + 16) κ, tt),
    ),
    λ q. tt,
  );
}
