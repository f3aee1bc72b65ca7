-- The command line, and the call on the built-in bench.
use Rattle.std.proofs.Common.{◌≡◌, ◌≢◌, ◌<◌, ◌↔◌, ◌++◌, ◌∷◌, ◌∙◌, [], ℕ, List, length, drop, map, IfSome, IsSome, Option, Some, None, Result, Ok, Err, Vec, String, Global, string_bytes, refl, sym, ap, subst, inl, arith}
use Rattle.std.specs.Option.{option_to_list}
use Rattle.std.specs.declared.io.Error.{Error}
use Rattle.lq_model.specs.Device.{DeviceState}
use Rattle.lq_host.specs.Host.{HostState, Rose}
use Rattle.lq_table.specs.Ended.{EndedState}
use Rattle.lq_files.specs.Command.{command_of_words}
use Rattle.lq_top.specs.Decision.{verdict_of}
use Rattle.lq_top.specs.Reads.{after_reads}
use Rattle.lq_top.specs.Outcome.{IsAnswerOf, Outcome, OutcomeOfSome, TellsUsageFor}
use Rattle.lq_top.specs.Program.{HostAt, IsCodeOfCall, IsCodeOfLine, IsCodeOfWords, Line, TellsTexts, host_at, new_bench}
use Rattle.lq_files.specs.Status.{code_of}
use Rattle.lq_files.specs.declared.answer.Status.{Status}
use Rattle.lq_files.specs.declared.answer.Status.TheVariants as answer

-- what is left once the first one was taken, if there was one
pub left_behind : {X : Type 0} (first : Option X) (old new : List X) (len : ℕ) → len ≡ length old → (IsSome first ↔ (0 < len)) → old ≡ option_to_list first ++ new → new ≡ drop 1 old
left_behind (Some x) old new len counted some items = subst (λ all. new ≡ drop 1 all) (sym items) refl
left_behind None [] new len counted some items = sym items
left_behind None (x ∷ xs) new len counted some items = absurd (let none = some.1 (omega arith) in cc)

-- the call on a bench of 16 devices that were never configured
pub called_on : (words : List (List ℕ)) (old new : HostState) (was now : ℕ) (have : ℕ) (before after : List DeviceState) (ended : List EndedState) (status : Status) (number : ℕ)
    → have ≡ 16 → before ≡ new_bench → number ≡ code_of status
    → IfSome old.told (λ c. Outcome (verdict_of words c.files have) (after_reads old new) new before after ended status)
    → OutcomeOfSome (command_of_words words) have old new before after ended status
    → TellsUsageFor (command_of_words words) status
    → IfSome old.told (λ c. IsAnswerOf (verdict_of words c.files have) status)
    → (status ≡ answer.Fault → Rose was now) → (status ≢ answer.Fault → now ≡ was)
    → IsCodeOfCall words (host_at old was) (host_at new now) number
called_on words old new was now have before after ended status number sixteen bench code outcome some usage complete fault calm =
    record {
      status = status;
      code = code;
      after = after;
      ended = ended;
      outcome = subst (λ b. IfSome old.told (λ c. Outcome (verdict_of words c.files 16) (after_reads old new) new b after ended status)) bench
          (subst (λ n. IfSome old.told (λ c. Outcome (verdict_of words c.files n) (after_reads old new) new before after ended status)) sixteen outcome);
      some = subst (λ b. OutcomeOfSome (command_of_words words) 16 old new b after ended status) bench
          (subst (λ n. OutcomeOfSome (command_of_words words) n old new before after ended status) sixteen some);
      usage = usage;
      complete = subst (λ n. IfSome old.told (λ c. IsAnswerOf (verdict_of words c.files n) status)) sixteen complete;
      fault = fault;
      calm = calm;
    }

-- where the words can't be had, where there is no memory for them as texts, and where they are had
pub code_without : (args : Result Line Error) (number : ℕ) (host : HostAt) → TellsTexts args (Err number) → IsCodeOfLine args host host number
code_without (Ok line) number host told = inl (told, refl)
code_without (Err error) number host told = (told, refl)

pub code_for_memory : (args : Result Line Error) (texts : Vec (String Global) Global) (host : HostAt) → TellsTexts args (Ok texts) → IsCodeOfLine args host host 6
code_for_memory (Ok line) texts host told = inl (refl, refl)
code_for_memory (Err error) texts host told = absurd told

pub code_of_words : (args : Result Line Error) (texts : Vec (String Global) Global) (words : List (List ℕ)) (old new : HostAt) (number : ℕ) → TellsTexts args (Ok texts) → words ≡ map string_bytes texts.items
    → IsCodeOfWords words old new number → IsCodeOfLine args old new number
code_of_words (Ok line) texts words old new number told are code = subst (λ all. IsCodeOfWords all old new number) (are ∙ ap (map string_bytes) told) code
code_of_words (Err error) texts words old new number told are code = absurd told
