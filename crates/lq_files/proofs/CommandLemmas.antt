-- What clap makes of the command table and words that aren't empty and have no dash in front.
use Rattle.std.proofs.Common.{◌≡◌, ◌≤◌, ◌∙◌, ◌&&◌, ℕ, Bool, true, false, refl, sym, ap, true≢false, inl, inr, List, [], ◌∷◌, ◌++◌, Option, Some, None, Bor, subst, codes, if◌then◌else◌, nat_le}
use Rattle.std.specs.Prelude.{is_some, option_and_then, option_map, unwrap_or, slice_get}
use Rattle.std.specs.List.{fold, list_all}
use Rattle.std.specs.Str.{bytes_eq}
use Rattle.std.proofs.lemmas.Slice.Eq.{bytes_eq-Decides}
use Rattle.std.proofs.lemmas.Bool.{cases_Bool}
use Rattle.std.proofs.lemmas.Bool.Decides.{leb_tells}
use Rattle.std.proofs.Math.Dec.{leb-zero}
use Rattle.clap.specs.Faults.{entered_fault, fault_of, level_fault}
use Rattle.clap.specs.Simple.{App, Shape, built, entered, names_of, new_shape, rows_at, subcommand_of}
use Rattle.clap.specs.Takes.{entered_passes, level_passes, takes, walk_passes}
use Rattle.clap.specs.Walk.{Held, Names, Row, Text, Walk, finished, idle, nothing_held, subcommand_met, walk, walked}
use Rattle.clap.specs.declared.builder.value_parser.Reading.TheVariants.{AsWritten}
use Rattle.clap.specs.declared.parser.matches.ValueSource.TheVariants.{CommandLine}
use Rattle.clap.proofs.WalkLemmas.{both, walk_stopped}
use Rattle.lq_run_core.specs.Schedule.{number_between, number_of}
use Rattle.lq_files.specs.Command.{CommandWords, AreOperandsWithin, OfGen, OfTap, OfTrace, command_of_words, command_with, gen_of, is_operand, bytes_of_words, tap_of}
use Rattle.lq_files.specs.Forms.{command_in, five_in, one_in, table_app, three_in}
use Rattle.lq_files.proofs.ParseLemmas.{Fails, IsPlain, built_taken, fails_here, fails_later, level_fails_after, level_fails_below, level_fails_in_walk, level_taken, passes_more, passes_none, plain, some_kind, standing, step, step_fails_as, step_is_taken}

-- THE TABLE AS CLAP BUILDS IT

abbrev whole : App
whole = built table_app

abbrev names : Names
names = names_of whole

-- the forms of `run`, `gen`, `trace` and `tap`; the first two differ in their names alone
abbrev form_at : ℕ → Shape
form_at k = unwrap_or (slice_get whole.subs k) (new_shape [])

abbrev three : Text → Shape
three verb = record (form_at 0) { name = verb }

abbrev one : Shape
one = form_at 2

abbrev five : Shape
five = form_at 3

abbrev run : Text
run = codes "run"

abbrev gen : Text
gen = codes "gen"

abbrev trace : Text
trace = codes "trace"

abbrev tap : Text
tap = codes "tap"

-- what is held after one operand, two and so on up to five
abbrev row : Text → Text → Row
row id text = record { id = id; values = text ∷ []; count = None; source = Some CommandLine; reading = AsWritten }

abbrev held_one : Text → Held
held_one p = record { rows = []; pending = Some (codes "FIRST", p ∷ []); skip = 0 }

abbrev held_two : Text → Text → Held
held_two p c = record { rows = row (codes "FIRST") p ∷ []; pending = Some (codes "SECOND", c ∷ []); skip = 0 }

abbrev held_three : Text → Text → Text → Held
held_three p c o = record { rows = row (codes "FIRST") p ∷ row (codes "SECOND") c ∷ []; pending = Some (codes "THIRD", o ∷ []); skip = 0 }

abbrev held_four : Text → Text → Text → Text → Held
held_four p c o f =
    record { rows = row (codes "FIRST") p ∷ row (codes "SECOND") c ∷ row (codes "THIRD") o ∷ []; pending = Some (codes "FOURTH", f ∷ []); skip = 0 }

abbrev held_five : Text → Text → Text → Text → Text → Held
held_five p c o f i =
    record {
      rows = row (codes "FIRST") p ∷ row (codes "SECOND") c ∷ row (codes "THIRD") o ∷ row (codes "FOURTH") f ∷ [];
      pending = Some (codes "FIFTH", i ∷ []);
      skip = 0;
    }

-- VERBS

-- the walk over the whole stops at a verb
abbrev stopped_at : Text → List Text → Walk
stopped_at verb rest = record { held = nothing_held; waiting = idle; position = 1; is_trailing = false; stopped = Some (verb, rest) }

-- the words after a verb are its form's
passes_stopped : (verb : Text) (seen rest : List Text) → walk_passes whole.top names (stopped_at verb seen) rest ≡ true
unfolding walked walk_passes
passes_stopped verb seen [] = refl
passes_stopped verb seen (word ∷ rest) = passes_stopped verb (seen ++ word ∷ []) rest

-- a verb of the table, and its form
record IsVerb (verb : Text) (form : Shape) : Type 0 where
  pub stops : walked whole.top.rules names (standing nothing_held 1) verb ≡ stopped_at verb []
  pub passes : (rest : List Text) → walk_passes whole.top names (stopped_at verb []) rest ≡ true → walk_passes whole.top names (standing nothing_held 1) (verb ∷ rest) ≡ true
  pub taken : (rest : List Text) → entered_passes whole (Some (verb, rest)) ≡ level_passes form [] nothing_held rest false
  pub refused : (rest : List Text) → entered_fault whole (Some (verb, rest)) ≡ level_fault form [] nothing_held rest false []
  pub enters : (rest : List Text) → entered whole (Some (verb, rest)) ≡ Some (rows_at form rest)
  pub named : form.name ≡ verb

is_run : IsVerb run (three run)
unfolding walked walk_passes
is_run = record { stops = refl; passes = λ rest after. after; taken = λ rest. refl; refused = λ rest. refl; enters = λ rest. refl; named = refl }

is_gen : IsVerb gen (three gen)
unfolding walked walk_passes
is_gen = record { stops = refl; passes = λ rest after. after; taken = λ rest. refl; refused = λ rest. refl; enters = λ rest. refl; named = refl }

is_trace : IsVerb trace one
unfolding walked walk_passes
is_trace = record { stops = refl; passes = λ rest after. after; taken = λ rest. refl; refused = λ rest. refl; enters = λ rest. refl; named = refl }

is_tap : IsVerb tap five
unfolding walked walk_passes
is_tap = record { stops = refl; passes = λ rest after. after; taken = λ rest. refl; refused = λ rest. refl; enters = λ rest. refl; named = refl }

module _ (verb : Text) (form : Shape) (is : IsVerb verb form) (rest : List Text) where
  walk_verb : walk whole.top.rules names nothing_held (verb ∷ rest) ≡ stopped_at verb rest
  walk_verb = ap (λ w. fold (walked whole.top.rules names) w rest) is.stops ∙ sym (walk_stopped whole.top.rules names (stopped_at verb []) verb [] rest)

  -- the whole takes what the form takes
  table_takes : level_passes form [] nothing_held rest false ≡ true → takes table_app (verb ∷ rest) ≡ true
  table_takes inside =
      let top : level_passes whole.top names nothing_held (verb ∷ rest) true ≡ true =
      level_taken whole.top names nothing_held (verb ∷ rest) true (stopped_at verb rest) walk_verb (is.passes rest (passes_stopped verb [] rest)) refl refl refl in
      built_taken whole nothing_held (verb ∷ rest) (stopped_at verb rest) walk_verb (is.taken rest ∙ inside)
      (subst (λ (e : Bool). level_passes whole.top names nothing_held (verb ∷ rest) e ≡ true) (sym (ap is_some (is.enters rest))) top)

  -- the words after the verb are matched by the form
  table_matches : option_and_then command_in (subcommand_of table_app (verb ∷ rest)) ≡ command_in (rows_at form rest)
  table_matches = ap (λ (w : Walk). option_and_then command_in (entered whole w.stopped)) walk_verb ∙ ap (option_and_then command_in) (is.enters rest)

  -- where the form refuses them, so does the whole
  form_fails : Fails (level_fault form [] nothing_held rest false []) → Fails (fault_of table_app (verb ∷ rest))
  form_fails f = level_fails_below whole.top names nothing_held (verb ∷ rest) _ _
      (subst (λ (w : Walk). Fails (entered_fault whole w.stopped)) (sym walk_verb) (subst Fails (sym (is.refused rest)) f))

-- OPERANDS

walked_one : (verb p : Text) → IsPlain p → walked (three verb).rules [] (standing nothing_held 1) p ≡ standing (held_one p) 2
walked_one verb p first = step [] nothing_held 1 p refl first (three verb).rules

walked_two : (verb p c : Text) → IsPlain c → walked (three verb).rules [] (standing (held_one p) 2) c ≡ standing (held_two p c) 3
walked_two verb p c second = step [] (held_one p) 2 c refl second (three verb).rules

walked_three : (verb p c o : Text) → IsPlain o → walked (three verb).rules [] (standing (held_two p c) 3) o ≡ standing (held_three p c o) 4
walked_three verb p c o third = step [] (held_two p c) 3 o refl third (three verb).rules

walk_two : (verb p c : Text) → IsPlain p → IsPlain c → walk (three verb).rules [] nothing_held (p ∷ c ∷ []) ≡ standing (held_two p c) 3
walk_two verb p c first second = ap (λ w. walked (three verb).rules [] w c) (walked_one verb p first) ∙ walked_two verb p c second

walk_three : (verb p c o : Text) → IsPlain p → IsPlain c → IsPlain o → walk (three verb).rules [] nothing_held (p ∷ c ∷ o ∷ []) ≡ standing (held_three p c o) 4
walk_three verb p c o first second third = ap (λ w. walked (three verb).rules [] w o) (walk_two verb p c first second) ∙ walked_three verb p c o third

walked_only : (f : Text) → IsPlain f → walked one.rules [] (standing nothing_held 1) f ≡ standing (held_one f) 2
walked_only f first = step [] nothing_held 1 f refl first one.rules

five_one : (p : Text) → IsPlain p → walked five.rules [] (standing nothing_held 1) p ≡ standing (held_one p) 2
five_one p is = step [] nothing_held 1 p refl is five.rules

five_two : (p c : Text) → IsPlain c → walked five.rules [] (standing (held_one p) 2) c ≡ standing (held_two p c) 3
five_two p c is = step [] (held_one p) 2 c refl is five.rules

five_three : (p c o : Text) → IsPlain o → walked five.rules [] (standing (held_two p c) 3) o ≡ standing (held_three p c o) 4
five_three p c o is = step [] (held_two p c) 3 o refl is five.rules

five_four : (p c o f : Text) → IsPlain f → walked five.rules [] (standing (held_three p c o) 4) f ≡ standing (held_four p c o f) 5
five_four p c o f is = step [] (held_three p c o) 4 f refl is five.rules

five_five : (p c o f i : Text) → IsPlain i → walked five.rules [] (standing (held_four p c o f) 5) i ≡ standing (held_five p c o f i) 6
five_five p c o f i is = step [] (held_four p c o f) 5 i refl is five.rules

walk_five_two : (p c : Text) → IsPlain p → IsPlain c → walk five.rules [] nothing_held (p ∷ c ∷ []) ≡ standing (held_two p c) 3
walk_five_two p c a b = ap (λ w. walked five.rules [] w c) (five_one p a) ∙ five_two p c b

walk_five_three : (p c o : Text) → IsPlain p → IsPlain c → IsPlain o → walk five.rules [] nothing_held (p ∷ c ∷ o ∷ []) ≡ standing (held_three p c o) 4
walk_five_three p c o a b d = ap (λ w. walked five.rules [] w o) (walk_five_two p c a b) ∙ five_three p c o d

walk_five_four :
    (p c o f : Text) → IsPlain p → IsPlain c → IsPlain o → IsPlain f → walk five.rules [] nothing_held (p ∷ c ∷ o ∷ f ∷ []) ≡ standing (held_four p c o f) 5
walk_five_four p c o f a b d e = ap (λ w. walked five.rules [] w f) (walk_five_three p c o a b d) ∙ five_four p c o f e

walk_five :
    (p c o f i : Text) → IsPlain p → IsPlain c → IsPlain o → IsPlain f → IsPlain i
    → walk five.rules [] nothing_held (p ∷ c ∷ o ∷ f ∷ i ∷ []) ≡ standing (held_five p c o f i) 6
walk_five p c o f i a b d e g = ap (λ w. walked five.rules [] w i) (walk_five_four p c o f a b d e) ∙ five_five p c o f i g

-- WHAT IS TAKEN

module _ (verb p c o : Text) (first : IsPlain p) (second : IsPlain c) (third : IsPlain o) where
  three_passes : walk_passes (three verb) [] (standing nothing_held 1) (p ∷ c ∷ o ∷ []) ≡ true
  three_passes =
      passes_more (three verb) [] _ _ p (c ∷ o ∷ []) (step_is_taken [] nothing_held 1 p refl first (three verb)) (walked_one verb p first)
      (passes_more (three verb) [] _ _ c (o ∷ []) (step_is_taken [] (held_one p) 2 c refl second (three verb)) (walked_two verb p c second)
      (passes_more (three verb) [] _ _ o [] (step_is_taken [] (held_two p c) 3 o refl third (three verb)) (walked_three verb p c o third)
      (passes_none (three verb) [] (standing (held_three p c o) 4))))

  -- three plain words after the verb are taken
  three_taken : level_passes (three verb) [] nothing_held (p ∷ c ∷ o ∷ []) false ≡ true
  three_taken = level_taken (three verb) [] nothing_held (p ∷ c ∷ o ∷ []) false (standing (held_three p c o) 4) (walk_three verb p c o first second third) three_passes refl refl refl

  -- and they are the operands
  three_matched : three_in verb (rows_at (three verb) (p ∷ c ∷ o ∷ [])).1 ≡ command_with verb (p ∷ c ∷ o ∷ [])
  three_matched = ap (λ (w : Walk). three_in verb (finished (three verb).rules w.held)) (walk_three verb p c o first second third)

module _ (f : Text) (first : IsPlain f) where
  -- one plain word after `trace` is taken
  one_taken : level_passes one [] nothing_held (f ∷ []) false ≡ true
  one_taken = level_taken one [] nothing_held (f ∷ []) false (standing (held_one f) 2) (walked_only f first)
      (passes_more one [] _ _ f [] (step_is_taken [] nothing_held 1 f refl first one) (walked_only f first) (passes_none one [] (standing (held_one f) 2))) refl refl refl

  -- and it is the operand
  one_matched : one_in trace (rows_at one (f ∷ [])).1 ≡ command_with trace (f ∷ [])
  one_matched = ap (λ (w : Walk). one_in trace (finished one.rules w.held)) (walked_only f first)

module _ (p c o f i : Text) (a : IsPlain p) (b : IsPlain c) (d : IsPlain o) (e : IsPlain f) (g : IsPlain i) where
  five_passes : walk_passes five [] (standing nothing_held 1) (p ∷ c ∷ o ∷ f ∷ i ∷ []) ≡ true
  five_passes =
      passes_more five [] _ _ p (c ∷ o ∷ f ∷ i ∷ []) (step_is_taken [] nothing_held 1 p refl a five) (five_one p a)
      (passes_more five [] _ _ c (o ∷ f ∷ i ∷ []) (step_is_taken [] (held_one p) 2 c refl b five) (five_two p c b)
      (passes_more five [] _ _ o (f ∷ i ∷ []) (step_is_taken [] (held_two p c) 3 o refl d five) (five_three p c o d)
      (passes_more five [] _ _ f (i ∷ []) (step_is_taken [] (held_three p c o) 4 f refl e five) (five_four p c o f e)
      (passes_more five [] _ _ i [] (step_is_taken [] (held_four p c o f) 5 i refl g five) (five_five p c o f i g)
      (passes_none five [] (standing (held_five p c o f i) 6))))))

  -- five plain words after `tap` are taken
  five_taken : level_passes five [] nothing_held (p ∷ c ∷ o ∷ f ∷ i ∷ []) false ≡ true
  five_taken =
      level_taken five [] nothing_held (p ∷ c ∷ o ∷ f ∷ i ∷ []) false (standing (held_five p c o f i) 6) (walk_five p c o f i a b d e g) five_passes refl refl refl

  -- and they are the operands
  five_matched : five_in tap (rows_at five (p ∷ c ∷ o ∷ f ∷ i ∷ [])).1 ≡ command_with tap (p ∷ c ∷ o ∷ f ∷ i ∷ [])
  five_matched = ap (λ (w : Walk). five_in tap (finished five.rules w.held)) (walk_five p c o f i a b d e g)

-- WHAT IS REFUSED

-- without words
no_words : Fails (fault_of table_app [])
no_words = level_fails_after whole.top names nothing_held [] false (entered_fault whole None) (standing nothing_held 1) refl (some_kind _ _)

-- with another verb
unknown_verb :
    (verb : Text) (rest : List Text) → bytes_eq run verb ≡ false → bytes_eq gen verb ≡ false → bytes_eq trace verb ≡ false → bytes_eq tap verb ≡ false
    → IsPlain verb → Fails (fault_of table_app (verb ∷ rest))
unknown_verb verb rest no_run no_gen no_trace no_tap is =
    let unmet : subcommand_met names idle verb ≡ None = rw (no_run, no_gen, no_trace, no_tap) refl in
    level_fails_in_walk whole.top names nothing_held (verb ∷ rest) _ _ (fails_here whole.top names (standing nothing_held 1) verb rest
    (subst Fails (sym (step_fails_as names nothing_held 1 verb unmet is whole.top)) (some_kind _ _)))

-- another number of operands than three
none_of_three : (verb : Text) → Fails (level_fault (three verb) [] nothing_held [] false [])
none_of_three verb = level_fails_after (three verb) [] nothing_held [] false [] (standing nothing_held 1) refl (some_kind _ _)

one_of_three : (verb p : Text) → IsPlain p → Fails (level_fault (three verb) [] nothing_held (p ∷ []) false [])
one_of_three verb p a = level_fails_after (three verb) [] nothing_held (p ∷ []) false [] (standing (held_one p) 2) (walked_one verb p a) (some_kind _ _)

two_of_three : (verb p c : Text) → IsPlain p → IsPlain c → Fails (level_fault (three verb) [] nothing_held (p ∷ c ∷ []) false [])
two_of_three verb p c a b = level_fails_after (three verb) [] nothing_held (p ∷ c ∷ []) false [] (standing (held_two p c) 3) (walk_two verb p c a b) (some_kind _ _)

more_than_three :
    (verb p c o more : Text) (rest : List Text) → IsPlain p → IsPlain c → IsPlain o → IsPlain more
    → Fails (level_fault (three verb) [] nothing_held (p ∷ c ∷ o ∷ more ∷ rest) false [])
more_than_three verb p c o more rest a b d e =
    level_fails_in_walk (three verb) [] nothing_held (p ∷ c ∷ o ∷ more ∷ rest) false []
    (fails_later (three verb) [] _ _ p (c ∷ o ∷ more ∷ rest) (walked_one verb p a)
    (fails_later (three verb) [] _ _ c (o ∷ more ∷ rest) (walked_two verb p c b)
    (fails_later (three verb) [] _ _ o (more ∷ rest) (walked_three verb p c o d)
    (fails_here (three verb) [] (standing (held_three p c o) 4) more rest
    (subst Fails (sym (step_fails_as [] (held_three p c o) 4 more refl e (three verb))) (some_kind _ _))))))

-- another number than one
none_of_one : Fails (level_fault one [] nothing_held [] false [])
none_of_one = level_fails_after one [] nothing_held [] false [] (standing nothing_held 1) refl (some_kind _ _)

more_than_one : (f more : Text) (rest : List Text) → IsPlain f → IsPlain more → Fails (level_fault one [] nothing_held (f ∷ more ∷ rest) false [])
more_than_one f more rest a e =
    level_fails_in_walk one [] nothing_held (f ∷ more ∷ rest) false []
    (fails_later one [] _ _ f (more ∷ rest) (walked_only f a)
    (fails_here one [] (standing (held_one f) 2) more rest
    (subst Fails (sym (step_fails_as [] (held_one f) 2 more refl e one)) (some_kind _ _))))

-- another number than five
none_of_five : Fails (level_fault five [] nothing_held [] false [])
none_of_five = level_fails_after five [] nothing_held [] false [] (standing nothing_held 1) refl (some_kind _ _)

one_of_five : (p : Text) → IsPlain p → Fails (level_fault five [] nothing_held (p ∷ []) false [])
one_of_five p a = level_fails_after five [] nothing_held (p ∷ []) false [] (standing (held_one p) 2) (five_one p a) (some_kind _ _)

two_of_five : (p c : Text) → IsPlain p → IsPlain c → Fails (level_fault five [] nothing_held (p ∷ c ∷ []) false [])
two_of_five p c a b = level_fails_after five [] nothing_held (p ∷ c ∷ []) false [] (standing (held_two p c) 3) (walk_five_two p c a b) (some_kind _ _)

three_of_five : (p c o : Text) → IsPlain p → IsPlain c → IsPlain o → Fails (level_fault five [] nothing_held (p ∷ c ∷ o ∷ []) false [])
three_of_five p c o a b d =
    level_fails_after five [] nothing_held (p ∷ c ∷ o ∷ []) false [] (standing (held_three p c o) 4) (walk_five_three p c o a b d) (some_kind _ _)

four_of_five :
    (p c o f : Text) → IsPlain p → IsPlain c → IsPlain o → IsPlain f → Fails (level_fault five [] nothing_held (p ∷ c ∷ o ∷ f ∷ []) false [])
four_of_five p c o f a b d e =
    level_fails_after five [] nothing_held (p ∷ c ∷ o ∷ f ∷ []) false [] (standing (held_four p c o f) 5) (walk_five_four p c o f a b d e) (some_kind _ _)

more_than_five :
    (p c o f i more : Text) (rest : List Text) → IsPlain p → IsPlain c → IsPlain o → IsPlain f → IsPlain i → IsPlain more
    → Fails (level_fault five [] nothing_held (p ∷ c ∷ o ∷ f ∷ i ∷ more ∷ rest) false [])
more_than_five p c o f i more rest a b d e g h =
    level_fails_in_walk five [] nothing_held (p ∷ c ∷ o ∷ f ∷ i ∷ more ∷ rest) false []
    (fails_later five [] _ _ p (c ∷ o ∷ f ∷ i ∷ more ∷ rest) (five_one p a)
    (fails_later five [] _ _ c (o ∷ f ∷ i ∷ more ∷ rest) (five_two p c b)
    (fails_later five [] _ _ o (f ∷ i ∷ more ∷ rest) (five_three p c o d)
    (fails_later five [] _ _ f (i ∷ more ∷ rest) (five_four p c o f e)
    (fails_later five [] _ _ i (more ∷ rest) (five_five p c o f i g)
    (fails_here five [] (standing (held_five p c o f i) 6) more rest
    (subst Fails (sym (step_fails_as [] (held_five p c o f i) 6 more refl h five)) (some_kind _ _))))))))

-- THE TABLE

if_none : (b : Bool) → ◌≡◌ {A = Option CommandWords} None (if b then None else None)
if_none true = refl
if_none false = refl

-- operands that aren't empty and have no dash in front are judged by the table alone
taken : (verb : Text) (rest : List Text) → list_all is_operand rest ≡ true → command_with verb rest ≡ command_of_words (verb ∷ rest)
taken verb rest all = sym (ap (λ b. if b then command_with verb rest else None) all)

-- what is no command by the table is none
refused : (verb : Text) (rest : List Text) → None ≡ command_with verb rest → None ≡ command_of_words (verb ∷ rest)
refused verb rest none = if_none (list_all is_operand rest) ∙ ap (λ (c : Option CommandWords). if list_all is_operand rest then c else None) none

-- other texts differ, whichever stands first
turned : (a b : Text) → bytes_eq a b ≡ false → bytes_eq b a ≡ false
turned a b differ = elim (cases_Bool (bytes_eq b a)) [
  | inl same ↦ absurd (true≢false (sym ((bytes_eq-Decides a b).1 (sym ((bytes_eq-Decides b a).0 same))) ∙ differ))
  | inr other ↦ other
]

-- no verb but `tap` has more than three operands
no_more : (verb p c o n : Text) (rest : List Text) → bytes_eq verb tap ≡ false → None ≡ command_with verb (p ∷ c ∷ o ∷ n ∷ rest)
no_more verb p c o n [] other = refl
no_more verb p c o n (m ∷ []) other = rw other refl
no_more verb p c o n (m ∷ l ∷ ls) other = refl

-- plain words are matched as the table says; or they are refused, and are no command
data IsJudged (words : List Text) : Type 0 where
  Taken : takes table_app words ≡ true → option_and_then command_in (subcommand_of table_app words) ≡ command_of_words words → IsJudged words
  Refused : Fails (fault_of table_app words) → None ≡ command_of_words words → IsJudged words

-- the words after a verb with three operands
judged_three :
    (verb : Text) → IsVerb verb (three verb) → bytes_eq verb trace ≡ false → bytes_eq verb tap ≡ false → (rest : List Text) → list_all is_operand rest ≡ true → IsJudged (verb ∷ rest)
judged_three verb is other no_tap [] all = Refused (form_fails verb (three verb) is [] (none_of_three verb)) refl
judged_three verb is other no_tap (p ∷ []) all =
    let a = (both (is_operand p) _ all).0 in
    Refused (form_fails verb (three verb) is (p ∷ []) (one_of_three verb p (plain p a))) (refused verb (p ∷ []) (rw other refl))
judged_three verb is other no_tap (p ∷ c ∷ []) all =
    let first = both (is_operand p) _ all in
    let second = both (is_operand c) _ first.1 in
    Refused (form_fails verb (three verb) is (p ∷ c ∷ []) (two_of_three verb p c (plain p first.0) (plain c second.0))) (refused verb (p ∷ c ∷ []) refl)
judged_three verb is other no_tap (p ∷ c ∷ o ∷ []) all =
    let first = both (is_operand p) _ all in
    let second = both (is_operand c) _ first.1 in
    let third = both (is_operand o) _ second.1 in
    let a = plain p first.0 in
    let b = plain c second.0 in
    let d = plain o third.0 in
    let matched : command_in (rows_at (three verb) (p ∷ c ∷ o ∷ [])) ≡ command_with verb (p ∷ c ∷ o ∷ []) = rw (other, no_tap) (three_matched verb p c o a b d) in
    Taken (table_takes verb (three verb) is (p ∷ c ∷ o ∷ []) (three_taken verb p c o a b d))
    (table_matches verb (three verb) is (p ∷ c ∷ o ∷ []) ∙ matched ∙ taken verb (p ∷ c ∷ o ∷ []) all)
judged_three verb is other no_tap (p ∷ c ∷ o ∷ more ∷ rest) all =
    let first = both (is_operand p) _ all in
    let second = both (is_operand c) _ first.1 in
    let third = both (is_operand o) _ second.1 in
    let fourth = both (is_operand more) _ third.1 in
    Refused (form_fails verb (three verb) is (p ∷ c ∷ o ∷ more ∷ rest)
    (more_than_three verb p c o more rest (plain p first.0) (plain c second.0) (plain o third.0) (plain more fourth.0))) (refused verb (p ∷ c ∷ o ∷ more ∷ rest) (no_more verb p c o more rest no_tap))

-- the words after `trace`
judged_trace : (rest : List Text) → list_all is_operand rest ≡ true → IsJudged (trace ∷ rest)
judged_trace [] all = Refused (form_fails trace one is_trace [] none_of_one) refl
judged_trace (f ∷ []) all =
    let a = (both (is_operand f) _ all).0 in
    Taken (table_takes trace one is_trace (f ∷ []) (one_taken f (plain f a)))
    (table_matches trace one is_trace (f ∷ []) ∙ one_matched f (plain f a) ∙ taken trace (f ∷ []) all)
judged_trace (f ∷ more ∷ rest) all =
    let first = both (is_operand f) _ all in
    let second = both (is_operand more) _ first.1 in
    let fails = form_fails trace one is_trace (f ∷ more ∷ rest) (more_than_one f more rest (plain f first.0) (plain more second.0)) in
    Refused fails (refused trace (f ∷ more ∷ rest) (no_trace more rest))
  where
    no_trace : (next : Text) (after : List Text) → None ≡ command_with trace (f ∷ next ∷ after)
    no_trace next [] = refl
    no_trace next (o ∷ []) = refl
    no_trace next (o ∷ n ∷ ns) = no_more trace f next o n ns refl

-- the words after `tap`
judged_tap : (rest : List Text) → list_all is_operand rest ≡ true → IsJudged (tap ∷ rest)
judged_tap [] all = Refused (form_fails tap five is_tap [] none_of_five) refl
judged_tap (p ∷ []) all =
    let a = (both (is_operand p) _ all).0 in
    Refused (form_fails tap five is_tap (p ∷ []) (one_of_five p (plain p a))) (refused tap (p ∷ []) refl)
judged_tap (p ∷ c ∷ []) all =
    let first = both (is_operand p) _ all in
    let second = both (is_operand c) _ first.1 in
    Refused (form_fails tap five is_tap (p ∷ c ∷ []) (two_of_five p c (plain p first.0) (plain c second.0))) (refused tap (p ∷ c ∷ []) refl)
judged_tap (p ∷ c ∷ o ∷ []) all =
    let first = both (is_operand p) _ all in
    let second = both (is_operand c) _ first.1 in
    let third = both (is_operand o) _ second.1 in
    Refused (form_fails tap five is_tap (p ∷ c ∷ o ∷ []) (three_of_five p c o (plain p first.0) (plain c second.0) (plain o third.0)))
    (refused tap (p ∷ c ∷ o ∷ []) refl)
judged_tap (p ∷ c ∷ o ∷ f ∷ []) all =
    let first = both (is_operand p) _ all in
    let second = both (is_operand c) _ first.1 in
    let third = both (is_operand o) _ second.1 in
    let fourth = both (is_operand f) _ third.1 in
    Refused (form_fails tap five is_tap (p ∷ c ∷ o ∷ f ∷ []) (four_of_five p c o f (plain p first.0) (plain c second.0) (plain o third.0) (plain f fourth.0))) (refused tap (p ∷ c ∷ o ∷ f ∷ []) refl)
judged_tap (p ∷ c ∷ o ∷ f ∷ i ∷ []) all =
    let first = both (is_operand p) _ all in
    let second = both (is_operand c) _ first.1 in
    let third = both (is_operand o) _ second.1 in
    let fourth = both (is_operand f) _ third.1 in
    let fifth = both (is_operand i) _ fourth.1 in
    let a = plain p first.0 in
    let b = plain c second.0 in
    let d = plain o third.0 in
    let e = plain f fourth.0 in
    let g = plain i fifth.0 in
    Taken (table_takes tap five is_tap (p ∷ c ∷ o ∷ f ∷ i ∷ []) (five_taken p c o f i a b d e g))
    (table_matches tap five is_tap (p ∷ c ∷ o ∷ f ∷ i ∷ []) ∙ five_matched p c o f i a b d e g ∙ taken tap (p ∷ c ∷ o ∷ f ∷ i ∷ []) all)
judged_tap (p ∷ c ∷ o ∷ f ∷ i ∷ more ∷ rest) all =
    let first = both (is_operand p) _ all in
    let second = both (is_operand c) _ first.1 in
    let third = both (is_operand o) _ second.1 in
    let fourth = both (is_operand f) _ third.1 in
    let fifth = both (is_operand i) _ fourth.1 in
    let sixth = both (is_operand more) _ fifth.1 in
    Refused (form_fails tap five is_tap (p ∷ c ∷ o ∷ f ∷ i ∷ more ∷ rest)
    (more_than_five p c o f i more rest (plain p first.0) (plain c second.0) (plain o third.0) (plain f fourth.0) (plain i fifth.0) (plain more sixth.0))) (refused tap (p ∷ c ∷ o ∷ f ∷ i ∷ more ∷ rest) refl)

-- with another verb there is no command
no_command :
    (verb : Text) (rest : List Text) → bytes_eq verb run ≡ false → bytes_eq verb gen ≡ false → bytes_eq verb trace ≡ false → bytes_eq verb tap ≡ false
    → None ≡ command_with verb rest
no_command verb [] no_run no_gen no_trace no_tap = refl
no_command verb (p ∷ []) no_run no_gen no_trace no_tap = rw no_trace refl
no_command verb (p ∷ c ∷ []) no_run no_gen no_trace no_tap = refl
no_command verb (p ∷ c ∷ o ∷ []) no_run no_gen no_trace no_tap = rw (no_run, no_gen) refl
no_command verb (p ∷ c ∷ o ∷ n ∷ ns) no_run no_gen no_trace no_tap = no_more verb p c o n ns no_tap

judged : (words : List Text) → list_all is_operand words ≡ true → IsJudged words
judged [] all = Refused no_words refl
judged (verb ∷ rest) all =
    let words = both (is_operand verb) _ all in
    elim (cases_Bool (bytes_eq run verb)) [
      | inl named ↦ subst (λ v. IsJudged (v ∷ rest)) ((bytes_eq-Decides run verb).0 named) (judged_three run is_run refl refl rest words.1)
      | inr no_run ↦ elim (cases_Bool (bytes_eq gen verb)) [
        | inl named ↦ subst (λ v. IsJudged (v ∷ rest)) ((bytes_eq-Decides gen verb).0 named) (judged_three gen is_gen refl refl rest words.1)
        | inr no_gen ↦ elim (cases_Bool (bytes_eq trace verb)) [
          | inl named ↦ subst (λ v. IsJudged (v ∷ rest)) ((bytes_eq-Decides trace verb).0 named) (judged_trace rest words.1)
          | inr no_trace ↦ elim (cases_Bool (bytes_eq tap verb)) [
            | inl named ↦ subst (λ v. IsJudged (v ∷ rest)) ((bytes_eq-Decides tap verb).0 named) (judged_tap rest words.1)
            | inr no_tap ↦
                Refused (unknown_verb verb rest no_run no_gen no_trace no_tap (plain verb words.0))
                (refused verb rest (no_command verb rest (turned run verb no_run) (turned gen verb no_gen) (turned trace verb no_trace) (turned tap verb no_tap)))
          ]
        ]
      ]
    ]

module _ (words : List Text) where
  -- what is matched is the command
  pub matched : list_all is_operand words ≡ true → fault_of table_app words ≡ [] → option_and_then command_in (subcommand_of table_app words) ≡ command_of_words words
  matched all fits = elim (judged words all) [
    | Taken takes is ↦ is
    | Refused fails none ↦ absurd (fails fits)
  ]

  -- words that are not taken are no command
  pub unmatched : list_all is_operand words ≡ true → (takes table_app words ≡ true → ⊥) → None ≡ command_of_words words
  unmatched all fails = elim (judged words all) [
    | Taken takes is ↦ absurd (fails takes)
    | Refused faulty none ↦ none
  ]

-- a verb is plain
verb_is_plain : (verb other : Text) (rest : List Text) → is_operand verb ≡ true → list_all is_operand rest ≡ true → list_all is_operand (other ∷ rest) ≡ false → bytes_eq other verb ≡ false
verb_is_plain verb other rest is all some = elim (cases_Bool (bytes_eq other verb)) [
  | inl same ↦
      let plain_words : list_all is_operand (other ∷ rest) ≡ true = subst (λ v. list_all is_operand (v ∷ rest) ≡ true) (sym ((bytes_eq-Decides other verb).0 same)) (rw is all) in
      absurd (true≢false (sym plain_words ∙ some))
  | inr differs ↦ differs
]

-- nor are those with a word that is empty or has a dash in front
pub not_plain : (words : List Text) → list_all is_operand words ≡ false → None ≡ command_of_words words
not_plain [] some = absurd (true≢false some)
not_plain (verb ∷ rest) some = elim (cases_Bool (list_all is_operand rest)) [
  | inl all ↦
      let differs : (known : Text) → is_operand known ≡ true → bytes_eq verb known ≡ false = λ known is. verb_is_plain known verb rest is all some in
      refused verb rest (no_command verb rest (differs run refl) (differs gen refl) (differs trace refl) (differs tap refl))
  | inr no_operands ↦ sym (ap (λ b. if b then command_with verb rest else None) no_operands)
]

-- the words and their texts
pub words_all : (words : List (Bor Text)) → list_all (λ word. is_operand word.now) words ≡ list_all is_operand (bytes_of_words words)
words_all [] = refl
words_all (word ∷ rest) = ap (λ b. is_operand word.now && b) (words_all rest)

pub plain_words : (words : List (Bor Text)) → list_all (λ word. is_operand word.now) words ≡ true → list_all is_operand (bytes_of_words words) ≡ true
plain_words words e = sym (words_all words) ∙ e

pub not_plain_words : (words : List (Bor Text)) → list_all (λ word. is_operand word.now) words ≡ false → None ≡ command_of_words (bytes_of_words words)
not_plain_words words e = not_plain (bytes_of_words words) (sym (words_all words) ∙ e)

-- LIMITS

few_if : (b : Bool) (x y : Option CommandWords) → AreOperandsWithin x → AreOperandsWithin y → AreOperandsWithin (if b then x else y)
few_if true x y first second = first
few_if false x y first second = second

few_within : (n : ℕ) (number : ℕ) (out : List ℕ)
    → AreOperandsWithin (option_map (λ k. OfGen (record { number = number; count = k; out = out })) (if nat_le 0 n && nat_le n 1000000 then Some n else None))
few_within n number out = elim (leb_tells n 1000000) [
  | inl fits ↦ rw (leb-zero n, fits.0) fits.1
  | inr above ↦ rw (leb-zero n, above.0) _
]

few_in : (number : ℕ) (count : Option ℕ) (out : List ℕ)
    → AreOperandsWithin (option_map (λ k. OfGen (record { number = number; count = k; out = out }))
    (option_and_then (λ n. if nat_le 0 n && nat_le n 1000000 then Some n else None) count))
few_in number None out = _
few_in number (Some n) out = few_within n number out

few_gen : (number : Option ℕ) (count : List ℕ) (out : List ℕ)
    → AreOperandsWithin (option_and_then (λ n. option_map (λ k. OfGen (record { number = n; count = k; out = out })) (number_between 0 1000000 count)) number)
few_gen None count out = _
few_gen (Some n) count out = few_in n (number_of count) out

within_is : (low high : ℕ) (r : Option ℕ) (n : ℕ)
    → option_and_then (λ k. if nat_le low k && nat_le k high then Some k else None) r ≡ Some n → (low ≤ n) × (n ≤ high)
within_is low high None n e = cc
within_is low high (Some m) n e = elim (leb_tells low m) [
  | inl above ↦ elim (leb_tells m high) [
    | inl below ↦
        let same : m ≡ n = (let found : ◌≡◌ {A = Option ℕ} (Some m) (Some n) = sym (rw (above.0, below.0) refl) ∙ e in cc) in
        subst (λ k. (low ≤ k) × (k ≤ high)) same (above.1, below.1)
    | inr over ↦ (let none : ◌≡◌ {A = Option ℕ} None (Some n) = sym (rw (above.0, over.0) refl) ∙ e in cc)
  ]
  | inr under ↦ (let none : ◌≡◌ {A = Option ℕ} None (Some n) = sym (rw under.0 refl) ∙ e in cc)
]

tap_limits :
    (senders len batch : Option ℕ) (capture out : List ℕ) → ((n : ℕ) → senders ≡ Some n → (1 ≤ n) × (n ≤ 8)) → ((n : ℕ) → len ≡ Some n → (1 ≤ n) × (n ≤ 4096))
    → ((n : ℕ) → batch ≡ Some n → (1 ≤ n) × (n ≤ 64))
    → AreOperandsWithin (option_and_then (λ s. option_and_then (λ l. option_map (λ b. OfTap (record { senders = s; len = l; batch = b; capture = capture; out = out })) batch) len) senders)
tap_limits None len batch capture out s l b = _
tap_limits (Some n) None batch capture out s l b = _
tap_limits (Some n) (Some m) None capture out s l b = _
tap_limits (Some n) (Some m) (Some k) capture out s l b = record { some_senders = s n refl; some_slots = l m refl; some_at_once = b k refl }

few_tap : (senders len batch capture out : List ℕ) → AreOperandsWithin (tap_of senders len batch capture out)
few_tap senders len batch capture out =
    tap_limits (number_between 1 8 senders) (number_between 1 4096 len) (number_between 1 64 batch) capture out (within_is 1 8 (number_of senders)) (within_is 1 4096 (number_of len))
    (within_is 1 64 (number_of batch))

-- a command generates at most 1,000,000 records, and a tap is within its limits
limits_with : (verb : Text) (rest : List Text) → AreOperandsWithin (command_with verb rest)
limits_with verb [] = _
limits_with verb (p ∷ []) = few_if (bytes_eq verb trace) (Some (OfTrace p)) None _ _
limits_with verb (p ∷ c ∷ []) = _
limits_with verb (p ∷ c ∷ o ∷ []) =
    few_if (bytes_eq verb run) _ _ _ (few_if (bytes_eq verb gen) (gen_of p c o) None (few_gen (number_between 0 4294967295 p) c o) _)
limits_with verb (p ∷ c ∷ o ∷ f ∷ []) = _
limits_with verb (p ∷ c ∷ o ∷ f ∷ i ∷ []) = few_if (bytes_eq verb tap) (tap_of p c o f i) None (few_tap p c o f i) _
limits_with verb (p ∷ c ∷ o ∷ f ∷ i ∷ n ∷ ns) = _

pub within_limits : (words : List Text) → AreOperandsWithin (command_of_words words)
within_limits [] = _
within_limits (verb ∷ rest) = few_if (list_all is_operand rest) _ None (limits_with verb rest) _
