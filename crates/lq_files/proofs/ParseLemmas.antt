-- A parse by clap of words that aren't empty and have no dash in front, for any command whose arguments are operands.
use Rattle.std.proofs.Common.{◌≡◌, ◌∙◌, ◌&&◌, ℕ, Bool, true, false, not, refl, sym, ap, true≢false, List, [], ◌∷◌, Option, None, Bor, option_map, subst}
use Rattle.std.specs.Prelude.{is_some}
use Rattle.std.specs.List.{list_all}
use Rattle.std.specs.Str.{bytes_eq}
use Rattle.clap.specs.Faults.{check_fault, defaults_fault, level_fault, settle_fault, step_fault, turn_fault, walk_fault}
use Rattle.clap.specs.Kinds.{Kinds, or_else}
use Rattle.clap.specs.Lexer.{long_of, short_of}
use Rattle.clap.specs.Matches.{first_value}
use Rattle.clap.specs.Simple.{App, Shape, entered, names_of}
use Rattle.clap.specs.Takes.{built_takes, default_passes, entered_passes, is_valid, level_passes, settle_passes, step_passes, turn_passes, walk_passes}
use Rattle.clap.specs.Walk.{arg_by_index, Held, Names, Rule, Text, Walk, finished, first_of, idle, rows_of, settled, subcommand_met, to_positional, value, walk, walk_from, walked}
use Rattle.clap.specs.declared.error.kind.ErrorKind.{ErrorKind}
use Rattle.clap.specs.declared.parser.matches.Found.{Found}
use Rattle.clap.proofs.WalkLemmas.{first_value-rows}
use Rattle.lq_files.specs.Command.{is_operand}

-- WORDS WITHOUT A DASH

is_no : (a : Bool) → not a ≡ true → a ≡ false
is_no false e = refl
is_no true e = absurd (true≢false (sym e))

-- what a word with no dash in front is not: the end of options, a long option, short options
pub record IsPlain (word : Text) : Type 0 where
  pub dashes : bytes_eq word (45 ∷ 45 ∷ []) ≡ false
  pub long : long_of word ≡ None
  pub short : short_of word ≡ None

pub plain : (word : Text) → is_operand word ≡ true → IsPlain word
plain [] e = absurd (true≢false (sym e))
plain (x ∷ xs) e =
    let other = is_no _ e in
    record {
      dashes = rw other refl;
      long = rw other refl;
      short = rw other refl;
    }

-- ONE STEP OF THE WALK

-- in front of a word for the positional k
abbrev pub standing : Held → ℕ → Walk
standing h k = record { held = h; waiting = idle; position = k; is_trailing = false; stopped = None }

module _ (names : Names) (h : Held) (k : ℕ) (word : Text) (other : subcommand_met names idle word ≡ None) (is : IsPlain word) where
  -- a plain word goes to the positional
  pub step : (c : List Rule) → walked c names (standing h k) word ≡ to_positional c (arg_by_index c k) word (standing h k) h
  unfolding walked
  step c = rw (other, is.dashes, is.long, is.short) refl

  pub step_is_taken : (s : Shape) → turn_passes s names (standing h k) word ≡ step_passes s k h value
  step_is_taken s = rw (other, is.dashes, is.long, is.short) refl

  pub step_fails_as : (s : Shape) → turn_fault s names (standing h k) word ≡ step_fault s k h value
  step_fails_as s = rw (other, is.dashes, is.long, is.short) refl

-- WHAT IS TAKEN

-- the word passes, and so do those after it
pub passes_more : (s : Shape) (names : Names) (w after : Walk) (word : Text) (rest : List Text) → turn_passes s names w word ≡ true → walked s.rules names w word ≡ after
    → walk_passes s names after rest ≡ true → walk_passes s names w (word ∷ rest) ≡ true
unfolding walk_passes
passes_more s names w after word rest here next later = rw (here, next) later

pub passes_none : (s : Shape) (names : Names) (w : Walk) → walk_passes s names w [] ≡ true
unfolding walk_passes
passes_none s ns w = refl

-- the words pass, and at their end nothing is wanting
pub level_taken : (s : Shape) (names : Names) (h : Held) (words : List Text) (has : Bool) (w : Walk) → walk s.rules names h words ≡ w → walk_passes s names (walk_from h) words ≡ true
    → settle_passes s.rules s.args_override_self w.held ≡ true → list_all default_passes s.rules ≡ true → is_valid s (finished s.rules w.held) has ≡ true
    → level_passes s names h words has ≡ true
level_taken s names h words has w walk_is passes settles defaults valid = rw (passes, walk_is, settles, defaults) valid

-- the words of the whole and those of the subcommand pass
pub built_taken : (a : App) (h : Held) (words : List Text) (w : Walk) → walk a.top.rules (names_of a) h words ≡ w → entered_passes a w.stopped ≡ true
    → level_passes a.top (names_of a) h words (is_some (entered a w.stopped)) ≡ true → built_takes a h words ≡ true
built_taken a h words w walk_is inside top = subst (λ (v : Walk). (entered_passes a v.stopped && level_passes a.top (names_of a) h words (is_some (entered a v.stopped))) ≡ true) (sym walk_is) (rw inside top)

-- WHAT IS REFUSED

-- a kind of error is given
abbrev pub Fails : Kinds → Type 0
Fails kinds = kinds ≡ [] → ⊥

abbrev has_some : Kinds → Bool
has_some [] = false
has_some (k ∷ ks) = true

pub some_kind : (k : ErrorKind) (ks : Kinds) → Fails (k ∷ ks)
some_kind k ks e = true≢false (ap has_some e)

or_left : (a b : Kinds) → Fails a → Fails (or_else a b)
or_left [] b f = absurd (f refl)
or_left (k ∷ ks) b f = f

or_right : (a b : Kinds) → Fails b → Fails (or_else a b)
or_right [] b f = f
or_right (k ∷ ks) b f = some_kind k ks

module _ (s : Shape) (names : Names) where
  -- by the first word, by a later one
  pub fails_here : (w : Walk) (word : Text) (rest : List Text) → Fails (turn_fault s names w word) → Fails (walk_fault s names w (word ∷ rest))
  unfolding walk_fault
  fails_here w word rest f = or_left _ _ f

  pub fails_later : (w after : Walk) (word : Text) (rest : List Text) → walked s.rules names w word ≡ after → Fails (walk_fault s names after rest) → Fails (walk_fault s names w (word ∷ rest))
  unfolding walk_fault
  fails_later w after word rest next f = or_right _ _ (subst (λ v. Fails (walk_fault s names v rest)) (sym next) f)

  -- in the walk over the words, in the subcommand, at the end of the words
  pub level_fails_in_walk : (h : Held) (words : List Text) (has : Bool) (below : Kinds) → Fails (walk_fault s names (walk_from h) words) → Fails (level_fault s names h words has below)
  level_fails_in_walk h words has below f = or_left _ _ f

  pub level_fails_below : (h : Held) (words : List Text) (has : Bool) (below : Kinds) → Fails below → Fails (level_fault s names h words has below)
  level_fails_below h words has below f = or_right _ _ (or_left _ _ f)

  pub level_fails_after : (h : Held) (words : List Text) (has : Bool) (below : Kinds) (w : Walk) → walk s.rules names h words ≡ w → Fails (check_fault s (finished s.rules w.held) has)
      → Fails (level_fault s names h words has below)
  level_fails_after h words has below w walk_is f =
      let end = (walk s.rules names h words).held in
      let settles = settle_fault s.rules s.args_override_self end in
      let defaults = defaults_fault (settled s.rules end).rows s.rules in
      let checks = check_fault s (finished s.rules end) has in
      or_right (walk_fault s names (walk_from h) words) (or_else below (or_else settles (or_else defaults checks)))
      (or_right below (or_else settles (or_else defaults checks))
      (or_right settles (or_else defaults checks)
      (or_right defaults checks (subst (λ (v : Walk). Fails (check_fault s (finished s.rules v.held) has)) (sym walk_is) f))))

-- WHAT IS MATCHED

-- what a getter of the matches reads
pub text_read : (found : Found) (id : Text) (r is : Option (Bor Text)) → option_map (λ text. text.now) r ≡ first_value found id → r ≡ is
    → first_of id (rows_of found) ≡ option_map (λ text. text.now) is
text_read found id r is reads same = sym (reads ∙ first_value-rows found id) ∙ ap (option_map (λ text. text.now)) same
