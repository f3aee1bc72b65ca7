-- The walks along the options of an interface.
use Rattle.std.proofs.Common.{◌≡◌, ◌≢◌, ◌<◌, ◌≤◌, ◌+◌, ◌-◌, ℕ, zero, suc, List, length, take, drop, subst, Option, Some, None, refl, sym, ap, ◌∙◌, arith, Bool, true, false, leb, eqb, ◌&&◌, length-drop}
use Rattle.std.specs.List.{slice_range}
use Rattle.std.proofs.lemmas.Bool.{eq-eqb, leb-true, ne_eqb}
use Rattle.std.proofs.lemmas.List.{drop-drop}
use Rattle.lq_pcapng.specs.Pcapng.{are_whole_options, has_its_length, is_whole_option, option_among, option_code, option_end, option_length, options_end, padded}
use Rattle.lq_pcapng.specs.Reading.{IsNextOption}
use Rattle.lq_pcapng.specs.declared.options.NextOption.{NextOption}
use Rattle.lq_pcapng.specs.declared.options.NextOption.TheVariants.{Cut, Whole}
use Rattle.lq_pcapng.proofs.Walk.{slice_from}

-- a whole option has its header and its value
both : (a b : Bool) → (a && b) ≡ true → (a ≡ true) × (b ≡ true)
both true true e = (refl, refl)
both true false e = cc
both false b e = cc

pub whole_option : (o : Bool) (options : List ℕ) → is_whole_option o options ≡ true → (4 ≤ length options) × (option_end o options ≤ length options)
whole_option o options e =
    let tests = both (leb 4 (length options)) (leb (option_end o options) (length options)) e in
    (leb-true 4 (length options) tests.0, leb-true (option_end o options) (length options) tests.1)

-- WHETHER ALL ARE WHOLE

pub whole_at_end : (o : Bool) (more : ℕ) (options : List ℕ) → options_end o options ≡ true → are_whole_options o more options ≡ true
unfolding are_whole_options
whole_at_end o zero options ends = refl
whole_at_end o (suc more) options ends = rw ends refl

pub cut_is_not_whole :
    (o : Bool) (more : ℕ) (options : List ℕ) → 0 < length options → length options ≤ more → options_end o options ≡ false → is_whole_option o options ≡ false → are_whole_options o more options ≡ false
unfolding are_whole_options
cut_is_not_whole o zero options some room goes_on cut = absurd (omega arith)
cut_is_not_whole o (suc more) options some room goes_on cut = rw (goes_on, cut) refl

pub other_length_is_not_whole :
    (o : Bool) (more : ℕ) (options : List ℕ) → 0 < length options → length options ≤ more → options_end o options ≡ false → is_whole_option o options ≡ true
    → has_its_length (option_code o options) (option_length o options) ≡ false → are_whole_options o more options ≡ false
unfolding are_whole_options
other_length_is_not_whole o zero options some room goes_on whole other = absurd (omega arith)
other_length_is_not_whole o (suc more) options some room goes_on whole other = rw (goes_on, whole, other) refl

whole_goes_on :
    (o : Bool) (more : ℕ) (options : List ℕ) → options_end o options ≡ false → is_whole_option o options ≡ true → has_its_length (option_code o options) (option_length o options) ≡ true
    → are_whole_options o (suc more) options ≡ are_whole_options o more (drop (option_end o options) options)
unfolding are_whole_options
whole_goes_on o more options goes_on whole its = rw (goes_on, whole, its) refl

-- THE FIRST OF A CODE

pub none_at_end : (o : Bool) (code len more : ℕ) (options : List ℕ) → options_end o options ≡ true → option_among o code len more options ≡ None
unfolding option_among
none_at_end o code len zero options ends = refl
none_at_end o code len (suc more) options ends = rw ends refl

pub none_at_cut :
    (o : Bool) (code len more : ℕ) (options : List ℕ) → options_end o options ≡ false → is_whole_option o options ≡ false → option_among o code len more options ≡ None
unfolding option_among
none_at_cut o code len zero options goes_on cut = refl
none_at_cut o code len (suc more) options goes_on cut = rw (goes_on, cut) refl

pub found_here :
    (o : Bool) (code len more : ℕ) (options : List ℕ) → 0 < length options → length options ≤ more → options_end o options ≡ false → is_whole_option o options ≡ true
    → (eqb (option_code o options) code && eqb (option_length o options) len) ≡ true → option_among o code len more options ≡ Some (slice_range options 4 (4 + len))
unfolding option_among
found_here o code len zero options some room goes_on whole is = absurd (omega arith)
found_here o code len (suc more) options some room goes_on whole is = rw (goes_on, whole, is) refl

found_behind :
    (o : Bool) (code len more : ℕ) (options : List ℕ) → options_end o options ≡ false → is_whole_option o options ≡ true → (eqb (option_code o options) code && eqb (option_length o options) len) ≡ false
    → option_among o code len (suc more) options ≡ option_among o code len more (drop (option_end o options) options)
unfolding option_among
found_behind o code len more options goes_on whole other = rw (goes_on, whole, other) refl

-- THE WALK

-- what is asked of all options is asked of those from this place on
pub record Looks (X : Type 0) (f : ℕ → List ℕ → X) (options : List ℕ) (place : ℕ) : Type 0 where
  pub more : ℕ
  pub room : length (drop place options) ≤ more
  pub within : place ≤ length options
  pub goes_on : f more (drop place options) ≡ f (length options) options

pub looks_more :
    (X : Type 0) (f : ℕ → List ℕ → X) (options : List ℕ) (place end : ℕ) → Looks X f options place → place < length options → end ≤ length (drop place options) → 4 ≤ end
    → ((more : ℕ) → f (suc more) (drop place options) ≡ f more (drop end (drop place options))) → Looks X f options (place + end)
looks_more X f options place end l below whole long step =
    let room = l.room in
    let left = length-drop place options in
    by_more l.more l.room l.goes_on
  where
    by_more : (more : ℕ) → length (drop place options) ≤ more → f more (drop place options) ≡ f (length options) options → Looks X f options (place + end)
    by_more zero room goes_on = let left = length-drop place options in absurd (omega arith)
    by_more (suc more) room goes_on =
        let left = length-drop place options in
        let left_behind = length-drop (place + end) options in
        record {
          more = more;
          room = omega arith;
          within = omega arith;
          goes_on = ap (f more) (sym (drop-drop end place options)) ∙ sym (step more) ∙ goes_on;
        }

pub looks_on_for_whole :
    (o : Bool) (options : List ℕ) (place end : ℕ) → Looks Bool (are_whole_options o) options place → place < length options → end ≡ option_end o (drop place options)
    → options_end o (drop place options) ≡ false → is_whole_option o (drop place options) ≡ true
    → has_its_length (option_code o (drop place options)) (option_length o (drop place options)) ≡ true → Looks Bool (are_whole_options o) options (place + end)
looks_on_for_whole o options place end l below is goes_on whole its =
    let rest = drop place options in
    let within = (whole_option o rest whole).1 in
    looks_more Bool (are_whole_options o) options place end l below (omega arith) (omega arith)
    (λ more. whole_goes_on o more rest goes_on whole its ∙ ap (λ n. are_whole_options o more (drop n rest)) (sym is))

pub looks_on_for :
    (o : Bool) (code len : ℕ) (options : List ℕ) (place end : ℕ) → Looks (Option (List ℕ)) (option_among o code len) options place → place < length options → end ≡ option_end o (drop place options)
    → options_end o (drop place options) ≡ false → is_whole_option o (drop place options) ≡ true
    → (eqb (option_code o (drop place options)) code && eqb (option_length o (drop place options)) len) ≡ false → Looks (Option (List ℕ)) (option_among o code len) options (place + end)
looks_on_for o code len options place end l below is goes_on whole other =
    let rest = drop place options in
    let within = (whole_option o rest whole).1 in
    looks_more (Option (List ℕ)) (option_among o code len) options place end l below (omega arith) (omega arith)
    (λ more. found_behind o code len more rest goes_on whole other ∙ ap (λ n. option_among o code len more (drop n rest)) (sym is))

-- WHAT THE WALKS ANSWER

-- the options from a place on, as a slice
abbrev pub rest_at : List ℕ → ℕ → List ℕ
rest_at options place = take (length options - place) (drop place options)

pub next_at : (o : Bool) (options : List ℕ) (place : ℕ) (next : NextOption) → IsNextOption o (rest_at options place) next → IsNextOption o (drop place options) next
next_at o options place next is = subst (λ (rest : List ℕ). IsNextOption o rest next) (slice_from options place) is

some_left : (options : List ℕ) (place : ℕ) → place < length options → 0 < length (drop place options)
some_left options place below = let left = length-drop place options in omega arith

none_left : (o : Bool) (options : List ℕ) (place : ℕ) → length options ≤ place → options_end o (drop place options) ≡ true
none_left o options place ends = let none : length (drop place options) ≡ 0 = (let left = length-drop place options in omega arith) in rw none refl

pub whole_answer_at_end : (o : Bool) (options : List ℕ) (place : ℕ) → Looks Bool (are_whole_options o) options place → options_end o (drop place options) ≡ true → true ≡ are_whole_options o (length options) options
whole_answer_at_end o options place l ends = sym (whole_at_end o l.more (drop place options) ends) ∙ l.goes_on

pub whole_answer_behind : (o : Bool) (options : List ℕ) (place : ℕ) → Looks Bool (are_whole_options o) options place → length options ≤ place → true ≡ are_whole_options o (length options) options
whole_answer_behind o options place l ends = whole_answer_at_end o options place l (none_left o options place ends)

pub whole_answer_at_cut : (o : Bool) (options : List ℕ) (place : ℕ) → Looks Bool (are_whole_options o) options place → place < length options → IsNextOption o (rest_at options place) Cut
    → false ≡ are_whole_options o (length options) options
whole_answer_at_cut o options place l below is =
    let next = next_at o options place Cut is in
    sym (cut_is_not_whole o l.more (drop place options) (some_left options place below) l.room next.0 next.1) ∙ l.goes_on

pub whole_answer_at_other : (o : Bool) (options : List ℕ) (place code len : ℕ) → Looks Bool (are_whole_options o) options place → place < length options → IsNextOption o (rest_at options place) (Whole code len)
    → has_its_length code len ≡ false → false ≡ are_whole_options o (length options) options
whole_answer_at_other o options place code len l below is other =
    let next = next_at o options place (Whole code len) is in
    let its = ap (λ n. has_its_length n (option_length o (drop place options))) (sym next.2) ∙ ap (has_its_length code) (sym next.3) ∙ other in
    sym (other_length_is_not_whole o l.more (drop place options) (some_left options place below) l.room next.0 next.1 its) ∙ l.goes_on

pub whole_goes_on_at : (o : Bool) (options : List ℕ) (place code len filled : ℕ) → Looks Bool (are_whole_options o) options place → place < length options → IsNextOption o (rest_at options place) (Whole code len)
    → has_its_length code len ≡ true → filled ≡ padded len → Looks Bool (are_whole_options o) options (place + (4 + filled))
whole_goes_on_at o options place code len filled l below is its filled_is =
    let next = next_at o options place (Whole code len) is in
    looks_on_for_whole o options place (4 + filled) l below (ap (λ n. 4 + n) (filled_is ∙ ap padded next.3)) next.0 next.1
    (ap (λ n. has_its_length n (option_length o (drop place options))) (sym next.2) ∙ ap (has_its_length code) (sym next.3) ∙ its)

pub none_answer_at_end : (o : Bool) (code len : ℕ) (options : List ℕ) (place : ℕ) → Looks (Option (List ℕ)) (option_among o code len) options place → options_end o (drop place options) ≡ true
    → option_among o code len (length options) options ≡ None
none_answer_at_end o code len options place l ends = sym l.goes_on ∙ none_at_end o code len l.more (drop place options) ends

pub none_answer_behind : (o : Bool) (code len : ℕ) (options : List ℕ) (place : ℕ) → Looks (Option (List ℕ)) (option_among o code len) options place → length options ≤ place
    → option_among o code len (length options) options ≡ None
none_answer_behind o code len options place l ends = none_answer_at_end o code len options place l (none_left o options place ends)

pub none_answer_at_cut : (o : Bool) (code len : ℕ) (options : List ℕ) (place : ℕ) → Looks (Option (List ℕ)) (option_among o code len) options place → IsNextOption o (rest_at options place) Cut
    → option_among o code len (length options) options ≡ None
none_answer_at_cut o code len options place l is =
    let next = next_at o options place Cut is in
    sym l.goes_on ∙ none_at_cut o code len l.more (drop place options) next.0 next.1

pub answer_here : (o : Bool) (wanted wanted_len : ℕ) (options : List ℕ) (place code len : ℕ) → Looks (Option (List ℕ)) (option_among o wanted wanted_len) options place → place < length options
    → IsNextOption o (rest_at options place) (Whole code len) → code ≡ wanted → len ≡ wanted_len
    → option_among o wanted wanted_len (length options) options ≡ Some (slice_range (rest_at options place) 4 (4 + len))
answer_here o wanted wanted_len options place code len l below is code_is len_is =
    let next = next_at o options place (Whole code len) is in
    let rest = drop place options in
    let same : (eqb (option_code o rest) wanted && eqb (option_length o rest) wanted_len) ≡ true =
    rw (eq-eqb (option_code o rest) wanted (sym next.2 ∙ code_is), eq-eqb (option_length o rest) wanted_len (sym next.3 ∙ len_is)) refl in
    sym l.goes_on ∙ found_here o wanted wanted_len l.more rest (some_left options place below) l.room next.0 next.1 same
    ∙ ap (λ n. Some (slice_range rest 4 (4 + n))) (sym len_is) ∙ ap (λ (r : List ℕ). Some (slice_range r 4 (4 + len))) (sym (slice_from options place))

-- another code or another length
and-false : (a : Bool) → (a && false) ≡ false
and-false true = refl
and-false false = refl

pub other_code : (a b wanted wanted_len : ℕ) → a ≢ wanted → (eqb a wanted && eqb b wanted_len) ≡ false
other_code a b wanted wanted_len other = rw (ne_eqb a wanted other) refl

pub other_length : (a b wanted wanted_len : ℕ) → b ≢ wanted_len → (eqb a wanted && eqb b wanted_len) ≡ false
other_length a b wanted wanted_len other = rw (ne_eqb b wanted_len other) (and-false (eqb a wanted))

pub goes_on_at : (o : Bool) (wanted wanted_len : ℕ) (options : List ℕ) (place code len filled : ℕ) → Looks (Option (List ℕ)) (option_among o wanted wanted_len) options place → place < length options
    → IsNextOption o (rest_at options place) (Whole code len) → (eqb code wanted && eqb len wanted_len) ≡ false → filled ≡ padded len
    → Looks (Option (List ℕ)) (option_among o wanted wanted_len) options (place + (4 + filled))
goes_on_at o wanted wanted_len options place code len filled l below is other filled_is =
    let next = next_at o options place (Whole code len) is in
    looks_on_for o wanted wanted_len options place (4 + filled) l below (ap (λ n. 4 + n) (filled_is ∙ ap padded next.3)) next.0 next.1
    (ap (λ n. eqb n wanted && eqb (option_length o (drop place options)) wanted_len) (sym next.2) ∙ ap (λ n. eqb code wanted && eqb n wanted_len) (sym next.3) ∙ other)
