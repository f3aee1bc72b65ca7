-- The fates that words tell.
use Rattle.std.proofs.Common.{◌≡◌, ◌≢◌, ◌<◌, ◌≤◌, ◌+◌, ◌*◌, ◌/◌, ◌%◌, [], ℕ, inl, inr, List, length, map, sym, ap, ◌∙◌, subst, arith, get_or, slice_get, Option, Some, None}
use Rattle.std.specs.Option.{option_map, option_map_or}
use Rattle.std.proofs.lemmas.Bool.{cases_lt}
use Rattle.std.proofs.lemmas.List.{get_or_past, length-map, length-take}
use Rattle.std.proofs.lemmas.Option.{get_or_from_slice_get, same_Some, slice_get-map, slice_get_cases, slice_get_within}
use Rattle.std.specs.Prelude.{slice_index}
use Rattle.lq_model.proofs.FirstNumbers.{first-at, length_for_each, same_for_each}
use Rattle.lq_model.specs.Numbers.{first_numbers}
use Rattle.lq_model.specs.Plan.{station_in}
use Rattle.lq_model.specs.Words.{IsWordOf}
use Rattle.lq_model.specs.declared.fate.Cause.TheVariants.{Event, Hung}
use Rattle.lq_model.specs.declared.fate.Fate.{Fate}
use Rattle.lq_model.specs.declared.fate.Fate.TheVariants.{Sent, Full, Shrunk, Purged, Refused}
use Rattle.lq_model.specs.declared.fate.Info.{Info}
use Rattle.lq_table.proofs.SettledKept.{word_positive}
use Rattle.lq_table.specs.Ended.{EndedState, lent_fates}
use Rattle.lq_table.specs.declared.ended.FateWords.{FateWords}
use Rattle.lq_senders.specs.Ends.{ClosedState, FatesRead, IsReadable}
use Rattle.lq_senders.specs.Told.{AreLent, TellEach, fate_of_parts, fate_of_word, fates_in, fates_told, word_in, words_lent, words_kept}
use Rattle.lq_senders.proofs.Seats.{mapped-at}
use Rattle.lq_senders.proofs.Turns.{event-there}

-- THE FATE OF A WORD

-- the parts of a word
parts-are : (kind small rest word : ℕ) → kind < 8 → small < 256 → word ≡ kind + 8 * small + 2048 * rest → (word % 8 ≡ kind) × (word / 8 % 256 ≡ small) × (word / 2048 ≡ rest)
parts-are kind small rest word k s is = (omega arith, omega arith, omega arith)

of-parts : (kind small rest word : ℕ) → kind < 8 → small < 256 → word ≡ kind + 8 * small + 2048 * rest → fate_of_word word ≡ fate_of_parts kind small rest
of-parts kind small rest word k s is =
    let parts = parts-are kind small rest word k s is in
    ap (λ n. fate_of_parts n (word / 8 % 256) (word / 2048)) parts.0 ∙ (ap (λ n. fate_of_parts kind n (word / 2048)) parts.1 ∙ ap (λ n. fate_of_parts kind small n) parts.2)

pub word-told : (fate : Fate) (word : ℕ) → IsWordOf fate word → fate_of_word word ≡ fate
word-told (Sent unit serial) word is = of-parts 1 unit serial word (omega arith) is.has_word.0 is.word_is
word-told (Full seen) word is = of-parts 2 0 seen word (omega arith) (omega arith) is.word_is
word-told (Shrunk event) word is = of-parts 3 0 event word (omega arith) (omega arith) is.word_is
word-told (Purged (Event event)) word is = of-parts 4 0 event word (omega arith) (omega arith) is.word_is
word-told (Purged (Hung unit)) word is = of-parts 4 1 unit word (omega arith) (omega arith) is.word_is
word-told (Refused event) word is = of-parts 5 0 event word (omega arith) (omega arith) is.word_is

-- THE FATES OF PACKETS

pub told-long : (infos : List Info) (words : List (List ℕ)) → length (fates_in infos words) ≡ length infos
told-long infos words = length_for_each (λ n. fate_of_word (word_in infos words n)) (length infos)

pub told-at : (infos : List Info) (words : List (List ℕ)) (n : ℕ) → n < length infos → slice_get (fates_in infos words) n ≡ Some (fate_of_word (word_in infos words n))
told-at infos words n inside =
    let f : ℕ → Fate = λ k. fate_of_word (word_in infos words k) in
    slice_get-map f (first_numbers (length infos)) n ∙ ap (option_map f) (first-at (length infos) n inside)

-- OF CLOSED STATIONS

module _ (infos : List Info) (closed : List ClosedState) (readable : IsReadable infos closed) where
  abbrev stays : List EndedState
  stays = map (λ (x : ClosedState). x.ended) closed

  -- the word of a packet of the station
  kept-word : (n : ℕ) (x : ClosedState) → slice_get closed (station_in infos n) ≡ Some x → word_in infos (words_kept stays) n ≡ slice_index x.ended.words n
  kept-word n x at =
      let here = mapped-at (λ (e : EndedState). e.words) stays (station_in infos n) x.ended (mapped-at (λ (y : ClosedState). y.ended) closed (station_in infos n) x at) in
      ap (λ (words : List ℕ). slice_index words n) (get_or_from_slice_get (words_kept stays) (station_in infos n) x.ended.words [] here)

  pub tell-each : length infos ≤ 1000000 → length closed ≤ 8 → TellEach infos stays
  tell-each few stations = record {
    few = few;
    stations = let long = length-map closed (λ (x : ClosedState). x.ended) in omega arith;
    each = λ n inside zero.
        let x = event-there closed (station_in infos n) (readable.stations n inside) in
        let fate = readable.each n x.0 inside x.1 in
        word_positive fate.0 (sym fate.1.word_is ∙ (sym (kept-word n x.0 x.1) ∙ zero));
  }

  pub told-read : FatesRead infos closed (length infos) (fates_told infos stays)
  told-read = record {
    so_many = told-long infos (words_kept stays);
    each = λ n x fate at there.
        let inside : n < length infos = (let within = slice_get_within (fates_told infos stays) n fate there in let long = told-long infos (words_kept stays) in omega arith) in
        let own = readable.each n x inside at in
        let same : fate_of_word (word_in infos (words_kept stays) n) ≡ fate = same_Some _ fate (sym (told-at infos (words_kept stays) n inside) ∙ there) in
        let is : own.0 ≡ fate = sym (word-told own.0 (slice_index x.ended.words n) own.1) ∙ (ap fate_of_word (sym (kept-word n x at)) ∙ same) in
        subst (λ (f : Fate). IsWordOf f (slice_index x.ended.words n)) is own.1;
  }

-- OF LENT WORDS

module _ (infos : List Info) (ended : List EndedState) (lent : List (Option FateWords)) (all : AreLent ended (length ended) lent) (told : TellEach infos ended) where
  -- a packet's word is the one that its station lends
  lent-word : (n : ℕ) → n < length infos → word_in infos (words_lent lent) n ≡ word_in infos (words_kept ended) n
  lent-word n inside = elim (cases_lt (station_in infos n) (length ended)) [
    | inl below ↦ (
        let station = station_in infos n in
        let e = event-there ended station below in
        let w = all.each station e.0 below e.1 in
        let there = get_or_from_slice_get (words_lent lent) station (lent_fates w.0) [] (mapped-at (λ (o : Option FateWords). option_map_or (λ w. lent_fates w) o []) lent station (Some w.0) w.1) in
        let here = get_or_from_slice_get (words_kept ended) station e.0.words [] (mapped-at (λ (e : EndedState). e.words) ended station e.0 e.1) in
        ap (λ (words : List ℕ). slice_index words n) (there ∙ (w.2.fates ∙ sym here)))
    | inr past ↦ absurd (
        let long = length-map ended (λ (e : EndedState). e.words) in
        let none : get_or (words_kept ended) (station_in infos n) [] ≡ [] = get_or_past (words_kept ended) (station_in infos n) [] (omega arith) in
        told.each n inside (ap (λ (words : List ℕ). slice_index words n) none))
  ]

  pub lent-told : (n : ℕ) → n < length infos → word_in infos (words_lent lent) n ≢ 0
  lent-told n inside zero = told.each n inside (sym (lent-word n inside) ∙ zero)

  pub lent-fates : fates_in infos (words_lent lent) ≡ fates_told infos ended
  lent-fates = same_for_each (λ n. fate_of_word (word_in infos (words_lent lent) n)) (λ n. fate_of_word (word_in infos (words_kept ended) n)) (length infos)
      (λ n inside. ap fate_of_word (lent-word n inside))

-- what lies at the place of a packet's station
module _ (infos : List Info) (lent : List (Option FateWords)) (n : ℕ) (told : word_in infos (words_lent lent) n ≢ 0) where
  no-words : get_or (words_lent lent) (station_in infos n) [] ≡ [] → ⊥
  no-words none = told (ap (λ (words : List ℕ). slice_index words n) none)

  -- what it lends
  abbrev lends : Option FateWords → List ℕ
  lends o = option_map_or (λ w. lent_fates w) o []

  words-there : (o : Option FateWords) → slice_get lent (station_in infos n) ≡ Some o
      → (w : FateWords) × (slice_get lent (station_in infos n) ≡ Some (Some w)) × (get_or (words_lent lent) (station_in infos n) [] ≡ lent_fates w)
  words-there None at = absurd (no-words (get_or_from_slice_get (words_lent lent) (station_in infos n) [] [] (mapped-at lends lent (station_in infos n) None at)))
  words-there (Some w) at = (w, at, get_or_from_slice_get (words_lent lent) (station_in infos n) (lent_fates w) [] (mapped-at lends lent (station_in infos n) (Some w) at))

  words-at : (w : FateWords) × (slice_get lent (station_in infos n) ≡ Some (Some w)) × (get_or (words_lent lent) (station_in infos n) [] ≡ lent_fates w)
  words-at = elim (slice_get_cases lent (station_in infos n)).1 [
    | inl (o, inside, there, same) ↦ words-there o there
    | inr (past, nothing) ↦ absurd (no-words (get_or_past (words_lent lent) (station_in infos n) [] (let long = length-map lent lends in omega arith)))
  ]

  -- its station's words are lent, and have the packet's
  pub has-words : (w : FateWords) × (slice_get lent (station_in infos n) ≡ Some (Some w)) × (n < w.packets) × (word_in infos (words_lent lent) n ≡ slice_index (lent_fates w) n)
  has-words =
      let at = words-at in
      let w = at.0 in
      let same : word_in infos (words_lent lent) n ≡ slice_index (lent_fates w) n = ap (λ (words : List ℕ). slice_index words n) at.2 in (
        w,
        at.1,
        elim (cases_lt n w.packets) [
          | inl below ↦ below
          | inr past ↦ absurd (told (same ∙ get_or_past (lent_fates w) n 0 (omega (arith, length-take {A = ℕ}))))
        ],
        same,
      )
