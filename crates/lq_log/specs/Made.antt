-- The steps that a seat made on a table's words, and what it knows with them.
use Rattle.std.specs.Prelude.{◌≡◌, ℕ, ◌+◌, Bool, not, List, [], ◌∷◌, ◌++◌, length, map, ◌==◌, bit_and}
use Rattle.atomic_table.specs.Table as table
use Rattle.atomic_table.specs.Table.{Step, Me}

-- A step: what was done, on which word, with which operands, and what it found.
pub data Made : Type 0 where
  -- the word, and what was found
  load : ℕ → ℕ → Made
  -- the word, and what was stored
  store : ℕ → ℕ → Made
  -- the word, what was stored, and what was found
  swap : ℕ → ℕ → ℕ → Made
  -- the word, what it had to be, what it became, and whether it did
  exchange : ℕ → ℕ → ℕ → Bool → Made
  -- the word, the bits that were set, and whether one of them was set before
  set : ℕ → ℕ → Bool → Made
  -- the word, and the bits that stayed
  clear : ℕ → ℕ → Made
  -- the word, and how much it rose, or fell
  rise : ℕ → ℕ → Made
  fall : ℕ → ℕ → Made
  -- a load of word 0, with which another seat was cut off
  cut : Made
  -- a load of word 0, with which another seat was taken in, and how many steps that seat had made
  join : ℕ → Made

-- a list of steps with one more: it reads in the order in which they were made
infixl 55 ◌⊳◌
abbrev pub ◌⊳◌ : List Made → Made → List Made
steps ⊳ m = m ∷ steps

-- WHAT EACH OPERATION APPENDS, from the kit's step and from what it found

module _ {S : Type 0} where
  abbrev pub loads : Step S → ℕ → Made
  loads s found = load s.word found

  abbrev pub stores : Step S → ℕ → Made
  stores s _ = store s.word s.first

  abbrev pub swaps : Step S → ℕ → Made
  swaps s found = swap s.word s.first found

  abbrev pub exchanges : Step S → ℕ → Made
  exchanges s found = exchange s.word s.first s.second (found == s.first)

  abbrev pub sets : Step S → ℕ → Made
  sets s found = set s.word s.first (not (bit_and found s.first == 0))

  abbrev pub clears : Step S → ℕ → Made
  clears s _ = clear s.word s.first

  abbrev pub rises : Step S → ℕ → Made
  rises s _ = rise s.word s.first

  abbrev pub falls : Step S → ℕ → Made
  falls s _ = fall s.word s.first

-- a list once a seat with that list was taken in: its steps come behind the join, before those made until then
abbrev pub with_join : List Made → List Made → List Made
with_join from into = join (length from) ∷ (from ++ into)

-- WHAT A SEAT KNOWS: its view, the steps that it made, the latest first, and how many cuts lead to it from the table's first seat

pub record WithSteps (V : Type 0) : Type 0 where
  pub view : V
  pub steps : List Made
  pub depth : ℕ

module _ {V : Type 0} where
  -- the table's first seat, at the start
  abbrev pub made_nothing : V → WithSteps V
  made_nothing v = record { view = v; steps = []; depth = 0 }

  -- a seat is cut in two: it keeps this view,
  abbrev pub having_cut : (V → V) → WithSteps V → WithSteps V
  having_cut left m = record { view = left m.view; steps = m.steps ⊳ cut; depth = m.depth }

  -- and the other has this one, and made no step
  abbrev pub cut_off : (V → V) → WithSteps V → WithSteps V
  cut_off right m = record { view = right m.view; steps = []; depth = m.depth + 1 }

  -- it takes in another
  abbrev pub having_joined : (V → V → V) → WithSteps V → WithSteps V → WithSteps V
  having_joined both m other = record { view = both m.view other.view; steps = with_join other.steps m.steps; depth = m.depth }

  abbrev pub views_of : List (WithSteps V) → List V
  views_of ms = map (λ (m : WithSteps V). m.view) ms

module _ {S V : Type 0} where
  -- the table without the seats' steps
  abbrev pub viewed : table.State S (WithSteps V) → table.State S V
  viewed s = record { words = s.words; homes = s.homes; views = views_of s.views }

  -- the rule is over the views alone
  abbrev pub OfViews : (table.State S V → Type 0) → table.State S (WithSteps V) → Type 0
  OfViews holds s = holds (viewed s)

  -- the seat without its steps
  abbrev pub seen : Me S (WithSteps V) → Me S V
  seen m = (m.0.view, m.1)

  -- what a step tells that makes this of the view, by what it found
  abbrev pub becomes : (ℕ → V → V) → Step S → Me S V → ℕ → Me S V → Type 0
  becomes view _ m found m' = m' ≡ (view found m.0, m.1)

  -- what the step tells of the view, and that it stands at the head of the seat's steps
  pub record Noted (made_of : Step S → ℕ → Made) (told_of : Step S → Me S V → ℕ → Me S V → Type 0) (s : Step S) (m : Me S (WithSteps V)) (found : ℕ) (m' : Me S (WithSteps V)) : Type 0 where
    pub told : told_of s (seen m) found (seen m')
    pub noted : m'.0.steps ≡ made_of s found ∷ m.0.steps
    pub depth : m'.0.depth ≡ m.0.depth
