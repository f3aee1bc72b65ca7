-- The rule over the views alone lifts to seats that know their steps too.
use Rattle.std.proofs.Common.{◌≡◌, ℕ, List, [], ◌∷◌, ◌++◌, set, slice_index, refl, sym, ap, ◌∙◌, subst, ◌+◌, ◌-◌, ◌%◌, ◌^◌, bit_or, bit_and, eqb}
use Rattle.std.proofs.lemmas.List.{map-set, map-append}
use mathlib.Core.Option.{some}
use mathlib.Core.Option as maybe
use prog.Atomic.{either}
use lib.ListN.{get_elem?}
use Rattle.atomic_table.proofs.Lists.{at_map}
use Rattle.atomic_table.specs.Table as table
use Rattle.atomic_table.specs.Table.{Me, Step, Allows, Splits, Joins, Final, Seen}
use Rattle.lq_log.specs.Made.{WithSteps, Made, Noted, OfViews, seen, viewed, views_of}

module _ {S V : Type 0} (holds : table.State S V → Type 0) where
  -- the rule after a step, from the rule over the views
  after : (id i : ℕ) (s : table.State S (WithSteps V)) (n : ℕ) (hs : List (maybe.Option S)) (w : WithSteps V) → holds (record { words = set s.words i n; homes = hs; views = set (views_of s.views) id w.view })
      → holds (record { words = set s.words i n; homes = hs; views = views_of (set s.views id w) })
  after id i s n hs w r = subst (λ (vs : List V). holds (record { words = set s.words i n; homes = hs; views = vs })) (sym (map-set (λ (m : WithSteps V). m.view) s.views id w)) r

  lifts : (slots id : ℕ) (m : Me S (WithSteps V)) (i : ℕ) (f : ℕ → ℕ) (made_of : Step S → ℕ → Made) (t : Step S → Me S V → ℕ → Me S V → Type 0) (s : Step S) → Allows holds slots id (seen m) i f (t s (seen m))
      → Allows (OfViews holds) slots id m i f (Noted made_of t s m)
  lifts slots id m i f made_of t step all s r deep here small =
      let z = all (viewed s) r deep (at_map (λ (m : WithSteps V). m.view) s.views id m.0 here) small in
      let w : WithSteps V = record { view = z.0; steps = made_of step (slice_index s.words i) ∷ m.0.steps; depth = m.0.depth } in
      (w, z.1, z.2, after id i s _ _ w z.3, record { told = z.4; noted = refl; depth = refl })

  -- of each operation
  pub lifts_load : (slots id : ℕ) (m : Me S (WithSteps V)) (i : ℕ) (made_of : Step S → ℕ → Made) (t : Step S → Me S V → ℕ → Me S V → Type 0) (s : Step S) → Allows holds slots id (seen m) i (λ x. x) (t s (seen m)) → Allows (OfViews holds) slots id m i (λ x. x) (Noted made_of t s m)
  lifts_load slots id m i made_of t s all = lifts slots id m i (λ x. x) made_of t s all

  pub lifts_swap : (slots id : ℕ) (m : Me S (WithSteps V)) (i : ℕ) (new : ℕ) (made_of : Step S → ℕ → Made) (t : Step S → Me S V → ℕ → Me S V → Type 0) (s : Step S) → Allows holds slots id (seen m) i (λ _. new) (t s (seen m)) → Allows (OfViews holds) slots id m i (λ _. new) (Noted made_of t s m)
  lifts_swap slots id m i new made_of t s all = lifts slots id m i (λ _. new) made_of t s all

  pub lifts_exchange : (slots id : ℕ) (m : Me S (WithSteps V)) (i : ℕ) (old new : ℕ) (made_of : Step S → ℕ → Made) (t : Step S → Me S V → ℕ → Me S V → Type 0) (s : Step S) → Allows holds slots id (seen m) i (λ n. either (eqb n old) new n) (t s (seen m)) → Allows (OfViews holds) slots id m i (λ n. either (eqb n old) new n) (Noted made_of t s m)
  lifts_exchange slots id m i old new made_of t s all = lifts slots id m i (λ n. either (eqb n old) new n) made_of t s all

  pub lifts_set : (slots id : ℕ) (m : Me S (WithSteps V)) (i : ℕ) (bits : ℕ) (made_of : Step S → ℕ → Made) (t : Step S → Me S V → ℕ → Me S V → Type 0) (s : Step S) → Allows holds slots id (seen m) i (λ n. bit_or n bits) (t s (seen m)) → Allows (OfViews holds) slots id m i (λ n. bit_or n bits) (Noted made_of t s m)
  lifts_set slots id m i bits made_of t s all = lifts slots id m i (λ n. bit_or n bits) made_of t s all

  pub lifts_clear : (slots id : ℕ) (m : Me S (WithSteps V)) (i : ℕ) (bits : ℕ) (made_of : Step S → ℕ → Made) (t : Step S → Me S V → ℕ → Me S V → Type 0) (s : Step S) → Allows holds slots id (seen m) i (λ n. bit_and n bits) (t s (seen m)) → Allows (OfViews holds) slots id m i (λ n. bit_and n bits) (Noted made_of t s m)
  lifts_clear slots id m i bits made_of t s all = lifts slots id m i (λ n. bit_and n bits) made_of t s all

  pub lifts_rise : (slots id : ℕ) (m : Me S (WithSteps V)) (i : ℕ) (more : ℕ) (made_of : Step S → ℕ → Made) (t : Step S → Me S V → ℕ → Me S V → Type 0) (s : Step S) → Allows holds slots id (seen m) i (λ n. (n + more) % 2 ^ 64) (t s (seen m)) → Allows (OfViews holds) slots id m i (λ n. (n + more) % 2 ^ 64) (Noted made_of t s m)
  lifts_rise slots id m i more made_of t s all = lifts slots id m i (λ n. (n + more) % 2 ^ 64) made_of t s all

  pub lifts_fall : (slots id : ℕ) (m : Me S (WithSteps V)) (i : ℕ) (less : ℕ) (made_of : Step S → ℕ → Made) (t : Step S → Me S V → ℕ → Me S V → Type 0) (s : Step S) → Allows holds slots id (seen m) i (λ n. (n + (2 ^ 64 - less)) % 2 ^ 64) (t s (seen m)) → Allows (OfViews holds) slots id m i (λ n. (n + (2 ^ 64 - less)) % 2 ^ 64) (Noted made_of t s m)
  lifts_fall slots id m i less made_of t s all = lifts slots id m i (λ n. (n + (2 ^ 64 - less)) % 2 ^ 64) made_of t s all

  -- a store tells what was stored
  pub lifts_store : (slots id : ℕ) (m : Me S (WithSteps V)) (i new : ℕ) (made_of : Step S → ℕ → Made) (t : Step S → Me S V → ℕ → Me S V → Type 0) (s : Step S) → Allows holds slots id (seen m) i (λ _. new) (λ _. t s (seen m) new)
      → Allows (OfViews holds) slots id m i (λ _. new) (λ _. Noted made_of t s m new)
  lifts_store slots id m i new made_of t step all s r deep here small =
      let z = all (viewed s) r deep (at_map (λ (m : WithSteps V). m.view) s.views id m.0 here) small in
      let w : WithSteps V = record { view = z.0; steps = made_of step new ∷ m.0.steps; depth = m.0.depth } in
      (w, z.1, z.2, after id i s _ _ w z.3, record { told = z.4; noted = refl; depth = refl })

  -- a seat is cut in two
  pub lifts_split : (id : ℕ) (v left right : WithSteps V) → Splits holds id v.view left.view right.view → Splits (OfViews holds) id v left right
  lifts_split id v left right all s r here =
      subst (λ (vs : List V). holds (record { words = s.words; homes = s.homes; views = vs }))
      (sym (map-append (λ (m : WithSteps V). m.view) (set s.views id left) (right ∷ []) ∙ ap (λ (vs : List V). vs ++ right.view ∷ []) (map-set (λ (m : WithSteps V). m.view) s.views id left)))
      (all (viewed s) r (at_map (λ (m : WithSteps V). m.view) s.views id v here))

  -- and two are joined
  pub lifts_join : (id : ℕ) (v : WithSteps V) (other : ℕ) (w both spent : WithSteps V) → Joins holds id v.view other w.view both.view spent.view → Joins (OfViews holds) id v other w both spent
  lifts_join id v other w both spent all s r here apart there =
      let once = map-set (λ (m : WithSteps V). m.view) s.views id both in
      subst (λ (vs : List V). holds (record { words = s.words; homes = s.homes; views = vs }))
      (sym (map-set (λ (m : WithSteps V). m.view) (set s.views id both) other spent ∙ ap (λ (vs : List V). set vs other spent.view) once))
      (all (viewed s) r (at_map (λ (m : WithSteps V). m.view) s.views id v here) apart (subst (λ (vs : List V). get_elem? vs other ≡ some w.view) once (at_map (λ (m : WithSteps V). m.view) (set s.views id both) other w there)))

  -- the end
  pub lifts_end : (id : ℕ) (v : WithSteps V) (words : List ℕ) (slots : List S) → Final (Seen (OfViews holds) id v) words slots → Final (Seen holds id v.view) words slots
  lifts_end id v words slots t = (viewed t.0, (t.1.0, at_map (λ (m : WithSteps V). m.view) t.0.views id v t.1.1), t.2, t.3, t.4)
