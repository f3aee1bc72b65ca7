-- Steps after steps, in the lists of the calls on rings.
use Rattle.std.proofs.Common.{◌≡◌, ◌≢◌, ℕ, ◌%◌, false, List, [], ◌∷◌, ◌++◌, refl, sym, ap, subst}
use Rattle.lq_model.specs.declared.fate.Fate.{Fate}
use Rattle.lq_table.specs.Step.{ClearSlot, FillSlot, LoadProducer, MakesSteps, Settle, Step, TakeProducer, standing, steps_leave}
use Rattle.lq_table.specs.declared.shared.Cpu.{Cpu}
pub use Rattle.lq_table.proofs.StepsThen.{leave_then, makes_then}
use Rattle.lq_ring.specs.StepLists.{Clears, Fills, LockProducer, Loses, MakesStepsFrom, Settles, TurnRing, Turned, Waits}

module _ {D : Type 0} where
  pub stands_after : {xs : List Step} {b a : Cpu D} → MakesSteps xs b a → standing a ≡ steps_leave xs (standing b)
  stands_after m = λ j. record { view = m.knows j; slot = m.has j; station = m.carries j; indices = m.places j; steps = m.made j }

  pub makes_none : (b : Cpu D) → MakesSteps [] b b
  makes_none b = record { seat = (refl, refl); knows = refl; has = refl; carries = refl; places = refl; made = refl; told = tt }

-- A PRODUCER LOCK IS WAITED FOR

rest_then : (xs ys zs : List Step) → (xs ++ ys) ++ zs ≡ xs ++ (ys ++ zs)
rest_then [] ys zs = refl
rest_then (x ∷ xs) ys zs = ap (λ (ws : List Step). x ∷ ws) (rest_then xs ys zs)

-- these steps were made, and whatever gets the lock then gets it after them
abbrev pub Spun : ℕ → List Step → Type 0
Spun band xs = (index : ℕ) (rest : List Step) → LockProducer band index rest → LockProducer band index (xs ++ rest)

pub spun_held : (band seen : ℕ) (xs : List Step) → seen % 2 ≢ 0 → Spun band xs → Spun band (xs ++ LoadProducer band seen ∷ [])
spun_held band seen xs odd f index rest h = subst (LockProducer band index) (sym (rest_then xs (LoadProducer band seen ∷ []) rest)) (f index (LoadProducer band seen ∷ rest) (Waits odd h))

pub spun_lost : (band seen : ℕ) (xs : List Step) → seen % 2 ≡ 0 → Spun band xs → Spun band (xs ++ LoadProducer band seen ∷ TakeProducer band seen false ∷ [])
spun_lost band seen xs even f index rest h = subst (LockProducer band index) (sym (rest_then xs (LoadProducer band seen ∷ TakeProducer band seen false ∷ []) rest)) (f index (LoadProducer band seen ∷ TakeProducer band seen false ∷ rest) (Loses even h))

-- A BAND IS TURNED

ring_then : (band : ℕ) (xs ys : List Step) → TurnRing band xs → TurnRing band ys → TurnRing band (xs ++ ys)
ring_then band _ ys Turned t = t
ring_then band _ ys (Clears {i} {found} {rest} r) t = Clears (ring_then band rest ys r t)
ring_then band _ ys (Fills {i} {n} {rest} r) t = Fills (ring_then band rest ys r t)
ring_then band _ ys (Settles {n} {fate} {rest} r) t = Settles (ring_then band rest ys r t)

module _ {D : Type 0} (band : ℕ) where
  pub turns_none : (b : Cpu D) → MakesStepsFrom (λ s. TurnRing band) b b
  turns_none b = ([], Turned, makes_none b)

  pub turns_then : {b m a : Cpu D} → MakesStepsFrom (λ s. TurnRing band) b m → MakesStepsFrom (λ s. TurnRing band) m a → MakesStepsFrom (λ s. TurnRing band) b a
  turns_then x y = (x.0 ++ y.0, ring_then band x.0 y.0 x.1 y.1, makes_then x.2 y.2)

  pub turns_out : {b a : Cpu D} {i found : ℕ} → MakesSteps (ClearSlot band i found ∷ []) b a → MakesStepsFrom (λ s. TurnRing band) b a
  turns_out {b} {a} {i} {found} m = (ClearSlot band i found ∷ [], Clears Turned, m)

  pub turns_back : {b a : Cpu D} {i n : ℕ} → MakesSteps (FillSlot band i n ∷ []) b a → MakesStepsFrom (λ s. TurnRing band) b a
  turns_back {b} {a} {i} {n} m = (FillSlot band i n ∷ [], Fills Turned, m)

  pub turns_settled : {b a : Cpu D} {n : ℕ} {fate : Fate} → MakesSteps (Settle n fate ∷ []) b a → MakesStepsFrom (λ s. TurnRing band) b a
  turns_settled {b} {a} {n} {fate} m = (Settle n fate ∷ [], Settles Turned, m)
