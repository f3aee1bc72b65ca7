use Rattle.std.proofs.Common.{◌≡◌, ℕ, Option, None, Some, OnSome, IfNone, refl, sym, ap, ap₂, subst, ◌∙◌}
use Rattle.lq_model.specs.Band.{Band, taken_by}
use Rattle.lq_lone.specs.Lone.{LoneState, TakesNext, line_band, first_of, lone_state, slot_taken, low_taken, mid_taken, high_taken, none_taken}
use Rattle.lq_lone.proofs.lone.Lone.take.Goals as goal

pub returns-in-Some-clause-takes : goal.returns-in-Some-clause-takes
returns-in-Some-clause-takes c = slot_taken c.in-Some.n refl c.in-Some.is refl

pub returns-in-Some-take-clause-takes : goal.returns-in-Some-take-clause-takes
returns-in-Some-take-clause-takes c =
    low_taken c.in-Some-take.n refl c.in_default.is (sym c.take.ensures.first ∙ c.in-Some-take.is)
    (ap (λ (b : Band). record (lone_state c.args.self.now) { low = b }) c.in-Some-take.ensures.some)

pub returns-in-Some-take-2-clause-takes : goal.returns-in-Some-take-2-clause-takes
returns-in-Some-take-2-clause-takes c =
    mid_taken c.in-Some-take-2.n refl c.in_default.is (sym c.take.ensures.first ∙ c.in_default-take.is) (sym c.take-2.ensures.first ∙ c.in-Some-take-2.is)
    (ap₂ (λ (b d : Band). record (lone_state c.args.self.now) { low = b; mid = d }) c.in_default-take.ensures.none c.in-Some-take-2.ensures.some)

at-last : (o : Option ℕ) (old : LoneState) (high : Band) → old.slot ≡ None → first_of old.low ≡ None → first_of old.mid ≡ None → o ≡ first_of old.high
    → OnSome o (high ≡ taken_by old.high 1) → IfNone o (high ≡ old.high) → TakesNext o old (record old { high = high })
at-last None old high slot low mid is some none = none_taken refl slot low mid (sym is) (ap (λ (b : Band). record old { high = b }) none)
at-last (Some n) old high slot low mid is some none = high_taken n refl slot low mid (sym is) (ap (λ (b : Band). record old { high = b }) some)

pub returns-clause-takes : goal.returns-clause-takes
returns-clause-takes c =
    let old = lone_state c.args.self.now in let r = c.take-3.result in
    subst (λ (b : Band). TakesNext r old (record old { low = b; mid = line_band c.take-2.new.self; high = line_band c.take-3.new.self })) (sym c.in_default-take.ensures.none)
    (subst (λ (b : Band). TakesNext r old (record old { mid = b; high = line_band c.take-3.new.self })) (sym c.in_default-take-2.ensures.none)
    (at-last r old (line_band c.take-3.new.self) c.in_default.is (sym c.take.ensures.first ∙ c.in_default-take.is) (sym c.take-2.ensures.first ∙ c.in_default-take-2.is)
    c.take-3.ensures.first c.take-3.ensures.some c.take-3.ensures.none))
