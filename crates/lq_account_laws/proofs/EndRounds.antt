-- Rounds at the end of a station: it is woken and served until it is done. They are told of any property that a round keeps, and after which
-- less is held or the station is done.
use Rattle.std.proofs.Common.{◌≡◌, ℕ, zero, suc, ◌+◌, ◌-◌, ◌<◌, ◌⊎◌, inl, inr, true, false, List, length, refl, sym, ap, ◌∙◌, add-one, suc-add, zero-add, arith}
use Rattle.std.proofs.lemmas.Bool.{cond-true, cond-false, cases_Bool}
use Rattle.lq_model.specs.Account.{held}
use Rattle.lq_model.specs.Alone.{RunningStation, finished, finished_rounds, is_done, opened, purged_if_hung, served}
use Rattle.lq_model.specs.declared.fate.Info.{Info}

module _ (infos : List Info) where
  -- a round of waking and serving
  abbrev pub round_of : RunningStation → RunningStation
  round_of s = served infos (opened s)

  -- it leaves less held, or the station done
  abbrev pub Ends : RunningStation → Type 0
  Ends s = (length (held (round_of s).account) < length (held s.account)) ⊎ (is_done (round_of s).account ≡ true)

  pub rounds_done : (rounds : ℕ) (s : RunningStation) → is_done s.account ≡ true → finished_rounds infos rounds s ≡ s
  rounds_done zero s is_done_now = refl
  rounds_done (suc rounds) s is_done_now = cond-true _ _ _ is_done_now

  pub rounds_next : (rounds : ℕ) (s : RunningStation) → is_done s.account ≡ false → finished_rounds infos (suc rounds) s ≡ finished_rounds infos rounds (round_of s)
  rounds_next rounds s not_done = cond-false _ _ _ not_done

  -- a station that is done is finished but for its purge
  pub finished_done : (s : RunningStation) → is_done s.account ≡ true → finished infos s ≡ record s { account = purged_if_hung s.account }
  finished_done s done = ap {A = RunningStation} {B = RunningStation} (λ t. record t { account = purged_if_hung t.account }) (rounds_done (length (held s.account) + 1) s done)

  module _ (P : RunningStation → Type 0) (round : (s : RunningStation) → P s → is_done s.account ≡ false → P (round_of s) × Ends s) where
    -- as many rounds as packets are held, and one more, are enough
    rounds-enough : (rounds : ℕ) (s : RunningStation) → P s → length (held s.account) < rounds → finished_rounds infos (suc rounds) s ≡ finished_rounds infos rounds s
    rounds-enough zero s kept more = absurd (omega arith)
    rounds-enough (suc rounds) s kept more =
        by_done (λ fewer next. rounds-enough rounds (round_of s) next (omega arith)) (cases_Bool (is_done s.account))
      where
        by_end : (length (held (round_of s).account) < length (held s.account) → P (round_of s) → finished_rounds infos (suc rounds) (round_of s) ≡ finished_rounds infos rounds (round_of s))
            → P (round_of s) × Ends s → finished_rounds infos (suc rounds) (round_of s) ≡ finished_rounds infos rounds (round_of s)
        by_end again (next, inl fewer) = again fewer next
        by_end again (next, inr done) = rounds_done (suc rounds) _ done ∙ sym (rounds_done rounds _ done)

        by_done : (length (held (round_of s).account) < length (held s.account) → P (round_of s) → finished_rounds infos (suc rounds) (round_of s) ≡ finished_rounds infos rounds (round_of s))
            → (is_done s.account ≡ true) ⊎ (is_done s.account ≡ false) → finished_rounds infos (suc (suc rounds)) s ≡ finished_rounds infos (suc rounds) s
        by_done again (inl done) = rounds_done (suc (suc rounds)) s done ∙ sym (rounds_done (suc rounds) s done)
        by_done again (inr not_done) = rounds_next (suc rounds) s not_done ∙ by_end again (round s kept not_done) ∙ sym (rounds_next rounds s not_done)

    rounds-more : (more rounds : ℕ) (s : RunningStation) → P s → length (held s.account) < rounds → finished_rounds infos (more + rounds) s ≡ finished_rounds infos rounds s
    rounds-more zero rounds s kept enough = ap (λ n. finished_rounds infos n s) (zero-add rounds)
    rounds-more (suc more) rounds s kept enough = ap (λ n. finished_rounds infos n s) (suc-add more rounds) ∙ rounds-enough (more + rounds) s kept (omega arith) ∙ rounds-more more rounds s kept enough

    -- a station that isn't done is finished as it is after a round
    pub finished_round : (s : RunningStation) → P s → is_done s.account ≡ false → finished infos s ≡ finished infos (round_of s)
    finished_round s kept not_done = ap {A = RunningStation} {B = RunningStation} (λ t. record t { account = purged_if_hung t.account })
        (ap (λ rounds. finished_rounds infos rounds s) (add-one (length (held s.account))) ∙ rounds_next (length (held s.account)) s not_done ∙ same (round s kept not_done))
      where
        same : P (round_of s) × Ends s → finished_rounds infos (length (held s.account)) (round_of s) ≡ finished_rounds infos (length (held (round_of s).account) + 1) (round_of s)
        same (next, inl fewer) =
            ap (λ rounds. finished_rounds infos rounds (round_of s)) (omega arith)
            ∙ rounds-more (length (held s.account) - (length (held (round_of s).account) + 1)) (length (held (round_of s).account) + 1) (round_of s) next (omega arith)
        same (next, inr done) =
            rounds_done (length (held s.account)) (round_of s) done
            ∙ sym (rounds_done (length (held (round_of s).account) + 1) (round_of s) done)
