-- With one queue a station has one stop value: what the definitions of the run of one sender come to.
use Rattle.std.proofs.Common.{◌≡◌, ℕ, ◌==◌, Bool, true, false, not, ◌&&◌, ◌||◌, [], ◌∷◌, length, is_some, is_none, if◌then◌else◌, refl, ap, ◌∙◌}
use Rattle.std.specs.Prelude.{slice_index}
use Rattle.std.proofs.lemmas.Option.{get_or_from_slice_get}
use Rattle.lq_model.specs.Band.{MayBeFull}
use Rattle.lq_model.specs.Account.{Account, Wake, Purge, is_hung, is_all_open, is_open, after}
use Rattle.lq_model.specs.Alone.{RunningStation, is_clean, is_done, is_left, next_taken, opened, opened_up_to, purged_if_hung, seen_in}
use Rattle.lq_model.specs.declared.fate.Cause.TheVariants.{Hung}

and-true : (b : Bool) → (b && true) ≡ b
and-true true = refl
and-true false = refl

module _ (a : Account) (stop : ℕ) (stops : a.stops ≡ stop ∷ []) where
  pub one_open : is_open a 0 ≡ (stop == 0)
  one_open = ap (λ stops. is_open (record a { stops = stops }) 0) stops

  pub one_hung : is_hung a ≡ (stop == 2)
  one_hung = ap (λ stops. is_hung (record a { stops = stops })) stops ∙ and-true (stop == 2)

  pub one_all_open : is_all_open a ≡ (stop == 0)
  one_all_open = ap (λ stops. is_all_open (record a { stops = stops })) stops ∙ and-true (stop == 0)

  pub one_left : is_left a ≡ (is_some a.down || not (stop == 0))
  one_left = ap (λ stops. is_left (record a { stops = stops })) stops

  pub one_clean : is_clean a ≡ (stop == 0)
  one_clean = ap (λ stops. is_clean (record a { stops = stops })) stops

  pub one_done : is_done a ≡ (is_some a.down || ((stop == 2) || ((stop == 0) && is_none (next_taken a))))
  one_done = ap (λ hung. is_some a.down || (hung || (is_all_open a && is_none (next_taken a)))) one_hung
      ∙ ap (λ all. is_some a.down || ((stop == 2) || (all && is_none (next_taken a)))) one_all_open

  pub one_purged : purged_if_hung a ≡ (if stop == 2 then after (Purge (Hung a.unit)) a else a)
  one_purged = ap (λ (hung : Bool). if hung then after (Purge (Hung a.unit)) a else a) one_hung

  pub one_opened_account : opened_up_to (length a.stops) a ≡ (if stop == 1 then after (Wake 0) a else a)
  one_opened_account = ap (λ stops. opened_up_to (length stops) a) stops ∙ ap (λ (word : ℕ). if word == 1 then after (Wake 0) a else a) (ap (λ stops. slice_index stops 0) stops)

-- the stop value after a wake
pub one_opened : (s : RunningStation) (stop : ℕ) → s.account.stops ≡ stop ∷ [] → opened s ≡ record s { account = if stop == 1 then after (Wake 0) s.account else s.account }
one_opened s stop stops = ap (λ account. record s { account = account }) (one_opened_account s.account stop stops)

-- the packet that a full band shows
pub seen_is : {len seen : ℕ} (band : _) → MayBeFull len band seen → seen_in len band ≡ seen
seen_is {len = len} {seen = seen} band full = get_or_from_slice_get band.line _ seen _ full.seen_is
