-- The rounds of the reader, one after the other.
use Rattle.std.proofs.Common.{◌≡◌, ◌≢◌, ◌≤◌, ◌<◌, ◌==◌, ℕ, List, [], true, false, length, length-take, take, inl, inr, refl, ap, subst, arith}
use Rattle.lq_tap.specs.Sees.{SeesEnded}
use Rattle.lq_tap.specs.declared.shared.TapSeat.{TapSeat}
use Rattle.std.proofs.lemmas.Bool.Decides.{nat_tests}
use Rattle.lq_tap_run.specs.Rounds.{GivesHalf, ReadsRounds, ReadsToEnd, TakesBatch, one_round}

-- a look and a batch, taken into as many places as were asked for, behind the rounds so far
module _ {len senders asked places found : ℕ} {first now : TapSeat} {batch : List ℕ} (looked taken : TapSeat) (rounds : ReadsRounds len senders asked first now) (looks : SeesEnded found now looked) (long : places ≡ asked) (took : TakesBatch len places batch looked taken) where
  takes : TakesBatch len asked batch looked taken
  takes = subst (λ n. TakesBatch len n batch looked taken) long took

  pub on_with_half : (new : TapSeat) → batch ≢ [] → GivesHalf len batch taken new → ReadsRounds len senders asked first new
  on_with_half new some half =
      one_round found batch now new rounds (record { looked = looked; taken = taken; looks = looks; takes = takes; gives = inr (some, half) }) (inr some)

  pub on_empty : batch ≡ [] → found ≢ senders → ReadsRounds len senders asked first taken
  on_empty none under_way =
      one_round found batch now taken rounds (record { looked = looked; taken = taken; looks = looks; takes = takes; gives = inl (none, refl) }) (inl under_way)

  pub to_end : batch ≡ [] → found ≡ senders → ReadsToEnd len senders asked first taken
  to_end none over = (
    now,
    rounds,
    record {
      looked = looked;
      taken = taken;
      looks = subst (λ n. SeesEnded n now looked) over looks;
      takes = subst (λ (xs : List ℕ). TakesBatch len asked xs looked taken) none takes;
      gives = inl (refl, refl);
    },
  )

-- a batch that isn't empty
pub some_taken : (count : ℕ) (out : List ℕ) → 0 < count → count ≤ length out → take count out ≢ []
some_taken count out some le = λ none. let long : length (take count out) ≡ 0 = ap length none in absurd (omega (arith, length-take count out))

pub equal_found : (a b : ℕ) → (a == b) ≡ true → a ≡ b
equal_found a b e = grind (arith, nat_tests)

pub other_found : (a b : ℕ) → (a == b) ≡ false → a ≢ b
other_found a b e = λ same. grind (arith, nat_tests)
