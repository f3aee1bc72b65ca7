-- The lemmas on the end of a station: what is left is sent in order, and after the last look or the purge nothing is held.
use Rattle.std.proofs.Common.{◌≡◌, ◌≢◌, ⊎_elim, ℕ, zero, suc, ◌+◌, ◌*◌, ◌<◌, ◌≤◌, Bool, true, false, List, [], ◌∷◌, ◌++◌, length, take, Contains, Some, None, refl, sym, ap, ◌∙◌, subst, arith, get_or, slice_index, slice_get, eqb-true}
use Rattle.std.specs.Prelude.{◌==◌, ◌&&◌, cond, count_by, slice_set}
use Rattle.std.proofs.lemmas.Bool.{cond_both, eq-eqb}
use Rattle.std.proofs.lemmas.List.{append_assoc, get_or-set_same, get_or-set_other, length-set}
use Rattle.std.proofs.lemmas.List.Elements.{Contains-append_cases}
use Rattle.std.proofs.lemmas.List.Sums.{count_by_more_yes, count_by_more_no, sum_by-take-le}
use Rattle.std.proofs.lemmas.Option.{get_or_from_slice_get, slice_get_cases}
use mathlib.Core.Logic.{dite}
use native.Mathlib.Decide.{ℕ_discrete}
use Rattle.lq_model.specs.Account.{Event, Join, Full, Refuse, Direct}
use Rattle.lq_model.specs.Legal.{brought}
use Rattle.lq_model.specs.Plan.{owner_in}
use Rattle.lq_model.specs.declared.fate.Info.{Info}
use Rattle.lq_account_laws.specs.Trail.{is_own}
use Rattle.lq_account_laws.proofs.Lists.{none-in}
use Rattle.lq_table.specs.Views.{View, Setup}
use Rattle.lq_model.specs.declared.fate.Fate.{Fate}
use Rattle.lq_ring.specs.Fates.{fates_onto}
use Rattle.lq_qdisc.specs.Calls.{KeepsFates}
use Rattle.lq_qdisc.specs.Sends.{came_as, trail_with}
use Rattle.lq_qdisc.specs.declared.answers.Sending.{Sending}
use Rattle.lq_qdisc.specs.declared.answers.Sending.TheVariants as sending
use Rattle.lq_control.specs.Finish.{is_packet_of, count_below, count_all, IsTurn, AreTurnsFrom, AreAllDone, IsSent}

-- FATES

pub keeps_then : (v w x : View) → KeepsFates v w → KeepsFates w x → KeepsFates v x
keeps_then v w x a b = (b.0 ++ a.0, b.1 ∙ (ap (λ (fs : List (ℕ × Fate)). b.0 ++ fs) a.1 ∙ sym (append_assoc b.0 a.0 v.settled)))

pub fates_before : (f : Fate) (ns : List ℕ) (fates : List (ℕ × Fate)) → (more : List (ℕ × Fate)) × (fates_onto f ns fates ≡ more ++ fates)
fates_before f [] fates = ([], refl)
fates_before f (n ∷ ns) fates = let more = fates_before f ns ((n, f) ∷ fates) in (more.0 ++ (n, f) ∷ [], more.1 ∙ sym (append_assoc more.0 ((n, f) ∷ []) fates))

-- THE TRAIL

pub sent_none : (k : Setup) (v w : View) → w.trail ≡ v.trail → KeepsFates v w → IsSent k v w
sent_none k v w e fates = record { events = []; trail = e; first = λ x is. absurd (none-in [] x refl is); fates = fates }

pub sent_same : (k : Setup) (v w : View) → w ≡ v → IsSent k v w
sent_same k v w e = sent_none k v w (ap (λ (x : View). x.trail) e) ([], ap (λ (x : View). x.settled) e)

pub sent_then : (k : Setup) (v w x : View) → IsSent k v w → IsSent k w x → IsSent k v x
sent_then k v w x a b = record {
  events = b.events ++ a.events;
  trail = b.trail ∙ (ap (λ (es : List Event). b.events ++ es) a.trail ∙ sym (append_assoc b.events a.events v.trail));
  first = λ e is. ⊎_elim (b.first e) (a.first e) (Contains-append_cases b.events a.events e is);
  fates = keeps_then v w x a.fates b.fates;
}

only : (e x : Event) → Contains (e ∷ []) x → e ≡ x
only e x (zero, below, at) = at
only e x (suc i, below, at) = absurd (omega arith)

sent_if : (k : Setup) (e : Event) (n : ℕ) (v w : View) (b : Bool) → brought e ≡ Some n → (b ≡ true → owner_in k.infos n ≡ 0) → w.trail ≡ cond b (e ∷ v.trail) v.trail → KeepsFates v w → IsSent k v w
sent_if k e n v w true is own t fates = record { events = e ∷ []; trail = t; first = λ x there. (n, ap brought (sym (only e x there)) ∙ is, own refl); fates = fates }
sent_if k e n v w false is own t fates = sent_none k v w t fates

pub sent_by : (k : Setup) (n : ℕ) (answer : Sending) (v w : View) → v.share.about ≡ k → w.trail ≡ trail_with (came_as k.infos n answer) v → KeepsFates v w → IsSent k v w
sent_by k n sending.Direct v w about t fates = sent_if k (Direct n) n v w (owner_in k.infos n == 0) refl (eqb-true (owner_in k.infos n) 0) (t ∙ ap (λ (s : Setup). cond (is_own s.infos (Direct n)) (Direct n ∷ v.trail) v.trail) about) fates
sent_by k n sending.Queued v w about t fates = let e : Event = Join n (Rattle.lq_model.specs.Plan.band_in k.infos n) in sent_if k e n v w (owner_in k.infos n == 0) refl (eqb-true (owner_in k.infos n) 0) (t ∙ ap (λ (s : Setup). cond (is_own s.infos e) (e ∷ v.trail) v.trail) about) fates
sent_by k n (sending.FullSeen seen) v w about t fates = let e : Event = Full n seen in sent_if k e n v w (owner_in k.infos n == 0) refl (eqb-true (owner_in k.infos n) 0) (t ∙ ap (λ (s : Setup). cond (is_own s.infos e) (e ∷ v.trail) v.trail) about) fates
sent_by k n (sending.Refused event) v w about t fates = let e : Event = Refuse n event in sent_if k e n v w (owner_in k.infos n == 0) refl (eqb-true (owner_in k.infos n) 0) (t ∙ ap (λ (s : Setup). cond (is_own s.infos e) (e ∷ v.trail) v.trail) about) fates
sent_by k n (sending.OutOfTurn found) v w about t fates = sent_none k v w t fates

-- TURNS

and_no : (a b : Bool) → b ≡ false → (a && b) ≡ false
and_no true b e = e
and_no false b e = refl

pub not_eqb : (a b : ℕ) → a ≢ b → (a == b) ≡ false
not_eqb a b apart = cond_both (a == b) true false (λ (x : Bool). x ≡ (a == b) → (a == b) ≡ false) (λ e _. absurd (apart (eqb-true a b e))) (λ e _. e) (go (a == b))
  where
    go : (x : Bool) → cond x true false ≡ x
    go true = refl
    go false = refl

module _ (k : Setup) (n : ℕ) (info : Info) (here : slice_get k.infos n ≡ Some info) where
  inside : n < length k.infos
  inside = ⊎_elim (λ t. t.1) (λ t. absurd (let z : Some info ≡ None = sym here ∙ t.1 in cc)) (slice_get_cases k.infos n).1

  abbrev is_of : ℕ → Bool
  is_of o = is_packet_of o k.station info

  at_n : (o : ℕ) → is_packet_of o k.station (get_or k.infos n info) ≡ is_of o
  at_n o = ap (is_packet_of o k.station) (get_or_from_slice_get k.infos n info info here)

  more : (o : ℕ) → is_of o ≡ true → count_below k.infos o k.station (n + 1) ≡ count_below k.infos o k.station n + 1
  more o yes_ = count_by_more_yes (is_packet_of o k.station) k.infos n info inside (at_n o ∙ yes_)

  same : (o : ℕ) → is_of o ≡ false → count_below k.infos o k.station (n + 1) ≡ count_below k.infos o k.station n
  same o no_ = count_by_more_no (is_packet_of o k.station) k.infos n info inside (at_n o ∙ no_)

  within : (o : ℕ) (m : ℕ) → count_below k.infos o k.station m ≤ count_all k.infos o k.station
  within o m = sum_by-take-le (λ (x : Info). cond (is_packet_of o k.station x) 1 0) k.infos m

  stays : (turns turns' : List ℕ) (o : ℕ) → is_of o ≡ false → slice_index turns' o ≡ slice_index turns o → IsTurn k n turns o → IsTurn k (n + 1) turns' o
  stays turns turns' o no_ e (r, word, low, high) = (r, e ∙ word, (let z = same o no_ in omega arith), high)

  -- a packet of another station
  pub turns_elsewhere : (turns : List ℕ) → info.station ≢ k.station → AreTurnsFrom k n turns → AreTurnsFrom k (n + 1) turns
  turns_elsewhere turns other t = record {
    long = t.long;
    words = λ o l. stays turns turns o (and_no (info.owner == o) (info.station == k.station) (not_eqb info.station k.station other)) refl (t.words o l);
  }

  module _ (own : info.station ≡ k.station) (rank : info.rank ≡ count_below k.infos info.owner info.station n) (known : info.owner < k.senders) where
    ranked : info.rank ≡ count_below k.infos info.owner k.station n
    ranked = rank ∙ ap (λ (st : ℕ). count_below k.infos info.owner st n) own

    of_owner : is_of info.owner ≡ true
    of_owner = let a : (info.owner == info.owner) ≡ true = eq-eqb info.owner info.owner refl in let b : (info.station == k.station) ≡ true = eq-eqb info.station k.station own in
        (λ j. a j && b j)

    of_other : (o : ℕ) → info.owner ≢ o → is_of o ≡ false
    of_other o apart = ap (λ (b : Bool). b && (info.station == k.station)) (not_eqb info.owner o apart)

    pub in_turn : (turns : List ℕ) → AreTurnsFrom k n turns → slice_index turns info.owner ≤ 2 * info.rank → slice_index turns info.owner ≡ 2 * info.rank
    in_turn turns t left = let u = t.words info.owner known in let word = u.1 in let low = u.2 in let q = ranked in omega arith

    -- it was transmitted before
    pub turns_past : (turns : List ℕ) → AreTurnsFrom k n turns → 2 * info.rank < slice_index turns info.owner → AreTurnsFrom k (n + 1) turns
    turns_past turns t done = record {
      long = t.long;
      words = λ o l. dite (ℕ_discrete info.owner o)
          (λ e. let P : ℕ → Type 0 = λ x. IsTurn k (n + 1) turns x in subst P e (let u = t.words info.owner known in (u.0, u.1, (let word = u.1 in let q = ranked in let z = more info.owner of_owner in omega arith), u.3)))
          (λ apart. stays turns turns o (of_other o apart) refl (t.words o l));
    }

    -- it is transmitted now
    pub turns_sent : (turns turns' : List ℕ) → AreTurnsFrom k n turns → slice_index turns info.owner ≡ 2 * info.rank → turns' ≡ slice_set turns info.owner (2 * info.rank + 2) → AreTurnsFrom k (n + 1) turns'
    turns_sent turns turns' t now is = let z = more info.owner of_owner in let q = ranked in let top = within info.owner (n + 1) in record {
      long = ap length is ∙ (length-set turns info.owner (2 * info.rank + 2) ∙ t.long);
      words = λ o l. dite (ℕ_discrete info.owner o)
          (λ e. let P : ℕ → Type 0 = λ x. IsTurn k (n + 1) turns' x in subst P e
          (info.rank + 1, ap (λ (ts : List ℕ). slice_index ts info.owner) is ∙ (get_or-set_same turns info.owner (2 * info.rank + 2) 0 (let g = t.long in omega arith) ∙ omega arith), omega arith, omega arith))
          (λ apart. stays turns turns' o (of_other o apart) (ap (λ (ts : List ℕ). slice_index ts o) is ∙ get_or-set_other turns info.owner o (2 * info.rank + 2) 0 (λ e. apart (sym e))) (t.words o l));
    }

    -- where all were transmitted it isn't left
    pub not_left : (turns : List ℕ) → AreAllDone k turns → 2 * info.rank < slice_index turns info.owner
    not_left turns done = let z = more info.owner of_owner in let q = ranked in let top = within info.owner (n + 1) in let d = done info.owner known in omega arith

-- after the last packet all are done
pub all_done : (k : Setup) (turns : List ℕ) → AreTurnsFrom k (length k.infos) turns → AreAllDone k turns
all_done k turns t o l = let u = t.words o l in let word = u.1 in let low = u.2 in let high = u.3 in
    let whole : count_below k.infos o k.station (length k.infos) ≡ count_all k.infos o k.station = ap (count_by (is_packet_of o k.station)) (take_all k.infos) in omega arith
  where
    take_all : (xs : List Info) → take (length xs) xs ≡ xs
    take_all [] = refl
    take_all (x ∷ xs) = ap (λ (ys : List Info). x ∷ ys) (take_all xs)
