-- What each unit sent, and that each owner's packets of one band were sent in ascending number.
use Rattle.std.proofs.Common.{◌≡◌, ℕ, ◌<◌, List, ◌⊎◌, inl, inr, length, Option, Some, sym, ◌∙◌, subst, slice_get, arith}
use Rattle.std.proofs.lemmas.Option.{slice_get_within}
use Rattle.lq_model.specs.Account.{Account, Event, Send, sent_from_hand, new_account, after}
use Rattle.lq_model.specs.Legal.{brought, MayCome, IsInTurn}
use Rattle.lq_model.specs.Plan.{Plan}
use Rattle.lq_model.specs.declared.fate.Fate.TheVariants.{Sent}
use Rattle.lq_model.specs.declared.fate.Info.{Info}
use Rattle.lq_account_laws.specs.Places.{AreBrought, KeepsOrder, Precedes, Undecided, Waits}
use Rattle.lq_account_laws.proofs.Changes.{Sends, Gives, fate-cases, sent-cases, sent-stays, sent-is}
use Rattle.lq_account_laws.proofs.Changes.Sends.{sends}
use Rattle.lq_account_laws.proofs.Changes.Gives.{gives_sent}
use Rattle.lq_account_laws.proofs.Brought.{above-before}
use Rattle.lq_account_laws.proofs.Waiting.{waits-cases, fate-stays}
use Rattle.lq_account_laws.specs.Places.Waits.{in_hand, in_slot, in_band}
use Rattle.lq_account_laws.proofs.Used.{AreUsed}

-- by an earlier unit, or by the same with a lower serial
abbrev pub IsEarlier : ℕ → ℕ → ℕ → ℕ → Type 0
IsEarlier u s v t = (u < v) ⊎ ((u ≡ v) × (s < t))

pub record AreSent (infos : List Info) (a : Account) : Type 0 where
  pub stands : (n u s : ℕ) → a.fates n ≡ Some (Sent u s) → slice_get (a.sent u) s ≡ Some n
  pub has_fate : (n u s : ℕ) → slice_get (a.sent u) s ≡ Some n → a.fates n ≡ Some (Sent u s)
  pub order : (m n u v s t : ℕ) → slice_get (a.sent u) s ≡ Some m → slice_get (a.sent v) t ≡ Some n → IsEarlier u s v t → Precedes infos m n
  pub ahead : (m n u s : ℕ) → slice_get (a.sent u) s ≡ Some m → Waits a n → Precedes infos m n

pub sent-start : (infos : List Info) (len unit queues : ℕ) → AreSent infos (new_account len unit queues)
sent-start infos len unit queues = record {
  stands = λ n u s h. absurd cc;
  has_fate = λ n u s h. absurd cc;
  order = λ m n u v s t h. absurd cc;
  ahead = λ m n u s h. absurd cc;
}

module _ (plan : Plan) (infos : List Info) (station : ℕ) (past : List Event) (a : Account) (known : AreBrought infos station past a) (order : KeepsOrder infos a) (free : Undecided a)
    (used : AreUsed plan station past a) (h : AreSent infos a) where
  new-stands : (e : Event) (n u s : ℕ) → Gives a e n (Sent u s) → slice_get ((after e a).sent u) s ≡ Some n
  new-stands e n u s (gives_sent m v t hand unit serial) =
      subst (λ v. slice_get ((after Send a).sent v) s ≡ Some n) (sym unit) (subst (λ t. slice_get ((after Send a).sent a.unit) t ≡ Some n) (sym serial) (sent-is a n hand).0)

  new-fate : (e : Event) (n u s : ℕ) → Sends a e u s n → (after e a).fates n ≡ Some (Sent u s)
  new-fate e n u s (sends m v t hand unit serial) =
      subst (λ v. (after Send a).fates n ≡ Some (Sent v s)) (sym unit) (subst (λ t. (after Send a).fates n ≡ Some (Sent a.unit t)) (sym serial) (sent-is a n hand).1)

  -- what was sent before the packet in hand, and what is sent now
  before-new : (e : Event) (m n u v s t : ℕ) → slice_get (a.sent u) s ≡ Some m → Sends a e v t n → Precedes infos m n
  before-new e m n u v s t old (sends k w r hand unit serial) = h.ahead m n u s old (in_hand hand)

  new-last : (e : Event) (m n u v s t : ℕ) → Sends a e u s m → slice_get (a.sent v) t ≡ Some n → IsEarlier u s v t → ⊥
  new-last e m n u v s t (sends k w r hand unit serial) old (inl below) = let most = (used.sent v t n old).0 in omega arith
  new-last e m n u v s t (sends k w r hand unit serial) old (inr (same, below)) =
      let within : t < length (a.sent a.unit) = slice_get_within (a.sent a.unit) t n (subst (λ w. slice_get (a.sent w) t ≡ Some n) (sym same ∙ unit) old) in omega arith

  one-new : (e : Event) (m n u v s t : ℕ) → Sends a e u s m → Sends a e v t n → IsEarlier u s v t → ⊥
  one-new e m n u v s t (sends k w r hand unit serial) (sends k' w' r' hand' unit' serial') (inl below) = omega arith
  one-new e m n u v s t (sends k w r hand unit serial) (sends k' w' r' hand' unit' serial') (inr (same, below)) = omega arith

  -- the packet that is sent now came before all that waits after it
  new-ahead : (e : Event) (m n u s : ℕ) → Sends a e u s m → Waits (after e a) n → Precedes infos m n
  new-ahead e m n u s (sends k w r hand unit serial) waits = go (subst (λ (o : Option ℕ). Waits (sent_from_hand o a) n) hand waits)
    where
      go : Waits (sent_from_hand (Some m) a) n → Precedes infos m n
      go (in_hand none) = absurd cc
      go (in_slot slot) = absurd (order.one m n hand slot)
      go (in_band b below held) = order.hand_ahead m hand b n below held

  old-ahead : (e : Event) → MayCome infos station past a e → IsInTurn infos past (brought e) → (m n u s : ℕ) → slice_get (a.sent u) s ≡ Some m → Waits a n ⊎ (brought e ≡ Some n) → Precedes infos m n
  old-ahead e may turn m n u s old (inl waits) = h.ahead m n u s old waits
  old-ahead e may turn m n u s old (inr now) = λ owner band. above-before infos past e m n turn now (known.fates m (Sent u s) (h.has_fate m u s old)) owner

  pub sent-step : (e : Event) → MayCome infos station past a e → IsInTurn infos past (brought e) → AreSent infos (after e a)
  sent-step e may turn = record {
    stands = λ n u s here. elim (fate-cases e a n (Sent u s) here) [ inl old ↦ sent-stays e a u s n (h.stands n u s old) | inr new ↦ new-stands e n u s new ];
    has_fate = λ n u s here. elim (sent-cases e a u s n here) [
      | inl old ↦ fate-stays infos station past a known order free e may n (Sent u s) (h.has_fate n u s old)
      | inr new ↦ new-fate e n u s new
    ];
    order = λ m n u v s t first second earlier. elim (sent-cases e a u s m first) [
      | inl old ↦ elim (sent-cases e a v t n second) [ inl old' ↦ h.order m n u v s t old old' earlier | inr new ↦ before-new e m n u v s t old new ]
      | inr new ↦ elim (sent-cases e a v t n second) [ inl old ↦ absurd (new-last e m n u v s t new old earlier) | inr new' ↦ absurd (one-new e m n u v s t new new' earlier) ]
    ];
    ahead = λ m n u s first waits. elim (sent-cases e a u s m first) [
      | inl old ↦ old-ahead e may turn m n u s old (waits-cases infos station past a e may n waits)
      | inr new ↦ new-ahead e m n u s new waits
    ];
  }
