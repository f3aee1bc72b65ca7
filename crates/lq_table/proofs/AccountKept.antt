-- What an event keeps of the fates of sent packets, and of the event by which the station is deactivated.
use Rattle.lq_account_laws.specs.Places.{AreBrought, KeepsOrder, Undecided}
use Rattle.std.proofs.Common.{◌≡◌, ℕ, ◌<◌, List, inl, inr, Option, Some, None, sym, subst}
use Rattle.std.proofs.lemmas.Option.{same_Some}
use Rattle.lq_model.specs.Account.{Account, Event, Send, Down, Up, sent_from_hand, after}
use Rattle.lq_model.specs.Legal.{MayCome}
use Rattle.lq_model.specs.declared.fate.Info.{Info}
use Rattle.lq_model.specs.declared.fate.Fate.TheVariants.{Sent}
use Rattle.lq_account_laws.proofs.Waiting.{fate-stays}
use Rattle.lq_account_laws.proofs.Changes.{Sends, sent-cases, sent-is}
use Rattle.lq_account_laws.proofs.Changes.Sends.{sends}
use Rattle.lq_table.specs.Rule.{SentHaveFates}

-- an event by which the station is deactivated is a number of 32 bits
abbrev pub IsCounted : Event → Type 0
IsCounted (Down event) = event < 4294967296
IsCounted event = Unit {0}

new_fate : (a : Account) (e : Event) (n u s : ℕ) → Sends a e u s n → (after e a).fates n ≡ Some (Sent u s)
new_fate a e n u s (sends m v t hand unit serial) =
    subst (λ (w : ℕ). (after Send a).fates n ≡ Some (Sent w s)) (sym unit) (subst (λ (r : ℕ). (after Send a).fates n ≡ Some (Sent a.unit r)) (sym serial) (sent-is a n hand).1)

pub sent_kept : (infos : List Info) (station : ℕ) (past : List Event) (a : Account) → AreBrought infos station past a → KeepsOrder infos a → Undecided a → (e : Event) → MayCome infos station past a e → SentHaveFates a → SentHaveFates (after e a)
sent_kept infos station past a known order free e may h n u s there = elim (sent-cases e a u s n there) [
  | inl old ↦ fate-stays infos station past a known order free e may n (Sent u s) (h n u s old)
  | inr new ↦ new_fate a e n u s new
]

pub down_kept : (a : Account) (e : Event) → IsCounted e → ((x : ℕ) → a.down ≡ Some x → x < 4294967296) → (x : ℕ) → (after e a).down ≡ Some x → x < 4294967296
down_kept a (Down y) counted h x is = subst (λ (z : ℕ). z < 4294967296) (same_Some y x is) counted
down_kept a Up counted h x is = absurd cc
down_kept a Send counted h x is = go a.hand is
  where
    go : (o : Option ℕ) → (sent_from_hand o a).down ≡ Some x → x < 4294967296
    go None e = h x e
    go (Some m) e = h x e
down_kept a e counted h x is = h x is
