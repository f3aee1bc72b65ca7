-- Nothing is exposed exactly where all is clear.
use Rattle.std.proofs.Common.{◌≡◌, ◌≢◌, ℕ, zero, suc, ◌⊎◌, ◌↔◌, inl, inr, List, [], ◌∷◌, get_or, Option, Some, None, refl, ap}
use Rattle.std.proofs.lemmas.Bool.{cases_eq}
use Rattle.lq_model.specs.declared.machine.Packet.{Packet}
use Rattle.lq_model.specs.declared.machine.Seat.{Seat}
use Rattle.lq_model.specs.Positions.{Exposes, IsClear, hidden_packet}
use Rattle.lq_model.specs.Machine.{Machine, idle_seat}

-- two packets are the same, or not
same-packet : (p r : Packet) → (p ≡ r) ⊎ (p ≢ r)
same-packet p r = go (cases_eq p.number r.number) (cases_eq p.owner r.owner) (cases_eq p.band r.band) (cases_eq p.queue r.queue)
  where
    go : (p.number ≡ r.number) ⊎ (p.number ≢ r.number) → (p.owner ≡ r.owner) ⊎ (p.owner ≢ r.owner) → (p.band ≡ r.band) ⊎ (p.band ≢ r.band) → (p.queue ≡ r.queue) ⊎ (p.queue ≢ r.queue) → (p ≡ r) ⊎ (p ≢ r)
    go (inl a) (inl b) (inl c) (inl d) = inl (λ i. record { number = a i; owner = b i; band = c i; queue = d i })
    go (inr other) b c d = inr (λ e. other (ap (λ (x : Packet). x.number) e))
    go a (inr other) c d = inr (λ e. other (ap (λ (x : Packet). x.owner) e))
    go a b (inr other) d = inr (λ e. other (ap (λ (x : Packet). x.band) e))
    go a b c (inr other) = inr (λ e. other (ap (λ (x : Packet). x.queue) e))

is-it : (o : Option Packet) (p : Packet) → (o ≡ Some p) ⊎ (o ≡ Some p → ⊥)
is-it None p = inr (λ e. cc)
is-it (Some r) p = elim (same-packet r p) [ inl same ↦ inl (ap Some same) | inr other ↦ inr (λ e. other cc) ]

-- some seat hides the packet, or none does
hides : (seats : List Seat) (p : Packet) → ((i : ℕ) × (hidden_packet (get_or seats i idle_seat).position ≡ Some p)) ⊎ ((i : ℕ) → hidden_packet (get_or seats i idle_seat).position ≡ Some p → ⊥)
hides [] p = inr (λ i e. cc)
hides (s ∷ seats) p = elim (is-it (hidden_packet s.position) p) [
  | inl here ↦ inl (zero, here)
  | inr not_here ↦ elim (hides seats p) [
    | inl there ↦ inl (suc there.0, there.1)
    | inr nowhere ↦ inr (none not_here nowhere)
  ]
]
  where
    none : (hidden_packet s.position ≡ Some p → ⊥) → ((i : ℕ) → hidden_packet (get_or seats i idle_seat).position ≡ Some p → ⊥) → (i : ℕ) → hidden_packet (get_or (s ∷ seats) i idle_seat).position ≡ Some p → ⊥
    none here there zero e = here e
    none here there (suc i) e = there i e

pub clear-exposed : (m : Machine) → ((p : Packet) → Exposes m p → ⊥) ↔ IsClear m
clear-exposed m = (
  λ none. record {
    slot = empty none m.qdisc.slot refl;
    bands = λ k below p held. elim (hides m.seats p) [ inl hidden ↦ hidden | inr seen ↦ absurd (none p (inr (k, (below, (held, λ h. seen h.0 h.1))))) ];
  },
  λ clear p. shows clear p,
)
  where
    empty : ((p : Packet) → Exposes m p → ⊥) → (o : Option Packet) → m.qdisc.slot ≡ o → m.qdisc.slot ≡ None
    empty none None e = e
    empty none (Some p) e = absurd (none p (inl e))

    shows : IsClear m → (p : Packet) → Exposes m p → ⊥
    shows clear p (inl e) = let none : m.qdisc.slot ≡ None = clear.slot in cc
    shows clear p (inr (k, (below, (held, seen)))) = seen (clear.bands k below p held)
