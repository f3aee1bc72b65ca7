-- The units that swaps brought, and those that they took away.
use Rattle.std.specs.Prelude.{if◌then◌else◌}
use Rattle.std.proofs.Common.{◌≡◌, ℕ, suc, Bool, true, false, ◌⊎◌, inl, inr, List, [], ◌∷◌, ◌++◌, set, refl, sym, ap, ◌∙◌, subst, arith, ⊎_elim, Option, Some, None, Contains, cond}
use mathlib.Core.Option.{some}
use lib.ListN.{get_elem?}
use Rattle.lq_model.specs.Account.{Account, Event, Join, Full, Refuse, Empty, Take, Pick, Direct, Send, Back, Stop, Wake, Resize, Down, Purge, Swap, Up, sent_from_hand, after_all}
use Rattle.lq_model.specs.declared.fate.Info.{Info}
use Rattle.lq_account_laws.specs.Trail.{is_own, trail_of}
use Rattle.lq_band_laws.proofs.Seats.{each_step, each_same}
use Rattle.lq_table.specs.Views.{View, Setup, FirstPart, first_account}
use Rattle.lq_table.specs.Rule.{units_of, latest_unit, IsGone, Gone}
use Rattle.lq_table.proofs.Accounts.{with_at_other}
use Rattle.lq_table.proofs.SettledKept.{in_front}

-- THE TRAIL

skip : (b : Bool) (e : Event) (trail : List Event) → units_of (e ∷ trail) ≡ units_of trail → units_of (cond b (e ∷ trail) trail) ≡ units_of trail
skip true e trail same = same
skip false e trail same = refl

-- the trail has each swap
pub units_trail : (infos : List Info) (past : List Event) → units_of (trail_of infos past) ≡ units_of past
units_trail infos [] = refl
units_trail infos (Swap x ∷ past) = ap (λ (us : List ℕ). x ∷ us) (units_trail infos past)
units_trail infos (Join n b ∷ past) = skip (is_own infos (Join n b)) (Join n b) (trail_of infos past) refl ∙ units_trail infos past
units_trail infos (Full n x ∷ past) = skip (is_own infos (Full n x)) (Full n x) (trail_of infos past) refl ∙ units_trail infos past
units_trail infos (Refuse n x ∷ past) = skip (is_own infos (Refuse n x)) (Refuse n x) (trail_of infos past) refl ∙ units_trail infos past
units_trail infos (Empty b ∷ past) = units_trail infos past
units_trail infos (Take b ∷ past) = units_trail infos past
units_trail infos (Pick ∷ past) = units_trail infos past
units_trail infos (Direct n ∷ past) = skip (is_own infos (Direct n)) (Direct n) (trail_of infos past) refl ∙ units_trail infos past
units_trail infos (Send ∷ past) = units_trail infos past
units_trail infos (Back ∷ past) = units_trail infos past
units_trail infos (Stop x y ∷ past) = units_trail infos past
units_trail infos (Wake x ∷ past) = units_trail infos past
units_trail infos (Resize x y ∷ past) = units_trail infos past
units_trail infos (Down x ∷ past) = units_trail infos past
units_trail infos (Purge c ∷ past) = units_trail infos past
units_trail infos (Up ∷ past) = units_trail infos past

-- UNITS OF BEFORE

pub fewer : (e : Event) (past : List Event) (u : ℕ) → Contains (units_of past) u → Contains (units_of (e ∷ past)) u
fewer (Swap x) past u (i, below, is) = (suc i, omega arith, is)
fewer (Join n b) past u h = h
fewer (Full n x) past u h = h
fewer (Refuse n x) past u h = h
fewer (Empty b) past u h = h
fewer (Take b) past u h = h
fewer Pick past u h = h
fewer (Direct n) past u h = h
fewer Send past u h = h
fewer Back past u h = h
fewer (Stop x y) past u h = h
fewer (Wake x) past u h = h
fewer (Resize x y) past u h = h
fewer (Down x) past u h = h
fewer (Purge c) past u h = h
fewer Up past u h = h

-- an event that brings no unit that the station had before
abbrev pub BringsNone : Setup → List Event → Event → Type 0
BringsNone k past (Swap x) = (k.station ≡ x → ⊥) × (Contains (units_of past) x → ⊥)
BringsNone k past e = Unit {0}

module _ (a : Account) (unit : ℕ) (sent : List ℕ) (apart : a.unit ≡ unit → ⊥) (list : a.sent unit ≡ sent) where
  send_apart : (o : Option ℕ) → (sent_from_hand o a).unit ≡ unit → ⊥
  send_apart None = apart
  send_apart (Some n) = apart

  send_keeps : (o : Option ℕ) → (sent_from_hand o a).sent unit ≡ sent
  send_keeps None = list
  send_keeps (Some n) = with_at_other a.unit unit (a.sent a.unit ++ n ∷ []) a.sent (λ e. apart (sym e)) ∙ list

-- a unit that was taken away stays so
pub gone_next : (k : Setup) (past : List Event) (e : Event) (unit : ℕ) (sent : List ℕ) → BringsNone k past e → IsGone k past unit sent → IsGone k (e ∷ past) unit sent
gone_next k past (Swap x) unit sent new h = record {
  list = h.list;
  apart = λ same. ⊎_elim (λ (first : unit ≡ k.station). new.0 (sym first ∙ sym same)) (λ (brought : Contains (units_of past) unit). new.1 (subst (Contains (units_of past)) (sym same) brought)) h.known;
  known = ⊎_elim inl (λ (brought : Contains (units_of past) unit). inr (fewer (Swap x) past unit brought)) h.known;
}
gone_next k past Send unit sent new h = let a = after_all (first_account k) past in record { list = send_keeps a unit sent h.apart h.list a.hand; apart = send_apart a unit sent h.apart h.list a.hand; known = h.known }
gone_next k past (Join n b) unit sent new h = record { list = h.list; apart = h.apart; known = h.known }
gone_next k past (Full n x) unit sent new h = record { list = h.list; apart = h.apart; known = h.known }
gone_next k past (Refuse n x) unit sent new h = record { list = h.list; apart = h.apart; known = h.known }
gone_next k past (Empty b) unit sent new h = record { list = h.list; apart = h.apart; known = h.known }
gone_next k past (Take b) unit sent new h = record { list = h.list; apart = h.apart; known = h.known }
gone_next k past Pick unit sent new h = record { list = h.list; apart = h.apart; known = h.known }
gone_next k past (Direct n) unit sent new h = record { list = h.list; apart = h.apart; known = h.known }
gone_next k past Back unit sent new h = record { list = h.list; apart = h.apart; known = h.known }
gone_next k past (Stop x y) unit sent new h = record { list = h.list; apart = h.apart; known = h.known }
gone_next k past (Wake x) unit sent new h = record { list = h.list; apart = h.apart; known = h.known }
gone_next k past (Resize x y) unit sent new h = record { list = h.list; apart = h.apart; known = h.known }
gone_next k past (Down x) unit sent new h = record { list = h.list; apart = h.apart; known = h.known }
gone_next k past (Purge c) unit sent new h = record { list = h.list; apart = h.apart; known = h.known }
gone_next k past Up unit sent new h = record { list = h.list; apart = h.apart; known = h.known }

-- the present unit is the latest
after_hand : (a : Account) (o : Option ℕ) → (sent_from_hand o a).unit ≡ a.unit
after_hand a None = refl
after_hand a (Some n) = refl

pub unit_is_latest : (k : Setup) (past : List Event) → (after_all (first_account k) past).unit ≡ latest_unit k.station (units_of past)
unit_is_latest k [] = refl
unit_is_latest k (Swap x ∷ past) = refl
unit_is_latest k (Send ∷ past) = let a = after_all (first_account k) past in after_hand a a.hand ∙ unit_is_latest k past
unit_is_latest k (Join n b ∷ past) = unit_is_latest k past
unit_is_latest k (Full n x ∷ past) = unit_is_latest k past
unit_is_latest k (Refuse n x ∷ past) = unit_is_latest k past
unit_is_latest k (Empty b ∷ past) = unit_is_latest k past
unit_is_latest k (Take b ∷ past) = unit_is_latest k past
unit_is_latest k (Pick ∷ past) = unit_is_latest k past
unit_is_latest k (Direct n ∷ past) = unit_is_latest k past
unit_is_latest k (Back ∷ past) = unit_is_latest k past
unit_is_latest k (Stop x y ∷ past) = unit_is_latest k past
unit_is_latest k (Wake x ∷ past) = unit_is_latest k past
unit_is_latest k (Resize x y ∷ past) = unit_is_latest k past
unit_is_latest k (Down x ∷ past) = unit_is_latest k past
unit_is_latest k (Purge c ∷ past) = unit_is_latest k past
unit_is_latest k (Up ∷ past) = unit_is_latest k past

latest_known : (station : ℕ) (us : List ℕ) → (latest_unit station us ≡ station) ⊎ Contains us (latest_unit station us)
latest_known station [] = inl refl
latest_known station (u ∷ us) = inr (0, omega arith, refl)

unit_known : (k : Setup) (past : List Event) → ((after_all (first_account k) past).unit ≡ k.station) ⊎ Contains (units_of past) (after_all (first_account k) past).unit
unit_known k past = subst (λ (u : ℕ). (u ≡ k.station) ⊎ Contains (units_of past) u) (sym (unit_is_latest k past)) (latest_known k.station (units_of past))

-- THE VIEWS

module _ (k : Setup) (views : List View) (id : ℕ) (v w : View) (here : get_elem? views id ≡ some v) where
  abbrev Knows : List Event → View → Type 0
  Knows past u = (unit : ℕ) (sent : List ℕ) → Contains u.control.gone (unit, sent) → IsGone k past unit sent

  pub gone_same : {past : List Event} → Gone k past views → w.control.gone ≡ v.control.gone → Gone k past (set views id w)
  gone_same {past} g same = record { each = each_same (Knows past) views id w g.each (λ unit sent has. g.each id v here unit sent (subst (λ (xs : List (ℕ × List ℕ)). Contains xs (unit, sent)) same has)) }

  pub gone_step : {past : List Event} (e : Event) → BringsNone k past e → Gone k past views → w.control.gone ≡ v.control.gone → Gone k (e ∷ past) (set views id w)
  gone_step {past} e new g same = record {
    each = each_step (Knows past) (Knows (e ∷ past)) views id w g.each
        (λ unit sent has. gone_next k past e unit sent new (g.each id v here unit sent (subst (λ (xs : List (ℕ × List ℕ)). Contains xs (unit, sent)) same has)))
        (λ j u _ _ y unit sent has. gone_next k past e unit sent new (y unit sent has));
  }

  -- a swap takes the present unit away
  pub gone_swap : {past : List Event} (x unit : ℕ) (sent : List ℕ) → BringsNone k past (Swap x) → Gone k past views → w.control.gone ≡ (unit, sent) ∷ v.control.gone → unit ≡ (after_all (first_account k) past).unit → (after_all (first_account k) past).sent unit ≡ sent
      → Gone k (Swap x ∷ past) (set views id w)
  gone_swap {past} x unit sent new g more is list = record {
    each = each_step (Knows past) (Knows (Swap x ∷ past)) views id w g.each
        (λ u ns has. ⊎_elim
        (λ (same : (unit, sent) ≡ (u, ns)). subst (λ (z : ℕ × List ℕ). IsGone k (Swap x ∷ past) z.0 z.1) same record {
          list = list;
          apart = λ e. ⊎_elim (λ (first : (after_all (first_account k) past).unit ≡ k.station). new.0 (sym first ∙ (sym is ∙ sym e))) (λ (brought : Contains (units_of past) (after_all (first_account k) past).unit). new.1 (subst (Contains (units_of past)) (sym is ∙ sym e) brought)) (unit_known k past);
          known = ⊎_elim (λ (first : (after_all (first_account k) past).unit ≡ k.station). inl (is ∙ first)) (λ (brought : Contains (units_of past) (after_all (first_account k) past).unit). inr (fewer (Swap x) past unit (subst (Contains (units_of past)) (sym is) brought))) (unit_known k past);
        })
        (λ old. gone_next k past (Swap x) u ns new (g.each id v here u ns old))
        (in_front (unit, sent) v.control.gone (u, ns) (subst (λ (xs : List (ℕ × List ℕ)). Contains xs (u, ns)) more has)))
        (λ j u _ _ y unit' sent' has. gone_next k past (Swap x) unit' sent' new (y unit' sent' has));
  }

pub none_gone : (k : Setup) (past : List Event) (unit : ℕ) (sent : List ℕ) → Contains {X = ℕ × List ℕ} [] (unit, sent) → IsGone k past unit sent
none_gone k past unit sent has = absurd (let l = has.1 in omega arith)

pub either_gone : (k : Setup) (past : List Event) (a b : FirstPart) → ((unit : ℕ) (sent : List ℕ) → Contains a.gone (unit, sent) → IsGone k past unit sent) → ((unit : ℕ) (sent : List ℕ) → Contains b.gone (unit, sent) → IsGone k past unit sent)
    → (unit : ℕ) (sent : List ℕ) → Contains (if a.first then a else b).gone (unit, sent) → IsGone k past unit sent
either_gone k past a b f g unit sent = go a.first
  where
    go : (c : Bool) → Contains (if c then a else b).gone (unit, sent) → IsGone k past unit sent
    go true has = f unit sent has
    go false has = g unit sent has
