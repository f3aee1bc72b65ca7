-- Counts of packets by owner and station, along a capture.
use Rattle.std.proofs.Common.{◌≡◌, ◌≢◌, ℕ, zero, suc, ◌+◌, ◌*◌, ◌<◌, ◌≤◌, ◌&&◌, Bool, true, false, cond, arith, List, [], ◌∷◌, length, set, slice_index, nat_eq, count_by, refl, sym, ap, ◌∙◌, add-one, add-zero, zero-add}
use Rattle.std.proofs.lemmas.List.{get_or-set_other}
use Rattle.std.proofs.lemmas.Grind.{get_or-set_at}
use Rattle.std.proofs.Math.ListN.{length-set}
use Rattle.std.proofs.lemmas.List.Sums.{sum_by-append}
use Rattle.std.proofs.lemmas.Bool.{eqb-true, eq-eqb, and_parts, and_from, false≢true}
use Rattle.lq_model.specs.Numbers.{first_numbers}

-- how many of the first n packets have owner i and station j
abbrev pub counted : (ℕ → ℕ) → (ℕ → ℕ) → ℕ → ℕ → ℕ → ℕ
counted owner station i j n = count_by (λ m. nat_eq (owner m) i && nat_eq (station m) j) (first_numbers n)

-- for each owner a row of eight counts, with one for each station
pub record AreCounts (owner station : ℕ → ℕ) (senders n : ℕ) (counts : List ℕ) : Type 0 where
  pub len : length counts ≡ senders * 8
  pub count : (i j : ℕ) → i < senders → j < 8 → slice_index counts (i * 8 + j) ≡ counted owner station i j n

counted_more : (owner station : ℕ → ℕ) (i j n : ℕ) → counted owner station i j (n + 1) ≡ counted owner station i j n + cond (nat_eq (owner n) i && nat_eq (station n) j) 1 0
counted_more owner station i j n =
    let p : ℕ → Bool = λ m. nat_eq (owner m) i && nat_eq (station m) j in
    let split : counted owner station i j (suc n) ≡ counted owner station i j n + (0 + cond (p n) 1 0) = sum_by-append (λ (m : ℕ). cond (p m) 1 0) (first_numbers n) (n ∷ []) in
    let step : counted owner station i j (n + 1) ≡ counted owner station i j (suc n) = ap (counted owner station i j) (add-one n) in
    step ∙ (split ∙ ap (λ (k : ℕ). counted owner station i j n + k) (zero-add (cond (p n) 1 0)))

-- a packet counts once at most
counts-once : (b : Bool) → cond b 1 0 ≤ 1
counts-once true = omega arith
counts-once false = omega arith

pub counted-few : (owner station : ℕ → ℕ) (i j n : ℕ) → counted owner station i j n ≤ n
counted-few owner station i j zero = omega arith
counted-few owner station i j (suc n) =
    let before = counted-few owner station i j n in
    let once = counts-once (nat_eq (owner n) i && nat_eq (station n) j) in
    let more : counted owner station i j (suc n) ≡ counted owner station i j n + cond (nat_eq (owner n) i && nat_eq (station n) j) 1 0 =
    ap (counted owner station i j) (sym (add-one n)) ∙ counted_more owner station i j n in
    omega arith

-- where the packet has this owner and station, and where it has another one
count-more :
    (owner station : ℕ → ℕ) (n i j : ℕ) (counts : List ℕ) (b : Bool) → (nat_eq (owner n) i && nat_eq (station n) j) ≡ b → station n < 8 → j < 8 → owner n * 8 + station n < length counts
    → slice_index counts (i * 8 + j) ≡ counted owner station i j n
    → slice_index (set counts (owner n * 8 + station n) (slice_index counts (owner n * 8 + station n) + 1)) (i * 8 + j) ≡ counted owner station i j n + cond b 1 0
count-more owner station n i j counts true e station_within j_within inside old =
    let both = and_parts (nat_eq (owner n) i) (nat_eq (station n) j) e in
    let same_owner : owner n ≡ i = eqb-true (owner n) i both.0 in
    let same_station : station n ≡ j = eqb-true (station n) j both.1 in
    let here : owner n * 8 + station n ≡ i * 8 + j = omega arith in
    let read : slice_index counts (owner n * 8 + station n) ≡ counted owner station i j n = ap (λ k. slice_index counts k) here ∙ old in
    get_or-set_at counts (owner n * 8 + station n) (i * 8 + j) (slice_index counts (owner n * 8 + station n) + 1) 0 (sym here) inside ∙ ap (λ k. k + 1) read
count-more owner station n i j counts false e station_within j_within inside old =
    let elsewhere : i * 8 + j ≢ owner n * 8 + station n = λ h.
    let same_owner : owner n ≡ i = omega arith in
    let same_station : station n ≡ j = omega arith in
    false≢true (sym e ∙ and_from (nat_eq (owner n) i) (nat_eq (station n) j) (eq-eqb (owner n) i same_owner) (eq-eqb (station n) j same_station)) in
    get_or-set_other counts (owner n * 8 + station n) (i * 8 + j) (slice_index counts (owner n * 8 + station n) + 1) 0 elsewhere ∙ (old ∙ sym (add-zero (counted owner station i j n)))

-- packet n is counted
pub AreCounts-more :
    (owner station : ℕ → ℕ) (senders n : ℕ) (counts : List ℕ) → AreCounts owner station senders n counts → owner n < senders → station n < 8
    → AreCounts owner station senders (n + 1) (set counts (owner n * 8 + station n) (slice_index counts (owner n * 8 + station n) + 1))
AreCounts-more owner station senders n counts are owner_within station_within =
    let inside : owner n * 8 + station n < length counts = omega (arith, are.len) in
    record {
      len = length-set counts (owner n * 8 + station n) (slice_index counts (owner n * 8 + station n) + 1) ∙ are.len;
      count = λ i j i_within j_within.
          count-more owner station n i j counts (nat_eq (owner n) i && nat_eq (station n) j) refl station_within j_within inside (are.count i j i_within j_within)
          ∙ sym (counted_more owner station i j n);
    }
