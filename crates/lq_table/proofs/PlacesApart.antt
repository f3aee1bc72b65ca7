-- Where the words lie: each at a place of its own, which is one of the table's.
use Rattle.std.proofs.Common.{◌≡◌, ℕ, ◌+◌, ◌*◌, ◌-◌, ◌<◌, ◌≤◌, Bool, length, sym, ap, ◌∙◌, arith}
use Rattle.std.specs.Prelude.{if◌then◌else◌}
use Rattle.std.proofs.lemmas.Bool.{lt-ltb, le-ltb}
use mathlib.Core.Logic.{dite}
use native.Mathlib.Decide.{dec_le}
use Rattle.lq_table.specs.Views.{Setup}
use Rattle.lq_table.specs.Places.{line_of, place, slot_word, fates_offset, stops_offset, HavePlaces}

module _ (senders : ℕ) where
  abbrev pick : ℕ → Bool → ℕ
  pick n b = if b then line_of n else line_of (9 + senders) + (n - (9 + senders))

  first : (n : ℕ) → n < 9 + senders → place senders n ≡ line_of n
  first n h = ap (pick n) (lt-ltb n (9 + senders) h)

  behind : (n : ℕ) → 9 + senders ≤ n → place senders n ≡ line_of (9 + senders) + (n - (9 + senders))
  behind n h = ap (pick n) (le-ltb n (9 + senders) h)

  apart : (m n : ℕ) → place senders m ≡ place senders n → m ≡ n
  apart m n e = dite (dec_le (m + 1) (9 + senders))
      (λ low. let x = first m (omega arith) in dite (dec_le (n + 1) (9 + senders))
      (λ low'. let y = first n (omega arith) in let z : line_of m ≡ line_of n = sym x ∙ (e ∙ y) in omega arith)
      (λ high'. let y = behind n (omega arith) in let z : line_of m ≡ line_of (9 + senders) + (n - (9 + senders)) = sym x ∙ (e ∙ y) in absurd (omega arith)))
      (λ high. let x = behind m (omega arith) in dite (dec_le (n + 1) (9 + senders))
      (λ low'. let y = first n (omega arith) in let z : line_of (9 + senders) + (m - (9 + senders)) ≡ line_of n = sym x ∙ (e ∙ y) in absurd (omega arith))
      (λ high'. let y = behind n (omega arith) in let z : line_of (9 + senders) + (m - (9 + senders)) ≡ line_of (9 + senders) + (n - (9 + senders)) = sym x ∙ (e ∙ y) in omega arith))

pub places : (k : Setup) → HavePlaces k
places k = record {
  lines = first k.senders;
  slots = λ b i. behind k.senders (9 + k.senders + b * k.max_len + i) (omega arith) ∙ (let e : line_of (9 + k.senders) + (9 + k.senders + b * k.max_len + i - (9 + k.senders)) ≡ slot_word k b i = omega arith in e);
  fates = λ n. behind k.senders (9 + k.senders + 3 * k.max_len + n) (omega arith) ∙ (let e : line_of (9 + k.senders) + (9 + k.senders + 3 * k.max_len + n - (9 + k.senders)) ≡ fates_offset k + n = omega arith in e);
  stops = λ queue. behind k.senders (9 + k.senders + 3 * k.max_len + length k.infos + queue) (omega arith) ∙ (let e : line_of (9 + k.senders) + (9 + k.senders + 3 * k.max_len + length k.infos + queue - (9 + k.senders)) ≡ stops_offset k + queue = omega arith in e);
  apart = apart k.senders;
  within = λ n h. dite (dec_le (n + 1) (9 + k.senders))
      (λ low. let x = first k.senders n (omega arith) in omega arith)
      (λ high. let x = behind k.senders n (omega arith) in omega arith);
}
