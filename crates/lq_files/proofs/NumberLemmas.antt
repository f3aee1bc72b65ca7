-- The numbers of `gen` and `tap`, as std parses them.
use Rattle.std.proofs.Common.{◌≡◌, ◌≤◌, ◌<◌, ◌^◌, ◌&&◌, ℕ, List, length, Option, Some, None, Result, Err, true, false, if◌then◌else◌, nat_le, nat_lt, refl, inl, inr, subst, arith, rules}
use Rattle.std.specs.Char.{is_ascii_digit}
use Rattle.std.specs.List.{list_all}
use Rattle.std.specs.Result.{OkIff}
use Rattle.std.specs.Str.Parse.{ParsesUnsigned, digits_value}
use Rattle.std.proofs.lemmas.Bool.{ltb-true}
use Rattle.std.proofs.lemmas.Bool.Decides.{leb_tells}
use Rattle.std.proofs.lemmas.Str.Parse.{IsNumeralModel, numerals_by_value, parse_digits}
use Rattle.clap.proofs.WalkLemmas.{both}
use Rattle.lq_run_core.specs.Schedule.{is_number, number_between}

own : IsNumeralModel (λ ds. list_all is_ascii_digit ds ≡ true) (digits_value 10)
own = numerals_by_value (λ ds. list_all is_ascii_digit ds ≡ true) (search rules)

-- a number has digits, and nothing else
are_digits : (word : List ℕ) → is_number word ≡ true → (nat_lt 0 (length word) ≡ true) × (list_all is_ascii_digit word ≡ true)
are_digits word is = both (nat_lt 0 (length word)) (list_all is_ascii_digit word) (both (nat_lt 0 (length word) && list_all is_ascii_digit word) _ is).0

is_above : (least most n : ℕ) → nat_le n most ≡ false → ◌≡◌ {A = Option ℕ} None (if nat_le least n && nat_le n most then Some n else None)
is_above least most n above = elim (leb_tells least n) [ inl at ↦ rw (at.0, above) refl | inr under ↦ rw under.0 refl ]

-- a number that isn't read is above them
pub number_not_read :
    {E : Type 0} → (word : List ℕ) (least most : ℕ) (r : Result ℕ E) (e : E) → ParsesUnsigned 32 10 word r → is_number word ≡ true → r ≡ Err e → most < 2 ^ 32
    → None ≡ number_between least most word
number_not_read word least most r e parses is read small =
    let digits = are_digits word is in
    let parsed : OkIff r ((0 < length word) × (digits_value 10 word < 2 ^ 32)) (digits_value 10 word) = parse_digits own 32 word r parses digits.1 in
    let fails = subst (λ s. OkIff s ((0 < length word) × (digits_value 10 word < 2 ^ 32)) (digits_value 10 word)) read parsed in
    elim (leb_tells (digits_value 10 word) most) [
      | inl fits ↦
          let few : digits_value 10 word ≤ most = fits.1 in
          let some : 0 < length word = ltb-true 0 (length word) digits.0 in
          absurd (fails (some, (let below : digits_value 10 word < 2 ^ 32 = omega (few, small, arith) in below)))
      | inr above ↦ rw is (is_above least most (digits_value 10 word) above.0)
    ]
