-- A number whose last digits are written behind others that are kept.
use Rattle.std.proofs.Common.{◌≡◌, ℕ, zero, suc, ◌+◌, ◌-◌, ◌*◌, ◌/◌, ◌%◌, ◌^◌, ◌<◌, ◌≤◌, List, [], ◌∷◌, ◌++◌, length, drop, take, refl, sym, ap, ◌∙◌, arith, append_assoc, length-append, length-drop, drop-drop}
use Rattle.std.proofs.lemmas.Fmt.{decimal_step, decimal_digit, length-decimal-le}
use Rattle.std.proofs.lemmas.List.{append-nil, drop-append-le, length-take-le}
use Rattle.std.proofs.Math.Seq.{drop-append-add}
use Rattle.std.specs.Fmt.{decimal}
use borrow.Rule.Slice.PartMut.{put_mid}

-- so many last digits of a number
pub last-digits : ℕ → ℕ → List ℕ
last-digits zero n = []
last-digits (suc k) n = last-digits k (n / 10) ++ (48 + n % 10) ∷ []

-- a power of ten, as a product
pub power : ℕ → ℕ
power zero = 1
power (suc k) = power k * 10

length-last : (k n : ℕ) → length (last-digits k n) ≡ k
unfolding last-digits
length-last zero n = refl
length-last (suc k) n = length-append (last-digits k (n / 10)) ((48 + n % 10) ∷ []) ∙ (let h = length-last k (n / 10) in omega arith)

tenth : (a b : ℕ) → (a * 10 + b) / 10 ≡ a + b / 10
tenth a b = omega arith

last-of : (a b : ℕ) → (a * 10 + b) % 10 ≡ b % 10
last-of a b = omega arith

some-more : (units p ones : ℕ) → 0 < units → 0 < p → 10 ≤ units * (p * 10) + ones
some-more units p ones some pos = grind arith

-- a number of units and ones is written as the units and then the ones
pub decimal-last : (k units ones : ℕ) → 0 < units → 0 < power k → ones < power k → units * power k + ones < 2 ^ 64 → decimal (units * power k + ones) ≡ decimal units ++ last-digits k ones
unfolding last-digits power
decimal-last zero units ones some pos few fits = let is : units * 1 + ones ≡ units = omega arith in ap decimal is ∙ sym (append-nil (decimal units))
decimal-last (suc k) units ones some pos few fits =
    let p = power k in let n = units * (p * 10) + ones in
    let whole : n ≡ units * p * 10 + ones = omega arith in
    let front : n / 10 ≡ units * p + ones / 10 = ap (λ (m : ℕ). m / 10) whole ∙ tenth (units * p) ones in
    let digit : n % 10 ≡ ones % 10 = ap (λ (m : ℕ). m % 10) whole ∙ last-of (units * p) ones in
    let before = decimal-last k units (ones / 10) some (omega arith) (omega arith) (omega arith) in
    decimal_step n (some-more units p ones some (omega arith)) fits
    ∙ (ap (λ (m : ℕ). decimal m ++ (48 + n % 10) ∷ []) front
    ∙ (ap (λ (d : ℕ). decimal (units * p + ones / 10) ++ (48 + d) ∷ []) digit
    ∙ (ap (λ (l : List ℕ). l ++ (48 + ones % 10) ∷ []) before
    ∙ append_assoc (decimal units) (last-digits k (ones / 10)) ((48 + ones % 10) ∷ []))))

-- the ones with a unit before them, of which only they are kept
ones-kept : (line0 line1 : List ℕ) (ones at end : ℕ) → ones < 10000000 → at + length (decimal (10000000 + ones)) ≡ end → drop at line1 ≡ decimal (10000000 + ones) ++ drop end line0
    → drop (end - 7) line1 ≡ last-digits 7 ones ++ drop end line0
unfolding power
ones-kept line0 line1 ones at end few long written =
    let top : decimal (10000000 + ones) ≡ 49 ∷ last-digits 7 ones = decimal-last 7 1 ones (omega arith) (omega arith) few (omega arith) ∙ ap (λ (l : List ℕ). l ++ last-digits 7 ones) (decimal_digit 1 (omega arith)) in
    let eight : length (decimal (10000000 + ones)) ≡ 8 = ap length top ∙ ap suc (length-last 7 ones) in
    let place : end - 7 ≡ at + 1 = omega arith in
    ap (λ (k : ℕ). drop k line1) place
    ∙ (sym (drop-drop 1 at line1)
    ∙ (ap (drop 1) (written ∙ ap (λ (l : List ℕ). l ++ drop end line0) top)))

-- the units that are kept are laid before the ones
pub ones-written : (line0 line1 digits : List ℕ) (units ones at start end : ℕ) → 0 < units → ones < 10000000 → units * 10000000 + ones < 2 ^ 64
    → at + length (decimal (10000000 + ones)) ≡ end → drop at line1 ≡ decimal (10000000 + ones) ++ drop end line0
    → length digits ≡ 20 → start ≤ 20 → drop start digits ≡ decimal units → 27 ≤ end → end ≤ length line1
    → drop (end - 7 - (20 - start)) (take (end - 27) line1 ++ (digits ++ drop (end - 7) line1)) ≡ decimal (units * 10000000 + ones) ++ drop end line0
unfolding power
ones-written line0 line1 digits units ones at start end some few fits long written room inside laid far there =
    let front = take (end - 27) line1 in let back = drop (end - 7) line1 in
    let before : length front ≡ end - 27 = length-take-le (end - 27) line1 (omega arith) in
    let place : end - 7 - (20 - start) ≡ length front + start = omega arith in
    let within : start ≤ length digits = omega arith in
    ap (λ (k : ℕ). drop k (front ++ (digits ++ back))) place
    ∙ (drop-append-add front (digits ++ back) start
    ∙ (drop-append-le start digits back within
    ∙ (ap (λ (l : List ℕ). l ++ back) laid
    ∙ (ap (λ (l : List ℕ). decimal units ++ l) (ones-kept line0 line1 ones at end few long written)
    ∙ (sym (append_assoc (decimal units) (last-digits 7 ones) (drop end line0))
    ∙ ap (λ (l : List ℕ). l ++ drop end line0) (sym (decimal-last 7 units ones some (omega arith) few fits)))))))

-- how long a number is
pub long-number : (n : ℕ) → n < 2 ^ 64 → length (decimal n) ≤ 20
long-number n h = length-decimal-le 20 n (omega arith) (let few : n < 10 ^ 20 = omega arith in few) h

-- and units of a number
pub long-units : (units start : ℕ) (digits : List ℕ) → units * 10000000 < 2 ^ 64 → length digits ≡ 20 → start ≤ 20 → drop start digits ≡ decimal units → 20 ≤ start + 13
long-units units start digits h room inside laid =
    let few : units < 10 ^ 13 = omega arith in let long = length-decimal-le 13 units (omega arith) few (omega arith) in
    let is : length digits - start ≡ length (decimal units) = sym (length-drop start digits) ∙ ap length laid in omega arith

-- how long what is kept is, which was copied over a part of a line
pub long-kept : (line new digits : List ℕ) (end : ℕ) → 27 ≤ end → end ≤ length line → length new ≡ length (take (end - 7 - (end - 7 - 20)) (drop (end - 7 - 20) line)) → new ≡ digits → length digits ≡ 20
long-kept line new digits end far there long is =
    let k = end - 7 - (end - 7 - 20) in let part = drop (end - 7 - 20) line in let twenty : k ≡ 20 = omega arith in
    let room : k ≤ length part = simp length-drop (omega arith) in
    sym (ap length is) ∙ (long ∙ (length-take-le k part room ∙ twenty))

-- the same as they are copied
pub ones-copied : (line0 line1 new digits : List ℕ) (units from ones at start end : ℕ) → 0 < units → ones < 10000000 → from ≡ units * 10000000 → from + ones < 2 ^ 64
    → at + length (decimal (10000000 + ones)) ≡ end → drop at line1 ≡ decimal (10000000 + ones) ++ drop end line0
    → start ≤ 20 → drop start digits ≡ decimal units → 27 ≤ end → end ≤ length line1 → new ≡ digits → length digits ≡ 20
    → drop (end - 7 - (20 - start)) (put_mid (end - 7 - 20) (end - 7 - (end - 7 - 20)) line1 new) ≡ decimal (from + ones) ++ drop end line0
ones-copied line0 line1 new digits units from ones at start end some few whole fits long written inside laid far there same room =
    let a : end - 7 - 20 ≡ end - 27 = omega arith in
    let all : end - 7 - 20 + (end - 7 - (end - 7 - 20)) ≡ end - 7 = omega arith in
    let rest : drop (end - 7 - (end - 7 - 20)) (drop (end - 7 - 20) line1) ≡ drop (end - 7) line1 = drop-drop (end - 7 - (end - 7 - 20)) (end - 7 - 20) line1 ∙ ap (λ (k : ℕ). drop k line1) all in
    let is : put_mid (end - 7 - 20) (end - 7 - (end - 7 - 20)) line1 new ≡ take (end - 27) line1 ++ (digits ++ drop (end - 7) line1) =
    ap (λ (k : ℕ). take k line1 ++ (new ++ drop (end - 7 - (end - 7 - 20)) (drop (end - 7 - 20) line1))) a
    ∙ (ap (λ (l : List ℕ). take (end - 27) line1 ++ (l ++ drop (end - 7 - (end - 7 - 20)) (drop (end - 7 - 20) line1))) same
    ∙ ap (λ (l : List ℕ). take (end - 27) line1 ++ (digits ++ l)) rest) in
    let small : units * 10000000 + ones < 2 ^ 64 = omega arith in
    ap (drop (end - 7 - (20 - start))) is
    ∙ (ones-written line0 line1 digits units ones at start end some few small long written room inside laid far there
    ∙ ap (λ (n : ℕ). decimal (n + ones) ++ drop end line0) (sym whole))
