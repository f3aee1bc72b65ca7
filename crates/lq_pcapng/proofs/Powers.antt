-- Powers of two and ten within 128 bits.
use Rattle.std.proofs.Common.{◌≡◌, ◌<◌, ◌≤◌, ◌*◌, ◌/◌, ◌^◌, ℕ, sym, arith}
use Rattle.std.proofs.Math.Nat.{div-eq_of_lt, one-le-pow, pow-le-pow_right}
use Rattle.std.proofs.lemmas.Bool.{lt-ltb}
use Rattle.std.proofs.lemmas.Nat.{pow_below}
use Rattle.lq_pcapng.specs.Pcapng.{units_by}

pub two_fits : (n : ℕ) → n < 128 → 2 ^ n < 2 ^ 128
two_fits n below = pow_below n 128 below

pub ten_fits : (n : ℕ) → n ≤ 28 → 10 ^ n < 2 ^ 128
ten_fits n most = let p : 10 ^ n ≤ 10 ^ 28 = pow-le-pow_right {n = 10} (omega arith) {i = n} {j = 28} most in omega arith

pub ten_some : (n : ℕ) → 0 < 10 ^ n
ten_some n = let p : 1 ≤ 10 ^ n = one-le-pow n 10 (omega arith) in omega arith

-- a number that is less than what it is divided by
pub no_time : (units byte : ℕ) → units < 2 ^ 64 → byte < 128 → 28 < byte → 0 ≡ units * 1000000000 / units_by byte
no_time units byte fits ten above =
    let p : 10 ^ 29 ≤ 10 ^ byte = pow-le-pow_right {n = 10} (omega arith) {i = 29} {j = byte} above in
    let small : units * 1000000000 < 10 ^ byte = omega arith in
    rw (lt-ltb byte 128 ten) (sym (div-eq_of_lt small))
