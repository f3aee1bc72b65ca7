-- The windows of the key at a byte's bits, and Toeplitz's hash over one byte more.
use Rattle.std.proofs.Common.{◌≡◌, ◌≢◌, ℕ, zero, suc, ◌+◌, ◌-◌, ◌*◌, ◌/◌, ◌%◌, ◌^◌, ◌<◌, ◌≤◌, Bool, true, false, cond, nat_eq, List, [], ◌∷◌, ◌++◌, length, get_or, refl, sym, ap, ap₂, ◌∙◌, arith, add-one}
use Rattle.std.specs.Prelude.{bit_xor}
use Rattle.std.specs.Int.{w64, from_be_bytes}
use Rattle.std.specs.Int.Bits.{xor_zero_r}
use Rattle.std.proofs.lemmas.Bool.{agree_below_at, eq-eqb, eqb-true, ne_eqb}
use Rattle.std.proofs.Math.Seq.{get_or-append_seam}
use Rattle.std.proofs.lemmas.List.{get_or_append_left}
use Rattle.std.proofs.lemmas.Nat.{field_of, mod-pow-add, mod_below, mod_low, shr-shr}
use Rattle.lq_model.specs.Flow.{hash_key, has_bit, key_window, windows_of}

-- THE KEY

abbrev key_bytes : List ℕ
key_bytes =
    0x6d ∷ 0x5a ∷ 0x56 ∷ 0xda ∷ 0x25 ∷ 0x5b ∷ 0x0e ∷ 0xc2 ∷ 0x41 ∷ 0x67 ∷ 0x25 ∷ 0x3d ∷ 0x43 ∷ 0xa3 ∷ 0x8f ∷ 0xb0
    ∷ 0xd0 ∷ 0xca ∷ 0x2b ∷ 0xcb ∷ 0xae ∷ 0x7b ∷ 0x30 ∷ 0xb4 ∷ 0x77 ∷ 0xcb ∷ 0x2d ∷ 0xa3 ∷ 0x80 ∷ 0x30 ∷ 0xf2 ∷ 0x0c
    ∷ 0x6a ∷ 0x42 ∷ 0xb7 ∷ 0x3b ∷ 0xbe ∷ 0xac ∷ 0x01 ∷ 0xfa ∷ []

-- five bytes of it
abbrev five_from : ℕ → ℕ
five_from place =
    from_be_bytes w64 (0 ∷ 0 ∷ 0 ∷ get_or key_bytes place 0 ∷ get_or key_bytes (place + 1) 0 ∷ get_or key_bytes (place + 2) 0 ∷ get_or key_bytes (place + 3) 0 ∷ get_or key_bytes (place + 4) 0 ∷ [])

abbrev pub bits_from : ℕ → ℕ
bits_from place = hash_key / 2 ^ (280 - 8 * place) % 2 ^ 40

-- by computing at each place
pub five_are : (place : ℕ) → place < 36 → five_from place ≡ bits_from place
five_are place below =
    eqb-true (five_from place) (bits_from place) (agree_below_at (λ p. nat_eq (five_from p) (bits_from p)) (λ _. true) 36 place refl below)

low-bits : (n more : ℕ) → n % 2 ^ (32 + more) % 2 ^ 32 ≡ n % 2 ^ 32
low-bits n more =
    ap (λ k. n % 2 ^ k % 2 ^ 32) (let turned : 32 + more ≡ more + 32 = omega arith in turned)
    ∙ ap (λ k. k % 2 ^ 32) (mod-pow-add n more 32)
    ∙ mod_low (n / 2 ^ 32 % 2 ^ more) 32 (n % 2 ^ 32) (mod_below n (2 ^ 32) (omega arith))

-- 32 of the 40 bits that begin at a place are 32 bits of the whole
window-of : (key place down bit : ℕ) → down + bit ≡ 8 → key / 2 ^ place % 2 ^ 40 / 2 ^ down % 2 ^ 32 ≡ key / 2 ^ (place + down) % 2 ^ 32
window-of key place down bit eight =
    ap (λ k. key / 2 ^ place % 2 ^ k / 2 ^ down % 2 ^ 32) (let parts : 40 ≡ 32 + bit + down = omega arith in parts)
    ∙ ap (λ k. k % 2 ^ 32) (field_of (key / 2 ^ place) (32 + bit) down)
    ∙ low-bits (key / 2 ^ place / 2 ^ down) bit
    ∙ ap (λ k. k % 2 ^ 32) (shr-shr key place down)

-- the window at a bit of the byte at a place
pub window-at : (place bit : ℕ) → place < 36 → bit < 8 → key_window (8 * place + bit) ≡ bits_from place / 2 ^ (8 - bit) % 2 ^ 32
window-at place bit few is_bit =
    ap (λ k. hash_key / 2 ^ k % 2 ^ 32) (let same : 288 - (8 * place + bit) ≡ 280 - 8 * place + (8 - bit) = omega arith in same)
    ∙ sym (window-of hash_key (280 - 8 * place) (8 - bit) bit (omega arith))

-- BITS

pub bit-at : (bytes : List ℕ) (byte bit : ℕ) → bit < 8 → has_bit (bytes ++ byte ∷ []) (8 * length bytes + bit) ≡ nat_eq (byte / 2 ^ (7 - bit) % 2) 1
bit-at bytes byte bit is_bit =
    ap₂ (λ (b s : ℕ). nat_eq (b / 2 ^ (7 - s) % 2) 1)
    (ap (λ k. get_or (bytes ++ byte ∷ []) k 0) (let here : (8 * length bytes + bit) / 8 ≡ length bytes = omega arith in here) ∙ get_or-append_seam bytes byte [] 0)
    (let rest : (8 * length bytes + bit) % 8 ≡ bit = omega arith in rest)

-- the bits of the bytes in front
front-bit : (bytes more : List ℕ) (i : ℕ) → i < 8 * length bytes → has_bit (bytes ++ more) i ≡ has_bit bytes i
front-bit bytes more i within = ap (λ (b : ℕ). nat_eq (b / 2 ^ (7 - i % 8) % 2) 1) (get_or_append_left bytes more 0 (i / 8) (omega arith))

pub front-windows : (bytes more : List ℕ) (n : ℕ) → n ≤ 8 * length bytes → windows_of (bytes ++ more) n ≡ windows_of bytes n
front-windows bytes more zero within = refl
front-windows bytes more (suc n) within =
    ap₂ (λ (hash : ℕ) (b : Bool). bit_xor hash (cond b (key_window n) 0)) (front-windows bytes more n (omega arith)) (front-bit bytes more n (omega arith))

-- one bit more
pub windows-more : (bytes : List ℕ) (n : ℕ) → windows_of bytes (n + 1) ≡ bit_xor (windows_of bytes n) (cond (has_bit bytes n) (key_window n) 0)
windows-more bytes n = ap (windows_of bytes) (add-one n)

-- A BYTE MORE
--
-- `hash` is that of all bits before this one, and `key` the key's 40 bits from the byte's place on.
module _ (bytes : List ℕ) (byte place key hash bit : ℕ) (long : length bytes ≡ place) (few : place < 36) (is_bit : bit < 8) (key_is : key ≡ bits_from place)
    (before : hash ≡ windows_of (bytes ++ byte ∷ []) (8 * place + bit)) where
  after-bit : (is_1 : Bool) → nat_eq (byte / 2 ^ (7 - bit) % 2) 1 ≡ is_1
      → windows_of (bytes ++ byte ∷ []) (8 * place + (bit + 1)) ≡ bit_xor hash (cond is_1 (key / 2 ^ (8 - bit) % 2 ^ 32) 0)
  after-bit is_1 test =
      ap (windows_of (bytes ++ byte ∷ [])) (let next : 8 * place + (bit + 1) ≡ 8 * place + bit + 1 = omega arith in next)
      ∙ windows-more (bytes ++ byte ∷ []) (8 * place + bit)
      ∙ ap₂ (λ (h : ℕ) (b : Bool). bit_xor h (cond b (key_window (8 * place + bit)) 0)) (sym before)
      (ap (λ k. has_bit (bytes ++ byte ∷ []) (8 * k + bit)) (sym long) ∙ bit-at bytes byte bit is_bit ∙ test)
      ∙ ap (λ k. bit_xor hash (cond is_1 k 0)) (window-at place bit few is_bit ∙ ap (λ k. k / 2 ^ (8 - bit) % 2 ^ 32) (sym key_is))

  -- where the bit is 1, and where it is 0
  pub one-more : byte / 2 ^ (7 - bit) % 2 ≡ 1 → windows_of (bytes ++ byte ∷ []) (8 * place + (bit + 1)) ≡ bit_xor hash (key / 2 ^ (8 - bit) % 2 ^ 32)
  one-more is = after-bit true (eq-eqb (byte / 2 ^ (7 - bit) % 2) 1 is)

  pub zero-more : byte / 2 ^ (7 - bit) % 2 ≢ 1 → windows_of (bytes ++ byte ∷ []) (8 * place + (bit + 1)) ≡ hash
  zero-more is_not = after-bit false (ne_eqb (byte / 2 ^ (7 - bit) % 2) 1 is_not) ∙ xor_zero_r hash
