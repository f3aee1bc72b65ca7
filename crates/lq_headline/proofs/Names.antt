-- The outputs of a run have different names.
use Rattle.std.proofs.Common.{◌≡◌, ◌<◌, ◌+◌, ◌^◌, ◌%◌, ◌++◌, ◌∷◌, [], ℕ, List, refl, ap, ◌∙◌, arith}
use Rattle.std.specs.Fmt.{decimal}
use Rattle.std.specs.Prelude.{codes}
use Rattle.std.proofs.lemmas.Fmt.{decimal_by_steps, decimal_injective}
use Rattle.std.proofs.lemmas.List.{append_cancel_left, append_cancel_right}
use Rattle.lq_files.specs.Groups.{group_capture_name}
use Rattle.lq_files.specs.RunFiles.{capture_name, fates_name, times_name}

-- a number begins with a digit
record BeginsWithDigit (text : List ℕ) : Type 0 where
  digit : ℕ
  rest : List ℕ
  below : digit < 10
  is : text ≡ (48 + digit) ∷ rest

begins : (n : ℕ) → n < 2 ^ 64 → BeginsWithDigit (decimal n)
begins n lt = decimal_by_steps (λ n text. BeginsWithDigit text)
    (λ n below. record { digit = n; rest = []; below = below; is = refl })
    (λ n ds ten front. record { digit = front.digit; rest = front.rest ++ (48 + n % 10) ∷ []; below = front.below; is = ap (λ xs. xs ++ (48 + n % 10) ∷ []) front.is })
    n lt

heads : (x y : ℕ) (xs ys : List ℕ) → x ∷ xs ≡ y ∷ ys → x ≡ y
heads x y xs ys e = cc

tails : (x y : ℕ) (xs ys : List ℕ) → x ∷ xs ≡ y ∷ ys → xs ≡ ys
tails x y xs ys e = cc

-- a capture's name is that of one unit
pub one_unit : (out : List ℕ) (u v : ℕ) → u < 2 ^ 64 → v < 2 ^ 64 → capture_name out u ≡ capture_name out v → u ≡ v
one_unit out u v u_small v_small same =
    let after : codes "." ++ (decimal u ++ codes ".pcap") ≡ codes "." ++ (decimal v ++ codes ".pcap") = append_cancel_left out _ _ same in
    let behind : decimal u ++ codes ".pcap" ≡ decimal v ++ codes ".pcap" = append_cancel_left (codes ".") _ _ after in
    decimal_injective u v u_small v_small (append_cancel_right (decimal u) (decimal v) (codes ".pcap") behind)

-- and of no multi-queue root
pub no_group : (out : List ℕ) (u j : ℕ) → u < 2 ^ 64 → group_capture_name out j ≡ capture_name out u → ⊥
no_group out u j u_small same =
    let first = begins u u_small in
    let below = first.below in
    let after : codes ".mq" ++ (decimal j ++ codes ".pcap") ≡ codes "." ++ (decimal u ++ codes ".pcap") = append_cancel_left out _ _ same in
    let there : codes ".mq" ++ (decimal j ++ codes ".pcap") ≡ codes "." ++ (((48 + first.digit) ∷ first.rest) ++ codes ".pcap") = after ∙ ap (λ text. codes "." ++ (text ++ codes ".pcap")) first.is in
    let at : 109 ≡ 48 + first.digit = heads _ _ _ _ (tails _ _ _ _ there) in
    absurd (omega arith)

-- the name of the fates is none of them
pub no_fates : (out : List ℕ) (u : ℕ) → u < 2 ^ 64 → fates_name out ≡ capture_name out u → ⊥
no_fates out u u_small same =
    let first = begins u u_small in
    let below = first.below in
    let after : codes ".fates" ≡ codes "." ++ (decimal u ++ codes ".pcap") = append_cancel_left out _ _ same in
    let there : codes ".fates" ≡ codes "." ++ (((48 + first.digit) ∷ first.rest) ++ codes ".pcap") = after ∙ ap (λ text. codes "." ++ (text ++ codes ".pcap")) first.is in
    let at : 102 ≡ 48 + first.digit = heads _ _ _ _ (tails _ _ _ _ there) in
    absurd (omega arith)

-- nor a multi-queue root's
pub no_root_fates : (out : List ℕ) (j : ℕ) → group_capture_name out j ≡ fates_name out → ⊥
no_root_fates out j same =
    let after : codes ".mq" ++ (decimal j ++ codes ".pcap") ≡ codes ".fates" = append_cancel_left out _ _ same in
    let at : ◌≡◌ {A = ℕ} 109 102 = heads 109 102 (113 ∷ (decimal j ++ codes ".pcap")) (97 ∷ 116 ∷ 101 ∷ 115 ∷ []) (tails 46 46 _ _ after) in
    absurd (omega arith)

-- that of the times is none of them
pub no_times : (out : List ℕ) (u : ℕ) → u < 2 ^ 64 → times_name out ≡ capture_name out u → ⊥
no_times out u u_small same =
    let first = begins u u_small in
    let below = first.below in
    let after : codes ".times" ≡ codes "." ++ (decimal u ++ codes ".pcap") = append_cancel_left out _ _ same in
    let there : codes ".times" ≡ codes "." ++ (((48 + first.digit) ∷ first.rest) ++ codes ".pcap") = after ∙ ap (λ text. codes "." ++ (text ++ codes ".pcap")) first.is in
    let at : 116 ≡ 48 + first.digit = heads _ _ _ _ (tails _ _ _ _ there) in
    absurd (omega arith)

pub no_times_fates : (out : List ℕ) → times_name out ≡ fates_name out → ⊥
no_times_fates out same =
    let after : codes ".times" ≡ codes ".fates" = append_cancel_left out _ _ same in
    let at : ◌≡◌ {A = ℕ} 116 102 = heads 116 102 (105 ∷ 109 ∷ 101 ∷ 115 ∷ []) (97 ∷ 116 ∷ 101 ∷ 115 ∷ []) (tails 46 46 _ _ after) in
    absurd (omega arith)
