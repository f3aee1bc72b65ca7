-- What a write of one word does to the words by name.
use Rattle.std.proofs.Common.{◌≡◌, ℕ, ◌+◌, ◌<◌, List, length, set, get_or, sym, arith, get_or-set_other, get_or-set_same}
use Rattle.std.proofs.lemmas.List.{drop-set-lt, drop-set-add, get_or-drop}
use lib.Seq.{set-get_or}
use Rattle.lq_tap.specs.Made.{slot_word}
use Rattle.lq_tap.specs.Rule.{Words, words_of}

module _ (ws : List ℕ) (x : ℕ) where
  abbrev W : Words
  W = words_of ws

  pub set_producer : 8 < length ws → words_of (set ws 8 x) ≡ record W { producer = x }
  set_producer h = let a = get_or-set_same ws 8 x 0 h in let b = get_or-set_other ws 8 16 x 0 (λ e. omega arith) in let c = get_or-set_other ws 8 24 x 0 (λ e. omega arith) in let d = drop-set-lt 32 ws 8 x (omega arith) in
      λ i. record { producer = a i; consumer = b i; ended = c i; slots = d i }

  pub set_consumer : 16 < length ws → words_of (set ws 16 x) ≡ record W { consumer = x }
  set_consumer h = let a = get_or-set_other ws 16 8 x 0 (λ e. omega arith) in let b = get_or-set_same ws 16 x 0 h in let c = get_or-set_other ws 16 24 x 0 (λ e. omega arith) in let d = drop-set-lt 32 ws 16 x (omega arith) in
      λ i. record { producer = a i; consumer = b i; ended = c i; slots = d i }

  pub set_ended : 24 < length ws → words_of (set ws 24 x) ≡ record W { ended = x }
  set_ended h = let a = get_or-set_other ws 24 8 x 0 (λ e. omega arith) in let b = get_or-set_other ws 24 16 x 0 (λ e. omega arith) in let c = get_or-set_same ws 24 x 0 h in let d = drop-set-lt 32 ws 24 x (omega arith) in
      λ i. record { producer = a i; consumer = b i; ended = c i; slots = d i }

  pub set_slot : (j : ℕ) → words_of (set ws (slot_word j) x) ≡ record W { slots = set W.slots j x }
  set_slot j = let a = get_or-set_other ws (32 + j) 8 x 0 (λ e. omega arith) in let b = get_or-set_other ws (32 + j) 16 x 0 (λ e. omega arith) in let c = get_or-set_other ws (32 + j) 24 x 0 (λ e. omega arith) in let d = drop-set-add 32 ws j x in
      λ i. record { producer = a i; consumer = b i; ended = c i; slots = d i }

-- a load changes nothing
pub set_back : (ws : List ℕ) (i : ℕ) → set ws i (get_or ws i 0) ≡ ws
set_back ws i = set-get_or ws i 0

pub slot_of : (ws : List ℕ) (j : ℕ) → get_or ws (slot_word j) 0 ≡ get_or (words_of ws).slots j 0
slot_of ws j = sym (get_or-drop 32 ws j 0)
