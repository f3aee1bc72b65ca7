-- A fate is decided, and a word is stored.
use Rattle.std.proofs.Common.{◌≡◌, ◌≢◌, ℕ, zero, suc, ◌+◌, ◌<◌, ◌≤◌, List, set, get_or, refl, sym, ap, ◌∙◌, subst, ⊎_elim, arith, Option, Some, None, Contains, length-set, get_or-set_same, get_or-set_other}
use Rattle.std.proofs.lemmas.Bool.{cases_eq}
use Rattle.lq_model.specs.declared.fate.Fate.{Fate}
use Rattle.lq_model.specs.Words.{word_of}
use Rattle.lq_band_laws.specs.Times.{times}
use Rattle.lq_band_laws.proofs.Times.{times_in, in_times, times_none}
use Rattle.lq_band_laws.specs.Stored.{word_or, FateWords}

-- THE WORDS

module _ (count : ℕ) (words : List ℕ) (u : ℕ → ℕ) (fates : ℕ → Option Fate) (p : FateWords count words u fates) where
  pub stored_as : (u' : ℕ → ℕ) (fates' : ℕ → Option Fate) → ((n : ℕ) → u' n ≡ u n) → ((n : ℕ) → fates' n ≡ fates n) → FateWords count words u' fates'
  stored_as u' fates' same keep = record {
    long = p.long;
    once = λ n. let e = same n in let o = p.once n in omega arith;
    decided = λ n h. let d = p.decided n (let e = same n in omega arith) in (d.0, keep n ∙ d.1);
    zero = λ n h. p.zero n (let e = same n in omega arith);
    stored = λ n h. p.stored n (let e = same n in omega arith) ∙ ap word_or (sym (keep n));
  }

  -- a packet without a fate waits for no word
  pub none_waits : (n : ℕ) → fates n ≡ None → u n ≡ 0
  none_waits n none_ = go (u n) refl
    where
      go : (k : ℕ) → u n ≡ k → u n ≡ 0
      go zero e = e
      go (suc k) e = absurd (let d = p.decided n (omega arith) in let is : Some d.0 ≡ None = sym d.1 ∙ none_ in cc)

  -- the fates of some packets are decided, and wait to be stored
  pub decides : (u' : ℕ → ℕ) (fates' : ℕ → Option Fate) (ns : List ℕ) → ((n : ℕ) → u' n ≡ u n + times n ns) → ((n : ℕ) → times n ns ≤ 1)
      → ((n : ℕ) → Contains ns n → (fates n ≡ None) × ((f : Fate) × (fates' n ≡ Some f))) → ((n : ℕ) → (Contains ns n → ⊥) → fates' n ≡ fates n) → FateWords count words u' fates'
  decides u' fates' ns sum few new old = record {
    long = p.long;
    once = λ n. let e = sum n in let o = p.once n in let f = few n in cases n
        (λ h. let z = none_waits n (new n h).0 in omega arith)
        (λ out. let z = times_none n ns out in omega arith);
    decided = λ n h. let e = sum n in either_way n
        (λ h'. (new n h').1)
        (λ out. let z = times_none n ns out in let d = p.decided n (omega arith) in (d.0, old n out ∙ d.1));
    zero = λ n h. let e = sum n in either_way n
        (λ h'. let x = (new n h').0 in p.stored n (none_waits n x) ∙ ap word_or x)
        (λ out. let z = times_none n ns out in p.zero n (omega arith));
    stored = λ n h. let e = sum n in let out : Contains ns n → ⊥ = λ h'. (let y = times_in n ns h' in omega arith) in p.stored n (omega arith) ∙ ap word_or (sym (old n out));
  }
    where
      either_way : {P : Type 0} (n : ℕ) → (Contains ns n → P) → ((Contains ns n → ⊥) → P) → P
      either_way {P} n yes_ no_ = go (times n ns) refl
        where
          go : (k : ℕ) → times n ns ≡ k → P
          go zero e = no_ (λ h. let y = times_in n ns h in absurd (omega arith))
          go (suc k) e = yes_ (in_times n ns (omega arith))

      cases : (n : ℕ) → (Contains ns n → u' n ≤ 1) → ((Contains ns n → ⊥) → u' n ≤ 1) → u' n ≤ 1
      cases n yes_ no_ = either_way n yes_ no_

  -- the word of a decided fate is stored
  pub settles : (u' : ℕ → ℕ) (n : ℕ) (f : Fate) → n < count → fates n ≡ Some f → u' n + 1 ≡ u n → ((m : ℕ) → m ≢ n → u' m ≡ u m) → FateWords count (set words n (word_of f)) u' fates
  settles u' n f inside is less same = record {
    long = length-set words n (word_of f) ∙ p.long;
    once = λ m. let o = p.once m in ⊎_elim (λ (e : m ≡ n). let l : u' m + 1 ≡ u m = subst (λ (x : ℕ). u' x + 1 ≡ u x) (sym e) less in omega arith) (λ no_. let s = same m no_ in omega arith) (cases_eq m n);
    decided = λ m h. let o = p.once m in ⊎_elim (λ (e : m ≡ n). absurd (let l : u' m + 1 ≡ u m = subst (λ (x : ℕ). u' x + 1 ≡ u x) (sym e) less in omega arith)) (λ no_. p.decided m (let s = same m no_ in omega arith)) (cases_eq m n);
    zero = λ m h. let o = p.once m in ⊎_elim (λ (e : m ≡ n). absurd (let l : u' m + 1 ≡ u m = subst (λ (x : ℕ). u' x + 1 ≡ u x) (sym e) less in omega arith))
        (λ no_. get_or-set_other words n m (word_of f) 0 no_ ∙ p.zero m (let s = same m no_ in omega arith)) (cases_eq m n);
    stored = λ m h. ⊎_elim
        (λ (e : m ≡ n). ap (λ (x : ℕ). get_or (set words n (word_of f)) x 0) e ∙ (get_or-set_same words n (word_of f) 0 (let l = p.long in omega arith) ∙ ap word_or (sym is ∙ ap fates (sym e))))
        (λ no_. get_or-set_other words n m (word_of f) 0 no_ ∙ p.stored m (let s = same m no_ in omega arith)) (cases_eq m n);
  }

  -- a packet gets its fate, whose word is stored at once
  pub gives : (u' : ℕ → ℕ) (fates' : ℕ → Option Fate) (n : ℕ) (f : Fate) → n < count → fates n ≡ None → fates' n ≡ Some f → ((m : ℕ) → u' m ≡ u m) → ((m : ℕ) → m ≢ n → fates' m ≡ fates m) → FateWords count (set words n (word_of f)) u' fates'
  gives u' fates' n f inside new is same old = let free = none_waits n new in record {
    long = length-set words n (word_of f) ∙ p.long;
    once = λ m. let s = same m in let o = p.once m in omega arith;
    decided = λ m h. let s = same m in let d = p.decided m (omega arith) in (d.0, old m (apart m h) ∙ d.1);
    zero = λ m h. get_or-set_other words n m (word_of f) 0 (apart m h) ∙ p.zero m (let s = same m in omega arith);
    stored = λ m h. ⊎_elim
        (λ (e : m ≡ n). ap (λ (x : ℕ). get_or (set words n (word_of f)) x 0) e ∙ (get_or-set_same words n (word_of f) 0 (let l = p.long in omega arith) ∙ ap word_or (sym is ∙ ap fates' (sym e))))
        (λ no_. get_or-set_other words n m (word_of f) 0 no_ ∙ (p.stored m (let s = same m in omega arith) ∙ ap word_or (sym (old m no_)))) (cases_eq m n);
  }
    where
      apart : (m : ℕ) → 0 < u' m → m ≢ n
      apart m h e = let s = same m in let z : u m ≡ 0 = ap u e ∙ none_waits n new in omega arith
