-- What the children of a group sent, as one list.
use Rattle.std.proofs.Common.{◌≡◌, ◌<◌, ◌≤◌, ◌+◌, ◌-◌, ◌∷◌, ◌==◌, [], ℕ, zero, suc, Bool, cond, ◌&&◌, eqb, leb, ltb, List, length, map, Some, slice_get, slice_index_or, All, refl, sym, ap, ap₂, ◌∙◌, subst, inl, inr, arith, count_by}
use Rattle.std.specs.List.{sum_by}
use Rattle.std.specs.Option.{option_map}
use Rattle.std.proofs.lemmas.Bool.Decides.{nat_tests}
use Rattle.std.proofs.lemmas.List.{length-map, map-append}
use Rattle.std.proofs.lemmas.List.Sums.{sum_by-append, sum_by-cons}
use Rattle.std.proofs.lemmas.Option.{same_Some, slice_get-map, slice_get_within}
use Rattle.lq_model.proofs.FirstNumbers.{first-at, length-first_numbers}
use Rattle.lq_model.specs.Numbers.{first_numbers}
use Rattle.lq_model.specs.Plan.{Plan, first_at, mq_at}
use Rattle.lq_model.specs.Sent.{first_passing, is_sent_as, sent_of}
use Rattle.lq_model.specs.Settled.{AreSerials}
use Rattle.lq_model.specs.Texts.{is_sent_by}
use Rattle.lq_model.specs.declared.fate.Fate.{Fate}
use Rattle.lq_model.specs.declared.fate.Fate.TheVariants.{Sent, Full, Shrunk, Purged, Refused}
use Rattle.lq_fates.proofs.SentLemmas.{sent_is}
use Rattle.lq_mq.specs.Joint.{joint}
use Rattle.lq_mq.specs.Laws.{IsBefore, HasAtSerial}
use Rattle.lq_mq.proofs.Order.{Pairs, each-all, each-is-sent, each-map, once, pairs-all, pairs-in-order, pairs-map, stands-in}
use Rattle.lq_mq.proofs.Serials.{joint-length, subsequences}
use Rattle.lq_files.specs.Groups.{AreOfGroup, IsChildOf, IsSentBefore, IsSentByGroup, is_sent_between, sent_by_group}

-- WHAT ITS CHILDREN SENT

module _ (plan : Plan) (fates : List Fate) (j : ℕ) where
  abbrev first : ℕ
  first = first_at plan.groups j

  abbrev lists : List (List ℕ)
  lists = map (λ k. sent_of fates (first + k)) (first_numbers (mq_at plan.groups j))

  -- list i is that of child i
  list-at : (i : ℕ) → i < mq_at plan.groups j → slice_get lists i ≡ Some (sent_of fates (first + i))
  list-at i lt = slice_get-map (λ k. sent_of fates (first + k)) (first_numbers (mq_at plan.groups j)) i ∙ ap (option_map (λ k. sent_of fates (first + k))) (first-at (mq_at plan.groups j) i lt)

  length-lists : length lists ≡ mq_at plan.groups j
  length-lists = length-map (first_numbers (mq_at plan.groups j)) (λ k. sent_of fates (first + k)) ∙ length-first_numbers (mq_at plan.groups j)

  list-of : (child : ℕ) → IsChildOf plan j child → slice_get lists (child - first) ≡ Some (sent_of fates child)
  list-of child is =
      let same : first + (child - first) ≡ child = omega arith in
      subst (λ k. slice_get lists (child - first) ≡ Some (sent_of fates k)) same (list-at (child - first) (omega arith))

  module _ (serials : (unit : ℕ) → AreSerials fates unit) where
    -- what a unit sent stands at its serial
    sent-at : (unit serial n : ℕ) → slice_get (sent_of fates unit) serial ≡ Some n → slice_get fates n ≡ Some (Sent unit serial)
    sent-at unit serial n at =
        let list = serials unit in
        (list.1 n serial).1 (subst (λ (xs : List ℕ). slice_get xs serial ≡ Some n) (sent_is fates unit list.0 list.1) at)

    at-sent : (unit serial n : ℕ) → slice_get fates n ≡ Some (Sent unit serial) → slice_get (sent_of fates unit) serial ≡ Some n
    at-sent unit serial n at =
        let list = serials unit in
        subst (λ (xs : List ℕ). slice_get xs serial ≡ Some n) (sym (sent_is fates unit list.0 list.1)) ((list.1 n serial).0 at)

    -- what list i has at a serial child i sent with it
    sent-as : (i serial n : ℕ) → HasAtSerial lists i serial n → (i < mq_at plan.groups j) × (slice_get fates n ≡ Some (Sent (first + i) serial))
    sent-as i serial n is =
        let within : i < mq_at plan.groups j = subst (λ k. i < k) length-lists (slice_get_within lists i is.0 is.1) in
        let same : sent_of fates (first + i) ≡ is.0 = same_Some (sent_of fates (first + i)) is.0 (sym (list-at i within) ∙ is.1) in
        (within, sent-at (first + i) serial n (subst (λ (xs : List ℕ). slice_get xs serial ≡ Some n) (sym same) is.2))

    is-sent : (n : ℕ) → ((i : ℕ) × (serial : ℕ) × HasAtSerial lists i serial n) → IsSentByGroup plan fates j n
    is-sent n h = let is = sent-as h.0 h.1 n h.2 in (first + h.0, h.1, (omega arith, omega arith), is.1)

    is-before : (m n : ℕ) → IsBefore lists m n → IsSentBefore fates m n
    is-before m n h =
        let a = sent-as h.0 h.2 m h.4 in let b = sent-as h.1 h.3 n h.5 in
        (first + h.0, first + h.1, h.2, h.3, a.1, b.1, elim h.6 [ inl less ↦ inl less | inr tie ↦ inr (tie.0, (let lt : h.0 < h.1 = tie.1 in omega arith)) ])

    -- a packet has one fate
    apart : (n : ℕ) → IsSentBefore fates n n → ⊥
    apart n h =
        let same = same_Some (Sent h.0 h.2) (Sent h.1 h.3) (sym h.4 ∙ h.5) in
        let units : h.0 ≡ h.1 = cc in let serial : h.2 ≡ h.3 = cc in
        elim h.6 [ inl less ↦ (let lt : h.2 < h.3 = less in absurd (omega arith)) | inr tie ↦ (let lt : h.0 < h.1 = tie.1 in absurd (omega arith)) ]

    pairs : Pairs (IsSentBefore fates) (joint lists)
    pairs = pairs-map (IsBefore lists) (IsSentBefore fates) is-before (joint lists) (pairs-in-order lists)

    stands-once : (n : ℕ) → IsSentByGroup plan fates j n → count_by (λ m. m == n) (joint lists) ≡ 1
    stands-once n h =
        let child = h.0 in let serial = h.1 in
        let there = stands-in (sent_of fates child) (joint lists) serial n (subsequences lists (child - first) (sent_of fates child) (list-of child h.2)) (at-sent child serial n h.3) in
        once (IsSentBefore fates) n (apart n) (joint lists) there.0 pairs there.1

    pub of_group : AreOfGroup plan fates j (sent_by_group plan fates j)
    of_group = record {
      each_child = λ child is. subsequences lists (child - first) (sent_of fates child) (list-of child is);
      once = stands-once;
      no_other = each-all (IsSentByGroup plan fates j) (joint lists) (each-map (λ n. (i : ℕ) × (serial : ℕ) × HasAtSerial lists i serial n) (IsSentByGroup plan fates j) is-sent (joint lists) (each-is-sent lists));
      in_order = pairs-all (IsSentBefore fates) (joint lists) pairs;
    }

    -- it has packets of the list of fates alone
    pub group_below : (count : ℕ) → length fates ≤ count → All (λ n. n < count) (sent_by_group plan fates j)
    group_below count le = λ k d lt. (
        let is : IsSentByGroup plan fates j (slice_index_or (sent_by_group plan fates j) k d) = of_group.no_other k d lt in
        let within : slice_index_or (sent_by_group plan fates j) k d < length fates = slice_get_within fates (slice_index_or (sent_by_group plan fates j) k d) (Sent is.0 is.1) is.3 in
        omega arith
        )

-- HOW MANY

-- how many packets the units from low on sent, one unit more
abbrev one-if : Bool → ℕ
one-if b = cond b 1 0

between-more : (low k : ℕ) (fate : Fate) → one-if (is_sent_between low (low + suc k) fate) ≡ one-if (is_sent_between low (low + k) fate) + one-if (is_sent_by (low + k) fate)
between-more low k (Sent unit serial) = numbers low k unit
  where
    numbers : (low k unit : ℕ) → one-if (leb low unit && ltb unit (low + suc k)) ≡ one-if (leb low unit && ltb unit (low + k)) + one-if (eqb unit (low + k))
    numbers low k unit = let more : low + suc k ≡ low + k + 1 = omega arith in grind (arith, nat_tests)
between-more low k (Full seen) = omega arith
between-more low k (Shrunk event) = omega arith
between-more low k (Purged cause) = omega arith
between-more low k (Refused event) = omega arith

count-more : (low k : ℕ) (fates : List Fate) → count_by (is_sent_between low (low + suc k)) fates ≡ count_by (is_sent_between low (low + k)) fates + count_by (is_sent_by (low + k)) fates
count-more low k [] = refl
count-more low k (fate ∷ fates) =
    let a = sum_by-cons (λ f. one-if (is_sent_between low (low + suc k) f)) fate fates in let b = sum_by-cons (λ f. one-if (is_sent_between low (low + k) f)) fate fates in
    let c = sum_by-cons (λ f. one-if (is_sent_by (low + k) f)) fate fates in let here = between-more low k fate in let rest = count-more low k fates in omega arith

-- none is sent by a unit of none
none-between : (low : ℕ) (fates : List Fate) → count_by (is_sent_between low (low + 0)) fates ≡ 0
none-between low [] = refl
none-between low (fate ∷ fates) =
    let a = sum_by-cons (λ f. one-if (is_sent_between low (low + 0) f)) fate fates in let here : one-if (is_sent_between low (low + 0) fate) ≡ 0 = none fate in let rest = none-between low fates in omega arith
  where
    numbers : (unit : ℕ) → one-if (leb low unit && ltb unit (low + 0)) ≡ 0
    numbers unit = let same : low + 0 ≡ low = omega arith in grind (arith, nat_tests)

    none : (fate : Fate) → one-if (is_sent_between low (low + 0) fate) ≡ 0
    none (Sent unit serial) = numbers unit
    none (Full seen) = refl
    none (Shrunk event) = refl
    none (Purged cause) = refl
    none (Refused event) = refl

length-sent : (fates : List Fate) (unit : ℕ) → length (sent_of fates unit) ≡ count_by (is_sent_by unit) fates
length-sent fates unit =
    length-map (first_numbers (count_by (is_sent_by unit) fates)) (λ serial. first_passing (is_sent_as unit serial) fates) ∙ length-first_numbers (count_by (is_sent_by unit) fates)

-- the lists of so many units from low on
lengths : (fates : List Fate) (low k : ℕ) → sum_by length (map (λ i. sent_of fates (low + i)) (first_numbers k)) ≡ count_by (is_sent_between low (low + k)) fates
lengths fates low zero = sym (none-between low fates)
lengths fates low (suc k) =
    let f : ℕ → List ℕ = λ i. sent_of fates (low + i) in
    ap (λ (xs : List (List ℕ)). sum_by length xs) (map-append f (first_numbers k) (k ∷ []))
    ∙ (sum_by-append length (map f (first_numbers k)) (f k ∷ [])
    ∙ (ap₂ (λ a b. a + b) (lengths fates low k) (one (f k) ∙ length-sent fates (low + k)) ∙ sym (count-more low k fates)))
  where
    one : (xs : List ℕ) → sum_by length (xs ∷ []) ≡ length xs
    one xs = let a = sum_by-cons length xs [] in omega arith

-- the capture of a group has as many packets as its units sent
pub group_length : (plan : Plan) (fates : List Fate) (j : ℕ) → length (sent_by_group plan fates j)
    ≡ count_by (is_sent_between (first_at plan.groups j) (first_at plan.groups j + mq_at plan.groups j)) fates
group_length plan fates j = joint-length (lists plan fates j) ∙ lengths fates (first_at plan.groups j) (mq_at plan.groups j)
