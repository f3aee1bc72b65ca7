-- What the steps of giving back make of the view and of the list of steps.
use Rattle.std.proofs.Common.{false, ◌≡◌, ℕ, zero, suc, ◌+◌, ◌-◌, ◌<◌, ◌≤◌, List, [], ◌∷◌, ◌++◌, length, take, drop, refl, sym, ap, ◌∙◌, arith, get_or, length-drop, length-append}
use Rattle.std.proofs.lemmas.List.{append_assoc, take-append-drop, length-take-le}
use Rattle.std.proofs.Math.Seq.{drop-append_seam}
use Rattle.lq_ring_core.specs.Ring.{place_before}
use Rattle.lq_band_laws.specs.Ring.{with_room, cleared_at}
use Rattle.lq_tap.specs.Views.{View}
use Rattle.lq_tap.specs.Made.{Made, ◌⊳◌, did_load_slot, did_store_slot}
use Rattle.lq_tap.specs.Told.{place_back, without_last, having_given_back, with_lock, destroying, putting_back, without_batch}
use Rattle.lq_tap.specs.Steps.{put_back}
use Rattle.lq_tap.proofs.BackKept.{without_last_is}

-- LISTS

take_twice : (m n : ℕ) (xs : List ℕ) → m ≤ n → take m (take n xs) ≡ take m xs
take_twice zero n xs h = refl
take_twice (suc m) zero xs h = absurd (omega arith)
take_twice (suc m) (suc n) [] h = refl
take_twice (suc m) (suc n) (x ∷ xs) h = ap (λ (ys : List ℕ). x ∷ ys) (take_twice m n xs (omega arith))

pub without_more : (a b : ℕ) (xs : List ℕ) → without_last a (without_last b xs) ≡ without_last (a + b) xs
without_more a b xs =
    let long : length (take (length xs - b) xs) ≡ length xs - b = length-take-le (length xs - b) xs (omega arith) in
    ap (λ (n : ℕ). take (n - a) (take (length xs - b) xs)) long ∙ (take_twice (length xs - b - a) (length xs - b) xs (omega arith) ∙ ap (λ (n : ℕ). take n xs) (let e : length xs - b - a ≡ length xs - (a + b) = omega arith in e))

-- the last of the first so many
pub take_last : (m : ℕ) (xs : List ℕ) → m < length xs → take (suc m) xs ≡ take m xs ++ get_or xs m 0 ∷ []
take_last m [] h = absurd (omega arith)
take_last zero (x ∷ xs) h = refl
take_last (suc m) (x ∷ xs) h = ap (λ (ys : List ℕ). x ∷ ys) (take_last m xs (omega arith))

pub drop_first_one : (m : ℕ) (xs : List ℕ) → m < length xs → drop m xs ≡ get_or xs m 0 ∷ drop (suc m) xs
drop_first_one m [] h = absurd (omega arith)
drop_first_one zero (x ∷ xs) h = refl
drop_first_one (suc m) (x ∷ xs) h = drop_first_one m xs (omega arith)

-- GIVING BACK

-- the last packet of the batch was put back, and the look at its slot is over
abbrev pub having_put_back : View → View
having_put_back v = record v {
  reader = record v.reader {
    ends = cleared_at (place_before v.about.len v.reader.ends.head 1);
    taken = without_last 1 v.reader.taken;
    batch = without_last 1 v.reader.batch;
  };
}

pub put_in_room : (v : View) → v.lock.room ≡ false → putting_back (with_lock (with_room v.lock) v) ≡ having_put_back v
put_in_room v e = λ j. record (having_put_back v) { lock = record v.lock { room = sym e j } }

-- the last so many were put back
abbrev pub returning : ℕ → View → View
returning n v = record v {
  reader = record v.reader {
    ends = cleared_at (place_back v.about.len v.reader.ends.head n);
    taken = without_last n v.reader.taken;
    batch = without_last n v.reader.batch;
  };
}

pub one_returned : (n : ℕ) (v : View) → having_put_back (returning n v) ≡ returning (suc n) v
one_returned n v =
    let same : 1 + n ≡ suc n = omega arith in
    let taken : without_last 1 (without_last n v.reader.taken) ≡ without_last (suc n) v.reader.taken = without_more 1 n v.reader.taken ∙ ap (λ (m : ℕ). without_last m v.reader.taken) same in
    let batch : without_last 1 (without_last n v.reader.batch) ≡ without_last (suc n) v.reader.batch = without_more 1 n v.reader.batch ∙ ap (λ (m : ℕ). without_last m v.reader.batch) same in
    λ j. record v { reader = record v.reader { ends = cleared_at (place_back v.about.len v.reader.ends.head (suc n)); taken = taken j; batch = batch j } }

-- what is left of the batch
pub left_of : (read given batch : List ℕ) (left : ℕ) → batch ≡ read ++ given → left ≤ length given → without_last (length given - left) batch ≡ read ++ take left given
left_of read given batch left e within =
    let split : batch ≡ (read ++ take left given) ++ drop left given = e ∙ (ap (λ (xs : List ℕ). read ++ xs) (sym (take-append-drop left given)) ∙ sym (append_assoc read (take left given) (drop left given))) in
    let long : length given - left ≡ length (drop left given) = sym (length-drop left given) in
    (λ j. without_last (long j) (split j)) ∙ without_last_is (read ++ take left given) (drop left given)

-- some were destroyed
pub some_lost : (read given : List ℕ) (left : ℕ) (v : View) → v.reader.batch ≡ read ++ given → left ≤ length given → without_batch (destroying left (returning (length given - left) v)) ≡ having_given_back given left v
some_lost read given left v e within =
    let n : ℕ = length given - left in let b : List ℕ = without_last n v.reader.batch in
    let all : left + n ≡ length given = omega arith in
    let taken : without_last left (without_last n v.reader.taken) ≡ without_last (length given) v.reader.taken = without_more left n v.reader.taken ∙ ap (λ (m : ℕ). without_last m v.reader.taken) all in
    let is : b ≡ read ++ take left given = left_of read given v.reader.batch left e within in
    let long : length b - left ≡ length read = let a = ap (λ (xs : List ℕ). length xs) is in let c = length-append read (take left given) in let d = length-take-le left given within in omega arith in
    let gone : drop (length b - left) b ≡ take left given = (λ j. drop (long j) (is j)) ∙ drop-append_seam read (take left given) in
    λ j. record v { reader = record v.reader { ends = cleared_at (place_back v.about.len v.reader.ends.head n); taken = taken j; batch = []; destroyed = v.reader.destroyed ++ gone j } }

-- one more step back
pub put_one_more : (len first left : ℕ) (given : List ℕ) (steps : List Made) → left < length given
    → put_back len first (drop left given) steps ≡ put_back len first (drop (suc left) given) steps ⊳ did_load_slot (place_back len first (suc (length given - suc left))) 0 ⊳ did_store_slot (place_back len first (suc (length given - suc left))) (get_or given left 0 + 1)
put_one_more len first left given steps inside =
    let more = drop_first_one left given inside in let long = length-drop (suc left) given in
    ap (λ (xs : List ℕ). put_back len first xs steps) more
    ∙ (λ j. put_back len first (drop (suc left) given) steps ⊳ did_load_slot (place_back len first (suc (long j))) 0 ⊳ did_store_slot (place_back len first (suc (long j))) (get_or given left 0 + 1))
