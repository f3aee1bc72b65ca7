-- What the reader reads, batch by batch.
use Rattle.std.proofs.Common.{◌≡◌, ◌≤◌, ◌+◌, ◌-◌, ◌++◌, ◌∷◌, [], ℕ, List, length, take, drop, refl, sym, ap, ◌∙◌, append_assoc, length-append, length-take, arith}
use Rattle.std.proofs.lemmas.List.{take-append-drop}
use Rattle.std.proofs.Math.Seq.{take-length}
use Rattle.std.proofs.lemmas.List as lists
use Rattle.lq_tap.specs.Told.{having_given_back, without_last}
use Rattle.lq_tap.specs.Views.{View}

-- what follows a place of a list, by a number of places
pub rest_of : (xs : List ℕ) (half : ℕ) → take (length xs - half) (drop half xs) ≡ drop half xs
rest_of xs half = ap (λ k. take k (drop half xs)) (sym (lists.length-drop half xs)) ∙ take-length (drop half xs)

-- the two parts of a list
pub in_two : (xs : List ℕ) (half : ℕ) → half ≤ length xs → xs ≡ take half xs ++ take (length xs - half) (drop half xs)
in_two xs half le = sym (take-append-drop half xs) ∙ ap (λ r. take half xs ++ r) (sym (rest_of xs half))

kept_front : (xs ys : List ℕ) → take (length xs) (xs ++ ys) ≡ xs
kept_front [] ys = refl
kept_front (x ∷ xs) ys = ap (λ r. x ∷ r) (kept_front xs ys)

without_given : (xs given : List ℕ) → without_last (length given) (xs ++ given) ≡ xs
without_given xs given =
    let long : length (xs ++ given) - length given ≡ length xs = (let both = length-append xs given in omega arith) in
    ap (λ k. take k (xs ++ given)) long ∙ kept_front xs given

-- the first half was read, and the rest given back
module _ (v new : View) (read batch mine given now : List ℕ) (lost : ℕ) (taken : v.reader.taken ≡ read ++ batch) (parts : batch ≡ mine ++ given) (is : new ≡ having_given_back given lost v) (more : now ≡ read ++ mine) where
  pub taken_on : new.reader.taken ≡ now
  taken_on =
      ap (λ (w : View). w.reader.taken) is ∙ ap (without_last (length given)) (taken ∙ ap (λ b. read ++ b) parts ∙ sym (append_assoc read mine given)) ∙ without_given (read ++ mine) given ∙ sym more

  pub few_on : length v.reader.destroyed ≤ length read → length given ≤ length mine → length new.reader.destroyed ≤ length now
  few_on few less =
      let here : length new.reader.destroyed ≡ length v.reader.destroyed + length (take lost given) = ap (λ (w : View). length w.reader.destroyed) is ∙ length-append v.reader.destroyed (take lost given) in
      let there : length now ≡ length read + length mine = ap length more ∙ length-append read mine in
      omega (arith, length-take lost given)
