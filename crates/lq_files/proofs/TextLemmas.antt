-- How many packets a capture has, and the packets that a unit sent.
use Rattle.std.proofs.Common.{◌≡◌, ◌<◌, ◌≤◌, ℕ, List, All, length, sym, ◌∙◌, subst, arith, get_or, slice_get, Some}
use Rattle.std.proofs.lemmas.List.{length-map}
use Rattle.std.proofs.lemmas.List.Elements.{All-from_get_or}
use Rattle.std.proofs.lemmas.Option.{slice_get-get_or, slice_get_within}
use Rattle.lq_model.proofs.FirstNumbers.{length-first_numbers}
use Rattle.lq_model.specs.Capture.{Packets}
use Rattle.lq_model.specs.Numbers.{first_numbers}
use Rattle.lq_model.specs.Plan.{Plan, infos_of, info_of}
use Rattle.lq_model.specs.Sent.{sent_of}
use Rattle.lq_model.specs.Settled.{AreSerials, IsSentList}
use Rattle.lq_model.specs.declared.fate.Fate.{Fate}
use Rattle.lq_model.specs.declared.fate.Fate.TheVariants.{Sent}
use Rattle.lq_fates.proofs.SentLemmas.{sent_is}

-- there is an info of each packet
pub length-infos_of : (plan : Plan) (packets : Packets) → length (infos_of plan packets) ≡ packets.count
length-infos_of plan packets = length-map (first_numbers packets.count) (info_of plan packets) ∙ length-first_numbers packets.count

-- a unit sent packets of the list alone
pub sent_below : (fates : List Fate) (unit count : ℕ) → AreSerials fates unit → length fates ≤ count → All (λ n. n < count) (sent_of fates unit)
sent_below fates unit count serials le =
    let sent : List ℕ = serials.0 in
    let is_list : IsSentList fates unit sent = serials.1 in
    let below : All (λ n. n < count) sent =
    All-from_get_or (λ n. n < count) sent 0 (λ i lt. (
    let there : slice_get sent i ≡ Some (get_or sent i 0) = slice_get-get_or sent i 0 lt in
    let within : get_or sent i 0 < length fates = slice_get_within fates (get_or sent i 0) (Sent unit i) ((is_list (get_or sent i 0) i).1 there) in
    omega arith
    ))
    in
    subst (λ (xs : List ℕ). All (λ n. n < count) xs) (sym (sent_is fates unit sent is_list)) below
