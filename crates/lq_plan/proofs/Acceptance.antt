-- What text is accepted, by the keys and limits of which version.
use Rattle.std.proofs.Common.{◌≡◌, ◌≢◌, ◌<◌, ◌%◌, ℕ, zero, suc, pos, negsuc, Bool, true, false, ◌==◌, if◌then◌else◌, codes, List, [], ◌∷◌, length, take, get_or, slice_get, Option, Some, None, Ok, Err, refl, sym, ap, ◌∙◌, arith}
use Rattle.std.specs.Prelude.{sum}
use Rattle.std.proofs.Math.Nat.{mod-one}
use Rattle.std.proofs.lemmas.List.Sums.{sum_by-cons}
use Rattle.std.proofs.lemmas.Nat.{mod_below}
use Rattle.std.proofs.lemmas.Option.{slice_get-get_or}
use Rattle.std.specs.Option.{option_map_or}
use Rattle.std.proofs.lemmas.Bool.{false≢true, ne_eqb}
use Rattle.std.specs.List.{list_any}
use Rattle.toml.specs.Data.{Data, Members, get_member, string, integer, float, boolean, datetime, array, table}
use Rattle.lq_model.proofs.Reach.{at-within, reach-few}
use Rattle.lq_model.specs.Class.{route_byte_of, source_byte_of}
use Rattle.lq_model.specs.Plan.{Plan, first_at, mq_at}
use Rattle.lq_model.specs.declared.plan.Classify.{Classify}
use Rattle.lq_model.specs.declared.plan.Classify.TheVariants.{Never, Tos}
use Rattle.lq_model.specs.declared.plan.PlanReason.{PlanReason}
use Rattle.lq_model.specs.declared.plan.PlanReason.TheVariants.{NotToml, EventOrder, TwoLimits, OneLink}
use Rattle.lq_plan.specs.Document.{document_of}
use Rattle.lq_plan.specs.Keys.{version_in, version_of}
use Rattle.lq_plan.specs.Laws.{HasNoVersion, IsByBytes, IsUngrouped, IsUnlinked, station_by}
use Rattle.lq_plan.specs.Limits.{IsClassifyOf, IsPlanOf, IsWithinLimits, is_out_of_order, version_1, version_2, version_3, version_4, version_5}
use Rattle.lq_plan.specs.Reading.{first_fault, has_many_links, has_two_limits, last_fault, plan_by, plan_in, plan_of, root_of}
use Rattle.lq_plan.specs.Values.{number_or}
use Rattle.lq_plan.specs.declared.keys.Version.{Version}
use Rattle.lq_plan.proofs.Groups.{mq-read}
use Rattle.lq_plan.proofs.Bytes.{by_bytes}
use Rattle.lq_plan.proofs.Times.{opens-by}
use Rattle.lq_plan.proofs.Within.{IsVersion, is-version, is-version_1, is-version_2, is-version_3, is-version_4, narrower-1-2, narrower-1-3, narrower-1-4, narrower-2-3, narrower-2-4, narrower-3-4, of_version, root_facts, widened}

-- ACCEPTED TEXTS

lawful_within : (version : Version) → IsVersion version → (root : Members) (plan : Plan) (out_of_order two_limits many_links : Bool) → None ≡ first_fault version (document_of root)
    → is_out_of_order (plan_in (document_of root)).events ≡ out_of_order → has_many_links (plan_in (document_of root)).stations ≡ many_links
    → option_map_or Err (if out_of_order then Some EventOrder else if two_limits then Some TwoLimits else if many_links then Some OneLink else None) (Ok (plan_in (document_of root))) ≡ Ok plan
    → IsPlanOf version plan
lawful_within version is root plan true two_limits many_links none order links answer = cc
lawful_within version is root plan false true many_links none order links answer = cc
lawful_within version is root plan false false true none order links answer = cc
lawful_within version is root plan false false false none order links answer =
    let same : plan ≡ plan_in (document_of root) = cc in
    rw same (of_version version root (document_of root) (plan_in (document_of root)) (root_facts version is root none) order links refl refl refl refl refl refl refl refl refl)

faultless_within : (version : Version) → IsVersion version → (root : Members) (plan : Plan) (fault : Option PlanReason) → fault ≡ first_fault version (document_of root)
    → option_map_or Err fault (option_map_or Err (last_fault (document_of root)) (Ok (plan_in (document_of root)))) ≡ Ok plan → IsPlanOf version plan
faultless_within version is root plan (Some reason) same answer = cc
faultless_within version is root plan None same answer =
    let d = document_of root in
    lawful_within version is root plan (is_out_of_order (plan_in d).events) (list_any has_two_limits d.stations) (has_many_links (plan_in d).stations) same refl refl answer

accepted_by : (version : Version) → IsVersion version → (root : Members) (plan : Plan) → plan_by version root ≡ Ok plan → IsPlanOf version plan
accepted_by version is root plan answer = faultless_within version is root plan (first_fault version (document_of root)) refl answer

root_within : (plan : Plan) (root : Option Members) → option_map_or (λ root. plan_by (version_of root) root) root (Err NotToml) ≡ Ok plan → IsWithinLimits plan
root_within plan None answer = cc
root_within plan (Some root) answer = widened (version_of root) version_5 (is-version root).narrower plan (accepted_by (version_of root) (is-version root) root plan answer)

pub accepted_within : (text : List ℕ) (plan : Plan) → plan_of text ≡ Ok plan → IsWithinLimits plan
unfolding plan_of
accepted_within text plan answer = root_within plan (root_of text) answer

-- TEXTS OF VERSION 1

-- a number that isn't its default is the integer at the key
other_number : (default n : ℕ) (o : Option Data) → default ≢ n → number_or default o ≡ n → o ≡ Some (integer (pos n))
other_number default n None other is = absurd (other is)
other_number default n (Some (integer (pos m))) other is = ap (λ (k : ℕ). Some (integer (pos k))) is
other_number default n (Some (integer (negsuc m))) other is = absurd (other is)
other_number default n (Some (string text)) other is = absurd (other is)
other_number default n (Some (float x)) other is = absurd (other is)
other_number default n (Some (boolean b)) other is = absurd (other is)
other_number default n (Some (datetime time)) other is = absurd (other is)
other_number default n (Some (array items)) other is = absurd (other is)
other_number default n (Some (table inside)) other is = absurd (other is)

-- the version of a number
abbrev numbered : (is_5 is_4 is_3 is_2 : Bool) → Version
numbered is_5 is_4 is_3 is_2 = if is_5 then version_5 else if is_4 then version_4 else if is_3 then version_3 else if is_2 then version_2 else version_1

-- of one that is none of these
no-5 : (number : ℕ) → number ≢ 5 → numbered (number == 5) (number == 4) (number == 3) (number == 2) ≡ numbered false (number == 4) (number == 3) (number == 2)
no-5 number not_5 = ap (λ is_5. numbered is_5 (number == 4) (number == 3) (number == 2)) (ne_eqb number 5 not_5)

no-4 : (number : ℕ) → number ≢ 4 → number ≢ 5 → numbered (number == 5) (number == 4) (number == 3) (number == 2) ≡ numbered false false (number == 3) (number == 2)
no-4 number not_4 not_5 = no-5 number not_5 ∙ ap (λ is_4. numbered false is_4 (number == 3) (number == 2)) (ne_eqb number 4 not_4)

no-3 : (number : ℕ) → number ≢ 3 → number ≢ 4 → number ≢ 5 → numbered (number == 5) (number == 4) (number == 3) (number == 2) ≡ numbered false false false (number == 2)
no-3 number not_3 not_4 not_5 = no-4 number not_4 not_5 ∙ ap (λ is_3. numbered false false is_3 (number == 2)) (ne_eqb number 3 not_3)

no-2 : (number : ℕ) → number ≢ 2 → number ≢ 3 → number ≢ 4 → number ≢ 5 → numbered (number == 5) (number == 4) (number == 3) (number == 2) ≡ version_1
no-2 number not_2 not_3 not_4 not_5 = no-3 number not_3 not_4 not_5 ∙ ap (λ is_2. numbered false false false is_2) (ne_eqb number 2 not_2)

no-number : (root : Members) (number : ℕ) → 1 ≢ number → get_member (codes "version") root ≢ Some (integer (pos number)) → version_in root ≢ number
no-number root number other absent is = absent (other_number 1 number (get_member (codes "version") root) other is)

-- a root that says none of this number
abbrev IsSilent : ℕ → Option Members → Type 0
IsSilent number o = (root : Members) → o ≡ Some root → get_member (codes "version") root ≢ Some (integer (pos number))

reads_root : (o : Option Members) → IsSilent 2 o → IsSilent 3 o → IsSilent 4 o → IsSilent 5 o
    → option_map_or (λ root. plan_by (version_of root) root) o (Err NotToml) ≡ option_map_or (plan_by version_1) o (Err NotToml)
reads_root None not_2 not_3 not_4 not_5 = refl
reads_root (Some root) not_2 not_3 not_4 not_5 =
    ap (λ version. plan_by version root)
    (no-2 (version_in root) (no-number root 2 (omega arith) (not_2 root refl)) (no-number root 3 (omega arith) (not_3 root refl)) (no-number root 4 (omega arith) (not_4 root refl)) (no-number root 5 (omega arith) (not_5 root refl)))

pub reads_version_1 : (text : List ℕ) → HasNoVersion 2 text → HasNoVersion 3 text → HasNoVersion 4 text → HasNoVersion 5 text → plan_of text ≡ option_map_or (plan_by version_1) (root_of text) (Err NotToml)
unfolding plan_of
reads_version_1 text not_2 not_3 not_4 not_5 = reads_root (root_of text) not_2 not_3 not_4 not_5

root_keeps : (plan : Plan) (o : Option Members) → option_map_or (plan_by version_1) o (Err NotToml) ≡ Ok plan → IsPlanOf version_1 plan
root_keeps plan None answer = cc
root_keeps plan (Some root) answer = accepted_by version_1 is-version_1 root plan answer

pub keeps_version_1 : (text : List ℕ) (plan : Plan) → HasNoVersion 2 text → HasNoVersion 3 text → HasNoVersion 4 text → HasNoVersion 5 text → plan_of text ≡ Ok plan → IsPlanOf version_1 plan
keeps_version_1 text plan not_2 not_3 not_4 not_5 answer = root_keeps plan (root_of text) (sym (reads_version_1 text not_2 not_3 not_4 not_5) ∙ answer)

-- TEXTS OF VERSION 2 OR 1

-- the version of a root that says none of the numbers 3 and 4, and of one that doesn't say 4
abbrev pub below-3 : Members → Version
below-3 root = if version_in root == 2 then version_2 else version_1

abbrev pub below-4 : Members → Version
below-4 root = if version_in root == 3 then version_3 else if version_in root == 2 then version_2 else version_1

reads_root_2 : (o : Option Members) → IsSilent 3 o → IsSilent 4 o → IsSilent 5 o
    → option_map_or (λ root. plan_by (version_of root) root) o (Err NotToml) ≡ option_map_or (λ root. plan_by (below-3 root) root) o (Err NotToml)
reads_root_2 None not_3 not_4 not_5 = refl
reads_root_2 (Some root) not_3 not_4 not_5 =
    ap (λ version. plan_by version root) (no-3 (version_in root) (no-number root 3 (omega arith) (not_3 root refl)) (no-number root 4 (omega arith) (not_4 root refl)) (no-number root 5 (omega arith) (not_5 root refl)))

pub reads_version_2 : (text : List ℕ) → HasNoVersion 3 text → HasNoVersion 4 text → HasNoVersion 5 text
    → plan_of text ≡ option_map_or (λ root. plan_by (below-3 root) root) (root_of text) (Err NotToml)
unfolding plan_of
reads_version_2 text not_3 not_4 not_5 = reads_root_2 (root_of text) not_3 not_4 not_5

-- groups of one station each
ones-first : (groups : List ℕ) (j : ℕ) → ((k mq : ℕ) → slice_get groups k ≡ Some mq → mq ≡ 1) → j < length groups → first_at groups j ≡ j
ones-first [] j each below = absurd (omega arith)
ones-first (mq ∷ groups) zero each below = omega arith
ones-first (mq ∷ groups) (suc j) each below =
    let rest = ones-first groups j (λ k m at. each (suc k) m at) (omega arith) in let one = each 0 mq refl in let more = sum_by-cons (λ (x : ℕ). x) mq (take j groups) in omega arith

ones-sum : (groups : List ℕ) → ((k mq : ℕ) → slice_get groups k ≡ Some mq → mq ≡ 1) → sum groups ≡ length groups
ones-sum [] each = omega arith
ones-sum (mq ∷ groups) each =
    let rest = ones-sum groups (λ k m at. each (suc k) m at) in let one = each 0 mq refl in let more = sum_by-cons (λ (x : ℕ). x) mq groups in omega arith

one-at : (groups : List ℕ) (j : ℕ) → ((k mq : ℕ) → slice_get groups k ≡ Some mq → mq ≡ 1) → j < length groups → mq_at groups j ≡ 1
one-at groups j each below = mq-read groups j below ∙ each j (get_or groups j 0) (slice_get-get_or groups j 0 below)

ungrouped : (plan : Plan) → IsPlanOf version_2 plan → IsUngrouped plan
ungrouped plan within = record {
  groups = all;
  routes = λ packets n.
      let route = route_byte_of (packets.link n) (packets.frame n) in let source = source_byte_of (packets.link n) (packets.frame n) in let j = route % length plan.groups in
      let below : j < length plan.groups = mod_below route (length plan.groups) within.has_group in
      let first = ones-first plan.groups j ones below in let one = one-at plan.groups j ones below in
      let rest : source % mq_at plan.groups j ≡ 0 = ap (λ m. source % m) one ∙ mod-one source in
      (by_bytes plan (widened version_2 version_3 narrower-2-3 plan within)).stations packets n
      ∙ ((let whole : station_by plan source route ≡ j = omega arith in whole) ∙ ap (λ (m : ℕ). route % m) all);
  events = λ e event station there at. let mq = within.each_event e event there in let inside = at-within station event at in let few = reach-few event mq.some in
      let own = within.each_reach e event there in let one = own.children ∙ one-at plan.groups own.group ones own.there in omega arith;
}
  where
    ones : (k mq : ℕ) → slice_get plan.groups k ≡ Some mq → mq ≡ 1
    ones k mq at = let each = within.each_group k mq at in omega (arith, each.0, each.1)

    all : length plan.groups ≡ length plan.stations
    all = sym (ones-sum plan.groups ones) ∙ within.children

of-2 : (is_2 : Bool) (plan : Plan) → IsPlanOf (if is_2 then version_2 else version_1) plan → IsPlanOf version_2 plan
of-2 true plan within = within
of-2 false plan within = widened version_1 version_2 narrower-1-2 plan within

is-below-3 : (is_2 : Bool) → IsVersion (if is_2 then version_2 else version_1)
is-below-3 true = is-version_2
is-below-3 false = is-version_1

root_keeps_2 : (plan : Plan) (o : Option Members) → option_map_or (λ root. plan_by (below-3 root) root) o (Err NotToml) ≡ Ok plan → IsPlanOf version_2 plan
root_keeps_2 plan None answer = cc
root_keeps_2 plan (Some root) answer =
    let is_2 = version_in root == 2 in of-2 is_2 plan (accepted_by (if is_2 then version_2 else version_1) (is-below-3 is_2) root plan answer)

pub keeps_version_2 : (text : List ℕ) (plan : Plan) → HasNoVersion 3 text → HasNoVersion 4 text → HasNoVersion 5 text → plan_of text ≡ Ok plan → IsPlanOf version_2 plan × IsUngrouped plan
keeps_version_2 text plan not_3 not_4 not_5 answer =
    let within = root_keeps_2 plan (root_of text) (sym (reads_version_2 text not_3 not_4 not_5) ∙ answer) in (within, ungrouped plan within)

-- TEXTS OF VERSION 3, 2 OR 1

reads_root_3 : (o : Option Members) → IsSilent 4 o → IsSilent 5 o → option_map_or (λ root. plan_by (version_of root) root) o (Err NotToml) ≡ option_map_or (λ root. plan_by (below-4 root) root) o (Err NotToml)
reads_root_3 None not_4 not_5 = refl
reads_root_3 (Some root) not_4 not_5 = ap (λ version. plan_by version root) (no-4 (version_in root) (no-number root 4 (omega arith) (not_4 root refl)) (no-number root 5 (omega arith) (not_5 root refl)))

pub reads_version_3 : (text : List ℕ) → HasNoVersion 4 text → HasNoVersion 5 text → plan_of text ≡ option_map_or (λ root. plan_by (below-4 root) root) (root_of text) (Err NotToml)
unfolding plan_of
reads_version_3 text not_4 not_5 = reads_root_3 (root_of text) not_4 not_5

of-3 : (is_3 is_2 : Bool) (plan : Plan) → IsPlanOf (if is_3 then version_3 else if is_2 then version_2 else version_1) plan → IsPlanOf version_3 plan
of-3 true is_2 plan within = within
of-3 false true plan within = widened version_2 version_3 narrower-2-3 plan within
of-3 false false plan within = widened version_1 version_3 narrower-1-3 plan within

is-below-4 : (is_3 is_2 : Bool) → IsVersion (if is_3 then version_3 else if is_2 then version_2 else version_1)
is-below-4 true is_2 = is-version_3
is-below-4 false true = is-version_2
is-below-4 false false = is-version_1

root_keeps_3 : (plan : Plan) (o : Option Members) → option_map_or (λ root. plan_by (below-4 root) root) o (Err NotToml) ≡ Ok plan → IsPlanOf version_3 plan
root_keeps_3 plan None answer = cc
root_keeps_3 plan (Some root) answer =
    let is_3 = version_in root == 3 in let is_2 = version_in root == 2 in
    of-3 is_3 is_2 plan (accepted_by (if is_3 then version_3 else if is_2 then version_2 else version_1) (is-below-4 is_3 is_2) root plan answer)

pub keeps_version_3 : (text : List ℕ) (plan : Plan) → HasNoVersion 4 text → HasNoVersion 5 text → plan_of text ≡ Ok plan → IsPlanOf version_3 plan × IsByBytes plan
keeps_version_3 text plan not_4 not_5 answer =
    let within = root_keeps_3 plan (root_of text) (sym (reads_version_3 text not_4 not_5) ∙ answer) in (within, by_bytes plan within)

-- TEXTS OF VERSION 4, 3, 2 OR 1

abbrev pub below-5 : Members → Version
below-5 root = if version_in root == 4 then version_4 else if version_in root == 3 then version_3 else if version_in root == 2 then version_2 else version_1

reads_root_4 : (o : Option Members) → IsSilent 5 o → option_map_or (λ root. plan_by (version_of root) root) o (Err NotToml) ≡ option_map_or (λ root. plan_by (below-5 root) root) o (Err NotToml)
reads_root_4 None not_5 = refl
reads_root_4 (Some root) not_5 = ap (λ version. plan_by version root) (no-5 (version_in root) (no-number root 5 (omega arith) (not_5 root refl)))

pub reads_version_4 : (text : List ℕ) → HasNoVersion 5 text → plan_of text ≡ option_map_or (λ root. plan_by (below-5 root) root) (root_of text) (Err NotToml)
unfolding plan_of
reads_version_4 text not_5 = reads_root_4 (root_of text) not_5

of-4 : (is_4 is_3 is_2 : Bool) (plan : Plan) → IsPlanOf (if is_4 then version_4 else if is_3 then version_3 else if is_2 then version_2 else version_1) plan → IsPlanOf version_4 plan
of-4 true is_3 is_2 plan within = within
of-4 false true is_2 plan within = widened version_3 version_4 narrower-3-4 plan within
of-4 false false true plan within = widened version_2 version_4 narrower-2-4 plan within
of-4 false false false plan within = widened version_1 version_4 narrower-1-4 plan within

is-below-5 : (is_4 is_3 is_2 : Bool) → IsVersion (if is_4 then version_4 else if is_3 then version_3 else if is_2 then version_2 else version_1)
is-below-5 true is_3 is_2 = is-version_4
is-below-5 false is_3 is_2 = is-below-4 is_3 is_2

root_keeps_4 : (plan : Plan) (o : Option Members) → option_map_or (λ root. plan_by (below-5 root) root) o (Err NotToml) ≡ Ok plan → IsPlanOf version_4 plan
root_keeps_4 plan None answer = cc
root_keeps_4 plan (Some root) answer =
    let is_4 = version_in root == 4 in let is_3 = version_in root == 3 in let is_2 = version_in root == 2 in
    of-4 is_4 is_3 is_2 plan (accepted_by (if is_4 then version_4 else if is_3 then version_3 else if is_2 then version_2 else version_1) (is-below-5 is_4 is_3 is_2) root plan answer)

classified : (plan : Plan) (c : Classify) → plan.classify ≡ c → IsClassifyOf version_4 c → plan.classify ≡ Tos
classified plan Tos is of = is
classified plan Never is of = absurd (false≢true of)

pub keeps_version_4 : (text : List ℕ) (plan : Plan) → HasNoVersion 5 text → plan_of text ≡ Ok plan → IsPlanOf version_4 plan × IsUnlinked plan
keeps_version_4 text plan not_5 answer =
    let within = root_keeps_4 plan (root_of text) (sym (reads_version_4 text not_5) ∙ answer) in
    (within, record { classify = classified plan plan.classify refl within.classify; openings = λ packets n. opens-by version_4 plan packets n refl within })
