-- Bytes are a capture exactly where they are a file header and whole records; a refusal names the first fault.
use Rattle.std.proofs.Common.{◌≡◌, ◌<◌, ◌≤◌, ◌+◌, ℕ, zero, suc, List, length, Result, Ok, Err, refl, sym, ap, ◌∙◌, subst, arith, Bool, true, false, cond, ltb, eqb, not, ◌||◌}
use Rattle.std.specs.Result.{result_map_both}
use Rattle.std.proofs.lemmas.Bool.{ltb-false, le-ltb, eqb-true, eq-eqb, not-false}
use Rattle.lq_model.specs.Capture.{Capture, Refusal, capture_of, place_of, count_from, is_little_endian, is_big_endian, major_version}
use Rattle.lq_model.specs.declared.capture.CaptureReason.TheVariants.{ShortHeader, Magic, Version}
use Rattle.lq_pcap.specs.Laws.{IsWholeRecord, IsCapture}
use Rattle.lq_pcap.proofs.Walk.{counted, counts}

-- the capture of so many records
abbrev pub counted_in : List ℕ → Result ℕ Refusal → Result Capture Refusal
counted_in bytes count = result_map_both (λ count. record { bytes = bytes; count = count }) (λ r. r) count

-- three tests of which none refuses
passes_all :
    (a b c : Bool) (x y z : Refusal) (bytes : List ℕ) (r : Result ℕ Refusal) (capture : Capture)
    → cond a (Err x) (cond b (Err y) (cond c (Err z) (counted_in bytes r))) ≡ Ok capture
    → (a ≡ false) × (b ≡ false) × (c ≡ false) × (r ≡ Ok capture.count) × (capture.bytes ≡ bytes)
passes_all true b c x y z bytes r capture e = cc
passes_all false true c x y z bytes r capture e = cc
passes_all false false true x y z bytes r capture e = cc
passes_all false false false x y z bytes (Ok n) capture e =
    let same : record { bytes = bytes; count = n } ≡ capture = cc in
    (refl, refl, refl, ap (λ (k : Capture). Ok k.count) same, ap (λ (k : Capture). k.bytes) (sym same))
passes_all false false false x y z bytes (Err f) capture e = cc

pub accepted_is : (bytes : List ℕ) (capture : Capture) → capture_of bytes ≡ Ok capture → IsCapture bytes capture
accepted_is bytes capture e =
    let magic = is_little_endian bytes || is_big_endian bytes in
    let tests =
    passes_all (ltb (length bytes) 24) (not magic) (not (eqb (major_version bytes) 2)) (record { reason = ShortHeader; place = length bytes }) (record { reason = Magic; place = 0 })
    (record { reason = Version; place = 4 }) bytes (count_from bytes 1000000 0) capture e
    in
    let long : 24 ≤ length bytes = ltb-false (length bytes) 24 tests.0 in
    let walk = counted bytes 1000000 0 capture.count tests.3 in
    record {
      same_bytes = tests.4;
      header = record {
        magic = record { long = long; magic = not-false magic tests.1 };
        version = eqb-true (major_version bytes) 2 (not-false (eqb (major_version bytes) 2) tests.2);
      };
      few = walk.few;
      whole = λ i below. walk.whole i (omega arith) below;
      ends = ends_there bytes capture.count long walk.whole walk.ends;
    }
  where
    -- a place that is past no end, and where no byte is left, is the end
    ends_there : (bytes : List ℕ) (n : ℕ) → 24 ≤ length bytes → ((j : ℕ) → 0 ≤ j → j < n → IsWholeRecord bytes (place_of bytes j)) → length bytes ≤ place_of bytes n → place_of bytes n ≡ length bytes
    ends_there bytes zero long whole ends = omega arith
    ends_there bytes (suc n) long whole ends = let within = (whole n (omega arith) (omega arith)).has_data in omega arith

pub is_accepted : (bytes : List ℕ) (capture : Capture) → IsCapture bytes capture → capture_of bytes ≡ Ok capture
is_accepted bytes capture c =
    let magic = is_little_endian bytes || is_big_endian bytes in
    let n = capture.count in
    let from_0 : 0 + n ≡ n = omega arith in
    let ends : length bytes ≤ place_of bytes n = (let at_end = c.ends in omega arith) in
    let walk : count_from bytes 1000000 0 ≡ Ok n =
    counts bytes 1000000 0 n c.few (λ j low below. c.whole j (omega arith)) (subst (λ k. length bytes ≤ place_of bytes k) (sym from_0) ends) ∙ ap Ok from_0
    in
    rw (le-ltb (length bytes) 24 c.header.magic.long, c.header.magic.magic, eq-eqb (major_version bytes) 2 c.header.version, walk)
    (ap (λ (b : List ℕ). Ok (let it : Capture = record { bytes = b; count = n } in it)) (sym c.same_bytes))
