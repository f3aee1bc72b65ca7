-- What is written for records of a capture is a capture of just these records.
use Rattle.std.proofs.Common.{◌≡◌, ◌<◌, ◌≤◌, ◌+◌, ◌-◌, ℕ, List, length, take, drop, map, Result, Ok, sym, ap, ◌∙◌, subst, arith, length-drop, eqb, ◌||◌, IsOkAnd}
use Rattle.std.specs.Int.{w32, from_le_bytes, from_be_bytes}
use Rattle.std.specs.List.{All, IsDistinct, slice_range}
use Rattle.std.proofs.lemmas.Bool.{eqb-true}
use Rattle.std.proofs.lemmas.List.{drop-take, take-take, drop-drop, length-take-le}
use Rattle.std.proofs.lemmas.List.Elements.{All-contains, All-weaker, recursion_from_All}
use Rattle.std.proofs.lemmas.Map.Steps.{length-le_from_distinct_below}
use Rattle.std.proofs.lemmas.Map.Views.{Contains-from_any}
use Rattle.lq_model.specs.Capture.{Capture, Refusal, capture_of, capture_text, is_magic, is_little_endian, place_of, end_of, captured_length, header_of, record_of, records_of}
use Rattle.lq_pcap.specs.Laws.{IsWholeRecord, HasFileHeader, IsCapture}
use Rattle.lq_pcap.proofs.Acceptance.{accepted_is, is_accepted}
use Rattle.lq_pcap.proofs.Written.{IsRecord, IsWritten, is_written, number_here, number_of, same_order, same_version, text_of}

-- a part of a part
slice_of_slice : (xs : List ℕ) (q e a b : ℕ) → a ≤ b → q + b ≤ e → slice_range (slice_range xs q e) a b ≡ slice_range xs (q + a) (q + b)
slice_of_slice xs q e a b order within =
    let m = e - q in
    let len : q + b - (q + a) ≡ b - a = omega arith in
    let rest : m ≡ a + (m - a) = omega arith in
    let dropped : drop a (take m (drop q xs)) ≡ take (m - a) (drop (q + a) xs) =
    ap (λ n. drop a (take n (drop q xs))) rest ∙ drop-take a (m - a) (drop q xs) ∙ ap (take (m - a)) (drop-drop a q xs)
    in
    rw (len, dropped) (take-take (b - a) (m - a) (drop (q + a) xs) (omega arith))

-- a whole record of a capture is a record by itself
is_record : (c : Capture) (i : ℕ) → IsWholeRecord c.bytes (place_of c.bytes i) → IsRecord (is_little_endian c.bytes) (record_of c i)
is_record c i w =
    let q = place_of c.bytes i in
    let e = end_of c.bytes q in
    let little = is_little_endian c.bytes in
    let inside = w.has_data in
    let behind : q + 8 + 4 ≡ q + 12 = omega arith in
    let field : slice_range (record_of c i) 8 12 ≡ slice_range c.bytes (q + 8) (q + 8 + 4) = rw behind (slice_of_slice c.bytes q e 8 12 (omega arith) (omega arith)) in
    let captured : number_of little (slice_range (record_of c i) 8 12) ≡ captured_length c.bytes q = ap (number_of little) field ∙ sym (number_here c.bytes (q + 8)) in
    let part_len : length (record_of c i) ≡ e - q = length-take-le (e - q) (drop q c.bytes) (omega (arith, length-drop q c.bytes)) in
    record { size = omega arith; short = (let short = w.is_short in omega arith) }

-- the file header of a capture is one by itself
has_file_header : (c : Capture) → HasFileHeader c.bytes → HasFileHeader (header_of c)
has_file_header c good =
    let long = good.magic.long in
    let first : slice_range (header_of c) 0 4 ≡ slice_range c.bytes 0 4 = slice_of_slice c.bytes 0 24 0 4 (omega arith) (omega arith) in
    record {
      magic = record {
        long = (let len = length-take-le 24 c.bytes long in omega arith);
        magic = ap (λ (part : List ℕ). is_magic (from_le_bytes w32 part) || is_magic (from_be_bytes w32 part)) first ∙ good.magic.magic;
      };
      version = same_version (header_of c) c.bytes (same_order (header_of c) c.bytes first) (slice_of_slice c.bytes 0 24 4 6 (omega arith) (omega arith)) ∙ good.version;
    }

-- records of a capture, each once, under its header
written_again : (c : Capture) (packets : List ℕ) → IsCapture c.bytes c → All (λ i. i < c.count) packets → IsDistinct eqb packets → IsWritten (header_of c) (map (record_of c) packets) (text_of (capture_text c packets) (length packets))
written_again c packets k below distinct =
    let good = has_file_header c k.header in
    let first : slice_range (header_of c) 0 4 ≡ slice_range c.bytes 0 4 = slice_of_slice c.bytes 0 24 0 4 (omega arith) (omega arith) in
    let order : is_little_endian (header_of c) ≡ is_little_endian c.bytes = same_order (header_of c) c.bytes first in
    let few : length packets ≤ c.count =
    length-le_from_distinct_below packets c.count distinct (λ q found. All-contains (λ i. i < c.count) packets q below (Contains-from_any eqb-true q packets found))
    in
    let R = λ (i : ℕ). IsRecord (is_little_endian (header_of c)) (record_of c i) in
    let records = recursion_from_All R packets (All-weaker (λ i. i < c.count) R (λ i lt. subst (λ b. IsRecord b (record_of c i)) (sym order) (is_record c i (k.whole i lt))) packets below) in
    is_written (header_of c) (record_of c) packets (length-take-le 24 c.bytes k.header.magic.long) good (let most = k.few in omega arith) records

pub accepted_again :
    (bytes : List ℕ) (c : Capture) (packets : List ℕ) → capture_of bytes ≡ Ok c → All (λ i. i < c.count) packets → IsDistinct eqb packets
    → IsOkAnd (capture_of (capture_text c packets)) (λ again. (header_of again ≡ header_of c) × (records_of again ≡ map (record_of c) packets))
accepted_again bytes c packets accepted all distinct =
    let k : IsCapture c.bytes c = (let there = accepted_is bytes c accepted in subst (λ b. IsCapture b c) (sym there.same_bytes) there) in
    let text = capture_text c packets in
    let again = text_of text (length packets) in
    let written = written_again c packets k all distinct in
    subst (λ (r : Result Capture Refusal). IsOkAnd r (λ d. (header_of d ≡ header_of c) × (records_of d ≡ map (record_of c) packets))) (sym (is_accepted text again written.is_capture)) (written.same_header, written.same_records)
