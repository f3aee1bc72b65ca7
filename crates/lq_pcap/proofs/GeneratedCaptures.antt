-- What is generated is a capture of just the records that are generated.
use Rattle.std.proofs.Common.{◌≡◌, ◌≤◌, ◌∷◌, [], ℕ, List, length, map, Result, refl, sym, subst, arith, IsOkAnd, lit≤}
use Rattle.std.specs.List.{AllByRecursion}
use Rattle.lq_model.proofs.FirstNumbers.{length-first_numbers}
use Rattle.lq_model.specs.Numbers.{first_numbers}
use Rattle.lq_model.specs.Capture.{Capture, Refusal, capture_of, header_of, is_little_endian, records_of, short_number_at}
use Rattle.lq_model.specs.Generated.{generated_capture, generated_header, generated_record}
use Rattle.lq_pcap.specs.Laws.{HasFileHeader}
use Rattle.lq_pcap.proofs.Acceptance.{is_accepted}
use Rattle.lq_pcap.proofs.Written.{IsRecord, is_written, text_of}

every : (P : ℕ → Type 0) → ((x : ℕ) → P x) → (xs : List ℕ) → AllByRecursion P xs
every P all [] = tt
every P all (x ∷ xs) = (all x, every P all xs)

good_header : HasFileHeader generated_header
unfolding short_number_at
good_header = record { magic = record { long = lit≤ tt; magic = refl }; version = refl }

good_record : (number i : ℕ) → IsRecord (is_little_endian generated_header) (generated_record number i)
good_record number i = record { size = refl; short = lit≤ tt }

pub generated_accepted :
    (number count : ℕ) → count ≤ 1000000
    → IsOkAnd (capture_of (generated_capture number count)) (λ c. (c.count ≡ count) × (header_of c ≡ generated_header) × (records_of c ≡ map (generated_record number) (first_numbers count)))
unfolding generated_capture
generated_accepted number count few =
    let f = generated_record number in
    let xs = first_numbers count in
    let text = generated_capture number count in
    let len = length-first_numbers count in
    let written = is_written generated_header f xs refl good_header (omega arith) (every (λ i. IsRecord (is_little_endian generated_header) (f i)) (good_record number) xs) in
    subst (λ (r : Result Capture Refusal). IsOkAnd r (λ c. (c.count ≡ count) × (header_of c ≡ generated_header) × (records_of c ≡ map f xs)))
    (sym (is_accepted text (text_of text (length xs)) written.is_capture)) (len, written.same_header, written.same_records)
