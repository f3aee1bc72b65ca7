-- A file header, and then pieces each of which is a whole record by itself, are a capture of just these records.
use Rattle.std.proofs.Common.{◌≡◌, ◌<◌, ◌≤◌, ◌+◌, ◌-◌, ◌++◌, ◌∷◌, [], ℕ, suc, List, length, take, drop, map, refl, sym, ap, ◌∙◌, subst, arith, length-append, length-drop, append_assoc, Bool, ◌||◌, inl, inr}
use Rattle.std.specs.Int.{w32, from_le_bytes, from_be_bytes}
use Rattle.std.specs.Prelude.{if◌then◌else◌}
use Rattle.std.specs.List.{AllByRecursion, flat_map, slice_range}
use Rattle.std.proofs.lemmas.Bool.{cases_lt}
use Rattle.std.proofs.lemmas.List.{take-append-le, drop-append-le, append-nil, map-append}
use Rattle.std.proofs.Math.Seq.{drop-append-add, take-length, take-append_seam}
use Rattle.lq_model.specs.Numbers.{first_numbers}
use Rattle.lq_model.specs.Capture.{Capture, number_at, short_number_at, is_magic, is_little_endian, major_version, place_of, end_of, captured_length, header_of, record_of, records_of}
use Rattle.lq_pcap.specs.Laws.{IsWholeRecord, HasFileHeader, IsCapture}

-- the number that four bytes are
abbrev pub number_of : Bool → List ℕ → ℕ
number_of little_endian four = if little_endian then from_le_bytes w32 four else from_be_bytes w32 four

-- the bytes are a whole record, whose captured length is the rest of them
pub record IsRecord (little_endian : Bool) (piece : List ℕ) : Type 0 where
  pub size : length piece ≡ 16 + number_of little_endian (slice_range piece 8 12)
  pub short : number_of little_endian (slice_range piece 8 12) ≤ 262144

-- what stands from a to b in a piece behind `front`
pub slice_of_piece : (front piece back : List ℕ) (a b : ℕ) → a ≤ b → b ≤ length piece → slice_range (front ++ (piece ++ back)) (length front + a) (length front + b) ≡ slice_range piece a b
slice_of_piece front piece back a b order within =
    let len : length front + b - (length front + a) ≡ b - a = omega arith in
    let in_left : b - a ≤ length (drop a piece) = omega (arith, length-drop a piece) in
    let outer : drop (length front + a) (front ++ (piece ++ back)) ≡ drop a piece ++ back = drop-append-add front (piece ++ back) a ∙ drop-append-le a piece back (omega arith) in
    rw (len, outer) (take-append-le (b - a) (drop a piece) back in_left)

-- the byte order is shown by the first four bytes, and a number by its own four
pub same_order : (text bytes : List ℕ) → slice_range text 0 4 ≡ slice_range bytes 0 4 → is_little_endian text ≡ is_little_endian bytes
same_order text bytes e = ap (λ (part : List ℕ). is_magic (from_le_bytes w32 part)) e

pub number_here : (text : List ℕ) (place : ℕ) → number_at text place ≡ number_of (is_little_endian text) (slice_range text place (place + 4))
unfolding number_at
number_here text place = refl

pub same_version : (text bytes : List ℕ) → is_little_endian text ≡ is_little_endian bytes → slice_range text 4 6 ≡ slice_range bytes 4 6 → major_version text ≡ major_version bytes
unfolding short_number_at
same_version text bytes order e = rw (order, e) refl

-- a record behind `front` is whole there, and is this piece
record StandsAt (text front piece : List ℕ) : Type 0 where
  whole : IsWholeRecord text (length front)
  ends : end_of text (length front) ≡ length (front ++ piece)
  same : slice_range text (length front) (end_of text (length front)) ≡ piece

stands_at : (text front piece back : List ℕ) → IsRecord (is_little_endian text) piece → text ≡ front ++ (piece ++ back) → StandsAt text front piece
stands_at text front piece back r is =
    let f = length front in
    let little = is_little_endian text in
    let captured = number_of little (slice_range piece 8 12) in
    let size = r.size in
    let short = r.short in
    let behind : f + 8 + 4 ≡ f + 12 = omega arith in
    let field : slice_range text (f + 8) (f + 8 + 4) ≡ slice_range piece 8 12 = rw behind (ap (λ (t : List ℕ). slice_range t (f + 8) (f + 12)) is ∙ slice_of_piece front piece back 8 12 (omega arith) (omega arith)) in
    let same_length : captured_length text f ≡ captured = number_here text (f + 8) ∙ ap (number_of little) field in
    let text_len : length text ≡ f + (length piece + length back) = ap length is ∙ length-append front (piece ++ back) ∙ ap (λ n. f + n) (length-append piece back) in
    let len = length-append front piece in
    let ends : end_of text f ≡ f + length piece = omega arith in
    let from_0 : f + 0 ≡ f = omega arith in
    let all : length piece - 0 ≡ length piece = omega arith in
    let part : slice_range text (f + 0) (f + length piece) ≡ piece =
    ap (λ (t : List ℕ). slice_range t (f + 0) (f + length piece)) is ∙ slice_of_piece front piece back 0 (length piece) (omega arith) (omega arith)
    ∙ ap (λ n. take n piece) all ∙ take-length piece
    in
    record {
      whole = record { has_header = omega arith; is_short = omega arith; has_data = omega arith };
      ends = omega arith;
      same = ap (slice_range text f) ends ∙ subst (λ n. slice_range text n (f + length piece) ≡ piece) from_0 part;
    }

-- the capture of these bytes with n records
abbrev pub text_of : List ℕ → ℕ → Capture
text_of text n = record { bytes = text; count = n }

-- Behind `front`, where record i begins, these pieces are whole records.
record AllStand (f : ℕ → List ℕ) (text : List ℕ) (xs : List ℕ) (i : ℕ) : Type 0 where
  ends : place_of text (i + length xs) ≡ length text
  whole : (j : ℕ) → i ≤ j → j < i + length xs → IsWholeRecord text (place_of text j)
  same : (n : ℕ) → map (record_of (text_of text n)) (first_numbers (i + length xs)) ≡ map (record_of (text_of text n)) (first_numbers i) ++ map f xs

all_stand :
    (f : ℕ → List ℕ) (text front : List ℕ) (xs : List ℕ) (i : ℕ) → AllByRecursion (λ x. IsRecord (is_little_endian text) (f x)) xs → place_of text i ≡ length front
    → text ≡ front ++ flat_map f xs → AllStand f text xs i
all_stand f text front [] i records begins is =
    let here : i + 0 ≡ i = omega arith in
    record {
      ends = ap (place_of text) here ∙ begins ∙ sym (ap length (is ∙ append-nil front));
      whole = λ j low high. absurd (omega arith);
      same = λ n. ap (λ k. map (record_of (text_of text n)) (first_numbers k)) here ∙ sym (append-nil (map (record_of (text_of text n)) (first_numbers i)));
    }
all_stand f text front (x ∷ xs) i records begins is =
    let back = flat_map f xs in
    let one = stands_at text front (f x) back records.0 is in
    let next : place_of text (suc i) ≡ length (front ++ f x) = ap (end_of text) begins ∙ one.ends in
    let rest = all_stand f text (front ++ f x) xs (suc i) records.1 next (is ∙ sym (append_assoc front (f x) back)) in
    let behind : suc i + length xs ≡ i + suc (length xs) = omega arith in
    let here : IsWholeRecord text (place_of text i) = subst (IsWholeRecord text) (sym begins) one.whole in
    let this : slice_range text (place_of text i) (place_of text (suc i)) ≡ f x = subst (λ p. slice_range text p (end_of text p) ≡ f x) (sym begins) one.same in
    record {
      ends = subst (λ k. place_of text k ≡ length text) behind rest.ends;
      whole = λ j low high. elim (cases_lt i j) [
        | inl above ↦ rest.whole j above (omega arith)
        | inr below ↦ (let same : i ≡ j = omega arith in subst (λ k. IsWholeRecord text (place_of text k)) same here)
      ];
      same = λ n.
          (let g = record_of (text_of text n) in
          let last : map g (first_numbers i ++ i ∷ []) ≡ map g (first_numbers i) ++ f x ∷ [] =
          map-append g (first_numbers i) (i ∷ []) ∙ ap (λ (r : List ℕ). map g (first_numbers i) ++ r ∷ []) this
          in
          subst (λ k. map g (first_numbers k) ≡ map g (first_numbers i) ++ map f (x ∷ xs)) behind
          (rest.same n ∙ ap (λ (rs : List (List ℕ)). rs ++ map f xs) last ∙ append_assoc (map g (first_numbers i)) (f x ∷ []) (map f xs)));
    }

-- the bytes are a capture, with this header and these records
pub record IsWritten (header : List ℕ) (records : List (List ℕ)) (capture : Capture) : Type 0 where
  pub is_capture : IsCapture capture.bytes capture
  pub same_header : header_of capture ≡ header
  pub same_records : records_of capture ≡ records

pub is_written :
    (header : List ℕ) (f : ℕ → List ℕ) (xs : List ℕ) → length header ≡ 24 → HasFileHeader header → length xs ≤ 1000000 → AllByRecursion (λ x. IsRecord (is_little_endian header) (f x)) xs
    → IsWritten header (map f xs) (text_of (header ++ flat_map f xs) (length xs))
is_written header f xs header_len good few records =
    let rest = flat_map f xs in
    let text = header ++ rest in
    let n = length xs in
    let first : slice_range text 0 4 ≡ slice_range header 0 4 = slice_of_piece [] header rest 0 4 (omega arith) (omega arith) in
    let order : is_little_endian text ≡ is_little_endian header = same_order text header first in
    let records' : AllByRecursion (λ x. IsRecord (is_little_endian text) (f x)) xs = subst (λ b. AllByRecursion (λ x. IsRecord b (f x)) xs) (sym order) records in
    let all = all_stand f text header xs 0 records' (sym header_len) refl in
    let from_0 : 0 + n ≡ n = omega arith in
    record {
      is_capture = record {
        same_bytes = refl;
        header = record {
          magic = record {
            long = (let len = length-append header rest in omega arith);
            magic = ap (λ (part : List ℕ). is_magic (from_le_bytes w32 part) || is_magic (from_be_bytes w32 part)) first ∙ good.magic.magic;
          };
          version = same_version text header order (slice_of_piece [] header rest 4 6 (omega arith) (omega arith)) ∙ good.version;
        };
        few = few;
        whole = λ j lt. all.whole j (omega arith) (omega arith);
        ends = subst (λ m. place_of text m ≡ length text) from_0 all.ends;
      };
      same_header = ap (λ m. take m text) (sym header_len) ∙ take-append_seam header rest;
      same_records = subst (λ m. map (record_of (text_of text n)) (first_numbers m) ≡ map f xs) from_0 (all.same n);
    }
