-- A capture file, taken apart: its head and its records.
use Rattle.std.proofs.Common.{◌≡◌, ◌<◌, ◌≤◌, ◌+◌, ◌-◌, ◌++◌, ◌∷◌, [], ℕ, zero, suc, Bool, true, false, cond, List, length, take, drop, map, All, Result, Ok, Err, refl, sym, ap, ◌∙◌, subst, arith, length-drop, inl, inr, get_or}
use Rattle.std.specs.Int.{w32, from_le_bytes, from_be_bytes}
use Rattle.std.specs.List.{concat, filter, flat_map, slice_range}
use Rattle.std.specs.Result.{result_map_both}
use Rattle.std.proofs.lemmas.Bool.{cases_Bool}
use Rattle.std.proofs.lemmas.List.{drop-take, take-take, drop-drop, length-take-le, take_all, map-append, append_assoc, append-nil}
use Rattle.std.proofs.lemmas.List.Folds.{concat-append}
use Rattle.std.proofs.lemmas.List.Elements.{All-cons, All-nil, All-from_get_or}
use lib.Seq.{take-add}
use Rattle.lq_model.proofs.FirstNumbers.{at_number, length_for_each}
use Rattle.lq_model.specs.Capture.{Capture, Refusal, capture_of, capture_text, captured_length, end_of, header_of, is_little_endian, is_magic, number_at, place_of, record_of, records_of}
use Rattle.lq_model.specs.Numbers.{first_numbers}
use Rattle.lq_pcap.proofs.Acceptance.{accepted_is}
use Rattle.lq_pcap.specs.Laws.{IsCapture}
use Rattle.lq_pcapng.proofs.Acceptance as ng
use Rattle.lq_pcapng.specs.File.{as_classic, capture_file_of, is_pcapng, packets_of_file, text_of}
use Rattle.lq_pcapng.specs.Laws.{AllFit, IsPcapng}
use Rattle.lq_pcapng.specs.Pcapng.{NgCapture, frame_in, is_interface, is_little_endian as is_little_endian_ng, link_in, number_in, order_of, packet_block, pcapng_of, without_length}
use Rattle.lq_pcapng.specs.declared.file.CaptureFile.{CaptureFile}
use Rattle.lq_pcapng.specs.declared.file.CaptureFile.TheVariants.{Classic, Pcapng}
use Rattle.lq_headline.specs.Page as page

-- a pcapng capture of these blocks
abbrev pub in_parts : List ℕ → List (List ℕ) → List (List ℕ) → NgCapture
in_parts first blocks records = record { section = first; interfaces = filter (is_interface (is_little_endian_ng first)) blocks; packets = records }

-- the capture of a file is taken apart into this head and these records, one for each of its packets
pub record Apart (file : List ℕ) (capture : CaptureFile) : Type 0 where
  pub head : List ℕ
  pub records : List (List ℕ)
  pub is_capture : page.IsCaptureFile file head records
  pub count : length records ≡ (packets_of_file capture).count
  -- the frames and the link types, by the format
  pub classic : is_pcapng file ≡ false
      → ((n : ℕ) → n < length records → (packets_of_file capture).frame n ≡ drop 16 (get_or records n [])) × ((n : ℕ) → (packets_of_file capture).link n ≡ number_in (is_little_endian head) head 20)
  pub pcapng : is_pcapng file ≡ true
      → (is : page.IsPcapngFile file head records)
      × ((n : ℕ) → (packets_of_file capture).frame n ≡ frame_in (in_parts is.first is.blocks records) (get_or records n []))
      × ((n : ℕ) → (packets_of_file capture).link n ≡ link_in (in_parts is.first is.blocks records) (get_or records n []))
  pub text : (packets : List ℕ) → All (λ n. n < (packets_of_file capture).count) packets → text_of capture packets ≡ head ++ flat_map (λ n. get_or records n []) packets

-- what gives the same for each of some numbers
same_pieces : (f g : ℕ → List ℕ) (packets : List ℕ) → All (λ n. f n ≡ g n) packets → flat_map f packets ≡ flat_map g packets
same_pieces f g [] same = refl
same_pieces f g (n ∷ packets) same =
    ap (λ xs. xs ++ flat_map f packets) (Rattle.std.proofs.lemmas.List.Elements.All-head (λ k. f k ≡ g k) n packets same)
    ∙ ap (λ xs. g n ++ xs) (same_pieces f g packets (Rattle.std.proofs.lemmas.List.Elements.All-tail (λ k. f k ≡ g k) n packets same))

-- THE CLASSIC FORMAT

-- a part of a part
slice_of_slice : (xs : List ℕ) (q e a b : ℕ) → a ≤ b → q + b ≤ e → slice_range (slice_range xs q e) a b ≡ slice_range xs (q + a) (q + b)
slice_of_slice xs q e a b order within =
    let m = e - q in
    let len : q + b - (q + a) ≡ b - a = omega arith in
    let rest : m ≡ a + (m - a) = omega arith in
    let dropped : drop a (take m (drop q xs)) ≡ take (m - a) (drop (q + a) xs) =
    ap (λ n. drop a (take n (drop q xs))) rest ∙ drop-take a (m - a) (drop q xs) ∙ ap (take (m - a)) (drop-drop a q xs)
    in
    rw (len, dropped) (take-take (b - a) (m - a) (drop (q + a) xs) (omega arith))

-- the number of four bytes, by either definition
number_here : (bytes : List ℕ) (place : ℕ) → number_at bytes place ≡ number_in (is_little_endian bytes) bytes place
unfolding number_at number_in
number_here bytes place = elim (cases_Bool (is_little_endian bytes)) [ inl one ↦ rw one refl | inr other ↦ rw other refl ]

number_there : (o : Bool) (xs ys : List ℕ) (i j : ℕ) → slice_range xs i (i + 4) ≡ slice_range ys j (j + 4) → number_in o xs i ≡ number_in o ys j
unfolding number_in
number_there o xs ys i j same = ap (λ (four : List ℕ). (cond o (from_le_bytes w32) (from_be_bytes w32)) four) same

module _ (c : Capture) (k : IsCapture c.bytes c) where
  header_long : 24 ≤ length c.bytes
  header_long = k.header.magic.long

  same_order : is_little_endian (header_of c) ≡ is_little_endian c.bytes
  same_order = ap (λ (part : List ℕ). is_magic (from_le_bytes w32 part)) (slice_of_slice c.bytes 0 24 0 4 (omega arith) (omega arith))

  -- the bytes up to a record are the header and the records before it
  taken_apart : (i : ℕ) → take (place_of c.bytes i) c.bytes ≡ header_of c ++ concat (map (record_of c) (first_numbers i))
  taken_apart zero = sym (append-nil (header_of c))
  taken_apart (suc i) =
      let p = place_of c.bytes i in
      let q = place_of c.bytes (suc i) in
      let more : q ≡ p + (q - p) = omega arith in
      let before = map (record_of c) (first_numbers i) in
      ap (λ n. take n c.bytes) more ∙ take-add p (q - p) c.bytes ∙ ap (λ (xs : List ℕ). xs ++ record_of c i) (taken_apart i)
      ∙ append_assoc (header_of c) (concat before) (record_of c i)
      ∙ ap (λ (xs : List ℕ). header_of c ++ xs) (
      ap (λ (xs : List ℕ). concat before ++ xs) (sym (append-nil (record_of c i))) ∙ sym (concat-append before (record_of c i ∷ []))
      ∙ ap concat (sym (map-append (record_of c) (first_numbers i) (i ∷ [])))
      )

  whole : c.bytes ≡ header_of c ++ concat (records_of c)
  whole = sym (take_all (length c.bytes) c.bytes (omega arith)) ∙ ap (λ n. take n c.bytes) (sym k.ends) ∙ taken_apart c.count

  size : (i : ℕ) → i < c.count → length (record_of c i) ≡ 16 + number_in (is_little_endian (header_of c)) (record_of c i) 8
  size i below =
      let w = k.whole i below in
      let q = place_of c.bytes i in
      let e = end_of c.bytes q in
      let inside = w.has_data in
      let part_len : length (record_of c i) ≡ e - q = length-take-le (e - q) (drop q c.bytes) (omega (arith, length-drop q c.bytes)) in
      let behind : q + 8 + 4 ≡ q + 12 = omega arith in
      let field : slice_range (record_of c i) 8 12 ≡ slice_range c.bytes (q + 8) (q + 8 + 4) = rw behind (slice_of_slice c.bytes q e 8 12 (omega arith) (omega arith)) in
      let told : number_in (is_little_endian (header_of c)) (record_of c i) 8 ≡ captured_length c.bytes q =
      ap (λ o. number_in o (record_of c i) 8) same_order ∙ number_there (is_little_endian c.bytes) (record_of c i) c.bytes 8 (q + 8) field ∙ sym (number_here c.bytes (q + 8)) in
      omega arith

  link-is : number_at c.bytes 20 ≡ number_in (is_little_endian (header_of c)) (header_of c) 20
  link-is = number_here c.bytes 20 ∙ number_there (is_little_endian c.bytes) c.bytes (header_of c) 20 20 (sym (slice_of_slice c.bytes 0 24 20 24 (omega arith) (omega arith)))
      ∙ ap (λ o. number_in o (header_of c) 20) (sym same_order)

  sizes : All (λ r. length r ≡ 16 + number_in (is_little_endian (header_of c)) r 8) (records_of c)
  sizes = All-from_get_or (λ r. length r ≡ 16 + number_in (is_little_endian (header_of c)) r 8) (records_of c) [] (λ i lt.
      (let len = length_for_each (record_of c) c.count in
      let below : i < c.count = omega arith in
      subst (λ r. length r ≡ 16 + number_in (is_little_endian (header_of c)) r 8) (sym (at_number (record_of c) c.count i [] below)) (size i below)))

  classic : page.IsClassicFile c.bytes (header_of c) (records_of c)
  classic = record { whole = whole; head_size = length-take-le 24 c.bytes header_long; sizes = sizes }

  classic_text : (packets : List ℕ) → All (λ n. n < c.count) packets → capture_text c packets ≡ header_of c ++ flat_map (λ n. get_or (records_of c) n []) packets
  classic_text packets below =
      ap (λ (xs : List ℕ). header_of c ++ xs) (same_pieces (record_of c) (λ n. get_or (records_of c) n []) packets
      (Rattle.std.proofs.lemmas.List.Elements.All-weaker (λ n. n < c.count) (λ n. record_of c n ≡ get_or (records_of c) n []) (λ n lt. sym (at_number (record_of c) c.count n [] lt)) packets below))

-- PCAPNG

-- each of blocks that fit has the size that it tells
fit_sizes : (timed o : Bool) (before blocks : List (List ℕ)) → AllFit timed o before blocks → All (λ block. (12 ≤ length block) × (length block ≡ number_in o block 4)) blocks
fit_sizes timed o before [] fit = All-nil (λ block. (12 ≤ length block) × (length block ≡ number_in o block 4))
fit_sizes timed o before (block ∷ blocks) fit =
    All-cons (λ b. (12 ≤ length b) × (length b ≡ number_in o b 4)) block blocks (fit.0.long, sym fit.0.told) (fit_sizes timed o (before ++ block ∷ []) blocks fit.2)

pcapng : (timed : Bool) (file : List ℕ) (c : NgCapture) → IsPcapng timed file c → page.IsPcapngFile file (without_length c.section ++ concat c.interfaces) c.packets
pcapng timed file c k = record {
  first = c.section;
  blocks = k.blocks;
  whole = k.whole;
  sizes = All-cons (λ block. (12 ≤ length block) × (length block ≡ number_in (order_of c) block 4)) c.section k.blocks (k.section.is_block.long, sym k.section.is_block.told) (fit_sizes timed (order_of c) [] k.blocks k.fit);
  records_are = k.packets;
  head_is = ap (λ (interfaces : List (List ℕ)). without_length c.section ++ concat interfaces) k.interfaces;
}

-- EITHER

mapped_ok : {A B E F : Type 0} (f : A → B) (g : E → F) (r : Result A E) (b : B) → result_map_both f g r ≡ Ok b → (a : A) × (r ≡ Ok a) × (f a ≡ b)
mapped_ok f g (Ok a) b e = (a, refl, cc)
mapped_ok f g (Err x) b e = cc

apart_classic : (file : List ℕ) (c : Capture) → is_pcapng file ≡ false → capture_of file ≡ Ok c → Apart file (Classic c)
apart_classic file c format accepted =
    let there : IsCapture file c = accepted_is file c accepted in
    let k : IsCapture c.bytes c = subst (λ b. IsCapture b c) (sym there.same_bytes) there in
    record {
      head = header_of c;
      records = records_of c;
      is_capture = record {
        classic = λ _. subst (λ b. page.IsClassicFile b (header_of c) (records_of c)) there.same_bytes (classic c k);
        pcapng = λ other. (let no : false ≡ true = sym format ∙ other in cc);
      };
      count = length_for_each (record_of c) c.count;
      classic = λ _. (λ n below. (let len = length_for_each (record_of c) c.count in ap (drop 16) (sym (at_number (record_of c) c.count n [] (omega arith)))), λ n. link-is c k);
      pcapng = λ other. (let no : false ≡ true = sym format ∙ other in cc);
      text = classic_text c k;
    }

apart_pcapng : (timed : Bool) (file : List ℕ) (c : NgCapture) → is_pcapng file ≡ true → pcapng_of timed file ≡ Ok c → Apart file (Pcapng c)
unfolding pcapng
apart_pcapng timed file c format accepted =
    let k : IsPcapng timed file c = ng.accepted_is timed file c accepted in
    record {
      head = without_length c.section ++ concat c.interfaces;
      records = c.packets;
      is_capture = record {
        classic = λ other. (let no : true ≡ false = sym format ∙ other in cc);
        pcapng = λ _. pcapng timed file c k;
      };
      count = refl;
      classic = λ other. (let no : true ≡ false = sym format ∙ other in cc);
      pcapng = λ _. (
        pcapng timed file c k,
        λ n. ap (λ (interfaces : List (List ℕ)). frame_in (record { section = c.section; interfaces = interfaces; packets = c.packets }) (packet_block c n)) k.interfaces,
        λ n. ap (λ (interfaces : List (List ℕ)). link_in (record { section = c.section; interfaces = interfaces; packets = c.packets }) (packet_block c n)) k.interfaces,
      );
      text = λ packets below. refl;
    }

pub apart : (timed : Bool) (file : List ℕ) (capture : CaptureFile) → capture_file_of timed file ≡ Ok capture → Apart file capture
apart timed file capture read =
    elim (cases_Bool (is_pcapng file)) [
      | inl one ↦ (
          let found = mapped_ok Pcapng (λ (r : Refusal). r) (pcapng_of timed file) capture
          (sym (ap (λ b. cond b (result_map_both Pcapng (λ (r : Refusal). r) (pcapng_of timed file)) (as_classic (capture_of file))) one) ∙ read) in
          subst (Apart file) found.2 (apart_pcapng timed file found.0 one found.1)
          )
      | inr other ↦ (
          let found = mapped_ok Classic (λ (r : Refusal). r) (capture_of file) capture
          (sym (ap (λ b. cond b (result_map_both Pcapng (λ (r : Refusal). r) (pcapng_of timed file)) (as_classic (capture_of file))) other) ∙ read) in
          subst (Apart file) found.2 (apart_classic file found.0 other found.1)
          )
    ]
