-- The reader's walk along the blocks.
use Rattle.std.proofs.Common.{◌≡◌, ◌<◌, ◌≤◌, ◌+◌, ◌-◌, ◌++◌, ◌∷◌, [], ℕ, zero, suc, List, length, take, drop, map, filter, Option, Some, None, Result, Ok, Err, refl, sym, ap, ◌∙◌, subst, arith, Bool, true, false, cond, eqb, ◌||◌, get_or, inl, inr, length-drop, IsErrAnd}
use Rattle.std.proofs.lemmas.Bool.{cases_eq, ne_eqb}
use Rattle.std.proofs.lemmas.List.{drop-drop, length-map, length-append, map-append, append-nil, get_or_append_left, get_or_push}
use Rattle.std.proofs.lemmas.List.Elements.{filter-append}
use Rattle.std.proofs.Math.Seq.{take-length}
use Rattle.lq_model.specs.Capture.{Refusal}
use Rattle.lq_pcapng.specs.Pcapng.{NgCapture, block_fault, block_in, blocks_behind, blocks_from, interfaces_in, is_interface, is_little_endian, is_packet, number_in, packets_in, pcapng_of, section_fault, total_length}
use Rattle.lq_pcap.specs.Reading.{Gives, IsCaptureRefusal}
use Rattle.lq_pcap.specs.declared.refusal.CaptureRefusal.{CaptureRefusal}
use Rattle.lq_pcap.specs.declared.refusal.CaptureRefusal.TheVariants.{Refused, NoMemory}
use Rattle.lq_pcapng.specs.Reading.{AreInterfaces, ArePackets, IsFault, IsInterface, IsPacket, IsWholeAt, IsWholeLength, block_at, blocks_at}
use Rattle.lq_pcapng.specs.View.{IsRead, capture_at}
use Rattle.lq_pcapng.proofs.Fits.{is_packet_behind_more, number_in-take, whole_from_none}

-- one step of the walk
pub blocks_end : (timed little_endian : Bool) (more place : ℕ) (before : List (List ℕ)) (rest : List ℕ) → length rest ≡ 0 → blocks_from timed little_endian more place before rest ≡ Ok before
unfolding blocks_from
blocks_end timed little_endian zero place before rest ends = refl
blocks_end timed little_endian (suc more) place before rest ends = rw ends refl

pub blocks_go_on :
    (timed little_endian : Bool) (more place : ℕ) (before : List (List ℕ)) (rest : List ℕ) → 0 < length rest → block_fault timed little_endian place (interfaces_in little_endian before) (length (packets_in little_endian before)) rest ≡ None
    → blocks_from timed little_endian (suc more) place before rest
    ≡ blocks_from timed little_endian more (place + total_length little_endian rest) (before ++ block_in little_endian rest ∷ []) (drop (total_length little_endian rest) rest)
unfolding blocks_from
blocks_go_on timed little_endian more place before rest some none = rw (ne_eqb (length rest) 0 (λ e. omega arith), none) refl

pub blocks_fault :
    (timed little_endian : Bool) (more place : ℕ) (before : List (List ℕ)) (rest : List ℕ) (r : Refusal) → 0 < length rest
    → block_fault timed little_endian place (interfaces_in little_endian before) (length (packets_in little_endian before)) rest ≡ Some r → blocks_from timed little_endian (suc more) place before rest ≡ Err r
unfolding blocks_from
blocks_fault timed little_endian more place before rest r some fault = rw (ne_eqb (length rest) 0 (λ e. omega arith), fault) refl

-- A reader that stands at this place has these interfaces and packets of the blocks before it.
pub record Walks (timed : Bool) (bytes interfaces packets : List ℕ) (place : ℕ) : Type 0 where
  pub more : ℕ
  pub before : List (List ℕ)
  pub room : length (drop place bytes) ≤ more
  pub within : place ≤ length bytes
  pub interfaces_are : interfaces_in (is_little_endian bytes) before ≡ blocks_at (is_little_endian bytes) bytes interfaces
  pub packets_are : packets_in (is_little_endian bytes) before ≡ blocks_at (is_little_endian bytes) bytes packets
  pub goes_on : blocks_from timed (is_little_endian bytes) more place before (drop place bytes) ≡ blocks_behind timed (is_little_endian bytes) bytes
  pub whole_interfaces : AreInterfaces (is_little_endian bytes) bytes interfaces
  pub whole_packets : ArePackets (is_little_endian bytes) bytes (blocks_at (is_little_endian bytes) bytes interfaces) packets

pub walks_first : (timed : Bool) (bytes : List ℕ) (first : ℕ) → first ≡ total_length (is_little_endian bytes) bytes → first ≤ length bytes → Walks timed bytes [] [] first
walks_first timed bytes first is within = record {
  more = length bytes;
  before = [];
  room = (let len = length-drop first bytes in omega arith);
  within = within;
  interfaces_are = refl;
  packets_are = refl;
  goes_on = ap (λ n. blocks_from timed (is_little_endian bytes) (length bytes) n [] (drop n bytes)) is;
  whole_interfaces = record { whole = λ i below. absurd (omega arith); each = λ i below. absurd (omega arith) };
  whole_packets = record { few = omega arith; whole = λ i below. absurd (omega arith); each = λ i below. absurd (omega arith) };
}

-- what holds of each place and of one more, if it is taken
taken : (P : ℕ → Type 0) (xs : List ℕ) (y : ℕ) (b : Bool) → ((i : ℕ) → i < length xs → P (get_or xs i 0)) → (b ≡ true → P y) → (i : ℕ) → i < length (xs ++ cond b (y ∷ []) []) → P (get_or (xs ++ cond b (y ∷ []) []) i 0)
taken P xs y false each last i below =
    let same : xs ++ [] ≡ xs = append-nil xs in
    subst (λ (zs : List ℕ). P (get_or zs i 0)) (sym same) (each i (subst (λ (zs : List ℕ). i < length zs) same below))
taken P xs y true each last i below =
    elim (cases_eq i (length xs)) [
      | inl e ↦ subst (λ (n : ℕ). P (get_or (xs ++ y ∷ []) n 0)) (sym e) (subst P (sym (get_or_push xs y 0 (length xs) refl)) (last refl))
      | inr ne ↦
          let within : i < length xs = (let len = length-append xs (y ∷ []) in omega arith) in
          subst P (sym (get_or_append_left xs (y ∷ []) 0 i within)) (each i within)
    ]

-- the blocks that are kept of those before, and of one more
kept_more :
    (p : List ℕ → Bool) (f : ℕ → List ℕ) (before : List (List ℕ)) (places : List ℕ) (place : ℕ) (block : List ℕ) (b : Bool) → filter p before ≡ map f places → block ≡ f place → p block ≡ b
    → filter p (before ++ block ∷ []) ≡ map f (places ++ cond b (place ∷ []) [])
kept_more p f before places place block b are is test =
    filter-append p before (block ∷ []) ∙ ap (λ (xs : List (List ℕ)). xs ++ filter p (block ∷ [])) are ∙ ap (λ (xs : List (List ℕ)). map f places ++ xs) (one b test)
    ∙ sym (map-append f places (cond b (place ∷ []) []))
  where
    one : (b : Bool) → p block ≡ b → filter p (block ∷ []) ≡ map f (cond b (place ∷ []) [])
    one true t = rw t (ap (λ (x : List ℕ). x ∷ []) is)
    one false t = rw t refl

-- what the reader learns of the block at its place
pub record IsNext (timed : Bool) (bytes interfaces packets : List ℕ) (place len block_type : ℕ) : Type 0 where
  pub below : place < length bytes
  pub no_fault : block_fault timed (is_little_endian bytes) place (blocks_at (is_little_endian bytes) bytes interfaces) (length packets) (drop place bytes) ≡ None
  pub len_is : len ≡ total_length (is_little_endian bytes) (drop place bytes)
  pub long : 12 ≤ len
  pub whole : len ≤ length (drop place bytes)
  pub type_is : block_type ≡ number_in (is_little_endian bytes) (drop place bytes) 0

same_fault :
    (timed : Bool) (bytes interfaces packets : List ℕ) (place : ℕ) (w : Walks timed bytes interfaces packets place)
    → block_fault timed (is_little_endian bytes) place (interfaces_in (is_little_endian bytes) w.before) (length (packets_in (is_little_endian bytes) w.before)) (drop place bytes)
    ≡ block_fault timed (is_little_endian bytes) place (blocks_at (is_little_endian bytes) bytes interfaces) (length packets) (drop place bytes)
same_fault timed bytes interfaces packets place w =
    let o = is_little_endian bytes in
    let count : length (packets_in o w.before) ≡ length packets = ap length w.packets_are ∙ length-map packets (block_at o bytes) in
    ap (λ n. block_fault timed o place (interfaces_in o w.before) n (drop place bytes)) count
    ∙ ap (λ (is : List (List ℕ)). block_fault timed o place is (length packets) (drop place bytes)) w.interfaces_are

pub walks_more :
    (timed : Bool) (bytes interfaces packets : List ℕ) (place len block_type : ℕ) → Walks timed bytes interfaces packets place → IsNext timed bytes interfaces packets place len block_type
    → Walks timed bytes (interfaces ++ cond (eqb block_type 1) (place ∷ []) []) (packets ++ cond (eqb block_type 6 || eqb block_type 3) (place ∷ []) []) (place + len)
walks_more timed bytes interfaces packets place len block_type w n =
    let o = is_little_endian bytes in
    let rest = drop place bytes in
    let block = block_in o rest in
    let is = blocks_at o bytes interfaces in
    let long = n.long in
    let len_is = n.len_is in
    let whole = n.whole in
    let room = w.room in
    let left = length-drop place bytes in
    let within = w.within in
    let below = n.below in
    let one_more : w.more ≡ suc (w.more - 1) = omega arith in
    let type_in : number_in o block 0 ≡ block_type = number_in-take o rest (total_length o rest) 0 (omega arith) ∙ sym n.type_is in
    let as_interface : is_interface o block ≡ eqb block_type 1 = ap (λ t. eqb t 1) type_in in
    let as_packet : is_packet o block ≡ (eqb block_type 6 || eqb block_type 3) = ap (λ t. eqb t 6 || eqb t 3) type_in in
    let fits = (whole_from_none timed o place is (length packets) rest n.no_fault).fits in
    let is_whole : IsWholeAt o bytes place = record { long = omega arith; within = omega arith } in
    let interfaces' = interfaces ++ cond (eqb block_type 1) (place ∷ []) [] in
    let more_interfaces : blocks_at o bytes interfaces' ≡ is ++ blocks_at o bytes (cond (eqb block_type 1) (place ∷ []) []) = map-append (block_at o bytes) interfaces (cond (eqb block_type 1) (place ∷ []) []) in
    let still : (b : List ℕ) → IsPacket o is b → IsPacket o (blocks_at o bytes interfaces') b =
    λ b p. subst (λ (js : List (List ℕ)). IsPacket o js b) (sym more_interfaces) (is_packet_behind_more o is (blocks_at o bytes (cond (eqb block_type 1) (place ∷ []) [])) b p) in
    let rest_is : drop (total_length o rest) rest ≡ drop (place + len) bytes = ap (λ k. drop k rest) (sym len_is) ∙ drop-drop len place bytes in
    let some : 0 < length rest = omega arith in
    record {
      more = w.more - 1;
      before = w.before ++ block ∷ [];
      room = (let len_left = length-drop (place + len) bytes in omega arith);
      within = omega arith;
      interfaces_are = kept_more (is_interface o) (block_at o bytes) w.before interfaces place block (eqb block_type 1) w.interfaces_are refl as_interface;
      packets_are = kept_more (is_packet o) (block_at o bytes) w.before packets place block (eqb block_type 6 || eqb block_type 3) w.packets_are refl as_packet;
      goes_on =
          ap (λ k. blocks_from timed o (w.more - 1) (place + k) (w.before ++ block ∷ []) (drop (place + len) bytes)) len_is
          ∙ ap (blocks_from timed o (w.more - 1) (place + total_length o rest) (w.before ++ block ∷ [])) (sym rest_is)
          ∙ sym (blocks_go_on timed o (w.more - 1) place w.before rest some (same_fault timed bytes interfaces packets place w ∙ n.no_fault))
          ∙ ap (λ m. blocks_from timed o m place w.before rest) (sym one_more) ∙ w.goes_on;
      whole_interfaces = record {
        whole = taken (IsWholeAt o bytes) interfaces place (eqb block_type 1) w.whole_interfaces.whole (λ b. is_whole);
        each = taken (λ q. IsInterface o (block_at o bytes q)) interfaces place (eqb block_type 1) w.whole_interfaces.each (λ b. fits.as_interface (as_interface ∙ b));
      };
      whole_packets = record {
        few = few_more (eqb block_type 6 || eqb block_type 3) w.whole_packets.few (λ b. fits.few (as_packet ∙ b));
        whole = taken (IsWholeAt o bytes) packets place (eqb block_type 6 || eqb block_type 3) w.whole_packets.whole (λ b. is_whole);
        each = taken (λ q. IsPacket o (blocks_at o bytes interfaces') (block_at o bytes q)) packets place (eqb block_type 6 || eqb block_type 3)
            (λ i lt. still (block_at o bytes (get_or packets i 0)) (w.whole_packets.each i lt)) (λ b. still block (fits.as_packet (as_packet ∙ b)));
      };
    }
  where
    few_more : (b : Bool) → length packets ≤ 1000000 → (b ≡ true → length packets < 1000000) → length (packets ++ cond b (place ∷ []) []) ≤ 1000000
    few_more true few more = let len = length-append packets (place ∷ []) in let lt = more refl in omega arith
    few_more false few more = subst (λ (ps : List ℕ). length ps ≤ 1000000) (sym (append-nil packets)) few

-- at the end of the file the blocks are all
pub walks_end : (timed : Bool) (bytes interfaces packets : List ℕ) (place : ℕ) → section_fault bytes ≡ None → Walks timed bytes interfaces packets place → length bytes ≤ place → pcapng_of timed bytes ≡ Ok (capture_at bytes interfaces packets)
unfolding pcapng_of
walks_end timed bytes interfaces packets place no_fault w ends =
    let o = is_little_endian bytes in
    let none_left : length (drop place bytes) ≡ 0 = (let len = length-drop place bytes in omega arith) in
    let walk : blocks_behind timed o bytes ≡ Ok w.before = sym w.goes_on ∙ blocks_end timed o w.more place w.before (drop place bytes) none_left in
    let answer : NgCapture → Result NgCapture Refusal = λ c. Ok c in
    rw (no_fault, walk)
    (ap (λ (is : List (List ℕ)). answer (record { section = block_in o bytes; interfaces = is; packets = packets_in o w.before })) w.interfaces_are
    ∙ ap (λ (ps : List (List ℕ)). answer (record { section = block_in o bytes; interfaces = blocks_at o bytes interfaces; packets = ps })) w.packets_are)

pub walks_fault :
    (timed : Bool) (bytes interfaces packets : List ℕ) (place : ℕ) (r : Refusal) → section_fault bytes ≡ None → Walks timed bytes interfaces packets place → place < length bytes
    → block_fault timed (is_little_endian bytes) place (blocks_at (is_little_endian bytes) bytes interfaces) (length packets) (drop place bytes) ≡ Some r → pcapng_of timed bytes ≡ Err r
unfolding pcapng_of
walks_fault timed bytes interfaces packets place r no_fault w below fault =
    let o = is_little_endian bytes in
    let some : 0 < length (drop place bytes) = (let len = length-drop place bytes in omega arith) in
    let room = w.room in
    let one_more : w.more ≡ suc (w.more - 1) = omega arith in
    let walk : blocks_behind timed o bytes ≡ Err r =
    sym w.goes_on ∙ ap (λ m. blocks_from timed o m place w.before (drop place bytes)) one_more
    ∙ blocks_fault timed o (w.more - 1) place w.before (drop place bytes) r some (same_fault timed bytes interfaces packets place w ∙ fault) in
    rw (no_fault, walk) refl

pub section_refused : (timed : Bool) (bytes : List ℕ) (r : Refusal) → section_fault bytes ≡ Some r → pcapng_of timed bytes ≡ Err r
unfolding pcapng_of
section_refused timed bytes r fault = rw fault refl

-- a fault that is answered is the refusal
pub refusal_of : {T : Type 0} (fault : Option Refusal) (answer : Result T Refusal) (refusal : CaptureRefusal) → IsFault fault refusal → ((r : Refusal) → fault ≡ Some r → answer ≡ Err r) → IsCaptureRefusal answer refusal
refusal_of fault answer (Refused reason place) is refused = refused (record { reason = reason; place = place }) is
refusal_of fault answer NoMemory is refused = absurd is

pub is_read : (timed : Bool) (bytes interfaces packets : List ℕ) (place first : ℕ) → first ≡ total_length (is_little_endian bytes) bytes → 28 ≤ first → first ≤ length bytes → Walks timed bytes interfaces packets place → IsRead bytes interfaces packets
is_read timed bytes interfaces packets place first is long within w = record {
  section = record { long = omega arith; within = omega arith };
  section_long = omega arith;
  interfaces_are = w.whole_interfaces;
  packets_are = w.whole_packets;
}

-- what the reader's call for the length of a block answers
pub is_next :
    (timed : Bool) (bytes interfaces packets : List ℕ) (place len block_type : ℕ) (o : Bool) → o ≡ is_little_endian bytes → place < length bytes
    → IsWholeLength timed o place (blocks_at o bytes interfaces) (length packets) (drop place bytes) (Ok len) → block_type ≡ number_in o (drop place bytes) 0
    → IsNext timed bytes interfaces packets place len block_type
is_next timed bytes interfaces packets place len block_type o order below is type_is =
    let all = subst (λ b. IsWholeLength timed b place (blocks_at b bytes interfaces) (length packets) (drop place bytes) (Ok len)) order is in
    record {
      below = below;
      no_fault = all.0;
      len_is = all.1;
      long = all.2;
      whole = all.3;
      type_is = type_is ∙ ap (λ b. number_in b (drop place bytes) 0) order;
    }

pub walks_refused :
    (timed : Bool) (bytes interfaces packets : List ℕ) (place : ℕ) (o : Bool) (refusal : CaptureRefusal) → o ≡ is_little_endian bytes → section_fault bytes ≡ None → Walks timed bytes interfaces packets place → place < length bytes
    → IsFault (block_fault timed o place (blocks_at o bytes interfaces) (length packets) (drop place bytes)) refusal → IsCaptureRefusal (pcapng_of timed bytes) refusal
walks_refused timed bytes interfaces packets place o refusal order no_fault w below is =
    refusal_of (block_fault timed (is_little_endian bytes) place (blocks_at (is_little_endian bytes) bytes interfaces) (length packets) (drop place bytes)) (pcapng_of timed bytes) refusal
    (subst (λ b. IsFault (block_fault timed b place (blocks_at b bytes interfaces) (length packets) (drop place bytes)) refusal) order is)
    (λ r fault. walks_fault timed bytes interfaces packets place r no_fault w below fault)

pub first_refused : (timed : Bool) (bytes : List ℕ) (refusal : CaptureRefusal) → IsFault (section_fault bytes) refusal → IsCaptureRefusal (pcapng_of timed bytes) refusal
first_refused timed bytes refusal is = refusal_of (section_fault bytes) (pcapng_of timed bytes) refusal is (section_refused timed bytes)

-- a refusal that a call hands on
pub handed_on : {R T : Type 0} (view : R → T) (r : Result R CaptureRefusal) (refusal : CaptureRefusal) (answer : Result T Refusal) → IsErrAnd r (λ e. e ≡ refusal) → IsCaptureRefusal answer refusal → Gives view r answer
handed_on view (Ok value) refusal answer is of = absurd is
handed_on view (Err e) refusal answer is of = subst (IsCaptureRefusal answer) (sym is) of

-- the rest of a list from a place on, as a slice
pub slice_from : (xs : List ℕ) (n : ℕ) → take (length xs - n) (drop n xs) ≡ drop n xs
slice_from xs n = ap (λ k. take k (drop n xs)) (sym (length-drop n xs)) ∙ take-length (drop n xs)
