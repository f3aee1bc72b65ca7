-- What a block is that has no fault.
use Rattle.std.proofs.Common.{◌≡◌, ◌<◌, ◌≤◌, ◌+◌, ◌++◌, ℕ, List, length, Option, Some, None, refl, sym, ap, subst, arith, Bool, true, false, cond, ltb, leb, eqb, ◌&&◌, ◌||◌, not, [], take}
use Rattle.std.specs.Option.{option_map, option_or}
use Rattle.std.proofs.lemmas.Bool.{ltb-false, le-ltb, leb-false, lt-leb, eqb-true}
use Rattle.std.proofs.lemmas.List.{get_or_append_left, length-append}
use Rattle.lq_model.specs.Capture.{Refusal}
use Rattle.lq_pcapng.specs.Pcapng.{block_fault, block_in, block_type, body_fault, captured_length, data_place, has_whole_options, interface_at, interface_fault, interface_number, is_interface, is_packet, is_section, length_fault, number_in, packet_fault, padded, refuses_at}
use Rattle.lq_model.specs.declared.capture.CaptureReason.{CaptureReason}
use Rattle.lq_model.specs.declared.capture.CaptureReason.TheVariants.{LongRecord, TooMany, CutBlock, NoInterface, BlockBody, SecondSection}
use Rattle.lq_pcapng.specs.Reading.{Fits, IsPacket}
use Rattle.lq_pcapng.proofs.Places.{slice_range-take}

-- a block is of one type
pub not_packet : (little_endian : Bool) (block : List ℕ) → is_interface little_endian block ≡ true → is_packet little_endian block ≡ false
not_packet little_endian block e =
    let one : block_type little_endian block ≡ 1 = eqb-true (block_type little_endian block) 1 e in
    ap (λ n. eqb n 6 || eqb n 3) one

pub not_interface : (little_endian : Bool) (block : List ℕ) → is_packet little_endian block ≡ true → is_interface little_endian block ≡ false
not_interface little_endian block e = by_test (is_interface little_endian block) refl
  where
    by_test : (b : Bool) → is_interface little_endian block ≡ b → b ≡ false
    by_test false is = refl
    by_test true is = let never = not_packet little_endian block is in cc

-- a block of such a type is no section header block
pub no_section_of_interface : (o : Bool) (block : List ℕ) → is_interface o block ≡ true → is_section o block ≡ false
no_section_of_interface o block e = ap (λ n. eqb n 0x0a0d_0d0a) (eqb-true (block_type o block) 1 e)

pub no_section_of_packet : (o : Bool) (block : List ℕ) → is_packet o block ≡ true → is_section o block ≡ false
no_section_of_packet o block e = by_test (is_section o block) refl
  where
    by_test : (b : Bool) → is_section o block ≡ b → b ≡ false
    by_test false is = refl
    by_test true is =
        let type : block_type o block ≡ 0x0a0d_0d0a = eqb-true (block_type o block) 0x0a0d_0d0a is in
        let never : is_packet o block ≡ false = ap (λ n. eqb n 6 || eqb n 3) type in
        cc

-- with no fault none of four tests fails
none_of_four :
    (a b c d : Bool) (x y z w : CaptureReason) → cond a (Some x) (cond b (Some y) (cond c (Some z) (cond d (Some w) None))) ≡ None → (a ≡ false) × (b ≡ false) × (c ≡ false) × (d ≡ false)
none_of_four true b c d x y z w e = cc
none_of_four false true c d x y z w e = cc
none_of_four false false true d x y z w e = cc
none_of_four false false false true x y z w e = cc
none_of_four false false false false x y z w e = (refl, refl, refl, refl)

pub is_packet_from_none : (little_endian : Bool) (interfaces : List (List ℕ)) (block : List ℕ) → is_packet little_endian block ≡ true → packet_fault little_endian interfaces block ≡ None → IsPacket little_endian interfaces block
unfolding packet_fault
is_packet_from_none little_endian interfaces block kind e =
    let around = data_place little_endian block + 4 in
    let captured = captured_length little_endian interfaces block in
    let tests =
    none_of_four (ltb (length block) around) (leb (length interfaces) (interface_number little_endian block)) (ltb 262144 captured) (ltb (length block) (around + padded captured))
    BlockBody NoInterface LongRecord BlockBody e
    in
    record {
      kind = kind;
      long = ltb-false (length block) around tests.0;
      described = leb-false (length interfaces) (interface_number little_endian block) tests.1;
      short = ltb-false 262144 captured tests.2;
      whole = ltb-false (length block) (around + padded captured) tests.3;
    }

pub none_from_is_packet : (little_endian : Bool) (interfaces : List (List ℕ)) (block : List ℕ) → IsPacket little_endian interfaces block → packet_fault little_endian interfaces block ≡ None
unfolding packet_fault
none_from_is_packet little_endian interfaces block p =
    let around = data_place little_endian block + 4 in
    let captured = captured_length little_endian interfaces block in
    rw (le-ltb (length block) around p.long, lt-leb (length interfaces) (interface_number little_endian block) p.described, le-ltb 262144 captured p.short, le-ltb (length block) (around + padded captured) p.whole) refl

-- a packet's captured length is the same behind more interfaces
pub same_captured :
    (little_endian : Bool) (interfaces more : List (List ℕ)) (block : List ℕ) → 0 < length interfaces → captured_length little_endian (interfaces ++ more) block ≡ captured_length little_endian interfaces block
same_captured little_endian interfaces more block some =
    let first : interface_at (interfaces ++ more) 0 ≡ interface_at interfaces 0 = get_or_append_left interfaces more [] 0 some in
    rw first refl

pub is_packet_behind_more : (little_endian : Bool) (interfaces more : List (List ℕ)) (block : List ℕ) → IsPacket little_endian interfaces block → IsPacket little_endian (interfaces ++ more) block
is_packet_behind_more little_endian interfaces more block p =
    let described = p.described in
    let same = same_captured little_endian interfaces more block (omega arith) in
    let len = length-append interfaces more in
    record {
      kind = p.kind;
      long = p.long;
      described = omega arith;
      short = subst (λ n. n ≤ 262144) (sym same) p.short;
      whole = subst (λ n. data_place little_endian block + 4 + padded n ≤ length block) (sym same) p.whole;
    }

-- an interface description block with no fault is long enough, and where times are read its options are whole
none_of_interface : (a t w : Bool) → cond a (Some BlockBody) (cond (t && not w) (Some BlockBody) None) ≡ None → (a ≡ false) × (t ≡ true → w ≡ true)
none_of_interface true t w e = cc
none_of_interface false true true e = (refl, λ h. refl)
none_of_interface false true false e = cc
none_of_interface false false w e = (refl, λ h. cc)

interface_from_none : (timed little_endian : Bool) (block : List ℕ) → interface_fault timed little_endian block ≡ None → (20 ≤ length block) × (timed ≡ true → has_whole_options little_endian block ≡ true)
unfolding interface_fault
interface_from_none timed little_endian block e =
    let tests = none_of_interface (ltb (length block) 20) timed (has_whole_options little_endian block) e in
    (ltb-false (length block) 20 tests.0, tests.1)

none_from_interface : (timed little_endian : Bool) (block : List ℕ) → 20 ≤ length block → (timed ≡ true → has_whole_options little_endian block ≡ true) → interface_fault timed little_endian block ≡ None
unfolding interface_fault
none_from_interface timed little_endian block long whole = rw (le-ltb (length block) 20 long) (by_test timed (has_whole_options little_endian block) whole)
  where
    by_test : (t w : Bool) → (t ≡ true → w ≡ true) → cond (t && not w) (Some BlockBody) None ≡ None
    by_test true w h = rw (h refl) refl
    by_test false w h = refl

record Passes (a b c : Bool) (packets : ℕ) (interface packet : Option CaptureReason) : Type 0 where
  no_section : a ≡ false
  as_interface : b ≡ true → interface ≡ None
  few : b ≡ false → c ≡ true → packets < 1000000
  as_packet : b ≡ false → c ≡ true → packet ≡ None

passes :
    (a b c f : Bool) (packets : ℕ) (interface packet : Option CaptureReason) → (f ≡ false → packets < 1000000)
    → cond a (Some SecondSection) (cond b interface (cond c (cond f (Some TooMany) packet) None)) ≡ None → Passes a b c packets interface packet
passes true b c f packets interface packet few e = cc
passes false true c f packets interface packet few e = record { no_section = refl; as_interface = λ h. e; few = λ h g. cc; as_packet = λ h g. cc }
passes false false true true packets interface packet few e = cc
passes false false true false packets interface packet few e = record { no_section = refl; as_interface = λ h. cc; few = λ h g. few refl; as_packet = λ h g. e }
passes false false false f packets interface packet few e = record { no_section = refl; as_interface = λ h. cc; few = λ h g. cc; as_packet = λ h g. cc }

pub fits_from_none : (timed little_endian : Bool) (interfaces : List (List ℕ)) (packets : ℕ) (block : List ℕ) → body_fault timed little_endian interfaces packets block ≡ None → Fits timed little_endian interfaces packets block
unfolding body_fault
fits_from_none timed little_endian interfaces packets block e =
    let p = passes (is_section little_endian block) (is_interface little_endian block) (is_packet little_endian block) (leb 1000000 packets) packets (interface_fault timed little_endian block)
    (packet_fault little_endian interfaces block) (leb-false 1000000 packets) e in
    record {
      no_section = p.no_section;
      as_interface = λ is. record { kind = is; long = (interface_from_none timed little_endian block (p.as_interface is)).0 };
      as_timed = λ t is. (interface_from_none timed little_endian block (p.as_interface is)).1 t;
      few = λ is. p.few (not_interface little_endian block is) is;
      as_packet = λ is. is_packet_from_none little_endian interfaces block is (p.as_packet (not_interface little_endian block is) is);
    }

none_passes :
    (a b c f : Bool) (interface packet : Option CaptureReason) → a ≡ false → (b ≡ true → interface ≡ None) → (c ≡ true → f ≡ false) → (c ≡ true → packet ≡ None)
    → cond a (Some SecondSection) (cond b interface (cond c (cond f (Some TooMany) packet) None)) ≡ None
none_passes true b c f interface packet none long few fine = cc
none_passes false true c f interface packet none long few fine = long refl
none_passes false false true f interface packet none long few fine = rw (few refl, fine refl) refl
none_passes false false false f interface packet none long few fine = refl

pub none_from_fits : (timed little_endian : Bool) (interfaces : List (List ℕ)) (packets : ℕ) (block : List ℕ) → Fits timed little_endian interfaces packets block → body_fault timed little_endian interfaces packets block ≡ None
unfolding body_fault
none_from_fits timed little_endian interfaces packets block f =
    none_passes (is_section little_endian block) (is_interface little_endian block) (is_packet little_endian block) (leb 1000000 packets) (interface_fault timed little_endian block) (packet_fault little_endian interfaces block)
    f.no_section (λ is. none_from_interface timed little_endian block (f.as_interface is).long (λ t. f.as_timed t is)) (λ is. lt-leb 1000000 packets (f.few is))
    (λ is. none_from_is_packet little_endian interfaces block (f.as_packet is))

-- the number in a whole block is that in what it begins
pub number_in-take : (little_endian : Bool) (xs : List ℕ) (n place : ℕ) → place + 4 ≤ n → number_in little_endian (take n xs) place ≡ number_in little_endian xs place
unfolding number_in
number_in-take little_endian xs n place within = rw (slice_range-take xs n place (place + 4) (omega arith) within) refl

-- a block with no fault has its lengths, and fits
pub record IsWhole (timed little_endian : Bool) (place : ℕ) (interfaces : List (List ℕ)) (packets : ℕ) (rest : List ℕ) : Type 0 where
  pub long : 12 ≤ length rest
  pub lengths : length_fault little_endian place rest ≡ None
  pub fits : Fits timed little_endian interfaces packets (block_in little_endian rest)

split_none :
    (a : Bool) (x : Refusal) (first : Option Refusal) (place : ℕ) (second : Option CaptureReason) → cond a (Some x) (option_or first (option_map (refuses_at place) second)) ≡ None
    → (a ≡ false) × (first ≡ None) × (second ≡ None)
split_none true x first place second e = cc
split_none false x (Some r) place second e = cc
split_none false x None place (Some r) e = cc
split_none false x None place None e = (refl, refl, refl)

pub whole_from_none :
    (timed little_endian : Bool) (place : ℕ) (interfaces : List (List ℕ)) (packets : ℕ) (rest : List ℕ) → block_fault timed little_endian place interfaces packets rest ≡ None
    → IsWhole timed little_endian place interfaces packets rest
unfolding block_fault
whole_from_none timed little_endian place interfaces packets rest e =
    let s = split_none (ltb (length rest) 12) (record { reason = CutBlock; place = place }) (length_fault little_endian place rest) place
    (body_fault timed little_endian interfaces packets (block_in little_endian rest)) e in
    record { long = ltb-false (length rest) 12 s.0; lengths = s.1; fits = fits_from_none timed little_endian interfaces packets (block_in little_endian rest) s.2 }

pub none_from_whole :
    (timed little_endian : Bool) (place : ℕ) (interfaces : List (List ℕ)) (packets : ℕ) (rest : List ℕ) → IsWhole timed little_endian place interfaces packets rest
    → block_fault timed little_endian place interfaces packets rest ≡ None
unfolding block_fault
none_from_whole timed little_endian place interfaces packets rest w =
    rw (le-ltb (length rest) 12 w.long, w.lengths, none_from_fits timed little_endian interfaces packets (block_in little_endian rest) w.fits) refl
