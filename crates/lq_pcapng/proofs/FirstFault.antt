-- The bytes are refused exactly for the first fault that they have.
use Rattle.std.proofs.Common.{◌≡◌, ◌<◌, ◌≤◌, ◌+◌, ◌-◌, ◌%◌, ◌++◌, ◌∷◌, [], ℕ, zero, suc, List, length, drop, Option, Some, None, Result, Ok, Err, refl, sym, ap, ◌∙◌, subst, arith, Bool, true, false, cond, ltb, leb, eqb, not, ◌&&◌, ◌||◌, inl, inr, ◌⊎◌, append_assoc, length-drop}
use Rattle.std.specs.Option.{option_map, option_map_or, option_or}
use Rattle.std.specs.Result.{result_map_both}
use Rattle.std.specs.List.{concat}
use Rattle.std.proofs.lemmas.Bool.{cases_eq, ltb-true, ltb-false, lt-ltb, le-ltb, leb-true, leb-false, le-leb, lt-leb, eqb-true, eqb-false, eq-eqb, ne_eqb, not-true, not-false}
use Rattle.std.proofs.lemmas.List.{append-nil, length-append, length-take-le, take-append-drop}
use Rattle.lq_model.specs.Capture.{Refusal}
use Rattle.lq_pcapng.specs.Pcapng.{block_fault, block_in, blocks_behind, blocks_from, body_fault, capture_of_blocks, captured_length, data_place, has_whole_options, header_fault, interface_fault, interface_number, interfaces_in, is_big_endian, is_interface, is_little_endian, is_packet, is_section, length_fault, major_version, number_in, packet_fault, packets_in, padded, pcapng_of, section_fault, refuses_at, total_length}
use Rattle.lq_model.specs.declared.capture.CaptureReason.{CaptureReason}
use Rattle.lq_model.specs.declared.capture.CaptureReason.TheVariants.{Version, LongRecord, TooMany, CutBlock, BlockLength, ByteOrder, NoInterface, BlockBody, SecondSection}
use Rattle.lq_pcapng.specs.Laws.{AllFit, HasBlockFault, HasBodyFault, HasPcapngFault, HasLengthFault, HasPacketFault, HasSectionFault, IsSection, no_length, cut_block, other_length, cut_section, no_order, section_lengths, short_section, other_version, short_packet, no_interface, long_record, short_data, second_section, short_interface, wrong_options, too_many, of_packet, cut_rest, block_lengths, of_body, of_section, of_block}
use Rattle.lq_pcapng.specs.Reading.{Fits}
use Rattle.lq_pcapng.proofs.Acceptance.{begins, begins_with_section, block_from_lengths, is_section_block, lengths_from_none, none_from_lengths, none_from_section, option_cases, section_begins}
use Rattle.lq_pcapng.proofs.Fits.{no_section_of_interface, no_section_of_packet, none_from_whole, not_interface, whole_from_none}
use Rattle.lq_pcapng.proofs.Places.{same_order}
use Rattle.lq_pcapng.proofs.Walk.{blocks_end, blocks_fault, blocks_go_on}

-- WHICH OF SOME TESTS FAILS

pick_of_three :
    {X P : Type 0} (a b c : Bool) (x y z f : X) → cond a (Some x) (cond b (Some y) (cond c (Some z) None)) ≡ Some f
    → (a ≡ true → f ≡ x → P) → (a ≡ false → b ≡ true → f ≡ y → P) → (a ≡ false → b ≡ false → c ≡ true → f ≡ z → P) → P
pick_of_three true b c x y z f e first second third = first refl cc
pick_of_three false true c x y z f e first second third = second refl refl cc
pick_of_three false false true x y z f e first second third = third refl refl refl cc
pick_of_three false false false x y z f e first second third = cc

pick_of_four :
    {X P : Type 0} (a b c d : Bool) (x y z w f : X) → cond a (Some x) (cond b (Some y) (cond c (Some z) (cond d (Some w) None))) ≡ Some f
    → (a ≡ true → f ≡ x → P) → (a ≡ false → b ≡ true → f ≡ y → P) → (a ≡ false → b ≡ false → c ≡ true → f ≡ z → P) → (a ≡ false → b ≡ false → c ≡ false → d ≡ true → f ≡ w → P) → P
pick_of_four true b c d x y z w f e first second third fourth = first refl cc
pick_of_four false true c d x y z w f e first second third fourth = second refl refl cc
pick_of_four false false true d x y z w f e first second third fourth = third refl refl refl cc
pick_of_four false false false true x y z w f e first second third fourth = fourth refl refl refl refl cc
pick_of_four false false false false x y z w f e first second third fourth = cc

either : (a b : Bool) → (a || b) ≡ true → (a ≡ true) ⊎ (b ≡ true)
either true b e = inl refl
either false true e = inr refl
either false false e = cc

or-right : (a : Bool) → (a || true) ≡ true
or-right true = refl
or-right false = refl

-- LENGTHS

pub length_fault_is : (o : Bool) (place : ℕ) (rest : List ℕ) (f : Refusal) → length_fault o place rest ≡ Some f → HasLengthFault o place rest f
unfolding length_fault
length_fault_is o place rest f e =
    let total = total_length o rest in
    let short = ltb total 12 in
    let aligned = eqb (total % 4) 0 in
    let same = eqb (number_in o rest (total - 4)) total in
    let in_order : (short || not aligned) ≡ false → (12 ≤ total) × (total % 4 ≡ 0) =
    λ a. (let n = neither short (not aligned) a in (ltb-false total 12 n.0, eqb-true (total % 4) 0 (not-false aligned n.1))) in
    pick_of_three (short || not aligned) (ltb (length rest) total) (not same) (refuses_at place BlockLength) (refuses_at place CutBlock) (refuses_at (place + (total - 4)) BlockLength) f e
    (λ a is. no_length (elim (either short (not aligned) a) [
      | inl s ↦ inl (ltb-true total 12 s)
      | inr n ↦ inr (eqb-false (total % 4) 0 (not-true aligned n))
    ]) is)
    (λ a b is. cut_block (in_order a).0 (in_order a).1 (ltb-true (length rest) total b) is)
    (λ a b c is. other_length (in_order a).0 (in_order a).1 (ltb-false (length rest) total b) (eqb-false (number_in o rest (total - 4)) total (not-true same c)) is)
  where
    neither : (a b : Bool) → (a || b) ≡ false → (a ≡ false) × (b ≡ false)
    neither true b e = cc
    neither false true e = cc
    neither false false e = (refl, refl)

pub is_length_fault : (o : Bool) (place : ℕ) (rest : List ℕ) (f : Refusal) → HasLengthFault o place rest f → length_fault o place rest ≡ Some f
unfolding length_fault
is_length_fault o place rest f (no_length bad is) =
    let total = total_length o rest in
    elim bad [
      | inl short ↦ rw (lt-ltb total 12 short) (ap Some (sym is))
      | inr other ↦ rw (ne_eqb (total % 4) 0 other, or-right (ltb total 12)) (ap Some (sym is))
    ]
is_length_fault o place rest f (cut_block long aligned cut is) =
    let total = total_length o rest in
    rw (le-ltb total 12 long, eq-eqb (total % 4) 0 aligned, lt-ltb (length rest) total cut) (ap Some (sym is))
is_length_fault o place rest f (other_length long aligned within other is) =
    let total = total_length o rest in
    rw (le-ltb total 12 long, eq-eqb (total % 4) 0 aligned, le-ltb (length rest) total within, ne_eqb (number_in o rest (total - 4)) total other) (ap Some (sym is))

-- THE SECTION HEADER BLOCK

pick_of_section :
    {P : Type 0} (a b c d : Bool) (lengths : Option Refusal) (x y z w f : Refusal) → cond a (Some x) (cond b (Some y) (option_or lengths (cond c (Some z) (cond d (Some w) None)))) ≡ Some f
    → (a ≡ true → f ≡ x → P) → (a ≡ false → b ≡ true → f ≡ y → P) → (a ≡ false → b ≡ false → lengths ≡ Some f → P) → (a ≡ false → b ≡ false → lengths ≡ None → c ≡ true → f ≡ z → P)
    → (a ≡ false → b ≡ false → lengths ≡ None → c ≡ false → d ≡ true → f ≡ w → P) → P
pick_of_section true b c d lengths x y z w f e p q r s t = p refl cc
pick_of_section false true c d lengths x y z w f e p q r s t = q refl refl cc
pick_of_section false false c d (Some g) x y z w f e p q r s t = r refl refl e
pick_of_section false false true d None x y z w f e p q r s t = s refl refl refl refl cc
pick_of_section false false false true None x y z w f e p q r s t = t refl refl refl refl refl cc
pick_of_section false false false false None x y z w f e p q r s t = cc

pub section_fault_is : (bytes : List ℕ) (f : Refusal) → section_fault bytes ≡ Some f → HasSectionFault bytes f
unfolding section_fault header_fault
section_fault_is bytes f e =
    let o = is_little_endian bytes in
    let magic = o || is_big_endian bytes in
    let total = total_length o bytes in
    let version = eqb (major_version o bytes) 1 in
    pick_of_section (ltb (length bytes) 12) (not magic) (ltb total 28) (not version) (length_fault o 0 bytes) (refuses_at 0 CutBlock) (refuses_at 8 ByteOrder) (refuses_at 0 BlockBody) (refuses_at 12 Version) f e
    (λ a is. cut_section (ltb-true (length bytes) 12 a) is)
    (λ a b is. no_order (ltb-false (length bytes) 12 a) (not-true magic b) is)
    (λ a b l. section_lengths (ltb-false (length bytes) 12 a) (not-false magic b) (length_fault_is o 0 bytes f l))
    (λ a b l c is. short_section (ltb-false (length bytes) 12 a) (not-false magic b) (lengths_from_none o 0 bytes l) (ltb-true total 28 c) is)
    (λ a b l c d is. other_version (ltb-false (length bytes) 12 a) (not-false magic b) (lengths_from_none o 0 bytes l) (ltb-false total 28 c) (eqb-false (major_version o bytes) 1 (not-true version d)) is)

pub is_section_fault : (bytes : List ℕ) (f : Refusal) → HasSectionFault bytes f → section_fault bytes ≡ Some f
unfolding section_fault header_fault
is_section_fault bytes f (cut_section short is) = rw (lt-ltb (length bytes) 12 short) (ap Some (sym is))
is_section_fault bytes f (no_order long unshown is) = rw (le-ltb (length bytes) 12 long, unshown) (ap Some (sym is))
is_section_fault bytes f (section_lengths long shown fault) = rw (le-ltb (length bytes) 12 long, shown, is_length_fault (is_little_endian bytes) 0 bytes f fault) refl
is_section_fault bytes f (short_section long shown lengths short is) =
    let o = is_little_endian bytes in
    rw (le-ltb (length bytes) 12 long, shown, none_from_lengths o 0 bytes lengths, lt-ltb (total_length o bytes) 28 short) (ap Some (sym is))
is_section_fault bytes f (other_version long shown lengths fields other is) =
    let o = is_little_endian bytes in
    rw (le-ltb (length bytes) 12 long, shown, none_from_lengths o 0 bytes lengths, le-ltb (total_length o bytes) 28 fields, ne_eqb (major_version o bytes) 1 other) (ap Some (sym is))

-- THE OTHER BLOCKS

pub packet_fault_is : (o : Bool) (interfaces : List (List ℕ)) (block : List ℕ) (reason : CaptureReason) → packet_fault o interfaces block ≡ Some reason → HasPacketFault o interfaces block reason
unfolding packet_fault
packet_fault_is o interfaces block reason e =
    let around = data_place o block + 4 in
    let number = interface_number o block in
    let captured = captured_length o interfaces block in
    pick_of_four (ltb (length block) around) (leb (length interfaces) number) (ltb 262144 captured) (ltb (length block) (around + padded captured)) BlockBody NoInterface LongRecord BlockBody reason e
    (λ a is. short_packet (ltb-true (length block) around a) is)
    (λ a b is. no_interface (ltb-false (length block) around a) (leb-true (length interfaces) number b) is)
    (λ a b c is. long_record (ltb-false (length block) around a) (leb-false (length interfaces) number b) (ltb-true 262144 captured c) is)
    (λ a b c d is. short_data (ltb-false (length block) around a) (leb-false (length interfaces) number b) (ltb-false 262144 captured c) (ltb-true (length block) (around + padded captured) d) is)

pub is_packet_fault : (o : Bool) (interfaces : List (List ℕ)) (block : List ℕ) (reason : CaptureReason) → HasPacketFault o interfaces block reason → packet_fault o interfaces block ≡ Some reason
unfolding packet_fault
is_packet_fault o interfaces block reason (short_packet short is) = rw (lt-ltb (length block) (data_place o block + 4) short) (ap Some (sym is))
is_packet_fault o interfaces block reason (no_interface long none is) =
    rw (le-ltb (length block) (data_place o block + 4) long, le-leb (length interfaces) (interface_number o block) none) (ap Some (sym is))
is_packet_fault o interfaces block reason (long_record long some above is) =
    rw (le-ltb (length block) (data_place o block + 4) long, lt-leb (length interfaces) (interface_number o block) some, lt-ltb 262144 (captured_length o interfaces block) above) (ap Some (sym is))
is_packet_fault o interfaces block reason (short_data long some within short is) =
    rw (
      le-ltb (length block) (data_place o block + 4) long,
      lt-leb (length interfaces) (interface_number o block) some,
      le-ltb 262144 (captured_length o interfaces block) within,
      lt-ltb (length block) (data_place o block + 4 + padded (captured_length o interfaces block)) short,
    ) (ap Some (sym is))

pick_of_body :
    {P : Type 0} (a b c g : Bool) (interface packet : Option CaptureReason) (f : CaptureReason)
    → cond a (Some SecondSection) (cond b interface (cond c (cond g (Some TooMany) packet) None)) ≡ Some f
    → (a ≡ true → f ≡ SecondSection → P) → (b ≡ true → interface ≡ Some f → P) → (c ≡ true → g ≡ true → f ≡ TooMany → P) → (c ≡ true → g ≡ false → packet ≡ Some f → P) → P
pick_of_body true b c g interface packet f e p q r s = p refl cc
pick_of_body false true c g interface packet f e p q r s = q refl e
pick_of_body false false true true interface packet f e p q r s = r refl refl cc
pick_of_body false false true false interface packet f e p q r s = s refl refl e
pick_of_body false false false g interface packet f e p q r s = cc

pick_of_interface :
    {P : Type 0} (a t w : Bool) (f : CaptureReason) → cond a (Some BlockBody) (cond (t && not w) (Some BlockBody) None) ≡ Some f → (a ≡ true → f ≡ BlockBody → P)
    → (a ≡ false → t ≡ true → w ≡ false → f ≡ BlockBody → P) → P
pick_of_interface true t w f e p q = p refl cc
pick_of_interface false true false f e p q = q refl refl refl cc
pick_of_interface false true true f e p q = cc
pick_of_interface false false w f e p q = cc

pub body_fault_is : (timed o : Bool) (interfaces : List (List ℕ)) (packets : ℕ) (block : List ℕ) (reason : CaptureReason) → body_fault timed o interfaces packets block ≡ Some reason → HasBodyFault timed o interfaces packets block reason
unfolding body_fault interface_fault
body_fault_is timed o interfaces packets block reason e =
    pick_of_body (is_section o block) (is_interface o block) (is_packet o block) (leb 1000000 packets) (interface_fault timed o block) (packet_fault o interfaces block) reason e
    (λ a is. second_section a is)
    (λ b fault.
    pick_of_interface (ltb (length block) 20) timed (has_whole_options o block) reason fault
    (λ d is. short_interface b (ltb-true (length block) 20 d) is)
    (λ d t w is. wrong_options b (ltb-false (length block) 20 d) t w is))
    (λ c g is. too_many c (leb-true 1000000 packets g) is)
    (λ c g is. of_packet c (leb-false 1000000 packets g) (packet_fault_is o interfaces block reason is))

pub is_body_fault : (timed o : Bool) (interfaces : List (List ℕ)) (packets : ℕ) (block : List ℕ) (reason : CaptureReason) → HasBodyFault timed o interfaces packets block reason → body_fault timed o interfaces packets block ≡ Some reason
unfolding body_fault interface_fault
is_body_fault timed o interfaces packets block reason (second_section section is) = rw section (ap Some (sym is))
is_body_fault timed o interfaces packets block reason (short_interface kind short is) =
    rw (no_section_of_interface o block kind, kind, lt-ltb (length block) 20 short) (ap Some (sym is))
is_body_fault timed o interfaces packets block reason (wrong_options kind long is_timed wrong is) =
    rw (no_section_of_interface o block kind, kind, le-ltb (length block) 20 long, is_timed, wrong) (ap Some (sym is))
is_body_fault timed o interfaces packets block reason (too_many kind most is) =
    rw (no_section_of_packet o block kind, not_interface o block kind, kind, le-leb 1000000 packets most) (ap Some (sym is))
is_body_fault timed o interfaces packets block reason (of_packet kind few fault) =
    rw (no_section_of_packet o block kind, not_interface o block kind, kind, lt-leb 1000000 packets few) (is_packet_fault o interfaces block reason fault)

pick_of_block :
    {P : Type 0} (a : Bool) (place : ℕ) (lengths : Option Refusal) (body : Option CaptureReason) (x f : Refusal) → cond a (Some x) (option_or lengths (option_map (refuses_at place) body)) ≡ Some f
    → (a ≡ true → f ≡ x → P) → (a ≡ false → lengths ≡ Some f → P) → ((reason : CaptureReason) → a ≡ false → lengths ≡ None → body ≡ Some reason → f ≡ refuses_at place reason → P) → P
pick_of_block true place lengths body x f e p q r = p refl cc
pick_of_block false place (Some g) body x f e p q r = q refl e
pick_of_block false place None (Some reason) x f e p q r = r reason refl refl refl cc
pick_of_block false place None None x f e p q r = cc

pub block_fault_is :
    (timed o : Bool) (place : ℕ) (before : List (List ℕ)) (rest : List ℕ) (f : Refusal) → block_fault timed o place (interfaces_in o before) (length (packets_in o before)) rest ≡ Some f → HasBlockFault timed o place before rest f
unfolding block_fault
block_fault_is timed o place before rest f e =
    pick_of_block (ltb (length rest) 12) place (length_fault o place rest) (body_fault timed o (interfaces_in o before) (length (packets_in o before)) (block_in o rest)) (refuses_at place CutBlock) f e
    (λ a is. cut_rest (ltb-true (length rest) 12 a) is)
    (λ a l. block_lengths (ltb-false (length rest) 12 a) (length_fault_is o place rest f l))
    (λ reason a l b is. of_body reason (ltb-false (length rest) 12 a) (lengths_from_none o place rest l)
    (body_fault_is timed o (interfaces_in o before) (length (packets_in o before)) (block_in o rest) reason b) is)

pub is_block_fault :
    (timed o : Bool) (place : ℕ) (before : List (List ℕ)) (rest : List ℕ) (f : Refusal) → HasBlockFault timed o place before rest f → block_fault timed o place (interfaces_in o before) (length (packets_in o before)) rest ≡ Some f
unfolding block_fault
is_block_fault timed o place before rest f (cut_rest short is) = rw (lt-ltb (length rest) 12 short) (ap Some (sym is))
is_block_fault timed o place before rest f (block_lengths long fault) = rw (le-ltb (length rest) 12 long, is_length_fault o place rest f fault) refl
is_block_fault timed o place before rest f (of_body reason long lengths fault is) =
    rw (le-ltb (length rest) 12 long, none_from_lengths o place rest lengths, is_body_fault timed o (interfaces_in o before) (length (packets_in o before)) (block_in o rest) reason fault) (ap Some (sym is))

-- THE WALK

-- behind some blocks, the walk stopped behind these, at the rest that is left
record Stopped (timed o : Bool) (place : ℕ) (before : List (List ℕ)) (rest : List ℕ) (f : Refusal) : Type 0 where
  blocks : List (List ℕ)
  left : List ℕ
  rest_is : rest ≡ concat blocks ++ left
  fit : AllFit timed o before blocks
  more : 0 < length left
  fault : HasBlockFault timed o (place + length (concat blocks)) (before ++ blocks) left f

stopped : (timed o : Bool) (more place : ℕ) (before : List (List ℕ)) (rest : List ℕ) (f : Refusal) → length rest ≤ more → blocks_from timed o more place before rest ≡ Err f → Stopped timed o place before rest f
stopped timed o zero place before rest f room e = let ends = blocks_end timed o zero place before rest (omega arith) in cc
stopped timed o (suc more) place before rest f room e =
    elim (cases_eq (length rest) 0) [
      | inl none ↦ (let ends = blocks_end timed o (suc more) place before rest none in cc)
      | inr some ↦
          let here : 0 < length rest = omega arith in
          elim (option_cases (block_fault timed o place (interfaces_in o before) (length (packets_in o before)) rest)) [
            | inl none ↦
                let w = whole_from_none timed o place (interfaces_in o before) (length (packets_in o before)) rest none in
                let lengths = lengths_from_none o place rest w.lengths in
                let total = total_length o rest in
                let long = lengths.long in
                let left = length-drop total rest in
                let tail = stopped timed o more (place + total) (before ++ block_in o rest ∷ []) (drop total rest) f (omega arith) (sym (blocks_go_on timed o more place before rest here none) ∙ e) in
                let len : length (block_in o rest) ≡ total = length-take-le total rest lengths.within in
                let all = length-append (block_in o rest) (concat tail.blocks) in
                let behind : place + total + length (concat tail.blocks) ≡ place + length (block_in o rest ++ concat tail.blocks) = omega arith in
                record {
                  blocks = block_in o rest ∷ tail.blocks;
                  left = tail.left;
                  rest_is = sym (take-append-drop total rest) ∙ ap (λ (r : List ℕ). block_in o rest ++ r) tail.rest_is ∙ sym (append_assoc (block_in o rest) (concat tail.blocks) tail.left);
                  fit = (block_from_lengths o rest lengths, w.fits, tail.fit);
                  more = tail.more;
                  fault = subst (λ n. HasBlockFault timed o n (before ++ block_in o rest ∷ tail.blocks) tail.left f) behind
                      (subst (λ (bs : List (List ℕ)). HasBlockFault timed o (place + total + length (concat tail.blocks)) bs tail.left f) (append_assoc before (block_in o rest ∷ []) tail.blocks) tail.fault);
                }
            | inr (r, fault) ↦
                let refused = blocks_fault timed o more place before rest r here fault in
                let same : r ≡ f = cc in
                let from_0 : place ≡ place + 0 = omega arith in
                record {
                  blocks = [];
                  left = rest;
                  rest_is = refl;
                  fit = tt;
                  more = here;
                  fault = subst (λ n. HasBlockFault timed o n (before ++ []) rest f) from_0
                      (subst (λ (bs : List (List ℕ)). HasBlockFault timed o place bs rest f) (sym (append-nil before)) (block_fault_is timed o place before rest f (fault ∙ ap Some same)));
                }
          ]
    ]

stops :
    (timed o : Bool) (more place : ℕ) (before blocks : List (List ℕ)) (left : List ℕ) (f : Refusal) → length (concat blocks ++ left) ≤ more → AllFit timed o before blocks → 0 < length left
    → HasBlockFault timed o (place + length (concat blocks)) (before ++ blocks) left f → blocks_from timed o more place before (concat blocks ++ left) ≡ Err f
stops timed o zero place before blocks left f room fit some fault = let len = length-append (concat blocks) left in absurd (omega arith)
stops timed o (suc more) place before [] left f room fit some fault =
    let from_0 : place + 0 ≡ place = omega arith in
    let here : HasBlockFault timed o place before left f =
    subst (λ n. HasBlockFault timed o n before left f) from_0 (subst (λ (bs : List (List ℕ)). HasBlockFault timed o (place + 0) bs left f) (append-nil before) fault) in
    blocks_fault timed o more place before left f some (is_block_fault timed o place before left f here)
stops timed o (suc more) place before (block ∷ blocks) left f room fit some fault =
    let rest = concat blocks ++ left in
    let regroup : (block ++ concat blocks) ++ left ≡ block ++ rest = append_assoc block (concat blocks) left in
    let b = begins o block rest fit.0 in
    let long = fit.0.long in
    let len = length-append block rest in
    let all = length-append block (concat blocks) in
    let regrouped : length ((block ++ concat blocks) ++ left) ≡ length (block ++ rest) = ap length regroup in
    let none : block_fault timed o place (interfaces_in o before) (length (packets_in o before)) (block ++ rest) ≡ None =
    none_from_whole timed o place (interfaces_in o before) (length (packets_in o before)) (block ++ rest)
    (record {
      long = omega arith;
      lengths = none_from_lengths o place (block ++ rest) b.lengths;
      fits = subst (Fits timed o (interfaces_in o before) (length (packets_in o before))) (sym b.block_is) fit.1;
    }) in
    let total = b.total in
    let behind : place + length (block ++ concat blocks) ≡ place + total_length o (block ++ rest) + length (concat blocks) = omega arith in
    let there : HasBlockFault timed o (place + total_length o (block ++ rest) + length (concat blocks)) ((before ++ block ∷ []) ++ blocks) left f =
    subst (λ n. HasBlockFault timed o n ((before ++ block ∷ []) ++ blocks) left f) behind
    (subst (λ (bs : List (List ℕ)). HasBlockFault timed o (place + length (block ++ concat blocks)) bs left f) (sym (append_assoc before (block ∷ []) blocks)) fault) in
    ap (blocks_from timed o (suc more) place before) regroup
    ∙ blocks_go_on timed o more place before (block ++ rest) (omega arith) none
    ∙ ap (λ (r : List ℕ). blocks_from timed o more (place + total_length o (block ++ rest)) (before ++ block_in o (block ++ rest) ∷ []) r) b.rest_is
    ∙ ap (λ (k : List ℕ). blocks_from timed o more (place + total_length o (block ++ rest)) (before ++ k ∷ []) rest) b.block_is
    ∙ stops timed o more (place + total_length o (block ++ rest)) (before ++ block ∷ []) blocks left f (omega arith) fit.2 some there

-- WHEN BYTES ARE REFUSED

pick_of_file :
    {P : Type 0} (fault : Option Refusal) (o : Bool) (section : List ℕ) (walk : Result (List (List ℕ)) Refusal) (f : Refusal) → option_map_or Err fault (result_map_both (capture_of_blocks o section) (λ r. r) walk) ≡ Err f
    → (fault ≡ Some f → P) → (fault ≡ None → walk ≡ Err f → P) → P
pick_of_file (Some g) o section walk f e p q = p cc
pick_of_file None o section (Ok blocks) f e p q = cc
pick_of_file None o section (Err g) f e p q = q refl cc

pub first_fault : (timed : Bool) (bytes : List ℕ) (f : Refusal) → pcapng_of timed bytes ≡ Err f → HasPcapngFault timed bytes f
unfolding pcapng_of
first_fault timed bytes f e =
    let o = is_little_endian bytes in
    let total = total_length o bytes in
    let section = block_in o bytes in
    pick_of_file (section_fault bytes) o section (blocks_behind timed o bytes) f e
    (λ fault. of_section (section_fault_is bytes f fault))
    (λ none walk.
    (let begin = begins_with_section bytes none in
    let fields = begin.fields in
    let left = length-drop total bytes in
    let s = stopped timed o (length bytes) total [] (drop total bytes) f (omega arith) walk in
    let order : is_little_endian section ≡ o = same_order bytes total (omega arith) in
    let len : length section ≡ total = length-take-le total bytes begin.lengths.within in
    of_block section s.blocks s.left
    (record {
      whole = sym (take-append-drop total bytes) ∙ ap (λ (r : List ℕ). section ++ r) s.rest_is;
      is_section_block = is_section_block bytes begin;
      fit = subst (λ k. AllFit timed k [] s.blocks) (sym order) s.fit;
      more = s.more;
    })
    (subst (λ k. HasBlockFault timed k (length section + length (concat s.blocks)) s.blocks s.left f) (sym order)
    (subst (λ n. HasBlockFault timed o (n + length (concat s.blocks)) s.blocks s.left f) (sym len) s.fault))))

section_refused : (timed : Bool) (bytes : List ℕ) (f : Refusal) → section_fault bytes ≡ Some f → pcapng_of timed bytes ≡ Err f
unfolding pcapng_of
section_refused timed bytes f fault = rw fault refl

block_refused : (timed : Bool) (section : List ℕ) (before : List (List ℕ)) (rest : List ℕ) (f : Refusal) → IsSection (is_little_endian section) section → AllFit timed (is_little_endian section) [] before → 0 < length rest
    → HasBlockFault timed (is_little_endian section) (length section + length (concat before)) before rest f → pcapng_of timed (section ++ (concat before ++ rest)) ≡ Err f
unfolding pcapng_of
block_refused timed section before rest f is fit some fault =
    let o = is_little_endian section in
    let tail = concat before ++ rest in
    let text = section ++ tail in
    let s = section_begins o section tail is in
    let b = begins o section tail is.is_block in
    let len = length-append section tail in
    let no_fault : section_fault text ≡ None = none_from_section text s.1 in
    let walk : blocks_behind timed o text ≡ Err f =
    ap (λ (r : List ℕ). blocks_from timed o (length text) (total_length o text) [] r) b.rest_is
    ∙ stops timed o (length text) (total_length o text) [] before rest f (omega arith) fit some
    (subst (λ n. HasBlockFault timed o (n + length (concat before)) before rest f) (sym b.total) fault) in
    let whole : option_map_or Err (section_fault text) (result_map_both (capture_of_blocks o (block_in o text)) (λ r. r) (blocks_behind timed o text)) ≡ Err f = rw (no_fault, walk) refl in
    subst (λ d. option_map_or Err (section_fault text) (result_map_both (capture_of_blocks d (block_in d text)) (λ r. r) (blocks_behind timed d text)) ≡ Err f) (sym s.0) whole

pub fault_refused : (timed : Bool) (bytes : List ℕ) (f : Refusal) → HasPcapngFault timed bytes f → pcapng_of timed bytes ≡ Err f
fault_refused timed bytes f (of_section fault) = section_refused timed bytes f (is_section_fault bytes f fault)
fault_refused timed bytes f (of_block section before rest g fault) =
    subst (λ (bs : List ℕ). pcapng_of timed bs ≡ Err f) (sym g.whole) (block_refused timed section before rest f g.is_section_block g.fit g.more fault)
