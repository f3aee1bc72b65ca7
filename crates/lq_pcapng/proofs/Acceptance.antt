-- Bytes are a capture exactly where they are a section header block and blocks that fit.
use Rattle.std.proofs.Common.{◌≡◌, ◌<◌, ◌≤◌, ◌+◌, ◌-◌, ◌%◌, ◌++◌, ◌∷◌, [], ℕ, zero, suc, List, length, take, drop, Option, Some, None, Result, Ok, Err, refl, sym, ap, ◌∙◌, subst, arith, Bool, true, false, cond, ltb, eqb, not, ◌||◌, inl, inr, ◌⊎◌, append_assoc, length-drop}
use Rattle.std.specs.Option.{option_map_or, option_or}
use Rattle.std.specs.Result.{result_map_both}
use Rattle.std.specs.Int.{w32, from_le_bytes, from_be_bytes}
use Rattle.std.specs.List.{concat}
use Rattle.std.proofs.lemmas.Bool.{cases_eq, ltb-false, le-ltb, eqb-true, eq-eqb, not-false}
use Rattle.std.proofs.lemmas.List.{append-nil, length-append, length-take-le, take-append-drop}
use Rattle.std.proofs.Math.Seq.{take-append_seam, drop-append_seam}
use Rattle.lq_model.specs.Capture.{Refusal}
use Rattle.lq_pcapng.specs.Pcapng.{NgCapture, block_fault, block_in, blocks_behind, blocks_from, capture_of_blocks, header_fault, interfaces_in, is_big_endian, is_little_endian, length_fault, major_version, number_in, order_of, packets_in, pcapng_of, section_fault, short_number_in, total_length}
use Rattle.lq_model.specs.declared.capture.CaptureReason.TheVariants.{Version, CutBlock, BlockLength, ByteOrder, BlockBody}
use Rattle.lq_pcapng.specs.Laws.{AllFit, HasLengths, IsBlock, IsPcapng, IsSection}
use Rattle.lq_pcapng.specs.Reading.{Fits}
use Rattle.lq_pcapng.proofs.Fits.{none_from_whole, number_in-take, whole_from_none}
use Rattle.lq_pcapng.proofs.Places.{same_order, slice_range-take}
use Rattle.lq_pcapng.proofs.Walk.{blocks_end, blocks_go_on, blocks_fault}

-- LENGTHS

none_of_three :
    (a b c : Bool) (x y z : Refusal) → cond a (Some x) (cond b (Some y) (cond c (Some z) None)) ≡ None → (a ≡ false) × (b ≡ false) × (c ≡ false)
none_of_three true b c x y z e = cc
none_of_three false true c x y z e = cc
none_of_three false false true x y z e = cc
none_of_three false false false x y z e = (refl, refl, refl)

neither : (a b : Bool) → (a || b) ≡ false → (a ≡ false) × (b ≡ false)
neither true b e = cc
neither false true e = cc
neither false false e = (refl, refl)

pub lengths_from_none : (o : Bool) (place : ℕ) (rest : List ℕ) → length_fault o place rest ≡ None → HasLengths o rest
unfolding length_fault
lengths_from_none o place rest e =
    let total = total_length o rest in
    let tests = none_of_three (ltb total 12 || not (eqb (total % 4) 0)) (ltb (length rest) total) (not (eqb (number_in o rest (total - 4)) total))
    (record { reason = BlockLength; place = place }) (record { reason = CutBlock; place = place }) (record { reason = BlockLength; place = place + (total - 4) }) e in
    let first = neither (ltb total 12) (not (eqb (total % 4) 0)) tests.0 in
    record {
      long = ltb-false total 12 first.0;
      aligned = eqb-true (total % 4) 0 (not-false (eqb (total % 4) 0) first.1);
      within = ltb-false (length rest) total tests.1;
      again = eqb-true (number_in o rest (total - 4)) total (not-false (eqb (number_in o rest (total - 4)) total) tests.2);
    }

pub none_from_lengths : (o : Bool) (place : ℕ) (rest : List ℕ) → HasLengths o rest → length_fault o place rest ≡ None
unfolding length_fault
none_from_lengths o place rest h =
    let total = total_length o rest in
    rw (le-ltb total 12 h.long, eq-eqb (total % 4) 0 h.aligned, le-ltb (length rest) total h.within, eq-eqb (number_in o rest (total - 4)) total h.again) refl

-- a block by itself, and as the rest begins with it
pub block_from_lengths : (o : Bool) (rest : List ℕ) → HasLengths o rest → IsBlock o (block_in o rest)
block_from_lengths o rest h =
    let total = total_length o rest in
    let long = h.long in
    let len : length (block_in o rest) ≡ total = length-take-le total rest h.within in
    let told : total_length o (block_in o rest) ≡ total = number_in-take o rest total 4 (omega arith) in
    let again : number_in o (block_in o rest) (total - 4) ≡ total = number_in-take o rest total (total - 4) (omega arith) ∙ h.again in
    record {
      long = omega arith;
      aligned = ap (λ n. n % 4) len ∙ h.aligned;
      told = told ∙ sym len;
      told_again = subst (λ n. number_in o (block_in o rest) (n - 4) ≡ n) (sym len) again;
    }

-- the front of a rest
pub number_in-front : (o : Bool) (block rest : List ℕ) (place : ℕ) → place + 4 ≤ length block → number_in o (block ++ rest) place ≡ number_in o block place
number_in-front o block rest place within =
    sym (number_in-take o (block ++ rest) (length block) place within) ∙ ap (λ (b : List ℕ). number_in o b place) (take-append_seam block rest)

pub record Begins (o : Bool) (block rest : List ℕ) : Type 0 where
  pub lengths : HasLengths o (block ++ rest)
  pub total : total_length o (block ++ rest) ≡ length block
  pub block_is : block_in o (block ++ rest) ≡ block
  pub rest_is : drop (total_length o (block ++ rest)) (block ++ rest) ≡ rest

pub begins : (o : Bool) (block rest : List ℕ) → IsBlock o block → Begins o block rest
begins o block rest b =
    let long = b.long in
    let total : total_length o (block ++ rest) ≡ length block = number_in-front o block rest 4 (omega arith) ∙ b.told in
    let len = length-append block rest in
    let again : number_in o (block ++ rest) (length block - 4) ≡ length block = number_in-front o block rest (length block - 4) (omega arith) ∙ b.told_again in
    record {
      lengths = record {
        long = omega arith;
        aligned = ap (λ n. n % 4) total ∙ b.aligned;
        within = omega arith;
        again = subst (λ n. number_in o (block ++ rest) (n - 4) ≡ n) (sym total) again;
      };
      total = total;
      block_is = ap (λ n. take n (block ++ rest)) total ∙ take-append_seam block rest;
      rest_is = ap (λ n. drop n (block ++ rest)) total ∙ drop-append_seam block rest;
    }

-- THE WALK

pub option_cases : {X : Type 0} (o : Option X) → (o ≡ None) ⊎ ((x : X) × (o ≡ Some x))
option_cases None = inl refl
option_cases (Some x) = inr (x, refl)

nil_from_length : (xs : List ℕ) → length xs ≡ 0 → xs ≡ []
nil_from_length [] e = refl
nil_from_length (x ∷ xs) e = absurd (omega arith)

-- behind some blocks, the walk found these, which are the rest
pub record Found (timed o : Bool) (before : List (List ℕ)) (rest : List ℕ) (all : List (List ℕ)) : Type 0 where
  pub blocks : List (List ℕ)
  pub all_are : all ≡ before ++ blocks
  pub rest_is : rest ≡ concat blocks
  pub fit : AllFit timed o before blocks

found_nothing : (timed o : Bool) (before : List (List ℕ)) (rest : List ℕ) (all : List (List ℕ)) → length rest ≡ 0 → before ≡ all → Found timed o before rest all
found_nothing timed o before rest all none same = record { blocks = []; all_are = sym same ∙ sym (append-nil before); rest_is = nil_from_length rest none; fit = tt }

pub found :
    (timed o : Bool) (more place : ℕ) (before : List (List ℕ)) (rest : List ℕ) (all : List (List ℕ)) → length rest ≤ more → blocks_from timed o more place before rest ≡ Ok all → Found timed o before rest all
found timed o zero place before rest all room e =
    let none : length rest ≡ 0 = omega arith in
    let ends = blocks_end timed o zero place before rest none in
    found_nothing timed o before rest all none cc
found timed o (suc more) place before rest all room e =
    elim (cases_eq (length rest) 0) [
      | inl none ↦ (let ends = blocks_end timed o (suc more) place before rest none in found_nothing timed o before rest all none cc)
      | inr some ↦
          let here : 0 < length rest = omega arith in
          elim (option_cases (block_fault timed o place (interfaces_in o before) (length (packets_in o before)) rest)) [
            | inl none ↦
                let w = whole_from_none timed o place (interfaces_in o before) (length (packets_in o before)) rest none in
                let lengths = lengths_from_none o place rest w.lengths in
                let total = total_length o rest in
                let long = lengths.long in
                let left = length-drop total rest in
                let tail = found timed o more (place + total) (before ++ block_in o rest ∷ []) (drop total rest) all (omega arith) (sym (blocks_go_on timed o more place before rest here none) ∙ e) in
                record {
                  blocks = block_in o rest ∷ tail.blocks;
                  all_are = tail.all_are ∙ append_assoc before (block_in o rest ∷ []) tail.blocks;
                  rest_is = sym (take-append-drop total rest) ∙ ap (λ (r : List ℕ). block_in o rest ++ r) tail.rest_is;
                  fit = (block_from_lengths o rest lengths, w.fits, tail.fit);
                }
            | inr (r, fault) ↦ (let refused = blocks_fault timed o more place before rest r here fault in cc)
          ]
    ]

pub finds :
    (timed o : Bool) (more place : ℕ) (before blocks : List (List ℕ)) → length (concat blocks) ≤ more → AllFit timed o before blocks → blocks_from timed o more place before (concat blocks) ≡ Ok (before ++ blocks)
finds timed o more place before [] room fit = blocks_end timed o more place before [] refl ∙ ap Ok (sym (append-nil before))
finds timed o zero place before (block ∷ blocks) room fit =
    let long = fit.0.long in
    let len = length-append block (concat blocks) in
    absurd (omega arith)
finds timed o (suc more) place before (block ∷ blocks) room fit =
    let rest = concat blocks in
    let b = begins o block rest fit.0 in
    let long = fit.0.long in
    let len = length-append block rest in
    let none : block_fault timed o place (interfaces_in o before) (length (packets_in o before)) (block ++ rest) ≡ None =
    none_from_whole timed o place (interfaces_in o before) (length (packets_in o before)) (block ++ rest)
    (record {
      long = omega arith;
      lengths = none_from_lengths o place (block ++ rest) b.lengths;
      fits = subst (Fits timed o (interfaces_in o before) (length (packets_in o before))) (sym b.block_is) fit.1;
    }) in
    blocks_go_on timed o more place before (block ++ rest) (omega arith) none
    ∙ ap (λ (r : List ℕ). blocks_from timed o more (place + total_length o (block ++ rest)) (before ++ block_in o (block ++ rest) ∷ []) r) b.rest_is
    ∙ ap (λ (k : List ℕ). blocks_from timed o more (place + total_length o (block ++ rest)) (before ++ k ∷ []) rest) b.block_is
    ∙ finds timed o more (place + total_length o (block ++ rest)) (before ++ block ∷ []) blocks (omega arith) fit.2
    ∙ ap Ok (append_assoc before (block ∷ []) blocks)

-- THE SECTION HEADER BLOCK

none_of_section :
    (a b c d : Bool) (first : Option Refusal) (x y z w : Refusal) → cond a (Some x) (cond b (Some y) (option_or first (cond c (Some z) (cond d (Some w) None)))) ≡ None
    → (a ≡ false) × (b ≡ false) × (first ≡ None) × (c ≡ false) × (d ≡ false)
none_of_section true b c d first x y z w e = cc
none_of_section false true c d first x y z w e = cc
none_of_section false false c d (Some r) x y z w e = cc
none_of_section false false true d None x y z w e = cc
none_of_section false false false true None x y z w e = cc
none_of_section false false false false None x y z w e = (refl, refl, refl, refl, refl)

pub short_number_in-take : (o : Bool) (xs : List ℕ) (n place : ℕ) → place + 2 ≤ n → short_number_in o (take n xs) place ≡ short_number_in o xs place
unfolding short_number_in
short_number_in-take o xs n place within = rw (slice_range-take xs n place (place + 2) (omega arith) within) refl

same_shown : (xs : List ℕ) (n : ℕ) → 12 ≤ n → (is_little_endian (take n xs) || is_big_endian (take n xs)) ≡ (is_little_endian xs || is_big_endian xs)
same_shown xs n long =
    ap (λ (part : List ℕ). eqb (from_le_bytes w32 part) 0x1a2b_3c4d || eqb (from_be_bytes w32 part) 0x1a2b_3c4d) (slice_range-take xs n 8 12 (omega arith) long)

-- the bytes begin with a section header block
pub record BeginsWithSection (bytes : List ℕ) : Type 0 where
  pub long : 12 ≤ length bytes
  pub shown : (is_little_endian bytes || is_big_endian bytes) ≡ true
  pub lengths : HasLengths (is_little_endian bytes) bytes
  pub fields : 28 ≤ total_length (is_little_endian bytes) bytes
  pub version : major_version (is_little_endian bytes) bytes ≡ 1

pub begins_with_section : (bytes : List ℕ) → section_fault bytes ≡ None → BeginsWithSection bytes
unfolding section_fault header_fault
begins_with_section bytes e =
    let o = is_little_endian bytes in
    let magic = o || is_big_endian bytes in
    let version = eqb (major_version o bytes) 1 in
    let tests = none_of_section (ltb (length bytes) 12) (not magic) (ltb (total_length o bytes) 28) (not version) (length_fault o 0 bytes)
    (record { reason = CutBlock; place = 0 }) (record { reason = ByteOrder; place = 8 }) (record { reason = BlockBody; place = 0 }) (record { reason = Version; place = 12 }) e in
    record {
      long = ltb-false (length bytes) 12 tests.0;
      shown = not-false magic tests.1;
      lengths = lengths_from_none o 0 bytes tests.2;
      fields = ltb-false (total_length o bytes) 28 tests.3;
      version = eqb-true (major_version o bytes) 1 (not-false version tests.4);
    }

pub none_from_section : (bytes : List ℕ) → BeginsWithSection bytes → section_fault bytes ≡ None
unfolding section_fault header_fault
none_from_section bytes s =
    let o = is_little_endian bytes in
    rw (le-ltb (length bytes) 12 s.long, s.shown, none_from_lengths o 0 bytes s.lengths, le-ltb (total_length o bytes) 28 s.fields, eq-eqb (major_version o bytes) 1 s.version) refl

-- the section header block by itself
pub is_section_block : (bytes : List ℕ) → BeginsWithSection bytes → IsSection (is_little_endian (block_in (is_little_endian bytes) bytes)) (block_in (is_little_endian bytes) bytes)
is_section_block bytes s =
    let o = is_little_endian bytes in
    let total = total_length o bytes in
    let fields = s.fields in
    let order : is_little_endian (take total bytes) ≡ o = same_order bytes total (omega arith) in
    let len : length (take total bytes) ≡ total = length-take-le total bytes s.lengths.within in
    subst (λ b. IsSection b (take total bytes)) (sym order)
    (record {
      shown = same_shown bytes total (omega arith) ∙ s.shown;
      order = sym order;
      is_block = block_from_lengths o bytes s.lengths;
      long = omega arith;
      version = short_number_in-take o bytes total 12 (omega arith) ∙ s.version;
    })

-- bytes that begin with it
pub section_begins : (o : Bool) (section rest : List ℕ) → IsSection o section → (is_little_endian (section ++ rest) ≡ o) × BeginsWithSection (section ++ rest)
section_begins o section rest s =
    let long = s.long in
    let front : take (length section) (section ++ rest) ≡ section = take-append_seam section rest in
    let order : is_little_endian (section ++ rest) ≡ o =
    sym (same_order (section ++ rest) (length section) (omega arith)) ∙ ap is_little_endian front ∙ sym s.order in
    let b = begins o section rest s.is_block in
    let len = length-append section rest in
    let total = b.total in (
      order,
      record {
        long = omega arith;
        shown = sym (same_shown (section ++ rest) (length section) (omega arith)) ∙ ap (λ (xs : List ℕ). is_little_endian xs || is_big_endian xs) front ∙ s.shown;
        lengths = subst (λ k. HasLengths k (section ++ rest)) (sym order) b.lengths;
        fields = subst (λ k. 28 ≤ total_length k (section ++ rest)) (sym order) (omega arith);
        version = subst (λ k. major_version k (section ++ rest) ≡ 1) (sym order)
            (sym (short_number_in-take o (section ++ rest) (length section) 12 (omega arith)) ∙ ap (λ (xs : List ℕ). short_number_in o xs 12) front ∙ s.version);
      },
    )

-- WHICH BYTES ARE A CAPTURE

split_accepted :
    (fault : Option Refusal) (o : Bool) (section : List ℕ) (walk : Result (List (List ℕ)) Refusal) (c : NgCapture) → option_map_or Err fault (result_map_both (capture_of_blocks o section) (λ r. r) walk) ≡ Ok c
    → (blocks : List (List ℕ)) × (fault ≡ None) × (walk ≡ Ok blocks) × (capture_of_blocks o section blocks ≡ c)
split_accepted (Some r) o section walk c e = cc
split_accepted None o section (Err r) c e = cc
split_accepted None o section (Ok blocks) c e = (blocks, refl, refl, cc)

pub accepted_is : (timed : Bool) (bytes : List ℕ) (c : NgCapture) → pcapng_of timed bytes ≡ Ok c → IsPcapng timed bytes c
unfolding pcapng_of
accepted_is timed bytes c e =
    let o = is_little_endian bytes in
    let section = block_in o bytes in
    let s = split_accepted (section_fault bytes) o section (blocks_behind timed o bytes) c e in
    let begin = begins_with_section bytes s.1 in
    let total = total_length o bytes in
    let left = length-drop total bytes in
    let f = found timed o (length bytes) total [] (drop total bytes) s.0 (omega arith) s.2 in
    let fields = begin.fields in
    let order : is_little_endian section ≡ o = same_order bytes total (omega arith) in
    let it : NgCapture = capture_of_blocks o section f.blocks in
    let blocks_are : s.0 ≡ f.blocks = f.all_are in
    let same : it ≡ c = ap (capture_of_blocks o section) (sym blocks_are) ∙ s.3 in
    subst (IsPcapng timed bytes) same
    (record {
      blocks = f.blocks;
      whole = sym (take-append-drop total bytes) ∙ ap (λ (r : List ℕ). section ++ r) f.rest_is;
      section = is_section_block bytes begin;
      fit = subst (λ k. AllFit timed k [] f.blocks) (sym order) f.fit;
      interfaces = ap (λ k. interfaces_in k f.blocks) (sym order);
      packets = ap (λ k. packets_in k f.blocks) (sym order);
    })

pub is_accepted : (timed : Bool) (bytes : List ℕ) (c : NgCapture) → IsPcapng timed bytes c → pcapng_of timed bytes ≡ Ok c
unfolding pcapng_of
is_accepted timed bytes c k =
    let text = c.section ++ concat k.blocks in
    let o = order_of c in
    let s = section_begins o c.section (concat k.blocks) k.section in
    let b = begins o c.section (concat k.blocks) k.section.is_block in
    let len = length-append c.section (concat k.blocks) in
    let no_fault : section_fault text ≡ None = none_from_section text s.1 in
    let answer : NgCapture → Result NgCapture Refusal = λ d. Ok d in
    let walk : blocks_behind timed o text ≡ Ok k.blocks =
    ap (λ (r : List ℕ). blocks_from timed o (length text) (total_length o text) [] r) b.rest_is ∙ finds timed o (length text) (total_length o text) [] k.blocks (omega arith) k.fit in
    let whole : option_map_or Err (section_fault text) (result_map_both (capture_of_blocks o (block_in o text)) (λ r. r) (blocks_behind timed o text)) ≡ Ok c =
    rw (no_fault, walk, b.block_is)
    (ap (λ (is : List (List ℕ)). answer (record { section = c.section; interfaces = is; packets = packets_in o k.blocks })) (sym k.interfaces)
    ∙ ap (λ (ps : List (List ℕ)). answer (record { section = c.section; interfaces = c.interfaces; packets = ps })) (sym k.packets)) in
    subst (λ (bs : List ℕ). pcapng_of timed bs ≡ Ok c) (sym k.whole) (subst (λ d. option_map_or Err (section_fault text) (result_map_both (capture_of_blocks d (block_in d text)) (λ r. r) (blocks_behind timed d text)) ≡ Ok c) (sym s.0) whole)
