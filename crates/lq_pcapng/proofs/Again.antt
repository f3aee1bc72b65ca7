-- What is written for packets of a capture is a capture of just these packets.
use Rattle.std.proofs.Common.{◌≡◌, ◌<◌, ◌≤◌, ◌+◌, ◌-◌, ◌%◌, ◌++◌, ◌∷◌, [], ℕ, zero, suc, List, length, take, drop, map, filter, replicate, Ok, refl, sym, ap, ◌∙◌, subst, arith, Bool, true, false, eqb, ◌||◌, append_assoc, length-drop, get_or}
use Rattle.std.specs.Int.{w32, from_le_bytes, from_be_bytes}
use Rattle.std.specs.List.{All, AllByRecursion, IsDistinct, concat, flat_map, slice_range}
use Rattle.std.proofs.lemmas.Bool.{eqb-true}
use Rattle.std.proofs.lemmas.List.{append-nil, drop-drop, length-append, length-map, length-take-le}
use Rattle.std.proofs.lemmas.List.Concat.{concat_is}
use Rattle.std.proofs.lemmas.List.Elements.{All-contains, filter-append, recursion_from_All}
use Rattle.std.proofs.lemmas.List.Folds.{concat-append, flat_map-map}
use Rattle.std.proofs.lemmas.Map.Steps.{length-le_from_distinct_below}
use Rattle.std.proofs.lemmas.Map.Views.{Contains-from_any}
use Rattle.std.proofs.lemmas.Simd.{map-map}
use Rattle.std.proofs.Math.Seq.{take-append_seam, drop-append_seam}
use Rattle.lq_pcapng.specs.Pcapng.{NgCapture, captured_length, data_place, frame_in, has_whole_options, interface_at, interface_number, interfaces_in, is_interface, is_little_endian, is_packet, link_in, link_type, major_version, number_in, order_of, packet_block, packets_in, pcapng_of, pcapng_text, short_number_in, without_length}
use Rattle.lq_pcapng.specs.Laws.{AllFit, IsBlock, IsPcapng, IsSection, frames_in, links_in, with_packets}
use Rattle.lq_pcapng.specs.Reading.{IsInterface, IsPacket}
use Rattle.lq_pcapng.proofs.Acceptance.{accepted_is, is_accepted}
use Rattle.lq_pcapng.proofs.Fits.{is_packet_behind_more, no_section_of_interface, no_section_of_packet, not_interface, not_packet}
use Rattle.lq_pcapng.proofs.Places.{slice_range-take}

-- LISTS

-- what is kept of a list passes the test
kept : (p : List ℕ → Bool) (P : List ℕ → Type 0) (xs : List (List ℕ)) → AllByRecursion P xs → AllByRecursion (λ x. P x × (p x ≡ true)) (filter p xs)
kept p P [] all = tt
kept p P (x ∷ xs) all = by_test (kept p P xs all.1) (p x) refl
  where
    by_test : AllByRecursion (λ y. P y × (p y ≡ true)) (filter p xs) → (b : Bool) → p x ≡ b → AllByRecursion (λ y. P y × (p y ≡ true)) (filter p (x ∷ xs))
    by_test rest true is = rw is ((all.0, is), rest)
    by_test rest false is = rw is rest

all_kept : (p : List ℕ → Bool) (xs : List (List ℕ)) → AllByRecursion (λ x. p x ≡ true) xs → filter p xs ≡ xs
all_kept p [] all = refl
all_kept p (x ∷ xs) all = rw all.0 (ap (λ (ys : List (List ℕ)). x ∷ ys) (all_kept p xs all.1))

none_kept : (p : List ℕ → Bool) (xs : List (List ℕ)) → AllByRecursion (λ x. p x ≡ false) xs → filter p xs ≡ []
none_kept p [] all = refl
none_kept p (x ∷ xs) all = rw all.0 (none_kept p xs all.1)

weaker : (P Q : List ℕ → Type 0) → ((x : List ℕ) → P x → Q x) → (xs : List (List ℕ)) → AllByRecursion P xs → AllByRecursion Q xs
weaker P Q f [] all = tt
weaker P Q f (x ∷ xs) all = (f x all.0, weaker P Q f xs all.1)

at_index : (P : List ℕ → Type 0) (xs : List (List ℕ)) (i : ℕ) → AllByRecursion P xs → i < length xs → P (get_or xs i [])
at_index P [] i all below = absurd (omega arith)
at_index P (x ∷ xs) zero all below = all.0
at_index P (x ∷ xs) (suc i) all below = at_index P xs i all.1 (omega arith)

picked : (P : List ℕ → Type 0) (xs : List (List ℕ)) (places : List ℕ) → AllByRecursion P xs → AllByRecursion (λ i. i < length xs) places → AllByRecursion P (map (λ i. get_or xs i []) places)
picked P xs [] all below = tt
picked P xs (i ∷ places) all below = (at_index P xs i all below.0, picked P xs places all below.1)

-- BLOCKS OF A CAPTURE

-- a block among blocks that all fit
record IsAmong (timed o : Bool) (interfaces : List (List ℕ)) (block : List ℕ) : Type 0 where
  is_block : IsBlock o block
  as_interface : is_interface o block ≡ true → IsInterface o block
  as_timed : timed ≡ true → is_interface o block ≡ true → has_whole_options o block ≡ true
  as_packet : is_packet o block ≡ true → IsPacket o interfaces block

among : (timed o : Bool) (before blocks : List (List ℕ)) → AllFit timed o before blocks → AllByRecursion (IsAmong timed o (interfaces_in o (before ++ blocks))) blocks
among timed o before [] fit = tt
among timed o before (block ∷ blocks) fit =
    let all = filter-append (is_interface o) before (block ∷ blocks) in
    let next = append_assoc before (block ∷ []) blocks in (
      record {
        is_block = fit.0;
        as_interface = fit.1.as_interface;
        as_timed = fit.1.as_timed;
        as_packet = λ is. subst (λ (js : List (List ℕ)). IsPacket o js block) (sym all)
            (is_packet_behind_more o (interfaces_in o before) (interfaces_in o (block ∷ blocks)) block (fit.1.as_packet is));
      },
      subst (λ (bs : List (List ℕ)). AllByRecursion (IsAmong timed o (interfaces_in o bs)) blocks) next (among timed o (before ++ block ∷ []) blocks fit.2),
    )

few_packets : (timed o : Bool) (before blocks : List (List ℕ)) → AllFit timed o before blocks → length (packets_in o before) ≤ 1000000 → length (packets_in o (before ++ blocks)) ≤ 1000000
few_packets timed o before [] fit few = subst (λ (bs : List (List ℕ)). length (packets_in o bs) ≤ 1000000) (sym (append-nil before)) few
few_packets timed o before (block ∷ blocks) fit few =
    subst (λ (bs : List (List ℕ)). length (packets_in o bs) ≤ 1000000) (append_assoc before (block ∷ []) blocks)
    (few_packets timed o (before ++ block ∷ []) blocks fit.2 (by_test (is_packet o block) refl))
  where
    by_test : (b : Bool) → is_packet o block ≡ b → length (packets_in o (before ++ block ∷ [])) ≤ 1000000
    by_test true is =
        let below = fit.1.few is in
        let one : filter (is_packet o) (block ∷ []) ≡ block ∷ [] = rw is refl in
        let len : length (packets_in o (before ++ block ∷ [])) ≡ length (packets_in o before) + 1 =
        ap length (filter-append (is_packet o) before (block ∷ []) ∙ ap (λ (bs : List (List ℕ)). packets_in o before ++ bs) one) ∙ length-append (packets_in o before) (block ∷ []) in
        omega arith
    by_test false is =
        let one : filter (is_packet o) (block ∷ []) ≡ [] = rw is refl in
        let same : packets_in o (before ++ block ∷ []) ≡ packets_in o before =
        filter-append (is_packet o) before (block ∷ []) ∙ ap (λ (bs : List (List ℕ)). packets_in o before ++ bs) one ∙ append-nil (packets_in o before) in
        subst (λ (bs : List (List ℕ)). length bs ≤ 1000000) (sym same) few

-- THE BLOCKS THAT ARE WRITTEN

record IsInterfaceBlock (timed o : Bool) (block : List ℕ) : Type 0 where
  is_block : IsBlock o block
  is : IsInterface o block
  options : timed ≡ true → has_whole_options o block ≡ true

record IsPacketBlock (o : Bool) (interfaces : List (List ℕ)) (block : List ℕ) : Type 0 where
  is_block : IsBlock o block
  is : IsPacket o interfaces block

interfaces_fit :
    (timed o : Bool) (before interfaces rest : List (List ℕ)) → AllByRecursion (IsInterfaceBlock timed o) interfaces → AllFit timed o (before ++ interfaces) rest → AllFit timed o before (interfaces ++ rest)
interfaces_fit timed o before [] rest all fit = subst (λ (bs : List (List ℕ)). AllFit timed o bs rest) (append-nil before) fit
interfaces_fit timed o before (block ∷ blocks) rest all fit =
    let other : is_packet o block ≡ false = not_packet o block all.0.is.kind in (
      all.0.is_block,
      record {
        no_section = no_section_of_interface o block all.0.is.kind;
        as_interface = λ is. all.0.is;
        as_timed = λ t is. all.0.options t;
        few = λ is. cc;
        as_packet = λ is. cc;
      },
      interfaces_fit timed o (before ++ block ∷ []) blocks rest all.1 (subst (λ (bs : List (List ℕ)). AllFit timed o bs rest) (sym (append_assoc before (block ∷ []) blocks)) fit),
    )

packets_fit :
    (timed o : Bool) (interfaces before packets : List (List ℕ)) → interfaces_in o before ≡ interfaces → AllByRecursion (IsPacketBlock o interfaces) packets
    → length (packets_in o before) + length packets ≤ 1000000 → AllFit timed o before packets
packets_fit timed o interfaces before [] are all few = tt
packets_fit timed o interfaces before (block ∷ blocks) are all few =
    let kind = all.0.is.kind in
    let other : is_interface o block ≡ false = not_interface o block kind in
    let no_more : filter (is_interface o) (block ∷ []) ≡ [] = rw other refl in
    let one : filter (is_packet o) (block ∷ []) ≡ block ∷ [] = rw kind refl in
    let len : length (packets_in o (before ++ block ∷ [])) ≡ length (packets_in o before) + 1 =
    ap length (filter-append (is_packet o) before (block ∷ []) ∙ ap (λ (bs : List (List ℕ)). packets_in o before ++ bs) one) ∙ length-append (packets_in o before) (block ∷ []) in (
      all.0.is_block,
      record {
        no_section = no_section_of_packet o block kind;
        as_interface = λ is. cc;
        as_timed = λ t is. cc;
        few = λ is. omega arith;
        as_packet = λ is. subst (λ (js : List (List ℕ)). IsPacket o js block) (sym are) all.0.is;
      },
      packets_fit timed o interfaces (before ++ block ∷ []) blocks
          (filter-append (is_interface o) before (block ∷ []) ∙ ap (λ (bs : List (List ℕ)). interfaces_in o before ++ bs) no_more ∙ append-nil (interfaces_in o before) ∙ are) all.1 (omega arith),
    )

-- THE SECTION HEADER BLOCK WITHOUT ITS SECTION'S LENGTH

front_of : (s : List ℕ) → 28 ≤ length s → take 16 (without_length s) ≡ take 16 s
front_of s long =
    let len : length (take 16 s) ≡ 16 = length-take-le 16 s (omega arith) in
    let parts : without_length s ≡ take 16 s ++ (replicate 8 255 ++ drop 24 s) = append_assoc (take 16 s) (replicate 8 255) (drop 24 s) in
    ap (take 16) parts ∙ ap (λ n. take n (take 16 s ++ (replicate 8 255 ++ drop 24 s))) (sym len) ∙ take-append_seam (take 16 s) (replicate 8 255 ++ drop 24 s)

back_of : (s : List ℕ) → 28 ≤ length s → drop 24 (without_length s) ≡ drop 24 s
back_of s long =
    let len : length (take 16 s) ≡ 16 = length-take-le 16 s (omega arith) in
    let front : length (take 16 s ++ replicate 8 255) ≡ 24 = length-append (take 16 s) (replicate 8 255) ∙ ap (λ n. n + 8) len in
    ap (λ n. drop n (without_length s)) (sym front) ∙ drop-append_seam (take 16 s ++ replicate 8 255) (drop 24 s)

length-without_length : (s : List ℕ) → 28 ≤ length s → length (without_length s) ≡ length s
length-without_length s long =
    let len : length (take 16 s) ≡ 16 = length-take-le 16 s (omega arith) in
    let front : length (take 16 s ++ replicate 8 255) ≡ 24 = length-append (take 16 s) (replicate 8 255) ∙ ap (λ n. n + 8) len in
    let all = length-append (take 16 s ++ replicate 8 255) (drop 24 s) in
    let left = length-drop 24 s in
    omega arith

-- its fields are as they were
slice_in_front : (s : List ℕ) (a b : ℕ) → 28 ≤ length s → a ≤ b → b ≤ 16 → slice_range (without_length s) a b ≡ slice_range s a b
slice_in_front s a b long order within =
    sym (slice_range-take (without_length s) 16 a b order within) ∙ ap (λ (xs : List ℕ). slice_range xs a b) (front_of s long) ∙ slice_range-take s 16 a b order within

slice_in_back : (s : List ℕ) (a b : ℕ) → 28 ≤ length s → 24 ≤ a → slice_range (without_length s) a b ≡ slice_range s a b
slice_in_back s a b long behind =
    let sum : a ≡ 24 + (a - 24) = omega arith in
    let far : (xs : List ℕ) → drop a xs ≡ drop (a - 24) (drop 24 xs) = λ xs. ap (λ n. drop n xs) sum ∙ sym (drop-drop (a - 24) 24 xs) in
    ap (take (b - a)) (far (without_length s) ∙ ap (drop (a - 24)) (back_of s long) ∙ sym (far s))

number_in_front : (o : Bool) (s : List ℕ) (place : ℕ) → 28 ≤ length s → place + 4 ≤ 16 → number_in o (without_length s) place ≡ number_in o s place
unfolding number_in
number_in_front o s place long within = rw (slice_in_front s place (place + 4) long (omega arith) within) refl

number_in_back : (o : Bool) (s : List ℕ) (place : ℕ) → 28 ≤ length s → 24 ≤ place → number_in o (without_length s) place ≡ number_in o s place
unfolding number_in
number_in_back o s place long behind = rw (slice_in_back s place (place + 4) long behind) refl

version_in_front : (o : Bool) (s : List ℕ) → 28 ≤ length s → major_version o (without_length s) ≡ major_version o s
unfolding short_number_in
version_in_front o s long = rw (slice_in_front s 12 14 long (omega arith) (omega arith)) refl

same_order : (s : List ℕ) → 28 ≤ length s → is_little_endian (without_length s) ≡ is_little_endian s
same_order s long = ap (λ (part : List ℕ). eqb (from_le_bytes w32 part) 0x1a2b_3c4d) (slice_in_front s 8 12 long (omega arith) (omega arith))

still_section : (o : Bool) (s : List ℕ) → IsSection o s → IsSection (is_little_endian (without_length s)) (without_length s)
still_section o s is =
    let long = is.long in
    let block = is.is_block in
    let order : is_little_endian (without_length s) ≡ o = same_order s long ∙ sym is.order in
    let len : length (without_length s) ≡ length s = length-without_length s long in
    subst (λ k. IsSection k (without_length s)) (sym order)
    (record {
      shown = ap (λ (part : List ℕ). eqb (from_le_bytes w32 part) 0x1a2b_3c4d || eqb (from_be_bytes w32 part) 0x1a2b_3c4d) (slice_in_front s 8 12 long (omega arith) (omega arith)) ∙ is.shown;
      order = sym order;
      is_block = record {
        long = omega arith;
        aligned = ap (λ n. n % 4) len ∙ block.aligned;
        told = number_in_front o s 4 long (omega arith) ∙ block.told ∙ sym len;
        told_again = subst (λ n. number_in o (without_length s) (n - 4) ≡ n) (sym len) (number_in_back o s (length s - 4) long (omega arith) ∙ block.told_again);
      };
      long = omega arith;
      version = version_in_front o s long ∙ is.version;
    })

-- THE CAPTURE THAT IS WRITTEN

written_is : (timed : Bool) (bytes : List ℕ) (c : NgCapture) (packets : List ℕ) → IsPcapng timed bytes c → All (λ i. i < length c.packets) packets → IsDistinct eqb packets → IsPcapng timed (pcapng_text c packets) (with_packets c packets)
written_is timed bytes c packets k below distinct =
    let o = order_of c in
    let chosen = map (packet_block c) packets in
    let again = with_packets c packets in
    let order : order_of again ≡ o = same_order c.section k.section.long in
    let all : AllByRecursion (IsAmong timed o (interfaces_in o k.blocks)) k.blocks = among timed o [] k.blocks k.fit in
    let interface_blocks : AllByRecursion (IsInterfaceBlock timed o) c.interfaces =
    subst (AllByRecursion (IsInterfaceBlock timed o)) (sym k.interfaces)
    (weaker (λ b. IsAmong timed o (interfaces_in o k.blocks) b × (is_interface o b ≡ true)) (IsInterfaceBlock timed o) (λ b good. record { is_block = good.0.is_block; is = good.0.as_interface good.1; options = λ t. good.0.as_timed t good.1 })
    (interfaces_in o k.blocks) (kept (is_interface o) (IsAmong timed o (interfaces_in o k.blocks)) k.blocks all)) in
    let packet_blocks : AllByRecursion (IsPacketBlock o c.interfaces) c.packets =
    subst (AllByRecursion (IsPacketBlock o c.interfaces)) (sym k.packets)
    (weaker (λ b. IsAmong timed o (interfaces_in o k.blocks) b × (is_packet o b ≡ true)) (IsPacketBlock o c.interfaces)
    (λ b good. record { is_block = good.0.is_block; is = subst (λ (js : List (List ℕ)). IsPacket o js b) (sym k.interfaces) (good.0.as_packet good.1) })
    (packets_in o k.blocks) (kept (is_packet o) (IsAmong timed o (interfaces_in o k.blocks)) k.blocks all)) in
    let chosen_blocks : AllByRecursion (IsPacketBlock o c.interfaces) chosen = picked (IsPacketBlock o c.interfaces) c.packets packets packet_blocks (recursion_from_All (λ i. i < length c.packets) packets below) in
    let only_interfaces : interfaces_in o c.interfaces ≡ c.interfaces =
    all_kept (is_interface o) c.interfaces (weaker (IsInterfaceBlock timed o) (λ b. is_interface o b ≡ true) (λ b good. good.is.kind) c.interfaces interface_blocks) in
    let no_packets : packets_in o c.interfaces ≡ [] =
    none_kept (is_packet o) c.interfaces (weaker (IsInterfaceBlock timed o) (λ b. is_packet o b ≡ false) (λ b good. not_packet o b good.is.kind) c.interfaces interface_blocks) in
    let no_interfaces : interfaces_in o chosen ≡ [] =
    none_kept (is_interface o) chosen (weaker (IsPacketBlock o c.interfaces) (λ b. is_interface o b ≡ false) (λ b good. not_interface o b good.is.kind) chosen chosen_blocks) in
    let only_packets : packets_in o chosen ≡ chosen =
    all_kept (is_packet o) chosen (weaker (IsPacketBlock o c.interfaces) (λ b. is_packet o b ≡ true) (λ b good. good.is.kind) chosen chosen_blocks) in
    let few : length c.packets ≤ 1000000 = subst (λ (bs : List (List ℕ)). length bs ≤ 1000000) (sym k.packets) (few_packets timed o [] k.blocks k.fit (omega arith)) in
    let fewer : length packets ≤ length c.packets =
    length-le_from_distinct_below packets (length c.packets) distinct (λ q found. All-contains (λ i. i < length c.packets) packets q below (Contains-from_any eqb-true q packets found)) in
    let count : length chosen ≡ length packets = length-map packets (packet_block c) in
    let none : length (packets_in o c.interfaces) ≡ 0 = ap length no_packets in
    let joined : concat (c.interfaces ++ chosen) ≡ concat c.interfaces ++ flat_map (packet_block c) packets =
    concat-append c.interfaces chosen ∙ ap (λ (bs : List ℕ). concat c.interfaces ++ bs) (concat_is chosen ∙ flat_map-map (λ x. x) (packet_block c) packets) in
    record {
      blocks = c.interfaces ++ chosen;
      whole = append_assoc (without_length c.section) (concat c.interfaces) (flat_map (packet_block c) packets) ∙ ap (λ (bs : List ℕ). without_length c.section ++ bs) (sym joined);
      section = still_section o c.section k.section;
      fit = subst (λ b. AllFit timed b [] (c.interfaces ++ chosen)) (sym order)
          (interfaces_fit timed o [] c.interfaces chosen interface_blocks (packets_fit timed o c.interfaces c.interfaces chosen only_interfaces chosen_blocks (omega arith)));
      interfaces = subst (λ b. c.interfaces ≡ interfaces_in b (c.interfaces ++ chosen)) (sym order)
          (sym (filter-append (is_interface o) c.interfaces chosen ∙ ap (λ (bs : List (List ℕ)). bs ++ interfaces_in o chosen) only_interfaces
          ∙ ap (λ (bs : List (List ℕ)). c.interfaces ++ bs) no_interfaces ∙ append-nil c.interfaces));
      packets = subst (λ b. chosen ≡ packets_in b (c.interfaces ++ chosen)) (sym order)
          (sym (filter-append (is_packet o) c.interfaces chosen ∙ ap (λ (bs : List (List ℕ)). bs ++ packets_in o chosen) no_packets ∙ only_packets));
    }

pub accepted_again :
    (timed : Bool) (bytes : List ℕ) (c : NgCapture) (packets : List ℕ) → pcapng_of timed bytes ≡ Ok c → All (λ i. i < length c.packets) packets → IsDistinct eqb packets
    → (pcapng_of timed (pcapng_text c packets) ≡ Ok (with_packets c packets))
    × (frames_in (with_packets c packets) ≡ map (λ i. frame_in c (packet_block c i)) packets)
    × (links_in (with_packets c packets) ≡ map (λ i. link_in c (packet_block c i)) packets)
accepted_again timed bytes c packets accepted below distinct =
    let k = accepted_is timed bytes c accepted in
    let order : order_of (with_packets c packets) ≡ order_of c = same_order c.section k.section.long in (
      is_accepted timed (pcapng_text c packets) (with_packets c packets) (written_is timed bytes c packets k below distinct),
      ap (λ o. map (λ (b : List ℕ). slice_range b (data_place o b) (data_place o b + captured_length o c.interfaces b)) (map (packet_block c) packets)) order
          ∙ map-map (frame_in c) (packet_block c) packets,
      ap (λ o. map (λ b. link_type o (interface_at c.interfaces (interface_number o b))) (map (packet_block c) packets)) order
          ∙ map-map (link_in c) (packet_block c) packets,
    )
