-- What `lqtx run PLAN CAPTURE OUT` is proved to do. Texts, files and names are lists of bytes; packets, units (devices), stations and
-- serials are numbers from 0 on. docs/HEADLINE.md is this text in the order of the sentence.
use Rattle.std.specs.Prelude.{◌≡◌, ◌↔◌, ◌<◌, ◌≤◌, ◌+◌, ◌==◌, ℕ, true, false, nat_eq, List, [], ◌∷◌, ◌++◌, All, length, map, filter, count_by, slice_get, slice_index_or, Some, codes}
use Rattle.std.specs.Fmt.{decimal}
use Rattle.std.specs.List.{concat, enumerate_from, flat_map, starts_with}
use Rattle.lq_model.specs.Capture.{is_little_endian}
use Rattle.lq_model.specs.Numbers.{first_numbers}
use Rattle.lq_model.specs.declared.fate.Cause.TheVariants.{Event, Hung}
use Rattle.lq_model.specs.declared.fate.Fate.{Fate}
use Rattle.lq_model.specs.declared.fate.Fate.TheVariants.{Sent, Full, Shrunk, Purged, Refused}
use Rattle.lq_host.specs.Host.{HostState}
use Rattle.lq_pcapng.specs.File.{is_pcapng}
use Rattle.lq_pcapng.specs.Pcapng.{is_interface, is_packet, number_in, without_length}
use Rattle.lq_pcapng.specs.Pcapng as ng

-- A REPLAY

-- what a call read, and what became of each packet
pub record Replay : Type 0 where
  -- the plan's file and the capture's
  pub plan_text : List ℕ
  pub capture_bytes : List ℕ
  -- the capture in parts: its head (in the classic format the file header), and the record of each packet with its header
  pub head : List ℕ
  pub records : List (List ℕ)
  -- of packet n the sender that transmits it, the station that it goes through, and its band there
  pub sender : ℕ → ℕ
  pub station : ℕ → ℕ
  pub band : ℕ → ℕ
  -- how many stations there are, and how many units
  pub stations : ℕ
  pub units : ℕ
  -- the fate of each packet
  pub fates : List Fate
  -- the packets that each unit sent, the first one first
  pub sent : ℕ → List ℕ

-- THE HEADLINE

pub record Headline (run : Replay) : Type 0 where
  -- each packet of the capture gets exactly one fate: packet n has element n of the list
  pub one_fate_each : length run.fates ≡ length run.records
  -- packet n is element k of what a unit sent if and only if its fate says so
  pub sent_packets : (unit n k : ℕ) → (slice_get (run.sent unit) k ≡ Some n) ↔ (slice_get run.fates n ≡ Some (Sent unit k))
  -- only the plan's units sent packets
  pub sent_by_units : (unit n k : ℕ) → slice_get (run.sent unit) k ≡ Some n → unit < run.units
  -- of two packets of one sender and one band that one unit sent, the one that comes first in the capture was sent first
  pub in_order : (unit m n j k : ℕ) → m < n → run.sender m ≡ run.sender n → run.band m ≡ run.band n
      → slice_get (run.sent unit) j ≡ Some m → slice_get (run.sent unit) k ≡ Some n → j < k

-- WHAT IS WRITTEN

-- a unit's written capture: the head, and then the records of the packets that the unit sent
abbrev pub unit_capture : Replay → ℕ → List ℕ
unit_capture run unit = run.head ++ flat_map (λ n. slice_index_or run.records n []) (run.sent unit)

-- a fate in words: the unit's device accepted the packet, after `serial` others; or its band's ring was full, with the packet `seen` in its
-- slot; or an event of the plan shortened the rings; or its station was emptied, by an event or since the unit hung; or was deactivated
abbrev pub fate_text : Fate → List ℕ
fate_text (Sent unit serial) = codes "sent " ++ decimal unit ++ codes " " ++ decimal serial
fate_text (Full seen) = codes "full " ++ decimal seen
fate_text (Shrunk event) = codes "shrunk " ++ decimal event
fate_text (Purged (Event event)) = codes "purged " ++ decimal event
fate_text (Purged (Hung unit)) = codes "purged hung"
fate_text (Refused event) = codes "refused " ++ decimal event

-- a line for each packet: its number and its fate
abbrev pub fate_lines : List Fate → List ℕ
fate_lines fates = flat_map (λ packet. decimal packet.0 ++ codes " " ++ fate_text packet.1 ++ codes "\n") (enumerate_from 0 fates)

-- how many fates begin with this word
abbrev pub count : List Fate → List ℕ → ℕ
count fates word = count_by (λ fate. starts_with nat_eq (fate_text fate) word) fates

-- the end of a line: ` full A shrunk B purged C refused D`
abbrev pub unsent_counts : List Fate → List ℕ
unsent_counts fates =
    flat_map (λ word. codes " " ++ word ++ codes " " ++ decimal (count fates word))
    (codes "full" ∷ codes "shrunk" ∷ codes "purged" ∷ codes "refused" ∷ []) ++ codes "\n"

-- the fates of a station's packets
abbrev pub fates_at : Replay → ℕ → List Fate
fates_at run station = map (λ packet. packet.1) (filter (λ packet. run.station packet.0 == station) (enumerate_from 0 run.fates))

-- the counts: a line for each unit, one for each station, and one of all
abbrev pub count_lines : Replay → List ℕ
count_lines run =
    flat_map (λ unit. codes "unit " ++ decimal unit ++ codes " sent " ++ decimal (length (run.sent unit)) ++ codes "\n") (first_numbers run.units)
    ++ flat_map (λ station. codes "station " ++ decimal station ++ unsent_counts (fates_at run station)) (first_numbers run.stations)
    ++ (codes "total " ++ decimal (length run.fates) ++ codes " sent " ++ decimal (count run.fates (codes "sent")) ++ unsent_counts run.fates)

-- what the host had given and been handed before the call (`old`), and after it (`new`)
pub record HasWritten (plan capture out : List ℕ) (run : Replay) (old new : HostState) : Type 0 where
  -- the plan was read and then the capture, each once, and no other file; the latest one stands first
  pub reads : new.given ≡ record { name = capture; bytes = run.capture_bytes } ∷ record { name = plan; bytes = run.plan_text } ∷ old.given
  -- OUT.0.pcap, OUT.1.pcap and so on were handed the units' written captures, and OUT.fates the fates
  pub captures : (unit : ℕ) → unit < run.units → new.handed.files (out ++ codes "." ++ decimal unit ++ codes ".pcap") ≡ Some (unit_capture run unit)
  pub fates : new.handed.files (out ++ codes ".fates") ≡ Some (fate_lines run.fates)
  -- the counts were printed, and after them the lines of multi-queue roots, of which nothing is said here
  pub counts : (roots : List ℕ) × (new.handed.output ≡ old.handed.output ++ (count_lines run ++ roots))

-- each unit's device accepted just the packets that the unit sent, in that order
abbrev pub HaveAccepted : Replay → List (List ℕ) → Type 0
HaveAccepted run accepted = (unit : ℕ) → unit < run.units → slice_get accepted unit ≡ Some (run.sent unit)

-- THE CAPTURE

-- the classic format: the head has 24 bytes, and a record has 16 and as many more as its bytes 8 to 11 say
pub record IsClassicFile (file head : List ℕ) (records : List (List ℕ)) : Type 0 where
  pub whole : file ≡ head ++ concat records
  pub head_size : length head ≡ 24
  pub sizes : All (λ bytes. length bytes ≡ 16 + number_in (is_little_endian head) bytes 8) records

-- pcapng: a file is blocks, each as long as its bytes 4 to 7 say. The records are the packet blocks. The head is the first block,
-- without the length of its section, and then the blocks that describe interfaces.
pub record IsPcapngFile (file head : List ℕ) (records : List (List ℕ)) : Type 0 where
  pub first : List ℕ
  pub blocks : List (List ℕ)
  pub whole : file ≡ first ++ concat blocks
  pub sizes : All (λ block. (12 ≤ length block) × (length block ≡ number_in (ng.is_little_endian first) block 4)) (first ∷ blocks)
  pub records_are : records ≡ filter (is_packet (ng.is_little_endian first)) blocks
  pub head_is : head ≡ without_length first ++ concat (filter (is_interface (ng.is_little_endian first)) blocks)

-- the first four bytes show which of the two it is
pub record IsCaptureFile (file head : List ℕ) (records : List (List ℕ)) : Type 0 where
  pub classic : is_pcapng file ≡ false → IsClassicFile file head records
  pub pcapng : is_pcapng file ≡ true → IsPcapngFile file head records
