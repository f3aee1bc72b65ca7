-- What the children of a multi-queue root sent together: a file and a line for each root.
use Rattle.std.specs.Prelude.{◌≡◌, ◌⊎◌, ◌<◌, ◌≤◌, ℕ, ◌+◌, Bool, false, ◌&&◌, ◌==◌, nat_le, nat_lt, List, ◌++◌, length, map, filter, All, AllPairs, count_by, slice_get, Some, codes}
use Rattle.std.specs.List.{flat_map}
use Rattle.std.specs.Fmt.{decimal}
use Rattle.lq_model.specs.Numbers.{first_numbers}
use Rattle.lq_model.specs.Plan.{Plan, first_at, mq_at}
use Rattle.lq_model.specs.Sent.{sent_of}
use Rattle.lq_model.specs.declared.fate.Fate.{Fate}
use Rattle.lq_model.specs.declared.fate.Fate.TheVariants.{Sent, Full, Shrunk, Purged, Refused}
use Rattle.lq_mq.specs.Joint.{joint}
use Rattle.lq_mq.specs.Laws.{IsSubsequence}
use Rattle.lq_mq.specs.Line.{mq_text}
use Rattle.lq_pcapng.specs.File.{text_of}
use Rattle.lq_pcapng.specs.declared.file.CaptureFile.{CaptureFile}
use Rattle.lq_files.specs.Written.{FileText}

-- WHAT THEY SENT

-- the packets that the children of group j sent: by serial, and at one serial by child. A child is a station, whose unit has its
-- number: no device of a multi-queue root is swapped.
abbrev pub sent_by_group : Plan → List Fate → ℕ → List ℕ
sent_by_group plan fates j = joint (map (λ k. sent_of fates (first_at plan.groups j + k)) (first_numbers (mq_at plan.groups j)))

-- TEXTS

-- the multi-queue roots, in ascending order: the groups with more than one child
abbrev pub roots : Plan → List ℕ
roots plan = filter (λ j. nat_lt 1 (mq_at plan.groups j)) (first_numbers (length plan.groups))

-- OUT.mqJ.pcap
abbrev pub group_capture_name : List ℕ → ℕ → List ℕ
group_capture_name out j = out ++ (codes ".mq" ++ (decimal j ++ codes ".pcap"))

-- a file for each root: the capture of the packets that its children sent, in the format of the capture that is run
abbrev pub group_files : List ℕ → CaptureFile → Plan → List Fate → List FileText
group_files out capture plan fates =
    map (λ j. record { name = group_capture_name out j; text = text_of capture (sent_by_group plan fates j) }) (roots plan)

-- mq J queues Q sent A, for each root: how many children it has, and how many packets its capture
abbrev pub mq_lines : Plan → List Fate → List ℕ
mq_lines plan fates = flat_map (λ j. mq_text j (mq_at plan.groups j) (length (sent_by_group plan fates j))) (roots plan)

-- whether a unit from number low on and below high sent the packet
abbrev pub is_sent_between : ℕ → ℕ → Fate → Bool
is_sent_between low high (Sent unit serial) = nat_le low unit && nat_lt unit high
is_sent_between low high (Full seen) = false
is_sent_between low high (Shrunk event) = false
is_sent_between low high (Purged cause) = false
is_sent_between low high (Refused event) = false

-- WHAT THAT COMES TO

abbrev pub IsChildOf : Plan → ℕ → ℕ → Type 0
IsChildOf plan j child = (first_at plan.groups j ≤ child) × (child < first_at plan.groups j + mq_at plan.groups j)

-- a child of group j sent packet n
abbrev pub IsSentByGroup : Plan → List Fate → ℕ → ℕ → Type 0
IsSentByGroup plan fates j n = (child : ℕ) × (serial : ℕ) × IsChildOf plan j child × (slice_get fates n ≡ Some (Sent child serial))

-- packet m was sent with a lower serial than packet n, or with the same one by a lower unit
abbrev pub IsSentBefore : List Fate → ℕ → ℕ → Type 0
IsSentBefore fates m n =
    (u v s t : ℕ) × (slice_get fates m ≡ Some (Sent u s)) × (slice_get fates n ≡ Some (Sent v t)) × ((s < t) ⊎ ((s ≡ t) × (u < v)))

-- These packets are what the children of group j sent.
pub record AreOfGroup (plan : Plan) (fates : List Fate) (j : ℕ) (packets : List ℕ) : Type 0 where
  -- each child's packets stand among them in their order
  pub each_child : (child : ℕ) → IsChildOf plan j child → IsSubsequence (sent_of fates child) packets
  -- each packet that a child sent is there once, and no other one is
  pub once : (n : ℕ) → IsSentByGroup plan fates j n → count_by (λ m. m == n) packets ≡ 1
  pub no_other : All (IsSentByGroup plan fates j) packets
  -- by serial, and at one serial by child
  pub in_order : AllPairs (IsSentBefore fates) packets
