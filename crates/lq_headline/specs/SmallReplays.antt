-- Small replays: what the page's words come to.
use Rattle.std.specs.Prelude.{◌≡◌, ◌↔◌, ◌<◌, ℕ, zero, suc, List, [], ◌∷◌, length, slice_get, Some}
use Rattle.lq_model.specs.declared.fate.Cause.TheVariants.{Hung}
use Rattle.lq_model.specs.declared.fate.Fate.{Fate}
use Rattle.lq_model.specs.declared.fate.Fate.TheVariants.{Sent, Full, Purged}
use Rattle.lq_headline.specs.Page.{Headline, Replay}

-- unit 0 sent these, and no other unit any
abbrev pub by_first : List ℕ → ℕ → List ℕ
by_first sent zero = sent
by_first sent (suc unit) = []

-- a replay of packets of one sender and one band, through one station
abbrev pub small : ℕ → List (List ℕ) → List Fate → List ℕ → Replay
small units records fates sent = record {
  plan_text = [];
  capture_bytes = [];
  head = 9 ∷ [];
  records = records;
  sender = λ n. 0;
  station = λ n. 0;
  band = λ n. 0;
  units = units;
  stations = 1;
  fates = fates;
  sent = by_first sent;
}

-- packet 2 was sent first and packet 0 second, packet 1 was dropped as full, and packet 3 purged as its device hung
abbrev pub four : Replay
four = small 1 ((1 ∷ []) ∷ (2 ∷ []) ∷ (3 ∷ []) ∷ (4 ∷ []) ∷ []) (Sent 0 1 ∷ Full 0 ∷ Sent 0 0 ∷ Purged (Hung 0) ∷ []) (2 ∷ 0 ∷ [])

-- THE FACTS OF A HEADLINE, one by one

abbrev pub OneFateEach : Replay → Type 0
OneFateEach run = length run.fates ≡ length run.records

abbrev pub SentPackets : Replay → Type 0
SentPackets run = (unit n k : ℕ) → (slice_get (run.sent unit) k ≡ Some n) ↔ (slice_get run.fates n ≡ Some (Sent unit k))

abbrev pub SentByUnits : Replay → Type 0
SentByUnits run = (unit n k : ℕ) → slice_get (run.sent unit) k ≡ Some n → unit < run.units

abbrev pub InOrder : Replay → Type 0
InOrder run = (unit m n j k : ℕ) → m < n → run.sender m ≡ run.sender n → run.band m ≡ run.band n → slice_get (run.sent unit) j ≡ Some m → slice_get (run.sent unit) k ≡ Some n → j < k

-- some replay has these facts and is no headline
abbrev pub IsNotEnough : (Replay → Type 0) → Type 0
IsNotEnough facts = (run : Replay) × facts run × (Headline run → ⊥)
