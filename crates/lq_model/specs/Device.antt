-- What callers see of a device, and how it answers.
use Rattle.std.specs.Prelude.{◌≡◌, ℕ, ◌+◌, ◌%◌, ◌<◌, ◌≤◌, Bool, true, false, ◌&&◌, nat_lt, ◌==◌, if◌then◌else◌, List, [], ◌∷◌, ◌++◌, length, Option, IfSome}
use Rattle.std.specs.Option.{option_map}
use Rattle.lq_model.specs.declared.device.Params.{Params}
use Rattle.lq_model.specs.declared.device.Tx.{Tx}
use Rattle.lq_model.specs.declared.device.Tx.TheVariants.{Sent, SentStop, SentHang, Busy}

-- STATES

-- what a device tells of its rule: its parameters, and how many answers were Busy since it was configured
pub record Telling : Type 0 where
  pub params : Params
  pub busies : ℕ

-- what a device is asked: a packet, offered on one of its queues
pub record DeviceCall : Type 0 where
  pub queue : ℕ
  pub packet : ℕ

-- which device it is; the calls that it was asked since it was configured, and the packets that it accepted of them; for how many
-- more it has room; how many more answers may be Busy; whether it hangs; and what it tells, if it tells
pub record DeviceState : Type 0 where
  pub identity : ℕ
  pub asked : List DeviceCall
  pub accepted : List ℕ
  pub spare : ℕ
  pub busy_left : ℕ
  pub hung : Bool
  pub told : Option Telling

-- the parameters that it tells, if it tells
abbrev pub told_params : DeviceState → Option Params
told_params d = option_map (λ (t : Telling). t.params) d.told

-- THE RULE OF A DEVICE THAT TELLS

-- a multiple of a number that isn't 0
abbrev pub is_multiple : ℕ → ℕ → Bool
is_multiple n every = nat_lt 0 every && (n % every == 0)

-- the answer to a call, where n packets were accepted before it; the other calls before it were answered Busy
abbrev pub answer_of : Telling → ℕ → Tx
answer_of t n =
    if is_multiple (n + t.busies + 1) t.params.busy_every && nat_lt t.busies t.params.busy_limit then Busy
    else if nat_lt 0 t.params.hang_after && (n + 1 == t.params.hang_after) then SentHang
    else if is_multiple (n + 1) t.params.burst then SentStop else Sent

-- ANSWERS

-- the packets that an answer accepts: this one, or none
abbrev pub taken : Tx → ℕ → List ℕ
taken Busy packet = []
taken _ packet = packet ∷ []

abbrev pub is_hang : Tx → Bool
is_hang SentHang = true
is_hang _ = false

abbrev pub is_busy : Tx → Bool
is_busy Busy = true
is_busy _ = false

abbrev pub told_after : Tx → Telling → Telling
told_after answer t = record { params = t.params; busies = t.busies + (if is_busy answer then 1 else 0) }

abbrev pub device_call : ℕ → ℕ → DeviceCall
device_call queue packet = record { queue = queue; packet = packet }

-- an answer to a packet that was offered on a queue: it is the same device, asked just this call more; just what it accepts is
-- behind what was accepted, and takes room; and an answer Busy lowers how many more there may be, which no answer raises
pub record Answers (answer : Tx) (queue packet : ℕ) (old new : DeviceState) : Type 0 where
  pub identity : new.identity ≡ old.identity
  pub asked : new.asked ≡ old.asked ++ device_call queue packet ∷ []
  pub accepted : new.accepted ≡ old.accepted ++ taken answer packet
  pub spare : new.spare + length (taken answer packet) ≡ old.spare
  pub hung : new.hung ≡ is_hang answer
  pub busy : (new.busy_left ≤ old.busy_left) × (is_busy answer ≡ true → new.busy_left < old.busy_left)
  pub told : new.told ≡ option_map (told_after answer) old.told
  pub rule : IfSome old.told (λ t. answer ≡ answer_of t (length old.accepted))

-- a device that was just configured, with room for so many packets: the same one, asked nothing
pub record IsConfigured (params : Params) (room : ℕ) (old new : DeviceState) : Type 0 where
  pub identity : new.identity ≡ old.identity
  pub asked : new.asked ≡ []
  pub accepted : new.accepted ≡ []
  pub spare : room ≤ new.spare
  pub busy_left : new.busy_left ≤ params.busy_limit
  pub hung : new.hung ≡ false
  pub told : new.told ≡ option_map (λ _. record { params = params; busies = 0 }) old.told
