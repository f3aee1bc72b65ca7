-- What is so of the packets once every seat of a tap is joined into the reader's and nothing is left in the ring.
use Rattle.std.specs.Prelude.{◌≡◌, ℕ, ◌+◌, ◌%◌, ◌<◌, ◌≤◌, length, Contains, AllPairs}
use Rattle.lq_band_laws.specs.Times.{times}
use Rattle.lq_tap.specs.Views.{View}

-- the packet n comes before m, where they are of one sender
abbrev pub ComesBefore : ℕ → ℕ → ℕ → Type 0
ComesBefore senders n m = n % senders ≡ m % senders → n < m

pub record IsSettled (v : View) : Type 0 where
  -- every packet that was put is one that the reader took or one that was destroyed, once
  pub once : (n : ℕ) → times n v.sender.puts ≡ times n v.reader.taken + times n v.reader.destroyed
  pub once_put : (n : ℕ) → times n v.sender.puts ≤ 1
  -- each sender's packets were taken in its order
  pub in_order : AllPairs (ComesBefore v.about.senders) v.reader.taken
  -- A full packet saw another one that was put, and was not put itself; and at least as many were put as the ring has slots.
  pub saw : (n seen : ℕ) → Contains v.sender.fulls (n, seen) → times seen v.sender.puts ≡ 1
  pub not_put : (n seen : ℕ) → Contains v.sender.fulls (n, seen) → times n v.sender.puts ≡ 0
  pub full : (n seen : ℕ) → Contains v.sender.fulls (n, seen) → v.about.len ≤ length v.sender.puts
  -- where one was destroyed, at least as many others were put as the ring has slots
  pub lost : 0 < length v.reader.destroyed → v.about.len < length v.sender.puts
  -- there are no more packets than those of the capture: so none is full or destroyed where they all have room
  pub few : length v.sender.puts ≤ v.about.packets
  pub few_full : (n seen : ℕ) → Contains v.sender.fulls (n, seen) → length v.sender.puts < v.about.packets
