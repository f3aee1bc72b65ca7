use Rattle.std.proofs.Common.{◌≡◌, ◌+◌, ◌≤◌, ◌<◌, ◌==◌, ◌&&◌, ℕ, nat_lt, Bool, true, false, cond, sym, refl, ◌∙◌, ap, ap₂, subst, length, rules, arith}
use Rattle.std.proofs.lemmas.Grind.{common_steps}
use Rattle.lq_model.specs.Device.{answer_of, is_multiple}
use Rattle.lq_model.specs.declared.device.Tx.{Tx}
use Rattle.lq_model.specs.declared.device.Tx.TheVariants.{Sent, SentStop, SentHang, Busy}
use Rattle.lq_device.specs.Multiples.{left_to_multiple}
use Rattle.lq_device.specs.declared.bench.BenchDevice.{BenchDevice}
use Rattle.lq_device.proofs.bench.BenchDeviceTxDevice.xmit.Goals as goal
use Rattle.lq_device.proofs.bench.BenchDeviceTxDevice.xmit.Goals.{After-len, else-may_be_busy-via-then-may_be_busy+else-self, else-may_be_busy-via-else-may_be_busy}

-- the answer by the three rules
abbrev by-rules : Bool → Bool → Bool → Tx
by-rules busy hangs stops = cond busy Busy (cond hangs SentHang (cond stops SentStop Sent))

both-no : (may : Bool) (busies limit : ℕ) → limit ≤ busies → (may && nat_lt busies limit) ≡ false
both-no may busies limit past = grind (arith, common_steps)

both-yes : (may : Bool) (busies limit : ℕ) → may ≡ true → busies < limit → (may && nat_lt busies limit) ≡ true
both-yes may busies limit is below = grind (arith, common_steps)

not-may : (may : Bool) (low : Bool) → may ≡ false → (may && low) ≡ false
not-may may low never = grind (arith, common_steps)

-- an answer that is neither Busy nor SentHang
by-answer : (busy hangs stops last : Bool) → busy ≡ false → hangs ≡ false → stops ≡ last → by-rules false false last ≡ by-rules busy hangs stops
by-answer busy hangs stops last one two three = sym (ap (λ b. by-rules b hangs stops) one ∙ ap₂ (by-rules false) two three)

by-hang : (busy hangs stops : Bool) → busy ≡ false → hangs ≡ true → SentHang ≡ by-rules busy hangs stops
by-hang busy hangs stops one two = sym (ap (λ b. by-rules b hangs stops) one ∙ ap (λ b. by-rules false b stops) two)

by-busy : (busy hangs stops : Bool) → busy ≡ true → Busy ≡ by-rules busy hangs stops
by-busy busy hangs stops one = sym (ap (λ b. by-rules b hangs stops) one)

-- the answer that the rules give, by how many packets the device says that it has accepted
abbrev answer_by : BenchDevice → Tx
answer_by d = answer_of (record { params = d.params; busies = d.busies }) d.accepted.len

-- the same by the list of them
by-list : (d : BenchDevice) (answer : Tx) → answer ≡ answer_by d → answer ≡ answer_of (record { params = d.params; busies = d.busies }) (length d.accepted.items)
by-list d answer is = subst (λ n. answer ≡ answer_of (record { params = d.params; busies = d.busies }) n) d.accepted.ok.0 is

-- what is left to the next multiple above a number, by another name of the number
left-to : (left number every same : ℕ) → left ≡ left_to_multiple number every → same ≡ number → left ≡ left_to_multiple same every
left-to left number every same is one = is ∙ ap (λ n. left_to_multiple n every) (sym one)

module _ (c : After-len) where
  abbrev d : BenchDevice
  d = c.args.self.now

  not-busy : (is_multiple (d.accepted.len + d.busies + 1) d.params.busy_every && nat_lt d.busies d.params.busy_limit) ≡ false
  not-busy =
      let may = c.is_multiple_next-may_be_busy.ensures (d.accepted.len + d.busies) d.params.busy_every d.busy_counted in
      elim c.else-may_be_busy.branch [
        | else-may_be_busy-via-then-may_be_busy+else-self w ↦ both-no _ _ _ w.if-self.false
        | else-may_be_busy-via-else-may_be_busy w ↦ not-may _ _ (sym may ∙ w.if-may_be_busy.false)
      ]

  -- whether it hangs is asked of the list with the packet
  hangs-as-asked : (hangs : Bool) → hangs ≡ (nat_lt 0 d.params.hang_after && (c.len.result == d.params.hang_after)) → (nat_lt 0 d.params.hang_after && (d.accepted.len + 1 == d.params.hang_after)) ≡ hangs
  hangs-as-asked hangs is = ap (λ n. nat_lt 0 d.params.hang_after && (n == d.params.hang_after)) (sym (c.len.ensures ∙ c.push_reserved.ensures.len)) ∙ sym is

  stops : c.is_multiple_next-stops.result ≡ is_multiple (d.accepted.len + 1) d.params.burst
  stops = c.is_multiple_next-stops.ensures d.accepted.len d.params.burst d.stop_counted

  busy-counted : c.left_after_one-self.result ≡ left_to_multiple (c.push_reserved.new.self.len + d.busies) d.params.busy_every
  busy-counted = let more = c.push_reserved.ensures.len in left-to _ (d.accepted.len + d.busies + 1) _ _ (c.left_after_one-self.ensures (d.accepted.len + d.busies) d.busy_counted) (omega arith)

  stop-counted : c.left_after_one-self-2.result ≡ left_to_multiple c.push_reserved.new.self.len d.params.burst
  stop-counted = left-to _ (d.accepted.len + 1) _ _ (c.left_after_one-self-2.ensures d.accepted.len d.stop_counted) c.push_reserved.ensures.len

pub invariant_of-self : goal.invariant_of-self
invariant_of-self c =
    let d = c.args.self.now in let below = c.if-self.true in
    record {
      busies_within = omega arith;
      busy_counted = left-to _ (d.accepted.len + d.busies + 1) _ _ (c.left_after_one-self.ensures (d.accepted.len + d.busies) d.busy_counted) (omega arith);
      stop_counted = d.stop_counted;
    }

pub invariant_of-self-then-hangs_at : goal.invariant_of-self-then-hangs_at
invariant_of-self-then-hangs_at c =
    let at = (goal.at.invariant_of-self-then-hangs_at c).After-len in
    record { busies_within = c.args.self.now.busies_within; busy_counted = busy-counted at; stop_counted = stop-counted at }

pub invariant_of-self-else-hangs_at : goal.invariant_of-self-else-hangs_at
invariant_of-self-else-hangs_at c =
    let at = (goal.at.invariant_of-self-else-hangs_at c).After-len in
    record { busies_within = c.args.self.now.busies_within; busy_counted = busy-counted at; stop_counted = stop-counted at }

pub returns-then-self : goal.returns-then-self
returns-then-self c =
    let d = c.args.self.now in
    record {
      identity = refl;
      asked = search rules;
      accepted = search rules;
      spare = grind (arith, common_steps);
      hung = search rules;
      busy = search rules;
      told = refl;
      rule = by-list d Busy (by-busy _ _ _ (both-yes _ _ _ (sym (c.is_multiple_next-may_be_busy.ensures (d.accepted.len + d.busies) d.params.busy_every d.busy_counted) ∙ c.if-may_be_busy.true) c.if-self.true));
    }

pub returns-then-hangs_at : goal.returns-then-hangs_at
returns-then-hangs_at c =
    let at = (goal.at.returns-then-hangs_at c).After-len in
    record {
      identity = refl;
      asked = search rules;
      accepted = search rules;
      spare = grind (arith, common_steps);
      hung = refl;
      busy = search rules;
      told = grind (arith, common_steps);
      rule = by-list c.args.self.now SentHang (by-hang _ _ _ (not-busy at) (hangs-as-asked at true (sym c.if-hangs_at.true ∙ c.hangs_at.ensures)));
    }

pub returns-then-stops : goal.returns-then-stops
returns-then-stops c =
    let at = (goal.at.returns-then-stops c).After-len in
    record {
      identity = refl;
      asked = search rules;
      accepted = search rules;
      spare = grind (arith, common_steps);
      hung = search rules;
      busy = search rules;
      told = grind (arith, common_steps);
      rule = by-list c.args.self.now SentStop (by-answer _ _ _ true (not-busy at) (hangs-as-asked at false (sym c.if-hangs_at.false ∙ c.hangs_at.ensures)) (sym (stops at) ∙ c.if-stops.true));
    }

pub returns-else-stops : goal.returns-else-stops
returns-else-stops c =
    let at = (goal.at.returns-else-stops c).After-len in
    record {
      identity = refl;
      asked = search rules;
      accepted = search rules;
      spare = grind (arith, common_steps);
      hung = search rules;
      busy = search rules;
      told = grind (arith, common_steps);
      rule = by-list c.args.self.now Sent (by-answer _ _ _ false (not-busy at) (hangs-as-asked at false (sym c.if-hangs_at.false ∙ c.hangs_at.ensures)) (sym (stops at) ∙ c.if-stops.false));
    }
