use Rattle.std.proofs.Common.{◌≡◌, ◌<◌, ◌∙◌, ◌+◌, ◌-◌, ℕ, suc, List, length, vec_len, ap, sym, subst, arith}
use Rattle.std.specs.Prelude.{replicate}
use Rattle.lq_tap.specs.Made.{Made, ◌⊳◌, cut}
use Rattle.lq_band_laws.specs.Times.{times}
use Rattle.lq_tap.specs.Told.{omitting}
use Rattle.lq_tap.specs.Views.{View, counting}
use Rattle.lq_tap_run.specs.Lanes.{AreReady, IsLaneReady}
use Rattle.lq_tap_run.specs.declared.lanes.Lane.{Lane}
use Rattle.lq_tap_run.proofs.Seating.{one_more_ready, ready_lane}
use Rattle.lq_tap_run.proofs.run.make_lanes.Goals as goal

pub loop-sender-preserved : goal.loop-sender-preserved
loop-sender-preserved c =
    let inv = c.loop-sender.invariant in
    let was = inv.splitting in
    let sender = c.loop-sender.sender in
    let senders = c.args.senders in
    let is = c.split.ensures.view in
    let lt : sender < senders = c.loop-sender-test.true in
    let left : senders - sender ≡ suc (senders - (sender + 1)) = omega arith in
    let lane : Lane = record { seat = c.split.result; full = c.in_ok-full.full } in
    let ok = c.in_ok-full.full.ok.0 in
    let none : vec_len c.in_ok-full.full ≡ 0 = (let e = ap length c.in_ok-full.ensures.empty in omega arith) in
    let lanes : List Lane = c.loop-sender.lanes.items in
    let ok_lanes = c.loop-sender.lanes.ok.0 in
    let so_far = inv.long in
    let long : sender ≡ length lanes = omega arith in
    let ready : IsLaneReady c.args.tap.now c.args.packets senders sender lane = ready_lane c.args.tap.now c.args.packets senders sender lane lt c.split.ensures.other.0 c.split.ensures.other.1 c.in_ok-full.ensures.empty none c.in_ok-full.ensures.room in
    record {
      splitting = record {
        split = record {
          reader = c.split.ensures.seat;
          out_is = ap (λ (v : View). v.reader.out) is ∙ ap (λ k. k + 1) was.split.out_is;
          puts = ap (λ (v : View). v.sender.puts) is ∙ was.split.puts;
          fulls = ap (λ (v : View). v.sender.fulls) is ∙ was.split.fulls;
        };
        seatless_is = ap (λ (v : View). v.reader.seatless) is ∙ ap (omitting sender) (was.seatless_is ∙ ap (counting sender) left) ∙ c.senders_in_order.ensures.rest sender (senders - (sender + 1));
        taken = ap (λ (v : View). v.reader.taken) is ∙ was.taken;
        destroyed = ap (λ (v : View). v.reader.destroyed) is ∙ was.destroyed;
      };
      steps_are = c.split.ensures.steps ∙ (ap (λ (made : List Made). made ⊳ cut) inv.steps_are ∙ ap (λ (n : ℕ). replicate n cut) (let one : suc sender ≡ sender + 1 = omega arith in one));
      ready = subst (λ (ls : List Lane). AreReady c.args.tap.now c.args.packets senders ls) (sym c.push_reserved.ensures.items)
          (one_more_ready c.args.tap.now c.args.packets senders lanes lane inv.ready (subst (λ k. IsLaneReady c.args.tap.now c.args.packets senders k lane) long ready));
      long = (let more = c.push_reserved.ensures.len in omega arith);
      room = (let same = c.push_reserved.ensures.capacity in let room = inv.room in omega arith);
    }

-- the sender has no seat yet
pub split-requires-clause-sender : goal.split-requires-clause-sender
split-requires-clause-sender c =
    let sender = c.loop-sender.sender in let senders = c.args.senders in let lt : sender < senders = c.loop-sender-test.true in
    let left : senders - sender ≡ suc (senders - (sender + 1)) = omega arith in let made : c.args.tap.now.senders ≡ senders = c.requires.made.1.2 in (
      (let below : sender < c.args.tap.now.senders = omega arith in below),
      subst (λ (ns : List ℕ). 0 < times sender ns) (sym (c.loop-sender.invariant.splitting.seatless_is ∙ ap (counting sender) left)) (c.senders_in_order.ensures.next sender (senders - (sender + 1))),
    )
