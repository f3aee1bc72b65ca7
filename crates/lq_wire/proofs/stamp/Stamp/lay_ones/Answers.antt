use Rattle.std.proofs.Common.{◌≡◌, ◌+◌, ◌*◌, ◌<◌, ◌≤◌, ◌^◌, length, arith}
use Rattle.lq_wire.proofs.Digits.{long-kept, long-number, long-units, ones-copied}
use Rattle.lq_wire.proofs.stamp.Stamp.lay_ones.Goals as goal

pub write_digits-requires : goal.write_digits-requires
write_digits-requires c =
    let few = c.requires.few in let small : 10000000 + c.args.ones < 2 ^ 64 = omega arith in let long = long-number (10000000 + c.args.ones) small in let room = c.requires.room in let far = room.0 in (omega arith, room.1)

-- how long what is kept is
room : (c : goal.After-slice_known-3-1) → length c.args.self.now.digits ≡ 20
room c =
    let same = c.write_digits.auto.buf in let far = c.requires.room in let there : c.args.end ≤ length c.write_digits.new.buf = omega arith in
    long-kept c.write_digits.new.buf c.copy_from_slice.new.self c.args.self.now.digits c.args.end far.0 there c.copy_from_slice.ensures.len c.copy_from_slice.ensures.after

pub returns-clause-start : goal.returns-clause-start
returns-clause-start c =
    let whole = c.args.self.now.whole in let fits = c.requires.fits in let small : c.args.self.now.units * 10000000 < 2 ^ 64 = omega arith in
    let long = long-units c.args.self.now.units c.args.self.now.start c.args.self.now.digits small (room c) c.args.self.now.inside c.args.self.now.laid in
    let inside = c.args.self.now.inside in let far = c.requires.room in let there = far.0 in omega arith

pub returns-clause-written : goal.returns-clause-written
returns-clause-written c =
    let far = c.requires.room in let same = c.write_digits.auto.buf in let there : c.args.end ≤ length c.write_digits.new.buf = omega arith in let kept = c.args.self.now in
    ones-copied c.args.line.now c.write_digits.new.buf c.copy_from_slice.new.self kept.digits kept.units kept.from c.args.ones c.write_digits.result kept.start c.args.end
    c.requires.some c.requires.few kept.whole c.requires.fits c.write_digits.ensures.start c.write_digits.ensures.written kept.inside kept.laid far.0 there c.copy_from_slice.ensures.after (room c)
