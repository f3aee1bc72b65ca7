use Rattle.std.proofs.Common.{◌<◌, ◌≤◌, ◌^◌, take, arith, get_or, length, subst, sym}
use Rattle.std.proofs.lemmas.List.{length-take-le}
use Rattle.std.proofs.lemmas.Option.{get_or_from_slice_get, slice_get_within}
use Rattle.lq_model.specs.declared.fate.Fate.{Fate}
use Rattle.lq_model.specs.declared.fate.Fate.TheVariants.{Sent}
use Rattle.lq_model.specs.declared.fate.Info.{Info}
use Rattle.lq_fates.specs.Counts.{AreWithOne}
use Rattle.lq_fates.proofs.CountLemmas.{can_count, counts_next}
use Rattle.lq_fates.proofs.counts.counts_of.Goals as goal

-- what is read beyond the last packet
abbrev no_info : Info
no_info = record { owner = 0; station = 0; band = 0; queue = 0; rank = 0 }

pub count_packet-requires : goal.count_packet-requires
count_packet-requires g c =
    let fates = g.F.Fates.fates c.args.fates.now in let n = c.loop-n.n in
    let within : n < length fates = slice_get_within fates n c.fate-fate.result c.fate-fate.ensures in
    let few : length (take n fates) < 2 ^ 63 = (let long = length-take-le n fates (let below : n ≤ length fates = omega arith in below) in let same = c.requires in omega arith) in
    can_count (take n fates) (take n c.args.infos.now) c.args.stations c.args.units c.loop-n.counts few c.loop-n.invariant

pub loop-n-preserved : goal.loop-n-preserved
loop-n-preserved g c =
    let fates = g.F.Fates.fates c.args.fates.now in let n = c.loop-n.n in
    let within : n < length fates = slice_get_within fates n c.fate-fate.result c.fate-fate.ensures in
    counts_next fates c.args.infos.now n (Sent 0 0) no_info c.args.stations c.args.units c.loop-n.counts c.count_packet.new.counts c.requires
    within c.loop-n.invariant
    (subst (λ (fate : Fate). AreWithOne c.loop-n.counts c.count_packet.new.counts fate (get_or c.args.infos.now n no_info).station) (sym (get_or_from_slice_get fates n c.fate-fate.result (Sent 0 0) c.fate-fate.ensures)) c.count_packet.ensures)
