use Rattle.std.proofs.Common.{◌≡◌, ◌<◌, sym, ◌∙◌, subst}
use Rattle.std.proofs.lemmas.Option.{none-some, same_Some}
use Rattle.std.specs.Prelude.{slice_index}
use Rattle.lq_model.specs.Words.{IsWordOf}
use Rattle.lq_table.specs.Ended.{lent_fates}
use Rattle.lq_table.specs.declared.ended.FateWords.{FateWords}
use Rattle.lq_senders.proofs.FatesRead.{own-within, own-below, own-words}
use Rattle.lq_senders.proofs.WordsTold.{has-words}
use Rattle.lq_senders.proofs.read.read.Goals as goal

pub bounds-lent-station : goal.bounds-lent-station
bounds-lent-station c = let has = has-words c.args.infos.now c.args.lent.now c.args.n c.requires.told in own-within c.args.infos.now c.args.lent.now c.args.n _ c.requires.packet has.0 has.1

pub bounds : goal.bounds
bounds c = let has = has-words c.args.infos.now c.args.lent.now c.args.n c.requires.told in own-below c.args.infos.now c.args.lent.now c.args.n _ c.requires.packet has.0 has.1 _ c.told-lent

pub bounds-lent-station-in-Some-1 : goal.bounds-lent-station-in-Some-1
bounds-lent-station-in-Some-1 c = let has = has-words c.args.infos.now c.args.lent.now c.args.n c.requires.told in own-below c.args.infos.now c.args.lent.now c.args.n _ c.requires.packet has.0 has.1 _ c.told-lent

pub unreachable-requires : goal.unreachable-requires
unreachable-requires c = let has = has-words c.args.infos.now c.args.lent.now c.args.n c.requires.told in none-some _ (sym c.in_default.is ∙ own-words c.args.infos.now c.args.lent.now c.args.n _ c.requires.packet has.0 has.1 _)

pub fate-requires : goal.fate-requires
fate-requires c =
    let has = has-words c.args.infos.now c.args.lent.now c.args.n c.requires.told in
    record { packet = subst (λ (w : FateWords). c.args.n < w.packets) (same_Some _ _ (sym (own-words c.args.infos.now c.args.lent.now c.args.n _ c.requires.packet has.0 has.1 _) ∙ c.in-Some.is)) has.2 }

pub unreachable-requires-in_default-fate : goal.unreachable-requires-in_default-fate
unreachable-requires-in_default-fate c =
    let has = has-words c.args.infos.now c.args.lent.now c.args.n c.requires.told in
    let same = same_Some _ _ (sym c.in-Some.is ∙ own-words c.args.infos.now c.args.lent.now c.args.n _ c.requires.packet has.0 has.1 _) in
    c.requires.told (has.3 ∙ subst (λ (w : FateWords). slice_index (lent_fates w) c.args.n ≡ 0) same c.in_default-fate.ensures.none)

pub returns : goal.returns
returns c =
    let has = has-words c.args.infos.now c.args.lent.now c.args.n c.requires.told in
    let same = same_Some _ _ (sym c.in-Some.is ∙ own-words c.args.infos.now c.args.lent.now c.args.n _ c.requires.packet has.0 has.1 _) in
    subst (IsWordOf c.in-Some-fate.fate) (sym has.3)
    (subst (λ (w : FateWords). IsWordOf c.in-Some-fate.fate (slice_index (lent_fates w) c.args.n)) same c.in-Some-fate.ensures.some)
