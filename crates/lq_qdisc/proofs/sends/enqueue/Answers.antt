use Rattle.std.proofs.Common.{rules, ◌≡◌, ℕ, ◌<◌, List, [], ◌∷◌, ◌++◌, Ok, Err, length, get_or, sym, ap, ◌∙◌, subst}
use Rattle.std.specs.Option.{option_map_or}
use Rattle.std.specs.Prelude.{Option}
use Rattle.std.proofs.lemmas.Option.{slice_get-get_or}
use Rattle.lq_model.specs.Plan.{band_in}
use Rattle.lq_model.specs.declared.fate.Info.{Info}
use Rattle.lq_table.specs.Views.{View}
use Rattle.lq_model.specs.declared.fate.Fate.TheVariants as fate
use Rattle.lq_table.proofs.StepsThen.{makes_then}
use Rattle.lq_ring.specs.StepLists.{Produce}
use Rattle.lq_table.specs.Step.{Settle}
use Rattle.lq_qdisc.specs.StepLists.{DropsFull, PutsIn}
use Rattle.lq_qdisc.proofs.sends.enqueue.Goals as goal

-- what was read of a packet is its band
band_read : (infos read : List Info) (n : ℕ) (d : Info) → read ≡ infos → n < length infos → (get_or read n d).band ≡ band_in infos n
band_read infos read n d e within = ap (λ (xs : List Info). (get_or xs n d).band) e ∙ sym (ap (λ (o : Option Info). option_map_or (λ (info : Info). info.band) o 0) (slice_get-get_or infos n d within))

pub settle-requires-clause-may : goal.settle-requires-clause-may
settle-requires-clause-may g c _ _ = ap (λ (v : View). v.packets.owed) c.in-Err.ensures.knows

pub returns-in-Ok : goal.returns-in-Ok
returns-in-Ok g c = record {
  same = search rules;
  at = search rules;
  makes =
      let m = c.in-Ok.ensures.makes in
      (m.0, PutsIn (subst (λ (b : ℕ). Produce b c.args.n (Ok tt) m.0) (band_read c.args.shared.now.infos.now c.infos.result.now c.args.n _ c.infos.ensures c.requires.may.1.brings.0) m.1), m.2);
}

pub returns-in-Err : goal.returns-in-Err
returns-in-Err g c = record {
  same = search rules;
  at = search rules;
  makes =
      let m = c.in-Err.ensures.makes in let full = c.in-Err.full in (
        m.0 ++ Settle c.args.n (fate.Full full.seen) ∷ [],
        DropsFull (subst (λ (b : ℕ). Produce b c.args.n (Err full) m.0) (band_read c.args.shared.now.infos.now c.infos.result.now c.args.n _ c.infos.ensures c.requires.may.1.brings.0) m.1),
        makes_then m.2 c.settle.ensures.makes,
      );
}

pub produce-requires-clause-below : goal.produce-requires-clause-below
produce-requires-clause-below g c _ _ =
    let p = c.requires.may.1.brings in subst (λ (b : ℕ). b < 3) (sym (band_read c.args.shared.now.infos.now c.infos.result.now c.args.n _ c.infos.ensures p.0)) p.1

pub produce-requires-clause-at : goal.produce-requires-clause-at
produce-requires-clause-at g c _ _ =
    (c.requires.may.0, c.requires.may.1.at)

pub produce-requires-clause-packet : goal.produce-requires-clause-packet
produce-requires-clause-packet g c _ _ =
    let p = c.requires.may.1.brings in ((p.2, sym (band_read c.args.shared.now.infos.now c.infos.result.now c.args.n _ c.infos.ensures p.0)), p.3)

pub produce-requires-clause-idle : goal.produce-requires-clause-idle
produce-requires-clause-idle g c _ _ =
    c.requires.may.1.holds
