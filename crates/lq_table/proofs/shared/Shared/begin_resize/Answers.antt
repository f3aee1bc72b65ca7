mod Kept
use Rattle.std.proofs.Common.{ℕ, ◌<◌, ◌≤◌, arith, ap, subst, List, ◌≡◌, refl, sym, ◌∙◌, Contains}
use Rattle.lq_model.specs.declared.fate.Info.{Info}
use Rattle.lq_table.specs.Places.{size_place}
use Rattle.lq_table.specs.Keyed.{keyed_setup}
use Rattle.lq_table.specs.Sees.{view}
use Rattle.lq_table.proofs.shared.Shared.begin_resize.Answers.Kept.{begins_resize}
use Rattle.lq_log.specs.Made.{seen}
use Rattle.std.specs.Prelude.{length}
use Rattle.lq_band_laws.specs.HalfResized.{IsBeforeResize}
use Rattle.lq_band_laws.specs.Three.{at}
use Rattle.lq_model.specs.Plan.{band_in}
use Rattle.lq_table.specs.Views.{Setup}
use Rattle.lq_table.proofs.StepFacts.{makes_one}
use Rattle.lq_table.proofs.shared.Shared.begin_resize.Goals as goal

pub load_word-requires : goal.load_word-requires
load_word-requires g c = (
  c.type_bounds.send-D,
  (
      let t = c.args.self.now in let k = keyed_setup t.table.kit.shared.key in let slots = t.table.kit.shared.table_id.slots in let seat = c.args.cpu.now.known.seat in let h = c.requires.rests in
      let fits : c.args.len ≤ k.max_len = let x = c.requires.len.1 in let y = t.same.2 in omega arith in
      let word : size_place < t.table.kit.shared.table_id.words = let wide = t.sized.0 in omega arith in (
        c.requires.seat.0,
        word,
        begins_resize k slots seat.id (seen seat.me) c.args.len c.args.event c.requires.at.0 c.requires.at.1 h.0 h.1 h.2 c.requires.locks c.requires.len.0 fits c.requires.seat.1,
      )),
)

pub returns : goal.returns
returns g c = record {
  makes =
      let e = c.load_word.ensures in let b = e.2.told in let t = c.args.self.now in let v = view c.args.cpu.now in
      let infos = t.same.0 ∙ sym (ap (λ (k : Setup). k.infos) c.requires.seat.2) in let limit = t.same.2 ∙ sym (ap (λ (k : Setup). k.max_len) c.requires.seat.2) in
      let slots = subst (λ (l : ℕ). (n : ℕ) → n < 3 → IsBeforeResize v.holder.size l (at n b.1) (b.0 n) (at n v.holder.ends)) limit b.3 in
      let packets = subst (λ (xs : List Info). (n m : ℕ) → n < 3 → Contains (b.0 n) m → (band_in xs m ≡ n) × (m < length xs)) infos b.4 in
      (b.0, b.1, c.load_word.result, makes_one _ _ _ (e.0, e.1) refl refl b.2 e.2.noted (slots, packets, b.5, b.6));
}
