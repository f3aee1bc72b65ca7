use Rattle.std.proofs.Common.{◌≡◌, ◌+◌, List, ℕ, sym, subst, ap, ◌∙◌, [], ◌∷◌, ◌++◌, cond, eqb}
use Rattle.lq_pcapng.specs.Pcapng.{number_in, pcapng_of, total_length}
use Rattle.lq_pcapng.specs.View.{capture_at}
use Rattle.lq_pcapng.specs.declared.reader.BlockPlaces.{BlockPlaces}
use Rattle.lq_pcapng.proofs.Walk.{Walks, handed_on, is_next, is_read, slice_from, walks_end, walks_first, walks_more, walks_refused}
use Rattle.lq_pcapng.proofs.reader.places_of.Goals as goal

pub loop-place-init : goal.loop-place-init
loop-place-init c =
    subst (λ (is : List ℕ). Walks c.args.timed c.args.bytes.now is c.new-2.result c.args.first) (sym c.new.ensures.items)
    (subst (λ (ps : List ℕ). Walks c.args.timed c.args.bytes.now [] ps c.args.first) (sym c.new-2.ensures)
    (walks_first c.args.timed c.args.bytes.now c.args.first (subst (λ o. c.args.first ≡ total_length o c.args.bytes.now) c.requires.order c.requires.len) c.requires.within))

pub loop-place-preserved : goal.loop-place-preserved
loop-place-preserved c =
    let more = walks_more c.args.timed c.args.bytes.now c.loop-place.places.interfaces.items c.loop-place.places.packets c.loop-place.place c.in_ok-len.len c.number.result c.loop-place.invariant
    (is_next c.args.timed c.args.bytes.now c.loop-place.places.interfaces.items c.loop-place.places.packets c.loop-place.place c.in_ok-len.len c.number.result c.args.little_endian c.requires.order c.loop-place-test.true
    c.in_ok-len.ensures (c.number.ensures ∙ ap (λ (r : List ℕ). number_in c.args.little_endian r 0) (slice_from c.args.bytes.now c.loop-place.place))) in
    subst (λ (is : List ℕ). Walks c.args.timed c.args.bytes.now is c.note.new.self.packets (c.loop-place.place + c.in_ok-len.len)) (sym c.in_ok-note.ensures.interfaces)
    (subst (λ (ps : List ℕ). Walks c.args.timed c.args.bytes.now (c.loop-place.places.interfaces.items ++ cond (eqb c.number.result 1) (c.loop-place.place ∷ []) []) ps (c.loop-place.place + c.in_ok-len.len)) (sym c.in_ok-note.ensures.packets) more)

pub returns-clause-read : goal.returns-clause-read
returns-clause-read c =
    is_read c.args.timed c.args.bytes.now c.loop-place.places.interfaces.items c.loop-place.places.packets c.loop-place.place c.args.first
    (subst (λ o. c.args.first ≡ total_length o c.args.bytes.now) c.requires.order c.requires.len) c.requires.long c.requires.within c.loop-place.invariant

pub returns-clause-capture : goal.returns-clause-capture
returns-clause-capture c =
    walks_end c.args.timed c.args.bytes.now c.loop-place.places.interfaces.items c.loop-place.places.packets c.loop-place.place c.requires.section c.loop-place.invariant c.loop-place-test.false

pub returns-in_err-len-clause-capture : goal.returns-in_err-len-clause-capture
returns-in_err-len-clause-capture c =
    handed_on (λ (places : BlockPlaces). capture_at c.args.bytes.now places.interfaces.items places.packets) c.from_residual.result c.in_err-len.field-0.0 (pcapng_of c.args.timed c.args.bytes.now) c.from_residual.ensures.1
    (walks_refused c.args.timed c.args.bytes.now c.loop-place.places.interfaces.items c.loop-place.places.packets c.loop-place.place c.args.little_endian c.in_err-len.field-0.0 c.requires.order c.requires.section
    c.loop-place.invariant c.loop-place-test.true c.in_err-len.ensures)
