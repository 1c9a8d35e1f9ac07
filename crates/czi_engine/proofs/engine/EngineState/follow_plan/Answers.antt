use Rattle.std.proofs.Common.{◌≡◌, ◌∙◌, map, length, ap, sym, subst, arith}
use Rattle.std.proofs.lemmas.List.{length-map}
use Rattle.czi_format.specs.Space.{deleted_after}
use Rattle.czi_image.specs.Applied.{HasRoom}
use Rattle.czi_image.specs.declared.change.Change.{Change}
use Rattle.czi_num.specs.Span.{span_of}
use Rattle.czi_plan.specs.Plan.{freed_of, used_of}
use Rattle.czi_plan.proofs.Brief.{few_extents}
use Rattle.czi_engine.proofs.Fitting.{map_rises}
use Rattle.czi_engine.proofs.engine.EngineState.follow_plan.Goals as goal

pub update_map-requires-clause-rise : goal.update_map-requires-clause-rise
update_map-requires-clause-rise c = map_rises c.args.self.now c.requires.own_map

pub apply-requires-clause-room : goal.apply-requires-clause-room
apply-requires-clause-room c =
    let x = c.args.self.now in
    let p = c.args.plan.now in
    let h = c.requires.memory.index in
    let after : c.update_map.new.space.extents ≡ deleted_after (used_of p) (freed_of p) x.map.extents =
    c.update_map.ensures.map.extents ∙ (λ i. deleted_after (map span_of (c.deref.ensures.value i)) (map span_of (c.deref-2.ensures.value i)) x.map.extents) in
    let few = few_extents x.map.length (used_of p) (freed_of p) x.map.extents (map_rises x c.requires.own_map) c.requires.plan.takes in
    subst (λ (change : Change). HasRoom change (length c.extents.result.now) x.index) (sym c.replace-change.ensures.value) (record {
      tiles = h.tiles;
      numbers = h.numbers;
      attachments = h.attachments;
      extents = omega (
        arith,
        h.extents,
        few,
        ap length after,
        ap length c.extents.ensures.extents,
        length-map c.extents.result.now span_of,
        length-map p.used.items span_of,
        length-map p.freed.items span_of,
      );
    })
