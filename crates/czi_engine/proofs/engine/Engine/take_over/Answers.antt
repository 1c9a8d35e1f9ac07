use Rattle.std.proofs.Common.{◌∙◌, ℕ, ◌+◌, ◌*◌, ◌≤◌, length, ap, sym, subst, arith, vec_len}
use Rattle.std.proofs.lemmas.List.{length-map, length-take}
use Rattle.czi_image.specs.declared.index.Index.{Index}
use Rattle.czi_num.specs.Span.{span_of}
use Rattle.czi_plan.specs.Plan.{freed_of, used_of}
use Rattle.czi_plan.proofs.Brief.{few_extents}
use Rattle.czi_region.specs.Pieces.{room}
use Rattle.czi_engine.specs.UndoMemory.{HasMemoryToUndo}
use Rattle.czi_engine.specs.declared.reserve.UndoMemory.{UndoMemory}
use Rattle.czi_engine.proofs.Fitting.{map_rises}
use Rattle.czi_engine.proofs.Room.{fewer_undos, memory_left}
use Rattle.czi_engine.proofs.engine.Engine.take_over.Goals as goal

pub invariant_of-state : goal.invariant_of-state
invariant_of-state c = record {
  ready = λ up some.
      let x = c.args.self.now in
      let p = x.scratch.plan in
      let y = c.follow_plan.new.self in
      let z = c.keep_inverse.new.self in
      let n : ℕ = 1 + length x.state.edits in
      let few = few_extents x.state.map.length (used_of p) (freed_of p) x.state.map.extents (map_rises x.state c.requires.own_map) c.requires.plan.takes in
      let extents : length y.index.extents.items ≤ length x.state.map.extents + (2 * length p.used.items + 2 * length p.freed.items) =
      omega (arith, few, ap length c.follow_plan.ensures.extents, length-map y.index.extents.items span_of, length-map p.used.items span_of, length-map p.freed.items span_of) in
      let undos = c.keep_inverse.ensures.others.undos ∙ c.follow_plan.ensures.others.undos in
      let left = memory_left n x.state.index y.index x.state.map y.map z.map p (vec_len x.state.undos.plans) (room x.state.undos.region) (vec_len z.undos.plans) (room z.undos.region)
      c.requires.keeps c.follow_plan.ensures.index c.follow_plan.ensures.left extents (omega (arith, c.keep_inverse.ensures.spare))
      (omega (arith, ap (λ (v : UndoMemory). vec_len v.plans) undos)) (omega (arith, ap (λ (v : UndoMemory). room v.region) undos)) in
      let here : HasMemoryToUndo n z.index z.map (vec_len z.undos.plans) (room z.undos.region) =
      subst (λ (i : Index). HasMemoryToUndo n i z.map (vec_len z.undos.plans) (room z.undos.region)) (sym c.keep_inverse.ensures.index) left in
      fewer_undos n (length z.edits) z.index z.map (vec_len z.undos.plans) (room z.undos.region) here
      (omega (arith, ap length c.keep_inverse.ensures.edits, length-take 31 y.edits, ap length c.follow_plan.ensures.edits));
}
