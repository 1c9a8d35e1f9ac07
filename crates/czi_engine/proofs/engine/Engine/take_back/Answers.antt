use Rattle.std.proofs.Common.{◌≡◌, ℕ, ◌+◌, ◌*◌, ◌≤◌, length, ap, sym, subst, arith, vec_len}
use Rattle.std.proofs.lemmas.List.{length-drop, length-map}
use Rattle.czi_image.specs.declared.index.Index.{Index}
use Rattle.czi_num.specs.Span.{span_of}
use Rattle.czi_plan.specs.Plan.{freed_of, used_of}
use Rattle.czi_plan.proofs.Brief.{few_extents}
use Rattle.czi_region.specs.Pieces.{bytes_put, room}
use Rattle.czi_engine.specs.UndoMemory.{HasMemoryToUndo}
use Rattle.czi_engine.specs.declared.reserve.UndoMemory.{UndoMemory}
use Rattle.czi_engine.proofs.Fitting.{map_rises}
use Rattle.czi_engine.proofs.Room.{memory_left}
use Rattle.czi_engine.proofs.engine.Engine.take_back.Goals as goal

pub invariant_of-state-2 : goal.invariant_of-state-2
invariant_of-state-2 c = record {
  ready = λ up some.
      let x = c.args.self.now in
      let p = x.scratch.plan in
      let y = c.follow_plan.new.self in
      let z = c.forget_newest.new.self in
      let u = c.requires.undoing in
      let few = few_extents x.state.map.length (used_of p) (freed_of p) x.state.map.extents (map_rises x.state c.requires.own_map) c.requires.plan.takes in
      let extents : length y.index.extents.items ≤ length x.state.map.extents + (2 * length p.used.items + 2 * length p.freed.items) =
      omega (arith, few, ap length c.follow_plan.ensures.extents, length-map y.index.extents.items span_of, length-map p.used.items span_of, length-map p.freed.items span_of) in
      let left = memory_left u.others x.state.index y.index x.state.map y.map z.map p (vec_len x.state.undos.plans) (room x.scratch.region + length (bytes_put x.scratch.region)) (vec_len z.undos.plans) (room c.swap.new.x)
      u.memory c.follow_plan.ensures.index c.follow_plan.ensures.left extents (omega (arith, c.forget_newest.ensures.spare))
      (omega (arith, ap (λ (v : UndoMemory). vec_len v.plans) c.follow_plan.ensures.others.undos, ap (λ (v : UndoMemory). vec_len v.plans) c.forget_newest.ensures.others.undos))
      (omega (arith, ap room c.swap.ensures.x_after, c.reset.ensures.room)) in
      let many : length z.edits ≡ u.others = omega (arith, ap length c.forget_newest.ensures.edits, ap length c.follow_plan.ensures.edits, u.one, length-drop 1 y.edits) in
      subst (λ (n : ℕ). HasMemoryToUndo n z.index z.map (vec_len z.undos.plans) (room c.swap.new.x)) (sym many)
      (subst (λ (i : Index). HasMemoryToUndo u.others i z.map (vec_len z.undos.plans) (room c.swap.new.x)) (sym c.forget_newest.ensures.index) left);
}
