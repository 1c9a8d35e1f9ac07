use Rattle.std.proofs.Common.{◌≡◌, ◌<◌, ◌++◌, ◌∷◌, [], vec_len, vec_capacity, map, arith, ap, sym, subst, ◌∙◌}
use Rattle.std.proofs.lemmas.List.{map-append}
use Rattle.czi_num.specs.Span.{span_of}
use Rattle.czi_space.specs.State.{MapState, AreExtents}
use Rattle.czi_space.proofs.Cut.{one_behind}
use Rattle.czi_space.proofs.Edited.{on_ok}
use Rattle.czi_space.proofs.map.Map.push.Goals as goal

pub invariant_of-self : goal.invariant_of-self
invariant_of-self c =
    let room : vec_len c.self.inside.extents < vec_capacity c.self.inside.extents = omega (arith, ap (λ (m : MapState). m.spare) c.self.view_is, c.requires.spare) in
    let all : map span_of c.push.new.self.items ≡ map span_of c.self.inside.extents.items ++ span_of c.args.extent.now ∷ [] =
    ap (map span_of) (on_ok c.push.result _ _ _ (c.push.ensures.succeeds room) c.push.ensures.items) ∙ map-append span_of c.self.inside.extents.items (c.args.extent.now ∷ []) in
    record {
      extents = subst (AreExtents 0 c.self.inside.image_length) (sym all) (one_behind 0 c.self.inside.image_length _ (span_of c.args.extent.now) (subst (AreExtents 0 c.args.extent.now.at) (sym (ap (λ (m : MapState). m.extents) c.self.view_is)) c.requires.behind) c.requires.whole (omega (arith, ap (λ (m : MapState). m.length) c.self.view_is, c.requires.inside)));
      held = c.self.invariant.held;
    }
