use Rattle.std.proofs.Common.{map, ap, sym, ◌∙◌}
use Rattle.czi_format.specs.Space.{use_all, place_for}
use Rattle.czi_num.specs.Span.{span_of}
use Rattle.czi_space.specs.State.{MapState, space_of}
use Rattle.czi_space.proofs.Calls.{found_step, none_step, no_step}
use Rattle.czi_space.proofs.map.Map.first_fit_after.Goals as goal

pub returns-in-Some : goal.returns-in-Some
returns-in-Some c =
    sym (found_step _ _ _ _ c.args.taken.now c.args.need c.self.inside.image_length c.in-Some.at c.loop-extent.extent-index c.extent-item.result c.lowest.result c.deref-extent-items.ensures.value c.deref.ensures.value c.loop-extent-test.true c.extent-item.is c.lowest.ensures c.in-Some.is c.loop-extent.invariant)
    ∙ ap (λ (m : MapState). place_for (use_all (space_of m) (map span_of c.args.taken.now)) c.args.need) c.self.view_is

pub loop-extent-preserved : goal.loop-extent-preserved
loop-extent-preserved c =
    none_step _ _ _ _ c.args.taken.now c.args.need c.loop-extent.extent-index c.extent-item.result c.lowest.result c.deref-extent-items.ensures.value c.deref.ensures.value c.loop-extent-test.true c.extent-item.is c.lowest.ensures c.in_default.is c.loop-extent.invariant

pub returns : goal.returns
returns c =
    c.past.ensures ∙ (sym (no_step _ _ c.self.inside.held.items c.args.taken.now c.args.need c.self.inside.image_length c.grown.result c.loop-extent.extent-index c.deref-extent-items.ensures.value c.loop-extent-test.false c.loop-extent.invariant c.grown.ensures)
    ∙ ap (λ (m : MapState). place_for (use_all (space_of m) (map span_of c.args.taken.now)) c.args.need) c.self.view_is)
