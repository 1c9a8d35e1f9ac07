use Rattle.std.proofs.Common.{◌≡◌, [], map, drop, ap, sym, ◌∙◌, ◌++◌, append-nil}
use Rattle.std.proofs.lemmas.List.{drop_all}
use Rattle.czi_format.specs.Space.{without}
use Rattle.czi_num.specs.Span.{span_of}
use Rattle.czi_space.proofs.Parts.{without-nil}
use Rattle.czi_space.proofs.Sides.{side_step, skip_in_order}
use Rattle.czi_space.proofs.fitting.push_runs.Goals as goal

pub push_parts-requires : goal.push_parts-requires
push_parts-requires c = skip_in_order _ _ _ c.ending_past-rest.ensures c.loop-extent.invariant.order

pub loop-extent-preserved : goal.loop-extent-preserved
loop-extent-preserved c = record {
  whole = side_step c.requires.rising.0 c.args.extents.now c.loop-extent.rest.now c.ending_past-rest.result.now (map span_of c.loop-extent.out.items) (map span_of c.push_parts.new.out.items) _ c.loop-extent.extent-index c.extent-item.result
      c.requires.rising.1 c.loop-extent-test.true c.extent-item.is c.loop-extent.invariant.whole c.ending_past-rest.ensures c.in_ok-push_parts.ensures;
  order = skip_in_order _ _ _ c.ending_past-rest.ensures c.loop-extent.invariant.order;
}

pub returns : goal.returns
returns c =
    let none : without (map span_of c.loop-extent.rest.now) (map span_of (drop c.loop-extent.extent-index c.args.extents.now)) ≡ [] =
    ap (λ l. without (map span_of c.loop-extent.rest.now) (map span_of l)) (drop_all c.loop-extent.extent-index c.args.extents.now c.loop-extent-test.false) ∙ without-nil (map span_of c.loop-extent.rest.now) in
    sym (append-nil (map span_of c.loop-extent.out.items)) ∙ (sym (ap (λ l. map span_of c.loop-extent.out.items ++ l) none) ∙ c.loop-extent.invariant.whole)
