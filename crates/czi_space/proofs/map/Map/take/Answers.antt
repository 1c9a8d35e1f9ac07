use Rattle.std.proofs.Common.{◌≡◌, ◌≤◌, ◌+◌, ◌∷◌, [], map, arith, ap, sym, subst, ◌∙◌}
use Rattle.czi_format.specs.Space.{without}
use Rattle.czi_num.specs.Span.{span_of}
use Rattle.czi_num.specs.declared.span.Span.{Span as CodeSpan}
use Rattle.czi_space.specs.State.{MapState, AreExtents}
use Rattle.czi_space.proofs.Taken.{without_extents}
use Rattle.czi_space.proofs.Calls.{taken_there, taken_is}
use Rattle.czi_space.proofs.map.Map.take.Goals as goal

pub index-extent-requires : goal.index-extent-requires
index-extent-requires c =
    let there = taken_there _ _ _ _ (span_of c.args.span.now) _ c.self.invariant.extents (ap (λ (m : MapState). m.extents) c.self.view_is) c.requires.whole.some c.requires.inside c.deref.ensures.value c.ending_by-i.ensures.count in
    omega (arith, there.inside, c.self.inside.extents.ok.0)

pub overflow_sub-before : goal.overflow_sub-before
overflow_sub-before c =
    let there = taken_there _ _ _ _ (span_of c.args.span.now) _ c.self.invariant.extents (ap (λ (m : MapState). m.extents) c.self.view_is) c.requires.whole.some c.requires.inside c.deref.ensures.value c.ending_by-i.ensures.count in
    subst (λ (z : CodeSpan). z.at ≤ c.args.span.now.at) (sym c.index-extent.ensures) (there.front c.index-extent.result.now)

pub overflow_sub-behind : goal.overflow_sub-behind
overflow_sub-behind c =
    let there = taken_there _ _ _ _ (span_of c.args.span.now) _ c.self.invariant.extents (ap (λ (m : MapState). m.extents) c.self.view_is) c.requires.whole.some c.requires.inside c.deref.ensures.value c.ending_by-i.ensures.count in
    subst (λ (z : CodeSpan). c.args.span.now.at + c.args.span.now.len ≤ z.at + z.len) (sym c.index-extent.ensures) (there.back c.index-extent.result.now)

pub replace-requires-clause-inside : goal.replace-requires-clause-inside
replace-requires-clause-inside c =
    let there = taken_there _ _ _ _ (span_of c.args.span.now) _ c.self.invariant.extents (ap (λ (m : MapState). m.extents) c.self.view_is) c.requires.whole.some c.requires.inside c.deref.ensures.value c.ending_by-i.ensures.count in
    omega (arith, there.inside, c.self.inside.extents.ok.0)

pub invariant_of-self : goal.invariant_of-self
invariant_of-self c =
    let there = taken_there _ _ _ _ (span_of c.args.span.now) _ c.self.invariant.extents (ap (λ (m : MapState). m.extents) c.self.view_is) c.requires.whole.some c.requires.inside c.deref.ensures.value c.ending_by-i.ensures.count in
    let left : map span_of c.replace.new.extents.items ≡ without (span_of c.args.span.now ∷ []) (map span_of c.self.inside.extents.items) =
    taken_is c.self.inside.extents.items (span_of c.args.span.now) c.ending_by-i.result c.index-extent.result.now _ there c.index-extent.ensures c.replace.ensures.items in
    record { extents = subst (AreExtents 0 c.self.inside.image_length) (sym left) (without_extents 0 _ _ _ c.requires.whole.at c.requires.whole.len c.self.invariant.extents); held = c.self.invariant.held }

pub returns-clause-map : goal.returns-clause-map
returns-clause-map c =
    let there = taken_there _ _ _ _ (span_of c.args.span.now) _ c.self.invariant.extents (ap (λ (m : MapState). m.extents) c.self.view_is) c.requires.whole.some c.requires.inside c.deref.ensures.value c.ending_by-i.ensures.count in
    let left : map span_of c.replace.new.extents.items ≡ without (span_of c.args.span.now ∷ []) (map span_of c.self.inside.extents.items) =
    taken_is c.self.inside.extents.items (span_of c.args.span.now) c.ending_by-i.result c.index-extent.result.now _ there c.index-extent.ensures c.replace.ensures.items in
    record { extents = left ∙ ap (λ (m : MapState). without (span_of c.args.span.now ∷ []) m.extents) c.self.view_is; held = ap (λ (m : MapState). m.held) c.self.view_is; length = ap (λ (m : MapState). m.length) c.self.view_is }
