use Rattle.std.proofs.Common.{List, map, ◌++◌, filter, length, ap, sym, ◌∙◌, subst, rules, ◌≡◌, refl, append-nil, arith, length-append}
use Rattle.czi_format.specs.Span.{Span}
use Rattle.czi_num.specs.Span.{span_of}
use Rattle.czi_num.specs.declared.span.Span.{Span as CodeSpan}
use Rattle.czi_space.specs.State.{AreExtents}
use Rattle.czi_plan.specs.Geometry.{is_touched}
use Rattle.czi_plan.proofs.Touched.{all_between, behind_apart, high_rise, hull_missed, hull_order, low_rise, one_here, one_rise, touched_parts}
use Rattle.czi_plan.proofs.touching.+push_touched.Goals as goal

pub overflow_sub-hull : goal.overflow_sub-hull
overflow_sub-hull t c =
    let apart = behind_apart c.args.out.now.extents 0 c.args.out.now.length (map span_of c.args.extents.now) c.requires.rise in
    hull_order span_of (span_of c.index-extents-0.result) (span_of c.index-extents-extents.result) c.args.extents.now (all_between span_of c.args.extents.now c.index-extents-0.result c.index-extents-extents.result apart c.index-extents-0.is c.index-extents-extents.is) (search rules)

pub returns-then-not-is_touched-clause-map : goal.returns-then-not-is_touched-clause-map
returns-then-not-is_touched-clause-map t c =
    let apart = behind_apart c.args.out.now.extents 0 c.args.out.now.length (map span_of c.args.extents.now) c.requires.rise in
    let all = all_between span_of c.args.extents.now c.index-extents-0.result c.index-extents-extents.result apart c.index-extents-0.is c.index-extents-extents.is in
    let none = hull_missed (map span_of c.args.used.now) (map span_of c.args.freed.now) (span_of c.index-extents-0.result) (span_of c.index-extents-extents.result) (map span_of c.args.extents.now) all (hull_order span_of (span_of c.index-extents-0.result) (span_of c.index-extents-extents.result) c.args.extents.now all (search rules)) (sym c.is_touched.ensures ∙ c.if-not-is_touched.true) in
    record { extents = sym (ap (λ l. c.args.out.now.extents ++ l) none ∙ append-nil c.args.out.now.extents); held = refl; length = refl }

-- the only one
pub push-requires-clause-whole : goal.push-requires-clause-whole
push-requires-clause-whole t c =
    let one = one_here c.args.extents.now c.index-extents-0.result c.if-extents-eq1.true c.index-extents-0.is in
    (one_rise 0 c.args.out.now.length c.args.out.now.extents (span_of c.index-extents-0.result) (subst (λ (l : List CodeSpan). AreExtents 0 c.args.out.now.length (c.args.out.now.extents ++ map span_of l)) one c.requires.rise)).1

pub push-requires-clause-behind : goal.push-requires-clause-behind
push-requires-clause-behind t c =
    let one = one_here c.args.extents.now c.index-extents-0.result c.if-extents-eq1.true c.index-extents-0.is in
    (one_rise 0 c.args.out.now.length c.args.out.now.extents (span_of c.index-extents-0.result) (subst (λ (l : List CodeSpan). AreExtents 0 c.args.out.now.length (c.args.out.now.extents ++ map span_of l)) one c.requires.rise)).0

pub push-requires-clause-inside : goal.push-requires-clause-inside
push-requires-clause-inside t c =
    let one = one_here c.args.extents.now c.index-extents-0.result c.if-extents-eq1.true c.index-extents-0.is in
    (one_rise 0 c.args.out.now.length c.args.out.now.extents (span_of c.index-extents-0.result) (subst (λ (l : List CodeSpan). AreExtents 0 c.args.out.now.length (c.args.out.now.extents ++ map span_of l)) one c.requires.rise)).2

pub push_touched-requires : goal.push_touched-requires
push_touched-requires t c =
    let touch = is_touched (map span_of c.args.used.now) (map span_of c.args.freed.now) in
    let low = c.split_at.result.0.now in
    let high = c.split_at.result.1.now in
    let whole : c.args.extents.now ≡ low ++ high = c.split_at.ensures.by_index.0 in
    let rise = subst (λ (l : List CodeSpan). AreExtents 0 c.args.out.now.length (c.args.out.now.extents ++ map span_of l)) whole c.requires.rise in
    (search rules, (low_rise 0 c.args.out.now.length c.args.out.now.extents low high rise, omega (arith, c.requires.spare, ap (length {A = Span}) (touched_parts touch c.args.extents.now low high whole), length-append (filter touch (map span_of low)) (filter touch (map span_of high)))))

pub push_touched-requires-2 : goal.push_touched-requires-2
push_touched-requires-2 t c =
    let touch = is_touched (map span_of c.args.used.now) (map span_of c.args.freed.now) in
    let low = c.split_at.result.0.now in
    let high = c.split_at.result.1.now in
    let whole : c.args.extents.now ≡ low ++ high = c.split_at.ensures.by_index.0 in
    let rise = subst (λ (l : List CodeSpan). AreExtents 0 c.args.out.now.length (c.args.out.now.extents ++ map span_of l)) whole c.requires.rise in (
      search rules,
      (
        rw (c.push_touched.ensures.map.length, c.push_touched.ensures.map.extents) (high_rise touch 0 c.args.out.now.length c.args.out.now.extents low high rise),
        omega (arith, c.requires.spare, c.push_touched.ensures.spare, ap (length {A = Span}) (touched_parts touch c.args.extents.now low high whole), length-append (filter touch (map span_of low)) (filter touch (map span_of high))),
      ),
    )
