use Rattle.std.proofs.Common.{◌<◌, ◌∙◌, ap, map, length, arith}
use Rattle.czi_num.specs.Span.{span_of}
use Rattle.czi_space.proofs.Edited.{on_ok, replaced_both, replaced_first, replaced_second, replaced_none}
use Rattle.czi_space.proofs.lists.replace.Goals as goal

pub returns-in-true-true-clause-items : goal.returns-in-true-true-clause-items
returns-in-true-true-clause-items c =
    let inside : c.args.i < length c.args.extents.now.items = omega (arith, c.args.extents.now.ok.0, c.requires.inside) in
    ap (map span_of) (on_ok c.insert.result _ _ _ (c.insert.ensures.succeeds c.requires.spare) c.insert.ensures.items)
    ∙ replaced_both span_of c.args.extents.now.items c.args.i c.args.before c.args.behind inside c.in-true-true.is-0 c.in-true-true.is-1

pub returns-in-true-false-clause-items : goal.returns-in-true-false-clause-items
returns-in-true-false-clause-items c =
    let inside : c.args.i < length c.args.extents.now.items = omega (arith, c.args.extents.now.ok.0, c.requires.inside) in
    replaced_first span_of c.args.extents.now.items c.args.i c.args.before c.args.behind inside c.in-true-false.is-0 c.in-true-false.is-1

pub returns-in-false-true-clause-items : goal.returns-in-false-true-clause-items
returns-in-false-true-clause-items c =
    let inside : c.args.i < length c.args.extents.now.items = omega (arith, c.args.extents.now.ok.0, c.requires.inside) in
    replaced_second span_of c.args.extents.now.items c.args.i c.args.before c.args.behind inside c.in-false-true.is-0 c.in-false-true.is-1

pub returns-in-false-false-clause-items : goal.returns-in-false-false-clause-items
returns-in-false-false-clause-items c =
    let inside : c.args.i < length c.args.extents.now.items = omega (arith, c.args.extents.now.ok.0, c.requires.inside) in
    replaced_none span_of c.args.extents.now.items c.remove.new.self.items c.args.i c.args.before c.args.behind inside c.in-false-false.is-0 c.in-false-false.is-1 c.remove.ensures.by_index.2
