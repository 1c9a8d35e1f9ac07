use Rattle.std.proofs.Common.{◌+◌, ◌<◌, ◌≤◌, ◌∙◌, ap, sym, map, length, arith}
use Rattle.czi_num.specs.Span.{span_of}
use Rattle.czi_space.proofs.Edited.{on_ok, before_joined, before_apart, same_read, read_as}
use Rattle.czi_space.proofs.lists.put_before.Goals as goal
use Rattle.czi_space.proofs.lists.put_before.Goals.{else-i-len-via-then-i-len+else-index-span, else-i-len-via-else-i-len}

pub returns-then-index-span-clause-items : goal.returns-then-index-span-clause-items
returns-then-index-span-clause-items c =
    let inside : c.args.i < length c.args.extents.now.items = omega (arith, c.args.extents.now.ok.0, c.len.ensures, c.if-i-len.true) in
    let same = same_read _ _ _ _ inside c.index-then-index-span.ensures c.index.ensures ∙ c.index.ensures in
    before_joined span_of c.args.extents.now.items c.args.i c.index.result.now _ (span_of c.args.span) inside (ap (λ e. e.at) (sym c.index.ensures) ∙ c.if-index-span.true)
    (λ i. record { at = c.args.span.at; len = c.args.span.len + (same i).len })

pub returns-else-i-len-clause-items : goal.returns-else-i-len-clause-items
returns-else-i-len-clause-items c =
    let inside : c.args.i ≤ length c.args.extents.now.items = omega (arith, c.args.extents.now.ok.0, c.requires.inside) in
    ap (map span_of) (on_ok c.insert.result _ _ _ (c.insert.ensures.succeeds c.requires.spare) c.insert.ensures.items)
    ∙ before_apart span_of c.args.extents.now.items c.args.i c.args.span c.args.span inside (λ h e. elim c.else-i-len.branch [
      | else-i-len-via-then-i-len+else-index-span w ↦ w.if-index-span.false (ap (λ z. z.at) (sym (read_as _ _ _ c.args.span h w.index.ensures)) ∙ e)
      | else-i-len-via-else-i-len w ↦ omega (arith, c.args.extents.now.ok.0, c.len.ensures, w.if-i-len.false, h)
    ])
