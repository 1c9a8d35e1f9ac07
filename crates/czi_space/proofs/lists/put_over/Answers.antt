use Rattle.std.proofs.Common.{◌+◌, ◌<◌, ◌∙◌, ap, sym, length, arith}
use Rattle.czi_num.specs.Span.{span_of}
use Rattle.czi_space.proofs.Edited.{put_over_joined, put_over_apart, same_read, read_as}
use Rattle.czi_space.proofs.lists.put_over.Goals as goal
use Rattle.czi_space.proofs.lists.put_over.Goals.{else-next-len-via-then-next-len+else-index-span, else-next-len-via-else-next-len}

pub returns-then-index-span-clause-items : goal.returns-then-index-span-clause-items
returns-then-index-span-clause-items c =
    let inside : c.args.i + 1 < length c.args.extents.now.items = omega (arith, c.args.extents.now.ok.0, c.len.ensures, c.if-next-len.true) in
    let same = same_read _ _ _ _ inside c.index-then-index-span.ensures c.index.ensures ∙ c.index.ensures in
    put_over_joined span_of c.args.extents.now.items c.remove.new.self.items c.args.i c.index.result.now _ (span_of c.args.span) inside (ap (λ e. e.at) (sym c.index.ensures) ∙ c.if-index-span.true)
    (λ i. record { at = c.args.span.at; len = c.args.span.len + (same i).len }) c.remove.ensures.by_index.2

pub returns-else-next-len-clause-items : goal.returns-else-next-len-clause-items
returns-else-next-len-clause-items c =
    let inside : c.args.i < length c.args.extents.now.items = omega (arith, c.args.extents.now.ok.0, c.requires) in
    put_over_apart span_of c.args.extents.now.items c.args.i c.args.span c.args.span inside (λ h e. elim c.else-next-len.branch [
      | else-next-len-via-then-next-len+else-index-span w ↦ w.if-index-span.false (ap (λ z. z.at) (sym (read_as _ _ _ c.args.span h w.index.ensures)) ∙ e)
      | else-next-len-via-else-next-len w ↦ omega (arith, c.args.extents.now.ok.0, c.len.ensures, w.if-next-len.false, h)
    ])
