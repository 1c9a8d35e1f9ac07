use Rattle.std.proofs.Common.{◌≡◌, ◌≢◌, ◌∙◌, ◌+◌, ◌-◌, ◌≤◌, length, ap, sym, subst, arith}
use Rattle.std.proofs.lemmas.Bool.{eqb-false}
use Rattle.czi_format.specs.Span.{end_of}
use Rattle.czi_num.specs.declared.span.Span.{Span as CodeSpan}
use Rattle.czi_num.specs.Span.{span_of}
use Rattle.czi_seg.specs.declared.header.SegHeader.{SegHeader}
use Rattle.czi_walk.proofs.Known.{all_at}
use Rattle.czi_walk.proofs.Marked.{last_end}
use Rattle.czi_walk.proofs.marks.walk_end.Goals as goal

pub returns-clause-value : goal.returns-clause-value
returns-clause-value c =
    let some : length c.args.walk.now ≢ 0 = eqb-false (length c.args.walk.now) 0 (sym c.if-is_empty.ensures) in
    let last : length c.args.walk.now - 1 + 1 ≡ length c.args.walk.now = omega (arith, some) in
    ap (λ (item : CodeSpan × SegHeader). end_of (span_of item.0)) c.index-walk-walk.is
    ∙ last_end 0 (length c.args.walk.now - 1) c.args.walk.now c.index-walk-walk.result c.requires last

pub returns-clause-inside : goal.returns-clause-inside
returns-clause-inside c = λ size ends.
    let some : length c.args.walk.now ≢ 0 = eqb-false (length c.args.walk.now) 0 (sym c.if-is_empty.ensures) in
    let last = all_at (λ (item : CodeSpan × SegHeader). end_of (span_of item.0) ≤ size) c.args.walk.now (length c.args.walk.now - 1) c.index-walk-walk.result ends (omega (arith, some)) in
    subst (λ (item : CodeSpan × SegHeader). end_of (span_of item.0) ≤ size) (sym c.index-walk-walk.is) last
