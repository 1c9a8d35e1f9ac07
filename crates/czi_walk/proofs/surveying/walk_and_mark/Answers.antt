use Rattle.std.proofs.Common.{sym, subst, List}
use Rattle.czi_num.specs.declared.span.Span.{Span as CodeSpan}
use Rattle.czi_seg.specs.declared.header.SegHeader.{SegHeader}
use Rattle.czi_spans.specs.Apart.{AreApart}
use Rattle.czi_walk.specs.View.{EndBy}
use Rattle.czi_walk.proofs.surveying.walk_and_mark.Goals as goal

pub deleted_extents-requires-clause-live : goal.deleted_extents-requires-clause-live
deleted_extents-requires-clause-live g c = subst (AreApart 0) (sym c.requires.spans) c.requires.row.apart

pub count_unknown-unknown-requires : goal.count_unknown-unknown-requires
count_unknown-unknown-requires g c = subst (AreApart 0) (sym c.requires.spans) c.requires.row.apart

pub returns-clause-free : goal.returns-clause-free
returns-clause-free g c = record {
  apart = c.in_ok-extents.ensures.apart;
  aligned = c.in_ok-extents.ensures.aligned;
  inside = c.in_ok-extents.ensures.inside c.args.length (subst (λ (l : List (CodeSpan × SegHeader)). EndBy c.args.length l) (sym c.deref.ensures.value) c.in_ok-walk.ensures.inside);
  clear = c.in_ok-extents.ensures.clear;
}

pub returns-clause-ends : goal.returns-clause-ends
returns-clause-ends g c = c.walk_end-end.ensures.inside c.args.length (subst (λ (l : List (CodeSpan × SegHeader)). EndBy c.args.length l) (sym c.deref-3.ensures.value) c.in_ok-walk.ensures.inside)
