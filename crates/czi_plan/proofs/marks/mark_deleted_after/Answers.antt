use Rattle.std.proofs.Common.{◌≡◌, map, filter, length, ap, arith, ◌∙◌}
use Rattle.std.proofs.lemmas.List.{length-map}
use Rattle.czi_format.specs.Space.{deleted_after}
use Rattle.czi_format.specs.Span.{Span}
use Rattle.czi_machine.proofs.Tiled.{All-filter}
use Rattle.czi_num.specs.Span.{span_of}
use Rattle.czi_plan.specs.Marks.{IsMarked, deleted_mark, is_new}
use Rattle.czi_plan.proofs.Brief.{few_marks}
use Rattle.czi_plan.proofs.Marking.{adds_as}
use Rattle.czi_plan.proofs.Touched.{changes_touched}
use Rattle.czi_plan.proofs.marks.mark_deleted_after.Goals as goal

pub mark_new-requires-clause-long : goal.mark_new-requires-clause-long
mark_new-requires-clause-long c = rw (c.extents-2.ensures.extents, c.touched_after.ensures) (All-filter IsMarked _ _ c.requires.long)

pub mark_new-requires-clause-room : goal.mark_new-requires-clause-room
mark_new-requires-clause-room c =
    let news : filter (is_new (map span_of c.extents.result.now)) (map span_of c.extents-2.result.now) ≡ filter (is_new c.args.space.now.extents) (deleted_after (map span_of c.args.used.now) (map span_of c.args.freed.now) c.args.space.now.extents)
    = (λ i. filter (is_new (c.extents.ensures.extents i)) ((c.extents-2.ensures.extents ∙ c.touched_after.ensures) i)) ∙ (changes_touched _ _ _ _ c.extents.ensures.rising c.requires.used c.requires.freed c.requires.in_order).news in
    omega (arith, c.requires.room, ap (length {A = Span}) news, few_marks c.args.space.now.length (map span_of c.args.used.now) (map span_of c.args.freed.now) c.args.space.now.extents c.extents.ensures.rising c.requires.used, length-map c.args.used.now span_of, length-map c.args.freed.now span_of)

pub returns-clause-marks : goal.returns-clause-marks
returns-clause-marks c = λ r.
    let news : filter (is_new (map span_of c.extents.result.now)) (map span_of c.extents-2.result.now) ≡ filter (is_new c.args.space.now.extents) (deleted_after (map span_of c.args.used.now) (map span_of c.args.freed.now) c.args.space.now.extents)
    = (λ i. filter (is_new (c.extents.ensures.extents i)) ((c.extents-2.ensures.extents ∙ c.touched_after.ensures) i)) ∙ (changes_touched _ _ _ _ c.extents.ensures.rising c.requires.used c.requires.freed c.requires.in_order).news in
    adds_as (ap (map deleted_mark) news) (c.mark_new.ensures.marks r)

pub returns-clause-len : goal.returns-clause-len
returns-clause-len c =
    let news : filter (is_new (map span_of c.extents.result.now)) (map span_of c.extents-2.result.now) ≡ filter (is_new c.args.space.now.extents) (deleted_after (map span_of c.args.used.now) (map span_of c.args.freed.now) c.args.space.now.extents)
    = (λ i. filter (is_new (c.extents.ensures.extents i)) ((c.extents-2.ensures.extents ∙ c.touched_after.ensures) i)) ∙ (changes_touched _ _ _ _ c.extents.ensures.rising c.requires.used c.requires.freed c.requires.in_order).news in
    omega (arith, c.mark_new.ensures.len, ap (length {A = Span}) news, few_marks c.args.space.now.length (map span_of c.args.used.now) (map span_of c.args.freed.now) c.args.space.now.extents c.extents.ensures.rising c.requires.used, length-map c.args.used.now span_of, length-map c.args.freed.now span_of)
