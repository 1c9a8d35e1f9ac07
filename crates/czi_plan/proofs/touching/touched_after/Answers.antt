use Rattle.std.proofs.Common.{map, ap, ◌∙◌}
use Rattle.czi_format.specs.Space.{deleted_after}
use Rattle.czi_num.specs.Span.{span_of}
use Rattle.czi_plan.proofs.Touched.{changes_touched}
use Rattle.czi_plan.proofs.touching.touched_after.Goals as goal

pub update_map-requires-clause-rise : goal.update_map-requires-clause-rise
update_map-requires-clause-rise c =
    rw (c.touched.ensures.map.length, c.touched.ensures.map.extents) (changes_touched _ _ _ _ c.touched.ensures.rising c.requires.used c.requires.freed c.requires.in_order).rise

pub update_map-requires-clause-used : goal.update_map-requires-clause-used
update_map-requires-clause-used c =
    rw (c.touched.ensures.map.length, c.touched.ensures.map.extents) (changes_touched _ _ _ _ c.touched.ensures.rising c.requires.used c.requires.freed c.requires.in_order).takes

pub update_map-requires-clause-freed : goal.update_map-requires-clause-freed
update_map-requires-clause-freed c =
    rw (c.touched.ensures.map.length, c.touched.ensures.map.extents) (changes_touched _ _ _ _ c.touched.ensures.rising c.requires.used c.requires.freed c.requires.in_order).frees

pub returns : goal.returns
returns c =
    c.update_map.ensures.map.extents ∙ (ap (deleted_after (map span_of c.args.used.now) (map span_of c.args.freed.now)) c.touched.ensures.map.extents
    ∙ (changes_touched _ _ _ _ c.touched.ensures.rising c.requires.used c.requires.freed c.requires.in_order).after)
