use Rattle.std.proofs.Common.{◌∙◌, ◌+◌, length, ap, arith}
use Rattle.czi_rig.proofs.Quiet.{untouched_then}
use Rattle.czi_doc.specs.QueryView.{query_of}
use Rattle.czi_image.proofs.Told.{seen_before}
use Rattle.czi_paint.specs.Painted.{Paints}
use Rattle.czi_paint.proofs.InDocument.{painter_lies}
use Rattle.czi_test_paint.proofs.Widths.{as_wide, same_len}
use Rattle.czi_test_paint.proofs.rows.push_rows.Goals as goal

pub push_row-requires-clause-in_file : goal.push_row-requires-clause-in_file
push_row-requires-clause-in_file g c = λ image is.
    painter_lies image c.args.index.now (query_of c.args.query.now) c.loop.counter c.loop.painter (c.requires.in_file image (seen_before _ _ image c.loop.invariant.untouched.same is)) c.loop.invariant.paints

pub loop-preserved : goal.loop-preserved
loop-preserved g c =
    let next : Paints (query_of c.args.query.now) c.args.index.now.tiles.items (c.loop.counter + 1) c.push_row.new.painter = c.in_ok-push_row.ensures.next (query_of c.args.query.now) c.args.index.now.tiles.items c.loop.counter c.loop.invariant.paints in
    record {
      paints = next;
      width = as_wide c.loop.row.len c.push_row.new.row c.loop.row.items (c.push_row.ensures.width ∙ ap length c.deref_mut.ensures.value) (omega (arith, c.loop.row.ok.0))
          ∙ (c.loop.invariant.width ∙ same_len _ _ _ _ _ _ c.loop.invariant.paints next);
      untouched = untouched_then g.R.Rig c.loop.invariant.untouched c.push_row.ensures.untouched;
    }
