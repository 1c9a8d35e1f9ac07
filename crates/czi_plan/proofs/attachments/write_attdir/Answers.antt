use Rattle.std.proofs.Common.{◌-◌, ◌++◌, ◌∷◌, [], ap, ◌∙◌}
use Rattle.czi_format.specs.Segment.{attdir_id}
use Rattle.czi_plan.specs.Attaching.{att_back, att_front, att_middle}
use Rattle.czi_plan.specs.Kind.{of_attachments}
use Rattle.czi_plan.specs.Marks.{head_mark, marks_of, pointer_mark}
use Rattle.czi_plan.proofs.Entries.{sizes_total}
use Rattle.czi_plan.proofs.KindLaws.{length-attdir}
use Rattle.czi_plan.proofs.attachments.write_attdir.Goals as goal

pub put_directory-requires-clause-id : goal.put_directory-requires-clause-id
put_directory-requires-clause-id c = length-attdir

pub returns-clause-writes : goal.returns-clause-writes
returns-clause-writes c =
    let p = c.args.parts.now in
    let d = c.args.directory.now in
    let st = c.stage_attdir-piece.ensures in
    let put = c.put_directory.ensures in
    let r = c.stage_attdir-piece.new.region in
    record {
      piece = c.stage_attdir-piece.result;
      staged = st.staged.inside;
      long = st.whole;
      bytes = st.staged.reads;
      entries = st.entries;
      writes = put.writes;
      used = put.used;
      end = put.end;
      others = put.others;
      marks = (put.marks r).links_are ∙ ap (λ n. marks_of r c.args.out.now.marks.items ++ pointer_mark 104 d.span.at ∷ head_mark (record { at = d.span.at; id = attdir_id; allocated = d.span.len - 32; used = n }) ∷ [])
          (c.total-used.ensures ∙ sizes_total of_attachments c.att_sizes.result (att_front p) (att_middle p) (att_back p) c.att_sizes.ensures.sizes);
    }

pub returns-clause-sized : goal.returns-clause-sized
returns-clause-sized c = (c.put_directory.ensures.marks c.stage_attdir-piece.new.region).sized
