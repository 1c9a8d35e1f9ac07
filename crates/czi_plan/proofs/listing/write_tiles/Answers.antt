use Rattle.std.proofs.Common.{◌-◌, ◌++◌, ◌∷◌, [], ap, ◌∙◌}
use Rattle.czi_format.specs.Segment.{directory_id}
use Rattle.czi_plan.specs.Directory.{listed_back, listed_front, listed_middle}
use Rattle.czi_plan.specs.Kind.{of_subblocks}
use Rattle.czi_plan.specs.Marks.{head_mark, marks_of, pointer_mark}
use Rattle.czi_plan.proofs.Entries.{length-directory, sizes_total}
use Rattle.czi_plan.proofs.listing.write_tiles.Goals as goal

pub put_directory-requires-clause-id : goal.put_directory-requires-clause-id
put_directory-requires-clause-id c = length-directory

pub returns-clause-writes : goal.returns-clause-writes
returns-clause-writes c =
    let st = c.stage_directory-piece.ensures in
    let put = c.put_directory.ensures in
    let r = c.stage_directory-piece.new.region in
    let l = c.args.listing.now in
    let d = c.args.directory.now in
    record {
      piece = c.stage_directory-piece.result;
      staged = st.staged.inside;
      long = st.whole;
      bytes = st.staged.reads;
      entries = st.entries;
      writes = put.writes;
      used = put.used;
      end = put.end;
      others = put.others;
      marks = (put.marks r).links_are ∙ ap (λ n. marks_of r c.args.out.now.marks.items ++ pointer_mark 84 d.span.at ∷ head_mark (record { at = d.span.at; id = directory_id; allocated = d.span.len - 32; used = n }) ∷ [])
          (c.total.ensures ∙ sizes_total of_subblocks c.args.sizes.now (listed_front l) (listed_middle l) (listed_back l) c.requires.sizes);
    }

pub returns-clause-sized : goal.returns-clause-sized
returns-clause-sized c = (c.put_directory.ensures.marks c.stage_directory-piece.new.region).sized
