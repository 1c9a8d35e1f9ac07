use Rattle.std.proofs.Common.{◌∙◌, arith}
use Rattle.czi_plan.specs.Kind.{of_subblocks}
use Rattle.czi_plan.specs.Directory.{listed_back, listed_front, listed_middle}
use Rattle.czi_plan.proofs.Entries.{patch_as, sizes_total}
use Rattle.czi_plan.proofs.listing.patch_tiles.Goals as goal

pub returns-clause-patches : goal.returns-clause-patches
returns-clause-patches c =
    let l = c.args.listing.now in
    let put = c.stage_middle-entries.ensures.staged in
    record {
      marks = patch_as _ _ c.args.directory.now.span.at _ _ _ _ _ _ _ _ (c.mark_patch.ensures.marks c.stage_middle-entries.new.region put.inside).links_are
          (c.total-used.ensures ∙ sizes_total of_subblocks c.args.sizes.now (listed_front l) (listed_middle l) (listed_back l) c.requires.sizes)
          c.count_of-count.ensures c.requires.sizes.front_is put.reads;
      entries = c.stage_middle-entries.ensures.entries;
      size = omega (arith, put.long, c.stage_middle-entries.ensures.whole, c.requires.sizes.middle_is);
    }

pub returns-clause-sized : goal.returns-clause-sized
returns-clause-sized c = (c.mark_patch.ensures.marks c.stage_middle-entries.new.region c.stage_middle-entries.ensures.staged.inside).sized
