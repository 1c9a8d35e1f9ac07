use Rattle.std.proofs.Common.{sym, ◌∙◌, arith}
use Rattle.czi_plan.specs.Attaching.{att_back, att_front, att_middle}
use Rattle.czi_plan.specs.Kind.{of_attachments}
use Rattle.czi_plan.proofs.Attached.{a1s_long, counted}
use Rattle.czi_plan.proofs.Entries.{patch_as, size_in_part, sizes_total}
use Rattle.czi_plan.proofs.attachments.patch_attdir.Goals as goal

pub mark_patch-requires-clause-ends : goal.mark_patch-requires-clause-ends
mark_patch-requires-clause-ends c =
    let p = c.args.parts.now in
    omega (arith, c.att_sizes-sizes.ensures.sizes.front_is, c.att_sizes-sizes.ensures.sizes.middle_is, c.stage_middle-entries.ensures.whole, size_in_part of_attachments (att_front p) (att_middle p) (att_back p), c.requires.long, c.args.directory.now.ends)

pub returns-clause-patches : goal.returns-clause-patches
returns-clause-patches c =
    let p = c.args.parts.now in
    let sizes = c.att_sizes-sizes.ensures.sizes in
    let put = c.stage_middle-entries.ensures.staged in
    record {
      marks = patch_as _ _ c.args.directory.now.span.at _ _ _ _ _ _ _ _ (c.mark_patch.ensures.marks c.stage_middle-entries.new.region put.inside).links_are
          (c.total-used.ensures ∙ sizes_total of_attachments c.att_sizes-sizes.result (att_front p) (att_middle p) (att_back p) sizes)
          (c.count_after-count.ensures ∙ sym (counted p)) sizes.front_is put.reads;
      entries = c.stage_middle-entries.ensures.entries;
      size = a1s_long (att_middle p) c.stage_middle-entries.ensures.entries;
    }

pub returns-clause-sized : goal.returns-clause-sized
returns-clause-sized c = (c.mark_patch.ensures.marks c.stage_middle-entries.new.region c.stage_middle-entries.ensures.staged.inside).sized
