use Rattle.std.proofs.Common.{length, ap, ◌∙◌, arith}
use Rattle.czi_plan.proofs.Marking.{adds_both, first_marks}
use Rattle.czi_plan.proofs.Setting.{length-metadata}
use Rattle.czi_plan.proofs.undoing.link_setting.Goals as goal

pub link_back-requires-clause-id : goal.link_back-requires-clause-id
link_back-requires-clause-id c = let b = rw c.in-Some.is at c.requires.back in ap length b.0.0 ∙ length-metadata

pub returns-in-None-clause-marks : goal.returns-in-None-clause-marks
returns-in-None-clause-marks c = λ r. rw c.in-None.is (first_marks c.requires.no_marks (c.mark_pointer.ensures.marks r))

pub returns-in-Some-clause-marks : goal.returns-in-Some-clause-marks
returns-in-Some-clause-marks c = λ r. rw c.in-Some.is (first_marks c.requires.no_marks (adds_both (c.mark_pointer-in-Some.ensures.marks r) (c.link_back.ensures.marks r)))

pub returns-in-Some-clause-kept : goal.returns-in-Some-clause-kept
returns-in-Some-clause-kept c =
    let h = c.requires.memory in
    c.link_back.ensures.memory 5 160 1 (record {
      links = h.links;
      link_bytes = h.link_bytes;
      used = h.used;
      freed = h.freed;
      held = h.held;
      tiles = h.tiles;
      attachments = h.attachments;
      marks = omega (arith, h.marks, c.mark_pointer-in-Some.ensures.capacity);
      dead = h.dead;
      touched = h.touched;
    })
