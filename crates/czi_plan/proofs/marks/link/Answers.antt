use Rattle.std.proofs.Common.{List, length, ap, arith}
use Rattle.std.specs.Prelude.{sum_by}
use Rattle.std.proofs.lemmas.List.{length-map}
use Rattle.czi_num.specs.Span.{span_of}
use Rattle.czi_links.specs.Record.{Bytes}
use Rattle.czi_plan.specs.Marks.{Mark, marks_of}
use Rattle.czi_plan.proofs.Linking.{heads_more}
use Rattle.czi_plan.proofs.marks.link.Goals as goal

pub put_marks-requires-clause-room : goal.put_marks-requires-clause-room
put_marks-requires-clause-room c =
    let r = c.args.region.now in
    let new = heads_more _ (c.mark_deleted_after.ensures.marks r) in
    let dead = heads_more _ (c.mark_dead.ensures.marks r) in
    omega (
      arith,
      ap (λ (l : List Mark). sum_by (λ (b : Bytes). length b.bytes) (marks_of r l)) c.deref_mut.ensures.value,
      new.0,
      new.1,
      dead.1,
      c.mark_deleted_after.ensures.len,
      c.mark_deleted_after.new.marks.ok.0,
      c.args.out.now.marks.ok.0,
      c.requires.memory.link_bytes,
      length-map c.args.out.now.used.items span_of,
      length-map c.args.out.now.freed.items span_of,
      length-map c.args.out.now.dead.items span_of,
      length-map c.deref-3.result.now span_of,
      ap length c.deref.ensures.value,
      ap length c.deref-2.ensures.value,
      ap length c.deref-3.ensures.value,
    )
