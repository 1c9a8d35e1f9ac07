use Rattle.std.proofs.Common.{◌≡◌, ◌++◌, [], ◌∷◌, length, map, ap, ◌∙◌, arith}
use Rattle.czi_format.specs.Span.{span_le, sorted}
use Rattle.czi_image.specs.Holds.{att_item_place}
use Rattle.czi_image.specs.declared.change.Act.{Act as CodeAct}
use Rattle.czi_image.specs.declared.change.Change.{Change}
use Rattle.czi_image.specs.declared.change.DirectoryChange.{DirectoryChange}
use Rattle.czi_image.specs.declared.index.Index.{Index}
use Rattle.czi_image.specs.declared.types.AttItem.{AttItem}
use Rattle.czi_num.specs.Span.{span_of}
use Rattle.czi_plan.specs.Changing.{tiles_leaving}
use Rattle.czi_plan.specs.Kind.{of_attachments}
use Rattle.czi_plan.specs.Marks.{marks_of}
use Rattle.czi_plan.specs.Plan.{dead_of, left_directory, usable_of}
use Rattle.czi_plan.specs.declared.plan.EditPlan.{EditPlan}
use Rattle.czi_plan.specs.declared.tiles.Parts.{Parts}
use Rattle.czi_plan.proofs.ActStages.{few_act, marks_few, used_few, in_place_order, left_as, links_act, lists_as, ready_as, same_change, stages_act}
use Rattle.czi_plan.proofs.Attached.{back_as, count_as, front_as, middle_as}
use Rattle.czi_plan.proofs.KindLaws.{att_laws}
use Rattle.czi_plan.proofs.Linking.{hold_act}
use Rattle.czi_plan.proofs.Parts.{few_brought, few_leaving}
use Rattle.czi_plan.proofs.attachment_acts.stage_attachment_act.Goals as goal

pub list_attachments-requires-clause-few : goal.list_attachments-requires-clause-few
list_attachments-requires-clause-few c = omega (arith, count_as c.args.act _ _ c.att_parts-parts.result c.deref.ensures.value c.att_parts-parts.ensures, c.requires.few)

pub list_attachments-requires-clause-brought : goal.list_attachments-requires-clause-brought
list_attachments-requires-clause-brought c = omega (arith, ap (length {A = AttItem}) c.att_parts-parts.ensures.brought, few_brought c.args.act)

pub list_attachments-requires-clause-leaving : goal.list_attachments-requires-clause-leaving
list_attachments-requires-clause-leaving c = omega (arith, ap (length {A = AttItem}) c.att_parts-parts.ensures.leaving, few_leaving c.args.act c.deref.result.now)

pub list_attachments-requires-clause-ready : goal.list_attachments-requires-clause-ready
list_attachments-requires-clause-ready c =
    let a : CodeAct AttItem = c.args.act in
    let p : Parts AttItem = c.att_parts-parts.result in
    let are = c.att_parts-parts.ensures in
    let there = c.deref.ensures.value in
    rw (front_as a _ _ p there are, middle_as a _ _ p there are, back_as a _ _ p there are) (ready_as c.args.index.now c.args.index.now.attdir _ _ _ _ c.args.out.now.change.attdir c.requires.begins.1.place c.requires.room)

pub list_attachments-requires-clause-used_room : goal.list_attachments-requires-clause-used_room
list_attachments-requires-clause-used_room c = omega (arith, used_few att_laws c.args.act c.requires.begins.0 c.args.out.now c.requires.begins.1.starts, c.args.out.now.used.ok, c.requires.memory.used)

pub list_attachments-requires-clause-marks_room : goal.list_attachments-requires-clause-marks_room
list_attachments-requires-clause-marks_room c = omega (arith, marks_few of_attachments c.args.act c.args.region.now c.args.out.now.marks.items (c.requires.marks c.args.region.now), c.args.out.now.marks.ok, c.requires.memory.marks)

pub release_left-requires-clause-held_room : goal.release_left-requires-clause-held_room
release_left-requires-clause-held_room c = omega (arith, ap (length {A = AttItem}) c.att_parts-parts.ensures.leaving, few_leaving c.args.act c.deref.result.now, (c.list_attachments.ensures.memory 11 65888 2 c.requires.memory).held)

pub release_left-requires-clause-freed_room : goal.release_left-requires-clause-freed_room
release_left-requires-clause-freed_room c = omega (arith, ap (length {A = AttItem}) c.att_parts-parts.ensures.leaving, few_leaving c.args.act c.deref.result.now, (c.list_attachments.ensures.memory 11 65888 2 c.requires.memory).freed)

pub release_left-requires-clause-dead_room : goal.release_left-requires-clause-dead_room
release_left-requires-clause-dead_room c = omega (arith, ap (length {A = AttItem}) c.att_parts-parts.ensures.leaving, few_leaving c.args.act c.deref.result.now, (c.list_attachments.ensures.memory 11 65888 2 c.requires.memory).dead)

pub link-requires-clause-sized : goal.link-requires-clause-sized
link-requires-clause-sized c = c.list_attachments.ensures.sized (c.requires.marks c.list_attachments.new.region).sized

pub link-requires-clause-memory : goal.link-requires-clause-memory
link-requires-clause-memory c =
    let x : Index = c.args.index.now in
    let a : CodeAct AttItem = c.args.act in
    let d : DirectoryChange = c.args.out.now.change.attdir in
    let R = c.list_attachments.new.region in
    let p : Parts AttItem = c.att_parts-parts.result in
    let are = c.att_parts-parts.ensures in
    let there = c.deref.ensures.value in
    let lists = lists_as of_attachments x.attdir d _ _ _ _ _ _ R c.args.out.now c.list_attachments.new.out _ _ (marks_of R c.list_attachments.new.out.marks.items) (front_as a _ _ p there are) (middle_as a _ _ p there are) (back_as a _ _ p there are) (c.requires.marks R).links_are c.list_attachments.ensures.lists in
    let left = are.leaving ∙ ap (tiles_leaving a) there in
    let same : c.list_attachments.new.out.change.attdir ≡ d = ap (λ (v : Change). v.attdir) (same_change att_laws a c.requires.begins.0 d c.args.region.now R c.args.out.now c.list_attachments.new.out (marks_of R c.list_attachments.new.out.marks.items) c.requires.of_index c.requires.begins.1 c.list_attachments.ensures.kept lists) in
    let memory = c.list_attachments.ensures.memory 11 65888 2 c.requires.memory in
    rw (
      c.release_left.ensures.freed ∙ left_as of_attachments (λ l. sorted span_le (usable_of l)) a d _ x _ left same,
      c.release_left.ensures.dead ∙ left_as of_attachments dead_of a d _ x _ left same,
    ) (hold_act _ _ _ _ _ (few_act att_laws a c.requires.begins.0 d c.args.region.now R c.args.out.now c.list_attachments.new.out (marks_of R c.list_attachments.new.out.marks.items) c.requires.of_index c.requires.begins.1 c.list_attachments.ensures.kept lists)
    (omega (arith, c.list_attachments.ensures.len, marks_few of_attachments a c.args.region.now c.args.out.now.marks.items (c.requires.marks c.args.region.now), c.args.out.now.marks.ok)) memory.marks memory.links memory.link_bytes memory.touched)

pub put-requires : goal.put-requires
put-requires c =
    let x : Index = c.args.index.now in
    let a : CodeAct AttItem = c.args.act in
    let d : DirectoryChange = c.args.out.now.change.attdir in
    let R = c.list_attachments.new.region in
    let p : Parts AttItem = c.att_parts-parts.result in
    let are = c.att_parts-parts.ensures in
    let there = c.deref.ensures.value in
    let lists = lists_as of_attachments x.attdir d _ _ _ _ _ _ R c.args.out.now c.list_attachments.new.out _ _ (marks_of R c.list_attachments.new.out.marks.items) (front_as a _ _ p there are) (middle_as a _ _ p there are) (back_as a _ _ p there are) (c.requires.marks R).links_are c.list_attachments.ensures.lists in
    let same = same_change att_laws a c.requires.begins.0 d c.args.region.now R c.args.out.now c.list_attachments.new.out (marks_of R c.list_attachments.new.out.marks.items) c.requires.of_index c.requires.begins.1 c.list_attachments.ensures.kept lists in
    let memory = c.list_attachments.ensures.memory 11 65888 2 c.requires.memory in
    rw (ap (λ (q : EditPlan). q.change) c.link.ensures.others) (omega (arith, ap (λ (v : Change). length v.attachments.items) same, ap (length {A = CodeAct AttItem}) c.requires.begins.1.starts.attachments, c.list_attachments.new.out.change.attachments.ok, memory.attachments))

pub link-requires-clause-in_order : goal.link-requires-clause-in_order
link-requires-clause-in_order c =
    in_place_order _ (usable_of (map att_item_place c.att_parts-parts.result.leaving.now ++ left_directory c.list_attachments.new.out.change.attdir c.args.index.now.attdir)) c.release_left.ensures.freed

pub link-requires-clause-can : goal.link-requires-clause-can
link-requires-clause-can c =
    let x : Index = c.args.index.now in
    let a : CodeAct AttItem = c.args.act in
    let d : DirectoryChange = c.args.out.now.change.attdir in
    let p : Parts AttItem = c.att_parts-parts.result in
    let are = c.att_parts-parts.ensures in
    let there = c.deref.ensures.value in
    let lists = lists_as of_attachments x.attdir d _ _ _ _ _ _ c.list_attachments.new.region c.args.out.now c.list_attachments.new.out _ _ (marks_of c.list_attachments.new.region c.list_attachments.new.out.marks.items) (front_as a _ _ p there are) (middle_as a _ _ p there are) (back_as a _ _ p there are) (c.requires.marks c.list_attachments.new.region).links_are c.list_attachments.ensures.lists in
    let left = are.leaving ∙ ap (tiles_leaving a) there in
    let same : c.list_attachments.new.out.change.attdir ≡ d = ap (λ (v : Change). v.attdir) (same_change att_laws a c.requires.begins.0 d c.args.region.now c.list_attachments.new.region c.args.out.now c.list_attachments.new.out (marks_of c.list_attachments.new.region c.list_attachments.new.out.marks.items) c.requires.of_index c.requires.begins.1 c.list_attachments.ensures.kept lists) in
    rw (
      c.release_left.ensures.freed ∙ left_as of_attachments (λ l. sorted span_le (usable_of l)) a d _ x _ left same,
      c.release_left.ensures.dead ∙ left_as of_attachments dead_of a d _ x _ left same,
    ) (links_act att_laws a c.requires.begins.0 d c.args.region.now c.list_attachments.new.region c.args.out.now c.list_attachments.new.out (marks_of c.list_attachments.new.region c.list_attachments.new.out.marks.items) c.requires.of_index c.requires.begins.1 c.list_attachments.ensures.kept lists)

pub returns-clause-stages : goal.returns-clause-stages
returns-clause-stages c =
    λ o begins.
    let x : Index = c.args.index.now in
    let a : CodeAct AttItem = c.args.act in
    let d : DirectoryChange = c.args.out.now.change.attdir in
    let p : Parts AttItem = c.att_parts-parts.result in
    let are = c.att_parts-parts.ensures in
    let there = c.deref.ensures.value in
    let lists = lists_as of_attachments x.attdir d _ _ _ _ _ _ c.list_attachments.new.region c.args.out.now c.list_attachments.new.out _ _ (marks_of c.list_attachments.new.region c.list_attachments.new.out.marks.items) (front_as a _ _ p there are) (middle_as a _ _ p there are) (back_as a _ _ p there are) (c.requires.marks c.list_attachments.new.region).links_are c.list_attachments.ensures.lists in
    let left = are.leaving ∙ ap (tiles_leaving a) there in
    let same = same_change att_laws a o d c.args.region.now c.list_attachments.new.region c.args.out.now c.list_attachments.new.out (marks_of c.list_attachments.new.region c.list_attachments.new.out.marks.items) c.requires.of_index begins c.list_attachments.ensures.kept lists in
    let other = c.link.ensures.others in
    let becomes : c.link.new.out.change ≡ c.args.out.now.change = ap (λ (q : EditPlan). q.change) other ∙ same in
    let directory : c.list_attachments.new.out.change.attdir ≡ d = ap (λ (v : Change). v.attdir) same in
    stages_act att_laws a o d c.args.region.now c.list_attachments.new.region c.args.out.now c.list_attachments.new.out (marks_of c.list_attachments.new.region c.list_attachments.new.out.marks.items) c.requires.of_index begins c.list_attachments.ensures.kept lists _ c.requires.within c.requires.few (record {
      writes = ap (λ (q : EditPlan). q.writes) other;
      used = ap (λ (q : EditPlan). q.used) other;
      length = ap (λ (q : EditPlan). q.length) other;
      change = record {
        directory = ap (λ (v : Change). v.directory) becomes ∙ begins.starts.other;
        tiles = ap (λ (v : Change). v.tiles.items) becomes ∙ begins.starts.tiles;
        attdir = ap (λ (v : Change). v.attdir) becomes;
        attachments = c.put.ensures.items ∙ ap (λ l. l ++ a ∷ []) (ap (λ (v : Change). v.attachments.items) becomes ∙ begins.starts.attachments);
        metadata = ap (λ (v : Change). v.metadata) becomes ∙ begins.starts.metadata;
      };
      held = ap (λ (q : EditPlan). map span_of q.held.items) other ∙ (c.release_left.ensures.held ∙ ap (λ l. usable_of (map att_item_place l)) left);
      freed = ap (λ (q : EditPlan). map span_of q.freed.items) other ∙ (c.release_left.ensures.freed ∙ left_as of_attachments (λ l. sorted span_le (usable_of l)) a d _ x _ left directory);
      dead = c.release_left.new.dead.items;
      is_dead = c.release_left.ensures.dead ∙ left_as of_attachments dead_of a d _ x _ left directory;
      links = rw (ap (λ (q : EditPlan). map span_of q.used.items) other, ap (λ (q : EditPlan). map span_of q.freed.items) other) c.link.ensures.linked;
    })
