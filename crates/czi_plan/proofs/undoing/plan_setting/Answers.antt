use Rattle.std.proofs.Common.{◌≡◌, map, length, ap, sym, ◌∙◌, subst, arith, refl}
use Rattle.std.proofs.lemmas.List.{length-map}
use Rattle.czi_format.specs.Segment.{metadata_id}
use Rattle.czi_image.specs.View.{meta_item_of}
use Rattle.czi_image.specs.declared.change.Change.{Change}
use Rattle.czi_image.specs.declared.types.MetaItem.{MetaItem}
use Rattle.czi_machine.proofs.Tiled.{All-weaken}
use Rattle.czi_num.specs.Span.{span_of}
use Rattle.czi_plan.specs.Changing.{returned}
use Rattle.czi_plan.specs.Marks.{AreInOrder, mark_of}
use Rattle.czi_plan.specs.Setting.{IsMetadataBack, metadata_brought}
use Rattle.czi_plan.specs.declared.plan.EditPlan.{EditPlan}
use Rattle.czi_plan.proofs.Linking.{hold}
use Rattle.czi_plan.proofs.Memory.{metadata_few}
use Rattle.czi_plan.proofs.Setting.{left_sorted, metadata_links}
use Rattle.czi_plan.proofs.undoing.plan_setting.Goals as goal

pub link_metadata-requires-clause-back : goal.link_metadata-requires-clause-back
link_metadata-requires-clause-back c = All-weaken (IsMetadataBack c.args.index.now c.args.space.now) _ (λ i b. b.0) _ c.requires.back

pub link-requires-clause-sized : goal.link-requires-clause-sized
link-requires-clause-sized c = (c.link_metadata.ensures.marks c.args.region.now).sized

pub link-requires-clause-can : goal.link-requires-clause-can
link-requires-clause-can c =
    let x = c.args.index.now in
    let z = c.args.setting in
    let released = c.release_metadata.ensures in
    rw (
      c.link_metadata.ensures.used,
      ap (map span_of) released.freed ∙ (released.held ∙ sym (left_sorted z x)),
      released.dead,
      (c.link_metadata.ensures.marks c.args.region.now).links_are,
    ) (metadata_links x c.args.space.now z returned c.args.region.now c.args.out.now.writes.items c.requires.of_index (c.requires.back, c.requires.empty.writes))

pub link-requires-clause-memory : goal.link-requires-clause-memory
link-requires-clause-memory c =
    let x = c.args.index.now in
    let z = c.args.setting in
    let released = c.release_metadata.ensures in
    let are = c.link_metadata.ensures.marks c.args.region.now in
    let kept = c.link_metadata.ensures.kept in
    let few = metadata_few z returned x (All-weaken (IsMetadataBack x c.args.space.now) (λ (i : MetaItem). (meta_item_of i).segment.id ≡ metadata_id) (λ i b. b.0.0) (metadata_brought z) c.requires.back) in
    rw (
      c.link_metadata.ensures.used,
      ap (map span_of) released.freed ∙ (released.held ∙ sym (left_sorted z x)),
      released.dead,
      are.links_are,
    ) (hold _ _ _ _ _ few (omega (arith, few.few, ap length are.links_are, length-map c.link_metadata.new.out.marks.items (mark_of c.args.region.now), c.link_metadata.new.out.marks.ok, kept.marks)) kept.links (omega (arith, kept.link_bytes)) kept.touched)

pub returns : goal.returns
returns c =
    let x = c.args.index.now in
    let z = c.args.setting in
    let released = c.release_metadata.ensures in
    let other = c.link.ensures.others in
    let linked = c.link_metadata.ensures.others in
    let freed = ap (map span_of) released.freed ∙ (released.held ∙ sym (left_sorted z x)) in
    let none = c.requires.empty.change in
    let becomes : c.link.new.out.change ≡ c.args.out.now.change = ap (λ (p : EditPlan). p.change) other ∙ ap (λ (p : EditPlan). p.change) linked in
    record {
      brings = (c.requires.back, ap (λ (p : EditPlan). p.writes.items) other ∙ (ap (λ (p : EditPlan). p.writes.items) linked ∙ c.requires.empty.writes));
      change = record {
        directory = ap (λ (v : Change). v.directory) becomes ∙ none.directory;
        acts = ap (λ (v : Change). v.tiles.items) becomes ∙ none.tiles;
        attdir = ap (λ (v : Change). v.attdir) becomes ∙ none.attdir;
        attachments = ap (λ (v : Change). v.attachments.items) becomes ∙ none.attachments;
        metadata = refl;
      };
      used = ap (λ (p : EditPlan). map span_of p.used.items) other ∙ c.link_metadata.ensures.used;
      length = ap (λ (p : EditPlan). p.length) other ∙ (ap (λ (p : EditPlan). p.length) linked ∙ c.length-out.ensures);
      held = ap (λ (p : EditPlan). map span_of p.held.items) other ∙ released.held;
      freed = ap (λ (p : EditPlan). map span_of p.freed.items) other ∙ freed;
      dead = c.release_metadata.new.dead.items;
      is_dead = released.dead;
      links = rw (ap (λ (p : EditPlan). map span_of p.used.items) other, ap (λ (p : EditPlan). map span_of p.freed.items) other)
          (subst (λ l. AreInOrder l (map span_of c.link_metadata.new.out.used.items) (map span_of c.release_metadata.new.freed.items) (map span_of c.release_metadata.new.dead.items) c.args.space.now.extents c.link.new.out.links.links) (c.link_metadata.ensures.marks c.args.region.now).links_are c.link.ensures.linked);
    }
