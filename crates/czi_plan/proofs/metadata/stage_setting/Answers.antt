use Rattle.std.proofs.Common.{Some, ◌≡◌, ◌+◌, List, map, max, refl, ap, sym, ◌∙◌, subst, arith, length}
use Rattle.czi_image.specs.declared.change.Change.{Change}
use Rattle.czi_image.specs.declared.types.MetaItem.{MetaItem}
use Rattle.czi_links.specs.Record.{Bytes}
use Rattle.czi_num.specs.Span.{span_of}
use Rattle.czi_image.specs.declared.change.Setting.TheVariants.{To}
use Rattle.czi_plan.specs.Changing.{edited}
use Rattle.czi_plan.specs.Marks.{AreInOrder, mark_of}
use Rattle.czi_plan.specs.Setting.{metadata_of}
use Rattle.czi_plan.specs.declared.plan.EditPlan.{EditPlan}
use Rattle.std.proofs.lemmas.List.{length-map}
use Rattle.czi_format.specs.Segment.{metadata_id}
use Rattle.czi_image.specs.View.{meta_item_of}
use Rattle.czi_plan.proofs.Linking.{hold}
use Rattle.czi_plan.proofs.Memory.{metadata_few}
use Rattle.czi_plan.proofs.Setting.{item_there, left_sorted, metadata_links, placed_there}
use Rattle.czi_plan.proofs.metadata.stage_setting.Goals as goal

pub link-requires-clause-sized : goal.link-requires-clause-sized
link-requires-clause-sized c = (c.stage_metadata.ensures.marks c.stage_metadata.new.region).sized

pub link-requires-clause-memory : goal.link-requires-clause-memory
link-requires-clause-memory c =
    let x = c.args.index.now in
    let d = metadata_of c.args.new.now in
    let i : MetaItem = c.item-item.result in
    let staged = c.stage_metadata.ensures in
    let released = c.release_metadata.ensures in
    let are = staged.marks c.stage_metadata.new.region in
    let id : (meta_item_of i).segment.id ≡ metadata_id = c.item-item.ensures.item.item.id in
    rw (
      staged.used,
      ap (map span_of) released.freed ∙ (released.held ∙ sym (left_sorted (To (Some i)) x)),
      released.dead,
      are.links_are,
    ) (hold _ _ _ _ _ (metadata_few (To (Some i)) (edited d) x (id, tt)) (omega (arith, ap length are.links_are, length-map c.stage_metadata.new.out.marks.items (mark_of c.stage_metadata.new.region), c.stage_metadata.new.out.marks.ok, staged.kept.marks)) staged.kept.links (omega (arith, staged.kept.link_bytes)) staged.kept.touched)

pub link-requires-clause-can : goal.link-requires-clause-can
link-requires-clause-can c =
    let x = c.args.index.now in
    let d = metadata_of c.args.new.now in
    let i : MetaItem = c.item-item.result in
    let staged = c.stage_metadata.ensures in
    let released = c.release_metadata.ensures in
    rw (
      staged.used,
      ap (map span_of) released.freed ∙ (released.held ∙ sym (left_sorted (To (Some i)) x)),
      released.dead,
      (staged.marks c.stage_metadata.new.region).links_are,
    ) (metadata_links x c.args.space.now (To (Some i)) (edited d) c.stage_metadata.new.region c.stage_metadata.new.out.writes.items c.requires.of_index
    (item_there d c.args.span i c.item-item.ensures.item, placed_there x c.args.space.now d c.args.span i c.item-item.ensures.item c.item-item.ensures.walked c.requires.fits, staged.staged))

pub returns : goal.returns
returns c =
    let x = c.args.index.now in
    let d = metadata_of c.args.new.now in
    let i : MetaItem = c.item-item.result in
    let staged = c.stage_metadata.ensures in
    let released = c.release_metadata.ensures in
    let other = c.link.ensures.others in
    let freed = ap (map span_of) released.freed ∙ (released.held ∙ sym (left_sorted (To (Some i)) x)) in
    let dead = released.dead in
    let becomes : c.link.new.out.change ≡ c.args.out.now.change = ap (λ (p : EditPlan). p.change) other ∙ ap (λ (p : EditPlan). p.change) staged.others in
    let none = c.requires.empty in (
      i,
      record {
        brings = (item_there d c.args.span i c.item-item.ensures.item, placed_there x c.args.space.now d c.args.span i c.item-item.ensures.item c.item-item.ensures.walked c.requires.fits, rw (ap (λ (p : EditPlan). p.writes.items) other) staged.staged);
        change = record {
          directory = ap (λ (v : Change). v.directory) becomes ∙ none.directory;
          acts = ap (λ (v : Change). v.tiles.items) becomes ∙ none.tiles;
          attdir = ap (λ (v : Change). v.attdir) becomes ∙ none.attdir;
          attachments = ap (λ (v : Change). v.attachments.items) becomes ∙ none.attachments;
          metadata = refl;
        };
        used = ap (λ (p : EditPlan). map span_of p.used.items) other ∙ staged.used;
        length = ap (λ (p : EditPlan). p.length) other ∙ (staged.end ∙ ap (λ n. max n (i.span.at + i.span.len)) c.requires.length);
        held = ap (λ (p : EditPlan). map span_of p.held.items) other ∙ released.held;
        freed = ap (λ (p : EditPlan). map span_of p.freed.items) other ∙ freed;
        dead = c.release_metadata.new.dead.items;
        is_dead = dead;
        links = rw (ap (λ (p : EditPlan). map span_of p.used.items) other, ap (λ (p : EditPlan). map span_of p.freed.items) other)
            (subst (λ (l : List Bytes). AreInOrder l (map span_of c.stage_metadata.new.out.used.items) (map span_of c.release_metadata.new.freed.items) (map span_of c.release_metadata.new.dead.items) c.args.space.now.extents c.link.new.out.links.links) (staged.marks c.stage_metadata.new.region).links_are c.link.ensures.linked);
      },
    )
