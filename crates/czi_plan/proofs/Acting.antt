-- The plan of an act is brief, and so is that of a setting of the metadata.
use Rattle.std.proofs.Common.{◌≤◌, length, length-append, Option, Some, None, ap, arith}
use Rattle.std.proofs.lemmas.List.{length-map}
use Rattle.czi_format.specs.Document.{Attachment, Metadata, Subblock}
use Rattle.czi_image.specs.declared.change.Act.{Act as CodeAct}
use Rattle.czi_image.specs.declared.change.DirectoryChange.{DirectoryChange}
use Rattle.czi_image.specs.declared.change.DirectoryChange.TheVariants.{Kept, New, Patched}
use Rattle.czi_image.specs.declared.change.Setting.{Setting as CodeSetting}
use Rattle.czi_image.specs.declared.index.Index.{Index}
use Rattle.czi_image.specs.declared.types.AttItem.{AttItem}
use Rattle.czi_image.specs.declared.types.DirItem.{DirItem}
use Rattle.czi_image.specs.declared.types.MetaItem.{MetaItem}
use Rattle.czi_image.specs.declared.types.Tile.{Tile}
use Rattle.czi_image.specs.Change.{setting_of}
use Rattle.czi_machine.specs.Change.{Change, set_omitted}
use Rattle.czi_machine.specs.Places.{can_be_used}
use Rattle.czi_num.specs.Span.{span_of}
use Rattle.czi_region.specs.declared.block.Region.{Region}
use Rattle.czi_space.specs.State.{MapState}
use Rattle.czi_plan.specs.Changing.{Origin, Stages, all_left, items_left, tiles_leaving, used_in}
use Rattle.czi_plan.specs.Conditions.{IsMapOf}
use Rattle.czi_plan.specs.Kind.{Kind, of_attachments, of_subblocks}
use Rattle.czi_plan.specs.Plan.{IsBrief, left_directory, usable_of}
use Rattle.czi_plan.specs.Setting.{StagesMetadata, metadata_left}
use Rattle.czi_plan.specs.declared.plan.EditPlan.{EditPlan}
use Rattle.czi_plan.proofs.Brief.{length-sorted, spans_both}
use Rattle.czi_plan.proofs.Changed.{changes_of}
use Rattle.czi_plan.proofs.KindLaws.{Laws, att_laws, tile_laws}
use Rattle.czi_plan.proofs.Parts.{few_leaving, few_used, used_by}
use Rattle.czi_plan.proofs.Setting.{few_used as few_set, left_few}

one_by : (d : DirectoryChange) → length (used_by d) ≤ 1
one_by Kept = omega arith
one_by Patched = omega arith
one_by (New e) = omega arith

one_left : (d : DirectoryChange) (old : Option DirItem) → length (left_directory d old) ≤ 1
one_left Kept old = omega arith
one_left Patched old = omega arith
one_left (New e) None = omega arith
one_left (New e) (Some o) = omega arith

-- the spans of an act, and what it does with each list
brief_of : {C E S : Type 0} {k : Kind C E S} (L : Laws k) (x : Index) (m : MapState) (a : CodeAct C) (o : Origin (Change S)) (region : Region) (d : DirectoryChange) (new : EditPlan) → IsMapOf x m → Stages k x m a o region d new
    → length new.change.tiles.items ≤ 1 → length new.change.attachments.items ≤ 1 → IsBrief new
brief_of {k = k} L x m a o region d new is st one one' = record {
  used = omega (arith, length-map new.used.items span_of, ap length (changes_of L x m a o region d new is st).used, length-append (used_in k a o) (used_by d), few_used L a o, one_by d);
  freed = omega (
    arith,
    length-map new.freed.items span_of,
    ap length st.freed,
    length-sorted (usable_of (all_left k a d x)),
    spans_both can_be_used (all_left k a d x),
    length-append (items_left k a x) (left_directory d (k.directory x)),
    length-map (tiles_leaving a (k.items x)) k.place,
    few_leaving a (k.items x),
    one_left d (k.directory x),
  );
  tiles = one;
  attachments = one';
}

pub brief_tiles : (x : Index) (m : MapState) (a : CodeAct Tile) (o : Origin (Change Subblock)) (region : Region) (d : DirectoryChange) (new : EditPlan) → IsMapOf x m → Stages of_subblocks x m a o region d new → IsBrief new
brief_tiles x m a o region d new is st = brief_of tile_laws x m a o region d new is st (omega (arith, ap length st.change.tiles)) (omega (arith, ap length st.change.attachments))

pub brief_attachments : (x : Index) (m : MapState) (a : CodeAct AttItem) (o : Origin (Change Attachment)) (region : Region) (d : DirectoryChange) (new : EditPlan) → IsMapOf x m → Stages of_attachments x m a o region d new → IsBrief new
brief_attachments x m a o region d new is st = brief_of att_laws x m a o region d new is st (omega (arith, ap length st.change.tiles)) (omega (arith, ap length st.change.attachments))

pub brief_metadata : (x : Index) (m : MapState) (z : CodeSetting MetaItem) (o : Origin Metadata) (region : Region) (new : EditPlan) → StagesMetadata x m z o region new → IsBrief new
brief_metadata x m z o region new st = record {
  used = omega (arith, length-map new.used.items span_of, ap length st.used, few_set z o);
  freed = omega (arith, length-map new.freed.items span_of, ap length st.freed, length-sorted (usable_of (metadata_left z x)), spans_both can_be_used (metadata_left z x), left_few (set_omitted (setting_of z) x.metadata));
  tiles = omega (arith, ap length st.change.acts);
  attachments = omega (arith, ap length st.change.attachments);
}
