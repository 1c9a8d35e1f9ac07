-- The memory of a plan, and how a plan begins.
use Rattle.std.proofs.Common.{◌≡◌, ℕ, ◌+◌, ◌*◌, ◌≤◌, [], ◌∷◌, Some, None, length, map, ap, ◌∙◌, arith}
use Rattle.std.specs.Prelude.{sum_by}
use Rattle.std.specs.List.{AllByRecursion}
use Rattle.std.proofs.lemmas.List.Sums.{sum_by-cons}
use Rattle.czi_format.specs.Document.{Metadata}
use Rattle.czi_format.specs.Segment.{header_bytes, metadata_id}
use Rattle.czi_format.specs.Span.{span_le, sorted}
use Rattle.czi_image.specs.Change.{setting_of}
use Rattle.czi_image.specs.View.{meta_item_of}
use Rattle.czi_image.specs.declared.change.Setting.{Setting as CodeSetting}
use Rattle.czi_image.specs.declared.change.Setting.TheVariants.{Same, To}
use Rattle.czi_image.specs.declared.index.Index.{Index}
use Rattle.czi_image.specs.declared.types.MetaItem.{MetaItem}
use Rattle.czi_links.specs.Record.{Bytes}
use Rattle.czi_machine.specs.Change.{set_omitted}
use Rattle.czi_machine.specs.Places.{can_be_used}
use Rattle.czi_machine.proofs.NewSegment.{header_length}
use Rattle.czi_plan.specs.Changing.{Origin}
use Rattle.czi_plan.specs.Marks.{head_mark, pointer_mark}
use Rattle.czi_plan.specs.Plan.{dead_of, usable_of}
use Rattle.czi_plan.specs.Setting.{metadata_brought, metadata_left, metadata_marks, metadata_used}
use Rattle.czi_plan.proofs.Brief.{length-sorted, spans_both}
use Rattle.czi_plan.proofs.Linking.{FewLinks}
use Rattle.czi_plan.proofs.Setting.{few_used, left_few, length-metadata}
use Rattle.czi_image.specs.declared.change.DirectoryChange.{DirectoryChange}
use Rattle.czi_num.specs.Span.{span_of}
use Rattle.czi_space.specs.State.{MapState}
use Rattle.czi_plan.specs.Changing.{Starts}
use Rattle.czi_plan.specs.Conditions.{IsEmpty}
use Rattle.czi_plan.specs.Kind.{of_attachments, of_subblocks}
use Rattle.czi_plan.specs.Need.{HasMemory, HasSpare, PlansSame, links_for, need_of_lists}
use Rattle.czi_plan.specs.declared.plan.EditPlan.{EditPlan}

pub memory_of : (edits directories region writes : ℕ) (p : EditPlan) → HasSpare (need_of_lists edits directories region writes) p → HasMemory (links_for edits directories) (32 * links_for edits directories + 65536 * directories) (edits + directories) p
memory_of edits directories region writes p h = record {
  links = h.links;
  link_bytes = h.link_bytes;
  used = omega (arith, h.used);
  freed = omega (arith, h.freed);
  held = omega (arith, h.held);
  tiles = omega (arith, h.tiles);
  attachments = omega (arith, h.attachments);
  marks = omega (arith, h.marks);
  dead = omega (arith, h.dead);
  touched = h.touched;
}

-- a plan in which nothing is planned but a directory, with more memory
pub begins_tiles : (m : MapState) (p q : EditPlan) (n : ℕ) (d : DirectoryChange) → IsEmpty p → n ≡ m.length → PlansSame (record p { length = n; change = record p.change { directory = d } }) q → Starts of_subblocks m [] q
begins_tiles m p q n d none long same = record {
  tiles = same.tiles ∙ none.change.tiles;
  attachments = same.attachments ∙ none.change.attachments;
  metadata = same.metadata ∙ none.change.metadata;
  other = same.attdir ∙ none.change.attdir;
  links = same.links ∙ none.links;
  freed = same.freed ∙ none.freed;
  held = same.held ∙ none.held;
  dead = same.dead ∙ none.dead;
  used = ap (map span_of) (same.used ∙ none.used);
  length = same.length ∙ long;
}

pub begins_attachments : (m : MapState) (p q : EditPlan) (n : ℕ) (d : DirectoryChange) → IsEmpty p → n ≡ m.length → PlansSame (record p { length = n; change = record p.change { attdir = d } }) q → Starts of_attachments m [] q
begins_attachments m p q n d none long same = record {
  tiles = same.tiles ∙ none.change.tiles;
  attachments = same.attachments ∙ none.change.attachments;
  metadata = same.metadata ∙ none.change.metadata;
  other = same.directory ∙ none.change.directory;
  links = same.links ∙ none.links;
  freed = same.freed ∙ none.freed;
  held = same.held ∙ none.held;
  dead = same.dead ∙ none.dead;
  used = ap (map span_of) (same.used ∙ none.used);
  length = same.length ∙ long;
}

-- the links of a setting of the metadata are few
pub metadata_few : (z : CodeSetting MetaItem) (o : Origin Metadata) (x : Index) → AllByRecursion (λ (i : MetaItem). (meta_item_of i).segment.id ≡ metadata_id) (metadata_brought z)
    → FewLinks 2 40 3 (metadata_marks z) (metadata_used z o) (sorted span_le (usable_of (metadata_left z x))) (dead_of (metadata_left z x))
metadata_few z o x named = record {
  few = few z;
  short = short z named;
  headers = omega (arith, few_used z o, length-sorted (usable_of (metadata_left z x)), spans_both can_be_used (metadata_left z x), left_few (set_omitted (setting_of z) x.metadata));
}
  where
    few : (z : CodeSetting MetaItem) → length (metadata_marks z) ≤ 2
    few Same = omega arith
    few (To None) = omega arith
    few (To (Some i)) = omega arith

    short : (z : CodeSetting MetaItem) → AllByRecursion (λ (i : MetaItem). (meta_item_of i).segment.id ≡ metadata_id) (metadata_brought z) → sum_by (λ (b : Bytes). length b.bytes) (metadata_marks z) ≤ 40
    short Same named = omega arith
    short (To None) named = omega (arith, sum_by-cons (λ (b : Bytes). length b.bytes) (pointer_mark 92 0) [])
    short (To (Some i)) named =
        let head' : length (header_bytes (meta_item_of i).segment) ≡ 32 = header_length (meta_item_of i).segment (ap (length {A = ℕ}) named.0 ∙ length-metadata) in
        let two : Bytes = head_mark (meta_item_of i).segment in
        omega (arith, sum_by-cons (λ (b : Bytes). length b.bytes) (pointer_mark 92 i.span.at) (two ∷ []), sum_by-cons (λ (b : Bytes). length b.bytes) two [], head')
