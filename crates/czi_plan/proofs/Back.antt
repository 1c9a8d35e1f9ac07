-- How the plan of an inverse begins, and that there is room for it.
use Rattle.std.proofs.Common.{◌≡◌, ℕ, ◌+◌, ◌≤◌, List, [], ◌∷◌, map, refl, ap, sym, subst, ◌∙◌, arith, inl, inr}
use Rattle.std.specs.List.{AllByRecursion}
use Rattle.std.specs.Prelude.{Vec}
use Rattle.std.specs.Global.{Global as TheGlobal}
use Rattle.std.proofs.lemmas.Bool.{cases_Bool}
use Rattle.czi_format.specs.Space.{Space, use_all, use_span}
use Rattle.czi_format.specs.Span.{Span, end_of}
use Rattle.czi_image.specs.Spans.{directory_span}
use Rattle.czi_image.specs.declared.change.Act.{Act as CodeAct}
use Rattle.czi_image.specs.declared.change.DirectoryChange.{DirectoryChange}
use Rattle.czi_image.specs.declared.change.DirectoryChange.TheVariants.{Kept, New, Patched}
use Rattle.czi_image.specs.declared.index.Index.{Index}
use Rattle.czi_image.specs.declared.types.AttItem.{AttItem}
use Rattle.czi_image.specs.declared.types.Tile.{Tile}
use Rattle.czi_machine.proofs.Tiled.{All-weaken}
use Rattle.czi_plan.specs.Need.{HasActMemory}
use Rattle.czi_machine.specs.Places.{can_be_used}
use Rattle.czi_num.specs.Span.{span_of}
use Rattle.czi_region.specs.declared.block.Region.{Region}
use Rattle.czi_space.specs.State.{MapState, space_of}
use Rattle.czi_plan.specs.Changing.{Begins, IsBack, middle_entries, back_entries, front_entries, range_after, returned, size_after, tiles_brought, used_in}
use Rattle.czi_plan.specs.Conditions.{IsEmpty, IsMapOf}
use Rattle.czi_plan.specs.Directory.{need_of}
use Rattle.czi_plan.specs.Kind.{IsOfKind, Kind, of_attachments, of_subblocks}
use Rattle.czi_plan.specs.Listing.{AreSizes, HasRoomFor, IsPlace}
use Rattle.czi_plan.specs.Need.{directory_room}
use Rattle.czi_plan.specs.Plan.{usable_of}
use Rattle.czi_plan.specs.declared.plan.EditPlan.{EditPlan}
use Rattle.czi_plan.specs.declared.plan.Records.{Records}
use Rattle.czi_plan.specs.declared.tiles.Sizes.{Sizes}
use Rattle.czi_plan.proofs.Entries.{size_in_part, sizes_total}
use Rattle.czi_plan.proofs.Parts.{fit_place}

-- the length stays where what is used ends at or below it
used_length : (spans : List Span) (space : Space) → AllByRecursion (λ (s : Span). end_of s ≤ space.length) spans → (use_all space spans).length ≡ space.length
used_length [] space all = refl
used_length (s ∷ spans) space all =
    let same : (use_span space s).length ≡ space.length = omega (arith, all.0) in
    used_length spans (use_span space s) (subst (λ n. AllByRecursion (λ (t : Span). end_of t ≤ n) spans) (sym same) all.1) ∙ same

-- what comes back ends at or below it
back_ends : {C E S : Type 0} (k : Kind C E S) (x : Index) (m : MapState) (ts : List C) → IsMapOf x m → AllByRecursion (IsBack k x m) ts → AllByRecursion (λ (s : Span). end_of s ≤ m.length) (usable_of (map k.place ts))
back_ends k x m [] is all = tt
back_ends k x m (t ∷ ts) is all = elim (cases_Bool (can_be_used (k.place t))) [
  | inl e ↦ rw e (omega (arith, all.0.1.inside, is.length), back_ends k x m ts is all.1)
  | inr e ↦ rw e (back_ends k x m ts is all.1)
]

pub length_back : {C E S : Type 0} (k : Kind C E S) (x : Index) (m : MapState) (a : CodeAct C) → IsMapOf x m → AllByRecursion (IsBack k x m) (tiles_brought a) → (use_all (space_of m) (used_in k a returned)).length ≡ m.length
length_back k x m a is all = used_length (used_in k a returned) (space_of m) (back_ends k x m (tiles_brought a) is all)

-- an act begins that brings back
pub tiles_back : (x : Index) (m : MapState) (region : Region) (a : CodeAct Tile) (p q : EditPlan) (n : ℕ) (d : DirectoryChange) (dims : Vec Records TheGlobal) → IsMapOf x m → IsEmpty p → n ≡ m.length → q ≡ record p { length = n; change = record p.change { directory = d }; dimensions = dims; used = q.used; marks = q.marks }
    → map span_of q.used.items ≡ used_in of_subblocks a returned → AllByRecursion (IsBack of_subblocks x m) (tiles_brought a) → IsPlace x x.directory (size_after of_subblocks a x) (range_after of_subblocks a x) (space_of m) d → Begins of_subblocks x m region a returned d q
tiles_back x m region a p q n d dims is none long others used back place = record {
  brings = (back, ap (λ (z : EditPlan). z.writes.items) others ∙ none.writes);
  starts = record {
    tiles = ap (λ (z : EditPlan). z.change.tiles.items) others ∙ none.change.tiles;
    attachments = ap (λ (z : EditPlan). z.change.attachments.items) others ∙ none.change.attachments;
    metadata = ap (λ (z : EditPlan). z.change.metadata) others ∙ none.change.metadata;
    other = ap (λ (z : EditPlan). z.change.attdir) others ∙ none.change.attdir;
    links = ap (λ (z : EditPlan). z.links.links) others ∙ none.links;
    freed = ap (λ (z : EditPlan). z.freed.items) others ∙ none.freed;
    held = ap (λ (z : EditPlan). z.held.items) others ∙ none.held;
    dead = ap (λ (z : EditPlan). z.dead.items) others ∙ none.dead;
    used = used;
    length = ap (λ (z : EditPlan). z.length) others ∙ (long ∙ sym (length_back of_subblocks x m a is back));
  };
  place = place;
}

pub attachments_back : (x : Index) (m : MapState) (region : Region) (a : CodeAct AttItem) (p q : EditPlan) (n : ℕ) (d : DirectoryChange) → IsMapOf x m → IsEmpty p → n ≡ m.length → q ≡ record p { length = n; change = record p.change { attdir = d }; used = q.used; marks = q.marks }
    → map span_of q.used.items ≡ used_in of_attachments a returned → AllByRecursion (IsBack of_attachments x m) (tiles_brought a) → IsPlace x x.attdir (size_after of_attachments a x) (range_after of_attachments a x) (space_of m) d → Begins of_attachments x m region a returned d q
attachments_back x m region a p q n d is none long others used back place = record {
  brings = (back, ap (λ (z : EditPlan). z.writes.items) others ∙ none.writes);
  starts = record {
    tiles = ap (λ (z : EditPlan). z.change.tiles.items) others ∙ none.change.tiles;
    attachments = ap (λ (z : EditPlan). z.change.attachments.items) others ∙ none.change.attachments;
    metadata = ap (λ (z : EditPlan). z.change.metadata) others ∙ none.change.metadata;
    other = ap (λ (z : EditPlan). z.change.directory) others ∙ none.change.directory;
    links = ap (λ (z : EditPlan). z.links.links) others ∙ none.links;
    freed = ap (λ (z : EditPlan). z.freed.items) others ∙ none.freed;
    held = ap (λ (z : EditPlan). z.held.items) others ∙ none.held;
    dead = ap (λ (z : EditPlan). z.dead.items) others ∙ none.dead;
    used = used;
    length = ap (λ (z : EditPlan). z.length) others ∙ (long ∙ sym (length_back of_attachments x m a is back));
  };
  place = place;
}

-- the place of a directory in the words of an act
pub place_as : {C E S : Type 0} (k : Kind C E S) (x : Index) (m : MapState) (a : CodeAct C) (sizes : Sizes) (n : ℕ) (d : DirectoryChange) → AreSizes k sizes (front_entries k a (k.items x)) (middle_entries k a (k.items x)) (back_entries k a (k.items x)) → n ≡ sizes.front + sizes.middle + sizes.back
    → IsPlace x (k.directory x) n sizes.middle (space_of m) d → IsPlace x (k.directory x) (size_after k a x) (range_after k a x) (space_of m) d
place_as k x m a sizes n d are is place =
    subst (λ z. IsPlace x (k.directory x) z (range_after k a x) (space_of m) d) (is ∙ sizes_total k sizes _ _ _ are) (subst (λ z. IsPlace x (k.directory x) n z (space_of m) d) are.middle_is place)

-- the room that was made suffices for the range that is written in place, and for a new directory
pub room_for : {C E S : Type 0} (k : Kind C E S) (x : Index) (a : CodeAct C) (space : Space) (d : DirectoryChange) (room : ℕ) → IsPlace x (k.directory x) (size_after k a x) (range_after k a x) space d → directory_room (size_after k a x) ≤ room → HasRoomFor d (range_after k a x) room
room_for k x a space Kept room place enough = tt
room_for k x a space Patched room place enough = omega (arith, size_in_part k (front_entries k a (k.items x)) (middle_entries k a (k.items x)) (back_entries k a (k.items x)), enough)
room_for k x a space (New d) room place enough = omega (arith, (fit_place space (need_of (size_after k a x)) (record { span = directory_span d; space = use_span space (directory_span d) }) place.1).1, enough)

-- its header is one of its kind
pub kinds_back : {C E S : Type 0} (k : Kind C E S) (x : Index) (m : MapState) (ts : List C) → AllByRecursion (IsBack k x m) ts → AllByRecursion (λ (t : C). IsOfKind k.item_id (k.segment t)) ts
kinds_back k x m ts all = All-weaken (IsBack k x m) (λ t. IsOfKind k.item_id (k.segment t)) (λ t b. b.0) ts all

-- memory for the lists doesn't hang on the length, on what becomes of a directory, or on memory for dimensions
pub memory_tiles : (p : EditPlan) (n : ℕ) (d : DirectoryChange) (dims : Vec Records TheGlobal) → HasActMemory p → HasActMemory (record p { length = n; change = record p.change { directory = d }; dimensions = dims })
memory_tiles p n d dims h = record { links = h.links; link_bytes = h.link_bytes; used = h.used; freed = h.freed; held = h.held; tiles = h.tiles; attachments = h.attachments; marks = h.marks; dead = h.dead; touched = h.touched }

pub memory_attachments : (p : EditPlan) (n : ℕ) (d : DirectoryChange) → HasActMemory p → HasActMemory (record p { length = n; change = record p.change { attdir = d } })
memory_attachments p n d h = record { links = h.links; link_bytes = h.link_bytes; used = h.used; freed = h.freed; held = h.held; tiles = h.tiles; attachments = h.attachments; marks = h.marks; dead = h.dead; touched = h.touched }
