-- The plan of an undo of the subblocks or of the attachments: it is what the machine asks for, and there is none where a new directory has no place.
use Rattle.std.proofs.Common.{◌≡◌, ℕ, zero, suc, [], ◌∷◌, true, false, Option, Some, None, option_map, option_to_list, Ok, Err, refl, ap, sym, ◌∙◌, subst, ◌+◌, ◌<◌, ◌≤◌, List, ◌++◌, map, length, sum, arith, filter, ◌==◌, if◌then◌else◌, Bool, pos, inl, inr}
use Rattle.std.specs.List.{AllByRecursion, flat_map, list_any}
use Rattle.std.specs.Prelude.{IsFalse}
use Rattle.std.proofs.lemmas.Bool.{cases_Bool}
use Rattle.std.proofs.lemmas.List.{length-map}
use Rattle.czi_doc.specs.declared.items.AttInfo.{AttInfo as CodeAttInfo}
use Rattle.czi_doc.specs.declared.items.EntryInfo.{EntryInfo as CodeEntryInfo}
use Rattle.czi_format.specs.Document.{Attachment, Document, Subblock}
use Rattle.czi_format.specs.Layout.{Layout, Place}
use Rattle.czi_format.specs.Live.{AttItem as FormatAttItem, Directory, Live, MetaItem as FormatMetaItem, Tile as FormatTile, att_item, attachment_of, subblock_of, tile}
use Rattle.czi_format.specs.Segment.{Segment, attachment_id, data_of, extent, header_bytes, subblock_id}
use Rattle.czi_format.specs.Space.{deleted_after, fit, left_of, same_span, with_all_freed, without}
use Rattle.czi_format.specs.Span.{Span, sorted, span_le}
use Rattle.czi_format.specs.FirstFault.{◌>>=◌}
use Rattle.czi_image.specs.Applied.{layout_after, place_after}
use Rattle.czi_image.specs.Change.{AreWithin, a1s_after, act_of, acts_of, attdir_in, directory_in, directory_set, entries_after, live_change_of, setting_of}
use Rattle.czi_image.specs.Holds.{LiesAs, att_item_place, directory_place, meta_item_place, tile_place}
use Rattle.czi_image.specs.Spans.{directory_span}
use Rattle.czi_image.specs.View.{att_item_of, meta_item_of, tile_of}
use Rattle.czi_image.specs.declared.change.Act.{Act as CodeAct}
use Rattle.czi_image.specs.declared.change.Act.TheVariants.{Into, Out, Put}
use Rattle.czi_image.specs.declared.change.Change.{Change as CodeChange}
use Rattle.czi_image.specs.declared.change.DirectoryChange.{DirectoryChange}
use Rattle.czi_image.specs.declared.change.DirectoryChange.TheVariants.{Kept, New, Patched}
use Rattle.czi_image.specs.declared.change.Setting.{Setting as CodeSetting}
use Rattle.czi_image.specs.declared.change.Setting.TheVariants.{Same, To}
use Rattle.czi_image.specs.declared.index.Index.{Index}
use Rattle.czi_image.specs.declared.types.AttItem.{AttItem}
use Rattle.czi_image.specs.declared.types.DirItem.{DirItem}
use Rattle.czi_image.specs.declared.types.MetaItem.{MetaItem}
use Rattle.czi_image.specs.declared.types.Tile.{Tile}
use Rattle.czi_machine.specs.Change.{Act, Change, Setting, bring, brought, changed, keep, mapped, mapped_setting, omit, omitted, past, set}
use Rattle.czi_machine.specs.Cover.{cover}
use Rattle.czi_machine.specs.Edit.{DocumentEffect, after}
use Rattle.czi_machine.specs.Fits.{IsAt, SetsAt}
use Rattle.czi_machine.specs.Formers.{BringBack, LiesHeld, Lain, Return, brought_back, present}
use Rattle.czi_machine.specs.LiveChange.{SpansAt, changed_live}
use Rattle.czi_machine.specs.Places.{Asked, Fitted, back, can_be_used, in_place, laid, patched_len, space_of, stays, undo_asks}
use Rattle.czi_machine.specs.Planned.{Brings as Both, FindsAttachment, FindsTile}
use Rattle.czi_machine.specs.Puts.{PutsHeader}
use Rattle.czi_machine.specs.Ranges.{asked_for}
use Rattle.czi_machine.specs.State.{Former, Items, State, item_spans, items_of, spans_of}
use Rattle.czi_machine.specs.Table.{AreApart, AreNew, changes, directory_laid, directory_left}
use Rattle.czi_machine.specs.Written.{Piece, byte_of}
use Rattle.czi_machine.proofs.Clear.{heads_within, map-map}
use Rattle.czi_machine.proofs.Cover.{cover-append}
use Rattle.czi_machine.proofs.Follow.{spans_follow}
use Rattle.czi_machine.proofs.Over.{none_put}
use Rattle.czi_machine.proofs.TableSubblocks.{attachments_undone_row, subblocks_undone_row}
use Rattle.czi_machine.proofs.NewSegment.{header_length}
use Rattle.czi_machine.proofs.Tiled.{All-filter, All-weaken, map-All}
use Rattle.czi_region.specs.declared.block.Region.{Region}
use Rattle.czi_space.specs.State.{MapState, MeetsNone, space_of as space_in}
use Rattle.czi_space.proofs.Taken.{left_apart}
use Rattle.czi_undo.specs.Parts.{LainPart, ListPart, change_of, drops, in_attachments as part_attachments, in_tiles as part_tiles, inserts, puts, return_of}
use Rattle.czi_undo.specs.Stands.{IsAttachment, IsPart, IsTile}
use Rattle.czi_undo.specs.Told.{Single, return_of_single}
use Rattle.czi_undo.specs.declared.held.HeldSegment.{HeldSegment}
use Rattle.czi_undo.specs.declared.inverse.Inverse.{Inverse}
use Rattle.czi_undo.specs.declared.inverse.Part.{Part}
use Rattle.czi_undo.specs.declared.inverse.Part.TheVariants.{DropAtt, DropSub, InsertAtt, InsertSub, NoMeta, PutAtt, PutMeta, PutSub, Same as Unchanged}
use Rattle.czi_plan.specs.Changing.{IsBack, Origin, Stages, all_left, back_entries, beside_in, entries_in, front_entries, items_left, middle_entries, new_marks, new_spans, range_after, returned, size_after, tiles_before, tiles_behind, tiles_brought, tiles_leaving, used_in}
use Rattle.czi_plan.specs.Apart.{BringsApart}
use Rattle.czi_plan.specs.Conditions.{IsMapOf, LiesIn}
use Rattle.czi_plan.specs.Directory.{need_of}
use Rattle.czi_plan.specs.Does.{layout_by}
use Rattle.czi_plan.specs.Kind.{Kind, of_attachments, of_subblocks, span_in}
use Rattle.czi_plan.specs.Listing.{fits_in_place}
use Rattle.czi_plan.specs.Geometry.{IsLong}
use Rattle.czi_plan.specs.Marks.{byte_span, head_mark, is_new}
use Rattle.czi_plan.specs.Pieces.{bytes_in, pieces_of, writes_of}
use Rattle.czi_plan.specs.Plan.{IsPlan, dead_of, extents_after, usable_of}
use Rattle.czi_plan.specs.Placing.{IsFull}
use Rattle.czi_plan.specs.Undoing.{Finds, HasNoUndo, IsAttachmentAct, IsAttachmentBack, IsTileAct, IsTileBack, Undoes, UndoesIn, Undone}
use Rattle.czi_plan.specs.declared.plan.EditPlan.{EditPlan}
use Rattle.czi_plan.specs.declared.plan.PlanFault.{PlanFault}
use Rattle.czi_plan.specs.declared.plan.PlanFault.TheVariants.{Full as Filled, Memory}
use Rattle.czi_plan.proofs.Acts.{act_as, brought_act, brought_as, changed_images, changes_act, lens_before, lens_behind, lens_leaving, mapped_act, omitted_act, range_act, range_as, size_as, sum-three}
use Rattle.czi_plan.proofs.Changed.{Changes, changes_of, freed_by, plan_of}
use Rattle.czi_plan.proofs.Directing.{IsPut, dir_within, directory_in_own, pointer_of}
use Rattle.czi_plan.proofs.Doing.{acts, deleted_there, dir_then, heads_put, items_leave, layout_apart, left_list, length_there, lies_anew, new_walked, pieces, pieces_are, placed_in, plans_of, turned}
use Rattle.czi_plan.proofs.Linking.{all_entries, both_cover, brought_long, cover-fewer, is_32, marks_by, writes_by}
use Rattle.czi_plan.proofs.Order.{at_place}
use Rattle.czi_plan.proofs.KindLaws.{Laws, att_laws, tile_laws}
use Rattle.czi_plan.proofs.Machines.{Machine, att_machine, brought_images, tile_machine}
use Rattle.czi_plan.proofs.Needs.{directory_lies, items_once, left_by, same_test, space_by}
use Rattle.czi_plan.proofs.Apart.{brings_apart, directory_spans_of, written_among}
use Rattle.czi_plan.proofs.Parts.{brought_covers, each_of, few_brought, kept_of, length_after, pointers_of, used_apart, used_by, written_dir}

-- What is live after a change lies where the layout afterwards has it.
both_mapped : {X A B : Type 0} (P : A → B → Type 0) (f : X → A) (g : X → B) → ((x : X) → P (f x) (g x)) → (c : List (Act X)) → Both P (mapped f c) (mapped g c)
both_mapped P f g each [] = tt
both_mapped P f g each (bring x ∷ c) = (each x, both_mapped P f g each c)
both_mapped P f g each (keep ∷ c) = both_mapped P f g each c
both_mapped P f g each (omit ∷ c) = both_mapped P f g each c

span_is : (at len allocated : ℕ) → len ≡ 32 + allocated → (let a : Span = record { at = at; len = len } in a) ≡ record { at = at; len = 32 + allocated }
span_is at len allocated e = λ j. record { at = at; len = e j }

directory_at : (make : Span → Directory) → ((d : DirItem) → extent (make (directory_span d)).segment ≡ directory_span d) → (c : DirectoryChange) (was : Option DirItem) (old : Option Place) → option_map directory_place was ≡ old
    → SetsAt (λ (d : Directory). d.segment) (directory_set make c was) old (place_after c old)
directory_at make own Kept was old is = refl
directory_at make own Patched None old is = refl
directory_at make own Patched (Some d) old is = ap (option_map (λ (p : Place). p.span)) (sym is) ∙ ap (λ (s : Span). let o : Option Span = Some s in o) (sym (own d))
directory_at make own (New d) was old is = ap (λ (s : Span). let o : Option Span = Some s in o) (sym (own d))

metadata_at : (z : CodeSetting MetaItem) (old : Option Place) → SetsAt (λ (m : FormatMetaItem). m.segment) (mapped_setting meta_item_of (setting_of z)) old (set (mapped_setting meta_item_place (setting_of z)) old)
metadata_at Same old = refl
metadata_at (To None) old = refl
metadata_at (To (Some i)) old = ap (λ (s : Span). let o : Option Span = Some s in o) (span_is i.span.at i.span.len i.head.allocated i.extent)

pub spans_after : (c : CodeChange) (deleted : List Span) (n : ℕ) (l : Layout) (live : Live) (x : Index) → LiesAs l x → SpansAt l live → SpansAt (layout_after c deleted n l) (changed_live (live_change_of c x) live)
spans_after c deleted n l live x lies at = spans_follow l (layout_after c deleted n l) live (live_change_of c x) at (record {
  header = refl;
  directory = directory_at (λ s. directory_in s (entries_after c x)) (directory_in_own of_subblocks (entries_after c x)) c.directory x.directory l.directory lies.directory;
  tiles = mapped tile_place (acts_of c.tiles.items);
  tiles_at = both_mapped (IsAt (λ (t : FormatTile). t.segment)) tile_of tile_place (λ t. span_is t.span.at t.span.len t.head.allocated t.extent) (acts_of c.tiles.items);
  subblocks = refl;
  attdir = directory_at (λ s. attdir_in s (a1s_after c x)) (directory_in_own of_attachments (a1s_after c x)) c.attdir x.attdir l.attdir lies.attdir;
  atts = mapped att_item_place (acts_of c.attachments.items);
  atts_at = both_mapped (IsAt (λ (i : FormatAttItem). i.segment)) att_item_of att_item_place (λ i. span_is i.span.at i.span.len i.head.allocated i.extent) (acts_of c.attachments.items);
  attachments = refl;
  metadata = metadata_at c.metadata l.metadata;
})

-- What comes back and can't be used again is in no extent, and so takes nothing of them.
none_met : (s : Span) (es : List Span) → MeetsNone s es → flat_map (left_of s) es ≡ es
none_met s [] none = refl
none_met s (e ∷ es) none = λ j. left_apart s e none.0 j ++ none_met s es none.1 j

pub without_dead : (p : Place) (rest es : List Span) → (can_be_used p ≡ false → MeetsNone p.span es) → without (p.span ∷ rest) es ≡ without (usable_of (p ∷ []) ++ rest) es
without_dead p rest es none = elim (cases_Bool (can_be_used p)) [ inl e ↦ rw e refl | inr e ↦ rw e (ap (without rest) (none_met p.span es (none e))) ]

-- A list after an inverse is that after the act of the code.
abbrev pub Follows : {Y C Z : Type 0} → (Y → Z) → (C → Z) → CodeAct C → ListPart Y → Type 0
Follows f g (Out i) (drops j) = i ≡ j
Follows f g (Out i) (puts j y) = ⊥
Follows f g (Out i) (inserts j y) = ⊥
Follows f g (Put i t) (drops j) = ⊥
Follows f g (Put i t) (puts j y) = (i ≡ j) × (f y ≡ g t)
Follows f g (Put i t) (inserts j y) = ⊥
Follows f g (Into i t) (drops j) = ⊥
Follows f g (Into i t) (puts j y) = ⊥
Follows f g (Into i t) (inserts j y) = (i ≡ j) × (f y ≡ g t)

pub mapped_past : {X Y : Type 0} (f : X → Y) (i : ℕ) (c : List (Act X)) → mapped f (past i c) ≡ past i (mapped f c)
mapped_past f zero c = refl
mapped_past f (suc i) c = ap (λ l. keep ∷ l) (mapped_past f i c)

pub put_same : {Z : Type 0} (i : ℕ) (z : Z) (zs : List Z) → changed (past i (bring z ∷ omit ∷ [])) zs ≡ changed (past i (omit ∷ bring z ∷ [])) zs
put_same zero z [] = refl
put_same zero z (y ∷ zs) = refl
put_same (suc i) z [] = put_same i z []
put_same (suc i) z (y ∷ zs) = ap (λ l. y ∷ l) (put_same i z zs)

pub turn_same : {Y C Z : Type 0} (f : Y → Z) (g : C → Z) (a : CodeAct C) (p : ListPart Y) (zs : List Z) → Follows f g a p → changed (mapped f (change_of p)) zs ≡ changed (mapped g (act_of a)) zs
turn_same f g (Out i) (drops j) zs e = ap (λ c. changed c zs) (mapped_past f j (omit ∷ [])) ∙ ((λ k. changed (past (sym e k) (omit ∷ [])) zs) ∙ ap (λ c. changed c zs) (sym (mapped_past g i (omit ∷ []))))
turn_same f g (Out i) (puts j y) zs e = absurd e
turn_same f g (Out i) (inserts j y) zs e = absurd e
turn_same f g (Put i t) (drops j) zs e = absurd e
turn_same f g (Put i t) (puts j y) zs e =
    ap (λ c. changed c zs) (mapped_past f j (bring y ∷ omit ∷ [])) ∙ (put_same j (f y) zs ∙ ((λ k. changed (past (sym e.0 k) (omit ∷ bring (e.1 k) ∷ [])) zs) ∙ ap (λ c. changed c zs) (sym (mapped_past g i (omit ∷ bring t ∷ [])))))
turn_same f g (Put i t) (inserts j y) zs e = absurd e
turn_same f g (Into i t) (drops j) zs e = absurd e
turn_same f g (Into i t) (puts j y) zs e = absurd e
turn_same f g (Into i t) (inserts j y) zs e = ap (λ c. changed c zs) (mapped_past f j (bring y ∷ [])) ∙ ((λ k. changed (past (sym e.0 k) (bring (e.1 k) ∷ [])) zs) ∙ ap (λ c. changed c zs) (sym (mapped_past g i (bring t ∷ []))))

-- the items of an inverse
abbrev pub part_items : {Y : Type 0} → ListPart Y → List Y
part_items (drops i) = []
part_items (puts i y) = y ∷ []
part_items (inserts i y) = y ∷ []

brought_past : {X : Type 0} (i : ℕ) (c : List (Act X)) → brought (past i c) ≡ brought c
brought_past zero c = refl
brought_past (suc i) c = brought_past i c

pub brought_part : {Y : Type 0} (p : ListPart Y) → brought (change_of p) ≡ part_items p
brought_part (drops i) = brought_past i (omit ∷ [])
brought_part (puts i y) = brought_past i (bring y ∷ omit ∷ [])
brought_part (inserts i y) = brought_past i (bring y ∷ [])

mapped-mapped : {X Y Z : Type 0} (f : X → Y) (g : Y → Z) (c : List (Act X)) → mapped g (mapped f c) ≡ mapped (λ x. g (f x)) c
mapped-mapped f g [] = refl
mapped-mapped f g (bring x ∷ c) = ap (λ l. bring (g (f x)) ∷ l) (mapped-mapped f g c)
mapped-mapped f g (keep ∷ c) = ap (λ l. keep ∷ l) (mapped-mapped f g c)
mapped-mapped f g (omit ∷ c) = ap (λ l. omit ∷ l) (mapped-mapped f g c)

-- where an item lay, and what is live of it
abbrev pub lain_in : {T : Type 0} → (T → Segment) → Lain T → Place
lain_in segment y = record { span = extent (segment y.item); walked = y.walked }

-- What of a list of the machine comes back.
pub record Returning {C E S T : Type 0} {k : Kind C E S} {effect : Change S → DocumentEffect} (M : Machine T k effect) : Type 1 where
  -- the contents of an item in an image
  pub content : List ℕ → T → S
  pub long : (image : List ℕ) (t : C) → k.len_of (content image (M.live t)) ≡ k.len (k.entry t)
  pub contents_after : (c : Change S) (d : Document) → M.contents (after (effect c) d) ≡ changed c (M.contents d)
  pub after_same : (c c' : Change S) (d : Document) → changed c (M.contents d) ≡ changed c' (M.contents d) → after (effect c) d ≡ after (effect c') d
  -- what is said of the items of an inverse, and the former document
  pub part : ListPart (Lain T) → LainPart
  pub IsLain : List ℕ → Items → T → Type 0
  pub lain : (image : List ℕ) (items : Items) (n : ℕ) (p : ListPart (Lain T)) → LiesHeld image items (return_of n (part p)) → AllByRecursion (λ (y : Lain T). IsLain image items y.item) (brought (change_of p))
  pub is_new : (image : List ℕ) (items : Items) (t : T) → IsLain image items t → IsFalse (list_any (same_span (extent (M.segment t))) (item_spans items))
  pub with_list : Layout → List Place → Items
  pub former : (image : List ℕ) (n : ℕ) (p : ListPart (Lain T)) (s : State)
      → brought_back image (return_of n (part p)) (present s) ≡ record { document = after (effect (mapped (λ (y : Lain T). content image y.item) (change_of p))) s.document; items = with_list s.layout (changed (mapped (lain_in M.segment) (change_of p)) (M.places s.layout)); edits = n }
  -- the layout after an undo
  pub row : (s : State) (d : Document) (n : ℕ) (c : Change Place) → AreApart s.layout → changes c (length (M.places s.layout)) ≡ true → AreNew s.layout (brought c)
      → laid s (undo_asks s (record { document = d; items = with_list s.layout (changed c (M.places s.layout)); edits = n }))
      ≡ (let stays : Bool = in_place (M.dir_place s.layout) k.head (M.places s.layout) (asked_for back c (M.places s.layout)) (map k.len_of (M.contents s.document)) (map k.len_of (M.contents d)) in
      directory_laid s.layout (space_of s) (M.dir_place s.layout) stays (need_of (k.head + sum (map k.len_of (M.contents d)))) >>= λ dir.
      Ok (M.set_list s.layout dir.places (changed c (M.places s.layout)) dir.space.length (deleted_after (spans_of (brought c) ++ dir.used) (spans_of (filter can_be_used (omitted c (M.places s.layout) ++ directory_left stays (M.dir_place s.layout)))) s.layout.deleted)))
  -- an item whose contents are found
  pub IsFound : List ℕ → List Piece → T → S → Type 0
  pub find : (image : List ℕ) (items : Items) (pieces : List Piece) (t : C) → IsLain image items (M.live t) → (M.segment (M.live t)).at + 32 + (M.segment (M.live t)).allocated ≤ length image → PutsHeader pieces (M.segment (M.live t))
      → IsFound image pieces (M.live t) (content image (M.live t))
  pub found_comes : (image : List ℕ) (pieces : List Piece) (t : T) (s : S) → IsFound image pieces t s → M.Brought image pieces t s
  pub finds : (image : List ℕ) (pieces : List Piece) (o : Setting Directory) (acts : List (Act T)) (c : Change S) → Both (IsFound image pieces) acts c → Finds image (M.set_turn o acts) (effect c) pieces
  -- its directory is one of an index
  pub own_directory : (x : Index) (q : ℕ) → cover (option_to_list (option_map directory_span (k.directory x))) q ≤ cover (directory_spans_of x) q

-- An act with images of its items.
within_as : {X Y : Type 0} (f : X → Y) (a : CodeAct X) (n : ℕ) → AreWithin (a ∷ []) n → AreWithin (act_as f a ∷ []) n
within_as f (Out i) n w = w
within_as f (Put i x) n w = w
within_as f (Into i x) n w = w

before_as : {X Y Z : Type 0} (f : X → Y) (a : CodeAct X) (zs : List Z) → (tiles_before (act_as f a) zs ≡ tiles_before a zs) × (tiles_leaving (act_as f a) zs ≡ tiles_leaving a zs) × (tiles_behind (act_as f a) zs ≡ tiles_behind a zs)
before_as f (Out i) zs = (refl, refl, refl)
before_as f (Put i x) zs = (refl, refl, refl)
before_as f (Into i x) zs = (refl, refl, refl)

map_each : {X Y : Type 0} (f g : X → Y) → ((x : X) → f x ≡ g x) → (xs : List X) → map f xs ≡ map g xs
map_each f g each [] = refl
map_each f g each (x ∷ xs) = λ j. each x j ∷ map_each f g each xs j

both_brought : {X A B : Type 0} (P : A → B → Type 0) (f : X → A) (g : X → B) (c : List (Act X)) → AllByRecursion (λ x. P (f x) (g x)) (brought c) → Both P (mapped f c) (mapped g c)
both_brought P f g [] all = tt
both_brought P f g (bring x ∷ c) all = (all.0, both_brought P f g c all.1)
both_brought P f g (keep ∷ c) all = both_brought P f g c all
both_brought P f g (omit ∷ c) all = both_brought P f g c all

-- What an undo of a list asks of a state.
module _ {C E S T : Type 0} {k : Kind C E S} {effect : Change S → DocumentEffect} (L : Laws k) (M : Machine T k effect) (R : Returning M) {image : List ℕ} {live : Live} {s : State} {x : Index} {m : MapState} (a : CodeAct C) (lies : LiesIn image live s x m) (is : IsMapOf x m)
    (within : AreWithin (a ∷ []) (length (k.items x))) (lain : AllByRecursion (λ t. R.IsLain image (items_of s.layout) (M.live t)) (tiles_brought a)) where
  abbrev ts : List C
  ts = k.items x

  abbrev ps : List Place
  ps = M.places s.layout

  -- what becomes of the document, and where it lies
  abbrev pub own : C → S
  own t = R.content image (M.live t)

  abbrev pub change : Change S
  change = mapped (λ t. R.content image (M.live t)) (act_of a)

  abbrev pub document : Document
  document = after (effect (mapped (λ t. R.content image (M.live t)) (act_of a))) s.document

  abbrev pub there : Change Place
  there = mapped k.place (act_of a)

  abbrev lens : List ℕ
  lens = map k.len (entries_in k (k.items x))

  abbrev len_in : C → ℕ
  len_in t = k.len (k.entry t)

  lies_there : (map k.place (k.items x) ≡ M.places s.layout) × (option_map directory_place (k.directory x) ≡ M.dir_place s.layout)
  lies_there = M.lies s.layout x lies.lies

  as_many : length (M.places s.layout) ≡ length (k.items x)
  as_many = omega (arith, ap (length {A = Place}) lies_there.0, length-map (k.items x) k.place)

  within_there : AreWithin (a ∷ []) (length (M.places s.layout))
  within_there = subst (AreWithin (a ∷ [])) (sym as_many) within

  moves : changes there (length (M.places s.layout)) ≡ true
  moves = ap (λ c. changes c (length (M.places s.layout))) (mapped_act k.place a) ∙ changes_act (act_as k.place a) (length (M.places s.layout)) (within_as k.place a (length (M.places s.layout)) within_there)

  comes : brought there ≡ map k.place (tiles_brought a)
  comes = brought_images k.place a

  own_span : (t : C) → extent (M.segment (M.live t)) ≡ span_in k t
  own_span t = ap extent (M.same_segment t) ∙ (λ i. record { at = L.at t i; len = sym (L.extent t) i })

  are_new : AreNew s.layout (brought there)
  are_new =
      let P : Place → Type 0 = λ p. IsFalse (list_any (same_span p.span) (item_spans (items_of s.layout))) in
      subst (AllByRecursion P) (sym comes) (map-All k.place P (tiles_brought a)
      (All-weaken (λ t. R.IsLain image (items_of s.layout) (M.live t)) (λ t. P (k.place t)) (λ t h. subst (λ z. IsFalse (list_any (same_span z) (item_spans (items_of s.layout)))) (own_span t) (R.is_new image (items_of s.layout) (M.live t) h)) (tiles_brought a) lain))

  -- the lengths of the entries
  before : map k.len_of (M.contents s.document) ≡ lens
  before = M.lens image live s x m lies

  new_lens : map k.len_of (tiles_brought (act_as own a)) ≡ map len_in (tiles_brought a)
  new_lens = ap (map k.len_of) (brought_as own a) ∙ (map-map own k.len_of (tiles_brought a) ∙ map_each (λ t. k.len_of (own t)) len_in (R.long image) (tiles_brought a))

  now : map k.len_of (M.contents document) ≡ tiles_before a lens ++ (map len_in (tiles_brought a) ++ tiles_behind a lens)
  now =
      let D : List S = M.contents s.document in
      ap (map k.len_of) (R.contents_after change s.document) ∙ (ap (λ c. map k.len_of (changed c D)) (mapped_act own a) ∙ (changed_images k.len_of (act_as own a) D
      ∙ (λ j. (before_as own a (map k.len_of D)).0 j ++ (new_lens j ++ (before_as own a (map k.len_of D)).2 j)) ∙ (λ j. tiles_before a (before j) ++ (map len_in (tiles_brought a) ++ tiles_behind a (before j)))))

  own_lens : map k.len (entries_in k (tiles_brought a)) ≡ map len_in (tiles_brought a)
  own_lens = map-map k.entry k.len (tiles_brought a)

  sized : k.head + sum (map k.len_of (M.contents document)) ≡ size_after k a x
  sized = omega (
    arith,
    ap sum now,
    sum-three (tiles_before a lens) (map len_in (tiles_brought a)) (tiles_behind a lens),
    ap sum (lens_before k a ts),
    ap sum (lens_behind k a ts),
    ap sum own_lens,
    size_as k a (entries_in k (tiles_brought a)) ts,
  )

  ranged : patched_len (M.places s.layout) (asked_for back there (M.places s.layout)) (map k.len_of (M.contents s.document)) (map k.len_of (M.contents document)) ≡ range_after k a x
  ranged =
      let f : C → Asked = λ t. back (k.place t) in
      let new : List ℕ = map len_in (tiles_brought a) in
      (λ j. patched_len ps (changed (mapped-mapped k.place back (act_of a) j) (map stays ps)) (before j) (now j))
      ∙ (range_act f len_in a ps lens (λ p t. refl) (λ t. L.some (k.entry t)) within_there (omega (arith, as_many, length-map (entries_in k ts) k.len, length-map ts k.entry)) (map-All k.len (λ n. 0 < n) (entries_in k ts) (each_of _ L.some (entries_in k ts)))
      (subst (AllByRecursion (λ (p : Place). 0 < p.span.len)) lies_there.0 (map-All k.place (λ (p : Place). 0 < p.span.len) ts (each_of _ (λ t. omega (arith, L.extent t)) ts)))
      (λ q. subst (λ (l : List Place). cover (spans_of l) q ≤ 1) lies_there.0 (items_once L M x m q is))
      ∙ ((λ j. if sum (sym own_lens j) == sum (lens_leaving k a ts j) then sum (sym own_lens j) else sum (sym own_lens j) + sum (lens_behind k a ts j))
      ∙ sym (range_as k (entries_in k (tiles_brought a)) (entries_in k (tiles_leaving a ts)) (entries_in k (tiles_behind a ts)))))

  -- the test of the machine is that of the code
  abbrev pub stays_then : Bool
  stays_then = in_place (M.dir_place s.layout) k.head (M.places s.layout) (asked_for back there (M.places s.layout)) (map k.len_of (M.contents s.document)) (map k.len_of (M.contents document))

  stays_back : stays_then ≡ fits_in_place (k.directory x) (size_after k a x) (range_after k a x)
  stays_back = (λ j. in_place (sym lies_there.1 j) k.head ps (asked_for back there ps) (map k.len_of (M.contents s.document)) (map k.len_of (M.contents document)))
      ∙ same_test k.head (k.directory x) ps (asked_for back there ps) (map k.len_of (M.contents s.document)) (map k.len_of (M.contents document)) (size_after k a x) (range_after k a x) sized ranged

  abbrev pub former_then : ℕ → Former
  former_then n = record { document = document; items = R.with_list s.layout (changed there (M.places s.layout)); edits = n }

  -- There is no place for the directory exactly where the machine has none.
  pub no_place_back : (n need length' : ℕ) → fits_in_place (k.directory x) (size_after k a x) (range_after k a x) ≡ false → fit (space_in m) (need_of (size_after k a x)) ≡ Err (record { need = need; length = length' })
      → laid s (undo_asks s (former_then n)) ≡ Err (record { need = need; length = length' })
  no_place_back n need length' fails full =
      let none : directory_laid s.layout (space_of s) (M.dir_place s.layout) stays_then (need_of (k.head + sum (map k.len_of (M.contents document)))) ≡ Err (record { need = need; length = length' })
      = (λ j. directory_laid s.layout (sym lies.space j) (M.dir_place s.layout) ((stays_back ∙ fails) j) (need_of (sized j))) ∙ (rw full refl) in
      R.row s document n there (layout_apart s.layout x lies.lies) moves are_new ∙ (rw none refl)

-- What a plan of it is.
module _ {C E S T : Type 0} {k : Kind C E S} {effect : Change S → DocumentEffect} (L : Laws k) (M : Machine T k effect) (R : Returning M) {image : List ℕ} {live : Live} {s : State} {x : Index} {m : MapState} (a : CodeAct C) {region : Region} {d : DirectoryChange} {new : EditPlan} (lies : LiesIn image live s x m) (is : IsMapOf x m)
    (within : AreWithin (a ∷ []) (length (k.items x))) (lain : AllByRecursion (λ t. R.IsLain image (items_of s.layout) (M.live t)) (tiles_brought a)) (plan : IsPlan x m region new) (r : Changes k x m a returned region d new) where
  abbrev origin : Origin (Change S)
  origin = returned

  abbrev back_place : Change Place
  back_place = there L M R a lies is within lain

  backs : AllByRecursion (IsBack k x m) (tiles_brought a)
  backs = r.stages.begins.brings.0

  -- what comes back is used where it can be used again, and is in no extent where it can't
  without_backs : without (spans_of (brought back_place) ++ used_by d) s.layout.deleted ≡ without (used_in k a origin ++ used_by d) s.layout.deleted
  without_backs = ap (λ l. without (spans_of l ++ used_by d) s.layout.deleted) (comes L M R a lies is within lain) ∙ by a backs
    where
      met : (t : C) → IsBack k x m t → can_be_used (k.place t) ≡ false → MeetsNone (span_in k t) s.layout.deleted
      met t b e = subst (MeetsNone (span_in k t)) (sym is.extents ∙ lies.lies.deleted) (b.1.among.1 e)

      by : (a : CodeAct C) → AllByRecursion (IsBack k x m) (tiles_brought a) → without (spans_of (map k.place (tiles_brought a)) ++ used_by d) s.layout.deleted ≡ without (usable_of (map k.place (tiles_brought a)) ++ used_by d) s.layout.deleted
      by (Out i) b = refl
      by (Put i t) b = without_dead (k.place t) (used_by d) s.layout.deleted (met t b.0)
      by (Into i t) b = without_dead (k.place t) (used_by d) s.layout.deleted (met t b.0)

  -- The layout is the machine's.
  lays_back : (n : ℕ) → laid s (undo_asks s (former_then L M R a lies is within lain n)) ≡ Ok (layout_by new s)
  lays_back n =
      let l : Layout = s.layout in
      let size = size_after k a x in
      let range = range_after k a x in
      let lies' = lies_there L M R a lies is within lain in
      let stays' = stays_back L M R a lies is within lain in
      let doc = document L M R a lies is within lain in
      let placed' = placed_in L M lies is plan r in
      let dir : Fitted (Option Place) = record { places = place_after d (option_map directory_place (k.directory x)); back = []; used = used_by d; space = space_by d (space_of s) } in
      let dir_is : directory_laid l (space_of s) (M.dir_place l) (stays_then L M R a lies is within lain) (need_of (k.head + sum (map k.len_of (M.contents doc)))) ≡ Ok dir
      = (λ j. directory_laid l (space_of s) (sym lies'.1 j) (stays' j) (need_of (sized L M R a lies is within lain j))) ∙ directory_lies x l (k.directory x) size range (space_of s) d (new_walked x l (k.directory x) size range (space_of s) d lies.lies placed') placed' in
      let leaves : omitted back_place (M.places l) ≡ items_left k a x = left_list k.place (act_of a) (k.items x) (M.places l) lies'.0 ∙ ap (map k.place) (omitted_act a (k.items x)) in
      let left : omitted back_place (M.places l) ++ directory_left (stays_then L M R a lies is within lain) (M.dir_place l) ≡ all_left k a d x
      = λ j. leaves j ++ ((λ i. directory_left (stays' i) (sym lies'.1 i)) ∙ left_by x (k.directory x) size range (space_of s) d placed') j in
      let gone : List Place = omitted back_place (M.places l) ++ directory_left (stays_then L M R a lies is within lain) (M.dir_place l) in
      let deleted : deleted_after (spans_of (brought back_place) ++ used_by d) (spans_of (filter can_be_used gone)) l.deleted ≡ extents_after new l.deleted
      = ap (with_all_freed (sorted span_le (spans_of (filter can_be_used gone)))) without_backs ∙ deleted_there L M lies is plan r gone left in
      R.row s doc n back_place (layout_apart l x lies.lies) (moves L M R a lies is within lain) (are_new L M R a lies is within lain)
      ∙ ((rw dir_is refl) ∙ ((λ j. Ok (M.set_list l (place_after d (lies'.1 j)) (changed back_place (M.places l)) (length_there L M lies is plan r j) (deleted j))) ∙ ap (λ z. Ok z) (sym (M.layout_is new s a d r.stages.change))))

  -- Nothing is put into what comes back but its header.
  clear_back : (t : C) → tiles_brought a ≡ t ∷ [] → (q : ℕ) → (k.segment t).at + 32 ≤ q → q < (k.segment t).at + 32 + (k.segment t).allocated → byte_of (pieces L M lies is plan r) q ≡ None
  clear_back t one q low high =
      let dir = r.dir in
      let top = length_after k a origin d m in
      let id : (k.segment t).id ≡ k.item_id = (subst (AllByRecursion (IsBack k x m)) one backs).0.0.0 in
      let head' : length (header_bytes (k.segment t)) ≡ 32 = header_length (k.segment t) (ap (length {A = ℕ}) id ∙ L.id_long) in
      let far : IsLong top (span_in k t) = (subst (λ l. AllByRecursion (IsLong top) (map (span_in k) l)) one (brought_long L x m a origin d r.marks.parts)).0 in
      none_put (pieces L M lies is plan r) q (omega (
        arith,
        at_place,
        low,
        high,
        L.at t,
        L.extent t,
        head',
        far.far,
        dir.written.covers q,
        both_cover (writes_of region r.stages.first) (writes_by k d (all_entries k a x)) q,
        both_cover (new_marks k a) (marks_by k (k.directory x) d (front_entries k a (k.items x)) (middle_entries k a (k.items x)) (back_entries k a (k.items x))) q,
        ap (λ l. cover (map byte_span (bytes_in region l)) q) r.stages.begins.brings.1,
        ap (λ l. cover (map byte_span (map (λ u. head_mark (k.segment u)) l)) q) one,
        ap (λ l. cover (map (span_in k) l) q) one,
        brought_covers L a origin q,
        dir.listing.covers q,
        cover-append (pointers_of k.pointer d) (written_dir d (k.directory x)) q,
        pointer_of k.pointer q d,
        L.high,
        dir_within d (k.directory x) q,
        cover-append (used_in k a origin) (used_by d) q,
        cover-append (beside_in k a origin) (kept_of d (k.directory x)) q,
        dir.parts.once q,
        heads_within (filter (is_new m.extents) (deleted_after (used_in k a origin ++ used_by d) (freed_by k a d x) m.extents)) q (All-filter _ (is_new m.extents) (deleted_after (used_in k a origin ++ used_by d) (freed_by k a d x) m.extents) (is_32 top _ dir.parts.after_long)),
        heads_within (dead_of (all_left k a d x)) q (is_32 top (dead_of (all_left k a d x)) dir.parts.dead_long),
        cover-fewer (is_new m.extents) (deleted_after (used_in k a origin ++ used_by d) (freed_by k a d x) m.extents) q,
      ))

  -- so its contents are found
  found_back : (t : C) → tiles_brought a ≡ t ∷ [] → R.IsLain image (items_of s.layout) (M.live t) → R.IsFound image (pieces L M lies is plan r) (M.live t) (R.content image (M.live t))
  found_back t one own' =
      let ps' = pieces L M lies is plan r in
      let b : IsBack k x m t = (subst (AllByRecursion (IsBack k x m)) one backs).0 in
      let same' : M.segment (M.live t) ≡ k.segment t = M.same_segment t in
      let mark : AllByRecursion (IsPut ps') (head_mark (k.segment t) ∷ []) = subst (AllByRecursion (IsPut ps')) (ap (map (λ u. head_mark (k.segment u))) one) (heads_put L M lies is plan r).1 in
      let puts' : PutsHeader ps' (k.segment t) = record { head = mark.0.1; clear = clear_back t one } in
      let inside : (k.segment t).at + 32 + (k.segment t).allocated ≤ length image = omega (arith, b.1.inside, L.at t, L.extent t, lies.lies.length, lies.loosely.length) in
      R.find image (items_of s.layout) ps' t own' (subst (λ z. z.at + 32 + z.allocated ≤ length image) (sym same') inside) (subst (PutsHeader ps') (sym same') puts')

  found_all : AllByRecursion (λ t. R.IsFound image (pieces L M lies is plan r) (M.live t) (R.content image (M.live t))) (brought (act_of a))
  found_all = subst (AllByRecursion (λ t. R.IsFound image (pieces L M lies is plan r) (M.live t) (R.content image (M.live t)))) (sym (brought_act a)) (by (tiles_brought a) refl lain)
    where
      by : (ts : List C) → tiles_brought a ≡ ts → AllByRecursion (λ t. R.IsLain image (items_of s.layout) (M.live t)) ts → AllByRecursion (λ t. R.IsFound image (pieces L M lies is plan r) (M.live t) (R.content image (M.live t))) ts
      by [] e all = tt
      by (t ∷ []) e all = (found_back t e all.0, tt)
      by (t ∷ u ∷ ts) e all = absurd (omega (arith, few_brought a, ap (length {A = C}) e))

  found_both : Both (R.IsFound image (pieces L M lies is plan r)) (acts L M lies is plan r) (change L M R a lies is within lain)
  found_both = both_brought (R.IsFound image (pieces L M lies is plan r)) M.live (λ t. R.content image (M.live t)) (act_of a) found_all

  comes_both : Both (M.Brought image (pieces L M lies is plan r)) (acts L M lies is plan r) (change L M R a lies is within lain)
  comes_both = both_brought (M.Brought image (pieces L M lies is plan r)) M.live (λ t. R.content image (M.live t)) (act_of a)
      (All-weaken (λ t. R.IsFound image (pieces L M lies is plan r) (M.live t) (R.content image (M.live t))) (λ t. M.Brought image (pieces L M lies is plan r) (M.live t) (R.content image (M.live t))) (λ t h. R.found_comes image (pieces L M lies is plan r) (M.live t) (R.content image (M.live t)) h) (brought (act_of a)) found_all)

  -- What comes back is in nothing that is live, and a new directory neither.
  apart_back : BringsApart live (live_change_of new.change x)
  apart_back =
      subst (BringsApart live) (sym (turned L M lies is plan r)) (brings_apart live s.layout x (M.set_turn (dir_then L M lies is plan r) (acts L M lies is plan r)) lies.loosely.extents lies.lies (λ q. omega (
        arith,
        lies_anew L M lies is plan r q,
        written_among d (k.directory x) q,
        R.own_directory x q,
        used_apart L x m a origin d q is r.marks.comes r.marks.found,
        cover-append (new_spans k a) (used_by d) q,
      )))

  -- So it is the undo of this former document.
  pub undoes_in : (n : ℕ) → UndoesIn image live s (former_then L M R a lies is within lain n) x region new
  undoes_in n =
      let c = change L M R a lies is within lain in
      record {
        goes = lays_back n;
        effect = effect c;
        document = refl;
        spans = spans_after new.change (extents_after new s.layout.deleted) new.length s.layout live x lies.lies lies.loosely.extents;
        plans = plans_of L M lies is plan r c comes_both;
        finds = subst (λ z. Finds image z (effect c) (pieces_of region new)) (sym (turned L M lies is plan r))
            (subst (λ z. Finds image (M.set_turn (dir_then L M lies is plan r) (acts L M lies is plan r)) (effect c) z) (sym (pieces_are L M lies is plan r)) (R.finds image (pieces L M lies is plan r) (dir_then L M lies is plan r) (acts L M lies is plan r) c found_both));
        apart = apart_back;
        leaves = items_leave L M lies is plan r;
      }

-- So it is of subblocks, and of attachments.
unfoldable pub tile_returning : Returning tile_machine
unfolding tile_machine
tile_returning = record {
  content = subblock_of;
  long = λ image t. refl;
  contents_after = λ c d. refl;
  after_same = λ c c' d e. ap (λ (l : List Subblock). record d { subblocks = l }) e;
  part = part_tiles;
  IsLain = λ image items t. (tile t.entry t.segment (data_of image t.segment) ≡ Some t) × (t.segment.id ≡ subblock_id) × (t.entry.position ≡ pos t.segment.at) × (t.segment.used ≤ t.segment.allocated) × IsFalse (list_any (same_span (extent t.segment)) (item_spans items));
  lain = λ image items n p held. held.tiles;
  is_new = λ image items t h. h.4;
  with_list = λ l ps. record (items_of l) { subblocks = ps };
  former = λ image n p s. refl;
  row = λ s d n c apart ch new. subblocks_undone_row s d c apart ch new;
  IsFound = FindsTile;
  find = λ image items pieces t h inside puts. record { id = h.1; sound = h.3; position = h.2; reads = h.0; contents = refl; inside = inside; puts = puts };
  found_comes = λ image pieces t s h. inr h;
  finds = λ image pieces o acts c both. record { tiles = both; attachments = tt; metadata = tt };
  own_directory = λ x q. omega (arith, cover-append (option_to_list (option_map directory_span x.directory)) (option_to_list (option_map directory_span x.attdir)) q);
}

unfoldable pub att_returning : Returning att_machine
unfolding att_machine
att_returning = record {
  content = attachment_of;
  long = λ image i. refl;
  contents_after = λ c d. refl;
  after_same = λ c c' d e. ap (λ (l : List Attachment). record d { attachments = l }) e;
  part = part_attachments;
  IsLain = λ image items i. (att_item i.entry i.segment (data_of image i.segment) ≡ Some i) × (i.segment.id ≡ attachment_id) × (i.entry.position ≡ pos i.segment.at) × (i.segment.used ≤ i.segment.allocated) × IsFalse (list_any (same_span (extent i.segment)) (item_spans items));
  lain = λ image items n p held. held.attachments;
  is_new = λ image items i h. h.4;
  with_list = λ l ps. record (items_of l) { attachments = ps };
  former = λ image n p s. refl;
  row = λ s d n c apart ch new. attachments_undone_row s d c apart ch new;
  IsFound = FindsAttachment;
  find = λ image items pieces i h inside puts. record { id = h.1; sound = h.3; position = h.2; reads = h.0; contents = refl; inside = inside; puts = puts };
  found_comes = λ image pieces i s h. inr h;
  finds = λ image pieces o acts c both. record { tiles = tt; attachments = both; metadata = tt };
  own_directory = λ x q. omega (arith, cover-append (option_to_list (option_map directory_span x.directory)) (option_to_list (option_map directory_span x.attdir)) q);
}

-- An act of the code with the items of an inverse.
abbrev pub SameAct : {C E S T : Type 0} {k : Kind C E S} {effect : Change S → DocumentEffect} → Machine T k effect → CodeAct C → ListPart (Lain T) → Type 0
SameAct M (Out i) (drops j) = i ≡ j
SameAct M (Out i) (puts j y) = ⊥
SameAct M (Out i) (inserts j y) = ⊥
SameAct M (Put i t) (drops j) = ⊥
SameAct {k = k} M (Put i t) (puts j y) = (i ≡ j) × (M.live t ≡ y.item) × ((k.place t).walked ≡ y.walked)
SameAct M (Put i t) (inserts j y) = ⊥
SameAct M (Into i t) (drops j) = ⊥
SameAct M (Into i t) (puts j y) = ⊥
SameAct {k = k} M (Into i t) (inserts j y) = (i ≡ j) × (M.live t ≡ y.item) × ((k.place t).walked ≡ y.walked)

module _ {C E S T : Type 0} {k : Kind C E S} {effect : Change S → DocumentEffect} (L : Laws k) (M : Machine T k effect) where
  follows_same : {Z : Type 0} (f : Lain T → Z) (g : C → Z) → ((t : C) (y : Lain T) → M.live t ≡ y.item → (k.place t).walked ≡ y.walked → f y ≡ g t) → (a : CodeAct C) (p : ListPart (Lain T)) → SameAct M a p → Follows f g a p
  follows_same f g each (Out i) (drops j) e = e
  follows_same f g each (Out i) (puts j y) e = absurd e
  follows_same f g each (Out i) (inserts j y) e = absurd e
  follows_same f g each (Put i t) (drops j) e = absurd e
  follows_same f g each (Put i t) (puts j y) e = (e.0, each t y e.1 e.2)
  follows_same f g each (Put i t) (inserts j y) e = absurd e
  follows_same f g each (Into i t) (drops j) e = absurd e
  follows_same f g each (Into i t) (puts j y) e = absurd e
  follows_same f g each (Into i t) (inserts j y) e = (e.0, each t y e.1 e.2)

  lain_same : (P : T → Type 0) (a : CodeAct C) (p : ListPart (Lain T)) → SameAct M a p → AllByRecursion (λ (y : Lain T). P y.item) (part_items p) → AllByRecursion (λ t. P (M.live t)) (tiles_brought a)
  lain_same P (Out i) p e all = tt
  lain_same P (Put i t) (drops j) e all = absurd e
  lain_same P (Put i t) (puts j y) e all = (subst P (sym e.1) all.0, tt)
  lain_same P (Put i t) (inserts j y) e all = absurd e
  lain_same P (Into i t) (drops j) e all = absurd e
  lain_same P (Into i t) (puts j y) e all = absurd e
  lain_same P (Into i t) (inserts j y) e all = (subst P (sym e.1) all.0, tt)

  same_place : (t : C) (y : Lain T) → M.live t ≡ y.item → (k.place t).walked ≡ y.walked → lain_in M.segment y ≡ k.place t
  same_place t y item walked = λ j. record { span = (ap (λ z. extent (M.segment z)) (sym item) ∙ (ap extent (M.same_segment t) ∙ (λ i. record { at = L.at t i; len = sym (L.extent t) i }))) j; walked = sym walked j }

  -- what an inverse brings back is what the act does
  module _ (R : Returning M) {image : List ℕ} {live : Live} {s : State} {x : Index} {m : MapState} (a : CodeAct C) (lies : LiesIn image live s x m) (is : IsMapOf x m) (within : AreWithin (a ∷ []) (length (k.items x))) (p : ListPart (Lain T)) (n : ℕ) (f : Former)
      (same' : SameAct M a p) (held : LiesHeld image (items_of s.layout) (return_of n (R.part p))) (newest : f ≡ brought_back image (return_of n (R.part p)) (present s)) where
    lain_by : AllByRecursion (λ t. R.IsLain image (items_of s.layout) (M.live t)) (tiles_brought a)
    lain_by = lain_same (R.IsLain image (items_of s.layout)) a p same' (subst (AllByRecursion (λ (y : Lain T). R.IsLain image (items_of s.layout) y.item)) (brought_part p) (R.lain image (items_of s.layout) n p held))

    former_is : f ≡ former_then L M R a lies is within lain_by n
    former_is =
        let contents = turn_same (λ (y : Lain T). R.content image y.item) (λ t. R.content image (M.live t)) a p (M.contents s.document) (follows_same (λ (y : Lain T). R.content image y.item) (λ t. R.content image (M.live t)) (λ t y e w. ap (R.content image) (sym e)) a p same') in
        let places = turn_same (lain_in M.segment) k.place a p (M.places s.layout) (follows_same (lain_in M.segment) k.place same_place a p same') in
        let documents = R.after_same (mapped (λ (y : Lain T). R.content image y.item) (change_of p)) (mapped (λ t. R.content image (M.live t)) (act_of a)) s.document contents in
        newest ∙ (R.former image n p s ∙ (λ j. record { document = documents j; items = R.with_list s.layout (places j); edits = n }))

    pub undoes_former : (region : Region) (d : DirectoryChange) (new : EditPlan) → Stages k x m a returned region d new → UndoesIn image live s f x region new
    undoes_former region d new stages =
        let o : Origin (Change S) = returned in
        let r = changes_of L x m a o region d new is stages in
        let plan = plan_of L x m a o region d new is r in
        subst (λ z. UndoesIn image live s z x region new) (sym former_is) (undoes_in L M R a lies is within lain_by plan r n)

    pub no_place_former : (need length' : ℕ) → fits_in_place (k.directory x) (size_after k a x) (range_after k a x) ≡ false → fit (space_in m) (need_of (size_after k a x)) ≡ Err (record { need = need; length = length' }) → laid s (undo_asks s f) ≡ Err (record { need = need; length = length' })
    no_place_former need length' fails full = ap (λ z. laid s (undo_asks s z)) former_is ∙ no_place_back L M R a lies is within lain_by n need length' fails full

-- An inverse of subblocks, or of attachments, and the act of the code.
held_tile : (image : List ℕ) (items : Items) (n : ℕ) (p : ListPart (Lain FormatTile)) (y : Lain FormatTile) → part_items p ≡ y ∷ [] → LiesHeld image items (return_of n (part_tiles p)) → tile_returning.IsLain image items y.item
unfolding tile_returning
held_tile image items n p y one held = (subst (AllByRecursion (λ (z : Lain FormatTile). tile_returning.IsLain image items z.item)) (brought_part p ∙ one) held.tiles).0

back_tile : (i : CodeEntryInfo) (h : HeldSegment) (t : Tile) (y : Lain FormatTile) (image : List ℕ) (items : Items) → IsTileBack i h t → IsTile i h y → tile_returning.IsLain image items y.item → (tile_of t ≡ y.item) × (t.walked ≡ y.walked)
unfolding tile_returning
back_tile i h t y image items back' is lain' = (back'.item y is (lain'.1, lain'.3) lain'.2, back'.walked ∙ is.held.walked)

pub tile_follows : (image : List ℕ) (items : Items) (n : ℕ) (part : Part) (a : CodeAct Tile) (q : LainPart) → IsPart part q → IsTileAct part a → LiesHeld image items (return_of n q) → (p : ListPart (Lain FormatTile)) × (q ≡ part_tiles p) × SameAct tile_machine a p
unfolding tile_machine
tile_follows image items n (DropSub place) a q is act held = (drops place, is, subst (λ z. SameAct tile_machine z (drops place)) (sym act) refl)
tile_follows image items n (PutSub place info h) a q is act held =
    let p = puts place is.0 in
    let lain' = held_tile image items n p is.0 refl (subst (λ z. LiesHeld image items (return_of n z)) is.1 held) in
    let back' = back_tile info h act.0 is.0 image items act.2 is.2 lain' in
    (p, is.1, subst (λ z. SameAct tile_machine z p) (sym act.1) (refl, back'.0, back'.1))
tile_follows image items n (InsertSub place info h) a q is act held =
    let p = inserts place is.0 in
    let lain' = held_tile image items n p is.0 refl (subst (λ z. LiesHeld image items (return_of n z)) is.1 held) in
    let back' = back_tile info h act.0 is.0 image items act.2 is.2 lain' in
    (p, is.1, subst (λ z. SameAct tile_machine z p) (sym act.1) (refl, back'.0, back'.1))
tile_follows image items n (DropAtt place) a q is act held = absurd act
tile_follows image items n (PutAtt place info h) a q is act held = absurd act
tile_follows image items n (InsertAtt place info h) a q is act held = absurd act
tile_follows image items n NoMeta a q is act held = absurd act
tile_follows image items n (PutMeta h) a q is act held = absurd act
tile_follows image items n Unchanged a q is act held = absurd act

held_attachment : (image : List ℕ) (items : Items) (n : ℕ) (p : ListPart (Lain FormatAttItem)) (y : Lain FormatAttItem) → part_items p ≡ y ∷ [] → LiesHeld image items (return_of n (part_attachments p)) → att_returning.IsLain image items y.item
unfolding att_returning
held_attachment image items n p y one held = (subst (AllByRecursion (λ (z : Lain FormatAttItem). att_returning.IsLain image items z.item)) (brought_part p ∙ one) held.attachments).0

back_attachment : (i : CodeAttInfo) (h : HeldSegment) (t : AttItem) (y : Lain FormatAttItem) (image : List ℕ) (items : Items) → IsAttachmentBack i h t → IsAttachment i h y → att_returning.IsLain image items y.item → (att_item_of t ≡ y.item) × (t.walked ≡ y.walked)
unfolding att_returning
back_attachment i h t y image items back' is lain' = (back'.item y is (lain'.1, lain'.3) lain'.2, back'.walked ∙ is.held.walked)

pub attachment_follows : (image : List ℕ) (items : Items) (n : ℕ) (part : Part) (a : CodeAct AttItem) (q : LainPart) → IsPart part q → IsAttachmentAct part a → LiesHeld image items (return_of n q) → (p : ListPart (Lain FormatAttItem)) × (q ≡ part_attachments p) × SameAct att_machine a p
unfolding att_machine
attachment_follows image items n (DropSub place) a q is act held = absurd act
attachment_follows image items n (PutSub place info h) a q is act held = absurd act
attachment_follows image items n (InsertSub place info h) a q is act held = absurd act
attachment_follows image items n (DropAtt place) a q is act held = (drops place, is, subst (λ z. SameAct att_machine z (drops place)) (sym act) refl)
attachment_follows image items n (PutAtt place info h) a q is act held =
    let p = puts place is.0 in
    let lain' = held_attachment image items n p is.0 refl (subst (λ z. LiesHeld image items (return_of n z)) is.1 held) in
    let back' = back_attachment info h act.0 is.0 image items act.2 is.2 lain' in
    (p, is.1, subst (λ z. SameAct att_machine z p) (sym act.1) (refl, back'.0, back'.1))
attachment_follows image items n (InsertAtt place info h) a q is act held =
    let p = inserts place is.0 in
    let lain' = held_attachment image items n p is.0 refl (subst (λ z. LiesHeld image items (return_of n z)) is.1 held) in
    let back' = back_attachment info h act.0 is.0 image items act.2 is.2 lain' in
    (p, is.1, subst (λ z. SameAct att_machine z p) (sym act.1) (refl, back'.0, back'.1))
attachment_follows image items n NoMeta a q is act held = absurd act
attachment_follows image items n (PutMeta h) a q is act held = absurd act
attachment_follows image items n Unchanged a q is act held = absurd act

-- What an inverse of one part brings back on a state.
pub record BringsBack (image : List ℕ) (s : State) (part : Part) (f : Former) : Type 0 where
  pub part_is : LainPart
  pub edits : ℕ
  pub is : IsPart part part_is
  pub held : LiesHeld image (items_of s.layout) (return_of edits part_is)
  pub newest : f ≡ brought_back image (return_of edits part_is) (present s)

same_first : {X : Type 0} (a b : X) (xs : List X) → xs ≡ a ∷ [] → xs ≡ b ∷ [] → a ≡ b
same_first a b xs e e' = cc (e, e')

pub brought_of : (image : List ℕ) (live : Live) (s : State) (x : Index) (m : MapState) (i : Inverse) (o : Single) (returns : List Return) (f : Former) (formers : List Former) (part : Part) → i.parts.items ≡ part ∷ [] → Undone image live s x m i o returns f formers → BringsBack image s part f
brought_of image live s x m i o returns f formers part only u =
    let single : IsPart part o.part = subst (λ z. IsPart z o.part) (same_first u.single.part part i.parts.items u.single.only only) u.single.is in
    let back' : BringBack image (present s) (return_of_single o ∷ returns) (f ∷ formers) = subst (BringBack image (present s) (return_of_single o ∷ returns)) u.newest u.back.back in
    record { part_is = o.part; edits = o.edits; is = single; held = back'.1; newest = back'.0 }

-- The plan of an inverse.
pub undoes_tiles : (x : Index) (m : MapState) (i : Inverse) (part : Part) (a : CodeAct Tile) (region : Region) (d : DirectoryChange) (new : EditPlan) → IsMapOf x m → i.parts.items ≡ part ∷ [] → IsTileAct part a → Stages of_subblocks x m a returned region d new → Undoes x m i region new
unfolding tile_returning
undoes_tiles x m i part a region d new is only act stages image live s o returns f formers u =
    let b = brought_of image live s x m i o returns f formers part only u in
    let its = tile_follows image (items_of s.layout) b.edits part a b.part_is b.is act b.held in
    undoes_former tile_laws tile_machine tile_returning a u.lies is stages.within its.0 b.edits f its.2 (subst (λ z. LiesHeld image (items_of s.layout) (return_of b.edits z)) its.1 b.held) (b.newest ∙ ap (λ z. brought_back image (return_of b.edits z) (present s)) its.1) region d new stages

pub undoes_attachments : (x : Index) (m : MapState) (i : Inverse) (part : Part) (a : CodeAct AttItem) (region : Region) (d : DirectoryChange) (new : EditPlan) → IsMapOf x m → i.parts.items ≡ part ∷ [] → IsAttachmentAct part a → Stages of_attachments x m a returned region d new → Undoes x m i region new
unfolding att_returning
undoes_attachments x m i part a region d new is only act stages image live s o returns f formers u =
    let b = brought_of image live s x m i o returns f formers part only u in
    let its = attachment_follows image (items_of s.layout) b.edits part a b.part_is b.is act b.held in
    undoes_former att_laws att_machine att_returning a u.lies is stages.within its.0 b.edits f its.2 (subst (λ z. LiesHeld image (items_of s.layout) (return_of b.edits z)) its.1 b.held) (b.newest ∙ ap (λ z. brought_back image (return_of b.edits z) (present s)) its.1) region d new stages

-- There is none exactly where a new directory has no place.
pub no_undo_tiles : (x : Index) (m : MapState) (i : Inverse) (part : Part) (a : CodeAct Tile) (size range : ℕ) (fault : PlanFault) → IsMapOf x m → i.parts.items ≡ part ∷ [] → IsTileAct part a → AreWithin (a ∷ []) (length x.tiles.items) → size ≡ size_after of_subblocks a x → range ≡ range_after of_subblocks a x
    → fits_in_place x.directory size range ≡ false → IsFull fault (fit (space_in m) (need_of size)) → HasNoUndo x m i fault
unfolding tile_returning
no_undo_tiles x m i part a size range (Filled need length') is only act within is_size is_range fails full image live s o returns f formers u =
    let b = brought_of image live s x m i o returns f formers part only u in
    let its = tile_follows image (items_of s.layout) b.edits part a b.part_is b.is act b.held in
    no_place_former tile_laws tile_machine tile_returning a u.lies is within its.0 b.edits f its.2 (subst (λ z. LiesHeld image (items_of s.layout) (return_of b.edits z)) its.1 b.held) (b.newest ∙ ap (λ z. brought_back image (return_of b.edits z) (present s)) its.1) need length'
    ((λ j. fits_in_place x.directory (sym is_size j) (sym is_range j)) ∙ fails) (ap (λ n. fit (space_in m) (need_of n)) (sym is_size) ∙ full)
no_undo_tiles x m i part a size range Memory is only act within is_size is_range fails full image live s o returns f formers u = absurd full

pub no_undo_attachments : (x : Index) (m : MapState) (i : Inverse) (part : Part) (a : CodeAct AttItem) (size range : ℕ) (fault : PlanFault) → IsMapOf x m → i.parts.items ≡ part ∷ [] → IsAttachmentAct part a → AreWithin (a ∷ []) (length x.attachments.items) → size ≡ size_after of_attachments a x → range ≡ range_after of_attachments a x
    → fits_in_place x.attdir size range ≡ false → IsFull fault (fit (space_in m) (need_of size)) → HasNoUndo x m i fault
unfolding att_returning
no_undo_attachments x m i part a size range (Filled need length') is only act within is_size is_range fails full image live s o returns f formers u =
    let b = brought_of image live s x m i o returns f formers part only u in
    let its = attachment_follows image (items_of s.layout) b.edits part a b.part_is b.is act b.held in
    no_place_former att_laws att_machine att_returning a u.lies is within its.0 b.edits f its.2 (subst (λ z. LiesHeld image (items_of s.layout) (return_of b.edits z)) its.1 b.held) (b.newest ∙ ap (λ z. brought_back image (return_of b.edits z) (present s)) its.1) need length'
    ((λ j. fits_in_place x.attdir (sym is_size j) (sym is_range j)) ∙ fails) (ap (λ n. fit (space_in m) (need_of n)) (sym is_size) ∙ full)
no_undo_attachments x m i part a size range Memory is only act within is_size is_range fails full image live s o returns f formers u = absurd full
