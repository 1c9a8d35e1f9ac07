-- The plan of an undo of the metadata, or of nothing at all: it is what the machine asks for.
use Rattle.std.proofs.Common.{◌≡◌, ℕ, ◌+◌, ◌<◌, ◌≤◌, List, [], ◌∷◌, ◌++◌, map, filter, length, true, false, ◌&&◌, nat_lt, if◌then◌else◌, Option, Some, None, option_map, option_to_list, Ok, refl, ap, sym, ◌∙◌, subst, arith, inr, append-nil}
use Rattle.std.specs.List.{AllByRecursion, list_any}
use Rattle.std.specs.Prelude.{IsFalse}
use Rattle.czi_format.specs.Document.{Document}
use Rattle.czi_format.specs.FirstFault.{◌>>=◌}
use Rattle.czi_format.specs.Layout.{Layout, Place}
use Rattle.czi_format.specs.Live.{Live, MetaItem as FormatMetaItem, meta_item, metadata_of}
use Rattle.czi_format.specs.Segment.{data_of, extent, header_bytes, metadata_id}
use Rattle.czi_format.specs.Space.{deleted_after, same_span, with_all_freed, without}
use Rattle.czi_format.specs.Span.{Span, sorted, span_le}
use Rattle.czi_format.proofs.Local.{All-append}
use Rattle.czi_image.specs.Change.{acts_of, live_change_of, setting_of}
use Rattle.czi_image.specs.Holds.{meta_item_place}
use Rattle.czi_image.specs.Spans.{meta_item_span}
use Rattle.czi_image.specs.View.{att_item_of, meta_item_of, tile_of}
use Rattle.czi_image.specs.declared.change.Act.{Act as CodeAct}
use Rattle.czi_image.specs.declared.change.Setting.{Setting as CodeSetting}
use Rattle.czi_image.specs.declared.change.Setting.TheVariants.{Same, To}
use Rattle.czi_image.specs.declared.index.Index.{Index}
use Rattle.czi_image.specs.declared.types.AttItem.{AttItem}
use Rattle.czi_image.specs.declared.types.MetaItem.{MetaItem}
use Rattle.czi_image.specs.declared.types.Tile.{Tile}
use Rattle.czi_machine.specs.Change.{mapped, mapped_setting, set}
use Rattle.czi_machine.specs.Cover.{cover}
use Rattle.czi_machine.specs.Edit.{DocumentEffect, after}
use Rattle.czi_machine.specs.Formers.{LiesHeld, Lain, brought_back, metadata_place, present}
use Rattle.czi_machine.specs.Places.{Asked, AskedLayout, Placed, asked_layout, back, can_be_used, directories, directories_asked, freeing, items_asked, laid, leaving, placed, relaid, space_of, stays, stays_or_back, staying, undo_asks, walk_goes_on}
use Rattle.czi_machine.specs.Planned.{Brings, BringsMetadata, FindsAttachment, FindsMetadata, FindsTile, Sets}
use Rattle.czi_machine.specs.State.{Former, Items, State, item_places, item_spans, items_of, not_among, spans_of}
use Rattle.czi_machine.specs.Written.{Piece, byte_of}
use Rattle.czi_machine.proofs.Asking.{spans-append}
use Rattle.czi_machine.proofs.Clear.{heads_within}
use Rattle.czi_machine.proofs.Leaving.{among_themselves}
use Rattle.czi_machine.proofs.NewSegment.{header_length}
use Rattle.czi_machine.proofs.Omitted.{all_stay_same, staying-both, staying_changed}
use Rattle.czi_machine.proofs.Over.{none_put}
use Rattle.czi_machine.proofs.TableSubblocks.{each_stays, metadata_undone_row, option_stays}
use Rattle.czi_machine.proofs.Tiled.{All-filter, All-map}
use Rattle.czi_region.specs.declared.block.Region.{Region}
use Rattle.czi_space.specs.State.{MapState, MeetsNone}
use Rattle.czi_undo.specs.Parts.{LainPart, no_metadata, return_of, to_metadata, unchanged}
use Rattle.czi_undo.specs.Stands.{IsPart}
use Rattle.czi_undo.specs.declared.inverse.Inverse.{Inverse}
use Rattle.czi_undo.specs.declared.inverse.Part.{Part}
use Rattle.czi_undo.specs.declared.inverse.Part.TheVariants.{DropAtt, DropSub, InsertAtt, InsertSub, NoMeta, PutAtt, PutMeta, PutSub, Same as Unchanged}
use Rattle.czi_plan.specs.Changing.{returned}
use Rattle.czi_plan.specs.Conditions.{IsMapOf, LiesIn}
use Rattle.czi_plan.specs.Does.{layout_by}
use Rattle.czi_plan.specs.Marks.{byte_span, head_mark, is_new, pointer_mark}
use Rattle.czi_plan.specs.Pieces.{bytes_in, pieces_of}
use Rattle.czi_plan.specs.Geometry.{IsLong}
use Rattle.czi_plan.specs.Plan.{dead_of, extents_after, freed_of, usable_of, used_of}
use Rattle.czi_plan.specs.Setting.{IsMetadataBack, StagesMetadata, length_with, metadata_brought, metadata_left, metadata_marks}
use Rattle.czi_plan.specs.Undoing.{IsMetadataSetting, Undoes, UndoesIn}
use Rattle.czi_plan.specs.declared.plan.EditPlan.{EditPlan}
use Rattle.czi_plan.proofs.Directing.{IsPut}
use Rattle.czi_plan.proofs.Doing.{layout_apart}
use Rattle.czi_plan.proofs.Linking.{cover-fewer, is_32}
use Rattle.czi_plan.proofs.Order.{at_place}
use Rattle.czi_plan.proofs.Apart.{brings_apart}
use Rattle.czi_plan.proofs.Setting.{after as extents_then, apart, brought_by, brought_covers, deleted_are, extent_is, items_leave, layout_is, length-metadata, long, new_extents, parts, plans_of, written}
use Rattle.czi_plan.proofs.Undone.{brought_of, spans_after, without_dead}

-- An undo that changes nothing: everything stays.
among_all : (present' : List Span) (ps : List Place) → AllByRecursion (λ (p : Place). list_any (same_span p.span) present' ≡ true) ps → map (stays_or_back present') ps ≡ map stays ps
among_all present' [] all = refl
among_all present' (p ∷ ps) all = rw (all.0) (ap (λ l. stays p ∷ l) (among_all present' ps all.1))

among_some : (present' : List Span) (o : Option Place) → AllByRecursion (λ (p : Place). list_any (same_span p.span) present' ≡ true) (option_to_list o) → option_map (stays_or_back present') o ≡ option_map stays o
among_some present' None all = refl
among_some present' (Some p) all = rw (all.0)

staying_all : (ps : List Place) → staying (map stays ps) ≡ spans_of ps
staying_all ps = staying_changed back [] ps (λ p rest. refl)

staying_some : (o : Option Place) → staying (option_to_list (option_map stays o)) ≡ spans_of (option_to_list o)
staying_some None = refl
staying_some (Some p) = refl

none_left : (spans : List Span) (ps : List Place) → AllByRecursion (λ (p : Place). list_any (same_span p.span) spans ≡ true) ps → not_among spans ps ≡ []
none_left spans [] all = refl
none_left spans (p ∷ ps) all = let there : list_any (same_span p.span) spans ≡ true = all.0 in rw there (none_left spans ps all.1)

themselves_among : (ps : List Place) → AllByRecursion (λ (p : Place). list_any (same_span p.span) (spans_of ps) ≡ true) ps
themselves_among ps = All-map (λ (p : Place). p.span) (λ t. list_any (same_span t) (spans_of ps) ≡ true) ps (among_themselves (spans_of ps))

module _ (s : State) (d : Document) where
  abbrev l : Layout
  l = s.layout

  abbrev all_asked : AskedLayout
  all_asked = asked_layout s d (map stays s.layout.subblocks) (map stays s.layout.attachments) (option_map stays s.layout.metadata)

  asks_all : (n : ℕ) → undo_asks s (record { document = d; items = items_of s.layout; edits = n }) ≡ all_asked
  asks_all n =
      let present' : List Span = item_spans (items_of l) in
      let P : Place → Type 0 = λ p. list_any (same_span p.span) present' ≡ true in
      let one = All-append P l.subblocks _ (themselves_among (item_places (items_of l))) in
      let two = All-append P l.attachments (option_to_list l.metadata) one.1 in
      λ j. asked_layout s d (among_all present' l.subblocks one.0 j) (among_all present' l.attachments two.0 j) (among_some present' l.metadata two.1 j)

  items_stay : staying (items_asked all_asked) ≡ item_spans (items_of s.layout)
  items_stay =
      let M : List Asked = option_to_list (option_map stays l.metadata) in
      staying-both (map stays l.subblocks) (map stays l.attachments ++ M)
      ∙ ((λ j. staying_all l.subblocks j ++ (staying-both (map stays l.attachments) M ∙ (λ i. staying_all l.attachments i ++ staying_some l.metadata i)) j)
      ∙ sym (spans-append l.subblocks (l.attachments ++ option_to_list l.metadata) ∙ ap (λ z. spans_of l.subblocks ++ z) (spans-append l.attachments (option_to_list l.metadata))))

  directories_stay : staying (directories_asked all_asked) ≡ spans_of (directories s.layout)
  directories_stay =
      let dir : all_asked.directory ≡ option_map stays l.directory = rw (all_stay_same l.subblocks) refl in
      let attdir : all_asked.attdir ≡ option_map stays l.attdir = rw (all_stay_same l.attachments) refl in
      (λ j. staying (option_to_list (dir j) ++ option_to_list (attdir j)))
      ∙ (staying-both (option_to_list (option_map stays l.directory)) (option_to_list (option_map stays l.attdir)) ∙ ((λ j. staying_some l.directory j ++ staying_some l.attdir j) ∙ sym (spans-append (option_to_list l.directory) (option_to_list l.attdir))))

  nothing_leaves : leaving s.layout all_asked ≡ []
  nothing_leaves =
      (λ j. not_among (items_stay j) (item_places (items_of l)) ++ not_among (directories_stay j) (directories l))
      ∙ (λ j. none_left (item_spans (items_of l)) (item_places (items_of l)) (themselves_among (item_places (items_of l))) j ++ none_left (spans_of (directories l)) (directories l) (themselves_among (directories l)) j)

  pub nothing_undone : (n : ℕ) → laid s (undo_asks s (record { document = d; items = items_of s.layout; edits = n })) ≡ Ok (freeing s.layout (record { directory = s.layout.directory; attdir = s.layout.attdir; items = items_of s.layout; used = []; length = s.layout.length }) [])
  nothing_undone n =
      let its : Placed = record { directory = l.directory; attdir = l.attdir; items = items_of l; used = []; length = l.length } in
      let goes : placed l (space_of s) all_asked ≡ Ok its =
      rw (
        each_stays l (space_of s) l.subblocks,
        each_stays l (space_of s) l.attachments,
        option_stays l (space_of s) l.metadata,
        all_stay_same l.subblocks,
        option_stays l (space_of s) l.directory,
        all_stay_same l.attachments,
        option_stays l (space_of s) l.attdir,
      ) in
      ap (laid s) (asks_all n) ∙ (ap (λ r. r >>= λ p. Ok (relaid l all_asked p)) goes ∙ ap (λ g. Ok (freeing l its g)) nothing_leaves)

-- what is said of metadata that come back
abbrev pub IsLainMetadata : List ℕ → Items → FormatMetaItem → Type 0
IsLainMetadata image items i = (meta_item i.segment (data_of image i.segment) ≡ Some i) × (i.segment.id ≡ metadata_id) × (i.segment.used ≤ i.segment.allocated) × IsFalse (list_any (same_span (extent i.segment)) (item_spans items))

-- What a plan of it is.
module _ {image : List ℕ} {live : Live} {s : State} {x : Index} {m : MapState} (z : CodeSetting MetaItem) {region : Region} {new : EditPlan} (lies : LiesIn image live s x m) (is : IsMapOf x m) (r : StagesMetadata x m z returned region new)
    (lain : AllByRecursion (λ i. IsLainMetadata image (items_of s.layout) (meta_item_of i)) (metadata_brought z)) where
  abbrev pub effect : DocumentEffect
  effect = record { subblocks = []; attachments = []; metadata = mapped_setting (metadata_of image) (mapped_setting meta_item_of (setting_of z)) }

  abbrev pub former_then : ℕ → Former
  former_then n = record { document = after effect s.document; items = record (items_of s.layout) { metadata = set (mapped_setting meta_item_place (setting_of z)) s.layout.metadata }; edits = n }

  as_long : s.layout.length ≡ new.length
  as_long = sym lies.lies.length ∙ (is.length ∙ sym r.length)

  -- metadata that come back and can't be used again are in no extent
  met : (i : MetaItem) → metadata_brought z ≡ i ∷ [] → can_be_used (meta_item_place i) ≡ false → MeetsNone (meta_item_span i) s.layout.deleted
  met i one e = subst (MeetsNone (meta_item_span i)) (sym is.extents ∙ lies.lies.deleted) ((subst (AllByRecursion (IsMetadataBack x m)) one r.brings.0).0.1.among.1 e)

  -- nothing is put into them but their header
  clear_back : (i : MetaItem) → z ≡ To (Some i) → (q : ℕ) → i.span.at + 32 ≤ q → q < i.span.at + 32 + i.head.allocated → byte_of (pieces_of region new) q ≡ None
  clear_back i same' q low high =
      let one : metadata_brought z ≡ i ∷ [] = ap metadata_brought same' in
      let top = length_with m z returned in
      let left : List Place = metadata_left z x in
      let after' : List Span = extents_then is r in
      let id : (meta_item_of i).segment.id ≡ metadata_id = (subst (AllByRecursion (IsMetadataBack x m)) one r.brings.0).0.0.0 in
      let head' : length (header_bytes (meta_item_of i).segment) ≡ 32 = header_length (meta_item_of i).segment (ap (length {A = ℕ}) id ∙ length-metadata) in
      let far : IsLong top (meta_item_span i) = (subst (λ l. AllByRecursion (IsLong top) (map meta_item_span l)) one (long is r)).0 in
      none_put (pieces_of region new) q (omega (
        arith,
        at_place,
        low,
        high,
        head',
        i.extent,
        far.far,
        (written is r).covers q,
        ap (λ w. cover (map byte_span (bytes_in region w)) q) r.brings.1,
        ap (λ y. cover (map byte_span (metadata_marks y)) q) same',
        ap (λ l. cover (map meta_item_span l) q) one,
        brought_covers z returned q,
        (parts is r).once q,
        heads_within (filter (is_new m.extents) after') q (All-filter _ (is_new m.extents) after' (is_32 top after' (parts is r).after_long)),
        heads_within (dead_of left) q (is_32 top (dead_of left) (parts is r).dead_long),
        cover-fewer (is_new m.extents) after' q,
      ))

  found_back : (i : MetaItem) → z ≡ To (Some i) → FindsMetadata image (pieces_of region new) (meta_item_of i) (metadata_of image (meta_item_of i))
  found_back i same' =
      let one : metadata_brought z ≡ i ∷ [] = ap metadata_brought same' in
      let h = (subst (AllByRecursion (λ i. IsLainMetadata image (items_of s.layout) (meta_item_of i))) one lain).0 in
      let b = (subst (AllByRecursion (IsMetadataBack x m)) one r.brings.0).0 in
      let mark : AllByRecursion (IsPut (pieces_of region new)) (pointer_mark 92 i.span.at ∷ head_mark (meta_item_of i).segment ∷ []) = subst (λ y. AllByRecursion (IsPut (pieces_of region new)) (metadata_marks y)) same' (written is r).puts_own in
      record {
        id = h.1;
        sound = h.2;
        reads = h.0;
        contents = refl;
        inside = omega (arith, b.1.inside, i.extent, lies.lies.length, lies.loosely.length);
        puts = record { head = mark.1.0.1; clear = clear_back i same' };
      }

finds_of : {image : List ℕ} {pieces : List Piece} (z : CodeSetting MetaItem) → ((i : MetaItem) → z ≡ To (Some i) → FindsMetadata image pieces (meta_item_of i) (metadata_of image (meta_item_of i)))
    → Sets (FindsMetadata image pieces) (mapped_setting meta_item_of (setting_of z)) (mapped_setting (metadata_of image) (mapped_setting meta_item_of (setting_of z)))
finds_of Same found = tt
finds_of (To None) found = tt
finds_of (To (Some i)) found = found i refl

comes_of : {image : List ℕ} {pieces : List Piece} (z : CodeSetting MetaItem) → ((i : MetaItem) → z ≡ To (Some i) → FindsMetadata image pieces (meta_item_of i) (metadata_of image (meta_item_of i)))
    → Sets (BringsMetadata image pieces) (mapped_setting meta_item_of (setting_of z)) (mapped_setting (metadata_of image) (mapped_setting meta_item_of (setting_of z)))
comes_of Same found = tt
comes_of (To None) found = tt
comes_of (To (Some i)) found = inr (found i refl)

-- The layout is the machine's.
lays_back : {image : List ℕ} {live : Live} {s : State} {x : Index} {m : MapState} (z : CodeSetting MetaItem) {region : Region} {new : EditPlan} (lies : LiesIn image live s x m) (is : IsMapOf x m) (r : StagesMetadata x m z returned region new)
    (lain : AllByRecursion (λ i. IsLainMetadata image (items_of s.layout) (meta_item_of i)) (metadata_brought z)) (n : ℕ) → laid s (undo_asks s (former_then z lies is r lain n)) ≡ Ok (layout_by new s)
lays_back {s = s} Same {new = new} lies is r lain n =
    let length' = as_long Same lies is r lain in
    nothing_undone s (after (effect Same lies is r lain) s.document) n
    ∙ ((λ j. Ok (record s.layout { length = length' j; walk_end = if walk_goes_on s.layout && nat_lt s.layout.length (length' j) then length' j else s.layout.walk_end; deleted = deleted_are lies is r j })) ∙ ap (λ l. Ok l) (sym (layout_is lies is r)))
lays_back {s = s} {x = x} (To None) {new = new} lies is r lain n =
    let length' = as_long (To None) lies is r lain in
    let deleted : deleted_after [] (usable_of (option_to_list s.layout.metadata)) s.layout.deleted ≡ deleted_after (used_of new) (freed_of new) s.layout.deleted
    = (λ j. deleted_after [] (usable_of (option_to_list (sym lies.lies.metadata j))) s.layout.deleted) ∙ deleted_are lies is r in
    metadata_undone_row s (after (effect (To None) lies is r lain) s.document) None (layout_apart s.layout x lies.lies) tt
    ∙ ((λ j. Ok (record s.layout { length = length' j; metadata = None; walk_end = if walk_goes_on s.layout && nat_lt s.layout.length (length' j) then length' j else s.layout.walk_end; deleted = deleted j })) ∙ ap (λ l. Ok l) (sym (layout_is lies is r)))
lays_back {s = s} {x = x} (To (Some i)) {new = new} lies is r lain n =
    let length' = as_long (To (Some i)) lies is r lain in
    let P : Place → Type 0 = λ p. IsFalse (list_any (same_span p.span) (item_spans (items_of s.layout))) in
    let new' : P (meta_item_place i) = subst (λ e. IsFalse (list_any (same_span e) (item_spans (items_of s.layout)))) (sym (extent_is i)) lain.0.3 in
    let takes : without (meta_item_span i ∷ []) s.layout.deleted ≡ without (usable_of (meta_item_place i ∷ [])) s.layout.deleted
    = without_dead (meta_item_place i) [] s.layout.deleted (met (To (Some i)) lies is r lain i refl) ∙ ap (λ l. without l s.layout.deleted) (append-nil (usable_of (meta_item_place i ∷ []))) in
    let deleted : deleted_after (meta_item_span i ∷ []) (usable_of (option_to_list s.layout.metadata)) s.layout.deleted ≡ deleted_after (used_of new) (freed_of new) s.layout.deleted
    = ap (with_all_freed (sorted span_le (usable_of (option_to_list s.layout.metadata)))) takes ∙ ((λ j. deleted_after (usable_of (meta_item_place i ∷ [])) (usable_of (option_to_list (sym lies.lies.metadata j))) s.layout.deleted) ∙ deleted_are lies is r) in
    metadata_undone_row s (after (effect (To (Some i)) lies is r lain) s.document) (Some (meta_item_place i)) (layout_apart s.layout x lies.lies) (new', tt)
    ∙ ((λ j. Ok (record s.layout { length = length' j; metadata = Some (meta_item_place i); walk_end = if walk_goes_on s.layout && nat_lt s.layout.length (length' j) then length' j else s.layout.walk_end; deleted = deleted j })) ∙ ap (λ l. Ok l) (sym (layout_is lies is r)))

undoes_in : {image : List ℕ} {live : Live} {s : State} {x : Index} {m : MapState} (z : CodeSetting MetaItem) {region : Region} {new : EditPlan} (lies : LiesIn image live s x m) (is : IsMapOf x m) (r : StagesMetadata x m z returned region new)
    (lain : AllByRecursion (λ i. IsLainMetadata image (items_of s.layout) (meta_item_of i)) (metadata_brought z)) (n : ℕ) → UndoesIn image live s (former_then z lies is r lain n) x region new
undoes_in {image = image} {live = live} {s = s} {x = x} {m = m} z {region = region} {new = new} lies is r lain n = record {
  goes = lays_back z lies is r lain n;
  effect = effect z lies is r lain;
  document = refl;
  spans = spans_after new.change (extents_after new s.layout.deleted) new.length s.layout live x lies.lies lies.loosely.extents;
  plans = plans_of lies is r (effect z lies is r lain) refl refl (comes_of z (found_back z lies is r lain));
  finds = record {
    tiles = subst (λ (l : List (CodeAct Tile)). Brings (FindsTile image (pieces_of region new)) (mapped tile_of (acts_of l)) []) (sym r.change.acts) tt;
    attachments = subst (λ (l : List (CodeAct AttItem)). Brings (FindsAttachment image (pieces_of region new)) (mapped att_item_of (acts_of l)) []) (sym r.change.attachments) tt;
    metadata = subst (λ (y : CodeSetting MetaItem). Sets (FindsMetadata image (pieces_of region new)) (mapped_setting meta_item_of (setting_of y)) (effect z lies is r lain).metadata) (sym r.change.metadata) (finds_of z (found_back z lies is r lain));
  };
  apart = brings_apart live s.layout x (live_change_of new.change x) lies.loosely.extents lies.lies (λ q. omega (arith, ap (λ l. cover l q) (new_extents lies is r), apart z returned is (brought_by x m region z returned new.writes.items is r.brings) q));
  leaves = items_leave lies is r;
}

-- What an inverse does with the metadata, and what the code sets.
abbrev pub SameSetting : CodeSetting MetaItem → LainPart → Type 0
SameSetting Same q = q ≡ unchanged
SameSetting (To None) q = q ≡ no_metadata
SameSetting (To (Some i)) q = (y : Lain FormatMetaItem) × (q ≡ to_metadata y) × (meta_item_of i ≡ y.item) × (i.walked ≡ y.walked)

setting_follows : (image : List ℕ) (items : Items) (n : ℕ) (part : Part) (z : CodeSetting MetaItem) (q : LainPart) → IsPart part q → IsMetadataSetting part z → LiesHeld image items (return_of n q) → SameSetting z q
setting_follows image items n (DropSub place) z q is sets held = absurd sets
setting_follows image items n (PutSub place info h) z q is sets held = absurd sets
setting_follows image items n (InsertSub place info h) z q is sets held = absurd sets
setting_follows image items n (DropAtt place) z q is sets held = absurd sets
setting_follows image items n (PutAtt place info h) z q is sets held = absurd sets
setting_follows image items n (InsertAtt place info h) z q is sets held = absurd sets
setting_follows image items n NoMeta z q is sets held = subst (λ y. SameSetting y q) (sym sets) is
setting_follows image items n (PutMeta h) z q is sets held =
    let lain = (subst (λ y. LiesHeld image items (return_of n y)) is.1 held).metadata.0 in
    subst (λ y. SameSetting y q) (sym sets.1) (is.0, is.1, sets.2.item is.0 is.2 (lain.1, lain.2), sets.2.walked ∙ is.2.held.walked)
setting_follows image items n Unchanged z q is sets held = subst (λ y. SameSetting y q) (sym sets) is

lain_setting : (image : List ℕ) (items : Items) (n : ℕ) (z : CodeSetting MetaItem) (q : LainPart) → SameSetting z q → LiesHeld image items (return_of n q) → AllByRecursion (λ i. IsLainMetadata image items (meta_item_of i)) (metadata_brought z)
lain_setting image items n Same q same' held = tt
lain_setting image items n (To None) q same' held = tt
lain_setting image items n (To (Some i)) q same' held = (subst (IsLainMetadata image items) (sym same'.2) (subst (λ y. LiesHeld image items (return_of n y)) same'.1 held).metadata.0, tt)

former_is : {image : List ℕ} {live : Live} {s : State} {x : Index} {m : MapState} (z : CodeSetting MetaItem) {region : Region} {new : EditPlan} (lies : LiesIn image live s x m) (is : IsMapOf x m) (r : StagesMetadata x m z returned region new)
    (lain : AllByRecursion (λ i. IsLainMetadata image (items_of s.layout) (meta_item_of i)) (metadata_brought z)) (n : ℕ) (q : LainPart) → SameSetting z q → brought_back image (return_of n q) (present s) ≡ former_then z lies is r lain n
former_is {image = image} {s = s} Same lies is r lain n q same' = ap (λ y. brought_back image (return_of n y) (present s)) same'
former_is {image = image} {s = s} (To None) lies is r lain n q same' = ap (λ y. brought_back image (return_of n y) (present s)) same'
former_is {image = image} {s = s} (To (Some i)) lies is r lain n q same' =
    let place : metadata_place same'.0 ≡ meta_item_place i = λ j. record { span = (ap (λ (y : FormatMetaItem). extent y.segment) (sym same'.2) ∙ sym (extent_is i)) j; walked = sym same'.3 j } in
    ap (λ y. brought_back image (return_of n y) (present s)) same'.1
    ∙ (λ j. record { document = record s.document { metadata = Some (metadata_of image (sym same'.2 j)) }; items = record (items_of s.layout) { metadata = Some (place j) }; edits = n })

-- The plan of an inverse.
pub undoes_metadata : (x : Index) (m : MapState) (i : Inverse) (part : Part) (z : CodeSetting MetaItem) (region : Region) (new : EditPlan) → IsMapOf x m → i.parts.items ≡ part ∷ [] → IsMetadataSetting part z → StagesMetadata x m z returned region new → Undoes x m i region new
undoes_metadata x m i part z region new is only sets r image live s o returns f formers u =
    let b = brought_of image live s x m i o returns f formers part only u in
    let same' = setting_follows image (items_of s.layout) b.edits part z b.part_is b.is sets b.held in
    let lain = lain_setting image (items_of s.layout) b.edits z b.part_is same' b.held in
    subst (λ y. UndoesIn image live s y x region new) (sym (b.newest ∙ former_is z u.lies is r lain b.edits b.part_is same')) (undoes_in z u.lies is r lain b.edits)
