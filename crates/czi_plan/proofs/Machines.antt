-- What an act on a list is to the machine; and that it is so of the subblocks, and of the attachments.
use Rattle.std.proofs.Common.{◌≡◌, ℕ, ◌+◌, ◌*◌, ◌<◌, ◌≤◌, ◌^◌, ℤ, List, [], ◌∷◌, ◌++◌, map, filter, length, sum, true, Bool, Option, Some, None, option_map, option_to_list, Ok, refl, ap, sym, ◌∙◌, subst, arith, append-nil, inl, inr, ◌||◌, ◌&&◌, nat_lt, if◌then◌else◌, ◌⊎◌}
use Rattle.std.specs.Bool.{⊤}
use Rattle.std.specs.List.{AllByRecursion}
use Rattle.czi_format.specs.Document.{Attachment, Document, Subblock}
use Rattle.czi_format.specs.Entry.{A1, a1_len, entry_len}
use Rattle.czi_format.specs.FirstFault.{◌>>=◌}
use Rattle.czi_format.specs.Layout.{Layout, Place}
use Rattle.czi_format.specs.Live.{AttItem as FormatAttItem, Directory, Live, Tile as FormatTile, attachment_directory, attachment_of, directory, subblock_of}
use Rattle.czi_format.specs.Segment.{Segment, attdir_id, directory_id, extent}
use Rattle.czi_format.specs.Space.{deleted_after}
use Rattle.czi_format.specs.Span.{Span}
use Rattle.czi_format.proofs.Local.{attdir_own, directory_own}
use Rattle.czi_image.specs.Applied.{place_after}
use Rattle.czi_image.specs.Change.{act_of, acts_of, a1s_after, attdir_in, directory_in, directory_set, entries_after, live_change_of, setting_of}
use Rattle.czi_image.specs.Holds.{LiesAs, att_item_place, directory_place, extent_of, lies_at, meta_item_place, tile_place}
use Rattle.czi_image.specs.View.{att_item_of, meta_item_of, tile_of}
use Rattle.czi_image.specs.declared.change.Act.{Act as CodeAct}
use Rattle.czi_image.specs.declared.change.Change.{Change as CodeChange}
use Rattle.czi_image.specs.declared.change.DirectoryChange.{DirectoryChange}
use Rattle.czi_image.specs.declared.index.Index.{Index}
use Rattle.czi_image.specs.declared.types.AttItem.{AttItem}
use Rattle.czi_image.specs.declared.types.Tile.{Tile}
use Rattle.czi_machine.specs.Change.{Act, Change, Setting, brought, changed, mapped, mapped_setting, same, set, set_new, to}
use Rattle.czi_machine.specs.Cover.{cover}
use Rattle.czi_machine.specs.Edit.{DocumentEffect, in_attachments, in_subblocks}
use Rattle.czi_machine.specs.InOrder.{LiesInOrder, StaysOrNew, attachments_stay, directory_needs, directory_spans, needs_of, tiles_stay}
use Rattle.czi_machine.specs.LiveChange.{LiveChange, new_segments}
use Rattle.czi_machine.specs.Places.{Fitted, attdir_need, can_be_used, directory_need, edit_asks, freeing, fresh, in_place, laid, space_of, walk_goes_on}
use Rattle.czi_machine.specs.Planned.{Brings as Both, BringsAttachment, BringsTile, ListsAttachments, ListsTiles, Plans}
use Rattle.czi_machine.specs.Patch.{total}
use Rattle.czi_machine.specs.Puts.{PutsSegment}
use Rattle.czi_machine.specs.Ranges.{asked_for}
use Rattle.czi_machine.specs.State.{State, items_of, spans_of}
use Rattle.czi_machine.specs.Table.{AreApart, changes, directory_laid, directory_left, fit_brought}
use Rattle.czi_machine.specs.Writes.{PutsDeleted, PutsPointer, WritesAround, dead, head, marked}
use Rattle.czi_machine.specs.Written.{Piece, byte_of}
use Rattle.czi_machine.specs.Change.{omitted}
use Rattle.czi_machine.proofs.Cover.{cover-append}
use Rattle.czi_machine.proofs.Omitted.{all_stay_same}
use Rattle.czi_machine.proofs.TableSubblocks.{attachments_row, change_moves, new_never, subblocks_row}
use Rattle.std.proofs.lemmas.List.{map-append}
use Rattle.czi_plan.specs.Conditions.{LiesIn}
use Rattle.czi_plan.specs.Directory.{need_of}
use Rattle.czi_plan.specs.Does.{layout_by}
use Rattle.czi_plan.specs.Kind.{Kind, of_attachments, of_subblocks}
use Rattle.czi_plan.specs.Changing.{entries_in, tiles_brought}
use Rattle.czi_image.specs.declared.change.DirectoryChange.TheVariants.{Kept, New, Patched}
use Rattle.czi_plan.proofs.Acts.{act_as, brought_act, brought_as, mapped_act}
use Rattle.czi_space.specs.State.{MapState}
use Rattle.czi_plan.specs.Plan.{extents_after}
use Rattle.czi_plan.specs.declared.plan.EditPlan.{EditPlan}
use Rattle.czi_plan.proofs.Directing.{ListsItems, PointsTo, PutsHead, dir_in, points_to}

-- a directory that is new
abbrev pub new_dir : DirectoryChange → List Place
new_dir Kept = []
new_dir Patched = []
new_dir (New d) = directory_place d ∷ []

-- what a change brings, as places
abbrev pub brought_places : CodeChange → List Place
brought_places c = new_dir c.directory ++ (brought (mapped tile_place (acts_of c.tiles.items)) ++ (new_dir c.attdir ++ (brought (mapped att_item_place (acts_of c.attachments.items))
    ++ option_to_list (set_new (mapped_setting meta_item_place (setting_of c.metadata))))))

-- what an act brings, as images
pub brought_images : {C X : Type 0} (f : C → X) (a : CodeAct C) → brought (mapped f (act_of a)) ≡ map f (tiles_brought a)
brought_images f a = ap brought (mapped_act f a) ∙ (brought_act (act_as f a) ∙ brought_as f a)

-- A list of the kind, in documents, layouts and images, with live items T.
pub record Machine {C E S : Type 0} (T : Type 0) (k : Kind C E S) (effect : Change S → DocumentEffect) : Type 1 where
  pub contents : Document → List S
  pub places : Layout → List Place
  pub dir_place : Layout → Option Place
  pub live_items : Live → List T
  pub live_dir : Live → Option Directory
  pub position : Live → ℤ
  pub live : C → T
  pub segment : T → Segment
  pub entry : T → E
  pub same_segment : (t : C) → segment (live t) ≡ k.segment t
  pub same_entry : (t : C) → entry (live t) ≡ k.entry t
  -- what the index has of it is there
  pub lies : (l : Layout) (x : Index) → LiesAs l x → (map k.place (k.items x) ≡ places l) × (option_map directory_place (k.directory x) ≡ dir_place l)
  pub holds : (image : List ℕ) (li : Live) (s : State) (x : Index) (m : MapState) → LiesIn image li s x m → (map live (k.items x) ≡ live_items li) × (lies_at (k.directory x) ≡ extent_of (live_dir li)) × PointsTo k.id (position li) (live_dir li)
  pub lens : (image : List ℕ) (li : Live) (s : State) (x : Index) (m : MapState) → LiesIn image li s x m → map k.len_of (contents s.document) ≡ map k.len (entries_in k (k.items x))
  -- whether the directory stays, and what a change needs
  pub stay : State → DocumentEffect → Bool
  pub stays : (s : State) (c : Change S) → changes c (length (places s.layout)) ≡ true
      → stay s (effect c) ≡ in_place (dir_place s.layout) k.head (places s.layout) (asked_for (λ z. fresh (k.need z)) c (places s.layout)) (map k.len_of (contents s.document)) (map k.len_of (changed c (contents s.document)))
  pub needs : (s : State) (c : Change S) → needs_of s (effect c) ≡ map k.need (brought c) ++ directory_needs (stay s (effect c)) (need_of (k.head + sum (map k.len_of (changed c (contents s.document)))))
  -- where everything lies then
  pub set_list : Layout → Option Place → List Place → ℕ → List Span → Layout
  pub row : (s : State) (c : Change S) (item : Fitted (List (Act Place))) (dir : Fitted (Option Place)) → AreApart s.layout → changes c (length (places s.layout)) ≡ true
      → fit_brought s.layout (space_of s) k.need c ≡ Ok item
      → directory_laid s.layout item.space (dir_place s.layout) (stay s (effect c)) (need_of (k.head + sum (map k.len_of (changed c (contents s.document))))) ≡ Ok dir
      → laid s (edit_asks s (effect c)) ≡ Ok (set_list s.layout dir.places (changed item.places (places s.layout)) dir.space.length
      (deleted_after (item.used ++ dir.used) (spans_of (filter can_be_used (omitted c (places s.layout) ++ directory_left (stay s (effect c)) (dir_place s.layout)))) s.layout.deleted))
  pub layout_is : (p : EditPlan) (s : State) (a : CodeAct C) (d : DirectoryChange) → k.Does p.change a d
      → layout_by p s ≡ set_list s.layout (place_after d (dir_place s.layout)) (changed (mapped k.place (act_of a)) (places s.layout)) p.length (extents_after p s.layout.deleted)
  -- what becomes of what is live, and what that is to the machine
  pub set_turn : Setting Directory → List (Act T) → LiveChange
  pub turn : (c : CodeChange) (x : Index) (a : CodeAct C) (d : DirectoryChange) → k.Does c a d
      → live_change_of c x ≡ set_turn (directory_set (λ z. dir_in k z (map entry (changed (mapped live (act_of a)) (map live (k.items x))))) d (k.directory x)) (mapped live (act_of a))
  pub comes : (c : CodeChange) (a : CodeAct C) (d : DirectoryChange) → k.Does c a d → brought_places c ≡ new_dir d ++ map k.place (tiles_brought a)
  pub news : (o : Setting Directory) (c : List (Act T)) (q : ℕ) → cover (map extent (new_segments (set_turn o c))) q ≡ cover (map extent (option_to_list (option_map (λ (d : Directory). d.segment) (set_new o)))) q + cover (map extent (map segment (brought c))) q
  pub order : (s : State) (c : Change S) (o : Setting Directory) (acts : List (Act T)) → Both (λ x y. ⊤) acts c → StaysOrNew (stay s (effect c)) (dir_place s.layout) o
      → LiesInOrder s (effect c) (set_turn o acts) (map (λ t. extent (segment t)) (brought acts) ++ directory_spans (stay s (effect c)) o)
  pub around : (li : Live) (l l' : Layout) (o : Setting Directory) (acts : List (Act T)) (pieces : List Piece) → PutsPointer (λ (d : Directory). d.segment) pieces k.pointer (position li) o
      → ((q : ℕ) → q < 112 → (q < k.pointer) ⊎ (k.pointer + 8 ≤ q) → byte_of pieces q ≡ None)
      → ((q b : ℕ) → byte_of pieces q ≡ Some b → 1 ≤ cover (record { at = 84; len = 16 } ∷ record { at = 104; len = 8 } ∷ (map extent (new_segments (set_turn o acts)) ++ map head (marked l l'))) q)
      → AllByRecursion (PutsDeleted l.deleted pieces) l'.deleted → AllByRecursion (PutsHead pieces) (dead l l') → WritesAround li.header (set_turn o acts) l l' pieces
  pub Brought : List ℕ → List Piece → T → S → Type 0
  pub brings : (image : List ℕ) (pieces : List Piece) (t : C) (s : S) (padding : ℕ) → k.Says t s → (k.segment t).used ≡ length (k.contents t s 0) → PutsSegment pieces (k.segment t) (k.contents t s padding) → Brought image pieces (live t) s
  pub plans : (image : List ℕ) (li : Live) (l l' : Layout) (c : Change S) (o : Setting Directory) (acts : List (Act T)) (pieces : List Piece) → ListsItems k pieces o (live_dir li) (map entry (live_items li)) (map entry (changed acts (live_items li)))
      → Both (Brought image pieces) acts c → WritesAround li.header (set_turn o acts) l l' pieces → l'.length < 2 ^ 63 → Plans image l l' li (effect c) (set_turn o acts) pieces

-- how long the entries are
pub entry_lens : (image : List ℕ) (ts : List Tile) → map of_subblocks.len_of (map (subblock_of image) (map tile_of ts)) ≡ map entry_len (entries_in of_subblocks ts)
entry_lens image [] = refl
entry_lens image (t ∷ ts) = ap (λ l. entry_len (tile_of t).entry ∷ l) (entry_lens image ts)

pub a1_lens : (image : List ℕ) (is : List AttItem) → map of_attachments.len_of (map (attachment_of image) (map att_item_of is)) ≡ map a1_len (entries_in of_attachments is)
a1_lens image [] = refl
a1_lens image (i ∷ is) = ap (λ l. 128 ∷ l) (a1_lens image is)

-- the list that isn't changed stays, with its directory
pub attachments_same : (s : State) (c : Change Subblock) → attachments_stay s (in_subblocks c) ≡ true
attachments_same s c = let still = all_stay_same s.layout.attachments in rw still refl

pub tiles_same : (s : State) (c : Change Attachment) → tiles_stay s (in_attachments c) ≡ true
tiles_same s c = let still = all_stay_same s.layout.subblocks in rw still refl

pub tiles_needed : (s : State) (c : Change Subblock) → changes c (length s.layout.subblocks) ≡ true
    → tiles_stay s (in_subblocks c) ≡ in_place s.layout.directory 128 s.layout.subblocks (asked_for (λ z. fresh (of_subblocks.need z)) c s.layout.subblocks) (map of_subblocks.len_of s.document.subblocks) (map of_subblocks.len_of (changed c s.document.subblocks))
tiles_needed s c ch =
    let moved = change_moves (λ z. fresh (of_subblocks.need z)) c s.layout.subblocks (new_never of_subblocks.need) ch in
    ap (λ z. z || in_place s.layout.directory 128 s.layout.subblocks (asked_for (λ z. fresh (of_subblocks.need z)) c s.layout.subblocks) (map of_subblocks.len_of s.document.subblocks) (map of_subblocks.len_of (changed c s.document.subblocks))) moved

pub atts_needed : (s : State) (c : Change Attachment) → changes c (length s.layout.attachments) ≡ true
    → attachments_stay s (in_attachments c) ≡ in_place s.layout.attdir 256 s.layout.attachments (asked_for (λ z. fresh (of_attachments.need z)) c s.layout.attachments) (map of_attachments.len_of s.document.attachments) (map of_attachments.len_of (changed c s.document.attachments))
atts_needed s c ch =
    let moved = change_moves (λ z. fresh (of_attachments.need z)) c s.layout.attachments (new_never of_attachments.need) ch in
    ap (λ z. z || in_place s.layout.attdir 256 s.layout.attachments (asked_for (λ z. fresh (of_attachments.need z)) c s.layout.attachments) (map of_attachments.len_of s.document.attachments) (map of_attachments.len_of (changed c s.document.attachments))) moved

-- a directory that is listed, as the machine has it
pub lists_tiles : (pieces : List Piece) (o : Setting Directory) (was : Option Directory) (old new : List FormatTile) → ListsItems of_subblocks pieces o was (map (λ (t : FormatTile). t.entry) old) (map (λ (t : FormatTile). t.entry) new) → ListsTiles pieces o was old new
lists_tiles pieces same was old new h = absurd h
lists_tiles pieces (to None) was old new h = absurd h
lists_tiles pieces (to (Some d)) was old new (inl n) = inl (record { id = n.id; used = n.used; room = omega (arith, n.room); count = n.count; few = n.few; entries = n.entries; padding = n.padding; puts = n.puts })
lists_tiles pieces (to (Some d)) None old new (inr p) = absurd p
lists_tiles pieces (to (Some d)) (Some was) old new (inr p) = inr p

total_a1s : (es : List A1) → total a1_len es ≡ 128 * length es
total_a1s [] = refl
total_a1s (e ∷ es) = omega (arith, total_a1s es)

pub lists_atts : (pieces : List Piece) (o : Setting Directory) (was : Option Directory) (old new : List FormatAttItem) → ListsItems of_attachments pieces o was (map (λ (i : FormatAttItem). i.entry) old) (map (λ (i : FormatAttItem). i.entry) new) → ListsAttachments pieces o was old new
lists_atts pieces same was old new h = absurd h
lists_atts pieces (to None) was old new h = absurd h
lists_atts pieces (to (Some d)) was old new (inl n) =
    inl (record { id = n.id; used = n.used; room = omega (arith, n.room, total_a1s (map (λ (i : FormatAttItem). i.entry) new)); count = n.count; few = n.few; entries = n.entries; padding = n.padding; puts = n.puts })
lists_atts pieces (to (Some d)) None old new (inr p) = absurd p
lists_atts pieces (to (Some d)) (Some was) old new (inr p) = inr p

unfoldable pub tile_machine : Machine FormatTile of_subblocks in_subblocks
tile_machine = record {
  contents = λ d. d.subblocks;
  places = λ l. l.subblocks;
  dir_place = λ l. l.directory;
  live_items = λ li. li.tiles;
  live_dir = λ li. li.directory;
  position = λ li. li.header.directory;
  live = tile_of;
  segment = λ t. t.segment;
  entry = λ t. t.entry;
  same_segment = λ t. refl;
  same_entry = λ t. refl;
  lies = λ l x lies. (lies.subblocks, lies.directory);
  holds = λ image li s x m lies. (lies.holds.tiles, lies.holds.directory, points_to directory_id directory directory_own image li.header.directory li.directory lies.loosely.reaches.directory);
  lens = λ image li s x m lies. ap (map of_subblocks.len_of) (ap (λ (d : Document). d.subblocks) lies.loosely.document ∙ ap (map (subblock_of image)) (sym lies.holds.tiles)) ∙ entry_lens image x.tiles.items;
  stay = tiles_stay;
  stays = tiles_needed;
  needs = λ s c.
      ap (λ b. map of_subblocks.need (brought c) ++ (directory_needs (tiles_stay s (in_subblocks c)) (directory_need (changed c s.document.subblocks)) ++ directory_needs b (attdir_need s.document.attachments))) (attachments_same s c)
      ∙ ap (λ l. map of_subblocks.need (brought c) ++ l) (append-nil (directory_needs (tiles_stay s (in_subblocks c)) (directory_need (changed c s.document.subblocks))));
  set_list = λ l o ps n deleted. record l { length = n; directory = o; subblocks = ps; walk_end = if walk_goes_on l && nat_lt l.length n then n else l.walk_end; deleted = deleted };
  row = λ s c item dir apart ch fits is. subblocks_row s c apart ch ∙ (ap (λ b. fit_brought s.layout (space_of s) of_subblocks.need c >>= λ i. directory_laid s.layout i.space s.layout.directory b (directory_need (changed c s.document.subblocks)) >>= λ d. Ok (freeing s.layout (record {
    directory = d.places;
    attdir = s.layout.attdir;
    items = record (items_of s.layout) { subblocks = changed i.places s.layout.subblocks };
    used = i.used ++ d.used;
    length = d.space.length;
  }) (omitted c s.layout.subblocks ++ directory_left b s.layout.directory))) (sym (tiles_needed s c ch)) ∙ rw (fits, is) refl);
  layout_is = λ p s a d does. λ j. record {
    length = p.length;
    header = s.layout.header;
    directory = place_after (does.directory j) s.layout.directory;
    attdir = place_after (does.attdir j) s.layout.attdir;
    metadata = set (mapped_setting meta_item_place (setting_of (does.metadata j))) s.layout.metadata;
    subblocks = changed (mapped tile_place (acts_of (does.tiles j))) s.layout.subblocks;
    attachments = changed (mapped att_item_place (acts_of (does.attachments j))) s.layout.attachments;
    walk_end = if walk_goes_on s.layout && nat_lt s.layout.length p.length then p.length else s.layout.walk_end;
    deleted = extents_after p s.layout.deleted;
    unknown = s.layout.unknown;
  };
  set_turn = λ o c. record { directory = o; tiles = c; attdir = same; attachments = []; metadata = same };
  turn = λ c x a d does. λ j. record {
    directory = directory_set (λ z. directory_in z (map (λ (t : FormatTile). t.entry) (changed (mapped tile_of (acts_of (does.tiles j))) (map tile_of x.tiles.items)))) (does.directory j) x.directory;
    tiles = mapped tile_of (acts_of (does.tiles j));
    attdir = directory_set (λ z. attdir_in z (a1s_after c x)) (does.attdir j) x.attdir;
    attachments = mapped att_item_of (acts_of (does.attachments j));
    metadata = mapped_setting meta_item_of (setting_of (does.metadata j));
  };
  comes = λ c a d does.
      (λ j. new_dir (does.directory j) ++ (brought (mapped tile_place (acts_of (does.tiles j))) ++ (new_dir (does.attdir j) ++ (brought (mapped att_item_place (acts_of (does.attachments j))) ++ option_to_list (set_new (mapped_setting meta_item_place (setting_of (does.metadata j))))))))
      ∙ ap (λ l. new_dir d ++ l) (append-nil (brought (mapped tile_place (act_of a))) ∙ brought_images tile_place a);
  news = λ o c q.
      let D : List Segment = option_to_list (option_map (λ (d : Directory). d.segment) (set_new o)) in
      let T : List Segment = map (λ (t : FormatTile). t.segment) (brought c) in
      ap (λ l. cover (map extent (D ++ l)) q) (append-nil T) ∙ (ap (λ l. cover l q) (map-append extent D T) ∙ cover-append (map extent D) (map extent T) q);
  order = λ s c o acts both stays. record {
    tiles = both;
    attachments = tt;
    metadata = tt;
    directory = stays;
    attdir = subst (λ b. StaysOrNew b s.layout.attdir (let z : Setting Directory = same in z)) (sym (attachments_same s c)) tt;
    spans_are = ap (λ l. map (λ (t : FormatTile). extent t.segment) (brought acts) ++ l) (sym (ap (λ b. directory_spans (tiles_stay s (in_subblocks c)) o ++ directory_spans b same) (attachments_same s c) ∙ append-nil (directory_spans (tiles_stay s (in_subblocks c)) o)));
  };
  around = λ li l l' o acts pieces pointer clear within deleted gone. record {
    inside = record {
      directory = pointer;
      metadata = λ q low high. clear q (omega (arith, high)) (inr (omega (arith, low)));
      attdir = λ q low high. clear q (omega (arith, high)) (inr (omega (arith, low)));
      within = within;
    };
    deleted = deleted;
    gone = gone;
  };
  Brought = BringsTile;
  brings = λ image pieces t s padding says used puts. inl (record { item = says; used = used; padding = padding; puts = puts });
  plans = λ image li l l' c o acts pieces lists both around small. record {
    directory = lists_tiles pieces o li.directory li.tiles (changed acts li.tiles) lists;
    tiles = both;
    attdir = refl;
    attachments = tt;
    metadata = tt;
    around = around;
    small = small;
  };
}

unfoldable pub att_machine : Machine FormatAttItem of_attachments in_attachments
att_machine = record {
  contents = λ d. d.attachments;
  places = λ l. l.attachments;
  dir_place = λ l. l.attdir;
  live_items = λ li. li.attachments;
  live_dir = λ li. li.attdir;
  position = λ li. li.header.attachments;
  live = att_item_of;
  segment = λ i. i.segment;
  entry = λ i. i.entry;
  same_segment = λ t. refl;
  same_entry = λ t. refl;
  lies = λ l x lies. (lies.attachments, lies.attdir);
  holds = λ image li s x m lies. (lies.holds.attachments, lies.holds.attdir, points_to attdir_id attachment_directory attdir_own image li.header.attachments li.attdir lies.loosely.reaches.attdir);
  lens = λ image li s x m lies. ap (map of_attachments.len_of) (ap (λ (d : Document). d.attachments) lies.loosely.document ∙ ap (map (attachment_of image)) (sym lies.holds.attachments)) ∙ a1_lens image x.attachments.items;
  stay = attachments_stay;
  stays = atts_needed;
  needs = λ s c.
      ap (λ b. map of_attachments.need (brought c) ++ (directory_needs b (directory_need s.document.subblocks) ++ directory_needs (attachments_stay s (in_attachments c)) (attdir_need (changed c s.document.attachments)))) (tiles_same s c);
  set_list = λ l o ps n deleted. record l { length = n; attdir = o; attachments = ps; walk_end = if walk_goes_on l && nat_lt l.length n then n else l.walk_end; deleted = deleted };
  row = λ s c item dir apart ch fits is. attachments_row s c apart ch ∙ (ap (λ b. fit_brought s.layout (space_of s) of_attachments.need c >>= λ i. directory_laid s.layout i.space s.layout.attdir b (attdir_need (changed c s.document.attachments)) >>= λ d. Ok (freeing s.layout (record {
    directory = s.layout.directory;
    attdir = d.places;
    items = record (items_of s.layout) { attachments = changed i.places s.layout.attachments };
    used = i.used ++ d.used;
    length = d.space.length;
  }) (omitted c s.layout.attachments ++ directory_left b s.layout.attdir))) (sym (atts_needed s c ch)) ∙ rw (fits, is) refl);
  layout_is = λ p s a d does. λ j. record {
    length = p.length;
    header = s.layout.header;
    directory = place_after (does.directory j) s.layout.directory;
    attdir = place_after (does.attdir j) s.layout.attdir;
    metadata = set (mapped_setting meta_item_place (setting_of (does.metadata j))) s.layout.metadata;
    subblocks = changed (mapped tile_place (acts_of (does.tiles j))) s.layout.subblocks;
    attachments = changed (mapped att_item_place (acts_of (does.attachments j))) s.layout.attachments;
    walk_end = if walk_goes_on s.layout && nat_lt s.layout.length p.length then p.length else s.layout.walk_end;
    deleted = extents_after p s.layout.deleted;
    unknown = s.layout.unknown;
  };
  set_turn = λ o c. record { directory = same; tiles = []; attdir = o; attachments = c; metadata = same };
  turn = λ c x a d does. λ j. record {
    directory = directory_set (λ z. directory_in z (entries_after c x)) (does.directory j) x.directory;
    tiles = mapped tile_of (acts_of (does.tiles j));
    attdir = directory_set (λ z. attdir_in z (map (λ (i : FormatAttItem). i.entry) (changed (mapped att_item_of (acts_of (does.attachments j))) (map att_item_of x.attachments.items)))) (does.attdir j) x.attdir;
    attachments = mapped att_item_of (acts_of (does.attachments j));
    metadata = mapped_setting meta_item_of (setting_of (does.metadata j));
  };
  comes = λ c a d does.
      (λ j. new_dir (does.directory j) ++ (brought (mapped tile_place (acts_of (does.tiles j))) ++ (new_dir (does.attdir j) ++ (brought (mapped att_item_place (acts_of (does.attachments j))) ++ option_to_list (set_new (mapped_setting meta_item_place (setting_of (does.metadata j))))))))
      ∙ ap (λ l. new_dir d ++ l) (append-nil (brought (mapped att_item_place (act_of a))) ∙ brought_images att_item_place a);
  news = λ o c q.
      let D : List Segment = option_to_list (option_map (λ (d : Directory). d.segment) (set_new o)) in
      let T : List Segment = map (λ (i : FormatAttItem). i.segment) (brought c) in
      ap (λ l. cover (map extent (D ++ l)) q) (append-nil T) ∙ (ap (λ l. cover l q) (map-append extent D T) ∙ cover-append (map extent D) (map extent T) q);
  order = λ s c o acts both stays. record {
    tiles = tt;
    attachments = both;
    metadata = tt;
    directory = subst (λ b. StaysOrNew b s.layout.directory (let z : Setting Directory = same in z)) (sym (tiles_same s c)) tt;
    attdir = stays;
    spans_are = ap (λ b. map (λ (i : FormatAttItem). extent i.segment) (brought acts) ++ (directory_spans b same ++ directory_spans (attachments_stay s (in_attachments c)) o)) (sym (tiles_same s c));
  };
  around = λ li l l' o acts pieces pointer clear within deleted gone. record {
    inside = record {
      directory = λ q low high. clear q (omega (arith, high)) (inl (omega (arith, high)));
      metadata = λ q low high. clear q (omega (arith, high)) (inl (omega (arith, high)));
      attdir = pointer;
      within = within;
    };
    deleted = deleted;
    gone = gone;
  };
  Brought = BringsAttachment;
  brings = λ image pieces t s padding says used puts. inl (record { item = says; used = used; padding = padding; puts = puts });
  plans = λ image li l l' c o acts pieces lists both around small. record {
    directory = refl;
    tiles = tt;
    attdir = lists_atts pieces o li.attdir li.attachments (changed acts li.attachments) lists;
    attachments = both;
    metadata = tt;
    around = around;
    small = small;
  };
}
