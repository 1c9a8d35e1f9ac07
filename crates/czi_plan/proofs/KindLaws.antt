-- What the proofs of a plan use of a kind of list; and that it holds of both.
use Rattle.std.proofs.Common.{◌≡◌, ℕ, ◌+◌, ◌<◌, ◌≤◌, ◌^◌, ◌%◌, List, [], ◌∷◌, ◌++◌, map, length, option_map, option_to_list, refl, ap, sym, ◌∙◌, arith, append_assoc, append-nil, length-append}
use Rattle.std.specs.List.{AllByRecursion, flat_map}
use Rattle.czi_format.specs.Entry.{EntryInfo, a1_bytes, a1_len, entry, entry_bytes, entry_len, info_len, IsA1, IsEntry, a1}
use Rattle.czi_format.specs.Segment.{attachment_id, attdir_id, subblock_id}
use Rattle.czi_format.specs.Span.{Span, end_of}
use Rattle.czi_image.specs.Applied.{directory_after, live_after}
use Rattle.czi_image.specs.Change.{AreWithin, act_of, acts_of, setting_of}
use Rattle.czi_image.specs.Holds.{att_item_place, meta_item_place, tile_place}
use Rattle.czi_image.specs.Spans.{att_item_span, directory_span, header_span, live_spans, meta_item_span, tile_span}
use Rattle.czi_image.specs.declared.change.Act.{Act as CodeAct}
use Rattle.czi_image.specs.declared.change.Change.{Change as CodeChange}
use Rattle.czi_image.specs.declared.change.DirectoryChange.{DirectoryChange}
use Rattle.czi_image.specs.declared.index.Index.{Index}
use Rattle.czi_format.specs.Live.{Directory}
use Rattle.czi_machine.specs.Cover.{between}
use Rattle.czi_machine.specs.Patch.{HasPatch, PatchPuts, total}
use Rattle.czi_machine.specs.Written.{Piece}
use Rattle.czi_machine.proofs.PatchPieces.{a1s_patch, entries_patch}
use Rattle.czi_machine.proofs.Patched.{a1_codec, entry_codec, length-written}
use Rattle.czi_plan.proofs.Order.{at_place}
use Rattle.czi_machine.specs.Change.{changed, omitted, set, set_omitted}
use Rattle.czi_plan.specs.Conditions.{live_of}
use Rattle.czi_plan.specs.Kind.{Kind, of_attachments, of_subblocks, span_in}
use Rattle.czi_plan.specs.Plan.{left_directory, left_items, left_places}
use Rattle.czi_plan.proofs.Entries.{length-directory}

-- the lists of an index can be changed, and are within their limits then
pub record ListsCanChange (c : CodeChange) (x : Index) : Type 0 where
  pub tiles : AreWithin c.tiles.items (length x.tiles.items)
  pub attachments : AreWithin c.attachments.items (length x.attachments.items)
  pub few_tiles : length (changed (acts_of c.tiles.items) x.tiles.items) ≤ 2 ^ 20
  pub few_attachments : length (changed (acts_of c.attachments.items) x.attachments.items) ≤ 2 ^ 12

pub record Laws {C E S : Type 0} (k : Kind C E S) : Type 1 where
  -- an item lies in its segment
  pub at : (t : C) → (k.segment t).at ≡ (span_in k t).at
  pub extent : (t : C) → (span_in k t).len ≡ 32 + (k.segment t).allocated
  pub ends : (t : C) → end_of (span_in k t) ≤ 2 ^ 62
  pub item_id : (t : C) (s : S) → k.Says t s → (k.segment t).id ≡ k.item_id
  pub id_long : length k.item_id ≡ 16
  -- what is live, and what is live after an act
  pub front : Index → List Span
  pub rest : Index → List Span
  pub live : (x : Index) → live_of x ≡ header_span x.header ∷ (front x ++ (option_to_list (option_map directory_span (k.directory x)) ++ (map (span_in k) (k.items x) ++ rest x)))
  pub live_then : (c : CodeChange) (x : Index) (a : CodeAct C) (d : DirectoryChange) → k.Does c a d
      → live_after c x ≡ header_span x.header ∷ (front x ++ (option_to_list (option_map directory_span (directory_after d (k.directory x))) ++ (map (span_in k) (changed (act_of a) (k.items x)) ++ rest x)))
  -- what leaves
  pub left : (c : CodeChange) (x : Index) (a : CodeAct C) (d : DirectoryChange) → k.Does c a d → left_items c x ≡ map k.place (omitted (act_of a) (k.items x))
  pub left_all : (c : CodeChange) (x : Index) (a : CodeAct C) (d : DirectoryChange) → k.Does c a d → left_places c x ≡ left_items c x ++ left_directory d (k.directory x)
  pub can : (c : CodeChange) (x : Index) (a : CodeAct C) (d : DirectoryChange) → k.Does c a d → AreWithin (a ∷ []) (length (k.items x)) → length (changed (act_of a) (k.items x)) ≤ k.most → ListsCanChange c x
  -- the pointer, the id, the needs and the entries
  pub low : 84 ≤ k.pointer
  pub high : k.pointer + 8 ≤ 112
  pub count : 4 ≤ k.head
  pub in_header : (q : ℕ) → between k.pointer (k.pointer + 8) q ≤ between 84 100 q + between 104 112 q
  pub id : length k.id ≡ 16
  pub need : (s : S) → (k.need s % 32 ≡ 0) × (0 < k.need s)
  pub len : (t : C) (s : S) → k.Says t s → k.len (k.entry t) ≡ k.len_of s
  pub some : (e : E) → 0 < k.len e
  pub some_new : (s : S) → 0 < k.len_of s
  -- how long the data of a directory is, and what one that is changed in place puts
  pub data_long : (es : List E) → AllByRecursion k.Is es → length (k.data_of es 0) ≡ k.head + total k.len es
  pub patch : (pieces : List Piece) (d : Directory) (front middle : List E) → AllByRecursion k.Is middle → k.head + total k.len front + total k.len middle ≤ d.segment.allocated → HasPatch k.head k.len k.bytes pieces d front middle
      → PatchPuts k.head k.len k.bytes pieces d front middle

pub length-subblock : length subblock_id ≡ 16
unfolding subblock_id
length-subblock = refl

pub length-attachment : length attachment_id ≡ 16
unfolding attachment_id
length-attachment = refl

pub length-attdir : length attdir_id ≡ 16
unfolding attdir_id
length-attdir = refl

pub tile_laws : Laws of_subblocks
tile_laws = record {
  at = λ t. refl;
  extent = λ t. t.extent;
  ends = λ t. t.ends;
  item_id = λ t s says. says.id;
  id_long = length-subblock;
  front = λ x. [];
  rest = λ x. option_to_list (option_map directory_span x.attdir) ++ (map att_item_span x.attachments.items ++ option_to_list (option_map meta_item_span x.metadata));
  live = λ x. refl;
  live_then = λ c x a d does.
      λ j. live_spans x.header (directory_after (does.directory j) x.directory) (changed (acts_of (does.tiles j)) x.tiles.items) (directory_after (does.attdir j) x.attdir) (changed (acts_of (does.attachments j)) x.attachments.items) (set (setting_of (does.metadata j)) x.metadata);
  left = λ c x a d does.
      (λ j. map tile_place (omitted (acts_of (does.tiles j)) x.tiles.items) ++ (map att_item_place (omitted (acts_of (does.attachments j)) x.attachments.items) ++ option_to_list (option_map meta_item_place (set_omitted (setting_of (does.metadata j)) x.metadata))))
      ∙ append-nil (map tile_place (omitted (act_of a) x.tiles.items));
  left_all = λ c x a d does. (λ j. left_items c x ++ (left_directory (does.directory j) x.directory ++ left_directory (does.attdir j) x.attdir)) ∙ ap (λ l. left_items c x ++ l) (append-nil (left_directory d x.directory));
  can = λ c x a d does within few. record {
    tiles = rw does.tiles within;
    attachments = rw does.attachments tt;
    few_tiles = rw does.tiles few;
    few_attachments = rw does.attachments (omega (arith, x.few_attachments, x.attachments.ok));
  };
  low = omega arith;
  high = omega arith;
  count = omega arith;
  in_header = λ q. omega (arith, at_place);
  id = length-directory;
  need = λ s. (omega arith, omega arith);
  len = λ t s says. ap (λ (i : EntryInfo). info_len i) says.info;
  some = λ e. omega arith;
  some_new = λ s. omega arith;
  data_long = λ es all. omega (arith, length-append (flat_map entry_bytes es) [], length-written entry entry_len entry_bytes IsEntry entry_codec es all);
  patch = entries_patch;
}

pub att_laws : Laws of_attachments
att_laws = record {
  at = λ i. refl;
  extent = λ i. i.extent;
  ends = λ i. i.ends;
  item_id = λ i a says. says.id;
  id_long = length-attachment;
  front = λ x. option_to_list (option_map directory_span x.directory) ++ map tile_span x.tiles.items;
  rest = λ x. option_to_list (option_map meta_item_span x.metadata);
  live = λ x. ap (λ l. header_span x.header ∷ l) (sym (append_assoc (option_to_list (option_map directory_span x.directory)) (map tile_span x.tiles.items) _));
  live_then = λ c x a d does.
      (λ j. live_spans x.header (directory_after (does.directory j) x.directory) (changed (acts_of (does.tiles j)) x.tiles.items) (directory_after (does.attdir j) x.attdir) (changed (acts_of (does.attachments j)) x.attachments.items) (set (setting_of (does.metadata j)) x.metadata))
      ∙ ap (λ l. header_span x.header ∷ l) (sym (append_assoc (option_to_list (option_map directory_span x.directory)) (map tile_span x.tiles.items) _));
  left = λ c x a d does.
      (λ j. map tile_place (omitted (acts_of (does.tiles j)) x.tiles.items) ++ (map att_item_place (omitted (acts_of (does.attachments j)) x.attachments.items) ++ option_to_list (option_map meta_item_place (set_omitted (setting_of (does.metadata j)) x.metadata))))
      ∙ append-nil (map att_item_place (omitted (act_of a) x.attachments.items));
  left_all = λ c x a d does. λ j. left_items c x ++ (left_directory (does.directory j) x.directory ++ left_directory (does.attdir j) x.attdir);
  can = λ c x a d does within few. record {
    tiles = rw does.tiles tt;
    attachments = rw does.attachments within;
    few_tiles = rw does.tiles (omega (arith, x.few_tiles, x.tiles.ok));
    few_attachments = rw does.attachments few;
  };
  low = omega arith;
  high = omega arith;
  count = omega arith;
  in_header = λ q. omega (arith, at_place);
  id = length-attdir;
  need = λ s. (omega arith, omega arith);
  len = λ i a says. refl;
  some = λ e. omega arith;
  some_new = λ s. omega arith;
  data_long = λ es all. omega (arith, length-append (flat_map a1_bytes es) [], length-written a1 a1_len a1_bytes IsA1 a1_codec es all);
  patch = a1s_patch;
}
