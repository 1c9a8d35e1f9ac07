-- Scripts over the empty document, worked out: where the segments, the free runs and the held spans lie.
use Rattle.czi_machine.specs.GroupOrder.{after_group}
use Rattle.std.proofs.Common.{◌≡◌, ℕ, zero, suc, pos, List, [], ◌∷◌, ◌++◌, map, length, replicate, Option, Some, None, refl, codes, true, Result, Ok, Err}
use Prim.Native.String.{String}
use Rattle.czi_format.specs.Bytes.{padded}
use Rattle.czi_format.specs.Entry.{Dim}
use Rattle.czi_format.specs.Key.{key, attachment_key}
use Rattle.czi_format.specs.Document.{Document, Subblock, Attachment}
use Rattle.czi_format.specs.Span.{Span}
use Rattle.czi_format.specs.Layout.{Layout, Place}
use Rattle.czi_machine.specs.Edit.{add, replace, remove, attach, reattach, detach, set_meta, no_key, duplicate, nothing, Refusal, Edit}
use Rattle.czi_format.specs.Space.{Full, free_runs}
use Rattle.czi_machine.specs.State.{State, held, spans_of}
use Rattle.czi_machine.specs.Places.{in_place}
use Rattle.czi_machine.specs.Machine.{Command, edit, undo, repack, Answer, ok, no, ok_repacked, Step, steps, start, kept_formers, after_edit}

-- the places of a state, as pairs of a place and a size
record View : Type 0 where
  length : ℕ
  directory : List Span
  tiles : List Span
  attdir : List Span
  attachments : List Span
  metadata : List Span
  runs : List Span
  held : List Span
  deleted : List Span
  walk_end : ℕ

spans_in : Option Place → List Span
spans_in None = []
spans_in (Some p) = p.span ∷ []

view : State → View
view s = record {
  length = s.layout.length;
  directory = spans_in s.layout.directory;
  tiles = spans_of s.layout.subblocks;
  attdir = spans_in s.layout.attdir;
  attachments = spans_of s.layout.attachments;
  metadata = spans_in s.layout.metadata;
  runs = free_runs (held s) s.layout.deleted;
  held = held s;
  deleted = s.layout.deleted;
  walk_end = s.layout.walk_end;
}

-- where nothing lies
abbrev nowhere : View
nowhere = record { length = 0; directory = []; tiles = []; attdir = []; attachments = []; metadata = []; runs = []; held = []; deleted = []; walk_end = 0 }

no_move : Layout → Option Full
no_move l = None

last_of : State → List (Step ℕ) → State
last_of s [] = s
last_of s (t ∷ ts) = last_of t.state ts

abbrev empty_document : Document
empty_document = record { identity = replicate 52 0; subblocks = []; attachments = []; metadata = None }

abbrev empty_layout : Layout
empty_layout = record {
  length = 704;
  header = record { span = record { at = 0; len = 544 }; walked = true };
  directory = Some (record { span = record { at = 544; len = 160 }; walked = true });
  attdir = None;
  metadata = None;
  subblocks = [];
  attachments = [];
  walk_end = 704;
  deleted = [];
  unknown = [];
}

abbrev origin : State
origin = start empty_document empty_layout

abbrev ends : List (Command ℕ) → View
ends script = view (last_of origin (steps no_move origin script))

abbrev answers_from : State → List (Command ℕ) → List (Answer ℕ)
answers_from s script = map (λ (t : Step ℕ). t.answer) (steps no_move s script)

abbrev answers : List (Command ℕ) → List (Answer ℕ)
answers script = map (λ (t : Step ℕ). t.answer) (steps no_move origin script)

at : ℕ → ℕ → Span
at place len = record { at = place; len = len }

dim : String → ℕ → ℕ → Dim
dim name start size = record { name = padded 4 name; start = pos start; size = pos size; coord = replicate 4 0; stored = pos size }

dims_at : ℕ → List Dim
dims_at c = dim "C" c 1 ∷ dim "X" 0 4 ∷ dim "Y" 0 2 ∷ []

subblock : ℕ → ℕ → ℕ → ℕ → Subblock
subblock pixel c meta data' = record {
  info = record { pixel = pos pixel; compression = pos 0; pyramid = 0; spare = replicate 5 0; dims = dims_at c };
  meta = replicate meta 0;
  pixels = replicate data' 0x41;
  tail = [];
}

tile : ℕ → Subblock
tile c = subblock 0 c 0 8

xml : ℕ → Command ℕ
xml k = edit (set_meta (record { xml = replicate k 0x61; tail = [] }))

-- one tile
one_added : ends (edit (add (tile 0)) ∷ []) ≡ record nowhere {
  length = 2304;
  directory = at 1024 1280 ∷ [];
  tiles = at 704 320 ∷ [];
  runs = at 544 160 ∷ [];
  deleted = at 544 160 ∷ [];
  walk_end = 2304;
}
unfolding view spans_in last_of no_move in_place kept_formers tile subblock dims_at dim at key
one_added = refl

added_twice : answers (edit (add (tile 0)) ∷ edit (add (tile 0)) ∷ []) ≡ ok 1 ∷ no (duplicate 0) ∷ []
unfolding no_move in_place kept_formers tile subblock dims_at dim key
added_twice = refl

removed_and_added : ends (edit (add (tile 0)) ∷ edit (remove (dims_at 0)) ∷ edit (add (tile 1)) ∷ []) ≡ record nowhere {
  length = 2624;
  directory = at 1024 1280 ∷ [];
  tiles = at 2304 320 ∷ [];
  runs = at 544 160 ∷ [];
  held = at 704 320 ∷ [];
  deleted = at 544 480 ∷ [];
  walk_end = 2624;
}
unfolding view spans_in last_of no_move in_place kept_formers tile subblock dims_at dim at key
removed_and_added = refl

-- 31 more commands, and the first former that held the tile is dropped: then its place is used again
metas : ℕ → List (Command ℕ)
metas zero = []
metas (suc n) = xml 0 ∷ metas n

held_until_dropped : ends (edit (add (tile 0)) ∷ edit (remove (dims_at 0)) ∷ edit (add (tile 1)) ∷ (metas 31 ++ edit (add (tile 2)) ∷ [])) ≡ record nowhere {
  length = 11552;
  directory = at 1024 1280 ∷ [];
  tiles = at 2304 320 ∷ at 544 320 ∷ [];
  metadata = at 11264 288 ∷ [];
  runs = at 864 160 ∷ [];
  held = (ends (edit (add (tile 0)) ∷ edit (remove (dims_at 0)) ∷ edit (add (tile 1)) ∷ (metas 31 ++ edit (add (tile 2)) ∷ []))).held;
  deleted = (ends (edit (add (tile 0)) ∷ edit (remove (dims_at 0)) ∷ edit (add (tile 1)) ∷ (metas 31 ++ edit (add (tile 2)) ∷ []))).deleted;
  walk_end = 11552;
}
unfolding view spans_in last_of no_move in_place kept_formers tile subblock dims_at dim at key metas xml
held_until_dropped = refl

thirty_held : length (ends (edit (add (tile 0)) ∷ edit (remove (dims_at 0)) ∷ edit (add (tile 1)) ∷ (metas 31 ++ edit (add (tile 2)) ∷ []))).held ≡ 30
unfolding view spans_in last_of no_move in_place kept_formers tile subblock dims_at dim at key metas xml
thirty_held = refl

add_undone : ends (edit (add (tile 0)) ∷ undo ∷ []) ≡ record nowhere {
  length = 2304;
  directory = at 1024 1280 ∷ [];
  runs = at 544 480 ∷ [];
  deleted = at 544 480 ∷ [];
  walk_end = 2304;
}
unfolding view spans_in last_of no_move in_place kept_formers tile subblock dims_at dim at key
add_undone = refl

undone_twice : answers (edit (add (tile 0)) ∷ undo ∷ undo ∷ []) ≡ ok 1 ∷ ok 2 ∷ no nothing ∷ []
unfolding no_move in_place kept_formers tile subblock dims_at dim key
undone_twice = refl

replaced : ends (edit (add (tile 0)) ∷ edit (replace (subblock 1 0 100 16)) ∷ []) ≡ record nowhere {
  length = 2720;
  directory = at 1024 1280 ∷ [];
  tiles = at 2304 416 ∷ [];
  runs = at 544 160 ∷ [];
  held = at 704 320 ∷ [];
  deleted = at 544 480 ∷ [];
  walk_end = 2720;
}
unfolding view spans_in last_of no_move in_place kept_formers tile subblock dims_at dim at key
replaced = refl

replace_undone : ends (edit (add (tile 0)) ∷ edit (replace (subblock 1 0 100 16)) ∷ undo ∷ []) ≡ record nowhere {
  length = 2720;
  directory = at 1024 1280 ∷ [];
  tiles = at 704 320 ∷ [];
  runs = at 544 160 ∷ at 2304 416 ∷ [];
  deleted = at 544 160 ∷ at 2304 416 ∷ [];
  walk_end = 2720;
}
unfolding view spans_in last_of no_move in_place kept_formers tile subblock dims_at dim at key
replace_undone = refl

three_added : ends (edit (add (tile 0)) ∷ edit (add (tile 1)) ∷ edit (add (tile 2)) ∷ []) ≡ record nowhere {
  length = 2944;
  directory = at 1024 1280 ∷ [];
  tiles = at 704 320 ∷ at 2304 320 ∷ at 2624 320 ∷ [];
  runs = at 544 160 ∷ [];
  deleted = at 544 160 ∷ [];
  walk_end = 2944;
}
unfolding view spans_in last_of no_move in_place kept_formers tile subblock dims_at dim at key
three_added = refl

first_removed : ends (edit (add (tile 0)) ∷ edit (add (tile 1)) ∷ edit (add (tile 2)) ∷ edit (remove (dims_at 0)) ∷ []) ≡ record nowhere {
  length = 2944;
  directory = at 1024 1280 ∷ [];
  tiles = at 2304 320 ∷ at 2624 320 ∷ [];
  runs = at 544 160 ∷ [];
  held = at 704 320 ∷ [];
  deleted = at 544 480 ∷ [];
  walk_end = 2944;
}
unfolding view spans_in last_of no_move in_place kept_formers tile subblock dims_at dim at key
first_removed = refl

first_back : ends (edit (add (tile 0)) ∷ edit (add (tile 1)) ∷ edit (add (tile 2)) ∷ edit (remove (dims_at 0)) ∷ undo ∷ []) ≡ record nowhere {
  length = 2944;
  directory = at 1024 1280 ∷ [];
  tiles = at 704 320 ∷ at 2304 320 ∷ at 2624 320 ∷ [];
  runs = at 544 160 ∷ [];
  deleted = at 544 160 ∷ [];
  walk_end = 2944;
}
unfolding view spans_in last_of no_move in_place kept_formers tile subblock dims_at dim at key
first_back = refl

-- a removal on one tile's image
one_removed : ends (edit (add (tile 0)) ∷ edit (remove (dims_at 0)) ∷ []) ≡ record nowhere {
  length = 2304;
  directory = at 1024 1280 ∷ [];
  runs = at 544 160 ∷ [];
  held = at 704 320 ∷ [];
  deleted = at 544 480 ∷ [];
  walk_end = 2304;
}
unfolding view spans_in last_of no_move in_place kept_formers tile subblock dims_at dim at key
one_removed = refl

attachment : ℕ → Attachment
attachment n = record { info = record { guid = replicate 16 0; kind = padded 8 "TXT"; name = padded 80 "EventList" }; bytes = replicate n 0x61 }

three_of_attachments : ends (edit (attach (attachment 5)) ∷ edit (reattach (attachment 2)) ∷ edit (detach (codes "EventList")) ∷ []) ≡ record nowhere {
  length = 2784;
  directory = at 544 160 ∷ [];
  attdir = at 1024 1440 ∷ [];
  held = at 2464 320 ∷ at 704 320 ∷ [];
  deleted = at 704 320 ∷ at 2464 320 ∷ [];
  walk_end = 2784;
}
unfolding view spans_in last_of no_move in_place kept_formers attachment at attachment_key
three_of_attachments = refl

attachment_answers : answers (edit (attach (attachment 5)) ∷ edit (attach (attachment 5)) ∷ edit (reattach (attachment 2)) ∷ edit (detach (codes "Nope")) ∷ edit (detach (codes "EventList")) ∷ [])
    ≡ ok 1 ∷ no (duplicate 0) ∷ ok 2 ∷ no no_key ∷ ok 3 ∷ []
unfolding no_move in_place kept_formers attachment attachment_key
attachment_answers = refl

-- 33 settings of the metadata, and 33 undos: the oldest can't be undone
xmls : ℕ → ℕ → List (Command ℕ)
xmls zero k = []
xmls (suc n) k = xml k ∷ xmls n (suc k)

undos : ℕ → List (Command ℕ)
undos zero = []
undos (suc n) = undo ∷ undos n

oldest_stays : (ends (xmls 33 1 ++ undos 33)).metadata ≡ at 704 320 ∷ []
unfolding view spans_in last_of no_move in_place kept_formers at xmls undos xml
oldest_stays = refl

thirty_three_long : (ends (xmls 33 1 ++ undos 33)).length ≡ 11296
unfolding view spans_in last_of no_move in_place kept_formers at xmls undos xml
thirty_three_long = refl

-- a repack
abbrev gap_layout : Layout
gap_layout = record {
  length = 4960;
  header = record { span = record { at = 0; len = 544 }; walked = true };
  directory = Some (record { span = record { at = 4704; len = 256 }; walked = true });
  attdir = None;
  metadata = None;
  subblocks = record { span = record { at = 608; len = 4096 }; walked = true } ∷ [];
  attachments = [];
  walk_end = 4960;
  deleted = record { at = 544; len = 64 } ∷ [];
  unknown = [];
}

gap_repacked : answers_from (start empty_document gap_layout) (repack ∷ []) ≡ ok_repacked (record { number = 1; moved = 2; dropped = 0; before = 4960; after = 4896 }) ∷ []
unfolding no_move in_place kept_formers
gap_repacked = refl

-- a group of two tiles, and its undo
state_of : Result State Refusal → State
state_of (Ok s) = s
state_of (Err r) = origin

grouped : view (state_of (after_group origin (add (tile 0) ∷ add (tile 1) ∷ []))) ≡ record nowhere {
  length = 2720;
  directory = at 1344 1376 ∷ [];
  tiles = at 704 320 ∷ at 1024 320 ∷ [];
  runs = at 544 160 ∷ [];
  deleted = at 544 160 ∷ [];
  walk_end = 2720;
}
unfolding view spans_in in_place kept_formers tile subblock dims_at dim at key state_of
grouped = refl

group_undone : view (last_of (state_of (after_group origin (add (tile 0) ∷ add (tile 1) ∷ []))) (steps no_move (state_of (after_group origin (add (tile 0) ∷ add (tile 1) ∷ []))) (let c : List (Command ℕ) = undo ∷ [] in c))) ≡ record nowhere {
  length = 2720;
  directory = at 1344 1376 ∷ [];
  runs = at 544 800 ∷ [];
  deleted = at 544 800 ∷ [];
  walk_end = 2720;
}
unfolding view spans_in last_of no_move in_place kept_formers tile subblock dims_at dim at key state_of
group_undone = refl

-- the needs of a group go in the order of its edits, whatever its lists are: an attachment, and then a tile
attached_and_added : view (state_of (after_group origin (attach (attachment 5) ∷ add (tile 0) ∷ []))) ≡ record nowhere {
  length = 4064;
  directory = at 1344 1280 ∷ [];
  tiles = at 1024 320 ∷ [];
  attdir = at 2624 1440 ∷ [];
  attachments = at 704 320 ∷ [];
  runs = at 544 160 ∷ [];
  deleted = at 544 160 ∷ [];
  walk_end = 4064;
}
unfolding view spans_in in_place kept_formers tile subblock dims_at dim at key attachment attachment_key state_of
attached_and_added = refl

-- what a group brings and takes away again needs nothing
added_and_removed : view (state_of (after_group origin (add (tile 0) ∷ remove (dims_at 0) ∷ []))) ≡ view origin
unfolding view spans_in in_place kept_formers tile subblock dims_at dim at key state_of
added_and_removed = refl

-- groups of 64 edits take back 64 each: of three commands two can be undone
sixty_four : List Edit
sixty_four = replicate 64 (set_meta (record { xml = []; tail = [] }))

counted : length (state_of (after_edit (state_of (after_group (state_of (after_group origin sixty_four)) sixty_four)) (set_meta (record { xml = []; tail = [] })))).formers ≡ 2
unfolding in_place kept_formers state_of sixty_four
counted = refl

-- an image that the walk doesn't reach the end of: 100 bytes that are no segment follow the empty document
abbrev unsteady : State
unsteady = start empty_document (record empty_layout { length = 804 })

behind_the_tail : view (last_of unsteady (steps no_move unsteady (let c : List (Command ℕ) = edit (add (tile 0)) ∷ [] in c))) ≡ record nowhere {
  length = 2432;
  directory = at 1152 1280 ∷ [];
  tiles = at 832 320 ∷ [];
  runs = at 544 160 ∷ [];
  deleted = at 544 160 ∷ [];
  walk_end = 704;
}
unfolding view spans_in last_of no_move in_place kept_formers tile subblock dims_at dim at key
behind_the_tail = refl

-- a file of realistic size: the attachment directory has room for one entry less
abbrev large_layout : Layout
large_layout = record {
  length = 100743296;
  header = record { span = record { at = 0; len = 544 }; walked = true };
  directory = Some (record { span = record { at = 100719872; len = 2720 }; walked = true });
  attdir = Some (record { span = record { at = 100742880; len = 416 }; walked = true });
  metadata = Some (record { span = record { at = 100679584; len = 40288 }; walked = true });
  subblocks = [];
  attachments = record { span = record { at = 100722592; len = 20288 }; walked = true } ∷ [];
  walk_end = 100743296;
  deleted = [];
  unknown = [];
}

abbrev large : State
large = start (record empty_document { attachments = attachment 5 ∷ []; metadata = Some (record { xml = []; tail = [] }) }) large_layout

large_edited : view (last_of large (steps no_move large (let c : List (Command ℕ) = xml 50000 ∷ edit (detach (codes "EventList")) ∷ [] in c))) ≡ record nowhere {
  length = 100793600;
  directory = at 100719872 2720 ∷ [];
  attdir = at 100742880 416 ∷ [];
  metadata = at 100743296 50304 ∷ [];
  held = at 100722592 20288 ∷ at 100679584 40288 ∷ [];
  deleted = at 100679584 40288 ∷ at 100722592 20288 ∷ [];
  walk_end = 100793600;
}
unfolding view spans_in last_of no_move in_place kept_formers attachment at attachment_key xml
large_edited = refl
