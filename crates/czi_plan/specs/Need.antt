-- How much the plan of an inverse takes.
use Rattle.std.specs.Prelude.{◌≡◌, ℕ, ◌+◌, ◌*◌, ◌≤◌, List, [], ◌∷◌, map, max, length, sum, Bool, true, false, if◌then◌else◌}
use Rattle.std.specs.List.{list_any}
use Rattle.std.specs.Vec.{vec_len, vec_capacity}
use Rattle.czi_doc.specs.View.{dims_of}
use Rattle.czi_format.specs.Span.{round32}
use Rattle.czi_machine.specs.Places.{with_slack}
use Rattle.czi_undo.specs.declared.inverse.Part.{Part}
use Rattle.czi_undo.specs.declared.inverse.Part.TheVariants.{DropSub, PutSub, InsertSub, DropAtt, PutAtt, InsertAtt, NoMeta, PutMeta, Same}
use Rattle.czi_plan.specs.declared.need.Need.{Need}
use Rattle.czi_plan.specs.declared.plan.EditPlan.{EditPlan}
use Rattle.czi_format.specs.declared.numbers.TheConstants.{A1_LEN, ATTDIR_FRONT, DIRECTORY_FRONT, LONGEST_ENTRY}

-- an inverse changes the list of subblocks, or that of attachments
abbrev pub of_subblocks : Part → Bool
of_subblocks (DropSub place) = true
of_subblocks (PutSub place info held) = true
of_subblocks (InsertSub place info held) = true
of_subblocks (DropAtt place) = false
of_subblocks (PutAtt place info held) = false
of_subblocks (InsertAtt place info held) = false
of_subblocks NoMeta = false
of_subblocks (PutMeta held) = false
of_subblocks Same = false

abbrev pub of_attachments : Part → Bool
of_attachments (DropSub place) = false
of_attachments (PutSub place info held) = false
of_attachments (InsertSub place info held) = false
of_attachments (DropAtt place) = true
of_attachments (PutAtt place info held) = true
of_attachments (InsertAtt place info held) = true
of_attachments NoMeta = false
of_attachments (PutMeta held) = false
of_attachments Same = false

-- how many bytes the entry has that it brings
abbrev pub brought_len : Part → ℕ
brought_len (DropSub place) = 0
brought_len (PutSub place info held) = 32 + 20 * length (dims_of info.dims)
brought_len (InsertSub place info held) = 32 + 20 * length (dims_of info.dims)
brought_len (DropAtt place) = 0
brought_len (PutAtt place info held) = A1_LEN
brought_len (InsertAtt place info held) = A1_LEN
brought_len NoMeta = 0
brought_len (PutMeta held) = 0
brought_len Same = 0

abbrev pub brought_by : List Part → ℕ
brought_by parts = sum (map brought_len parts)

-- one where it is so, and else none
abbrev pub one_if : Bool → ℕ
one_if b = if b then 1 else 0

-- the data of a directory whose entries and what comes before them have at most so many bytes, padded
abbrev pub directory_room : ℕ → ℕ
directory_room n = round32 (with_slack n)

abbrev pub changes_tiles : List Part → Bool
changes_tiles parts = list_any of_subblocks parts

abbrev pub changes_attachments : List Part → Bool
changes_attachments parts = list_any of_attachments parts

abbrev pub directories_by : List Part → ℕ
directories_by parts = one_if (changes_tiles parts) + one_if (changes_attachments parts)

abbrev pub region_by : List Part → (entries attachments : ℕ) → ℕ
region_by parts entries attachments = one_if (changes_tiles parts) * directory_room (DIRECTORY_FRONT + entries + brought_by parts)
    + one_if (changes_attachments parts) * directory_room (ATTDIR_FRONT + A1_LEN * attachments + brought_by parts)

-- How much memory the lists take for so many edits, which write so many segments and bring so many directories: each edit brings
-- a header, uses a span and frees another, and so does each directory; a span that is used leaves two DELETED extents, and one
-- that is freed makes one. A directory has three more links, and the metadata a pointer. A span that is used touches at most
-- three extents, and one that is freed two.
abbrev pub links_for : ℕ → ℕ → ℕ
links_for edits directories = 4 * edits + 6 * directories + 1

abbrev pub need_of_lists : (edits directories region writes : ℕ) → Need
need_of_lists edits directories region writes = record {
  region = region;
  writes = writes;
  links = links_for edits directories;
  link_bytes = 32 * links_for edits directories + 65536 * directories;
  spans = edits + directories;
  touched = 12 * (edits + directories);
}

-- What an inverse needs in an index with entries of so many bytes, and so many attachments.
abbrev pub need_by : List Part → (entries attachments : ℕ) → Need
need_by parts entries attachments = need_of_lists (length parts) (directories_by parts) (region_by parts entries attachments) (directories_by parts)

-- none of the numbers is less
pub record IsWithin (n m : Need) : Type 0 where
  pub region : n.region ≤ m.region
  pub writes : n.writes ≤ m.writes
  pub links : n.links ≤ m.links
  pub link_bytes : n.link_bytes ≤ m.link_bytes
  pub spans : n.spans ≤ m.spans
  pub touched : n.touched ≤ m.touched

-- none of them falls where one of the index's numbers rises
abbrev pub NeedsRise : Type 0
NeedsRise = (parts : List Part) (e e' a a' : ℕ) → e ≤ e' → a ≤ a' → IsWithin (need_by parts e a) (need_by parts e' a')

-- What one undo of a single edit takes at most, whatever the index is, but for its region.
abbrev pub need_of_undo : Need
need_of_undo = need_of_lists 1 1 0 1

abbrev pub without_region : Need → Need
without_region n = record n { region = 0 }

abbrev pub UndosNeedNoMore : Type 0
UndosNeedNoMore = (part : Part) (e a : ℕ) → IsWithin (without_region (need_by (part ∷ []) e a)) need_of_undo

-- The bytes of a region that suffice for each of so many undos of single edits, one after another, where before the first of them
-- the entries have so many bytes, and there are so many attachments: none of them makes a list longer by more than one entry.
abbrev pub undo_room : (entries attachments more : ℕ) → ℕ
undo_room entries attachments more = max (directory_room (DIRECTORY_FRONT + entries + LONGEST_ENTRY * more)) (directory_room (ATTDIR_FRONT + A1_LEN * (attachments + more)))

abbrev pub UndosHaveRoom : Type 0
UndosHaveRoom = (part : Part) (e e' a a' more : ℕ) → e' + LONGEST_ENTRY ≤ e + LONGEST_ENTRY * more → a' + 1 ≤ a + more → region_by (part ∷ []) e' a' ≤ undo_room e a more

-- it doesn't fall where one of its numbers rises
abbrev pub UndoRoomRises : Type 0
UndoRoomRises = (e e' a a' n n' : ℕ) → e ≤ e' → a ≤ a' → n ≤ n' → undo_room e a n ≤ undo_room e' a' n'

-- A plan has spare memory for a need: also for as many items that come back, and for the dimensions of as many subblocks.
pub record HasSpare (n : Need) (p : EditPlan) : Type 0 where
  pub writes : vec_len p.writes + n.writes ≤ vec_capacity p.writes
  pub links : n.links ≤ p.links.spare_links
  pub link_bytes : n.link_bytes ≤ p.links.spare_bytes
  pub used : vec_len p.used + n.spans ≤ vec_capacity p.used
  pub freed : vec_len p.freed + n.spans ≤ vec_capacity p.freed
  pub held : vec_len p.held + n.spans ≤ vec_capacity p.held
  pub tiles : vec_len p.change.tiles + n.spans ≤ vec_capacity p.change.tiles
  pub attachments : vec_len p.change.attachments + n.spans ≤ vec_capacity p.change.attachments
  pub dimensions : n.spans ≤ vec_len p.dimensions
  pub marks : vec_len p.marks + n.links ≤ vec_capacity p.marks
  pub dead : vec_len p.dead + n.spans ≤ vec_capacity p.dead
  pub touched : n.touched ≤ p.touched.spare

-- so it has it for one that is no greater, but for the region
abbrev pub SparesLess : Type 0
SparesLess = (n m : Need) (p : EditPlan) → HasSpare m p → IsWithin (without_region n) m → HasSpare n p

-- It has memory for so many links with so many bytes, and for so many spans of each kind, of which some may be put already.
pub record HasMemory (count size spans : ℕ) (p : EditPlan) : Type 0 where
  pub links : count ≤ p.links.spare_links
  pub link_bytes : size ≤ p.links.spare_bytes
  pub used : spans ≤ vec_capacity p.used
  pub freed : spans ≤ vec_capacity p.freed
  pub held : spans ≤ vec_capacity p.held
  pub tiles : spans ≤ vec_capacity p.change.tiles
  pub attachments : spans ≤ vec_capacity p.change.attachments
  pub marks : count ≤ vec_capacity p.marks
  pub dead : spans ≤ vec_capacity p.dead
  pub touched : 12 * spans ≤ p.touched.spare

-- it keeps what memory it has
abbrev pub KeepsMemory : EditPlan → EditPlan → Type 0
KeepsMemory old new = (count size spans : ℕ) → HasMemory count size spans old → HasMemory count size spans new

-- one write more stands in its memory
pub record WritesOne (old new : EditPlan) : Type 0 where
  pub len : vec_len new.writes ≡ vec_len old.writes + 1
  pub capacity : vec_capacity old.writes ≤ vec_capacity new.writes

-- what an edit of a list, and one of the metadata, take: a header, a directory, and the headers of DELETED extents
abbrev pub HasActMemory : EditPlan → Type 0
HasActMemory p = HasMemory 11 65888 2 p

abbrev pub HasMetadataMemory : EditPlan → Type 0
HasMetadataMemory p = HasMemory 5 160 1 p

-- a plan of the same; only how much memory it has may differ
pub record PlansSame (old new : EditPlan) : Type 0 where
  pub directory : new.change.directory ≡ old.change.directory
  pub tiles : new.change.tiles.items ≡ old.change.tiles.items
  pub attdir : new.change.attdir ≡ old.change.attdir
  pub attachments : new.change.attachments.items ≡ old.change.attachments.items
  pub metadata : new.change.metadata ≡ old.change.metadata
  pub writes : new.writes.items ≡ old.writes.items
  pub links : new.links.links ≡ old.links.links
  pub used : new.used.items ≡ old.used.items
  pub freed : new.freed.items ≡ old.freed.items
  pub held : new.held.items ≡ old.held.items
  pub length : new.length ≡ old.length
  pub marks : new.marks.items ≡ old.marks.items
  pub dead : new.dead.items ≡ old.dead.items
