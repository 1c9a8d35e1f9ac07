-- What becomes of a directory that lists other items, and what a plan has of it.
use Rattle.std.specs.Prelude.{◌≡◌, ⊤, ℕ, ◌+◌, ◌-◌, ◌≤◌, List, [], ◌∷◌, ◌++◌, length, map, max, sum, flat_map, Bool, true, false, ◌&&◌, ◌||◌, ◌==◌, if◌then◌else◌, nat_le, nat_lt, Option, Some, None, Ok}
use Rattle.std.specs.List.{AllByRecursion}
use Rattle.czi_format.specs.Space.{Space, fit, use_span}
use Rattle.czi_image.specs.Applied.{walks_on}
use Rattle.czi_image.specs.Spans.{directory_span}
use Rattle.czi_image.specs.declared.change.DirectoryChange.{DirectoryChange}
use Rattle.czi_image.specs.declared.change.DirectoryChange.TheVariants.{Kept, Patched, New}
use Rattle.czi_image.specs.declared.index.Index.{Index}
use Rattle.czi_image.specs.declared.types.DirItem.{DirItem}
use Rattle.czi_links.specs.Record.{Bytes}
use Rattle.czi_region.specs.Pieces.{IsPiece, bytes_of, bytes_put, room}
use Rattle.czi_region.specs.declared.block.Piece.{Piece as Range}
use Rattle.czi_region.specs.declared.block.Region.{Region}
use Rattle.czi_plan.specs.Directory.{need_of}
use Rattle.czi_plan.specs.Kind.{Kind}
use Rattle.czi_plan.specs.Marks.{head_mark, patch_marks, pointer_mark}
use Rattle.czi_plan.specs.declared.plan.EditPlan.{EditPlan}
use Rattle.czi_plan.specs.declared.tiles.Sizes.{Sizes}

-- it has room for data of a size
abbrev pub has_room : DirItem → ℕ → Type 0
has_room d size = 32 + size ≤ d.span.len

-- it is changed in place where it has that, and the range that is written isn't long
abbrev pub fits_in_place : Option DirItem → ℕ → ℕ → Bool
fits_in_place None size range = false
fits_in_place (Some d) size range = nat_le (32 + size) d.span.len && nat_le range 65536

-- it is changed in place, or there is a new one where its need fits
abbrev pub IsPlace : Index → Option DirItem → ℕ → ℕ → Space → DirectoryChange → Type 0
IsPlace x old size range space Kept = ⊥
IsPlace x old size range space Patched = fits_in_place old size range ≡ true
IsPlace x old size range space (New d) = (fits_in_place old size range ≡ false) × (fit space (need_of size) ≡ Ok (record { span = directory_span d; space = use_span space (directory_span d) }))
    × (d.walked ≡ (nat_lt d.span.at x.length || walks_on x))

-- there is room for the range that is written in place, or for the data of a new one
abbrev pub HasRoomFor : DirectoryChange → ℕ → ℕ → Type 0
HasRoomFor Kept range room = ⊤
HasRoomFor Patched range room = range ≤ room
HasRoomFor (New d) range room = d.span.len - 32 ≤ room

-- what it needs to be planned
abbrev pub IsReady : Option DirItem → ℕ → ℕ → ℕ → DirectoryChange → Type 0
IsReady old size range room Kept = ⊤
IsReady None size range room Patched = ⊥
IsReady (Some d) size range room Patched = has_room d size × (range ≤ room)
IsReady old size range room (New d) = has_room d size × (d.span.len - 32 ≤ room)

-- Entries of either kind: how many bytes, and the length of a directory's data without padding
abbrev pub entries_len : {C E S : Type 0} → Kind C E S → List E → ℕ
entries_len k es = sum (map k.len es)

abbrev pub size_in : {C E S : Type 0} → Kind C E S → List E → ℕ
size_in k es = k.head + entries_len k es

-- how long the parts are where entries of so many bytes make room for others: what is behind them stays where as many bytes
-- come as leave, and is written too where not
abbrev pub sizes_with : (front brought leaving behind : ℕ) → Sizes
sizes_with front brought leaving behind = if brought == leaving then record { front = front; middle = brought; back = behind } else record { front = front; middle = brought + behind; back = 0 }

-- how long the parts of its data are, the front with what the data begins with
pub record AreSizes {C E S : Type 0} (k : Kind C E S) (s : Sizes) (front middle back : List E) : Type 0 where
  pub front_is : s.front ≡ size_in k front
  pub middle_is : s.middle ≡ entries_len k middle
  pub back_is : s.back ≡ entries_len k back

-- The marks of a directory that lies where it lay: of its entries those in the middle are written.
pub record Patches {C E S : Type 0} (k : Kind C E S) (d : DirItem) (front middle back : List E) (old new : List Bytes) : Type 0 where
  pub marks : new ≡ old ++ patch_marks d.span.at (size_in k (front ++ (middle ++ back))) (length (front ++ (middle ++ back))) (size_in k front) (flat_map k.bytes middle)
  pub entries : AllByRecursion k.Is middle
  pub size : length (flat_map k.bytes middle) ≡ entries_len k middle

-- A new directory: one write of its data, its header, and the pointer to it.
pub record Writes {C E S : Type 0} (k : Kind C E S) (d : DirItem) (es : List E) (region : Region) (old new : EditPlan) (before after : List Bytes) : Type 0 where
  pub piece : Range
  pub staged : IsPiece region piece
  pub long : piece.len ≡ d.span.len - 32
  pub bytes : bytes_of region piece ≡ k.data_of es (d.span.len - 32 - size_in k es)
  pub entries : AllByRecursion k.Is es
  pub writes : new.writes.items ≡ old.writes.items ++ (d.span.at + 32, piece) ∷ []
  pub used : new.used.items ≡ old.used.items ++ d.span ∷ []
  pub end : new.length ≡ max old.length (d.span.at + d.span.len)
  pub others : new ≡ record old { writes = new.writes; used = new.used; length = new.length; marks = new.marks }
  pub marks : after ≡ before ++ pointer_mark k.pointer d.span.at ∷ head_mark (record { at = d.span.at; id = k.id; allocated = d.span.len - 32; used = size_in k es }) ∷ []

abbrev pub Lists : {C E S : Type 0} → Kind C E S → Option DirItem → DirectoryChange → (front middle back : List E) → Region → (old new : EditPlan) → (marks_before marks_after : List Bytes) → Type 0
Lists k was Kept front middle back region old new marks more = (new ≡ old) × (more ≡ marks)
Lists k None Patched front middle back region old new marks more = ⊥
Lists k (Some d) Patched front middle back region old new marks more = (new ≡ record old { marks = new.marks }) × Patches k d front middle back marks more
Lists k was (New d) front middle back region old new marks more = Writes k d (front ++ (middle ++ back)) region old new marks more

-- how many bytes a region takes in all: those that were put, and those for which there is room
abbrev pub region_size : Region → ℕ
region_size r = room r + length (bytes_put r)

-- the pieces that there were are still ones, and have the bytes that they had
abbrev pub KeepsPut : Region → Region → Type 0
KeepsPut old new = (p : Range) → IsPiece old p → IsPiece new p × (bytes_of new p ≡ bytes_of old p)
