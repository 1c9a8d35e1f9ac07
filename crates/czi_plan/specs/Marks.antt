-- The links of a plan, before and after they are put in order.
use Rattle.std.specs.Prelude.{◌≡◌, ⊤, ℕ, ◌+◌, ◌*◌, ◌≤◌, ◌<◌, ◌^◌, pos, List, [], ◌∷◌, ◌++◌, map, filter, length, Bool, not, sum_by, vec_len, vec_capacity}
use Rattle.std.specs.List.{AllByRecursion, list_any}
use Rattle.std.specs.List.Sorted.{IsPermutation}
use Rattle.czi_format.specs.Bytes.{i32_bytes, i64_bytes}
use Rattle.czi_format.specs.Segment.{Segment, header_bytes}
use Rattle.czi_format.specs.Space.{same_span, deleted_after, without}
use Rattle.czi_format.specs.Span.{Span, span_le, sorted}
use Rattle.czi_links.specs.Record.{Bytes}
use Rattle.czi_machine.specs.Cover.{cover}
use Rattle.czi_machine.specs.Writes.{deleted_segment}
use Rattle.czi_num.specs.declared.span.Span.{Span as CodeSpan}
use Rattle.czi_region.specs.Pieces.{IsPiece, bytes_of}
use Rattle.czi_region.specs.declared.block.Region.{Region}
use Rattle.czi_plan.specs.Geometry.{AreUsed, AreFreed, is_touched}
use Rattle.czi_plan.specs.declared.marks.MarkBytes.{MarkBytes}
use Rattle.czi_plan.specs.declared.marks.MarkBytes.TheVariants.{Header, Pointer, Number, Staged}
use Rattle.czi_plan.specs.declared.plan.EditPlan.{EditPlan}
use Rattle.czi_links.specs.declared.numbers.TheConstants.{FIRST_PLACE}

-- The bytes of a mark are its own, or those of a piece of the region.
abbrev pub bytes_in_mark : Region → MarkBytes → List ℕ
bytes_in_mark region (Header bytes) = bytes
bytes_in_mark region (Pointer bytes) = bytes
bytes_in_mark region (Number bytes) = bytes
bytes_in_mark region (Staged piece) = bytes_of region piece

-- what is a piece is one of this region
abbrev pub IsThere : Region → MarkBytes → Type 0
IsThere region (Header bytes) = ⊤
IsThere region (Pointer bytes) = ⊤
IsThere region (Number bytes) = ⊤
IsThere region (Staged piece) = IsPiece region piece

abbrev pub Mark : Type 0
Mark = CodeSpan × MarkBytes

-- a mark as a link
abbrev pub mark_of : Region → Mark → Bytes
mark_of region m = record { place = m.0.at; bytes = bytes_in_mark region m.1 }

abbrev pub marks_of : Region → List Mark → List Bytes
marks_of region ms = map (mark_of region) ms

-- its span is that of its bytes, which are there
pub record IsSized (region : Region) (m : Mark) : Type 0 where
  pub size : m.0.len ≡ length (bytes_in_mark region m.1)
  pub there : IsThere region m.1

abbrev pub AreSized : Region → List Mark → Type 0
AreSized region ms = AllByRecursion (IsSized region) ms

-- marks are these links
pub record AreMarks (region : Region) (ms : List Mark) (links : List Bytes) : Type 0 where
  pub links_are : marks_of region ms ≡ links
  pub sized : AreSized region ms

-- further marks were put behind them, which are these links
pub record AddsMarks (region : Region) (old new : List Mark) (links : List Bytes) : Type 0 where
  pub links_are : marks_of region new ≡ marks_of region old ++ links
  pub sized : AreSized region old → AreSized region new

abbrev pub byte_span : Bytes → Span
byte_span b = record { at = b.place; len = length b.bytes }

abbrev pub pointer_mark : ℕ → ℕ → Bytes
pointer_mark place at = record { place = place; bytes = i64_bytes (pos at) }

abbrev pub head_mark : Segment → Bytes
head_mark s = record { place = s.at; bytes = header_bytes s }

abbrev pub deleted_mark : Span → Bytes
deleted_mark s = head_mark (deleted_segment s)

-- what of a directory at a place is written where it is changed in place: its UsedSize, its EntryCount, and bytes of its data
abbrev pub some_mark : ℕ → List ℕ → List Bytes
some_mark place [] = []
some_mark place (b ∷ bytes) = record { place = place; bytes = b ∷ bytes } ∷ []

abbrev pub patch_marks : ℕ → ℕ → ℕ → ℕ → List ℕ → List Bytes
patch_marks at used count from bytes = record { place = at + 24; bytes = i64_bytes (pos used) } ∷ record { place = at + 32; bytes = i32_bytes (pos count) } ∷ some_mark (at + 32 + from) bytes

-- it isn't one of the extents
abbrev pub is_new : List Span → Span → Bool
is_new extents s = not (list_any (same_span s) extents)

-- a span with room for a header, which ends at or below 2^62
abbrev pub IsMarked : Span → Type 0
IsMarked s = (32 ≤ s.len) × (s.at + s.len ≤ 2 ^ 62)

-- these marks, the headers of new DELETED extents, and those of spans that can't be used again
abbrev pub wanted : List Bytes → (used freed dead extents : List Span) → List Bytes
wanted own used freed dead extents = own ++ (map deleted_mark (filter (is_new extents) (deleted_after used freed extents)) ++ map deleted_mark dead)

-- the links are some marks, in order of place
pub record ArePut (marks links : List Bytes) : Type 0 where
  pub moved : IsPermutation marks links
  pub sorts : map byte_span links ≡ sorted span_le (map byte_span marks)

-- No two of them have a place in common; each has a byte, and begins behind the GUIDs of the file header.
pub record CanPut (marks : List Bytes) : Type 0 where
  pub low : AllByRecursion (λ (b : Bytes). FIRST_PLACE ≤ b.place) marks
  pub some : AllByRecursion (λ (b : Bytes). 1 ≤ length b.bytes) marks
  pub once : (q : ℕ) → cover (map byte_span marks) q ≤ 1
  pub few : sum_by (λ (b : Bytes). length b.bytes) marks < 2 ^ 63

-- the links are those that are wanted
abbrev pub AreInOrder : List Bytes → (used freed dead extents : List Span) → (links : List Bytes) → Type 0
AreInOrder own used freed dead extents links = ArePut (wanted own used freed dead extents) links

-- What is used can be taken out of the extents, and then what is freed be put into them; and the marks can be put.
pub record CanLink (n : ℕ) (used freed dead extents : List Span) (own : List Bytes) : Type 0 where
  pub takes : AreUsed n used extents
  pub frees : AreFreed n freed (without used extents)
  pub long : AllByRecursion IsMarked (deleted_after used freed extents)
  pub long_dead : AllByRecursion IsMarked dead
  pub touched : length (filter (is_touched used freed) extents) ≤ 3 * length used + 2 * length freed
  pub puts : CanPut (wanted own used freed dead extents)

-- how many headers of DELETED segments a plan puts at most: two beside each span that is used, and one for each that leaves
abbrev pub headers_for : (used freed dead : List Span) → ℕ
headers_for used freed dead = 2 * length used + length freed + length dead

-- A plan has memory for the links of these marks and of so many headers, and for the extents that its spans touch.
pub record CanHold (own : List Bytes) (headers : ℕ) (p : EditPlan) : Type 0 where
  pub marks : vec_len p.marks + headers ≤ vec_capacity p.marks
  pub links : length own + headers ≤ p.links.spare_links
  pub link_bytes : sum_by (λ (b : Bytes). length b.bytes) own + 32 * headers ≤ p.links.spare_bytes
  pub touched : 4 * headers ≤ p.touched.spare
