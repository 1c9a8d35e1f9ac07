-- One act on the subblocks or on the attachments, and what a plan has of it.
use Rattle.std.specs.Prelude.{◌≡◌, ℕ, ◌+◌, ◌-◌, ◌≤◌, List, [], ◌∷◌, ◌++◌, map, take, drop, length, sum, ◌==◌, ◌||◌, nat_lt, Bool, if◌then◌else◌, Ok}
use Rattle.std.specs.List.{AllByRecursion}
use Rattle.czi_format.specs.Layout.{Place}
use Rattle.czi_format.specs.Space.{Space, fit, use_all, use_span}
use Rattle.czi_format.specs.Span.{Span, span_le, sorted}
use Rattle.czi_image.specs.Applied.{walks_on}
use Rattle.czi_image.specs.Change.{AreWithin}
use Rattle.czi_image.specs.declared.change.Act.{Act as CodeAct}
use Rattle.czi_image.specs.declared.change.Act.TheVariants.{Out, Put, Into}
use Rattle.czi_image.specs.declared.change.DirectoryChange.{DirectoryChange}
use Rattle.czi_image.specs.declared.change.DirectoryChange.TheVariants.{Kept}
use Rattle.czi_image.specs.declared.change.Setting.TheVariants.{Same}
use Rattle.czi_image.specs.declared.index.Index.{Index}
use Rattle.czi_links.specs.Record.{Bytes}
use Rattle.czi_machine.specs.Change.{Change, into, out, put}
use Rattle.czi_num.specs.Span.{span_of}
use Rattle.czi_num.specs.declared.span.Span.{Span as CodeSpan}
use Rattle.czi_region.specs.Pieces.{IsPiece, bytes_of}
use Rattle.czi_region.specs.declared.block.Piece.{Piece as Range}
use Rattle.czi_region.specs.declared.block.Region.{Region}
use Rattle.czi_space.specs.State.{MapState, space_of}
use Rattle.czi_plan.specs.Conditions.{IsLeft}
use Rattle.czi_plan.specs.Directory.{as_long_in, back_in, middle_in}
use Rattle.czi_plan.specs.Kind.{IsOfKind, Kind, span_in}
use Rattle.czi_plan.specs.Listing.{IsPlace, Lists, entries_len, size_in}
use Rattle.czi_plan.specs.Marks.{AreInOrder, head_mark}
use Rattle.czi_plan.specs.Plan.{dead_of, left_directory, usable_of}
use Rattle.czi_plan.specs.declared.plan.EditPlan.{EditPlan}

-- What stands before the place of an act, what the act brings there, what leaves, and what comes behind.
abbrev pub tiles_before : {X Y : Type 0} → CodeAct X → List Y → List Y
tiles_before (Out i) tiles = take i tiles
tiles_before (Put i t) tiles = take i tiles
tiles_before (Into i t) tiles = take i tiles

abbrev pub tiles_brought : {X : Type 0} → CodeAct X → List X
tiles_brought (Out i) = []
tiles_brought (Put i t) = t ∷ []
tiles_brought (Into i t) = t ∷ []

abbrev pub tiles_leaving : {X Y : Type 0} → CodeAct X → List Y → List Y
tiles_leaving (Out i) tiles = take 1 (drop i tiles)
tiles_leaving (Put i t) tiles = take 1 (drop i tiles)
tiles_leaving (Into i t) tiles = []

abbrev pub tiles_behind : {X Y : Type 0} → CodeAct X → List Y → List Y
tiles_behind (Out i) tiles = drop (i + 1) tiles
tiles_behind (Put i t) tiles = drop (i + 1) tiles
tiles_behind (Into i t) tiles = drop i tiles

-- The entries of the directory afterwards, in three parts: those in front stay, those in the middle are written where the
-- directory is changed in place, and those at the back stay.
abbrev pub entries_in : {C E S : Type 0} → Kind C E S → List C → List E
entries_in k items = map k.entry items

abbrev pub size_of : {C E S : Type 0} → Kind C E S → List C → ℕ
size_of k items = entries_len k (entries_in k items)

abbrev pub stays_behind : {C E S : Type 0} → Kind C E S → CodeAct C → List C → Bool
stays_behind k a items = as_long_in k.len (entries_in k (tiles_brought a)) (entries_in k (tiles_leaving a items))

abbrev pub front_entries : {C E S : Type 0} → Kind C E S → CodeAct C → List C → List E
front_entries k a items = entries_in k (tiles_before a items)

abbrev pub middle_entries : {C E S : Type 0} → Kind C E S → CodeAct C → List C → List E
middle_entries k a items = middle_in k.len (entries_in k (tiles_brought a)) (entries_in k (tiles_leaving a items)) (entries_in k (tiles_behind a items))

abbrev pub back_entries : {C E S : Type 0} → Kind C E S → CodeAct C → List C → List E
back_entries k a items = back_in k.len (entries_in k (tiles_brought a)) (entries_in k (tiles_leaving a items)) (entries_in k (tiles_behind a items))

-- how long the data of the directory is, and how much of it is written where it is changed in place
abbrev pub size_after : {C E S : Type 0} → Kind C E S → CodeAct C → Index → ℕ
size_after k a x = size_in k (front_entries k a (k.items x) ++ (middle_entries k a (k.items x) ++ back_entries k a (k.items x)))

abbrev pub range_after : {C E S : Type 0} → Kind C E S → CodeAct C → Index → ℕ
range_after k a x = entries_len k (middle_entries k a (k.items x))

-- The same numbers where what an act brings has no place yet: the lengths of entries hang on no place.
abbrev pub new_sizes : {C E S : Type 0} → Kind C E S → CodeAct S → ℕ
new_sizes k b = sum (map k.len_of (tiles_brought b))

abbrev pub size_with : {C E S : Type 0} → Kind C E S → CodeAct S → Index → ℕ
size_with k b x = k.head + (size_of k (tiles_before b (k.items x)) + (new_sizes k b + size_of k (tiles_behind b (k.items x))))

abbrev pub range_with : {C E S : Type 0} → Kind C E S → CodeAct S → Index → ℕ
range_with k b x = if new_sizes k b == size_of k (tiles_leaving b (k.items x)) then new_sizes k b else new_sizes k b + size_of k (tiles_behind b (k.items x))

-- Where what comes is from: an edit, which does this, or the segments that an undo brings back.
pub data Origin (E : Type 0) : Type 0 where
  edited : E → Origin E
  returned : Origin E

-- The spans of what it brings: those that are used, and those that aren't, since they come back and can't be used again.
abbrev pub new_spans : {C E S : Type 0} → Kind C E S → CodeAct C → List Span
new_spans k a = map (span_in k) (tiles_brought a)

abbrev pub used_in : {C E S : Type 0} → Kind C E S → CodeAct C → Origin (Change S) → List Span
used_in k a (edited c) = new_spans k a
used_in k a returned = usable_of (map k.place (tiles_brought a))

abbrev pub beside_in : {C E S : Type 0} → Kind C E S → CodeAct C → Origin (Change S) → List Span
beside_in k a (edited c) = []
beside_in k a returned = dead_of (map k.place (tiles_brought a))

-- The spans of its needs, and the space that is left then: what comes back is held, and so no part of the space.
abbrev pub needed_in : {C E S : Type 0} → Kind C E S → CodeAct C → Origin (Change S) → List Span
needed_in k a (edited c) = new_spans k a
needed_in k a returned = []

abbrev pub space_behind : {C E S : Type 0} → Kind C E S → CodeAct C → Origin (Change S) → MapState → Space
space_behind k a o m = use_all (space_of m) (needed_in k a o)

-- the items that leave, and then a directory for which there is a new one
abbrev pub items_left : {C E S : Type 0} → Kind C E S → CodeAct C → Index → List Place
items_left k a x = map k.place (tiles_leaving a (k.items x))

abbrev pub all_left : {C E S : Type 0} → Kind C E S → CodeAct C → DirectoryChange → Index → List Place
all_left k a d x = items_left k a x ++ left_directory d (k.directory x)

-- What an edit brings stands in an item: it lies where its need fits first, and says what its segment will hold.
pub record IsNew {C E S : Type 0} (k : Kind C E S) (x : Index) (m : MapState) (s : S) (t : C) : Type 0 where
  pub fits : fit (space_of m) (k.need s) ≡ Ok (record { span = span_in k t; space = use_span (space_of m) (span_in k t) })
  pub walked : (k.place t).walked ≡ (nat_lt (span_in k t).at x.length || walks_on x)
  pub item : k.Says t s
  pub used : (k.segment t).used ≡ length (k.contents t s 0)

-- Its data is a piece of the region, which is written behind the header.
pub record IsStaged {C E S : Type 0} (k : Kind C E S) (region : Region) (s : S) (t : C) (writes : List (ℕ × Range)) : Type 0 where
  pub piece : Range
  pub staged : IsPiece region piece
  pub long : piece.len ≡ (span_in k t).len - 32
  pub padding : ℕ
  pub bytes : bytes_of region piece ≡ k.contents t s padding
  pub only : writes ≡ ((span_in k t).at + 32, piece) ∷ []

-- An act does what an edit does with the items, and what it brings is staged.
abbrev pub BringsNew : {C E S : Type 0} → Kind C E S → Index → MapState → Region → CodeAct C → Change S → List (ℕ × Range) → Type 0
BringsNew k x m region (Out i) c writes = (c ≡ out i) × (writes ≡ [])
BringsNew {S = S} k x m region (Put i t) c writes = (s : S) × (c ≡ put i s) × IsNew k x m s t × IsStaged k region s t writes
BringsNew {S = S} k x m region (Into i t) c writes = (s : S) × (c ≡ into i s) × IsNew k x m s t × IsStaged k region s t writes

-- What comes back is a segment of its kind that isn't live.
abbrev pub IsBack : {C E S : Type 0} → Kind C E S → Index → MapState → C → Type 0
IsBack k x m t = IsOfKind k.item_id (k.segment t) × IsLeft x m (k.place t)

-- so nothing is written for it, but its header
abbrev pub Brings : {C E S : Type 0} → Kind C E S → Index → MapState → Region → CodeAct C → Origin (Change S) → List (ℕ × Range) → Type 0
Brings k x m region a (edited c) writes = BringsNew k x m region a c writes
Brings k x m region a returned writes = AllByRecursion (IsBack k x m) (tiles_brought a) × (writes ≡ [])

-- its header is a mark
abbrev pub new_marks : {C E S : Type 0} → Kind C E S → CodeAct C → List Bytes
new_marks k a = map (λ t. head_mark (k.segment t)) (tiles_brought a)

-- A plan in which these spans are used, and nothing else is planned but a directory.
pub record Starts {C E S : Type 0} (k : Kind C E S) (m : MapState) (spans : List Span) (p : EditPlan) : Type 0 where
  pub tiles : p.change.tiles.items ≡ []
  pub attachments : p.change.attachments.items ≡ []
  pub metadata : p.change.metadata ≡ Same
  pub other : k.other p.change ≡ Kept
  pub links : p.links.links ≡ []
  pub freed : p.freed.items ≡ []
  pub held : p.held.items ≡ []
  pub dead : p.dead.items ≡ []
  pub used : map span_of p.used.items ≡ spans
  pub length : p.length ≡ (use_all (space_of m) spans).length

-- An act begins: what it brings is there, and behind it there is a place for the directory.
pub record Begins {C E S : Type 0} (k : Kind C E S) (x : Index) (m : MapState) (region : Region) (a : CodeAct C) (o : Origin (Change S)) (d : DirectoryChange) (p : EditPlan) : Type 0 where
  pub brings : Brings k x m region a o p.writes.items
  pub starts : Starts k m (used_in k a o) p
  pub place : IsPlace x (k.directory x) (size_after k a x) (range_after k a x) (space_behind k a o m) d

-- What is brought is staged, and its span is used; then the directory is planned, what leaves is freed, and the links are put.
pub record Stages {C E S : Type 0} (k : Kind C E S) (x : Index) (m : MapState) (a : CodeAct C) (o : Origin (Change S)) (region : Region) (d : DirectoryChange) (new : EditPlan) : Type 0 where
  pub within : AreWithin (a ∷ []) (length (k.items x))
  pub few : length (tiles_before a (k.items x) ++ (tiles_brought a ++ tiles_behind a (k.items x))) ≤ k.most
  -- what is brought, and the directory behind it
  pub first : EditPlan
  pub begins : Begins k x m region a o d first
  pub mid : EditPlan
  pub marks : List Bytes
  pub lists : Lists k (k.directory x) d (front_entries k a (k.items x)) (middle_entries k a (k.items x)) (back_entries k a (k.items x)) region first mid (new_marks k a) marks
  pub writes : new.writes ≡ mid.writes
  pub used : new.used ≡ mid.used
  pub length : new.length ≡ mid.length
  -- the change
  pub change : k.Does new.change a d
  -- what leaves
  pub held : map span_of new.held.items ≡ usable_of (items_left k a x)
  pub freed : map span_of new.freed.items ≡ sorted span_le (usable_of (all_left k a d x))
  pub dead : List CodeSpan
  pub is_dead : map span_of dead ≡ dead_of (all_left k a d x)
  pub links : AreInOrder marks (map span_of new.used.items) (map span_of new.freed.items) (map span_of dead) m.extents new.links.links
