-- A directory of entries: how long it is, and what stands in it.
use Rattle.std.specs.Prelude.{◌≡◌, ℕ, ◌+◌, ◌-◌, List, [], ◌++◌, length, map, sum, take, drop, flat_map, Bool, ◌==◌, if◌then◌else◌}
use Rattle.std.specs.List.{AllByRecursion}
use Rattle.czi_format.specs.Entry.{Entry, IsEntry, entry_bytes, entry_len}
use Rattle.czi_image.specs.View.{tile_of}
use Rattle.czi_image.specs.declared.types.Tile.{Tile}
use Rattle.czi_format.specs.Data.{directory_data}
use Rattle.czi_machine.specs.Places.{segment_need, with_slack}
use Rattle.czi_plan.specs.declared.tiles.Listing.{Listing}
use Rattle.czi_format.specs.declared.numbers.TheConstants.{DIRECTORY_FRONT}

abbrev pub entries_of : List Tile → List Entry
entries_of tiles = map (λ (t : Tile). (tile_of t).entry) tiles

-- the length of the data without padding
abbrev pub directory_size : List Entry → ℕ
directory_size es = DIRECTORY_FRONT + sum (map entry_len es)

-- the extent of a new directory whose data has a length
abbrev pub need_of : ℕ → ℕ
need_of size = segment_need (with_slack size)

-- its data in so many bytes
abbrev pub data_in : ℕ → List Entry → List ℕ
data_in n es = directory_data es (n - directory_size es)

-- Some entries leave, and others come in their place. What stands behind stays where as many bytes come as leave: then what
-- comes is written, and else what stands behind it is written too.
abbrev pub as_long_in : {E : Type 0} → (E → ℕ) → (brought leaving : List E) → Bool
as_long_in len brought leaving = sum (map len brought) == sum (map len leaving)

abbrev pub middle_in : {E : Type 0} → (E → ℕ) → (brought leaving behind : List E) → List E
middle_in len brought leaving behind = if as_long_in len brought leaving then brought else brought ++ behind

abbrev pub back_in : {E : Type 0} → (E → ℕ) → (brought leaving behind : List E) → List E
back_in len brought leaving behind = if as_long_in len brought leaving then behind else []

-- the same of entries of subblocks
abbrev pub middle_of : (brought leaving behind : List Entry) → List Entry
middle_of brought leaving behind = middle_in entry_len brought leaving behind

abbrev pub back_of : (brought leaving behind : List Entry) → List Entry
back_of brought leaving behind = back_in entry_len brought leaving behind

-- what a listing has in these three parts
abbrev pub listed_front : Listing → List Entry
listed_front l = entries_of l.before.now

abbrev pub listed_middle : Listing → List Entry
listed_middle l = entries_of l.brought.now ++ entries_of l.moved.now

abbrev pub listed_back : Listing → List Entry
listed_back l = entries_of l.still.now

abbrev pub listed : Listing → List Entry
listed l = listed_front l ++ (listed_middle l ++ listed_back l)

-- entries were written over some bytes, from one place up to another
pub record WritesEntries (es : List Entry) (at end : ℕ) (old new : List ℕ) : Type 0 where
  pub ends : end ≡ at + sum (map entry_len es)
  pub entries : AllByRecursion IsEntry es
  pub size : length (flat_map entry_bytes es) ≡ sum (map entry_len es)
  pub written : new ≡ take at old ++ (flat_map entry_bytes es ++ drop end old)
