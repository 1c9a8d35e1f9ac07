-- What a plan brings, and where the items of a state lay before it.
use Rattle.std.specs.Prelude.{◌≡◌, ℕ, ◌≤◌, List, ◌++◌, map, option_map, option_to_list}
use Rattle.czi_format.specs.Live.{AttItem, Live, MetaItem, Tile}
use Rattle.czi_format.specs.Segment.{Segment, extent}
use Rattle.czi_machine.specs.Cover.{cover}
use Rattle.czi_machine.specs.LiveChange.{LiveChange, new_segments}

-- the segments of the items
abbrev pub item_segments : Live → List Segment
item_segments live = map (λ (t : Tile). t.segment) live.tiles ++ (map (λ (a : AttItem). a.segment) live.attachments ++ option_to_list (option_map (λ (m : MetaItem). m.segment) live.metadata))

-- What a command brings lies where no item was live. A directory that is changed in place counts as brought.
abbrev pub BringsApart : Live → LiveChange → Type 0
BringsApart live t = (k : ℕ) → 1 ≤ cover (map extent (new_segments t)) k → cover (map extent (item_segments live)) k ≡ 0
