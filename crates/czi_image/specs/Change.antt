-- What a change of an index is in the words of the machine.
use Rattle.std.specs.Prelude.{◌≡◌, ⊤, ℕ, suc, ◌+◌, ◌-◌, ◌<◌, ◌≤◌, List, [], ◌∷◌, map, length, Option, Some, None}
use Rattle.czi_format.specs.Entry.{Entry, A1, entry_len, a1_len}
use Rattle.czi_format.specs.Live.{Directory, Tile, AttItem}
use Rattle.czi_format.specs.Segment.{directory_id, attdir_id}
use Rattle.czi_format.specs.Span.{Span}
use Rattle.czi_machine.specs.Change.{Change, changed, and_then, into, mapped, mapped_setting, out, put, same, to, Setting}
use Rattle.czi_machine.specs.Patch.{total}
use Rattle.czi_machine.specs.LiveChange.{LiveChange}
use Rattle.czi_image.specs.Spans.{directory_span}
use Rattle.czi_image.specs.View.{tile_of, att_item_of, meta_item_of}
use Rattle.czi_image.specs.declared.change.Act.{Act as CodeAct}
use Rattle.czi_image.specs.declared.change.Act.TheVariants.{Out, Put, Into}
use Rattle.czi_image.specs.declared.change.Change.{Change as CodeChange}
use Rattle.czi_image.specs.declared.change.DirectoryChange.{DirectoryChange}
use Rattle.czi_image.specs.declared.change.DirectoryChange.TheVariants.{Kept, Patched, New}
use Rattle.czi_image.specs.declared.change.Setting.{Setting as CodeSetting}
use Rattle.czi_image.specs.declared.change.Setting.TheVariants.{Same, To}
use Rattle.czi_image.specs.declared.index.Index.{Index}
use Rattle.czi_image.specs.declared.types.DirItem.{DirItem}
use Rattle.czi_format.specs.declared.numbers.TheConstants.{DIRECTORY_FRONT, ATTDIR_FRONT}

-- one act, and acts one after another
abbrev pub act_of : {X : Type 0} → CodeAct X → Change X
act_of (Out i) = out i
act_of (Put i x) = put i x
act_of (Into i x) = into i x

abbrev pub acts_behind : {X : Type 0} → Change X → List (CodeAct X) → Change X
acts_behind c [] = c
acts_behind c (a ∷ acts) = acts_behind (and_then c (act_of a)) acts

abbrev pub acts_of : {X : Type 0} → List (CodeAct X) → Change X
acts_of [] = []
acts_of (a ∷ acts) = acts_behind (act_of a) acts

abbrev pub setting_of : {X : Type 0} → CodeSetting X → Setting X
setting_of Same = same
setting_of (To new) = to new

-- each act comes to a place that there is in a list of this length, as the acts before it left it
abbrev pub AreWithin : {X : Type 0} → List (CodeAct X) → ℕ → Type 0
AreWithin [] n = ⊤
AreWithin (Out i ∷ acts) n = (i < n) × AreWithin acts (n - 1)
AreWithin (Put i x ∷ acts) n = (i < n) × AreWithin acts n
AreWithin (Into i x ∷ acts) n = (i ≤ n) × AreWithin acts (suc n)

-- a directory in a span, which lists these entries
abbrev pub directory_in : Span → List Entry → Directory
directory_in s es = record { segment = record { at = s.at; id = directory_id; allocated = s.len - 32; used = DIRECTORY_FRONT + total entry_len es }; count = length es }

abbrev pub attdir_in : Span → List A1 → Directory
attdir_in s es = record { segment = record { at = s.at; id = attdir_id; allocated = s.len - 32; used = ATTDIR_FRONT + total a1_len es }; count = length es }

-- a directory that is patched is another one in the same span
abbrev pub directory_set : (Span → Directory) → DirectoryChange → Option DirItem → Setting Directory
directory_set make Kept old = same
directory_set make Patched None = same
directory_set make Patched (Some d) = to (Some (make (directory_span d)))
directory_set make (New d) old = to (Some (make (directory_span d)))

-- what becomes of the subblocks and of the attachments, and what they then are
abbrev pub tiles_change : CodeChange → Change Tile
tiles_change c = mapped tile_of (acts_of c.tiles.items)

abbrev pub attachments_change : CodeChange → Change AttItem
attachments_change c = mapped att_item_of (acts_of c.attachments.items)

abbrev pub entries_after : CodeChange → Index → List Entry
entries_after c x = map (λ (t : Tile). t.entry) (changed (tiles_change c) (map tile_of x.tiles.items))

abbrev pub a1s_after : CodeChange → Index → List A1
a1s_after c x = map (λ (a : AttItem). a.entry) (changed (attachments_change c) (map att_item_of x.attachments.items))

-- what it makes of what is live
abbrev pub live_change_of : CodeChange → Index → LiveChange
live_change_of c x = record {
  directory = directory_set (λ s. directory_in s (entries_after c x)) c.directory x.directory;
  tiles = tiles_change c;
  attdir = directory_set (λ s. attdir_in s (a1s_after c x)) c.attdir x.attdir;
  attachments = attachments_change c;
  metadata = mapped_setting meta_item_of (setting_of c.metadata);
}

-- nothing changes
pub record IsNone (c : CodeChange) : Type 0 where
  pub directory : c.directory ≡ Kept
  pub tiles : c.tiles.items ≡ []
  pub attdir : c.attdir ≡ Kept
  pub attachments : c.attachments.items ≡ []
  pub metadata : c.metadata ≡ Same
