-- What an engine plans once nothing refuses it.
use Rattle.std.specs.Prelude.{◌≡◌, ℕ, ◌<◌, ◌≤◌, ◌^◌, List, length, Result}
use Rattle.czi_format.specs.Document.{Subblock}
use Rattle.czi_format.specs.Live.{Live}
use Rattle.czi_image.specs.declared.index.Index.{Index}
use Rattle.czi_machine.specs.Change.{into, out, put}
use Rattle.czi_machine.specs.Edit.{DocumentEffect, Edit, Refusal, effect, in_attachments, in_subblocks, to_metadata}
use Rattle.czi_machine.specs.State.{State}
use Rattle.czi_plan.specs.Attaching.{attachment_in, metadata_in}
use Rattle.czi_plan.specs.Bringing.{subblock_in}
use Rattle.czi_engine.specs.Standing.{HasState, Origin}
use Rattle.czi_engine.specs.declared.engine.EngineState.{EngineState}
use Rattle.czi_engine.specs.declared.planning.Contents.{Contents}
use Rattle.czi_engine.specs.declared.planning.Task.{Task}
use Rattle.czi_engine.specs.declared.planning.Task.TheVariants.{Add, Attach, Detach, Reattach, Remove, Replace, SetMeta}
use Rattle.czi_format.specs.declared.numbers.TheConstants.{DATA_LIMIT, MOST_ATTACHMENTS, MOST_SUBBLOCKS, TEXT_LIMIT}

abbrev pub subblock_of : Contents → Subblock
subblock_of c = subblock_in c.info.now c.meta.now c.pixels.now c.tail.now

-- what becomes of the document
abbrev pub effect_of : Task → Index → DocumentEffect
effect_of (Add new) x = in_subblocks (into (length x.tiles.items) (subblock_of new))
effect_of (Replace i new) x = in_subblocks (put i (subblock_of new))
effect_of (Remove i) x = in_subblocks (out i)
effect_of (Attach info bytes) x = in_attachments (into (length x.attachments.items) (attachment_in info.now bytes.now))
effect_of (Reattach i info bytes) x = in_attachments (put i (attachment_in info.now bytes.now))
effect_of (Detach i) x = in_attachments (out i)
effect_of (SetMeta xml tail) x = to_metadata (metadata_in xml.now tail.now)

-- What it brings is within its limits, and the place is one of the list, which isn't full where an item comes.
pub record AreShort (c : Contents) : Type 0 where
  pub meta : length c.meta.now ≤ TEXT_LIMIT
  pub pixels : length c.pixels.now ≤ DATA_LIMIT
  pub tail : length c.tail.now ≤ DATA_LIMIT

abbrev pub IsAllowed : Task → Index → Type 0
IsAllowed (Add new) x = AreShort new × (length x.tiles.items < MOST_SUBBLOCKS)
IsAllowed (Replace i new) x = AreShort new × (i < length x.tiles.items)
IsAllowed (Remove i) x = i < length x.tiles.items
IsAllowed (Attach info bytes) x = (length bytes.now ≤ DATA_LIMIT) × (length x.attachments.items < MOST_ATTACHMENTS)
IsAllowed (Reattach i info bytes) x = (length bytes.now ≤ DATA_LIMIT) × (i < length x.attachments.items)
IsAllowed (Detach i) x = i < length x.attachments.items
IsAllowed (SetMeta xml tail) x = (length xml.now ≤ TEXT_LIMIT) × (length tail.now ≤ DATA_LIMIT)

-- what an edit does with the document of any state of an engine, or what refuses it
abbrev pub Means : EngineState → Edit → Result DocumentEffect Refusal → Type 0
Means x c r = (o : Origin) (bytes : List ℕ) (live : Live) (s : State) → HasState o bytes live s x → effect s.document c ≡ r
