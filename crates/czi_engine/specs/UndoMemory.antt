-- The memory that an engine keeps for undos: each takes a plan of its own, and bytes of one region, one after another.
use Rattle.std.specs.Prelude.{◌≡◌, ℕ, suc, ◌+◌, ◌*◌, ◌≤◌, List, length, map, Bool, Some, IsFalse, vec_len}
use Rattle.std.specs.Option.{ForSome}
use Rattle.czi_image.specs.Applied.{HasCapacity, KeepsRoom}
use Rattle.czi_image.specs.Summary.{entries_len}
use Rattle.czi_image.specs.View.{tile_of}
use Rattle.czi_image.specs.declared.index.Index.{Index}
use Rattle.czi_region.specs.Pieces.{room}
use Rattle.czi_space.specs.State.{MapState}
use Rattle.czi_undo.specs.declared.inverse.Inverse.{Inverse}
use Rattle.czi_plan.specs.declared.plan.EditPlan.{EditPlan}
use Rattle.czi_undo.specs.Bounds.{first_of}
use Rattle.czi_plan.specs.Undoing.{HasNoUndo, InverseFits}
use Rattle.czi_plan.specs.declared.plan.PlanFault.TheVariants.{Full as NoPlaceIn}
use Rattle.czi_engine.specs.declared.error.UndoError.{UndoError}
use Rattle.czi_engine.specs.declared.error.UndoError.TheVariants.{Full}
use Rattle.czi_plan.specs.Need.{undo_room}
use Rattle.czi_plan.specs.Plan.{IsBrief}
use Rattle.czi_engine.specs.declared.reserve.UndoMemory.{UndoMemory}

-- There is all memory for so many undos, one after another: with so many plans, and room for so many bytes. Each undo brings an item
-- at most, and eight extents.
pub record HasMemoryToUndo (n : ℕ) (x : Index) (m : MapState) (count size : ℕ) : Type 0 where
  pub plans : n ≤ count
  pub region : undo_room (entries_len (map tile_of x.tiles.items)) (length x.attachments.items) n ≤ size
  pub spare : 10 * n ≤ m.spare
  pub index : HasCapacity (length x.tiles.items + n) (length x.attachments.items + n) (length x.extents.items + 8 * n) x

-- unless the engine is down, all its edits can be undone
abbrev pub CanUndo : Bool → List Inverse → Index → MapState → UndoMemory → Type 0
CanUndo down edits x m u = IsFalse down → 1 ≤ length edits → HasMemoryToUndo (length edits) x m (vec_len u.plans) (room u.region)

-- There is memory to follow a plan and keep one inverse more, and then for so many undos.
pub record CanGoOn (n : ℕ) (x : Index) (m : MapState) (p : EditPlan) (count size : ℕ) : Type 0 where
  pub brief : IsBrief p
  pub plans : n ≤ count
  pub region : undo_room (entries_len (map tile_of x.tiles.items)) (length x.attachments.items) (suc n) ≤ size
  pub spare : 2 * length p.used.items + 2 * length p.freed.items + 1 + 10 * n ≤ m.spare
  pub index : HasCapacity (length x.tiles.items + suc n) (length x.attachments.items + suc n) (length m.extents + (2 * length p.used.items + 2 * length p.freed.items) + 8 * n) x

-- what following a plan leaves of the memory
pub record LeavesMemory (p : EditPlan) (x x' : Index) (m m' : MapState) : Type 0 where
  pub spare : m.spare ≤ m'.spare + (2 * length p.used.items + 2 * length p.freed.items)
  pub kept : KeepsRoom x x'

-- An inverse has no plan: the answer is that there is no place.
pub record HasNoPlaceFor (x : Index) (m : MapState) (i : Inverse) (error : UndoError) : Type 0 where
  pub need : ℕ
  pub length : ℕ
  pub is : error ≡ Full need length
  pub none : HasNoUndo x m i (NoPlaceIn need length)

-- an inverse is the newest one, and fits; or the newest doesn't fit, or there is none
abbrev pub FitsAsNewest : Inverse → List Inverse → Index → MapState → Type 0
FitsAsNewest i edits x m = (first_of edits ≡ Some i) × InverseFits x m i

abbrev pub NoneFits : List Inverse → Index → MapState → Type 0
NoneFits edits x m = ForSome (first_of edits) (λ i. InverseFits x m i → ⊥)
