-- A plan that was prepared on an engine.
use Rattle.std.specs.Prelude.{◌≡◌, ℕ, ◌+◌, ◌*◌, ◌≤◌, List, ◌∷◌, map, take, drop, length, Result, Ok, IfOk, IfErr, OnOk, IsFalse, vec_len}
use Rattle.czi_format.specs.Live.{Live}
use Rattle.czi_image.specs.Applied.{HasRoom, IsSame}
use Rattle.czi_image.specs.Change.{live_change_of}
use Rattle.czi_machine.specs.Edit.{DocumentEffect, after}
use Rattle.czi_machine.specs.Laws.{Leads}
use Rattle.czi_machine.specs.Machine.{after_undo, one_more}
use Rattle.czi_machine.specs.Planned.{Plans}
use Rattle.czi_machine.specs.State.{State as MachineState, items_of}
use Rattle.czi_machine.specs.LiveChange.{changed_live, SpansAt}
use Rattle.czi_machine.specs.Written.{Wrote}
use Rattle.czi_plan.specs.Does.{layout_by}
use Rattle.czi_plan.specs.Pieces.{pieces_of}
use Rattle.czi_plan.specs.Plan.{IsPlan}
use Rattle.czi_plan.specs.declared.plan.EditPlan.{EditPlan}
use Rattle.czi_region.specs.Pieces.{bytes_put, room}
use Rattle.czi_space.specs.State.{Has}
use Rattle.czi_engine.specs.Devices.{edit_fault, is_device, undo_fault}
use Rattle.czi_engine.specs.Editing.{AsBefore, Goes, Refuses}
use Rattle.czi_plan.specs.Apart.{BringsApart}
use Rattle.czi_engine.specs.Standing.{BringBack, FewKept, HasState, HoldBack, Origin}
use Rattle.czi_engine.specs.declared.engine.Engine.{Engine}
use Rattle.czi_engine.specs.declared.engine.EngineState.{EngineState}
use Rattle.czi_undo.specs.Holding.{holds_of}
use Rattle.czi_undo.specs.declared.inverse.Inverse.{Inverse}
use Rattle.czi_engine.specs.UndoMemory.{CanGoOn}
use Rattle.czi_engine.specs.declared.error.EditError.{EditError}
use Rattle.czi_engine.specs.declared.error.UndoError.{UndoError}

-- On a state the plan is what a command makes of it, and these inverses are kept after it: over what is written they bring the new
-- state's former documents back, and hold back what they need.
pub record GoesBy (go : Goes) (bytes : List ℕ) (live : Live) (s : MachineState) (x : Engine) (kept : List Inverse) : Type 0 where
  pub state : MachineState
  pub goes : go s ≡ Ok state
  pub leads : Leads s state
  pub effect : DocumentEffect
  pub document : state.document ≡ after effect s.document
  pub layout : state.layout ≡ layout_by x.scratch.plan s
  pub spans : SpansAt state.layout (changed_live (live_change_of x.scratch.plan.change x.state.index) live)
  pub plans : Plans bytes s.layout state.layout live effect (live_change_of x.scratch.plan.change x.state.index) (pieces_of x.scratch.region x.scratch.plan)
  pub apart : BringsApart live (live_change_of x.scratch.plan.change x.state.index)
  pub holds : HoldBack (items_of state.layout) state.formers (map holds_of kept)
  pub back : (other : List ℕ) → Wrote bytes other (pieces_of x.scratch.region x.scratch.plan) → length other ≡ state.layout.length → BringBack other (changed_live (live_change_of x.scratch.plan.change x.state.index) live) state kept
  pub number : state.number ≡ one_more s.number

-- All memory is there that an engine needs to follow a plan, and to keep one inverse more.
pub record HasMemory (x : EngineState) (p : EditPlan) : Type 0 where
  pub spare : 2 * length p.used.items + 2 * length p.freed.items + 1 ≤ x.map.spare
  pub index : HasRoom p.change (length x.map.extents + (2 * length p.used.items + 2 * length p.freed.items)) x.index

-- also for the undos of all edits that are kept with one more
abbrev pub CanKeep : EngineState → EditPlan → Type 0
CanKeep x p = CanGoOn (1 + length x.edits) x.index x.map p (vec_len x.undos.plans) (room x.undos.region)

-- A plan that undoes the newest edit was made in memory of the undos. There is memory to follow it, and for the undos of the others.
pub record IsUndoing (x : Engine) : Type 0 where
  pub others : ℕ
  pub one : length x.state.edits ≡ 1 + others
  pub memory : CanGoOn others x.state.index x.state.map x.scratch.plan (vec_len x.state.undos.plans) (room x.scratch.region + length (bytes_put x.scratch.region))

-- The engine has the plan of a command, and keeps these inverses after it.
pub record IsPrepared (go : Goes) (x : Engine) (kept : List Inverse) : Type 0 where
  pub plan : IsPlan x.state.index x.state.map x.scratch.region x.scratch.plan
  pub memory : HasMemory x.state x.scratch.plan
  pub few : FewKept kept
  pub means : (o : Origin) (bytes : List ℕ) (live : Live) (s : MachineState) → HasState o bytes live s x.state → GoesBy go bytes live s x kept

-- what is kept once an edit is accepted: its inverse, and of the others at most 31
abbrev pub edits_after : Inverse → EngineState → List Inverse
edits_after inverse x = inverse ∷ take 31 x.edits

-- An edit was prepared, or there is no plan: then the machine refuses it so, or memory was wanting. The engine is as it was.
pub record Prepares (go : Goes) (old new : Engine) (prepared : Result Inverse EditError) : Type 0 where
  pub same : AsBefore old.state new.state
  pub ready : IfOk prepared (λ inverse. IsPrepared go new (edits_after inverse new.state) × CanKeep new.state new.scratch.plan)
  pub refusal : IfErr prepared (λ error. IsFalse (is_device (edit_fault error)) × ((o : Origin) (bytes : List ℕ) (live : Live) (s : MachineState) → HasState o bytes live s old.state → Refuses go s (edit_fault error)))

-- an engine is as it was, but for its memory, and for whether it is down
pub record IsSameButDown (old new : EngineState) : Type 0 where
  pub journal : new.journal ≡ old.journal
  pub index : IsSame old.index new.index
  pub map : Has new.map old.map.extents old.map.held old.map.length
  pub edits : new.edits ≡ old.edits
  pub number : new.number ≡ old.number

-- An undo was prepared, or there is none: then the machine refuses it so. The engine is as it was, or, where a plan was made, it is
-- down until that is taken over.
pub record PreparesUndo (old new : Engine) (prepared : Result (Unit {0}) UndoError) : Type 0 where
  pub same : IsSameButDown old.state new.state
  pub ready : OnOk prepared (IsPrepared after_undo new (drop 1 new.state.edits) × IsUndoing new)
  pub refusal : IfErr prepared (λ error. AsBefore old.state new.state × IsFalse (is_device (undo_fault error)) × ((o : Origin) (bytes : List ℕ) (live : Live) (s : MachineState) → HasState o bytes live s old.state → Refuses after_undo s (undo_fault error)))

-- all but the journal, its buffer and whether the engine is down is as it was
pub record KeepsPlan (old new : Engine) : Type 0 where
  pub index : new.state.index ≡ old.state.index
  pub map : new.state.map ≡ old.state.map
  pub edits : new.state.edits ≡ old.state.edits
  pub undos : new.state.undos ≡ old.state.undos
  pub number : new.state.number ≡ old.state.number
  pub region : new.scratch.region ≡ old.scratch.region
  pub plan : new.scratch.plan ≡ old.scratch.plan

-- all but the index, the map and the inverses is as it was
pub record KeepsAllBut (old new : EngineState) : Type 0 where
  pub journal : new.journal ≡ old.journal
  pub undos : new.undos ≡ old.undos
  pub number : new.number ≡ old.number
  pub down : new.down ≡ old.down
