-- What a command makes of an engine's state, and what an edit answers.
use Rattle.std.specs.Prelude.{◌≡◌, ◌⊎◌, ℕ, List, IfSome, Result, Ok, Err, IsErrAnd}
use Rattle.std.specs.Option.{ForSome}
use Rattle.czi_format.specs.Document.{Document}
use Rattle.czi_format.specs.Layout.{Layout, HasLayout}
use Rattle.czi_format.specs.Live.{Live}
use Rattle.czi_image.specs.Applied.{IsSame}
use Rattle.czi_machine.specs.Edit.{Edit, Refusal}
use Rattle.czi_machine.specs.Headline.{NoWriteTouches}
use Rattle.czi_machine.specs.Machine.{after_edit, one_more}
use Rattle.czi_machine.specs.State.{State as MachineState}
use Rattle.czi_plan.specs.declared.plan.PlanFault.{PlanFault}
use Rattle.czi_plan.specs.declared.plan.PlanFault.TheVariants.{Full as NoPlaceIn, Memory as NoMemory}
use Rattle.czi_rig.specs.declared.file.File.TheVariants.{Image}
use Rattle.czi_rig.specs.State.{State, Instant, seen_of}
use Rattle.czi_space.specs.State.{Has}
use Rattle.czi_vault.specs.Alone.{IsPending}
use Rattle.czi_vault.specs.Recovered.{Recovered}
use Rattle.czi_vault.specs.declared.committing.VaultFault.{VaultFault}
use Rattle.czi_vault.specs.declared.committing.VaultFault.TheVariants.{Image as ImageFails, Journal as JournalFails}
use Rattle.czi_engine.specs.Stands.{OpensAs, ShowsWhole}
use Rattle.czi_engine.specs.Standing.{HasState, KeepsItems, Origin, origin_in}
use Rattle.czi_engine.specs.Devices.{Fault, of_device, of_memory, of_refusal, refusal_in}
use Rattle.czi_engine.specs.declared.engine.EngineState.{EngineState}
use Rattle.czi_engine.specs.declared.error.EditError.{EditError}
use Rattle.czi_engine.specs.declared.error.EditError.TheVariants.{Full, Memory, ImageDevice, JournalDevice}
use Rattle.czi_engine.specs.declared.error.UndoError.{UndoError}
use Rattle.czi_engine.specs.declared.error.UndoError.TheVariants.{ImageDevice as UndoImage, JournalDevice as UndoJournal}

-- what a command makes of a state, or why it is refused
abbrev pub Goes : Type 0
Goes = MachineState → Result MachineState Refusal

-- the state after what the machine answered, or the one before
abbrev pub or_before : MachineState → Result MachineState Refusal → MachineState
or_before s (Ok after) = after
or_before s (Err refusal) = s

abbrev pub state_by : Goes → MachineState → MachineState
state_by go s = or_before s (go s)

abbrev pub state_after : MachineState → Edit → MachineState
state_after s edit = or_before s (after_edit s edit)

-- and the items that have been there since the start
abbrev pub origin_after : Origin → Result MachineState Refusal → Origin
origin_after o (Ok after) = origin_in o after
origin_after o (Err refusal) = o

abbrev pub origin_by : Goes → Origin → MachineState → Origin
origin_by go o s = origin_after o (go s)

-- image and journal open as a state, and each item of it that has been there since the start has the bytes that it had then
pub record OpensIn (o : Origin) (image journal : List ℕ) (s : MachineState) : Type 0 where
  pub opens : OpensAs o.bytes image journal s
  pub kept : (bytes : List ℕ) → Recovered image journal bytes → KeepsItems o bytes s.layout

-- read without the journal an image says that it waits for it, or it shows this document
abbrev pub ShowsAlone : List ℕ → Document → Type 0
ShowsAlone image d = IsPending image ⊎ ShowsWhole image d

-- While a command is done: what a crash leaves opens as the state before it or as the one after it, and nothing was said. Read
-- without the journal, the image waits for it, or shows the document of that state or of the one before.
abbrev pub DuringEdit : Origin → MachineState → Goes → List ℕ → Instant
DuringEdit o s go before image journal said = ((OpensIn o image journal s × ShowsAlone image s.document)
    ⊎ (OpensIn (origin_by go o s) image journal (state_by go s) × (ShowsAlone image s.document ⊎ ShowsAlone image (state_by go s).document))) × (said ≡ before)

-- two pairs that a crash may leave stand for the same bytes in each item that both have
abbrev pub Alike : List ℕ → List ℕ → List ℕ → List ℕ → Type 0
Alike image journal image' journal' = (a b : List ℕ) (l m : Layout) → Recovered image journal a → Recovered image' journal' b → HasLayout a l → HasLayout b m → NoWriteTouches a l b m

-- A command was accepted: the engine has the state to which the machine goes, and its number is answered, one more than before.
pub record Accepts (go : Goes) (o : Origin) (s : MachineState) (rig : State) (x : EngineState) (number : ℕ) : Type 0 where
  pub state : MachineState
  pub goes : go s ≡ Ok state
  pub numbered : number ≡ state.number
  pub counted : number ≡ one_more s.number
  pub live : Live
  pub has : ForSome (seen_of rig Image) (λ bytes. HasState (origin_in o state) bytes live state x)

-- a refusal that a fault tells is the machine's
abbrev pub Refuses : Goes → MachineState → Fault → Type 0
Refuses go s fault = IfSome (refusal_in fault) (λ refusal. go s ≡ Err refusal)

-- where the machine refuses, so does the answer, or memory is wanting
abbrev pub RefusesToo : {T E : Type 0} → (E → Fault) → Goes → MachineState → Result T E → Type 0
RefusesToo tells go s result = (refusal : Refusal) → go s ≡ Err refusal → IsErrAnd result (λ error. (tells error ≡ of_refusal refusal) ⊎ (tells error ≡ of_memory))

-- why there is no plan, as an edit's error
abbrev pub unplanned : PlanFault → EditError
unplanned (NoPlaceIn need length) = Full need length
unplanned NoMemory = Memory

-- a fault of a device, as an edit's error
abbrev pub error_of : VaultFault → EditError
error_of ImageFails = ImageDevice
error_of JournalFails = JournalDevice

-- and as an undo's
abbrev pub undo_error_of : VaultFault → UndoError
undo_error_of ImageFails = UndoImage
undo_error_of JournalFails = UndoJournal

-- an engine is as it was; only how much spare memory its lists have may differ
pub record AsBefore (old new : EngineState) : Type 0 where
  pub journal : new.journal ≡ old.journal
  pub index : IsSame old.index new.index
  pub map : Has new.map old.map.extents old.map.held old.map.length
  pub edits : new.edits ≡ old.edits
  pub number : new.number ≡ old.number
  pub down : new.down ≡ old.down
