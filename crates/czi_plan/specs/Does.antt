-- What a plan means, in the words of the machine.
use Rattle.std.specs.Prelude.{◌≡◌, ℕ, List, Result, Ok, Err}
use Rattle.czi_format.specs.Layout.{Layout}
use Rattle.czi_format.specs.Live.{Live}
use Rattle.czi_format.specs.Space.{Full, Space}
use Rattle.czi_image.specs.Applied.{layout_after}
use Rattle.czi_image.specs.Change.{live_change_of}
use Rattle.czi_image.specs.declared.index.Index.{Index}
use Rattle.czi_machine.specs.Edit.{DocumentEffect}
use Rattle.czi_machine.specs.Grouped.{FitAll, fit_all}
use Rattle.czi_machine.specs.InOrder.{LiesInOrder, needs_of}
use Rattle.czi_machine.specs.Places.{edit_asks, laid, space_of}
use Rattle.czi_machine.specs.Planned.{Plans}
use Rattle.czi_machine.specs.State.{State, item_places, item_spans, items_of, not_among}
use Rattle.czi_region.specs.declared.block.Region.{Region}
use Rattle.czi_space.specs.State.{MapState}
use Rattle.czi_plan.specs.Conditions.{LiesIn}
use Rattle.czi_plan.specs.Pieces.{pieces_of}
use Rattle.czi_plan.specs.Plan.{extents_after, left_items, used_of}
use Rattle.czi_plan.specs.declared.plan.EditPlan.{EditPlan}
use Rattle.czi_plan.specs.declared.plan.PlanFault.{PlanFault}
use Rattle.czi_plan.specs.declared.plan.PlanFault.TheVariants.{Full as Filled, Memory}

-- where everything lies after the plan of a state
abbrev pub layout_by : EditPlan → State → Layout
layout_by p s = layout_after p.change (extents_after p s.layout.deleted) p.length s.layout

-- On a state the plan is an effect: its needs fit one after another in what is used, what it changes lies there, and its pieces
-- are what the machine asks for between the layout of the state and the one to which the effect leads.
pub record DoesIn (image : List ℕ) (live : Live) (s : State) (x : Index) (region : Region) (p : EditPlan) (e : DocumentEffect) : Type 0 where
  pub space : Space
  pub fits : fit_all (space_of s) (needs_of s e) ≡ Ok (record { spans = used_of p; space = space })
  pub length : p.length ≡ space.length
  pub order : LiesInOrder s e (live_change_of p.change x) (used_of p)
  pub goes : laid s (edit_asks s e) ≡ Ok (layout_by p s)
  pub plans : Plans image s.layout (layout_by p s) live e (live_change_of p.change x) (pieces_of region p)
  -- the items of the state that aren't live afterwards are those that leave
  pub leaves : not_among (item_spans (items_of (layout_by p s))) (item_places (items_of s.layout)) ≡ left_items p.change x

-- so it is on every state that lies in the index and the map
abbrev pub Does : Index → MapState → Region → EditPlan → DocumentEffect → Type 0
Does x m region p e = (image : List ℕ) (live : Live) (s : State) → LiesIn image live s x m → DoesIn image live s x region p e

-- why there is no plan: one of the needs has no place, or memory was wanting where all have one
abbrev pub IsCause : PlanFault → Result FitAll Full → Type 0
IsCause (Filled need length) fits = fits ≡ Err (record { need = need; length = length })
IsCause Memory fits = (all : FitAll) × (fits ≡ Ok all)

abbrev pub HasNoPlan : Index → MapState → DocumentEffect → PlanFault → Type 0
HasNoPlan x m e fault = (image : List ℕ) (live : Live) (s : State) → LiesIn image live s x m → IsCause fault (fit_all (space_of s) (needs_of s e))
