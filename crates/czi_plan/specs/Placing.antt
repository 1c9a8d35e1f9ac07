-- Why a need has no place.
use Rattle.std.specs.Prelude.{◌≡◌, ℕ, Result, Err}
use Rattle.czi_format.specs.Space.{Fit, Full}
use Rattle.czi_plan.specs.declared.plan.PlanFault.{PlanFault}
use Rattle.czi_plan.specs.declared.plan.PlanFault.TheVariants.{Full as Filled, Memory}

-- the fault tells it, with the need and the length at which a place was looked for
abbrev pub IsFull : PlanFault → Result Fit Full → Type 0
IsFull (Filled need length) fit = fit ≡ Err (record { need = need; length = length })
IsFull Memory fit = ⊥

-- it is a want of place, and never one of memory
abbrev pub HasNoPlace : PlanFault → Type 0
HasNoPlace fault = (need : ℕ) × (length : ℕ) × (fault ≡ Filled need length)
