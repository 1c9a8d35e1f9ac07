-- Counts of faults, call by call.
use Rattle.std.proofs.Common.{◌≡◌, ◌∙◌, ℕ, Bool, true, false, cond, Some, None, Option, refl, subst}
use Rattle.czi_rig.specs.State.{State}
use Rattle.czi_rig.specs.Passes.{Rose}
use Rattle.czi_rig.specs.Faults.{Counted, Device, Faults, image, journal}

-- nothing has happened
pub no_faults : (s : State) → Faults None s s
no_faults s = record { image_count = refl; journal_count = refl; output_count = refl }

counted_then : (rises : Bool) (a b c : ℕ) → b ≡ a → Counted rises b c → Counted rises a c
counted_then true a b c same then = subst (λ (n : ℕ). Rose n c) same then
counted_then false a b c same then = then ∙ same

-- Nothing had failed, and then this.
pub faults_then : (at : Option Device) (a b c : State) → Faults None a b → Faults at b c → Faults at a c
faults_then at a b c none then = record {
  image_count = counted_then _ _ _ _ none.image_count then.image_count;
  journal_count = counted_then _ _ _ _ none.journal_count then.journal_count;
  output_count = counted_then _ _ _ _ none.output_count then.output_count;
}

-- a call of one device
pub image_counts : (failed : Bool) (old new : State) → Counted failed old.image_faults new.image_faults → new.journal_faults ≡ old.journal_faults → new.output_faults ≡ old.output_faults → Faults (cond failed (Some image) None) old new
image_counts true old new i j o = record { image_count = i; journal_count = j; output_count = o }
image_counts false old new i j o = record { image_count = i; journal_count = j; output_count = o }

pub journal_counts : (failed : Bool) (old new : State) → new.image_faults ≡ old.image_faults → Counted failed old.journal_faults new.journal_faults → new.output_faults ≡ old.output_faults → Faults (cond failed (Some journal) None) old new
journal_counts true old new i j o = record { image_count = i; journal_count = j; output_count = o }
journal_counts false old new i j o = record { image_count = i; journal_count = j; output_count = o }
