-- How calls that leave everything as it was follow one another.
use Rattle.std.proofs.Common.{◌≡◌, inl, Some, IsTrue, ⊎_elim, ◌∙◌, refl, subst, sym, arith}
use Rattle.czi_rig.specs.declared.rig.Rig.{Ghosts}
use Rattle.czi_rig.specs.State.{State, Instant, SameAll, MayLeave}
use Rattle.czi_rig.specs.Passes.{Passes}
use Rattle.czi_rig.specs.Moments.{Devices, devices, all_of, CountsNow, Run}
use Rattle.czi_rig.specs.Quiet.{Untouched}
use Rattle.czi_rig.proofs.Known.{is_honest}

-- what is told stays so
pub devices_same : (s t : State) → SameAll s t → devices t ≡ devices s
devices_same s t same = λ i. all_of (same.image i) (same.journal i) (same.said i)

module _ {D : Type 0} (rig : Ghosts D) where
  -- `len` or `read_at`, also where it fails
  pub untouched_call : {old new : D} → CountsNow rig → SameAll (rig.state old) (rig.state new)
      → Passes (rig.state old) (rig.state new) (rig.left_since old) (rig.left_since new) (MayLeave (rig.state old)) → Untouched rig old new
  untouched_call {old = old} counts same time = record {
    same = same;
    goes_on = time.goes_on;
    moments = λ honest t i j o le left. ⊎_elim (λ was. was) (λ now. counts old t i j o le now) (time.adds t i j o honest le left);
  }

  -- one after another
  pub untouched_then : {old mid new : D} → Untouched rig old mid → Untouched rig mid new → Untouched rig old new
  untouched_then {old = old} {mid = mid} a b = record {
    same = record { image = b.same.image ∙ a.same.image; journal = b.same.journal ∙ a.same.journal; said = b.same.said ∙ a.same.said };
    goes_on = record {
      honest = b.goes_on.honest ∙ a.goes_on.honest;
      tells_image = b.goes_on.tells_image ∙ a.goes_on.tells_image;
      tells_journal = b.goes_on.tells_journal ∙ a.goes_on.tells_journal;
      tells_said = b.goes_on.tells_said ∙ a.goes_on.tells_said;
      image_faults = omega (arith, a.goes_on.image_faults, b.goes_on.image_faults);
      journal_faults = omega (arith, a.goes_on.journal_faults, b.goes_on.journal_faults);
      output_faults = omega (arith, a.goes_on.output_faults, b.goes_on.output_faults);
      later = omega (arith, a.goes_on.later, b.goes_on.later);
    };
    moments = λ honest t i j o le left. a.moments honest t i j o le (b.moments (subst (λ h. IsTrue h) (sym a.goes_on.honest) honest) t i j o (omega (arith, le, a.goes_on.later)) left);
  }

  -- nothing was called
  pub untouched_here : (r : D) → Untouched rig r r
  untouched_here r = record {
    same = record { image = refl; journal = refl; said = refl };
    goes_on = record { honest = refl; tells_image = refl; tells_journal = refl; tells_said = refl; image_faults = omega arith; journal_faults = omega arith; output_faults = omega arith; later = omega arith };
    moments = λ honest t i j o le left. left;
  }

  -- a run that has left everything as it was so far
  pub untouched_run : {first now : D} {all : Devices} {P : Instant} → devices (rig.state first) ≡ Some all → Untouched rig first now → Run rig first now all P
  untouched_run {first = first} {now = now} {all = all} is u = record {
    known = devices_same (rig.state first) (rig.state now) u.same ∙ is;
    moments = record { later = u.goes_on.later; each = λ t i j o le left. inl (u.moments (is_honest (rig.state first) all is) t i j o le left) };
  }
