-- Files that are refused are kept.
use Rattle.std.proofs.Common.{◌≡◌, ℕ, List, ◌++◌, take, Option, None, Some, inl, inr, ⊎_elim, refl, sym, ap, ◌∙◌, zero-le}
use Rattle.std.proofs.lemmas.List.{append-nil}
use Rattle.czi_rig.specs.declared.rig.Rig.{Ghosts}
use Rattle.czi_rig.specs.State.{Instant}
use Rattle.czi_rig.specs.Faults.{Device}
use Rattle.czi_rig.specs.Moments.{CountsNow, Devices, LeavesSaying, Throughout, devices, FromSomeMoment}
use Rattle.czi_rig.proofs.Known.{leaves_now}
use Rattle.czi_rig.proofs.Runs.{weaker}
use Rattle.czi_session.specs.Course.{KeepsFiles, KeepsSaying, Model, OnceDurable}
use Rattle.czi_session.proofs.Ending.{from_more, from_weaker}

-- none of the text was said
keeps_saying : (m : Model) (all : Devices) (text image journal said : List ℕ) → KeepsFiles m all image journal said → KeepsSaying m all text image journal said
keeps_saying m all text image journal said keeps = (0, zero-le, keeps.1 ∙ sym (append-nil all.said), keeps.0)

module _ {D : Type 0} (rig : Ghosts D) where
  pub once_weaker : {old new : D} {P Q : Instant} (at : Option Device) → ((image journal said : List ℕ) → P image journal said → Q image journal said) → OnceDurable rig old new P at → OnceDurable rig old new Q at
  once_weaker at h once = ⊎_elim (λ nothing. inl nothing) (λ from. inr (from_weaker rig h from)) once

  -- where no file failed, the files were made durable
  pub surely : {old new : D} {P : Instant} → OnceDurable rig old new P None → FromSomeMoment rig old new P
  surely once = ⊎_elim (λ nothing. absurd nothing.1) (λ from. from) once

  -- nothing but an opening came
  pub kept_silent : (m : Model) (all : Devices) (text : List ℕ) (old new : D) (at : Option Device) → OnceDurable rig old new (KeepsFiles m all) at → OnceDurable rig old new (KeepsSaying m all text) at
  kept_silent m all text old new at once = once_weaker at (keeps_saying m all text) once

  -- saying why keeps them
  pub kept_saying : CountsNow rig → (m : Model) (all now : Devices) (old mid new : D) (text : List ℕ) → FromSomeMoment rig old mid (KeepsFiles m all) → devices (rig.state mid) ≡ Some now → now.said ≡ all.said
      → Throughout rig mid new (LeavesSaying now text) → FromSomeMoment rig old new (KeepsSaying m all text)
  kept_saying counts m all now old mid new text from is same says =
      let t : ℕ = (rig.state from.then).moment in
      from_more rig (from_weaker rig (keeps_saying m all text) from) (weaker rig (λ i j o l.
      let leaves = leaves_now (rig.state mid) now is i j now.said (record { image_is = l.2.image_is; journal_is = l.2.journal_is; said_is = refl }) in
      (l.0, l.1, l.2.said_is ∙ ap (λ (x : List ℕ). x ++ take l.0 text) same, (from.always i j now.said (counts mid t i j now.said from.after.later leaves)).0)) says)
