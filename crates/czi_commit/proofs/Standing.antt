-- What the files stand for while an image is filled.
use Rattle.std.proofs.Common.{◌≡◌, ℕ, Some, List}
use Rattle.czi_rig.specs.declared.rig.Rig.{Ghosts}
use Rattle.czi_rig.specs.declared.file.File.TheVariants.{Image}
use Rattle.czi_rig.specs.State.{Instant, LeavesOther}
use Rattle.czi_rig.specs.Passes.{GoesOn}
use Rattle.czi_rig.specs.Moments.{Devices, devices, LeavesNow, Throughout, with_file, CountsNow, OnlyNow}
use Rattle.czi_rig.proofs.Keeps.{keeps_begins, keeps_calls}
use Rattle.czi_rig.proofs.Known.{still_known}
use Rattle.czi_rig.proofs.Runs.{joined, weaker}
use Rattle.czi_vault.specs.Alone.{Alone, Keeps, KeepsNow}
use Rattle.czi_vault.specs.Recovered.{View, Stands}
use Rattle.czi_vault.proofs.Pending.{both}
use Rattle.czi_commit.specs.Ready.{JournalCounts}

-- the files stand for the view, the image alone waits or has its bytes, and nothing more was said
abbrev pub KeepsStill : View → List ℕ → Instant
KeepsStill view bytes image journal said = Keeps view image journal × (said ≡ bytes)

module _ {D : Type 0} (rig : Ghosts D) (counts : CountsNow rig) (only : OnlyNow rig) where
  -- what the files stood for at every moment, they stand for now
  pub keeps_after : (old new : D) (all now : Devices) (view : View) → devices (rig.state old) ≡ Some all → KeepsNow view all → Throughout rig old new (KeepsStill view all.said)
      → devices (rig.state new) ≡ Some now → KeepsNow view now
  keeps_after old new all now view is stands moments is_now i j o l =
      ((keeps_calls rig counts only (keeps_begins rig old all (KeepsStill view all.said) is here) moments (λ a b c p. p) is_now).here i j o l).0
    where
      here : (image journal said : List ℕ) → LeavesNow all image journal said → KeepsStill view all.said image journal said
      here a b c k = (stands a b c k, k.said_is)

  -- one part and then another, neither of which touches the journal
  pub fills_then : (old mid new : D) (all : Devices) (view : View) → devices (rig.state old) ≡ Some all → KeepsNow view all → JournalCounts all → Throughout rig old mid (KeepsStill view all.said)
      → LeavesOther Image (rig.state old) (rig.state mid) → GoesOn (rig.state old) (rig.state mid)
      → ((now : Devices) → devices (rig.state mid) ≡ Some now → KeepsNow view now → JournalCounts now → Throughout rig mid new (KeepsStill view now.said)) → Throughout rig old new (KeepsStill view all.said)
  fills_then old mid new all view is stands journal first other goes second =
      let still = still_known (rig.state old) (rig.state mid) Image all is other goes in
      joined rig first (second (with_file all Image still.disk) still.known (keeps_after old mid all (with_file all Image still.disk) view is stands first still.known) journal)

-- what a step of the vault says of the files, and of the image alone
pub prefill_keeps : {D : Type 0} (rig : Ghosts D) {old new : D} {view : View} {bytes : List ℕ} → Throughout rig old new (λ image journal said. Stands view image journal × (said ≡ bytes)) → Throughout rig old new (λ image journal said. Alone view image)
    → Throughout rig old new (KeepsStill view bytes)
prefill_keeps rig stands alone = weaker rig (λ i j o p. ((p.0.0, p.1), p.0.1)) (both rig stands alone)
