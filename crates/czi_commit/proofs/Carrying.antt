-- The steps of a command, one after another.
use Rattle.std.proofs.Common.{◌≡◌, inl, ℕ, Option, None, Some, Result, Ok, Err, List, refl, ◌∙◌, ap}
use Rattle.std.specs.Prelude.{option_map, OnOk}
use Rattle.std.specs.Option.{ForSome}
use Rattle.czi_rig.specs.declared.rig.Rig.{Ghosts}
use Rattle.czi_rig.specs.declared.file.File.TheVariants.{Image, Journal}
use Rattle.czi_rig.specs.Disk.{Disk, Everywhere, at_rest}
use Rattle.czi_rig.specs.State.{State, Instant, known, seen_of}
use Rattle.czi_rig.specs.Moments.{Devices, devices, Throughout, CountsNow, OnlyNow}
use Rattle.czi_rig.proofs.Known.{known_file}
use Rattle.czi_rig.proofs.Runs.{joined, started, weaker}
use Rattle.czi_journal.specs.declared.journal.Slot.{Slot}
use Rattle.czi_journal.specs.Journals.{CountsWith}
use Rattle.czi_vault.specs.Alone.{KeepsNow, KeepsOr}
use Rattle.czi_vault.specs.Recovered.{View}
use Rattle.czi_commit.specs.Ready.{JournalCounts}
use Rattle.czi_commit.proofs.Standing.{KeepsStill, keeps_after}

pub on_ok : {T E : Type 0} {P Q : Type 0} (r : Result T E) → (P → Q) → OnOk r P → OnOk r Q
on_ok (Ok v) f h = f h
on_ok (Err e) f h = tt

-- the files stood for the view from first to now, and so did the image alone; this is known now
pub record Course {D : Type 0} (rig : Ghosts D) (first now : D) (bytes : List ℕ) (view : View) (here : Devices) : Type 0 where
  pub known : devices (rig.state now) ≡ Some here
  pub said : here.said ≡ bytes
  pub stands : KeepsNow view here
  pub moments : Throughout rig first now (KeepsStill view bytes)

abbrev pub NewOr : View → List ℕ → List ℕ → Instant
NewOr view new bytes image journal said = KeepsOr view new image journal × (said ≡ bytes)

module _ {D : Type 0} (rig : Ghosts D) (counts : CountsNow rig) (only : OnlyNow rig) where
  pub course_begins : (first : D) (all : Devices) (view : View) → devices (rig.state first) ≡ Some all → KeepsNow view all → Course rig first first all.said view all
  course_begins first all view is stands = record { known = is; said = refl; stands = stands; moments = started rig first (KeepsStill view all.said) }

  -- a further step
  pub course_next : {first old new : D} {bytes : List ℕ} {view : View} {before : Devices} (now : Devices) → Course rig first old bytes view before → Throughout rig old new (KeepsStill view before.said)
      → devices (rig.state new) ≡ Some now → now.said ≡ before.said → Course rig first new bytes view now
  course_next {old = old} {new = new} {view = view} {before = before} now k moments is said = record {
    known = is;
    said = said ∙ k.said;
    stands = keeps_after rig counts only old new before now view k.known k.stands moments is;
    moments = joined rig k.moments (weaker rig (λ i j o p. (p.0, p.1 ∙ k.said)) moments);
  }

  -- one that fails
  pub course_fails : {first old new : D} {bytes : List ℕ} {view : View} {before : Devices} (made : List ℕ) → Course rig first old bytes view before → Throughout rig old new (KeepsStill view before.said)
      → Throughout rig first new (NewOr view made bytes)
  course_fails made k moments = joined rig (weaker rig (λ i j o p. (inl p.0, p.1)) k.moments) (weaker rig (λ i j o p. (inl p.0, p.1 ∙ k.said)) moments)

  -- the commit
  pub course_ends : {first old new : D} {bytes : List ℕ} {view : View} {before : Devices} (made : List ℕ) → Course rig first old bytes view before → Throughout rig old new (NewOr view made before.said)
      → Throughout rig first new (NewOr view made bytes)
  course_ends made k moments = joined rig (weaker rig (λ i j o p. (inl p.0, p.1)) k.moments) (weaker rig (λ i j o p. (p.0, p.1 ∙ k.said)) moments)

-- an armed journal counts in all that a crash may leave
pub journal_counts : (s : State) (here : Devices) (slot : Slot) → devices s ≡ Some here → ForSome (known s Journal) (Everywhere (CountsWith slot)) → JournalCounts here
journal_counts s here slot is counts j l = ((counts here.journal (known_file s Journal here is)).left j l).counts

-- one file after steps that each act on its content
content_twice : (f g : List ℕ → List ℕ) (o : Option Disk) → option_map (λ (d : Disk). at_rest (g d.seen)) (option_map (λ (d : Disk). at_rest (f d.seen)) o) ≡ option_map (λ (d : Disk). at_rest (g (f d.seen))) o
content_twice f g None = refl
content_twice f g (Some d) = refl

content_settled : (f : List ℕ → List ℕ) (o : Option Disk) → option_map at_rest (option_map f (option_map (λ (d : Disk). d.seen) o)) ≡ option_map (λ (d : Disk). at_rest (f d.seen)) o
content_settled f None = refl
content_settled f (Some d) = refl

content_seen : (f : List ℕ → List ℕ) (o : Option Disk) → option_map (λ (d : Disk). d.seen) (option_map (λ (d : Disk). at_rest (f d.seen)) o) ≡ option_map f (option_map (λ (d : Disk). d.seen) o)
content_seen f None = refl
content_seen f (Some d) = refl

-- the image once it was filled and synced
pub image_settled : (s one two three : State) (f : List ℕ → List ℕ) → known one Image ≡ known s Image → seen_of two Image ≡ option_map f (seen_of one Image) → known three Image ≡ option_map at_rest (seen_of two Image)
    → known three Image ≡ option_map (λ (d : Disk). at_rest (f d.seen)) (known s Image)
image_settled s one two three f armed wrote settled = settled ∙ ap (option_map at_rest) (wrote ∙ ap (λ (o : Option Disk). option_map f (option_map (λ (d : Disk). d.seen) o)) armed) ∙ content_settled f (known s Image)

pub image_seen : (s three : State) (f : List ℕ → List ℕ) → known three Image ≡ option_map (λ (d : Disk). at_rest (f d.seen)) (known s Image) → seen_of three Image ≡ option_map f (seen_of s Image)
image_seen s three f is = ap (option_map (λ (d : Disk). d.seen)) is ∙ content_seen f (known s Image)

pub image_committed : (s three four : State) (f g : List ℕ → List ℕ) → known three Image ≡ option_map (λ (d : Disk). at_rest (f d.seen)) (known s Image) → known four Image ≡ option_map (λ (d : Disk). at_rest (g d.seen)) (known three Image)
    → known four Image ≡ option_map (λ (d : Disk). at_rest (g (f d.seen))) (known s Image)
image_committed s three four f g settled committed = committed ∙ ap (option_map (λ (d : Disk). at_rest (g d.seen))) settled ∙ content_twice f g (known s Image)

pub image_known : (s three : State) (all : Devices) (f : List ℕ → List ℕ) → devices s ≡ Some all → known three Image ≡ option_map (λ (d : Disk). at_rest (f d.seen)) (known s Image) → known three Image ≡ Some (at_rest (f all.image.seen))
image_known s three all f is settled = settled ∙ ap (option_map (λ (d : Disk). at_rest (f d.seen))) (known_file s Image all is)
