-- Faults from one call to the next.
use Rattle.std.proofs.Common.{◌≡◌, ℕ, List, Result, Ok, Err, ap, ◌∙◌, subst, sym, option_map, Some}
use Rattle.std.specs.Prelude.{IfOk, IfErr}
use Rattle.czi_rig.specs.declared.file.File.{File}
use Rattle.czi_rig.specs.declared.file.File.TheVariants.{Image, Journal}
use Rattle.czi_rig.specs.Disk.{Disk}
use Rattle.czi_rig.specs.State.{State, SameAll, seen_of}
use Rattle.czi_format.specs.FirstFault.{◌>>=◌}
use Rattle.czi_format.specs.Refusals.{Refusal}
use Rattle.czi_image.specs.declared.fault.ImageFault.{ImageFault}
use Rattle.czi_image.specs.declared.fault.ImageFault.TheVariants.{NotCzi, MultiPart, Pending, BadDirectory, TooMany, BadEntry, BadSegment, BadAttachment, Overlap, Memory, Device}
use Rattle.czi_image.specs.Faults.{Tells, IsOnlyCalls}

err_first : {A B E : Type 0} (r : Result A E) (f : A → Result B E) (e : E) → r ≡ Err e → r >>= f ≡ Err e
err_first r f e is = rw is

-- what refuses first refuses all
pub tells_first : {A B : Type 0} (r : Result A Refusal) (f : A → Result B Refusal) (fault : ImageFault) → Tells r fault → Tells (r >>= f) fault
tells_first r f NotCzi t = err_first r f _ t
tells_first r f (MultiPart part) t = err_first r f _ t
tells_first r f (Pending value) t = err_first r f _ t
tells_first r f (BadDirectory place) t = err_first r f _ t
tells_first r f (TooMany place count) t = err_first r f _ t
tells_first r f (BadEntry place) t = err_first r f _ t
tells_first r f (BadSegment place) t = err_first r f _ t
tells_first r f (BadAttachment place) t = err_first r f _ t
tells_first r f (Overlap first second) t = err_first r f _ t
tells_first r f Memory t = tt
tells_first r f Device t = tt

-- the same of an equal answer
pub tells_same : {A : Type 0} (r s : Result A Refusal) (fault : ImageFault) → r ≡ s → Tells s fault → Tells r fault
tells_same r s fault same t = subst (λ x. Tells x fault) (sym same) t

pub only_calls : {A : Type 0} (r : Result A Refusal) (fault : ImageFault) → IsOnlyCalls fault → Tells r fault
only_calls r NotCzi c = absurd c
only_calls r (MultiPart part) c = absurd c
only_calls r (Pending value) c = absurd c
only_calls r (BadDirectory place) c = absurd c
only_calls r (TooMany place count) c = absurd c
only_calls r (BadEntry place) c = absurd c
only_calls r (BadSegment place) c = absurd c
only_calls r (BadAttachment place) c = absurd c
only_calls r (Overlap first second) c = absurd c
only_calls r Memory c = tt
only_calls r Device c = tt

pub ok_weaker : {A E : Type 0} (r : Result A E) (P Q : A → Type 0) → ((x : A) → P x → Q x) → IfOk r P → IfOk r Q
ok_weaker (Ok x) P Q h p = h x p
ok_weaker (Err e) P Q h p = p

pub err_weaker : {A E : Type 0} (r : Result A E) (P Q : E → Type 0) → ((e : E) → P e → Q e) → IfErr r P → IfErr r Q
err_weaker (Ok x) P Q h p = p
err_weaker (Err e) P Q h p = h e p

-- what a read gives after calls that leave everything as it was
pub seen_same : (s t : State) (f : File) (bytes : List ℕ) → SameAll s t → seen_of s f ≡ Some bytes → seen_of t f ≡ Some bytes
seen_same s t Image bytes same is = ap (option_map (λ (disk : Disk). disk.seen)) same.image ∙ is
seen_same s t Journal bytes same is = ap (option_map (λ (disk : Disk). disk.seen)) same.journal ∙ is

pub seen_before : (s t : State) (bytes : List ℕ) → SameAll s t → seen_of t Image ≡ Some bytes → seen_of s Image ≡ Some bytes
seen_before s t bytes same is = ap (option_map (λ (disk : Disk). disk.seen)) (sym same.image) ∙ is
