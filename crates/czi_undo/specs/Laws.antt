-- The laws of the former documents that an undo list gives, as statements.
use Rattle.std.specs.Prelude.{◌≡◌, ℕ, zero, suc, ◌<◌, ◌^◌, List, [], ◌∷◌, map, take, length, true, Ok}
use Rattle.czi_format.specs.Live.{Live}
use Rattle.czi_machine.specs.Change.{bring, past, put, out, inverted}
use Rattle.czi_machine.specs.Edit.{DocumentEffect, after}
use Rattle.czi_machine.specs.Formers.{present, undoing}
use Rattle.czi_machine.specs.Holes.{holes, SameOutside}
use Rattle.czi_machine.specs.Kept.{LiesWith}
use Rattle.czi_machine.specs.LiveChange.{LiveChange, SpansAt, changed_live}
use Rattle.czi_machine.specs.Machine.{after_effect, after_undo, kept_formers}
use Rattle.czi_machine.specs.Planned.{Plans}
use Rattle.czi_machine.specs.State.{State, held}
use Rattle.czi_machine.specs.Written.{Piece, Wrote}
use Rattle.czi_undo.specs.Formers.{formers_of}
use Rattle.czi_undo.specs.Parts.{drops, puts, inserts, change_of, in_range}
use Rattle.czi_undo.specs.Told.{Single, tells_single, return_of_single, FitAll, few_items}

-- A state lies in an image together with single inverses, whose places are in range, and which bring its former documents back.
pub record LiesBefore (image : List ℕ) (live : Live) (s : State) (os : List Single) : Type 0 where
  pub with' : LiesWith image live s (map return_of_single os)
  pub fit : FitAll (present s) os s.formers

-- What is told for them gives the former documents of the state.
abbrev pub FormersFound : Type 0
FormersFound = (image : List ℕ) (live : Live) (s : State) (os : List Single) → LiesBefore image live s os → length image < 2 ^ 63 → formers_of image (present s) (map tells_single os) ≡ s.formers

-- and so it does in each image that agrees with this one outside the holes of the state
abbrev pub FormersKept : Type 0
FormersKept = (image other : List ℕ) (live : Live) (s : State) (os : List Single) → LiesBefore image live s os → length image < 2 ^ 63 → SameOutside image other (holes (held s) s.layout.deleted)
    → formers_of other (present s) (map tells_single os) ≡ s.formers

-- After an edit was written, its inverse in front of those that are kept brings the new state's former documents back.
abbrev pub EditsLieBefore : Type 0
EditsLieBefore = (image other : List ℕ) (s s' : State) (live : Live) (e : DocumentEffect) (t : LiveChange) (pieces : List Piece) (o : Single) (os : List Single)
    → LiesBefore image live s os → few_items s.document ≡ true → after_effect s e ≡ Ok s' → SpansAt s'.layout (changed_live t live) → Plans image s.layout s'.layout live e t pieces → Wrote image other pieces
    → length other ≡ s'.layout.length → undoing 1 t live s.layout ≡ return_of_single o → in_range o.part s'.document ≡ true → LiesBefore other (changed_live t live) s' (o ∷ take (kept_formers 1 s) os)

-- and after an undo the others do
abbrev pub UndosLieBefore : Type 0
UndosLieBefore = (image other : List ℕ) (s s' : State) (live : Live) (e : DocumentEffect) (t : LiveChange) (pieces : List Piece) (o : Single) (os : List Single)
    → LiesBefore image live s (o ∷ os) → after_undo s ≡ Ok s' → s'.document ≡ after e s.document → SpansAt s'.layout (changed_live t live) → Plans image s.layout s'.layout live e t pieces → Wrote image other pieces
    → length other ≡ s'.layout.length → LiesBefore other (changed_live t live) s' os

-- an item stands at a place of a list
abbrev pub ItemAt : {Y : Type 0} → ℕ → Y → List Y → Type 0
ItemAt i y [] = ⊥
ItemAt zero y (z ∷ ys) = z ≡ y
ItemAt (suc i) y (z ∷ ys) = ItemAt i y ys

-- what undoes a single change of a list is a single inverse
abbrev pub LastUndone : Type 0 → Type 0 → Type 0
LastUndone X Y = (x : X) (ys : List Y) → inverted (past (length ys) (bring x ∷ [])) ys ≡ change_of (drops (length ys))

abbrev pub PutUndone : Type 0 → Type 0 → Type 0
PutUndone X Y = (i : ℕ) (x : X) (y : Y) (ys : List Y) → ItemAt i y ys → inverted (put i x) ys ≡ change_of (puts i y)

abbrev pub OutUndone : Type 0 → Type 0 → Type 0
OutUndone X Y = (i : ℕ) (y : Y) (ys : List Y) → ItemAt i y ys → inverted {X = X} (out i) ys ≡ change_of (inserts i y)
