-- What undoes a single change of a list is a single inverse.
use Rattle.std.proofs.Common.{◌≡◌, ℕ, zero, suc, List, [], ◌∷◌, length, refl, ap}
use Rattle.czi_machine.specs.Change.{keep, omit, bring, past, put, out, inverted}
use Rattle.czi_undo.specs.Parts.{drops, puts, inserts, change_of}
use Rattle.czi_undo.specs.Laws.{ItemAt}

nothing_at : {Y : Type 0} (i : ℕ) (y : Y) → ItemAt i y [] → ⊥
nothing_at zero y at = at
nothing_at (suc i) y at = at

pub undone_last : {X Y : Type 0} (x : X) (ys : List Y) → inverted (past (length ys) (bring x ∷ [])) ys ≡ change_of (drops (length ys))
undone_last x [] = refl
undone_last x (y ∷ ys) = ap (λ l. keep ∷ l) (undone_last x ys)

pub undone_put : {X Y : Type 0} (i : ℕ) (x : X) (y : Y) (ys : List Y) → ItemAt i y ys → inverted (put i x) ys ≡ change_of (puts i y)
undone_put i x y [] at = absurd (nothing_at i y at)
undone_put zero x y (z ∷ ys) at = ap (λ w. bring w ∷ omit ∷ []) at
undone_put (suc i) x y (z ∷ ys) at = ap (λ l. keep ∷ l) (undone_put i x y ys at)

pub undone_out : {Y : Type 0} (X : Type 0) (i : ℕ) (y : Y) (ys : List Y) → ItemAt i y ys → inverted {X = X} (out i) ys ≡ change_of (inserts i y)
undone_out X i y [] at = absurd (nothing_at i y at)
undone_out X zero y (z ∷ ys) at = ap (λ w. bring w ∷ []) at
undone_out X (suc i) y (z ∷ ys) at = ap (λ l. keep ∷ l) (undone_out X i y ys at)
