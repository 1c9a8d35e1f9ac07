-- Where reading breaks off is the first fault of the text.
use Rattle.std.proofs.Common.{◌≡◌, ℕ, zero, suc, ◌+◌, ◌-◌, ◌<◌, ◌≤◌, List, [], ◌∷◌, ◌++◌, take, drop, length, Err, refl, ap, ◌∙◌, subst, arith, inl, inr, append_assoc}
use Rattle.czi_doc.specs.DimText.{AreItems, Begins, IsFaultAt, IsFirstFault}
use Rattle.czi_doc.specs.Reading.{items_at}
use Rattle.czi_doc.proofs.Breaks.{breaks}
use Rattle.czi_doc.proofs.Begun.{begins, fault_there}
use Rattle.czi_doc.proofs.InRange.{first}

front_again : (k p : ℕ) (text : List ℕ) → k ≤ p → take p text ≡ take k text ++ drop k (take p text)
front_again zero p text less = refl
front_again (suc k) zero text less = absurd (omega arith)
front_again (suc k) (suc p) [] less = refl
front_again (suc k) (suc p) (b ∷ text) less = ap (λ l. b ∷ l) (front_again k p text (omega arith))

-- a front of what begins a dimension text begins one
front_begins : (k p : ℕ) (text : List ℕ) → k ≤ p → Begins (take p text) → Begins (take k text)
front_begins k p text less b =
    let whole : take p text ++ b.0 ≡ take k text ++ (drop k (take p text) ++ b.0) = ap (λ l. l ++ b.0) (front_again k p text less) ∙ append_assoc (take k text) (drop k (take p text)) b.0 in
    (drop k (take p text) ++ b.0, b.1, subst (λ l. AreItems l b.1) whole b.2, b.3)

none_before : (left : ℕ) (text : List ℕ) → items_at 40 text ≡ Err left → (before : ℕ) → before < length text - left → IsFaultAt text before → ⊥
none_before left text e before less (inl f) = absurd (omega (arith, less, f.all))
none_before left text e before less (inr (inl f)) = f.ends (front_begins (before + 1) (length text - left) text (omega arith) (begins 39 left text e (breaks 39 left text e).0))
none_before left text e before less (inr (inr f)) = first 39 left text e before less f

pub told_first : (text : List ℕ) (place left : ℕ) → items_at 40 text ≡ Err left → place + left ≡ length text → IsFirstFault text place
told_first text place left e whole =
    let there : length text - left ≡ place = omega (arith, whole) in
    subst (IsFirstFault text) there (record { here = fault_there left text e; first = none_before left text e })
