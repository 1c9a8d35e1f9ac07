-- What stands before the place where reading breaks off begins a dimension text.
use Rattle.std.proofs.Common.{◌≡◌, ℕ, suc, ◌-◌, ◌≤◌, List, ◌++◌, take, length, Err, ap, sym, ◌∙◌, subst, arith, inl, inr}
use Rattle.std.proofs.Math.Seq.{take-length}
use Rattle.czi_doc.specs.DimText.{AreItems, Begins, IsFaultAt}
use Rattle.czi_format.specs.Entry.{Dim}
use Rattle.czi_doc.specs.Reading.{items_at}
use Rattle.czi_doc.proofs.Breaks.{SomeItems, FaultOf, BreaksOff, fault_of, front_of, breaks}

pub begins : (n left : ℕ) (bytes : List ℕ) → items_at (suc n) bytes ≡ Err left → left ≤ length bytes
    → (rest : List ℕ) × (ds : List Dim) × AreItems (take (length bytes - left) bytes ++ rest) ds × (length ds ≤ suc n)
begins n left bytes e inside =
    let f : FaultOf n bytes left = fault_of n left bytes e in
    let some : SomeItems (suc n) (take (length bytes - left) bytes ++ f.more) = subst (λ l. SomeItems (suc n) (l ++ f.more)) (sym (front_of n left bytes f)) f.closed in
    (f.more, some.0, some.1, some.2)

-- the place where reading breaks off is a fault of the text
pub fault_there : (left : ℕ) (bytes : List ℕ) → items_at 40 bytes ≡ Err left → IsFaultAt bytes (length bytes - left)
fault_there left bytes e = let b = breaks 39 left bytes e in by b.0 (begins 39 left bytes e b.0) b.1
  where
    by : left ≤ length bytes → Begins (take (length bytes - left) bytes) → BreaksOff 39 left bytes → IsFaultAt bytes (length bytes - left)
    by inside begun (inl u) =
        let all : length bytes - left ≡ length bytes = omega (arith, u.none) in
        inl (record { all = all; begins = subst Begins (ap (λ k. take k bytes) all ∙ take-length bytes) begun; unfinished = u.unfinished })
    by inside begun (inr (inl u)) = inr (inl (record { inside = u.inside; begins = begun; ends = λ b. u.ends b.0 b.1 b.2 b.3 }))
    by inside begun (inr (inr u)) = inr (inr (record { begins = begun; behind = u.behind; some = u.some; size = u.size; value = u.value; number = u.number; range = u.range }))
