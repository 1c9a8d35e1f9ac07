-- Reading one item after another.
use Rattle.std.proofs.Common.{◌≡◌, ℕ, suc, ◌-◌, ◌<◌, List, [], ◌∷◌, ◌++◌, drop, length, Result, Ok, Err, true, false, ◌==◌, refl, ap, sym, ◌∙◌, arith, append_assoc}
use Rattle.czi_format.specs.FirstFault.{◌>>=◌}
use Rattle.czi_format.specs.Entry.{Dim}
use Rattle.czi_doc.specs.Reading.{Read, item_at, items_at, behind, begins_with, with_front}

step : (n : ℕ) (bytes : List ℕ) → items_at (suc n) bytes ≡ (item_at bytes >>= λ item. behind (items_at n) item.it item.rest)
unfolding items_at
step n bytes = refl

at_fault : (n left : ℕ) (bytes : List ℕ) → item_at bytes ≡ Err left → items_at (suc n) bytes ≡ Err left
at_fault n left bytes e = step n bytes ∙ rw e

at_item : (n : ℕ) (bytes : List ℕ) (item : Read Dim) → item_at bytes ≡ Ok item → items_at (suc n) bytes ≡ behind (items_at n) item.it item.rest
at_item n bytes item e = step n bytes ∙ rw e

one_less : (n : ℕ) → 0 < n → n ≡ suc (n - 1)
one_less n h = omega arith

pub fault : (front : List Dim) (n left : ℕ) (bytes : List ℕ) (whole : Result (List Dim) ℕ) → 0 < n → Err left ≡ item_at bytes → with_front front (items_at n bytes) ≡ whole → whole ≡ Err left
fault front n left bytes whole some e is =
    sym is ∙ ap (with_front front) (ap (λ k. items_at k bytes) (one_less n some) ∙ at_fault (n - 1) left bytes (sym e))

pub done : (front : List Dim) (n : ℕ) (bytes : List ℕ) (item : Read Dim) (whole : Result (List Dim) ℕ) → 0 < n → Ok item ≡ item_at bytes → (length item.rest == 0) ≡ true
    → with_front front (items_at n bytes) ≡ whole → whole ≡ Ok (front ++ item.it ∷ [])
done front n bytes item whole some e over is =
    sym is ∙ ap (with_front front) (ap (λ k. items_at k bytes) (one_less n some) ∙ (at_item (n - 1) bytes item (sym e) ∙ ends over))
  where
    ends : (length item.rest == 0) ≡ true → behind (items_at (n - 1)) item.it item.rest ≡ Ok (item.it ∷ [])
    ends o = rw o

pub bad : (front : List Dim) (n : ℕ) (bytes : List ℕ) (item : Read Dim) (whole : Result (List Dim) ℕ) → 0 < n → Ok item ≡ item_at bytes → (length item.rest == 0) ≡ false → begins_with 44 item.rest ≡ false
    → with_front front (items_at n bytes) ≡ whole → whole ≡ Err (length item.rest)
bad front n bytes item whole some e more other is =
    sym is ∙ ap (with_front front) (ap (λ k. items_at k bytes) (one_less n some) ∙ (at_item (n - 1) bytes item (sym e) ∙ ends more other))
  where
    ends : (length item.rest == 0) ≡ false → begins_with 44 item.rest ≡ false → behind (items_at (n - 1)) item.it item.rest ≡ Err (length item.rest)
    ends m o = rw m (rw (rw m at o))

pub next : (front : List Dim) (n : ℕ) (bytes : List ℕ) (item : Read Dim) (whole : Result (List Dim) ℕ) → 0 < n → Ok item ≡ item_at bytes → (length item.rest == 0) ≡ false → begins_with 44 item.rest ≡ true
    → with_front front (items_at n bytes) ≡ whole → with_front (front ++ item.it ∷ []) (items_at (n - 1) (drop 1 item.rest)) ≡ whole
next front n bytes item whole some e more comma is =
    sym (moved (items_at (n - 1) (drop 1 item.rest))) ∙ (sym (ap (with_front front) (ap (λ k. items_at k bytes) (one_less n some) ∙ (at_item (n - 1) bytes item (sym e) ∙ goes more comma))) ∙ is)
  where
    goes : (length item.rest == 0) ≡ false → begins_with 44 item.rest ≡ true → behind (items_at (n - 1)) item.it item.rest ≡ (items_at (n - 1) (drop 1 item.rest) >>= λ ds. Ok (item.it ∷ ds))
    goes m o = rw m (rw (rw m at o))

    moved : (r : Result (List Dim) ℕ) → with_front front (r >>= λ ds. Ok (item.it ∷ ds)) ≡ with_front (front ++ item.it ∷ []) r
    moved (Ok ds) = ap Ok (sym (append_assoc front (item.it ∷ []) ds))
    moved (Err left) = refl

pub over : (front : List Dim) (n : ℕ) (bytes : List ℕ) (whole : Result (List Dim) ℕ) → n ≡ 0 → with_front front (items_at n bytes) ≡ whole → whole ≡ Err (suc (length bytes))
unfolding items_at
over front n bytes whole none is = sym is ∙ ap (λ k. with_front front (items_at k bytes)) none
