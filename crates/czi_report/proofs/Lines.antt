-- Lines one after another.
use Rattle.std.proofs.Common.{◌≡◌, ℕ, suc, ◌+◌, ◌<◌, ◌≤◌, List, [], ◌∷◌, ◌++◌, map, take, length, get_or, ap, sym, ◌∙◌, arith, append_assoc, append-nil}
use Rattle.std.proofs.lemmas.List.{take_more, take_all, map-append, length-map, length-take-le}
use Rattle.czi_report.specs.Text.{items_text, lines, number_line}

-- one line more at the end
lines_more : {X : Type 0} (line : ℕ → X → List ℕ) (n : ℕ) (xs : List X) (x : X) → lines line n (xs ++ x ∷ []) ≡ lines line n xs ++ line (n + length xs) x
lines_more line n [] x = append-nil (line n x) ∙ ap (λ (k : ℕ). line k x) (omega arith)
lines_more line n (y ∷ xs) x =
    let place : n + 1 + length xs ≡ n + suc (length xs) = omega arith in
    ap (λ (t : List ℕ). line n y ++ t) (lines_more line (n + 1) xs x ∙ ap (λ (k : ℕ). lines line (n + 1) xs ++ line k x) place) ∙ sym (append_assoc (line n y) (lines line (n + 1) xs) (line (n + suc (length xs)) x))

-- the line of the next item was appended
pub next_line : {X Y : Type 0} (line : ℕ → Y → List ℕ) (view : X → Y) (xs : List X) (i : ℕ) (x : X) (before head out next : List ℕ) → i < length xs → x ≡ get_or xs i x
    → out ≡ before ++ (head ++ lines line 0 (map view (take i xs))) → next ≡ out ++ line i (view x)
    → next ≡ before ++ (head ++ lines line 0 (map view (take (i + 1) xs)))
next_line line view xs i x before head out next inside item is more =
    let front : take (i + 1) xs ≡ take i xs ++ x ∷ [] = take_more xs i x inside ∙ ap (λ y. take i xs ++ y ∷ []) (sym item) in
    let as_many : length (map view (take i xs)) ≡ i = length-map (take i xs) view ∙ length-take-le i xs (omega (arith, inside)) in
    let number : 0 + length (map view (take i xs)) ≡ i = omega (arith, as_many) in
    let step : lines line 0 (map view (take (i + 1) xs)) ≡ lines line 0 (map view (take i xs)) ++ line i (view x)
    = ap (λ ys. lines line 0 (map view ys)) front ∙ (ap (lines line 0) (map-append view (take i xs) (x ∷ [])) ∙ (lines_more line 0 (map view (take i xs)) (view x)
    ∙ ap (λ k. lines line 0 (map view (take i xs)) ++ line k (view x)) number)) in
    more ∙ (ap (λ t. t ++ line i (view x)) is ∙ (append_assoc before (head ++ lines line 0 (map view (take i xs))) (line i (view x))
    ∙ ap (λ t. before ++ t) (append_assoc head (lines line 0 (map view (take i xs))) (line i (view x)) ∙ ap (λ t. head ++ t) (sym step))))

-- all of them were
pub last_line : {X Y : Type 0} (word : List ℕ) (line : ℕ → Y → List ℕ) (view : X → Y) (xs : List X) (i : ℕ) (before out : List ℕ) → length xs ≤ i
    → out ≡ before ++ (number_line word (length xs) ++ lines line 0 (map view (take i xs))) → out ≡ before ++ items_text word line (map view xs)
unfolding items_text
last_line word line view xs i before out over is =
    is ∙ (ap (λ ys. before ++ (number_line word (length xs) ++ lines line 0 (map view ys))) (take_all i xs over)
    ∙ ap (λ k. before ++ (number_line word k ++ lines line 0 (map view xs))) (sym (length-map xs view)))
