-- Keys are equal exactly where the test of the machine says so: sorted names and starts are the same where each stands as often in both lists.
use Rattle.std.proofs.Common.{◌≡◌, ℕ, ◌<◌, List, [], ◌∷◌, map, length, get_or, Bool, true, false, ◌&&◌, Some, None, position, bytes_eq, refl, ap, sym, ◌∙◌, arith, ◌+◌, ◌≤◌, cond, count_by, subst, inl, inr, if◌then◌else◌}
use Rattle.std.specs.Ordering.{int_eq, nat_cmp, int_cmp, ordering_then, ordering_reverse, is_le, is_eq}
use Rattle.std.specs.Cmp.Lexicographic.{same_text, slice_cmp}
use Rattle.std.proofs.lemmas.Bool.{and_parts, and_from, cases_Bool, cases_lt}
use Rattle.std.proofs.lemmas.Bool.Decides.{Decides-int_eq}
use Rattle.std.proofs.lemmas.Cmp.{nat_list_eq_equiv, int_eq_equiv, nat_list_cmp_total, int_cmp_total, on_total, then_total, tied_itself}
use Rattle.std.proofs.Math.ListN.{get_or-map}
use Rattle.std.proofs.lemmas.List.{length-map, get_or-map as get_at}
use Rattle.std.specs.List.{find, AllByRecursion}
use Rattle.std.specs.Cmp.{IsTotalOrder}
use Rattle.std.specs.declared.cmp.Ordering.{Ordering}
use Rattle.std.specs.declared.cmp.Ordering.TheVariants.{Less, Equal, Greater}
use Rattle.std.proofs.lemmas.Map.Lookups.{exact_signed}
use Rattle.std.proofs.lemmas.List.Sums.{sum_by-cons}
use Rattle.std.proofs.lemmas.Map.Text.{is_eq-slice_cmp}
use Rattle.czi_spans.proofs.Apart.{position_hit, position_miss}
use Rattle.czi_doc.specs.View.{dim_of}
use Rattle.czi_doc.specs.declared.dimensions.Dim.{Dim as CodeDim}
use Rattle.czi_format.specs.Entry.{Dim}
use Rattle.czi_format.specs.Span.{sorted, inserted}
use Rattle.czi_format.specs.Key.{Axis, Sizes, axis, axis_le, key, sizes, axis_cmp}
use Rattle.czi_machine.specs.Edit.{same_sizes, same_axes, same_key}
use Rattle.czi_spans.proofs.Sorting.{IsOrder, ascending_sorted, same_elements}
use Rattle.czi_machine.proofs.Tiled.{All-weaken}
use Rattle.czi_plan.specs.Search.{has_axis}

pub axes_same : (xs ys : List Axis) → same_axes xs ys ≡ true → xs ≡ ys
axes_same [] [] e = refl
axes_same [] (y ∷ ys) e = cc
axes_same (x ∷ xs) [] e = cc
axes_same (x ∷ xs) (y ∷ ys) e =
    let one = and_parts (bytes_eq x.name y.name && int_eq x.start y.start) (same_axes xs ys) e in
    let both = and_parts (bytes_eq x.name y.name) (int_eq x.start y.start) one.0 in
    let name : x.name ≡ y.name = same_text x.name y.name (sym both.0) in
    let start : x.start ≡ y.start = (Decides-int_eq x.start y.start).0 both.1 in
    let rest : xs ≡ ys = axes_same xs ys one.1 in
    λ i. record { name = name i; start = start i } ∷ rest i

axes_self : (xs : List Axis) → same_axes xs xs ≡ true
axes_self [] = refl
axes_self (x ∷ xs) = and_from _ _ (and_from _ _ (nat_list_eq_equiv.refl x.name) (int_eq_equiv.refl x.start)) (axes_self xs)

-- two tests of one fact are the same
pub tests_same : (b c : Bool) → (b ≡ true → c ≡ true) → (c ≡ true → b ≡ true) → b ≡ c
tests_same true c f g = sym (f refl)
tests_same false true f g = g refl
tests_same false false f g = refl

-- the sizes of the first dimension with a name
abbrev pub named : List ℕ → List CodeDim → Sizes
named name ds = sizes (find (λ (d : Dim). bytes_eq d.name name) (map dim_of ds))

abbrev pub in_order : List CodeDim → List Axis
in_order ds = sorted axis_le (map axis (map dim_of ds))

pub keys_alike : (ds es : List CodeDim) (x y a : Bool) → x ≡ same_sizes (named (88 ∷ 0 ∷ 0 ∷ 0 ∷ []) ds) (named (88 ∷ 0 ∷ 0 ∷ 0 ∷ []) es) → y ≡ same_sizes (named (89 ∷ 0 ∷ 0 ∷ 0 ∷ []) ds) (named (89 ∷ 0 ∷ 0 ∷ 0 ∷ []) es)
    → (a ≡ true → in_order ds ≡ in_order es) → (in_order ds ≡ in_order es → a ≡ true) → x ≡ true → y ≡ true → a ≡ same_key (key (map dim_of ds)) (key (map dim_of es))
unfolding key
keys_alike ds es x y a first second there back x_is y_is =
    tests_same a (same_key (key (map dim_of ds)) (key (map dim_of es)))
    (λ t. and_from _ _ (and_from _ _ (ap (same_axes (in_order ds)) (sym (there t)) ∙ axes_self (in_order ds)) (sym first ∙ x_is)) (sym second ∙ y_is))
    (λ t. back (axes_same (in_order ds) (in_order es) (and_parts _ _ (and_parts _ _ t).0).0))

pub first_differs : (ds es : List CodeDim) (x : Bool) → x ≡ same_sizes (named (88 ∷ 0 ∷ 0 ∷ 0 ∷ []) ds) (named (88 ∷ 0 ∷ 0 ∷ 0 ∷ []) es) → x ≡ false → false ≡ same_key (key (map dim_of ds)) (key (map dim_of es))
unfolding key
first_differs ds es x first x_is = tests_same false (same_key (key (map dim_of ds)) (key (map dim_of es))) (λ t. absurd (cc (t))) (λ t. sym x_is ∙ (first ∙ (and_parts _ _ (and_parts _ _ t).0).1))

pub second_differs : (ds es : List CodeDim) (y : Bool) → y ≡ same_sizes (named (89 ∷ 0 ∷ 0 ∷ 0 ∷ []) ds) (named (89 ∷ 0 ∷ 0 ∷ 0 ∷ []) es) → y ≡ false → false ≡ same_key (key (map dim_of ds)) (key (map dim_of es))
unfolding key
second_differs ds es y second y_is = tests_same false (same_key (key (map dim_of ds)) (key (map dim_of es))) (λ t. absurd (cc (t))) (λ t. sym y_is ∙ (second ∙ (and_parts _ _ t).1))

-- the first that passes, of what the elements stand for
pub first_hit : {X Y : Type 0} (f : X → Y) (p : Y → Bool) (xs : List X) (i : ℕ) (d : X) → i < length xs → ((k : ℕ) → k < i → p (f (get_or xs k d)) ≡ false) → p (f (get_or xs i d)) ≡ true → Some i ≡ position p (map f xs)
first_hit f p xs i d h before here = position_hit p (map f xs) i (f d) (omega (arith, length-map xs f)) (λ k l. ap p (get_or-map f xs k d) ∙ before k l) (ap p (get_or-map f xs i d) ∙ here)

pub first_miss : {X Y : Type 0} (f : X → Y) (p : Y → Bool) (xs : List X) → ((k : ℕ) (d : X) → k < length xs → p (f (get_or xs k d)) ≡ false) → None ≡ position p (map f xs)
first_miss f p [] none = position_miss p [] (λ k d h. absurd (omega arith))
first_miss f p (x ∷ xs) none = position_miss p (map f (x ∷ xs)) (λ k d h. let low : k < length (x ∷ xs) = omega (arith, length-map xs f) in ap p (get_at f (x ∷ xs) k x d low) ∙ none k x low)

axis_order : IsTotalOrder axis_cmp
axis_order = then_total (on_total (λ (a : Axis). a.name) nat_list_cmp_total) (on_total (λ (a : Axis). a.start) int_cmp_total)

then_equal : (a b : Ordering) → ordering_then a b ≡ Equal → (a ≡ Equal) × (b ≡ Equal)
then_equal Less b e = cc
then_equal Equal b e = (refl, e)
then_equal Greater b e = cc

exact_axes : (a b : Axis) → axis_cmp a b ≡ Equal → a ≡ b
exact_axes a b e =
    let both = then_equal (slice_cmp nat_cmp a.name b.name) (int_cmp a.start b.start) e in
    let name : a.name ≡ b.name = same_text a.name b.name (sym (sym (is_eq-slice_cmp a.name b.name) ∙ ap is_eq both.0)) in
    let start : a.start ≡ b.start = exact_signed a.start b.start both.1 in
    λ i. record { name = name i; start = start i }

turned : (a b : Ordering) → a ≡ ordering_reverse b → is_le a ≡ false → is_le b ≡ true
turned a Less e f = refl
turned a Equal e f = refl
turned a Greater e f = absurd (let clash : is_le Less ≡ false = ap is_le (sym e) ∙ f in cc (clash))

tied : (a b : Ordering) → a ≡ ordering_reverse b → is_le a ≡ true → is_le b ≡ true → a ≡ Equal
tied a Less e f g = absurd (let clash : is_le Greater ≡ true = ap is_le (sym e) ∙ f in cc (clash))
tied a Equal e f g = e
tied a Greater e f g = absurd (let clash : is_le Greater ≡ true = g in cc (clash))

chain : (a b c : Ordering) → is_le a ≡ true → is_le b ≡ true → (a ≡ Less → b ≡ Less → c ≡ Less) → (a ≡ Equal → c ≡ b) → (b ≡ Equal → a ≡ Less → c ≡ Less) → is_le c ≡ true
chain Less Less c f g both left right = ap is_le (both refl refl)
chain Less Equal c f g both left right = ap is_le (right refl refl)
chain Less Greater c f g both left right = cc
chain Equal b c f g both left right = ap is_le (left refl) ∙ g
chain Greater b c f g both left right = cc

pub axes_order : IsOrder axis_le
axes_order = record {
  total = λ a b e. turned (axis_cmp a b) (axis_cmp b a) (axis_order.antisymm a b) e;
  antisymmetric = λ a b f g. exact_axes a b (tied (axis_cmp a b) (axis_cmp b a) (axis_order.antisymm a b) f g);
  transitive = λ a b c f g. chain (axis_cmp a b) (axis_cmp b c) (axis_cmp a c) f g (axis_order.trans a b c) (λ e. axis_order.congr a b c e)
      (λ e l. ap (axis_cmp a) (sym (exact_axes b c e)) ∙ l);
}

-- how often an axis is in a list
abbrev pub often : Axis → List Axis → ℕ
often z [] = 0
often z (y ∷ ys) = cond (axis_le z y && axis_le y z) 1 0 + often z ys

itself : (a : Axis) → axis_le a a ≡ true
itself a = ap is_le (tied_itself axis_order a)

-- the test of the code
axis_test : (d e : CodeDim) → (axis_le (axis (dim_of d)) (axis (dim_of e)) && axis_le (axis (dim_of e)) (axis (dim_of d))) ≡ has_axis d e
axis_test d e = tests_same (axis_le (axis (dim_of d)) (axis (dim_of e)) && axis_le (axis (dim_of e)) (axis (dim_of d))) (has_axis d e)
    (λ f. let both = and_parts (axis_le (axis (dim_of d)) (axis (dim_of e))) (axis_le (axis (dim_of e)) (axis (dim_of d))) f in
    let one : axis (dim_of d) ≡ axis (dim_of e) = axes_order.antisymmetric (axis (dim_of d)) (axis (dim_of e)) both.0 both.1 in
    and_from _ _ (ap (λ (z : Axis). bytes_eq d.name z.name) (sym one) ∙ nat_list_eq_equiv.refl d.name) (ap (λ (z : Axis). int_eq d.start z.start) (sym one) ∙ int_eq_equiv.refl d.start))
    (λ t. let both = and_parts (bytes_eq d.name e.name) (int_eq d.start e.start) t in
    let one : axis (dim_of d) ≡ axis (dim_of e) = λ i. record { name = same_text d.name e.name (sym both.0) i; start = (Decides-int_eq d.start e.start).0 both.1 i } in
    and_from _ _ (ap (axis_le (axis (dim_of d))) (sym one) ∙ itself (axis (dim_of d))) (ap (λ z. axis_le z (axis (dim_of d))) (sym one) ∙ itself (axis (dim_of d))))

pub often_is : (d : CodeDim) (ds : List CodeDim) → often (axis (dim_of d)) (map axis (map dim_of ds)) ≡ count_by (has_axis d) ds
often_is d [] = refl
often_is d (e ∷ ds) =
    ap (λ b. cond b 1 0 + often (axis (dim_of d)) (map axis (map dim_of ds))) (axis_test d e)
    ∙ (ap (λ n. cond (has_axis d e) 1 0 + n) (often_is d ds) ∙ sym (sum_by-cons (λ x. cond (has_axis d x) 1 0) e ds))

often_inserted : (z x : Axis) (ys : List Axis) → often z (inserted axis_le x ys) ≡ cond (axis_le z x && axis_le x z) 1 0 + often z ys
often_inserted z x [] = refl
often_inserted z x (y ∷ ys) =
    let one : ℕ = cond (axis_le z y && axis_le y z) 1 0 in
    let more : ℕ = cond (axis_le z x && axis_le x z) 1 0 in
    let rest : one + often z (inserted axis_le x ys) ≡ more + (one + often z ys) = omega (arith, often_inserted z x ys) in
    elim (axis_le x y) as (λ b. often z (if b then x ∷ y ∷ ys else y ∷ inserted axis_le x ys) ≡ more + (one + often z ys)) [ true ↦ refl | false ↦ rest ]

often_sorted : (z : Axis) (xs : List Axis) → often z (sorted axis_le xs) ≡ often z xs
often_sorted z [] = refl
often_sorted z (x ∷ xs) = often_inserted z x (sorted axis_le xs) ∙ ap (λ n. cond (axis_le z x && axis_le x z) 1 0 + n) (often_sorted z xs)

-- an axis that is in the list has the count of one of the list
found_one : (P : Axis → Type 0) (z : Axis) (ds : List CodeDim) → AllByRecursion (λ d. P (axis (dim_of d))) ds → 1 ≤ often z (map axis (map dim_of ds)) → P z
found_one P z [] all some = absurd (omega arith)
found_one P z (d ∷ ds) all some = elim (cases_Bool (axis_le z (axis (dim_of d)) && axis_le (axis (dim_of d)) z)) [
  | inl e ↦ let both = and_parts _ _ e in subst P (axes_order.antisymmetric (axis (dim_of d)) z both.1 both.0) all.0
  | inr e ↦ found_one P z ds all.1 (omega (arith, rw e at some))
]

pub axes_alike : (ds es : List CodeDim) → AllByRecursion (λ d. count_by (has_axis d) ds ≡ count_by (has_axis d) es) ds → AllByRecursion (λ d. count_by (has_axis d) ds ≡ count_by (has_axis d) es) es
    → sorted axis_le (map axis (map dim_of ds)) ≡ sorted axis_le (map axis (map dim_of es))
axes_alike ds es own other =
    same_elements axes_order (sorted axis_le (map axis (map dim_of ds))) (sorted axis_le (map axis (map dim_of es))) (ascending_sorted axes_order (map axis (map dim_of ds))) (ascending_sorted axes_order (map axis (map dim_of es)))
    (λ z. often_sorted z (map axis (map dim_of ds)) ∙ (alike z ∙ sym (often_sorted z (map axis (map dim_of es)))))
  where
    here : (d : CodeDim) → count_by (has_axis d) ds ≡ count_by (has_axis d) es → often (axis (dim_of d)) (map axis (map dim_of ds)) ≡ often (axis (dim_of d)) (map axis (map dim_of es))
    here d e = often_is d ds ∙ (e ∙ sym (often_is d es))

    alike : (z : Axis) → often z (map axis (map dim_of ds)) ≡ often z (map axis (map dim_of es))
    alike z = elim (cases_lt 0 (often z (map axis (map dim_of ds)))) [
      | inl h ↦ found_one (λ w. often w (map axis (map dim_of ds)) ≡ often w (map axis (map dim_of es))) z ds (All-weaken _ (λ d. often (axis (dim_of d)) (map axis (map dim_of ds)) ≡ often (axis (dim_of d)) (map axis (map dim_of es))) here ds own) (omega (arith, h))
      | inr h ↦ elim (cases_lt 0 (often z (map axis (map dim_of es)))) [
        | inl k ↦ found_one (λ w. often w (map axis (map dim_of ds)) ≡ often w (map axis (map dim_of es))) z es (All-weaken _ (λ d. often (axis (dim_of d)) (map axis (map dim_of ds)) ≡ often (axis (dim_of d)) (map axis (map dim_of es))) here es other) (omega (arith, k))
        | inr k ↦ omega (arith, h, k)
      ]
    ]

pub axes_back : (ds es : List CodeDim) → sorted axis_le (map axis (map dim_of ds)) ≡ sorted axis_le (map axis (map dim_of es)) → (d : CodeDim) → count_by (has_axis d) ds ≡ count_by (has_axis d) es
axes_back ds es e d =
    sym (often_is d ds) ∙ (sym (often_sorted (axis (dim_of d)) (map axis (map dim_of ds))) ∙ (ap (often (axis (dim_of d))) e ∙ (often_sorted (axis (dim_of d)) (map axis (map dim_of es)) ∙ often_is d es)))
