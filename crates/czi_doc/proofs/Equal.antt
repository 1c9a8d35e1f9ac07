-- Two keys are equal exactly where what they show is.
use Rattle.std.proofs.Common.{◌≡◌, List, [], ◌∷◌, map, ℤ, Bool, true, false, ◌&&◌, refl, ap, sym, ◌∙◌, ◌==◌}
use Rattle.std.specs.Ordering.{int_eq}
use Rattle.std.specs.Cmp.Lexicographic.{same_text}
use Rattle.std.proofs.lemmas.Bool.Decides.{Decides-int_eq}
use Rattle.std.proofs.lemmas.Cmp.{nat_list_eq_equiv, int_eq_equiv}
use lib.Pointwise.{pointwise}
use Rattle.czi_format.specs.Key.{Axis, Sizes, Key}
use Rattle.czi_doc.specs.declared.keys.Axis.{Axis as CodeAxis}
use Rattle.czi_doc.specs.declared.keys.Sizes.{Sizes as CodeSizes}
use Rattle.czi_doc.specs.declared.keys.Key.{Key as CodeKey}
use Rattle.czi_doc.specs.KeyView.{axis_of, sizes_of, key_of}

left : (a b : Bool) → (a && b) ≡ true → a ≡ true
left true b e = refl
left false b e = e

right : (a b : Bool) → (a && b) ≡ true → b ≡ true
right true b e = e
right false b e = cc

both : (a b : Bool) → a ≡ true → b ≡ true → (a && b) ≡ true
both a b p q = rw (p, q)

same_number : (x y : ℤ) → int_eq x y ≡ true → x ≡ y
same_number x y e = (Decides-int_eq x y).0 e

axis_test : CodeAxis → CodeAxis → Bool
axis_test a b = pointwise ◌==◌ a.name b.name && int_eq a.start b.start

sizes_test : CodeSizes → CodeSizes → Bool
sizes_test a b = int_eq a.size b.size && int_eq a.stored b.stored

same_axis : (a b : CodeAxis) → axis_test a b ≡ true → axis_of a ≡ axis_of b
unfolding axis_test
same_axis a b e =
    let names : a.name ≡ b.name = same_text a.name b.name (sym (left _ _ e)) in
    let starts : a.start ≡ b.start = same_number _ _ (right _ _ e) in
    λ i. record { name = names i; start = starts i }

axis_same : (a b : CodeAxis) → axis_of a ≡ axis_of b → axis_test a b ≡ true
unfolding axis_test
axis_same a b e =
    let names : pointwise ◌==◌ a.name b.name ≡ true = ap (λ (z : Axis). pointwise ◌==◌ a.name z.name) (sym e) ∙ nat_list_eq_equiv.refl a.name in
    let starts : int_eq a.start b.start ≡ true = ap (λ (z : Axis). int_eq a.start z.start) (sym e) ∙ int_eq_equiv.refl a.start in
    both _ _ names starts

same_axes : (xs ys : List CodeAxis) → pointwise axis_test xs ys ≡ true → map axis_of xs ≡ map axis_of ys
same_axes [] [] e = refl
same_axes [] (y ∷ ys) e = cc
same_axes (x ∷ xs) [] e = cc
same_axes (x ∷ xs) (y ∷ ys) e =
    let first : axis_of x ≡ axis_of y = same_axis x y (left _ _ e) in
    let rest : map axis_of xs ≡ map axis_of ys = same_axes xs ys (right (axis_test x y) _ e) in
    λ i. first i ∷ rest i

axes_same : (xs ys : List CodeAxis) → map axis_of xs ≡ map axis_of ys → pointwise axis_test xs ys ≡ true
axes_same [] [] e = refl
axes_same [] (y ∷ ys) e = cc
axes_same (x ∷ xs) [] e = cc
axes_same (x ∷ xs) (y ∷ ys) e = both _ _ (axis_same x y (cc)) (axes_same xs ys (cc))

same_sizes : (a b : CodeSizes) → sizes_test a b ≡ true → sizes_of a ≡ sizes_of b
unfolding sizes_test
same_sizes a b e =
    let sizes : a.size ≡ b.size = same_number _ _ (left _ _ e) in
    let stored : a.stored ≡ b.stored = same_number _ _ (right _ _ e) in
    λ i. record { size = sizes i; stored = stored i }

sizes_same : (a b : CodeSizes) → sizes_of a ≡ sizes_of b → sizes_test a b ≡ true
unfolding sizes_test
sizes_same a b e =
    let size : int_eq a.size b.size ≡ true = ap (λ (z : Sizes). int_eq a.size z.size) (sym e) ∙ int_eq_equiv.refl a.size in
    let stored : int_eq a.stored b.stored ≡ true = ap (λ (z : Sizes). int_eq a.stored z.stored) (sym e) ∙ int_eq_equiv.refl a.stored in
    both _ _ size stored

-- the test of the code
key_test : CodeKey → CodeKey → Bool
key_test a b = pointwise axis_test a.axes.items b.axes.items && (sizes_test a.x b.x && sizes_test a.y b.y)

same_key : (a b : CodeKey) → key_test a b ≡ true → key_of a ≡ key_of b
unfolding key_test
same_key a b e =
    let axes : map axis_of a.axes.items ≡ map axis_of b.axes.items = same_axes _ _ (left _ _ e) in
    let sizes = right _ _ e in
    let x : sizes_of a.x ≡ sizes_of b.x = same_sizes _ _ (left _ _ sizes) in
    let y : sizes_of a.y ≡ sizes_of b.y = same_sizes _ _ (right _ _ sizes) in
    λ i. record { axes = axes i; x = x i; y = y i }

key_same : (a b : CodeKey) → key_of a ≡ key_of b → key_test a b ≡ true
unfolding key_test
key_same a b e = both _ _ (axes_same _ _ (ap (λ (k : Key). k.axes) e)) (both _ _ (sizes_same _ _ (ap (λ (k : Key). k.x) e)) (sizes_same _ _ (ap (λ (k : Key). k.y) e)))

-- the test that `==` makes of two keys
pub equal : (a b : CodeKey) → pointwise (λ (p q : CodeAxis). pointwise ◌==◌ p.name q.name && int_eq p.start q.start) a.axes.items b.axes.items
    && ((int_eq a.x.size b.x.size && int_eq a.x.stored b.x.stored) && (int_eq a.y.size b.y.size && int_eq a.y.stored b.y.stored)) ≡ true → key_of a ≡ key_of b
unfolding key_test axis_test sizes_test
equal a b e = same_key a b e

pub equal_back : (a b : CodeKey) → key_of a ≡ key_of b → pointwise (λ (p q : CodeAxis). pointwise ◌==◌ p.name q.name && int_eq p.start q.start) a.axes.items b.axes.items
    && ((int_eq a.x.size b.x.size && int_eq a.x.stored b.x.stored) && (int_eq a.y.size b.y.size && int_eq a.y.stored b.y.stored)) ≡ true
unfolding key_test axis_test sizes_test
equal_back a b e = key_same a b e
