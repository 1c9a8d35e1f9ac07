-- The line of a region: its values say one thing, or none.
use Rattle.std.proofs.Common.{◌≡◌, ℕ, zero, suc, ◌+◌, ◌-◌, ◌<◌, ◌≤◌, ℤ, pos, List, [], ◌∷◌, ◌++◌, drop, length, Bool, true, false, ◌==◌, ◌⊎◌, Option, Some, None, Result, Ok, Err, refl, ap, sym, ◌∙◌, subst, arith, inl, inr, append-nil, length-append}
use Rattle.std.proofs.lemmas.List.{length-drop}
use Rattle.std.specs.Prelude.{FitsSigned, IfOk, IfSome, MatchOption, bytes_eq, find, get_or, option_map, ◌^◌}
use Rattle.std.proofs.lemmas.Slice.Eq.{bytes_eq-Decides}
use Rattle.czi_doc.specs.QueryView.{plane_of}
use Rattle.czi_doc.specs.declared.plane.Plane.{Plane}
use Rattle.std.specs.Int.{w32}
use Rattle.std.specs.Ordering.{int_eq}
use Rattle.std.proofs.lemmas.Bool.{cases_Bool, eqb-true, eqb-false}
use Rattle.czi_format.specs.Key.{Axis}
use Rattle.czi_format.specs.Painting.{PixelType, Query, gray8, is_plane, pixel_types}
use Rattle.czi_doc.specs.DimText.{IsNumber}
use Rattle.czi_doc.specs.PlaneText.{ArePlaneItems, IsPlaneText, StartsFit, plane_item_at}
use Rattle.std.specs.Str.Parse.{digits_value}
use Rattle.czi_doc.specs.Reading.{Read, begins_with, name_at, number_at, positive_at}
use Rattle.czi_doc.proofs.Numbers.{natural_or, number_or, same_natural, same_number}
use Rattle.czi_doc.proofs.PlaneItems.{Ended, Midway, PlaneItemAt, begun, first, found, no_comma, no_item, no_rest, on_comma, on_end}
use Rattle.czi_doc.proofs.ReadAgain.{number_again}
use Rattle.czi_script.specs.Script.{Alone, Head, IsCount, IsPixel, IsPlane, IsScene, IsSigned, Paints, RegionValues, left_out}
use Rattle.czi_script.proofs.Tests.{less_or}

abbrev pub nth : ℕ → List (List ℕ) → List ℕ
nth n values = get_or values n []

-- ---- numbers

abbrev pub the_number : Result (Read ℤ) ℕ → ℤ
the_number (Ok r) = r.it
the_number (Err left) = pos 0

number_read : (text : List ℕ) (n : ℤ) → IsSigned text n → number_at text ≡ Ok (record { it = n; rest = [] })
number_read text n is = ap number_at (sym (append-nil text)) ∙ number_again text [] n is.0 is.1 refl

pub number_is : (text : List ℕ) (n : ℤ) → IsSigned text n → the_number (number_at text) ≡ n
number_is text n is = ap the_number (number_read text n is)

-- a thing is so, or it isn't
abbrev Or : Type 0 → Type 0
Or A = A ⊎ (A → ⊥)

record Both (A B : Type 0) : Type 0 where
  one : A
  two : B

both : {A B : Type 0} → A → B → Both A B
both a b = record { one = a; two = b }

both_or : {A B : Type 0} → Or A → Or B → Or (Both A B)
both_or (inl a) (inl b) = inl (record { one = a; two = b })
both_or (inl a) (inr none) = inr (λ x. none x.two)
both_or (inr none) b = inr (λ x. none x.one)

abbrev Signed : List ℕ → Type 0
Signed text = (n : ℤ) × IsSigned text n

signed_or : (text : List ℕ) → Or (Signed text)
signed_or text = elim (number_or text) [
  | inl x ↦ inl (x.0, (x.1, x.2))
  | inr none ↦ inr (λ x. none x.0 x.1.0 x.1.1)
]

abbrev Count : ℕ → List ℕ → Type 0
Count most text = (n : ℕ) × IsCount most text n

count_or : (most : ℕ) (text : List ℕ) → Or (Count most text)
count_or most text = elim (natural_or text) [
  | inr none ↦ inr (λ x. none x.0 x.1.0)
  | inl n ↦ elim (less_or 0 n.0) [
    | inr little ↦ inr (λ x. let same : x.0 ≡ n.0 = same_natural text x.0 n.0 x.1.0 n.1 in omega (arith, same, little, x.1.1))
    | inl some ↦ elim (less_or most n.0) [
      | inl past ↦ inr (λ x. let same : x.0 ≡ n.0 = same_natural text x.0 n.0 x.1.0 n.1 in omega (arith, same, past, x.1.2))
      | inr few ↦ inl (n.0, (n.1, omega (arith, some), few))
    ]
  ]
]

-- ---- pixel types

abbrev type_with : ℤ → Option PixelType
type_with code = find (λ t. int_eq t.code code) pixel_types

or_gray : Option PixelType → PixelType
or_gray (Some t) = t
or_gray None = gray8

abbrev the_pixel : List ℕ → PixelType
the_pixel text = or_gray (type_with (the_number (number_at text)))

pixel_is : (text : List ℕ) (t : PixelType) → IsPixel text t → the_pixel text ≡ t
unfolding or_gray
pixel_is text t is = ap (λ (n : ℤ). or_gray (type_with n)) (number_is text is.0 is.1) ∙ ap or_gray is.2

abbrev Pixel : List ℕ → Type 0
Pixel text = (t : PixelType) × IsPixel text t

same_type : (a b : ℤ) (found : Option PixelType) (t : PixelType) → type_with a ≡ found → a ≡ b → type_with b ≡ Some t → found ≡ Some t
same_type a b found t at same is = sym at ∙ ap type_with same ∙ is

pixel_or : (text : List ℕ) → Or (Pixel text)
pixel_or text = elim (number_or text) [
  | inr none ↦ inr (λ x. none x.1.0 x.1.1.0 x.1.1.1)
  | inl n ↦ typed n.0 n.1 n.2 (type_with n.0) refl
]
  where
    typed : (n : ℤ) → IsNumber text n → FitsSigned w32 n → (o : Option PixelType) → type_with n ≡ o → Or (Pixel text)
    typed n is fits (Some t) e = inl (t, (n, (is, fits), e))
    typed n is fits None e = inr (λ x. let no : None ≡ Some x.0 = same_type n x.1.0 None x.0 e (same_number text n x.1.0 is fits x.1.1.0 x.1.1.1) x.1.2 in cc)

-- ---- scenes

scene_in : Result (Read ℤ) ℕ → Option ℤ
scene_in (Ok r) = Some r.it
scene_in (Err left) = None

abbrev the_scene : List ℕ → Option ℤ
the_scene text = scene_in (number_at text)

scene_is : (text : List ℕ) (s : Option ℤ) → IsScene text s → the_scene text ≡ s
unfolding scene_in positive_at
scene_is text None is = ap the_scene is
scene_is text (Some n) is = ap scene_in (number_read text n is)

abbrev Scene : List ℕ → Type 0
Scene text = (s : Option ℤ) × IsScene text s

is_left_out : (text : List ℕ) → Or (text ≡ left_out)
is_left_out [] = inr (λ e. cc)
is_left_out (a ∷ b ∷ text) = inr (λ e. cc)
is_left_out (a ∷ []) = elim (cases_Bool (a == 32)) [
  | inl t ↦ inl (ap (λ (x : ℕ). x ∷ []) (eqb-true a 32 t))
  | inr f ↦ inr (λ e. eqb-false a 32 f (ap (λ l. get_or l 0 0) e))
]

scene_or : (text : List ℕ) → Or (Scene text)
scene_or text = elim (is_left_out text) [
  | inl out ↦ inl (None, out)
  | inr some ↦ elim (signed_or text) [
    | inl x ↦ inl (Some x.0, x.1)
    | inr none ↦ inr (λ x. no_scene some none x.0 x.1)
  ]
]
  where
    no_scene : (text ≡ left_out → ⊥) → (Signed text → ⊥) → (s : Option ℤ) → IsScene text s → ⊥
    no_scene some none None is = some is
    no_scene some none (Some n) is = none (n, is)

-- ---- planes

abbrev Items : List ℕ → Type 0
Items text = (axes : List Axis) × Ended text axes

NoItems : List ℕ → Type 0
NoItems text = (axes : List Axis) → ArePlaneItems text axes → StartsFit axes → ⊥

no_bytes : (l : List ℕ) → length l ≡ 0 → l ≡ []
no_bytes [] e = refl
no_bytes (x ∷ l) e = absurd (omega (arith, e))

shorter : (rest : List ℕ) (r : Read Axis) → PlaneItemAt rest r → (length r.rest == 0) ≡ false → length (drop 1 r.rest) < length rest
shorter rest r i some = omega (arith, ap (λ (l : List ℕ). length l) i.whole, length-append i.text r.rest, length-drop 1 r.rest, λ (none : length r.rest ≡ 0). eqb-false _ _ some none)

-- one item, and then others
items_step : (text rest : List ℕ) (front : List Axis) → Midway text rest front → ((behind : List ℕ) (more : List Axis) → Midway text behind more → length behind < length rest → Items text ⊎ NoItems text)
    → (r : Result (Read Axis) ℕ) → plane_item_at rest ≡ r → Items text ⊎ NoItems text
unfolding NoItems
items_step text rest front m others (Err left) e = inr (λ axes is fits. no_item text rest front left axes m e is fits)
items_step text rest front m others (Ok r) e = elim (cases_Bool (length r.rest == 0)) [
  | inl none ↦ inl (front ++ r.it ∷ [], on_end text rest r.rest front r.it m e (no_bytes r.rest (eqb-true _ _ none)))
  | inr some ↦ elim (cases_Bool (begins_with 44 r.rest)) [
    | inl comma ↦ others (drop 1 r.rest) (front ++ r.it ∷ []) (on_comma text rest r.rest front r.it m e comma) (shorter rest r (found rest r e) some)
    | inr other ↦ inr (λ axes is fits. no_comma text rest r.rest front r.it axes m e some other is fits)
  ]
]

items_from : (fuel : ℕ) (text rest : List ℕ) (front : List Axis) → Midway text rest front → length rest ≤ fuel → Items text ⊎ NoItems text
unfolding NoItems
items_from zero text rest front m le = inr (λ axes is fits. no_rest text rest front axes m (omega (arith, le)) is fits)
items_from (suc fuel) text rest front m le = items_step text rest front m (λ behind more n lt. items_from fuel text behind more n (omega (arith, le, lt))) (plane_item_at rest) refl

items_or : (text : List ℕ) → Items text ⊎ NoItems text
items_or text = items_from (length text) text text [] (begun text) (omega arith)

the_items : (text : List ℕ) → Items text ⊎ NoItems text → List Axis
the_items text (inl x) = x.0
the_items text (inr none) = []

abbrev the_plane : List ℕ → List Axis
the_plane text = the_items text (items_or text)

-- a space is no item
no_space : (axes : List Axis) → ArePlaneItems left_out axes → StartsFit axes → ⊥
unfolding plane_item_at name_at
no_space axes is fits = elim (first left_out axes is fits) [
  | inl one ↦ unread _ one.reads
  | inr more ↦ unread _ more.reads
]
  where
    unread : (r : Read Axis) → plane_item_at left_out ≡ Ok r → ⊥
    unread r e = cc

space_items : (o : Items left_out ⊎ NoItems left_out) → the_items left_out o ≡ []
unfolding the_items
space_items (inl x) = absurd (no_space x.0 x.1.items x.1.fits)
space_items (inr none) = refl

items_are : (text : List ℕ) (axes : List Axis) (o : Items text ⊎ NoItems text) → IsPlaneText text axes → the_items text o ≡ axes
unfolding the_items NoItems
items_are text axes (inl x) is = sym (x.1.only axes is.items is.fits)
items_are text axes (inr none) is = absurd (none axes is.items is.fits)

plane_is : (text : List ℕ) (axes : List Axis) → IsPlane text axes → the_plane text ≡ axes
plane_is text [] is = ap the_plane is ∙ space_items (items_or left_out)
plane_is text (a ∷ axes) is = items_are text (a ∷ axes) (items_or text) is

abbrev PlaneOf : List ℕ → Type 0
PlaneOf text = (axes : List Axis) × IsPlane text axes

pub plane_given : (text : List ℕ) (axes : List Axis) → IsPlaneText text axes → IsPlane text axes
plane_given text [] is = absurd is.items
plane_given text (a ∷ axes) is = is

pub no_plane : (text : List ℕ) → (text ≡ left_out → ⊥) → ((axes : List Axis) → IsPlaneText text axes → ⊥) → (axes : List Axis) → IsPlane text axes → ⊥
no_plane text some none [] is = some is
no_plane text some none (a ∷ axes) is = none (a ∷ axes) is

plane_or : (text : List ℕ) → Or (PlaneOf text)
unfolding NoItems
plane_or text = elim (is_left_out text) [
  | inl out ↦ inl ([], out)
  | inr some ↦ with_items some (items_or text)
]
  where
    with_items : (text ≡ left_out → ⊥) → Items text ⊎ NoItems text → Or (PlaneOf text)
    with_items some (inr none) = inr (λ x. no_plane text some (λ axes is. none axes is.items is.fits) x.0 x.1)
    with_items some (inl x) = elim (cases_Bool (is_plane x.0)) [
      | inl t ↦ inl (x.0, plane_given text x.0 (record { items = x.1.items; plane = t; fits = x.1.fits }))
      | inr f ↦ inr (λ y. no_plane text some (λ axes is. let h : false ≡ true = sym f ∙ (ap is_plane (sym (x.1.only axes is.items is.fits)) ∙ is.plane) in cc) y.0 y.1)
    ]

-- ---- the line

abbrev all_eight : List (List ℕ) → List (List ℕ)
all_eight v = nth 0 v ∷ nth 1 v ∷ nth 2 v ∷ nth 3 v ∷ nth 4 v ∷ nth 5 v ∷ nth 6 v ∷ nth 7 v ∷ []

eight : (values : List (List ℕ)) → length values ≡ 8 → values ≡ all_eight values
eight [] e = absurd (omega (arith, e))
eight (a ∷ []) e = absurd (omega (arith, e))
eight (a ∷ b ∷ []) e = absurd (omega (arith, e))
eight (a ∷ b ∷ c ∷ []) e = absurd (omega (arith, e))
eight (a ∷ b ∷ c ∷ d ∷ []) e = absurd (omega (arith, e))
eight (a ∷ b ∷ c ∷ d ∷ f ∷ []) e = absurd (omega (arith, e))
eight (a ∷ b ∷ c ∷ d ∷ f ∷ g ∷ []) e = absurd (omega (arith, e))
eight (a ∷ b ∷ c ∷ d ∷ f ∷ g ∷ h ∷ []) e = absurd (omega (arith, e))
eight (a ∷ b ∷ c ∷ d ∷ f ∷ g ∷ h ∷ i ∷ []) e = refl
eight (a ∷ b ∷ c ∷ d ∷ f ∷ g ∷ h ∷ i ∷ j ∷ more) e = absurd (omega (arith, e))

pub query_at : List (List ℕ) → Query
query_at values = record {
  pixel = the_pixel (nth 0 values);
  layer = digits_value 10 (nth 1 values);
  x = the_number (number_at (nth 2 values));
  y = the_number (number_at (nth 3 values));
  w = digits_value 10 (nth 4 values);
  h = digits_value 10 (nth 5 values);
  scene = the_scene (nth 6 values);
  plane = the_plane (nth 7 values);
}

abbrev pub region_at : List (List ℕ) → Head
region_at values = Alone (Paints (query_at values))

pub region_is : (q : Query) (values : List (List ℕ)) → RegionValues q values → region_at values ≡ Alone (Paints q)
unfolding query_at
region_is q values r = ap region_at r.texts ∙ parts (pixel_is r.pixel_text q.pixel r.is_pixel) r.is_layer.0.value (number_is r.x_text q.x r.is_x) (number_is r.y_text q.y r.is_y) r.is_w.0.value r.is_h.0.value (scene_is r.scene_text q.scene r.is_scene) (plane_is r.plane_text q.plane r.is_plane)
  where
    parts : {a : PixelType} {b : ℕ} {c d : ℤ} {e f : ℕ} {g : Option ℤ} {h : List Axis} → a ≡ q.pixel → b ≡ q.layer → c ≡ q.x → d ≡ q.y → e ≡ q.w → f ≡ q.h → g ≡ q.scene → h ≡ q.plane
        → Alone (Paints (record { pixel = a; layer = b; x = c; y = d; w = e; h = f; scene = g; plane = h })) ≡ Alone (Paints q)
    parts p s t u v w x y = rw (p, s, t, u, v, w, x, y)

abbrev pub SomeRegion : List (List ℕ) → Type 0
SomeRegion values = (q : Query) × RegionValues q values

abbrev Parts : List (List ℕ) → Type 0
Parts v = Both (Pixel (nth 0 v)) (Both (Count (2 ^ 16) (nth 1 v)) (Both (Signed (nth 2 v)) (Both (Signed (nth 3 v)) (Both (Count (2 ^ 32 - 1) (nth 4 v)) (Both (Count (2 ^ 32 - 1) (nth 5 v)) (Both (Scene (nth 6 v)) (PlaneOf (nth 7 v))))))))

parts_or : (v : List (List ℕ)) → Or (Parts v)
parts_or v = both_or (pixel_or (nth 0 v)) (both_or (count_or (2 ^ 16) (nth 1 v)) (both_or (signed_or (nth 2 v)) (both_or (signed_or (nth 3 v)) (both_or (count_or (2 ^ 32 - 1) (nth 4 v)) (both_or (count_or (2 ^ 32 - 1) (nth 5 v)) (both_or (scene_or (nth 6 v)) (plane_or (nth 7 v))))))))

parts_of : (v : List (List ℕ)) → SomeRegion v → Parts v
parts_of v t =
    let q = t.0 in
    let r = t.1 in
    let a : IsPixel (nth 0 v) q.pixel = subst (λ x. IsPixel x q.pixel) (sym (ap (nth 0) r.texts)) r.is_pixel in
    let b : IsCount (2 ^ 16) (nth 1 v) q.layer = subst (λ x. IsCount (2 ^ 16) x q.layer) (sym (ap (nth 1) r.texts)) r.is_layer in
    let c : IsSigned (nth 2 v) q.x = subst (λ x. IsSigned x q.x) (sym (ap (nth 2) r.texts)) r.is_x in
    let d : IsSigned (nth 3 v) q.y = subst (λ x. IsSigned x q.y) (sym (ap (nth 3) r.texts)) r.is_y in
    let e : IsCount (2 ^ 32 - 1) (nth 4 v) q.w = subst (λ x. IsCount (2 ^ 32 - 1) x q.w) (sym (ap (nth 4) r.texts)) r.is_w in
    let f : IsCount (2 ^ 32 - 1) (nth 5 v) q.h = subst (λ x. IsCount (2 ^ 32 - 1) x q.h) (sym (ap (nth 5) r.texts)) r.is_h in
    let g : IsScene (nth 6 v) q.scene = subst (λ x. IsScene x q.scene) (sym (ap (nth 6) r.texts)) r.is_scene in
    let h : IsPlane (nth 7 v) q.plane = subst (λ x. IsPlane x q.plane) (sym (ap (nth 7) r.texts)) r.is_plane in
    both (q.pixel, a) (both (q.layer, b) (both (q.x, c) (both (q.y, d) (both (q.w, e) (both (q.h, f) (both (q.scene, g) (q.plane, h)))))))

made_of : (v : List (List ℕ)) → length v ≡ 8 → Parts v → SomeRegion v
made_of v len p =
    let a = p.one in let b = p.two.one in let c = p.two.two.one in let d = p.two.two.two.one in
    let e = p.two.two.two.two.one in let f = p.two.two.two.two.two.one in let g = p.two.two.two.two.two.two.one in let h = p.two.two.two.two.two.two.two in (
      record { pixel = a.0; layer = b.0; x = c.0; y = d.0; w = e.0; h = f.0; scene = g.0; plane = h.0 },
      record {
        pixel_text = nth 0 v;
        layer_text = nth 1 v;
        x_text = nth 2 v;
        y_text = nth 3 v;
        w_text = nth 4 v;
        h_text = nth 5 v;
        scene_text = nth 6 v;
        plane_text = nth 7 v;
        texts = eight v len;
        is_pixel = a.1;
        is_layer = b.1;
        is_x = c.1;
        is_y = d.1;
        is_w = e.1;
        is_h = f.1;
        is_scene = g.1;
        is_plane = h.1;
      },
    )

pub region_or : (values : List (List ℕ)) → SomeRegion values ⊎ (SomeRegion values → ⊥)
region_or v = elim (cases_Bool (length v == 8)) [
  | inr f ↦ inr (λ t. eqb-false _ _ f (ap (λ (l : List (List ℕ)). length l) t.1.texts))
  | inl t ↦ with_parts (eqb-true _ _ t) (parts_or v)
]
  where
    with_parts : length v ≡ 8 → Or (Parts v) → SomeRegion v ⊎ (SomeRegion v → ⊥)
    with_parts len (inl p) = inl (made_of v len p)
    with_parts len (inr none) = inr (λ t. none (parts_of v t))

-- what is read of a plane's text is what it is
pub plane_read : {E : Type 0} (text : List ℕ) → false ≡ bytes_eq text left_out → (r : Result (Option Plane) E) → IfOk r (λ found. IfSome found (λ p. IsPlaneText text (plane_of p)))
    → IfOk r (λ found. (axes : List Axis) → IsPlaneText text axes → option_map plane_of found ≡ Some axes) → IfOk r (λ found. MatchOption found ((axes : List Axis) → IsPlane text axes → ⊥) (λ p. IsPlane text (plane_of p)))
plane_read text other (Err e) found only = tt
plane_read text other (Ok (Some p)) found only = plane_given text (plane_of p) found
plane_read text other (Ok None) found only = no_plane text
    (λ e. let t : bytes_eq text left_out ≡ true = (bytes_eq-Decides text left_out).1 e in let h : false ≡ true = other ∙ t in cc)
    (λ axes is. let h : None ≡ Some axes = only axes is in cc)
