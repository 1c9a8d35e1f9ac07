-- Patches laid over a row, one after another.
use Rattle.std.proofs.Common.{◌≡◌, ℕ, zero, suc, ◌<◌, ◌≤◌, ◌+◌, ◌*◌, ◌-◌, true, ◌&&◌, nat_le, nat_lt, List, [], ◌∷◌, ◌++◌, length, take, drop, get_or, ◌⊎◌, replicate, Option, None, Some, refl, ap, sym, subst, ◌∙◌, arith, inl, inr, append_assoc, length-drop, length-take-le}
use Rattle.std.proofs.lemmas.Bool.{cases_lt}
use Rattle.std.proofs.lemmas.List.Elements.{All-take, recursion_from_All}
use Rattle.std.proofs.Math.Seq.{take-add}
use Rattle.std.proofs.lemmas.List.{take_more, drop-drop, get_or_default, get_or-drop, get_or-map, get_or-take, length-replicate, replicate-append-replicate}
use Rattle.std.proofs.lemmas.Bool.Decides.{nat_tests}
use Rattle.std.proofs.Math.Nat.{mul-le-mul_right}
use Rattle.std.specs.Option.{unwrap_or}
use Rattle.std.specs.List.{All, AllByRecursion, Contains}
use borrow.Rule.Slice.PartMut.{put_mid}
use Rattle.czi_format.specs.Bytes.{bytes_at, put_at}
use Rattle.czi_format.specs.Partial.{◌>>=◌}
use Rattle.czi_format.proofs.Limits.{length-bytes_at}
use Rattle.czi_format.proofs.Readings.{bind_some, given_some, both_true}
use Rattle.czi_format.specs.Painting.{last_given}
use Rattle.czi_tiles.specs.Window.{shown_in}
use Rattle.czi_tiles.proofs.Windows.{given_false, inside}
use Rattle.czi_paint.specs.declared.patch.Patch.{Patch}
use Rattle.czi_tiles.specs.Covered.{seen_through}
use Rattle.czi_paint.specs.Meeting.{first_row, end_row, Meets, AreActive}
use Rattle.czi_paint.specs.Patches.{place_of, patch_pixel, patched_row, EndsBelow, FitsRow, laid_over, patch_span}
use Rattle.czi_format.proofs.Pixels.{pixels, laid, run, same_pixels}

-- a pixel that a window shows is one of its stored pixels
pub seen_below : (first count from i u : ℕ) → shown_in first count from i ≡ Some u → u < from + count
seen_below first count from i u e =
    let h = given_some (nat_le first i && nat_lt i (first + count)) (from + (i - first)) u e in
    let t = both_true (nat_le first i) (nat_lt i (first + count)) h.0 in
    let low : nat_le first i ≡ true = t.0 in
    let high : nat_lt i (first + count) ≡ true = t.1 in
    let is : from + (i - first) ≡ u = h.1 in
    grind (arith, nat_tests)

pub spread : (a b n : ℕ) → (a + b) * n ≡ a * n + b * n
spread a b n = omega arith

-- the span of a patch lies in the image
pub span_fits : (limit n : ℕ) (p : Patch) (v : ℕ) → EndsBelow limit n p → v < p.rows.from + p.rows.count → place_of n p p.columns.from v + p.columns.count * n ≤ limit
span_fits limit n p v ends low =
    let e : (v * p.width + (p.columns.from + p.columns.count)) * n ≡ (v * p.width + p.columns.from) * n + p.columns.count * n = ap (λ k. k * n) (omega arith) ∙ spread (v * p.width + p.columns.from) p.columns.count n in
    omega (arith, ends v low, e)

put_over : (a k : ℕ) (out into bytes : List ℕ) → into ≡ bytes → length bytes ≡ k → put_mid a k out into ≡ put_at out a bytes
put_over a k out into bytes is long =
    let e : drop k (drop a out) ≡ drop (a + length bytes) out = drop-drop k a out ∙ ap (λ m. drop (a + m) out) (sym long) in
    (λ i. take a out ++ (is i ++ e i)) ∙ sym (append_assoc (take a out) bytes (drop (a + length bytes) out))

-- what is read for a patch is its span
pub read_over : (image out into : List ℕ) (p : Patch) (n j v : ℕ) → seen_through p.rows j ≡ Some v → EndsBelow (length image) n p
    → (p.columns.first + p.columns.count) * n ≤ length out
    → into ≡ take (length (take (p.columns.first * n + p.columns.count * n - p.columns.first * n) (drop (p.columns.first * n) out))) (drop (place_of n p p.columns.from v) image)
    → put_mid (p.columns.first * n) (p.columns.first * n + p.columns.count * n - p.columns.first * n) out into ≡ laid_over (patch_span n image p j) (p.columns.first * n) out
unfolding bytes_at
read_over image out into p n j v shown ends fits is =
    let a : ℕ = p.columns.first * n in
    let k : ℕ = p.columns.count * n in
    let size : a + k - a ≡ k = omega arith in
    let room : (p.columns.first + p.columns.count) * n ≡ a + k = spread p.columns.first p.columns.count n in
    let len : length (take (a + k - a) (drop a out)) ≡ k = ap (λ m. length (take m (drop a out))) size ∙ length-take-le k (drop a out) (rw (length-drop a out) (omega (arith, fits, room))) in
    let bytes : List ℕ = bytes_at image (place_of n p p.columns.from v) k in
    let into_is : into ≡ bytes = is ∙ ap (λ m. take m (drop (place_of n p p.columns.from v) image)) len in
    let long : length bytes ≡ k = length-bytes_at image (place_of n p p.columns.from v) k (span_fits (length image) n p v ends (seen_below p.rows.first p.rows.count p.rows.from j v shown)) in
    let span : patch_span n image p j ≡ Some bytes = ap (λ (o : Option ℕ). o >>= λ v. Some (bytes_at image (place_of n p p.columns.from v) (p.columns.count * n))) shown in
    ap (λ m. put_mid a m out into) size ∙ (put_over a k out into bytes into_is long ∙ sym (ap (λ (o : Option (List ℕ)). laid_over o a out) span))

last_given_push : {A X : Type 0} (f : A → Option X) (xs : List A) (a : A) (x : X) → last_given f (xs ++ a ∷ []) x ≡ unwrap_or (f a) (last_given f xs x)
last_given_push f [] a x = refl
last_given_push f (y ∷ ys) a x = last_given_push f ys a (unwrap_or (f y) x)

blank_from : (n a w : ℕ) → pixels (λ i. replicate n 0) a w ≡ replicate (w * n) 0
blank_from n a zero = let e : 0 * n ≡ 0 = omega arith in rw e refl
blank_from n a (suc w) =
    let e : suc w * n ≡ n + w * n = omega arith in
    ap (λ rest. replicate n 0 ++ rest) (blank_from n (a + 1) w) ∙ (replicate-append-replicate n (w * n) 0 ∙ ap (λ k. replicate k 0) (sym e))

-- a row of which no patch shows anything
pub blank : (n w : ℕ) (image : List ℕ) (j : ℕ) → patched_row n w image [] j ≡ replicate (w * n) 0
blank n w image j = blank_from n 0 w

pixel_long : (n : ℕ) (image : List ℕ) (p : Patch) (i j : ℕ) → EndsBelow (length image) n p → (bytes : List ℕ) → patch_pixel n image p j i ≡ Some bytes → length bytes ≡ n
pixel_long n image p i j ends bytes e =
    let v = bind_some (seen_through p.rows j) (λ v. seen_through p.columns i >>= λ u. Some (bytes_at image (place_of n p u v) n)) bytes e in
    let u = bind_some (seen_through p.columns i) (λ u. Some (bytes_at image (place_of n p u v.0) n)) bytes v.2 in
    let is : bytes_at image (place_of n p u.0 v.0) n ≡ bytes = (let f : (a b : List ℕ) → (let o : Option (List ℕ) = Some a in o) ≡ Some b → a ≡ b = λ a b h. cc in f _ bytes u.2) in
    let row : v.0 < p.rows.from + p.rows.count = seen_below p.rows.first p.rows.count p.rows.from j v.0 v.1 in
    let column : u.0 < p.columns.from + p.columns.count = seen_below p.columns.first p.columns.count p.columns.from i u.0 u.1 in
    let more : (v.0 * p.width + u.0 + 1) * n ≤ (v.0 * p.width + (p.columns.from + p.columns.count)) * n = mul-le-mul_right n (omega (arith, column)) in
    let one : (v.0 * p.width + u.0 + 1) * n ≡ (v.0 * p.width + u.0) * n + 1 * n = spread (v.0 * p.width + u.0) 1 n in
    let fits : place_of n p u.0 v.0 + n ≤ length image = omega (arith, ends v.0 row, more, one) in
    sym (ap length is) ∙ length-bytes_at image (place_of n p u.0 v.0) n fits

given_long : (n : ℕ) (o : Option (List ℕ)) (d : List ℕ) → ((bytes : List ℕ) → o ≡ Some bytes → length bytes ≡ n) → length d ≡ n → length (unwrap_or o d) ≡ n
given_long n None d f e = e
given_long n (Some bytes) d f e = f bytes refl

last_long : (n : ℕ) (image : List ℕ) (patches : List Patch) (i j : ℕ) (d : List ℕ) → All (EndsBelow (length image) n) patches → length d ≡ n
    → length (last_given (λ p. patch_pixel n image p j i) patches d) ≡ n
last_long n image [] i j d all e = e
last_long n image (p ∷ ps) i j d all e =
    last_long n image ps i j (unwrap_or (patch_pixel n image p j i) d) (λ k x low. all (suc k) x (omega arith))
    (given_long n (patch_pixel n image p j i) d (pixel_long n image p i j (all 0 p (omega arith))) e)

abbrev pub under : ℕ → List ℕ → List Patch → ℕ → ℕ → List ℕ
under n image ps j i = last_given (λ p. patch_pixel n image p j i) ps (replicate n 0)

on_top : (n : ℕ) (image : List ℕ) (ps : List Patch) (p : Patch) (i j : ℕ) (o : Option (List ℕ)) → patch_pixel n image p j i ≡ o → under n image (ps ++ p ∷ []) j i ≡ unwrap_or o (under n image ps j i)
on_top n image ps p i j o e = last_given_push (λ p. patch_pixel n image p j i) ps p (replicate n 0) ∙ ap (λ (o : Option (List ℕ)). unwrap_or o (under n image ps j i)) e

column_pixel : (n : ℕ) (image : List ℕ) (p : Patch) (i j v : ℕ) (u : Option ℕ) → seen_through p.rows j ≡ Some v → seen_through p.columns i ≡ u
    → patch_pixel n image p j i ≡ (u >>= λ u. Some (bytes_at image (place_of n p u v) n))
column_pixel n image p i j v u row column =
    ap (λ (o : Option ℕ). o >>= λ v. seen_through p.columns i >>= λ u. Some (bytes_at image (place_of n p u v) n)) row
    ∙ ap (λ (o : Option ℕ). o >>= λ u. Some (bytes_at image (place_of n p u v) n)) column

outside : (first count from i : ℕ) → (i < first) ⊎ (first + count ≤ i) → shown_in first count from i ≡ None
outside first count from i (inl h) = given_false (nat_le first i && nat_lt i (first + count)) (from + (i - first)) (grind (arith, nat_tests))
outside first count from i (inr h) = given_false (nat_le first i && nat_lt i (first + count)) (from + (i - first)) (grind (arith, nat_tests))

-- the last patch is laid over the row of the others
pushed_by : (n w : ℕ) (image : List ℕ) (ps : List Patch) (p : Patch) (j : ℕ) (o : Option ℕ) → seen_through p.rows j ≡ o → FitsRow w p → EndsBelow (length image) n p
    → All (EndsBelow (length image) n) ps
    → laid_over (o >>= λ v. Some (bytes_at image (place_of n p p.columns.from v) (p.columns.count * n))) (p.columns.first * n) (patched_row n w image ps j) ≡ patched_row n w image (ps ++ p ∷ []) j
pushed_by n w image ps p j None none fits ends all =
    sym (same_pixels (under n image (ps ++ p ∷ []) j) (under n image ps j) 0 w (λ i low high.
    on_top n image ps p i j None (ap (λ (o : Option ℕ). o >>= λ v. seen_through p.columns i >>= λ u. Some (bytes_at image (place_of n p u v) n)) none)))
pushed_by n w image ps p j (Some v) row fits ends all =
    let first : ℕ = p.columns.first in
    let count : ℕ = p.columns.count in
    let from : ℕ = p.columns.from in
    let h : ℕ → List ℕ = λ i. bytes_at image (place_of n p (from + (i - first)) v) n in
    let low_row : v < p.rows.from + p.rows.count = seen_below p.rows.first p.rows.count p.rows.from j v row in
    let beside : (i : ℕ) → (i < first) ⊎ (first + count ≤ i) → under n image (ps ++ p ∷ []) j i ≡ under n image ps j i = λ i out.
    on_top n image ps p i j None (column_pixel n image p i j v None row (outside first count from i out)) in
    let there : (i : ℕ) → first ≤ i → i < first + count → patch_pixel n image p j i ≡ Some (h i) = λ i low high.
    column_pixel n image p i j v (Some (from + (i - first))) row (inside first count from i low high) in
    let shown : (i : ℕ) → first ≤ i → i < first + count → under n image (ps ++ p ∷ []) j i ≡ h i = λ i low high.
    on_top n image ps p i j (Some (h i)) (there i low high) in
    let span : pixels h first count ≡ bytes_at image (place_of n p from v) (count * n) = run h image n first count (place_of n p from v) (λ i t is low.
    let column : from + (i - first) ≡ from + t = omega arith in
    let e : v * p.width + (from + t) ≡ v * p.width + from + t = omega arith in
    let f : (v * p.width + from + t) * n ≡ (v * p.width + from) * n + t * n = spread (v * p.width + from) t n in
    let g : place_of n p (from + (i - first)) v ≡ place_of n p from v + t * n = ap (λ u. p.place + (v * p.width + u) * n) column ∙ (ap (λ m. p.place + m * n) e ∙ omega (arith, f)) in
    ap (λ at. bytes_at image at n) g) in
    ap (λ bytes. put_at (patched_row n w image ps j) (first * n) bytes) (sym span)
    ∙ laid (under n image ps j) h (under n image (ps ++ p ∷ []) j) n first count w fits
    (λ i low. last_long n image ps i j (replicate n 0) all (length-replicate n 0))
    (λ i low high. pixel_long n image p i j ends (h i) (there i low high))
    (λ i low. beside i (inl low)) shown (λ i high. beside i (inr high))

-- one patch more
pub step : (n w : ℕ) (image out new : List ℕ) (patches : List Patch) (k j : ℕ) (p : Patch) → k < length patches → p ≡ get_or patches k p → All (FitsRow w) patches
    → All (EndsBelow (length image) n) patches → out ≡ patched_row n w image (take k patches) j → new ≡ laid_over (patch_span n image p j) (p.columns.first * n) out
    → new ≡ patched_row n w image (take (k + 1) patches) j
step n w image out new patches k j p low is fit ends was now =
    let this : get_or patches k p ≡ p = sym is in
    let fits : FitsRow w p = subst (λ (q : Patch). FitsRow w q) this (fit k p low) in
    let below : EndsBelow (length image) n p = subst (λ (q : Patch). EndsBelow (length image) n q) this (ends k p low) in
    let more : take k patches ++ p ∷ [] ≡ take (k + 1) patches = sym (take_more patches k p low ∙ ap (λ (q : Patch). take k patches ++ q ∷ []) this) in
    now ∙ (ap (λ bytes. laid_over (patch_span n image p j) (p.columns.first * n) bytes) was
    ∙ (pushed_by n w image (take k patches) p j (seen_through p.rows j) refl fits below (All-take (EndsBelow (length image) n) k patches ends)
    ∙ ap (λ (ps : List Patch). patched_row n w image ps j) more))

-- ---- patches that don't have the row

last_append : {A X : Type 0} (f : A → Option X) (xs ys : List A) (x : X) → last_given f (xs ++ ys) x ≡ last_given f ys (last_given f xs x)
last_append f [] ys x = refl
last_append f (y ∷ xs) ys x = last_append f xs ys (unwrap_or (f y) x)

last_none : {A X : Type 0} (f : A → Option X) (xs : List A) (x : X) → AllByRecursion (λ a. f a ≡ None) xs → last_given f xs x ≡ x
last_none f [] x none = refl
last_none f (y ∷ xs) x none = ap (λ (o : Option _). last_given f xs (unwrap_or o x)) none.0 ∙ last_none f xs x none.1

-- a patch shows nothing of a row that it doesn't have
nothing_there : (n : ℕ) (image : List ℕ) (patches : List Patch) (k i j : ℕ) (p : Patch) → k < length patches → p ≡ get_or patches k p → (Meets patches k j → ⊥) → patch_pixel n image p j i ≡ None
nothing_there n image patches k i j p low is apart =
    let first : first_row patches k ≡ p.rows.first = get_or-map (λ (p : Patch). p.rows.first) patches k p 0 low ∙ ap (λ (p : Patch). p.rows.first) (sym is) in
    let end : end_row patches k ≡ p.rows.first + p.rows.count = get_or-map (λ (p : Patch). p.rows.first + p.rows.count) patches k p 0 low ∙ ap (λ (p : Patch). p.rows.first + p.rows.count) (sym is) in
    let unseen : seen_through p.rows j ≡ None = elim (cases_lt j p.rows.first) [
      | inl before ↦ outside p.rows.first p.rows.count p.rows.from j (inl before)
      | inr from ↦ elim (cases_lt j (p.rows.first + p.rows.count)) [
        | inl within ↦ absurd (apart (omega (arith, first, from), omega (arith, end, within)))
        | inr past ↦ outside p.rows.first p.rows.count p.rows.from j (inr past)
      ]
    ] in
    ap (λ (o : Option ℕ). o >>= λ v. seen_through p.columns i >>= λ u. Some (bytes_at image (place_of n p u v) n)) unseen

-- between two places of which none between has the row
pub between : (n w : ℕ) (image : List ℕ) (patches : List Patch) (a b j : ℕ) → a ≤ b → b ≤ length patches → ((k : ℕ) → a ≤ k → k < b → Meets patches k j → ⊥)
    → patched_row n w image (take a patches) j ≡ patched_row n w image (take b patches) j
between n w image patches a b j le inside apart =
    let e : a + (b - a) ≡ b = omega arith in
    let more : take b patches ≡ take a patches ++ take (b - a) (drop a patches) = ap (λ k. take k patches) (sym e) ∙ take-add a (b - a) patches in
    let none : (i : ℕ) → AllByRecursion (λ (p : Patch). patch_pixel n image p j i ≡ None) (take (b - a) (drop a patches)) = λ i.
    recursion_from_All (λ (p : Patch). patch_pixel n image p j i ≡ None) (take (b - a) (drop a patches)) (λ k d low.
    let short : k < b - a = omega (arith, low, length-take-le (b - a) (drop a patches) (omega (arith, length-drop a patches))) in
    let same : get_or (take (b - a) (drop a patches)) k d ≡ get_or patches (a + k) d = get_or-take (b - a) (drop a patches) k d short ∙ get_or-drop a patches k d in
    let here : get_or patches (a + k) d ≡ get_or patches (a + k) (get_or patches (a + k) d) = get_or_default patches (a + k) d (get_or patches (a + k) d) (omega arith) in
    subst (λ (p : Patch). patch_pixel n image p j i ≡ None) (sym same)
    (nothing_there n image patches (a + k) i j (get_or patches (a + k) d) (omega arith) here (apart (a + k) (omega arith) (omega arith)))) in
    same_pixels (under n image (take a patches) j) (under n image (take b patches) j) 0 w (λ i low high.
    sym (ap (λ (ps : List Patch). last_given (λ p. patch_pixel n image p j i) ps (replicate n 0)) more
    ∙ (last_append (λ p. patch_pixel n image p j i) (take a patches) (take (b - a) (drop a patches)) (replicate n 0)
    ∙ last_none (λ p. patch_pixel n image p j i) (take (b - a) (drop a patches)) (under n image (take a patches) j i) (none i))))

-- no patch between the places that were passed and the one that comes has the row
pub none_between : (patches : List Patch) (active : List ℕ) (n i m j : ℕ) → AreActive patches j active → m ≤ length patches
    → ((k : ℕ) → k < i → get_or active k 0 < n) → ((k : ℕ) → i ≤ k → k < length active → m ≤ get_or active k 0)
    → (k : ℕ) → n ≤ k → k < m → Meets patches k j → ⊥
none_between patches active n i m j are inside passed ahead k low high meets =
    let found : Contains active k = are.all k (omega arith) meets in
    let at : get_or active found.0 0 ≡ k = get_or_default active found.0 0 k found.1 ∙ found.2 in
    elim (cases_lt found.0 i) [
      | inl before ↦ omega (arith, passed found.0 before, at)
      | inr behind ↦ omega (arith, ahead found.0 behind found.1, at)
    ]
