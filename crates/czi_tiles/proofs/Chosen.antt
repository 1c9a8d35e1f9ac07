-- The pixels of a region come from the chosen ones alone.
use Rattle.std.proofs.Common.{◌≡◌, ℕ, zero, suc, ◌+◌, ◌*◌, ◌<◌, ◌≤◌, ℤ, List, [], ◌∷◌, map, Bool, true, false, cond, ◌&&◌, ◌||◌, Option, None, Some, refl, ap, sym, ◌∙◌, arith, inl, inr, filter, replicate, if◌then◌else◌}
use Rattle.std.specs.Option.{unwrap_or, is_some}
use Rattle.std.specs.List.{list_any, enumerate_from, range_with_len}
use Rattle.std.proofs.lemmas.Bool.{cases_Bool, cases_lt}
use Rattle.czi_format.specs.Span.{sorted}
use Rattle.czi_format.specs.Bytes.{bytes_at}
use Rattle.czi_format.specs.Partial.{◌>>=◌, natural}
use Rattle.czi_format.specs.Entry.{Dim}
use Rattle.czi_format.specs.Text.{stored_size}
use Rattle.czi_format.specs.Document.{Subblock}
use Rattle.czi_format.specs.Painting.{Query, first_x, first_y, stored_at, point, meets_one, in_both, belongs, is_chosen, painting_order, painted_before, chosen, pixel_of, shown_by, last_given, dims_of_subblock, pixel_at}
use Rattle.czi_tiles.proofs.Order.{map_sorted}

-- ---- the last of what is there

pub last_filter : {A X : Type 0} (f : A → Option X) (p : A → Bool) → ((a : A) → p a ≡ false → f a ≡ None) → (xs : List A) (d : X) → last_given f (filter p xs) d ≡ last_given f xs d
last_filter f p none [] d = refl
last_filter {A = A} f p none (a ∷ xs) d =
    let here : p a ≡ false → last_given f (filter p xs) d ≡ last_given f xs (unwrap_or (f a) d) = λ e.
    last_filter f p none xs d ∙ ap (λ (o : Option _). last_given f xs (unwrap_or o d)) (sym (none a e)) in
    (elim (p a) as (λ b. p a ≡ b → last_given f (let l : List A = cond b (a ∷ filter p xs) (filter p xs) in l) d ≡ last_given f xs (unwrap_or (f a) d)) [ true ↦ λ e. last_filter f p none xs (unwrap_or (f a) d) | false ↦ here ]) refl

pub last_map : {A B X : Type 0} (f : B → Option X) (g : A → B) (xs : List A) (d : X) → last_given f (map g xs) d ≡ last_given (λ a. f (g a)) xs d
last_map f g [] d = refl
last_map f g (a ∷ xs) d = last_map f g xs (unwrap_or (f (g a)) d)

-- where two give the same of each
pub last_same : {A X : Type 0} (f g : A → Option X) → ((a : A) → f a ≡ g a) → (xs : List A) (d : X) → last_given f xs d ≡ last_given g xs d
last_same f g same [] d = refl
last_same f g same (a ∷ xs) d = ap (λ (o : Option _). last_given f xs (unwrap_or o d)) (same a) ∙ last_same f g same xs (unwrap_or (g a) d)

-- ---- what isn't chosen shows nothing

first : (a b : Bool) → (a || b) ≡ false → a ≡ false
first true b e = cc
first false b e = refl

second : (a b : Bool) → (a || b) ≡ false → b ≡ false
second true b e = cc
second false b e = e

any_false : (p : ℕ → Bool) (a n : ℕ) → list_any p (range_with_len a n) ≡ false → (i : ℕ) → a ≤ i → i < a + n → p i ≡ false
any_false p a zero e i low high = absurd (omega arith)
any_false p a (suc n) e i low high =
    let here : p a ≡ false = first (p a) (list_any p (range_with_len (a + 1) n)) e in
    let rest : list_any p (range_with_len (a + 1) n) ≡ false = second (p a) (list_any p (range_with_len (a + 1) n)) e in
    elim (cases_lt a i) [
      | inl less ↦ any_false p (a + 1) n rest i (omega arith) (omega arith)
      | inr more ↦ let same : a ≡ i = omega arith in ap p (sym same) ∙ here
    ]

is_none : {X : Type 0} (o : Option X) → is_some o ≡ false → o ≡ None
is_none None e = refl
is_none (Some x) e = cc

not_met : (m : ℕ) (d : Dim) (from : ℤ) (n i : ℕ) → meets_one m d from n ≡ false → i < n → stored_at m d (point from m i) ≡ None
not_met m d from n i e low = is_none (stored_at m d (point from m i)) (any_false (λ i. is_some (stored_at m d (point from m i))) 0 n e i (omega arith) (omega arith))

-- the pixel by the two dimensions
abbrev pub pixel_in : Query → List ℕ → ℤ → ℤ → Dim → Dim → Option (List ℕ)
pixel_in q pixels px py x y = natural (stored_size x) >>= λ width. stored_at q.layer x px >>= λ u. stored_at q.layer y py >>= λ v. Some (bytes_at pixels ((v * width + u) * q.pixel.size) q.pixel.size)

abbrev pub in_dims : Option Dim → Option Dim → (Dim → Dim → Option (List ℕ)) → Option (List ℕ)
in_dims ox oy f = ox >>= λ x. oy >>= λ y. f x y

no_column : (q : Query) (pixels : List ℕ) (px py : ℤ) (x y : Dim) → stored_at q.layer x px ≡ None → pixel_in q pixels px py x y ≡ None
no_column q pixels px py x y e =
    ap (λ (o : Option ℕ). natural (stored_size x) >>= λ width. o >>= λ u. stored_at q.layer y py >>= λ v. Some (bytes_at pixels ((v * width + u) * q.pixel.size) q.pixel.size)) e
    ∙ nowhere (natural (stored_size x))
  where
    nowhere : (o : Option ℕ) → (o >>= λ width. let n : Option (List ℕ) = None in n) ≡ None
    nowhere None = refl
    nowhere (Some w) = refl

no_line : (q : Query) (pixels : List ℕ) (px py : ℤ) (x y : Dim) → stored_at q.layer y py ≡ None → pixel_in q pixels px py x y ≡ None
no_line q pixels px py x y e =
    ap (λ (o : Option ℕ). natural (stored_size x) >>= λ width. stored_at q.layer x px >>= λ u. o >>= λ v. Some (bytes_at pixels ((v * width + u) * q.pixel.size) q.pixel.size)) e
    ∙ nowhere (natural (stored_size x)) (stored_at q.layer x px)
  where
    nowhere : (o p : Option ℕ) → (o >>= λ width. p >>= λ u. let n : Option (List ℕ) = None in n) ≡ None
    nowhere None p = refl
    nowhere (Some w) None = refl
    nowhere (Some w) (Some u) = refl

-- no point of the region is covered where the columns or the rows aren't met
unmet : (q : Query) (pixels : List ℕ) (i j : ℕ) (ox oy : Option Dim) → i < q.w → j < q.h
    → unwrap_or (ox >>= λ x. oy >>= λ y. Some (meets_one q.layer x q.x q.w && meets_one q.layer y q.y q.h)) false ≡ false
    → in_dims ox oy (pixel_in q pixels (point q.x q.layer i) (point q.y q.layer j)) ≡ None
unmet q pixels i j None oy low high e = refl
unmet q pixels i j (Some x) None low high e = refl
unmet q pixels i j (Some x) (Some y) low high e = elim (cases_Bool (meets_one q.layer x q.x q.w)) [
  | inr f ↦ no_column q pixels (point q.x q.layer i) (point q.y q.layer j) x y (not_met q.layer x q.x q.w i f low)
  | inl t ↦ no_line q pixels (point q.x q.layer i) (point q.y q.layer j) x y (not_met q.layer y q.y q.h j (sym (ap (λ b. b && meets_one q.layer y q.y q.h) t) ∙ e) high)
]

unshown : (q : Query) (s : Subblock) (i j : ℕ) → i < q.w → j < q.h → is_chosen q s.info.dims ≡ false → shown_by q (point q.x q.layer i) (point q.y q.layer j) s ≡ None
unshown q s i j low high e =
    let px : ℤ = point q.x q.layer i in
    let py : ℤ = point q.y q.layer j in
    elim (cases_Bool (belongs q s.info.dims)) [
      | inr f ↦ ap (λ b. let o : Option (List ℕ) = if b then pixel_of q s.info.dims s.pixels px py else None in o) f
      | inl t ↦
          ap (λ b. let o : Option (List ℕ) = if b then pixel_of q s.info.dims s.pixels px py else None in o) t
          ∙ unmet q s.pixels i j (first_x s.info.dims) (first_y s.info.dims) low high
          (sym (ap (λ b. b && in_both s.info.dims (λ x y. meets_one q.layer x q.x q.w && meets_one q.layer y q.y q.h)) t) ∙ e)
    ]

-- a pixel of the region is that of the last chosen one that shows one there
pub from_chosen : (q : Query) (subblocks : List Subblock) (i j : ℕ) → i < q.w → j < q.h
    → last_given (λ t. shown_by q (point q.x q.layer i) (point q.y q.layer j) t.1) (chosen dims_of_subblock q subblocks) (replicate q.pixel.size 0)
    ≡ pixel_at q subblocks (point q.x q.layer i) (point q.y q.layer j)
from_chosen q subblocks i j low high =
    last_filter (λ (t : ℕ × Subblock). shown_by q (point q.x q.layer i) (point q.y q.layer j) t.1) (λ (t : ℕ × Subblock). is_chosen q t.1.info.dims)
    (λ t e. unshown q t.1 i j low high e) (painting_order dims_of_subblock subblocks) (replicate q.pixel.size 0)

-- ---- what stands for the subblocks

abbrev pub with_place : {X Y : Type 0} → (X → Y) → ℕ × X → ℕ × Y
with_place f t = (t.0, f t.1)

numbered_map : {X Y : Type 0} (f : X → Y) (k : ℕ) (xs : List X) → enumerate_from k (map f xs) ≡ map (with_place f) (enumerate_from k xs)
numbered_map f k [] = refl
numbered_map f k (x ∷ xs) = ap (λ l. (k, f x) ∷ l) (numbered_map f (k + 1) xs)

filter_map_is : {A B : Type 0} (g : A → B) (p : B → Bool) (xs : List A) → filter p (map g xs) ≡ map g (filter (λ a. p (g a)) xs)
filter_map_is g p [] = refl
filter_map_is {B = B} g p (a ∷ xs) =
    let rest = filter_map_is g p xs in
    elim (p (g a)) as (λ b. (let l : List B = cond b (g a ∷ filter p (map g xs)) (filter p (map g xs)) in l) ≡ map g (cond b (a ∷ filter (λ a. p (g a)) xs) (filter (λ a. p (g a)) xs))) [ true ↦ ap (λ l. g a ∷ l) rest | false ↦ rest ]

-- the chosen ones of what stands for other things
pub chosen_map : {X Y : Type 0} (f : X → Y) (dims : Y → List Dim) (q : Query) (xs : List X) → chosen dims q (map f xs) ≡ map (with_place f) (chosen (λ x. dims (f x)) q xs)
chosen_map {X = X} {Y = Y} f dims q xs =
    let place : ℕ × X → ℕ × Y = with_place f in
    let order : painting_order dims (map f xs) ≡ map (with_place f) (painting_order (λ x. dims (f x)) xs) =
    ap (sorted (painted_before dims)) (numbered_map f 0 xs) ∙ sym (map_sorted (with_place f) (painted_before dims) (enumerate_from 0 xs)) in
    ap (filter (λ t. is_chosen q (dims t.1))) order ∙ filter_map_is (with_place f) (λ t. is_chosen q (dims t.1)) (painting_order (λ x. dims (f x)) xs)
