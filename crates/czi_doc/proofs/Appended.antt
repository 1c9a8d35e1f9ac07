-- Steps of writing text.
use Rattle.std.proofs.Common.{◌≡◌, ℕ, ℤ, ◌+◌, ◌<◌, ◌≤◌, length, drop, take, get_or, add-one, drop-cons, arith, List, [], ◌∷◌, ◌++◌, map, not, ◌==◌, false, true, Result, Ok, Err, OnErr, ap, sym, ◌∙◌, append_assoc, append-nil}
use Rattle.std.specs.List.{flat_map, join_with_byte}
use Rattle.std.proofs.lemmas.Bool.Decides.{nat_tests}
use Rattle.std.proofs.lemmas.List.Sums.{take_while-cons}
use Rattle.std.proofs.lemmas.List.{drop_all, take_more, take_all}
use Rattle.std.proofs.lemmas.List.Concat.{flat_map-append}
use Rattle.czi_format.specs.Text.{byte_text, bytes_text, up_to_zero, stored_size, dim_text}
use Rattle.czi_format.specs.Entry.{Dim}
use Rattle.std.specs.Fmt.{signed_decimal}
use Rattle.czi_doc.specs.Grows.{Grows}

pub grows_by : (a b more : List ℕ) → b ≡ a ++ more → Grows a b
grows_by a b more is = record { more = more; is = is }

pub grows_same : (a b : List ℕ) → b ≡ a → Grows a b
grows_same a b is = record { more = []; is = is ∙ sym (append-nil a) }

pub grows_both : (a b c : List ℕ) → Grows a b → Grows b c → Grows a c
grows_both a b c g h = record { more = g.more ++ h.more; is = h.is ∙ (ap (λ x. x ++ h.more) g.is ∙ append_assoc a g.more h.more) }

-- one byte of a name more
pub name_more : (out whole : List ℕ) (b : ℕ) (rest : List ℕ) → (b == 0) ≡ false → out ++ bytes_text (up_to_zero (b ∷ rest)) ≡ whole
    → (out ++ byte_text b) ++ bytes_text (up_to_zero rest) ≡ whole
unfolding bytes_text
name_more out whole b rest test is =
    let first : up_to_zero (b ∷ rest) ≡ b ∷ up_to_zero rest = take_while-cons (λ x. not (x == 0)) b rest ∙ rw test in
    append_assoc out (byte_text b) (flat_map byte_text (up_to_zero rest)) ∙ (sym (ap (λ z. out ++ flat_map byte_text z) first) ∙ is)

pub name_ends : (out whole : List ℕ) (b : ℕ) (rest : List ℕ) → (b == 0) ≡ true → out ++ bytes_text (up_to_zero (b ∷ rest)) ≡ whole → out ≡ whole
unfolding bytes_text
name_ends out whole b rest test is =
    let first : up_to_zero (b ∷ rest) ≡ [] = take_while-cons (λ x. not (x == 0)) b rest ∙ rw test in
    sym (append-nil out) ∙ (sym (ap (λ z. out ++ flat_map byte_text z) first) ∙ is)

pub name_over : (out whole : List ℕ) → out ++ bytes_text (up_to_zero []) ≡ whole → out ≡ whole
unfolding bytes_text
name_over out whole is = sym (append-nil out) ∙ is

-- the same at a place of the name
pub name_at : (out whole name : List ℕ) (i : ℕ) → i < length name → (get_or name i 0 ≡ 0 → ⊥) → out ++ bytes_text (up_to_zero (drop i name)) ≡ whole
    → (out ++ byte_text (get_or name i 0)) ++ bytes_text (up_to_zero (drop (i + 1) name)) ≡ whole
name_at out whole name i inside other is =
    let test : (get_or name i 0 == 0) ≡ false = grind (arith, nat_tests) in
    let here : drop i name ≡ get_or name i 0 ∷ drop (i + 1) name = rw (add-one, drop-cons name i 0) in
    name_more out whole (get_or name i 0) (drop (i + 1) name) test (sym (ap (λ z. out ++ bytes_text (up_to_zero z)) here) ∙ is)

pub name_zero_at : (out whole name : List ℕ) (i : ℕ) → i < length name → get_or name i 0 ≡ 0 → out ++ bytes_text (up_to_zero (drop i name)) ≡ whole → out ≡ whole
name_zero_at out whole name i inside zero is =
    let test : (get_or name i 0 == 0) ≡ true = grind (arith, nat_tests) in
    let here : drop i name ≡ get_or name i 0 ∷ drop (i + 1) name = rw (add-one, drop-cons name i 0) in
    name_ends out whole (get_or name i 0) (drop (i + 1) name) test (sym (ap (λ z. out ++ bytes_text (up_to_zero z)) here) ∙ is)

pub name_over_at : (out whole name : List ℕ) (i : ℕ) → length name ≤ i → out ++ bytes_text (up_to_zero (drop i name)) ≡ whole → out ≡ whole
name_over_at out whole name i over is =
    let none : drop i name ≡ [] = drop_all i name over in
    name_over out whole (sym (ap (λ z. out ++ bytes_text (up_to_zero z)) none) ∙ is)

-- one item more behind a comma
pub items_more : {X : Type 0} (f : X → List ℕ) (base first out comma after : List ℕ) (xs : List X) (i : ℕ) (d : X) → i < length xs
    → out ≡ base ++ (first ++ flat_map (λ y. 44 ∷ f y) (take i xs)) → comma ≡ out ++ 44 ∷ [] → after ≡ comma ++ f (get_or xs i d)
    → after ≡ base ++ (first ++ flat_map (λ y. 44 ∷ f y) (take (i + 1) xs))
items_more f base first out comma after xs i d inside is with_comma with_item =
    let item : List ℕ = 44 ∷ f (get_or xs i d) in
    let passed : List ℕ = flat_map (λ y. 44 ∷ f y) (take i xs) in
    let all : after ≡ out ++ item = with_item ∙ (ap (λ z. z ++ f (get_or xs i d)) with_comma ∙ append_assoc out (44 ∷ []) (f (get_or xs i d))) in
    let next : flat_map (λ y. 44 ∷ f y) (take (i + 1) xs) ≡ passed ++ item =
    ap (flat_map (λ y. 44 ∷ f y)) (take_more xs i d inside) ∙ (flat_map-append (λ y. 44 ∷ f y) (take i xs) (get_or xs i d ∷ []) ∙ ap (λ z. passed ++ z) (append-nil item)) in
    all ∙ (ap (λ z. z ++ item) is ∙ (append_assoc base (first ++ passed) item ∙ ap (λ z. base ++ z) (append_assoc first passed item ∙ sym (ap (λ z. first ++ z) next))))

pub items_over : {X Y : Type 0} (g : Y → List ℕ) (v : X → Y) (base out : List ℕ) (x : X) (xs : List X) (i : ℕ) → length xs ≤ i
    → out ≡ base ++ (g (v x) ++ flat_map (λ y. 44 ∷ g (v y)) (take i xs)) → out ≡ base ++ join_with_byte 44 (map g (v x ∷ map v xs))
items_over g v base out x xs i over is =
    is ∙ ap (λ z. base ++ z) (ap (λ z. g (v x) ++ flat_map (λ y. 44 ∷ g (v y)) z) (take_all i xs over) ∙ sym (seen g v x xs))
  where
    seen : {X Y : Type 0} (g : Y → List ℕ) (v : X → Y) (x : X) (xs : List X) → join_with_byte 44 (map g (v x ∷ map v xs)) ≡ g (v x) ++ flat_map (λ y. 44 ∷ g (v y)) xs
    seen g v x [] = sym (append-nil (g (v x)))
    seen g v x (y ∷ xs) = ap (λ z. g (v x) ++ (44 ∷ z)) (seen g v y xs)

pub on_err : {T E Q : Type 0} (r : Result T E) → Q → OnErr r Q
on_err (Ok x) q = tt
on_err (Err e) q = q

six : (o a b c d e f : List ℕ) → (((((o ++ a) ++ b) ++ c) ++ d) ++ e) ++ f ≡ o ++ (a ++ (b ++ (c ++ (d ++ (e ++ f)))))
six o a b c d e f = simp append_assoc

-- the parts of a dimension's text, one after another
pub dim_appended : (d : Dim) (o p q r s t u : List ℕ) (z : ℤ) → p ≡ o ++ bytes_text (up_to_zero d.name) → q ≡ p ++ signed_decimal d.start → r ≡ q ++ 58 ∷ []
    → s ≡ r ++ signed_decimal d.size → t ≡ s ++ 58 ∷ [] → u ≡ t ++ signed_decimal z → z ≡ stored_size d → u ≡ o ++ dim_text d
unfolding dim_text
dim_appended d o p q r s t u z p_is q_is r_is s_is t_is u_is z_is =
    let parts = six o (bytes_text (up_to_zero d.name)) (signed_decimal d.start) (58 ∷ []) (signed_decimal d.size) (58 ∷ []) (signed_decimal z) in
    let last = ap (λ y. o ++ (bytes_text (up_to_zero d.name) ++ (signed_decimal d.start ++ (58 ∷ (signed_decimal d.size ++ (58 ∷ signed_decimal y)))))) z_is in
    u_is ∙ (ap (λ x. x ++ signed_decimal z) (t_is ∙ ap (λ x. x ++ 58 ∷ []) (s_is ∙ ap (λ x. x ++ signed_decimal d.size) (r_is ∙ ap (λ x. x ++ 58 ∷ []) (q_is ∙ ap (λ x. x ++ signed_decimal d.start) p_is)))) ∙ (parts ∙ last))
