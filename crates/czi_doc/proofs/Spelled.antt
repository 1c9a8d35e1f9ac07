-- What is read is spelled so.
use Rattle.std.proofs.Common.{◌≡◌, ℕ, zero, suc, ◌+◌, ◌-◌, ◌<◌, ◌≤◌, ℤ, pos, List, [], ◌∷◌, ◌++◌, take, drop, length, get_or, Bool, true, false, ◌&&◌, ◌==◌, nat_le, Result, Ok, Err, refl, ap, sym, ◌∙◌, subst, arith, inl, inr, w32, append_assoc, append-nil}
use Rattle.std.specs.Prelude.{replicate, IsTrue, FitsSigned, neg_ℤ}
use Rattle.std.specs.List.{prefix_len, AllByRecursion}
use Rattle.std.specs.Char.{is_ascii_digit}
use Rattle.std.specs.Str.Parse.{digits_value}
use Rattle.std.proofs.lemmas.Bool.{cases_Bool, eqb-true, leb-true}
use Rattle.std.proofs.lemmas.Bool.Decides.{nat_tests}
use Rattle.std.proofs.lemmas.List.{take-append-drop, length-take-le}
use Rattle.czi_doc.specs.DimText.{IsNatural, IsNumber, IsName, AreSizes, IsItem, AreItems, IsInRange, IsDimText, is_letter}
use Rattle.czi_format.specs.FirstFault.{◌>>=◌}
use Rattle.czi_format.specs.Entry.{Dim}
use Rattle.czi_doc.specs.Reading.{Read, name_len, name_at, number_len, magnitude_at, negative_at, positive_at, begins_with, number_at, Sizes, stored_at, sizes_at, item_at, behind, items_at}
use Rattle.czi_doc.proofs.Prefixes.{front_digits}

pub same_ok : {X : Type 0} (x y : X) (r : Result X ℕ) → r ≡ Ok x → r ≡ Ok y → x ≡ y
same_ok x y r p q = cc

no_err : {X : Type 0} {P : Type 0} (left : ℕ) (y : X) (r : Result X ℕ) → r ≡ Err left → r ≡ Ok y → P
no_err left y r p q = cc

pub record LettersAt (n : ℕ) (bytes : List ℕ) (k : ℕ) : Type 0 where
  pub few : k ≤ n
  pub inside : k ≤ length bytes
  pub letters : AllByRecursion (λ b. IsTrue (is_letter b)) (take k bytes)

pub letters_at : (n : ℕ) (bytes : List ℕ) → LettersAt n bytes (prefix_len is_letter (take n bytes))
letters_at zero bytes = record { few = omega arith; inside = omega arith; letters = tt }
letters_at (suc n) [] = record { few = omega arith; inside = omega arith; letters = tt }
letters_at (suc n) (b ∷ bytes) = elim (cases_Bool (is_letter b)) [
  | inl e ↦ let k : ℕ = prefix_len is_letter (take n bytes) in
      let one : 1 + k ≡ suc k = omega arith in
      let rest : LettersAt n bytes k = letters_at n bytes in
      subst (LettersAt (suc n) (b ∷ bytes)) (sym (more e ∙ one)) (record { few = omega (arith, rest.few); inside = omega (arith, rest.inside); letters = (e, rest.letters) })
  | inr e ↦ subst (LettersAt (suc n) (b ∷ bytes)) (sym (none e)) (record { few = omega arith; inside = omega arith; letters = tt })
]
  where
    more : is_letter b ≡ true → prefix_len is_letter (b ∷ take n bytes) ≡ 1 + prefix_len is_letter (take n bytes)
    more e = rw e

    none : is_letter b ≡ false → prefix_len is_letter (b ∷ take n bytes) ≡ 0
    none e = rw e

pub record NameAt (bytes : List ℕ) (r : Read (List ℕ)) : Type 0 where
  pub name : List ℕ
  pub is_name : IsName name
  pub whole : bytes ≡ name ++ r.rest
  pub padded : r.it ≡ name ++ replicate (4 - length name) 0

name_there : (bytes : List ℕ) → (name_len bytes == 0) ≡ false → NameAt bytes (record { it = take (name_len bytes) bytes ++ replicate (4 - name_len bytes) 0; rest = drop (name_len bytes) bytes })
name_there bytes test =
    let k : ℕ = name_len bytes in
    let l : LettersAt 4 bytes k = letters_at 4 bytes in
    let some : 0 < k = grind (arith, nat_tests) in
    let long : length (take k bytes) ≡ k = length-take-le k bytes l.inside in
    record {
      name = take k bytes;
      is_name = record { letters = l.letters; some = omega (arith, some, long); few = omega (arith, long, l.few) };
      whole = sym (take-append-drop k bytes);
      padded = ap (λ n. take k bytes ++ replicate (4 - n) 0) (sym long);
    }

pub name_found : (bytes : List ℕ) (r : Read (List ℕ)) → name_at bytes ≡ Ok r → NameAt bytes r
unfolding name_at
name_found bytes r e = elim (cases_Bool (name_len bytes == 0)) [
  | inl t ↦ no_err (length bytes) r (name_at bytes) (rw t) e
  | inr t ↦ subst (NameAt bytes) (same_ok _ r (name_at bytes) (rw t) e) (name_there bytes t)
]

lean_front : (bytes : List ℕ) → get_or (take (number_len bytes) bytes) 0 0 ≡ 48 → length (take (number_len bytes) bytes) ≡ 1
lean_front [] e = absurd (omega arith)
lean_front (b ∷ bytes) e = elim (cases_Bool (b == 48)) [
  | inl t ↦ ap (λ n. length (take n (b ∷ bytes))) (zero_first t)
  | inr t ↦ absurd (other t (prefix_len is_ascii_digit (b ∷ bytes)) (ap (λ n. get_or (take n (b ∷ bytes)) 0 0) (sym (run t)) ∙ e))
]
  where
    zero_first : (b == 48) ≡ true → number_len (b ∷ bytes) ≡ 1
    zero_first t = rw t

    run : (b == 48) ≡ false → number_len (b ∷ bytes) ≡ prefix_len is_ascii_digit (b ∷ bytes)
    run t = rw t

    other : (b == 48) ≡ false → (n : ℕ) → get_or (take n (b ∷ bytes)) 0 0 ≡ 48 → ⊥
    other t zero e = omega arith
    other t (suc n) e = grind (arith, nat_tests)

prefix_inside : (bytes : List ℕ) → prefix_len is_ascii_digit bytes ≤ length bytes
prefix_inside [] = omega arith
prefix_inside (b ∷ bytes) = elim (cases_Bool (is_ascii_digit b)) [
  | inl e ↦ omega (arith, more e, prefix_inside bytes)
  | inr e ↦ omega (arith, none e)
]
  where
    more : is_ascii_digit b ≡ true → prefix_len is_ascii_digit (b ∷ bytes) ≡ 1 + prefix_len is_ascii_digit bytes
    more e = rw e

    none : is_ascii_digit b ≡ false → prefix_len is_ascii_digit (b ∷ bytes) ≡ 0
    none e = rw e

pub number_inside : (bytes : List ℕ) → number_len bytes ≤ length bytes
number_inside [] = omega arith
number_inside (b ∷ bytes) = elim (cases_Bool (b == 48)) [
  | inl e ↦ omega (arith, zero_first e)
  | inr e ↦ omega (arith, run e, prefix_inside (b ∷ bytes))
]
  where
    zero_first : (b == 48) ≡ true → number_len (b ∷ bytes) ≡ 1
    zero_first t = rw t

    run : (b == 48) ≡ false → number_len (b ∷ bytes) ≡ prefix_len is_ascii_digit (b ∷ bytes)
    run t = rw t

pub natural_front : (bytes : List ℕ) → 0 < length (take (number_len bytes) bytes) → IsNatural (take (number_len bytes) bytes) (magnitude_at bytes)
natural_front bytes some = record { digits = (some, front_digits bytes); lean = lean_front bytes; value = refl }

pub record NumberAt (bytes : List ℕ) (r : Read ℤ) : Type 0 where
  pub number : List ℕ
  pub is_number : IsNumber number r.it
  pub fits : FitsSigned w32 r.it
  pub whole : bytes ≡ number ++ r.rest

fits_pos : (n : ℕ) → n ≤ 2147483647 → FitsSigned w32 (pos n)
fits_pos n h = record { sfits = omega arith }

fits_neg : (n : ℕ) → n ≤ 2147483648 → FitsSigned w32 (neg_ℤ (pos n))
fits_neg zero h = record { sfits = omega arith }
fits_neg (suc n) h = record { sfits = omega arith }

pub neg_number : (n : ℕ) (digits : List ℕ) → (n == 0) ≡ false → IsNatural digits n → IsNumber (45 ∷ digits) (neg_ℤ (pos n))
neg_number zero digits some natural = cc
neg_number (suc n) digits some natural = (digits, refl, subst (IsNatural digits) (omega arith) natural)

pub front_is : (b : ℕ) (bytes : List ℕ) → begins_with b bytes ≡ true → bytes ≡ b ∷ drop 1 bytes
front_is b [] e = cc
front_is b (c ∷ bytes) e = ap (λ z. z ∷ bytes) (eqb-true c b (second _ _ e))
  where
    second : (s t : Bool) → (s && t) ≡ true → t ≡ true
    second true t h = h
    second false t h = cc

positive_found : (bytes : List ℕ) (r : Read ℤ) → positive_at bytes ≡ Ok r → NumberAt bytes r
unfolding positive_at
positive_found bytes r e = elim (cases_Bool (number_len bytes == 0)) [
  | inl t ↦ no_err (length bytes) r (positive_at bytes) (rw t) e
  | inr t ↦ elim (cases_Bool (nat_le (magnitude_at bytes) 2147483647)) [
    | inr u ↦ no_err (length bytes) r (positive_at bytes) (rw (t, u)) e
    | inl u ↦ subst (NumberAt bytes) (same_ok _ r (positive_at bytes) (rw (t, u)) e) (there t (leb-true _ _ u))
  ]
]
  where
    there : (number_len bytes == 0) ≡ false → magnitude_at bytes ≤ 2147483647 → NumberAt bytes (record { it = pos (magnitude_at bytes); rest = drop (number_len bytes) bytes })
    there t small = record {
      number = take (number_len bytes) bytes;
      is_number = natural_front bytes (long t);
      fits = fits_pos (magnitude_at bytes) small;
      whole = sym (take-append-drop (number_len bytes) bytes);
    }
      where
        long : (number_len bytes == 0) ≡ false → 0 < length (take (number_len bytes) bytes)
        long t = let n : 0 < number_len bytes = grind (arith, nat_tests) in omega (arith, n, length-take-le (number_len bytes) bytes (number_inside bytes))

-- some digits spell a number other than 0
pub some_digits : (bytes : List ℕ) → (magnitude_at bytes == 0) ≡ false → 0 < length (take (number_len bytes) bytes)
some_digits bytes t = by_front (take (number_len bytes) bytes) t
  where
    by_front : (ds : List ℕ) → (digits_value 10 ds == 0) ≡ false → 0 < length ds
    by_front [] e = cc
    by_front (d ∷ ds) e = omega arith

negative_found : (bytes : List ℕ) (r : Read ℤ) → negative_at bytes ≡ Ok r → NumberAt (45 ∷ bytes) r
unfolding negative_at
negative_found bytes r e = elim (cases_Bool (magnitude_at bytes == 0)) [
  | inl t ↦ no_err (length bytes) r (negative_at bytes) (rw t) e
  | inr t ↦ elim (cases_Bool (nat_le (magnitude_at bytes) 2147483648)) [
    | inr u ↦ no_err (suc (length bytes)) r (negative_at bytes) (rw (t, u)) e
    | inl u ↦ subst (NumberAt (45 ∷ bytes)) (same_ok _ r (negative_at bytes) (rw (t, u)) e) (there t (leb-true _ _ u))
  ]
]
  where
    there : (magnitude_at bytes == 0) ≡ false → magnitude_at bytes ≤ 2147483648 → NumberAt (45 ∷ bytes) (record { it = neg_ℤ (pos (magnitude_at bytes)); rest = drop (number_len bytes) bytes })
    there t small = record {
      number = 45 ∷ take (number_len bytes) bytes;
      is_number = neg_number (magnitude_at bytes) (take (number_len bytes) bytes) t (natural_front bytes (some_digits bytes t));
      fits = fits_neg (magnitude_at bytes) small;
      whole = ap (λ l. 45 ∷ l) (sym (take-append-drop (number_len bytes) bytes));
    }

pub number_found : (bytes : List ℕ) (r : Read ℤ) → number_at bytes ≡ Ok r → NumberAt bytes r
number_found bytes r e = elim (cases_Bool (begins_with 45 bytes)) [
  | inl t ↦ subst (λ l. NumberAt l r) (sym (front_is 45 bytes t)) (negative_found (drop 1 bytes) r (sym (minus t) ∙ e))
  | inr t ↦ positive_found bytes r (sym (plus t) ∙ e)
]
  where
    minus : begins_with 45 bytes ≡ true → number_at bytes ≡ negative_at (drop 1 bytes)
    minus t = rw t

    plus : begins_with 45 bytes ≡ false → number_at bytes ≡ positive_at bytes
    plus t = rw t

pub record Bound {A B : Type 0} (r : Result A ℕ) (f : A → Result B ℕ) (y : B) : Type 0 where
  pub first : A
  pub is : r ≡ Ok first
  pub then_is : f first ≡ Ok y

pub bind_ok : {A B : Type 0} (r : Result A ℕ) (f : A → Result B ℕ) (y : B) → (r >>= f) ≡ Ok y → Bound r f y
bind_ok (Ok x) f y e = record { first = x; is = refl; then_is = e }
bind_ok (Err left) f y e = cc

pub record SizesAt (bytes : List ℕ) (r : Read Sizes) : Type 0 where
  pub text : List ℕ
  pub are_sizes : AreSizes text r.it.size r.it.stored
  pub size_fits : FitsSigned w32 r.it.size
  pub stored_fits : FitsSigned w32 r.it.stored
  pub whole : bytes ≡ text ++ r.rest

stored_found : (size : ℤ) (a bytes : List ℕ) (r : Read Sizes) → IsNumber a size → FitsSigned w32 size → stored_at size bytes ≡ Ok r → SizesAt (58 ∷ (a ++ bytes)) r
stored_found size a bytes r number fits e = elim (cases_Bool (begins_with 58 bytes)) [
  | inl t ↦ two t (bind_ok (number_at (drop 1 bytes)) _ r (sym (there t) ∙ e))
  | inr t ↦ subst (SizesAt (58 ∷ (a ++ bytes))) (same_ok _ r (stored_at size bytes) (rw t) e)
      (record { text = 58 ∷ a; are_sizes = inr (inl (a, refl, number, refl)); size_fits = fits; stored_fits = fits; whole = refl })
]
  where
    there : begins_with 58 bytes ≡ true → stored_at size bytes ≡ (number_at (drop 1 bytes) >>= λ stored. Ok (record { it = record { size = size; stored = stored.it }; rest = stored.rest }))
    there t = rw t

    two : begins_with 58 bytes ≡ true → Bound (number_at (drop 1 bytes)) (λ stored. Ok (record { it = record { size = size; stored = stored.it }; rest = stored.rest })) r → SizesAt (58 ∷ (a ++ bytes)) r
    two t b =
        let n : NumberAt (drop 1 bytes) b.first = number_found (drop 1 bytes) b.first b.is in
        let all : bytes ≡ 58 ∷ (n.number ++ b.first.rest) = front_is 58 bytes t ∙ ap (λ l. 58 ∷ l) n.whole in
        subst (SizesAt (58 ∷ (a ++ bytes))) (same_ok _ r _ refl b.then_is) (record {
          text = 58 ∷ (a ++ 58 ∷ n.number);
          are_sizes = inr (inr (a, n.number, refl, number, n.is_number));
          size_fits = fits;
          stored_fits = n.fits;
          whole = ap (λ l. 58 ∷ (a ++ l)) all ∙ ap (λ l. 58 ∷ l) (sym (append_assoc a (58 ∷ n.number) b.first.rest));
        })

pub sizes_found : (bytes : List ℕ) (r : Read Sizes) → sizes_at bytes ≡ Ok r → SizesAt bytes r
sizes_found bytes r e = elim (cases_Bool (begins_with 58 bytes)) [
  | inl t ↦ some t (bind_ok (number_at (drop 1 bytes)) _ r (sym (there t) ∙ e))
  | inr t ↦ subst (SizesAt bytes) (same_ok _ r (sizes_at bytes) (rw t) e)
      (record { text = []; are_sizes = inl (refl, refl, refl); size_fits = fits_pos 1 (omega arith); stored_fits = fits_pos 1 (omega arith); whole = refl })
]
  where
    there : begins_with 58 bytes ≡ true → sizes_at bytes ≡ (number_at (drop 1 bytes) >>= λ size. stored_at size.it size.rest)
    there t = rw t

    some : begins_with 58 bytes ≡ true → Bound (number_at (drop 1 bytes)) (λ size. stored_at size.it size.rest) r → SizesAt bytes r
    some t b =
        let n : NumberAt (drop 1 bytes) b.first = number_found (drop 1 bytes) b.first b.is in
        let all : bytes ≡ 58 ∷ (n.number ++ b.first.rest) = front_is 58 bytes t ∙ ap (λ l. 58 ∷ l) n.whole in
        subst (λ l. SizesAt l r) (sym all) (stored_found b.first.it n.number b.first.rest r n.is_number n.fits b.then_is)

pub record ItemAt (bytes : List ℕ) (r : Read Dim) : Type 0 where
  pub text : List ℕ
  pub is_item : IsItem text r.it
  pub in_range : IsInRange r.it
  pub whole : bytes ≡ text ++ r.rest

pub item_found : (bytes : List ℕ) (r : Read Dim) → item_at bytes ≡ Ok r → ItemAt bytes r
unfolding item_at
item_found bytes r e =
    let a = bind_ok (name_at bytes) _ r e in
    let b = bind_ok (number_at a.first.rest) _ r a.then_is in
    let d = bind_ok (sizes_at b.first.rest) _ r b.then_is in
    let name : NameAt bytes a.first = name_found bytes a.first a.is in
    let start : NumberAt a.first.rest b.first = number_found a.first.rest b.first b.is in
    let sizes : SizesAt b.first.rest d.first = sizes_found b.first.rest d.first d.is in
    subst (ItemAt bytes) (same_ok _ r _ refl d.then_is) (record {
      text = name.name ++ (start.number ++ sizes.text);
      is_item = record {
        name = name.name;
        start = start.number;
        sizes = sizes.text;
        whole = refl;
        is_name = name.is_name;
        is_start = start.is_number;
        are_sizes = sizes.are_sizes;
        padded = name.padded;
        coord = refl;
      };
      in_range = record { start = start.fits; size = sizes.size_fits; stored = sizes.stored_fits };
      whole = name.whole ∙ (ap (λ l. name.name ++ l) (start.whole ∙ (ap (λ l. start.number ++ l) sizes.whole ∙ sym (append_assoc start.number sizes.text d.first.rest)))
          ∙ sym (append_assoc name.name (start.number ++ sizes.text) d.first.rest));
    })

record ItemsAt (n : ℕ) (bytes : List ℕ) (ds : List Dim) : Type 0 where
  items : AreItems bytes ds
  few : length ds ≤ n
  fits : AllByRecursion IsInRange ds

front_item : (n : ℕ) (bytes rest : List ℕ) (d : Dim) (text : List ℕ) (more : List Dim) → bytes ≡ text ++ 44 ∷ rest → IsItem text d → IsInRange d → ItemsAt n rest more → ItemsAt (suc n) bytes (d ∷ more)
front_item n bytes rest d text [] whole is_item range r = absurd r.items
front_item n bytes rest d text (e ∷ more) whole is_item range r = record { items = (text, rest, whole, is_item, r.items); few = omega (arith, r.few); fits = (range, r.fits) }

pub items_step : (n : ℕ) (bytes : List ℕ) → items_at (suc n) bytes ≡ (item_at bytes >>= λ item. behind (items_at n) item.it item.rest)
unfolding items_at
items_step n bytes = refl

pub no_items : (bytes : List ℕ) → items_at 0 bytes ≡ Err (suc (length bytes))
unfolding items_at
no_items bytes = refl

no_bytes : (bytes : List ℕ) → (length bytes == 0) ≡ true → bytes ≡ []
no_bytes [] e = refl
no_bytes (b ∷ bytes) e = absurd (let none : length (b ∷ bytes) ≡ 0 = eqb-true _ _ e in omega arith)

one_more : (n : ℕ) (bytes : List ℕ) (ds : List Dim) → ((rest : List ℕ) (more : List Dim) → items_at n rest ≡ Ok more → ItemsAt n rest more)
    → Bound (item_at bytes) (λ item. behind (items_at n) item.it item.rest) ds → ItemsAt (suc n) bytes ds
one_more n bytes ds read b = let i : ItemAt bytes b.first = item_found bytes b.first b.is in elim (cases_Bool (length b.first.rest == 0)) [
  | inl t ↦ subst (ItemsAt (suc n) bytes) (same_ok _ ds (behind (items_at n) b.first.it b.first.rest) (rw t) b.then_is) (last i (no_bytes b.first.rest t))
  | inr t ↦ elim (cases_Bool (begins_with 44 b.first.rest)) [
    | inl u ↦ comma i u (bind_ok (items_at n (drop 1 b.first.rest)) _ ds (sym (goes t u) ∙ b.then_is))
    | inr u ↦ no_err (length b.first.rest) ds (behind (items_at n) b.first.it b.first.rest) (ends t u) b.then_is
  ]
]
  where
    last : ItemAt bytes b.first → b.first.rest ≡ [] → ItemsAt (suc n) bytes (b.first.it ∷ [])
    last i none = record {
      items = subst (λ l. IsItem l b.first.it) (sym (i.whole ∙ (ap (λ l. i.text ++ l) none ∙ append-nil i.text))) i.is_item;
      few = omega arith;
      fits = (i.in_range, tt);
    }

    goes : (length b.first.rest == 0) ≡ false → begins_with 44 b.first.rest ≡ true
        → behind (items_at n) b.first.it b.first.rest ≡ (items_at n (drop 1 b.first.rest) >>= λ more. Ok (b.first.it ∷ more))
    goes t u = rw t (rw (rw t at u))

    ends : (length b.first.rest == 0) ≡ false → begins_with 44 b.first.rest ≡ false → behind (items_at n) b.first.it b.first.rest ≡ Err (length b.first.rest)
    ends t u = rw t (rw (rw t at u))

    comma : ItemAt bytes b.first → begins_with 44 b.first.rest ≡ true → Bound (items_at n (drop 1 b.first.rest)) (λ more. Ok (b.first.it ∷ more)) ds → ItemsAt (suc n) bytes ds
    comma i u m = subst (ItemsAt (suc n) bytes) (same_ok _ ds _ refl m.then_is)
        (front_item n bytes (drop 1 b.first.rest) b.first.it i.text m.first (i.whole ∙ ap (λ l. i.text ++ l) (front_is 44 b.first.rest u)) i.is_item i.in_range
        (read (drop 1 b.first.rest) m.first m.is))

items_found : (n : ℕ) (bytes : List ℕ) (ds : List Dim) → items_at n bytes ≡ Ok ds → ItemsAt n bytes ds
items_found zero bytes ds e = no_err (suc (length bytes)) ds (items_at 0 bytes) (no_items bytes) e
items_found (suc n) bytes ds e = one_more n bytes ds (items_found n) (bind_ok (item_at bytes) _ ds (sym (items_step n bytes) ∙ e))

-- what is read is a dimension text of it
pub found : (bytes : List ℕ) (ds : List Dim) → items_at 40 bytes ≡ Ok ds → IsDimText bytes ds
found bytes ds e = let r : ItemsAt 40 bytes ds = items_found 40 bytes ds e in record { items = r.items; few = r.few; fits = r.fits }
