-- No number out of range begins inside what was read, or before the place where a reading fails.
use Rattle.std.proofs.Common.{◌≡◌, ℕ, zero, suc, ◌+◌, ◌*◌, ◌-◌, ◌<◌, ◌≤◌, ℤ, pos, negsuc, List, [], ◌∷◌, ◌++◌, take, drop, length, get_or, Bool, true, false, ◌==◌, nat_le, Result, Ok, Err, refl, ap, sym, ◌∙◌, subst, arith, inl, inr, w32, append_assoc, length-append}
use Rattle.std.specs.Prelude.{◌⊎◌, IsTrue, FitsSigned, if◌then◌else◌, ⊤}
use Rattle.std.specs.List.{prefix_len, AllByRecursion}
use Rattle.std.specs.Char.{is_ascii_digit, digit_value}
use Rattle.std.specs.Str.Parse.{AllDigits, digits_value, digits_value_after}
use Rattle.std.proofs.lemmas.Bool.{cases_Bool, eqb-true, leb-true}
use Rattle.std.proofs.lemmas.Bool.Decides.{nat_tests}
use Rattle.std.proofs.lemmas.List.{take-append-drop}
use Rattle.std.proofs.lemmas.Str.Parse.{digit_from_value}
use Rattle.czi_doc.specs.DimText.{IsNatural, IsNumber, IsOutOfRange, is_letter}
use Rattle.czi_format.specs.FirstFault.{◌>>=◌}
use Rattle.czi_format.specs.Entry.{Dim}
use Rattle.czi_doc.specs.Reading.{Read, name_len, name_at, number_len, magnitude_at, negative_at, positive_at, begins_with, number_at, stored_at, sizes_at, item_at, behind, items_at}
use Rattle.czi_doc.proofs.Prefixes.{value_grows, front_digits}
use Rattle.czi_doc.proofs.Spelled.{letters_at, front_is, items_step, no_items}

-- the bytes behind which a number begins
abbrev IsStarter : ℕ → Type 0
IsStarter c = IsTrue (is_letter c) ⊎ (c ≡ 58)

-- behind the byte c no number out of range begins
record Fits (c : ℕ) (bytes : List ℕ) : Type 0 where
  all : IsStarter c → (size : ℕ) (value : ℤ) → IsNumber (take size bytes) value → FitsSigned w32 value

-- nor at any byte of a front that stands behind c
abbrev Safe : ℕ → List ℕ → List ℕ → Type 0
Safe c [] rest = ⊤
Safe c (b ∷ front) rest = Fits c (b ∷ (front ++ rest)) × Safe b front rest

-- the rest stands behind such a front, whatever stands before it
record Clear (bytes rest : List ℕ) : Type 0 where
  front : List ℕ
  whole : bytes ≡ front ++ rest
  safe : (c : ℕ) → Safe c front rest

record Stops (bytes : List ℕ) (left : ℕ) : Type 0 where
  more : List ℕ
  long : length more ≡ left
  clear : Clear bytes more

abbrev Done : {X : Type 0} → List ℕ → Result (Read X) ℕ → Type 0
Done bytes (Ok r) = Clear bytes r.rest
Done bytes (Err left) = Stops bytes left

safe_append : (c : ℕ) (a b rest : List ℕ) → Safe c a (b ++ rest) → ((d : ℕ) → Safe d b rest) → Safe c (a ++ b) rest
safe_append c [] b rest f g = g c
safe_append c (x ∷ a) b rest f g = (subst (λ l. Fits c (x ∷ l)) (sym (append_assoc a b rest)) f.0, safe_append x a b rest f.1 g)

clear_then : (x y z : List ℕ) → Clear x y → Clear y z → Clear x z
clear_then x y z p q = record {
  front = p.front ++ q.front;
  whole = p.whole ∙ (ap (λ l. p.front ++ l) q.whole ∙ sym (append_assoc p.front q.front z));
  safe = λ c. safe_append c p.front q.front z (subst (λ l. Safe c p.front l) q.whole (p.safe c)) q.safe;
}

no_step : (bytes : List ℕ) → Clear bytes bytes
no_step bytes = record { front = []; whole = refl; safe = λ c. tt }

stop_here : (bytes : List ℕ) → Stops bytes (length bytes)
stop_here bytes = record { more = bytes; long = refl; clear = no_step bytes }

stops_then : (x y : List ℕ) (left : ℕ) → Clear x y → Stops y left → Stops x left
stops_then x y left p s = record { more = s.more; long = s.long; clear = clear_then x y s.more p s.clear }

done_then : {X : Type 0} (x y : List ℕ) (r : Result (Read X) ℕ) → Clear x y → Done y r → Done x r
done_then x y (Ok r) p d = clear_then x y r.rest p d
done_then x y (Err left) p d = stops_then x y left p d

done_bind : {X Y : Type 0} (bytes : List ℕ) (r : Result (Read X) ℕ) (f : Read X → Result (Read Y) ℕ) → Done bytes r → ((x : Read X) → Done x.rest (f x)) → Done bytes (r >>= f)
done_bind bytes (Ok x) f d g = done_then bytes x.rest (f x) d (g x)
done_bind bytes (Err left) f d g = d

if_done : {X : Type 0} (bytes : List ℕ) (b : Bool) (x y : Result (Read X) ℕ) → (b ≡ true → Done bytes x) → (b ≡ false → Done bytes y) → Done bytes (if b then x else y)
if_done bytes true x y f g = f refl
if_done bytes false x y f g = g refl

digit_first : (b : ℕ) (bytes : List ℕ) (size n : ℕ) → IsNatural (take size (b ∷ bytes)) n → digit_value b < 10
digit_first b bytes zero n h = absurd (let some = h.digits.0 in omega arith)
digit_first b bytes (suc size) n h = h.digits.1.0

minus_first : (b : ℕ) (bytes : List ℕ) (size : ℕ) (digits : List ℕ) → take size (b ∷ bytes) ≡ 45 ∷ digits → b ≡ 45
minus_first b bytes zero digits e = cc
minus_first b bytes (suc size) digits e = cc

-- the bytes at which no number begins
record IsNoStart (b : ℕ) : Type 0 where
  no_minus : b ≡ 45 → ⊥
  no_digit : digit_value b < 10 → ⊥

no_number : (c b : ℕ) (bytes : List ℕ) → IsNoStart b → Fits c (b ∷ bytes)
no_number c b bytes bare = record { all = λ s. none }
  where
    none : (size : ℕ) (value : ℤ) → IsNumber (take size (b ∷ bytes)) value → FitsSigned w32 value
    none size (pos n) h = absurd (bare.no_digit (digit_first b bytes size n h))
    none size (negsuc n) h = absurd (bare.no_minus (minus_first b bytes size h.0 h.1))

byte_clear : (b : ℕ) (bytes : List ℕ) → IsNoStart b → Clear (b ∷ bytes) bytes
byte_clear b bytes bare = record { front = b ∷ []; whole = refl; safe = λ c. (no_number c b bytes bare, tt) }

letter_no_start : (b : ℕ) → IsTrue (is_letter b) → IsNoStart b
letter_no_start b h = record { no_minus = λ e. grind (arith, nat_tests); no_digit = λ e. let r = digit_from_value b e in grind (arith, nat_tests, r.0, r.1) }

no_start : (b : ℕ) → b ≡ 44 ⊎ b ≡ 58 → IsNoStart b
no_start b h = record { no_minus = λ e. omega (arith, h); no_digit = λ e. let r = digit_from_value b e in omega (arith, h, r.0, r.1) }

safe_letters : (c : ℕ) (name rest : List ℕ) → AllByRecursion (λ b. IsTrue (is_letter b)) name → Safe c name rest
safe_letters c [] rest h = tt
safe_letters c (b ∷ name) rest h = (no_number c b (name ++ rest) (letter_no_start b h.0), safe_letters b name rest h.1)

no_starter : (d : ℕ) → d ≤ 57 → IsStarter d → ⊥
no_starter d small (inl h) = grind (arith, nat_tests)
no_starter d small (inr h) = omega arith

digit_most : (d : ℕ) → digit_value d < 10 → d ≤ 57
digit_most d h = (digit_from_value d h).1

safe_digits : (c : ℕ) (ds rest : List ℕ) → c ≤ 57 → AllDigits 10 ds → Safe c ds rest
safe_digits c [] rest small h = tt
safe_digits c (d ∷ ds) rest small h = (record { all = λ s size value is. absurd (no_starter c small s) }, safe_digits d ds rest (digit_most d h.0) h.1)

safe_number : (c : ℕ) (ds rest : List ℕ) → AllDigits 10 ds → Fits c (ds ++ rest) → Safe c ds rest
safe_number c [] rest h fits = tt
safe_number c (d ∷ ds) rest h fits = (fits, safe_digits d ds rest (digit_most d h.0) h.1)

digit_test : (b : ℕ) → digit_value b < 10 → is_ascii_digit b ≡ true
digit_test b h = let r = digit_from_value b h in grind (arith, nat_tests, r.0, r.1)

-- the digits at the front make the greatest number that begins there
run_most : (v size : ℕ) (bytes : List ℕ) → AllDigits 10 (take size bytes) → digits_value_after 10 v (take size bytes) ≤ digits_value_after 10 v (take (prefix_len is_ascii_digit bytes) bytes)
run_most v zero bytes h = value_grows v (take (prefix_len is_ascii_digit bytes) bytes)
run_most v (suc size) [] h = omega arith
run_most v (suc size) (b ∷ bytes) h =
    let one : 1 + prefix_len is_ascii_digit bytes ≡ suc (prefix_len is_ascii_digit bytes) = omega arith in
    subst (λ n. digits_value_after 10 v (take (suc size) (b ∷ bytes)) ≤ digits_value_after 10 v (take n (b ∷ bytes))) (sym (more (digit_test b h.0) ∙ one))
    (run_most (v * 10 + digit_value b) size bytes h.1)
  where
    more : is_ascii_digit b ≡ true → prefix_len is_ascii_digit (b ∷ bytes) ≡ 1 + prefix_len is_ascii_digit bytes
    more e = rw e

lone : (b : ℕ) (l : List ℕ) → length (b ∷ l) ≡ 1 → digits_value 10 (b ∷ l) ≡ digits_value 10 (b ∷ [])
lone b [] e = refl
lone b (c ∷ l) e = absurd (omega arith)

natural_most : (size n : ℕ) (bytes : List ℕ) → IsNatural (take size bytes) n → n ≤ magnitude_at bytes
natural_most zero n bytes h = absurd (let some = h.digits.0 in omega arith)
natural_most (suc size) n [] h = absurd (let some = h.digits.0 in omega arith)
natural_most (suc size) n (b ∷ bytes) h = elim (cases_Bool (b == 48)) [
  | inl t ↦ let all : magnitude_at (b ∷ bytes) ≡ digits_value 10 (b ∷ []) = ap (λ k. digits_value 10 (take k (b ∷ bytes))) (zero_first t) in
      let same : digits_value 10 (b ∷ take size bytes) ≡ digits_value 10 (b ∷ []) = lone b (take size bytes) (h.lean (eqb-true _ _ t)) in
      subst (λ m. n ≤ m) (sym (h.value) ∙ (same ∙ sym all)) (omega arith)
  | inr t ↦ let all : magnitude_at (b ∷ bytes) ≡ digits_value 10 (take (prefix_len is_ascii_digit (b ∷ bytes)) (b ∷ bytes)) = ap (λ k. digits_value 10 (take k (b ∷ bytes))) (run t) in
      subst (λ m. m ≤ magnitude_at (b ∷ bytes)) h.value (subst (λ m. digits_value 10 (take (suc size) (b ∷ bytes)) ≤ m) (sym all) (run_most 0 (suc size) (b ∷ bytes) h.digits.1))
]
  where
    zero_first : (b == 48) ≡ true → number_len (b ∷ bytes) ≡ 1
    zero_first t = rw t

    run : (b == 48) ≡ false → number_len (b ∷ bytes) ≡ prefix_len is_ascii_digit (b ∷ bytes)
    run t = rw t

fits_below : (n : ℕ) → n ≤ 2147483647 → FitsSigned w32 (pos n)
fits_below n h = record { sfits = omega arith }

fits_above : (n : ℕ) → 1 + n ≤ 2147483648 → FitsSigned w32 (negsuc n)
fits_above n h = record { sfits = omega arith }

no_minus_first : (bytes : List ℕ) (size : ℕ) (digits : List ℕ) → begins_with 45 bytes ≡ false → take size bytes ≡ 45 ∷ digits → ⊥
no_minus_first [] zero digits t e = cc
no_minus_first [] (suc size) digits t e = cc
no_minus_first (b ∷ bytes) size digits t e = let is : b ≡ 45 = minus_first b bytes size digits e in grind (arith, nat_tests)

plus_fits : (c : ℕ) (bytes : List ℕ) → begins_with 45 bytes ≡ false → magnitude_at bytes ≤ 2147483647 → Fits c bytes
plus_fits c bytes t small = record { all = λ s. some }
  where
    some : (size : ℕ) (value : ℤ) → IsNumber (take size bytes) value → FitsSigned w32 value
    some size (pos n) h = fits_below n (let most : n ≤ magnitude_at bytes = natural_most size n bytes h in omega (arith, most, small))
    some size (negsuc n) h = absurd (no_minus_first bytes size h.0 t h.1)

minus_fits : (c : ℕ) (bytes : List ℕ) → magnitude_at bytes ≤ 2147483648 → Fits c (45 ∷ bytes)
minus_fits c bytes small = record { all = λ s. some }
  where
    no_digit : digit_value 45 < 10 → ⊥
    no_digit h = omega (arith, digit_from_value 45 h)

    behind_it : (size : ℕ) (digits : List ℕ) → take size (45 ∷ bytes) ≡ 45 ∷ digits → (n : ℕ) → IsNatural digits n → n ≤ magnitude_at bytes
    behind_it zero digits e n h = cc
    behind_it (suc size) digits e n h = let same : digits ≡ take size bytes = cc in natural_most size n bytes (subst (λ l. IsNatural l n) same h)

    some : (size : ℕ) (value : ℤ) → IsNumber (take size (45 ∷ bytes)) value → FitsSigned w32 value
    some size (pos n) h = absurd (no_digit (digit_first 45 bytes size n h))
    some size (negsuc n) h = fits_above n (let most : 1 + n ≤ magnitude_at bytes = behind_it size h.0 h.1 (1 + n) h.2 in omega (arith, most, small))

positive_done : (bytes : List ℕ) → begins_with 45 bytes ≡ false → Done bytes (positive_at bytes)
unfolding positive_at
positive_done bytes t = if_done bytes (number_len bytes == 0) _ _ (λ e. stop_here bytes) (λ e. if_done bytes (nat_le (magnitude_at bytes) 2147483647) _ _ (λ u. there (leb-true _ _ u)) (λ u. stop_here bytes))
  where
    there : magnitude_at bytes ≤ 2147483647 → Clear bytes (drop (number_len bytes) bytes)
    there small = let whole : take (number_len bytes) bytes ++ drop (number_len bytes) bytes ≡ bytes = take-append-drop (number_len bytes) bytes in record {
      front = take (number_len bytes) bytes;
      whole = sym whole;
      safe = λ c. safe_number c (take (number_len bytes) bytes) (drop (number_len bytes) bytes) (front_digits bytes) (subst (Fits c) (sym whole) (plus_fits c bytes t small));
    }

negative_done : (bytes : List ℕ) → Done (45 ∷ bytes) (negative_at bytes)
unfolding negative_at
negative_done bytes = if_done (45 ∷ bytes) (magnitude_at bytes == 0) _ _ (λ e. sign (eqb-true _ _ e))
    (λ e. if_done (45 ∷ bytes) (nat_le (magnitude_at bytes) 2147483648) _ _ (λ u. there (leb-true _ _ u)) (λ u. stop_here (45 ∷ bytes)))
  where
    sign : magnitude_at bytes ≡ 0 → Stops (45 ∷ bytes) (length bytes)
    sign e = record { more = bytes; long = refl; clear = record { front = 45 ∷ []; whole = refl; safe = λ c. (minus_fits c bytes (omega (arith, e)), tt) } }

    there : magnitude_at bytes ≤ 2147483648 → Clear (45 ∷ bytes) (drop (number_len bytes) bytes)
    there small = let whole : take (number_len bytes) bytes ++ drop (number_len bytes) bytes ≡ bytes = take-append-drop (number_len bytes) bytes in record {
      front = 45 ∷ take (number_len bytes) bytes;
      whole = ap (λ l. 45 ∷ l) (sym whole);
      safe = λ c. (subst (λ l. Fits c (45 ∷ l)) (sym whole) (minus_fits c bytes small), safe_digits 45 (take (number_len bytes) bytes) (drop (number_len bytes) bytes) (omega arith) (front_digits bytes));
    }

number_done : (bytes : List ℕ) → Done bytes (number_at bytes)
number_done bytes = if_done bytes (begins_with 45 bytes) _ _ (λ t. subst (λ l. Done l (negative_at (drop 1 bytes))) (sym (front_is 45 bytes t)) (negative_done (drop 1 bytes))) (λ t. positive_done bytes t)

name_done : (bytes : List ℕ) → Done bytes (name_at bytes)
unfolding name_at
name_done bytes = if_done bytes (name_len bytes == 0) _ _ (λ e. stop_here bytes) (λ e. record {
  front = take (name_len bytes) bytes;
  whole = sym (take-append-drop (name_len bytes) bytes);
  safe = λ c. safe_letters c (take (name_len bytes) bytes) (drop (name_len bytes) bytes) (letters_at 4 bytes).letters;
})

colon : (bytes : List ℕ) → begins_with 58 bytes ≡ true → Clear bytes (drop 1 bytes)
colon bytes t = subst (λ l. Clear l (drop 1 bytes)) (sym (front_is 58 bytes t)) (byte_clear 58 (drop 1 bytes) (no_start 58 (inr refl)))

stored_done : (size : ℤ) (bytes : List ℕ) → Done bytes (stored_at size bytes)
stored_done size bytes = if_done bytes (begins_with 58 bytes) _ _
    (λ t. done_then bytes (drop 1 bytes) _ (colon bytes t) (done_bind (drop 1 bytes) (number_at (drop 1 bytes)) _ (number_done (drop 1 bytes)) (λ x. no_step x.rest)))
    (λ t. no_step bytes)

sizes_done : (bytes : List ℕ) → Done bytes (sizes_at bytes)
sizes_done bytes = if_done bytes (begins_with 58 bytes) _ _
    (λ t. done_then bytes (drop 1 bytes) _ (colon bytes t) (done_bind (drop 1 bytes) (number_at (drop 1 bytes)) _ (number_done (drop 1 bytes)) (λ x. stored_done x.it x.rest)))
    (λ t. no_step bytes)

item_done : (bytes : List ℕ) → Done bytes (item_at bytes)
unfolding item_at
item_done bytes = done_bind bytes (name_at bytes) _ (name_done bytes)
    (λ name. done_bind name.rest (number_at name.rest) _ (number_done name.rest)
    (λ start. done_bind start.rest (sizes_at start.rest) _ (sizes_done start.rest) (λ sizes. no_step sizes.rest)))

abbrev Ends : List ℕ → Result (List Dim) ℕ → Type 0
Ends bytes (Ok ds) = ⊤
Ends bytes (Err left) = Stops bytes left

ends_then : (x y : List ℕ) (r : Result (List Dim) ℕ) → Clear x y → Ends y r → Ends x r
ends_then x y (Ok ds) p s = tt
ends_then x y (Err left) p s = stops_then x y left p s

ends_bind : (bytes : List ℕ) (r : Result (Read Dim) ℕ) (f : Read Dim → Result (List Dim) ℕ) → Done bytes r → ((x : Read Dim) → Ends x.rest (f x)) → Ends bytes (r >>= f)
ends_bind bytes (Ok x) f d g = ends_then bytes x.rest (f x) d (g x)
ends_bind bytes (Err left) f d g = d

ends_more : (bytes : List ℕ) (d : Dim) (r : Result (List Dim) ℕ) → Ends bytes r → Ends bytes (r >>= λ ds. Ok (d ∷ ds))
ends_more bytes d (Ok ds) h = tt
ends_more bytes d (Err left) h = h

if_ends : (bytes : List ℕ) (b : Bool) (x y : Result (List Dim) ℕ) → (b ≡ true → Ends bytes x) → (b ≡ false → Ends bytes y) → Ends bytes (if b then x else y)
if_ends bytes true x y f g = f refl
if_ends bytes false x y f g = g refl

behind_ends : (more : List ℕ → Result (List Dim) ℕ) → ((rest : List ℕ) → Ends (44 ∷ rest) (more rest)) → (d : Dim) (bytes : List ℕ) → Ends bytes (behind more d bytes)
behind_ends more read d bytes = if_ends bytes (length bytes == 0) _ _ (λ t. tt) (λ t. if_ends bytes (begins_with 44 bytes) _ _
    (λ u. ends_more bytes d (more (drop 1 bytes)) (subst (λ l. Ends l (more (drop 1 bytes))) (sym (front_is 44 bytes u)) (read (drop 1 bytes))))
    (λ u. stop_here bytes))

after_comma : (n : ℕ) (bytes : List ℕ) → Ends (44 ∷ bytes) (items_at n bytes)
after_comma zero bytes = subst (Ends (44 ∷ bytes)) (sym (no_items bytes)) (stop_here (44 ∷ bytes))
after_comma (suc n) bytes = ends_then (44 ∷ bytes) bytes (items_at (suc n) bytes) (byte_clear 44 bytes (no_start 44 (inl refl)))
    (subst (Ends bytes) (sym (items_step n bytes)) (ends_bind bytes (item_at bytes) _ (item_done bytes) (λ x. behind_ends (items_at n) (after_comma n) x.it x.rest)))

items_end : (n : ℕ) (bytes : List ℕ) → Ends bytes (items_at (suc n) bytes)
items_end n bytes = subst (Ends bytes) (sym (items_step n bytes)) (ends_bind bytes (item_at bytes) _ (item_done bytes) (λ x. behind_ends (items_at n) (after_comma n) x.it x.rest))

safe_at : (c : ℕ) (front rest : List ℕ) (q : ℕ) → Safe c front rest → q < length front → (size : ℕ) (value : ℤ) → IsStarter (get_or (c ∷ (front ++ rest)) q 0)
    → IsNumber (take size (drop q (front ++ rest))) value → FitsSigned w32 value
safe_at c [] rest q s inside size value starter is = absurd (omega arith)
safe_at c (b ∷ front) rest zero s inside size value starter is = s.0.all starter size value is
safe_at c (b ∷ front) rest (suc q) s inside size value starter is = safe_at b front rest q s.1 (omega arith) size value starter is

none_in : (bytes rest : List ℕ) → Clear bytes rest → (q : ℕ) → q < length bytes - length rest → IsOutOfRange bytes q → ⊥
none_in bytes rest clear zero inside o = let some : 0 < 0 = o.some in omega arith
none_in bytes rest clear (suc q) inside o =
    let less : suc q - 1 ≡ q = omega arith in
    let long : length bytes ≡ length clear.front + length rest = ap length clear.whole ∙ length-append clear.front rest in
    o.range (safe_at 0 clear.front rest (suc q) (clear.safe 0) (omega (arith, inside, long)) o.size o.value
    (subst (λ l. IsStarter (get_or l q 0)) clear.whole (subst (λ k. IsStarter (get_or bytes k 0)) less o.behind))
    (subst (λ l. IsNumber (take o.size (drop (suc q) l)) o.value) clear.whole o.number))

-- No number out of range begins inside an item that was read.
pub none_in_item : (bytes : List ℕ) (r : Read Dim) → item_at bytes ≡ Ok r → (q : ℕ) → q < length bytes - length r.rest → IsOutOfRange bytes q → ⊥
none_in_item bytes r e q inside o = none_in bytes r.rest (subst (Done bytes) e (item_done bytes)) q inside o

-- Where the reading fails, no number out of range begins at an earlier place.
pub first : (n left : ℕ) (bytes : List ℕ) → items_at (suc n) bytes ≡ Err left → (q : ℕ) → q < length bytes - left → IsOutOfRange bytes q → ⊥
first n left bytes e q inside o =
    let s : Stops bytes left = subst (Ends bytes) e (items_end n bytes) in
    none_in bytes s.more s.clear q (omega (arith, inside, s.long)) o
