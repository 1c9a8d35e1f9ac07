-- How long the front of a list is, step by step.
use Rattle.std.proofs.Common.{◌≡◌, ℕ, suc, ◌+◌, ◌*◌, ◌-◌, ◌<◌, ◌≤◌, List, [], ◌∷◌, take, drop, length, get_or, add-one, Bool, true, false, ◌==◌, ap, sym, ◌∙◌, arith, subst, inl, inr, lit<}
use Rattle.std.proofs.Math.Seq.{drop-cons}
use Rattle.std.proofs.lemmas.List.{drop_all}
use Rattle.std.proofs.lemmas.Bool.{cases_Bool, eqb-true}
use Rattle.std.proofs.lemmas.Bool.Decides.{nat_tests}
use Rattle.std.proofs.lemmas.Str.Parse.{digit_from_value}
use Rattle.czi_doc.specs.Reading.{number_len}
use Rattle.std.specs.List.{prefix_len}
use Rattle.std.specs.Char.{digit_value, is_ascii_digit}
use Rattle.std.specs.Str.Parse.{AllDigits, digits_value, digits_value_after}

here : {X : Type 0} (xs : List X) (i : ℕ) (d : X) → i < length xs → drop i xs ≡ get_or xs i d ∷ drop (i + 1) xs
here xs i d inside = rw (add-one, drop-cons xs i d)

pub stops : {X : Type 0} (p : X → Bool) (xs : List X) (i : ℕ) (d : X) → i < length xs → p (get_or xs i d) ≡ false
    → prefix_len p xs ≡ i + prefix_len p (drop i xs) → i ≡ prefix_len p xs
stops p xs i d inside test is =
    let none : prefix_len p (drop i xs) ≡ 0 = ap (prefix_len p) (here xs i d inside) ∙ at_front test in
    omega (arith, is, none)
  where
    at_front : p (get_or xs i d) ≡ false → prefix_len p (get_or xs i d ∷ drop (i + 1) xs) ≡ 0
    at_front e = rw e

pub goes_on : {X : Type 0} (p : X → Bool) (xs : List X) (i : ℕ) (d : X) → i < length xs → p (get_or xs i d) ≡ true
    → prefix_len p xs ≡ i + prefix_len p (drop i xs) → prefix_len p xs ≡ (i + 1) + prefix_len p (drop (i + 1) xs)
goes_on p xs i d inside test is =
    let one : prefix_len p (drop i xs) ≡ 1 + prefix_len p (drop (i + 1) xs) = ap (prefix_len p) (here xs i d inside) ∙ at_front test in
    omega (arith, is, one)
  where
    at_front : p (get_or xs i d) ≡ true → prefix_len p (get_or xs i d ∷ drop (i + 1) xs) ≡ 1 + prefix_len p (drop (i + 1) xs)
    at_front e = rw e

pub all_pass : {X : Type 0} (p : X → Bool) (xs : List X) (i : ℕ) → length xs ≤ i → prefix_len p xs ≡ i + prefix_len p (drop i xs) → i ≡ prefix_len p xs
all_pass p xs i over is = let none : prefix_len p (drop i xs) ≡ 0 = ap (prefix_len p) (drop_all i xs over) in omega (arith, is, none)

-- a number with more digits isn't smaller
pub value_grows : (n : ℕ) (ds : List ℕ) → n ≤ digits_value_after 10 n ds
value_grows n [] = omega arith
value_grows n (d ∷ ds) = omega (arith, value_grows (n * 10 + digit_value d) ds)

digit_small : (c : ℕ) → is_ascii_digit c ≡ true → digit_value c < 10
digit_small c e = grind (arith, nat_tests)

prefix_digits : (bs : List ℕ) → AllDigits 10 (take (prefix_len is_ascii_digit bs) bs)
prefix_digits [] = tt
prefix_digits (c ∷ cs) = elim (cases_Bool (is_ascii_digit c)) [
  | inl e ↦ let p : ℕ = prefix_len is_ascii_digit cs in
      let one : 1 + p ≡ suc p = omega arith in
      subst (λ n. AllDigits 10 (take n (c ∷ cs))) (sym (more e ∙ one)) (digit_small c e, prefix_digits cs)
  | inr e ↦ subst (λ n. AllDigits 10 (take n (c ∷ cs))) (sym (none e)) tt
]
  where
    more : is_ascii_digit c ≡ true → prefix_len is_ascii_digit (c ∷ cs) ≡ 1 + prefix_len is_ascii_digit cs
    more e = rw e

    none : is_ascii_digit c ≡ false → prefix_len is_ascii_digit (c ∷ cs) ≡ 0
    none e = rw e

-- what stands at the front of a number's length are digits
pub front_digits : (bytes : List ℕ) → AllDigits 10 (take (number_len bytes) bytes)
front_digits [] = tt
front_digits (b ∷ bytes) = elim (cases_Bool (b == 48)) [
  | inl e ↦ subst (λ n. AllDigits 10 (take n (b ∷ bytes))) (sym (zero_first e)) (small (eqb-true _ _ e), tt)
  | inr e ↦ subst (λ n. AllDigits 10 (take n (b ∷ bytes))) (sym (other e)) (prefix_digits (b ∷ bytes))
]
  where
    zero_first : (b == 48) ≡ true → number_len (b ∷ bytes) ≡ 1
    zero_first e = rw e

    other : (b == 48) ≡ false → number_len (b ∷ bytes) ≡ prefix_len is_ascii_digit (b ∷ bytes)
    other e = rw e

    small : b ≡ 48 → digit_value b < 10
    small e = subst (λ c. digit_value c < 10) (sym e) (lit< tt)

pub front_at : (bytes part : List ℕ) (n : ℕ) → n ≡ number_len bytes → part ≡ take n bytes → AllDigits 10 part
front_at bytes part n n_is part_is = subst (AllDigits 10) (sym (part_is ∙ ap (λ k. take k bytes) n_is)) (front_digits bytes)

-- ten times what was read so far is already too large
pub large_by : (digits : List ℕ) (i value most : ℕ) → i < length digits → most ≤ value * 10 → digits_value_after 10 value (drop i digits) ≡ digits_value 10 digits → most ≤ digits_value 10 digits
large_by digits i value most inside large is =
    let first : digits_value_after 10 value (drop i digits) ≡ digits_value_after 10 (value * 10 + digit_value (get_or digits i 0)) (drop (i + 1) digits) = ap (digits_value_after 10 value) (here digits i 0 inside) in
    omega (arith, is, first, large, value_grows (value * 10 + digit_value (get_or digits i 0)) (drop (i + 1) digits))

pub large_with : (digits : List ℕ) (i value most d : ℕ) → i < length digits → d ≡ digit_value (get_or digits i 0) → most ≤ value * 10 + d → digits_value_after 10 value (drop i digits) ≡ digits_value 10 digits → most ≤ digits_value 10 digits
large_with digits i value most d inside d_is large is =
    let first : digits_value_after 10 value (drop i digits) ≡ digits_value_after 10 (value * 10 + digit_value (get_or digits i 0)) (drop (i + 1) digits) = ap (digits_value_after 10 value) (here digits i 0 inside) in
    omega (arith, is, first, large, d_is, value_grows (value * 10 + digit_value (get_or digits i 0)) (drop (i + 1) digits))

first_value : (ds : List ℕ) (i : ℕ) → AllDigits 10 (drop i ds) → i < length ds → digit_value (get_or ds i 0) ≡ get_or ds i 0 - 48
first_value ds i digits inside =
    let front : AllDigits 10 (get_or ds i 0 ∷ drop (i + 1) ds) = subst (AllDigits 10) (here ds i 0 inside) digits in
    let range = digit_from_value (get_or ds i 0) front.0 in
    in_range (get_or ds i 0) range.0 range.1
  where
    in_range : (c : ℕ) → 48 ≤ c → c ≤ 57 → digit_value c ≡ c - 48
    in_range c low high = grind (arith, nat_tests)

pub large_here : (digits : List ℕ) (i value most ten d : ℕ) → i < length digits → AllDigits 10 (drop i digits) → d ≡ get_or digits i 0 - 48 → ten ≡ value * 10 → most ≤ ten + d
    → digits_value_after 10 value (drop i digits) ≡ digits_value 10 digits → most ≤ digits_value 10 digits
large_here digits i value most ten d inside all d_is ten_is large is =
    large_with digits i value most d inside (d_is ∙ sym (first_value digits i all inside)) (omega (arith, large, ten_is)) is
