-- Where reading dimension text breaks off: the run through the diagram, and a text that begins so.
use Rattle.std.proofs.Common.{◌≡◌, ℕ, zero, suc, ◌+◌, ◌-◌, ◌*◌, ◌<◌, ◌≤◌, ℤ, pos, negsuc, List, [], ◌∷◌, ◌++◌, take, drop, length, Bool, true, false, not, ◌&&◌, ◌⊎◌, ◌==◌, nat_le, refl, ap, sym, ◌∙◌, subst, arith, inl, inr, if◌then◌else◌, append_assoc, append-nil, Result, Ok, Err, w32, lit<}
use Rattle.std.specs.Prelude.{IsTrue, replicate, slice_index, FitsSigned, neg_ℤ}
use Rattle.std.specs.List.{prefix_len, AllByRecursion}
use Rattle.std.specs.Char.{is_ascii_digit, digit_value}
use Rattle.std.specs.Str.Parse.{digits_value}
use Rattle.std.proofs.lemmas.Bool.{cases_Bool, eqb-true}
use Rattle.std.proofs.lemmas.Bool.Decides.{nat_tests}
use Rattle.std.proofs.lemmas.List.{take-append-drop, length-take-le, length-append, take_at, drop_at}
use Rattle.czi_doc.specs.DimText.{IsNumber, IsName, AreSizes, IsItem, AreItems, is_letter}
use Rattle.czi_format.specs.FirstFault.{◌>>=◌}
use Rattle.czi_format.specs.Entry.{Dim}
use Rattle.czi_doc.specs.Reading.{Read, name_len, name_at, number_len, magnitude_at, negative_at, positive_at, begins_with, number_at, Sizes, stored_at, sizes_at, item_at, behind, items_at}
use Rattle.czi_doc.proofs.Prefixes.{value_grows}
use Rattle.czi_doc.proofs.Spelled.{LettersAt, letters_at, number_inside, natural_front, neg_number, front_is, some_digits, items_step, no_items}
use Rattle.czi_doc.proofs.Rails.{Spot, fresh, name, due, sign, lone, digits, dead, after_item, after, before_number, arrow, run, final, run_on, run_dead, items_run}

-- the last byte, or b before the first
abbrev pub last_or : ℕ → List ℕ → ℕ
last_or b [] = b
last_or b (c ∷ cs) = last_or c cs

pub last_on : (b : ℕ) (xs ys : List ℕ) → last_or b (xs ++ ys) ≡ last_or (last_or b xs) ys
last_on b [] ys = refl
last_on b (c ∷ xs) ys = last_on c xs ys

-- what the spot does at the bytes that follow: the first leads on as f says, or a text may end or not
abbrev pub Acts : Spot → (ℕ → Spot) → Bool → List ℕ → Type 0
Acts s f fin [] = final s ≡ fin
Acts s f fin (c ∷ cs) = arrow s c ≡ f c

abbrev pub IsStuck : Spot → List ℕ → Type 0
IsStuck s back = Acts s (λ c. dead) false back

abbrev pub BeginsNumber : ℕ → Type 0
BeginsNumber b = IsTrue (is_letter b) ⊎ (b ≡ 58)

-- a number out of range begins
pub record TooLarge (before : ℕ) (back : List ℕ) : Type 0 where
  pub behind : BeginsNumber before
  pub number : List ℕ
  pub rest : List ℕ
  pub value : ℤ
  pub whole : back ≡ number ++ rest
  pub is_number : IsNumber number value
  pub range : FitsSigned w32 value → ⊥

-- Reading breaks off with some bytes left: the run is stuck there, or a number out of range begins, and some P begins so.
pub record Fault (P : List ℕ → Type 0) (before : ℕ) (s : Spot) (bytes : List ℕ) (left : ℕ) : Type 0 where
  pub front : List ℕ
  pub back : List ℕ
  pub whole : bytes ≡ front ++ back
  pub left_is : length back ≡ left
  pub why : IsStuck (run s front) back ⊎ TooLarge (last_or before front) back
  pub more : List ℕ
  pub closed : P (front ++ more)

-- the same from bytes in front on
later : (P Q : List ℕ → Type 0) (pre : List ℕ) (before : ℕ) (s : Spot) (b : ℕ) (t : Spot) (rest bytes : List ℕ) (left : ℕ) → last_or before pre ≡ b → run s pre ≡ t → bytes ≡ pre ++ rest
    → ((text : List ℕ) → P text → Q (pre ++ text)) → Fault P b t rest left → Fault Q before s bytes left
later P Q pre before s b t rest bytes left b_is t_is all close f = record {
  front = pre ++ f.front;
  back = f.back;
  whole = all ∙ (ap (λ l. pre ++ l) f.whole ∙ sym (append_assoc pre f.front f.back));
  left_is = f.left_is;
  why = moved f.why;
  more = f.more;
  closed = subst Q (sym (append_assoc pre f.front f.more)) (close (f.front ++ f.more) f.closed);
}
  where
    moved : IsStuck (run t f.front) f.back ⊎ TooLarge (last_or b f.front) f.back → IsStuck (run s (pre ++ f.front)) f.back ⊎ TooLarge (last_or before (pre ++ f.front)) f.back
    moved (inl x) = inl (subst (λ u. IsStuck u f.back) (sym (run_on s pre f.front ∙ ap (λ u. run u f.front) t_is)) x)
    moved (inr x) = inr (subst (λ c. TooLarge c f.back) (sym (last_on before pre f.front ∙ ap (λ c. last_or c f.front) b_is)) x)

-- what holds of a reading, where it is done and where it breaks off
abbrev pub Out : {X : Type 0} → (X → Type 0) → (ℕ → Type 0) → Result X ℕ → Type 0
Out good bad (Ok x) = good x
Out good bad (Err left) = bad left

out_bind : {A B : Type 0} (good : A → Type 0) (bad : ℕ → Type 0) (good_then : B → Type 0) (bad_then : ℕ → Type 0) (r : Result A ℕ) (f : A → Result B ℕ)
    → Out good bad r → ((x : A) → good x → Out good_then bad_then (f x)) → ((left : ℕ) → bad left → bad_then left) → Out good_then bad_then (r >>= f)
out_bind good bad good_then bad_then (Ok x) f o g b = g x o
out_bind good bad good_then bad_then (Err left) f o g b = b left o

out_if : {A : Type 0} (good : A → Type 0) (bad : ℕ → Type 0) (t : Bool) (x y : Result A ℕ) → (t ≡ true → Out good bad x) → (t ≡ false → Out good bad y) → Out good bad (if t then x else y)
out_if good bad true x y g h = g refl
out_if good bad false x y g h = h refl

not_front : (b c : ℕ) (bytes : List ℕ) → begins_with b (c ∷ bytes) ≡ false → (c == b) ≡ false
not_front b c bytes e = second _ _ some e
  where
    some : not (length (c ∷ bytes) == 0) ≡ true
    some = let none : (length (c ∷ bytes) == 0) ≡ false = grind (arith, nat_tests) in rw none

    second : (s t : Bool) → s ≡ true → (s && t) ≡ false → t ≡ false
    second true t p h = h
    second false t p h = cc

-- digits

abbrev StopsAt : Spot → (ℕ → Spot) → Bool → List ℕ → ℕ → Type 0
StopsAt s f fin bytes k = Acts (run s (take k bytes)) f fin (drop k bytes)

digit_more : (b : ℕ) (bytes : List ℕ) → is_ascii_digit b ≡ true → prefix_len is_ascii_digit (b ∷ bytes) ≡ suc (prefix_len is_ascii_digit bytes)
digit_more b bytes e = first e ∙ omega arith
  where
    first : is_ascii_digit b ≡ true → prefix_len is_ascii_digit (b ∷ bytes) ≡ 1 + prefix_len is_ascii_digit bytes
    first e = rw e

digit_none : (b : ℕ) (bytes : List ℕ) → is_ascii_digit b ≡ false → prefix_len is_ascii_digit (b ∷ bytes) ≡ 0
digit_none b bytes e = rw e

digits_stop : (n p : ℕ) (bytes : List ℕ) → StopsAt (digits n p) (after n p) true bytes (prefix_len is_ascii_digit bytes)
digits_stop n p [] = refl
digits_stop n p (b ∷ bytes) = elim (cases_Bool (is_ascii_digit b)) [
  | inl e ↦ let k : ℕ = prefix_len is_ascii_digit bytes in
      subst (StopsAt (digits n p) (after n p) true (b ∷ bytes)) (sym (digit_more b bytes e))
      (subst (λ s. Acts (run s (take k bytes)) (after n p) true (drop k bytes)) (sym (goes e)) (digits_stop n p bytes))
  | inr e ↦ subst (StopsAt (digits n p) (after n p) true (b ∷ bytes)) (sym (digit_none b bytes e)) (stops e)
]
  where
    goes : is_ascii_digit b ≡ true → arrow (digits n p) b ≡ digits n p
    goes e = rw e

    stops : is_ascii_digit b ≡ false → arrow (digits n p) b ≡ after n p b
    stops e = rw e

lone_stops : (n p : ℕ) (bytes : List ℕ) → Acts (lone n p) (after n p) true bytes
lone_stops n p [] = refl
lone_stops n p (c ∷ bytes) = refl

len_zero : (b : ℕ) (bytes : List ℕ) → (b == 48) ≡ true → number_len (b ∷ bytes) ≡ 1
len_zero b bytes e = rw e

len_run : (b : ℕ) (bytes : List ℕ) → (b == 48) ≡ false → number_len (b ∷ bytes) ≡ prefix_len is_ascii_digit (b ∷ bytes)
len_run b bytes e = rw e

-- from a first digit on
digit_stop : (n p : ℕ) (s : Spot) (b : ℕ) (bytes : List ℕ) → (b == 48) ≡ false → is_ascii_digit b ≡ true → arrow s b ≡ digits n p → StopsAt s (after n p) true (b ∷ bytes) (number_len (b ∷ bytes))
digit_stop n p s b bytes t u goes =
    let k : ℕ = prefix_len is_ascii_digit bytes in
    subst (StopsAt s (after n p) true (b ∷ bytes)) (sym (len_run b bytes t ∙ digit_more b bytes u))
    (subst (λ r. Acts (run r (take k bytes)) (after n p) true (drop k bytes)) (sym goes) (digits_stop n p bytes))

positive_stop : (n p : ℕ) (s : Spot) (bytes : List ℕ) → Acts s (before_number n p) false bytes → (number_len bytes == 0) ≡ false → StopsAt s (after n p) true bytes (number_len bytes)
positive_stop n p s [] acts some = cc
positive_stop n p s (b ∷ bytes) acts some = elim (cases_Bool (b == 48)) [
  | inl t ↦ subst (StopsAt s (after n p) true (b ∷ bytes)) (sym (len_zero b bytes t)) (subst (λ r. Acts r (after n p) true bytes) (sym (acts ∙ to_lone t)) (lone_stops n p bytes))
  | inr t ↦ elim (cases_Bool (is_ascii_digit b)) [
    | inl u ↦ digit_stop n p s b bytes t u (acts ∙ to_digits t u)
    | inr u ↦ absurd (no_digit t u)
  ]
]
  where
    to_lone : (b == 48) ≡ true → before_number n p b ≡ lone n p
    to_lone t = ap (before_number n p) (eqb-true b 48 t)

    to_digits : (b == 48) ≡ false → is_ascii_digit b ≡ true → before_number n p b ≡ digits n p
    to_digits t u = let v : (b == 45) ≡ false = grind (arith, nat_tests) in rw (v, t, u)

    no_digit : (b == 48) ≡ false → is_ascii_digit b ≡ false → ⊥
    no_digit t u = let z : (number_len (b ∷ bytes) == 0) ≡ true = ap (λ k. k == 0) (len_run b bytes t ∙ digit_none b bytes u) in cc

positive_stuck : (n p : ℕ) (s : Spot) (bytes : List ℕ) → Acts s (before_number n p) false bytes → begins_with 45 bytes ≡ false → (number_len bytes == 0) ≡ true → IsStuck s bytes
positive_stuck n p s [] acts plus none = acts
positive_stuck n p s (b ∷ bytes) acts plus none = elim (cases_Bool (b == 48)) [
  | inl t ↦ absurd (let z : (number_len (b ∷ bytes) == 0) ≡ false = ap (λ k. k == 0) (len_zero b bytes t) in cc)
  | inr t ↦ elim (cases_Bool (is_ascii_digit b)) [
    | inl u ↦ absurd (let k : number_len (b ∷ bytes) ≡ suc (prefix_len is_ascii_digit bytes) = len_run b bytes t ∙ digit_more b bytes u in let z : number_len (b ∷ bytes) ≡ 0 = eqb-true _ _ none in omega arith)
    | inr u ↦ acts ∙ to_dead (not_front 45 b bytes plus) t u
  ]
]
  where
    to_dead : (b == 45) ≡ false → (b == 48) ≡ false → is_ascii_digit b ≡ false → before_number n p b ≡ dead
    to_dead v t u = rw (v, t, u)

magnitude_zero : (b : ℕ) (bytes : List ℕ) → (b == 48) ≡ true → (magnitude_at (b ∷ bytes) == 0) ≡ true
magnitude_zero b bytes t = ap (λ c. magnitude_at (c ∷ bytes) == 0) (eqb-true b 48 t)

magnitude_none : (b : ℕ) (bytes : List ℕ) → (b == 48) ≡ false → is_ascii_digit b ≡ false → (magnitude_at (b ∷ bytes) == 0) ≡ true
magnitude_none b bytes t u = ap (λ k. digits_value 10 (take k (b ∷ bytes)) == 0) (len_run b bytes t ∙ digit_none b bytes u)

magnitude_some : (b : ℕ) (bytes : List ℕ) → (b == 48) ≡ false → is_ascii_digit b ≡ true → 0 < magnitude_at (b ∷ bytes)
magnitude_some b bytes t u =
    let k : ℕ = prefix_len is_ascii_digit bytes in
    let first : 0 < digit_value b = grind (arith, nat_tests) in
    let is : magnitude_at (b ∷ bytes) ≡ digits_value 10 (b ∷ take k bytes) = ap (λ j. digits_value 10 (take j (b ∷ bytes))) (len_run b bytes t ∙ digit_more b bytes u) in
    omega (arith, value_grows (0 * 10 + digit_value b) (take k bytes))

negative_stop : (n p : ℕ) (bytes : List ℕ) → (magnitude_at bytes == 0) ≡ false → StopsAt (sign n p) (after n p) true bytes (number_len bytes)
negative_stop n p [] some = cc
negative_stop n p (b ∷ bytes) some = elim (cases_Bool (b == 48)) [
  | inl t ↦ absurd (let z = magnitude_zero b bytes t in cc)
  | inr t ↦ elim (cases_Bool (is_ascii_digit b)) [
    | inl u ↦ digit_stop n p (sign n p) b bytes t u (to_digits t u)
    | inr u ↦ absurd (let z = magnitude_none b bytes t u in cc)
  ]
]
  where
    to_digits : (b == 48) ≡ false → is_ascii_digit b ≡ true → arrow (sign n p) b ≡ digits n p
    to_digits t u = rw (t, u)

negative_stuck : (n p : ℕ) (bytes : List ℕ) → (magnitude_at bytes == 0) ≡ true → IsStuck (sign n p) bytes
negative_stuck n p [] none = refl
negative_stuck n p (b ∷ bytes) none = elim (cases_Bool (b == 48)) [
  | inl t ↦ zero_dead t
  | inr t ↦ elim (cases_Bool (is_ascii_digit b)) [
    | inl u ↦ absurd (let z : magnitude_at (b ∷ bytes) ≡ 0 = eqb-true _ _ none in let m = magnitude_some b bytes t u in omega arith)
    | inr u ↦ to_dead t u
  ]
]
  where
    zero_dead : (b == 48) ≡ true → arrow (sign n p) b ≡ dead
    zero_dead t = rw t

    to_dead : (b == 48) ≡ false → is_ascii_digit b ≡ false → arrow (sign n p) b ≡ dead
    to_dead t u = rw (t, u)

-- numbers

abbrev SomeNumber : List ℕ → Type 0
SomeNumber text = (v : ℤ) × IsNumber text v

zero_number : IsNumber (48 ∷ []) (pos 0)
zero_number = record { digits = (omega arith, (lit< tt, tt)); lean = λ e. refl; value = refl }

minus_one : IsNumber (45 ∷ 49 ∷ []) (negsuc 0)
minus_one = (49 ∷ [], refl, record { digits = (omega arith, (lit< tt, tt)); lean = λ e. refl; value = refl })

record NumberRuns (n p : ℕ) (s : Spot) (bytes : List ℕ) (r : Read ℤ) : Type 0 where
  number : List ℕ
  is_number : IsNumber number r.it
  whole : bytes ≡ number ++ r.rest
  acts : Acts (run s number) (after n p) true r.rest

some_front : (bytes : List ℕ) → (number_len bytes == 0) ≡ false → 0 < length (take (number_len bytes) bytes)
some_front bytes t = let n : 0 < number_len bytes = grind (arith, nat_tests) in omega (arith, n, length-take-le (number_len bytes) bytes (number_inside bytes))

no_fit : (n : ℕ) → nat_le n 2147483647 ≡ false → FitsSigned w32 (pos n) → ⊥
no_fit n t fits = let large : 2147483647 < n = grind (arith, nat_tests) in omega (arith, fits.sfits)

no_fit_below : (n : ℕ) → nat_le n 2147483648 ≡ false → FitsSigned w32 (neg_ℤ (pos n)) → ⊥
no_fit_below zero t fits = cc
no_fit_below (suc n) t fits = let large : 2147483648 < suc n = grind (arith, nat_tests) in omega (arith, fits.sfits)

positive_out : (before n p : ℕ) (s : Spot) (bytes : List ℕ) → BeginsNumber before → Acts s (before_number n p) false bytes → begins_with 45 bytes ≡ false
    → Out (NumberRuns n p s bytes) (Fault SomeNumber before s bytes) (positive_at bytes)
unfolding positive_at
positive_out before n p s bytes begins acts plus =
    out_if (NumberRuns n p s bytes) (Fault SomeNumber before s bytes) (number_len bytes == 0) (Err (length bytes)) _
    none (λ u. out_if (NumberRuns n p s bytes) (Fault SomeNumber before s bytes) (nat_le (magnitude_at bytes) 2147483647) (Ok _) (Err (length bytes)) (λ t. good u) (large u))
  where
    none : (number_len bytes == 0) ≡ true → Fault SomeNumber before s bytes (length bytes)
    none t = record { front = []; back = bytes; whole = refl; left_is = refl; why = inl (positive_stuck n p s bytes acts plus t); more = 48 ∷ []; closed = (pos 0, zero_number) }

    good : (number_len bytes == 0) ≡ false → NumberRuns n p s bytes (record { it = pos (magnitude_at bytes); rest = drop (number_len bytes) bytes })
    good u = record {
      number = take (number_len bytes) bytes;
      is_number = natural_front bytes (some_front bytes u);
      whole = sym (take-append-drop (number_len bytes) bytes);
      acts = positive_stop n p s bytes acts u;
    }

    large : (number_len bytes == 0) ≡ false → nat_le (magnitude_at bytes) 2147483647 ≡ false → Fault SomeNumber before s bytes (length bytes)
    large u t = record {
      front = [];
      back = bytes;
      whole = refl;
      left_is = refl;
      why = inr (record {
        behind = begins;
        number = take (number_len bytes) bytes;
        rest = drop (number_len bytes) bytes;
        value = pos (magnitude_at bytes);
        whole = sym (take-append-drop (number_len bytes) bytes);
        is_number = natural_front bytes (some_front bytes u);
        range = no_fit (magnitude_at bytes) t;
      });
      more = 48 ∷ [];
      closed = (pos 0, zero_number);
    }

negative_out : (before n p : ℕ) (s : Spot) (bytes : List ℕ) → BeginsNumber before → arrow s 45 ≡ sign n p
    → Out (NumberRuns n p s (45 ∷ bytes)) (Fault SomeNumber before s (45 ∷ bytes)) (negative_at bytes)
unfolding negative_at
negative_out before n p s bytes begins goes =
    out_if (NumberRuns n p s (45 ∷ bytes)) (Fault SomeNumber before s (45 ∷ bytes)) (magnitude_at bytes == 0) (Err (length bytes)) _
    none (λ u. out_if (NumberRuns n p s (45 ∷ bytes)) (Fault SomeNumber before s (45 ∷ bytes)) (nat_le (magnitude_at bytes) 2147483648) (Ok _) (Err (suc (length bytes))) (λ t. good u) (large u))
  where
    none : (magnitude_at bytes == 0) ≡ true → Fault SomeNumber before s (45 ∷ bytes) (length bytes)
    none t = record {
      front = 45 ∷ [];
      back = bytes;
      whole = refl;
      left_is = refl;
      why = inl (subst (λ r. IsStuck r bytes) (sym goes) (negative_stuck n p bytes t));
      more = 49 ∷ [];
      closed = (negsuc 0, minus_one);
    }

    good : (magnitude_at bytes == 0) ≡ false → NumberRuns n p s (45 ∷ bytes) (record { it = neg_ℤ (pos (magnitude_at bytes)); rest = drop (number_len bytes) bytes })
    good u = record {
      number = 45 ∷ take (number_len bytes) bytes;
      is_number = neg_number (magnitude_at bytes) (take (number_len bytes) bytes) u (natural_front bytes (some_digits bytes u));
      whole = ap (λ l. 45 ∷ l) (sym (take-append-drop (number_len bytes) bytes));
      acts = subst (λ r. StopsAt r (after n p) true bytes (number_len bytes)) (sym goes) (negative_stop n p bytes u);
    }

    large : (magnitude_at bytes == 0) ≡ false → nat_le (magnitude_at bytes) 2147483648 ≡ false → Fault SomeNumber before s (45 ∷ bytes) (suc (length bytes))
    large u t = record {
      front = [];
      back = 45 ∷ bytes;
      whole = refl;
      left_is = omega arith;
      why = inr (record {
        behind = begins;
        number = 45 ∷ take (number_len bytes) bytes;
        rest = drop (number_len bytes) bytes;
        value = neg_ℤ (pos (magnitude_at bytes));
        whole = ap (λ l. 45 ∷ l) (sym (take-append-drop (number_len bytes) bytes));
        is_number = neg_number (magnitude_at bytes) (take (number_len bytes) bytes) u (natural_front bytes (some_digits bytes u));
        range = no_fit_below (magnitude_at bytes) t;
      });
      more = 48 ∷ [];
      closed = (pos 0, zero_number);
    }

number_out : (before n p : ℕ) (s : Spot) (bytes : List ℕ) → BeginsNumber before → Acts s (before_number n p) false bytes
    → Out (NumberRuns n p s bytes) (Fault SomeNumber before s bytes) (number_at bytes)
number_out before n p s bytes begins acts =
    out_if (NumberRuns n p s bytes) (Fault SomeNumber before s bytes) (begins_with 45 bytes) (negative_at (drop 1 bytes)) (positive_at bytes) minus (positive_out before n p s bytes begins acts)
  where
    minus : begins_with 45 bytes ≡ true → Out (NumberRuns n p s bytes) (Fault SomeNumber before s bytes) (negative_at (drop 1 bytes))
    minus t = subst (λ l. Out (NumberRuns n p s l) (Fault SomeNumber before s l) (negative_at (drop 1 bytes))) (sym (front_is 45 bytes t))
        (negative_out before n p s (drop 1 bytes) begins (subst (Acts s (before_number n p) false) (front_is 45 bytes t) acts))

-- names

abbrev SomeItem : List ℕ → Type 0
SomeItem text = (d : Dim) × IsItem text d

record NameRuns (n before : ℕ) (bytes : List ℕ) (r : Read (List ℕ)) : Type 0 where
  name : List ℕ
  is_name : IsName name
  whole : bytes ≡ name ++ r.rest
  padded : r.it ≡ name ++ replicate (4 - length name) 0
  acts : Acts (run (fresh n) name) (before_number n 2) false r.rest
  begins : BeginsNumber (last_or before name)

last_letter : (b : ℕ) (text : List ℕ) → AllByRecursion (λ c. IsTrue (is_letter c)) text → 0 < length text → IsTrue (is_letter (last_or b text))
last_letter b [] all some = absurd (omega arith)
last_letter b (c ∷ []) all some = all.0
last_letter b (c ∷ d ∷ text) all some = last_letter c (d ∷ text) all.1 (omega arith)

letter_more : (b : ℕ) (bytes : List ℕ) → is_letter b ≡ true → prefix_len is_letter (b ∷ bytes) ≡ suc (prefix_len is_letter bytes)
letter_more b bytes e = first e ∙ omega arith
  where
    first : is_letter b ≡ true → prefix_len is_letter (b ∷ bytes) ≡ 1 + prefix_len is_letter bytes
    first e = rw e

letter_none : (b : ℕ) (bytes : List ℕ) → is_letter b ≡ false → prefix_len is_letter (b ∷ bytes) ≡ 0
letter_none b bytes e = rw e

letters_stop : (n m : ℕ) (bytes : List ℕ) → StopsAt (name n m) (before_number n 2) false bytes (prefix_len is_letter (take m bytes))
letters_stop n zero [] = refl
letters_stop n zero (b ∷ bytes) = refl
letters_stop n (suc m) [] = refl
letters_stop n (suc m) (b ∷ bytes) = elim (cases_Bool (is_letter b)) [
  | inl e ↦ let k : ℕ = prefix_len is_letter (take m bytes) in
      subst (StopsAt (name n (suc m)) (before_number n 2) false (b ∷ bytes)) (sym (letter_more b (take m bytes) e))
      (subst (λ s. Acts (run s (take k bytes)) (before_number n 2) false (drop k bytes)) (sym (goes e)) (letters_stop n m bytes))
  | inr e ↦ subst (StopsAt (name n (suc m)) (before_number n 2) false (b ∷ bytes)) (sym (letter_none b (take m bytes) e)) (stops e)
]
  where
    goes : is_letter b ≡ true → arrow (name n (suc m)) b ≡ name n m
    goes e = rw e

    stops : is_letter b ≡ false → arrow (name n (suc m)) b ≡ before_number n 2 b
    stops e = rw e

name_stop : (n : ℕ) (bytes : List ℕ) → (name_len bytes == 0) ≡ false → StopsAt (fresh n) (before_number n 2) false bytes (name_len bytes)
name_stop n [] some = cc
name_stop n (b ∷ bytes) some = elim (cases_Bool (is_letter b)) [
  | inl e ↦ let k : ℕ = prefix_len is_letter (take 3 bytes) in
      subst (StopsAt (fresh n) (before_number n 2) false (b ∷ bytes)) (sym (letter_more b (take 3 bytes) e))
      (subst (λ s. Acts (run s (take k bytes)) (before_number n 2) false (drop k bytes)) (sym (goes e)) (letters_stop n 3 bytes))
  | inr e ↦ absurd (let z : (name_len (b ∷ bytes) == 0) ≡ true = ap (λ k. k == 0) (letter_none b (take 3 bytes) e) in cc)
]
  where
    goes : is_letter b ≡ true → arrow (fresh n) b ≡ name n 3
    goes e = rw e

name_stuck : (n : ℕ) (bytes : List ℕ) → (name_len bytes == 0) ≡ true → IsStuck (fresh n) bytes
name_stuck n [] none = refl
name_stuck n (b ∷ bytes) none = elim (cases_Bool (is_letter b)) [
  | inl e ↦ absurd (let k : name_len (b ∷ bytes) ≡ suc (prefix_len is_letter (take 3 bytes)) = letter_more b (take 3 bytes) e in let z : name_len (b ∷ bytes) ≡ 0 = eqb-true _ _ none in omega arith)
  | inr e ↦ to_dead e
]
  where
    to_dead : is_letter b ≡ false → arrow (fresh n) b ≡ dead
    to_dead e = rw e

-- an item that goes no further than its start
started_item : (called start : List ℕ) (v : ℤ) → IsName called → IsNumber start v → SomeItem (called ++ start)
started_item called start v is_name number = (
  record { name = called ++ replicate (4 - length called) 0; start = v; size = pos 1; coord = replicate 4 0; stored = pos 1 },
  record {
    name = called;
    start = start;
    sizes = [];
    whole = ap (λ l. called ++ l) (sym (append-nil start));
    is_name = is_name;
    is_start = number;
    are_sizes = inl (refl, refl, refl);
    padded = refl;
    coord = refl;
  },
)

name_out : (n before : ℕ) (bytes : List ℕ) → Out (NameRuns n before bytes) (Fault SomeItem before (fresh n) bytes) (name_at bytes)
unfolding name_at
name_out n before bytes = out_if (NameRuns n before bytes) (Fault SomeItem before (fresh n) bytes) (name_len bytes == 0) (Err (length bytes)) (Ok _) none good
  where
    none : (name_len bytes == 0) ≡ true → Fault SomeItem before (fresh n) bytes (length bytes)
    none t = record {
      front = [];
      back = bytes;
      whole = refl;
      left_is = refl;
      why = inl (name_stuck n bytes t);
      more = 65 ∷ 48 ∷ [];
      closed = started_item (65 ∷ []) (48 ∷ []) (pos 0) (record { letters = (refl, tt); some = omega arith; few = omega arith }) zero_number;
    }

    good : (name_len bytes == 0) ≡ false → NameRuns n before bytes (record { it = take (name_len bytes) bytes ++ replicate (4 - name_len bytes) 0; rest = drop (name_len bytes) bytes })
    good test =
        let k : ℕ = name_len bytes in
        let l : LettersAt 4 bytes k = letters_at 4 bytes in
        let some : 0 < k = grind (arith, nat_tests) in
        let long : length (take k bytes) ≡ k = length-take-le k bytes l.inside in
        record {
          name = take k bytes;
          is_name = record { letters = l.letters; some = omega (arith, some, long); few = omega (arith, long, l.few) };
          whole = sym (take-append-drop k bytes);
          padded = ap (λ n. take k bytes ++ replicate (4 - n) 0) (sym long);
          acts = name_stop n bytes test;
          begins = inl (last_letter before (take k bytes) l.letters (omega (arith, some, long)));
        }

-- sizes

abbrev SomeSizes : List ℕ → Type 0
SomeSizes text = (size : ℤ) × (stored : ℤ) × AreSizes text size stored

record SizesRuns (n : ℕ) (s : Spot) (bytes : List ℕ) (r : Read Sizes) : Type 0 where
  text : List ℕ
  are_sizes : AreSizes text r.it.size r.it.stored
  whole : bytes ≡ text ++ r.rest
  acts : Acts (run s text) (after_item n) true r.rest

due_acts : (n p : ℕ) (bytes : List ℕ) → Acts (due n p) (before_number n p) false bytes
due_acts n p [] = refl
due_acts n p (c ∷ bytes) = refl

-- behind a `:`
colon_out : (n p : ℕ) (bytes : List ℕ) → Out (NumberRuns n p (due n p) bytes) (Fault SomeNumber 58 (due n p) bytes) (number_at bytes)
colon_out n p bytes = number_out 58 n p (due n p) bytes (inr refl) (due_acts n p bytes)

no_colon : (n p : ℕ) (s : Spot) (bytes : List ℕ) → begins_with 58 bytes ≡ false → Acts s (after n (suc p)) true bytes → Acts s (after_item n) true bytes
no_colon n p s [] t acts = acts
no_colon n p s (c ∷ bytes) t acts = acts ∙ passed (not_front 58 c bytes t)
  where
    passed : (c == 58) ≡ false → after n (suc p) c ≡ after_item n c
    passed e = rw e

stored_out : (n before : ℕ) (s : Spot) (size : ℤ) (a bytes : List ℕ) → IsNumber a size → Acts (run s (58 ∷ a)) (after n 1) true bytes
    → Out (SizesRuns n s (58 ∷ (a ++ bytes))) (Fault SomeSizes before s (58 ∷ (a ++ bytes))) (stored_at size bytes)
stored_out n before s size a bytes number acts =
    out_if (SizesRuns n s (58 ∷ (a ++ bytes))) (Fault SomeSizes before s (58 ∷ (a ++ bytes))) (begins_with 58 bytes) _ (Ok _) two
    (λ t. record { text = 58 ∷ a; are_sizes = inr (inl (a, refl, number, refl)); whole = refl; acts = no_colon n 0 (run s (58 ∷ a)) bytes t acts })
  where
    two : begins_with 58 bytes ≡ true
        → Out (SizesRuns n s (58 ∷ (a ++ bytes))) (Fault SomeSizes before s (58 ∷ (a ++ bytes))) (number_at (drop 1 bytes) >>= λ stored. Ok (record { it = record { size = size; stored = stored.it }; rest = stored.rest }))
    two t =
        let ds : List ℕ = drop 1 bytes in
        let all : bytes ≡ 58 ∷ ds = front_is 58 bytes t in
        let goes : arrow (run s (58 ∷ a)) 58 ≡ due n 0 = subst (Acts (run s (58 ∷ a)) (after n 1) true) all acts in
        out_bind (NumberRuns n 0 (due n 0) ds) (Fault SomeNumber 58 (due n 0) ds) (SizesRuns n s (58 ∷ (a ++ bytes))) (Fault SomeSizes before s (58 ∷ (a ++ bytes))) (number_at ds) _ (colon_out n 0 ds)
        (λ r g. good all goes r g) (λ left f. bad all goes left f)
      where
        good : bytes ≡ 58 ∷ drop 1 bytes → arrow (run s (58 ∷ a)) 58 ≡ due n 0 → (r : Read ℤ) → NumberRuns n 0 (due n 0) (drop 1 bytes) r
            → SizesRuns n s (58 ∷ (a ++ bytes)) (record { it = record { size = size; stored = r.it }; rest = r.rest })
        good all goes r g = record {
          text = 58 ∷ (a ++ 58 ∷ g.number);
          are_sizes = inr (inr (a, g.number, refl, number, g.is_number));
          whole = ap (λ l. 58 ∷ (a ++ l)) (all ∙ ap (λ l. 58 ∷ l) g.whole) ∙ ap (λ l. 58 ∷ l) (sym (append_assoc a (58 ∷ g.number) r.rest));
          acts = subst (λ u. Acts u (after_item n) true r.rest) (sym (run_on s (58 ∷ a) (58 ∷ g.number) ∙ ap (λ u. run u g.number) goes)) g.acts;
        }

        bad : bytes ≡ 58 ∷ drop 1 bytes → arrow (run s (58 ∷ a)) 58 ≡ due n 0 → (left : ℕ) → Fault SomeNumber 58 (due n 0) (drop 1 bytes) left → Fault SomeSizes before s (58 ∷ (a ++ bytes)) left
        bad all goes left f = later SomeNumber SomeSizes (58 ∷ (a ++ 58 ∷ [])) before s 58 (due n 0) (drop 1 bytes) (58 ∷ (a ++ bytes)) left
            (last_on before (58 ∷ a) (58 ∷ [])) (run_on s (58 ∷ a) (58 ∷ []) ∙ goes)
            (ap (λ l. 58 ∷ (a ++ l)) all ∙ ap (λ l. 58 ∷ l) (sym (append_assoc a (58 ∷ []) (drop 1 bytes))))
            (λ text q. (size, q.0, inr (inr (a, text, ap (λ l. 58 ∷ l) (append_assoc a (58 ∷ []) text), number, q.1)))) f

sizes_out : (n before : ℕ) (s : Spot) (bytes : List ℕ) → Acts s (after n 2) true bytes → Out (SizesRuns n s bytes) (Fault SomeSizes before s bytes) (sizes_at bytes)
sizes_out n before s bytes acts =
    out_if (SizesRuns n s bytes) (Fault SomeSizes before s bytes) (begins_with 58 bytes) _ (Ok _) some
    (λ t. record { text = []; are_sizes = inl (refl, refl, refl); whole = refl; acts = no_colon n 1 s bytes t acts })
  where
    some : begins_with 58 bytes ≡ true → Out (SizesRuns n s bytes) (Fault SomeSizes before s bytes) (number_at (drop 1 bytes) >>= λ size. stored_at size.it size.rest)
    some t =
        let ds : List ℕ = drop 1 bytes in
        let all : bytes ≡ 58 ∷ ds = front_is 58 bytes t in
        let goes : arrow s 58 ≡ due n 1 = subst (Acts s (after n 2) true) all acts in
        out_bind (NumberRuns n 1 (due n 1) ds) (Fault SomeNumber 58 (due n 1) ds) (SizesRuns n s bytes) (Fault SomeSizes before s bytes) (number_at ds) (λ size. stored_at size.it size.rest) (colon_out n 1 ds)
        (λ r g. good all goes r g) (λ left f. bad all goes left f)
      where
        good : bytes ≡ 58 ∷ drop 1 bytes → arrow s 58 ≡ due n 1 → (r : Read ℤ) → NumberRuns n 1 (due n 1) (drop 1 bytes) r → Out (SizesRuns n s bytes) (Fault SomeSizes before s bytes) (stored_at r.it r.rest)
        good all goes r g = subst (λ l. Out (SizesRuns n s l) (Fault SomeSizes before s l) (stored_at r.it r.rest)) (sym (all ∙ ap (λ l. 58 ∷ l) g.whole))
            (stored_out n before s r.it g.number r.rest g.is_number (subst (λ u. Acts (run u g.number) (after n 1) true r.rest) (sym goes) g.acts))

        bad : bytes ≡ 58 ∷ drop 1 bytes → arrow s 58 ≡ due n 1 → (left : ℕ) → Fault SomeNumber 58 (due n 1) (drop 1 bytes) left → Fault SomeSizes before s bytes left
        bad all goes left f = later SomeNumber SomeSizes (58 ∷ []) before s 58 (due n 1) (drop 1 bytes) bytes left refl goes all
            (λ text q. (q.0, q.0, inr (inl (text, refl, q.1, refl)))) f

-- items

record ItemRuns (n : ℕ) (bytes : List ℕ) (r : Read Dim) : Type 0 where
  text : List ℕ
  is_item : IsItem text r.it
  whole : bytes ≡ text ++ r.rest
  acts : Acts (run (fresh n) text) (after_item n) true r.rest

sized_item : (called start text : List ℕ) (v size stored : ℤ) → IsName called → IsNumber start v → AreSizes text size stored → SomeItem ((called ++ start) ++ text)
sized_item called start text v size stored is_name number are = (
  record { name = called ++ replicate (4 - length called) 0; start = v; size = size; coord = replicate 4 0; stored = stored },
  record {
    name = called;
    start = start;
    sizes = text;
    whole = append_assoc called start text;
    is_name = is_name;
    is_start = number;
    are_sizes = are;
    padded = refl;
    coord = refl;
  },
)

item_out : (n before : ℕ) (bytes : List ℕ) → Out (ItemRuns n bytes) (Fault SomeItem before (fresh n) bytes) (item_at bytes)
unfolding item_at
item_out n before bytes = out_bind (NameRuns n before bytes) (Fault SomeItem before (fresh n) bytes) (ItemRuns n bytes) (Fault SomeItem before (fresh n) bytes) (name_at bytes) _ (name_out n before bytes)
    (λ called g. out_bind (NumberRuns n 2 (run (fresh n) g.name) called.rest) (Fault SomeNumber (last_or before g.name) (run (fresh n) g.name) called.rest) (ItemRuns n bytes) (Fault SomeItem before (fresh n) bytes)
    (number_at called.rest) _ (number_out (last_or before g.name) n 2 (run (fresh n) g.name) called.rest g.begins g.acts)
    (λ start h. out_bind (SizesRuns n (run (run (fresh n) g.name) h.number) start.rest) (Fault SomeSizes (last_or (last_or before g.name) h.number) (run (run (fresh n) g.name) h.number) start.rest)
    (ItemRuns n bytes) (Fault SomeItem before (fresh n) bytes)
    (sizes_at start.rest) _ (sizes_out n (last_or (last_or before g.name) h.number) (run (run (fresh n) g.name) h.number) start.rest h.acts)
    (λ sizes i. good called start sizes g h i) (λ left f. in_sizes called start left g h f))
    (λ left f. in_start called left g f))
    (λ left f. f)
  where
    good : (called : Read (List ℕ)) (start : Read ℤ) (sizes : Read Sizes) (g : NameRuns n before bytes called) (h : NumberRuns n 2 (run (fresh n) g.name) called.rest start)
        → SizesRuns n (run (run (fresh n) g.name) h.number) start.rest sizes
        → ItemRuns n bytes (record { it = record { name = called.it; start = start.it; size = sizes.it.size; coord = replicate 4 0; stored = sizes.it.stored }; rest = sizes.rest })
    good called start sizes g h i = record {
      text = g.name ++ (h.number ++ i.text);
      is_item = record {
        name = g.name;
        start = h.number;
        sizes = i.text;
        whole = refl;
        is_name = g.is_name;
        is_start = h.is_number;
        are_sizes = i.are_sizes;
        padded = g.padded;
        coord = refl;
      };
      whole = g.whole ∙ (ap (λ l. g.name ++ l) (h.whole ∙ (ap (λ l. h.number ++ l) i.whole ∙ sym (append_assoc h.number i.text sizes.rest)))
          ∙ sym (append_assoc g.name (h.number ++ i.text) sizes.rest));
      acts = subst (λ u. Acts u (after_item n) true sizes.rest) (sym (run_on (fresh n) g.name (h.number ++ i.text) ∙ run_on (run (fresh n) g.name) h.number i.text)) i.acts;
    }

    in_start : (called : Read (List ℕ)) (left : ℕ) (g : NameRuns n before bytes called) → Fault SomeNumber (last_or before g.name) (run (fresh n) g.name) called.rest left → Fault SomeItem before (fresh n) bytes left
    in_start called left g f = later SomeNumber SomeItem g.name before (fresh n) (last_or before g.name) (run (fresh n) g.name) called.rest bytes left refl refl g.whole
        (λ text q. started_item g.name text q.0 g.is_name q.1) f

    in_sizes : (called : Read (List ℕ)) (start : Read ℤ) (left : ℕ) (g : NameRuns n before bytes called) (h : NumberRuns n 2 (run (fresh n) g.name) called.rest start)
        → Fault SomeSizes (last_or (last_or before g.name) h.number) (run (run (fresh n) g.name) h.number) start.rest left → Fault SomeItem before (fresh n) bytes left
    in_sizes called start left g h f = later SomeSizes SomeItem (g.name ++ h.number) before (fresh n) (last_or (last_or before g.name) h.number) (run (run (fresh n) g.name) h.number) start.rest bytes left
        (last_on before g.name h.number) (run_on (fresh n) g.name h.number)
        (g.whole ∙ (ap (λ l. g.name ++ l) h.whole ∙ sym (append_assoc g.name h.number start.rest)))
        (λ text q. sized_item g.name h.number text start.it q.0 q.1 g.is_name h.is_number q.2) f

abbrev pub SomeItems : ℕ → List ℕ → Type 0
SomeItems most text = (ds : List Dim) × AreItems text ds × (length ds ≤ most)

joined : (most : ℕ) (d : Dim) (first text : List ℕ) (ds : List Dim) → IsItem first d → AreItems text ds → length ds ≤ most → SomeItems (suc most) ((first ++ 44 ∷ []) ++ text)
joined most d first text [] is_item items few = absurd items
joined most d first text (e ∷ ds) is_item items few = (d ∷ e ∷ ds, (first, text, append_assoc first (44 ∷ []) text, is_item, items), omega arith)

abbrev Any : List Dim → Type 0
Any ds = Unit {0}

abbrev ItemsFault : ℕ → ℕ → List ℕ → ℕ → Type 0
ItemsFault n before bytes left = Fault (SomeItems (suc n)) before (fresh n) bytes left

-- the run is stuck behind an item
behind_item : (n before left : ℕ) (bytes : List ℕ) (item : Read Dim) (i : ItemRuns n bytes item) → length item.rest ≡ left → IsStuck (run (fresh n) i.text) item.rest → ItemsFault n before bytes left
behind_item n before left bytes item i left_is stuck = record {
  front = i.text;
  back = item.rest;
  whole = i.whole;
  left_is = left_is;
  why = inl stuck;
  more = [];
  closed = subst (SomeItems (suc n)) (sym (append-nil i.text)) (item.it ∷ [], i.is_item, omega arith);
}

no_comma : (n : ℕ) (s : Spot) (bytes : List ℕ) → (length bytes == 0) ≡ false → begins_with 44 bytes ≡ false → Acts s (after_item n) true bytes → IsStuck s bytes
no_comma n s [] some t acts = cc
no_comma n s (c ∷ bytes) some t acts = acts ∙ passed (not_front 44 c bytes t)
  where
    passed : (c == 44) ≡ false → after_item n c ≡ dead
    passed e = rw e

items_with : (n before : ℕ) (bytes : List ℕ)
    → ((item : Read Dim) → ItemRuns n bytes item → begins_with 44 item.rest ≡ true → Out Any (ItemsFault n before bytes) (items_at n (drop 1 item.rest) >>= λ ds. Ok (item.it ∷ ds)))
    → Out Any (ItemsFault n before bytes) (items_at (suc n) bytes)
items_with n before bytes comma = subst (Out Any (ItemsFault n before bytes)) (sym (items_step n bytes))
    (out_bind (ItemRuns n bytes) (Fault SomeItem before (fresh n) bytes) Any (ItemsFault n before bytes) (item_at bytes) (λ item. behind (items_at n) item.it item.rest) (item_out n before bytes)
    (λ item i. out_if Any (ItemsFault n before bytes) (length item.rest == 0) (Ok _) _ (λ t. tt)
    (λ t. out_if Any (ItemsFault n before bytes) (begins_with 44 item.rest) _ (Err (length item.rest)) (λ u. comma item i u)
    (λ u. behind_item n before (length item.rest) bytes item i refl (no_comma n (run (fresh n) i.text) item.rest t u i.acts))))
    (λ left f. later SomeItem (SomeItems (suc n)) [] before (fresh n) before (fresh n) bytes bytes left refl refl refl (λ text q. (q.0 ∷ [], q.1, omega arith)) f))

items_last : (before : ℕ) (bytes : List ℕ) (item : Read Dim) → ItemRuns 0 bytes item → begins_with 44 item.rest ≡ true → Out Any (ItemsFault 0 before bytes) (items_at 0 (drop 1 item.rest) >>= λ ds. Ok (item.it ∷ ds))
items_last before bytes item i u =
    let all : item.rest ≡ 44 ∷ drop 1 item.rest = front_is 44 item.rest u in
    let long : length item.rest ≡ suc (length (drop 1 item.rest)) = ap length all ∙ omega arith in
    let stuck : IsStuck (run (fresh 0) i.text) item.rest = subst (IsStuck (run (fresh 0) i.text)) (sym all) (subst (Acts (run (fresh 0) i.text) (after_item 0) true) all i.acts) in
    subst (λ r. Out Any (ItemsFault 0 before bytes) (r >>= λ ds. Ok (item.it ∷ ds))) (sym (no_items (drop 1 item.rest)))
    (behind_item 0 before (suc (length (drop 1 item.rest))) bytes item i long stuck)

items_next : (n before : ℕ) (bytes : List ℕ) → ((rest : List ℕ) → Out Any (ItemsFault n 44 rest) (items_at (suc n) rest))
    → (item : Read Dim) → ItemRuns (suc n) bytes item → begins_with 44 item.rest ≡ true → Out Any (ItemsFault (suc n) before bytes) (items_at (suc n) (drop 1 item.rest) >>= λ ds. Ok (item.it ∷ ds))
items_next n before bytes further item i u =
    let ds : List ℕ = drop 1 item.rest in
    let all : item.rest ≡ 44 ∷ ds = front_is 44 item.rest u in
    let goes : arrow (run (fresh (suc n)) i.text) 44 ≡ fresh n = subst (Acts (run (fresh (suc n)) i.text) (after_item (suc n)) true) all i.acts in
    out_bind Any (ItemsFault n 44 ds) Any (ItemsFault (suc n) before bytes) (items_at (suc n) ds) (λ more. Ok (item.it ∷ more)) (further ds) (λ more v. tt)
    (λ left f. later (SomeItems (suc n)) (SomeItems (suc (suc n))) (i.text ++ 44 ∷ []) before (fresh (suc n)) 44 (fresh n) ds bytes left
    (last_on before i.text (44 ∷ [])) (run_on (fresh (suc n)) i.text (44 ∷ []) ∙ goes)
    (i.whole ∙ (ap (λ l. i.text ++ l) all ∙ sym (append_assoc i.text (44 ∷ []) ds)))
    (λ text q. joined (suc n) item.it i.text text q.0 i.is_item q.1 q.2) f)

items_out : (n before : ℕ) (bytes : List ℕ) → Out Any (ItemsFault n before bytes) (items_at (suc n) bytes)
items_out zero before bytes = items_with zero before bytes (items_last before bytes)
items_out (suc n) before bytes = items_with (suc n) before bytes (items_next n before bytes (λ rest. items_out n 44 rest))

-- where reading breaks off in a whole text
abbrev pub FaultOf : ℕ → List ℕ → ℕ → Type 0
FaultOf n bytes left = Fault (SomeItems (suc n)) 0 (fresh n) bytes left

pub fault_of : (n left : ℕ) (bytes : List ℕ) → items_at (suc n) bytes ≡ Err left → FaultOf n bytes left
fault_of n left bytes e = subst (Out Any (ItemsFault n 0 bytes)) e (items_out n 0 bytes)

pub place_of : (n left : ℕ) (bytes : List ℕ) (f : FaultOf n bytes left) → length f.front ≡ length bytes - left
place_of n left bytes f =
    let long : length bytes ≡ length f.front + length f.back = ap length f.whole ∙ length-append f.front f.back in
    omega (arith, long, f.left_is)

pub left_of : (n left : ℕ) (bytes : List ℕ) (f : FaultOf n bytes left) → left ≤ length bytes
left_of n left bytes f =
    let long : length bytes ≡ length f.front + length f.back = ap length f.whole ∙ length-append f.front f.back in
    omega (arith, long, f.left_is)

pub front_of : (n left : ℕ) (bytes : List ℕ) (f : FaultOf n bytes left) → take (length bytes - left) bytes ≡ f.front
front_of n left bytes f = ap (take (length bytes - left)) f.whole ∙ take_at f.front f.back (length bytes - left) (place_of n left bytes f)

-- Why reading breaks off, with some bytes left: the text ends and isn't one of at most n further items and one; or a byte
-- stands there, and no such text begins with the bytes up to it; or a number out of range begins there.
pub record EndsUnfinished (n left : ℕ) (bytes : List ℕ) : Type 0 where
  pub none : left ≡ 0
  pub unfinished : (ds : List Dim) → AreItems bytes ds → length ds ≤ suc n → ⊥

pub record CantGoOn (n left : ℕ) (bytes : List ℕ) : Type 0 where
  pub inside : length bytes - left < length bytes
  pub ends : (rest : List ℕ) (ds : List Dim) → AreItems (take (length bytes - left + 1) bytes ++ rest) ds → length ds ≤ suc n → ⊥

pub record NumberTooLarge (bytes : List ℕ) (place : ℕ) : Type 0 where
  pub behind : IsTrue (is_letter (slice_index bytes (place - 1))) ⊎ (slice_index bytes (place - 1) ≡ 58)
  pub some : 0 < place
  pub size : ℕ
  pub value : ℤ
  pub number : IsNumber (take size (drop place bytes)) value
  pub range : FitsSigned w32 value → ⊥

abbrev pub BreaksOff : ℕ → ℕ → List ℕ → Type 0
BreaksOff n left bytes = EndsUnfinished n left bytes ⊎ (CantGoOn n left bytes ⊎ NumberTooLarge bytes (length bytes - left))

unfinished_end : (n left : ℕ) (bytes front : List ℕ) → bytes ≡ front ++ [] → 0 ≡ left → final (run (fresh n) front) ≡ false → EndsUnfinished n left bytes
unfinished_end n left bytes front whole none stuck = record {
  none = sym none;
  unfinished = λ ds items few.
      let alive : final (run (fresh n) bytes) ≡ true = items_run n bytes ds items few in
      let same : final (run (fresh n) bytes) ≡ final (run (fresh n) front) = ap (λ l. final (run (fresh n) l)) (whole ∙ append-nil front) in
      cc;
}

stuck_byte : (n left : ℕ) (bytes front : List ℕ) (c : ℕ) (back : List ℕ) → bytes ≡ front ++ c ∷ back → length (c ∷ back) ≡ left → length front ≡ length bytes - left → arrow (run (fresh n) front) c ≡ dead → CantGoOn n left bytes
stuck_byte n left bytes front c back whole left_is place stuck =
    let all : bytes ≡ (front ++ c ∷ []) ++ back = whole ∙ sym (append_assoc front (c ∷ []) back) in
    let size : length bytes ≡ length front + length (c ∷ back) = ap length whole ∙ length-append front (c ∷ back) in
    let long : length (front ++ c ∷ []) ≡ length bytes - left + 1 = length-append front (c ∷ []) ∙ omega arith in
    let begun : take (length bytes - left + 1) bytes ≡ front ++ c ∷ [] = ap (take (length bytes - left + 1)) all ∙ take_at (front ++ c ∷ []) back (length bytes - left + 1) long in
    record { inside = omega arith; ends = λ rest ds items few. refuted begun rest ds items few }
  where
    refuted : take (length bytes - left + 1) bytes ≡ front ++ c ∷ [] → (rest : List ℕ) (ds : List Dim) → AreItems (take (length bytes - left + 1) bytes ++ rest) ds → length ds ≤ suc n → ⊥
    refuted begun rest ds items few =
        let alive : final (run (fresh n) ((front ++ c ∷ []) ++ rest)) ≡ true = items_run n ((front ++ c ∷ []) ++ rest) ds (subst (λ l. AreItems (l ++ rest) ds) begun items) few in
        let over : run (fresh n) ((front ++ c ∷ []) ++ rest) ≡ dead = run_on (fresh n) (front ++ c ∷ []) rest ∙ (ap (λ s. run s rest) (run_on (fresh n) front (c ∷ []) ∙ stuck) ∙ run_dead rest) in
        let fails : final (run (fresh n) ((front ++ c ∷ []) ++ rest)) ≡ false = ap final over in
        cc

stuck_there : (n left : ℕ) (bytes front back : List ℕ) → bytes ≡ front ++ back → length back ≡ left → length front ≡ length bytes - left → IsStuck (run (fresh n) front) back → BreaksOff n left bytes
stuck_there n left bytes front [] whole left_is place stuck = inl (unfinished_end n left bytes front whole left_is stuck)
stuck_there n left bytes front (c ∷ back) whole left_is place stuck = inr (inl (stuck_byte n left bytes front c back whole left_is place stuck))

last_at : (b : ℕ) (front back : List ℕ) → 0 < length front → slice_index (front ++ back) (length front - 1) ≡ last_or b front
last_at b [] back some = absurd (omega arith)
last_at b (c ∷ []) back some = refl
last_at b (c ∷ d ∷ front) back some =
    let index : length (c ∷ d ∷ front) - 1 ≡ suc (length (d ∷ front) - 1) = omega arith in
    ap (slice_index (c ∷ d ∷ (front ++ back))) index ∙ last_at c (d ∷ front) back (omega arith)

some_before : (front : List ℕ) → BeginsNumber (last_or 0 front) → 0 < length front
some_before [] (inl e) = cc
some_before [] (inr e) = omega arith
some_before (c ∷ front) e = omega arith

too_large_there : (bytes front back : List ℕ) (place : ℕ) → bytes ≡ front ++ back → length front ≡ place → TooLarge (last_or 0 front) back → NumberTooLarge bytes place
too_large_there bytes front back place whole place_is t =
    let some : 0 < length front = some_before front t.behind in
    let last : slice_index bytes (place - 1) ≡ last_or 0 front = ap (λ l. slice_index l (place - 1)) whole ∙ (ap (λ k. slice_index (front ++ back) (k - 1)) (sym place_is) ∙ last_at 0 front back some) in
    let there : drop place bytes ≡ t.number ++ t.rest = ap (drop place) whole ∙ (drop_at front back place place_is ∙ t.whole) in
    record {
      behind = subst BeginsNumber (sym last) t.behind;
      some = omega arith;
      size = length t.number;
      value = t.value;
      number = subst (λ l. IsNumber l t.value) (sym (ap (take (length t.number)) there ∙ take_at t.number t.rest (length t.number) refl)) t.is_number;
      range = t.range;
    }

pub breaks : (n left : ℕ) (bytes : List ℕ) → items_at (suc n) bytes ≡ Err left → (left ≤ length bytes) × BreaksOff n left bytes
breaks n left bytes e = let f : FaultOf n bytes left = fault_of n left bytes e in (left_of n left bytes f, by f f.why)
  where
    by : (f : FaultOf n bytes left) → IsStuck (run (fresh n) f.front) f.back ⊎ TooLarge (last_or 0 f.front) f.back → BreaksOff n left bytes
    by f (inl x) = stuck_there n left bytes f.front f.back f.whole f.left_is (place_of n left bytes f) x
    by f (inr x) = inr (inr (too_large_there bytes f.front f.back (length bytes - left) f.whole (place_of n left bytes f) x))
