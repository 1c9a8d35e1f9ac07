-- What is spelled as a dimension text is read as that.
use Rattle.std.proofs.Common.{◌≡◌, ℕ, zero, suc, ◌+◌, ◌-◌, ◌<◌, ◌≤◌, ℤ, pos, negsuc, List, [], ◌∷◌, ◌++◌, take, drop, length, true, false, ◌==◌, nat_le, Result, Ok, Err, refl, ap, sym, ◌∙◌, subst, arith, inl, inr, w32, append_assoc, append-nil}
use Rattle.std.specs.Prelude.{replicate, IsTrue, FitsSigned, neg_ℤ}
use Rattle.std.specs.List.{prefix_len, AllByRecursion}
use Rattle.std.specs.Char.{is_ascii_digit, digit_value}
use Rattle.std.specs.Int.{IsInRange as IsBetween}
use Rattle.std.specs.Str.Parse.{AllDigits, digits_value}
use Rattle.std.proofs.Math.Seq.{take-append_seam, drop-append_seam}
use Rattle.std.proofs.lemmas.Bool.{cases_Bool, eqb-true, ne_eqb, le-leb}
use Rattle.std.proofs.lemmas.Bool.Decides.{nat_tests}
use Rattle.std.proofs.lemmas.Str.Parse.{digit_from_value}
use Rattle.czi_doc.specs.DimText.{IsNatural, IsNumber, IsName, AreSizes, IsItem, AreItems, IsInRange, IsDimText, is_letter}
use Rattle.czi_format.specs.FirstFault.{◌>>=◌}
use Rattle.czi_format.specs.Entry.{Dim}
use Rattle.czi_doc.specs.Reading.{Read, name_len, name_at, number_len, magnitude_at, negative_at, positive_at, begins_with, number_at, Sizes, stored_at, sizes_at, item_at, behind, items_at}

abbrev read_ok : {X : Type 0} → X → List ℕ → Result (Read X) ℕ
read_ok it rest = Ok (record { it = it; rest = rest })

read_is : {X : Type 0} (a b : X) (r s : List ℕ) → a ≡ b → r ≡ s → read_ok a r ≡ read_ok b s
read_is a b r s e f = cc

pub begins_at : (c b : ℕ) (bytes : List ℕ) → begins_with c (b ∷ bytes) ≡ (b == c)
begins_at c b bytes = there (ne_eqb (suc (length bytes)) 0 (λ none. omega (arith, none)))
  where
    there : (suc (length bytes) == 0) ≡ false → begins_with c (b ∷ bytes) ≡ (b == c)
    there t = rw t

bind_is : {A B : Type 0} (r : Result A ℕ) (f : A → Result B ℕ) (x : A) → r ≡ Ok x → (r >>= f) ≡ f x
bind_is r f x e = ap (λ s. s >>= f) e

-- a front of letters, and no letter behind it

none_front : (n : ℕ) (bytes : List ℕ) → prefix_len is_letter bytes ≡ 0 → prefix_len is_letter (take n bytes) ≡ 0
none_front zero bytes e = refl
none_front (suc n) [] e = refl
none_front (suc n) (b ∷ bytes) e = elim (cases_Bool (is_letter b)) [
  | inl t ↦ absurd (let one : prefix_len is_letter (b ∷ bytes) ≡ 1 + prefix_len is_letter bytes = more t in omega (arith, one, e))
  | inr t ↦ none t
]
  where
    more : is_letter b ≡ true → prefix_len is_letter (b ∷ bytes) ≡ 1 + prefix_len is_letter bytes
    more t = rw t

    none : is_letter b ≡ false → prefix_len is_letter (b ∷ take n bytes) ≡ 0
    none t = rw t

letters_front : (n : ℕ) (name bytes : List ℕ) → AllByRecursion (λ b. IsTrue (is_letter b)) name → length name ≤ n → prefix_len is_letter bytes ≡ 0 → prefix_len is_letter (take n (name ++ bytes)) ≡ length name
letters_front n [] bytes letters few stop = none_front n bytes stop
letters_front zero (b ∷ name) bytes letters few stop = absurd (omega arith)
letters_front (suc n) (b ∷ name) bytes letters few stop =
    let rest : prefix_len is_letter (take n (name ++ bytes)) ≡ length name = letters_front n name bytes letters.1 (omega arith) stop in
    let one : prefix_len is_letter (b ∷ take n (name ++ bytes)) ≡ 1 + prefix_len is_letter (take n (name ++ bytes)) = more letters.0 in
    omega (arith, rest, one)
  where
    more : is_letter b ≡ true → prefix_len is_letter (b ∷ take n (name ++ bytes)) ≡ 1 + prefix_len is_letter (take n (name ++ bytes))
    more t = rw t

name_here : (bytes : List ℕ) (k : ℕ) → name_len bytes ≡ k → (k == 0) ≡ false → name_at bytes ≡ Ok (record { it = take k bytes ++ replicate (4 - k) 0; rest = drop k bytes })
unfolding name_at
name_here bytes k e t = rw e (rw t)

pub name_again : (name bytes : List ℕ) → IsName name → prefix_len is_letter bytes ≡ 0 → name_at (name ++ bytes) ≡ Ok (record { it = name ++ replicate (4 - length name) 0; rest = bytes })
name_again name bytes is stop =
    name_here (name ++ bytes) (length name) (letters_front 4 name bytes is.letters is.few stop) (ne_eqb (length name) 0 (λ none. let some : 1 ≤ length name = is.some in omega (arith, none)))
    ∙ read_is _ _ _ _ (ap (λ l. l ++ replicate (4 - length name) 0) (take-append_seam name bytes)) (drop-append_seam name bytes)

-- a front of digits, and no digit behind it

is_digit : (c : ℕ) → digit_value c < 10 → is_ascii_digit c ≡ true
is_digit c h = let range : IsBetween 48 57 c = digit_from_value c h in between range.0 range.1
  where
    between : 48 ≤ c → c ≤ 57 → is_ascii_digit c ≡ true
    between low high = grind (arith, nat_tests)

digits_front : (digits bytes : List ℕ) → AllDigits 10 digits → prefix_len is_ascii_digit bytes ≡ 0 → prefix_len is_ascii_digit (digits ++ bytes) ≡ length digits
digits_front [] bytes all stop = stop
digits_front (c ∷ digits) bytes all stop =
    let rest : prefix_len is_ascii_digit (digits ++ bytes) ≡ length digits = digits_front digits bytes all.1 stop in
    let one : prefix_len is_ascii_digit (c ∷ (digits ++ bytes)) ≡ 1 + prefix_len is_ascii_digit (digits ++ bytes) = more (is_digit c all.0) in
    omega (arith, rest, one)
  where
    more : is_ascii_digit c ≡ true → prefix_len is_ascii_digit (c ∷ (digits ++ bytes)) ≡ 1 + prefix_len is_ascii_digit (digits ++ bytes)
    more t = rw t

pub number_front : (digits bytes : List ℕ) (n : ℕ) → IsNatural digits n → prefix_len is_ascii_digit bytes ≡ 0 → number_len (digits ++ bytes) ≡ length digits
number_front [] bytes n is stop = absurd (let some : 0 < length {A = ℕ} [] = is.digits.0 in omega (arith, some))
number_front (b ∷ digits) bytes n is stop = elim (cases_Bool (b == 48)) [
  | inl t ↦ zero_first t ∙ sym (is.lean (eqb-true _ _ t))
  | inr t ↦ run t ∙ digits_front (b ∷ digits) bytes is.digits.1 stop
]
  where
    zero_first : (b == 48) ≡ true → number_len (b ∷ (digits ++ bytes)) ≡ 1
    zero_first t = rw t

    run : (b == 48) ≡ false → number_len (b ∷ (digits ++ bytes)) ≡ prefix_len is_ascii_digit (b ∷ (digits ++ bytes))
    run t = rw t

record Natural (bytes : List ℕ) (n : ℕ) (rest : List ℕ) : Type 0 where
  some : (number_len bytes == 0) ≡ false
  value : magnitude_at bytes ≡ n
  behind : drop (number_len bytes) bytes ≡ rest

natural_again : (digits bytes : List ℕ) (n : ℕ) → IsNatural digits n → prefix_len is_ascii_digit bytes ≡ 0 → Natural (digits ++ bytes) n bytes
natural_again digits bytes n is stop =
    let long : number_len (digits ++ bytes) ≡ length digits = number_front digits bytes n is stop in
    let some : 0 < length digits = is.digits.0 in
    record {
      some = ne_eqb (number_len (digits ++ bytes)) 0 (λ none. omega (arith, none, long, some));
      value = ap (λ k. digits_value 10 (take k (digits ++ bytes))) long ∙ (ap (digits_value 10) (take-append_seam digits bytes) ∙ is.value);
      behind = ap (λ k. drop k (digits ++ bytes)) long ∙ drop-append_seam digits bytes;
    }

most_pos : (n : ℕ) → FitsSigned w32 (pos n) → n ≤ 2147483647
most_pos n h = omega (arith, h.sfits)

most_neg : (n : ℕ) → FitsSigned w32 (negsuc n) → 1 + n ≤ 2147483648
most_neg n h = omega (arith, h.sfits)

positive_here : (bytes : List ℕ) (n : ℕ) (rest : List ℕ) → Natural bytes n rest → nat_le n 2147483647 ≡ true → positive_at bytes ≡ Ok (record { it = pos n; rest = rest })
unfolding positive_at
positive_here bytes n rest is small = there is.some (ap (λ m. nat_le m 2147483647) is.value ∙ small) ∙ read_is _ _ _ _ (ap pos is.value) is.behind
  where
    there : (number_len bytes == 0) ≡ false → nat_le (magnitude_at bytes) 2147483647 ≡ true → positive_at bytes ≡ Ok (record { it = pos (magnitude_at bytes); rest = drop (number_len bytes) bytes })
    there t u = rw (t, u)

negative_here : (bytes : List ℕ) (n : ℕ) (rest : List ℕ) → Natural bytes (1 + n) rest → nat_le (1 + n) 2147483648 ≡ true → negative_at bytes ≡ Ok (record { it = negsuc n; rest = rest })
unfolding negative_at
negative_here bytes n rest is small =
    let one : 1 + n ≡ suc n = omega arith in
    there (ne_eqb (magnitude_at bytes) 0 (λ none. let v : magnitude_at bytes ≡ 1 + n = is.value in omega (arith, none, v))) (ap (λ m. nat_le m 2147483648) is.value ∙ small) ∙ read_is _ _ _ _ (ap (λ m. neg_ℤ (pos m)) (is.value ∙ one)) is.behind
  where
    there : (magnitude_at bytes == 0) ≡ false → nat_le (magnitude_at bytes) 2147483648 ≡ true → negative_at bytes ≡ Ok (record { it = neg_ℤ (pos (magnitude_at bytes)); rest = drop (number_len bytes) bytes })
    there t u = rw (t, u)

digit_first : (b c : ℕ) (bytes : List ℕ) → digit_value b < 10 → (digit_value c < 10 → ⊥) → begins_with c (b ∷ bytes) ≡ false
digit_first b c bytes digit other = begins_at c b bytes ∙ ne_eqb b c (λ same. other (subst (λ x. digit_value x < 10) same digit))

no_minus : (digits bytes : List ℕ) (n : ℕ) → IsNatural digits n → begins_with 45 (digits ++ bytes) ≡ false
no_minus [] bytes n is = absurd (let some : 0 < length {A = ℕ} [] = is.digits.0 in omega (arith, some))
no_minus (b ∷ digits) bytes n is = digit_first b 45 (digits ++ bytes) is.digits.1.0 (λ h. omega (arith, h))

pub number_again : (text bytes : List ℕ) (z : ℤ) → IsNumber text z → FitsSigned w32 z → prefix_len is_ascii_digit bytes ≡ 0 → number_at (text ++ bytes) ≡ Ok (record { it = z; rest = bytes })
number_again text bytes (pos n) is fits stop = plus (no_minus text bytes n is) ∙ positive_here (text ++ bytes) n bytes (natural_again text bytes n is stop) (le-leb n 2147483647 (most_pos n fits))
  where
    plus : begins_with 45 (text ++ bytes) ≡ false → number_at (text ++ bytes) ≡ positive_at (text ++ bytes)
    plus t = rw t
number_again text bytes (negsuc n) is fits stop = ap (λ l. number_at (l ++ bytes)) is.1 ∙ (minus (begins_at 45 45 (is.0 ++ bytes)) ∙ negative_here (is.0 ++ bytes) n bytes (natural_again is.0 bytes (1 + n) is.2 stop) (le-leb (1 + n) 2147483648 (most_neg n fits)))
  where
    minus : begins_with 45 (45 ∷ (is.0 ++ bytes)) ≡ true → number_at (45 ∷ (is.0 ++ bytes)) ≡ negative_at (is.0 ++ bytes)
    minus t = rw t

-- a number doesn't begin with a letter
pub no_letter : (text bytes : List ℕ) (z : ℤ) → IsNumber text z → prefix_len is_letter (text ++ bytes) ≡ 0
no_letter text bytes (pos n) is = natural text is
  where
    other : (b : ℕ) (more : List ℕ) → digit_value b < 10 → prefix_len is_letter (b ∷ more) ≡ 0
    other b more digit = none (not_letter (digit_from_value b digit).1)
      where
        not_letter : b ≤ 57 → is_letter b ≡ false
        not_letter h = grind (arith, nat_tests)

        none : is_letter b ≡ false → prefix_len is_letter (b ∷ more) ≡ 0
        none t = rw t

    natural : (digits : List ℕ) → IsNatural digits n → prefix_len is_letter (digits ++ bytes) ≡ 0
    natural [] is = absurd (let some : 0 < length {A = ℕ} [] = is.digits.0 in omega (arith, some))
    natural (b ∷ digits) is = other b (digits ++ bytes) is.digits.1.0
no_letter text bytes (negsuc n) is = ap (λ l. prefix_len is_letter (l ++ bytes)) is.1

-- what may stand behind an item
pub record Ends (bytes : List ℕ) : Type 0 where
  pub no_digit : prefix_len is_ascii_digit bytes ≡ 0
  pub no_colon : begins_with 58 bytes ≡ false

stored_none : (size : ℤ) (bytes : List ℕ) → begins_with 58 bytes ≡ false → stored_at size bytes ≡ Ok (record { it = record { size = size; stored = size }; rest = bytes })
stored_none size bytes t = rw t

sizes_none : (bytes : List ℕ) → begins_with 58 bytes ≡ false → sizes_at bytes ≡ Ok (record { it = record { size = pos 1; stored = pos 1 }; rest = bytes })
sizes_none bytes t = rw t

stored_again : (size stored : ℤ) (text bytes : List ℕ) → IsNumber text stored → FitsSigned w32 stored → Ends bytes → stored_at size (58 ∷ (text ++ bytes)) ≡ Ok (record { it = record { size = size; stored = stored }; rest = bytes })
stored_again size stored text bytes is fits ends = there (begins_at 58 58 (text ++ bytes)) ∙ bind_is (number_at (text ++ bytes)) (λ s. Ok (record { it = record { size = size; stored = s.it }; rest = s.rest })) _ (number_again text bytes stored is fits ends.no_digit)
  where
    there : begins_with 58 (58 ∷ (text ++ bytes)) ≡ true → stored_at size (58 ∷ (text ++ bytes)) ≡ (number_at (text ++ bytes) >>= λ s. Ok (record { it = record { size = size; stored = s.it }; rest = s.rest }))
    there t = rw t

sizes_step : (text bytes : List ℕ) (size : ℤ) → IsNumber text size → FitsSigned w32 size → prefix_len is_ascii_digit bytes ≡ 0 → sizes_at (58 ∷ (text ++ bytes)) ≡ stored_at size bytes
sizes_step text bytes size is fits stop = there (begins_at 58 58 (text ++ bytes)) ∙ bind_is (number_at (text ++ bytes)) (λ s. stored_at s.it s.rest) _ (number_again text bytes size is fits stop)
  where
    there : begins_with 58 (58 ∷ (text ++ bytes)) ≡ true → sizes_at (58 ∷ (text ++ bytes)) ≡ (number_at (text ++ bytes) >>= λ s. stored_at s.it s.rest)
    there t = rw t

pub sizes_again : (text bytes : List ℕ) (size stored : ℤ) → AreSizes text size stored → FitsSigned w32 size → FitsSigned w32 stored → Ends bytes → sizes_at (text ++ bytes) ≡ Ok (record { it = record { size = size; stored = stored }; rest = bytes })
sizes_again text bytes size stored is size_fits stored_fits ends = elim is [
  | inl none ↦ ap (λ l. sizes_at (l ++ bytes)) none.0 ∙ (sizes_none bytes ends.no_colon ∙ read_is _ _ bytes bytes (same (pos 1) (pos 1) size stored (sym none.1) (sym none.1 ∙ sym none.2)) refl)
  | inr some ↦ elim some [
    | inl one ↦ ap (λ l. sizes_at (l ++ bytes)) one.1 ∙ (sizes_step one.0 bytes size one.2 size_fits ends.no_digit
        ∙ (stored_none size bytes ends.no_colon ∙ read_is _ _ bytes bytes (same size size size stored refl (sym one.3)) refl))
    | inr two ↦ ap (λ l. sizes_at (l ++ bytes)) two.2 ∙ (ap (λ l. sizes_at (58 ∷ l)) (append_assoc two.0 (58 ∷ two.1) bytes)
        ∙ (sizes_step two.0 (58 ∷ (two.1 ++ bytes)) size two.3 size_fits refl ∙ stored_again size stored two.1 bytes two.4 stored_fits ends))
  ]
]
  where
    same : (a b c d : ℤ) → a ≡ c → b ≡ d → record { size = a; stored = b } ≡ (let s : Sizes = record { size = c; stored = d } in s)
    same a b c d e f = cc

no_digit_sizes : (text bytes : List ℕ) (size stored : ℤ) → AreSizes text size stored → Ends bytes → prefix_len is_ascii_digit (text ++ bytes) ≡ 0
no_digit_sizes text bytes size stored is ends = elim is [
  | inl none ↦ ap (λ l. prefix_len is_ascii_digit (l ++ bytes)) none.0 ∙ ends.no_digit
  | inr some ↦ elim some [
    | inl one ↦ ap (λ l. prefix_len is_ascii_digit (l ++ bytes)) one.1
    | inr two ↦ ap (λ l. prefix_len is_ascii_digit (l ++ bytes)) two.2
  ]
]

item_steps : (bytes name start_bytes sizes_bytes rest : List ℕ) (start size stored : ℤ) → name_at bytes ≡ Ok (record { it = name; rest = start_bytes }) → number_at start_bytes ≡ Ok (record { it = start; rest = sizes_bytes })
    → sizes_at sizes_bytes ≡ Ok (record { it = record { size = size; stored = stored }; rest = rest })
    → item_at bytes ≡ Ok (record { it = record { name = name; start = start; size = size; coord = replicate 4 0; stored = stored }; rest = rest })
unfolding item_at
item_steps bytes name start_bytes sizes_bytes rest start size stored a b c = rw a (rw b (rw c))

pub item_again : (text bytes : List ℕ) (d : Dim) → IsItem text d → IsInRange d → Ends bytes → item_at (text ++ bytes) ≡ Ok (record { it = d; rest = bytes })
item_again text bytes d is fits ends =
    ap item_at whole
    ∙ (item_steps (is.name ++ (is.start ++ (is.sizes ++ bytes))) _ (is.start ++ (is.sizes ++ bytes)) (is.sizes ++ bytes) bytes d.start d.size d.stored
    (name_again is.name (is.start ++ (is.sizes ++ bytes)) is.is_name (no_letter is.start (is.sizes ++ bytes) d.start is.is_start))
    (number_again is.start (is.sizes ++ bytes) d.start is.is_start fits.start (no_digit_sizes is.sizes bytes d.size d.stored is.are_sizes ends))
    (sizes_again is.sizes bytes d.size d.stored is.are_sizes fits.size fits.stored ends)
    ∙ read_is _ d bytes bytes (same _ _ (sym is.padded) (sym is.coord)) refl)
  where
    whole : text ++ bytes ≡ is.name ++ (is.start ++ (is.sizes ++ bytes))
    whole = ap (λ l. l ++ bytes) is.whole ∙ (append_assoc is.name (is.start ++ is.sizes) bytes ∙ ap (λ l. is.name ++ l) (append_assoc is.start is.sizes bytes))

    same : (name coord : List ℕ) → name ≡ d.name → coord ≡ d.coord → record { name = name; start = d.start; size = d.size; coord = coord; stored = d.stored } ≡ d
    same name coord e f = ap (λ n. record { name = n; start = d.start; size = d.size; coord = coord; stored = d.stored }) e ∙ ap (λ c. record { name = d.name; start = d.start; size = d.size; coord = c; stored = d.stored }) f

items_step : (n : ℕ) (bytes : List ℕ) → items_at (suc n) bytes ≡ (item_at bytes >>= λ item. behind (items_at n) item.it item.rest)
unfolding items_at
items_step n bytes = refl

one_item : (n : ℕ) (bytes rest : List ℕ) (d : Dim) → item_at bytes ≡ Ok (record { it = d; rest = rest }) → items_at (suc n) bytes ≡ behind (items_at n) d rest
one_item n bytes rest d e = items_step n bytes ∙ bind_is (item_at bytes) (λ item. behind (items_at n) item.it item.rest) (record { it = d; rest = rest }) e

after_comma : (n : ℕ) (d : Dim) (rest : List ℕ) → behind (items_at n) d (44 ∷ rest) ≡ (items_at n rest >>= λ more. Ok (d ∷ more))
after_comma n d rest = there (ne_eqb (suc (length rest)) 0 (λ none. omega (arith, none)))
  where
    there : (suc (length rest) == 0) ≡ false → behind (items_at n) d (44 ∷ rest) ≡ (items_at n rest >>= λ more. Ok (d ∷ more))
    there t = rw t

pub only : (n : ℕ) (text : List ℕ) (ds : List Dim) → AreItems text ds → length ds ≤ n → AllByRecursion IsInRange ds → items_at n text ≡ Ok ds
only n text [] is few fits = absurd is
only zero text (d ∷ ds) is few fits = absurd (omega arith)
only (suc n) text (d ∷ []) is few fits = one_item n text [] d (ap item_at (sym (append-nil text)) ∙ item_again text [] d is fits.0 (record { no_digit = refl; no_colon = refl }))
only (suc n) text (d ∷ e ∷ ds) is few fits =
    ap (items_at (suc n)) is.2
    ∙ (one_item n (is.0 ++ 44 ∷ is.1) (44 ∷ is.1) d (item_again is.0 (44 ∷ is.1) d is.3 fits.0 (record { no_digit = refl; no_colon = begins_at 58 44 is.1 }))
    ∙ (after_comma n d is.1 ∙ bind_is (items_at n is.1) (λ more. Ok (d ∷ more)) (e ∷ ds) (only n is.1 (e ∷ ds) is.4 (omega arith) fits.1)))

-- a dimension text is read as its dimensions alone, and with no fault
pub only_ok : (text : List ℕ) (read ds : List Dim) → items_at 40 text ≡ Ok read → IsDimText text ds → read ≡ ds
only_ok text read ds e is = let again : items_at 40 text ≡ Ok ds = only 40 text ds is.items is.few is.fits in cc

pub only_fault : {P : Type 0} (text : List ℕ) (left : ℕ) (ds : List Dim) → items_at 40 text ≡ Err left → IsDimText text ds → P
only_fault text left ds e is = let again : items_at 40 text ≡ Ok ds = only 40 text ds is.items is.few is.fits in cc
