-- The diagram of dimension text: spots, and what a byte leads to. Each text of items runs through it to an end of an item.
use Rattle.std.proofs.Common.{◌≡◌, ℕ, zero, suc, ◌+◌, ◌<◌, ◌≤◌, ℤ, pos, negsuc, List, [], ◌∷◌, ◌++◌, length, Bool, true, false, ◌⊎◌, ◌==◌, refl, ap, sym, ◌∙◌, subst, arith, inl, inr, if◌then◌else◌}
use Rattle.std.specs.Prelude.{IsTrue}
use Rattle.std.specs.List.{AllByRecursion}
use Rattle.std.specs.Char.{is_ascii_digit, digit_value}
use Rattle.std.specs.Str.Parse.{AllDigits, digits_value}
use Rattle.std.proofs.lemmas.Bool.{cases_Bool, eqb-true}
use Rattle.std.proofs.lemmas.Bool.Decides.{nat_tests}
use Rattle.std.proofs.lemmas.Str.Parse.{digit_from_value}
use Rattle.czi_doc.specs.DimText.{IsNatural, IsNumber, IsName, AreSizes, IsItem, AreItems, is_letter}
use Rattle.czi_format.specs.Entry.{Dim}

-- Where the run through a text stands, with n further items: before a name; in a name, with room for m letters; before a
-- number, behind its sign, behind a lone 0, behind its digits, where p times a `:` may follow; or nowhere.
pub data Spot : Type 0 where
  fresh : ℕ → Spot
  name : ℕ → ℕ → Spot
  due : ℕ → ℕ → Spot
  sign : ℕ → ℕ → Spot
  lone : ℕ → ℕ → Spot
  digits : ℕ → ℕ → Spot
  dead : Spot

abbrev pub next_item : ℕ → Spot
next_item zero = dead
next_item (suc n) = fresh n

-- behind an item
abbrev pub after_item : ℕ → ℕ → Spot
after_item n c = if c == 44 then next_item n else dead

-- behind a number
abbrev pub after : ℕ → ℕ → ℕ → Spot
after n zero c = after_item n c
after n (suc p) c = if c == 58 then due n p else after_item n c

abbrev pub first_digit : ℕ → ℕ → ℕ → Spot
first_digit n p c = if is_ascii_digit c then digits n p else dead

abbrev pub behind_sign : ℕ → ℕ → ℕ → Spot
behind_sign n p c = if c == 48 then dead else first_digit n p c

abbrev pub before_number : ℕ → ℕ → ℕ → Spot
before_number n p c = if c == 45 then sign n p else (if c == 48 then lone n p else first_digit n p c)

abbrev pub arrow : Spot → ℕ → Spot
arrow (fresh n) c = if is_letter c then name n 3 else dead
arrow (name n zero) c = before_number n 2 c
arrow (name n (suc m)) c = if is_letter c then name n m else before_number n 2 c
arrow (due n p) c = before_number n p c
arrow (sign n p) c = behind_sign n p c
arrow (lone n p) c = after n p c
arrow (digits n p) c = if is_ascii_digit c then digits n p else after n p c
arrow dead c = dead

abbrev pub run : Spot → List ℕ → Spot
run s [] = s
run s (c ∷ cs) = run (arrow s c) cs

-- a text may end here
abbrev pub final : Spot → Bool
final (fresh n) = false
final (name n m) = false
final (due n p) = false
final (sign n p) = false
final (lone n p) = true
final (digits n p) = true
final dead = false

pub run_on : (s : Spot) (a b : List ℕ) → run s (a ++ b) ≡ run (run s a) b
run_on s [] b = refl
run_on s (c ∷ a) b = run_on (arrow s c) a b

pub run_dead : (a : List ℕ) → run dead a ≡ dead
run_dead [] = refl
run_dead (c ∷ a) = run_dead a

-- behind a number with at most p times a `:` to follow
abbrev pub IsEnded : ℕ → ℕ → Spot → Type 0
IsEnded n p s = (s ≡ lone n p) ⊎ (s ≡ digits n p)

pub digit_test : (c : ℕ) → digit_value c < 10 → is_ascii_digit c ≡ true
digit_test c h = let r = digit_from_value c h in grind (arith, nat_tests)

pub digits_run : (n p : ℕ) (cs : List ℕ) → AllDigits 10 cs → run (digits n p) cs ≡ digits n p
digits_run n p [] all = refl
digits_run n p (c ∷ cs) all = ap (λ s. run s cs) (goes (digit_test c all.0)) ∙ digits_run n p cs all.1
  where
    goes : is_ascii_digit c ≡ true → arrow (digits n p) c ≡ digits n p
    goes e = rw e

natural_run : (n p v : ℕ) (text : List ℕ) → IsNatural text v → IsEnded n p (run (due n p) text)
natural_run n p v [] natural = absurd (omega (arith, natural.digits.0))
natural_run n p v (c ∷ cs) natural = elim (cases_Bool (c == 48)) [
  | inl t ↦ inl (ap (run (due n p)) (alone t cs natural.lean) ∙ zero_first t)
  | inr t ↦ inr (ap (λ s. run s cs) (other t (digit_test c natural.digits.1.0)) ∙ digits_run n p cs natural.digits.1.1)
]
  where
    alone : (c == 48) ≡ true → (cs : List ℕ) → (c ≡ 48 → length (c ∷ cs) ≡ 1) → c ∷ cs ≡ c ∷ []
    alone t [] lean = refl
    alone t (d ∷ cs) lean = absurd (let one : length (c ∷ d ∷ cs) ≡ 1 = lean (eqb-true c 48 t) in omega arith)

    zero_first : (c == 48) ≡ true → arrow (due n p) c ≡ lone n p
    zero_first t = ap (arrow (due n p)) (eqb-true c 48 t)

    other : (c == 48) ≡ false → is_ascii_digit c ≡ true → arrow (due n p) c ≡ digits n p
    other t u = let v : (c == 45) ≡ false = grind (arith, nat_tests) in rw (v, t, u)

below_zero_run : (n p v : ℕ) (text : List ℕ) → IsNatural text (1 + v) → IsEnded n p (run (sign n p) text)
below_zero_run n p v [] natural = absurd (omega (arith, natural.digits.0))
below_zero_run n p v (c ∷ cs) natural = elim (cases_Bool (c == 48)) [
  | inl t ↦ absurd (no_zero (eqb-true c 48 t) cs natural.lean natural.value)
  | inr t ↦ inr (ap (λ s. run s cs) (other t (digit_test c natural.digits.1.0)) ∙ digits_run n p cs natural.digits.1.1)
]
  where
    no_zero : c ≡ 48 → (cs : List ℕ) → (c ≡ 48 → length (c ∷ cs) ≡ 1) → digits_value 10 (c ∷ cs) ≡ 1 + v → ⊥
    no_zero t [] lean value = let none : digits_value 10 (c ∷ []) ≡ 0 = ap (λ b. digits_value 10 (b ∷ [])) t in omega arith
    no_zero t (d ∷ cs) lean value = let one : length (c ∷ d ∷ cs) ≡ 1 = lean t in omega arith

    other : (c == 48) ≡ false → is_ascii_digit c ≡ true → arrow (sign n p) c ≡ digits n p
    other t u = rw (t, u)

-- the spot is left as before a number, unless by a letter
abbrev pub Awaits : ℕ → ℕ → Spot → Type 0
Awaits n p s = (c : ℕ) → is_letter c ≡ false → arrow s c ≡ before_number n p c

pub number_due : (n p : ℕ) (v : ℤ) (text : List ℕ) → IsNumber text v → IsEnded n p (run (due n p) text)
number_due n p (pos v) text number = natural_run n p v text number
number_due n p (negsuc v) text number = subst (λ l. IsEnded n p (run (due n p) l)) (sym number.1) (below_zero_run n p v number.0 number.2)

-- a number doesn't begin with a letter
front_no_letter : (v : ℤ) (c : ℕ) (cs : List ℕ) → IsNumber (c ∷ cs) v → is_letter c ≡ false
front_no_letter (pos v) c cs number = let r = digit_from_value c number.digits.1.0 in grind (arith, nat_tests)
front_no_letter (negsuc v) c cs number = first number.0 number.1
  where
    first : (ds : List ℕ) → c ∷ cs ≡ 45 ∷ ds → is_letter c ≡ false
    first ds e = let c_is : c ≡ 45 = cc in rw c_is

no_empty_number : (v : ℤ) → IsNumber [] v → ⊥
no_empty_number (pos v) number = omega (arith, number.digits.0)
no_empty_number (negsuc v) number = cc (number.1)

number_run : (n p : ℕ) (v : ℤ) (s : Spot) (text : List ℕ) → Awaits n p s → IsNumber text v → IsEnded n p (run s text)
number_run n p v s [] awaits number = absurd (no_empty_number v number)
number_run n p v s (c ∷ cs) awaits number =
    subst (λ t. IsEnded n p (run t cs)) (sym (awaits c (front_no_letter v c cs number))) (number_due n p v (c ∷ cs) number)

-- behind some letters
abbrev IsNamed : ℕ → Spot → Type 0
IsNamed n s = (m : ℕ) × (s ≡ name n m)

letters_run : (n m : ℕ) (cs : List ℕ) → AllByRecursion (λ b. IsTrue (is_letter b)) cs → length cs ≤ m → IsNamed n (run (name n m) cs)
letters_run n m [] all few = (m, refl)
letters_run n zero (c ∷ cs) all few = absurd (omega arith)
letters_run n (suc m) (c ∷ cs) all few = subst (λ s. IsNamed n (run s cs)) (sym (goes all.0)) (letters_run n m cs all.1 (omega arith))
  where
    goes : is_letter c ≡ true → arrow (name n (suc m)) c ≡ name n m
    goes e = rw e

name_run : (n : ℕ) (text : List ℕ) → IsName text → IsNamed n (run (fresh n) text)
name_run n [] is = absurd (omega (arith, is.some))
name_run n (c ∷ cs) is = subst (λ s. IsNamed n (run s cs)) (sym (goes is.letters.0)) (letters_run n 3 cs is.letters.1 (omega (arith, is.few)))
  where
    goes : is_letter c ≡ true → arrow (fresh n) c ≡ name n 3
    goes e = rw e

named_awaits : (n : ℕ) (s : Spot) → IsNamed n s → Awaits n 2 s
named_awaits n s named = subst (Awaits n 2) (sym named.1) (by_room named.0)
  where
    by_room : (m : ℕ) → Awaits n 2 (name n m)
    by_room zero c e = refl
    by_room (suc m) c e = rw e

-- behind an item
record IsItemEnd (n : ℕ) (s : Spot) : Type 0 where
  fin : final s ≡ true
  comma : arrow s 44 ≡ next_item n

comma_after : (n p : ℕ) → after n p 44 ≡ next_item n
comma_after n zero = refl
comma_after n (suc p) = refl

ended_item : (n p : ℕ) (s : Spot) → IsEnded n p s → IsItemEnd n s
ended_item n p s (inl e) = subst (IsItemEnd n) (sym e) (record { fin = refl; comma = comma_after n p })
ended_item n p s (inr e) = subst (IsItemEnd n) (sym e) (record { fin = refl; comma = comma_after n p })

ended_colon : (n p : ℕ) (s : Spot) → IsEnded n (suc p) s → arrow s 58 ≡ due n p
ended_colon n p s (inl e) = ap (λ t. arrow t 58) e
ended_colon n p s (inr e) = ap (λ t. arrow t 58) e

-- a `:` and a number
colon_run : (n p : ℕ) (v : ℤ) (s : Spot) (text : List ℕ) → IsEnded n (suc p) s → IsNumber text v → IsEnded n p (run s (58 ∷ text))
colon_run n p v s text ended number = subst (λ t. IsEnded n p (run t text)) (sym (ended_colon n p s ended)) (number_due n p v text number)

sizes_run : (n : ℕ) (size stored : ℤ) (s : Spot) (text : List ℕ) → IsEnded n 2 s → AreSizes text size stored → IsItemEnd n (run s text)
sizes_run n size stored s text ended (inl none) = subst (λ l. IsItemEnd n (run s l)) (sym none.0) (ended_item n 2 s ended)
sizes_run n size stored s text ended (inr (inl one)) =
    subst (λ l. IsItemEnd n (run s l)) (sym one.1) (ended_item n 1 _ (colon_run n 1 size s one.0 ended one.2))
sizes_run n size stored s text ended (inr (inr two)) =
    let first : IsEnded n 1 (run s (58 ∷ two.0)) = colon_run n 1 size s two.0 ended two.3 in
    subst (λ l. IsItemEnd n (run s l)) (sym two.2)
    (subst (IsItemEnd n) (sym (run_on s (58 ∷ two.0) (58 ∷ two.1))) (ended_item n 0 _ (colon_run n 0 stored _ two.1 first two.4)))

item_run : (n : ℕ) (d : Dim) (text : List ℕ) → IsItem text d → IsItemEnd n (run (fresh n) text)
item_run n d text is =
    let named : IsNamed n (run (fresh n) is.name) = name_run n is.name is.is_name in
    let started : IsEnded n 2 (run (run (fresh n) is.name) is.start) = number_run n 2 d.start _ is.start (named_awaits n _ named) is.is_start in
    let ended : IsItemEnd n (run (run (run (fresh n) is.name) is.start) is.sizes) = sizes_run n d.size d.stored _ is.sizes started is.are_sizes in
    subst (IsItemEnd n) (sym (ap (run (fresh n)) is.whole ∙ (run_on (fresh n) is.name (is.start ++ is.sizes) ∙ run_on (run (fresh n) is.name) is.start is.sizes))) ended

-- the texts of at most n further items and one run to a spot where a text may end
pub items_run : (n : ℕ) (text : List ℕ) (ds : List Dim) → AreItems text ds → length ds ≤ suc n → final (run (fresh n) text) ≡ true
items_run n text [] items few = absurd items
items_run n text (d ∷ []) items few = (item_run n d text items).fin
items_run zero text (d ∷ e ∷ ds) items few = absurd (omega arith)
items_run (suc n) text (d ∷ e ∷ ds) items few =
    let one : IsItemEnd (suc n) (run (fresh (suc n)) items.0) = item_run (suc n) d items.0 items.3 in
    ap final (ap (run (fresh (suc n))) items.2 ∙ (run_on (fresh (suc n)) items.0 (44 ∷ items.1) ∙ ap (λ s. run s items.1) one.comma))
    ∙ items_run n items.1 (e ∷ ds) items.4 (omega arith)
