-- A whole text is a number or none, and one number at most.
use Rattle.std.proofs.Common.{◌≡◌, ℕ, ◌<◌, ◌≤◌, ℤ, List, [], ◌∷◌, ◌++◌, take, length, true, ◌==◌, Result, Ok, Err, ◌⊎◌, refl, ap, sym, ◌∙◌, subst, arith, inl, inr, append-nil, take_all}
use Rattle.std.specs.Prelude.{FitsSigned, MatchOption, Option, Some, None, ◌^◌}
use Rattle.std.specs.Str.Parse.{digits_value}
use Rattle.std.specs.Int.{w32}
use Rattle.std.proofs.Math.Facts.{to_z-of_z}
use mir.Val.{to_z, of_z}
use Rattle.std.proofs.lemmas.Bool.{cases_Bool, eqb-true, eqb-false}
use Rattle.czi_doc.specs.DimText.{IsNatural, IsNumber}
use Rattle.czi_doc.specs.Reading.{Read, number_len, magnitude_at, number_at}
use Rattle.czi_doc.proofs.Spelled.{NumberAt, number_found, natural_front}
use Rattle.czi_doc.proofs.ReadAgain.{number_again, number_front}

-- numbers without a sign

pub same_natural : (text : List ℕ) (n m : ℕ) → IsNatural text n → IsNatural text m → n ≡ m
same_natural text n m p q = sym p.value ∙ q.value

natural_len : (text : List ℕ) (n : ℕ) → IsNatural text n → number_len text ≡ length text
natural_len text n is = ap number_len (sym (append-nil text)) ∙ number_front text [] n is refl

pub natural_whole : (text : List ℕ) → number_len text ≡ length text → 0 < length text → IsNatural text (magnitude_at text)
natural_whole text e some = subst (λ l. IsNatural l (magnitude_at text)) whole (natural_front text (subst (λ l. 0 < length l) (sym whole) some))
  where
    whole : take (number_len text) text ≡ text
    whole = ap (λ n. take n text) e ∙ take_all (length text) text (omega arith)

pub no_natural : (text : List ℕ) (n : ℕ) → (number_len text ≡ 0) ⊎ (number_len text < length text) → IsNatural text n → ⊥
no_natural text n other is =
    let long : number_len text ≡ length text = natural_len text n is in
    elim other [ inl none ↦ omega (arith, long, none, is.digits.0) | inr less ↦ omega (arith, long, less) ]

pub natural_or : (text : List ℕ) → ((n : ℕ) × IsNatural text n) ⊎ ((n : ℕ) → IsNatural text n → ⊥)
natural_or text = elim (cases_Bool (number_len text == length text)) [
  | inr f ↦ inr (λ n is. eqb-false _ _ f (natural_len text n is))
  | inl t ↦ elim (cases_Bool (length text == 0)) [
    | inl none ↦ inr (λ n is. let e : length text ≡ 0 = eqb-true _ _ none in omega (arith, e, is.digits.0))
    | inr some ↦ inl (magnitude_at text, natural_whole text (eqb-true _ _ t) (let e = eqb-false _ _ some in omega (arith, e)))
  ]
]

pub natural_told : (text : List ℕ) (r : Option ℕ) → number_len text ≡ length text → 0 < length text → MatchOption r (2 ^ 64 ≤ digits_value 10 text) (λ v. v ≡ digits_value 10 text)
    → MatchOption r ((n : ℕ) → IsNatural text n → 2 ^ 64 ≤ n) (λ n. IsNatural text n)
natural_told text None e some large = λ n is. omega (arith, large, is.value)
natural_told text (Some v) e some value =
    let whole = natural_whole text e some in subst (IsNatural text) (sym whole.value ∙ sym value) whole

-- signed numbers of 32 bits

number_read : (text : List ℕ) (n : ℤ) → IsNumber text n → FitsSigned w32 n → number_at text ≡ Ok (record { it = n; rest = [] })
number_read text n is fits = ap number_at (sym (append-nil text)) ∙ number_again text [] n is fits refl

pub same_number : (text : List ℕ) (n m : ℤ) → IsNumber text n → FitsSigned w32 n → IsNumber text m → FitsSigned w32 m → n ≡ m
same_number text n m p fits q small = same (number_at text) (number_read text n p fits) (number_read text m q small)
  where
    inner : (a b : Read ℤ) (r : Result (Read ℤ) ℕ) → r ≡ Ok a → r ≡ Ok b → a ≡ b
    inner a b r e f = cc

    same : (r : Result (Read ℤ) ℕ) → r ≡ Ok (record { it = n; rest = [] }) → r ≡ Ok (record { it = m; rest = [] }) → n ≡ m
    same r e f = ap (λ (x : Read ℤ). x.it) (inner _ _ r e f)

pub number_whole : (text : List ℕ) (n : ℤ) (rest : List ℕ) → number_at text ≡ Ok (record { it = n; rest = rest }) → rest ≡ [] → IsNumber text n × FitsSigned w32 n
number_whole text n rest e none =
    let f : NumberAt text (record { it = n; rest = rest }) = number_found text _ e in
    (subst (λ t. IsNumber t n) (sym (f.whole ∙ ap (λ l. f.number ++ l) none ∙ append-nil f.number)) f.is_number, f.fits)

no_bytes : (l : List ℕ) → length l ≡ 0 → l ≡ []
no_bytes [] e = refl
no_bytes (x ∷ l) e = absurd (omega (arith, e))

pub number_told : (text : List ℕ) (n : ℤ) (rest : List ℕ) → Ok (record { it = n; rest = rest }) ≡ number_at text → (length rest == 0) ≡ true → IsNumber text (to_z w32 (of_z w32 n))
number_told text n rest e t =
    let w = number_whole text n rest (sym e) (no_bytes rest (eqb-true _ _ t)) in
    subst (IsNumber text) (sym (to_z-of_z w.1)) w.0

pub no_number_behind : (text : List ℕ) (r : Read ℤ) (n : ℤ) → number_at text ≡ Ok r → 0 < length r.rest → IsNumber text n → FitsSigned w32 n → ⊥
no_number_behind text r n e some is fits = let none : length r.rest ≡ 0 = ap length (rest_is (number_at text) e (number_read text n is fits)) in omega (arith, none, some)
  where
    inner : (a b : Read ℤ) (found : Result (Read ℤ) ℕ) → found ≡ Ok a → found ≡ Ok b → a ≡ b
    inner a b found e f = cc

    rest_is : (found : Result (Read ℤ) ℕ) → found ≡ Ok r → found ≡ Ok (record { it = n; rest = [] }) → r.rest ≡ []
    rest_is found e f = ap (λ (x : Read ℤ). x.rest) (inner _ _ found e f)

pub no_number : (text : List ℕ) (left : ℕ) (n : ℤ) → number_at text ≡ Err left → IsNumber text n → FitsSigned w32 n → ⊥
no_number text left n e is fits = apart (number_at text) e (number_read text n is fits)
  where
    apart : (r : Result (Read ℤ) ℕ) → r ≡ Err left → r ≡ Ok (record { it = n; rest = [] }) → ⊥
    apart r e f = cc

number_by : (text : List ℕ) (r : Result (Read ℤ) ℕ) → number_at text ≡ r → ((n : ℤ) × IsNumber text n × FitsSigned w32 n) ⊎ ((n : ℤ) → IsNumber text n → FitsSigned w32 n → ⊥)
number_by text (Err left) e = inr (λ n is fits. no_number text left n e is fits)
number_by text (Ok r) e = elim (cases_Bool (length r.rest == 0)) [
  | inr f ↦ inr (λ n is fits. no_number_behind text r n e (let some = eqb-false _ _ f in omega (arith, some)) is fits)
  | inl t ↦ inl (let w = number_whole text r.it r.rest e (no_bytes r.rest (eqb-true _ _ t)) in (r.it, w.0, w.1))
]

pub number_or : (text : List ℕ) → ((n : ℤ) × IsNumber text n × FitsSigned w32 n) ⊎ ((n : ℤ) → IsNumber text n → FitsSigned w32 n → ⊥)
number_or text = number_by text (number_at text) refl
