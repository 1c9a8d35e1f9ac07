-- Bytes up to the first of one value.
use Rattle.std.proofs.Common.{◌≡◌, ℕ, zero, suc, ◌+◌, ◌-◌, ◌<◌, ◌≤◌, List, [], ◌∷◌, ◌++◌, take, drop, length, true, false, ◌==◌, refl, ap, sym, ◌∙◌, subst, arith, inl, inr, length-take, take-take, take_all, min}
use Rattle.std.proofs.lemmas.List.{take_rest}
use Rattle.std.proofs.lemmas.Bool.{cases_Bool, eqb-true, eqb-false, ne_eqb}
use Rattle.czi_script.specs.Script.{HasNo, len_before}

len_here : (b x : ℕ) (xs : List ℕ) → (x == b) ≡ true → len_before b (x ∷ xs) ≡ 0
len_here b x xs t = rw t

pub len_on : (b x : ℕ) (xs : List ℕ) → (x == b) ≡ false → len_before b (x ∷ xs) ≡ 1 + len_before b xs
len_on b x xs t = rw t

-- the first byte b stands behind n others
pub record FirstAt (b n : ℕ) (bytes : List ℕ) : Type 0 where
  pub free : HasNo b (take n bytes)
  pub whole : bytes ≡ take n bytes ++ b ∷ drop (n + 1) bytes

first_here : (b x : ℕ) (xs : List ℕ) → x ≡ b → FirstAt b 0 (x ∷ xs)
first_here b x xs e = record { free = tt; whole = ap (λ y. y ∷ xs) e }

first_on : (b x k : ℕ) (xs : List ℕ) → (x ≡ b → ⊥) → FirstAt b k xs → FirstAt b (suc k) (x ∷ xs)
first_on b x k xs other f = record {
  free = (other, f.free);
  whole = ap (λ l. x ∷ l) f.whole ∙ ap (λ j. x ∷ (take k xs ++ b ∷ drop j (x ∷ xs))) (more k);
}
  where
    more : (j : ℕ) → suc (j + 1) ≡ suc j + 1
    more j = omega arith

pub first_at : (b : ℕ) (bytes : List ℕ) (n : ℕ) → n ≡ len_before b bytes → n < length bytes → FirstAt b n bytes
first_at b [] n e lt = absurd (omega arith)
first_at b (x ∷ xs) n e lt = elim (cases_Bool (x == b)) [
  | inl t ↦ subst (λ k. FirstAt b k (x ∷ xs)) (sym (e ∙ len_here b x xs t)) (first_here b x xs (eqb-true x b t))
  | inr t ↦
      let long : n ≡ suc (len_before b xs) = let on : len_before b (x ∷ xs) ≡ 1 + len_before b xs = len_on b x xs t in omega (arith, e, on) in
      subst (λ k. FirstAt b k (x ∷ xs)) (sym long) (first_on b x (len_before b xs) xs (eqb-false x b t) (first_at b xs (len_before b xs) refl (omega (arith, long, lt))))
]

-- none is b where as many stand before it
pub all_free : (b : ℕ) (bytes : List ℕ) → length bytes ≤ len_before b bytes → HasNo b bytes
all_free b [] le = tt
all_free b (x ∷ xs) le = elim (cases_Bool (x == b)) [
  | inl t ↦ absurd (let none : len_before b (x ∷ xs) ≡ 0 = len_here b x xs t in omega (arith, none, le))
  | inr t ↦ let on : len_before b (x ∷ xs) ≡ 1 + len_before b xs = len_on b x xs t in (eqb-false x b t, all_free b xs (omega (arith, on, le)))
]

pub not_free : (b : ℕ) (bytes : List ℕ) → len_before b bytes < length bytes → HasNo b bytes → ⊥
not_free b [] lt free = omega arith
not_free b (x ∷ xs) lt free = elim (cases_Bool (x == b)) [
  | inl t ↦ free.0 (eqb-true x b t)
  | inr t ↦ let on : len_before b (x ∷ xs) ≡ 1 + len_before b xs = len_on b x xs t in not_free b xs (omega (arith, on, lt)) free.1
]

-- what is first of a front is first of the whole
pub first_of_front : (b m : ℕ) (bytes : List ℕ) (n : ℕ) → n ≡ len_before b (take m bytes) → n < length (take m bytes) → n ≡ len_before b bytes
first_of_front b zero bytes n e lt = absurd (omega arith)
first_of_front b (suc m) [] n e lt = absurd (omega arith)
first_of_front b (suc m) (x ∷ xs) n e lt = elim (cases_Bool (x == b)) [
  | inl t ↦ e ∙ len_here b x (take m xs) t ∙ sym (len_here b x xs t)
  | inr t ↦
      let on : len_before b (x ∷ take m xs) ≡ 1 + len_before b (take m xs) = len_on b x (take m xs) t in
      let more : len_before b (take m xs) ≡ len_before b xs = first_of_front b m xs (len_before b (take m xs)) refl (omega (arith, on, e, lt)) in
      e ∙ on ∙ ap (λ k. 1 + k) more ∙ sym (len_on b x xs t)
]

-- the first of b parts the bytes in one way
pub record SameParts (front other more rest : List ℕ) : Type 0 where
  pub front_is : front ≡ other
  pub more_is : more ≡ rest

pub parted_once : (b : ℕ) (front other more rest : List ℕ) → HasNo b front → HasNo b other → front ++ b ∷ more ≡ other ++ b ∷ rest → SameParts front other more rest
parted_once b [] [] more rest f g e = record { front_is = refl; more_is = tail b b more rest e }
  where
    tail : (x y : ℕ) (xs ys : List ℕ) → x ∷ xs ≡ y ∷ ys → xs ≡ ys
    tail x y xs ys e = cc
parted_once b [] (y ∷ ys) more rest f g e = absurd (g.0 (head y b (ys ++ b ∷ rest) more (sym e)))
  where
    head : (x y : ℕ) (xs ys : List ℕ) → x ∷ xs ≡ y ∷ ys → x ≡ y
    head x y xs ys e = cc
parted_once b (x ∷ xs) [] more rest f g e = absurd (f.0 (head x b (xs ++ b ∷ more) rest e))
  where
    head : (x y : ℕ) (xs ys : List ℕ) → x ∷ xs ≡ y ∷ ys → x ≡ y
    head x y xs ys e = cc
parted_once b (x ∷ xs) (y ∷ ys) more rest f g e =
    let s : SameParts xs ys more rest = parted_once b xs ys more rest f.1 g.1 (tail x y (xs ++ b ∷ more) (ys ++ b ∷ rest) e) in
    record { front_is = both x y xs ys (head x y (xs ++ b ∷ more) (ys ++ b ∷ rest) e) s.front_is; more_is = s.more_is }
  where
    head : (x y : ℕ) (xs ys : List ℕ) → x ∷ xs ≡ y ∷ ys → x ≡ y
    head x y xs ys e = cc

    tail : (x y : ℕ) (xs ys : List ℕ) → x ∷ xs ≡ y ∷ ys → xs ≡ ys
    tail x y xs ys e = cc

    both : (x y : ℕ) (xs ys : List ℕ) → x ≡ y → xs ≡ ys → x ∷ xs ≡ y ∷ ys
    both x y xs ys p q = cc

pub free_append : (b : ℕ) (xs ys : List ℕ) → HasNo b xs → HasNo b ys → HasNo b (xs ++ ys)
free_append b [] ys f g = g
free_append b (x ∷ xs) ys f g = (f.0, free_append b xs ys f.1 g)

-- a list with b in it isn't free of it
pub held_in : (b : ℕ) (front more : List ℕ) → HasNo b (front ++ b ∷ more) → ⊥
held_in b [] more f = f.0 refl
held_in b (x ∷ front) more f = held_in b front more f.1

pub free_front : (b : ℕ) (xs ys : List ℕ) → HasNo b (xs ++ ys) → HasNo b xs
free_front b [] ys f = tt
free_front b (x ∷ xs) ys f = (f.0, free_front b xs ys f.1)

-- what stands in a front of the bytes
pub take_front : (n m : ℕ) (bytes : List ℕ) → n ≤ length (take m bytes) → take n (take m bytes) ≡ take n bytes
take_front zero m bytes le = refl
take_front (suc n) zero bytes le = absurd (omega arith)
take_front (suc n) (suc m) [] le = refl
take_front (suc n) (suc m) (x ∷ xs) le = ap (λ l. x ∷ l) (take_front n m xs (omega arith))

pub first_in_front : (b m : ℕ) (bytes : List ℕ) (n : ℕ) → n ≡ len_before b (take m bytes) → n < length (take m bytes) → FirstAt b n bytes
first_in_front b m bytes n e lt = first_at b bytes n (first_of_front b m bytes n e lt) (longer m bytes n lt)
  where
    longer : (m : ℕ) (bytes : List ℕ) (n : ℕ) → n < length (take m bytes) → n < length bytes
    longer m bytes n lt = grind (arith, length-take)

-- a front without b that reaches as far as a line may, and one that is all of the bytes
pub record NoLine (b most : ℕ) (bytes : List ℕ) : Type 0 where
  pub far : most ≤ length bytes
  pub free : HasNo b (take most bytes)

pub no_line : (b most m n : ℕ) (bytes : List ℕ) → m ≡ min (length bytes) most → n ≡ len_before b (take m bytes) → n ≤ length (take m bytes) → length (take m bytes) ≤ n → n ≡ most → NoLine b most bytes
no_line b most m n bytes m_is e inside le full =
    let h : m ≡ most = grind (arith, length-take) in
    record { far = omega (arith, h, m_is); free = subst (λ k. HasNo b (take k bytes)) h (all_free b (take m bytes) (omega (arith, e, le))) }

pub record Started (b most : ℕ) (bytes : List ℕ) : Type 0 where
  pub short : length bytes < most
  pub free : HasNo b bytes

pub started : (b most m n : ℕ) (bytes : List ℕ) → m ≡ min (length bytes) most → n ≡ len_before b (take m bytes) → n ≤ length (take m bytes) → length (take m bytes) ≤ n → (n ≡ most → ⊥) → Started b most bytes
started b most m n bytes m_is e inside le some =
    let h : length (take m bytes) ≡ min m (length bytes) = length-take m bytes in
    let short : length bytes < most = small h in
    record { short = short; free = subst (HasNo b) (take_all m bytes (omega (arith, m_is, short))) (all_free b (take m bytes) (omega (arith, e, le))) }
  where
    small : length (take m bytes) ≡ min m (length bytes) → length bytes < most
    small h = grind arith

-- the bytes before the first b, where some were seen before
seen_before : (b seen : ℕ) (bytes : List ℕ) → seen ≤ length bytes → HasNo b (take seen bytes) → seen + len_before b (drop seen bytes) ≡ len_before b bytes
seen_before b zero bytes le free = nothing (len_before b bytes)
  where
    nothing : (n : ℕ) → 0 + n ≡ n
    nothing n = omega arith
seen_before b (suc seen) [] le free = absurd (omega arith)
seen_before b (suc seen) (x ∷ bytes) le free =
    let more : seen + len_before b (drop seen bytes) ≡ len_before b bytes = seen_before b seen bytes (omega arith) free.1 in
    let on : len_before b (x ∷ bytes) ≡ 1 + len_before b bytes = len_on b x bytes (ne_eqb x b free.0) in
    omega (arith, more, on)

-- the bytes that were seen are in the front too
seen_front : (b seen m : ℕ) (bytes : List ℕ) → seen ≤ m → seen ≤ length bytes → HasNo b (take seen bytes) → seen + len_before b (drop seen (take m bytes)) ≡ len_before b (take m bytes)
seen_front b seen m bytes le inside free =
    seen_before b seen (take m bytes) (let n : length (take m bytes) ≡ min m (length bytes) = length-take m bytes in omega (arith, n)) (subst (HasNo b) (sym (take-take seen m bytes le)) free)

pub seen_len : (b seen m n : ℕ) (bytes : List ℕ) → n ≡ len_before b (take (length (take m bytes) - seen) (drop seen (take m bytes))) → seen ≤ m → seen ≤ length bytes → HasNo b (take seen bytes) → seen + n ≡ len_before b (take m bytes)
seen_len b seen m n bytes e le inside free = ap (λ k. seen + k) (e ∙ ap (len_before b) (take_rest (take m bytes) seen)) ∙ seen_front b seen m bytes le inside free

pub no_bytes : (l : List ℕ) → length l ≡ 0 → l ≡ []
no_bytes [] e = refl
no_bytes (x ∷ l) e = absurd (omega (arith, e))
