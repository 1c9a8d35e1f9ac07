-- Changes of a list at a place, seen through a function.
use Rattle.std.proofs.Common.{◌≡◌, ℕ, zero, suc, ◌+◌, ◌<◌, ◌≤◌, List, [], ◌∷◌, ◌++◌, map, take, drop, length, get_or, set, true, false, Result, Ok, Err, is_ok, IsOk, if◌then◌else◌, refl, ap, sym, ◌∙◌, arith, ◌==◌, nat_lt}
use Rattle.std.specs.List.{insert}
use Rattle.std.proofs.lemmas.Bool.{ne_eqb}
use Rattle.std.proofs.lemmas.Bool.Decides.{nat_tests}
use Rattle.czi_format.specs.Span.{Span, end_of}
use Rattle.czi_format.specs.Space.{together, with_next}
use Rattle.czi_space.specs.State.{some_of}

some_one : (s : Span) → 0 < s.len → some_of s ≡ s ∷ []
some_one s some = let test : nat_lt 0 s.len ≡ true = grind (arith, nat_tests) in rw test

some_none : (s : Span) → s.len ≤ 0 → some_of s ≡ []
some_none s none = let test : nat_lt 0 s.len ≡ false = grind (arith, nat_tests) in rw test

set_one : {X Y : Type 0} (f : X → Y) (xs : List X) (i : ℕ) (y : X) → i < length xs → map f (set xs i y) ≡ take i (map f xs) ++ (f y ∷ drop (suc i) (map f xs))
set_one f [] i y h = absurd (omega arith)
set_one f (x ∷ xs) zero y h = refl
set_one f (x ∷ xs) (suc i) y h = ap (λ l. f x ∷ l) (set_one f xs i y (omega arith))

pub insert_one : {X Y : Type 0} (f : X → Y) (xs : List X) (i : ℕ) (y : X) → i ≤ length xs → map f (insert xs i y) ≡ take i (map f xs) ++ (f y ∷ drop i (map f xs))
insert_one f xs zero y h = refl
insert_one f [] (suc i) y h = absurd (omega arith)
insert_one f (x ∷ xs) (suc i) y h = ap (λ l. f x ∷ l) (insert_one f xs i y (omega arith))

set_two : {X Y : Type 0} (f : X → Y) (xs : List X) (i : ℕ) (y z : X) → i < length xs → map f (insert (set xs i y) (suc i) z) ≡ take i (map f xs) ++ (f y ∷ f z ∷ drop (suc i) (map f xs))
set_two f [] i y z h = absurd (omega arith)
set_two f (x ∷ xs) zero y z h = refl
set_two f (x ∷ xs) (suc i) y z h = ap (λ l. f x ∷ l) (set_two f xs i y z (omega arith))

pub remove_one : {X Y : Type 0} (f : X → Y) (xs : List X) (i : ℕ) → i < length xs → map f (take i xs ++ drop (suc i) xs) ≡ take i (map f xs) ++ drop (suc i) (map f xs)
remove_one f [] i h = absurd (omega arith)
remove_one f (x ∷ xs) zero h = refl
remove_one f (x ∷ xs) (suc i) h = ap (λ l. f x ∷ l) (remove_one f xs i (omega arith))

not_joined : (s e : Span) (rest : List Span) → (e.at ≡ end_of s → ⊥) → with_next s (e ∷ rest) ≡ s ∷ e ∷ rest
not_joined s e rest apart = let test : (end_of s == e.at) ≡ false = ne_eqb (end_of s) e.at (λ h. apart (sym h)) in rw test

joined : (s e : Span) (rest : List Span) → e.at ≡ end_of s → with_next s (e ∷ rest) ≡ together s e ∷ rest
joined s e rest next = let test : (end_of s == e.at) ≡ true = grind (arith, nat_tests) in rw test

-- what a call that succeeds leaves
pub on_ok : {X T E : Type 0} (r : Result T E) (xs new old : List X) → IsOk r → xs ≡ (if is_ok r then new else old) → xs ≡ new
on_ok (Ok x) xs new old ok is = is
on_ok (Err e) xs new old ok is = cc

pub replaced_both : {X : Type 0} (f : X → Span) (xs : List X) (i : ℕ) (y z : X) → i < length xs → 0 < (f y).len → 0 < (f z).len
    → map f (insert (set xs i y) (i + 1) z) ≡ take i (map f xs) ++ (some_of (f y) ++ (some_of (f z) ++ drop (i + 1) (map f xs)))
replaced_both f xs i y z h p q =
    let one : i + 1 ≡ suc i = omega arith in
    ap (λ n. map f (insert (set xs i y) n z)) one ∙ (set_two f xs i y z h ∙ sym (
    ap (λ n. take i (map f xs) ++ (some_of (f y) ++ (some_of (f z) ++ drop n (map f xs)))) one
    ∙ (ap (λ l. take i (map f xs) ++ (l ++ (some_of (f z) ++ drop (suc i) (map f xs)))) (some_one (f y) p)
    ∙ ap (λ l. take i (map f xs) ++ (f y ∷ (l ++ drop (suc i) (map f xs)))) (some_one (f z) q))
    ))

pub replaced_first : {X : Type 0} (f : X → Span) (xs : List X) (i : ℕ) (y z : X) → i < length xs → 0 < (f y).len → (f z).len ≤ 0
    → map f (set xs i y) ≡ take i (map f xs) ++ (some_of (f y) ++ (some_of (f z) ++ drop (i + 1) (map f xs)))
replaced_first f xs i y z h p q =
    let one : i + 1 ≡ suc i = omega arith in
    set_one f xs i y h ∙ sym (
    ap (λ n. take i (map f xs) ++ (some_of (f y) ++ (some_of (f z) ++ drop n (map f xs)))) one
    ∙ (ap (λ l. take i (map f xs) ++ (l ++ (some_of (f z) ++ drop (suc i) (map f xs)))) (some_one (f y) p)
    ∙ ap (λ l. take i (map f xs) ++ (f y ∷ (l ++ drop (suc i) (map f xs)))) (some_none (f z) q))
    )

pub replaced_second : {X : Type 0} (f : X → Span) (xs : List X) (i : ℕ) (y z : X) → i < length xs → (f y).len ≤ 0 → 0 < (f z).len
    → map f (set xs i z) ≡ take i (map f xs) ++ (some_of (f y) ++ (some_of (f z) ++ drop (i + 1) (map f xs)))
replaced_second f xs i y z h p q =
    let one : i + 1 ≡ suc i = omega arith in
    set_one f xs i z h ∙ sym (
    ap (λ n. take i (map f xs) ++ (some_of (f y) ++ (some_of (f z) ++ drop n (map f xs)))) one
    ∙ (ap (λ l. take i (map f xs) ++ (l ++ (some_of (f z) ++ drop (suc i) (map f xs)))) (some_none (f y) p)
    ∙ ap (λ l. take i (map f xs) ++ (l ++ drop (suc i) (map f xs))) (some_one (f z) q))
    )

pub replaced_none : {X : Type 0} (f : X → Span) (xs after : List X) (i : ℕ) (y z : X) → i < length xs → (f y).len ≤ 0 → (f z).len ≤ 0 → after ≡ take i xs ++ drop (i + 1) xs
    → map f after ≡ take i (map f xs) ++ (some_of (f y) ++ (some_of (f z) ++ drop (i + 1) (map f xs)))
replaced_none f xs after i y z h p q is =
    let one : i + 1 ≡ suc i = omega arith in
    ap (map f) is ∙ (ap (λ n. map f (take i xs ++ drop n xs)) one ∙ (remove_one f xs i h ∙ sym (
    ap (λ n. take i (map f xs) ++ (some_of (f y) ++ (some_of (f z) ++ drop n (map f xs)))) one
    ∙ (ap (λ l. take i (map f xs) ++ (l ++ (some_of (f z) ++ drop (suc i) (map f xs)))) (some_none (f y) p)
    ∙ ap (λ l. take i (map f xs) ++ (l ++ drop (suc i) (map f xs))) (some_none (f z) q))
    )))

pub before_joined : {X : Type 0} (f : X → Span) (xs : List X) (i : ℕ) (d z : X) (s : Span) → i < length xs → (f (get_or xs i d)).at ≡ end_of s → f z ≡ together s (f (get_or xs i d))
    → map f (set xs i z) ≡ take i (map f xs) ++ with_next s (drop i (map f xs))
before_joined f [] i d z s h next is = absurd (omega arith)
before_joined f (x ∷ xs) zero d z s h next is = ap (λ l. l ∷ map f xs) is ∙ sym (joined s (f x) (map f xs) next)
before_joined f (x ∷ xs) (suc i) d z s h next is = ap (λ l. f x ∷ l) (before_joined f xs i d z s (omega arith) next is)

pub before_apart : {X : Type 0} (f : X → Span) (xs : List X) (i : ℕ) (d y : X) → i ≤ length xs → (i < length xs → (f (get_or xs i d)).at ≡ end_of (f y) → ⊥)
    → map f (insert xs i y) ≡ take i (map f xs) ++ with_next (f y) (drop i (map f xs))
before_apart f [] zero d y h next = refl
before_apart f [] (suc i) d y h next = absurd (omega arith)
before_apart f (x ∷ xs) zero d y h next = sym (not_joined (f y) (f x) (map f xs) (next (omega arith)))
before_apart f (x ∷ xs) (suc i) d y h next = ap (λ l. f x ∷ l) (before_apart f xs i d y (omega arith) (λ l. next (omega arith)))

over_joined : {X : Type 0} (f : X → Span) (xs : List X) (i : ℕ) (d z : X) (s : Span) → suc i < length xs → (f (get_or xs (suc i) d)).at ≡ end_of s → f z ≡ together s (f (get_or xs (suc i) d))
    → map f (take (suc i) (set xs i z) ++ drop (suc (suc i)) (set xs i z)) ≡ take i (map f xs) ++ with_next s (drop (suc i) (map f xs))
over_joined f [] i d z s h next is = absurd (omega arith)
over_joined f (x ∷ []) zero d z s h next is = absurd (omega arith)
over_joined f (x ∷ y ∷ xs) zero d z s h next is = ap (λ l. l ∷ map f xs) is ∙ sym (joined s (f y) (map f xs) next)
over_joined f (x ∷ xs) (suc i) d z s h next is = ap (λ l. f x ∷ l) (over_joined f xs i d z s (omega arith) next is)

pub put_over_joined : {X : Type 0} (f : X → Span) (xs after : List X) (i : ℕ) (d z : X) (s : Span) → i + 1 < length xs → (f (get_or xs (i + 1) d)).at ≡ end_of s → f z ≡ together s (f (get_or xs (i + 1) d))
    → after ≡ take (i + 1) (set xs i z) ++ drop (i + 1 + 1) (set xs i z) → map f after ≡ take i (map f xs) ++ with_next s (drop (i + 1) (map f xs))
put_over_joined f xs after i d z s h next is after_is =
    let one : suc i ≡ i + 1 = omega arith in
    let two : i + 1 + 1 ≡ suc (suc i) = omega arith in
    ap (map f) after_is ∙ (ap (λ n. map f (take (i + 1) (set xs i z) ++ drop n (set xs i z))) two ∙ (ap (λ n. map f (take n (set xs i z) ++ drop (suc (suc i)) (set xs i z))) (sym one)
    ∙ (over_joined f xs i d z s (omega arith) (ap (λ n. (f (get_or xs n d)).at) one ∙ next) (is ∙ ap (λ n. together s (f (get_or xs n d))) (sym one))
    ∙ ap (λ n. take i (map f xs) ++ with_next s (drop n (map f xs))) one)))

over_apart : {X : Type 0} (f : X → Span) (xs : List X) (i : ℕ) (d y : X) → i < length xs → (suc i < length xs → (f (get_or xs (suc i) d)).at ≡ end_of (f y) → ⊥)
    → map f (set xs i y) ≡ take i (map f xs) ++ with_next (f y) (drop (suc i) (map f xs))
over_apart f [] i d y h next = absurd (omega arith)
over_apart f (x ∷ []) zero d y h next = refl
over_apart f (x ∷ z ∷ xs) zero d y h next = sym (not_joined (f y) (f z) (map f xs) (next (omega arith)))
over_apart f (x ∷ xs) (suc i) d y h next = ap (λ l. f x ∷ l) (over_apart f xs i d y (omega arith) (λ l. next (omega arith)))

pub put_over_apart : {X : Type 0} (f : X → Span) (xs : List X) (i : ℕ) (d y : X) → i < length xs → (i + 1 < length xs → (f (get_or xs (i + 1) d)).at ≡ end_of (f y) → ⊥)
    → map f (set xs i y) ≡ take i (map f xs) ++ with_next (f y) (drop (i + 1) (map f xs))
put_over_apart f xs i d y h next =
    let one : suc i ≡ i + 1 = omega arith in
    over_apart f xs i d y h (λ l e. next (omega arith) (ap (λ n. (f (get_or xs n d)).at) (sym one) ∙ e)) ∙ ap (λ n. take i (map f xs) ++ with_next (f y) (drop n (map f xs))) one

any_read : {X : Type 0} (xs : List X) (i : ℕ) (d e : X) → i < length xs → get_or xs i d ≡ get_or xs i e
any_read [] i d e h = absurd (omega arith)
any_read (x ∷ xs) zero d e h = refl
any_read (x ∷ xs) (suc i) d e h = any_read xs i d e (omega arith)

-- two reads of one place
pub same_read : {X : Type 0} (xs : List X) (i : ℕ) (x y : X) → i < length xs → x ≡ get_or xs i x → y ≡ get_or xs i y → x ≡ y
same_read xs i x y h p q = p ∙ (any_read xs i x y h ∙ sym q)

pub read_as : {X : Type 0} (xs : List X) (i : ℕ) (x d : X) → i < length xs → x ≡ get_or xs i x → get_or xs i d ≡ x
read_as xs i x d h p = any_read xs i d x h ∙ sym p
