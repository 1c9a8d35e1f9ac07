-- Numbers of keys: the order of the records makes no difference, and sums and products wrap.
use Rattle.std.proofs.Common.{◌≡◌, ℕ, ◌+◌, ◌*◌, ◌%◌, ◌^◌, ◌<◌, List, [], ◌∷◌, ◌++◌, map, sum, take, length, get_or, Bool, true, false, if◌then◌else◌, refl, ap, sym, ◌∙◌, arith, add-one}
use Rattle.std.proofs.Math.Nat.{add-mod, mod-add-mod}
use Rattle.std.proofs.Math.Seq.{take-suc}
use Rattle.std.proofs.lemmas.List.{map_push}
use Rattle.std.proofs.lemmas.Nat.{mul-mod, mul-mod_first}
use Rattle.std.proofs.lemmas.List.Sums.{sum_by-cons, sum_by_push}
use Rattle.czi_format.specs.Span.{inserted, sorted}
use Rattle.czi_format.specs.Key.{axis, axis_le, key}
use Rattle.czi_doc.specs.KeyNumber.{axis_number, key_number}
use Rattle.czi_doc.specs.View.{dim_of}
use Rattle.czi_doc.specs.declared.dimensions.Dim.{Dim as CodeDim}

sum_more : (n : ℕ) (ns : List ℕ) → sum (n ∷ ns) ≡ n + sum ns
sum_more n ns = sum_by-cons (λ m. m) n ns

sum_inserted : {X : Type 0} (le : X → X → Bool) (f : X → ℕ) (x : X) (ys : List X) → sum (map f (inserted le x ys)) ≡ f x + sum (map f ys)
sum_inserted le f x [] = sum_more (f x) []
sum_inserted le f x (y ∷ ys) =
    let later : sum (f y ∷ map f (inserted le x ys)) ≡ f x + sum (f y ∷ map f ys) = omega (arith, sum_more (f y) (map f (inserted le x ys)), sum_more (f y) (map f ys), sum_inserted le f x ys) in
    elim (le x y) as (λ b. sum (map f (if b then x ∷ y ∷ ys else y ∷ inserted le x ys)) ≡ f x + sum (map f (y ∷ ys))) [ true ↦ sum_more (f x) (map f (y ∷ ys)) | false ↦ later ]

-- a list has the sum of its sorted one
sum_sorted : {X : Type 0} (le : X → X → Bool) (f : X → ℕ) (xs : List X) → sum (map f (sorted le xs)) ≡ sum (map f xs)
sum_sorted le f [] = refl
sum_sorted le f (x ∷ xs) = sum_inserted le f x (sorted le xs) ∙ (ap (λ n. f x + n) (sum_sorted le f xs) ∙ sym (sum_more (f x) (map f xs)))

-- the sum of the numbers of records
abbrev pub sum_of : List CodeDim → ℕ
sum_of ds = sum (map axis_number (map axis (map dim_of ds)))

pub number_of_all : (ds : List CodeDim) → sum_of ds % 2 ^ 32 ≡ key_number (key (map dim_of ds))
unfolding key_number key
number_of_all ds = ap (λ n. n % 2 ^ 32) (sym (sum_sorted axis_le axis_number (map axis (map dim_of ds))))

-- one record more
pub sum_next : (ds : List CodeDim) (i n : ℕ) (d : CodeDim) → i < length ds → n ≡ sum_of (take i ds) % 2 ^ 32
    → (n + axis_number (axis (dim_of (get_or ds i d))) % 2 ^ 32) % 2 ^ 32 ≡ sum_of (take (i + 1) ds) % 2 ^ 32
sum_next ds i n d inside is =
    let one : CodeDim = get_or ds i d in
    let longer : take (i + 1) ds ≡ take i ds ++ one ∷ [] = ap (λ k. take k ds) (add-one i) ∙ take-suc ds i d inside in
    let pushed : sum_of (take i ds ++ one ∷ []) ≡ sum_of (take i ds) + axis_number (axis (dim_of one)) =
    ap (λ l. sum (map axis_number (map axis l))) (map_push dim_of (take i ds) one)
    ∙ (ap (λ l. sum (map axis_number l)) (map_push axis (map dim_of (take i ds)) (dim_of one))
    ∙ (ap sum (map_push axis_number (map axis (map dim_of (take i ds))) (axis (dim_of one))) ∙ sum_by_push (λ m. m) (map axis_number (map axis (map dim_of (take i ds)))) (axis_number (axis (dim_of one))))) in
    ap (λ k. (k + axis_number (axis (dim_of one)) % 2 ^ 32) % 2 ^ 32) is
    ∙ (sym (add-mod (sum_of (take i ds)) (axis_number (axis (dim_of one))) (2 ^ 32)) ∙ ap (λ k. k % 2 ^ 32) (sym (ap sum_of longer ∙ pushed)))

-- sums and products that wrap, step by step
pub wraps : (a b m : ℕ) → let k : ℕ = (a % m + b % m) % m in (k * ((k * 2 % m + 1) % m)) % m ≡ ((a + b) * (2 * (a + b) + 1)) % m
wraps a b m =
    let k : ℕ = (a % m + b % m) % m in
    let n : ℕ = a + b in
    let k_is : k ≡ n % m = sym (add-mod a b m) in
    let twice : k * 2 % m ≡ n * 2 % m = ap (λ q. q * 2 % m) k_is ∙ mul-mod_first n 2 m in
    let odd : (k * 2 % m + 1) % m ≡ (n * 2 + 1) % m = ap (λ q. (q + 1) % m) twice ∙ mod-add-mod (n * 2) m 1 in
    let same : n * 2 + 1 ≡ 2 * n + 1 = omega arith in
    ap (λ q. (q * ((k * 2 % m + 1) % m)) % m) k_is ∙ (ap (λ q. (n % m * q) % m) odd ∙ (sym (mul-mod n (n * 2 + 1) m) ∙ ap (λ q. (n * q) % m) same))
