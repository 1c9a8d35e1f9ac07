-- How many of a list pass from the front on.
use Rattle.std.proofs.Common.{◌≡◌, ℕ, zero, suc, ◌+◌, ◌<◌, ◌≤◌, List, [], ◌∷◌, map, length, get_or, Bool, true, false, sym, arith}
use Rattle.std.specs.List.{prefix_len}

pub counted : {X Y : Type 0} (f : X → Y) (p : Y → Bool) (xs : List X) (i : ℕ) → i ≤ length xs
    → ((k : ℕ) (d : X) → k < i → p (f (get_or xs k d)) ≡ true) → ((d : X) → i < length xs → p (f (get_or xs i d)) ≡ false) → i ≡ prefix_len p (map f xs)
counted f p [] i h before here = omega arith
counted f p (x ∷ xs) zero h before here = sym (stops (here x (omega arith)))
  where
    stops : p (f x) ≡ false → prefix_len p (f x ∷ map f xs) ≡ 0
    stops e = rw e
counted f p (x ∷ xs) (suc i) h before here =
    let rest : i ≡ prefix_len p (map f xs) = counted f p xs i (omega arith) (λ k d l. before (suc k) d (omega arith)) (λ d l. here d (omega arith)) in
    omega (arith, goes (before 0 x (omega arith)), rest)
  where
    goes : p (f x) ≡ true → prefix_len p (f x ∷ map f xs) ≡ 1 + prefix_len p (map f xs)
    goes e = rw e
