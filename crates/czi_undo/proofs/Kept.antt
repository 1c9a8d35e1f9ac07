-- Of the former documents behind a new one as many are kept as pass no bound with it.
use Rattle.std.proofs.Common.{◌≡◌, ℕ, zero, suc, ◌+◌, ◌-◌, ◌≤◌, ◌<◌, List, [], ◌∷◌, map, take, length, sum, Bool, true, false, ◌||◌, nat_le, nat_lt, refl, ap, sym, ◌∙◌, arith, inl, inr}
use Rattle.std.specs.List.{fold}
use Rattle.std.proofs.lemmas.Bool.{cases_Bool, le-leb, lt-ltb, leb-true, ltb-true}
use Rattle.czi_machine.specs.Machine.{within_bounds}
use Rattle.czi_machine.specs.State.{Former}
use Rattle.czi_undo.specs.Bounds.{passes}

abbrev pub counts : List Former → List ℕ
counts fs = map (λ (f : Former). f.edits) fs

-- the sum of a number and others
sum-front : (n : ℕ) (ns : List ℕ) → sum (n ∷ ns) ≡ n + sum ns
sum-front n ns = from (0 + n) ns ∙ omega arith
  where
    from : (a : ℕ) (ns : List ℕ) → fold (λ x y. x + y) a ns ≡ a + fold (λ x y. x + y) 0 ns
    from a [] = omega arith
    from a (n ∷ ns) = omega (arith, from (a + n) ns, from (0 + n) ns)

same_lt : (a b c d : ℕ) → (a < b → c < d) → (c < d → a < b) → nat_lt a b ≡ nat_lt c d
same_lt a b c d there back = elim (cases_Bool (nat_lt a b)) [
  | inl t ↦ t ∙ sym (lt-ltb c d (there (ltb-true a b t)))
  | inr t ↦ elim (cases_Bool (nat_lt c d)) [
    | inl u ↦ absurd (let l = lt-ltb a b (back (ltb-true c d u)) in cc (l, t))
    | inr u ↦ t ∙ sym u
  ]
]

never : (a b c : ℕ) → (nat_lt a 0 || nat_lt b 0) ≡ nat_lt c 0
never a b c = (λ i. none a i || none b i) ∙ sym (none c)
  where
    none : (n : ℕ) → nat_lt n 0 ≡ false
    none n = same_lt n 0 0 0 (λ l. absurd (omega (arith, l))) (λ l. absurd (omega (arith, l)))

or_true : (b : Bool) → (b || true) ≡ true
or_true true = refl
or_true false = refl

-- of so many formers those in front pass a bound exactly where they are more than are kept
within_front : (m left k : ℕ) (fs : List Former) → k ≤ length fs → (nat_lt m k || nat_lt left (sum (counts (take k fs)))) ≡ nat_lt (within_bounds m left fs) k
within_front m left zero fs few = never m left (within_bounds m left fs)
within_front m left (suc k) [] few = absurd (omega (arith, few))
within_front zero left (suc k) (f ∷ fs) few = let yes : nat_lt 0 (suc k) ≡ true = lt-ltb 0 (suc k) (omega arith) in ap (λ z. z || nat_lt left (sum (counts (take (suc k) (f ∷ fs))))) yes ∙ sym yes
within_front (suc m) left (suc k) (f ∷ fs) few = elim (cases_Bool (nat_le f.edits left)) [
  | inl e ↦ let rest = within_front m (left - f.edits) k fs (omega (arith, few)) in
      let le : f.edits ≤ left = leb-true f.edits left e in
      let n : ℕ = sum (counts (take k fs)) in
      let kept : ℕ = within_bounds m (left - f.edits) fs in
      let one : nat_lt (suc m) (suc k) ≡ nat_lt m k = same_lt (suc m) (suc k) m k (λ l. omega (arith, l)) (λ l. omega (arith, l)) in
      let whole : ℕ = sum (counts (take (suc k) (f ∷ fs))) in
      let sums : whole ≡ f.edits + n = sum-front f.edits (counts (take k fs)) in
      let moved : nat_lt left whole ≡ nat_lt (left - f.edits) n = same_lt left whole (left - f.edits) n (λ l. omega (arith, l, le, sums)) (λ l. omega (arith, l, le, sums)) in
      let w : within_bounds (suc m) left (f ∷ fs) ≡ suc kept = rw e refl in
      (λ i. one i || moved i) ∙ rest ∙ same_lt kept k (suc kept) (suc k) (λ l. omega (arith, l)) (λ l. omega (arith, l)) ∙ ap (λ z. nat_lt z (suc k)) (sym w)
  | inr e ↦ let n : ℕ = sum (counts (take k fs)) in
      let more : left < f.edits = less f.edits left e in
      let whole : ℕ = sum (counts (take (suc k) (f ∷ fs))) in
      let gt : nat_lt left whole ≡ true = lt-ltb left whole (omega (arith, more, sum-front f.edits (counts (take k fs)))) in
      let none : within_bounds (suc m) left (f ∷ fs) ≡ zero = rw e refl in
      ap (λ z. nat_lt (suc m) (suc k) || z) gt ∙ or_true (nat_lt (suc m) (suc k)) ∙ sym (lt-ltb 0 (suc k) (omega arith)) ∙ ap (λ z. nat_lt z (suc k)) (sym none)
]
  where
    less : (a b : ℕ) → nat_le a b ≡ false → b < a
    less a b e = elim (cases_Bool (nat_lt b a)) [
      | inl t ↦ ltb-true b a t
      | inr t ↦ absurd (let l = lt-ltb b a in let m = le-leb a b in grind (arith, l, m, e, t))
    ]

pub kept_within : (n k : ℕ) (fs : List Former) → n ≤ 128 → k ≤ length fs → passes (n ∷ counts (take k fs)) ≡ nat_lt (within_bounds 31 (128 - n) fs) k
kept_within n k fs small few =
    let long : length (counts (take k fs)) ≡ k = taken k fs few in
    let m : ℕ = sum (counts (take k fs)) in
    let a : nat_lt 32 (suc (length (counts (take k fs)))) ≡ nat_lt 31 k = same_lt 32 (suc (length (counts (take k fs)))) 31 k (λ l. omega (arith, l, long)) (λ l. omega (arith, l, long)) in
    let whole : ℕ = sum (n ∷ counts (take k fs)) in
    let sums : whole ≡ n + m = sum-front n (counts (take k fs)) in
    let b : nat_lt 128 whole ≡ nat_lt (128 - n) m = same_lt 128 whole (128 - n) m (λ l. omega (arith, l, small, sums)) (λ l. omega (arith, l, small, sums)) in
    (λ i. a i || b i) ∙ within_front 31 (128 - n) k fs few
  where
    taken : (k : ℕ) (fs : List Former) → k ≤ length fs → length (counts (take k fs)) ≡ k
    taken zero fs few = refl
    taken (suc k) [] few = absurd (omega (arith, few))
    taken (suc k) (f ∷ fs) few = ap suc (taken k fs (omega (arith, few)))
