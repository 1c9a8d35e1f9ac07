-- A span is taken out of the extent in which it lies.
use Rattle.std.proofs.Common.{◌≡◌, ◌⊎◌, ℕ, suc, ◌+◌, ◌-◌, ◌%◌, ◌<◌, ◌≤◌, List, [], ◌∷◌, ◌++◌, map, take, drop, length, get_or, max, min, true, false, nat_lt, refl, ap, sym, ◌∙◌, subst, arith, inl, inr, append_assoc}
use Rattle.std.specs.List.{flat_map, prefix_len}
use Rattle.std.proofs.lemmas.Bool.{cases_lt, cases_Bool, leb-true, leb-false, lt-ltb, le-ltb, ltb-true}
use Rattle.czi_format.specs.Span.{Span, end_of, meets, IsWhole, LiesInOne}
use Rattle.czi_format.specs.Space.{from_to, left_of, without}
use Rattle.czi_space.specs.State.{AreExtents, ends_by, some_of}
use Rattle.czi_space.proofs.Parts.{some_places, no_places}

left_met : (s x : Span) → meets s x ≡ true → left_of s x ≡ from_to x.at s.at ++ from_to (end_of s) (end_of x)
left_met s x e = rw e

pub left_apart : (s x : Span) → meets s x ≡ false → left_of s x ≡ x ∷ []
left_apart s x e = rw e

pub miss : (s x : Span) → (end_of s ≤ x.at) ⊎ (end_of x ≤ s.at) → meets s x ≡ false
miss s x (inl h) = le-ltb _ _ (omega arith)
miss s x (inr h) = le-ltb _ _ (omega arith)

lies_from : (from to : ℕ) (s : Span) (es : List Span) → AreExtents from to es → LiesInOne s es → from ≤ s.at
lies_from from to s [] es lies = absurd lies
lies_from from to s (x ∷ rest) es (inl h) = omega (arith, es.0, h.0)
lies_from from to s (x ∷ rest) es (inr h) = omega (arith, es.0, lies_from (end_of x) to s rest es.2 h)

pub all_apart : (from to : ℕ) (s : Span) (es : List Span) → AreExtents from to es → end_of s ≤ from → flat_map (left_of s) es ≡ es
all_apart from to s [] es h = refl
all_apart from to s (x ∷ rest) es h =
    ap (λ l. l ++ flat_map (left_of s) rest) (left_apart s x (miss s x (inl (omega (arith, es.0, h)))))
    ∙ ap (λ l. x ∷ l) (all_apart (end_of x) to s rest es.2 (omega (arith, es.0, h)))

-- the extent at a place has the span, and what is left
pub record TakenAt {X : Type 0} (f : X → Span) (xs : List X) (s : Span) (i : ℕ) : Type 0 where
  pub inside : i < length xs
  pub front : (d : X) → (f (get_or xs i d)).at ≤ s.at
  pub back : (d : X) → end_of s ≤ end_of (f (get_or xs i d))
  pub left : (d : X) → without (s ∷ []) (map f xs) ≡ take i (map f xs) ++ (from_to (f (get_or xs i d)).at s.at ++ (from_to (end_of s) (end_of (f (get_or xs i d))) ++ drop (i + 1) (map f xs)))

later : {X : Type 0} (f : X → Span) (x : X) (xs : List X) (s : Span) (i : ℕ) → end_of (f x) ≤ s.at → TakenAt f xs s i → TakenAt f (x ∷ xs) s (suc i)
later {X} f x xs s i before t = record {
  inside = omega (arith, t.inside);
  front = λ d. t.front d;
  back = λ d. t.back d;
  left = λ d. ap (λ l. l ++ flat_map (left_of s) (map f xs)) (left_apart s (f x) (miss s (f x) (inr before))) ∙ (ap (λ l. f x ∷ l) (t.left d) ∙ next d);
}
  where
    next : (d : X) → f x ∷ (take i (map f xs) ++ (from_to (f (get_or xs i d)).at s.at ++ (from_to (end_of s) (end_of (f (get_or xs i d))) ++ drop (i + 1) (map f xs))))
        ≡ take (suc i) (f x ∷ map f xs) ++ (from_to (f (get_or xs i d)).at s.at ++ (from_to (end_of s) (end_of (f (get_or xs i d))) ++ drop (suc i + 1) (f x ∷ map f xs)))
    next d = let one : suc i + 1 ≡ suc (i + 1) = omega arith in
        ap (λ n. f x ∷ (take i (map f xs) ++ (from_to (f (get_or xs i d)).at s.at ++ (from_to (end_of s) (end_of (f (get_or xs i d))) ++ drop n (f x ∷ map f xs))))) (sym one)

here : {X : Type 0} (f : X → Span) (to : ℕ) (x : X) (xs : List X) (s : Span) → AreExtents (end_of (f x)) to (map f xs) → 0 < s.len → (f x).at ≤ s.at → end_of s ≤ end_of (f x) → TakenAt f (x ∷ xs) s 0
here f to x xs s es some front back =
    let test : meets s (f x) ≡ true = lt-ltb _ _ (omega arith) in
    record {
      inside = omega arith;
      front = λ d. front;
      back = λ d. back;
      left = λ d. ap (λ l. l ++ flat_map (left_of s) (map f xs)) (left_met s (f x) test) ∙ (ap (λ l. (from_to (f x).at s.at ++ from_to (end_of s) (end_of (f x))) ++ l) (all_apart (end_of (f x)) to s (map f xs) es back)
          ∙ append_assoc (from_to (f x).at s.at) (from_to (end_of s) (end_of (f x))) (map f xs));
    }

pub taken_at : {X : Type 0} (f : X → Span) (from to : ℕ) (xs : List X) (s : Span) → AreExtents from to (map f xs) → 0 < s.len → LiesInOne s (map f xs) → TakenAt f xs s (prefix_len (ends_by s.at) (map f xs))
taken_at f from to [] s es some lies = absurd lies
taken_at {X} f from to (x ∷ xs) s es some lies = elim (cases_Bool (ends_by s.at (f x))) [
  | inl e ↦ let p : ℕ = prefix_len (ends_by s.at) (map f xs) in
      let one : 1 + p ≡ suc p = omega arith in
      let ends : end_of (f x) ≤ s.at = leb-true _ _ e in
      let t : TakenAt f xs s p = taken_at f (end_of (f x)) to xs s es.2 some (in_rest ends lies) in
      subst (TakenAt f (x ∷ xs) s) (sym (goes e ∙ one)) (later f x xs s p ends t)
  | inr e ↦ let past : s.at < end_of (f x) = leb-false _ _ e in
      let lie : ((f x).at ≤ s.at) × (end_of s ≤ end_of (f x)) = in_first past lies in
      subst (TakenAt f (x ∷ xs) s) (sym (stops e)) (here f to x xs s es.2 some lie.0 lie.1)
]
  where
    goes : ends_by s.at (f x) ≡ true → prefix_len (ends_by s.at) (f x ∷ map f xs) ≡ 1 + prefix_len (ends_by s.at) (map f xs)
    goes e = rw e

    stops : ends_by s.at (f x) ≡ false → prefix_len (ends_by s.at) (f x ∷ map f xs) ≡ 0
    stops e = rw e

    in_rest : end_of (f x) ≤ s.at → LiesInOne s (f x ∷ map f xs) → LiesInOne s (map f xs)
    in_rest ends (inl h) = absurd (omega (arith, h.1))
    in_rest ends (inr h) = h

    in_first : s.at < end_of (f x) → LiesInOne s (f x ∷ map f xs) → ((f x).at ≤ s.at) × (end_of s ≤ end_of (f x))
    in_first past (inl h) = h
    in_first past (inr h) = absurd (omega (arith, lies_from (end_of (f x)) to s (map f xs) es.2 h))

pub some_between : (a b : ℕ) → some_of (record { at = a; len = b - a }) ≡ from_to a b
some_between a b = elim (cases_lt a b) [
  | inl h ↦ let test : nat_lt 0 (b - a) ≡ true = lt-ltb _ _ (omega arith) in rw test (sym (some_places a b h))
  | inr h ↦ let test : nat_lt 0 (b - a) ≡ false = le-ltb _ _ (omega arith) in rw test (sym (no_places a b h))
]

-- extents one behind another
pub join_extents : (a b c : ℕ) (xs ys : List Span) → AreExtents a b xs → AreExtents b c ys → AreExtents a c (xs ++ ys)
join_extents a b c [] [] p q = omega arith
join_extents a b c [] (y ∷ ys) p q = (omega (arith, q.0), q.1, q.2)
join_extents a b c (x ∷ xs) ys p q = (p.0, p.1, join_extents (end_of x) b c xs ys p.2 q)

places_extents : (a b : ℕ) → a ≤ b → a % 32 ≡ 0 → b % 32 ≡ 0 → AreExtents a b (from_to a b)
places_extents a b h p q = elim (cases_lt a b) [
  | inl k ↦ subst (AreExtents a b) (sym (some_places a b k)) (omega arith, record { at = p; len = omega (arith, p, q); some = omega arith }, omega arith)
  | inr k ↦ subst (AreExtents a b) (sym (no_places a b k)) h
]

-- what is left of an extent lies in it
left_extents : (s x : Span) → s.at % 32 ≡ 0 → s.len % 32 ≡ 0 → IsWhole x → AreExtents x.at (end_of x) (left_of s x)
left_extents s x p q whole = elim (cases_Bool (meets s x)) [
  | inr e ↦ subst (AreExtents x.at (end_of x)) (sym (left_apart s x e)) (omega arith, whole, omega arith)
  | inl e ↦ let m : max s.at x.at < min (end_of s) (end_of x) = ltb-true _ _ e in
      subst (AreExtents x.at (end_of x)) (sym (left_met s x e)) (both m (front m) (back m))
]
  where
    front : max s.at x.at < min (end_of s) (end_of x) → AreExtents x.at (max x.at s.at) (from_to x.at s.at)
    front m = elim (cases_lt x.at s.at) [
      | inl h ↦ let top : max x.at s.at ≡ s.at = omega arith in subst (λ n. AreExtents x.at n (from_to x.at s.at)) (sym top) (places_extents x.at s.at (omega arith) whole.at p)
      | inr h ↦ subst (AreExtents x.at (max x.at s.at)) (sym (no_places x.at s.at h)) (omega arith)
    ]

    back : max s.at x.at < min (end_of s) (end_of x) → AreExtents (max x.at s.at) (end_of x) (from_to (end_of s) (end_of x))
    back m = elim (cases_lt (end_of s) (end_of x)) [
      | inl h ↦ join_extents (max x.at s.at) (end_of s) (end_of x) [] (from_to (end_of s) (end_of x)) (omega arith) (places_extents (end_of s) (end_of x) (omega arith) (omega (arith, p, q)) (omega (arith, whole.at, whole.len)))
      | inr h ↦ subst (AreExtents (max x.at s.at) (end_of x)) (sym (no_places (end_of s) (end_of x) h)) (omega arith)
    ]

    both : max s.at x.at < min (end_of s) (end_of x) → AreExtents x.at (max x.at s.at) (from_to x.at s.at) → AreExtents (max x.at s.at) (end_of x) (from_to (end_of s) (end_of x))
        → AreExtents x.at (end_of x) (from_to x.at s.at ++ from_to (end_of s) (end_of x))
    both m a b = join_extents x.at (max x.at s.at) (end_of x) (from_to x.at s.at) (from_to (end_of s) (end_of x)) a b

pub without_extents : (from to : ℕ) (s : Span) (es : List Span) → s.at % 32 ≡ 0 → s.len % 32 ≡ 0 → AreExtents from to es → AreExtents from to (flat_map (left_of s) es)
without_extents from to s [] p q es = es
without_extents from to s (x ∷ rest) p q es =
    join_extents from (end_of x) to (left_of s x) (flat_map (left_of s) rest) (join_extents from x.at (end_of x) [] (left_of s x) es.0 (left_extents s x p q es.1)) (without_extents (end_of x) to s rest p q es.2)
