-- What is left of spans where others take places of them.
use Rattle.std.proofs.Common.{◌≡◌, ℕ, ◌-◌, ◌<◌, ◌≤◌, List, [], ◌∷◌, ◌++◌, Some, None, true, false, nat_lt, nat_le, refl, ap, sym, ◌∙◌, arith, inl, inr, subst, max, min, append-nil}
use Rattle.std.specs.List.{flat_map, AllByRecursion}
use Rattle.std.specs.Option.{option_or}
use Rattle.std.proofs.lemmas.List.Concat.{flat_map-append}
use Rattle.std.proofs.lemmas.Bool.{cases_lt, cases_Bool, lt-ltb, le-ltb, ltb-true}
use Rattle.std.proofs.lemmas.Bool.Decides.{nat_tests}
use Rattle.czi_format.specs.Span.{Span, end_of, meets}
use Rattle.czi_format.specs.Space.{from_to, left_of, without}
use Rattle.czi_space.specs.State.{lowest_of}

pub without-append : (taken xs ys : List Span) → without taken (xs ++ ys) ≡ without taken xs ++ without taken ys
without-append [] xs ys = refl
without-append (t ∷ taken) xs ys = ap (without taken) (flat_map-append (left_of t) xs ys) ∙ without-append taken (flat_map (left_of t) xs) (flat_map (left_of t) ys)

pub without-nil : (taken : List Span) → without taken [] ≡ []
without-nil [] = refl
without-nil (t ∷ taken) = without-nil taken

-- a span that doesn't meet the first
pub apart : (t s : Span) (taken : List Span) → meets t s ≡ false → without (t ∷ taken) (s ∷ []) ≡ without taken (s ∷ [])
apart t s taken test = ap (without taken) (rw test)

-- a span that meets the first
pub met : (t s : Span) (taken : List Span) → meets t s ≡ true → without (t ∷ taken) (s ∷ []) ≡ without taken (from_to s.at t.at) ++ without taken (from_to (end_of t) (end_of s))
met t s taken test =
    ap (without taken) (whole ∙ append-nil (from_to s.at t.at ++ from_to (end_of t) (end_of s))) ∙ without-append taken (from_to s.at t.at) (from_to (end_of t) (end_of s))
  where
    whole : flat_map (left_of t) (s ∷ []) ≡ (from_to s.at t.at ++ from_to (end_of t) (end_of s)) ++ []
    whole = rw test

pub some_places : (a b : ℕ) → a < b → from_to a b ≡ record { at = a; len = b - a } ∷ []
some_places a b h = let test : nat_lt a b ≡ true = lt-ltb a b h in rw test

pub no_places : (a b : ℕ) → b ≤ a → from_to a b ≡ []
no_places a b h = let test : nat_lt a b ≡ false = le-ltb a b h in rw test

-- nothing left is longer than what it is left of
abbrev pub AreShort : ℕ → List Span → Type 0
AreShort n spans = AllByRecursion (λ (s : Span). s.len ≤ n) spans

both_short : (n : ℕ) (xs ys : List Span) → AreShort n xs → AreShort n ys → AreShort n (xs ++ ys)
both_short n [] ys p q = q
both_short n (x ∷ xs) ys p q = (p.0, both_short n xs ys p.1 q)

places_short : (n a b : ℕ) → b - a ≤ n → AreShort n (from_to a b)
places_short n a b h = elim (cases_lt a b) [
  | inl k ↦ subst (AreShort n) (sym (some_places a b k)) (h, tt)
  | inr k ↦ subst (AreShort n) (sym (no_places a b k)) tt
]

left_short : (n : ℕ) (t s : Span) → s.len ≤ n → AreShort n (left_of t s)
left_short n t s h = elim (cases_Bool (meets t s)) [
  | inl e ↦ let m : max t.at s.at < min (end_of t) (end_of s) = ltb-true _ _ e in
      subst (AreShort n) (sym (left_met e)) (both_short n (from_to s.at t.at) (from_to (end_of t) (end_of s)) (places_short n s.at t.at (omega arith)) (places_short n (end_of t) (end_of s) (omega arith)))
  | inr e ↦ subst (AreShort n) (sym (left_apart e)) (h, tt)
]
  where
    left_met : meets t s ≡ true → left_of t s ≡ from_to s.at t.at ++ from_to (end_of t) (end_of s)
    left_met e = rw e

    left_apart : meets t s ≡ false → left_of t s ≡ s ∷ []
    left_apart e = rw e

all_short : (n : ℕ) (t : Span) (spans : List Span) → AreShort n spans → AreShort n (flat_map (left_of t) spans)
all_short n t [] h = tt
all_short n t (s ∷ spans) h = both_short n (left_of t s) (flat_map (left_of t) spans) (left_short n t s h.0) (all_short n t spans h.1)

pub without_short : (n : ℕ) (taken spans : List Span) → AreShort n spans → AreShort n (without taken spans)
without_short n [] spans h = h
without_short n (t ∷ taken) spans h = without_short n taken (flat_map (left_of t) spans) (all_short n t spans h)

none_short : (need n : ℕ) (spans : List Span) → n < need → AreShort n spans → lowest_of need spans ≡ None
none_short need n [] less h = refl
none_short need n (s ∷ spans) less h =
    let test : nat_le need s.len ≡ false = grind (arith, nat_tests, h.0) in
    skipped test ∙ none_short need n spans less h.1
  where
    skipped : nat_le need s.len ≡ false → lowest_of need (s ∷ spans) ≡ lowest_of need spans
    skipped e = rw e

pub too_short : (need : ℕ) (s : Span) (held used : List Span) → s.len < need → lowest_of need (without used (without held (s ∷ []))) ≡ None
too_short need s held used less = none_short need s.len _ less (without_short s.len used _ (without_short s.len held (s ∷ []) (omega arith, tt)))

pub long_enough : (need : ℕ) (s : Span) → need ≤ s.len → lowest_of need (s ∷ []) ≡ Some s.at
long_enough need s enough = let test : nat_le need s.len ≡ true = grind (arith, nat_tests) in rw test

pub lowest-append : (need : ℕ) (xs ys : List Span) → lowest_of need (xs ++ ys) ≡ option_or (lowest_of need xs) (lowest_of need ys)
lowest-append need [] ys = refl
lowest-append need (x ∷ xs) ys = elim (cases_Bool (nat_le need x.len)) [
  | inl e ↦ rw e
  | inr e ↦ rw e (lowest-append need xs ys)
]

-- the lowest place in the two parts
pub lowest_met : (need : ℕ) (t s : Span) (held used : List Span) → meets t s ≡ true
    → lowest_of need (without used (without (t ∷ held) (s ∷ [])))
    ≡ option_or (lowest_of need (without used (without held (from_to s.at t.at)))) (lowest_of need (without used (without held (from_to (end_of t) (end_of s)))))
lowest_met need t s held used test =
    ap (λ l. lowest_of need (without used l)) (met t s held test)
    ∙ (ap (lowest_of need) (without-append used (without held (from_to s.at t.at)) (without held (from_to (end_of t) (end_of s)))) ∙ lowest-append need _ _)

pub lowest_nothing : (need : ℕ) (held used : List Span) → lowest_of need (without used (without held [])) ≡ None
lowest_nothing need held used = ap (λ l. lowest_of need (without used l)) (without-nil held) ∙ ap (lowest_of need) (without-nil used)
