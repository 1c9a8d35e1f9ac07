-- Few extents are touched by the spans of a plan.
use Rattle.std.proofs.Common.{◌≡◌, ◌⊎◌, ℕ, ◌+◌, ◌*◌, ◌<◌, ◌≤◌, List, [], ◌∷◌, ◌++◌, filter, length, Bool, true, false, cond, ◌||◌, nat_lt, refl, ap, arith, inl, inr, append-nil}
use Rattle.std.specs.List.{AllByRecursion, flat_map, list_any}
use Rattle.std.proofs.lemmas.Bool.{cases_Bool, cases_lt, ltb-true}
use Rattle.std.proofs.lemmas.Bool.Decides.{nat_tests}
use Rattle.czi_format.specs.Space.{from_to, left_of, without}
use Rattle.czi_format.specs.Span.{Span, end_of, meets, IsWhole, LiesInOne}
use Rattle.czi_machine.specs.Cover.{cover}
use Rattle.czi_machine.proofs.Cover.{cover-deleted_after, without_out}
use Rattle.czi_space.specs.State.{AreExtents, MeetsNone}
use Rattle.czi_plan.specs.Geometry.{AreFreed, AreParts, AreUsed, is_touched, touches}
use Rattle.czi_plan.proofs.Brief.{counted, lies_from, one_at_most, times}
use Rattle.czi_plan.proofs.Order.{at_place}
use Rattle.czi_plan.proofs.Parts.{meets_none}

-- how many of some extents a span touches
abbrev touched_by : Span → List Span → ℕ
touched_by s es = times (λ (e : Span). touches e s) es

apart_low : (s e : Span) → end_of e < s.at → touches e s ≡ false
apart_low s e h = grind (arith, nat_tests)

apart_high : (s e : Span) → end_of s < e.at → touches e s ≡ false
apart_high s e h = grind (arith, nat_tests)

-- none of those that begin past its end, and at most one of those that begin at its end or past it
none_past : (from to : ℕ) (s : Span) (es : List Span) → AreExtents from to es → end_of s < from → touched_by s es ≡ 0
none_past from to s [] rise h = refl
none_past from to s (e ∷ es) rise h = rw (apart_high s e (omega (arith, h, rise.0))) (omega (arith, none_past (end_of e) to s es rise.2 (omega (arith, h, rise.0))))

one_behind : (from to : ℕ) (s : Span) (es : List Span) → AreExtents from to es → end_of s ≤ from → touched_by s es ≤ 1
one_behind from to s [] rise h = omega arith
one_behind from to s (e ∷ es) rise h = omega (arith, one_at_most (touches e s), none_past (end_of e) to s es rise.2 (omega (arith, h, rise.0, rise.1.some)))

-- a span that meets none touches the one before it and the one behind it
behind_begin : (from to : ℕ) (s : Span) (es : List Span) → AreExtents from to es → MeetsNone s es → 0 < s.len → s.at ≤ from → touched_by s es ≤ 1
behind_begin from to s [] rise none some h = omega arith
behind_begin from to s (e ∷ es) rise none some h =
    let apart : end_of s ≤ e.at = past s e some rise.1.some (omega (arith, h, rise.0)) none.0 in
    omega (arith, one_at_most (touches e s), none_past (end_of e) to s es rise.2 (omega (arith, apart, rise.1.some)))
  where
    past : (s e : Span) → 0 < s.len → 0 < e.len → s.at ≤ e.at → meets s e ≡ false → end_of s ≤ e.at
    past s e some some' low apart = grind (arith, nat_tests)

two_beside : (from to : ℕ) (s : Span) (es : List Span) → AreExtents from to es → MeetsNone s es → 0 < s.len → touched_by s es ≤ 2
two_beside from to s [] rise none some = omega arith
two_beside from to s (e ∷ es) rise none some = elim (cases_lt (end_of e) s.at) [
  | inl h ↦ rw (apart_low s e h) (omega (arith, two_beside (end_of e) to s es rise.2 none.1 some))
  | inr h ↦ omega (arith, one_at_most (touches e s), behind_begin (end_of e) to s es rise.2 none.1 some h)
]

-- one that lies in an extent touches it, the one before it and the one behind it
within_begin : (from to : ℕ) (s : Span) (es : List Span) → AreExtents from to es → LiesInOne s es → s.at ≤ from → touched_by s es ≤ 2
within_begin from to s [] rise lies h = absurd lies
within_begin from to s (e ∷ es) rise (inl i) h = omega (arith, one_at_most (touches e s), one_behind (end_of e) to s es rise.2 i.1)
within_begin from to s (e ∷ es) rise (inr i) h = absurd (omega (arith, lies_from (end_of e) to s es rise.2 i, rise.0, rise.1.some, h))

three_about : (from to : ℕ) (s : Span) (es : List Span) → AreExtents from to es → LiesInOne s es → touched_by s es ≤ 3
three_about from to s [] rise lies = absurd lies
three_about from to s (e ∷ es) rise (inl i) = omega (arith, one_at_most (touches e s), one_behind (end_of e) to s es rise.2 i.1)
three_about from to s (e ∷ es) rise (inr i) = elim (cases_lt (end_of e) s.at) [
  | inl h ↦ rw (apart_low s e h) (omega (arith, three_about (end_of e) to s es rise.2 i))
  | inr h ↦ omega (arith, one_at_most (touches e s), within_begin (end_of e) to s es rise.2 i h)
]

-- one past all extents touches the last of them
rise_order : (a b : ℕ) (es : List Span) → AreExtents a b es → a ≤ b
rise_order a b [] rise = rise
rise_order a b (e ∷ es) rise = omega (arith, rise.0, rise_order (end_of e) b es rise.2)

one_last : (from to : ℕ) (s : Span) (es : List Span) → AreExtents from to es → to ≤ s.at → touched_by s es ≤ 1
one_last from to s [] rise h = omega arith
one_last from to s (e ∷ es) rise h = elim (cases_lt (end_of e) s.at) [
  | inl l ↦ rw (apart_low s e l) (omega (arith, one_last (end_of e) to s es rise.2 h))
  | inr l ↦ omega (arith, one_at_most (touches e s), ap (touched_by s) (none_left (end_of e) to es rise.2 (omega (arith, l, h))))
]
  where
    none_left : (a b : ℕ) (xs : List Span) → AreExtents a b xs → b ≤ a → xs ≡ []
    none_left a b [] rise low = refl
    none_left a b (x ∷ xs) rise low = absurd (omega (arith, rise.0, rise.1.some, rise_order (end_of x) b xs rise.2, low))

-- what lies in a part of an extent lies in it
in_either : (s : Span) (xs ys : List Span) → LiesInOne s (xs ++ ys) → LiesInOne s xs ⊎ LiesInOne s ys
in_either s [] ys lies = inr lies
in_either s (x ∷ xs) ys (inl i) = inl (inl i)
in_either s (x ∷ xs) ys (inr i) = elim (in_either s xs ys i) [ inl j ↦ inl (inr j) | inr j ↦ inr j ]

in_places : (s : Span) (a b : ℕ) → LiesInOne s (from_to a b) → (a ≤ s.at) × (end_of s ≤ b)
in_places s a b lies = elim (cases_Bool (nat_lt a b)) [
  | inl e ↦ elim (rw e at lies) [ inl i ↦ (i.0, omega (arith, i.1, ltb-true _ _ e)) | inr i ↦ absurd i ]
  | inr e ↦ absurd (rw e at lies)
]

in_part : (t s e : Span) → LiesInOne s (left_of t e) → (e.at ≤ s.at) × (end_of s ≤ end_of e)
in_part t s e lies = elim (cases_Bool (meets t e)) [
  | inl m ↦ elim (in_either s (from_to e.at t.at) (from_to (end_of t) (end_of e)) (rw m at lies)) [
    | inl i ↦ let both = in_places s e.at t.at i in (both.0, omega (arith, both.1, ltb-true _ _ m))
    | inr i ↦ let both = in_places s (end_of t) (end_of e) i in (omega (arith, both.0, ltb-true _ _ m), both.1)
  ]
  | inr m ↦ elim (rw m at lies) [ inl i ↦ i | inr i ↦ absurd i ]
]

in_whole : (t s : Span) (es : List Span) → LiesInOne s (flat_map (left_of t) es) → LiesInOne s es
in_whole t s [] lies = lies
in_whole t s (e ∷ es) lies = elim (in_either s (left_of t e) (flat_map (left_of t) es) lies) [ inl i ↦ inl (in_part t s e i) | inr i ↦ inr (in_whole t s es i) ]

-- The spans that are used, each in one extent or past all, and those that are freed, which meet none.
used_three : (n : ℕ) (es : List Span) → AreExtents 0 n es → (used now : List Span) → ((s : Span) → LiesInOne s now → LiesInOne s es) → AreUsed n used now → AllByRecursion (λ (s : Span). touched_by s es ≤ 3) used
used_three n es rise [] now whole all = tt
used_three n es rise (t ∷ used) now whole all = (
  elim all.1 [ inl i ↦ three_about 0 n t es rise (whole t i) | inr p ↦ omega (arith, one_last 0 n t es rise p) ],
  used_three n es rise used (without (t ∷ []) now) (λ s i. whole s (in_whole t s now i)) all.2,
)

freed_whole : (n : ℕ) (freed now : List Span) → AreFreed n freed now → AllByRecursion IsWhole freed
freed_whole n [] now all = tt
freed_whole n (s ∷ freed) now all = (all.0, freed_whole n freed _ all.3)

freed_two : (n : ℕ) (es : List Span) → AreExtents 0 n es → (freed : List Span) → AllByRecursion IsWhole freed → ((p : ℕ) → cover freed p + cover es p ≤ 1) → AllByRecursion (λ (s : Span). touched_by s es ≤ 2) freed
freed_two n es rise [] whole once = tt
freed_two n es rise (s ∷ freed) whole once = (two_beside 0 n s es rise (meets_none s es (λ p. omega (arith, once p))) whole.0.some, freed_two n es rise freed whole.1 (λ p. omega (arith, once p)))

-- a place lies in one extent at most
rise_once : (from to p : ℕ) (es : List Span) → AreExtents from to es → (cover es p ≤ 1) × (p < from → cover es p ≡ 0)
rise_once from to p [] rise = (omega arith, λ h. refl)
rise_once from to p (e ∷ es) rise = let rest = rise_once (end_of e) to p es rise.2 in
    elim (cases_lt p (end_of e)) [
      | inl h ↦ (omega (arith, rest.1 h, at_place), λ k. omega (arith, rest.1 h, at_place, k, rise.0))
      | inr h ↦ (omega (arith, rest.0, at_place, h), λ k. absurd (omega (arith, h, k, rise.0)))
    ]

apart_once : (n top : ℕ) (used freed dead kept es : List Span) → AreParts n top used freed dead kept es → (p : ℕ) → cover freed p + cover es p ≤ 1
apart_once n top used freed dead kept es parts p =
    let one = (rise_once 0 n p es parts.rise).0 in
    elim (cases_lt 0 (cover used p)) [
      | inl h ↦ omega (arith, h, one, parts.once p, cover-deleted_after used freed es p)
      | inr h ↦ let none : cover used p ≡ 0 = omega (arith, h) in omega (arith, parts.once p, cover-deleted_after used freed es p, without_out used es p none)
    ]

-- all that some spans touch
either_at_most : (a b : Bool) → cond (a || b) 1 0 ≤ cond a 1 0 + cond b 1 0
either_at_most true b = omega arith
either_at_most false b = omega arith

any_more : (s : Span) (ss es : List Span) → times (λ (e : Span). list_any (touches e) (s ∷ ss)) es ≤ touched_by s es + times (λ (e : Span). list_any (touches e) ss) es
any_more s ss [] = omega arith
any_more s ss (e ∷ es) = omega (arith, either_at_most (touches e s) (list_any (touches e) ss), any_more s ss es)

any_none : (es : List Span) → times (λ (e : Span). false) es ≡ 0
any_none [] = refl
any_none (e ∷ es) = omega (arith, any_none es)

any_bound : (k : ℕ) (ss ts es : List Span) → AllByRecursion (λ (s : Span). touched_by s es ≤ k) ss → times (λ (e : Span). list_any (touches e) (ss ++ ts)) es ≤ k * length ss + times (λ (e : Span). list_any (touches e) ts) es
any_bound k [] ts es all = omega arith
any_bound k (s ∷ ss) ts es all = omega (arith, any_more s (ss ++ ts) es, all.0, any_bound k ss ts es all.1)

pub few_touched : (n top : ℕ) (used freed dead kept es : List Span) → AreParts n top used freed dead kept es → length (filter (is_touched used freed) es) ≤ 3 * length used + 2 * length freed
few_touched n top used freed dead kept es parts =
    let takes = used_three n es parts.rise used es (λ s i. i) parts.takes in
    let frees = freed_two n es parts.rise freed (freed_whole n freed _ parts.frees) (apart_once n top used freed dead kept es parts) in
    omega (
      arith,
      counted (is_touched used freed) es,
      any_bound 3 used freed es takes,
      any_bound 2 freed [] es frees,
      ap (λ (l : List Span). times (λ (e : Span). list_any (touches e) l) es) (append-nil freed),
      any_none es,
    )
