-- The extents that spans touch change by themselves: what these make of them is what they make of all, and the others stay.
use Rattle.std.proofs.Common.{◌≡◌, ◌⊎◌, ℕ, ◌-◌, ◌<◌, ◌≤◌, List, [], ◌∷◌, ◌++◌, Bool, true, false, suc, map, filter, length, get_or, nat_lt, ◌==◌, refl, ap, sym, ◌∙◌, subst, arith, inl, inr, append_assoc}
use Rattle.std.specs.List.{AllByRecursion, flat_map, list_any}
use Rattle.std.proofs.lemmas.Bool.{cases_Bool, cases_lt, lt-ltb, ltb-true, ltb-false, eqb-true, eqb-false, ne_eqb}
use Rattle.std.proofs.lemmas.Bool.Decides.{nat_tests}
use Rattle.std.proofs.lemmas.List.{map-append}
use Rattle.std.proofs.lemmas.List.Elements.{filter-append}
use Rattle.czi_format.specs.Space.{deleted_after, from_to, left_of, same_span, together, with_all_freed, with_freed, with_next, without}
use Rattle.czi_format.specs.Span.{Span, end_of, meets, sorted, span_le, IsWhole, LiesInOne}
use Rattle.czi_num.specs.Span.{span_of}
use Rattle.czi_num.specs.declared.span.Span.{Span as CodeSpan}
use Rattle.czi_machine.proofs.Leaving.{among_themselves}
use Rattle.czi_machine.proofs.Tiled.{All-filter, All-both, All-weaken}
use Rattle.czi_spans.specs.Apart.{AreApart}
use Rattle.czi_spans.proofs.Apart.{apart_two}
use Rattle.czi_space.specs.State.{AreExtents, MeetsNone}
use Rattle.czi_space.proofs.Edited.{read_as}
use Rattle.czi_space.proofs.Freed.{freed_extents}
use Rattle.czi_plan.specs.Geometry.{AreFreed, AreUsed, is_touched, touches}
use Rattle.czi_plan.specs.Marks.{is_new}
use Rattle.czi_plan.proofs.Order.{extents_apart, used_stay}
use Rattle.czi_format.proofs.Local.{All-append}

-- it holds of each span that s touches
pub record HasTouched (P : Span → Type 0) (s : Span) : Type 0 where
  pub all : (e : Span) → s.at ≤ end_of e → e.at ≤ end_of s → P e

abbrev pub Passes : (Span → Bool) → Span → Type 0
Passes t e = t e ≡ true

-- what a span leaves of another it touches, or leaves whole
places_have : (P : Span → Type 0) (s : Span) (a b : ℕ) → HasTouched P s → s.at ≤ b → a ≤ end_of s → AllByRecursion P (from_to a b)
places_have P s a b has low high = elim (cases_Bool (nat_lt a b)) [
  | inl e ↦ rw e (has.all (record { at = a; len = b - a }) (omega (arith, ltb-true _ _ e)) high, tt)
  | inr e ↦ rw e tt
]

left_have : (P : Span → Type 0) (s e : Span) → HasTouched P s → P e → AllByRecursion P (left_of s e)
left_have P s e has own = elim (cases_Bool (meets s e)) [
  | inl m ↦ rw m (All-both P (from_to e.at s.at) (from_to (end_of s) (end_of e)) (places_have P s e.at s.at has (omega arith) (omega (arith, ltb-true _ _ m))) (places_have P s (end_of s) (end_of e) has (omega (arith, ltb-true _ _ m)) (omega arith)))
  | inr m ↦ rw m (own, tt)
]

pub used_have : (P : Span → Type 0) (used es : List Span) → AllByRecursion (HasTouched P) used → AllByRecursion P es → AllByRecursion P (without used es)
used_have P [] es has all = all
used_have P (s ∷ used) es has all = used_have P used (flat_map (left_of s) es) has.1 (each es all)
  where
    each : (xs : List Span) → AllByRecursion P xs → AllByRecursion P (flat_map (left_of s) xs)
    each [] all = tt
    each (x ∷ xs) all = All-both P (left_of s x) (flat_map (left_of s) xs) (left_have P s x has.0 all.0) (each xs all.1)

pub whole_filter : {X : Type 0} (t : X → Bool) (xs : List X) → AllByRecursion (λ x. t x ≡ true) xs → filter t xs ≡ xs
whole_filter t [] all = refl
whole_filter t (x ∷ xs) all = rw all.0 (ap (λ l. x ∷ l) (whole_filter t xs all.1))

-- what is used is taken out of the extents that it touches
taken_touched : (t : Span → Bool) (s : Span) (es : List Span) → HasTouched (Passes t) s → filter t (flat_map (left_of s) es) ≡ flat_map (left_of s) (filter t es)
taken_touched t s [] has = refl
taken_touched t s (e ∷ es) has = filter-append t (left_of s e) (flat_map (left_of s) es) ∙ elim (cases_Bool (t e)) [
  | inl p ↦ rw p (ap (λ l. l ++ filter t (flat_map (left_of s) es)) (whole_filter t (left_of s e) (left_have (Passes t) s e has p)) ∙ ap (λ l. left_of s e ++ l) (taken_touched t s es has))
  | inr p ↦ elim (cases_Bool (meets s e)) [
    | inl m ↦ let met = ltb-true _ _ m in absurd (let q = has.all e (omega arith) (omega arith) in cc)
    | inr m ↦ rw (m, p) (taken_touched t s es has)
  ]
]

pub used_touched : (t : Span → Bool) (used es : List Span) → AllByRecursion (HasTouched (Passes t)) used → filter t (without used es) ≡ without used (filter t es)
used_touched t [] es has = refl
used_touched t (s ∷ used) es has = used_touched t used (flat_map (left_of s) es) has.1 ∙ ap (without used) (taken_touched t s es has.0)

pub kept_rise : (t : Span → Bool) (from to : ℕ) (es : List Span) → AreExtents from to es → AreExtents from to (filter t es)
kept_rise t from to [] rise = rise
kept_rise t from to (e ∷ es) rise = elim (cases_Bool (t e)) [
  | inl p ↦ rw p (rise.0, rise.1, kept_rise t (end_of e) to es rise.2)
  | inr p ↦ rw p (lower from (end_of e) (filter t es) (omega (arith, rise.0)) (kept_rise t (end_of e) to es rise.2))
]
  where
    lower : (a b : ℕ) (xs : List Span) → a ≤ b → AreExtents b to xs → AreExtents a to xs
    lower a b [] h r = omega arith
    lower a b (x ∷ xs) h r = (omega (arith, r.0), r.1, r.2)

pub kept_used : (t : Span → Bool) (n : ℕ) (used es : List Span) → AllByRecursion (HasTouched (Passes t)) used → AreUsed n used es → AreUsed n used (filter t es)
kept_used t n [] es has takes = tt
kept_used t n (s ∷ used) es has takes = (takes.0, elim takes.1 [ inl i ↦ inl (lies es i) | inr p ↦ inr p ], subst (AreUsed n used) (taken_touched t s es has.0) (kept_used t n used (flat_map (left_of s) es) has.1 takes.2))
  where
    lies : (xs : List Span) → LiesInOne s xs → LiesInOne s (filter t xs)
    lies [] i = i
    lies (x ∷ xs) (inl i) = let p : t x ≡ true = has.0.all x (omega (arith, i.0, i.1)) (omega (arith, i.0, i.1)) in rw p (inl i)
    lies (x ∷ xs) (inr i) = elim (cases_Bool (t x)) [ inl p ↦ rw p (inr (lies xs i)) | inr p ↦ rw p (lies xs i) ]

-- what is freed is put into the extents that it touches
behind : (s : Span) (from to : ℕ) (es : List Span) → 0 < s.len → AreExtents from to es → MeetsNone s es → s.at ≤ from → end_of s ≤ to → AreExtents (end_of s) to es
behind s from to [] some rise none low high = high
behind s from to (x ∷ es) some rise none low high = (omega (arith, ltb-false _ _ none.0, rise.0, rise.1.some), rise.1, rise.2)

next_touched : (t : Span → Bool) (s j : Span) (to : ℕ) (es : List Span) → HasTouched (Passes t) s → j.at ≤ end_of s → end_of j ≡ end_of s → AreExtents (end_of s) to es → filter t (with_next j es) ≡ with_next j (filter t es)
next_touched t s j to [] has low ends rise = let p : t j ≡ true = has.all j (omega arith) low in rw p refl
next_touched t s j to (f ∷ es) has low ends rise = elim (cases_Bool (end_of j == f.at)) [
  | inl e ↦ let next = eqb-true _ _ e in
      let p : t f ≡ true = has.all f (omega arith) (omega arith) in
      let q : t (together j f) ≡ true = has.all (together j f) (omega arith) low in
      rw (e, p, q, e) refl
  | inr e ↦ let p : t j ≡ true = has.all j (omega arith) low in
      rw (e, p) (sym (apart f.at (filter t (f ∷ es)) (omega (arith, eqb-false _ _ e, rise.0)) (kept_rise t f.at to (f ∷ es) (omega arith, rise.1, rise.2))))
]
  where
    apart : (n : ℕ) (xs : List Span) → end_of j < n → AreExtents n to xs → with_next j xs ≡ j ∷ xs
    apart n [] h r = refl
    apart n (x ∷ xs) h r = let other : (end_of j == x.at) ≡ false = ne_eqb _ _ (λ same. omega (arith, same, r.0)) in rw other refl

freed_touched : (t : Span → Bool) (s : Span) (from to : ℕ) (es : List Span) → 0 < s.len → HasTouched (Passes t) s → AreExtents from to es → MeetsNone s es → end_of s ≤ to → filter t (with_freed s es) ≡ with_freed s (filter t es)
freed_touched t s from to [] some has rise none high = let p : t s ≡ true = has.all s (omega arith) (omega arith) in rw p refl
freed_touched t s from to (e ∷ es) some has rise none high = elim (cases_Bool (nat_lt s.at e.at)) [
  | inl l ↦ let low = ltb-true _ _ l in
      let all : AreExtents e.at to (e ∷ es) = (omega arith, rise.1, rise.2) in
      rw l (next_touched t s s to (e ∷ es) has (omega arith) refl (behind s e.at to (e ∷ es) some all none (omega (arith, low)) high) ∙ sym (first e.at (filter t (e ∷ es)) low (kept_rise t e.at to (e ∷ es) all)))
  | inr l ↦ elim (cases_Bool (end_of e == s.at)) [
    | inl j ↦ let ends = eqb-true _ _ j in
        let p : t e ≡ true = has.all e (omega arith) (omega arith) in
        rw (l, j, p, l, j) (next_touched t s (together e s) to es has (omega arith) (omega arith) (behind s (end_of e) to es some rise.2 none.1 (omega arith) high))
    | inr j ↦ rw (l, j) (elim (cases_Bool (t e)) [
      | inl p ↦ rw (p, l, j) (ap (λ x. e ∷ x) (freed_touched t s (end_of e) to es some has rise.2 none.1 high))
      | inr p ↦ rw p (freed_touched t s (end_of e) to es some has rise.2 none.1 high)
    ])
  ]
]
  where
    first : (n : ℕ) (xs : List Span) → s.at < n → AreExtents n to xs → with_freed s xs ≡ with_next s xs
    first n [] h r = refl
    first n (x ∷ xs) h r = let test : nat_lt s.at x.at ≡ true = lt-ltb _ _ (omega (arith, r.0)) in rw test refl

-- what is freed among the extents that spans touch: what is freed among all
pub kept_freed : (t : Span → Bool) (n : ℕ) (freed es : List Span) → AllByRecursion (HasTouched (Passes t)) freed → AreExtents 0 n es → AreFreed n freed es → AreFreed n freed (filter t es) × (filter t (with_all_freed freed es) ≡ with_all_freed freed (filter t es))
kept_freed t n [] es has rise frees = (tt, refl)
kept_freed t n (s ∷ freed) es has rise frees =
    let same = freed_touched t s 0 n es frees.0.some has.0 rise frees.1 frees.2 in
    let rest = kept_freed t n freed (with_freed s es) has.1 (freed_extents 0 n s es rise frees.0 frees.1 (omega arith) frees.2) frees.3 in
    ((frees.0, All-filter (λ e. meets s e ≡ false) t es frees.1, frees.2, subst (AreFreed n freed) same rest.0), rest.1 ∙ ap (with_all_freed freed) same)

next_have : (P : Span → Type 0) (s j : Span) (es : List Span) → HasTouched P s → j.at ≤ end_of s → s.at ≤ end_of j → AllByRecursion P es → AllByRecursion P (with_next j es)
next_have P s j [] has low high all = (has.all j high low, tt)
next_have P s j (f ∷ es) has low high all = elim (cases_Bool (end_of j == f.at)) [
  | inl e ↦ rw e (has.all (together j f) (omega arith) low, all.1)
  | inr e ↦ rw e (has.all j high low, all)
]

freed_have : (P : Span → Type 0) (s : Span) (es : List Span) → HasTouched P s → AllByRecursion P es → AllByRecursion P (with_freed s es)
freed_have P s [] has all = (has.all s (omega arith) (omega arith), tt)
freed_have P s (e ∷ es) has all = elim (cases_Bool (nat_lt s.at e.at)) [
  | inl l ↦ rw l (next_have P s s (e ∷ es) has (omega arith) (omega arith) all)
  | inr l ↦ elim (cases_Bool (end_of e == s.at)) [
    | inl j ↦ let ends = eqb-true _ _ j in rw (l, j) (next_have P s (together e s) es has (omega arith) (omega arith) all.1)
    | inr j ↦ rw (l, j) (all.0, freed_have P s es has all.1)
  ]
]

pub all_freed_have : (P : Span → Type 0) (freed es : List Span) → AllByRecursion (HasTouched P) freed → AllByRecursion P es → AllByRecursion P (with_all_freed freed es)
all_freed_have P [] es has all = all
all_freed_have P (s ∷ freed) es has all = all_freed_have P freed (with_freed s es) has.1 (freed_have P s es has.0 all)

-- each span touches what it touches
have_any : (P : Span → Type 0) (xs : List Span) → ((e : Span) → list_any (touches e) xs ≡ true → P e) → AllByRecursion (HasTouched P) xs
have_any P [] f = tt
have_any P (s ∷ xs) f = (
  record { all = λ e a b. f e (let one : touches e s ≡ true = grind (arith, nat_tests) in rw one refl) },
  have_any P xs (λ e h. f e (elim (cases_Bool (touches e s)) [ inl p ↦ rw p refl | inr p ↦ rw p h ])),
)

-- A plan changes the extents that its spans touch as it changes all, and an extent afterwards that they don't touch was there before.
pub record ChangesTouched (n : ℕ) (used freed es : List Span) : Type 0 where
  pub rise : AreExtents 0 n (filter (is_touched used freed) es)
  pub takes : AreUsed n used (filter (is_touched used freed) es)
  pub frees : AreFreed n freed (without used (filter (is_touched used freed) es))
  pub after : deleted_after used freed (filter (is_touched used freed) es) ≡ filter (is_touched used freed) (deleted_after used freed es)
  pub news : filter (is_new es) (filter (is_touched used freed) (deleted_after used freed es)) ≡ filter (is_new es) (deleted_after used freed es)

pub changes_touched : (n : ℕ) (used freed es : List Span) → AreExtents 0 n es → AreUsed n used es → AreFreed n freed (without used es) → sorted span_le freed ≡ freed → ChangesTouched n used freed es
changes_touched n used freed es rise takes frees order =
    let t : Span → Bool = is_touched used freed in
    let has = All-append (HasTouched (Passes t)) used freed (have_any (Passes t) (used ++ freed) (λ e h. h)) in
    let same : filter t (without used es) ≡ without used (filter t es) = used_touched t used es has.0 in
    let both = kept_freed t n freed (without used es) has.1 (used_stay n used es rise takes) frees in
    let P : Span → Type 0 = λ e. (t e ≡ true) ⊎ (list_any (same_span e) es ≡ true) in
    let known = All-append (HasTouched P) used freed (have_any P (used ++ freed) (λ e h. inl h)) in
    record {
      rise = kept_rise t 0 n es rise;
      takes = kept_used t n used es has.0 takes;
      frees = subst (AreFreed n freed) same both.0;
      after = ap (λ l. with_all_freed l (without used (filter t es))) order ∙ (ap (with_all_freed freed) (sym same) ∙ (sym both.1 ∙ ap (λ l. filter t (with_all_freed l (without used es))) (sym order)));
      news = seen t es (deleted_after used freed es) (subst (λ l. AllByRecursion P (with_all_freed l (without used es))) (sym order) (all_freed_have P freed (without used es) known.1 (used_have P used es known.0 (All-weaken _ P (λ e h. inr h) es (among_themselves es)))));
    }
  where
    seen : (t : Span → Bool) (es xs : List Span) → AllByRecursion (λ e. (t e ≡ true) ⊎ (list_any (same_span e) es ≡ true)) xs → filter (is_new es) (filter t xs) ≡ filter (is_new es) xs
    seen t es [] all = refl
    seen t es (x ∷ xs) all = elim (cases_Bool (t x)) [
      | inl p ↦ rw p (elim (cases_Bool (list_any (same_span x) es)) [ inl q ↦ rw q (seen t es xs all.1) | inr q ↦ rw q (ap (λ l. x ∷ l) (seen t es xs all.1)) ])
      | inr p ↦ let q : list_any (same_span x) es ≡ true = elim all.0 [ inl h ↦ cc | inr h ↦ h ] in rw (p, q) (seen t es xs all.1)
    ]

-- what doesn't touch a span touches none in it
any_missed : (h e : Span) (xs : List Span) → h.at ≤ e.at → end_of e ≤ end_of h → list_any (touches h) xs ≡ false → list_any (touches e) xs ≡ false
any_missed h e [] low high none = refl
any_missed h e (s ∷ xs) low high none = elim (cases_Bool (touches h s)) [
  | inl p ↦ absurd (let q = rw p at none in cc)
  | inr p ↦ let q : touches e s ≡ false = grind (arith, nat_tests) in rw q (any_missed h e xs low high (rw p at none))
]

abbrev pub IsBetween : Span → Span → Span → Type 0
IsBetween first last e = (first.at ≤ e.at) × (end_of e ≤ end_of last)

pub all_between : {X : Type 0} (f : X → Span) (xs : List X) (first last : X) → AreApart 0 (map f xs) → first ≡ get_or xs 0 first → last ≡ get_or xs (length xs - 1) last → AllByRecursion (IsBetween (f first) (f last)) (map f xs)
all_between {X} f xs first last apart first_is last_is = each xs inside
  where
    inside : (k : ℕ) (d : X) → k < length xs → IsBetween (f first) (f last) (f (get_or xs k d))
    inside k d l =
        let one : get_or xs 0 d ≡ first = read_as xs 0 first d (omega arith) first_is in
        let end : get_or xs (length xs - 1) d ≡ last = read_as xs (length xs - 1) last d (omega arith) last_is in (
          elim (cases_lt 0 k) [ inl m ↦ omega (arith, ap (λ z. (f z).at) one, ap (λ z. end_of (f z)) one, apart_two f 0 xs 0 k d apart m l) | inr m ↦ (let zero_k : k ≡ 0 = omega arith in rw zero_k (omega (arith, ap (λ z. (f z).at) one))) ],
          elim (cases_lt k (length xs - 1)) [ inl m ↦ omega (arith, ap (λ z. (f z).at) end, ap (λ z. end_of (f z)) end, apart_two f 0 xs k (length xs - 1) d apart m (omega arith)) | inr m ↦ (let last_k : k ≡ length xs - 1 = omega arith in rw last_k (omega (arith, ap (λ z. end_of (f z)) end))) ],
        )

    each : (ys : List X) → ((k : ℕ) (d : X) → k < length ys → IsBetween (f first) (f last) (f (get_or ys k d))) → AllByRecursion (IsBetween (f first) (f last)) (map f ys)
    each [] at = tt
    each (y ∷ ys) at = (at 0 y (omega arith), each ys (λ k d l. at (suc k) d (omega arith)))

pub hull_order : {X : Type 0} (f : X → Span) (first last : Span) (xs : List X) → AllByRecursion (IsBetween first last) (map f xs) → 0 < length xs → first.at ≤ end_of last
hull_order f first last [] all some = absurd (omega arith)
hull_order f first last (x ∷ xs) all some = omega (arith, all.0)

pub hull_missed : (used freed : List Span) (first last : Span) (es : List Span) → AllByRecursion (IsBetween first last) es → first.at ≤ end_of last
    → is_touched used freed (record { at = first.at; len = end_of last - first.at }) ≡ false → filter (is_touched used freed) es ≡ []
hull_missed used freed first last [] all order none = refl
hull_missed used freed first last (e ∷ es) all order none =
    rw (any_missed (record { at = first.at; len = end_of last - first.at }) e (used ++ freed) all.0.0 (omega (arith, all.0.1, order)) none) (hull_missed used freed first last es all.1 order none)

-- Extents behind others: they are apart, and where those that aren't touched leave, what is left rises.
pub behind_apart : (fs : List Span) (from to : ℕ) (es : List Span) → AreExtents from to (fs ++ es) → AreApart 0 es
behind_apart [] from to es rise = lower from es (extents_apart from to es rise)
  where
    lower : (n : ℕ) (ss : List Span) → AreApart n ss → AreApart 0 ss
    lower n [] a = tt
    lower n (s ∷ ss) a = (omega arith, a.1, a.2)
behind_apart (f ∷ fs) from to es rise = behind_apart fs (end_of f) to es rise.2

rise_lower : (from low to : ℕ) (es : List Span) → low ≤ from → AreExtents from to es → AreExtents low to es
rise_lower from low to [] h rise = omega (arith, h, rise)
rise_lower from low to (e ∷ es) h rise = (omega (arith, h, rise.0), rise.1, rise.2)

rise_up : (from to : ℕ) (es : List Span) → AreExtents from to es → from ≤ to
rise_up from to [] rise = rise
rise_up from to (e ∷ es) rise = omega (arith, rise.0, rise_up (end_of e) to es rise.2)

-- the first of them
pub front_rise : (from to : ℕ) (fs es : List Span) → AreExtents from to (fs ++ es) → AreExtents from to fs
front_rise from to [] es rise = rise_up from to es rise
front_rise from to (f ∷ fs) es rise = (rise.0, rise.1, front_rise (end_of f) to fs es rise.2)

-- some that leave
leave_rise : (t : Span → Bool) (from to : ℕ) (es gs : List Span) → AreExtents from to (es ++ gs) → AreExtents from to (filter t es ++ gs)
leave_rise t from to [] gs rise = rise
leave_rise t from to (e ∷ es) gs rise = elim (cases_Bool (t e)) [
  | inl p ↦ rw p (rise.0, rise.1, leave_rise t (end_of e) to es gs rise.2)
  | inr p ↦ rw p (rise_lower (end_of e) from to (filter t es ++ gs) (omega (arith, rise.0)) (leave_rise t (end_of e) to es gs rise.2))
]

touched_rise : (t : Span → Bool) (from to : ℕ) (fs es gs : List Span) → AreExtents from to (fs ++ (es ++ gs)) → AreExtents from to ((fs ++ filter t es) ++ gs)
touched_rise t from to [] es gs rise = leave_rise t from to es gs rise
touched_rise t from to (f ∷ fs) es gs rise = (rise.0, rise.1, touched_rise t (end_of f) to fs es gs rise.2)

-- two halves
pub low_rise : (from to : ℕ) (fs : List Span) (low high : List CodeSpan) → AreExtents from to (fs ++ map span_of (low ++ high)) → AreExtents from to (fs ++ map span_of low)
low_rise from to fs low high rise =
    front_rise from to (fs ++ map span_of low) (map span_of high) (subst (AreExtents from to) (ap (λ l. fs ++ l) (map-append span_of low high) ∙ sym (append_assoc fs (map span_of low) (map span_of high))) rise)

pub high_rise : (t : Span → Bool) (from to : ℕ) (fs : List Span) (low high : List CodeSpan) → AreExtents from to (fs ++ map span_of (low ++ high)) → AreExtents from to ((fs ++ filter t (map span_of low)) ++ map span_of high)
high_rise t from to fs low high rise = touched_rise t from to fs (map span_of low) (map span_of high) (subst (λ l. AreExtents from to (fs ++ l)) (map-append span_of low high) rise)

-- one that comes behind others
pub one_rise : (from to : ℕ) (fs : List Span) (s : Span) → AreExtents from to (fs ++ s ∷ []) → AreExtents from s.at fs × IsWhole s × (end_of s ≤ to)
one_rise from to [] s rise = (rise.0, rise.1, rise.2)
one_rise from to (f ∷ fs) s rise = let rest = one_rise (end_of f) to fs s rise.2 in ((rise.0, rise.1, rest.0), rest.1, rest.2)

-- extents in two parts
pub touched_parts : (t : Span → Bool) (es low high : List CodeSpan) → es ≡ low ++ high → filter t (map span_of es) ≡ filter t (map span_of low) ++ filter t (map span_of high)
touched_parts t es low high e = ap (λ l. filter t (map span_of l)) e ∙ (ap (filter t) (map-append span_of low high) ∙ filter-append t (map span_of low) (map span_of high))

-- the one of a list of one
pub one_here : {X : Type 0} (xs : List X) (x : X) → length xs ≡ 1 → x ≡ get_or xs 0 x → xs ≡ x ∷ []
one_here [] x one is = absurd (omega (arith, one))
one_here (y ∷ []) x one is = ap (λ z. z ∷ []) (sym is)
one_here (y ∷ z ∷ xs) x one is = absurd (omega (arith, one))
