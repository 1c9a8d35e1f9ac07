-- What the calls of a map do, from what their parts do.
use Rattle.std.proofs.Common.{◌≡◌, ℕ, suc, ◌+◌, ◌-◌, ◌<◌, ◌≤◌, List, [], ◌∷◌, ◌++◌, map, take, drop, length, get_or, Option, Some, None, Ok, ap, sym, ◌∙◌, subst, arith}
use Rattle.std.specs.List.{prefix_len}
use Rattle.czi_format.specs.Span.{Span, end_of, LiesInOne}
use Rattle.czi_format.specs.Space.{without, free_runs, use_all, place_for, place_past, together, with_next, with_freed, with_held, cut_to, from_to}
use Rattle.czi_num.specs.declared.span.Span.{Span as CodeSpan}
use Rattle.czi_num.specs.Span.{span_of}
use Rattle.czi_space.specs.State.{AreExtents, IsInOrder, MeetsNone, IsHeld, ends_by, comes_before, some_of, lowest_of}
use Rattle.czi_space.proofs.Taken.{TakenAt, taken_at, some_between}
use Rattle.czi_space.proofs.Freed.{FreedAt, freed_at}
use Rattle.czi_space.proofs.Held.{ReleasedAt, held_at, released_at}
use Rattle.czi_space.proofs.Cut.{cut_at}
use Rattle.czi_space.proofs.Edited.{read_as}
use Rattle.czi_space.proofs.Found.{rest_of, found_now, none_now, none_at_all}

pub taken_there : (xs seen : List CodeSpan) (to : ℕ) (extents : List Span) (s : Span) (i : ℕ) → AreExtents 0 to (map span_of xs) → map span_of xs ≡ extents → 0 < s.len → LiesInOne s extents
    → seen ≡ xs → i ≡ prefix_len (ends_by s.at) (map span_of seen) → TakenAt span_of xs s i
taken_there xs seen to extents s i es is some lies seen_is i_is =
    let there : i ≡ prefix_len (ends_by s.at) (map span_of xs) = i_is ∙ ap (λ l. prefix_len (ends_by s.at) (map span_of l)) seen_is in
    subst (TakenAt span_of xs s) (sym there) (taken_at span_of 0 to xs s es some (subst (LiesInOne s) (sym is) lies))

-- what stands for the extent
pub taken_is : (xs : List CodeSpan) (s : Span) (i : ℕ) (e : CodeSpan) (new : List Span) → TakenAt span_of xs s i → e ≡ get_or xs i e
    → new ≡ take i (map span_of xs) ++ (some_of (record { at = e.at; len = s.at - e.at }) ++ (some_of (record { at = end_of s; len = end_of (span_of e) - end_of s }) ++ drop (i + 1) (map span_of xs)))
    → new ≡ without (s ∷ []) (map span_of xs)
taken_is xs s i e new t e_is is =
    is ∙ (ap (λ l. take i (map span_of xs) ++ (l ++ (some_of (record { at = end_of s; len = end_of (span_of e) - end_of s }) ++ drop (i + 1) (map span_of xs)))) (some_between e.at s.at)
    ∙ (ap (λ l. take i (map span_of xs) ++ (from_to e.at s.at ++ (l ++ drop (i + 1) (map span_of xs)))) (some_between (end_of s) (end_of (span_of e)))
    ∙ sym (subst (λ (z : CodeSpan). without (s ∷ []) (map span_of xs) ≡ take i (map span_of xs) ++ (from_to z.at s.at ++ (from_to (end_of s) (end_of (span_of z)) ++ drop (i + 1) (map span_of xs)))) (sym e_is) (t.left e))))

pub freed_there : (xs seen : List CodeSpan) (to : ℕ) (extents : List Span) (s : Span) (i : ℕ) → AreExtents 0 to (map span_of xs) → map span_of xs ≡ extents → 0 < s.len → MeetsNone s extents
    → seen ≡ xs → i ≡ prefix_len (ends_by s.at) (map span_of seen) → FreedAt span_of xs s i
freed_there xs seen to extents s i es is some none seen_is i_is =
    let there : i ≡ prefix_len (ends_by s.at) (map span_of xs) = i_is ∙ ap (λ l. prefix_len (ends_by s.at) (map span_of l)) seen_is in
    subst (FreedAt span_of xs s) (sym there) (freed_at span_of 0 to xs s es some (subst (MeetsNone s) (sym is) none))

-- joined with the extent before
pub joined_is : (xs : List CodeSpan) (s : Span) (i : ℕ) (e : CodeSpan) (new : List Span) → FreedAt span_of xs s i → 0 < i → e ≡ get_or xs (i - 1) e → end_of (span_of e) ≡ s.at
    → new ≡ take (i - 1) (map span_of xs) ++ with_next (record { at = e.at; len = e.len + s.len }) (drop (i - 1 + 1) (map span_of xs)) → new ≡ with_freed s (map span_of xs)
joined_is xs s i e new t some e_is ends is =
    let last : i ≡ suc (i - 1) = omega arith in
    let next : i - 1 + 1 ≡ suc (i - 1) = omega arith in
    let read : end_of (span_of (get_or xs (i - 1) e)) ≡ s.at = ap (λ (z : CodeSpan). end_of (span_of z)) (sym e_is) ∙ ends in
    is ∙ (ap (λ n. take (i - 1) (map span_of xs) ++ with_next (together (span_of e) s) (drop n (map span_of xs))) next
    ∙ sym (subst (λ (z : CodeSpan). with_freed s (map span_of xs) ≡ take (i - 1) (map span_of xs) ++ with_next (together (span_of z) s) (drop (suc (i - 1)) (map span_of xs))) (sym e_is) (t.joined e (i - 1) last read)))

-- the extent before isn't joined
pub apart_from : (xs : List CodeSpan) (s : Span) (i : ℕ) (e : CodeSpan) → i ≤ length xs → 0 < i → e ≡ get_or xs (i - 1) e → (e.at + e.len ≡ s.at → ⊥)
    → (d : CodeSpan) (j : ℕ) → i ≡ suc j → end_of (span_of (get_or xs j d)) ≡ s.at → ⊥
apart_from xs s i e inside some e_is other d j j_is ends =
    let same : i - 1 ≡ j = omega arith in
    let read : get_or xs (i - 1) d ≡ e = read_as xs (i - 1) e d (omega arith) e_is in
    other (ap (λ (z : CodeSpan). end_of (span_of z)) (sym read ∙ ap (λ n. get_or xs n d) same) ∙ ends)

pub held_is : (xs seen after : List CodeSpan) (s : CodeSpan) (i : ℕ) → seen ≡ xs → i ≡ prefix_len (comes_before (span_of s)) (map span_of seen) → map span_of after ≡ take i (map span_of xs) ++ (span_of s ∷ drop i (map span_of xs))
    → map span_of after ≡ with_held (span_of s) (map span_of xs)
held_is xs seen after s i seen_is i_is is =
    let there : i ≡ prefix_len (comes_before (span_of s)) (map span_of xs) = i_is ∙ ap (λ l. prefix_len (comes_before (span_of s)) (map span_of l)) seen_is in
    is ∙ (ap (λ n. take n (map span_of xs) ++ (span_of s ∷ drop n (map span_of xs))) there ∙ sym (held_at (span_of s) (map span_of xs)))

pub released_there : (xs seen : List CodeSpan) (held : List Span) (s : Span) (i : ℕ) → IsInOrder (map span_of xs) → map span_of xs ≡ held → IsHeld s held
    → seen ≡ xs → i ≡ prefix_len (comes_before s) (map span_of seen) → ReleasedAt s (map span_of xs) i
released_there xs seen held s i order is among seen_is i_is =
    let there : i ≡ prefix_len (comes_before s) (map span_of xs) = i_is ∙ ap (λ l. prefix_len (comes_before s) (map span_of l)) seen_is in
    subst (ReleasedAt s (map span_of xs)) (sym there) (released_at s (map span_of xs) order (subst (IsHeld s) (sym is) among))

pub cut_is : (xs seen after : List CodeSpan) (to n i : ℕ) → AreExtents 0 to (map span_of xs) → seen ≡ xs → i ≡ prefix_len (ends_by n) (map span_of seen) → map span_of after ≡ take i (map span_of xs)
    → map span_of after ≡ cut_to n (map span_of xs)
cut_is xs seen after to n i es seen_is i_is is =
    let there : i ≡ prefix_len (ends_by n) (map span_of xs) = i_is ∙ ap (λ l. prefix_len (ends_by n) (map span_of l)) seen_is in
    is ∙ (ap (λ k. take k (map span_of xs)) there ∙ sym (cut_at 0 to n (map span_of xs) es))

-- what the search in one extent says of the list
one_extent : (xs seen held held_seen used : List CodeSpan) (need i : ℕ) (e : CodeSpan) (r : Option ℕ) → seen ≡ xs → held_seen ≡ held → e ≡ get_or seen i e
    → r ≡ lowest_of need (without (map span_of used) (without (map span_of held_seen) (span_of e ∷ []))) → rest_of span_of (map span_of held) (map span_of used) need (get_or xs i e ∷ []) ≡ r
one_extent xs seen held held_seen used need i e r seen_is held_is' e_is r_is =
    let there : e ≡ get_or xs i e = e_is ∙ ap (λ l. get_or l i e) seen_is in
    sym (r_is ∙ (ap (λ l. lowest_of need (without (map span_of used) (without (map span_of l) (span_of e ∷ [])))) held_is' ∙ ap (λ (z : CodeSpan). lowest_of need (without (map span_of used) (without (map span_of held) (span_of z ∷ [])))) there))

pub found_step : (xs seen held held_seen used : List CodeSpan) (need n at i : ℕ) (e : CodeSpan) (r : Option ℕ) → seen ≡ xs → held_seen ≡ held → i < length seen → e ≡ get_or seen i e
    → r ≡ lowest_of need (without (map span_of used) (without (map span_of held_seen) (span_of e ∷ []))) → r ≡ Some at
    → rest_of span_of (map span_of held) (map span_of used) need (drop i xs) ≡ rest_of span_of (map span_of held) (map span_of used) need xs
    → place_for (use_all (record { runs = free_runs (map span_of held) (map span_of xs); length = n }) (map span_of used)) need ≡ Ok at
found_step xs seen held held_seen used need n at i e r seen_is held_is' inside e_is r_is some is =
    found_now span_of (map span_of held) (map span_of used) need n at xs i e (omega (arith, ap length seen_is)) is (one_extent xs seen held held_seen used need i e r seen_is held_is' e_is r_is ∙ some)

pub none_step : (xs seen held held_seen used : List CodeSpan) (need i : ℕ) (e : CodeSpan) (r : Option ℕ) → seen ≡ xs → held_seen ≡ held → i < length seen → e ≡ get_or seen i e
    → r ≡ lowest_of need (without (map span_of used) (without (map span_of held_seen) (span_of e ∷ []))) → r ≡ None
    → rest_of span_of (map span_of held) (map span_of used) need (drop i xs) ≡ rest_of span_of (map span_of held) (map span_of used) need xs
    → rest_of span_of (map span_of held) (map span_of used) need (drop (i + 1) xs) ≡ rest_of span_of (map span_of held) (map span_of used) need xs
none_step xs seen held held_seen used need i e r seen_is held_is' inside e_is r_is none is =
    none_now span_of (map span_of held) (map span_of used) need xs i e (omega (arith, ap length seen_is)) is (one_extent xs seen held held_seen used need i e r seen_is held_is' e_is r_is ∙ none)

pub no_step : (xs seen held used : List CodeSpan) (need n m i : ℕ) → seen ≡ xs → length seen ≤ i
    → rest_of span_of (map span_of held) (map span_of used) need (drop i xs) ≡ rest_of span_of (map span_of held) (map span_of used) need xs → m ≡ (use_all (record { runs = []; length = n }) (map span_of used)).length
    → place_for (use_all (record { runs = free_runs (map span_of held) (map span_of xs); length = n }) (map span_of used)) need ≡ place_past (record { runs = []; length = m }) need
no_step xs seen held used need n m i seen_is over is m_is = none_at_all span_of (map span_of held) (map span_of used) need n m xs i (omega (arith, ap length seen_is)) is m_is
