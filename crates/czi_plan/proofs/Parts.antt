-- Where a need goes; what a plan uses and frees among the extents of its map; and what an act on the subblocks does of that, among what is live.
use Rattle.std.proofs.Common.{◌≡◌, ℕ, ◌+◌, ◌-◌, ◌<◌, ◌≤◌, ◌^◌, List, [], ◌∷◌, max, min, nat_le, nat_lt, true, false, Option, Some, None, Result, Ok, refl, sym, subst, arith, inl, inr, ◌⊎◌, ◌%◌, map, filter, Bool, not, length, ◌*◌, ◌++◌, option_map, option_to_list, ap, ◌∙◌, append-nil, length-append, drop}
use Rattle.std.specs.List.{AllByRecursion, find, flat_map, list_any}
use Rattle.std.proofs.lemmas.Bool.{cases_Bool, cases_lt, ltb-true, lt-ltb, le-ltb, leb-true, ltb-false}
use Rattle.std.proofs.lemmas.List.{map-append, length-map, length-take}
use Rattle.std.proofs.lemmas.List.Elements.{filter-append}
use Rattle.czi_format.specs.Span.{Span, end_of, meets, round32, is_aligned, AreDisjoint, span_le, sorted, IsWhole, LiesInOne}
use Rattle.czi_format.specs.Space.{Space, Full, from_to, left_of, without, place_for, place_in, place_past, use_all, free_runs, Fit, fit, use_span, with_freed, deleted_after}
use Rattle.czi_space.specs.State.{AreExtents, MeetsNone, MapState, space_of}
use Rattle.czi_space.proofs.Found.{runs-use_all}
use Rattle.czi_machine.proofs.Tiled.{All-both, All-weaken, map-All, All-filter, All-map}
use Rattle.czi_format.specs.Layout.{Place}
use Rattle.czi_format.proofs.Rules.{on_ok}
use Rattle.czi_machine.specs.Cover.{between, cover}
use Rattle.czi_machine.specs.Holes.{holes, interior}
use Rattle.czi_machine.specs.Places.{can_be_used}
use Rattle.czi_machine.specs.State.{spans_of}
use Rattle.czi_machine.proofs.Cover.{without_in, without_out, without_none, cover-sorted, cover-with_freed, cover-deleted_after, cover-append}
use Rattle.czi_machine.proofs.Keeps.{aligned_whole, without_whole, deleted_after_whole}
use Rattle.czi_machine.proofs.Leaving.{cover-split}
use Rattle.czi_machine.proofs.Placing.{without_fewer, covers_own, freed_whole, in_one_covers}
use Rattle.czi_spans.specs.Apart.{AreApart}
use Rattle.czi_spans.proofs.Sorting.{all_sorted}
use Rattle.czi_machine.proofs.Steady.{disjoint_few}
use Rattle.czi_image.specs.Spans.{header_span, directory_span}
use Rattle.czi_image.specs.declared.change.DirectoryChange.{DirectoryChange}
use Rattle.czi_image.specs.declared.change.DirectoryChange.TheVariants.{Kept, Patched, New}
use Rattle.czi_image.specs.declared.index.Index.{Index}
use Rattle.czi_image.specs.declared.types.DirItem.{DirItem}
use Rattle.czi_num.specs.Span.{span_of}
use Rattle.czi_num.specs.declared.span.Span.{Span as CodeSpan}
use Rattle.czi_format.proofs.Local.{All-append}
use Rattle.czi_plan.specs.Geometry.{AreUsed, AreFreed, IsLong, AreParts}
use Rattle.czi_plan.specs.Plan.{usable_of, dead_of, left_directory}
use Rattle.czi_plan.proofs.Order.{at_place, sorted_again}
use Rattle.czi_plan.proofs.Brief.{length-sorted, spans_both}
use Rattle.czi_plan.specs.Conditions.{IsLeft, IsMapOf, live_of}
use Rattle.czi_plan.specs.Directory.{need_of}
use Rattle.czi_plan.specs.Listing.{IsPlace}
use Rattle.czi_machine.proofs.InOne.{in_without}
use Rattle.czi_machine.proofs.Clear.{map-map}
use Rattle.czi_image.specs.declared.change.Act.{Act as CodeAct}
use Rattle.czi_image.specs.declared.change.Act.TheVariants.{Out, Put, Into}
use Rattle.czi_machine.specs.Change.{Change}
use Rattle.czi_region.specs.declared.block.Region.{Region}
use Rattle.czi_region.specs.declared.block.Piece.{Piece as Range}
use Rattle.czi_plan.specs.Changing.{Brings, BringsNew, IsBack, IsNew, Origin, all_left, beside_in, edited, items_left, needed_in, new_spans, returned, space_behind, tiles_before, tiles_behind, tiles_brought, tiles_leaving, used_in}
use Rattle.czi_plan.specs.Kind.{Kind, span_in}
use Rattle.czi_plan.proofs.Acts.{act_parts, map-three}
use Rattle.czi_plan.proofs.KindLaws.{Laws}

-- a part of a span that lies in one of the extents
pub lies_sub : (r x : Span) (es : List Span) → x.at ≤ r.at → end_of r ≤ end_of x → LiesInOne x es → LiesInOne r es
lies_sub r x [] low high lies = lies
lies_sub r x (e ∷ es) low high (inl i) = inl (omega (arith, low, i.0), omega (arith, high, i.1))
lies_sub r x (e ∷ es) low high (inr i) = inr (lies_sub r x es low high i)

from_to_lies : (a b : ℕ) (x : Span) (es : List Span) → x.at ≤ a → b ≤ end_of x → LiesInOne x es → AllByRecursion (λ r. LiesInOne r es) (from_to a b)
from_to_lies a b x es low high lies = elim (cases_lt a b) [
  | inl h ↦ let test : nat_lt a b ≡ true = lt-ltb a b h in rw test (lies_sub (record { at = a; len = b - a }) x es low (omega (arith, h, high)) lies, tt)
  | inr h ↦ let test : nat_lt a b ≡ false = le-ltb a b h in rw test tt
]

left_lies : (t x : Span) (es : List Span) → LiesInOne x es → AllByRecursion (λ r. LiesInOne r es) (left_of t x)
left_lies t x es lies = elim (cases_Bool (meets t x)) [
  | inr e ↦ rw e (lies, tt)
  | inl e ↦ let met : max t.at x.at < min (end_of t) (end_of x) = ltb-true _ _ e in
      rw e (All-both (λ r. LiesInOne r es) (from_to x.at t.at) (from_to (end_of t) (end_of x))
      (from_to_lies x.at t.at x es (omega arith) (omega (arith, met)) lies) (from_to_lies (end_of t) (end_of x) x es (omega (arith, met)) (omega arith) lies))
]

all_left_lies : (t : Span) (xs es : List Span) → AllByRecursion (λ r. LiesInOne r es) xs → AllByRecursion (λ r. LiesInOne r es) (flat_map (left_of t) xs)
all_left_lies t [] es all = tt
all_left_lies t (x ∷ xs) es all = All-both (λ r. LiesInOne r es) (left_of t x) (flat_map (left_of t) xs) (left_lies t x es all.0) (all_left_lies t xs es all.1)

without_lies : (taken xs es : List Span) → AllByRecursion (λ r. LiesInOne r es) xs → AllByRecursion (λ r. LiesInOne r es) (without taken xs)
without_lies [] xs es all = all
without_lies (t ∷ taken) xs es all = without_lies taken (flat_map (left_of t) xs) es (all_left_lies t xs es all)

lie_behind : (e : Span) (xs es : List Span) → AllByRecursion (λ r. LiesInOne r es) xs → AllByRecursion (λ r. LiesInOne r (e ∷ es)) xs
lie_behind e [] es all = tt
lie_behind e (x ∷ xs) es all = (inr all.0, lie_behind e xs es all.1)

themselves : (es : List Span) → AllByRecursion (λ r. LiesInOne r es) es
themselves [] = tt
themselves (e ∷ es) = (inl (omega arith, omega arith), lie_behind e es es (themselves es))

-- what is left of extents lies in them
pub left_in_one : (taken es : List Span) → AllByRecursion (λ r. LiesInOne r es) (without taken es)
left_in_one taken es = without_lies taken es es (themselves es)

pub found_all : (need : ℕ) (P : Span → Type 0) (runs : List Span) (run : Span) → AllByRecursion P runs → find (λ (r : Span). nat_le need r.len) runs ≡ Some run → P run × (need ≤ run.len)
found_all need P [] run all e = cc
found_all need P (r ∷ runs) run all e = elim (cases_Bool (nat_le need r.len)) [
  | inl f ↦ let same : r ≡ run = some_same r run (rw f at e) in (subst P same all.0, subst (λ (z : Span). need ≤ z.len) same (leb-true _ _ f))
  | inr f ↦ found_all need P runs run all.1 (rw f at e)
]
  where
    some_same : (a b : Span) → Some a ≡ Some b → a ≡ b
    some_same a b e = cc

-- the two ways in which a need has a place
pub data Placed (s : Space) (need at : ℕ) : Type 0 where
  in_run : (run : Span) → find (λ (r : Span). nat_le need r.len) s.runs ≡ Some run → at ≡ run.at → Placed s need at
  past : at ≡ round32 s.length → at + need ≤ 2 ^ 40 → Placed s need at

same_place : (a b : ℕ) (r : Result ℕ Full) → r ≡ Ok a → r ≡ Ok b → a ≡ b
same_place a b r p q = cc

pub placed : (s : Space) (need at : ℕ) → place_for s need ≡ Ok at → Placed s need at
placed s need at e = on_run (find (λ (r : Span). nat_le need r.len) s.runs) refl e
  where
    on_run : (o : Option Span) → find (λ (r : Span). nat_le need r.len) s.runs ≡ o → place_in s need (find (λ (r : Span). nat_le need r.len) s.runs) ≡ Ok at → Placed s need at
    on_run (Some run) there e' = in_run run there (sym (same_place run.at at (place_in s need (Some run)) refl (rw there at e')))
    on_run None there e' = elim (cases_Bool (nat_le (round32 s.length + need) (2 ^ 40))) [
      | inr t ↦ absurd (let clash = rw (there, t) at e' in cc (clash))
      | inl t ↦ let same : round32 s.length ≡ at = same_place (round32 s.length) at (place_past s need) (rw t) (rw there at e') in
          past (sym same) (omega (arith, same, leb-true _ _ t))
    ]

extents_end : (from to : ℕ) (es : List Span) → AreExtents from to es → from ≤ to
extents_end from to [] es = es
extents_end from to (e ∷ rest) es = omega (arith, es.0, extents_end (end_of e) to rest es.2)

pub in_one_ends : (from to : ℕ) (es : List Span) (r : Span) → AreExtents from to es → LiesInOne r es → end_of r ≤ to
in_one_ends from to [] r es lies = absurd lies
in_one_ends from to (e ∷ rest) r es (inl i) = omega (arith, i.1, extents_end (end_of e) to rest es.2)
in_one_ends from to (e ∷ rest) r es (inr i) = in_one_ends (end_of e) to rest r es.2 i

-- a placed segment ends at or below 2^62
pub placed_ends : (n need at : ℕ) (held used es : List Span) → AreExtents 0 n es → n ≤ 2 ^ 62 → place_for (use_all (record { runs = free_runs held es; length = n }) used) need ≡ Ok at → at + need ≤ 2 ^ 62
placed_ends n need at held used es rise small e = elim (placed _ need at e) [
  | past a b ↦ omega (arith, b)
  | in_run run there is ↦
      let all : AllByRecursion (λ r. LiesInOne r es) (use_all (record { runs = free_runs held es; length = n }) used).runs
      = subst (AllByRecursion (λ r. LiesInOne r es)) (sym (runs-use_all (record { runs = free_runs held es; length = n }) used)) (without_lies used (without held es) es (left_in_one held es)) in
      let found : LiesInOne run es × (need ≤ run.len) = found_all need (λ r. LiesInOne r es) _ run all there in
      omega (arith, in_one_ends 0 n es run rise found.0, found.1, is, small)
]

pub extents_whole : (from to : ℕ) (es : List Span) → AreExtents from to es → AllByRecursion IsWhole es
extents_whole from to [] e = tt
extents_whole from to (s ∷ rest) e = (e.1, extents_whole (end_of s) to rest e.2)

-- the free extents of an index
pub free_extents : (from n : ℕ) (es : List Span) → from ≤ n → AreApart from es → AllByRecursion (λ s. is_aligned s ≡ true) es → AllByRecursion (λ s. end_of s ≤ n) es → AreExtents from n es
free_extents from n [] low apart aligned inside = low
free_extents from n (s ∷ rest) low apart aligned inside = (apart.0, aligned_whole s aligned.0 apart.1, free_extents (end_of s) n rest inside.0 apart.2 aligned.1 inside.1)

-- no place lies twice in spans that don't meet
none_in : (x : Span) (ys : List Span) (p : ℕ) → AllByRecursion (λ t. meets x t ≡ false) ys → x.at ≤ p → p < end_of x → cover ys p ≡ 0
none_in x [] p all h k = refl
none_in x (y ∷ ys) p all h k = omega (arith, at_place, ltb-false _ _ all.0, none_in x ys p all.1 h k)

not_any : (q : Span → Bool) (xs : List Span) → list_any q xs ≡ false → AllByRecursion (λ t. q t ≡ false) xs
not_any q [] e = tt
not_any q (x ∷ xs) e = elim (cases_Bool (q x)) [ inl f ↦ absurd (let clash = rw f at e in cc (clash)) | inr f ↦ (f, not_any q xs (rw f at e)) ]

behind_none : (from p : ℕ) (es : List Span) → AreApart from es → p < from → cover es p ≡ 0
behind_none from p [] apart h = refl
behind_none from p (e ∷ es) apart h = omega (arith, at_place, apart.0, apart.1, h, behind_none (end_of e) p es apart.2 (omega (arith, apart.0, h)))

-- nor in live segments and free extents
pub free_once : (live : List Span) (from : ℕ) (es : List Span) (p : ℕ) → AreDisjoint live → AreApart from es → AllByRecursion (λ s. list_any (meets s) live ≡ false) es → cover live p + cover es p ≤ 1
free_once live from [] p d apart clear = omega (arith, disjoint_few live p d)
free_once live from (e ∷ es) p d apart clear = elim (cases_lt p e.at) [
  | inl h ↦ omega (arith, at_place, h, free_once live (end_of e) es p d apart.2 clear.1)
  | inr h ↦ elim (cases_lt p (end_of e)) [
    | inr k ↦ omega (arith, at_place, k, free_once live (end_of e) es p d apart.2 clear.1)
    | inl k ↦ omega (arith, at_place, none_in e live p (not_any (meets e) live clear.0) h k, behind_none (end_of e) p es apart.2 k)
  ]
]

same_fit : (a b : Fit) (r : Result Fit Full) → r ≡ Ok a → r ≡ Ok b → a ≡ b
same_fit a b r p q = cc

pub fit_place : (s : Space) (need : ℕ) (f : Fit) → fit s need ≡ Ok f → (place_for s need ≡ Ok f.span.at) × (f.span.len ≡ need)
fit_place s need f e =
    on_ok (place_for s need) _ f e λ at there more.
    subst (λ (z : Fit). (place_for s need ≡ Ok z.span.at) × (z.span.len ≡ need)) (same_fit (record { span = record { at = at; len = need }; space = use_span s (record { at = at; len = need }) }) f _ refl more) (there, refl)

-- A span that a need was given.
pub record IsUsed (n : ℕ) (held es : List Span) (s : Span) : Type 0 where
  pub whole : IsWhole s
  pub lies : LiesInOne s es ⊎ (n ≤ s.at)
  pub free : (q : ℕ) → s.at ≤ q → q < end_of s → (1 ≤ cover (without held es) q) ⊎ (n ≤ q)

all_three : (P Q R : Span → Type 0) (xs : List Span) → AllByRecursion P xs → AllByRecursion Q xs → AllByRecursion R xs → AllByRecursion (λ x. P x × Q x × R x) xs
all_three P Q R [] a b c = tt
all_three P Q R (x ∷ xs) a b c = ((a.0, b.0, c.0), all_three P Q R xs a.1 b.1 c.1)

pub ends_none : (n p : ℕ) (xs : List Span) → AllByRecursion (λ (s : Span). end_of s ≤ n) xs → n ≤ p → cover xs p ≡ 0
ends_none n p [] all h = refl
ends_none n p (x ∷ xs) all h = omega (arith, at_place, all.0, h, ends_none n p xs all.1 h)

-- a space where spans were used is as long as before, and none of them ends past its length
pub use_all_ends : (space : Space) (used : List Span) → (space.length ≤ (use_all space used).length) × AllByRecursion (λ (t : Span). end_of t ≤ (use_all space used).length) used
use_all_ends space [] = (omega arith, tt)
use_all_ends space (s ∷ used) = let rest = use_all_ends (use_span space s) used in (omega (arith, rest.0), (omega (arith, rest.0), rest.1))

use_all_most : (most : ℕ) (space : Space) (used : List Span) → space.length ≤ most → AllByRecursion (λ (t : Span). end_of t ≤ most) used → (use_all space used).length ≤ most
use_all_most most space [] low all = low
use_all_most most space (s ∷ used) low all = use_all_most most (use_span space s) used (omega (arith, low, all.0)) all.1

-- where none ends past its length, it stays as long
pub all_within : (space : Space) (used : List Span) → AllByRecursion (λ (t : Span). end_of t ≤ space.length) used → (use_all space used).length ≡ space.length
all_within space [] all = refl
all_within space (s ∷ used) all =
    let same : (use_span space s).length ≡ space.length = omega (arith, all.0) in
    all_within (use_span space s) used (subst (λ n. AllByRecursion (λ (t : Span). end_of t ≤ n) used) (sym same) all.1) ∙ same

-- Where a need goes once other spans were used, and the end so far.
pub record IsFound (n : ℕ) (held es used : List Span) (end : ℕ) (s : Span) : Type 0 where
  pub is_used : IsUsed n held es s
  pub apart : (q : ℕ) → s.at ≤ q → q < end_of s → cover used q ≡ 0
  pub near : s.at ≤ end + 31

found : (n need : ℕ) (held es used : List Span) (s : Span) → AreExtents 0 n es → AllByRecursion IsWhole held → AllByRecursion IsWhole used → need % 32 ≡ 0 → 0 < need
    → fit (use_all (record { runs = free_runs held es; length = n }) used) need ≡ Ok (record { span = s; space = use_span (use_all (record { runs = free_runs held es; length = n }) used) s })
    → IsFound n held es used (use_all (record { runs = free_runs held es; length = n }) used).length s
found n need held es used s rise whole whole' even some e =
    let start : Space = record { runs = free_runs held es; length = n } in
    let space : Space = use_all start used in
    let ends = use_all_ends start used in
    let at = fit_place space need (record { span = s; space = use_span space s }) e in
    elim (placed space need s.at at.0) [
      | past is low ↦ record {
        is_used = record {
          whole = record { at = omega (arith, is); len = omega (arith, at.1, even); some = omega (arith, at.1, some) };
          lies = inr (omega (arith, is, ends.0));
          free = λ q h k. inr (omega (arith, is, h, ends.0));
        };
        apart = λ q h k. ends_none space.length q used ends.1 (omega (arith, is, h));
        near = omega (arith, is);
      }
      | in_run run there is ↦
          let runs : List Span = without used (without held es) in
          let there' : find (λ (r : Span). nat_le need r.len) runs ≡ Some run = ap (find (λ (r : Span). nat_le need r.len)) (sym (runs-use_all start used)) ∙ there in
          let all = all_three IsWhole (λ r. LiesInOne r es) (λ (r : Span). (q : ℕ) → between r.at (end_of r) q ≤ cover runs q) runs
          (without_whole used (without held es) whole' (without_whole held es whole (extents_whole 0 n es rise))) (without_lies used (without held es) es (left_in_one held es)) (covers_own runs) in
          let one = found_all need (λ r. IsWhole r × LiesInOne r es × ((q : ℕ) → between r.at (end_of r) q ≤ cover runs q)) runs run all there' in
          let there_is : (q : ℕ) → s.at ≤ q → q < end_of s → 1 ≤ cover runs q = λ q h k. omega (arith, one.0.2 q, at_place, is, h, k, at.1, one.1) in
          record {
            is_used = record {
              whole = record { at = omega (arith, is, one.0.0.at); len = omega (arith, at.1, even); some = omega (arith, at.1, some) };
              lies = inl (lies_sub s run es (omega (arith, is)) (omega (arith, is, at.1, one.1)) one.0.1);
              free = λ q h k. inl (omega (arith, there_is q h k, without_fewer used (without held es) q));
            };
            apart = λ q h k. (elim (cases_lt 0 (cover used q)) [
              | inl l ↦ absurd (omega (arith, there_is q h k, without_in used (without held es) q (omega (arith, l))))
              | inr l ↦ omega (arith, l)
            ]);
            near = omega (arith, is, in_one_ends 0 n es run rise one.0.1, ends.0);
          }
    ]

interior_covers : (s : Span) (es : List Span) (q : ℕ) → AllByRecursion IsWhole es → LiesInOne s es → s.at + 32 ≤ q → q < end_of s → 1 ≤ cover (map interior es) q
interior_covers s [] q whole lies h k = absurd lies
interior_covers s (e ∷ es) q whole (inl i) h k = omega (arith, at_place, i.0, i.1, h, k, whole.0.len, whole.0.some)
interior_covers s (e ∷ es) q whole (inr i) h k = omega (arith, interior_covers s es q whole.1 i h k)

-- each place past its first 32 lies in a hole, or past the length
pub used_free : (n : ℕ) (held es : List Span) (s : Span) (q : ℕ) → AreExtents 0 n es → IsUsed n held es s → s.at + 32 ≤ q → q < end_of s → (1 ≤ cover (holes held es) q) ⊎ (n ≤ q)
used_free n held es s q rise used h k = elim used.lies [
  | inr p ↦ inr (omega (arith, p, h))
  | inl i ↦ elim (used.free q (omega (arith, h)) k) [
    | inr p ↦ inr p
    | inl c ↦ elim (cases_lt 0 (cover held q)) [
      | inl l ↦ absurd (omega (arith, without_in held es q (omega (arith, l)), c))
      | inr l ↦ inl (omega (arith, without_out held (map interior es) q (omega (arith, l)), interior_covers s es q (extents_whole 0 n es rise) i h k))
    ]
  ]
]

pub extents_ends : (from n : ℕ) (es : List Span) → AreExtents from n es → AllByRecursion (λ (s : Span). end_of s ≤ n) es
extents_ends from n [] e = tt
extents_ends from n (s ∷ rest) e = (low (end_of s) rest e.2, extents_ends (end_of s) n rest e.2)
  where
    low : (a : ℕ) (xs : List Span) → AreExtents a n xs → a ≤ n
    low a [] e = e
    low a (x ∷ xs) e = omega (arith, e.0, low (end_of x) xs e.2)

pub meets_none : (s : Span) (es : List Span) → ((p : ℕ) → between s.at (end_of s) p + cover es p ≤ 1) → MeetsNone s es
meets_none s [] once = tt
meets_none s (e ∷ es) once = (
  elim (cases_Bool (meets s e)) [ inr f ↦ f | inl f ↦ absurd (omega (arith, ltb-true _ _ f, once (max s.at e.at), at_place)) ],
  meets_none s es (λ p. omega (arith, once p)),
)

are_freed : (n : ℕ) (spans es : List Span) → AllByRecursion IsWhole spans → AllByRecursion (λ (s : Span). end_of s ≤ n) spans → ((p : ℕ) → cover spans p + cover es p ≤ 1) → AreFreed n spans es
are_freed n [] es whole ends once = tt
are_freed n (s ∷ spans) es whole ends once =
    (whole.0, meets_none s es (λ p. omega (arith, once p)), ends.0, are_freed n spans (with_freed s es) whole.1 ends.1 (λ p. omega (arith, once p, cover-with_freed s es p)))

pub ends_all : (n : ℕ) (xs : List Span) → AllByRecursion (λ (s : Span). 0 < s.len) xs → ((p : ℕ) → n ≤ p → cover xs p ≡ 0) → AllByRecursion (λ (s : Span). end_of s ≤ n) xs
ends_all n [] some none = tt
ends_all n (x ∷ xs) some none = (
  elim (cases_lt (end_of x - 1) n) [ inl h ↦ omega (arith, h, some.0) | inr h ↦ absurd (omega (arith, none (end_of x - 1) h, some.0, at_place)) ],
  ends_all n xs some.1 (λ p h. omega (arith, none p h)),
)

all_long : (top : ℕ) (h : Span) → h.at ≡ 0 → 112 ≤ h.len → (xs : List Span) → AllByRecursion (λ (s : Span). 32 ≤ s.len) xs → AllByRecursion (λ (s : Span). end_of s ≤ top) xs → ((p : ℕ) → between h.at (end_of h) p + cover xs p ≤ 1) → AllByRecursion (IsLong top) xs
all_long top h front header [] long ends once = tt
all_long top h front header (x ∷ xs) long ends once =
    (record { far = omega (arith, front, header, long.0, once x.at, at_place); long = long.0; ends = ends.0 }, all_long top h front header xs long.1 ends.1 (λ p. omega (arith, once p)))

pub spans_filter : (P : Span → Type 0) (q : Place → Bool) (G : List Place) → AllByRecursion (λ (p : Place). P p.span) G → AllByRecursion P (spans_of (filter q G))
spans_filter P q G all = map-All (λ (p : Place). p.span) P (filter q G) (All-filter (λ (p : Place). P p.span) q G all)

-- What goes and what is written in place, beside the file header and free extents.
pub record AreGone (n : ℕ) (h : Span) (G : List Place) (kept es : List Span) : Type 0 where
  pub front : h.at ≡ 0
  pub header : 112 ≤ h.len
  pub inside : end_of h ≤ n
  pub rise : AreExtents 0 n es
  pub long : AllByRecursion (λ (p : Place). 32 ≤ p.span.len) G
  pub ends : AllByRecursion (λ (p : Place). end_of p.span ≤ n) G
  pub kept_long : AllByRecursion (λ (s : Span). 32 ≤ s.len) kept
  pub kept_ends : AllByRecursion (λ (s : Span). end_of s ≤ n) kept
  pub once : (p : ℕ) → between h.at (end_of h) p + (cover (spans_of G) p + cover kept p) + cover es p ≤ 1

abbrev pub LiesOrPast : ℕ → List Span → Span → Type 0
LiesOrPast n es s = LiesInOne s es ⊎ (n ≤ s.at)

-- Spans that can be used, one after another.
pub record AreFound (n : ℕ) (es used : List Span) : Type 0 where
  pub each : AllByRecursion (λ s. IsWhole s × LiesOrPast n es s) used
  pub once : (q : ℕ) → cover used q ≤ 1

pub none_found : (n : ℕ) (es : List Span) → AreFound n es []
none_found n es = record { each = tt; once = λ q. omega arith }

pub found_more : (n : ℕ) (es used : List Span) (s : Span) → AreFound n es used → IsWhole s → LiesOrPast n es s → ((q : ℕ) → s.at ≤ q → q < end_of s → cover used q ≡ 0) → AreFound n es (used ++ s ∷ [])
found_more n es used s all whole lies apart = record {
  each = All-both (λ t. IsWhole t × LiesOrPast n es t) used (s ∷ []) all.each ((whole, lies), tt);
  once = λ q. (elim (cases_lt q s.at) [
    | inl h ↦ omega (arith, cover-append used (s ∷ []) q, at_place, h, all.once q)
    | inr h ↦ elim (cases_lt q (end_of s)) [
      | inl k ↦ omega (arith, cover-append used (s ∷ []) q, at_place, apart q h k)
      | inr k ↦ omega (arith, cover-append used (s ∷ []) q, at_place, k, all.once q)
    ]
  ]);
}

-- one after another they lie in what the earlier ones left
all_used : (n : ℕ) (used es : List Span) → AllByRecursion IsWhole used → AllByRecursion (LiesOrPast n es) used → ((q : ℕ) → cover used q ≤ 1) → AreUsed n used es
all_used n [] es whole lie once = tt
all_used n (s ∷ used) es whole lie once =
    let avoid : AllByRecursion (λ t. IsWhole t × LiesOrPast n es t × ((q : ℕ) → between t.at (end_of t) q ≤ cover used q)) used
    = all_three IsWhole (LiesOrPast n es) (λ (t : Span). (q : ℕ) → between t.at (end_of t) q ≤ cover used q) used whole.1 lie.1 (covers_own used) in
    let still : AllByRecursion (LiesOrPast n (without (s ∷ []) es)) used
    = All-weaken (λ t. IsWhole t × LiesOrPast n es t × ((q : ℕ) → between t.at (end_of t) q ≤ cover used q)) (LiesOrPast n (without (s ∷ []) es))
    (λ t h. elim h.1 [ inl i ↦ inl (in_without t (s ∷ []) es h.0.some i (λ q k. omega (arith, k, h.2 q, once q))) | inr p ↦ inr p ]) used avoid in
    (whole.0, lie.0, all_used n used (without (s ∷ []) es) whole.1 still (λ q. omega (arith, once q)))

all_below : (n p : ℕ) (used es : List Span) → AllByRecursion (LiesOrPast n es) used → p < n → 1 ≤ cover used p → 1 ≤ cover es p
all_below n p [] es lie h some = absurd (omega (arith, some))
all_below n p (s ∷ used) es lie h some = elim (cases_lt 0 (between s.at (end_of s) p)) [
  | inr a ↦ all_below n p used es lie.1 h (omega (arith, a, some))
  | inl a ↦ elim lie.0 [ inl i ↦ omega (arith, a, in_one_covers s es p i) | inr past' ↦ absurd (omega (arith, at_place, a, past', h)) ]
]

-- What is used, one span after another.
pub record AreTaken (n top : ℕ) (es used : List Span) : Type 0 where
  pub whole : AllByRecursion IsWhole used
  pub long : AllByRecursion (λ (s : Span). 32 ≤ s.len) used
  pub ends : AllByRecursion (λ (s : Span). end_of s ≤ top) used
  pub takes : AreUsed n used es
  pub apart : (p : ℕ) → cover used p + cover (without used es) p ≤ 1
  pub below : (p : ℕ) → p < n → cover used p ≤ cover es p

pub found_whole : (n : ℕ) (es used : List Span) → AreFound n es used → AllByRecursion IsWhole used
found_whole n es used all = All-weaken (λ s. IsWhole s × LiesOrPast n es s) IsWhole (λ s u. u.0) used all.each

pub found_taken : (n top : ℕ) (es used : List Span) → ((p : ℕ) → cover es p ≤ 1) → AreFound n es used → AllByRecursion (λ (s : Span). 32 ≤ s.len) used → AllByRecursion (λ (s : Span). end_of s ≤ top) used → AreTaken n top es used
found_taken n top es used once all long ends =
    let whole : AllByRecursion IsWhole used = found_whole n es used all in
    let lie : AllByRecursion (LiesOrPast n es) used = All-weaken (λ s. IsWhole s × LiesOrPast n es s) (LiesOrPast n es) (λ s u. u.1) used all.each in
    record {
      whole = whole;
      long = long;
      ends = ends;
      takes = all_used n used es whole lie all.once;
      apart = λ p. (elim (cases_lt 0 (cover used p)) [
        | inl a ↦ omega (arith, all.once p, without_in used es p (omega (arith, a)))
        | inr a ↦ omega (arith, without_out used es p (omega (arith, a)), once p, a)
      ]);
      below = λ p h. (elim (cases_lt 0 (cover used p)) [ inl a ↦ omega (arith, all.once p, all_below n p used es lie h (omega (arith, a))) | inr a ↦ omega (arith, a) ]);
    }

used_once : (n top : ℕ) (h : Span) (G : List Place) (kept es used : List Span) (p : ℕ) → AreGone n h G kept es → AreTaken n top es used
    → cover used p + (between h.at (end_of h) p + (cover (spans_of G) p + (cover kept p + cover (without used es) p))) ≤ 1
used_once n top h G kept es used p gone taken = elim (cases_lt p n) [
  | inl a ↦ omega (arith, taken.apart p, taken.below p a, without_fewer used es p, gone.once p)
  | inr a ↦ omega (arith, taken.apart p, at_place, a, gone.inside, ends_none n p (spans_of G) (map-All (λ (g : Place). g.span) (λ (t : Span). end_of t ≤ n) G gone.ends) a, ends_none n p kept gone.kept_ends a)
]

pub are_parts : (n top : ℕ) (h : Span) (G : List Place) (kept es used : List Span) → AreGone n h G kept es → AreTaken n top es used → n ≤ top → top ≤ 2 ^ 62 → 2 * length used + length (usable_of G) + length (dead_of G) ≤ 6
    → AreParts n top used (sorted span_le (usable_of G)) (dead_of G) kept es
are_parts n top h G kept es used gone taken longer small few =
    let F : List Span = sorted span_le (usable_of G) in
    let once = λ (p : ℕ). used_once n top h G kept es used p gone taken in
    let split : (p : ℕ) → cover F p + cover (dead_of G) p ≡ cover (spans_of G) p = λ p. omega (arith, cover-split can_be_used G p, cover-sorted (usable_of G) p) in
    let after : (p : ℕ) → cover (deleted_after used F es) p ≡ cover F p + cover (without used es) p = λ p. cover-deleted_after used F es p in
    let freed_ok : AllByRecursion IsWhole F = all_sorted span_le IsWhole (usable_of G) (freed_whole G (All-weaken _ (λ (p : Place). 0 < p.span.len) (λ p k. omega (arith, k)) G gone.long)) in
    let after_whole : AllByRecursion IsWhole (deleted_after used F es) = deleted_after_whole used F es taken.whole freed_ok (extents_whole 0 n es gone.rise) in
    let after_some : AllByRecursion (λ (t : Span). 0 < t.len) (deleted_after used F es) = All-weaken IsWhole (λ t. 0 < t.len) (λ t w. w.some) _ after_whole in
    let freed_ends : AllByRecursion (λ (t : Span). end_of t ≤ n) F = all_sorted span_le (λ t. end_of t ≤ n) (usable_of G) (spans_filter (λ t. end_of t ≤ n) can_be_used G gone.ends) in
    let dead_ends : AllByRecursion (λ (t : Span). end_of t ≤ n) (dead_of G) = spans_filter (λ t. end_of t ≤ n) (λ p. not (can_be_used p)) G gone.ends in
    let dead_32 : AllByRecursion (λ (t : Span). 32 ≤ t.len) (dead_of G) = spans_filter (λ t. 32 ≤ t.len) (λ p. not (can_be_used p)) G gone.long in
    let after_ends : AllByRecursion (λ (t : Span). end_of t ≤ n) (deleted_after used F es)
    = ends_all n _ after_some (λ p k. omega (arith, after p, ends_none n p F freed_ends k, without_none used es p (ends_none n p es (extents_ends 0 n es gone.rise) k))) in
    let long : (xs : List Span) → AllByRecursion (λ (t : Span). 32 ≤ t.len) xs → AllByRecursion (λ (t : Span). end_of t ≤ top) xs → ((p : ℕ) → between h.at (end_of h) p + cover xs p ≤ 1) → AllByRecursion (IsLong top) xs
    = all_long top h gone.front gone.header in
    let rise_to : (xs : List Span) → AllByRecursion (λ (t : Span). end_of t ≤ n) xs → AllByRecursion (λ (t : Span). end_of t ≤ top) xs = All-weaken (λ (t : Span). end_of t ≤ n) (λ t. end_of t ≤ top) (λ t k. omega (arith, k, longer)) in
    record {
      small = small;
      few = omega (arith, few, length-sorted (usable_of G));
      rise = gone.rise;
      takes = taken.takes;
      in_order = sorted_again (usable_of G);
      frees = are_freed n F (without used es) freed_ok freed_ends (λ p. omega (arith, once p, split p));
      used_long = long used taken.long taken.ends (λ p. omega (arith, once p));
      kept_long = long kept gone.kept_long (rise_to _ gone.kept_ends) (λ p. omega (arith, once p));
      dead_long = long (dead_of G) dead_32 (rise_to _ dead_ends) (λ p. omega (arith, once p, split p));
      after_long = long _ (All-weaken IsWhole (λ t. 32 ≤ t.len) (λ t w. omega (arith, w.len, w.some)) _ after_whole) (rise_to _ after_ends) (λ p. omega (arith, once p, split p, after p));
      once = λ p. omega (arith, once p, split p, after p);
    }

-- the extents of the map
pub map_extents : (x : Index) (m : MapState) → IsMapOf x m → AreExtents 0 m.length m.extents
map_extents x m is =
    subst (AreExtents 0 m.length) is.extents (subst (λ n. AreExtents 0 n (map span_of x.extents.items)) is.length (free_extents 0 x.length (map span_of x.extents.items) (omega arith) x.free.apart x.free.aligned x.free.inside))

pub live_once : (x : Index) (m : MapState) (p : ℕ) → IsMapOf x m → cover (live_of x) p + cover m.extents p ≤ 1
live_once x m p is = omega (arith, free_once (live_of x) 0 (map span_of x.extents.items) p x.disjoint x.free.apart x.free.clear, ap (λ l. cover l p) is.extents)

-- a directory that is kept, or changed in place
abbrev pub kept_of : DirectoryChange → Option DirItem → List Span
kept_of Kept old = option_to_list (option_map directory_span old)
kept_of Patched old = option_to_list (option_map directory_span old)
kept_of (New d) old = []

pub one_of_both : (c : DirectoryChange) (old : Option DirItem) (p : ℕ) → cover (spans_of (left_directory c old)) p + cover (kept_of c old) p ≡ cover (option_to_list (option_map directory_span old)) p
one_of_both Kept old p = omega arith
one_of_both Patched old p = omega arith
one_of_both (New d) None p = omega arith
one_of_both (New d) (Some e) p = omega arith

own_long : (old : Option DirItem) → AllByRecursion (λ (s : Span). 32 ≤ s.len) (option_to_list (option_map directory_span old))
own_long None = tt
own_long (Some d) = (d.long, tt)

-- what holds of it, left or kept
of_both : (P : Span → Type 0) (c : DirectoryChange) (old : Option DirItem) → AllByRecursion P (option_to_list (option_map directory_span old)) → AllByRecursion (λ (p : Place). P p.span) (left_directory c old) × AllByRecursion P (kept_of c old)
of_both P Kept old all = (tt, all)
of_both P Patched old all = (tt, all)
of_both P (New d) None all = (tt, tt)
of_both P (New d) (Some e) all = ((all.0, tt), tt)

-- what holds of each holds of all of a list
pub each_of : {X : Type 0} (P : X → Type 0) → ((x : X) → P x) → (xs : List X) → AllByRecursion P xs
each_of P f [] = tt
each_of P f (x ∷ xs) = (f x, each_of P f xs)

-- the spans of the items before an act, of those that leave, and of those behind
pub act_spans : {X C : Type 0} (f : C → Span) (a : CodeAct X) (ts : List C) → map f ts ≡ map f (tiles_before a ts) ++ (map f (tiles_leaving a ts) ++ map f (tiles_behind a ts))
act_spans f a ts = ap (map f) (act_parts a ts) ∙ map-three f (tiles_before a ts) (tiles_leaving a ts) (tiles_behind a ts)

pub place_spans : {C : Type 0} (f : C → Place) (ts : List C) → spans_of (map f ts) ≡ map (λ t. (f t).span) ts
place_spans f ts = map-map f (λ (p : Place). p.span) ts

-- what is used, and the length then
abbrev pub used_by : DirectoryChange → List Span
used_by Kept = []
used_by Patched = []
used_by (New d) = directory_span d ∷ []

-- the pointer that is written, and the extent that is written into
abbrev pub pointers_of : ℕ → DirectoryChange → List Span
pointers_of pointer Kept = []
pointers_of pointer Patched = []
pointers_of pointer (New d) = record { at = pointer; len = 8 } ∷ []

abbrev pub written_dir : DirectoryChange → Option DirItem → List Span
written_dir Kept old = []
written_dir Patched old = option_to_list (option_map directory_span old)
written_dir (New d) old = directory_span d ∷ []

abbrev pub length_by : DirectoryChange → ℕ → ℕ
length_by Kept n = n
length_by Patched n = n
length_by (New d) n = max n (d.span.at + d.span.len)

extents_once : (x : Index) (m : MapState) (p : ℕ) → IsMapOf x m → cover m.extents p ≤ 1
extents_once x m p is = omega (arith, live_once x m p is)

-- a need of a map, once other spans were used
pub found_in : (x : Index) (m : MapState) (need : ℕ) (used : List Span) (s : Span) → IsMapOf x m → AllByRecursion IsWhole used → need % 32 ≡ 0 → 0 < need
    → fit (use_all (space_of m) used) need ≡ Ok (record { span = s; space = use_span (use_all (space_of m) used) s }) → IsFound m.length m.held m.extents used (use_all (space_of m) used).length s
found_in x m need used s is whole even some fits = found m.length need m.held m.extents used s (map_extents x m is) is.held whole even some fits

-- and a new directory behind it
pub new_found : (x : Index) (m : MapState) (size : ℕ) (used : List Span) (d : DirItem) → IsMapOf x m → AllByRecursion IsWhole used
    → fit (use_all (space_of m) used) (need_of size) ≡ Ok (record { span = directory_span d; space = use_span (use_all (space_of m) used) (directory_span d) }) → IsFound m.length m.held m.extents used (use_all (space_of m) used).length (directory_span d)
new_found x m size used d is whole fits = found_in x m (need_of size) used (directory_span d) is whole (omega arith) (omega arith) fits

-- a single span that a need was given
pub one_found : (n : ℕ) (held es : List Span) (end : ℕ) (s : Span) → IsFound n held es [] end s → AreFound n es (s ∷ [])
one_found n held es end s found = found_more n es [] s (none_found n es) found.is_used.whole found.is_used.lies (λ q h k. refl)

-- no need goes where a span is held
held_clear : (n : ℕ) (held es needed : List Span) (end : ℕ) (s h : Span) (q : ℕ) → ((p : ℕ) → h.at ≤ p → p < end_of h → 1 ≤ cover held p) → end_of h ≤ n → IsFound n held es needed end s → s.at ≤ q → q < end_of s → cover (h ∷ []) q ≡ 0
held_clear n held es needed end s h q is ends found low high = elim (cases_lt q h.at) [
  | inl l ↦ omega (arith, at_place, l)
  | inr l ↦ elim (cases_lt q (end_of h)) [
    | inr k ↦ omega (arith, at_place, k)
    | inl k ↦ elim (found.is_used.free q low high) [
      | inr p ↦ absurd (omega (arith, k, p, ends))
      | inl c ↦ absurd (omega (arith, without_in held es q (omega (arith, is q l k)), c))
    ]
  ]
]

-- What is brought, among what is live and the extents: the spans that are used, those beside them, and those of its needs.
pub record AreBrought (x : Index) (m : MapState) (used beside needed : List Span) : Type 0 where
  pub found : AreFound m.length m.extents used
  pub whole : AllByRecursion IsWhole needed
  pub ends : AllByRecursion (λ (s : Span). end_of s ≤ (use_all (space_of m) needed).length) used
  pub beside_ends : AllByRecursion (λ (s : Span). end_of s ≤ m.length) beside
  pub once : (q : ℕ) → cover (live_of x) q + (cover m.extents q + cover beside q) ≤ 1
  pub clear : (end : ℕ) (s : Span) → IsFound m.length m.held m.extents needed end s → (q : ℕ) → s.at ≤ q → q < end_of s → cover used q ≡ 0

pub none_brought : (x : Index) (m : MapState) → IsMapOf x m → AreBrought x m [] [] []
none_brought x m is = record { found = none_found m.length m.extents; whole = tt; ends = tt; beside_ends = tt; once = λ q. omega (arith, live_once x m q is); clear = λ end s found q low high. refl }

-- a new one
pub new_brought : (x : Index) (m : MapState) (s : Span) → IsMapOf x m → IsFound m.length m.held m.extents [] m.length s → AreBrought x m (s ∷ []) [] (s ∷ [])
new_brought x m s is found = record {
  found = one_found m.length m.held m.extents m.length s found;
  whole = (found.is_used.whole, tt);
  ends = (use_all_ends (space_of m) (s ∷ [])).1;
  beside_ends = tt;
  once = λ q. omega (arith, live_once x m q is);
  clear = λ end t there. there.apart;
}

-- and one that comes back
pub back_brought : (x : Index) (m : MapState) (p : Place) → IsMapOf x m → 0 < p.span.len → IsLeft x m p → AreBrought x m (usable_of (p ∷ [])) (dead_of (p ∷ [])) []
back_brought x m p is some left = elim (cases_Bool (can_be_used p)) [
  | inl e ↦
      let among = left.among.0 e in
      let whole : AllByRecursion IsWhole (p.span ∷ []) = let all = freed_whole (p ∷ []) (some, tt) in rw e at all in
      rw e (record {
        found = found_more m.length m.extents [] p.span (none_found m.length m.extents) whole.0 (inl among.0) (λ q h k. refl);
        whole = tt;
        ends = (omega (arith, left.inside, is.length), tt);
        beside_ends = tt;
        once = λ q. omega (arith, live_once x m q is);
        clear = λ end s found q low high. held_clear m.length m.held m.extents [] end s p.span q among.1 (omega (arith, left.inside, is.length)) found low high;
      })
  | inr e ↦ rw e (record {
    found = none_found m.length m.extents;
    whole = tt;
    ends = tt;
    beside_ends = (omega (arith, left.inside, is.length), tt);
    once = λ q. (elim (cases_lt q p.span.at) [
      | inl h ↦ omega (arith, live_once x m q is, at_place, h)
      | inr h ↦ elim (cases_lt q (end_of p.span)) [
        | inl k ↦ omega (arith, none_in p.span (live_of x) q left.apart h k, none_in p.span m.extents q (left.among.1 e) h k, at_place)
        | inr k ↦ omega (arith, live_once x m q is, at_place, k)
      ]
    ]);
    clear = λ end s found q low high. refl;
  })
]

-- a directory goes where nothing is brought
pub directory_found : (x : Index) (m : MapState) (old : Option DirItem) (size range : ℕ) (used beside needed : List Span) (d : DirectoryChange) → IsMapOf x m → AreBrought x m used beside needed → IsPlace x old size range (use_all (space_of m) needed) d
    → AreFound m.length m.extents (used ++ used_by d)
directory_found x m old size range used beside needed Kept is all place = absurd place
directory_found x m old size range used beside needed Patched is all place = subst (AreFound m.length m.extents) (sym (append-nil used)) all.found
directory_found x m old size range used beside needed (New d) is all place =
    let dir = new_found x m size needed d is all.whole place.1 in
    found_more m.length m.extents used (directory_span d) all.found dir.is_used.whole dir.is_used.lies (all.clear (use_all (space_of m) needed).length (directory_span d) dir)

pub few_brought : {X : Type 0} (a : CodeAct X) → length (tiles_brought a) ≤ 1
few_brought (Out i) = omega arith
few_brought (Put i t) = omega arith
few_brought (Into i t) = omega arith

pub few_leaving : {X Y : Type 0} (a : CodeAct X) (ts : List Y) → length (tiles_leaving a ts) ≤ 1
few_leaving (Out i) ts = omega (arith, length-take 1 (drop i ts))
few_leaving (Put i t) ts = omega (arith, length-take 1 (drop i ts))
few_leaving (Into i t) ts = omega arith

-- the length afterwards
abbrev pub length_after : {C E S : Type 0} → Kind C E S → CodeAct C → Origin (Change S) → DirectoryChange → MapState → ℕ
length_after k a o d m = length_by d (space_behind k a o m).length

-- the spans beside what is used
abbrev pub beside_of : {C E S : Type 0} → Kind C E S → CodeAct C → Origin (Change S) → DirectoryChange → Index → List Span
beside_of k a o d x = beside_in k a o ++ kept_of d (k.directory x)

-- What an act uses and frees, of either list.
module _ {C E S : Type 0} {k : Kind C E S} (L : Laws k) where
  pub left_cover : (a : CodeAct C) (d : DirectoryChange) (x : Index) (q : ℕ) → cover (spans_of (all_left k a d x)) q ≡ cover (map (span_in k) (tiles_leaving a (k.items x))) q + cover (spans_of (left_directory d (k.directory x))) q
  left_cover a d x q = omega (
    arith,
    ap (λ l. cover l q) (map-append (λ (p : Place). p.span) (items_left k a x) (left_directory d (k.directory x))),
    cover-append (spans_of (items_left k a x)) (spans_of (left_directory d (k.directory x))) q,
    ap (λ l. cover l q) (place_spans k.place (tiles_leaving a (k.items x))),
  )

  -- what an act brings
  pub brought_covers : (a : CodeAct C) (o : Origin (Change S)) (q : ℕ) → cover (new_spans k a) q ≡ cover (used_in k a o) q + cover (beside_in k a o) q
  brought_covers a (edited c) q = omega arith
  brought_covers a returned q = omega (arith, cover-split can_be_used (map k.place (tiles_brought a)) q, ap (λ l. cover l q) (place_spans k.place (tiles_brought a)))

  pub of_brought : (P : Span → Type 0) (a : CodeAct C) (o : Origin (Change S)) → AllByRecursion P (new_spans k a) → AllByRecursion P (used_in k a o) × AllByRecursion P (beside_in k a o)
  of_brought P a (edited c) all = (all, tt)
  of_brought P a returned all =
      let places : AllByRecursion (λ (p : Place). P p.span) (map k.place (tiles_brought a)) = map-All k.place (λ (p : Place). P p.span) (tiles_brought a) (All-map (span_in k) P (tiles_brought a) all) in
      (spans_filter P can_be_used (map k.place (tiles_brought a)) places, spans_filter P (λ (p : Place). not (can_be_used p)) (map k.place (tiles_brought a)) places)

  pub item_found : (x : Index) (m : MapState) (s : S) (t : C) → IsMapOf x m → IsNew k x m s t → IsFound m.length m.held m.extents [] m.length (span_in k t)
  item_found x m s t is new = found_in x m (k.need s) [] (span_in k t) is tt (L.need s).0 (L.need s).1 new.fits

  new_by : (x : Index) (m : MapState) (region : Region) (a : CodeAct C) (c : Change S) (writes : List (ℕ × Range)) → IsMapOf x m → BringsNew k x m region a c writes → AreBrought x m (new_spans k a) [] (new_spans k a)
  new_by x m region (Out i) c writes is b = none_brought x m is
  new_by x m region (Put i t) c writes is b = new_brought x m (span_in k t) is (item_found x m b.0 t is b.2)
  new_by x m region (Into i t) c writes is b = new_brought x m (span_in k t) is (item_found x m b.0 t is b.2)

  back_by : (x : Index) (m : MapState) (a : CodeAct C) → IsMapOf x m → AllByRecursion (IsBack k x m) (tiles_brought a) → AreBrought x m (usable_of (map k.place (tiles_brought a))) (dead_of (map k.place (tiles_brought a))) []
  back_by x m (Out i) is b = none_brought x m is
  back_by x m (Put i t) is b = back_brought x m (k.place t) is (omega (arith, L.extent t)) b.0.1
  back_by x m (Into i t) is b = back_brought x m (k.place t) is (omega (arith, L.extent t)) b.0.1

  pub brought_by : (x : Index) (m : MapState) (region : Region) (a : CodeAct C) (o : Origin (Change S)) (writes : List (ℕ × Range)) → IsMapOf x m → Brings k x m region a o writes → AreBrought x m (used_in k a o) (beside_in k a o) (needed_in k a o)
  brought_by x m region a (edited c) writes is b = new_by x m region a c writes is b
  brought_by x m region a returned writes is b = back_by x m a is b.0

  are_gone : (x : Index) (m : MapState) (a : CodeAct C) (o : Origin (Change S)) (d : DirectoryChange) → IsMapOf x m → AreBrought x m (used_in k a o) (beside_in k a o) (needed_in k a o) → AreGone m.length (header_span x.header) (all_left k a d x) (beside_of k a o d x) m.extents
  are_gone x m a o d is all =
      let B : List Span = L.front x in
      let D : List Span = option_to_list (option_map directory_span (k.directory x)) in
      let T : List Span = map (span_in k) (k.items x) in
      let G : List C = tiles_leaving a (k.items x) in
      let P : Span → Type 0 = λ s. end_of s ≤ m.length in
      let R : List Span = L.rest x in
      let live : AllByRecursion P (header_span x.header ∷ (B ++ (D ++ (T ++ R)))) = subst (AllByRecursion P) (L.live x) (subst (λ n. AllByRecursion (λ (s : Span). end_of s ≤ n) (live_of x)) is.length x.inside) in
      let behind = All-append P D (T ++ R) (All-append P B (D ++ (T ++ R)) live.1).1 in
      let tiles = All-append P (map (span_in k) (tiles_before a (k.items x))) _ (subst (AllByRecursion P) (act_spans (span_in k) a (k.items x)) (All-append P T R behind.1).0) in
      let leaving : AllByRecursion P (map (span_in k) G) = (All-append P (map (span_in k) G) _ tiles.1).0 in
      record {
        front = refl;
        header = omega (arith, x.headed);
        inside = live.0;
        rise = map_extents x m is;
        long = All-both (λ (p : Place). 32 ≤ p.span.len) (items_left k a x) (left_directory d (k.directory x)) (map-All k.place (λ (p : Place). 32 ≤ p.span.len) G (each_of _ (λ t. omega (arith, L.extent t)) G)) (of_both (λ t. 32 ≤ t.len) d (k.directory x) (own_long (k.directory x))).0;
        ends = All-both (λ (p : Place). end_of p.span ≤ m.length) (items_left k a x) (left_directory d (k.directory x)) (map-All k.place (λ (p : Place). end_of p.span ≤ m.length) G (All-map (span_in k) P G leaving)) (of_both P d (k.directory x) behind.0).0;
        kept_long = All-both (λ (t : Span). 32 ≤ t.len) (beside_in k a o) (kept_of d (k.directory x)) (of_brought (λ t. 32 ≤ t.len) a o (new_long a)).1 (of_both (λ t. 32 ≤ t.len) d (k.directory x) (own_long (k.directory x))).1;
        kept_ends = All-both P (beside_in k a o) (kept_of d (k.directory x)) all.beside_ends (of_both P d (k.directory x) behind.0).1;
        once = λ p. omega (
          arith,
          all.once p,
          ap (λ l. cover l p) (L.live x),
          left_cover a d x p,
          one_of_both d (k.directory x) p,
          cover-append (beside_in k a o) (kept_of d (k.directory x)) p,
          cover-append B (D ++ (T ++ R)) p,
          cover-append D (T ++ R) p,
          cover-append T R p,
          ap (λ l. cover l p) (act_spans (span_in k) a (k.items x)),
          cover-append (map (span_in k) (tiles_before a (k.items x))) (map (span_in k) G ++ map (span_in k) (tiles_behind a (k.items x))) p,
          cover-append (map (span_in k) G) (map (span_in k) (tiles_behind a (k.items x))) p,
        );
      }
    where
      new_long : (a : CodeAct C) → AllByRecursion (λ (t : Span). 32 ≤ t.len) (new_spans k a)
      new_long a = map-All (span_in k) (λ (s : Span). 32 ≤ s.len) (tiles_brought a) (each_of _ (λ t. omega (arith, L.extent t)) (tiles_brought a))

  pub length_small : (x : Index) (m : MapState) (a : CodeAct C) (o : Origin (Change S)) (d : DirectoryChange) → IsMapOf x m → (m.length ≤ (space_behind k a o m).length) × ((space_behind k a o m).length ≤ length_after k a o d m) × (length_after k a o d m ≤ 2 ^ 62)
  length_small x m a o d is =
      let low = (use_all_ends (space_of m) (needed_in k a o)).0 in
      let most : (space_behind k a o m).length ≤ 2 ^ 62 = use_all_most (2 ^ 62) (space_of m) (needed_in k a o) (omega (arith, x.small, is.length)) (needs_end o) in
      (low, (by d).0, omega (arith, most, (by d).1))
    where
      needs_end : (o : Origin (Change S)) → AllByRecursion (λ (s : Span). end_of s ≤ 2 ^ 62) (needed_in k a o)
      needs_end (edited c) = map-All (span_in k) (λ (s : Span). end_of s ≤ 2 ^ 62) (tiles_brought a) (each_of _ (λ t. L.ends t) (tiles_brought a))
      needs_end returned = tt

      by : (c : DirectoryChange) → ((space_behind k a o m).length ≤ length_by c (space_behind k a o m).length) × (length_by c (space_behind k a o m).length ≤ max (space_behind k a o m).length (2 ^ 62))
      by Kept = (omega arith, omega arith)
      by Patched = (omega arith, omega arith)
      by (New e) = (omega arith, omega (arith, e.ends))

  -- what holds of what is used, and of a new directory
  pub of_used : (P : Span → Type 0) (used : List Span) (d : DirectoryChange) → AllByRecursion P used → ((e : DirItem) → d ≡ New e → P (directory_span e)) → AllByRecursion P (used ++ used_by d)
  of_used P used d all one = All-both P used (used_by d) all (by d one)
    where
      by : (c : DirectoryChange) → ((e : DirItem) → c ≡ New e → P (directory_span e)) → AllByRecursion P (used_by c)
      by Kept f = tt
      by Patched f = tt
      by (New e) f = (f e refl, tt)

  are_taken : (x : Index) (m : MapState) (a : CodeAct C) (o : Origin (Change S)) (d : DirectoryChange) → IsMapOf x m → AreBrought x m (used_in k a o) (beside_in k a o) (needed_in k a o) → AreFound m.length m.extents (used_in k a o ++ used_by d)
      → AreTaken m.length (length_after k a o d m) m.extents (used_in k a o ++ used_by d)
  are_taken x m a o d is brought all =
      let n : ℕ = (space_behind k a o m).length in
      let long : AllByRecursion (λ (s : Span). 32 ≤ s.len) (used_in k a o)
      = (of_brought (λ s. 32 ≤ s.len) a o (map-All (span_in k) (λ (s : Span). 32 ≤ s.len) (tiles_brought a) (each_of _ (λ t. omega (arith, L.extent t)) (tiles_brought a)))).0 in
      let ends : AllByRecursion (λ (s : Span). end_of s ≤ length_after k a o d m) (used_in k a o)
      = All-weaken (λ (s : Span). end_of s ≤ n) (λ s. end_of s ≤ length_after k a o d m) (λ s h. omega (arith, h, (length_small x m a o d is).1)) (used_in k a o) brought.ends in
      found_taken m.length (length_after k a o d m) m.extents (used_in k a o ++ used_by d) (λ p. extents_once x m p is) all (of_used (λ s. 32 ≤ s.len) (used_in k a o) d long (λ e same. e.long))
      (of_used (λ s. end_of s ≤ length_after k a o d m) (used_in k a o) d ends (λ e same. omega (arith, ap (λ c. length_by c n) same)))

  -- one span at most is held back
  pub few_held : (a : CodeAct C) (x : Index) (held : List CodeSpan) → map span_of held ≡ usable_of (items_left k a x) → length held ≤ 1
  few_held a x held is =
      omega (arith, length-map held span_of, ap length is, spans_both can_be_used (items_left k a x), length-map (tiles_leaving a (k.items x)) k.place, few_leaving a (k.items x))

  pub few_used : (a : CodeAct C) (o : Origin (Change S)) → length (used_in k a o) ≤ 1
  few_used a (edited c) = omega (arith, length-map (tiles_brought a) (span_in k), few_brought a)
  few_used a returned = omega (arith, spans_both can_be_used (map k.place (tiles_brought a)), length-map (tiles_brought a) k.place, few_brought a)

  few_by : (a : CodeAct C) (o : Origin (Change S)) (d : DirectoryChange) (x : Index) → 2 * length (used_in k a o ++ used_by d) + length (usable_of (all_left k a d x)) + length (dead_of (all_left k a d x)) ≤ 6
  few_by a o d x = omega (
    arith,
    length-append (used_in k a o) (used_by d),
    few_used a o,
    used_few d,
    spans_both can_be_used (all_left k a d x),
    length-append (items_left k a x) (left_directory d (k.directory x)),
    length-map (tiles_leaving a (k.items x)) k.place,
    few_leaving a (k.items x),
    left_few d (k.directory x),
  )
    where
      used_few : (c : DirectoryChange) → length (used_by c) ≤ 1
      used_few Kept = omega arith
      used_few Patched = omega arith
      used_few (New e) = omega arith

      left_few : (c : DirectoryChange) (old : Option DirItem) → length (left_directory c old) ≤ 1
      left_few Kept old = omega arith
      left_few Patched old = omega arith
      left_few (New e) None = omega arith
      left_few (New e) (Some f) = omega arith

  -- the spans of an act
  pub parts_of : (x : Index) (m : MapState) (a : CodeAct C) (o : Origin (Change S)) (d : DirectoryChange) → IsMapOf x m → AreBrought x m (used_in k a o) (beside_in k a o) (needed_in k a o) → AreFound m.length m.extents (used_in k a o ++ used_by d)
      → AreParts m.length (length_after k a o d m) (used_in k a o ++ used_by d) (sorted span_le (usable_of (all_left k a d x))) (dead_of (all_left k a d x)) (beside_of k a o d x) m.extents
  parts_of x m a o d is brought all =
      are_parts m.length (length_after k a o d m) (header_span x.header) (all_left k a d x) (beside_of k a o d x) m.extents (used_in k a o ++ used_by d) (are_gone x m a o d is brought) (are_taken x m a o d is brought all)
      (omega (arith, length_small x m a o d is)) (length_small x m a o d is).2 (few_by a o d x)

  -- nothing live lies in what is used, nor beside it
  pub used_apart : (x : Index) (m : MapState) (a : CodeAct C) (o : Origin (Change S)) (d : DirectoryChange) (q : ℕ) → IsMapOf x m → AreBrought x m (used_in k a o) (beside_in k a o) (needed_in k a o) → AreFound m.length m.extents (used_in k a o ++ used_by d)
      → cover (live_of x) q + (cover (new_spans k a ++ used_by d) q + cover (without (used_in k a o ++ used_by d) m.extents) q) ≤ 1
  used_apart x m a o d q is brought all =
      let taken = are_taken x m a o d is brought all in
      let covers = brought_covers a o q in
      let both = cover-append (new_spans k a) (used_by d) q in
      let used = cover-append (used_in k a o) (used_by d) q in
      elim (cases_lt q m.length) [
        | inl h ↦ omega (arith, covers, both, used, brought.once q, taken.apart q, taken.below q h, without_fewer (used_in k a o ++ used_by d) m.extents q)
        | inr h ↦ omega (arith, covers, both, used, taken.apart q, ends_none m.length q (beside_in k a o) brought.beside_ends h, ends_none x.length q (live_of x) x.inside (omega (arith, h, is.length)))
      ]

pub spans_split : (q : Place → Bool) (xs ys : List Place) → spans_of (filter q (xs ++ ys)) ≡ spans_of (filter q xs) ++ spans_of (filter q ys)
spans_split q xs ys = ap spans_of (filter-append q xs ys) ∙ map-append (λ (p : Place). p.span) (filter q xs) (filter q ys)
