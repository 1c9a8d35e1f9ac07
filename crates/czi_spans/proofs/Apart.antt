-- Spans that stand one behind another, as a search by halves needs them.
use Rattle.std.proofs.Common.{◌≡◌, ℕ, zero, suc, ◌+◌, ◌<◌, ◌≤◌, List, [], ◌∷◌, map, length, get_or, Bool, true, false, cond, not, ◌||◌, ◌==◌, nat_le, nat_lt, max, min, Option, Some, None, refl, ap, sym, ◌∙◌, subst, arith, inl, inr, if◌then◌else◌}
use Rattle.std.specs.Option.{is_some}
use Rattle.std.specs.List.{AllByRecursion, list_any, position, position_or_len}
use Rattle.std.proofs.lemmas.Bool.{cases_Bool, cases_lt, cases_order, leb-true, leb-false, le-leb, lt-ltb, ltb-true, ltb-false, le-ltb, ne_eqb}
use Rattle.std.proofs.lemmas.Bool.Decides.{nat_tests}
use Rattle.std.proofs.lemmas.List.Sums.{position_or_len_is}
use Rattle.czi_format.specs.Span.{Span, end_of, meets, span_le, sorted}
use Rattle.czi_format.specs.Refusals.{first_meeting, overlap}
use Rattle.czi_spans.specs.Apart.{AreApart}
use Rattle.czi_spans.proofs.Sorting.{Ascending, ascending_sorted, all_sorted}
use Rattle.czi_spans.proofs.Spans.{ordered, span_order}

-- a span of the list: behind the place, and not empty
pub apart_at : {X : Type 0} (f : X → Span) (from : ℕ) (xs : List X) (i : ℕ) (d : X) → AreApart from (map f xs) → i < length xs → (from ≤ (f (get_or xs i d)).at) × (0 < (f (get_or xs i d)).len)
apart_at f from [] i d apart h = absurd (omega arith)
apart_at f from (x ∷ xs) zero d apart h = (apart.0, apart.1)
apart_at f from (x ∷ xs) (suc i) d apart h =
    let rest = apart_at f (end_of (f x)) xs i d apart.2 (omega arith) in
    (omega (arith, rest.0, apart.0), rest.1)

-- each later one stands at or behind the end of an earlier one
pub apart_two : {X : Type 0} (f : X → Span) (from : ℕ) (xs : List X) (i j : ℕ) (d : X) → AreApart from (map f xs) → i < j → j < length xs → end_of (f (get_or xs i d)) ≤ (f (get_or xs j d)).at
apart_two f from [] i j d apart less h = absurd (omega arith)
apart_two f from (x ∷ xs) i zero d apart less h = absurd (omega arith)
apart_two f from (x ∷ xs) zero (suc j) d apart less h = (apart_at f (end_of (f x)) xs j d apart.2 (omega arith)).0
apart_two f from (x ∷ xs) (suc i) (suc j) d apart less h = apart_two f (end_of (f x)) xs i j d apart.2 (omega arith) (omega arith)

pub places_parted : {X : Type 0} (f : X → Span) (at : ℕ) (xs : List X) → AreApart 0 (map f xs)
    → (i j : ℕ) (d : X) → i ≤ j → j < length xs → nat_lt (f (get_or xs j d)).at at ≡ true → nat_lt (f (get_or xs i d)).at at ≡ true
places_parted f at xs apart i j d le h test = elim (cases_lt i j) [
  | inl less ↦ (let two = apart_two f 0 xs i j d apart less h in lt-ltb _ _ (omega (arith, two, ltb-true _ _ test)))
  | inr more ↦ (let same : i ≡ j = omega arith in rw same test)
]

pub ends_parted : {X : Type 0} (f : X → Span) (at : ℕ) (xs : List X) → AreApart 0 (map f xs)
    → (i j : ℕ) (d : X) → i ≤ j → j < length xs → nat_le (end_of (f (get_or xs j d))) at ≡ true → nat_le (end_of (f (get_or xs i d))) at ≡ true
ends_parted f at xs apart i j d le h test = elim (cases_lt i j) [
  | inl less ↦ (let two = apart_two f 0 xs i j d apart less h in le-leb _ _ (omega (arith, two, leb-true _ _ test)))
  | inr more ↦ (let same : i ≡ j = omega arith in rw same test)
]

none_passes : {X Y : Type 0} (f : X → Y) (p : Y → Bool) (xs : List X) → ((k : ℕ) (d : X) → k < length xs → p (f (get_or xs k d)) ≡ false) → list_any p (map f xs) ≡ false
none_passes f p [] none = refl
none_passes f p (x ∷ xs) none = let first : p (f x) ≡ false = none 0 x (omega arith) in rw first (none_passes f p xs (λ k d h. none (suc k) d (omega arith)))

-- whether one passes is decided at a place before which none does, and behind which one does only where this one does
decided : {X Y : Type 0} (f : X → Y) (p : Y → Bool) (xs : List X) (i : ℕ) (d : X) → i < length xs
    → ((k : ℕ) (e : X) → k < i → p (f (get_or xs k e)) ≡ false) → ((k : ℕ) (e : X) → i < k → k < length xs → p (f (get_or xs i e)) ≡ false → p (f (get_or xs k e)) ≡ false)
    → list_any p (map f xs) ≡ p (f (get_or xs i d))
decided f p [] i d h before behind = absurd (omega arith)
decided f p (x ∷ xs) zero d h before behind = elim (cases_Bool (p (f x))) [
  | inl e ↦ rw e
  | inr e ↦ rw e (none_passes f p xs (λ k c l. behind (suc k) c (omega arith) (omega arith) e))
]
decided f p (x ∷ xs) (suc i) d h before behind =
    let first : p (f x) ≡ false = before 0 x (omega arith) in
    rw first (decided f p xs i d (omega arith) (λ k e l. before (suc k) e (omega arith)) (λ k e l m. behind (suc k) e (omega arith) (omega arith)))

-- the first place that isn't lower than another one
pub place_decided : {X : Type 0} (f : X → Span) (at : ℕ) (xs : List X) (i : ℕ) (d : X) → AreApart 0 (map f xs) → i < length xs
    → ((k : ℕ) (e : X) → k < i → nat_lt (f (get_or xs k e)).at at ≡ true) → ((e : X) → nat_lt (f (get_or xs i e)).at at ≡ false)
    → list_any (λ (s : Span). s.at == at) (map f xs) ≡ ((f (get_or xs i d)).at == at)
place_decided f at xs i d apart h before here =
    decided f (λ (s : Span). s.at == at) xs i d h
    (λ k e l. ne_eqb _ _ (λ same. omega (arith, same, ltb-true _ _ (before k e l))))
    (λ k e l m _. ne_eqb _ _ (λ same. omega (arith, same, ltb-false _ _ (here e), apart_two f 0 xs i k e apart l m, (apart_at f 0 xs i e apart h).1)))

pub place_nowhere : {X : Type 0} (f : X → Span) (at : ℕ) (xs : List X) → ((k : ℕ) (e : X) → k < length xs → nat_lt (f (get_or xs k e)).at at ≡ true)
    → list_any (λ (s : Span). s.at == at) (map f xs) ≡ false
place_nowhere f at xs before = none_passes f (λ (s : Span). s.at == at) xs (λ k e l. ne_eqb _ _ (λ same. omega (arith, same, ltb-true _ _ (before k e l))))

behind_apart : (s t : Span) → end_of t ≤ s.at → meets s t ≡ false
behind_apart s t h = le-ltb _ _ (omega arith)

-- what meets a later span and begins before the end of an earlier one meets the earlier one
later_apart : (s a b : Span) → end_of a ≤ b.at → 0 < a.len → s.at < end_of a → meets s a ≡ false → meets s b ≡ false
later_apart s a b order some reach apart = le-ltb _ _ (omega (arith, ltb-false (max s.at a.at) (min (end_of s) (end_of a)) apart))

pub meeting_decided : {X : Type 0} (f : X → Span) (s : Span) (xs : List X) (i : ℕ) (d : X) → AreApart 0 (map f xs) → i < length xs
    → ((k : ℕ) (e : X) → k < i → nat_le (end_of (f (get_or xs k e))) s.at ≡ true) → ((e : X) → nat_le (end_of (f (get_or xs i e))) s.at ≡ false)
    → list_any (meets s) (map f xs) ≡ meets s (f (get_or xs i d))
meeting_decided f s xs i d apart h before here =
    decided f (meets s) xs i d h
    (λ k e l. behind_apart s _ (leb-true _ _ (before k e l)))
    (λ k e l m none. later_apart s _ _ (apart_two f 0 xs i k e apart l m) (apart_at f 0 xs i e apart h).1 (leb-false _ _ (here e)) none)

pub meeting_nowhere : {X : Type 0} (f : X → Span) (s : Span) (xs : List X) → ((k : ℕ) (e : X) → k < length xs → nat_le (end_of (f (get_or xs k e))) s.at ≡ true)
    → list_any (meets s) (map f xs) ≡ false
meeting_nowhere f s xs before = none_passes f (meets s) xs (λ k e l. behind_apart s _ (leb-true _ _ (before k e l)))

below_len : {X : Type 0} (p : X → Bool) (xs : List X) → nat_lt (position_or_len p xs) (length xs) ≡ list_any p xs
below_len p [] = refl
below_len {X} p (x ∷ xs) = by_head (p x) (below_len p xs)
  where
    by_head : (b : Bool) → nat_lt (position_or_len p xs) (length xs) ≡ list_any p xs → nat_lt (cond (not b) (1 + position_or_len p xs) 0) (suc (length xs)) ≡ (b || list_any p xs)
    by_head true rest = lt-ltb 0 (suc (length xs)) (omega arith)
    by_head false rest = shifted (position_or_len p xs) (length xs) ∙ rest
      where
        shifted : (m n : ℕ) → nat_lt (1 + m) (suc n) ≡ nat_lt m n
        shifted m n = grind (arith, nat_tests)

-- there is a place exactly where one passes
pub position_any : {X : Type 0} (p : X → Bool) (xs : List X) → is_some (position p xs) ≡ list_any p xs
position_any p xs = chosen_some (nat_lt (position_or_len p xs) (length xs)) (position_or_len p xs) ∙ below_len p xs
  where
    chosen_some : (b : Bool) (n : ℕ) → is_some (cond b (Some n) None) ≡ b
    chosen_some true n = refl
    chosen_some false n = refl

-- the position of the first that passes
pub position_hit : {X : Type 0} (p : X → Bool) (xs : List X) (i : ℕ) (d : X) → i < length xs → ((k : ℕ) → k < i → p (get_or xs k d) ≡ false) → p (get_or xs i d) ≡ true → Some i ≡ position p xs
position_hit p xs i d h before here = at_place (position_or_len p xs) (length xs) i (position_or_len_is p xs i d (omega arith) before (λ _. here)) h
  where
    at_place : (m n i : ℕ) → m ≡ i → i < n → Some i ≡ cond (nat_lt m n) (Some m) None
    at_place m n i e h = let test : nat_lt m n ≡ true = lt-ltb m n (omega arith) in rw test (ap Some (sym e))

pub position_miss : {X : Type 0} (p : X → Bool) (xs : List X) → ((k : ℕ) (d : X) → k < length xs → p (get_or xs k d) ≡ false) → None ≡ position p xs
position_miss p [] none = refl
position_miss p (x ∷ xs) none =
    nowhere (position_or_len p (x ∷ xs)) (length (x ∷ xs)) (position_or_len_is p (x ∷ xs) (length (x ∷ xs)) x (omega arith) (λ k h. none k x h) (λ h. absurd (omega arith)))
  where
    nowhere : (m n : ℕ) → m ≡ n → None ≡ cond (nat_lt m n) (Some m) None
    nowhere m n e = let test : nat_lt m n ≡ false = le-ltb m n (omega arith) in rw test

-- before the first place that isn't lower none is at the place, and behind it none where it isn't there itself
pub place_before : {X : Type 0} (f : X → Span) (at : ℕ) (xs : List X) (i : ℕ) → ((k : ℕ) (e : X) → k < i → nat_lt (f (get_or xs k e)).at at ≡ true)
    → (k : ℕ) (d : X) → k < i → ((f (get_or xs k d)).at == at) ≡ false
place_before f at xs i before k d l = ne_eqb _ _ (λ same. omega (arith, same, ltb-true _ _ (before k d l)))

pub place_missed : {X : Type 0} (f : X → Span) (at : ℕ) (xs : List X) (i : ℕ) → AreApart 0 (map f xs)
    → ((k : ℕ) (e : X) → k < i → nat_lt (f (get_or xs k e)).at at ≡ true) → ((e : X) → i < length xs → nat_lt (f (get_or xs i e)).at at ≡ false)
    → ((e : X) → i < length xs → ((f (get_or xs i e)).at ≡ at → ⊥)) → (k : ℕ) (d : X) → k < length xs → ((f (get_or xs k d)).at == at) ≡ false
place_missed f at xs i apart before here other k d h = elim (cases_order k i) [
  | inl same ↦ ne_eqb _ _ (λ e. other d (subst (λ n. n < length xs) same h) (subst (λ n. (f (get_or xs n d)).at ≡ at) same e))
  | inr (inl less) ↦ place_before f at xs i before k d less
  | inr (inr more) ↦ ne_eqb _ _ (λ e. omega (arith, e, ltb-false _ _ (here d (omega arith)), apart_two f 0 xs i k d apart more h, (apart_at f 0 xs i d apart (omega arith)).1))
]

chosen : {A : Type 0} (b : Bool) (x : A) (o : Option A) → (if b then Some x else o) ≡ None → (b ≡ false) × (o ≡ None)
chosen true x o e = cc
chosen false x o e = (refl, e)

begins_before : (a b : Span) → span_le a b ≡ true → a.at ≤ b.at
begins_before a b le = elim (ordered a b le) [ inl h ↦ omega arith | inr h ↦ omega (arith, h.0) ]

chained : (a : Span) (rest : List Span) → Ascending span_le (a ∷ rest) → AllByRecursion (λ s. 0 < s.len) (a ∷ rest) → first_meeting (a ∷ rest) ≡ None → AreApart (end_of a) rest
chained a [] up long none = tt
chained a (b ∷ rest) up long none =
    let c = chosen (meets a b) (overlap a b) (first_meeting (b ∷ rest)) none in
    let rises : a.at ≤ b.at = begins_before a b up.0.0 in
    let below : end_of a ≤ b.at = omega (arith, ltb-false (max a.at b.at) (min (end_of a) (end_of b)) c.0, rises, long.0, long.1.0) in
    (below, long.1.0, chained b rest up.1 long.1 c.1)

chained_all : (xs : List Span) → Ascending span_le xs → AllByRecursion (λ s. 0 < s.len) xs → first_meeting xs ≡ None → AreApart 0 xs
chained_all [] up long none = tt
chained_all (a ∷ rest) up long none = (omega arith, long.0, chained a rest up long none)

-- sorted spans of which no two meet and none is empty
pub apart_from_sorted : (xs : List Span) → AllByRecursion (λ s. 0 < s.len) xs → first_meeting (sorted span_le xs) ≡ None → AreApart 0 (sorted span_le xs)
apart_from_sorted xs long none = chained_all (sorted span_le xs) (ascending_sorted span_order xs) (all_sorted span_le (λ s. 0 < s.len) xs long) none
