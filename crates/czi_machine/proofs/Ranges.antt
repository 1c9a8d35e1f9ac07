-- The patched ranges of single changes.
use Rattle.std.proofs.Common.{◌≡◌, ℕ, zero, suc, ◌+◌, ◌-◌, ◌≤◌, ◌<◌, List, [], ◌∷◌, ◌++◌, map, take, drop, length, reverse, sum, true, false, ◌==◌, refl, ap, sym, ◌∙◌, arith, inl, inr, if◌then◌else◌}
use Rattle.std.specs.List.{AllByRecursion}
use Rattle.std.proofs.lemmas.Bool.{cases_Bool, eq-eqb, eqb-true}
use Rattle.std.proofs.lemmas.List.{take_rest, reverse-append, length-reverse, length-drop}
use Rattle.czi_format.specs.Layout.{Place}
use Rattle.czi_format.specs.Space.{same_span}
use Rattle.czi_format.specs.Span.{Span, end_of}
use Rattle.czi_machine.specs.Change.{Act, omit, bring, into, out, past, put}
use Rattle.czi_machine.specs.Cover.{between, cover}
use Rattle.czi_machine.specs.Places.{Asked, stays, stays_at, stay_front, stay_back, patched_len}
use Rattle.czi_machine.specs.Ranges.{NeverStays, asked_for}
use Rattle.czi_machine.specs.State.{spans_of}
use Rattle.czi_machine.proofs.Cover.{between_in}
use Rattle.czi_machine.proofs.Leaving.{same_self, same_is}

-- up to the place of the change all entries stay
front_past : {X : Type 0} (f : X → Asked) (i : ℕ) (c : List (Act X)) (ps : List Place) → i ≤ length ps → stay_front ps (asked_for f (past i c) ps) ≡ i + stay_front (drop i ps) (asked_for f c (drop i ps))
front_past f zero c ps fits = omega arith
front_past f (suc i) c [] fits = absurd (omega (arith, fits))
front_past f (suc i) c (p ∷ ps) fits = rw (same_self p.span) (omega (arith, front_past f i c ps (omega (arith, fits))))

-- and there they don't
none_bring : {X : Type 0} (f : X → Asked) (x : X) (ps : List Place) → NeverStays f → stay_front ps (asked_for f (bring x ∷ []) ps) ≡ 0
none_bring f x [] never = refl
none_bring f x (p ∷ ps) never = rw (never p x) refl

none_put : {X : Type 0} (f : X → Asked) (x : X) (ps : List Place) → NeverStays f → stay_front ps (asked_for f (omit ∷ bring x ∷ []) ps) ≡ 0
none_put f x [] never = refl
none_put f x (p ∷ ps) never = rw (never p x) refl

apart : (a b : Span) → 0 < a.len → ((q : ℕ) → between a.at (end_of a) q + between b.at (end_of b) q ≤ 1) → same_span a b ≡ false
apart a b some few = elim (cases_Bool (same_span a b)) [
  | inr e ↦ e
  | inl e ↦ let one : a ≡ b = same_is a b e in
      absurd (omega (arith, few a.at, between_in a.at (end_of a) a.at (omega arith) (omega (arith, some)), ap (λ (z : Span). between z.at (end_of z) a.at) one))
]

none_out : {X : Type 0} (f : X → Asked) (ps : List Place) → AllByRecursion (λ (p : Place). 0 < p.span.len) ps → ((q : ℕ) → cover (spans_of ps) q ≤ 1) → stay_front ps (let c : List (Act X) = omit ∷ [] in asked_for f c ps) ≡ 0
none_out f (p ∷ q ∷ ps) some few = rw (apart p.span q.span some.0 (λ k. omega (arith, few k))) refl
none_out f ps some few = refl

drop_some : (i : ℕ) (ps : List Place) → AllByRecursion (λ (p : Place). 0 < p.span.len) ps → ((q : ℕ) → cover (spans_of ps) q ≤ 1) → AllByRecursion (λ (p : Place). 0 < p.span.len) (drop i ps) × ((q : ℕ) → cover (spans_of (drop i ps)) q ≤ 1)
drop_some zero ps some few = (some, few)
drop_some (suc i) [] some few = (tt, λ q. omega arith)
drop_some (suc i) (p ∷ ps) some few = drop_some i ps some.1 (λ q. omega (arith, few q))

pub not_same : (m n : ℕ) → m < n → (m == n) ≡ false
not_same m n less = elim (cases_Bool (m == n)) [ inr e ↦ e | inl e ↦ absurd (omega (arith, eqb-true m n e, less)) ]

pub not_same' : (m n : ℕ) → n < m → (m == n) ≡ false
not_same' m n less = elim (cases_Bool (m == n)) [ inr e ↦ e | inl e ↦ absurd (omega (arith, eqb-true m n e, less)) ]

-- with another number of entries nothing stays behind the range
whole_rest : (ps : List Place) (asked : List Asked) (before after : List ℕ) (k : ℕ) → stay_front ps asked ≡ k → (length before == length after) ≡ false → patched_len ps asked before after ≡ sum (drop k after)
whole_rest ps asked before after k front other =
    let back : stay_back (stay_front ps asked) ps asked before after ≡ 0 = rw other refl in
    let less : length after - k - 0 ≡ length after - k = omega arith in
    (λ i. sum (take (length after - front i - back i) (drop (front i) after)))
    ∙ (ap (λ n. sum (take n (drop k after))) less ∙ ap sum (take_rest after k))

pub range_last : {X : Type 0} (f : X → Asked) (x : X) (ps : List Place) (before after : List ℕ) → NeverStays f → length before ≡ length ps → length after ≡ suc (length ps)
    → patched_len ps (asked_for f (past (length ps) (bring x ∷ [])) ps) before after ≡ sum (drop (length ps) after)
range_last f x ps before after never b a =
    let front : stay_front ps (asked_for f (past (length ps) (bring x ∷ [])) ps) ≡ length ps = omega (arith, front_past f (length ps) (bring x ∷ []) ps (omega arith), none_bring f x (drop (length ps) ps) never) in
    whole_rest ps (asked_for f (past (length ps) (bring x ∷ [])) ps) before after (length ps) front (not_same (length before) (length after) (omega (arith, a, b)))

pub range_into : {X : Type 0} (f : X → Asked) (i : ℕ) (x : X) (ps : List Place) (before after : List ℕ) → NeverStays f → i ≤ length ps → length before ≡ length ps → length after ≡ suc (length ps)
    → patched_len ps (asked_for f (into i x) ps) before after ≡ sum (drop i after)
range_into f i x ps before after never fits b a =
    let front : stay_front ps (asked_for f (into i x) ps) ≡ i = omega (arith, front_past f i (bring x ∷ []) ps fits, none_bring f x (drop i ps) never) in
    whole_rest ps (asked_for f (into i x) ps) before after i front (not_same (length before) (length after) (omega (arith, a, b)))

pub range_out : {X : Type 0} (f : X → Asked) (i : ℕ) (ps : List Place) (before after : List ℕ) → i < length ps → suc (length after) ≡ length ps → length before ≡ length ps
    → AllByRecursion (λ (p : Place). 0 < p.span.len) ps → ((q : ℕ) → cover (spans_of ps) q ≤ 1) → patched_len ps (asked_for f (out i) ps) before after ≡ sum (drop i after)
range_out f i ps before after inside a b some few =
    let parts = drop_some i ps some few in
    let front : stay_front ps (asked_for f (out i) ps) ≡ i = omega (arith, front_past f i (omit ∷ []) ps (omega (arith, inside)), none_out f (drop i ps) parts.0 parts.1) in
    whole_rest ps (asked_for f (out i) ps) before after i front (not_same' (length before) (length after) (omega (arith, a, b)))

-- an entry in the place of another: those behind it stay
reverse_cons : {X : Type 0} (x : X) (xs : List X) → reverse (x ∷ xs) ≡ reverse xs ++ x ∷ []
reverse_cons x xs = reverse-append (x ∷ []) xs

map_reverse : (xs : List Place) → reverse (map stays xs) ≡ map stays (reverse xs)
map_reverse [] = refl
map_reverse (x ∷ xs) = reverse_cons (stays x) (map stays xs) ∙ (ap (λ z. z ++ stays x ∷ []) (map_reverse xs) ∙ (sym (map_push (reverse xs) x) ∙ ap (map stays) (sym (reverse_cons x xs))))
  where
    map_push : (ys : List Place) (y : Place) → map stays (ys ++ y ∷ []) ≡ map stays ys ++ stays y ∷ []
    map_push [] y = refl
    map_push (z ∷ ys) y = ap (λ l. stays z ∷ l) (map_push ys y)

front_push : (ps : List Place) (p : Place) (a : Asked) → stays_at p a ≡ false → stay_front (ps ++ p ∷ []) (map stays ps ++ a ∷ []) ≡ length ps
front_push [] p a never = rw never refl
front_push (q ∷ ps) p a never = rw (same_self q.span) (ap suc (front_push ps p a never))

changed_past : {X : Type 0} (f : X → Asked) (i : ℕ) (c : List (Act X)) (ps : List Place) → i ≤ length ps → drop i (asked_for f (past i c) ps) ≡ asked_for f c (drop i ps)
changed_past f zero c ps fits = refl
changed_past f (suc i) c [] fits = absurd (omega (arith, fits))
changed_past f (suc i) c (p ∷ ps) fits = changed_past f i c ps (omega (arith, fits))

back_put : {X : Type 0} (f : X → Asked) (x : X) (ps : List Place) → NeverStays f → 0 < length ps → stay_front (reverse ps) (reverse (asked_for f (omit ∷ bring x ∷ []) ps)) ≡ length ps - 1
back_put f x [] never some = absurd (omega (arith, some))
back_put f x (p ∷ ps) never some =
    let asked : reverse (f x ∷ map stays ps) ≡ map stays (reverse ps) ++ f x ∷ [] = reverse_cons (f x) (map stays ps) ∙ ap (λ z. z ++ f x ∷ []) (map_reverse ps) in
    (λ i. stay_front (reverse_cons p ps i) (asked i)) ∙ (front_push (reverse ps) p (f x) (never p x) ∙ omega (arith, length-reverse ps))

pub range_put : {X : Type 0} (f : X → Asked) (i : ℕ) (x : X) (ps : List Place) (before after : List ℕ) → NeverStays f → i < length ps → length before ≡ length ps → length after ≡ length ps
    → patched_len ps (asked_for f (put i x) ps) before after ≡ (if sum before == sum after then sum (take 1 (drop i after)) else sum (drop i after))
range_put f i x ps before after never inside b a =
    let asked : List Asked = asked_for f (put i x) ps in
    let front : stay_front ps asked ≡ i = omega (arith, front_past f i (omit ∷ bring x ∷ []) ps (omega (arith, inside)), none_put f x (drop i ps) never) in
    let lens : (length before == length after) ≡ true = eq-eqb (length before) (length after) (b ∙ sym a) in
    elim (cases_Bool (sum before == sum after)) [
      | inr other ↦
          let back : stay_back i ps asked before after ≡ 0 = rw (lens, other) refl in
          let less : length after - i - 0 ≡ length after - i = omega arith in
          (λ j. sum (take (length after - front j - stay_back (front j) ps asked before after) (drop (front j) after)))
          ∙ ((λ j. sum (take (length after - i - back j) (drop i after))) ∙ (ap (λ n. sum (take n (drop i after))) less ∙ (ap sum (take_rest after i) ∙ sym (rw other refl))))
      | inl same ↦
          let back : stay_back i ps asked before after ≡ length ps - i - 1 =
          rw (lens, same) (ap (λ z. stay_front (reverse (drop i ps)) (reverse z)) (changed_past f i (omit ∷ bring x ∷ []) ps (omega (arith, inside)))
          ∙ (back_put f x (drop i ps) never (omega (arith, length-drop i ps, inside)) ∙ omega (arith, length-drop i ps))) in
          let one : length after - i - (length ps - i - 1) ≡ 1 = omega (arith, a, inside) in
          (λ j. sum (take (length after - front j - stay_back (front j) ps asked before after) (drop (front j) after)))
          ∙ ((λ j. sum (take (length after - i - back j) (drop i after))) ∙ (ap (λ n. sum (take n (drop i after))) one ∙ sym (rw same refl)))
    ]
