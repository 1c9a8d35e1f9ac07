-- What is free space is free in the view of a state.
use Rattle.std.proofs.Common.{◌≡◌, ◌⊎◌, ℕ, ◌+◌, ◌-◌, ◌≤◌, ◌<◌, max, min, List, [], ◌∷◌, ◌++◌, map, length, Bool, true, nat_le, nat_lt, Option, Some, None, Ok, refl, ap, sym, ◌∙◌, arith, inl, inr, ⊎_elim, subst, ◌^◌}
use Rattle.std.specs.List.{AllByRecursion, find, flat_map}
use Rattle.std.proofs.lemmas.Bool.{cases_lt, cases_Bool, leb-true, ltb-true}
use Rattle.czi_format.specs.Live.{Live}
use Rattle.czi_format.specs.Space.{from_to, left_of, without, free_runs, place_for, place_in, place_past}
use Rattle.czi_format.specs.Span.{Span, end_of, meets, round32, LiesInOne}
use Rattle.czi_links.specs.Record.{Bytes}
use Rattle.czi_machine.specs.Cover.{cover}
use Rattle.czi_machine.specs.Holes.{interior, holes}
use Rattle.czi_machine.specs.Places.{space_of}
use Rattle.czi_machine.specs.Sound.{IsDisjointState, usable_held}
use Rattle.czi_machine.specs.State.{State, held}
use Rattle.czi_machine.proofs.Cover.{between_in, without_in, without_out}
use Rattle.czi_machine.proofs.Placing.{held_parts, in_one_covers}
use Rattle.czi_machine.proofs.Tiled.{All-weaken}
use Rattle.czi_vault.specs.Recovered.{IsFree}
use Rattle.czi_commit.specs.Filled.{AreFree, filled}
use Rattle.czi_engine.specs.Free.{LiesFree, HoldsUsable}
use Rattle.czi_engine.proofs.Made.{filled_free}
use Rattle.czi_engine.specs.Holes.{AreHigh, view_of}
use Rattle.czi_engine.specs.Stands.{StandsOn}
use Rattle.czi_engine.proofs.Outside.{covers, interiors_fewer}
use Rattle.czi_machine.proofs.Restated.{one_ok}

-- a place in a hole, whichever spans are held: those that can be used again are enough
hole_of : (s : State) (held' : List Span) (k : ℕ) → IsDisjointState s → HoldsUsable s held' → 1 ≤ cover (holes held' s.layout.deleted) k → 1 ≤ cover (holes (held s) s.layout.deleted) k
hole_of s held' k is holds some = elim (cases_lt 0 (cover held' k)) [
  | inl h ↦ absurd (omega (arith, some, without_in held' (map interior s.layout.deleted) k h))
  | inr h ↦ elim (cases_lt 0 (cover (usable_held s) k)) [
    | inl u ↦ absurd (omega (arith, h, holds k u))
    | inr u ↦
        let inside : cover (holes held' s.layout.deleted) k ≡ cover (map interior s.layout.deleted) k = without_out held' (map interior s.layout.deleted) k (omega (arith, h)) in
        let none : cover (held s) k ≡ 0 = omega (arith, held_parts s k, u, is.once k, interiors_fewer s.layout.deleted k, inside, some) in
        omega (arith, inside, some, without_out (held s) (map interior s.layout.deleted) k none)
  ]
]

pub free_in_view : (start bytes : List ℕ) (live : Live) (s : State) (high : AreHigh s) (held' : List Span) (writes : List Bytes) → StandsOn start bytes live s → HoldsUsable s held'
    → AllByRecursion (λ (w : Bytes). LiesFree held' s.layout.deleted s.layout.length w.place (length w.bytes)) writes → AreFree (view_of bytes s high) writes
free_in_view start bytes live s high held' [] on holds all = tt
free_in_view start bytes live s high held' (w ∷ writes) on holds all = (
  λ k from to. ⊎_elim
      (λ some. inl (covers (holes (held s) s.layout.deleted) k (hole_of s held' k on.tidy holds some)))
      (λ past. inr (omega (arith, past, on.lies.length))) (all.0 k from to),
  free_in_view start bytes live s high held' writes on holds all.1,
)

pub filled_in_view : (bytes : List ℕ) (s : State) (high : AreHigh s) (writes : List Bytes) → AreFree (view_of bytes s high) writes → AreFree (view_of bytes s high) (filled (length bytes) writes)
filled_in_view bytes s high writes free = filled_free (view_of bytes s high) (length bytes) writes (omega arith) free

-- what is left of spans lies in one of them
one_left : (r : Span) (xs ys : List Span) → LiesInOne r (xs ++ ys) → LiesInOne r xs ⊎ LiesInOne r ys
one_left r [] ys i = inr i
one_left r (x ∷ xs) ys (inl i) = inl (inl i)
one_left r (x ∷ xs) ys (inr i) = ⊎_elim (λ a. inl (inr a)) (λ b. inr b) (one_left r xs ys i)

in_part : (r : Span) (a b : ℕ) → LiesInOne r (from_to a b) → (a ≤ r.at) × (end_of r ≤ b)
in_part r a b i = elim (cases_Bool (nat_lt a b)) [
  | inr e ↦ absurd (rw e at i)
  | inl e ↦ let small : a < b = ltb-true _ _ e in
      ⊎_elim (λ (p : (a ≤ r.at) × (end_of r ≤ a + (b - a))). (p.0, omega (arith, p.1, small))) (λ none. absurd none) (rw e at i)
]

in_rest : (r t s : Span) → LiesInOne r (left_of t s) → (s.at ≤ r.at) × (end_of r ≤ end_of s)
in_rest r t s i = elim (cases_Bool (meets t s)) [
  | inr e ↦ ⊎_elim (λ (p : (s.at ≤ r.at) × (end_of r ≤ end_of s)). p) (λ none. absurd none) (rw e at i)
  | inl e ↦ let met : max t.at s.at < min (end_of t) (end_of s) = ltb-true _ _ e in
      let both : LiesInOne r (from_to s.at t.at ++ from_to (end_of t) (end_of s)) = rw e at i in
      ⊎_elim (λ a. let p = in_part r s.at t.at a in (p.0, omega (arith, p.1, met)))
      (λ b. let p = in_part r (end_of t) (end_of s) b in (omega (arith, p.0, met), p.1)) (one_left r (from_to s.at t.at) (from_to (end_of t) (end_of s)) both)
]

in_all : (r t : Span) (spans : List Span) → LiesInOne r (flat_map (left_of t) spans) → LiesInOne r spans
in_all r t [] none = none
in_all r t (s ∷ spans) i = ⊎_elim (λ a. inl (in_rest r t s a)) (λ b. inr (in_all r t spans b)) (one_left r (left_of t s) (flat_map (left_of t) spans) i)

in_first : (r : Span) (taken spans : List Span) → LiesInOne r (without taken spans) → LiesInOne r spans
in_first r [] spans i = i
in_first r (t ∷ taken) spans i = in_all r t spans (in_first r taken (flat_map (left_of t) spans) i)

each_own : (spans : List Span) → AllByRecursion (λ (r : Span). LiesInOne r spans) spans
each_own [] = tt
each_own (s ∷ spans) = (inl (omega arith, omega arith), All-weaken (λ (r : Span). LiesInOne r spans) (λ (r : Span). LiesInOne r (s ∷ spans)) (λ r i. inr i) spans (each_own spans))

runs_in_one : (taken spans : List Span) → AllByRecursion (λ (r : Span). LiesInOne r (without taken spans) × LiesInOne r spans) (without taken spans)
runs_in_one taken spans = All-weaken (λ (r : Span). LiesInOne r (without taken spans)) _ (λ r i. (i, in_first r taken spans i)) (without taken spans) (each_own (without taken spans))

in_interior : (r : Span) (es : List Span) (k : ℕ) → LiesInOne r es → r.at + 32 ≤ k → k < end_of r → 1 ≤ cover (map interior es) k
in_interior r [] k none from to = absurd none
in_interior r (e ∷ es) k (inl i) from to = omega (arith, between_in (interior e).at (end_of (interior e)) k (omega (arith, i.0, from)) (omega (arith, i.0, i.1, from, to)))
in_interior r (e ∷ es) k (inr i) from to = omega (arith, in_interior r es k i from to)

-- the one that was found
was_found : (P : Span → Type 0) (q : Span → Bool) (xs : List Span) (x : Span) → find q xs ≡ Some x → AllByRecursion P xs → P x × (q x ≡ true)
was_found P q [] x e all = absurd (cc (e))
was_found P q (y ∷ xs) x e all = elim (cases_Bool (q y)) [
  | inl t ↦ let there : find q (y ∷ xs) ≡ Some y = rw t in
      let same : y ≡ x = cc (there, e) in
      (subst P same all.0, ap q (sym same) ∙ t)
  | inr t ↦ was_found P q xs x (rw t at e) all.1
]

-- where a need goes
data Goes (s : State) (need at : ℕ) : Type 0 where
  in_run : (run : Span) → run.at ≡ at → need ≤ run.len → LiesInOne run (free_runs (held s) s.layout.deleted) → LiesInOne run s.layout.deleted → Goes s need at
  past : s.layout.length ≤ at → Goes s need at

goes : (s : State) (need at : ℕ) → place_for (space_of s) need ≡ Ok at → Goes s need at
goes s need at e = on_run (find (λ (r : Span). nat_le need r.len) (free_runs (held s) s.layout.deleted)) refl e
  where
    on_run : (o : Option Span) → find (λ (r : Span). nat_le need r.len) (free_runs (held s) s.layout.deleted) ≡ o → place_in (space_of s) need o ≡ Ok at → Goes s need at
    on_run (Some run) there e' =
        let f = was_found (λ (r : Span). LiesInOne r (free_runs (held s) s.layout.deleted) × LiesInOne r s.layout.deleted) (λ (r : Span). nat_le need r.len) (free_runs (held s) s.layout.deleted) run there (runs_in_one (held s) s.layout.deleted) in
        in_run run (one_ok run.at at (place_in (space_of s) need (Some run)) refl e') (leb-true _ _ f.1) f.0.0 f.0.1
    on_run None there e' = elim (cases_Bool (nat_le (round32 s.layout.length + need) (2 ^ 40))) [
      | inr t ↦ absurd (let clash = rw t at e' in cc (clash))
      | inl t ↦ let is : round32 s.layout.length ≡ at = one_ok (round32 s.layout.length) at (place_past (space_of s) need) (rw t) e' in past (omega (arith, is))
    ]

pub place_in_view : (start bytes : List ℕ) (live : Live) (s : State) (high : AreHigh s) (need at : ℕ) → StandsOn start bytes live s → place_for (space_of s) need ≡ Ok at
    → IsFree (view_of bytes s high) (at + 32) (need - 32)
place_in_view start bytes live s high need at on place k from to = elim (goes s need at place) [
  | past h ↦ inr (omega (arith, h, from, on.lies.length))
  | in_run run is fits among one ↦
      let some : 1 ≤ cover (free_runs (held s) s.layout.deleted) k =
      omega (arith, in_one_covers run (free_runs (held s) s.layout.deleted) k among, between_in run.at (end_of run) k (omega (arith, is, from)) (omega (arith, is, from, to, fits))) in
      elim (cases_lt 0 (cover (held s) k)) [
        | inl h ↦ absurd (omega (arith, some, without_in (held s) s.layout.deleted k h))
        | inr h ↦ inl (covers (holes (held s) s.layout.deleted) k (omega (
          arith,
          without_out (held s) (map interior s.layout.deleted) k (omega (arith, h)),
          in_interior run s.layout.deleted k one (omega (arith, is, from)) (omega (arith, is, from, to, fits)),
        )))
      ]
]
