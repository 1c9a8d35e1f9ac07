-- Between two readings of a list.
use Rattle.std.proofs.Common.{◌≡◌, ℕ, suc, ◌+◌, ◌-◌, ◌<◌, ◌≤◌, List, [], ◌∷◌, ◌++◌, map, drop, length, get_or, Option, Some, None, Result, Ok, Err, refl, ap, sym, ◌∙◌, arith, append_assoc}
use Rattle.std.proofs.lemmas.List.{append-nil, length-drop, length_push, map_push, drop_more, drop_all}
use Rattle.std.specs.Option.{ForSome}
use Rattle.std.specs.List.{AllByRecursion}
use Rattle.czi_rig.specs.declared.rig.Rig.{Ghosts}
use Rattle.czi_rig.specs.declared.file.File.TheVariants.{Image}
use Rattle.czi_rig.specs.State.{seen_of}
use Rattle.czi_rig.specs.Faults.{Faults}
use Rattle.czi_rig.specs.Quiet.{Untouched}
use Rattle.czi_format.specs.FirstFault as fault
use Rattle.czi_format.specs.FirstFault.{each, one_after_another, with_fault}
use Rattle.czi_image.specs.Entries.{after}
use Rattle.czi_image.proofs.Fronts.{next_of, none_at}

after_none : {X E : Type 0} (r : Result (List X) E) → r ≡ after [] r
after_none (Ok es) = refl
after_none (Err at) = refl

after_one : {X E : Type 0} (done : List X) (e : X) (r : Result (List X) E) → after done (after (e ∷ []) r) ≡ after (done ++ e ∷ []) r
after_one done e (Ok es) = rw append_assoc refl
after_one done e (Err at) = refl

-- The first `number` of them were read from the bytes, and the rest is read from the rest of the bytes.
pub record Midway {X C : Type 0} (read : List ℕ → Option X) (size : X → ℕ) (view : C → X) (bytes : List ℕ) (count place number at : ℕ) (rest : List ℕ) (done : List C) : Type 0 where
  pub whole : one_after_another read size (λ a. a) count place bytes ≡ after (map view done) (one_after_another read size (λ a. a) (count - number) at rest)
  pub place_is : at + length rest ≡ place + length bytes
  pub so_many : length done ≡ number

pub midway_begins : {X C : Type 0} (read : List ℕ → Option X) (size : X → ℕ) (view : C → X) (bytes : List ℕ) (count place : ℕ) → Midway read size view bytes count place 0 place bytes []
midway_begins read size view bytes count place = record {
  whole = after_none _ ∙ ap (λ (k : ℕ). after [] (one_after_another read size (λ a. a) k place bytes)) (let all : count ≡ count - 0 = omega arith in all);
  place_is = refl;
  so_many = refl;
}

-- one more
pub midway_next : {X C : Type 0} {read : List ℕ → Option X} {size : X → ℕ} {view : C → X} {bytes : List ℕ} {count place number at : ℕ} {rest : List ℕ} {done : List C} (c : C) (len : ℕ)
    → Midway read size view bytes count place number at rest done → number < count → read rest ≡ Some (view c) → len ≡ size (view c) → len ≤ length rest
    → Midway read size view bytes count place (number + 1) (at + len) (drop len rest) (done ++ c ∷ [])
midway_next {X} {C} {read} {size} {view} {bytes} {count} {place} {number} {at} {rest} {done} c len m more is len_is fits = record {
  whole =
      let left : count - number ≡ suc (count - (number + 1)) = omega (arith, more) in
      let step = next_of read size (λ (a : ℕ). a) (count - (number + 1)) at rest (view c) is in
      let behind : after (view c ∷ []) (one_after_another read size (λ a. a) (count - (number + 1)) (at + size (view c)) (drop (size (view c)) rest))
      ≡ after (view c ∷ []) (one_after_another read size (λ a. a) (count - (number + 1)) (at + len) (drop len rest))
      = ap (λ (n : ℕ). after (view c ∷ []) (one_after_another read size (λ a. a) (count - (number + 1)) (at + n) (drop n rest))) (sym len_is) in
      m.whole ∙ (ap (λ (k : ℕ). after (map view done) (one_after_another read size (λ a. a) k at rest)) left
      ∙ (ap (after (map view done)) (step ∙ behind) ∙ (after_one (map view done) (view c) _
      ∙ ap (λ (xs : List X). after xs (one_after_another read size (λ a. a) (count - (number + 1)) (at + len) (drop len rest))) (sym (map_push view done c)))));
  place_is = let behind : length (drop len rest) ≡ length rest - len = length-drop len rest in omega (arith, behind, fits, m.place_is);
  so_many = length_push done c ∙ ap (λ (n : ℕ). n + 1) m.so_many;
}

-- all of them
pub midway_ends : {X C E : Type 0} {read : List ℕ → Option X} {size : X → ℕ} {view : C → X} {bytes : List ℕ} {count place number at : ℕ} {rest : List ℕ} {done : List C} (told : ℕ → E)
    → Midway read size view bytes count place number at rest done → count ≤ number → with_fault told (one_after_another read size (λ a. a) count place bytes) ≡ Ok (map view done)
midway_ends {X} {C} {E} {read} {size} {view} {count = count} {number = number} {at = at} {rest = rest} {done = done} told m all =
    let none : count - number ≡ 0 = omega (arith, all) in
    let whole : one_after_another read size (λ a. a) count _ _ ≡ Ok (map view done) =
    m.whole ∙ (ap (λ (k : ℕ). after (map view done) (one_after_another read size (λ a. a) k at rest)) none ∙ ap (λ (es : List X). let r : Result (List X) ℕ = Ok es in r) (append-nil (map view done))) in
    ap (with_fault told) whole

-- the next isn't one
pub midway_stops : {X C E : Type 0} {read : List ℕ → Option X} {size : X → ℕ} {view : C → X} {bytes : List ℕ} {count place number at : ℕ} {rest : List ℕ} {done : List C} (told : ℕ → E)
    → Midway read size view bytes count place number at rest done → number < count → read rest ≡ None
    → with_fault told (one_after_another read size (λ a. a) count place bytes) ≡ Err (told at)
midway_stops {X} {C} {E} {read} {size} {view} {count = count} {number = number} {at = at} {rest = rest} {done = done} told m more none =
    let left : count - number ≡ suc (count - (number + 1)) = omega (arith, more) in
    let whole : one_after_another read size (λ a. a) count _ _ ≡ Err at =
    m.whole ∙ (ap (λ (k : ℕ). after (map view done) (one_after_another read size (λ a. a) k at rest)) left ∙ ap (after (map view done)) (none_at read size (λ (a : ℕ). a) (count - (number + 1)) at rest none)) in
    ap (with_fault told) whole

-- Of a list each is read: the first n were, and the rest is left.
pub record Half {X Y E C D : Type 0} (read : X → Option Y) (told : X → E) (from : C → X) (view : D → Y) (all : List C) (n : ℕ) (done : List D) : Type 0 where
  pub whole : each read told (map from all) ≡ after (map view done) (each read told (map from (drop n all)))

pub half_begins : {X Y E C D : Type 0} (read : X → Option Y) (told : X → E) (from : C → X) (view : D → Y) (all : List C) → Half read told from view all 0 []
half_begins read told from view all = record { whole = after_none (each read told (map from all)) }

at_next : {X Y E C : Type 0} (read : X → Option Y) (told : X → E) (from : C → X) (all : List C) (n : ℕ) (c : C) → n < length all → c ≡ get_or all n c
    → each read told (map from (drop n all)) ≡ each read told (from c ∷ map from (drop (n + 1) all))
at_next read told from all n c more is =
    let here : drop n all ≡ c ∷ drop (n + 1) all = drop_more all n c more ∙ ap (λ x. x ∷ drop (n + 1) all) (sym is) in
    ap (λ xs. each read told (map from xs)) here

one_read : {X Y E : Type 0} (read : X → Option Y) (told : X → E) (x : X) (xs : List X) (y : Y) → read x ≡ Some y → each read told (x ∷ xs) ≡ after (y ∷ []) (each read told xs)
one_read {X} {Y} {E} read told x xs y is = rw is (in_front (each read told xs))
  where
    in_front : (r : Result (List Y) E) → fault.◌>>=◌ r (λ ys. Ok (y ∷ ys)) ≡ after (y ∷ []) r
    in_front (Ok ys) = refl
    in_front (Err e) = refl

pub half_next : {X Y E C D : Type 0} {read : X → Option Y} {told : X → E} {from : C → X} {view : D → Y} {all : List C} {n : ℕ} {done : List D} (c : C) (d : D)
    → Half read told from view all n done → n < length all → c ≡ get_or all n c → read (from c) ≡ Some (view d) → Half read told from view all (n + 1) (done ++ d ∷ [])
half_next {X} {Y} {E} {C} {D} {read} {told} {from} {view} {all} {n} {done} c d h more is found = record {
  whole =
      h.whole
      ∙ (ap (after (map view done)) (at_next read told from all n c more is ∙ one_read read told (from c) (map from (drop (n + 1) all)) (view d) found)
      ∙ (after_one (map view done) (view d) (each read told (map from (drop (n + 1) all)))
      ∙ ap (λ (ys : List Y). after ys (each read told (map from (drop (n + 1) all)))) (sym (map_push view done d))));
}

pub half_stops : {X Y E C D : Type 0} {read : X → Option Y} {told : X → E} {from : C → X} {view : D → Y} {all : List C} {n : ℕ} {done : List D} (c : C)
    → Half read told from view all n done → n < length all → c ≡ get_or all n c → read (from c) ≡ None → each read told (map from all) ≡ Err (told (from c))
half_stops {X} {Y} {E} {C} {D} {read} {told} {from} {view} {all} {n} {done} c h more is none =
    let refused : each read told (from c ∷ map from (drop (n + 1) all)) ≡ Err (told (from c)) = rw none in
    h.whole ∙ ap (after (map view done)) (at_next read told from all n c more is ∙ refused)

pub half_ends : {X Y E C D : Type 0} {read : X → Option Y} {told : X → E} {from : C → X} {view : D → Y} {all : List C} {n : ℕ} {done : List D}
    → Half read told from view all n done → length all ≤ n → each read told (map from all) ≡ Ok (map view done)
half_ends {X} {Y} {E} {C} {D} {read} {told} {from} {view} {all} {n} {done} h ends =
    h.whole ∙ (ap (λ (xs : List C). after (map view done) (each read told (map from xs))) (drop_all n all ends) ∙ ap (λ (ys : List Y). let r : Result (List Y) E = Ok ys in r) (append-nil (map view done)))

-- the same of a list whose items are read over a rig, which is left as it was
pub record ReadsEach {R X Y E C D : Type 0} (rig : Ghosts R) (first now : R) (read : List ℕ → X → Option Y) (told : X → E) (from : C → X) (view : D → Y) (P : D → Type 0) (all : List C) (n : ℕ) (done : List D) : Type 0 where
  pub untouched : Untouched rig first now
  pub no_fault : Faults None (rig.state first) (rig.state now)
  pub within : AllByRecursion P done
  pub so_many : length done ≡ n
  pub half : ForSome (seen_of (rig.state first) Image) (λ image. Half (read image) told from view all n done)

-- one more of which this holds
pub all_push : {X : Type 0} (P : X → Type 0) (xs : List X) (x : X) → AllByRecursion P xs → P x → AllByRecursion P (xs ++ x ∷ [])
all_push P [] x all px = (px, tt)
all_push P (y ∷ ys) x all px = (all.0, all_push P ys x all.1 px)
