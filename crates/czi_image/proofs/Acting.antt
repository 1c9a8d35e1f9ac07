-- Acts one after another, as one change.
use Rattle.std.proofs.Common.{◌≡◌, ℕ, zero, suc, ◌+◌, ◌<◌, ◌≤◌, List, [], ◌∷◌, ◌++◌, length, take, drop, refl, ap, sym, ◌∙◌, subst, arith, Result, Ok, Err, if◌then◌else◌, true, false}
use Rattle.std.specs.List.{insert}
use Rattle.std.specs.Result.{is_ok, IsOk}
use Rattle.std.proofs.lemmas.List.{set_split}
use Rattle.std.proofs.Math.ListN.{set}
use Rattle.czi_machine.specs.Change.{Act, keep, omit, bring, changed, IsWithin, and_then, into, out, put}
use Rattle.czi_machine.proofs.Changing.{changed-into, changed-put, changed-out}
use Rattle.czi_machine.proofs.Composed.{changed_twice}
use Rattle.czi_image.specs.Change.{AreWithin, act_of, acts_behind, acts_of}
use Rattle.czi_image.specs.declared.change.Act.{Act as CodeAct}
use Rattle.czi_image.specs.declared.change.Act.TheVariants.{Out, Put, Into}

pub set_put : {X : Type 0} (xs : List X) (i : ℕ) (x : X) → i < length xs → set xs i x ≡ changed (put i x) xs
set_put xs i x h = set_split xs i x h ∙ sym (changed-put i x xs)

pub removed_out : {X : Type 0} (xs : List X) (i : ℕ) → take i xs ++ drop (suc i) xs ≡ changed (out i) xs
removed_out xs i = sym (changed-out i xs)

pub inserted_into : {X : Type 0} (xs : List X) (i : ℕ) (x : X) → take i xs ++ x ∷ drop i xs ≡ changed (into i x) xs
inserted_into xs i x = sym (changed-into i x xs)

-- how long the list then is
length-out : {X : Type 0} (i : ℕ) (xs : List X) → i < length xs → length (changed (out i) xs) + 1 ≡ length xs
length-out i [] h = absurd (omega arith)
length-out zero (x ∷ xs) h = omega arith
length-out (suc i) (x ∷ xs) h = omega (arith, length-out i xs (omega arith))

length-put : {X : Type 0} (i : ℕ) (y : X) (xs : List X) → i < length xs → length (changed (put i y) xs) ≡ length xs
length-put i y [] h = absurd (omega arith)
length-put zero y (x ∷ xs) h = omega arith
length-put (suc i) y (x ∷ xs) h = omega (arith, length-put i y xs (omega arith))

length-into : {X : Type 0} (i : ℕ) (y : X) (xs : List X) → i ≤ length xs → length (changed (into i y) xs) ≡ suc (length xs)
length-into zero y xs h = omega arith
length-into (suc i) y [] h = absurd (omega arith)
length-into (suc i) y (x ∷ xs) h = omega (arith, length-into i y xs (omega arith))

pub within_next : {X : Type 0} (a : CodeAct X) (acts : List (CodeAct X)) (xs : List X) → AreWithin (a ∷ acts) (length xs) → AreWithin acts (length (changed (act_of a) xs))
within_next (Out i) acts xs w = subst (AreWithin acts) (omega (arith, length-out i xs w.0)) w.1
within_next (Put i x) acts xs w = subst (AreWithin acts) (sym (length-put i x xs w.0)) w.1
within_next (Into i x) acts xs w = subst (AreWithin acts) (sym (length-into i x xs w.0)) w.1

-- the first act is one of those that there is a place for
pub within_one : {X : Type 0} (a : CodeAct X) (acts : List (CodeAct X)) (n : ℕ) → AreWithin (a ∷ acts) n → AreWithin (a ∷ []) n
within_one (Out i) acts n w = (w.0, tt)
within_one (Put i x) acts n w = (w.0, tt)
within_one (Into i x) acts n w = (w.0, tt)

within_out : (X : Type 0) (i n : ℕ) → i < n → IsWithin (out {X = X} i) n
within_out X i zero h = absurd (omega arith)
within_out X zero (suc n) h = tt
within_out X (suc i) (suc n) h = within_out X i n (omega arith)

within_put : {X : Type 0} (i n : ℕ) (x : X) → i < n → IsWithin (put i x) n
within_put i zero x h = absurd (omega arith)
within_put zero (suc n) x h = tt
within_put (suc i) (suc n) x h = within_put i n x (omega arith)

within_into : {X : Type 0} (i n : ℕ) (x : X) → i ≤ n → IsWithin (into i x) n
within_into zero n x h = tt
within_into (suc i) zero x h = absurd (omega arith)
within_into (suc i) (suc n) x h = within_into i n x (omega arith)

act_within : {X : Type 0} (a : CodeAct X) (acts : List (CodeAct X)) (n : ℕ) → AreWithin (a ∷ acts) n → IsWithin (act_of a) n
act_within {X = X} (Out i) acts n w = within_out X i n w.0
act_within (Put i x) acts n w = within_put i n x w.0
act_within (Into i x) acts n w = within_into i n x w.0

both_within : {X : Type 0} (c d : List (Act X)) (xs : List X) → IsWithin c (length xs) → IsWithin d (length (changed c xs)) → IsWithin (and_then c d) (length xs)
both_within [] d xs w v = v
both_within (omit ∷ c) d [] w v = absurd w
both_within (omit ∷ c) d (x ∷ xs) w v = both_within c d xs w v
both_within (keep ∷ c) [] xs w v = w
both_within (keep ∷ c) (bring y ∷ d) xs w v = both_within (keep ∷ c) d xs w v
both_within (keep ∷ c) (keep ∷ d) [] w v = absurd w
both_within (keep ∷ c) (keep ∷ d) (x ∷ xs) w v = both_within c d xs w v
both_within (keep ∷ c) (omit ∷ d) [] w v = absurd w
both_within (keep ∷ c) (omit ∷ d) (x ∷ xs) w v = both_within c d xs w v
both_within (bring x ∷ c) [] xs w v = w
both_within (bring x ∷ c) (bring y ∷ d) xs w v = both_within (bring x ∷ c) d xs w v
both_within (bring x ∷ c) (keep ∷ d) xs w v = both_within c d xs w v
both_within (bring x ∷ c) (omit ∷ d) xs w v = both_within c d xs w v

-- acts done one by one
abbrev pub acted : {X : Type 0} → List (CodeAct X) → List X → List X
acted [] xs = xs
acted (a ∷ acts) xs = acted acts (changed (act_of a) xs)

acted_behind : {X : Type 0} (c : List (Act X)) (acts : List (CodeAct X)) (xs : List X) → IsWithin c (length xs) → AreWithin acts (length (changed c xs)) → changed (acts_behind c acts) xs ≡ acted acts (changed c xs)
acted_behind c [] xs w v = refl
acted_behind {X = X} c (a ∷ acts) xs w v =
    let twice : changed (and_then c (act_of a)) xs ≡ changed (act_of a) (changed c xs) = changed_twice c (act_of a) xs w in
    acted_behind (and_then c (act_of a)) acts xs (both_within c (act_of a) xs w (act_within a acts (length (changed c xs)) v))
    (subst (λ (l : List X). AreWithin acts (length l)) (sym twice) (within_next a acts (changed c xs) v))
    ∙ ap (acted acts) twice

pub acted_all : {X : Type 0} (acts : List (CodeAct X)) (xs : List X) → AreWithin acts (length xs) → changed (acts_of acts) xs ≡ acted acts xs
acted_all [] xs w = refl
acted_all (a ∷ acts) xs w = acted_behind (act_of a) acts xs (act_within a acts (length xs) w) (within_next a acts xs w)

-- no act is left
pub none_left : {X : Type 0} (n : ℕ) (acts : List (CodeAct X)) (xs : List X) → n ≡ length acts → n ≡ 0 → acted acts xs ≡ xs
none_left n [] xs long none = refl
none_left n (a ∷ acts) xs long none = absurd (omega arith)

-- with room there is an item more
pub came_in : {X E : Type 0} (r : Result (Unit {0}) E) (xs ys : List X) (i : ℕ) (x : X) → IsOk r → ys ≡ (if is_ok r then insert xs i x else xs) → ys ≡ changed (into i x) xs
came_in (Ok u) xs ys i x ok is = is ∙ inserted_into xs i x
came_in (Err e) xs ys i x ok is = absurd (let clash : false ≡ true = ok in cc (clash))
