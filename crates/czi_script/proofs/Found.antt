-- What stands next in a script, where only so many bytes may be looked at, is one thing.
use Rattle.std.proofs.Common.{◌≡◌, ℕ, zero, suc, ◌+◌, ◌-◌, ◌<◌, ◌≤◌, List, [], ◌∷◌, ◌++◌, take, drop, length, refl, ap, sym, ◌∙◌, subst, arith, inl, inr, append-nil, append_assoc, length-append, length-take, take-append-drop, min}
use Rattle.std.specs.Prelude.{◌≢◌}
use Rattle.std.proofs.Math.Seq.{take-append-add}
use Rattle.czi_script.specs.declared.kind.Kind.{Kind}
use Rattle.czi_script.specs.declared.kind.Kind.TheVariants.{Cut, Long, Word, Later, Field, Value, Tail}
use Rattle.czi_script.specs.Script.{Command, IsFault, Found, Next, Ended, Wrong, Beyond, Shows, Finds}
use Rattle.czi_script.proofs.Tests.{less_or}
use Rattle.czi_script.proofs.Faults.{no_cons, SameSpelling, spelled_once, spelled_some, fault_some, fault_some_bytes, one_kind, fault_stuck, fault_stays, not_always_cut, Begun, begun, shown_fault}

-- the bytes before the limit are no fault that shows
not_beyond : (room : ℕ) (kind : Kind) (bytes : List ℕ) → Shows room kind bytes → Finds room bytes Beyond → ⊥
not_beyond room kind bytes shows f = elim shows [
  | inl here ↦ omega (arith, here.0, f.0)
  | inr every ↦
      let here : IsFault kind (take room bytes) = subst (IsFault kind) (append-nil (take room bytes)) (every []) in
      let cut : kind ≡ Cut = one_kind kind Cut (take room bytes) here (fault_some_bytes kind (take room bytes) here, f.1) in
      not_always_cut (take room bytes) f.1 (λ more. subst (λ k. IsFault k (take room bytes ++ more)) cut (every more))
]

-- a spelling before the limit
next_beyond : (room : ℕ) (c : Command) (bytes : List ℕ) → Finds room bytes (Next c) → Finds room bytes Beyond → ⊥
next_beyond room c bytes x f = fault_stuck Cut (take room bytes) ((λ none. spelled_some c x.0 (take (room - length x.0) x.1) x.3 (sym front ∙ none)), f.1) c x.0 (take (room - length x.0) x.1) x.3 front
  where
    parts : room ≡ length x.0 + (room - length x.0)
    parts = omega (arith, x.4)

    front : take room bytes ≡ x.0 ++ take (room - length x.0) x.1
    front = ap (take room) x.2 ∙ ap (λ n. take n (x.0 ++ x.1)) parts ∙ take-append-add x.0 x.1 (room - length x.0)

ended_beyond : (room : ℕ) (bytes : List ℕ) → bytes ≡ [] → Finds room bytes Beyond → ⊥
ended_beyond room bytes e f = let n : length bytes ≡ 0 = ap length e in omega (arith, n, f.0)

next_ended : (room : ℕ) (c : Command) (bytes : List ℕ) → Finds room bytes (Next c) → bytes ≡ [] → ⊥
next_ended room c bytes x e = spelled_some c x.0 x.1 x.3 (sym x.2 ∙ e)

wrong_ended : (room : ℕ) (kind : Kind) (bytes : List ℕ) → Shows room kind bytes → bytes ≡ [] → ⊥
wrong_ended room kind bytes shows e = fault_some kind (subst (IsFault kind) e (shown_fault room kind bytes shows))

next_wrong : (room : ℕ) (c : Command) (kind : Kind) (bytes : List ℕ) → Finds room bytes (Next c) → Shows room kind bytes → ⊥
next_wrong room c kind bytes x shows = fault_stuck kind bytes (shown_fault room kind bytes shows) c x.0 x.1 x.3 x.2

-- there is one answer
pub finds_one : (room : ℕ) (bytes : List ℕ) (a b : Found) → Finds room bytes a → Finds room bytes b → a ≡ b
finds_one room bytes (Next c) (Next d) x y = ap Next (let s : SameSpelling c d x.0 y.0 x.1 y.1 = spelled_once c d x.0 y.0 x.1 y.1 x.3 y.3 (sym x.2 ∙ y.2) in s.command)
finds_one room bytes (Next c) Ended x y = absurd (next_ended room c bytes x y)
finds_one room bytes (Next c) (Wrong l) x y = absurd (next_wrong room c l bytes x y)
finds_one room bytes (Next c) Beyond x y = absurd (next_beyond room c bytes x y)
finds_one room bytes Ended (Next d) x y = absurd (next_ended room d bytes y x)
finds_one room bytes Ended Ended x y = refl
finds_one room bytes Ended (Wrong l) x y = absurd (wrong_ended room l bytes y x)
finds_one room bytes Ended Beyond x y = absurd (ended_beyond room bytes x y)
finds_one room bytes (Wrong k) (Next d) x y = absurd (next_wrong room d k bytes y x)
finds_one room bytes (Wrong k) Ended x y = absurd (wrong_ended room k bytes x y)
finds_one room bytes (Wrong k) (Wrong l) x y = ap Wrong (one_kind k l bytes (shown_fault room k bytes x) (shown_fault room l bytes y))
finds_one room bytes (Wrong k) Beyond x y = absurd (not_beyond room k bytes x y)
finds_one room bytes Beyond (Next d) x y = absurd (next_beyond room d bytes y x)
finds_one room bytes Beyond Ended x y = absurd (ended_beyond room bytes y x)
finds_one room bytes Beyond (Wrong l) x y = absurd (not_beyond room l bytes y x)
finds_one room bytes Beyond Beyond x y = refl

abbrev pub SomeFound : ℕ → List ℕ → Type 0
SomeFound room bytes = (found : Found) × Finds room bytes found

-- where all of the bytes may be taken
found_within : (room : ℕ) (bytes : List ℕ) → bytes ≢ [] → length bytes ≤ room → SomeFound room bytes
found_within room bytes some le = elim (begun bytes some) [
  | inl x ↦ (Next x.0, (x.1, x.2, x.3, x.4, let a : length bytes ≡ length (x.1 ++ x.2) = ap length x.3 in let b : length (x.1 ++ x.2) ≡ length x.1 + length x.2 = length-append x.1 x.2 in omega (arith, a, b, le)))
  | inr x ↦ (Wrong x.0, inl (le, x.1))
]

-- where not all of them may be taken
found_begun : (room : ℕ) (bytes : List ℕ) → room < length bytes → Begun (take room bytes) → SomeFound room bytes
found_begun room bytes lt (inl x) = (
  Next x.0,
  (
    x.1,
    x.2 ++ drop room bytes,
    sym (take-append-drop room bytes) ∙ ap (λ l. l ++ drop room bytes) x.3 ∙ append_assoc x.1 x.2 (drop room bytes),
    x.4,
    let a : length (take room bytes) ≡ length (x.1 ++ x.2) = ap length x.3 in
        let b : length (x.1 ++ x.2) ≡ length x.1 + length x.2 = length-append x.1 x.2 in
        let n : length (take room bytes) ≡ min room (length bytes) = length-take room bytes in
        omega (arith, a, b, n),
  ),
)
found_begun room bytes lt (inr x) = by x.0 x.1
  where
    stays : (kind : Kind) → kind ≢ Cut → IsFault kind (take room bytes) → SomeFound room bytes
    stays kind other f = (Wrong kind, inr (λ more. fault_stays kind (take room bytes) more other f))

    by : (kind : Kind) → IsFault kind (take room bytes) → SomeFound room bytes
    by Cut f = (Beyond, (lt, f.1))
    by Long f = stays Long (λ e. let n : Long ≡ Cut = e in cc) f
    by Word f = stays Word (λ e. let n : Word ≡ Cut = e in cc) f
    by Later f = stays Later (λ e. let n : Later ≡ Cut = e in cc) f
    by Field f = stays Field (λ e. let n : Field ≡ Cut = e in cc) f
    by Value f = stays Value (λ e. let n : Value ≡ Cut = e in cc) f
    by Tail f = stays Tail (λ e. let n : Tail ≡ Cut = e in cc) f

found_front : (room : ℕ) (bytes : List ℕ) → room < length bytes → SomeFound room bytes
found_front zero bytes lt = (Beyond, (lt, inl (tt, omega arith)))
found_front (suc room) [] lt = absurd (omega arith)
found_front (suc room) (b ∷ bytes) lt = found_begun (suc room) (b ∷ bytes) lt (begun (b ∷ take room bytes) (λ e. no_cons b (take room bytes) e))

found_some : (room : ℕ) (bytes : List ℕ) → bytes ≢ [] → SomeFound room bytes
found_some room bytes some = elim (less_or room (length bytes)) [
  | inl lt ↦ found_front room bytes lt
  | inr le ↦ found_within room bytes some le
]

-- there is an answer
pub finds_some : (room : ℕ) (bytes : List ℕ) → SomeFound room bytes
finds_some room [] = (Ended, refl)
finds_some room (b ∷ bytes) = found_some room (b ∷ bytes) (λ e. no_cons b bytes e)
