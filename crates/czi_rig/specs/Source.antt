-- An input that is read from front to end.
use Rattle.std.specs.Prelude.{◌≡◌, ◌↔◌, ℕ, ◌+◌, ◌-◌, ◌^◌, ◌≤◌, min, Option, Some, List, [], length, take, drop, Bool, false, IsTrue, Contains}

-- the bytes that are left, where the source tells them, and how often a call has failed
pub record Input : Type 0 where
  pub left : Option (List ℕ)
  pub faults : ℕ

-- The first n of the bytes that were left now stand at the front of `into`, and the rest is left. No byte was taken
-- exactly where none was left.
pub record TakesBytes (n : ℕ) (into left : List ℕ) (after : Option (List ℕ)) : Type 0 where
  pub fits : n ≤ length left
  pub bytes : take n into ≡ take n left
  pub rest : after ≡ Some (drop n left)
  pub none : (n ≡ 0) ↔ (left ≡ [])

-- an input none of which was taken
abbrev pub unread : List ℕ → Input
unread bytes = record { left = Some bytes; faults = 0 }

-- the numbers of the calls that are to fail, and how many calls there were
pub record Orders : Type 0 where
  pub to_fail : List ℕ
  pub calls : ℕ

-- no call was made, and none is to fail
abbrev pub no_orders : Orders
no_orders = record { to_fail = []; calls = 0 }

-- A call fails exactly where its number is to fail, and only then the count of faults rises.
pub record Obeys (failed : Bool) (old new : Orders) (before after : ℕ) : Type 0 where
  pub to_fail : new.to_fail ≡ old.to_fail
  pub calls : new.calls ≡ min (old.calls + 1) (2 ^ 64 - 1)
  pub fails : IsTrue failed ↔ Contains old.to_fail old.calls
  pub no_fault : failed ≡ false → after ≡ before
