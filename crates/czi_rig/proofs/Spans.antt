-- How spans of time are joined.
use Rattle.std.proofs.Common.{◌≡◌, ℕ, List, [], ◌∷◌, ◌++◌, Some}
use Rattle.czi_rig.specs.declared.rig.Rig.{Ghosts}
use Rattle.czi_rig.specs.State.{Instant}
use Rattle.czi_rig.specs.Moments.{Devices, devices, LeavesNow, OnlyNow, Throughout}
use Rattle.czi_rig.specs.Spans.{During, EachTwo, InSpans, InSpansAt}
use Rattle.czi_rig.proofs.Runs.{always, weaker}

module _ {D : Type 0} (rig : Ghosts D) where
  -- what holds throughout, and of what a crash leaves at first
  pub during : {old new : D} {P : Instant} (all : Devices) → OnlyNow rig → devices (rig.state old) ≡ Some all → Throughout rig old new P → ((image journal said : List ℕ) → LeavesNow all image journal said → P image journal said)
      → During rig old new P
  during all only is run h = record { throughout = run; always = always rig all only is run h }

  pub during_weaker : {old new : D} {P Q : Instant} → ((image journal said : List ℕ) → P image journal said → Q image journal said) → During rig old new P → During rig old new Q
  during_weaker h d = record { throughout = weaker rig h d.throughout; always = λ i j o left. h i j o (d.always i j o left) }

module _ {D : Type 0} (rig : Ghosts D) (Q : List ℕ → List ℕ → List ℕ → List ℕ → Type 0) where
  -- any two that have P are Q to each other
  pub each_two : {old new : D} {P : Instant} → ((image journal said image' journal' said' : List ℕ) → P image journal said → P image' journal' said' → Q image journal image' journal') → During rig old new P → EachTwo rig old new Q
  each_two both d = during_weaker rig (λ i j o p. during_weaker rig (λ i' j' o' q. both i j o i' j' o' p q) d) d

  pub one_span : (old new : D) → EachTwo rig old new Q → InSpans rig old new Q
  one_span old new each = ([], each)

  joined_at : (old : D) (between : List D) (mid : D) (rest : List D) (new : D) → InSpansAt rig old between mid Q → InSpansAt rig mid rest new Q → InSpansAt rig old (between ++ mid ∷ rest) new Q
  joined_at old [] mid rest new first then = (first, then)
  joined_at old (next ∷ between) mid rest new first then = (first.0, joined_at next between mid rest new first.1 then)

  -- some spans and then others
  pub spans_then : (old mid new : D) → InSpans rig old mid Q → InSpans rig mid new Q → InSpans rig old new Q
  spans_then old mid new first then = (first.0 ++ mid ∷ then.0, joined_at old first.0 mid then.0 new first.1 then.1)
