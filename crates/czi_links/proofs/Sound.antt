-- What is read meets the rules.
use Rattle.std.proofs.Common.{◌≡◌, ℕ, zero, suc, ◌+◌, ◌≤◌, ◌^◌, Bool, true, false, ◌&&◌, nat_le, List, length, drop, Ok, Err, refl, sym, subst, arith}
use Rattle.std.specs.Prelude.{Result, ◌==◌, if◌then◌else◌}
use Rattle.std.proofs.lemmas.Bool.{leb-true}
use Rattle.std.proofs.lemmas.List.{length-take-le, length-drop}
use Rattle.std.proofs.lemmas.List.Elements.{All-nil, All-cons}
use Rattle.czi_format.specs.Bytes.{bytes_at, u32_at, u64_at}
use Rattle.czi_links.specs.Record.{Bytes, AreRising, EndWithin, end_of}
use Rattle.czi_links.specs.Reading.{Reading, Void, Holds, OfVersion, BadAt, IsRead, KeepsRules, is_good, after, links_at, holds, read}

-- links that were read keep the rules
record Keep (from limit : ℕ) (ls : List Bytes) : Type 0 where
  rising : AreRising from ls
  ends : EndWithin limit ls

abbrev AreSound : ℕ → ℕ → Result (List Bytes) ℕ → Type 0
AreSound from limit (Ok ls) = Keep from limit ls
AreSound from limit (Err place) = Unit {0}

-- a record that was read meets the rules, and a slot isn't void
abbrev pub IsOfSlot : Reading → Type 0
IsOfSlot Void = ⊥
IsOfSlot (Holds r) = IsRead r
IsOfSlot (OfVersion v) = Unit {0}
IsOfSlot (BadAt place) = Unit {0}

pub both : (a b : Bool) → (a && b) ≡ true → (a ≡ true) × (b ≡ true)
both true b e = (refl, e)
both false b e = cc

-- a choice has P where each side has it
chosen : {A : Type 0} (P : A → Type 0) (b : Bool) (x y : A) → (b ≡ true → P x) → P y → P (if b then x else y)
chosen P true x y p q = p refl
chosen P false x y p q = q

pub good_of : (place size from limit room : ℕ) → is_good place size from limit room ≡ true → KeepsRules place size from limit room
good_of place size from limit room e =
    let a = both (nat_le (12 + size) room) _ e in
    let b = both (nat_le 1 size) _ a.1 in
    let c = both (nat_le from place) _ b.1 in
    record { fits = leb-true (12 + size) room a.0; some = leb-true 1 size b.0; begins = leb-true from place c.0; ends = leb-true (place + size) limit c.1 }

after_sound : (from limit : ℕ) (l : Bytes) (more : Result (List Bytes) ℕ) → from ≤ l.place → 1 ≤ length l.bytes → l.place + length l.bytes ≤ limit → AreSound (l.place + length l.bytes) limit more → AreSound from limit (after l more)
after_sound from limit l (Ok ls) begins some ends sound = record { rising = (begins, some, sound.rising); ends = All-cons (λ (l : Bytes). end_of l ≤ limit) l ls ends sound.ends }
after_sound from limit l (Err place) begins some ends sound = tt

length-bytes_at : (rest : List ℕ) (at n : ℕ) → at + n ≤ length rest → length (bytes_at rest at n) ≡ n
unfolding bytes_at
length-bytes_at rest at n fits = length-take-le n (drop at rest) (omega (arith, fits, length-drop at rest))

links_sound : (n at from limit : ℕ) (rest : List ℕ) → AreSound from limit (links_at n at from limit rest)
unfolding links_at
links_sound zero at from limit rest = record { rising = tt; ends = All-nil (λ (l : Bytes). end_of l ≤ limit) }
links_sound (suc n) at from limit rest = chosen (AreSound from limit) (is_good place size from limit (length rest)) _ _ (λ e. one (links_sound n (at + (12 + size)) (place + size) limit (drop (12 + size) rest)) (good_of place size from limit (length rest) e)) tt
  where
    place : ℕ
    place = u64_at rest 0

    size : ℕ
    size = u32_at rest 8

    one : AreSound (place + size) limit (links_at n (at + (12 + size)) (place + size) limit (drop (12 + size) rest)) → KeepsRules place size from limit (length rest) → AreSound from limit (after (record { place = place; bytes = bytes_at rest 12 size }) (links_at n (at + (12 + size)) (place + size) limit (drop (12 + size) rest)))
    one more g =
        let e : length (bytes_at rest 12 size) ≡ size = length-bytes_at rest 12 size (omega (arith, g.fits)) in
        after_sound from limit (record { place = place; bytes = bytes_at rest 12 size }) _ g.begins (omega (arith, e, g.some)) (omega (arith, e, g.ends))
        (subst (λ (m : ℕ). AreSound (place + m) limit (links_at n (at + (12 + size)) (place + size) limit (drop (12 + size) rest))) (sym e) more)

holds_sound : (guid : List ℕ) (committed : ℕ) (links : Result (List Bytes) ℕ) → 112 ≤ committed → committed ≤ 2 ^ 62 → AreSound 84 committed links → IsOfSlot (holds guid committed links)
holds_sound guid committed (Ok ls) least greatest sound = record { least = least; greatest = greatest; rising = sound.rising; ends = sound.ends }
holds_sound guid committed (Err place) least greatest sound = tt

pub read_sound : (slot : List ℕ) → IsOfSlot (read slot)
unfolding read
read_sound slot = chosen IsOfSlot (u32_at slot 0 == 1) _ _
    (λ is. chosen IsOfSlot (nat_le 112 committed && nat_le committed (2 ^ 62)) _ _
    (λ fine.
    let bounds = both (nat_le 112 committed) _ fine in
    holds_sound (bytes_at slot 4 16) committed _ (leb-true 112 committed bounds.0) (leb-true committed (2 ^ 62) bounds.1) (links_sound (u32_at slot 28) 32 84 committed (drop 32 slot))) tt) tt
  where
    committed : ℕ
    committed = u64_at slot 20
