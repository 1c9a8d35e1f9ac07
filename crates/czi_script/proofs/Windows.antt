-- Pieces of a buffer.
use Rattle.std.proofs.Common.{◌≡◌, ℕ, ◌+◌, ◌-◌, ◌≤◌, List, [], ◌∷◌, ◌++◌, take, drop, length, refl, ap, sym, ◌∙◌, subst, arith, Option, Some, Result, Ok, Err, take_at, drop-drop, length-take, take-append-drop, None, min, true, false}
use Rattle.std.specs.Prelude.{slice_range, OnErr, is_some}
use Rattle.std.proofs.lemmas.Option.{same_Some}
use Rattle.std.proofs.Math.Seq.{take-append-add, drop-nil}
use Rattle.std.proofs.lemmas.List.{drop-take, take-append-le, drop-append-le, with_items_is}
use Rattle.std.specs.Vec.{with_items}
use Rattle.std.specs.declared.vec.Vec.{Vec}
use Rattle.std.proofs.lemmas.Grind.{common_steps}
use Rattle.czi_rig.specs.Source.{TakesBytes}
use Rattle.czi_script.specs.Reader.{GoesOn}
use Rattle.czi_script.specs.Pieces.{Added, AtEnd}

pub on_err : {T E Q : Type 0} (r : Result T E) → Q → OnErr r Q
on_err (Ok x) q = tt
on_err (Err e) q = q

pub later_front : (xs : List ℕ) (from to n : ℕ) → from + n ≤ to → slice_range xs (from + n) to ≡ drop n (slice_range xs from to)
later_front xs from to n le =
    let k : ℕ = to - (from + n) in
    let long : n + k ≡ to - from = omega arith in
    ap (λ l. take k l) (sym (drop-drop n from xs)) ∙ sym (drop-take n k (drop from xs)) ∙ ap (λ j. drop n (take j (drop from xs))) long

piece_of : (xs : List ℕ) (from to : ℕ) → from ≤ to → drop from (take to xs) ≡ slice_range xs from to
piece_of xs from to order =
    let long : to ≡ from + (to - from) = omega arith in
    ap (λ j. drop from (take j xs)) long ∙ drop-take from (to - from) xs

pub piece_len : (xs : List ℕ) (from to : ℕ) → from ≤ to → to ≤ length xs → length (slice_range xs from to) ≡ to - from
piece_len xs from to order inside = grind (arith, common_steps)

parted : (xs rest : List ℕ) (from to : ℕ) → from ≤ to → to ≤ length xs → drop from (take to xs ++ rest) ≡ slice_range xs from to ++ rest
parted xs rest from to order inside =
    let long : length (take to xs) ≡ min to (length xs) = length-take to xs in
    drop-append-le from (take to xs) rest (omega (arith, long)) ∙ ap (λ l. l ++ rest) (piece_of xs from to order)

pub same_piece : (xs rest : List ℕ) (from to : ℕ) → from ≤ to → to ≤ length xs → slice_range (take to xs ++ rest) from to ≡ slice_range xs from to
same_piece xs rest from to order inside = ap (λ l. take (to - from) l) (parted xs rest from to order inside) ∙ take_at (slice_range xs from to) rest (to - from) (piece_len xs from to order inside)

pub longer_piece : (xs into rest : List ℕ) (from to n : ℕ) → from ≤ to → to ≤ length xs → n ≤ length into → slice_range (take to xs ++ (into ++ rest)) from (to + n) ≡ slice_range xs from to ++ take n into
longer_piece xs into rest from to n order inside fits =
    let piece = slice_range xs from to in
    let long : (to + n) - from ≡ length piece + n = let h : length piece ≡ to - from = piece_len xs from to order inside in omega (arith, h) in
    ap (λ k. take k (drop from (take to xs ++ (into ++ rest)))) long ∙ ap (λ l. take (length piece + n) l) (parted xs (into ++ rest) from to order inside)
    ∙ take-append-add piece (into ++ rest) n ∙ ap (λ l. piece ++ l) (take-append-le n into rest fits)

taken_front : (n : ℕ) (into left : List ℕ) (after : Option (List ℕ)) → TakesBytes n into left after → (rest : List ℕ) × (left ≡ take n into ++ rest) × (after ≡ Some rest)
taken_front n into left after t = (drop n left, sym (take-append-drop n left) ∙ ap (λ l. l ++ drop n left) (sym t.bytes), t.rest)

none_left : (n : ℕ) (into left : List ℕ) (after : Option (List ℕ)) → TakesBytes n into left after → n ≡ 0 → after ≡ Some []
none_left n into left after t none = t.rest ∙ ap (λ l. Some (drop n l)) (t.none.0 none) ∙ ap Some (drop-nil n)

-- an input that gives no byte is at its end, and stays as it is
pub at_end : (n : ℕ) (into : List ℕ) (before after : Option (List ℕ)) → n ≡ 0 → ((left : List ℕ) → before ≡ Some left → TakesBytes n into left after) → is_some after ≡ is_some before → AtEnd after
at_end n into None after none takes told = λ left is. absurd (no_truth (sym (ap is_some is) ∙ told))
  where
    no_truth : true ≡ false → ⊥
    no_truth e = cc
at_end n into (Some before) after none takes told = λ left is. same_Some left [] (sym is ∙ none_left n into before after (takes before refl) none)

pub same_left : (n : ℕ) (into : List ℕ) (before after : Option (List ℕ)) → n ≡ 0 → ((left : List ℕ) → before ≡ Some left → TakesBytes n into left after) → is_some after ≡ is_some before → after ≡ before
same_left n into None None none takes told = refl
same_left n into None (Some after) none takes told = absurd (no_truth told)
  where
    no_truth : true ≡ false → ⊥
    no_truth e = cc
same_left n into (Some before) after none takes told = (takes before refl).rest ∙ ap (λ k. Some (drop k before)) none

-- an input that gives one byte
pub goes_on : (n : ℕ) (into : List ℕ) (before after : Option (List ℕ)) → (n ≡ 0 → ⊥) → n ≤ 1 → ((left : List ℕ) → before ≡ Some left → TakesBytes n into left after) → GoesOn before after
goes_on n into before after some few takes = λ left is. one left (takes left is)
  where
    one : (left : List ℕ) → TakesBytes n into left after → (b : ℕ) × (rest : List ℕ) × (left ≡ b ∷ rest) × (after ≡ Some rest)
    one [] t = absurd (let fits : n ≤ 0 = t.fits in some (omega (arith, fits)))
    one (b ∷ rest) t = (b, rest, refl, t.rest ∙ ap (λ k. Some (drop k (b ∷ rest))) single)
      where
        single : n ≡ 1
        single = omega (arith, some, few)

-- what is added to the bytes that are held
pub added : (xs into rest held new : List ℕ) (from to n : ℕ) (before after : Option (List ℕ)) → from ≤ to → to ≤ length xs → n ≤ length into → held ≡ slice_range xs from to
    → new ≡ slice_range (take to xs ++ (into ++ rest)) from (to + n) → ((left : List ℕ) → before ≡ Some left → TakesBytes n into left after) → is_some after ≡ is_some before → Added held new n before after
added xs into rest held new from to n before after order inside fits held_is new_is takes told = record {
  more = take n into;
  counted = grind (arith, length-take);
  adds = record {
    whole = new_is ∙ longer_piece xs into rest from to n order inside fits ∙ ap (λ l. l ++ take n into) (sym held_is);
    left = λ left is. taken_front n into left after (takes left is);
  };
  none = λ zero. at_end n into before after zero takes told;
}

pub kept_piece : (xs rest held : List ℕ) (from to : ℕ) → from ≤ to → to ≤ length xs → held ≡ slice_range xs from to → slice_range (take to xs ++ rest) from to ≡ held
kept_piece xs rest held from to order inside held_is = same_piece xs rest from to order inside ∙ sym held_is

-- the buffer after a piece of it was written to
written_len : (xs into : List ℕ) (to k n : ℕ) → to ≤ length xs → length into ≡ k → to + k ≤ length xs → n ≡ length xs → length (take to xs ++ (into ++ drop k (drop to xs))) ≡ n
written_len xs into to k n inside long fits all = grind (arith, common_steps)

pub held_still : {Z : Type 0} (v : Vec ℕ Z) (b first xs held : List ℕ) (from to old_from old_to : ℕ) → length b ≡ v.len → xs ≡ (with_items v b).items → first ≡ v.items
    → slice_range b from to ≡ slice_range first old_from old_to → slice_range v.items old_from old_to ≡ held → held ≡ slice_range xs from to
held_still v b first xs held from to old_from old_to len xs_is first_is moved held_is =
    sym held_is ∙ ap (λ l. slice_range l old_from old_to) (sym first_is) ∙ sym moved ∙ ap (λ l. slice_range l from to) (sym (xs_is ∙ with_items_is v b len))

pub kept_in : {Z : Type 0} (v : Vec ℕ Z) (xs into held : List ℕ) (from to k : ℕ) → from ≤ to → to ≤ length xs → length into ≡ k → to + k ≤ length xs → v.len ≡ length xs → held ≡ slice_range xs from to
    → slice_range (with_items v (take to xs ++ (into ++ drop k (drop to xs)))).items from to ≡ held
kept_in v xs into held from to k order inside long fits all held_is =
    ap (λ l. slice_range l from to) (with_items_is v (take to xs ++ (into ++ drop k (drop to xs))) (written_len xs into to k v.len inside long fits all))
    ∙ kept_piece xs (into ++ drop k (drop to xs)) held from to order inside held_is

pub added_in : {Z : Type 0} (v : Vec ℕ Z) (xs into held : List ℕ) (from to k n : ℕ) (before after : Option (List ℕ)) → from ≤ to → to ≤ length xs → length into ≡ k → to + k ≤ length xs → v.len ≡ length xs → held ≡ slice_range xs from to
    → n ≤ length into → ((left : List ℕ) → before ≡ Some left → TakesBytes n into left after) → is_some after ≡ is_some before
    → Added held (slice_range (with_items v (take to xs ++ (into ++ drop k (drop to xs)))).items from (to + n)) n before after
added_in v xs into held from to k n before after order inside long fits all held_is few takes told =
    added xs into (drop k (drop to xs)) held _ from to n before after order inside few held_is
    (ap (λ l. slice_range l from (to + n)) (with_items_is v (take to xs ++ (into ++ drop k (drop to xs))) (written_len xs into to k v.len inside long fits all))) takes told

-- a buffer that is filled from its front
pub filled_in : {Z : Type 0} (v : Vec ℕ Z) (xs into held : List ℕ) (to k n : ℕ) (before after : Option (List ℕ)) → to ≤ length xs → length into ≡ k → to + k ≤ length xs → v.len ≡ length xs → held ≡ take to xs
    → n ≤ length into → ((left : List ℕ) → before ≡ Some left → TakesBytes n into left after) → is_some after ≡ is_some before
    → Added held (take (to + n) (with_items v (take to xs ++ (into ++ drop k (drop to xs)))).items) n before after
filled_in v xs into held to k n before after inside long fits all held_is few takes told =
    subst (λ j. Added held (take j (with_items v (take to xs ++ (into ++ drop k (drop to xs)))).items) n before after) (all_of (to + n))
    (added_in v xs into held 0 to k n before after (omega arith) inside long fits all (held_is ∙ ap (λ j. take j xs) (sym (all_of to))) few takes told)
  where
    all_of : (j : ℕ) → j - 0 ≡ j
    all_of j = omega arith
