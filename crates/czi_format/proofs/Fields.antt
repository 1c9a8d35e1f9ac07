-- Bytes that are written over others at a place.
use Rattle.std.proofs.Common.{◌≡◌, ℕ, ◌+◌, ◌≤◌, List, ◌++◌, take, drop, length, replicate, refl, ap, sym, ◌∙◌, arith, append_assoc, append-nil, length-append, length-drop}
use Rattle.std.proofs.lemmas.List.{drop_at, take_at, drop-drop, drop_all, length-take-le, length-replicate, replicate-append-replicate}
use Rattle.std.specs.Int.{cast_signed, from_le_bytes, w32, w64}
use Rattle.std.specs.Prelude.{FitsSigned, ℤ}
use Rattle.czi_format.specs.Bytes.{bytes_at, i32_at, i64_at, i32_bytes, i64_bytes, put_at, SameBeside}
use Rattle.czi_format.proofs.Written.{again_4, again_8}

pub length-put_at : (xs : List ℕ) (at : ℕ) (new : List ℕ) → at + length new ≤ length xs → length (put_at xs at new) ≡ length xs
length-put_at xs at new fits =
    let front : length (take at xs) ≡ at = length-take-le at xs (omega arith) in
    simp (length-append, length-drop) (omega arith)

pub take-put_at : (xs : List ℕ) (at : ℕ) (new : List ℕ) → at + length new ≤ length xs → take at (put_at xs at new) ≡ take at xs
take-put_at xs at new fits =
    ap (take at) (append_assoc (take at xs) new (drop (at + length new) xs))
    ∙ take_at (take at xs) (new ++ drop (at + length new) xs) at (length-take-le at xs (omega arith))

pub drop-put_at : (xs : List ℕ) (at : ℕ) (new : List ℕ) → at + length new ≤ length xs → drop (at + length new) (put_at xs at new) ≡ drop (at + length new) xs
drop-put_at xs at new fits =
    let front : length (take at xs) ≡ at = length-take-le at xs (omega arith) in
    drop_at (take at xs ++ new) (drop (at + length new) xs) (at + length new) (simp length-append (omega arith))

-- what stands at the place is what was written
pub bytes_at-put_at : (xs : List ℕ) (at : ℕ) (new : List ℕ) → at + length new ≤ length xs → bytes_at (put_at xs at new) at (length new) ≡ new
unfolding bytes_at
bytes_at-put_at xs at new fits =
    let rest : List ℕ = drop (at + length new) xs in
    ap (λ l. take (length new) (drop at l)) (append_assoc (take at xs) new rest)
    ∙ (ap (take (length new)) (drop_at (take at xs) (new ++ rest) at (length-take-le at xs (omega arith)))
    ∙ take_at new rest (length new) refl)

-- every other byte stays
pub same_beside : (xs : List ℕ) (at : ℕ) (new : List ℕ) → at + length new ≤ length xs → SameBeside at (length new) xs (put_at xs at new)
same_beside xs at new fits = record {
  as_long = length-put_at xs at new fits;
  before = take-put_at xs at new fits;
  behind = drop-put_at xs at new fits;
}

-- two fields that stand side by side
pub put_both : (xs : List ℕ) (at next : ℕ) (a b : List ℕ) → next ≡ at + length a → at + length a ≤ length xs → put_at (put_at xs at a) next b ≡ put_at xs at (a ++ b)
put_both xs at next a b side fits =
    let front : length (take at xs ++ a) ≡ next = simp length-append (omega (arith, length-take-le at xs (omega arith))) in
    let taken : take next (put_at xs at a) ≡ take at xs ++ a = take_at (take at xs ++ a) (drop (at + length a) xs) next front in
    let past : drop (next + length b) (put_at xs at a) ≡ drop (at + length (a ++ b)) xs =
    sym (drop-drop (length b) next (put_at xs at a))
    ∙ (ap (drop (length b)) (drop_at (take at xs ++ a) (drop (at + length a) xs) next front)
    ∙ (drop-drop (length b) (at + length a) xs
    ∙ ap (λ n. drop n xs) (let e : at + length a + length b ≡ at + length (a ++ b) = simp length-append (omega arith) in e))) in
    ap (λ l. (l ++ b) ++ drop (next + length b) (put_at xs at a)) taken
    ∙ (ap (λ l. ((take at xs ++ a) ++ b) ++ l) past
    ∙ ap (λ l. l ++ drop (at + length (a ++ b)) xs) (append_assoc (take at xs) a b))

-- a write behind a front
pub put_next : (front rest new : List ℕ) (at : ℕ) → length front ≡ at → put_at (front ++ rest) at new ≡ (front ++ new) ++ drop (length new) rest
put_next front rest new at long =
    ap (λ l. (l ++ new) ++ drop (at + length new) (front ++ rest)) (take_at front rest at long)
    ∙ ap (λ l. (front ++ new) ++ l) (sym (drop-drop (length new) at (front ++ rest)) ∙ ap (drop (length new)) (drop_at front rest at long))

-- a write over the front
pub put_front : (xs new : List ℕ) → put_at xs 0 new ≡ new ++ drop (length new) xs
put_front xs new = ap (λ n. new ++ drop n xs) (let e : 0 + length new ≡ length new = omega arith in e)

-- a write over the whole
pub put_whole : (xs new : List ℕ) → length new ≡ length xs → put_at xs 0 new ≡ new
put_whole xs new long =
    put_front xs new ∙ (ap (λ l. new ++ l) (drop_all (length new) xs (omega arith)) ∙ append-nil new)

-- a write behind a front, with zero bytes behind it
pub put_zeros : (front new b c : List ℕ) (at n k : ℕ) → b ≡ front ++ replicate n 0 → length front ≡ at → length new + k ≡ n → c ≡ put_at b at new
    → c ≡ (front ++ new) ++ replicate k 0
put_zeros front new b c at n k is long room put =
    let split : replicate n 0 ≡ replicate (length new) 0 ++ replicate k 0 = ap (λ m. replicate m 0) (sym room) ∙ sym (replicate-append-replicate (length new) k 0) in
    let rest : drop (length new) (replicate n 0) ≡ replicate k 0 =
    ap (drop (length new)) split ∙ drop_at (replicate (length new) 0) (replicate k 0) (length new) (length-replicate (length new) 0) in
    put ∙ (ap (λ l. put_at l at new) is ∙ (put_next front (replicate n 0) new at long ∙ ap (λ l. (front ++ new) ++ l) rest))

-- a field that stands behind a front
pub field_at : (front field rest : List ℕ) (at n : ℕ) → length front ≡ at → length field ≡ n → bytes_at (front ++ (field ++ rest)) at n ≡ field
unfolding bytes_at
field_at front field rest at n long size = ap (take n) (drop_at front (field ++ rest) at long) ∙ take_at field rest n size

pub i32_field : (front rest : List ℕ) (z : ℤ) (at : ℕ) → length front ≡ at → FitsSigned w32 z → i32_at (front ++ (i32_bytes z ++ rest)) at ≡ z
unfolding i32_at
i32_field front rest z at long fits = ap (λ l. cast_signed w32 (from_le_bytes w32 l)) (field_at front (i32_bytes z) rest at 4 long refl) ∙ again_4 z fits

pub i64_field : (front rest : List ℕ) (z : ℤ) (at : ℕ) → length front ≡ at → FitsSigned w64 z → i64_at (front ++ (i64_bytes z ++ rest)) at ≡ z
unfolding i64_at
i64_field front rest z at long fits = ap (λ l. cast_signed w64 (from_le_bytes w64 l)) (field_at front (i64_bytes z) rest at 8 long refl) ∙ again_8 z fits
