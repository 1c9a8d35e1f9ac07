-- The numbers of `byteorder` are those of the format, and a write to the rest of a list from a place on.
use Rattle.std.proofs.Common.{◌≡◌, ℕ, ◌+◌, ◌-◌, ◌<◌, ◌≤◌, ◌^◌, List, [], ◌++◌, length, take, drop, refl, sym, ap, ◌∙◌, arith, subst, length-drop, append_assoc, append-nil}
use Rattle.std.proofs.lemmas.List.{drop-drop, drop_all, take_all}
use Rattle.std.proofs.lemmas.Nat.{from_le_bytes-to_le_bytes_2, from_le_bytes-to_le_bytes_4, from_le_bytes-to_le_bytes_8}
use Rattle.std.specs.Int.{from_le_bytes, w16, w32, w64}
use Rattle.byteorder.specs.Endian.{little_number}
use Rattle.byteorder.specs.Numbers.{little_from-take}
use Rattle.czi_format.specs.Bytes.{SameBeside, bytes_at, put_at, u16_at, u16_bytes, u32_at, u32_bytes, u64_at, u64_bytes}
use Rattle.czi_format.proofs.Fields.{bytes_at-put_at, same_beside}
use borrow.Rule.Slice.PartMut.{put_mid}

low_2 : (xs : List ℕ) → little_number 2 xs ≡ from_le_bytes w16 xs
low_2 xs = omega arith

low_4 : (xs : List ℕ) → little_number 4 xs ≡ from_le_bytes w32 xs
low_4 xs = omega arith

low_8 : (xs : List ℕ) → little_number 8 xs ≡ from_le_bytes w64 xs
low_8 xs = omega arith

pub number_2 : (bytes : List ℕ) (at : ℕ) → at + 2 ≤ length bytes → little_number 2 (take (length bytes - at) (drop at bytes)) ≡ u16_at bytes at
unfolding u16_at bytes_at
number_2 bytes at fits =
    little_from-take 0 2 (length bytes - at) (drop at bytes) (omega arith)
    ∙ (sym (little_from-take 0 2 2 (drop at bytes) (omega arith)) ∙ low_2 (take 2 (drop at bytes)))

pub number_4 : (bytes : List ℕ) (at : ℕ) → at + 4 ≤ length bytes → little_number 4 (take (length bytes - at) (drop at bytes)) ≡ u32_at bytes at
unfolding u32_at bytes_at
number_4 bytes at fits =
    little_from-take 0 4 (length bytes - at) (drop at bytes) (omega arith)
    ∙ (sym (little_from-take 0 4 4 (drop at bytes) (omega arith)) ∙ low_4 (take 4 (drop at bytes)))

pub number_8 : (bytes : List ℕ) (at : ℕ) → at + 8 ≤ length bytes → little_number 8 (take (length bytes - at) (drop at bytes)) ≡ u64_at bytes at
unfolding u64_at bytes_at
number_8 bytes at fits =
    little_from-take 0 8 (length bytes - at) (drop at bytes) (omega arith)
    ∙ (sym (little_from-take 0 8 8 (drop at bytes) (omega arith)) ∙ low_8 (take 8 (drop at bytes)))

-- a field that is written to the rest of the list from a place on
pub field_written : (at n : ℕ) (xs new field : List ℕ) → at + n ≤ length xs → length field ≡ n → new ≡ field ++ drop n (take (length xs - at) (drop at xs))
    → put_mid at (length xs - at) xs new ≡ put_at xs at field
field_written at n xs new field fits long is =
    let past : drop (length xs - at) (drop at xs) ≡ [] = drop_all (length xs - at) (drop at xs) (rw (length-drop at xs) (omega arith)) in
    let whole : take (length xs - at) (drop at xs) ≡ drop at xs = take_all (length xs - at) (drop at xs) (rw (length-drop at xs) (omega arith)) in
    let rest : drop n (drop at xs) ≡ drop (at + n) xs = drop-drop n at xs in
    rw (past, append-nil new, is, whole, rest, ← append_assoc (take at xs) field (drop (at + n) xs), long) refl

-- every other byte stays
pub others_written : (at n : ℕ) (xs new field : List ℕ) → at + n ≤ length xs → length field ≡ n → new ≡ field ++ drop n (take (length xs - at) (drop at xs))
    → SameBeside at n xs (put_mid at (length xs - at) xs new)
others_written at n xs new field fits long is =
    let same : SameBeside at (length field) xs (put_at xs at field) = same_beside xs at field (rw long fits) in
    let P : List ℕ → Type 0 = λ ys. SameBeside at n xs ys in
    subst P (sym (field_written at n xs new field fits long is)) (subst (λ k. SameBeside at k xs (put_at xs at field)) long same)

-- bytes that are copied to a place
copied : (at : ℕ) (xs new field : List ℕ) → new ≡ field → put_mid at (at + length field - at) xs new ≡ put_at xs at field
copied at xs new field is =
    let size : at + length field - at ≡ length field = omega arith in
    rw (size, is, drop-drop (length field) at xs, ← append_assoc (take at xs) field (drop (at + length field) xs)) refl

pub copied_back : (at : ℕ) (xs new field : List ℕ) → at + length field ≤ length xs → new ≡ field
    → bytes_at (put_mid at (at + length field - at) xs new) at (length field) ≡ field
copied_back at xs new field fits is = ap (λ bytes. bytes_at bytes at (length field)) (copied at xs new field is) ∙ bytes_at-put_at xs at field fits

pub others_copied : (at : ℕ) (xs new field : List ℕ) → at + length field ≤ length xs → new ≡ field
    → SameBeside at (length field) xs (put_mid at (at + length field - at) xs new)
others_copied at xs new field fits is =
    let P : List ℕ → Type 0 = λ ys. SameBeside at (length field) xs ys in
    subst P (sym (copied at xs new field is)) (same_beside xs at field fits)

-- a written number reads back
pub back_2 : (xs : List ℕ) (at n : ℕ) → at + 2 ≤ length xs → n < 2 ^ 16 → u16_at (put_at xs at (u16_bytes n)) at ≡ n
unfolding u16_at
back_2 xs at n fits small = ap (from_le_bytes w16) (bytes_at-put_at xs at (u16_bytes n) fits) ∙ from_le_bytes-to_le_bytes_2 n small

pub back_4 : (xs : List ℕ) (at n : ℕ) → at + 4 ≤ length xs → n < 2 ^ 32 → u32_at (put_at xs at (u32_bytes n)) at ≡ n
unfolding u32_at
back_4 xs at n fits small = ap (from_le_bytes w32) (bytes_at-put_at xs at (u32_bytes n) fits) ∙ from_le_bytes-to_le_bytes_4 n small

pub back_8 : (xs : List ℕ) (at n : ℕ) → at + 8 ≤ length xs → n < 2 ^ 64 → u64_at (put_at xs at (u64_bytes n)) at ≡ n
unfolding u64_at
back_8 xs at n fits small = ap (from_le_bytes w64) (bytes_at-put_at xs at (u64_bytes n) fits) ∙ from_le_bytes-to_le_bytes_8 n small
