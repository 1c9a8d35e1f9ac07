-- Staged data of an attachment: its front, how long it is, and parts that were put one behind another.
use Rattle.std.proofs.Common.{◌≡◌, ℕ, ◌+◌, pos, List, ◌++◌, length, replicate, refl, ap, ◌∙◌, arith, append_assoc, length-append}
use Rattle.czi_format.specs.Bytes.{put_at, i32_bytes}
use Rattle.czi_format.specs.Data.{attachment_data}
use Rattle.czi_format.specs.Entry.{A1, IsA1, a1_bytes}
use Rattle.czi_num.proofs.Padding.{zeros, length-zeros}
use Rattle.czi_format.proofs.Fields.{put_zeros}
use Rattle.czi_format.proofs.Heads.{length-a1_bytes}
use Rattle.czi_region.proofs.Whole.{put_behind}
use Rattle.czi_att.specs.Staged.{att_length}

-- the front, written field by field
pub front_written : (n : ℕ) (a : A1) (written b c : List ℕ) → length written ≡ 128 → written ≡ a1_bytes a → b ≡ put_at (replicate 256 0) 0 (i32_bytes (pos n)) → c ≡ put_at b 16 written
    → c ≡ i32_bytes (pos n) ++ (replicate 12 0 ++ (a1_bytes a ++ replicate 112 0))
front_written n a written b c long is first second =
    let before : List ℕ = i32_bytes (pos n) ++ replicate 12 0 in
    put_zeros before written b c 16 240 112 first refl (omega (arith, long)) second
    ∙ ap (λ l. (before ++ l) ++ replicate 112 0) is ∙ append_assoc before (a1_bytes a) (replicate 112 0)

-- how long the data is
pub length-attachment_data : (a : A1) (bytes : List ℕ) (padding : ℕ) → IsA1 a → length (attachment_data a bytes padding) ≡ att_length (length bytes) + padding
unfolding zeros
length-attachment_data a bytes padding is = omega (
  arith,
  length-a1_bytes a is,
  length-append (a1_bytes a) (zeros 112 ++ (bytes ++ zeros padding)),
  length-append bytes (zeros padding),
  length-zeros padding,
)

-- its parts, put
pub attachment_put : (old front x y last : List ℕ) (a : A1) (bytes : List ℕ) (n padding : ℕ) → n ≡ padding → front ≡ i32_bytes (pos (length bytes)) ++ (replicate 12 0 ++ (a1_bytes a ++ replicate 112 0))
    → x ≡ old ++ front → y ≡ x ++ bytes → last ≡ y ++ replicate n 0 → last ≡ old ++ attachment_data a bytes padding
attachment_put old front x y last a bytes n padding fills is first second third =
    let rest : List ℕ = bytes ++ replicate padding 0 in
    put_behind old (front ++ bytes) (replicate padding 0) y last (put_behind old front bytes x y first second) (third ∙ ap (λ k. y ++ replicate k 0) fills)
    ∙ ap (λ l. old ++ l)
    (append_assoc front bytes (replicate padding 0)
    ∙ (ap (λ l. l ++ rest) is ∙ ap (λ l. i32_bytes (pos (length bytes)) ++ (replicate 12 0 ++ l)) (append_assoc (a1_bytes a) (replicate 112 0) rest)))
