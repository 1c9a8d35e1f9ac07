-- The bytes of an empty document, as they are written.
use Rattle.std.proofs.Common.{◌≡◌, ℕ, ◌+◌, pos, List, [], ◌++◌, length, replicate, refl, sym, ◌∙◌, ap, arith, append_assoc, length-append, rules}
use Rattle.czi_format.specs.Bytes.{put_at, i32_at, i32_bytes}
use Rattle.czi_format.specs.Empty.{empty_identity}
use Rattle.czi_format.proofs.Fields.{put_zeros, i32_field}

-- the identity, field by field
pub identity_written : (guid b1 b2 b3 : List ℕ) → length guid ≡ 16 → b1 ≡ put_at (replicate 52 0) 0 (i32_bytes (pos 1)) → b2 ≡ put_at b1 16 guid → b3 ≡ put_at b2 32 guid → b3 ≡ empty_identity guid
identity_written guid b1 b2 b3 long e1 e2 e3 =
    let front : List ℕ = i32_bytes (pos 1) ++ replicate 12 0 in
    let two : List ℕ = front ++ guid in
    let f1 : b1 ≡ front ++ replicate 36 0 = e1 in
    let f2 : b2 ≡ two ++ replicate 20 0 = put_zeros front guid b1 b2 16 36 20 f1 refl (omega (arith, long)) e2 in
    let n2 : length two ≡ 32 = length-append front guid ∙ omega (arith, long) in
    let f3 : b3 ≡ (two ++ guid) ++ replicate 4 0 = put_zeros two guid b2 b3 32 20 4 f2 n2 (omega (arith, long)) e3 in
    let last : List ℕ = i32_bytes (pos 0) in
    f3 ∙ (append_assoc two guid last ∙ append_assoc front guid (guid ++ last))

-- its FilePart is 0
pub first_part : (guid : List ℕ) → length guid ≡ 16 → i32_at (empty_identity guid) 48 ≡ pos 0
first_part guid long =
    let front : List ℕ = i32_bytes (pos 1) ++ replicate 12 0 in
    let two : List ℕ = front ++ guid in
    let last : List ℕ = i32_bytes (pos 0) in
    let three : length (two ++ guid) ≡ 48 = length-append two guid ∙ omega (arith, length-append front guid, long) in
    ap (λ (l : List ℕ). i32_at l 48) (sym (append_assoc two guid last ∙ append_assoc front guid (guid ++ last))) ∙ i32_field (two ++ guid) [] (pos 0) 48 three (search rules)

-- two parts behind one another, written over zeros
pub image_written : (first second b1 b2 : List ℕ) → length first ≡ 544 → length second ≡ 32 → b1 ≡ put_at (replicate 704 0) 0 first → b2 ≡ put_at b1 544 second
    → b2 ≡ first ++ (second ++ replicate 128 0)
image_written first second b1 b2 one two e1 e2 =
    let f1 : b1 ≡ first ++ replicate 160 0 = put_zeros [] first (replicate 704 0) b1 0 704 160 refl refl (omega (arith, one)) e1 in
    let f2 : b2 ≡ (first ++ second) ++ replicate 128 0 = put_zeros first second b1 b2 544 160 128 f1 one (omega (arith, two)) e2 in
    f2 ∙ append_assoc first second (replicate 128 0)
