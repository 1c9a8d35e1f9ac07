-- An attachment entry that is written field by field.
use Rattle.std.proofs.Common.{◌≡◌, ℕ, ℤ, List, [], ◌++◌, length, replicate, codes, refl, ap, ◌∙◌, arith, append_assoc, append-nil, length-append}
use Rattle.czi_format.specs.Bytes.{put_at, i64_bytes}
use Rattle.czi_format.specs.Entry.{AttInfo, IsAttInfo, a1_bytes}
use Rattle.czi_format.proofs.Fields.{put_zeros}

pub a1_written : (info : AttInfo) (position : ℤ) (b1 b2 b3 b4 b5 : List ℕ) → IsAttInfo info → b1 ≡ put_at (replicate 128 0) 0 (codes "A1")
    → b2 ≡ put_at b1 12 (i64_bytes position) → b3 ≡ put_at b2 24 info.guid → b4 ≡ put_at b3 40 info.kind → b5 ≡ put_at b4 48 info.name
    → b5 ≡ a1_bytes (record { info = info; position = position })
a1_written info position b1 b2 b3 b4 b5 is e1 e2 e3 e4 e5 =
    let f0 : List ℕ = codes "A1" ++ (replicate 10 0 ++ (i64_bytes position ++ replicate 4 0)) in
    let f1 : List ℕ = f0 ++ info.guid in
    let f2 : List ℕ = f1 ++ info.kind in
    let n1 : length f1 ≡ 40 = length-append f0 info.guid ∙ omega (arith, is.guid) in
    let n2 : length f2 ≡ 48 = length-append f1 info.kind ∙ omega (arith, n1, is.kind) in
    let g2 : b2 ≡ f0 ++ replicate 104 0 = e2 ∙ ap (λ b. put_at b 12 (i64_bytes position)) e1 in
    let g3 : b3 ≡ f1 ++ replicate 88 0 = put_zeros f0 info.guid b2 b3 24 104 88 g2 refl (omega (arith, is.guid)) e3 in
    let g4 : b4 ≡ f2 ++ replicate 80 0 = put_zeros f1 info.kind b3 b4 40 88 80 g3 n1 (omega (arith, is.kind)) e4 in
    let g5 : b5 ≡ (f2 ++ info.name) ++ [] = put_zeros f2 info.name b4 b5 48 80 0 g4 n2 (omega (arith, is.name)) e5 in
    g5 ∙ (append-nil (f2 ++ info.name) ∙ (append_assoc f1 info.kind info.name ∙ append_assoc f0 info.guid (info.kind ++ info.name)))
