-- What writing over a piece leaves.
use Rattle.std.proofs.Common.{◌≡◌, ℕ, ◌+◌, ◌≤◌, List, [], ◌++◌, length, take, drop, ap, ◌∙◌, arith, length-append, length-drop, append-nil}
use Rattle.std.proofs.lemmas.List.{drop_all, take_all, drop-drop, length-take-le}
use Rattle.czi_region.specs.declared.block.Region.{Region}
use Rattle.czi_region.specs.declared.block.Piece.{Piece}
use Rattle.czi_region.specs.Pieces.{bytes_put, IsPiece, with_piece}

refilled : (items bytes : List ℕ) (at len n : ℕ) → n ≡ length items → at + len ≤ length items → length bytes ≡ len
    → take n ((take at items ++ (bytes ++ drop (length bytes) (drop at items))) ++ drop (length (take at items ++ (bytes ++ drop (length bytes) (drop at items)))) items)
    ≡ take at items ++ (bytes ++ drop (at + len) items)
refilled items bytes at len n all inside long =
    let inner : List ℕ = take at items ++ (bytes ++ drop (length bytes) (drop at items)) in
    let same : drop (length bytes) (drop at items) ≡ drop (at + len) items = drop-drop (length bytes) at items ∙ ap (λ k. drop (at + k) items) long in
    let front : length (take at items) ≡ at = length-take-le at items (omega arith) in
    let whole : length inner ≡ n = omega (
      arith,
      front,
      length-append (take at items) (bytes ++ drop (length bytes) (drop at items)),
      length-append bytes (drop (length bytes) (drop at items)),
      ap length same,
      length-drop (at + len) items,
    ) in
    let none : drop (length inner) items ≡ [] = drop_all (length inner) items (omega arith) in
    ap (λ z. take n (inner ++ z)) none ∙ (ap (take n) (append-nil inner) ∙ (take_all n inner (omega arith) ∙ ap (λ z. take at items ++ (bytes ++ z)) same))

-- what stands in the piece, before it and behind it
pub written : (r : Region) (p : Piece) (bytes : List ℕ) → IsPiece r p → length bytes ≡ p.len → bytes_put (with_piece r p bytes) ≡ take p.at (bytes_put r) ++ (bytes ++ drop (p.at + p.len) (bytes_put r))
written r p bytes inside long = refilled r.bytes.items bytes p.at p.len r.bytes.len r.bytes.ok.0 inside long
