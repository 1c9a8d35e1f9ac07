-- What the pieces of a change in place put, and where they put nothing.
use Rattle.std.proofs.Common.{◌≡◌, ℕ, zero, suc, ◌+◌, ◌≤◌, pos, List, [], ◌∷◌, map, length, Option, Some, None, refl, ap, arith, subst, inl, inr}
use Rattle.std.specs.Prelude.{slice_get}
use Rattle.std.specs.List.{AllByRecursion, flat_map}
use Rattle.czi_format.specs.Bytes.{i32_bytes, i64_bytes}
use Rattle.czi_format.specs.Entry.{Entry, entry, entry_len, entry_bytes, IsEntry, A1, a1, a1_len, a1_bytes, IsA1}
use Rattle.czi_format.specs.Live.{Directory}
use Rattle.czi_machine.specs.Cover.{between, cover}
use Rattle.czi_machine.specs.Patch.{total, HasPatch, PatchPuts, used_piece, count_piece, range_piece}
use Rattle.czi_machine.specs.Written.{Piece, piece_span, byte_of, Puts}
use Rattle.czi_machine.proofs.Cover.{between_low, between_high}
use Rattle.czi_machine.proofs.Over.{apart_put, none_put}
use Rattle.czi_machine.proofs.Patched.{IsCodec, entry_codec, a1_codec, length-written}

among_has : (P : Piece → Type 0) (ps : List Piece) (p : Piece) (i : ℕ) → slice_get ps i ≡ Some p → AllByRecursion P ps → P p
among_has P [] p i e all = cc (e)
among_has P (x ∷ ps) p zero e all = let same : x ≡ p = cc (e) in subst P same all.0
among_has P (x ∷ ps) p (suc i) e all = among_has P ps p i e all.1

not_put : (pieces : List Piece) (q n : ℕ) → cover (map piece_span pieces) q ≤ n → n ≡ 0 → byte_of pieces q ≡ None
not_put pieces q n few none = none_put pieces q (omega (arith, few, none))

patch_puts : {X : Type 0} (head : ℕ) (read : List ℕ → Option X) (size : X → ℕ) (write : X → List ℕ) (Is : X → Type 0) (pieces : List Piece) (d : Directory) (front middle : List X) → IsCodec read size write Is → 4 ≤ head
    → AllByRecursion Is middle → head + total size front + total size middle ≤ d.segment.allocated → HasPatch head size write pieces d front middle → PatchPuts head size write pieces d front middle
patch_puts head read size write Is pieces d front middle codec four all fits h =
    let at : ℕ = d.segment.at in
    let n : ℕ = total size front in
    let w : List ℕ = flat_map write middle in
    let long : length w ≡ total size middle = length-written read size write Is codec middle all in
    let eight : length (i64_bytes (pos d.segment.used)) ≡ 8 = refl in
    let some : length (i32_bytes (pos d.count)) ≡ 4 = refl in
    let puts : AllByRecursion (λ (p : Piece). Puts pieces p.place p.bytes) pieces = apart_put pieces h.once in
    let P : Piece → Type 0 = λ p. Puts pieces p.place p.bytes in
    let three : (q : ℕ) → cover (map piece_span (used_piece d ∷ count_piece d ∷ range_piece head size write d front middle ∷ [])) q
    ≡ between (at + 24) (at + 24 + length (i64_bytes (pos d.segment.used))) q + (between (at + 32) (at + 32 + length (i32_bytes (pos d.count))) q + (between (at + 32 + head + n) (at + 32 + head + n + length w) q + 0)) = λ q. refl in
    record {
      puts_used = among_has P pieces (used_piece d) h.used.0 h.used.1 puts;
      puts_count = among_has P pieces (count_piece d) h.count.0 h.count.1 puts;
      puts = elim h.range [
        | inl none ↦ λ i small. absurd (omega (arith, small, ap length none))
        | inr there ↦ among_has P pieces (range_piece head size write d front middle) there.0 there.1 puts
      ];
      clear_head = λ q low high. not_put pieces q _ (h.alone q low (omega (arith, high))) (omega (
        arith,
        three q,
        between_low (at + 24) (at + 24 + length (i64_bytes (pos d.segment.used))) q high,
        between_low (at + 32) (at + 32 + length (i32_bytes (pos d.count))) q (omega (arith, high)),
        between_low (at + 32 + head + n) (at + 32 + head + n + length w) q (omega (arith, high)),
      ));
      clear_front = λ q low high. not_put pieces q _ (h.alone q (omega (arith, low)) (omega (arith, high, fits))) (omega (
        arith,
        three q,
        between_high (at + 24) (at + 24 + length (i64_bytes (pos d.segment.used))) q (omega (arith, low, eight)),
        between_high (at + 32) (at + 32 + length (i32_bytes (pos d.count))) q (omega (arith, low, some)),
        between_low (at + 32 + head + n) (at + 32 + head + n + length w) q high,
      ));
      clear_back = λ q low high. not_put pieces q _ (h.alone q (omega (arith, low)) high) (omega (
        arith,
        three q,
        between_high (at + 24) (at + 24 + length (i64_bytes (pos d.segment.used))) q (omega (arith, low, eight)),
        between_high (at + 32) (at + 32 + length (i32_bytes (pos d.count))) q (omega (arith, low, some, four)),
        between_high (at + 32 + head + n) (at + 32 + head + n + length w) q (omega (arith, low, long)),
      ));
    }

pub entries_patch : (pieces : List Piece) (d : Directory) (front middle : List Entry) → AllByRecursion IsEntry middle → 128 + total entry_len front + total entry_len middle ≤ d.segment.allocated
    → HasPatch 128 entry_len entry_bytes pieces d front middle → PatchPuts 128 entry_len entry_bytes pieces d front middle
entries_patch pieces d front middle all fits h = patch_puts 128 entry entry_len entry_bytes IsEntry pieces d front middle entry_codec (omega arith) all fits h

pub a1s_patch : (pieces : List Piece) (d : Directory) (front middle : List A1) → AllByRecursion IsA1 middle → 256 + total a1_len front + total a1_len middle ≤ d.segment.allocated
    → HasPatch 256 a1_len a1_bytes pieces d front middle → PatchPuts 256 a1_len a1_bytes pieces d front middle
a1s_patch pieces d front middle all fits h = patch_puts 256 a1 a1_len a1_bytes IsA1 pieces d front middle a1_codec (omega arith) all fits h
