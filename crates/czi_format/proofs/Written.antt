-- What is written is read again, whatever follows it.
use Rattle.std.proofs.Common.{◌≡◌, ℕ, suc, ◌+◌, ◌-◌, ◌*◌, ◌≤◌, ◌<◌, ◌^◌, ℤ, pos, List, [], ◌∷◌, ◌++◌, take, drop, length, true, nat_le, Some, Ok, refl, ap, sym, ◌∙◌, arith, subst, codes, append_assoc, length-append}
use Rattle.std.proofs.lemmas.Bool.{le-leb}
use Rattle.std.proofs.lemmas.List.{take-take}
use Rattle.std.proofs.Math.Seq.{drop-append_seam, drop-append-add, take-append_seam}
use Rattle.std.proofs.lemmas.Nat.{from_le_bytes-to_le_bytes_4, from_le_bytes-to_le_bytes_8}
use Rattle.std.proofs.Math.Facts.{Fits-of_z, Fits-lt-pow}
use Rattle.std.proofs.lemmas.Int.{to_z-of_z}
use Rattle.std.specs.Int.{cast_signed, cast_unsigned, from_le_bytes, to_le_bytes, w32, w64}
use Rattle.std.specs.List.{AllByRecursion, flat_map}
use Rattle.std.specs.Prelude.{FitsSigned}
use Rattle.czi_format.specs.Bytes.{bytes_at, byte_at, i32_at, i64_at, i64_bytes}
use Rattle.czi_format.specs.Contents.{entry_count, directory_head}
use Rattle.czi_format.specs.Partial.{natural}
use Rattle.czi_format.specs.FirstFault.{one_after_another}
use Rattle.czi_format.specs.Segment.{Segment, segment_at, header_bytes}
use Rattle.czi_format.proofs.Readings.{stands_segment}
use Rattle.czi_format.proofs.Local.{part_of_part}
use Rattle.czi_format.specs.Entry.{Dim, Entry, dim, dims, entry, entry_len, dim_bytes, entry_bytes, IsDim, IsEntry}

-- the number that four, and eight, written bytes are
pub again_4 : (z : ℤ) → FitsSigned w32 z → cast_signed w32 (from_le_bytes w32 (to_le_bytes w32 (cast_unsigned w32 z))) ≡ z
again_4 z fits = ap (cast_signed w32) (from_le_bytes-to_le_bytes_4 (cast_unsigned w32 z) (Fits-lt-pow (Fits-of_z {w = w32} fits))) ∙ to_z-of_z w32 z fits

pub again_8 : (z : ℤ) → FitsSigned w64 z → cast_signed w64 (from_le_bytes w64 (to_le_bytes w64 (cast_unsigned w64 z))) ≡ z
again_8 z fits = ap (cast_signed w64) (from_le_bytes-to_le_bytes_8 (cast_unsigned w64 z) (Fits-lt-pow (Fits-of_z {w = w64} fits))) ∙ to_z-of_z w64 z fits

dim_cells : (a b c d e f g h : ℕ) (start size stored : ℤ) (rest : List ℕ) → FitsSigned w32 start → FitsSigned w32 size → FitsSigned w32 stored
    → dim (dim_bytes (record { name = a ∷ b ∷ c ∷ d ∷ []; start = start; size = size; coord = e ∷ f ∷ g ∷ h ∷ []; stored = stored }) ++ rest)
    ≡ record { name = a ∷ b ∷ c ∷ d ∷ []; start = start; size = size; coord = e ∷ f ∷ g ∷ h ∷ []; stored = stored }
unfolding dim bytes_at i32_at
dim_cells a b c d e f g h start size stored rest p q r =
    λ i. record { name = a ∷ b ∷ c ∷ d ∷ []; start = again_4 start p i; size = again_4 size q i; coord = e ∷ f ∷ g ∷ h ∷ []; stored = again_4 stored r i }

pub four : (xs : List ℕ) → length xs ≡ 4 → (a : ℕ) × (b : ℕ) × (c : ℕ) × (d : ℕ) × (xs ≡ a ∷ b ∷ c ∷ d ∷ [])
four (a ∷ b ∷ c ∷ d ∷ []) e = (a, b, c, d, refl)
four [] e = absurd (omega arith)
four (a ∷ []) e = absurd (omega arith)
four (a ∷ b ∷ []) e = absurd (omega arith)
four (a ∷ b ∷ c ∷ []) e = absurd (omega arith)
four (a ∷ b ∷ c ∷ d ∷ x ∷ xs) e = absurd (omega arith)

pub dim_again : (d : Dim) (rest : List ℕ) → IsDim d → dim (dim_bytes d ++ rest) ≡ d
dim_again d rest is =
    let n = four d.name is.name in
    let c = four d.coord is.coord in
    let P : List ℕ → List ℕ → Type 0 = λ name coord. dim (dim_bytes (record d { name = name; coord = coord }) ++ rest) ≡ record d { name = name; coord = coord } in
    subst (λ name. P name d.coord) (sym n.4) (subst (λ coord. P (n.0 ∷ n.1 ∷ n.2 ∷ n.3 ∷ []) coord) (sym c.4)
    (dim_cells n.0 n.1 n.2 n.3 c.0 c.1 c.2 c.3 d.start d.size d.stored rest is.start is.size is.stored))

dim_rest : (d : Dim) (rest : List ℕ) → IsDim d → drop 20 (dim_bytes d ++ rest) ≡ rest
dim_rest d rest is =
    let n = four d.name is.name in
    let c = four d.coord is.coord in
    let P : List ℕ → List ℕ → Type 0 = λ name coord. drop 20 (dim_bytes (record d { name = name; coord = coord }) ++ rest) ≡ rest in
    subst (λ name. P name d.coord) (sym n.4) (subst (λ coord. P (n.0 ∷ n.1 ∷ n.2 ∷ n.3 ∷ []) coord) (sym c.4) refl)

pub dims_again : (ds : List Dim) (rest : List ℕ) → AllByRecursion IsDim ds → dims (length ds) (flat_map dim_bytes ds ++ rest) ≡ ds
unfolding dims
dims_again [] rest all = refl
dims_again (d ∷ ds) rest all =
    let more : List ℕ = flat_map dim_bytes ds ++ rest in
    let split : flat_map dim_bytes (d ∷ ds) ++ rest ≡ dim_bytes d ++ more = append_assoc (dim_bytes d) (flat_map dim_bytes ds) rest in
    let first : dim (dim_bytes d ++ more) ≡ d = dim_again d more all.0 in
    let behind : drop 20 (dim_bytes d ++ more) ≡ more = dim_rest d more all.0 in
    let others : dims (length ds) more ≡ ds = dims_again ds rest all.1 in
    ap (dims (suc (length ds))) split ∙ (λ i. first i ∷ (ap (dims (length ds)) behind ∙ others) i)

-- an entry from its fields
pub entry_from : (bytes : List ℕ) (n : ℕ) → i32_at bytes 28 ≡ pos n → i32_at bytes 14 ≡ pos 0 → bytes_at bytes 0 2 ≡ codes "DV"
    → 1 ≤ n → n ≤ 40 → 32 + 20 * n ≤ length bytes
    → entry bytes ≡ Some (record {
      info = record { pixel = i32_at bytes 2; compression = i32_at bytes 18; pyramid = byte_at bytes 22; spare = bytes_at bytes 23 5; dims = dims n (drop 32 bytes) };
      position = i64_at bytes 6;
    })
unfolding entry
entry_from bytes n count part schema some few fits =
    let a : nat_le 1 n ≡ true = le-leb 1 n some in
    let b : nat_le n 40 ≡ true = le-leb n 40 few in
    let c : nat_le (32 + 20 * n) (length bytes) ≡ true = le-leb _ _ fits in
    rw (count, part, schema, a, b, c)

pub length-dims_bytes : (ds : List Dim) → AllByRecursion IsDim ds → length (flat_map dim_bytes ds) ≡ 20 * length ds
length-dims_bytes [] all = refl
length-dims_bytes (d ∷ ds) all =
    let name : length d.name ≡ 4 = all.0.name in
    let coord : length d.coord ≡ 4 = all.0.coord in
    let rest : length (flat_map dim_bytes ds) ≡ 20 * length ds = length-dims_bytes ds all.1 in
    simp length-append (omega arith)

entry_cells : (a b c d e : ℕ) (x : Entry) (rest : List ℕ) → x.info.spare ≡ a ∷ b ∷ c ∷ d ∷ e ∷ [] → IsEntry x → entry (entry_bytes x ++ rest) ≡ Some x
unfolding bytes_at byte_at i32_at i64_at
entry_cells a b c d e x rest spare is =
    let ds : List Dim = x.info.dims in
    let cells : Entry = record x { info = record x.info { spare = a ∷ b ∷ c ∷ d ∷ e ∷ [] } } in
    let bytes : List ℕ = entry_bytes cells ++ rest in
    let count : FitsSigned w32 (pos (length ds)) = record { sfits = omega (arith, is.info.few) } in
    let long : length (flat_map dim_bytes ds) ≡ 20 * length ds = length-dims_bytes ds is.info.dims in
    let found = entry_from bytes (length ds) (again_4 (pos (length ds)) count) refl refl is.info.some is.info.few (omega (arith, long, length-append (flat_map dim_bytes ds) rest)) in
    let pixel : i32_at bytes 2 ≡ x.info.pixel = again_4 x.info.pixel is.info.pixel in
    let position : i64_at bytes 6 ≡ x.position = again_8 x.position is.position in
    let compression : i32_at bytes 18 ≡ x.info.compression = again_4 x.info.compression is.info.compression in
    let records : dims (length ds) (drop 32 bytes) ≡ ds = dims_again ds rest is.info.dims in
    let whole : entry bytes ≡ Some x =
    found ∙ (λ i. Some (record {
      info = record { pixel = pixel i; compression = compression i; pyramid = x.info.pyramid; spare = sym spare i; dims = records i };
      position = position i;
    })) in
    subst (λ z. entry (entry_bytes (record x { info = record x.info { spare = z } }) ++ rest) ≡ Some x) (sym spare) whole

pub five : (xs : List ℕ) → length xs ≡ 5 → (a : ℕ) × (b : ℕ) × (c : ℕ) × (d : ℕ) × (e : ℕ) × (xs ≡ a ∷ b ∷ c ∷ d ∷ e ∷ [])
five (a ∷ b ∷ c ∷ d ∷ e ∷ []) h = (a, b, c, d, e, refl)
five [] h = absurd (omega arith)
five (a ∷ []) h = absurd (omega arith)
five (a ∷ b ∷ []) h = absurd (omega arith)
five (a ∷ b ∷ c ∷ []) h = absurd (omega arith)
five (a ∷ b ∷ c ∷ d ∷ []) h = absurd (omega arith)
five (a ∷ b ∷ c ∷ d ∷ e ∷ x ∷ xs) h = absurd (omega arith)

-- a written entry is read again, whatever follows it
pub entry_again : (x : Entry) (rest : List ℕ) → IsEntry x → entry (entry_bytes x ++ rest) ≡ Some x
entry_again x rest is =
    let s = five x.info.spare is.info.spare in
    entry_cells s.0 s.1 s.2 s.3 s.4 x rest s.5 is

pub length-entry_bytes : (x : Entry) → IsEntry x → length (entry_bytes x) ≡ entry_len x
length-entry_bytes x is =
    let long : length (flat_map dim_bytes x.info.dims) ≡ 20 * length x.info.dims = length-dims_bytes x.info.dims is.info.dims in
    let spare : length x.info.spare ≡ 5 = is.info.spare in
    simp length-append (omega arith)

pub drop_front : (a b : List ℕ) (n : ℕ) → length a ≡ n → drop n (a ++ b) ≡ b
drop_front a b n long = ap (λ k. drop k (a ++ b)) (sym long) ∙ drop-append_seam a b

-- written entries are read again, whatever follows them
pub entries_again : {E : Type 0} (fault : ℕ → E) (xs : List Entry) (at : ℕ) (rest : List ℕ) → AllByRecursion IsEntry xs
    → one_after_another entry entry_len fault (length xs) at (flat_map entry_bytes xs ++ rest) ≡ Ok xs
entries_again fault [] at rest all = refl
entries_again {E} fault (x ∷ xs) at rest all =
    let more : List ℕ = flat_map entry_bytes xs ++ rest in
    let split : flat_map entry_bytes (x ∷ xs) ++ rest ≡ entry_bytes x ++ more = append_assoc (entry_bytes x) (flat_map entry_bytes xs) rest in
    let first : entry (entry_bytes x ++ more) ≡ Some x = entry_again x more all.0 in
    let behind : drop (entry_len x) (entry_bytes x ++ more) ≡ more = drop_front (entry_bytes x) more (entry_len x) (length-entry_bytes x all.0) in
    let others : one_after_another entry entry_len fault (length xs) (at + entry_len x) more ≡ Ok xs = entries_again fault xs (at + entry_len x) rest all.1 in
    ap (one_after_another entry entry_len fault (suc (length xs)) at) split ∙ rw (first, behind, others)

-- what is behind a front
pub later : (a b : List ℕ) (k n m : ℕ) → length a ≡ m → bytes_at (a ++ b) (m + k) n ≡ bytes_at b k n
unfolding bytes_at
later a b k n m long = ap (take n) (ap (λ z. drop (z + k) (a ++ b)) (sym long) ∙ drop-append-add a b k)

i64_of_bytes : (bytes : List ℕ) (at : ℕ) (z : ℤ) → FitsSigned w64 z → bytes_at bytes at 8 ≡ i64_bytes z → i64_at bytes at ≡ z
unfolding i64_at
i64_of_bytes bytes at z fits is = ap (λ s. cast_signed w64 (from_le_bytes w64 s)) is ∙ again_8 z fits

whole_8 : (z y : ℤ) → (bytes_at (i64_bytes z ++ i64_bytes y) 0 8 ≡ i64_bytes z) × (bytes_at (i64_bytes z ++ i64_bytes y) 8 8 ≡ i64_bytes y)
unfolding bytes_at
whole_8 z y = (refl, refl)

same_id : (image : List ℕ) (s : Segment) → length s.id ≡ 16 → bytes_at image s.at 32 ≡ header_bytes s → bytes_at image s.at 16 ≡ s.id
unfolding bytes_at
same_id image s long written =
    let sizes : List ℕ = i64_bytes (pos s.allocated) ++ i64_bytes (pos s.used) in
    sym (take-take 16 32 (drop s.at image) (omega arith)) ∙ (ap (take 16) written ∙ (ap (λ k. take k (s.id ++ sizes)) (sym long) ∙ take-append_seam s.id sizes))

-- a written header stands where its extent lies in the image
pub header_again : (image : List ℕ) (s : Segment) → length s.id ≡ 16 → s.allocated < 2 ^ 63 → s.used < 2 ^ 63 → s.at + 32 + s.allocated ≤ length image
    → bytes_at image s.at 32 ≡ header_bytes s → segment_at image s.at ≡ Some s
header_again image s long allocated used inside written =
    let sizes : List ℕ = i64_bytes (pos s.allocated) ++ i64_bytes (pos s.used) in
    let first : bytes_at image (s.at + 16) 8 ≡ i64_bytes (pos s.allocated) =
    sym (part_of_part image s.at 32 16 8 (omega arith)) ∙ (ap (λ b. bytes_at b 16 8) written ∙ (later s.id sizes 0 8 16 long ∙ (whole_8 (pos s.allocated) (pos s.used)).0)) in
    let second : bytes_at image (s.at + 24) 8 ≡ i64_bytes (pos s.used) =
    sym (part_of_part image s.at 32 24 8 (omega arith)) ∙ (ap (λ b. bytes_at b 24 8) written ∙ (later s.id sizes 8 8 16 long ∙ (whole_8 (pos s.allocated) (pos s.used)).1)) in
    stands_segment image s (record {
      place = refl;
      id = sym (same_id image s long written);
      allocated = i64_of_bytes image (s.at + 16) (pos s.allocated) (record { sfits = omega arith }) first;
      used = i64_of_bytes image (s.at + 24) (pos s.used) (record { sfits = omega arith }) second;
      inside = inside;
    })

-- a written number of entries is read again
pub count_again : (n : ℕ) (rest : List ℕ) → n ≤ 2 ^ 31 - 1 → entry_count (directory_head n ++ rest) ≡ Some n
unfolding entry_count i32_at bytes_at
count_again n rest small = ap natural (again_4 (pos n) (record { sfits = omega arith }))
