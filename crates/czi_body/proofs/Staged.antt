-- Staged data: how long it is, parts that were put one behind another, and the format's words for it.
use Rattle.std.proofs.Common.{◌≡◌, ℕ, ◌+◌, ◌-◌, ◌*◌, pos, max, List, ◌++◌, length, replicate, ap, sym, ◌∙◌, arith, append_assoc, length-append}
use Rattle.czi_format.specs.Bytes.{i32_bytes, i64_bytes}
use Rattle.czi_format.specs.Data.{metadata_data, subblock_data}
use Rattle.czi_format.specs.Document.{Subblock, Metadata}
use Rattle.czi_format.specs.Entry.{Entry, EntryInfo, info_len}
use Rattle.czi_num.proofs.Padding.{zeros, length-zeros}
use Rattle.czi_region.proofs.Whole.{put_behind}
use Rattle.czi_body.specs.Staged.{AreParts, sub_data, sub_front, sub_length, meta_length}

pub length-sub_front : (entry : List ℕ) (meta pixels tail : ℕ) → length (sub_front entry meta pixels tail) ≡ max 256 (16 + length entry)
unfolding zeros
length-sub_front entry meta pixels tail =
    omega (arith, length-append entry (zeros (256 - (16 + length entry))), length-zeros (256 - (16 + length entry)))

pub length-sub_data : (entry meta pixels tail : List ℕ) (padding : ℕ)
    → length (sub_data entry meta pixels tail padding) ≡ sub_length (length entry) (length meta) (length pixels) (length tail) + padding
unfolding zeros
length-sub_data entry meta pixels tail padding =
    let contents : List ℕ = meta ++ (pixels ++ (tail ++ zeros padding)) in
    omega (
      arith,
      length-append (sub_front entry (length meta) (length pixels) (length tail)) contents,
      length-sub_front entry (length meta) (length pixels) (length tail),
      length-append meta (pixels ++ (tail ++ zeros padding)),
      length-append pixels (tail ++ zeros padding),
      length-append tail (zeros padding),
      length-zeros padding,
    )

-- the front, put
pub front_put : (old entry sizes x y z : List ℕ) (meta pixels tail filling : ℕ) → sizes ≡ i32_bytes (pos meta) ++ (i32_bytes (pos tail) ++ i64_bytes (pos pixels))
    → filling ≡ 256 - (16 + length entry) → x ≡ old ++ sizes → y ≡ x ++ entry → z ≡ y ++ replicate filling 0 → z ≡ old ++ sub_front entry meta pixels tail
front_put old entry sizes x y z meta pixels tail filling are fills first second third =
    put_behind old (sizes ++ entry) (replicate filling 0) y z (put_behind old sizes entry x y first second) third
    ∙ ap (λ l. old ++ l) (append_assoc sizes entry (replicate filling 0) ∙ (λ i. are i ++ (entry ++ replicate (fills i) 0)))

-- the contents and their padding, put behind it
pub data_put : (old entry meta pixels tail x y z : List ℕ) (n padding : ℕ) → n ≡ padding → x ≡ old ++ sub_front entry (length meta) (length pixels) (length tail) → y ≡ x ++ (meta ++ (pixels ++ tail))
    → z ≡ y ++ replicate n 0 → z ≡ old ++ sub_data entry meta pixels tail padding
data_put old entry meta pixels tail x y z n padding fills first second third =
    let front : List ℕ = sub_front entry (length meta) (length pixels) (length tail) in
    let contents : List ℕ = meta ++ (pixels ++ tail) in
    let filling : List ℕ = replicate padding 0 in
    put_behind old (front ++ contents) filling y z (put_behind old front contents x y first second) (third ∙ ap (λ k. y ++ replicate k 0) fills)
    ∙ ap (λ l. old ++ l)
    (append_assoc front contents filling
    ∙ ap (λ l. front ++ l) (append_assoc meta (pixels ++ tail) filling ∙ ap (λ l. meta ++ l) (append_assoc pixels tail filling)))

-- what is staged for an entry and a subblock is the format's data of them
pub parts_data : (e : Entry) (s : Subblock) (entry meta pixels tail : List ℕ) (padding : ℕ) → AreParts e s entry meta pixels tail → sub_data entry meta pixels tail padding ≡ subblock_data e s padding
parts_data e s entry meta pixels tail padding are =
    let filling : 256 - (16 + length entry) ≡ 256 - (16 + 32 + 20 * length e.info.dims) = omega (arith, are.long) in
    let front : List ℕ → List ℕ → List ℕ → List ℕ = λ m t p. i32_bytes (pos (length m)) ++ (i32_bytes (pos (length t)) ++ i64_bytes (pos (length p))) in
    ap (λ l. front meta tail pixels ++ l) (append_assoc entry (replicate (256 - (16 + length entry)) 0) (meta ++ (pixels ++ (tail ++ replicate padding 0))))
    ∙ (λ i. front (are.meta_is i) (are.tail_is i) (are.pixels_is i)
    ++ (are.entry_is i ++ (replicate (filling i) 0 ++ (are.meta_is i ++ (are.pixels_is i ++ (are.tail_is i ++ replicate padding 0))))))

-- how long that is without padding
pub length-subblock_data : (e : Entry) (s : Subblock) (entry meta pixels tail : List ℕ) → AreParts e s entry meta pixels tail
    → length (subblock_data e s 0) ≡ sub_length (length entry) (length meta) (length pixels) (length tail)
length-subblock_data e s entry meta pixels tail are =
    ap length (sym (parts_data e s entry meta pixels tail 0 are)) ∙ (length-sub_data entry meta pixels tail 0 ∙ omega arith)

-- the same from what an entry says, as new extents are measured
pub sub_length-info : (info : EntryInfo) (meta pixels tail : ℕ) → sub_length (info_len info) meta pixels tail ≡ max 256 (16 + 32 + 20 * length info.dims) + meta + pixels + tail
sub_length-info info meta pixels tail = omega arith

-- the metadata
pub length-metadata_data : (m : Metadata) (padding : ℕ) → length (metadata_data m padding) ≡ meta_length (length m.xml) (length m.tail) + padding
unfolding zeros
length-metadata_data m padding =
    omega (arith, length-append m.xml (m.tail ++ zeros padding), length-append m.tail (zeros padding), length-zeros padding)

pub metadata_put : (old front x y z last : List ℕ) (m : Metadata) (n padding : ℕ) → n ≡ padding → front ≡ i32_bytes (pos (length m.xml)) ++ (i32_bytes (pos (length m.tail)) ++ replicate 248 0)
    → x ≡ old ++ front → y ≡ x ++ m.xml → z ≡ y ++ m.tail → last ≡ z ++ replicate n 0 → last ≡ old ++ metadata_data m padding
metadata_put old front x y z last m n padding fills is first second third fourth =
    put_behind old ((front ++ m.xml) ++ m.tail) (replicate padding 0) z last (put_behind old (front ++ m.xml) m.tail y z (put_behind old front m.xml x y first second) third)
    (fourth ∙ ap (λ k. z ++ replicate k 0) fills)
    ∙ ap (λ l. old ++ l)
    (append_assoc (front ++ m.xml) m.tail (replicate padding 0)
    ∙ (append_assoc front m.xml (m.tail ++ replicate padding 0) ∙ ap (λ l. l ++ (m.xml ++ (m.tail ++ replicate padding 0))) is))
