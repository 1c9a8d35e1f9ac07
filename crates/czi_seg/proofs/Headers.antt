-- Headers that are read at any place, and headers that are written field by field.
use Rattle.std.proofs.Common.{◌≡◌, ℕ, List, [], ◌++◌, length, replicate, option_map, Option, Some, None, refl, ap, sym, ◌∙◌, arith, append_assoc, append-nil, length-append}
use Rattle.czi_format.specs.Bytes.{bytes_at, put_at, i32_bytes, i64_bytes, u64_bytes}
use Rattle.czi_format.specs.Segment.{Segment, header_at, header_bytes}
use Rattle.czi_format.specs.Live.{FileHead, file_segment, file_header_bytes}
use Rattle.czi_format.specs.HeaderRules as refusal
use Rattle.czi_format.specs.HeaderRules.{header_rules}
use Rattle.czi_format.proofs.Fields.{put_zeros}
use Rattle.czi_format.proofs.Heads.{header_moved}
use Rattle.czi_format.proofs.HeaderRules.{no_front, part_front}
use Rattle.czi_seg.specs.View.{header_of}
use Rattle.czi_seg.specs.HeaderView.{TellsHeaderRule, SaysOfHeader}
use Rattle.czi_seg.specs.declared.header.SegHeader.{SegHeader}
use Rattle.czi_seg.specs.declared.file_header.HeaderFault.{HeaderFault}
use Rattle.czi_seg.specs.declared.file_header.HeaderFault.TheVariants.{Short, BadId, BadSizes, MultiPart}

placed : (at : ℕ) (r : Option SegHeader) → option_map (λ (s : Segment). record s { at = at }) (option_map (header_of 0) r) ≡ option_map (header_of at) r
placed at None = refl
placed at (Some h) = refl

-- 32 bytes that are read as a header are read so wherever they stand
pub anywhere : (r : Option SegHeader) (bytes : List ℕ) → option_map (header_of 0) r ≡ header_at bytes 0
    → (image : List ℕ) (at : ℕ) → bytes_at image at 32 ≡ bytes → option_map (header_of at) r ≡ header_at image at
anywhere r bytes reads image at is =
    sym (placed at r) ∙ (ap (option_map (λ (s : Segment). record s { at = at })) reads ∙ sym (header_moved image bytes at is))

-- a header, field by field
pub header_written : (id b1 b2 b3 : List ℕ) (allocated used : ℕ) → length id ≡ 16 → b1 ≡ put_at (replicate 32 0) 0 id → b2 ≡ put_at b1 16 (u64_bytes allocated)
    → b3 ≡ put_at b2 24 (u64_bytes used) → b3 ≡ id ++ (u64_bytes allocated ++ u64_bytes used)
header_written id b1 b2 b3 allocated used long e1 e2 e3 =
    let f1 : b1 ≡ id ++ replicate 16 0 = put_zeros [] id (replicate 32 0) b1 0 32 16 refl refl (omega (arith, long)) e1 in
    let f2 : b2 ≡ (id ++ u64_bytes allocated) ++ replicate 8 0 = put_zeros id (u64_bytes allocated) b1 b2 16 16 8 f1 long refl e2 in
    let n2 : length (id ++ u64_bytes allocated) ≡ 24 = length-append id (u64_bytes allocated) ∙ omega (arith, long) in
    let f3 : b3 ≡ ((id ++ u64_bytes allocated) ++ u64_bytes used) ++ [] = put_zeros (id ++ u64_bytes allocated) (u64_bytes used) b2 b3 24 8 0 f2 n2 refl e3 in
    f3 ∙ (append-nil ((id ++ u64_bytes allocated) ++ u64_bytes used) ∙ append_assoc id (u64_bytes allocated) (u64_bytes used))

-- a file header, field by field
pub file_header_written : (h : FileHead) (segment b1 b2 b3 b4 b5 b6 : List ℕ) → length segment ≡ 32 → length h.identity ≡ 52 → segment ≡ header_bytes file_segment
    → b1 ≡ put_at (replicate 544 0) 0 segment → b2 ≡ put_at b1 32 h.identity → b3 ≡ put_at b2 84 (i64_bytes h.directory) → b4 ≡ put_at b3 92 (i64_bytes h.metadata)
    → b5 ≡ put_at b4 100 (i32_bytes h.pending) → b6 ≡ put_at b5 104 (i64_bytes h.attachments) → b6 ≡ file_header_bytes h
file_header_written h segment b1 b2 b3 b4 b5 b6 wide long is e1 e2 e3 e4 e5 e6 =
    let d : List ℕ = i64_bytes h.directory in
    let m : List ℕ = i64_bytes h.metadata in
    let p : List ℕ = i32_bytes h.pending in
    let a : List ℕ = i64_bytes h.attachments in
    let g1 : List ℕ = segment ++ h.identity in
    let g2 : List ℕ = g1 ++ d in
    let g3 : List ℕ = g2 ++ m in
    let g4 : List ℕ = g3 ++ p in
    let n1 : length g1 ≡ 84 = length-append segment h.identity ∙ omega (arith, wide, long) in
    let n2 : length g2 ≡ 92 = length-append g1 d ∙ omega (arith, n1) in
    let n3 : length g3 ≡ 100 = length-append g2 m ∙ omega (arith, n2) in
    let n4 : length g4 ≡ 104 = length-append g3 p ∙ omega (arith, n3) in
    let f1 : b1 ≡ segment ++ replicate 512 0 = put_zeros [] segment (replicate 544 0) b1 0 544 512 refl refl (omega (arith, wide)) e1 in
    let f2 : b2 ≡ g1 ++ replicate 460 0 = put_zeros segment h.identity b1 b2 32 512 460 f1 wide (omega (arith, long)) e2 in
    let f3 : b3 ≡ g2 ++ replicate 452 0 = put_zeros g1 d b2 b3 84 460 452 f2 n1 refl e3 in
    let f4 : b4 ≡ g3 ++ replicate 444 0 = put_zeros g2 m b3 b4 92 452 444 f3 n2 refl e4 in
    let f5 : b5 ≡ g4 ++ replicate 440 0 = put_zeros g3 p b4 b5 100 444 440 f4 n3 refl e5 in
    let f6 : b6 ≡ (g4 ++ a) ++ replicate 432 0 = put_zeros g4 a b5 b6 104 440 432 f5 n4 refl e6 in
    let zeros : List ℕ = replicate 432 0 in
    f6
    ∙ (append_assoc g4 a zeros
    ∙ (append_assoc g3 p (a ++ zeros)
    ∙ (append_assoc g2 m (p ++ (a ++ zeros))
    ∙ (append_assoc g1 d (m ++ (p ++ (a ++ zeros)))
    ∙ (append_assoc segment h.identity (d ++ (m ++ (p ++ (a ++ zeros))))
    ∙ ap (λ l. l ++ (h.identity ++ (d ++ (m ++ (p ++ (a ++ zeros)))))) is)))))

-- what each fault says
pub says : (bytes : List ℕ) (fault : HeaderFault) → TellsHeaderRule bytes fault → SaysOfHeader bytes fault
says bytes Short refuses = no_front bytes refusal.short refuses (λ z e. cc)
says bytes BadId refuses = no_front bytes refusal.bad_id refuses (λ z e. cc)
says bytes BadSizes refuses = no_front bytes refusal.bad_sizes refuses (λ z e. cc)
says bytes (MultiPart part) refuses = part_front bytes part refuses
