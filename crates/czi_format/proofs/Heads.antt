-- A written file header and a written A1 entry are read again, whatever follows them.
use Rattle.std.proofs.Common.{◌≡◌, ℕ, ◌+◌, ◌<◌, ◌^◌, pos, List, [], ◌++◌, length, replicate, codes, true, nat_le, option_map, Option, Some, None, Ok, refl, ap, sym, ◌∙◌, arith, bytes_eq, append_assoc, length-append}
use Rattle.std.proofs.lemmas.Bool.{le-leb}
use Rattle.czi_format.specs.Bytes.{bytes_at, i32_at, i64_at, i32_bytes, i64_bytes}
use Rattle.czi_format.specs.Partial.{◌>>=◌, natural}
use Rattle.czi_format.specs.Segment.{Segment, header_at, header_bytes, file_id}
use Rattle.czi_format.specs.Entry.{A1, IsA1, a1, a1_bytes}
use Rattle.czi_format.specs.Live.{FileHead, IsFileHead, has_header_sizes, header_with, front_head, file_segment, file_header_bytes}
use Rattle.czi_format.specs.HeaderRules.{header_rules}
use Rattle.czi_format.proofs.Fields.{field_at, i32_field, i64_field}
use Rattle.czi_format.proofs.HeaderRules.{front_passes}
use Rattle.czi_format.proofs.Local.{Fronts, part_of_part}
use Rattle.czi_format.proofs.Written.{again_8}

-- the header of the segment, at the front
segment_front : (more : List ℕ) → header_at (header_bytes file_segment ++ more) 0 ≡ Some file_segment
unfolding header_at i64_at bytes_at file_id
segment_front more = refl

long_head : length (header_bytes file_segment) ≡ 32
unfolding file_id
long_head = refl

is_file : (bytes_eq file_id file_id ≡ true) × (has_header_sizes file_segment ≡ true)
unfolding file_id
is_file = (refl, refl)

splits : (h : FileHead) (rest : List ℕ) → file_header_bytes h ++ rest ≡ header_bytes file_segment ++ (h.identity ++ (i64_bytes h.directory ++ (i64_bytes h.metadata ++ (i32_bytes h.pending ++ (i64_bytes h.attachments ++ (replicate 432 0 ++ rest))))))
splits h rest = simp append_assoc

pub head_front : (h : FileHead) (rest : List ℕ) → IsFileHead h → front_head (file_header_bytes h ++ rest) ≡ h
head_front h rest is =
    let bytes : List ℕ = file_header_bytes h ++ rest in
    let f0 : List ℕ = header_bytes file_segment in
    let f1 : List ℕ = f0 ++ h.identity in
    let f2 : List ℕ = f1 ++ i64_bytes h.directory in
    let f3 : List ℕ = f2 ++ i64_bytes h.metadata in
    let f4 : List ℕ = f3 ++ i32_bytes h.pending in
    let zeros : List ℕ = replicate 432 0 ++ rest in
    let r4 : List ℕ = i64_bytes h.attachments ++ zeros in
    let r3 : List ℕ = i32_bytes h.pending ++ r4 in
    let r2 : List ℕ = i64_bytes h.metadata ++ r3 in
    let r1 : List ℕ = i64_bytes h.directory ++ r2 in
    let s0 : bytes ≡ f0 ++ (h.identity ++ r1) = splits h rest in
    let s1 : bytes ≡ f1 ++ r1 = s0 ∙ sym (append_assoc f0 h.identity r1) in
    let s2 : bytes ≡ f2 ++ r2 = s1 ∙ sym (append_assoc f1 (i64_bytes h.directory) r2) in
    let s3 : bytes ≡ f3 ++ r3 = s2 ∙ sym (append_assoc f2 (i64_bytes h.metadata) r3) in
    let s4 : bytes ≡ f4 ++ r4 = s3 ∙ sym (append_assoc f3 (i32_bytes h.pending) r4) in
    let n0 : length f0 ≡ 32 = long_head in
    let n1 : length f1 ≡ 84 = length-append f0 h.identity ∙ omega (arith, n0, is.identity) in
    let n2 : length f2 ≡ 92 = length-append f1 (i64_bytes h.directory) ∙ omega (arith, n1) in
    let n3 : length f3 ≡ 100 = length-append f2 (i64_bytes h.metadata) ∙ omega (arith, n2) in
    let n4 : length f4 ≡ 104 = length-append f3 (i32_bytes h.pending) ∙ omega (arith, n3) in
    λ i. record {
      identity = (ap (λ l. bytes_at l 32 52) s0 ∙ field_at f0 h.identity r1 32 52 n0 is.identity) i;
      directory = (ap (λ l. i64_at l 84) s1 ∙ i64_field f1 r2 h.directory 84 n1 is.directory) i;
      metadata = (ap (λ l. i64_at l 92) s2 ∙ i64_field f2 r3 h.metadata 92 n2 is.metadata) i;
      pending = (ap (λ l. i32_at l 100) s3 ∙ i32_field f3 r4 h.pending 100 n3 is.pending) i;
      attachments = (ap (λ l. i64_at l 104) s4 ∙ i64_field f4 zeros h.attachments 104 n4 is.attachments) i;
    }

length-file_header : (h : FileHead) → IsFileHead h → length (file_header_bytes h) ≡ 544
length-file_header h is =
    let tail : List ℕ = i64_bytes h.directory ++ (i64_bytes h.metadata ++ (i32_bytes h.pending ++ (i64_bytes h.attachments ++ replicate 432 0))) in
    let size : length tail ≡ 460 = refl in
    length-append (header_bytes file_segment) (h.identity ++ tail)
    ∙ (ap (λ n. n + length (h.identity ++ tail)) long_head
    ∙ ap (λ n. 32 + n) (length-append h.identity tail ∙ (ap (λ n. n + length tail) is.identity ∙ ap (λ n. 52 + n) size)))

i32_of : (bytes identity : List ℕ) → bytes_at bytes 80 4 ≡ bytes_at identity 48 4 → i32_at bytes 80 ≡ i32_at identity 48
unfolding i32_at
i32_of bytes identity same = cc

-- a written file header is read again, whatever follows it
pub header_again : (h : FileHead) (rest : List ℕ) → IsFileHead h → header_rules (file_header_bytes h ++ rest) ≡ Ok (header_with h)
header_again h rest is =
    let bytes : List ℕ = file_header_bytes h ++ rest in
    let head : front_head bytes ≡ h = head_front h rest is in
    let identity : bytes_at bytes 32 52 ≡ h.identity = ap (λ (z : FileHead). z.identity) head in
    let part : i32_at bytes 80 ≡ pos 0 =
    i32_of bytes h.identity (sym (part_of_part bytes 32 52 48 4 (omega arith)) ∙ ap (λ l. bytes_at l 48 4) identity) ∙ is.part in
    let fronts : Fronts bytes (header_with h) = record {
      header = ap (λ l. header_at l 0) (splits h rest) ∙ segment_front _;
      long = omega (arith, length-append (file_header_bytes h) rest, length-file_header h is);
      id = is_file.0;
      sizes = is_file.1;
      fields = λ i. record {
        segment = file_segment;
        identity = identity i;
        part = part i;
        directory = (head i).directory;
        metadata = (head i).metadata;
        attachments = (head i).attachments;
      };
    } in
    front_passes bytes (header_with h) fronts

-- the fields of an A1 entry
a1_position : (a : A1) (rest : List ℕ) → IsA1 a → i64_at (a1_bytes a ++ rest) 12 ≡ a.position
unfolding i64_at bytes_at
a1_position a rest is = again_8 a.position is.position

a1_schema : (a : A1) (rest : List ℕ) → bytes_eq (bytes_at (a1_bytes a ++ rest) 0 2) (codes "A1") ≡ true
unfolding bytes_at
a1_schema a rest = refl

pub length-a1_bytes : (a : A1) → IsA1 a → length (a1_bytes a) ≡ 128
length-a1_bytes a is =
    let guid : length a.info.guid ≡ 16 = is.info.guid in
    let kind : length a.info.kind ≡ 8 = is.info.kind in
    let name : length a.info.name ≡ 80 = is.info.name in
    simp length-append (omega arith)

a1_found : (bytes : List ℕ) → bytes_eq (bytes_at bytes 0 2) (codes "A1") ≡ true → nat_le 128 (length bytes) ≡ true
    → a1 bytes ≡ Some (record { info = record { guid = bytes_at bytes 24 16; kind = bytes_at bytes 40 8; name = bytes_at bytes 48 80 }; position = i64_at bytes 12 })
unfolding a1
a1_found bytes schema long = rw (schema, long)

-- a written A1 entry is read again, whatever follows it
pub a1_again : (a : A1) (rest : List ℕ) → IsA1 a → a1 (a1_bytes a ++ rest) ≡ Some a
a1_again a rest is =
    let bytes : List ℕ = a1_bytes a ++ rest in
    let f0 : List ℕ = codes "A1" ++ (replicate 10 0 ++ (i64_bytes a.position ++ replicate 4 0)) in
    let f1 : List ℕ = f0 ++ a.info.guid in
    let f2 : List ℕ = f1 ++ a.info.kind in
    let s0 : bytes ≡ f0 ++ (a.info.guid ++ (a.info.kind ++ (a.info.name ++ rest))) = simp append_assoc in
    let s1 : bytes ≡ f1 ++ (a.info.kind ++ (a.info.name ++ rest)) = s0 ∙ sym (append_assoc f0 a.info.guid (a.info.kind ++ (a.info.name ++ rest))) in
    let s2 : bytes ≡ f2 ++ (a.info.name ++ rest) = s1 ∙ sym (append_assoc f1 a.info.kind (a.info.name ++ rest)) in
    let n1 : length f1 ≡ 40 = length-append f0 a.info.guid ∙ omega (arith, is.info.guid) in
    let n2 : length f2 ≡ 48 = length-append f1 a.info.kind ∙ omega (arith, n1, is.info.kind) in
    let guid : bytes_at bytes 24 16 ≡ a.info.guid = ap (λ l. bytes_at l 24 16) s0 ∙ field_at f0 a.info.guid (a.info.kind ++ (a.info.name ++ rest)) 24 16 refl is.info.guid in
    let kind : bytes_at bytes 40 8 ≡ a.info.kind = ap (λ l. bytes_at l 40 8) s1 ∙ field_at f1 a.info.kind (a.info.name ++ rest) 40 8 n1 is.info.kind in
    let name : bytes_at bytes 48 80 ≡ a.info.name = ap (λ l. bytes_at l 48 80) s2 ∙ field_at f2 a.info.name rest 48 80 n2 is.info.name in
    let place : i64_at bytes 12 ≡ a.position = a1_position a rest is in
    let long : nat_le 128 (length bytes) ≡ true = le-leb _ _ (omega (arith, length-append (a1_bytes a) rest, length-a1_bytes a is)) in
    let found : a1 bytes ≡ Some (record { info = record { guid = bytes_at bytes 24 16; kind = bytes_at bytes 40 8; name = bytes_at bytes 48 80 }; position = i64_at bytes 12 }) = a1_found bytes (a1_schema a rest) long in
    found ∙ (λ i. Some (record { info = record { guid = guid i; kind = kind i; name = name i }; position = place i }))

sizes_of : (bytes id : List ℕ) (allocated used : ℕ) → i64_at bytes 16 ≡ pos allocated → i64_at bytes 24 ≡ pos used → bytes_at bytes 0 16 ≡ id
    → header_at bytes 0 ≡ Some (record { at = 0; id = id; allocated = allocated; used = used })
unfolding header_at
sizes_of bytes id allocated used first second same = rw (first, second, same)

-- a written header of a segment is read again, whatever follows it
pub segment_again : (id : List ℕ) (allocated used : ℕ) (rest : List ℕ) → length id ≡ 16 → allocated < 2 ^ 63 → used < 2 ^ 63
    → header_at (header_bytes (record { at = 0; id = id; allocated = allocated; used = used }) ++ rest) 0 ≡ Some (record { at = 0; id = id; allocated = allocated; used = used })
segment_again id allocated used rest long small_allocated small_used =
    let bytes : List ℕ = header_bytes (record { at = 0; id = id; allocated = allocated; used = used }) ++ rest in
    let a : List ℕ = i64_bytes (pos allocated) in
    let u : List ℕ = i64_bytes (pos used) in
    let s0 : bytes ≡ id ++ (a ++ (u ++ rest)) = append_assoc id (a ++ u) rest ∙ ap (λ l. id ++ l) (append_assoc a u rest) in
    let s1 : bytes ≡ (id ++ a) ++ (u ++ rest) = s0 ∙ sym (append_assoc id a (u ++ rest)) in
    let n1 : length (id ++ a) ≡ 24 = length-append id a ∙ omega (arith, long) in
    sizes_of bytes id allocated used
    (ap (λ l. i64_at l 16) s0 ∙ i64_field id (u ++ rest) (pos allocated) 16 long (record { sfits = omega arith }))
    (ap (λ l. i64_at l 24) s1 ∙ i64_field (id ++ a) rest (pos used) 24 n1 (record { sfits = omega arith }))
    (ap (λ l. bytes_at l 0 16) s0 ∙ field_at [] id (a ++ (u ++ rest)) 0 16 refl long)

i64_of : (a b : List ℕ) (p q : ℕ) → bytes_at a p 8 ≡ bytes_at b q 8 → i64_at a p ≡ i64_at b q
unfolding i64_at
i64_of a b p q same = cc

moved : (at : ℕ) (id : List ℕ) (a u : Option ℕ)
    → (a >>= λ allocated. u >>= λ used. Some (let s : Segment = record { at = at; id = id; allocated = allocated; used = used } in s))
    ≡ option_map (λ (s : Segment). record s { at = at }) (a >>= λ allocated. u >>= λ used. Some (let s : Segment = record { at = 0; id = id; allocated = allocated; used = used } in s))
moved at id None u = refl
moved at id (Some a) None = refl
moved at id (Some a) (Some u) = refl

-- the header at a place is that of its 32 bytes
pub header_moved : (image bytes : List ℕ) (at : ℕ) → bytes_at image at 32 ≡ bytes → header_at image at ≡ option_map (λ (s : Segment). record s { at = at }) (header_at bytes 0)
unfolding header_at
header_moved image bytes at is =
    let id : bytes_at image at 16 ≡ bytes_at bytes 0 16 =
    ap (λ k. bytes_at image k 16) (let e : at ≡ at + 0 = omega arith in e) ∙ (sym (part_of_part image at 32 0 16 (omega arith)) ∙ ap (λ l. bytes_at l 0 16) is) in
    let first : i64_at image (at + 16) ≡ i64_at bytes 16 = i64_of image bytes (at + 16) 16 (sym (part_of_part image at 32 16 8 (omega arith)) ∙ ap (λ l. bytes_at l 16 8) is) in
    let second : i64_at image (at + 24) ≡ i64_at bytes 24 = i64_of image bytes (at + 24) 24 (sym (part_of_part image at 32 24 8 (omega arith)) ∙ ap (λ l. bytes_at l 24 8) is) in
    (λ i. natural (first i) >>= λ allocated. natural (second i) >>= λ used. Some (let s : Segment = record { at = at; id = id i; allocated = allocated; used = used } in s))
    ∙ moved at (bytes_at bytes 0 16) (natural (i64_at bytes 16)) (natural (i64_at bytes 24))
