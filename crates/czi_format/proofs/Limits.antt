-- What an image shows has the limits of a document: what was read can be written.
use Rattle.std.proofs.Common.{◌≡◌, ℕ, zero, suc, ◌+◌, ◌*◌, ◌≤◌, ◌<◌, ◌^◌, List, [], ◌∷◌, map, take, drop, length, get_or, nat_le, Option, Some, None, Ok, refl, ap, sym, arith, subst, codes, bytes_eq, ◌&&◌, ◌==◌}
use Rattle.std.proofs.lemmas.Bool.{leb-true}
use Rattle.std.proofs.lemmas.List.{get_or-drop, length-take, length-drop}
use Rattle.std.proofs.Math.Facts.{sfits_to_z}
use Rattle.std.specs.Int.{from_le_bytes, w32, w64}
use Rattle.std.specs.List.{AllByRecursion}
use Rattle.std.specs.Prelude.{FitsSigned}
use Rattle.czi_format.specs.Bytes.{IsBytes, bytes_at, byte_at, i32_at, i64_at}
use Rattle.std.specs.Option.{ok_or}
use Rattle.czi_format.specs.Partial.{natural}
use Rattle.czi_format.specs.FirstFault.{one_after_another}
use Rattle.czi_format.specs.Segment.{data_of}
use Rattle.czi_format.specs.Document.{Document, Subblock, Attachment, IsDocument}
use Rattle.czi_format.specs.Live.{FileHeader, file_header, Directory, Tile, AttItem, subblock_of, attachment_of}
use Rattle.czi_format.specs.Shows.{Shows, entries, a1_entries, count_of}
use Rattle.czi_format.proofs.Readings.{bind_some, given_some, both_true}
use Rattle.czi_format.proofs.Rules.{on_ok, ok_or_ok}
use Rattle.czi_format.proofs.Local.{header_fronts}
use Rattle.czi_format.specs.Entry.{Entry, A1, dim, dims, entry, entry_len, a1_len, IsDim, IsEntryInfo, IsEntry, IsAttInfo, a1}

-- past the end of a list stands 0
beyond : (xs : List ℕ) (i : ℕ) → length xs ≤ i → get_or xs i 0 ≡ 0
beyond [] i h = refl
beyond (x ∷ xs) zero h = absurd (omega arith)
beyond (x ∷ xs) (suc i) h = beyond xs i (omega arith)

pub drop_bytes : (bytes : List ℕ) (n : ℕ) → IsBytes bytes → IsBytes (drop n bytes)
drop_bytes bytes n is i = rw (get_or-drop n bytes i 0) (is (n + i))

take_bytes : (n : ℕ) (bytes : List ℕ) → IsBytes bytes → IsBytes (take n bytes)
take_bytes zero bytes is i = omega arith
take_bytes (suc n) [] is i = omega arith
take_bytes (suc n) (b ∷ bytes) is zero = is 0
take_bytes (suc n) (b ∷ bytes) is (suc i) = take_bytes n bytes (λ k. is (suc k)) i

pub part_bytes : (bytes : List ℕ) (at n : ℕ) → IsBytes bytes → IsBytes (bytes_at bytes at n)
unfolding bytes_at
part_bytes bytes at n is = take_bytes n (drop at bytes) (drop_bytes bytes at is)

below_4 : (bytes : List ℕ) → IsBytes bytes → from_le_bytes w32 bytes < 2 ^ 32
below_4 bytes is = omega (arith, is 0, is 1, is 2, is 3)

below_8 : (bytes : List ℕ) → IsBytes bytes → from_le_bytes w64 bytes < 2 ^ 64
below_8 bytes is = omega (arith, is 0, is 1, is 2, is 3, is 4, is 5, is 6, is 7)

i32_fits : (bytes : List ℕ) (at : ℕ) → IsBytes bytes → FitsSigned w32 (i32_at bytes at)
unfolding i32_at
i32_fits bytes at is = sfits_to_z {w = w32} (record { fits = below_4 (bytes_at bytes at 4) (part_bytes bytes at 4 is) })

i64_fits : (bytes : List ℕ) (at : ℕ) → IsBytes bytes → FitsSigned w64 (i64_at bytes at)
unfolding i64_at
i64_fits bytes at is = sfits_to_z {w = w64} (record { fits = below_8 (bytes_at bytes at 8) (part_bytes bytes at 8 is) })

pub length-bytes_at : (bytes : List ℕ) (at n : ℕ) → at + n ≤ length bytes → length (bytes_at bytes at n) ≡ n
unfolding bytes_at
length-bytes_at bytes at n inside = omega (arith, length-take n (drop at bytes), length-drop at bytes)

dim_is : (bytes : List ℕ) → IsBytes bytes → 20 ≤ length bytes → IsDim (dim bytes)
unfolding dim
dim_is bytes is long = record {
  name = length-bytes_at bytes 0 4 (omega arith);
  name_bytes = part_bytes bytes 0 4 is;
  start = i32_fits bytes 4 is;
  size = i32_fits bytes 8 is;
  coord = length-bytes_at bytes 12 4 (omega arith);
  coord_bytes = part_bytes bytes 12 4 is;
  stored = i32_fits bytes 16 is;
}

dims_are : (n : ℕ) (bytes : List ℕ) → IsBytes bytes → 20 * n ≤ length bytes → AllByRecursion IsDim (dims n bytes) × (length (dims n bytes) ≡ n)
unfolding dims
dims_are zero bytes is long = (tt, refl)
dims_are (suc n) bytes is long =
    let rest = dims_are n (drop 20 bytes) (drop_bytes bytes 20 is) (omega (arith, length-drop 20 bytes)) in
    ((dim_is bytes is (omega arith), rest.0), ap suc rest.1)

pub entry_is : (bytes : List ℕ) (e : Entry) → IsBytes bytes → entry bytes ≡ Some e → IsEntry e
unfolding entry byte_at
entry_is bytes e is found =
    let c = bind_some (natural (i32_at bytes 28)) _ e found in
    let p = bind_some (natural (i32_at bytes 14)) _ e c.2 in
    let g = given_some _ _ e p.2 in
    let t1 = both_true (bytes_eq (bytes_at bytes 0 2) (codes "DV") && (p.0 == 0) && nat_le 1 c.0 && nat_le c.0 40) (nat_le (32 + 20 * c.0) (length bytes)) g.0 in
    let t2 = both_true (bytes_eq (bytes_at bytes 0 2) (codes "DV") && (p.0 == 0) && nat_le 1 c.0) (nat_le c.0 40) t1.0 in
    let t3 = both_true (bytes_eq (bytes_at bytes 0 2) (codes "DV") && (p.0 == 0)) (nat_le 1 c.0) t2.0 in
    let long : 32 + 20 * c.0 ≤ length bytes = leb-true _ _ t1.1 in
    let few : c.0 ≤ 40 = leb-true _ _ t2.1 in
    let some : 1 ≤ c.0 = leb-true _ _ t3.1 in
    let ds = dims_are c.0 (drop 32 bytes) (drop_bytes bytes 32 is) (omega (arith, long, length-drop 32 bytes)) in
    subst IsEntry g.1 (record {
      info = record {
        pixel = i32_fits bytes 2 is;
        compression = i32_fits bytes 18 is;
        pyramid = is 22;
        spare = length-bytes_at bytes 23 5 (omega (arith, long));
        spare_bytes = part_bytes bytes 23 5 is;
        some = omega (arith, some, ds.1);
        few = omega (arith, few, ds.1);
        dims = ds.0;
      };
      position = i64_fits bytes 6 is;
    })

pub a1_is : (bytes : List ℕ) (a : A1) → IsBytes bytes → a1 bytes ≡ Some a → IsAttInfo a.info
unfolding a1
a1_is bytes a is found =
    let g = given_some (bytes_eq (bytes_at bytes 0 2) (codes "A1") && nat_le 128 (length bytes)) _ a found in
    let long : 128 ≤ length bytes = leb-true _ _ (both_true (bytes_eq (bytes_at bytes 0 2) (codes "A1")) (nat_le 128 (length bytes)) g.0).1 in
    subst (λ (z : A1). IsAttInfo z.info) g.1 (record {
      guid = length-bytes_at bytes 24 16 (omega (arith, long));
      guid_bytes = part_bytes bytes 24 16 is;
      kind = length-bytes_at bytes 40 8 (omega (arith, long));
      kind_bytes = part_bytes bytes 40 8 is;
      name = length-bytes_at bytes 48 80 (omega (arith, long));
      name_bytes = part_bytes bytes 48 80 is;
    })

-- what each reading has, each item of a sequence has
sequence_all : {X E : Type 0} (read : List ℕ → Option X) (size : X → ℕ) (fault : ℕ → E) (P : X → Type 0)
    → ((bytes : List ℕ) (x : X) → IsBytes bytes → read bytes ≡ Some x → P x)
    → (n at : ℕ) (bytes : List ℕ) (xs : List X) → IsBytes bytes → one_after_another read size fault n at bytes ≡ Ok xs → AllByRecursion P xs × (length xs ≡ n)
sequence_all read size fault P has zero at bytes [] is e = (tt, refl)
sequence_all read size fault P has zero at bytes (y ∷ ys) is e = cc
sequence_all read size fault P has (suc n) at bytes zs is e =
    on_ok (ok_or (read bytes) (fault at)) _ zs e λ x first more.
    on_ok (one_after_another read size fault n (at + size x) (drop (size x) bytes)) _ zs more λ xs others whole.
    let rest = sequence_all read size fault P has n (at + size x) (drop (size x) bytes) xs (drop_bytes bytes (size x) is) others in
    let here : P x = has bytes x is (ok_or_ok (read bytes) (fault at) x first) in
    let zs_is : x ∷ xs ≡ zs = cc in
    subst (λ l. AllByRecursion P l × (length l ≡ suc n)) zs_is ((here, rest.0), ap suc rest.1)

-- the entries of a directory, and of an attachment directory
entries_are : (image : List ℕ) (dir : Option Directory) (es : List Entry) → IsBytes image → entries image dir ≡ Ok es → AllByRecursion IsEntry es × (length es ≡ count_of dir)
entries_are image None [] is e = (tt, refl)
entries_are image None (x ∷ es) is e = cc
entries_are image (Some d) es is e =
    sequence_all entry entry_len (λ at. at) IsEntry entry_is d.count (d.segment.at + 160) (drop 128 (data_of image d.segment)) es
    (drop_bytes (data_of image d.segment) 128 (part_bytes image (d.segment.at + 32) d.segment.allocated is)) e

a1_entries_are : (image : List ℕ) (dir : Option Directory) (es : List A1) → IsBytes image → a1_entries image dir ≡ Ok es → AllByRecursion (λ (a : A1). IsAttInfo a.info) es × (length es ≡ count_of dir)
a1_entries_are image None [] is e = (tt, refl)
a1_entries_are image None (x ∷ es) is e = cc
a1_entries_are image (Some d) es is e =
    sequence_all a1 a1_len (λ at. at) (λ (a : A1). IsAttInfo a.info) a1_is d.count (d.segment.at + 288) (drop 256 (data_of image d.segment)) es
    (drop_bytes (data_of image d.segment) 256 (part_bytes image (d.segment.at + 32) d.segment.allocated is)) e

all_infos : (image : List ℕ) (ts : List Tile) → AllByRecursion IsEntry (map (λ (t : Tile). t.entry) ts) → AllByRecursion (λ (s : Subblock). IsEntryInfo s.info) (map (subblock_of image) ts)
all_infos image [] all = tt
all_infos image (t ∷ ts) all = (all.0.info, all_infos image ts all.1)

all_att_infos : (image : List ℕ) (ts : List AttItem) → AllByRecursion (λ (a : A1). IsAttInfo a.info) (map (λ (t : AttItem). t.entry) ts) → AllByRecursion (λ (s : Attachment). IsAttInfo s.info) (map (attachment_of image) ts)
all_att_infos image [] all = tt
all_att_infos image (t ∷ ts) all = (all.0, all_att_infos image ts all.1)

length-mapped : {X Y : Type 0} (f : X → Y) (xs : List X) → length (map f xs) ≡ length xs
length-mapped f [] = refl
length-mapped f (x ∷ xs) = ap suc (length-mapped f xs)

identity_is : (image : List ℕ) (h : FileHeader) → file_header image ≡ Some h → length h.identity ≡ 52
identity_is image h found =
    let f = (header_fronts image h found).0 in
    subst (λ (z : FileHeader). length z.identity ≡ 52) f.fields (length-bytes_at image 32 52 (omega (arith, f.long)))

pub shows_document : (image : List ℕ) (d : Document) → IsBytes image → Shows image d → IsDocument d
shows_document image d is (live, reaches, d_is) =
    let es = entries_are image live.directory (map (λ (t : Tile). t.entry) live.tiles) is reaches.entries in
    let atts = a1_entries_are image live.attdir (map (λ (t : AttItem). t.entry) live.attachments) is reaches.a1_entries in
    subst IsDocument (sym d_is) (record {
      identity = identity_is image live.header reaches.header;
      subblocks = omega (arith, length-mapped (subblock_of image) live.tiles, length-mapped (λ (t : Tile). t.entry) live.tiles, es.1, reaches.few);
      infos = all_infos image live.tiles es.0;
      attachments = omega (arith, length-mapped (attachment_of image) live.attachments, length-mapped (λ (t : AttItem). t.entry) live.attachments, atts.1, reaches.few_attachments);
      attachment_infos = all_att_infos image live.attachments atts.0;
    })

entry_long : (bytes : List ℕ) (e : Entry) → entry bytes ≡ Some e → 32 ≤ length bytes
unfolding entry
entry_long bytes e found =
    let c = bind_some (natural (i32_at bytes 28)) _ e found in
    let p = bind_some (natural (i32_at bytes 14)) _ e c.2 in
    let g = given_some _ _ e p.2 in
    let t1 = both_true (bytes_eq (bytes_at bytes 0 2) (codes "DV") && (p.0 == 0) && nat_le 1 c.0 && nat_le c.0 40) (nat_le (32 + 20 * c.0) (length bytes)) g.0 in
    omega (arith, leb-true (32 + 20 * c.0) (length bytes) t1.1)

short_none : (bytes : List ℕ) → length bytes < 32 → (o : Option Entry) → entry bytes ≡ o → o ≡ None
short_none bytes short None e = refl
short_none bytes short (Some x) e = absurd (omega (arith, entry_long bytes x e))

-- an entry has at least 32 bytes
pub no_entry : (bytes : List ℕ) → length bytes < 32 → entry bytes ≡ None
no_entry bytes short = short_none bytes short (entry bytes) refl
