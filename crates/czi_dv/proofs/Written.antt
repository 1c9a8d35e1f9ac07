-- Records and heads that are written field by field.
use Rattle.std.proofs.Common.{◌≡◌, ℕ, ◌+◌, ◌*◌, ◌<◌, ℤ, List, [], ◌∷◌, ◌++◌, map, take, drop, get_or, length, replicate, codes, Some, refl, ap, sym, ◌∙◌, arith, subst, append_assoc, append-nil, length-append}
use Rattle.std.proofs.lemmas.List.{map_more, take_at, length-take-le, length-map, drop-drop, drop_all, take_all}
use Rattle.std.specs.List.{AllByRecursion, flat_map}
use Rattle.czi_format.specs.Bytes.{put_at, i32_bytes, i64_bytes, u32_bytes}
use Rattle.czi_format.specs.Entry.{Dim, EntryInfo, Entry, EntryBytes, IsDim, IsEntry, dim_bytes, entry, entry_bytes, head_bytes}
use Rattle.czi_format.proofs.Fields.{put_next}
use Rattle.czi_format.proofs.Written.{four, five, entry_again, length-dims_bytes, length-entry_bytes}

record_cells : (a b c d e f g h : ℕ) (start size stored : ℤ)
    → put_at (put_at (put_at (put_at (put_at (replicate 20 0) 0 (a ∷ b ∷ c ∷ d ∷ [])) 4 (i32_bytes start)) 8 (i32_bytes size)) 12 (e ∷ f ∷ g ∷ h ∷ [])) 16 (i32_bytes stored)
    ≡ dim_bytes (record { name = a ∷ b ∷ c ∷ d ∷ []; start = start; size = size; coord = e ∷ f ∷ g ∷ h ∷ []; stored = stored })
record_cells a b c d e f g h start size stored = refl

record_fields : (name coord : List ℕ) (start size stored : ℤ) → length name ≡ 4 → length coord ≡ 4
    → put_at (put_at (put_at (put_at (put_at (replicate 20 0) 0 name) 4 (i32_bytes start)) 8 (i32_bytes size)) 12 coord) 16 (i32_bytes stored)
    ≡ dim_bytes (record { name = name; start = start; size = size; coord = coord; stored = stored })
record_fields name coord start size stored long wide =
    let n = four name long in
    let c = four coord wide in
    let P : List ℕ → List ℕ → Type 0 = λ name coord.
    put_at (put_at (put_at (put_at (put_at (replicate 20 0) 0 name) 4 (i32_bytes start)) 8 (i32_bytes size)) 12 coord) 16 (i32_bytes stored)
    ≡ dim_bytes (record { name = name; start = start; size = size; coord = coord; stored = stored }) in
    subst (λ name. P name coord) (sym n.4) (subst (λ coord. P (n.0 ∷ n.1 ∷ n.2 ∷ n.3 ∷ []) coord) (sym c.4)
    (record_cells n.0 n.1 n.2 n.3 c.0 c.1 c.2 c.3 start size stored))

-- a dimension record, field by field
pub record_written : (d : Dim) (b1 b2 b3 b4 b5 : List ℕ) → length d.name ≡ 4 → length d.coord ≡ 4 → b1 ≡ put_at (replicate 20 0) 0 d.name → b2 ≡ put_at b1 4 (i32_bytes d.start)
    → b3 ≡ put_at b2 8 (i32_bytes d.size) → b4 ≡ put_at b3 12 d.coord → b5 ≡ put_at b4 16 (i32_bytes d.stored) → b5 ≡ dim_bytes d
record_written d b1 b2 b3 b4 b5 long wide e1 e2 e3 e4 e5 =
    e5 ∙ (ap (λ b. put_at b 16 (i32_bytes d.stored))
    (e4 ∙ ap (λ b. put_at b 12 d.coord)
    (e3 ∙ ap (λ b. put_at b 8 (i32_bytes d.size))
    (e2 ∙ ap (λ b. put_at b 4 (i32_bytes d.start)) e1)))
    ∙ record_fields d.name d.coord d.start d.size d.stored long wide)

head_fields : (info : EntryInfo) (position : ℤ) → length info.spare ≡ 5
    → put_at (put_at (put_at (put_at (put_at (put_at (put_at (put_at (replicate 32 0) 0 (codes "DV")) 2 (i32_bytes info.pixel)) 6 (i64_bytes position)) 14 (u32_bytes 0)) 18 (i32_bytes info.compression)) 22 (info.pyramid ∷ [])) 23 info.spare) 28 (u32_bytes (length info.dims))
    ≡ head_bytes info position
head_fields info position long =
    let s = five info.spare long in
    let P : List ℕ → Type 0 = λ spare.
    put_at (put_at (put_at (put_at (put_at (put_at (put_at (put_at (replicate 32 0) 0 (codes "DV")) 2 (i32_bytes info.pixel)) 6 (i64_bytes position)) 14 (u32_bytes 0)) 18 (i32_bytes info.compression)) 22 (info.pyramid ∷ [])) 23 spare) 28 (u32_bytes (length info.dims))
    ≡ head_bytes (record info { spare = spare }) position in
    subst P (sym s.5) refl

-- the head of an entry, field by field
pub head_written : (info : EntryInfo) (position : ℤ) (b1 b2 b3 b4 b5 b6 b7 b8 : List ℕ) → length info.spare ≡ 5
    → b1 ≡ put_at (replicate 32 0) 0 (codes "DV") → b2 ≡ put_at b1 2 (i32_bytes info.pixel) → b3 ≡ put_at b2 6 (i64_bytes position) → b4 ≡ put_at b3 14 (u32_bytes 0)
    → b5 ≡ put_at b4 18 (i32_bytes info.compression) → b6 ≡ put_at b5 22 (info.pyramid ∷ []) → b7 ≡ put_at b6 23 info.spare
    → b8 ≡ put_at b7 28 (u32_bytes (length info.dims)) → b8 ≡ head_bytes info position
head_written info position b1 b2 b3 b4 b5 b6 b7 b8 long e1 e2 e3 e4 e5 e6 e7 e8 =
    e8 ∙ (ap (λ b. put_at b 28 (u32_bytes (length info.dims)))
    (e7 ∙ ap (λ b. put_at b 23 info.spare)
    (e6 ∙ ap (λ b. put_at b 22 (info.pyramid ∷ []))
    (e5 ∙ ap (λ b. put_at b 18 (i32_bytes info.compression))
    (e4 ∙ ap (λ b. put_at b 14 (u32_bytes 0))
    (e3 ∙ ap (λ b. put_at b 6 (i64_bytes position))
    (e2 ∙ ap (λ b. put_at b 2 (i32_bytes info.pixel)) e1))))))
    ∙ head_fields info position long)

all_more : {X : Type 0} (P : X → Type 0) (xs : List X) (x : X) → AllByRecursion P xs → P x → AllByRecursion P (xs ++ x ∷ [])
all_more P [] x all is = (is, tt)
all_more P (y ∷ ys) x all is = (all.0, all_more P ys x all.1 is)

flat_more : {X : Type 0} (f : X → List ℕ) (xs : List X) (x : X) → flat_map f (xs ++ x ∷ []) ≡ flat_map f xs ++ f x
flat_more f [] x = append-nil (f x)
flat_more f (y ∷ ys) x = ap (λ l. f y ++ l) (flat_more f ys x) ∙ sym (append_assoc (f y) (flat_map f ys) (f x))

-- the first dimension records are written, and the rest of the bytes is as it was
pub record Written {X : Type 0} (view : X → Dim) (list : List X) (old now : List ℕ) (i : ℕ) : Type 0 where
  pub written : now ≡ (take 32 old ++ flat_map dim_bytes (map view (take i list))) ++ drop (32 + 20 * i) old
  pub records : AllByRecursion IsDim (map view (take i list))

length-record : (d : Dim) → IsDim d → length (dim_bytes d) ≡ 20
length-record d is =
    let name : length d.name ≡ 4 = is.name in
    let coord : length d.coord ≡ 4 = is.coord in
    simp length-append (omega arith)

-- one record more
pub written_more : {X : Type 0} (view : X → Dim) (list : List X) (old now new : List ℕ) (i : ℕ) (d : X) (bytes : List ℕ) → Written view list old now i → i < length list
    → length old ≡ 32 + 20 * length list → IsDim (view (get_or list i d)) → bytes ≡ dim_bytes (view (get_or list i d))
    → new ≡ put_at now (32 + 20 * i) bytes → Written view list old new (i + 1)
written_more {X} view list old now new i d bytes so_far here long is written put =
    let x : X = get_or list i d in
    let before : List Dim = map view (take i list) in
    let front : List ℕ = take 32 old ++ flat_map dim_bytes before in
    let rest : List ℕ = drop (32 + 20 * i) old in
    let records : length before ≡ i = length-map (take i list) view ∙ length-take-le i list (omega arith) in
    let front_long : length front ≡ 32 + 20 * i = simp length-append (omega (arith, length-take-le 32 old (omega arith), length-dims_bytes before so_far.records, records)) in
    let size : length bytes ≡ 20 = ap length written ∙ length-record (view x) is in
    let list_more : map view (take (i + 1) list) ≡ before ++ view x ∷ [] = map_more view list i d here in
    let behind : drop (length bytes) rest ≡ drop (32 + 20 * (i + 1)) old =
    ap (λ k. drop k rest) size ∙ (drop-drop 20 (32 + 20 * i) old ∙ ap (λ k. drop k old) (let e : 32 + 20 * i + 20 ≡ 32 + 20 * (i + 1) = omega arith in e)) in
    let together : front ++ bytes ≡ take 32 old ++ flat_map dim_bytes (map view (take (i + 1) list)) =
    ap (λ l. front ++ l) written
    ∙ (append_assoc (take 32 old) (flat_map dim_bytes before) (dim_bytes (view x))
    ∙ ap (λ l. take 32 old ++ l) (sym (flat_more dim_bytes before (view x)) ∙ ap (flat_map dim_bytes) (sym list_more))) in
    record {
      written = put
          ∙ (ap (λ l. put_at l (32 + 20 * i) bytes) so_far.written
          ∙ (put_next front rest bytes (32 + 20 * i) front_long
          ∙ (ap (λ l. l ++ drop (length bytes) rest) together
          ∙ ap (λ l. (take 32 old ++ flat_map dim_bytes (map view (take (i + 1) list))) ++ l) behind)));
      records = subst (AllByRecursion IsDim) (sym list_more) (all_more IsDim before (view x) so_far.records is);
    }

-- all records are written
pub written_all : {X : Type 0} (view : X → Dim) (list : List X) (old now : List ℕ) (i : ℕ) → Written view list old now i → i ≡ length list
    → length old ≡ 32 + 20 * length list → (now ≡ take 32 old ++ flat_map dim_bytes (map view list)) × AllByRecursion IsDim (map view list)
written_all view list old now i so_far done long =
    let all : take i list ≡ list = take_all i list (omega arith) in
    let past : drop (32 + 20 * i) old ≡ [] = drop_all (32 + 20 * i) old (omega arith) in (
      so_far.written ∙ (ap (λ l. (take 32 old ++ flat_map dim_bytes (map view (take i list))) ++ l) past
          ∙ (append-nil (take 32 old ++ flat_map dim_bytes (map view (take i list))) ∙ ap (λ l. take 32 old ++ flat_map dim_bytes (map view l)) all)),
      subst (λ l. AllByRecursion IsDim (map view l)) all so_far.records,
    )

-- a head and the records behind it are the entry
pub entry_written : (x : Entry) (old first head out : List ℕ) → length head ≡ 32 → head ≡ head_bytes x.info x.position → first ≡ put_at old 0 head
    → out ≡ take 32 first ++ flat_map dim_bytes x.info.dims → out ≡ entry_bytes x
entry_written x old first head out long is put written =
    let kept : take 32 first ≡ head = ap (take 32) put ∙ take_at head (drop (0 + length head) old) 32 long in
    written ∙ ap (λ l. l ++ flat_map dim_bytes x.info.dims) (kept ∙ is)

-- a written entry is read again
pub entry_stands : (x : Entry) (out rest : List ℕ) → IsEntry x → out ≡ entry_bytes x → entry (out ++ rest) ≡ Some x
entry_stands x out rest is written = ap (λ l. entry (l ++ rest)) written ∙ entry_again x rest is

pub entry_alone : (x : Entry) (out : List ℕ) → IsEntry x → out ≡ entry_bytes x → EntryBytes x.info x.position out
entry_alone x out is written = record {
  reads = ap entry (sym (append-nil out)) ∙ entry_stands x out [] is written;
  whole = ap length written ∙ length-entry_bytes x is;
}
