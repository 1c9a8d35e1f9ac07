-- The entries of the two directories: `DV` for a subblock, `A1` for an attachment. An entry is read from the
-- front of a byte list.
use Rattle.std.specs.Prelude.{◌≡◌, ℕ, zero, suc, ◌+◌, ◌*◌, ℤ, pos, List, [], ◌∷◌, drop, length, codes, ◌&&◌, ◌==◌, nat_le, ◌≤◌, ◌<◌, ◌++◌, Option, Some, replicate, bytes_eq, FitsSigned, flat_map}
use Rattle.std.specs.Int.{w32, w64}
use Rattle.std.specs.List.{AllByRecursion}
use Rattle.czi_format.specs.Bytes.{IsBytes, bytes_at, byte_at, i32_at, i64_at, i32_bytes, i64_bytes}
use Rattle.czi_format.specs.Partial.{◌>>=◌, natural, given}
use Rattle.czi_format.specs.declared.numbers.TheConstants.{A1_LEN}

-- one dimension of a subblock: its name, where it starts, its size, and the size as stored (0 reads as size)
pub record Dim : Type 0 where
  pub name : List ℕ
  pub start : ℤ
  pub size : ℤ
  pub coord : List ℕ
  pub stored : ℤ

pub record EntryInfo : Type 0 where
  pub pixel : ℤ
  pub compression : ℤ
  pub pyramid : ℕ
  pub spare : List ℕ
  pub dims : List Dim

-- a DV entry: what it says of a subblock, and the position of the subblock's segment
pub record Entry : Type 0 where
  pub info : EntryInfo
  pub position : ℤ

unfoldable pub dim : List ℕ → Dim
dim bytes = record {
  name = bytes_at bytes 0 4;
  start = i32_at bytes 4;
  size = i32_at bytes 8;
  coord = bytes_at bytes 12 4;
  stored = i32_at bytes 16;
}

-- the first n dimension records
unfoldable pub dims : ℕ → List ℕ → List Dim
dims zero bytes = []
dims (suc n) bytes = dim bytes ∷ dims n (drop 20 bytes)

-- the fields of an entry, with these dimension records
abbrev pub with_records : List ℕ → List Dim → Entry
with_records bytes ds = record {
  info = record { pixel = i32_at bytes 2; compression = i32_at bytes 18; pyramid = byte_at bytes 22; spare = bytes_at bytes 23 5; dims = ds };
  position = i64_at bytes 6;
}

-- the fields of an entry with n dimension records
abbrev pub entry_fields : List ℕ → ℕ → Entry
entry_fields bytes n = with_records bytes (dims n (drop 32 bytes))

-- the DV entry at the front of the bytes
unfoldable pub entry : List ℕ → Option Entry
entry bytes = do
  count ← natural (i32_at bytes 28)
  part ← natural (i32_at bytes 14)
  given (bytes_eq (bytes_at bytes 0 2) (codes "DV") && (part == 0) && nat_le 1 count && nat_le count 40 && nat_le (32 + 20 * count) (length bytes))
      (entry_fields bytes count)

-- the length of an entry
abbrev pub info_len : EntryInfo → ℕ
info_len info = 32 + 20 * length info.dims

abbrev pub entry_len : Entry → ℕ
entry_len e = info_len e.info

-- an entry, written
abbrev pub dim_bytes : Dim → List ℕ
dim_bytes d = d.name ++ (i32_bytes d.start ++ (i32_bytes d.size ++ (d.coord ++ i32_bytes d.stored)))

-- the first 32 bytes
abbrev pub head_bytes : EntryInfo → ℤ → List ℕ
head_bytes info position = codes "DV" ++ (i32_bytes info.pixel ++ (i64_bytes position ++ (i32_bytes (pos 0) ++ (i32_bytes info.compression
    ++ (info.pyramid ∷ info.spare ++ i32_bytes (pos (length info.dims)))))))

abbrev pub entry_bytes : Entry → List ℕ
entry_bytes e = head_bytes e.info e.position ++ flat_map dim_bytes e.info.dims

-- what can be written: each field has its length and range, and bytes are below 256
pub record IsDim (d : Dim) : Type 0 where
  pub name : length d.name ≡ 4
  pub name_bytes : IsBytes d.name
  pub start : FitsSigned w32 d.start
  pub size : FitsSigned w32 d.size
  pub coord : length d.coord ≡ 4
  pub coord_bytes : IsBytes d.coord
  pub stored : FitsSigned w32 d.stored

pub record IsEntryInfo (info : EntryInfo) : Type 0 where
  pub pixel : FitsSigned w32 info.pixel
  pub compression : FitsSigned w32 info.compression
  pub pyramid : info.pyramid < 256
  pub spare : length info.spare ≡ 5
  pub spare_bytes : IsBytes info.spare
  pub some : 1 ≤ length info.dims
  pub few : length info.dims ≤ 40
  pub dims : AllByRecursion IsDim info.dims

pub record IsEntry (e : Entry) : Type 0 where
  pub info : IsEntryInfo e.info
  pub position : FitsSigned w64 e.position

-- these bytes are the DV entry of a subblock with its segment at this position
pub record EntryBytes (info : EntryInfo) (position : ℤ) (bytes : List ℕ) : Type 0 where
  pub reads : entry bytes ≡ Some (record { info = info; position = position })
  pub whole : length bytes ≡ 32 + 20 * length info.dims

pub record AttInfo : Type 0 where
  pub guid : List ℕ
  pub kind : List ℕ
  pub name : List ℕ

-- each field has its length, and bytes are below 256
pub record IsAttInfo (info : AttInfo) : Type 0 where
  pub guid : length info.guid ≡ 16
  pub guid_bytes : IsBytes info.guid
  pub kind : length info.kind ≡ 8
  pub kind_bytes : IsBytes info.kind
  pub name : length info.name ≡ 80
  pub name_bytes : IsBytes info.name

-- an A1 entry: what it says of an attachment, and the position of the attachment's segment
pub record A1 : Type 0 where
  pub info : AttInfo
  pub position : ℤ

-- the A1 entry at the front of the bytes; its reserved bytes and FilePart aren't looked at
unfoldable pub a1 : List ℕ → Option A1
a1 bytes = given (bytes_eq (bytes_at bytes 0 2) (codes "A1") && nat_le A1_LEN (length bytes)) (record {
  info = record {
    guid = bytes_at bytes 24 16;
    kind = bytes_at bytes 40 8;
    name = bytes_at bytes 48 80;
  };
  position = i64_at bytes 12;
})

abbrev pub a1_len : A1 → ℕ
a1_len a = A1_LEN

-- an A1 entry, written: the reserved bytes and FilePart are 0
abbrev pub a1_bytes : A1 → List ℕ
a1_bytes a = codes "A1" ++ (replicate 10 0 ++ (i64_bytes a.position ++ (replicate 4 0 ++ (a.info.guid ++ (a.info.kind ++ a.info.name)))))

-- what can be written
pub record IsA1 (a : A1) : Type 0 where
  pub info : IsAttInfo a.info
  pub position : FitsSigned w64 a.position
