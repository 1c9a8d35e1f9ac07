-- Entries that are changed in place are read as the new list.
use Rattle.std.proofs.Common.{◌≡◌, ℕ, zero, suc, ◌+◌, ◌*◌, ◌≤◌, pos, List, [], ◌∷◌, ◌++◌, take, drop, length, nat_le, true, ◌&&◌, ◌==◌, Option, Some, Result, Ok, refl, ap, sym, ◌∙◌, arith, subst, inl, inr, bytes_eq, codes, get_or, length-append, ◌-◌, ◌<◌, ◌^◌, ℤ}
use Rattle.std.specs.List.{AllByRecursion, flat_map}
use Rattle.std.specs.Option.{ok_or}
use Rattle.std.proofs.lemmas.Bool.{leb-true, le-leb}
use Rattle.std.proofs.lemmas.List.{drop-drop, get_or-take, get_or-drop, length-drop, take-append-drop, append_assoc, drop-take}
use Rattle.std.specs.Int.{cast_signed, from_le_bytes, w32}
use Rattle.czi_format.specs.Bytes.{bytes_at, byte_at, i32_at, i64_at, i32_bytes, i64_bytes}
use Rattle.czi_format.specs.Partial.{natural, none_or}
use Rattle.czi_format.specs.Entry.{Entry, dim, dims, entry, entry_len, entry_bytes, IsEntry, A1, a1, a1_len, a1_bytes, IsA1}
use Rattle.czi_format.specs.FirstFault.{one_after_another}
use Rattle.czi_format.proofs.Local.{same_part, i32_same, i64_same, IsItsOwn, directory_own, attdir_own, part_of_part, i32_of_part}
use Rattle.czi_format.proofs.Readings.{bind_some, given_some, both_true, natural_some, Stands, IsSoundSegment, segment_stands, stands_segment, is_sound}
use Rattle.czi_format.proofs.Rules.{on_ok, ok_or_ok}
use Rattle.czi_format.proofs.Written.{entry_again, length-entry_bytes, drop_front, again_4}
use Rattle.czi_format.proofs.Heads.{a1_again, length-a1_bytes}
use Rattle.czi_format.proofs.EntryRules.{length-dims}
use Rattle.czi_format.specs.Contents.{entry_count}
use Rattle.czi_format.specs.Live.{Directory, directory, attachment_directory}
use Rattle.czi_format.specs.Segment.{Segment, segment_at, sound_segment, in_segment, data_of, directory_id, attdir_id}
use Rattle.czi_format.specs.Shows.{entries, a1_entries}
use Rattle.czi_format.proofs.Limits.{length-bytes_at}
use Rattle.czi_machine.specs.Patch.{WrittenOver, total, StayBehind, Patches}
use Rattle.czi_machine.specs.Puts.{StandsWith}
use Rattle.czi_machine.specs.Written.{Piece, IsClear, Wrote}
use Rattle.czi_machine.proofs.NewSegment.{read_in}
use Rattle.czi_machine.proofs.Over.{put_bytes, clear_bytes}
use Rattle.czi_machine.proofs.Restated.{i64_of_bytes}
use Rattle.czi_machine.proofs.LiveStand.{bytes_same}

-- What is read in as many bytes as it has, and is written so.
pub record IsCodec {X : Type 0} (read : List ℕ → Option X) (size : X → ℕ) (write : X → List ℕ) (P : X → Type 0) : Type 0 where
  pub local : (a b : List ℕ) (x : X) → read a ≡ Some x → bytes_at a 0 (size x) ≡ bytes_at b 0 (size x) → size x ≤ length b → read b ≡ Some x
  pub fits : (a : List ℕ) (x : X) → read a ≡ Some x → size x ≤ length a
  pub again : (x : X) (rest : List ℕ) → P x → read (write x ++ rest) ≡ Some x
  pub long : (x : X) → P x → length (write x) ≡ size x

abbrev pub each : {X : Type 0} → (List ℕ → Option X) → (X → ℕ) → ℕ → ℕ → List ℕ → Result (List X) ℕ
each read size n at bytes = one_after_another read size (λ at. at) n at bytes

-- the first, and the others
first_of : {X : Type 0} (read : List ℕ → Option X) (size : X → ℕ) (n at : ℕ) (bytes : List ℕ) (x : X) (xs : List X) → each read size (suc n) at bytes ≡ Ok (x ∷ xs)
    → (read bytes ≡ Some x) × (each read size n (at + size x) (drop (size x) bytes) ≡ Ok xs)
first_of read size n at bytes x xs e =
    on_ok (ok_or (read bytes) at) _ (x ∷ xs) e λ y first more.
    on_ok (each read size n (at + size y) (drop (size y) bytes)) _ (x ∷ xs) more λ ys others whole.
    let same_first : y ≡ x = cc (whole) in
    let same_rest : ys ≡ xs = cc (whole) in
    (ok_or_ok (read bytes) at y first ∙ ap Some same_first, (λ i. each read size n (at + size (sym same_first i)) (drop (size (sym same_first i)) bytes)) ∙ (others ∙ ap Ok same_rest))

one_more : {X : Type 0} (read : List ℕ → Option X) (size : X → ℕ) (n at : ℕ) (bytes : List ℕ) (x : X) (xs : List X) → read bytes ≡ Some x → each read size n (at + size x) (drop (size x) bytes) ≡ Ok xs
    → each read size (suc n) at bytes ≡ Ok (x ∷ xs)
one_more read size n at bytes x xs first rest = rw (first, rest)

-- what is behind some of them
behind_all : {X : Type 0} (read : List ℕ → Option X) (size : X → ℕ) (write : X → List ℕ) (P : X → Type 0) → IsCodec read size write P → (xs ys : List X) (at : ℕ) (bytes : List ℕ)
    → each read size (length (xs ++ ys)) at bytes ≡ Ok (xs ++ ys) → (each read size (length ys) (at + total size xs) (drop (total size xs) bytes) ≡ Ok ys) × (total size xs ≤ length bytes)
behind_all read size write P c [] ys at bytes e = (ap (λ k. each read size (length ys) k bytes) (omega arith) ∙ e, omega arith)
behind_all read size write P c (x ∷ xs) ys at bytes e =
    let one = first_of read size (length (xs ++ ys)) at bytes x (xs ++ ys) e in
    let rest = behind_all read size write P c xs ys (at + size x) (drop (size x) bytes) one.1 in
    let place : at + (size x + total size xs) ≡ at + size x + total size xs = omega arith in
    let bytes_are : drop (size x + total size xs) bytes ≡ drop (total size xs) (drop (size x) bytes) = sym (drop-drop (total size xs) (size x) bytes) in
    ((λ i. each read size (length ys) (place i) (bytes_are i)) ∙ rest.0, omega (arith, rest.1, length-drop (size x) bytes, c.fits bytes x one.0))

pub length-written : {X : Type 0} (read : List ℕ → Option X) (size : X → ℕ) (write : X → List ℕ) (P : X → Type 0) → IsCodec read size write P → (xs : List X) → AllByRecursion P xs → length (flat_map write xs) ≡ total size xs
length-written read size write P c [] all = refl
length-written read size write P c (x ∷ xs) all = omega (arith, length-append (write x) (flat_map write xs), c.long x all.0, length-written read size write P c xs all.1)

-- what is written, and then what follows it
written_then : {X : Type 0} (read : List ℕ → Option X) (size : X → ℕ) (write : X → List ℕ) (P : X → Type 0) → IsCodec read size write P → (xs ys : List X) (at : ℕ) (rest : List ℕ) → AllByRecursion P xs
    → each read size (length ys) (at + total size xs) rest ≡ Ok ys → each read size (length (xs ++ ys)) at (flat_map write xs ++ rest) ≡ Ok (xs ++ ys)
written_then read size write P c [] ys at rest all e = ap (λ k. each read size (length ys) k rest) (omega arith) ∙ e
written_then read size write P c (x ∷ xs) ys at rest all e =
    let more : List ℕ = flat_map write xs ++ rest in
    let split : flat_map write (x ∷ xs) ++ rest ≡ write x ++ more = append_assoc (write x) (flat_map write xs) rest in
    let place : at + size x + total size xs ≡ at + (size x + total size xs) = omega arith in
    let others : each read size (length (xs ++ ys)) (at + size x) more ≡ Ok (xs ++ ys) =
    written_then read size write P c xs ys (at + size x) rest all.1 (ap (λ k. each read size (length ys) k rest) place ∙ e) in
    let behind : drop (size x) (write x ++ more) ≡ more = drop_front (write x) more (size x) (c.long x all.0) in
    ap (each read size (suc (length (xs ++ ys))) at) split
    ∙ one_more read size (length (xs ++ ys)) at (write x ++ more) x (xs ++ ys) (c.again x more all.0) (ap (each read size (length (xs ++ ys)) (at + size x)) behind ∙ others)

-- what was written over a list was written over what is behind its first bytes
over_rest : (n at : ℕ) (bytes old new : List ℕ) → WrittenOver (n + at) bytes old new → WrittenOver at bytes (drop n old) (drop n new)
unfolding bytes_at
over_rest n at bytes old new over =
    let place : n + (at + length bytes) ≡ n + at + length bytes = omega arith in
    let part : take at (drop (0 + n) new) ≡ take at (drop (0 + n) old) = same_part new old 0 (n + at) n at over.before (omega arith) in
    let none : 0 + n ≡ n = omega arith in
    record {
      before = subst (λ k. take at (drop k new) ≡ take at (drop k old)) none part;
      here = ap (take (length bytes)) (drop-drop at n new) ∙ over.here;
      behind = drop-drop (at + length bytes) n new ∙ (ap (λ k. drop k new) place ∙ (over.behind ∙ (ap (λ k. drop k old) (sym place) ∙ sym (drop-drop (at + length bytes) n old))));
      long = omega (arith, over.long, length-drop n new);
    }

same_front : (a b : List ℕ) (n m : ℕ) → bytes_at a 0 n ≡ bytes_at b 0 n → m ≤ n → bytes_at a 0 m ≡ bytes_at b 0 m
same_front a b n m e small = let none : 0 + 0 ≡ 0 = refl in subst (λ k. bytes_at a k m ≡ bytes_at b k m) none (same_part a b 0 n 0 m e (omega arith))

pub patched : {X : Type 0} (read : List ℕ → Option X) (size : X → ℕ) (write : X → List ℕ) (P : X → Type 0) → IsCodec read size write P → (old new : List ℕ) (at : ℕ) (front before middle back : List X)
    → each read size (length (front ++ (before ++ back))) at old ≡ Ok (front ++ (before ++ back)) → StayBehind size before middle back → AllByRecursion P middle → WrittenOver (total size front) (flat_map write middle) old new
    → each read size (length (front ++ (middle ++ back))) at new ≡ Ok (front ++ (middle ++ back))
unfolding bytes_at
patched {X} read size write P c old new at [] before middle back reads stay all over =
    let w : List ℕ = flat_map write middle in
    let long : length w ≡ total size middle = length-written read size write P c middle all in
    let none : 0 + length w ≡ length w = omega arith in
    let whole : w ++ drop (length w) new ≡ new = ap (λ z. z ++ drop (length w) new) (sym over.here) ∙ take-append-drop (length w) new in
    let behind : drop (length w) new ≡ drop (length w) old = subst (λ k. drop k new ≡ drop k old) none over.behind in
    let others : each read size (length back) (at + total size middle) (drop (length w) new) ≡ Ok back = elim stay [
      | inl e ↦ subst (λ z. each read size (length z) (at + total size middle) (drop (length w) new) ≡ Ok z) (sym e) refl
      | inr e ↦ let b = behind_all read size write P c before back at old reads in
          let lens : length w ≡ total size before = long ∙ sym e in
          (λ i. each read size (length back) (at + sym e i) ((behind ∙ ap (λ k. drop k old) lens) i)) ∙ b.0
    ] in
    ap (each read size (length (middle ++ back)) at) (sym whole) ∙ written_then read size write P c middle back at (drop (length w) new) all others
patched read size write P c old new at (x ∷ front) before middle back reads stay all over =
    let one = first_of read size (length (front ++ (before ++ back))) at old x (front ++ (before ++ back)) reads in
    let here : read new ≡ Some x = c.local old new x one.0 (sym (same_front new old (size x + total size front) (size x) over.before (omega arith))) (omega (arith, over.long)) in
    one_more read size (length (front ++ (middle ++ back))) at new x (front ++ (middle ++ back)) here
    (patched read size write P c (drop (size x) old) (drop (size x) new) (at + size x) front before middle back one.1 stay all (over_rest (size x) (total size front) (flat_map write middle) old new over))

-- an entry is read in its own bytes
dim_local : (a b : List ℕ) → bytes_at a 0 20 ≡ bytes_at b 0 20 → dim a ≡ dim b
unfolding dim
dim_local a b same =
    let part : (k m : ℕ) → k + m ≤ 20 → bytes_at a (0 + k) m ≡ bytes_at b (0 + k) m = λ k m fits. same_part a b 0 20 k m same fits in
    let name : bytes_at a 0 4 ≡ bytes_at b 0 4 = part 0 4 (omega arith) in
    let start : i32_at a 4 ≡ i32_at b 4 = i32_same a b 4 (part 4 4 (omega arith)) in
    let size : i32_at a 8 ≡ i32_at b 8 = i32_same a b 8 (part 8 4 (omega arith)) in
    let coord : bytes_at a 12 4 ≡ bytes_at b 12 4 = part 12 4 (omega arith) in
    let stored : i32_at a 16 ≡ i32_at b 16 = i32_same a b 16 (part 16 4 (omega arith)) in
    λ i. record { name = name i; start = start i; size = size i; coord = coord i; stored = stored i }

-- the rest of what is the same at the front
behind_same : (a b : List ℕ) (n k m : ℕ) → bytes_at a 0 n ≡ bytes_at b 0 n → k + m ≤ n → bytes_at (drop k a) 0 m ≡ bytes_at (drop k b) 0 m
unfolding bytes_at
behind_same a b n k m same fits = let none : 0 + k ≡ k = omega arith in subst (λ z. take m (drop z a) ≡ take m (drop z b)) none (same_part a b 0 n k m same fits)

dims_local : (n : ℕ) (a b : List ℕ) → bytes_at a 0 (20 * n) ≡ bytes_at b 0 (20 * n) → dims n a ≡ dims n b
unfolding dims
dims_local zero a b same = refl
dims_local (suc n) a b same = λ i. dim_local a b (same_front a b (20 * suc n) 20 same (omega arith)) i ∷ dims_local n (drop 20 a) (drop 20 b) (behind_same a b (20 * suc n) 20 (20 * n) same (omega arith)) i

byte_same : (a b : List ℕ) (at : ℕ) → bytes_at a at 1 ≡ bytes_at b at 1 → byte_at a at ≡ byte_at b at
unfolding bytes_at byte_at
byte_same a b at e = first_byte a at ∙ (ap (λ (z : List ℕ). get_or z 0 0) e ∙ sym (first_byte b at))
  where
    first_byte : (a : List ℕ) (at : ℕ) → get_or a at 0 ≡ get_or (take 1 (drop at a)) 0 0
    first_byte a at = let none : at + 0 ≡ at = omega arith in
        sym (get_or-take 1 (drop at a) 0 0 (omega arith) ∙ (get_or-drop at a 0 0 ∙ ap (λ k. get_or a k 0) none))

-- What an entry says, and how long it is.
record Found (bytes : List ℕ) (e : Entry) : Type 0 where
  n : ℕ
  count : i32_at bytes 28 ≡ pos n
  part : i32_at bytes 14 ≡ pos 0
  schema : bytes_eq (bytes_at bytes 0 2) (codes "DV") ≡ true
  some : 1 ≤ n
  few : n ≤ 40
  fits : 32 + 20 * n ≤ length bytes
  is : (let z : Entry = record {
    info = record { pixel = i32_at bytes 2; compression = i32_at bytes 18; pyramid = byte_at bytes 22; spare = bytes_at bytes 23 5; dims = dims n (drop 32 bytes) };
    position = i64_at bytes 6;
  } in z) ≡ e

found : (bytes : List ℕ) (e : Entry) → entry bytes ≡ Some e → Found bytes e
unfolding entry
found bytes e is =
    let c = bind_some (natural (i32_at bytes 28)) _ e is in
    let p = bind_some (natural (i32_at bytes 14)) _ e c.2 in
    let g = given_some _ _ e p.2 in
    let t1 = both_true (bytes_eq (bytes_at bytes 0 2) (codes "DV") && (p.0 == 0) && nat_le 1 c.0 && nat_le c.0 40) (nat_le (32 + 20 * c.0) (length bytes)) g.0 in
    let t2 = both_true (bytes_eq (bytes_at bytes 0 2) (codes "DV") && (p.0 == 0) && nat_le 1 c.0) (nat_le c.0 40) t1.0 in
    let t3 = both_true (bytes_eq (bytes_at bytes 0 2) (codes "DV") && (p.0 == 0)) (nat_le 1 c.0) t2.0 in
    let t4 = both_true (bytes_eq (bytes_at bytes 0 2) (codes "DV")) (p.0 == 0) t3.0 in
    let none : p.0 ≡ 0 = grind (arith, t4.1) in
    record {
      n = c.0;
      count = natural_some _ _ c.1;
      part = natural_some _ _ p.1 ∙ ap pos none;
      schema = t4.0;
      some = leb-true _ _ t3.1;
      few = leb-true _ _ t2.1;
      fits = leb-true _ _ t1.1;
      is = g.1;
    }

entry_fields_from : (bytes : List ℕ) (n : ℕ) → i32_at bytes 28 ≡ pos n → i32_at bytes 14 ≡ pos 0 → bytes_eq (bytes_at bytes 0 2) (codes "DV") ≡ true → 1 ≤ n → n ≤ 40 → 32 + 20 * n ≤ length bytes
    → entry bytes ≡ Some (record {
      info = record { pixel = i32_at bytes 2; compression = i32_at bytes 18; pyramid = byte_at bytes 22; spare = bytes_at bytes 23 5; dims = dims n (drop 32 bytes) };
      position = i64_at bytes 6;
    })
unfolding entry
entry_fields_from bytes n count part schema some few fits =
    let a : nat_le 1 n ≡ true = le-leb 1 n some in
    let b : nat_le n 40 ≡ true = le-leb n 40 few in
    let c : nat_le (32 + 20 * n) (length bytes) ≡ true = le-leb _ _ fits in
    rw (count, part, schema, a, b, c)

entry_local : (a b : List ℕ) (e : Entry) → entry a ≡ Some e → bytes_at a 0 (entry_len e) ≡ bytes_at b 0 (entry_len e) → entry_len e ≤ length b → entry b ≡ Some e
entry_local a b e reads same fits =
    let f = found a e reads in
    let long : entry_len e ≡ 32 + 20 * f.n = ap (λ (z : Entry). 32 + 20 * length z.info.dims) (sym f.is) ∙ ap (λ k. 32 + 20 * k) (length-dims f.n (drop 32 a)) in
    let part : (k m : ℕ) → k + m ≤ 32 + 20 * f.n → bytes_at a (0 + k) m ≡ bytes_at b (0 + k) m = λ k m inside. same_part a b 0 (entry_len e) k m same (omega (arith, inside, long)) in
    let count : i32_at a 28 ≡ i32_at b 28 = i32_same a b 28 (part 28 4 (omega arith)) in
    let first : i32_at a 14 ≡ i32_at b 14 = i32_same a b 14 (part 14 4 (omega arith)) in
    let schema : bytes_at a 0 2 ≡ bytes_at b 0 2 = part 0 2 (omega arith) in
    let pixel : i32_at a 2 ≡ i32_at b 2 = i32_same a b 2 (part 2 4 (omega arith)) in
    let compression : i32_at a 18 ≡ i32_at b 18 = i32_same a b 18 (part 18 4 (omega arith)) in
    let pyramid : byte_at a 22 ≡ byte_at b 22 = byte_same a b 22 (part 22 1 (omega arith)) in
    let spare : bytes_at a 23 5 ≡ bytes_at b 23 5 = part 23 5 (omega arith) in
    let position : i64_at a 6 ≡ i64_at b 6 = i64_same a b 6 (part 6 8 (omega arith)) in
    let records : dims f.n (drop 32 a) ≡ dims f.n (drop 32 b) = dims_local f.n (drop 32 a) (drop 32 b) (behind_same a b (entry_len e) 32 (20 * f.n) same (omega (arith, long))) in
    let named : bytes_eq (bytes_at b 0 2) (codes "DV") ≡ true = ap (λ z. bytes_eq z (codes "DV")) (sym schema) ∙ f.schema in
    entry_fields_from b f.n (sym count ∙ f.count) (sym first ∙ f.part) named f.some f.few (omega (arith, fits, long))
    ∙ ((λ i. Some (record {
      info = record { pixel = sym pixel i; compression = sym compression i; pyramid = sym pyramid i; spare = sym spare i; dims = sym records i };
      position = sym position i;
    })) ∙ ap Some f.is)

pub entry_codec : IsCodec entry entry_len entry_bytes IsEntry
entry_codec = record {
  local = entry_local;
  fits = λ a e reads. let f = found a e reads in
      omega (arith, f.fits, ap (λ (z : Entry). 32 + 20 * length z.info.dims) (sym f.is) ∙ ap (λ k. 32 + 20 * k) (length-dims f.n (drop 32 a)));
  again = entry_again;
  long = length-entry_bytes;
}

pub entries_patched : (old new : List ℕ) (at : ℕ) (front before middle back : List Entry)
    → one_after_another entry entry_len (λ at. at) (length (front ++ (before ++ back))) at old ≡ Ok (front ++ (before ++ back))
    → StayBehind entry_len before middle back → AllByRecursion IsEntry middle → WrittenOver (total entry_len front) (flat_map entry_bytes middle) old new
    → one_after_another entry entry_len (λ at. at) (length (front ++ (middle ++ back))) at new ≡ Ok (front ++ (middle ++ back))
entries_patched = patched entry entry_len entry_bytes IsEntry entry_codec

-- attachments
a1_local : (a b : List ℕ) (e : A1) → a1 a ≡ Some e → bytes_at a 0 (a1_len e) ≡ bytes_at b 0 (a1_len e) → a1_len e ≤ length b → a1 b ≡ Some e
unfolding a1
a1_local a b e reads same fits =
    let g = given_some _ _ e reads in
    let t = both_true (bytes_eq (bytes_at a 0 2) (codes "A1")) (nat_le 128 (length a)) g.0 in
    let part : (k m : ℕ) → k + m ≤ 128 → bytes_at a (0 + k) m ≡ bytes_at b (0 + k) m = λ k m inside. same_part a b 0 128 k m same inside in
    let schema : bytes_at a 0 2 ≡ bytes_at b 0 2 = part 0 2 (omega arith) in
    let guid : bytes_at a 24 16 ≡ bytes_at b 24 16 = part 24 16 (omega arith) in
    let kind : bytes_at a 40 8 ≡ bytes_at b 40 8 = part 40 8 (omega arith) in
    let name : bytes_at a 48 80 ≡ bytes_at b 48 80 = part 48 80 (omega arith) in
    let position : i64_at a 12 ≡ i64_at b 12 = i64_same a b 12 (part 12 8 (omega arith)) in
    let named : bytes_eq (bytes_at b 0 2) (codes "A1") ≡ true = ap (λ z. bytes_eq z (codes "A1")) (sym schema) ∙ t.0 in
    let long : nat_le 128 (length b) ≡ true = le-leb _ _ fits in
    rw (named, long) ((λ i. Some (record { info = record { guid = sym guid i; kind = sym kind i; name = sym name i }; position = sym position i })) ∙ ap Some g.1)

pub a1_codec : IsCodec a1 a1_len a1_bytes IsA1
unfolding a1
a1_codec = record {
  local = a1_local;
  fits = λ a e reads. let g = given_some _ _ e reads in leb-true _ _ (both_true (bytes_eq (bytes_at a 0 2) (codes "A1")) (nat_le 128 (length a)) g.0).1;
  again = a1_again;
  long = length-a1_bytes;
}

pub a1s_patched : (old new : List ℕ) (at : ℕ) (front before middle back : List A1)
    → one_after_another a1 a1_len (λ at. at) (length (front ++ (before ++ back))) at old ≡ Ok (front ++ (before ++ back))
    → StayBehind a1_len before middle back → AllByRecursion IsA1 middle → WrittenOver (total a1_len front) (flat_map a1_bytes middle) old new
    → one_after_another a1 a1_len (λ at. at) (length (front ++ (middle ++ back))) at new ≡ Ok (front ++ (middle ++ back))
a1s_patched = patched a1 a1_len a1_bytes IsA1 a1_codec

-- A directory that is changed in place is read with its new entries.

-- as many are read as were asked for
each_length : {X : Type 0} (read : List ℕ → Option X) (size : X → ℕ) (n at : ℕ) (bytes : List ℕ) (xs : List X) → one_after_another read size (λ at. at) n at bytes ≡ Ok xs → length xs ≡ n
each_length read size zero at bytes [] e = refl
each_length read size zero at bytes (x ∷ xs) e = cc (e)
each_length read size (suc n) at bytes zs e =
    on_ok (ok_or (read bytes) at) _ zs e λ x first more.
    on_ok (one_after_another read size (λ at. at) n (at + size x) (drop (size x) bytes)) _ zs more λ xs others whole.
    let zs_is : x ∷ xs ≡ zs = cc (whole) in
    ap length (sym zs_is) ∙ ap suc (each_length read size n (at + size x) (drop (size x) bytes) xs others)

-- the rest of a part
rest_of_part : (bytes : List ℕ) (at n m : ℕ) → m ≤ n → drop m (bytes_at bytes at n) ≡ bytes_at bytes (at + m) (n - m)
unfolding bytes_at
rest_of_part bytes at n m fits =
    let whole : m + (n - m) ≡ n = omega (arith, fits) in
    ap (λ k. drop m (take k (drop at bytes))) (sym whole) ∙ (drop-take m (n - m) (drop at bytes) ∙ ap (take (n - m)) (drop-drop m at bytes))

-- the header of the directory
header_patched : {X : Type 0} (image other : List ℕ) (head : ℕ) (size : X → ℕ) (write : X → List ℕ) (Is : X → Type 0) (pieces : List Piece) (was d : Directory) (old new : List X) → Wrote image other pieces → length image ≤ length other → length other < 2 ^ 63
    → 112 ≤ d.segment.at → segment_at image was.segment.at ≡ Some was.segment → Patches head size write Is pieces was d old new → segment_at other d.segment.at ≡ Some d.segment
header_patched image other head size write Is pieces was d old new wrote longer small far stood p =
    let s : Stands image was.segment.at was.segment = segment_stands image was.segment.at was.segment stood in
    let inside : d.segment.at + 32 + d.segment.allocated ≤ length image = omega (arith, s.inside, p.at, p.allocated) in
    let front : bytes_at image d.segment.at 24 ≡ bytes_at other d.segment.at 24 = clear_bytes image other pieces d.segment.at 24 wrote p.clear_head (omega (arith, inside)) (omega (arith, inside, longer)) (inr (omega (arith, far))) in
    let none : d.segment.at + 0 ≡ d.segment.at = omega arith in
    let id : bytes_at image d.segment.at 16 ≡ bytes_at other d.segment.at 16 = subst (λ k. bytes_at image k 16 ≡ bytes_at other k 16) none (same_part image other d.segment.at 24 0 16 front (omega arith)) in
    let allocated : i64_at image (d.segment.at + 16) ≡ i64_at other (d.segment.at + 16) = i64_same image other (d.segment.at + 16) (same_part image other d.segment.at 24 16 8 front (omega arith)) in
    let eight : length (i64_bytes (pos d.segment.used)) ≡ 8 = refl in
    stands_segment other d.segment (record {
      place = refl;
      id = p.id ∙ (s.id ∙ (ap (λ k. bytes_at image k 16) (sym p.at) ∙ id));
      allocated = sym allocated ∙ (ap (λ k. i64_at image (k + 16)) p.at ∙ (s.allocated ∙ ap pos (sym p.allocated)));
      used = i64_of_bytes other (d.segment.at + 24) (pos d.segment.used) (record { sfits = omega (arith, p.used, p.room, inside, longer, small) })
          (put_bytes image other pieces (d.segment.at + 24) (i64_bytes (pos d.segment.used)) wrote p.puts_used (omega (arith, inside, longer, eight)) (inr (omega (arith, far))));
      inside = omega (arith, inside, longer);
    })

-- its EntryCount
count_again : (bytes : List ℕ) (at n : ℕ) → bytes_at bytes at 4 ≡ i32_bytes (pos n) → n < 2 ^ 31 → i32_at bytes at ≡ pos n
unfolding i32_at
count_again bytes at n e few = ap (λ z. cast_signed w32 (from_le_bytes w32 z)) e ∙ again_4 (pos n) (record { sfits = omega (arith, few) })

count_patched : {X : Type 0} (image other : List ℕ) (head : ℕ) (size : X → ℕ) (write : X → List ℕ) (Is : X → Type 0) (pieces : List Piece) (was d : Directory) (old new : List X) → Wrote image other pieces
    → 112 ≤ d.segment.at → d.segment.at + 32 + d.segment.allocated ≤ length other → 4 ≤ d.segment.allocated → d.count < 2 ^ 31 → Patches head size write Is pieces was d old new → i32_at (data_of other d.segment) 0 ≡ pos d.count
count_patched image other head size write Is pieces was d old new wrote far inside room few p =
    let none : d.segment.at + 32 + 0 ≡ d.segment.at + 32 = omega arith in
    let four : length (i32_bytes (pos d.count)) ≡ 4 = refl in
    let put : bytes_at other (d.segment.at + 32) 4 ≡ i32_bytes (pos d.count) = put_bytes image other pieces (d.segment.at + 32) (i32_bytes (pos d.count)) wrote p.puts_count (omega (arith, inside, room, four)) (inr (omega (arith, far))) in
    i32_of_part other (d.segment.at + 32) d.segment.allocated 0 (omega (arith, room)) ∙ (ap (i32_at other) none ∙ count_again other (d.segment.at + 32) d.count put few)

total-append : {X : Type 0} (size : X → ℕ) (xs ys : List X) → total size (xs ++ ys) ≡ total size xs + total size ys
total-append size [] ys = omega arith
total-append size (x ∷ xs) ys = omega (arith, total-append size xs ys)

-- the data behind its head: the patched range was written over it
data_patched : {X : Type 0} (image other : List ℕ) (head : ℕ) (read : List ℕ → Option X) (size : X → ℕ) (write : X → List ℕ) (Is : X → Type 0) (pieces : List Piece) (was d : Directory) (old new : List X) → IsCodec read size write Is
    → Wrote image other pieces → length image ≤ length other → 112 ≤ d.segment.at → was.segment.at + 32 + was.segment.allocated ≤ length image → 4 ≤ head → (p : Patches head size write Is pieces was d old new)
    → WrittenOver (total size p.front) (flat_map write p.middle) (drop head (data_of image was.segment)) (drop head (data_of other d.segment))
unfolding bytes_at
data_patched image other head read size write Is pieces was d old new codec wrote longer far inside four p =
    let at : ℕ = d.segment.at + 32 in
    let n : ℕ = total size p.front in
    let w : List ℕ = flat_map write p.middle in
    let m : ℕ = d.segment.allocated in
    let long : length w ≡ total size p.middle = length-written read size write Is codec p.middle p.entries in
    let sums : total size new ≡ n + (total size p.middle + total size p.back) = ap (total size) p.are ∙ (total-append size p.front (p.middle ++ p.back) ∙ ap (λ k. n + k) (total-append size p.middle p.back)) in
    let room : head + n + length w ≤ m = omega (arith, p.room, sums, long) in
    let end : at + m ≤ length image = omega (arith, inside, p.at, p.allocated) in
    let data_is : data_of image was.segment ≡ bytes_at image at m = λ i. bytes_at image (sym p.at i + 32) (sym p.allocated i) in
    let D : List ℕ = bytes_at image at m in
    let D' : List ℕ = bytes_at other at m in
    let off : 101 ≤ at + head = omega (arith, far) in
    let clear_front : IsClear pieces (at + head) (at + head + n) = λ q low high. p.clear_front q (omega (arith, low, four)) (omega (arith, high)) in
    let same_front : bytes_at image (at + head) n ≡ bytes_at other (at + head) n = clear_bytes image other pieces (at + head) n wrote clear_front (omega (arith, end, room)) (omega (arith, end, room, longer)) (inr off) in
    let front_of : (bytes : List ℕ) → bytes_at (bytes_at bytes at m) head n ≡ bytes_at bytes (at + head) n = λ bytes. part_of_part bytes at m head n (omega (arith, room)) in
    let sum : head + n ≡ head + n = refl in
    let here : bytes_at D' (head + n) (length w) ≡ w = part_of_part other at m (head + n) (length w) room
    ∙ (ap (λ k. bytes_at other k (length w)) (let e : at + (head + n) ≡ at + head + n = omega arith in e) ∙ put_bytes image other pieces (at + head + n) w wrote p.puts (omega (arith, end, room, longer)) (inr (omega (arith, far)))) in
    let k : ℕ = head + (n + length w) in
    let clear_back : IsClear pieces (at + k) (at + k + (m - k)) = λ q low high. p.clear_back q (omega (arith, low, long)) (omega (arith, high, room)) in
    let same_back : bytes_at image (at + k) (m - k) ≡ bytes_at other (at + k) (m - k) = clear_bytes image other pieces (at + k) (m - k) wrote clear_back (omega (arith, end, room)) (omega (arith, end, room, longer)) (inr (omega (arith, far))) in
    subst (λ z. WrittenOver n w (drop head z) (drop head D')) (sym data_is) (record {
      before = front_of other ∙ (sym same_front ∙ sym (front_of image));
      here = ap (take (length w)) (drop-drop n head D') ∙ here;
      behind = drop-drop (n + length w) head D' ∙ (rest_of_part other at m k (omega (arith, room)) ∙ (sym same_back ∙ (sym (rest_of_part image at m k (omega (arith, room))) ∙ sym (drop-drop (n + length w) head D))));
      long = omega (arith, length-drop head D', length-bytes_at other at m (omega (arith, end, longer)), room);
    })

-- What was found in the image before.
record FoundAt (image id : List ℕ) (read : Segment → List ℕ → Option Directory) (was : Directory) : Type 0 where
  stood : segment_at image was.segment.at ≡ Some was.segment
  own : was.segment.id ≡ id

found_at : (image id : List ℕ) (position : ℤ) (read : Segment → List ℕ → Option Directory) (was : Directory) → IsItsOwn read (λ (d : Directory). d.segment) → in_segment image id position read ≡ Some was → FoundAt image id read was
unfolding in_segment IsItsOwn
found_at image id position read was its found =
    let s = bind_some (sound_segment image id position) (λ s. read s (data_of image s)) was found in
    let own : was.segment ≡ s.0 = its s.0 (data_of image s.0) was s.2 in
    let sound : IsSoundSegment image id position s.0 = is_sound image id position s.0 s.1 in
    subst (λ (z : Segment). FoundAt image id read (record was { segment = z })) (sym own) (record { stood = sound.here; own = bytes_same s.0.id id (both_true _ _ sound.test).0 })

pub found_in : (z : ℤ) (f : Option Directory) (was : Directory) → none_or z f ≡ Some (Some was) → f ≡ Some was
found_in (pos zero) f was e = cc (e)
found_in z f was e = let x = bind_some f (λ x. Some (Some x)) (Some was) e in cc (x.1, x.2)

-- its entries, of any kind
patched_list : {X : Type 0} (image other id : List ℕ) (position : ℤ) (find : Segment → List ℕ → Option Directory) (head off : ℕ) (read : List ℕ → Option X) (size : X → ℕ) (write : X → List ℕ) (Is : X → Type 0) (pieces : List Piece) (was d : Directory) (old new : List X)
    → IsItsOwn find (λ (d : Directory). d.segment) → IsCodec read size write Is → 4 ≤ head → in_segment image id position find ≡ Some was
    → one_after_another read size (λ at. at) was.count (was.segment.at + off) (drop head (data_of image was.segment)) ≡ Ok old
    → Wrote image other pieces → length image ≤ length other → length other < 2 ^ 63 → 112 ≤ d.segment.at → length new < 2 ^ 31 → Patches head size write Is pieces was d old new
    → (i32_at (data_of other d.segment) 0 ≡ pos d.count → find d.segment (data_of other d.segment) ≡ Some d)
    → (in_segment other id (pos d.segment.at) find ≡ Some d) × (one_after_another read size (λ at. at) d.count (d.segment.at + off) (drop head (data_of other d.segment)) ≡ Ok new)
patched_list image other id position find head off read size write Is pieces was d old new its codec four found reads wrote longer small far few p again =
    let f : FoundAt image id find was = found_at image id position find was its found in
    let s : Stands image was.segment.at was.segment = segment_stands image was.segment.at was.segment f.stood in
    let stood : segment_at other d.segment.at ≡ Some d.segment = header_patched image other head size write Is pieces was d old new wrote longer small far f.stood p in
    let s' : Stands other d.segment.at d.segment = segment_stands other d.segment.at d.segment stood in
    let count : i32_at (data_of other d.segment) 0 ≡ pos d.count = count_patched image other head size write Is pieces was d old new wrote far s'.inside (omega (arith, p.room, four)) (omega (arith, p.count, few)) p in
    let stands : StandsWith other d.segment (data_of other d.segment) = record { stands = stood; contents = refl; sound = omega (arith, p.used, p.room) } in
    let over = data_patched image other head read size write Is pieces was d old new codec wrote longer far (omega (arith, s.inside)) four p in
    let was_count : length old ≡ was.count = each_length read size was.count (was.segment.at + off) (drop head (data_of image was.segment)) old reads in
    let D : List ℕ = drop head (data_of image was.segment) in
    let D' : List ℕ = drop head (data_of other d.segment) in
    let before = (λ i. one_after_another read size (λ at. at) (ap length (sym p.were) i) (p.at i + off) D) ∙ ((λ i. one_after_another read size (λ at. at) (was_count i) (was.segment.at + off) D) ∙ (reads ∙ ap Ok p.were)) in
    let after = patched read size write Is codec D D' (d.segment.at + off) p.front p.before p.middle p.back before p.stay p.entries over in (
      read_in other d.segment id (data_of other d.segment) find d stands (p.id ∙ f.own) (again count),
      (λ i. one_after_another read size (λ at. at) ((p.count ∙ ap length p.are) i) (d.segment.at + off) D') ∙ (after ∙ ap Ok (sym p.are)),
    )

pub directory_patched : (image other : List ℕ) (position : ℤ) (pieces : List Piece) (was d : Directory) (old new : List Entry) → in_segment image directory_id position directory ≡ Some was → entries image (Some was) ≡ Ok old
    → Wrote image other pieces → length image ≤ length other → length other < 2 ^ 63 → 112 ≤ d.segment.at → length new ≤ 2 ^ 20 → Patches 128 entry_len entry_bytes IsEntry pieces was d old new
    → (in_segment other directory_id (pos d.segment.at) directory ≡ Some d) × (entries other (Some d) ≡ Ok new)
unfolding directory entry_count
directory_patched image other position pieces was d old new found read wrote longer small far few p =
    let fits : nat_le 128 d.segment.allocated ≡ true = le-leb 128 d.segment.allocated (omega (arith, p.room)) in
    patched_list image other directory_id position directory 128 160 entry entry_len entry_bytes IsEntry pieces was d old new directory_own entry_codec (omega arith) found read wrote longer small far (omega (arith, few)) p
    (λ count. rw (count, fits) refl)

total_a1 : (xs : List A1) → total a1_len xs ≡ 128 * length xs
total_a1 [] = refl
total_a1 (x ∷ xs) = omega (arith, total_a1 xs)

pub attdir_patched : (image other : List ℕ) (position : ℤ) (pieces : List Piece) (was d : Directory) (old new : List A1) → in_segment image attdir_id position attachment_directory ≡ Some was → a1_entries image (Some was) ≡ Ok old
    → Wrote image other pieces → length image ≤ length other → length other < 2 ^ 63 → 112 ≤ d.segment.at → length new ≤ 2 ^ 12 → Patches 256 a1_len a1_bytes IsA1 pieces was d old new
    → (in_segment other attdir_id (pos d.segment.at) attachment_directory ≡ Some d) × (a1_entries other (Some d) ≡ Ok new)
unfolding attachment_directory entry_count
attdir_patched image other position pieces was d old new found read wrote longer small far few p =
    let fits : nat_le (256 + 128 * d.count) d.segment.allocated ≡ true = le-leb _ d.segment.allocated (omega (arith, p.room, p.count, total_a1 new)) in
    patched_list image other attdir_id position attachment_directory 256 288 a1 a1_len a1_bytes IsA1 pieces was d old new attdir_own a1_codec (omega arith) found read wrote longer small far (omega (arith, few)) p
    (λ count. rw (count, fits) refl)
