-- The rules refuse exactly where no entry stands.
use Rattle.std.proofs.Common.{◌≡◌, ℕ, zero, suc, ◌+◌, ◌-◌, ◌*◌, ◌≤◌, ◌&&◌, ◌==◌, ℤ, pos, negsuc, List, ◌∷◌, take, drop, length, codes, true, nat_le, Option, Some, None, Ok, Err, refl, ap, sym, ◌∙◌, arith, bytes_eq, zero-add}
use Rattle.std.proofs.lemmas.Bool.{eqb-true, leb-true, le-leb}
use Rattle.std.proofs.lemmas.List.{drop-take, get_or-take, length-take-le}
use Rattle.std.specs.Option.{ok_or}
use Rattle.czi_format.specs.Bytes.{bytes_at, byte_at, i32_at, i64_at}
use Rattle.czi_format.specs.Partial.{natural, is_zero}
use Rattle.czi_format.specs.FirstFault.{unless}
use Rattle.czi_format.specs.Entry.{Entry, EntryBytes, dim, dims, entry, entry_fields}
use Rattle.czi_format.specs.EntryRules as rules
use Rattle.czi_format.specs.EntryRules.{EntryRefusal, record_count, entry_rules}
use Rattle.czi_format.proofs.Readings.{bind_some, given_some, both_true, natural_some}
use Rattle.czi_format.proofs.Local.{part_of_part, i32_same, i64_same}
use Rattle.czi_format.proofs.Rules.{on_ok, on_rule, ok_or_ok, unless_none, zero_is}

-- n dimension records are stored, 1 to 40
pub record HasRecords (stored : ℤ) (n : ℕ) : Type 0 where
  pub is : stored ≡ pos n
  pub some : 1 ≤ n
  pub few : n ≤ 40

record_count_some : (z : ℤ) (n : ℕ) → record_count z ≡ Some n → HasRecords z n
record_count_some (pos m) n e =
    let g = given_some (nat_le 1 m && nat_le m 40) m n e in
    let b = both_true (nat_le 1 m) (nat_le m 40) g.0 in
    record { is = ap pos g.1; some = omega (arith, leb-true 1 m b.0, g.1); few = omega (arith, leb-true m 40 b.1, g.1) }
record_count_some (negsuc m) n e = cc

-- An entry with n dimension records stands at the front of the bytes.
pub record HoldsEntry (bytes : List ℕ) (n : ℕ) : Type 0 where
  pub reads : entry bytes ≡ Some (entry_fields bytes n)
  pub schema : bytes_eq (bytes_at bytes 0 2) (codes "DV") ≡ true
  pub records : HasRecords (i32_at bytes 28) n
  pub part : i32_at bytes 14 ≡ pos 0
  pub fits : 32 + 20 * n ≤ length bytes

entry_holds : (bytes : List ℕ) (n : ℕ) → bytes_eq (bytes_at bytes 0 2) (codes "DV") ≡ true → HasRecords (i32_at bytes 28) n → i32_at bytes 14 ≡ pos 0
    → 32 + 20 * n ≤ length bytes → entry bytes ≡ Some (entry_fields bytes n)
unfolding entry
entry_holds bytes n schema records part fits =
    let a : nat_le 1 n ≡ true = le-leb 1 n records.some in
    let b : nat_le n 40 ≡ true = le-leb n 40 records.few in
    let c : nat_le (32 + 20 * n) (length bytes) ≡ true = le-leb _ _ fits in
    rw (records.is, part, schema, a, b, c)

-- where no rule refuses, the entry stands
pub rules_hold : (bytes : List ℕ) (n : ℕ) → entry_rules bytes ≡ Ok n → HoldsEntry bytes n
unfolding entry_rules
rules_hold bytes n e =
    on_rule (unless (nat_le 32 (length bytes)) rules.short) _ n e λ long e1.
    on_rule (unless (bytes_eq (bytes_at bytes 0 2) (codes "DV")) rules.schema) _ n e1 λ schema e2.
    on_ok (ok_or (record_count (i32_at bytes 28)) (rules.dims (i32_at bytes 28))) _ n e2 λ count counted e3.
    on_rule (unless (is_zero (i32_at bytes 14)) (rules.part (i32_at bytes 14))) _ n e3 λ part e4.
    on_rule (unless (nat_le (32 + 20 * count) (length bytes)) rules.short) _ n e4 λ fits e5.
    let same : count ≡ n = cc in
    let records : HasRecords (i32_at bytes 28) n = record_count_some (i32_at bytes 28) n (ok_or_ok _ _ count counted ∙ ap Some same) in
    let within : 32 + 20 * n ≤ length bytes = omega (arith, leb-true (32 + 20 * count) (length bytes) (unless_none _ _ fits), same) in
    record {
      reads = entry_holds bytes n (unless_none _ _ schema) records (zero_is (i32_at bytes 14) (unless_none _ _ part)) within;
      schema = unless_none _ _ schema;
      records = records;
      part = zero_is (i32_at bytes 14) (unless_none _ _ part);
      fits = within;
    }

rules_pass : (bytes : List ℕ) (n : ℕ) → nat_le 32 (length bytes) ≡ true → bytes_eq (bytes_at bytes 0 2) (codes "DV") ≡ true → i32_at bytes 28 ≡ pos n
    → nat_le 1 n ≡ true → nat_le n 40 ≡ true → i32_at bytes 14 ≡ pos 0 → nat_le (32 + 20 * n) (length bytes) ≡ true → entry_rules bytes ≡ Ok n
unfolding entry_rules
rules_pass bytes n long schema count some few part fits = rw (long, schema, count, some, few, part, fits)

-- where the entry stands, no rule refuses
pub entry_passes : (bytes : List ℕ) (e : Entry) → entry bytes ≡ Some e → (n : ℕ) × (entry_rules bytes ≡ Ok n)
unfolding entry
entry_passes bytes e found =
    let c = bind_some (natural (i32_at bytes 28)) _ e found in
    let p = bind_some (natural (i32_at bytes 14)) _ e c.2 in
    let g = given_some _ _ e p.2 in
    let t1 = both_true (bytes_eq (bytes_at bytes 0 2) (codes "DV") && (p.0 == 0) && nat_le 1 c.0 && nat_le c.0 40) (nat_le (32 + 20 * c.0) (length bytes)) g.0 in
    let t2 = both_true (bytes_eq (bytes_at bytes 0 2) (codes "DV") && (p.0 == 0) && nat_le 1 c.0) (nat_le c.0 40) t1.0 in
    let t3 = both_true (bytes_eq (bytes_at bytes 0 2) (codes "DV") && (p.0 == 0)) (nat_le 1 c.0) t2.0 in
    let t4 = both_true (bytes_eq (bytes_at bytes 0 2) (codes "DV")) (p.0 == 0) t3.0 in
    let long : nat_le 32 (length bytes) ≡ true = le-leb _ _ (omega (arith, leb-true (32 + 20 * c.0) (length bytes) t1.1)) in
    let count : i32_at bytes 28 ≡ pos c.0 = natural_some _ _ c.1 in
    let part : i32_at bytes 14 ≡ pos 0 = natural_some _ _ p.1 ∙ ap pos (eqb-true p.0 0 t4.1) in
    (c.0, rules_pass bytes c.0 long t4.0 count t3.1 t2.1 part t1.1)

either : (o : Option Entry) (bytes : List ℕ) (f : EntryRefusal) → entry bytes ≡ o → entry_rules bytes ≡ Err f → o ≡ None
either None bytes f e refused = refl
either (Some x) bytes f e refused =
    let passes = entry_passes bytes x e in
    let n : ℕ = passes.0 in
    let ok : entry_rules bytes ≡ Ok n = passes.1 in
    cc

-- where a rule refuses, no entry stands
pub refused_none : (bytes : List ℕ) (f : EntryRefusal) → entry_rules bytes ≡ Err f → entry bytes ≡ None
refused_none bytes f refused = either (entry bytes) bytes f refl refused

-- the front of a list has its fields
front : (bytes : List ℕ) (m at n : ℕ) → at + n ≤ m → bytes_at (take m bytes) at n ≡ bytes_at bytes at n
unfolding bytes_at
front bytes m at n fits = part_of_part bytes 0 m at n fits ∙ ap (λ k. bytes_at bytes k n) (zero-add at)

i32_front : (bytes : List ℕ) (m at : ℕ) → at + 4 ≤ m → i32_at (take m bytes) at ≡ i32_at bytes at
i32_front bytes m at fits = i32_same (take m bytes) bytes at (front bytes m at 4 fits)

i64_front : (bytes : List ℕ) (m at : ℕ) → at + 8 ≤ m → i64_at (take m bytes) at ≡ i64_at bytes at
i64_front bytes m at fits = i64_same (take m bytes) bytes at (front bytes m at 8 fits)

byte_front : (bytes : List ℕ) (m at : ℕ) → at + 1 ≤ m → byte_at (take m bytes) at ≡ byte_at bytes at
unfolding byte_at
byte_front bytes m at fits = get_or-take m bytes at 0 (omega arith)

dim_front : (bytes : List ℕ) (m : ℕ) → 20 ≤ m → dim (take m bytes) ≡ dim bytes
unfolding dim
dim_front bytes m fits = λ i. record {
  name = front bytes m 0 4 (omega arith) i;
  start = i32_front bytes m 4 (omega arith) i;
  size = i32_front bytes m 8 (omega arith) i;
  coord = front bytes m 12 4 (omega arith) i;
  stored = i32_front bytes m 16 (omega arith) i;
}

dims_front : (n m : ℕ) (bytes : List ℕ) → 20 * n ≤ m → dims n (take m bytes) ≡ dims n bytes
unfolding dims
dims_front zero m bytes fits = refl
dims_front (suc n) m bytes fits =
    let cut : 20 + (m - 20) ≡ m = omega arith in
    let behind : drop 20 (take m bytes) ≡ take (m - 20) (drop 20 bytes) = ap (λ k. drop 20 (take k bytes)) (sym cut) ∙ drop-take 20 (m - 20) bytes in
    let rest : dims n (drop 20 (take m bytes)) ≡ dims n (drop 20 bytes) = ap (dims n) behind ∙ dims_front n (m - 20) (drop 20 bytes) (omega arith) in
    λ i. dim_front bytes m (omega arith) i ∷ rest i

pub length-dims : (n : ℕ) (bytes : List ℕ) → length (dims n bytes) ≡ n
unfolding dims
length-dims zero bytes = refl
length-dims (suc n) bytes = ap suc (length-dims n (drop 20 bytes))

fields_front : (bytes : List ℕ) (n m : ℕ) → 32 + 20 * n ≤ m → entry_fields (take m bytes) n ≡ entry_fields bytes n
fields_front bytes n m fits =
    let cut : 32 + (m - 32) ≡ m = omega arith in
    let behind : drop 32 (take m bytes) ≡ take (m - 32) (drop 32 bytes) = ap (λ k. drop 32 (take k bytes)) (sym cut) ∙ drop-take 32 (m - 32) bytes in
    let records : dims n (drop 32 (take m bytes)) ≡ dims n (drop 32 bytes) = ap (dims n) behind ∙ dims_front n (m - 32) (drop 32 bytes) (omega arith) in
    λ i. record {
      info = record {
        pixel = i32_front bytes m 2 (omega arith) i;
        compression = i32_front bytes m 18 (omega arith) i;
        pyramid = byte_front bytes m 22 (omega arith) i;
        spare = front bytes m 23 5 (omega arith) i;
        dims = records i;
      };
      position = i64_front bytes m 6 (omega arith) i;
    }

-- the entry is what its own bytes alone say
pub entry_bytes_are : (bytes : List ℕ) (n : ℕ) (e : Entry) → HoldsEntry bytes n → entry bytes ≡ Some e → EntryBytes e.info e.position (take (32 + 20 * n) bytes)
entry_bytes_are bytes n e holds found =
    let m : ℕ = 32 + 20 * n in
    let own : List ℕ = take m bytes in
    let is : entry_fields bytes n ≡ e = cc (holds.reads, found) in
    let long : length own ≡ m = length-take-le m bytes holds.fits in
    let records : HasRecords (i32_at own 28) n = record { is = i32_front bytes m 28 (omega arith) ∙ holds.records.is; some = holds.records.some; few = holds.records.few } in
    let schema : bytes_eq (bytes_at own 0 2) (codes "DV") ≡ true = ap (λ l. bytes_eq l (codes "DV")) (front bytes m 0 2 (omega arith)) ∙ holds.schema in
    let part : i32_at own 14 ≡ pos 0 = i32_front bytes m 14 (omega arith) ∙ holds.part in
    let reads : entry own ≡ Some (entry_fields own n) = entry_holds own n schema records part (omega (arith, long)) in
    let same : entry_fields own n ≡ entry_fields bytes n = fields_front bytes n m (omega arith) in
    record {
      reads = reads ∙ ap Some (same ∙ is);
      whole = long ∙ (ap (λ k. 32 + 20 * k) (sym (length-dims n (drop 32 bytes))) ∙ ap (λ (x : Entry). 32 + 20 * length x.info.dims) is);
    }
