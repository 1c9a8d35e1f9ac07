-- The rules of the file header refuse exactly where no file header of a first part stands.
use Rattle.std.proofs.Common.{◌≡◌, ℕ, ℤ, pos, List, length, Bool, true, false, nat_le, Option, Some, None, Result, Ok, Err, refl, ap, sym, ◌∙◌, bytes_eq}
use Rattle.std.proofs.lemmas.Bool.{leb-true, le-leb}
use Rattle.std.specs.Option.{ok_or}
use Rattle.czi_format.specs.Bytes.{bytes_at, i32_at}
use Rattle.czi_format.specs.Partial.{is_zero}
use Rattle.czi_format.specs.FirstFault.{◌>>=◌, ◌>>◌, unless}
use Rattle.czi_format.specs.Segment.{Segment, header_at, file_id}
use Rattle.czi_format.specs.Live.{FileHeader, has_header_sizes, header_fields, front_header}
use Rattle.czi_format.specs.HeaderRules as rules
use Rattle.czi_format.specs.HeaderRules.{HeaderRefusal, header_rules}
use Rattle.czi_format.proofs.Readings.{IsHeader, header_is_read}
use Rattle.czi_format.proofs.Local.{Fronts, front_is, is_front}
use Rattle.czi_format.proofs.Rules.{on_ok, on_rule, ok_or_ok, unless_none, zero_is}

-- where no rule refuses, the header stands, of a first part
pub rules_front : (bytes : List ℕ) (h : FileHeader) → header_rules bytes ≡ Ok h → Fronts bytes h × (h.part ≡ pos 0)
unfolding header_rules
rules_front bytes h e =
    on_rule (unless (nat_le 112 (length bytes)) rules.short) _ h e λ long e1.
    on_rule (unless (bytes_eq (bytes_at bytes 0 16) file_id) rules.bad_id) _ h e1 λ id e2.
    on_ok (ok_or (header_at bytes 0) rules.bad_sizes) _ h e2 λ segment found e3.
    on_rule (unless (has_header_sizes segment) rules.bad_sizes) _ h e3 λ sizes e4.
    on_rule (unless (is_zero (i32_at bytes 80)) (rules.multi_part (i32_at bytes 80))) _ h e4 λ part e5.
    let fields : header_fields bytes segment ≡ h = cc in
    let own : segment ≡ h.segment = ap (λ (z : FileHeader). z.segment) fields in
    let header : header_at bytes 0 ≡ Some segment = ok_or_ok _ _ segment found in
    let is : IsHeader bytes 0 segment = header_is_read bytes 0 segment header in
    let part_is : i32_at bytes 80 ≡ h.part = ap (λ (z : FileHeader). z.part) fields in (
      record {
        header = header ∙ ap Some own;
        long = leb-true _ _ (unless_none _ _ long);
        id = ap (λ (z : Segment). bytes_eq z.id file_id) (sym own) ∙ (ap (λ l. bytes_eq l file_id) is.id ∙ unless_none _ _ id);
        sizes = ap has_header_sizes (sym own) ∙ unless_none _ _ sizes;
        fields = ap (header_fields bytes) (sym own) ∙ fields;
      },
      sym part_is ∙ zero_is (i32_at bytes 80) (unless_none _ _ part),
    )

passes : (bytes : List ℕ) (s : Segment) → nat_le 112 (length bytes) ≡ true → bytes_eq (bytes_at bytes 0 16) file_id ≡ true → header_at bytes 0 ≡ Some s
    → has_header_sizes s ≡ true → header_rules bytes ≡ (unless (is_zero (i32_at bytes 80)) (rules.multi_part (i32_at bytes 80)) >> Ok (header_fields bytes s))
unfolding header_rules
passes bytes s long id found sizes = rw (long, id, found, sizes)

-- where the header stands, the part alone can refuse
pub front_passes : (bytes : List ℕ) (h : FileHeader) → Fronts bytes h → header_rules bytes ≡ (unless (is_zero h.part) (rules.multi_part h.part) >> Ok h)
front_passes bytes h fronts =
    let is : IsHeader bytes 0 h.segment = header_is_read bytes 0 h.segment fronts.header in
    let id : bytes_eq (bytes_at bytes 0 16) file_id ≡ true = ap (λ l. bytes_eq l file_id) (sym is.id) ∙ fronts.id in
    passes bytes h.segment (le-leb _ _ fronts.long) id fronts.header fronts.sizes
    ∙ ap (λ (z : FileHeader). unless (is_zero z.part) (rules.multi_part z.part) >> Ok z) fronts.fields

on_rule_refused : {A E G : Type 0} (o : Option E) (rest : Result A E) (r : E) → o >> rest ≡ Err r → (o ≡ Some r → G) → (o ≡ None → rest ≡ Err r → G) → G
on_rule_refused None rest r e here behind = behind refl e
on_rule_refused (Some x) rest r e here behind = here (let same : x ≡ r = cc in ap Some same)

on_refused : {A B E G : Type 0} (o : Result A E) (f : A → Result B E) (r : E) → o >>= f ≡ Err r → (o ≡ Err r → G) → ((x : A) → o ≡ Ok x → f x ≡ Err r → G) → G
on_refused (Ok x) f r e here behind = behind x refl e
on_refused (Err x) f r e here behind = here (let same : x ≡ r = cc in ap Err same)

unless_some : {E : Type 0} (b : Bool) (e r : E) → unless b e ≡ Some r → e ≡ r
unless_some true e r h = cc
unless_some false e r h = cc

ok_or_err : {A E : Type 0} (o : Option A) (e r : E) → ok_or o e ≡ Err r → e ≡ r
ok_or_err None e r h = cc
ok_or_err (Some x) e r h = cc

-- a header of another part stands where the part alone refuses
pub part_front : (bytes : List ℕ) (z : ℤ) → header_rules bytes ≡ Err (rules.multi_part z) → (h : FileHeader) × (front_header bytes ≡ Some h) × (h.part ≡ z)
unfolding header_rules
part_front bytes z e =
    let r : HeaderRefusal = rules.multi_part z in
    on_rule_refused (unless (nat_le 112 (length bytes)) rules.short) _ r e (λ s. let no : rules.short ≡ r = unless_some _ _ r s in absurd (cc)) λ long e1.
    on_rule_refused (unless (bytes_eq (bytes_at bytes 0 16) file_id) rules.bad_id) _ r e1 (λ s. let no : rules.bad_id ≡ r = unless_some _ _ r s in absurd (cc)) λ id e2.
    on_refused (ok_or (header_at bytes 0) rules.bad_sizes) _ r e2 (λ s. let no : rules.bad_sizes ≡ r = ok_or_err _ _ r s in absurd (cc)) λ segment found e3.
    on_rule_refused (unless (has_header_sizes segment) rules.bad_sizes) _ r e3 (λ s. let no : rules.bad_sizes ≡ r = unless_some _ _ r s in absurd (cc)) λ sizes e4.
    on_rule_refused (unless (is_zero (i32_at bytes 80)) (rules.multi_part (i32_at bytes 80))) _ r e4
    (λ s.
    let part : rules.multi_part (i32_at bytes 80) ≡ r = unless_some _ _ r s in
    let header : header_at bytes 0 ≡ Some segment = ok_or_ok _ _ segment found in
    let is : IsHeader bytes 0 segment = header_is_read bytes 0 segment header in
    let fronts : Fronts bytes (header_fields bytes segment) = record {
      header = header;
      long = leb-true _ _ (unless_none _ _ long);
      id = ap (λ l. bytes_eq l file_id) is.id ∙ unless_none _ _ id;
      sizes = unless_none _ _ sizes;
      fields = refl;
    } in
    (header_fields bytes segment, is_front bytes _ fronts, cc))
    (λ none ok. absurd (cc))

-- the part's rule, where it refuses
part_refuses : (z : ℤ) (h : FileHeader) (r : HeaderRefusal) → (unless (is_zero z) (rules.multi_part z) >> Ok h) ≡ Err r → rules.multi_part z ≡ r
part_refuses z h r e = on_rule_refused (unless (is_zero z) (rules.multi_part z)) (Ok h) r e (λ s. unless_some _ _ r s) (λ none ok. absurd (cc))

-- no header stands where another rule refuses
pub no_front : (bytes : List ℕ) (r : HeaderRefusal) → header_rules bytes ≡ Err r → ((z : ℤ) → rules.multi_part z ≡ r → ⊥) → front_header bytes ≡ None
no_front bytes r e other = none_is (front_header bytes) refl
  where
    none_is : (o : Option FileHeader) → front_header bytes ≡ o → o ≡ None
    none_is None is = refl
    none_is (Some h) is =
        let ruled : header_rules bytes ≡ (unless (is_zero h.part) (rules.multi_part h.part) >> Ok h) = front_passes bytes h (front_is bytes h is) in
        absurd (other h.part (part_refuses h.part h r (sym ruled ∙ e)))
