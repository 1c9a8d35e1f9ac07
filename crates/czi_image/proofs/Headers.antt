-- The first rules over the first 112 bytes are those over the image.
use Rattle.std.proofs.Common.{◌≡◌, ◌↔◌, ℕ, zero, suc, ◌+◌, ◌≤◌, ◌<◌, ℤ, pos, negsuc, take, List, length, nat_le, Bool, true, false, ◌&&◌, Option, Some, None, Result, Ok, Err, bytes_eq, refl, ap, sym, ◌∙◌, arith}
use Rattle.std.proofs.lemmas.Bool.{le-leb, lt-leb}
use Rattle.std.proofs.lemmas.List.{length-take}
use Rattle.czi_format.specs.Bytes.{bytes_at, i32_at, i64_at}
use Rattle.czi_format.specs.Partial.{◌>>=◌, given, is_zero}
use Rattle.czi_format.specs.FirstFault as fault
use Rattle.czi_format.specs.FirstFault.{unless}
use Rattle.czi_format.specs.Segment.{Segment, header_at, file_id}
use Rattle.czi_format.specs.Live.{FileHeader, FileHead, front_header, front_head, file_header, has_header_sizes, header_fields}
use Rattle.czi_format.specs.HeaderRules as rules
use Rattle.czi_format.specs.HeaderRules.{HeaderRefusal, header_rules}
use Rattle.czi_format.specs.Refusals as refusals
use Rattle.czi_format.specs.Refusals.{Refusal, first_rules}
use Rattle.czi_format.proofs.Local.{front_is}
use Rattle.czi_format.proofs.HeaderRules.{front_passes}
use Rattle.czi_seg.specs.View.{header_of}
use Rattle.czi_seg.specs.HeaderView as view
use Rattle.czi_seg.specs.HeaderView.{ReadsHeader, SaysOfHeader, head_of}
use Rattle.czi_seg.specs.declared.header.SegHeader.{SegHeader}
use Rattle.czi_seg.specs.declared.file_header.FileHeader.{FileHeader as CodeFileHeader}
use Rattle.czi_seg.specs.declared.file_header.HeaderFault.{HeaderFault}
use Rattle.czi_seg.specs.declared.file_header.HeaderFault.TheVariants.{Short, BadId, BadSizes, MultiPart}
use Rattle.czi_image.specs.Windows.{front_within}
use Rattle.czi_image.specs.Rules.{first_rules_in, fault_of}
use Rattle.czi_image.specs.Devices.{image_device}
use Rattle.czi_image.specs.Faults.{Tells}
use Rattle.czi_image.specs.View.{header_fields_of}
use Rattle.czi_image.proofs.Windows.{i32_in_window, i64_in_window, front_of_window}
use Rattle.czi_format.proofs.Local.{part_of_part}

header_of_front : (image : List ℕ) → header_at (bytes_at image 0 112) 0 ≡ header_at image 0
unfolding header_at
header_of_front image =
    let id : bytes_at (bytes_at image 0 112) 0 16 ≡ bytes_at image 0 16 = front_of_window image 0 112 16 (omega arith) in
    let allocated : i64_at (bytes_at image 0 112) 16 ≡ i64_at image 16 = i64_in_window image 0 112 16 (omega arith) in
    let used : i64_at (bytes_at image 0 112) 24 ≡ i64_at image 24 = i64_in_window image 0 112 24 (omega arith) in
    simp (id, allocated, used)

front_length : (image : List ℕ) → 112 ≤ length image → length (bytes_at image 0 112) ≡ 112
unfolding bytes_at
front_length image long = length-take 112 image ∙ omega (arith, long)

front_header_of_front : (image : List ℕ) → 112 ≤ length image → front_header (bytes_at image 0 112) ≡ front_header image
front_header_of_front image long =
    let header : header_at (bytes_at image 0 112) 0 ≡ header_at image 0 = header_of_front image in
    let width : length (bytes_at image 0 112) ≡ 112 = front_length image long in
    let room : nat_le 112 (length (bytes_at image 0 112)) ≡ true = le-leb _ _ (omega (arith, width)) in
    let roomy : nat_le 112 (length image) ≡ true = le-leb _ _ long in
    let identity : bytes_at (bytes_at image 0 112) 32 52 ≡ bytes_at image 32 52 = part_of_part image 0 112 32 52 (omega arith) in
    let part : i32_at (bytes_at image 0 112) 80 ≡ i32_at image 80 = i32_in_window image 0 112 80 (omega arith) in
    let dir : i64_at (bytes_at image 0 112) 84 ≡ i64_at image 84 = i64_in_window image 0 112 84 (omega arith) in
    let meta : i64_at (bytes_at image 0 112) 92 ≡ i64_at image 92 = i64_in_window image 0 112 92 (omega arith) in
    let att : i64_at (bytes_at image 0 112) 104 ≡ i64_at image 104 = i64_in_window image 0 112 104 (omega arith) in
    simp (header, room, roomy, identity, part, dir, meta, att)

first_rules_in_window : (image : List ℕ) → 112 ≤ length image → first_rules_in (bytes_at image 0 112) (length image) ≡ first_rules image
unfolding first_rules_in first_rules front_within file_header
first_rules_in_window image long =
    let header : front_header (bytes_at image 0 112) ≡ front_header image = front_header_of_front image long in
    let pending : i32_at (bytes_at image 0 112) 100 ≡ i32_at image 100 = i32_in_window image 0 112 100 (omega arith) in
    simp (header, pending)

-- the same of what was read
pub first_shown : (image front : List ℕ) (n : ℕ) → 112 ≤ n → n ≡ length image → front ≡ take 112 image → first_rules_in front n ≡ first_rules image
unfolding bytes_at
first_shown image front n room long read =
    ap (λ (m : ℕ). first_rules_in front m) long ∙ (ap (λ (f : List ℕ). first_rules_in f (length image)) read ∙ first_rules_in_window image (omega (arith, room, long)))

-- below 112 bytes there is no file header
pub no_header : (image : List ℕ) → length image < 112 → first_rules image ≡ Err refusals.not_czi
unfolding first_rules file_header
no_header image short = let small : nat_le 112 (length image) ≡ false = lt-leb 112 (length image) short in let none : front_header image ≡ None = rw small (nothing (header_at image 0)) in rw none
  where
    nothing : (o : Option Segment) → (o >>= λ s. given (false && bytes_eq s.id file_id && has_header_sizes s) (header_fields image s)) ≡ None
    nothing None = refl
    nothing (Some s) = refl

within_none : (front : List ℕ) (n : ℕ) → front_header front ≡ None → first_rules_in front n ≡ Err refusals.not_czi
unfolding first_rules_in front_within
within_none front n none = rw none

pub no_segment : (front : List ℕ) (n : ℕ) → header_at front 0 ≡ None → first_rules_in front n ≡ Err refusals.not_czi
no_segment front n none = within_none front n (rw none)

-- a segment that ends behind the image
pub long_segment : (front : List ℕ) (n : ℕ) (s : Segment) → header_at front 0 ≡ Some s → n < 32 + s.allocated → first_rules_in front n ≡ Err refusals.not_czi
unfolding first_rules_in front_within
long_segment front n s here long = by_header (front_header front) refl
  where
    by_header : (o : Option FileHeader) → front_header front ≡ o → first_rules_in front n ≡ Err refusals.not_czi
    by_header None is = within_none front n is
    by_header (Some h) is =
        let same : Some s ≡ Some h.segment = sym here ∙ (front_is front h is).header in
        let own : s ≡ h.segment = cc in
        let no : nat_le (32 + h.segment.allocated) n ≡ false = lt-leb _ _ (omega (arith, long, ap (λ (z : Segment). z.allocated) own)) in
        rw (is, no)

not_zero : (z : ℤ) → (z ≡ pos 0 → ⊥) → is_zero z ≡ false
not_zero (pos zero) some = absurd (some refl)
not_zero (pos (suc n)) some = refl
not_zero (negsuc n) some = refl

-- a header that was read, in a segment that ends in the image
by_rules : (front : List ℕ) (n : ℕ) (h : FileHeader) (z : ℤ) → front_header front ≡ Some h → 32 + h.segment.allocated ≤ n → i32_at front 100 ≡ z
    → first_rules_in front n ≡ fault.◌>>◌ (unless (is_zero h.part) (refusals.multi_part h.part)) (fault.◌>>◌ (unless (is_zero z) (refusals.pending z)) (Ok h))
unfolding first_rules_in front_within
by_rules front n h z is fits value = let room : nat_le (32 + h.segment.allocated) n ≡ true = le-leb _ _ fits in rw (is, room, value)

own_segment : (front : List ℕ) (h : FileHeader) (s : Segment) → front_header front ≡ Some h → header_at front 0 ≡ Some s → s ≡ h.segment
own_segment front h s is here = let same : Some s ≡ Some h.segment = sym here ∙ (front_is front h is).header in cc

header_is : (front : List ℕ) (h : FileHeader) (file : CodeFileHeader) (head : SegHeader) → front_header front ≡ Some h → h.part ≡ pos 0 → head_of file ≡ front_head front
    → header_at front 0 ≡ Some (header_of 0 head) → h ≡ header_fields_of file head
header_is front h file head is first says here =
    let fronts = front_is front h is in
    let own : h.segment ≡ header_of 0 head = sym (own_segment front h (header_of 0 head) is here) in
    let part : i32_at front 80 ≡ pos 0 = ap (λ (z : FileHeader). z.part) fronts.fields ∙ first in
    let fields : header_fields front h.segment ≡ header_fields_of file head = λ i. record {
      segment = own i;
      identity = ap (λ (z : FileHead). z.identity) (sym says) i;
      part = part i;
      directory = ap (λ (z : FileHead). z.directory) (sym says) i;
      metadata = ap (λ (z : FileHead). z.metadata) (sym says) i;
      attachments = ap (λ (z : FileHead). z.attachments) (sym says) i;
    } in
    sym fronts.fields ∙ fields

-- both headers give the same size
pub same_size : (front : List ℕ) (file : CodeFileHeader) (head : SegHeader) → ReadsHeader front file → header_at front 0 ≡ Some (header_of 0 head) → file.allocated ≡ head.allocated
same_size front file head reads here = reads.allocated ∙ sym (ap (λ (z : Segment). z.allocated) (own_segment front reads.header (header_of 0 head) reads.stands here))

pub header_passes : (front : List ℕ) (n : ℕ) (file : CodeFileHeader) (head : SegHeader) → ReadsHeader front file → header_at front 0 ≡ Some (header_of 0 head) → 32 + head.allocated ≤ n
    → file.pending ≡ pos 0 → first_rules_in front n ≡ Ok (header_fields_of file head)
header_passes front n file head reads here fits settled =
    let h : FileHeader = reads.header in
    let own = own_segment front h (header_of 0 head) reads.stands here in
    let value : i32_at front 100 ≡ pos 0 = sym (ap (λ (z : FileHead). z.pending) reads.head) ∙ settled in
    let is : h ≡ header_fields_of file head = header_is front h file head reads.stands reads.first reads.head here in
    let passes : fault.◌>>◌ (unless (is_zero h.part) (refusals.multi_part h.part)) (fault.◌>>◌ (unless (is_zero (pos 0)) (refusals.pending (pos 0))) (Ok h)) ≡ Ok h = rw reads.first in
    by_rules front n h (pos 0) reads.stands (omega (arith, fits, ap (λ (z : Segment). z.allocated) own)) value
    ∙ (passes ∙ ap (λ (z : FileHeader). let r : Result FileHeader Refusal = Ok z in r) is)

pub header_pending : (front : List ℕ) (n : ℕ) (file : CodeFileHeader) (head : SegHeader) → ReadsHeader front file → header_at front 0 ≡ Some (header_of 0 head) → 32 + head.allocated ≤ n
    → (file.pending ≡ pos 0 → ⊥) → first_rules_in front n ≡ Err (refusals.pending file.pending)
header_pending front n file head reads here fits waits =
    let h : FileHeader = reads.header in
    let own = own_segment front h (header_of 0 head) reads.stands here in
    let value : i32_at front 100 ≡ file.pending = sym (ap (λ (z : FileHead). z.pending) reads.head) in
    let no : is_zero file.pending ≡ false = not_zero file.pending waits in
    by_rules front n h file.pending reads.stands (omega (arith, fits, ap (λ (z : Segment). z.allocated) own)) value ∙ rw (reads.first, no)

-- where another part's header stands, the part refuses
another_part : (front : List ℕ) (h : FileHeader) (r : HeaderRefusal) → front_header front ≡ Some h → header_rules front ≡ Err r → is_zero h.part ≡ false
another_part front h r is refused = by_part (is_zero h.part) refl
  where
    by_part : (b : Bool) → is_zero h.part ≡ b → b ≡ false
    by_part false e = refl
    by_part true e = let ok : header_rules front ≡ Ok h = front_passes front h (front_is front h is) ∙ rw e in absurd (cc)

pub header_refused : (front : List ℕ) (n : ℕ) (f : HeaderFault) (head : SegHeader) → SaysOfHeader front f
    → ((r : HeaderRefusal) → (let x : Result CodeFileHeader HeaderFault = Err f in x) ≡ Err (view.fault_of r) ↔ (header_rules front ≡ Err r))
    → header_at front 0 ≡ Some (header_of 0 head) → 32 + head.allocated ≤ n → Tells (first_rules_in front n) (fault_of f)
header_refused front n Short head says refused here fits = within_none front n says
header_refused front n BadId head says refused here fits = within_none front n says
header_refused front n BadSizes head says refused here fits = within_none front n says
header_refused front n (MultiPart part) head (h, is, part_is) refused here fits =
    let own = own_segment front h (header_of 0 head) is here in
    let no : is_zero h.part ≡ false = another_part front h (rules.multi_part part) is ((refused (rules.multi_part part)).0 refl) in
    by_rules front n h (i32_at front 100) is (omega (arith, fits, ap (λ (z : Segment). z.allocated) own)) refl
    ∙ rw no (ap (λ (z : ℤ). let r : Result FileHeader Refusal = Err (refusals.multi_part z) in r) part_is)

pub told_own : (f : HeaderFault) → image_device (fault_of f) ≡ None
told_own Short = refl
told_own BadId = refl
told_own BadSizes = refl
told_own (MultiPart part) = refl
