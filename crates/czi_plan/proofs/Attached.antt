-- The entries of an attachment directory after an act.
use Rattle.std.proofs.Common.{◌≡◌, ◌≢◌, ℕ, ◌+◌, ◌*◌, List, [], ◌∷◌, ◌++◌, map, length, sum, true, false, flat_map, refl, ap, sym, ◌∙◌, arith, pos, replicate, append_assoc, append-nil, length-append, get_or, take, drop, ◌<◌, ◌≤◌, subst, Ok, ◌||◌, nat_lt, inl, inr}
use Rattle.std.specs.List.{AllByRecursion}
use Rattle.std.proofs.lemmas.Bool.{cases_Bool, eq-eqb, ne_eqb}
use Rattle.std.proofs.lemmas.List.{drop-replicate, length-drop, length-take-le, length-map, length-replicate, map-append}
use Rattle.czi_format.specs.Bytes.{i32_bytes, put_at}
use Rattle.czi_format.specs.Data.{attdir_data}
use Rattle.czi_region.proofs.Whole.{put_behind}
use Rattle.czi_machine.proofs.Patched.{a1_codec, length-written}
use Rattle.czi_plan.proofs.Directing.{total_is}
use Rattle.std.proofs.lemmas.List.Concat.{flat_map-append}
use Rattle.std.proofs.lemmas.List.Sums.{sum_by-cons}
use Rattle.czi_format.specs.Entry.{A1, IsA1, a1, a1_bytes, a1_len}
use Rattle.czi_image.specs.View.{att_item_of}
use Rattle.czi_image.specs.declared.types.AttItem.{AttItem}
use Rattle.czi_machine.proofs.Tiled.{All-both}
use Rattle.czi_image.specs.declared.change.Act.{Act as CodeAct}
use Rattle.czi_image.specs.declared.change.Act.TheVariants.{Put, Into}
use Rattle.czi_image.specs.declared.index.Index.{Index}
use Rattle.czi_image.specs.Applied.{walks_on}
use Rattle.czi_att.proofs.Staged.{length-attachment_data}
use Rattle.czi_format.specs.Document.{Attachment}
use Rattle.czi_format.specs.Space.{fit, use_span}
use Rattle.czi_machine.specs.Places.{attachment_need}
use Rattle.czi_machine.specs.Puts.{IsAttachment}
use Rattle.czi_num.specs.Span.{span_of}
use Rattle.czi_space.specs.State.{MapState, space_of}
use Rattle.czi_plan.specs.Bringing.{act_at}
use Rattle.czi_plan.specs.declared.bringing.Seat.{Seat}
use Rattle.czi_plan.specs.declared.bringing.Seat.TheVariants.{Before, Over}
use Rattle.czi_plan.specs.Attaching.{ArePartsOf, IsItemOf, attachment_in, att_back, att_count, att_front, att_middle}
use Rattle.czi_plan.specs.Changing.{IsNew, range_after, range_with, size_after, size_with, back_entries, entries_in, front_entries, middle_entries, tiles_before, tiles_behind, tiles_brought}
use Rattle.czi_plan.specs.Directory.{as_long_in, back_in, middle_in}
use Rattle.czi_plan.specs.Kind.{of_attachments}
use Rattle.czi_plan.specs.Listing.{AreSizes, sizes_with}
use Rattle.czi_plan.specs.declared.tiles.Parts.{Parts}
use Rattle.czi_plan.specs.declared.tiles.Sizes.{Sizes}
use Rattle.czi_plan.proofs.Acts.{parts_behind, range_as, size_as}
use Rattle.czi_plan.proofs.ActStages.{sizes_as}
use Rattle.czi_plan.proofs.Entries.{len_both, sizes_are, take_here}

pub a1_total : (items : List AttItem) → sum (map a1_len (entries_in of_attachments items)) ≡ 128 * length items
a1_total [] = refl
a1_total (i ∷ items) = omega (arith, sum_by-cons (λ n. n) 128 (map a1_len (entries_in of_attachments items)), a1_total items)

-- as many bytes come as leave where as many attachments do
stay : (p : Parts AttItem) → length p.brought.now ≡ length p.leaving.now → as_long_in a1_len (entries_in of_attachments p.brought.now) (entries_in of_attachments p.leaving.now) ≡ true
stay p e = eq-eqb _ _ (omega (arith, e, a1_total p.brought.now, a1_total p.leaving.now))

move : (p : Parts AttItem) → length p.brought.now ≢ length p.leaving.now → as_long_in a1_len (entries_in of_attachments p.brought.now) (entries_in of_attachments p.leaving.now) ≡ false
move p e = ne_eqb _ _ (λ same. e (omega (arith, same, a1_total p.brought.now, a1_total p.leaving.now)))

-- the sizes of a list's parts
pub parts_sized : (p : Parts AttItem) (s : Sizes) → s ≡ sizes_with (256 + 128 * length p.before.now) (128 * length p.brought.now) (128 * length p.leaving.now) (128 * length p.behind.now)
    → AreSizes of_attachments s (att_front p) (att_middle p) (att_back p)
parts_sized p s is = subst (λ s. AreSizes of_attachments s (att_front p) (att_middle p) (att_back p)) (sym is)
    (sizes_are of_attachments (att_front p) (entries_in of_attachments p.brought.now) (entries_in of_attachments p.leaving.now) (entries_in of_attachments p.behind.now) _ _ _ _
    (omega (arith, a1_total p.before.now)) (sym (a1_total p.brought.now)) (sym (a1_total p.leaving.now)) (sym (a1_total p.behind.now)))

-- the entries that are written in place, and all of them
pub middle_stays : (p : Parts AttItem) → length p.brought.now ≡ length p.leaving.now → att_middle p ≡ entries_in of_attachments p.brought.now
middle_stays p e = rw (stay p e) refl

pub middle_moves : (p : Parts AttItem) → length p.brought.now ≢ length p.leaving.now → att_middle p ≡ entries_in of_attachments p.brought.now ++ entries_in of_attachments p.behind.now
middle_moves p e = rw (move p e) refl

-- how many bytes those in the middle have
pub middle_long : (p : Parts AttItem) → (length p.brought.now ≡ length p.leaving.now → sum (map a1_len (att_middle p)) ≡ 128 * length p.brought.now)
    × (length p.brought.now ≢ length p.leaving.now → sum (map a1_len (att_middle p)) ≡ 128 * length p.brought.now + 128 * length p.behind.now)
middle_long p = (
  λ e. ap (λ l. sum (map a1_len l)) (middle_stays p e) ∙ a1_total p.brought.now,
  λ e. ap (λ l. sum (map a1_len l)) (middle_moves p e) ∙ omega (arith, len_both a1_len (entries_in of_attachments p.brought.now) (entries_in of_attachments p.behind.now), a1_total p.brought.now, a1_total p.behind.now),
)

pub middle_least : (p : Parts AttItem) → 128 * length p.brought.now ≤ sum (map a1_len (att_middle p))
middle_least p = elim (cases_Bool (as_long_in a1_len (entries_in of_attachments p.brought.now) (entries_in of_attachments p.leaving.now))) [
  | inl e ↦ rw e (omega (arith, a1_total p.brought.now))
  | inr e ↦ rw e (omega (arith, len_both a1_len (entries_in of_attachments p.brought.now) (entries_in of_attachments p.behind.now), a1_total p.brought.now))
]

pub all_listed : (p : Parts AttItem) → att_front p ++ (att_middle p ++ att_back p) ≡ entries_in of_attachments p.before.now ++ (entries_in of_attachments p.brought.now ++ entries_in of_attachments p.behind.now)
all_listed p = ap (λ l. att_front p ++ l) (parts_behind of_attachments (entries_in of_attachments p.brought.now) (entries_in of_attachments p.leaving.now) (entries_in of_attachments p.behind.now))

pub counted : (p : Parts AttItem) → length (att_front p ++ (att_middle p ++ att_back p)) ≡ att_count p
counted p =
    let B : List A1 = entries_in of_attachments p.before.now in
    let C : List A1 = entries_in of_attachments p.brought.now in
    let D : List A1 = entries_in of_attachments p.behind.now in
    omega (arith, ap length (all_listed p), length-append B (C ++ D), length-append C D, length-map p.before.now of_attachments.entry, length-map p.brought.now of_attachments.entry, length-map p.behind.now of_attachments.entry)

pub all_long : (p : Parts AttItem) → sum (map a1_len (att_front p ++ (att_middle p ++ att_back p))) ≡ 128 * att_count p
all_long p =
    let A : List A1 = entries_in of_attachments p.before.now in
    let B : List A1 = entries_in of_attachments p.brought.now in
    let D : List A1 = entries_in of_attachments p.behind.now in
    omega (arith, ap (λ l. sum (map a1_len l)) (all_listed p), len_both a1_len A (B ++ D), len_both a1_len B D, a1_total p.before.now, a1_total p.brought.now, a1_total p.behind.now)

pub all_bytes : (es fs gs : List A1) → flat_map a1_bytes (es ++ (fs ++ gs)) ≡ flat_map a1_bytes es ++ (flat_map a1_bytes fs ++ flat_map a1_bytes gs)
all_bytes es fs gs = flat_map-append a1_bytes es (fs ++ gs) ∙ ap (λ l. flat_map a1_bytes es ++ l) (flat_map-append a1_bytes fs gs)

-- one more entry
pub bytes_more : (items : List AttItem) (i : ℕ) (t : AttItem) → i < length items → t ≡ get_or items i t → flat_map a1_bytes (entries_in of_attachments (take (i + 1) items)) ≡ flat_map a1_bytes (entries_in of_attachments (take i items)) ++ a1_bytes (att_item_of t).entry
bytes_more items i t h e =
    ap (λ l. flat_map a1_bytes (entries_in of_attachments l)) (take_here items i t h e) ∙ (ap (flat_map a1_bytes) (map-append of_attachments.entry (take i items) (t ∷ []))
    ∙ (flat_map-append a1_bytes (entries_in of_attachments (take i items)) (entries_in of_attachments (t ∷ [])) ∙ ap (λ l. flat_map a1_bytes (entries_in of_attachments (take i items)) ++ l) (append-nil (a1_bytes (att_item_of t).entry))))

pub entries_more : (items : List AttItem) (i : ℕ) (t : AttItem) → i < length items → t ≡ get_or items i t → AllByRecursion IsA1 (entries_in of_attachments (take i items)) → IsA1 (att_item_of t).entry → AllByRecursion IsA1 (entries_in of_attachments (take (i + 1) items))
entries_more items i t h e all one =
    rw (take_here items i t h e, map-append of_attachments.entry (take i items) (t ∷ [])) (All-both IsA1 (entries_in of_attachments (take i items)) (entries_in of_attachments (t ∷ [])) all (one, tt))

-- how long the bytes of entries are, and the data of a directory
pub a1s_long : (es : List A1) → AllByRecursion IsA1 es → length (flat_map a1_bytes es) ≡ sum (map a1_len es)
a1s_long es all = length-written a1 a1_len a1_bytes IsA1 a1_codec es all ∙ total_is a1_len es

pub attdir_long : (es : List A1) (padding : ℕ) → AllByRecursion IsA1 es → length (attdir_data es padding) ≡ 256 + sum (map a1_len es) + padding
attdir_long es padding all = omega (arith, a1s_long es all, length-append (flat_map a1_bytes es) (replicate padding 0), length-replicate {A = ℕ} padding 0)

-- its head, and its parts, put
pub head_as : (n m : ℕ) (b : List ℕ) → b ≡ put_at (replicate 256 0) 0 (i32_bytes (pos n)) → n ≡ m → b ≡ i32_bytes (pos m) ++ replicate 252 0
head_as n m b e same = e ∙ (ap (λ l. i32_bytes (pos n) ++ l) (drop-replicate 4 256 0) ∙ ap (λ k. i32_bytes (pos k) ++ replicate 252 0) same)

pub attdir_put : (old head x y last : List ℕ) (es : List A1) (bytes : List ℕ) (n padding : ℕ) → n ≡ padding → head ≡ i32_bytes (pos (length es)) ++ replicate 252 0 → bytes ≡ flat_map a1_bytes es
    → x ≡ old ++ head → y ≡ x ++ bytes → last ≡ y ++ replicate n 0 → last ≡ old ++ attdir_data es padding
attdir_put old head x y last es bytes n padding fills is are first second third =
    let rest : List ℕ = flat_map a1_bytes es ++ replicate padding 0 in
    put_behind old (head ++ bytes) (replicate padding 0) y last (put_behind old head bytes x y first second) (third ∙ ap (λ k. y ++ replicate k 0) fills)
    ∙ ap (λ l. old ++ l) (append_assoc head bytes (replicate padding 0) ∙ ((λ j. is j ++ (are j ++ replicate padding 0)) ∙ append_assoc (i32_bytes (pos (length es))) (replicate 252 0) rest))

-- the parts of an act on the attachments of an index
pub front_as : (a : CodeAct AttItem) (items items' : List AttItem) (p : Parts AttItem) → items ≡ items' → ArePartsOf a items p → att_front p ≡ front_entries of_attachments a items'
front_as a items items' p same are = ap (entries_in of_attachments) are.before ∙ ap (front_entries of_attachments a) same

pub middle_as : (a : CodeAct AttItem) (items items' : List AttItem) (p : Parts AttItem) → items ≡ items' → ArePartsOf a items p → att_middle p ≡ middle_entries of_attachments a items'
middle_as a items items' p same are = (λ i. middle_in a1_len (entries_in of_attachments (are.brought i)) (entries_in of_attachments (are.leaving i)) (entries_in of_attachments (are.behind i))) ∙ ap (middle_entries of_attachments a) same

pub back_as : (a : CodeAct AttItem) (items items' : List AttItem) (p : Parts AttItem) → items ≡ items' → ArePartsOf a items p → att_back p ≡ back_entries of_attachments a items'
back_as a items items' p same are = (λ i. back_in a1_len (entries_in of_attachments (are.brought i)) (entries_in of_attachments (are.leaving i)) (entries_in of_attachments (are.behind i))) ∙ ap (back_entries of_attachments a) same

pub count_as : (a : CodeAct AttItem) (items items' : List AttItem) (p : Parts AttItem) → items ≡ items' → ArePartsOf a items p → att_count p ≡ length (tiles_before a items' ++ (tiles_brought a ++ tiles_behind a items'))
count_as a items items' p same are =
    omega (
      arith,
      ap (length {A = AttItem}) are.before,
      ap (length {A = AttItem}) are.brought,
      ap (length {A = AttItem}) are.behind,
      ap (λ l. length (tiles_before a l ++ (tiles_brought a ++ tiles_behind a l))) same,
      length-append (tiles_before a items) (tiles_brought a ++ tiles_behind a items),
      length-append (tiles_brought a) (tiles_behind a items),
    )

-- the sizes of an act, and how many attachments there are once one left
pub sizes_for : (a : CodeAct AttItem) (items items' : List AttItem) (p : Parts AttItem) (s : Sizes) → items ≡ items' → ArePartsOf a items p → AreSizes of_attachments s (att_front p) (att_middle p) (att_back p)
    → AreSizes of_attachments s (front_entries of_attachments a items') (middle_entries of_attachments a items') (back_entries of_attachments a items')
sizes_for a items items' p s same are sizes =
    sizes_as of_attachments s _ (att_front p) _ (att_middle p) _ (att_back p) (sym (front_as a items items' p same are)) (sym (middle_as a items items' p same are)) (sym (back_as a items items' p same are)) sizes

pub out_count : (i : ℕ) (items : List AttItem) → i < length items → length (take i items ++ drop (i + 1) items) ≤ length items
out_count i items h = omega (arith, length-append (take i items) (drop (i + 1) items), length-take-le i items (omega (arith, h)), length-drop (i + 1) items, h)

-- an attachment that is brought stands in an item
pub is_new_item : (x : Index) (m : MapState) (i : AttItem) (bytes : List ℕ) → IsItemOf i.info (length bytes) i.span i → i.walked ≡ (nat_lt i.span.at x.length || walks_on x) → IsAttachment (att_item_of i) (attachment_in i.info bytes)
    → fit (space_of m) (attachment_need (attachment_in i.info bytes)) ≡ Ok (record { span = span_of i.span; space = use_span (space_of m) (span_of i.span) }) → IsNew of_attachments x m (attachment_in i.info bytes) i
is_new_item x m i bytes is walked says fits = record { fits = fits; walked = walked; item = says; used = omega (arith, is.used, length-attachment_data (att_item_of i).entry bytes 0 says.entry) }

-- the sizes of an act that brings one, and the numbers of the act before it has a place
pub seat_sizes : (seat : Seat) (i : AttItem) (x : Index) (a : CodeAct AttItem) (items : List AttItem) (p : Parts AttItem) (s : Sizes) → a ≡ act_at seat i → items ≡ x.attachments.items → ArePartsOf a items p
    → AreSizes of_attachments s (att_front p) (att_middle p) (att_back p)
    → AreSizes of_attachments s (front_entries of_attachments (act_at seat i) x.attachments.items) (middle_entries of_attachments (act_at seat i) x.attachments.items) (back_entries of_attachments (act_at seat i) x.attachments.items)
seat_sizes seat i x a items p s is same are sizes =
    let its : List AttItem = x.attachments.items in
    subst (λ (z : CodeAct AttItem). AreSizes of_attachments s (front_entries of_attachments z its) (middle_entries of_attachments z its) (back_entries of_attachments z its)) is (sizes_for a items its p s same are sizes)

pub size_brought : (seat : Seat) (i : AttItem) (s : Attachment) (x : Index) → size_after of_attachments (act_at seat i) x ≡ size_with of_attachments (act_at seat s) x
size_brought (Over n) i s x = size_as of_attachments (Put n i) (entries_in of_attachments (i ∷ [])) x.attachments.items
size_brought (Before n) i s x = size_as of_attachments (Into n i) (entries_in of_attachments (i ∷ [])) x.attachments.items

pub range_brought : (seat : Seat) (i : AttItem) (s : Attachment) (x : Index) → range_after of_attachments (act_at seat i) x ≡ range_with of_attachments (act_at seat s) x
range_brought (Over n) i s x = range_as of_attachments (entries_in of_attachments (i ∷ [])) (entries_in of_attachments (take 1 (drop n x.attachments.items))) (entries_in of_attachments (drop (n + 1) x.attachments.items))
range_brought (Before n) i s x = range_as of_attachments (entries_in of_attachments (i ∷ [])) [] (entries_in of_attachments (drop n x.attachments.items))
