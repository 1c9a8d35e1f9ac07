-- A subblock that is brought: its tile, and the sizes of a directory that lists it.
use Rattle.std.proofs.Common.{◌≡◌, ℕ, ◌+◌, ◌-◌, ◌≤◌, ◌^◌, pos, List, [], ◌∷◌, ◌++◌, map, max, sum, length, take, drop, refl, ap, sym, ◌∙◌, subst, arith, Ok, length-append, ◌||◌, nat_lt, ◌==◌, if◌then◌else◌, Result, Err}
use Rattle.std.proofs.lemmas.List.{length-drop, length-take-le, map-append}
use Rattle.std.specs.Result.{OnOk}
use Rattle.czi_body.specs.Staged.{AreParts}
use Rattle.czi_body.proofs.Staged.{length-subblock_data}
use Rattle.czi_doc.specs.View.{info_of}
use Rattle.czi_format.specs.Bytes.{IsBytes}
use Rattle.czi_format.specs.Document.{Subblock}
use Rattle.czi_format.specs.Entry.{Entry, EntryInfo, IsEntry, entry_bytes, entry_len, info_len}
use Rattle.czi_format.specs.Space.{Space, fit, use_all, use_span}
use Rattle.czi_format.specs.Span.{Span}
use Rattle.czi_format.proofs.Written.{length-entry_bytes}
use Rattle.czi_image.specs.Applied.{walks_on}
use Rattle.czi_image.specs.Change.{AreWithin, act_of}
use Rattle.czi_image.specs.View.{tile_of}
use Rattle.czi_image.specs.declared.change.Act.{Act as CodeAct}
use Rattle.czi_image.specs.declared.change.Act.TheVariants.{Out, Put, Into}
use Rattle.czi_image.specs.declared.change.Change.{Change as CodeChange}
use Rattle.czi_image.specs.declared.change.DirectoryChange.{DirectoryChange}
use Rattle.czi_image.specs.declared.index.Index.{Index}
use Rattle.czi_image.specs.declared.types.Tile.{Tile}
use Rattle.czi_machine.specs.Change.{Change, out}
use Rattle.czi_machine.specs.Places.{subblock_need}
use Rattle.czi_machine.specs.Puts.{IsSubblock, head_of}
use Rattle.czi_num.specs.declared.span.Span.{Span as CodeSpan}
use Rattle.czi_num.specs.Span.{span_of}
use Rattle.czi_region.specs.declared.block.Piece.{Piece as Range}
use Rattle.czi_region.specs.declared.block.Region.{Region}
use Rattle.czi_space.specs.State.{MapState, space_of}
use Rattle.czi_plan.specs.Bringing.{AreSizesOf, IsSeat, IsTileOf, act_at}
use Rattle.czi_plan.specs.Changing.{Begins, Brings, BringsNew, IsNew, IsStaged, Origin, Stages, Starts, edited, returned, entries_in, new_sizes, new_spans, back_entries, front_entries, middle_entries, new_marks, range_after, range_with, size_after, size_of, size_with, tiles_before, tiles_behind, tiles_brought, tiles_leaving}
use Rattle.czi_plan.specs.Directory.{back_of, entries_of, middle_of}
use Rattle.czi_plan.specs.Kind.{Kind, of_subblocks, span_in}
use Rattle.czi_plan.specs.Listing.{AreSizes, IsPlace, KeepsPut, entries_len}
use Rattle.czi_plan.specs.Marks.{head_mark}
use Rattle.czi_plan.specs.declared.bringing.Seat.{Seat}
use Rattle.czi_plan.specs.declared.bringing.Seat.TheVariants.{Before, Over}
use Rattle.czi_plan.specs.declared.plan.EditPlan.{EditPlan}
use Rattle.czi_plan.specs.declared.tiles.Sizes.{Sizes}
use Rattle.czi_plan.proofs.Acts.{range_as, size_as}
use Rattle.czi_plan.proofs.Entries.{sizes_total}
use Rattle.czi_plan.proofs.Needs.{AreFit}

-- how many dimensions its entry has
dims_as : (t : Tile) (s : Subblock) → info_of t.info ≡ s.info → length (tile_of t).entry.info.dims ≡ length s.info.dims
dims_as t s e = ap (λ (i : EntryInfo). length i.dims) e

pub is_subblock : (s : Subblock) (span : CodeSpan) (t : Tile) → IsTileOf s span t → IsEntry (tile_of t).entry → t.span.len ≡ subblock_need s → length s.meta ≤ 2 ^ 24 → length s.pixels ≤ 2 ^ 26 → length s.tail ≤ 2 ^ 26
    → IsBytes s.meta → IsBytes s.pixels → IsBytes s.tail → IsSubblock (tile_of t) s
is_subblock s span t is entry long meta pixels tail meta_bytes pixels_bytes tail_bytes =
    let dims : length (tile_of t).entry.info.dims ≡ length s.info.dims = dims_as t s is.info in
    let begin : (tile_of t).head.begin ≡ (head_of (tile_of t).entry s).begin = omega (arith, is.begin, dims) in
    record {
      id = is.id;
      head = λ i. record { begin = begin i; meta = is.meta i; pixels = is.pixels i; tail = is.tail i };
      info = is.info;
      position = refl;
      room = omega (arith, is.begin, is.meta, is.pixels, is.tail, long, t.extent);
      entry = entry;
      meta = omega (arith, meta);
      tail = omega (arith, tail);
      pixels = omega (arith, pixels);
      meta_bytes = meta_bytes;
      pixels_bytes = pixels_bytes;
      tail_bytes = tail_bytes;
    }

-- the parts of its data
pub its_parts : (t : Tile) (s : Subblock) → IsEntry (tile_of t).entry → AreParts (tile_of t).entry s (entry_bytes (tile_of t).entry) s.meta s.pixels s.tail
its_parts t s entry = record { entry_is = refl; long = length-entry_bytes (tile_of t).entry entry; meta_is = refl; pixels_is = refl; tail_is = refl }

pub is_new : (x : Index) (m : MapState) (s : Subblock) (span : CodeSpan) (t : Tile) → IsTileOf s span t → t.walked ≡ (nat_lt t.span.at x.length || walks_on x) → IsSubblock (tile_of t) s → fit (space_of m) (subblock_need s) ≡ Ok (record { span = span_of span; space = use_span (space_of m) (span_of span) })
    → IsNew of_subblocks x m s t
is_new x m s span t is walked item fits =
    let dims : length (tile_of t).entry.info.dims ≡ length s.info.dims = dims_as t s is.info in
    let own : length (entry_bytes (tile_of t).entry) ≡ entry_len (tile_of t).entry = length-entry_bytes (tile_of t).entry item.entry in
    record {
      fits = subst (λ (z : CodeSpan). fit (space_of m) (subblock_need s) ≡ Ok (record { span = span_of z; space = use_span (space_of m) (span_of z) })) (sym is.span_is) fits;
      walked = walked;
      item = item;
      used = omega (arith, is.used, length-subblock_data (tile_of t).entry s (entry_bytes (tile_of t).entry) s.meta s.pixels s.tail (its_parts t s item.entry), own, dims);
    }

-- what is staged stays so where pieces are kept
staged_kept : {C E S : Type 0} {k : Kind C E S} (old new : Region) (s : S) (t : C) (writes : List (ℕ × Range)) → KeepsPut old new → IsStaged k old s t writes → IsStaged k new s t writes
staged_kept old new s t writes keeps is =
    let kept = keeps is.piece is.staged in
    record { piece = is.piece; staged = kept.0; long = is.long; padding = is.padding; bytes = kept.1 ∙ is.bytes; only = is.only }

new_kept : {C E S : Type 0} (k : Kind C E S) (x : Index) (m : MapState) (old new : Region) (a : CodeAct C) (c : Change S) (writes : List (ℕ × Range)) → KeepsPut old new → BringsNew k x m old a c writes → BringsNew k x m new a c writes
new_kept k x m old new (Out i) c writes keeps b = b
new_kept k x m old new (Put i t) c writes keeps b = (b.0, b.1, b.2, staged_kept old new b.0 t writes keeps b.3)
new_kept k x m old new (Into i t) c writes keeps b = (b.0, b.1, b.2, staged_kept old new b.0 t writes keeps b.3)

pub brings_kept : {C E S : Type 0} (k : Kind C E S) (x : Index) (m : MapState) (old new : Region) (a : CodeAct C) (o : Origin (Change S)) (writes : List (ℕ × Range)) → KeepsPut old new → Brings k x m old a o writes → Brings k x m new a o writes
brings_kept k x m old new a (edited c) writes keeps b = new_kept k x m old new a c writes keeps b
brings_kept k x m old new a returned writes keeps b = b

pub begins_kept : {C E S : Type 0} (k : Kind C E S) (x : Index) (m : MapState) (old new : Region) (a : CodeAct C) (o : Origin (Change S)) (d : DirectoryChange) (p : EditPlan) → KeepsPut old new → Begins k x m old a o d p → Begins k x m new a o d p
begins_kept k x m old new a o d p keeps b = record { brings = brings_kept k x m old new a o p.writes.items keeps b.brings; starts = b.starts; place = b.place }

-- An act at a place of a list, whatever it brings.
pub few_at : {C : Type 0} (most : ℕ) (seat : Seat) (t : C) (items : List C) → IsSeat seat (length items) most → length items ≤ most
    → length (tiles_before (act_at seat t) items ++ (tiles_brought (act_at seat t) ++ tiles_behind (act_at seat t) items)) ≤ most
few_at most (Over i) t items is few =
    omega (arith, length-append (take i items) ((t ∷ []) ++ drop (i + 1) items), length-take-le i items (omega (arith, is)), length-drop (i + 1) items, is, few)
few_at most (Before i) t items is few = omega (arith, length-append (take i items) ((t ∷ []) ++ drop i items), length-take-le i items is.0, length-drop i items, is.0, is.1)

pub sizes_at : {C E S : Type 0} (k : Kind C E S) (sizes : Sizes) (seat : Seat) (s : S) (t : C) (items : List C) → k.len (k.entry t) ≡ k.len_of s → AreSizesOf k sizes (act_at seat s) items
    → AreSizes k sizes (front_entries k (act_at seat t) items) (middle_entries k (act_at seat t) items) (back_entries k (act_at seat t) items)
sizes_at k sizes (Over i) s t items e of = of (k.entry t ∷ []) (omega (arith, e))
sizes_at k sizes (Before i) s t items e of = of (k.entry t ∷ []) (omega (arith, e))

pub place_at : {C E S : Type 0} (k : Kind C E S) (x : Index) (seat : Seat) (t : C) (sizes : Sizes) (space : Space) (d : DirectoryChange)
    → AreSizes k sizes (front_entries k (act_at seat t) (k.items x)) (middle_entries k (act_at seat t) (k.items x)) (back_entries k (act_at seat t) (k.items x))
    → IsPlace x (k.directory x) (sizes.front + sizes.middle + sizes.back) sizes.middle space d → IsPlace x (k.directory x) (size_after k (act_at seat t) x) (range_after k (act_at seat t) x) space d
place_at k x seat t sizes space d sizes_are place =
    let size : sizes.front + sizes.middle + sizes.back ≡ size_after k (act_at seat t) x = sizes_total k sizes _ _ _ sizes_are in
    subst (λ n. IsPlace x (k.directory x) n (range_after k (act_at seat t) x) space d) size (subst (λ n. IsPlace x (k.directory x) (sizes.front + sizes.middle + sizes.back) n space d) sizes_are.middle_is place)

pub brought_at : {X : Type 0} (seat : Seat) (x : X) → tiles_brought (act_at seat x) ≡ x ∷ []
brought_at (Over i) x = refl
brought_at (Before i) x = refl

pub within_at : {X : Type 0} (seat : Seat) (x : X) (n : ℕ) → (most : ℕ) → IsSeat seat n most → AreWithin (act_at seat x ∷ []) n
within_at (Over i) x n most is = (is, tt)
within_at (Before i) x n most is = (is.0, tt)

pub fit_at : {S : Type 0} (needs : S → ℕ) (m : MapState) (seat : Seat) (s : S) (need : ℕ) (span : Span) → needs s ≡ need → fit (space_of m) need ≡ Ok (record { span = span; space = use_span (space_of m) span }) → AreFit needs m (act_at seat s) (span ∷ [])
fit_at needs m (Over i) s need span e fits = subst (λ n. fit (space_of m) n ≡ Ok (record { span = span; space = use_span (space_of m) span })) (sym e) fits
fit_at needs m (Before i) s need span e fits = subst (λ n. fit (space_of m) n ≡ Ok (record { span = span; space = use_span (space_of m) span })) (sym e) fits

-- the numbers of an act whose entries have no place yet, where some entries are as long as those that it brings
pub size_of_act : {C E S : Type 0} (k : Kind C E S) (sizes : Sizes) (b : CodeAct S) (come : List E) (x : Index) → entries_len k come ≡ new_sizes k b → AreSizesOf k sizes b (k.items x) → sizes.front + sizes.middle + sizes.back ≡ size_with k b x
size_of_act k sizes b come x long of =
    sizes_total k sizes _ _ _ (of come long) ∙ (size_as k b come (k.items x) ∙ ap (λ n. k.head + (size_of k (tiles_before b (k.items x)) + (n + size_of k (tiles_behind b (k.items x))))) long)

pub range_of_act : {C E S : Type 0} (k : Kind C E S) (sizes : Sizes) (b : CodeAct S) (come : List E) (x : Index) → entries_len k come ≡ new_sizes k b → AreSizesOf k sizes b (k.items x) → sizes.middle ≡ range_with k b x
range_of_act k sizes b come x long of =
    (of come long).middle_is ∙ (range_as k come (entries_in k (tiles_leaving b (k.items x))) (entries_in k (tiles_behind b (k.items x)))
    ∙ ap (λ n. if n == size_of k (tiles_leaving b (k.items x)) then n else n + size_of k (tiles_behind b (k.items x))) long)

-- entries as long as those of subblocks
pub as_entries : List Subblock → List Entry
as_entries ss = map (λ (s : Subblock). record { info = s.info; position = pos 0 }) ss

pub entries_as_long : (ss : List Subblock) → map entry_len (as_entries ss) ≡ map of_subblocks.len_of ss
unfolding as_entries
entries_as_long [] = refl
entries_as_long (s ∷ ss) = ap (λ l. info_len s.info ∷ l) (entries_as_long ss)

-- the sizes once one subblock leaves
pub sizes_out : (sizes : Sizes) (tiles : List Tile) (i : ℕ)
    → ((come : List Entry) → sum (map entry_len come) ≡ 0 → AreSizes of_subblocks sizes (entries_of (take i tiles)) (middle_of come (entries_of (take (i + 1 - i) (drop i tiles))) (entries_of (drop (i + 1) tiles))) (back_of come (entries_of (take (i + 1 - i) (drop i tiles))) (entries_of (drop (i + 1) tiles))))
    → AreSizesOf of_subblocks sizes (Out i) tiles
sizes_out sizes tiles i are = λ come none.
    let one : i + 1 - i ≡ 1 = omega arith in
    subst (λ n. AreSizes of_subblocks sizes (entries_of (take i tiles)) (middle_of come (entries_of (take n (drop i tiles))) (entries_of (drop (i + 1) tiles))) (back_of come (entries_of (take n (drop i tiles))) (entries_of (drop (i + 1) tiles)))) one (are come none)

starts_at : {C E S : Type 0} (k : Kind C E S) (m : MapState) (seat : Seat) (t : C) (span : CodeSpan) (p q : EditPlan) → span_in k t ≡ span_of span → Starts k m [] p → q.used.items ≡ p.used.items ++ span ∷ [] → q.length ≡ max p.length (span.at + span.len)
    → q ≡ record p { writes = q.writes; used = q.used; length = q.length; marks = q.marks } → Starts k m (new_spans k (act_at seat t)) q
starts_at k m seat t span p q is starts used long others =
    let same : q.change ≡ p.change = ap (λ (z : EditPlan). z.change) others in
    let one : new_spans k (act_at seat t) ≡ span_of span ∷ [] = ap (map (span_in k)) (brought_at seat t) ∙ ap (λ z. z ∷ []) is in
    subst (λ l. Starts k m l q) (sym one) (record {
      tiles = ap (λ (v : CodeChange). v.tiles.items) same ∙ starts.tiles;
      attachments = ap (λ (v : CodeChange). v.attachments.items) same ∙ starts.attachments;
      metadata = ap (λ (v : CodeChange). v.metadata) same ∙ starts.metadata;
      other = ap k.other same ∙ starts.other;
      links = ap (λ (z : EditPlan). z.links.links) others ∙ starts.links;
      freed = ap (λ (z : EditPlan). z.freed.items) others ∙ starts.freed;
      held = ap (λ (z : EditPlan). z.held.items) others ∙ starts.held;
      dead = ap (λ (z : EditPlan). z.dead.items) others ∙ starts.dead;
      used = ap (map span_of) used ∙ (map-append span_of p.used.items (span ∷ []) ∙ ap (λ l. l ++ span_of span ∷ []) starts.used);
      length = long ∙ ap (λ n. max n (span.at + span.len)) starts.length;
    })

brings_at : {C E S : Type 0} (k : Kind C E S) (x : Index) (m : MapState) (region : Region) (seat : Seat) (s : S) (t : C) (writes : List (ℕ × Range)) → IsNew k x m s t → IsStaged k region s t writes → BringsNew k x m region (act_at seat t) (act_of (act_at seat s)) writes
brings_at k x m region (Over i) s t writes new staged = (s, refl, new, staged)
brings_at k x m region (Before i) s t writes new staged = (s, refl, new, staged)

-- So it begins: with a new item,
pub begins_at : {C E S : Type 0} (k : Kind C E S) (x : Index) (m : MapState) (region : Region) (seat : Seat) (s : S) (t : C) (span : CodeSpan) (d e : DirectoryChange) (p q : EditPlan) → span_in k t ≡ span_of span → e ≡ d → Starts k m [] p → q.used.items ≡ p.used.items ++ span ∷ []
    → q.length ≡ max p.length (span.at + span.len) → q ≡ record p { writes = q.writes; used = q.used; length = q.length; marks = q.marks } → IsNew k x m s t → IsStaged k region s t q.writes.items
    → IsPlace x (k.directory x) (size_after k (act_at seat t) x) (range_after k (act_at seat t) x) (use_span (space_of m) (span_of span)) d → Begins k x m region (act_at seat t) (edited (act_of (act_at seat s))) e q
begins_at k x m region seat s t span d e p q is same starts used long others new staged place =
    let needed : use_all (space_of m) (new_spans k (act_at seat t)) ≡ use_span (space_of m) (span_of span) = ap (λ l. use_all (space_of m) (map (span_in k) l)) (brought_at seat t) ∙ ap (use_span (space_of m)) is in
    record {
      brings = brings_at k x m region seat s t q.writes.items new staged;
      starts = starts_at k m seat t span p q is starts used long others;
      place = subst (λ z. IsPlace x (k.directory x) (size_after k (act_at seat t) x) (range_after k (act_at seat t) x) z e) (sym needed)
          (subst (IsPlace x (k.directory x) (size_after k (act_at seat t) x) (range_after k (act_at seat t) x) (use_span (space_of m) (span_of span))) (sym same) place);
    }

-- or with none, as an edit or as an undo has it.
pub begins_out : {C E S : Type 0} (k : Kind C E S) (x : Index) (m : MapState) (region : Region) (i : ℕ) (d : DirectoryChange) (p : EditPlan) → Starts k m [] p → p.writes.items ≡ []
    → IsPlace x (k.directory x) (size_after k (Out i) x) (range_after k (Out i) x) (space_of m) d → Begins k x m region (Out i) (edited (out i)) d p
begins_out k x m region i d p starts none place = record { brings = (refl, none); starts = starts; place = place }

pub out_begins : {C E S : Type 0} (k : Kind C E S) (x : Index) (m : MapState) (region : Region) (i : ℕ) (d : DirectoryChange) (p : EditPlan) → Begins k x m region (Out i) (edited (out i)) d p → Begins k x m region (Out i) returned d p
out_begins k x m region i d p b = record { brings = (tt, b.brings.1); starts = b.starts; place = b.place }

pub out_stages : {C E S : Type 0} (k : Kind C E S) (x : Index) (m : MapState) (i : ℕ) (region : Region) (d : DirectoryChange) (p : EditPlan) → Stages k x m (Out i) (edited (out i)) region d p → Stages k x m (Out i) returned region d p
out_stages k x m i region d p st = record {
  within = st.within;
  few = st.few;
  first = st.first;
  begins = out_begins k x m region i d st.first st.begins;
  mid = st.mid;
  marks = st.marks;
  lists = st.lists;
  writes = st.writes;
  used = st.used;
  length = st.length;
  change = st.change;
  held = st.held;
  freed = st.freed;
  dead = st.dead;
  is_dead = st.is_dead;
  links = st.links;
}

pub marks_at : {C E S : Type 0} (k : Kind C E S) (seat : Seat) (t : C) → new_marks k (act_at seat t) ≡ head_mark (k.segment t) ∷ []
marks_at k seat t = ap (map (λ z. head_mark (k.segment z))) (brought_at seat t)

-- what a call that succeeded ensures
pub on_ok_as : {X E : Type 0} (r : Result X E) (P Q : Type 0) → (P → Q) → OnOk r P → OnOk r Q
on_ok_as (Ok x) P Q f h = f h
on_ok_as (Err e) P Q f h = h
