-- The law of commands from their plans.
use Rattle.czi_machine.proofs.Patched.{found_in, directory_patched, attdir_patched}
use Rattle.czi_format.specs.Partial.{none_or}
use Rattle.std.proofs.Common.{◌≡◌, ℕ, ◌+◌, ◌-◌, ◌≤◌, ◌<◌, ◌^◌, pos, List, [], ◌∷◌, map, length, Some, None, option_map, option_to_list, refl, ap, sym, ◌∙◌, arith, inl, inr, ℤ, Option, Ok, length-append}
use Rattle.std.specs.List.{AllByRecursion}
use Rattle.std.proofs.lemmas.Bool.{cases_lt}
use Rattle.czi_format.specs.Document.{Subblock, Attachment, Metadata}
use Rattle.czi_format.specs.Entry.{Entry, A1}
use Rattle.czi_format.specs.Layout.{Layout}
use Rattle.czi_format.specs.Live.{Live, Directory, Tile, AttItem, MetaItem, meta_item, segments, subblock_of, attachment_of, metadata_of, directory, attachment_directory}
use Rattle.czi_format.specs.Segment.{Segment, extent, in_segment, attdir_id, attachment_id, metadata_id, directory_id, subblock_id}
use Rattle.czi_format.specs.Shows.{subblock_at, attachment_at, Reaches, entries, a1_entries}
use Rattle.czi_format.specs.Span.{Span, end_of}
use Rattle.czi_format.proofs.Local.{All-append}
use Rattle.czi_machine.specs.Change.{Act, keep, omit, bring, brought, mapped, Setting, same, to, set_new, mapped_setting}
use Rattle.czi_machine.specs.Cover.{between, cover}
use Rattle.czi_format.specs.Data.{directory_data, attdir_data, subblock_data, attachment_data, metadata_data}
use Rattle.czi_machine.specs.Edit.{DocumentEffect, after}
use Rattle.czi_machine.specs.Laws.{Lies, LiesInImage, Leads}
use Rattle.czi_machine.specs.Planned.{Brings, Sets, BringsTile, BringsAttachment, BringsMetadata, ListsTiles, ListsAttachments, Plans}
use Rattle.czi_machine.specs.Puts.{HasRoom}
use Rattle.czi_machine.specs.Sound.{live_spans, IsDisjointState, IsGaplessState}
use Rattle.czi_machine.specs.State.{State}
use Rattle.czi_machine.specs.LiveChange.{LiveChange, changed_live, new_segments, effect_of, LiesAt, SpansAt}
use Rattle.czi_machine.specs.Writes.{ReadsDirectory, ReadsAttdir, ReadsMetadata, Writes}
use Rattle.czi_machine.specs.Written.{Piece, Wrote}
use Rattle.czi_machine.proofs.AnyCommand.{any_commanded, commanded}
use Rattle.czi_machine.proofs.Exact.{sound_tidy}
use Rattle.czi_machine.proofs.Lying.{all_spans, lies_loosely}
use Rattle.czi_machine.proofs.Clear.{HeaderAt, header_at_front, turned_cover}
use Rattle.czi_machine.proofs.Cover.{between_in}
use Rattle.czi_machine.proofs.Follow.{spans_lie}
use Rattle.czi_machine.proofs.Led.{stays_sound, stays_tidy, led}
use Rattle.czi_machine.proofs.NewSegment.{directory_read, attdir_read, subblock_read, attachment_read, metadata_read, written_stands, held_stands, held_subblock, held_attachment, held_metadata}
use Rattle.czi_machine.proofs.Placing.{covers_own}
use Rattle.czi_machine.proofs.Tiled.{All-map, All-weaken}

-- behind the file header's part in use, and inside the image
record HasPlace (n : ℕ) (x : Segment) : Type 0 where
  far : 112 ≤ x.at
  inside : x.at + 32 + x.allocated ≤ n

-- What is new has a place.
new_places : (n m : ℕ) (live : Live) (t : LiveChange) → live.header.segment.at ≡ 0 → 80 ≤ live.header.segment.allocated → ((p : ℕ) → cover (map extent (segments (changed_live t live))) p ≤ 1)
    → ((p : ℕ) → m ≤ p → cover (map extent (segments (changed_live t live))) p ≡ 0) → n ≡ m → AllByRecursion (HasPlace n) (new_segments t)
new_places n m live t place large few none long =
    let H : Segment = live.header.segment in
    let own : AllByRecursion (λ (x : Segment). (p : ℕ) → between x.at (end_of (extent x)) p ≤ cover (map extent (new_segments t)) p) (new_segments t) =
    All-map extent (λ (h : Span). (p : ℕ) → between h.at (end_of h) p ≤ cover (map extent (new_segments t)) p) (new_segments t) (covers_own (map extent (new_segments t))) in
    All-weaken (λ (x : Segment). (p : ℕ) → between x.at (end_of (extent x)) p ≤ cover (map extent (new_segments t)) p) (HasPlace n) (λ x o. record {
      far = elim (cases_lt x.at 112) [
        | inl h ↦ absurd (omega (
          arith,
          o x.at,
          between_in x.at (end_of (extent x)) x.at (omega arith) (omega arith),
          few x.at,
          turned_cover live t x.at,
          between_in H.at (end_of (extent H)) x.at (omega (arith, place)) (omega (arith, place, large, h)),
        ))
        | inr h ↦ h
      ];
      inside = elim (cases_lt n (x.at + 32 + x.allocated)) [
        | inr h ↦ h
        | inl h ↦ let last : ℕ = end_of (extent x) - 1 in
            absurd (omega (arith, o last, between_in x.at (end_of (extent x)) last (omega arith) (omega arith), none last (omega (arith, h, long)), turned_cover live t last))
      ];
    }) (new_segments t) own

-- The parts of what is new.
record NewPlaces (n : ℕ) (t : LiveChange) : Type 0 where
  directory : AllByRecursion (HasPlace n) (option_to_list (option_map (λ (d : Directory). d.segment) (set_new t.directory)))
  tiles : AllByRecursion (λ (x : Tile). HasPlace n x.segment) (brought t.tiles)
  attdir : AllByRecursion (HasPlace n) (option_to_list (option_map (λ (d : Directory). d.segment) (set_new t.attdir)))
  attachments : AllByRecursion (λ (x : AttItem). HasPlace n x.segment) (brought t.attachments)
  metadata : AllByRecursion (HasPlace n) (option_to_list (option_map (λ (m : MetaItem). m.segment) (set_new t.metadata)))

new_parts : (n : ℕ) (t : LiveChange) → AllByRecursion (HasPlace n) (new_segments t) → NewPlaces n t
new_parts n t all =
    let P : Segment → Type 0 = HasPlace n in
    let one = All-append P (option_to_list (option_map (λ (d : Directory). d.segment) (set_new t.directory))) _ all in
    let two = All-append P (map (λ (x : Tile). x.segment) (brought t.tiles)) _ one.1 in
    let th = All-append P (option_to_list (option_map (λ (d : Directory). d.segment) (set_new t.attdir))) _ two.1 in
    let four = All-append P (map (λ (x : AttItem). x.segment) (brought t.attachments)) _ th.1 in
    record {
      directory = one.0;
      tiles = All-map (λ (x : Tile). x.segment) P (brought t.tiles) two.0;
      attdir = th.0;
      attachments = All-map (λ (x : AttItem). x.segment) P (brought t.attachments) four.0;
      metadata = four.1;
    }

directory_long : length directory_id ≡ 16
unfolding directory_id
directory_long = refl

subblock_long : length subblock_id ≡ 16
unfolding subblock_id
subblock_long = refl

attachment_long : length attachment_id ≡ 16
unfolding attachment_id
attachment_long = refl

attdir_long : length attdir_id ≡ 16
unfolding attdir_id
attdir_long = refl

metadata_long : length metadata_id ≡ 16
unfolding metadata_id
metadata_long = refl

-- padding makes data no shorter
subblock_padded : (e : Entry) (s : Subblock) (padding : ℕ) → length (subblock_data e s 0) ≤ length (subblock_data e s padding)
subblock_padded e s padding = simp length-append (omega arith)

attachment_padded : (a : A1) (bytes : List ℕ) (padding : ℕ) → length (attachment_data a bytes 0) ≤ length (attachment_data a bytes padding)
attachment_padded a bytes padding = simp length-append (omega arith)

metadata_padded : (m : Metadata) (padding : ℕ) → length (metadata_data m 0) ≤ length (metadata_data m padding)
metadata_padded m padding = simp length-append (omega arith)

directory_padded : (es : List Entry) (padding : ℕ) → length (directory_data es 0) ≤ length (directory_data es padding)
directory_padded es padding = simp length-append (omega arith)

attdir_padded : (es : List A1) (padding : ℕ) → length (attdir_data es 0) ≤ length (attdir_data es padding)
attdir_padded es padding = simp length-append (omega arith)

-- each item is read
tile_brought : (image other : List ℕ) (pieces : List Piece) (x : Tile) (s : Subblock) → Wrote image other pieces → length other < 2 ^ 63 → BringsTile image pieces x s → HasPlace (length other) x.segment
    → (subblock_at other x.entry ≡ Some x) × (subblock_of other x ≡ s)
tile_brought image other pieces x s wrote small (inl w) at =
    let room : HasRoom (length other) x.segment = record { id = ap length w.item.id ∙ subblock_long; far = at.far; inside = at.inside; small = small; sound = omega (arith, w.used, w.puts.whole, subblock_padded x.entry s w.padding) } in
    subblock_read other x s w.padding (written_stands image other pieces x.segment (subblock_data x.entry s w.padding) wrote w.puts room) w.item
tile_brought image other pieces x s wrote small (inr w) at =
    let room : HasRoom (length other) x.segment = record { id = ap length w.id ∙ subblock_long; far = at.far; inside = at.inside; small = small; sound = w.sound } in
    let read = held_subblock image other x w.reads w.id w.position (held_stands image other pieces x.segment wrote w.puts room w.inside) in
    (read.0, read.1 ∙ w.contents)

attachment_brought : (image other : List ℕ) (pieces : List Piece) (x : AttItem) (a : Attachment) → Wrote image other pieces → length other < 2 ^ 63 → BringsAttachment image pieces x a → HasPlace (length other) x.segment
    → (attachment_at other x.entry ≡ Some x) × (attachment_of other x ≡ a)
attachment_brought image other pieces x a wrote small (inl w) at =
    let room : HasRoom (length other) x.segment = record { id = ap length w.item.id ∙ attachment_long; far = at.far; inside = at.inside; small = small; sound = omega (arith, w.used, w.puts.whole, attachment_padded x.entry a.bytes w.padding) } in
    attachment_read other x a w.padding (written_stands image other pieces x.segment (attachment_data x.entry a.bytes w.padding) wrote w.puts room) w.item
attachment_brought image other pieces x a wrote small (inr w) at =
    let room : HasRoom (length other) x.segment = record { id = ap length w.id ∙ attachment_long; far = at.far; inside = at.inside; small = small; sound = w.sound } in
    let read = held_attachment image other x w.reads w.id w.position (held_stands image other pieces x.segment wrote w.puts room w.inside) in
    (read.0, read.1 ∙ w.contents)

metadata_brought : (image other : List ℕ) (pieces : List Piece) (x : MetaItem) (m : Metadata) → Wrote image other pieces → length other < 2 ^ 63 → BringsMetadata image pieces x m → HasPlace (length other) x.segment
    → (in_segment other metadata_id (pos x.segment.at) meta_item ≡ Some x) × (metadata_of other x ≡ m)
metadata_brought image other pieces x m wrote small (inl w) at =
    let room : HasRoom (length other) x.segment = record { id = ap length w.item.id ∙ metadata_long; far = at.far; inside = at.inside; small = small; sound = omega (arith, w.used, w.puts.whole, metadata_padded m w.padding) } in
    metadata_read other x m w.padding (written_stands image other pieces x.segment (metadata_data m w.padding) wrote w.puts room) w.item
metadata_brought image other pieces x m wrote small (inr w) at =
    let room : HasRoom (length other) x.segment = record { id = ap length w.id ∙ metadata_long; far = at.far; inside = at.inside; small = small; sound = w.sound } in
    let read = held_metadata image other x w.reads w.id (held_stands image other pieces x.segment wrote w.puts room w.inside) in
    (read.0, read.1 ∙ w.contents)

-- so all are
brings_read : {X Y : Type 0} (P : X → Y → Type 0) (Q R : X → Type 0) (read : X → Y) → ((x : X) (y : Y) → P x y → R x → Q x × (read x ≡ y)) → (c : List (Act X)) (d : List (Act Y)) → Brings P c d → AllByRecursion R (brought c)
    → AllByRecursion Q (brought c) × (mapped read c ≡ d)
brings_read P Q R read f [] [] b r = (tt, refl)
brings_read P Q R read f (keep ∷ c) (keep ∷ d) b r = let rest = brings_read P Q R read f c d b r in (rest.0, ap (λ z. keep ∷ z) rest.1)
brings_read P Q R read f (omit ∷ c) (omit ∷ d) b r = let rest = brings_read P Q R read f c d b r in (rest.0, ap (λ z. omit ∷ z) rest.1)
brings_read P Q R read f (bring x ∷ c) (bring y ∷ d) b r = let one = f x y b.0 r.0 in let rest = brings_read P Q R read f c d b.1 r.1 in ((one.0, rest.0), λ i. bring (one.1 i) ∷ rest.1 i)
brings_read P Q R read f c d b r = absurd b

metadata_read_new : (image other : List ℕ) (pieces : List Piece) (c : Setting MetaItem) (d : Setting Metadata) → Wrote image other pieces → length other < 2 ^ 63 → Sets (BringsMetadata image pieces) c d
    → AllByRecursion (HasPlace (length other)) (option_to_list (option_map (λ (m : MetaItem). m.segment) (set_new c))) → ReadsMetadata other c × (mapped_setting (metadata_of other) c ≡ d)
metadata_read_new image other pieces same same wrote small b r = (tt, refl)
metadata_read_new image other pieces (to None) (to None) wrote small b r = (tt, refl)
metadata_read_new image other pieces (to (Some x)) (to (Some m)) wrote small b r =
    let one = metadata_brought image other pieces x m wrote small b r.0 in (one.0, ap (λ z. to (Some z)) one.1)
metadata_read_new image other pieces c d wrote small b r = absurd b

-- and the directories
lists_tiles : (image other : List ℕ) (position : ℤ) (pieces : List Piece) (c : Setting Directory) (was : Option Directory) (old new : List Tile) → none_or position (in_segment image directory_id position directory) ≡ Some was
    → entries image was ≡ Ok (map (λ (x : Tile). x.entry) old) → Wrote image other pieces → length image ≤ length other → length other < 2 ^ 63 → ListsTiles pieces c was old new
    → AllByRecursion (HasPlace (length other)) (option_to_list (option_map (λ (d : Directory). d.segment) (set_new c))) → ReadsDirectory other c old new
lists_tiles image other position pieces (to (Some d)) was old new found read wrote longer small (inl w) r =
    let room : HasRoom (length other) d.segment = record { id = ap length w.id ∙ directory_long; far = r.0.far; inside = r.0.inside; small = small; sound = omega (arith, w.used, w.puts.whole, directory_padded (map (λ (x : Tile). x.entry) new) w.padding) } in
    let es = map (λ (x : Tile). x.entry) new in
    let reads = directory_read other d es w.padding (written_stands image other pieces d.segment (directory_data es w.padding) wrote w.puts room) w.id w.room w.count w.few w.entries in
    (reads.0, omega (arith, w.count, w.few), reads.1)
lists_tiles image other position pieces (to (Some d)) None old new found read wrote longer small (inr w) r = absurd w
lists_tiles image other position pieces (to (Some d)) (Some was) old new found read wrote longer small (inr w) r =
    let reads = directory_patched image other position pieces was d (map (λ (x : Tile). x.entry) old) (map (λ (x : Tile). x.entry) new) (found_in position _ was found) read wrote longer small r.0.far w.0 w.1 in
    (reads.0, omega (arith, w.1.count, w.0), reads.1)
lists_tiles image other position pieces c was old new found read wrote longer small w r = w

lists_attachments : (image other : List ℕ) (position : ℤ) (pieces : List Piece) (c : Setting Directory) (was : Option Directory) (old new : List AttItem) → none_or position (in_segment image attdir_id position attachment_directory) ≡ Some was
    → a1_entries image was ≡ Ok (map (λ (x : AttItem). x.entry) old) → Wrote image other pieces → length image ≤ length other → length other < 2 ^ 63 → ListsAttachments pieces c was old new
    → AllByRecursion (HasPlace (length other)) (option_to_list (option_map (λ (d : Directory). d.segment) (set_new c))) → ReadsAttdir other c old new
lists_attachments image other position pieces (to (Some d)) was old new found read wrote longer small (inl w) r =
    let room : HasRoom (length other) d.segment = record { id = ap length w.id ∙ attdir_long; far = r.0.far; inside = r.0.inside; small = small; sound = omega (arith, w.used, w.puts.whole, attdir_padded (map (λ (x : AttItem). x.entry) new) w.padding) } in
    let es = map (λ (x : AttItem). x.entry) new in
    let reads = attdir_read other d es w.padding (written_stands image other pieces d.segment (attdir_data es w.padding) wrote w.puts room) w.id w.room w.count w.few w.entries in
    (reads.0, omega (arith, w.count, w.few), reads.1)
lists_attachments image other position pieces (to (Some d)) None old new found read wrote longer small (inr w) r = absurd w
lists_attachments image other position pieces (to (Some d)) (Some was) old new found read wrote longer small (inr w) r =
    let reads = attdir_patched image other position pieces was d (map (λ (x : AttItem). x.entry) old) (map (λ (x : AttItem). x.entry) new) (found_in position _ was found) read wrote longer small r.0.far w.0 w.1 in
    (reads.0, omega (arith, w.1.count, w.0), reads.1)
lists_attachments image other position pieces c was old new found read wrote longer small w r = w

-- What a plan brings is read, and it is what the effect brings.
reads_plan : (image other : List ℕ) (l l' : Layout) (live : Live) (e : DocumentEffect) (t : LiveChange) (pieces : List Piece) → Reaches image live → length image ≤ l'.length → Plans image l l' live e t pieces → Wrote image other pieces → length other ≡ l'.length
    → AllByRecursion (HasPlace (length other)) (new_segments t) → (effect_of other t ≡ e) × Writes image other t live l l' pieces
reads_plan image other l l' live e t pieces reaches grows plan wrote long places =
    let longer : length image ≤ length other = omega (arith, grows, long) in
    let n : NewPlaces (length other) t = new_parts (length other) t places in
    let small : length other < 2 ^ 63 = omega (arith, plan.small, long) in
    let tiles = brings_read (BringsTile image pieces) (λ (x : Tile). subblock_at other x.entry ≡ Some x) (λ (x : Tile). HasPlace (length other) x.segment) (subblock_of other)
    (λ x s b r. tile_brought image other pieces x s wrote small b r) t.tiles e.subblocks plan.tiles n.tiles in
    let atts = brings_read (BringsAttachment image pieces) (λ (x : AttItem). attachment_at other x.entry ≡ Some x) (λ (x : AttItem). HasPlace (length other) x.segment) (attachment_of other)
    (λ x a b r. attachment_brought image other pieces x a wrote small b r) t.attachments e.attachments plan.attachments n.attachments in
    let meta = metadata_read_new image other pieces t.metadata e.metadata wrote small plan.metadata n.metadata in (
      λ i. record { subblocks = tiles.1 i; attachments = atts.1 i; metadata = meta.1 i },
      record {
        wrote = wrote;
        long = long;
        small = plan.small;
        around = plan.around;
        new = record {
          directory = lists_tiles image other live.header.directory pieces t.directory live.directory live.tiles (changed_live t live).tiles reaches.directory reaches.entries wrote longer small plan.directory n.directory;
          tiles = tiles.0;
          attdir = lists_attachments image other live.header.attachments pieces t.attdir live.attdir live.attachments (changed_live t live).attachments reaches.attdir reaches.a1_entries wrote longer small plan.attdir n.attdir;
          attachments = atts.0;
          metadata = meta.0;
        };
      },
    )

pub plan_writes : (image other : List ℕ) (s s' : State) (live : Live) (e : DocumentEffect) (t : LiveChange) (pieces : List Piece) → LiesInImage image live s → IsDisjointState s' → s.layout.length ≤ s'.layout.length
    → SpansAt s'.layout (changed_live t live) → Plans image s.layout s'.layout live e t pieces
    → Wrote image other pieces → length other ≡ s'.layout.length → (effect_of other t ≡ e) × Writes image other t live s.layout s'.layout pieces
plan_writes image other s s' live e t pieces lies is' grows at plan wrote long =
    let front : HeaderAt image live.header.segment = header_at_front image live lies.reaches in
    let spans : live_spans s'.layout ≡ map extent (segments (changed_live t live)) = all_spans s'.layout (changed_live t live) at in
    let places : AllByRecursion (HasPlace (length other)) (new_segments t) = new_places (length other) s'.layout.length live t front.place front.large
    (λ p. omega (arith, is'.once p, ap (λ z. cover z p) spans)) (λ p h. omega (arith, is'.inside p h, ap (λ z. cover z p) spans)) long in
    reads_plan image other s.layout s'.layout live e t pieces lies.reaches (omega (arith, grows, lies.length)) plan wrote long places

pub planned_anywhere : (image other : List ℕ) (s s' : State) (live : Live) (e : DocumentEffect) (t : LiveChange) (pieces : List Piece) → LiesInImage image live s → IsDisjointState s → Leads s s'
    → SpansAt s'.layout (changed_live t live) → s'.document ≡ after e s.document → Plans image s.layout s'.layout live e t pieces
    → Wrote image other pieces → length other ≡ s'.layout.length → (effect_of other t ≡ e) × LiesInImage other (changed_live t live) s'
planned_anywhere image other s s' live e t pieces lies is leads at document_is plan wrote long =
    let read = plan_writes image other s s' live e t pieces lies (stays_tidy s s' is leads) (led s s' is leads).longer at plan wrote long in
    (read.0, any_commanded image other s s' live t pieces lies is leads at (document_is ∙ ap (λ z. after z s.document) (sym read.0)) read.1)

pub planned : (image other : List ℕ) (s s' : State) (live : Live) (e : DocumentEffect) (t : LiveChange) (pieces : List Piece) → Lies image live s → IsGaplessState s → Leads s s'
    → SpansAt s'.layout (changed_live t live) → s'.document ≡ after e s.document → Plans image s.layout s'.layout live e t pieces
    → Wrote image other pieces → length other ≡ s'.layout.length → (effect_of other t ≡ e) × Lies other (changed_live t live) s'
planned image other s s' live e t pieces lies is leads spans document_is plan wrote long =
    let at : LiesAt s'.layout (changed_live t live) = spans_lie s'.layout (changed_live t live) (stays_sound s s' is leads).layout spans in
    let tidy : IsDisjointState s = sound_tidy s is in
    let read = plan_writes image other s s' live e t pieces (lies_loosely image live s lies) (stays_tidy s s' tidy leads) (led s s' tidy leads).longer spans plan wrote long in
    (read.0, commanded image other s s' live t pieces lies is leads at (document_is ∙ ap (λ z. after z s.document) (sym read.0)) read.1)
