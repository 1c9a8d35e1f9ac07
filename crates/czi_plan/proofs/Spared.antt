-- What was made room for the plan of an inverse suffices.
use Rattle.std.proofs.Common.{Ok, Err, Result, IfErr, get_or, ◌≡◌, ℕ, ◌+◌, ◌*◌, ◌<◌, ◌≤◌, List, [], ◌∷◌, true, false, map, sum, drop, length, refl, ap, sym, ◌∙◌, arith}
use Rattle.std.specs.Prelude.{vec_len, vec_capacity}
use Rattle.std.proofs.lemmas.List.Sums.{sum_by-cons}
use Rattle.std.proofs.lemmas.List.{drop-drop, length-drop, length-take-le}
use Rattle.czi_format.specs.Entry.{entry_len, info_len}
use Rattle.czi_image.specs.Change.{AreWithin}
use Rattle.czi_image.specs.Summary.{entries_len}
use Rattle.czi_image.specs.View.{tile_of}
use Rattle.czi_image.specs.declared.change.Act.{Act as CodeAct}
use Rattle.czi_image.specs.declared.change.Act.TheVariants.{Into, Out, Put}
use Rattle.czi_image.specs.declared.index.Index.{Index}
use Rattle.czi_image.specs.declared.types.AttItem.{AttItem}
use Rattle.czi_image.specs.declared.types.Tile.{Tile}
use Rattle.czi_undo.specs.declared.inverse.Part.{Part}
use Rattle.czi_undo.specs.declared.inverse.Part.TheVariants.{DropAtt, DropSub, InsertAtt, InsertSub, NoMeta, PutAtt, PutMeta, PutSub, Same as Unchanged}
use Rattle.czi_plan.specs.Changing.{entries_in, size_after, size_of, tiles_before, tiles_behind, tiles_brought}
use Rattle.czi_plan.specs.Kind.{of_attachments as attachment_kind, of_subblocks as subblock_kind}
use Rattle.czi_plan.specs.Need.{HasActMemory, HasMetadataMemory, HasSpare, brought_by, brought_len, changes_attachments, changes_tiles, directories_by, directory_room, need_by, of_attachments, of_subblocks, region_by}
use Rattle.czi_plan.specs.Undoing.{IsAttachmentAct, IsTileAct}
use Rattle.czi_plan.specs.declared.plan.EditPlan.{EditPlan}
use Rattle.czi_plan.proofs.Acts.{size_as}
use Rattle.czi_plan.proofs.Attached.{a1_total}
use Rattle.czi_plan.proofs.Entries.{split_len}

-- which list an inverse changes
pub tile_kind : (part : Part) (a : CodeAct Tile) → IsTileAct part a → (of_subblocks part ≡ true) × (of_attachments part ≡ false)
tile_kind (DropSub place) a act = (refl, refl)
tile_kind (PutSub place info h) a act = (refl, refl)
tile_kind (InsertSub place info h) a act = (refl, refl)
tile_kind (DropAtt place) a act = absurd act
tile_kind (PutAtt place info h) a act = absurd act
tile_kind (InsertAtt place info h) a act = absurd act
tile_kind NoMeta a act = absurd act
tile_kind (PutMeta h) a act = absurd act
tile_kind Unchanged a act = absurd act

pub attachment_kind_of : (part : Part) (a : CodeAct AttItem) → IsAttachmentAct part a → (of_subblocks part ≡ false) × (of_attachments part ≡ true) × (128 * length (tiles_brought a) ≡ brought_len part)
attachment_kind_of (DropSub place) a act = absurd act
attachment_kind_of (PutSub place info h) a act = absurd act
attachment_kind_of (InsertSub place info h) a act = absurd act
attachment_kind_of (DropAtt place) a act = (refl, refl, ap (λ (z : CodeAct AttItem). 128 * length (tiles_brought z)) act)
attachment_kind_of (PutAtt place info h) a act = (refl, refl, ap (λ (z : CodeAct AttItem). 128 * length (tiles_brought z)) act.1)
attachment_kind_of (InsertAtt place info h) a act = (refl, refl, ap (λ (z : CodeAct AttItem). 128 * length (tiles_brought z)) act.1)
attachment_kind_of NoMeta a act = absurd act
attachment_kind_of (PutMeta h) a act = absurd act
attachment_kind_of Unchanged a act = absurd act

-- how long the entry is that it brings
pub entry_brought : (part : Part) (a : CodeAct Tile) → IsTileAct part a → sum (map entry_len (entries_in subblock_kind (tiles_brought a))) ≡ brought_len part
entry_brought (DropSub place) a act = ap (λ (z : CodeAct Tile). sum (map entry_len (entries_in subblock_kind (tiles_brought z)))) act
entry_brought (PutSub place info h) a act = ap (λ (z : CodeAct Tile). sum (map entry_len (entries_in subblock_kind (tiles_brought z)))) act.1 ∙ omega (arith, ap info_len act.2.says)
entry_brought (InsertSub place info h) a act = ap (λ (z : CodeAct Tile). sum (map entry_len (entries_in subblock_kind (tiles_brought z)))) act.1 ∙ omega (arith, ap info_len act.2.says)
entry_brought (DropAtt place) a act = absurd act
entry_brought (PutAtt place info h) a act = absurd act
entry_brought (InsertAtt place info h) a act = absurd act
entry_brought NoMeta a act = absurd act
entry_brought (PutMeta h) a act = absurd act
entry_brought Unchanged a act = absurd act

-- so it has one directory, or none
tiles_one : (parts : List Part) (part : Part) → parts ≡ part ∷ [] → of_subblocks part ≡ true → of_attachments part ≡ false → (changes_tiles parts ≡ true) × (changes_attachments parts ≡ false)
tiles_one parts part only t a = rw only (rw t (rw a (refl, refl)))

attachments_one : (parts : List Part) (part : Part) → parts ≡ part ∷ [] → of_subblocks part ≡ false → of_attachments part ≡ true → (changes_tiles parts ≡ false) × (changes_attachments parts ≡ true)
attachments_one parts part only t a = rw only (rw t (rw a (refl, refl)))

none_one : (parts : List Part) (part : Part) → parts ≡ part ∷ [] → of_subblocks part ≡ false → of_attachments part ≡ false → (changes_tiles parts ≡ false) × (changes_attachments parts ≡ false)
none_one parts part only t a = rw only (rw t (rw a (refl, refl)))

spare_act : (parts : List Part) (e n : ℕ) (p : EditPlan) → length parts ≡ 1 → directories_by parts ≡ 1 → HasSpare (need_by parts e n) p → HasActMemory p × (vec_len p.writes < vec_capacity p.writes)
spare_act parts e n p one dirs h = (
  record {
    links = omega (arith, h.links, one, dirs);
    link_bytes = omega (arith, h.link_bytes, one, dirs);
    used = omega (arith, h.used, one, dirs);
    freed = omega (arith, h.freed, one, dirs);
    held = omega (arith, h.held, one, dirs);
    tiles = omega (arith, h.tiles, one, dirs);
    attachments = omega (arith, h.attachments, one, dirs);
    marks = omega (arith, h.marks, one, dirs);
    dead = omega (arith, h.dead, one, dirs);
    touched = omega (arith, h.touched, one, dirs);
  },
  omega (arith, h.writes, dirs),
)

pub spare_tiles : (parts : List Part) (part : Part) (a : CodeAct Tile) (e n : ℕ) (p : EditPlan) → parts ≡ part ∷ [] → IsTileAct part a → HasSpare (need_by parts e n) p → HasActMemory p × (vec_len p.writes < vec_capacity p.writes)
spare_tiles parts part a e n p only act h =
    let kind = tile_kind part a act in
    let one = tiles_one parts part only kind.0 kind.1 in
    spare_act parts e n p (ap length only) (rw (one.0, one.1) refl) h

pub spare_attachments : (parts : List Part) (part : Part) (a : CodeAct AttItem) (e n : ℕ) (p : EditPlan) → parts ≡ part ∷ [] → IsAttachmentAct part a → HasSpare (need_by parts e n) p → HasActMemory p × (vec_len p.writes < vec_capacity p.writes)
spare_attachments parts part a e n p only act h =
    let kind = attachment_kind_of part a act in
    let one = attachments_one parts part only kind.0 kind.1 in
    spare_act parts e n p (ap length only) (rw (one.0, one.1) refl) h

pub spare_metadata : (parts : List Part) (part : Part) (e n : ℕ) (p : EditPlan) → parts ≡ part ∷ [] → of_subblocks part ≡ false → of_attachments part ≡ false → HasSpare (need_by parts e n) p → HasMetadataMemory p
spare_metadata parts part e n p only t a h =
    let one = none_one parts part only t a in
    let long : length parts ≡ 1 = ap length only in
    let dirs : directories_by parts ≡ 0 = rw (one.0, one.1) refl in
    record {
      links = omega (arith, h.links, long, dirs);
      link_bytes = omega (arith, h.link_bytes, long, dirs);
      used = omega (arith, h.used, long, dirs);
      freed = omega (arith, h.freed, long, dirs);
      held = omega (arith, h.held, long, dirs);
      tiles = omega (arith, h.tiles, long, dirs);
      attachments = omega (arith, h.attachments, long, dirs);
      marks = omega (arith, h.marks, long, dirs);
      dead = omega (arith, h.dead, long, dirs);
      touched = omega (arith, h.touched, long, dirs);
    }

-- The directory afterwards is no longer than its entries and those that come.
total_as : (items : List Tile) → entries_len (map tile_of items) ≡ size_of subblock_kind items
total_as [] = refl
total_as (t ∷ items) =
    let own : ℕ = entry_len (tile_of t).entry in
    sum_by-cons (λ n. n) own (map (λ u. entry_len u.entry) (map tile_of items)) ∙ (ap (λ n. own + n) (total_as items) ∙ sym (sum_by-cons (λ n. n) own (map entry_len (entries_in subblock_kind items))))

behind_less : (i : ℕ) (items : List Tile) → size_of subblock_kind (drop (i + 1) items) ≤ size_of subblock_kind (drop i items)
behind_less i items = omega (arith, split_len 1 (drop i items), ap (size_of subblock_kind) (drop-drop 1 i items))

others_fit : (a : CodeAct Tile) (items : List Tile) → size_of subblock_kind (tiles_before a items) + size_of subblock_kind (tiles_behind a items) ≤ size_of subblock_kind items
others_fit (Out i) items = omega (arith, split_len i items, behind_less i items)
others_fit (Put i t) items = omega (arith, split_len i items, behind_less i items)
others_fit (Into i t) items = omega (arith, split_len i items)

pub room_rises : (n n' : ℕ) → n ≤ n' → directory_room n ≤ directory_room n'
room_rises n n' h = omega (arith, h)

pub room_tiles : (x : Index) (parts : List Part) (part : Part) (a : CodeAct Tile) (n room : ℕ) → parts ≡ part ∷ [] → IsTileAct part a
    → region_by parts (entries_len (map tile_of x.tiles.items)) n ≤ room → directory_room (size_after subblock_kind a x) ≤ room
room_tiles x parts part a n room only act enough =
    let long = entry_brought part a act in
    let kind = tile_kind part a act in
    let one = tiles_one parts part only kind.0 kind.1 in
    let brought : brought_by parts ≡ brought_len part = ap brought_by only ∙ omega arith in
    let e : ℕ = entries_len (map tile_of x.tiles.items) in
    let size : size_after subblock_kind a x ≤ 128 + e + brought_by parts
    = omega (arith, size_as subblock_kind a (entries_in subblock_kind (tiles_brought a)) x.tiles.items, others_fit a x.tiles.items, total_as x.tiles.items, long, brought) in
    let all : 1 * directory_room (128 + e + brought_by parts) + 0 * directory_room (256 + 128 * n + brought_by parts) ≤ room = rw (one.0, one.1) at enough in
    omega (arith, room_rises (size_after subblock_kind a x) (128 + e + brought_by parts) size, all)

others_few : (a : CodeAct AttItem) (items : List AttItem) → AreWithin (a ∷ []) (length items) → length (tiles_before a items) + length (tiles_behind a items) ≤ length items
others_few (Out i) items within = omega (arith, length-take-le i items (omega (arith, within.0)), length-drop (i + 1) items, within.0)
others_few (Put i t) items within = omega (arith, length-take-le i items (omega (arith, within.0)), length-drop (i + 1) items, within.0)
others_few (Into i t) items within = omega (arith, length-take-le i items (omega (arith, within.0)), length-drop i items, within.0)

pub room_attachments : (x : Index) (parts : List Part) (part : Part) (a : CodeAct AttItem) (e room : ℕ) → parts ≡ part ∷ [] → IsAttachmentAct part a → AreWithin (a ∷ []) (length x.attachments.items)
    → region_by parts e (length x.attachments.items) ≤ room → directory_room (size_after attachment_kind a x) ≤ room
room_attachments x parts part a e room only act within enough =
    let kind = attachment_kind_of part a act in
    let one = attachments_one parts part only kind.0 kind.1 in
    let n : ℕ = length x.attachments.items in
    let brought : brought_by parts ≡ brought_len part = ap brought_by only ∙ omega arith in
    let size : size_after attachment_kind a x ≤ 256 + 128 * n + brought_by parts
    = omega (arith, size_as attachment_kind a (entries_in attachment_kind (tiles_brought a)) x.attachments.items, a1_total (tiles_before a x.attachments.items), a1_total (tiles_brought a), a1_total (tiles_behind a x.attachments.items), others_few a x.attachments.items within, kind.2, brought) in
    let all : 0 * directory_room (128 + e + brought_by parts) + 1 * directory_room (256 + 128 * n + brought_by parts) ≤ room = rw (one.0, one.1) at enough in
    omega (arith, room_rises (size_after attachment_kind a x) (256 + 128 * n + brought_by parts) size, all)

-- the only inverse
pub first_of : {X : Type 0} (xs : List X) (p y : X) → xs ≡ p ∷ [] → y ≡ get_or xs 0 y → y ≡ p
first_of xs p y e is = is ∙ ap (λ l. get_or l 0 y) e

-- what a call that failed ensures
pub if_err_as : {X E : Type 0} (r : Result X E) (P Q : E → Type 0) → ((e : E) → P e → Q e) → IfErr r P → IfErr r Q
if_err_as (Ok x) P Q f h = h
if_err_as (Err e) P Q f h = f e h
