-- What one undo of a single edit takes.
use Rattle.std.proofs.Common.{◌≡◌, ℕ, ◌+◌, ◌*◌, ◌≤◌, [], ◌∷◌, map, max, sum, length, arith}
use Rattle.std.proofs.lemmas.List.{length-map}
use Rattle.czi_doc.specs.View.{dim_of, records}
use Rattle.czi_doc.specs.declared.items.EntryInfo.{EntryInfo as CodeEntryInfo}
use Rattle.czi_undo.specs.declared.inverse.Part.{Part}
use Rattle.czi_undo.specs.declared.inverse.Part.TheVariants.{DropAtt, DropSub, InsertAtt, InsertSub, NoMeta, PutAtt, PutMeta, PutSub, Same as Unchanged}
use Rattle.czi_plan.specs.Need.{SparesLess, UndoRoomRises, UndosHaveRoom, UndosNeedNoMore, brought_len, directories_by, directory_room, undo_room}
use Rattle.czi_plan.proofs.Spared.{room_rises}

one_directory : (part : Part) → directories_by (part ∷ []) ≤ 1
one_directory (DropSub place) = omega arith
one_directory (PutSub place info h) = omega arith
one_directory (InsertSub place info h) = omega arith
one_directory (DropAtt place) = omega arith
one_directory (PutAtt place info h) = omega arith
one_directory (InsertAtt place info h) = omega arith
one_directory NoMeta = omega arith
one_directory (PutMeta h) = omega arith
one_directory Unchanged = omega arith

pub undos_need_no_more : UndosNeedNoMore
undos_need_no_more part e a =
    let one = one_directory part in
    record {
      region = omega arith;
      writes = omega (arith, one);
      links = omega (arith, one);
      link_bytes = omega (arith, one);
      spans = omega (arith, one);
      touched = omega (arith, one);
    }

pub spares_less : SparesLess
spares_less n m p h less = record {
  writes = omega (arith, h.writes, less.writes);
  links = omega (arith, h.links, less.links);
  link_bytes = omega (arith, h.link_bytes, less.link_bytes);
  used = omega (arith, h.used, less.spans);
  freed = omega (arith, h.freed, less.spans);
  held = omega (arith, h.held, less.spans);
  tiles = omega (arith, h.tiles, less.spans);
  attachments = omega (arith, h.attachments, less.spans);
  dimensions = omega (arith, h.dimensions, less.spans);
  marks = omega (arith, h.marks, less.links);
  dead = omega (arith, h.dead, less.spans);
  touched = omega (arith, h.touched, less.touched);
}

-- the greater one of two numbers
in_left : (r s a b : ℕ) → r ≤ a → 1 * r + 0 * s ≤ max a b
in_left r s a b h = omega (arith, h)

in_right : (r s a b : ℕ) → r ≤ b → 0 * s + 1 * r ≤ max a b
in_right r s a b h = omega (arith, h)

in_neither : (r s n : ℕ) → 0 * r + 0 * s ≤ n
in_neither r s n = omega arith

both_rise : (a a' b b' : ℕ) → a ≤ a' → b ≤ b' → max a b ≤ max a' b'
both_rise a a' b b' h h' = omega (arith, h, h')

long_info : (info : CodeEntryInfo) → 32 + 20 * length (map dim_of (records info.dims)) ≤ 832
long_info info = omega (arith, length-map (records info.dims) dim_of, info.dims.few, info.dims.list.ok)

one_sum : (n : ℕ) → sum (n ∷ []) ≡ n
one_sum n = omega arith

-- the room for a directory of subblocks that gets so many bytes of entries, and for one of attachments
abbrev tiles_room : (n e' : ℕ) → ℕ
tiles_room n e' = directory_room (128 + e' + sum (n ∷ []))

abbrev attachments_room : (n a' : ℕ) → ℕ
attachments_room n a' = directory_room (256 + 128 * a' + sum (n ∷ []))

tiles_fit : (n e e' a a' more : ℕ) → n ≤ 832 → e' + 832 ≤ e + 832 * more → 1 * tiles_room n e' + 0 * attachments_room n a' ≤ undo_room e a more
tiles_fit n e e' a a' more few less =
    in_left (tiles_room n e') (attachments_room n a') (directory_room (128 + e + 832 * more)) (directory_room (256 + 128 * (a + more))) (room_rises (128 + e' + sum (n ∷ [])) (128 + e + 832 * more) (omega (arith, one_sum n, few, less)))

attachments_fit : (n e e' a a' more : ℕ) → n ≤ 128 → a' + 1 ≤ a + more → 0 * tiles_room n e' + 1 * attachments_room n a' ≤ undo_room e a more
attachments_fit n e e' a a' more few less =
    in_right (attachments_room n a') (tiles_room n e') (directory_room (128 + e + 832 * more)) (directory_room (256 + 128 * (a + more))) (room_rises (256 + 128 * a' + sum (n ∷ [])) (256 + 128 * (a + more)) (omega (arith, one_sum n, few, less)))

none_fit : (e e' a a' more : ℕ) → 0 * tiles_room 0 e' + 0 * attachments_room 0 a' ≤ undo_room e a more
none_fit e e' a a' more = in_neither (tiles_room 0 e') (attachments_room 0 a') (undo_room e a more)

pub undos_have_room : UndosHaveRoom
undos_have_room (DropSub place) e e' a a' more less fewer = tiles_fit 0 e e' a a' more (omega arith) less
undos_have_room (PutSub place info h) e e' a a' more less fewer = tiles_fit (brought_len (PutSub place info h)) e e' a a' more (long_info info) less
undos_have_room (InsertSub place info h) e e' a a' more less fewer = tiles_fit (brought_len (InsertSub place info h)) e e' a a' more (long_info info) less
undos_have_room (DropAtt place) e e' a a' more less fewer = attachments_fit 0 e e' a a' more (omega arith) fewer
undos_have_room (PutAtt place info h) e e' a a' more less fewer = attachments_fit 128 e e' a a' more (omega arith) fewer
undos_have_room (InsertAtt place info h) e e' a a' more less fewer = attachments_fit 128 e e' a a' more (omega arith) fewer
undos_have_room NoMeta e e' a a' more less fewer = none_fit e e' a a' more
undos_have_room (PutMeta h) e e' a a' more less fewer = none_fit e e' a a' more
undos_have_room Unchanged e e' a a' more less fewer = none_fit e e' a a' more

pub undo_room_rises : UndoRoomRises
undo_room_rises e e' a a' n n' h h' h'' =
    both_rise (directory_room (128 + e + 832 * n)) (directory_room (128 + e' + 832 * n')) (directory_room (256 + 128 * (a + n))) (directory_room (256 + 128 * (a' + n')))
    (room_rises (128 + e + 832 * n) (128 + e' + 832 * n') (omega (arith, h, h''))) (room_rises (256 + 128 * (a + n)) (256 + 128 * (a' + n')) (omega (arith, h', h'')))
