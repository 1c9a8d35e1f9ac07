use Rattle.std.proofs.Common.{◌≡◌, ◌≤◌, ◌+◌, ◌-◌, ℕ, List, [], ◌∷◌, ◌++◌, length, refl, sym, ◌∙◌, ap, subst, arith}
use Rattle.czi_links.specs.Record.{Bytes, next_place}
use Rattle.czi_links.specs.WriteSet.{WriteSet, links_in}
use Rattle.czi_links.proofs.Whole.{added_of, added_links, added_whole, same_set}
use Rattle.czi_links.proofs.write_set.Links.push.Goals as goal

pub invariant_of-self : goal.invariant_of-self
invariant_of-self c =
    let s = c.self.inside in
    let links_are : links_in s.block.items s.entries.items ≡ c.args.self.now.links = ap (λ (w : WriteSet). w.links) c.self.view_is in
    let links_room = ap (λ (w : WriteSet). w.spare_links) c.self.view_is in
    let bytes_room = ap (λ (w : WriteSet). w.spare_bytes) c.self.view_is in
    let begins : next_place 84 (links_in s.block.items s.entries.items) ≤ c.args.place = subst (λ (ls : List Bytes). next_place 84 ls ≤ c.args.place) (sym links_are) c.requires.rising in
    let a = added_of s.block.items s.entries.items c.args.place c.args.bytes.now c.append.new.block.items c.append-2.new.block.items c.append-3.new.block.items c.add.new.entries.items (c.len-at.result + 12) (length c.args.bytes.now) (length c.args.bytes.now)
    (c.append.ensures.items ∙ ap (λ (x : List ℕ). s.block.items ++ x) c.to_le_bytes.ensures) (c.append-2.ensures.items ∙ ap (λ (x : List ℕ). c.append.new.block.items ++ x) c.to_le_bytes-2.ensures) refl c.append-3.ensures.items
    (omega (arith, c.len-at.ensures, s.block.ok.0)) refl c.add.ensures.items in
    let l8 = ap length c.to_le_bytes.ensures in
    let l4 = ap length c.to_le_bytes-2.ensures in
    let room = c.self.invariant in
    let r1 = room.1.room in
    let r2 = room.2.room in
    let small = room.3 in
    let n1 = c.append.ensures.len in
    let n2 = c.append-2.ensures.len in
    let n3 = c.append-3.ensures.len in (
      added_whole a room.0 begins c.requires.some,
      record { room = omega (arith, r1, links_room, c.requires.spare, c.add.ensures.len, c.add.ensures.capacity) },
      record { room = omega (arith, r2, l8, l4, n1, n2, n3, links_room, bytes_room, c.requires.spare, c.requires.room, c.append.ensures.capacity, c.append-2.ensures.capacity, c.append-3.ensures.capacity) },
      omega (arith, small, l8, l4, n1, n2, n3, links_room, bytes_room, c.requires.spare, c.requires.room),
    )

pub returns : goal.returns
returns c =
    let s = c.self.inside in
    let links_are : links_in s.block.items s.entries.items ≡ c.args.self.now.links = ap (λ (w : WriteSet). w.links) c.self.view_is in
    let a = added_of s.block.items s.entries.items c.args.place c.args.bytes.now c.append.new.block.items c.append-2.new.block.items c.append-3.new.block.items c.add.new.entries.items (c.len-at.result + 12) (length c.args.bytes.now) (length c.args.bytes.now)
    (c.append.ensures.items ∙ ap (λ (x : List ℕ). s.block.items ++ x) c.to_le_bytes.ensures) (c.append-2.ensures.items ∙ ap (λ (x : List ℕ). c.append.new.block.items ++ x) c.to_le_bytes-2.ensures) refl c.append-3.ensures.items
    (omega (arith, c.len-at.ensures, s.block.ok.0)) refl c.add.ensures.items in
    same_set _ _ (added_links a c.self.invariant.0 ∙ ap (λ (ls : List Bytes). ls ++ record { place = c.args.place; bytes = c.args.bytes.now } ∷ []) links_are)
    (ap (λ (w : WriteSet). w.spare_links - 1) c.self.view_is) (ap (λ (w : WriteSet). w.spare_bytes - length c.args.bytes.now) c.self.view_is)
