use Rattle.std.proofs.Common.{◌≡◌, length, ap, arith}
use Rattle.std.specs.List.{sum_by}
use Rattle.std.proofs.lemmas.List.{length-map}
use Rattle.czi_links.specs.Record.{Bytes}
use Rattle.czi_links.specs.WriteSet.{WriteSet, link_in, links_in}
use Rattle.czi_links.proofs.Whole.{emptied_whole, emptied_links, block_len, same_set}
use Rattle.czi_links.proofs.write_set.Links.clear.Goals as goal

pub overflow_sub-self : goal.overflow_sub-self
overflow_sub-self c =
    let s = c.self.inside in
    omega (arith, block_len s.block.items s.entries.items c.self.invariant.0, s.block.ok.0, s.entries.ok.0)

pub invariant_of-self : goal.invariant_of-self
invariant_of-self c =
    let s = c.self.inside in
    let len = block_len s.block.items s.entries.items c.self.invariant.0 in
    let room = c.self.invariant in (
      emptied_whole c.clear-2.new.self.items c.clear.new.self.items c.clear-2.ensures.items c.clear.ensures.items,
      record { room = omega (arith, room.1.room, c.len.ensures, c.clear.ensures.len, c.clear.ensures.capacity) },
      record { room = omega (arith, room.2.room, len, s.block.ok.0, s.entries.ok.0, c.len.ensures, c.len-2.ensures, c.len-3.ensures, c.clear-2.ensures.len, c.clear-2.ensures.capacity) },
      omega (arith, room.3, len, s.block.ok.0, s.entries.ok.0, c.len.ensures, c.len-2.ensures, c.len-3.ensures, c.clear-2.ensures.len),
    )

pub returns : goal.returns
returns c =
    let s = c.self.inside in
    let len = block_len s.block.items s.entries.items c.self.invariant.0 in
    let links_are : links_in s.block.items s.entries.items ≡ c.args.self.now.links = ap (λ (w : WriteSet). w.links) c.self.view_is in
    let links_room = ap (λ (w : WriteSet). w.spare_links) c.self.view_is in
    let bytes_room = ap (λ (w : WriteSet). w.spare_bytes) c.self.view_is in
    let count = ap length links_are in
    let total = ap (sum_by (λ (l : Bytes). length l.bytes)) links_are in
    same_set _ _ (emptied_links c.clear-2.new.self.items c.clear.new.self.items c.clear.ensures.items)
    (omega (arith, links_room, count, length-map s.entries.items (link_in s.block.items), s.entries.ok.0, c.len.ensures))
    (omega (arith, bytes_room, total, len, s.block.ok.0, s.entries.ok.0, c.len-2.ensures, c.len-3.ensures))
