use Rattle.std.proofs.Common.{◌≡◌, ◌+◌, ◌-◌, ◌*◌, ℕ, List, ◌++◌, length, flat_map, ap, sym, ◌∙◌, subst, arith, rules, append_assoc}
use Rattle.std.specs.List.{AllByRecursion}
use Rattle.czi_format.specs.Data.{attdir_data}
use Rattle.czi_format.specs.Entry.{A1, IsA1, a1_bytes}
use Rattle.czi_machine.proofs.Tiled.{All-both}
use Rattle.czi_region.specs.Pieces.{bytes_put, room}
use Rattle.czi_plan.specs.Attaching.{att_back, att_front, att_middle}
use Rattle.czi_plan.specs.Changing.{entries_in}
use Rattle.czi_plan.specs.Kind.{of_attachments}
use Rattle.czi_plan.specs.Listing.{size_in}
use Rattle.czi_plan.proofs.Attached.{all_bytes, all_listed, all_long, attdir_long, attdir_put, counted, head_as}
use Rattle.czi_plan.proofs.attachments.stage_attdir.Goals as goal

pub put_a1s-requires : goal.put_a1s-requires
put_a1s-requires c =
    let head : length c.write_u32.new.bytes ≡ 256 = search rules in
    omega (arith, head, c.put-front.ensures.room, all_long c.args.parts.now, c.requires.long, c.requires.room)

pub put_a1s-requires-2 : goal.put_a1s-requires-2
put_a1s-requires-2 c =
    let head : length c.write_u32.new.bytes ≡ 256 = search rules in
    omega (arith, head, c.put-front.ensures.room, c.put_a1s.ensures.left, all_long c.args.parts.now, c.requires.long, c.requires.room)

pub put_a1s-requires-3 : goal.put_a1s-requires-3
put_a1s-requires-3 c =
    let head : length c.write_u32.new.bytes ≡ 256 = search rules in
    omega (arith, head, c.put-front.ensures.room, c.put_a1s.ensures.left, c.put_a1s-2.ensures.left, all_long c.args.parts.now, c.requires.long, c.requires.room)

pub overflow_sub-len-2 : goal.overflow_sub-len-2
overflow_sub-len-2 c = omega (arith, c.count_after-count.ensures, all_long c.args.parts.now, c.requires.long)

pub returns-clause-entries : goal.returns-clause-entries
returns-clause-entries c =
    let p = c.args.parts.now in
    let A = entries_in of_attachments p.before.now in
    let B = entries_in of_attachments p.brought.now in
    let D = entries_in of_attachments p.behind.now in
    subst (AllByRecursion IsA1) (sym (all_listed p)) (All-both IsA1 A (B ++ D) c.put_a1s.ensures.entries (All-both IsA1 B D c.put_a1s-2.ensures.entries c.put_a1s-3.ensures.entries))

pub returns-clause-staged : goal.returns-clause-staged
returns-clause-staged c =
    let p = c.args.parts.now in
    let all : List A1 = att_front p ++ (att_middle p ++ att_back p) in
    let A = entries_in of_attachments p.before.now in
    let B = entries_in of_attachments p.brought.now in
    let D = entries_in of_attachments p.behind.now in
    let entries : AllByRecursion IsA1 all = subst (AllByRecursion IsA1) (sym (all_listed p)) (All-both IsA1 A (B ++ D) c.put_a1s.ensures.entries (All-both IsA1 B D c.put_a1s-2.ensures.entries c.put_a1s-3.ensures.entries)) in
    let padding : ℕ = c.args.len - size_in of_attachments all in
    let size = all_long p in
    let head : length c.write_u32.new.bytes ≡ 256 = search rules in
    let count : c.count_after-count.result ≡ length all = c.count_after-count.ensures ∙ sym (counted p) in
    let fills : c.args.len - 256 - 128 * c.count_after-count.result ≡ padding = omega (arith, c.count_after-count.ensures, size, c.requires.long) in
    let bytes : bytes_put c.put_a1s-3.new.region ≡ bytes_put c.put-front.new.self ++ flat_map a1_bytes all
    = c.put_a1s-3.ensures.bytes ∙ (ap (λ l. l ++ flat_map a1_bytes D) (c.put_a1s-2.ensures.bytes ∙ ap (λ l. l ++ flat_map a1_bytes B) c.put_a1s.ensures.bytes)
    ∙ (three_more (bytes_put c.put-front.new.self) (flat_map a1_bytes A) (flat_map a1_bytes B) (flat_map a1_bytes D) ∙ ap (λ l. bytes_put c.put-front.new.self ++ l) (sym (all_bytes A B D) ∙ ap (flat_map a1_bytes) (sym (all_listed p))))) in
    let put = attdir_put (bytes_put c.args.region.now) c.write_u32.new.bytes (bytes_put c.put-front.new.self) (bytes_put c.put_a1s-3.new.region) (bytes_put c.zeros.new.self) all (flat_map a1_bytes all) (c.args.len - 256 - 128 * c.count_after-count.result) padding fills
    (head_as c.count_after-count.result (length all) c.write_u32.new.bytes c.write_u32.ensures.written count) (λ i. flat_map a1_bytes all) c.put-front.ensures.bytes bytes c.zeros.ensures.bytes in
    let whole : length (attdir_data all padding) ≡ c.args.len = omega (arith, attdir_long all padding entries, c.requires.long) in
    let left : room c.zeros.new.self + c.args.len ≡ room c.args.region.now
    = omega (arith, head, c.put-front.ensures.room, c.put_a1s.ensures.left, c.put_a1s-2.ensures.left, c.put_a1s-3.ensures.left, c.zeros.ensures.room, c.count_after-count.ensures, size, c.requires.long, c.requires.room) in
    c.whole_piece.ensures c.args.region.now c.zeros.new.self _ (attdir_data all padding) put (ap (λ n. room c.zeros.new.self + n) whole ∙ left) c.put-front.ensures.behind (sym whole)
  where
    three_more : (w x y z : List ℕ) → ((w ++ x) ++ y) ++ z ≡ w ++ (x ++ (y ++ z))
    three_more w x y z = append_assoc (w ++ x) y z ∙ append_assoc w x (y ++ z)
