use Rattle.std.proofs.Common.{◌≡◌, ◌++◌, ◌+◌, ℕ, List, length, flat_map, ap, sym, ◌∙◌, subst, arith, append-nil, append_assoc}
use Rattle.std.specs.List.{AllByRecursion}
use Rattle.std.proofs.lemmas.List.Concat.{flat_map-append}
use Rattle.czi_format.specs.Entry.{IsA1, a1_bytes}
use Rattle.czi_machine.proofs.Tiled.{All-both}
use Rattle.czi_region.specs.Pieces.{bytes_put, room}
use Rattle.czi_plan.specs.Attaching.{att_middle}
use Rattle.czi_plan.specs.Changing.{entries_in}
use Rattle.czi_plan.specs.Kind.{of_attachments}
use Rattle.czi_plan.proofs.Attached.{a1s_long, middle_least, middle_long, middle_moves, middle_stays}
use Rattle.czi_plan.proofs.attachments.stage_middle.Goals as goal
use Rattle.czi_plan.proofs.attachments.stage_middle.Goals.{then-parts, else-parts}

pub put_a1s-requires : goal.put_a1s-requires
put_a1s-requires c = omega (arith, c.zeros-front.ensures.room, middle_least c.args.parts.now, c.requires.len, c.requires.room)

pub put_a1s-requires-then-parts : goal.put_a1s-requires-then-parts
put_a1s-requires-then-parts c = omega (arith, c.zeros-front.ensures.room, c.put_a1s.ensures.left, (middle_long c.args.parts.now).1 c.if-parts.true, c.requires.len, c.requires.room)

pub returns-clause-entries : goal.returns-clause-entries
returns-clause-entries c =
    let p = c.args.parts.now in
    elim c.if-parts.branch [
      | then-parts w ↦ subst (AllByRecursion IsA1) (sym (middle_moves p w.if-parts.true)) (All-both IsA1 (entries_in of_attachments p.brought.now) (entries_in of_attachments p.behind.now) c.put_a1s.ensures.entries w.put_a1s-then-parts.ensures.entries)
      | else-parts w ↦ subst (AllByRecursion IsA1) (sym (middle_stays p w.if-parts.false)) c.put_a1s.ensures.entries
    ]

pub returns-clause-staged : goal.returns-clause-staged
returns-clause-staged c =
    let p = c.args.parts.now in
    let old : List ℕ = bytes_put c.args.region.now in
    let come = entries_in of_attachments p.brought.now in
    let behind = entries_in of_attachments p.behind.now in
    let front : bytes_put c.zeros-front.new.self ≡ old = c.zeros-front.ensures.bytes ∙ append-nil old in
    let first : bytes_put c.put_a1s.new.region ≡ old ++ flat_map a1_bytes come = c.put_a1s.ensures.bytes ∙ ap (λ l. l ++ flat_map a1_bytes come) front in
    let bytes : bytes_put c.if-parts.region ≡ old ++ flat_map a1_bytes (att_middle p) = elim c.if-parts.branch [
      | then-parts w ↦ ap bytes_put w.region-is ∙ (w.put_a1s-then-parts.ensures.bytes ∙ (ap (λ l. l ++ flat_map a1_bytes behind) first ∙ (append_assoc old (flat_map a1_bytes come) (flat_map a1_bytes behind)
          ∙ ap (λ l. old ++ l) (sym (flat_map-append a1_bytes come behind) ∙ ap (flat_map a1_bytes) (sym (middle_moves p w.if-parts.true))))))
      | else-parts w ↦ ap bytes_put w.region-is ∙ (first ∙ ap (λ l. old ++ flat_map a1_bytes l) (sym (middle_stays p w.if-parts.false)))
    ] in
    let entries : AllByRecursion IsA1 (att_middle p) = elim c.if-parts.branch [
      | then-parts w ↦ subst (AllByRecursion IsA1) (sym (middle_moves p w.if-parts.true)) (All-both IsA1 come behind c.put_a1s.ensures.entries w.put_a1s-then-parts.ensures.entries)
      | else-parts w ↦ subst (AllByRecursion IsA1) (sym (middle_stays p w.if-parts.false)) c.put_a1s.ensures.entries
    ] in
    let long : length (flat_map a1_bytes (att_middle p)) ≡ c.args.len = omega (arith, a1s_long (att_middle p) entries, c.requires.len) in
    let left : room c.if-parts.region + length (flat_map a1_bytes (att_middle p)) ≡ room c.args.region.now = elim c.if-parts.branch [
      | then-parts w ↦ omega (arith, long, ap room w.region-is, w.put_a1s-then-parts.ensures.left, c.put_a1s.ensures.left, c.zeros-front.ensures.room, (middle_long p).1 w.if-parts.true, c.requires.len)
      | else-parts w ↦ omega (arith, long, ap room w.region-is, c.put_a1s.ensures.left, c.zeros-front.ensures.room, (middle_long p).0 w.if-parts.false, c.requires.len)
    ] in
    c.whole_piece.ensures c.args.region.now c.if-parts.region _ (flat_map a1_bytes (att_middle p)) bytes left c.zeros-front.ensures.behind (sym long)
