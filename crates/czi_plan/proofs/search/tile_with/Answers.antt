use Rattle.std.proofs.Common.{◌≡◌, ◌<◌, get_or, length, ap, sym, ◌∙◌, arith, inl, inr}
use Rattle.std.proofs.lemmas.Bool.{cases_lt}
use Rattle.czi_doc.specs.View.{dims_of}
use Rattle.czi_format.specs.Key.{key}
use Rattle.czi_format.specs.Live.{Tile}
use Rattle.czi_image.specs.View.{tile_of}
use Rattle.czi_image.specs.declared.types.Tile.{Tile as CodeTile}
use Rattle.czi_machine.specs.Edit.{same_key}
use Rattle.czi_space.proofs.Edited.{read_as}
use Rattle.czi_plan.proofs.Axes.{first_hit, first_miss}
use Rattle.czi_plan.proofs.Searched.{passed, so_many}
use Rattle.czi_plan.proofs.search.tile_with.Goals as goal

pub returns-then-has_key : goal.returns-then-has_key
returns-then-has_key c =
    let tiles = c.args.index.now.tiles.items in
    let dims = dims_of c.args.dims.now in
    let numbers = c.key_numbers-numbers.result.now in
    let e = c.in-Some.ensures in
    let inside : c.in-Some.i < length tiles = omega (arith, e.1, so_many tiles numbers c.key_numbers-numbers.ensures) in
    first_hit tile_of (λ (t : Tile). same_key (key t.entry.info.dims) (key dims)) tiles c.in-Some.i c.index.result.now inside
    (λ k h. passed tiles dims numbers c.key_number-number.result c.loop-i.from c.in-Some.i c.key_numbers-numbers.ensures c.key_number-number.ensures (omega (arith, e.1)) c.loop-i.invariant.before e.2 k c.index.result.now h)
    (ap (λ (t : CodeTile). same_key (key (dims_of t.info.dims)) (key dims)) (sym c.index.ensures) ∙ (sym c.has_key.ensures ∙ c.if-has_key.true))

pub loop-i-preserved : goal.loop-i-preserved
loop-i-preserved c =
    let tiles = c.args.index.now.tiles.items in
    let dims = dims_of c.args.dims.now in
    let numbers = c.key_numbers-numbers.result.now in
    let e = c.in-Some.ensures in
    let small : c.in-Some.i < length tiles = omega (arith, e.1, so_many tiles numbers c.key_numbers-numbers.ensures) in
    record {
      inside = omega (arith, e.1);
      before = λ k d h. elim (cases_lt k c.in-Some.i) [
        | inl low ↦ passed tiles dims numbers c.key_number-number.result c.loop-i.from c.in-Some.i c.key_numbers-numbers.ensures c.key_number-number.ensures (omega (arith, e.1)) c.loop-i.invariant.before e.2 k d low
        | inr high ↦ let last : k ≡ c.in-Some.i = omega (arith, h, high) in
            ap (λ n. same_key (key (dims_of (get_or tiles n d).info.dims)) (key dims)) last
            ∙ (ap (λ (t : CodeTile). same_key (key (dims_of t.info.dims)) (key dims)) (read_as tiles c.in-Some.i c.index.result.now d small c.index.ensures) ∙ (sym c.has_key.ensures ∙ c.if-has_key.false))
      ];
    }

pub returns : goal.returns
returns c =
    let tiles = c.args.index.now.tiles.items in
    let dims = dims_of c.args.dims.now in
    let numbers = c.key_numbers-numbers.result.now in
    first_miss tile_of (λ (t : Tile). same_key (key t.entry.info.dims) (key dims)) tiles
    (λ k d h. passed tiles dims numbers c.key_number-number.result c.loop-i.from (length numbers) c.key_numbers-numbers.ensures c.key_number-number.ensures (omega arith) c.loop-i.invariant.before c.in_default.ensures k d
    (omega (arith, h, so_many tiles numbers c.key_numbers-numbers.ensures)))
