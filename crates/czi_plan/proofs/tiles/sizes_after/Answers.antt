use Rattle.std.proofs.Common.{◌≡◌, ◌+◌, ◌-◌, List, take, drop, length, ap, ◌∙◌, arith}
use Rattle.std.proofs.lemmas.List.{drop-drop, length-drop, take_all}
use Rattle.czi_image.specs.declared.types.Tile.{Tile}
use Rattle.czi_plan.specs.Changing.{size_of}
use Rattle.czi_plan.specs.Kind.{of_subblocks}
use Rattle.czi_plan.proofs.Entries.{split_len}
use Rattle.czi_plan.proofs.tiles.sizes_after.Goals as goal

pub len_before-front-requires-clause-rest : goal.len_before-front-requires-clause-rest
len_before-front-requires-clause-rest c =
    let tiles : List Tile = c.args.tiles.now in
    let more : c.args.from + (c.args.to - c.args.from) ≡ c.args.to = omega (arith, c.requires.order) in
    let same : drop (c.args.to - c.args.from) (drop c.args.from tiles) ≡ drop c.args.to tiles = drop-drop (c.args.to - c.args.from) c.args.from tiles ∙ ap (λ n. drop n tiles) more in
    let all : take (length tiles - c.args.to) (drop c.args.to tiles) ≡ drop c.args.to tiles = take_all (length tiles - c.args.to) (drop c.args.to tiles) (omega (arith, length-drop c.args.to tiles)) in
    omega (arith, c.entries_len-leaving.ensures.len, c.entries_len-behind.ensures.len, split_len (c.args.to - c.args.from) (drop c.args.from tiles), ap (size_of of_subblocks) same, ap (size_of of_subblocks) all)

pub overflow_add-front : goal.overflow_add-front
overflow_add-front c = omega (arith, c.len_before-front.ensures.others, c.requires.most, c.requires.few)
