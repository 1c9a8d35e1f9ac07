use Rattle.std.proofs.Common.{◌≡◌, ℕ, ◌+◌, ◌%◌, ◌^◌, map, ap, sym, ◌∙◌, arith}
use Rattle.czi_machine.specs.Change.{changed, into, out, put}
use Rattle.czi_image.specs.Change.{act_of}
use Rattle.czi_image.specs.Summary.{entries_len}
use Rattle.czi_image.specs.View.{tile_of}
use Rattle.czi_image.specs.declared.change.Act.{Act}
use Rattle.czi_image.specs.declared.types.Tile.{Tile}
use Rattle.czi_image.proofs.Summed.{entries-into, entries-out, entries-put, wraps_less, wraps_more}
use Rattle.czi_image.proofs.summary.entries_len_after.Goals as goal

pub returns-in-Out : goal.returns-in-Out
returns-in-Out c =
    let tiles = c.args.tiles.now in
    let within = rw c.in-Out.is at c.requires.within in
    let rest : ℕ = entries_len (map tile_of (changed (out c.in-Out.i) tiles)) in
    let less : rest + c.entry_len.result ≡ entries_len (map tile_of tiles) = ap (λ (k : ℕ). rest + k) c.entry_len.ensures ∙ entries-out c.in-Out.i tiles c.index-tiles-i.result within.0 in
    wraps_less (entries_len (map tile_of tiles)) rest c.entry_len.result c.args.len c.requires.len less (omega (arith, c.entry_len.type_inv))
    ∙ ap (λ (a : Act Tile). entries_len (map tile_of (changed (act_of a) tiles)) % 2 ^ 64) (sym c.in-Out.is)

pub returns-in-Put : goal.returns-in-Put
returns-in-Put c =
    let tiles = c.args.tiles.now in
    let within = rw c.in-Put.is at c.requires.within in
    let all : ℕ = entries_len (map tile_of tiles) in
    let rest : ℕ = entries_len (map tile_of (changed (out c.in-Put.i) tiles)) in
    let new : ℕ = entries_len (map tile_of (changed (put c.in-Put.i c.in-Put.tile) tiles)) in
    let less : rest + c.entry_len-in-Put.result ≡ all = ap (λ (k : ℕ). rest + k) c.entry_len-in-Put.ensures ∙ entries-out c.in-Put.i tiles c.index-tiles-i-in-Put.result within.0 in
    let both : new + c.entry_len-in-Put.result ≡ all + c.entry_len-in-Put-2.result =
    ap (λ (k : ℕ). new + k) c.entry_len-in-Put.ensures ∙ (entries-put c.in-Put.i c.in-Put.tile tiles c.index-tiles-i-in-Put.result within.0 ∙ ap (λ (k : ℕ). all + k) (sym c.entry_len-in-Put-2.ensures)) in
    wraps_more rest new c.entry_len-in-Put-2.result _ (wraps_less all rest c.entry_len-in-Put.result c.args.len c.requires.len less (omega (arith, c.entry_len-in-Put.type_inv))) (omega (arith, less, both))
    ∙ ap (λ (a : Act Tile). entries_len (map tile_of (changed (act_of a) tiles)) % 2 ^ 64) (sym c.in-Put.is)

pub returns-in-Into : goal.returns-in-Into
returns-in-Into c =
    let tiles = c.args.tiles.now in
    let within = rw c.in-Into.is at c.requires.within in
    let all : ℕ = entries_len (map tile_of tiles) in
    let new : ℕ = entries_len (map tile_of (changed (into c.in-Into.field-0 c.in-Into.tile) tiles)) in
    let more : new ≡ all + c.entry_len-in-Into.result = entries-into c.in-Into.field-0 c.in-Into.tile tiles within.0 ∙ ap (λ (k : ℕ). all + k) (sym c.entry_len-in-Into.ensures) in
    wraps_more all new c.entry_len-in-Into.result c.args.len c.requires.len more
    ∙ ap (λ (a : Act Tile). entries_len (map tile_of (changed (act_of a) tiles)) % 2 ^ 64) (sym c.in-Into.is)
