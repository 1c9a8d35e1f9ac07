use Rattle.czi_doc.specs.View.{bytes_of}
use Rattle.czi_script.proofs.Values.{first_part, second_part, last_part}
use Rattle.czi_script.proofs.payload.Tile.command.Goals as goal

pub returns-in-Add : goal.returns-in-Add
returns-in-Add c =
    let r = c.requires in
    let a = first_part (bytes_of c.args.meta) (bytes_of c.args.pixels) (bytes_of c.args.tail) in
    let b = second_part (bytes_of c.args.meta) (bytes_of c.args.pixels) (bytes_of c.args.tail) in
    let d = last_part (bytes_of c.args.meta) (bytes_of c.args.pixels) (bytes_of c.args.tail) in
    rw (c.in-Add.is, ← r.meta, ← r.pixels, a, b, d)

pub returns-in-Replace : goal.returns-in-Replace
returns-in-Replace c =
    let r = c.requires in
    let a = first_part (bytes_of c.args.meta) (bytes_of c.args.pixels) (bytes_of c.args.tail) in
    let b = second_part (bytes_of c.args.meta) (bytes_of c.args.pixels) (bytes_of c.args.tail) in
    let d = last_part (bytes_of c.args.meta) (bytes_of c.args.pixels) (bytes_of c.args.tail) in
    rw (c.in-Replace.is, ← r.meta, ← r.pixels, a, b, d)
