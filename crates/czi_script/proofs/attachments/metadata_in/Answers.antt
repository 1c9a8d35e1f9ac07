use Rattle.std.proofs.Common.{refl, sym, ◌∷◌, []}
use Rattle.czi_script.proofs.Values.{sizes_refused}
use Rattle.czi_script.proofs.attachments.metadata_in.Goals as goal

pub returns-in-Some-metadata_by : goal.returns-in-Some-metadata_by
returns-in-Some-metadata_by c =
    let sizes = c.in-Some-metadata_by.ensures in (
      refl,
      (c.in-Some.xml.now ∷ c.in-Some.tail.now ∷ [], sym c.in-Some.ensures, (c.in-Some.xml.now, c.in-Some.tail.now, refl, sizes.0, sizes.1)),
    )

pub returns-in-None : goal.returns-in-None
returns-in-None c = sizes_refused c.args.fields.now c.in-Some.xml.now c.in-Some.tail.now c.in-Some.ensures c.in-None.ensures
