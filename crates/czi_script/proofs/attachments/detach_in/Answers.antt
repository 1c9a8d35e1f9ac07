use Rattle.std.proofs.Common.{refl, sym, ◌∙◌, ◌∷◌, []}
use Rattle.czi_script.proofs.Padding.{front_bytes, no_name}
use Rattle.czi_script.proofs.Values.{detach_refused}
use Rattle.czi_script.proofs.attachments.detach_in.Goals as goal

pub returns-in-Ok : goal.returns-in-Ok
returns-in-Ok c = (
  refl,
  (
    c.in-Some.text.now ∷ [],
    sym c.in-Some.ensures,
    (c.in-Some.text.now, refl, front_bytes 80 c.len_before.result c.in-Some.text.now c.in-Some-padded_by.name _ c.in-Some-padded_by.ensures c.len_before.ensures.len (c.new.ensures ∙ c.in-Ok.ensures.items)),
  ),
)

pub returns-in_default-padded_by : goal.returns-in_default-padded_by
returns-in_default-padded_by c = detach_refused c.args.fields.now c.in-Some.text.now c.in-Some.ensures (no_name 80 c.in-Some.text.now c.in_default-padded_by.ensures)
