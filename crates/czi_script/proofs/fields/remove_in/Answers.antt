use Rattle.std.proofs.Common.{refl, sym, ◌∷◌, []}
use Rattle.czi_script.proofs.Values.{remove_refused, bad_not_memory}
use Rattle.czi_script.proofs.fields.remove_in.Goals as goal

pub returns-in-Ok : goal.returns-in-Ok
returns-in-Ok c = (refl, (c.in-Some.text.now ∷ [], sym c.in-Some.ensures, (c.in-Some.text.now, refl, c.in-Ok.ensures.found)))

pub returns-in-Err-Bad : goal.returns-in-Err-Bad
returns-in-Err-Bad c = remove_refused c.args.fields.now c.in-Some.text.now c.in-Some.ensures (λ dims is. bad_not_memory _ _ c.in-Err-Bad.field-0-is (c.in-Err-Bad.ensures.only dims is))
