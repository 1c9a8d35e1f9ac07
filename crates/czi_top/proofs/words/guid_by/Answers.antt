use Rattle.std.proofs.Common.{◌≡◌, ℕ, List, Option, Some, None, option_map, refl, ap, sym, true≢false}
use Rattle.uuid.specs.Text.{parsed}
use Rattle.czi_format.specs.Bytes.{stored_order}
use Rattle.czi_top.proofs.words.guid_by.Goals as goal

none_where : (o : Option (List ℕ)) → (((u : List ℕ) × (o ≡ Some u)) → ⊥) → None ≡ o
none_where None h = refl
none_where (Some u) h = absurd (h (u, refl))

pub returns-in-Err : goal.returns-in-Err
returns-in-Err c = ap (option_map stored_order) (none_where (parsed c.args.text.now) (λ some. true≢false (sym (c.in-Err.ensures.ok.1 some))))
