use Rattle.std.proofs.Common.{ℕ, List, ◌∷◌, Bor, map, string_bytes, ap, sym, ◌∙◌}
use Rattle.std.proofs.lemmas.Result.{IfOk-weaker}
use Rattle.czi_top.proofs.Asking.{named_words, no_command}
use Rattle.czi_top.proofs.words.command_of.Goals as goal

pub returns-in-Some : goal.returns-in-Some
returns-in-Some c =
    let words = map (λ s. string_bytes s) c.args.words.now in
    let file = c.in-Some.found.file.now in
    let name = c.in-Some.found.name.now in
    let shape = rw c.in-Some.is at c.in_ok-found.ensures.shape in
    let whole = (rw c.in-Some.is at c.in_ok-found.ensures.parts) ∙ ap (λ (l : List (Bor (List ℕ))). file ∷ name ∷ map (λ s. s.now) l) (sym c.deref.ensures.value) in
    IfOk-weaker c.command_named.result _ _ (λ command named. named_words words file name _ _ shape whole named) c.command_named.ensures

pub returns-in-None : goal.returns-in-None
returns-in-None c = no_command (map (λ s. string_bytes s) c.args.words.now) (rw c.in-None.is at c.in_ok-found.ensures.shape)
