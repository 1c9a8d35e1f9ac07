use Rattle.std.proofs.Common.{◌≡◌, rules, List, Bor, map, Some, ℕ, true}
use Rattle.std.specs.Prelude.{bytes_eq, codes}
use Rattle.czi_doc.specs.QueryView.{query_of}
use Rattle.czi_script.specs.Words.{SaysRegion}
use Rattle.czi_top.proofs.Asking.{region_named}
use Rattle.czi_top.proofs.words.action_of.Goals as goal

pub returns-in-Some : goal.returns-in-Some
returns-in-Some c = λ said says.
    let fields = map (λ (s : Bor (List ℕ)). s.now) c.args.fields.now in
    let named : bytes_eq c.args.name.now (codes "region") ≡ true = search rules in
    let found : SaysRegion fields (Some (query_of c.in-Some.region)) = rw c.in-Some.is at c.in_ok-region.ensures in
    region_named said (Some (query_of c.in-Some.region)) c.args.name.now fields named found says
