use Rattle.std.proofs.Common.{rules, to_z, of_z, w64, ◌≡◌, ℕ, length, take, drop, arith, sym, ap, ◌∙◌}
use Rattle.std.proofs.lemmas.List.{length-replicate}
use Rattle.czi_format.specs.Bytes.{bytes_at}
use Rattle.czi_format.specs.Partial.{natural}
use Rattle.czi_format.proofs.Readings.{natural_some}
use Rattle.czi_image.proofs.Windows.{nowhere, place_of}
use Rattle.czi_image.proofs.segment.read_front.Goals as goal

pub returns-in_default-clause-found : goal.returns-in_default-clause-found
returns-in_default-clause-found g c = λ image is. nowhere image c.args.least c.args.position (sym (ap natural (let place : to_z w64 (of_z w64 c.args.position) ≡ c.args.position = search rules in place)) ∙ (sym c.natural.ensures ∙ c.in_default.is))

pub returns-then-at-least-clause-found : goal.returns-then-at-least-clause-found
returns-then-at-least-clause-found g c = λ image is.
    let long : c.args.size ≡ length image = c.requires.size image is in
    λ at place. let same : at ≡ c.in-Some.at = place_of c.args.position c.in-Some.at (sym (ap natural (let place : to_z w64 (of_z w64 c.args.position) ≡ c.args.position = search rules in place)) ∙ (sym c.natural.ensures ∙ c.in-Some.is)) at place in omega (arith, long, same)

pub returns-clause-found : goal.returns-clause-found
unfolding bytes_at
returns-clause-found g c = λ image is.
    let long : c.args.size ≡ length image = c.requires.size image is in
    record {
      place = natural_some c.args.position c.in-Some.at (sym (ap natural (let place : to_z w64 (of_z w64 c.args.position) ≡ c.args.position = search rules in place)) ∙ (sym c.natural.ensures ∙ c.in-Some.is));
      room = omega (arith, long);
      bytes_are = c.in_ok-read_at.ensures.bytes image is ∙ ap (λ (n : ℕ). take n (drop c.in-Some.at image)) (length-replicate g.row.N 0);
    }
