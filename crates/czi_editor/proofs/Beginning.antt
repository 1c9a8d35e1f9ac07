-- A run begins over each pair of files that opens.
use Rattle.std.proofs.Common.{⊎_elim, inl, inr, [], refl}
use Rattle.czi_format.proofs.Walks.{layout_exists}
use Rattle.czi_machine.specs.State.{State}
use Rattle.czi_opening.proofs.Verdict.{verdict}
use Rattle.czi_engine.specs.Standing.{origin_of}
use Rattle.czi_editor.specs.Machine.{Begun, EachBegins, OpensOrRefused}
use Rattle.czi_report.specs.Refusals.{cause_text}

pub each_begins : EachBegins
each_begins image journal d o numbers =
    let lay = layout_exists o.bytes d o.shows in
    let s : State = record { document = d; layout = lay.0; formers = []; number = 0 } in
    let b : Begun = record { start = origin_of o.bytes s; journal = journal; state = s } in (
      b,
      record {
        recovered = o.recovered;
        numbers = numbers;
        whole = o.idle;
        fresh = record { live = o.shows.0; reaches = o.shows.1; document = o.shows.2; layout = lay.1; formers = refl; number = refl };
        own = refl;
        all = refl;
      },
      refl,
    )

pub opens_or_refused : OpensOrRefused
opens_or_refused image journal = ⊎_elim (λ o. inl o) (λ r. inr (cause_text r.0, record { cause = r.0; refused = r.1; text_is = refl })) (verdict image journal)
