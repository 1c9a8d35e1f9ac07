-- One commit: from the bytes of a state to those of the next.
use Rattle.std.proofs.Common.{◌≡◌, ℕ, ◌≤◌, ◌<◌, List, length, get_or, None, ap, ◌∙◌, arith, inl, inr, ⊎_elim}
use Rattle.std.specs.Option.{unwrap_or}
use Rattle.std.proofs.lemmas.Bool.{cases_lt}
use Rattle.czi_format.specs.Live.{Live}
use Rattle.czi_format.specs.Segment.{Segment, extent}
use Rattle.czi_format.specs.Span.{end_of}
use Rattle.czi_machine.specs.Edit.{after}
use Rattle.czi_machine.specs.Laws.{LiesInImage, Leads}
use Rattle.czi_machine.specs.Sound.{IsDisjointState}
use Rattle.czi_machine.specs.State.{State}
use Rattle.czi_machine.specs.LiveChange.{LiveChange, changed_live, SpansAt}
use Rattle.czi_machine.specs.Writes.{AreOnce, WritesIn, marked}
use Rattle.czi_machine.specs.Written.{Piece, byte_of, Wrote}
use Rattle.czi_machine.proofs.AnyCommand.{once_after}
use Rattle.czi_machine.proofs.Clear.{HeaderAt, header_at_front, not_written, turned_cover}
use Rattle.czi_machine.proofs.Cover.{between_in, between_low, between_high}
use Rattle.czi_machine.proofs.FromPlan.{planned, planned_anywhere}
use Rattle.czi_machine.proofs.Led.{led, stays_sound, stays_tidy}
use Rattle.czi_vault.specs.Recovered.{StandsOr}
use Rattle.czi_commit.specs.Made.{Step}
use Rattle.czi_engine.specs.Commit.{made_of, pieces_in, IsStep, IsPlanned}
use Rattle.czi_engine.specs.Holes.{AreHigh, view_of}
use Rattle.czi_image.specs.Holds.{IsSettled}
use Rattle.czi_engine.specs.Stands.{StandsOn, EitherSide}
use Rattle.czi_engine.proofs.Made.{made_wrote}
use Rattle.czi_engine.proofs.Openable.{recovered_opens, view_opens}

-- nothing is written into UpdatePending
pub none_pending : (bytes : List ℕ) (live : Live) (s s' : State) (t : LiveChange) (pieces : List Piece) (k : ℕ) → LiesInImage bytes live s → IsDisjointState s → Leads s s' → SpansAt s'.layout (changed_live t live)
    → WritesIn live.header t (marked s.layout s'.layout) pieces → 100 ≤ k → k < 104 → byte_of pieces k ≡ None
none_pending bytes live s s' t pieces k lies is leads at inside from to =
    let H : Segment = live.header.segment in
    let front : HeaderAt bytes H = header_at_front bytes live lies.reaches in
    let once : AreOnce live t (marked s.layout s'.layout) = once_after s s' live t bytes lies (led s s' is leads) at in
    not_written live.header t (marked s.layout s'.layout) pieces k inside once.long (omega (
      arith,
      between_high 84 100 k from,
      between_low 104 112 k to,
      once.once k,
      turned_cover live t k,
      between_in H.at (end_of (extent H)) k (omega (arith, front.place)) (omega (arith, front.place, front.large, to)),
    ))

pub made_settled : (bytes other : List ℕ) (live : Live) (s s' : State) (t : LiveChange) (pieces : List Piece) → LiesInImage bytes live s → IsDisjointState s → IsSettled bytes → Leads s s' → SpansAt s'.layout (changed_live t live)
    → WritesIn live.header t (marked s.layout s'.layout) pieces → Wrote bytes other pieces → 112 ≤ length other → get_or other 100 0 ≡ 0 → IsSettled other
made_settled bytes other live s s' t pieces lies is settled leads at inside wrote long first k from to = elim (cases_lt 100 k) [
  | inr h ↦ let e : k ≡ 100 = omega (arith, from, h) in ap (λ (q : ℕ). get_or other q 0) e ∙ first
  | inl h ↦ wrote k (omega (arith, to, long)) (λ e. omega (arith, e, h)) ∙ (ap (λ o. unwrap_or o (get_or bytes k 0)) (none_pending bytes live s s' t pieces k lies is leads at inside from to) ∙ settled k from to)
]

pub commit_stands : (start bytes : List ℕ) (live : Live) (s s' : State) (t : LiveChange) (c : Step) → StandsOn start bytes live s → IsPlanned bytes live s s' t c → IsStep bytes c
    → StandsOn start (made_of c bytes) (changed_live t live) s'
commit_stands start bytes live s s' t c on plan is =
    let made = made_wrote bytes c is in
    let other : List ℕ = made_of c bytes in
    let long : length other ≡ s'.layout.length = made.1 ∙ plan.length in
    record {
      lies = (planned_anywhere bytes other s s' live plan.effect t (pieces_in c) on.lies on.tidy plan.leads plan.spans plan.document plan.plans made.0 long).1;
      tidy = stays_tidy s s' on.tidy plan.leads;
      settled = made_settled bytes other live s s' t (pieces_in c) on.lies on.tidy on.settled plan.leads plan.spans plan.plans.around.inside made.0 (omega (arith, made.1, is.least)) made.2;
      steady = λ was. let both = on.steady was in
          ((planned bytes other s s' live plan.effect t (pieces_in c) both.0 both.1 plan.leads plan.spans plan.document plan.plans made.0 long).1, stays_sound s s' both.1 plan.leads);
    }

pub either_side : (start bytes other image journal : List ℕ) (live live' : Live) (s s' : State) (high : AreHigh s) → StandsOn start bytes live s → StandsOn start other live' s'
    → StandsOr (view_of bytes s high) other image journal → EitherSide start image journal s s'
either_side start bytes other image journal live live' s s' high on after side = ⊎_elim
    (λ before. inl (view_opens start bytes image journal live s high on before))
    (λ made. inr (recovered_opens start other image journal live' s' after made)) side

pub commit_opens : (start bytes image journal : List ℕ) (live : Live) (s s' : State) (t : LiveChange) (c : Step) (high : AreHigh s) → StandsOn start bytes live s → IsPlanned bytes live s s' t c → IsStep bytes c
    → StandsOr (view_of bytes s high) (made_of c bytes) image journal → EitherSide start image journal s s'
commit_opens start bytes image journal live s s' t c high on plan is side =
    either_side start bytes (made_of c bytes) image journal live (changed_live t live) s s' high on (commit_stands start bytes live s s' t c on plan is) side
