-- Images that are read without the journal.
use Rattle.std.proofs.Common.{◌≡◌, ◌⊎◌, ℕ, ◌+◌, ◌≤◌, ◌<◌, List, [], ◌∷◌, ◌++◌, map, length, get_or, Option, Some, None, refl, ap, sym, ◌∙◌, arith, inl, inr, ⊎_elim, subst}
use Rattle.std.specs.Option.{unwrap_or, option_or}
use Rattle.std.proofs.lemmas.Bool.{le-leb, lt-ltb}
use Rattle.czi_format.specs.Live.{Live}
use Rattle.czi_format.specs.Same.{SameLive}
use Rattle.czi_format.proofs.Local.{reaches_local, document_local}
use Rattle.czi_links.specs.Record.{Bytes}
use Rattle.czi_rig.specs.Disk.{Covers}
use Rattle.czi_machine.specs.Cover.{cover}
use Rattle.czi_machine.specs.State.{State}
use Rattle.czi_machine.specs.LiveChange.{LiveChange}
use Rattle.czi_machine.specs.Written.{Piece, piece_span, over, all_over, own_byte, byte_of}
use Rattle.czi_machine.proofs.Clear.{HeaderAt, header_at_front}
use Rattle.czi_machine.proofs.Cover.{side, low, here, high}
use Rattle.czi_machine.proofs.Over.{length-over, all_over_byte, none_put}
use Rattle.czi_vault.specs.Alone.{Alone, IsPending, HasBytesBut100}
use Rattle.czi_vault.specs.Puts.{ranges}
use Rattle.czi_vault.specs.Recovered.{View}
use Rattle.czi_commit.specs.Filled.{AreFree, filled}
use Rattle.czi_commit.specs.Made.{Step}
use Rattle.czi_engine.specs.Commit.{piece_of, pieces_of, written, pieces_in, IsPlanned}
use Rattle.czi_engine.proofs.Made.{filled_begin, with_links_is}
use Rattle.czi_engine.specs.Holes.{AreHigh, view_of}
use Rattle.czi_engine.specs.Stands.{StandsOn, ShowsWhole}
use Rattle.czi_engine.proofs.Committed.{none_pending}
use Rattle.czi_engine.proofs.Openable.{settled_whole}
use Rattle.czi_engine.proofs.Outside.{Has, same_live, front_outside}

shows_alone : (start bytes image : List ℕ) (live : Live) (s : State) → StandsOn start bytes live s → Has bytes image s → ShowsWhole image s.document
shows_alone start bytes image live s on has =
    let at : HeaderAt bytes live.header.segment = header_at_front bytes live on.lies.reaches in
    let same : SameLive bytes image live = same_live bytes image live s on.lies on.tidy has in
    record {
      shows = (live, reaches_local bytes image live same on.lies.reaches, on.lies.document ∙ document_local bytes image live same);
      whole = settled_whole image (λ k from to. has.each k (omega (arith, to, at.large, at.inside)) (front_outside bytes live s k on.lies on.tidy (omega (arith, to, at.large))) ∙ on.settled k from to);
    }

pub alone_shows : (start bytes image : List ℕ) (live : Live) (s : State) (far : AreHigh s) → StandsOn start bytes live s → Alone (view_of bytes s far) image → IsPending image ⊎ ShowsWhole image s.document
alone_shows start bytes image live s far on alone = ⊎_elim (λ waits. inl waits) (λ has. inr (shows_alone start bytes image live s on (record { long = has.long; each = has.each }))) alone

-- the bytes of a state show its document
pub shows_whole : (start bytes : List ℕ) (live : Live) (s : State) → StandsOn start bytes live s → ShowsWhole bytes s.document
shows_whole start bytes live s on = record { shows = (live, on.lies.reaches, on.lies.document); whole = settled_whole bytes on.settled }

-- no free write is at a place that matters
free_elsewhere : (view : View) (ws : List Bytes) (k : ℕ) → AreFree view ws → k < length view.bytes → (Covers view.holes k → ⊥) → cover (map piece_span (pieces_of ws)) k ≡ 0
free_elsewhere view [] k free small out = refl
free_elsewhere view (w ∷ ws) k free small out =
    let rest = free_elsewhere view ws k free.1 small out in
    elim (side w.place (w.place + length w.bytes) k) [
      | low h e ↦ omega (arith, e, rest)
      | high h l e ↦ omega (arith, e, rest)
      | here h l e ↦ ⊎_elim (λ hole. absurd (out hole)) (λ past. absurd (omega (arith, past, small))) (free.0 k h l)
    ]

longer : (image : List ℕ) (pieces : List Piece) → length image ≤ length (all_over image pieces)
longer image [] = omega arith
longer image (p ∷ pieces) = omega (arith, length-over image p, longer (over image p) pieces)

pub written_has : (bytes : List ℕ) (s : State) (far : AreHigh s) (c : Step) → AreFree (view_of bytes s far) (filled (length bytes) c.writes) → HasBytesBut100 (view_of bytes s far) (written c bytes)
written_has bytes s far c free =
    let ws : List Bytes = filled (length bytes) c.writes in
    let is : written c bytes ≡ all_over bytes (pieces_of ws) = with_links_is ws bytes (filled_begin (length bytes) c.writes) in
    subst (HasBytesBut100 (view_of bytes s far)) (sym is) (record {
      long = longer bytes (pieces_of ws);
      each = λ k small out not. all_over_byte bytes (pieces_of ws) k
          ∙ ap (λ o. unwrap_or o (get_or bytes k 0)) (none_put (pieces_of ws) k (free_elsewhere (view_of bytes s far) ws k free small out));
    })

-- a place without a byte lies in no piece
no_first : (a b : Option ℕ) → option_or a b ≡ None → (a ≡ None) × (b ≡ None)
no_first None b e = (refl, e)
no_first (Some x) b e = absurd (cc (e))

own_none : (p : Piece) (k : ℕ) → own_byte p k ≡ None → p.place ≤ k → k < p.place + length p.bytes → ⊥
own_none p k none from to = let clash = rw (le-leb _ _ from, lt-ltb _ _ to) at none in cc (clash)

none_covered : (ws ls : List Bytes) (k : ℕ) → byte_of (pieces_of (ws ++ ls)) k ≡ None → Covers (ranges ls) k → ⊥
none_covered [] [] k none there = absurd there
none_covered [] (l ∷ ls) k none there =
    let both = no_first (byte_of (pieces_of ls) k) (own_byte (piece_of l) k) none in
    ⊎_elim (λ own. own_none (piece_of l) k both.1 own.0 own.1) (λ more. none_covered [] ls k both.0 more) there
none_covered (w ∷ ws) ls k none there = none_covered ws ls k (no_first (byte_of (pieces_of (ws ++ ls)) k) (own_byte (piece_of w) k) none).0 there

pub commit_leaves : (start bytes : List ℕ) (live : Live) (s s' : State) (t : LiveChange) (c : Step) → StandsOn start bytes live s → IsPlanned bytes live s s' t c → Covers (ranges c.commits.links) 100 → ⊥
commit_leaves start bytes live s s' t c on plan =
    none_covered c.writes c.commits.links 100 (none_pending bytes live s s' t (pieces_in c) 100 on.lies on.tidy plan.leads plan.spans plan.plans.around.inside (omega arith) (omega arith))
