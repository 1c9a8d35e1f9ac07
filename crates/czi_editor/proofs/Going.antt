-- A reply in pieces: whole at once, or a region row by row.
use Rattle.std.proofs.Common.{◌≡◌, inl, inr, ℕ, zero, suc, ◌+◌, Bool, true, false, List, [], ◌++◌, length, map, Option, None, Some, Result, Ok, Err, OnOk, refl, sym, ap, ◌∙◌, subst, arith, append-nil}
use Rattle.std.specs.Prelude.{IfOk, IfSome, if◌then◌else◌}
use Rattle.std.specs.Option.{ForSome}
use Rattle.czi_format.specs.Document.{Subblock}
use Rattle.czi_format.specs.Live.{Live}
use Rattle.czi_format.specs.Painting.{Query, row}
use Rattle.czi_format.specs.PaintRefusals.{PaintRefusal, region_refusal}
use Rattle.czi_engine.specs.declared.engine.Engine.{Engine}
use Rattle.czi_engine.specs.Standing.{HasState}
use Rattle.czi_image.specs.declared.types.Tile.{Tile}
use Rattle.czi_machine.specs.Laws.{LiesInImage}
use Rattle.czi_paint.specs.Painted.{LiesIn}
use Rattle.czi_paint.specs.Patched.{subblock_in}
use Rattle.czi_paint.specs.Refusing.{tiles_refusal}
use Rattle.czi_paint.proofs.InDocument.{painter_lies, same_cause, subblocks_are, tiles_lie}
use Rattle.czi_report.specs.Pnm.{pnm_head, pnm_pixels}
use Rattle.czi_rig.specs.declared.file.Failed.{Failed}
use Rattle.czi_rig.specs.declared.file.File.TheVariants.{Image}
use Rattle.czi_rig.specs.declared.rig.Rig.{Ghosts}
use Rattle.czi_rig.specs.State.{State, SameAll, seen_of}
use Rattle.czi_rig.specs.Passes.{GoesOn}
use Rattle.czi_rig.specs.Quiet.{Untouched}
use Rattle.czi_rig.proofs.Known.{known_seen}
use Rattle.czi_script.specs.Script.{Command, Region}
use Rattle.czi_tiles.specs.Grid.{IsGrid}
use Rattle.czi_session.specs.Course.{NextPiece, Replied, Stands}
use Rattle.czi_session.specs.declared.stop.EditorStop.{EditorStop}
use Rattle.czi_editor.specs.declared.editor.ImageEditor.{ImageEditor}
use Rattle.czi_editor.specs.declared.painting.Painting.{Painting}
use Rattle.czi_editor.specs.Answering.{MayGoOn, MayPaint, Owes, goes_on_of, piece_of, rows_left}
use Rattle.czi_editor.specs.Machine.{AtState, Begun, IsReady, the_machine}
use Rattle.czi_editor.specs.Painted.{IsBegun, IsPainting, next_row}
use Rattle.czi_editor.specs.Performs.{AtEach, Performs}
use Rattle.czi_editor.specs.Regions.{no_region_line, region_said, rows_from}
use Rattle.czi_editor.specs.Replies.{reply}
use Rattle.czi_editor.proofs.Editing.{both_ok}

-- a whole reply is one piece
pub in_one : (b : Begun) (c : Command) (old new : List ℕ) → old ≡ [] → new ≡ old ++ reply b.state c → Replied the_machine b c new (λ rest. rest ≡ []) 0
in_one b c old new none is = record {
  rest = [];
  whole = sym (is ∙ ap (λ (z : List ℕ). z ++ reply b.state c) none) ∙ sym (append-nil new);
  owed = refl;
  one = inl refl;
}

pub performed_whole : {D : Type 0} {rig : Ghosts D} {c : Command} {before after : D} {x y : Engine} {old new : List ℕ} {result : Result (Unit {0}) EditorStop} → old ≡ [] → Performs rig c before after x y old new result
    → OnOk result (AtEach x (rig.state before) (λ said b. Replied the_machine b c new (λ rest. rest ≡ []) 0 × Stands the_machine (AtState y) (rig.state after) said (the_machine.after b c)))
performed_whole {c = c} {old = old} {new = new} {result = result} none p = both_ok result (λ replied stands said b h. (in_one b c old new none (replied said b h), stands said b h)) p.replied p.stands

-- an editor without a region and a grid may go on where its engine may
pub engine_goes : {T E : Type 0} (result : Result T E) (e : ImageEditor) (s : State) → e.grid ≡ None → e.painting ≡ None → OnOk result (IsReady e.engine s) → OnOk result (MayGoOn e s)
engine_goes (Err error) e s no_grid no_painting ready = tt
engine_goes (Ok t) e s no_grid no_painting ready = record { engine = ready; grid = rw no_grid tt; painting = rw no_painting tt }

-- nor does a reply change anything
pub still_goes : {T E : Type 0} (result : Result T E) (e : ImageEditor) (s : State) → IsReady e.engine s → IfSome e.grid (IsGrid e.engine.state.index.tiles.items) → e.painting ≡ None → OnOk result (MayGoOn e s)
still_goes (Err error) e s ready grid no_painting = tt
still_goes (Ok t) e s ready grid no_painting = record { engine = ready; grid = grid; painting = rw no_painting tt }

-- the subblocks of a state are what the tiles of its engine stand for
pub subblocks_of : (b : Begun) (image : List ℕ) (live : Live) (x : Engine) → HasState b.start image live b.state x.state → map (subblock_in image) x.state.index.tiles.items ≡ b.state.document.subblocks
subblocks_of b image live x has = subblocks_are image live x.state.index has.holds ∙ ap (λ d. d.subblocks) (sym has.stands.lies.document)

refusal_there : (q : Query) (b : Begun) (image : List ℕ) (live : Live) (x : Engine) → HasState b.start image live b.state x.state → tiles_refusal q x.state.index.tiles.items ≡ region_refusal q b.state.document.subblocks
refusal_there q b image live x has = same_cause q image x.state.index.tiles.items (tiles_lie x.state.index (length image) (has.lies.length ∙ has.stands.lies.length)) ∙ ap (region_refusal q) (subblocks_of b image live x has)

-- a region that was begun is replied
begun_replied : (q : Query) (b : Begun) (image : List ℕ) (live : Live) (x : Engine) (old new : List ℕ) (o : Option Painting) → HasState b.start image live b.state x.state → old ≡ [] → IsBegun q x.state.index.tiles.items old new o
    → Replied the_machine b (Region q) (piece_of o new) (Owes o x.state.index.tiles.items b.state.document.subblocks) (rows_left o)
begun_replied q b image live x old new None has none (refusal, is, said) = record {
  rest = [];
  whole = ap (λ r. region_said r q b.state.document.subblocks) (sym (refusal_there q b image live x has) ∙ is) ∙ sym (said ∙ ap (λ (z : List ℕ). z ++ no_region_line refusal) none) ∙ sym (append-nil new);
  owed = refl;
  one = inl refl;
}
begun_replied q b image live x old new (Some p) has none (is, painting, first, said) =
    let subblocks = b.state.document.subblocks in
    let good : region_refusal q subblocks ≡ None = sym (refusal_there q b image live x has) ∙ is in
    let head : piece_of (Some p) new ≡ pnm_head q = ap (λ (t : Bool). if t then p.row.items else new) first ∙ said ∙ ap (λ (z : List ℕ). z ++ pnm_head q) none in
    let rows : rows_from q subblocks 0 q.h ≡ rows_from q subblocks 0 p.left = ap (λ (n : ℕ). rows_from q subblocks 0 n) (omega (arith, painting.left)) in
    record {
      rest = rows_from q subblocks 0 p.left;
      whole = ap (λ r. region_said r q subblocks) good ∙ ap (λ (z : List ℕ). pnm_head q ++ z) rows ∙ ap (λ (z : List ℕ). z ++ rows_from q subblocks 0 p.left) (sym head);
      owed = (q, 0, painting, refl);
      one = inr (q, refl, good);
    }

pub region_replied : (q : Query) (e : Engine) (old : List ℕ) (f : ImageEditor) (state : State) (said : List ℕ) (b : Begun) → old ≡ [] → f.engine ≡ e → IsBegun q e.state.index.tiles.items old f.reply.items f.painting
    → Stands the_machine (AtState e) state said b
    → Replied the_machine b (Region q) (piece_of f.painting f.reply.items) (Owes f.painting f.engine.state.index.tiles.items b.state.document.subblocks) (rows_left f.painting) × Stands the_machine (AtState f.engine) state said b
region_replied q e old f state said b none same begun h = subst
    (λ (x : Engine). Replied the_machine b (Region q) (piece_of f.painting f.reply.items) (Owes f.painting x.state.index.tiles.items b.state.document.subblocks) (rows_left f.painting) × Stands the_machine (AtState x) state said b)
    (sym same) (begun_replied q b h.now.image.seen h.stands.live e old f.reply.items f.painting h.stands.has none begun, h)

begun_paints : (q : Query) (tiles : List Tile) (old new : List ℕ) (o : Option Painting) → IsBegun q tiles old new o → IfSome o (MayPaint tiles)
begun_paints q tiles old new None begun = tt
begun_paints q tiles old new (Some p) (is, painting, first, said) = (q, 0, painting)

pub region_goes : (q : Query) (e : Engine) (old : List ℕ) (f : ImageEditor) (state : State) → f.engine ≡ e → IsReady e state → IfSome f.grid (IsGrid e.state.index.tiles.items)
    → IsBegun q e.state.index.tiles.items old f.reply.items f.painting → MayGoOn f state
region_goes q e old f state same ready grid begun = record {
  engine = subst (λ (x : Engine). IsReady x state) (sym same) ready;
  grid = subst (λ (x : Engine). IfSome f.grid (IsGrid x.state.index.tiles.items)) (sym same) grid;
  painting = subst (λ (x : Engine). IfSome f.painting (MayPaint x.state.index.tiles.items)) (sym same) (begun_paints q e.state.index.tiles.items old f.reply.items f.painting begun);
}

-- ---- the next row

pub painting_there : (P : Painting → Type 0) (o : Option Painting) (p : Painting) → o ≡ Some p → IfSome o P → P p
painting_there P None p is h = cc
painting_there P (Some r) p is h = let same : r ≡ p = cc in subst P same h

pub painter_inside : (x : Engine) (s : State) (p : Painting) → IsReady x s → MayPaint x.state.index.tiles.items p → ForSome (seen_of s Image) (λ image. LiesIn (length image) p.painter)
painter_inside x s p ready may = λ image is.
    let some = ready.stands.state image is in
    painter_lies image x.state.index may.0 may.1 p.painter (some.has.lies.length ∙ some.has.stands.lies.length) may.2.paints

abbrev Kept : Painting → Painting → Bool → Type 0
Kept old new more = (q : Query) (tiles : List Tile) (j : ℕ) → IsPainting old q tiles j → IsPainting new q tiles (next_row more j)

abbrev Rows : State → Painting → Painting → Bool → Type 0
Rows s old new more = more ≡ true → (new.begun ≡ true) × (old.left ≡ new.left + 1) × ForSome (seen_of s Image) (λ image.
    (q : Query) (tiles : List Tile) (j : ℕ) → IsPainting old q tiles j → new.row.items ≡ pnm_pixels q.pixel (row q (map (subblock_in image) tiles) j))

module _ (x : Engine) (s : State) (old new : Painting) (reply : List ℕ) (o : Option Painting) (is : o ≡ Some old) where
  row_next : (more : Bool) → Kept old new more → Rows s old new more → (more ≡ false → old.left ≡ 0) → (said : List ℕ) (b : Begun) (rest : List ℕ) → Stands the_machine (AtState x) s said b
      → Owes (Some old) x.state.index.tiles.items b.state.document.subblocks rest → NextPiece more rest (piece_of (Some new) reply) (Owes (Some new) x.state.index.tiles.items b.state.document.subblocks)
  row_next false kept rows last said b rest h (q, j, p, rest_is) = rest_is ∙ ap (λ (n : ℕ). rows_from q b.state.document.subblocks j n) (last refl)
  row_next true kept rows last said b rest h (q, j, p, rest_is) =
      let subblocks = b.state.document.subblocks in
      let tiles = x.state.index.tiles.items in
      let r = rows refl in
      let more : old.left ≡ suc new.left = omega (arith, r.1) in
      let here : new.row.items ≡ pnm_pixels q.pixel (row q subblocks j)
      = r.2 h.now.image.seen (known_seen s Image h.now h.known) q tiles j p ∙ ap (λ (z : List Subblock). pnm_pixels q.pixel (row q z j)) (subblocks_of b h.now.image.seen h.stands.live x h.stands.has) in
      let piece : piece_of (Some new) reply ≡ pnm_pixels q.pixel (row q subblocks j) = ap (λ (t : Bool). if t then new.row.items else reply) r.0 ∙ here in (
        rows_from q subblocks (j + 1) new.left,
        rest_is ∙ ap (λ (n : ℕ). rows_from q subblocks j n) more ∙ ap (λ (z : List ℕ). z ++ rows_from q subblocks (j + 1) new.left) (sym piece),
        (q, j + 1, kept q tiles j p, refl),
      )

  pub piece_next : (result : Result Bool Failed) → IfOk result (Kept old new) → IfOk result (Rows s old new) → (result ≡ Ok false → old.left ≡ 0)
      → IfOk result (λ more. (said : List ℕ) (b : Begun) (rest : List ℕ) → Stands the_machine (AtState x) s said b → Owes o x.state.index.tiles.items b.state.document.subblocks rest
      → NextPiece more rest (piece_of (Some new) reply) (Owes (Some new) x.state.index.tiles.items b.state.document.subblocks))
  piece_next (Err failed) kept rows last = tt
  piece_next (Ok more) kept rows last = λ said b rest h owed.
      row_next more kept rows (λ none. last (ap (λ (t : Bool). let r : Result Bool Failed = Ok t in r) none)) said b rest h (subst (λ (z : Option Painting). Owes z x.state.index.tiles.items b.state.document.subblocks rest) is owed)

pub next_goes : {D : Type 0} (rig : Ghosts D) (before after : D) (e f : ImageEditor) (old new : Painting) (result : Result Bool Failed) → MayGoOn e (rig.state before) → Untouched rig before after → f.engine ≡ e.engine → f.grid ≡ e.grid → e.painting ≡ Some old → f.painting ≡ Some new
    → IfOk result (Kept old new) → OnOk result (MayGoOn f (rig.state after))
next_goes rig before after e f old new (Err failed) ready u engine grid was now kept = tt
next_goes rig before after e f old new (Ok more) ready u engine grid was now kept =
    let still = goes_on_of e (rig.state before) (rig.state after) ready (record { image = u.same.image; journal = u.same.journal }) u.goes_on in
    let may = painting_there (MayPaint e.engine.state.index.tiles.items) e.painting old was ready.painting in
    let now_may : MayPaint e.engine.state.index.tiles.items new = (may.0, next_row more may.1, kept may.0 e.engine.state.index.tiles.items may.1 may.2) in
    record {
      engine = subst (λ (x : Engine). IsReady x (rig.state after)) (sym engine) still.engine;
      grid = rw (grid, engine) still.grid;
      painting = rw (now, engine) now_may;
    }
