-- An engine that was opened stands on its rig.
use Rattle.std.proofs.Common.{◌≡◌, ℕ, ◌≤◌, List, [], ◌∷◌, map, length, Option, Some, refl, sym, ◌∙◌, ap, subst, arith}
use Rattle.std.specs.List.{AllByRecursion}
use Rattle.std.specs.Option.{ForSome}
use Rattle.std.proofs.lemmas.Option.{same_Some}
use Rattle.czi_format.specs.Layout.{Layout, layout}
use Rattle.czi_format.specs.Live.{Live, document}
use Rattle.czi_format.specs.Span.{Span, end_of, is_aligned}
use Rattle.czi_format.proofs.Unique.{reaches_unique}
use Rattle.czi_format.proofs.Walks.{layout_unique}
use Rattle.czi_machine.specs.State.{Former, State as MachineState, items_of, item_spans}
use Rattle.czi_num.specs.Span.{span_of}
use Rattle.czi_num.specs.declared.span.Span.{Span as CodeSpan}
use Rattle.czi_rig.specs.declared.rig.Rig.{Ghosts}
use Rattle.czi_rig.specs.declared.file.File.{File}
use Rattle.czi_rig.specs.declared.file.File.TheVariants.{Image, Journal}
use Rattle.czi_rig.specs.Disk.{Disk, Left, Everywhere, IsAtRest, at_rest}
use Rattle.czi_rig.specs.State.{State, known, seen_of}
use Rattle.czi_rig.specs.Passes.{GoesOn}
use Rattle.czi_rig.specs.Moments.{Devices, devices, all_of, LeavesNow, CountsNow, FromSomeMoment}
use Rattle.czi_rig.proofs.Files.{left_settled}
use Rattle.czi_rig.proofs.Known.{known_file, known_said, known_seen, leaves_now, told_before}
use Rattle.czi_image.specs.declared.index.Index.{Index}
use Rattle.czi_image.specs.Holds.{Indexes, IsSettled, LiesAs}
use Rattle.czi_space.specs.State.{AreExtents}
use Rattle.czi_vault.specs.Recovered.{Recovered}
use Rattle.czi_spans.specs.Apart.{AreApart}
use Rattle.czi_opening.specs.declared.opening.Opened.{Opened}
use Rattle.czi_opening.specs.Answers.{AreRecovered, IsJournal}
use Rattle.czi_opening.specs.Course.{Stays, StandsForItself}
use Rattle.czi_machine.proofs.Leaving.{among_themselves}
use Rattle.czi_machine.proofs.Tiled.{All-weaken, aligned_is}
use Rattle.std.specs.Prelude.{IsTrue}
use Rattle.czi_machine.specs.Formers.{present, BringBack as FormersBack}
use Rattle.czi_undo.specs.Holding.{holds_of}
use Rattle.czi_undo.specs.Told.{FitAll}
use Rattle.czi_undo.specs.declared.inverse.Inverse.{Inverse}
use Rattle.czi_engine.specs.Stands.{StandsOn}
use Rattle.czi_engine.specs.Standing.{BringBack, FewKept, HasSome, HasState, HoldBack, IsFresh, IsItself, IsKept, IsOf, IsOpened, KeepsItems, StandsOnRig, is_among, origin_of, spans_held}
use Rattle.czi_engine.specs.Editing.{OpensIn}
use Rattle.czi_engine.proofs.Keeping.{has_opens}
use Rattle.czi_engine.proofs.Openable.{opened_stands}
use Rattle.czi_engine.specs.declared.engine.EngineState.{EngineState}

free_extents : (from n : ℕ) (es : List Span) → from ≤ n → AreApart from es → AllByRecursion (λ s. IsTrue (is_aligned s)) es → AllByRecursion (λ s. end_of s ≤ n) es → AreExtents from n es
free_extents from n [] low apart aligned inside = low
free_extents from n (s ∷ rest) low apart aligned inside =
    let even = aligned_is s aligned.0 in
    (apart.0, record { at = even.0; len = even.1; some = apart.1 }, free_extents (end_of s) n rest inside.0 apart.2 aligned.1 inside.1)

-- the extents of an index can be those of a map
pub extents_of_index : (x : Index) → AreExtents 0 x.length (map span_of x.extents.items)
extents_of_index x = free_extents 0 x.length (map span_of x.extents.items) (omega arith) x.free.apart x.free.aligned x.free.inside

module _ {D : Type 0} (rig : Ghosts D) where
  -- the recovered image, beside the journal of which it was recovered, is what both stand for
  pub itself : (old new : D) → CountsNow rig → ((r : D) (f : File) → ForSome (known (rig.state r) f) (λ disk. Left disk.durable disk.seen))
      → GoesOn (rig.state old) (rig.state new) → (rig.state new).said ≡ (rig.state old).said
      → ForSome (seen_of (rig.state old) Image) (λ image. ForSome (seen_of (rig.state old) Journal) (λ journal. AreRecovered image journal (rig.state new)))
      → ForSome (devices (rig.state old)) (λ all. FromSomeMoment rig old new (Stays all))
      → ForSome (devices (rig.state new)) (λ all. Recovered all.image.seen all.journal.seen all.image.seen)
  itself old new counts reads goes said recovered moments = λ now is.
      let of_image = told_before (rig.state old) (rig.state new) Image now.image goes (known_file (rig.state new) Image now is) in
      let of_journal = told_before (rig.state old) (rig.state new) Journal now.journal goes (known_file (rig.state new) Journal now is) in
      let of_said : (rig.state old).said ≡ Some now.said = sym said ∙ known_said (rig.state new) now is in
      let all : Devices = record { image = of_image.0; journal = of_journal.0; said = now.said } in
      let was : devices (rig.state old) ≡ Some all = λ i. all_of (of_image.1 i) (of_journal.1 i) (of_said i) in
      let r = recovered all.image.seen (known_seen (rig.state old) Image all was) all.journal.seen (known_seen (rig.state old) Journal all was) in
      let from = moments all was in
      let left : LeavesNow now now.image.seen now.journal.seen now.said = record {
        image_is = reads new Image now.image (known_file (rig.state new) Image now is);
        journal_is = reads new Journal now.journal (known_file (rig.state new) Journal now is);
        said_is = refl;
      } in
      let stays : Stays all now.image.seen now.journal.seen now.said =
      from.always now.image.seen now.journal.seen now.said
      (counts new (rig.state from.then).moment now.image.seen now.journal.seen now.said from.after.later (leaves_now (rig.state new) now is now.image.seen now.journal.seen now.said left)) in
      let made : r.bytes ≡ now.image.seen = ap (λ (d : Disk). d.seen) (same_Some (at_rest r.bytes) now.image (sym r.synced.image_is ∙ known_file (rig.state new) Image now is)) in
      subst (λ (b : List ℕ). Recovered now.image.seen now.journal.seen b) made (stays.0.same r.bytes r.recovered)

-- all items are there at the start
pub own_items : (bytes : List ℕ) (s : MachineState) → KeepsItems (origin_of bytes s) bytes s.layout
own_items bytes s = All-weaken (λ x. IsTrue (is_among (item_spans (items_of s.layout)) x)) (IsKept (origin_of bytes s) bytes s.layout) (λ x there. record { there = there; same = refl }) (item_spans (items_of s.layout)) (among_themselves (item_spans (items_of s.layout)))

-- nothing brings no former document back
none_back : (bytes : List ℕ) (live : Live) (s : MachineState) → StandsOn bytes bytes live s → s.formers ≡ [] → BringBack bytes live s []
none_back bytes live s stands none = record {
  told = [];
  single = tt;
  back = record {
    with' = record { lies = stands.lies; tidy = stands.tidy; back = subst (FormersBack bytes (present s) []) (sym none) tt };
    fit = subst (FitAll (present s) []) (sym none) tt;
  };
}

-- an index of the image, and no edits: the state of the image
pub fresh_has : (bytes : List ℕ) (x : EngineState) (s : MachineState) → Indexes bytes x.index → x.edits ≡ [] → IsFresh bytes x.number s → (live : Live) × HasState (origin_of bytes s) bytes live s x
fresh_has bytes x s is none f =
    let same : f.live ≡ is.live = reaches_unique bytes f.live is.live f.reaches is.reaches in
    let stands = opened_stands bytes is.live s is.settled is.reaches (f.document ∙ ap (document bytes) same) f.layout f.formers in
    let laid : s.layout ≡ layout (length bytes) is.live is.walk = layout_unique bytes s.layout (layout (length bytes) is.live is.walk) f.layout (is.live, is.walk, is.reaches, is.walks, refl) in (
      is.live,
      record {
        stands = stands;
        holds = is.holds;
        lies = subst (λ (l : Layout). LiesAs l x.index) (sym laid) is.lies;
        edits = subst (λ (fs : List Former). HoldBack (items_of s.layout) fs (spans_held x)) (sym f.formers) (subst (λ (is : List Inverse). HoldBack (items_of s.layout) [] (map holds_of is)) (sym none) tt);
        back = subst (BringBack bytes is.live s) (sym none) (none_back bytes is.live s stands f.formers);
        number = sym f.number;
        kept = own_items bytes s;
      },
    )

-- there is one
some_state : (bytes : List ℕ) (x : EngineState) → Indexes bytes x.index → x.edits ≡ [] → HasSome bytes x
some_state bytes x is none =
    let s : MachineState = record { document = document bytes is.live; layout = layout (length bytes) is.live is.walk; formers = []; number = x.number } in
    let has = fresh_has bytes x s is none (record { live = is.live; reaches = is.reaches; document = refl; layout = (is.live, is.walk, is.reaches, is.walks, refl); formers = refl; number = refl }) in
    record { start = origin_of bytes s; live = has.0; state = s; has = has.1 }

left_seen : (d : Disk) (left : List ℕ) → IsAtRest d → Left d.durable left → left ≡ d.seen
left_seen d left rest l = left_settled d.seen left (subst (λ e. Left e left) (ap (λ (x : Disk). x.durable) rest) l)

-- what a crash leaves of files that are on the disk
stands_for_itself : (all : Devices) → IsAtRest all.image → IsAtRest all.journal → Recovered all.image.seen all.journal.seen all.image.seen → IsItself all.image all.journal
stands_for_itself all image journal own = λ i j li lj.
    let of_image : i ≡ all.image.seen = left_seen all.image i image li in
    let of_journal : j ≡ all.journal.seen = left_seen all.journal j journal lj in
    subst (λ (x : List ℕ). Recovered x j all.image.seen) (sym of_image) (subst (λ (x : List ℕ). Recovered all.image.seen x all.image.seen) (sym of_journal) own)

pub indexed : (s : State) (o : Opened) (x : EngineState) → IsOf o x → ForSome (seen_of s Image) (λ image. Indexes image o.index) → ForSome (seen_of s Image) (λ image. Indexes image x.index)
indexed s o x of shown = λ image is. subst (λ (i : Index). Indexes image i) (sym of.index) (shown image is)

pub begins : (s : State) (o : Opened) (x : EngineState) → IsOf o x → ForSome (seen_of s Image) (λ image. Indexes image o.index) → ForSome (known s Journal) (Everywhere (IsJournal o.journal))
    → ForSome (known s Image) IsAtRest × ForSome (known s Journal) IsAtRest → ForSome (devices s) (λ all. Recovered all.image.seen all.journal.seen all.image.seen) → StandsOnRig s x
begins s o x of shown stands synced own = record {
  image = synced.0;
  itself = λ all is. stands_for_itself all (synced.0 all.image (known_file s Image all is)) (synced.1 all.journal (known_file s Journal all is)) (own all is);
  state = λ bytes is. some_state bytes x (indexed s o x of shown bytes is) of.edits;
  armed = λ disk is. subst (λ j. Everywhere (IsJournal j) disk) (sym of.journal) (stands disk is);
  idle = λ off. synced.1;
  own_map = of.own_map;
  few = subst FewKept (sym of.edits) (record { whole = tt; ones = tt; few = omega arith });
}

pub opened_fresh : (s : State) (o : Opened) (x : EngineState) → IsOf o x → ForSome (seen_of s Image) (λ image. Indexes image o.index) → IsOpened s x
opened_fresh s o x of shown = λ bytes is t f. fresh_has bytes x t (indexed s o x of shown bytes is) of.edits f

-- what closing asks
pub closes_for_itself : (all : Devices) → IsItself all.image all.journal → StandsForItself all
closes_for_itself all own = λ i j o l. own i j l.image_is l.journal_is

-- what stands for the bytes of a fresh state opens as it
pub fresh_opens : (bytes image journal : List ℕ) (number : ℕ) (s : MachineState) → IsSettled bytes → IsFresh bytes number s → Recovered image journal bytes → OpensIn (origin_of bytes s) image journal s
fresh_opens bytes image journal number s settled f is =
    has_opens (origin_of bytes s) bytes image journal f.live s (opened_stands bytes f.live s settled f.reaches f.document f.layout f.formers) (own_items bytes s) is
