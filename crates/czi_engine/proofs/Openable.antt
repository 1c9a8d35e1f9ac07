-- What stands for the bytes of a state opens as the state.
use Rattle.std.proofs.Common.{◌≡◌, ℕ, ◌+◌, ◌<◌, pos, List, drop, get_or, ap, sym, ◌∙◌, arith, []}
use Rattle.std.specs.Int.{cast_signed, from_le_bytes, w32}
use Rattle.std.proofs.lemmas.List.{get_or-take, get_or-drop}
use Rattle.czi_format.specs.Bytes.{bytes_at, i32_at}
use Rattle.czi_format.specs.Layout.{Layout, HasLayout}
use Rattle.czi_format.specs.Live.{Live, update_pending, document}
use Rattle.czi_format.specs.Shows.{Reaches}
use Rattle.czi_machine.specs.Headline.{SameExtents}
use Rattle.czi_machine.specs.Laws.{LiesInImage, Lies}
use Rattle.czi_machine.specs.State.{State}
use Rattle.czi_vault.specs.Recovered.{Recovered, Stands}
use Rattle.czi_engine.specs.Holes.{AreHigh, view_of}
use Rattle.czi_image.specs.Holds.{IsSettled}
use Rattle.czi_engine.specs.Stands.{StandsOn, OpensAs}
use Rattle.czi_machine.proofs.Lying.{layout_lies, opened_sound, opened_tidy}
use Rattle.czi_engine.proofs.Outside.{stands_outside}

part : (bytes : List ℕ) (i : ℕ) → i < 4 → get_or (bytes_at bytes 100 4) i 0 ≡ get_or bytes (100 + i) 0
unfolding bytes_at
part bytes i small = get_or-take 4 (drop 100 bytes) i 0 small ∙ get_or-drop 100 bytes i 0

zero_bytes : (bytes : List ℕ) → get_or bytes 0 0 ≡ 0 → get_or bytes 1 0 ≡ 0 → get_or bytes 2 0 ≡ 0 → get_or bytes 3 0 ≡ 0 → from_le_bytes w32 bytes ≡ 0
zero_bytes bytes a b c d = omega (arith, a, b, c, d)

pub settled_whole : (bytes : List ℕ) → IsSettled bytes → update_pending bytes ≡ pos 0
unfolding i32_at
settled_whole bytes is =
    let zero : (i : ℕ) → i < 4 → get_or (bytes_at bytes 100 4) i 0 ≡ 0 = λ i small. part bytes i small ∙ is (100 + i) (omega arith) (omega (arith, small)) in
    ap (cast_signed w32) (zero_bytes (bytes_at bytes 100 4) (zero 0 (omega arith)) (zero 1 (omega arith)) (zero 2 (omega arith)) (zero 3 (omega arith)))

same_extents : (bytes : List ℕ) (live : Live) (s : State) (m : Layout) → LiesInImage bytes live s → HasLayout bytes m → SameExtents m s.layout
same_extents bytes live s m lies has =
    let at = layout_lies bytes live m lies.reaches has in
    record {
      length = at.1 ∙ sym lies.length;
      header = at.0.header ∙ sym lies.extents.header;
      directory = at.0.directory ∙ sym lies.extents.directory;
      subblocks = at.0.subblocks ∙ sym lies.extents.subblocks;
      attdir = at.0.attdir ∙ sym lies.extents.attdir;
      attachments = at.0.attachments ∙ sym lies.extents.attachments;
      metadata = at.0.metadata ∙ sym lies.extents.metadata;
    }

pub recovered_opens : (start bytes image journal : List ℕ) (live : Live) (s : State) → StandsOn start bytes live s → Recovered image journal bytes → OpensAs start image journal s
recovered_opens start bytes image journal live s on recovered = record {
  bytes = bytes;
  recovered = recovered;
  shows = (live, on.lies.reaches, on.lies.document);
  whole = settled_whole bytes on.settled;
  lies = record { extents = λ m has. same_extents bytes live s m on.lies has; whole = λ was. (on.steady was).0.layout };
  steady = λ was. (on.steady was).0.steady;
}

pub view_opens : (start bytes image journal : List ℕ) (live : Live) (s : State) (high : AreHigh s) → StandsOn start bytes live s → Stands (view_of bytes s high) image journal → OpensAs start image journal s
view_opens start bytes image journal live s high on stands = recovered_opens start stands.bytes image journal live s (stands_outside start bytes stands.bytes live s on stands.agrees) stands.recovered

-- What is opened stands on the state of its layout.

pub opened_stands : (bytes : List ℕ) (live : Live) (s : State) → IsSettled bytes → Reaches bytes live → s.document ≡ document bytes live → HasLayout bytes s.layout → s.formers ≡ [] → StandsOn bytes bytes live s
opened_stands bytes live s settled reaches document_is has new =
    let at = layout_lies bytes live s.layout reaches has in
    record {
      lies = record { reaches = reaches; document = document_is; extents = at.0; length = at.1 };
      tidy = opened_tidy bytes s has new;
      settled = settled;
      steady = λ was.
          let lies : Lies bytes live s = record { reaches = reaches; document = document_is; steady = was; layout = has } in
          (lies, opened_sound bytes live s lies new);
    }
