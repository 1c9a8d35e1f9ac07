use Rattle.std.proofs.Common.{◌+◌, ◌≤◌, List, map, refl, sym, ◌∙◌, subst}
use Rattle.std.specs.List.{AllByRecursion}
use Rattle.czi_format.specs.Span.{Span, end_of, AreDisjoint}
use Rattle.czi_num.specs.Span.{span_of}
use Rattle.czi_walk.specs.View.{segment_of}
use Rattle.czi_image.specs.Spans.{AreFree}
use Rattle.czi_image.specs.Summary.{Sums}
use Rattle.czi_image.proofs.Indexed.{inside_live}
use Rattle.czi_image.proofs.Placed.{kept}
use Rattle.std.proofs.lemmas.List.{length-map}
use Rattle.czi_image.proofs.opening.index_of.Goals as goal

pub invariant_of-result-clause-inside : goal.invariant_of-result-clause-inside
invariant_of-result-clause-inside c =
    let k = kept c.args.live (map segment_of c.args.survey.walk.items) _ _ _ _ _ (rw c.deref.ensures.value at c.marked_directory-directory.ensures) (rw c.deref-2.ensures.value at c.marked_tiles-tiles.ensures)
    (rw c.deref-3.ensures.value at c.marked_directory-attdir.ensures) (rw c.deref-4.ensures.value at c.marked_attachments-attachments.ensures) (rw c.deref-5.ensures.value at c.marked_metadata-metadata.ensures) in
    subst (AllByRecursion (λ (s : Span). end_of s ≤ c.args.length)) (sym k.spans) (inside_live c.args.length c.args.live c.requires.within)

pub invariant_of-result-clause-disjoint : goal.invariant_of-result-clause-disjoint
invariant_of-result-clause-disjoint c =
    let k = kept c.args.live (map segment_of c.args.survey.walk.items) _ _ _ _ _ (rw c.deref.ensures.value at c.marked_directory-directory.ensures) (rw c.deref-2.ensures.value at c.marked_tiles-tiles.ensures)
    (rw c.deref-3.ensures.value at c.marked_directory-attdir.ensures) (rw c.deref-4.ensures.value at c.marked_attachments-attachments.ensures) (rw c.deref-5.ensures.value at c.marked_metadata-metadata.ensures) in
    subst AreDisjoint (sym k.spans) c.requires.disjoint

pub invariant_of-result-clause-free : goal.invariant_of-result-clause-free
invariant_of-result-clause-free c =
    let k = kept c.args.live (map segment_of c.args.survey.walk.items) _ _ _ _ _ (rw c.deref.ensures.value at c.marked_directory-directory.ensures) (rw c.deref-2.ensures.value at c.marked_tiles-tiles.ensures)
    (rw c.deref-3.ensures.value at c.marked_directory-attdir.ensures) (rw c.deref-4.ensures.value at c.marked_attachments-attachments.ensures) (rw c.deref-5.ensures.value at c.marked_metadata-metadata.ensures) in
    subst (λ (live : List Span). AreFree c.args.length live (map span_of c.args.survey.extents.items)) (sym k.spans) c.requires.free

pub invariant_of-result-clause-summed : goal.invariant_of-result-clause-summed
invariant_of-result-clause-summed c =
    let k = kept c.args.live (map segment_of c.args.survey.walk.items) _ _ _ _ _ (rw c.deref.ensures.value at c.marked_directory-directory.ensures) (rw c.deref-2.ensures.value at c.marked_tiles-tiles.ensures)
    (rw c.deref-3.ensures.value at c.marked_directory-attdir.ensures) (rw c.deref-4.ensures.value at c.marked_attachments-attachments.ensures) (rw c.deref-5.ensures.value at c.marked_metadata-metadata.ensures) in
    subst (Sums c.args.live.summary) (sym k.tiles) c.requires.summed

pub returns-clause-holds : goal.returns-clause-holds
returns-clause-holds c =
    let k = kept c.args.live (map segment_of c.args.survey.walk.items) _ _ _ _ _ (rw c.deref.ensures.value at c.marked_directory-directory.ensures) (rw c.deref-2.ensures.value at c.marked_tiles-tiles.ensures)
    (rw c.deref-3.ensures.value at c.marked_directory-attdir.ensures) (rw c.deref-4.ensures.value at c.marked_attachments-attachments.ensures) (rw c.deref-5.ensures.value at c.marked_metadata-metadata.ensures) in
    record {
      header = record {
        allocated = c.args.live.header.allocated;
        identity = refl;
        part = refl;
        directory = refl;
        metadata = refl;
        attachments = refl;
        pending = c.args.live.header.idle;
      };
      directory = k.directory;
      tiles = k.tiles;
      attdir = k.attdir;
      attachments = k.attachments;
      metadata = k.metadata;
    }

pub returns-clause-lies : goal.returns-clause-lies
returns-clause-lies c = λ shows walked.
    let k = kept c.args.live (map segment_of c.args.survey.walk.items) _ _ _ _ _ (rw c.deref.ensures.value at c.marked_directory-directory.ensures) (rw c.deref-2.ensures.value at c.marked_tiles-tiles.ensures)
    (rw c.deref-3.ensures.value at c.marked_directory-attdir.ensures) (rw c.deref-4.ensures.value at c.marked_attachments-attachments.ensures) (rw c.deref-5.ensures.value at c.marked_metadata-metadata.ensures) in
    record {
      length = refl;
      header = λ j. record { span = record { at = 0; len = 32 + c.args.live.header.allocated j }; walked = sym walked j };
      directory = k.directory_place;
      attdir = k.attdir_place;
      metadata = k.metadata_place;
      subblocks = k.tile_places;
      attachments = k.att_item_places;
      walk_end = shows.ends;
      deleted = shows.deleted;
      unknown = shows.unknown ∙ sym (length-map _ _);
    }
