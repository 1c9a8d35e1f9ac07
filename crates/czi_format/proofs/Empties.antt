-- What the bytes of an empty document show.
use Rattle.std.proofs.Common.{◌≡◌, ℕ, pos, List, [], ◌∷◌, length, Some, None, refl, arith, zero, suc, ap, sym}
use Rattle.czi_format.specs.Bytes.{bytes_at, byte_at, i32_at, i64_at}
use Rattle.czi_format.specs.Segment.{Segment, header_at, segment_at, sound_segment, in_segment, file_id, directory_id, deleted_id}
use Rattle.czi_format.specs.Contents.{entry_count}
use Rattle.czi_format.specs.Live.{Live, file_segment, file_header, header_with, Directory, directory, update_pending}
use Rattle.czi_format.specs.Shows.{Reaches, Shows}
use Rattle.czi_format.specs.Walk.{stands_at, IsWalk}
use Rattle.czi_format.specs.Layout.{HasLayout, IsSteady}
use Rattle.czi_format.specs.Empty.{empty_head, empty_segment, empty_image, empty_document, empty_layout}

unfoldable pub empty_directory : Directory
empty_directory = record { segment = empty_segment; count = 0 }

unfoldable pub empty_live : List ℕ → Live
empty_live guid = record { header = header_with (empty_head guid); directory = Some empty_directory; tiles = []; attdir = None; attachments = []; metadata = None }

unfoldable pub empty_walk : List Segment
empty_walk = file_segment ∷ empty_segment ∷ []

-- what holds of n bytes, whatever they are
Each : ℕ → (List ℕ → Type 0) → Type 0
Each zero P = P []
Each (suc n) P = (byte : ℕ) → Each n (λ bytes. P (byte ∷ bytes))

-- holds of each list of n
spread : (n : ℕ) (P : List ℕ → Type 0) → Each n P → (bytes : List ℕ) → length bytes ≡ n → P bytes
unfolding Each
spread zero P each [] is = each
spread zero P each (b ∷ bytes) is = cc
spread (suc n) P each [] is = cc
spread (suc n) P each (b ∷ bytes) is = spread n (λ rest. P (b ∷ rest)) (each b) bytes (omega (arith, is))

-- what is known of an image
pub record IsEmpty (guid : List ℕ) : Type 0 where
  pub long : length (empty_image guid) ≡ 704
  pub stored : bytes_at (empty_image guid) 64 16 ≡ guid
  pub reaches : Reaches (empty_image guid) (empty_live guid)
  pub idle : update_pending (empty_image guid) ≡ pos 0
  pub walks : IsWalk (empty_image guid) empty_walk

spelled : Each 16 IsEmpty
unfolding empty_image empty_live empty_directory empty_walk bytes_at byte_at i32_at i64_at segment_at header_at sound_segment in_segment file_id directory_id deleted_id entry_count file_header directory stands_at Each
spelled = λ a b c d e f g h i j k l m n o p. record {
  long = refl;
  stored = refl;
  reaches = record {
    header = refl;
    part = refl;
    directory = refl;
    few = omega arith;
    entries = refl;
    tiles = refl;
    attdir = refl;
    few_attachments = omega arith;
    a1_entries = refl;
    attachments = refl;
    metadata = refl;
    disjoint = ((refl, tt), (tt, tt));
  };
  idle = refl;
  walks = (refl, (refl, refl));
}

pub is_empty : (guid : List ℕ) → length guid ≡ 16 → IsEmpty guid
is_empty guid is = spread 16 IsEmpty spelled guid is

pub empty_shows : (guid : List ℕ) → length guid ≡ 16 → Shows (empty_image guid) (empty_document guid)
unfolding empty_live
empty_shows guid is = (empty_live guid, (is_empty guid is).reaches, refl)

pub empty_has_layout : (guid : List ℕ) → length guid ≡ 16 → HasLayout (empty_image guid) empty_layout
unfolding empty_live empty_walk empty_directory file_id directory_id deleted_id
empty_has_layout guid is =
    let e = is_empty guid is in
    (empty_live guid, empty_walk, e.reaches, e.walks, ap (λ n. record empty_layout { length = n }) (sym e.long))

pub empty_steady : (guid : List ℕ) → length guid ≡ 16 → IsSteady (empty_image guid)
unfolding empty_live empty_walk empty_directory
empty_steady guid is =
    let e = is_empty guid is in
    record {
      live = empty_live guid;
      walk = empty_walk;
      reaches = e.reaches;
      walks = e.walks;
      whole = sym e.long;
      aligned = (refl, (refl, tt));
      walked = (refl, (refl, tt));
    }
