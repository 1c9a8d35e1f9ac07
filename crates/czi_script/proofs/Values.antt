-- The values of a line, as the code has them.
use Rattle.std.proofs.Common.{◌≡◌, ℕ, ◌+◌, ◌-◌, ◌≤◌, List, [], ◌∷◌, ◌++◌, take, drop, length, true, Option, Some, None, ap, sym, ◌∙◌, subst, arith}
use Rattle.std.specs.Prelude.{◌==◌, ◌^◌, codes, get_or}
use Rattle.std.proofs.Math.Seq.{take-append_seam, drop-append_seam, drop-append-add}
use Rattle.czi_format.specs.Partial.{given}
use Rattle.czi_format.specs.Entry.{Dim, EntryInfo}
use Rattle.czi_doc.specs.DimText.{IsDimText, IsNatural}
use Rattle.czi_doc.specs.declared.fault.TextFault.{TextFault}
use Rattle.czi_doc.specs.declared.fault.TextFault.TheVariants.{Bad, Memory}
use Rattle.czi_script.specs.declared.fields.Texts.{Texts}
use Rattle.czi_script.specs.declared.regions.RegionTexts.{RegionTexts}
use Rattle.czi_format.specs.Key.{Axis}
use Rattle.czi_format.specs.Painting.{Query}
use Rattle.czi_script.specs.declared.fields.Refusal.{Refusal}
use Rattle.czi_script.specs.declared.fields.Refusal.TheVariants.{Kind as OfKind, Memory as NoMemory}
use Rattle.czi_script.specs.declared.attachments.Names.{Names}
use Rattle.czi_script.specs.declared.kind.Kind.TheVariants.{Value}
use Rattle.czi_script.specs.BytesText.{IsBytesText, IsPaddedText}
use Rattle.czi_script.specs.Script.{Verb, Split, with_value, TileValues, IsCount, IsPixel, IsPlane, IsScene, IsSigned, IsSize, RegionValues, region_fields, attachment_fields, attachment_word, metadata_fields, tile_word, tile_fields, needed, value_at, values_at, from_field}
use Rattle.czi_script.specs.Pieces.{NoNumbers, NoRegionNumbers, RefusesRegion, region_values_in, RefusesAttachment, RefusesTile, RefusesFields, names_in, values_in}
use Rattle.czi_script.proofs.Grammar.{only_region, only_tile, only_remove, only_attachment, only_detach, only_meta}

abbrev nth : ℕ → List (List ℕ) → List ℕ
nth n values = get_or values n []

-- one of the numbers isn't of its form
pub no_numbers : (t : Texts) → NoNumbers t → (info : EntryInfo) (meta pixels tail : ℕ) → TileValues info meta pixels tail (values_in t) → ⊥
no_numbers t none info meta pixels tail r = none info.pixel info.compression info.pyramid meta pixels tail (
  subst (λ x. IsSigned x info.pixel) (sym (ap (nth 0) r.texts)) r.is_pixel,
  subst (λ x. IsSigned x info.compression) (sym (ap (nth 1) r.texts)) r.is_comp,
  (subst (λ x. IsNatural x info.pyramid) (sym (ap (nth 2) r.texts)) r.is_pyramid.0, r.is_pyramid.1),
  (subst (λ x. IsNatural x meta) (sym (ap (nth 4) r.texts)) r.is_meta.0, r.is_meta.1),
  (subst (λ x. IsNatural x pixels) (sym (ap (nth 5) r.texts)) r.is_data.0, r.is_data.1),
  (subst (λ x. IsNatural x tail) (sym (ap (nth 6) r.texts)) r.is_att.0, r.is_att.1),
)

-- a subblock's line is wrong
pub tile_refused : (verb : Verb) (t : Texts) (text : List ℕ) (refusal : Refusal) → Some (values_in t) ≡ values_at tile_fields text → RefusesTile t refusal → RefusesFields (tile_word verb) tile_fields text refusal
tile_refused verb t text (OfKind kind) given r = subst (λ k. RefusesFields (tile_word verb) tile_fields text (OfKind k)) (sym r.0) (
  values_in t,
  sym given,
  λ h named are. let x = only_tile verb h (values_in t) named are in r.1 x.0 x.1 x.2 x.3 x.4,
)
tile_refused verb t text NoMemory given r = tt

-- the value of a line that has one

pub one_value : (mark text value rest : List ℕ) → Some (record { value = value; rest = rest }) ≡ value_at mark text → true ≡ (length rest == 0) → values_at (needed mark ∷ []) text ≡ Some (value ∷ [])
one_value mark text value rest found none = ap (λ (found : Option Split). from_field found None (values_at []) text) (sym found) ∙ last
  where
    last : from_field (Some (record { value = value; rest = rest })) None (values_at []) text ≡ Some (value ∷ [])
    last = ap (λ b. with_value value (given b [])) (sym none)

pub remove_refused : (text value : List ℕ) → Some (value ∷ []) ≡ values_at (needed (codes " dims=") ∷ []) text → ((dims : List Dim) → IsDimText value dims → ⊥) → RefusesFields (codes "remove") (needed (codes " dims=") ∷ []) text (OfKind Value)
remove_refused text value given wrong = (
  value ∷ [],
  sym given,
  λ h named are. let x = only_remove h (value ∷ []) named are in wrong x.0 (subst (λ t. IsDimText t x.0) (sym (ap (nth 0) x.2)) x.3),
)

-- the values of the lines of attachments and of the metadata

pub attachment_refused : (verb : Verb) (t : Names) (text : List ℕ) → Some (names_in t) ≡ values_at attachment_fields text → RefusesAttachment t → RefusesFields (attachment_word verb) attachment_fields text (OfKind Value)
attachment_refused verb t text given none = (names_in t, sym given, λ h named are. let x = only_attachment verb h (names_in t) named are in none x.0 x.1 x.2)

pub wrong_type : (t : Names) → ((field : List ℕ) → IsPaddedText 8 t.kind.now field → ⊥) → RefusesAttachment t
wrong_type t none = λ info len r. none info.kind (subst (λ x. IsPaddedText 8 x info.kind) (sym (ap (nth 1) r.texts)) r.is_type)

pub wrong_name : (t : Names) → ((field : List ℕ) → IsPaddedText 80 t.name.now field → ⊥) → RefusesAttachment t
wrong_name t none = λ info len r. none info.name (subst (λ x. IsPaddedText 80 x info.name) (sym (ap (nth 2) r.texts)) r.is_name)

pub wrong_size : (t : Names) → ((n : ℕ) → IsNatural t.size.now n → 2 ^ 64 ≤ n) → RefusesAttachment t
wrong_size t none = λ info len r. let much = none len (subst (λ x. IsNatural x len) (sym (ap (nth 3) r.texts)) r.is_data.0) in omega (arith, much, r.is_data.1)

pub detach_refused : (text value : List ℕ) → Some (value ∷ []) ≡ values_at (needed (codes " name=") ∷ []) text → ((name : List ℕ) → IsBytesText 80 value name → ⊥) → RefusesFields (codes "detach") (needed (codes " name=") ∷ []) text (OfKind Value)
detach_refused text value given wrong = (
  value ∷ [],
  sym given,
  λ h named are. let x = only_detach h (value ∷ []) named are in wrong x.0 (subst (λ t. IsBytesText 80 t x.0) (sym (ap (nth 0) x.2)) x.3),
)

pub sizes_refused : (text a b : List ℕ) → Some (a ∷ b ∷ []) ≡ values_at metadata_fields text → ((xml tail : ℕ) → IsSize a xml → IsSize b tail → ⊥) → RefusesFields (codes "meta") metadata_fields text (OfKind Value)
sizes_refused text a b given wrong = (
  a ∷ b ∷ [],
  sym given,
  λ h named are. let x = only_meta h (a ∷ b ∷ []) named are in wrong x.0 x.1 (subst (λ t. IsSize t x.0) (sym (ap (nth 0) x.4)) x.5) (subst (λ t. IsSize t x.1) (sym (ap (nth 1) x.4)) x.6),
)

-- the values of a region's line

pub no_region_numbers : (t : RegionTexts) → NoRegionNumbers t → (q : Query) → RegionValues q (region_values_in t) → ⊥
no_region_numbers t none q r = none q.pixel q.layer q.x q.y q.w q.h q.scene
    (subst (λ x. IsPixel x q.pixel) (sym (ap (nth 0) r.texts)) r.is_pixel)
    (subst (λ x. IsCount (2 ^ 16) x q.layer) (sym (ap (nth 1) r.texts)) r.is_layer)
    (subst (λ x. IsSigned x q.x) (sym (ap (nth 2) r.texts)) r.is_x)
    (subst (λ x. IsSigned x q.y) (sym (ap (nth 3) r.texts)) r.is_y)
    (subst (λ x. IsCount (2 ^ 32 - 1) x q.w) (sym (ap (nth 4) r.texts)) r.is_w)
    (subst (λ x. IsCount (2 ^ 32 - 1) x q.h) (sym (ap (nth 5) r.texts)) r.is_h)
    (subst (λ x. IsScene x q.scene) (sym (ap (nth 6) r.texts)) r.is_scene)

pub no_region_plane : (t : RegionTexts) → ((axes : List Axis) → IsPlane t.plane.now axes → ⊥) → (q : Query) → RegionValues q (region_values_in t) → ⊥
no_region_plane t none q r = none q.plane (subst (λ x. IsPlane x q.plane) (sym (ap (nth 7) r.texts)) r.is_plane)

pub region_refused : (t : RegionTexts) (text : List ℕ) (refusal : Refusal) → Some (region_values_in t) ≡ values_at region_fields text → RefusesRegion t refusal → RefusesFields (codes "region") region_fields text refusal
region_refused t text (OfKind kind) given r = subst (λ k. RefusesFields (codes "region") region_fields text (OfKind k)) (sym r.0) (
  region_values_in t,
  sym given,
  λ h named are. let x = only_region h (region_values_in t) named are in r.1 x.0 x.1,
)
region_refused t text NoMemory given r = tt

-- the parts of a payload
module _ (meta pixels tail : List ℕ) where
  pub first_part : take (length meta) (meta ++ (pixels ++ tail)) ≡ meta
  first_part = take-append_seam meta (pixels ++ tail)

  pub second_part : take (length pixels) (drop (length meta) (meta ++ (pixels ++ tail))) ≡ pixels
  second_part = ap (take (length pixels)) (drop-append_seam meta (pixels ++ tail)) ∙ take-append_seam pixels tail

  pub last_part : drop (length meta + length pixels) (meta ++ (pixels ++ tail)) ≡ tail
  last_part = drop-append-add meta (pixels ++ tail) (length pixels) ∙ drop-append_seam pixels tail

pub bad_not_memory : (fault : TextFault) (place : ℕ) → fault ≡ Bad place → fault ≡ Memory → ⊥
bad_not_memory fault place bad memory = apart place (sym bad ∙ memory)
  where
    apart : (p : ℕ) → Bad p ≡ Memory → ⊥
    apart p e = cc
