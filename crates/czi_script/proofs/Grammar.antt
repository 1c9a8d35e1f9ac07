-- Lines: each says one thing, or is wrong in one way.
use Rattle.std.proofs.Common.{◌≡◌, ℕ, suc, ◌+◌, ◌<◌, ℤ, pos, List, [], ◌∷◌, length, Bool, true, false, ◌⊎◌, Option, Some, None, Result, Ok, Err, refl, ap, sym, ◌∙◌, subst, arith, inl, inr, append-nil, if◌then◌else◌}
use Rattle.std.specs.Prelude.{codes, bytes_eq, is_some, get_or, option_map, replicate, ◌^◌}
use Rattle.std.specs.Str.Parse.{digits_value}
use Rattle.std.proofs.lemmas.Bool.{cases_Bool}
use Rattle.std.proofs.lemmas.Option.{none-some}
use Rattle.czi_format.specs.Partial.{◌>>=◌}
use Rattle.uuid.specs.Text.{parsed}
use Rattle.czi_format.specs.Bytes.{stored_order}
use Rattle.czi_format.specs.Entry.{AttInfo, Dim, EntryInfo}
use Rattle.czi_doc.specs.DimText.{IsDimText, IsNatural}
use Rattle.czi_doc.specs.Reading.{Read, items_at, number_at}
use Rattle.czi_doc.proofs.Spelled.{found}
use Rattle.czi_doc.proofs.ReadAgain.{only, only_fault, number_again}
use Rattle.czi_doc.proofs.Numbers.{natural_or, number_or, same_natural}
use Rattle.czi_script.specs.declared.kind.Kind.{Kind}
use Rattle.czi_script.specs.declared.kind.Kind.TheVariants.{Cut, Long, Word, Later, Field, Value, Tail}
use Rattle.czi_script.specs.BytesText.{IsBytesText, IsPaddedText, padded}
use Rattle.czi_script.specs.Script.{Verb, Adds, Replaces, Removes, Detaches, Undoes, Paints, Lists, Tells, Maps, Checks, Tile, Attachment, Metadata, Head, Alone, Brings, word, lines, later_words, is_among, fields_for, values_at, behind_word, values_of, IsSigned, IsSize, TileValues, AttachmentValues, attachment_word, tile_word, head_word, AreValues, IsHead, IsWrong, is_built, has_fields}
use Rattle.czi_script.proofs.Tests.{less_or, no_truth}
use Rattle.czi_script.proofs.RegionLines.{SomeRegion, nth, number_is, region_at, region_is, region_or, the_number}
use Rattle.czi_script.proofs.Words.{each_line, built_not_later}
use Rattle.czi_script.proofs.Spelling.{the_bytes, bytes_is, field_is, bytes_or, field_or}

-- the values, by their texts

abbrev the_dims : Result (List Dim) ℕ → List Dim
the_dims (Ok dims) = dims
the_dims (Err left) = []

dims_is : (text : List ℕ) (dims : List Dim) → IsDimText text dims → the_dims (items_at 40 text) ≡ dims
dims_is text dims is = ap the_dims (only 40 text dims is.items is.few is.fits)

abbrev tile_at : Verb → List (List ℕ) → Head
tile_at verb values = Brings (Tile verb (record {
  pixel = the_number (number_at (nth 0 values));
  compression = the_number (number_at (nth 1 values));
  pyramid = digits_value 10 (nth 2 values);
  spare = replicate 5 0;
  dims = the_dims (items_at 40 (nth 3 values));
}) (digits_value 10 (nth 4 values)) (digits_value 10 (nth 5 values)) (digits_value 10 (nth 6 values)))

tile_is : (verb : Verb) (info : EntryInfo) (meta pixels tail : ℕ) (values : List (List ℕ)) → TileValues info meta pixels tail values → tile_at verb values ≡ Brings (Tile verb info meta pixels tail)
tile_is verb info meta pixels tail values r = ap (tile_at verb) r.texts ∙ parts (number_is r.pixel_text info.pixel r.is_pixel) (number_is r.comp_text info.compression r.is_comp) r.is_pyramid.0.value (sym r.spare) (dims_is r.dims_text info.dims r.is_dims) r.is_meta.0.value r.is_data.0.value r.is_att.0.value
  where
    parts : {a b : ℤ} {c : ℕ} {d : List ℕ} {e : List Dim} {f g h : ℕ} → a ≡ info.pixel → b ≡ info.compression → c ≡ info.pyramid → d ≡ info.spare → e ≡ info.dims → f ≡ meta → g ≡ pixels → h ≡ tail
        → Brings (Tile verb (record { pixel = a; compression = b; pyramid = c; spare = d; dims = e }) f g h) ≡ Brings (Tile verb info meta pixels tail)
    parts p q r s t u v w = rw (p, q, r, s, t, u, v, w)

-- the GUID of a text, or none of its bytes
guid_of : Option (List ℕ) → List ℕ
guid_of None = []
guid_of (Some guid) = guid

pub the_guid : List ℕ → List ℕ
the_guid text = guid_of (option_map stored_order (parsed text))

guid_is : (text guid : List ℕ) → option_map stored_order (parsed text) ≡ Some guid → the_guid text ≡ guid
unfolding the_guid guid_of
guid_is text guid e = ap guid_of e

abbrev attachment_at : Verb → List (List ℕ) → Head
attachment_at verb values = Brings (Attachment verb (record { guid = the_guid (nth 0 values); kind = padded 8 (the_bytes (nth 1 values)); name = padded 80 (the_bytes (nth 2 values)) }) (digits_value 10 (nth 3 values)))

attachment_is : (verb : Verb) (info : AttInfo) (len : ℕ) (values : List (List ℕ)) → AttachmentValues info len values → attachment_at verb values ≡ Brings (Attachment verb info len)
attachment_is verb info len values r = ap (attachment_at verb) r.texts ∙ parts (guid_is r.guid_text info.guid r.is_guid) (field_is 8 r.type_text info.kind r.is_type) (field_is 80 r.name_text info.name r.is_name) r.is_data.0.value
  where
    parts : {a b c : List ℕ} {n : ℕ} → a ≡ info.guid → b ≡ info.kind → c ≡ info.name → n ≡ len → Brings (Attachment verb (record { guid = a; kind = b; name = c }) n) ≡ Brings (Attachment verb info len)
    parts p q r s = rw (p, q, r, s)

-- what a line may say, by its word and its values
abbrev head_at : List ℕ → List (List ℕ) → Head
head_at w values =
    if bytes_eq w (codes "add") then tile_at Adds values
    else if bytes_eq w (codes "replace") then tile_at Replaces values
    else if bytes_eq w (codes "remove") then Alone (Removes (the_dims (items_at 40 (nth 0 values))))
    else if bytes_eq w (codes "attach") then attachment_at Adds values
    else if bytes_eq w (codes "reattach") then attachment_at Replaces values
    else if bytes_eq w (codes "detach") then Alone (Detaches (the_bytes (nth 0 values)))
    else if bytes_eq w (codes "meta") then Brings (Metadata (digits_value 10 (nth 0 values)) (digits_value 10 (nth 1 values)))
    else if bytes_eq w (codes "undo") then Alone Undoes
    else if bytes_eq w (codes "region") then region_at values
    else if bytes_eq w (codes "list") then Alone Lists
    else if bytes_eq w (codes "info") then Alone Tells
    else if bytes_eq w (codes "map") then Alone Maps
    else Alone Checks

metadata_is : (a b : List ℕ) (xml tail : ℕ) → IsSize a xml → IsSize b tail → Brings (Metadata (digits_value 10 a) (digits_value 10 b)) ≡ Brings (Metadata xml tail)
metadata_is a b xml tail p q = both p.0.value q.0.value
  where
    both : {m n : ℕ} → m ≡ xml → n ≡ tail → Brings (Metadata m n) ≡ Brings (Metadata xml tail)
    both e f = rw (e, f)

pub head_is : (h : Head) (values : List (List ℕ)) → AreValues h values → head_at (head_word h) values ≡ h
head_is (Brings (Tile Adds info meta pixels tail)) values are = tile_is Adds info meta pixels tail values are
head_is (Brings (Tile Replaces info meta pixels tail)) values are = tile_is Replaces info meta pixels tail values are
head_is (Alone (Removes dims)) values are = ap (λ vs. head_at (codes "remove") vs) are.1 ∙ ap (λ (ds : List Dim). Alone (Removes ds)) (dims_is are.0 dims are.2)
head_is (Brings (Attachment Adds info len)) values are = attachment_is Adds info len values are
head_is (Brings (Attachment Replaces info len)) values are = attachment_is Replaces info len values are
head_is (Alone (Detaches name)) values are = ap (λ vs. head_at (codes "detach") vs) are.1 ∙ ap (λ (n : List ℕ). Alone (Detaches n)) (bytes_is 80 are.0 name are.2)
head_is (Brings (Metadata xml tail)) values are = ap (λ vs. head_at (codes "meta") vs) are.2 ∙ metadata_is are.0 are.1 xml tail are.3 are.4
head_is (Alone Undoes) values are = refl
head_is (Alone (Paints q)) values are = region_is q values are
head_is (Alone Lists) values are = refl
head_is (Alone Tells) values are = refl
head_is (Alone Maps) values are = refl
head_is (Alone Checks) values are = refl

-- what a word and values say is what they may say
at_word : (w : List ℕ) (h : Head) (values : List (List ℕ)) → head_word h ≡ w → AreValues h values → AreValues (head_at w values) values
at_word w h values named are = subst (λ (k : Head). AreValues k values) (sym (head_is h values are) ∙ ap (λ x. head_at x values) named) are

pub one_head : (h k : Head) (line : List ℕ) → IsHead h line → IsHead k line → h ≡ k
one_head h k line p q =
    sym (head_is h p.values p.are) ∙ both (sym p.named ∙ q.named) (same (values_of line) p.values q.values p.given_so q.given_so) ∙ head_is k q.values q.are
  where
    same : (o : Option (List (List ℕ))) (a b : List (List ℕ)) → o ≡ Some a → o ≡ Some b → a ≡ b
    same o a b e f = cc

    both : {a b : List ℕ} {x y : List (List ℕ)} → a ≡ b → x ≡ y → head_at a x ≡ head_at b y
    both e f = rw (e, f)

-- a line says something, or is wrong

bind_some : {A B : Type 0} (o : Option A) (f : A → Option B) → is_some (o >>= f) ≡ true → is_some o ≡ true
bind_some None f e = e
bind_some (Some x) f e = refl

fields_built : (line : List ℕ) → has_fields line ≡ true → is_built line ≡ true
fields_built line e = bind_some (fields_for lines (word line)) (λ fields. values_at fields (behind_word line)) e

head_fields : (h : Head) (line : List ℕ) → IsHead h line → has_fields line ≡ true
head_fields h line is = ap is_some is.given_so

pub not_both : (h : Head) (kind : Kind) (line : List ℕ) → IsHead h line → IsWrong kind line → ⊥
not_both h Cut line is w = w
not_both h Long line is w = w
not_both h Word line is w = no_truth (sym (fields_built line (head_fields h line is)) ∙ w.0)
not_both h Later line is w = no_truth (sym w ∙ built_not_later (word line) (fields_built line (head_fields h line is)))
not_both h Field line is w = no_truth (sym (head_fields h line is) ∙ w.1)
not_both h Value line is w = w.1 h is
not_both h Tail line is w = w

-- the kind of a line that says nothing
abbrev pub kind_of : List ℕ → Kind
kind_of line = if is_among later_words (word line) then Later else (if is_built line then (if has_fields line then Value else Field) else Word)

kind_here : (a b c d e f : Bool) → a ≡ d → b ≡ e → c ≡ f → (if a then Later else (if b then (if c then Value else Field) else Word)) ≡ (if d then Later else (if e then (if f then Value else Field) else Word))
kind_here a b c d e f p q r = rw (p, q, r)

pub kind_is : (kind : Kind) (line : List ℕ) → IsWrong kind line → kind ≡ kind_of line
kind_is Cut line w = absurd w
kind_is Long line w = absurd w
kind_is Word line w = sym (kind_here _ _ (has_fields line) false false (has_fields line) w.1 w.0 refl)
kind_is Later line w = sym (kind_here _ (is_built line) (has_fields line) true (is_built line) (has_fields line) w refl refl)
kind_is Field line w = sym (kind_here _ _ _ false true false (built_not_later (word line) w.0) w.0 w.1)
kind_is Value line w = let built = fields_built line w.0 in sym (kind_here _ _ _ false true true (built_not_later (word line) built) built w.0)
kind_is Tail line w = absurd w

-- what stands in the values of a line, by its word

abbrev SomeTile : List (List ℕ) → Type 0
SomeTile values = (info : EntryInfo) × (meta : ℕ) × (pixels : ℕ) × (tail : ℕ) × TileValues info meta pixels tail values

pub only_tile : (verb : Verb) (h : Head) (values : List (List ℕ)) → head_word h ≡ tile_word verb → AreValues h values → SomeTile values
only_tile Adds h values named are = (_, _, _, _, at_word (codes "add") h values named are)
only_tile Replaces h values named are = (_, _, _, _, at_word (codes "replace") h values named are)

abbrev SomeDims : List (List ℕ) → Type 0
SomeDims values = (dims : List Dim) × (text : List ℕ) × (values ≡ text ∷ []) × IsDimText text dims

pub only_remove : (h : Head) (values : List (List ℕ)) → head_word h ≡ codes "remove" → AreValues h values → SomeDims values
only_remove h values named are = let r = at_word (codes "remove") h values named are in (_, r.0, r.1, r.2)

abbrev SomeAttachment : List (List ℕ) → Type 0
SomeAttachment values = (info : AttInfo) × (len : ℕ) × AttachmentValues info len values

pub only_attachment : (verb : Verb) (h : Head) (values : List (List ℕ)) → head_word h ≡ attachment_word verb → AreValues h values → SomeAttachment values
only_attachment Adds h values named are = (_, _, at_word (codes "attach") h values named are)
only_attachment Replaces h values named are = (_, _, at_word (codes "reattach") h values named are)

abbrev SomeName : List (List ℕ) → Type 0
SomeName values = (name : List ℕ) × (text : List ℕ) × (values ≡ text ∷ []) × IsBytesText 80 text name

pub only_detach : (h : Head) (values : List (List ℕ)) → head_word h ≡ codes "detach" → AreValues h values → SomeName values
only_detach h values named are = let r = at_word (codes "detach") h values named are in (_, r.0, r.1, r.2)

abbrev SomeSizes : List (List ℕ) → Type 0
SomeSizes values = (xml : ℕ) × (tail : ℕ) × (a : List ℕ) × (b : List ℕ) × (values ≡ a ∷ b ∷ []) × IsSize a xml × IsSize b tail

pub only_meta : (h : Head) (values : List (List ℕ)) → head_word h ≡ codes "meta" → AreValues h values → SomeSizes values
only_meta h values named are = let r = at_word (codes "meta") h values named are in (_, _, r.0, r.1, r.2, r.3, r.4)

pub only_region : (h : Head) (values : List (List ℕ)) → head_word h ≡ codes "region" → AreValues h values → SomeRegion values
only_region h values named are = (_, at_word (codes "region") h values named are)

some_values : (v : List ℕ) (values : List (List ℕ)) → v ∷ values ≡ [] → ⊥
some_values v values e = cc

-- whether values are of their form

below_or : (most : ℕ) (text : List ℕ) → ((n : ℕ) × IsNatural text n × (n < most)) ⊎ ((n : ℕ) → IsNatural text n → n < most → ⊥)
below_or most text = elim (natural_or text) [
  | inr none ↦ inr (λ n is lt. none n is)
  | inl x ↦ elim (less_or x.0 most) [
    | inl lt ↦ inl (x.0, x.1, lt)
    | inr le ↦ inr (λ n is lt. let same : n ≡ x.0 = same_natural text n x.0 is x.1 in omega (arith, same, lt, le))
  ]
]

dims_by : (text : List ℕ) (r : Result (List Dim) ℕ) → items_at 40 text ≡ r → ((dims : List Dim) × IsDimText text dims) ⊎ ((dims : List Dim) → IsDimText text dims → ⊥)
dims_by text (Ok dims) e = inl (dims, found text dims e)
dims_by text (Err left) e = inr (λ dims is. only_fault text left dims e is)

abbrev TileOr : List (List ℕ) → Type 0
TileOr values = SomeTile values ⊎ (SomeTile values → ⊥)

-- what a value of them would be, where one isn't of its form
wrong_pixel : (a b c d e f g : List ℕ) → ((n : ℤ) → IsSigned a n → ⊥) → SomeTile (a ∷ b ∷ c ∷ d ∷ e ∷ f ∷ g ∷ []) → ⊥
wrong_pixel a b c d e f g none t = let r = t.4 in none t.0.pixel (subst (λ x. IsSigned x t.0.pixel) (sym (ap (nth 0) r.texts)) r.is_pixel)

wrong_comp : (a b c d e f g : List ℕ) → ((n : ℤ) → IsSigned b n → ⊥) → SomeTile (a ∷ b ∷ c ∷ d ∷ e ∷ f ∷ g ∷ []) → ⊥
wrong_comp a b c d e f g none t = let r = t.4 in none t.0.compression (subst (λ x. IsSigned x t.0.compression) (sym (ap (nth 1) r.texts)) r.is_comp)

wrong_pyramid : (a b c d e f g : List ℕ) → ((n : ℕ) → IsNatural c n → n < 2 ^ 8 → ⊥) → SomeTile (a ∷ b ∷ c ∷ d ∷ e ∷ f ∷ g ∷ []) → ⊥
wrong_pyramid a b c d e f g none t = let r = t.4 in none t.0.pyramid (subst (λ x. IsNatural x t.0.pyramid) (sym (ap (nth 2) r.texts)) r.is_pyramid.0) r.is_pyramid.1

wrong_dims : (a b c d e f g : List ℕ) → ((dims : List Dim) → IsDimText d dims → ⊥) → SomeTile (a ∷ b ∷ c ∷ d ∷ e ∷ f ∷ g ∷ []) → ⊥
wrong_dims a b c d e f g none t = let r = t.4 in none t.0.dims (subst (λ x. IsDimText x t.0.dims) (sym (ap (nth 3) r.texts)) r.is_dims)

wrong_meta : (a b c d e f g : List ℕ) → ((n : ℕ) → IsNatural e n → n < 2 ^ 64 → ⊥) → SomeTile (a ∷ b ∷ c ∷ d ∷ e ∷ f ∷ g ∷ []) → ⊥
wrong_meta a b c d e f g none t = let r = t.4 in none t.1 (subst (λ x. IsNatural x t.1) (sym (ap (nth 4) r.texts)) r.is_meta.0) r.is_meta.1

wrong_data : (a b c d e f g : List ℕ) → ((n : ℕ) → IsNatural f n → n < 2 ^ 64 → ⊥) → SomeTile (a ∷ b ∷ c ∷ d ∷ e ∷ f ∷ g ∷ []) → ⊥
wrong_data a b c d e f g none t = let r = t.4 in none t.2 (subst (λ x. IsNatural x t.2) (sym (ap (nth 5) r.texts)) r.is_data.0) r.is_data.1

wrong_att : (a b c d e f g : List ℕ) → ((n : ℕ) → IsNatural g n → n < 2 ^ 64 → ⊥) → SomeTile (a ∷ b ∷ c ∷ d ∷ e ∷ f ∷ g ∷ []) → ⊥
wrong_att a b c d e f g none t = let r = t.4 in none t.3 (subst (λ x. IsNatural x t.3) (sym (ap (nth 6) r.texts)) r.is_att.0) r.is_att.1

seven : (a b c d e f g : List ℕ) → TileOr (a ∷ b ∷ c ∷ d ∷ e ∷ f ∷ g ∷ [])
seven a b c d e f g = elim (number_or a) [
  | inr none ↦ inr (wrong_pixel a b c d e f g (λ n is. none n is.0 is.1))
  | inl pixel ↦ elim (number_or b) [
    | inr none ↦ inr (wrong_comp a b c d e f g (λ n is. none n is.0 is.1))
    | inl comp ↦ elim (below_or (2 ^ 8) c) [
      | inr none ↦ inr (wrong_pyramid a b c d e f g none)
      | inl pyramid ↦ elim (dims_by d (items_at 40 d) refl) [
        | inr none ↦ inr (wrong_dims a b c d e f g none)
        | inl dims ↦ elim (below_or (2 ^ 64) e) [
          | inr none ↦ inr (wrong_meta a b c d e f g none)
          | inl meta ↦ elim (below_or (2 ^ 64) f) [
            | inr none ↦ inr (wrong_data a b c d e f g none)
            | inl pixels ↦ elim (below_or (2 ^ 64) g) [
              | inr none ↦ inr (wrong_att a b c d e f g none)
              | inl tail ↦ inl (
                record { pixel = pixel.0; compression = comp.0; pyramid = pyramid.0; spare = replicate 5 0; dims = dims.0 },
                meta.0,
                pixels.0,
                tail.0,
                record {
                  pixel_text = a;
                  comp_text = b;
                  pyramid_text = c;
                  dims_text = d;
                  meta_text = e;
                  data_text = f;
                  att_text = g;
                  texts = refl;
                  is_pixel = (pixel.1, pixel.2);
                  is_comp = (comp.1, comp.2);
                  is_pyramid = (pyramid.1, pyramid.2);
                  is_dims = dims.1;
                  is_meta = (meta.1, meta.2);
                  is_data = (pixels.1, pixels.2);
                  is_att = (tail.1, tail.2);
                  spare = refl;
                },
              )
            ]
          ]
        ]
      ]
    ]
  ]
]

-- the values of an attachment's line, where one isn't of its form

guid_or : (text : List ℕ) → ((guid : List ℕ) × (option_map stored_order (parsed text) ≡ Some guid)) ⊎ ((guid : List ℕ) → option_map stored_order (parsed text) ≡ Some guid → ⊥)
guid_or text = some_or (option_map stored_order (parsed text))
  where
    some_or : (o : Option (List ℕ)) → ((x : List ℕ) × (o ≡ Some x)) ⊎ ((x : List ℕ) → o ≡ Some x → ⊥)
    some_or None = inr (λ x e. none-some x e)
    some_or (Some x) = inl (x, refl)

AttachmentOr : List (List ℕ) → Type 0
AttachmentOr values = SomeAttachment values ⊎ (SomeAttachment values → ⊥)

four : (a b c d : List ℕ) → AttachmentOr (a ∷ b ∷ c ∷ d ∷ [])
unfolding AttachmentOr
four a b c d = elim (guid_or a) [
  | inr none ↦ inr (λ t. let r = t.2 in none t.0.guid (subst (λ x. option_map stored_order (parsed x) ≡ Some t.0.guid) (sym (ap (nth 0) r.texts)) r.is_guid))
  | inl guid ↦ elim (field_or 8 b) [
    | inr none ↦ inr (λ t. let r = t.2 in none t.0.kind (subst (λ x. IsPaddedText 8 x t.0.kind) (sym (ap (nth 1) r.texts)) r.is_type))
    | inl kind ↦ elim (field_or 80 c) [
      | inr none ↦ inr (λ t. let r = t.2 in none t.0.name (subst (λ x. IsPaddedText 80 x t.0.name) (sym (ap (nth 2) r.texts)) r.is_name))
      | inl name ↦ elim (below_or (2 ^ 64) d) [
        | inr none ↦ inr (λ t. let r = t.2 in none t.1 (subst (λ x. IsNatural x t.1) (sym (ap (nth 3) r.texts)) r.is_data.0) r.is_data.1)
        | inl size ↦ inl (
          record { guid = guid.0; kind = kind.0; name = name.0 },
          size.0,
          record { guid_text = a; type_text = b; name_text = c; data_text = d; texts = refl; is_guid = guid.1; is_type = kind.1; is_name = name.1; is_data = (size.1, size.2) },
        )
      ]
    ]
  ]
]

attachment_or : (values : List (List ℕ)) → AttachmentOr values
unfolding AttachmentOr
attachment_or [] = inr (λ t. let k : 0 ≡ 4 = ap length t.2.texts in omega (arith, k))
attachment_or (a ∷ []) = inr (λ t. let k : 1 ≡ 4 = ap length t.2.texts in omega (arith, k))
attachment_or (a ∷ b ∷ []) = inr (λ t. let k : 2 ≡ 4 = ap length t.2.texts in omega (arith, k))
attachment_or (a ∷ b ∷ c ∷ []) = inr (λ t. let k : 3 ≡ 4 = ap length t.2.texts in omega (arith, k))
attachment_or (a ∷ b ∷ c ∷ d ∷ []) = four a b c d
attachment_or (a ∷ b ∷ c ∷ d ∷ e ∷ values) = inr (λ t. let k : suc (suc (suc (suc (suc (length values))))) ≡ 4 = ap length t.2.texts in omega (arith, k))

-- the two sizes of the metadata's line
sizes_or : (values : List (List ℕ)) → SomeSizes values ⊎ (SomeSizes values → ⊥)
sizes_or [] = inr (λ t. some_values t.2 (t.3 ∷ []) (sym t.4))
sizes_or (a ∷ []) = inr (λ t. let k : 1 ≡ 2 = ap length t.4 in omega (arith, k))
sizes_or (a ∷ b ∷ []) = elim (below_or (2 ^ 64) a) [
  | inr none ↦ inr (λ t. none t.0 (subst (λ x. IsNatural x t.0) (sym (ap (nth 0) t.4)) t.5.0) t.5.1)
  | inl xml ↦ elim (below_or (2 ^ 64) b) [
    | inr none ↦ inr (λ t. none t.1 (subst (λ x. IsNatural x t.1) (sym (ap (nth 1) t.4)) t.6.0) t.6.1)
    | inl tail ↦ inl (xml.0, tail.0, a, b, refl, (xml.1, xml.2), (tail.1, tail.2))
  ]
]
sizes_or (a ∷ b ∷ c ∷ values) = inr (λ t. let k : suc (suc (suc (length values))) ≡ 2 = ap length t.4 in omega (arith, k))

name_or : (values : List (List ℕ)) → SomeName values ⊎ (SomeName values → ⊥)
name_or [] = inr (λ t. some_values t.1 [] (sym t.2))
name_or (text ∷ []) = elim (bytes_or 80 text) [
  | inl s ↦ inl (s.0, text, refl, s.1)
  | inr none ↦ inr (λ t. none t.0 (subst (λ x. IsBytesText 80 x t.0) (sym (ap (nth 0) t.2)) t.3))
]
name_or (text ∷ more ∷ values) = inr (λ t. let k : suc (suc (length values)) ≡ 1 = ap length t.2 in omega (arith, k))

other_len : (values : List (List ℕ)) (n : ℕ) → length values ≡ n → (n ≡ 7 → ⊥) → SomeTile values → ⊥
other_len values n len other t = let k : length values ≡ 7 = ap length t.4.texts in other (omega (arith, k, len))

tile_or : (values : List (List ℕ)) → TileOr values
tile_or [] = inr (other_len [] 0 refl (λ e. omega (arith, e)))
tile_or (a ∷ []) = inr (other_len _ 1 refl (λ e. omega (arith, e)))
tile_or (a ∷ b ∷ []) = inr (other_len _ 2 refl (λ e. omega (arith, e)))
tile_or (a ∷ b ∷ c ∷ []) = inr (other_len _ 3 refl (λ e. omega (arith, e)))
tile_or (a ∷ b ∷ c ∷ d ∷ []) = inr (other_len _ 4 refl (λ e. omega (arith, e)))
tile_or (a ∷ b ∷ c ∷ d ∷ e ∷ []) = inr (other_len _ 5 refl (λ e. omega (arith, e)))
tile_or (a ∷ b ∷ c ∷ d ∷ e ∷ f ∷ []) = inr (other_len _ 6 refl (λ e. omega (arith, e)))
tile_or (a ∷ b ∷ c ∷ d ∷ e ∷ f ∷ g ∷ []) = seven a b c d e f g
tile_or (a ∷ b ∷ c ∷ d ∷ e ∷ f ∷ g ∷ h ∷ values) = inr (λ t. let k : 8 + length values ≡ 7 = more (length values) (ap length t.4.texts) in omega (arith, k))
  where
    more : (n : ℕ) → suc (suc (suc (suc (suc (suc (suc (suc n))))))) ≡ 7 → 8 + n ≡ 7
    more n e = omega (arith, e)

dims_or : (values : List (List ℕ)) → SomeDims values ⊎ (SomeDims values → ⊥)
dims_or [] = inr (λ t. some_values t.1 [] (sym t.2))
dims_or (text ∷ []) = elim (dims_by text (items_at 40 text) refl) [
  | inl dims ↦ inl (dims.0, text, refl, dims.1)
  | inr none ↦ inr (λ t. none t.0 (subst (λ x. IsDimText x t.0) (sym (ap (nth 0) t.2)) t.3))
]
dims_or (text ∷ more ∷ values) = inr (λ t. let k : suc (suc (length values)) ≡ 1 = ap length t.2 in omega (arith, k))

-- what a word and values say
abbrev SaysSo : List ℕ → Type 0
SaysSo w = (values : List (List ℕ)) → ((h : Head) × (head_word h ≡ w) × AreValues h values) ⊎ ((h : Head) → head_word h ≡ w → AreValues h values → ⊥)

tile_says : (verb : Verb) → SaysSo (tile_word verb)
tile_says verb = λ values. elim (tile_or values) [
  | inl t ↦ inl (Brings (Tile verb t.0 t.1 t.2 t.3), refl, t.4)
  | inr none ↦ inr (λ h named are. none (only_tile verb h values named are))
]

remove_says : SaysSo (codes "remove")
remove_says = λ values. elim (dims_or values) [
  | inl t ↦ inl (Alone (Removes t.0), refl, (t.1, t.2, t.3))
  | inr none ↦ inr (λ h named are. none (only_remove h values named are))
]

attachment_says : (verb : Verb) → SaysSo (attachment_word verb)
unfolding AttachmentOr
attachment_says verb = λ values. elim (attachment_or values) [
  | inl t ↦ inl (Brings (Attachment verb t.0 t.1), refl, t.2)
  | inr none ↦ inr (λ h named are. none (only_attachment verb h values named are))
]

detach_says : SaysSo (codes "detach")
detach_says = λ values. elim (name_or values) [
  | inl t ↦ inl (Alone (Detaches t.0), refl, (t.1, t.2, t.3))
  | inr none ↦ inr (λ h named are. none (only_detach h values named are))
]

meta_says : SaysSo (codes "meta")
meta_says = λ values. elim (sizes_or values) [
  | inl t ↦ inl (Brings (Metadata t.0 t.1), refl, (t.2, t.3, t.4, t.5, t.6))
  | inr none ↦ inr (λ h named are. none (only_meta h values named are))
]

region_says : SaysSo (codes "region")
region_says = λ values. elim (region_or values) [
  | inl t ↦ inl (Alone (Paints t.0), refl, t.1)
  | inr none ↦ inr (λ h named are. none (only_region h values named are))
]

-- a line without fields
bare_says : (w : List ℕ) (h : Head) → head_word h ≡ w → AreValues h [] → ((v : List ℕ) (values : List (List ℕ)) → AreValues (head_at w (v ∷ values)) (v ∷ values) → ⊥) → SaysSo w
bare_says w h named are other [] = inl (h, named, are)
bare_says w h named are other (v ∷ values) = inr (λ k named has. other v values (at_word w k (v ∷ values) named has))

abbrev pub LineIs : List ℕ → Type 0
LineIs line = ((h : Head) × IsHead h line) ⊎ ((kind : Kind) × IsWrong kind line)

says_so : (w : List ℕ) → is_some (fields_for lines w) ≡ true → SaysSo w
says_so w built = each_line SaysSo lines (
  tile_says Adds,
  (
    tile_says Replaces,
    (
      remove_says,
      (
        attachment_says Adds,
        (
          attachment_says Replaces,
          (
            detach_says,
            (
              meta_says,
              (bare_says _ (Alone Undoes) refl refl some_values, (region_says, (bare_says _ (Alone Lists) refl refl some_values, (bare_says _ (Alone Tells) refl refl some_values, (bare_says _ (Alone Maps) refl refl some_values, (bare_says _ (Alone Checks) refl refl some_values, tt)))))),
            ),
          ),
        ),
      ),
    ),
  ),
)
    w built

value_is : (line : List ℕ) (o : Option (List (List ℕ))) → values_of line ≡ o → is_some o ≡ true → SaysSo (word line) → LineIs line
value_is line None e some says = absurd (no_truth (sym some))
value_is line (Some values) e some says = elim (says values) [
  | inl x ↦ inl (x.0, record { values = values; named = sym x.1; given_so = e; are = x.2 })
  | inr none ↦ inr (Value, (ap is_some e, λ h is. none h (sym is.named) (subst (AreValues h) (same (values_of line) is.values values is.given_so e) is.are)))
]
  where
    same : (o : Option (List (List ℕ))) (a b : List (List ℕ)) → o ≡ Some a → o ≡ Some b → a ≡ b
    same o a b e f = cc

pub line_is : (line : List ℕ) → LineIs line
line_is line = elim (cases_Bool (is_among later_words (word line))) [
  | inl later ↦ inr (Later, later)
  | inr later ↦ elim (cases_Bool (is_built line)) [
    | inr built ↦ inr (Word, (built, later))
    | inl built ↦ elim (cases_Bool (has_fields line)) [
      | inr none ↦ inr (Field, (built, none))
      | inl some ↦ value_is line (values_of line) refl some (says_so (word line) built)
    ]
  ]
]
