-- An image shows at most one document.
use Rattle.std.proofs.Common.{◌≡◌, ℕ, List, [], ◌∷◌, map, Option, Some, Result, Ok, refl, ap, sym, ◌∙◌}
use Rattle.czi_format.specs.Document.{Document}
use Rattle.czi_format.specs.Live.{Live, Tile, AttItem, document}
use Rattle.czi_format.specs.Shows.{Reaches, Shows, subblock_at, attachment_at}

-- a list is known from what it is under Some
some_injective : {X : Type 0} (xs ys : List X) → map Some xs ≡ map Some ys → xs ≡ ys
some_injective [] [] e = refl
some_injective [] (y ∷ ys) e = cc
some_injective (x ∷ xs) [] e = cc
some_injective (x ∷ xs) (y ∷ ys) e =
    let heads : x ≡ y = cc in
    let tails : map Some xs ≡ map Some ys = cc in
    let rest : xs ≡ ys = some_injective xs ys tails in
    cc

same_ok : {A E : Type 0} (x y : A) (r : Result A E) → r ≡ Ok x → r ≡ Ok y → x ≡ y
same_ok x y r p q = cc

same_some : {A : Type 0} (x y : A) (r : Option A) → r ≡ Some x → r ≡ Some y → x ≡ y
same_some x y r p q = cc

-- lists whose sources are equal are equal where a reading gives each of its elements back
from_sources : {X Y : Type 0} (read : X → Option Y) (source : Y → X) (xs ys : List Y)
    → map (λ y. read (source y)) xs ≡ map Some xs
    → map (λ y. read (source y)) ys ≡ map Some ys
    → map source xs ≡ map source ys → xs ≡ ys
from_sources read source [] [] p q e = refl
from_sources read source [] (y ∷ ys) p q e = cc
from_sources read source (x ∷ xs) [] p q e = cc
from_sources read source (x ∷ xs) (y ∷ ys) p q e =
    let sources : source x ≡ source y = cc in
    let x_is : read (source x) ≡ Some x = cc in
    let y_is : read (source y) ≡ Some y = cc in
    let p' : map (λ y. read (source y)) xs ≡ map Some xs = cc in
    let q' : map (λ y. read (source y)) ys ≡ map Some ys = cc in
    let e' : map source xs ≡ map source ys = cc in
    let heads : x ≡ y = same_some x y (read (source y)) (ap read (sym sources) ∙ x_is) y_is in
    let rest : xs ≡ ys = from_sources read source xs ys p' q' e' in
    cc

pub reaches_unique : (image : List ℕ) (a b : Live) → Reaches image a → Reaches image b → a ≡ b
reaches_unique image a b p q =
    let header : a.header ≡ b.header = same_some _ _ _ p.header q.header in
    let dir : a.directory ≡ b.directory = cc (p.directory, q.directory) in
    let atts : a.attdir ≡ b.attdir = cc (p.attdir, q.attdir) in
    let meta : a.metadata ≡ b.metadata = cc (p.metadata, q.metadata) in
    let entries : map (λ (t : Tile). t.entry) a.tiles ≡ map (λ (t : Tile). t.entry) b.tiles = cc (p.entries, q.entries) in
    let tiles : a.tiles ≡ b.tiles = from_sources (subblock_at image) (λ t. t.entry) a.tiles b.tiles p.tiles q.tiles entries in
    let a1s : map (λ (t : AttItem). t.entry) a.attachments ≡ map (λ (t : AttItem). t.entry) b.attachments = cc (p.a1_entries, q.a1_entries) in
    let attachments : a.attachments ≡ b.attachments = from_sources (attachment_at image) (λ t. t.entry) a.attachments b.attachments p.attachments q.attachments a1s in
    λ i. record { header = header i; directory = dir i; tiles = tiles i; attdir = atts i; attachments = attachments i; metadata = meta i }

pub shows_unique : (image : List ℕ) (d e : Document) → Shows image d → Shows image e → d ≡ e
shows_unique image d e (a, p, d_is) (b, q, e_is) =
    let same : a ≡ b = reaches_unique image a b p q in
    d_is ∙ (ap (document image) same ∙ sym e_is)
