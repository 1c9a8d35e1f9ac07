-- The bytes that writes, with the zeros that fill the gaps before them, and a commit make are those of the pieces.
use Rattle.std.proofs.Common.{◌≡◌, ℕ, ◌+◌, ◌-◌, ◌≤◌, max, List, [], ◌∷◌, ◌++◌, take, drop, length, get_or, replicate, refl, ap, sym, ◌∙◌, arith, subst, append_assoc, append-nil, ◌<◌, nat_lt, inl, inr}
use Rattle.std.specs.List.{AllByRecursion}
use Rattle.std.specs.Option.{unwrap_or}
use Rattle.std.proofs.Math.ListN.{get_or-eq_default}
use Rattle.std.proofs.lemmas.List.{length-take-le, map-append, length-replicate, get_or-replicate}
use Rattle.std.proofs.lemmas.List.Elements.{recursion_from_All}
use Rattle.std.proofs.lemmas.Bool.{cases_lt, cases_Bool, ltb-true, ltb-false}
use Rattle.czi_format.specs.Span.{end_of as span_end}
use Rattle.czi_rig.specs.Disk.{overwritten}
use Rattle.czi_rig.proofs.Files.{overwritten_at}
use Rattle.czi_links.specs.Record.{Bytes, Record, end_of}
use Rattle.czi_machine.specs.Written.{Piece, piece_span, over, all_over, settled, linked, byte_of, Wrote, own_byte}
use Rattle.czi_machine.proofs.Over.{length-over, length-all_over, applied_is, own_high, own_low, own_in, or_or}
use Rattle.czi_vault.specs.Recovered.{with_links, applied, View}
use Rattle.czi_commit.specs.Filled.{filled, AreFree}
use Rattle.czi_commit.specs.Made.{Step}
use Rattle.czi_commit.proofs.Gaps.{length-filled}
use Rattle.czi_engine.specs.Commit.{piece_of, pieces_of, written, made_of, pieces_in, IsStep}

-- each begins at or before the end that those before it leave
abbrev pub BeginWithin : ℕ → List Bytes → Type 0
BeginWithin n [] = Unit {0}
BeginWithin n (b ∷ bs) = (b.place ≤ n) × BeginWithin (max n (end_of b)) bs

abbrev gap : ℕ → ℕ → Bytes
gap n place = record { place = n; bytes = replicate (place - n) 0 }

-- with the zeros every write does
pub filled_begin : (n : ℕ) (ws : List Bytes) → BeginWithin n (filled n ws)
filled_begin n [] = tt
filled_begin n (w ∷ ws) = elim (cases_Bool (nat_lt n w.place)) [
  | inl e ↦ let low : n < w.place = ltb-true _ _ e in
      let long : max (max n (end_of (gap n w.place))) (end_of w) ≡ max n (end_of w) = omega (arith, low, length-replicate {A = ℕ} (w.place - n) 0) in
      rw e (omega arith, (omega (arith, low, length-replicate {A = ℕ} (w.place - n) 0), subst (λ k. BeginWithin k (filled (max n (end_of w)) ws)) (sym long) (filled_begin (max n (end_of w)) ws)))
  | inr e ↦ let high : w.place ≤ n = ltb-false _ _ e in rw e (high, filled_begin (max n (end_of w)) ws)
]

zero_in : (n i : ℕ) → get_or (let zs : List ℕ = replicate n 0 in zs) i 0 ≡ 0
zero_in n i = elim (cases_lt i n) [
  | inl h ↦ get_or-replicate n i 0 0 h
  | inr h ↦ get_or-eq_default (replicate n 0) 0 (omega (arith, h, length-replicate {A = ℕ} n 0))
]

-- zeros that are read there already
own_zero : (n place q b : ℕ) → (n ≤ q → b ≡ 0) → unwrap_or (own_byte (piece_of (gap n place)) q) b ≡ b
own_zero n place q b none = elim (cases_lt q n) [
  | inl h ↦ ap (λ o. unwrap_or o b) (own_low (piece_of (gap n place)) q h)
  | inr h ↦ elim (cases_lt q (n + length (gap n place).bytes)) [
    | inl k ↦ ap (λ o. unwrap_or o b) (own_in (piece_of (gap n place)) q h k) ∙ (zero_in (place - n) (q - n) ∙ sym (none h))
    | inr k ↦ ap (λ o. unwrap_or o b) (own_high (piece_of (gap n place)) q k)
  ]
]

-- so the zeros don't count: the bytes are those of the writes, and then of the links
pub filled_byte : (n : ℕ) (ws : List Bytes) (rest : List Piece) (q b : ℕ) → (n ≤ q → b ≡ 0) → unwrap_or (byte_of (pieces_of (filled n ws) ++ rest) q) b ≡ unwrap_or (byte_of (pieces_of ws ++ rest) q) b
filled_byte n [] rest q b none = refl
filled_byte n (w ∷ ws) rest q b none =
    let p : Piece = piece_of w in
    let more : List Piece = pieces_of (filled (max n (end_of w)) ws) ++ rest in
    let last : unwrap_or (byte_of (p ∷ more) q) b ≡ unwrap_or (byte_of (p ∷ (pieces_of ws ++ rest)) q) b =
    sym (or_or (byte_of more q) (own_byte p q) b) ∙ (filled_byte (max n (end_of w)) ws rest q (unwrap_or (own_byte p q) b) (λ far. ap (λ o. unwrap_or o b) (own_high p q (omega (arith, far))) ∙ none (omega (arith, far)))
    ∙ or_or (byte_of (pieces_of ws ++ rest) q) (own_byte p q) b) in
    elim (cases_Bool (nat_lt n w.place)) [
      | inl e ↦ rw e (sym (or_or (byte_of (p ∷ more) q) (own_byte (piece_of (gap n w.place)) q) b) ∙ (ap (unwrap_or (byte_of (p ∷ more) q)) (own_zero n w.place q b none) ∙ last))
      | inr e ↦ rw e last
    ]

-- zeros behind the end are free
pub filled_free : (view : View) (n : ℕ) (ws : List Bytes) → length view.bytes ≤ n → AreFree view ws → AreFree view (filled n ws)
filled_free view n [] long free = tt
filled_free view n (w ∷ ws) long free =
    let rest : AreFree view (filled (max n (end_of w)) ws) = filled_free view (max n (end_of w)) ws (omega (arith, long)) free.1 in
    elim (cases_Bool (nat_lt n w.place)) [
      | inl e ↦ rw e (λ k from to. inr (omega (arith, from, long)), (free.0, rest))
      | inr e ↦ rw e (free.0, rest)
    ]

-- a write that begins at or before the end
over_is : (image : List ℕ) (p : Piece) → p.place ≤ length image → overwritten p.place p.bytes image ≡ over image p
unfolding over
over_is image p fits =
    let none : p.place - length image ≡ 0 = omega (arith, fits) in
    let same : image ++ replicate (p.place - length image) 0 ≡ image = ap (λ (n : ℕ). image ++ replicate n 0) none ∙ append-nil image in
    append_assoc (take p.place image) p.bytes (drop (p.place + length p.bytes) image)
    ∙ ap (λ (z : List ℕ). take p.place z ++ (p.bytes ++ drop (p.place + length p.bytes) image)) (sym same)

pub with_links_is : (bs : List Bytes) (image : List ℕ) → BeginWithin (length image) bs → with_links bs image ≡ all_over image (pieces_of bs)
with_links_is [] image begin = refl
with_links_is (b ∷ bs) image begin =
    let p : Piece = piece_of b in
    let one : overwritten b.place b.bytes image ≡ over image p = over_is image p begin.0 in
    let rest : BeginWithin (length (over image p)) bs = subst (λ (n : ℕ). BeginWithin n bs) (sym (length-over image p)) begin.1 in
    ap (with_links bs) one ∙ with_links_is bs (over image p) rest

-- links that end within the image
ends_begin : (bs : List Bytes) (n : ℕ) → AllByRecursion (λ (l : Bytes). end_of l ≤ n) bs → BeginWithin n bs
ends_begin [] n all = tt
ends_begin (b ∷ bs) n all = (omega (arith, all.0), subst (λ (m : ℕ). BeginWithin m bs) (let e : n ≡ max n (end_of b) = omega (arith, all.0) in e) (ends_begin bs n all.1))

ends_pieces : (bs : List Bytes) (n : ℕ) → AllByRecursion (λ (l : Bytes). end_of l ≤ n) bs → AllByRecursion (λ (p : Piece). span_end (piece_span p) ≤ n) (pieces_of bs)
ends_pieces [] n all = tt
ends_pieces (b ∷ bs) n all = (all.0, ends_pieces bs n all.1)

pub linked_is : (r : Record) (image : List ℕ) → 112 ≤ r.committed → r.committed ≤ length image → AllByRecursion (λ (l : Bytes). end_of l ≤ r.committed) r.links
    → applied r image ≡ linked image (pieces_of r.links) r.committed
linked_is r image least long ends =
    let cut : List ℕ = take r.committed image in
    let cut_long : length cut ≡ r.committed = length-take-le r.committed image long in
    let links : with_links r.links cut ≡ all_over cut (pieces_of r.links) = with_links_is r.links cut (subst (λ (n : ℕ). BeginWithin n r.links) (sym cut_long) (ends_begin r.links r.committed ends)) in
    let all_long : length (all_over cut (pieces_of r.links)) ≡ r.committed = length-all_over cut (pieces_of r.links) r.committed cut_long (ends_pieces r.links r.committed ends) in
    ap (overwritten 100 (0 ∷ [])) links ∙ over_is (all_over cut (pieces_of r.links)) settled (omega (arith, all_long, least))

pub made_wrote : (bytes : List ℕ) (c : Step) → IsStep bytes c → Wrote bytes (made_of c bytes) (pieces_in c) × (length (made_of c bytes) ≡ c.commits.committed) × (get_or (made_of c bytes) 100 0 ≡ 0)
made_wrote bytes c is =
    let r : Record = c.commits in
    let n : ℕ = length bytes in
    let ws : List Bytes = filled n c.writes in
    let ends : AllByRecursion (λ (l : Bytes). end_of l ≤ r.committed) r.links = recursion_from_All (λ (l : Bytes). end_of l ≤ r.committed) r.links is.ends in
    let wrote : written c bytes ≡ all_over bytes (pieces_of ws) = with_links_is ws bytes (filled_begin n c.writes) in
    let fits : r.committed ≤ length (written c bytes) = omega (arith, is.long, length-filled n c.writes bytes refl) in
    let made : made_of c bytes ≡ linked (all_over bytes (pieces_of ws)) (pieces_of r.links) r.committed =
    linked_is r (written c bytes) is.least fits ends ∙ ap (λ (z : List ℕ). linked z (pieces_of r.links) r.committed) wrote in
    let both = applied_is bytes (pieces_of ws) (pieces_of r.links) r.committed (ends_pieces r.links r.committed ends) (omega (arith, is.least)) (subst (λ (z : List ℕ). r.committed ≤ length z) wrote fits) in
    let parts : pieces_of c.writes ++ pieces_of r.links ≡ pieces_in c = sym (map-append piece_of c.writes r.links) in
    let all : Wrote bytes (made_of c bytes) (pieces_of ws ++ pieces_of r.links) =
    subst (λ (z : List ℕ). Wrote bytes z (pieces_of ws ++ pieces_of r.links)) (sym made) both.0 in
    let long : length (made_of c bytes) ≡ r.committed = ap length made ∙ both.1 in
    let cut : List ℕ = take r.committed (written c bytes) in
    let cut_long : length cut ≡ r.committed = length-take-le r.committed (written c bytes) fits in
    let links : with_links r.links cut ≡ all_over cut (pieces_of r.links) = with_links_is r.links cut (subst (λ (k : ℕ). BeginWithin k r.links) (sym cut_long) (ends_begin r.links r.committed ends)) in
    let all_long : length (all_over cut (pieces_of r.links)) ≡ r.committed = length-all_over cut (pieces_of r.links) r.committed cut_long (ends_pieces r.links r.committed ends) in (
      λ q small not. all q small not ∙ (filled_byte n c.writes (pieces_of r.links) q (get_or bytes q 0) (λ far. get_or-eq_default bytes 0 far)
          ∙ ap (λ (ps : List Piece). unwrap_or (byte_of ps q) (get_or bytes q 0)) parts),
      long,
      overwritten_at 100 (0 ∷ []) (with_links r.links cut) 0 (omega (arith, ap length links, all_long, is.least)) (omega arith),
    )
