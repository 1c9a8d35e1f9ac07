-- A pair of files opens to one document, or it is refused.
use Rattle.std.proofs.Common.{◌≡◌, ◌⊎◌, ⊎_elim, inl, inr, ℕ, List, [], ◌∷◌, length, take, drop, get_or, refl, sym, ◌∙◌, ap, subst, arith}
use Rattle.std.proofs.lemmas.Grind.{common_steps}
use Rattle.std.proofs.lemmas.Bool.{cases_eq, cases_lt}
use Rattle.czi_format.specs.Document.{Document}
use Rattle.czi_format.specs.Live.{document, update_pending}
use Rattle.czi_format.specs.Shows.{Shows}
use Rattle.czi_format.proofs.Unique.{shows_unique}
use Rattle.czi_format.proofs.Rules.{refused_or_shown, never_both}
use Rattle.czi_image.specs.declared.index.Index.{Index}
use Rattle.czi_image.specs.Holds.{Indexes}
use Rattle.czi_links.specs.Record.{Record}
use Rattle.czi_links.specs.Reading.{Reading, Void, Holds, OfVersion, BadAt}
use Rattle.czi_journal.specs.Journals.{slot_of}
use Rattle.czi_vault.specs.Recovered.{StandsFor, Makes, Recovered, applied}
use Rattle.czi_opening.specs.Opens.{Opens, Cause, of_version, bad_at, too_short, of_another, unread, IsRefusedBy}
use Rattle.czi_opening.proofs.Standing.{stands_one}

pub opens_one : (image journal : List ℕ) (d e : Document) → Opens image journal d → Opens image journal e → d ≡ e
opens_one image journal d e a b =
    let same = stands_one (slot_of journal) image a.bytes b.bytes a.recovered b.recovered in
    shows_unique b.bytes d e (subst (λ (x : List ℕ). Shows x d) same a.shows) b.shows

both_alike : (x y : ℕ) (xs ys : List ℕ) → (x ≡ y) ⊎ (x ≡ y → ⊥) → (xs ≡ ys) ⊎ (xs ≡ ys → ⊥) → (x ∷ xs ≡ y ∷ ys) ⊎ (x ∷ xs ≡ y ∷ ys → ⊥)
both_alike x y xs ys (inl e) (inl es) = inl (rw (e, es) refl)
both_alike x y xs ys (inl e) (inr other) = inr (λ same. other (ap (drop 1) same))
both_alike x y xs ys (inr other) tails = inr (λ same. other (ap (λ (l : List ℕ). get_or l 0 0) same))

-- two lists are one, or they aren't
lists_alike : (xs ys : List ℕ) → (xs ≡ ys) ⊎ (xs ≡ ys → ⊥)
lists_alike [] [] = inl refl
lists_alike [] (y ∷ ys) = inr (λ same. cc)
lists_alike (x ∷ xs) [] = inr (λ same. cc)
lists_alike (x ∷ xs) (y ∷ ys) = both_alike x y xs ys (cases_eq x y) (lists_alike xs ys)

abbrev Verdict : List ℕ → List ℕ → Type 0
Verdict image journal = ((d : Document) × Opens image journal d) ⊎ ((cause : Cause) × IsRefusedBy image journal cause)

-- by the bytes that they stand for
read_verdict : (image journal bytes : List ℕ) → Recovered image journal bytes → Verdict image journal
read_verdict image journal bytes r = ⊎_elim
    (λ f. inr (unread f.0, record { bytes = bytes; recovered = r; refused = f.1 }))
    (λ d. inl (d.0, record { bytes = bytes; recovered = r; shows = d.1; idle = d.2 }))
    (refused_or_shown bytes)

holds_verdict : (image journal : List ℕ) (r : Record) → slot_of journal ≡ Holds r → Verdict image journal
holds_verdict image journal r is = ⊎_elim
    (λ lt. inr (too_short (length image) r.committed, record { entry = r; holds = is; have_is = refl; need_is = refl; fewer = lt }))
    (λ long. ⊎_elim
    (λ same.
    let made : Makes r image (applied r image) = record { long = long; guid = same; is = refl } in
    read_verdict image journal (applied r image) (subst (λ (read : Reading). StandsFor read image (applied r image)) (sym is) made))
    (λ other. inr (of_another r.guid (take 16 (drop 64 image)), record { entry = r; holds = is; long = long; record_is = refl; image_is = refl; differ = other }))
    (lists_alike (take 16 (drop 64 image)) r.guid))
    (cases_lt (length image) r.committed)

verdict_of : (image journal : List ℕ) (read : Reading) → slot_of journal ≡ read → Verdict image journal
verdict_of image journal Void is = read_verdict image journal image (subst (λ (read : Reading). StandsFor read image image) (sym is) refl)
verdict_of image journal (Holds r) is = holds_verdict image journal r is
verdict_of image journal (OfVersion v) is = inr (of_version v, is)
verdict_of image journal (BadAt place) is = inr (bad_at place, is)

pub verdict : (image journal : List ℕ) → Verdict image journal
verdict image journal = verdict_of image journal (slot_of journal) refl

-- what they stand for where the journal reads so
stands_when : (image journal bytes : List ℕ) (read : Reading) → slot_of journal ≡ read → Recovered image journal bytes → StandsFor read image bytes
stands_when image journal bytes read is r = subst (λ (x : Reading). StandsFor x image bytes) is r

pub not_both : (image journal : List ℕ) (d : Document) (cause : Cause) → Opens image journal d → IsRefusedBy image journal cause → ⊥
not_both image journal d (of_version v) o c = stands_when image journal o.bytes (OfVersion v) c o.recovered
not_both image journal d (bad_at place) o c = stands_when image journal o.bytes (BadAt place) c o.recovered
not_both image journal d (too_short have need) o c =
    let made = stands_when image journal o.bytes (Holds c.entry) c.holds o.recovered in
    omega (arith, made.long, c.have_is, c.need_is, c.fewer)
not_both image journal d (of_another record_guid image_guid) o c =
    let made = stands_when image journal o.bytes (Holds c.entry) c.holds o.recovered in
    c.differ (c.image_is ∙ made.guid ∙ sym c.record_is)
not_both image journal d (unread refusal) o c =
    let same = stands_one (slot_of journal) image o.bytes c.bytes o.recovered c.recovered in
    never_both c.bytes refusal d c.refused (subst (λ (x : List ℕ). Shows x d) same o.shows) (ap update_pending (sym same) ∙ o.idle)

-- they are refused for one cause
pub one_cause : (image journal : List ℕ) (c d : Cause) → IsRefusedBy image journal c → IsRefusedBy image journal d → c ≡ d
one_cause image journal c d first second = grind (arith, common_steps, first, second)

pub indexed : (image journal bytes : List ℕ) (index : Index) → Recovered image journal bytes → Indexes bytes index → (d : Document) × Opens image journal d
indexed image journal bytes index r x = (document bytes x.live, record { bytes = bytes; recovered = r; shows = (x.live, x.reaches, refl); idle = x.idle })
