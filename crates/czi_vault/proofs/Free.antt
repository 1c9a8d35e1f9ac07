-- Writes where nothing is needed.
use Rattle.std.proofs.Common.{◌≡◌, inl, inr, ⊎_elim, ℕ, ◌+◌, ◌<◌, ◌≤◌, List, [], ◌∷◌, length, take, drop, get_or, refl, sym, ◌∙◌, ap, subst, arith}
use Rattle.std.proofs.lemmas.List.{get_or-take, get_or_past, length-take-le}
use Rattle.std.proofs.lemmas.Bool.{cases_lt}
use Rattle.czi_rig.specs.declared.file.File.TheVariants.{Image}
use Rattle.czi_rig.specs.Disk.{Left, Covers, TornFrom, SameOutside, overwritten, begun_write}
use Rattle.czi_rig.specs.State.{Instant}
use Rattle.czi_rig.specs.Moments.{Devices, Leaves, LeavesNow}
use Rattle.czi_rig.proofs.Files.{outside_then, length-overwritten}
use Rattle.czi_rig.proofs.Keeps.{WriteKeeps, write_torn}
use Rattle.czi_links.specs.Record.{Bytes, Record}
use Rattle.czi_links.specs.Reading.{Reading, Void, Holds, OfVersion, BadAt}
use Rattle.czi_links.proofs.Sound.{IsOfSlot}
use Rattle.czi_journal.specs.Journals.{slot_of, Counts}
use Rattle.czi_journal.proofs.Slots.{window, counted_sound}
use Rattle.czi_vault.specs.Recovered.{View, Stands, StandsNow, StandsFor, Makes, applied, with_links, IsFree}
use Rattle.czi_vault.proofs.Lists.{Fit, written_both, length-with_links}
use Rattle.czi_vault.proofs.Repair.{Fine, fine_of, ends_fit, StandsStill}

-- links written over lists that agree outside some places
with_links_agree : (P : ℕ → Type 0) (ls : List Bytes) (x y : List ℕ) → Fit (length x) ls → SameOutside P x y → SameOutside P (with_links ls x) (with_links ls y)
with_links_agree P [] x y fit s = s
with_links_agree P (l ∷ ls) x y fit s = with_links_agree P ls (overwritten l.place l.bytes x) (overwritten l.place l.bytes y)
    (subst (λ (n : ℕ). Fit n ls) (sym (length-overwritten l.place l.bytes x fit.0)) fit.1)
    (written_both l.place l.bytes x y P fit.0 (record { len = s.len; each = λ k out. s.each k (λ p. out (inr p)) }))

module _ (view : View) (r : Record) (fine : Fine r) (at n : ℕ) (free : IsFree view at n) (old new bytes : List ℕ) (m : Makes r old bytes) (t : TornFrom at n old new) (agrees : SameOutside (Covers view.holes) view.bytes bytes) where
  len_old : length (take r.committed old) ≡ r.committed
  len_old = length-take-le r.committed old m.long

  len_new : length (take r.committed new) ≡ r.committed
  len_new = length-take-le r.committed new (omega (arith, m.long, t.no_shorter))

  fit_old : Fit (length (take r.committed old)) r.links
  fit_old = subst (λ (k : ℕ). Fit k r.links) (sym len_old) (ends_fit r.committed r.links fine.ends)

  len_view : length view.bytes ≡ r.committed
  len_view =
      let a : length bytes ≡ length (applied r old) = ap length m.is in
      let b = length-with_links r.links (take r.committed old) fit_old in
      let c = length-overwritten 100 (0 ∷ []) (with_links r.links (take r.committed old)) (omega (arith, b, len_old, fine.least)) in
      omega (arith, agrees.len, a, b, c, len_old)

  same : (k : ℕ) → k < r.committed → (Covers view.holes k → ⊥) → get_or new k 0 ≡ get_or old k 0
  same k lt out = ⊎_elim (λ before. t.same k (inl before)) (λ from. ⊎_elim
      (λ to. ⊎_elim (λ cov. absurd (out cov)) (λ past. absurd (omega (arith, past, len_view, lt))) (free k from to)) (λ past. t.same k (inr past)) (cases_lt k (at + n))) (cases_lt k at)

  each : (k : ℕ) → (Covers view.holes k → ⊥) → get_or (take r.committed new) k 0 ≡ get_or (take r.committed old) k 0
  each k out = ⊎_elim (λ lt. get_or-take r.committed new k 0 lt ∙ same k lt out ∙ sym (get_or-take r.committed old k 0 lt))
      (λ past. get_or_past (take r.committed new) k 0 (omega (arith, past, len_new)) ∙ sym (get_or_past (take r.committed old) k 0 (omega (arith, past, len_old))))
      (cases_lt k r.committed)

  linked_agree : SameOutside (Covers view.holes) (with_links r.links (take r.committed old)) (with_links r.links (take r.committed new))
  linked_agree = with_links_agree (Covers view.holes) r.links (take r.committed old) (take r.committed new) fit_old (record { len = len_new ∙ sym len_old; each = each })

  applied_agree : SameOutside (Covers view.holes) (applied r old) (applied r new)
  applied_agree = written_both 100 (0 ∷ []) (with_links r.links (take r.committed old)) (with_links r.links (take r.committed new)) (Covers view.holes)
      (omega (arith, length-with_links r.links (take r.committed old) fit_old, len_old, fine.least))
      (record { len = linked_agree.len; each = λ k out. linked_agree.each k (λ p. out (inr p)) })

  free_guid : take 16 (drop 64 new) ≡ r.guid
  free_guid = window 64 16 old new (omega (arith, m.long, fine.least)) (omega (arith, m.long, fine.least, t.no_shorter))
      (λ k from to. same k (omega (arith, to, fine.least)) (λ cov. omega (arith, to, view.high k cov))) ∙ m.guid

  free_makes : Makes r new (applied r new)
  free_makes = record { long = omega (arith, m.long, t.no_shorter); guid = free_guid; is = refl }

  free_agrees : SameOutside (Covers view.holes) view.bytes (applied r new)
  free_agrees = outside_then view.bytes bytes (applied r new) agrees (subst (λ (x : List ℕ). SameOutside (Covers view.holes) x (applied r new)) (sym m.is) applied_agree)

-- the same, for what a journal that counts says
record StandsBy (view : View) (reading : Reading) (image : List ℕ) : Type 0 where
  bytes : List ℕ
  recovered : StandsFor reading image bytes
  agrees : SameOutside (Covers view.holes) view.bytes bytes

free_reading : (view : View) (at n : ℕ) → IsFree view at n → (reading : Reading) (old new : List ℕ) → IsOfSlot reading → TornFrom at n old new → StandsBy view reading old → StandsBy view reading new
free_reading view at n free Void old new is t s = absurd is
free_reading view at n free (Holds r) old new is t s = record {
  bytes = applied r new;
  recovered = free_makes view r (fine_of r is.least is.rising is.ends) at n free old new s.bytes s.recovered t s.agrees;
  agrees = free_agrees view r (fine_of r is.least is.rising is.ends) at n free old new s.bytes s.recovered t s.agrees;
}
free_reading view at n free (OfVersion v) old new is t s = absurd s.recovered
free_reading view at n free (BadAt place) old new is t s = absurd s.recovered

free_torn : (view : View) (at n : ℕ) (old new journal : List ℕ) → IsFree view at n → Counts journal → TornFrom at n old new → Stands view old journal → Stands view new journal
free_torn view at n old new j free counts t s =
    let b = free_reading view at n free (slot_of j) old new (counted_sound j counts) t (record { bytes = s.bytes; recovered = s.recovered; agrees = s.agrees }) in
    record { bytes = b.bytes; recovered = b.recovered; agrees = b.agrees }

abbrev FreeNow : View → List ℕ → Instant
FreeNow view bytes image journal said = Counts journal × Stands view image journal × (said ≡ bytes)

-- a crash in a write there
pub prefill_torn : (all : Devices) (view : View) (at n : ℕ) → StandsNow view all → ((journal : List ℕ) → Left all.journal.durable journal → Counts journal) → IsFree view at n
    → Left all.image.durable all.image.seen → at ≤ length all.image.seen → (image journal said : List ℕ) → Leaves (begun_write at n all.image.durable) all.journal.durable all.said image journal said → StandsStill view all.said image journal said
prefill_torn all view at n stands counts free reads in_file i j o l =
    let p : FreeNow view all.said i j o = write_torn all (FreeNow view all.said) here Image at n reads in_file keeps i j o l in
    (p.1, p.2)
  where
    here : (image journal said : List ℕ) → LeavesNow all image journal said → FreeNow view all.said image journal said
    here a b c k = (counts b k.journal_is, stands a b c k, k.said_is)

    keeps : WriteKeeps Image at n (FreeNow view all.said)
    keeps b c x y p t = (p.0, free_torn view at n x y b free p.0 t p.1, p.2)
