-- The image read without the journal, while a record is applied.
use Rattle.std.proofs.Common.{◌≡◌, ◌⊎◌, inl, inr, ⊎_elim, ℕ, ◌+◌, ◌<◌, ◌≤◌, List, [], ◌∷◌, length, take, get_or, refl, sym, ◌∙◌, ap, subst, arith}
use Rattle.std.proofs.lemmas.List.{ext_get_or, length-take-le}
use Rattle.std.proofs.lemmas.Bool.{cases_lt}
use Rattle.czi_rig.specs.declared.rig.Rig.{Ghosts}
use Rattle.czi_rig.specs.declared.file.File.TheVariants.{Image}
use Rattle.czi_rig.specs.Disk.{Disk, Left, Covers, TornFrom, IsAtRest, SameOutside, overwritten, begun_write, begun_cut, settled}
use Rattle.czi_rig.specs.State.{Instant}
use Rattle.czi_rig.specs.Moments.{Devices, Leaves, Throughout}
use Rattle.czi_rig.proofs.Files.{left_settled, left_torn, outside_weaker, overwritten_same, overwritten_at, length-overwritten}
use Rattle.czi_rig.proofs.Keeps.{left_cut, write_torn}
use Rattle.czi_rig.proofs.Runs.{weaker, joined}
use Rattle.czi_links.specs.Record.{Bytes, Record}
use Rattle.czi_links.specs.Reading.{Reading, Void, Holds, OfVersion, BadAt}
use Rattle.czi_links.proofs.Sound.{IsOfSlot}
use Rattle.czi_journal.specs.Journals.{slot_of, Counts}
use Rattle.czi_journal.proofs.Slots.{number_or_not, counted_sound}
use Rattle.czi_vault.specs.Recovered.{View, Stands, StandsNow, StandsFor, IsFree, applied, with_links}
use Rattle.czi_vault.specs.Puts.{ranges, begun_each}
use Rattle.czi_vault.specs.Alone.{IsPending, HasBytesBut100, Alone, AloneNow, KeepsOr, Waits}
use Rattle.czi_vault.proofs.Commits.{Meets, exactly, exactly_is, while_switched}
use Rattle.czi_vault.proofs.Switching.{BeforeOrHolds}
use Rattle.czi_vault.proofs.Lists.{Fit, torn_each, length-with_links}
use Rattle.czi_vault.proofs.Repair.{StandsStill, Fine, ends_fit, marked, linked, shortened, fit_marked, length-linked, length-shortened, applied_last}

with_links_off : (ls : List Bytes) (x : List ℕ) (k : ℕ) → Fit (length x) ls → (Covers (ranges ls) k → ⊥) → get_or (with_links ls x) k 0 ≡ get_or x k 0
with_links_off [] x k fit off = refl
with_links_off (l ∷ ls) x k fit off =
    with_links_off ls (overwritten l.place l.bytes x) k (subst (λ (n : ℕ). Fit n ls) (sym (length-overwritten l.place l.bytes x fit.0)) fit.1) (λ cov. off (inr cov))
    ∙ (overwritten_same l.place l.bytes x fit.0).each k (λ here. off (inl here))

pending_at : (image : List ℕ) → get_or image 100 0 ≡ 1 → IsPending image
pending_at image one zero = omega (arith, one, zero)

abbrev pub WaitsNow : Record → Devices → Instant
WaitsNow r all image journal said = Waits r all.image.seen image

module _ (all : Devices) (r : Record) (fine : Fine r) (rest : IsAtRest all.image) (long : r.committed ≤ length all.image.seen) (off : Covers (ranges r.links) 100 → ⊥) where
  pub first_waits : (image journal said : List ℕ) → Leaves (begun_write 100 1 all.image.durable) all.journal.durable all.said image journal said → WaitsNow r all image journal said
  first_waits i j o l = inr (inl (outside_weaker all.image.seen i (λ k p. omega arith)
      (left_torn 100 1 all.image.seen i (omega (arith, long, fine.least)) (subst (λ d. Left (begun_write 100 1 d) i) (ap (λ (d : Disk). d.durable) rest) l.image_is))))

  marked_one : get_or (marked r all.image.seen) 100 0 ≡ 1
  marked_one = overwritten_at 100 (1 ∷ []) all.image.seen 0 (omega (arith, long, fine.least)) (omega arith)

  pub second_waits : Left (settled (marked r all.image.seen)) (marked r all.image.seen) → (image journal said : List ℕ) → Leaves (begun_each r.links (settled (marked r all.image.seen))) all.journal.durable all.said image journal said → WaitsNow r all image journal said
  second_waits reads i j o l = inl (pending_at i (torn_each (λ (s : List ℕ). get_or s 100 0 ≡ 1) r.links (settled (marked r all.image.seen)) (marked r all.image.seen) reads (fit_marked r fine all.image.seen long)
      (λ s left. ap (λ (x : List ℕ). get_or x 100 0) (left_settled (marked r all.image.seen) s left) ∙ marked_one)
      (λ a b at n here p t. t.same 100 (outside at n here) ∙ p) i l.image_is))
    where
      outside : (at n : ℕ) → ((k : ℕ) → at ≤ k → k < at + n → Covers (ranges r.links) k) → (100 < at) ⊎ (at + n ≤ 100)
      outside at n here = ⊎_elim (λ before. inl before) (λ from. ⊎_elim (λ to. absurd (off (here 100 from to))) (λ past. inr past) (cases_lt 100 (at + n))) (cases_lt 100 at)

  pub third_waits : (image journal said : List ℕ) → Leaves (begun_cut r.committed (settled (linked r all.image.seen))) all.journal.durable all.said image journal said → WaitsNow r all image journal said
  third_waits i j o l = inl (pending_at i ((left_cut r.committed (linked r all.image.seen) i (omega (arith, long, length-linked r fine all.image.seen long)) l.image_is).same 100 (omega (arith, fine.least))
      ∙ with_links_off r.links (marked r all.image.seen) 100 (fit_marked r fine all.image.seen long) off ∙ marked_one))

  pub fourth_waits : (image journal said : List ℕ) → Leaves (begun_write 100 1 (settled (shortened r all.image.seen))) all.journal.durable all.said image journal said → WaitsNow r all image journal said
  fourth_waits i j o l = ⊎_elim (λ zero. inr (inr (done zero))) (λ not. inl not) (number_or_not (get_or i 100 0) 0)
    where
      len : length (shortened r all.image.seen) ≡ r.committed
      len = length-shortened r fine all.image.seen long

      torn : SameOutside (λ k. (100 ≤ k) × (k < 101)) (shortened r all.image.seen) i
      torn = left_torn 100 1 (shortened r all.image.seen) i (omega (arith, len, fine.least)) l.image_is

      kept : SameOutside (λ k. (100 ≤ k) × (k < 101)) (shortened r all.image.seen) (overwritten 100 (0 ∷ []) (shortened r all.image.seen))
      kept = overwritten_same 100 (0 ∷ []) (shortened r all.image.seen) (omega (arith, len, fine.least))

      at_mark : get_or i 100 0 ≡ 0 → (k : ℕ) → k ≡ 100 → get_or i k 0 ≡ get_or (overwritten 100 (0 ∷ []) (shortened r all.image.seen)) k 0
      at_mark zero k e = ap (λ (m : ℕ). get_or i m 0) e ∙ zero
          ∙ sym (ap (λ (m : ℕ). get_or (overwritten 100 (0 ∷ []) (shortened r all.image.seen)) m 0) e ∙ overwritten_at 100 (0 ∷ []) (shortened r all.image.seen) 0 (omega (arith, len, fine.least)) (omega arith))

      done : get_or i 100 0 ≡ 0 → i ≡ applied r all.image.seen
      done zero = ext_get_or 0 i (overwritten 100 (0 ∷ []) (shortened r all.image.seen)) (torn.len ∙ sym kept.len)
          (λ k lt. ⊎_elim (λ e. at_mark zero k e) (λ not. torn.each k (λ p. not (omega (arith, p.0, p.1))) ∙ sym (kept.each k (λ p. not (omega (arith, p.0, p.1))))) (number_or_not k 100))
          ∙ applied_last r fine all.image.seen long

-- what the files stand for has a 0 at place 100, where the journal counts
zero_by : (reading : Reading) (image bytes : List ℕ) → IsOfSlot reading → StandsFor reading image bytes → get_or bytes 100 0 ≡ 0
zero_by Void image bytes is s = absurd is
zero_by (Holds r) image bytes is s =
    let fit : Fit (length (take r.committed image)) r.links = subst (λ (k : ℕ). Fit k r.links) (sym (length-take-le r.committed image s.long)) (ends_fit r.committed r.links is.ends) in
    let len = length-with_links r.links (take r.committed image) fit in
    ap (λ (x : List ℕ). get_or x 100 0) s.is ∙ overwritten_at 100 (0 ∷ []) (with_links r.links (take r.committed image)) 0 (omega (arith, len, length-take-le r.committed image s.long, is.least)) (omega arith)
zero_by (OfVersion v) image bytes is s = absurd s
zero_by (BadAt place) image bytes is s = absurd s

pub zero_at_100 : (view : View) (image journal : List ℕ) → Counts journal → Stands view image journal → get_or view.bytes 100 0 ≡ 0
zero_at_100 view i j counts s = sym (s.agrees.each 100 (λ cov. omega (arith, view.high 100 cov))) ∙ zero_by (slot_of j) i s.bytes (counted_sound j counts) s.recovered

-- from the image's steps to the view
pub alone_of : (view : View) (r : Record) (seen image : List ℕ) → get_or view.bytes 100 0 ≡ 0 → HasBytesBut100 view seen → Waits r seen image → Alone view image ⊎ (image ≡ applied r seen)
alone_of view r seen i zero has (inl pending) = inl (inl pending)
alone_of view r seen i zero has (inr (inr is)) = inr is
alone_of view r seen i zero has (inr (inl same)) = inl (⊎_elim (λ e. inr (record { long = omega (arith, same.len, has.long); each = λ k lt out. at k lt out e })) (λ not. inl not) (number_or_not (get_or i 100 0) 0))
  where
    at : (k : ℕ) → k < length view.bytes → (Covers view.holes k → ⊥) → get_or i 100 0 ≡ 0 → get_or i k 0 ≡ get_or view.bytes k 0
    at k lt out e = ⊎_elim (λ is. ap (λ (m : ℕ). get_or i m 0) is ∙ e ∙ sym (ap (λ (m : ℕ). get_or view.bytes m 0) is ∙ zero)) (λ not. same.each k not ∙ has.each k lt out not) (number_or_not k 100)

abbrev pub KeepsOrNew : View → List ℕ → List ℕ → Instant
KeepsOrNew view new bytes image journal said = KeepsOr view new image journal × (said ≡ bytes)

-- what holds at every moment twice over
pub both : {D : Type 0} (rig : Ghosts D) {old new : D} {P Q : Instant} → Throughout rig old new P → Throughout rig old new Q → Throughout rig old new (λ image journal said. P image journal said × Q image journal said)
both rig p q = record {
  later = p.later;
  each = λ t i j o le left. ⊎_elim (λ was. inl was) (λ a. ⊎_elim (λ was. inl was) (λ b. inr (a, b)) (q.each t i j o le left)) (p.each t i j o le left);
}

module _ (all : Devices) (r : Record) (view : View) (stands : StandsNow view all) (alone : AloneNow view all) (has : HasBytesBut100 view all.image.seen) (counts : Counts all.journal.seen)
    (reads_image : Left all.image.durable all.image.seen) (reads_journal : Left all.journal.durable all.journal.seen) (meets : Meets all r) where
  pub switch_keeps : (image journal said : List ℕ) → BeforeOrHolds r all image journal said → KeepsOrNew view (applied r all.image.seen) all.said image journal said
  switch_keeps i j o p =
      let a : Alone view i = alone i all.journal.seen o (record { image_is = p.0; journal_is = reads_journal; said_is = p.2 }) in
      let m = while_switched all r meets view stands i j o p in
      (⊎_elim (λ s. inl (s, a)) (λ made. inr (made, inl a)) m.0, m.1)

  apply_keeps : (image journal said : List ℕ) → StandsStill (exactly (applied r all.image.seen)) all.said image journal said × WaitsNow r all image journal said → KeepsOrNew view (applied r all.image.seen) all.said image journal said
  apply_keeps i j o p = (
    inr (
      exactly_is (applied r all.image.seen) all.said i j o p.0,
      alone_of view r all.image.seen i
          (zero_at_100 view all.image.seen all.journal.seen counts (stands all.image.seen all.journal.seen all.said (record { image_is = reads_image; journal_is = reads_journal; said_is = refl }))) has p.1,
    ),
    p.0.1,
  )

  pub commit_keeps : {D : Type 0} (rig : Ghosts D) (old mid new : D) → Throughout rig old mid (BeforeOrHolds r all) → Throughout rig mid new (StandsStill (exactly (applied r all.image.seen)) all.said) → Throughout rig mid new (WaitsNow r all)
      → Throughout rig old new (KeepsOrNew view (applied r all.image.seen) all.said)
  commit_keeps rig old mid new first second third = joined rig (weaker rig switch_keeps first) (weaker rig apply_keeps (both rig second third))

long_by : (reading : Reading) (image bytes : List ℕ) → IsOfSlot reading → StandsFor reading image bytes → 112 ≤ length bytes
long_by Void image bytes is s = absurd is
long_by (Holds r) image bytes is s =
    let cut = length-take-le r.committed image s.long in
    let fit : Fit (length (take r.committed image)) r.links = subst (λ (k : ℕ). Fit k r.links) (sym cut) (ends_fit r.committed r.links is.ends) in
    let len = length-with_links r.links (take r.committed image) fit in
    omega (arith, ap length s.is, length-overwritten 100 (0 ∷ []) (with_links r.links (take r.committed image)) (omega (arith, len, cut, is.least)), len, cut, is.least)
long_by (OfVersion v) image bytes is s = absurd s
long_by (BadAt place) image bytes is s = absurd s

alone_torn : (view : View) (at n : ℕ) (old new : List ℕ) → IsFree view at n → 112 ≤ length view.bytes → Alone view old → TornFrom at n old new → Alone view new
alone_torn view at n old new free long a t = ⊎_elim (λ pending. inl (λ zero. pending (sym (same 100 (omega (arith, long)) (λ cov. omega (arith, view.high 100 cov))) ∙ zero)))
    (λ has. inr (record { long = omega (arith, has.long, t.no_shorter); each = λ k lt out. same k lt out ∙ has.each k lt out })) a
  where
    same : (k : ℕ) → k < length view.bytes → (Covers view.holes k → ⊥) → get_or new k 0 ≡ get_or old k 0
    same k lt out = ⊎_elim (λ before. t.same k (inl before)) (λ from. ⊎_elim
        (λ to. ⊎_elim (λ cov. absurd (out cov)) (λ past. absurd (omega (arith, past, lt))) (free k from to)) (λ past. t.same k (inr past)) (cases_lt k (at + n))) (cases_lt k at)

abbrev pub AloneStill : View → Instant
AloneStill view image journal said = Alone view image

pub prefill_alone : (all : Devices) (view : View) (at n : ℕ) → StandsNow view all → ((journal : List ℕ) → Left all.journal.durable journal → Counts journal) → AloneNow view all → IsFree view at n
    → Left all.image.durable all.image.seen → Left all.journal.durable all.journal.seen → at ≤ length all.image.seen
    → (image journal said : List ℕ) → Leaves (begun_write at n all.image.durable) all.journal.durable all.said image journal said → AloneStill view image journal said
prefill_alone all view at n stands counts alone free reads_i reads_j in_file = write_torn all (AloneStill view) alone Image at n reads_i in_file (λ j o old new p t. alone_torn view at n old new free long p t)
  where
    long : 112 ≤ length view.bytes
    long =
        let s = stands all.image.seen all.journal.seen all.said (record { image_is = reads_i; journal_is = reads_j; said_is = refl }) in
        omega (arith, s.agrees.len, long_by (slot_of all.journal.seen) all.image.seen s.bytes (counted_sound all.journal.seen (counts all.journal.seen reads_j)) s.recovered)
