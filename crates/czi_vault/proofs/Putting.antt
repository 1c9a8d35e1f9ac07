-- The image while links are written, and what a crash then leaves.
use Rattle.std.proofs.Common.{◌≡◌, ◌≤◌, ◌<◌, length, [], ◌∷◌, ◌++◌, ℕ, zero, suc, ◌+◌, List, get_or, take, refl, sym, ◌∙◌, ap, subst, arith}
use Rattle.std.proofs.lemmas.List.{take_more}
use Rattle.czi_rig.specs.Disk.{Left, Disk, Durable, begun_write, wrote}
use Rattle.czi_rig.proofs.Files.{Left-begun_write, length-overwritten}
use Rattle.czi_links.specs.Record.{Bytes, EndWithin}
use Rattle.czi_vault.specs.Recovered.{with_links}
use Rattle.czi_vault.specs.Puts.{begun_each, wrote_each}

pub wrote_seen : (ls : List Bytes) (file : Disk) → (wrote_each ls file).seen ≡ with_links ls file.seen
wrote_seen [] file = refl
wrote_seen (l ∷ ls) file = wrote_seen ls (wrote l.place l.bytes file)

wrote_durable : (ls : List Bytes) (file : Disk) → (wrote_each ls file).durable ≡ begun_each ls file.durable
wrote_durable [] file = refl
wrote_durable (l ∷ ls) file = wrote_durable ls (wrote l.place l.bytes file)

wrote_each-push : (ls : List Bytes) (l : Bytes) (file : Disk) → wrote_each (ls ++ l ∷ []) file ≡ wrote l.place l.bytes (wrote_each ls file)
wrote_each-push [] l file = refl
wrote_each-push (m ∷ ls) l file = wrote_each-push ls l (wrote m.place m.bytes file)

pub wrote_each-more : (ls : List Bytes) (i : ℕ) (l : Bytes) (file : Disk) → i < length ls → l ≡ get_or ls i l
    → wrote_each (take (i + 1) ls) file ≡ wrote l.place l.bytes (wrote_each (take i ls) file)
wrote_each-more ls i l file lt is = ap (λ (ms : List Bytes). wrote_each ms file) (take_more ls i l lt) ∙ wrote_each-push (take i ls) (get_or ls i l) file
    ∙ ap (λ (m : Bytes). wrote m.place m.bytes (wrote_each (take i ls) file)) (sym is)

left_each : (ls : List Bytes) (file : Durable) (left : List ℕ) → Left file left → Left (begun_each ls file) left
left_each [] file left l = l
left_each (m ∷ ls) file left l = left_each ls (begun_write m.place (length m.bytes) file) left (Left-begun_write m.place (length m.bytes) file left l)

begun_here : (ls : List Bytes) (i : ℕ) (m : Bytes) (file : Durable) (left : List ℕ) → i < length ls → m ≡ get_or ls i m
    → Left (begun_write m.place (length m.bytes) (begun_each (take i ls) file)) left → Left (begun_each ls file) left
begun_here [] i m file left lt is l = absurd (omega (arith, lt))
begun_here (n ∷ ls) zero m file left lt is l = left_each ls (begun_write n.place (length n.bytes) file) left (subst (λ (x : Bytes). Left (begun_write x.place (length x.bytes) file) left) is l)
begun_here (n ∷ ls) (suc i) m file left lt is l = begun_here ls i m (begun_write n.place (length n.bytes) file) left (omega (arith, lt)) is l

-- a crash in the write of link i
pub link_torn : (ls : List Bytes) (i : ℕ) (m : Bytes) (file : Disk) (left : List ℕ) → i < length ls → m ≡ get_or ls i m
    → Left (begun_write m.place (length m.bytes) (wrote_each (take i ls) file).durable) left → Left (begun_each ls file.durable) left
link_torn ls i m file left lt is l = begun_here ls i m file.durable left lt is
    (subst (λ (d : Durable). Left (begun_write m.place (length m.bytes) d) left) (wrote_durable (take i ls) file) l)

length-wrote : (ls : List Bytes) (i : ℕ) (file : Disk) → EndWithin (length file.seen) ls → length (wrote_each (take i ls) file).seen ≡ length file.seen
length-wrote [] zero file fits = refl
length-wrote [] (suc i) file fits = refl
length-wrote (l ∷ ls) zero file fits = refl
length-wrote (l ∷ ls) (suc i) file fits =
    let e = length-overwritten l.place l.bytes file.seen (fits 0 l (omega arith)) in
    length-wrote ls i (wrote l.place l.bytes file) (λ k d lt. omega (arith, e, fits (suc k) d (omega (arith, lt)))) ∙ e

pub place_in_file : (ls : List Bytes) (i : ℕ) (m : Bytes) (file : Disk) → EndWithin (length file.seen) ls → i < length ls → m ≡ get_or ls i m
    → m.place ≤ length (wrote_each (take i ls) file).seen
place_in_file ls i m file fits lt is =
    let fit : m.place + length m.bytes ≤ length file.seen = rw is (fits i m lt) in
    omega (arith, fit, length-wrote ls i file fits)
