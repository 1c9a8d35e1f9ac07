-- A reply that is said piece after piece.
use Rattle.std.proofs.Common.{◌≡◌, ℕ, ◌+◌, Bool, true, false, ◌≤◌, Some, None, List, [], ◌∷◌, ◌++◌, length, take, ◌∙◌, ap, arith, refl, sym, subst, append_assoc, length-append}
use Rattle.std.specs.Prelude.{option_map}
use Rattle.std.proofs.lemmas.List.{append-nil, take_all, take-append-le}
use Rattle.std.proofs.Math.Seq.{take-append-add}
use Rattle.std.proofs.lemmas.Option.{same_Some}
use Rattle.czi_rig.specs.declared.rig.Rig.{Ghosts}
use Rattle.czi_rig.specs.Disk.{Disk}
use Rattle.czi_rig.specs.State.{State, SameFiles, MayLeaveSaying}
use Rattle.czi_rig.specs.Faults.{Faults}
use Rattle.czi_rig.specs.Passes.{GoesOn, Passes}
use Rattle.czi_rig.specs.Moments.{Devices, LeavesSaying, Throughout, devices}
use Rattle.czi_rig.specs.Quiet.{Untouched}
use Rattle.czi_rig.proofs.Known.{said_known, known_said, same_known}
use Rattle.czi_rig.proofs.Quiet.{untouched_run}
use Rattle.czi_rig.proofs.Runs.{joined, run_is, run_says, started}
use Rattle.czi_session.specs.Course.{Model, NextPiece, OnlySays, RestsNow, Stands, Unsealed}

-- of a reply this much was said, and the rest is to be said yet
pub record SaidSome {D : Type 0} (rig : Ghosts D) (m : Model) (on : Disk → Disk → m.Document → Type 0) (piece : List ℕ) (owes : m.Document → List ℕ → Type 0) (first now : D) (all : Devices) (s : m.Document) (text : List ℕ) : Type 0 where
  pub spoken : List ℕ
  pub later : List ℕ
  pub whole : text ≡ spoken ++ (piece ++ later)
  pub owed : owes s later
  pub known : devices (rig.state now) ≡ Some (record { image = all.image; journal = all.journal; said = all.said ++ spoken })
  pub stands : on all.image all.journal s
  pub files : SameFiles (rig.state first) (rig.state now)
  pub moments : Throughout rig first now (LeavesSaying all text)

-- in the loop
pub record SayingOn {D E : Type 0} (rig : Ghosts D) (m : Model) (on : E → Disk → Disk → m.Document → Type 0) (ready : E → State → Type 0) (says : E → List ℕ) (owes : E → m.Document → List ℕ → Type 0) (left : E → ℕ) (first_editor editor : E) (first now : D) : Type 0 where
  pub each : (said : List ℕ) (s : m.Document) (rest : List ℕ) → (h : Stands m (on first_editor) (rig.state first) said s) → owes first_editor s rest
      → SaidSome rig m (on editor) (says editor) (owes editor) first now h.now s (says first_editor ++ rest)
  pub fewer : left editor ≤ left first_editor
  pub ready_now : ready editor (rig.state now)
  pub goes_on : GoesOn (rig.state first) (rig.state now)
  pub no_fault : Faults None (rig.state first) (rig.state now)

-- a front of a text that goes into its next piece
front_more : (text spoken piece later : List ℕ) (n : ℕ) → text ≡ spoken ++ (piece ++ later) → n ≤ length piece → spoken ++ take n piece ≡ take (length spoken + n) text
front_more text spoken piece later n whole le =
    ap (λ (x : List ℕ). spoken ++ x) (sym (take-append-le n piece later le)) ∙ sym (take-append-add spoken (piece ++ later) n) ∙ ap (λ (x : List ℕ). take (length spoken + n) x) (sym whole)

front_within : (text spoken piece later : List ℕ) (n : ℕ) → text ≡ spoken ++ (piece ++ later) → n ≤ length piece → length spoken + n ≤ length text
front_within text spoken piece later n whole le = omega (arith, le, ap (λ (x : List ℕ). length x) whole, length-append spoken (piece ++ later), length-append piece later)

-- nothing was said yet
module _ {D : Type 0} (rig : Ghosts D) (m : Model) (on : Disk → Disk → m.Document → Type 0) (owes : m.Document → List ℕ → Type 0) where
  pub none_said : (first : D) (piece said : List ℕ) (s : m.Document) (rest : List ℕ) (h : Stands m on (rig.state first) said s) → owes s rest → SaidSome rig m on piece owes first first h.now s (piece ++ rest)
  none_said first piece said s rest h owed = record {
    spoken = [];
    later = rest;
    whole = refl;
    owed = owed;
    known = subst (λ (x : List ℕ). devices (rig.state first) ≡ Some (record { image = h.now.image; journal = h.now.journal; said = x })) (sym (append-nil h.now.said)) h.known;
    stands = h.stands;
    files = record { image = refl; journal = refl };
    moments = started rig first _;
  }

module _ {D : Type 0} (rig : Ghosts D) (m : Model) (on : Disk → Disk → m.Document → Type 0) (piece : List ℕ) (owes : m.Document → List ℕ → Type 0) {first old : D} {all : Devices} {s : m.Document} {text : List ℕ}
    (x : SaidSome rig m on piece owes first old all s text) (is : devices (rig.state first) ≡ Some all) where
  -- both files, where this was said of the reply
  abbrev pub after_part : List ℕ → Devices
  after_part part = record { image = all.image; journal = all.journal; said = all.said ++ (x.spoken ++ part) }

  -- a front of it was said
  pub stops_at : RestsNow m on → (before : List ℕ) → all.said ≡ before → (state : State) (n : ℕ) → n ≤ length piece → devices state ≡ Some (after_part (take n piece))
      → (k : ℕ) × (k ≤ length text) × Stands m (Unsealed m) state (before ++ take k text) s
  stops_at rests before said state n le known = (
    length x.spoken + n,
    front_within text x.spoken piece x.later n x.whole le,
    record {
      now = after_part (take n piece);
      known = known;
      said_is = ap (λ (z : List ℕ). z ++ (x.spoken ++ take n piece)) said ∙ ap (λ (z : List ℕ). before ++ z) (front_more text x.spoken piece x.later n x.whole le);
      stands = rests all.image all.journal s x.stands;
    },
  )

  -- the piece is said
  module _ {mid : D} (bytes : List ℕ) (bytes_is : bytes ≡ piece) (files : SameFiles (rig.state old) (rig.state mid)) (time : Passes (rig.state old) (rig.state mid) (rig.left_since old) (rig.left_since mid) (MayLeaveSaying (rig.state old) bytes)) where
    piece_time : Passes (rig.state old) (rig.state mid) (rig.left_since old) (rig.left_since mid) (MayLeaveSaying (rig.state old) piece)
    piece_time = subst (λ (z : List ℕ). Passes (rig.state old) (rig.state mid) (rig.left_since old) (rig.left_since mid) (MayLeaveSaying (rig.state old) z)) bytes_is time

    files_then : SameFiles (rig.state first) (rig.state mid)
    files_then = record { image = files.image ∙ x.files.image; journal = files.journal ∙ x.files.journal }

    piece_moments : Throughout rig first mid (LeavesSaying all text)
    piece_moments = run_says rig piece (run_is rig x.known x.moments) piece_time (λ i j o l. (
      length x.spoken + l.0,
      front_within text x.spoken piece x.later l.0 x.whole l.1,
      record {
        image_is = l.2.image_is;
        journal_is = l.2.journal_is;
        said_is = l.2.said_is ∙ append_assoc all.said x.spoken (take l.0 piece) ∙ ap (λ (z : List ℕ). all.said ++ z) (front_more text x.spoken piece x.later l.0 x.whole l.1);
      },
    ))

    only_says : {new : D} → SameFiles (rig.state first) (rig.state new) → Throughout rig first new (LeavesSaying all text) → OnlySays rig first new text
    only_says {new = new} same moments = record {
      files = same;
      moments = λ now known. subst (λ (d : Devices). Throughout rig first new (LeavesSaying d text)) (same_Some all now (sym is ∙ known)) moments;
    }

    pub piece_only : OnlySays rig first mid text
    piece_only = only_says files_then piece_moments

    pub part_known : (n : ℕ) → (rig.state mid).said ≡ option_map (λ (z : List ℕ). z ++ take n bytes) (rig.state old).said → devices (rig.state mid) ≡ Some (after_part (take n piece))
    part_known n said = subst (λ (z : List ℕ). devices (rig.state mid) ≡ Some (record { image = all.image; journal = all.journal; said = z }))
        (append_assoc all.said x.spoken (take n bytes) ∙ ap (λ (z : List ℕ). all.said ++ (x.spoken ++ take n z)) bytes_is)
        (said_known (rig.state old) (rig.state mid) _ _ x.known files (said ∙ ap (option_map (λ (z : List ℕ). z ++ take n bytes)) (known_said (rig.state old) _ x.known)))

    -- and then the editor went on to the next one
    module _ (said : (rig.state mid).said ≡ option_map (λ (z : List ℕ). z ++ bytes) (rig.state old).said) {new : D} (u : Untouched rig mid new) where
      pub piece_known : devices (rig.state mid) ≡ Some (after_part piece)
      piece_known = subst (λ (z : List ℕ). devices (rig.state mid) ≡ Some (record { image = all.image; journal = all.journal; said = z })) (append_assoc all.said x.spoken bytes ∙ ap (λ (z : List ℕ). all.said ++ (x.spoken ++ z)) bytes_is)
          (said_known (rig.state old) (rig.state mid) _ _ x.known files (said ∙ ap (option_map (λ (z : List ℕ). z ++ bytes)) (known_said (rig.state old) _ x.known)))

      pub piece_stands : Stands m on (rig.state mid) (all.said ++ (x.spoken ++ piece)) s
      piece_stands = record { now = after_part piece; known = piece_known; said_is = refl; stands = x.stands }

      next_known : devices (rig.state new) ≡ Some (after_part piece)
      next_known = same_known (rig.state mid) (rig.state new) _ piece_known u.same

      next_files : SameFiles (rig.state first) (rig.state new)
      next_files = record { image = u.same.image ∙ files_then.image; journal = u.same.journal ∙ files_then.journal }

      next_moments : Throughout rig first new (LeavesSaying all text)
      next_moments = joined rig piece_moments (untouched_run rig piece_known u).moments

      pub next_only : OnlySays rig first new text
      next_only = only_says next_files next_moments

      pub next_stops : RestsNow m on → (before : List ℕ) → all.said ≡ before → (k : ℕ) × (k ≤ length text) × Stands m (Unsealed m) (rig.state new) (before ++ take k text) s
      next_stops rests before is_said = stops_at rests before is_said (rig.state new) (length piece) (omega arith) (subst (λ (z : List ℕ). devices (rig.state new) ≡ Some (after_part z)) (sym (take_all (length piece) piece (omega arith))) next_known)

      module _ (now_on : Disk → Disk → m.Document → Type 0) (stood : now_on all.image all.journal s) where
        -- there is one
        pub said_on : (more : Bool) (now_piece : List ℕ) (now_owes : m.Document → List ℕ → Type 0) → more ≡ true → NextPiece more x.later now_piece (now_owes s) → SaidSome rig m now_on now_piece now_owes first new all s text
        said_on more now_piece now_owes some nexts =
            let next = subst (λ (b : Bool). NextPiece b x.later now_piece (now_owes s)) some nexts in
            record {
              spoken = x.spoken ++ piece;
              later = next.0;
              whole = x.whole ∙ ap (λ (z : List ℕ). x.spoken ++ (piece ++ z)) next.1 ∙ sym (append_assoc x.spoken piece (now_piece ++ next.0));
              owed = next.2;
              known = next_known;
              stands = stood;
              files = next_files;
              moments = next_moments;
            }

        -- there is none
        pub said_whole : (more : Bool) (now_piece : List ℕ) (now_owes : m.Document → List ℕ → Type 0) → more ≡ false → NextPiece more x.later now_piece (now_owes s) → (before : List ℕ) → all.said ≡ before
            → Stands m now_on (rig.state new) (before ++ text) s
        said_whole more now_piece now_owes none nexts before is_said =
            let next = subst (λ (b : Bool). NextPiece b x.later now_piece (now_owes s)) none nexts in
            let all_of_it : x.spoken ++ piece ≡ text = ap (λ (z : List ℕ). x.spoken ++ z) (sym (append-nil piece) ∙ ap (λ (z : List ℕ). piece ++ z) (sym next)) ∙ sym x.whole in
            record {
              now = after_part piece;
              known = next_known;
              said_is = ap (λ (z : List ℕ). z ++ (x.spoken ++ piece)) is_said ∙ ap (λ (z : List ℕ). before ++ z) all_of_it;
              stands = stood;
            }
