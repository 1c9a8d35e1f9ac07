-- What a crash leaves of a run that has come so far.
use Rattle.std.proofs.Common.{◌≡◌, ◌⊎◌, inl, inr, ⊎_elim, ℕ, suc, ◌+◌, ◌-◌, ◌<◌, ◌≤◌, List, [], ◌∷◌, length, take, ◌++◌, ◌∙◌, ap, sym, refl, subst, arith, length-append, append_assoc}
use Rattle.std.specs.List.{concat}
use Rattle.std.proofs.lemmas.Bool.{cases_lt}
use Rattle.std.proofs.lemmas.List.{append-nil, length-take-le, take_all}
use Rattle.std.proofs.lemmas.List.Folds.{concat-append}
use Rattle.czi_script.specs.Script.{Command}
use Rattle.czi_session.specs.Course.{Model, Said, OpensToPrefix, ReadsToPrefix, WhileSaid, WithinStep, state_after, replies, text_at}
use Rattle.czi_session.proofs.Counts.{said_is}

-- the next text
abbrev pub text_next : (m : Model) → m.Document → List Command → List ℕ → List ℕ
text_next m s [] last = last
text_next m s (c ∷ rest) last = m.reply s c

pub state_more : (m : Model) (s : m.Document) (done : List Command) (c : Command) → state_after m s (done ++ c ∷ []) ≡ m.after (state_after m s done) c
state_more m s [] c = refl
state_more m s (d ∷ done) c = state_more m (m.after s d) done c

replies_more : (m : Model) (s : m.Document) (done : List Command) (c : Command) → replies m s (done ++ c ∷ []) ≡ replies m s done ++ m.reply (state_after m s done) c ∷ []
replies_more m s [] c = refl
replies_more m s (d ∷ done) c = ap (λ rs. m.reply s d ∷ rs) (replies_more m (m.after s d) done c)

pub spoken_more : (m : Model) (s : m.Document) (done : List Command) (c : Command) → concat (replies m s (done ++ c ∷ [])) ≡ concat (replies m s done) ++ m.reply (state_after m s done) c
spoken_more m s done c = ap (λ rs. concat rs) (replies_more m s done c) ∙ concat-append (replies m s done) (m.reply (state_after m s done) c ∷ [])
    ∙ ap (λ (x : List ℕ). concat (replies m s done) ++ x) (append-nil (m.reply (state_after m s done) c))

pub length-replies : (m : Model) (s : m.Document) (cs : List Command) → length (replies m s cs) ≡ length cs
length-replies m s [] = refl
length-replies m s (c ∷ cs) = ap (λ (n : ℕ). suc n) (length-replies m (m.after s c) cs)

pub first_replies : (m : Model) (s : m.Document) (done rest : List Command) → take (length done) (replies m s (done ++ rest)) ≡ replies m s done
first_replies m s [] rest = refl
first_replies m s (d ∷ done) rest = ap (λ rs. m.reply s d ∷ rs) (first_replies m (m.after s d) done rest)

text_is : (m : Model) (s : m.Document) (last : List ℕ) (done rest : List Command) → text_at (replies m s (done ++ rest)) last (length done) ≡ text_next m (state_after m s done) rest last
text_is m s last [] [] = refl
text_is m s last [] (c ∷ rest) = refl
text_is m s last (d ∷ done) rest = text_is m (m.after s d) last done rest

pub state_is : (m : Model) (s : m.Document) (done rest : List Command) → state_after m s (take (length done) (done ++ rest)) ≡ state_after m s done
state_is m s [] rest = refl
state_is m s (d ∷ done) rest = state_is m (m.after s d) done rest

state_next : (m : Model) (s : m.Document) (done : List Command) (c : Command) (rest : List Command) → state_after m s (take (suc (length done)) (done ++ c ∷ rest)) ≡ m.after (state_after m s done) c
state_next m s [] c rest = refl
state_next m s (d ∷ done) c rest = state_next m (m.after s d) done c rest

module _ (m : Model) (something : (s : m.Document) (c : Command) → 0 < length (m.reply s c)) (start : m.Document) (last before : List ℕ) where
  less_text : (done rest : List Command) (n : ℕ) → (n < length (text_next m (state_after m start done) rest last)) ⊎ (rest ≡ [])
      → (length (take n (text_next m (state_after m start done) rest last)) < length (text_at (replies m start (done ++ rest)) last (length done))) ⊎ (length (replies m start (done ++ rest)) ≤ length done)
  less_text done rest n (inl lt) = inl (rw (text_is m start last done rest) (omega (arith, lt, length-take-le n (text_next m (state_after m start done) rest last) (omega (arith, lt)))))
  less_text done rest n (inr none) = inr (omega (arith, length-replies m start (done ++ rest), length-append done rest, ap (λ (x : List Command). length x) none))

  -- the first replies were said, and part of the next text
  abbrev prefix_at : (done rest : List Command) (n j : ℕ) (image journal said : List ℕ) → (n < length (text_next m (state_after m start done) rest last)) ⊎ (rest ≡ [])
      → (j ≡ length done) ⊎ (j ≡ length done + 1) → j ≤ length (done ++ rest) → m.opens image journal (state_after m start (take j (done ++ rest)))
      → said ≡ before ++ (concat (replies m start done) ++ take n (text_next m (state_after m start done) rest last)) → OpensToPrefix m start (done ++ rest) last before image journal said
  prefix_at done rest n j image journal said less near among opens is = record {
    said_since = concat (replies m start done) ++ take n (text_next m (state_after m start done) rest last);
    said_is = is;
    k = length done;
    counts = rw (first_replies m start done rest) at counted;
    j = j;
    near = near;
    among = among;
    opens = opens;
    n = n;
    every_reply = rw (first_replies m start done rest, text_is m start last done rest) refl;
  }
    where
      counted : Said (replies m start (done ++ rest)) (concat (take (length done) (replies m start (done ++ rest))) ++ take n (text_next m (state_after m start done) rest last)) (length done)
      counted = said_is (replies m start (done ++ rest)) last (take n (text_next m (state_after m start done) rest last)) (length done)
          (omega (arith, length-replies m start (done ++ rest), length-append done rest)) (less_text done rest n less)

  reads_at : (done rest : List Command) (n j : ℕ) (image journal said : List ℕ) → (n < length (text_next m (state_after m start done) rest last)) ⊎ (rest ≡ [])
      → (j ≡ length done) ⊎ (j ≡ length done + 1) → j ≤ length (done ++ rest) → m.opens image journal (state_after m start (take j (done ++ rest)))
      → said ≡ before ++ (concat (replies m start done) ++ take n (text_next m (state_after m start done) rest last))
      → m.alone image (state_after m start (take j (done ++ rest))) ⊎ m.alone image (state_after m start (take (j - 1) (done ++ rest))) → ReadsToPrefix m start (done ++ rest) last before image journal said
  reads_at done rest n j image journal said less near among opens is alone = record { prefix = prefix_at done rest n j image journal said less near among opens is; alone = alone }

  next_some : (s : m.Document) (rest : List Command) → (0 < length (text_next m s rest last)) ⊎ (rest ≡ [])
  next_some s [] = inr refl
  next_some s (c ∷ rest) = inl (something s c)

  -- before the first text
  pub prefix_first : (cs : List Command) (image journal said : List ℕ) → m.opens image journal start → said ≡ before → OpensToPrefix m start cs last before image journal said
  prefix_first cs image journal said opens is = prefix_at [] cs 0 0 image journal said (next_some start cs) (inl refl) (omega arith) opens (is ∙ sym (append-nil before))

  -- between two texts
  pub reads_between : (done rest : List Command) (image journal said : List ℕ) → m.opens image journal (state_after m start done) → m.alone image (state_after m start done) → said ≡ before ++ concat (replies m start done)
      → ReadsToPrefix m start (done ++ rest) last before image journal said
  reads_between done rest image journal said opens alone is =
      reads_at done rest 0 (length done) image journal said (next_some (state_after m start done) rest) (inl refl) (omega (arith, length-append done rest))
      (rw (state_is m start done rest) opens) (is ∙ ap (λ (x : List ℕ). before ++ x) (sym (append-nil (concat (replies m start done))))) (inl (rw (state_is m start done rest) alone))

  -- inside a command
  reads_inside : (done : List Command) (c : Command) (rest : List Command) (n : ℕ) (image journal said : List ℕ) → n < length (m.reply (state_after m start done) c)
      → m.opens image journal (m.after (state_after m start done) c) → m.alone image (state_after m start done) ⊎ m.alone image (m.after (state_after m start done) c)
      → said ≡ before ++ (concat (replies m start done) ++ take n (m.reply (state_after m start done) c)) → ReadsToPrefix m start (done ++ c ∷ rest) last before image journal said
  reads_inside done c rest n image journal said lt opens alone is =
      let one : suc (length done) - 1 ≡ length done = omega arith in
      reads_at done (c ∷ rest) n (suc (length done)) image journal said (inl lt) (inr (omega arith)) (omega (arith, length-append done (c ∷ rest)))
      (rw (state_next m start done c rest) opens) is (⊎_elim (λ old. inr (rw (one, state_is m start done (c ∷ rest)) old)) (λ new. inl (rw (state_next m start done c rest) new)) alone)

  pub reads_step : (done : List Command) (c : Command) (rest : List Command) (image journal said : List ℕ) → WithinStep m (state_after m start done) c (before ++ concat (replies m start done)) image journal said
      → ReadsToPrefix m start (done ++ c ∷ rest) last before image journal said
  reads_step done c rest image journal said (inl (inl old, is)) = reads_between done (c ∷ rest) image journal said old.0 old.1 is
  reads_step done c rest image journal said (inl (inr new, is)) =
      reads_inside done c rest 0 image journal said (something (state_after m start done) c) new.0 new.1 (is ∙ ap (λ (x : List ℕ). before ++ x) (sym (append-nil (concat (replies m start done)))))
  reads_step done c rest image journal said (inr (n, le, is, new, alone)) = ⊎_elim
      (λ lt. reads_inside done c rest n image journal said lt new (inr alone) (is ∙ append_assoc before (concat (replies m start done)) (take n (m.reply (state_after m start done) c))))
      (λ ge. subst (λ cs. ReadsToPrefix m start cs last before image journal said) (append_assoc done (c ∷ []) rest)
      (reads_between (done ++ c ∷ []) rest image journal said (rw (state_more m start done c) new) (rw (state_more m start done c) alone)
      (is ∙ append_assoc before (concat (replies m start done)) (take n (m.reply (state_after m start done) c)) ∙ ap (λ (x : List ℕ). before ++ x)
      (ap (λ (x : List ℕ). concat (replies m start done) ++ x) (take_all n (m.reply (state_after m start done) c) ge) ∙ sym (spoken_more m start done c)))))
      (cases_lt n (length (m.reply (state_after m start done) c)))

  -- inside the last text
  pub reads_last : (cs : List Command) (image journal said : List ℕ) → WhileSaid m (state_after m start cs) (before ++ concat (replies m start cs)) last image journal said
      → ReadsToPrefix m start cs last before image journal said
  reads_last cs image journal said (n, le, is, opens, alone) = subst (λ ds. ReadsToPrefix m start ds last before image journal said) (append-nil cs)
      (reads_at cs [] n (length cs) image journal said (inr refl) (inl refl) (omega (arith, length-append cs []))
      (rw (state_is m start cs []) opens) (is ∙ append_assoc before (concat (replies m start cs)) (take n last)) (inl (rw (state_is m start cs []) alone)))
