-- Spellings and faults: bytes begin with one command, or have one kind of fault.
use Rattle.std.proofs.Common.{◌≡◌, ℕ, zero, suc, ◌+◌, ◌-◌, ◌<◌, ◌≤◌, List, [], ◌∷◌, ◌++◌, take, drop, length, replicate, ◌==◌, ◌⊎◌, refl, ap, sym, ◌∙◌, subst, arith, inl, inr, append-nil, append_assoc, length-append, length-take, take-append-drop, min, take-take}
use Rattle.std.specs.Prelude.{◌≢◌}
use Rattle.std.proofs.lemmas.Bool.{cases_Bool, eqb-true, eqb-false}
use Rattle.std.proofs.lemmas.List.{take-append-le}
use Rattle.std.proofs.Math.Seq.{take-append-add, take-append_seam, drop-append_seam}
use Rattle.czi_script.specs.declared.kind.Kind.{Kind}
use Rattle.czi_script.specs.declared.kind.Kind.TheVariants.{Cut, Long, Word, Later, Field, Value, Tail}
use Rattle.czi_script.specs.Script.{Command, Head, Alone, Brings, HasNo, IsHead, Spells, FirstLine, len_before, IsWrong, IsFault, IsUnfinished, BeginsPayload, NoneBegins, Shows, payload_len, close, rest_len, command_with}
use Rattle.czi_script.proofs.Tests.{less_or}
use Rattle.czi_script.proofs.Bytes.{SameParts, parted_once, held_in, free_append, free_front, all_free, FirstAt, first_at}
use Rattle.czi_script.proofs.Grammar.{one_head, not_both, kind_is, LineIs, line_is}

pub no_cons : (b : ℕ) (bytes : List ℕ) → b ∷ bytes ≡ [] → ⊥
no_cons b bytes e = cc

-- lists of one length that begin one list

pub record SameFront (a b x y : List ℕ) : Type 0 where
  pub front : a ≡ b
  pub more : x ≡ y

pub same_front : (a b x y : List ℕ) → length a ≡ length b → a ++ x ≡ b ++ y → SameFront a b x y
same_front a b x y len e = record {
  front = sym (take-append_seam a x) ∙ ap (λ n. take n (a ++ x)) len ∙ ap (take (length b)) e ∙ take-append_seam b y;
  more = sym (drop-append_seam a x) ∙ ap (λ n. drop n (a ++ x)) len ∙ ap (drop (length b)) e ∙ drop-append_seam b y;
}

-- first lines

abbrev pub first_longer : (line bytes more : List ℕ) → FirstLine line bytes → FirstLine line (bytes ++ more)
first_longer line bytes more f = record { more = f.more ++ more; whole = ap (λ l. l ++ more) f.whole ∙ append_assoc line (10 ∷ f.more) more; free = f.free; short = f.short }

same_lines : (l m bytes : List ℕ) → (f : FirstLine l bytes) → (g : FirstLine m bytes) → SameParts l m f.more g.more
same_lines l m bytes f g = parted_once 10 l m f.more g.more f.free g.free (sym f.whole ∙ g.whole)

-- spellings

-- how many bytes a spelling has
pub spelled_size : (c : Command) (a : List ℕ) → Spells c a → 0 < length a
spelled_size c a s = let n : length a ≡ length (s.line ++ 10 ∷ s.first.more) = ap length s.first.whole in let m : length (s.line ++ 10 ∷ s.first.more) ≡ length s.line + length (10 ∷ s.first.more) = length-append s.line (10 ∷ s.first.more) in omega (arith, n, m)

-- What two spellings that begin one byte list have in common.
pub record SameSpelling (c d : Command) (a b x y : List ℕ) : Type 0 where
  pub command : c ≡ d
  pub spelled : a ≡ b
  pub more : x ≡ y

-- the payloads of one line
same_payload : (h : Head) (p q x y : List ℕ) → length p ≡ payload_len h → length q ≡ payload_len h → (p ++ close h) ++ x ≡ (q ++ close h) ++ y → SameFront p q x y
same_payload h p q x y m n e =
    let s : SameFront p q (close h ++ x) (close h ++ y) = same_front p q (close h ++ x) (close h ++ y) (m ∙ sym n) (sym (append_assoc p (close h) x) ∙ e ∙ append_assoc q (close h) y) in
    let t : SameFront (close h) (close h) x y = same_front (close h) (close h) x y refl s.more in
    record { front = s.front; more = t.more }

pub spelled_once : (c d : Command) (a b x y : List ℕ) → Spells c a → Spells d b → a ++ x ≡ b ++ y → SameSpelling c d a b x y
spelled_once c d a b x y p q e =
    let f = first_longer p.line a x p.first in
    let g = subst (λ l. FirstLine q.line l) (sym e) (first_longer q.line b y q.first) in
    let s : SameParts p.line q.line (p.first.more ++ x) (q.first.more ++ y) = parted_once 10 p.line q.line (p.first.more ++ x) (q.first.more ++ y) p.first.free q.first.free (sym f.whole ∙ e ∙ (first_longer q.line b y q.first).whole) in
    let h : p.head ≡ q.head = one_head p.head q.head q.line (subst (IsHead p.head) s.front_is p.is_head) q.is_head in
    let sized : length q.payload ≡ payload_len p.head = q.sized ∙ ap payload_len (sym h) in
    let r : SameFront p.payload q.payload x y = same_payload p.head p.payload q.payload x y p.sized sized
    (sym (ap (λ l. l ++ x) p.behind) ∙ s.more_is ∙ ap (λ l. l ++ y) (q.behind ∙ ap (λ k. q.payload ++ close k) (sym h))) in
    let rest : p.first.more ≡ q.first.more = p.behind ∙ ap (λ l. l ++ close p.head) r.front ∙ ap (λ k. q.payload ++ close k) h ∙ sym q.behind in
    record {
      command = p.tells ∙ ap (λ k. command_with k p.payload) h ∙ ap (command_with q.head) r.front ∙ sym q.tells;
      spelled = p.first.whole ∙ ap (λ l. l ++ 10 ∷ p.first.more) s.front_is ∙ ap (λ l. q.line ++ 10 ∷ l) rest ∙ sym q.first.whole;
      more = r.more;
    }

pub spelled_some : (c : Command) (a more : List ℕ) → Spells c a → a ++ more ≡ [] → ⊥
spelled_some c a more s e = let n = spelled_size c a s in let m : length (a ++ more) ≡ length a + length more = length-append a more in let k : length (a ++ more) ≡ 0 = ap length e in omega (arith, n, m, k)

-- faults

no_line : (line more : List ℕ) → line ++ 10 ∷ more ≡ [] → ⊥
no_line [] more e = no_cons 10 more e
no_line (x ∷ line) more e = no_cons x (line ++ 10 ∷ more) e

-- a whole line is wrong, or its payload isn't whole
abbrev pub PayloadFault : Kind → Head → List ℕ → Type 0
PayloadFault kind h more = ((kind ≡ Cut) × (length more < rest_len h))
    ⊎ ((kind ≡ Tail) × (payload : List ℕ) × (byte : ℕ) × (rest : List ℕ) × (length payload ≡ payload_len h) × (close h ≡ 10 ∷ []) × (more ≡ payload ++ byte ∷ rest) × (byte ≢ 10))

abbrev pub LineFault : Kind → List ℕ → List ℕ → Type 0
LineFault kind line more = IsWrong kind line ⊎ ((h : Head) × IsHead h line × PayloadFault kind h more)

-- in which of three ways the bytes begin with no command
abbrev pub Shape : Kind → List ℕ → Type 0
Shape kind bytes = ((kind ≡ Cut) × HasNo 10 bytes × (length bytes < 4096)) ⊎ (((kind ≡ Long) × (4096 ≤ length bytes) × HasNo 10 (take 4096 bytes)) ⊎ ((line : List ℕ) × (f : FirstLine line bytes) × LineFault kind line f.more))

pub shape : (kind : Kind) (bytes : List ℕ) → IsFault kind bytes → Shape kind bytes
shape Cut bytes f = elim f.1 [
  | inl short ↦ inl (refl, short.0, short.1)
  | inr part ↦ inr (inr (part.line, part.first, inr (part.head, part.is_head, inl (refl, part.less))))
]
shape Long bytes f = inr (inl (refl, f.0, f.1))
shape Word bytes f = inr (inr (f.0, f.1, inl f.2))
shape Later bytes f = inr (inr (f.0, f.1, inl f.2))
shape Field bytes f = inr (inr (f.0, f.1, inl f.2))
shape Value bytes f = inr (inr (f.0, f.1, inl f.2))
shape Tail bytes f = inr (inr (f.line, f.first, inr (f.head, f.is_head, inr (refl, f.payload, f.byte, f.more, f.sized, f.closed, f.behind, f.other))))

pub fault_of_wrong : (kind : Kind) (line bytes : List ℕ) → FirstLine line bytes → IsWrong kind line → IsFault kind bytes
fault_of_wrong Cut line bytes f w = absurd w
fault_of_wrong Long line bytes f w = absurd w
fault_of_wrong Word line bytes f w = (line, f, w)
fault_of_wrong Later line bytes f w = (line, f, w)
fault_of_wrong Field line bytes f w = (line, f, w)
fault_of_wrong Value line bytes f w = (line, f, w)
fault_of_wrong Tail line bytes f w = absurd w

first_some : (line bytes : List ℕ) → FirstLine line bytes → bytes ≢ []
first_some line bytes f = λ e. no_line line f.more (sym f.whole ∙ e)

pub fault_some : (kind : Kind) → IsFault kind [] → ⊥
fault_some Cut f = f.0 refl
fault_some Long f = omega (arith, f.0)
fault_some Word f = first_some f.0 [] f.1 refl
fault_some Later f = first_some f.0 [] f.1 refl
fault_some Field f = first_some f.0 [] f.1 refl
fault_some Value f = first_some f.0 [] f.1 refl
fault_some Tail f = first_some f.line [] f.first refl

-- a line feed among the first 4096 bytes
early : (line more : List ℕ) → length line < 4096 → HasNo 10 (take 4096 (line ++ 10 ∷ more)) → ⊥
early line more short free = held_in 10 line (take (4095 - length line) more) (subst (HasNo 10) (front (4096 - length line) (4095 - length line) (omega arith) (omega arith)) free)
  where
    front : (n k : ℕ) → n ≡ suc k → 4096 ≡ length line + n → take 4096 (line ++ 10 ∷ more) ≡ line ++ 10 ∷ take k more
    front n k e f = ap (λ m. take m (line ++ 10 ∷ more)) f ∙ take-append-add line (10 ∷ more) n ∙ ap (λ m. line ++ take m (10 ∷ more)) e

pub cut_not_line : (line bytes : List ℕ) → FirstLine line bytes → HasNo 10 bytes → ⊥
cut_not_line line bytes f free = held_in 10 line f.more (subst (HasNo 10) f.whole free)

long_not_line : (line bytes : List ℕ) → FirstLine line bytes → HasNo 10 (take 4096 bytes) → ⊥
long_not_line line bytes f free = early line f.more f.short (subst (λ b. HasNo 10 (take 4096 b)) f.whole free)

one_payload : (k l : Kind) (h : Head) (more : List ℕ) → PayloadFault k h more → PayloadFault l h more → k ≡ l
one_payload k l h more p q = elim p [
  | inl x ↦ elim q [
    | inl y ↦ x.0 ∙ sym y.0
    | inr y ↦ absurd (whole x.1 y)
  ]
  | inr x ↦ elim q [
    | inl y ↦ absurd (whole y.1 x)
    | inr y ↦ x.0 ∙ sym y.0
  ]
]
  where
    whole : {kind : Kind} → length more < rest_len h → ((kind ≡ Tail) × (payload : List ℕ) × (byte : ℕ) × (rest : List ℕ) × (length payload ≡ payload_len h) × (close h ≡ 10 ∷ []) × (more ≡ payload ++ byte ∷ rest) × (byte ≢ 10)) → ⊥
    whole less t =
        let n : length more ≡ length (t.1 ++ t.2 ∷ t.3) = ap length t.6 in
        let m : length (t.1 ++ t.2 ∷ t.3) ≡ length t.1 + length (t.2 ∷ t.3) = length-append t.1 (t.2 ∷ t.3) in
        let k : length (close h) ≡ 1 = ap length t.5 in
        omega (arith, less, n, m, k, t.4)

one_wrong : (k l : Kind) (a b bytes : List ℕ) → (f : FirstLine a bytes) → (g : FirstLine b bytes) → LineFault k a f.more → LineFault l b g.more → k ≡ l
one_wrong k l a b bytes f g p q = elim p [
  | inl x ↦ elim q [
    | inl y ↦ kind_is k b (subst (IsWrong k) s.front_is x) ∙ sym (kind_is l b y)
    | inr y ↦ absurd (not_both y.0 k b y.1 (subst (IsWrong k) s.front_is x))
  ]
  | inr x ↦ elim q [
    | inl y ↦ absurd (not_both x.0 l a x.1 (subst (IsWrong l) (sym s.front_is) y))
    | inr y ↦
        let h : x.0 ≡ y.0 = one_head x.0 y.0 b (subst (IsHead x.0) s.front_is x.1) y.1 in
        one_payload k l y.0 g.more (subst (λ (z : Head). PayloadFault k z g.more) h (subst (PayloadFault k x.0) s.more_is x.2)) y.2
  ]
]
  where
    s : SameParts a b f.more g.more
    s = same_lines a b bytes f g

-- the kind of a fault is a function of the bytes
pub one_kind : (k l : Kind) (bytes : List ℕ) → IsFault k bytes → IsFault l bytes → k ≡ l
one_kind k l bytes p q = elim (shape k bytes p) [
  | inl x ↦ elim (shape l bytes q) [
    | inl y ↦ x.0 ∙ sym y.0
    | inr o ↦ elim o [ inl y ↦ absurd (omega (arith, x.2, y.1)) | inr y ↦ absurd (cut_not_line y.0 bytes y.1 x.1) ]
  ]
  | inr u ↦ elim u [
    | inl x ↦ elim (shape l bytes q) [
      | inl y ↦ absurd (omega (arith, x.1, y.2))
      | inr o ↦ elim o [ inl y ↦ x.0 ∙ sym y.0 | inr y ↦ absurd (long_not_line y.0 bytes y.1 x.2) ]
    ]
    | inr x ↦ elim (shape l bytes q) [
      | inl y ↦ absurd (cut_not_line x.0 bytes x.1 y.1)
      | inr o ↦ elim o [ inl y ↦ absurd (long_not_line x.0 bytes x.1 y.2) | inr y ↦ one_wrong k l x.0 y.0 bytes x.1 y.1 x.2 y.2 ]
    ]
  ]
]

-- a spelling is not unfinished, and no line that is wrong
spelled_not : (c : Command) (kind : Kind) (a more line bytes : List ℕ) → (s : Spells c a) → bytes ≡ a ++ more → (f : FirstLine line bytes) → LineFault kind line f.more → ⊥
spelled_not c kind a more line bytes s e f fault = elim fault [
  | inl w ↦ not_both s.head kind line (subst (IsHead s.head) p.front_is s.is_head) w
  | inr x ↦
      let h : s.head ≡ x.0 = one_head s.head x.0 line (subst (IsHead s.head) p.front_is s.is_head) x.1 in
      let behind : f.more ≡ (s.payload ++ close x.0) ++ more = sym p.more_is ∙ ap (λ l. l ++ more) (s.behind ∙ ap (λ k. s.payload ++ close k) h) in
      payload_not x.0 (s.sized ∙ ap payload_len h) behind x.2
]
  where
    p : SameParts s.line line (s.first.more ++ more) f.more
    p = parted_once 10 s.line line (s.first.more ++ more) f.more s.first.free f.free (sym (first_longer s.line a more s.first).whole ∙ sym e ∙ f.whole)

    head_of : (x y : ℕ) (xs ys : List ℕ) → x ∷ xs ≡ y ∷ ys → x ≡ y
    head_of x y xs ys e = cc

    payload_not : (h : Head) → length s.payload ≡ payload_len h → f.more ≡ (s.payload ++ close h) ++ more → PayloadFault kind h f.more → ⊥
    payload_not h sized behind fault = elim fault [
      | inl cut ↦
          let n : length f.more ≡ length ((s.payload ++ close h) ++ more) = ap length behind in
          let m : length ((s.payload ++ close h) ++ more) ≡ length (s.payload ++ close h) + length more = length-append (s.payload ++ close h) more in
          let k : length (s.payload ++ close h) ≡ length s.payload + length (close h) = length-append s.payload (close h) in
          omega (arith, n, m, k, sized, cut.1)
      | inr t ↦
          let r : SameFront s.payload t.1 (10 ∷ more) (t.2 ∷ t.3) = same_front s.payload t.1 (10 ∷ more) (t.2 ∷ t.3) (sized ∙ sym t.4)
          (sym (append_assoc s.payload (10 ∷ []) more) ∙ ap (λ l. (s.payload ++ l) ++ more) (sym t.5) ∙ sym behind ∙ t.6) in
          t.7 (sym (head_of 10 t.2 more t.3 r.more))
    ]

-- where a fault is, no spelling begins
pub fault_stuck : (kind : Kind) (bytes : List ℕ) → IsFault kind bytes → NoneBegins bytes
fault_stuck kind bytes f = λ c spelled more s e.
    let first = subst (λ l. FirstLine s.line l) (sym e) (first_longer s.line spelled more s.first) in
    elim (shape kind bytes f) [
      | inl x ↦ cut_not_line s.line bytes first x.1
      | inr o ↦ elim o [
        | inl x ↦ long_not_line s.line bytes first x.2
        | inr x ↦ spelled_not c kind spelled more x.0 bytes s e x.1 x.2
      ]
    ]

-- a fault that shows in a front is that of all, unless the front is cut
pub fault_stays : (kind : Kind) (bytes more : List ℕ) → kind ≢ Cut → IsFault kind bytes → IsFault kind (bytes ++ more)
fault_stays Cut bytes more other f = absurd (other refl)
fault_stays Long bytes more other f = (let n : length (bytes ++ more) ≡ length bytes + length more = length-append bytes more in omega (arith, n, f.0), subst (HasNo 10) (sym (take-append-le 4096 bytes more f.0)) f.1)
fault_stays Word bytes more other f = (f.0, first_longer f.0 bytes more f.1, f.2)
fault_stays Later bytes more other f = (f.0, first_longer f.0 bytes more f.1, f.2)
fault_stays Field bytes more other f = (f.0, first_longer f.0 bytes more f.1, f.2)
fault_stays Value bytes more other f = (f.0, first_longer f.0 bytes more f.1, f.2)
fault_stays Tail bytes more other f = record {
  line = f.line;
  head = f.head;
  payload = f.payload;
  byte = f.byte;
  more = f.more ++ more;
  first = first_longer f.line bytes more f.first;
  is_head = f.is_head;
  sized = f.sized;
  closed = f.closed;
  behind = ap (λ l. l ++ more) f.behind ∙ append_assoc f.payload (f.byte ∷ f.more) more;
  other = f.other;
}

-- some bytes begin with a command, or with a fault
abbrev pub Begun : List ℕ → Type 0
Begun bytes = ((c : Command) × (spelled : List ℕ) × (more : List ℕ) × (bytes ≡ spelled ++ more) × Spells c spelled) ⊎ ((kind : Kind) × IsFault kind bytes)

-- a command by its line and its payload
pub spells_so : (h : Head) (line payload : List ℕ) → IsHead h line → length line < 4096 → HasNo 10 line → length payload ≡ payload_len h → Spells (command_with h payload) (line ++ 10 ∷ (payload ++ close h))
spells_so h line payload is short free sized = record {
  line = line;
  head = h;
  payload = payload;
  first = record { more = payload ++ close h; whole = refl; free = free; short = short };
  is_head = is;
  sized = sized;
  behind = refl;
  tells = refl;
}

line_parts : (line front more bytes rest : List ℕ) → bytes ≡ line ++ 10 ∷ rest → rest ≡ front ++ more → bytes ≡ (line ++ 10 ∷ front) ++ more
line_parts line front more bytes rest e f = e ∙ ap (λ l. line ++ 10 ∷ l) f ∙ sym (append_assoc line (10 ∷ front) more)

-- behind the payload
closed_begun : (h : Head) (line bytes : List ℕ) → (f : FirstLine line bytes) → IsHead h line → (payload more : List ℕ) → length payload ≡ payload_len h → f.more ≡ payload ++ more → rest_len h ≤ length f.more → Begun bytes
closed_begun (Alone c) line bytes f is payload more sized behind whole =
    inl (_, _, more, line_parts line (payload ++ []) more bytes f.more f.whole (behind ∙ ap (λ l. l ++ more) (sym (append-nil payload))), spells_so (Alone c) line payload is f.short f.free sized)
closed_begun (Brings p) line bytes f is payload [] sized behind whole = absurd (
    let n : length f.more ≡ length (payload ++ []) = ap length behind in
    let m : length (payload ++ []) ≡ length payload = ap length (append-nil payload) in
    omega (arith, n, m, sized, whole))
closed_begun (Brings p) line bytes f is payload (b ∷ more) sized behind whole = elim (cases_Bool (b == 10)) [
  | inl t ↦ inl (
    _,
    _,
    more,
    line_parts line (payload ++ 10 ∷ []) more bytes f.more f.whole (behind ∙ ap (λ x. payload ++ x ∷ more) (eqb-true b 10 t) ∙ sym (append_assoc payload (10 ∷ []) more)),
    spells_so (Brings p) line payload is f.short f.free sized,
  )
  | inr t ↦ inr (Tail, record { line = line; head = Brings p; payload = payload; byte = b; more = more; first = f; is_head = is; sized = sized; closed = refl; behind = behind; other = eqb-false b 10 t })
]

-- the first line of the bytes says something, or is wrong
line_begins : (line bytes : List ℕ) → FirstLine line bytes → LineIs line → Begun bytes
line_begins line bytes f is = elim is [
  | inr w ↦ inr (w.0, fault_of_wrong w.0 line bytes f w.1)
  | inl h ↦ elim (less_or (length f.more) (rest_len h.0)) [
    | inl less ↦ inr (Cut, (first_some line bytes f, inr (record { line = line; head = h.0; first = f; is_head = h.1; less = less })))
    | inr whole ↦
        let n : length (take (payload_len h.0) f.more) ≡ min (payload_len h.0) (length f.more) = length-take (payload_len h.0) f.more in
        closed_begun h.0 line bytes f h.1 (take (payload_len h.0) f.more) (drop (payload_len h.0) f.more) (omega (arith, n, whole)) (sym (take-append-drop (payload_len h.0) f.more)) whole
  ]
]

free_take : (n : ℕ) (bytes : List ℕ) → HasNo 10 bytes → HasNo 10 (take n bytes)
free_take n bytes free = free_front 10 (take n bytes) (drop n bytes) (subst (HasNo 10) (sym (take-append-drop n bytes)) free)

-- where the first line feed is, or none
pub data Begins (bytes : List ℕ) : Type 0 where
  Whole : (line : List ℕ) → FirstLine line bytes → Begins bytes
  Far : 4096 ≤ length bytes → HasNo 10 (take 4096 bytes) → Begins bytes
  Short : length bytes < 4096 → HasNo 10 bytes → Begins bytes

none_free : (bytes : List ℕ) → HasNo 10 bytes → Begins bytes
none_free bytes free = elim (less_or (length bytes) 4096) [
  | inl lt ↦ Short lt free
  | inr le ↦ Far le (free_take 4096 bytes free)
]

at_feed : (bytes : List ℕ) (n : ℕ) → n < length bytes → FirstAt 10 n bytes → Begins bytes
at_feed bytes n lt f = elim (less_or n 4096) [
  | inl short ↦ Whole (take n bytes) (record { more = drop (n + 1) bytes; whole = f.whole; free = f.free; short = let m : length (take n bytes) ≡ min n (length bytes) = length-take n bytes in omega (arith, m, short) })
  | inr far ↦ Far (omega (arith, far, lt)) (subst (HasNo 10) (take-take 4096 n bytes far) (free_take 4096 (take n bytes) f.free))
]

pub begins : (bytes : List ℕ) → Begins bytes
begins bytes = elim (less_or (len_before 10 bytes) (length bytes)) [
  | inl lt ↦ at_feed bytes (len_before 10 bytes) lt (first_at 10 bytes (len_before 10 bytes) refl lt)
  | inr le ↦ none_free bytes (all_free 10 bytes le)
]

some_cut : (bytes : List ℕ) → bytes ≢ [] → Begins bytes → Begun bytes
some_cut bytes some (Whole line f) = line_begins line bytes f (line_is line)
some_cut bytes some (Far far free) = inr (Long, (far, free))
some_cut bytes some (Short short free) = inr (Cut, (some, inl (free, short)))

-- some bytes begin with a command, or with a fault
pub begun : (bytes : List ℕ) → bytes ≢ [] → Begun bytes
begun bytes some = some_cut bytes some (begins bytes)

pub stuck_kind : (bytes : List ℕ) → bytes ≢ [] → NoneBegins bytes → (kind : Kind) × IsFault kind bytes
stuck_kind bytes some stuck = elim (begun bytes some) [
  | inl x ↦ absurd (stuck x.0 x.1 x.2 x.4 x.3)
  | inr x ↦ x
]

pub fault_some_bytes : (kind : Kind) (bytes : List ℕ) → IsFault kind bytes → bytes ≢ []
fault_some_bytes kind bytes f = λ e. fault_some kind (subst (IsFault kind) e f)

-- a fault that shows is there
pub shown_fault : (room : ℕ) (kind : Kind) (bytes : List ℕ) → Shows room kind bytes → IsFault kind bytes
shown_fault room kind bytes shows = elim shows [ inl here ↦ here.1 | inr every ↦ subst (IsFault kind) (take-append-drop room bytes) (every (drop room bytes)) ]

-- unfinished bytes, where they are some, are a cut command
pub unfinished_cut : (bytes : List ℕ) → bytes ≢ [] → IsUnfinished bytes → IsFault Cut bytes
unfinished_cut bytes some u = (some, u)

-- some bytes that go on from them are no cut command

-- n letters
abbrev letters : ℕ → List ℕ
letters n = replicate n 120

letters_free : (n : ℕ) → HasNo 10 (letters n)
letters_free zero = tt
letters_free (suc n) = ((λ e. omega (arith, e)), letters_free n)

letters_len : (n : ℕ) → length (letters n) ≡ n
letters_len zero = refl
letters_len (suc n) = ap suc (letters_len n)

-- a line that never ends
long_on : (bytes : List ℕ) → HasNo 10 bytes → length bytes < 4096 → IsFault Long (bytes ++ letters 4096)
long_on bytes free short = (
  let n : length (bytes ++ letters 4096) ≡ length bytes + length (letters 4096) = length-append bytes (letters 4096) in
      let m : length (letters 4096) ≡ 4096 = letters_len 4096 in
      omega (arith, n, m),
  free_take 4096 (bytes ++ letters 4096) (free_append 10 bytes (letters 4096) free (letters_free 4096)),
)

-- a payload that ends otherwise
tail_on : (bytes : List ℕ) → (p : BeginsPayload bytes) → (more : List ℕ) × IsFault Tail (bytes ++ more)
tail_on bytes p = by p.head refl
  where
    by : (h : Head) → p.head ≡ h → (more : List ℕ) × IsFault Tail (bytes ++ more)
    by (Alone c) e = absurd (let n : rest_len p.head ≡ 0 = ap rest_len e in omega (arith, n, p.less))
    by (Brings brought) e = (
      letters k ++ 11 ∷ [],
      record {
        line = p.line;
        head = p.head;
        payload = p.first.more ++ letters k;
        byte = 11;
        more = [];
        first = first_longer p.line bytes (letters k ++ 11 ∷ []) p.first;
        is_head = p.is_head;
        sized = let n : length (p.first.more ++ letters k) ≡ length p.first.more + length (letters k) = length-append p.first.more (letters k) in
            let m : length (letters k) ≡ k = letters_len k in
            let one : length (close p.head) ≡ 1 = ap (λ h. length (close h)) e in
            omega (arith, n, m, one, p.less);
        closed = ap close e;
        behind = sym (append_assoc p.first.more (letters k) (11 ∷ []));
        other = λ e. omega (arith, e);
      },
    )
      where
        k : ℕ
        k = payload_len p.head - length p.first.more

kinds_apart : (kind : Kind) (bytes : List ℕ) → IsFault kind bytes → kind ≢ Cut → IsFault Cut bytes → ⊥
kinds_apart kind bytes f other cut = other (one_kind kind Cut bytes f cut)

pub not_always_cut : (bytes : List ℕ) → IsUnfinished bytes → ((more : List ℕ) → IsFault Cut (bytes ++ more)) → ⊥
not_always_cut bytes u always = elim u [
  | inl short ↦ kinds_apart Long _ (long_on bytes short.0 short.1) (λ e. apart_long e) (always (letters 4096))
  | inr part ↦ let t = tail_on bytes part in kinds_apart Tail _ t.1 (λ e. apart_tail e) (always t.0)
]
  where
    apart_long : Long ≡ Cut → ⊥
    apart_long e = cc

    apart_tail : Tail ≡ Cut → ⊥
    apart_tail e = cc
