-- Free space, on plain lists of spans: the free runs, where a need goes, and the DELETED extents after spans are used and
-- freed.
use Rattle.std.specs.Prelude.{ℕ, ◌+◌, ◌-◌, ◌^◌, List, [], ◌∷◌, ◌++◌, Bool, ◌&&◌, ◌==◌, nat_le, nat_lt, max, Option, Some, None, Result, Ok, Err, find, flat_map, filter, if◌then◌else◌}
use Rattle.czi_format.specs.FirstFault.{◌>>=◌}
use Rattle.czi_format.specs.Span.{Span, end_of, meets, round32, span_le, sorted, inserted}

-- the places from one up to another, where there are any
abbrev pub from_to : ℕ → ℕ → List Span
from_to a b = if nat_lt a b then record { at = a; len = b - a } ∷ [] else []

-- what is left of a span where another takes places of it
abbrev pub left_of : Span → Span → List Span
left_of taken s = if meets taken s then from_to s.at taken.at ++ from_to (end_of taken) (end_of s) else s ∷ []

-- what is left of the spans where others take places of them
abbrev pub without : List Span → List Span → List Span
without [] spans = spans
without (t ∷ taken) spans = without taken (flat_map (left_of t) spans)

-- where needs can go: the free runs in order of place, and the image's length
pub record Space : Type 0 where
  pub runs : List Span
  pub length : ℕ

-- the maximal parts of the DELETED extents that meet no held span
abbrev pub free_runs : List Span → List Span → List Span
free_runs held deleted = without held deleted

-- a need for which no place is left, and the length at which it was looked for
pub record Full : Type 0 where
  pub need : ℕ
  pub length : ℕ

-- the length rounded up to 32, where the need ends at or below 2^40 there
abbrev pub place_past : Space → ℕ → Result ℕ Full
place_past space need = if nat_le (round32 space.length + need) (2 ^ 40) then Ok (round32 space.length) else Err (record { need = need; length = space.length })

abbrev pub place_in : Space → ℕ → Option Span → Result ℕ Full
place_in space need None = place_past space need
place_in space need (Some run) = Ok run.at

-- first fit: a need goes to the front of the lowest free run that is at least as long, and else past the length
abbrev pub place_for : Space → ℕ → Result ℕ Full
place_for space need = place_in space need (find (λ (r : Span). nat_le need r.len) space.runs)

-- a span is used: the runs lose its places, and the length is its end where that passes it
abbrev pub use_span : Space → Span → Space
use_span space s = record { runs = without (s ∷ []) space.runs; length = max space.length (end_of s) }

-- spans are used one after another
abbrev pub use_all : Space → List Span → Space
use_all space [] = space
use_all space (s ∷ spans) = use_all (use_span space s) spans

-- where a need goes, and what is left for the next one
pub record Fit : Type 0 where
  pub span : Span
  pub space : Space

abbrev pub fit : Space → ℕ → Result Fit Full
fit space need = do
  at ← place_for space need
  Ok (record { span = record { at = at; len = need }; space = use_span space (record { at = at; len = need }) })

-- two spans of which the second begins where the first ends, as one
abbrev pub together : Span → Span → Span
together a b = record { at = a.at; len = a.len + b.len }

-- a span before extents in order of place, joined with the one that begins where it ends
abbrev pub with_next : Span → List Span → List Span
with_next s [] = s ∷ []
with_next s (e ∷ extents) = if end_of s == e.at then together s e ∷ extents else s ∷ e ∷ extents

-- a freed span among the extents, joined with the one that ends where it begins and with the one that begins where it ends
abbrev pub with_freed : Span → List Span → List Span
with_freed s [] = s ∷ []
with_freed s (e ∷ extents) = if nat_lt s.at e.at then with_next s (e ∷ extents)
    else (if end_of e == s.at then with_next (together e s) extents else e ∷ with_freed s extents)

-- freed spans, one after another
abbrev pub with_all_freed : List Span → List Span → List Span
with_all_freed [] extents = extents
with_all_freed (s ∷ spans) extents = with_all_freed spans (with_freed s extents)

-- the DELETED extents after a command: what it used is taken out of them, and what it freed is put in, in order of place
abbrev pub deleted_after : List Span → List Span → List Span → List Span
deleted_after used freed deleted = with_all_freed (sorted span_le freed) (without used deleted)

-- a span is held: it stands among the held ones in order of place
abbrev pub with_held : Span → List Span → List Span
with_held s held = inserted span_le s held

abbrev pub same_span : Span → Span → Bool
same_span a b = (a.at == b.at) && (a.len == b.len)

-- it is held once less
abbrev pub released : Span → List Span → List Span
released s [] = []
released s (h ∷ held) = if same_span h s then held else h ∷ released s held

-- the extents that end at or below a length
abbrev pub cut_to : ℕ → List Span → List Span
cut_to length extents = filter (λ (e : Span). nat_le (end_of e) length) extents
