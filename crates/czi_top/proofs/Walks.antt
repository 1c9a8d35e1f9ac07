-- The walk of clap over words of which none begins with a hyphen.
use Rattle.std.proofs.Common.{◌≡◌, ◌∙◌, ◌&&◌, ◌==◌, if◌then◌else◌, ℕ, Bool, codes, true, false, not, refl, sym, ap, List, [], ◌∷◌, ◌++◌, fold, is_some, unwrap_or, option_map, drop, ◌⊎◌, inl, inr, Some, None, true≢false, append_assoc}
use Rattle.std.specs.Prelude.{option_and_then}
use Rattle.std.specs.List.{list_all}
use Rattle.std.specs.Option.{option_map_or}
use Rattle.std.specs.Str.{bytes_eq}
use Rattle.std.specs.Prelude.{slice_get}
use Rattle.clap.specs.Matches.{first_value, matched_of, raw_values}
use Rattle.clap.specs.declared.parser.matches.Found.{Found}
use Rattle.clap.proofs.WalkLemmas.{first_value-rows, raw_values-rows}
use Rattle.clap.specs.Lexer.{long_of, long_of_rest, short_of, short_of_rest, strip_byte}
use Rattle.clap.specs.Walk.{Held, Row, Rule, Text, Waiting, Walk, walked, walk_from, walk, nothing_held, after_step, idle, positional, plain_word, long_or_other, short_or_plain, subcommand_or_other, subcommand_met, word_met, value, trailing, reading_by, settled, finished, first_of, all_of, rows_of}
use Rattle.clap.specs.Simple.{Shape, built, entered, matches_of}
use Rattle.clap.specs.Kinds.{Kinds, or_else}
use Rattle.clap.specs.Faults.{bundle_fault, flag_word_fault, other_fault, is_simple_and_free, turn_fault, walk_fault, word_fault, step_fault, settle_fault, defaults_fault, check_fault, entered_fault, fault_of}
use Rattle.clap.specs.declared.parser.matches.ValueSource.TheVariants.{CommandLine}
use Rattle.clap.specs.declared.error.kind.ErrorKind.TheVariants as kind
use Rattle.clap.specs.declared.error.kind.ErrorKind.{ErrorKind}
use Rattle.clap.proofs.OnLiterals.{clap_on_literals}
use Rattle.czi_top.specs.Arguments.{has_two}
use Rattle.czi_top.specs.Words.{is_plain}
use Rattle.czi_top.specs.Arguments.{tool, file_rule}

pub tool_is_simple : is_simple_and_free tool ≡ true
tool_is_simple = refl

abbrev pub shape : Shape
shape = (built tool).top

abbrev pub rules : List Rule
rules = shape.rules

-- ---- a plain word

not_true : (b : Bool) → not b ≡ true → b ≡ false
not_true true e = sym e
not_true false e = refl

no_strip : (w : Text) → is_plain w ≡ true → strip_byte 45 w ≡ None
no_strip [] plain = refl
no_strip (x ∷ xs) plain = ap (λ b. if b then Some xs else None) (not_true (x == 45) plain)

no_dashes : (w : Text) → is_plain w ≡ true → bytes_eq w (45 ∷ 45 ∷ []) ≡ false
no_dashes [] plain = refl
no_dashes (x ∷ xs) plain = rw (not_true (x == 45) plain) refl

no_long : (w : Text) → is_plain w ≡ true → long_of w ≡ None
no_long w plain = ap (λ s. option_and_then long_of_rest (option_and_then (strip_byte 45) s)) (no_strip w plain)

no_short : (w : Text) → is_plain w ≡ true → short_of w ≡ None
no_short w plain = ap (λ s. option_and_then short_of_rest s) (no_strip w plain)

-- it is a value
is_value : (waiting : Waiting) (position : ℕ) (w : Text) (h : Held) → is_plain w ≡ true
    → subcommand_met [] waiting w ≡ None → plain_word rules waiting w h ≡ (h, value)
    → word_met rules [] false waiting position w h ≡ (h, value)
is_value waiting position w h plain none this =
    ap (λ o. subcommand_or_other rules o waiting position w h) none
    ∙ ap (λ b. if b then (h, trailing position) else long_or_other rules waiting w (long_of w) h) (no_dashes w plain)
    ∙ ap (λ o. long_or_other rules waiting w o h) (no_long w plain)
    ∙ ap (λ o. short_or_plain rules waiting w o h) (no_short w plain)
    ∙ this

-- it is no fault
no_word_fault : (waiting : Waiting) (w : Text) (h : Held) → is_plain w ≡ true → subcommand_met [] waiting w ≡ None
    → word_fault shape [] false waiting w h ≡ []
no_word_fault waiting w h plain none =
    ap (λ o. other_fault shape o w h) none
    ∙ ap (λ b. if b then [] else flag_word_fault rules false (long_of w) w h) (no_dashes w plain)
    ∙ ap (λ o. flag_word_fault rules false o w h) (no_long w plain)
    ∙ ap (λ o. option_map_or (λ flags. bundle_fault rules false flags h) o []) (no_short w plain)

-- ---- where the walk stands

abbrev pub row : Text → List Text → Row
row id values = record { id = id; values = values; count = None; source = Some CommandLine; reading = reading_by file_rule }

abbrev pub field_rows : List Text → List Row
field_rows [] = []
field_rows (v ∷ vs) = row (codes "fields") (v ∷ vs) ∷ []

abbrev at_file : Text → Walk
at_file w0 = record { held = record { rows = []; pending = Some (codes "file", w0 ∷ []); skip = 0 }; waiting = idle; position = 2; is_trailing = false; stopped = None }

abbrev at_command : Text → Text → Walk
at_command w0 w1 = record { held = record { rows = row (codes "file") (w0 ∷ []) ∷ []; pending = Some (codes "command", w1 ∷ []); skip = 0 }; waiting = idle; position = 3; is_trailing = false; stopped = None }

abbrev named_rows : Text → Text → List Row
named_rows w0 w1 = row (codes "file") (w0 ∷ []) ∷ row (codes "command") (w1 ∷ []) ∷ []

abbrev at_field : Text → Text → List Text → Text → Walk
at_field w0 w1 done last = record { held = record { rows = named_rows w0 w1 ++ field_rows done; pending = Some (codes "fields", last ∷ []); skip = 0 }; waiting = positional; position = 3; is_trailing = false; stopped = None }

abbrev start : Walk
start = walk_from nothing_held

step_file : (w : Text) → is_plain w ≡ true → walked rules [] start w ≡ at_file w
unfolding walked
step_file w plain = ap (λ m. after_step rules w start m.0 m.1) (is_value idle 1 w start.held plain refl refl)

step_command : (w0 w : Text) → is_plain w ≡ true → walked rules [] (at_file w0) w ≡ at_command w0 w
unfolding walked
step_command w0 w plain = ap (λ m. after_step rules w (at_file w0) m.0 m.1) (is_value idle 2 w (at_file w0).held plain refl refl)

step_first : (w0 w1 w : Text) → is_plain w ≡ true → walked rules [] (at_command w0 w1) w ≡ at_field w0 w1 [] w
unfolding walked
step_first w0 w1 w plain = ap (λ m. after_step rules w (at_command w0 w1) m.0 m.1) (is_value idle 3 w (at_command w0 w1).held plain refl refl)

step_field : (w0 w1 : Text) (done : List Text) (last w : Text) → is_plain w ≡ true → walked rules [] (at_field w0 w1 done last) w ≡ at_field w0 w1 (done ++ last ∷ []) w
unfolding walked
step_field w0 w1 [] last w plain = ap (λ m. after_step rules w (at_field w0 w1 [] last) m.0 m.1) (is_value positional 3 w (at_field w0 w1 [] last).held plain refl refl)
step_field w0 w1 (v ∷ vs) last w plain = ap (λ m. after_step rules w (at_field w0 w1 (v ∷ vs) last) m.0 m.1) (is_value positional 3 w (at_field w0 w1 (v ∷ vs) last).held plain refl refl)

-- what stands before the last field, and the last
abbrev front : List Text → Text → List Text → List Text
front done last [] = done
front done last (w ∷ ws) = front (done ++ last ∷ []) w ws

abbrev end : Text → List Text → Text
end last [] = last
end last (w ∷ ws) = end w ws

all_fields : (done : List Text) (last : Text) (ws : List Text) → front done last ws ++ end last ws ∷ [] ≡ done ++ last ∷ ws
all_fields done last [] = refl
all_fields done last (w ∷ ws) = all_fields (done ++ last ∷ []) w ws ∙ append_assoc done (last ∷ []) (w ∷ ws)

pub both : (a b : Bool) → (a && b) ≡ true → (a ≡ true) × (b ≡ true)
both true b e = (refl, e)
both false b e = absurd (true≢false (sym e))

walk_fields : (w0 w1 : Text) (done : List Text) (last : Text) (ws : List Text) → list_all is_plain ws ≡ true
    → fold (walked rules []) (at_field w0 w1 done last) ws ≡ at_field w0 w1 (front done last ws) (end last ws)
walk_fields w0 w1 done last [] plain = refl
walk_fields w0 w1 done last (w ∷ ws) plain =
    let each = both (is_plain w) (list_all is_plain ws) plain in
    ap (λ s. fold (walked rules []) s ws) (step_field w0 w1 done last w each.0) ∙ walk_fields w0 w1 (done ++ last ∷ []) w ws each.1

-- ---- no fault on the way

turn_plain : (waiting : Waiting) (position : ℕ) (h : Held) (w : Text) → is_plain w ≡ true → subcommand_met [] waiting w ≡ None
    → plain_word rules waiting w h ≡ (h, value) → step_fault shape position h value ≡ []
    → turn_fault shape [] (record { held = h; waiting = waiting; position = position; is_trailing = false; stopped = None }) w ≡ []
turn_plain waiting position h w plain none this passes =
    ap (λ k. or_else k (step_fault shape position (word_met rules [] false waiting position w h).0 (word_met rules [] false waiting position w h).1)) (no_word_fault waiting w h plain none)
    ∙ ap (λ m. step_fault shape position m.0 m.1) (is_value waiting position w h plain none this)
    ∙ passes

-- a step with no fault, and then what comes after it
then_passes : (a after : Walk) (w : Text) (ws : List Text) → turn_fault shape [] a w ≡ [] → walked rules [] a w ≡ after → walk_fault shape [] after ws ≡ []
    → walk_fault shape [] a (w ∷ ws) ≡ []
unfolding walk_fault
then_passes a after w ws turn next rest =
    ap (λ k. or_else k (walk_fault shape [] (walked rules [] a w) ws)) turn ∙ ap (λ s. walk_fault shape [] s ws) next ∙ rest

ends : (a : Walk) → walk_fault shape [] a [] ≡ []
unfolding walk_fault
ends a = refl

fields_pass : (w0 w1 : Text) (done : List Text) (last : Text) (ws : List Text) → list_all is_plain ws ≡ true
    → walk_fault shape [] (at_field w0 w1 done last) ws ≡ []
fields_pass w0 w1 done last [] plain = ends (at_field w0 w1 done last)
fields_pass w0 w1 done last (w ∷ ws) plain =
    let each = both (is_plain w) (list_all is_plain ws) plain in
    then_passes (at_field w0 w1 done last) (at_field w0 w1 (done ++ last ∷ []) w) w ws
    (turn_plain positional 3 (at_field w0 w1 done last).held w each.0 refl refl refl)
    (step_field w0 w1 done last w each.0) (fields_pass w0 w1 (done ++ last ∷ []) w ws each.1)

words_pass : (w0 w1 : Text) (ws : List Text) → list_all is_plain (w0 ∷ w1 ∷ ws) ≡ true → walk_fault shape [] start (w0 ∷ w1 ∷ ws) ≡ []
words_pass w0 w1 ws plain =
    let first = both (is_plain w0) (list_all is_plain (w1 ∷ ws)) plain in
    let second = both (is_plain w1) (list_all is_plain ws) first.1 in
    then_passes start (at_file w0) w0 (w1 ∷ ws) (turn_plain idle 1 start.held w0 first.0 refl refl refl) (step_file w0 first.0)
    (then_passes (at_file w0) (at_command w0 w1) w1 ws (turn_plain idle 2 (at_file w0).held w1 second.0 refl refl refl) (step_command w0 w1 second.0)
    (rest ws second.1))
  where
    rest : (ws : List Text) → list_all is_plain ws ≡ true → walk_fault shape [] (at_command w0 w1) ws ≡ []
    rest [] plain = ends (at_command w0 w1)
    rest (w ∷ ws) plain =
        let each = both (is_plain w) (list_all is_plain ws) plain in
        then_passes (at_command w0 w1) (at_field w0 w1 [] w) w ws (turn_plain idle 3 (at_command w0 w1).held w each.0 refl refl refl)
        (step_first w0 w1 w each.0) (fields_pass w0 w1 [] w ws each.1)

-- ---- the whole walk

abbrev last_stop : Text → Text → List Text → Walk
last_stop w0 w1 [] = at_command w0 w1
last_stop w0 w1 (w ∷ ws) = at_field w0 w1 (front [] w ws) (end w ws)

walk_words : (w0 w1 : Text) (ws : List Text) → list_all is_plain (w0 ∷ w1 ∷ ws) ≡ true → walk rules [] nothing_held (w0 ∷ w1 ∷ ws) ≡ last_stop w0 w1 ws
walk_words w0 w1 [] plain =
    let first = both (is_plain w0) (list_all is_plain (w1 ∷ [])) plain in
    let second = both (is_plain w1) true first.1 in
    ap (λ s. walked rules [] s w1) (step_file w0 first.0) ∙ step_command w0 w1 second.0
walk_words w0 w1 (w ∷ ws) plain =
    let first = both (is_plain w0) (list_all is_plain (w1 ∷ w ∷ ws)) plain in
    let second = both (is_plain w1) (list_all is_plain (w ∷ ws)) first.1 in
    let third = both (is_plain w) (list_all is_plain ws) second.1 in
    ap (λ s. fold (walked rules []) s (w1 ∷ w ∷ ws)) (step_file w0 first.0)
    ∙ ap (λ s. fold (walked rules []) s (w ∷ ws)) (step_command w0 w1 second.0)
    ∙ ap (λ s. fold (walked rules []) s ws) (step_first w0 w1 w third.0)
    ∙ walk_fields w0 w1 [] w ws third.1

-- ---- after the walk

-- what is found is the file, the command and the fields
rows_at_field : (w0 w1 : Text) (done : List Text) (last : Text) → finished rules (at_field w0 w1 done last).held ≡ named_rows w0 w1 ++ field_rows (done ++ last ∷ [])
rows_at_field w0 w1 [] last = refl
rows_at_field w0 w1 (v ∷ vs) last = refl

pub rows_found : (w0 w1 : Text) (ws : List Text) → list_all is_plain (w0 ∷ w1 ∷ ws) ≡ true
    → finished rules (walk rules [] nothing_held (w0 ∷ w1 ∷ ws)).held ≡ named_rows w0 w1 ++ field_rows ws
rows_found w0 w1 [] plain = ap (λ s. finished rules s.held) (walk_words w0 w1 [] plain)
rows_found w0 w1 (w ∷ ws) plain =
    ap (λ s. finished rules s.held) (walk_words w0 w1 (w ∷ ws) plain)
    ∙ rows_at_field w0 w1 (front [] w ws) (end w ws)
    ∙ ap (λ l. named_rows w0 w1 ++ field_rows l) (all_fields [] w ws)

-- what is left to check after the walk
abbrev late_fault : Walk → Kinds
late_fault s = or_else (settle_fault rules false s.held) (or_else (defaults_fault (settled rules s.held).rows rules) (check_fault shape (finished rules s.held) false))

field_passes : (w0 w1 : Text) (done : List Text) (last : Text) → late_fault (at_field w0 w1 done last) ≡ []
unfolding defaults_fault
field_passes w0 w1 [] last = refl
field_passes w0 w1 (v ∷ vs) last = refl

stop_passes : (w0 w1 : Text) (ws : List Text) → late_fault (last_stop w0 w1 ws) ≡ []
unfolding defaults_fault
stop_passes w0 w1 [] = refl
stop_passes w0 w1 (w ∷ ws) = field_passes w0 w1 (front [] w ws) (end w ws)

-- ---- the faults and the matches

abbrev fault_at : List Text → Walk → Kinds
fault_at words s = or_else (walk_fault shape [] start words) (or_else (entered_fault (built tool) s.stopped)
    (or_else (settle_fault rules false s.held) (or_else (defaults_fault (settled rules s.held).rows rules)
    (check_fault shape (finished rules s.held) (is_some (entered (built tool) s.stopped))))))

fault_by : (words : List Text) (s : Walk) → walk rules [] nothing_held words ≡ s → fault_of tool words ≡ fault_at words s
fault_by words s is = ap (fault_at words) is

faultless : (w0 w1 : Text) (ws : List Text) → walk_fault shape [] start (w0 ∷ w1 ∷ ws) ≡ [] → late_fault (last_stop w0 w1 ws) ≡ [] → fault_at (w0 ∷ w1 ∷ ws) (last_stop w0 w1 ws) ≡ []
faultless w0 w1 [] on_the_way late = ap (λ k. or_else k (late_fault (last_stop w0 w1 []))) on_the_way ∙ late
faultless w0 w1 (w ∷ ws) on_the_way late = ap (λ k. or_else k (late_fault (last_stop w0 w1 (w ∷ ws)))) on_the_way ∙ late

pub two_words_pass : (w0 w1 : Text) (ws : List Text) → list_all is_plain (w0 ∷ w1 ∷ ws) ≡ true → fault_of tool (w0 ∷ w1 ∷ ws) ≡ []
two_words_pass w0 w1 ws plain =
    fault_by (w0 ∷ w1 ∷ ws) (last_stop w0 w1 ws) (walk_words w0 w1 ws plain)
    ∙ faultless w0 w1 ws (words_pass w0 w1 ws plain) (stop_passes w0 w1 ws)

no_words_fail : fault_of tool [] ≡ kind.MissingRequiredArgument ∷ []
unfolding clap_on_literals
no_words_fail = refl

file_fails : (w0 : Text) → late_fault (at_file w0) ≡ kind.MissingRequiredArgument ∷ []
unfolding defaults_fault
file_fails w0 = refl

one_word_fails : (w0 : Text) → is_plain w0 ≡ true → fault_of tool (w0 ∷ []) ≡ kind.MissingRequiredArgument ∷ []
one_word_fails w0 plain =
    fault_by (w0 ∷ []) (at_file w0) (step_file w0 plain)
    ∙ ap (λ k. or_else k (late_fault (at_file w0))) (then_passes start (at_file w0) w0 [] (turn_plain idle 1 start.held w0 plain refl refl refl) (step_file w0 plain) (ends (at_file w0)))
    ∙ file_fails w0

cons_not_nil : (k : ErrorKind) (ks : Kinds) → k ∷ ks ≡ [] → ⊥
cons_not_nil k ks e = true≢false (ap is_cons e)
  where
    is_cons : Kinds → Bool
    is_cons [] = false
    is_cons (k ∷ ks) = true

no_kind : (ks : Kinds) → ks ≡ [] → ks ≡ kind.MissingRequiredArgument ∷ [] → ⊥
no_kind ks none some = cons_not_nil kind.MissingRequiredArgument [] (sym some ∙ none)

-- plain words pass exactly where there are two
pub passes_where : (words : List Text) → list_all is_plain words ≡ true → fault_of tool words ≡ [] → has_two words ≡ true
passes_where [] plain passes = absurd (no_kind (fault_of tool []) passes no_words_fail)
passes_where (w0 ∷ []) plain passes = absurd (no_kind (fault_of tool (w0 ∷ [])) passes (one_word_fails w0 (both (is_plain w0) true plain).0))
passes_where (w0 ∷ w1 ∷ ws) plain passes = refl

pub not_two : (words : List Text) → list_all is_plain words ≡ true → (fault_of tool words ≡ [] → ⊥) → false ≡ has_two words
not_two [] plain fails = refl
not_two (w0 ∷ []) plain fails = refl
not_two (w0 ∷ w1 ∷ ws) plain fails = absurd (fails (two_words_pass w0 w1 ws plain))

pub matches_found : (w0 w1 : Text) (ws : List Text) → list_all is_plain (w0 ∷ w1 ∷ ws) ≡ true → matches_of tool (w0 ∷ w1 ∷ ws) ≡ named_rows w0 w1 ++ field_rows ws
matches_found w0 w1 ws plain = rows_found w0 w1 ws plain

pub file_found : (w0 w1 : Text) (ws : List Text) → first_of (codes "file") (named_rows w0 w1 ++ field_rows ws) ≡ Some w0
file_found w0 w1 ws = refl

pub command_found : (w0 w1 : Text) (ws : List Text) → first_of (codes "command") (named_rows w0 w1 ++ field_rows ws) ≡ Some w1
command_found w0 w1 ws = refl

pub fields_found : (w0 w1 : Text) (ws : List Text) → unwrap_or (all_of (codes "fields") (named_rows w0 w1 ++ field_rows ws)) [] ≡ ws
fields_found w0 w1 [] = refl
fields_found w0 w1 (w ∷ ws) = refl

-- ---- what the getters give

found_rows : (f : Found) (w0 w1 : Text) (ws : List Text) → list_all is_plain (w0 ∷ w1 ∷ ws) ≡ true → rows_of f ≡ matches_of tool (w0 ∷ w1 ∷ ws)
    → rows_of f ≡ named_rows w0 w1 ++ field_rows ws
found_rows f w0 w1 ws plain is = is ∙ matches_found w0 w1 ws plain

pub file_got : (f : Found) (words : List Text) → list_all is_plain words ≡ true → true ≡ has_two words → rows_of f ≡ matches_of tool words
    → first_value f (codes "file") ≡ slice_get words 0
file_got f [] plain two is = absurd (true≢false two)
file_got f (w0 ∷ []) plain two is = absurd (true≢false two)
file_got f (w0 ∷ w1 ∷ ws) plain two is =
    first_value-rows f (codes "file") ∙ ap (first_of (codes "file")) (found_rows f w0 w1 ws plain is) ∙ file_found w0 w1 ws

pub command_got : (f : Found) (words : List Text) → list_all is_plain words ≡ true → true ≡ has_two words → rows_of f ≡ matches_of tool words
    → first_value f (codes "command") ≡ slice_get words 1
command_got f [] plain two is = absurd (true≢false two)
command_got f (w0 ∷ []) plain two is = absurd (true≢false two)
command_got f (w0 ∷ w1 ∷ ws) plain two is =
    first_value-rows f (codes "command") ∙ ap (first_of (codes "command")) (found_rows f w0 w1 ws plain is) ∙ command_found w0 w1 ws

pub fields_got : (f : Found) (words : List Text) → list_all is_plain words ≡ true → true ≡ has_two words → rows_of f ≡ matches_of tool words
    → unwrap_or (option_map raw_values (matched_of f (codes "fields"))) [] ≡ drop 2 words
fields_got f [] plain two is = absurd (true≢false two)
fields_got f (w0 ∷ []) plain two is = absurd (true≢false two)
fields_got f (w0 ∷ w1 ∷ ws) plain two is =
    ap (λ o. unwrap_or o []) (raw_values-rows f (codes "fields") ∙ ap (all_of (codes "fields")) (found_rows f w0 w1 ws plain is)) ∙ fields_found w0 w1 ws

-- no two words with nothing at the first two places
pub both_there : (words : List Text) → true ≡ has_two words → (None ≡ slice_get words 0) ⊎ (None ≡ slice_get words 1) → ⊥
both_there [] two none = true≢false two
both_there (w0 ∷ []) two none = true≢false two
both_there (w0 ∷ w1 ∷ ws) two (inl none) = true≢false (ap is_some (sym none))
both_there (w0 ∷ w1 ∷ ws) two (inr none) = true≢false (ap is_some (sym none))

pub whole : (words fields : List Text) (file command : Text) → true ≡ has_two words → Some file ≡ slice_get words 0 → Some command ≡ slice_get words 1
    → fields ≡ drop 2 words → words ≡ file ∷ command ∷ fields
whole [] fields file command two f c rest = absurd (true≢false two)
whole (w0 ∷ []) fields file command two f c rest = absurd (true≢false two)
whole (w0 ∷ w1 ∷ ws) fields file command two f c rest = (λ i. the f i ∷ the c i ∷ sym rest i)
  where
    the : {a b : Text} → Some a ≡ Some b → b ≡ a
    the e = sym (ap (λ o. unwrap_or o []) e)
