-- What of a map decides whether a segment can be live again.
use Rattle.std.specs.Prelude.{ℕ, ◌≤◌, ◌<◌, Bool, ◌||◌, List, option_map, option_to_list}
use Rattle.std.specs.List.{list_any}
use Rattle.czi_format.specs.Span.{Span, end_of, meets}
use Rattle.czi_image.specs.Spans.{directory_span, header_span, meta_item_span}
use Rattle.czi_image.specs.declared.index.Index.{Index}
use Rattle.czi_machine.specs.Cover.{cover}

-- each place of a span is held
abbrev pub IsAllHeld : Span → List Span → Type 0
IsAllHeld s held = (q : ℕ) → s.at ≤ q → q < end_of s → 1 ≤ cover held q

-- the file header, a directory or the metadata meets a span
abbrev pub single_meets : Span → Index → Bool
single_meets s x = meets s (header_span x.header) || (list_any (meets s) (option_to_list (option_map directory_span x.directory))
    || (list_any (meets s) (option_to_list (option_map directory_span x.attdir)) || list_any (meets s) (option_to_list (option_map meta_item_span x.metadata))))
