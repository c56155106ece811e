-- The bytes of records are those of the methods and classes that they stand for.
use Rattle.std.proofs.Common.{◌≡◌, sym, ap, ◌∙◌}
use Rattle.format.specs.Encode.{counted_bytes, method_bytes, class_bytes, encode}
use Rattle.tables.specs.declared.records.Span.{Span}
use Rattle.tables.specs.declared.tables.Tables.{Tables}
use Rattle.tables.specs.Spans.{part}
use Rattle.tables.specs.Views.{classes_of, methods_of, method_views, program_of}
use Rattle.tables.proofs.Spans.{part_map}
use Rattle.writer.specs.Records.{method_of, class_of}
use Rattle.writer.proofs.Counted.{counted_map}

pub methods_stand : (t : Tables) (s : Span) → counted_bytes (λ m. method_bytes (method_of t m)) (part s (methods_of t)) ≡ counted_bytes method_bytes (part s (method_views t))
methods_stand t s = counted_map method_bytes (method_of t) (part s (methods_of t)) ∙ ap (counted_bytes method_bytes) (sym (part_map (method_of t) s (methods_of t)))

pub classes_stand : (t : Tables) → counted_bytes (λ c. class_bytes (class_of t c)) (classes_of t) ≡ encode (program_of t)
unfolding encode program_of
classes_stand t = counted_map class_bytes (class_of t) (classes_of t)
