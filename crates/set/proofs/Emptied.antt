-- Tables that hold nothing stand for no classes.
use Rattle.std.proofs.Common.{◌≡◌, [], map, length, ap, arith}
use Rattle.std.proofs.lemmas.List.{drop_all}
use Rattle.jinja.specs.Lookups.{count_methods}
use Rattle.format.specs.Rules.{count_code, count_handlers, program_code, program_handlers}
use Rattle.tables.specs.declared.tables.Tables.{Tables}
use Rattle.tables.specs.Views.{fields_of, methods_of, method_views, class_view, program_of}
use Rattle.tables.proofs.Numbering.{length_views}
use Rattle.set.specs.Progress.{mine, Full, Empty}

module _ (t : Tables) (e : Empty t) where
  pub no_program : program_of t ≡ []
  unfolding program_of
  no_program = ap (map (class_view (fields_of t) (method_views t))) e.classes

  pub empty_full : Full t
  empty_full =
      let none : mine (length (methods_of t)) t ≡ [] = drop_all (length (methods_of t)) (method_views t) (omega (arith, length_views t)) in
      record {
        whole = omega (arith, ap count_methods no_program, ap length e.methods);
        tallied = record {
          within = omega arith;
          code = omega (arith, ap length e.instrs, ap program_code no_program, ap count_code none);
          handlers = omega (arith, ap length e.handlers, ap program_handlers no_program, ap count_handlers none);
          params = omega (arith, ap length e.params);
        };
        fields = omega (arith, ap length e.fields);
      }
