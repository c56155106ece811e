-- The ways of a class's reading, and of a file's.
use Rattle.std.proofs.Common.{◌≡◌, ℕ, ◌+◌, true, false, leb, List, [], ◌∷◌, ◌++◌, length, Ok, Err, refl}
use Rattle.jinja.specs.declared.program.Field.{Field}
use Rattle.jinja.specs.Program.{MethodDecl, Program}
use Rattle.format.specs.Limits.{max_classes}
use Rattle.format.specs.Reading.{at_most}
use Rattle.format.specs.Parse.{superclass_at, fields_at, methods_at, class_at, classes_at, parse}
use Rattle.format.specs.declared.fault.TableFault.{TableFault}
use Rattle.format.specs.declared.fault.TableFault.TheVariants.{LeftOver}
use Rattle.set.specs.Progress.{class_step}

module _ (file : List ℕ) (n : ℕ) (before : Program) (p : ℕ) where
  pub no_superclass : (e : TableFault) → superclass_at file before p ≡ Err e → class_step file n before p ≡ Err e
  unfolding class_at
  no_superclass e h = rw h refl

  module _ (s q : ℕ) (a : superclass_at file before p ≡ Ok (s, q)) where
    pub no_fields : (e : TableFault) → fields_at file n before s q ≡ Err e → class_step file n before p ≡ Err e
    unfolding class_at
    no_fields e h = rw (a, h) refl

    module _ (fields : List Field) (r : ℕ) (b : fields_at file n before s q ≡ Ok (fields, r)) where
      pub no_methods : (e : TableFault) → methods_at file n before s r ≡ Err e → class_step file n before p ≡ Err e
      unfolding class_at
      no_methods e h = rw (a, b, h) refl

      pub one_class : (methods : List MethodDecl) (t : ℕ) → methods_at file n before s r ≡ Ok (methods, t) →
          class_step file n before p ≡ Ok (before ++ record { superclass = s; fields = fields; methods = methods } ∷ [], t)
      unfolding class_at
      one_class methods t h = rw (a, b, h) refl

module _ (file : List ℕ) where
  pub no_count : (e : TableFault) → at_most file max_classes 0 ≡ Err e → parse file ≡ Err e
  unfolding parse
  no_count e h = rw h refl

  module _ (k q : ℕ) (a : at_most file max_classes 0 ≡ Ok (k, q)) where
    pub no_classes : (e : TableFault) → classes_at file (4 + k) k [] q ≡ Err e → parse file ≡ Err e
    unfolding parse
    no_classes e h = rw (a, h) refl

    module _ (P : Program) (r : ℕ) (b : classes_at file (4 + k) k [] q ≡ Ok (P, r)) where
      pub left_over : leb (length file) r ≡ false → parse file ≡ Err (LeftOver r)
      unfolding parse
      left_over h = rw (a, b, h) refl

      pub all_read : leb (length file) r ≡ true → parse file ≡ Ok P
      unfolding parse
      all_read h = rw (a, b, h) refl
