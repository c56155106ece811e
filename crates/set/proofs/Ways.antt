-- The ways of a method's reading: where it is refused, and what it gives.
use Rattle.std.proofs.Common.{◌≡◌, ℕ, ◌+◌, List, [], ◌∷◌, ◌++◌, length, Ok, Err, sym, refl, ap, ◌∙◌}
use Rattle.jinja.specs.declared.ty.Ty.{Ty}
use Rattle.jinja.specs.declared.instr.Instr.{Instr}
use Rattle.jinja.specs.declared.program.Handler.{Handler}
use Rattle.jinja.specs.Program.{MethodDecl, Program}
use Rattle.format.specs.Limits.{max_height}
use Rattle.format.specs.Rules.{method_name, count_code, count_handlers, program_code, program_handlers}
use Rattle.format.specs.Reading.{Read, at_most}
use Rattle.format.specs.Parse.{name_at, params_at, result_at, extras_at, code_at, handlers_at, method_at}
use Rattle.format.specs.declared.fault.TableFault.{TableFault}
use Rattle.set.specs.Progress.{method_step}

-- what was read from a file that is the same
pub moved : {A : Type 0} (step : List ℕ → Read A) {f g : List ℕ} {x : Read A} → f ≡ g → step f ≡ x → step g ≡ x
moved step e h = sym (ap step e) ∙ h

module _ (file : List ℕ) (n : ℕ) (before : Program) (s : ℕ) (ms : List MethodDecl) (p : ℕ) where
  pub no_name : (e : TableFault) → name_at file method_name ms p ≡ Err e → method_step file n before s ms p ≡ Err e
  unfolding method_at
  no_name e h = rw h refl

  module _ (name q : ℕ) (a : name_at file method_name ms p ≡ Ok (name, q)) where
    pub no_params : (e : TableFault) → params_at file n q ≡ Err e → method_step file n before s ms p ≡ Err e
    unfolding method_at
    no_params e h = rw (a, h) refl

    module _ (params : List Ty) (r : ℕ) (b : params_at file n q ≡ Ok (params, r)) where
      pub no_result : (e : TableFault) → result_at file n before s name params r ≡ Err e → method_step file n before s ms p ≡ Err e
      unfolding method_at
      no_result e h = rw (a, b, h) refl

      module _ (result : Ty) (t : ℕ) (d : result_at file n before s name params r ≡ Ok (result, t)) where
        pub no_height : (e : TableFault) → at_most file max_height t ≡ Err e → method_step file n before s ms p ≡ Err e
        unfolding method_at
        no_height e h = rw (a, b, d, h) refl

        module _ (height u : ℕ) (f : at_most file max_height t ≡ Ok (height, u)) where
          pub no_extras : (e : TableFault) → extras_at file (length params) u ≡ Err e → method_step file n before s ms p ≡ Err e
          unfolding method_at
          no_extras e h = rw (a, b, d, f, h) refl

          module _ (extras v : ℕ) (g : extras_at file (length params) u ≡ Ok (extras, v)) where
            pub no_code : (e : TableFault) → code_at file (program_code before + count_code ms) v ≡ Err e → method_step file n before s ms p ≡ Err e
            unfolding method_at
            no_code e h = rw (a, b, d, f, g, h) refl

            module _ (code : List Instr) (w : ℕ) (i : code_at file (program_code before + count_code ms) v ≡ Ok (code, w)) where
              pub no_handlers : (e : TableFault) → handlers_at file (program_handlers before + count_handlers ms) w ≡ Err e → method_step file n before s ms p ≡ Err e
              unfolding method_at
              no_handlers e h = rw (a, b, d, f, g, i, h) refl

              pub one_more : (handlers : List Handler) (x : ℕ) → handlers_at file (program_handlers before + count_handlers ms) w ≡ Ok (handlers, x) →
                  method_step file n before s ms p
                  ≡ Ok (ms ++ record { name = name; params = params; result = result; height = height; extras = extras; code = code; handlers = handlers } ∷ [], x)
              unfolding method_at
              one_more handlers x h = rw (a, b, d, f, g, i, h) refl
