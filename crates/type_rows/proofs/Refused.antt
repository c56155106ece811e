-- What the tests of an instruction say of a row is whether it is refused. Assumes nothing.
use Rattle.std.proofs.Common.{◌≡◌, ℕ, Bool, true, false, cond, not, ◌&&◌, ltb, leb, List, [], ◌∷◌, ◌++◌, length, Some, None, Option, sym, refl, ap, ◌∙◌}
use Rattle.jinja.specs.declared.ty.Ty.{Ty}
use Rattle.jinja.specs.declared.instr.Instr.{Instr}
use Rattle.jinja.specs.declared.program.Handler.{Handler}
use Rattle.jinja.specs.Options.{◌>>=◌, ◌>>◌}
use Rattle.jinja.specs.Program.{MethodDecl, Program}
use Rattle.jinja.specs.Classes.{maybe, is_class}
use Rattle.jinja.specs.Lookups.{Owned}
use Rattle.jinja.specs.Rows.{Cell, reached}
use Rattle.jinja.specs.Rule.{Edge, edge}
use Rattle.jinja.specs.Transfer.{is_relevant, transfer, send_handlers}
use Rattle.tables.specs.Methods.{unowned}
use Rattle.type_rows.specs.Methods.{no_method}
use Rattle.type_rows.specs.MethodFlow.{all_inside, refuses_row}
use Rattle.type_rows.specs.Refusing.{handlers_pass}
use Rattle.type_rows.specs.Taking.{handler_edge}

and_false : (b : Bool) → (b && false) ≡ false
and_false true = refl
and_false false = refl

and_assoc : (a b c : Bool) → ((a && b) && c) ≡ (a && (b && c))
and_assoc true b c = refl
and_assoc false b c = refl

inside_append : (n : ℕ) (es fs : List Edge) → all_inside n (es ++ fs) ≡ (all_inside n es && all_inside n fs)
inside_append n [] fs = refl
inside_append n (edge p st lt ∷ es) fs = ap (λ (b : Bool). ltb p n && b) (inside_append n es fs) ∙ sym (and_assoc (ltb p n) (all_inside n es) (all_inside n fs))

module _ (P : Program) (M : Owned) (i : Instr) (pc : ℕ) (st : List Ty) (lt : List Cell) (n : ℕ) where
  one_passes : (x : Handler) (b p q r : Bool) (o : Option (List Edge)) → maybe (cond b (p >> (q >> (r >> (o >>= λ es. Some (handler_edge st lt x ∷ es))))) o) false (all_inside n) ≡ (cond b (p && q && r && ltb x.target n) true && maybe o false (all_inside n))
  one_passes x false p q r o = refl
  one_passes x true false q r o = refl
  one_passes x true true false r o = refl
  one_passes x true true true false o = refl
  one_passes x true true true true None = sym (and_false (ltb x.target n))
  one_passes x true true true true (Some es) = refl

  handlers_told : (xs : List Handler) → maybe (send_handlers P M xs i pc st lt) false (all_inside n) ≡ handlers_pass P i pc (length st) M.method.height n xs
  handlers_told [] = refl
  handlers_told (x ∷ xs) =
      one_passes x (is_relevant P i pc x) (is_class P x.class) (leb x.depth (length st)) (ltb x.depth M.method.height) (send_handlers P M xs i pc st lt)
      ∙ ap (λ (b : Bool). cond (is_relevant P i pc x) (is_class P x.class && leb x.depth (length st) && ltb x.depth M.method.height && ltb x.target n) true && b) (handlers_told xs)

  both_told : (es : List Edge) (o : Option (List Edge)) → maybe (o >>= λ hs. Some (es ++ hs)) true (λ es. cond (all_inside n es) false true) ≡ not (all_inside n es && maybe o false (all_inside n))
  both_told es None = sym (ap not (and_false (all_inside n es)))
  both_told es (Some hs) = ap (λ (b : Bool). cond b false true) (inside_append n es hs) ∙ negated (all_inside n es && all_inside n hs)
    where
      negated : (b : Bool) → cond b false true ≡ not b
      negated true = refl
      negated false = refl

pub refused_told : (P : Program) (M : Owned) (i : Instr) (pc : ℕ) (st : List Ty) (lt : List Cell) (es : List Edge) → transfer P M i pc st lt ≡ Some es → refuses_row P M i pc (reached st lt) ≡ not (all_inside (length M.method.code) es && handlers_pass P i pc (length st) M.method.height (length M.method.code) M.method.handlers)
refused_told P M i pc st lt es e =
    rw e (both_told P M i pc st lt (length M.method.code) es (send_handlers P M M.method.handlers i pc st lt)
    ∙ ap (λ (b : Bool). not (all_inside (length M.method.code) es && b)) (handlers_told P M i pc st lt (length M.method.code) M.method.handlers))

-- the parameters, the code and the handlers of the method of a number
pub own_params_unowned : (o : Option Owned) (p : Option MethodDecl) → unowned o ≡ p → maybe p [] (λ m. m.params) ≡ (maybe o no_method (λ m. m)).method.params
own_params_unowned None p e = rw (← e)
own_params_unowned (Some N) p e = rw (← e)

pub code_unowned : (o : Option Owned) (p : Option MethodDecl) → unowned o ≡ p → maybe p [] (λ m. m.code) ≡ (maybe o no_method (λ m. m)).method.code
code_unowned None p e = rw (← e)
code_unowned (Some N) p e = rw (← e)

pub handlers_unowned : (o : Option Owned) (p : Option MethodDecl) → unowned o ≡ p → maybe p [] (λ m. m.handlers) ≡ (maybe o no_method (λ m. m)).method.handlers
handlers_unowned None p e = rw (← e)
handlers_unowned (Some N) p e = rw (← e)
