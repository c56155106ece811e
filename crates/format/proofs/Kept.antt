-- The rules that handlers, fields, methods and classes keep, each under a name.
use Rattle.std.proofs.Common.{◌≡◌, ℕ, zero, suc, ◌+◌, ◌≤◌, Bool, true, ◌&&◌, leb, List, [], ◌∷◌, ◌++◌, length, get_or, take, Some, sym, refl, ap, ◌∙◌, subst, arith}
use Rattle.std.specs.List.{slice_get, AllByRecursion}
use Rattle.std.proofs.lemmas.List.{append_assoc, append-nil, length_push}
use Rattle.std.proofs.lemmas.Bool.{leb-true, le-leb, and_parts, and_from}
use Rattle.jinja.specs.declared.program.Field.{Field}
use Rattle.jinja.specs.declared.program.Handler.{Handler}
use Rattle.jinja.specs.Program.{MethodDecl, ClassDecl, Program}
use Rattle.jinja.specs.Types.{type_exists}
use Rattle.jinja.specs.Classes.{is_class}
use Rattle.format.specs.Limits.{max_classes, max_params, max_height, max_code, max_instrs, max_name, max_operand, max_handler_number}
use Rattle.format.specs.Rules.{all_of, each, each_after, unused, field_name, method_name, instr_keeps, handler_keeps, field_keeps, method_keeps, class_keeps, keeps, override_keeps, registers_keep, code_keeps, handlers_keep, fields_keep, methods_keep, count_code, count_handlers, program_code, program_handlers}
use Rattle.jinja.proofs.Options.{conflict, some_inj}

-- tests of a list, each alone and all together
test_at : (bs : List Bool) → all_of bs ≡ true → (i : ℕ) → get_or bs i true ≡ true
test_at [] h i = refl
test_at (b ∷ bs) h zero = (and_parts b (all_of bs) h).0
test_at (b ∷ bs) h (suc i) = test_at bs (and_parts b (all_of bs) h).1 i

all_from : (bs : List Bool) → AllByRecursion (λ b. b ≡ true) bs → all_of bs ≡ true
all_from [] h = refl
all_from (b ∷ bs) h = and_from b (all_of bs) h.0 (all_from bs h.1)

pub code_fits : (used n : ℕ) → code_keeps used n ≡ true → (1 ≤ n) × (n ≤ max_code) × (used + n ≤ max_instrs)
code_fits used n k = let t = test_at (_ ∷ _ ∷ _ ∷ []) k in (leb-true _ _ (t 0), leb-true _ _ (t 1), leb-true _ _ (t 2))

pub record HandlerKept (h : Handler) : Type 0 where
  pub first : leb h.first max_handler_number ≡ true
  pub end : leb h.end max_handler_number ≡ true
  pub class : leb h.class max_operand ≡ true
  pub target : leb h.target max_handler_number ≡ true
  pub depth : leb h.depth max_handler_number ≡ true

pub handler_kept : (h : Handler) → handler_keeps h ≡ true → HandlerKept h
handler_kept h k =
    let t = test_at (_ ∷ _ ∷ _ ∷ _ ∷ _ ∷ []) k in
    record { first = t 0; end = t 1; class = t 2; target = t 3; depth = t 4 }

pub kept_handler : (h : Handler) → HandlerKept h → handler_keeps h ≡ true
kept_handler h k = all_from (_ ∷ _ ∷ _ ∷ _ ∷ _ ∷ []) (k.first, (k.end, (k.class, (k.target, (k.depth, tt)))))

pub record FieldKept (n : ℕ) (mine : List Field) (f : Field) : Type 0 where
  pub name : leb f.name max_name ≡ true
  pub fresh : unused field_name f.name mine ≡ true
  pub exists : type_exists n f.ty ≡ true

pub field_kept : (n : ℕ) (mine : List Field) (f : Field) → field_keeps n mine f ≡ true → FieldKept n mine f
field_kept n mine f k = let t = test_at (_ ∷ _ ∷ _ ∷ []) k in record { name = t 0; fresh = t 1; exists = t 2 }

pub kept_field : (n : ℕ) (mine : List Field) (f : Field) → FieldKept n mine f → field_keeps n mine f ≡ true
kept_field n mine f k = all_from (_ ∷ _ ∷ _ ∷ []) (k.name, (k.fresh, (k.exists, tt)))

pub record MethodKept (n : ℕ) (before : Program) (s : ℕ) (mine : List MethodDecl) (m : MethodDecl) : Type 0 where
  pub name : leb m.name max_name ≡ true
  pub fresh : unused method_name m.name mine ≡ true
  pub few_params : leb (length m.params) max_params ≡ true
  pub params : each (type_exists n) m.params ≡ true
  pub result : type_exists n m.result ≡ true
  pub override : override_keeps before s m.name m.params m.result ≡ true
  pub height : leb m.height max_height ≡ true
  pub registers : registers_keep (length m.params) m.extras ≡ true
  pub code_fits : code_keeps (program_code before + count_code mine) (length m.code) ≡ true
  pub code : each instr_keeps m.code ≡ true
  pub handlers_fit : handlers_keep (program_handlers before + count_handlers mine) (length m.handlers) ≡ true
  pub handlers : each handler_keeps m.handlers ≡ true

module _ (n : ℕ) (before : Program) (s : ℕ) (mine : List MethodDecl) (m : MethodDecl) where
  pub method_kept : method_keeps n before s mine m ≡ true → MethodKept n before s mine m
  method_kept k =
      let t = test_at (_ ∷ _ ∷ _ ∷ _ ∷ _ ∷ _ ∷ _ ∷ _ ∷ _ ∷ _ ∷ _ ∷ _ ∷ []) k in
      record { name = t 0; fresh = t 1; few_params = t 2; params = t 3; result = t 4; override = t 5; height = t 6; registers = t 7; code_fits = t 8; code = t 9; handlers_fit = t 10; handlers = t 11 }

  pub kept_method : MethodKept n before s mine m → method_keeps n before s mine m ≡ true
  kept_method k =
      all_from (_ ∷ _ ∷ _ ∷ _ ∷ _ ∷ _ ∷ _ ∷ _ ∷ _ ∷ _ ∷ _ ∷ _ ∷ [])
      (k.name, (k.fresh, (k.few_params, (k.params, (k.result, (k.override, (k.height, (k.registers, (k.code_fits, (k.code, (k.handlers_fit, (k.handlers, tt))))))))))))

pub record ClassKept (n : ℕ) (before : Program) (c : ClassDecl) : Type 0 where
  pub superclass : is_class before c.superclass ≡ true
  pub fields_fit : fields_keep before c.superclass (length c.fields) ≡ true
  pub fields : each_after (field_keeps n) [] c.fields ≡ true
  pub methods_fit : methods_keep before (length c.methods) ≡ true
  pub methods : each_after (method_keeps n before c.superclass) [] c.methods ≡ true

module _ (n : ℕ) (before : Program) (c : ClassDecl) where
  pub class_kept : class_keeps n before c ≡ true → ClassKept n before c
  class_kept k =
      let t = test_at (_ ∷ _ ∷ _ ∷ _ ∷ _ ∷ []) k in
      record { superclass = t 0; fields_fit = t 1; fields = t 2; methods_fit = t 3; methods = t 4 }

  pub kept_class : ClassKept n before c → class_keeps n before c ≡ true
  kept_class k = all_from (_ ∷ _ ∷ _ ∷ _ ∷ _ ∷ []) (k.superclass, (k.fields_fit, (k.fields, (k.methods_fit, (k.methods, tt)))))

-- those before a class are few
pub few_before : (test : Program → ClassDecl → Bool) (cs before : Program) → length before + length cs ≤ max_classes → each_after test before cs ≡ true → each_after (λ b c. leb (length b) max_classes && test b c) before cs ≡ true
few_before test [] before l h = refl
few_before test (c ∷ cs) before l h =
    let k = and_parts (test before c) _ h in
    and_from _ _ (and_from _ _ (le-leb _ _ (omega arith)) k.0) (few_before test cs (before ++ c ∷ []) (omega (arith, length_push before c)) k.1)

-- the item at place i passes in the light of those before it
each_after_at : {A : Type 0} (test : List A → A → Bool) (xs before : List A) (i : ℕ) {x : A} → each_after test before xs ≡ true → slice_get xs i ≡ Some x → test (before ++ take i xs) x ≡ true
each_after_at test [] before i h e = absurd (conflict e)
each_after_at test (y ∷ ys) before zero {x} h e = subst (λ z. test z x ≡ true) (sym (append-nil before)) (ap (test before) (sym (some_inj e)) ∙ (and_parts (test before y) _ h).0)
each_after_at test (y ∷ ys) before (suc i) {x} h e =
    subst (λ z. test z x ≡ true) (append_assoc before (y ∷ []) (take i ys)) (each_after_at test ys (before ++ y ∷ []) i (and_parts (test before y) _ h).1 e)

pub each_at : {A : Type 0} (test : A → Bool) (xs : List A) (i : ℕ) {x : A} → each test xs ≡ true → slice_get xs i ≡ Some x → test x ≡ true
each_at test [] i h e = absurd (conflict e)
each_at test (y ∷ ys) zero h e = ap test (sym (some_inj e)) ∙ (and_parts (test y) _ h).0
each_at test (y ∷ ys) (suc i) h e = each_at test ys i (and_parts (test y) _ h).1 e

-- what a program that keeps the rules keeps of each of its parts
module _ (P : Program) (kept : keeps P ≡ true) where
  pub kept_few : length P ≤ max_classes
  unfolding keeps
  kept_few = leb-true _ _ (and_parts (leb (length P) max_classes) _ kept).0

  pub kept_class_at : (i : ℕ) {c : ClassDecl} → slice_get P i ≡ Some c → ClassKept (4 + length P) (take i P) c
  unfolding keeps
  kept_class_at i {c} e = class_kept _ _ c (each_after_at (class_keeps (4 + length P)) P [] i (and_parts (leb (length P) max_classes) _ kept).1 e)

  pub kept_field_at : (i j : ℕ) {c : ClassDecl} {f : Field} → slice_get P i ≡ Some c → slice_get c.fields j ≡ Some f → FieldKept (4 + length P) (take j c.fields) f
  kept_field_at i j {c} {f} e q = field_kept _ _ f (each_after_at (field_keeps (4 + length P)) c.fields [] j (kept_class_at i e).fields q)

  pub kept_method_at : (i j : ℕ) {c : ClassDecl} {m : MethodDecl} → slice_get P i ≡ Some c → slice_get c.methods j ≡ Some m → MethodKept (4 + length P) (take i P) c.superclass (take j c.methods) m
  kept_method_at i j {c} {m} e q = method_kept _ _ _ _ m (each_after_at (method_keeps (4 + length P) (take i P) c.superclass) c.methods [] j (kept_class_at i e).methods q)
