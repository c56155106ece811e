-- No file of a program that keeps the rules is longer than `longest_file`.
use Rattle.std.proofs.Common.{◌≡◌, ℕ, ◌+◌, ◌*◌, ◌≤◌, Bool, true, ◌&&◌, leb, List, [], ◌∷◌, ◌++◌, length, sym, refl, ◌∙◌, subst, mul-zero, mul-suc, arith}
use Rattle.std.specs.List.{flat_map}
use Rattle.std.proofs.lemmas.List.{length-append, append_assoc, append-nil}
use Rattle.std.proofs.lemmas.Bool.{ltb-true, leb-true, and_parts}
use Rattle.number.specs.Numbers.{bytes}
use Rattle.jinja.specs.Program.{MethodDecl, ClassDecl, Program}
use Rattle.jinja.specs.Classes.{table}
use Rattle.jinja.specs.Lookups.{fields_of, count_methods}
use Rattle.jinja.specs.Types.{type_exists}
use Rattle.format.specs.Encode.{type_bytes, instr_bytes, field_bytes, handler_bytes, method_bytes, class_bytes, counted_bytes, encode}
use Rattle.format.specs.Limits.{max_classes, max_fields, max_methods, max_params, max_height, max_registers, max_instrs, max_handlers, max_name}
use Rattle.format.specs.Rules.{each, each_after, instr_keeps, handler_keeps, field_keeps, method_keeps, class_keeps, keeps, count_code, count_handlers, program_code, program_handlers}
use Rattle.format.proofs.Kept.{method_kept, class_kept, code_fits, few_before}
use Rattle.format.proofs.Lists.{each_is_after}
use Rattle.writer.specs.Longest.{field_most, instr_most, handler_most, class_most, method_most, longest_file}
use Rattle.writer.proofs.Sizes.{both, one_byte, two_bytes, type_size, instr_size, field_size, handler_size}

-- the weights of a list's items together
weigh : {X : Type 0} → (X → ℕ) → List X → ℕ
weigh w [] = 0
weigh w (x ∷ xs) = w x + weigh w xs

-- no item outweighs its weight, so the list does not
joined_size : {X : Type 0} (f : X → List ℕ) (w : X → ℕ) (test : List X → X → Bool) → ((before : List X) (x : X) → test before x ≡ true → length (f x) ≤ w x)
    → (before xs : List X) → each_after test before xs ≡ true → length (flat_map f xs) ≤ weigh w xs
unfolding weigh
joined_size f w test item before [] h = omega arith
joined_size f w test item before (x ∷ xs) h =
    let t = and_parts (test before x) _ h in
    rw (length-append (f x) (flat_map f xs)) (omega (arith, item before x t.0, joined_size f w test item (before ++ x ∷ []) xs t.1))

weigh_same : {X : Type 0} (k : ℕ) (xs : List X) → weigh (λ _. k) xs ≡ k * length xs
unfolding weigh
weigh_same k [] = sym (mul-zero k)
weigh_same k (x ∷ xs) = rw (weigh_same k xs) (omega (arith, mul-suc k (length xs)))

-- a count of so many bytes, and then items of at most k each
counted_size : {X : Type 0} (f : X → List ℕ) (k a : ℕ) (test : List X → X → Bool) → ((before : List X) (x : X) → test before x ≡ true → length (f x) ≤ k)
    → (xs : List X) → each_after test [] xs ≡ true → length (bytes (length xs)) ≤ a → length (counted_bytes f xs) ≤ a + k * length xs
counted_size f k a test item xs h l =
    both (bytes (length xs)) (flat_map f xs) a (k * length xs) l (subst (λ n. length (flat_map f xs) ≤ n) (weigh_same k xs) (joined_size f (λ _. k) test item [] xs h))

plain_size : {X : Type 0} (f : X → List ℕ) (k a : ℕ) (test : X → Bool) → ((x : X) → test x ≡ true → length (f x) ≤ k)
    → (xs : List X) → each test xs ≡ true → length (bytes (length xs)) ≤ a → length (counted_bytes f xs) ≤ a + k * length xs
plain_size f k a test item xs h l = counted_size f k a (λ _. test) (λ _. item) xs (sym (each_is_after test xs []) ∙ h) l

abbrev method_weight : MethodDecl → ℕ
method_weight m = method_most + (instr_most * length m.code + handler_most * length m.handlers)

abbrev class_weight : ClassDecl → ℕ
class_weight c = class_most + (method_most * length c.methods + (instr_most * count_code c.methods + handler_most * count_handlers c.methods))

method_size : (n : ℕ) (before : Program) (s : ℕ) (mine : List MethodDecl) (m : MethodDecl) → n ≤ 32 → method_keeps n before s mine m ≡ true → length (method_bytes m) ≤ method_weight m
method_size n before s mine m h t =
    let k = method_kept n before s mine m t in
    let few = leb-true (length m.params) max_params k.few_params in
    let name = two_bytes m.name (omega (arith, leb-true m.name max_name k.name)) in
    let params = plain_size type_bytes 1 1 (type_exists n) (λ x. type_size n x h) m.params k.params (one_byte _ (omega arith)) in
    let height = one_byte m.height (omega (arith, leb-true m.height max_height k.height)) in
    let extras = one_byte m.extras (omega (arith, leb-true (1 + length m.params + m.extras) max_registers k.registers)) in
    let fits = code_fits (program_code before + count_code mine) (length m.code) k.code_fits in
    let few_handlers = leb-true (program_handlers before + count_handlers mine + length m.handlers) max_handlers k.handlers_fit in
    let code = plain_size instr_bytes instr_most 2 instr_keeps instr_size m.code k.code (two_bytes _ (omega (arith, fits.1))) in
    let handlers = plain_size handler_bytes handler_most 1 handler_keeps handler_size m.handlers k.handlers (one_byte _ (omega arith)) in
    let all =
    both (bytes m.name) _ 2 _ name (both (counted_bytes type_bytes m.params) _ 9 _ (omega arith)
    (both (type_bytes m.result) _ 1 _ (type_size n m.result h k.result) (both (bytes m.height) _ 1 _ height
    (both (bytes m.extras) _ 1 _ extras (both (counted_bytes instr_bytes m.code) _ _ _ code handlers))))) in
    omega arith

weigh_methods : (ms : List MethodDecl) → weigh method_weight ms ≡ method_most * length ms + (instr_most * count_code ms + handler_most * count_handlers ms)
unfolding weigh
weigh_methods [] = refl
weigh_methods (m ∷ ms) = rw (weigh_methods ms) (omega arith)

weigh_classes : (cs : Program) → weigh class_weight cs ≡ class_most * length cs + (method_most * count_methods cs + (instr_most * program_code cs + handler_most * program_handlers cs))
unfolding weigh
weigh_classes [] = refl
weigh_classes (c ∷ cs) = rw (weigh_classes cs) (omega arith)

class_size : (n : ℕ) (before : Program) (c : ClassDecl) → n ≤ 32 → length before ≤ max_classes → class_keeps n before c ≡ true → length (class_bytes c) ≤ class_weight c
class_size n before c h l t =
    let k = class_kept n before c t in
    let few_fields = leb-true (length (fields_of before c.superclass) + length c.fields) max_fields k.fields_fit in
    let few_methods = leb-true (count_methods before + length c.methods) max_methods k.methods_fit in
    let super = one_byte c.superclass (omega (arith, ltb-true c.superclass (length (table before)) k.superclass)) in
    let fields = counted_size field_bytes field_most 1 (field_keeps n) (λ mine f. field_size n mine f h) c.fields k.fields (one_byte _ (omega arith)) in
    let methods = joined_size method_bytes method_weight (method_keeps n before c.superclass) (λ mine m. method_size n before c.superclass mine m h) [] c.methods k.methods in
    let all =
    both (bytes c.superclass) _ 1 _ super (both (counted_bytes field_bytes c.fields) _ 25 _ (omega arith)
    (both (bytes (length c.methods)) _ 1 _ (one_byte _ (omega arith)) methods)) in
    omega (arith, weigh_methods c.methods)

-- one more method, one more class
module _ (m : MethodDecl) where
  code_push : (ms : List MethodDecl) → count_code (ms ++ m ∷ []) ≡ count_code ms + length m.code
  code_push [] = omega arith
  code_push (x ∷ xs) = rw (code_push xs) (omega arith)

  handlers_push : (ms : List MethodDecl) → count_handlers (ms ++ m ∷ []) ≡ count_handlers ms + length m.handlers
  handlers_push [] = omega arith
  handlers_push (x ∷ xs) = rw (handlers_push xs) (omega arith)

module _ (c : ClassDecl) where
  methods_push : (cs : Program) → count_methods (cs ++ c ∷ []) ≡ count_methods cs + length c.methods
  methods_push [] = omega arith
  methods_push (x ∷ xs) = rw (methods_push xs) (omega arith)

  all_code_push : (cs : Program) → program_code (cs ++ c ∷ []) ≡ program_code cs + count_code c.methods
  all_code_push [] = omega arith
  all_code_push (x ∷ xs) = rw (all_code_push xs) (omega arith)

  all_handlers_push : (cs : Program) → program_handlers (cs ++ c ∷ []) ≡ program_handlers cs + count_handlers c.methods
  all_handlers_push [] = omega arith
  all_handlers_push (x ∷ xs) = rw (all_handlers_push xs) (omega arith)

-- what methods have, behind the methods `mine` of their class and the classes `before`
methods_have : (n : ℕ) (before : Program) (s : ℕ) (mine ms : List MethodDecl) → each_after (method_keeps n before s) mine ms ≡ true
    → program_code before + count_code mine ≤ max_instrs → program_handlers before + count_handlers mine ≤ max_handlers
    → (program_code before + (count_code mine + count_code ms) ≤ max_instrs) × (program_handlers before + (count_handlers mine + count_handlers ms) ≤ max_handlers)
methods_have n before s mine [] t a b = (omega arith, omega arith)
methods_have n before s mine (m ∷ ms) t a b =
    let u = and_parts (method_keeps n before s mine m) _ t in
    let k = method_kept n before s mine m u.0 in
    let fits = code_fits (program_code before + count_code mine) (length m.code) k.code_fits in
    let few = leb-true (program_handlers before + count_handlers mine + length m.handlers) max_handlers k.handlers_fit in
    let rest =
    methods_have n before s (mine ++ m ∷ []) ms u.1 (rw (code_push m mine) (omega (arith, fits.2))) (rw (handlers_push m mine) (omega arith)) in
    (omega (arith, rest.0, code_push m mine), omega (arith, rest.1, handlers_push m mine))

-- what a program has
record Few (cs : Program) : Type 0 where
  methods : count_methods cs ≤ max_methods
  code : program_code cs ≤ max_instrs
  handlers : program_handlers cs ≤ max_handlers

classes_have : (n : ℕ) (before cs : Program) → each_after (class_keeps n) before cs ≡ true → Few before → Few (before ++ cs)
classes_have n before [] t f = subst Few (sym (append-nil before)) f
classes_have n before (c ∷ cs) t f =
    let u = and_parts (class_keeps n before c) _ t in
    let k = class_kept n before c u.0 in
    let few = leb-true (count_methods before + length c.methods) max_methods k.methods_fit in
    let have = methods_have n before c.superclass [] c.methods k.methods (omega (arith, f.code)) (omega (arith, f.handlers)) in
    let more : Few (before ++ c ∷ []) =
    record {
      methods = omega (arith, methods_push c before);
      code = omega (arith, all_code_push c before, have.0);
      handlers = omega (arith, all_handlers_push c before, have.1);
    } in
    subst Few (append_assoc before (c ∷ []) cs) (classes_have n (before ++ c ∷ []) cs u.1 more)

pub at_longest : (P : Program) → keeps P ≡ true → length (encode P) ≤ longest_file
unfolding encode keeps
at_longest P t =
    let u = and_parts (leb (length P) max_classes) _ t in
    let l = leb-true (length P) max_classes u.0 in
    let few = classes_have (4 + length P) [] P u.1 (record { methods = omega arith; code = omega arith; handlers = omega arith }) in
    let classes =
    joined_size class_bytes class_weight (λ b c. leb (length b) max_classes && class_keeps (4 + length P) b c)
    (λ b c h. let v = and_parts (leb (length b) max_classes) _ h in class_size (4 + length P) b c (omega arith) (leb-true _ max_classes v.0) v.1) [] P
    (few_before (class_keeps (4 + length P)) P [] (omega arith) u.1) in
    let all = both (bytes (length P)) (flat_map class_bytes P) 1 _ (one_byte (length P) (omega arith)) classes in
    omega (arith, weigh_classes P, few.methods, few.code, few.handlers)
