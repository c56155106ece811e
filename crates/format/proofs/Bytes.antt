-- The numbers in an encoding are bytes.
use Rattle.std.proofs.Common.{◌≡◌, ℕ, zero, suc, ◌+◌, ◌*◌, ◌/◌, ◌^◌, ◌<◌, ◌≤◌, Bool, true, false, ◌&&◌, leb, List, [], ◌∷◌, ◌++◌, length, sym, ◌∙◌, inl, inr, mul_assoc, pow-suc, arith}
use Rattle.std.specs.List.{flat_map}
use Rattle.std.proofs.lemmas.Nat.{div_below}
use Rattle.std.proofs.ByRecursion.{All-append}
use Rattle.std.proofs.lemmas.Bool.{cases_lt, lt-ltb, le-ltb, leb-true, ltb-true, and_parts}
use Rattle.number.specs.Laws.{AllBytes}
use Rattle.number.specs.Numbers.{number_limit, bytes, bytes_by}
use Rattle.number.specs.Signed.{unsigned}
use Rattle.jinja.specs.declared.ty.Ty.{Ty}
use Rattle.jinja.specs.declared.instr.Literal.{Literal}
use Rattle.jinja.specs.declared.instr.Literal.TheVariants.{Unit, Null, Boolean, Integer}
use Rattle.jinja.specs.declared.instr.Instr.{Instr}
use Rattle.jinja.specs.declared.instr.Instr.TheVariants.{Load, Store, Push, Pop, New, Getfield, Putfield, Checkcast, Invoke, Return, IAdd, CmpEq, IfFalse, Goto, Throw}
use Rattle.jinja.specs.declared.program.Field.{Field}
use Rattle.jinja.specs.declared.program.Handler.{Handler}
use Rattle.jinja.specs.Program.{MethodDecl, ClassDecl, Program}
use Rattle.jinja.specs.Types.{type_number, type_exists}
use Rattle.format.specs.Limits.{max_classes, max_height, max_name, max_operand, max_handler_number, max_offset}
use Rattle.format.specs.Encode.{type_bytes, literal_bytes, instr_bytes, counted_bytes, field_bytes, handler_bytes, method_bytes, class_bytes, encode}
use Rattle.format.specs.Rules.{each, each_after, literal_keeps, instr_keeps, handler_keeps, field_keeps, method_keeps, class_keeps, keeps, program_code, count_code}
use Rattle.format.specs.Laws.{WrittenInBytes}
use Rattle.format.proofs.Numbers.{type_below}
use Rattle.format.proofs.Lists.{each_is_after}
use Rattle.format.proofs.Kept.{few_before, code_fits, handler_kept, field_kept, method_kept, class_kept}

plus : (d e : List ℕ) → AllBytes d → AllBytes e → AllBytes (d ++ e)
plus d e = All-append (λ b. b < 256) d e

groups_small : (k n : ℕ) → n < 16 * 128 ^ k → AllBytes (bytes_by k n)
groups_small zero n l = (omega arith, tt)
groups_small (suc k) n l = elim (cases_lt n 128) [
  | inl h ↦ rw (lt-ltb n 128 h) (omega arith, tt)
  | inr h ↦ rw (le-ltb n 128 h) (omega arith, groups_small k (n / 128) (div_below n 128 (16 * 128 ^ k) (omega arith) (omega (arith, pow-suc 128 k, mul_assoc 16 (128 ^ k) 128))))
]

number_small : (n : ℕ) → n < number_limit → AllBytes (bytes n)
unfolding bytes
number_small n l = groups_small 4 n (omega arith)

limited_small : (most n : ℕ) → most < number_limit → leb n most ≡ true → AllBytes (bytes n)
limited_small most n l h = number_small n (omega (arith, leb-true n most h))

type_small : (n : ℕ) (t : Ty) → 4 + n < number_limit → type_exists n t ≡ true → AllBytes (type_bytes t)
type_small n t l h = number_small (type_number t) (omega (arith, ltb-true _ _ (type_below n t ∙ h)))

-- a kind or a count in front
behind_small : (n : ℕ) (e : List ℕ) → n < number_limit → AllBytes e → AllBytes (bytes n ++ e)
behind_small n e l h = plus (bytes n) e (number_small n l) h

joined_small : {A : Type 0} (enc : A → List ℕ) (ok : List A → A → Bool) → ((acc : List A) (a : A) → ok acc a ≡ true → AllBytes (enc a)) → (xs acc : List A) → each_after ok acc xs ≡ true → AllBytes (flat_map enc xs)
joined_small enc ok law [] acc h = tt
joined_small enc ok law (x ∷ xs) acc h = let k = and_parts (ok acc x) _ h in plus (enc x) (flat_map enc xs) (law acc x k.0) (joined_small enc ok law xs (acc ++ x ∷ []) k.1)

list_small : {A : Type 0} (enc : A → List ℕ) (ok : List A → A → Bool) → ((acc : List A) (a : A) → ok acc a ≡ true → AllBytes (enc a)) → (xs : List A) → length xs < number_limit → each_after ok [] xs ≡ true → AllBytes (counted_bytes enc xs)
list_small enc ok law xs l h = behind_small (length xs) (flat_map enc xs) l (joined_small enc ok law xs [] h)

plain_list_small : {A : Type 0} (enc : A → List ℕ) (ok : A → Bool) → ((a : A) → ok a ≡ true → AllBytes (enc a)) → (xs : List A) → length xs < number_limit → each ok xs ≡ true → AllBytes (counted_bytes enc xs)
plain_list_small enc ok law xs l h = list_small enc (λ _. ok) (λ _. law) xs l (sym (each_is_after ok xs []) ∙ h)

literal_small : (v : Literal) → literal_keeps v ≡ true → AllBytes (literal_bytes v)
literal_small Unit h = number_small 0 (omega arith)
literal_small Null h = number_small 1 (omega arith)
literal_small (Boolean false) h = behind_small 2 (bytes 0) (omega arith) (number_small 0 (omega arith))
literal_small (Boolean true) h = behind_small 2 (bytes 1) (omega arith) (number_small 1 (omega arith))
literal_small (Integer z) h = behind_small 3 (bytes (unsigned z)) (omega arith) (number_small (unsigned z) (ltb-true _ _ h))

one_small : (kind most n : ℕ) → kind < number_limit → most < number_limit → leb n most ≡ true → AllBytes (bytes kind ++ bytes n)
one_small kind most n l m h = behind_small kind (bytes n) l (limited_small most n m h)

named_small : (kind f c : ℕ) → kind < number_limit → (leb f max_name && leb c max_operand) ≡ true → AllBytes (bytes kind ++ (bytes f ++ bytes c))
named_small kind f c l h =
    let k = and_parts (leb f max_name) (leb c max_operand) h in
    behind_small kind (bytes f ++ bytes c) l (plus (bytes f) (bytes c) (limited_small max_name f (omega arith) k.0) (limited_small max_operand c (omega arith) k.1))

instr_small : (i : Instr) → instr_keeps i ≡ true → AllBytes (instr_bytes i)
instr_small (Load n) h = one_small 0 max_operand n (omega arith) (omega arith) h
instr_small (Store n) h = one_small 1 max_operand n (omega arith) (omega arith) h
instr_small (Push v) h = behind_small 2 (literal_bytes v) (omega arith) (literal_small v h)
instr_small Pop h = number_small 3 (omega arith)
instr_small (New c) h = one_small 4 max_operand c (omega arith) (omega arith) h
instr_small (Getfield f c) h = named_small 5 f c (omega arith) h
instr_small (Putfield f c) h = named_small 6 f c (omega arith) h
instr_small (Checkcast c) h = one_small 7 max_operand c (omega arith) (omega arith) h
instr_small (Invoke m n) h = named_small 8 m n (omega arith) h
instr_small Return h = number_small 9 (omega arith)
instr_small IAdd h = number_small 10 (omega arith)
instr_small CmpEq h = number_small 11 (omega arith)
instr_small (IfFalse z) h = one_small 12 max_offset (unsigned z) (omega arith) (omega arith) h
instr_small (Goto z) h = one_small 13 max_offset (unsigned z) (omega arith) (omega arith) h
instr_small Throw h = number_small 14 (omega arith)

handler_small : (h : Handler) → handler_keeps h ≡ true → AllBytes (handler_bytes h)
handler_small h hk =
    let k = handler_kept h hk in
    plus _ _ (limited_small max_handler_number h.first (omega arith) k.first)
    (plus _ _ (limited_small max_handler_number h.end (omega arith) k.end)
    (plus _ _ (limited_small max_operand h.class (omega arith) k.class)
    (plus _ _ (limited_small max_handler_number h.target (omega arith) k.target) (limited_small max_handler_number h.depth (omega arith) k.depth))))

field_small : (n : ℕ) → 4 + n < number_limit → (mine : List Field) (f : Field) → field_keeps n mine f ≡ true → AllBytes (field_bytes f)
field_small n l mine f fk = let k = field_kept n mine f fk in plus _ _ (limited_small max_name f.name (omega arith) k.name) (type_small n f.ty l k.exists)

method_small : (n : ℕ) → 4 + n < number_limit → (before : Program) (s : ℕ) (mine : List MethodDecl) (m : MethodDecl) → method_keeps n before s mine m ≡ true → AllBytes (method_bytes m)
method_small n l before s mine m mk =
    let k = method_kept n before s mine m mk in
    plus _ _ (limited_small max_name m.name (omega arith) k.name)
    (plus _ _ (plain_list_small type_bytes (type_exists n) (λ t h. type_small n t l h) m.params (omega (arith, leb-true _ _ k.few_params)) k.params)
    (plus _ _ (type_small n m.result l k.result)
    (plus _ _ (limited_small max_height m.height (omega arith) k.height)
    (plus _ _ (number_small m.extras (omega (arith, leb-true _ _ k.registers)))
    (plus _ _ (plain_list_small instr_bytes instr_keeps instr_small m.code (omega (arith, code_fits (program_code before + count_code mine) (length m.code) k.code_fits)) k.code)
    (plain_list_small handler_bytes handler_keeps handler_small m.handlers (omega (arith, leb-true _ _ k.handlers_fit)) k.handlers))))))

class_small : (n : ℕ) → 4 + n < number_limit → (before : Program) (c : ClassDecl) → length before ≤ max_classes → class_keeps n before c ≡ true → AllBytes (class_bytes c)
class_small n l before c few ck =
    let k = class_kept n before c ck in
    plus _ _ (number_small c.superclass (omega (arith, ltb-true _ _ k.superclass)))
    (plus _ _ (list_small field_bytes (field_keeps n) (field_small n l) c.fields (omega (arith, leb-true _ _ k.fields_fit)) k.fields)
    (list_small method_bytes (method_keeps n before c.superclass) (method_small n l before c.superclass) c.methods (omega (arith, leb-true _ _ k.methods_fit)) k.methods))

pub written_in_bytes : WrittenInBytes
unfolding encode keeps
written_in_bytes P k =
    let n = 4 + length P in
    let h = and_parts (leb (length P) max_classes) _ k in
    let few = leb-true _ _ h.0 in
    list_small class_bytes (λ b c. leb (length b) max_classes && class_keeps n b c)
    (λ acc c ok. (let t = and_parts (leb (length acc) max_classes) (class_keeps n acc c) ok in class_small n (omega arith) acc c (leb-true _ _ t.0) t.1)) P (omega arith) (few_before (class_keeps n) P [] (omega arith) h.1)
