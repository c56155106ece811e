-- How many bytes the parts of a program have that keep the rules.
use Rattle.std.proofs.Common.{◌≡◌, ℕ, zero, suc, ◌+◌, ◌/◌, ◌<◌, ◌≤◌, Bool, true, false, cond, ◌&&◌, ltb, leb, List, [], ◌∷◌, ◌++◌, length, ◌∙◌, arith}
use Rattle.std.proofs.lemmas.List.{length-append}
use Rattle.std.proofs.lemmas.Bool.{lt-ltb, ltb-true, leb-true, and_parts}
use Rattle.number.specs.Numbers.{bytes, bytes_by}
use Rattle.number.specs.Signed.{unsigned}
use Rattle.jinja.specs.declared.ty.Ty.{Ty}
use Rattle.jinja.specs.declared.instr.Literal.{Literal}
use Rattle.jinja.specs.declared.instr.Literal.TheVariants.{Unit, Null, Boolean, Integer}
use Rattle.jinja.specs.declared.instr.Instr.{Instr}
use Rattle.jinja.specs.declared.instr.Instr.TheVariants.{Load, Store, Push, Pop, New, Getfield, Putfield, Checkcast, Invoke, Return, IAdd, CmpEq, IfFalse, Goto, Throw}
use Rattle.jinja.specs.declared.program.Field.{Field}
use Rattle.jinja.specs.declared.program.Handler.{Handler}
use Rattle.jinja.specs.Types.{type_number, type_exists}
use Rattle.format.specs.Encode.{type_bytes, literal_bytes, instr_bytes, field_bytes, handler_bytes}
use Rattle.format.specs.Rules.{instr_keeps, handler_keeps, field_keeps}
use Rattle.format.proofs.Kept.{handler_kept, field_kept}
use Rattle.format.proofs.Numbers.{type_below}
use Rattle.writer.specs.Longest.{field_most, instr_most, handler_most}

cond_at_most : (b : Bool) (xs ys : List ℕ) (most : ℕ) → length xs ≤ most → length ys ≤ most → length (cond b xs ys) ≤ most
cond_at_most true xs ys most h l = h
cond_at_most false xs ys most h l = l

groups : (k n : ℕ) → length (bytes_by k n) ≤ k + 1
groups zero n = omega arith
groups (suc k) n = cond_at_most (ltb n 128) (n ∷ []) _ (suc k + 1) (omega arith) (omega (arith, groups k (n / 128)))

one_group : (k n : ℕ) → n < 128 → length (bytes_by k n) ≤ 1
one_group zero n h = omega arith
one_group (suc k) n h = rw (lt-ltb n 128 h) (omega arith)

pub five_bytes : (n : ℕ) → length (bytes n) ≤ 5
unfolding bytes
five_bytes n = groups 4 n

pub one_byte : (n : ℕ) → n < 128 → length (bytes n) ≤ 1
unfolding bytes
one_byte n h = one_group 4 n h

pub two_bytes : (n : ℕ) → n < 16384 → length (bytes n) ≤ 2
unfolding bytes
two_bytes n h = cond_at_most (ltb n 128) (n ∷ []) _ 2 (omega arith) (omega (arith, one_group 3 (n / 128) (omega arith)))

-- what is at most 512
up_to : (n most : ℕ) → leb n most ≡ true → most ≤ 512 → length (bytes n) ≤ 2
up_to n most k h = two_bytes n (omega (arith, leb-true n most k))

-- two parts, one behind the other
pub both : (xs ys : List ℕ) (a b : ℕ) → length xs ≤ a → length ys ≤ b → length (xs ++ ys) ≤ a + b
both xs ys a b h l = rw (length-append xs ys) (omega arith)

pub type_size : (n : ℕ) (t : Ty) → n ≤ 32 → type_exists n t ≡ true → length (type_bytes t) ≤ 1
type_size n t h k = one_byte (type_number t) (omega (arith, ltb-true (type_number t) (4 + n) (type_below n t ∙ k)))

literal_size : (v : Literal) → length (literal_bytes v) ≤ 6
literal_size Unit = omega (arith, five_bytes 0)
literal_size Null = omega (arith, five_bytes 1)
literal_size (Boolean false) = both _ _ 1 5 (one_byte 2 (omega arith)) (five_bytes 0)
literal_size (Boolean true) = both _ _ 1 5 (one_byte 2 (omega arith)) (five_bytes 1)
literal_size (Integer z) = both _ _ 1 5 (one_byte 3 (omega arith)) (five_bytes (unsigned z))

-- an instruction of one operand, and of two
one_operand : (i n : ℕ) → i < 128 → length (bytes i ++ bytes n) ≤ instr_most
one_operand i n h = rw (length-append (bytes i) (bytes n)) (omega (arith, one_byte i h, five_bytes n))

two_operands : (i a b : ℕ) → i < 128 → (leb a 255 && leb b 255) ≡ true → length (bytes i ++ (bytes a ++ bytes b)) ≤ instr_most
two_operands i a b h k =
    let t = and_parts (leb a 255) (leb b 255) k in
    rw (length-append (bytes i) (bytes a ++ bytes b), length-append (bytes a) (bytes b)) (omega (arith, one_byte i h, up_to a 255 t.0 (omega arith), up_to b 255 t.1 (omega arith)))

pub instr_size : (x : Instr) → instr_keeps x ≡ true → length (instr_bytes x) ≤ instr_most
instr_size (Load n) k = one_operand 0 n (omega arith)
instr_size (Store n) k = one_operand 1 n (omega arith)
instr_size (Push v) k = both _ _ 1 6 (one_byte 2 (omega arith)) (literal_size v)
instr_size Pop k = omega (arith, five_bytes 3)
instr_size (New c) k = one_operand 4 c (omega arith)
instr_size (Getfield f c) k = two_operands 5 f c (omega arith) k
instr_size (Putfield f c) k = two_operands 6 f c (omega arith) k
instr_size (Checkcast c) k = one_operand 7 c (omega arith)
instr_size (Invoke m n) k = two_operands 8 m n (omega arith) k
instr_size Return k = omega (arith, five_bytes 9)
instr_size IAdd k = omega (arith, five_bytes 10)
instr_size CmpEq k = omega (arith, five_bytes 11)
instr_size (IfFalse z) k = one_operand 12 (unsigned z) (omega arith)
instr_size (Goto z) k = one_operand 13 (unsigned z) (omega arith)
instr_size Throw k = omega (arith, five_bytes 14)

pub field_size : (n : ℕ) (mine : List Field) (f : Field) → n ≤ 32 → field_keeps n mine f ≡ true → length (field_bytes f) ≤ field_most
field_size n mine f h k =
    let t = field_kept n mine f k in
    both _ _ 2 1 (up_to f.name 255 t.name (omega arith)) (type_size n f.ty h t.exists)

pub handler_size : (h : Handler) → handler_keeps h ≡ true → length (handler_bytes h) ≤ handler_most
handler_size h k =
    let t = handler_kept h k in
    both _ _ 2 8 (up_to h.first 256 t.first (omega arith))
    (both _ _ 2 6 (up_to h.end 256 t.end (omega arith))
    (both _ _ 2 4 (up_to h.class 255 t.class (omega arith))
    (both _ _ 2 2 (up_to h.target 256 t.target (omega arith)) (up_to h.depth 256 t.depth (omega arith)))))
