-- Literals and instructions in a file: each shape of operands once, over the constructor.
use Rattle.std.proofs.Common.{◌≡◌, ℕ, ◌<◌, Bool, true, false, cond, ◌&&◌, eqb, leb, List, ◌++◌, ℤ, Ok, refl, ap, inl, inr, arith}
use Rattle.std.proofs.lemmas.Bool.{cases_eq, eq-eqb, ne_eqb, lt-ltb, ltb-true, and_parts, and_from}
use Rattle.number.specs.Laws.{AllBytes}
use Rattle.number.specs.Numbers.{number_limit, bytes}
use Rattle.number.specs.Signed.{unsigned, signed}
use Rattle.number.proofs.Signs.{signed_unsigned, unsigned_signed}
use Rattle.jinja.specs.declared.instr.Literal.{Literal}
use Rattle.jinja.specs.declared.instr.Literal.TheVariants.{Unit, Null, Boolean, Integer}
use Rattle.jinja.specs.declared.instr.Instr.{Instr}
use Rattle.jinja.specs.declared.instr.Instr.TheVariants.{Load, Store, Push, Pop, New, Getfield, Putfield, Checkcast, Invoke, Return, IAdd, CmpEq, IfFalse, Goto, Throw}
use Rattle.format.specs.Limits.{max_name, max_operand, max_offset}
use Rattle.format.specs.Encode.{literal_bytes, instr_bytes}
use Rattle.format.specs.Rules.{literal_keeps, instr_keeps}
use Rattle.format.specs.Reading.{Read, then, any_at, at_most}
use Rattle.format.specs.Parse.{boolean_at, literal_of, literal_at, one, named, jump, operands_of, instr_at}
use Rattle.format.proofs.Steps.{Stands, given, both, split, then_ok, then_by, then_from}
use Rattle.format.proofs.Numbers.{any_reads, at_most_reads, any_wrote, at_most_wrote}

module _ (file : List ℕ) where
  -- a kind in front of the rest
  kind_reads : {A : Type 0} (of : ℕ → ℕ → Read A) (a : A) (kind p q : ℕ) (e : List ℕ) → kind < number_limit → ((r : ℕ) → Stands file r q e → of kind r ≡ Ok (a, q)) → Stands file p q (bytes kind ++ e) → then (any_at file p) of ≡ Ok (a, q)
  kind_reads of a kind p q e low law s =
      let w = split file p q (bytes kind) e s in
      then_from (any_at file p) of kind w.0 _ (any_reads file p w.0 kind low w.1) (law w.0 w.2)

  -- a kind alone
  lone_reads : {A : Type 0} (of : ℕ → ℕ → Read A) (a : A) (kind p q : ℕ) → kind < number_limit → of kind q ≡ Ok (a, q) → Stands file p q (bytes kind) → then (any_at file p) of ≡ Ok (a, q)
  lone_reads of a kind p q low law s = then_from (any_at file p) of kind q _ (any_reads file p q kind low s) law

  one_reads : (make : ℕ → Instr) (n r q : ℕ) → leb n max_operand ≡ true → Stands file r q (bytes n) → one file make r ≡ Ok (make n, q)
  one_reads make n r q h s = then_from (at_most file max_operand r) _ n q _ (at_most_reads file max_operand r q n (omega arith) h s) refl

  named_reads : (make : ℕ → ℕ → Instr) (f c r q : ℕ) → (leb f max_name && leb c max_operand) ≡ true → Stands file r q (bytes f ++ bytes c) → named file make r ≡ Ok (make f c, q)
  named_reads make f c r q h s =
      let k = and_parts (leb f max_name) (leb c max_operand) h in
      let w = split file r q (bytes f) (bytes c) s in
      then_from (at_most file max_name r) _ f w.0 _ (at_most_reads file max_name r w.0 f (omega arith) k.0 w.1) (one_reads (make f) c w.0 q k.1 w.2)

  jump_reads : (make : ℤ → Instr) (z : ℤ) (r q : ℕ) → leb (unsigned z) max_offset ≡ true → Stands file r q (bytes (unsigned z)) → jump file make r ≡ Ok (make z, q)
  jump_reads make z r q h s =
      then_from (at_most file max_offset r) _ (unsigned z) q _ (at_most_reads file max_offset r q (unsigned z) (omega arith) h s) (ap (λ y. Ok (make y, q)) (signed_unsigned z))

  boolean_reads : (b : Bool) (k p q : ℕ) → ((r : ℕ) → Stands file r q (bytes k) → boolean_at file r ≡ Ok (b, q)) → Stands file p q (bytes 2 ++ bytes k) → literal_at file p ≡ Ok (Boolean b, q)
  boolean_reads b k p q law s = kind_reads (literal_of file p) (Boolean b) 2 p q (bytes k) (omega arith) (λ r t. then_from (boolean_at file r) _ b q _ (law r t) refl) s

  literal_reads : (v : Literal) (p q : ℕ) → literal_keeps v ≡ true → Stands file p q (literal_bytes v) → literal_at file p ≡ Ok (v, q)
  literal_reads Unit p q h s = lone_reads (literal_of file p) Unit 0 p q (omega arith) refl s
  literal_reads Null p q h s = lone_reads (literal_of file p) Null 1 p q (omega arith) refl s
  literal_reads (Boolean false) p q h s = boolean_reads false 0 p q (λ r t. lone_reads _ false 0 r q (omega arith) refl t) s
  literal_reads (Boolean true) p q h s = boolean_reads true 1 p q (λ r t. lone_reads _ true 1 r q (omega arith) refl t) s
  literal_reads (Integer z) p q h s =
      kind_reads (literal_of file p) (Integer z) 3 p q (bytes (unsigned z)) (omega arith)
      (λ r t. then_from (any_at file r) _ (unsigned z) q _ (any_reads file r q (unsigned z) (ltb-true _ _ h) t) (ap (λ y. Ok (Integer y, q)) (signed_unsigned z))) s

  pub instr_reads : (i : Instr) (p q : ℕ) → instr_keeps i ≡ true → Stands file p q (instr_bytes i) → instr_at file p ≡ Ok (i, q)
  instr_reads (Load n) p q h s = kind_reads (operands_of file p) (Load n) 0 p q (bytes n) (omega arith) (λ r t. one_reads Load n r q h t) s
  instr_reads (Store n) p q h s = kind_reads (operands_of file p) (Store n) 1 p q (bytes n) (omega arith) (λ r t. one_reads Store n r q h t) s
  instr_reads (Push v) p q h s =
      kind_reads (operands_of file p) (Push v) 2 p q (literal_bytes v) (omega arith) (λ r t. then_from (literal_at file r) _ v q _ (literal_reads v r q h t) refl) s
  instr_reads Pop p q h s = lone_reads (operands_of file p) Pop 3 p q (omega arith) refl s
  instr_reads (New c) p q h s = kind_reads (operands_of file p) (New c) 4 p q (bytes c) (omega arith) (λ r t. one_reads New c r q h t) s
  instr_reads (Getfield f c) p q h s = kind_reads (operands_of file p) (Getfield f c) 5 p q (bytes f ++ bytes c) (omega arith) (λ r t. named_reads Getfield f c r q h t) s
  instr_reads (Putfield f c) p q h s = kind_reads (operands_of file p) (Putfield f c) 6 p q (bytes f ++ bytes c) (omega arith) (λ r t. named_reads Putfield f c r q h t) s
  instr_reads (Checkcast c) p q h s = kind_reads (operands_of file p) (Checkcast c) 7 p q (bytes c) (omega arith) (λ r t. one_reads Checkcast c r q h t) s
  instr_reads (Invoke m n) p q h s = kind_reads (operands_of file p) (Invoke m n) 8 p q (bytes m ++ bytes n) (omega arith) (λ r t. named_reads Invoke m n r q h t) s
  instr_reads Return p q h s = lone_reads (operands_of file p) Return 9 p q (omega arith) refl s
  instr_reads IAdd p q h s = lone_reads (operands_of file p) IAdd 10 p q (omega arith) refl s
  instr_reads CmpEq p q h s = lone_reads (operands_of file p) CmpEq 11 p q (omega arith) refl s
  instr_reads (IfFalse z) p q h s = kind_reads (operands_of file p) (IfFalse z) 12 p q (bytes (unsigned z)) (omega arith) (λ r t. jump_reads IfFalse z r q h t) s
  instr_reads (Goto z) p q h s = kind_reads (operands_of file p) (Goto z) 13 p q (bytes (unsigned z)) (omega arith) (λ r t. jump_reads Goto z r q h t) s
  instr_reads Throw p q h s = lone_reads (operands_of file p) Throw 14 p q (omega arith) refl s

-- the kind is n, or another
choose : {A G : Type 0} (k n : ℕ) {x y z : Read A} → cond (eqb k n) x y ≡ z → (k ≡ n → x ≡ z → G) → (y ≡ z → G) → G
choose k n e here other = elim (cases_eq k n) [ inl h ↦ here h (rw (eq-eqb k n h) at e) | inr h ↦ other (rw (ne_eqb k n h) at e) ]

module _ (file : List ℕ) (small : AllBytes file) where
  abbrev LiteralWrote : ℕ → Literal → ℕ → Type 0
  LiteralWrote p v q = (literal_keeps v ≡ true) × Stands file p q (literal_bytes v)

  abbrev Wrote : ℕ → Instr → ℕ → Type 0
  Wrote p i q = (instr_keeps i ≡ true) × Stands file p q (instr_bytes i)

  boolean_wrote : (p r q : ℕ) (b : Bool) → Stands file p r (bytes 2) → boolean_at file r ≡ Ok (b, q) → LiteralWrote p (Boolean b) q
  boolean_wrote p r q b s h =
      let w = then_ok (any_at file r) _ b q h in
      let t = (any_wrote file small r w.1 w.0 w.2).1 in
      let at : (n : ℕ) → w.0 ≡ n → Stands file p w.1 (bytes 2 ++ bytes n) = λ n e. both file p r w.1 (bytes 2) (bytes n) s (rw e at t) in
      let Boolean_wrote : Bool → ℕ → Type 0 = λ b q. LiteralWrote p (Boolean b) q in
      choose w.0 0 w.3 (λ k e. given Boolean_wrote false b w.1 q e (refl, at 0 k)) (λ h.
      choose w.0 1 h (λ k e. given Boolean_wrote true b w.1 q e (refl, at 1 k)) (λ h.
      cc))

  integer_wrote : (p r q n : ℕ) → Stands file p r (bytes 3) → any_at file r ≡ Ok (n, q) → LiteralWrote p (Integer (signed n)) q
  integer_wrote p r q n s h =
      let t = any_wrote file small r q n h in
      let e = unsigned_signed n in
      (lt-ltb _ _ (rw e t.0), both file p r q (bytes 3) (bytes (unsigned (signed n))) s (rw e t.1))

  literal_wrote : (p q : ℕ) (v : Literal) → literal_at file p ≡ Ok (v, q) → LiteralWrote p v q
  literal_wrote p q v h =
      let w = then_ok (any_at file p) (literal_of file p) v q h in
      let r = w.1 in
      let s = (any_wrote file small p r w.0 w.2).1 in
      let at : (n : ℕ) → w.0 ≡ n → Stands file p r (bytes n) = λ n e. rw e at s in
      choose w.0 0 w.3 (λ k e. given (LiteralWrote p) Unit v r q e (refl, at 0 k)) (λ h.
      choose w.0 1 h (λ k e. given (LiteralWrote p) Null v r q e (refl, at 1 k)) (λ h.
      choose w.0 2 h (λ k e. then_by (boolean_at file r) _ v q e (λ b t f g. given (LiteralWrote p) (Boolean b) v t q g (boolean_wrote p r t b (at 2 k) f))) (λ h.
      choose w.0 3 h (λ k e. then_by (any_at file r) _ v q e (λ n t f g. given (LiteralWrote p) (Integer (signed n)) v t q g (integer_wrote p r t n (at 3 k) f))) (λ h.
      cc))))

  -- what was read behind an instruction's kind at p
  one_wrote : (make : ℕ → Instr) (p r q : ℕ) (i : Instr) → ((n t : ℕ) → leb n max_operand ≡ true → Stands file r t (bytes n) → Wrote p (make n) t) → one file make r ≡ Ok (i, q) → Wrote p i q
  one_wrote make p r q i law h =
      let w = then_ok (at_most file max_operand r) _ i q h in
      let u = at_most_wrote file small max_operand r w.1 w.0 w.2 in
      given (Wrote p) (make w.0) i w.1 q w.3 (law w.0 w.1 u.0 u.1)

  named_wrote : (make : ℕ → ℕ → Instr) (p r q : ℕ) (i : Instr)
      → ((f c t : ℕ) → (leb f max_name && leb c max_operand) ≡ true → Stands file r t (bytes f ++ bytes c) → Wrote p (make f c) t) → named file make r ≡ Ok (i, q) → Wrote p i q
  named_wrote make p r q i law h =
      let w = then_ok (at_most file max_name r) _ i q h in
      let u = at_most_wrote file small max_name r w.1 w.0 w.2 in
      one_wrote (make w.0) p w.1 q i (λ c t k v. law w.0 c t (and_from (leb w.0 max_name) (leb c max_operand) u.0 k) (both file r w.1 t (bytes w.0) (bytes c) u.1 v)) w.3

  jump_wrote : (make : ℤ → Instr) (p r q : ℕ) (i : Instr)
      → ((z : ℤ) (t : ℕ) → leb (unsigned z) max_offset ≡ true → Stands file r t (bytes (unsigned z)) → Wrote p (make z) t) → jump file make r ≡ Ok (i, q) → Wrote p i q
  jump_wrote make p r q i law h =
      let w = then_ok (at_most file max_offset r) _ i q h in
      let u = at_most_wrote file small max_offset r w.1 w.0 w.2 in
      let e = unsigned_signed w.0 in
      given (Wrote p) (make (signed w.0)) i w.1 q w.3 (law (signed w.0) w.1 (rw e u.0) (rw e u.1))

  pub instr_wrote : (p q : ℕ) (i : Instr) → instr_at file p ≡ Ok (i, q) → Wrote p i q
  instr_wrote p q i h =
      let w = then_ok (any_at file p) (operands_of file p) i q h in
      let r = w.1 in
      let s = (any_wrote file small p r w.0 w.2).1 in
      let at : (n : ℕ) → w.0 ≡ n → Stands file p r (bytes n) = λ n e. rw e at s in
      let lead : (n t : ℕ) (e : List ℕ) → w.0 ≡ n → Stands file r t e → Stands file p t (bytes n ++ e) = λ n t e k. both file p r t (bytes n) e (at n k) in
      choose w.0 0 w.3 (λ k. one_wrote Load p r q i (λ n t l u. (l, lead 0 t (bytes n) k u))) (λ h.
      choose w.0 1 h (λ k. one_wrote Store p r q i (λ n t l u. (l, lead 1 t (bytes n) k u))) (λ h.
      choose w.0 2 h (λ k e. then_by (literal_at file r) _ i q e (λ v t f g. (let u = literal_wrote r t v f in given (Wrote p) (Push v) i t q g (u.0, lead 2 t (literal_bytes v) k u.1)))) (λ h.
      choose w.0 3 h (λ k e. given (Wrote p) Pop i r q e (refl, at 3 k)) (λ h.
      choose w.0 4 h (λ k. one_wrote New p r q i (λ n t l u. (l, lead 4 t (bytes n) k u))) (λ h.
      choose w.0 5 h (λ k. named_wrote Getfield p r q i (λ m n t l u. (l, lead 5 t (bytes m ++ bytes n) k u))) (λ h.
      choose w.0 6 h (λ k. named_wrote Putfield p r q i (λ m n t l u. (l, lead 6 t (bytes m ++ bytes n) k u))) (λ h.
      choose w.0 7 h (λ k. one_wrote Checkcast p r q i (λ n t l u. (l, lead 7 t (bytes n) k u))) (λ h.
      choose w.0 8 h (λ k. named_wrote Invoke p r q i (λ m n t l u. (l, lead 8 t (bytes m ++ bytes n) k u))) (λ h.
      choose w.0 9 h (λ k e. given (Wrote p) Return i r q e (refl, at 9 k)) (λ h.
      choose w.0 10 h (λ k e. given (Wrote p) IAdd i r q e (refl, at 10 k)) (λ h.
      choose w.0 11 h (λ k e. given (Wrote p) CmpEq i r q e (refl, at 11 k)) (λ h.
      choose w.0 12 h (λ k. jump_wrote IfFalse p r q i (λ z t l u. (l, lead 12 t (bytes (unsigned z)) k u))) (λ h.
      choose w.0 13 h (λ k. jump_wrote Goto p r q i (λ z t l u. (l, lead 13 t (bytes (unsigned z)) k u))) (λ h.
      choose w.0 14 h (λ k e. given (Wrote p) Throw i r q e (refl, at 14 k)) (λ h.
      cc)))))))))))))))
