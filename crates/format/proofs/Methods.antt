-- Handlers, parameters and methods in a file.
use Rattle.std.proofs.Common.{◌≡◌, ℕ, ◌+◌, ◌<◌, true, leb, List, length, Ok, sym, refl, ◌∙◌, arith}
use Rattle.std.proofs.lemmas.Bool.{leb-true}
use Rattle.number.specs.Laws.{AllBytes}
use Rattle.number.specs.Numbers.{number_limit, bytes}
use Rattle.jinja.specs.declared.ty.Ty.{Ty}
use Rattle.jinja.specs.declared.instr.Instr.{Instr}
use Rattle.jinja.specs.declared.program.Handler.{Handler}
use Rattle.jinja.specs.Program.{MethodDecl, Program}
use Rattle.jinja.specs.Types.{type_exists}
use Rattle.format.specs.Limits.{max_params, max_height, max_operand, max_handler_number}
use Rattle.format.specs.Encode.{type_bytes, instr_bytes, handler_bytes, counted_bytes, method_bytes}
use Rattle.format.specs.Rules.{each, method_name, instr_keeps, handler_keeps, method_keeps, override_keeps, registers_keep, code_keeps, handlers_keep, count_code, count_handlers, program_code, program_handlers}
use Rattle.format.specs.Reading.{any_at, at_most}
use Rattle.format.specs.Parse.{type_at, name_at, instr_at, handler_at, params_at, result_at, extras_at, code_at, handlers_at, method_at}
use Rattle.format.proofs.Steps.{Stands, given, both, split, then_ok, then_by, then_from, checked_ok, checked_from}
use Rattle.format.proofs.Lists.{at_most_list, plain_list_reads, plain_list_wrote}
use Rattle.format.proofs.Kept.{code_fits, handler_kept, kept_handler, method_kept, kept_method}
use Rattle.format.proofs.Numbers.{any_reads, at_most_reads, name_reads, type_reads, any_wrote, at_most_wrote, name_wrote, type_wrote}
use Rattle.format.proofs.Instrs.{instr_reads, instr_wrote}

module _ (file : List ℕ) where
  handler_reads : (h : Handler) (p q : ℕ) → handler_keeps h ≡ true → Stands file p q (handler_bytes h) → handler_at file p ≡ Ok (h, q)
  unfolding handler_at
  handler_reads h p q hk s =
      let k = handler_kept h hk in
      let w₁ = split file p q (bytes h.first) _ s in
      let w₂ = split file w₁.0 q (bytes h.end) _ w₁.2 in
      let w₃ = split file w₂.0 q (bytes h.class) _ w₂.2 in
      let w₄ = split file w₃.0 q (bytes h.target) _ w₃.2 in
      then_from _ _ h.first w₁.0 _ (at_most_reads file max_handler_number p w₁.0 h.first (omega arith) k.first w₁.1)
      (then_from _ _ h.end w₂.0 _ (at_most_reads file max_handler_number w₁.0 w₂.0 h.end (omega arith) k.end w₂.1)
      (then_from _ _ h.class w₃.0 _ (at_most_reads file max_operand w₂.0 w₃.0 h.class (omega arith) k.class w₃.1)
      (then_from _ _ h.target w₄.0 _ (at_most_reads file max_handler_number w₃.0 w₄.0 h.target (omega arith) k.target w₄.1)
      (then_from _ _ h.depth q _ (at_most_reads file max_handler_number w₄.0 q h.depth (omega arith) k.depth w₄.2) refl))))

  params_read : (n : ℕ) (ts : List Ty) (p q : ℕ) → 4 + n < number_limit → leb (length ts) max_params ≡ true → each (type_exists n) ts ≡ true → Stands file p q (counted_bytes type_bytes ts) → params_at file n p ≡ Ok (ts, q)
  params_read n ts p q l few kept s =
      at_most_list file (λ _. type_at file n) max_params p
      ∙ plain_list_reads file (type_at file n) type_bytes (type_exists n) (λ k. leb k max_params) (λ p q t. type_reads file n p q t l) ts p q (omega (arith, leb-true _ _ few)) few kept s

  result_reads : (n : ℕ) (before : Program) (s name : ℕ) (params : List Ty) (t : Ty) (p q : ℕ) → 4 + n < number_limit → type_exists n t ≡ true → override_keeps before s name params t ≡ true → Stands file p q (type_bytes t)
      → result_at file n before s name params p ≡ Ok (t, q)
  result_reads n before s name params t p q l ok over st = then_from _ _ t q _ (type_reads file n p q t l ok st) (checked_from _ _ _ _ over refl)

  extras_read : (params k p q : ℕ) → registers_keep params k ≡ true → Stands file p q (bytes k) → extras_at file params p ≡ Ok (k, q)
  extras_read params k p q h s = then_from _ _ k q _ (any_reads file p q k (omega (arith, leb-true _ _ h)) s) (checked_from _ _ _ _ h refl)

  code_reads : (used : ℕ) (code : List Instr) (p q : ℕ) → code_keeps used (length code) ≡ true → each instr_keeps code ≡ true → Stands file p q (counted_bytes instr_bytes code) → code_at file used p ≡ Ok (code, q)
  code_reads used code p q fits kept s =
      plain_list_reads file (instr_at file) instr_bytes instr_keeps (code_keeps used) (λ p q i. instr_reads file i p q) code p q (omega (arith, code_fits used (length code) fits)) fits kept s

  handlers_read : (used : ℕ) (hs : List Handler) (p q : ℕ) → handlers_keep used (length hs) ≡ true → each handler_keeps hs ≡ true → Stands file p q (counted_bytes handler_bytes hs) → handlers_at file used p ≡ Ok (hs, q)
  handlers_read used hs p q fits kept s =
      plain_list_reads file (handler_at file) handler_bytes handler_keeps (handlers_keep used) (λ p q h. handler_reads h p q) hs p q (omega (arith, leb-true _ _ fits)) fits kept s

  pub method_reads : (n : ℕ) (before : Program) (s : ℕ) → 4 + n < number_limit → (mine : List MethodDecl) (p q : ℕ) (m : MethodDecl) → method_keeps n before s mine m ≡ true → Stands file p q (method_bytes m)
      → method_at file n before s mine p ≡ Ok (m, q)
  unfolding method_at
  method_reads n before s l mine p q m mk st =
      let k = method_kept n before s mine m mk in
      let code = program_code before + count_code mine in
      let handlers = program_handlers before + count_handlers mine in
      let w₁ = split file p q (bytes m.name) _ st in
      let w₂ = split file w₁.0 q (counted_bytes type_bytes m.params) _ w₁.2 in
      let w₃ = split file w₂.0 q (type_bytes m.result) _ w₂.2 in
      let w₄ = split file w₃.0 q (bytes m.height) _ w₃.2 in
      let w₅ = split file w₄.0 q (bytes m.extras) _ w₄.2 in
      let w₆ = split file w₅.0 q (counted_bytes instr_bytes m.code) _ w₅.2 in
      then_from _ _ m.name w₁.0 _ (name_reads file method_name mine p w₁.0 m.name k.name k.fresh w₁.1)
      (then_from _ _ m.params w₂.0 _ (params_read n m.params w₁.0 w₂.0 l k.few_params k.params w₂.1)
      (then_from _ _ m.result w₃.0 _ (result_reads n before s m.name m.params m.result w₂.0 w₃.0 l k.result k.override w₃.1)
      (then_from _ _ m.height w₄.0 _ (at_most_reads file max_height w₃.0 w₄.0 m.height (omega arith) k.height w₄.1)
      (then_from _ _ m.extras w₅.0 _ (extras_read (length m.params) m.extras w₄.0 w₅.0 k.registers w₅.1)
      (then_from (code_at file code w₅.0) _ m.code w₆.0 _ (code_reads code m.code w₅.0 w₆.0 k.code_fits k.code w₆.1)
      (then_from (handlers_at file handlers w₆.0) _ m.handlers q _ (handlers_read handlers m.handlers w₆.0 q k.handlers_fit k.handlers w₆.2) refl))))))

  module _ (small : AllBytes file) where
    handler_wrote : (p q : ℕ) (h : Handler) → handler_at file p ≡ Ok (h, q) → (handler_keeps h ≡ true) × Stands file p q (handler_bytes h)
    unfolding handler_at
    handler_wrote p q h e =
        then_by (at_most file max_handler_number p) _ h q e (λ first r₁ e₁ f₁.
        then_by (at_most file max_handler_number r₁) _ h q f₁ (λ end r₂ e₂ f₂.
        then_by (at_most file max_operand r₂) _ h q f₂ (λ class r₃ e₃ f₃.
        then_by (at_most file max_handler_number r₃) _ h q f₃ (λ target r₄ e₄ f₄.
        then_by (at_most file max_handler_number r₄) _ h q f₄ (λ depth r₅ e₅ f₅.
        let s₁ = at_most_wrote file small max_handler_number p r₁ first e₁ in
        let s₂ = at_most_wrote file small max_handler_number r₁ r₂ end e₂ in
        let s₃ = at_most_wrote file small max_operand r₂ r₃ class e₃ in
        let s₄ = at_most_wrote file small max_handler_number r₃ r₄ target e₄ in
        let s₅ = at_most_wrote file small max_handler_number r₄ r₅ depth e₅ in
        given (λ h q. (handler_keeps h ≡ true) × Stands file p q (handler_bytes h)) (record { first = first; end = end; class = class; target = target; depth = depth }) h r₅ q f₅ (
          kept_handler _ (record { first = s₁.0; end = s₂.0; class = s₃.0; target = s₄.0; depth = s₅.0 }),
          both file p r₁ r₅ _ _ s₁.1 (both file r₁ r₂ r₅ _ _ s₂.1 (both file r₂ r₃ r₅ _ _ s₃.1 (both file r₃ r₄ r₅ _ _ s₄.1 s₅.1))),
        ))))))

    params_wrote : (n p q : ℕ) (ts : List Ty) → params_at file n p ≡ Ok (ts, q) → (leb (length ts) max_params ≡ true) × (each (type_exists n) ts ≡ true) × Stands file p q (counted_bytes type_bytes ts)
    params_wrote n p q ts e =
        plain_list_wrote file (type_at file n) type_bytes (type_exists n) (λ k. leb k max_params) small (λ p q t. type_wrote file small n p q t) ts p q (sym (at_most_list file (λ _. type_at file n) max_params p) ∙ e)

    result_wrote : (n : ℕ) (before : Program) (s name : ℕ) (params : List Ty) (t : Ty) (p q : ℕ) → result_at file n before s name params p ≡ Ok (t, q)
        → (type_exists n t ≡ true) × (override_keeps before s name params t ≡ true) × Stands file p q (type_bytes t)
    result_wrote n before s name params t p q e =
        let w = then_ok (type_at file n p) _ t q e in
        let v = checked_ok _ _ _ _ w.3 in
        let u = type_wrote file small n p w.1 w.0 w.2 in
        given (λ t q. (type_exists n t ≡ true) × (override_keeps before s name params t ≡ true) × Stands file p q (type_bytes t)) w.0 t w.1 q v.1 (u.0, v.0, u.1)

    extras_wrote : (params k p q : ℕ) → extras_at file params p ≡ Ok (k, q) → (registers_keep params k ≡ true) × Stands file p q (bytes k)
    extras_wrote params k p q e =
        let w = then_ok (any_at file p) _ k q e in
        let v = checked_ok _ _ _ _ w.3 in
        given (λ k q. (registers_keep params k ≡ true) × Stands file p q (bytes k)) w.0 k w.1 q v.1 (v.0, (any_wrote file small p w.1 w.0 w.2).1)

    code_wrote : (used : ℕ) (code : List Instr) (p q : ℕ) → code_at file used p ≡ Ok (code, q) → (code_keeps used (length code) ≡ true) × (each instr_keeps code ≡ true) × Stands file p q (counted_bytes instr_bytes code)
    code_wrote used = plain_list_wrote file (instr_at file) instr_bytes instr_keeps (code_keeps used) small (instr_wrote file small)

    handlers_wrote : (used : ℕ) (hs : List Handler) (p q : ℕ) → handlers_at file used p ≡ Ok (hs, q) → (handlers_keep used (length hs) ≡ true) × (each handler_keeps hs ≡ true) × Stands file p q (counted_bytes handler_bytes hs)
    handlers_wrote used = plain_list_wrote file (handler_at file) handler_bytes handler_keeps (handlers_keep used) small handler_wrote

    pub method_wrote : (n : ℕ) (before : Program) (s : ℕ) (mine : List MethodDecl) (p q : ℕ) (m : MethodDecl) → method_at file n before s mine p ≡ Ok (m, q)
        → (method_keeps n before s mine m ≡ true) × Stands file p q (method_bytes m)
    unfolding method_at
    method_wrote n before s mine p q m e =
        let code_before = program_code before + count_code mine in
        let handlers_before = program_handlers before + count_handlers mine in
        then_by (name_at file method_name mine p) _ m q e (λ name r₁ e₁ f₁.
        then_by (params_at file n r₁) _ m q f₁ (λ params r₂ e₂ f₂.
        then_by (result_at file n before s name params r₂) _ m q f₂ (λ result r₃ e₃ f₃.
        then_by (at_most file max_height r₃) _ m q f₃ (λ height r₄ e₄ f₄.
        then_by (extras_at file (length params) r₄) _ m q f₄ (λ extras r₅ e₅ f₅.
        then_by (code_at file code_before r₅) _ m q f₅ (λ code r₆ e₆ f₆.
        then_by (handlers_at file handlers_before r₆) _ m q f₆ (λ handlers r₇ e₇ f₇.
        let s₁ = name_wrote file small method_name mine p r₁ name e₁ in
        let s₂ = params_wrote n r₁ r₂ params e₂ in
        let s₃ = result_wrote n before s name params result r₂ r₃ e₃ in
        let s₄ = at_most_wrote file small max_height r₃ r₄ height e₄ in
        let s₅ = extras_wrote (length params) extras r₄ r₅ e₅ in
        let s₆ = code_wrote code_before code r₅ r₆ e₆ in
        let s₇ = handlers_wrote handlers_before handlers r₆ r₇ e₇ in
        let made : MethodDecl = record { name = name; params = params; result = result; height = height; extras = extras; code = code; handlers = handlers } in
        given (λ m q. (method_keeps n before s mine m ≡ true) × Stands file p q (method_bytes m)) made m r₇ q f₇ (
          kept_method n before s mine made (record { name = s₁.0; fresh = s₁.1; few_params = s₂.0; params = s₂.1; result = s₃.0; override = s₃.1; height = s₄.0; registers = s₅.0; code_fits = s₆.0; code = s₆.1; handlers_fit = s₇.0; handlers = s₇.1 }),
          both file p r₁ r₇ _ _ s₁.2 (both file r₁ r₂ r₇ _ _ s₂.2 (both file r₂ r₃ r₇ _ _ s₃.2 (both file r₃ r₄ r₇ _ _ s₄.1 (both file r₄ r₅ r₇ _ _ s₅.1 (both file r₅ r₆ r₇ _ _ s₆.2 s₇.2))))),
        ))))))))
