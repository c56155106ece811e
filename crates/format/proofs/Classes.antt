-- Fields and classes in a file.
use Rattle.std.proofs.Common.{◌≡◌, ℕ, ◌+◌, ◌<◌, ◌≤◌, true, List, length, Ok, refl, arith}
use Rattle.std.proofs.lemmas.Bool.{leb-true, ltb-true}
use Rattle.number.specs.Laws.{AllBytes}
use Rattle.number.specs.Numbers.{number_limit, bytes}
use Rattle.jinja.specs.declared.program.Field.{Field}
use Rattle.jinja.specs.Program.{ClassDecl, Program}
use Rattle.jinja.specs.Classes.{is_class}
use Rattle.format.specs.Encode.{type_bytes, field_bytes, method_bytes, class_bytes, counted_bytes}
use Rattle.format.specs.Rules.{field_name, field_keeps, method_keeps, class_keeps, fields_keep, methods_keep}
use Rattle.format.specs.Reading.{any_at}
use Rattle.format.specs.Parse.{type_at, name_at, field_at, superclass_at, fields_at, methods_at, method_at, class_at}
use Rattle.format.proofs.Steps.{Stands, given, both, split, then_ok, then_by, then_from, checked_ok, checked_from}
use Rattle.format.proofs.Numbers.{any_reads, any_wrote, name_reads, name_wrote, type_reads, type_wrote}
use Rattle.format.proofs.Lists.{list_reads, list_wrote}
use Rattle.format.proofs.Kept.{field_kept, kept_field, class_kept, kept_class}
use Rattle.format.proofs.Methods.{method_reads, method_wrote}

module _ (file : List ℕ) where
  field_reads : (n : ℕ) → 4 + n < number_limit → (mine : List Field) (p q : ℕ) (f : Field) → field_keeps n mine f ≡ true → Stands file p q (field_bytes f) → field_at file n mine p ≡ Ok (f, q)
  field_reads n l mine p q f fk s =
      let k = field_kept n mine f fk in
      let w = split file p q (bytes f.name) (type_bytes f.ty) s in
      then_from _ _ f.name w.0 _ (name_reads file field_name mine p w.0 f.name k.name k.fresh w.1)
      (then_from _ _ f.ty q _ (type_reads file n w.0 q f.ty l k.exists w.2) refl)

  superclass_reads : (before : Program) (s p q : ℕ) → length before ≤ 28 → is_class before s ≡ true → Stands file p q (bytes s) → superclass_at file before p ≡ Ok (s, q)
  superclass_reads before s p q few h st = then_from _ _ s q _ (any_reads file p q s (omega (arith, ltb-true _ _ h)) st) (checked_from _ _ _ _ h refl)

  pub class_reads : (n : ℕ) → 4 + n < number_limit → (before : Program) (p q : ℕ) (c : ClassDecl) → length before ≤ 28 → class_keeps n before c ≡ true → Stands file p q (class_bytes c) → class_at file n before p ≡ Ok (c, q)
  unfolding class_at
  class_reads n l before p q c few ck st =
      let s = c.superclass in
      let k = class_kept n before c ck in
      let w = split file p q (bytes s) _ st in
      let v = split file w.0 q (counted_bytes field_bytes c.fields) _ w.2 in
      then_from _ _ s w.0 _ (superclass_reads before s p w.0 few k.superclass w.1)
      (then_from _ _ c.fields v.0 _
      (list_reads file (field_at file n) field_bytes (field_keeps n) (fields_keep before s) (field_reads n l) c.fields w.0 v.0 (omega (arith, leb-true _ _ k.fields_fit)) k.fields_fit k.fields v.1)
      (then_from _ _ c.methods q _
      (list_reads file (method_at file n before s) method_bytes (method_keeps n before s) (methods_keep before) (method_reads file n before s l) c.methods v.0 q (omega (arith, leb-true _ _ k.methods_fit)) k.methods_fit k.methods v.2)
      refl))

  module _ (small : AllBytes file) where
    field_wrote : (n : ℕ) (mine : List Field) (p q : ℕ) (f : Field) → field_at file n mine p ≡ Ok (f, q) → (field_keeps n mine f ≡ true) × Stands file p q (field_bytes f)
    field_wrote n mine p q f e =
        then_by (name_at file field_name mine p) _ f q e (λ name r₁ e₁ f₁.
        then_by (type_at file n r₁) _ f q f₁ (λ ty r₂ e₂ f₂.
        let s₁ = name_wrote file small field_name mine p r₁ name e₁ in
        let s₂ = type_wrote file small n r₁ r₂ ty e₂ in
        given (λ f q. (field_keeps n mine f ≡ true) × Stands file p q (field_bytes f)) (record { name = name; ty = ty }) f r₂ q f₂
        (kept_field n mine _ (record { name = s₁.0; fresh = s₁.1; exists = s₂.0 }), both file p r₁ r₂ _ _ s₁.2 s₂.1)))

    superclass_wrote : (before : Program) (s p q : ℕ) → superclass_at file before p ≡ Ok (s, q) → (is_class before s ≡ true) × Stands file p q (bytes s)
    superclass_wrote before s p q e =
        let w = then_ok (any_at file p) _ s q e in
        let v = checked_ok _ _ _ _ w.3 in
        given (λ s q. (is_class before s ≡ true) × Stands file p q (bytes s)) w.0 s w.1 q v.1 (v.0, (any_wrote file small p w.1 w.0 w.2).1)

    pub class_wrote : (n : ℕ) (before : Program) (p q : ℕ) (c : ClassDecl) → class_at file n before p ≡ Ok (c, q) → (class_keeps n before c ≡ true) × Stands file p q (class_bytes c)
    unfolding class_at
    class_wrote n before p q c e =
        then_by (superclass_at file before p) _ c q e (λ s r₁ e₁ f₁.
        then_by (fields_at file n before s r₁) _ c q f₁ (λ fields r₂ e₂ f₂.
        then_by (methods_at file n before s r₂) _ c q f₂ (λ methods r₃ e₃ f₃.
        let s₁ = superclass_wrote before s p r₁ e₁ in
        let s₂ = list_wrote file (field_at file n) field_bytes (field_keeps n) (fields_keep before s) small (field_wrote n) fields r₁ r₂ e₂ in
        let s₃ = list_wrote file (method_at file n before s) method_bytes (method_keeps n before s) (methods_keep before) small (method_wrote file small n before s) methods r₂ r₃ e₃ in
        given (λ c q. (class_keeps n before c ≡ true) × Stands file p q (class_bytes c)) (record { superclass = s; fields = fields; methods = methods }) c r₃ q f₃ (
          kept_class n before _ (record { superclass = s₁.0; fields_fit = s₂.0; fields = s₂.1; methods_fit = s₃.0; methods = s₃.1 }),
          both file p r₁ r₃ _ _ s₁.1 (both file r₁ r₂ r₃ _ _ s₂.2 s₃.2),
        ))))
