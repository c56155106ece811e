-- Faults come in file order: each item of a file is read the same where more stands behind the file.
use Rattle.std.proofs.Common.{◌≡◌, ℕ, ◌+◌, ◌<◌, ◌≤◌, Bool, true, false, eqb, ltb, leb, ◌⊎◌, List, [], ◌++◌, length, take, drop, ℤ, Ok, Err, Result, sym, refl, ap, ◌∙◌, subst, inl, inr, arith}
use Rattle.std.proofs.lemmas.List.{length-append, length-drop, length-take-le, take_all, take-append-drop}
use Rattle.std.proofs.lemmas.Bool.{cases_Bool, cases_eq, cases_lt, cond-false, leb-false, lt-leb}
use Rattle.number.specs.declared.fault.NumberFault.TheVariants.{Cut, Padded, Oversize}
use Rattle.number.specs.Numbers.{most_groups}
use Rattle.number.specs.Signed.{signed}
use Rattle.jinja.specs.declared.ty.Ty.{Ty}
use Rattle.jinja.specs.declared.instr.Instr.{Instr}
use Rattle.jinja.specs.declared.instr.Instr.TheVariants.{Load, Store, Push, Pop, New, Getfield, Putfield, Checkcast, Invoke, Return, IAdd, CmpEq, IfFalse, Goto, Throw}
use Rattle.jinja.specs.declared.instr.Literal.TheVariants.{Unit, Null, Boolean, Integer}
use Rattle.jinja.specs.Types.{type_of_number}
use Rattle.jinja.specs.Classes.{is_class}
use Rattle.jinja.specs.declared.program.Field.{Field}
use Rattle.jinja.specs.Program.{MethodDecl, Program}
use Rattle.format.specs.declared.fault.TableFault.{TableFault}
use Rattle.format.specs.declared.fault.TableFault.TheVariants.{Number, Outside, Unknown, Classless, Twice, Override, LeftOver}
use Rattle.format.specs.Faults.{table_fault_number, table_fault_place}
use Rattle.format.specs.Limits.{max_classes, max_params, max_height, max_name, max_operand, max_handler_number, max_offset}
use Rattle.format.specs.Encode.{encode}
use Rattle.format.specs.Rules.{unused, field_name, method_name, registers_keep, code_keeps, handlers_keep, fields_keep, methods_keep, override_keeps, count_code, count_handlers, program_code, program_handlers}
use Rattle.format.specs.Reading.{Read, then, any_at, at_most}
use Rattle.format.specs.Parse.{type_at, name_at, boolean_at, literal_at, one, named, jump, instr_at, handler_at, field_at, params_at, result_at, extras_at, method_at, class_at, classes_at, ended, parse}
use Rattle.format.specs.Laws.{PlacesWithin, FaultsAreFirst, FaultsStay, BeginningsAreCut}
use Rattle.format.proofs.Lists.{list_at}
use Rattle.format.proofs.Counting.{ok_same, err_same}
use Rattle.format.proofs.Growing.{From, Goes, gives, refuses, cuts, One, Runs, one_step, checked_one, number_then, step_then, run_ends, rest_gives, rest_refuses, rest_runs, rest_cond, rest_checked, counted_run, any_one, at_most_one}
use Rattle.format.proofs.RoundTrip.{ended_ok, written_is_read}

-- the classes of a file, before its end is looked at
abbrev all_classes : List ℕ → Read Program
all_classes file = then (at_most file max_classes 0) (λ k q. classes_at file (4 + k) k [] q)

module _ (file more : List ℕ) where
  abbrev longer : List ℕ
  longer = file ++ more

  -- an item's reading, of both files
  abbrev Along : {A : Type 0} → (ℕ → Read A) → (ℕ → Read A) → Type 0
  Along item item' = (p : ℕ) → Runs (length file) p (item p) (item' p)

  any : (p : ℕ) → One (length file) p (any_at file p) (any_at longer p)
  any = any_one file more

  at_most_runs : (most : ℕ) → Along (at_most file most) (at_most longer most)
  at_most_runs most p = one_step (at_most_one file more most p)

  type_one : (n p : ℕ) → One (length file) p (type_at file n p) (type_at longer n p)
  type_one n p = checked_one (λ t. ltb t (4 + n)) type_of_number (Classless p) refl (any p)

  name_runs : {A : Type 0} (name : A → ℕ) (mine : List A) → Along (name_at file name mine) (name_at longer name mine)
  name_runs name mine p = one_step (checked_one (λ n. unused name n mine) (λ n. n) (Twice p) refl (at_most_one file more max_name p))

  boolean_runs : Along (boolean_at file) (boolean_at longer)
  boolean_runs p = number_then (any p) (λ b q m. rest_cond (eqb b 0) (rest_gives false m) (rest_cond (eqb b 1) (rest_gives true m) (rest_refuses (Unknown p) refl m)))

  literal_runs : Along (literal_at file) (literal_at longer)
  literal_runs p =
      number_then (any p) (λ k q m.
      rest_cond (eqb k 0) (rest_gives Unit m)
      (rest_cond (eqb k 1) (rest_gives Null m)
      (rest_cond (eqb k 2) (rest_runs m (step_then (boolean_runs q) (λ b r. run_ends (Boolean b) r)))
      (rest_cond (eqb k 3) (rest_runs m (step_then (one_step (any q)) (λ n r. run_ends (Integer (signed n)) r))) (rest_refuses (Unknown p) refl m)))))

  one_runs : (make : ℕ → Instr) → Along (one file make) (one longer make)
  one_runs make q = step_then (at_most_runs max_operand q) (λ n r. run_ends (make n) r)

  named_runs : (make : ℕ → ℕ → Instr) → Along (named file make) (named longer make)
  named_runs make q = step_then (at_most_runs max_name q) (λ a r. one_runs (make a) r)

  jump_runs : (make : ℤ → Instr) → Along (jump file make) (jump longer make)
  jump_runs make q = step_then (at_most_runs max_offset q) (λ n r. run_ends (make (signed n)) r)

  instr_runs : Along (instr_at file) (instr_at longer)
  instr_runs p =
      number_then (any p) (λ k q m.
      rest_cond (eqb k 0) (rest_runs m (one_runs Load q))
      (rest_cond (eqb k 1) (rest_runs m (one_runs Store q))
      (rest_cond (eqb k 2) (rest_runs m (step_then (literal_runs q) (λ v r. run_ends (Push v) r)))
      (rest_cond (eqb k 3) (rest_gives Pop m)
      (rest_cond (eqb k 4) (rest_runs m (one_runs New q))
      (rest_cond (eqb k 5) (rest_runs m (named_runs Getfield q))
      (rest_cond (eqb k 6) (rest_runs m (named_runs Putfield q))
      (rest_cond (eqb k 7) (rest_runs m (one_runs Checkcast q))
      (rest_cond (eqb k 8) (rest_runs m (named_runs Invoke q))
      (rest_cond (eqb k 9) (rest_gives Return m)
      (rest_cond (eqb k 10) (rest_gives IAdd m)
      (rest_cond (eqb k 11) (rest_gives CmpEq m)
      (rest_cond (eqb k 12) (rest_runs m (jump_runs IfFalse q))
      (rest_cond (eqb k 13) (rest_runs m (jump_runs Goto q))
      (rest_cond (eqb k 14) (rest_gives Throw m) (rest_refuses (Unknown p) refl m))))))))))))))))

  handler_runs : Along (handler_at file) (handler_at longer)
  unfolding handler_at
  handler_runs p =
      step_then (at_most_runs max_handler_number p) (λ first q.
      step_then (at_most_runs max_handler_number q) (λ end r.
      step_then (at_most_runs max_operand r) (λ class t.
      step_then (at_most_runs max_handler_number t) (λ target u.
      step_then (at_most_runs max_handler_number u) (λ depth v. run_ends _ v)))))

  field_runs : (n : ℕ) (mine : List Field) → Along (field_at file n mine) (field_at longer n mine)
  field_runs n mine p = step_then (name_runs field_name mine p) (λ f q. step_then (one_step (type_one n q)) (λ t r. run_ends _ r))

  params_run : (n : ℕ) → Along (params_at file n) (params_at longer n)
  params_run n p = step_then (at_most_runs max_params p) (λ k q. counted_run (λ _ r. one_step (type_one n r)) k [] q)

  result_runs : (n : ℕ) (before : Program) (s name : ℕ) (params : List Ty) → Along (result_at file n before s name params) (result_at longer n before s name params)
  result_runs n before s name params p = one_step (checked_one (override_keeps before s name params) (λ t. t) (Override p) refl (type_one n p))

  extras_run : (params : ℕ) → Along (extras_at file params) (extras_at longer params)
  extras_run params p = one_step (checked_one (registers_keep params) (λ k. k) (Outside p) refl (any p))

  -- a count that passes a test, and that many items
  list_runs : {A : Type 0} (item item' : List A → ℕ → Read A) (test : ℕ → Bool) → ((acc : List A) → Along (item acc) (item' acc)) → Along (list_at file item test) (list_at longer item' test)
  list_runs item item' test law p = number_then (any p) (λ k q m. rest_checked (test k) (Outside p) refl m (rest_runs m (counted_run law k [] q)))

  method_runs : (n : ℕ) (before : Program) (s : ℕ) (mine : List MethodDecl) → Along (method_at file n before s mine) (method_at longer n before s mine)
  unfolding method_at
  method_runs n before s mine p =
      step_then (name_runs method_name mine p) (λ name q.
      step_then (params_run n q) (λ params r.
      step_then (result_runs n before s name params r) (λ result t.
      step_then (at_most_runs max_height t) (λ height u.
      step_then (extras_run (length params) u) (λ extras v.
      step_then (list_runs (λ _. instr_at file) (λ _. instr_at longer) (code_keeps (program_code before + count_code mine)) (λ _. instr_runs) v) (λ code w.
      step_then (list_runs (λ _. handler_at file) (λ _. handler_at longer) (handlers_keep (program_handlers before + count_handlers mine)) (λ _. handler_runs) w) (λ handlers x. run_ends _ x)))))))

  class_runs : (n : ℕ) (before : Program) → Along (class_at file n before) (class_at longer n before)
  unfolding class_at
  class_runs n before p =
      step_then (one_step (checked_one (is_class before) (λ s. s) (Classless p) refl (any p))) (λ s q.
      step_then (list_runs (field_at file n) (field_at longer n) (fields_keep before s) (field_runs n) q) (λ fields r.
      step_then (list_runs (method_at file n before s) (method_at longer n before s) (methods_keep before) (method_runs n before s) r) (λ methods t. run_ends _ t)))

  classes_go : Goes (length file) (all_classes file) (all_classes longer)
  unfolding classes_at
  classes_go = (step_then (at_most_runs max_classes 0) (λ k q. counted_run (class_runs (4 + k)) k [] q)).along (omega arith)

-- a fault of the shorter file
fault_goes : {A : Type 0} {n : ℕ} {x y : Read A} (f : TableFault) → Goes n x y → x ≡ Err f → (table_fault_place f ≤ n) × ((table_fault_number f ≡ 1 → ⊥) → y ≡ Err f)
fault_goes f (gives l) e = cc
fault_goes {n = n} f (refuses {f = g} l) e = (subst (λ f. table_fault_place f ≤ n) (err_same e) l, λ _. e)
fault_goes {n = n} f (cuts {p = p} l short from) e = let s : Number (Cut p) ≡ f = err_same e in (subst (λ f. table_fault_place f ≤ n) s l, λ other. absurd (other (ap table_fault_number (sym s))))

-- what the shorter file gives
given_goes : {A : Type 0} {n : ℕ} {x y : Read A} (a : A) (q : ℕ) → Goes n x y → x ≡ Ok (a, q) → (q ≤ n) × (y ≡ Ok (a, q))
given_goes {n = n} a q (gives {a = b} {q = r} l) e = let s = ok_same (b, r) (a, q) e in (subst (λ (z : _ × ℕ). z.1 ≤ n) s l, ap Ok s)
given_goes a q (refuses l) e = cc
given_goes a q (cuts l short from) e = cc

-- a file is refused at a class, or behind its classes
ended_err : (file : List ℕ) (x : Read Program) (f : TableFault) → ended file x ≡ Err f → (x ≡ Err f) ⊎ ((P : Program) × (q : ℕ) × (x ≡ Ok (P, q)) × (q < length file) × (LeftOver q ≡ f))
ended_err file (Ok r) f e = elim (cases_Bool (leb (length file) r.1)) [
  | inl t ↦ cc (rw t at e)
  | inr t ↦ inr (r.0, r.1, refl, leb-false _ _ t, err_same {A = Program} (rw t at e))
]
ended_err file (Err g) f e = inl (ap Err (err_same e))

left_over : (file : List ℕ) (P : Program) (q : ℕ) → q < length file → ended file (Ok (P, q)) ≡ Err (LeftOver q)
left_over file P q l = cond-false (leb (length file) q) _ _ (lt-leb _ _ l)

pub places_within : PlacesWithin
unfolding parse
places_within file f e = elim (ended_err file (all_classes file) f e) [
  | inl h ↦ (fault_goes f (classes_go file []) h).0
  | inr h ↦ subst (λ f. table_fault_place f ≤ length file) h.4 (let l = h.3 in omega arith)
]

-- a fault of the longer file, where a number at its place stands in the shorter one
settled : {A : Type 0} {n : ℕ} {x y : Read A} (f : TableFault) → Goes n x y → n ≡ table_fault_place f + most_groups → y ≡ Err f → x ≡ Err f
settled f (gives l) h e = e
settled f (refuses l) h e = e
settled {n = n} f (cuts {p = p} l short from) h e = let w : p ≤ table_fault_place f = subst (From p) e from in absurd (omega arith)

-- the same of what it gives
given_early : {A : Type 0} {n : ℕ} {x y : Read A} (a : A) (q : ℕ) → Goes n x y → n ≡ q + most_groups → y ≡ Ok (a, q) → x ≡ Ok (a, q)
given_early a q (gives l) h e = e
given_early a q (refuses l) h e = e
given_early a q (cuts {p = p} l short from) h e = let w : p ≤ q = subst (From p) e from in absurd (omega arith)

first_fault : (file more : List ℕ) (f : TableFault) → length file ≡ table_fault_place f + most_groups → parse (file ++ more) ≡ Err f → parse file ≡ Err f
unfolding parse
first_fault file more f h e = elim (ended_err (file ++ more) (all_classes (file ++ more)) f e) [
  | inl w ↦ ap (ended file) (settled f (classes_go file more) h w)
  | inr w ↦
      (let place : w.1 ≡ table_fault_place f = ap table_fault_place w.4 in
      let early = given_early w.0 w.1 (classes_go file more) (omega arith) w.2 in
      ap (ended file) early ∙ (left_over file w.0 w.1 (omega arith) ∙ ap Err w.4))
]

pub faults_are_first : FaultsAreFirst
faults_are_first file f e =
    let m = table_fault_place f + most_groups in
    elim (cases_lt m (length file)) [
      | inl l ↦ first_fault (take m file) (drop m file) f (length-take-le m file (omega arith)) (ap parse (take-append-drop m file) ∙ e)
      | inr l ↦ ap parse (take_all m file l) ∙ e
    ]

pub faults_stay : FaultsStay
unfolding parse
faults_stay file more f e other = elim (ended_err file (all_classes file) f e) [
  | inl h ↦ ap (ended (file ++ more)) ((fault_goes f (classes_go file more) h).1 other)
  | inr h ↦
      (let longer = (given_goes h.0 h.1 (classes_go file more) h.2).1 in
      ap (ended (file ++ more)) longer ∙ (left_over (file ++ more) h.0 h.1 (omega (arith, h.3, length-append file more)) ∙ ap Err h.4))
]

one_is_cut : (f : TableFault) → table_fault_number f ≡ 1 → (p : ℕ) × (f ≡ Number (Cut p))
one_is_cut (Number (Cut p)) e = (p, refl)
one_is_cut (Number (Padded p)) e = absurd (omega arith)
one_is_cut (Number (Oversize p)) e = absurd (omega arith)
one_is_cut (Outside p) e = absurd (omega arith)
one_is_cut (Unknown p) e = absurd (omega arith)
one_is_cut (Classless p) e = absurd (omega arith)
one_is_cut (Twice p) e = absurd (omega arith)
one_is_cut (Override p) e = absurd (omega arith)
one_is_cut (LeftOver p) e = absurd (omega arith)

-- of a file that is read, nothing shorter is
cut_off : (file more : List ℕ) (P : Program) → 0 < length more → parse (file ++ more) ≡ Ok P → (p : ℕ) × (parse file ≡ Err (Number (Cut p)))
unfolding parse
cut_off file more P some e = go (parse file) refl
  where
    go : (r : Result Program TableFault) → parse file ≡ r → (p : ℕ) × (r ≡ Err (Number (Cut p)))
    go (Ok Q) h =
        let w = ended_ok file (all_classes file) Q h in
        let v = given_goes Q w.0 (classes_go file more) w.1 in
        let over = left_over (file ++ more) Q w.0 (omega (arith, v.0, length-append file more)) in
        cc (ap (ended (file ++ more)) v.1, over)
    go (Err f) h = elim (cases_eq (table_fault_number f) 1) [
      | inl one ↦ (let w = one_is_cut f one in (w.0, ap Err w.1))
      | inr other ↦ cc (faults_stay file more f h other)
    ]

pub beginnings_are_cut : BeginningsAreCut
beginnings_are_cut P n kept l =
    let whole = take-append-drop n (encode P) in
    cut_off (take n (encode P)) (drop n (encode P)) P (omega (arith, length-drop n (encode P))) (ap parse whole ∙ written_is_read P kept)
