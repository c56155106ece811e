-- The receiver and the arguments of a call, on a stack of types. Assumes nothing.
use Rattle.std.proofs.Common.{◌≡◌, ℕ, zero, suc, ◌+◌, ◌-◌, ◌<◌, ◌≤◌, Bool, true, false, ◌&&◌, List, [], ◌∷◌, ◌++◌, map, reverse, length, get_or, take, drop, IfSome, Some, None, Option, sym, refl, ap, ◌∙◌, arith}
use Rattle.std.proofs.lemmas.List.{append-nil, append_assoc, reverse-append, drop-map, drop_more, drop_all, get_or-reverse, get_or-take, get_or-drop, length-reverse, length-take-le}
use Rattle.jinja.specs.declared.ty.Ty.{Ty}
use Rattle.jinja.specs.declared.ty.Ty.TheVariants.{Class}
use Rattle.jinja.specs.Program.{MethodDecl, Program}
use Rattle.jinja.specs.Transfer.{type_le, types_le, can_push, send_call}
use Rattle.jinja.specs.Types.{type_of_number}
use Rattle.jinja.specs.Classes.{maybe}
use Rattle.jinja.specs.Options.{◌>>=◌, ◌>>◌}
use Rattle.jinja.specs.Lookups.{Owned, method_at, sees}
use Rattle.jinja.specs.Rows.{Cell}
use Rattle.jinja.specs.Rule.{operands, taken, operands_of, next}
use Rattle.stack.specs.Stacked.{held}
use Rattle.tables.specs.Methods.{unowned}
use Rattle.type_rows.specs.Calling.{arguments, call_operands, SeenType, called}
use Rattle.type_rows.specs.Numbers.{types_in}

after_drop : {A : Type 0} (i : ℕ) (l : List A) {x : A} {r : List A} → drop i l ≡ x ∷ r → drop (suc i) l ≡ r
after_drop zero [] e = absurd (let z = ap length e in omega arith)
after_drop zero (a ∷ l) e = cc
after_drop (suc i) [] e = absurd (let z = ap length e in omega arith)
after_drop (suc i) (a ∷ l) e = after_drop i l e

-- a number that was seen on the stack
pub seen_type : (xs : List ℕ) (h i n : ℕ) (rest : List ℕ) → drop i (held xs h) ≡ n ∷ rest → drop i (types_in xs h) ≡ type_of_number n ∷ drop (suc i) (types_in xs h)
seen_type xs h i n rest e =
    drop-map type_of_number i (held xs h) ∙ ap (map type_of_number) e
    ∙ ap (λ (l : List Ty). type_of_number n ∷ l) (ap (map type_of_number) (sym (after_drop i (held xs h) e)) ∙ sym (drop-map type_of_number (suc i) (held xs h)))

taken_are : (n : ℕ) (st acc : List Ty) {t : Ty} {rest : List Ty} → drop n st ≡ t ∷ rest → taken n st acc ≡ Some (operands (reverse (take n st) ++ acc) t rest)
taken_are zero st acc e = rw e
taken_are (suc n) [] acc e = absurd (let z = ap length e in omega arith)
taken_are (suc n) (a ∷ st) acc {t} {rest} e =
    taken_are n st (a ∷ acc) e
    ∙ ap (λ (l : List Ty). Some (operands l t rest)) (sym (append_assoc (reverse (take n st)) (a ∷ []) acc) ∙ ap (λ (l : List Ty). l ++ acc) (sym (reverse-append (a ∷ []) (take n st))))

-- what a call takes where there is a receiver
pub operands_are : (n : ℕ) (st : List Ty) (t : Ty) → drop n st ≡ t ∷ drop (suc n) st → operands_of n st ≡ Some (call_operands n st t)
operands_are n st t e = taken_are n st [] e ∙ ap (λ (l : List Ty). Some (operands l t (drop (suc n) st))) (append-nil (arguments n st))

taken_none : (n : ℕ) (st acc : List Ty) → length st ≤ n → taken n st acc ≡ None
taken_none zero [] acc l = refl
taken_none zero (a ∷ st) acc l = absurd (omega arith)
taken_none (suc n) [] acc l = refl
taken_none (suc n) (a ∷ st) acc l = taken_none n st (a ∷ acc) (omega arith)

pub no_operands : (n : ℕ) (st : List Ty) → length st ≤ n → operands_of n st ≡ None
no_operands n st l = taken_none n st [] l

pub arguments_length : (n : ℕ) (st : List Ty) → n ≤ length st → length (arguments n st) ≡ n
arguments_length n st l = length-reverse (take n st) ∙ length-take-le n st l

-- the argument j was pushed before n - 1 - j others
pub argument_at : (n : ℕ) (st : List Ty) (j : ℕ) (t : Ty) (rest : List Ty) → n ≤ length st → j < n → drop (n - 1 - j) st ≡ t ∷ rest → drop j (arguments n st) ≡ t ∷ drop (j + 1) (arguments n st)
argument_at n st j t rest l k e =
    let a = arguments_length n st l in
    let b = length-take-le n st l in
    let i : length (take n st) - 1 - j ≡ n - 1 - j = omega arith in
    let z : n - 1 - j ≡ n - 1 - j + 0 = omega arith in
    let g : get_or (arguments n st) j t ≡ t =
    get_or-reverse (take n st) j t (omega arith) ∙ ap (λ x. get_or (take n st) x t) i ∙ get_or-take n st (n - 1 - j) t (omega arith)
    ∙ ap (λ x. get_or st x t) z ∙ sym (get_or-drop (n - 1 - j) st 0 t) ∙ ap (λ (y : List Ty). get_or y 0 t) e in
    drop_more (arguments n st) j t (omega arith) ∙ ap (λ (x : Ty). x ∷ drop (j + 1) (arguments n st)) g

-- the parameters of a method and of what it is declared as
pub params_unowned : (o : Option Owned) (p : Option MethodDecl) → unowned o ≡ p → maybe p [] (λ m. m.params) ≡ maybe o [] (λ N. N.method.params)
params_unowned None p e = rw (← e)
params_unowned (Some N) p e = rw (← e)

pub lengths_differ : (P : Program) (xs ys : List Ty) → (length xs ≡ length ys → ⊥) → types_le P xs ys ≡ false
lengths_differ P [] [] ne = absurd (ne refl)
lengths_differ P [] (y ∷ ys) ne = refl
lengths_differ P (x ∷ xs) [] ne = refl
lengths_differ P (x ∷ xs) (y ∷ ys) ne = rw (lengths_differ P xs ys (λ e. ne (ap suc e))) (and_false (type_le P x y))
  where
    and_false : (b : Bool) → (b && false) ≡ false
    and_false true = refl
    and_false false = refl

-- from the j-th argument on
module _ (P : Program) (n : ℕ) (st params : List Ty) (j : ℕ) (t : Ty) (rest : List Ty) (d : Ty) (l : n ≤ length st) (k : j < n) (long : length params ≡ n) (e : drop (n - 1 - j) st ≡ t ∷ rest) where
  one_argument : types_le P (drop j (arguments n st)) (drop j params) ≡ (type_le P t (get_or params j d) && types_le P (drop (j + 1) (arguments n st)) (drop (j + 1) params))
  one_argument = rw (argument_at n st j t rest l k e, drop_more params j d (omega arith))

  pub argument_fits : type_le P t (get_or params j d) ≡ true → types_le P (drop (j + 1) (arguments n st)) (drop (j + 1) params) ≡ types_le P (drop j (arguments n st)) (drop j params)
  argument_fits b = sym (one_argument ∙ ap (λ (x : Bool). x && types_le P (drop (j + 1) (arguments n st)) (drop (j + 1) params)) b)

  pub argument_fails : type_le P t (get_or params j d) ≡ false → types_le P (drop j (arguments n st)) (drop j params) ≡ false
  argument_fails b = one_argument ∙ ap (λ (x : Bool). x && types_le P (drop (j + 1) (arguments n st)) (drop (j + 1) params)) b

pub all_fit : (P : Program) (xs ys : List Ty) (j : ℕ) → length xs ≤ j → length ys ≤ j → types_le P (drop j xs) (drop j ys) ≡ true
all_fit P xs ys j l k = rw (drop_all j xs l, drop_all j ys k)

pub record Receiver (st : List Ty) (n : ℕ) (r : Option Ty) : Type 0 where
  pub are : operands_of n st ≡ maybe r None (λ t. Some (call_operands n st t))
  pub held : IfSome r (λ t. n < length st)

pub receiver_seen : (st : List Ty) (n : ℕ) (r : Option Ty) → SeenType st n r → Receiver st n r
receiver_seen st n None s = record { are = no_operands n st s; held = tt }
receiver_seen st n (Some t) s = record { are = operands_are n st t s; held = longer n st s }
  where
    longer : (n : ℕ) (st : List Ty) {t : Ty} {rest : List Ty} → drop n st ≡ t ∷ rest → n < length st
    longer zero [] e = absurd (let z = ap length e in omega arith)
    longer zero (a ∷ st) e = omega arith
    longer (suc n) [] e = absurd (let z = ap length e in omega arith)
    longer (suc n) (a ∷ st) e = let l = longer n st e in omega arith

-- a call by the number of the method
pub call_sent : (P : Program) (M : Owned) (m pc c k : ℕ) (lt : List Cell) (args rest : List Ty) → sees P c m ≡ Some k → send_call P M m pc lt (operands args (Class c) rest) ≡ called P M k pc lt args rest
call_sent P M m pc c k lt args rest e = rw e (go (method_at P k))
  where
    go : (o : Option Owned) → (o >>= λ N. types_le P args N.method.params >> (can_push M rest >> Some (next pc (N.method.result ∷ rest) lt))) ≡ (maybe o None (λ N. Some N.method.result) >>= λ t. types_le P args (maybe o [] (λ N. N.method.params)) >> (can_push M rest >> Some (next pc (t ∷ rest) lt)))
    go None = refl
    go (Some N) = refl
