-- The search for a handler, in a table and frame by frame. Assumes nothing.
use Rattle.std.proofs.Common.{◌≡◌, ℕ, ◌+◌, ◌<◌, ◌≤◌, true, false, List, ◌∷◌, length, get_or, drop, Some, None, Option, refl}
use Rattle.std.specs.Prelude.{⊤}
use Rattle.std.proofs.lemmas.List.{drop_more}
use Rattle.std.proofs.lemmas.Bool.{le-leb, lt-leb, lt-ltb, le-ltb}
use Rattle.heap.specs.declared.value.Value.{Value}
use Rattle.heap.specs.Meaning.{Meaning}
use Rattle.jinja.specs.declared.program.Handler.{Handler}
use Rattle.jinja.specs.Classes.{maybe}
use Rattle.jinja.specs.Options.{◌>>=◌}
use Rattle.jinja.specs.Handlers.{lowest}
use Rattle.jinja.specs.Program.{MethodDecl, Program}
use Rattle.jinja.specs.Lookups.{Owned, method_at}
use Rattle.jinja.specs.Step.{Frame as Activation, Next, catches, catcher, catch, unwind}
use Rattle.jinja.proofs.Options.{conflict, some_inj}
use Rattle.tables.specs.Methods.{unowned}
use Rattle.engine.specs.Catching.{looked, catch_top, Lands}

module _ (P : Program) (hs : List Handler) (pc c i : ℕ) (d : Handler) (l : i < length hs) where
  pub catcher_here : catches P (get_or hs i d) pc c ≡ true → catcher P (drop i hs) pc c ≡ Some (get_or hs i d)
  catcher_here e = rw (drop_more hs i d l, e)

  pub catcher_on : catches P (get_or hs i d) pc c ≡ false → catcher P (drop i hs) pc c ≡ catcher P (drop (i + 1) hs) pc c
  catcher_on e = rw (drop_more hs i d l, e)

-- the method of a number, and what it has, by its own record
pub lost_method : (o : Option Owned) → unowned o ≡ None → o ≡ None
lost_method None e = refl
lost_method (Some M) e = cc

pub found_method : (o : Option Owned) {v : MethodDecl} → unowned o ≡ Some v → (M : Owned) × (o ≡ Some M) × (M.method ≡ v)
found_method None e = absurd (conflict e)
found_method (Some M) e = (M, refl, some_inj e)

pub by_method : {X : Type 0} (o : Option Owned) (q : Option MethodDecl) (F : MethodDecl → X) → unowned o ≡ q → maybe o None (λ m. Some (F m.method)) ≡ maybe q None (λ m. Some (F m))
by_method None q F e = rw (← e)
by_method (Some m) q F e = rw (← e)

module _ (P : Program) (h : Meaning) (a c : ℕ) (f : Activation) (rest : List Activation) where
  unwind_lost : (o : Option Owned) (below : Option Next) → None ≡ maybe o None (λ m. Some (catcher P m.method.handlers f.pc c)) → (o >>= λ M. catch P h a M (catcher P M.method.handlers f.pc c) f rest below) ≡ None
  unwind_lost None below e = refl
  unwind_lost (Some M) below e = cc

  unwind_past : (o : Option Owned) (below : Option Next) → Some None ≡ maybe o None (λ m. Some (catcher P m.method.handlers f.pc c)) → (o >>= λ M. catch P h a M (catcher P M.method.handlers f.pc c) f rest below) ≡ below
  unwind_past None below e = cc
  unwind_past (Some M) below e = let n : catcher P M.method.handlers f.pc c ≡ None = cc in rw n

  unwind_here : (o : Option Owned) (below : Option Next) (x : Handler) → Some (Some x) ≡ maybe o None (λ m. Some (catcher P m.method.handlers f.pc c)) → (o >>= λ M. catch P h a M (catcher P M.method.handlers f.pc c) f rest below) ≡ (o >>= λ M. catch P h a M (Some x) f rest None)
  unwind_here None below x e = refl
  unwind_here (Some M) below x e = let n : catcher P M.method.handlers f.pc c ≡ Some x = cc in rw n

  pub lost : None ≡ looked P c f → unwind P h a c (f ∷ rest) ≡ None
  lost e = unwind_lost (method_at P f.method) _ e

  pub past : Some None ≡ looked P c f → unwind P h a c (f ∷ rest) ≡ unwind P h a c rest
  past e = unwind_past (method_at P f.method) _ e

  pub here : (x : Handler) → Some (Some x) ≡ looked P c f → unwind P h a c (f ∷ rest) ≡ catch_top P h a x (f ∷ rest)
  here x e = unwind_here (method_at P f.method) _ x e

module _ (P : Program) (f : Activation) (x : Handler) {M : Owned} (cells : List Value) (e : method_at P f.method ≡ Some M) where
  -- too few cells
  pub lands_short : length f.stack < x.depth → Lands P x f cells None
  lands_short l h a rest = rw (e, lt-leb x.depth (length f.stack) l)

  pub lands_there : {u : ⊤} → x.depth ≤ length f.stack → x.depth < M.method.height → lowest x.depth f.stack ≡ cells → x.target < length M.method.code → Lands P x f cells (Some u)
  lands_there l k q t h a rest = rw (e, le-leb x.depth (length f.stack) l, lt-ltb x.depth M.method.height k, q, lt-ltb x.target (length M.method.code) t)

  -- a target behind the code
  pub lands_past : x.depth ≤ length f.stack → x.depth < M.method.height → length M.method.code ≤ x.target → Lands P x f cells None
  lands_past l k t h a rest = rw (e, le-leb x.depth (length f.stack) l, lt-ltb x.depth M.method.height k, le-ltb x.target (length M.method.code) t)
