-- What the walk keeps from edge to edge. Assumes nothing.
use Rattle.std.proofs.Common.{◌≡◌, ℕ, ◌+◌, ◌<◌, false, sym, ◌∙◌, subst, ⊎_elim, arith}
use Rattle.std.proofs.lemmas.Bool.{cases_eq}
use Rattle.walk.specs.Flow.{nothing, sent}
use Rattle.walk.specs.Framework.{Framework, nodes}
use Rattle.walk.specs.Solution.{Table}
use Rattle.walk.specs.Walking.{Nodes, Raised, Held, Settled, Inside, Midway}
use Rattle.walk.proofs.Theory.{step_inside, step_good, held_step, settled_step, settled_quiet}
use Rattle.walk.proofs.Weight.{weight_raised}

module _ (m : Framework) where
  -- midway at edge e of node i
  module _ {i e : ℕ} {T : Table m} {d : Nodes} (held : Held m T) (settled : Settled m d i e T) (inside : Inside m d) where
    -- the edge sends nothing
    pub midway_quiet : m.flow.sends i e (T i) ≡ nothing → Midway m i (e + 1) T d T d
    midway_quiet quiet = record { held = held; settled = settled_quiet m d quiet settled; inside = inside; less = omega arith }

    -- the edge sends the row x to node k
    module _ (node : i < nodes m) (clean : d i ≡ false) (edge : e < m.flow.edges i) {k : ℕ} {x : m.Row} (sends : m.flow.sends i e (T i) ≡ sent k x) where
      goods : (j : ℕ) → j < nodes m → m.good (T j)
      goods = held.goods

      fine : m.flow.refused i (T i) ≡ false
      fine = (settled i node clean).0

      pub edge_inside : k < nodes m
      edge_inside = step_inside m goods node fine edge sends

      pub midway_raised : {T' : Table m} {d' : Nodes} → Raised m k x T d T' d' → Midway m i (e + 1) T d T' d'
      midway_raised raised = record {
        held = held_step m goods node fine edge sends raised held;
        settled = settled_step m goods node fine edge sends raised settled;
        inside = λ j p. ⊎_elim (λ (q : j ≡ k). subst (λ (n : ℕ). n < nodes m) (sym q) edge_inside) (λ (q : j ≡ k → ⊥). inside j (sym (raised.others j q) ∙ p)) (cases_eq j k);
        less = weight_raised m edge_inside (goods k edge_inside) (step_good m goods node fine edge sends) raised;
      }
