-- The steps of a walk to the least solution. Assumes nothing.
use Rattle.std.proofs.Common.{◌≡◌, ℕ, ◌+◌, ◌<◌, true, false, sym, ap, ◌∙◌, subst, ⊎_elim, arith}
use Rattle.std.proofs.lemmas.Bool.{cases_eq, both_ways}
use Rattle.walk.specs.Lattice.{Le}
use Rattle.walk.specs.Flow.{Sent, nothing, sent, Below, Lawful}
use Rattle.walk.specs.Framework.{Framework, nodes}
use Rattle.walk.specs.Solution.{Table, Lands, nothing_lands, row_lands, Unsolvable}
use Rattle.walk.specs.Walking.{Nodes, Begun, Raised, Held, Settled, AllSettled, Inside}
use Rattle.walk.proofs.Order.{le_trans, join_left, join_right, join_least, lands_up, below_lands, sent_inside, sent_good}

module _ (m : Framework) where
  abbrev join : m.Row → m.Row → m.Row
  join = m.join

  pub held_begin : {T : Table m} → Begun m T → Held m T
  held_begin {T} b = record {
    goods = λ i l. ⊎_elim
        (λ (p : i ≡ 0). subst (λ (n : ℕ). m.good (T n)) (sym p) (subst m.good (sym (b.first (omega arith))) m.monotone.good_start))
        (λ (p : i ≡ 0 → ⊥). subst m.good (sym (b.others i (omega arith) l)) m.lattice.good_bottom)
        (cases_eq i 0);
    start = λ l. subst (Le join m.flow.start) (sym (b.first l)) (m.lattice.idem m.flow.start m.monotone.good_start);
    under = λ U sol i l. ⊎_elim
        (λ (p : i ≡ 0). subst (λ (n : ℕ). Le join (T n) (U n)) (sym p) (subst (λ (x : m.Row). Le join x (U 0)) (sym (b.first (omega arith))) (sol.start (omega arith))))
        (λ (p : i ≡ 0 → ⊥). subst (λ (x : m.Row). Le join x (U i)) (sym (b.others i (omega arith) l)) (m.lattice.lowest (U i) (sol.goods i l)))
        (cases_eq i 0);
  }

  -- a node that nothing has reached is settled
  pub settled_first : {T : Table m} (d : Nodes) → Begun m T → d 0 ≡ true → AllSettled m d T
  settled_first {T} d b first j j_in clean =
      ⊎_elim
      (λ (p : j ≡ 0). absurd (both_ways (d j) clean (ap d p ∙ first)))
      (λ (p : j ≡ 0 → ⊥).
      let at = b.others j (omega arith) j_in in (
        ap (m.flow.refused j) at ∙ m.monotone.content j j_in,
        λ f f_in _. subst (Lands m T) (sym (ap (m.flow.sends j f) at ∙ m.monotone.silent j f j_in f_in)) nothing_lands,
      ))
      (cases_eq j 0)

  pub inside_first : (d d' : Nodes) → ((j : ℕ) → d j ≡ false) → ((j : ℕ) → (j ≡ 0 → ⊥) → d' j ≡ d j) → 0 < nodes m → Inside m d'
  inside_first d d' none keeps some j on =
      ⊎_elim
      (λ (p : j ≡ 0). omega arith)
      (λ (p : j ≡ 0 → ⊥). absurd (both_ways (d' j) (keeps j p ∙ none j) on))
      (cases_eq j 0)

  -- node i takes its row, and its edge e sends the row x to node k
  module _ {i e k : ℕ} {x : m.Row} {T : Table m} (goods : (j : ℕ) → j < nodes m → m.good (T j)) (node : i < nodes m) (fine : m.flow.refused i (T i) ≡ false) (edge : e < m.flow.edges i)
      (sends : m.flow.sends i e (T i) ≡ sent k x) where
    lawful : Lawful m.good (nodes m) (sent k x)
    lawful = subst (Lawful m.good (nodes m)) sends (m.monotone.lawful i e (T i) node edge (goods i node) fine)

    pub step_inside : k < nodes m
    step_inside = sent_inside lawful

    pub step_good : m.good x
    step_good = sent_good lawful

    -- and the row is taken in
    module _ {T' : Table m} {d d' : Nodes} (raised : Raised m k x T d T' d') where
      goods_step : (j : ℕ) → j < nodes m → m.good (T' j)
      goods_step j l =
          ⊎_elim
          (λ (p : j ≡ k). subst (λ (n : ℕ). m.good (T' n)) (sym p) (subst m.good (sym raised.here) (m.lattice.good_join (T k) x (goods k step_inside) step_good)))
          (λ (p : j ≡ k → ⊥). subst m.good (sym (raised.other j p)) (goods j l))
          (cases_eq j k)

      rises_step : (j : ℕ) → j < nodes m → Le join (T j) (T' j)
      rises_step j l =
          ⊎_elim
          (λ (p : j ≡ k). subst (λ (n : ℕ). Le join (T n) (T' n)) (sym p) (subst (Le join (T k)) (sym raised.here) (join_left m (T k) x (goods k step_inside) step_good)))
          (λ (p : j ≡ k → ⊥). subst (Le join (T j)) (sym (raised.other j p)) (m.lattice.idem (T j) (goods j l)))
          (cases_eq j k)

      -- what the edge sent lands
      lands_step : Lands m T' (m.flow.sends i e (T i))
      lands_step = subst (Lands m T') (sym sends) (row_lands (subst (Le join x) (sym raised.here) (join_right m (T k) x (goods k step_inside) step_good)))

      -- a node that is not marked afterwards was not before, and its row is as it was
      kept : (j : ℕ) → d' j ≡ false → (d j ≡ false) × (T' j ≡ T j)
      kept j clean =
          ⊎_elim
          (λ (p : j ≡ k). ⊎_elim
          (λ (q : (d' k ≡ true) × (T' k ≡ T k → ⊥)). absurd (both_ways (d' j) clean (ap d' p ∙ q.0)))
          (λ (q : (d' k ≡ d k) × (T' k ≡ T k)). subst (λ (n : ℕ). (d n ≡ false) × (T' n ≡ T n)) (sym p) (sym q.0 ∙ ap d' (sym p) ∙ clean, q.1))
          raised.told)
          (λ (p : j ≡ k → ⊥). (sym (raised.others j p) ∙ clean, raised.other j p))
          (cases_eq j k)

      pub settled_step : Settled m d i e T → Settled m d' i (e + 1) T'
      settled_step settled j j_in clean =
          let was = kept j clean in
          let before = settled j j_in was.0 in (
            ap (m.flow.refused j) was.1 ∙ before.0,
            λ f f_in upto.
                let at : Lands m T' (m.flow.sends j f (T j)) → Lands m T' (m.flow.sends j f (T' j)) = subst (λ (y : m.Row). Lands m T' (m.flow.sends j f y)) (sym was.1) in
                let old : (j ≡ i → f < e) → Lands m T' (m.flow.sends j f (T j)) = λ h.
                lands_up m goods goods_step rises_step (m.monotone.lawful j f (T j) j_in f_in (goods j j_in) before.0) (before.1 f f_in h) in
                let new : j ≡ i → f ≡ e → Lands m T' (m.flow.sends j f (T j)) = λ p q.
                subst (λ (g : ℕ). Lands m T' (m.flow.sends j g (T j))) (sym q) (subst (λ (n : ℕ). Lands m T' (m.flow.sends n e (T n))) (sym p) lands_step) in
                at (⊎_elim
                (λ (p : j ≡ i). ⊎_elim (new p) (λ (q : f ≡ e → ⊥). let u = upto p in old (λ _. omega arith)) (cases_eq f e))
                (λ (p : j ≡ i → ⊥). old (λ h. absurd (p h)))
                (cases_eq j i)),
          )

      pub held_step : Held m T → Held m T'
      held_step held = record {
        goods = goods_step;
        start = λ l. le_trans m m.flow.start (T 0) (T' 0) m.monotone.good_start (goods 0 l) (goods_step 0 l) (held.start l) (rises_step 0 l);
        under = λ U sol j l.
            let below = held.under U sol in
            let sent_U = m.monotone.lawful i e (U i) node edge (sol.goods i node) (sol.taken i node) in
            let less = subst (λ (s : Sent m.Row). Below join s (m.flow.sends i e (U i))) sends (m.monotone.less i e (T i) (U i) node edge (goods i node) (sol.goods i node) (below i node) (sol.taken i node)) in
            let brought : Le join x (U k) = below_lands m sol.goods lawful sent_U less (sol.lands i e node edge) in
            ⊎_elim
            (λ (p : j ≡ k). subst (λ (n : ℕ). Le join (T' n) (U n)) (sym p)
            (subst (λ (y : m.Row). Le join y (U k)) (sym raised.here) (join_least m (T k) x (U k) (goods k step_inside) step_good (sol.goods k step_inside) (below k step_inside) brought)))
            (λ (p : j ≡ k → ⊥). subst (λ (y : m.Row). Le join y (U j)) (sym (raised.other j p)) (below j l))
            (cases_eq j k);
      }

  -- an edge that sends nothing is settled
  pub settled_quiet : {i e : ℕ} {T : Table m} (d : Nodes) → m.flow.sends i e (T i) ≡ nothing → Settled m d i e T → Settled m d i (e + 1) T
  settled_quiet {i} {e} {T} d quiet settled j j_in clean =
      let before = settled j j_in clean in (
        before.0,
        λ f f_in upto. ⊎_elim
            (λ (p : j ≡ i). ⊎_elim
            (λ (q : f ≡ e). subst (λ (g : ℕ). Lands m T (m.flow.sends j g (T j))) (sym q) (subst (λ (n : ℕ). Lands m T (m.flow.sends n e (T n))) (sym p) (subst (Lands m T) (sym quiet) nothing_lands)))
            (λ (q : f ≡ e → ⊥). let u = upto p in before.1 f f_in (λ _. omega arith))
            (cases_eq f e))
            (λ (p : j ≡ i → ⊥). before.1 f f_in (λ h. absurd (p h)))
            (cases_eq j i),
      )

  -- a row that its node refuses: there is no solution
  pub unsolvable_from : {T : Table m} → Held m T → (k : ℕ) → k < nodes m → m.flow.refused k (T k) ≡ true → Unsolvable m
  unsolvable_from {T} held k l e U sol =
      both_ways (m.flow.refused k (T k)) (m.monotone.taken k (T k) (U k) l (held.goods k l) (sol.goods k l) (held.under U sol k l) (sol.taken k l)) e
